-- What a source that is read at a place tells of all of them.
use Rattle.std.proofs.Common.{◌≡◌, ℕ, ◌+◌, ◌<◌, ◌≤◌, Bool, true, false, List, [], length, get_or, take, MatchBool, sym, ap, ◌∙◌, arith}
use Rattle.std.specs.List.{AllWithin, HoldsAt}
use Rattle.std.proofs.lemmas.List.{get_or-map, get_or-take, length-take-le}
use Rattle.std.proofs.lemmas.List.Sums.{sum_by_more, sum_by-take-le}
use Rattle.packer.specs.declared.source.Source.{Source}
use Rattle.packer.specs.Rules.{name_of, text_of, bytes, New, Taken}

-- what is read past the last source
abbrev pub blank : Source
blank = record { name = record { ref_ptr = (0, 0); now = [] }; text = record { ref_ptr = (0, 0); now = [] } }

-- the i-th source, as it is read
pub name_read : (ss : List Source) (i : ℕ) → i < length ss → (get_or ss i blank).name.now ≡ name_of ss i
name_read ss i l = sym (get_or-map (λ s. s.name.now) ss i blank [] l)

pub text_read : (ss : List Source) (i : ℕ) → i < length ss → (get_or ss i blank).text.now ≡ text_of ss i
text_read ss i l = sym (get_or-map (λ s. s.text.now) ss i blank [] l)

-- whether one of the sources before the i-th has its name, asked of each of those
pub asked_before : (ss : List Source) (i : ℕ) (r : Bool) → i < length ss → MatchBool r (AllWithin (λ s. s.name.now ≡ name_of ss i → ⊥) (take i ss) 0 (length (take i ss))) ((j : ℕ) × (j < length (take i ss)) × HoldsAt (λ s. s.name.now ≡ name_of ss i) (take i ss) j) → MatchBool r (New ss i) (Taken ss i)
asked_before ss i true l h = λ j m e.
    h j blank (omega arith) (omega (arith, length-take-le i ss)) (ap (λ s. s.name.now) (get_or-take i ss j blank m) ∙ name_read ss j (omega arith) ∙ e)
asked_before ss i false l h =
    let m : h.0 < i = omega (arith, h.1, length-take-le i ss) in
    (h.0, m, sym (name_read ss h.0 (omega arith)) ∙ sym (ap (λ s. s.name.now) (get_or-take i ss h.0 blank m)) ∙ h.2 blank)

-- one more text, and all of them
pub bytes_more : (ss : List Source) (i : ℕ) → i < length ss → bytes (take (i + 1) ss) ≡ bytes (take i ss) + length (text_of ss i)
bytes_more ss i l =
    sum_by_more (λ s. length s.text.now) ss i blank l
    ∙ ap (λ t. bytes (take i ss) + length t) (text_read ss i l)

pub bytes_within : (ss : List Source) (i : ℕ) → bytes (take i ss) ≤ bytes ss
bytes_within ss i = sum_by-take-le (λ s. length s.text.now) ss i

-- what a loop over sources knows of the one that it reads, for `grind`
pub ruleset source_read = (name_read, text_read, bytes_more)
