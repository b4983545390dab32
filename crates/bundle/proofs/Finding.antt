-- Looking a name up among those that the iterator over the entries gives.
use Rattle.std.proofs.Common.{◌≡◌, ℕ, suc, ◌-◌, ◌<◌, List, [], ◌∷◌, map, length, get_or, Option, Some, None, MatchOption, sym, ap, ◌∙◌, arith}
use Rattle.std.specs.List.{AllWithin, HoldsAt, range_with_len}
use Rattle.std.proofs.lemmas.Iterator.{YieldsList}
use Rattle.std.proofs.lemmas.Iterator.Consumers.{YieldsList-from_shown}
use Rattle.std.proofs.lemmas.List.FromFn.{length-map-range_with_len, get_or-map-range_with_len}
use Rattle.bundle.specs.declared.opened.Bundle.{Bundle}
use Rattle.bundle.specs.declared.opened.Entry.{Entry}
use Rattle.bundle.specs.declared.opened.Entries.{Entries}
use Rattle.bundle.specs.Layout.{name}
use Rattle.bundle.specs.Entries.{Goes, NextEntry}
use Rattle.bundle.proofs.Opening.{opened, each_lies}
use Rattle.bundle.proofs.Rising.{one_name}

-- the names of the entries that are left
abbrev pub names_left : Entries → List (List ℕ)
names_left s = map (name s.bundle.bytes.now) (range_with_len s.next (s.bundle.entries - s.next))

long : (s : Entries) → length (names_left s) ≡ s.bundle.entries - s.next
long s = length-map-range_with_len (name s.bundle.bytes.now) s.next (s.bundle.entries - s.next)

pub gives_names : (s : Entries) → YieldsList NextEntry (λ e. e.name.now) s (names_left s)
gives_names = YieldsList-from_shown NextEntry (λ e. e.name.now) names_left last next
  where
    last : (s t : Entries) → NextEntry s None t → length (names_left s) ≡ 0
    last s t h = omega (arith, long s, h.1.0)

    next : (s : Entries) (x : Entry) (t : Entries) → NextEntry s (Some x) t → names_left s ≡ x.name.now ∷ names_left t
    next s x t h =
        let left : s.bundle.entries - s.next ≡ suc (s.bundle.entries - t.next) = omega (arith, h.1.0.lies.below, h.1.1) in
        ap (λ n. map (name s.bundle.bytes.now) (range_with_len s.next n)) left
        ∙ (λ i. sym h.1.0.named i ∷ map (name (sym h.0 i).bytes.now) (range_with_len (sym h.1.1 i) ((sym h.0 i).entries - t.next)))

-- what the first of all names that is n says of the entries
abbrev pub First : Bundle → List ℕ → Option ℕ → Type 0
First b n r = MatchOption r ((k : ℕ) → Goes b n k → ⊥) (λ k. Goes b n k × ((j : ℕ) → j < k → Goes b n j → ⊥))

module _ (s : Entries) (z : s.next ≡ 0) (n : List ℕ) where
  at : (k : ℕ) → k < s.bundle.entries → get_or (names_left s) k [] ≡ name s.bundle.bytes.now k
  at k l = get_or-map-range_with_len (name s.bundle.bytes.now) s.next (s.bundle.entries - s.next) k k [] (omega (arith, z)) (omega (arith, z))

  pub first_named : (r : Option ℕ) → MatchOption r (AllWithin (λ m. m ≡ n → ⊥) (names_left s) 0 (length (names_left s))) (λ i. (i < length (names_left s)) × HoldsAt (λ m. m ≡ n) (names_left s) i × AllWithin (λ m. m ≡ n → ⊥) (names_left s) 0 i) → First s.bundle n r
  first_named None h = λ k g. h k [] (omega arith) (omega (arith, long s, z, g.lies.below)) (at k g.lies.below ∙ g.named)
  first_named (Some i) h =
      let below : i < s.bundle.entries = omega (arith, h.0, long s, z) in (
        record { lies = each_lies s.bundle (opened s.bundle) i below; named = sym (at i below) ∙ h.1 [] },
        λ j l g. h.2 j [] (omega arith) l (at j g.lies.below ∙ g.named),
      )

pub only_one : (b : Bundle) (n : List ℕ) (r : Option ℕ) → First b n r → (k : ℕ) → Goes b n k → r ≡ Some k
only_one b n None h k g = absurd (h k g)
only_one b n (Some i) h k g =
    ap Some (one_name b.bytes.now b.layout i k (omega (arith, b.counted, h.0.lies.below)) (omega (arith, b.counted, g.lies.below)) (h.0.named ∙ sym g.named))
