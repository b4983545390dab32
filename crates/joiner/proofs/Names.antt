-- Names that are looked up.
use Rattle.std.proofs.Common.{◌≡◌, ℕ, ◌<◌, true, false, ◌&&◌, List, Some, None, Option, sym, ap, ⊎_elim, arith, MatchOption}
use Rattle.std.specs.Str.{bytes_eq}
use Rattle.std.proofs.lemmas.Slice.Eq.{bytes_eq-Decides}
use Rattle.std.proofs.lemmas.Bool.{ne_eqb, cases_Bool}
use Rattle.bundle.specs.declared.opened.Bundle.{Bundle}
use Rattle.bundle.specs.Layout.{count, name}
use Rattle.bundle.specs.Entries.{Goes}
use Rattle.bundle.proofs.Opening.{opened, each_lies}
use Rattle.catalogue.specs.declared.records.ConnectionRecord.{ConnectionRecord}
use Rattle.joiner.specs.Meaning.{entry_of, far_named, mentions}
use Rattle.joiner.proofs.Search.{first_none, first_some}

pub same_true : (xs ys : List ℕ) → xs ≡ ys → bytes_eq xs ys ≡ true
same_true xs ys e = (bytes_eq-Decides xs ys).1 e

pub same_false : (xs ys : List ℕ) → (xs ≡ ys → ⊥) → bytes_eq xs ys ≡ false
same_false xs ys h = ⊎_elim (λ t. absurd (h ((bytes_eq-Decides xs ys).0 t))) (λ f. f) (cases_Bool (bytes_eq xs ys))

-- a connection of another text mentions nothing of this one
pub other_text : (s : List ℕ) (e : ℕ) (n : List ℕ) (c : ConnectionRecord) → (c.entry ≡ e → ⊥) → mentions s e n c ≡ false
other_text s e n c h = ap (λ t. t && far_named s e n c.far) (ne_eqb c.entry e h)

-- the entry of a name in a bundle
module _ (b : Bundle) (n : List ℕ) where
  abbrev bytes : List ℕ
  bytes = b.bytes.now

  -- an entry below the count that has the name goes by it
  goes : (k : ℕ) → k < count bytes → name bytes k ≡ n → Goes b n k
  goes k l e = record { lies = each_lies b (opened b) k (rw b.counted l); named = e }

  -- what looking the name up finds
  pub entry_is : (r : Option ℕ) → MatchOption r ((k : ℕ) → Goes b n k → ⊥) (λ k. Goes b n k × ((j : ℕ) → j < k → Goes b n j → ⊥)) → r ≡ entry_of bytes n
  entry_is None h = sym (first_none (λ j. bytes_eq (name bytes j) n) (count bytes) (λ j l. same_false _ _ (λ e. h j (goes j l e))))
  entry_is (Some k) h =
      let l : k < count bytes = omega (arith, h.0.lies.below, b.counted) in
      sym (first_some (λ j. bytes_eq (name bytes j) n) (count bytes) k l (same_true _ _ h.0.named) (λ j m. same_false _ _ (λ e. h.1 j m (goes j (omega arith) e))))
