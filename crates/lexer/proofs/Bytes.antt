-- The bytes of a text, one by one and in parts.
use Rattle.std.proofs.Common.{◌≡◌, ℕ, ◌+◌, ◌<◌, ◌≤◌, List, ◌∷◌, length, sym, ap, ◌∙◌, add-zero, arith}
use Rattle.std.specs.List.{between}
use Rattle.std.proofs.lemmas.List.Edits.{length-between, get_or-between}
use Rattle.text.specs.Names.{byte}

-- the part from i on
module _ (s : List ℕ) (i : ℕ) where
  pub first_byte : (j : ℕ) → i < j → byte (between i j s) 0 ≡ byte s i
  first_byte j h = get_or-between s i j 0 0 (omega arith) ∙ ap (byte s) (add-zero i)

  pub begins : (j b : ℕ) (bs : List ℕ) → i < j → between i j s ≡ (b ∷ bs) → byte s i ≡ b
  begins j b bs h e = sym (first_byte j h) ∙ ap (λ l. byte l 0) e

  pub long : (j : ℕ) (bs : List ℕ) → i < j → j ≤ length s → between i j s ≡ bs → j ≡ i + length bs
  long j bs l m e = omega (arith, length-between s i j m, ap length e)
