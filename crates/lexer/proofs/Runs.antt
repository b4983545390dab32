-- A token that stands at a place: a whole run of letters and digits, `..` or one byte.
use Rattle.std.proofs.Common.{◌≡◌, ℕ, ◌+◌, ◌-◌, ◌<◌, ◌≤◌, true, false, List, [], ◌∷◌, sym, ap, ◌∙◌, subst, arith}
use Rattle.std.specs.Char.{is_ascii_alphanumeric}
use Rattle.std.specs.List.{between}
use Rattle.std.proofs.lemmas.Bool.{both_ways}
use Rattle.std.proofs.lemmas.List.Edits.{length-between, get_or-between}
use Rattle.text.specs.Names.{byte, Word}
use Rattle.lexer.specs.declared.tokens.Token.{Token}
use Rattle.lexer.specs.Gaps.{Pair}
use Rattle.lexer.specs.Tokens.{Spells, Stands}
use Rattle.lexer.proofs.Bytes.{begins, long}
use Rattle.lexer.proofs.Sorts.{Form, word, dots, sign, form, mark, mark_other}

-- what stands at i, if a token stands from there to j
pub data Shape (s : List ℕ) (i j : ℕ) : Type 0 where
  run : is_ascii_alphanumeric (byte s i) ≡ true → ((k : ℕ) → i ≤ k → k < j → is_ascii_alphanumeric (byte s k) ≡ true) → is_ascii_alphanumeric (byte s j) ≡ false → Shape s i j
  two : Pair 46 46 s i → j ≡ i + 2 → Shape s i j
  single : mark (byte s i) ≡ true → between i j s ≡ (byte s i ∷ []) → j ≡ i + 1 → Shape s i j

module _ (s : List ℕ) (i j : ℕ) (t : Token) (h : Stands s i j t) where
  inside : Word (between i j s) → (k : ℕ) → i ≤ k → k < j → is_ascii_alphanumeric (byte s k) ≡ true
  inside w k a b =
      let e : i + (k - i) ≡ k = omega arith in
      sym (ap is_ascii_alphanumeric (get_or-between s i j (k - i) 0 (omega arith) ∙ ap (byte s) e)) ∙ w (k - i) (omega (arith, length-between s i j h.within))

  form_shape : Form (between i j s) → Shape s i j
  form_shape (word w) = let first = inside w i (omega arith) h.after in run first (inside w) (h.whole first)
  form_shape (dots d) =
      let far = long s i j _ h.after h.within d in
      two (begins s i j _ _ h.after d, sym (get_or-between s i j 1 0 (omega arith)) ∙ ap (λ l. byte l 1) d) far
  form_shape (sign b m d) =
      let first = begins s i j b [] h.after d in
      single (ap mark first ∙ m) (d ∙ ap (λ c. c ∷ []) (sym first)) (long s i j _ h.after h.within d)

  pub shape : Shape s i j
  shape = form_shape (form (between i j s) t h.spells)

-- a token that stands in front
module _ (s : List ℕ) (j : ℕ) (t : Token) (h : Stands s 0 j t) where
  -- one that begins with a letter or a digit is the whole run
  pub run_token : (e : ℕ) → is_ascii_alphanumeric (byte s 0) ≡ true → ((k : ℕ) → k < e → is_ascii_alphanumeric (byte s k) ≡ true) → is_ascii_alphanumeric (byte s e) ≡ false → Spells (between 0 e s) t
  run_token e first all ends =
      let f = shape s 0 j t h in
      let same : j ≡ e = grind (arith, both_ways, mark_other, all j) in
      subst (λ k. Spells (between 0 k s) t) same h.spells

  -- one that begins with another byte, and is not `..`, is that byte
  pub mark_token : is_ascii_alphanumeric (byte s 0) ≡ false → (Pair 46 46 s 0 → ⊥) → Spells (byte s 0 ∷ []) t
  mark_token other apart =
      let f = shape s 0 j t h in
      let same : between 0 j s ≡ (byte s 0 ∷ []) = grind (arith, both_ways, apart) in
      subst (λ l. Spells l t) same h.spells
