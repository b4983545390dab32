-- What reading rows gives.
use Rattle.std.proofs.Common.{◌≡◌, ℕ, zero, suc, ◌+◌, ◌-◌, ◌<◌, ◌≤◌, eqb, List, [], ◌∷◌, length, take, sym, refl, ap, ◌∙◌, arith}
use Rattle.std.specs.List.{between}
use Rattle.std.proofs.lemmas.List.Edits.{length-between, get_or-between}
use Rattle.std.proofs.lemmas.Bool.{cond-true, cond-false, eq-eqb, ne_eqb}
use Rattle.text.specs.Names.{byte}
use Rattle.bundle.specs.Layout.{unpadded}

-- the first n bytes are not zero, and a zero or the end follows
pub unpadded_is : (bs : List ℕ) (n : ℕ) → n ≤ length bs → ((k : ℕ) → k < n → byte bs k ≡ 0 → ⊥) → (n < length bs → byte bs n ≡ 0) → take n bs ≡ unpadded bs
unfolding unpadded
unpadded_is [] zero h some end = refl
unpadded_is [] (suc n) h some end = absurd (omega arith)
unpadded_is (b ∷ bs) zero h some end = sym (cond-true (eqb b 0) _ _ (eq-eqb b 0 (end (omega arith))))
unpadded_is (b ∷ bs) (suc n) h some end =
    ap (λ l. b ∷ l) (unpadded_is bs n (omega arith) (λ k l. some (suc k) (omega arith)) (λ l. end (omega arith)))
    ∙ sym (cond-false (eqb b 0) _ _ (ne_eqb b 0 (some 0 (omega arith))))

-- each byte of a part is zero, said of the part and of the whole
pub zeros_from_part : (s : List ℕ) (a b : ℕ) → b ≤ length s → ((j : ℕ) → j < length (between a b s) → byte (between a b s) j ≡ 0) → (j : ℕ) → a ≤ j → j < b → byte s j ≡ 0
zeros_from_part s a b w h j l m =
    let at : a + (j - a) ≡ j = omega arith in
    let inside : a + (j - a) < b = omega arith in
    sym (get_or-between s a b (j - a) 0 inside ∙ ap (byte s) at) ∙ h (j - a) (omega (arith, length-between s a b w))

pub part_from_zeros : (s : List ℕ) (a b : ℕ) → b ≤ length s → ((j : ℕ) → a ≤ j → j < b → byte s j ≡ 0) → (j : ℕ) → j < length (between a b s) → byte (between a b s) j ≡ 0
part_from_zeros s a b w h j l =
    let inside : a + j < b = omega (arith, length-between s a b w) in
    get_or-between s a b j 0 inside ∙ h (a + j) (omega arith) (omega arith)
