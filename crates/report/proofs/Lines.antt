-- A place in a text, and the line that it stands in.
use Rattle.std.proofs.Common.{◌≡◌, ℕ, zero, suc, ◌+◌, ◌-◌, ◌<◌, ◌≤◌, cond, eqb, ◌⊎◌, List, [], ◌∷◌, length, take, drop, count_by, sym, refl, ap, ◌∙◌, ⊎_elim, inl, inr, add-one, arith}
use Rattle.std.proofs.lemmas.List.{get_or-take, get_or-drop, length-take, length-drop, take_more}
use Rattle.std.proofs.lemmas.List.Sums.{fold-append}
use Rattle.text.specs.Names.{byte}
use Rattle.report.specs.Lines.{LineOf, newlines}

-- the newlines in front of a place
newlines_is : (s : List ℕ) (n : ℕ) → n ≤ length s → count_by (λ b. eqb b 10) (take n s) ≡ newlines s n
newlines_is s zero h = refl
newlines_is s (suc n) h =
    ap (λ m. count_by (λ b. eqb b 10) (take m s)) (sym (add-one n))
    ∙ ap (count_by (λ b. eqb b 10)) (take_more s n 0 (omega arith))
    ∙ fold-append _ 0 (take n s) (byte s n ∷ [])
    ∙ ap (λ m. m + cond (eqb (byte s n) 10) 1 0) (newlines_is s n (omega arith))

module _ (s front back : List ℕ) (i line start len : ℕ) (l : i ≤ length s) (p : front ≡ take i s) (q : back ≡ drop i s) where
  before : (k : ℕ) → k < i → byte front k ≡ byte s k
  before k h = ap (λ z. byte z k) p ∙ get_or-take i s k 0 h

  behind : (k : ℕ) → byte back k ≡ byte s (i + k)
  behind k = ap (λ z. byte z k) q ∙ get_or-drop i s k 0

  pub line_of : line ≡ count_by (λ b. eqb b 10) front → start ≤ length front → ((start ≡ 0) ⊎ ((k : ℕ) × (suc k ≡ start) × (byte front k ≡ 10))) → ((k : ℕ) → start ≤ k → k < length front → byte front k ≡ 10 → ⊥) → len ≤ length back → ((k : ℕ) → k < len → byte back k ≡ 10 → ⊥) → (len < length back → byte back len ≡ 10) → LineOf s i (line + 1) (i - start + 1) start (i + len)
  line_of n a b c d e f =
      let long : length front ≡ i = ap length p ∙ length-take i s ∙ (omega arith) in
      let rest : length back ≡ length s - i = ap length q ∙ length-drop i s in
      record {
        counted = ap (λ m. m + 1) (n ∙ ap (count_by (λ b. eqb b 10)) p ∙ newlines_is s i l);
        behind = omega (arith, long);
        begins = ⊎_elim inl (λ z. inr (z.0, z.1, sym (before z.0 (omega (arith, long, z.1))) ∙ z.2)) b;
        before = λ k h m g. c k h (omega (arith, long)) (before k m ∙ g);
        across = refl;
        after = omega arith;
        within = omega (arith, rest);
        inside = λ k h m g. let at : i + (k - i) ≡ k = omega arith in e (k - i) (omega arith) (behind (k - i) ∙ ap (byte s) at ∙ g);
        ends = λ h. sym (behind len) ∙ f (omega (arith, rest));
      }
