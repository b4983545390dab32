-- The first number that passes a test.
use Rattle.std.proofs.Common.{◌≡◌, ℕ, zero, suc, ◌<◌, Bool, true, false, cond, Some, None, Option, sym, refl, ap, ◌∙◌, ⊎_elim, arith, MatchOption}
use Rattle.std.specs.Option.{option_or}
use Rattle.std.proofs.lemmas.Bool.{cases_lt, cond-true, cond-false}
use Rattle.joiner.specs.Search.{first_below}

module _ (P : ℕ → Bool) where
  -- none passes
  pub first_none : (n : ℕ) → ((j : ℕ) → j < n → P j ≡ false) → first_below P n ≡ None
  unfolding first_below
  first_none zero h = refl
  first_none (suc n) h = ap (λ o. option_or o (cond (P n) (Some n) None)) (first_none n (λ j l. h j (omega arith))) ∙ cond-false (P n) (Some n) None (h n (omega arith))

  -- i passes, and none before it
  pub first_some : (n i : ℕ) → i < n → P i ≡ true → ((j : ℕ) → j < i → P j ≡ false) → first_below P n ≡ Some i
  unfolding first_below
  first_some zero i l e h = absurd (omega arith)
  first_some (suc n) i l e h =
      ⊎_elim (λ m. ap (λ o. option_or o (cond (P n) (Some n) None)) (first_some n i m e h))
      (λ m.
      let at : i ≡ n = omega arith in
      let before : (j : ℕ) → j < n → P j ≡ false = λ j k. h j (omega arith) in
      ap (λ o. option_or o (cond (P n) (Some n) None)) (first_none n before) ∙ cond-true (P n) (Some n) None (ap P (sym at) ∙ e) ∙ ap Some (sym at))
      (cases_lt i n)

-- tests that agree below n find the same
pub first_same : (P Q : ℕ → Bool) (n : ℕ) → ((j : ℕ) → j < n → P j ≡ Q j) → first_below P n ≡ first_below Q n
unfolding first_below
first_same P Q zero h = refl
first_same P Q (suc n) h = let a = first_same P Q n (λ j l. h j (omega arith)) in let b = h n (omega arith) in simp (a, b)

-- what is found passes, and nothing before it; where nothing is found, nothing passes
abbrev pub Found : (ℕ → Bool) → ℕ → Option ℕ → Type 0
Found P n o = MatchOption o ((j : ℕ) → j < n → P j ≡ false) (λ i. (i < n) × (P i ≡ true) × ((j : ℕ) → j < i → P j ≡ false))

pub first_found : (P : ℕ → Bool) (n : ℕ) → Found P n (first_below P n)
unfolding first_below
first_found P zero = λ j l. absurd (omega arith)
first_found P (suc n) = go (first_below P n) (first_found P n) (P n) refl
  where
    go : (o : Option ℕ) → Found P n o → (b : Bool) → P n ≡ b → Found P (suc n) (option_or o (cond b (Some n) None))
    go (Some i) h b e = (omega (arith, h.0), h.1, h.2)
    go None h true e = (omega arith, e, h)
    go None h false e = λ j l. ⊎_elim (λ m. h j m) (λ m. let at : j ≡ n = omega arith in ap P at ∙ e) (cases_lt j n)
