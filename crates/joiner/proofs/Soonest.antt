-- The first of what is left open.
use Rattle.std.proofs.Common.{◌≡◌, ℕ, ◌<◌, ◌≤◌, Bool, true, false, cond, ◌&&◌, eqb, ltb, ◌⊎◌, Some, None, Option, refl, subst, inl, inr, ⊎_elim, arith, MatchOption}
use Rattle.std.proofs.lemmas.Bool.{cases_lt, cases_order, ltb-true, eqb-true, lt-ltb, eq-eqb, and_parts, and_from, or_cases, both_ways, or_left, or_right}
use Rattle.fault.specs.declared.Place.{Place}
use Rattle.wellformed.specs.Places.{Sooner}
use Rattle.joiner.specs.Opens.{FirstPlace, is_sooner, sooner_of}
use Rattle.joiner.proofs.Order.{never_sooner, sooner_on, one_way, cases_place}

sooner_true : (x y : Place) → is_sooner x y ≡ true → Sooner x y
sooner_true x y e =
    ⊎_elim (λ a. inl (ltb-true x.entry y.entry a))
    (λ a. let b = and_parts (eqb x.entry y.entry) (ltb x.byte y.byte) a in inr (eqb-true x.entry y.entry b.0, ltb-true x.byte y.byte b.1))
    (or_cases (ltb x.entry y.entry) (eqb x.entry y.entry && ltb x.byte y.byte) e)

true_sooner : (x y : Place) → Sooner x y → is_sooner x y ≡ true
true_sooner x y (inl l) = or_left (ltb x.entry y.entry) _ (lt-ltb x.entry y.entry l)
true_sooner x y (inr h) = or_right (ltb x.entry y.entry) _ (and_from _ _ (eq-eqb x.entry y.entry h.0) (lt-ltb x.byte y.byte h.1))

-- the soonest place at which P holds, or none where it holds nowhere
abbrev pub Least : (Place → Type 0) → Option Place → Type 0
Least P o = MatchOption o ((y : Place) → P y → ⊥) (λ x. P x × ((y : Place) → P y → Sooner y x → ⊥))

-- one of the places of n items at which P holds
pub record Some_at (P : ℕ → Type 0) (at : ℕ → Place) (n : ℕ) (y : Place) : Type 0 where
  pub item : ℕ
  pub below : item < n
  pub holds : P item
  pub is : y ≡ at item

-- where places rise, the first is the soonest
pub least_first : (P : ℕ → Type 0) (at : ℕ → Place) (n : ℕ) (o : Option Place) → ((i j : ℕ) → i < j → j < n → Sooner (at i) (at j)) → FirstPlace P at n o → Least (Some_at P at n) o
least_first P at n None rise h = λ y k. h k.item k.below k.holds
least_first P at n (Some x) rise h = (
  record { item = h.0; below = h.1; holds = h.2; is = h.3 },
  λ y k s.
      let sooner : Sooner (at k.item) (at h.0) = subst (λ (z : Place). Sooner z (at h.0)) k.is (subst (λ (z : Place). Sooner y z) h.3 s) in
      ⊎_elim (λ (l : k.item < h.0). h.4 k.item l k.holds)
      (λ (l : h.0 ≤ k.item). ⊎_elim
      (λ (e : k.item ≡ h.0). never_sooner (at h.0) (subst (λ (i : ℕ). Sooner (at i) (at h.0)) e sooner))
      (λ e. ⊎_elim (λ (m : k.item < h.0). absurd (omega arith)) (λ (m : h.0 < k.item). one_way _ _ sooner (rise h.0 k.item m k.below)) e)
      (cases_order k.item h.0))
      (cases_lt k.item h.0),
)

-- the sooner of the soonest is the soonest
pub least_both : (P Q : Place → Type 0) (a b : Option Place) → Least P a → Least Q b → Least (λ y. P y ⊎ Q y) (sooner_of a b)
least_both P Q None None h k = λ y r. ⊎_elim (h y) (k y) r
least_both P Q None (Some y) h k = (inr k.0, λ z r s. ⊎_elim (h z) (λ q. k.1 z q s) r)
least_both P Q (Some x) None h k = (inl h.0, λ z r s. ⊎_elim (λ p. h.1 z p s) (k z) r)
least_both P Q (Some x) (Some y) h k = go (is_sooner y x) (sooner_true y x) (true_sooner y x)
  where
    -- what is sooner than the sooner one is sooner than either
    go : (t : Bool) → (t ≡ true → Sooner y x) → (Sooner y x → t ≡ true) → Least (λ z. P z ⊎ Q z) (cond t (Some y) (Some x))
    go true a b = (inr k.0, λ z r s. ⊎_elim (λ p. h.1 z p (sooner_on z y x s (a refl))) (λ q. k.1 z q s) r)
    go false a b = (inl h.0, λ z r s. ⊎_elim (λ p. h.1 z p s) (λ q. later z s q) r)
      where
        later : (z : Place) → Sooner z x → Q z → ⊥
        later z s q = ⊎_elim (λ (u : Sooner x y). k.1 z q (sooner_on z x y s u))
            (λ u. ⊎_elim (λ (e : x ≡ y). k.1 z q (subst (λ (w : Place). Sooner z w) e s)) (λ (v : Sooner y x). both_ways false refl (b v)) u)
            (cases_place x y)
