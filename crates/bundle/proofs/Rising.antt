-- Names rise over the whole table of contents, so no two entries go by one name.
use Rattle.std.proofs.Common.{◌≡◌, ℕ, zero, suc, ◌-◌, ◌<◌, List, subst, ⊎_elim, arith}
use Rattle.std.proofs.lemmas.Bool.{cases_lt, cases_order}
use Rattle.text.specs.Orders.{Before}
use Rattle.text.proofs.Comparing.{before_trans, before_irrefl}
use Rattle.bundle.specs.Layout.{Layout, count, name}

next_rises : (s : List ℕ) → Layout s → (j : ℕ) → suc j < count s → Before (name s j) (name s (suc j))
next_rises s lay j h =
    let at : suc j - 1 ≡ j = omega arith in
    subst (λ i. Before (name s i) (name s (suc j))) at ((lay.stands (suc j) h).rises (omega arith))

pub names_rise : (s : List ℕ) → Layout s → (i j : ℕ) → i < j → j < count s → Before (name s i) (name s j)
names_rise s lay i zero l h = absurd (omega arith)
names_rise s lay i (suc j) l h =
    ⊎_elim
    (λ m. before_trans _ _ _ (names_rise s lay i j m (omega arith)) (next_rises s lay j h))
    (λ m. let at : j ≡ i = omega arith in subst (λ k. Before (name s k) (name s (suc j))) at (next_rises s lay j h))
    (cases_lt i j)

pub one_name : (s : List ℕ) → Layout s → (i j : ℕ) → i < count s → j < count s → name s i ≡ name s j → i ≡ j
one_name s lay i j a b e =
    ⊎_elim (λ same. same)
    (⊎_elim
    (λ l. absurd (before_irrefl (name s j) (subst (λ n. Before n (name s j)) e (names_rise s lay i j l b))))
    (λ l. absurd (before_irrefl (name s j) (subst (λ n. Before (name s j) n) e (names_rise s lay j i l a)))))
    (cases_order i j)
