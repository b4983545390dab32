-- The laws of the order of names.
use Rattle.std.proofs.Common.{◌≡◌, ℕ, ◌<◌, ◌⊎◌, List, [], ◌∷◌, Ordering, Less, Equal, Greater, sym, refl, ap, ◌∙◌, subst, inl, inr, ⊎_elim, arith}
use Rattle.std.specs.Cmp.{IsTotalOrder}
use Rattle.std.specs.Cmp.Lexicographic.{slice_cmp, pointwise, nat_list_cmp_total, texts_ties}
use Rattle.std.specs.Bool.{nat_eq}
use Rattle.std.specs.Ordering.{nat_cmp, eq_by_cmp, ordering_then}
use Rattle.std.proofs.lemmas.Bool.Decides.{nat_tests}
use Rattle.std.proofs.lemmas.Bool.{cases_order}
use Rattle.text.specs.Orders.{order, Before}

-- how two heads compare decides, unless they are the same
pub order_less : (x y : ℕ) (xs ys : List ℕ) → x < y → order (x ∷ xs) (y ∷ ys) ≡ Less
unfolding order
order_less x y xs ys h = grind (arith, nat_tests)

pub order_greater : (x y : ℕ) (xs ys : List ℕ) → y < x → order (x ∷ xs) (y ∷ ys) ≡ Greater
unfolding order
order_greater x y xs ys h = grind (arith, nat_tests)

pub order_next : (x y : ℕ) (xs ys : List ℕ) → x ≡ y → order (x ∷ xs) (y ∷ ys) ≡ order xs ys
unfolding order
order_next x y xs ys h = grind (arith, nat_tests)

-- how two heads compare, and then the rest if they are the same, is the order
heads_order : (x y : ℕ) (xs ys : List ℕ) → ordering_then (nat_cmp x y) (order xs ys) ≡ order (x ∷ xs) (y ∷ ys)
unfolding order
heads_order x y xs ys = grind (arith, nat_tests)

-- what `cmp` answers of two slices is the order
pub cmp_order : (xs ys : List ℕ) → slice_cmp nat_cmp xs ys ≡ order xs ys
unfolding order
cmp_order [] [] = refl
cmp_order [] (y ∷ ys) = refl
cmp_order (x ∷ xs) [] = refl
cmp_order (x ∷ xs) (y ∷ ys) = ap (ordering_then (nat_cmp x y)) (cmp_order xs ys) ∙ heads_order x y xs ys

-- it is a total order, which tells apart just what `==` of two slices does
pub order_total : IsTotalOrder order
order_total = subst IsTotalOrder (λ i xs ys. cmp_order xs ys i) nat_list_cmp_total

pub order_ties : (xs ys : List ℕ) → pointwise nat_eq xs ys ≡ eq_by_cmp order xs ys
order_ties = subst (λ (R : List ℕ → List ℕ → Ordering). (xs ys : List ℕ) → pointwise nat_eq xs ys ≡ eq_by_cmp R xs ys) (λ i xs ys. cmp_order xs ys i) texts_ties

pub order_same : (xs : List ℕ) → order xs xs ≡ Equal
unfolding order
order_same [] = refl
order_same (x ∷ xs) = order_next x x xs xs refl ∙ order_same xs

pub same_order : (xs ys : List ℕ) → order xs ys ≡ Equal → xs ≡ ys
unfolding order
same_order [] [] h = refl
same_order [] (y ∷ ys) h = absurd (let z : ◌≡◌ {A = ℕ} 0 1 = cc in omega arith)
same_order (x ∷ xs) [] h = absurd (let z : ◌≡◌ {A = ℕ} 0 1 = cc in omega arith)
same_order (x ∷ xs) (y ∷ ys) h =
    ⊎_elim (λ e. let rest = same_order xs ys (sym (order_next x y xs ys e) ∙ h) in cc)
    (⊎_elim
    (λ l. let e = order_less x y xs ys l in absurd (let z : ◌≡◌ {A = ℕ} 0 1 = cc in omega arith))
    (λ l. let e = order_greater x y xs ys l in absurd (let z : ◌≡◌ {A = ℕ} 0 1 = cc in omega arith)))
    (cases_order x y)

pub before_irrefl : (xs : List ℕ) → Before xs xs → ⊥
before_irrefl xs h = let e = order_same xs in let z : ◌≡◌ {A = ℕ} 0 1 = cc in omega arith

-- two heads of which the first name comes before: smaller, or the same with the rest before
before_heads : (x y : ℕ) (xs ys : List ℕ) → Before (x ∷ xs) (y ∷ ys) → (x < y) ⊎ ((x ≡ y) × Before xs ys)
before_heads x y xs ys h =
    ⊎_elim (λ e. inr (e, sym (order_next x y xs ys e) ∙ h))
    (⊎_elim inl (λ l. let e = order_greater x y xs ys l in absurd (let z : ◌≡◌ {A = ℕ} 0 1 = cc in omega arith)))
    (cases_order x y)

pub before_trans : (xs ys zs : List ℕ) → Before xs ys → Before ys zs → Before xs zs
unfolding order
before_trans xs [] [] h g = absurd (let z : ◌≡◌ {A = ℕ} 0 1 = cc in omega arith)
before_trans [] [] (z ∷ zs) h g = refl
before_trans (x ∷ xs) [] (z ∷ zs) h g = absurd (let z : ◌≡◌ {A = ℕ} 0 1 = cc in omega arith)
before_trans xs (y ∷ ys) [] h g = absurd (let z : ◌≡◌ {A = ℕ} 0 1 = cc in omega arith)
before_trans [] (y ∷ ys) (z ∷ zs) h g = refl
before_trans (x ∷ xs) (y ∷ ys) (z ∷ zs) h g =
    ⊎_elim
    (λ l. ⊎_elim (λ m. order_less x z xs zs (omega arith)) (λ m. let e = m.0 in order_less x z xs zs (omega arith)) (before_heads y z ys zs g))
    (λ l. let d = l.0 in ⊎_elim (λ m. order_less x z xs zs (omega arith)) (λ m. order_next x z xs zs (d ∙ m.0) ∙ before_trans xs ys zs l.1 m.1) (before_heads y z ys zs g))
    (before_heads x y xs ys h)

-- a name after another has it before
pub order_flip : (xs ys : List ℕ) → order xs ys ≡ Greater → Before ys xs
unfolding order
order_flip [] [] h = absurd (let z : ◌≡◌ {A = ℕ} 0 1 = cc in omega arith)
order_flip [] (y ∷ ys) h = absurd (let z : ◌≡◌ {A = ℕ} 0 1 = cc in omega arith)
order_flip (x ∷ xs) [] h = refl
order_flip (x ∷ xs) (y ∷ ys) h =
    ⊎_elim (λ e. order_next y x ys xs (sym e) ∙ order_flip xs ys (sym (order_next x y xs ys e) ∙ h))
    (⊎_elim
    (λ l. let e = order_less x y xs ys l in absurd (let z : ◌≡◌ {A = ℕ} 0 1 = cc in omega arith))
    (λ l. order_less y x ys xs l))
    (cases_order x y)

-- names that do not compare as equal are not the same
pub unlike_order : (xs ys : List ℕ) → (order xs ys ≡ Equal → ⊥) → xs ≡ ys → ⊥
unlike_order xs ys h e = h (ap (order xs) (sym e) ∙ order_same xs)
