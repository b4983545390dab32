-- The value of the digits that were read so far.
use Rattle.std.proofs.Common.{◌≡◌, ℕ, ◌+◌, ◌-◌, ◌*◌, ◌≤◌, true, List, [], ◌∷◌, ◌++◌, take, drop, sym, refl, ap, ◌∙◌, arith}
use Rattle.std.specs.Str.Parse.{digits_value, digits_value_after}
use Rattle.std.specs.Char.{is_ascii_digit, digit_value as digitValue}
use Rattle.std.proofs.lemmas.List.{take-append-drop}
use Rattle.std.proofs.lemmas.Bool.Decides.{nat_tests}

pub digit_value : (c : ℕ) → is_ascii_digit c ≡ true → digitValue c ≡ c - 48
digit_value c h = grind (arith, nat_tests)

after_ge : (n : ℕ) (ds : List ℕ) → n ≤ digits_value_after 10 n ds
after_ge n [] = omega arith
after_ge n (d ∷ ds) = omega (arith, after_ge (n * 10 + digitValue d) ds)

after_append : (n : ℕ) (xs ys : List ℕ) → digits_value_after 10 n (xs ++ ys) ≡ digits_value_after 10 (digits_value_after 10 n xs) ys
after_append n [] ys = refl
after_append n (x ∷ xs) ys = after_append (n * 10 + digitValue x) xs ys

-- more digits never make a number smaller
pub value_front : (i : ℕ) (bs : List ℕ) → digits_value 10 (take i bs) ≤ digits_value 10 bs
value_front i bs =
    let e = sym (after_append 0 (take i bs) (drop i bs)) ∙ ap (digits_value 10) (take-append-drop i bs) in
    omega (arith, e, after_ge (digits_value 10 (take i bs)) (drop i bs))
