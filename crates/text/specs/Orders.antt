-- The order of names: byte by byte, and a name that another goes on from comes before it.
use Rattle.std.specs.Prelude.{◌≡◌, ℕ, cond, List, [], ◌∷◌, ◌==◌, nat_lt}
use Rattle.std.specs.declared.cmp.Ordering.TheVariants.{Less, Equal, Greater}
use Rattle.std.specs.declared.cmp.Ordering.{Ordering}

unfoldable pub order : List ℕ → List ℕ → Ordering
order [] [] = Equal
order [] (y ∷ ys) = Less
order (x ∷ xs) [] = Greater
order (x ∷ xs) (y ∷ ys) = cond (nat_lt x y) Less (cond (x == y) (order xs ys) Greater)

-- a comes strictly before b
abbrev pub Before : List ℕ → List ℕ → Type 0
Before a b = order a b ≡ Less
