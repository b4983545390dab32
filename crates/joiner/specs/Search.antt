-- The first number that passes a test, and answers that may be none.
use Rattle.std.specs.Prelude.{ℕ, zero, suc, Bool, cond, Some, None, Option}
use Rattle.std.specs.Option.{option_or}

-- the first number below n that passes
unfoldable pub first_below : (ℕ → Bool) → ℕ → Option ℕ
first_below P zero = None
first_below P (suc n) = option_or (first_below P n) (cond (P n) (Some n) None)

-- what is asked of the first answer, if there is one
abbrev pub chained : {X Y : Type 0} → Option X → (X → Option Y) → Option Y
chained None f = None
chained (Some x) f = f x
