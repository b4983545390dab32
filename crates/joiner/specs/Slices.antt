-- Which bits of a pin a subscript means, as a pin of their own.
use Rattle.std.specs.Prelude.{ℕ, ◌+◌, ◌-◌, cond, ◌&&◌, Some, None, Option, nat_le, nat_lt}
use Rattle.kit.specs.declared.shape.Pin.{Pin}
use Rattle.catalogue.specs.declared.records.Subscript.{Subscript}
use Rattle.catalogue.specs.declared.records.Subscript.TheVariants.{All, Bit, Range}

-- [n..m] needs n at most m, and m below the width
abbrev pub range_of : Pin → ℕ → ℕ → Option Pin
range_of p n m = cond (nat_le n m && nat_lt m p.width) (Some (record { side = p.side; first = p.first + n; width = m - n + 1 })) None

-- [n] means [n..n]
abbrev pub slice_of : Pin → Subscript → Option Pin
slice_of p All = Some p
slice_of p (Bit n) = range_of p n n
slice_of p (Range n m) = range_of p n m
