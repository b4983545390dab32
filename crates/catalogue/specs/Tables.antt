-- What a table of records holds.
use Rattle.std.specs.Prelude.{◌≡◌, ◌-◌, List, ◌++◌, length, replicate}
use Rattle.catalogue.specs.declared.lent.Table.{Table}

-- these records, and blank ones behind them
pub record Held {R : Type 0} (blank : R) (t : Table R) (xs : List R) : Type 0 where
  pub rows : t.rows.now ≡ xs ++ replicate (length t.rows.now - length xs) blank
  pub used : t.used ≡ length xs

-- the same memory is lent to both, and as much of it
pub record Kept {R : Type 0} (a b : Table R) : Type 0 where
  pub lent : b.rows.ghost_name ≡ a.rows.ghost_name
  pub long : length b.rows.now ≡ length a.rows.now
