-- A pair joins its two kits.
use Rattle.std.proofs.Common.{◌≡◌, ℕ, ◌+◌, Some, Option, refl, arith, rules}
use Rattle.std.proofs.lemmas.Bool.Decides.{nat_tests}
use Rattle.kit.specs.declared.pair.Seat.{Seat}
use Rattle.kit.specs.declared.pair.Seat.TheVariants.{First, Second}
use Rattle.kit.specs.Models.{Model}
use Rattle.kit.specs.Pairs.{seat, kit_at, kind_at, pair}
use Rattle.kit.specs.Joins.{Alike, Joins}

alike : (f s : Model) (k : ℕ) (t : Option Seat) → seat f.count s.count k ≡ t → Alike (pair f s) k (kit_at f s t) (kind_at t)
alike f s k t e = search rules

pub pair_joins : (f s : Model) → Joins f s (pair f s)
pair_joins f s =
    record {
      total = refl;
      firsts = λ k h. alike f s k (Some (First k)) (grind (arith, nat_tests));
      seconds = λ k h. alike f s (f.count + k) (Some (Second k)) (grind (arith, nat_tests));
      in_first = λ name k e. grind (arith, nat_tests);
      in_second = λ name k e d h. grind (arith, nat_tests);
      too_far = λ name k e d h. grind (arith, nat_tests);
      in_neither = λ name e d. grind (arith, nat_tests);
    }
