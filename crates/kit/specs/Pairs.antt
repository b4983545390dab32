-- Two kits as one: the kinds of the first, and then those of the second.
use Rattle.std.specs.Prelude.{ℕ, ◌+◌, ◌-◌, min, false, cond, Some, None, Option, nat_lt}
use Rattle.std.specs.Option.{option_or}
use Rattle.kit.specs.declared.pair.Seat.{Seat}
use Rattle.kit.specs.declared.pair.Seat.TheVariants.{First, Second}
use Rattle.kit.specs.Models.{Model}

-- the sum of two counts, at most 65,535
abbrev pub both : ℕ → ℕ → ℕ
both c d = min (c + d) 65535

-- the kit that has the kind k, if one has, and under which number, where the kits have c and d kinds
abbrev pub seat : ℕ → ℕ → ℕ → Option Seat
seat c d k = cond (nat_lt k c) (Some (First k)) (cond (nat_lt k (both c d)) (Some (Second (k - c))) None)

-- the second kit's kind, counted on from the c kinds of the first, if it is below the count n
abbrev pub counted_on : ℕ → ℕ → Option ℕ → Option ℕ
counted_on c n None = None
counted_on c n (Some k) = cond (nat_lt (c + k) n) (Some (c + k)) None

-- the kit with no kind
abbrev pub no_kit : Model
no_kit = record {
  count = 0;
  find = λ name. None;
  pin = λ k name. None;
  inputs = λ k. 0;
  outputs = λ k. 0;
  clocked = λ k. false;
  out = λ k i s. 0;
  next = λ k i s. 0;
  waits = λ k b. 0;
}

abbrev pub kit_at : Model → Model → Option Seat → Model
kit_at f s (Some (First k)) = f
kit_at f s (Some (Second k)) = s
kit_at f s None = no_kit

abbrev pub kind_at : Option Seat → ℕ
kind_at (Some (First k)) = k
kind_at (Some (Second k)) = k
kind_at None = 0

abbrev pub pair : Model → Model → Model
pair f s =
    let at : ℕ → Option Seat = seat f.count s.count in
    record {
      count = both f.count s.count;
      find = λ name. option_or (f.find name) (counted_on f.count (both f.count s.count) (s.find name));
      pin = λ k. (kit_at f s (at k)).pin (kind_at (at k));
      inputs = λ k. (kit_at f s (at k)).inputs (kind_at (at k));
      outputs = λ k. (kit_at f s (at k)).outputs (kind_at (at k));
      clocked = λ k. (kit_at f s (at k)).clocked (kind_at (at k));
      out = λ k. (kit_at f s (at k)).out (kind_at (at k));
      next = λ k. (kit_at f s (at k)).next (kind_at (at k));
      waits = λ k. (kit_at f s (at k)).waits (kind_at (at k));
    }
