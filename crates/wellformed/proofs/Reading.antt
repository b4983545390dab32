-- The records of every bundle that is read are well-formed.
use Rattle.std.proofs.Common.{◌≡◌, ℕ, suc, ◌+◌, ◌-◌, ◌<◌, length, drop, add-one, arith, length-drop, get_or-drop}
use Rattle.std.proofs.ByRecursion.{All-get_or}
use Rattle.bundle.specs.Layout.{count}
use Rattle.catalogue.specs.Records.{Records, blank_pin, blank_part, blank_connection}
use Rattle.wellformed.specs.Places.{Sooner, pin, connection, part_place, connection_place, far_place}
use Rattle.wellformed.specs.WellFormed.{Line, Belongs, InTextOrder, ReadWellFormed}
use Rattle.wellformed.proofs.Runs.{run_ends, run_rises}
use Rattle.wellformed.proofs.Lines.{lines_parts, lines_connections, lines_behind, line_at, connection_at, ConnectionAt, lines_start, lines_next}
use Rattle.wellformed.proofs.Fits.{pins_fit}
use Rattle.wellformed.proofs.Entries.{HeaderFirst, InOrder, in_order}

module _ (k : ℕ) (r : Records) (h : InOrder k r) where
  part_line : (p : ℕ) → p < length r.parts → Line r p
  part_line p l =
      let n = line_at p h.lines l in
      record { some = n.some; within = omega (arith, n.within); own = λ i f u. omega (arith, n.own i (omega arith) (omega arith)) }

  module _ (i : ℕ) (l : i < length r.connections) where
    own : ConnectionAt 0 0 r.parts i (connection r i)
    own = connection_at i h.lines l

    number : own.line ≡ (connection r i).part
    number = omega (arith, own.number)

    belongs : Belongs r i
    belongs = record {
      below = omega (arith, number, own.below);
      same = rw (← number) own.same;
      from = rw (← number) (omega (arith, own.from));
      until = rw (← number) (omega (arith, own.until));
    }

    in_line : Sooner (part_place r (connection r i).part) (connection_place r i)
    in_line = rw (← number) own.behind.is

    next_line : (p : ℕ) → (connection r i).part < p → p < length r.parts → Sooner (far_place r i) (part_place r p)
    next_line p m u =
        let n = suc own.line in
        let e : n + (p - n) ≡ p = omega (arith, number) in
        let b = (All-get_or _ (drop n r.parts) (p - n) blank_part (omega (arith, number, length-drop n r.parts)) own.ahead).is in
        rw (get_or-drop n r.parts (p - n) blank_part, e) at b

  ordered : InTextOrder r
  ordered = record {
    pins_rise = λ i j l m. run_rises blank_pin i j h.pins l m;
    parts_rise = λ p q l m. run_rises blank_part p q (lines_parts h.lines) l m;
    connections_rise = λ i j l m. run_rises blank_connection i j (lines_connections h.lines) l m;
    header_first = λ i p l m e. All-get_or (HeaderFirst (pin r i)) r.parts p blank_part m (All-get_or _ r.pins i blank_pin l h.headers) e;
    in_line = in_line;
    far_behind = λ i n b l e. All-get_or _ r.connections i blank_connection l (lines_behind h.lines) n b e;
    next_line = λ i p l m u. next_line i l p m u;
  }

pub read_well_formed : ReadWellFormed
read_well_formed s r t =
    let h = in_order s (count s) r t in
    record {
      pin_entry = λ i l. omega (arith, (All-get_or _ r.pins i blank_pin l (run_ends h.pins)).is);
      part_entry = λ p l. omega (arith, (All-get_or _ r.parts p blank_part l (run_ends (lines_parts h.lines))).is);
      fits = pins_fit s (count s) r t;
      lines = part_line (count s) r h;
      begins = lines_start _ h.lines (omega arith);
      continues = λ p l. rw add-one (lines_next _ p h.lines (omega arith) l);
      belongs = belongs (count s) r h;
      ordered = ordered (count s) r h;
    }
