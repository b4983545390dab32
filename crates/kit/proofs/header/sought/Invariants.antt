use Rattle.std.proofs.Common.{◌≡◌, ◌+◌, ◌≤◌, drop}
use Rattle.kit.specs.Headers.{bits, sought}
use Rattle.kit.specs.Listings.{listed}
use Rattle.kit.proofs.header.sought.Given as goal

abbrev pub invariant-loop-known : goal.invariant-loop-known
invariant-loop-known l =
    record {
      rest : sought l.side l.first (listed (drop l.known-index l.pins)) l.name ≡ sought l.side 0 (listed l.pins) l.name;
      fits : l.first + bits (listed (drop l.known-index l.pins)) ≤ 64;
    }
