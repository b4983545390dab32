use Rattle.std.proofs.Common.{◌≡◌, take, replicate}
use Rattle.catalogue.proofs.table.fill_blank.Given as goal

abbrev pub invariant-loop-record : goal.invariant-loop-record
invariant-loop-record g l = take l.record-index l.records ≡ replicate l.record-index l.fn.blank
