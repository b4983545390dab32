use Rattle.joiner.proofs.Lent.{pins_fit, opened_stage, opened_joined}
use Rattle.joiner.proofs.join_rows.Goals as goal

pub invariant_of-scope : goal.invariant_of-scope
invariant_of-scope g c = record { fits = rw (c.as_slice.ensures, c.requires.pins) (pins_fit c.requires.read) }

pub join_records-requires : goal.join_records-requires
join_records-requires g c = rw (c.as_slice.ensures, c.requires.pins) (opened_stage _ c.requires.read c.in_ok-open.ensures.1)

pub returns : goal.returns
returns g c = opened_joined _ c.requires.read c.in_ok-open.ensures.1 _ c.join_records.new.parts c.join_records.new.connections c.in_ok-join_records.ensures
