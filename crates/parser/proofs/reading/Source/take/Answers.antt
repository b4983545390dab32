use Rattle.std.proofs.Common.{Some, sym, ap, ◌∙◌}
use Rattle.parser.proofs.Steps.{broken, quiet, chip_named, side_begun, pin_begun, part_begun, connection_begun, pin_ended, connection_ended, line_ended}
use Rattle.parser.proofs.reading.Source.take.Goals as goal

pub returns-in_default-clause-reads : goal.returns-in_default-clause-reads
returns-in_default-clause-reads c = λ r p q k g e. broken _ r p q _ _ _ _ k g e c.in_default.ensures

pub returns-in-None-clause-reads : goal.returns-in-None-clause-reads
returns-in-None-clause-reads c = λ r p q k g e. quiet _ r p q _ _ _ _ k g e _ c.in-Some.ensures c.in-None.ensures

pub returns-in-Some-ChipNamed-clause-reads : goal.returns-in-Some-ChipNamed-clause-reads
returns-in-Some-ChipNamed-clause-reads c = λ r p q k g e. chip_named _ r p q _ _ _ _ k g e _ c.in-Some.ensures (sym (c.in-Some-ChipNamed.is ∙ ap Some c.in-Some-ChipNamed.field-0-is) ∙ c.of.ensures) _ c.with_name.ensures

pub returns-in-Some-SideBegun-clause-reads : goal.returns-in-Some-SideBegun-clause-reads
returns-in-Some-SideBegun-clause-reads c = λ r p q k g e. side_begun _ r p q _ _ _ _ k g e _ c.in-Some.ensures (sym (c.in-Some-SideBegun.is ∙ ap Some c.in-Some-SideBegun.field-0-is) ∙ c.of.ensures)

pub returns-in-Some-PinBegun-clause-reads : goal.returns-in-Some-PinBegun-clause-reads
returns-in-Some-PinBegun-clause-reads c = λ r p q k g e. pin_begun _ r p q _ _ _ _ k g e _ c.in-Some.ensures _ _ (sym (c.in-Some-PinBegun.is ∙ ap Some c.in-Some-PinBegun.field-0-is) ∙ c.of.ensures) (ap (λ u. u.pins) c.counts-used.ensures) c.with_room.ensures

pub returns-in-Some-PartBegun-clause-reads : goal.returns-in-Some-PartBegun-clause-reads
returns-in-Some-PartBegun-clause-reads c = λ r p q k g e. part_begun _ r p q _ _ _ _ k g e _ c.in-Some.ensures _ _ (sym (c.in-Some-PartBegun.is ∙ ap Some c.in-Some-PartBegun.field-0-is) ∙ c.of.ensures) (ap (λ u. u.parts) c.counts-used.ensures) c.with_room-in-Some-PartBegun.ensures

pub returns-in-Some-ConnectionBegun-clause-reads : goal.returns-in-Some-ConnectionBegun-clause-reads
returns-in-Some-ConnectionBegun-clause-reads c = λ r p q k g e. connection_begun _ r p q _ _ _ _ k g e _ c.in-Some.ensures _ _ (sym (c.in-Some-ConnectionBegun.is ∙ ap Some c.in-Some-ConnectionBegun.field-0-is) ∙ c.of.ensures) (ap (λ u. u.connections) c.counts-used.ensures) c.with_room-in-Some-ConnectionBegun.ensures

pub returns-in-Some-PinEnded-clause-reads : goal.returns-in-Some-PinEnded-clause-reads
returns-in-Some-PinEnded-clause-reads c = λ r p q k g e. pin_ended _ r p q _ _ _ _ k g e _ c.in-Some.ensures _ _ _ (sym (c.in-Some-PinEnded.is ∙ ap Some c.in-Some-PinEnded.field-0-is) ∙ c.of.ensures) _ _ c.end_pin.ensures.long c.end_pin.ensures.pin

pub returns-in-Some-line-clause-reads : goal.returns-in-Some-line-clause-reads
returns-in-Some-line-clause-reads c =
    let one = c.end_connection.ensures in
    let two = c.end_line.ensures in
    λ r p q k g e.
    line_ended _ r p q _ _ _ _ k g e _ c.in-Some.ensures _ _ _ one.long one.fills _ (sym (c.in-Some-ConnectionEnded.is ∙ ap Some c.in-Some-ConnectionEnded.field-0-is) ∙ c.of.ensures) _ c.in-Some-line.is
    _ two.long _ two.read two.fills

pub returns-in-None-line-clause-reads : goal.returns-in-None-line-clause-reads
returns-in-None-line-clause-reads c =
    let one = c.end_connection.ensures in
    λ r p q k g e. connection_ended _ r p q _ _ _ _ k g e _ c.in-Some.ensures _ _ _ one.long one.fills _ (sym (c.in-Some-ConnectionEnded.is ∙ ap Some c.in-Some-ConnectionEnded.field-0-is) ∙ c.of.ensures) c.in-None-line.is
