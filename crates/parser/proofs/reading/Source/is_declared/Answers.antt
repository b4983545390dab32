use Rattle.parser.proofs.Pins.{among_declared, declared_among}
use Rattle.parser.proofs.reading.Source.is_declared.Goals as goal

pub returns : goal.returns
returns c = (
  λ t. among_declared _ c.args.catalogue.now _ _ _ c.as_slice-pins.ensures c.min-from.ensures c.args.name _ c.bytes_at.ensures (c.is_among.ensures.0 t),
  λ d. c.is_among.ensures.1 (declared_among _ c.args.catalogue.now _ _ _ c.as_slice-pins.ensures c.min-from.ensures c.args.name _ c.bytes_at.ensures d),
)
