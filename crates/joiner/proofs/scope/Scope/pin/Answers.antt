use Rattle.joiner.proofs.Fitting.{first_fits, kit_fits}
use Rattle.joiner.proofs.scope.Scope.pin.Goals as goal

pub returns-in-Entry-clause-fits : goal.returns-in-Entry-clause-fits
returns-in-Entry-clause-fits g c =
    let t = c.args.self.now in
    rw c.declared.ensures (first_fits _ t.pins.now t.fits)

pub returns-in-Kind-clause-fits : goal.returns-in-Kind-clause-fits
returns-in-Kind-clause-fits g c =
    let t = c.args.self.now in
    rw c.pin.ensures (kit_fits (g.K.Kit.model t.kit.now) (g.K.Kit.sound t.kit.now) c.in-Kind.kind c.args.name.now)
