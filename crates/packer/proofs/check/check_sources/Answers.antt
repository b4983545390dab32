use Rattle.std.proofs.Common.{arith, below_more}
use Rattle.packer.proofs.check.check_sources.Goals as goal

pub loop-i-preserved : goal.loop-i-preserved
loop-i-preserved c =
    let told = c.in_ok-size.ensures in
    (below_more _ _ c.loop-i.invariant.0 told.0, told.1, omega (arith, told.1, told.0.fits))
