use Rattle.std.proofs.Common.{sym, ap, ◌∙◌, add-one, arith, below_more}
use Rattle.bundle.specs.Layout.{end_before}
use Rattle.bundle.proofs.check.check_entries.Goals as goal

pub loop-k-preserved : goal.loop-k-preserved
loop-k-preserved c =
    let told = c.in_ok-end.ensures in (
      below_more _ _ c.loop-k.invariant.0 told.0,
      told.1 ∙ sym (ap (end_before c.args.bytes.now) (add-one c.loop-k.k)),
      omega (arith, told.1, told.0.within),
    )
