use Rattle.std.proofs.Common.{◌≡◌, ℕ, ◌<◌, length, sym, subst, arith}
use Rattle.joiner.specs.Stages.{TextFrom}
use Rattle.joiner.proofs.Texts.{text_at}
use Rattle.joiner.proofs.joints.join_parts.Goals as goal

pub join_part-requires : goal.join_part-requires
join_part-requires g c =
    let l : c.loop-p.p < length c.loop-p.parts = omega (arith, c.loop-p-test.true, c.loop-p.auto.parts) in
    record { within = l; stage = c.loop-p.invariant.0; others = text_at l c.loop-p.invariant.0 c.text_start-from.ensures c.loop-p.invariant.1 }

pub loop-p-preserved : goal.loop-p-preserved
loop-p-preserved g c =
    let l : c.loop-p.p < length c.loop-p.parts = omega (arith, c.loop-p-test.true, c.loop-p.auto.parts) in (
      c.in_ok-join_part.ensures,
      λ z e.
          let is : z ≡ c.loop-p.p = omega arith in
          subst (λ (k : ℕ). TextFrom c.args.scope.now.bundle.bytes.now c.text_start-from.result k) (sym is)
          (text_at l c.loop-p.invariant.0 c.text_start-from.ensures c.loop-p.invariant.1),
    )
