use Rattle.std.proofs.Common.{◌+◌}
use Rattle.joiner.specs.Stages.{Stage}
use Rattle.joiner.proofs.joints.join_part.Given as goal

abbrev pub invariant-loop-i : goal.invariant-loop-i
invariant-loop-i g l =
    Stage (g.K.Kit.model l.scope.kit.now) l.scope.bundle.bytes.now l.scope.pins.now l.parts l.connections (l.p + 1) l.i
