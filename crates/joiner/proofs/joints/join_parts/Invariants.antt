use Rattle.std.proofs.Common.{◌≡◌, ℕ, ◌+◌}
use Rattle.joiner.specs.Stages.{LineStage, TextFrom}
use Rattle.joiner.proofs.joints.join_parts.Given as goal

abbrev pub invariant-loop-p : goal.invariant-loop-p
invariant-loop-p g l =
    LineStage (g.K.Kit.model l.scope.kit.now) l.scope.bundle.bytes.now l.scope.pins.now l.parts l.connections l.p
    × ((q : ℕ) → q + 1 ≡ l.p → TextFrom l.scope.bundle.bytes.now l.from q)
