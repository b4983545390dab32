use Rattle.std.proofs.Common.{◌≡◌, ℕ, ◌<◌, ◌≤◌}
use Rattle.packer.specs.Rules.{Keeps, size_upto}
use Rattle.packer.proofs.check.check_sources.Given as goal

abbrev pub invariant-loop-i : goal.invariant-loop-i
invariant-loop-i l = ((j : ℕ) → j < l.i → Keeps l.sources j) × (l.size ≡ size_upto l.sources l.i) × (l.size ≤ 65535)
