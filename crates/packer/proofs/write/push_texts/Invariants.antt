use Rattle.std.proofs.Common.{◌≡◌, ◌++◌, drop, vec_items}
use Rattle.packer.specs.Written.{texts}
use Rattle.packer.proofs.write.push_texts.Given as goal

abbrev pub invariant-loop-source : goal.invariant-loop-source
invariant-loop-source l = vec_items l.out ++ texts (drop l.source-index l.sources) ≡ vec_items l.initial.out ++ texts l.sources
