use Rattle.std.proofs.Common.{ℕ, List, ◌++◌, map, vec_items}
use Rattle.std.specs.Str.Iter.{split_whitespace_rest}
use Rattle.samples.specs.Words.{Lists}
use Rattle.samples.proofs.lines.texts_of.Given as goal

-- whatever the rest of the line lists comes behind the texts so far
abbrev pub invariant-loop-word : goal.invariant-loop-word
invariant-loop-word l =
    (texts : List (List ℕ)) → Lists (split_whitespace_rest l.word-iterator) texts → Lists l.line (map vec_items (vec_items l.texts) ++ texts)
