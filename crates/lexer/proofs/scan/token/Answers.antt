use Rattle.std.proofs.Common.{arith}
use Rattle.std.proofs.lemmas.Grind.{common_steps}
use Rattle.std.proofs.lemmas.Slice.{between_from_start}
use Rattle.lexer.proofs.Runs.{run_token, mark_token}
use Rattle.lexer.proofs.scan.token.Goals as goal

pub returns-in_err-word-in-len1-up-clause-none : goal.returns-in_err-word-in-len1-up-clause-none
returns-in_err-word-in-len1-up-clause-none c =
    let told = c.word_len.ensures in
    rw c.from_residual.ensures (λ j t h.
    c.in_err-word-in-len1-up.ensures t (rw between_from_start at (run_token _ j t h _ (grind (arith, common_steps)) told.inside told.ends)))

pub returns-in_err-mark-in-len1-up-2-clause-none : goal.returns-in_err-mark-in-len1-up-2-clause-none
returns-in_err-mark-in-len1-up-2-clause-none c =
    rw c.from_residual-in_err-mark-in-len1-up-2.ensures (λ j t h.
    c.in_err-mark-in-len1-up-2.ensures t (mark_token _ j t h (grind (arith, common_steps)) (λ p. grind (arith, common_steps))))
