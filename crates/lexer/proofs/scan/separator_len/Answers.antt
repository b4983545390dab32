use Rattle.std.proofs.Common.{◌-◌, arith}
use Rattle.std.proofs.lemmas.Grind.{common_steps}
use Rattle.lexer.specs.Gaps.{line, block}
use Rattle.lexer.proofs.Gapless.{unclosed}
use Rattle.lexer.proofs.scan.separator_len.Goals as goal

pub returns-in_ok-comment_len-in-47-eq42-clause-some :
    goal.returns-in_ok-comment_len-in-47-eq42-clause-some
returns-in_ok-comment_len-in-47-eq42-clause-some c =
    block (record {
      starts = grind (arith, common_steps);
      after = omega arith;
      within = grind (arith, common_steps);
      inside = λ k l m. grind (arith, common_steps, c.in_ok-comment_len-in-47-eq42.ensures.first (k - 2));
      ends = grind (arith, common_steps);
    })

pub returns-in-47-eq47-clause-some : goal.returns-in-47-eq47-clause-some
returns-in-47-eq47-clause-some c =
    let told = c.line_len.ensures in
    line (record {
      starts = grind (arith, common_steps);
      after = omega arith;
      within = grind (arith, common_steps);
      inside = λ k l m. grind (arith, common_steps, told.inside (k - 2));
      ends = grind (arith, common_steps);
    })

pub returns-in_err-comment_len-in-47-eq42-clause-none :
    goal.returns-in_err-comment_len-in-47-eq42-clause-none
returns-in_err-comment_len-in-47-eq42-clause-none c =
    let told = c.in_err-comment_len-in-47-eq42.ensures.open in
    rw c.from_residual-in_err-comment_len-in-47-eq42.ensures (unclosed _ (grind (arith, common_steps)) (grind (arith, common_steps)) (λ k l p. told (k - 2) (grind (arith, common_steps, p))))
