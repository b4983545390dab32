use Rattle.lexer.proofs.Instances.{a_text, an_end, a_fault}
use Rattle.lexer.proofs.OneAnswer.{one_answer}
use Rattle.lexer.proofs.answers_are_one.Goals as goal

pub returns : goal.returns
returns c = record { one_answer = one_answer; a_text = a_text; an_end = an_end; a_fault = a_fault }
