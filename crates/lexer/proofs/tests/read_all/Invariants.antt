use Rattle.std.proofs.Common.{◌-◌, length}
use Rattle.lexer.proofs.tests.read_all.Given as goal

abbrev pub decreases-loop : goal.decreases-loop
decreases-loop l = length l.lexer.text.now - l.lexer.end
