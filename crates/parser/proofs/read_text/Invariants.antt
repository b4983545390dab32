use Rattle.std.proofs.Common.{◌-◌, length}
use Rattle.parser.proofs.Texts.{Between}
use Rattle.parser.proofs.read_text.Given as goal

abbrev pub invariant-loop-token : goal.invariant-loop-token
invariant-loop-token l = Between l.source l.initial.catalogue l.catalogue l.reading l.lexer

abbrev pub decreases-loop-token : goal.decreases-loop-token
decreases-loop-token l = length l.lexer.text.now - l.lexer.end
