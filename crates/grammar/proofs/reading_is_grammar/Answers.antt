use Rattle.grammar.proofs.Grammar.{grammar}
use Rattle.grammar.proofs.reading_is_grammar.Goals as goal

pub returns : goal.returns
returns c = grammar
