-- The lexer's refusal as a fault of the bench.
use Rattle.fault.specs.declared.Cause.TheVariants.{NoToken}
use Rattle.fault.specs.declared.Fault.{Fault}
use Rattle.lexer.specs.declared.lex_fault.LexFault.{LexFault}

-- no token stands at the place
abbrev pub to_fault : LexFault → Fault
to_fault f = record { cause = NoToken; place = f.place }
