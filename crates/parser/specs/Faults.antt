-- What is wrong with a text, as a fault of the bench.
use Rattle.fault.specs.declared.Cause.TheVariants as cause
use Rattle.fault.specs.declared.Fault.{Fault}
use Rattle.parser.specs.declared.read_fault.ReadFault.{ReadFault}
use Rattle.parser.specs.declared.read_fault.ReadFault.TheVariants.{Lex, TooManyRecords, BrokenGrammar, OtherChipName, BadPin}

abbrev pub fault_of : ReadFault → Fault
fault_of (Lex f) = record { cause = cause.NoToken; place = f.place }
fault_of (TooManyRecords p) = record { cause = cause.TooManyRecords; place = p }
fault_of (BrokenGrammar p) = record { cause = cause.BrokenGrammar; place = p }
fault_of (OtherChipName p) = record { cause = cause.OtherChipName; place = p }
fault_of (BadPin p) = record { cause = cause.BadPin; place = p }
