-- What joining refuses, as faults of the bench.
use Rattle.fault.specs.declared.Fault.{Fault}
use Rattle.fault.specs.declared.Cause.TheVariants as cause
use Rattle.joiner.specs.declared.join_fault.JoinFault.{JoinFault}
use Rattle.joiner.specs.declared.join_fault.JoinFault.TheVariants.{UnknownPart, NoSuchPartPin, BadEnd, WidthsDiffer, FedTwice, LeftOpen}

abbrev pub fault_of : JoinFault → Fault
fault_of (UnknownPart x) = record { cause = cause.UnknownPart; place = x }
fault_of (NoSuchPartPin x) = record { cause = cause.NoSuchPartPin; place = x }
fault_of (BadEnd x) = record { cause = cause.BadEnd; place = x }
fault_of (WidthsDiffer x) = record { cause = cause.WidthsDiffer; place = x }
fault_of (FedTwice x) = record { cause = cause.FedTwice; place = x }
fault_of (LeftOpen x) = record { cause = cause.LeftOpen; place = x }
