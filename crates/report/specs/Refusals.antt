-- What a refusal says of the bundle.
use Rattle.report.specs.declared.refusals.Refusal.{Refusal}
use Rattle.report.specs.declared.refusals.Refusal.TheVariants.{Told, NoMemory}

-- what holds where a person is told of a fault; nothing is known where memory ran out
abbrev pub WhenTold : Refusal → Type 0 → Type 0
WhenTold (Told _) P = P
WhenTold NoMemory P = Unit {0}
