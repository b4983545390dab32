-- Which rule is the first that sources break.
use Rattle.std.specs.Prelude.{ℕ, ◌+◌, ◌<◌, ◌≤◌, List, length}
use Rattle.text.specs.Names.{Named}
use Rattle.packer.specs.declared.source.Source.{Source}
use Rattle.packer.specs.declared.faults.PackFault.{PackFault}
use Rattle.packer.specs.declared.faults.PackFault.TheVariants.{TooManyEntries, BadName, DuplicateName, TooLong, NoMemory}
use Rattle.packer.specs.Rules.{name_of, size_upto, New, Taken, Keeps, Sound}

-- there is an i-th source, and those before it keep the rules
pub record Upto (ss : List Source) (i : ℕ) : Type 0 where
  pub few : length ss ≤ 128
  pub below : i < length ss
  pub keeps : (j : ℕ) → j < i → Keeps ss j

-- without memory no bundle is made, though no rule is broken
abbrev pub Broken : List Source → PackFault → Type 0
Broken ss TooManyEntries = 128 < length ss
Broken ss (BadName i) = Upto ss i × (Named (name_of ss i) → ⊥)
Broken ss (DuplicateName i) = Upto ss i × Named (name_of ss i) × Taken ss i
Broken ss (TooLong i) = Upto ss i × Named (name_of ss i) × New ss i × (65535 < size_upto ss (i + 1))
Broken ss NoMemory = Sound ss
