-- The bytes that are written for sources.
use Rattle.std.specs.Prelude.{ℕ, ◌+◌, ◌-◌, ◌*◌, ◌/◌, ◌%◌, ◌<◌, ◌≤◌, List, [], ◌∷◌, ◌++◌, length, replicate}
use Rattle.std.specs.List.{flat_map}
use Rattle.text.specs.Names.{Named}
use Rattle.text.specs.Orders.{Before}
use Rattle.packer.specs.declared.source.Source.{Source}
use Rattle.packer.specs.Rules.{name_of, bytes}

-- a number in two bytes, the low byte first
abbrev pub number : ℕ → List ℕ
number n = n % 256 ∷ n / 256 ∷ []

-- a name, filled up with zeros to 32 bytes
abbrev pub padded : List ℕ → List ℕ
padded n = n ++ replicate (32 - length n) 0

-- the row of a source whose text starts at `at`
abbrev pub row_of : Source → ℕ → List ℕ
row_of s at = padded s.name.now ++ (number at ++ number (length s.text.now))

-- the rows of sources whose texts start at `at`, one behind the other
unfoldable pub rows : List Source → ℕ → List ℕ
rows [] at = []
rows (s ∷ ss) at = row_of s at ++ rows ss (at + length s.text.now)

abbrev pub texts : List Source → List ℕ
texts ss = flat_map (λ s. s.text.now) ss

abbrev pub written : List Source → List ℕ
written ss = number (length ss) ++ (rows ss (2 + 36 * length ss) ++ texts ss)

-- sources that are a bundle as they stand: their names are names and rise strictly, and the bundle is not too large
pub record Writable (ss : List Source) : Type 0 where
  pub few : length ss ≤ 128
  pub named : (k : ℕ) → k < length ss → Named (name_of ss k)
  pub rises : (k : ℕ) → k + 1 < length ss → Before (name_of ss k) (name_of ss (k + 1))
  pub small : 2 + 36 * length ss + bytes ss ≤ 65535
