-- What a bundle has of the sources that it is made of.
use Rattle.std.specs.Prelude.{◌≡◌, ℕ, ◌<◌, List, length}
use Rattle.bundle.specs.Layout.{Layout, count, name, text}
use Rattle.packer.specs.declared.source.Source.{Source}
use Rattle.packer.specs.Rules.{name_of, text_of, Sound}

-- the k-th entry of the bundle is the i-th source
pub record Holds (ss : List Source) (s : List ℕ) (i k : ℕ) : Type 0 where
  pub names : name s k ≡ name_of ss i
  pub texts : text s k ≡ text_of ss i

-- the bundle has each source and no entry besides, in the order of their names, since names rise strictly in a layout
pub record Packed (ss : List Source) (s : List ℕ) : Type 0 where
  pub sound : Sound ss
  pub layout : Layout s
  pub counted : count s ≡ length ss
  pub has : (i : ℕ) → i < length ss → (k : ℕ) × (k < count s) × Holds ss s i k
  pub only : (k : ℕ) → k < count s → (i : ℕ) × (i < length ss) × Holds ss s i k
