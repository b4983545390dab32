-- The rules that the sources of a bundle keep.
use Rattle.std.specs.Prelude.{◌≡◌, ℕ, ◌+◌, ◌*◌, ◌<◌, ◌≤◌, List, [], map, length, take, sum_by, ◌≢◌, slice_index_or}
use Rattle.text.specs.Names.{Named}
use Rattle.packer.specs.declared.source.Source.{Source}

-- the name and the text of the i-th source
abbrev pub name_of : List Source → ℕ → List ℕ
name_of ss i = slice_index_or (map (λ s. s.name.now) ss) i []

abbrev pub text_of : List Source → ℕ → List ℕ
text_of ss i = slice_index_or (map (λ s. s.text.now) ss) i []

-- how many bytes the texts have in all
abbrev pub bytes : List Source → ℕ
bytes ss = sum_by (λ s. length s.text.now) ss

-- how many bytes a bundle of all the sources has with the first n texts: the number of entries, the table of contents,
-- and those texts
abbrev pub size_upto : List Source → ℕ → ℕ
size_upto ss n = 2 + 36 * length ss + bytes (take n ss)

-- no source before the i-th has its name
abbrev pub New : List Source → ℕ → Type 0
New ss i = (j : ℕ) → j < i → name_of ss j ≢ name_of ss i

-- a source before the i-th has its name
abbrev pub Taken : List Source → ℕ → Type 0
Taken ss i = (j : ℕ) × (j < i) × (name_of ss j ≡ name_of ss i)

-- what the i-th source keeps
pub record Keeps (ss : List Source) (i : ℕ) : Type 0 where
  pub named : Named (name_of ss i)
  pub new : New ss i
  pub fits : size_upto ss (i + 1) ≤ 65535

-- no rule is broken
pub record Sound (ss : List Source) : Type 0 where
  pub few : length ss ≤ 128
  pub keeps : (i : ℕ) → i < length ss → Keeps ss i
