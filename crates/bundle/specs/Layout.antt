-- The layout of a bundle: how many entries, the table of contents, and the texts. A bundle is its list of bytes.
use Rattle.std.specs.Prelude.{◌≡◌, ℕ, zero, suc, ◌+◌, ◌-◌, ◌*◌, ◌<◌, ◌≤◌, cond, List, [], ◌∷◌, length, ◌==◌}
use Rattle.std.specs.List.{between}
use Rattle.text.specs.Names.{byte, Named}
use Rattle.text.specs.Orders.{Before}

-- the two bytes at i as a number, the low byte first
abbrev pub number_at : List ℕ → ℕ → ℕ
number_at s i = byte s i + 256 * byte s (i + 1)

-- the first two bytes are the number of entries
abbrev pub count : List ℕ → ℕ
count s = number_at s 0

-- where the row of the k-th entry begins in the table of contents; with the count for k, where the table ends
abbrev pub row : ℕ → ℕ
row k = 2 + 36 * k

-- the bytes in front of the first zero
unfoldable pub unpadded : List ℕ → List ℕ
unpadded [] = []
unpadded (b ∷ bs) = cond (b == 0) [] (b ∷ unpadded bs)

-- the four parts of the k-th entry: the name in 32 bytes, where its text starts, how long that is, and the text itself
abbrev pub name : List ℕ → ℕ → List ℕ
name s k = unpadded (between (row k) (row k + 32) s)

abbrev pub start : List ℕ → ℕ → ℕ
start s k = number_at s (row k + 32)

abbrev pub size : List ℕ → ℕ → ℕ
size s k = number_at s (row k + 34)

abbrev pub text : List ℕ → ℕ → List ℕ
text s k = between (start s k) (start s k + size s k) s

-- where what lies before the text of the k-th entry ends: the table of contents, or the text before
abbrev pub end_before : List ℕ → ℕ → ℕ
end_before s zero = row (count s)
end_before s (suc k) = start s k + size s k

-- 2 to 65,535 bytes, at most 128 entries, and the table of contents is whole
pub record Listed (s : List ℕ) : Type 0 where
  pub counted : 2 ≤ length s
  pub short : length s ≤ 65535
  pub few : count s ≤ 128
  pub whole : row (count s) ≤ length s

-- the k-th name is a name, padded with zeros
pub record NameStands (s : List ℕ) (k : ℕ) : Type 0 where
  pub named : Named (name s k)
  pub padded : (j : ℕ) → length (name s k) ≤ j → j < 32 → byte s (row k + j) ≡ 0

-- names rise strictly in byte order
abbrev pub Rises : List ℕ → ℕ → Type 0
Rises s k = 0 < k → Before (name s (k - 1)) (name s k)

-- what holds of the k-th entry
pub record EntryStands (s : List ℕ) (k : ℕ) : Type 0 where
  pub named : NameStands s k
  pub rises : Rises s k
  pub follows : start s k ≡ end_before s k
  pub within : start s k + size s k ≤ length s

-- the bytes are a bundle: each entry stands, and the last text ends with the bundle
pub record Layout (s : List ℕ) : Type 0 where
  pub listed : Listed s
  pub stands : (k : ℕ) → k < count s → EntryStands s k
  pub ends : end_before s (count s) ≡ length s
