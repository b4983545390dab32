-- What separates tokens. A text is its list of bytes, and a place is a number of bytes from its front.
use Rattle.std.specs.Prelude.{◌≡◌, ℕ, ◌+◌, ◌-◌, ◌<◌, ◌≤◌, Bool, true, ◌||◌, List, length, ◌==◌, ◌≢◌}
use Rattle.text.specs.Names.{byte}

-- the bytes a and b stand at i
abbrev pub Pair : ℕ → ℕ → List ℕ → ℕ → Type 0
Pair a b s i = (byte s i ≡ a) × (byte s (i + 1) ≡ b)

-- a space, a tab, a carriage return or a newline
abbrev pub blank : ℕ → Bool
blank b = b == 32 || (b == 9 || (b == 13 || b == 10))

-- the comment that begins with `//` at i ends at j: at the first newline, or the text's end
pub record Line (s : List ℕ) (i j : ℕ) : Type 0 where
  pub starts : Pair 47 47 s i
  pub after : i + 2 ≤ j
  pub within : j ≤ length s
  pub inside : (k : ℕ) → i + 2 ≤ k → k < j → byte s k ≢ 10
  pub ends : j < length s → byte s j ≡ 10

-- the comment that begins with `/*` at i ends at j: behind the first `*/` after those two bytes
pub record Block (s : List ℕ) (i j : ℕ) : Type 0 where
  pub starts : Pair 47 42 s i
  pub after : i + 4 ≤ j
  pub within : j ≤ length s
  pub inside : (k : ℕ) → i + 2 ≤ k → k + 2 < j → Pair 42 47 s k → ⊥
  pub ends : Pair 42 47 s (j - 2)

-- a separator stands from i to j
pub data Separator (s : List ℕ) (i j : ℕ) : Type 0 where
  one : blank (byte s i) ≡ true → j ≡ i + 1 → Separator s i j
  line : Line s i j → Separator s i j
  block : Block s i j → Separator s i j

-- separators, or none, stand from i to j
pub data Gap (s : List ℕ) (i : ℕ) : ℕ → Type 0 where
  none : Gap s i i
  more : {j k : ℕ} → Gap s i j → Separator s j k → Gap s i k
