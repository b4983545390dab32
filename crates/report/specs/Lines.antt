-- Lines of a text.
use Rattle.std.specs.Prelude.{◌≡◌, ℕ, zero, suc, ◌+◌, ◌-◌, ◌<◌, ◌≤◌, cond, ◌⊎◌, List, length, ◌==◌, ◌≢◌}
use Rattle.text.specs.Names.{byte}

-- how many newlines are among the first n bytes
abbrev pub newlines : List ℕ → ℕ → ℕ
newlines s zero = 0
newlines s (suc n) = newlines s n + cond (byte s n == 10) 1 0

-- the place i stands in this line, counted from 1, at this column, counted from 1; the line goes from `start` to `end`
pub record LineOf (s : List ℕ) (i line column start end : ℕ) : Type 0 where
  pub counted : line ≡ newlines s i + 1
  pub behind : start ≤ i
  pub begins : (start ≡ 0) ⊎ ((k : ℕ) × (suc k ≡ start) × (byte s k ≡ 10))
  pub before : (k : ℕ) → start ≤ k → k < i → byte s k ≢ 10
  pub across : column ≡ i - start + 1
  pub after : i ≤ end
  pub within : end ≤ length s
  pub inside : (k : ℕ) → i ≤ k → k < end → byte s k ≢ 10
  pub ends : end < length s → byte s end ≡ 10
