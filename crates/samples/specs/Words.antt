-- A line, and the texts that its words write.
use Rattle.std.specs.Prelude.{◌≡◌, ℕ, ◌+◌, ◌-◌, ◌*◌, ◌/◌, ◌<◌, ◌&&◌, nat_le, cond, List, [], ◌∷◌, ◌++◌, length, drop, slice_index}
use Rattle.std.specs.Char.{is_whitespace, is_not_whitespace}
use Rattle.std.specs.Str.{EmptyOrStartsWithPassing, NoCharPasses}

-- what a digit of `0` to `9` or `a` to `f` counts; any other byte counts 0
unfoldable pub counted : ℕ → ℕ
counted b = cond (nat_le 48 b && nat_le b 57) (b - 48) (cond (nat_le 97 b && nat_le b 102) (b - 87) 0)

-- the byte that the digit at a place and the one behind it write, the high one first
abbrev pub written : List ℕ → ℕ → ℕ
written digits i = counted (slice_index digits i) * 16 + counted (slice_index digits (i + 1))

-- each two digits write a byte; an odd last one writes none
abbrev pub Written : List ℕ → List ℕ → Type 0
Written digits bytes = (length bytes ≡ length digits / 2) × ((k : ℕ) → k < length bytes → slice_index bytes k ≡ written digits (2 * k))

-- a word's digits stand behind its first byte, whatever that is: in samples, an `x`
abbrev pub Writes : List ℕ → List ℕ → Type 0
Writes word bytes = Written (drop 1 word) bytes

-- white space comes first, or nothing at all
abbrev pub Apart : List ℕ → Type 0
Apart rest = (behind : List ℕ) × EmptyOrStartsWithPassing is_whitespace rest behind

-- the words of the line, between white space, write these texts
pub data Lists : List ℕ → List (List ℕ) → Type 0 where
  none : (gap : List ℕ) → NoCharPasses is_not_whitespace gap → Lists gap []
  more : (gap word rest text : List ℕ) (texts : List (List ℕ)) → NoCharPasses is_not_whitespace gap → NoCharPasses is_whitespace word → Apart rest → Writes word text → Lists rest texts → Lists (gap ++ (word ++ rest)) (text ∷ texts)
