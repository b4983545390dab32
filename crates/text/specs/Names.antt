-- Which bytes are a name.
use Rattle.std.specs.Prelude.{◌≡◌, ℕ, ◌<◌, ◌≤◌, true, List, length, slice_index}
use Rattle.std.specs.Char.{is_ascii_alphabetic, is_ascii_alphanumeric}
use Rattle.text.specs.Keywords.{Reserved}

-- the byte at the place i, and 0 past the end
abbrev pub byte : List ℕ → ℕ → ℕ
byte s i = slice_index s i

-- each byte is a letter or a digit
abbrev pub Word : List ℕ → Type 0
Word bs = (k : ℕ) → k < length bs → is_ascii_alphanumeric (byte bs k) ≡ true

-- a letter and then letters or digits, 1 to 32 in all, and no reserved word
pub record Named (bs : List ℕ) : Type 0 where
  pub some : 0 < length bs
  pub first : is_ascii_alphabetic (byte bs 0) ≡ true
  pub word : Word bs
  pub short : length bs ≤ 32
  pub free : Reserved bs → ⊥
