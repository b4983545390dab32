-- Bits of a word.
use Rattle.std.specs.Prelude.{◌≡◌, ℕ, ◌/◌, ◌%◌, ◌^◌}

-- bit b of the word w
abbrev pub bit : ℕ → ℕ → ℕ
bit w b = w / 2 ^ b % 2

-- the words v and w agree on the mask: they have the same bits wherever it has a 1
abbrev pub Agree : ℕ → ℕ → ℕ → Type 0
Agree mask v w = (b : ℕ) → bit mask b ≡ 1 → bit v b ≡ bit w b
