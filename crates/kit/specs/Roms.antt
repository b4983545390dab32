-- A kit over words: one kind, ROM, which answers the word at an address.
use Rattle.std.specs.Prelude.{ℕ, zero, suc, ◌%◌, ◌^◌, false, cond, List, [], ◌∷◌, codes, Option, nat_lt, position, slice_index}
use Rattle.std.specs.Str.{bytes_eq}
use Rattle.kit.specs.Models.{Model}
use Rattle.kit.specs.Headers.{Header, bits, pin_of}
use Rattle.kit.specs.Atoms.{no_header}

abbrev pub rom_names : List (List ℕ)
rom_names = codes "ROM" ∷ []

abbrev pub rom_find : List ℕ → Option ℕ
rom_find name = position (bytes_eq name) rom_names

abbrev pub rom_header : ℕ → Header
rom_header zero = record {
  ins = record { name = codes "address"; width = 15 } ∷ [];
  outs = record { name = codes "out"; width = 16 } ∷ [];
}
rom_header (suc k) = no_header

-- the word at the address in the low 15 bits, or 0 past the end; a word is a number of 16 bits
abbrev pub rom_out : List ℕ → ℕ → ℕ → ℕ → ℕ
rom_out words zero i s = slice_index words (i % 2 ^ 15) % 2 ^ 16
rom_out words (suc k) i s = 0

-- each of the 16 output bits waits for all 15 bits of the address
abbrev pub rom_waits : ℕ → ℕ → ℕ
rom_waits zero b = cond (nat_lt b 16) 32767 0
rom_waits (suc k) b = 0

abbrev pub rom : List ℕ → Model
rom words = record {
  count = 1;
  find = rom_find;
  pin = λ k. pin_of (rom_header k);
  inputs = λ k. bits (rom_header k).ins;
  outputs = λ k. bits (rom_header k).outs;
  clocked = λ k. false;
  out = rom_out words;
  next = λ k i s. 0;
  waits = rom_waits;
}
