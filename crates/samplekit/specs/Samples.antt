-- Kinds with wide pins: two that compute at once, Add4 and Split, and two that hold a number, Reg8 and Count4.
use Rattle.std.specs.Prelude.{ℕ, zero, suc, ◌+◌, ◌/◌, ◌%◌, ◌^◌, Bool, true, false, cond, List, [], ◌∷◌, codes, Option, ◌==◌, nat_lt, position}
use Rattle.std.specs.Str.{bytes_eq}
use Rattle.samplekit.specs.declared.Kind.{Kind}
use Rattle.samplekit.specs.declared.Kind.TheVariants.{Add4, Split, Reg8, Count4}
use Rattle.kit.specs.Bits.{bit}
use Rattle.kit.specs.Models.{Model}
use Rattle.kit.specs.Headers.{Header, bits, pin_of}
use Rattle.kit.specs.Atoms.{no_header}

abbrev pub add4 : Header
add4 = record {
  ins = record { name = codes "a"; width = 4 } ∷ record { name = codes "b"; width = 4 } ∷ [];
  outs = record { name = codes "sum"; width = 4 } ∷ record { name = codes "carry"; width = 1 } ∷ [];
}

abbrev pub split : Header
split = record {
  ins = record { name = codes "in"; width = 16 } ∷ [];
  outs = record { name = codes "low"; width = 8 } ∷ record { name = codes "high"; width = 8 } ∷ [];
}

abbrev pub reg8 : Header
reg8 = record {
  ins = record { name = codes "in"; width = 8 } ∷ record { name = codes "load"; width = 1 } ∷ [];
  outs = record { name = codes "out"; width = 8 } ∷ [];
}

abbrev pub count4 : Header
count4 = record {
  ins = record { name = codes "reset"; width = 1 } ∷ [];
  outs = record { name = codes "out"; width = 4 } ∷ [];
}

-- the number of a kind
abbrev pub number : Kind → ℕ
number Add4 = 0
number Split = 1
number Reg8 = 2
number Count4 = 3

-- the names of the kinds, which are numbered from 0 in this order
abbrev pub sample_names : List (List ℕ)
sample_names = codes "Add4" ∷ codes "Split" ∷ codes "Reg8" ∷ codes "Count4" ∷ []

abbrev pub sample_find : List ℕ → Option ℕ
sample_find name = position (bytes_eq name) sample_names

abbrev pub sample_header : ℕ → Header
sample_header zero = add4
sample_header (suc zero) = split
sample_header (suc (suc zero)) = reg8
sample_header (suc (suc (suc zero))) = count4
sample_header (suc (suc (suc (suc k)))) = no_header

abbrev pub sample_clocked : ℕ → Bool
sample_clocked zero = false
sample_clocked (suc zero) = false
sample_clocked (suc (suc zero)) = true
sample_clocked (suc (suc (suc zero))) = true
sample_clocked (suc (suc (suc (suc k)))) = false

abbrev pub sample_out : ℕ → ℕ → ℕ → ℕ
sample_out zero i s = i % 2 ^ 4 + i / 2 ^ 4 % 2 ^ 4
sample_out (suc zero) i s = i % 2 ^ 16
sample_out (suc (suc zero)) i s = s % 2 ^ 8
sample_out (suc (suc (suc zero))) i s = s % 2 ^ 4
sample_out (suc (suc (suc (suc k)))) i s = 0

-- bit 8 of Reg8 is load, and bit 0 of Count4 is reset
abbrev pub sample_next : ℕ → ℕ → ℕ → ℕ
sample_next zero i s = 0
sample_next (suc zero) i s = 0
sample_next (suc (suc zero)) i s = cond (bit i 8 == 1) (i % 2 ^ 8) (s % 2 ^ 8)
sample_next (suc (suc (suc zero))) i s = cond (bit i 0 == 1) 0 ((s + 1) % 2 ^ 4)
sample_next (suc (suc (suc (suc k)))) i s = 0

-- each output bit of Add4 waits for all 8 input bits, and one of Split for the input bit of its number
abbrev pub sample_waits : ℕ → ℕ → ℕ
sample_waits zero b = cond (nat_lt b 5) 255 0
sample_waits (suc zero) b = cond (nat_lt b 16) (2 ^ b) 0
sample_waits (suc (suc k)) b = 0

abbrev pub sample : Model
sample = record {
  count = 4;
  find = sample_find;
  pin = λ k. pin_of (sample_header k);
  inputs = λ k. bits (sample_header k).ins;
  outputs = λ k. bits (sample_header k).outs;
  clocked = sample_clocked;
  out = sample_out;
  next = sample_next;
  waits = sample_waits;
}
