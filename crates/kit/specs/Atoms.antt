-- The two atoms: Nand, and DFF, which holds a bit from one cycle to the next.
use Rattle.std.specs.Prelude.{ℕ, zero, suc, ◌-◌, ◌*◌, Bool, true, false, List, [], ◌∷◌, codes, Option, position}
use Rattle.std.specs.Str.{bytes_eq}
use Rattle.kit.specs.declared.atoms.Atom.{Atom}
use Rattle.kit.specs.declared.atoms.Atom.TheVariants.{Nand, Dff}
use Rattle.kit.specs.Bits.{bit}
use Rattle.kit.specs.Models.{Model}
use Rattle.kit.specs.Headers.{Header, bits, pin_of}

abbrev pub nand : Header
nand = record {
  ins = record { name = codes "a"; width = 1 } ∷ record { name = codes "b"; width = 1 } ∷ [];
  outs = record { name = codes "out"; width = 1 } ∷ [];
}

abbrev pub dff : Header
dff = record {
  ins = record { name = codes "in"; width = 1 } ∷ [];
  outs = record { name = codes "out"; width = 1 } ∷ [];
}

-- the number of a kind
abbrev pub number : Atom → ℕ
number Nand = 0
number Dff = 1

abbrev pub no_header : Header
no_header = record { ins = []; outs = [] }

-- the names of the kinds, which are numbered from 0 in this order
abbrev pub atom_names : List (List ℕ)
atom_names = codes "Nand" ∷ codes "DFF" ∷ []

abbrev pub atom_find : List ℕ → Option ℕ
atom_find name = position (bytes_eq name) atom_names

abbrev pub atom_header : ℕ → Header
atom_header zero = nand
atom_header (suc zero) = dff
atom_header (suc (suc k)) = no_header

abbrev pub atom_clocked : ℕ → Bool
atom_clocked zero = false
atom_clocked (suc zero) = true
atom_clocked (suc (suc k)) = false

abbrev pub atom_out : ℕ → ℕ → ℕ → ℕ
atom_out zero i s = 1 - bit i 0 * bit i 1
atom_out (suc zero) i s = bit s 0
atom_out (suc (suc k)) i s = 0

abbrev pub atom_next : ℕ → ℕ → ℕ → ℕ
atom_next zero i s = 0
atom_next (suc zero) i s = bit i 0
atom_next (suc (suc k)) i s = 0

-- the one output of Nand waits for both inputs, bits 0 and 1
abbrev pub atom_waits : ℕ → ℕ → ℕ
atom_waits zero zero = 3
atom_waits zero (suc b) = 0
atom_waits (suc k) b = 0

abbrev pub atoms : Model
atoms = record {
  count = 2;
  find = atom_find;
  pin = λ k. pin_of (atom_header k);
  inputs = λ k. bits (atom_header k).ins;
  outputs = λ k. bits (atom_header k).outs;
  clocked = atom_clocked;
  out = atom_out;
  next = atom_next;
  waits = atom_waits;
}
