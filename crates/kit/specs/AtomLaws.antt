-- The atoms are a sound kit.
use Rattle.std.specs.Prelude.{◌≡◌, ℕ, zero, suc, ◌-◌, ◌*◌, ◌^◌, ◌<◌, ◌≤◌, refl}
use Rattle.std.proofs.Common.{rules, ap₂, true≢false, arith}
use Rattle.kit.specs.Bits.{bit, Agree}
use Rattle.kit.specs.Models.{Unknown, Keeps, Sound}
use Rattle.kit.specs.HeaderLaws.{named_below, widths, header_placed, header_apart}
use Rattle.kit.specs.Atoms.{nand, dff, atom_names, atom_next, atom_out, atom_waits, atoms}

unknown : (k : ℕ) → 2 ≤ k → Unknown atoms k
unknown zero h = absurd (omega arith)
unknown (suc zero) h = absurd (omega arith)
unknown (suc (suc k)) h = search rules

past : (k b : ℕ) → atoms.outputs k ≤ b → atom_waits k b ≡ 0
past zero zero h = absurd (omega arith)
past zero (suc b) h = refl
past (suc k) b h = refl

next_word : (k i s : ℕ) → atom_next k i s < 2 ^ 64
next_word zero i s = omega arith
next_word (suc zero) i s = omega arith
next_word (suc (suc k)) i s = omega arith

waits_word : (k b : ℕ) → atom_waits k b < 2 ^ 64
waits_word zero zero = omega arith
waits_word zero (suc b) = omega arith
waits_word (suc k) b = omega arith

nand_steady : (b : ℕ) → b < 1 → (i j s : ℕ) → Agree (atom_waits 0 b) i j → bit (atom_out 0 i s) b ≡ bit (atom_out 0 j s) b
nand_steady zero h i j s same = ap₂ (λ x y. bit (1 - x * y) 0) (same 0 refl) (same 1 refl)
nand_steady (suc b) h i j s same = absurd (omega arith)

keeps : (k : ℕ) → k < 2 → Keeps atoms k
keeps zero h = record {
  outputs_some = omega arith;
  outputs_most = omega arith;
  inputs_most = omega arith;
  out_within = λ i s. omega arith;
  placed = header_placed nand (widths nand.ins refl) (widths nand.outs refl);
  apart = header_apart nand (widths nand.ins refl) (widths nand.outs refl);
  still = λ e i s. refl;
  steady = nand_steady;
}
keeps (suc zero) h = record {
  outputs_some = omega arith;
  outputs_most = omega arith;
  inputs_most = omega arith;
  out_within = λ i s. omega arith;
  placed = header_placed dff (widths dff.ins refl) (widths dff.outs refl);
  apart = header_apart dff (widths dff.ins refl) (widths dff.outs refl);
  still = λ e. absurd (true≢false e);
  steady = λ b l i j s same. refl;
}
keeps (suc (suc k)) h = absurd (omega arith)

pub atoms_sound : Sound atoms
atoms_sound = record {
  regular = record { few = omega arith; found = named_below atom_names; unknown = unknown; past = past; next_word = next_word; waits_word = waits_word };
  lawful = keeps;
}
