-- A ROM over any words is a sound kit.
use Rattle.std.specs.Prelude.{◌≡◌, ℕ, zero, suc, ◌/◌, ◌%◌, ◌^◌, ◌<◌, ◌≤◌, List, slice_index, refl}
use Rattle.std.proofs.Common.{rules, ap, arith}
use Rattle.std.proofs.lemmas.Bool.Decides.{nat_tests}
use Rattle.kit.specs.Bits.{bit, Agree}
use Rattle.kit.specs.Masks.{field_same}
use Rattle.kit.specs.Models.{Unknown, Keeps, Sound}
use Rattle.kit.specs.HeaderLaws.{named_below, widths, header_placed, header_apart}
use Rattle.kit.specs.Roms.{rom_names, rom_header, rom_out, rom_waits, rom}

unknown : (words : List ℕ) (k : ℕ) → 1 ≤ k → Unknown (rom words) k
unknown words zero h = absurd (omega arith)
unknown words (suc k) h = search rules

past : (words : List ℕ) (k b : ℕ) → (rom words).outputs k ≤ b → rom_waits k b ≡ 0
past words zero b h = grind (arith, nat_tests)
past words (suc k) b h = refl

waits_word : (k b : ℕ) → rom_waits k b < 2 ^ 64
waits_word zero b = grind (arith, nat_tests)
waits_word (suc k) b = omega arith

-- all 15 bits of the address agree, so the words are the same
steady : (words : List ℕ) (b : ℕ) → b < 16 → (i j s : ℕ) → Agree (rom_waits 0 b) i j → bit (rom_out words 0 i s) b ≡ bit (rom_out words 0 j s) b
steady words b h i j s same =
    let all : rom_waits 0 b ≡ 32767 = grind (arith, nat_tests) in
    let agree : Agree 32767 i j = rw all at same in
    let address : i / 2 ^ 0 % 2 ^ 15 ≡ j / 2 ^ 0 % 2 ^ 15 = field_same 32767 0 15 i j refl agree in
    ap (λ a. bit (slice_index words a % 2 ^ 16) b) (omega arith)

keeps : (words : List ℕ) (k : ℕ) → k < 1 → Keeps (rom words) k
keeps words zero h = record {
  outputs_some = omega arith;
  outputs_most = omega arith;
  inputs_most = omega arith;
  out_within = λ i s. omega arith;
  placed = header_placed (rom_header 0) (widths (rom_header 0).ins refl) (widths (rom_header 0).outs refl);
  apart = header_apart (rom_header 0) (widths (rom_header 0).ins refl) (widths (rom_header 0).outs refl);
  still = λ e i s. refl;
  steady = steady words;
}
keeps words (suc k) h = absurd (omega arith)

pub rom_sound : (words : List ℕ) → Sound (rom words)
rom_sound words = record {
  regular = record { few = omega arith; found = named_below rom_names; unknown = unknown words; past = past words; next_word = λ k i s. omega arith; waits_word = waits_word };
  lawful = keeps words;
}
