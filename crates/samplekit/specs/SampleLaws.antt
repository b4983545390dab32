-- The sample kit is sound.
use Rattle.std.specs.Prelude.{◌≡◌, ℕ, zero, suc, ◌+◌, ◌/◌, ◌%◌, ◌^◌, ◌<◌, ◌≤◌, refl}
use Rattle.std.proofs.Common.{rules, ap₂, sym, ◌∙◌, true≢false, arith}
use Rattle.std.proofs.Math.Pow.{pow-lt}
use Rattle.std.proofs.lemmas.Nat.Bits.{bit_at-pow_same}
use Rattle.std.proofs.lemmas.Bool.Decides.{nat_tests}
use Rattle.kit.specs.Bits.{bit, Agree}
use Rattle.kit.specs.Masks.{field_same, low_bit}
use Rattle.kit.specs.Models.{Unknown, Keeps, Sound}
use Rattle.kit.specs.HeaderLaws.{named_below, widths, header_placed, header_apart}
use Rattle.samplekit.specs.Samples.{add4, split, reg8, count4, sample_names, sample_next, sample_out, sample_waits, sample}

unknown : (k : ℕ) → 4 ≤ k → Unknown sample k
unknown zero h = absurd (omega arith)
unknown (suc zero) h = absurd (omega arith)
unknown (suc (suc zero)) h = absurd (omega arith)
unknown (suc (suc (suc zero))) h = absurd (omega arith)
unknown (suc (suc (suc (suc k)))) h = search rules

past : (k b : ℕ) → sample.outputs k ≤ b → sample_waits k b ≡ 0
past zero b h = grind (arith, nat_tests)
past (suc zero) b h = grind (arith, nat_tests)
past (suc (suc k)) b h = refl

next_word : (k i s : ℕ) → sample_next k i s < 2 ^ 64
next_word zero i s = omega arith
next_word (suc zero) i s = omega arith
next_word (suc (suc zero)) i s = grind (arith, nat_tests)
next_word (suc (suc (suc zero))) i s = grind (arith, nat_tests)
next_word (suc (suc (suc (suc k)))) i s = omega arith

waits_word : (k b : ℕ) → sample_waits k b < 2 ^ 64
waits_word zero b = grind (arith, nat_tests)
waits_word (suc zero) b = let power : b < 64 → 2 ^ b < 2 ^ 64 = λ l. pow-lt l in grind (arith, nat_tests)
waits_word (suc (suc k)) b = omega arith

-- all 8 input bits agree, so the two numbers are the same
add4_steady : (b : ℕ) → b < 5 → (i j s : ℕ) → Agree (sample_waits 0 b) i j → bit (sample_out 0 i s) b ≡ bit (sample_out 0 j s) b
add4_steady b h i j s same =
    let all : sample_waits 0 b ≡ 255 = grind (arith, nat_tests) in
    let agree : Agree 255 i j = rw all at same in
    let first : i / 2 ^ 0 % 2 ^ 4 ≡ j / 2 ^ 0 % 2 ^ 4 = field_same 255 0 4 i j refl agree in
    let second : i / 2 ^ 4 % 2 ^ 4 ≡ j / 2 ^ 4 % 2 ^ 4 = field_same 255 4 4 i j refl agree in
    ap₂ (λ x y. bit (x + y) b) (omega arith) second

-- the output bit b is the input bit b, on which the words agree
split_steady : (b : ℕ) → b < 16 → (i j s : ℕ) → Agree (sample_waits 1 b) i j → bit (sample_out 1 i s) b ≡ bit (sample_out 1 j s) b
split_steady b h i j s same =
    let one : sample_waits 1 b ≡ 2 ^ b = grind (arith, nat_tests) in
    let agree : Agree (2 ^ b) i j = rw one at same in
    low_bit i 16 b h ∙ agree b (bit_at-pow_same b) ∙ sym (low_bit j 16 b h)

keeps : (k : ℕ) → k < 4 → Keeps sample k
keeps zero h = record {
  outputs_some = omega arith;
  outputs_most = omega arith;
  inputs_most = omega arith;
  out_within = λ i s. omega arith;
  placed = header_placed add4 (widths add4.ins refl) (widths add4.outs refl);
  apart = header_apart add4 (widths add4.ins refl) (widths add4.outs refl);
  still = λ e i s. refl;
  steady = add4_steady;
}
keeps (suc zero) h = record {
  outputs_some = omega arith;
  outputs_most = omega arith;
  inputs_most = omega arith;
  out_within = λ i s. omega arith;
  placed = header_placed split (widths split.ins refl) (widths split.outs refl);
  apart = header_apart split (widths split.ins refl) (widths split.outs refl);
  still = λ e i s. refl;
  steady = split_steady;
}
keeps (suc (suc zero)) h = record {
  outputs_some = omega arith;
  outputs_most = omega arith;
  inputs_most = omega arith;
  out_within = λ i s. omega arith;
  placed = header_placed reg8 (widths reg8.ins refl) (widths reg8.outs refl);
  apart = header_apart reg8 (widths reg8.ins refl) (widths reg8.outs refl);
  still = λ e. absurd (true≢false e);
  steady = λ b l i j s same. refl;
}
keeps (suc (suc (suc zero))) h = record {
  outputs_some = omega arith;
  outputs_most = omega arith;
  inputs_most = omega arith;
  out_within = λ i s. omega arith;
  placed = header_placed count4 (widths count4.ins refl) (widths count4.outs refl);
  apart = header_apart count4 (widths count4.ins refl) (widths count4.outs refl);
  still = λ e. absurd (true≢false e);
  steady = λ b l i j s same. refl;
}
keeps (suc (suc (suc (suc k)))) h = absurd (omega arith)

pub sample_sound : Sound sample
sample_sound = record {
  regular = record { few = omega arith; found = named_below sample_names; unknown = unknown; past = past; next_word = next_word; waits_word = waits_word };
  lawful = keeps;
}
