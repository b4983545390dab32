-- Words that agree on a mask have the same number in each field that the mask covers.
use Rattle.std.specs.Prelude.{◌≡◌, ℕ, zero, suc, ◌+◌, ◌/◌, ◌%◌, ◌^◌, ◌<◌, Bool, true, ◌&&◌, ◌==◌}
use Rattle.std.proofs.Common.{ap, sym, ◌∙◌, arith, shr-shr}
use Rattle.std.proofs.lemmas.Nat.{pow_pos, shr_split}
use Rattle.std.proofs.lemmas.Nat.Bits.{bit_at_cat_low, same_from_bits_below}
use Rattle.std.proofs.lemmas.Bool.Decides.{nat_tests}
use Rattle.kit.specs.Bits.{bit, Agree}

-- the mask has a 1 at each of the n places from s on: computes where all are numerals
abbrev pub covers : ℕ → ℕ → ℕ → Bool
covers mask s zero = true
covers mask s (suc n) = bit mask (s + n) == 1 && covers mask s n

covers_at : (mask s n : ℕ) → covers mask s n ≡ true → (b : ℕ) → b < n → bit mask (s + b) ≡ 1
covers_at mask s zero h b l = absurd (omega arith)
covers_at mask s (suc n) h b l = let below = covers_at mask s n in grind (arith, nat_tests)

-- a word's low n bits are its own
pub low_bit : (w n b : ℕ) → b < n → bit (w % 2 ^ n) b ≡ bit w b
low_bit w n b l = sym (bit_at_cat_low (w / 2 ^ n) n (w % 2 ^ n) b l) ∙ ap (λ x. bit x b) (shr_split w n)

low_same : (n i j : ℕ) → ((b : ℕ) → b < n → bit i b ≡ bit j b) → i % 2 ^ n ≡ j % 2 ^ n
low_same n i j e =
    let some : 0 < 2 ^ n = pow_pos n in
    same_from_bits_below n (i % 2 ^ n) (j % 2 ^ n) (omega arith) (omega arith) (λ b l. low_bit i n b l ∙ e b l ∙ sym (low_bit j n b l))

bit_of_field : (x s b : ℕ) → bit (x / 2 ^ s) b ≡ bit x (s + b)
bit_of_field x s b = ap (λ y. y % 2) (shr-shr x s b)

-- the field of n bits from s on
pub field_same : (mask s n i j : ℕ) → covers mask s n ≡ true → Agree mask i j → i / 2 ^ s % 2 ^ n ≡ j / 2 ^ s % 2 ^ n
field_same mask s n i j h agree =
    low_same n (i / 2 ^ s) (j / 2 ^ s) (λ b l. bit_of_field i s b ∙ agree (s + b) (covers_at mask s n h b l) ∙ sym (bit_of_field j s b))
