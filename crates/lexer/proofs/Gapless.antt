-- Separators: each leads on, none stands past the end, and where they stop is one place alone.
use Rattle.std.proofs.Common.{◌≡◌, ℕ, ◌-◌, ◌<◌, ◌≤◌, true, List, length, refl, ap, subst, arith}
use Rattle.std.proofs.lemmas.List.{get_or_past}
use Rattle.std.proofs.lemmas.Bool.{both_ways}
use Rattle.text.specs.Names.{byte}
use Rattle.lexer.specs.Gaps.{blank, Pair, Line, Block, Separator, one, line, block, Gap, none, more}

pub no_separator : (s : List ℕ) (i : ℕ) → (blank (byte s i) ≡ true → ⊥) → (byte s i ≡ 47 → ⊥) → (k : ℕ) → Separator s i k → ⊥
no_separator s i b c k (one h e) = b h
no_separator s i b c k (line l) = c l.starts.0
no_separator s i b c k (block l) = c l.starts.0

-- a comment that is not closed is no separator
pub unclosed : (s : List ℕ) → byte s 0 ≡ 47 → byte s 1 ≡ 42 → ((k : ℕ) → 2 ≤ k → Pair 42 47 s k → ⊥) → (k : ℕ) → Separator s 0 k → ⊥
unclosed s a b apart k (one h e) = grind arith
unclosed s a b apart k (line l) = omega (arith, l.starts.1)
unclosed s a b apart k (block l) = apart (k - 2) (omega (arith, l.after)) l.ends

pub no_separator_past : (s : List ℕ) (i k : ℕ) → length s ≤ i → Separator s i k → ⊥
no_separator_past s i k h =
    let zero : byte s i ≡ 0 = get_or_past s i 0 h in
    no_separator s i (λ b. both_ways (blank (byte s i)) (ap blank zero) b) (λ e. omega arith) k

separator_forward : (s : List ℕ) (i j : ℕ) → Separator s i j → i < j
separator_forward s i j h = grind arith

pub gap_forward : {s : List ℕ} {i j : ℕ} → Gap s i j → i ≤ j
gap_forward none = omega arith
gap_forward {s} (more {j} {k} g h) = omega (arith, gap_forward g, separator_forward s j k h)

-- two separators at one place are one
line_line : (s : List ℕ) (i j k : ℕ) → Line s i j → Line s i k → j ≡ k
line_line s i j k a b = grind (arith, a.inside k, b.inside j, a.ends, b.ends, a.within, b.within, a.after, b.after)

block_block : (s : List ℕ) (i j k : ℕ) → Block s i j → Block s i k → j ≡ k
block_block s i j k a b = grind (arith, a.inside (k - 2), b.inside (j - 2), a.ends, b.ends, a.after, b.after)

one_separator : (s : List ℕ) (i j k : ℕ) → Separator s i j → Separator s i k → j ≡ k
one_separator s i j k g h = grind (arith, line_line s i j k, block_block s i j k)

-- separators from the front
data Chain (s : List ℕ) : ℕ → ℕ → Type 0 where
  nil : {i : ℕ} → Chain s i i
  cons : {i j k : ℕ} → Separator s i j → Chain s j k → Chain s i k

chain_more : {s : List ℕ} {i j k : ℕ} → Chain s i j → Separator s j k → Chain s i k
chain_more nil h = cons h nil
chain_more (cons g c) h = cons g (chain_more c h)

chain : {s : List ℕ} {i j : ℕ} → Gap s i j → Chain s i j
chain none = nil
chain (more g h) = chain_more (chain g) h

one_end : {s : List ℕ} {i j k : ℕ} → Chain s i j → Chain s i k → ((n : ℕ) → Separator s j n → ⊥) → ((n : ℕ) → Separator s k n → ⊥) → j ≡ k
one_end nil nil b c = refl
one_end nil (cons g d) b c = absurd (b _ g)
one_end (cons g d) nil b c = absurd (c _ g)
one_end {s} {i} (cons {j = m} g d) (cons {j = n} {k = z} h f) b c = one_end d (subst (λ x. Chain s x z) (one_separator s i n m h g) f) b c

pub one_gap : {s : List ℕ} {i j k : ℕ} → Gap s i j → Gap s i k → ((n : ℕ) → Separator s j n → ⊥) → ((n : ℕ) → Separator s k n → ⊥) → j ≡ k
one_gap g h b c = one_end (chain g) (chain h) b c
