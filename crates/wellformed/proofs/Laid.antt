-- Where the lexemes of a text stand: one after another, each behind the one before.
use Rattle.std.proofs.Common.{ℕ, ◌<◌, ◌≤◌, List, [], ◌∷◌, ◌++◌, sym, subst, append_assoc, arith}
use Rattle.std.specs.List.{flat_map}
use Rattle.lexer.specs.Lexemes as lexemes
use Rattle.lexer.specs.Lexemes.{Lexeme, name, number, fixed, lexeme, Lexed}
use Rattle.lexer.proofs.Gapless.{gap_forward}
use Rattle.lexer.proofs.Sorts.{Sort, named, numeral, kept, sort}

-- the lexeme stands from p on and ends at j; of a name its first byte is told
abbrev pub Step : ℕ → Lexeme → ℕ → Type 0
Step p (name i n) j = (p ≤ i) × (i < j)
Step p (number n) j = p ≤ j
Step p (fixed w) j = p ≤ j

-- the lexemes stand somewhere from p to q
pub data Laid : ℕ → List Lexeme → ℕ → Type 0 where
  none : {p q : ℕ} → p ≤ q → Laid p [] q
  next : {p j q : ℕ} {w : Lexeme} {ws : List Lexeme} → Step p w j → Laid j ws q → Laid p (w ∷ ws) q

step_forward : (w : Lexeme) {p j : ℕ} → Step p w j → p ≤ j
step_forward (name i n) h = omega arith
step_forward (number n) h = h
step_forward (fixed w) h = h

step_from : (w : Lexeme) (p q j : ℕ) → p ≤ q → Step q w j → Step p w j
step_from (name i n) p q j l h = omega arith
step_from (number n) p q j l h = omega arith
step_from (fixed w) p q j l h = omega arith

pub forward : {ws : List Lexeme} {p q : ℕ} → Laid p ws q → p ≤ q
forward (none h) = h
forward (next {w = w} h k) = omega (arith, step_forward w h, forward k)

wider : {ws : List Lexeme} {p m n : ℕ} → Laid p ws m → m ≤ n → Laid p ws n
wider (none h) l = none (omega arith)
wider (next h k) l = next h (wider k l)

-- the first lexeme, and what stands behind it
pub first : {w : Lexeme} {ws : List Lexeme} {p q : ℕ} → Laid p (w ∷ ws) q → (j : ℕ) × Step p w j × Laid j ws q
first (next {j = j} h k) = (j, h, k)

pub split : (us vs : List Lexeme) {p q : ℕ} → Laid p (us ++ vs) q → (m : ℕ) × Laid p us m × Laid m vs q
split [] vs {p} h = (p, none (omega arith), h)
split (u ∷ us) vs h =
    let f = first h in
    let k = split us vs f.2 in
    (k.0, next f.1 k.1, k.2)

pub front : (us vs : List Lexeme) {p q : ℕ} → Laid p (us ++ vs) q → Laid p us q
front us vs h = let k = split us vs h in wider k.1 (forward k.2)

-- what the lexer gives stands so
sorted : {w : Lexeme} {q i j : ℕ} {bs : List ℕ} → q ≤ i → i < j → Sort i bs w → Step q w j
sorted {q = q} {j = j} a b (named h e) = subst (λ x. Step q x j) (sym e) (a, b)
sorted {q = q} {j = j} a b (numeral n h e) = subst (λ x. Step q x j) (sym e) (omega arith)
sorted {q = q} {j = j} a b (kept h e) = subst (λ x. Step q x j) (sym e) (omega arith)

behind : (w : Lexeme) {ws : List Lexeme} {p q j : ℕ} → Laid p ws q → Step q w j → Laid p (ws ++ w ∷ []) j
behind w {p = p} {q = q} {j = j} (none h) g = next (step_from w p q j h g) (none (omega arith))
behind w (next h k) g = next h (behind w k g)

pub laid : {s : List ℕ} {p q : ℕ} {ws : List Lexeme} → Lexed s p ws q → Laid p ws q
laid lexemes.none = none (omega arith)
laid (lexemes.more {i = i} {t = t} h g) =
    behind (lexeme i t) (laid h) (sorted (gap_forward g.gap) g.stands.after (sort i _ t g.stands.spells))

-- a row: each item's lexemes stand behind those of the item before
module _ {X : Type 0} (f : X → List Lexeme) where
  pub data Rows : ℕ → List X → ℕ → Type 0 where
    end : {p q : ℕ} → p ≤ q → Rows p [] q
    item : {p m q : ℕ} {x : X} {xs : List X} → Laid p (f x) m → Rows m xs q → Rows p (x ∷ xs) q

  -- written with more behind each than behind the last
  pub rows : (g : X → List Lexeme) → ((x : X) (p q : ℕ) → Laid p (g x) q → Laid p (f x) q) → (xs : List X) (x : X) {p q : ℕ} → Laid p (flat_map g xs ++ f x) q → Rows p (xs ++ x ∷ []) q
  rows g h [] x k = item k (end (omega arith))
  rows g h (y ∷ ys) x {p} {q} k =
      let n = split (g y) (flat_map g ys ++ f x) (simp append_assoc at k) in
      item (h y p n.0 n.1) (rows g h ys x n.2)
