-- From each place there is one next token, the end, or a fault, and not two of these.
use Rattle.std.proofs.Common.{◌≡◌, ℕ, true, false, List, length, sym, ap, ◌∙◌, subst, arith}
use Rattle.std.specs.Char.{is_ascii_alphanumeric}
use Rattle.std.specs.List.{between}
use Rattle.std.proofs.lemmas.Bool.{both_ways}
use Rattle.std.proofs.lemmas.Bool.Decides.{nat_tests}
use Rattle.text.specs.Names.{byte, Named}
use Rattle.lexer.specs.declared.tokens.Token.{Token}
use Rattle.lexer.specs.Gaps.{blank, Separator}
use Rattle.lexer.specs.Lexemes.{Lexeme, number, lexeme}
use Rattle.lexer.specs.Steps.{Gives, Ends, Fails}
use Rattle.lexer.specs.Tokens.{Numeral, Spells, Stands}
use Rattle.lexer.proofs.Gapless.{no_separator_past, no_separator, one_gap}
use Rattle.lexer.proofs.Runs.{shape}
use Rattle.lexer.proofs.Sorts.{mark_other, mark_stays, Fixed, Sort, named, numeral, kept, sort, no_fixed, digit_letter, digit_alnum, reserved_letter}

alnum_stays : (b : ℕ) → is_ascii_alphanumeric b ≡ true → blank b ≡ false
alnum_stays b h = grind (arith, nat_tests)

module _ (s : List ℕ) (i : ℕ) where
  -- no separator begins as a token does
  pub token_start : (j : ℕ) (t : Token) → Stands s i j t → (k : ℕ) → Separator s i k → ⊥
  token_start j t h =
      let f = shape s i j t h in
      no_separator s i (grind (arith, both_ways, alnum_stays (byte s i), mark_stays (byte s i))) (grind (arith, nat_tests))

  -- a token at i ends at one place
  pub token_end : (j k : ℕ) (t u : Token) → Stands s i j t → Stands s i k u → j ≡ k
  token_end j k t u g h =
      let a = shape s i j t g in
      let b = shape s i k u h in
      grind (arith, both_ways, mark_other, g.after, h.after)

-- the same bytes are one lexeme
module _ (i : ℕ) (bs : List ℕ) (v w : Lexeme) where
  named_numeral : (n : ℕ) → Named bs → Numeral bs n → ⊥
  named_numeral n h g = digit_letter (byte bs 0) (g.digits 0 g.some) h.first

  named_kept : Named bs → Fixed bs → ⊥
  named_kept h f = no_fixed bs h.some h.word h.free f

  numeral_kept : (n : ℕ) → Numeral bs n → Fixed bs → ⊥
  numeral_kept n g f =
      no_fixed bs g.some (λ k l. digit_alnum (byte bs k) (g.digits k l))
      (λ r. digit_letter (byte bs 0) (g.digits 0 g.some) (reserved_letter bs r)) f

  one_sort : Sort i bs v → Sort i bs w → v ≡ w
  one_sort (named h e) (named g d) = e ∙ sym d
  one_sort (named h e) (numeral n g d) = absurd (named_numeral n h g)
  one_sort (named h e) (kept f d) = absurd (named_kept h f)
  one_sort (numeral n g d) (named h e) = absurd (named_numeral n h g)
  one_sort (numeral n g d) (numeral m h e) = d ∙ ap number (sym g.worth ∙ h.worth) ∙ sym e
  one_sort (numeral n g d) (kept f e) = absurd (numeral_kept n g f)
  one_sort (kept f d) (named h e) = absurd (named_kept h f)
  one_sort (kept f d) (numeral n g e) = absurd (numeral_kept n g f)
  one_sort (kept f d) (kept g e) = d ∙ sym e

-- the next token, the end and the fault are one
pub one_token : {s : List ℕ} {p i j k l : ℕ} {t u : Token} → Gives s p i j t → Gives s p k l u → (i ≡ k) × (j ≡ l) × (lexeme i t ≡ lexeme k u)
one_token {s = s} {i = i} {j = j} {k = k} {l = l} {t = t} {u = u} g h =
    let a = one_gap g.gap h.gap (token_start s i j t g.stands) (token_start s k l u h.stands) in
    let there : Stands s i l u = subst (λ x. Stands s x l u) (sym a) h.stands in
    let b = token_end s i j l t u g.stands there in
    let said : Spells (between i j s) u = subst (λ x. Spells (between i x s) u) (sym b) there.spells in
    (a, b, one_sort i (between i j s) _ _ (sort i _ t g.stands.spells) (sort i _ u said) ∙ ap (λ x. lexeme x u) a)

no_end : {s : List ℕ} (n : ℕ) → Separator s (length s) n → ⊥
no_end {s} n h = no_separator_past s (length s) n (omega arith) h

pub token_or_end : {s : List ℕ} {p i j : ℕ} {t : Token} → Gives s p i j t → Ends s p → ⊥
token_or_end {s = s} {i = i} {j = j} {t = t} g h =
    omega (arith, g.stands.after, g.stands.within, one_gap g.gap h (token_start s i j t g.stands) no_end)

pub token_or_fault : {s : List ℕ} {p i j k : ℕ} {t : Token} → Gives s p i j t → Fails s p k → ⊥
token_or_fault {s = s} {i = i} {j = j} {t = t} g h =
    let a = one_gap g.gap h.gap (token_start s i j t g.stands) h.no_separator in
    h.no_token j t (subst (λ x. Stands s x j t) a g.stands)

pub fault_or_end : {s : List ℕ} {p k : ℕ} → Fails s p k → Ends s p → ⊥
fault_or_end g h = omega (arith, g.within, one_gap g.gap h g.no_separator no_end)

pub one_fault : {s : List ℕ} {p i k : ℕ} → Fails s p i → Fails s p k → i ≡ k
one_fault g h = one_gap g.gap h.gap g.no_separator h.no_separator
