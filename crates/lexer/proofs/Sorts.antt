-- What the bytes of a token are: a name, a number, a reserved word, `..` or a mark.
use Rattle.std.proofs.Common.{◌≡◌, ℕ, zero, suc, ◌<◌, Bool, true, false, ◌&&◌, ◌||◌, eqb, List, [], ◌∷◌, length, codes, sym, refl, ap, ◌∙◌, subst, arith, rules}
use Rattle.std.specs.Char.{is_ascii_digit, is_ascii_alphabetic, is_ascii_alphanumeric}
use Rattle.std.proofs.lemmas.Bool.{both_ways, and_parts}
use Rattle.std.proofs.lemmas.Bool.Decides.{nat_tests}
use Rattle.text.specs.Keywords.{spelling, Reserved}
use Rattle.text.specs.Names.{byte, Word, Named}
use Rattle.text.specs.declared.keyword.Keyword.{Keyword}
use Rattle.text.specs.declared.keyword.Keyword.TheVariants as keyword
use Rattle.lexer.specs.declared.tokens.Token.{Token}
use Rattle.lexer.specs.declared.tokens.Token.TheVariants as token
use Rattle.lexer.specs.Gaps.{blank}
use Rattle.lexer.specs.Lexemes.{Lexeme, name, number, fixed, lexeme}
use Rattle.lexer.specs.Tokens.{Numeral, Spells}

-- the byte is a mark
abbrev pub mark : ℕ → Bool
mark b = eqb b 123 || (eqb b 125 || (eqb b 40 || (eqb b 41 || (eqb b 91 || (eqb b 93 || (eqb b 44 || (eqb b 59 || (eqb b 58 || (eqb b 61)))))))))

-- the bytes are a reserved word, `..` or a mark
pub data Fixed (bs : List ℕ) : Type 0 where
  reserved : Reserved bs → Fixed bs
  dots : bs ≡ codes ".." → Fixed bs
  sign : (b : ℕ) → bs ≡ (b ∷ []) → mark b ≡ true → Fixed bs

-- the bytes are a token, with the lexeme w at i
pub data Sort (i : ℕ) (bs : List ℕ) (w : Lexeme) : Type 0 where
  named : Named bs → w ≡ name i bs → Sort i bs w
  numeral : (n : ℕ) → Numeral bs n → w ≡ number n → Sort i bs w
  kept : Fixed bs → w ≡ fixed bs → Sort i bs w

pub sort : (i : ℕ) (bs : List ℕ) (t : Token) → Spells bs t → Sort i bs (lexeme i t)
sort i bs (token.Name r) h = named h.1 (ap (name i) h.0)
sort i bs (token.Number n) h = numeral n h refl
sort i bs token.Chip h = kept (reserved (keyword.Chip, h)) (ap fixed (sym h))
sort i bs token.In h = kept (reserved (keyword.In, h)) (ap fixed (sym h))
sort i bs token.Out h = kept (reserved (keyword.Out, h)) (ap fixed (sym h))
sort i bs token.Parts h = kept (reserved (keyword.Parts, h)) (ap fixed (sym h))
sort i bs token.Builtin h = kept (reserved (keyword.Builtin, h)) (ap fixed (sym h))
sort i bs token.Clocked h = kept (reserved (keyword.Clocked, h)) (ap fixed (sym h))
sort i bs token.True h = kept (reserved (keyword.True, h)) (ap fixed (sym h))
sort i bs token.False h = kept (reserved (keyword.False, h)) (ap fixed (sym h))
sort i bs token.Dots h = kept (dots h) (ap fixed (sym h))
sort i bs t h = kept (sign _ h refl) (ap fixed (sym h))

pub mark_other : (b : ℕ) → mark b ≡ true → is_ascii_alphanumeric b ≡ false
mark_other b h = grind (arith, nat_tests)

pub mark_stays : (b : ℕ) → mark b ≡ true → blank b ≡ false
mark_stays b h = grind (arith, nat_tests)

pub digit_alnum : (c : ℕ) → is_ascii_digit c ≡ true → is_ascii_alphanumeric c ≡ true
digit_alnum c h = grind (arith, nat_tests)

pub digit_letter : (n : ℕ) → is_ascii_digit n ≡ true → is_ascii_alphabetic n ≡ true → ⊥
digit_letter n h k = grind (arith, nat_tests)

-- whether each byte is a letter or a digit
abbrev every : List ℕ → Bool
every [] = true
every (b ∷ bs) = is_ascii_alphanumeric b && every bs

pub word_by : (bs : List ℕ) → every bs ≡ true → Word bs
word_by [] e k h = absurd (omega arith)
word_by (b ∷ bs) e zero h = (and_parts (is_ascii_alphanumeric b) (every bs) e).0
word_by (b ∷ bs) e (suc k) h = word_by bs (and_parts (is_ascii_alphanumeric b) (every bs) e).1 k (omega arith)

spelling_every : (k : Keyword) → every (spelling k) ≡ true
spelling_every k = search rules

spelling_letter : (k : Keyword) → is_ascii_alphabetic (byte (spelling k) 0) ≡ true
spelling_letter k = grind arith

reserved_word : (bs : List ℕ) → Reserved bs → Word bs
reserved_word bs r = subst Word (sym r.1) (word_by (spelling r.0) (spelling_every r.0))

pub reserved_letter : (bs : List ℕ) → Reserved bs → is_ascii_alphabetic (byte bs 0) ≡ true
reserved_letter bs r = ap (λ l. is_ascii_alphabetic (byte l 0)) r.1 ∙ spelling_letter r.0

-- the three forms of a token's bytes
pub data Form (bs : List ℕ) : Type 0 where
  word : Word bs → Form bs
  dots : bs ≡ codes ".." → Form bs
  sign : (b : ℕ) → mark b ≡ true → bs ≡ (b ∷ []) → Form bs

sort_form : (i : ℕ) (bs : List ℕ) (w : Lexeme) → Sort i bs w → Form bs
sort_form i bs w (named h e) = word h.word
sort_form i bs w (numeral n h e) = word (λ k l. digit_alnum (byte bs k) (h.digits k l))
sort_form i bs w (kept (reserved r) e) = word (reserved_word bs r)
sort_form i bs w (kept (dots d) e) = dots d
sort_form i bs w (kept (sign b d m) e) = sign b m d

pub form : (bs : List ℕ) (t : Token) → Spells bs t → Form bs
form bs t h = sort_form 0 bs (lexeme 0 t) (sort 0 bs t h)

-- a run of letters and digits is no mark
pub no_fixed : (bs : List ℕ) → 0 < length bs → Word bs → (Reserved bs → ⊥) → Fixed bs → ⊥
no_fixed bs some w free f = grind (arith, nat_tests, w 0, mark_other)

-- a byte that is a token and no letter or digit is a mark
pub token_mark : (b : ℕ) (t : Token) → is_ascii_alphanumeric b ≡ false → Spells (b ∷ []) t → mark b ≡ true
token_mark b t a h = let f = form (b ∷ []) t h in grind (arith, both_ways, mark_other)
