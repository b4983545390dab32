-- What the bytes that are written for sources say at each place.
use Rattle.std.proofs.Common.{◌≡◌, ℕ, zero, suc, ◌+◌, ◌-◌, ◌*◌, ◌<◌, ◌≤◌, List, [], ◌∷◌, ◌++◌, length, take, drop, replicate, sym, refl, ap, ◌∙◌, add-zero, arith}
use Rattle.std.specs.List.{AllByRecursion as All}
use Rattle.std.proofs.lemmas.List.{append_assoc, length-append, length-replicate, get_or-drop, drop-drop, drop_at, take-replicate, drop-replicate}
use Rattle.std.proofs.lemmas.List.Sums.{sum_by-cons}
use Rattle.text.specs.Names.{byte}
use Rattle.packer.specs.declared.source.Source.{Source}
use Rattle.packer.specs.Rules.{name_of, text_of, bytes}
use Rattle.packer.specs.Written.{number, padded, row_of, rows, texts}

-- each name has room in its row
abbrev pub Short : List Source → Type 0
Short ss = All (λ s. length s.name.now ≤ 32) ss

-- a byte of what is left behind the first n
pub byte_at : (s l : List ℕ) (n i j : ℕ) → drop n s ≡ l → n + i ≡ j → byte s j ≡ byte l i
byte_at s l n i j e p = ap (byte s) (sym p) ∙ sym (get_or-drop n s i 0) ∙ ap (λ m. byte m i) e

pub length_padded : (n : List ℕ) → length n ≤ 32 → length (padded n) ≡ 32
length_padded n h = simp (length-append, length-replicate) (omega arith)

pub length_row : (s : Source) (at : ℕ) → length s.name.now ≤ 32 → length (row_of s at) ≡ 36
length_row s at h =
    let q = number at ++ number (length s.text.now) in
    length-append (padded s.name.now) q ∙ omega (arith, length_padded s.name.now h)

pub length_rows : (ss : List Source) (at : ℕ) → Short ss → length (rows ss at) ≡ 36 * length ss
unfolding rows
length_rows [] at h = refl
length_rows (s ∷ ss) at h =
    let rest = length_rows ss (at + length s.text.now) h.1 in
    length-append (row_of s at) (rows ss (at + length s.text.now)) ∙ omega (arith, rest, length_row s at h.0)

pub length_texts : (ss : List Source) → length (texts ss) ≡ bytes ss
length_texts [] = refl
length_texts (s ∷ ss) =
    let rest = length_texts ss in
    length-append s.text.now (texts ss) ∙ omega (arith, rest, sum_by-cons (λ s. length s.text.now) s ss)

-- the k-th row, with what stands behind it
pub rows_at : (ss : List Source) (at : ℕ) (tail : List ℕ) (k : ℕ) → Short ss → k < length ss → (rest : List ℕ) × (drop (36 * k) (rows ss at ++ tail) ≡ padded (name_of ss k) ++ (number (at + bytes (take k ss)) ++ (number (length (text_of ss k)) ++ rest)))
unfolding rows
rows_at [] at tail k h l = absurd (omega arith)
rows_at (s ∷ ss) at tail zero h l =
    let name = padded s.name.now in
    let size = number (length s.text.now) in
    let behind = rows ss (at + length s.text.now) in (
      behind ++ tail,
      append_assoc (row_of s at) behind tail
          ∙ append_assoc name (number at ++ size) (behind ++ tail)
          ∙ ap (λ n. name ++ (number n ++ (size ++ (behind ++ tail)))) (sym (add-zero at)),
    )
rows_at (s ∷ ss) at tail (suc k) h l =
    let next = at + length s.text.now in
    let told = rows_at ss next tail k h.1 (omega arith) in
    let far : 36 * suc k ≡ 36 + 36 * k = omega arith in
    let sum : next + bytes (take k ss) ≡ at + bytes (s ∷ take k ss) = omega (arith, sum_by-cons (λ s. length s.text.now) s (take k ss)) in
    let past : drop 36 ((row_of s at ++ rows ss next) ++ tail) ≡ rows ss next ++ tail = ap (drop 36) (append_assoc (row_of s at) (rows ss next) tail) ∙ drop_at (row_of s at) (rows ss next ++ tail) 36 (length_row s at h.0) in (
      told.0,
      ap (λ n. drop n ((row_of s at ++ rows ss next) ++ tail)) far
          ∙ sym (drop-drop (36 * k) 36 ((row_of s at ++ rows ss next) ++ tail))
          ∙ ap (drop (36 * k)) past
          ∙ told.1
          ∙ ap (λ n. padded (name_of ss k) ++ (number n ++ (number (length (text_of ss k)) ++ told.0))) sum,
    )

-- the k-th text, with those behind it
pub texts_at : (ss : List Source) (k : ℕ) → k < length ss → (rest : List ℕ) × (drop (bytes (take k ss)) (texts ss) ≡ text_of ss k ++ rest)
texts_at [] k l = absurd (omega arith)
texts_at (s ∷ ss) zero l = (texts ss, refl)
texts_at (s ∷ ss) (suc k) l =
    let told = texts_at ss k (omega arith) in
    let t = s.text.now in (
      told.0,
      ap (λ n. drop n (t ++ texts ss)) (sum_by-cons (λ s. length s.text.now) s (take k ss))
          ∙ sym (drop-drop (bytes (take k ss)) (length t) (t ++ texts ss))
          ∙ ap (drop (bytes (take k ss))) (drop_at t (texts ss) (length t) refl)
          ∙ told.1,
    )

-- the zeros that fill up a name of n bytes
zeros_part : (n : ℕ) → take {A = ℕ} (32 - n) (drop n (replicate 32 0)) ≡ replicate (32 - n) 0
zeros_part n = ap (take {A = ℕ} (32 - n)) (drop-replicate n 32 0) ∙ take-replicate (32 - n) (32 - n) 0 (omega arith)

-- a row, written in four parts
four_parts : (v n p a b : List ℕ) → (((v ++ n) ++ p) ++ a) ++ b ≡ v ++ ((n ++ p) ++ (a ++ b))
four_parts v n p a b = simp append_assoc

pub row_written : (v v1 v2 v3 v4 : List ℕ) (s : Source) (at : ℕ) → v1 ≡ v ++ s.name.now → v2 ≡ v1 ++ take (32 - length s.name.now) (drop (length s.name.now) (replicate 32 0)) → v3 ≡ v2 ++ number at → v4 ≡ v3 ++ number (length s.text.now) → v4 ≡ v ++ row_of s at
row_written v v1 v2 v3 v4 s at e1 e2 e3 e4 =
    let n = s.name.now in
    let zeros : List ℕ = replicate (32 - length n) 0 in
    let size = number (length s.text.now) in
    e4
    ∙ ap (λ u. u ++ size) (e3 ∙ ap (λ u. u ++ number at) (e2 ∙ ap (λ u. v1 ++ u) (zeros_part (length n)) ∙ ap (λ u. u ++ zeros) e1))
    ∙ four_parts v n zeros (number at) size
