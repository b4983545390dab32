-- The bytes that are written for sources are a bundle, and its entries are the sources.
use Rattle.std.proofs.Common.{◌≡◌, ℕ, zero, suc, ◌+◌, ◌-◌, ◌*◌, ◌<◌, ◌≤◌, List, [], ◌∷◌, ◌++◌, length, take, drop, replicate, sym, refl, ap, ◌∙◌, subst, add-one, arith}
use Rattle.std.specs.List.{between}
use Rattle.std.specs.Char.{is_ascii_alphanumeric}
use Rattle.std.proofs.lemmas.List.{length-append, drop-drop, drop_at, take_at, take_all, get_or_append_left, get_or-append_right, get_or-replicate}
use Rattle.std.proofs.lemmas.Bool.{both_ways}
use Rattle.text.specs.Names.{byte, Named}
use Rattle.text.specs.Orders.{Before}
use Rattle.bundle.specs.Layout.{Layout, NameStands, EntryStands, Rises, count, row, name, start, size, text, end_before, unpadded}
use Rattle.bundle.proofs.Reading.{unpadded_is}
use Rattle.packer.specs.declared.source.Source.{Source}
use Rattle.packer.specs.Rules.{name_of, text_of, bytes, size_upto}
use Rattle.packer.specs.Written.{number, padded, rows, texts, written, Writable}
use Rattle.packer.proofs.Places.{bytes_more, bytes_within}
use Rattle.packer.proofs.Bytes.{Short, byte_at, length_padded, length_rows, length_texts, rows_at, texts_at}

-- a name has no zero, so the zeros behind it are told from it
no_zero : (n : List ℕ) → Named n → (k : ℕ) → k < length n → byte n k ≡ 0 → ⊥
no_zero n h k l e = both_ways (is_ascii_alphanumeric (byte n k)) (ap is_ascii_alphanumeric e) (h.word k l)

filled : (n : List ℕ) (j : ℕ) → length n ≤ j → j < 32 → byte (padded n) j ≡ 0
filled n j a b =
    get_or-append_right n (replicate (32 - length n) 0) (length n) j 0 refl a
    ∙ get_or-replicate (32 - length n) (j - length n) 0 0 (omega arith)

unpadded_padded : (n : List ℕ) → Named n → unpadded (padded n) ≡ n
unpadded_padded n h =
    let zeros : List ℕ = replicate (32 - length n) 0 in
    let long : length (padded n) ≡ 32 = length_padded n h.short in
    let short = h.short in
    sym (unpadded_is (padded n) (length n) (omega arith)
    (λ k l e. no_zero n h k l (sym (get_or_append_left n zeros 0 k l) ∙ e))
    (λ l. filled n (length n) (omega arith) (omega arith)))
    ∙ take_at n zeros (length n) refl

short_from_named : (ss : List Source) → ((k : ℕ) → k < length ss → Named (name_of ss k)) → Short ss
short_from_named [] h = tt
short_from_named (s ∷ ss) h = ((h 0 (omega arith)).short, short_from_named ss (λ k l. h (suc k) (omega arith)))

module _ (ss : List Source) (w : Writable ss) where
  abbrev s : List ℕ
  s = written ss

  short : Short ss
  short = short_from_named ss w.named

  pub counted : count s ≡ length ss
  counted = omega arith

  long : length s ≡ 2 + 36 * length ss + bytes ss
  long =
      let r = rows ss (2 + 36 * length ss) in
      let a = length-append r (texts ss) in
      omega (arith, a, length_rows ss (2 + 36 * length ss) short, length_texts ss)

  -- the k-th row, with what stands behind it
  row_at : (k : ℕ) → k < length ss → (rest : List ℕ) × (drop (row k) s ≡ padded (name_of ss k) ++ (number (size_upto ss k) ++ (number (length (text_of ss k)) ++ rest)))
  row_at k l =
      let told = rows_at ss (2 + 36 * length ss) (texts ss) k short l in
      (told.0, sym (drop-drop (36 * k) 2 s) ∙ told.1)

  name_field : (k : ℕ) → k < length ss → between (row k) (row k + 32) s ≡ padded (name_of ss k)
  name_field k l =
      let told = row_at k l in
      let wide : row k + 32 - row k ≡ 32 = omega arith in
      ap (λ n. take n (drop (row k) s)) wide
      ∙ ap (take 32) told.1
      ∙ take_at (padded (name_of ss k)) _ 32 (length_padded (name_of ss k) (w.named k l).short)

  pub name_is : (k : ℕ) → k < length ss → name s k ≡ name_of ss k
  name_is k l = ap unpadded (name_field k l) ∙ unpadded_padded (name_of ss k) (w.named k l)

  -- the four bytes behind the name
  fields_at : (k : ℕ) → k < length ss → (rest : List ℕ) × (drop (row k + 32) s ≡ number (size_upto ss k) ++ (number (length (text_of ss k)) ++ rest))
  fields_at k l =
      let told = row_at k l in (
        told.0,
        sym (drop-drop 32 (row k) s)
            ∙ ap (drop 32) told.1
            ∙ drop_at (padded (name_of ss k)) _ 32 (length_padded (name_of ss k) (w.named k l).short),
      )

  pub start_is : (k : ℕ) → k < length ss → start s k ≡ size_upto ss k
  start_is k l =
      let told = fields_at k l in
      let low = byte_at s _ (row k + 32) 0 (row k + 32) told.1 (omega arith) in
      let high = byte_at s _ (row k + 32) 1 (row k + 32 + 1) told.1 refl in
      omega (arith, low, high)

  pub size_is : (k : ℕ) → k < length ss → size s k ≡ length (text_of ss k)
  size_is k l =
      let told = fields_at k l in
      let low = byte_at s _ (row k + 32) 2 (row k + 34) told.1 (omega arith) in
      let high = byte_at s _ (row k + 32) 3 (row k + 34 + 1) told.1 (omega arith) in
      omega (arith, low, high)

  -- where the k-th text starts
  text_at : (k : ℕ) → k < length ss → (rest : List ℕ) × (drop (size_upto ss k) s ≡ text_of ss k ++ rest)
  text_at k l =
      let r = rows ss (2 + 36 * length ss) in
      let before = bytes (take k ss) in
      let told = texts_at ss k l in
      let table = length_rows ss (2 + 36 * length ss) short in (
        told.0,
        sym (drop-drop before (2 + 36 * length ss) s)
            ∙ ap (drop before) (sym (drop-drop (36 * length ss) 2 s) ∙ drop_at r (texts ss) (36 * length ss) table)
            ∙ told.1,
      )

  pub text_is : (k : ℕ) → k < length ss → text s k ≡ text_of ss k
  text_is k l =
      let told = text_at k l in
      let a = start_is k l in
      let b = size_is k l in
      let wide : start s k + size s k - start s k ≡ length (text_of ss k) = omega arith in
      ap (λ n. take n (drop (start s k) s)) wide
      ∙ ap (λ n. take (length (text_of ss k)) (drop n s)) a
      ∙ ap (take (length (text_of ss k))) told.1
      ∙ take_at (text_of ss k) _ (length (text_of ss k)) refl

  end_is : (k : ℕ) → k ≤ length ss → end_before s k ≡ size_upto ss k
  end_is zero l = omega (arith, counted)
  end_is (suc k) l =
      let a = start_is k (omega arith) in
      let b = size_is k (omega arith) in
      omega (arith, a, b, simp add-one at (bytes_more ss k (omega arith)))

  name_stands : (k : ℕ) → k < length ss → NameStands s k
  name_stands k l = record {
    named = subst Named (sym (name_is k l)) (w.named k l);
    padded = λ j a b.
        let told = row_at k l in
        let n = name_of ss k in
        let same = ap length (name_is k l) in
        let wide = length_padded n (w.named k l).short in
        byte_at s _ (row k) j (row k + j) told.1 refl
        ∙ get_or_append_left (padded n) _ 0 j (omega arith)
        ∙ filled n j (omega arith) b;
  }

  rises : (k : ℕ) → k < length ss → Rises s k
  rises zero l h = absurd (omega arith)
  rises (suc k) l h =
      let at : suc k - 1 ≡ k = omega arith in
      let up : Before (name_of ss k) (name_of ss (suc k)) = simp add-one at (w.rises k (omega arith)) in
      subst (λ i. Before (name s i) (name s (suc k))) (sym at)
      (subst (λ m. Before m (name s (suc k))) (sym (name_is k (omega arith)))
      (subst (λ m. Before (name_of ss k) m) (sym (name_is (suc k) l)) up))

  stands : (k : ℕ) → k < length ss → EntryStands s k
  stands k l =
      let a = start_is k l in
      let b = size_is k l in
      let more = bytes_more ss k l in
      let all = bytes_within ss (k + 1) in
      record {
        named = name_stands k l;
        rises = rises k l;
        follows = a ∙ sym (end_is k (omega arith));
        within = omega (arith, long);
      }

  pub layout : Layout s
  layout =
      let few = w.few in
      let small = w.small in
      let end = end_is (length ss) (omega arith) in
      record {
        listed = record {
          counted = omega (arith, long);
          short = omega (arith, long);
          few = omega (arith, counted);
          whole = omega (arith, long, counted);
        };
        stands = λ k l. stands k (omega (arith, counted));
        ends = ap (end_before s) counted ∙ end ∙ ap (λ l. 2 + 36 * length ss + bytes l) (take_all (length ss) ss (omega arith)) ∙ sym long;
      }
