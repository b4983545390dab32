-- Sources that keep the rules, put in the order of their names.
use Rattle.std.proofs.Common.{◌≡◌, ℕ, ◌+◌, ◌*◌, ◌<◌, ◌≤◌, false, List, [], ◌∷◌, map, length, get_or, Ordering, Less, Equal, Greater, sym, refl, ap, ◌∙◌, subst, arith}
use Rattle.std.specs.Ordering.{is_lt}
use Rattle.std.specs.Str.{bytes_eq}
use Rattle.std.specs.List.{IsDistinct}
use Rattle.std.specs.List.Sorted.{IsPermutation, IsSortedWithin}
use Rattle.std.proofs.lemmas.Cmp.{nat_list_eq_equiv}
use Rattle.std.proofs.lemmas.List.{take_all, length-map, get_or-map, get_or_default}
use Rattle.std.proofs.lemmas.List.Sorted.{length_permutation, IsPermutation-map, All-permutation, Contains-permutation, sum_by-IsPermutation}
use Rattle.std.proofs.lemmas.Map.Keys.{IsDistinct-from_apart, IsDistinct-IsPermutation, apart_from_distinct}
use Rattle.std.proofs.lemmas.Slice.Eq.{bytes_eq-Decides}
use Rattle.std.proofs.lemmas.Bool.{false_from_ne_true, true≢false}
use Rattle.text.specs.Names.{Named}
use Rattle.text.specs.Orders.{order, Before}
use Rattle.text.proofs.Comparing.{same_order, order_flip}
use Rattle.packer.specs.declared.source.Source.{Source}
use Rattle.packer.specs.Rules.{name_of, text_of, bytes, Sound}
use Rattle.packer.specs.Written.{Writable}
use Rattle.packer.proofs.Places.{blank, name_read, text_read}

abbrev names : List Source → List (List ℕ)
names ss = map (λ s. s.name.now) ss

-- no two sources have one name, however they are ordered
distinct : (ss ts : List Source) → Sound ss → IsPermutation ss ts → IsDistinct bytes_eq (names ts)
distinct ss ts h sh =
    IsDistinct-IsPermutation bytes_eq nat_list_eq_equiv.symm (names ss) (names ts) (IsPermutation-map (λ s. s.name.now) ss ts sh)
    (IsDistinct-from_apart bytes_eq (names ss) (λ i j d l m.
    let in_ss : j < length ss = omega (arith, length-map ss (λ s. s.name.now)) in
    false_from_ne_true _ (λ t. (h.keeps j in_ss).new i l
    (get_or_default (names ss) i [] d (omega arith) ∙ (bytes_eq-Decides _ _).0 t ∙ get_or_default (names ss) j d [] m))))

small_from_sound : (ss : List Source) → Sound ss → 2 + 36 * length ss + bytes ss ≤ 65535
small_from_sound [] h = omega arith
small_from_sound (s ∷ ss) h =
    let fits = (h.keeps (length ss) (omega arith)).fits in
    let whole = ap bytes (take_all (length ss + 1) (s ∷ ss) (omega arith)) in
    omega arith

-- not after, and not the same
before_from : (xs ys : List ℕ) (a : Ordering) → order ys xs ≡ a → is_lt a ≡ false → (xs ≡ ys → ⊥) → Before xs ys
before_from xs ys Less p q ne = absurd (true≢false q)
before_from xs ys Equal p q ne = absurd (ne (sym (same_order ys xs p)))
before_from xs ys Greater p q ne = order_flip ys xs p

pub arranged : (ss ts : List Source) (n : ℕ) → Sound ss → IsPermutation ss ts → length ts ≡ n → IsSortedWithin (λ x y. is_lt (order x.name.now y.name.now)) ts 0 n → Writable ts
arranged ss ts n h sh long up =
    let same = length_permutation ss ts sh in
    let sum = sum_by-IsPermutation (λ s. length s.text.now) ss ts sh in
    let small = small_from_sound ss h in
    let named = All-permutation (λ s. Named s.name.now) ss ts sh (λ k d l. subst Named (get_or-map (λ s. s.name.now) ss k d [] l) (h.keeps k l).named) in
    let wide = length-map ts (λ s. s.name.now) in
    record {
      few = omega (arith, h.few);
      named = λ k l. subst Named (name_read ts k l) (named k blank l);
      rises = λ k l.
          let here : k < length ts = omega arith in
          let told = up k blank (omega arith) (omega arith) in
          let at = ap (λ m. is_lt (order m (get_or ts k blank).name.now)) (name_read ts (k + 1) l) ∙ ap (λ m. is_lt (order (name_of ts (k + 1)) m)) (name_read ts k here) in
          let apart = apart_from_distinct bytes_eq (names ts) k (k + 1) [] (distinct ss ts h sh) (omega arith) (omega (arith, wide)) in
          before_from (name_of ts k) (name_of ts (k + 1)) _ refl (sym at ∙ told)
          (λ e. true≢false (sym ((bytes_eq-Decides _ _).1 e) ∙ apart));
      small = omega arith;
    }

-- each source stands somewhere in the other order
pub moved : (ss ts : List Source) → IsPermutation ss ts → (i : ℕ) → i < length ss → (k : ℕ) × (k < length ts) × (name_of ts k ≡ name_of ss i) × (text_of ts k ≡ text_of ss i)
moved ss ts sh i l =
    let x = get_or ss i blank in
    let h = Contains-permutation ss ts x sh (i, l, get_or_default ss i x blank l) in
    let e : get_or ts h.0 blank ≡ x = get_or_default ts h.0 blank x h.1 ∙ h.2 in (
      h.0,
      h.1,
      sym (name_read ts h.0 h.1) ∙ ap (λ s. s.name.now) e ∙ name_read ss i l,
      sym (text_read ts h.0 h.1) ∙ ap (λ s. s.text.now) e ∙ text_read ss i l,
    )
