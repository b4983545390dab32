-- Names find kinds below the count, and the pins of a header keep the second law.
use Rattle.std.specs.Prelude.{◌≡◌, ℕ, ◌+◌, ◌≤◌, true, List, [], ◌∷◌, Some, length, position, ◌<◌, ◌≢◌}
use Rattle.std.proofs.Common.{arith}
use Rattle.std.proofs.lemmas.Bool.Decides.{nat_tests}
use Rattle.std.specs.Str.{bytes_eq}
use Rattle.std.proofs.lemmas.List.Quantifiers.{position-Some}
use Rattle.std.proofs.lemmas.Slice.Eq.{bytes_eq-Decides}
use Rattle.kit.specs.declared.shape.Side.{Side}
use Rattle.kit.specs.declared.shape.Side.TheVariants.{In, Out}
use Rattle.kit.specs.declared.shape.Pin.{Pin}
use Rattle.kit.specs.Models.{Placed, Apart, Has, on}
use Rattle.kit.specs.Headers.{Listed, Header, bits, sought, pin_of, Widths, narrow}

pub named_below : (names : List (List ℕ)) (name : List ℕ) (k : ℕ) → position (bytes_eq name) names ≡ Some k → k < length names
named_below names name k e = (position-Some (bytes_eq name) names k [] e).0

-- where the widths are numerals, the test computes
pub widths : (ls : List Listed) → narrow ls ≡ true → Widths ls
widths [] e = tt
widths (l ∷ ls) e = let later = widths ls in grind (arith, nat_tests)

-- where a pin stands that is found among those from a first bit on
record Stands (side : Side) (first : ℕ) (ls : List Listed) (p : Pin) : Type 0 where
  its_side : p.side ≡ side
  from : first ≤ p.first
  to : p.first + p.width ≤ first + bits ls
  some : 1 ≤ p.width
  narrow : p.width ≤ 16

stands : (side : Side) (first : ℕ) (ls : List Listed) → Widths ls → (name : List ℕ) (p : Pin) → sought side first ls name ≡ Some p → Stands side first ls p
stands side first [] w name p e = absurd cc
stands side first (l ∷ ls) w name p e = let later = stands side (first + l.width) ls w.2 name p in grind arith

-- two names have no bit of a side in common
sought_apart : (side : Side) (first : ℕ) (ls : List Listed) → Widths ls → (x y : List ℕ) (p q : Pin) (b : ℕ) → Has p b → Has q b → (x ≢ y) → sought side first ls x ≡ Some p → sought side first ls y ≡ Some q → ⊥
sought_apart side first [] w x y p q b in_p in_q ne e d = cc
sought_apart side first (l ∷ ls) w x y p q b in_p in_q ne e d =
    let later = sought_apart side (first + l.width) ls w.2 x y p q b in_p in_q ne in
    let behind_x = stands side (first + l.width) ls w.2 x p in
    let behind_y = stands side (first + l.width) ls w.2 y q in
    grind (arith, bytes_eq-Decides x l.name, bytes_eq-Decides y l.name)

module _ (h : Header) (ins : Widths h.ins) (outs : Widths h.outs) where
  pub header_placed : (name : List ℕ) (p : Pin) → pin_of h name ≡ Some p → Placed p (on p.side (bits h.ins) (bits h.outs))
  header_placed name p e =
      let inward = stands In 0 h.ins ins name p in
      let outward = stands Out 0 h.outs outs name p in
      grind arith

  pub header_apart : (x y : List ℕ) (p q : Pin) → (x ≢ y) → pin_of h x ≡ Some p → pin_of h y ≡ Some q → p.side ≡ q.side → Apart p q
  header_apart x y p q ne e d side b in_p in_q =
      let inward = sought_apart In 0 h.ins ins x y p q b in_p in_q ne in
      let outward = sought_apart Out 0 h.outs outs x y p q b in_p in_q ne in
      let inward_x = stands In 0 h.ins ins x p in
      let inward_y = stands In 0 h.ins ins y q in
      let outward_x = stands Out 0 h.outs outs x p in
      let outward_y = stands Out 0 h.outs outs y q in
      grind arith
