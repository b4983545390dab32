-- What is wrong first.
use Rattle.std.proofs.Common.{◌≡◌, ℕ, ◌+◌, ◌<◌, ◌≤◌, List, length, Some, None, Option, sym, refl, ap, ◌∙◌, subst, ⊎_elim, arith}
use Rattle.std.proofs.lemmas.Bool.{cases_lt, cases_order}
use Rattle.std.proofs.lemmas.Option.{none-some}
use Rattle.fault.specs.declared.Cause.{Cause}
use Rattle.fault.specs.declared.Cause.TheVariants as cause
use Rattle.fault.specs.declared.Place.{Place}
use Rattle.fault.specs.Faults.{number_of}
use Rattle.kit.specs.Models.{Model}
use Rattle.kit.specs.declared.shape.Pin.{Pin}
use Rattle.catalogue.specs.declared.records.Piece.{Piece}
use Rattle.catalogue.specs.Records.{Records}
use Rattle.wellformed.specs.Places.{Sooner, part, connection, part_place, connection_place}
use Rattle.wellformed.specs.WellFormed.{WellFormed}
use Rattle.joiner.specs.Meaning.{piece, near_pin, near, far_end}
use Rattle.joiner.specs.Search.{chained}
use Rattle.joiner.specs.Slices.{slice_of}
use Rattle.joiner.specs.Rules.{Met, Once, Wrong, no_pin, bad_bits, bad_end, other_width, fed_twice, Breaks, unknown_part, wrong, First}
use Rattle.joiner.proofs.Order.{never_sooner, one_way, connections_sooner, part_sooner, part_behind, one_connection}

-- an answer is not both there and none
pub not_both : {X : Type 0} (o : Option X) (x : X) → o ≡ None → o ≡ Some x → ⊥
not_both o x e f = none-some x (sym e ∙ f)

-- nor two answers
pub one_answer : {X : Type 0} (o : Option X) (x y : X) → o ≡ Some x → o ≡ Some y → x ≡ y
one_answer o x y e f = cc

module _ (m : Model) (s : List ℕ) (r : Records) where
  -- the bits at the near end are there if the pin is and the subscript is allowed
  pub near_of : (i : ℕ) (o : Option Pin) → near_pin m s r i ≡ o → near m s r i ≡ chained o (λ p. slice_of p (connection r i).bits)
  near_of i o e = ap (λ x. chained x (λ p. slice_of p (connection r i).bits)) e

  -- a connection whose ends meet and that feeds nothing again is not wrong
  pub right : (i : ℕ) (k : Cause) → Met m s r i → Once m s r i → Wrong m s r i k → ⊥
  right i k h o (no_pin e) = not_both _ _ (near_of i None e) h.is
  right i k h o (bad_bits p e f) = not_both _ _ (near_of i (Some p) e ∙ f) h.is
  right i k h o (bad_end p e f) = not_both _ _ (ap (far_end m s r i) (same_pin e) ∙ f) h.leads
    where
      same_pin : {q : Pin} → near m s r i ≡ Some q → h.pin ≡ q
      same_pin e = one_answer _ _ _ h.is e
  right i k h o (other_width p f e g n) = n (ap (λ x. x.width) same_far ∙ h.wide ∙ ap (λ x. x.width) same_pin)
    where
      same_pin : h.pin ≡ p
      same_pin = one_answer _ _ _ h.is e

      same_far : f ≡ h.far
      same_far = one_answer _ _ _ g (ap (far_end m s r i) (sym same_pin) ∙ h.leads)
  right i k h o (fed_twice j b x l u v) = o j b x l u v

  -- what is at fault has at least this number
  eight_at : (i : ℕ) (k : Cause) → Wrong m s r i k → 8 ≤ number_of k
  eight_at i k (no_pin e) = omega arith
  eight_at i k (bad_bits p e f) = omega arith
  eight_at i k (bad_end p e f) = omega arith
  eight_at i k (other_width p f e g n) = omega arith
  eight_at i k (fed_twice j b x l u v) = omega arith

  eight : (k : Cause) (x : Place) → Breaks m s r k x → 8 ≤ number_of k
  eight k x (unknown_part p l e) = omega arith
  eight k x (wrong i l n w) = eight_at i k w

  module _ (w : WellFormed s r) where
    -- a part that means nothing, where all before it is right
    pub first_part : (p : ℕ) → p < length r.parts → piece m s r p ≡ None →
        ((q : ℕ) → q < p → (x : Piece) × (piece m s r q ≡ Some x)) → ((i : ℕ) → i < (part r p).connections → Met m s r i) → ((i : ℕ) → i < (part r p).connections → Once m s r i) →
        First (Breaks m s r) cause.UnknownPart (part_place r p)
    first_part p l e known met once = record { broken = unknown_part p l e; soonest = soonest; lowest = λ k b n. omega (arith, eight k (part_place r p) b) }
      where
        soonest : (k : Cause) (y : Place) → Breaks m s r k y → Sooner y (part_place r p) → ⊥
        soonest k y (unknown_part q u f) h =
            ⊎_elim (λ (a : q ≡ p). never_sooner (part_place r p) (subst (λ (x : ℕ). Sooner (part_place r x) (part_place r p)) a h))
            (λ a. ⊎_elim (λ (b : q < p). not_both _ _ f (known q b).1) (λ (b : p < q). one_way _ _ h (w.ordered.parts_rise p q b u)) a)
            (cases_order q p)
        soonest k y (wrong i c u f) h =
            ⊎_elim (λ (a : i < (part r p).connections). right i k (met i a) (once i a) f)
            (λ a. one_way _ _ h (part_sooner s r w p i l a u))
            (cases_lt i (part r p).connections)

    -- a connection that is wrong, where all before it is right
    pub first_connection : (i : ℕ) (k : Cause) → i < length r.connections → Wrong m s r i k → ((l : Cause) → Wrong m s r i l → number_of l < number_of k → ⊥) →
        ((q : ℕ) → q < (connection r i).part + 1 → (x : Piece) × (piece m s r q ≡ Some x)) → ((j : ℕ) → j < i → Met m s r j) → ((j : ℕ) → j < i → Once m s r j) →
        First (Breaks m s r) k (connection_place r i)
    first_connection i k l e low known met once = record { broken = wrong i k l e; soonest = soonest; lowest = λ c b n. lowest c (connection_place r i) b refl n }
      where
        soonest : (c : Cause) (y : Place) → Breaks m s r c y → Sooner y (connection_place r i) → ⊥
        soonest c y (unknown_part q u f) h =
            ⊎_elim (λ (a : q < (connection r i).part + 1). not_both _ _ f (known q a).1)
            (λ a. one_way _ _ h (part_behind s r w i q l (omega arith) u))
            (cases_lt q ((connection r i).part + 1))
        soonest c y (wrong j d u f) h =
            ⊎_elim (λ (a : j ≡ i). never_sooner (connection_place r i) (subst (λ (x : ℕ). Sooner (connection_place r x) (connection_place r i)) a h))
            (λ a. ⊎_elim (λ (b : j < i). right j c (met j b) (once j b) f) (λ (b : i < j). one_way _ _ h (connections_sooner s r w i j b u)) a)
            (cases_order j i)

        lowest : (c : Cause) (y : Place) → Breaks m s r c y → y ≡ connection_place r i → number_of c < number_of k → ⊥
        lowest c y (unknown_part q u f) h n =
            ⊎_elim (λ (a : q < (connection r i).part + 1). not_both _ _ f (known q a).1)
            (λ a. never_sooner (connection_place r i) (subst (λ (x : Place). Sooner (connection_place r i) x) h (part_behind s r w i q l (omega arith) u)))
            (cases_lt q ((connection r i).part + 1))
        lowest c y (wrong j d u f) h n = low c (subst (λ (x : ℕ). Wrong m s r x c) (one_connection s r w i j l u h) f) n
