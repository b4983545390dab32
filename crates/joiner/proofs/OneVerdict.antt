-- No bundle has two verdicts.
use Rattle.std.proofs.Common.{◌≡◌, ℕ, ◌-◌, ◌<◌, List, ◌++◌, length, replicate, sym, refl, ap, ◌∙◌, subst, ⊎_elim, append-nil, arith}
use Rattle.std.proofs.lemmas.Bool.{cases_order}
use Rattle.fault.specs.declared.Cause.{Cause}
use Rattle.fault.specs.declared.Place.{Place}
use Rattle.fault.specs.declared.Fault.{Fault}
use Rattle.fault.specs.Faults.{number_of}
use Rattle.fault.proofs.Numbers.{one_cause}
use Rattle.bundle.specs.Layout.{Layout, count}
use Rattle.kit.specs.Models.{Model}
use Rattle.catalogue.specs.Records.{Records, blank_pin, blank_part, blank_connection}
use Rattle.catalogue.specs.declared.room.Counts.{Counts}
use Rattle.catalogue.specs.Holding.{Slices, Enough}
use Rattle.reader.specs.Verdicts as reader
use Rattle.reader.specs.Verdicts.{ReadUpto}
use Rattle.reader.proofs.OneBundle as reading
use Rattle.wellformed.specs.Places.{Sooner}
use Rattle.joiner.specs.Rules as rules
use Rattle.joiner.specs.Rules.{Joins, Breaks, unknown_part, wrong, LeftOpen, First}
use Rattle.joiner.specs.Verdicts.{Accepted, Unjoined, broken, left_open, fault_at, Refusal, unread, unjoined}
use Rattle.joiner.specs.Single.{OneVerdict}
use Rattle.joiner.proofs.Firsts.{not_both, right}
use Rattle.joiner.proofs.Order.{cases_place}

sound : (m : Model) (s : List ℕ) (r : Records) (k : Cause) (x : Place) → Joins m s r → Breaks m s r k x → ⊥
sound m s r k x j (unknown_part p l e) = not_both _ _ e (j.known p l).1
sound m s r k x j (wrong i c l w) = right m s r i k (j.met i l) (j.once i l) w

closed : (m : Model) (s : List ℕ) (r : Records) (k : Cause) (x : Place) → Joins m s r → LeftOpen m s r k x → ⊥
closed m s r k x j (rules.part p l h) = h.unfed (j.inputs_fed p h.bit h.piece_is l h.means h.input)
closed m s r k x j (rules.output i l h) = h.unfed (j.outputs_fed i h.bit l h.side h.has)
closed m s r k x j (rules.internal i l h) = h.unfed (j.internals_fed i l h.first)

-- of whatever can be at fault, one thing is the first
one_first : (B : Cause → Place → Type 0) (k l : Cause) (x y : Place) → First B k x → First B l y → (k ≡ l) × (x ≡ y)
one_first B k l x y f g =
    ⊎_elim (λ (h : Sooner x y). absurd (g.soonest k x f.broken h))
    (λ h. ⊎_elim (λ (e : x ≡ y). (same e, e)) (λ (h : Sooner y x). absurd (f.soonest l y g.broken h)) h)
    (cases_place x y)
  where
    same : x ≡ y → k ≡ l
    same e = ⊎_elim (λ h. one_cause k l h)
        (λ h. absurd (⊎_elim
        (λ (u : number_of k < number_of l). g.lowest k (subst (λ (z : Place). B k z) e f.broken) u)
        (λ (u : number_of l < number_of k). f.lowest l (subst (λ (z : Place). B l z) (sym e) g.broken) u) h))
        (cases_order (number_of k) (number_of l))

-- texts that are read cannot be joined for one reason at most
one_reason : (m : Model) (s : List ℕ) (r : Records) (k l : Cause) (x y : Place) → Unjoined m s r k x → Unjoined m s r l y → (k ≡ l) × (x ≡ y)
one_reason m s r k l x y (broken c a f) (broken d b g) = one_first (Breaks m s r) k l x y f g
one_reason m s r k l x y (broken c a f) (left_open d b n g) = absurd (n k x f.broken)
one_reason m s r k l x y (left_open c a n f) (broken d b g) = absurd (n l y g.broken)
one_reason m s r k l x y (left_open c a n f) (left_open d b o g) = one_first (LeftOpen m s r) k l x y f g

-- records fill memory of their length
whole : {X : Type 0} (xs : List X) (d : X) → xs ≡ xs ++ replicate (length xs - length xs) d
whole xs d = let e : length xs - length xs ≡ 0 = omega arith in rw (e, append-nil) refl

-- a bundle that is read is not refused by reading
read_on : (s : List ℕ) (old : Slices) (r : Records) (f : Fault) → Enough old → Layout s → ReadUpto s (count s) r → reader.Refusal s old f → ⊥
read_on s old r f e l u h =
    reading.read_or_refused s old (record { pins = r.pins; parts = r.parts; connections = r.connections }) _ f
    (record { enough = e; layout = l; records = r; read = u; holds = record { pins = whole r.pins blank_pin; parts = whole r.parts blank_part; connections = whole r.connections blank_connection }; counted = refl }) h

one_refusal : (m : Model) (s : List ℕ) (old : Slices) (f g : Fault) → Refusal m s old f → Refusal m s old g → f ≡ g
one_refusal m s old f g (unread a) (unread b) = reading.one_refusal s old f g a b
one_refusal m s old f g (unread a) (unjoined r k x e l u w t) = absurd (read_on s old r f e l u a)
one_refusal m s old f g (unjoined r k x e l u w t) (unread b) = absurd (read_on s old r g e l u b)
one_refusal m s old f g (unjoined r k x e l u w t) (unjoined q c y d n v z h) =
    let same : r ≡ q = reading.one_reading s (count s) r q u v in
    let one = one_reason m s q k c x y (subst (λ (i : Records). Unjoined m s i k x) same w) z in
    t ∙ ap (λ i. fault_at i x) one.0 ∙ ap (fault_at c) one.1 ∙ sym h

joined_or_refused : (m : Model) (s : List ℕ) (old new : Slices) (n : Counts) (f : Fault) → Accepted m s old new n → Refusal m s old f → ⊥
joined_or_refused m s old new n f a (unread b) = read_on s old a.records f a.enough a.layout a.read b
joined_or_refused m s old new n f a (unjoined r k x e l u w t) =
    let same : a.records ≡ r = reading.one_reading s (count s) a.records r a.read u in
    never (subst (Joins m s) same a.joins) w
  where
    never : Joins m s r → Unjoined m s r k x → ⊥
    never j (broken c y b) = sound m s r k x j b.broken
    never j (left_open c y b o) = closed m s r k x j o.broken

pub one_verdict : OneVerdict
one_verdict = record { sound = sound; closed = closed; one_refusal = one_refusal; joined_or_refused = joined_or_refused }
