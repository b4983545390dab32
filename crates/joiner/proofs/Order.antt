-- The order of places, and where records stand in it.
use Rattle.std.proofs.Common.{◌≡◌, ℕ, ◌<◌, ◌≤◌, ◌⊎◌, List, length, sym, refl, ap, ◌∙◌, subst, inl, inr, ⊎_elim, arith}
use Rattle.std.proofs.lemmas.Bool.{cases_lt, cases_order}
use Rattle.fault.specs.declared.Place.{Place}
use Rattle.catalogue.specs.declared.records.FarEnd.{FarEnd}
use Rattle.catalogue.specs.declared.records.FarEnd.TheVariants as far
use Rattle.catalogue.specs.Records.{Records}
use Rattle.wellformed.specs.Places.{Sooner, part, connection, part_place, connection_place, far_place, far_byte}
use Rattle.wellformed.specs.WellFormed.{WellFormed}

pub never_sooner : (x : Place) → Sooner x x → ⊥
never_sooner x (inl h) = omega arith
never_sooner x (inr h) = omega arith

pub sooner_on : (x y z : Place) → Sooner x y → Sooner y z → Sooner x z
sooner_on x y z (inl h) (inl k) = inl (omega arith)
sooner_on x y z (inl h) (inr k) = inl (omega (arith, k.0))
sooner_on x y z (inr h) (inl k) = inl (omega (arith, h.0))
sooner_on x y z (inr h) (inr k) = inr (omega (arith, h.0, k.0), omega (arith, h.1, k.1))

pub entry_upto : (x y : Place) → Sooner x y → x.entry ≤ y.entry
entry_upto x y (inl h) = omega arith
entry_upto x y (inr h) = omega (arith, h.0)

-- the same places under other names
pub sooner_at : (w x y z : Place) → w ≡ y → x ≡ z → Sooner y z → Sooner w x
sooner_at w x y z e f h = subst (λ (a : Place). Sooner a x) (sym e) (subst (λ (a : Place). Sooner y a) (sym f) h)

-- not both ways
pub one_way : (x y : Place) → Sooner x y → Sooner y x → ⊥
one_way x y h k = never_sooner x (sooner_on x y x h k)

-- of two places one is sooner, or they are one
pub cases_place : (x y : Place) → (Sooner x y) ⊎ ((x ≡ y) ⊎ (Sooner y x))
cases_place x y = ⊎_elim
    (λ (e : x.entry ≡ y.entry). ⊎_elim
    (λ (b : x.byte ≡ y.byte). inr (inl (same e b)))
    (λ b. ⊎_elim (λ (l : x.byte < y.byte). inl (inr (e, l))) (λ (l : y.byte < x.byte). inr (inr (inr (sym e, l)))) b)
    (cases_order x.byte y.byte))
    (λ e. ⊎_elim (λ (l : x.entry < y.entry). inl (inl l)) (λ (l : y.entry < x.entry). inr (inr (inl l))) e)
    (cases_order x.entry y.entry)
  where
    same : x.entry ≡ y.entry → x.byte ≡ y.byte → x ≡ y
    same e b =
        let at : ℕ → ℕ → Place = λ n m. record { entry = n; byte = m } in
        ap (λ n. at n x.byte) e ∙ ap (at y.entry) b

module _ (s : List ℕ) (r : Records) (w : WellFormed s r) where
  -- a connection begins no later than its far end
  pub before_far : (i : ℕ) → i < length r.connections → (y : Place) → Sooner (far_place r i) y → Sooner (connection_place r i) y
  before_far i l y = go (connection r i).far refl
    where
      go : (f : FarEnd) → (connection r i).far ≡ f → Sooner (record { entry = (connection r i).entry; byte = far_byte (connection r i).name (connection r i).far }) y → Sooner (connection_place r i) y
      go (far.Constant b) e h = let k = h in rw e at k
      go (far.Pin n b) e h = sooner_on (connection_place r i) (far_place r i) y (w.ordered.far_behind i n b l e) h

  pub connections_sooner : (i j : ℕ) → i < j → j < length r.connections → Sooner (connection_place r i) (connection_place r j)
  connections_sooner i j l m = before_far i (omega arith) (connection_place r j) (w.ordered.connections_rise i j l m)

  -- a part's name stands before its connections and all that follow
  pub part_sooner : (p j : ℕ) → p < length r.parts → (part r p).connections ≤ j → j < length r.connections → Sooner (part_place r p) (connection_place r j)
  part_sooner p j l m n =
      let line = w.lines p l in
      let i = (part r p).connections in
      let here : Sooner (part_place r p) (connection_place r i) =
      subst (λ (q : ℕ). Sooner (part_place r q) (connection_place r i)) (line.own i (omega arith) (omega (arith, line.some))) (w.ordered.in_line i (omega arith)) in
      ⊎_elim
      (λ k. sooner_on (part_place r p) (connection_place r i) (connection_place r j) here (connections_sooner i j k n))
      (λ k. let at : i ≡ j = omega arith in subst (λ (x : ℕ). Sooner (part_place r p) (connection_place r x)) at here)
      (cases_lt i j)

  -- and behind all connections of the parts before
  pub part_behind : (i p : ℕ) → i < length r.connections → (connection r i).part < p → p < length r.parts → Sooner (connection_place r i) (part_place r p)
  part_behind i p l m n = before_far i l (part_place r p) (w.ordered.next_line i p l m n)

  -- connections at one place are one
  pub one_connection : (i j : ℕ) → i < length r.connections → j < length r.connections → connection_place r j ≡ connection_place r i → j ≡ i
  one_connection i j l m e = ⊎_elim (λ x. x)
      (λ x. absurd (⊎_elim
      (λ (k : j < i). never_sooner _ (subst (λ (z : Place). Sooner z (connection_place r i)) e (connections_sooner j i k l)))
      (λ (k : i < j). never_sooner _ (subst (λ (z : Place). Sooner (connection_place r i) z) e (connections_sooner i j k m))) x))
      (cases_order j i)
