-- Steps of joining: a stage reaches the next, or what is wrong is told.
use Rattle.std.proofs.Common.{◌≡◌, ℕ, ◌+◌, ◌<◌, ◌≤◌, ◌≢◌, List, length, get_or, set, IfSome, Some, None, Option, unwrap_or, sym, refl, ap, ◌∙◌, subst, ⊎_elim, arith, length-set, get_or-set_other, get_or-set_same}
use Rattle.std.specs.Option.{option_or, option_map}
use Rattle.std.specs.Str.{bytes_eq}
use Rattle.std.proofs.lemmas.Bool.{cases_lt}
use Rattle.fault.specs.declared.Cause.{Cause}
use Rattle.fault.specs.declared.Cause.TheVariants as cause
use Rattle.fault.specs.declared.Place.{Place}
use Rattle.fault.specs.Faults.{number_of}
use Rattle.bundle.specs.Layout.{count, name}
use Rattle.kit.specs.Models.{Model}
use Rattle.kit.specs.declared.shape.Pin.{Pin}
use Rattle.catalogue.specs.declared.records.Joint.{Joint}
use Rattle.catalogue.specs.declared.records.Piece.{Piece}
use Rattle.catalogue.specs.declared.records.Piece.TheVariants.{Entry, Kind}
use Rattle.catalogue.specs.declared.records.PinRecord.{PinRecord}
use Rattle.catalogue.specs.declared.records.PartRecord.{PartRecord}
use Rattle.catalogue.specs.declared.records.ConnectionRecord.{ConnectionRecord}
use Rattle.catalogue.specs.Records.{Records, blank_part, blank_connection}
use Rattle.catalogue.specs.Shapes.{joint_of}
use Rattle.wellformed.specs.Places.{part, connection, connection_place}
use Rattle.wellformed.specs.WellFormed.{WellFormed}
use Rattle.wellformed.proofs.Reading.{read_well_formed}
use Rattle.joiner.specs.declared.ends.Far.{Far}
use Rattle.joiner.specs.declared.join_fault.JoinFault.{JoinFault}
use Rattle.joiner.specs.declared.join_fault.JoinFault.TheVariants as refusal
use Rattle.joiner.specs.Search.{chained}
use Rattle.joiner.specs.Slices.{slice_of}
use Rattle.joiner.specs.Meaning.{word, entry_of, piece_of, pin_of, piece, near_pin, near, far_end}
use Rattle.joiner.specs.Feeding.{Feeds, FedBefore, feed}
use Rattle.joiner.specs.Feeders.{Feeders}
use Rattle.joiner.specs.Joined.{with_joint, target_of, joint_by, joined_connection}
use Rattle.joiner.specs.Rules.{Met, Once, Wrong, no_pin, bad_bits, bad_end, other_width, fed_twice}
use Rattle.joiner.specs.Faults.{fault_of}
use Rattle.joiner.specs.Verdicts.{broken, fault_at}
use Rattle.joiner.specs.Scopes.{EntryBelow, OtherTexts}
use Rattle.joiner.specs.Stages.{Upto, Stage, NextStage, NextJoined, LeadsTo, TextFrom, Unjoins}
use Rattle.joiner.proofs.Search.{Found, first_found}
use Rattle.joiner.proofs.Feeders.{feeders}
use Rattle.joiner.proofs.Firsts.{not_both, one_answer, near_of, first_connection}

-- one record more
pub upto_more : {X : Type 0} (f g : ℕ → X) (d : X) (long n : ℕ) (xs : List X) (x : X) → Upto f g d long n xs → n < long → x ≡ f n → Upto f g d long (n + 1) (set xs n x)
upto_more f g d long n xs x u l e =
    let b : n < length xs = omega (arith, u.length_is) in
    record {
      length_is = length-set xs n x ∙ u.length_is;
      done = λ i m. ⊎_elim
          (λ (h : i < n). let ne : i ≢ n = omega arith in rw get_or-set_other (u.done i h))
          (λ (h : n ≤ i). let at : i ≡ n = omega arith in rw at (rw get_or-set_same e))
          (cases_lt i n);
      left = λ i m. let ne : i ≢ n = omega arith in rw get_or-set_other (u.left i (omega arith));
    }

module _ {m : Model} {s : List ℕ} {pins : List PinRecord} {parts : List PartRecord} {cs : List ConnectionRecord} {p n : ℕ} (g : Stage m s pins parts cs p n) where
  abbrev r : Records
  r = g.records

  pub formed : WellFormed s r
  formed = read_well_formed s r g.read

  -- connections that are not joined yet are as they were read
  module _ (i : ℕ) (u : n ≤ i) (l : i < length cs) where
    as_read : get_or cs i blank_connection ≡ connection r i
    as_read = g.connections_are.left i u

    pub read_below : i < length r.connections
    read_below = omega (arith, g.connections_are.length_is)

    pub entry_below : (get_or cs i blank_connection).entry < count s
    entry_below =
        let b = formed.belongs i read_below in
        rw as_read (omega (arith, b.same, formed.part_entry (connection r i).part b.below))

    pub part_below : (get_or cs i blank_connection).part < length parts
    part_below = rw as_read (omega (arith, (formed.belongs i read_below).below, g.parts_are.length_is))

  -- a part that is joined has its piece
  pub piece_is : (q : ℕ) → q < p → piece m s r q ≡ Some (get_or parts q blank_part).piece
  piece_is q l =
      let k = g.known q l in
      k.1 ∙ ap Some (sym (ap (λ x. x.piece) (g.parts_are.done q l) ∙ ap (λ o. unwrap_or o (Entry 0)) k.1))

-- a chip that a name means is an entry of the bundle
pub piece_below : (m : Model) (s n : List ℕ) (x : Piece) → piece_of m s n ≡ Some x → EntryBelow (count s) x
piece_below m s n (Entry e) h = go (entry_of s n) (first_found (λ k. bytes_eq (name s k) n) (count s)) (m.find n) h
  where
    go : (o : Option ℕ) → Found (λ k. bytes_eq (name s k) n) (count s) o → (k : Option ℕ) → option_or (option_map Entry o) (option_map Kind k) ≡ Some (Entry e) → e < count s
    go (Some k) f z h = let is : k ≡ e = cc in omega (arith, f.0)
    go None f (Some k) h = absurd (let z : ◌≡◌ {A = ℕ} 0 1 = cc in omega arith)
    go None f None h = absurd (let z : ◌≡◌ {A = ℕ} 0 1 = cc in omega arith)
piece_below m s n (Kind k) h = tt

-- the next connection, i, whose part is joined
module _ {m : Model} {s : List ℕ} {pins : List PinRecord} {parts : List PartRecord} {cs : List ConnectionRecord} {i : ℕ} (l : i < length cs)
    (g : NextStage m s pins parts cs i) where
  abbrev here : ConnectionRecord
  here = get_or cs i blank_connection

  abbrev of : Piece
  of = (get_or parts here.part blank_part).piece

  -- where it stands, as the code tells it
  abbrev place : Place
  place = record { entry = here.entry; byte = here.name.first }

  abbrev q : Records
  q = g.records

  is : here ≡ connection q i
  is = g.connections_are.left i (omega arith)

  below : i < length q.connections
  below = read_below g i (omega arith) l

  pub of_below : EntryBelow (count s) of
  of_below = piece_below m s _ of (piece_is g here.part (omega arith))

  pin_is : near_pin m s q i ≡ pin_of m s pins of (word s here.entry here.name)
  pin_is =
      ap (λ c. chained (piece m s q c.part) (λ x. pin_of m s q.pins x (word s c.entry c.name))) (sym is)
      ∙ ap (λ o. chained o (λ x. pin_of m s q.pins x (word s here.entry here.name))) (piece_is g here.part (omega arith))
      ∙ ap (λ ps. pin_of m s ps of (word s here.entry here.name)) g.pins_are

  -- it is of the text of its part
  text_is : (connection q i).entry ≡ (part q here.part).entry
  text_is = ((formed g).belongs i below).same ∙ ap (λ c. (part q c.part).entry) (sym is)

  -- the texts of earlier connections
  pub others_at : (n : ℕ) → TextFrom s n here.part → OtherTexts cs n here.entry
  others_at n t j a e =
      let u = g.connections_are in
      let at : (get_or cs j blank_connection).entry ≡ (connection q j).entry = ⊎_elim (λ b. ap (λ c. c.entry) (u.done j b)) (λ b. ap (λ c. c.entry) (u.left j b)) (cases_lt j i) in
      t q g.read j a (sym at ∙ e ∙ ap (λ c. c.entry) is ∙ text_is)

  known : (z : ℕ) → z < (connection q i).part + 1 → (x : Piece) × (piece m s q z ≡ Some x)
  known z h = g.known z (rw is h)

  -- the first fault is this one of the connection
  unjoins : (f : JoinFault) (k : Cause) → fault_of f ≡ fault_at k place → Wrong m s q i k → ((c : Cause) → Wrong m s q i c → number_of c < number_of k → ⊥) → Unjoins m s f
  unjoins f k e w low = record {
    records = q;
    read = g.read;
    cause = k;
    place = connection_place q i;
    unjoined = broken k (connection_place q i) (first_connection m s q (formed g) i k below w low known g.met g.once);
    tells = e ∙ ap (λ c. fault_at k (record { entry = c.entry; byte = c.name.first })) is;
  }

  -- the bytes of the name at the near end, as the code has them
  module _ {b : List ℕ} (named : b ≡ word s here.entry here.name) where
    pin_named : (o : Option Pin) → o ≡ pin_of m s pins of b → near_pin m s q i ≡ o
    pin_named o e = pin_is ∙ ap (pin_of m s pins of) (sym named) ∙ sym e

    pub no_pin_at : None ≡ pin_of m s pins of b → Unjoins m s (refusal.NoSuchPartPin place)
    no_pin_at e = unjoins (refusal.NoSuchPartPin place) cause.NoSuchPartPin refl (no_pin (pin_named None e)) low
      where
        low : (c : Cause) → Wrong m s q i c → number_of c < 9 → ⊥
        low c (no_pin x) n = omega arith
        low c (bad_bits p x y) n = omega arith
        low c (bad_end p x y) n = omega arith
        low c (other_width p f x y z) n = omega arith
        low c (fed_twice j b k u x y) n = omega arith

    -- a lower number than that of a subscript or a far end that is not allowed
    low_pin : (x : Pin) → near_pin m s q i ≡ Some x → (c : Cause) → Wrong m s q i c → number_of c < 10 → ⊥
    low_pin x e c (no_pin y) n = not_both _ _ y e
    low_pin x e c (bad_bits p y z) n = omega arith
    low_pin x e c (bad_end p y z) n = omega arith
    low_pin x e c (other_width p g u y z) n = omega arith
    low_pin x e c (fed_twice j b k u y z) n = omega arith

    pub bad_bits_at : {x : Pin} → Some x ≡ pin_of m s pins of b → None ≡ slice_of x here.bits → Unjoins m s (refusal.BadEnd place)
    bad_bits_at {x} e f =
        unjoins (refusal.BadEnd place) cause.BadEnd refl (bad_bits x (pin_named (Some x) e) (ap (λ c. slice_of x c.bits) (sym is) ∙ sym f)) (low_pin x (pin_named (Some x) e))

    module _ {pin x : Pin} (found : Some pin ≡ pin_of m s pins of b) (sliced : Some x ≡ slice_of pin here.bits) where
      nr : near m s q i ≡ Some x
      nr = near_of m s q i (Some pin) (pin_named (Some pin) found) ∙ ap (λ c. slice_of pin c.bits) (sym is) ∙ sym sliced

      same_near : (y : Pin) → near m s q i ≡ Some y → x ≡ y
      same_near y e = one_answer _ _ _ nr e

      pub bad_end_at : LeadsTo m s pins cs i x None → Unjoins m s (refusal.BadEnd place)
      bad_end_at f =
          unjoins (refusal.BadEnd place) cause.BadEnd refl (bad_end x nr (sym (f q g.pins_are g.connections_are nr))) (low_pin pin (pin_named (Some pin) found))

      module _ {f : Far} (leads : LeadsTo m s pins cs i x (Some f)) where
        fr : Some f ≡ far_end m s q i x
        fr = leads q g.pins_are g.connections_are nr

        low_ends : (c : Cause) → Wrong m s q i c → number_of c < 11 → ⊥
        low_ends c (no_pin y) n = not_both _ _ (near_of m s q i None y) nr
        low_ends c (bad_bits p y z) n = not_both _ _ (near_of m s q i (Some p) y ∙ z) nr
        low_ends c (bad_end p y z) n = not_both _ _ (ap (far_end m s q i) (same_near p y) ∙ z) (sym fr)
        low_ends c (other_width p g e y z) n = omega arith
        low_ends c (fed_twice j b k u y z) n = omega arith

        pub other_width_at : (f.width ≡ x.width → ⊥) → Unjoins m s (refusal.WidthsDiffer place)
        other_width_at ne = unjoins (refusal.WidthsDiffer place) cause.WidthsDiffer refl (other_width x f nr (sym fr) ne) low_ends

        -- the joint, as the code makes it
        module _ {joint : Joint} (made : joint ≡ joint_of x f.target) where
          -- the connection with its joint
          abbrev joined_here : ConnectionRecord
          joined_here = with_joint here joint

          joined_is : joined_here ≡ joined_connection m s q i
          joined_is =
              ap (λ c. with_joint c joint) is
              ∙ ap (with_joint (connection q i)) (made ∙ ap (λ o. joint_of x (target_of o)) fr ∙ ap (joint_by (far_end m s q i)) (sym nr))

          pub fed_from_at : (n : ℕ) → TextFrom s n here.part → IfSome (feed joined_here) (λ k. Feeders parts cs n i k.sink)
          fed_from_at n t =
              subst (λ (c : ConnectionRecord). IfSome (feed c) (λ k. Feeders parts cs n i k.sink)) (sym joined_is)
              (feeders m s q (formed g) (here.part + 1) i n parts cs g.parts_are g.connections_are (λ j a e. t q g.read j a (e ∙ text_is)) below)

          met_here : f.width ≡ x.width → Met m s q i
          met_here e = record { pin = x; is = nr; far = f; leads = sym fr; wide = e }

          pub fed_twice_at : f.width ≡ x.width → FedBefore cs i joined_here → Unjoins m s (refusal.FedTwice place)
          fed_twice_at e b = unjoins (refusal.FedTwice place) cause.FedTwice refl
              (fed_twice b.by b.bit b.sink b.below
              (subst (λ (c : ConnectionRecord). Feeds c b.sink b.bit) (g.connections_are.done b.by b.below) b.feeds)
              (subst (λ (c : ConnectionRecord). Feeds c b.sink b.bit) joined_is b.again))
              low
            where
              low : (c : Cause) → Wrong m s q i c → number_of c < 12 → ⊥
              low c (no_pin y) n = not_both _ _ (near_of m s q i None y) nr
              low c (bad_bits p y z) n = not_both _ _ (near_of m s q i (Some p) y ∙ z) nr
              low c (bad_end p y z) n = not_both _ _ (ap (far_end m s q i) (same_near p y) ∙ z) (sym fr)
              low c (other_width p h y z w) n = right_width p h y z w
                where
                  right_width : (p : Pin) (h : Far) → near m s q i ≡ Some p → far_end m s q i p ≡ Some h → (h.width ≡ p.width → ⊥) → ⊥
                  right_width p h y z w =
                      let u = same_near p y in
                      let v : f ≡ h = one_answer _ _ _ (sym fr) (ap (far_end m s q i) u ∙ z) in
                      w (ap (λ a. a.width) (sym v) ∙ e ∙ ap (λ a. a.width) u)
              low c (fed_twice j b k u y z) n = omega arith

          pub stage_on : f.width ≡ x.width → (FedBefore cs i joined_here → ⊥) → NextJoined m s pins parts cs i joined_here
          stage_on e once = record {
            records = q;
            read = g.read;
            pins_are = g.pins_are;
            parts_are = g.parts_are;
            connections_are = upto_more (joined_connection m s q) (connection q) blank_connection (length q.connections) i cs joined_here g.connections_are below joined_is;
            known = g.known;
            met = λ j h. ⊎_elim (λ (a : j < i). g.met j a) (λ (a : i ≤ j). let at : i ≡ j = omega arith in subst (Met m s q) at (met_here e)) (cases_lt j i);
            once = λ j h. ⊎_elim (λ (a : j < i). g.once j a) (λ (a : i ≤ j). let at : i ≡ j = omega arith in subst (Once m s q) at once_here) (cases_lt j i);
          }
            where
              once_here : Once m s q i
              once_here j b k h u v = once (record {
                by = j;
                below = h;
                sink = k;
                bit = b;
                feeds = subst (λ (c : ConnectionRecord). Feeds c k b) (sym (g.connections_are.done j h)) u;
                again = subst (λ (c : ConnectionRecord). Feeds c k b) (sym joined_is) v;
              })
