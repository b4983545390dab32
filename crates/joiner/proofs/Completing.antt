-- When all is joined, either everything is fed, or the first thing that is left open is told.
use Rattle.std.proofs.Common.{◌≡◌, ℕ, ◌+◌, ◌-◌, ◌<◌, ◌≤◌, ltb, ◌⊎◌, List, length, get_or, Some, None, Option, sym, refl, ap, ◌∙◌, subst, inl, inr, ⊎_elim, arith}
use Rattle.std.specs.List.{All, between}
use Rattle.std.proofs.lemmas.List.{get_or_default}
use Rattle.std.proofs.lemmas.List.FromFn.{fill_by_all}
use Rattle.std.proofs.lemmas.List.Edits.{length-between, get_or-between}
use Rattle.std.proofs.lemmas.Bool.{cond-false, le-ltb}
use Rattle.fault.specs.declared.Cause.{Cause}
use Rattle.fault.specs.declared.Cause.TheVariants as cause
use Rattle.fault.specs.declared.Place.{Place}
use Rattle.fault.specs.Faults.{number_of}
use Rattle.kit.specs.Models.{Model}
use Rattle.catalogue.specs.declared.records.FarEnd.{FarEnd}
use Rattle.catalogue.specs.declared.records.FarEnd.TheVariants as far
use Rattle.catalogue.specs.declared.records.Piece.{Piece}
use Rattle.catalogue.specs.declared.records.Piece.TheVariants.{Entry, Kind}
use Rattle.catalogue.specs.declared.records.PinRecord.{PinRecord}
use Rattle.catalogue.specs.declared.records.PartRecord.{PartRecord}
use Rattle.catalogue.specs.declared.records.ConnectionRecord.{ConnectionRecord}
use Rattle.catalogue.specs.Records.{Records, blank_pin, blank_part, blank_connection}
use Rattle.wellformed.specs.Places.{Sooner, pin, part, connection, pin_place, part_place, connection_place, far_place}
use Rattle.wellformed.specs.WellFormed.{WellFormed}
use Rattle.joiner.specs.declared.feeds.Sink.{Sink}
use Rattle.joiner.specs.declared.feeds.Sink.TheVariants as sink
use Rattle.joiner.specs.declared.feeds.Feed.{Feed}
use Rattle.joiner.specs.declared.join_fault.JoinFault.TheVariants as refusal
use Rattle.joiner.specs.Meaning.{piece}
use Rattle.joiner.specs.Feeding.{Covers, Feeds, OpenIn}
use Rattle.joiner.specs.Joined.{joined_part, joined_connection}
use Rattle.joiner.specs.Rules as rules
use Rattle.joiner.specs.Rules.{Fed, InputBit, declared, built_in, OpenPart, OpenOutput, OpenInternal, LeftOpen, Breaks, unknown_part, wrong}
use Rattle.joiner.specs.Verdicts.{left_open}
use Rattle.joiner.specs.Opens.{bits_at, OpenAsOutput, OpenAsInternal, OpenAsInput, OpenAsPart, line_of, FirstPlace, pin_at, part_at, connection_at, sooner_of}
use Rattle.joiner.specs.Stages.{LineStage, Stage, Complete, Unjoins, Soonest}
use Rattle.joiner.proofs.Decided.{feeds_decided, some_below}
use Rattle.joiner.proofs.Feeders.{feeds_at}
use Rattle.joiner.proofs.Firsts.{not_both, one_answer, right}
use Rattle.joiner.proofs.Order.{sooner_on, sooner_at}
use Rattle.joiner.proofs.Soonest.{Least, Some_at, least_first, least_both}
use Rattle.joiner.proofs.Stages.{formed, piece_is}

-- a bit is fed, or it is not
fed_or_not : (m : Model) (s : List ℕ) (r : Records) (k : Sink) (b : ℕ) → Fed m s r k b ⊎ (Fed m s r k b → ⊥)
fed_or_not m s r k b =
    ⊎_elim (λ h. inl (record { by = h.0; below = h.1; feeds = h.2 })) (λ h. inr (λ f. h f.by f.below f.feeds))
    (some_below (λ j. Feeds (joined_connection m s r j) k b) (λ j. feeds_decided (joined_connection m s r j) k b) (length r.connections))

-- so it is, if it cannot be that it is not
fed_by : (m : Model) (s : List ℕ) (r : Records) (k : Sink) (b : ℕ) → ((Fed m s r k b → ⊥) → ⊥) → Fed m s r k b
fed_by m s r k b h = ⊎_elim (λ f. f) (λ n. absurd (h n)) (fed_or_not m s r k b)

module _ {m : Model} {s : List ℕ} {pins : List PinRecord} {parts : List PartRecord} {cs : List ConnectionRecord} (g : LineStage m s pins parts cs (length parts)) where
  abbrev st : Stage m s pins parts cs (length parts) g.joined
  st = g.stage

  abbrev r : Records
  r = st.records

  well : WellFormed s r
  well = formed st

  parts_long : length parts ≡ length r.parts
  parts_long = st.parts_are.length_is

  all : g.joined ≡ length r.connections
  all = g.at ∙ cond-false (ltb (length parts) (length r.parts)) (part r (length parts)).connections (length r.connections) (le-ltb (length parts) (length r.parts) (omega (arith, parts_long)))

  at_connection : (j : ℕ) → j < length r.connections → get_or cs j blank_connection ≡ joined_connection m s r j
  at_connection j l = st.connections_are.done j (omega (arith, all))

  at_part : (p : ℕ) → p < length parts → get_or parts p blank_part ≡ joined_part m s r p
  at_part p l = st.parts_are.done p l

  at_pin : (i : ℕ) → get_or pins i blank_pin ≡ pin r i
  at_pin i = ap (λ ps. get_or ps i blank_pin) (sym st.pins_are)

  -- some of the connections, among them all that feed the sink
  record Reach (k : Sink) (ds : List ConnectionRecord) : Type 0 where
    within : (i : ℕ) → i < length ds → (j : ℕ) × (j < length r.connections) × (get_or ds i blank_connection ≡ joined_connection m s r j)
    has : (j b : ℕ) → j < length r.connections → Feeds (joined_connection m s r j) k b → (i : ℕ) × (i < length ds) × (get_or ds i blank_connection ≡ joined_connection m s r j)

  all_reach : (k : Sink) → Reach k cs
  all_reach k = record {
    within = λ i l. let n : i < length r.connections = omega (arith, st.connections_are.length_is) in (i, n, at_connection i n);
    has = λ j b l h. (j, omega (arith, st.connections_are.length_is), at_connection j l);
  }

  between_reach : (k : Sink) (from until : ℕ) → until ≤ length cs →
      ((j b : ℕ) → j < length r.connections → Feeds (joined_connection m s r j) k b → (from ≤ j) × (j < until)) → Reach k (between from until cs)
  between_reach k from until u only = record {
    within = λ i l.
        let n : from + i < until = omega (arith, length-between cs from until u) in
        let o : from + i < length r.connections = omega (arith, st.connections_are.length_is) in
        (from + i, o, get_or-between cs from until i blank_connection n ∙ at_connection (from + i) o);
    has = λ j b l h.
        let a = only j b l h in
        let i : ℕ = j - from in
        let n : from + i < until = omega (arith, a.0, a.1) in
        let e : from + i ≡ j = omega (arith, a.0) in
        (i, omega (arith, length-between cs from until u), get_or-between cs from until i blank_connection n ∙ ap (λ x. get_or cs x blank_connection) e ∙ at_connection j l);
  }

  pub lines_within : All (λ p. p.connections + p.count ≤ length cs) parts
  lines_within p d l = rw (get_or_default parts p d blank_part l, at_part p l) (omega (arith, (well.lines p (omega (arith, parts_long))).within, st.connections_are.length_is))

  -- a part is fed within its line
  line_reach : (p : ℕ) → p < length parts → Reach (sink.PartInputs p) (line_of (get_or parts p blank_part) cs)
  line_reach p l = rw (at_part p l) (between_reach (sink.PartInputs p) (part r p).connections ((part r p).connections + (part r p).count)
      (omega (arith, (well.lines p (omega (arith, parts_long))).within, st.connections_are.length_is))
      (λ j b n h.
      let e : (connection r j).part ≡ p = feeds_at m s r j (sink.PartInputs p) b h in
      let a = well.belongs j n in
      (omega (arith, a.from, ap (λ x. (part r x).connections) e), omega (arith, a.until, ap (λ x. (part r x).connections) e, ap (λ x. (part r x).count) e))))

  -- an internal pin is fed from its first mention on
  internal_reach : (i : ℕ) → Reach (sink.Internal i) (between i (length cs) cs)
  internal_reach i = between_reach (sink.Internal i) i (length cs) (omega arith) (λ j b n h. (feeds_at m s r j (sink.Internal i) b h, omega (arith, st.connections_are.length_is)))

  -- a bit that none of them feeds, and one that is not fed
  unfed_in : (ds : List ConnectionRecord) (f : Feed) (b : ℕ) → Reach f.sink ds → ((j : ℕ) → j < length ds → Feeds (get_or ds j blank_connection) f.sink b → ⊥) → Fed m s r f.sink b → ⊥
  unfed_in ds f b a h k =
      let x = a.has k.by b k.below k.feeds in
      h x.0 x.1 (subst (λ (c : ConnectionRecord). Feeds c f.sink b) (sym x.2) k.feeds)

  open_in : (ds : List ConnectionRecord) (f : Feed) (b : ℕ) → Reach f.sink ds → Covers f f.sink b → (Fed m s r f.sink b → ⊥) → OpenIn ds f
  open_in ds f b a c h = record {
    bit = b;
    among = c;
    unfed = λ j l k.
        let x = a.within j l in
        h (record { by = x.0; below = x.1; feeds = subst (λ (c : ConnectionRecord). Feeds c f.sink b) x.2 k });
  }

  -- what is left open, as it is found and as it is meant
  output_open : (i : ℕ) → OpenAsOutput cs (get_or pins i blank_pin) → OpenOutput m s r i
  output_open i h =
      let k : OpenAsOutput cs (pin r i) = subst (OpenAsOutput cs) (at_pin i) h in
      record { bit = k.unfed.bit; side = k.side; has = (k.unfed.among.1, k.unfed.among.2); unfed = unfed_in cs (bits_at (sink.ChipOutputs (pin r i).entry) (pin r i)) k.unfed.bit (all_reach _) k.unfed.unfed }

  open_output : (i : ℕ) → OpenOutput m s r i → OpenAsOutput cs (get_or pins i blank_pin)
  open_output i h =
      subst (OpenAsOutput cs) (sym (at_pin i)) (record { side = h.side; unfed = open_in cs (bits_at (sink.ChipOutputs (pin r i).entry) (pin r i)) h.bit (all_reach _) (refl, h.has.0, h.has.1) h.unfed })

  internal_open : (i : ℕ) → i < length r.connections → OpenAsInternal cs i → OpenInternal m s r i
  internal_open i l h = record {
    first = ap (λ c. c.joint.target) (sym (at_connection i l)) ∙ h.first;
    unfed =
        let e : h.unfed.bit ≡ 0 = omega (arith, h.unfed.among.1, h.unfed.among.2) in
        subst (λ (b : ℕ). Fed m s r (sink.Internal i) b → ⊥) e (unfed_in (between i (length cs) cs) (record { sink = sink.Internal i; first = 0; width = 1 }) h.unfed.bit (internal_reach i) h.unfed.unfed);
  }

  open_internal : (i : ℕ) → i < length r.connections → OpenInternal m s r i → OpenAsInternal cs i
  open_internal i l h = record {
    first = ap (λ c. c.joint.target) (at_connection i l) ∙ h.first;
    unfed = open_in (between i (length cs) cs) (record { sink = sink.Internal i; first = 0; width = 1 }) 0 (internal_reach i) (refl, omega arith, omega arith) h.unfed;
  }

  piece_at : (p : ℕ) → p < length parts → piece m s r p ≡ Some (get_or parts p blank_part).piece
  piece_at p l = piece_is st p l

  abbrev line : ℕ → List ConnectionRecord
  line p = line_of (get_or parts p blank_part) cs

  part_open : (p : ℕ) → p < length parts → OpenAsPart m pins (line p) p (get_or parts p blank_part).piece → OpenPart m s r p
  part_open p l h = go (get_or parts p blank_part).piece (piece_at p l) h
    where
      go : (x : Piece) → piece m s r p ≡ Some x → OpenAsPart m pins (line p) p x → OpenPart m s r p
      go (Entry e) k o =
          let i = o.number in
          let h : OpenAsInput (line p) p e (pin r i) = subst (OpenAsInput (line p) p e) (at_pin i) o.open_at in
          record {
            bit = h.unfed.bit;
            piece_is = Entry (pin r i).entry;
            means = k ∙ ap (λ z. Some (Entry z)) (sym h.own);
            input = declared i h.unfed.bit (omega (arith, o.below, ap length st.pins_are)) h.side (h.unfed.among.1, h.unfed.among.2);
            unfed = unfed_in (line p) (bits_at (sink.PartInputs p) (pin r i)) h.unfed.bit (line_reach p l) h.unfed.unfed;
          }
      go (Kind e) k o = record {
        bit = o.bit;
        piece_is = Kind e;
        means = k;
        input = built_in e o.bit (omega (arith, o.among.2));
        unfed = unfed_in (line p) (record { sink = sink.PartInputs p; first = 0; width = m.inputs e }) o.bit (line_reach p l) o.unfed;
      }

  open_part : (p : ℕ) → p < length parts → OpenPart m s r p → OpenAsPart m pins (line p) p (get_or parts p blank_part).piece
  open_part p l h = subst (OpenAsPart m pins (line p) p) (one_answer _ _ _ h.means (piece_at p l)) (go h.piece_is h.input)
    where
      go : (x : Piece) → InputBit m s r x h.bit → OpenAsPart m pins (line p) p x
      go x (declared i b n d e) = record {
        number = i;
        below = omega (arith, n, ap length st.pins_are);
        open_at = subst (OpenAsInput (line p) p (pin r i).entry) (sym (at_pin i)) (record { side = d; own = refl; unfed = open_in (line p) (bits_at (sink.PartInputs p) (pin r i)) h.bit (line_reach p l) (refl, e.0, e.1) h.unfed });
      }
      go x (built_in k b n) = open_in (line p) (record { sink = sink.PartInputs p; first = 0; width = m.inputs k }) h.bit (line_reach p l) (refl, omega arith, omega arith) h.unfed

  -- far ends rise
  far_rise : (i j : ℕ) → i < j → j < length r.connections → Sooner (far_place r i) (far_place r j)
  far_rise i j l n = go (connection r j).far refl
    where
      before : Sooner (far_place r i) (connection_place r j)
      before = well.ordered.connections_rise i j l n

      go : (f : FarEnd) → (connection r j).far ≡ f → Sooner (far_place r i) (far_place r j)
      go (far.Constant b) e = rw e before
      go (far.Pin x b) e = sooner_on _ _ _ before (well.ordered.far_behind j x b n e)

  -- the three kinds of what is left open
  abbrev Outputs : Place → Type 0
  Outputs = Some_at (λ i. OpenAsOutput cs (get_or pins i blank_pin)) (λ i. pin_at (get_or pins i blank_pin)) (length pins)

  abbrev Parts : Place → Type 0
  Parts = Some_at (λ p. OpenAsPart m pins (line p) p (get_or parts p blank_part).piece) (λ p. part_at (get_or parts p blank_part)) (length parts)

  abbrev Internals : Place → Type 0
  Internals = Some_at (OpenAsInternal cs) (λ i. connection_at (get_or cs i blank_connection)) (length cs)

  abbrev Any : Place → Type 0
  Any y = Outputs y ⊎ (Parts y ⊎ Internals y)

  -- where they stand
  pin_stands : (i : ℕ) → pin_at (get_or pins i blank_pin) ≡ pin_place r i
  pin_stands i = ap pin_at (at_pin i)

  part_stands : (p : ℕ) → p < length parts → part_at (get_or parts p blank_part) ≡ part_place r p
  part_stands p l = ap part_at (at_part p l)

  far_stands : (i : ℕ) → i < length cs → connection_at (get_or cs i blank_connection) ≡ far_place r i
  far_stands i l = ap connection_at (at_connection i (omega (arith, st.connections_are.length_is)))

  is_open : (y : Place) → Any y → LeftOpen m s r cause.LeftOpen y
  is_open y (inl h) = rw (h.is, pin_stands h.item) (rules.output h.item (omega (arith, h.below, ap length st.pins_are)) (output_open h.item h.holds))
  is_open y (inr (inl h)) = rw (h.is, part_stands h.item h.below) (rules.part h.item (omega (arith, h.below, parts_long)) (part_open h.item h.below h.holds))
  is_open y (inr (inr h)) =
      let n : h.item < length r.connections = omega (arith, h.below, st.connections_are.length_is) in
      rw (h.is, far_stands h.item h.below) (rules.internal h.item n (internal_open h.item n h.holds))

  open_is : (k : Cause) (y : Place) → LeftOpen m s r k y → Any y
  open_is k y (rules.output i l h) = inl (record { item = i; below = omega (arith, ap length st.pins_are); holds = open_output i h; is = sym (pin_stands i) })
  open_is k y (rules.part p l h) =
      let n : p < length parts = omega (arith, parts_long) in
      inr (inl (record { item = p; below = n; holds = open_part p n h; is = sym (part_stands p n) }))
  open_is k y (rules.internal i l h) =
      let n : i < length cs = omega (arith, st.connections_are.length_is) in
      inr (inr (record { item = i; below = n; holds = open_internal i l h; is = sym (far_stands i n) }))

  -- no other number is told
  thirteen : (k : Cause) (y : Place) → LeftOpen m s r k y → number_of k < 13 → ⊥
  thirteen k y (rules.output i l h) n = omega arith
  thirteen k y (rules.part p l h) n = omega arith
  thirteen k y (rules.internal i l h) n = omega arith

  unbroken : (k : Cause) (y : Place) → Breaks m s r k y → ⊥
  unbroken k y (unknown_part p l e) = not_both _ _ e (st.known p (omega (arith, parts_long))).1
  unbroken k y (wrong i c l w) = right m s r i k (st.met i (omega (arith, all))) (st.once i (omega (arith, all))) w

  complete : ((y : Place) → Any y → ⊥) → Complete m s pins parts cs
  complete none =
      let closed : (k : Cause) (y : Place) → LeftOpen m s r k y → ⊥ = λ k y h. none y (open_is k y h) in
      record {
        records = r;
        read = st.read;
        joins = record {
          known = λ p l. st.known p (omega (arith, parts_long));
          met = λ i l. st.met i (omega (arith, all));
          once = λ i l. st.once i (omega (arith, all));
          inputs_fed = λ p b x l e i. fed_by m s r (sink.PartInputs p) b (λ n. closed _ _ (rules.part p l (record { bit = b; piece_is = x; means = e; input = i; unfed = n })));
          outputs_fed = λ i b l d h. fed_by m s r (sink.ChipOutputs (pin r i).entry) b (λ n. closed _ _ (rules.output i l (record { bit = b; side = d; has = h; unfed = n })));
          internals_fed = λ i l e. fed_by m s r (sink.Internal i) 0 (λ n. closed _ _ (rules.internal i l (record { first = e; unfed = n })));
        };
        pins_are = sym st.pins_are;
        parts_are = fill_by_all (joined_part m s r) parts (length r.parts) blank_part parts_long (λ p l. at_part p (omega (arith, parts_long)));
        connections_are = fill_by_all (joined_connection m s r) cs (length r.connections) blank_connection st.connections_are.length_is at_connection;
      }

  refused : (x : Place) → Any x → ((y : Place) → Any y → Sooner y x → ⊥) → Unjoins m s (refusal.LeftOpen x)
  refused x h first = record {
    records = r;
    read = st.read;
    cause = cause.LeftOpen;
    place = x;
    unjoined = left_open cause.LeftOpen x unbroken (record { broken = is_open x h; soonest = λ l y k. first y (open_is l y k); lowest = λ l k. thirteen l x k });
    tells = refl;
  }

  pub soonest : (a b c : Option Place) →
      FirstPlace (λ i. OpenAsOutput cs (get_or pins i blank_pin)) (λ i. pin_at (get_or pins i blank_pin)) (length pins) a →
      FirstPlace (λ p. OpenAsPart m pins (line p) p (get_or parts p blank_part).piece) (λ p. part_at (get_or parts p blank_part)) (length parts) b →
      FirstPlace (OpenAsInternal cs) (λ i. connection_at (get_or cs i blank_connection)) (length cs) c → Soonest m s pins parts cs (sooner_of a (sooner_of b c))
  soonest a b c x y z = go (sooner_of a (sooner_of b c))
      (least_both Outputs _ a (sooner_of b c) (least_first _ _ (length pins) a pins_rise x) (least_both Parts Internals b c (least_first _ _ (length parts) b parts_rise y) (least_first _ _ (length cs) c fars_rise z)))
    where
      pins_rise : (i j : ℕ) → i < j → j < length pins → Sooner (pin_at (get_or pins i blank_pin)) (pin_at (get_or pins j blank_pin))
      pins_rise i j l n = sooner_at _ _ _ _ (pin_stands i) (pin_stands j) (well.ordered.pins_rise i j l (omega (arith, ap length st.pins_are)))

      parts_rise : (i j : ℕ) → i < j → j < length parts → Sooner (part_at (get_or parts i blank_part)) (part_at (get_or parts j blank_part))
      parts_rise i j l n = sooner_at _ _ _ _ (part_stands i (omega arith)) (part_stands j n) (well.ordered.parts_rise i j l (omega (arith, parts_long)))

      fars_rise : (i j : ℕ) → i < j → j < length cs → Sooner (connection_at (get_or cs i blank_connection)) (connection_at (get_or cs j blank_connection))
      fars_rise i j l n = sooner_at _ _ _ _ (far_stands i (omega arith)) (far_stands j n) (far_rise i j l (omega (arith, st.connections_are.length_is)))

      go : (o : Option Place) → Least Any o → Soonest m s pins parts cs o
      go None h = complete h
      go (Some p) h = refused p h.0 h.1
