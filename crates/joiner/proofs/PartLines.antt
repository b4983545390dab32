-- Steps of joining a part line.
use Rattle.std.proofs.Common.{◌≡◌, ℕ, ◌+◌, ◌<◌, ◌≤◌, ltb, List, length, get_or, set, Some, None, unwrap_or, sym, ap, ◌∙◌, subst, ⊎_elim, arith, length-set, get_or-set_same}
use Rattle.std.proofs.lemmas.Bool.{cases_lt, cond-true, lt-ltb}
use Rattle.fault.specs.declared.Cause.TheVariants as cause
use Rattle.bundle.specs.Layout.{count}
use Rattle.kit.specs.Models.{Model}
use Rattle.catalogue.specs.declared.records.Piece.{Piece}
use Rattle.catalogue.specs.declared.records.Piece.TheVariants.{Entry}
use Rattle.catalogue.specs.declared.records.PinRecord.{PinRecord}
use Rattle.catalogue.specs.declared.records.PartRecord.{PartRecord}
use Rattle.catalogue.specs.declared.records.ConnectionRecord.{ConnectionRecord}
use Rattle.catalogue.specs.Records.{Records, blank_part, blank_connection}
use Rattle.wellformed.specs.Places.{part, part_place}
use Rattle.wellformed.specs.WellFormed.{WellFormed}
use Rattle.joiner.specs.declared.join_fault.JoinFault.TheVariants as refusal
use Rattle.joiner.specs.Meaning.{word, piece_of, piece}
use Rattle.joiner.specs.Joined.{with_piece, joined_part}
use Rattle.joiner.specs.Verdicts.{broken, fault_at}
use Rattle.joiner.specs.Scopes.{OtherTexts}
use Rattle.joiner.specs.Stages.{Stage, NextStage, NextJoined, LineStage, TextFrom, Unjoins}
use Rattle.joiner.proofs.Firsts.{first_part}
use Rattle.joiner.proofs.Stages.{upto_more, formed, entry_below, others_at}

-- the part p, which is the next
module _ {m : Model} {s : List ℕ} {pins : List PinRecord} {parts : List PartRecord} {cs : List ConnectionRecord} {p : ℕ} (l : p < length parts) (g : LineStage m s pins parts cs p) where
  abbrev here : PartRecord
  here = get_or parts p blank_part

  abbrev st : Stage m s pins parts cs p g.joined
  st = g.stage

  abbrev q : Records
  q = st.records

  is : here ≡ part q p
  is = st.parts_are.left p (omega arith)

  below : p < length q.parts
  below = omega (arith, st.parts_are.length_is)

  well : WellFormed s q
  well = formed st

  -- its connections are the next
  start : g.joined ≡ here.connections
  start = g.at ∙ cond-true (ltb p (length q.parts)) (part q p).connections (length q.connections) (lt-ltb p (length q.parts) below) ∙ ap (λ x. x.connections) (sym is)

  pub chip_below : here.entry < count s
  chip_below = rw is (well.part_entry p below)

  pub line_within : here.connections + here.count ≤ length cs
  line_within = rw is (omega (arith, (well.lines p below).within, st.connections_are.length_is))

  named : piece_of m s (word s here.entry here.name) ≡ piece m s q p
  named = ap (λ x. piece_of m s (word s x.entry x.name)) is

  -- the bytes of its name, as the code has them
  module _ {b : List ℕ} (bytes : b ≡ word s here.entry here.name) where
    pub unknown_at : None ≡ piece_of m s b → Unjoins m s (refusal.UnknownPart (record { entry = here.entry; byte = here.name.first }))
    unknown_at e =
        let ready : (i : ℕ) → i < (part q p).connections → i < g.joined = λ i h. omega (arith, start, ap (λ x. x.connections) is) in
        record {
          records = q;
          read = st.read;
          cause = cause.UnknownPart;
          place = part_place q p;
          unjoined = broken cause.UnknownPart (part_place q p) (first_part m s q well p below (sym named ∙ ap (piece_of m s) (sym bytes) ∙ sym e) st.known (λ i h. st.met i (ready i h)) (λ i h. st.once i (ready i h)));
          tells = ap (λ x. fault_at cause.UnknownPart (record { entry = x.entry; byte = x.name.first })) is;
        }

    pub stage_in : {x : Piece} → Some x ≡ piece_of m s b → Stage m s pins (set parts p (with_piece here x)) cs (p + 1) here.connections
    stage_in {x} e =
        let found : piece m s q p ≡ Some x = sym named ∙ ap (piece_of m s) (sym bytes) ∙ sym e in
        let joined : with_piece here x ≡ joined_part m s q p = ap (λ y. with_piece y x) is ∙ ap (λ o. with_piece (part q p) (unwrap_or o (Entry 0))) (sym found) in
        let earlier : (i : ℕ) → i < here.connections → i < g.joined = λ i h. omega (arith, start) in
        record {
          records = q;
          read = st.read;
          pins_are = st.pins_are;
          parts_are = upto_more (joined_part m s q) (part q) blank_part (length q.parts) p parts (with_piece here x) st.parts_are below joined;
          connections_are = rw (← start) st.connections_are;
          known = λ z h. ⊎_elim (λ (a : z < p). st.known z a) (λ (a : p ≤ z). let at : p ≡ z = omega arith in subst (λ (n : ℕ). (y : Piece) × (piece m s q n ≡ Some y)) at (x, found)) (cases_lt z p);
          met = λ i h. st.met i (earlier i h);
          once = λ i h. st.once i (earlier i h);
        }

-- inside the line of the part p, which is joined with the piece x
module _ {m : Model} {s : List ℕ} {pins : List PinRecord} (parts : List PartRecord) {cs : List ConnectionRecord} (p : ℕ) {i : ℕ} (x : Piece) (l : p < length parts)
    (g : Stage m s pins (set parts p (with_piece (get_or parts p blank_part) x)) cs (p + 1) i) where
  abbrev with_it : List PartRecord
  with_it = set parts p (with_piece (get_or parts p blank_part) x)

  abbrev w : Records
  w = g.records

  abbrev from : ℕ
  from = (get_or parts p blank_part).connections

  abbrev many : ℕ
  many = (get_or parts p blank_part).count

  has : p < length w.parts
  has = omega (arith, g.parts_are.length_is, length-set parts p (with_piece (get_or parts p blank_part) x))

  -- the line is as it was read
  line_is : with_piece (get_or parts p blank_part) x ≡ joined_part m s w p
  line_is = sym (get_or-set_same parts p (with_piece (get_or parts p blank_part) x) blank_part l) ∙ g.parts_are.done p (omega arith)

  fine : WellFormed s w
  fine = formed g

  -- the next connection is one of the line
  module _ (u : from ≤ i) (v : i < from + many) where
    pub next_within : i < length cs
    next_within = omega (arith, ap (λ z. z.connections) line_is, ap (λ z. z.count) line_is, (fine.lines p has).within, g.connections_are.length_is)

    pub next_own : (get_or cs i blank_connection).part ≡ p
    next_own =
        ap (λ z. z.part) (g.connections_are.left i (omega arith))
        ∙ (fine.lines p has).own i (omega (arith, ap (λ z. z.connections) line_is)) (omega (arith, ap (λ z. z.connections) line_is, ap (λ z. z.count) line_is))

    pub next_stage : NextStage m s pins with_it cs i
    next_stage = subst (λ (n : ℕ). Stage m s pins with_it cs (n + 1) i) (sym next_own) g

    pub next_others : (n : ℕ) → TextFrom s n p → TextFrom s n (get_or cs i blank_connection).part
    next_others n h = subst (λ (z : ℕ). TextFrom s n z) (sym next_own) h

    pub next_below : (get_or cs i blank_connection).entry < count s
    next_below = entry_below next_stage i (omega arith) next_within

    pub next_texts : (n : ℕ) → TextFrom s n p → OtherTexts cs n (get_or cs i blank_connection).entry
    next_texts n h = others_at next_within next_stage n (next_others n h)

    pub stage_out : (ds : List ConnectionRecord) → Stage m s pins with_it ds ((get_or cs i blank_connection).part + 1) (i + 1) → Stage m s pins with_it ds (p + 1) (i + 1)
    stage_out ds h = subst (λ (n : ℕ). Stage m s pins with_it ds (n + 1) (i + 1)) next_own h

  -- the line is joined
  pub line_on : from + many ≤ i → i ≤ from + many → LineStage m s pins with_it cs (p + 1)
  line_on a b = record { joined = i; stage = g; at = omega (arith, ap (λ z. z.connections) line_is, ap (λ z. z.count) line_is, fine.continues p has) }
