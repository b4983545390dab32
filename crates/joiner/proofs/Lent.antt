-- Joining in lent memory: the front of it holds the records, and blank ones stay behind them.
use Rattle.std.proofs.Common.{◌≡◌, ℕ, ◌-◌, List, ◌++◌, length, get_or, take, drop, replicate, sym, ap, ◌∙◌, subst, arith, length-append}
use Rattle.std.specs.List.{All}
use Rattle.std.proofs.lemmas.List.{take_at, drop_at, get_or_default, length-replicate}
use Rattle.bundle.specs.Layout.{count}
use Rattle.kit.specs.Models.{Model}
use Rattle.catalogue.specs.declared.records.PinRecord.{PinRecord}
use Rattle.catalogue.specs.declared.records.PartRecord.{PartRecord}
use Rattle.catalogue.specs.declared.records.ConnectionRecord.{ConnectionRecord}
use Rattle.catalogue.specs.declared.room.Counts.{Counts}
use Rattle.catalogue.specs.Records.{Records, blank_pin, blank_part, blank_connection}
use Rattle.catalogue.specs.Holding.{Slices}
use Rattle.reader.proofs.OneBundle.{one_reading}
use Rattle.wellformed.specs.WellFormed.{PinFits}
use Rattle.wellformed.proofs.Reading.{read_well_formed}
use Rattle.joiner.specs.Joined.{joined, joined_part, joined_connection}
use Rattle.joiner.specs.Lent.{ReadInto, JoinedInto}
use Rattle.joiner.specs.Stages.{Upto, LineStage, Complete}

-- the front of memory that holds records
front : {X : Type 0} (xs : List X) (k n : ℕ) (d : X) (z : List X) → z ≡ xs ++ replicate k d → n ≡ length xs → take n z ≡ xs
front xs k n d z e l = ap (take n) e ∙ take_at xs (replicate k d) n (omega arith)

-- what lies behind it
behind : {X : Type 0} (xs : List X) (k n : ℕ) (d : X) (z : List X) → z ≡ xs ++ replicate k d → n ≡ length xs → drop n z ≡ replicate k d
behind xs k n d z e l = ap (drop n) e ∙ drop_at xs (replicate k d) n (omega arith)

-- other records in the place of as many
held : {X : Type 0} (xs ys qs : List X) (n : ℕ) (d : X) (z : List X) → z ≡ xs ++ replicate (length z - length xs) d → n ≡ length xs → qs ≡ ys →
    qs ++ drop n z ≡ ys ++ replicate (length (qs ++ drop n z) - length ys) d
held xs ys qs n d z e l q =
    let k : ℕ = length z - length xs in
    let b : drop n z ≡ replicate k d = behind xs k n d z e l in
    let same : k ≡ length (qs ++ drop n z) - length ys = omega (arith, length-append qs (drop n z), ap length b, ap length q, length-replicate k d) in
    ap (λ t. t ++ drop n z) q ∙ ap (λ t. ys ++ t) (b ∙ ap (λ i. replicate i d) same)

-- nothing is joined yet
begin : {X : Type 0} (f : ℕ → X) (d : X) (xs ys : List X) → ys ≡ xs → Upto f (λ i. get_or xs i d) d (length xs) 0 ys
begin f d xs ys e = record { length_is = ap length e; done = λ i l. absurd (omega arith); left = λ i l. ap (λ zs. get_or zs i d) e }

module _ {s : List ℕ} {z : Slices} {n : Counts} (h : ReadInto s z n) where
  abbrev r : Records
  r = h.records

  pins_are : r.pins ≡ take n.pins z.pins
  pins_are = sym (front r.pins _ n.pins blank_pin z.pins h.holds.pins (ap (λ x. x.pins) h.counted))

  -- the pins that are read fit
  pub pins_fit : All PinFits (take n.pins z.pins)
  pins_fit = rw (← pins_are) (λ k d l. rw (get_or_default r.pins k d blank_pin l) ((read_well_formed s r h.read).fits k l))

module _ (m : Model) {s : List ℕ} {z : Slices} {n : Counts} (h : ReadInto s z n) where
  abbrev q : Records
  q = h.records

  first_stage : LineStage m s (take n.pins z.pins) (take n.parts z.parts) (take n.connections z.connections) 0
  first_stage = record {
    joined = 0;
    stage = record {
      records = q;
      read = h.read;
      pins_are = pins_are h;
      parts_are = begin (joined_part m s q) blank_part q.parts _ (front q.parts _ n.parts blank_part z.parts h.holds.parts (ap (λ x. x.parts) h.counted));
      connections_are = begin (joined_connection m s q) blank_connection q.connections _ (front q.connections _ n.connections blank_connection z.connections h.holds.connections (ap (λ x. x.connections) h.counted));
      known = λ q l. absurd (omega arith);
      met = λ i l. absurd (omega arith);
      once = λ i l. absurd (omega arith);
    };
    at = sym (read_well_formed s q h.read).begins;
  }

  -- the records are joined in their place
  all_joined : (ps : List PinRecord) (qs : List PartRecord) (cs : List ConnectionRecord) → Complete m s ps qs cs →
      JoinedInto m s (record { pins = z.pins; parts = qs ++ drop n.parts z.parts; connections = cs ++ drop n.connections z.connections }) n
  all_joined ps qs cs c =
      let same : c.records ≡ q = one_reading s (count s) c.records q c.read h.read in
      let parts : qs ≡ (joined m s q).parts = c.parts_are ∙ ap (λ x. (joined m s x).parts) same in
      let connections : cs ≡ (joined m s q).connections = c.connections_are ∙ ap (λ x. (joined m s x).connections) same in
      record {
        records = q;
        read = h.read;
        joins = rw same at c.joins;
        holds = record {
          pins = h.holds.pins;
          parts = held q.parts (joined m s q).parts qs n.parts blank_part z.parts h.holds.parts (ap (λ x. x.parts) h.counted) parts;
          connections = held q.connections (joined m s q).connections cs n.connections blank_connection z.connections h.holds.connections (ap (λ x. x.connections) h.counted) connections;
        };
        counted = h.counted;
      }

  -- the same over the bytes of the opened bundle
  module _ {b : List ℕ} (same : b ≡ s) where
    pub opened_stage : LineStage m b (take n.pins z.pins) (take n.parts z.parts) (take n.connections z.connections) 0
    opened_stage = subst (λ (x : List ℕ). LineStage m x (take n.pins z.pins) (take n.parts z.parts) (take n.connections z.connections) 0) (sym same) first_stage

    pub opened_joined : (ps : List PinRecord) (qs : List PartRecord) (cs : List ConnectionRecord) → Complete m b ps qs cs →
        JoinedInto m s (record { pins = z.pins; parts = qs ++ drop n.parts z.parts; connections = cs ++ drop n.connections z.connections }) n
    opened_joined ps qs cs c = all_joined ps qs cs (subst (λ (x : List ℕ). Complete m x ps qs cs) same c)
