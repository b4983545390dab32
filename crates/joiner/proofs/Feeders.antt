-- From which connection on a sink is fed.
use Rattle.std.proofs.Common.{◌≡◌, ℕ, ◌<◌, ◌≤◌, Bool, List, length, get_or, IfSome, Some, None, Option, sym, refl, ap, ◌∙◌, subst, ⊎_elim, arith, MatchOption}
use Rattle.std.proofs.lemmas.Bool.{cases_lt}
use Rattle.kit.specs.Models.{Model}
use Rattle.kit.specs.declared.shape.Side.{Side}
use Rattle.kit.specs.declared.shape.Side.TheVariants.{In, Out}
use Rattle.kit.specs.declared.shape.Pin.{Pin}
use Rattle.catalogue.specs.declared.records.Subscript.{Subscript}
use Rattle.catalogue.specs.declared.records.Subscript.TheVariants.{All, Bit, Range}
use Rattle.catalogue.specs.declared.records.FarEnd.{FarEnd}
use Rattle.catalogue.specs.declared.records.FarEnd.TheVariants as far
use Rattle.catalogue.specs.declared.records.Target.{Target}
use Rattle.catalogue.specs.declared.records.Target.TheVariants.{Constant, Input, Output, Internal}
use Rattle.catalogue.specs.declared.records.PartRecord.{PartRecord}
use Rattle.catalogue.specs.declared.records.ConnectionRecord.{ConnectionRecord}
use Rattle.catalogue.specs.Records.{Records, blank_part}
use Rattle.wellformed.specs.Places.{part, connection}
use Rattle.wellformed.specs.WellFormed.{WellFormed}
use Rattle.joiner.specs.declared.feeds.Sink.{Sink}
use Rattle.joiner.specs.declared.feeds.Sink.TheVariants as sink
use Rattle.joiner.specs.declared.feeds.Feed.{Feed}
use Rattle.joiner.specs.Search.{chained}
use Rattle.joiner.specs.Slices.{slice_of}
use Rattle.joiner.specs.Meaning.{near, chip_far, constant_far, internal_far, named_far, far_of, far_end}
use Rattle.joiner.specs.Joined.{target_of, joint_by, joint, joined_connection}
use Rattle.joiner.specs.Feeding.{Covers, Feeds, feed_by, feed}
use Rattle.joiner.specs.Feeders.{Feeders, SinkBelow, first_feeder}
use Rattle.joiner.specs.Stages.{ConnectionsUpto, PartsUpto}
use Rattle.joiner.proofs.Mentions.{mention_upto}

-- an internal pin is first mentioned at the connection i or before it
abbrev Mentioned : ℕ → Target → Type 0
Mentioned i (Constant b) = Unit {0}
Mentioned i (Input b) = Unit {0}
Mentioned i (Output b) = Unit {0}
Mentioned i (Internal h) = h ≤ i

-- the sink can be fed by the connection i, which is c: it is of that part or chip, or an internal pin mentioned by then
abbrev FedAt : ℕ → ConnectionRecord → Sink → Type 0
FedAt i c (sink.PartInputs q) = c.part ≡ q
FedAt i c (sink.ChipOutputs e) = c.entry ≡ e
FedAt i c (sink.Internal h) = h ≤ i

module _ (m : Model) (s : List ℕ) (r : Records) (i : ℕ) where
  chip_mentioned : (d e : Side) (p : Pin) → Mentioned i (target_of (chip_far d e p))
  chip_mentioned In In p = tt
  chip_mentioned In Out p = tt
  chip_mentioned Out In p = tt
  chip_mentioned Out Out p = tt

  slice_mentioned : (d : Side) (o : Option Pin) → Mentioned i (target_of (chained o (λ x. chip_far d x.side x)))
  slice_mentioned d None = tt
  slice_mentioned d (Some x) = chip_mentioned d x.side x

  internal_mentioned : (h w : ℕ) (b : Subscript) → h ≤ i → Mentioned i (target_of (internal_far h w b))
  internal_mentioned h w All l = l
  internal_mentioned h w (Bit n) l = tt
  internal_mentioned h w (Range n k) l = tt

  named_mentioned : (d : Side) (n : List ℕ) (b : Subscript) (o : Option Pin) → Mentioned i (target_of (named_far m s r i d n b o))
  named_mentioned d n b None = internal_mentioned _ _ b (mention_upto s r.connections (connection r i).entry n i)
  named_mentioned d n b (Some q) = slice_mentioned d (slice_of q b)

  constant_mentioned : (d : Side) (w : ℕ) → (b : Bool) → Mentioned i (target_of (constant_far d w b))
  constant_mentioned In w b = tt
  constant_mentioned Out w b = tt

  far_mentioned : (p : Pin) (x : FarEnd) → Mentioned i (target_of (far_of m s r i p x))
  far_mentioned p (far.Constant b) = constant_mentioned p.side p.width b
  far_mentioned p (far.Pin n b) = named_mentioned p.side _ b _

  joint_mentioned : (o : Option Pin) → Mentioned i (joint_by (far_end m s r i) o).target
  joint_mentioned None = tt
  joint_mentioned (Some p) = far_mentioned p (connection r i).far

  fed_at_by : (d : Side) (t : Target) → Mentioned i t → IfSome (feed_by (joined_connection m s r i) d t) (λ f. FedAt i (connection r i) f.sink)
  fed_at_by In t h = refl
  fed_at_by Out (Constant b) h = tt
  fed_at_by Out (Input b) h = tt
  fed_at_by Out (Output b) h = refl
  fed_at_by Out (Internal k) h = h

  -- what the connection i feeds
  pub fed_at : IfSome (feed (joined_connection m s r i)) (λ f. FedAt i (connection r i) f.sink)
  fed_at = fed_at_by (joint m s r i).side (joint m s r i).target (joint_mentioned (near m s r i))

  pub feeds_at : (k : Sink) (b : ℕ) → Feeds (joined_connection m s r i) k b → FedAt i (connection r i) k
  feeds_at k b h = go (feed (joined_connection m s r i)) fed_at h
    where
      go : (o : Option Feed) → IfSome o (λ f. FedAt i (connection r i) f.sink) → MatchOption o ⊥ (λ f. Covers f k b) → FedAt i (connection r i) k
      go None u v = absurd v
      go (Some f) u v = subst (FedAt i (connection r i)) v.0 u

-- parts and connections, of which p and n are joined, and none of the text of the connection n stands before `from`
module _ (m : Model) (s : List ℕ) (r : Records) (w : WellFormed s r) (p n from : ℕ) (ps : List PartRecord) (cs : List ConnectionRecord) (u : PartsUpto m s r p ps) (v : ConnectionsUpto m s r n cs)
    (others : (j : ℕ) → j < from → (connection r j).entry ≡ (connection r n).entry → ⊥) where
  line_from : (q : ℕ) → (get_or ps q blank_part).connections ≡ (part r q).connections
  line_from q = ⊎_elim (λ l. ap (λ x. x.connections) (u.done q l)) (λ l. ap (λ x. x.connections) (u.left q l)) (cases_lt q p)

  fed_below : (i : ℕ) (k : Sink) → i < length r.connections → FedAt i (connection r i) k → SinkBelow (length ps) k
  fed_below i (sink.PartInputs q) l e = omega (arith, e, (w.belongs i l).below, u.length_is)
  fed_below i (sink.ChipOutputs q) l e = tt
  fed_below i (sink.Internal q) l e = tt

  -- a connection that feeds the same sink as the connection n
  fed_from : (i : ℕ) (k : Sink) → i < length r.connections → FedAt n (connection r n) k → FedAt i (connection r i) k → first_feeder ps from k ≤ i
  fed_from i (sink.PartInputs q) l h e = omega (arith, line_from q, ap (λ x. (part r x).connections) e, (w.belongs i l).from)
  fed_from i (sink.ChipOutputs q) l h e = ⊎_elim (λ (a : i < from). absurd (others i a (e ∙ sym h))) (λ a. a) (cases_lt i from)
  fed_from i (sink.Internal q) l h e = e

  -- what the connection n feeds is fed by none before its first feeder
  pub feeders : n < length r.connections → IfSome (feed (joined_connection m s r n)) (λ f. Feeders ps cs from n f.sink)
  feeders l = go (feed (joined_connection m s r n)) (fed_at m s r n)
    where
      go : (o : Option Feed) → IfSome o (λ f. FedAt n (connection r n) f.sink) → IfSome o (λ f. Feeders ps cs from n f.sink)
      go None h = tt
      go (Some f) h =
          let upto : first_feeder ps from f.sink ≤ n = fed_from n f.sink l h h in
          record {
            below = fed_below n f.sink l h;
            upto = upto;
            none_before = λ j b a x.
                let fed : Feeds (joined_connection m s r j) f.sink b = subst (λ (c : ConnectionRecord). Feeds c f.sink b) (v.done j (omega arith)) x in
                omega (arith, fed_from j f.sink (omega arith) h (feeds_at m s r j f.sink b fed));
          }
