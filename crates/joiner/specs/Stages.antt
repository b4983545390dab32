-- What is known while records are being joined.
use Rattle.std.specs.Prelude.{◌≡◌, ℕ, ◌+◌, ◌<◌, ◌≤◌, List, length, Some, Option, MatchOption, ◌≢◌, slice_index_or, slice_set}
use Rattle.fault.specs.declared.Cause.{Cause}
use Rattle.fault.specs.declared.Place.{Place}
use Rattle.bundle.specs.Layout.{count}
use Rattle.kit.specs.Models.{Model}
use Rattle.kit.specs.declared.shape.Pin.{Pin}
use Rattle.catalogue.specs.declared.records.Span.{Span}
use Rattle.catalogue.specs.declared.records.Subscript.{Subscript}
use Rattle.catalogue.specs.declared.records.FarEnd.TheVariants as far
use Rattle.catalogue.specs.declared.records.Piece.{Piece}
use Rattle.catalogue.specs.declared.records.PinRecord.{PinRecord}
use Rattle.catalogue.specs.declared.records.PartRecord.{PartRecord}
use Rattle.catalogue.specs.declared.records.ConnectionRecord.{ConnectionRecord}
use Rattle.catalogue.specs.Records.{Records, blank_part, blank_connection}
use Rattle.reader.specs.Verdicts.{ReadUpto}
use Rattle.wellformed.specs.Places.{part, connection}
use Rattle.wellformed.specs.WellFormed.{line_start}
use Rattle.joiner.specs.declared.join_fault.JoinFault.{JoinFault}
use Rattle.joiner.specs.declared.join_fault.JoinFault.TheVariants as refusal
use Rattle.joiner.specs.declared.ends.Far.{Far}
use Rattle.joiner.specs.Meaning.{piece, near, far_of, far_end}
use Rattle.joiner.specs.Joined.{joined, joined_part, joined_connection}
use Rattle.joiner.specs.Rules.{Met, Once, Joins}
use Rattle.joiner.specs.Faults.{fault_of}
use Rattle.joiner.specs.Verdicts.{Unjoined, fault_at}

-- the first n of so many records are those of f, and the others those of g
pub record Upto {X : Type 0} (f g : ℕ → X) (d : X) (long n : ℕ) (xs : List X) : Type 0 where
  pub length_is : length xs ≡ long
  pub done : (i : ℕ) → i < n → slice_index_or xs i d ≡ f i
  pub left : (i : ℕ) → n ≤ i → slice_index_or xs i d ≡ g i

-- the part before p, if there is one, is of another text
abbrev pub BeginsText : List PartRecord → ℕ → Type 0
BeginsText ps p = (q : ℕ) → q + 1 ≡ p → (slice_index_or ps q blank_part).entry ≢ (slice_index_or ps p blank_part).entry

-- then its text starts at its own first connection, and else where that of the part before does, which is n
pub record TextStart (ps : List PartRecord) (n p start : ℕ) : Type 0 where
  pub new : BeginsText ps p → start ≡ (slice_index_or ps p blank_part).connections
  pub on : (BeginsText ps p → ⊥) → start ≡ n

-- of the records that reading gives, none of the first n connections is of the text of the part p
abbrev pub TextFrom : List ℕ → ℕ → ℕ → Type 0
TextFrom s n p = (r : Records) → ReadUpto s (count s) r → (j : ℕ) → j < n → (connection r j).entry ≢ (part r p).entry

module _ (m : Model) (s : List ℕ) where
  -- of the records that reading gave, the first connections are joined
  abbrev pub ConnectionsUpto : Records → ℕ → List ConnectionRecord → Type 0
  ConnectionsUpto r n cs = Upto (joined_connection m s r) (connection r) blank_connection (length r.connections) n cs

  abbrev pub PartsUpto : Records → ℕ → List PartRecord → Type 0
  PartsUpto r p ps = Upto (joined_part m s r) (part r) blank_part (length r.parts) p ps

  -- the first p parts and n connections of the texts of the bundle s are joined, and none of them breaks a rule
  pub record Stage (pins : List PinRecord) (parts : List PartRecord) (cs : List ConnectionRecord) (p n : ℕ) : Type 0 where
    pub records : Records
    pub read : ReadUpto s (count s) records
    pub pins_are : records.pins ≡ pins
    pub parts_are : PartsUpto records p parts
    pub connections_are : ConnectionsUpto records n cs
    pub known : (q : ℕ) → q < p → (x : Piece) × (piece m s records q ≡ Some x)
    pub met : (i : ℕ) → i < n → Met m s records i
    pub once : (i : ℕ) → i < n → Once m s records i

  -- all before the connection i, and its part
  abbrev pub NextStage : List PinRecord → List PartRecord → List ConnectionRecord → ℕ → Type 0
  NextStage pins parts cs i = Stage pins parts cs ((slice_index_or cs i blank_connection).part + 1) i

  -- and this connection too, as c
  abbrev pub NextJoined : List PinRecord → List PartRecord → List ConnectionRecord → ℕ → ConnectionRecord → Type 0
  NextJoined pins parts cs i c = Stage pins parts (slice_set cs i c) ((slice_index_or cs i blank_connection).part + 1) (i + 1)

  -- what stands at the far end of the connection i, which joins the bits p, whatever records were read
  abbrev pub LeadsTo : List PinRecord → List ConnectionRecord → ℕ → Pin → Option Far → Type 0
  LeadsTo pins cs i p o = (r : Records) → r.pins ≡ pins → ConnectionsUpto r i cs → near m s r i ≡ Some p → o ≡ far_end m s r i p

  -- the same, were that end the pin of the name n with the subscript b
  abbrev pub NameLeadsTo : List PinRecord → List ConnectionRecord → ℕ → Pin → Span → Subscript → Option Far → Type 0
  NameLeadsTo pins cs i p n b o = (r : Records) → r.pins ≡ pins → ConnectionsUpto r i cs → near m s r i ≡ Some p → o ≡ far_of m s r i p (far.Pin n b)

  -- the first p parts and all their connections are
  pub record LineStage (pins : List PinRecord) (parts : List PartRecord) (cs : List ConnectionRecord) (p : ℕ) : Type 0 where
    pub joined : ℕ
    pub stage : Stage pins parts cs p joined
    pub at : joined ≡ line_start stage.records p

  -- all are joined, and all rules hold
  pub record Complete (pins : List PinRecord) (parts : List PartRecord) (cs : List ConnectionRecord) : Type 0 where
    pub records : Records
    pub read : ReadUpto s (count s) records
    pub joins : Joins m s records
    pub pins_are : pins ≡ (joined m s records).pins
    pub parts_are : parts ≡ (joined m s records).parts
    pub connections_are : cs ≡ (joined m s records).connections

  -- the texts are read, and cannot be joined for this reason
  pub record Unjoins (f : JoinFault) : Type 0 where
    pub records : Records
    pub read : ReadUpto s (count s) records
    pub cause : Cause
    pub place : Place
    pub unjoined : Unjoined m s records cause place
    pub tells : fault_of f ≡ fault_at cause place

  -- of what is left open when all is joined, the first is told at this place; none where nothing is
  abbrev pub Soonest : List PinRecord → List PartRecord → List ConnectionRecord → Option Place → Type 0
  Soonest pins parts cs o = MatchOption o (Complete pins parts cs) (λ x. Unjoins (refusal.LeftOpen x))
