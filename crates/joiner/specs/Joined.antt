-- The records of a bundle with what joining resolves.
use Rattle.std.specs.Prelude.{ℕ, false, List, map, length, Some, None, Option}
use Rattle.std.specs.List.{range_with_len}
use Rattle.std.specs.Option.{unwrap_or}
use Rattle.kit.specs.Models.{Model}
use Rattle.kit.specs.declared.shape.Pin.{Pin}
use Rattle.catalogue.specs.declared.records.Piece.{Piece}
use Rattle.catalogue.specs.declared.records.Piece.TheVariants.{Entry}
use Rattle.catalogue.specs.declared.records.Target.{Target}
use Rattle.catalogue.specs.declared.records.Target.TheVariants as target
use Rattle.catalogue.specs.declared.records.Joint.{Joint}
use Rattle.catalogue.specs.declared.records.PartRecord.{PartRecord}
use Rattle.catalogue.specs.declared.records.ConnectionRecord.{ConnectionRecord}
use Rattle.catalogue.specs.Records.{Records, no_joint}
use Rattle.catalogue.specs.Shapes.{joint_of}
use Rattle.wellformed.specs.Places.{part, connection}
use Rattle.joiner.specs.declared.ends.Far.{Far}
use Rattle.joiner.specs.Meaning.{piece, near, far_end}

abbrev pub with_piece : PartRecord → Piece → PartRecord
with_piece p x = record { entry = p.entry; name = p.name; connections = p.connections; count = p.count; piece = x }

abbrev pub with_joint : ConnectionRecord → Joint → ConnectionRecord
with_joint c j = record { entry = c.entry; name = c.name; part = c.part; bits = c.bits; far = c.far; joint = j }

abbrev pub target_of : Option Far → Target
target_of None = target.Constant false
target_of (Some f) = f.target

-- these bits, and what stands at the far end of them
abbrev pub joint_by : (Pin → Option Far) → Option Pin → Joint
joint_by f None = no_joint
joint_by f (Some p) = joint_of p (target_of (f p))

module _ (m : Model) (s : List ℕ) (r : Records) where
  -- which bits of the part the connection i joins, and to what
  abbrev pub joint : ℕ → Joint
  joint i = joint_by (far_end m s r i) (near m s r i)

  abbrev pub joined_part : ℕ → PartRecord
  joined_part p = with_piece (part r p) (unwrap_or (piece m s r p) (Entry 0))

  abbrev pub joined_connection : ℕ → ConnectionRecord
  joined_connection i = with_joint (connection r i) (joint i)

  -- pins as they are, each part with its piece, and each connection with its joint
  abbrev pub joined : Records
  joined = record {
    pins = r.pins;
    parts = map joined_part (range_with_len 0 (length r.parts));
    connections = map joined_connection (range_with_len 0 (length r.connections));
  }
