-- What holds of the answers of a sound kit for any number, one of its kinds or not.
use Rattle.std.proofs.Common.{◌≡◌, ℕ, ◌^◌, ◌<◌, ◌≤◌, false, List, Some, arith}
use Rattle.std.proofs.lemmas.Nat.{pow_pos}
use Rattle.kit.specs.declared.shape.Pin.{Pin}
use Rattle.kit.specs.Models.{Model, Unknown, Keeps, Sound}

module _ (m : Model) (sound : Sound m) where
  kind : (k : ℕ) → k < m.count → Keeps m k
  kind = sound.lawful

  none : (k : ℕ) → m.count ≤ k → Unknown m k
  none = sound.regular.unknown

  pub inputs_most : (k : ℕ) → m.inputs k ≤ 64
  inputs_most k = grind (arith, kind k, none k)

  pub outputs_most : (k : ℕ) → m.outputs k ≤ 64
  outputs_most k = grind (arith, kind k, none k)

  pub out_within : (k i s : ℕ) → m.out k i s < 2 ^ m.outputs k
  out_within k i s = grind (arith, kind k, none k, pow_pos (m.outputs k))

  pub next_still : (k : ℕ) → m.clocked k ≡ false → (i s : ℕ) → m.next k i s ≡ 0
  next_still k e i s = grind (arith, kind k, none k)

  -- what has a pin or an output bit is a kind
  pub kind_with_pin : (k : ℕ) (name : List ℕ) (p : Pin) → m.pin k name ≡ Some p → k < m.count
  kind_with_pin k name p e = grind (arith, none k)

  pub kind_with_output : (k b : ℕ) → b < m.outputs k → k < m.count
  kind_with_output k b l = grind (arith, none k)
