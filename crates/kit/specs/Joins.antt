-- What a pair of kits is, said of its answers.
use Rattle.std.specs.Prelude.{◌≡◌, ℕ, ◌+◌, ◌<◌, ◌≤◌, min, List, Some, None}
use Rattle.kit.specs.Models.{Model}

-- the kit m answers of its kind k as the kit n does of its kind j
pub record Alike (m : Model) (k : ℕ) (n : Model) (j : ℕ) : Type 0 where
  pub pin : (name : List ℕ) → m.pin k name ≡ n.pin j name
  pub inputs : m.inputs k ≡ n.inputs j
  pub outputs : m.outputs k ≡ n.outputs j
  pub clocked : m.clocked k ≡ n.clocked j
  pub out : (i s : ℕ) → m.out k i s ≡ n.out j i s
  pub next : (i s : ℕ) → m.next k i s ≡ n.next j i s
  pub waits : (b : ℕ) → m.waits k b ≡ n.waits j b

-- the kit m is the kits f and s as one
pub record Joins (f s m : Model) : Type 0 where
  pub total : m.count ≡ min (f.count + s.count) 65535
  pub firsts : (k : ℕ) → k < f.count → Alike m k f k
  pub seconds : (k : ℕ) → f.count + k < m.count → Alike m (f.count + k) s k
  -- a name is sought in the first kit, then in the second
  pub in_first : (name : List ℕ) (k : ℕ) → f.find name ≡ Some k → m.find name ≡ Some k
  pub in_second : (name : List ℕ) (k : ℕ) → f.find name ≡ None → s.find name ≡ Some k → f.count + k < m.count → m.find name ≡ Some (f.count + k)
  pub too_far : (name : List ℕ) (k : ℕ) → f.find name ≡ None → s.find name ≡ Some k → m.count ≤ f.count + k → m.find name ≡ None
  pub in_neither : (name : List ℕ) → f.find name ≡ None → s.find name ≡ None → m.find name ≡ None
