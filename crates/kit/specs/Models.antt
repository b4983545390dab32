-- A kit as plain functions, what holds of its answers, and the four laws of its kinds.
use Rattle.std.specs.Prelude.{◌≡◌, ℕ, ◌+◌, ◌^◌, ◌<◌, ◌≤◌, Bool, false, List, Some, None, Option, ◌≢◌}
use Rattle.kit.specs.declared.shape.Side.{Side}
use Rattle.kit.specs.declared.shape.Side.TheVariants.{In, Out}
use Rattle.kit.specs.declared.shape.Pin.{Pin}
use Rattle.kit.specs.declared.shape.Size.{Size}
use Rattle.kit.specs.Bits.{bit, Agree}

pub record Model : Type 0 where
  -- how many kinds there are, numbered from 0
  pub count : ℕ
  -- the kind for a name
  pub find : List ℕ → Option ℕ
  -- of a kind: the pin for a name
  pub pin : ℕ → List ℕ → Option Pin
  -- of a kind: its input bits, its output bits, and whether it is clocked
  pub inputs : ℕ → ℕ
  pub outputs : ℕ → ℕ
  pub clocked : ℕ → Bool
  -- of a kind, from an input word and a state
  pub out : ℕ → ℕ → ℕ → ℕ
  pub next : ℕ → ℕ → ℕ → ℕ
  -- of a kind: the mask of the input bits that an output bit waits for
  pub waits : ℕ → ℕ → ℕ

abbrev pub size_of : Model → ℕ → Size
size_of m k = record { inputs = m.inputs k; outputs = m.outputs k; clocked = m.clocked k }

-- how a kit answers of a number that is none of its kinds
pub record Unknown (m : Model) (k : ℕ) : Type 0 where
  pub no_pin : (name : List ℕ) → m.pin k name ≡ None
  pub no_inputs : m.inputs k ≡ 0
  pub no_outputs : m.outputs k ≡ 0
  pub unclocked : m.clocked k ≡ false
  pub no_out : (i s : ℕ) → m.out k i s ≡ 0
  pub no_next : (i s : ℕ) → m.next k i s ≡ 0
  pub no_waits : (b : ℕ) → m.waits k b ≡ 0

pub record Regular (m : Model) : Type 0 where
  pub few : m.count ≤ 65535
  -- find answers only kinds below the count
  pub found : (name : List ℕ) (k : ℕ) → m.find name ≡ Some k → k < m.count
  pub unknown : (k : ℕ) → m.count ≤ k → Unknown m k
  -- past the outputs, waits answers no bit
  pub past : (k b : ℕ) → m.outputs k ≤ b → m.waits k b ≡ 0
  -- next and waits answer 64-bit numbers, and so does out, by the first law
  pub next_word : (k i s : ℕ) → m.next k i s < 2 ^ 64
  pub waits_word : (k b : ℕ) → m.waits k b < 2 ^ 64

-- one of two, by the side
abbrev pub on : Side → ℕ → ℕ → ℕ
on In a b = a
on Out a b = b

-- a pin is 1 to 16 bits wide, within a side of so many bits
pub record Placed (p : Pin) (bits : ℕ) : Type 0 where
  pub some : 1 ≤ p.width
  pub narrow : p.width ≤ 16
  pub within : p.first + p.width ≤ bits

-- the pin has the bit b of its side
abbrev pub Has : Pin → ℕ → Type 0
Has p b = (p.first ≤ b) × (b < p.first + p.width)

-- two pins share no bit
abbrev pub Apart : Pin → Pin → Type 0
Apart p q = (b : ℕ) → Has p b → Has q b → ⊥

-- the four laws of a kind
pub record Keeps (m : Model) (k : ℕ) : Type 0 where
  -- 1: it has 1 to 64 output bits and at most 64 input bits, and out sets no bit beyond its output bits
  pub outputs_some : 1 ≤ m.outputs k
  pub outputs_most : m.outputs k ≤ 64
  pub inputs_most : m.inputs k ≤ 64
  pub out_within : (i s : ℕ) → m.out k i s < 2 ^ m.outputs k
  -- 2: each pin is 1 to 16 bits wide within its side, and two pins on one side share no bit
  pub placed : (name : List ℕ) (p : Pin) → m.pin k name ≡ Some p → Placed p (on p.side (m.inputs k) (m.outputs k))
  pub apart : (x y : List ℕ) (p q : Pin) → (x ≢ y) → m.pin k x ≡ Some p → m.pin k y ≡ Some q → p.side ≡ q.side → Apart p q
  -- 3: next of an unclocked kind is 0
  pub still : m.clocked k ≡ false → (i s : ℕ) → m.next k i s ≡ 0
  -- 4: input words that agree on the waits of an output bit give that bit one level from one state
  pub steady : (b : ℕ) → b < m.outputs k → (i j s : ℕ) → Agree (m.waits k b) i j → bit (m.out k i s) b ≡ bit (m.out k j s) b

abbrev pub Lawful : Model → Type 0
Lawful m = (k : ℕ) → k < m.count → Keeps m k

pub record Sound (m : Model) : Type 0 where
  pub regular : Regular m
  pub lawful : Lawful m
