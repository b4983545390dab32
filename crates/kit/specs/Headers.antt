-- The pins of a kind as they are listed: on each side they stand from bit 0 up, in the order given.
use Rattle.std.specs.Prelude.{ℕ, ◌+◌, ◌≤◌, Bool, ◌&&◌, cond, List, [], ◌∷◌, Some, None, Option, nat_le}
use Rattle.std.specs.List.{list_all}
use Rattle.std.specs.Option.{option_or}
use Rattle.std.specs.Str.{bytes_eq}
use Rattle.kit.specs.declared.shape.Side.{Side}
use Rattle.kit.specs.declared.shape.Side.TheVariants.{In, Out}
use Rattle.kit.specs.declared.shape.Pin.{Pin}

-- a pin's name and width, as in address[15]
pub record Listed : Type 0 where
  pub name : List ℕ
  pub width : ℕ

pub record Header : Type 0 where
  pub ins : List Listed
  pub outs : List Listed

-- how many bits the pins of a side have
abbrev pub bits : List Listed → ℕ
bits [] = 0
bits (l ∷ ls) = l.width + bits ls

-- the pin for a name on a side, of those that stand one after another from a first bit on
abbrev pub sought : Side → ℕ → List Listed → List ℕ → Option Pin
sought side first [] name = None
sought side first (l ∷ ls) name = cond (bytes_eq name l.name) (Some (record { side = side; first = first; width = l.width })) (sought side (first + l.width) ls name)

-- the pin for a name: an input, or else an output
abbrev pub pin_of : Header → List ℕ → Option Pin
pin_of h name = option_or (sought In 0 h.ins name) (sought Out 0 h.outs name)

-- each pin is 1 to 16 bits wide
abbrev pub Widths : List Listed → Type 0
Widths [] = Unit {0}
Widths (l ∷ ls) = (1 ≤ l.width) × (l.width ≤ 16) × Widths ls

-- the same as a test, which computes where the widths are numerals
abbrev pub narrow : List Listed → Bool
narrow ls = list_all (λ l. nat_le 1 l.width && nat_le l.width 16) ls
