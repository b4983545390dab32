-- A chip text as a tree: what its lexemes write.
use Rattle.std.specs.Prelude.{ℕ, Bool, List, [], ◌∷◌, ◌++◌, Option}

-- a name, and the byte of the text at which it begins
pub record Name : Type 0 where
  pub first : ℕ
  pub bytes : List ℕ

-- one or more, in their order
pub record Row (X : Type 0) : Type 0 where
  pub init : List X
  pub last : X

abbrev pub items : {X : Type 0} → Row X → List X
items r = r.init ++ r.last ∷ []

-- a pin, with its width if one is written
pub record Pin : Type 0 where
  pub name : Name
  pub width : Option ℕ

-- which bits of a pin: all, [n], or [n..m]
pub data Subscript : Type 0 where
  all : Subscript
  bit : ℕ → Subscript
  range : ℕ → ℕ → Subscript

-- what a part's pin is joined to: true or false, or a pin
pub data FarEnd : Type 0 where
  constant : Bool → FarEnd
  pin : Name → Subscript → FarEnd

pub record Connection : Type 0 where
  pub near : Name
  pub bits : Subscript
  pub far : FarEnd

pub record Part : Type 0 where
  pub name : Name
  pub connections : Row Connection

-- a header: the chip's name and its pins
pub record Header : Type 0 where
  pub name : Name
  pub ins : Option (Row Pin)
  pub outs : Row Pin

pub record Chip : Type 0 where
  pub header : Header
  pub parts : Row Part
