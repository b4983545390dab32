-- The reserved words. A text is its list of bytes.
use Rattle.std.specs.Prelude.{◌≡◌, ℕ, List, codes}
use Rattle.text.specs.declared.keyword.Keyword.{Keyword}
use Rattle.text.specs.declared.keyword.Keyword.TheVariants.{Chip, In, Out, Parts, Builtin, Clocked, True, False}

abbrev pub spelling : Keyword → List ℕ
spelling Chip = codes "CHIP"
spelling In = codes "IN"
spelling Out = codes "OUT"
spelling Parts = codes "PARTS"
spelling Builtin = codes "BUILTIN"
spelling Clocked = codes "CLOCKED"
spelling True = codes "true"
spelling False = codes "false"

-- the bytes are a reserved word
abbrev pub Reserved : List ℕ → Type 0
Reserved bs = (k : Keyword) × (bs ≡ spelling k)
