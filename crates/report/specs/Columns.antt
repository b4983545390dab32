-- Text in columns. A text is its list of bytes.
use Rattle.std.specs.Prelude.{ℕ, zero, suc, ◌-◌, max, List, [], ◌∷◌, ◌++◌, length, replicate, codes, decimal}
use Rattle.bundle.specs.Layout.{count, name, start, size}

-- filled up with spaces to a width, behind and in front
abbrev pub left : ℕ → List ℕ → List ℕ
left w bs = bs ++ replicate (w - length bs) 32

abbrev pub right : ℕ → List ℕ → List ℕ
right w bs = replicate (w - length bs) 32 ++ bs

-- the line of the k-th entry of a bundle: number, name, start and length of its text
abbrev pub line : List ℕ → ℕ → ℕ → List ℕ
line s w k =
    right 3 (decimal k) ++ codes " " ++ left w (name s k) ++ codes " " ++ right 5 (decimal (start s k)) ++ codes " " ++ right 5 (decimal (size s k)) ++ (10 ∷ [])

-- the lines of the first entries
abbrev pub lines : List ℕ → ℕ → ℕ → List ℕ
lines s w zero = []
lines s w (suc k) = lines s w k ++ line s w k

-- the length of the longest name among the first entries
abbrev pub widest : List ℕ → ℕ → ℕ
widest s zero = 0
widest s (suc k) = max (widest s k) (length (name s k))

-- the last line: how many texts and bytes there are
abbrev pub total : ℕ → ℕ → List ℕ
total n m = decimal n ++ (codes " texts, " ++ (decimal m ++ (codes " bytes" ++ 10 ∷ [])))

-- what `list` prints of a bundle: a line an entry, and then the total
abbrev pub listing : List ℕ → List ℕ
listing s = lines s (widest s (count s)) (count s) ++ total (count s) (length s)
