-- The texts of a line as sources of a bundle.
use Rattle.std.specs.Prelude.{◌≡◌, ℕ, List, [], ◌∷◌, map, codes}
use Rattle.std.specs.List.{zip}
use Rattle.packer.specs.declared.source.Source.{Source}

-- A, B, C and so on, a letter each
abbrev pub names : List (List ℕ)
names = map (λ b. b ∷ []) (codes "ABCDEFGHIJKLMNOPQRSTUVWXYZ")

-- the texts in their order, each under the name that comes to it, as far as there are names
abbrev pub Lettered : List (List ℕ) → List Source → Type 0
Lettered texts ss = map (λ s. (s.name.now, s.text.now)) ss ≡ zip names texts
