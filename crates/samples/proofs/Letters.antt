-- Texts that go by letters.
use Rattle.std.proofs.Common.{◌≡◌, ℕ, List, [], ◌∷◌, map, codes, Vec, Global, vec_items, Result, Ok, Err, IfOk, refl, ap, ◌∙◌}
use Rattle.std.specs.List.{zip}
use Rattle.packer.specs.declared.source.Source.{Source}
use Rattle.samples.specs.Sources.{Lettered}

-- a source, and a letter with a text, as two texts
abbrev pub shown : Source → List ℕ × List ℕ
shown s = (s.name.now, s.text.now)

abbrev pub named : ℕ × Vec ℕ Global → List ℕ × List ℕ
named p = (p.0 ∷ [], vec_items p.1)

paired : (ns : List ℕ) (ts : List (Vec ℕ Global)) → map named (zip ns ts) ≡ zip (map (λ b. b ∷ []) ns) (map vec_items ts)
paired [] ts = refl
paired (n ∷ ns) [] = refl
paired (n ∷ ns) (t ∷ ts) = ap (λ l. (n ∷ [], vec_items t) ∷ l) (paired ns ts)

pub lettered : {E : Type 0} (r : Result (Vec Source Global) E) (ts : List (Vec ℕ Global)) → IfOk r (λ v. map shown (vec_items v) ≡ map named (zip (codes "ABCDEFGHIJKLMNOPQRSTUVWXYZ") ts)) → IfOk r (λ v. Lettered (map vec_items ts) v.items)
lettered (Ok v) ts h = h ∙ paired (codes "ABCDEFGHIJKLMNOPQRSTUVWXYZ") ts
lettered (Err e) ts h = h
