-- One record more in front of the blank ones.
use Rattle.std.proofs.Common.{◌≡◌, ℕ, suc, ◌-◌, ◌<◌, List, [], ◌∷◌, ◌++◌, length, set, replicate, sym, ap, ◌∙◌, arith}
use Rattle.std.proofs.lemmas.List.{append_assoc, length_push, length-set, set_at}

module _ {X : Type 0} where
  pub put_more : (xs zs : List X) (b x : X) (n : ℕ) → zs ≡ xs ++ replicate (length zs - length xs) b → n < length zs → n ≡ length xs → set zs n x ≡ (xs ++ x ∷ []) ++ replicate (length (set zs n x) - length (xs ++ x ∷ [])) b
  put_more xs zs b x n h l e =
      let m = length zs - length xs - 1 in
      let one : length zs - length xs ≡ suc m = omega arith in
      let left : m ≡ length (set zs n x) - length (xs ++ x ∷ []) = omega (arith, length-set zs n x, length_push xs x) in
      ap (λ l. set l n x) (h ∙ ap (λ k. xs ++ replicate k b) one)
      ∙ set_at xs b (replicate m b) x n (sym e)
      ∙ sym (append_assoc xs (x ∷ []) (replicate m b))
      ∙ ap (λ k. (xs ++ x ∷ []) ++ replicate k b) left
