-- What stands at a place of a text hangs on the rest of the text alone.
use Rattle.std.proofs.Common.{◌≡◌, ℕ, ◌+◌, ◌-◌, ◌≤◌, List, length, take, drop, sym, ap, ◌∙◌, subst, arith, length-drop}
use Rattle.std.specs.List.{between}
use Rattle.std.proofs.lemmas.List.{get_or-drop}
use Rattle.text.specs.Names.{byte}
use Rattle.lexer.specs.declared.tokens.Token.{Token}
use Rattle.lexer.specs.Gaps.{Separator, one, line, block, Gap}
use Rattle.lexer.specs.Tokens.{Spells, Stands}

-- s from i on and t from j on are the same
module _ (s t : List ℕ) (i j : ℕ) (e : drop i s ≡ drop j t) (m : i ≤ length s) (n : j ≤ length t) where
  same : (k l : ℕ) → i ≤ k → k + j ≡ l + i → byte s k ≡ byte t l
  same k l a h =
      let far : i + (k - i) ≡ k = omega arith in
      let there : j + (k - i) ≡ l = omega arith in
      sym (get_or-drop i s (k - i) 0 ∙ ap (byte s) far) ∙ ap (λ r. byte r (k - i)) e ∙ get_or-drop j t (k - i) 0 ∙ ap (byte t) there

  as_long : length s + j ≡ length t + i
  as_long = omega (arith, length-drop i s, length-drop j t, ap length e)

  pub separator_moves : (k l : ℕ) → l ≡ j + (k - i) → Separator s i k → Separator t j l
  separator_moves k l h (one b f) = one (grind (arith, same i j)) (omega arith)
  separator_moves k l h (line x) =
      line (record {
        starts = grind (arith, same i j, same (i + 1) (j + 1), x.starts);
        after = omega (arith, x.after);
        within = omega (arith, x.within, as_long);
        inside = λ p a b. grind (arith, same (p + i - j) p, x.inside (p + i - j));
        ends = grind (arith, same k l, as_long, x.ends, x.after);
      })
  separator_moves k l h (block x) =
      block (record {
        starts = grind (arith, same i j, same (i + 1) (j + 1), x.starts);
        after = omega (arith, x.after);
        within = omega (arith, x.within, as_long);
        inside = λ p a b. grind (arith, same (p + i - j) p, same (p + i - j + 1) (p + 1), x.inside (p + i - j));
        ends = grind (arith, same (k - 2) (l - 2), same (k - 2 + 1) (l - 2 + 1), x.ends, x.after);
      })

  pub stands_moves : (k l : ℕ) (u : Token) → l ≡ j + (k - i) → Stands s i k u → Stands t j l u
  stands_moves k l u h x =
      let long : k - i ≡ l - j = omega arith in
      let bytes : between i k s ≡ between j l t = ap (λ r. take (k - i) r) e ∙ ap (λ q. take q (drop j t)) long in
      record {
        after = omega (arith, x.after);
        within = omega (arith, x.within, as_long);
        spells = subst (λ b. Spells b u) bytes x.spells;
        whole = grind (arith, same i j, same k l, x.whole, x.after);
      }

-- where r is what is left of s, its length tells how far the gap has come
pub left : (s r : List ℕ) (p i : ℕ) → r ≡ drop i s → i ≤ length s → Gap s p i → (length r ≤ length s) × (r ≡ drop (length s - length r) s) × Gap s p (length s - length r)
left s r p i e m g =
    let long = ap length e ∙ length-drop i s in
    let far : i ≡ length s - length r = omega (arith, long) in
    (omega (arith, long), e ∙ ap (λ k. drop k s) far, subst (Gap s p) far g)
