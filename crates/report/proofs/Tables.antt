-- The names that a table has.
use Rattle.std.proofs.Common.{◌≡◌, ℕ, zero, suc, ◌+◌, ◌-◌, max, List, length, map, sym, ap, ◌∙◌, add-one, add-zero, zero-add, arith}
use Rattle.std.specs.List.{fold, range_with_len}
use Rattle.bundle.specs.declared.opened.Bundle.{Bundle}
use Rattle.bundle.specs.declared.opened.Entries.{Entries}
use Rattle.bundle.specs.Layout.{name}
use Rattle.bundle.proofs.Finding.{names_left}
use Rattle.report.specs.Columns.{widest}

-- the longest of the first k names and the n behind them
widest_from : (s : List ℕ) (k n : ℕ) → fold (λ w m. max w (length m)) (widest s k) (map (name s) (range_with_len k n)) ≡ widest s (k + n)
widest_from s k zero = sym (ap (widest s) (add-zero k))
widest_from s k (suc n) =
    let at : k + 1 + n ≡ k + suc n = omega arith in
    ap (λ w. fold (λ w m. max w (length m)) w (map (name s) (range_with_len (k + 1) n))) (sym (ap (widest s) (add-one k)))
    ∙ widest_from s (k + 1) n ∙ ap (widest s) at

-- an iterator that begins leaves all names
pub widest_is : (b : Bundle) (i : Entries) → i.bundle ≡ b → i.next ≡ 0 → fold (λ w m. max w (length m)) 0 (names_left i) ≡ widest b.bytes.now b.entries
widest_is b i p q =
    let n : i.bundle.entries - i.next ≡ b.entries = ap (λ (x : Bundle). x.entries - i.next) p ∙ ap (λ n. b.entries - n) q ∙ (omega arith) in
    (λ j. fold (λ w m. max w (length m)) 0 (map (name (p j).bytes.now) (range_with_len (q j) (n j))))
    ∙ widest_from b.bytes.now 0 b.entries ∙ ap (widest b.bytes.now) (zero-add b.entries)
