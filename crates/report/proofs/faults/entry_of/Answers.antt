use Rattle.std.proofs.Common.{◌≡◌, ℕ, List, Option, Some, None, IfSome, MatchOption}
use Rattle.bundle.specs.Entries.{EntryAt, Lies}
use Rattle.bundle.specs.declared.opened.Bundle.{Bundle}
use Rattle.bundle.specs.declared.opened.Entry.{Entry}
use Rattle.report.proofs.faults.entry_of.Goals as goal

of_some : (s : List ℕ) (b : Bundle) (k : ℕ) (r : Option Entry) → b.bytes.now ≡ s → MatchOption r (Lies b k → ⊥) (λ e. EntryAt b k e) → IfSome r (λ e. (x : Bundle) × (x.bytes.now ≡ s) × EntryAt x k e)
of_some s b k None p h = tt
of_some s b k (Some e) p h = (b, p, h)

pub returns-in-Ok : goal.returns-in-Ok
returns-in-Ok c = of_some _ c.in-Ok.bundle _ _ c.in-Ok.ensures.1 c.entry.ensures
