use Rattle.std.proofs.Common.{◌≡◌, ◌+◌, ◌++◌, vec_items, sym, ap, ◌∙◌, add-one, append_assoc}
use Rattle.report.specs.Columns.{line, lines}
use Rattle.reader.proofs.Filling.{entry_at}
use Rattle.report.proofs.listing.put_entries.Goals as goal

pub loop-k-preserved : goal.loop-k-preserved
loop-k-preserved c =
    let s = c.args.bundle.now.bytes.now in
    let page = vec_items c.args.page.now.bytes in
    let width = c.args.width in
    let step = c.in-Some.ensures.steps in
    let kept = c.loop-k.invariant in
    let at = entry_at c.args.bundle.now c.loop-k.k-iterator.iter c.loop-k.k-iterator.count c.in-Some.k c.in-Some.entry kept.0 kept.1 step.1 step.0.1.0 in
    let k : c.in-Some.k + 1 ≡ c.next.new.self.count = ap (λ n. n + 1) step.1 ∙ sym step.2 in (
      step.0.0 ∙ kept.0,
      step.0.1.1 ∙ ap (λ n. n + 1) kept.1 ∙ sym step.2,
      c.in_ok-put_entry.ensures c.args.bundle.now at
          ∙ ap (λ l. l ++ line s width c.in-Some.k) (kept.2 ∙ ap (λ n. page ++ lines s width n) (sym step.1))
          ∙ append_assoc page (lines s width c.in-Some.k) (line s width c.in-Some.k)
          ∙ ap (λ n. page ++ lines s width n) (sym (add-one c.in-Some.k) ∙ k),
    )
