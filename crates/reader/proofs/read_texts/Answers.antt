use Rattle.std.proofs.Common.{◌≡◌, ◌+◌, sym, refl, ap, ◌∙◌, subst, add-one, arith}
use Rattle.std.proofs.lemmas.Result.{err_from_is_err_and}
use Rattle.reader.specs.Verdicts.{none, FilledUpto}
use Rattle.reader.proofs.Filling.{lent_on, long_on, enough_on, entry_at, filled_more, unread_at}
use Rattle.reader.proofs.read_texts.Goals as goal

pub loop-k-init : goal.loop-k-init
loop-k-init c =
    let start : c.into_iter-k-iterator.result.count ≡ 0 = cc in
    ((refl, refl, refl), (refl, refl, refl), cc, cc, subst (λ n. FilledUpto c.args.bundle.now.bytes.now n c.args.catalogue.now) (sym start) (record { records = _; read = none; fills = c.requires.blank }))

pub loop-k-preserved : goal.loop-k-preserved
loop-k-preserved c =
    let s = c.args.bundle.now.bytes.now in
    let old = c.args.catalogue.now in
    let mid = c.loop-k.catalogue in
    let new = c.read_text.new.catalogue in
    let told = c.in_ok-read_text.ensures in
    let step = c.in-Some.ensures.steps in
    let kept = c.loop-k.invariant in
    let filled : FilledUpto s c.in-Some.k mid = subst (λ n. FilledUpto s n mid) (sym step.1) kept.4 in
    let at = entry_at c.args.bundle.now c.loop-k.k-iterator.iter _ c.in-Some.k c.in-Some.entry kept.2 kept.3 step.1 step.0.1.0 in
    let more = filled_more s c.in-Some.k mid new _ _ at.named at.holds filled (told.reads filled.records (enough_on old mid kept.1 c.requires.enough) filled.fills) in (
      lent_on old mid new kept.0 told.lent,
      long_on old mid new kept.1 told.long,
      step.0.0 ∙ kept.2,
      step.0.1.1 ∙ ap (λ n. n + 1) kept.3 ∙ sym step.2,
      subst (λ n. FilledUpto s n new) (sym (add-one c.in-Some.k) ∙ ap (λ n. n + 1) step.1 ∙ sym step.2) more,
    )

pub returns-in_err-read_text-clause-reads : goal.returns-in_err-read_text-clause-reads
returns-in_err-read_text-clause-reads c =
    let s = c.args.bundle.now.bytes.now in
    let old = c.args.catalogue.now in
    let mid = c.loop-k.catalogue in
    let told = c.in_err-read_text.ensures in
    let step = c.in-Some.ensures.steps in
    let kept = c.loop-k.invariant in
    let filled : FilledUpto s c.in-Some.k mid = subst (λ n. FilledUpto s n mid) (sym step.1) kept.4 in
    let at = entry_at c.args.bundle.now c.loop-k.k-iterator.iter _ c.in-Some.k c.in-Some.entry kept.2 kept.3 step.1 step.0.1.0 in
    let p = err_from_is_err_and c.from_residual.result c.from_residual.ensures.1 in
    rw (p.1, p.2) (unread_at s c.in-Some.k mid _ _ _ (omega (arith, at.lies.below, c.args.bundle.now.counted)) at.named at.holds filled (told.reads filled.records (enough_on old mid kept.1 c.requires.enough) filled.fills))
