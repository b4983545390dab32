use Rattle.std.proofs.Common.{sym, refl, ◌∙◌}
use Rattle.std.proofs.lemmas.Result.{err_from_is_err_and}
use Rattle.parser.proofs.Texts.{started, accepted, unended, unlexed}
use Rattle.parser.proofs.read_text.Goals as goal

pub loop-token-init : goal.loop-token-init
loop-token-init c = started _ _ _ c.new-lexer.ensures.over.0 c.new-lexer.ensures.over.1 c.new-lexer.ensures.starts.1 _ c.counts-counts.ensures refl

pub returns-in_err-token : goal.returns-in_err-token
returns-in_err-token c =
    let p = err_from_is_err_and c.from_residual.result c.from_residual.ensures.1 in
    let h = c.in_err-token.ensures in
    let inv = c.loop-token.invariant in
    record {
      lent = inv.lent;
      long = inv.long;
      reads = λ r enough fills. rw (p.1, p.2) (unlexed _ _ _ _ _ inv r enough fills _ h.step.0 h.step.1);
    }

pub returns-then-is_done : goal.returns-then-is_done
returns-then-is_done c =
    let inv = c.loop-token.invariant in
    let h = rw c.in_default.is at c.in_ok-token.ensures.step in
    record {
      lent = inv.lent;
      long = inv.long;
      reads = λ r enough fills. accepted _ _ _ _ _ inv r enough fills h.0 (sym c.if-is_done.ensures);
    }

pub returns-else-is_done : goal.returns-else-is_done
returns-else-is_done c =
    let inv = c.loop-token.invariant in
    let told = c.in_ok-token.ensures in
    let h = rw c.in_default.is at told.step in
    let place = c.place-else-is_done.ensures in
    record {
      lent = inv.lent;
      long = inv.long;
      reads = λ r enough fills. unended _ _ _ _ _ inv r enough fills _ h.0 (sym c.if-is_done.ensures) (place.0 ∙ told.over.1) (place.1 ∙ h.1);
    }
