use Rattle.std.proofs.Common.{ℕ, ◌+◌, ◌-◌, subst, arith}
use Rattle.report.specs.Lines.{LineOf}
use Rattle.report.proofs.Lines.{line_of}
use Rattle.report.proofs.place.locate.Goals as goal

pub returns : goal.returns
returns c =
    let s = c.args.text.now in
    let at = c.min-at.result in
    let cut = c.split_at.ensures in
    let line = c.last_line-start.ensures in
    let rest = c.line_len.ensures in
    let P : ℕ → Type 0 = λ i. LineOf s i (c.newlines.result + 1) (at - c.last_line-start.result + 1) c.last_line-start.result (at + c.line_len.result) in
    subst P c.min-at.ensures (line_of s _ _ at _ _ _ (omega (arith, c.min-at.ensures)) cut.front cut.back c.newlines.ensures line.within line.begins line.before rest.within rest.inside rest.ends)
