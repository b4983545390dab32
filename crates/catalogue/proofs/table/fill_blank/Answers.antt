use Rattle.std.proofs.Common.{[], ◌∷◌, ◌++◌, replicate, sym, ap, ◌∙◌, arith}
use Rattle.std.proofs.lemmas.List.{take_more_set, replicate_more, take_all}
use Rattle.catalogue.proofs.table.fill_blank.Goals as goal

pub loop-record-preserved : goal.loop-record-preserved
loop-record-preserved g c =
    let i = c.loop-record.record-index in
    take_more_set c.loop-record.records i c.args.blank (omega arith)
    ∙ ap (λ l. l ++ c.args.blank ∷ []) c.loop-record.invariant
    ∙ replicate_more i c.args.blank

pub returns : goal.returns
returns g c =
    sym (take_all c.loop-record.record-index c.loop-record.records (omega arith))
    ∙ c.loop-record.invariant
    ∙ ap (λ n. replicate n c.args.blank) (omega arith)
