use Rattle.std.proofs.lemmas.Result.{IfOk-weaker}
use Rattle.packer.proofs.Bytes.{row_written}
use Rattle.packer.proofs.write.push_row.Goals as goal

pub returns : goal.returns
returns c =
    IfOk-weaker c.push_number-2.result _ _
    (λ _ last. row_written _ _ _ _ _ c.args.source c.args.start
    c.in_ok-extend_from_slice.ensures.items
    c.in_ok-extend_from_slice-2.ensures.items
    c.in_ok-push_number.ensures
    last)
    c.push_number-2.ensures
