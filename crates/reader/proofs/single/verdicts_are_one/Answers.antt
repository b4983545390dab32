use Rattle.reader.proofs.OneText.{one_chip, one_fault, not_both}
use Rattle.reader.proofs.OneBundle.{one_reading, one_refusal, read_or_refused}
use Rattle.reader.proofs.single.verdicts_are_one.Goals as goal

pub returns : goal.returns
returns c = record { one_chip = one_chip; one_fault = one_fault; not_both = not_both; one_reading = one_reading; one_refusal = one_refusal; read_or_refused = read_or_refused }
