use Rattle.std.proofs.Common.{◌+◌, get_or, sym, ap, ◌∙◌, arith, below_more}
use Rattle.std.proofs.lemmas.Int.Digits.{digits_value_more}
use Rattle.std.proofs.lemmas.List.{take_all}
use Rattle.std.specs.Str.Parse.{digits_value}
use Rattle.lexer.proofs.Numerals.{digit_value, value_front}
use Rattle.lexer.proofs.scan.number.Goals as goal

pub returns-then-n-gt-MAX_NUMBER : goal.returns-then-n-gt-MAX_NUMBER
returns-then-n-gt-MAX_NUMBER c = λ n h.
    let bs = c.args.bytes.now in
    let i = c.loop-b.b-index in
    omega (arith, digits_value_more 10 bs i c.loop-b-test.true, digit_value (get_or bs i 0) (sym c.if-not-is_ascii_digit.ensures.value), value_front (i + 1) bs, c.loop-b.invariant.0, h.worth, h.small)

pub loop-b-preserved : goal.loop-b-preserved
loop-b-preserved c =
    let bs = c.args.bytes.now in
    let i = c.loop-b.b-index in
    let d = sym c.if-not-is_ascii_digit.ensures.value in
    (omega (arith, digits_value_more 10 bs i c.loop-b-test.true, digit_value (get_or bs i 0) d, c.loop-b.invariant.0), omega arith, below_more _ _ c.loop-b.invariant.2 d)

pub returns : goal.returns
returns c =
    let bs = c.args.bytes.now in
    let all = take_all c.loop-b.b-index bs c.loop-b-test.false in
    record { some = c.requires; digits = λ k h. c.loop-b.invariant.2 k (omega arith); worth = sym (ap (digits_value 10) all) ∙ c.loop-b.invariant.0; small = c.loop-b.invariant.1 }
