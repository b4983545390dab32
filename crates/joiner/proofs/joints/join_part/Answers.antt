use Rattle.std.proofs.Common.{◌+◌, ◌≤◌, length, get_or, arith, rules}
use Rattle.catalogue.specs.Records.{blank_part}
use Rattle.joiner.proofs.PartLines as lines
use Rattle.joiner.proofs.joints.join_part.Goals as goal

pub word-requires : goal.word-requires
word-requires g c = lines.chip_below c.requires.within c.requires.stage

pub returns-in_default : goal.returns-in_default
returns-in_default g c = rw c.place.ensures (lines.unknown_at c.requires.within c.requires.stage c.word.ensures c.in_default.ensures)

pub overflow_add-i-end : goal.overflow_add-i-end
overflow_add-i-end g c =
    let h : (get_or c.args.parts.now c.args.p blank_part).connections + (get_or c.args.parts.now c.args.p blank_part).count ≤ length c.args.connections.now =
    lines.line_within c.requires.within c.requires.stage in
    search rules

pub loop-i-init : goal.loop-i-init
loop-i-init g c = lines.stage_in c.requires.within c.requires.stage c.word.ensures c.in-Some.ensures

pub invariant_of-turn : goal.invariant_of-turn
invariant_of-turn g c = record {
  within = lines.next_within c.args.parts.now c.args.p c.in-Some.piece c.requires.within c.loop-i.invariant c.loop-i.auto.i c.loop-i-test.true;
  below = lines.next_below c.args.parts.now c.args.p c.in-Some.piece c.requires.within c.loop-i.invariant c.loop-i.auto.i c.loop-i-test.true;
  others = lines.next_texts c.args.parts.now c.args.p c.in-Some.piece c.requires.within c.loop-i.invariant c.loop-i.auto.i c.loop-i-test.true c.args.from c.requires.others;
}

pub join-requires-clause-stage : goal.join-requires-clause-stage
join-requires-clause-stage g c = lines.next_stage c.args.parts.now c.args.p c.in-Some.piece c.requires.within c.loop-i.invariant c.loop-i.auto.i c.loop-i-test.true

pub join-requires-clause-others : goal.join-requires-clause-others
join-requires-clause-others g c = lines.next_others c.args.parts.now c.args.p c.in-Some.piece c.requires.within c.loop-i.invariant c.loop-i.auto.i c.loop-i-test.true c.args.from c.requires.others

pub loop-i-preserved : goal.loop-i-preserved
loop-i-preserved g c = lines.stage_out c.args.parts.now c.args.p c.in-Some.piece c.requires.within c.loop-i.invariant c.loop-i.auto.i c.loop-i-test.true _ c.in_ok-connections.ensures

pub returns : goal.returns
returns g c = lines.line_on c.args.parts.now c.args.p c.in-Some.piece c.requires.within c.loop-i.invariant c.loop-i-test.false (omega (arith, c.loop-i.auto.i-end))
