use Rattle.std.proofs.Common.{◌<◌, length, get_or, refl, arith, rules}
use Rattle.std.proofs.lemmas.Bool.{false≢true}
use Rattle.catalogue.specs.Records.{blank_connection}
use Rattle.joiner.proofs.Stages as stages
use Rattle.joiner.proofs.turn.Turn.join.Goals as goal

pub offset_bounds-self-connection : goal.offset_bounds-self-connection
offset_bounds-self-connection g c =
    let t = c.args.self.now in
    let h : (get_or t.connections.now t.i blank_connection).part < length t.parts.now = stages.part_below c.requires.stage t.i (omega arith) t.within in
    search rules

pub bounds-self-connection : goal.bounds-self-connection
bounds-self-connection g c = stages.part_below c.requires.stage c.args.self.now.i (omega arith) c.args.self.now.within

pub pin-requires : goal.pin-requires
pin-requires g c = stages.of_below c.args.self.now.within c.requires.stage

pub returns-in_default : goal.returns-in_default
returns-in_default g c =
    let t = c.args.self.now in
    rw c.place-place.ensures (stages.no_pin_at t.within c.requires.stage c.word-name.ensures c.in_default.ensures.is)

pub returns-in_default-slice : goal.returns-in_default-slice
returns-in_default-slice g c =
    let t = c.args.self.now in
    rw c.place-place.ensures (stages.bad_bits_at t.within c.requires.stage c.word-name.ensures c.in-Some.ensures.is c.in_default-slice.ensures)

pub returns-in_default-far_end : goal.returns-in_default-far_end
returns-in_default-far_end g c =
    let t = c.args.self.now in
    rw c.place-place.ensures (stages.bad_end_at t.within c.requires.stage c.word-name.ensures c.in-Some.ensures.is c.in-Some-slice.ensures c.in_default-far_end.ensures)

pub returns-then-far-near : goal.returns-then-far-near
returns-then-far-near g c =
    let t = c.args.self.now in
    rw c.place-place.ensures (stages.other_width_at t.within c.requires.stage c.word-name.ensures c.in-Some.ensures.is c.in-Some-slice.ensures c.in-Some-far_end.ensures c.if-far-near.true)

pub is_fed_before-requires : goal.is_fed_before-requires
is_fed_before-requires g c =
    let t = c.args.self.now in
    stages.fed_from_at t.within c.requires.stage c.word-name.ensures c.in-Some.ensures.is c.in-Some-slice.ensures c.in-Some-far_end.ensures c.of-connection.ensures t.from c.requires.others

pub returns-then-is_fed_before : goal.returns-then-is_fed_before
returns-then-is_fed_before g c =
    let t = c.args.self.now in
    rw c.place-place.ensures (stages.fed_twice_at t.within c.requires.stage c.word-name.ensures c.in-Some.ensures.is c.in-Some-slice.ensures c.in-Some-far_end.ensures c.of-connection.ensures c.if-far-near.false (c.if-is_fed_before.ensures.0 refl))

pub returns : goal.returns
returns g c =
    let t = c.args.self.now in
    stages.stage_on t.within c.requires.stage c.word-name.ensures c.in-Some.ensures.is c.in-Some-slice.ensures c.in-Some-far_end.ensures c.of-connection.ensures c.if-far-near.false (λ h. false≢true (c.if-is_fed_before.ensures.1 h))
