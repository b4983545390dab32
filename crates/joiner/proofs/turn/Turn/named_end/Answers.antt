use Rattle.std.proofs.Common.{◌<◌, get_or, sym, ap, ◌∙◌, length, arith, rules}
use Rattle.catalogue.specs.Records.{blank_connection}
use Rattle.joiner.proofs.Mentions.{mention_below, named_before, named_here}
use Rattle.joiner.proofs.turn.Turn.named_end.Goals as goal

pub offset_bounds-self-mention : goal.offset_bounds-self-mention
offset_bounds-self-mention g c =
    let t = c.args.self.now in
    let cs = t.connections.now in
    let h : c.in-Some-earlier_mention.mention < length cs =
    omega (arith, t.within, mention_below t.scope.now.bundle.bytes.now cs (get_or cs t.i blank_connection).entry c.word-name.result.now t.i _ (sym c.in-Some-earlier_mention.ensures)) in
    search rules

pub bounds-self-mention : goal.bounds-self-mention
bounds-self-mention g c =
    let t = c.args.self.now in
    let cs = t.connections.now in
    omega (arith, t.within, mention_below t.scope.now.bundle.bytes.now cs (get_or cs t.i blank_connection).entry c.word-name.result.now t.i _ (sym c.in-Some-earlier_mention.ensures))

pub returns-in-Some-earlier_mention : goal.returns-in-Some-earlier_mention
returns-in-Some-earlier_mention g c r pins upto near =
    let t = c.args.self.now in
    c.internal_end.ensures
    ∙ named_before (g.K.Kit.model t.scope.now.kit.now) _ r t.i t.connections.now upto c.args.near c.args.span c.args.bits pins (ap (λ x. x.entry) (upto.left t.i (omega arith))) c.word-name.ensures c.in_default.ensures.is (sym c.in-Some-earlier_mention.ensures)

pub returns-in-None : goal.returns-in-None
returns-in-None g c r pins upto near =
    let t = c.args.self.now in
    c.internal_end-in-None.ensures
    ∙ named_here (g.K.Kit.model t.scope.now.kit.now) _ r t.i t.connections.now upto c.args.near c.args.span c.args.bits pins (ap (λ x. x.entry) (upto.left t.i (omega arith))) c.word-name.ensures c.in_default.ensures.is near (sym c.in-None.ensures)
