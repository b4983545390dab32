use Rattle.std.proofs.Common.{[], ◌∷◌, ◌++◌, map, vec_items, sym, ap, ◌∙◌, subst, append_assoc, append-nil}
use Rattle.std.proofs.lemmas.List.{map-append}
use Rattle.std.specs.Str.Iter.{split_whitespace_rest}
use Rattle.samples.specs.Words.{Lists, none, more}
use Rattle.samples.proofs.lines.texts_of.Goals as goal

pub loop-word-init : goal.loop-word-init
loop-word-init c = λ texts rest.
    let whole = ap split_whitespace_rest c.into_iter-word-iterator.ensures.into_iter_gives ∙ c.split_whitespace-word-items.ensures.rest in
    subst (Lists c.args.line.now) (sym (ap (λ l. map vec_items l ++ texts) c.new-texts.ensures.items)) (subst (λ l. Lists l texts) whole rest)

pub loop-word-preserved : goal.loop-word-preserved
loop-word-preserved c = λ texts rest.
    let text = vec_items c.in_ok-decode.field-0 in
    let step = c.in-Some.ensures.steps in
    let longer = ap (map vec_items) c.in_ok-push.ensures.items ∙ map-append vec_items (vec_items c.loop-word.texts) (c.in_ok-decode.field-0 ∷ []) in
    let here = c.loop-word.invariant (text ∷ texts) (subst (λ l. Lists l (text ∷ texts)) (sym step.1) (more step.0 c.in-Some.word.now _ text texts step.3 step.4 step.5 c.in_ok-decode.ensures rest)) in
    subst (Lists c.args.line.now) (sym (ap (λ l. l ++ texts) longer ∙ append_assoc (map vec_items (vec_items c.loop-word.texts)) (text ∷ []) texts)) here

pub returns : goal.returns
returns c = subst (Lists c.args.line.now) (append-nil _) (c.loop-word.invariant [] (none _ c.in-None.ensures.steps.1))
