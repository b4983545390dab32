use Rattle.std.proofs.Common.{ap, ◌∙◌, length, unwrap_or, rules}
use Rattle.std.proofs.lemmas.Iterator.{YieldsList-from_map}
use Rattle.std.proofs.lemmas.Iterator.Consumers.{YieldsList-at, reduce_from_yields_List}
use Rattle.std.proofs.lemmas.List.Folds.{max_of_map}
use Rattle.bundle.proofs.Finding.{gives_names, names_left}
use Rattle.report.proofs.Tables.{widest_is}
use Rattle.report.proofs.listing.name_width.Goals as goal

pub returns : goal.returns
returns c =
    c.unwrap_or.ensures
    ∙ ap (λ r. unwrap_or r 0) (reduce_from_yields_List _ c.map.result c.max.result c.max.ensures.ran (YieldsList-from_map _ length (YieldsList-at c.map.ensures.source (gives_names c.entries.result)) c.map.ensures.closure (λ x r q k. search rules)))
    ∙ max_of_map length (names_left c.entries.result)
    ∙ widest_is c.args.bundle.now c.entries.result c.entries.ensures.bundle c.entries.ensures.first
