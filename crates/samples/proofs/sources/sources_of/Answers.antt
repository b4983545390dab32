use Rattle.std.proofs.Common.{rules}
use Rattle.std.proofs.lemmas.Iterator.{YieldsList-from_slice, YieldsList-from_zip, YieldsList-from_map_by}
use Rattle.std.proofs.lemmas.Iterator.Consumers.{YieldsList-at, map_from_collect}
use Rattle.samples.proofs.Letters.{shown, named, lettered}
use Rattle.samples.proofs.sources.sources_of.Goals as goal

pub returns : goal.returns
returns c =
    let letters = YieldsList-at c.zip.ensures.first (YieldsList-from_slice _ c.iter.ensures.rest) in
    let texts = YieldsList-from_slice {s = c.zip.result.b} c.args.texts.now (search rules) in
    lettered c.collect.result c.args.texts.now (map_from_collect {v = shown} c.collect.result c.collect.ensures.ran (YieldsList-from_map_by _ shown named (YieldsList-at c.map.ensures.source (YieldsList-from_zip letters texts)) c.map.ensures.closure (λ x r q k. search rules)))
