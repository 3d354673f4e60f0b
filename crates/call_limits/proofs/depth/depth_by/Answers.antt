use Rattle.std.proofs.Common.{◌≡◌, max, ap, ◌∙◌}
use Rattle.call_limits.proofs.DepthLemmas.{depth_by, deepest, deepest_is}
use Rattle.call_limits.proofs.depth.depth_by.Goals as goal

pub returns : goal.returns
returns c =
    let through : c.map_or-through.result ≡ deepest c.greatest.result = deepest_is c.greatest.result c.map_or-through.result c.map_or-through.ensures in
    depth_by c.args.depths.now c.args.counted.now c.args.passed.now c.greatest.result c.greatest-2.result c.max.result
    (record { none = c.greatest.ensures.none; one_of = c.greatest.ensures.one_of; greatest = c.greatest.ensures.greatest })
    (record { none = c.greatest-2.ensures.none; one_of = c.greatest-2.ensures.one_of; greatest = c.greatest-2.ensures.greatest })
    (c.max.ensures ∙ ap (λ n. max n c.unwrap_or-besides.result) through ∙ ap (λ n. max (deepest c.greatest.result) n) c.unwrap_or-besides.ensures)
