use Rattle.std.proofs.Common.{get_or, ap, sym, subst, ◌∙◌}
use Rattle.flat_core.specs.Line.{inputs_of}
use Rattle.event_why.specs.inner.Found.{Knows}
use Rattle.event_why.specs.inner.Tale.{AreKept}
use Rattle.event_why.proofs.AloneLemmas.{explained_of, typed_alone, well_formed_alone}
use Rattle.event_why.proofs.DraftLemmas.{ok_then}
use Rattle.event_why.proofs.explain.explain.Goals as goal

pub order_of-requires : goal.order_of-requires
order_of-requires c = well_formed_alone c.args.flat.now c.in_ok-alone.alone c.args.output c.in_ok-alone.ensures c.requires.well_formed

pub known_at-requires-clause-setting : goal.known_at-requires-clause-setting
known_at-requires-clause-setting c =
    let s = c.args.flat.now in
    let f = c.in_ok-alone.alone in
    let n = c.args.output in
    let is = c.in_ok-alone.ensures in
    record {
      whole = is.whole;
      formed = well_formed_alone s f n is c.requires.well_formed;
      ordered = c.in_ok-order.ensures;
      kept = subst (AreKept f) (sym c.deref.ensures.value) c.in_ok-kept.ensures;
      sorted = c.requires.sorted;
      typed = typed_alone s f n is c.args.lines.now c.requires.typed;
    }

pub returns : goal.returns
returns c =
    let s = c.args.flat.now in
    let f = c.in_ok-alone.alone in
    let n = c.args.output in
    let is = c.in_ok-alone.ensures in
    let p = inputs_of c.args.lines.now in
    let same = ap (λ os. (get_or os 0 c.index-outputs-0.result).equation) (c.outputs.ensures ∙ is.outputs) in
    ok_then c.known_at.result c.known_at.ensures
    (λ answer known. explained_of s f n is p c.assert_whole.ensures.is_flat c.requires.well_formed c.args.time answer
    (λ z solves. subst (λ j. Knows f p z j c.args.time answer) same (known z solves)))
