use Rattle.std.proofs.Common.{◌≡◌, ◌<◌, true, length, drop, set, replicate, ap, ◌∙◌, arith}
use Rattle.std.proofs.lemmas.List.{length-append, length-drop, length-replicate}
use Rattle.agenda.proofs.MarkLemmas.{all_marked, front_marked, length-marks}
use Rattle.agenda.proofs.bits.Bits.mark_all.Goals as goal

pub mark-requires : goal.mark-requires
mark-requires c =
    omega (arith, ap length c.loop-place.invariant, length-append (replicate c.loop-place.place true) (drop c.loop-place.place c.args.self.now), length-replicate c.loop-place.place true, length-drop c.loop-place.place c.args.self.now, ap length c.self.view_is, length-marks c.self.inside.places c.self.inside.words.items)

pub loop-place-preserved : goal.loop-place-preserved
loop-place-preserved c =
    let there : c.loop-place.place < length c.args.self.now = omega (arith, ap length c.self.view_is, length-marks c.self.inside.places c.self.inside.words.items) in
    c.mark.ensures ∙ ap (λ marks. set marks c.loop-place.place true) c.loop-place.invariant ∙ front_marked c.args.self.now c.loop-place.place there

pub returns : goal.returns
returns c =
    let place : c.loop-place.place ≡ length c.args.self.now = omega (arith, ap length c.self.view_is, length-marks c.self.inside.places c.self.inside.words.items) in
    c.loop-place.invariant ∙ all_marked c.args.self.now c.loop-place.place place
