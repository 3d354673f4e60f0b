use Rattle.std.proofs.Common.{◌≡◌, ◌<◌, [], ◌∷◌, length, map, get_or, sym, ap, subst, ◌∙◌, arith}
use Rattle.std.proofs.lemmas.List.{length-map, get_or-map}
use Rattle.flat_core.specs.inner.Marks.{Marked}
use Rattle.flat_core.specs.Renumbered.{new_number}
use Rattle.flat_core.proofs.MarkLemmas.{numbers_more}
use Rattle.flat_core.proofs.reach.Marks.mark_all.Goals as goal

pub mark-requires : goal.mark-requires
mark-requires c =
    let f = new_number c.args.replaced.now in
    let ids = c.args.ids.now in
    let index = c.loop-id.id-index in
    let item = c.id-item.result in
    let count = length-map ids f in
    let lt = c.loop-id-test.true in
    let within : index < length (map f ids) = omega arith in
    let low = c.requires index (f item) within in
    let read = get_or-map f ids index item (f item) lt in
    let number : c.new_number.result ≡ get_or (map f ids) index (f item) = c.new_number.ensures ∙ ap f c.id-item.is ∙ sym read in
    let size = c.loop-id.invariant.one_each in
    omega arith

pub loop-id-preserved : goal.loop-id-preserved
loop-id-preserved c =
    let marked = subst (λ n. Marked (n ∷ []) c.loop-id.self c.mark.new.self) c.new_number.ensures c.in_ok-mark.ensures in
    numbers_more (new_number c.args.replaced.now) c.args.ids.now c.loop-id.id-index c.args.self.now c.loop-id.self c.mark.new.self c.id-item.result c.loop-id-test.true c.id-item.is c.loop-id.invariant marked
