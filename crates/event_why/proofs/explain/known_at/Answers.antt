use Rattle.std.proofs.Common.{◌≡◌, ◌+◌, suc, sym, subst, arith}
use Rattle.flat_core.specs.Line.{inputs_of}
use Rattle.flat_core.specs.Solution.{Solves}
use Rattle.event_why.specs.inner.Course.{Runs}
use Rattle.event_why.proofs.DraftLemmas.{ok_then}
use Rattle.event_why.proofs.explain.known_at.Goals as goal

pub returns-in-Over : goal.returns-in-Over
returns-in-Over c =
    let story = c.args.story.now in
    let p = inputs_of c.args.lines.now in
    let value = c.get.ensures.value in
    let same : c.get.result + 1 ≡ suc c.args.time = omega (arith, value) in
    ok_then c.known_by.result c.known_by.ensures
    (λ answer known z solves. known story p z
    (subst (Runs story p z (suc c.args.time) c.put_all.new.draft) c.in-Over.is
    (subst (λ n. Runs story p z n c.put_all.new.draft c.in_ok-until.field-0) same (c.in_ok-until.ensures z (subst (λ n. Solves story.flat.now p n z) (sym same) solves))))
    c.requires.run)

pub returns-in-Fault : goal.returns-in-Fault
returns-in-Fault c z solves =
    let story = c.args.story.now in
    let p = inputs_of c.args.lines.now in
    let value = c.get.ensures.value in
    let same : c.get.result + 1 ≡ suc c.args.time = omega (arith, value) in
    subst (Runs story p z (suc c.args.time) c.put_all.new.draft) c.in-Fault.is
    (subst (λ n. Runs story p z n c.put_all.new.draft c.in_ok-until.field-0) same (c.in_ok-until.ensures z (subst (λ n. Solves story.flat.now p n z) (sym same) solves)))
