use Rattle.std.proofs.Common.{rules, ◌≡◌, true, ap, refl, sym, ◌∙◌}
use Rattle.flat_core.specs.System.{System, equation, runs}
use Rattle.event_why.proofs.CalmLemmas.{other_alike}
use Rattle.event_why.proofs.RunLemmas.{due_skip, wait_put}
use Rattle.event_why.proofs.waits.put_pending_of.Goals as goal

pub returns-in_ok-number-in-Some : goal.returns-in_ok-number-in-Some
returns-in_ok-number-in-Some c T past flat_is story early at =
    let run : runs c.args.flat.now c.args.i ≡ true = search rules in
    let mid = c.put_pending.new.draft in
    wait_put T story past c.args.t c.args.i early c.equation.result.now (sym (ap (λ (s : System). runs s c.args.i) flat_is) ∙ run) (sym (ap (λ (s : System). equation s c.args.i) flat_is) ∙ c.equation.ensures)
    c.in-Some.args (sym c.delay_args.ensures ∙ c.in-Some.is) c.args.draft.now mid
    (record {
      steps = mid.steps;
      here = mid.here;
      latest = mid.latest;
      quiet = mid.quiet;
      pending = c.set.new.self;
      kept = mid.kept;
    })
    c.in_ok-number-in-Some.number (c.in_ok-number-in-Some.ensures T) at refl refl refl refl c.set.ensures

pub returns-in-None : goal.returns-in-None
returns-in-None c T past flat_is story early at =
    due_skip T story past past c.args.t (runs T.system) _ c.args.t c.args.draft.now c.args.i
    (other_alike T c.args.i c.equation.result.now (sym (ap (λ (s : System). equation s c.args.i) flat_is) ∙ c.equation.ensures) (sym c.delay_args.ensures ∙ c.in-None.is)) at
