use Rattle.std.proofs.Common.{Some, [], ◌∷◌, ap, refl, ◌∙◌}
use Rattle.event_why.specs.inner.Drafted.{fact_at, joined_of, silence_of, there}
use Rattle.event_why.proofs.DraftLemmas.{ok_then, put_still}
use Rattle.event_why.proofs.QuietLemmas.{joined_none, joined_some}
use Rattle.event_why.proofs.draft.Draft.joined.Goals as goal

pub returns-in_ok-numbers_of-in-Some-clause-still : goal.returns-in_ok-numbers_of-in-Some-clause-still
returns-in_ok-numbers_of-in-Some-clause-still c = ok_then c.put.result c.put.ensures (λ n put. put_still c.args.self.now c.put.new.self _ n put)

pub returns-in_ok-numbers_of-in-Some-clause-joins : goal.returns-in_ok-numbers_of-in-Some-clause-joins
returns-in_ok-numbers_of-in-Some-clause-joins c =
    let old = c.args.self.now in
    let times = c.joined_times.ensures ∙ ap (λ x. joined_of (silence_of (fact_at old.steps.items x)) (silence_of (fact_at old.steps.items (Some c.args.later)))) c.get-earlier.ensures in
    let by_is = c.in_ok-numbers_of-in-Some.ensures ∙ ap (λ x. there (x ∷ Some c.args.later ∷ [])) c.get-earlier.ensures in
    ok_then c.put.result c.put.ensures
    (λ n put T low from to story run quiet later le.
    joined_some T c.args.i run story old c.args.later to low from quiet later le c.put.new.self _ n put c.in-Some.times.0 c.in-Some.times.1 refl by_is c.joined_times.result times c.in-Some.is)

pub returns-in-None-clause-joins : goal.returns-in-None-clause-joins
returns-in-None-clause-joins c T low from to story run quiet later le =
    let old = c.args.self.now in
    let times = c.joined_times.ensures ∙ ap (λ x. joined_of (silence_of (fact_at old.steps.items x)) (silence_of (fact_at old.steps.items (Some c.args.later)))) c.get-earlier.ensures in
    joined_none T c.args.i run story old c.args.later to low from quiet later c.joined_times.result times c.in-None.is
