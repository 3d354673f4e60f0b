use Rattle.std.proofs.Common.{rules, ◌≡◌, ◌++◌, ◌∷◌, [], false, true, ap, map, subst, sym, ◌∙◌}
use Rattle.std.proofs.lemmas.List.{map_push}
use Rattle.tsl_value.proofs.Lists.{contains_at}
use Rattle.flat_core.specs.Instant.{is_delay}
use Rattle.flat_core.proofs.Members.{in-Contains}
use Rattle.event_why.specs.Said.{said}
use Rattle.event_why.specs.inner.Waits.{PutsWaiting}
use Rattle.event_why.specs.inner.Waits as waits_in
use Rattle.event_why.proofs.gap.put_waiting.Goals as goal

pub equation-requires : goal.equation-requires
equation-requires c =
    let slice = c.args.grounds.now.slice.now in
    c.requires.grounds.there c.in-Some.i.now (in-Contains slice c.in-Some.i.now (contains_at slice c.args.place c.in-Some.i.now (sym c.in-Some.ensures)))

pub returns-then-not-is_delay_equation : goal.returns-then-not-is_delay_equation
returns-then-not-is_delay_equation c =
    let no : c.is_delay_equation.result ≡ false = search rules in
    waits_in.PutsWaiting.other (sym c.in-Some.ensures) (ap is_delay c.equation.ensures ∙ sym c.is_delay_equation.ensures ∙ no)

pub returns-in_ok-push-in-Some-waiting : goal.returns-in_ok-push-in-Some-waiting
returns-in_ok-push-in-Some-waiting c =
    let old = c.args.uses.now.items in
    let f = said c.in-Some-waiting.fact.now in
    let has = c.in-Some-waiting.ensures.some in
    let pushed : c.push.new.self.items ≡ old ++ c.in_ok-copy-in-Some-waiting.field-0 ∷ [] = search rules in
    let put : map said c.push.new.self.items ≡ map said old ++ f ∷ [] =
    ap (map said) pushed ∙ map_push said old c.in_ok-copy-in-Some-waiting.field-0 ∙ ap (λ g. map said old ++ g ∷ []) c.in_ok-copy-in-Some-waiting.ensures in
    let yes : c.is_delay_equation.result ≡ true = search rules in
    subst (PutsWaiting c.args.before c.args.to c.args.grounds.now.flat.now c.args.grounds.now.slice.now c.args.place (map said c.args.facts.now) (map said old) true) (sym put)
    (waits_in.PutsWaiting.put f (sym c.in-Some.ensures) (ap is_delay c.equation.ensures ∙ sym c.is_delay_equation.ensures ∙ yes) has.1 has.0)

pub returns-in-None : goal.returns-in-None
returns-in-None c =
    let yes : c.is_delay_equation.result ≡ true = search rules in
    waits_in.PutsWaiting.none (sym c.in-Some.ensures) (ap is_delay c.equation.ensures ∙ sym c.is_delay_equation.ensures ∙ yes) c.in-None.ensures.none
