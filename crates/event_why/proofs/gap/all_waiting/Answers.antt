use Rattle.std.proofs.Common.{rules, ◌≡◌, [], Contains, false, true, map, subst, sym}
use Rattle.std.specs.List.{AllByRecursion}
use Rattle.why_rules.specs.Rules.{AllWait}
use Rattle.why_rules.specs.Rules as rule
use Rattle.event_why.specs.Said.{said}
use Rattle.event_why.specs.inner.Waits.{PutsWaiting}
use Rattle.event_why.proofs.GapLemmas.{none_waits, waits_past}
use Rattle.event_why.proofs.gap.all_waiting.Goals as goal

pub loop-place-init : goal.loop-place-init
loop-place-init c =
    record {
      waits = subst (λ xs. AllWait c.args.before c.args.to [] (map said xs)) (sym c.new-uses.ensures.items) rule.AllWait.done;
      among = subst (λ xs. AllByRecursion (Contains (map said c.args.facts.now)) (map said xs)) (sym c.new-uses.ensures.items) tt;
    }

pub returns-then-not-put : goal.returns-then-not-put
returns-then-not-put c uses waits among =
    let s = c.args.grounds.now.flat.now in
    let slice = c.args.grounds.now.slice.now in
    let facts = map said c.args.facts.now in
    let no : c.in_ok-put.put ≡ false = search rules in
    let old = map said c.loop-place.uses.items in
    let new = map said c.put_waiting.new.uses.items in
    let puts = subst (λ b. PutsWaiting c.args.before c.args.to s slice c.loop-place.place facts old b new) no c.in_ok-put.ensures in
    none_waits c.args.before c.args.to s slice c.loop-place.place facts old new uses puts waits among

pub loop-place-preserved : goal.loop-place-preserved
loop-place-preserved c =
    let s = c.args.grounds.now.flat.now in
    let slice = c.args.grounds.now.slice.now in
    let facts = map said c.args.facts.now in
    let yes : c.in_ok-put.put ≡ true = search rules in
    let old = map said c.loop-place.uses.items in
    let new = map said c.put_waiting.new.uses.items in
    let puts = subst (λ b. PutsWaiting c.args.before c.args.to s slice c.loop-place.place facts old b new) yes c.in_ok-put.ensures in
    let more = waits_past c.args.before c.args.to s slice c.loop-place.place facts old new puts c.loop-place.invariant.waits c.loop-place.invariant.among in
    record { waits = more.0; among = more.1 }
