use Rattle.std.proofs.Common.{◌≡◌, ℕ, ◌<◌, List, length, subst, arith}
use Rattle.std.specs.Prelude.{MatchOption}
use Rattle.translation_order.specs.Least.{IsLeast}
use Rattle.alias_rules.specs.Conflict.{IsKept}
use Rattle.alias_nears.proofs.Conflicts.{first_at, none_next, none_in_all}
use Rattle.alias_nears.proofs.kept.first_kept.Goals as goal

below : (set : List ℕ) (k end : ℕ) → end ≡ length set → k < end → k < length set
below set k end is lt = omega arith

pub returns-in-Some : goal.returns-in-Some
returns-in-Some c =
    let set = c.args.set.now in
    let conflict = IsKept c.args.flat.now set in
    let y = c.update_at-update.result in
    let lt = below set c.loop-place.place c.len-place-end.result c.len-place-end.ensures.count c.loop-place-test.true in
    let least = subst (λ r. MatchOption r ((x : ℕ) → conflict y x → ⊥) (IsLeast (conflict y))) c.in-Some.is c.in_ok-by.ensures in
    first_at set conflict c.loop-place.place y c.in-Some.by c.len-place-end.ensures.ascending lt c.update_at-update.ensures c.loop-place.invariant least

pub loop-place-preserved : goal.loop-place-preserved
loop-place-preserved c =
    let set = c.args.set.now in
    let conflict = IsKept c.args.flat.now set in
    let y = c.update_at-update.result in
    let none = subst (λ r. MatchOption r ((x : ℕ) → conflict y x → ⊥) (IsLeast (conflict y))) c.in-None.is c.in_ok-by.ensures in
    none_next set conflict c.loop-place.place y c.update_at-update.ensures none c.loop-place.invariant

pub returns : goal.returns
returns c =
    let set = c.args.set.now in
    none_in_all set (IsKept c.args.flat.now set) c.loop-place.place (let all = c.len-place-end.ensures.count in omega arith) c.loop-place.invariant
