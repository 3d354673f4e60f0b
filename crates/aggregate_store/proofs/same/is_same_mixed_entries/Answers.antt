use Rattle.std.proofs.Common.{rules, ◌≡◌, ℤ, [], ◌∷◌, map, sym, ap, ◌∙◌}
use Rattle.std.proofs.lemmas.Bool.{true≢false}
use Rattle.std.specs.Map.Iter.{deref_pair}
use Rattle.std.specs.Prelude.{is_some, unwrap_or}
use Rattle.tsl_value.specs.declared.scalar.Scalar.{Scalar}
use Rattle.aggregate_store.specs.inner.Entries.{entry_of}
use Rattle.aggregate_store.proofs.NumberEntries.{entries_rise}
use Rattle.aggregate_store.proofs.SameCells.{agree_all, agree_not, head_of, some_left, tables_same}
use Rattle.aggregate_store.proofs.same.is_same_mixed_entries.Goals as goal

pub returns-in_default : goal.returns-in_default
returns-in_default c =
    let ns = c.args.numbers.now.entries in let ks = c.args.scalars.now.entries in
    let e : ℤ × Scalar = (c.in-Some.number.now, c.in-Some.value.now) in let left = c.loop-number.left in
    let next : c.loop-number.number-iterator ≡ e ∷ c.next.new.self = search rules in
    tables_same
    (map entry_of ns) ks _
    (agree_not entry_of ns ks e c.loop-number.number-iterator c.next.new.self left next
    (λ same. true≢false (sym (ap is_some same) ∙ ap (λ es. is_some (head_of es)) c.in_default.ensures.steps.0)) c.loop-number.invariant)
    (entries_rise ns c.iter-rest.ensures.ordered) c.iter-left.ensures.ordered

pub returns-then-not-is_entry : goal.returns-then-not-is_entry
returns-then-not-is_entry c =
    let ns = c.args.numbers.now.entries in let ks = c.args.scalars.now.entries in
    let e : ℤ × Scalar = (c.in-Some.number.now, c.in-Some.value.now) in let left = c.loop-number.left in
    let next : c.loop-number.number-iterator ≡ e ∷ c.next.new.self = search rules in
    let d : Scalar × Scalar = (c.in-Some-next.key.now, c.in-Some-next.found.now) in
    tables_same
    (map entry_of ns) ks _
    (agree_not entry_of ns ks e c.loop-number.number-iterator c.next.new.self left next
    (λ same. true≢false (sym (c.is_entry.ensures.1 (ap (λ o. unwrap_or o d) (sym (ap head_of c.in-Some-next.ensures.steps) ∙ same))) ∙ c.if-not-is_entry.true)) c.loop-number.invariant)
    (entries_rise ns c.iter-rest.ensures.ordered) c.iter-left.ensures.ordered

pub returns : goal.returns
returns c =
    let ns = c.args.numbers.now.entries in let ks = c.args.scalars.now.entries in let left = c.loop-number.left in
    let none : c.loop-number.number-iterator ≡ [] = search rules in
    let ended = some_left deref_pair left c.next-2.new.self c.next-2.result c.next-2.ensures.steps ∙ c.is_none.ensures in
    tables_same
    (map entry_of ns) ks _ (agree_all entry_of ns ks c.loop-number.number-iterator left _ none ended c.loop-number.invariant)
    (entries_rise ns c.iter-rest.ensures.ordered) c.iter-left.ensures.ordered
