use Rattle.std.proofs.Common.{rules, ◌≡◌, [], ◌∷◌, map, ap, ◌∙◌}
use Rattle.std.specs.FinMap as finite_map
use Rattle.tsl_value.specs.declared.scalar.Scalar.TheVariants as scalar
use Rattle.aggregate_store.specs.inner.Entries.{entry_of, table_of_scalars}
use Rattle.aggregate_store.proofs.Gathered.{has_all, has_more, has_none}
use Rattle.aggregate_store.proofs.NumberEntries.{entries_rise}
use Rattle.aggregate_store.proofs.entry_tree.scalars_of.Goals as goal

pub loop-number-init : goal.loop-number-init
loop-number-init c =
    let all : c.into_iter-number-iterator.result ≡ c.args.numbers.now.entries = search rules in
    has_none
    (table_of_scalars c.new-scalars.result) (map entry_of c.into_iter-number-iterator.result) (map entry_of c.args.numbers.now.entries)
    (ap finite_map.from_entries c.new-scalars.ensures.empty) (ap (map entry_of) all)

pub loop-number-preserved : goal.loop-number-preserved
loop-number-preserved c =
    let s = c.loop-number.scalars in let k = c.in-Some.number.now in let v = c.in-Some.value.now in
    let left : c.loop-number.number-iterator ≡ (k, v) ∷ c.next.new.self = search rules in
    has_more
    (table_of_scalars s) (table_of_scalars c.add_entry.new.scalars) (scalar.Int k, v)
    (map entry_of c.loop-number.number-iterator) (map entry_of c.next.new.self) (map entry_of c.args.numbers.now.entries)
    (entries_rise c.args.numbers.now.entries c.iter-rest.ensures.ordered) (ap (map entry_of) left)
    (c.in_ok-add_entry.ensures.ok ∙ ap (λ key. finite_map.insert (table_of_scalars s) key v) c.key_of-key.ensures)
    c.loop-number.invariant

pub returns : goal.returns
returns c =
    let none : c.loop-number.number-iterator ≡ [] = search rules in
    has_all
    (table_of_scalars c.loop-number.scalars) (map entry_of c.loop-number.number-iterator) (map entry_of c.args.numbers.now.entries)
    (ap (map entry_of) none) c.loop-number.invariant
