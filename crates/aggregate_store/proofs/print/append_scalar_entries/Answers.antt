use Rattle.std.proofs.Common.{rules, ◌≡◌, ◌∷◌, ◌++◌, map, length, take, sym, ap, ◌∙◌}
use Rattle.tsl_value.specs.Print.{listed}
use Rattle.tsl_value.specs.inner.ScalarOrder.{scalar_cmp_total}
use Rattle.aggregate_store.proofs.FiniteMaps.{entries-of_entries}
use Rattle.aggregate_store.proofs.Listed.{all_printed, begins_still, begins_through, begins_with, entry_text, first_printed, none_printed}
use Rattle.aggregate_store.proofs.print.append_scalar_entries.Goals as goal

pub returns-in_default-clause-ok : goal.returns-in_default-clause-ok
returns-in_default-clause-ok c =
    none_printed entry_text c.args.out.now c.args.entries.now.entries (sym c.iter-rest.ensures.rest ∙ c.in_default.ensures.steps.0)
    ∙ ap (λ es. c.args.out.now ++ listed (map entry_text es)) (sym (entries-of_entries scalar_cmp_total c.args.entries.now.entries c.iter-rest.ensures.ordered))

pub loop-key-init : goal.loop-key-init
loop-key-init c =
    let left = c.into_iter-key-iterator.result in
    let all : c.args.entries.now.entries ≡ (c.in-Some.key.now, c.in-Some.value.now) ∷ left = search rules in
    let printed : c.append_entry.new.out ≡ c.args.out.now ++ entry_text (c.in-Some.key.now, c.in-Some.value.now) = search rules in
    record {
      kept = begins_with c.args.out.now (entry_text (c.in-Some.key.now, c.in-Some.value.now)) c.append_entry.new.out printed;
      whole = first_printed entry_text c.args.out.now c.append_entry.new.out (c.in-Some.key.now, c.in-Some.value.now) left c.args.entries.now.entries printed all;
    }

pub returns-in_err-append_entry-2-clause-err : goal.returns-in_err-append_entry-2-clause-err
returns-in_err-append_entry-2-clause-err c =
    let before : take (length c.args.out.now) c.append.new.self ≡ c.args.out.now =
    ap (take (length c.args.out.now)) c.in_ok-append.ensures.ok ∙ begins_still c.args.out.now c.loop-key.out _ c.loop-key.invariant.kept in
    let begins : take (length c.args.out.now) c.append_entry-in-loop-key.new.out ≡ c.args.out.now =
    begins_through c.args.out.now c.append.new.self c.append_entry-in-loop-key.new.out before c.in_err-append_entry-2.ensures.err in
    search rules

pub returns-clause-ok : goal.returns-clause-ok
returns-clause-ok c =
    all_printed entry_text c.loop-key.out _ c.loop-key.key-iterator c.loop-key.invariant.whole (search rules)
    ∙ ap (λ es. c.args.out.now ++ listed (map entry_text es)) (sym (entries-of_entries scalar_cmp_total c.args.entries.now.entries c.iter-rest.ensures.ordered))
