use Rattle.std.proofs.Common.{rules, ◌≡◌, ◌∷◌, ◌++◌, length, take, sym, ap, ◌∙◌}
use Rattle.aggregate_store.proofs.Listed.{all_printed, begins_still, begins_through, begins_with, first_printed, none_printed}
use Rattle.aggregate_store.proofs.NumberEntries.{number_entries_text, number_entry_text}
use Rattle.aggregate_store.proofs.print.append_number_entries.Goals as goal

pub returns-in_default-clause-ok : goal.returns-in_default-clause-ok
returns-in_default-clause-ok c =
    none_printed number_entry_text c.args.out.now c.args.entries.now.entries (sym c.iter-rest.ensures.rest ∙ c.in_default.ensures.steps.0)
    ∙ ap (λ text. c.args.out.now ++ text) (number_entries_text c.args.entries.now.entries c.iter-rest.ensures.ordered)

pub loop-number-init : goal.loop-number-init
loop-number-init c =
    let left = c.into_iter-number-iterator.result in
    let all : c.args.entries.now.entries ≡ (c.in-Some.number.now, c.in-Some.value.now) ∷ left = search rules in
    let printed : c.append_number_entry.new.out ≡ c.args.out.now ++ number_entry_text (c.in-Some.number.now, c.in-Some.value.now) = search rules in
    record {
      kept = begins_with c.args.out.now (number_entry_text (c.in-Some.number.now, c.in-Some.value.now)) c.append_number_entry.new.out printed;
      whole = first_printed number_entry_text c.args.out.now c.append_number_entry.new.out (c.in-Some.number.now, c.in-Some.value.now) left c.args.entries.now.entries printed all;
    }

pub returns-in_err-append_number_entry-2-clause-err : goal.returns-in_err-append_number_entry-2-clause-err
returns-in_err-append_number_entry-2-clause-err c =
    let before : take (length c.args.out.now) c.append.new.self ≡ c.args.out.now =
    ap (take (length c.args.out.now)) c.in_ok-append.ensures.ok ∙ begins_still c.args.out.now c.loop-number.out _ c.loop-number.invariant.kept in
    let begins : take (length c.args.out.now) c.append_number_entry-in-loop-number.new.out ≡ c.args.out.now =
    begins_through c.args.out.now c.append.new.self c.append_number_entry-in-loop-number.new.out before c.in_err-append_number_entry-2.ensures.err in
    search rules

pub returns-clause-ok : goal.returns-clause-ok
returns-clause-ok c =
    all_printed number_entry_text c.loop-number.out _ c.loop-number.number-iterator c.loop-number.invariant.whole (search rules)
    ∙ ap (λ text. c.args.out.now ++ text) (number_entries_text c.args.entries.now.entries c.iter-rest.ensures.ordered)
