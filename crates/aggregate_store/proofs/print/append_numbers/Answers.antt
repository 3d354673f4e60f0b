use Rattle.std.proofs.Common.{rules, ◌≡◌, ◌∷◌, ◌++◌, sym, ap, ◌∙◌}
use Rattle.aggregate_store.proofs.Listed.{all_printed, begins_with, first_printed, none_printed}
use Rattle.aggregate_store.proofs.Numbers.{number_text, numbers_text}
use Rattle.aggregate_store.proofs.print.append_numbers.Goals as goal

pub returns-in_default-clause-ok : goal.returns-in_default-clause-ok
returns-in_default-clause-ok c =
    none_printed number_text c.args.out.now c.args.numbers.now.keys (sym c.iter-rest.ensures.rest ∙ c.in_default.ensures.steps.0)
    ∙ ap (λ text. c.args.out.now ++ text) (numbers_text c.args.numbers.now.keys c.iter-rest.ensures.ordered)

pub loop-number-init : goal.loop-number-init
loop-number-init c =
    let left = c.into_iter-number-iterator.result in
    let all : c.args.numbers.now.keys ≡ c.in-Some.first.now ∷ left = search rules in
    let printed : c.append_number.new.out ≡ c.args.out.now ++ number_text c.in-Some.first.now = search rules in
    record {
      kept = begins_with c.args.out.now (number_text c.in-Some.first.now) c.append_number.new.out printed;
      whole = first_printed number_text c.args.out.now c.append_number.new.out c.in-Some.first.now left c.args.numbers.now.keys printed all;
    }

pub returns-clause-ok : goal.returns-clause-ok
returns-clause-ok c =
    all_printed number_text c.loop-number.out _ c.loop-number.number-iterator c.loop-number.invariant.whole (search rules)
    ∙ ap (λ text. c.args.out.now ++ text) (numbers_text c.args.numbers.now.keys c.iter-rest.ensures.ordered)
