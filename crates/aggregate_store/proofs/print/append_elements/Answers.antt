use Rattle.std.proofs.Common.{rules, ◌≡◌, ◌∷◌, ◌++◌, sym, ◌∙◌}
use Rattle.std.specs.VecDeque.Iter.{deque_iter_rest}
use Rattle.tsl_value.specs.Print.{scalar_text}
use Rattle.aggregate_store.proofs.Listed.{all_printed, begins_with, first_printed, none_left, none_printed}
use Rattle.aggregate_store.proofs.print.append_elements.Goals as goal

pub returns-in_default-clause-ok : goal.returns-in_default-clause-ok
returns-in_default-clause-ok c =
    none_printed scalar_text c.args.out.now c.args.elements.now.items (sym c.iter-rest.ensures.rest ∙ none_left _ c.in_default.ensures.steps.0)

pub loop-element-init : goal.loop-element-init
loop-element-init c =
    let left = deque_iter_rest c.into_iter-element-iterator.result in
    let all : c.args.elements.now.items ≡ c.in-Some.first.now ∷ left = search rules in
    let printed : c.print_scalar.new.out ≡ c.args.out.now ++ scalar_text c.in-Some.first.now = search rules in
    record {
      kept = begins_with c.args.out.now (scalar_text c.in-Some.first.now) c.print_scalar.new.out printed;
      whole = first_printed scalar_text c.args.out.now c.print_scalar.new.out c.in-Some.first.now left c.args.elements.now.items printed all;
    }

pub returns-clause-ok : goal.returns-clause-ok
returns-clause-ok c =
    all_printed scalar_text c.loop-element.out _ (deque_iter_rest c.loop-element.element-iterator) c.loop-element.invariant.whole (none_left _ (search rules))
