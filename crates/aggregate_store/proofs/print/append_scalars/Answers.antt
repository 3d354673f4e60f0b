use Rattle.std.proofs.Common.{rules, ◌≡◌, ◌∷◌, ◌++◌, map, sym, ap, ◌∙◌}
use Rattle.tsl_value.specs.Print.{listed, scalar_text}
use Rattle.tsl_value.specs.inner.ScalarOrder.{scalar_cmp_total}
use Rattle.tsl_value.proofs.ScalarOrder.{scalar_cmp-IsAntisymmetric}
use Rattle.aggregate_store.proofs.FiniteMaps.{keys-of_keys}
use Rattle.aggregate_store.proofs.Listed.{all_printed, begins_with, first_printed, none_printed}
use Rattle.aggregate_store.proofs.print.append_scalars.Goals as goal

pub returns-in_default-clause-ok : goal.returns-in_default-clause-ok
returns-in_default-clause-ok c =
    none_printed scalar_text c.args.out.now c.args.keys.now.keys (sym c.iter-rest.ensures.rest ∙ c.in_default.ensures.steps.0)
    ∙ ap (λ ks. c.args.out.now ++ listed (map scalar_text ks)) (sym (keys-of_keys scalar_cmp_total scalar_cmp-IsAntisymmetric c.args.keys.now.keys c.iter-rest.ensures.ordered))

pub loop-key-init : goal.loop-key-init
loop-key-init c =
    let left = c.into_iter-key-iterator.result in
    let all : c.args.keys.now.keys ≡ c.in-Some.first.now ∷ left = search rules in
    let printed : c.print_scalar.new.out ≡ c.args.out.now ++ scalar_text c.in-Some.first.now = search rules in
    record {
      kept = begins_with c.args.out.now (scalar_text c.in-Some.first.now) c.print_scalar.new.out printed;
      whole = first_printed scalar_text c.args.out.now c.print_scalar.new.out c.in-Some.first.now left c.args.keys.now.keys printed all;
    }

pub returns-clause-ok : goal.returns-clause-ok
returns-clause-ok c =
    all_printed scalar_text c.loop-key.out _ c.loop-key.key-iterator c.loop-key.invariant.whole (search rules)
    ∙ ap (λ ks. c.args.out.now ++ listed (map scalar_text ks)) (sym (keys-of_keys scalar_cmp_total scalar_cmp-IsAntisymmetric c.args.keys.now.keys c.iter-rest.ensures.ordered))
