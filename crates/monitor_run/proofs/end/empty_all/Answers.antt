use Rattle.std.proofs.Common.{set, sym, ap, subst, ◌∙◌}
use Rattle.std.proofs.lemmas.Bool.{or_parts}
use Rattle.std.proofs.lemmas.List.Edits.{map_over_more}
use Rattle.body_eval.specs.declared.register.Register.{Register}
use Rattle.body_eval.specs.declared.register.Register.TheVariants.{Empty}
use Rattle.monitor_run.specs.inner.Here.{IsBare}
use Rattle.monitor_run.proofs.EndLemmas.{bare_all, bare_next}
use Rattle.monitor_run.proofs.end.empty_all.Goals as goal

pub loop-register-preserved : goal.loop-register-preserved
loop-register-preserved c =
    let item = c.register-item in
    let old = c.args.registers.now in
    let now = c.loop-register.registers in
    let k = c.loop-register.register-index in
    record {
      emptied =
          ap (set now k) c.clear-touched.ensures.emptied
          ∙ map_over_more (λ (r : Register). Empty) old now k item.result c.loop-register-test.true c.loop-register.invariant.emptied item.is;
      bare = λ fails.
          let both = or_parts c.loop-register.touched c.clear-touched.result fails in
          bare_next old now k item.result c.loop-register-test.true c.loop-register.invariant.emptied item.is (c.loop-register.invariant.bare both.0) (subst IsBare (sym item.is) (c.clear-touched.ensures.bare both.1));
    }

pub returns-clause-bare : goal.returns-clause-bare
returns-clause-bare c = λ fails. bare_all c.args.registers.now c.loop-register.register-index c.loop-register-test.false (c.loop-register.invariant.bare fails)
