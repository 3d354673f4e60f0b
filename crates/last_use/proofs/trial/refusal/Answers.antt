use Rattle.std.proofs.Common.{Option, None, subst}
use Rattle.std.proofs.lemmas.Result.{IfOk-weaker}
use Rattle.flat_core.specs.System.{System}
use Rattle.alias_rules.specs.Conflict.{StandsBefore}
use Rattle.alias_rules.specs.Steps.{step_count}
use Rattle.alias_nears.specs.inner.Answer.{IsFirstConflict}
use Rattle.alias_nears.specs.declared.reason.Reason.{Reason}
use Rattle.last_use.specs.inner.Choosing.{IsRefusal}
use Rattle.last_use.specs.inner.Cycles.{IsCycleOrNone}
use Rattle.last_use.proofs.Reasoning.{refusal_by}
use Rattle.last_use.proofs.trial.refusal.Goals as goal

pub returns-in-None : goal.returns-in-None
returns-in-None c =
    let g = c.args.graph.now in
    let s = c.args.flat.now in
    let set = c.args.set.now in
    let here : IsFirstConflict g set None = subst (λ (r : Option Reason). IsFirstConflict g set r) c.in-None.is c.in_ok-reason.ensures in
    let none = subst (λ (of : System). IsFirstConflict of set None) c.requires.graph here in
    IfOk-weaker c.cycle_of.result (IsCycleOrNone (step_count s) (StandsBefore s set)) (IsRefusal s set) (refusal_by s set none.0 none.1) c.cycle_of.ensures
