-- The root faults and the prints of an instant are those of the solution.
use Rattle.std.proofs.Common.{◌≡◌, ℕ, Bool, true, false, List, [], ◌∷◌, Option, Some, None, Ok, Err, is_some, refl, sym, ap, subst, ◌∙◌, Contains, IsTrue, arith, option_and_then}
use Rattle.std.specs.Prelude.{if◌then◌else◌}
use Rattle.std.proofs.Math.Bool.{true≢false}
use Rattle.lift_func.specs.Apply.{Answer}
use Rattle.flat_core.specs.declared.equation.Op.{Op}
use Rattle.flat_core.specs.declared.equation.Equation.{Equation}
use Rattle.flat_core.specs.Stream.{Fault, event, is_fault}
use Rattle.flat_core.specs.Case.{Streams, own, is_blocked, root_of, root_fault, amount_fault}
use Rattle.flat_core.specs.Events.{Inputs, outcome_of, fault_of, refused}
use Rattle.flat_core.specs.Fault.{root_at, is_faulty}
use Rattle.flat_core.specs.System.{System, runs}
use Rattle.flat_core.proofs.Members.{all_at, in-Contains}
use Rattle.flat_core.specs.declared.equation.Op.TheVariants as op
use Rattle.tsl_value.proofs.Lists.{none_in_nil}
use Rattle.alias_rules.specs.Conflict.{StandsBefore}
use Rattle.register_machine.specs.Run.{Plan, failed_by, root_in, root_seen, has_root}
use Rattle.register_machine.proofs.Running.{Running, Prints, printed_before}
use Rattle.register_machine.proofs.Orders.{IsFree, steps_of, all_steps}
use Rattle.register_machine.specs.Machine.{Held, Slot, Blank, Holds, Failed, Cells, Config, is_failed, value_in}
use Rattle.register_machine.proofs.FailedKinds.{own_kind}
use Rattle.register_machine.proofs.Middle.{SlotOf}
use Rattle.register_machine.proofs.Moves.{Between}
use Rattle.register_machine.proofs.Setting.{Fit, Setting, failed_is, value_is, any_same, no_variable}
use Rattle.register_machine.proofs.Uses.{right_printed}
use Rattle.register_machine.proofs.Effects.{some_equation}
use Rattle.register_machine.proofs.Steps.{Good}

not_failed : (blocked : Bool) (answer : Answer) → is_fault (if blocked then Some Fault else outcome_of answer) ≡ false → (if blocked then None else fault_of answer) ≡ None
not_failed true answer is = refl
not_failed false (Ok v) is = refl
not_failed false (Err kind) is = absurd (true≢false is)

module _ (s : System) (plan : Plan) (inputs : Inputs) (z : Streams) (t : ℕ) (last : ℕ → Option Held) (pend : ℕ → Option ℕ) (old : Cells) (given : Setting s inputs z t last pend) (between : Between s plan.in_place z t last old) where
  argument_runs : (i : ℕ) (e : Equation) → Running s i e → (a : ℕ) → Contains e.args a → IsTrue (runs s a)
  argument_runs i e running a found =
      let all = given.proper.runs_all i running.runs_too in
      subst (λ d. Contains d.args a → IsTrue (runs s a)) (some_equation (sym all.1 ∙ running.is)) (all_at (λ b. IsTrue (runs s b)) all.0.args all.2 a) found

  module _ (reached : Config) (good : Good s plan inputs z t last pend old given between [] reached) where
    done : (x : ℕ) → IsTrue (runs s x) → SlotOf (z x t) (reached.slots x)
    done x run = good.mid.status x run (λ found. absurd (none_in_nil x found))

    -- what is no delay
    failed_same : (i : ℕ) (e : Equation) → Running s i e → failed_by (reached.slots i) ≡ own_kind inputs z t i e
    failed_same i e running = go (reached.slots i) refl
      where
        none : (slot : Slot) → reached.slots i ≡ slot → is_failed slot ≡ false → None ≡ own_kind inputs z t i e
        none slot is sound = sym (not_failed (is_blocked z e t) (own inputs z i e t) (sym (ap is_fault (given.solves i e running)) ∙ sym (failed_is (z i t) (reached.slots i) (done i running.runs_too)) ∙ ap is_failed is ∙ sound))

        go : (slot : Slot) → reached.slots i ≡ slot → failed_by slot ≡ own_kind inputs z t i e
        go Blank is = none Blank is refl
        go (Holds k) is = none (Holds k) is refl
        go (Failed kind) is = good.kinds i e running (λ found. none_in_nil i found) kind is

    amount_same : (i d r : ℕ) (e : Equation) → Running s i e → e.args ≡ d ∷ r ∷ [] → Fit s op.Delay (d ∷ r ∷ []) e.of → value_in reached d ≡ event (z d t)
    amount_same i d r e running is_args fit =
        value_is reached.cells (z d t) (reached.slots d) (done d (argument_runs i e running d (subst (λ l. Contains l d) (sym is_args) (0, omega arith, refl)))) (λ h holds. absurd (no_variable s d (good.mid.variable d h holds) fit.1))

    own_same : (i : ℕ) (e : Equation) → Running s i e → (o : Op) (args : List ℕ) → e.args ≡ args → Fit s o args e.of → root_in reached i o args ≡ root_of inputs z i e o t
    own_same i e running op.Delay (d ∷ r ∷ []) is_args fit = ap refused (amount_same i d r e running is_args fit) ∙ sym (ap (λ l. amount_fault z l t) is_args)
    own_same i e running op.Delay [] is_args fit = absurd fit
    own_same i e running op.Delay (d ∷ []) is_args fit = absurd fit
    own_same i e running op.Delay (d ∷ r ∷ x ∷ more) is_args fit = absurd fit
    own_same i e running o args is_args fit = failed_same i e running

    pub root_same : (i : ℕ) → IsTrue (runs s i) → root_seen s reached i ≡ root_at s inputs z t i
    root_same i run =
        let all = given.proper.runs_all i run in
        let running : Running s i all.0 = record { is = all.1; runs_too = run } in
        ap (option_and_then (λ e. root_in reached i e.op e.args)) all.1 ∙ own_same i all.0 running all.0.op all.0.args refl (given.fitting i all.0 running) ∙ sym (ap (option_and_then (λ e. root_fault inputs z i e t)) all.1)

    -- the run of an instant has a root fault exactly where the solution has one
    pub roots_are : has_root s reached ≡ is_faulty s inputs z t
    roots_are = any_same _ _ s.running (λ i found. ap is_some (root_same i (in-Contains s.running i found)))

  -- a print that may come next finds its equation's event
  pub prints_are : (rest : List ℕ) (c : Config) → Good s plan inputs z t last pend old given between rest c → (n x : ℕ) → IsFree (StandsBefore s plan.in_place) rest n → Prints s x n → IsTrue (runs s x) → value_in c x ≡ event (z x t)
  prints_are rest c good n x free prints run =
      value_is c.cells (z x t) (c.slots x) (good.mid.status x run (λ remains. free.first x remains (printed_before s plan.in_place x n prints))) (λ h holds. right_printed s plan.in_place z t last old given.law (steps_of s) rest (all_steps s) c.slots c.cells good.mid x h n holds free.remains prints)
