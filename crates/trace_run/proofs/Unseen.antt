-- No update in place is seen, by the laws of the register machine.
use Rattle.std.proofs.Common.{◌≡◌, ℕ, suc, ◌+◌, ◌-◌, ◌<◌, ◌≤◌, ◌^◌, Bool, true, List, [], ◌∷◌, length, min, ap, refl, sym, subst, ◌∙◌, arith}
use Rattle.std.proofs.lemmas.List.{length-map}
use Rattle.std.specs.Prelude.{◌&&◌, IsTrue, if◌then◌else◌, is_none, max}
use Rattle.std.specs.List.{AllByRecursion}
use Rattle.alias_rules.specs.Uses.{IsUpdate}
use Rattle.alias_rules.proofs.Existing.{some_plan}
use Rattle.alias_rules.proofs.TakenPlan.{one_plan, taken_is_fine}
use Rattle.flat_core.specs.Case.{Streams}
use Rattle.flat_core.specs.Complete.{IsFlat}
use Rattle.flat_core.specs.Line.{Line, inputs_of, last_time}
use Rattle.flat_core.specs.Members.{is_in}
use Rattle.flat_core.specs.Renumbered.{with_new_args, with_new_equation}
use Rattle.flat_core.specs.System.{System}
use Rattle.flat_core.specs.declared.limits.TheConstants.{MOST_EQUATIONS}
use Rattle.flat_simplify.specs.inner.Laws.{IsFit}
use Rattle.flat_simplify.proofs.Fit.{simplified_fit}
use Rattle.register_machine.specs.Copied.{copied, total_copied}
use Rattle.register_machine.specs.Run.{Plan}
use Rattle.register_machine.specs.Stands.{IsGiven}
use Rattle.register_machine.proofs.LaterRuns.{runs_on}
use Rattle.register_machine.proofs.Shown.{counts, exists, goes_on, leaves, shows}
use Rattle.compiled_meaning.specs.Compiled.{Compiles}
use Rattle.compiled_meaning.proofs.Readiness.{ready_of}
use Rattle.flat_core.specs.WellFormed.{IsWellFormed}
use Rattle.register_code.specs.Code.{Code, IsCode}
use Rattle.syntax_tree.specs.Tree as tree
use Rattle.trace_monitor.specs.declared.options.Options.{Options}
use Rattle.trace_monitor.specs.Due.{SolvesClosed, bound_in, lines_in}
use Rattle.trace_monitor.specs.Ending.{InAll}
use Rattle.trace_reader.specs.inner.Laws.{IsProperLine}
use Rattle.trace_reader.specs.Reading.{reading}
use Rattle.trace_reader.proofs.LineLemmas.{reading_proper}
use Rattle.trace_run.specs.Program.{IsCodeOf, coded, specified}
use Rattle.trace_run.specs.Unseen.{RunsUnseen, UpdatesUnseen, plan_of}
use Rattle.trace_run.proofs.TypedLines.{typed_read}

-- ---- a system that is run is whole
module _ (source : List ℕ) (items : List tree.Item) (s : System) (c : Compiles source items s) where
  before : IsFlat c.flat
  before = c.spells.system.is_flat

  pub fit : IsFit c.flat s
  fit = simplified_fit c.flat s before.proper before.complete.typed c.spells.well_formed before.outputs_run c.simplified

  few_equations : length s.equations ≤ MOST_EQUATIONS
  few_equations =
      let many : length s.equations ≡ length c.flat.equations = ap length c.simplified.renumbered.equations_are ∙ length-map c.flat.equations (with_new_args c.simplified.replaced) in
      let few = before.few_equations in
      omega arith

  few_outputs : length s.outputs ≤ 2 ^ 31
  few_outputs =
      let many : length s.outputs ≡ length c.flat.outputs = ap length c.simplified.renumbered.outputs_are ∙ length-map c.flat.outputs (with_new_equation c.simplified.replaced) in
      let few = before.few_outputs in
      omega arith

  pub flat : IsFlat s
  flat = record {
    complete = fit.complete before.complete;
    few_equations = few_equations;
    few_outputs = few_outputs;
    ascending = c.simplified.renumbered.ascending;
    outputs_run = fit.outputs_run;
    proper = fit.proper;
  }

-- ---- all times that are closed are below 2^63
last_small : (s : System) (lines : List Line) → AllByRecursion (IsProperLine s) lines → last_time lines < 2 ^ 63
last_small s [] all = omega arith
last_small s (l ∷ []) all = all.0.time
last_small s (l ∷ m ∷ ls) all = last_small s (m ∷ ls) all.1

closed_small : (last until : ℕ) (b : Bool) → last < 2 ^ 63 → until < 2 ^ 63 → (if b then max last until + 1 else last) ≤ 2 ^ 63
closed_small last until true low few = omega arith
closed_small last until _ low few = omega arith

bound_small : (s : System) (o : Options) (bytes : List ℕ) (is_end : Bool) → o.until < 2 ^ 63 → bound_in s o bytes is_end ≤ 2 ^ 63
bound_small s o bytes is_end few =
    let r = reading s o.strict o.bytes bytes is_end in
    closed_small (last_time r.lines) o.until (is_end && is_none r.refused) (last_small s r.lines (reading_proper s o.strict o.bytes bytes is_end)) few

-- ---- what happens in place copies nothing
listed_copies_none : (s : System) (set : List ℕ) (z : Streams) (u t : ℕ) → IsTrue (is_in set u) → copied s set z u t ≡ 0
listed_copies_none s set z u t listed = λ k. if listed k then 0 else min (total_copied s z u t) (2 ^ 64 - 1)

module _ (s : System) (whole : IsFlat s) (plan : Plan) (lines : List Line) (bound : ℕ) (z : Streams) (given : IsGiven s plan lines bound z) where
  update : (u : ℕ) → IsTrue (is_in plan.in_place u) → IsUpdate s u
  update u listed = given.fine.updates u listed

  pub runs_unseen : RunsUnseen s plan lines bound z
  runs_unseen = record {
    exist = exists s plan lines bound z given;
    go_on = goes_on s plan lines bound z given;
    run_on = λ t below a run. runs_on s plan lines z t a run;
    leave = leaves s plan lines bound z given;
    show = shows s plan lines bound z given;
    copy_none = λ t within a run u listed. (counts s plan lines bound z given t within a run).between u (update u listed) ∙ listed_copies_none s plan.in_place z u t listed;
    copy_none_within = λ t below a run c reaches u listed.
        (counts s plan lines bound z given t (omega arith) a run).within below c reaches u (update u listed) ∙ listed_copies_none s plan.in_place z u (suc t) listed;
  }

-- for a source that is compiled to this system, whichever bytes were taken
module _ (source : List ℕ) (items : List tree.Item) (s : System) (o : Options) (c : Compiles source items s) (few : o.until < 2 ^ 63) (bytes : List ℕ) (is_end : Bool) where
  f : IsFit c.flat s
  f = fit source items s c

  whole : IsFlat s
  whole = flat source items s c

  -- the code by the plan that is taken is one
  one_code : (a b : Code) → IsCodeOf (specified items s) a → IsCodeOf (specified items s) b → a ≡ b
  one_code a b is too =
      let one = one_plan s a.in_place a.order b.in_place b.order is.1 too.1 in
      λ k. record { system = (is.0 ∙ sym too.0) k; in_place = one.set_is k; order = one.order_is k }

  by_code : (z : Streams) → SolvesClosed s o bytes is_end z → (d : Code) → IsCodeOf (specified items s) d → RunsUnseen s (plan_of d) (lines_in s o bytes is_end) (bound_in s o bytes is_end) z
  by_code z zs d is = runs_unseen s whole (plan_of d) (lines_in s o bytes is_end) (bound_in s o bytes is_end) z record {
    flat = whole;
    fine = taken_is_fine s d.in_place d.order f.proper f.outputs_run f.well_formed is.1;
    typed_lines = typed_read s o bytes is_end;
    solves = zs;
    small = bound_small s o bytes is_end few;
  }

  pub specified_unseen : InAll s o bytes is_end (λ z. UpdatesUnseen (specified items s) (lines_in s o bytes is_end) (bound_in s o bytes is_end) z)
  specified_unseen = record {
    solved = f.solved (inputs_of (lines_in s o bytes is_end)) (bound_in s o bytes is_end);
    each = λ z zs. record {
      some_code = λ none. some_plan s f.proper f.outputs_run f.well_formed (λ set order taken_plan. none (record { system = s; in_place = set; order = order }) (refl, taken_plan));
      one_code = one_code;
      each = by_code z zs;
    };
  }

-- for code that can be run
module _ (c : Code) (is_code : IsCode c) (good : IsWellFormed c.system) (o : Options) (few : o.until < 2 ^ 63) (bytes : List ℕ) (is_end : Bool) where
  pub coded_unseen : InAll c.system o bytes is_end (λ z. UpdatesUnseen (coded c) (lines_in c.system o bytes is_end) (bound_in c.system o bytes is_end) z)
  coded_unseen = record {
    solved = (ready_of c.system is_code.is_flat good).exists (inputs_of (lines_in c.system o bytes is_end)) (bound_in c.system o bytes is_end);
    each = λ z zs. record {
      some_code = λ none. none c refl;
      one_code = λ a b is too. is ∙ sym too;
      each = λ d is. subst (λ (e : Code). RunsUnseen c.system (plan_of e) (lines_in c.system o bytes is_end) (bound_in c.system o bytes is_end) z) (sym is)
          (runs_unseen c.system is_code.is_flat (plan_of c) (lines_in c.system o bytes is_end) (bound_in c.system o bytes is_end) z record {
            flat = is_code.is_flat;
            fine = is_code.fine;
            typed_lines = typed_read c.system o bytes is_end;
            solves = zs;
            small = bound_small c.system o bytes is_end few;
          });
    };
  }
