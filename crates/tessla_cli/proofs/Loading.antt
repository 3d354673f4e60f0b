-- What runs, and what is known of it.
use Rattle.std.proofs.Common.{◌≡◌, ◌⊎◌, inl, inr, ℕ, false, List, Some, refl, sym, subst}
use Rattle.std.specs.Prelude.{◌≢◌}
use Rattle.alias_rules.specs.Fine.{IsTakenPlan}
use Rattle.code_check.specs.Checked.{IsChecked}
use Rattle.code_check.specs.Read.{IsReadFault, SpellCode}
use Rattle.code_check.proofs.OneAnswer.{one_answer}
use Rattle.code_check.proofs.Taken.{taken_is_code}
use Rattle.code_file.specs.declared.fault.CodeFault.{CodeFault}
use Rattle.code_file.specs.declared.fault.CodeFault.TheVariants as code_fault
use Rattle.command_words.specs.declared.command.Origin.{Origin}
use Rattle.command_words.specs.declared.command.Origin.TheVariants as origin
use Rattle.compiled_meaning.specs.Compiled.{Compiles, CompilesSomething}
use Rattle.compiled_meaning.specs.inner.Ready.{IsReady}
use Rattle.compiled_meaning.proofs.Kept.{one_is_compiled, refused_compiles_none}
use Rattle.compiled_meaning.proofs.Readiness.{ready_of}
use Rattle.flat_core.specs.System.{System}
use Rattle.register_code.specs.Code.{Code}
use Rattle.source_rules.specs.declared.fault.SpecFault.{SpecFault}
use Rattle.syntax_tree.specs.Tree as tree
use Rattle.trace_monitor.specs.declared.options.Options.{Options}
use Rattle.trace_run.specs.Means.{IsDueAs}
use Rattle.trace_run.specs.Program.{Program, coded, specified}
use Rattle.trace_run.proofs.CanBeRun.{CanBeRun}
use Rattle.tsl_world.specs.Seen.{Seen}
use Rattle.tsl_world.specs.Journal.{same_slot}
use Rattle.tsl_world.specs.declared.outside.Channel.TheVariants.{Out}
use Rattle.tsl_world.specs.declared.outside.Slot.TheVariants.{Spec, Trace}
use Rattle.tsl_world.specs.declared.outside.Slot.TheVariants as slot
use Rattle.tessla_cli.specs.declared.ending.Ending.{Ending}
use Rattle.tessla_cli.specs.declared.ending.Ending.TheVariants as ending
use Rattle.tessla_cli.specs.Asked.{origin_file}
use Rattle.tessla_cli.specs.Causes.{Refuses}
use Rattle.tessla_cli.specs.Headline.{IsDueFrom}
use Rattle.tessla_cli.specs.Running.{IsReadAs, OfProgram}
use Rattle.tessla_cli.specs.Stages.{most_of}
use Rattle.tessla_cli.specs.Unseen.{ForRun}
use Rattle.tessla_cli.specs.inner.RunPhases.{IsLoadedCode, IsProgram, most_from}

-- ---- the file
pub limit_of : (from : Origin) → most_of (origin_file from).0 ≡ Some (most_from from)
limit_of (origin.Spec name) = refl
limit_of (origin.Code name) = refl

pub other_slot : (from : Origin) → same_slot (origin_file from).0 Trace ≡ false
other_slot (origin.Spec name) = refl
other_slot (origin.Code name) = refl

pub trace_apart : (from : Origin) → same_slot Trace (origin_file from).0 ≡ false
trace_apart (origin.Spec name) = refl
trace_apart (origin.Code name) = refl

pub state_apart : (from : Origin) → same_slot slot.State (origin_file from).0 ≡ false
state_apart (origin.Spec name) = refl
state_apart (origin.Code name) = refl

-- ---- what comes of its bytes
pub compiled_loads : (name source : List ℕ) (c : Code) → CompilesSomething source c.system → IsTakenPlan c.system c.in_place c.order → IsReady c.system → IsLoadedCode (origin.Spec name) source c
compiled_loads name source c compiles taken ready = record { program = specified compiles.0 c.system; is = compiles.1; code = (refl, taken); ready = ready }

pub read_loads : (name bytes : List ℕ) (c : Code) → SpellCode bytes c → IsChecked c → IsLoadedCode (origin.Code name) bytes c
read_loads name bytes c spelled checked = record {
  program = coded c;
  is = record { spelled = spelled; checked = checked };
  code = refl;
  ready = ready_of c.system (taken_is_code bytes c spelled checked).is_flat checked.well_formed;
}

-- ---- a refusal
-- nothing runs: a specification is refused, or a code file
abbrev pub IsRefusal : Ending → Type 0
IsRefusal by = ((fault : SpecFault) × (by ≡ ending.Spec fault)) ⊎ ((fault : CodeFault) × (by ≡ ending.Code fault))

pub refusal_is : (from : Origin) (bytes : List ℕ) (by : Ending) → Refuses from bytes by → IsRefusal by
refusal_is (origin.Spec name) bytes (ending.Spec fault) refused = inl (fault, refl)
refusal_is (origin.Code name) bytes (ending.Code fault) refused = inr (fault, refl)
refusal_is (origin.Spec name) bytes (ending.Code fault) refused = absurd refused
refusal_is (origin.Code name) bytes (ending.Spec fault) refused = absurd refused
refusal_is (origin.Spec name) bytes ending.Done refused = absurd refused
refusal_is (origin.Code name) bytes ending.Done refused = absurd refused
refusal_is (origin.Spec name) bytes ending.Words refused = absurd refused
refusal_is (origin.Code name) bytes ending.Words refused = absurd refused
refusal_is (origin.Spec name) bytes (ending.State fault) refused = absurd refused
refusal_is (origin.Code name) bytes (ending.State fault) refused = absurd refused
refusal_is (origin.Spec name) bytes (ending.NoOutput output) refused = absurd refused
refusal_is (origin.Code name) bytes (ending.NoOutput output) refused = absurd refused
refusal_is (origin.Spec name) bytes (ending.NoEvent output t) refused = absurd refused
refusal_is (origin.Code name) bytes (ending.NoEvent output t) refused = absurd refused
refusal_is (origin.Spec name) bytes (ending.Trace fault) refused = absurd refused
refusal_is (origin.Code name) bytes (ending.Trace fault) refused = absurd refused
refusal_is (origin.Spec name) bytes (ending.Fault t k p) refused = absurd refused
refusal_is (origin.Code name) bytes (ending.Fault t k p) refused = absurd refused
refusal_is (origin.Spec name) bytes (ending.Limit n t) refused = absurd refused
refusal_is (origin.Code name) bytes (ending.Limit n t) refused = absurd refused

-- ---- a program that bytes are
module _ (bytes : List ℕ) where
  read_can_run : (c : Code) → IsReadAs bytes c → CanBeRun (coded c)
  read_can_run c is = record { is_code = taken_is_code bytes c is.spelled is.checked; well_formed = is.checked.well_formed }

  pub can_be_run : (from : Origin) (p : Program) → IsProgram from bytes p → CanBeRun p
  can_be_run (origin.Spec name) (specified items s) is = (bytes, is)
  can_be_run (origin.Code name) (coded c) is = read_can_run c is
  can_be_run (origin.Spec name) (coded c) is = absurd is
  can_be_run (origin.Code name) (specified items s) is = absurd is

  module _ (x : Seen) where
    pub of_program : (from : Origin) (p : Program) → IsProgram from bytes p → x.taken (origin_file from).0 ≡ bytes → (P : Program → Type 0) → P p → OfProgram from x P
    of_program (origin.Spec name) (specified items s) is same P holds = record { items = items; system = s; compiled = subst (λ (l : List ℕ). Compiles l items s) (sym same) is; holds = holds }
    of_program (origin.Code name) (coded c) is same P holds = record { code = c; read = subst (λ (l : List ℕ). IsReadAs l c) (sym same) is; holds = holds }
    of_program (origin.Spec name) (coded c) is same P holds = absurd is
    of_program (origin.Code name) (specified items s) is same P holds = absurd is

    pub due_from : (from : Origin) (p : Program) → IsProgram from bytes p → x.taken (origin_file from).0 ≡ bytes → (o : Options) → IsDueAs p o (x.taken Trace) false (x.given Out) → IsDueFrom from o x
    due_from (origin.Spec name) (specified items s) is same o due =
        let compiled : Compiles (x.taken Spec) items s = subst (λ (l : List ℕ). Compiles l items s) (sym same) is in
        record { items = items; kinds = compiled.spells.system.kinds; specifies = compiled.spells.system.specifies; holds = due }
    due_from (origin.Code name) (coded c) is same o due = record { code = c; read = subst (λ (l : List ℕ). IsReadAs l c) (sym same) is; holds = due }
    due_from (origin.Spec name) (coded c) is same o due = absurd is
    due_from (origin.Code name) (specified items s) is same o due = absurd is

-- ---- of what was taken
module _ (x : Seen) where
  -- whatever holds of each program that can be run
  pub for_run : (from : Origin) (P : Program → Type 0) → ((p : Program) → CanBeRun p → P p) → ForRun from x P
  for_run (origin.Spec name) P all = λ items s c. all (specified items s) (x.taken Spec, c)
  for_run (origin.Code name) P all = λ c is. all (coded c) (read_can_run (x.taken slot.Code) c is)

  -- two facts are of one program
  pub record OfOne (P Q : Program → Type 0) : Type 0 where
    pub program : Program
    pub can : CanBeRun program
    pub one : P program
    pub other : Q program

  pub one_program : (from : Origin) (P Q : Program → Type 0) → OfProgram from x P → OfProgram from x Q → OfOne P Q
  one_program (origin.Spec name) P Q a b =
      let one = one_is_compiled (x.taken Spec) b.items a.items b.system a.system b.compiled a.compiled in record {
        program = specified a.items a.system;
        can = (x.taken Spec, a.compiled);
        one = a.holds;
        other = subst (λ (l : List tree.Item). Q (specified l a.system)) one.0 (subst (λ (s : System). Q (specified b.items s)) one.1 b.holds);
      }
  one_program (origin.Code name) P Q a b = record {
    program = coded a.code;
    can = read_can_run (x.taken slot.Code) a.code a.read;
    one = a.holds;
    other = subst (λ (c : Code). Q (coded c)) ((one_answer (x.taken slot.Code)).one_code b.code a.code b.read.spelled a.read.spelled) b.holds;
  }

  -- the same fact, or another about the same program
  pub of_program_weaker : (from : Origin) (P Q : Program → Type 0) → ((p : Program) → CanBeRun p → P p → Q p) → OfProgram from x P → OfProgram from x Q
  of_program_weaker (origin.Spec name) P Q says a = record { items = a.items; system = a.system; compiled = a.compiled; holds = says (specified a.items a.system) (x.taken Spec, a.compiled) a.holds }
  of_program_weaker (origin.Code name) P Q says a = record { code = a.code; read = a.read; holds = says (coded a.code) (read_can_run (x.taken slot.Code) a.code a.read) a.holds }

  -- What runs is not refused.
  code_runs : (c : Code) (fault : CodeFault) → IsReadAs (x.taken slot.Code) c → fault ≢ code_fault.Memory → IsReadFault (x.taken slot.Code) fault → ⊥
  code_runs c fault is other refused = other ((one_answer (x.taken slot.Code)).code_or_fault c fault is.spelled is.checked refused)

  pub runs_unrefused : (from : Origin) (P : Program → Type 0) (by : Ending) → OfProgram from x P → Refuses from (x.taken (origin_file from).0) by → ⊥
  runs_unrefused from P by a refused = go from (refusal_is from (x.taken (origin_file from).0) by refused) a refused
    where
      go : (from : Origin) → IsRefusal by → OfProgram from x P → Refuses from (x.taken (origin_file from).0) by → ⊥
      go (origin.Spec name) (inl (fault, is)) a refused = refused_compiles_none (x.taken Spec) fault a.items a.system (subst (Refuses (origin.Spec name) (x.taken Spec)) is refused) a.compiled
      go (origin.Spec name) (inr (fault, is)) a refused = subst (Refuses (origin.Spec name) (x.taken Spec)) is refused
      go (origin.Code name) (inl (fault, is)) a refused = subst (Refuses (origin.Code name) (x.taken slot.Code)) is refused
      go (origin.Code name) (inr (fault, is)) a refused =
          let why = subst (Refuses (origin.Code name) (x.taken slot.Code)) is refused in code_runs a.code fault a.read why.0 why.1
