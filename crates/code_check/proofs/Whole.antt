-- Parts of the right form and with the right types make a system that is whole.
use Rattle.std.proofs.Common.{◌≡◌, ◌<◌, ℕ, Bool, List, length, Option, Some, None, inl, inr, refl, sym, subst}
use Rattle.std.specs.Prelude.{if◌then◌else◌, IsTrue}
use Rattle.std.specs.List.{AllByRecursion}
use Rattle.std.proofs.lemmas.Bool.{cases_Bool}
use Rattle.tsl_value.specs.declared.scalar.Scalar.{Scalar}
use Rattle.tsl_value.specs.declared.scalar.Scalar.TheVariants as scalar
use Rattle.tsl_value.specs.inner.Laws.{IsInBounds}
use Rattle.lift_func.specs.BodyTree.{BodyTree, Literal, Argument, Absent, One, Two, Choice}
use Rattle.flat_core.specs.declared.equation.Equation.{Equation}
use Rattle.flat_core.specs.declared.equation.Op.{Op}
use Rattle.flat_core.specs.declared.equation.Op.TheVariants as op
use Rattle.flat_core.specs.declared.equation.Output.{Output}
use Rattle.flat_core.specs.Complete.{HasShortBody, HasShortTexts, IsFlat, IsShort}
use Rattle.flat_core.specs.Members.{is_in}
use Rattle.flat_core.specs.System.{IsProper, equation, numbers, runs}
use Rattle.flat_core.specs.TypedSystem.{IsTypedSystem}
use Rattle.flat_core.proofs.Members.{Contains-in, all_at, all_map, all_true}
use Rattle.flat_core.proofs.Uniqueness.{all_by}
use Rattle.register_code.specs.Code.{Code}
use Rattle.code_file.specs.Form.{IsForm, IsBodyForm, IsOpForm, bare, bare_equation, bare_in, is_spelled, nothing}

-- ---- texts are short

short_scalar : (s : Scalar) → IsInBounds s → IsShort s
short_scalar scalar.Unit form = tt
short_scalar (scalar.Int z) form = tt
short_scalar (scalar.Bool b) form = tt
short_scalar (scalar.Text bytes) form = form.1

short_texts : (b : BodyTree) → IsBodyForm b → HasShortTexts b
short_texts (Literal s) form = short_scalar s form
short_texts (Argument n) form = tt
short_texts (Absent t) form = tt
short_texts (One o a) form = short_texts a form
short_texts (Two o a b) form = (short_texts a form.0, short_texts b form.1)
short_texts (Choice c a b) form = (short_texts c form.0, short_texts a form.1, short_texts b form.2)

short_body : (o : Op) → IsOpForm o → HasShortBody o
short_body (op.Lift body strict) form = short_texts body form.0
short_body _ form = tt

HasShort : Equation → Type 0
HasShort e = HasShortBody e.op

short_bare : (runs : Bool) (e : Equation) → (IsTrue (is_spelled runs e.op) → HasShortBody e.op) → HasShortBody (bare_equation runs e).op
short_bare runs e short = elim (cases_Bool (is_spelled runs e.op)) [
  | inl spelled ↦ subst (λ (b : Bool). HasShortBody (if b then e else nothing).op) (sym spelled) (short spelled)
  | inr other ↦ subst (λ (b : Bool). HasShortBody (if b then e else nothing).op) (sym other) tt
]

short_at : (runs : Bool) (found : Option Equation) → ((e : Equation) → found ≡ Some e → IsTrue (is_spelled runs e.op) → HasShortBody e.op) → HasShortBody (bare_in runs found).op
short_at runs None short = tt
short_at runs (Some e) short = short_bare runs e (short e refl)

module _ (c : Code) (form : IsForm c) where
  short_each : (i : ℕ) → HasShortBody (bare_in (runs c.system i) (equation c.system i)).op
  short_each i =
      short_at (runs c.system i) (equation c.system i) (λ e is spelled. short_body e.op (form.equations i e (record { is = is; spelled = spelled })).operation)

  all_short : bare c ≡ c → AllByRecursion (λ (e : Equation). HasShortBody e.op) c.system.equations
  all_short same =
      let f : ℕ → Equation = λ i. bare_in (runs c.system i) (equation c.system i) in
      subst (λ (d : Code). AllByRecursion (λ (e : Equation). HasShortBody e.op) d.system.equations) same
      (all_map f (λ (e : Equation). HasShortBody e.op) (numbers c.system) (all_true (λ i. HasShortBody (f i).op) short_each (numbers c.system)))

  -- ---- what runs is there

  pub there : (i : ℕ) → IsTrue (is_in c.system.running i) → i < length c.system.equations
  there i run = all_at (λ j. j < length c.system.equations) c.system.running form.running_there i (Contains-in c.system.running i run)

  outputs_there : AllByRecursion (λ (o : Output). o.equation < length c.system.equations) c.system.outputs
  outputs_there =
      all_by (λ (o : Output). IsTrue (runs c.system o.equation)) (λ (o : Output). o.equation < length c.system.equations) (λ o run. there o.equation run) c.system.outputs form.outputs_run

  pub whole : bare c ≡ c → IsTypedSystem c.system → IsProper c.system → IsFlat c.system
  whole same typed proper = record {
    complete = record {
      typed = typed;
      some_output = form.some_output;
      outputs_there = outputs_there;
      names_differ = form.names_differ;
      short_texts = all_short same;
    };
    few_equations = form.few_equations;
    few_outputs = form.few_outputs;
    ascending = form.running;
    outputs_run = form.outputs_run;
    proper = proper;
  }
