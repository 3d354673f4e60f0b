-- What a system and its code give of what is spelled.
use Rattle.std.proofs.Common.{◌≡◌, ℕ, ◌^◌, ◌<◌, ◌≤◌, zero, suc, List, [], ◌∷◌, length, map, Bool, true, Option, Some, None, refl, sym, subst, ◌∙◌, inl, inr, arith}
use Rattle.std.specs.Prelude.{IfSome, IsTrue, nat_le, nat_lt, slice_get}
use Rattle.std.specs.List.{AllByRecursion, Contains}
use Rattle.std.specs.List.Sorted.{IsStrictlyIncreasing}
use Rattle.std.proofs.lemmas.Bool.{and_parts, ltb-true, or_cases}
use Rattle.std.proofs.lemmas.List.{length-map}
use Rattle.std.proofs.lemmas.List.Elements.{All-from_recursion}
use Rattle.std.proofs.lemmas.Map.Keys.{sorted_from_strictly_increasing}
use Rattle.std.proofs.lemmas.Map.Views.{length-le_from_below}
use Rattle.std.proofs.lemmas.Option.{slice_get_within}
use Rattle.tsl_value.specs.declared.scalar.ValueType.{ValueType}
use Rattle.tsl_value.specs.declared.scalar.ValueType.TheVariants as value_type
use Rattle.tsl_value.specs.declared.scalar.ScalarType.TheVariants as scalar_type
use Rattle.lift_func.specs.BodyTree.{BodyTree, Literal, Argument, Absent, One, Two, Choice}
use Rattle.lift_func.specs.Typing as kind
use Rattle.lift_func.specs.Typing.{HasKind, ValueKind}
use Rattle.flat_core.specs.declared.equation.Equation.{Equation}
use Rattle.flat_core.specs.declared.equation.Op.{Op}
use Rattle.flat_core.specs.declared.equation.Op.TheVariants as op
use Rattle.flat_core.specs.Complete.{HasShortBody, IsFlat}
use Rattle.flat_core.specs.System.{System, equation, runs}
use Rattle.flat_core.specs.Typed as typed
use Rattle.flat_core.specs.Typed.{IsTyped, kind_of}
use Rattle.flat_core.specs.TypedSystem.{AreOfTypes}
use Rattle.flat_core.specs.Updates.{is_running_update, is_update_at}
use Rattle.flat_core.proofs.Finished.{typed_there}
use Rattle.flat_core.proofs.FewArguments.{args_few}
use Rattle.flat_core.proofs.UpdateOps.{no_update}
use Rattle.flat_core.proofs.Members.{all_at, all_from, in-Contains}
use Rattle.alias_rules.specs.Steps.{is_print, is_step, step_count}
use Rattle.translation_order.proofs.Lists.{few_below}
use Rattle.register_code.specs.Code.{Code, IsCode}
use Rattle.code_file.specs.Form.{HasSpelling, IsEquationForm, IsForm, IsName, IsSpelled, is_spelled}
use Rattle.code_file.specs.inner.Writing.{CanSpell, HasArgumentsBelow, HasFewArguments, IsFormAt}

-- ---- the arguments of a body that has a kind are there

body_args : (kinds : List ValueKind) (tree : BodyTree) (k : ValueKind) (n : ℕ) → HasKind kinds tree k → length kinds ≤ n → HasArgumentsBelow n tree
body_args kinds (Literal s) k n has few = tt
body_args kinds (Argument a) k n (kind.HasKind.argument is) few = let there = slice_get_within kinds a k is in omega (arith, there)
body_args kinds (Absent t) k n has few = tt
body_args kinds (One o a) k n (kind.HasKind.one {j = j} of fits) few = body_args kinds a j n of few
body_args kinds (Two o a b) k n (kind.HasKind.two {i = i} {j = j} first second fits) few = (body_args kinds a i n first few, body_args kinds b j n second few)
body_args kinds (Choice c a b) k n (kind.HasKind.choice if_so first second) few =
    (body_args kinds c (kind.plain scalar_type.Bool) n if_so few, body_args kinds a k n first few, body_args kinds b k n second few)

op_args : (o : Op) (types : List ValueType) (of : ValueType) → IsTyped o types of → HasFewArguments o
op_args (op.Lift body strict) types of (typed.IsTyped.update is row) = no_update is
op_args (op.Lift body strict) types of (typed.IsTyped.lift {t = t} low high is) =
    body_args (map (kind_of strict) types) body (kind_of strict (value_type.Scalar t)) (2 ^ 32) is (let same = length-map types (kind_of strict) in omega (arith, high, same))
op_args _ types of is = tt

-- ---- an equation that is spelled

short_name : (name : Option (List ℕ)) → IfSome name IsName → IfSome name (λ n. length n < 2 ^ 32)
short_name None is = tt
short_name (Some name) is = let short = is.1 in omega (arith, short)

all_at_place : (P : Equation → Type 0) (es : List Equation) → AllByRecursion P es → (i : ℕ) (e : Equation) → slice_get es i ≡ Some e → P e
all_at_place P [] all i e is = absurd cc
all_at_place P (f ∷ es) all zero e is = let same : f ≡ e = cc in subst P same all.0
all_at_place P (f ∷ es) all (suc i) e is = all_at_place P es all.1 i e is

module _ (s : System) (flat : IsFlat s) where
  pub can_spell : HasSpelling s → (i : ℕ) (e : Equation) → IsSpelled s i e → CanSpell e
  can_spell named i e spelled =
      let g = flat.complete.typed.each i e spelled.is in
      let few = args_few s flat i e spelled.is in
      let there = typed_there s flat.complete.typed i e spelled.is in
      record {
        name = short_name e.name (named.named i e spelled);
        few_args = omega (arith, few);
        args = all_from (λ a. a < 2 ^ 32) e.args (λ a among. let low = all_at (λ b. b < length s.equations) e.args there a among in let most = flat.few_equations in omega (arith, low, most));
        short = all_at_place (λ f. HasShortBody f.op) s.equations flat.complete.short_texts i e spelled.is;
        few = op_args e.op g.types e.of g.typed;
      }

same_equation : (o : Option Equation) (e f : Equation) → o ≡ Some e → o ≡ Some f → e ≡ f
same_equation o e f is also = cc

-- an equation that has its form where it is spelled
pub form_at : (s : System) (i : ℕ) (e : Equation) (running : Bool) → equation s i ≡ Some e → running ≡ runs s i → (IsTrue (is_spelled running e.op) → IsEquationForm e) → IsFormAt s i
form_at s i e running is same form = λ f it.
    let one = same_equation (equation s i) f e it.is is in
    let back = sym one in
    let spelled : is_spelled running e.op ≡ true = (λ k. is_spelled (same k) (back k).op) ∙ it.spelled in
    subst IsEquationForm back (form spelled)

-- ---- what code has

runs_there : (s : System) → IsFlat s → (i : ℕ) → IsTrue (runs s i) → i < length s.equations
runs_there s flat i run = let found = flat.proper.runs_all i run in slice_get_within s.equations i found.0 found.1

pub few_in_place : (c : Code) → IsCode c → IsStrictlyIncreasing c.in_place → length c.in_place < 2 ^ 32
few_in_place c whole up =
    let s = c.system in
    let there : (x : ℕ) → Contains c.in_place x → x < length s.equations =
    λ x among. runs_there s whole.is_flat x (and_parts (runs s x) (is_update_at (equation s x)) (whole.fine.updates x (in-Contains c.in_place x among))).0 in
    let most = length-le_from_below (length s.equations) c.in_place (sorted_from_strictly_increasing c.in_place up)
    (All-from_recursion (λ x. x < length s.equations) c.in_place (all_from (λ x. x < length s.equations) c.in_place there)) in
    let few = whole.is_flat.few_equations in
    omega (arith, most, few)

step_low : (s : System) → IsFlat s → (x : ℕ) → IsTrue (is_step s x) → x < step_count s
step_low s flat x step = elim (or_cases (runs s x) (is_print s x) step) [
  | inl run ↦ let there = runs_there s flat x run in omega (arith, there)
  | inr print ↦ ltb-true x (step_count s) (and_parts (nat_le (length s.equations) x) (nat_lt x (step_count s)) print).1
]

pub few_steps : (c : Code) → IsCode c → length c.order < 2 ^ 32
few_steps c whole =
    let ordered = whole.fine.ordered in
    let most = few_below c.order (step_count c.system) ordered.once (λ x among. step_low c.system whole.is_flat x ((ordered.steps x).0 among)) in
    let few = whole.is_flat.few_equations in
    let few_outputs = whole.is_flat.few_outputs in
    omega (arith, most, few, few_outputs)

pub form_of : (c : Code) → IsCode c → HasSpelling c.system → IsStrictlyIncreasing c.in_place → ((i : ℕ) → i < length c.system.equations → IsFormAt c.system i) → IsForm c
form_of c whole spelled up forms =
    let s = c.system in
    let flat = whole.is_flat in
    record {
      few_equations = flat.few_equations;
      running = flat.ascending;
      running_there = all_from (λ i. i < length s.equations) s.running (λ i among. runs_there s flat i (in-Contains s.running i among));
      equations = λ i e it. forms i (slice_get_within s.equations i e it.is) e it;
      spelled = spelled;
      some_output = flat.complete.some_output;
      few_outputs = flat.few_outputs;
      names_differ = flat.complete.names_differ;
      outputs_run = flat.outputs_run;
      ascending = up;
      updates = all_from (λ i. IsTrue (is_running_update s i)) c.in_place (λ i among. whole.fine.updates i (in-Contains c.in_place i among));
      steps = all_from (λ x. IsTrue (is_step s x)) c.order (λ x among. (whole.fine.ordered.steps x).0 among);
      few_steps = few_steps c whole;
    }
