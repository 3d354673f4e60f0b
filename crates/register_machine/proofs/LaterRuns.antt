-- Runs over the instants below a time depend on the events of the inputs below that time alone, and go on over the next.
use Rattle.std.proofs.Common.{◌≡◌, ℕ, ◌<◌, ◌≤◌, List, [], ◌∷◌, ◌++◌, Option, Some, None, Ok, refl, sym, ap, subst, append-nil, arith}
use Rattle.std.specs.Prelude.{if◌then◌else◌, ◌↔◌}
use Rattle.std.specs.List.{AllByRecursion}
use Rattle.tsl_value.specs.declared.scalar.ValueType.{ValueType}
use Rattle.flat_core.specs.declared.equation.Equation.{Equation}
use Rattle.flat_core.specs.declared.equation.Op.{Op}
use Rattle.flat_core.specs.declared.equation.Op.TheVariants as op
use Rattle.flat_core.specs.inner.BoundLaws.{AreFrom}
use Rattle.flat_core.specs.Case.{Streams}
use Rattle.flat_core.specs.Events.{Inputs}
use Rattle.flat_core.specs.Instant.{instants}
use Rattle.flat_core.specs.Line.{Line, inputs_of}
use Rattle.flat_core.specs.System.{System, equation}
use Rattle.flat_core.proofs.LaterLines.{leaves_earlier}
use Rattle.flat_core.proofs.SmallerBound.{instants_first}
use Rattle.register_machine.specs.Laws.{RunsOn}
use Rattle.register_machine.specs.Machine.{Instr, Run, RunInPlace, Print, Keep, Timer, Config, Fill, Failed, slot_of_answer, is_barred, effect_of, effect, Ran, RanInPlace, OfEquation, Step, Steps}
use Rattle.register_machine.specs.Run.{Plan, State, Instant, Runs, body, ending, nothing_yet}
use Rattle.register_machine.specs.Stands.{RunsTo}

module _ (inputs other : Inputs) (t : ℕ) (same : (i : ℕ) → inputs i t ≡ other i t) where
  own_same : (c : Config) (i : ℕ) (o : Op) (args : List ℕ) (of : ValueType) → effect_of inputs t c i o args of ≡ effect_of other t c i o args of
  own_same c i op.Input args of = ap (λ v. Fill (slot_of_answer (Ok v))) (same i)
  own_same c i op.Last [] of = refl
  own_same c i op.Last (v ∷ []) of = refl
  own_same c i op.Last (v ∷ r ∷ []) of = refl
  own_same c i op.Last (v ∷ r ∷ x ∷ more) of = refl
  own_same c i op.Merge [] of = refl
  own_same c i op.Merge (a ∷ []) of = refl
  own_same c i op.Merge (a ∷ b ∷ []) of = refl
  own_same c i op.Merge (a ∷ b ∷ x ∷ more) of = refl
  own_same c i op.Filter [] of = refl
  own_same c i op.Filter (e ∷ []) of = refl
  own_same c i op.Filter (e ∷ d ∷ []) of = refl
  own_same c i op.Filter (e ∷ d ∷ x ∷ more) of = refl
  own_same c i op.Pick [] of = refl
  own_same c i op.Pick (d ∷ []) of = refl
  own_same c i op.Pick (d ∷ a ∷ []) of = refl
  own_same c i op.Pick (d ∷ a ∷ b ∷ []) of = refl
  own_same c i op.Pick (d ∷ a ∷ b ∷ x ∷ more) of = refl
  own_same c i _ args of = refl

  effect_same : (c : Config) (i : ℕ) (e : Equation) → effect inputs t c i e ≡ effect other t c i e
  effect_same c i e = ap (λ x. if is_barred c e then Fill (Failed None) else x) (own_same c i e.op e.args e.of)

  module _ (s : System) where
    step_same : (instr : Instr) (c d : Config) → Step inputs t s instr c d → Step other t s instr c d
    step_same (Run i) c d st = go (equation s i) st
      where
        go : (q : Option Equation) → OfEquation q (λ e. Ran i e c (effect inputs t c i e) d) → OfEquation q (λ e. Ran i e c (effect other t c i e) d)
        go None st_q = st_q
        go (Some e) st_q = subst (λ x. Ran i e c x d) (effect_same c i e) st_q
    step_same (RunInPlace i) c d st = go (equation s i) st
      where
        go : (q : Option Equation) → OfEquation q (λ e. RanInPlace i e c (effect inputs t c i e) d) → OfEquation q (λ e. RanInPlace i e c (effect other t c i e) d)
        go None st_q = st_q
        go (Some e) st_q = subst (λ x. RanInPlace i e c x d) (effect_same c i e) st_q
    step_same (Print k) c d st = st
    step_same (Keep v) c d st = st
    step_same (Timer i) c d st = st

    steps_same : (code : List Instr) (c d : Config) → Steps inputs t s code c d → Steps other t s code c d
    steps_same [] c d st = st
    steps_same (instr ∷ code) c d st = (st.0, step_same instr c st.0 st.1, steps_same code st.0 d st.2)

    pub instant_same : (plan : Plan) (a b : State) → Instant s plan inputs t a b → Instant s plan other t a b
    instant_same plan a b instant = record {
      reached = instant.reached;
      ran = steps_same (body s plan) _ _ instant.ran;
      sound = instant.sound;
      last = instant.last;
      kept_on = steps_same (ending s) _ _ instant.kept_on;
      is = instant.is;
    }

runs_same : (s : System) (plan : Plan) (inputs other : Inputs) (times : List ℕ) → AllByRecursion (λ t. (i : ℕ) → inputs i t ≡ other i t) times → (a b : State) → Runs s plan inputs times a b → Runs s plan other times a b
runs_same s plan inputs other [] same a b ran = ran
runs_same s plan inputs other (t ∷ times) same a b ran = (ran.0, instant_same inputs other t same.0 s plan a ran.0 ran.1, runs_same s plan inputs other times same.1 ran.0 b ran.2)

module _ (s : System) (plan : Plan) (ls more : List Line) (z : Streams) (t : ℕ) (a : State) (from : AreFrom t more) where
  each_below : (P : ℕ → Type 0) → ((u : ℕ) → u < t → P u) → AllByRecursion P (instants s ls z t)
  each_below P each = let parts = instants_first s ls z 0 t (omega arith) in subst (AllByRecursion P) (sym parts.1) (all_below parts.0 parts.2)
    where
      all_below : (times : List ℕ) → AllByRecursion (λ u. (0 ≤ u) × (u < t)) times → AllByRecursion P times
      all_below [] all = tt
      all_below (u ∷ times) all = (each u all.0.1, all_below times all.1)

  pub later_leave : RunsTo s plan ls z t a ↔ RunsTo s plan (ls ++ more) z t a
  later_leave =
      let left = leaves_earlier s t ls more from in
      let times_same = (left.happens z).instants_same t (omega arith) in (
        λ ran. subst (λ times. Runs s plan (inputs_of (ls ++ more)) times nothing_yet a) times_same
            (runs_same s plan (inputs_of ls) (inputs_of (ls ++ more)) (instants s ls z t) (each_below (λ u. (i : ℕ) → inputs_of ls i u ≡ inputs_of (ls ++ more) i u) (λ u lt i. left.inputs_same i u lt)) nothing_yet a ran),
        λ ran. runs_same s plan (inputs_of (ls ++ more)) (inputs_of ls) (instants s ls z t) (each_below (λ u. (i : ℕ) → inputs_of (ls ++ more) i u ≡ inputs_of ls i u) (λ u lt i. sym (left.inputs_same i u lt))) nothing_yet a
            (subst (λ times. Runs s plan (inputs_of (ls ++ more)) times nothing_yet a) (sym times_same) ran),
      )

-- ---- one instant more

pub runs_append : (s : System) (plan : Plan) (inputs : Inputs) (xs ys : List ℕ) (a b c : State) → Runs s plan inputs xs a b → Runs s plan inputs ys b c → Runs s plan inputs (xs ++ ys) a c
runs_append s plan inputs [] ys a b c first second = subst (λ x. Runs s plan inputs ys x c) first second
runs_append s plan inputs (t ∷ xs) ys a b c first second = (first.0, first.1, runs_append s plan inputs xs ys first.0 b c first.2 second)

pub runs_on : (s : System) (plan : Plan) (lines : List Line) (z : Streams) (t : ℕ) (a : State) → RunsTo s plan lines z t a → RunsOn s plan lines z t a
runs_on s plan lines z t a ran = record {
  over_instant = λ comes b instant.
      subst (λ q. Runs s plan (inputs_of lines) (instants s lines z t ++ (if q then t ∷ [] else [])) nothing_yet b) (sym comes)
      (runs_append s plan (inputs_of lines) (instants s lines z t) (t ∷ []) nothing_yet a b ran (b, instant, refl));
  over_gap = λ none.
      subst (λ q. Runs s plan (inputs_of lines) (instants s lines z t ++ (if q then t ∷ [] else [])) nothing_yet a) (sym none)
      (subst (λ l. Runs s plan (inputs_of lines) l nothing_yet a) (sym (append-nil (instants s lines z t))) ran);
}
