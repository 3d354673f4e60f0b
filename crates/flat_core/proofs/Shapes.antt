-- What the equations of a system have as arguments.
use Rattle.std.proofs.Common.{◌≡◌, ℕ, suc, ◌<◌, List, [], ◌∷◌, length, Some, refl, sym, ap, subst, ◌∙◌, arith}
use Rattle.std.specs.Prelude.{IsTrue}
use Rattle.std.specs.List.{All, AllByRecursion}
use Rattle.std.proofs.lemmas.List.Elements.{All-from_recursion}
use Rattle.tsl_value.specs.declared.scalar.ValueType.{ValueType}
use Rattle.flat_core.specs.declared.equation.Equation.{Equation}
use Rattle.flat_core.specs.declared.equation.Op.{Op}
use Rattle.flat_core.specs.declared.equation.Op.TheVariants as op
use Rattle.flat_core.specs.Complete.{IsFlat}
use Rattle.flat_core.specs.System.{System, runs, equation, IsProper}
use Rattle.flat_core.specs.Typed.{IsTyped, input, nil, unit, empty, time, any, last, delay, merge, filter, pick, update, lift}
use Rattle.flat_core.specs.TypedSystem.{AreOfTypes}
use Rattle.flat_core.specs.inner.Arity.{HasArity}
use Rattle.flat_core.proofs.Finished.{typed_there}
use Rattle.flat_core.proofs.UpdateOps.{has_arity}
use Rattle.lift_func.proofs.Updates.{beside_is}

-- an equation stands at its number alone
pub one_equation : (s : System) (n : ℕ) (e f : Equation) → equation s n ≡ Some e → equation s n ≡ Some f → f ≡ e
one_equation s n e f is also = cc

-- ---- arguments

-- the arguments of a running equation run
pub running_args : (s : System) → IsProper s → (i : ℕ) (e : Equation) → IsTrue (runs s i) → equation s i ≡ Some e → AllByRecursion (λ a. IsTrue (runs s a)) e.args
running_args s proper i e run is =
    let found = proper.runs_all i run in
    subst (λ (g : Equation). AllByRecursion (λ a. IsTrue (runs s a)) g.args) (one_equation s i e found.0 is found.1) found.2

-- the arguments of an equation are there
pub args_there : (s : System) (i : ℕ) (e : Equation) (n : ℕ) → IsFlat s → equation s i ≡ Some e → n ≡ length s.equations → All (λ a. a < n) e.args
args_there s i e n flat is same =
    subst (λ m. All (λ a. a < m) e.args) (sym same) (All-from_recursion (λ a. a < length s.equations) e.args (typed_there s flat.complete.typed i e is))

-- as many arguments as types
module _ (equations : List Equation) (P : List ℕ → Type 0) where
  none_of : (args : List ℕ) → AreOfTypes equations args [] → P [] → P args
  none_of [] of p = p
  none_of (a ∷ args) of p = absurd of

  one_of : (t : ValueType) (args : List ℕ) → AreOfTypes equations args (t ∷ []) → ((a : ℕ) → P (a ∷ [])) → P args
  one_of t [] of p = absurd of
  one_of t (a ∷ []) of p = p a
  one_of t (a ∷ b ∷ args) of p = absurd of.1

  two_of : (t u : ValueType) (args : List ℕ) → AreOfTypes equations args (t ∷ u ∷ []) → ((a b : ℕ) → P (a ∷ b ∷ [])) → P args
  two_of t u [] of p = absurd of
  two_of t u (a ∷ []) of p = absurd of.1
  two_of t u (a ∷ b ∷ []) of p = p a b
  two_of t u (a ∷ b ∷ c ∷ args) of p = absurd of.1.1

  three_of : (t u v : ValueType) (args : List ℕ) → AreOfTypes equations args (t ∷ u ∷ v ∷ []) → ((a b c : ℕ) → P (a ∷ b ∷ c ∷ [])) → P args
  three_of t u v [] of p = absurd of
  three_of t u v (a ∷ []) of p = absurd of.1
  three_of t u v (a ∷ b ∷ []) of p = absurd of.1.1
  three_of t u v (a ∷ b ∷ c ∷ []) of p = p a b c
  three_of t u v (a ∷ b ∷ c ∷ d ∷ args) of p = absurd of.1.1.1

pub same_length : (equations : List Equation) (args : List ℕ) (ts : List ValueType) → AreOfTypes equations args ts → length args ≡ length ts
same_length equations [] [] of = refl
same_length equations [] (t ∷ ts) of = absurd of
same_length equations (a ∷ args) [] of = absurd of
same_length equations (a ∷ args) (t ∷ ts) of = ap suc (same_length equations args ts of.1)

typed_shape : (equations : List Equation) (o : Op) (args : List ℕ) (ts : List ValueType) (t : ValueType) → IsTyped o ts t → AreOfTypes equations args ts → HasArity o args
typed_shape equations o args ts t input of = none_of equations (HasArity op.Input) args of tt
typed_shape equations o args ts t nil of = none_of equations (HasArity op.Nil) args of tt
typed_shape equations o args ts t unit of = none_of equations (HasArity op.Unit) args of tt
typed_shape equations o args ts t (empty is) of = none_of equations (HasArity op.Empty) args of tt
typed_shape equations o args ts t time of = one_of equations (HasArity op.Time) _ args of (λ a. tt)
typed_shape equations o args ts t (any low high) of = tt
typed_shape equations o args ts t last of = two_of equations (HasArity op.Last) _ _ args of (λ a b. tt)
typed_shape equations o args ts t delay of = two_of equations (HasArity op.Delay) _ _ args of (λ a b. tt)
typed_shape equations o args ts t merge of = two_of equations (HasArity op.Merge) _ _ args of (λ a b. tt)
typed_shape equations o args ts t filter of = two_of equations (HasArity op.Filter) _ _ args of (λ a b. tt)
typed_shape equations o args ts t (pick is) of = three_of equations (HasArity op.Pick) _ _ _ args of (λ a b c. tt)
typed_shape equations o args ts t (update {u = u} is row) of = has_arity o u args is (same_length equations args ts of ∙ ap suc (beside_is row))
typed_shape equations o [] [] t (lift low high kind) of = absurd (omega arith)
typed_shape equations o [] (x ∷ ts) t (lift low high kind) of = absurd of
typed_shape equations o (a ∷ args) ts t (lift low high kind) of = tt

-- an equation has as many arguments as its operation
pub shape_of : (s : System) → IsFlat s → (i : ℕ) (e : Equation) → equation s i ≡ Some e → HasArity e.op e.args
shape_of s flat i e is =
    let typed = flat.complete.typed.each i e is in
    typed_shape s.equations e.op e.args typed.types e.of typed.typed typed.arguments

-- a delay has two arguments
pub delay_args : (s : System) → IsFlat s → (i : ℕ) (e : Equation) → equation s i ≡ Some e → e.op ≡ op.Delay → (d : ℕ) × (r : ℕ) × (e.args ≡ d ∷ r ∷ [])
delay_args s flat i e is op_is = from e.args (subst (λ o. HasArity o e.args) op_is (shape_of s flat i e is))
  where
    from : (args : List ℕ) → HasArity op.Delay args → (d : ℕ) × (r : ℕ) × (args ≡ d ∷ r ∷ [])
    from (d ∷ r ∷ []) shape = (d, r, refl)
    from _ shape = absurd shape
