-- What operations that see their arguments at one time make of what a derivation tells.
use Rattle.std.proofs.Common.{◌≡◌, ℕ, zero, suc, true, false, ◌&&◌, ◌||◌, List, [], ◌∷◌, map, Option, Some, None, Ok, refl, ap, ◌∙◌, arith}
use Rattle.std.proofs.lemmas.Bool.{false≢true}
use Rattle.std.proofs.lemmas.Option.{none-some}
use Rattle.std.proofs.Math.Bool.{and-false, or-true}
use Rattle.std.specs.Prelude.{IsTrue, if◌then◌else◌, is_some, pos}
use Rattle.std.specs.List.{Contains, list_any, list_all}
use Rattle.std.specs.Option.{option_map}
use Rattle.tsl_value.specs.View.{View, Plain}
use Rattle.tsl_value.specs.declared.scalar.Scalar.TheVariants as scalar
use Rattle.tsl_value.specs.declared.scalar.ValueType.{ValueType}
use Rattle.lift_func.specs.Apply.{apply}
use Rattle.lift_func.proofs.Updates.{answer_missing}
use Rattle.tsl_value.specs.declared.operation.Update.{Update}
use Rattle.flat_core.specs.declared.equation.Op.{Op}
use Rattle.flat_core.specs.declared.equation.Op.TheVariants as op
use Rattle.flat_core.specs.Stream.{event}
use Rattle.flat_core.specs.Events.{Inputs, unit, filtered, picked, at_once, updating}
use Rattle.flat_core.specs.Updates.{update_in}
use Rattle.flat_core.specs.Case.{Streams, own_of}
use Rattle.flat_core.specs.inner.Arity.{HasArity}
use Rattle.why_rules.specs.Rules.{computes, misses, joins, is_constant, seen_by}

-- what the arguments have at t
abbrev pub values : Streams → List ℕ → ℕ → List (Option View)
values z args t = map (λ a. event (z a t)) args

module _ (p : Inputs) (z : Streams) (i t : ℕ) (of : ValueType) where
  pub own-computed : (o : Op) (args : List ℕ) → IsTrue (computes o) → own_of p z i o args of t ≡ at_once o of (values z args t) t
  own-computed op.Input args is = absurd (false≢true is)
  own-computed op.Last args is = absurd (false≢true is)
  own-computed op.Delay args is = absurd (false≢true is)
  own-computed o args is = refl

  pub own-joined : (o : Op) (args : List ℕ) → IsTrue (joins o) → own_of p z i o args of t ≡ at_once o of (values z args t) t
  own-joined op.Input args is = absurd (false≢true is)
  own-joined op.Last args is = absurd (false≢true is)
  own-joined op.Delay args is = absurd (false≢true is)
  own-joined o args is = refl

  pub own-missed : (o : Op) (args : List ℕ) → IsTrue (misses o) → own_of p z i o args of t ≡ at_once o of (values z args t) t
  own-missed op.Input args is = absurd (false≢true is)
  own-missed op.Last args is = absurd (false≢true is)
  own-missed op.Delay args is = absurd (false≢true is)
  own-missed o args is = refl

-- one value is missing in a list of them
pub some_missing : (z : Streams) (t a : ℕ) (args : List ℕ) → Contains args a → event (z a t) ≡ None → list_all is_some (values z args t) ≡ false
some_missing z t a [] (k, lt, is) none = absurd (omega arith)
some_missing z t a (b ∷ args) (zero, lt, is) none = λ k. is_some ((ap (λ c. event (z c t)) is ∙ none) k) && list_all is_some (values z args t)
some_missing z t a (b ∷ args) (suc k, lt, is) none =
    (λ j. is_some (event (z b t)) && some_missing z t a args (k, omega arith, is) none j) ∙ and-false (is_some (event (z b t)))

some_there : (z : Streams) (t a : ℕ) (args : List ℕ) → Contains args a → (x : View) → event (z a t) ≡ Some x → list_any is_some (values z args t) ≡ true
some_there z t a [] (k, lt, is) x there = absurd (omega arith)
some_there z t a (b ∷ args) (zero, lt, is) x there = λ k. is_some ((ap (λ c. event (z c t)) is ∙ there) k) || list_any is_some (values z args t)
some_there z t a (b ∷ args) (suc k, lt, is) x there =
    (λ j. is_some (event (z b t)) || some_there z t a args (k, omega arith, is) x there j) ∙ or-true (is_some (event (z b t)))

-- ---- where an argument has no event
filtered_none : (c : Option View) → filtered None c ≡ None
filtered_none None = refl
filtered_none (Some (Plain (scalar.Bool true))) = refl
filtered_none (Some v) = refl

picked_first : (c b : Option View) → picked c None b ≡ None
picked_first None b = refl
picked_first (Some (Plain (scalar.Bool true))) b = refl
picked_first (Some (Plain (scalar.Bool false))) b = refl
picked_first (Some v) b = refl

picked_second : (c a : Option View) → picked c a None ≡ None
picked_second None a = refl
picked_second (Some (Plain (scalar.Bool true))) None = refl
picked_second (Some (Plain (scalar.Bool true))) (Some a) = refl
picked_second (Some (Plain (scalar.Bool false))) None = refl
picked_second (Some (Plain (scalar.Bool false))) (Some a) = refl
picked_second (Some v) a = refl

updating_missed : (w : Option Update) (vs : List (Option View)) → list_all is_some vs ≡ false → updating w vs ≡ Ok None
updating_missed None vs missing = refl
updating_missed (Some u) vs missing = answer_missing u vs missing

module _ (z : Streams) (t a : ℕ) (none : event (z a t) ≡ None) (of : ValueType) where
  here : (b : ℕ) → b ≡ a → event (z b t) ≡ None
  here b is = ap (λ c. event (z c t)) is ∙ none

  pub at_once-missed : (o : Op) (args : List ℕ) → IsTrue (misses o) → HasArity o args → Contains args a → at_once o of (values z args t) t ≡ Ok None
  at_once-missed op.Time (x ∷ []) is shape (zero, lt, at) = λ k. Ok (option_map (λ _. Plain (scalar.Int (pos t))) (here x at k))
  at_once-missed op.Time (x ∷ []) is shape (suc k, lt, at) = absurd (omega arith)
  at_once-missed op.Filter (x ∷ c ∷ []) is shape (zero, lt, at) = (λ k. Ok (filtered (here x at k) (event (z c t)))) ∙ ap Ok (filtered_none (event (z c t)))
  at_once-missed op.Filter (x ∷ c ∷ []) is shape (suc zero, lt, at) = λ k. Ok (filtered (event (z x t)) (here c at k))
  at_once-missed op.Filter (x ∷ c ∷ []) is shape (suc (suc k), lt, at) = absurd (omega arith)
  at_once-missed op.Pick (c ∷ x ∷ y ∷ []) is shape (zero, lt, at) = λ k. Ok (picked (here c at k) (event (z x t)) (event (z y t)))
  at_once-missed op.Pick (c ∷ x ∷ y ∷ []) is shape (suc zero, lt, at) =
      (λ k. Ok (picked (event (z c t)) (here x at k) (event (z y t)))) ∙ ap Ok (picked_first (event (z c t)) (event (z y t)))
  at_once-missed op.Pick (c ∷ x ∷ y ∷ []) is shape (suc (suc zero), lt, at) =
      (λ k. Ok (picked (event (z c t)) (event (z x t)) (here y at k))) ∙ ap Ok (picked_second (event (z c t)) (event (z x t)))
  at_once-missed op.Pick (c ∷ x ∷ y ∷ []) is shape (suc (suc (suc k)), lt, at) = absurd (omega arith)
  at_once-missed (op.Lift body true) args is shape c = λ k. if some_missing z t a args c none k then apply body (values z args t) else Ok None
  at_once-missed op.Time _ is shape c = absurd shape
  at_once-missed op.Filter _ is shape c = absurd shape
  at_once-missed op.Pick _ is shape c = absurd shape
  at_once-missed op.Unit args is shape c = absurd (false≢true is)
  at_once-missed op.Empty args is shape c = absurd (false≢true is)
  at_once-missed op.Any args is shape c = absurd (false≢true is)
  at_once-missed op.Merge args is shape c = absurd (false≢true is)
  at_once-missed (op.Lift body false) args is shape c = absurd (false≢true is)
  at_once-missed o args is shape c = updating_missed (update_in o) (values z args t) (some_missing z t a args c none)

-- ---- where one argument is enough
module _ (p : Inputs) (z : Streams) (i t a : ℕ) (x : View) (there : event (z a t) ≡ Some x) (of : ValueType) where
  pub own-seen : (o : Op) (args : List ℕ) (v : View) → seen_by o t ≡ Some v → HasArity o args → Contains args a → own_of p z i o args of t ≡ Ok (Some v)
  own-seen op.Time (b ∷ []) v is shape (zero, lt, at) =
      (λ k. Ok (option_map (λ _. Plain (scalar.Int (pos t))) ((ap (λ c. event (z c t)) at ∙ there) k))) ∙ ap Ok is
  own-seen op.Time (b ∷ []) v is shape (suc k, lt, at) = absurd (omega arith)
  own-seen op.Time _ v is shape c = absurd shape
  own-seen op.Any args v is shape c = (λ k. Ok (if some_there z t a args c x there k then Some unit else None)) ∙ ap Ok is
  own-seen o args v is shape c = absurd (none-some v is)

-- ---- constants
module _ (p : Inputs) (z : Streams) (i : ℕ) (of : ValueType) where
  pub own-constant : (o : Op) (args : List ℕ) (v : View) → IsTrue (is_constant o) → HasArity o args → at_once o of [] 0 ≡ Ok (Some v) → own_of p z i o args of 0 ≡ Ok (Some v)
  own-constant op.Unit [] v is shape at = at
  own-constant op.Empty [] v is shape at = at
  own-constant op.Unit _ v is shape at = absurd shape
  own-constant op.Empty _ v is shape at = absurd shape
  own-constant o args v is shape at = absurd (false≢true is)

  pub own-past : (t : ℕ) (o : Op) (args : List ℕ) → IsTrue (is_constant o) → HasArity o args → own_of p z i o args of (suc t) ≡ Ok None
  own-past t op.Unit [] is shape = refl
  own-past t op.Empty [] is shape = refl
  own-past t op.Unit _ is shape = absurd shape
  own-past t op.Empty _ is shape = absurd shape
  own-past t o args is shape = absurd (false≢true is)

  pub own-never : (t : ℕ) (args : List ℕ) → HasArity op.Nil args → own_of p z i op.Nil args of t ≡ Ok None
  own-never t [] shape = refl
  own-never t _ shape = absurd shape
