-- The equations of a construct make its stream: what that means, and the laws that say so for each construct.
use Rattle.std.specs.Prelude.{◌≡◌, ◌==◌, ◌⊎◌, ℕ, suc, ◌+◌, ◌-◌, ◌<◌, ◌≤◌, Bool, true, false, if◌then◌else◌, List, [], ◌∷◌, map, length}
use Rattle.std.specs.Prelude.{Some, None, slice_get}
use Rattle.std.specs.List.{Contains, AllByRecursion}
use Rattle.tsl_value.specs.View.{type_of}
use Rattle.tsl_value.specs.declared.place.Place.{Place}
use Rattle.tsl_value.specs.declared.scalar.ScalarType.{ScalarType}
use Rattle.tsl_value.specs.declared.scalar.ValueType.{ValueType}
use Rattle.tsl_value.specs.declared.scalar.ValueType.TheVariants as value_type
use Rattle.lift_func.specs.Typing.{Value, Optional, HasKind}
use Rattle.lift_func.specs.Update.{UpdateTypes}
use Rattle.flat_core.specs.declared.equation.Equation.{Equation}
use Rattle.translation_order.specs.Graph.{Path, Walk}
use Rattle.flat_core.specs.Stream.{History}
use Rattle.flat_core.specs.Case.{Streams, case_of, root_fault}
use Rattle.flat_core.specs.Events.{Inputs}
use Rattle.flat_core.specs.System.{System}
use Rattle.tsl_value.specs.Aggregate.{is_aggregate}
use Rattle.flat_core.specs.Typed.{unit_type, int_type, bool_type}
use Rattle.flat_core.specs.TypedSystem.{IsOfType, IsTypedEquation}
use Rattle.flat_core.specs.Needed.{HasArgument}
use Rattle.flat_core.specs.WellFormed.{Needs}
use Rattle.stream_constructs.specs.declared.construct.Stream.{Stream}
use Rattle.stream_constructs.specs.Construct.{Construct, Operand, Fixed, Varying, outcome, root, operand_trees}
use Rattle.stream_constructs.specs.Construct as construct
use Rattle.stream_constructs.specs.Equations.{own_equations, choice_equations, choice, alias_equation}

-- ---- the types that a construct asks of its parts, and its own
-- operands of these types: a literal's is its own, and that of a part is its equation's
abbrev pub AreOperands : List Operand → List Stream → List ValueType → Type 0
AreOperands [] [] [] = Unit {0}
AreOperands (Fixed s ∷ os) parts (t ∷ ts) = (t ≡ value_type.Scalar (type_of s)) × AreOperands os parts ts
AreOperands (Varying ∷ os) (a ∷ parts) (t ∷ ts) = (t ≡ a.of) × AreOperands os parts ts
AreOperands os parts ts = ⊥

pub record IsScalar (of : ValueType) : Type 0 where
  pub scalar : ScalarType
  pub is : of ≡ value_type.Scalar scalar

-- a construct of a type on parts of theirs
abbrev pub Fits : Construct → List Stream → ValueType → Type 0
Fits construct.Nil [] of = Unit {0}
Fits construct.Unit [] of = of ≡ unit_type
Fits (construct.Literal s) [] of = of ≡ value_type.Scalar (type_of s)
Fits (construct.Empty t) [] of = (of ≡ t) × (is_aggregate t ≡ true)
Fits construct.Time (a ∷ []) of = of ≡ int_type
Fits construct.Last (v ∷ r ∷ []) of = of ≡ v.of
Fits construct.Delay (d ∷ r ∷ x ∷ []) of = (of ≡ unit_type) × (d.of ≡ int_type)
Fits construct.Merge (a ∷ b ∷ []) of = (of ≡ a.of) × (b.of ≡ a.of)
Fits (construct.Const s) (a ∷ []) of = of ≡ value_type.Scalar (type_of s)
Fits construct.Filter (e ∷ c ∷ []) of = (of ≡ e.of) × (c.of ≡ bool_type)
Fits (construct.FilterBy b) (e ∷ []) of = of ≡ e.of
Fits (construct.Lift f) parts of =
    IsScalar of × (1 ≤ length parts) × (length parts ≤ 8) × HasKind (map (λ a. Optional a.of) parts) f (Optional of)
Fits (construct.Signal f) parts of = IsScalar of × (length parts ≤ 8) × HasKind (map (λ a. Value a.of) parts) f (Value of)
Fits (construct.Update o os) parts of = (ts : List ValueType) × AreOperands os parts (of ∷ ts) × UpdateTypes o of ts
Fits c parts of = ⊥

-- a choice between two aggregates: the condition may be a literal
abbrev pub FitsChoice : List Operand → List Stream → ValueType → Type 0
FitsChoice os parts of = AreOperands os parts (bool_type ∷ of ∷ of ∷ []) × (is_aggregate of ≡ true)

-- ---- equations that stand in a system from number n on
abbrev pub StandsAt : List Equation → ℕ → List Equation → Type 0
StandsAt all n own = (k : ℕ) (e : Equation) → slice_get own k ≡ Some e → slice_get all (n + k) ≡ Some e

abbrev pub history_of : Streams → List Stream → List History
history_of z parts = map (λ a. z a.id) parts

abbrev pub last_number : ℕ → List Equation → ℕ
last_number n own = n + length own - 1

-- the parts of a delay are two, and the third is the delay itself
abbrev pub IsItself : Construct → ℕ → List Stream → Type 0
IsItself construct.Delay n (d ∷ r ∷ x ∷ []) = x.id ≡ n
IsItself c n parts = Unit {0}

-- Where each of the equations has its case at t, the last one has what the construct makes of its parts, and only the last one can
-- have a root fault, which is the construct's.
pub record MakesStream (c : Construct) (own : List Equation) (n : ℕ) (parts : List Stream) (inputs : Inputs) (z : Streams)
    (t : ℕ) : Type 0 where
  pub outcome_is : z (last_number n own) t ≡ outcome inputs c (history_of z parts) t
  pub root_is :
      (k : ℕ) (e : Equation) →
      slice_get own k ≡ Some e →
      root_fault inputs z (n + k) e t ≡ (if suc k == length own then root inputs c (history_of z parts) t else None)

abbrev pub AreSolved : Inputs → Streams → ℕ → List Equation → ℕ → Type 0
AreSolved inputs z n own t = (k : ℕ) (e : Equation) → slice_get own k ≡ Some e → z (n + k) t ≡ case_of inputs z (n + k) e t

abbrev pub Makes : Construct → List Equation → ℕ → List Stream → Type 0
Makes c own n parts = (inputs : Inputs) (z : Streams) (t : ℕ) → AreSolved inputs z n own t → MakesStream c own n parts inputs z t

-- ---- how they hang together
-- a part that is used at the same time, by its place
abbrev pub is_used_part : Construct → ℕ → Bool
is_used_part construct.Last k = if k == 0 then false else true
is_used_part construct.Delay k = false
is_used_part c k = true

-- All of them are needed where the last one is, and so are the parts. They have no other arguments than parts and each other. From the
-- last one a path without guarded edges leads to each part that is used at the same time. Each is well typed where the parts are.
pub record HangTogether (c : Construct) (own : List Equation) (n : ℕ) (parts : List Stream) (s : System) : Type 0 where
  pub reach : (k : ℕ) → k < length own → Walk (HasArgument s.equations) (last_number n own) (n + k)
  pub reach_parts : (a : Stream) → Contains parts a → Walk (HasArgument s.equations) (last_number n own) a.id
  pub arguments :
      (k : ℕ) (e : Equation) (j : ℕ) →
      slice_get own k ≡ Some e →
      Contains e.args j →
      Contains (map (λ a. a.id) parts) j ⊎ ((i : ℕ) × (i < length own) × (j ≡ n + i))
  pub falls : (k : ℕ) (a : Stream) → slice_get parts k ≡ Some a → is_used_part c k ≡ true → Path (Needs s) (last_number n own) a.id
  pub typed : AllByRecursion (λ a. IsOfType s.equations a.id a.of) parts → AllByRecursion (IsTypedEquation s.equations) own

-- ---- the laws
-- all constructs but a name, a call of a macro and an input
abbrev pub ConstructsAreMade : Type 0
ConstructsAreMade =
    (c : Construct) (p : Place) (of : ValueType) (n : ℕ) (parts : List Stream) →
    Fits c parts of →
    IsItself c n parts →
    Makes c (own_equations p of n c parts) n parts

abbrev pub ConstructsHangTogether : Type 0
ConstructsHangTogether =
    (c : Construct) (p : Place) (of : ValueType) (n : ℕ) (parts : List Stream) (s : System) →
    Fits c parts of →
    IsItself c n parts →
    StandsAt s.equations n (own_equations p of n c parts) →
    HangTogether c (own_equations p of n c parts) n parts s

-- a choice between aggregates, which means what `if` means
abbrev pub ChoicesAreMade : Type 0
ChoicesAreMade =
    (p : Place) (of : ValueType) (n : ℕ) (os : List Operand) (parts : List Stream) →
    FitsChoice os parts of →
    Makes (construct.Signal (choice (operand_trees 0 os))) (choice_equations p of n os parts) n parts

abbrev pub ChoicesHangTogether : Type 0
ChoicesHangTogether =
    (p : Place) (of : ValueType) (n : ℕ) (os : List Operand) (parts : List Stream) (s : System) →
    FitsChoice os parts of →
    StandsAt s.equations n (choice_equations p of n os parts) →
    HangTogether (construct.Signal (choice (operand_trees 0 os))) (choice_equations p of n os parts) n parts s

-- a definition that is only a name
abbrev pub AliasesAreMade : Type 0
AliasesAreMade = (p : Place) (n : ℕ) (a : Stream) → Makes construct.Same (alias_equation p a ∷ []) n (a ∷ [])

abbrev pub AliasesHangTogether : Type 0
AliasesHangTogether =
    (p : Place) (n : ℕ) (a : Stream) (s : System) →
    StandsAt s.equations n (alias_equation p a ∷ []) →
    HangTogether construct.Same (alias_equation p a ∷ []) n (a ∷ []) s
