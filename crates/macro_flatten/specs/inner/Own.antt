-- The equations of an expression besides those of its parts.
use Rattle.std.specs.Prelude.{◌≡◌, ℕ, Bool, true, false, ◌&&◌, if◌then◌else◌, List, [], ◌∷◌, ◌++◌, Result, Ok, Err}
use Rattle.tsl_value.specs.declared.place.Place.{Place}
use Rattle.tsl_value.specs.declared.scalar.ValueType.{ValueType}
use Rattle.flat_core.specs.declared.equation.Equation.{Equation}
use Rattle.flat_core.specs.System.{System}
use Rattle.tsl_value.specs.Aggregate.{is_aggregate}
use Rattle.syntax_tree.specs.Tree.{Expr, place_of}
use Rattle.stream_constructs.specs.declared.construct.Stream.{Stream}
use Rattle.stream_constructs.specs.Agree.{Fits, FitsChoice}
use Rattle.stream_constructs.specs.Construct.{Construct}
use Rattle.stream_constructs.specs.declared.maker.MakeFault.{MakeFault}
use Rattle.stream_constructs.specs.Equations.{alias_equation, choice_equations, own_equations}
use Rattle.stream_constructs.specs.Limits.{IsRefusal}
use Rattle.stream_constructs.specs.Made.{stream_of, with_equations}
use Rattle.spec_meaning.specs.Makes.{choice_operands, is_choice, is_name, with_itself}

-- those of a choice between sets or maps, or of its construct
abbrev pub own_of : Expr → ValueType → ℕ → Construct → List Stream → List Equation
own_of e of n c parts =
    if is_choice e && is_aggregate of then choice_equations (place_of e) of n (choice_operands e) parts
    else own_equations (place_of e) of n c (with_itself c n parts)

-- its parts fit it
pub record FitsOwn (e : Expr) (of : ValueType) (n : ℕ) (c : Construct) (parts : List Stream) : Type 0 where
  pub choice : (is_choice e && is_aggregate of) ≡ true → FitsChoice (choice_operands e) parts of
  pub construct : (is_choice e && is_aggregate of) ≡ false → Fits c (with_itself c n parts) of

-- ---- a body that is only a name makes the merge of its stream with itself
abbrev pub AliasedBy : Bool → Place → Stream → System → System → Result Stream MakeFault → Type 0
AliasedBy true p a old new (Ok s) =
    (new ≡ with_equations old (alias_equation p a ∷ [])) × (s ≡ stream_of old (alias_equation p a ∷ []) a.of)
AliasedBy true p a old new (Err f) = IsRefusal (old.equations ++ alias_equation p a ∷ []) f
AliasedBy false p a old new (Ok s) = (new ≡ old) × (s ≡ a)
AliasedBy false p a old new (Err f) = ⊥

abbrev pub IsAliased : Expr → Stream → System → System → Result Stream MakeFault → Type 0
IsAliased e a old new result = AliasedBy (is_name e) (place_of e) a old new result
