-- The types that arguments have, as they compute.
use Rattle.std.proofs.Common.{◌≡◌, ℕ, Bool, List, [], ◌∷◌, ◌++◌, Option, Some, None, refl, ap, sym, subst, ◌∙◌, append_assoc}
use Rattle.std.specs.Prelude.{IsTrue, slice_get}
use Rattle.std.specs.List.{list_all, AllByRecursion}
use Rattle.std.specs.Option.{option_map}
use Rattle.std.proofs.lemmas.Bool.{and_parts}
use Rattle.std.proofs.lemmas.Option.{same_Some}
use Rattle.tsl_value.specs.declared.scalar.ValueType.{ValueType}
use Rattle.lift_func.proofs.TypedUpdates.{both}
use Rattle.flat_core.specs.declared.equation.Equation.{Equation}
use Rattle.flat_core.specs.TypedSystem.{IsOfType, AreOfTypes}
use Rattle.equation_types.specs.inner.Arguments.{type_at, with_type, types_at}

module _ (equations : List Equation) where
  of_type : (a : ℕ) (x : Option Equation) (t : ValueType) → slice_get equations a ≡ x → option_map (λ (e : Equation). e.of) x ≡ Some t → IsOfType equations a t
  of_type a None t at is = absurd (cc)
  of_type a (Some e) t at is = record { at = e; is = at; of_is = same_Some e.of t is }

  with_from : (a : ℕ) (args : List ℕ) (x : Option ValueType) (y : Option (List ValueType)) (ts : List ValueType) → ((t : ValueType) → x ≡ Some t → IsOfType equations a t) → ((us : List ValueType) → y ≡ Some us → AreOfTypes equations args us) → with_type x y ≡ Some ts → AreOfTypes equations (a ∷ args) ts
  with_from a args None y ts first rest is = absurd (cc)
  with_from a args (Some t) None ts first rest is = absurd (cc)
  with_from a args (Some t) (Some us) ts first rest is = subst (AreOfTypes equations (a ∷ args)) (same_Some (t ∷ us) ts is) (first t refl, rest us refl)

  pub types_from : (args : List ℕ) (ts : List ValueType) → types_at equations args ≡ Some ts → AreOfTypes equations args ts
  types_from [] ts is = subst (AreOfTypes equations []) (same_Some [] ts is) tt
  types_from (a ∷ args) ts is =
      with_from a args (type_at equations a) (types_at equations args) ts (λ t. of_type a (slice_get equations a) t refl) (λ us. types_from args us) is

  pub types_to : (args : List ℕ) (ts : List ValueType) → AreOfTypes equations args ts → types_at equations args ≡ Some ts
  types_to [] [] are = refl
  types_to [] (t ∷ ts) are = absurd are
  types_to (a ∷ args) [] are = absurd are
  types_to (a ∷ args) (t ∷ ts) are =
      ap (λ x. with_type (option_map (λ (e : Equation). e.of) x) (types_at equations args)) are.0.is ∙ ap (with_type (Some are.0.at.of)) (types_to args ts are.1) ∙ ap (λ u. Some (u ∷ ts)) are.0.of_is

-- ---- the loop: what was found, and what is left
abbrev pub after : List ValueType → Option (List ValueType) → Option (List ValueType)
after found None = None
after found (Some rest) = Some (found ++ rest)

after_one : (found : List ValueType) (t : ValueType) (rest : Option (List ValueType)) → after found (with_type (Some t) rest) ≡ after (found ++ t ∷ []) rest
after_one found t None = refl
after_one found t (Some rest) = ap Some (sym (append_assoc found (t ∷ []) rest))

pub all_pass : (p : ℕ → Bool) (xs : List ℕ) → IsTrue (list_all p xs) → AllByRecursion (λ a. IsTrue (p a)) xs
all_pass p [] h = tt
all_pass p (x ∷ xs) h = let parts = and_parts (p x) (list_all p xs) h in (parts.0, all_pass p xs parts.1)

pub pass_all : (p : ℕ → Bool) (xs : List ℕ) → AllByRecursion (λ a. IsTrue (p a)) xs → IsTrue (list_all p xs)
pass_all p [] h = refl
pass_all p (x ∷ xs) h = both h.0 (pass_all p xs h.1)
