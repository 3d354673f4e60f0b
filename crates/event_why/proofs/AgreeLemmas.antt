-- What facts of all arguments make of an equation.
use Rattle.std.proofs.Common.{◌≡◌, ◌↔◌, ℕ, List, [], ◌∷◌, length, map, Option, Some, None, Ok, refl, sym, subst, ◌∙◌, arith}
use Rattle.std.proofs.lemmas.List.{length-map}
use Rattle.std.proofs.lemmas.Option.{none-some, same_Some}
use Rattle.tsl_value.specs.View.{View}
use Rattle.flat_core.specs.declared.equation.Equation.{Equation}
use Rattle.flat_core.specs.declared.equation.Op.{Op}
use Rattle.flat_core.specs.declared.equation.Op.TheVariants as op
use Rattle.flat_core.specs.Events.{at_once}
use Rattle.flat_core.specs.inner.Arity.{HasArity}
use Rattle.plain_solver.specs.inner.Typed.{HasPlaces}
use Rattle.why_rules.specs.Facts.{Fact}
use Rattle.why_rules.specs.Rules.{TellsEach}
use Rattle.why_rules.specs.Rules as rule
use Rattle.event_why.specs.inner.Agrees.{Agrees}
use Rattle.event_why.specs.inner.Told.{told_all}
use Rattle.event_why.proofs.TellLemmas.{each_from, each_so}

-- arity is a matter of length
pub same_arity : (o : Op) (xs ys : List ℕ) → length xs ≡ length ys → HasArity o xs → HasArity o ys
same_arity op.Input [] [] same h = tt
same_arity op.Input [] (y ∷ ys) same h = absurd (omega (arith, same))
same_arity op.Input (x ∷ xs) ys same h = absurd h
same_arity op.Nil [] [] same h = tt
same_arity op.Nil [] (y ∷ ys) same h = absurd (omega (arith, same))
same_arity op.Nil (x ∷ xs) ys same h = absurd h
same_arity op.Unit [] [] same h = tt
same_arity op.Unit [] (y ∷ ys) same h = absurd (omega (arith, same))
same_arity op.Unit (x ∷ xs) ys same h = absurd h
same_arity op.Empty [] [] same h = tt
same_arity op.Empty [] (y ∷ ys) same h = absurd (omega (arith, same))
same_arity op.Empty (x ∷ xs) ys same h = absurd h
same_arity (op.Lift body strict) [] ys same h = absurd h
same_arity (op.Lift body strict) (x ∷ xs) [] same h = absurd (omega (arith, same))
same_arity (op.Lift body strict) (x ∷ xs) (y ∷ ys) same h = tt
same_arity op.Any xs ys same h = tt
same_arity op.Time [] ys same h = absurd h
same_arity op.Time (x ∷ []) [] same h = absurd (omega (arith, same))
same_arity op.Time (x ∷ []) (y ∷ []) same h = tt
same_arity op.Time (x ∷ []) (y ∷ z ∷ ys) same h = absurd (omega (arith, same))
same_arity op.Time (x ∷ z ∷ xs) ys same h = absurd h
same_arity op.Last [] ys same h = absurd h
same_arity op.Last (x ∷ []) ys same h = absurd h
same_arity op.Last (x ∷ z ∷ []) [] same h = absurd (omega (arith, same))
same_arity op.Last (x ∷ z ∷ []) (y ∷ []) same h = absurd (omega (arith, same))
same_arity op.Last (x ∷ z ∷ []) (y ∷ w ∷ []) same h = tt
same_arity op.Last (x ∷ z ∷ []) (y ∷ w ∷ v ∷ ys) same h = absurd (omega (arith, same))
same_arity op.Last (x ∷ z ∷ u ∷ xs) ys same h = absurd h
same_arity op.Delay [] ys same h = absurd h
same_arity op.Delay (x ∷ []) ys same h = absurd h
same_arity op.Delay (x ∷ z ∷ []) [] same h = absurd (omega (arith, same))
same_arity op.Delay (x ∷ z ∷ []) (y ∷ []) same h = absurd (omega (arith, same))
same_arity op.Delay (x ∷ z ∷ []) (y ∷ w ∷ []) same h = tt
same_arity op.Delay (x ∷ z ∷ []) (y ∷ w ∷ v ∷ ys) same h = absurd (omega (arith, same))
same_arity op.Delay (x ∷ z ∷ u ∷ xs) ys same h = absurd h
same_arity op.Merge [] ys same h = absurd h
same_arity op.Merge (x ∷ []) ys same h = absurd h
same_arity op.Merge (x ∷ z ∷ []) [] same h = absurd (omega (arith, same))
same_arity op.Merge (x ∷ z ∷ []) (y ∷ []) same h = absurd (omega (arith, same))
same_arity op.Merge (x ∷ z ∷ []) (y ∷ w ∷ []) same h = tt
same_arity op.Merge (x ∷ z ∷ []) (y ∷ w ∷ v ∷ ys) same h = absurd (omega (arith, same))
same_arity op.Merge (x ∷ z ∷ u ∷ xs) ys same h = absurd h
same_arity op.Filter [] ys same h = absurd h
same_arity op.Filter (x ∷ []) ys same h = absurd h
same_arity op.Filter (x ∷ z ∷ []) [] same h = absurd (omega (arith, same))
same_arity op.Filter (x ∷ z ∷ []) (y ∷ []) same h = absurd (omega (arith, same))
same_arity op.Filter (x ∷ z ∷ []) (y ∷ w ∷ []) same h = tt
same_arity op.Filter (x ∷ z ∷ []) (y ∷ w ∷ v ∷ ys) same h = absurd (omega (arith, same))
same_arity op.Filter (x ∷ z ∷ u ∷ xs) ys same h = absurd h
same_arity op.Pick [] ys same h = absurd h
same_arity op.Pick (x ∷ []) ys same h = absurd h
same_arity op.Pick (x ∷ z ∷ []) ys same h = absurd h
same_arity op.Pick (x ∷ z ∷ u ∷ []) [] same h = absurd (omega (arith, same))
same_arity op.Pick (x ∷ z ∷ u ∷ []) (y ∷ []) same h = absurd (omega (arith, same))
same_arity op.Pick (x ∷ z ∷ u ∷ []) (y ∷ w ∷ []) same h = absurd (omega (arith, same))
same_arity op.Pick (x ∷ z ∷ u ∷ []) (y ∷ w ∷ v ∷ []) same h = tt
same_arity op.Pick (x ∷ z ∷ u ∷ []) (y ∷ w ∷ v ∷ r ∷ ys) same h = absurd (omega (arith, same))
same_arity op.Pick (x ∷ z ∷ u ∷ r ∷ xs) ys same h = absurd h
same_arity op.SetAdd xs ys same h = sym same ∙ h
same_arity op.SetRemove xs ys same h = sym same ∙ h
same_arity op.MapAdd xs ys same h = sym same ∙ h
same_arity op.MapRemove xs ys same h = sym same ∙ h
same_arity op.QueueAdd xs ys same h = sym same ∙ h
same_arity op.QueueTake xs ys same h = sym same ∙ h

told_long : (t : ℕ) (args : List ℕ) (values : List (Option View)) (fs : List Fact) → TellsEach t args values fs → length args ≡ length values
told_long t args values fs rule.TellsEach.done = refl
told_long t args values fs (rule.TellsEach.next {args = rest} {vs = vs} {fs = gs} tells others) = let more = told_long t rest vs gs others in omega (arith, more)

module _ (e : Equation) (t : ℕ) (fs : List Fact) where
  pub told_places : (values : List (Option View)) → HasArity e.op e.args → told_all t e.args fs ≡ Some values → HasPlaces e.op values
  told_places values shape told =
      let long = told_long t e.args values fs (each_from t e.args fs values told) in
      let zero_of : Option View → ℕ = λ v. 0 in
      let count = length-map values zero_of in
      same_arity e.op e.args (map (λ v. 0) values) (omega (arith, long, count)) shape

  pub agrees_test : (values : List (Option View)) (v : Option View) → told_all t e.args fs ≡ Some values → (at_once e.op e.of values t ≡ Ok v) ↔ Agrees e t v fs
  agrees_test values v told = (
    λ at. record { values = values; told = each_from t e.args fs values told; is = at },
    λ a.
        let same = same_Some a.values values (sym (each_so t e.args fs a.values a.told) ∙ told) in
        subst (λ vs. at_once e.op e.of vs t ≡ Ok v) same a.is,
  )

  pub agrees_never : (v : Option View) → told_all t e.args fs ≡ None → ¬ Agrees e t v fs
  agrees_never v none a = none-some a.values (sym none ∙ each_so t e.args fs a.values a.told)
