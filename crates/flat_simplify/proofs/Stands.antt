-- What stands for an equation.
use Rattle.std.proofs.Common.{◌≡◌, ℕ, ◌<◌, List, [], ◌∷◌, length, Some, refl, sym, ap, subst, ◌∙◌, arith}
use Rattle.std.specs.Prelude.{IsTrue}
use Rattle.std.specs.List.{AllByRecursion}
use Rattle.std.proofs.lemmas.Option.{same_Some, slice_get-get_or, slice_get_within}
use Rattle.tsl_value.specs.declared.scalar.ValueType.{ValueType}
use Rattle.flat_core.specs.declared.equation.Equation.{Equation}
use Rattle.flat_core.specs.declared.equation.Op.TheVariants as op
use Rattle.flat_core.specs.System.{System, runs, equation, IsProper}
use Rattle.flat_core.specs.Typed.{IsTyped, merge, update}
use Rattle.flat_core.proofs.UpdateOps.{no_update}
use Rattle.flat_core.specs.TypedSystem.{IsOfType, AreOfTypes, IsTypedSystem}
use Rattle.flat_core.specs.WellFormed.{unguarded_of, IsWellFormed}
use Rattle.flat_core.proofs.WellFormedRank.{rank_of, rank_falls}
use Rattle.flat_simplify.specs.Replaced.{IsReplaced, StandsFor, itself, through, IsReplacement}
use Rattle.flat_core.specs.Renumbered.{new_number}
use Rattle.flat_simplify.specs.inner.Laws.{IsStandIn}

-- both arguments of a merge have its type
merged_types : (equations : List Equation) (a b : ℕ) (types : List ValueType) (t : ValueType) → IsTyped op.Merge types t → AreOfTypes equations (a ∷ b ∷ []) types → IsOfType equations a t
merged_types equations a b types t (update is row) of = no_update is
merged_types equations a b types t merge of = of.0

module _ (s : System) where
  -- an equation is replaced by one number
  replaced_once : (i a b : ℕ) → IsReplaced s i a → IsReplaced s i b → a ≡ b
  replaced_once i a b p q =
      let same : p.at ≡ q.at = same_Some p.at q.at (sym p.is ∙ q.is) in
      let args : a ∷ p.other ∷ [] ≡ b ∷ q.other ∷ [] = sym p.args_are ∙ ap (λ e. e.args) same ∙ q.args_are in
      cc

  pub one_stands : {i j k : ℕ} → StandsFor s i j → StandsFor s i k → j ≡ k
  one_stands (itself none) (itself other) = refl
  one_stands (itself none) (through {a = a} r rest) = absurd (none a r)
  one_stands (through {a = a} r rest) (itself none) = absurd (none a r)
  one_stands {i} {j} {k} (through {a = a} r rest) (through {a = b} q more) = one_stands rest (subst (λ n. StandsFor s n k) (sym (replaced_once i a b r q)) more)

  -- the arguments of a merge that is replaced run
  pub merged_run : IsProper s → (i a : ℕ) (r : IsReplaced s i a) → IsTrue (runs s a) × IsTrue (runs s r.other)
  merged_run proper i a r =
      let found = proper.runs_all i r.running in
      let same : found.0 ≡ r.at = same_Some found.0 r.at (sym found.1 ∙ r.is) in
      let args : found.0.args ≡ a ∷ r.other ∷ [] = ap (λ e. e.args) same ∙ r.args_are in
      let run : AllByRecursion (λ b. IsTrue (runs s b)) (a ∷ r.other ∷ []) = subst (AllByRecursion (λ b. IsTrue (runs s b))) args found.2 in
      (run.0, run.1.0)

  -- its rank is above that of the first argument
  pub replaced_falls : (formed : IsWellFormed s) (i a : ℕ) → IsReplaced s i a → rank_of s formed a < rank_of s formed i
  replaced_falls formed i a r =
      let below = λ (b : ℕ). rank_of s formed b < rank_of s formed i in
      let falls : AllByRecursion below (unguarded_of op.Merge (a ∷ r.other ∷ [])) =
      subst (λ args. AllByRecursion below (unguarded_of op.Merge args)) r.args_are (subst (λ o. AllByRecursion below (unguarded_of o r.at.args)) r.merges (rank_falls s formed i r.at r.is)) in
      falls.0

  pub runs_on : IsProper s → {i j : ℕ} → StandsFor s i j → IsTrue (runs s i) → IsTrue (runs s j)
  runs_on proper (itself none) run = run
  runs_on proper {i} {j} (through {a = a} r rest) run = runs_on proper rest (merged_run proper i a r).0

  pub left_over : {i j : ℕ} → StandsFor s i j → (a : ℕ) → IsReplaced s j a → ⊥
  left_over (itself none) a r = none a r
  left_over (through q rest) a r = left_over rest a r

  first_type : IsTypedSystem s → (i a : ℕ) → IsReplaced s i a → (t : ValueType) → IsOfType s.equations i t → IsOfType s.equations a t
  first_type typed i a r t of =
      let g = typed.each i r.at r.is in
      let same : r.at ≡ of.at = same_Some r.at of.at (sym r.is ∙ of.is) in
      let type : r.at.of ≡ t = ap (λ e. e.of) same ∙ of.of_is in
      let fits : IsTyped op.Merge g.types t = subst (λ o. IsTyped o g.types t) r.merges (subst (λ k. IsTyped r.at.op g.types k) type g.typed) in
      merged_types s.equations a r.other g.types t fits (subst (λ args. AreOfTypes s.equations args g.types) r.args_are g.arguments)

  pub same_type : IsTypedSystem s → {i j : ℕ} → StandsFor s i j → (t : ValueType) → IsOfType s.equations i t → IsOfType s.equations j t
  same_type typed (itself none) t of = of
  same_type typed {i} {j} (through {a = a} r rest) t of = same_type typed rest t (first_type typed i a r t of)

  pub stand_in : IsProper s → IsTypedSystem s → (i j : ℕ) → IsTrue (runs s i) → StandsFor s i j → IsStandIn s i j
  stand_in proper typed i j run stands = record { running = runs_on proper stands run; left = left_over stands; same_type = same_type typed stands }

  module _ (replaced : List ℕ) (replacement : IsReplacement s replaced) where
    pub new_stands : (i : ℕ) → i < length s.equations → StandsFor s i (new_number replaced i)
    new_stands i lt = let count = replacement.one_each in replacement.each i (new_number replaced i) (slice_get-get_or replaced i i (omega arith))

    pub new_stands_at : (i : ℕ) (e : Equation) → equation s i ≡ Some e → StandsFor s i (new_number replaced i)
    new_stands_at i e is = new_stands i (slice_get_within s.equations i e is)

    pub new_is : (i j : ℕ) (e : Equation) → equation s i ≡ Some e → StandsFor s i j → new_number replaced i ≡ j
    new_is i j e is stands = one_stands (new_stands_at i e is) stands
