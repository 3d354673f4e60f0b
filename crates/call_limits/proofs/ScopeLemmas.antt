-- What is called is a macro or a value function among the items, and value functions call no macros.
use Rattle.std.proofs.Common.{◌≡◌, ℕ, suc, ◌+◌, Bool, true, false, cond, if◌then◌else◌, List, [], ◌∷◌, Option, Some, refl, sym, ap, subst, ◌∙◌, inl, inr, arith}
use Rattle.std.specs.Prelude.{slice_get}
use Rattle.std.specs.List.{Contains, list_all, list_any}
use Rattle.std.proofs.lemmas.List.Elements.{All-nil, All-cons}
use Rattle.tsl_value.specs.declared.place.Place.{Place}
use Rattle.syntax_tree.specs.Tree as tree
use Rattle.tsl_value.proofs.Lists.{none_in_nil, cons_cases, none_all}
use Rattle.name_check.specs.declared.declaration.Declaration.{Declaration}
use Rattle.name_check.specs.declared.declaration.Declaration.TheVariants as declaration
use Rattle.name_check.specs.Scope.{Scope, is_events, declared_as, declared_from, is_function, functions_of, are_values, top}
use Rattle.name_check.specs.Bodies.{Seen, item_bodies}
use Rattle.name_check.specs.Parts.{Part}
use Rattle.definition_cycles.specs.Mentions.{declared}
use Rattle.definition_cycles.specs.Nodes.{parameters_of}
use Rattle.definition_cycles.proofs.RangeLemmas.{AreAll, declared_all, around_all, declared_in_definition}
use Rattle.call_limits.specs.Nesting.{CallsDeclared, CallsMacro}

pub record IsDefinition (items : List tree.Item) (i : ℕ) : Type 0 where
  pub place : Place
  pub definition : tree.Definition
  pub is_item : slice_get items i ≡ Some (tree.Defined place definition)

pub record IsValueFunction (items : List tree.Item) (i : ℕ) : Type 0 where
  pub is : IsDefinition items i
  pub values : are_values (parameters_of is.definition) ≡ true

-- a macro is a definition, and a value function is one without streams
abbrev pub IsThere : List tree.Item → Declaration → Type 0
IsThere items (declaration.Macro i) = IsDefinition items i
IsThere items (declaration.Function i) = IsValueFunction items i
IsThere items d = Unit {0}

-- ---- the names of the top
there_as : (items : List tree.Item) (i : ℕ) (p q : Place) (x : List ℕ) (ps : List tree.Param) (w : Option tree.TypeName) (b : tree.Body) → slice_get items i ≡ Some (tree.Defined p (tree.Define q x ps w b)) → IsThere items (declared_as i ps)
there_as items i p q x [] w b at = tt
there_as items i p q x (y ∷ ps) w b at = by (list_all (λ q. is_events q.of) (y ∷ ps)) (list_any (λ q. is_events q.of) (y ∷ ps)) (none_all (λ q. is_events q.of) (y ∷ ps))
  where
    definition : IsDefinition items i
    definition = record { place = p; definition = tree.Define q x (y ∷ ps) w b; is_item = at }

    by : (all any : Bool) → (any ≡ false → are_values (y ∷ ps) ≡ true) → IsThere items (if all then declaration.Macro i else if any then declaration.Mixed i else declaration.Function i)
    by true any values = definition
    by false true values = tt
    by false false values = record { is = definition; values = values refl }

module _ (items : List tree.Item) where
  after : (i : ℕ) (x : tree.Item) (xs : List tree.Item) → ((k : ℕ) → slice_get (x ∷ xs) k ≡ slice_get items (i + k)) → (k : ℕ) → slice_get xs k ≡ slice_get items (suc i + k)
  after i x xs at k = let e : i + suc k ≡ suc i + k = omega arith in at (suc k) ∙ ap (slice_get items) e

  -- of items from i on
  there_from : (i : ℕ) (xs : List tree.Item) → ((k : ℕ) → slice_get xs k ≡ slice_get items (i + k)) → AreAll (IsThere items) (declared_from i xs)
  there_from i [] at = All-nil (λ e. IsThere items e.is)
  there_from i (tree.Input p q x y ∷ xs) at = All-cons (λ e. IsThere items e.is) (record { name = x; is = declaration.Input i }) (declared_from (suc i) xs) tt (there_from (suc i) xs (after i (tree.Input p q x y) xs at))
  there_from i (tree.Defined p (tree.Define q x ps w b) ∷ xs) at =
      let first : i + 0 ≡ i = omega arith in
      All-cons (λ e. IsThere items e.is) (record { name = x; is = declared_as i ps }) (declared_from (suc i) xs) (there_as items i p q x ps w b (sym (at 0 ∙ ap (slice_get items) first))) (there_from (suc i) xs (after i (tree.Defined p (tree.Define q x ps w b)) xs at))
  there_from i (tree.Output p q x ∷ xs) at = there_from (suc i) xs (after i (tree.Output p q x) xs at)
  there_from i (tree.OutputAs p e q x ∷ xs) at = there_from (suc i) xs (after i (tree.OutputAs p e q x) xs at)

  there_at_top : AreAll (IsThere items) (top items)
  there_at_top = there_from 0 items (λ k. let e : k ≡ 0 + k = omega arith in ap (slice_get items) e)

  at_top : (s : Seen) (q : Part) (d : Declaration) (only : Seen) → only.scope ≡ top items → Contains (only ∷ []) s → declared s.scope q ≡ Some d → IsThere items d
  at_top s q d only seen c is = elim (cons_cases only s [] c) [
    | inl same ↦ let P : Scope → Type 0 = λ t. AreAll (IsThere items) t in declared_all (IsThere items) s.scope (subst P (sym seen ∙ ap (λ x. x.scope) same) there_at_top) q d is
    | inr past ↦ absurd (none_in_nil s past)
  ]

  there_in : (x : tree.Item) (s : Seen) (q : Part) (d : Declaration) → Contains (item_bodies (top items) x) s → declared s.scope q ≡ Some d → IsThere items d
  there_in (tree.Input p q n y) s r d c is = absurd (none_in_nil s c)
  there_in (tree.Defined p e) s r d c is =
      declared_in_definition (IsThere items) (λ k. tt) (λ k. tt) (top items) p e s r d (around_all (IsThere items) (top items) (parameters_of e) there_at_top) c is
  there_in (tree.Output p q n) s r d c is = at_top s r d (record { scope = top items; expr = tree.Name q n }) refl c is
  there_in (tree.OutputAs p e q n) s r d c is = at_top s r d (record { scope = top items; expr = e }) refl c is

  pub called_there : (i : ℕ) (d : Declaration) → CallsDeclared items i d → IsThere items d
  called_there i d c = there_in c.item c.seen c.part d c.is_body c.stands_for

-- ---- value functions see no macros
abbrev IsNoMacro : Declaration → Type 0
IsNoMacro (declaration.Macro i) = ⊥
IsNoMacro d = Unit {0}

no_macro : (d : Declaration) → is_function d ≡ true → IsNoMacro d
no_macro (declaration.Macro i) h = absurd (cc)
no_macro (declaration.Input i) h = tt
no_macro (declaration.Stream i) h = tt
no_macro (declaration.Function i) h = tt
no_macro (declaration.Mixed i) h = tt
no_macro (declaration.Parameter i) h = tt
no_macro (declaration.Local i) h = tt

no_macros : (scope : Scope) → AreAll IsNoMacro (functions_of scope)
no_macros [] = All-nil (λ e. IsNoMacro e.is)
no_macros (e ∷ scope) = by (is_function e.is) refl (no_macros scope)
  where
    by : (b : Bool) → is_function e.is ≡ b → AreAll IsNoMacro (functions_of scope) → AreAll IsNoMacro (cond b (e ∷ functions_of scope) (functions_of scope))
    by true is rest = All-cons (λ x. IsNoMacro x.is) e (functions_of scope) (no_macro e.is is) rest
    by false is rest = rest

pub function_calls_no_macro : (items : List tree.Item) (i j : ℕ) → IsValueFunction items i → CallsMacro items i j → ⊥
function_calls_no_macro items i j f c =
    let def = f.is.definition in
    let same : c.item ≡ tree.Defined f.is.place def = cc (c.is_item, f.is.is_item) in
    let P : Bool → Type 0 = λ b. AreAll IsNoMacro (if b then functions_of (top items) else top items) in
    let Q : tree.Item → Type 0 = λ x. Contains (item_bodies (top items) x) c.seen in
    declared_in_definition IsNoMacro (λ k. tt) (λ k. tt) (top items) f.is.place def c.seen c.part (declaration.Macro j) (subst P (sym f.values) (no_macros (top items))) (subst Q same c.is_body) c.stands_for
