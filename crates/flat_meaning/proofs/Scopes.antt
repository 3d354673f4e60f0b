-- What the names of a scope stand for: an input and a stream by their items.
use Rattle.std.proofs.Common.{◌≡◌, ℕ, suc, ◌+◌, Bool, true, false, cond, List, [], ◌∷◌, Option, Some, ap, subst, ◌∙◌, arith}
use Rattle.std.specs.Prelude.{if◌then◌else◌, slice_get}
use Rattle.std.specs.List.{AllByRecursion, find, list_any, list_all}
use Rattle.std.specs.Option.{option_map}
use Rattle.std.specs.Str.{bytes_eq}
use Rattle.std.proofs.lemmas.Option.{same_Some, none-some}
use Rattle.tsl_value.specs.declared.place.Place.{Place}
use Rattle.syntax_tree.specs.Tree as tree
use Rattle.name_check.specs.declared.declaration.Declaration.{Declaration}
use Rattle.name_check.specs.declared.declaration.Declaration.TheVariants as declaration
use Rattle.name_check.specs.Scope.{count_in, Scope, meaning, is_events, declared_from, top, parameters_from, locals_from, is_function, are_values, functions_of, inside}
use Rattle.spec_meaning.specs.Occurrence.{Call, scope_at, body_of, block_of}
use Rattle.syntax_tree.specs.Tree.{params_of}
use Rattle.flat_core.proofs.Members.{all_append}
use Rattle.checked_spec.proofs.FunctionScopes.{first_there}

pub record IsInputItem (item : Option tree.Item) : Type 0 where
  pub place : Place
  pub at : Place
  pub name : List ℕ
  pub of : tree.TypeName
  pub is : item ≡ Some (tree.Input place at name of)

pub record IsStreamItem (item : Option tree.Item) : Type 0 where
  pub place : Place
  pub at : Place
  pub name : List ℕ
  pub written : Option tree.TypeName
  pub body : tree.Body
  pub is : item ≡ Some (tree.Defined place (tree.Define at name [] written body))

module _ (items : List tree.Item) where
  abbrev pub IsRight : Declaration → Type 0
  IsRight (declaration.Input i) = IsInputItem (slice_get items i)
  IsRight (declaration.Stream i) = IsStreamItem (slice_get items i)
  IsRight d = Unit {0}

  abbrev AreRight : Scope → Type 0
  AreRight scope = AllByRecursion (λ e. IsRight e.is) scope

  several_right : (i : ℕ) (a b : Bool) → IsRight (if a then declaration.Macro i else if b then declaration.Mixed i else declaration.Function i)
  several_right i true b = tt
  several_right i false true = tt
  several_right i false false = tt

  declared_right : (i : ℕ) (rest : List tree.Item) → ((k : ℕ) → slice_get items (i + k) ≡ slice_get rest k) → AreRight (declared_from i rest)
  declared_right i [] same = tt
  declared_right i (item ∷ rest) same = each item (first_there items i item rest same)
      (declared_right (suc i) rest (λ k. let e : suc i + k ≡ i + suc k = omega arith in ap (slice_get items) e ∙ same (suc k)))
    where
      each : (item : tree.Item) → slice_get items i ≡ Some item → AreRight (declared_from (suc i) rest) → AreRight (declared_from i (item ∷ rest))
      each (tree.Input p q n y) is more = (record { place = p; at = q; name = n; of = y; is = is }, more)
      each (tree.Defined p (tree.Define q n [] w b)) is more = (record { place = p; at = q; name = n; written = w; body = b; is = is }, more)
      each (tree.Defined p (tree.Define q n (a ∷ ps) w b)) is more = (several_right i (list_all (λ v. is_events v.of) (a ∷ ps)) (list_any (λ v. is_events v.of) (a ∷ ps)), more)
      each (tree.Output p q n) is more = more
      each (tree.OutputAs p e q n) is more = more

  parameters_right : (k : ℕ) (ps : List tree.Param) → AreRight (parameters_from k ps)
  parameters_right k [] = tt
  parameters_right k (p ∷ ps) = (tt, parameters_right (suc k) ps)

  locals_right : (k : ℕ) (ds : tree.Definitions) → AreRight (locals_from k ds)
  locals_right k tree.no_definitions = tt
  locals_right k (tree.more_definitions (tree.Define q n ps w b) ds) = (tt, locals_right (suc k + count_in b) ds)

  functions_right : (scope : Scope) → AreRight scope → AreRight (functions_of scope)
  functions_right [] all = tt
  functions_right (e ∷ scope) all = either (is_function e.is) (functions_right scope all.1)
    where
      either : (b : Bool) → AreRight (functions_of scope) → AreRight (cond b (e ∷ functions_of scope) (functions_of scope))
      either true more = (all.0, more)
      either false more = more

  top_right : AreRight (top items)
  top_right = declared_right 0 items (λ k. let e : 0 + k ≡ k = omega arith in ap (slice_get items) e)

  inside_right : (ps : List tree.Param) → AreRight (inside (top items) ps)
  inside_right ps = all_append (λ e. IsRight e.is) (parameters_from 0 ps) (if are_values ps then functions_of (top items) else top items) (parameters_right 0 ps) (either (are_values ps))
    where
      either : (b : Bool) → AreRight (if b then functions_of (top items) else top items)
      either true = functions_right (top items) top_right
      either false = top_right

  scope_right : (cs : List Call) → AreRight (scope_at items cs)
  scope_right [] = top_right
  scope_right (c ∷ cs) =
      let ps = params_of (slice_get items c.item) in
      let ds = block_of (body_of (slice_get items c.item)) in
      all_append (λ e. IsRight e.is) (locals_from 0 ds) (inside (top items) ps) (locals_right 0 ds) (inside_right ps)

  found_right : (n : List ℕ) (scope : Scope) → AreRight scope → (d : Declaration) → meaning scope n ≡ Some d → IsRight d
  found_right n [] all d is = absurd (none-some d is)
  found_right n (e ∷ scope) all d is = either (bytes_eq e.name n) is (λ more. found_right n scope all.1 d more)
    where
      either : (b : Bool) → option_map (λ e. e.is) (cond b (Some e) (find (λ e. bytes_eq e.name n) scope)) ≡ Some d → (meaning scope n ≡ Some d → IsRight d) → IsRight d
      either true h more = subst IsRight (same_Some e.is d h) all.0
      either false h more = more h

  pub meaning_right : (cs : List Call) (n : List ℕ) (d : Declaration) → meaning (scope_at items cs) n ≡ Some d → IsRight d
  meaning_right cs n d is = found_right n (scope_at items cs) (scope_right cs) d is
