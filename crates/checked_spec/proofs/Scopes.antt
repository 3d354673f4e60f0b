-- A name of a scope stands for the item that its declaration says.
use Rattle.std.proofs.Common.{◌≡◌, ℕ, suc, ◌+◌, Bool, true, false, cond, List, [], ◌∷◌, Some}
use Rattle.std.specs.Prelude.{if◌then◌else◌, slice_get}
use Rattle.syntax_tree.specs.Tree as tree
use Rattle.name_check.specs.declared.declaration.Declaration.{Declaration}
use Rattle.name_check.specs.Scope.{count_in, Scope, meaning, top, parameters_from, locals_from, is_function, are_values, functions_of, inside}
use Rattle.syntax_tree.specs.Tree.{params_of}
use Rattle.flat_core.proofs.Members.{all_append}
use Rattle.spec_meaning.specs.Occurrence.{Call, scope_at, body_of, block_of}
use Rattle.checked_spec.specs.inner.Formed.{IsDeclared}
use Rattle.checked_spec.proofs.FunctionScopes.{AreDeclared, top_declared, name_holds}

module _ (items : List tree.Item) where
  parameters_right : (k : ℕ) (ps : List tree.Param) → AreDeclared items (parameters_from k ps)
  parameters_right k [] = tt
  parameters_right k (p ∷ ps) = (tt, parameters_right (suc k) ps)

  locals_right : (k : ℕ) (ds : tree.Definitions) → AreDeclared items (locals_from k ds)
  locals_right k tree.no_definitions = tt
  locals_right k (tree.more_definitions (tree.Define q n ps w b) ds) = (tt, locals_right (suc k + count_in b) ds)

  functions_right : (scope : Scope) → AreDeclared items scope → AreDeclared items (functions_of scope)
  functions_right [] all = tt
  functions_right (e ∷ scope) all = either (is_function e.is) (functions_right scope all.1)
    where
      either : (b : Bool) → AreDeclared items (functions_of scope) → AreDeclared items (cond b (e ∷ functions_of scope) (functions_of scope))
      either true more = (all.0, more)
      either false more = more

  inside_right : (ps : List tree.Param) → AreDeclared items (inside (top items) ps)
  inside_right ps = all_append (λ e. IsDeclared items e.is) (parameters_from 0 ps) (if are_values ps then functions_of (top items) else top items) (parameters_right 0 ps) (either (are_values ps))
    where
      either : (b : Bool) → AreDeclared items (if b then functions_of (top items) else top items)
      either true = functions_right (top items) (top_declared items)
      either false = top_declared items

  scope_right : (cs : List Call) → AreDeclared items (scope_at items cs)
  scope_right [] = top_declared items
  scope_right (c ∷ cs) =
      let ps = params_of (slice_get items c.item) in
      let ds = block_of (body_of (slice_get items c.item)) in
      all_append (λ e. IsDeclared items e.is) (locals_from 0 ds) (inside (top items) ps) (locals_right 0 ds) (inside_right ps)

  pub meaning_declared : (cs : List Call) (n : List ℕ) (d : Declaration) → meaning (scope_at items cs) n ≡ Some d → IsDeclared items d
  meaning_declared cs n d is = name_holds (λ _ v. IsDeclared items v) (scope_at items cs) (scope_right cs) n d is
