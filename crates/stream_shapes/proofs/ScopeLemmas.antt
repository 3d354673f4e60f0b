-- The value functions that are seen at calls of macros are those of the top.
use Rattle.std.proofs.Common.{◌≡◌, ℕ, suc, ◌+◌, Bool, true, false, cond, if◌then◌else◌, List, [], ◌∷◌, ◌++◌, Some, refl, sym, ap, ◌∙◌}
use Rattle.std.specs.Prelude.{slice_get}
use Rattle.std.specs.List.{find}
use Rattle.std.specs.Option.{option_map}
use Rattle.std.specs.Str.{bytes_eq}
use Rattle.std.proofs.lemmas.Option.{none-some}
use Rattle.std.proofs.lemmas.List.Elements.{filter-append}
use Rattle.syntax_tree.specs.Tree as tree
use Rattle.name_check.specs.declared.declaration.Declaration.TheVariants as declaration
use Rattle.name_check.specs.Scope.{Scope, Entry, meaning, top, inside, parameters_from, locals_from, count_in, is_function, are_values, functions_of}
use Rattle.spec_meaning.specs.Occurrence.{Call, scope_at, body_of, block_of}
use Rattle.syntax_tree.specs.Tree.{params_of}
use Rattle.function_bodies.specs.inner.Calls.{IsFunction}
use Rattle.function_bodies.proofs.ScopeLemmas.{seen_in_function}

of_parameters : (k : ℕ) (ps : List tree.Param) → functions_of (parameters_from k ps) ≡ []
of_parameters k [] = refl
of_parameters k (p ∷ ps) = of_parameters (suc k) ps

of_locals : (k : ℕ) (ds : tree.Definitions) → functions_of (locals_from k ds) ≡ []
of_locals k tree.no_definitions = refl
of_locals k (tree.more_definitions (tree.Define q n ps w b) ds) = of_locals (suc k + count_in b) ds

of_functions : (scope : Scope) → functions_of (functions_of scope) ≡ functions_of scope
of_functions [] = refl
of_functions (e ∷ scope) = by (is_function e.is) refl (of_functions scope)
  where
    by : (b : Bool) → is_function e.is ≡ b → functions_of (functions_of scope) ≡ functions_of scope → functions_of (cond b (e ∷ functions_of scope) (functions_of scope)) ≡ cond b (e ∷ functions_of scope) (functions_of scope)
    by true is again = ap (λ b. cond b (e ∷ functions_of (functions_of scope)) (functions_of (functions_of scope))) is ∙ ap (λ s. e ∷ s) again
    by false is again = again

of_either : (b : Bool) (scope : Scope) → functions_of (if b then functions_of scope else scope) ≡ functions_of scope
of_either true scope = of_functions scope
of_either false scope = refl

of_inside : (scope : Scope) (ps : List tree.Param) → functions_of (inside scope ps) ≡ functions_of scope
of_inside scope ps =
    let outer : Scope = if are_values ps then functions_of scope else scope in
    filter-append (λ e. is_function e.is) (parameters_from 0 ps) outer
    ∙ ap (λ s. s ++ functions_of outer) (of_parameters 0 ps)
    ∙ of_either (are_values ps) scope

functions_at : (items : List tree.Item) (cs : List Call) → functions_of (scope_at items cs) ≡ functions_of (top items)
functions_at items [] = refl
functions_at items (c ∷ cs) =
    let ps = params_of (slice_get items c.item) in
    let ds = block_of (body_of (slice_get items c.item)) in
    filter-append (λ e. is_function e.is) (locals_from 0 ds) (inside (top items) ps)
    ∙ ap (λ s. s ++ functions_of (inside (top items) ps)) (of_locals 0 ds)
    ∙ of_inside (top items) ps

-- a name that stands for a value function still does where value functions alone are seen
still : (scope : Scope) (n : List ℕ) (j : ℕ) → meaning scope n ≡ Some (declaration.Function j) → meaning (functions_of scope) n ≡ Some (declaration.Function j)
still [] n j h = absurd (none-some _ h)
still (e ∷ scope) n j h = by (bytes_eq e.name n) (is_function e.is) refl refl h (still scope n j)
  where
    by : (b f : Bool) → bytes_eq e.name n ≡ b → is_function e.is ≡ f → option_map (λ (x : Entry). x.is) (cond b (Some e) (find (λ x. bytes_eq x.name n) scope)) ≡ Some (declaration.Function j) → (meaning scope n ≡ Some (declaration.Function j) → meaning (functions_of scope) n ≡ Some (declaration.Function j)) → meaning (cond f (e ∷ functions_of scope) (functions_of scope)) n ≡ Some (declaration.Function j)
    by true true is function h more = ap (λ b. option_map (λ (x : Entry). x.is) (cond b (Some e) (find (λ x. bytes_eq x.name n) (functions_of scope)))) is ∙ h
    by true false is function h more = let same : e.is ≡ declaration.Function j = cc in absurd (cc (ap is_function same))
    by false true is function h more = ap (λ b. option_map (λ (x : Entry). x.is) (cond b (Some e) (find (λ x. bytes_eq x.name n) (functions_of scope)))) is ∙ more h
    by false false is function h more = more h

-- what stands for a value function is one, at any calls
pub function_meant : (items : List tree.Item) (cs : List Call) (n : List ℕ) (j : ℕ) → meaning (scope_at items cs) n ≡ Some (declaration.Function j) → IsFunction items j
function_meant items cs n j h =
    (seen_in_function items [] n (declaration.Function j) (ap (λ s. meaning s n) (sym (functions_at items cs)) ∙ still (scope_at items cs) n j h)).function j refl
