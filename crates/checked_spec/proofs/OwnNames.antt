-- In a checked specification no declared name is one of the language's own.
use Rattle.std.proofs.Common.{◌≡◌, ℕ, suc, Bool, true, false, cond, ◌||◌, if◌then◌else◌, List, [], ◌∷◌, ◌++◌, Some, refl, sym, ap, ◌∙◌}
use Rattle.std.specs.Option.{option_map}
use Rattle.std.specs.List.{AllByRecursion, find, list_any}
use Rattle.std.specs.Str.{bytes_eq}
use Rattle.std.proofs.lemmas.Slice.Eq.{bytes_eq-Decides}
use Rattle.tsl_value.specs.declared.place.Place.{Place}
use Rattle.syntax_tree.specs.Tree as tree
use Rattle.name_check.specs.declared.declaration.Declaration.{Declaration}
use Rattle.name_check.specs.declared.declaration.Declaration.TheVariants as declaration
use Rattle.name_check.specs.Builtin.{is_built_in, lift_name}
use Rattle.name_check.specs.Scope.{Scope, meaning, declared_from, top, is_function, functions_of}
use Rattle.name_check.specs.Faults.{again, twice_in_params, twice_in_body, twice_from}
use Rattle.checked_spec.specs.Laws.{LiftIsNoFunction}
use Rattle.tsl_value.proofs.Lists.{append_empty}

abbrev AreOwn : Scope → Type 0
AreOwn scope = AllByRecursion (λ e. is_built_in e.name ≡ false) scope

pub not_again : (before : List (List ℕ)) (p : Place) (n : List ℕ) → again before p n ≡ [] → is_built_in n ≡ false
not_again before p n h = by (is_built_in n) h
  where
    by : (b : Bool) → (if b || list_any (bytes_eq n) before then p ∷ [] else []) ≡ [] → b ≡ false
    by true k = absurd (cc)
    by false k = refl

declared_own : (before : List (List ℕ)) (i : ℕ) (items : List tree.Item) → twice_from before items ≡ [] → AreOwn (declared_from i items)
declared_own before i [] h = tt
declared_own before i (tree.Input p q n y ∷ items) h =
    let both = append_empty (again before q n) (twice_from (n ∷ before) items) h in
    (not_again before q n both.0, declared_own (n ∷ before) (suc i) items both.1)
declared_own before i (tree.Defined p (tree.Define q n ps w b) ∷ items) h =
    let outer = append_empty (again before q n ++ twice_in_params [] ps ++ twice_in_body b) (twice_from (n ∷ before) items) h in
    let inner = append_empty (again before q n ++ twice_in_params [] ps) (twice_in_body b) outer.0 in
    let name = append_empty (again before q n) (twice_in_params [] ps) inner.0 in
    (not_again before q n name.0, declared_own (n ∷ before) (suc i) items outer.1)
declared_own before i (tree.Output p q n ∷ items) h = declared_own before (suc i) items h
declared_own before i (tree.OutputAs p e q n ∷ items) h = declared_own before (suc i) items h

functions_own : (scope : Scope) → AreOwn scope → AreOwn (functions_of scope)
functions_own [] all = tt
functions_own (e ∷ scope) all = by (is_function e.is) (functions_own scope all.1)
  where
    by : (b : Bool) → AreOwn (functions_of scope) → AreOwn (cond b (e ∷ functions_of scope) (functions_of scope))
    by true more = (all.0, more)
    by false more = more

-- a name that stands for something is none of the language's own
pub found_own : (n : List ℕ) (scope : Scope) → AreOwn scope → (d : Declaration) → meaning scope n ≡ Some d → is_built_in n ≡ false
found_own n [] all d is = absurd (cc)
found_own n (e ∷ scope) all d is = by (bytes_eq e.name n) refl is (λ more. found_own n scope all.1 d more)
  where
    by : (b : Bool) → bytes_eq e.name n ≡ b → option_map (λ x. x.is) (cond b (Some e) (find (λ x. bytes_eq x.name n) scope)) ≡ Some d → (meaning scope n ≡ Some d → is_built_in n ≡ false) → is_built_in n ≡ false
    by true same h more = ap is_built_in (sym ((bytes_eq-Decides e.name n).0 same)) ∙ all.0
    by false same h more = more h

lift_built_in : is_built_in lift_name ≡ true
unfolding is_built_in
lift_built_in = refl

pub lift_is_no_function : LiftIsNoFunction
lift_is_no_function items kinds j checked is =
    let own = found_own lift_name (functions_of (top items)) (functions_own (top items) (declared_own [] 0 items checked.names_once)) (declaration.Function j) is in
    let built_in = lift_built_in in
    absurd (cc)
