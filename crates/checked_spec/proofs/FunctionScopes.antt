-- The names that are seen in a value function: they stand for its parameters and for value functions, and the language has none of
-- them itself.
use Rattle.std.proofs.Common.{◌≡◌, ℕ, zero, suc, ◌+◌, Bool, true, false, cond, List, [], ◌∷◌, ◌++◌, Option, Some, None, refl, ap, sym, subst, ◌∙◌, arith}
use Rattle.std.specs.Prelude.{if◌then◌else◌, slice_get}
use Rattle.std.specs.List.{AllByRecursion, find, list_any, list_all}
use Rattle.std.specs.Option.{option_map}
use Rattle.std.specs.Str.{bytes_eq}
use Rattle.std.proofs.lemmas.Bool.{true≢false, false≢true}
use Rattle.std.proofs.lemmas.Option.{same_Some, none-some}
use Rattle.std.proofs.lemmas.Slice.Eq.{bytes_eq-Decides}
use Rattle.tsl_value.specs.declared.place.Place.{Place}
use Rattle.syntax_tree.specs.Tree as tree
use Rattle.name_check.specs.declared.declaration.Declaration.{Declaration}
use Rattle.name_check.specs.declared.declaration.Declaration.TheVariants as declaration
use Rattle.name_check.specs.Builtin.{is_built_in}
use Rattle.name_check.specs.Scope.{Scope, meaning, is_events, declared_from, top, parameters_from, is_function, are_values, functions_of, inside}
use Rattle.name_check.specs.Faults.{again, twice_in_params, twice_in_body, twice_from, declared_twice}
use Rattle.syntax_tree.specs.Tree.{params_of}
use Rattle.expr_types.specs.Bodies.{may_have_braces}
use Rattle.flat_core.proofs.Members.{all_append}
use Rattle.checked_spec.specs.inner.Formed.{IsDeclared, is_input, is_stream}
use Rattle.checked_spec.proofs.OwnNames.{not_again}
use Rattle.tsl_value.proofs.Lists.{append_empty, none_all}

-- the first of the rest of a list stands where the rest begins
pub first_there : {A : Type 0} (xs : List A) (i : ℕ) (x : A) (rest : List A) → ((k : ℕ) → slice_get xs (i + k) ≡ slice_get (x ∷ rest) k) → slice_get xs i ≡ Some x
first_there xs i x rest same = let e : i ≡ i + 0 = omega arith in ap (slice_get xs) e ∙ same 0

-- ---- a name stands for the item that its declaration says
module _ (items : List tree.Item) where
  abbrev pub AreDeclared : Scope → Type 0
  AreDeclared scope = AllByRecursion (λ e. IsDeclared items e.is) scope

  several_declared : (i : ℕ) (ps : List tree.Param) (a b : Bool) → params_of (slice_get items i) ≡ ps → (a ≡ true → may_have_braces ps ≡ true) → (b ≡ false → are_values ps ≡ true) → IsDeclared items (if a then declaration.Macro i else if b then declaration.Mixed i else declaration.Function i)
  several_declared i ps true b is macro function = ap may_have_braces is ∙ macro refl
  several_declared i ps false true is macro function = tt
  several_declared i ps false false is macro function = ap are_values is ∙ function refl

  declared_right : (i : ℕ) (rest : List tree.Item) → ((k : ℕ) → slice_get items (i + k) ≡ slice_get rest k) → AreDeclared (declared_from i rest)
  declared_right i [] same = tt
  declared_right i (item ∷ rest) same = each item (first_there items i item rest same)
      (declared_right (suc i) rest (λ k. let e : suc i + k ≡ i + suc k = omega arith in ap (slice_get items) e ∙ same (suc k)))
    where
      each : (item : tree.Item) → slice_get items i ≡ Some item → AreDeclared (declared_from (suc i) rest) → AreDeclared (declared_from i (item ∷ rest))
      each (tree.Input p q n y) is more = (ap is_input is, more)
      each (tree.Defined p (tree.Define q n [] w b)) is more = (ap is_stream is, more)
      each (tree.Defined p (tree.Define q n (a ∷ ps) w b)) is more =
          (several_declared i (a ∷ ps) (list_all (λ v. is_events v.of) (a ∷ ps)) (list_any (λ v. is_events v.of) (a ∷ ps)) (ap params_of is) (λ h. h) (λ h. none_all (λ v. is_events v.of) (a ∷ ps) h), more)
      each (tree.Output p q n) is more = more
      each (tree.OutputAs p e q n) is more = more

  pub top_declared : AreDeclared (top items)
  top_declared = declared_right 0 items (λ k. let e : 0 + k ≡ k = omega arith in ap (slice_get items) e)

-- ---- what holds of each entry of a scope holds of each name that is seen
pub name_holds : (P : List ℕ → Declaration → Type 0) (scope : Scope) → AllByRecursion (λ e. P e.name e.is) scope → (n : List ℕ) (d : Declaration) → meaning scope n ≡ Some d → P n d
name_holds P [] all n d is = absurd (none-some d is)
name_holds P (e ∷ scope) all n d is = either (bytes_eq e.name n) refl is (name_holds P scope all.1 n d)
  where
    either : (b : Bool) → bytes_eq e.name n ≡ b → option_map (λ e. e.is) (cond b (Some e) (find (λ e. bytes_eq e.name n) scope)) ≡ Some d → (meaning scope n ≡ Some d → P n d) → P n d
    either true same h more = subst (P n) (same_Some e.is d h) (subst (λ x. P x e.is) ((bytes_eq-Decides e.name n).0 same) all.0)
    either false same h more = more h

-- ---- what is declared is none of the language's names
abbrev AreNew : Scope → Type 0
AreNew scope = AllByRecursion (λ e. is_built_in e.name ≡ false) scope

params_new : (before : List (List ℕ)) (k : ℕ) (ps : List tree.Param) → twice_in_params before ps ≡ [] → AreNew (parameters_from k ps)
params_new before k [] h = tt
params_new before k (p ∷ ps) h =
    let both = append_empty (again before p.place p.name) (twice_in_params (p.name ∷ before) ps) h in
    (not_again before p.place p.name both.0, params_new (p.name ∷ before) (suc k) ps both.1)

record IsOnce (before : List (List ℕ)) (n : List ℕ) (ps : List tree.Param) (rest : List tree.Item) : Type 0 where
  new : is_built_in n ≡ false
  params : twice_in_params [] ps ≡ []
  more : twice_from (n ∷ before) rest ≡ []

is_once : (before : List (List ℕ)) (q : Place) (n : List ℕ) (ps : List tree.Param) (b : tree.Body) (rest : List tree.Item) → again before q n ++ twice_in_params [] ps ++ twice_in_body b ++ twice_from (n ∷ before) rest ≡ [] → IsOnce before n ps rest
is_once before q n ps b rest h =
    let outer = append_empty (again before q n ++ twice_in_params [] ps ++ twice_in_body b) (twice_from (n ∷ before) rest) h in
    let middle = append_empty (again before q n ++ twice_in_params [] ps) (twice_in_body b) outer.0 in
    let first = append_empty (again before q n) (twice_in_params [] ps) middle.0 in
    record { new = not_again before q n first.0; params = first.1; more = outer.1 }

top_new : (before : List (List ℕ)) (k : ℕ) (items : List tree.Item) → twice_from before items ≡ [] → AreNew (declared_from k items)
top_new before k [] h = tt
top_new before k (tree.Input p q n y ∷ items) h =
    let both = append_empty (again before q n) (twice_from (n ∷ before) items) h in
    (not_again before q n both.0, top_new (n ∷ before) (suc k) items both.1)
top_new before k (tree.Defined p (tree.Define q n ps w b) ∷ items) h =
    let once = is_once before q n ps b items h in
    (once.new, top_new (n ∷ before) (suc k) items once.more)
top_new before k (tree.Output p q n ∷ items) h = top_new before (suc k) items h
top_new before k (tree.OutputAs p e q n ∷ items) h = top_new before (suc k) items h

-- the parameters of an item are declared once
params_once : (before : List (List ℕ)) (items : List tree.Item) → twice_from before items ≡ [] → (i : ℕ) → twice_in_params [] (params_of (slice_get items i)) ≡ []
params_once before [] h i = refl
params_once before (tree.Input p q n y ∷ items) h zero = refl
params_once before (tree.Input p q n y ∷ items) h (suc i) = params_once (n ∷ before) items (append_empty (again before q n) (twice_from (n ∷ before) items) h).1 i
params_once before (tree.Defined p (tree.Define q n ps w b) ∷ items) h zero = (is_once before q n ps b items h).params
params_once before (tree.Defined p (tree.Define q n ps w b) ∷ items) h (suc i) = params_once (n ∷ before) items (is_once before q n ps b items h).more i
params_once before (tree.Output p q n ∷ items) h zero = refl
params_once before (tree.Output p q n ∷ items) h (suc i) = params_once before items h i
params_once before (tree.OutputAs p e q n ∷ items) h zero = refl
params_once before (tree.OutputAs p e q n ∷ items) h (suc i) = params_once before items h i

-- ---- the names in a value function
abbrev pub IsSeen : List tree.Item → Declaration → Type 0
IsSeen items (declaration.Parameter k) = Unit {0}
IsSeen items (declaration.Function j) = are_values (params_of (slice_get items j)) ≡ true
IsSeen items d = ⊥

pub record IsNamed (items : List tree.Item) (n : List ℕ) (d : Declaration) : Type 0 where
  pub new : is_built_in n ≡ false
  pub seen : IsSeen items d

module _ (items : List tree.Item) where
  abbrev AreNamed : Scope → Type 0
  AreNamed scope = AllByRecursion (λ e. IsNamed items e.name e.is) scope

  params_named : (k : ℕ) (ps : List tree.Param) → AreNew (parameters_from k ps) → AreNamed (parameters_from k ps)
  params_named k [] new = tt
  params_named k (p ∷ ps) new = (record { new = new.0; seen = tt }, params_named (suc k) ps new.1)

  function_seen : (d : Declaration) → is_function d ≡ true → IsDeclared items d → IsSeen items d
  function_seen (declaration.Function j) is h = h
  function_seen d is h = absurd (false≢true is)

  functions_named : (scope : Scope) → AreNew scope → AreDeclared items scope → AreNamed (functions_of scope)
  functions_named [] new all = tt
  functions_named (e ∷ scope) new all = either (is_function e.is) refl (functions_named scope new.1 all.1)
    where
      either : (b : Bool) → is_function e.is ≡ b → AreNamed (functions_of scope) → AreNamed (cond b (e ∷ functions_of scope) (functions_of scope))
      either true is more = (record { new = new.0; seen = function_seen e.is is all.0 }, more)
      either false is more = more

  pub names_in : declared_twice items ≡ [] → (i : ℕ) → are_values (params_of (slice_get items i)) ≡ true → (n : List ℕ) (d : Declaration) → meaning (inside (top items) (params_of (slice_get items i))) n ≡ Some d → IsNamed items n d
  names_in once i values n d is =
      let ps = params_of (slice_get items i) in
      let functions = functions_named (top items) (top_new [] 0 items once) (top_declared items) in
      name_holds (IsNamed items) (inside (top items) ps)
      (all_append (λ e. IsNamed items e.name e.is) (parameters_from 0 ps) (if are_values ps then functions_of (top items) else top items)
      (params_named 0 ps (params_new [] 0 ps (params_once [] items once i))) (either (are_values ps) values functions)) n d is
    where
      either : (b : Bool) → b ≡ true → AreNamed (functions_of (top items)) → AreNamed (if b then functions_of (top items) else top items)
      either true h all = all
      either false h all = absurd (false≢true h)

-- one of the language's names stands for nothing
pub stands_for_nothing : (items : List tree.Item) (o : Option Declaration) (n : List ℕ) → is_built_in n ≡ true → ((d : Declaration) → o ≡ Some d → IsNamed items n d) → o ≡ None
stands_for_nothing items None n h named = refl
stands_for_nothing items (Some d) n h named = absurd (true≢false (sym h ∙ (named d refl).new))
