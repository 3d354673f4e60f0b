-- What names stand for in a value function, and which functions it calls.
use Rattle.std.proofs.Common.{◌≡◌, ℕ, suc, ◌+◌, ◌<◌, ◌≤◌, Bool, true, false, cond, if◌then◌else◌, List, [], ◌∷◌, ◌++◌, ◌||◌, ◌&&◌, length, Option, Some, None, refl, sym, ap, subst, ◌∙◌, arith}
use Rattle.std.specs.Prelude.{slice_get, slice_index_or}
use Rattle.std.specs.Option.{option_map, option_or}
use Rattle.std.specs.List.{AllByRecursion, Contains, find, list_any, list_all}
use Rattle.std.specs.Str.{bytes_eq}
use Rattle.std.proofs.lemmas.List.{get_or_default}
use Rattle.std.proofs.lemmas.Option.{slice_get_within}
use Rattle.std.proofs.lemmas.List.Elements.{recursion_from_All}
use Rattle.syntax_tree.specs.Tree as tree
use Rattle.syntax_tree.specs.Tree.{Expr}
use Rattle.name_check.specs.declared.declaration.Declaration.{Declaration}
use Rattle.name_check.specs.declared.declaration.Declaration.TheVariants as declaration
use Rattle.name_check.specs.Builtin.{lift_name}
use Rattle.name_check.specs.Scope.{Scope, Entry, meaning, is_events, is_function, are_values, declared_as, declared_from, functions_of, inside, parameters_from, top}
use Rattle.name_check.specs.Parts.{Part, Operand, parts}
use Rattle.name_check.proofs.AgreeLemmas.{meaning-append}
use Rattle.spec_meaning.specs.Occurrence.{body_of}
use Rattle.syntax_tree.specs.Tree.{params_of}
use Rattle.definition_cycles.specs.Mentions.{declared}
use Rattle.definition_cycles.specs.Calls.{is_call, Calls}
use Rattle.function_bodies.specs.inner.Calls.{IsFunction, ArePlain}
use Rattle.function_bodies.proofs.TreeLemmas.{MayCall, IsGoodPart, AreGood}

-- ---- what holds of all that is declared holds of what a name stands for
abbrev Holds : (Declaration → Type 0) → Scope → Type 0
Holds P scope = AllByRecursion (λ e. P e.is) scope

found_by : (P : Declaration → Type 0) (e : Entry) (scope : Scope) (n : List ℕ) (d : Declaration) (b : Bool) → P e.is → (meaning scope n ≡ Some d → P d) → option_map (λ (x : Entry). x.is) (cond b (Some e) (find (λ x. bytes_eq x.name n) scope)) ≡ Some d → P d
found_by P e scope n d true h f is = let it : e.is ≡ d = cc in subst P it h
found_by P e scope n d false h f is = f is

found_holds : (P : Declaration → Type 0) (scope : Scope) (n : List ℕ) (d : Declaration) → Holds P scope → meaning scope n ≡ Some d → P d
found_holds P [] n d h is = absurd (cc)
found_holds P (e ∷ scope) n d h is = found_by P e scope n d (bytes_eq e.name n) h.0 (found_holds P scope n d h.1) is

holds_in_both : (P : Declaration → Type 0) (a b : Scope) → Holds P a → Holds P b → Holds P (a ++ b)
holds_in_both P [] b h k = k
holds_in_both P (e ∷ a) b h k = (h.0, holds_in_both P a b h.1 k)

functions_by : (P : Declaration → Type 0) (e : Entry) (scope : Scope) (b : Bool) → is_function e.is ≡ b → (is_function e.is ≡ true → P e.is) → Holds P (functions_of scope) → Holds P (cond b (e ∷ functions_of scope) (functions_of scope))
functions_by P e scope true is h k = (h is, k)
functions_by P e scope false is h k = k

holds_of_functions : (P : Declaration → Type 0) (scope : Scope) → Holds (λ d. is_function d ≡ true → P d) scope → Holds P (functions_of scope)
holds_of_functions P [] h = tt
holds_of_functions P (e ∷ scope) h = functions_by P e scope (is_function e.is) refl h.0 (holds_of_functions P scope h.1)

-- ---- the declarations in a value function: its parameters, and value functions
pub record IsSeen (count : ℕ) (good : ℕ → Type 0) (d : Declaration) : Type 0 where
  pub parameter : (k : ℕ) → d ≡ declaration.Parameter k → k < count
  pub function : (j : ℕ) → d ≡ declaration.Function j → good j

parameters_seen : (good : ℕ → Type 0) (count k : ℕ) (ps : List tree.Param) → k + length ps ≤ count → Holds (IsSeen count good) (parameters_from k ps)
parameters_seen good count k [] h = tt
parameters_seen good count k (p ∷ ps) h = (
  record { parameter = λ m is. (let same : k ≡ m = cc in omega arith); function = λ j is. cc },
  parameters_seen good count (suc k) ps (omega arith),
)

-- a definition is declared as a value function where its parameters are values
none_is : {X : Type 0} (test : X → Bool) (xs : List X) → list_any test xs ≡ false → list_all (λ q. if test q then false else true) xs ≡ true
none_is test [] h = refl
none_is test (x ∷ xs) h = by (test x) h (none_is test xs)
  where
    by : (b : Bool) → (b || list_any test xs) ≡ false → (list_any test xs ≡ false → list_all (λ q. if test q then false else true) xs ≡ true) → ((if b then false else true) && list_all (λ q. if test q then false else true) xs) ≡ true
    by true h f = cc
    by false h f = f h

declared_function : (i j : ℕ) (ps : List tree.Param) → declared_as i ps ≡ declaration.Function j → (i ≡ j) × (are_values ps ≡ true)
declared_function i j [] h = cc
declared_function i j (p ∷ ps) h = by (list_all (λ q. is_events q.of) (p ∷ ps)) (list_any (λ q. is_events q.of) (p ∷ ps)) refl h
  where
    by : (a b : Bool) → list_any (λ q. is_events q.of) (p ∷ ps) ≡ b → (if a then declaration.Macro i else if b then declaration.Mixed i else declaration.Function i) ≡ declaration.Function j → (i ≡ j) × (are_values (p ∷ ps) ≡ true)
    by true b e h = cc
    by false true e h = cc
    by false false e h = (cc, none_is (λ q. is_events q.of) (p ∷ ps) e)

all_declared : (good : ℕ → Type 0) (i : ℕ) (items : List tree.Item) → ((k : ℕ) → are_values (params_of (slice_get items k)) ≡ true → good (i + k)) → Holds (λ d. (j : ℕ) → d ≡ declaration.Function j → good j) (declared_from i items)
all_declared good i [] h = tt
all_declared good i (tree.Input p q n y ∷ items) h = ((λ j is. cc), all_declared good (suc i) items (λ k v. subst good (omega arith) (h (suc k) v)))
all_declared good i (tree.Defined p (tree.Define q n ps w b) ∷ items) h = (
  (λ j is. (let both = declared_function i j ps is in subst good (omega (arith, both.0)) (h 0 both.1))),
  all_declared good (suc i) items (λ k v. subst good (omega arith) (h (suc k) v)),
)
all_declared good i (tree.Output p q n ∷ items) h = all_declared good (suc i) items (λ k v. subst good (omega arith) (h (suc k) v))
all_declared good i (tree.OutputAs p e q n ∷ items) h = all_declared good (suc i) items (λ k v. subst good (omega arith) (h (suc k) v))

-- ---- what is seen in value function i
functions_seen : (items : List tree.Item) (count : ℕ) → Holds (IsSeen count (IsFunction items)) (functions_of (top items))
functions_seen items count =
    holds_of_functions (IsSeen count (IsFunction items)) (top items)
    (all_seen (top items) (all_declared (IsFunction items) 0 items (λ k v. subst (IsFunction items) (omega arith) v)))
  where
    seen_by : (d : Declaration) → ((j : ℕ) → d ≡ declaration.Function j → IsFunction items j) → is_function d ≡ true → IsSeen count (IsFunction items) d
    seen_by (declaration.Parameter k) h is = cc
    seen_by d h is = record { parameter = λ k same. cc; function = h }

    all_seen : (scope : Scope) → Holds (λ d. (j : ℕ) → d ≡ declaration.Function j → IsFunction items j) scope → Holds (λ d. is_function d ≡ true → IsSeen count (IsFunction items) d) scope
    all_seen [] h = tt
    all_seen (e ∷ scope) h = (seen_by e.is h.0, all_seen scope h.1)

-- the names in a value function with these parameters
abbrev pub within_function : List tree.Item → List tree.Param → Scope
within_function items ps = parameters_from 0 ps ++ functions_of (top items)

pub scope_same : (items : List tree.Item) (ps : List tree.Param) → are_values ps ≡ true → inside (top items) ps ≡ within_function items ps
scope_same items ps h = ap (λ b. parameters_from 0 ps ++ (if b then functions_of (top items) else top items)) h

pub seen_in_function : (items : List tree.Item) (ps : List tree.Param) (n : List ℕ) (d : Declaration) → meaning (within_function items ps) n ≡ Some d → IsSeen (length ps) (IsFunction items) d
seen_in_function items ps n d is =
    let P : Declaration → Type 0 = IsSeen (length ps) (IsFunction items) in
    found_holds P (within_function items ps) n d
    (holds_in_both P (parameters_from 0 ps) (functions_of (top items)) (parameters_seen (IsFunction items) (length ps) 0 ps (omega arith)) (functions_seen items (length ps)))
    is

no_function_parameter : (ps : List tree.Param) (n : List ℕ) (j : ℕ) → meaning (parameters_from 0 ps) n ≡ Some (declaration.Function j) → ⊥
no_function_parameter ps n j is =
    let seen : IsSeen (length ps) (λ j. ⊥) (declaration.Function j) = found_holds (IsSeen (length ps) (λ j. ⊥)) (parameters_from 0 ps) n (declaration.Function j) (parameters_seen (λ j. ⊥) (length ps) 0 ps (omega arith)) is in
    seen.function j refl

pub no_lift_within : (items : List tree.Item) (ps : List tree.Param) → ArePlain items → (j : ℕ) → meaning (within_function items ps) lift_name ≡ Some (declaration.Function j) → ⊥
no_lift_within items ps plain j is =
    by (meaning (parameters_from 0 ps) lift_name) refl (sym (meaning-append (parameters_from 0 ps) (functions_of (top items)) lift_name) ∙ is)
  where
    by : (m : Option Declaration) → meaning (parameters_from 0 ps) lift_name ≡ m → option_or m (meaning (functions_of (top items)) lift_name) ≡ Some (declaration.Function j) → ⊥
    by None e is = plain.no_lift j is
    by (Some d) e is = no_function_parameter ps lift_name j (e ∙ is)

-- ---- what stands in the expression of a value function is called by it
abbrev Standing : List tree.Item → ℕ → Expr → Type 0
Standing items i e = body_of (slice_get items i) ≡ Some (tree.Plain e)

pub function_below : (items : List tree.Item) (j : ℕ) → IsFunction items j → j < length items
function_below items j h = by (slice_get items j) refl h
  where
    by : (m : Option tree.Item) → slice_get items j ≡ m → are_values (params_of m) ≡ true → j < length items
    by None is h = cc
    by (Some x) is h = slice_get_within items j x is

calls_by : (items : List tree.Item) (i j : ℕ) (e : Expr) (m : Option tree.Item) → slice_get items i ≡ m → body_of m ≡ Some (tree.Plain e) → (part : Part) → Contains (parts e) part → is_call part ≡ true → declared (inside (top items) (params_of m)) part ≡ Some (declaration.Function j) → Calls items i j
calls_by items i j e (Some (tree.Defined p (tree.Define q n ps w (tree.Plain f)))) is body part is_part calls stands =
    let same : f ≡ e = cc in
    record {
      place = p;
      definition = tree.Define q n ps w (tree.Plain f);
      is_item = is;
      seen = record { scope = inside (top items) ps; expr = f };
      is_body = (0, omega arith, refl);
      part = part;
      is_part = (let P : Expr → Type 0 = λ x. Contains (parts x) part in subst P (sym same) is_part);
      calls = calls;
      stands_for = stands;
    }
calls_by items i j e (Some (tree.Defined p (tree.Define q n ps w (tree.Block ds f)))) is body part is_part calls stands = cc
calls_by items i j e m is body part is_part calls stands = cc

calls_in : (items : List tree.Item) (i j : ℕ) (e : Expr) → IsFunction items i → Standing items i e → (part : Part) → Contains (parts e) part → is_call part ≡ true → declared (within_function items (params_of (slice_get items i))) part ≡ Some (declaration.Function j) → Calls items i j
calls_in items i j e function body part is_part calls stands =
    calls_by items i j e (slice_get items i) refl body part is_part calls
    (ap (λ s. declared s part) (scope_same items (params_of (slice_get items i)) function) ∙ stands)

may_call : (scope : Scope) (good : ℕ → Type 0) (n : List ℕ) (d : Option Declaration) → meaning scope n ≡ d → ((j : ℕ) → meaning scope n ≡ Some (declaration.Function j) → good j) → MayCall d good
may_call scope good n (Some (declaration.Function j)) is h = h j is
may_call scope good n d is h = tt

good_part : (items : List tree.Item) (i : ℕ) (e : Expr) → IsFunction items i → Standing items i e → (good : ℕ → Type 0) → ((j : ℕ) → Calls items i j → IsFunction items j → good j) → (part : Part) → Contains (parts e) part → IsGoodPart (within_function items (params_of (slice_get items i))) good part
good_part items i e function body good h (Operand (tree.Call p n es)) is_part =
    let scope = within_function items (params_of (slice_get items i)) in
    may_call scope good n (meaning scope n) refl
    (λ j stands. h j (calls_in items i j e function body (Operand (tree.Call p n es)) is_part refl stands)
    ((seen_in_function items (params_of (slice_get items i)) n (declaration.Function j) stands).function j refl))
good_part items i e function body good h part is_part = tt

pub good_parts : (items : List tree.Item) (i : ℕ) (e : Expr) → IsFunction items i → Standing items i e → (good : ℕ → Type 0) → ((j : ℕ) → Calls items i j → IsFunction items j → good j) → AreGood (within_function items (params_of (slice_get items i))) good (parts e)
good_parts items i e function body good h =
    recursion_from_All (IsGoodPart (within_function items (params_of (slice_get items i))) good) (parts e)
    (λ k d lt. good_part items i e function body good h (slice_index_or (parts e) k d) (k, lt, get_or_default (parts e) k _ d lt))
