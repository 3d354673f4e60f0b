-- The bodies of value functions have the texts of the source alone.
use Rattle.std.proofs.Common.{◌≡◌, ℕ, zero, suc, length, Bool, true, false, cond, if◌then◌else◌, List, [], ◌∷◌, ◌++◌, Option, Some, None, refl, ap, sym, subst, ◌∙◌}
use Rattle.std.specs.Prelude.{slice_get, slice_index_or}
use Rattle.std.specs.List.{AllByRecursion, find}
use Rattle.std.specs.Option.{option_map, option_map_or}
use Rattle.std.specs.Str.{bytes_eq}
use Rattle.std.proofs.lemmas.Bool.{true≢false}
use Rattle.std.proofs.lemmas.Option.{same_Some}
use Rattle.std.proofs.lemmas.Slice.Eq.{bytes_eq-Decides}
use Rattle.tsl_value.specs.declared.scalar.ValueType.{ValueType}
use Rattle.lift_func.specs.BodyTree.{BodyTree, Two}
use Rattle.flat_core.specs.Complete.{HasShortTexts}
use Rattle.syntax_tree.specs.Tree as tree
use Rattle.syntax_tree.specs.Tree.{Expr, Exprs, no_exprs, more_exprs, Links, no_links, more_links}
use Rattle.vocabulary.specs.declared.signature.Role.{Role}
use Rattle.vocabulary.specs.declared.signature.Role.TheVariants as role
use Rattle.vocabulary.specs.Table.{role_of}
use Rattle.vocabulary.specs.PlainTable.{plain_role, entries, look_up}
use Rattle.name_check.specs.declared.declaration.Declaration.{Declaration}
use Rattle.name_check.specs.declared.declaration.Declaration.TheVariants as declaration
use Rattle.name_check.specs.Builtin.{is_lift, lift_name}
use Rattle.name_check.specs.Scope.{Entry, Scope, meaning, parameters_from, are_values, is_function, functions_of, inside, top}
use Rattle.type_rules.specs.Written.{value_of}
use Rattle.spec_meaning.specs.Occurrence.{body_of, result_of}
use Rattle.syntax_tree.specs.Tree.{params_of}
use Rattle.spec_meaning.specs.Function.{operation_of, option_tree, role_tree, absent, no_tree, named_tree, call_tree, tree_of, trees_of, chain_tree, body_tree, function_tree, function_at, arguments_from, function_body}
use Rattle.flat_meaning.proofs.ShortTexts.{ShortExpr, ShortExprs, ShortLinks, AreBodiesShort, result_short}

pub lift_is : (n : List ℕ) → is_lift n ≡ true → n ≡ lift_name
unfolding is_lift
lift_is n h = (bytes_eq-Decides n lift_name).0 h

-- ---- where `lift` is no value function
no_parameter : (k : ℕ) (ps : List tree.Param) (scope : Scope) (n : List ℕ) (j : ℕ) → meaning (parameters_from k ps ++ scope) n ≡ Some (declaration.Function j) → meaning scope n ≡ Some (declaration.Function j)
no_parameter k [] scope n j is = is
no_parameter k (p ∷ ps) scope n j is = either (bytes_eq p.name n) (λ h. no_parameter (suc k) ps scope n j h) is
  where
    either : (b : Bool) → (meaning (parameters_from (suc k) ps ++ scope) n ≡ Some (declaration.Function j) → meaning scope n ≡ Some (declaration.Function j)) → option_map (λ (e : Entry). e.is) (cond b (Some (record { name = p.name; is = declaration.Parameter k })) (find (λ e. bytes_eq e.name n) (parameters_from (suc k) ps ++ scope))) ≡ Some (declaration.Function j) → meaning scope n ≡ Some (declaration.Function j)
    either true more h = cc
    either false more h = more h

-- a value function of a scope is one of its value functions
among_functions : (scope : Scope) (n : List ℕ) (j : ℕ) → meaning scope n ≡ Some (declaration.Function j) → (k : ℕ) × (meaning (functions_of scope) n ≡ Some (declaration.Function k))
among_functions [] n j is = cc
among_functions (e ∷ scope) n j is = either (λ h. among_functions scope n j h) (is_function e.is) refl (bytes_eq e.name n) refl is
  where
    either : (meaning scope n ≡ Some (declaration.Function j) → (k : ℕ) × (meaning (functions_of scope) n ≡ Some (declaration.Function k))) → (f : Bool) → is_function e.is ≡ f → (b : Bool) → bytes_eq e.name n ≡ b → option_map (λ (x : Entry). x.is) (cond b (Some e) (find (λ x. bytes_eq x.name n) scope)) ≡ Some (declaration.Function j) → (k : ℕ) × (option_map (λ (x : Entry). x.is) (find (λ x. bytes_eq x.name n) (cond f (e ∷ functions_of scope) (functions_of scope))) ≡ Some (declaration.Function k))
    either more true g true same h = (j, (λ i. option_map (λ (x : Entry). x.is) (cond (same i) (Some e) (find (λ x. bytes_eq x.name n) (functions_of scope)))) ∙ h)
    either more true g false same h =
        let found = more h in
        (found.0, (λ i. option_map (λ (x : Entry). x.is) (cond (same i) (Some e) (find (λ x. bytes_eq x.name n) (functions_of scope)))) ∙ found.1)
    either more false g true same h = absurd (true≢false (sym (ap is_function (same_Some e.is (declaration.Function j) h)) ∙ g))
    either more false g false same h = more h

-- `lift` is no value function there
pub record HasNoLift (scope : Scope) : Type 0 where
  pub none : (j : ℕ) → meaning scope lift_name ≡ Some (declaration.Function j) → ⊥

-- nor is it in a definition
inside_none : (scope : Scope) (ps : List tree.Param) → HasNoLift (functions_of scope) → HasNoLift (inside scope ps)
inside_none scope ps h = record { none = λ j is. either (are_values ps) j (no_parameter 0 ps (if are_values ps then functions_of scope else scope) lift_name j is) }
  where
    either : (b : Bool) (j : ℕ) → meaning (if b then functions_of scope else scope) lift_name ≡ Some (declaration.Function j) → ⊥
    either true j is = h.none j is
    either false j is = let found = among_functions scope lift_name j is in h.none found.0 found.1

-- ---- trees of expressions
abbrev pub AreShortTrees : List BodyTree → Type 0
AreShortTrees ts = AllByRecursion HasShortTexts ts

arguments_short : {A : Type 0} (k : ℕ) (xs : List A) → AreShortTrees (arguments_from k xs)
arguments_short k [] = tt
arguments_short k (x ∷ xs) = (tt, arguments_short (suc k) xs)

at_short : (ts : List BodyTree) (k : ℕ) → AreShortTrees ts → HasShortTexts (slice_index_or ts k no_tree)
at_short [] k h = tt
at_short (t ∷ ts) zero h = h.0
at_short (t ∷ ts) (suc k) h = at_short ts k h.1

absent_short : (of : Option ValueType) → HasShortTexts (absent of)
absent_short None = tt
absent_short (Some t) = tt

pub role_short : (r : Role) (ts : List BodyTree) → AreShortTrees ts → HasShortTexts (role_tree r ts)
role_short (role.Unary o) (a ∷ []) h = h.0
role_short (role.Binary o) (a ∷ b ∷ []) h = (h.0, h.1.0)
role_short r ts h = tt

option_short : (n : List ℕ) (a : BodyTree) → HasShortTexts a → HasShortTexts (option_tree n a)
option_short n a h = by (look_up (entries plain_role) n)
  where
    by : (o : Option Role) → HasShortTexts (option_map_or (λ r. role_tree r (a ∷ [])) o no_tree)
    by None = tt
    by (Some r) = role_short r (a ∷ []) (h, tt)

-- where value functions have short texts
module _ (scope : Scope) (args : List BodyTree) (call : ℕ → List BodyTree → BodyTree) (no_lift : HasNoLift scope) (args_short : AreShortTrees args) (call_short : (i : ℕ) (ts : List BodyTree) → AreShortTrees ts → HasShortTexts (call i ts)) where
  named_short : (d : Option Declaration) → HasShortTexts (named_tree scope args call d)
  named_short (Some (declaration.Parameter k)) = at_short args k args_short
  named_short d = tt

  called_short : (d : Option Declaration) (n : List ℕ) (ts : List BodyTree) → AreShortTrees ts → HasShortTexts (call_tree scope args call d n ts)
  called_short (Some (declaration.Function i)) n ts h = call_short i ts h
  called_short None n (a ∷ []) h = option_short n a h.0
  called_short d n ts h = tt

  -- a `lift` in a value function is none
  lifted_short : (d : Option Declaration) (ts : List BodyTree) → ((j : ℕ) → d ≡ Some (declaration.Function j) → ⊥) → HasShortTexts (call_tree scope args call d lift_name ts)
  lifted_short (Some (declaration.Function i)) ts none = absurd (none i refl)
  lifted_short None (a ∷ []) none = tt
  lifted_short d ts none = tt

  by_name : (n : List ℕ) (ts : List BodyTree) → (is_lift n ≡ false → AreShortTrees ts) → HasShortTexts (call_tree scope args call (meaning scope n) n ts)
  by_name n ts h = either (is_lift n) refl
    where
      either : (b : Bool) → is_lift n ≡ b → HasShortTexts (call_tree scope args call (meaning scope n) n ts)
      either true is = subst (λ m. HasShortTexts (call_tree scope args call (meaning scope m) m ts)) (sym (lift_is n is)) (lifted_short (meaning scope lift_name) ts no_lift.none)
      either false is = called_short (meaning scope n) n ts (h is)

  mutual
    tree_short : (e : Expr) → ShortExpr e → HasShortTexts (tree_of scope args call e)
    tree_short (tree.If p c a b) h = (tree_short c h.0, tree_short a h.1, tree_short b h.2)
    tree_short (tree.Chain p l e ls) h = chain_short (tree_of scope args call e) ls (tree_short e h.0) h.1
    tree_short (tree.Compare p o a b) h = (tree_short a h.0, tree_short b h.1)
    tree_short (tree.Negate p e) h = tree_short e h
    tree_short (tree.Not p e) h = tree_short e h
    tree_short (tree.Text p t) h = h
    tree_short (tree.Name p n) h = named_short (meaning scope n)
    tree_short (tree.Call p n es) h = by_name n (trees_of scope args call es) (λ other. trees_short es (h.1 other))
    tree_short (tree.CallDotted p d es) h = role_short (role_of d) (trees_of scope args call es) (trees_short es h)
    tree_short (tree.None p y) h = absent_short (value_of y)
    tree_short e h = tt

    trees_short : (es : Exprs) → ShortExprs es → AreShortTrees (trees_of scope args call es)
    trees_short no_exprs h = tt
    trees_short (more_exprs e es) h = (tree_short e h.0, trees_short es h.1)

    chain_short : (t : BodyTree) (ls : Links) → HasShortTexts t → ShortLinks ls → HasShortTexts (chain_tree scope args call t ls)
    chain_short t no_links here h = here
    chain_short t (more_links o e ls) here h = chain_short (Two (operation_of o) t (tree_of scope args call e)) ls (here, tree_short e h.0) h.1

-- ---- value functions
module _ (items : List tree.Item) (bodies : AreBodiesShort items) (no_lift : HasNoLift (functions_of (top items))) where
  function_short : (deep i : ℕ) (args : List BodyTree) → AreShortTrees args → HasShortTexts (function_tree items deep i args)
  function_short zero i args h = tt
  function_short (suc deep) i args h =
      at_body (function_tree items deep) (λ j ts short. function_short deep j ts short) (body_of (slice_get items i)) refl
    where
      scope : Scope
      scope = inside (top items) (params_of (slice_get items i))

      at_body : (call : ℕ → List BodyTree → BodyTree) → ((j : ℕ) (ts : List BodyTree) → AreShortTrees ts → HasShortTexts (call j ts)) → (b : Option tree.Body) → body_of (slice_get items i) ≡ b → HasShortTexts (body_tree scope args call b)
      at_body call short None is = tt
      at_body call short (Some b) is =
          tree_short scope args call (inside_none (top items) (params_of (slice_get items i)) no_lift) h short
          (result_of b) (result_short b (bodies.body i b is))

  pub call_short : (i : ℕ) (operands : List BodyTree) → AreShortTrees operands → HasShortTexts (function_at items i operands)
  call_short i operands h = function_short (length items) i operands h

  pub body_short : (i : ℕ) → HasShortTexts (function_body items i)
  body_short i = call_short i (arguments_from 0 (params_of (slice_get items i))) (arguments_short 0 (params_of (slice_get items i)))
