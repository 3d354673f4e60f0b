-- What a checked specification has of its value functions: how many parameters, what results, and bodies of which types.
use Rattle.std.proofs.Common.{◌≡◌, ℕ, zero, suc, ◌+◌, ◌≤◌, Bool, true, false, ◌&&◌, ltb, List, [], ◌∷◌, length, Option, Some, None, refl, ap, sym, ◌∙◌, arith}
use Rattle.std.specs.Prelude.{Ok, if◌then◌else◌, slice_get}
use Rattle.std.specs.List.{flat_map}
use Rattle.std.proofs.lemmas.Bool.{true≢false, false≢true, ltb-false}
use Rattle.std.proofs.lemmas.Option.{same_Some, none-some}
use Rattle.tsl_value.specs.declared.place.Place.{Place}
use Rattle.tsl_value.specs.declared.scalar.ValueType.TheVariants as value_type
use Rattle.syntax_tree.specs.Tree as tree
use Rattle.syntax_tree.specs.Tree.{Expr, TypeName}
use Rattle.name_check.specs.Bodies.{item_bodies}
use Rattle.name_check.specs.Scope.{top, are_values}
use Rattle.type_rules.specs.declared.rule.ExprType.{ExprType}
use Rattle.type_rules.specs.declared.rule.ExprType.TheVariants as expr_type
use Rattle.type_rules.specs.declared.rule.Setting.TheVariants as setting
use Rattle.type_rules.specs.Rules.{value_asked, body_asked, body_rule}
use Rattle.form_check.specs.Arity.{too_many_in_item, wrong_in, wrong_in_item, wrong_arities}
use Rattle.expr_types.specs.Around.{Around}
use Rattle.type_rules.specs.Kinds.{Kinds}
use Rattle.syntax_tree.specs.Tree.{params_of}
use Rattle.expr_types.specs.Judge.{type_of, wrongs}
use Rattle.expr_types.specs.Bodies.{setting_of, in_definition, may_have_braces, written_of, asked_of, expr_wrongs, body_wrongs, holds_aggregate, aggregate_results_from}
use Rattle.spec_meaning.specs.Occurrence.{body_of}
use Rattle.checked_spec.specs.inner.Checked.{IsChecked}
use Rattle.tsl_value.proofs.Lists.{append_empty, contains_at}
use Rattle.checked_spec.proofs.ListLemmas.{flat_empty}
use Rattle.checked_spec.proofs.SoundLemmas.{wrongs_at}
use Rattle.checked_spec.proofs.SameLemmas.{without_written}
use Rattle.checked_spec.proofs.KindLemmas.{allowed_body}
use Rattle.checked_spec.specs.inner.Functions.{IsScalarResult}
use Rattle.checked_spec.proofs.Callees.{IsNoStream}

-- ---- at most eight parameters
few_here : (item : tree.Item) → too_many_in_item item ≡ [] → are_values (params_of (Some item)) ≡ true → length (params_of (Some item)) ≤ 8
few_here (tree.Input p q n y) h values = absurd (false≢true values)
few_here (tree.Defined p (tree.Define q n ps w b)) h values = by (are_values ps) (ltb 8 (length ps)) refl h values
  where
    by : (v x : Bool) → ltb 8 (length ps) ≡ x → (if v && x then q ∷ [] else []) ≡ [] → v ≡ true → length ps ≤ 8
    by true true is h values = (cc)
    by true false is h values = ltb-false 8 (length ps) is
    by false x is h values = absurd (false≢true values)
few_here (tree.Output p q n) h values = absurd (false≢true values)
few_here (tree.OutputAs p e q n) h values = absurd (false≢true values)

pub few_params : (items : List tree.Item) → wrong_arities items ≡ [] → (i : ℕ) → are_values (params_of (slice_get items i)) ≡ true → length (params_of (slice_get items i)) ≤ 8
few_params items h i values = by (slice_get items i) refl values
  where
    by : (o : Option tree.Item) → slice_get items i ≡ o → are_values (params_of o) ≡ true → length (params_of o) ≤ 8
    by (Some item) is values =
        let wrong = flat_empty (wrong_in_item items (top items)) items h item (contains_at items i item is) in
        few_here item (append_empty (too_many_in_item item) (flat_map (wrong_in items) (item_bodies (top items) item)) wrong).0 values
    by None is values = absurd (false≢true values)

-- ---- scalar results
further : (kinds : Kinds) (k i : ℕ) → holds_aggregate (kinds.item (suc k + i)) ≡ false → holds_aggregate (kinds.item (k + suc i)) ≡ false
further kinds k i h = let e : k + suc i ≡ suc k + i = omega arith in ap (λ m. holds_aggregate (kinds.item m)) e ∙ h

no_aggregate : (kinds : Kinds) (k : ℕ) (items : List tree.Item) → aggregate_results_from kinds k items ≡ [] → (i : ℕ) → are_values (params_of (slice_get items i)) ≡ true → holds_aggregate (kinds.item (k + i)) ≡ false
no_aggregate kinds k [] h i values = absurd (false≢true values)
no_aggregate kinds k (tree.Input p q n y ∷ items) h zero values = absurd (false≢true values)
no_aggregate kinds k (tree.Input p q n y ∷ items) h (suc i) values = further kinds k i (no_aggregate kinds (suc k) items h i values)
no_aggregate kinds k (tree.Defined p (tree.Define q n ps w b) ∷ items) h zero values =
    let both = append_empty (if are_values ps && holds_aggregate (kinds.item k) then q ∷ [] else []) (aggregate_results_from kinds (suc k) items) h in
    let e : k + 0 ≡ k = omega arith in
    ap (λ m. holds_aggregate (kinds.item m)) e ∙ by (are_values ps) (holds_aggregate (kinds.item k)) both.0 values
  where
    by : (v x : Bool) → (if v && x then q ∷ [] else []) ≡ [] → v ≡ true → x ≡ false
    by true true h values = (cc)
    by true false h values = refl
    by false x h values = absurd (false≢true values)
no_aggregate kinds k (tree.Defined p (tree.Define q n ps w b) ∷ items) h (suc i) values =
    further kinds k i
    (no_aggregate kinds (suc k) items (append_empty (if are_values ps && holds_aggregate (kinds.item k) then q ∷ [] else []) (aggregate_results_from kinds (suc k) items) h).1 i values)
no_aggregate kinds k (tree.Output p q n ∷ items) h zero values = absurd (false≢true values)
no_aggregate kinds k (tree.Output p q n ∷ items) h (suc i) values = further kinds k i (no_aggregate kinds (suc k) items h i values)
no_aggregate kinds k (tree.OutputAs p e q n ∷ items) h zero values = absurd (false≢true values)
no_aggregate kinds k (tree.OutputAs p e q n ∷ items) h (suc i) values = further kinds k i (no_aggregate kinds (suc k) items h i values)

pub scalar_result : (t : ExprType) → IsNoStream t → holds_aggregate (Some t) ≡ false → IsScalarResult t
scalar_result (expr_type.Value (value_type.Scalar s)) none h = tt
scalar_result (expr_type.Value of) none h = absurd (true≢false h)
scalar_result (expr_type.Optional (value_type.Scalar s)) none h = tt
scalar_result (expr_type.Optional of) none h = absurd (true≢false h)
scalar_result (expr_type.Stream v) none h = absurd none

pub no_aggregate_result : (items : List tree.Item) (kinds : Kinds) → aggregate_results_from kinds 0 items ≡ [] → (i : ℕ) → are_values (params_of (slice_get items i)) ≡ true → holds_aggregate (kinds.item i) ≡ false
no_aggregate_result items kinds h i values =
    let e : i ≡ 0 + i = omega arith in
    ap (λ m. holds_aggregate (kinds.item m)) e ∙ no_aggregate kinds 0 items h i values

-- ---- a body is no stream
-- without braces
plain_wrongs_none : (at : Around) (braces : Bool) (written : Option ExprType) (e : Expr) → body_wrongs at braces written (tree.Plain e) ≡ [] → expr_wrongs at written e ≡ []
plain_wrongs_none at true written e h = h
plain_wrongs_none at false written e h = h

no_stream_asked : (t : ExprType) → value_asked t ≡ Ok tt → IsNoStream t
no_stream_asked (expr_type.Value v) h = tt
no_stream_asked (expr_type.Optional v) h = tt
no_stream_asked (expr_type.Stream v) h = (cc)

-- the definition of a value function
pub record IsPlainItem (items : List tree.Item) (i : ℕ) (e : Expr) : Type 0 where
  pub place : Place
  pub at : Place
  pub name : List ℕ
  pub written : Option TypeName
  pub is : slice_get items i ≡ Some (tree.Defined place (tree.Define at name (params_of (slice_get items i)) written (tree.Plain e)))

pub plain_item : (items : List tree.Item) (i : ℕ) (e : Expr) → body_of (slice_get items i) ≡ Some (tree.Plain e) → IsPlainItem items i e
plain_item items i e h = by (slice_get items i) refl h
  where
    by : (o : Option tree.Item) → slice_get items i ≡ o → body_of o ≡ Some (tree.Plain e) → IsPlainItem items i e
    by (Some (tree.Defined p (tree.Define q n ps w b))) is h =
        record { place = p; at = q; name = n; written = w; is = is ∙ (λ k. Some (tree.Defined p (tree.Define q n (params_of (sym is k)) w (same_Some b (tree.Plain e) h k)))) }
    by (Some (tree.Input p q n y)) is h = absurd (none-some (tree.Plain e) h)
    by (Some (tree.Output p q n)) is h = absurd (none-some (tree.Plain e) h)
    by (Some (tree.OutputAs p f q n)) is h = absurd (none-some (tree.Plain e) h)
    by None is h = absurd (none-some (tree.Plain e) h)

pub values_here : (ps : List tree.Param) → are_values ps ≡ true → setting_of ps ≡ setting.Values
values_here ps h = ap (λ b. if b then setting.Values else setting.Streams) h

-- a value is asked of its expression
pub body_no_stream : (items : List tree.Item) (kinds : Kinds) → IsChecked items kinds → (i : ℕ) (e : Expr) (t : ExprType) → are_values (params_of (slice_get items i)) ≡ true → body_of (slice_get items i) ≡ Some (tree.Plain e) → type_of (in_definition items kinds i (params_of (slice_get items i))) e ≡ Some t → IsNoStream t
body_no_stream items kinds checked i e t values body is =
    let d = plain_item items i e body in
    let ps = params_of (slice_get items i) in
    let at = in_definition items kinds i ps in
    let written = written_of ps d.written in
    let right = wrongs_at items kinds checked i (tree.Defined d.place (tree.Define d.at d.name ps d.written (tree.Plain e))) d.is in
    let asked = (append_empty (wrongs at e) (asked_of at written e (type_of at e)) (plain_wrongs_none at (may_have_braces ps) written e right)).1 in
    let allowed = allowed_body e (body_rule at.setting written t) (ap (asked_of at written e) (sym is) ∙ asked) in
    no_stream_asked t (ap (λ s. body_asked s t) (sym (values_here ps values)) ∙ without_written at.setting written t allowed)
