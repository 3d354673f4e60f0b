-- The value functions of a checked specification have typed bodies.
use Rattle.std.proofs.Common.{◌≡◌, ℕ, zero, suc, ◌+◌, ◌<◌, ◌≤◌, true, List, [], ◌∷◌, length, Option, Some, None, refl, sym, ap, subst, ◌∙◌, arith}
use Rattle.std.specs.Prelude.{slice_get}
use Rattle.std.specs.List.{Contains}
use Rattle.std.proofs.lemmas.Bool.{false≢true}
use Rattle.std.proofs.lemmas.Option.{same_Some, slice_get_within}
use Rattle.tsl_value.specs.declared.place.Place.{Place}
use Rattle.lift_func.specs.BodyTree.{BodyTree}
use Rattle.lift_func.specs.Typing.{ValueKind}
use Rattle.syntax_tree.specs.Tree as tree
use Rattle.syntax_tree.specs.Tree.{Expr, Exprs}
use Rattle.name_check.specs.declared.declaration.Declaration.TheVariants as declaration
use Rattle.name_check.specs.Parts.{Operand, parts}
use Rattle.name_check.specs.Scope.{top, inside, meaning, are_values}
use Rattle.expr_types.specs.Around.{Callee}
use Rattle.type_rules.specs.Kinds.{Kinds}
use Rattle.syntax_tree.specs.Tree.{params_of}
use Rattle.expr_types.specs.Bodies.{holds_aggregate}
use Rattle.expr_types.specs.Judge.{type_of}
use Rattle.definition_cycles.specs.Calls.{Calls}
use Rattle.spec_meaning.specs.Occurrence.{body_of}
use Rattle.spec_meaning.specs.Function.{function_tree, body_tree, tree_of}
use Rattle.checked_spec.specs.inner.Checked.{IsChecked}
use Rattle.checked_spec.specs.Laws.{IsFunctionBody}
use Rattle.checked_spec.proofs.BodyLaws.{function_bodies_are_typed}
use Rattle.checked_spec.specs.inner.Functions.{HasType, HaveTypes, callee, IsTypedFunction}
use Rattle.checked_spec.specs.inner.FunctionLaws.{FunctionsAreTyped}
use Rattle.checked_spec.proofs.FunctionFitting.{Fits}
use Rattle.checked_spec.proofs.Callees.{IsNoStream, callee_is, has_type, parameter_fits}
use Rattle.checked_spec.proofs.FunctionScopes.{names_in}
use Rattle.checked_spec.proofs.FunctionExpressions.{IsKnown, expr_fits}
use Rattle.checked_spec.proofs.Bodies.{few_params, scalar_result, no_aggregate_result, plain_item, values_here, body_no_stream}
use Rattle.checked_spec.proofs.Depth.{LeadsTo, nothing_leads, onward, fewer}

abbrev IsFunction : List tree.Item → ℕ → Type 0
IsFunction items i = are_values (params_of (slice_get items i)) ≡ true

function_below : (items : List tree.Item) (i : ℕ) → IsFunction items i → i < length items
function_below items i h = by (slice_get items i) refl h
  where
    by : (o : Option tree.Item) → slice_get items i ≡ o → are_values (params_of o) ≡ true → i < length items
    by (Some item) is h = slice_get_within items i item is
    by None is h = absurd (false≢true h)

module _ (items : List tree.Item) (kinds : Kinds) (checked : IsChecked items kinds) (bodies : (i : ℕ) → IsFunction items i → IsFunctionBody items kinds i) where
  -- a call in the expression of value function i
  calls_there : (i : ℕ) → IsFunction items i → (e : Expr) → body_of (slice_get items i) ≡ Some (tree.Plain e) → (p : Place) (n : List ℕ) (es : Exprs) (j : ℕ) → Contains (parts e) (Operand (tree.Call p n es)) → meaning (inside (top items) (params_of (slice_get items i))) n ≡ Some (declaration.Function j) → Calls items i j
  calls_there i values e body p n es j there is =
      let d = plain_item items i e body in
      record {
        place = d.place;
        definition = tree.Define d.at d.name (params_of (slice_get items i)) d.written (tree.Plain e);
        is_item = d.is;
        seen = record { scope = inside (top items) (params_of (slice_get items i)); expr = e };
        is_body = (0, omega arith, refl);
        part = Operand (tree.Call p n es);
        is_part = there;
        calls = refl;
        stands_for = is;
      }

  -- the tree of value function i has the type of what a call gives, where calls nest no deeper
  abbrev IsTypedTree : ℕ → ℕ → Type 0
  IsTypedTree deep i = (c : Callee) (ks : List ValueKind) (ts : List BodyTree) → callee items kinds i ≡ Some c → HaveTypes ks ts c.params → HasType ks (function_tree items deep i ts) c.result

  -- what the body is
  result_is : (i : ℕ) (b : IsFunctionBody items kinds i) (c : Callee) → callee items kinds i ≡ Some c → b.of ≡ c.result
  result_is i b c is = same_Some b.of c.result (sym b.kind_is ∙ (callee_is items kinds i c is).result)

  no_stream_result : (i : ℕ) → IsFunction items i → (c : Callee) → callee items kinds i ≡ Some c → IsNoStream c.result
  no_stream_result i values c is =
      let b = bodies i values in
      subst IsNoStream (result_is i b c is) (body_no_stream items kinds checked i b.expr b.of values b.plain b.typed.is)

  body_typed : (deep i : ℕ) → IsFunction items i → ((j : ℕ) → Calls items i j → IsFunction items j → IsTypedTree deep j) → IsTypedTree (suc deep) i
  body_typed deep i values calls c ks ts is have =
      let b = bodies i values in
      let ps = params_of (slice_get items i) in
      let known : IsKnown items kinds i ps ks ts (function_tree items deep) b.expr = record {
        formed = b.typed.formed;
        named = names_in items checked.names_once i values;
        params = parameter_fits ks ts ps c.params (callee_is items kinds i c is).types have;
        calls = λ p n es j there stands d us found these. calls j (calls_there i values b.expr b.plain p n es j there stands) (names_in items checked.names_once i values n (declaration.Function j) stands).seen d ks us found these;
      } in
      let judged = (λ k. type_of (record { items = items; kinds = kinds; scope = inside (top items) ps; setting = sym (values_here ps values) k; number = i; params = ps }) b.expr) ∙ b.typed.is in
      let fits = expr_fits items kinds i ps ks ts (function_tree items deep) b.expr known b.expr (λ part c. c) b.of judged in
      let whole : function_tree items (suc deep) i ts ≡ tree_of (inside (top items) ps) ts (function_tree items deep) b.expr = λ k. body_tree (inside (top items) (params_of (slice_get items i))) ts (function_tree items deep) (b.plain k) in
      has_type ks (function_tree items (suc deep) i ts) c.result (no_stream_result i values c is)
      (subst (Fits ks (function_tree items (suc deep) i ts)) (result_is i b c is) (subst (λ t. Fits ks t b.of) (sym whole) fits))

  typed : (deep : ℕ) (path : List ℕ) (i : ℕ) → IsFunction items i → LeadsTo (Calls items) (length items) path i → length items ≤ deep + length path → IsTypedTree deep i
  typed zero path i values leads long =
      let few : length path < length items = fewer (Calls items) checked.no_cycle (length items) path i (function_below items i values) leads in
      absurd (omega arith)
  typed (suc deep) path i values leads long =
      body_typed deep i values
      (λ j calls function. typed deep (i ∷ path) j function (onward (Calls items) checked.no_cycle (length items) path i (function_below items i values) leads j calls) (omega arith))

  function_typed : (i : ℕ) → IsFunction items i → IsTypedFunction items kinds i
  function_typed i values = record {
    few = few_params items checked.arities i values;
    result = λ c is. scalar_result c.result (no_stream_result i values c is) (ap holds_aggregate (sym (callee_is items kinds i c is).result) ∙ no_aggregate_result items kinds checked.scalar_results i values);
    body = λ c ks ts is have. typed (length items) [] i values (nothing_leads (Calls items) (length items) i) (omega arith) c ks ts is have;
  }

pub functions_are_typed : FunctionsAreTyped
functions_are_typed items kinds checked = record { each = λ i values. function_typed items kinds checked (λ j function. function_bodies_are_typed items kinds j checked function) i values }
