-- Names, and what stands inside of a call of a macro.
use Rattle.std.proofs.Common.{◌≡◌, ℕ, zero, suc, true, false, not, ◌&&◌, List, [], ◌∷◌, length, Option, Some, None, refl, ap, sym, subst, ◌∙◌, arith}
use Rattle.std.specs.Prelude.{Ok, slice_get, if◌then◌else◌}
use Rattle.std.specs.List.{list_all}
use Rattle.std.specs.Option.{option_map, option_and_then}
use Rattle.std.proofs.lemmas.Bool.{false≢true, and_parts}
use Rattle.std.proofs.lemmas.Option.{same_Some, none-some}
use Rattle.tsl_value.specs.declared.place.Place.{Place}
use Rattle.tsl_value.specs.declared.scalar.ValueType.{ValueType}
use Rattle.syntax_tree.specs.Tree as tree
use Rattle.syntax_tree.specs.Tree.{Expr, Exprs, no_exprs, more_exprs, Param}
use Rattle.name_check.specs.declared.declaration.Declaration.{Declaration}
use Rattle.name_check.specs.declared.declaration.Declaration.TheVariants as declaration
use Rattle.name_check.specs.Builtin.{is_unit, is_called}
use Rattle.name_check.specs.Scope as scope
use Rattle.name_check.specs.Scope.{Scope, meaning, is_events, are_values, in_block}
use Rattle.type_rules.specs.declared.rule.ExprType.{ExprType}
use Rattle.type_rules.specs.declared.rule.ExprType.TheVariants as expr_type
use Rattle.type_rules.specs.declared.rule.Setting.TheVariants as setting
use Rattle.type_rules.specs.declared.rule.Asked.TheVariants as asked
use Rattle.type_rules.specs.Asked.{ask, unit}
use Rattle.type_rules.specs.Rules.{ask_each, macro_rule}
use Rattle.type_rules.specs.Written.{as_written}
use Rattle.form_check.specs.Arity.{count, call_fits, declared_takes}
use Rattle.expr_types.specs.Around.{Around, Callee, param_types, declared_type, callee_at}
use Rattle.syntax_tree.specs.Tree.{params_of}
use Rattle.expr_types.specs.Judge.{type_of, types_of, of_verdict, is_just, call_rule}
use Rattle.expr_types.specs.Bodies.{in_definition, within_block, setting_of, may_have_braces}
use Rattle.stream_constructs.specs.declared.construct.Stream.{Stream}
use Rattle.spec_meaning.specs.Occurrence.{body_of, block_of}
use Rattle.spec_meaning.specs.Shape.{expressions}
use Rattle.spec_meaning.specs.Makes.{Standing, Stands, inside_call, AreLocals}
use Rattle.spec_meaning.specs.Makes as makes
use Rattle.checked_spec.specs.inner.Formed.{IsDeclared}
use Rattle.checked_spec.specs.inner.Functions.{callee}
use Rattle.checked_spec.specs.inner.Matches.{Matches, IsTypedAt, HaveTheirTypes}
use Rattle.checked_spec.specs.inner.FlatLaws.{IsTypedCall}
use Rattle.checked_spec.proofs.SameLemmas.{exactly}
use Rattle.checked_spec.proofs.FunctionAsks.{checked, same_Ok}
use Rattle.checked_spec.proofs.FunctionRead.{cons_is, verdict_is}
use Rattle.checked_spec.proofs.Read.{AreTyped, types_are}
use Rattle.checked_spec.proofs.Callees.{callee_is}
use Rattle.checked_spec.proofs.Scopes.{meaning_declared}
use Rattle.checked_spec.proofs.Calls.{declared_name, declared_fits, declared_judged, declared_count}

-- ---- names
pub name_typed : (items : List tree.Item) (top : ℕ → Stream) (at : Around) (st : Standing) (p : Place) (x : List ℕ) (d : Declaration) (s : Stream) → Matches items top at st → is_unit x ≡ false → meaning at.scope x ≡ Some d → Stands items top st d s → type_of at (tree.Name p x) ≡ Some (expr_type.Stream s.of)
name_typed items top at st p x d s m other is stands =
    let right = meaning_declared items st.calls x d (ap (λ sc. meaning sc x) (sym m.scope_is) ∙ is) in
    (λ i. of_verdict (if other i then Some (Ok (expr_type.Stream unit)) else is_just (option_and_then (declared_type at) (is i))))
    ∙ ap (λ o. of_verdict (is_just o)) (m.types d s right stands)

-- ---- parameters that are all streams
no_values : (ps : List Param) → may_have_braces ps ≡ true → are_values ps ≡ false
no_values [] h = absurd (false≢true h)
no_values (p ∷ ps) h =
    let first = and_parts (is_events p.of) (list_all (λ q. is_events q.of) ps) h in
    λ i. (if first.0 i then false else true) && list_all (λ q. if is_events q.of then false else true) ps

streams_there : (ps : List Param) → may_have_braces ps ≡ true → setting_of ps ≡ setting.Streams
streams_there ps h = ap (λ b. if b then setting.Values else setting.Streams) (no_values ps h)

-- each parameter is written as what its argument is
written : (at : Around) (ps : List Param) (types args : List ExprType) (es : List Expr) (params : List Stream) → param_types ps ≡ Some types → ask_each types args ≡ Ok tt → length es ≡ length ps → AreTyped at es args → HaveTheirTypes at es params → (k : ℕ) (s : Stream) → slice_get params k ≡ Some s → option_and_then (λ p. as_written p.of) (slice_get ps k) ≡ Some (expr_type.Stream s.of)
written at ps types args [] [] are fits long typed have k s is = absurd (none-some s is)
written at ps types args [] (a ∷ params) are fits long typed have k s is = absurd have
written at ps types args (e ∷ es) [] are fits long typed have k s is = absurd have
written at ps types [] (e ∷ es) (a ∷ params) are fits long typed have k s is = absurd typed
written at [] types (x ∷ args) (e ∷ es) (a ∷ params) are fits long typed have k s is = absurd (omega arith)
written at (p ∷ ps) types (x ∷ args) (e ∷ es) (a ∷ params) are fits long typed have k s is =
    let c = cons_is (as_written p.of) (param_types ps) types are in
    let first = subst (λ ts. ask_each ts (x ∷ args) ≡ Ok tt) c.are fits in
    let both = checked (ask (asked.Exactly c.a) x) (ask_each c.rest args) tt first in
    let rest : length es ≡ length ps = omega arith in
    by k (c.first ∙ ap (λ v. Some v) (sym (exactly c.a x both.0)) ∙ sym typed.0 ∙ have.0) (λ j later. written at ps c.rest args es params c.more both.1 rest typed.1 have.1 j s later) is
  where
    by : (k : ℕ) → as_written p.of ≡ Some (expr_type.Stream a.of) → ((j : ℕ) → slice_get params j ≡ Some s → option_and_then (λ p. as_written p.of) (slice_get ps j) ≡ Some (expr_type.Stream s.of)) → slice_get (a ∷ params) k ≡ Some s → option_and_then (λ p. as_written p.of) (slice_get (p ∷ ps) k) ≡ Some (expr_type.Stream s.of)
    by zero here later is = here ∙ ap (λ v. Some (expr_type.Stream v.of)) (same_Some a s is)
    by (suc j) here later is = later j is

expressions_long : (es : Exprs) → length (expressions es) ≡ count es
expressions_long no_exprs = refl
expressions_long (more_exprs e es) = ap suc (expressions_long es)

-- ---- calls of macros
record IsJudged (at : Around) (i : ℕ) (es : Exprs) (t : ValueType) : Type 0 where
  args : List ExprType
  of : Callee
  are : types_of at es ≡ Some args
  is : callee_at at i ≡ Some of
  fits : ask_each of.params args ≡ Ok tt
  result : of.result ≡ expr_type.Stream t

judged : (at : Around) (i : ℕ) (es : Exprs) (t : ValueType) → of_verdict (option_and_then (λ ts. call_rule at (declaration.Macro i) ts) (types_of at es)) ≡ Some (expr_type.Stream t) → IsJudged at i es t
judged at i es t h = by (types_of at es) refl (callee_at at i) refl h
  where
    by : (ts : Option (List ExprType)) → types_of at es ≡ ts → (c : Option Callee) → callee_at at i ≡ c → of_verdict (option_and_then (λ args. option_map (λ c. macro_rule c.params c.result args) c) ts) ≡ Some (expr_type.Stream t) → IsJudged at i es t
    by (Some args) are (Some c) is h =
        let k = checked (ask_each c.params args) (Ok c.result) (expr_type.Stream t) (same_Some (macro_rule c.params c.result args) (Ok (expr_type.Stream t)) (verdict_is (Some (macro_rule c.params c.result args)) (expr_type.Stream t) h)) in
        record { args = args; of = c; are = are; is = is; fits = k.0; result = same_Ok c.result (expr_type.Stream t) k.1 }
    by (Some args) are None is h = absurd (none-some (expr_type.Stream t) h)
    by None are c is h = absurd (none-some (expr_type.Stream t) h)

module _ (items : List tree.Item) (top : ℕ → Stream) (at : Around) (st : Standing) (i : ℕ) (es : Exprs) (b : tree.Body) (params locals : List Stream) where
  abbrev pub inner : Around
  inner = within_block (in_definition items at.kinds i (params_of (slice_get items i))) (block_of (Some b))

  inside : Matches items top at st → IsDeclared items (declaration.Macro i) → body_of (slice_get items i) ≡ Some b → ((k : ℕ) (s : Stream) → slice_get params k ≡ Some s → option_and_then (λ p. as_written p.of) (slice_get (params_of (slice_get items i)) k) ≡ Some (expr_type.Stream s.of)) → AreLocals at.kinds i locals → Matches items top inner (inside_call items top st i es params locals)
  inside m macro body are_params are_locals = record {
    items_are = refl;
    scope_is = λ k. in_block 0 (scope.inside (scope.top items) (params_of (slice_get items i))) (block_of (sym body k));
    setting_is = streams_there (params_of (slice_get items i)) macro;
    types = types;
  }
    where
      types : (d : Declaration) (s : Stream) → IsDeclared items d → Stands items top (inside_call items top st i es params locals) d s → declared_type inner d ≡ Some (expr_type.Stream s.of)
      types d s right (makes.Stands.input {i = j}) = m.types (declaration.Input j) (top j) right makes.Stands.input
      types d s right (makes.Stands.stream {i = j}) = m.types (declaration.Stream j) (top j) right makes.Stands.stream
      types d s right (makes.Stands.parameter {k} is) = are_params k s is
      types d s right (makes.Stands.local {k} is) = are_locals k s is

pub call_typed : (items : List tree.Item) (top : ℕ → Stream) (at : Around) (st : Standing) (p : Place) (x : List ℕ) (es : Exprs) (t : ValueType) (i : ℕ) (b : tree.Body) (params locals : List Stream) → IsTypedAt items top at st (tree.Call p x es) t → is_called x ≡ false → meaning at.scope x ≡ Some (declaration.Macro i) → body_of (slice_get items i) ≡ Some b → HaveTheirTypes at (expressions es) params → AreLocals at.kinds i locals → IsTypedCall items top at st i es b t params locals
call_typed items top at st p x es t i b params locals h none is body theirs are_locals =
    let n = declared_name x none in
    let m = h.matches in
    let right = meaning_declared items st.calls x (declaration.Macro i) (ap (λ sc. meaning sc x) (sym m.scope_is) ∙ is) in
    let typed = ap (λ d. of_verdict (option_and_then (λ ts. option_and_then (λ e. call_rule at e ts) d) (types_of at es))) (sym is) ∙ sym (declared_judged at p x es n) ∙ h.is in
    let j = judged at i es t typed in
    let found = subst (λ its. callee its at.kinds i ≡ Some j.of) m.items_are j.is in
    let c = callee_is items at.kinds i j.of found in
    let fits = ap (λ d. not (call_fits (if is_unit x then None else declared_takes items d) (count es))) (sym is) ∙ sym (declared_fits items at.scope x es n) ∙ h.formed.fits in
    record {
      result = c.result ∙ ap (λ v. Some v) j.result;
      inside = inside items top at st i es b params locals m right body
          (written at (params_of (slice_get items i)) j.of.params j.args (expressions es) params c.types j.fits (expressions_long es ∙ declared_count items i x es fits) (types_are at es j.args j.are) theirs) are_locals;
    }
