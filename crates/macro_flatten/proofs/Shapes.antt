-- Typed expressions of streams that are neither names nor calls of macros nor chains have a construct of their own.
use Rattle.std.proofs.Common.{◌≡◌, ℕ, ◌==◌, Bool, true, false, not, List, [], ◌∷◌, Option, Some, None, refl, ap, sym, subst, ◌∙◌, arith}
use Rattle.std.specs.Prelude.{Ok, if◌then◌else◌}
use Rattle.std.specs.List.{filter}
use Rattle.std.specs.Option.{option_map, option_and_then}
use Rattle.std.proofs.lemmas.Bool.{false≢true, not-false, eqb-true}
use Rattle.std.proofs.lemmas.Option.{same_Some, none-some}
use Rattle.tsl_value.specs.declared.place.Place.{Place}
use Rattle.tsl_value.specs.declared.scalar.Scalar.{Scalar}
use Rattle.tsl_value.specs.declared.scalar.Scalar.TheVariants as scalar
use Rattle.tsl_value.specs.declared.scalar.ValueType.{ValueType}
use Rattle.syntax_tree.specs.Tree as tree
use Rattle.syntax_tree.specs.Tree.{Expr, Exprs, no_exprs, more_exprs}
use Rattle.vocabulary.specs.declared.signature.Role.{Role}
use Rattle.vocabulary.specs.declared.signature.Role.TheVariants as role
use Rattle.vocabulary.specs.Table.{role_of}
use Rattle.vocabulary.specs.declared.plain.Plain.{Plain}
use Rattle.vocabulary.specs.declared.plain.Plain.TheVariants as language
use Rattle.vocabulary.specs.PlainTable.{spelling}
use Rattle.name_check.specs.declared.declaration.Declaration.{Declaration}
use Rattle.name_check.specs.declared.declaration.Declaration.TheVariants as declaration
use Rattle.name_check.specs.Builtin.{is_unit, is_lift, is_called}
use Rattle.name_check.specs.Scope.{meaning}
use Rattle.type_rules.specs.declared.rule.ExprType.{ExprType}
use Rattle.type_rules.specs.declared.rule.ExprType.TheVariants as expr_type
use Rattle.type_rules.specs.declared.rule.Family.TheVariants as family
use Rattle.type_rules.specs.declared.rule.Asked.TheVariants as asked
use Rattle.type_rules.specs.declared.rule.Builtin.{Builtin}
use Rattle.type_rules.specs.declared.rule.Builtin.TheVariants as builtin
use Rattle.type_rules.specs.Asked.{ask, bool, inner}
use Rattle.type_rules.specs.Rules.{builtin_one, builtin_rule, const_rule}
use Rattle.type_rules.specs.Written.{aggregate_of, value_of}
use Rattle.form_check.specs.Arity.{count, is_wrong_call, takes_one, takes_two}
use Rattle.expr_types.specs.Around.{Around}
use Rattle.expr_types.specs.Judge.{type_of, types_of, streams_of, last_of, of_verdict, is_literal, builtin_of, is_just, call_rule, function_at, function_of, lifted_by, const_call}
use Rattle.stream_constructs.specs.Construct.{Construct}
use Rattle.stream_constructs.specs.Construct as construct
use Rattle.spec_meaning.specs.Occurrence.{Call, scope_at}
use Rattle.spec_meaning.specs.Function.{literal, function_body}
use Rattle.spec_meaning.specs.Shape.{Shape, expressions, is_part, operands, with_parts, role_shape, plain_name, is_delay, is_const as is_const_word, is_filter, const_shape, filtered_by, filter_shape, lift_by, function_named, lift_shape, declared_shape, empty_shape, expr_shape}
use Rattle.spec_meaning.specs.Makes.{is_own}
use Rattle.checked_spec.specs.inner.Formed.{IsFormed}
use Rattle.checked_spec.proofs.FunctionAsks.{checked, same_Ok}
use Rattle.checked_spec.proofs.FunctionRead.{arguments_are, types_count, verdict_is}
use Rattle.checked_spec.proofs.Operands.{standard}
use Rattle.checked_spec.proofs.Words as words
use Rattle.checked_spec.proofs.Words.{IsWord, is_word}
use Rattle.checked_spec.proofs.Calls.{declared_name, declared_judged, declared_made, no_value, no_option, by_one}
use Rattle.checked_spec.proofs.Lifts.{front, final, judged_final, shape_final}

-- a construct with equations of its own
pub record IsOwn (o : Option Shape) : Type 0 where
  pub sh : Shape
  pub is : o ≡ Some sh
  pub own : is_own sh.construct ≡ true

parts_own : (cs : List Call) (c : Construct) (es : List Expr) → is_own c ≡ true → IsOwn (with_parts cs c es)
parts_own cs c es own = record { sh = _; is = refl; own = own }

own_along : (a b : Option Shape) → a ≡ b → IsOwn a → IsOwn b
own_along a b same own = subst IsOwn same own

-- ---- options are no streams
is_some_refused : (P : Type 0) (a : ExprType) (t : ValueType) → builtin_one builtin.IsSome a ≡ Ok (expr_type.Stream t) → P
is_some_refused P a t h = no_value P bool t (same_Ok (expr_type.Value bool) (expr_type.Stream t) (checked (ask (asked.OptionOf family.Any) a) (Ok (expr_type.Value bool)) (expr_type.Stream t) h).1)

is_none_refused : (P : Type 0) (a : ExprType) (t : ValueType) → builtin_one builtin.IsNone a ≡ Ok (expr_type.Stream t) → P
is_none_refused P a t h = no_value P bool t (same_Ok (expr_type.Value bool) (expr_type.Stream t) (checked (ask (asked.OptionOf family.Any) a) (Ok (expr_type.Value bool)) (expr_type.Stream t) h).1)

get_some_refused : (P : Type 0) (a : ExprType) (t : ValueType) → builtin_one builtin.GetSome a ≡ Ok (expr_type.Stream t) → P
get_some_refused P a t h = no_value P (inner a) t (same_Ok (expr_type.Value (inner a)) (expr_type.Stream t) (checked (ask (asked.OptionOf family.Any) a) (Ok (expr_type.Value (inner a))) (expr_type.Stream t) h).1)

some_refused : (P : Type 0) (a : ExprType) (t : ValueType) → builtin_one builtin.Some a ≡ Ok (expr_type.Stream t) → P
some_refused P a t h = no_option P (inner a) t (same_Ok (expr_type.Optional (inner a)) (expr_type.Stream t) (checked (ask (asked.ValueOf family.Any) a) (Ok (expr_type.Optional (inner a))) (expr_type.Stream t) h).1)

-- ---- calls
module _ (items : List tree.Item) (cs : List Call) (at : Around) (t : ValueType) where
  abbrev here : Around
  here = standard items cs at

  refused_word : (P : Type 0) (o : Builtin) (es : Exprs) → ((a : ExprType) → builtin_one o a ≡ Ok (expr_type.Stream t) → P) → not (1 == count es) ≡ false → of_verdict (option_map (builtin_rule o) (types_of here es)) ≡ Some (expr_type.Stream t) → P
  refused_word P o es refused fits h =
      let r = arguments_are (builtin_rule o) (types_of here es) (expr_type.Stream t) h in
      let one = types_count here es r.args r.are ∙ sym (eqb-true 1 (count es) (not-false (1 == count es) fits)) in
      by_one (λ args. builtin_rule o args ≡ Ok (expr_type.Stream t) → P) r.args one refused r.allows

  filter_own : (es : Exprs) → not (2 == count es) ≡ false → IsOwn (filter_shape cs (expressions es))
  filter_own es fits = by es (eqb-true 2 (count es) (not-false (2 == count es) fits))
    where
      either : (e c : Expr) (s : Option Scalar) → IsOwn (filtered_by cs e c s)
      either e c (Some (scalar.Bool b)) = parts_own cs (construct.FilterBy b) (e ∷ []) refl
      either e c s = parts_own cs construct.Filter (e ∷ c ∷ []) refl

      by : (es : Exprs) → 2 ≡ count es → IsOwn (filter_shape cs (expressions es))
      by no_exprs n = absurd (omega arith)
      by (more_exprs e no_exprs) n = absurd (omega arith)
      by (more_exprs e (more_exprs c no_exprs)) n = either e c (literal c)
      by (more_exprs e (more_exprs c (more_exprs f es))) n = absurd (omega arith)

  -- what `const` has first is a literal
  is_scalar : (P : Type 0) (v : Expr) (a b : ExprType) → const_rule (is_literal v) a b ≡ Ok (expr_type.Stream t) → ((s : Scalar) → literal v ≡ Some s → P) → P
  is_scalar P (tree.Number p n) a b h f = f _ refl
  is_scalar P (tree.Negative p n) a b h f = f _ refl
  is_scalar P (tree.Text p n) a b h f = f _ refl
  is_scalar P (tree.Boolean p n) a b h f = f _ refl
  is_scalar P v a b h f = (cc)

  const_own : (es : Exprs) → not (2 == count es) ≡ false → of_verdict (const_call es (types_of here es)) ≡ Some (expr_type.Stream t) → IsOwn (const_shape cs (expressions es))
  const_own es fits h = by es (types_of here es) (eqb-true 2 (count es) (not-false (2 == count es) fits)) h
    where
      by : (fs : Exprs) (ts : Option (List ExprType)) → 2 ≡ count fs → of_verdict (const_call fs ts) ≡ Some (expr_type.Stream t) → IsOwn (const_shape cs (expressions fs))
      by (more_exprs v (more_exprs e no_exprs)) (Some (a ∷ b ∷ [])) n h =
          let judged = same_Some _ _ (verdict_is (Some (const_rule (is_literal v) a b)) (expr_type.Stream t) h) in
          is_scalar (IsOwn (const_shape cs (v ∷ e ∷ []))) v a b judged
          (λ s is. own_along _ _ (ap (option_and_then (λ s. with_parts cs (construct.Const s) (e ∷ []))) (sym is)) (parts_own cs (construct.Const s) (e ∷ []) refl))
      by (more_exprs v (more_exprs e no_exprs)) (Some []) n h = absurd (none-some (expr_type.Stream t) h)
      by (more_exprs v (more_exprs e no_exprs)) (Some (a ∷ [])) n h = absurd (none-some (expr_type.Stream t) h)
      by (more_exprs v (more_exprs e no_exprs)) (Some (a ∷ b ∷ c ∷ args)) n h = absurd (none-some (expr_type.Stream t) h)
      by (more_exprs v (more_exprs e no_exprs)) None n h = absurd (none-some (expr_type.Stream t) h)
      by no_exprs ts n h = absurd (omega arith)
      by (more_exprs v no_exprs) ts n h = absurd (omega arith)
      by (more_exprs v (more_exprs e (more_exprs f fs))) ts n h = absurd (omega arith)

  -- the last argument of a `lift` names a value function
  by_function : (P : Type 0) (f : Expr) (ts : Option (List ExprType)) → of_verdict (lifted_by ts (function_of here f)) ≡ Some (expr_type.Stream t) → ((i : ℕ) → function_named items (scope_at items cs) f ≡ Some (declaration.Function i) → P) → P
  by_function P (tree.Name p n) ts h k = by (meaning (scope_at items cs) n) h k
    where
      by : (d : Option Declaration) → of_verdict (lifted_by ts (function_at here d)) ≡ Some (expr_type.Stream t) → ((i : ℕ) → d ≡ Some (declaration.Function i) → P) → P
      by (Some (declaration.Function i)) h k = k i refl
      by d h k = absurd (no_callee ts h)
        where
          no_callee : (ts : Option (List ExprType)) → of_verdict (lifted_by ts None) ≡ Some (expr_type.Stream t) → ⊥
          no_callee (Some ts) h = none-some (expr_type.Stream t) h
          no_callee None h = none-some (expr_type.Stream t) h
  by_function P f ts h k = absurd (no_callee ts h)
    where
      no_callee : (ts : Option (List ExprType)) → of_verdict (lifted_by ts None) ≡ Some (expr_type.Stream t) → ⊥
      no_callee (Some ts) h = none-some (expr_type.Stream t) h
      no_callee None h = none-some (expr_type.Stream t) h

  lift_own : (es : Exprs) → of_verdict (lifted_by (streams_of here es) (last_of here es)) ≡ Some (expr_type.Stream t) → IsOwn (lift_shape items cs [] (expressions es))
  lift_own no_exprs h = absurd (none-some (expr_type.Stream t) h)
  lift_own (more_exprs e es) h =
      by_function (IsOwn (lift_shape items cs [] (expressions (more_exprs e es)))) (final e es) (streams_of here (more_exprs e es))
      (ap (λ c. of_verdict (lifted_by (streams_of here (more_exprs e es)) c)) (sym (judged_final here e es)) ∙ h)
      (λ i is.
      own_along _ _ (sym (shape_final items cs [] e es ∙ ap (lift_by items cs (front e es) (final e es)) is))
      (parts_own cs (construct.Lift (function_body items i)) (front e es) refl))

  abbrev NoMacro : Option Declaration → Type 0
  NoMacro d = (i : ℕ) → d ≡ Some (declaration.Macro i) → ⊥

  declared_own : (d : Option Declaration) (es : Exprs) → NoMacro d → of_verdict (option_and_then (λ ts. option_and_then (λ e. call_rule here e ts) d) (types_of here es)) ≡ Some (expr_type.Stream t) → IsOwn (declared_shape items cs d es)
  declared_own (Some (declaration.Function i)) es none h = parts_own cs (construct.Signal _) (filter is_part (expressions es)) refl
  declared_own (Some (declaration.Macro i)) es none h = absurd (none i refl)
  declared_own d es none h = absurd (no_rule (types_of here es) h)
    where
      no_rule : (ts : Option (List ExprType)) → of_verdict (option_and_then (λ ts. None) ts) ≡ Some (expr_type.Stream t) → ⊥
      no_rule (Some ts) h = none-some (expr_type.Stream t) h
      no_rule None h = none-some (expr_type.Stream t) h

  module _ (p : Place) (es : Exprs) where
    abbrev OwnCall : List ℕ → Type 0
    OwnCall x = is_wrong_call items (scope_at items cs) x es ≡ false → type_of here (tree.Call p x es) ≡ Some (expr_type.Stream t) → (is_called x ≡ false → NoMacro (meaning (scope_at items cs) x)) → IsOwn (expr_shape items cs (tree.Call p x es))

    other_own : (x : List ℕ) → is_called x ≡ false → OwnCall x
    other_own x other fits h none =
        let n = declared_name x other in
        own_along _ _ (sym (declared_made items cs p x es n)) (declared_own (meaning (scope_at items cs) x) es (none other) (sym (declared_judged here p x es n) ∙ h))

    word_own : (w : Plain) → OwnCall (spelling w)
    unfolding is_unit is_lift builtin_of takes_one takes_two plain_name is_delay is_const_word is_filter
    word_own language.Time fits h none = parts_own cs construct.Time (expressions es) refl
    word_own language.Last fits h none = parts_own cs construct.Last (expressions es) refl
    word_own language.Delay fits h none = parts_own cs construct.Delay (expressions es) refl
    word_own language.Merge fits h none = parts_own cs construct.Merge (expressions es) refl
    word_own language.Default fits h none = parts_own cs construct.Merge (expressions es) refl
    word_own language.Lift fits h none = lift_own es h
    word_own language.Const fits h none = const_own es fits h
    word_own language.Filter fits h none = filter_own es fits
    word_own language.IsSome fits h none = refused_word _ builtin.IsSome es (λ a. is_some_refused _ a t) fits h
    word_own language.IsNone fits h none = refused_word _ builtin.IsNone es (λ a. is_none_refused _ a t) fits h
    word_own language.GetSome fits h none = refused_word _ builtin.GetSome es (λ a. get_some_refused _ a t) fits h
    word_own language.Some fits h none = refused_word _ builtin.Some es (λ a. some_refused _ a t) fits h

    call_own : (x : List ℕ) → OwnCall x
    call_own x = by (is_word x)
      where
        by : IsWord x → OwnCall x
        by (words.word w is) = subst OwnCall (sym is) (word_own w)
        by (words.other other) = other_own x other

  -- ---- all expressions
  -- no name but `unit`, no chain, and no call of a macro
  abbrev pub StandsAlone : Expr → Type 0
  StandsAlone (tree.Name p x) = is_unit x ≡ true
  StandsAlone (tree.Chain p l e ls) = ⊥
  StandsAlone (tree.Call p x es) = is_called x ≡ false → NoMacro (meaning (scope_at items cs) x)
  StandsAlone e = Unit {0}

  named_own : (b : Bool) (o : Option Shape) → b ≡ true → IsOwn (if b then with_parts cs construct.Unit [] else o)
  named_own true o is = parts_own cs construct.Unit [] refl
  named_own false o is = absurd (false≢true is)

  role_own : (r : Role) (es : List Expr) → IsOwn (role_shape cs r es)
  role_own (role.Update o) es = parts_own cs (construct.Update o (operands es)) (filter is_part es) refl
  role_own r es = parts_own cs (construct.Signal _) (filter is_part es) refl

  pub shape_there : (e : Expr) → IsFormed items (scope_at items cs) e → type_of here e ≡ Some (expr_type.Stream t) → StandsAlone e → IsOwn (expr_shape items cs e)
  shape_there (tree.If p c a b) formed h alone = parts_own cs (construct.Signal _) (filter is_part (c ∷ a ∷ b ∷ [])) refl
  shape_there (tree.Chain p l e ls) formed h alone = absurd alone
  shape_there (tree.Compare p o a b) formed h alone = parts_own cs (construct.Signal _) (filter is_part (a ∷ b ∷ [])) refl
  shape_there (tree.Negate p e) formed h alone = parts_own cs (construct.Signal _) (filter is_part (e ∷ [])) refl
  shape_there (tree.Not p e) formed h alone = parts_own cs (construct.Signal _) (filter is_part (e ∷ [])) refl
  shape_there (tree.Number p n) formed h alone = parts_own cs (construct.Literal _) [] refl
  shape_there (tree.Negative p n) formed h alone = parts_own cs (construct.Literal _) [] refl
  shape_there (tree.Text p n) formed h alone = parts_own cs (construct.Literal _) [] refl
  shape_there (tree.Boolean p b) formed h alone = parts_own cs (construct.Literal _) [] refl
  shape_there (tree.Unit p) formed h alone = parts_own cs construct.Unit [] refl
  shape_there (tree.Name p x) formed h alone = named_own (is_unit x) _ alone
  shape_there (tree.Call p x es) formed h alone = call_own p es x formed.fits h alone
  shape_there (tree.CallDotted p d es) formed h alone = role_own (role_of d) (expressions es)
  shape_there (tree.Nil p y) formed h alone = parts_own cs construct.Nil [] refl
  shape_there (tree.None p y) formed h alone = absurd (no_stream (value_of y) h)
    where
      no_stream : (o : Option ValueType) → of_verdict (is_just (option_map expr_type.Optional o)) ≡ Some (expr_type.Stream t) → ⊥
      no_stream (Some v) h = no_option ⊥ v t (same_Some (expr_type.Optional v) (expr_type.Stream t) h)
      no_stream None h = none-some (expr_type.Stream t) h
  shape_there (tree.Empty p a) formed h alone = by (aggregate_of a) h
    where
      by : (o : Option ValueType) → of_verdict (is_just (option_map expr_type.Stream o)) ≡ Some (expr_type.Stream t) → IsOwn (empty_shape items cs o)
      by (Some u) h = parts_own cs (construct.Empty u) [] refl
      by None h = absurd (none-some (expr_type.Stream t) h)
