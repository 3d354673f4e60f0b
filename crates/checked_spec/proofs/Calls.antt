-- Calls of names: what they are made of fits.
use Rattle.std.proofs.Common.{◌≡◌, ℕ, suc, ◌==◌, ◌≤◌, Bool, true, false, not, List, [], ◌∷◌, length, Option, Some, None, refl, ap, sym, subst, ◌∙◌, arith}
use Rattle.std.specs.Prelude.{Ok, slice_get, if◌then◌else◌, nat_le}
use Rattle.std.specs.Option.{option_map, option_and_then}
use Rattle.std.specs.Str.{bytes_eq}
use Rattle.std.proofs.lemmas.Bool.{true≢false, not-false, eqb-true, leb-true, and_parts}
use Rattle.std.proofs.lemmas.Option.{same_Some, none-some}
use Rattle.tsl_value.specs.declared.place.Place.{Place}
use Rattle.tsl_value.specs.declared.scalar.Scalar.{Scalar}
use Rattle.tsl_value.specs.declared.scalar.Scalar.TheVariants as scalar
use Rattle.tsl_value.specs.declared.scalar.ValueType.{ValueType}
use Rattle.tsl_value.proofs.Lists.{none_of, none_found}
use Rattle.syntax_tree.specs.Tree as tree
use Rattle.syntax_tree.specs.Tree.{Expr, Exprs, no_exprs, more_exprs}
use Rattle.vocabulary.specs.declared.plain.Plain.{Plain}
use Rattle.vocabulary.specs.declared.plain.Plain.TheVariants as language
use Rattle.vocabulary.specs.PlainTable.{spelling}
use Rattle.name_check.specs.declared.declaration.Declaration.{Declaration}
use Rattle.name_check.specs.declared.declaration.Declaration.TheVariants as declaration
use Rattle.name_check.specs.Builtin.{is_unit, is_lift, is_called}
use Rattle.name_check.specs.Builtin as builtin_names
use Rattle.name_check.specs.Scope.{Scope, meaning}
use Rattle.type_rules.specs.declared.rule.ExprType.{ExprType}
use Rattle.type_rules.specs.declared.rule.ExprType.TheVariants as expr_type
use Rattle.type_rules.specs.declared.rule.Family.TheVariants as family
use Rattle.type_rules.specs.declared.rule.Setting.TheVariants as setting
use Rattle.type_rules.specs.declared.rule.Asked.TheVariants as asked
use Rattle.type_rules.specs.declared.rule.Builtin.{Builtin}
use Rattle.type_rules.specs.declared.rule.Builtin.TheVariants as builtin
use Rattle.type_rules.specs.Asked.{ask, inner, bool}
use Rattle.type_rules.specs.Rules.{const_rule, builtin_one, builtin_two, builtin_rule, function_rule, lift_rule}
use Rattle.form_check.specs.Arity as form
use Rattle.form_check.specs.Arity.{count, takes, takes_one, takes_two, declared_takes, function_takes, lifted_takes, call_fits, lift_fits as lift_count_fits, lift_may_have, is_wrong_lift, is_wrong_call}
use Rattle.expr_types.specs.Around.{Around, Callee, callee_at}
use Rattle.syntax_tree.specs.Tree.{params_of}
use Rattle.expr_types.specs.Judge.{type_of, types_of, streams_of, last_of, of_verdict, is_literal, builtin_of, builtins, is_const, call_rule, function_at, function_of, lifted_by, const_call, own_call}
use Rattle.stream_constructs.specs.Construct.{Construct}
use Rattle.stream_constructs.specs.Construct as construct
use Rattle.spec_meaning.specs.Occurrence.{Call, scope_at, macro_result}
use Rattle.spec_meaning.specs.Function.{literal}
use Rattle.spec_meaning.specs.Function as function
use Rattle.spec_meaning.specs.Shape.{Shape, expressions, with_parts, signal_of, plain_names, plain_name, is_delay, is_const as is_const_word, is_filter, const_shape, filtered_by, filter_shape, lift_by, function_named, lift_shape, declared_shape, call_shape, expr_shape}
use Rattle.spec_meaning.specs.Makes.{is_own}
use Rattle.checked_spec.specs.inner.Formed.{IsDeclared}
use Rattle.checked_spec.specs.inner.Functions.{AreTypedFunctions}
use Rattle.checked_spec.proofs.FunctionAsks.{checked, same_Ok}
use Rattle.checked_spec.proofs.FunctionRead.{arguments_are, types_count, verdict_is}
use Rattle.checked_spec.proofs.FunctionWords.{none_among}
use Rattle.checked_spec.proofs.Read.{AreTyped, types_are}
use Rattle.checked_spec.proofs.Operands.{standard, literal_typed}
use Rattle.checked_spec.proofs.Fitting.{IsPlain, IsFitting, plain_fits, signal_fits}
use Rattle.checked_spec.proofs.Expressions.{never_own, same_not_own}
use Rattle.checked_spec.proofs.Words as words
use Rattle.checked_spec.proofs.Words.{IsWord, is_word}
use Rattle.checked_spec.proofs.CallRules.{time_fits, last_fits, delay_fits, merge_fits, filter_fits, filter_by_fits, const_fits}
use Rattle.checked_spec.proofs.Functions.{function_signal}
use Rattle.checked_spec.proofs.Lifts.{front, final, form_final, judged_final, shape_final, front_typed, front_count, lift_fits}
use Rattle.checked_spec.proofs.Scopes.{meaning_declared}

-- ---- by the number of arguments
pub by_one : (P : List ExprType → Type 0) (args : List ExprType) → length args ≡ 1 → ((a : ExprType) → P (a ∷ [])) → P args
by_one P [] n f = absurd (omega arith)
by_one P (a ∷ []) n f = f a
by_one P (a ∷ b ∷ args) n f = absurd (omega arith)

by_two : (P : List ExprType → Type 0) (args : List ExprType) → length args ≡ 2 → ((a b : ExprType) → P (a ∷ b ∷ [])) → P args
by_two P [] n f = absurd (omega arith)
by_two P (a ∷ []) n f = absurd (omega arith)
by_two P (a ∷ b ∷ []) n f = f a b
by_two P (a ∷ b ∷ c ∷ args) n f = absurd (omega arith)

-- two expressions that are typed
by_two_typed : (at : Around) (P : List Expr → Type 0) (es : List Expr) (a b : ExprType) → AreTyped at es (a ∷ b ∷ []) → ((e f : Expr) → type_of at e ≡ Some a → type_of at f ≡ Some b → P (e ∷ f ∷ [])) → P es
by_two_typed at P [] a b h k = absurd h
by_two_typed at P (e ∷ []) a b h k = absurd h.1
by_two_typed at P (e ∷ f ∷ []) a b h k = k e f h.0 h.1.0
by_two_typed at P (e ∷ f ∷ g ∷ es) a b h k = absurd h.1.1

-- values and options are no streams
pub no_value : (P : Type 0) (v t : ValueType) → expr_type.Value v ≡ expr_type.Stream t → P
no_value P v t h = (cc)

pub no_option : (P : Type 0) (v t : ValueType) → expr_type.Optional v ≡ expr_type.Stream t → P
no_option P v t h = (cc)

is_some_refused : (P : Type 0) (x : ExprType) (t : ValueType) → builtin_one builtin.IsSome x ≡ Ok (expr_type.Stream t) → P
is_some_refused P x t h = no_value P bool t (same_Ok (expr_type.Value bool) (expr_type.Stream t) (checked (ask (asked.OptionOf family.Any) x) (Ok (expr_type.Value bool)) (expr_type.Stream t) h).1)

is_none_refused : (P : Type 0) (x : ExprType) (t : ValueType) → builtin_one builtin.IsNone x ≡ Ok (expr_type.Stream t) → P
is_none_refused P x t h = no_value P bool t (same_Ok (expr_type.Value bool) (expr_type.Stream t) (checked (ask (asked.OptionOf family.Any) x) (Ok (expr_type.Value bool)) (expr_type.Stream t) h).1)

get_some_refused : (P : Type 0) (x : ExprType) (t : ValueType) → builtin_one builtin.GetSome x ≡ Ok (expr_type.Stream t) → P
get_some_refused P x t h = no_value P (inner x) t (same_Ok (expr_type.Value (inner x)) (expr_type.Stream t) (checked (ask (asked.OptionOf family.Any) x) (Ok (expr_type.Value (inner x))) (expr_type.Stream t) h).1)

some_refused : (P : Type 0) (x : ExprType) (t : ValueType) → builtin_one builtin.Some x ≡ Ok (expr_type.Stream t) → P
some_refused P x t h = no_option P (inner x) t (same_Ok (expr_type.Optional (inner x)) (expr_type.Stream t) (checked (ask (asked.ValueOf family.Any) x) (Ok (expr_type.Optional (inner x))) (expr_type.Stream t) h).1)

literal_is : (v : Expr) (s : Scalar) → literal v ≡ Some s → is_literal v ≡ true
literal_is (tree.Number p n) s h = refl
literal_is (tree.Negative p n) s h = refl
literal_is (tree.Text p n) s h = refl
literal_is (tree.Boolean p b) s h = refl
literal_is e s h = absurd (none-some s h)

-- ---- names that are none of the language's
pub record IsDeclaredName (n : List ℕ) : Type 0 where
  pub no_plain : plain_name n ≡ None
  pub no_delay : is_delay n ≡ false
  pub no_const : is_const_word n ≡ false
  pub no_filter : is_filter n ≡ false
  pub no_lift : is_lift n ≡ false
  pub none_judged : is_const n ≡ false
  pub no_builtin : builtin_of n ≡ None
  pub takes_none : takes_one n ≡ false
  pub takes_neither : takes_two n ≡ false

-- the places of the names: time last delay merge default lift const filter isSome isNone getSome Some
pub declared_name : (n : List ℕ) → is_called n ≡ false → IsDeclaredName n
unfolding is_called plain_name is_delay is_filter is_lift builtin_of takes_one takes_two is_const_word
declared_name n none =
    let a = none_of (bytes_eq n) builtin_names.callable_names none in
    let time = a.0 in
    let last = a.1.0 in
    let delay = a.1.1.0 in
    let merge = a.1.1.1.0 in
    let default = a.1.1.1.1.0 in
    let lift = a.1.1.1.1.1.0 in
    let const = a.1.1.1.1.1.1.0 in
    let filter = a.1.1.1.1.1.1.1.0 in
    let is_some = a.1.1.1.1.1.1.1.1.0 in
    let is_none = a.1.1.1.1.1.1.1.1.1.0 in
    let get_some = a.1.1.1.1.1.1.1.1.1.1.0 in
    let some = a.1.1.1.1.1.1.1.1.1.1.1.0 in
    record {
      no_plain = ap (option_map (λ c. c.1)) (none_found (λ c. bytes_eq n c.0) plain_names (time, (last, (merge, (default, tt)))));
      no_delay = delay;
      no_const = const;
      no_filter = filter;
      no_lift = lift;
      none_judged = const;
      no_builtin = ap (option_map (λ b. b.1)) (none_found (λ b. bytes_eq n b.0) builtins (time, (last, (delay, (merge, (default, (filter, (is_some, (is_none, (get_some, (some, tt)))))))))));
      takes_none = none_among n form.names_of_one (time, (is_some, (is_none, (get_some, (some, tt)))));
      takes_neither = none_among n form.names_of_two (last, (delay, (merge, (default, (const, (filter, tt))))));
    }

pub declared_fits : (items : List tree.Item) (scope : Scope) (x : List ℕ) (es : Exprs) → IsDeclaredName x → is_wrong_call items scope x es ≡ not (call_fits (if is_unit x then None else declared_takes items (meaning scope x)) (count es))
declared_fits items scope x es n =
    λ k.
    if n.no_lift k then is_wrong_lift items scope es
    else not (call_fits (if is_unit x then None else if n.takes_none k then Some 1 else if n.takes_neither k then Some 2 else declared_takes items (meaning scope x)) (count es))

pub declared_judged : (at : Around) (p : Place) (x : List ℕ) (es : Exprs) → IsDeclaredName x → type_of at (tree.Call p x es) ≡ of_verdict (option_and_then (λ ts. option_and_then (λ d. call_rule at d ts) (meaning at.scope x)) (types_of at es))
declared_judged at p x es n =
    λ k. of_verdict (if n.no_lift k then lifted_by (streams_of at es) (last_of at es) else if n.none_judged k then const_call es (types_of at es) else own_call (n.no_builtin k) at x (types_of at es))

pub declared_made : (items : List tree.Item) (cs : List Call) (p : Place) (x : List ℕ) (es : Exprs) → IsDeclaredName x → expr_shape items cs (tree.Call p x es) ≡ declared_shape items cs (meaning (scope_at items cs) x) es
declared_made items cs p x es n =
    ap (call_shape items cs x es) n.no_plain
    ∙ (λ k.
    if n.no_delay k then with_parts cs construct.Delay (expressions es)
    else if n.no_const k then const_shape cs (expressions es)
    else if n.no_filter k then filter_shape cs (expressions es)
    else if n.no_lift k then lift_shape items cs [] (expressions es)
    else declared_shape items cs (meaning (scope_at items cs) x) es)

params_counted : (items : List tree.Item) (i : ℕ) → form.params_at items i ≡ length (params_of (slice_get items i))
params_counted items i = by (slice_get items i)
  where
    by : (o : Option tree.Item) → form.item_params o ≡ length (params_of o)
    by (Some (tree.Defined p (tree.Define q n ps w b))) = refl
    by (Some (tree.Input p q n y)) = refl
    by (Some (tree.Output p q n)) = refl
    by (Some (tree.OutputAs p e q n)) = refl
    by None = refl

-- a call of a declared name has as many arguments as its item has parameters
pub declared_count : (items : List tree.Item) (i : ℕ) (x : List ℕ) (es : Exprs) → not (call_fits (if is_unit x then None else Some (form.params_at items i)) (count es)) ≡ false → count es ≡ length (params_of (slice_get items i))
declared_count items i x es fits = by (is_unit x) fits
  where
    by : (b : Bool) → not (call_fits (if b then None else Some (form.params_at items i)) (count es)) ≡ false → count es ≡ length (params_of (slice_get items i))
    by true fits = absurd (true≢false fits)
    by false fits = sym (eqb-true (form.params_at items i) (count es) (not-false (form.params_at items i == count es) fits)) ∙ params_counted items i

-- ---- the function that `lift` names
function_both : (items : List tree.Item) (at : Around) (g : Expr) → function_of at g ≡ function_at at (function_named items at.scope g)
function_both items at (tree.Name p n) = refl
function_both items at g = refl

takes_final : (items : List tree.Item) (scope : Scope) (g : Expr) → function_takes items (function_named items scope g) ≡ lifted_takes items scope (Some g)
takes_final items scope (tree.Name p n) = refl
takes_final items scope g = refl

named_function : (items : List tree.Item) (cs : List Call) (g : Expr) (i : ℕ) → function_named items (scope_at items cs) g ≡ Some (declaration.Function i) → IsDeclared items (declaration.Function i)
named_function items cs (tree.Name p n) i named = meaning_declared items cs n (declaration.Function i) named
named_function items cs g i named = absurd (none-some (declaration.Function i) named)

module _ (items : List tree.Item) (cs : List Call) (at : Around) (t : ValueType) (sh : Shape) (own : is_own sh.construct ≡ true) (functions : AreTypedFunctions items at.kinds) (p : Place) (es : Exprs) where
  abbrev pub here : Around
  here = standard items cs at

  abbrev pub Fitting : List ℕ → Type 0
  Fitting x = IsFitting here (tree.Call p x es) t sh

  -- a call of a name that is typed, has a shape, and as many arguments as it takes
  abbrev pub Typed : List ℕ → Type 0
  Typed x = is_wrong_call items (scope_at items cs) x es ≡ false → type_of here (tree.Call p x es) ≡ Some (expr_type.Stream t) → expr_shape items cs (tree.Call p x es) ≡ Some sh → Fitting x

  counted : (m : ℕ) → not (m == count es) ≡ false → (args : List ExprType) → types_of here es ≡ Some args → length args ≡ m
  counted m fits args are = types_count here es args are ∙ sym (eqb-true m (count es) (not-false (m == count es) fits))

  one_word : (x : List ℕ) (o : Builtin) (c : Construct) → ((a : ExprType) → builtin_one o a ≡ Ok (expr_type.Stream t) → IsPlain c (a ∷ []) t) → not (1 == count es) ≡ false → of_verdict (option_map (builtin_rule o) (types_of here es)) ≡ Some (expr_type.Stream t) → with_parts cs c (expressions es) ≡ Some sh → Fitting x
  one_word x o c rule fits h is =
      let r = arguments_are (builtin_rule o) (types_of here es) (expr_type.Stream t) h in
      plain_fits items cs at (tree.Call p x es) t (expressions es) r.args sh (types_are here es r.args r.are) tt c
      (by_one (λ args. builtin_rule o args ≡ Ok (expr_type.Stream t) → IsPlain c args t) r.args (counted 1 fits r.args r.are) rule r.allows) is

  two_word : (x : List ℕ) (o : Builtin) (c : Construct) → ((a b : ExprType) → builtin_two o a b ≡ Ok (expr_type.Stream t) → IsPlain c (a ∷ b ∷ []) t) → not (2 == count es) ≡ false → of_verdict (option_map (builtin_rule o) (types_of here es)) ≡ Some (expr_type.Stream t) → with_parts cs c (expressions es) ≡ Some sh → Fitting x
  two_word x o c rule fits h is =
      let r = arguments_are (builtin_rule o) (types_of here es) (expr_type.Stream t) h in
      plain_fits items cs at (tree.Call p x es) t (expressions es) r.args sh (types_are here es r.args r.are) tt c
      (by_two (λ args. builtin_rule o args ≡ Ok (expr_type.Stream t) → IsPlain c args t) r.args (counted 2 fits r.args r.are) rule r.allows) is

  refused_word : (x : List ℕ) (o : Builtin) → ((a : ExprType) → builtin_one o a ≡ Ok (expr_type.Stream t) → Fitting x) → not (1 == count es) ≡ false → of_verdict (option_map (builtin_rule o) (types_of here es)) ≡ Some (expr_type.Stream t) → Fitting x
  refused_word x o rule fits h =
      let r = arguments_are (builtin_rule o) (types_of here es) (expr_type.Stream t) h in
      by_one (λ args. builtin_rule o args ≡ Ok (expr_type.Stream t) → Fitting x) r.args (counted 1 fits r.args r.are) rule r.allows

  filter_word : (x : List ℕ) → not (2 == count es) ≡ false → of_verdict (option_map (builtin_rule builtin.Filter) (types_of here es)) ≡ Some (expr_type.Stream t) → filter_shape cs (expressions es) ≡ Some sh → Fitting x
  filter_word x fits h is =
      let r = arguments_are (builtin_rule builtin.Filter) (types_of here es) (expr_type.Stream t) h in
      by_two (λ args. builtin_rule builtin.Filter args ≡ Ok (expr_type.Stream t) → AreTyped here (expressions es) args → Fitting x) r.args (counted 2 fits r.args r.are)
      (λ a b allows typed. by_two_typed here (λ fs. filter_shape cs fs ≡ Some sh → Fitting x) (expressions es) a b typed (λ e c first second is. by e c a b first second allows (literal c) is) is)
      r.allows (types_are here es r.args r.are)
    where
      by : (e c : Expr) (a b : ExprType) → type_of here e ≡ Some a → type_of here c ≡ Some b → builtin_two builtin.Filter a b ≡ Ok (expr_type.Stream t) → (s : Option Scalar) → filtered_by cs e c s ≡ Some sh → Fitting x
      by e c a b first second allows (Some (scalar.Bool v)) is = plain_fits items cs at (tree.Call p x es) t (e ∷ []) (a ∷ []) sh (first, tt) tt (construct.FilterBy v) (filter_by_fits v a b t allows) is
      by e c a b first second allows s is = plain_fits items cs at (tree.Call p x es) t (e ∷ c ∷ []) (a ∷ b ∷ []) sh (first, (second, tt)) tt construct.Filter (filter_fits a b t allows) is

  const_word : (x : List ℕ) → not (2 == count es) ≡ false → of_verdict (const_call es (types_of here es)) ≡ Some (expr_type.Stream t) → const_shape cs (expressions es) ≡ Some sh → Fitting x
  const_word x fits h is = by es (types_of here es) refl (eqb-true 2 (count es) (not-false (2 == count es) fits)) h is
    where
      lit : (v e : Expr) (a b : ExprType) → type_of here v ≡ Some a → type_of here e ≡ Some b → const_rule (is_literal v) a b ≡ Ok (expr_type.Stream t) → (s : Option Scalar) → literal v ≡ s → option_and_then (λ s. with_parts cs (construct.Const s) (e ∷ [])) s ≡ Some sh → Fitting x
      lit v e a b first second allows (Some s) is shaped =
          let typed = same_Some a _ (sym first ∙ literal_typed items cs at v s is) in
          plain_fits items cs at (tree.Call p x es) t (e ∷ []) (b ∷ []) sh (second, tt) tt (construct.Const s)
          (const_fits s a b t typed (subst (λ l. const_rule l a b ≡ Ok (expr_type.Stream t)) (literal_is v s is) allows)) shaped
      lit v e a b first second allows None is shaped = absurd (none-some sh shaped)

      by : (fs : Exprs) (ts : Option (List ExprType)) → types_of here fs ≡ ts → 2 ≡ count fs → of_verdict (const_call fs ts) ≡ Some (expr_type.Stream t) → const_shape cs (expressions fs) ≡ Some sh → Fitting x
      by (more_exprs v (more_exprs e no_exprs)) (Some (a ∷ b ∷ [])) are n h shaped =
          let typed = types_are here (more_exprs v (more_exprs e no_exprs)) (a ∷ b ∷ []) are in
          let judged = same_Some _ _ (verdict_is (Some (const_rule (is_literal v) a b)) (expr_type.Stream t) h) in
          lit v e a b typed.0 typed.1.0 judged (literal v) refl shaped
      by (more_exprs v (more_exprs e no_exprs)) (Some []) are n h shaped = absurd (none-some (expr_type.Stream t) h)
      by (more_exprs v (more_exprs e no_exprs)) (Some (a ∷ [])) are n h shaped = absurd (none-some (expr_type.Stream t) h)
      by (more_exprs v (more_exprs e no_exprs)) (Some (a ∷ b ∷ c ∷ args)) are n h shaped = absurd (none-some (expr_type.Stream t) h)
      by (more_exprs v (more_exprs e no_exprs)) None are n h shaped = absurd (none-some (expr_type.Stream t) h)
      by no_exprs ts are n h shaped = absurd (omega arith)
      by (more_exprs v no_exprs) ts are n h shaped = absurd (omega arith)
      by (more_exprs v (more_exprs e (more_exprs f fs))) ts are n h shaped = absurd (omega arith)

  -- ---- `lift`
  lift_by_function : (x : List ℕ) (e : Expr) (fs : Exprs) (d : Option Declaration) (args : List ExprType) → AreTyped here (front e fs) args → suc (length args) ≡ count (more_exprs e fs) → ((i : ℕ) → d ≡ Some (declaration.Function i) → IsDeclared items (declaration.Function i)) → not (lift_count_fits (function_takes items d) (count (more_exprs e fs))) ≡ false → of_verdict (lifted_by (Some args) (function_at here d)) ≡ Some (expr_type.Stream t) → lift_by items cs (front e fs) (final e fs) d ≡ Some sh → Fitting x
  lift_by_function x e fs (Some (declaration.Function i)) args typed long right fits h is = by (callee_at here i) refl h
    where
      by : (c : Option Callee) → callee_at here i ≡ c → of_verdict (lifted_by (Some args) c) ≡ Some (expr_type.Stream t) → Fitting x
      by (Some c) found h =
          let may = and_parts (lift_may_have (count (more_exprs e fs))) (suc (form.params_at items i) == count (more_exprs e fs)) (not-false (lift_count_fits (Some (form.params_at items i)) (count (more_exprs e fs))) fits) in
          let range = and_parts (nat_le 2 (count (more_exprs e fs))) (nat_le (count (more_exprs e fs)) 9) may.0 in
          let least : 2 ≤ count (more_exprs e fs) = leb-true 2 (count (more_exprs e fs)) range.0 in
          let takes : suc (form.params_at items i) ≡ count (more_exprs e fs) = eqb-true (suc (form.params_at items i)) (count (more_exprs e fs)) may.1 in
          let named : form.params_at items i ≡ length (params_of (slice_get items i)) = params_counted items i in
          let as_many : length args ≡ length (params_of (slice_get items i)) = omega arith in
          let some : 1 ≤ length args = omega arith in
          plain_fits items cs at (tree.Call p x es) t (front e fs) args sh typed tt (construct.Lift (function.function_body items i))
          (lift_fits items at.kinds i c args t (functions.each i (right i refl)) found as_many some (same_Some (lift_rule args c.params c.result) (Ok (expr_type.Stream t)) (verdict_is (Some (lift_rule args c.params c.result)) (expr_type.Stream t) h))) is
      by None found h = absurd (none-some (expr_type.Stream t) h)
  lift_by_function x e fs d args typed long right fits h is = absurd (none-some sh is)

  lift_word : (x : List ℕ) (fs : Exprs) → not (lift_count_fits (lifted_takes items (scope_at items cs) (form.last_of fs)) (count fs)) ≡ false → of_verdict (lifted_by (streams_of here fs) (last_of here fs)) ≡ Some (expr_type.Stream t) → lift_shape items cs [] (expressions fs) ≡ Some sh → Fitting x
  lift_word x no_exprs fits h is = absurd (none-some sh is)
  lift_word x (more_exprs e fs) fits h is = by (streams_of here (more_exprs e fs)) refl h
    where
      by : (ts : Option (List ExprType)) → streams_of here (more_exprs e fs) ≡ ts → of_verdict (lifted_by ts (last_of here (more_exprs e fs))) ≡ Some (expr_type.Stream t) → Fitting x
      by (Some args) are h =
          lift_by_function x e fs (function_named items (scope_at items cs) (final e fs)) args (front_typed here e fs args are) (front_count here e fs args are)
          (λ i named. named_function items cs (final e fs) i named)
          (ap (λ o. not (lift_count_fits o (count (more_exprs e fs)))) (takes_final items (scope_at items cs) (final e fs) ∙ ap (lifted_takes items (scope_at items cs)) (sym (form_final e fs))) ∙ fits)
          (ap (λ c. of_verdict (lifted_by (Some args) c)) (sym (judged_final here e fs ∙ function_both items here (final e fs))) ∙ h)
          (sym (shape_final items cs [] e fs) ∙ is)
      by None are h = absurd (none-some (expr_type.Stream t) h)

  -- ---- declared names
  function_call : (x : List ℕ) (i : ℕ) → IsDeclared items (declaration.Function i) → not (call_fits (if is_unit x then None else Some (form.params_at items i)) (count es)) ≡ false → of_verdict (option_and_then (λ ts. call_rule here (declaration.Function i) ts) (types_of here es)) ≡ Some (expr_type.Stream t) → signal_of cs (function.function_at items i) (expressions es) ≡ Some sh → Fitting x
  function_call x i right fits h is = by (types_of here es) refl (callee_at here i) refl h
    where
      by : (ts : Option (List ExprType)) → types_of here es ≡ ts → (c : Option Callee) → callee_at here i ≡ c → of_verdict (option_and_then (λ args. option_map (λ c. function_rule setting.Streams c.params c.result args) c) ts) ≡ Some (expr_type.Stream t) → Fitting x
      by (Some args) are (Some c) found h =
          signal_fits items cs at (tree.Call p x es) t (expressions es) args sh (types_are here es args are) tt (function.function_at items i)
          (function_signal items at.kinds i c args t right (functions.each i right) found (types_count here es args are ∙ declared_count items i x es fits)
          (same_Some (function_rule setting.Streams c.params c.result args) (Ok (expr_type.Stream t)) (verdict_is (Some (function_rule setting.Streams c.params c.result args)) (expr_type.Stream t) h))) is
      by (Some args) are None found h = absurd (none-some (expr_type.Stream t) h)
      by None are c found h = absurd (none-some (expr_type.Stream t) h)

  declared_call : (x : List ℕ) (d : Option Declaration) → ((i : ℕ) → d ≡ Some (declaration.Function i) → IsDeclared items (declaration.Function i)) → not (call_fits (if is_unit x then None else declared_takes items d) (count es)) ≡ false → of_verdict (option_and_then (λ ts. option_and_then (λ e. call_rule here e ts) d) (types_of here es)) ≡ Some (expr_type.Stream t) → declared_shape items cs d es ≡ Some sh → Fitting x
  declared_call x (Some (declaration.Function i)) right fits h is = function_call x i (right i refl) fits h is
  declared_call x (Some (declaration.Macro i)) right fits h is = never_own (Fitting x) (declared_shape items cs (Some (declaration.Macro i)) es) sh (same_not_own (macro_result items cs i es)) is own
  declared_call x d right fits h is = absurd (none-some sh is)

  other_call : (x : List ℕ) → is_called x ≡ false → Typed x
  other_call x none fits h is =
      let n = declared_name x none in
      declared_call x (meaning (scope_at items cs) x) (λ i named. meaning_declared items cs x (declaration.Function i) named)
      (sym (declared_fits items (scope_at items cs) x es n) ∙ fits) (sym (declared_judged here p x es n) ∙ h) (sym (declared_made items cs p x es n) ∙ is)

  -- ---- all calls
  word_call : (w : Plain) → Typed (spelling w)
  unfolding is_unit is_lift builtin_of takes_one takes_two plain_name is_delay is_const_word is_filter
  word_call language.Time fits h is = one_word (spelling language.Time) builtin.Time construct.Time (λ a. time_fits a t) fits h is
  word_call language.Last fits h is = two_word (spelling language.Last) builtin.Last construct.Last (λ a b. last_fits a b t) fits h is
  word_call language.Delay fits h is = two_word (spelling language.Delay) builtin.Delay construct.Delay (λ a b. delay_fits a b t) fits h is
  word_call language.Merge fits h is = two_word (spelling language.Merge) builtin.Merge construct.Merge (λ a b. merge_fits a b t) fits h is
  word_call language.Default fits h is = two_word (spelling language.Default) builtin.Merge construct.Merge (λ a b. merge_fits a b t) fits h is
  word_call language.Lift fits h is = lift_word (spelling language.Lift) es fits h is
  word_call language.Const fits h is = const_word (spelling language.Const) fits h is
  word_call language.Filter fits h is = filter_word (spelling language.Filter) fits h is
  word_call language.IsSome fits h is = refused_word (spelling language.IsSome) builtin.IsSome (λ a. is_some_refused (Fitting (spelling language.IsSome)) a t) fits h
  word_call language.IsNone fits h is = refused_word (spelling language.IsNone) builtin.IsNone (λ a. is_none_refused (Fitting (spelling language.IsNone)) a t) fits h
  word_call language.GetSome fits h is = refused_word (spelling language.GetSome) builtin.GetSome (λ a. get_some_refused (Fitting (spelling language.GetSome)) a t) fits h
  word_call language.Some fits h is = refused_word (spelling language.Some) builtin.Some (λ a. some_refused (Fitting (spelling language.Some)) a t) fits h

  pub call_fitting : (x : List ℕ) → Typed x
  call_fitting x = by (is_word x)
    where
      by : IsWord x → Typed x
      by (words.word w is) = subst Typed (sym is) (word_call w)
      by (words.other none) = other_call x none
