-- What value functions take and give where they are called.
use Rattle.std.proofs.Common.{◌≡◌, ℕ, zero, suc, Bool, true, false, cond, List, [], ◌∷◌, map, length, Option, Some, None, refl, ap, sym, subst, ◌∙◌, arith}
use Rattle.std.specs.Prelude.{Ok, slice_get, slice_index_or, if◌then◌else◌}
use Rattle.std.specs.List.{AllByRecursion, list_all}
use Rattle.std.specs.Option.{option_map, option_and_then}
use Rattle.std.proofs.lemmas.Bool.{true≢false, false≢true, and_parts}
use Rattle.std.proofs.lemmas.Option.{same_Some, none-some}
use Rattle.lift_func.specs.BodyTree.{BodyTree}
use Rattle.lift_func.specs.Typing.{ValueKind}
use Rattle.syntax_tree.specs.Tree as tree
use Rattle.syntax_tree.specs.Tree.{TypeName, Param}
use Rattle.name_check.specs.Scope.{is_events, are_values}
use Rattle.type_rules.specs.declared.rule.ExprType.{ExprType}
use Rattle.type_rules.specs.declared.rule.ExprType.TheVariants as expr_type
use Rattle.type_rules.specs.declared.rule.Setting.TheVariants as setting
use Rattle.type_rules.specs.declared.rule.Asked.TheVariants as asked
use Rattle.type_rules.specs.Asked.{ask}
use Rattle.type_rules.specs.Rules.{ask_each, macro_rule, lifted_type, has_options, function_rule}
use Rattle.type_rules.specs.Written.{value_of, as_written}
use Rattle.expr_types.specs.Around.{Callee, param_types, callee_of}
use Rattle.type_rules.specs.Kinds.{Kinds}
use Rattle.syntax_tree.specs.Tree.{params_of}
use Rattle.spec_meaning.specs.Function.{no_tree}
use Rattle.checked_spec.specs.inner.Functions.{HasType, HaveTypes, callee}
use Rattle.checked_spec.proofs.SameLemmas.{exactly}
use Rattle.checked_spec.proofs.FunctionAsks.{checked, same_Ok}
use Rattle.checked_spec.proofs.FunctionRead.{cons_is}
use Rattle.checked_spec.proofs.FunctionFitting.{Fits, FitAll}

-- ---- the parameters of a value function are no streams
abbrev pub IsNoStream : ExprType → Type 0
IsNoStream (expr_type.Stream v) = ⊥
IsNoStream t = Unit {0}

pub mapped_some : {A B : Type 0} (P : B → Type 0) (f : A → B) (o : Option A) (y : B) → option_map f o ≡ Some y → ((x : A) → P (f x)) → P y
mapped_some P f (Some x) y h all = subst P (same_Some (f x) y h) (all x)
mapped_some P f None y h all = absurd (none-some y h)

no_stream : (y : TypeName) (t : ExprType) → is_events y ≡ false → as_written y ≡ Some t → IsNoStream t
no_stream (tree.EventsType p y) t h is = absurd (true≢false h)
no_stream (tree.OptionType p y) t h is = mapped_some IsNoStream expr_type.Optional (value_of y) t is (λ _. tt)
no_stream (tree.UnitType p) t h is = mapped_some IsNoStream expr_type.Value (value_of (tree.UnitType p)) t is (λ _. tt)
no_stream (tree.IntType p) t h is = mapped_some IsNoStream expr_type.Value (value_of (tree.IntType p)) t is (λ _. tt)
no_stream (tree.BoolType p) t h is = mapped_some IsNoStream expr_type.Value (value_of (tree.BoolType p)) t is (λ _. tt)
no_stream (tree.TextType p) t h is = mapped_some IsNoStream expr_type.Value (value_of (tree.TextType p)) t is (λ _. tt)
no_stream (tree.AggregateType p a) t h is = mapped_some IsNoStream expr_type.Value (value_of (tree.AggregateType p a)) t is (λ _. tt)

no_events : (b : Bool) → (if b then false else true) ≡ true → b ≡ false
no_events true h = absurd (false≢true h)
no_events false h = refl

no_streams : (ps : List Param) (ts : List ExprType) → list_all (λ q. if is_events q.of then false else true) ps ≡ true → param_types ps ≡ Some ts → AllByRecursion IsNoStream ts
no_streams [] ts h is = subst (AllByRecursion IsNoStream) (same_Some [] ts is) tt
no_streams (p ∷ ps) ts h is =
    let c = cons_is (as_written p.of) (param_types ps) ts is in
    let both = and_parts (if is_events p.of then false else true) (list_all (λ q. if is_events q.of then false else true) ps) h in
    subst (AllByRecursion IsNoStream) (sym c.are) (no_stream p.of c.a (no_events (is_events p.of) both.0) c.first, no_streams ps c.rest both.1 c.more)

values_listed : (ps : List Param) → are_values ps ≡ true → list_all (λ q. if is_events q.of then false else true) ps ≡ true
values_listed [] h = absurd (false≢true h)
values_listed (p ∷ ps) h = h

-- as many types as parameters
types_long : (ps : List Param) (ts : List ExprType) → param_types ps ≡ Some ts → length ps ≡ length ts
types_long [] ts is = ap length (same_Some [] ts is)
types_long (p ∷ ps) ts is =
    let c = cons_is (as_written p.of) (param_types ps) ts is in
    ap suc (types_long ps c.rest c.more) ∙ ap length (sym c.are)

-- ---- what an item takes and gives
pub record IsCallee (items : List tree.Item) (kinds : Kinds) (i : ℕ) (c : Callee) : Type 0 where
  pub types : param_types (params_of (slice_get items i)) ≡ Some c.params
  pub result : kinds.item i ≡ Some c.result

pub callee_is : (items : List tree.Item) (kinds : Kinds) (i : ℕ) (c : Callee) → callee items kinds i ≡ Some c → IsCallee items kinds i c
callee_is items kinds i c h = by (param_types (params_of (slice_get items i))) (kinds.item i) refl refl h
  where
    by : (x : Option (List ExprType)) (y : Option ExprType) → param_types (params_of (slice_get items i)) ≡ x → kinds.item i ≡ y → callee_of x y ≡ Some c → IsCallee items kinds i c
    by (Some ts) (Some r) first second h =
        let same = same_Some _ c h in
        record { types = first ∙ ap (λ d. Some d.params) same; result = second ∙ ap (λ d. Some d.result) same }
    by (Some ts) None first second h = absurd (none-some c h)
    by None y first second h = absurd (none-some c h)

pub takes_as_many : (items : List tree.Item) (kinds : Kinds) (i : ℕ) (c : Callee) → callee items kinds i ≡ Some c → length (params_of (slice_get items i)) ≡ length c.params
takes_as_many items kinds i c h = types_long (params_of (slice_get items i)) c.params (callee_is items kinds i c h).types

pub takes_values : (items : List tree.Item) (kinds : Kinds) (i : ℕ) (c : Callee) → are_values (params_of (slice_get items i)) ≡ true → callee items kinds i ≡ Some c → AllByRecursion IsNoStream c.params
takes_values items kinds i c values h = no_streams (params_of (slice_get items i)) c.params (values_listed (params_of (slice_get items i)) values) (callee_is items kinds i c h).types

-- ---- a call asks for just these arguments
none_lifted : (ts : List ExprType) → map (lifted_type setting.Values) ts ≡ ts
none_lifted [] = refl
none_lifted (t ∷ ts) = ap (λ us. t ∷ us) (none_lifted ts)

each_is : (ps args : List ExprType) → length args ≡ length ps → ask_each ps args ≡ Ok tt → args ≡ ps
each_is [] [] long h = refl
each_is [] (a ∷ args) long h = absurd (omega arith)
each_is (p ∷ ps) [] long h = absurd (omega arith)
each_is (p ∷ ps) (a ∷ args) long h =
    let c = checked (ask (asked.Exactly p) a) (ask_each ps args) tt h in
    let is = exactly p a c.0 in
    let rest = each_is ps args (let e : length args ≡ length ps = omega arith in e) c.1 in
    λ i. is i ∷ rest i

pub record IsCalled (params : List ExprType) (result : ExprType) (args : List ExprType) (u : ExprType) : Type 0 where
  pub takes : args ≡ params
  pub gives : result ≡ u

called_is : (params : List ExprType) (result : ExprType) (args : List ExprType) (u : ExprType) → length args ≡ length params → macro_rule params result args ≡ Ok u → IsCalled params result args u
called_is params result args u long h =
    let c = checked (ask_each params args) (Ok result) u h in
    record { takes = each_is params args long c.0; gives = same_Ok result u c.1 }

pub function_called : (params : List ExprType) (result : ExprType) (args : List ExprType) (u : ExprType) → length args ≡ length params → function_rule setting.Values params result args ≡ Ok u → IsCalled params result args u
function_called params result args u long h = by (has_options params result) h
  where
    by : (b : Bool) → cond b (macro_rule params result args) (macro_rule (map (lifted_type setting.Values) params) (lifted_type setting.Values result) args) ≡ Ok u → IsCalled params result args u
    by true h = called_is params result args u long h
    by false h = called_is params result args u long (ap (λ ps. macro_rule ps result args) (sym (none_lifted params)) ∙ h)

-- ---- trees of types that are no streams
pub fits_type : (ks : List ValueKind) (t : BodyTree) (u : ExprType) → HasType ks t u → Fits ks t u
fits_type ks t (expr_type.Value v) h = h
fits_type ks t (expr_type.Optional v) h = h
fits_type ks t (expr_type.Stream v) h = tt

pub has_type : (ks : List ValueKind) (t : BodyTree) (u : ExprType) → IsNoStream u → Fits ks t u → HasType ks t u
has_type ks t (expr_type.Value v) none h = h
has_type ks t (expr_type.Optional v) none h = h
has_type ks t (expr_type.Stream v) none h = absurd none

pub have_types : (ks : List ValueKind) (ts : List BodyTree) (us : List ExprType) → AllByRecursion IsNoStream us → FitAll ks ts us → HaveTypes ks ts us
have_types ks [] [] none h = tt
have_types ks [] (u ∷ us) none h = absurd h
have_types ks (t ∷ ts) [] none h = absurd h
have_types ks (t ∷ ts) (u ∷ us) none h = (has_type ks t u none.0 h.0, have_types ks ts us none.1 h.1)

-- ---- each operand is of the type of its parameter
pub parameter_fits : (ks : List ValueKind) (args : List BodyTree) (ps : List Param) (us : List ExprType) → param_types ps ≡ Some us → HaveTypes ks args us → (k : ℕ) (u : ExprType) → option_and_then (λ p. as_written p.of) (slice_get ps k) ≡ Some u → Fits ks (slice_index_or args k no_tree) u
parameter_fits ks args [] us types have k u is = absurd (none-some u is)
parameter_fits ks [] (p ∷ ps) us types have k u is =
    let c = cons_is (as_written p.of) (param_types ps) us types in
    absurd (subst (HaveTypes ks []) c.are have)
parameter_fits ks (t ∷ ts) (p ∷ ps) us types have zero u is =
    let c = cons_is (as_written p.of) (param_types ps) us types in
    let both = subst (HaveTypes ks (t ∷ ts)) c.are have in
    subst (Fits ks t) (same_Some c.a u (sym c.first ∙ is)) (fits_type ks t c.a both.0)
parameter_fits ks (t ∷ ts) (p ∷ ps) us types have (suc k) u is =
    let c = cons_is (as_written p.of) (param_types ps) us types in
    let both = subst (HaveTypes ks (t ∷ ts)) c.are have in
    parameter_fits ks ts ps c.rest c.more both.1 k u is
