-- Calls of value functions among streams.
use Rattle.std.proofs.Common.{◌≡◌, ℕ, suc, ◌≤◌, Bool, true, false, cond, List, [], ◌∷◌, map, length, Some, refl, ap, sym, subst, ◌∙◌, arith}
use Rattle.std.specs.Prelude.{Ok, slice_get}
use Rattle.std.specs.List.{AllByRecursion, list_any}
use Rattle.std.proofs.lemmas.Bool.{true≢false, or_parts}
use Rattle.tsl_value.specs.declared.scalar.ValueType.{ValueType}
use Rattle.tsl_value.specs.declared.scalar.ValueType.TheVariants as value_type
use Rattle.tsl_value.specs.Aggregate.{is_aggregate}
use Rattle.lift_func.specs.BodyTree.{BodyTree}
use Rattle.lift_func.specs.Typing.{ValueKind}
use Rattle.syntax_tree.specs.Tree as tree
use Rattle.name_check.specs.Scope.{are_values}
use Rattle.type_rules.specs.declared.rule.ExprType.{ExprType}
use Rattle.type_rules.specs.declared.rule.ExprType.TheVariants as expr_type
use Rattle.type_rules.specs.declared.rule.Setting.TheVariants as setting
use Rattle.type_rules.specs.declared.rule.Asked.TheVariants as asked
use Rattle.type_rules.specs.Asked.{ask, inner}
use Rattle.type_rules.specs.Rules.{ask_each, macro_rule, is_optional, lifted_type, has_options, function_rule}
use Rattle.expr_types.specs.Around.{Callee}
use Rattle.type_rules.specs.Kinds.{Kinds}
use Rattle.syntax_tree.specs.Tree.{params_of}
use Rattle.spec_meaning.specs.Function.{function_at}
use Rattle.checked_spec.specs.inner.Functions.{HasType, HaveTypes, IsScalarResult, callee, IsTypedFunction}
use Rattle.checked_spec.proofs.SameLemmas.{exactly}
use Rattle.checked_spec.proofs.FunctionAsks.{checked, same_Ok}
use Rattle.checked_spec.proofs.Callees.{IsNoStream, takes_as_many, takes_values}
use Rattle.checked_spec.proofs.Operands.{streams, AreTrees}
use Rattle.checked_spec.proofs.Fitting.{IsSignal}

-- ---- the arguments of a function without options
record AreLifted (ps args : List ExprType) : Type 0 where
  ts : List ValueType
  are : args ≡ streams ts
  long : length ts ≡ length args
  typed : (ks : List ValueKind) (fs : List BodyTree) → AreTrees ks fs ts → HaveTypes ks fs ps

lifted_more : (v : ValueType) (ps args : List ExprType) (a : ExprType) → a ≡ expr_type.Stream v → AreLifted ps args → AreLifted (expr_type.Value v ∷ ps) (a ∷ args)
lifted_more v ps args a is more = record { ts = v ∷ more.ts; are = λ i. is i ∷ more.are i; long = ap suc more.long; typed = typed }
  where
    typed : (ks : List ValueKind) (fs : List BodyTree) → AreTrees ks fs (v ∷ more.ts) → HaveTypes ks fs (expr_type.Value v ∷ ps)
    typed ks [] h = absurd h
    typed ks (f ∷ fs) h = (h.0, more.typed ks fs h.1)

arguments_lifted : (ps args : List ExprType) → AllByRecursion IsNoStream ps → list_any is_optional ps ≡ false → length args ≡ length ps → ask_each (map (lifted_type setting.Streams) ps) args ≡ Ok tt → AreLifted ps args
arguments_lifted [] [] values plain long h = record { ts = []; are = refl; long = refl; typed = λ ks fs k. none ks fs k }
  where
    none : (ks : List ValueKind) (fs : List BodyTree) → AreTrees ks fs [] → HaveTypes ks fs []
    none ks [] k = tt
    none ks (f ∷ fs) k = absurd k
arguments_lifted [] (a ∷ args) values plain long h = absurd (omega arith)
arguments_lifted (p ∷ ps) [] values plain long h = absurd (omega arith)
arguments_lifted (expr_type.Value v ∷ ps) (a ∷ args) values plain long h =
    let c = checked (ask (asked.Exactly (expr_type.Stream v)) a) (ask_each (map (lifted_type setting.Streams) ps) args) tt h in
    lifted_more v ps args a (exactly (expr_type.Stream v) a c.0) (arguments_lifted ps args values.1 plain (let e : length args ≡ length ps = omega arith in e) c.1)
arguments_lifted (expr_type.Stream v ∷ ps) (a ∷ args) values plain long h = absurd values.0
arguments_lifted (expr_type.Optional v ∷ ps) (a ∷ args) values plain long h = absurd (true≢false plain)

-- ---- its result
record IsLiftedResult (r : ExprType) (t : ValueType) : Type 0 where
  is : r ≡ expr_type.Value t
  scalar : is_aggregate t ≡ false

lifted_result : (r : ExprType) (t : ValueType) → IsScalarResult r → is_optional r ≡ false → lifted_type setting.Streams r ≡ expr_type.Stream t → IsLiftedResult r t
lifted_result (expr_type.Value (value_type.Scalar s)) t scalar plain h = let e = ap inner h in record { is = ap expr_type.Value e; scalar = ap is_aggregate (sym e) }
lifted_result (expr_type.Value of) t scalar plain h = absurd scalar
lifted_result (expr_type.Optional v) t scalar plain h = absurd (true≢false plain)
lifted_result (expr_type.Stream v) t scalar plain h = absurd scalar

no_stream_result : (P : Type 0) (r : ExprType) (t : ValueType) → IsScalarResult r → r ≡ expr_type.Stream t → P
no_stream_result P r t scalar is = absurd (subst IsScalarResult is scalar)

-- ---- a call among streams is a signal
pub function_signal : (items : List tree.Item) (kinds : Kinds) (i : ℕ) (c : Callee) (args : List ExprType) (t : ValueType) → are_values (params_of (slice_get items i)) ≡ true → IsTypedFunction items kinds i → callee items kinds i ≡ Some c → length args ≡ length (params_of (slice_get items i)) → function_rule setting.Streams c.params c.result args ≡ Ok (expr_type.Stream t) → IsSignal false (function_at items i) args t
function_signal items kinds i c args t values f is long h = by (has_options c.params c.result) refl h
  where
    made : has_options c.params c.result ≡ false → macro_rule (map (lifted_type setting.Streams) c.params) (lifted_type setting.Streams c.result) args ≡ Ok (expr_type.Stream t) → IsSignal false (function_at items i) args t
    made plain h =
        let both = or_parts (list_any is_optional c.params) (is_optional c.result) plain in
        let k = checked (ask_each (map (lifted_type setting.Streams) c.params) args) (Ok (lifted_type setting.Streams c.result)) (expr_type.Stream t) h in
        let a = arguments_lifted c.params args (takes_values items kinds i c values is) both.0 (long ∙ takes_as_many items kinds i c is) k.0 in
        let r = lifted_result c.result t (f.result c is) both.1 (same_Ok (lifted_type setting.Streams c.result) (expr_type.Stream t) k.1) in
        let as_many : length a.ts ≡ length args = a.long in
        let few : length (params_of (slice_get items i)) ≤ 8 = f.few in
        let enough : length a.ts ≤ 8 = omega arith in
        record {
          ts = a.ts;
          are = a.are;
          few = enough;
          scalar = λ _. r.scalar;
          typed = λ ks fs trees. subst (HasType ks (function_at items i fs)) r.is (f.body c ks fs is (a.typed ks fs trees));
        }

    by : (b : Bool) → has_options c.params c.result ≡ b → cond b (macro_rule c.params c.result args) (macro_rule (map (lifted_type setting.Streams) c.params) (lifted_type setting.Streams c.result) args) ≡ Ok (expr_type.Stream t) → IsSignal false (function_at items i) args t
    by true options h =
        let k = checked (ask_each c.params args) (Ok c.result) (expr_type.Stream t) h in
        no_stream_result (IsSignal false (function_at items i) args t) c.result t (f.result c is) (same_Ok c.result (expr_type.Stream t) k.1)
    by false plain h = made plain h
