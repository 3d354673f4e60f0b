-- Calls of `lift`.
use Rattle.std.proofs.Common.{◌≡◌, ℕ, suc, ◌+◌, ◌≤◌, List, [], ◌∷◌, ◌++◌, map, length, Some, refl, ap, sym, subst, ◌∙◌, append_assoc, arith}
use Rattle.std.specs.Prelude.{Ok, slice_get}
use Rattle.std.proofs.lemmas.Option.{same_Some}
use Rattle.tsl_value.specs.declared.scalar.ValueType.{ValueType}
use Rattle.tsl_value.specs.declared.scalar.ValueType.TheVariants as value_type
use Rattle.lift_func.specs.Typing.{ValueKind, Optional, HasKind, argument}
use Rattle.syntax_tree.specs.Tree as tree
use Rattle.syntax_tree.specs.Tree.{Expr, Exprs, no_exprs, more_exprs}
use Rattle.type_rules.specs.declared.rule.ExprType.{ExprType}
use Rattle.type_rules.specs.declared.rule.ExprType.TheVariants as expr_type
use Rattle.type_rules.specs.declared.rule.Family.TheVariants as family
use Rattle.type_rules.specs.declared.rule.Setting.TheVariants as setting
use Rattle.type_rules.specs.declared.rule.Asked.TheVariants as asked
use Rattle.type_rules.specs.Asked.{ask, and_then, inner}
use Rattle.type_rules.specs.Rules.{any_stream, ask_streams, ask_options, lift_rule}
use Rattle.form_check.specs.Arity as form
use Rattle.form_check.specs.Arity.{count}
use Rattle.expr_types.specs.Around.{Around, Callee}
use Rattle.type_rules.specs.Kinds.{Kinds}
use Rattle.syntax_tree.specs.Tree.{params_of}
use Rattle.expr_types.specs.Judge.{type_of, streams_of, last_of, function_of}
use Rattle.stream_constructs.specs.declared.construct.Stream.{Stream}
use Rattle.stream_constructs.specs.Construct as construct
use Rattle.stream_constructs.specs.Agree.{IsScalar}
use Rattle.spec_meaning.specs.Occurrence.{Call, scope_at}
use Rattle.spec_meaning.specs.Function.{function_body, arguments_from}
use Rattle.spec_meaning.specs.Shape.{expressions, lift_by, function_named, lift_shape}
use Rattle.checked_spec.specs.inner.Functions.{HasType, HaveTypes, IsScalarResult, callee, IsTypedFunction}
use Rattle.checked_spec.proofs.SameLemmas.{exactly}
use Rattle.checked_spec.proofs.FunctionAsks.{checked, of_family}
use Rattle.checked_spec.proofs.Asks.{stream_of}
use Rattle.checked_spec.proofs.FunctionRead.{cons_is}
use Rattle.checked_spec.proofs.Read.{AreTyped}
use Rattle.checked_spec.proofs.Operands.{streams, AreOf}
use Rattle.checked_spec.proofs.Fitting.{IsPlain}
use Rattle.checked_spec.proofs.Callees.{takes_as_many}

-- ---- all arguments but the last, and the last
abbrev pub front : Expr → Exprs → List Expr
front e no_exprs = []
front e (more_exprs f es) = e ∷ front f es

abbrev pub final : Expr → Exprs → Expr
final e no_exprs = e
final e (more_exprs f es) = final f es

pub form_final : (e : Expr) (es : Exprs) → form.last_of (more_exprs e es) ≡ Some (final e es)
form_final e no_exprs = refl
form_final e (more_exprs f es) = form_final f es

pub judged_final : (at : Around) (e : Expr) (es : Exprs) → last_of at (more_exprs e es) ≡ function_of at (final e es)
judged_final at e no_exprs = refl
judged_final at e (more_exprs f es) = judged_final at f es

append_nil : {A : Type 0} (xs : List A) → xs ++ [] ≡ xs
append_nil [] = refl
append_nil (x ∷ xs) = ap (λ ys. x ∷ ys) (append_nil xs)

pub shape_final : (items : List tree.Item) (cs : List Call) (before : List Expr) (e : Expr) (es : Exprs) → lift_shape items cs before (expressions (more_exprs e es)) ≡ lift_by items cs (before ++ front e es) (final e es) (function_named items (scope_at items cs) (final e es))
shape_final items cs before e no_exprs = ap (λ ss. lift_by items cs ss e (function_named items (scope_at items cs) e)) (sym (append_nil before))
shape_final items cs before e (more_exprs f es) =
    shape_final items cs (before ++ e ∷ []) f es
    ∙ ap (λ ss. lift_by items cs ss (final f es) (function_named items (scope_at items cs) (final f es))) (append_assoc before (e ∷ []) (front f es))

pub front_typed : (at : Around) (e : Expr) (es : Exprs) (args : List ExprType) → streams_of at (more_exprs e es) ≡ Some args → AreTyped at (front e es) args
front_typed at e no_exprs args h = subst (AreTyped at []) (same_Some [] args h) tt
front_typed at e (more_exprs f es) args h =
    let c = cons_is (type_of at e) (streams_of at (more_exprs f es)) args h in
    subst (AreTyped at (e ∷ front f es)) (sym c.are) (c.first, front_typed at f es c.rest c.more)

pub front_count : (at : Around) (e : Expr) (es : Exprs) (args : List ExprType) → streams_of at (more_exprs e es) ≡ Some args → suc (length args) ≡ count (more_exprs e es)
front_count at e no_exprs args h = ap (λ ts. suc (length ts)) (sym (same_Some [] args h))
front_count at e (more_exprs f es) args h =
    let c = cons_is (type_of at e) (streams_of at (more_exprs f es)) args h in
    ap (λ ts. suc (length ts)) c.are ∙ ap suc (front_count at f es c.rest c.more)

-- ---- what its rule allows
record AreStreams (args : List ExprType) : Type 0 where
  ts : List ValueType
  are : args ≡ streams ts

streams_asked : (args : List ExprType) → ask_streams args ≡ Ok tt → AreStreams args
streams_asked [] h = record { ts = []; are = refl }
streams_asked (a ∷ args) h =
    let c = checked (ask any_stream a) (ask_streams args) tt h in
    let s = of_family setting.Streams family.Any a c.0 in
    let more = streams_asked args c.1 in
    record { ts = s.of ∷ more.ts; are = λ i. s.is i ∷ more.are i }

abbrev options : List ValueType → List ExprType
options ts = map expr_type.Optional ts

options_asked : (ts : List ValueType) (ps : List ExprType) → length ts ≡ length ps → ask_options (streams ts) ps ≡ Ok tt → ps ≡ options ts
options_asked [] [] long h = refl
options_asked [] (p ∷ ps) long h = absurd (omega arith)
options_asked (t ∷ ts) [] long h = absurd (omega arith)
options_asked (t ∷ ts) (p ∷ ps) long h =
    let c = checked (ask (asked.Exactly (expr_type.Optional t)) p) (ask_options (streams ts) ps) tt h in
    let is = exactly (expr_type.Optional t) p c.0 in
    let more = options_asked ts ps (let e : length ts ≡ length ps = omega arith in e) c.1 in
    λ i. is i ∷ more i

-- ---- the arguments of a body are what its parts are
abbrev kinds_of : List ValueType → List ValueKind
kinds_of ts = map Optional ts

kinds_are : (parts : List Stream) (ts : List ValueType) → AreOf parts ts → kinds_of ts ≡ map (λ a. Optional a.of) parts
kinds_are [] [] h = refl
kinds_are [] (t ∷ ts) h = absurd h
kinds_are (a ∷ parts) [] h = absurd h
kinds_are (a ∷ parts) (t ∷ ts) h = let more = kinds_are parts ts h.1 in λ i. Optional (sym h.0 i) ∷ more i

parts_long : (parts : List Stream) (ts : List ValueType) → AreOf parts ts → length parts ≡ length ts
parts_long [] [] h = refl
parts_long [] (t ∷ ts) h = absurd h
parts_long (a ∷ parts) [] h = absurd h
parts_long (a ∷ parts) (t ∷ ts) h = ap suc (parts_long parts ts h.1)

arguments_typed : {A : Type 0} (ks : List ValueKind) (k : ℕ) (xs : List A) (ts : List ValueType) → length xs ≡ length ts → ((j : ℕ) → slice_get ks (k + j) ≡ slice_get (kinds_of ts) j) → HaveTypes ks (arguments_from k xs) (options ts)
arguments_typed ks k [] [] long same = tt
arguments_typed ks k [] (t ∷ ts) long same = absurd (omega arith)
arguments_typed ks k (x ∷ xs) [] long same = absurd (omega arith)
arguments_typed ks k (x ∷ xs) (t ∷ ts) long same =
    let here : k ≡ k + 0 = omega arith in
    let rest : length xs ≡ length ts = omega arith in (
      argument (ap (slice_get ks) here ∙ same 0),
      arguments_typed ks (suc k) xs ts rest (λ j. let next : suc k + j ≡ k + suc j = omega arith in ap (slice_get ks) next ∙ same (suc j)),
    )

scalar_option : (r : ExprType) (t : ValueType) → IsScalarResult r → r ≡ expr_type.Optional t → IsScalar t
scalar_option r t scalar is = by t (subst IsScalarResult is scalar)
  where
    by : (t : ValueType) → IsScalarResult (expr_type.Optional t) → IsScalar t
    by (value_type.Scalar s) h = record { scalar = s; is = refl }
    by t h = absurd h

-- as many streams as its function takes, and that is one to eight
pub lift_fits : (items : List tree.Item) (kinds : Kinds) (i : ℕ) (c : Callee) (args : List ExprType) (t : ValueType) → IsTypedFunction items kinds i → callee items kinds i ≡ Some c → length args ≡ length (params_of (slice_get items i)) → 1 ≤ length args → lift_rule args c.params c.result ≡ Ok (expr_type.Stream t) → IsPlain (construct.Lift (function_body items i)) args t
lift_fits items kinds i c args t f is long some h =
    let k = checked (ask_streams args) (and_then (ask_options args c.params) (and_then (ask (asked.Exactly (expr_type.Optional (inner c.result))) c.result) (Ok (expr_type.Stream (inner c.result))))) (expr_type.Stream t) h in
    let l = checked (ask_options args c.params) (and_then (ask (asked.Exactly (expr_type.Optional (inner c.result))) c.result) (Ok (expr_type.Stream (inner c.result)))) (expr_type.Stream t) k.1 in
    let m = checked (ask (asked.Exactly (expr_type.Optional (inner c.result))) c.result) (Ok (expr_type.Stream (inner c.result))) (expr_type.Stream t) l.1 in
    let s = streams_asked args k.0 in
    let result = exactly (expr_type.Optional (inner c.result)) c.result m.0 ∙ ap expr_type.Optional (stream_of (inner c.result) t m.1) in
    by s.ts s.are (subst (λ ts. ask_options ts c.params ≡ Ok tt) s.are l.0) result
  where
    streams_long : (ts : List ValueType) → length (streams ts) ≡ length ts
    streams_long [] = refl
    streams_long (t ∷ ts) = ap suc (streams_long ts)

    by : (ts : List ValueType) → args ≡ streams ts → ask_options (streams ts) c.params ≡ Ok tt → c.result ≡ expr_type.Optional t → IsPlain (construct.Lift (function_body items i)) args t
    by ts are asked result =
        let as_many : length args ≡ length ts = ap length are ∙ streams_long ts in
        let takes : length (params_of (slice_get items i)) ≡ length c.params = takes_as_many items kinds i c is in
        let both : length ts ≡ length c.params = omega arith in
        let each : length (params_of (slice_get items i)) ≡ length ts = omega arith in
        let few : length (params_of (slice_get items i)) ≤ 8 = f.few in
        let typed = arguments_typed (kinds_of ts) 0 (params_of (slice_get items i)) ts each (λ j. let here : 0 + j ≡ j = omega arith in ap (slice_get (kinds_of ts)) here) in
        let body = f.body c (kinds_of ts) (arguments_from 0 (params_of (slice_get items i))) is (subst (HaveTypes (kinds_of ts) (arguments_from 0 (params_of (slice_get items i)))) (sym (options_asked ts c.params both asked)) typed) in
        record {
          ts = ts;
          are = are;
          fits = λ n parts h.
              let have : length parts ≡ length ts = parts_long parts ts h in
              let least : 1 ≤ length parts = omega arith in
              let most : length parts ≤ 8 = omega arith in (
                scalar_option c.result t (f.result c is) result,
                least,
                most,
                subst (λ ks. HasKind ks (function_body items i) (Optional t)) (kinds_are parts ts h) (subst (HasType (kinds_of ts) (function_body items i)) result body),
              );
        }
