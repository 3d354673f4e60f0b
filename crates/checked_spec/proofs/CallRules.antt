-- What the language's own names ask that their rules allow.
use Rattle.std.proofs.Common.{◌≡◌, ℕ, Bool, true, [], ◌∷◌, ap, sym, ◌∙◌}
use Rattle.std.specs.Prelude.{Ok}
use Rattle.tsl_value.specs.View.{type_of as scalar_type_of}
use Rattle.tsl_value.specs.declared.scalar.Scalar.{Scalar}
use Rattle.tsl_value.specs.declared.scalar.ValueType.{ValueType}
use Rattle.tsl_value.specs.declared.scalar.ValueType.TheVariants as value_type
use Rattle.type_rules.specs.declared.rule.ExprType.{ExprType}
use Rattle.type_rules.specs.declared.rule.ExprType.TheVariants as expr_type
use Rattle.type_rules.specs.declared.rule.Family.TheVariants as family
use Rattle.type_rules.specs.declared.rule.Setting.TheVariants as setting
use Rattle.type_rules.specs.declared.rule.Asked.TheVariants as asked
use Rattle.type_rules.specs.declared.rule.Builtin.TheVariants as builtin
use Rattle.type_rules.specs.Asked.{ask, and_then, inner, unit, int, bool}
use Rattle.type_rules.specs.Rules.{ask_two, any_stream, const_rule, builtin_one, builtin_two}
use Rattle.stream_constructs.specs.declared.construct.Stream.{Stream}
use Rattle.stream_constructs.specs.Construct.{Construct}
use Rattle.stream_constructs.specs.Construct as construct
use Rattle.stream_constructs.specs.Agree.{Fits}
use Rattle.spec_meaning.specs.Makes.{with_itself}
use Rattle.checked_spec.proofs.SameLemmas.{exactly}
use Rattle.checked_spec.proofs.FunctionAsks.{checked, of_family, same_Ok}
use Rattle.checked_spec.proofs.Asks.{stream_of}
use Rattle.checked_spec.proofs.Fitting.{IsPlain, one_part, two_parts}

plain_one : (c : Construct) (x : ExprType) (a t : ValueType) → x ≡ expr_type.Stream a → ((n : ℕ) (v : Stream) → v.of ≡ a → Fits c (with_itself c n (v ∷ [])) t) → IsPlain c (x ∷ []) t
plain_one c x a t is fits = record {
  ts = a ∷ [];
  are = λ i. is i ∷ [];
  fits = λ n parts h. one_part (λ ps. Fits c (with_itself c n ps) t) parts a h (fits n);
}

plain_two : (c : Construct) (x y : ExprType) (a b t : ValueType) → x ≡ expr_type.Stream a → y ≡ expr_type.Stream b → ((n : ℕ) (v w : Stream) → v.of ≡ a → w.of ≡ b → Fits c (with_itself c n (v ∷ w ∷ [])) t) → IsPlain c (x ∷ y ∷ []) t
plain_two c x y a b t first second fits = record {
  ts = a ∷ b ∷ [];
  are = λ i. first i ∷ second i ∷ [];
  fits = λ n parts h. two_parts (λ ps. Fits c (with_itself c n ps) t) parts a b h (fits n);
}

pub time_fits : (x : ExprType) (t : ValueType) → builtin_one builtin.Time x ≡ Ok (expr_type.Stream t) → IsPlain construct.Time (x ∷ []) t
time_fits x t h =
    let c = checked (ask any_stream x) (Ok (expr_type.Stream int)) (expr_type.Stream t) h in
    let s = of_family setting.Streams family.Any x c.0 in
    plain_one construct.Time x s.of t s.is (λ n v is. sym (stream_of int t c.1))

pub last_fits : (x y : ExprType) (t : ValueType) → builtin_two builtin.Last x y ≡ Ok (expr_type.Stream t) → IsPlain construct.Last (x ∷ y ∷ []) t
last_fits x y t h =
    let c = checked (ask any_stream x) (and_then (ask any_stream y) (Ok x)) (expr_type.Stream t) h in
    let d = checked (ask any_stream y) (Ok x) (expr_type.Stream t) c.1 in
    let r = of_family setting.Streams family.Any y d.0 in
    plain_two construct.Last x y t r.of t (same_Ok x (expr_type.Stream t) d.1) r.is (λ n v w is also. sym is)

pub delay_fits : (x y : ExprType) (t : ValueType) → builtin_two builtin.Delay x y ≡ Ok (expr_type.Stream t) → IsPlain construct.Delay (x ∷ y ∷ []) t
delay_fits x y t h =
    let c = checked (ask (asked.Exactly (expr_type.Stream int)) x) (and_then (ask any_stream y) (Ok (expr_type.Stream unit))) (expr_type.Stream t) h in
    let d = checked (ask any_stream y) (Ok (expr_type.Stream unit)) (expr_type.Stream t) c.1 in
    let r = of_family setting.Streams family.Any y d.0 in
    plain_two construct.Delay x y int r.of t (exactly (expr_type.Stream int) x c.0) r.is (λ n v w is also. (sym (stream_of unit t d.1), is))

pub merge_fits : (x y : ExprType) (t : ValueType) → builtin_two builtin.Merge x y ≡ Ok (expr_type.Stream t) → IsPlain construct.Merge (x ∷ y ∷ []) t
merge_fits x y t h =
    let c = checked (ask_two any_stream x y) (Ok x) (expr_type.Stream t) h in
    let d = checked (ask any_stream x) (ask (asked.Exactly x) y) tt c.0 in
    let is = same_Ok x (expr_type.Stream t) c.1 in
    plain_two construct.Merge x y t t t is (exactly x y d.1 ∙ is) (λ n v w first second. (sym first, second ∙ sym first))

record IsFiltered (x y : ExprType) (t : ValueType) : Type 0 where
  first : x ≡ expr_type.Stream t
  second : y ≡ expr_type.Stream bool

filtered : (x y : ExprType) (t : ValueType) → builtin_two builtin.Filter x y ≡ Ok (expr_type.Stream t) → IsFiltered x y t
filtered x y t h =
    let c = checked (ask any_stream x) (and_then (ask (asked.Exactly (expr_type.Stream bool)) y) (Ok x)) (expr_type.Stream t) h in
    let d = checked (ask (asked.Exactly (expr_type.Stream bool)) y) (Ok x) (expr_type.Stream t) c.1 in
    record { first = same_Ok x (expr_type.Stream t) d.1; second = exactly (expr_type.Stream bool) y d.0 }

pub filter_fits : (x y : ExprType) (t : ValueType) → builtin_two builtin.Filter x y ≡ Ok (expr_type.Stream t) → IsPlain construct.Filter (x ∷ y ∷ []) t
filter_fits x y t h =
    let f = filtered x y t h in
    plain_two construct.Filter x y t bool t f.first f.second (λ n v w first second. (sym first, second))

pub filter_by_fits : (b : Bool) (x y : ExprType) (t : ValueType) → builtin_two builtin.Filter x y ≡ Ok (expr_type.Stream t) → IsPlain (construct.FilterBy b) (x ∷ []) t
filter_by_fits b x y t h =
    let f = filtered x y t h in
    plain_one (construct.FilterBy b) x t t f.first (λ n v is. sym is)

pub const_fits : (s : Scalar) (x y : ExprType) (t : ValueType) → x ≡ expr_type.Stream (value_type.Scalar (scalar_type_of s)) → const_rule true x y ≡ Ok (expr_type.Stream t) → IsPlain (construct.Const s) (y ∷ []) t
const_fits s x y t is h =
    let c = checked (ask any_stream y) (Ok (expr_type.Stream (inner x))) (expr_type.Stream t) h in
    let r = of_family setting.Streams family.Any y c.0 in
    plain_one (construct.Const s) y r.of t r.is (λ n v also. sym (stream_of (inner x) t c.1) ∙ ap inner is)
