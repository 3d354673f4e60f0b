-- Calls of names other than `lift`.
use Rattle.std.proofs.Common.{◌≡◌, ℕ, Bool, true, false, if◌then◌else◌, List, [], Option, Some, None, refl, sym, ap, subst, ◌∙◌}
use Rattle.std.specs.Option.{option_and_then}
use Rattle.syntax_tree.specs.Tree as tree
use Rattle.syntax_tree.specs.Tree.{Exprs, no_exprs, more_exprs}
use Rattle.vocabulary.specs.declared.plain.Plain.{Plain}
use Rattle.vocabulary.specs.declared.plain.Plain.TheVariants as plain
use Rattle.vocabulary.specs.PlainTable.{plain_of}
use Rattle.vocabulary.proofs.Plains.{is_found, spelled_as_found, said_of_plain, other_spelling}
use Rattle.name_check.specs.Builtin.{is_lift}
use Rattle.name_check.specs.inner.Shown.{nowhere}
use Rattle.type_rules.specs.declared.rule.ExprType.{ExprType}
use Rattle.type_rules.specs.declared.rule.Builtin.{Builtin}
use Rattle.type_rules.specs.Asked.{Verdict}
use Rattle.expr_types.specs.declared.stop.Stop.{Stop}
use Rattle.expr_types.specs.Around.{Around}
use Rattle.expr_types.specs.Judge.{judge, types_of, streams_of, last_of, lifted_by, rule_of, const_call, own_call, named_call, is_const, builtin_of}
use Rattle.expr_types.specs.inner.Steps.{argument_wrongs, stream_wrongs, inner_wrongs, plain_call}
use Rattle.expr_types.specs.inner.Answers.{Stops, IsWhole}
use Rattle.expr_types.proofs.StopLemmas.{stops_value, is_whole}

const_none : (es : Exprs) → const_call es None ≡ None
const_none no_exprs = refl
const_none (more_exprs e es) = refl

own_none : (o : Option Builtin) (at : Around) (n : List ℕ) → own_call o at n None ≡ None
own_none None at n = refl
own_none (Some o) at n = refl

named_none : (at : Around) (n : List ℕ) (es : Exprs) → named_call at n es None ≡ None
named_none at n es = by (is_const n)
  where
    by : (b : Bool) → (if b then const_call es None else own_call (builtin_of n) at n None) ≡ None
    by true = const_none es
    by false = own_none (builtin_of n) at n

pub call_stop : (at : Around) (n : List ℕ) (es : Exprs) (s : Stop) → is_lift n ≡ false → Stops (argument_wrongs at es) (types_of at es) s → Stops (inner_wrongs at (tree.Call nowhere n es)) (judge at (tree.Call nowhere n es)) s
call_stop at n es s other h =
    let P : Bool → Type 0 = λ b. Stops (if b then stream_wrongs at es else argument_wrongs at es) (if b then lifted_by (streams_of at es) (last_of at es) else named_call at n es (types_of at es)) s in
    subst P (sym other)
    (stops_value s (argument_wrongs at es) (types_of at es) (named_call at n es (types_of at es)) (λ none. ap (named_call at n es) none ∙ named_none at n es) h)

pub call_done : (at : Around) (n : List ℕ) (es : Exprs) (ts : Option (List ExprType)) (v : Option Verdict) → is_lift n ≡ false → (argument_wrongs at es ≡ []) × (ts ≡ types_of at es) → v ≡ named_call at n es ts → IsWhole (inner_wrongs at (tree.Call nowhere n es)) v × (v ≡ judge at (tree.Call nowhere n es))
call_done at n es ts v other h is =
    let P : Bool → Type 0 = λ b. IsWhole (if b then stream_wrongs at es else argument_wrongs at es) v × (v ≡ (if b then lifted_by (streams_of at es) (last_of at es) else named_call at n es (types_of at es))) in
    subst P (sym other) (is_whole (argument_wrongs at es) v h.0, is ∙ ap (named_call at n es) h.1)

-- ---- a call of a name, by what is found of it among the language's own
abbrev by_found : Around → List ℕ → Exprs → Option (List ExprType) → Option Plain → Option Verdict
by_found at n es ts o = if is_found plain.Const o then const_call es ts else own_call (option_and_then rule_of o) at n ts

as_found : (at : Around) (n : List ℕ) (es : Exprs) (ts : Option (List ExprType)) → named_call at n es ts ≡ by_found at n es ts (plain_of n)
unfolding builtin_of
as_found at n es ts = λ i. if spelled_as_found plain.Const n i then const_call es ts else own_call (said_of_plain rule_of n i) at n ts

pub named_plain : (at : Around) (p : Plain) (n : List ℕ) (es : Exprs) (ts : Option (List ExprType)) → Some p ≡ plain_of n → plain_call at p n es ts ≡ named_call at n es ts
named_plain at p n es ts is = ap (by_found at n es ts) is ∙ sym (as_found at n es ts)

pub named_other : (at : Around) (n : List ℕ) (es : Exprs) (ts : Option (List ExprType)) → None ≡ plain_of n → own_call None at n ts ≡ named_call at n es ts
named_other at n es ts is = ap (by_found at n es ts) is ∙ sym (as_found at n es ts)

pub ruled : (at : Around) (p : Plain) (n : List ℕ) (es : Exprs) (ts : Option (List ExprType)) → (p ≡ plain.Const → ⊥) → own_call (rule_of p) at n ts ≡ plain_call at p n es ts
ruled at p n es ts other =
    let same : plain_call at p n es ts ≡ own_call (rule_of p) at n ts = λ i. if other_spelling p plain.Const other i then const_call es ts else own_call (rule_of p) at n ts in
    sym same
