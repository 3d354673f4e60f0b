-- The arguments of a call, one after the other.
use Rattle.std.proofs.Common.{◌≡◌, ℕ, ◌+◌, ◌<◌, ◌≤◌, List, [], ◌∷◌, ◌++◌, length, get_or, drop, Option, Some, None, refl, sym, ap, ◌∙◌, append_assoc, arith}
use Rattle.std.proofs.lemmas.List.{append-nil, drop_all}
use Rattle.syntax_tree.specs.Tree.{Expr}
use Rattle.syntax_tree.specs.declared.tree.Param.{Param}
use Rattle.syntax_tree.specs.inner.OneLevel.{exprs_of, params_in}
use Rattle.type_rules.specs.declared.rule.ExprType.{ExprType}
use Rattle.type_rules.specs.Asked.{Verdict}
use Rattle.type_rules.specs.Written.{as_written}
use Rattle.expr_types.specs.declared.wrong.Wrong.{Wrong}
use Rattle.expr_types.specs.declared.stop.Stop.{Stop}
use Rattle.expr_types.specs.Around.{Around, Callee, cons, param_types}
use Rattle.expr_types.specs.Judge.{type_of, types_of, streams_of, last_of, function_of, lifted_by, wrongs}
use Rattle.expr_types.specs.inner.Steps.{argument_wrongs, stream_wrongs, joined, one_more}
use Rattle.expr_types.specs.inner.Answers.{Stops, IsWhole}
use Rattle.expr_types.proofs.StopLemmas.{stops_front, stops_same, is_whole}
use Rattle.tsl_value.proofs.Lists.{left_at}

joined_none : (ts : Option (List ExprType)) → joined ts None ≡ None
joined_none None = refl
joined_none (Some ts) = refl

pub joined_nil : (ts : Option (List ExprType)) → joined ts (Some []) ≡ ts
joined_nil None = refl
joined_nil (Some ts) = ap Some (append-nil ts)

pub joined_begin : (ts : Option (List ExprType)) → joined (Some []) ts ≡ ts
joined_begin None = refl
joined_begin (Some ts) = refl

joined_cons : (ts us : Option (List ExprType)) (t : Option ExprType) → joined (one_more ts t) us ≡ joined ts (cons t us)
joined_cons None us t = refl
joined_cons (Some ts) us None = refl
joined_cons (Some ts) None (Some t) = refl
joined_cons (Some ts) (Some us) (Some t) = ap Some (append_assoc ts (t ∷ []) us)

-- ---- a turn of the loop over arguments
rest_wrong : (at : Around) (es : List Expr) (i : ℕ) (e : Expr) → i < length es → e ≡ get_or es i e → argument_wrongs at (exprs_of (drop i es)) ≡ wrongs at e ++ argument_wrongs at (exprs_of (drop (i + 1) es))
rest_wrong at es i e h is = ap (λ l. argument_wrongs at (exprs_of l)) (left_at es i e h is)

rest_types : (at : Around) (es : List Expr) (i : ℕ) (e : Expr) → i < length es → e ≡ get_or es i e → types_of at (exprs_of (drop i es)) ≡ cons (type_of at e) (types_of at (exprs_of (drop (i + 1) es)))
rest_types at es i e h is = ap (λ l. types_of at (exprs_of l)) (left_at es i e h is)

pub arguments_fine : (at : Around) (es : List Expr) (i : ℕ) (e : Expr) (all : List Wrong) (t : Option ExprType) → i < length es → e ≡ get_or es i e → all ≡ argument_wrongs at (exprs_of (drop i es)) → (wrongs at e ≡ []) × (t ≡ type_of at e) → all ≡ argument_wrongs at (exprs_of (drop (i + 1) es))
arguments_fine at es i e all t h is done found =
    done ∙ rest_wrong at es i e h is ∙ ap (λ l. l ++ argument_wrongs at (exprs_of (drop (i + 1) es))) found.0

pub arguments_more : (at : Around) (es : List Expr) (i : ℕ) (e : Expr) (ts us all : Option (List ExprType)) (t : Option ExprType) → i < length es → e ≡ get_or es i e → joined ts (types_of at (exprs_of (drop i es))) ≡ all → (wrongs at e ≡ []) × (t ≡ type_of at e) → us ≡ one_more ts t → joined us (types_of at (exprs_of (drop (i + 1) es))) ≡ all
arguments_more at es i e ts us all t h is done found more =
    let rest = types_of at (exprs_of (drop (i + 1) es)) in
    ap (λ x. joined x rest) more ∙ joined_cons ts rest t ∙ ap (λ x. joined ts (cons x rest)) found.1
    ∙ ap (joined ts) (sym (rest_types at es i e h is)) ∙ done

pub arguments_stop : (at : Around) (es : List Expr) (i : ℕ) (e : Expr) (ts all : Option (List ExprType)) (ws : List Wrong) (s : Stop) → i < length es → e ≡ get_or es i e → ws ≡ argument_wrongs at (exprs_of (drop i es)) → joined ts (types_of at (exprs_of (drop i es))) ≡ all → Stops (wrongs at e) (type_of at e) s → Stops ws all s
arguments_stop at es i e ts all ws s h is fine done found =
    let rest = argument_wrongs at (exprs_of (drop (i + 1) es)) in
    let left = types_of at (exprs_of (drop (i + 1) es)) in
    stops_same s (wrongs at e ++ rest) ws all all (sym (fine ∙ rest_wrong at es i e h is)) refl
    (stops_front s (wrongs at e) rest (type_of at e) all
    (λ none. sym done ∙ ap (joined ts) (rest_types at es i e h is) ∙ ap (λ x. joined ts (cons x left)) none ∙ joined_none ts) found)

pub arguments_end : (at : Around) (es : List Expr) (i : ℕ) (ts all : Option (List ExprType)) (ws : List Wrong) → length es ≤ i → ws ≡ argument_wrongs at (exprs_of (drop i es)) → joined ts (types_of at (exprs_of (drop i es))) ≡ all → (ws ≡ []) × (ts ≡ all)
arguments_end at es i ts all ws h fine done = (
  fine ∙ ap (λ l. argument_wrongs at (exprs_of l)) (drop_all i es h),
  sym (joined_nil ts) ∙ ap (λ l. joined ts (types_of at (exprs_of l))) (sym (drop_all i es h)) ∙ done,
)

-- ---- the arguments of `lift`
streams_wrong : (at : Around) (es : List Expr) (f : Expr) → stream_wrongs at (exprs_of (es ++ f ∷ [])) ≡ argument_wrongs at (exprs_of es)
streams_wrong at [] f = refl
streams_wrong at (e ∷ []) f = refl
streams_wrong at (e ∷ x ∷ xs) f = ap (λ l. wrongs at e ++ l) (streams_wrong at (x ∷ xs) f)

streams_types : (at : Around) (es : List Expr) (f : Expr) → streams_of at (exprs_of (es ++ f ∷ [])) ≡ types_of at (exprs_of es)
streams_types at [] f = refl
streams_types at (e ∷ []) f = refl
streams_types at (e ∷ x ∷ xs) f = ap (cons (type_of at e)) (streams_types at (x ∷ xs) f)

streams_last : (at : Around) (es : List Expr) (f : Expr) → last_of at (exprs_of (es ++ f ∷ [])) ≡ function_of at f
streams_last at [] f = refl
streams_last at (e ∷ []) f = refl
streams_last at (e ∷ x ∷ xs) f = streams_last at (x ∷ xs) f

pub lift_stop : (at : Around) (all es : List Expr) (f : Expr) (s : Stop) → all ≡ es ++ f ∷ [] → Stops (argument_wrongs at (exprs_of es)) (types_of at (exprs_of es)) s → Stops (stream_wrongs at (exprs_of all)) (lifted_by (streams_of at (exprs_of all)) (last_of at (exprs_of all))) s
lift_stop at all es f s is h =
    stops_same s (argument_wrongs at (exprs_of es) ++ []) (stream_wrongs at (exprs_of all)) _ _
    (append-nil (argument_wrongs at (exprs_of es)) ∙ sym (ap (λ l. stream_wrongs at (exprs_of l)) is ∙ streams_wrong at es f)) refl
    (stops_front s (argument_wrongs at (exprs_of es)) [] (types_of at (exprs_of es)) (lifted_by (streams_of at (exprs_of all)) (last_of at (exprs_of all)))
    (λ none. ap (λ ts. lifted_by ts (last_of at (exprs_of all))) (ap (λ l. streams_of at (exprs_of l)) is ∙ streams_types at es f ∙ none)) h)

pub lift_done : (at : Around) (all es : List Expr) (f : Expr) (ts : Option (List ExprType)) (c : Option Callee) (v : Option Verdict) → all ≡ es ++ f ∷ [] → (argument_wrongs at (exprs_of es) ≡ []) × (ts ≡ types_of at (exprs_of es)) → c ≡ function_of at f → v ≡ lifted_by ts c → IsWhole (stream_wrongs at (exprs_of all)) v × (v ≡ lifted_by (streams_of at (exprs_of all)) (last_of at (exprs_of all)))
lift_done at all es f ts c v is h k done = (
  is_whole (stream_wrongs at (exprs_of all)) v (ap (λ l. stream_wrongs at (exprs_of l)) is ∙ streams_wrong at es f ∙ h.0),
  done ∙ ap (λ x. lifted_by x c) (h.1 ∙ sym (ap (λ l. streams_of at (exprs_of l)) is ∙ streams_types at es f))
      ∙ ap (lifted_by (streams_of at (exprs_of all))) (k ∙ sym (ap (λ l. last_of at (exprs_of l)) is ∙ streams_last at es f)),
)

pub lift_nothing : (at : Around) (all : List Expr) → length all ≡ 0 → (stream_wrongs at (exprs_of all) ≡ []) × (None ≡ lifted_by (streams_of at (exprs_of all)) (last_of at (exprs_of all)))
lift_nothing at [] h = (refl, refl)
lift_nothing at (e ∷ es) h = absurd (omega arith)

-- ---- parameters
params_left : (ps : List Param) (i : ℕ) (p : Param) → i < length ps → p ≡ get_or ps i p → param_types (params_in (drop i ps)) ≡ cons (as_written p.of) (param_types (params_in (drop (i + 1) ps)))
params_left ps i p h is = ap (λ l. param_types (params_in l)) (left_at ps i p h is)

pub params_turn : (ps : List Param) (i : ℕ) (p : Param) (ts us : List ExprType) (t : ExprType) (all : Option (List ExprType)) → i < length ps → p ≡ get_or ps i p → joined (Some ts) (param_types (params_in (drop i ps))) ≡ all → Some t ≡ as_written p.of → us ≡ ts ++ t ∷ [] → joined (Some us) (param_types (params_in (drop (i + 1) ps))) ≡ all
params_turn ps i p ts us t all h is done found more =
    let rest = param_types (params_in (drop (i + 1) ps)) in
    ap (λ x. joined (Some x) rest) more ∙ joined_cons (Some ts) rest (Some t) ∙ ap (λ x. joined (Some ts) (cons x rest)) found
    ∙ ap (joined (Some ts)) (sym (params_left ps i p h is)) ∙ done

pub params_none : (ps : List Param) (i : ℕ) (p : Param) (ts : List ExprType) (all : Option (List ExprType)) → i < length ps → p ≡ get_or ps i p → joined (Some ts) (param_types (params_in (drop i ps))) ≡ all → None ≡ as_written p.of → None ≡ all
params_none ps i p ts all h is done none =
    sym (ap (joined (Some ts)) (params_left ps i p h is) ∙ ap (λ x. joined (Some ts) (cons x (param_types (params_in (drop (i + 1) ps))))) (sym none)) ∙ done

pub params_end : (ps : List Param) (i : ℕ) (ts : List ExprType) (all : Option (List ExprType)) → length ps ≤ i → joined (Some ts) (param_types (params_in (drop i ps))) ≡ all → Some ts ≡ all
params_end ps i ts all h done =
    sym (joined_nil (Some ts)) ∙ ap (λ l. joined (Some ts) (param_types (params_in l))) (sym (drop_all i ps h)) ∙ done
