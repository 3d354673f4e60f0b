-- Bodies and items.
use Rattle.std.proofs.Common.{◌≡◌, ℕ, ◌<◌, Bool, true, false, ◌&&◌, if◌then◌else◌, List, [], ◌∷◌, ◌++◌, length, Option, Some, None, Result, Ok, Err, IfOk, Vec, Global, refl, sym, ap, ◌∙◌, arith}
use Rattle.std.specs.Option.{option_map, option_and_then}
use Rattle.std.specs.List.{list_all}
use Rattle.std.proofs.lemmas.List.{append-nil}
use Rattle.tsl_value.specs.declared.place.Place.{Place}
use Rattle.syntax_tree.specs.Tree as tree
use Rattle.syntax_tree.specs.Tree.{Expr, place_of}
use Rattle.syntax_tree.specs.declared.tree.Body.{Body}
use Rattle.syntax_tree.specs.declared.tree.Body.TheVariants as body
use Rattle.syntax_tree.specs.declared.tree.Item.{Item}
use Rattle.syntax_tree.specs.declared.tree.Item.TheVariants as item
use Rattle.syntax_tree.specs.declared.tree.Param.{Param}
use Rattle.syntax_tree.specs.inner.OneLevel.{body_of, definitions_of, item_of, params_in}
use Rattle.name_check.specs.Builtin.{is_unit}
use Rattle.name_check.specs.Scope.{Scope, meaning, is_events, top, inside, seen, are_values, functions_of, parameters_from, locals_from, Agree}
use Rattle.name_check.proofs.AgreeLemmas.{agree_same, agree_append, agree_trans}
use Rattle.type_rules.specs.declared.rule.Clash.{Clash}
use Rattle.type_rules.specs.declared.rule.ExprType.{ExprType}
use Rattle.type_rules.specs.declared.rule.ExprType.TheVariants as expr_type
use Rattle.type_rules.specs.declared.rule.Setting.{Setting}
use Rattle.type_rules.specs.declared.rule.Setting.TheVariants as setting
use Rattle.type_rules.specs.Asked.{Check, unit}
use Rattle.type_rules.specs.Rules.{body_rule}
use Rattle.type_rules.specs.Written.{as_written}
use Rattle.expr_types.specs.declared.wrong.Wrong.{Wrong}
use Rattle.expr_types.specs.declared.wrong.Wrong.TheVariants as wrong
use Rattle.expr_types.specs.Around.{Around, declared_type}
use Rattle.type_rules.specs.Kinds.{Kinds}
use Rattle.expr_types.specs.Judge.{type_of, wrongs, broken, judge, of_verdict, is_just}
use Rattle.expr_types.specs.Bodies.{setting_of, written_of, may_have_braces, asked_wrong, asked_of, expr_wrongs, local_wrongs, macro_wrongs, body_wrongs, item_wrongs, in_definition, expr_kind, body_kind, definition_kind}
use Rattle.expr_types.specs.inner.BodySteps.{refusal, asked_clash}
use Rattle.expr_types.specs.inner.Answers.{first}
use Rattle.expr_types.proofs.StopLemmas.{first_after, first_of_front}
use Rattle.expr_types.proofs.SameLemmas.{moved, same_body, block_same, same_kind, block_kind_same}

-- ---- what is asked of an expression
refused : (e : Expr) (r : Check) → first (asked_wrong e r) ≡ option_map (wrong.Part (place_of e)) (refusal r)
refused e (Ok u) = refl
refused e (Err clash) = refl

asked_is : (at : Around) (w : Option ExprType) (e : Expr) (t : Option ExprType) → first (asked_of at w e t) ≡ option_map (wrong.Part (place_of e)) (asked_clash at.setting w t)
asked_is at w e None = refl
asked_is at w e (Some t) = refused e (body_rule at.setting w t)

pub expr_found : (at : Around) (w : Option ExprType) (e : Expr) (t : Option ExprType) (p : Place) (clash : Option Clash) (r : Option Wrong) → (wrongs at e ≡ []) × (t ≡ type_of at e) → clash ≡ asked_clash at.setting w t → p ≡ place_of e → r ≡ option_map (wrong.Part p) clash → r ≡ first (expr_wrongs at w e)
expr_found at w e t p clash r h k here is =
    is ∙ ap (λ x. option_map (wrong.Part x) clash) here
    ∙ ap (option_map (wrong.Part (place_of e))) (k ∙ ap (asked_clash at.setting w) h.1)
    ∙ sym (asked_is at w e (type_of at e))
    ∙ sym (first_after (wrongs at e) (asked_of at w e (type_of at e)) _ h.0 refl)

pub expr_stopped : (at : Around) (w : Option ExprType) (e : Expr) (x : Wrong) → (first (wrongs at e) ≡ Some x) × (type_of at e ≡ None) → Some x ≡ first (expr_wrongs at w e)
expr_stopped at w e x h = sym (first_of_front (wrongs at e) (asked_of at w e (type_of at e)) x h.0)

-- ---- the mention of a name
one_choice : (b : Bool) (s : ExprType) (o : Option ExprType) → (if b then Some (Ok s) else is_just o) ≡ is_just (if b then Some s else o)
one_choice true s o = refl
one_choice false s o = refl

just_fits : (e : Expr) (t : Option ExprType) → broken e (is_just t) ≡ []
just_fits e None = refl
just_fits e (Some t) = refl

just_is : (t : Option ExprType) → t ≡ of_verdict (is_just t)
just_is None = refl
just_is (Some t) = refl

pub mention_found : (at : Around) (q : Place) (n : List ℕ) (t : Option ExprType) (clash : Option Clash) (r : Option Wrong) → t ≡ (if is_unit n then Some (expr_type.Stream unit) else option_and_then (declared_type at) (meaning at.scope n)) → clash ≡ asked_clash at.setting None t → r ≡ option_map (wrong.Part q) clash → r ≡ first (expr_wrongs at None (tree.Name q n))
mention_found at q n t clash r found k is =
    let known = if is_unit n then Some (expr_type.Stream unit) else option_and_then (declared_type at) (meaning at.scope n) in
    let judged : judge at (tree.Name q n) ≡ is_just known = one_choice (is_unit n) (expr_type.Stream unit) (option_and_then (declared_type at) (meaning at.scope n)) in
    expr_found at None (tree.Name q n) t q clash r (
      append-nil (broken (tree.Name q n) (judge at (tree.Name q n))) ∙ ap (broken (tree.Name q n)) judged ∙ just_fits (tree.Name q n) known,
      found ∙ just_is known ∙ ap of_verdict (sym judged),
    ) k refl is

-- what is found is the same
pub ok_same : {A E : Type 0} (r : Result (Option A) E) (a b : Option A) → a ≡ b → IfOk r (λ found. found ≡ a) → IfOk r (λ found. found ≡ b)
ok_same (Ok x) a b e h = h ∙ e
ok_same (Err x) a b e h = tt

-- ---- a block
pub block_inside : {E : Type 0} (r : Result (Option Wrong) E) (at inner : Around) (level : Scope) (levels : List Scope) (ds es : List tree.Definition) (w : Option ExprType) (b : Body) (xs : Vec tree.Definition Global) (e : Expr) → Agree level (locals_from 0 (definitions_of ds)) → inner ≡ moved at (seen levels) → seen levels ≡ level ++ at.scope → ds ≡ xs.items → es ≡ xs.items → b ≡ body.Block xs e → IfOk r (λ found. found ≡ first (local_wrongs inner (definitions_of es) ++ expr_wrongs inner w e)) → IfOk r (λ found. found ≡ first (macro_wrongs at w (body_of b)))
block_inside r at inner level levels ds es w b xs e h is same here again block =
    ok_same r _ _
    (ap (λ l. first (local_wrongs inner (definitions_of l) ++ expr_wrongs inner w e)) (again ∙ sym here)
    ∙ ap (λ a. first (local_wrongs a (definitions_of ds) ++ expr_wrongs a w e)) (is ∙ ap (moved at) same)
    ∙ ap first (block_same at level (definitions_of ds) w e h)
    ∙ ap (λ l. first (macro_wrongs at w (tree.Block (definitions_of l) e))) here
    ∙ ap (λ x. first (macro_wrongs at w (body_of x))) (sym block))

pub kind_inside : {E : Type 0} (r : Result (Option ExprType) E) (at inner : Around) (level : Scope) (levels : List Scope) (m : Bool) (ds : List tree.Definition) (b : Body) (xs : Vec tree.Definition Global) (e : Expr) → Agree level (locals_from 0 (definitions_of ds)) → inner ≡ moved at (seen levels) → seen levels ≡ level ++ at.scope → ds ≡ xs.items → b ≡ body.Block xs e → m ≡ true → IfOk r (λ kind. kind ≡ expr_kind inner e) → IfOk r (λ kind. kind ≡ body_kind at m (body_of b))
kind_inside r at inner level levels m ds b xs e h is same here block braces =
    ok_same r _ _
    (ap (λ a. expr_kind a e) (is ∙ ap (moved at) same)
    ∙ block_kind_same at level (definitions_of ds) e h
    ∙ ap (λ l. body_kind at true (tree.Block (definitions_of l) e)) here
    ∙ ap (λ x. body_kind at true (body_of x)) (sym block)
    ∙ ap (λ x. body_kind at x (body_of b)) (sym braces))

-- ---- the definition of an item
pub inside_agrees : (items : List tree.Item) (names level : Scope) (outers levels : List Scope) (qs ps : List tree.Param) → names ≡ top items → Agree level (parameters_from 0 qs) → outers ≡ (if are_values qs then functions_of names else names) ∷ [] → levels ≡ level ∷ outers → qs ≡ ps → Agree (seen levels) (inside (top items) ps)
inside_agrees items names level outers levels qs ps known agrees around is same =
    agree_trans (seen levels) (level ++ (if are_values ps then functions_of (top items) else top items)) (inside (top items) ps)
    (agree_same _ _
    (ap seen is ∙ ap (λ l. level ++ seen l) around ∙ ap (λ l. level ++ l) (append-nil (if are_values qs then functions_of names else names))
    ∙ ap (λ l. level ++ (if are_values qs then functions_of l else l)) known
    ∙ ap (λ l. level ++ (if are_values l then functions_of (top items) else top items)) same))
    (agree_append level (parameters_from 0 ps) _ _
    (agree_trans level (parameters_from 0 qs) (parameters_from 0 ps) agrees (agree_same _ _ (ap (parameters_from 0) same))) (agree_same _ _ refl))

abbrev seen_in : List tree.Item → Kinds → ℕ → List Scope → Setting → List tree.Param → Around
seen_in items kinds i levels s ps = record { items = items; kinds = kinds; scope = seen levels; setting = s; number = i; params = ps }

is_seen : (items : List tree.Item) (kinds : Kinds) (i : ℕ) (levels : List Scope) (s : Setting) (qs ps : List tree.Param) → s ≡ setting_of qs → qs ≡ ps → seen_in items kinds i levels s qs ≡ seen_in items kinds i levels (setting_of ps) ps
is_seen items kinds i levels s qs ps known same =
    ap (λ x. seen_in items kinds i levels x qs) (known ∙ ap setting_of same) ∙ ap (λ x. seen_in items kinds i levels (setting_of ps) x) same

pub definition_wrong : {E : Type 0} (r : Result (Option Wrong) E) (items : List tree.Item) (kinds : Kinds) (i : ℕ) (levels : List Scope) (s : Setting) (qs ps : List tree.Param) (w : Option tree.TypeName) (b : tree.Body) → Agree (seen levels) (inside (top items) ps) → s ≡ setting_of qs → qs ≡ ps → IfOk r (λ found. found ≡ first (body_wrongs (seen_in items kinds i levels s qs) (may_have_braces ps) (written_of ps w) b)) → IfOk r (λ found. found ≡ first (body_wrongs (in_definition items kinds i ps) (may_have_braces ps) (written_of ps w) b))
definition_wrong r items kinds i levels s qs ps w b h known same =
    ok_same r _ _
    (ap (λ a. first (body_wrongs a (may_have_braces ps) (written_of ps w) b)) (is_seen items kinds i levels s qs ps known same)
    ∙ ap first (same_body (seen_in items kinds i levels (setting_of ps) ps) (inside (top items) ps) h (may_have_braces ps) (written_of ps w) b))

pub definition_is : {E : Type 0} (r : Result (Option ExprType) E) (items : List tree.Item) (kinds : Kinds) (i : ℕ) (levels : List Scope) (s : Setting) (qs ps : List tree.Param) (w : Option tree.TypeName) (b : tree.Body) → Agree (seen levels) (inside (top items) ps) → s ≡ setting_of qs → qs ≡ ps → IfOk r (λ kind. kind ≡ definition_kind (seen_in items kinds i levels s qs) ps w b) → IfOk r (λ kind. kind ≡ definition_kind (in_definition items kinds i ps) ps w b)
definition_is r items kinds i levels s qs ps w b h known same =
    ok_same r _ _
    (ap (λ a. definition_kind a ps w b) (is_seen items kinds i levels s qs ps known same)
    ∙ same_kind (seen_in items kinds i levels (setting_of ps) ps) (inside (top items) ps) h ps w b)

-- ---- outputs
pub output_found : {E : Type 0} (r : Result (Option Wrong) E) (items : List tree.Item) (kinds : Kinds) (i : ℕ) (names : Scope) (levels : List Scope) (at : Around) (x : Item) (p q : Place) (e : Expr) (n : List ℕ) → names ≡ top items → levels ≡ names ∷ [] → at ≡ seen_in items kinds i levels setting.Streams [] → x ≡ item.OutputAs p e q n → IfOk r (λ found. found ≡ first (expr_wrongs at None e)) → IfOk r (λ found. found ≡ first (item_wrongs items kinds i (item_of x)))
output_found r items kinds i names levels at x p q e n known is here same =
    ok_same r _ _
    (ap (λ a. first (expr_wrongs a None e)) (here ∙ ap (λ l. seen_in items kinds i l setting.Streams []) is)
    ∙ ap (λ l. first (expr_wrongs (record { items = items; kinds = kinds; scope = l; setting = setting.Streams; number = i; params = [] }) None e)) (append-nil names ∙ known)
    ∙ ap (λ y. first (item_wrongs items kinds i (item_of y))) (sym same))

-- ---- parameters
pub written_some : (ps : List Param) (w : Option tree.TypeName) (r : Option ExprType) → 0 < length ps → r ≡ option_and_then as_written w → r ≡ written_of (params_in ps) w
written_some [] w r h is = absurd (omega arith)
written_some (p ∷ ps) w r h is = is

all_mapped : (ps : List Param) → list_all (λ q. is_events q.of) ps ≡ list_all (λ q. is_events q.of) (params_in ps)
all_mapped [] = refl
all_mapped (p ∷ ps) = ap (λ b. is_events p.of && b) (all_mapped ps)

pub braces_in : (ps : List Param) (b : Bool) → 0 < length ps → b ≡ list_all (λ q. is_events q.of) ps → b ≡ may_have_braces (params_in ps)
braces_in [] b h k = absurd (omega arith)
braces_in (p ∷ ps) b h k = k ∙ all_mapped (p ∷ ps)
