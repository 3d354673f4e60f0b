-- An expression in which nothing is wrong is of a type, where all the names in it stand for something.
use Rattle.std.proofs.Common.{◌≡◌, ℕ, suc, ◌<◌, Bool, true, false, cond, not, ◌||◌, ◌&&◌, if◌then◌else◌, List, [], ◌∷◌, ◌++◌, length, Option, Some, None, Ok, Err, Contains, refl, sym, ap, ◌∙◌, inl, inr, arith}
use Rattle.std.specs.Prelude.{nat_le, ◌==◌}
use Rattle.std.specs.Option.{option_map, option_and_then}
use Rattle.std.specs.List.{AllByRecursion, find, list_any}
use Rattle.std.specs.Str.{bytes_eq}
use Rattle.std.proofs.lemmas.Bool.{and_parts, or_from, not-false, eqb-true, leb-true}
use Rattle.std.proofs.lemmas.Option.{same_Some}
use Rattle.std.proofs.lemmas.Slice.Eq.{bytes_eq-Decides}
use Rattle.tsl_value.proofs.Lists.{none_in_nil, cons_cases}
use Rattle.syntax_tree.specs.Tree as tree
use Rattle.syntax_tree.specs.Tree.{Expr, Exprs, no_exprs, more_exprs, Links, no_links, more_links}
use Rattle.syntax_tree.specs.declared.tree.Level.{Level}
use Rattle.vocabulary.specs.declared.plain.Plain.TheVariants as language
use Rattle.vocabulary.specs.PlainTable.{spelling}
use Rattle.name_check.specs.declared.declaration.Declaration.{Declaration}
use Rattle.name_check.specs.declared.declaration.Declaration.TheVariants as declaration
use Rattle.name_check.specs.Builtin.{is_unit, is_lift}
use Rattle.name_check.specs.Scope.{Scope, meaning}
use Rattle.name_check.specs.Parts.{Part, Operand, Function, parts, argument_parts, lift_parts, link_parts}
use Rattle.name_check.specs.Faults.{is_unknown, is_mentionable, is_a_function}
use Rattle.form_check.specs.Types.{bad_in_part}
use Rattle.form_check.specs.Arity.{count, last_of as last_expr, takes_one, takes_two, names_of_one, names_of_two, declared_takes, takes, call_fits, lifted_takes, lift_may_have, lift_fits, is_wrong_lift, is_wrong}
use Rattle.type_rules.specs.declared.rule.ExprType.{ExprType}
use Rattle.type_rules.specs.declared.rule.ExprType.TheVariants as expr_type
use Rattle.type_rules.specs.declared.rule.Setting.{Setting}
use Rattle.type_rules.specs.declared.rule.Builtin.{Builtin}
use Rattle.type_rules.specs.declared.rule.Builtin.TheVariants as builtin
use Rattle.type_rules.specs.Asked.{Verdict, lifted, unit, int, bool, text}
use Rattle.type_rules.specs.Rules.{link_rule, compare_rule, negate_rule, not_rule, if_rule, dotted_rule, builtin_rule, macro_rule, function_rule}
use Rattle.type_rules.specs.Written.{aggregate_of, value_of}
use Rattle.expr_types.specs.Around.{Around, Callee, callee_at, declared_type, cons}
use Rattle.expr_types.specs.Judge.{judge, type_of, types_of, judge_links, streams_of, last_of, function_of, function_at, of_verdict, with_two, with_three, is_just, continued, next_link, lifted_by, const_call, own_call, named_call, call_rule, is_const, builtins, builtin_of, broken, own_wrong}
use Rattle.definition_cycles.specs.Mentions.{declared}
use Rattle.checked_spec.proofs.ListLemmas.{all_split}
use Rattle.checked_spec.proofs.WrittenLemmas.{Has, has_map, has_then, aggregate_there, value_there}

-- ---- what is known of the parts
-- a name stands for something that is of a type, or that takes and gives something
abbrev pub IsThere : Around → Declaration → Type 0
IsThere at (declaration.Macro i) = Has (callee_at at i)
IsThere at (declaration.Function i) = Has (callee_at at i)
IsThere at (declaration.Mixed i) = ⊥
IsThere at d = Has (declared_type at d)

abbrev pub AreThere : Around → Option Declaration → Type 0
AreThere at m = (d : Declaration) → m ≡ Some d → IsThere at d

-- nothing is wrong with the part, and its name stands for something
pub record IsFine (at : Around) (p : Part) : Type 0 where
  pub known : is_unknown at.scope p ≡ false
  pub fits : is_wrong at.items at.scope p ≡ false
  pub written : bad_in_part p ≡ []
  pub right : own_wrong at p ≡ []
  pub there : AreThere at (declared at.scope p)

abbrev All : Around → List Part → Type 0
All at ps = AllByRecursion (IsFine at) ps

-- ---- verdicts
allowed_there : (e : Expr) (v : Option Verdict) → broken e v ≡ [] → Has v → Has (of_verdict v)
allowed_there e (Some (Ok t)) none h = record { it = t; is = refl }
allowed_there e (Some (Err clash)) none h = absurd (cc)
allowed_there e None none h = absurd (let k = h.is in cc)

whole : (at : Around) (e : Expr) → IsFine at (Operand e) → Has (judge at e) → Has (type_of at e)
whole at e fine h = allowed_there e (judge at e) fine.right h

two_there : (rule : ExprType → ExprType → Verdict) (a b : Option ExprType) → Has a → Has b → Has (with_two rule a b)
two_there rule (Some a) (Some b) h k = record { it = rule a b; is = refl }
two_there rule None b h k = absurd (let i = h.is in cc)
two_there rule (Some a) None h k = absurd (let i = k.is in cc)

three_there : (rule : ExprType → ExprType → ExprType → Verdict) (a b c : Option ExprType) → Has a → Has b → Has c → Has (with_three rule a b c)
three_there rule (Some a) (Some b) (Some c) h k l = record { it = rule a b c; is = refl }
three_there rule None b c h k l = absurd (let i = h.is in cc)
three_there rule (Some a) None c h k l = absurd (let i = k.is in cc)
three_there rule (Some a) (Some b) None h k l = absurd (let i = l.is in cc)

just_there : (t : Option ExprType) → Has t → Has (is_just t)
just_there t h = has_map Ok t h

continued_there : (v : Verdict) (rest : ExprType → Option Verdict) → ((t : ExprType) → Has (rest t)) → Has (continued v rest)
continued_there (Ok t) rest each = each t
continued_there (Err clash) rest each = record { it = Err clash; is = refl }

next_there : (at : Setting) (l : Level) (t : ExprType) (u : Option ExprType) (rest : ExprType → Option Verdict) → Has u → ((x : ExprType) → Has (rest x)) → Has (next_link at l t u rest)
next_there at l t (Some u) rest h each = continued_there (link_rule at l t u) rest each
next_there at l t None rest h each = absurd (let i = h.is in cc)

-- ---- types of arguments, each of which is something
record HasAll (o : Option (List ExprType)) (k : ℕ) : Type 0 where
  it : List ExprType
  is : o ≡ Some it
  many : length it ≡ k

cons_all : (t : Option ExprType) (ts : Option (List ExprType)) (k : ℕ) → Has t → HasAll ts k → HasAll (cons t ts) (suc k)
cons_all (Some t) (Some ts) k h g = let same : ts ≡ g.it = same_Some ts g.it g.is in record { it = t ∷ ts; is = refl; many = ap suc (ap length same ∙ g.many) }
cons_all None ts k h g = absurd (let i = h.is in cc)
cons_all (Some t) None k h g = absurd (let i = g.is in cc)

cons_there : (t : Option ExprType) (ts : Option (List ExprType)) → Has t → Has ts → Has (cons t ts)
cons_there (Some t) (Some ts) h g = record { it = t ∷ ts; is = refl }
cons_there None ts h g = absurd (let i = h.is in cc)
cons_there (Some t) None h g = absurd (let i = g.is in cc)

just_all : (o : Option (List ExprType)) (k : ℕ) → HasAll o k → Has o
just_all o k h = record { it = h.it; is = h.is }

-- ---- names
name_there : (at : Around) (b : Bool) (m : Option Declaration) → not (b || is_mentionable m) ≡ false → AreThere at m → Has (if b then Some (Ok (expr_type.Stream unit)) else is_just (option_and_then (declared_type at) m))
name_there at true m known there = record { it = Ok (expr_type.Stream unit); is = refl }
name_there at false None known there = absurd (cc)
name_there at false (Some (declaration.Input i)) known there = just_there (at.kinds.item i) (there (declaration.Input i) refl)
name_there at false (Some (declaration.Stream i)) known there = just_there (at.kinds.item i) (there (declaration.Stream i) refl)
name_there at false (Some (declaration.Parameter k)) known there = just_there (declared_type at (declaration.Parameter k)) (there (declaration.Parameter k) refl)
name_there at false (Some (declaration.Local k)) known there = just_there (at.kinds.local at.number k) (there (declaration.Local k) refl)
name_there at false (Some (declaration.Macro i)) known there = absurd (cc)
name_there at false (Some (declaration.Function i)) known there = absurd (cc)
name_there at false (Some (declaration.Mixed i)) known there = absurd (cc)

call_there : (at : Around) (m : Option Declaration) (ts : List ExprType) → Has (declared_takes at.items m) → AreThere at m → Has (option_and_then (λ d. call_rule at d ts) m)
call_there at (Some (declaration.Macro i)) ts h there = has_map (λ c. macro_rule c.params c.result ts) (callee_at at i) (there (declaration.Macro i) refl)
call_there at (Some (declaration.Function i)) ts h there = has_map (λ c. function_rule at.setting c.params c.result ts) (callee_at at i) (there (declaration.Function i) refl)
call_there at (Some (declaration.Mixed i)) ts h there = absurd (there (declaration.Mixed i) refl)
call_there at m ts h there = absurd (let i = h.is in cc)

-- ---- which names take a number of arguments that is fixed
none_found : (n : List ℕ) (bs : List (List ℕ × Builtin)) → option_map (λ b. b.1) (find (λ b. bytes_eq n b.0) bs) ≡ None → (m : List ℕ) (o : Builtin) → Contains bs (m, o) → bytes_eq n m ≡ false
none_found n [] h m o c = absurd (none_in_nil (m, o) c)
none_found n (b ∷ bs) h m o c = by (bytes_eq n b.0) refl h (λ k rest. none_found n bs k m o rest)
  where
    by : (t : Bool) → bytes_eq n b.0 ≡ t → option_map (λ x. x.1) (cond t (Some b) (find (λ x. bytes_eq n x.0) bs)) ≡ None → (option_map (λ x. x.1) (find (λ x. bytes_eq n x.0) bs) ≡ None → Contains bs (m, o) → bytes_eq n m ≡ false) → bytes_eq n m ≡ false
    by true is k more = absurd (cc)
    by false is k more = elim (cons_cases b (m, o) bs c) [ inl same ↦ ap (λ (x : List ℕ × Builtin). bytes_eq n x.0) (sym same) ∙ is | inr rest ↦ more k rest ]

any_false : (n : List ℕ) (ms : List (List ℕ)) → AllByRecursion (λ m. bytes_eq n m ≡ false) ms → list_any (bytes_eq n) ms ≡ false
any_false n [] all = refl
any_false n (m ∷ ms) all = or_from (bytes_eq n m) (list_any (bytes_eq n) ms) all.0 (any_false n ms all.1)

takes_by : (u a b : Bool) (d : Option ℕ) (k : ℕ) → a ≡ false → b ≡ false → not (call_fits (if u then None else if a then Some 1 else if b then Some 2 else d) k) ≡ false → Has d
takes_by true a b d k ha hb h = absurd (cc)
takes_by false true b d k ha hb h = absurd (cc)
takes_by false false true d k ha hb h = absurd (cc)
takes_by false false false None k ha hb h = absurd (cc)
takes_by false false false (Some m) k ha hb h = record { it = m; is = refl }

const_takes : (items : List tree.Item) (scope : Scope) (n : List ℕ) → is_const n ≡ true → takes items scope n ≡ Some 2
unfolding is_unit takes_one takes_two
const_takes items scope n h = ap (takes items scope) ((bytes_eq-Decides n (spelling language.Const)).0 h)

not_one : (n : List ℕ) → builtin_of n ≡ None → takes_one n ≡ false
unfolding builtin_of takes_one
not_one n h =
    let time = none_found n builtins h (spelling language.Time) builtin.Time (0, omega arith, refl) in
    let is_some = none_found n builtins h (spelling language.IsSome) builtin.IsSome (6, omega arith, refl) in
    let is_none = none_found n builtins h (spelling language.IsNone) builtin.IsNone (7, omega arith, refl) in
    let get_some = none_found n builtins h (spelling language.GetSome) builtin.GetSome (8, omega arith, refl) in
    let some = none_found n builtins h (spelling language.Some) builtin.Some (9, omega arith, refl) in
    any_false n names_of_one (time, (is_some, (is_none, (get_some, (some, tt)))))

not_two : (n : List ℕ) → builtin_of n ≡ None → is_const n ≡ false → takes_two n ≡ false
unfolding builtin_of takes_two
not_two n h other =
    let last = none_found n builtins h (spelling language.Last) builtin.Last (1, omega arith, refl) in
    let delay = none_found n builtins h (spelling language.Delay) builtin.Delay (2, omega arith, refl) in
    let merge = none_found n builtins h (spelling language.Merge) builtin.Merge (3, omega arith, refl) in
    let default = none_found n builtins h (spelling language.Default) builtin.Merge (4, omega arith, refl) in
    let filter = none_found n builtins h (spelling language.Filter) builtin.Filter (5, omega arith, refl) in
    any_false n names_of_two (last, (delay, (merge, (default, (other, (filter, tt))))))

fits_with : (m k : ℕ) (o : Option ℕ) → o ≡ Some m → not (call_fits o k) ≡ false → m ≡ k
fits_with m k o is h = let e : not (m == k) ≡ false = ap (λ x. not (call_fits x k)) (sym is) ∙ h in eqb-true m k (not-false (m == k) e)

const_there : (es : Exprs) (ts : List ExprType) → count es ≡ 2 → length ts ≡ 2 → Has (const_call es (Some ts))
const_there no_exprs ts h k = absurd (omega arith)
const_there (more_exprs v es) [] h k = absurd (omega arith)
const_there (more_exprs v es) (a ∷ []) h k = absurd (omega arith)
const_there (more_exprs v es) (a ∷ b ∷ []) h k = record { it = _; is = refl }
const_there (more_exprs v es) (a ∷ b ∷ c ∷ ts) h k = absurd (omega arith)

named_there : (at : Around) (n : List ℕ) (es : Exprs) (ts : Option (List ExprType)) → not (call_fits (takes at.items at.scope n) (count es)) ≡ false → AreThere at (meaning at.scope n) → HasAll ts (count es) → Has (named_call at n es ts)
named_there at n es None fits there h = absurd (let i = h.is in cc)
named_there at n es (Some ts) fits there h = by (is_const n) refl (builtin_of n) refl
  where
    by : (b : Bool) → is_const n ≡ b → (o : Option Builtin) → builtin_of n ≡ o → Has (if b then const_call es (Some ts) else own_call o at n (Some ts))
    by true is o e =
        let two : 2 ≡ count es = fits_with 2 (count es) (takes at.items at.scope n) (const_takes at.items at.scope n is) fits in
        let same : ts ≡ h.it = same_Some ts h.it h.is in
        const_there es ts (sym two) (ap length same ∙ h.many ∙ sym two)
    by false is (Some o) e = record { it = builtin_rule o ts; is = refl }
    by false is None e = call_there at (meaning at.scope n) ts (takes_by (is_unit n) (takes_one n) (takes_two n) (declared_takes at.items (meaning at.scope n)) (count es) (not_one n e) (not_two n e is) fits) there

-- ---- `lift`
lift_many : (m : Option ℕ) (k : ℕ) → not (lift_fits m k) ≡ false → 0 < k
lift_many None k h = let two = leb-true 2 k (and_parts (nat_le 2 k) (nat_le k 9) (not-false (lift_may_have k) h)).0 in omega arith
lift_many (Some m) k h =
    let may = (and_parts (lift_may_have k) (suc m == k) (not-false (lift_may_have k && (suc m == k)) h)).0 in
    let two = leb-true 2 k (and_parts (nat_le 2 k) (nat_le k 9) may).0 in omega arith

function_there : (at : Around) (e : Expr) → IsFine at (Function e) → Has (function_of at e)
function_there at (tree.Name p n) h = by (meaning at.scope n) h.known h.there
  where
    by : (m : Option Declaration) → not (is_a_function m) ≡ false → AreThere at m → Has (function_at at m)
    by (Some (declaration.Function i)) known there = there (declaration.Function i) refl
    by m known there = absurd (cc)
function_there at e h = absurd (let k = h.known in cc)

last_there : (at : Around) (es : Exprs) → 0 < count es → All at (lift_parts es) → Has (last_of at es)
last_there at no_exprs some h = absurd (omega arith)
last_there at (more_exprs e no_exprs) some h = function_there at e h.0
last_there at (more_exprs e (more_exprs f es)) some h = last_there at (more_exprs f es) (omega arith) (all_split (IsFine at) (parts e) (lift_parts (more_exprs f es)) h).1

lifted_there : (ts : Option (List ExprType)) (f : Option Callee) → Has ts → Has f → Has (lifted_by ts f)
lifted_there (Some ts) (Some f) h k = record { it = _; is = refl }
lifted_there None f h k = absurd (let i = h.is in cc)
lifted_there (Some ts) None h k = absurd (let i = k.is in cc)

-- a call of `lift`, or another one
either : (at : Around) (b : Bool) (ps qs : List Part) (u v : Bool) (x y : Option Verdict) → (u ≡ false → All at ps → Has x) → (v ≡ false → All at qs → Has y) → (if b then u else v) ≡ false → All at (if b then ps else qs) → Has (if b then x else y)
either at true ps qs u v x y f g fits h = f fits h
either at false ps qs u v x y f g fits h = g fits h

-- ---- expressions
mutual
  pub typed : (at : Around) (e : Expr) → AllByRecursion (IsFine at) (parts e) → Has (type_of at e)
  typed at (tree.If p c a b) h =
      let outer = all_split (IsFine at) (parts c ++ parts a) (parts b) h.1 in
      let inner = all_split (IsFine at) (parts c) (parts a) outer.0 in
      whole at (tree.If p c a b) h.0 (three_there (if_rule at.setting) (type_of at c) (type_of at a) (type_of at b) (typed at c inner.0) (typed at a inner.1) (typed at b outer.1))
  typed at (tree.Chain p l e ls) h =
      let both = all_split (IsFine at) (parts e) (link_parts ls) h.1 in
      whole at (tree.Chain p l e ls) h.0 (has_then (λ t. judge_links at l t ls) (type_of at e) (typed at e both.0) (λ t. links_typed at l t ls both.1))
  typed at (tree.Compare p o a b) h =
      let both = all_split (IsFine at) (parts a) (parts b) h.1 in
      whole at (tree.Compare p o a b) h.0 (two_there (compare_rule at.setting o) (type_of at a) (type_of at b) (typed at a both.0) (typed at b both.1))
  typed at (tree.Negate p e) h = whole at (tree.Negate p e) h.0 (has_map (negate_rule at.setting) (type_of at e) (typed at e h.1))
  typed at (tree.Not p e) h = whole at (tree.Not p e) h.0 (has_map (not_rule at.setting) (type_of at e) (typed at e h.1))
  typed at (tree.Number p n) h = record { it = lifted at.setting int; is = refl }
  typed at (tree.Negative p n) h = record { it = lifted at.setting int; is = refl }
  typed at (tree.Text p t) h = record { it = lifted at.setting text; is = refl }
  typed at (tree.Boolean p b) h = record { it = lifted at.setting bool; is = refl }
  typed at (tree.Unit p) h = record { it = lifted at.setting unit; is = refl }
  typed at (tree.Name p n) h = whole at (tree.Name p n) h.0 (name_there at (is_unit n) (meaning at.scope n) h.0.known h.0.there)
  typed at (tree.Call p n es) h =
      whole at (tree.Call p n es) h.0
      (either at (is_lift n) (lift_parts es) (argument_parts es) (is_wrong_lift at.items at.scope es) (not (call_fits (takes at.items at.scope n) (count es))) (lifted_by (streams_of at es) (last_of at es)) (named_call at n es (types_of at es))
      (λ u k. lifted_there (streams_of at es) (last_of at es) (streams_typed at es k) (last_there at es (lift_many (lifted_takes at.items at.scope (last_expr es)) (count es) u) k))
      (λ v k. named_there at n es (types_of at es) v h.0.there (types_typed at es k))
      h.0.fits h.1)
  typed at (tree.CallDotted p d es) h =
      whole at (tree.CallDotted p d es) h.0 (has_map (dotted_rule at.setting d) (types_of at es) (just_all (types_of at es) (count es) (types_typed at es h.1)))
  typed at (tree.Nil p y) h = whole at (tree.Nil p y) h.0 (just_there (option_map expr_type.Stream (value_of y)) (has_map expr_type.Stream (value_of y) (value_there y h.0.written)))
  typed at (tree.None p y) h = whole at (tree.None p y) h.0 (just_there (option_map expr_type.Optional (value_of y)) (has_map expr_type.Optional (value_of y) (value_there y h.0.written)))
  typed at (tree.Empty p a) h =
      whole at (tree.Empty p a) h.0 (just_there (option_map expr_type.Stream (aggregate_of a)) (has_map expr_type.Stream (aggregate_of a) (aggregate_there a h.0.written)))

  types_typed : (at : Around) (es : Exprs) → All at (argument_parts es) → HasAll (types_of at es) (count es)
  types_typed at no_exprs h = record { it = []; is = refl; many = refl }
  types_typed at (more_exprs e es) h =
      let both = all_split (IsFine at) (parts e) (argument_parts es) h in
      cons_all (type_of at e) (types_of at es) (count es) (typed at e both.0) (types_typed at es both.1)

  links_typed : (at : Around) (l : Level) (t : ExprType) (ls : Links) → All at (link_parts ls) → Has (judge_links at l t ls)
  links_typed at l t no_links h = record { it = Ok t; is = refl }
  links_typed at l t (more_links o e ls) h =
      let both = all_split (IsFine at) (parts e) (link_parts ls) h in
      next_there at.setting l t (type_of at e) (λ u. judge_links at l u ls) (typed at e both.0) (λ u. links_typed at l u ls both.1)

  streams_typed : (at : Around) (es : Exprs) → All at (lift_parts es) → Has (streams_of at es)
  streams_typed at no_exprs h = record { it = []; is = refl }
  streams_typed at (more_exprs e no_exprs) h = record { it = []; is = refl }
  streams_typed at (more_exprs e (more_exprs f es)) h =
      let both = all_split (IsFine at) (parts e) (lift_parts (more_exprs f es)) h in
      cons_there (type_of at e) (streams_of at (more_exprs f es)) (typed at e both.0) (streams_typed at (more_exprs f es) both.1)
