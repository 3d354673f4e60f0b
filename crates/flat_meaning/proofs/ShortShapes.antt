-- The constructs of expressions with short texts have short texts, and so have the expressions of their parts.
use Rattle.std.proofs.Common.{◌≡◌, ℕ, suc, Bool, true, false, cond, List, [], ◌∷◌, ◌++◌, map, Option, Some, None, refl, sym, subst}
use Rattle.std.specs.Prelude.{if◌then◌else◌}
use Rattle.std.specs.List.{AllByRecursion, find, filter}
use Rattle.std.specs.Option.{option_map, option_and_then}
use Rattle.std.specs.Str.{bytes_eq}
use Rattle.std.proofs.lemmas.Bool.{false≢true}
use Rattle.std.proofs.lemmas.Option.{same_Some, none-some}
use Rattle.tsl_value.specs.declared.place.Place.{Place}
use Rattle.tsl_value.specs.declared.scalar.Scalar.{Scalar}
use Rattle.tsl_value.specs.declared.scalar.Scalar.TheVariants as scalar
use Rattle.tsl_value.specs.declared.scalar.ValueType.{ValueType}
use Rattle.tsl_value.specs.declared.operation.Unary.{Unary}
use Rattle.tsl_value.specs.declared.operation.Unary.TheVariants as unary
use Rattle.tsl_value.specs.declared.operation.Binary.{Binary}
use Rattle.lift_func.specs.BodyTree.{BodyTree, One, Two}
use Rattle.flat_core.specs.Complete.{IsShort, HasShortTexts}
use Rattle.flat_core.proofs.Members.{all_append}
use Rattle.syntax_tree.specs.Tree as tree
use Rattle.syntax_tree.specs.Tree.{Expr, Exprs, no_exprs, more_exprs, Links, no_links, more_links}
use Rattle.syntax_tree.specs.declared.tree.Level.{Level}
use Rattle.syntax_tree.specs.declared.tree.Operator.{Operator}
use Rattle.vocabulary.specs.declared.signature.Role.{Role}
use Rattle.vocabulary.specs.declared.signature.Role.TheVariants as role
use Rattle.vocabulary.specs.Table.{role_of}
use Rattle.name_check.specs.declared.declaration.Declaration.{Declaration}
use Rattle.name_check.specs.declared.declaration.Declaration.TheVariants as declaration
use Rattle.name_check.specs.Builtin.{is_unit, is_lift, lift_name}
use Rattle.name_check.specs.Scope.{functions_of, meaning, top}
use Rattle.stream_constructs.specs.Construct.{Construct, Operand, Fixed, Varying, operand_trees}
use Rattle.stream_constructs.specs.Construct as construct
use Rattle.stream_constructs.specs.Equations.{choice}
use Rattle.tsl_value.specs.declared.operation.Update.{Update as UpdateOp}
use Rattle.spec_meaning.specs.Occurrence.{Call, Occurrence, scope_at, stands_for, macro_result}
use Rattle.spec_meaning.specs.Function.{literal, operation_of, comparison_of, role_tree, function_at, function_body}
use Rattle.spec_meaning.specs.Shape.{Shape, expressions, all_but_last, last_operator, last_operand, left_of, operand, operands, is_part, beside, with_parts, signal_of, update_of, two_operands, one_operand, role_shape, plain_names, plain_name, is_delay, is_const, is_filter, const_shape, filtered_by, filter_shape, same_as, name_shape, declared_shape, lift_by, function_named, lift_shape, call_shape, empty_shape, expr_shape}
use Rattle.spec_meaning.specs.Makes.{is_own, choice_operands}
use Rattle.flat_meaning.proofs.ShortTexts.{ShortExpr, ShortExprs, ShortFront, ShortLinks, exprs_short, AreBodiesShort}
use Rattle.flat_meaning.proofs.ShortFunctions.{AreShortTrees, HasNoLift, lift_is, role_short, call_short, body_short}

-- ---- operands
abbrev pub ShortOperand : Operand → Type 0
ShortOperand (Fixed s) = IsShort s
ShortOperand Varying = Unit {0}

abbrev pub ShortOperands : List Operand → Type 0
ShortOperands os = AllByRecursion ShortOperand os

abbrev AllShort : List Expr → Type 0
AllShort es = AllByRecursion ShortExpr es

operand_short : (e : Expr) → ShortExpr e → ShortOperand (operand (literal e))
operand_short (tree.Number p n) h = tt
operand_short (tree.Negative p n) h = tt
operand_short (tree.Text p t) h = h
operand_short (tree.Boolean p b) h = tt
operand_short e h = tt

operands_short : (es : List Expr) → AllShort es → ShortOperands (operands es)
operands_short [] all = tt
operands_short (e ∷ es) all = (operand_short e all.0, operands_short es all.1)

pub trees_short : (k : ℕ) (os : List Operand) → ShortOperands os → AreShortTrees (operand_trees k os)
trees_short k [] all = tt
trees_short k (Fixed s ∷ os) all = (all.0, trees_short k os all.1)
trees_short k (Varying ∷ os) all = (tt, trees_short (suc k) os all.1)

-- ---- constructs
abbrev pub ShortConstruct : Construct → Type 0
ShortConstruct (construct.Literal s) = IsShort s
ShortConstruct (construct.Const s) = IsShort s
ShortConstruct (construct.Lift f) = HasShortTexts f
ShortConstruct (construct.Signal f) = HasShortTexts f
ShortConstruct (construct.Update o os) = ShortOperands os
ShortConstruct c = Unit {0}

-- the parts of a name or a call stand elsewhere
pub record IsShortShape (s : Shape) : Type 0 where
  pub construct : ShortConstruct s.construct
  pub parts : is_own s.construct ≡ true → AllByRecursion (λ o. ShortExpr o.expr) s.parts

abbrev ShortShape : Option Shape → Type 0
ShortShape None = Unit {0}
ShortShape (Some s) = IsShortShape s

beside_short : (cs : List Call) (es : List Expr) → AllShort es → AllByRecursion (λ o. ShortExpr o.expr) (map (beside cs) es)
beside_short cs [] all = tt
beside_short cs (e ∷ es) all = (all.0, beside_short cs es all.1)

filter_short : (p : Expr → Bool) (es : List Expr) → AllShort es → AllShort (filter p es)
filter_short p [] all = tt
filter_short p (e ∷ es) all = either (p e) (filter_short p es all.1)
  where
    either : (b : Bool) → AllShort (filter p es) → AllShort (cond b (e ∷ filter p es) (filter p es))
    either true more = (all.0, more)
    either false more = more

with_short : (cs : List Call) (c : Construct) (es : List Expr) → ShortConstruct c → AllShort es → ShortShape (with_parts cs c es)
with_short cs c es here all = record { construct = here; parts = λ own. beside_short cs es all }

-- a body that has no texts but those of its operands
signal_short : (cs : List Call) (body : List BodyTree → BodyTree) (es : List Expr) → ((ts : List BodyTree) → AreShortTrees ts → HasShortTexts (body ts)) → AllShort es → ShortShape (signal_of cs body es)
signal_short cs body es keeps all =
    with_short cs (construct.Signal (body (operand_trees 0 (operands es)))) (filter is_part es) (keeps (operand_trees 0 (operands es)) (trees_short 0 (operands es) (operands_short es all))) (filter_short is_part es all)

update_short : (cs : List Call) (o : UpdateOp) (es : List Expr) → AllShort es → ShortShape (update_of cs o es)
update_short cs o es all = with_short cs (construct.Update o (operands es)) (filter is_part es) (operands_short es all) (filter_short is_part es all)

choice_keeps : (ts : List BodyTree) → AreShortTrees ts → HasShortTexts (choice ts)
choice_keeps (c ∷ a ∷ b ∷ []) all = (all.0, all.1.0, all.1.1.0)
choice_keeps ts all = tt

two_keep : (o : Binary) (ts : List BodyTree) → AreShortTrees ts → HasShortTexts (two_operands (Two o) ts)
two_keep o (a ∷ b ∷ ts) all = (all.0, all.1.0)
two_keep o ts all = tt

one_keeps : (o : Unary) (ts : List BodyTree) → AreShortTrees ts → HasShortTexts (one_operand (One o) ts)
one_keeps o (a ∷ ts) all = all.0
one_keeps o [] all = tt

two_short : (cs : List Call) (o : Binary) (es : List Expr) → AllShort es → ShortShape (signal_of cs (two_operands (Two o)) es)
two_short cs o es all = signal_short cs (two_operands (Two o)) es (two_keep o) all

one_short : (cs : List Call) (o : Unary) (e : Expr) → ShortExpr e → ShortShape (signal_of cs (one_operand (One o)) (e ∷ []))
one_short cs o e h = signal_short cs (one_operand (One o)) (e ∷ []) (one_keeps o) (h, tt)

role_shape_short : (cs : List Call) (r : Role) (es : List Expr) → AllShort es → ShortShape (role_shape cs r es)
role_shape_short cs (role.Update o) es all = update_short cs o es all
role_shape_short cs (role.Unary o) es all = signal_short cs (role_tree (role.Unary o)) es (role_short (role.Unary o)) all
role_shape_short cs (role.Binary o) es all = signal_short cs (role_tree (role.Binary o)) es (role_short (role.Binary o)) all

-- ---- chains
beginning_short : (o : Operator) (e : Expr) (ls : Links) → ShortLinks (more_links o e ls) → ShortLinks (all_but_last (more_links o e ls))
beginning_short o e no_links h = tt
beginning_short o e (more_links q f ls) h = (h.0, beginning_short q f ls h.1)

end_short : (e : Expr) (ls : Links) → ShortExpr e → ShortLinks ls → ShortExpr (last_operand e ls)
end_short e no_links here h = here
end_short e (more_links q f ls) here h = end_short f ls h.0 h.1

left_short : (p : Place) (l : Level) (e : Expr) (ls : Links) → ShortExpr e → ShortLinks ls → ShortExpr (left_of e (tree.Chain p l e) ls)
left_short p l e no_links here h = here
left_short p l e (more_links o f ls) here h = (here, h)

-- ---- the language's own names
found_short : (p : List ℕ × Construct → Bool) (xs : List (List ℕ × Construct)) → AllByRecursion (λ c. ShortConstruct c.1) xs → (c : Construct) → option_map (λ x. x.1) (find p xs) ≡ Some c → ShortConstruct c
found_short p [] all c is = absurd (none-some c is)
found_short p (x ∷ xs) all c is = either (p x) (λ more. found_short p xs all.1 c more) is
  where
    either : (b : Bool) → (option_map (λ y. y.1) (find p xs) ≡ Some c → ShortConstruct c) → option_map (λ y. y.1) (cond b (Some x) (find p xs)) ≡ Some c → ShortConstruct c
    either true more h = subst ShortConstruct (same_Some x.1 c h) all.0
    either false more h = more h

plain_short : (n : List ℕ) (c : Construct) → plain_name n ≡ Some c → ShortConstruct c
unfolding plain_name
plain_short n c is = found_short (λ x. bytes_eq n x.0) plain_names (tt, (tt, (tt, (tt, tt)))) c is

literal_short : (cs : List Call) (v e : Expr) → ShortExpr v → ShortExpr e → ShortShape (option_and_then (λ s. with_parts cs (construct.Const s) (e ∷ [])) (literal v))
literal_short cs v e first second = of_operand (literal v) (operand_short v first)
  where
    of_operand : (s : Option Scalar) → ShortOperand (operand s) → ShortShape (option_and_then (λ x. with_parts cs (construct.Const x) (e ∷ [])) s)
    of_operand None h = tt
    of_operand (Some s) h = with_short cs (construct.Const s) (e ∷ []) h (second, tt)

const_short : (cs : List Call) (es : List Expr) → AllShort es → ShortShape (const_shape cs es)
const_short cs [] all = tt
const_short cs (v ∷ []) all = tt
const_short cs (v ∷ e ∷ []) all = literal_short cs v e all.0 all.1.0
const_short cs (v ∷ e ∷ f ∷ es) all = tt

filtered_short : (cs : List Call) (e c : Expr) (s : Option Scalar) → AllShort (e ∷ c ∷ []) → ShortShape (filtered_by cs e c s)
filtered_short cs e c (Some (scalar.Bool b)) all = with_short cs (construct.FilterBy b) (e ∷ []) tt (all.0, tt)
filtered_short cs e c s all = with_short cs construct.Filter (e ∷ c ∷ []) tt all

filter_shape_short : (cs : List Call) (es : List Expr) → AllShort es → ShortShape (filter_shape cs es)
filter_shape_short cs [] all = tt
filter_shape_short cs (e ∷ []) all = tt
filter_shape_short cs (e ∷ c ∷ []) all = filtered_short cs e c (literal c) all
filter_shape_short cs (e ∷ c ∷ f ∷ es) all = tt

-- a stream that stands elsewhere
same_short : (o : Option Occurrence) → ShortShape (same_as o)
same_short None = tt
same_short (Some a) = record { construct = tt; parts = λ own. absurd (false≢true own) }

if_short : (b : Bool) (x y : Option Shape) → ShortShape x → ShortShape y → ShortShape (if b then x else y)
if_short true x y first second = first
if_short false x y first second = second

module _ (items : List tree.Item) (bodies : AreBodiesShort items) (no_lift : HasNoLift (functions_of (top items))) where
  empty_short : (cs : List Call) (of : Option ValueType) → ShortShape (empty_shape items cs of)
  empty_short cs None = tt
  empty_short cs (Some t) = with_short cs (construct.Empty t) [] tt tt

  name_short : (cs : List Call) (d : Option Declaration) → ShortShape (name_shape items cs d)
  name_short cs (Some (declaration.Input i)) = with_short cs _ [] tt tt
  name_short cs (Some d) = same_short (stands_for items cs d)
  name_short cs None = tt

  declared_short : (cs : List Call) (d : Option Declaration) (es : Exprs) → ShortExprs es → ShortShape (declared_shape items cs d es)
  declared_short cs (Some (declaration.Macro i)) es h = same_short (macro_result items cs i es)
  declared_short cs (Some (declaration.Function i)) es h = signal_short cs (function_at items i) (expressions es) (call_short items bodies no_lift i) (exprs_short es h)
  declared_short cs d es h = tt

  by_short : (cs : List Call) (streams : List Expr) (d : Option Declaration) (f : Expr) → AllShort streams → ShortShape (lift_by items cs streams f d)
  by_short cs streams (Some (declaration.Function i)) f all = with_short cs (construct.Lift (function_body items i)) streams (body_short items bodies no_lift i) all
  by_short cs streams d f all = tt

  lift_short : (cs : List Call) (streams : List Expr) (e : Expr) (es : Exprs) → AllShort streams → ShortFront (more_exprs e es) → ShortShape (lift_shape items cs streams (e ∷ expressions es))
  lift_short cs streams f no_exprs all h = by_short cs streams (function_named items (scope_at items cs) f) f all
  lift_short cs streams e (more_exprs f es) all h = lift_short cs (streams ++ e ∷ []) f es (all_append ShortExpr streams (e ∷ []) all (h.0, tt)) h.1

  lifted_short : (cs : List Call) (es : Exprs) → ShortFront es → ShortShape (call_shape items cs lift_name es (plain_name lift_name))
  unfolding plain_name is_delay is_const is_filter is_lift
  lifted_short cs no_exprs h = tt
  lifted_short cs (more_exprs e es) h = lift_short cs [] e es tt h

  plain_call_short : (cs : List Call) (n : List ℕ) (es : Exprs) → ShortExprs es → is_lift n ≡ false → (c : Option Construct) → plain_name n ≡ c → ShortShape (call_shape items cs n es c)
  plain_call_short cs n es h other (Some c) is = with_short cs c (expressions es) (plain_short n c is) (exprs_short es h)
  plain_call_short cs n es h other None is =
      let all = exprs_short es h in
      let declared = declared_short cs (meaning (scope_at items cs) n) es h in
      if_short (is_delay n) _ _ (with_short cs construct.Delay (expressions es) tt all)
      (if_short (is_const n) _ _ (const_short cs (expressions es) all)
      (if_short (is_filter n) _ _ (filter_shape_short cs (expressions es) all)
      (subst (λ b. ShortShape (if b then lift_shape items cs [] (expressions es) else declared_shape items cs (meaning (scope_at items cs) n) es)) (sym other) declared)))

  called_short : (cs : List Call) (n : List ℕ) (es : Exprs) → (is_lift n ≡ true → ShortFront es) × (is_lift n ≡ false → ShortExprs es) → ShortShape (call_shape items cs n es (plain_name n))
  called_short cs n es h = either (is_lift n) refl
    where
      either : (b : Bool) → is_lift n ≡ b → ShortShape (call_shape items cs n es (plain_name n))
      either true is = subst (λ m. ShortShape (call_shape items cs m es (plain_name m))) (sym (lift_is n is)) (lifted_short cs es (h.0 is))
      either false is = plain_call_short cs n es (h.1 is) is (plain_name n) refl

  shape_short : (cs : List Call) (e : Expr) → ShortExpr e → ShortShape (expr_shape items cs e)
  shape_short cs (tree.If p c a b) h = signal_short cs choice (c ∷ a ∷ b ∷ []) choice_keeps (h.0, (h.1, (h.2, tt)))
  shape_short cs (tree.Chain p l e no_links) h = same_short (Some (beside cs e))
  shape_short cs (tree.Chain p l e (more_links o f ls)) h =
      two_short cs (operation_of (last_operator o ls)) (left_of e (tree.Chain p l e) (all_but_last (more_links o f ls)) ∷ last_operand f ls ∷ [])
      (left_short p l e (all_but_last (more_links o f ls)) h.0 (beginning_short o f ls h.1), (end_short f ls h.1.0 h.1.1, tt))
  shape_short cs (tree.Compare p o a b) h = two_short cs (comparison_of o) (a ∷ b ∷ []) (h.0, (h.1, tt))
  shape_short cs (tree.Negate p e) h = one_short cs unary.Neg e h
  shape_short cs (tree.Not p e) h = one_short cs unary.Not e h
  shape_short cs (tree.Number p n) h = with_short cs _ [] tt tt
  shape_short cs (tree.Negative p n) h = with_short cs _ [] tt tt
  shape_short cs (tree.Text p t) h = with_short cs _ [] h tt
  shape_short cs (tree.Boolean p b) h = with_short cs _ [] tt tt
  shape_short cs (tree.Unit p) h = with_short cs construct.Unit [] tt tt
  shape_short cs (tree.Name p n) h = if_short (is_unit n) _ _ (with_short cs construct.Unit [] tt tt) (name_short cs (meaning (scope_at items cs) n))
  shape_short cs (tree.Call p n es) h = called_short cs n es h
  shape_short cs (tree.CallDotted p d es) h = role_shape_short cs (role_of d) (expressions es) (exprs_short es h)
  shape_short cs (tree.Nil p y) h = with_short cs construct.Nil [] tt tt
  shape_short cs (tree.None p y) h = tt
  shape_short cs (tree.Empty p a) h = empty_short cs _

  pub is_short : (cs : List Call) (e : Expr) (s : Shape) → ShortExpr e → expr_shape items cs e ≡ Some s → IsShortShape s
  is_short cs e s h is = subst ShortShape is (shape_short cs e h)

-- ---- the operands of a choice
pub choice_operands_short : (e : Expr) → ShortExpr e → ShortOperands (choice_operands e)
choice_operands_short (tree.If p c a b) h = operands_short (c ∷ a ∷ b ∷ []) (h.0, (h.1, (h.2, tt)))
choice_operands_short e h = tt
