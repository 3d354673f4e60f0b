-- Expressions that are no calls of names: what they are made of fits.
use Rattle.std.proofs.Common.{◌≡◌, ℕ, ◌==◌, Bool, true, false, not, List, [], ◌∷◌, Option, Some, None, refl, sym, subst, ◌∙◌}
use Rattle.std.specs.Prelude.{Ok, if◌then◌else◌, pos, neg_ℤ}
use Rattle.std.specs.Option.{option_map, option_and_then}
use Rattle.std.proofs.lemmas.Bool.{false≢true, not-false, eqb-true}
use Rattle.std.proofs.lemmas.Option.{same_Some, none-some}
use Rattle.tsl_value.specs.View.{type_of as scalar_type_of}
use Rattle.tsl_value.specs.declared.place.Place.{Place}
use Rattle.tsl_value.specs.declared.scalar.Scalar.{Scalar}
use Rattle.tsl_value.specs.declared.scalar.Scalar.TheVariants as scalar
use Rattle.tsl_value.specs.declared.scalar.ValueType.{ValueType}
use Rattle.tsl_value.specs.declared.scalar.ValueType.TheVariants as value_type
use Rattle.tsl_value.specs.Aggregate.{is_aggregate}
use Rattle.tsl_value.specs.declared.operation.Unary.TheVariants as unary
use Rattle.lift_func.specs.BodyTree.{One, Two}
use Rattle.syntax_tree.specs.Tree as tree
use Rattle.syntax_tree.specs.Tree.{Expr, Exprs, Links, no_links, more_links}
use Rattle.syntax_tree.specs.declared.tree.Level.{Level}
use Rattle.syntax_tree.specs.declared.tree.Operator.{Operator}
use Rattle.syntax_tree.specs.declared.tree.Comparison.{Comparison}
use Rattle.vocabulary.specs.declared.dotted.Dotted.{Dotted}
use Rattle.vocabulary.specs.declared.signature.Role.{Role}
use Rattle.vocabulary.specs.declared.signature.Role.TheVariants as role
use Rattle.name_check.specs.declared.declaration.Declaration.{Declaration}
use Rattle.name_check.specs.declared.declaration.Declaration.TheVariants as declaration
use Rattle.name_check.specs.Builtin.{is_unit}
use Rattle.name_check.specs.Scope.{meaning}
use Rattle.type_rules.specs.declared.rule.ExprType.{ExprType}
use Rattle.type_rules.specs.declared.rule.ExprType.TheVariants as expr_type
use Rattle.type_rules.specs.declared.rule.Setting.TheVariants as setting
use Rattle.type_rules.specs.Asked.{unit, int, bool, text}
use Rattle.type_rules.specs.Rules.{if_rule, compare_rule, negate_rule, not_rule, dotted_rule}
use Rattle.type_rules.specs.Written.{aggregate_of, value_of}
use Rattle.form_check.specs.Arity.{count}
use Rattle.vocabulary.specs.Table.{role_of, takes_of}
use Rattle.expr_types.specs.Around.{Around, declared_type}
use Rattle.expr_types.specs.Judge.{type_of, of_verdict, is_just, types_of}
use Rattle.stream_constructs.specs.Construct.{Construct}
use Rattle.stream_constructs.specs.Construct as construct
use Rattle.stream_constructs.specs.Equations.{choice}
use Rattle.stream_constructs.specs.Agree.{Fits}
use Rattle.spec_meaning.specs.Occurrence.{Call, Occurrence, scope_at, stands_for}
use Rattle.spec_meaning.specs.Function.{comparison_of, operation_of, role_tree}
use Rattle.spec_meaning.specs.Shape.{Shape, expressions, all_but_last, last_operator, last_operand, left_of, with_parts, one_operand, two_operands, role_shape, same_as, name_shape, empty_shape, expr_shape}
use Rattle.spec_meaning.specs.Makes.{is_own, with_itself}
use Rattle.checked_spec.specs.inner.Formed.{AreOfLevel}
use Rattle.checked_spec.proofs.WrittenLemmas.{aggregate_made}
use Rattle.checked_spec.proofs.Asks.{same_stream}
use Rattle.checked_spec.proofs.FunctionRead.{one_part, two_parts, three_parts, arguments_are, types_count}
use Rattle.checked_spec.proofs.Read.{AreTyped, types_are, just_stream}
use Rattle.checked_spec.proofs.Operands.{standard}
use Rattle.checked_spec.proofs.Fitting.{IsPlain, IsFitting, no_parts, plain_fits, signal_fits, update_fits}
use Rattle.checked_spec.proofs.Rules.{RoleFits, negate_signal, not_signal, link_signal, compare_signal, choice_types, choice_signal, dotted_fits}
use Rattle.checked_spec.proofs.Chains.{last_of_level, last_link, left_typed, chain_is}

-- a construct without parts
leaf : (c : Construct) (t : ValueType) → ((n : ℕ) → Fits c (with_itself c n []) t) → IsPlain c [] t
leaf c t fits = record { ts = []; are = refl; fits = λ n parts h. no_parts (λ ps. Fits c (with_itself c n ps) t) parts h (fits n) }

-- a shape without equations of its own
abbrev pub IsNotOwn : Option Shape → Type 0
IsNotOwn None = Unit {0}
IsNotOwn (Some s) = is_own s.construct ≡ false

pub never_own : (P : Type 0) (o : Option Shape) (sh : Shape) → IsNotOwn o → o ≡ Some sh → is_own sh.construct ≡ true → P
never_own P o sh none is own = let here : is_own sh.construct ≡ false = subst IsNotOwn is none in absurd (false≢true (sym here ∙ own))

pub same_not_own : (o : Option Occurrence) → IsNotOwn (same_as o)
same_not_own None = tt
same_not_own (Some a) = refl

pub name_not_own : (items : List tree.Item) (cs : List Call) (d : Option Declaration) → IsNotOwn (name_shape items cs d)
name_not_own items cs (Some (declaration.Input i)) = refl
name_not_own items cs (Some d) = same_not_own (stands_for items cs d)
name_not_own items cs None = tt

module _ (items : List tree.Item) (cs : List Call) (at : Around) (t : ValueType) (sh : Shape) where
  abbrev pub Fitting : Expr → Type 0
  Fitting e = IsFitting (standard items cs at) e t sh

  abbrev pub IsOf : Expr → Type 0
  IsOf e = type_of (standard items cs at) e ≡ Some (expr_type.Stream t)

  abbrev pub IsMade : Expr → Type 0
  IsMade e = expr_shape items cs e ≡ Some sh

  pub if_fitting : (p : Place) (c a b : Expr) → IsOf (tree.If p c a b) → IsMade (tree.If p c a b) → Fitting (tree.If p c a b)
  if_fitting p c a b h is =
      let r = three_parts (if_rule setting.Streams) (type_of (standard items cs at) c) (type_of (standard items cs at) a) (type_of (standard items cs at) b) (expr_type.Stream t) h in
      signal_fits items cs at (tree.If p c a b) t (c ∷ a ∷ b ∷ []) (r.a ∷ r.b ∷ r.c ∷ []) sh (r.first, (r.second, (r.third, tt))) tt choice
      (choice_signal r.a r.b r.c t (choice_types r.a r.b r.c t r.allows)) is

  pub chain_fitting : (p : Place) (l : Level) (e : Expr) (o : Operator) (f : Expr) (ls : Links) → AreOfLevel l (more_links o f ls) → IsOf (tree.Chain p l e (more_links o f ls)) → IsMade (tree.Chain p l e (more_links o f ls)) → Fitting (tree.Chain p l e (more_links o f ls))
  chain_fitting p l e o f ls level h is =
      let c = chain_is items cs at l p e (more_links o f ls) (expr_type.Stream t) h in
      let k = last_link items cs at l c.0 o f ls (expr_type.Stream t) c.2 in
      signal_fits items cs at (tree.Chain p l e (more_links o f ls)) t (left_of e (tree.Chain p l e) (all_but_last (more_links o f ls)) ∷ last_operand f ls ∷ []) (k.a ∷ k.b ∷ []) sh
      (left_typed items cs at l p e (all_but_last (more_links o f ls)) c.0 k.a c.1 k.left, (k.right, tt)) tt
      (two_operands (Two (operation_of (last_operator o ls))))
      (link_signal (last_operator o ls) l k.a k.b t (last_of_level l o f ls level) k.allows) is

  pub compare_fitting : (p : Place) (o : Comparison) (a b : Expr) → IsOf (tree.Compare p o a b) → IsMade (tree.Compare p o a b) → Fitting (tree.Compare p o a b)
  compare_fitting p o a b h is =
      let r = two_parts (compare_rule setting.Streams o) (type_of (standard items cs at) a) (type_of (standard items cs at) b) (expr_type.Stream t) h in
      signal_fits items cs at (tree.Compare p o a b) t (a ∷ b ∷ []) (r.a ∷ r.b ∷ []) sh (r.first, (r.second, tt)) tt (two_operands (Two (comparison_of o)))
      (compare_signal o r.a r.b t r.allows) is

  pub negate_fitting : (p : Place) (e : Expr) → IsOf (tree.Negate p e) → IsMade (tree.Negate p e) → Fitting (tree.Negate p e)
  negate_fitting p e h is =
      let r = one_part (negate_rule setting.Streams) (type_of (standard items cs at) e) (expr_type.Stream t) h in
      signal_fits items cs at (tree.Negate p e) t (e ∷ []) (r.a ∷ []) sh (r.is, tt) tt (one_operand (One unary.Neg)) (negate_signal r.a t r.allows) is

  pub not_fitting : (p : Place) (e : Expr) → IsOf (tree.Not p e) → IsMade (tree.Not p e) → Fitting (tree.Not p e)
  not_fitting p e h is =
      let r = one_part (not_rule setting.Streams) (type_of (standard items cs at) e) (expr_type.Stream t) h in
      signal_fits items cs at (tree.Not p e) t (e ∷ []) (r.a ∷ []) sh (r.is, tt) tt (one_operand (One unary.Not)) (not_signal r.a t r.allows) is

  -- ---- what is without parts
  literal_leaf : (s : Scalar) → value_type.Scalar (scalar_type_of s) ≡ t → IsPlain (construct.Literal s) [] t
  literal_leaf s same = leaf (construct.Literal s) t (λ n. sym same)

  pub number_fitting : (p : Place) (n : ℕ) → IsOf (tree.Number p n) → IsMade (tree.Number p n) → Fitting (tree.Number p n)
  number_fitting p n h is = plain_fits items cs at (tree.Number p n) t [] [] sh tt tt (construct.Literal (scalar.Int (pos n))) (literal_leaf (scalar.Int (pos n)) (same_stream int t (same_Some (expr_type.Stream int) (expr_type.Stream t) h))) is

  pub negative_fitting : (p : Place) (n : ℕ) → IsOf (tree.Negative p n) → IsMade (tree.Negative p n) → Fitting (tree.Negative p n)
  negative_fitting p n h is = plain_fits items cs at (tree.Negative p n) t [] [] sh tt tt (construct.Literal (scalar.Int (neg_ℤ (pos n)))) (literal_leaf (scalar.Int (neg_ℤ (pos n))) (same_stream int t (same_Some (expr_type.Stream int) (expr_type.Stream t) h))) is

  pub text_fitting : (p : Place) (x : List ℕ) → IsOf (tree.Text p x) → IsMade (tree.Text p x) → Fitting (tree.Text p x)
  text_fitting p x h is = plain_fits items cs at (tree.Text p x) t [] [] sh tt tt (construct.Literal (scalar.Text x)) (literal_leaf (scalar.Text x) (same_stream text t (same_Some (expr_type.Stream text) (expr_type.Stream t) h))) is

  pub boolean_fitting : (p : Place) (b : Bool) → IsOf (tree.Boolean p b) → IsMade (tree.Boolean p b) → Fitting (tree.Boolean p b)
  boolean_fitting p b h is = plain_fits items cs at (tree.Boolean p b) t [] [] sh tt tt (construct.Literal (scalar.Bool b)) (literal_leaf (scalar.Bool b) (same_stream bool t (same_Some (expr_type.Stream bool) (expr_type.Stream t) h))) is

  unit_leaf : Some (expr_type.Stream unit) ≡ Some (expr_type.Stream t) → IsPlain construct.Unit [] t
  unit_leaf h = leaf construct.Unit t (λ n. sym (same_stream unit t (same_Some (expr_type.Stream unit) (expr_type.Stream t) h)))

  pub unit_fitting : (p : Place) → IsOf (tree.Unit p) → IsMade (tree.Unit p) → Fitting (tree.Unit p)
  unit_fitting p h is = plain_fits items cs at (tree.Unit p) t [] [] sh tt tt construct.Unit (unit_leaf h) is

  pub name_fitting : (p : Place) (x : List ℕ) → IsOf (tree.Name p x) → IsMade (tree.Name p x) → is_own sh.construct ≡ true → Fitting (tree.Name p x)
  name_fitting p x h is own = by (is_unit x) h is
    where
      by : (b : Bool) → of_verdict (if b then Some (Ok (expr_type.Stream unit)) else is_just (option_and_then (declared_type (standard items cs at)) (meaning (scope_at items cs) x))) ≡ Some (expr_type.Stream t) → (if b then with_parts cs construct.Unit [] else name_shape items cs (meaning (scope_at items cs) x)) ≡ Some sh → Fitting (tree.Name p x)
      by true h is = plain_fits items cs at (tree.Name p x) t [] [] sh tt tt construct.Unit (unit_leaf h) is
      by false h is = never_own (Fitting (tree.Name p x)) (name_shape items cs (meaning (scope_at items cs) x)) sh (name_not_own items cs (meaning (scope_at items cs) x)) is own

  pub nil_fitting : (p : Place) (y : tree.TypeName) → IsOf (tree.Nil p y) → IsMade (tree.Nil p y) → Fitting (tree.Nil p y)
  nil_fitting p y h is = plain_fits items cs at (tree.Nil p y) t [] [] sh tt (just_stream (value_of y) t h) construct.Nil (leaf construct.Nil t (λ n. tt)) is

  empty_leaf : (u : ValueType) → Some (expr_type.Stream u) ≡ Some (expr_type.Stream t) → is_aggregate u ≡ true → IsPlain (construct.Empty u) [] t
  empty_leaf u h aggregate = leaf (construct.Empty u) t (λ n. (sym (same_stream u t (same_Some (expr_type.Stream u) (expr_type.Stream t) h)), aggregate))

  pub empty_fitting : (p : Place) (a : tree.Aggregate) → IsOf (tree.Empty p a) → IsMade (tree.Empty p a) → Fitting (tree.Empty p a)
  empty_fitting p a h is = by (aggregate_of a) refl h is
    where
      by : (o : Option ValueType) → aggregate_of a ≡ o → of_verdict (is_just (option_map expr_type.Stream o)) ≡ Some (expr_type.Stream t) → empty_shape items cs o ≡ Some sh → Fitting (tree.Empty p a)
      by (Some u) made h is = plain_fits items cs at (tree.Empty p a) t [] [] sh tt tt (construct.Empty u) (empty_leaf u h (aggregate_made a u made)) is
      by None made h is = absurd (none-some (expr_type.Stream t) h)

  -- ---- functions with a dot
  pub dotted_fitting : (p : Place) (d : Dotted) (es : Exprs) → not (takes_of d == count es) ≡ false → IsOf (tree.CallDotted p d es) → IsMade (tree.CallDotted p d es) → Fitting (tree.CallDotted p d es)
  dotted_fitting p d es fits h is =
      let r = arguments_are (dotted_rule setting.Streams d) (types_of (standard items cs at) es) (expr_type.Stream t) h in
      let takes = eqb-true (takes_of d) (count es) (not-false (takes_of d == count es) fits) in
      by (role_of d) r.args (types_are (standard items cs at) es r.args r.are) (dotted_fits d r.args t (types_count (standard items cs at) es r.args r.are ∙ sym takes) r.allows) is
    where
      by : (o : Role) (args : List ExprType) → AreTyped (standard items cs at) (expressions es) args → RoleFits o args t → role_shape cs o (expressions es) ≡ Some sh → Fitting (tree.CallDotted p d es)
      by (role.Update o) args typed h is = update_fits items cs at (tree.CallDotted p d es) t (expressions es) args sh typed tt o h is
      by o args typed h is = signal_fits items cs at (tree.CallDotted p d es) t (expressions es) args sh typed tt (role_tree o) h is
