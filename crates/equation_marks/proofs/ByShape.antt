-- The marks of an expression are those of its parts, and those of its construct.
use Rattle.std.proofs.Common.{◌≡◌, ℕ, Bool, true, false, ◌&&◌, List, [], ◌∷◌, ◌++◌, map, length, drop, Option, Some, None, refl, sym, ap, subst, ◌∙◌, append_assoc}
use Rattle.std.specs.Prelude.{if◌then◌else◌}
use Rattle.std.specs.List.{filter, flat_map}
use Rattle.std.specs.Option.{option_and_then}
use Rattle.std.proofs.lemmas.Bool.{false≢true, true≢false}
use Rattle.std.proofs.lemmas.List.{length-map, append-nil, flat_map_more}
use Rattle.std.proofs.lemmas.List.Folds.{flat_map-map}
use Rattle.std.proofs.lemmas.Option.{same_Some}
use Rattle.tsl_value.specs.declared.place.Place.{Place}
use Rattle.tsl_value.specs.declared.scalar.Scalar.{Scalar}
use Rattle.tsl_value.specs.declared.scalar.Scalar.TheVariants as scalar
use Rattle.flat_core.specs.Typed.{unit_type}
use Rattle.tsl_value.specs.declared.operation.Unary.TheVariants as unary
use Rattle.lift_func.specs.BodyTree.{BodyTree, One, Two}
use Rattle.syntax_tree.specs.Tree as tree
use Rattle.syntax_tree.specs.Tree.{Expr, Exprs, no_exprs, more_exprs, no_links, more_links, place_of}
use Rattle.vocabulary.specs.declared.signature.Role.{Role}
use Rattle.vocabulary.specs.declared.signature.Role.TheVariants as role
use Rattle.vocabulary.specs.Table.{role_of}
use Rattle.name_check.specs.declared.declaration.Declaration.{Declaration}
use Rattle.name_check.specs.declared.declaration.Declaration.TheVariants as declaration
use Rattle.name_check.specs.Builtin.{is_unit, is_lift}
use Rattle.name_check.specs.Scope.{meaning, Agree}
use Rattle.expr_types.specs.Around.{Around}
use Rattle.expr_types.specs.Judge.{type_of}
use Rattle.tsl_value.specs.declared.operation.Update.{Update as UpdateOp}
use Rattle.stream_constructs.specs.Construct.{Construct, operand_trees}
use Rattle.stream_constructs.specs.Construct as construct
use Rattle.stream_constructs.specs.Equations.{choice}
use Rattle.spec_meaning.specs.Occurrence.{Call, Occurrence, scope_at, stands_for, macro_result}
use Rattle.spec_meaning.specs.Function.{literal, no_tree, role_tree, function_at, function_body, operation_of, comparison_of}
use Rattle.spec_meaning.specs.Shape as spec_meaning
use Rattle.spec_meaning.specs.Shape.{Shape, is_part, expressions, beside, with_parts, signal_of, update_of, operands, left_of, all_but_last, last_operator, last_operand, role_shape, plain_name, is_delay, is_const, is_filter, const_shape, filtered_by, filter_shape, same_as, name_shape, declared_shape, lift_by, function_named, lift_shape, call_shape, literal_shape, empty_shape, expr_shape, shape}
use Rattle.spec_meaning.specs.Makes.{is_own, is_choice, choice_operands}
use Rattle.equation_marks.specs.Marks.{Mark, own_marks, choice_own_marks, marks, each_marks, joined, unless_literal, operands_marks, signal_marks, update_marks, varying_count, filter_marks, filter_marks_by, declared_marks, named_marks, role_marks, choice_marks, holds_aggregate}
use Rattle.equation_marks.specs.Marks as spec
use Rattle.equation_marks.specs.inner.Own.{marks_of_shape}
use Rattle.equation_marks.proofs.OwnMarks.{signal_any}
use Rattle.equation_marks.proofs.PartMarks.{one_operand, two_operands, three_operands, joined_each, operands_each}
use Rattle.equation_marks.proofs.ChainMarks.{chain_by_last}

-- ---- whatever marks parts have
module _ (of : Expr → List Mark) (cs : List Call) where
  parts_marks : (es : List Expr) → flat_map (λ o. of o.expr) (map (beside cs) es) ≡ flat_map of es
  parts_marks es = flat_map-map (λ o. of o.expr) (beside cs) es

  -- these marks are those of the parts, and after them those of the construct
  abbrev AreOf : Place → Construct → List Expr → List Mark → Type 0
  AreOf p c es ms = ms ≡ flat_map (λ o. of o.expr) (map (beside cs) es) ++ own_marks p c (length (map (beside cs) es))

  -- the construct's own are told by the number of its parts
  with_count : (count : ℕ → List Mark) (es : List Expr) (before own : List Mark) → before ≡ flat_map of es → own ≡ count (length es) → before ++ own ≡ flat_map (λ o. of o.expr) (map (beside cs) es) ++ count (length (map (beside cs) es))
  with_count count es before own first second =
      (λ i. first i ++ second i)
      ∙ (λ i. sym (parts_marks es) i ++ count (sym (length-map es (beside cs)) i))

  with_own : (p : Place) (c : Construct) (es : List Expr) (before own : List Mark) → before ≡ flat_map of es → own ≡ own_marks p c (length es) → AreOf p c es (before ++ own)
  with_own p c es before own first second = with_count (own_marks p c) es before own first second

  signal_own : (p : Place) (f : BodyTree) (es : List Expr) (before : List Mark) → before ≡ flat_map of (filter is_part es) → AreOf p (construct.Signal f) (filter is_part es) (before ++ signal_marks p es)
  signal_own p f es before first = with_own p (construct.Signal f) (filter is_part es) before (signal_marks p es) first (signal_any p no_tree f (varying_count es))

  update_own : (p : Place) (o : UpdateOp) (es : List Expr) (before : List Mark) → before ≡ flat_map of (filter is_part es) → AreOf p (construct.Update o (operands es)) (filter is_part es) (before ++ update_marks p o es)
  update_own p o es before first = with_own p (construct.Update o (operands es)) (filter is_part es) before (update_marks p o es) first refl

  choice_own : (p : Place) (es : List Expr) (before : List Mark) → before ≡ flat_map of (filter is_part es) → before ++ choice_own_marks p (varying_count es) (operands es) ≡ flat_map (λ o. of o.expr) (map (beside cs) (filter is_part es)) ++ choice_own_marks p (length (map (beside cs) (filter is_part es))) (operands es)
  choice_own p es before first =
      with_count (λ k. choice_own_marks p k (operands es)) (filter is_part es) before (choice_own_marks p (varying_count es) (operands es)) first refl

module _ (items : List tree.Item) (cs : List Call) (at : Around) (call : ℕ → List Mark) where
  abbrev Has : Place → List Mark → Option Shape → Type 0
  Has p ms None = Unit {0}
  Has p ms (Some s) = is_own s.construct ≡ true → ms ≡ flat_map (λ o. marks at call o.expr) s.parts ++ own_marks p s.construct (length s.parts)

  same_has : (p : Place) (ms : List Mark) (o : Option Occurrence) → Has p ms (same_as o)
  same_has p ms None = tt
  same_has p ms (Some a) = λ h. absurd (false≢true h)

  name_has : (p : Place) (ms : List Mark) (d : Option Declaration) → Has p ms (name_shape items cs d)
  name_has p ms (Some (declaration.Input i)) = λ h. absurd (false≢true h)
  name_has p ms (Some d) = same_has p ms (stands_for items cs d)
  name_has p ms None = tt

  if_has : (p : Place) (b : Bool) (ms ns : List Mark) (x y : Option Shape) → Has p ms x → Has p ns y → Has p (if b then ms else ns) (if b then x else y)
  if_has p true ms ns x y first second = first
  if_has p false ms ns x y first second = second

  const_has : (p : Place) (es : Exprs) → Has p (joined (drop 1 (each_marks at call es)) ++ own_marks p (construct.Const scalar.Unit) 1) (const_shape cs (expressions es))
  const_has p no_exprs = tt
  const_has p (more_exprs v no_exprs) = tt
  const_has p (more_exprs v (more_exprs e no_exprs)) = by (literal v)
    where
      by : (s : Option Scalar) → Has p (joined (marks at call e ∷ []) ++ own_marks p (construct.Const scalar.Unit) 1) (option_and_then (λ s. with_parts cs (construct.Const s) (e ∷ [])) s)
      by None = tt
      by (Some s) = λ _. with_own (marks at call) cs p (construct.Const s) (e ∷ []) (joined (marks at call e ∷ [])) (own_marks p (construct.Const scalar.Unit) 1) refl refl
  const_has p (more_exprs v (more_exprs e (more_exprs f es))) = tt

  filter_has : (p : Place) (es : Exprs) → Has p (filter_marks p (expressions es) (each_marks at call es)) (filter_shape cs (expressions es))
  filter_has p no_exprs = tt
  filter_has p (more_exprs e no_exprs) = tt
  filter_has p (more_exprs e (more_exprs c no_exprs)) = by (literal c)
    where
      by : (s : Option Scalar) → Has p (filter_marks_by p s (marks at call e ∷ marks at call c ∷ [])) (filtered_by cs e c s)
      by (Some (scalar.Bool b)) = λ _. with_own (marks at call) cs p (construct.FilterBy b) (e ∷ []) (marks at call e) (own_marks p (construct.FilterBy b) 1) (sym (append-nil (marks at call e))) refl
      by s = λ _. with_own (marks at call) cs p construct.Filter (e ∷ c ∷ []) (joined (marks at call e ∷ marks at call c ∷ [])) (own_marks p construct.Filter 2) refl refl
  filter_has p (more_exprs e (more_exprs c (more_exprs f es))) = tt

  by_has : (p : Place) (streams : List Expr) (f : Expr) (d : Option Declaration) → Has p (flat_map (marks at call) streams ++ [] ++ own_marks p (construct.Lift no_tree) 0) (lift_by items cs streams f d)
  by_has p streams f (Some (declaration.Function i)) =
      λ _. with_own (marks at call) cs p (construct.Lift (function_body items i)) streams (flat_map (marks at call) streams ++ []) (own_marks p (construct.Lift no_tree) 0) (append-nil (flat_map (marks at call) streams)) refl
  by_has p streams f d = tt

  lift_has : (p : Place) (streams : List Expr) (es : Exprs) → Has p (flat_map (marks at call) streams ++ joined (spec.all_but_last (each_marks at call es)) ++ own_marks p (construct.Lift no_tree) 0) (lift_shape items cs streams (expressions es))
  lift_has p streams no_exprs = tt
  lift_has p streams (more_exprs f no_exprs) = by_has p streams f (function_named items (scope_at items cs) f)
  lift_has p streams (more_exprs e (more_exprs f es)) =
      let rest = joined (spec.all_but_last (each_marks at call (more_exprs f es))) in
      let whole : flat_map (marks at call) (streams ++ e ∷ []) ++ rest ≡ flat_map (marks at call) streams ++ (marks at call e ++ rest) =
      ap (λ ms. ms ++ rest) (sym (flat_map_more (marks at call) [] streams e)) ∙ append_assoc (flat_map (marks at call) streams) (marks at call e) rest in
      subst (λ ms. Has p (ms ++ own_marks p (construct.Lift no_tree) 0) (lift_shape items cs (streams ++ e ∷ []) (f ∷ expressions es))) whole (lift_has p (streams ++ e ∷ []) (more_exprs f es))

  declared_has : (p : Place) (d : Option Declaration) (es : Exprs) → Has p (declared_marks at call p d (expressions es) (each_marks at call es)) (declared_shape items cs d es)
  declared_has p (Some (declaration.Macro i)) es = same_has p _ (macro_result items cs i es)
  declared_has p (Some (declaration.Function i)) es =
      λ _. signal_own (marks at call) cs p (function_at items i (operand_trees 0 (operands (expressions es)))) (expressions es) (operands_marks (expressions es) (each_marks at call es)) (operands_each at call es)
  declared_has p d es = tt

  role_has : (p : Place) (r : Role) (es : Exprs) → Has p (role_marks at call p r (expressions es) (each_marks at call es)) (role_shape cs r (expressions es))
  role_has p (role.Update o) es = λ _. update_own (marks at call) cs p o (expressions es) _ (operands_each at call es)
  role_has p r es =
      λ _. signal_own (marks at call) cs p (role_tree r (operand_trees 0 (operands (expressions es)))) (expressions es) (operands_marks (expressions es) (each_marks at call es)) (operands_each at call es)

  call_has : (p : Place) (n : List ℕ) (es : Exprs) (o : Option Construct) → Agree at.scope (scope_at items cs) → Has p (named_marks at call p n (expressions es) (each_marks at call es) o) (call_shape items cs n es o)
  call_has p n es (Some c) same =
      λ _. with_own (marks at call) cs p c (expressions es) (joined (each_marks at call es)) (own_marks p c (length (expressions es))) (joined_each at call es) refl
  call_has p n es None same =
      if_has p (is_delay n) _ _ _ _ (λ _. with_own (marks at call) cs p construct.Delay (expressions es) (joined (each_marks at call es)) (own_marks p construct.Delay (length (expressions es))) (joined_each at call es) refl)
      (if_has p (is_const n) _ _ _ _ (const_has p es)
      (if_has p (is_filter n) _ _ _ _ (filter_has p es)
      (if_has p (is_lift n) _ _ _ _ (lift_has p [] es)
      (subst (λ d. Has p (declared_marks at call p (meaning at.scope n) (expressions es) (each_marks at call es)) (declared_shape items cs d es)) (same.at n) (declared_has p (meaning at.scope n) es)))))

  option_has : {A : Type 0} (p : Place) (ms : List Mark) (f : A → Option Shape) → ((a : A) → Has p ms (f a)) → (o : Option A) → Has p ms (option_and_then f o)
  option_has p ms f each None = tt
  option_has p ms f each (Some a) = each a

  -- a construct without parts
  leaf : (p : Place) (c : Construct) (ms : List Mark) → ms ≡ own_marks p c 0 → Has p ms (with_parts cs c [])
  leaf p c ms h = λ _. h

  signal_has : (p : Place) (body : List BodyTree → BodyTree) (es : List Expr) (before : List Mark) → before ≡ flat_map (marks at call) (filter is_part es) → Has p (before ++ signal_marks p es) (signal_of cs body es)
  signal_has p body es before first = λ _. signal_own (marks at call) cs p (body (operand_trees 0 (operands es))) es before first

  -- ---- expressions but for a choice
  expr_has : (e : Expr) → Agree at.scope (scope_at items cs) → is_choice e ≡ false → Has (place_of e) (marks at call e) (expr_shape items cs e)
  expr_has (tree.If p c a b) same other = absurd (true≢false other)
  expr_has (tree.Chain p l e no_links) same other = same_has p (marks at call e) (Some (beside cs e))
  expr_has (tree.Chain p l e (more_links o f ls)) same other =
      let left = left_of e (tree.Chain p l e) (all_but_last (more_links o f ls)) in
      let right = last_operand f ls in
      λ _.
      chain_by_last at call p l e o f ls
      ∙ signal_own (marks at call) cs p (spec_meaning.two_operands (Two (operation_of (last_operator o ls))) (operand_trees 0 (operands (left ∷ right ∷ [])))) (left ∷ right ∷ []) (unless_literal left (marks at call left) ++ unless_literal right (marks at call right)) (sym (two_operands (marks at call) left right))
  expr_has (tree.Compare p o a b) same other = signal_has p (spec_meaning.two_operands (Two (comparison_of o))) (a ∷ b ∷ []) _ (sym (two_operands (marks at call) a b))
  expr_has (tree.Negate p e) same other = signal_has p (spec_meaning.one_operand (One unary.Neg)) (e ∷ []) _ (sym (one_operand (marks at call) e))
  expr_has (tree.Not p e) same other = signal_has p (spec_meaning.one_operand (One unary.Not)) (e ∷ []) _ (sym (one_operand (marks at call) e))
  expr_has (tree.Number p n) same other = λ _. refl
  expr_has (tree.Negative p n) same other = λ _. refl
  expr_has (tree.Text p t) same other = λ _. refl
  expr_has (tree.Boolean p b) same other = λ _. refl
  expr_has (tree.Unit p) same other = λ _. refl
  expr_has (tree.Name p n) same other = if_has p (is_unit n) (own_marks p construct.Unit 0) [] _ _ (λ _. refl) (name_has p [] (meaning (scope_at items cs) n))
  expr_has (tree.Call p n es) same other = call_has p n es (plain_name n) same
  expr_has (tree.CallDotted p d es) same other = role_has p (role_of d) es
  expr_has (tree.Nil p y) same other = λ _. refl
  expr_has (tree.None p y) same other = tt
  expr_has (tree.Empty p a) same other = option_has p (own_marks p (construct.Empty unit_type) 0) (λ t. with_parts cs (construct.Empty t) []) (λ t _. refl) _

  -- ---- a choice
  abbrev choice_parts : Expr → Expr → Expr → List Mark
  choice_parts c a b = unless_literal c (marks at call c) ++ unless_literal a (marks at call a) ++ unless_literal b (marks at call b)

  if_marked : (p : Place) (c a b : Expr) (f : BodyTree) → marks at call (tree.If p c a b) ≡ flat_map (λ o. marks at call o.expr) (map (beside cs) (filter is_part (c ∷ a ∷ b ∷ []))) ++ marks_of_shape at (tree.If p c a b) (record { construct = construct.Signal f; parts = map (beside cs) (filter is_part (c ∷ a ∷ b ∷ [])) })
  if_marked p c a b f = by (holds_aggregate (type_of at (tree.If p c a b)))
    where
      by : (h : Bool) → choice_parts c a b ++ choice_marks at call p h (c ∷ a ∷ b ∷ []) ≡ flat_map (λ o. marks at call o.expr) (map (beside cs) (filter is_part (c ∷ a ∷ b ∷ []))) ++ (if h then choice_own_marks p (length (map (beside cs) (filter is_part (c ∷ a ∷ b ∷ [])))) (operands (c ∷ a ∷ b ∷ [])) else own_marks p (construct.Signal f) (length (map (beside cs) (filter is_part (c ∷ a ∷ b ∷ [])))))
      by true = choice_own (marks at call) cs p (c ∷ a ∷ b ∷ []) (choice_parts c a b) (sym (three_operands (marks at call) c a b))
      by false = signal_own (marks at call) cs p f (c ∷ a ∷ b ∷ []) (choice_parts c a b) (sym (three_operands (marks at call) c a b))

  -- ---- all expressions
  no_choice : (e : Expr) (sh : Shape) → Agree at.scope (scope_at items cs) → is_choice e ≡ false → expr_shape items cs e ≡ Some sh → is_own sh.construct ≡ true → marks at call e ≡ flat_map (λ o. marks at call o.expr) sh.parts ++ marks_of_shape at e sh
  no_choice e sh same other is own =
      let P : Option Shape → Type 0 = Has (place_of e) (marks at call e) in
      subst P is (expr_has e same other) own
      ∙ (λ i. flat_map (λ o. marks at call o.expr) sh.parts ++ (if sym other i && holds_aggregate (type_of at e) then choice_own_marks (place_of e) (length sh.parts) (choice_operands e) else own_marks (place_of e) sh.construct (length sh.parts)))

  -- Its marks are those of its parts, and after them those of its construct.
  pub marks_by_shape : (e : Expr) (sh : Shape) → Agree at.scope (scope_at items cs) → shape items (record { calls = cs; expr = e }) ≡ Some sh → is_own sh.construct ≡ true → marks at call e ≡ flat_map (λ o. marks at call o.expr) sh.parts ++ marks_of_shape at e sh
  marks_by_shape (tree.If p c a b) sh same is own =
      let P : Shape → Type 0 = λ s. marks at call (tree.If p c a b) ≡ flat_map (λ o. marks at call o.expr) s.parts ++ marks_of_shape at (tree.If p c a b) s in
      subst P (same_Some _ sh is) (if_marked p c a b (choice (operand_trees 0 (operands (c ∷ a ∷ b ∷ [])))))
  marks_by_shape e sh same is own = no_choice e sh same refl is own

  -- the construct itself, and a choice between sets or maps
  pub marks_of_own : (e : Expr) (sh : Shape) → Agree at.scope (scope_at items cs) → shape items (record { calls = cs; expr = e }) ≡ Some sh → is_own sh.construct ≡ true → (is_choice e && holds_aggregate (type_of at e)) ≡ false → marks at call e ≡ flat_map (λ o. marks at call o.expr) sh.parts ++ own_marks (place_of e) sh.construct (length sh.parts)
  marks_of_own e sh same is own other =
      marks_by_shape e sh same is own
      ∙ (λ i. flat_map (λ o. marks at call o.expr) sh.parts ++ (if other i then choice_own_marks (place_of e) (length sh.parts) (choice_operands e) else own_marks (place_of e) sh.construct (length sh.parts)))

  pub marks_of_choice : (e : Expr) (sh : Shape) → Agree at.scope (scope_at items cs) → shape items (record { calls = cs; expr = e }) ≡ Some sh → is_own sh.construct ≡ true → (is_choice e && holds_aggregate (type_of at e)) ≡ true → marks at call e ≡ flat_map (λ o. marks at call o.expr) sh.parts ++ choice_own_marks (place_of e) (length sh.parts) (choice_operands e)
  marks_of_choice e sh same is own chosen =
      marks_by_shape e sh same is own
      ∙ (λ i. flat_map (λ o. marks at call o.expr) sh.parts ++ (if chosen i then choice_own_marks (place_of e) (length sh.parts) (choice_operands e) else own_marks (place_of e) sh.construct (length sh.parts)))
