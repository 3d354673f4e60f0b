-- The trees of expressions in value functions fit the types of the expressions: what the rules allow.
use Rattle.std.proofs.Common.{◌≡◌, true, List, [], ◌∷◌, refl, ap, sym, subst, ◌∙◌}
use Rattle.std.specs.Prelude.{Ok}
use Rattle.std.proofs.lemmas.Bool.{false≢true}
use Rattle.tsl_value.specs.declared.scalar.ScalarType.{ScalarType}
use Rattle.tsl_value.specs.declared.scalar.ValueType.{ValueType}
use Rattle.tsl_value.specs.declared.scalar.ValueType.TheVariants as value_type
use Rattle.tsl_value.specs.declared.operation.Unary.TheVariants as unary
use Rattle.tsl_value.specs.declared.operation.Binary.{Binary}
use Rattle.tsl_value.specs.declared.operation.Binary.TheVariants as binary
use Rattle.lift_func.specs.Operations.{is_equality, is_order}
use Rattle.lift_func.specs.BodyTree.{BodyTree, One, Two, Choice}
use Rattle.lift_func.specs.Typing.{ValueKind, Value, Optional, TypesTwo, HasKind, one, two, choice}
use Rattle.lift_func.specs.Typing as typing
use Rattle.syntax_tree.specs.declared.tree.Level.{Level}
use Rattle.syntax_tree.specs.declared.tree.Operator.{Operator}
use Rattle.syntax_tree.specs.declared.tree.Operator.TheVariants as operator
use Rattle.syntax_tree.specs.declared.tree.Comparison.{Comparison}
use Rattle.syntax_tree.specs.declared.tree.Comparison.TheVariants as comparison
use Rattle.vocabulary.specs.declared.dotted.Dotted.{Dotted}
use Rattle.vocabulary.specs.declared.signature.Term.{Term}
use Rattle.vocabulary.specs.declared.signature.Parameters.{Parameters}
use Rattle.vocabulary.specs.declared.signature.Parameters.TheVariants as parameters
use Rattle.vocabulary.specs.declared.signature.Role.{Role}
use Rattle.vocabulary.specs.declared.signature.Role.TheVariants as role
use Rattle.vocabulary.specs.Table.{parameters_of, gives_of, role_of}
use Rattle.vocabulary.proofs.Listed.{is_scoped, each_scoped}
use Rattle.type_rules.specs.declared.rule.ExprType.{ExprType}
use Rattle.type_rules.specs.declared.rule.ExprType.TheVariants as expr_type
use Rattle.type_rules.specs.declared.rule.Family.{Family}
use Rattle.type_rules.specs.declared.rule.Family.TheVariants as family
use Rattle.type_rules.specs.declared.rule.Setting.TheVariants as setting
use Rattle.type_rules.specs.declared.rule.Asked.TheVariants as asked
use Rattle.type_rules.specs.Asked.{ask, and_then, is_in, unit, int, bool}
use Rattle.type_rules.specs.Rules.{stream, ask_two, ask_both, setting_of, rule_of_one, rule_of_two, rule_of_three, operand_type, link_rule, compare_rule, negate_rule, not_rule, if_rule, dotted_one, dotted_two, dotted_three, dotted_rule}
use Rattle.spec_meaning.specs.Function.{operation_of, comparison_of, role_tree, dotted_tree}
use Rattle.syntax_tree.specs.Levels.{level_of}
use Rattle.checked_spec.proofs.OperationTypes.{IsTyped, each_typed}
use Rattle.checked_spec.proofs.SameLemmas.{exactly}
use Rattle.checked_spec.proofs.FunctionAsks.{checked, of_family, both_are, alike, same_Ok}
use Rattle.checked_spec.proofs.Signatures.{one_allowed, two_allowed, three_allowed}

-- a tree is of a type; of a stream, whatever it is
abbrev pub Fits : List ValueKind → BodyTree → ExprType → Type 0
Fits ks t (expr_type.Value v) = HasKind ks t (Value v)
Fits ks t (expr_type.Optional v) = HasKind ks t (Optional v)
Fits ks t (expr_type.Stream v) = Unit {0}

abbrev pub FitAll : List ValueKind → List BodyTree → List ExprType → Type 0
FitAll ks [] [] = Unit {0}
FitAll ks (t ∷ ts) (u ∷ us) = Fits ks t u × FitAll ks ts us
FitAll ks _ _ = ⊥

record IsScalar (of : ValueType) : Type 0 where
  scalar : ScalarType
  is : of ≡ value_type.Scalar scalar

scalar_in : (of : ValueType) → is_in family.Scalars of ≡ true → IsScalar of
scalar_in (value_type.Scalar s) h = record { scalar = s; is = refl }
scalar_in of h = absurd (false≢true h)

-- ---- operators
pub operator_typed : (o : Operator) → TypesTwo (operation_of o) (Value (operand_type (level_of o))) (Value (operand_type (level_of o))) (Value (operand_type (level_of o)))
operator_typed operator.Or = typing.logic refl
operator_typed operator.And = typing.logic refl
operator_typed operator.Add = typing.arithmetic refl
operator_typed operator.Subtract = typing.arithmetic refl
operator_typed operator.Multiply = typing.arithmetic refl
operator_typed operator.Divide = typing.arithmetic refl
operator_typed operator.Remainder = typing.arithmetic refl

module _ (ks : List ValueKind) where
  pub stream_fits : (t : BodyTree) (u : ExprType) (v : ValueType) → u ≡ expr_type.Stream v → Fits ks t u
  stream_fits t u v is = subst (Fits ks t) (sym is) tt

  -- what is a stream fits, whatever its tree
  pub asked_stream : (t : BodyTree) (f : Family) (a u : ExprType) → ask (asked.StreamOf f) a ≡ Ok tt → a ≡ u → Fits ks t u
  asked_stream t f a u h is =
      let s = of_family setting.Streams f a h in
      stream_fits t u s.of (sym is ∙ s.is)

  one_fits : (s t : BodyTree) (a u x y : ExprType) → Fits ks s a → a ≡ x → y ≡ u → (Fits ks s x → Fits ks t y) → Fits ks t u
  one_fits s t a u x y f is gives typed = subst (Fits ks t) gives (typed (subst (Fits ks s) is f))

  two_fit : (r s t : BodyTree) (a b u x y z : ExprType) → Fits ks r a → Fits ks s b → a ≡ x → b ≡ y → z ≡ u → (Fits ks r x → Fits ks s y → Fits ks t z) → Fits ks t u
  two_fit r s t a b u x y z f g first second gives typed = subst (Fits ks t) gives (typed (subst (Fits ks r) first f) (subst (Fits ks s) second g))

  pub negate_fits : (t : BodyTree) (a u : ExprType) → Fits ks t a → negate_rule setting.Values a ≡ Ok u → Fits ks (One unary.Neg t) u
  negate_fits t a u f h =
      let c = checked (ask (asked.Exactly (expr_type.Value int)) a) (Ok (expr_type.Value int)) u h in
      one_fits t (One unary.Neg t) a u (expr_type.Value int) (expr_type.Value int) f (exactly (expr_type.Value int) a c.0) (same_Ok (expr_type.Value int) u c.1) (λ k. one k typing.neg)

  pub not_fits : (t : BodyTree) (a u : ExprType) → Fits ks t a → not_rule setting.Values a ≡ Ok u → Fits ks (One unary.Not t) u
  not_fits t a u f h =
      let c = checked (ask (asked.Exactly (expr_type.Value bool)) a) (Ok (expr_type.Value bool)) u h in
      one_fits t (One unary.Not t) a u (expr_type.Value bool) (expr_type.Value bool) f (exactly (expr_type.Value bool) a c.0) (same_Ok (expr_type.Value bool) u c.1) (λ k. one k typing.not)

  pub link_fits : (o : Operator) (l : Level) (s t : BodyTree) (a b u : ExprType) → level_of o ≡ l → Fits ks s a → Fits ks t b → link_rule setting.Values l a b ≡ Ok u → Fits ks (Two (operation_of o) s t) u
  link_fits o l s t a b u is f g h =
      let x = expr_type.Value (operand_type l) in
      let c = checked (ask_both x a b) (Ok x) u h in
      let both = both_are x a b c.0 in
      let typed = subst (λ m. TypesTwo (operation_of o) (Value (operand_type m)) (Value (operand_type m)) (Value (operand_type m))) is (operator_typed o) in
      two_fit s t (Two (operation_of o) s t) a b u x x x f g both.0 both.1 (same_Ok x u c.1) (λ j k. two j k typed)

  equality_fits : (o : Binary) (s t : BodyTree) (a b u : ExprType) → is_equality o ≡ true → Fits ks s a → Fits ks t b → and_then (ask_two (asked.ValueOf family.Scalars) a b) (Ok (expr_type.Value bool)) ≡ Ok u → Fits ks (Two o s t) u
  equality_fits o s t a b u is f g h =
      let c = checked (ask_two (asked.ValueOf family.Scalars) a b) (Ok (expr_type.Value bool)) u h in
      let both = alike setting.Values family.Scalars a b c.0 in
      let of = scalar_in both.of both.within in
      let x = expr_type.Value (value_type.Scalar of.scalar) in
      two_fit s t (Two o s t) a b u x x (expr_type.Value bool) f g (both.first ∙ ap expr_type.Value of.is) (both.second ∙ ap expr_type.Value of.is) (same_Ok (expr_type.Value bool) u c.1)
      (λ j k. two j k (typing.equality is))

  order_fits : (o : Binary) (s t : BodyTree) (a b u : ExprType) → is_order o ≡ true → Fits ks s a → Fits ks t b → and_then (ask_both (expr_type.Value int) a b) (Ok (expr_type.Value bool)) ≡ Ok u → Fits ks (Two o s t) u
  order_fits o s t a b u is f g h =
      let x = expr_type.Value int in
      let c = checked (ask_both x a b) (Ok (expr_type.Value bool)) u h in
      let both = both_are x a b c.0 in
      two_fit s t (Two o s t) a b u x x (expr_type.Value bool) f g both.0 both.1 (same_Ok (expr_type.Value bool) u c.1) (λ j k. two j k (typing.order is))

  pub compare_fits : (o : Comparison) (s t : BodyTree) (a b u : ExprType) → Fits ks s a → Fits ks t b → compare_rule setting.Values o a b ≡ Ok u → Fits ks (Two (comparison_of o) s t) u
  compare_fits comparison.Same s t a b u f g h = equality_fits binary.Eq s t a b u refl f g h
  compare_fits comparison.Differs s t a b u f g h = equality_fits binary.Ne s t a b u refl f g h
  compare_fits comparison.AtMost s t a b u f g h = order_fits binary.Le s t a b u refl f g h
  compare_fits comparison.AtLeast s t a b u f g h = order_fits binary.Ge s t a b u refl f g h
  compare_fits comparison.Below s t a b u f g h = order_fits binary.Lt s t a b u refl f g h
  compare_fits comparison.Above s t a b u f g h = order_fits binary.Gt s t a b u refl f g h

  chosen : (c s t : BodyTree) (v : ExprType) → HasKind ks c (Value bool) → Fits ks s v → Fits ks t v → Fits ks (Choice c s t) v
  chosen c s t (expr_type.Value v) h f g = choice h f g
  chosen c s t (expr_type.Optional v) h f g = choice h f g
  chosen c s t (expr_type.Stream v) h f g = tt

  pub if_fits : (r s t : BodyTree) (c a b u : ExprType) → Fits ks r c → Fits ks s a → Fits ks t b → if_rule setting.Values c a b ≡ Ok u → Fits ks (Choice r s t) u
  if_fits r s t c a b u e f g h =
      let k = checked (ask (asked.Exactly (expr_type.Value bool)) c) (and_then (ask_two asked.NoStream a b) (Ok a)) u h in
      let l = checked (ask_two asked.NoStream a b) (Ok a) u k.1 in
      let m = checked (ask asked.NoStream a) (ask (asked.Exactly a) b) tt l.0 in
      subst (Fits ks (Choice r s t)) (same_Ok a u l.1)
      (chosen r s t a (subst (Fits ks r) (exactly (expr_type.Value bool) c k.0) e) f (subst (Fits ks t) (exactly a b m.1) g))

  -- ---- functions with a dot
  dotted_one_fits : (d : Dotted) (t : BodyTree) (a u : ExprType) → Fits ks t a → dotted_one setting.Values d a ≡ Ok u → Fits ks (dotted_tree d (t ∷ [])) u
  dotted_one_fits d t a u f h = by (role_of d) (parameters_of d) (gives_of d) (each_typed d) (each_scoped d) h
    where
      by : (o : Role) (ps : Parameters) (g : Term) → IsTyped o ps g → is_scoped ps g ≡ true → rule_of_one (setting_of o setting.Values) ps g a ≡ Ok u → Fits ks (role_tree o (t ∷ [])) u
      by (role.Unary o) (parameters.One p) g typed scoped h =
          let i = one_allowed setting.Values p g a u scoped h in
          subst (Fits ks (One o t)) i.whole (one (subst (Fits ks t) i.first f) (typed i.key i.entry))
      by (role.Binary o) (parameters.One p) g typed scoped h = absurd typed
      by (role.Update o) (parameters.One p) g typed scoped h =
          let i = one_allowed setting.Streams p g a u scoped h in
          stream_fits (role_tree (role.Update o) (t ∷ [])) u _ (sym i.whole)
      by o (parameters.Two p q) g typed scoped h = stream_fits (role_tree o (t ∷ [])) u unit (sym (same_Ok (stream unit) u h))
      by o (parameters.Three p q r) g typed scoped h = stream_fits (role_tree o (t ∷ [])) u unit (sym (same_Ok (stream unit) u h))

  dotted_two_fits : (d : Dotted) (s t : BodyTree) (a b u : ExprType) → Fits ks s a → Fits ks t b → dotted_two setting.Values d a b ≡ Ok u → Fits ks (dotted_tree d (s ∷ t ∷ [])) u
  dotted_two_fits d s t a b u f g h = by (role_of d) (parameters_of d) (gives_of d) (each_typed d) (each_scoped d) h
    where
      by : (o : Role) (ps : Parameters) (v : Term) → IsTyped o ps v → is_scoped ps v ≡ true → rule_of_two (setting_of o setting.Values) ps v a b ≡ Ok u → Fits ks (role_tree o (s ∷ t ∷ [])) u
      by (role.Binary o) (parameters.Two p q) v typed scoped h =
          let i = two_allowed setting.Values p q v a b u scoped h in
          subst (Fits ks (Two o s t)) i.whole (two (subst (Fits ks s) i.first f) (subst (Fits ks t) i.second g) (typed i.key i.entry))
      by (role.Unary o) (parameters.Two p q) v typed scoped h = absurd typed
      by (role.Update o) (parameters.Two p q) v typed scoped h =
          let i = two_allowed setting.Streams p q v a b u scoped h in
          stream_fits (role_tree (role.Update o) (s ∷ t ∷ [])) u _ (sym i.whole)
      by o (parameters.One p) v typed scoped h = stream_fits (role_tree o (s ∷ t ∷ [])) u unit (sym (same_Ok (stream unit) u h))
      by o (parameters.Three p q r) v typed scoped h = stream_fits (role_tree o (s ∷ t ∷ [])) u unit (sym (same_Ok (stream unit) u h))

  -- three parts has an update alone, and that is a stream
  dotted_three_fits : (d : Dotted) (ts : List BodyTree) (a b c u : ExprType) → dotted_three setting.Values d a b c ≡ Ok u → Fits ks (dotted_tree d ts) u
  dotted_three_fits d ts a b c u h = by (role_of d) (parameters_of d) (gives_of d) (each_typed d) (each_scoped d) h
    where
      by : (o : Role) (ps : Parameters) (g : Term) → IsTyped o ps g → is_scoped ps g ≡ true → rule_of_three (setting_of o setting.Values) ps g a b c ≡ Ok u → Fits ks (role_tree o ts) u
      by (role.Unary o) (parameters.Three p q r) g typed scoped h = absurd typed
      by (role.Binary o) (parameters.Three p q r) g typed scoped h = absurd typed
      by (role.Update o) (parameters.Three p q r) g typed scoped h =
          let i = three_allowed setting.Streams p q r g a b c u scoped h in
          stream_fits (role_tree (role.Update o) ts) u _ (sym i.whole)
      by o (parameters.One p) g typed scoped h = stream_fits (role_tree o ts) u unit (sym (same_Ok (stream unit) u h))
      by o (parameters.Two p q) g typed scoped h = stream_fits (role_tree o ts) u unit (sym (same_Ok (stream unit) u h))

  pub dotted_fits : (d : Dotted) (ts : List BodyTree) (us : List ExprType) (u : ExprType) → FitAll ks ts us → dotted_rule setting.Values d us ≡ Ok u → Fits ks (dotted_tree d ts) u
  dotted_fits d ts [] u f h = stream_fits (dotted_tree d ts) u unit (sym (same_Ok (stream unit) u h))
  dotted_fits d [] (a ∷ []) u f h = absurd f
  dotted_fits d (t ∷ []) (a ∷ []) u f h = dotted_one_fits d t a u f.0 h
  dotted_fits d (t ∷ s ∷ ts) (a ∷ []) u f h = absurd f.1
  dotted_fits d [] (a ∷ b ∷ []) u f h = absurd f
  dotted_fits d (t ∷ []) (a ∷ b ∷ []) u f h = absurd f.1
  dotted_fits d (t ∷ s ∷ []) (a ∷ b ∷ []) u f h = dotted_two_fits d t s a b u f.0 f.1.0 h
  dotted_fits d (t ∷ s ∷ r ∷ ts) (a ∷ b ∷ []) u f h = absurd f.1.1
  dotted_fits d ts (a ∷ b ∷ c ∷ []) u f h = dotted_three_fits d ts a b c u h
  dotted_fits d ts (a ∷ b ∷ c ∷ e ∷ us) u f h = stream_fits (dotted_tree d ts) u unit (sym (same_Ok (stream unit) u h))
