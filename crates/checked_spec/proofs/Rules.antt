-- What the constructs ask that the rules allow.
use Rattle.std.proofs.Common.{◌≡◌, ℕ, ◌≤◌, true, false, List, [], ◌∷◌, length, refl, ap, sym, subst, ◌∙◌, arith}
use Rattle.std.specs.Prelude.{Ok}
use Rattle.std.proofs.lemmas.Bool.{false≢true}
use Rattle.tsl_value.specs.declared.scalar.ScalarType.{ScalarType}
use Rattle.tsl_value.specs.declared.scalar.KeyType.{KeyType}
use Rattle.tsl_value.specs.declared.scalar.ValueType.{ValueType}
use Rattle.tsl_value.specs.declared.scalar.ValueType.TheVariants as value_type
use Rattle.tsl_value.specs.Aggregate.{is_aggregate}
use Rattle.tsl_value.specs.declared.operation.Unary.TheVariants as unary
use Rattle.tsl_value.specs.declared.operation.Binary.{Binary}
use Rattle.tsl_value.specs.declared.operation.Binary.TheVariants as binary
use Rattle.lift_func.specs.Operations.{is_equality, is_order}
use Rattle.lift_func.specs.BodyTree.{BodyTree, One, Two}
use Rattle.lift_func.specs.Typing.{ValueKind, Value, TypesTwo, HasKind, one, two}
use Rattle.lift_func.specs.Typing as typing
use Rattle.syntax_tree.specs.declared.tree.Level.{Level}
use Rattle.syntax_tree.specs.declared.tree.Level.TheVariants as level
use Rattle.syntax_tree.specs.declared.tree.Operator.{Operator}
use Rattle.syntax_tree.specs.declared.tree.Comparison.{Comparison}
use Rattle.syntax_tree.specs.declared.tree.Comparison.TheVariants as comparison
use Rattle.vocabulary.specs.declared.dotted.Dotted.{Dotted}
use Rattle.vocabulary.specs.declared.signature.Term.{Term}
use Rattle.vocabulary.specs.declared.signature.Term.TheVariants as term
use Rattle.vocabulary.specs.declared.signature.Parameters.{Parameters}
use Rattle.vocabulary.specs.declared.signature.Parameters.TheVariants as parameters
use Rattle.vocabulary.specs.declared.signature.Role.{Role}
use Rattle.vocabulary.specs.declared.signature.Role.TheVariants as role
use Rattle.type_rules.specs.declared.rule.ExprType.{ExprType}
use Rattle.type_rules.specs.declared.rule.ExprType.TheVariants as expr_type
use Rattle.type_rules.specs.declared.rule.Family.TheVariants as family
use Rattle.type_rules.specs.declared.rule.Setting.TheVariants as setting
use Rattle.type_rules.specs.declared.rule.Asked.TheVariants as asked
use Rattle.type_rules.specs.Asked.{ask, and_then, is_in, inner, int, bool}
use Rattle.type_rules.specs.Rules.{ask_two, ask_both, any_stream, setting_of, rule_of_one, rule_of_two, rule_of_three, operand_type, link_rule, compare_rule, negate_rule, not_rule, if_rule, dotted_rule}
use Rattle.vocabulary.specs.Table.{parameters_of, gives_of, role_of, how_many, takes_of}
use Rattle.vocabulary.proofs.Listed.{is_scoped, each_scoped, is_scalar, gives_scalar, each_scalar}
use Rattle.stream_constructs.specs.Equations.{choice}
use Rattle.lift_func.specs.Update.{UpdateTypes}
use Rattle.spec_meaning.specs.Function.{operation_of, comparison_of, role_tree}
use Rattle.spec_meaning.specs.Shape.{one_operand, two_operands}
use Rattle.syntax_tree.specs.Levels.{level_of}
use Rattle.checked_spec.proofs.OperationTypes.{at_types, IsTyped, each_typed}
use Rattle.checked_spec.proofs.SameLemmas.{exactly}
use Rattle.checked_spec.proofs.FunctionAsks.{checked, both_are, alike, same_Ok}
use Rattle.checked_spec.proofs.Signatures.{one_allowed, two_allowed, three_allowed}
use Rattle.checked_spec.proofs.FunctionFitting.{operator_typed}
use Rattle.checked_spec.proofs.Asks.{stream_of}
use Rattle.checked_spec.proofs.Fitting.{IsSignal, IsUpdate, one_tree, two_trees, three_trees}

-- ---- signals of one and of two operands
signal_one : (body : List BodyTree → BodyTree) (x : ExprType) (a r t : ValueType) → x ≡ expr_type.Stream a → r ≡ t → is_aggregate r ≡ false → ((ks : List ValueKind) (f : BodyTree) → HasKind ks f (Value a) → HasKind ks (body (f ∷ [])) (Value r)) → IsSignal false body (x ∷ []) t
signal_one body x a r t is same scalar typed = subst (IsSignal false body (x ∷ [])) same (record {
  ts = a ∷ [];
  are = λ i. is i ∷ [];
  few = omega arith;
  scalar = λ _. scalar;
  typed = λ ks fs h. one_tree (λ gs. HasKind ks (body gs) (Value r)) ks fs a h (typed ks);
})

signal_two : (body : List BodyTree → BodyTree) (x y : ExprType) (a b r t : ValueType) → x ≡ expr_type.Stream a → y ≡ expr_type.Stream b → r ≡ t → is_aggregate r ≡ false → ((ks : List ValueKind) (f g : BodyTree) → HasKind ks f (Value a) → HasKind ks g (Value b) → HasKind ks (body (f ∷ g ∷ [])) (Value r)) → IsSignal false body (x ∷ y ∷ []) t
signal_two body x y a b r t first second same scalar typed = subst (IsSignal false body (x ∷ y ∷ [])) same (record {
  ts = a ∷ b ∷ [];
  are = λ i. first i ∷ second i ∷ [];
  few = omega arith;
  scalar = λ _. scalar;
  typed = λ ks fs h. two_trees (λ gs. HasKind ks (body gs) (Value r)) ks fs a b h (typed ks);
})

-- ---- operators
pub negate_signal : (x : ExprType) (t : ValueType) → negate_rule setting.Streams x ≡ Ok (expr_type.Stream t) → IsSignal false (one_operand (One unary.Neg)) (x ∷ []) t
negate_signal x t h =
    let c = checked (ask (asked.Exactly (expr_type.Stream int)) x) (Ok (expr_type.Stream int)) (expr_type.Stream t) h in
    signal_one (one_operand (One unary.Neg)) x int int t (exactly (expr_type.Stream int) x c.0) (stream_of int t c.1) refl (λ ks f k. one k typing.neg)

pub not_signal : (x : ExprType) (t : ValueType) → not_rule setting.Streams x ≡ Ok (expr_type.Stream t) → IsSignal false (one_operand (One unary.Not)) (x ∷ []) t
not_signal x t h =
    let c = checked (ask (asked.Exactly (expr_type.Stream bool)) x) (Ok (expr_type.Stream bool)) (expr_type.Stream t) h in
    signal_one (one_operand (One unary.Not)) x bool bool t (exactly (expr_type.Stream bool) x c.0) (stream_of bool t c.1) refl (λ ks f k. one k typing.not)

operand_scalar : (l : Level) → is_aggregate (operand_type l) ≡ false
operand_scalar level.Disjunction = refl
operand_scalar level.Conjunction = refl
operand_scalar level.Sum = refl
operand_scalar level.Product = refl

pub link_signal : (o : Operator) (l : Level) (x y : ExprType) (t : ValueType) → level_of o ≡ l → link_rule setting.Streams l x y ≡ Ok (expr_type.Stream t) → IsSignal false (two_operands (Two (operation_of o))) (x ∷ y ∷ []) t
link_signal o l x y t is h =
    let c = checked (ask_both (expr_type.Stream (operand_type l)) x y) (Ok (expr_type.Stream (operand_type l))) (expr_type.Stream t) h in
    let both = both_are (expr_type.Stream (operand_type l)) x y c.0 in
    let typed = subst (λ m. TypesTwo (operation_of o) (Value (operand_type m)) (Value (operand_type m)) (Value (operand_type m))) is (operator_typed o) in
    signal_two (two_operands (Two (operation_of o))) x y (operand_type l) (operand_type l) (operand_type l) t both.0 both.1 (stream_of (operand_type l) t c.1) (operand_scalar l) (λ ks f g j k. two j k typed)

equality_signal : (o : Binary) (x y : ExprType) (t : ValueType) → is_equality o ≡ true → and_then (ask_two (asked.StreamOf family.Scalars) x y) (Ok (expr_type.Stream bool)) ≡ Ok (expr_type.Stream t) → IsSignal false (two_operands (Two o)) (x ∷ y ∷ []) t
equality_signal o x y t is h =
    let c = checked (ask_two (asked.StreamOf family.Scalars) x y) (Ok (expr_type.Stream bool)) (expr_type.Stream t) h in
    let pair = alike setting.Streams family.Scalars x y c.0 in
    by pair.of pair.first pair.second pair.within (stream_of bool t c.1)
  where
    by : (of : ValueType) → x ≡ expr_type.Stream of → y ≡ expr_type.Stream of → is_in family.Scalars of ≡ true → bool ≡ t → IsSignal false (two_operands (Two o)) (x ∷ y ∷ []) t
    by (value_type.Scalar s) first second within same = signal_two (two_operands (Two o)) x y (value_type.Scalar s) (value_type.Scalar s) bool t first second same refl (λ ks f g j k. two j k (typing.equality is))
    by of first second within same = absurd (false≢true within)

order_signal : (o : Binary) (x y : ExprType) (t : ValueType) → is_order o ≡ true → and_then (ask_both (expr_type.Stream int) x y) (Ok (expr_type.Stream bool)) ≡ Ok (expr_type.Stream t) → IsSignal false (two_operands (Two o)) (x ∷ y ∷ []) t
order_signal o x y t is h =
    let c = checked (ask_both (expr_type.Stream int) x y) (Ok (expr_type.Stream bool)) (expr_type.Stream t) h in
    let both = both_are (expr_type.Stream int) x y c.0 in
    signal_two (two_operands (Two o)) x y int int bool t both.0 both.1 (stream_of bool t c.1) refl (λ ks f g j k. two j k (typing.order is))

pub compare_signal : (o : Comparison) (x y : ExprType) (t : ValueType) → compare_rule setting.Streams o x y ≡ Ok (expr_type.Stream t) → IsSignal false (two_operands (Two (comparison_of o))) (x ∷ y ∷ []) t
compare_signal comparison.Same x y t h = equality_signal binary.Eq x y t refl h
compare_signal comparison.Differs x y t h = equality_signal binary.Ne x y t refl h
compare_signal comparison.AtMost x y t h = order_signal binary.Le x y t refl h
compare_signal comparison.AtLeast x y t h = order_signal binary.Ge x y t refl h
compare_signal comparison.Below x y t h = order_signal binary.Lt x y t refl h
compare_signal comparison.Above x y t h = order_signal binary.Gt x y t refl h

-- ---- a choice
pub record IsChoice (x y z : ExprType) (t : ValueType) : Type 0 where
  pub condition : x ≡ expr_type.Stream bool
  pub first : y ≡ expr_type.Stream t
  pub second : z ≡ expr_type.Stream t

pub choice_types : (x y z : ExprType) (t : ValueType) → if_rule setting.Streams x y z ≡ Ok (expr_type.Stream t) → IsChoice x y z t
choice_types x y z t h =
    let c = checked (ask (asked.Exactly (expr_type.Stream bool)) x) (and_then (ask_two any_stream y z) (Ok y)) (expr_type.Stream t) h in
    let d = checked (ask_two any_stream y z) (Ok y) (expr_type.Stream t) c.1 in
    let e = checked (ask any_stream y) (ask (asked.Exactly y) z) tt d.0 in
    let is = same_Ok y (expr_type.Stream t) d.1 in
    record { condition = exactly (expr_type.Stream bool) x c.0; first = is; second = exactly y z e.1 ∙ is }

pub choice_signal : (x y z : ExprType) (t : ValueType) → IsChoice x y z t → IsSignal true choice (x ∷ y ∷ z ∷ []) t
choice_signal x y z t h = record {
  ts = bool ∷ t ∷ t ∷ [];
  are = λ i. h.condition i ∷ h.first i ∷ h.second i ∷ [];
  few = omega arith;
  scalar = λ other. other;
  typed = λ ks fs k. three_trees (λ gs. HasKind ks (choice gs) (Value t)) ks fs bool t t k (λ a b c i j l. typing.choice i j l);
}

-- ---- functions with a dot
abbrev pub RoleFits : Role → List ExprType → ValueType → Type 0
RoleFits (role.Update o) args t = IsUpdate o args t
RoleFits r args t = IsSignal false (role_tree r) args t

abbrev pub DottedFits : Dotted → List ExprType → ValueType → Type 0
DottedFits d args t = RoleFits (role_of d) args t

scalar_term : (k : KeyType) (x : ScalarType) (g : Term) → is_scalar g ≡ true → is_aggregate (at_types k x g) ≡ false
scalar_term k x (term.Of g) h = absurd (false≢true h)
scalar_term k x term.Key h = refl
scalar_term k x term.Entry h = refl
scalar_term k x (term.Scalar t) h = refl

-- what it gives is the type of the whole
gives : (g t : ValueType) → expr_type.Stream g ≡ expr_type.Stream t → g ≡ t
gives g t h = ap inner h

dotted_one_fits : (d : Dotted) (x : ExprType) (t : ValueType) → 1 ≡ takes_of d → dotted_rule setting.Streams d (x ∷ []) ≡ Ok (expr_type.Stream t) → DottedFits d (x ∷ []) t
dotted_one_fits d x t n h = by (role_of d) (parameters_of d) (gives_of d) (each_typed d) (each_scoped d) (each_scalar d) n h
  where
    by : (o : Role) (ps : Parameters) (g : Term) → IsTyped o ps g → is_scoped ps g ≡ true → gives_scalar o g ≡ true → 1 ≡ how_many ps → rule_of_one (setting_of o setting.Streams) ps g x ≡ Ok (expr_type.Stream t) → RoleFits o (x ∷ []) t
    by (role.Unary o) (parameters.One p) g typed scoped scalar n h =
        let i = one_allowed setting.Streams p g x (expr_type.Stream t) scoped h in
        signal_one (role_tree (role.Unary o)) x (at_types i.key i.entry p) (at_types i.key i.entry g) t i.first (gives (at_types i.key i.entry g) t i.whole) (scalar_term i.key i.entry g scalar)
        (λ ks f j. one j (typed i.key i.entry))
    by (role.Binary o) (parameters.One p) g typed scoped scalar n h = absurd typed
    by (role.Update o) (parameters.One p) g typed scoped scalar n h =
        let i = one_allowed setting.Streams p g x (expr_type.Stream t) scoped h in
        let row = typed i.key i.entry in
        let whole = gives (at_types i.key i.entry g) t i.whole in
        let first = i.first ∙ ap (λ v. expr_type.Stream (at_types i.key i.entry v)) row.0 ∙ ap expr_type.Stream whole in
        record { ts = []; are = λ k. first k ∷ []; updates = subst (λ u. UpdateTypes o u []) whole row.1 }
    by o (parameters.Two p q) g typed scoped scalar n h = absurd (omega arith)
    by o (parameters.Three p q r) g typed scoped scalar n h = absurd (omega arith)

dotted_two_fits : (d : Dotted) (x y : ExprType) (t : ValueType) → 2 ≡ takes_of d → dotted_rule setting.Streams d (x ∷ y ∷ []) ≡ Ok (expr_type.Stream t) → DottedFits d (x ∷ y ∷ []) t
dotted_two_fits d x y t n h = by (role_of d) (parameters_of d) (gives_of d) (each_typed d) (each_scoped d) (each_scalar d) n h
  where
    by : (o : Role) (ps : Parameters) (g : Term) → IsTyped o ps g → is_scoped ps g ≡ true → gives_scalar o g ≡ true → 2 ≡ how_many ps → rule_of_two (setting_of o setting.Streams) ps g x y ≡ Ok (expr_type.Stream t) → RoleFits o (x ∷ y ∷ []) t
    by (role.Binary o) (parameters.Two p q) g typed scoped scalar n h =
        let i = two_allowed setting.Streams p q g x y (expr_type.Stream t) scoped h in
        signal_two (role_tree (role.Binary o)) x y (at_types i.key i.entry p) (at_types i.key i.entry q) (at_types i.key i.entry g) t i.first i.second (gives (at_types i.key i.entry g) t i.whole) (scalar_term i.key i.entry g scalar)
        (λ ks f j k l. two k l (typed i.key i.entry))
    by (role.Unary o) (parameters.Two p q) g typed scoped scalar n h = absurd typed
    by (role.Update o) (parameters.Two p q) g typed scoped scalar n h =
        let i = two_allowed setting.Streams p q g x y (expr_type.Stream t) scoped h in
        let row = typed i.key i.entry in
        let whole = gives (at_types i.key i.entry g) t i.whole in
        let first = i.first ∙ ap (λ v. expr_type.Stream (at_types i.key i.entry v)) row.0 ∙ ap expr_type.Stream whole in
        record {
          ts = at_types i.key i.entry q ∷ [];
          are = λ k. first k ∷ i.second k ∷ [];
          updates = subst (λ u. UpdateTypes o u (at_types i.key i.entry q ∷ [])) whole row.1;
        }
    by o (parameters.One p) g typed scoped scalar n h = absurd (omega arith)
    by o (parameters.Three p q r) g typed scoped scalar n h = absurd (omega arith)

dotted_three_fits : (d : Dotted) (x y z : ExprType) (t : ValueType) → 3 ≡ takes_of d → dotted_rule setting.Streams d (x ∷ y ∷ z ∷ []) ≡ Ok (expr_type.Stream t) → DottedFits d (x ∷ y ∷ z ∷ []) t
dotted_three_fits d x y z t n h = by (role_of d) (parameters_of d) (gives_of d) (each_typed d) (each_scoped d) n h
  where
    by : (o : Role) (ps : Parameters) (g : Term) → IsTyped o ps g → is_scoped ps g ≡ true → 3 ≡ how_many ps → rule_of_three (setting_of o setting.Streams) ps g x y z ≡ Ok (expr_type.Stream t) → RoleFits o (x ∷ y ∷ z ∷ []) t
    by (role.Unary o) (parameters.Three p q r) g typed scoped n h = absurd typed
    by (role.Binary o) (parameters.Three p q r) g typed scoped n h = absurd typed
    by (role.Update o) (parameters.Three p q r) g typed scoped n h =
        let i = three_allowed setting.Streams p q r g x y z (expr_type.Stream t) scoped h in
        let row = typed i.key i.entry in
        let whole = gives (at_types i.key i.entry g) t i.whole in
        let first = i.first ∙ ap (λ v. expr_type.Stream (at_types i.key i.entry v)) row.0 ∙ ap expr_type.Stream whole in
        record {
          ts = at_types i.key i.entry q ∷ at_types i.key i.entry r ∷ [];
          are = λ k. first k ∷ i.second k ∷ i.third k ∷ [];
          updates = subst (λ u. UpdateTypes o u (at_types i.key i.entry q ∷ at_types i.key i.entry r ∷ [])) whole row.1;
        }
    by o (parameters.One p) g typed scoped n h = absurd (omega arith)
    by o (parameters.Two p q) g typed scoped n h = absurd (omega arith)

none_taken : (ps : Parameters) → 0 ≡ how_many ps → ⊥
none_taken (parameters.One p) n = omega arith
none_taken (parameters.Two p q) n = omega arith
none_taken (parameters.Three p q r) n = omega arith

many_taken : (ps : Parameters) (m : ℕ) → 4 ≤ m → m ≡ how_many ps → ⊥
many_taken (parameters.One p) m many n = omega arith
many_taken (parameters.Two p q) m many n = omega arith
many_taken (parameters.Three p q r) m many n = omega arith

pub dotted_fits : (d : Dotted) (args : List ExprType) (t : ValueType) → length args ≡ takes_of d → dotted_rule setting.Streams d args ≡ Ok (expr_type.Stream t) → DottedFits d args t
dotted_fits d [] t n h = absurd (none_taken (parameters_of d) n)
dotted_fits d (x ∷ []) t n h = dotted_one_fits d x t n h
dotted_fits d (x ∷ y ∷ []) t n h = dotted_two_fits d x y t n h
dotted_fits d (x ∷ y ∷ z ∷ []) t n h = dotted_three_fits d x y z t n h
dotted_fits d (x ∷ y ∷ z ∷ w ∷ args) t n h = let many : 4 ≤ length (x ∷ y ∷ z ∷ w ∷ args) = omega arith in absurd (many_taken (parameters_of d) (length (x ∷ y ∷ z ∷ w ∷ args)) many n)
