-- From what a rule allows to what a construct asks.
use Rattle.std.proofs.Common.{◌≡◌, ℕ, ◌≤◌, Bool, false, ◌&&◌, List, [], ◌∷◌, length, Some, refl, subst, arith}
use Rattle.std.specs.List.{AllByRecursion}
use Rattle.std.proofs.lemmas.Bool.{true≢false}
use Rattle.std.proofs.lemmas.Option.{same_Some}
use Rattle.tsl_value.specs.declared.scalar.ValueType.{ValueType}
use Rattle.tsl_value.specs.declared.scalar.ValueType.TheVariants as value_type
use Rattle.tsl_value.specs.Aggregate.{is_aggregate}
use Rattle.lift_func.specs.BodyTree.{BodyTree}
use Rattle.lift_func.specs.Typing.{ValueKind, Value, HasKind}
use Rattle.syntax_tree.specs.Tree as tree
use Rattle.syntax_tree.specs.Tree.{Expr}
use Rattle.type_rules.specs.declared.rule.ExprType.{ExprType}
use Rattle.expr_types.specs.Around.{Around}
use Rattle.stream_constructs.specs.declared.construct.Stream.{Stream}
use Rattle.tsl_value.specs.declared.operation.Update.{Update as UpdateOp}
use Rattle.stream_constructs.specs.Construct.{Construct, operand_trees}
use Rattle.lift_func.specs.Update.{UpdateTypes}
use Rattle.stream_constructs.specs.Agree.{IsScalar, Fits}
use Rattle.spec_meaning.specs.Occurrence.{Call}
use Rattle.spec_meaning.specs.Shape.{Shape, operands, with_parts, signal_of, update_of}
use Rattle.spec_meaning.specs.Makes.{is_choice, with_itself, IsAsWritten}
use Rattle.checked_spec.specs.inner.Matches.{HaveTheirTypes}
use Rattle.checked_spec.proofs.Read.{AreTyped}
use Rattle.stream_constructs.proofs.LiftingHangs.{operands_few}
use Rattle.checked_spec.proofs.Operands.{standard, streams, IsStreamAt, AreOf, AreTrees, expressions_of, all_streams, all_of, some_streams, operands_are, values, trees_are}

-- ---- what a rule allows, for constructs of each sort
-- all arguments are parts
pub record IsPlain (c : Construct) (args : List ExprType) (t : ValueType) : Type 0 where
  pub ts : List ValueType
  pub are : args ≡ streams ts
  pub fits : (n : ℕ) (parts : List Stream) → AreOf parts ts → Fits c (with_itself c n parts) t

-- a body over operands; of a choice the type may be an aggregate
pub record IsSignal (chosen : Bool) (body : List BodyTree → BodyTree) (args : List ExprType) (t : ValueType) : Type 0 where
  pub ts : List ValueType
  pub are : args ≡ streams ts
  pub few : length ts ≤ 8
  pub scalar : (chosen && is_aggregate t) ≡ false → is_aggregate t ≡ false
  pub typed : (ks : List ValueKind) (fs : List BodyTree) → AreTrees ks fs ts → HasKind ks (body fs) (Value t)

-- an update of an aggregate of this type, with values of these types beside it
pub record IsUpdate (o : UpdateOp) (args : List ExprType) (t : ValueType) : Type 0 where
  pub ts : List ValueType
  pub are : args ≡ streams (t ∷ ts)
  pub updates : UpdateTypes o t ts

-- ---- trees by their number
pub one_tree : (P : List BodyTree → Type 0) (ks : List ValueKind) (fs : List BodyTree) (t : ValueType) → AreTrees ks fs (t ∷ []) → ((a : BodyTree) → HasKind ks a (Value t) → P (a ∷ [])) → P fs
one_tree P ks [] t h f = absurd h
one_tree P ks (a ∷ []) t h f = f a h.0
one_tree P ks (a ∷ b ∷ fs) t h f = absurd h.1

pub two_trees : (P : List BodyTree → Type 0) (ks : List ValueKind) (fs : List BodyTree) (t u : ValueType) → AreTrees ks fs (t ∷ u ∷ []) → ((a b : BodyTree) → HasKind ks a (Value t) → HasKind ks b (Value u) → P (a ∷ b ∷ [])) → P fs
two_trees P ks [] t u h f = absurd h
two_trees P ks (a ∷ []) t u h f = absurd h.1
two_trees P ks (a ∷ b ∷ []) t u h f = f a b h.0 h.1.0
two_trees P ks (a ∷ b ∷ c ∷ fs) t u h f = absurd h.1.1

pub three_trees : (P : List BodyTree → Type 0) (ks : List ValueKind) (fs : List BodyTree) (t u v : ValueType) → AreTrees ks fs (t ∷ u ∷ v ∷ []) → ((a b c : BodyTree) → HasKind ks a (Value t) → HasKind ks b (Value u) → HasKind ks c (Value v) → P (a ∷ b ∷ c ∷ [])) → P fs
three_trees P ks [] t u v h f = absurd h
three_trees P ks (a ∷ []) t u v h f = absurd h.1
three_trees P ks (a ∷ b ∷ []) t u v h f = absurd h.1.1
three_trees P ks (a ∷ b ∷ c ∷ []) t u v h f = f a b c h.0 h.1.0 h.1.1.0
three_trees P ks (a ∷ b ∷ c ∷ d ∷ fs) t u v h f = absurd h.1.1.1

-- ---- parts by their number
pub no_parts : (P : List Stream → Type 0) (parts : List Stream) → AreOf parts [] → P [] → P parts
no_parts P [] h f = f
no_parts P (a ∷ parts) h f = absurd h

pub one_part : (P : List Stream → Type 0) (parts : List Stream) (t : ValueType) → AreOf parts (t ∷ []) → ((a : Stream) → a.of ≡ t → P (a ∷ [])) → P parts
one_part P [] t h f = absurd h
one_part P (a ∷ []) t h f = f a h.0
one_part P (a ∷ b ∷ parts) t h f = absurd h.1

pub two_parts : (P : List Stream → Type 0) (parts : List Stream) (t u : ValueType) → AreOf parts (t ∷ u ∷ []) → ((a b : Stream) → a.of ≡ t → b.of ≡ u → P (a ∷ b ∷ [])) → P parts
two_parts P [] t u h f = absurd h
two_parts P (a ∷ []) t u h f = absurd h.1
two_parts P (a ∷ b ∷ []) t u h f = f a b h.0 h.1.0
two_parts P (a ∷ b ∷ c ∷ parts) t u h f = absurd h.1.1

-- ---- what an expression is made of fits
pub record IsFitting (at : Around) (e : Expr) (t : ValueType) (sh : Shape) : Type 0 where
  pub typed : AllByRecursion (IsStreamAt at) sh.parts
  pub fits : (n : ℕ) (parts : List Stream) → HaveTheirTypes at (expressions_of sh.parts) parts → (is_choice e && is_aggregate t) ≡ false → Fits sh.construct (with_itself sh.construct n parts) t × IsAsWritten e t

is_scalar : (t : ValueType) → is_aggregate t ≡ false → IsScalar t
is_scalar (value_type.Scalar s) h = record { scalar = s; is = refl }
is_scalar t h = absurd (true≢false h)

module _ (items : List tree.Item) (cs : List Call) (at : Around) (e : Expr) (t : ValueType) (es : List Expr) (args : List ExprType) (sh : Shape) (typed : AreTyped (standard items cs at) es args) (written : IsAsWritten e t) where
  pub plain_fits : (c : Construct) → IsPlain c args t → with_parts cs c es ≡ Some sh → IsFitting (standard items cs at) e t sh
  plain_fits c h is =
      let have = subst (AreTyped (standard items cs at) es) h.are typed in
      subst (IsFitting (standard items cs at) e t) (same_Some _ sh is) (record {
        typed = all_streams (standard items cs at) cs es h.ts have;
        fits = λ n parts theirs other. (h.fits n parts (all_of (standard items cs at) cs es h.ts parts have theirs), written);
      })

  pub signal_fits : (body : List BodyTree → BodyTree) → IsSignal (is_choice e) body args t → signal_of cs body es ≡ Some sh → IsFitting (standard items cs at) e t sh
  signal_fits body h is =
      let have = subst (AreTyped (standard items cs at) es) h.are typed in
      subst (IsFitting (standard items cs at) e t) (same_Some _ sh is) (record {
        typed = some_streams (standard items cs at) cs es h.ts have;
        fits = λ n parts theirs other.
            let are = operands_are items cs at es h.ts parts have theirs in
            let below : length h.ts ≤ 8 = h.few in
            let few : length parts ≤ length h.ts = operands_few (operands es) parts h.ts are in
            let enough : length parts ≤ 8 = omega arith in
            ((is_scalar t (h.scalar other), enough, h.typed (values parts) (operand_trees 0 (operands es)) (trees_are (operands es) parts h.ts are)), written);
      })

  pub update_fits : (o : UpdateOp) → IsUpdate o args t → update_of cs o es ≡ Some sh → IsFitting (standard items cs at) e t sh
  update_fits o h is =
      let have = subst (AreTyped (standard items cs at) es) h.are typed in
      subst (IsFitting (standard items cs at) e t) (same_Some _ sh is) (record {
        typed = some_streams (standard items cs at) cs es (t ∷ h.ts) have;
        fits = λ n parts theirs other. ((h.ts, operands_are items cs at es (t ∷ h.ts) parts have theirs, h.updates), written);
      })
