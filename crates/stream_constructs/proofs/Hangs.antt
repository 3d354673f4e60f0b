-- The equations of each construct hang together.
use Rattle.std.proofs.Common.{◌≡◌, ℕ, zero, suc, ◌+◌, ◌≤◌, Bool, true, false, List, [], ◌∷◌, ◌++◌, map, length, Some, refl, sym, ap, subst, ◌∙◌, arith}
use Rattle.std.specs.Prelude.{slice_get}
use Rattle.std.specs.List.{AllByRecursion}
use Rattle.std.proofs.lemmas.Bool.{false≢true}
use Rattle.std.proofs.lemmas.List.{length-map}
use Rattle.std.proofs.lemmas.Option.{same_Some, none-some}
use Rattle.tsl_value.specs.declared.place.Place.{Place}
use Rattle.tsl_value.specs.declared.scalar.Scalar.{Scalar}
use Rattle.tsl_value.specs.declared.scalar.Scalar.TheVariants as scalar
use Rattle.tsl_value.specs.declared.scalar.ValueType.{ValueType}
use Rattle.lift_func.specs.BodyTree.{BodyTree}
use Rattle.lift_func.specs.Typing.{ValueKind, Value, Optional, HasKind, literal, argument, absent, one, two, choice}
use Rattle.flat_core.specs.declared.equation.Op.{Op}
use Rattle.flat_core.specs.declared.equation.Op.TheVariants as op
use Rattle.translation_order.specs.Graph.{Path, edge}
use Rattle.flat_core.specs.System.{System}
use Rattle.flat_core.specs.Typed as typed
use Rattle.tsl_value.specs.Aggregate.{is_aggregate}
use Rattle.flat_core.specs.Typed.{unit_type, int_type, bool_type, kind_of, IsTyped}
use Rattle.flat_core.specs.TypedSystem.{IsOfType, IsTypedEquation}
use Rattle.flat_core.specs.WellFormed.{Needs, unguarded_of}
use Rattle.flat_core.proofs.Members.{contains_head, all_append}
use Rattle.flat_core.proofs.Uniqueness.{all_by}
use Rattle.stream_constructs.specs.declared.construct.Stream.{Stream}
use Rattle.stream_constructs.specs.Construct as construct
use Rattle.stream_constructs.specs.Construct.{Construct, Operand}
use Rattle.stream_constructs.specs.Equations.{numbers, equation, lifting, lifted_streams, literal_equations, first_number, with_literals, own_equations, alias_equation}
use Rattle.stream_constructs.specs.Made.{varying_count}
use Rattle.stream_constructs.specs.Agree.{AreOperands, IsScalar, Fits, HangTogether, is_used_part}
use Rattle.stream_constructs.proofs.Numbered.{At, at_none, at_more, at_two, at_first, at_second, at_front, at_back, at_both}
use Rattle.stream_constructs.proofs.Hanging.{Stands, hang, hang_from}
use Rattle.stream_constructs.proofs.LiftingHangs.{HasType, types_lifted, operands_vary, spread_held, lifting_spread, spread_literals, all_numbers, know_lifting, know_literals, know_operands, type_at, types_at, typed_lifting, typed_literal, typed_literals, typed_operands}

-- a body without arguments is typed in front of any
weaker : (args : List ValueKind) (f : BodyTree) (k : ValueKind) → HasKind [] f k → HasKind args f k
weaker args f k (literal same) = literal same
weaker args f k (argument is) = absurd (none-some _ is)
weaker args f k absent = absent
weaker args f k (one {o} {a} h types) = one (weaker args a _ h) types
weaker args f k (two {o} {a} {b} h j types) = two (weaker args a _ h) (weaker args b _ j) types
weaker args f k (choice {c} {a} {b} h i j) = choice (weaker args c _ h) (weaker args a _ i) (weaker args b _ j)

kinds_of : (strict : Bool) (parts : List Stream) → map (λ a. kind_of strict a.of) parts ≡ map (kind_of strict) (map (λ a. a.of) parts)
kinds_of strict [] = refl
kinds_of strict (a ∷ rest) = ap (λ ks. kind_of strict a.of ∷ ks) (kinds_of strict rest)

lift_typed : (f : BodyTree) (strict : Bool) (ts : List ValueType) (of : ValueType) → IsScalar of → 1 ≤ length ts → length ts ≤ 8 → HasKind (map (kind_of strict) ts) f (kind_of strict of) → IsTyped (op.Lift f strict) ts of
lift_typed f strict ts of scalar_is low high kind = subst (λ u. IsTyped (op.Lift f strict) ts u) (sym scalar_is.is) (typed.lift low high (subst (λ u. HasKind (map (kind_of strict) ts) f (kind_of strict u)) scalar_is.is kind))

from_numbers : (Q : ℕ → Type 0) (parts : List Stream) → AllByRecursion Q (numbers parts) → AllByRecursion (λ a. Q a.id) parts
from_numbers Q [] all = tt
from_numbers Q (a ∷ rest) all = (all.0, from_numbers Q rest all.1)

first_known : (K : ℕ → Type 0) (n : ℕ) (a : Stream) (rest : List Stream) → AllByRecursion (λ b. K b.id) (lifted_streams n (a ∷ rest)) → K (first_number (lifted_streams n (a ∷ rest)))
first_known K n a [] all = all.0
first_known K n a (b ∷ []) all = all.0
first_known K n a (b ∷ c ∷ rest) all = all.0

pub lifted_length : (n : ℕ) (parts : List Stream) → length (lifted_streams n parts) ≡ length parts
lifted_length n parts = sym (length-map (lifted_streams n parts) (λ (b : Stream). b.of)) ∙ ap length (types_lifted n parts) ∙ length-map parts (λ (b : Stream). b.of)

-- a name as a definition
pub alias_hangs : (p : Place) (n : ℕ) (a : Stream) (s : System) → At (Stands s) n (alias_equation p a ∷ []) → HangTogether construct.Same (alias_equation p a ∷ []) n (a ∷ []) s
alias_hangs p n a s stands =
    hang s construct.Same n (a ∷ []) [] _ stands refl
    (λ Q along all. (at_none, (all.0, tt)))
    (λ K parts own. (at_none, (parts.0, (parts.0, tt))))
    (λ all. (tt, record { types = a.of ∷ a.of ∷ []; arguments = (all.0, (all.0, tt)); typed = typed.merge }))

module _ (p : Place) (of : ValueType) (n : ℕ) (s : System) where
  abbrev Hangs : Construct → List Stream → Type 0
  Hangs c parts = Fits c parts of → At (Stands s) n (own_equations p of n c parts) → HangTogether c (own_equations p of n c parts) n parts s

  pub nil_hangs : Hangs construct.Nil []
  nil_hangs fits stands = hang s construct.Nil n [] [] _ stands refl (λ Q along all. (at_none, tt)) (λ K parts own. (at_none, tt)) (λ all. (tt, record { types = []; arguments = tt; typed = typed.nil }))

  unit_typed : IsTypedEquation s.equations (equation p op.Unit [] unit_type)
  unit_typed = record { types = []; arguments = tt; typed = typed.unit }

  pub unit_hangs : Hangs construct.Unit []
  unit_hangs fits stands = hang s construct.Unit n [] [] _ stands refl (λ Q along all. (at_none, tt)) (λ K parts own. (at_none, tt)) (λ all. (tt, unit_typed))

  pub literal_hangs : (r : Scalar) → Hangs (construct.Literal r) []
  literal_hangs r fits stands =
      hang s (construct.Literal r) n [] (_ ∷ []) _ stands refl
      (λ Q along all. (at_more all.0 at_none, tt))
      (λ K parts own. (at_more tt at_none, (at_first own, tt)))
      (λ all. ((unit_typed, tt), typed_literal s p r n unit_type (type_at s n _ (at_first stands))))

  pub empty_hangs : (e : ValueType) → Hangs (construct.Empty e) []
  empty_hangs e fits stands = hang s (construct.Empty e) n [] [] _ stands refl (λ Q along all. (at_none, tt)) (λ K parts own. (at_none, tt)) (λ all. (tt, record { types = []; arguments = tt; typed = typed.empty fits.1 }))

  pub time_hangs : (a : Stream) → Hangs construct.Time (a ∷ [])
  time_hangs a fits stands = hang s construct.Time n (a ∷ []) [] _ stands refl (λ Q along all. (at_none, all)) (λ K parts own. (at_none, parts)) (λ all. (tt, record { types = a.of ∷ []; arguments = all; typed = typed.time }))

  pub last_hangs : (v r : Stream) → Hangs construct.Last (v ∷ r ∷ [])
  last_hangs v r fits stands =
      hang_from s construct.Last n (v ∷ r ∷ []) [] _ stands
      (λ Q along here all. (at_none, all))
      falls
      (λ K parts own. (at_none, parts))
      (λ all. (tt, record { types = v.of ∷ r.of ∷ []; arguments = all; typed = typed.last }))
    where
      falls : (k : ℕ) (x : Stream) → slice_get (v ∷ r ∷ []) k ≡ Some x → is_used_part construct.Last k ≡ true → Path (Needs s) (n + 0) x.id
      falls zero x is used = absurd (false≢true used)
      falls (suc zero) x is used = subst (λ (a : Stream). Path (Needs s) (n + 0) a.id) (same_Some r x is) (edge (record { at = _; is = stands.each 0 _ refl; argument = contains_head r.id [] }))
      falls (suc (suc k)) x is used = absurd (none-some x is)

  pub delay_hangs : (d r x : Stream) → x.id ≡ n → Hangs construct.Delay (d ∷ r ∷ x ∷ [])
  delay_hangs d r x itself fits stands =
      let same : n + 0 ≡ x.id = omega arith in
      hang_from s construct.Delay n (d ∷ r ∷ x ∷ []) [] _ stands
      (λ Q along here all. (at_none, (all.0, (all.1.0, (subst Q same here, tt)))))
      (λ k a is used. absurd (false≢true used))
      (λ K parts own. (at_none, (parts.0, (parts.1.0, tt))))
      (λ all. (tt, record { types = int_type ∷ r.of ∷ []; arguments = (subst (λ u. IsOfType s.equations d.id u) fits.1 all.0, (all.1.0, tt)); typed = typed.delay }))

  pub merge_hangs : (a b : Stream) → Hangs construct.Merge (a ∷ b ∷ [])
  merge_hangs a b fits stands =
      hang s construct.Merge n (a ∷ b ∷ []) [] _ stands refl (λ Q along all. (at_none, all)) (λ K parts own. (at_none, parts))
      (λ all. (tt, record { types = a.of ∷ a.of ∷ []; arguments = (all.0, (subst (λ u. IsOfType s.equations b.id u) fits.1 all.1.0, tt)); typed = typed.merge }))

  pub const_hangs : (r : Scalar) (a : Stream) → Hangs (construct.Const r) (a ∷ [])
  const_hangs r a fits stands = hang s (construct.Const r) n (a ∷ []) [] _ stands refl (λ Q along all. (at_none, all)) (λ K parts own. (at_none, parts)) (λ all. (tt, typed_literal s p r a.id a.of all.0))

  pub filter_hangs : (e c : Stream) → Hangs construct.Filter (e ∷ c ∷ [])
  filter_hangs e c fits stands =
      hang s construct.Filter n (e ∷ c ∷ []) (_ ∷ _ ∷ []) _ stands refl
      (λ Q along all. let under = spread_held s Q along p n e.id c (at_first stands) (at_second stands) all.1.0 in (at_two under.1 all.1.0 at_none, (all.0, (under.0, tt))))
      (λ K parts own. (at_two (parts.1.0, (parts.0, tt)) (parts.1.0, (at_first own, tt)) at_none, (parts.0, (at_second own, tt))))
      (λ all. (
        (
          record { types = c.of ∷ e.of ∷ []; arguments = (all.1.0, (all.0, tt)); typed = typed.last },
          (record { types = c.of ∷ c.of ∷ []; arguments = (all.1.0, (type_at s n _ (at_first stands), tt)); typed = typed.merge }, tt),
        ),
        record { types = e.of ∷ bool_type ∷ []; arguments = (all.0, (subst (λ u. IsOfType s.equations (n + 1) u) fits.1 (type_at s (n + 1) _ (at_second stands)), tt)); typed = typed.filter },
      ))

  pub filter_by_hangs : (b : Bool) (e : Stream) → Hangs (construct.FilterBy b) (e ∷ [])
  filter_by_hangs b e fits stands =
      hang s (construct.FilterBy b) n (e ∷ []) (_ ∷ []) _ stands refl
      (λ Q along all. (at_more all.1.0 at_none, (all.0, tt)))
      (λ K parts own. (at_more parts at_none, (parts.0, (at_first own, tt))))
      (λ all. ((typed_literal s p (scalar.Bool b) e.id e.of all.0, tt), record { types = e.of ∷ bool_type ∷ []; arguments = (all.0, (type_at s n _ (at_first stands), tt)); typed = typed.filter }))

  pub lift_hangs : (f : BodyTree) (parts : List Stream) → Hangs (construct.Lift f) parts
  lift_hangs f parts fits stands =
      let count = length-map parts (λ (a : Stream). a.of) in
      let low = fits.1 in
      let high = fits.2 in
      hang s (construct.Lift f) n parts [] _ stands refl (λ Q along all. (at_none, from_numbers Q parts all)) (λ K known own. (at_none, all_numbers s K parts known))
      (λ all. (
        tt,
        record {
          types = map (λ a. a.of) parts;
          arguments = types_at s parts all;
          typed = lift_typed f false (map (λ a. a.of) parts) of fits.0 (omega arith) (omega arith) (subst (λ ks. HasKind ks f (Optional of)) (kinds_of false parts) fits.3);
        },
      ))

  pub signal_alone_hangs : (f : BodyTree) → Hangs (construct.Signal f) []
  signal_alone_hangs f fits stands =
      hang s (construct.Signal f) n [] (_ ∷ []) _ stands refl
      (λ Q along all. (at_more all.0 at_none, tt))
      (λ K parts own. (at_more tt at_none, (at_first own, tt)))
      (λ all. ((unit_typed, tt), record { types = unit_type ∷ []; arguments = (type_at s n _ (at_first stands), tt); typed = lift_typed f true (unit_type ∷ []) of fits.0 (omega arith) (omega arith) (weaker _ f (Value of) fits.2) }))

  pub signal_hangs : (f : BodyTree) (a : Stream) (rest : List Stream) → Hangs (construct.Signal f) (a ∷ rest)
  signal_hangs f a rest fits stands =
      let parts = a ∷ rest in
      let lift = lifting p n parts in
      let up = lifted_streams n parts in
      let standing = at_front lift _ stands in
      let high = fits.1 in
      let count = length-map parts (λ (b : Stream). b.of) in
      hang s (construct.Signal f) n parts lift _ stands refl
      (λ Q along all. lifting_spread s Q along p n parts standing (from_numbers Q up all))
      (λ K known own. let more = know_lifting s K p n parts known own in (more.0, all_numbers s K up more.1))
      (λ all. let more = typed_lifting s p n parts high all standing in (
        more.0,
        record {
          types = map (λ b. b.of) up;
          arguments = types_at s up more.1;
          typed = subst (λ ts. IsTyped (op.Lift f true) ts of) (sym (types_lifted n parts)) (lift_typed f true (map (λ b. b.of) parts) of fits.0 (omega arith) (omega arith) (subst (λ ks. HasKind ks f (Value of)) (kinds_of true parts) fits.2));
        },
      ))

-- an operation on operands of which some may be literals
pub literals_hang :
    (c : Construct) (p : Place) (o : Op) (of : ValueType) (n : ℕ) (os : List Operand) (a : Stream) (rest : List Stream) (ts : List ValueType) (s : System)
    → ((args : List ℕ) → unguarded_of o args ≡ args) → AreOperands os (a ∷ rest) ts → length (a ∷ rest) ≤ 8 → IsTyped o ts of
    → At (Stands s) n (with_literals p o of n os (a ∷ rest))
    → HangTogether c (with_literals p o of n os (a ∷ rest)) n (a ∷ rest) s
literals_hang c p o of n os a rest ts s unguarded operands few is_typed stands =
    let parts = a ∷ rest in
    let lift = lifting p n parts in
    let up = lifted_streams n parts in
    let first = first_number up in
    let m = n + length lift in
    let literals = literal_equations p first os in
    let standing = at_front (lift ++ literals) _ stands in
    let lift_stands = at_front lift literals standing in
    let literals_stand = at_back lift literals standing in
    let vary : varying_count os ≡ length up = operands_vary os parts ts operands ∙ sym (lifted_length n parts) in
    hang s c n parts (lift ++ literals) _ stands (unguarded _)
    (λ Q along all.
    let far = spread_literals s Q along p first m os up vary all in
    let near = lifting_spread s Q along p n parts lift_stands far.1 in
    (at_both lift literals near.0 far.0, near.1))
    (λ K known own.
    let near = know_lifting s K p n parts known (at_front lift literals own) in
    let own_literals = at_back lift literals own in
    (at_both lift literals near.0 (know_literals s K p first m os (first_known K n a rest near.1)), know_operands s K p first m os up near.1 own_literals))
    (λ all.
    let near = typed_lifting s p n parts few all lift_stands in
    let at = first_known (λ i. (u : ValueType) × IsOfType s.equations i u) n a rest (all_by (HasType s) (λ b. (u : ValueType) × IsOfType s.equations b.id u) (λ b h. (b.of, h)) up near.1) in (
      all_append (IsTypedEquation s.equations) lift literals near.0 (typed_literals s p first at.0 os at.1),
      record { types = ts; arguments = typed_operands s p first m os parts up ts operands (types_lifted n parts) near.1 literals_stand; typed = is_typed },
    ))
