-- The equations that lift operands, and those of literals, hang together with the operands.
use Rattle.std.proofs.Common.{◌≡◌, ℕ, suc, ◌+◌, ◌≤◌, List, [], ◌∷◌, map, length, refl, sym, ap, subst, arith}
use Rattle.std.specs.List.{AllByRecursion}
use Rattle.std.proofs.lemmas.List.{length-map}
use Rattle.tsl_value.specs.declared.place.Place.{Place}
use Rattle.tsl_value.specs.declared.scalar.Scalar.{Scalar}
use Rattle.tsl_value.specs.declared.scalar.ValueType.{ValueType}
use Rattle.lift_func.specs.Typing.{literal}
use Rattle.flat_core.specs.declared.equation.Op.TheVariants as op
use Rattle.flat_core.specs.declared.equation.Equation.{Equation}
use Rattle.flat_core.specs.System.{System}
use Rattle.flat_core.specs.Typed.{unit_type, last, merge, any, lift}
use Rattle.flat_core.specs.TypedSystem.{IsOfType, AreOfTypes, IsTypedEquation}
use Rattle.flat_core.proofs.Members.{contains_head, contains_tail}
use Rattle.stream_constructs.specs.declared.construct.Stream.{Stream}
use Rattle.stream_constructs.specs.Construct.{Operand, Fixed, Varying}
use Rattle.stream_constructs.specs.Equations.{numbers, equation, literal_over, held_each, merges, lifting, lifted_streams, literal_equations, operand_numbers}
use Rattle.stream_constructs.specs.Made.{varying_count}
use Rattle.stream_constructs.specs.Agree.{AreOperands}
use Rattle.stream_constructs.proofs.Numbered.{At, at_none, at_more, at_two, at_first, at_rest, at_second, at_after, at_from}
use Rattle.stream_constructs.proofs.Hanging.{Stands, Spreads, Reached}

-- ---- lists that are as long as others
pub types_lifted : (n : ℕ) (parts : List Stream) → map (λ b. b.of) (lifted_streams n parts) ≡ map (λ a. a.of) parts
types_lifted n [] = refl
types_lifted n (a ∷ []) = refl
types_lifted n (a ∷ b ∷ []) = refl
types_lifted n (a ∷ b ∷ c ∷ rest) = each (n + 1) (a ∷ b ∷ c ∷ rest)
  where
    each : (n : ℕ) (parts : List Stream) → map (λ b. b.of) (merges n parts) ≡ map (λ a. a.of) parts
    each n [] = refl
    each n (a ∷ rest) = ap (λ ts. a.of ∷ ts) (each (n + 2) rest)

pub operands_vary : (os : List Operand) (parts : List Stream) (ts : List ValueType) → AreOperands os parts ts → varying_count os ≡ length parts
operands_vary [] [] [] h = refl
operands_vary (Fixed s ∷ os) parts (t ∷ ts) h = operands_vary os parts ts h.1
operands_vary (Varying ∷ os) (a ∷ parts) (t ∷ ts) h = ap suc (operands_vary os parts ts h.1)
operands_vary os parts ts h = absurd h

pub operands_few : (os : List Operand) (parts : List Stream) (ts : List ValueType) → AreOperands os parts ts → length parts ≤ length ts
operands_few [] [] [] h = omega arith
operands_few (Fixed s ∷ os) parts (t ∷ ts) h = let few = operands_few os parts ts h.1 in omega arith
operands_few (Varying ∷ os) (a ∷ parts) (t ∷ ts) h = let few = operands_few os parts ts h.1 in omega arith
operands_few os parts ts h = absurd h

module _ (s : System) where
  -- ---- what spreads from the lifted operands
  module _ (Q : ℕ → Type 0) (along : Spreads s Q) where
    pub spread_held : (p : Place) (n trigger : ℕ) (a : Stream) → Stands s n (equation p op.Last (a.id ∷ trigger ∷ []) a.of) → Stands s (n + 1) (equation p op.Merge (a.id ∷ n ∷ []) a.of) → Q (n + 1) → Q a.id × Q n × Q trigger
    spread_held p n trigger a last_is merge_is q =
        let first = along (n + 1) a.id (record { at = _; is = merge_is; argument = contains_head a.id (n ∷ []) }) q in
        let second = along (n + 1) n (record { at = _; is = merge_is; argument = contains_tail a.id (n ∷ []) n (contains_head n []) }) q in
        (first, second, along n trigger (record { at = _; is = last_is; argument = contains_head trigger [] }) second)

    spread_each : (p : Place) (n trigger : ℕ) (parts : List Stream) → At (Stands s) n (held_each p n trigger parts) → AllByRecursion (λ b. Q b.id) (merges n parts) → Reached s Q n parts (held_each p n trigger parts)
    spread_each p n trigger [] at all = (at_none, tt)
    spread_each p n trigger (a ∷ rest) at all =
        let here = spread_held p n trigger a (at_first at) (at_second at) all.0 in
        let more = spread_each p (n + 2) trigger rest (at_after at) all.1 in
        (at_two here.1 all.0 more.0, (here.0, more.1))

    pub lifting_spread : (p : Place) (n : ℕ) (parts : List Stream) → At (Stands s) n (lifting p n parts) → AllByRecursion (λ b. Q b.id) (lifted_streams n parts) → Reached s Q n parts (lifting p n parts)
    lifting_spread p n [] at all = (at_none, tt)
    lifting_spread p n (a ∷ []) at all = (at_none, all)
    lifting_spread p n (a ∷ b ∷ []) at all =
        let after = at_after at in
        let first = spread_held p n b.id a (at_first at) (at_second at) all.0 in
        let second = spread_held p (n + 2) a.id b (at_first after) (at_second after) all.1.0 in
        (at_two first.1 all.0 (at_two second.1 all.1.0 at_none), (first.0, (second.0, tt)))
    lifting_spread p n (a ∷ b ∷ c ∷ rest) at all =
        let after : At (Stands s) (n + 1) (held_each p (n + 1) n (a ∷ b ∷ c ∷ rest)) = at_from (n + 1) (omega arith) (at_rest at) in
        let trigger = spread_held p (n + 1) n a (at_first after) (at_second after) all.0 in
        let more = spread_each p (n + 1) n (a ∷ b ∷ c ∷ rest) after all in
        (at_more trigger.2 (at_from (suc n) (omega arith) more.0), more.1)

    pub spread_literals : (p : Place) (first m : ℕ) (os : List Operand) (up : List Stream) → varying_count os ≡ length up → AllByRecursion Q (operand_numbers m os (numbers up)) → At (λ i f. Q i) m (literal_equations p first os) × AllByRecursion (λ b. Q b.id) up
    spread_literals p first m [] [] same all = (at_none, tt)
    spread_literals p first m [] (b ∷ up) same all = absurd (omega arith)
    spread_literals p first m (Fixed s ∷ os) up same all = let more = spread_literals p first (suc m) os up same all.1 in (at_more all.0 more.0, more.1)
    spread_literals p first m (Varying ∷ os) [] same all = absurd (omega arith)
    spread_literals p first m (Varying ∷ os) (b ∷ up) same all = let more = spread_literals p first m os up (omega arith) all.1 in (more.0, (all.0, more.1))

  -- ---- what is known of the arguments
  module _ (K : ℕ → Type 0) where
    abbrev Arguments : ℕ → Equation → Type 0
    Arguments i f = AllByRecursion K f.args

    know_each : (p : Place) (n trigger : ℕ) (parts : List Stream) → K trigger → AllByRecursion (λ a. K a.id) parts → At (λ i f. K i) n (held_each p n trigger parts) → At Arguments n (held_each p n trigger parts) × AllByRecursion (λ b. K b.id) (merges n parts)
    know_each p n trigger [] there all at = (at_none, tt)
    know_each p n trigger (a ∷ rest) there all at =
        let more = know_each p (n + 2) trigger rest there all.1 (at_after at) in
        (at_two (all.0, (there, tt)) (all.0, (at_first at, tt)) more.0, (at_second at, more.1))

    pub all_numbers : (parts : List Stream) → AllByRecursion (λ a. K a.id) parts → AllByRecursion K (numbers parts)
    all_numbers [] all = tt
    all_numbers (a ∷ rest) all = (all.0, all_numbers rest all.1)

    pub know_lifting : (p : Place) (n : ℕ) (parts : List Stream) → AllByRecursion (λ a. K a.id) parts → At (λ i f. K i) n (lifting p n parts) → At Arguments n (lifting p n parts) × AllByRecursion (λ b. K b.id) (lifted_streams n parts)
    know_lifting p n [] all at = (at_none, tt)
    know_lifting p n (a ∷ []) all at = (at_none, all)
    know_lifting p n (a ∷ b ∷ []) all at =
        let after = at_after at in (
          at_two (all.0, (all.1.0, tt)) (all.0, (at_first at, tt)) (at_two (all.1.0, (all.0, tt)) (all.1.0, (at_first after, tt)) at_none),
          (at_second at, (at_second after, tt)),
        )
    know_lifting p n (a ∷ b ∷ c ∷ rest) all at =
        let more = know_each p (n + 1) n (a ∷ b ∷ c ∷ rest) (at_first at) all (at_from (n + 1) (omega arith) (at_rest at)) in
        (at_more (all_numbers (a ∷ b ∷ c ∷ rest) all) (at_from (suc n) (omega arith) more.0), more.1)

    pub know_literals : (p : Place) (first m : ℕ) (os : List Operand) → K first → At Arguments m (literal_equations p first os)
    know_literals p first m [] there = at_none
    know_literals p first m (Fixed s ∷ os) there = at_more (there, tt) (know_literals p first (suc m) os there)
    know_literals p first m (Varying ∷ os) there = know_literals p first m os there

    pub know_operands : (p : Place) (first m : ℕ) (os : List Operand) (up : List Stream) → AllByRecursion (λ b. K b.id) up → At (λ i f. K i) m (literal_equations p first os) → AllByRecursion K (operand_numbers m os (numbers up))
    know_operands p first m [] up all at = tt
    know_operands p first m (Fixed s ∷ os) up all at = (at_first at, know_operands p first (suc m) os up all (at_rest at))
    know_operands p first m (Varying ∷ os) [] all at = tt
    know_operands p first m (Varying ∷ os) (b ∷ up) all at = (all.0, know_operands p first m os up all.1 at)

  -- ---- types
  abbrev pub HasType : Stream → Type 0
  HasType a = IsOfType s.equations a.id a.of

  pub type_at : (i : ℕ) (e : Equation) → Stands s i e → IsOfType s.equations i e.of
  type_at i e is = record { at = e; is = is; of_is = refl }

  pub types_at : (parts : List Stream) → AllByRecursion HasType parts → AreOfTypes s.equations (numbers parts) (map (λ a. a.of) parts)
  types_at [] all = tt
  types_at (a ∷ rest) all = (all.0, types_at rest all.1)

  typed_last : (p : Place) (trigger : ℕ) (u : ValueType) (a : Stream) → IsOfType s.equations trigger u → HasType a → IsTypedEquation s.equations (equation p op.Last (a.id ∷ trigger ∷ []) a.of)
  typed_last p trigger u a there has = record { types = a.of ∷ u ∷ []; arguments = (has, (there, tt)); typed = last }

  typed_merge : (p : Place) (n : ℕ) (a : Stream) → IsOfType s.equations n a.of → HasType a → IsTypedEquation s.equations (equation p op.Merge (a.id ∷ n ∷ []) a.of)
  typed_merge p n a there has = record { types = a.of ∷ a.of ∷ []; arguments = (has, (there, tt)); typed = merge }

  typed_each : (p : Place) (n trigger : ℕ) (u : ValueType) (parts : List Stream) → IsOfType s.equations trigger u → AllByRecursion HasType parts → At (Stands s) n (held_each p n trigger parts) → AllByRecursion (IsTypedEquation s.equations) (held_each p n trigger parts) × AllByRecursion HasType (merges n parts)
  typed_each p n trigger u [] there all at = (tt, tt)
  typed_each p n trigger u (a ∷ rest) there all at =
      let more = typed_each p (n + 2) trigger u rest there all.1 (at_after at) in
      ((typed_last p trigger u a there all.0, (typed_merge p n a (type_at n _ (at_first at)) all.0, more.0)), (type_at (n + 1) _ (at_second at), more.1))

  pub typed_lifting : (p : Place) (n : ℕ) (parts : List Stream) → length parts ≤ 8 → AllByRecursion HasType parts → At (Stands s) n (lifting p n parts) → AllByRecursion (IsTypedEquation s.equations) (lifting p n parts) × AllByRecursion HasType (lifted_streams n parts)
  typed_lifting p n [] few all at = (tt, tt)
  typed_lifting p n (a ∷ []) few all at = (tt, all)
  typed_lifting p n (a ∷ b ∷ []) few all at =
      let after = at_after at in (
        (typed_last p b.id b.of a all.1.0 all.0, (typed_merge p n a (type_at n _ (at_first at)) all.0, (typed_last p a.id a.of b all.0 all.1.0, (typed_merge p (n + 2) b (type_at (n + 2) _ (at_first after)) all.1.0, tt)))),
        (type_at (n + 1) _ (at_second at), (type_at (n + 2 + 1) _ (at_second after), tt)),
      )
  typed_lifting p n (a ∷ b ∷ c ∷ rest) few all at =
      let parts = a ∷ b ∷ c ∷ rest in
      let count = length-map parts (λ (d : Stream). d.of) in
      let more = typed_each p (n + 1) n unit_type parts (type_at n _ (at_first at)) all (at_from (n + 1) (omega arith) (at_rest at)) in
      ((record { types = map (λ d. d.of) parts; arguments = types_at parts all; typed = any (omega arith) (omega arith) }, more.0), more.1)

  pub typed_literal : (p : Place) (r : Scalar) (first : ℕ) (u : ValueType) → IsOfType s.equations first u → IsTypedEquation s.equations (literal_over p r first)
  typed_literal p r first u there = record { types = u ∷ []; arguments = (there, tt); typed = lift (omega arith) (omega arith) (literal refl) }

  pub typed_literals : (p : Place) (first : ℕ) (u : ValueType) (os : List Operand) → IsOfType s.equations first u → AllByRecursion (IsTypedEquation s.equations) (literal_equations p first os)
  typed_literals p first u [] there = tt
  typed_literals p first u (Fixed r ∷ os) there = (typed_literal p r first u there, typed_literals p first u os there)
  typed_literals p first u (Varying ∷ os) there = typed_literals p first u os there

  pub typed_operands : (p : Place) (first m : ℕ) (os : List Operand) (parts up : List Stream) (ts : List ValueType) → AreOperands os parts ts → map (λ b. b.of) up ≡ map (λ a. a.of) parts → AllByRecursion HasType up → At (Stands s) m (literal_equations p first os) → AreOfTypes s.equations (operand_numbers m os (numbers up)) ts
  typed_operands p first m [] [] up [] h same all at = tt
  typed_operands p first m (Fixed r ∷ os) parts up (t ∷ ts) h same all at =
      (subst (λ u. IsOfType s.equations m u) (sym h.0) (type_at m _ (at_first at)), typed_operands p first (suc m) os parts up ts h.1 same all (at_rest at))
  typed_operands p first m (Varying ∷ os) (a ∷ parts) [] (t ∷ ts) h same all at = absurd (cc)
  typed_operands p first m (Varying ∷ os) (a ∷ parts) (b ∷ up) (t ∷ ts) h same all at =
      let is : b.of ≡ t = cc in
      let tail : map (λ c. c.of) up ≡ map (λ c. c.of) parts = cc in
      (subst (λ u. IsOfType s.equations b.id u) is all.0, typed_operands p first m os parts up ts h.1 tail all.1 at)
  typed_operands p first m os parts up ts h same all at = absurd h
