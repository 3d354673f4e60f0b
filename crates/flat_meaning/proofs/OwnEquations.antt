-- The equations of constructs: their places, that they have no names, and which of them are delays.
use Rattle.std.proofs.Common.{◌≡◌, ℕ, ◌+◌, ◌<◌, true, false, List, [], ◌∷◌, ◌++◌, length, None, refl, sym, subst, ◌∙◌, arith, length-append}
use Rattle.std.specs.List.{AllByRecursion}
use Rattle.tsl_value.specs.declared.place.Place.{Place}
use Rattle.tsl_value.specs.declared.scalar.ValueType.{ValueType}
use Rattle.flat_core.specs.declared.equation.Op.{Op}
use Rattle.flat_core.specs.declared.equation.Op.TheVariants as op
use Rattle.flat_core.specs.declared.equation.Equation.{Equation}
use Rattle.flat_core.specs.Instant.{is_delay_op}
use Rattle.flat_core.proofs.Members.{all_append}
use Rattle.stream_constructs.specs.declared.construct.Stream.{Stream}
use Rattle.tsl_value.specs.declared.operation.Update.{Update as UpdateOp}
use Rattle.tsl_value.specs.declared.operation.Update.TheVariants as update
use Rattle.stream_constructs.specs.Construct.{Construct, Operand, Fixed, Varying}
use Rattle.stream_constructs.specs.Construct as construct
use Rattle.stream_constructs.specs.Equations.{equation, strict_lift, held, held_each, lifting, lifted_streams, literal_equations, operand_numbers, first_number, numbers, with_literals, own_equations, choice_equations}
use Rattle.stream_constructs.specs.Agree.{Fits}
use Rattle.flat_core.specs.Updates.{operation_of}

-- an equation of a construct at a place
pub record IsOwn (c : Construct) (p : Place) (e : Equation) : Type 0 where
  pub place_is : e.place ≡ p
  pub nameless : e.name ≡ None
  pub delays : is_delay_op e.op ≡ true → c ≡ construct.Delay

module _ (c : Construct) (p : Place) where
  plain_one : (o : Op) (args : List ℕ) (of : ValueType) → is_delay_op o ≡ false → IsOwn c p (equation p o args of)
  plain_one o args of other = record { place_is = refl; nameless = refl; delays = λ delays. absurd (both (sym other ∙ delays)) }
    where
      both : false ≡ true → ⊥
      both h = cc

  held_made : (n trigger : ℕ) (a : Stream) → AllByRecursion (IsOwn c p) (held p n trigger a)
  held_made n trigger a = (plain_one op.Last (a.id ∷ trigger ∷ []) a.of refl, (plain_one op.Merge (a.id ∷ n ∷ []) a.of refl, tt))

  each_held_made : (n trigger : ℕ) (parts : List Stream) → AllByRecursion (IsOwn c p) (held_each p n trigger parts)
  each_held_made n trigger [] = tt
  each_held_made n trigger (a ∷ rest) = all_append (IsOwn c p) (held p n trigger a) (held_each p (n + 2) trigger rest) (held_made n trigger a) (each_held_made (n + 2) trigger rest)

  lifting_made : (n : ℕ) (parts : List Stream) → AllByRecursion (IsOwn c p) (lifting p n parts)
  lifting_made n [] = tt
  lifting_made n (a ∷ []) = tt
  lifting_made n (a ∷ b ∷ []) = all_append (IsOwn c p) (held p n b.id a) (held p (n + 2) a.id b) (held_made n b.id a) (held_made (n + 2) a.id b)
  lifting_made n (a ∷ b ∷ d ∷ rest) = (plain_one op.Any _ _ refl, each_held_made (n + 1) n (a ∷ b ∷ d ∷ rest))

  literals_made : (first : ℕ) (os : List Operand) → AllByRecursion (IsOwn c p) (literal_equations p first os)
  literals_made first [] = tt
  literals_made first (Fixed s ∷ os) = (plain_one _ _ _ refl, literals_made first os)
  literals_made first (Varying ∷ os) = literals_made first os

  with_literals_made : (o : Op) → is_delay_op o ≡ false → (of : ValueType) (n : ℕ) (os : List Operand) (parts : List Stream) → AllByRecursion (IsOwn c p) (with_literals p o of n os parts)
  with_literals_made o other of n os parts =
      all_append (IsOwn c p) (lifting p n parts ++ literal_equations p (first_number (lifted_streams n parts)) os) (equation p o (operand_numbers (n + length (lifting p n parts)) os (numbers (lifted_streams n parts))) of ∷ [])
      (all_append (IsOwn c p) (lifting p n parts) (literal_equations p (first_number (lifted_streams n parts)) os) (lifting_made n parts) (literals_made (first_number (lifted_streams n parts)) os))
      (plain_one o _ of other, tt)

update_no_delay : (o : UpdateOp) → is_delay_op (operation_of o) ≡ false
update_no_delay update.SetAdd = refl
update_no_delay o = refl

pub own_made : (p : Place) (of : ValueType) (n : ℕ) (c : Construct) (parts : List Stream) → AllByRecursion (IsOwn c p) (own_equations p of n c parts)
own_made p of n construct.Nil [] = (plain_one construct.Nil p _ _ _ refl, tt)
own_made p of n construct.Unit [] = (plain_one construct.Unit p _ _ _ refl, tt)
own_made p of n (construct.Literal s) [] = (plain_one (construct.Literal s) p _ _ _ refl, (plain_one (construct.Literal s) p _ _ _ refl, tt))
own_made p of n (construct.Empty t) [] = (plain_one (construct.Empty t) p _ _ _ refl, tt)
own_made p of n construct.Time (a ∷ []) = (plain_one construct.Time p _ _ _ refl, tt)
own_made p of n construct.Last (v ∷ r ∷ []) = (plain_one construct.Last p _ _ _ refl, tt)
own_made p of n construct.Delay (d ∷ r ∷ x ∷ []) = (record { place_is = refl; nameless = refl; delays = λ _. refl }, tt)
own_made p of n construct.Merge (a ∷ b ∷ []) = (plain_one construct.Merge p _ _ _ refl, tt)
own_made p of n (construct.Const s) (a ∷ []) = (plain_one (construct.Const s) p _ _ _ refl, tt)
own_made p of n construct.Filter (e ∷ c ∷ []) = all_append (IsOwn construct.Filter p) (held p n e.id c) (equation p op.Filter (e.id ∷ (n + 1) ∷ []) e.of ∷ []) (held_made construct.Filter p n e.id c) (plain_one construct.Filter p _ _ _ refl, tt)
own_made p of n (construct.FilterBy b) (e ∷ []) = (plain_one (construct.FilterBy b) p _ _ _ refl, (plain_one (construct.FilterBy b) p _ _ _ refl, tt))
own_made p of n (construct.Lift f) parts = (plain_one (construct.Lift f) p _ _ _ refl, tt)
own_made p of n (construct.Signal f) [] = (plain_one (construct.Signal f) p _ _ _ refl, (plain_one (construct.Signal f) p _ _ _ refl, tt))
own_made p of n (construct.Signal f) (a ∷ parts) =
    all_append (IsOwn (construct.Signal f) p) (lifting p n (a ∷ parts)) (strict_lift p f (numbers (lifted_streams n (a ∷ parts))) of ∷ []) (lifting_made (construct.Signal f) p n (a ∷ parts)) (plain_one (construct.Signal f) p _ _ _ refl, tt)
own_made p of n (construct.Update o os) parts = with_literals_made (construct.Update o os) p (operation_of o) (update_no_delay o) of n os parts
own_made p of n c parts = tt

pub choice_made : (c : Construct) (p : Place) (of : ValueType) (n : ℕ) (os : List Operand) (parts : List Stream) → AllByRecursion (IsOwn c p) (choice_equations p of n os parts)
choice_made c p of n os parts = with_literals_made c p op.Pick refl of n os parts

some_last : (xs : List Equation) (x : Equation) → 0 < length (xs ++ x ∷ [])
some_last xs x = omega (arith, length-append xs (x ∷ []))

pub choice_some : (p : Place) (of : ValueType) (n : ℕ) (os : List Operand) (parts : List Stream) → 0 < length (choice_equations p of n os parts)
choice_some p of n os parts = some_last (lifting p n parts ++ literal_equations p (first_number (lifted_streams n parts)) os) _

pub own_some : (p : Place) (of : ValueType) (n : ℕ) (c : Construct) (parts : List Stream) → Fits c parts of → 0 < length (own_equations p of n c parts)
own_some p of n construct.Nil [] fits = omega arith
own_some p of n construct.Unit [] fits = omega arith
own_some p of n (construct.Literal s) [] fits = omega arith
own_some p of n (construct.Empty t) [] fits = omega arith
own_some p of n construct.Time (a ∷ []) fits = omega arith
own_some p of n construct.Last (v ∷ r ∷ []) fits = omega arith
own_some p of n construct.Delay (d ∷ r ∷ x ∷ []) fits = omega arith
own_some p of n construct.Merge (a ∷ b ∷ []) fits = omega arith
own_some p of n (construct.Const s) (a ∷ []) fits = omega arith
own_some p of n construct.Filter (e ∷ c ∷ []) fits = omega arith
own_some p of n (construct.FilterBy b) (e ∷ []) fits = omega arith
own_some p of n (construct.Lift f) parts fits = omega arith
own_some p of n (construct.Signal f) [] fits = omega arith
own_some p of n (construct.Signal f) (a ∷ parts) fits = some_last (lifting p n (a ∷ parts)) _
own_some p of n (construct.Update o os) parts fits = some_last (lifting p n parts ++ literal_equations p (first_number (lifted_streams n parts)) os) _
own_some p of n c parts fits = absurd fits

-- a delay is one equation
pub record IsOneDelay (own : List Equation) : Type 0 where
  pub equation : Equation
  pub alone : own ≡ equation ∷ []
  pub is_delay : is_delay_op equation.op ≡ true

pub delay_own : (p : Place) (of : ValueType) (n : ℕ) (c : Construct) (parts : List Stream) → Fits c parts of → c ≡ construct.Delay → IsOneDelay (own_equations p of n c parts)
delay_own p of n c parts fits is = subst (λ d. Fits d parts of → IsOneDelay (own_equations p of n d parts)) (sym is) (one parts) fits
  where
    one : (parts : List Stream) → Fits construct.Delay parts of → IsOneDelay (own_equations p of n construct.Delay parts)
    one (d ∷ r ∷ x ∷ []) fits = record { equation = _; alone = refl; is_delay = refl }
    one [] fits = absurd fits
    one (d ∷ []) fits = absurd fits
    one (d ∷ r ∷ []) fits = absurd fits
    one (d ∷ r ∷ x ∷ y ∷ parts) fits = absurd fits
