-- How many equations a construct has follows from the types of its parts.
use Rattle.std.proofs.Common.{◌≡◌, ℕ, suc, ◌+◌, List, [], ◌∷◌, ◌++◌, map, length, refl, ap, sym, ◌∙◌, arith, length-append}
use Rattle.tsl_value.specs.declared.place.Place.{Place}
use Rattle.tsl_value.specs.declared.scalar.ValueType.{ValueType}
use Rattle.flat_core.specs.declared.equation.Op.{Op}
use Rattle.flat_core.specs.declared.equation.Op.TheVariants as op
use Rattle.flat_core.specs.declared.equation.Equation.{Equation}
use Rattle.flat_core.specs.Typed.{unit_type}
use Rattle.stream_constructs.specs.declared.construct.Stream.{Stream}
use Rattle.stream_constructs.specs.Construct.{Construct, Operand, Fixed, Varying}
use Rattle.stream_constructs.specs.Construct as construct
use Rattle.stream_constructs.specs.Equations.{equation, numbers, operand_numbers, held_each, lifting, lifted_streams, first_number, literal_equations, with_literals, own_equations, choice_equations}
use Rattle.flat_meaning.proofs.OneType.{types}
use Rattle.flat_core.specs.Updates.{operation_of}

-- streams of these types, without numbers
abbrev streams_of : List ValueType → List Stream
streams_of ts = map (λ t. record { id = 0; of = t }) ts

pub both_lengths : (xs ys us vs : List Equation) → length xs ≡ length ys → length us ≡ length vs → length (xs ++ us) ≡ length (ys ++ vs)
both_lengths xs ys us vs first second = length-append xs us ∙ (λ i. first i + second i) ∙ sym (length-append ys vs)

held_count : (p : Place) (n trigger : ℕ) (parts : List Stream) → length (held_each p n trigger parts) ≡ length parts + length parts
held_count p n trigger [] = refl
held_count p n trigger (a ∷ parts) = let rest = held_count p (n + 2) trigger parts in omega arith

streams_count : (parts : List Stream) → length (streams_of (types parts)) ≡ length parts
streams_count [] = refl
streams_count (a ∷ parts) = ap suc (streams_count parts)

lifting_length : (p : Place) (n : ℕ) (parts : List Stream) → length (lifting p n parts) ≡ length (lifting p 0 (streams_of (types parts)))
lifting_length p n [] = refl
lifting_length p n (a ∷ []) = refl
lifting_length p n (a ∷ b ∷ []) = refl
lifting_length p n (a ∷ b ∷ c ∷ rest) =
    let here = held_count p (n + 1) n (a ∷ b ∷ c ∷ rest) in
    let there = held_count p (0 + 1) 0 (streams_of (types (a ∷ b ∷ c ∷ rest))) in
    let same = streams_count rest in
    omega arith

literals_length : (p : Place) (first other : ℕ) (os : List Operand) → length (literal_equations p first os) ≡ length (literal_equations p other os)
literals_length p first other [] = refl
literals_length p first other (Fixed s ∷ os) = ap suc (literals_length p first other os)
literals_length p first other (Varying ∷ os) = literals_length p first other os

with_literals_length : (p : Place) (o : Op) (of at : ValueType) (n : ℕ) (os : List Operand) (parts : List Stream) → length (with_literals p o of n os parts) ≡ length (with_literals p o at 0 os (streams_of (types parts)))
with_literals_length p o of at n os parts =
    let blank : List Stream = streams_of (types parts) in
    let last : Equation = equation p o (operand_numbers (n + length (lifting p n parts)) os (numbers (lifted_streams n parts))) of in
    let other : Equation = equation p o (operand_numbers (0 + length (lifting p 0 blank)) os (numbers (lifted_streams 0 blank))) at in
    let lift : List Equation = lifting p n parts in
    let lift_blank : List Equation = lifting p 0 blank in
    let fixed : List Equation = literal_equations p (first_number (lifted_streams n parts)) os in
    let fixed_blank : List Equation = literal_equations p (first_number (lifted_streams 0 blank)) os in
    let front = both_lengths lift lift_blank fixed fixed_blank (lifting_length p n parts) (literals_length p (first_number (lifted_streams n parts)) (first_number (lifted_streams 0 blank)) os) in
    both_lengths (lift ++ fixed) (lift_blank ++ fixed_blank) (last ∷ []) (other ∷ []) front refl

own_length_from : (p : Place) (of : ValueType) (n : ℕ) (c : Construct) (parts : List Stream) → length (own_equations p of n c parts) ≡ length (own_equations p unit_type 0 c (streams_of (types parts)))
own_length_from p of n construct.Nil [] = refl
own_length_from p of n construct.Unit [] = refl
own_length_from p of n (construct.Literal s) [] = refl
own_length_from p of n (construct.Empty t) [] = refl
own_length_from p of n construct.Time (a ∷ []) = refl
own_length_from p of n construct.Last (v ∷ r ∷ []) = refl
own_length_from p of n construct.Delay (d ∷ r ∷ x ∷ []) = refl
own_length_from p of n construct.Merge (a ∷ b ∷ []) = refl
own_length_from p of n (construct.Const s) (a ∷ []) = refl
own_length_from p of n construct.Filter (e ∷ c ∷ []) = refl
own_length_from p of n (construct.FilterBy b) (e ∷ []) = refl
own_length_from p of n (construct.Lift f) parts = refl
own_length_from p of n (construct.Signal f) [] = refl
own_length_from p of n (construct.Signal f) (a ∷ parts) = both_lengths (lifting p n (a ∷ parts)) (lifting p 0 (streams_of (types (a ∷ parts)))) (_ ∷ []) (_ ∷ []) (lifting_length p n (a ∷ parts)) refl
own_length_from p of n (construct.Update o os) parts = with_literals_length p (operation_of o) of unit_type n os parts
own_length_from p of n c parts = refl

-- for other numbers and types
pub own_length : (p : Place) (of at : ValueType) (n m : ℕ) (c : Construct) (parts others : List Stream) → types parts ≡ types others → length (own_equations p of n c parts) ≡ length (own_equations p at m c others)
own_length p of at n m c parts others same = own_length_from p of n c parts ∙ ap (λ ts. length (own_equations p unit_type 0 c (streams_of ts))) same ∙ sym (own_length_from p at m c others)

pub choice_length : (p : Place) (of at : ValueType) (n m : ℕ) (os : List Operand) (parts others : List Stream) → types parts ≡ types others → length (choice_equations p of n os parts) ≡ length (choice_equations p at m os others)
choice_length p of at n m os parts others same = with_literals_length p op.Pick of unit_type n os parts ∙ ap (λ ts. length (with_literals p op.Pick unit_type 0 os (streams_of ts))) same ∙ sym (with_literals_length p op.Pick at unit_type m os others)
