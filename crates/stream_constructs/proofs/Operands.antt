-- The operands that updates and choices have: an aggregate is no literal.
use Rattle.std.proofs.Common.{◌≡◌, true, List, [], ◌∷◌, sym, ap, ◌∙◌}
use Rattle.std.proofs.lemmas.Bool.{false≢true}
use Rattle.tsl_value.specs.declared.scalar.Scalar.{Scalar}
use Rattle.tsl_value.specs.declared.scalar.ValueType.{ValueType}
use Rattle.tsl_value.specs.declared.scalar.ValueType.TheVariants as value_type
use Rattle.tsl_value.specs.View.{type_of}
use Rattle.tsl_value.specs.Aggregate.{is_aggregate}
use Rattle.stream_constructs.specs.declared.construct.Stream.{Stream}
use Rattle.stream_constructs.specs.Construct.{Operand, Fixed, Varying}
use Rattle.stream_constructs.specs.Agree.{AreOperands}

pub data None : List Operand → List Stream → Type 0 where
  none : None [] []

-- one that varies before others
pub data Behind (Rest : List Operand → List Stream → Type 0) : List Operand → List Stream → Type 0 where
  after : {a : Stream} {os : List Operand} {parts : List Stream} → Rest os parts → Behind Rest (Varying ∷ os) (a ∷ parts)

pub data Chooses : List Operand → List Stream → Type 0 where
  by_literal : {s : Scalar} {a b : Stream} → Chooses (Fixed s ∷ Varying ∷ Varying ∷ []) (a ∷ b ∷ [])
  by_stream : {c a b : Stream} → Chooses (Varying ∷ Varying ∷ Varying ∷ []) (c ∷ a ∷ b ∷ [])

pub none_of : (os : List Operand) (parts : List Stream) → AreOperands os parts [] → None os parts
none_of [] [] h = none
none_of [] (a ∷ parts) h = absurd h
none_of (Fixed s ∷ os) parts h = absurd h
none_of (Varying ∷ os) [] h = absurd h
none_of (Varying ∷ os) (a ∷ parts) h = absurd h

no_literal : {P : Type 0} (t : ValueType) (s : Scalar) → is_aggregate t ≡ true → t ≡ value_type.Scalar (type_of s) → P
no_literal t s aggregate is = absurd (false≢true (ap is_aggregate (sym is) ∙ aggregate))

pub after_aggregate : {Rest : List Operand → List Stream → Type 0} (os : List Operand) (parts : List Stream) (t : ValueType) (ts : List ValueType) → is_aggregate t ≡ true → ((os : List Operand) (parts : List Stream) → AreOperands os parts ts → Rest os parts) → AreOperands os parts (t ∷ ts) → Behind Rest os parts
after_aggregate [] [] t ts aggregate rest h = absurd h
after_aggregate [] (a ∷ parts) t ts aggregate rest h = absurd h
after_aggregate (Fixed s ∷ os) parts t ts aggregate rest h = no_literal t s aggregate h.0
after_aggregate (Varying ∷ os) [] t ts aggregate rest h = absurd h
after_aggregate (Varying ∷ os) (a ∷ parts) t ts aggregate rest h = after (rest os parts h.1)

pub chooses_of : (os : List Operand) (parts : List Stream) (c t : ValueType) → is_aggregate t ≡ true → AreOperands os parts (c ∷ t ∷ t ∷ []) → Chooses os parts
chooses_of [] [] c t aggregate h = absurd h
chooses_of [] (a ∷ parts) c t aggregate h = absurd h
chooses_of (Fixed s ∷ os) parts c t aggregate h = at (after_aggregate os parts t (t ∷ []) aggregate (λ os parts h. after_aggregate os parts t [] aggregate none_of h) h.1)
  where
    at : {os : List Operand} {parts : List Stream} → Behind (Behind None) os parts → Chooses (Fixed s ∷ os) parts
    at (after (after none)) = by_literal
chooses_of (Varying ∷ os) [] c t aggregate h = absurd h
chooses_of (Varying ∷ os) (a ∷ parts) c t aggregate h = at (after_aggregate os parts t (t ∷ []) aggregate (λ os parts h. after_aggregate os parts t [] aggregate none_of h) h.1)
  where
    at : {os : List Operand} {parts : List Stream} → Behind (Behind None) os parts → Chooses (Varying ∷ os) (a ∷ parts)
    at (after (after none)) = by_stream
