-- What a construct asks of its parts, by their list.
use Rattle.std.proofs.Common.{◌≡◌, ℕ, Bool, List, [], ◌∷◌, get_or, sym, ap, ◌∙◌, subst}
use Rattle.tsl_value.specs.declared.scalar.ValueType.{ValueType}
use Rattle.stream_constructs.specs.declared.construct.Stream.{Stream}
use Rattle.stream_constructs.specs.Construct as construct
use Rattle.stream_constructs.specs.Agree.{Fits}
use Rattle.spec_meaning.specs.Makes.{with_itself}
use Rattle.stream_shapes.specs.declared.construct.Construct.{Construct}
use Rattle.stream_shapes.specs.inner.Shape.{construct_of}

-- the same of a construct that is known
pub fits_as : (found known : Construct) (n : ℕ) (parts : List Stream) (of : ValueType) → found ≡ known → Fits (construct_of found) (with_itself (construct_of found) n parts) of → Fits (construct_of known) (with_itself (construct_of known) n parts) of
fits_as found known n parts of is h =
    let P : Construct → Type 0 = λ c. Fits (construct_of c) (with_itself (construct_of c) n parts) of in
    subst P is h

-- constructs of the type of their first part
pub last_type : (parts : List Stream) (of : ValueType) (v : Stream) → Fits construct.Last parts of → v ≡ get_or parts 0 v → v.of ≡ of
last_type [] of v h is = absurd h
last_type (a ∷ []) of v h is = absurd h
last_type (a ∷ b ∷ []) of v h is = ap (λ s. s.of) is ∙ sym h
last_type (a ∷ b ∷ c ∷ rest) of v h is = absurd h

pub merge_type : (parts : List Stream) (of : ValueType) (v : Stream) → Fits construct.Merge parts of → v ≡ get_or parts 0 v → v.of ≡ of
merge_type [] of v h is = absurd h
merge_type (a ∷ []) of v h is = absurd h
merge_type (a ∷ b ∷ []) of v h is = ap (λ s. s.of) is ∙ sym h.0
merge_type (a ∷ b ∷ c ∷ rest) of v h is = absurd h

pub filter_type : (parts : List Stream) (of : ValueType) (v : Stream) → Fits construct.Filter parts of → v ≡ get_or parts 0 v → v.of ≡ of
filter_type [] of v h is = absurd h
filter_type (a ∷ []) of v h is = absurd h
filter_type (a ∷ b ∷ []) of v h is = ap (λ s. s.of) is ∙ sym h.0
filter_type (a ∷ b ∷ c ∷ rest) of v h is = absurd h

pub filter_by_type : (parts : List Stream) (holds : Bool) (of : ValueType) (v : Stream) → Fits (construct.FilterBy holds) parts of → v ≡ get_or parts 0 v → v.of ≡ of
filter_by_type [] holds of v h is = absurd h
filter_by_type (a ∷ []) holds of v h is = ap (λ s. s.of) is ∙ sym h
filter_by_type (a ∷ b ∷ rest) holds of v h is = absurd h

pub empty_type : (parts : List Stream) (of t : ValueType) → Fits (construct.Empty t) parts of → t ≡ of
empty_type [] of t h = sym h.0
empty_type (a ∷ parts) of t h = absurd h
