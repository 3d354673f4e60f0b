-- Equations that are made one after the other.
use Rattle.std.proofs.Common.{◌≡◌, ◌==◌, ℕ, suc, ◌+◌, ◌≤◌, false, List, [], ◌∷◌, ◌++◌, length, Result, Ok, Err, refl, sym, ap, subst, ◌∙◌, arith}
use Rattle.std.specs.Prelude.{IfErr}
use Rattle.std.proofs.lemmas.Bool.{true≢false}
use Rattle.std.proofs.lemmas.List.{append_assoc}
use Rattle.tsl_value.specs.declared.place.Place.{Place}
use Rattle.tsl_value.specs.declared.scalar.ValueType.{ValueType}
use Rattle.lift_func.specs.BodyTree.{BodyTree}
use Rattle.flat_core.specs.declared.equation.Op.TheVariants as op
use Rattle.flat_core.specs.declared.equation.Equation.{Equation}
use Rattle.flat_core.specs.System.{System}
use Rattle.flat_core.specs.Typed.{unit_type}
use Rattle.stream_constructs.specs.declared.construct.Stream.{Stream}
use Rattle.stream_constructs.specs.declared.construct.Operand.{Operand}
use Rattle.stream_constructs.specs.declared.construct.Operand.TheVariants as given
use Rattle.stream_constructs.specs.declared.maker.MakeFault.{MakeFault}
use Rattle.stream_constructs.specs.Construct as construct
use Rattle.stream_constructs.specs.Equations.{numbers, equation, strict_lift, held_each, lifting, lifted_streams, own_equations}
use Rattle.stream_constructs.specs.Limits.{IsRefusal}
use Rattle.stream_constructs.specs.Made.{with_equations, operands_of, varying_of, varying_count}
use Rattle.stream_constructs.proofs.Refusals.{IsRefusal_longer}

-- what is refused early is refused in the whole
pub refused_early : {T : Type 0} (r : Result T MakeFault) (y e : MakeFault) (start before own whole : List Equation) → r ≡ Err y → y ≡ e → before ++ own ≡ whole → IsRefusal (start ++ before) e → IfErr r (IsRefusal (start ++ whole))
refused_early (Ok x) y e start before own whole is same rest h = tt
refused_early (Err f) y e start before own whole is same rest h =
    let found : f ≡ e = cc in
    let more = IsRefusal_longer (start ++ before) own e h in
    let all : IsRefusal (start ++ whole) e = subst (λ es. IsRefusal es e) (append_assoc start before own ∙ ap (λ es. start ++ es) rest) more in
    subst (IsRefusal (start ++ whole)) (sym found) all

-- what is refused after others that were made is refused in the whole
pub refused_after : {T : Type 0} (r : Result T MakeFault) (y e : MakeFault) (s m : System) (before middle own whole : List Equation) → r ≡ Err y → y ≡ e → m ≡ with_equations s before → before ++ middle ++ own ≡ whole → IsRefusal (m.equations ++ middle) e → IfErr r (IsRefusal (s.equations ++ whole))
refused_after r y e s m before middle own whole is same made split h =
    let P : List Equation → Type 0 = λ es. IsRefusal es e in
    refused_early r y e s.equations (before ++ middle) own whole is same split (subst P (ap (λ (n : System). n.equations ++ middle) made ∙ append_assoc s.equations before middle) h)

-- the same after a part of a whole
pub refused_later : {T : Type 0} (r : Result T MakeFault) (y e : MakeFault) (m s : System) (before own rest whole : List Equation) → r ≡ Err y → y ≡ e → before ++ own ≡ rest → with_equations m rest ≡ with_equations s whole → IsRefusal (m.equations ++ before) e → IfErr r (IsRefusal (s.equations ++ whole))
refused_later r y e m s before own rest whole is same split all h =
    let P : List Equation → Type 0 = λ es. IfErr r (IsRefusal es) in
    subst P (ap (λ (n : System). n.equations) all) (refused_early r y e m.equations before own rest is same split h)

-- ---- lists by their lengths
pub lifting_many : (p : Place) (n : ℕ) (parts : List Stream) → 3 ≤ length parts → equation p op.Any (numbers parts) unit_type ∷ held_each p (n + 1) n parts ≡ lifting p n parts
lifting_many p n [] many = absurd (omega arith)
lifting_many p n (a ∷ []) many = absurd (omega arith)
lifting_many p n (a ∷ b ∷ []) many = absurd (omega arith)
lifting_many p n (a ∷ b ∷ c ∷ rest) many = refl

pub signal_on_some : (p : Place) (of : ValueType) (n : ℕ) (f : BodyTree) (parts : List Stream) → (length parts == 0) ≡ false → lifting p n parts ++ strict_lift p f (numbers (lifted_streams n parts)) of ∷ [] ≡ own_equations p of n (construct.Signal f) parts
signal_on_some p of n f [] some = absurd (true≢false some)
signal_on_some p of n f (a ∷ rest) some = refl

-- as many streams vary as operands do
pub varying_length : (os : List Operand) → varying_count (operands_of os) ≡ length (varying_of os)
varying_length [] = refl
varying_length (given.Fixed s ∷ os) = varying_length os
varying_length (given.Varying a ∷ os) = ap suc (varying_length os)
