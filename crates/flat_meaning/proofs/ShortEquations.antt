-- The equations of constructs with short texts have short texts.
use Rattle.std.proofs.Common.{ℕ, ◌+◌, List, [], ◌∷◌, ◌++◌}
use Rattle.std.specs.List.{AllByRecursion}
use Rattle.tsl_value.specs.declared.place.Place.{Place}
use Rattle.tsl_value.specs.declared.scalar.ValueType.{ValueType}
use Rattle.flat_core.specs.declared.equation.Op.{Op}
use Rattle.flat_core.specs.declared.equation.Op.TheVariants as op
use Rattle.flat_core.specs.declared.equation.Equation.{Equation}
use Rattle.flat_core.specs.Complete.{HasShortBody}
use Rattle.flat_core.proofs.Members.{all_append}
use Rattle.stream_constructs.specs.declared.construct.Stream.{Stream}
use Rattle.tsl_value.specs.declared.operation.Update.{Update as UpdateOp}
use Rattle.tsl_value.specs.declared.operation.Update.TheVariants as update
use Rattle.stream_constructs.specs.Construct.{Construct, Operand, Fixed, Varying}
use Rattle.stream_constructs.specs.Construct as construct
use Rattle.stream_constructs.specs.Equations.{held_each, lifting, lifted_streams, literal_equations, first_number, with_literals, own_equations, choice_equations}
use Rattle.flat_meaning.proofs.ShortShapes.{ShortConstruct, ShortOperands}
use Rattle.flat_core.specs.Updates.{operation_of}

abbrev pub ShortEquations : List Equation → Type 0
ShortEquations own = AllByRecursion (λ e. HasShortBody e.op) own

join : (xs ys : List Equation) → ShortEquations xs → ShortEquations ys → ShortEquations (xs ++ ys)
join xs ys first second = all_append (λ e. HasShortBody e.op) xs ys first second

each_held : (p : Place) (n trigger : ℕ) (parts : List Stream) → ShortEquations (held_each p n trigger parts)
each_held p n trigger [] = tt
each_held p n trigger (a ∷ rest) = (tt, (tt, each_held p (n + 2) trigger rest))

lifting_short : (p : Place) (n : ℕ) (parts : List Stream) → ShortEquations (lifting p n parts)
lifting_short p n [] = tt
lifting_short p n (a ∷ []) = tt
lifting_short p n (a ∷ b ∷ []) = (tt, (tt, (tt, (tt, tt))))
lifting_short p n (a ∷ b ∷ c ∷ rest) = (tt, each_held p (n + 1) n (a ∷ b ∷ c ∷ rest))

literals_short : (p : Place) (first : ℕ) (os : List Operand) → ShortOperands os → ShortEquations (literal_equations p first os)
literals_short p first [] all = tt
literals_short p first (Fixed s ∷ os) all = (all.0, literals_short p first os all.1)
literals_short p first (Varying ∷ os) all = literals_short p first os all.1

with_literals_short : (p : Place) (o : Op) (of : ValueType) (n : ℕ) (os : List Operand) (parts : List Stream) → HasShortBody o → ShortOperands os → ShortEquations (with_literals p o of n os parts)
with_literals_short p o of n os parts here all =
    join (lifting p n parts ++ literal_equations p (first_number (lifted_streams n parts)) os) _
    (join (lifting p n parts) (literal_equations p (first_number (lifted_streams n parts)) os) (lifting_short p n parts) (literals_short p (first_number (lifted_streams n parts)) os all)) (here, tt)

update_short : (o : UpdateOp) → HasShortBody (operation_of o)
update_short update.SetAdd = tt
update_short o = tt

pub own_short : (p : Place) (of : ValueType) (n : ℕ) (c : Construct) (parts : List Stream) → ShortConstruct c → ShortEquations (own_equations p of n c parts)
own_short p of n construct.Nil [] h = (tt, tt)
own_short p of n construct.Unit [] h = (tt, tt)
own_short p of n (construct.Literal s) [] h = (tt, (h, tt))
own_short p of n (construct.Empty t) [] h = (tt, tt)
own_short p of n construct.Time (a ∷ []) h = (tt, tt)
own_short p of n construct.Last (v ∷ r ∷ []) h = (tt, tt)
own_short p of n construct.Delay (d ∷ r ∷ x ∷ []) h = (tt, tt)
own_short p of n construct.Merge (a ∷ b ∷ []) h = (tt, tt)
own_short p of n (construct.Const s) (a ∷ []) h = (h, tt)
own_short p of n construct.Filter (e ∷ c ∷ []) h = (tt, (tt, (tt, tt)))
own_short p of n (construct.FilterBy b) (e ∷ []) h = (tt, (tt, tt))
own_short p of n (construct.Lift f) parts h = (h, tt)
own_short p of n (construct.Signal f) [] h = (tt, (h, tt))
own_short p of n (construct.Signal f) (a ∷ parts) h = join (lifting p n (a ∷ parts)) _ (lifting_short p n (a ∷ parts)) (h, tt)
own_short p of n (construct.Update o os) parts h = with_literals_short p (operation_of o) of n os parts (update_short o) h
own_short p of n c parts h = tt

pub choice_short : (p : Place) (of : ValueType) (n : ℕ) (os : List Operand) (parts : List Stream) → ShortOperands os → ShortEquations (choice_equations p of n os parts)
choice_short p of n os parts all = with_literals_short p op.Pick of n os parts tt all
