-- The equations of a construct have its marks, whatever their numbers and types are.
use Rattle.std.proofs.Common.{◌≡◌, ℕ, zero, suc, ◌+◌, ◌*◌, Bool, true, false, List, [], ◌∷◌, ◌++◌, map, length, refl, sym, ap, ◌∙◌, arith, length-append}
use Rattle.std.specs.Prelude.{is_some}
use Rattle.std.proofs.lemmas.List.{length-replicate, map-append}
use Rattle.tsl_value.specs.declared.place.Place.{Place}
use Rattle.tsl_value.specs.declared.scalar.ValueType.{ValueType}
use Rattle.flat_core.specs.declared.equation.Op.{Op}
use Rattle.flat_core.specs.declared.equation.Op.TheVariants as op
use Rattle.flat_core.specs.Typed.{unit_type}
use Rattle.lift_func.specs.BodyTree.{BodyTree}
use Rattle.stream_constructs.specs.declared.construct.Stream.{Stream}
use Rattle.tsl_value.specs.declared.operation.Update.{Update as UpdateOp}
use Rattle.stream_constructs.specs.Construct.{Construct, Operand, Fixed, Varying}
use Rattle.stream_constructs.specs.Construct as construct
use Rattle.stream_constructs.specs.Equations.{equation, strict_lift, held_each, lifting, lifted_streams, literal_equations, operand_numbers, first_number, numbers, with_literals, own_equations, choice_equations, alias_equation}
use Rattle.stream_constructs.specs.Agree.{Fits, FitsChoice}
use Rattle.flat_core.specs.Updates.{is_update, operation_of}
use Rattle.name_check.specs.inner.Shown.{nowhere}
use Rattle.spec_meaning.specs.Makes.{with_itself}
use Rattle.equation_marks.specs.Marks.{Mark, mark_of, any_streams, own_marks, choice_own_marks, alias_own_marks}
use Rattle.equation_marks.specs.inner.Counted.{lifting_count, own_count}
use Rattle.flat_core.proofs.UpdateOps.{updates_itself}

-- ---- marks by their number
-- so many equations of a place that are no updates
abbrev pub plain : ℕ → Place → List Mark
plain zero p = []
plain (suc n) p = record { place = p; is_update = false } ∷ plain n p

-- the operands that are literals
abbrev pub literal_count : List Operand → ℕ
literal_count [] = 0
literal_count (Fixed s ∷ os) = suc (literal_count os)
literal_count (Varying ∷ os) = literal_count os

-- an operation on these operands, of which so many are parts
abbrev pub operation_of_marks : Place → ℕ → List Operand → Bool → List Mark
operation_of_marks p k os update = plain (lifting_count k + literal_count os) p ++ record { place = p; is_update = update } ∷ []

pub same_count : {m n : ℕ} (p : Place) → m ≡ n → plain m p ≡ plain n p
same_count p h = ap (λ k. plain k p) h

pub plain-add : (m n : ℕ) (p : Place) → plain (m + n) p ≡ plain m p ++ plain n p
plain-add zero n p = same_count p (omega arith)
plain-add (suc m) n p =
    let first : suc m + n ≡ suc (m + n) = omega arith in
    same_count p first ∙ ap (λ ms. record { place = p; is_update = false } ∷ ms) (plain-add m n p)

-- ---- operands to lift
two_more : (m : ℕ) → suc (suc (2 * m)) ≡ 2 * suc m
two_more m = omega arith

one_more : (m : ℕ) → suc (2 * suc (suc (suc m))) ≡ 1 + 2 * (3 + m)
one_more m = omega arith

held_each_marks : (p : Place) (n trigger : ℕ) (parts : List Stream) → map mark_of (held_each p n trigger parts) ≡ plain (2 * length parts) p
held_each_marks p n trigger [] = refl
held_each_marks p n trigger (a ∷ rest) =
    ap (λ ms. record { place = p; is_update = false } ∷ record { place = p; is_update = false } ∷ ms) (held_each_marks p (n + 2) trigger rest)
    ∙ same_count p (two_more (length rest))

-- as many as of any streams
held_each_count : (p : Place) (n trigger : ℕ) (parts : List Stream) → length (held_each p n trigger parts) ≡ 2 * length parts
held_each_count p n trigger [] = refl
held_each_count p n trigger (a ∷ rest) = omega (arith, held_each_count p (n + 2) trigger rest)

many : (k : ℕ) → length (any_streams k) ≡ k
many k = length-replicate k (record { id = 0; of = unit_type })

pub lifting_more : (k : ℕ) → lifting_count (suc (suc (suc k))) ≡ 1 + 2 * (3 + k)
lifting_more k =
    let held : lifting_count (suc (suc (suc k))) ≡ suc (2 * length (any_streams (suc (suc (suc k))))) = ap suc (held_each_count nowhere 1 0 (any_streams (suc (suc (suc k))))) in
    omega (arith, held, many (suc (suc (suc k))))

lifting_marks : (p : Place) (n : ℕ) (parts : List Stream) → map mark_of (lifting p n parts) ≡ plain (lifting_count (length parts)) p
lifting_marks p n [] = refl
lifting_marks p n (a ∷ []) = refl
lifting_marks p n (a ∷ b ∷ []) = refl
lifting_marks p n (a ∷ b ∷ c ∷ rest) =
    ap (λ ms. record { place = p; is_update = false } ∷ ms) (held_each_marks p (n + 1) n (a ∷ b ∷ c ∷ rest))
    ∙ same_count p (one_more (length rest) ∙ sym (lifting_more (length rest)))

literals_marks : (p : Place) (first : ℕ) (os : List Operand) → map mark_of (literal_equations p first os) ≡ plain (literal_count os) p
literals_marks p first [] = refl
literals_marks p first (Fixed s ∷ os) = ap (λ ms. record { place = p; is_update = false } ∷ ms) (literals_marks p first os)
literals_marks p first (Varying ∷ os) = literals_marks p first os

signal_made_marks : (p : Place) (n : ℕ) (f : BodyTree) (of : ValueType) (args : List ℕ) (parts : List Stream) → map mark_of (lifting p n parts ++ strict_lift p f args of ∷ []) ≡ plain (lifting_count (length parts) + 1) p
signal_made_marks p n f of args parts =
    map-append mark_of (lifting p n parts) (strict_lift p f args of ∷ [])
    ∙ ap (λ ms. ms ++ record { place = p; is_update = false } ∷ []) (lifting_marks p n parts)
    ∙ sym (plain-add (lifting_count (length parts)) 1 p)

with_literals_marks : (p : Place) (o : Op) (of : ValueType) (n : ℕ) (os : List Operand) (parts : List Stream) → map mark_of (with_literals p o of n os parts) ≡ operation_of_marks p (length parts) os (is_update o)
with_literals_marks p o of n os parts =
    let lift = lifting p n parts in
    let literals = literal_equations p (first_number (lifted_streams n parts)) os in
    let last = equation p o (operand_numbers (n + length lift) os (numbers (lifted_streams n parts))) of ∷ [] in
    map-append mark_of (lift ++ literals) last
    ∙ ap (λ ms. ms ++ record { place = p; is_update = is_update o } ∷ [])
    (map-append mark_of lift literals
    ∙ (λ i. lifting_marks p n parts i ++ literals_marks p (first_number (lifted_streams n parts)) os i)
    ∙ sym (plain-add (lifting_count (length parts)) (literal_count os) p))

update_is_update : (o : UpdateOp) → is_update (operation_of o) ≡ true
update_is_update o = ap is_some (updates_itself o)

-- ---- where the parts are any streams
-- a signal lift of some
signal_plain : (p : Place) (f : BodyTree) (k : ℕ) → own_marks p (construct.Signal f) (suc k) ≡ plain (lifting_count (suc k) + 1) p
signal_plain p f k =
    signal_made_marks p 0 f unit_type (numbers (lifted_streams 0 (any_streams (suc k)))) (any_streams (suc k))
    ∙ ap (λ n. plain (lifting_count n + 1) p) (many (suc k))

-- whatever its function is
pub signal_any : (p : Place) (f g : BodyTree) (k : ℕ) → own_marks p (construct.Signal f) k ≡ own_marks p (construct.Signal g) k
signal_any p f g zero = refl
signal_any p f g (suc k) = signal_plain p f k ∙ sym (signal_plain p g k)

update_plain : (p : Place) (o : UpdateOp) (os : List Operand) (k : ℕ) → own_marks p (construct.Update o os) k ≡ operation_of_marks p k os true
update_plain p o os k =
    with_literals_marks p (operation_of o) unit_type 0 os (any_streams k) ∙ (λ i. operation_of_marks p (many k i) os (update_is_update o i))

choice_plain : (p : Place) (k : ℕ) (os : List Operand) → choice_own_marks p k os ≡ operation_of_marks p k os false
choice_plain p k os = with_literals_marks p op.Pick unit_type 0 os (any_streams k) ∙ ap (λ n. operation_of_marks p n os false) (many k)

-- ---- the equations of a construct have its marks
made_marks : (p : Place) (of : ValueType) (n : ℕ) (c : Construct) (parts : List Stream) → Fits c parts of → map mark_of (own_equations p of n c parts) ≡ own_marks p c (length parts)
made_marks p of n construct.Nil [] fits = refl
made_marks p of n construct.Unit [] fits = refl
made_marks p of n (construct.Literal s) [] fits = refl
made_marks p of n (construct.Empty t) [] fits = refl
made_marks p of n construct.Time (a ∷ []) fits = refl
made_marks p of n construct.Last (v ∷ r ∷ []) fits = refl
made_marks p of n construct.Delay (d ∷ r ∷ x ∷ []) fits = refl
made_marks p of n construct.Merge (a ∷ b ∷ []) fits = refl
made_marks p of n (construct.Const s) (a ∷ []) fits = refl
made_marks p of n construct.Filter (e ∷ c ∷ []) fits = refl
made_marks p of n (construct.FilterBy b) (e ∷ []) fits = refl
made_marks p of n (construct.Lift f) parts fits = refl
made_marks p of n (construct.Signal f) [] fits = refl
made_marks p of n (construct.Signal f) (a ∷ parts) fits =
    signal_made_marks p n f of (numbers (lifted_streams n (a ∷ parts))) (a ∷ parts) ∙ sym (signal_plain p f (length parts))
made_marks p of n (construct.Update o os) parts fits =
    with_literals_marks p (operation_of o) of n os parts ∙ ap (operation_of_marks p (length parts) os) (update_is_update o)
    ∙ sym (update_plain p o os (length parts))
made_marks p of n c parts fits = absurd fits

-- how many parts a delay has does not matter
same_marks : (p : Place) (n : ℕ) (c : Construct) (parts : List Stream) → own_marks p c (length (with_itself c n parts)) ≡ own_marks p c (length parts)
same_marks p n construct.Delay parts = refl
same_marks p n c parts = refl

pub own_equations_marks : (p : Place) (of : ValueType) (n : ℕ) (c : Construct) (parts : List Stream) → Fits c (with_itself c n parts) of → map mark_of (own_equations p of n c (with_itself c n parts)) ≡ own_marks p c (length parts)
own_equations_marks p of n c parts fits = made_marks p of n c (with_itself c n parts) fits ∙ same_marks p n c parts

pub choice_equations_marks : (p : Place) (of : ValueType) (n : ℕ) (os : List Operand) (parts : List Stream) → FitsChoice os parts of → map mark_of (choice_equations p of n os parts) ≡ choice_own_marks p (length parts) os
choice_equations_marks p of n os parts fits = with_literals_marks p op.Pick of n os parts ∙ sym (choice_plain p (length parts) os)

-- a body that is only a name
pub alias_marks : (p : Place) (a : Stream) → map mark_of (alias_equation p a ∷ []) ≡ alias_own_marks p
alias_marks p a = refl

-- ---- as many wherever they stand
pub length-plain : (n : ℕ) (p : Place) → length (plain n p) ≡ n
length-plain zero p = refl
length-plain (suc n) p = ap suc (length-plain n p)

pub length-lift : (p : Place) (f : BodyTree) (k : ℕ) → length (own_marks p (construct.Signal f) (suc k)) ≡ lifting_count (suc k) + 1
length-lift p f k = ap length (signal_plain p f k) ∙ length-plain (lifting_count (suc k) + 1) p

length-operation : (p : Place) (k : ℕ) (os : List Operand) (update : Bool) → length (operation_of_marks p k os update) ≡ lifting_count k + literal_count os + 1
length-operation p k os update =
    let all = length-append (plain (lifting_count k + literal_count os) p) (record { place = p; is_update = update } ∷ []) in
    omega (arith, all, length-plain (lifting_count k + literal_count os) p)

pub length-update : (p : Place) (o : UpdateOp) (os : List Operand) (k : ℕ) → length (own_marks p (construct.Update o os) k) ≡ lifting_count k + literal_count os + 1
length-update p o os k = ap length (update_plain p o os k) ∙ length-operation p k os true

pub length-choice_own : (p : Place) (k : ℕ) (os : List Operand) → length (choice_own_marks p k os) ≡ lifting_count k + literal_count os + 1
length-choice_own p k os = ap length (choice_plain p k os) ∙ length-operation p k os false

pub own_many : (p : Place) (c : Construct) (k : ℕ) → length (own_marks p c k) ≡ own_count c k
own_many p (construct.Signal f) zero = refl
own_many p (construct.Signal f) (suc k) = length-lift p f k ∙ sym (length-lift nowhere f k)
own_many p (construct.Update o os) k = length-update p o os k ∙ sym (length-update nowhere o os k)
own_many p c k = refl
