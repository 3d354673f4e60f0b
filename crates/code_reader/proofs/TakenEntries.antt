-- What is read as an equation or as an output is spelled so.
use Rattle.std.proofs.Common.{◌≡◌, ℕ, zero, suc, ◌^◌, ◌<◌, Bool, true, false, cond, eqb, List, [], ◌∷◌, ◌++◌, Option, Some, refl, sym, ap, subst, ◌∙◌, inl, inr}
use Rattle.std.specs.Prelude.{IsTrue}
use Rattle.std.proofs.lemmas.Bool.{cases_Bool, eqb-true, false≢true}
use Rattle.tsl_value.specs.declared.place.Place.{Place}
use Rattle.tsl_value.specs.declared.scalar.ValueType.{ValueType}
use Rattle.lift_func.specs.declared.limits.TheConstants.{MOST_NODES}
use Rattle.flat_core.specs.declared.equation.Equation.{Equation}
use Rattle.flat_core.specs.declared.equation.Op.{Op}
use Rattle.flat_core.specs.declared.equation.Op.TheVariants as op
use Rattle.flat_core.specs.declared.equation.Output.{Output}
use Rattle.trace_reader.specs.Reading.{is_input}
use Rattle.code_file.specs.Form.{IsName, IsOpForm, bare_equation, is_spelled, nothing}
use Rattle.code_file.specs.Spelling.{body_bytes, entry_bytes, fields, flag, lift_bytes, list_bytes, name_bytes, number, op_place, optional_name, output_bytes, place_bytes, type_bytes}
use Rattle.code_file.specs.inner.Reading.{◌>>=◌, body_at, entry_read, fields_after, fields_at, flag_at, if_input, lift_at, list_at, name_at, number_at, op_at, optional_name_at, output_at, place_at, plain_op_of, plain_ops, type_at}
use Rattle.code_file.proofs.Entries.{IsWhole}
use Rattle.code_reader.proofs.Taken.{AreTaken, IsBytes, IsBytes-rest, Takes, Takes-then, after_byte, at_place_is, bind_some, if_false, if_true, list_taken, name_taken, number_taken, optional_name_taken, passed_test, some_is, type_taken}
use Rattle.code_reader.proofs.TakenBodies.{body_taken, flag_taken}

-- ---- operations

-- the operation of a byte, and the bytes of its body
abbrev IsOp : ℕ → List ℕ → Op × List ℕ → Type 0
IsOp b bytes p = Takes bytes (lift_bytes p.0) p.1 × (b ≡ op_place p.0) × IsOpForm p.0

no_lift : (b : ℕ) (o : Op) (bytes : List ℕ) → IsBytes bytes → eqb b 3 ≡ false → b ≡ op_place o → IsOp b bytes (o, bytes)
no_lift b (op.Lift body strict) bytes fits not is = absurd (false≢true (sym not ∙ ap (λ n. eqb n 3) is))
no_lift b _ bytes fits not is = (record { parts = refl; rest_fits = fits }, is, tt)

plain_is : (b : ℕ) (o : Op) → plain_op_of b ≡ Some o → b ≡ op_place o
unfolding plain_op_of
plain_is b o e = at_place_is op_place plain_ops b o e

lift_taken : (b : ℕ) (bytes : List ℕ) (o : Op) (rest : List ℕ) → IsBytes bytes → b ≡ 3
    → lift_at bytes ≡ Some (o, rest) → IsOp b bytes (o, rest)
lift_taken b bytes o rest fits is e =
    let s = bind_some (flag_at bytes) (λ strict. body_at MOST_NODES strict.1 >>= λ body. Some (op.Lift body.0 strict.0, body.1)) (o, rest) e in
    let t = bind_some (body_at MOST_NODES s.0.1) (λ body. Some (op.Lift body.0 s.0.0, body.1)) (o, rest) s.2 in
    let first = flag_taken bytes s.0.0 s.0.1 fits s.1 in
    let second = body_taken MOST_NODES s.0.1 t.0.0 t.0.1 first.0.rest_fits t.1 in
    subst (IsOp b bytes) (some_is (op.Lift t.0.0 s.0.0, t.0.1) (o, rest) t.2)
    (Takes-then bytes (flag s.0.0) s.0.1 (body_bytes t.0.0) t.0.1 first.0 second.0, is, second.1)

op_taken : (b : ℕ) (bytes : List ℕ) (o : Op) (rest : List ℕ) → IsBytes bytes → op_at b bytes ≡ Some (o, rest) → IsOp b bytes (o, rest)
unfolding op_at
op_taken b bytes o rest fits e = elim (cases_Bool (eqb b 3)) [
  | inl lift ↦ lift_taken b bytes o rest fits (eqb-true b 3 lift) (if_true (eqb b 3) (lift_at bytes) (plain_op_of b >>= λ x. Some (x, bytes)) (Some (o, rest)) lift e)
  | inr not ↦
      let a = bind_some (plain_op_of b) (λ x. Some (x, bytes)) (o, rest) (if_false (eqb b 3) (lift_at bytes) (plain_op_of b >>= λ x. Some (x, bytes)) (Some (o, rest)) not e) in
      subst (IsOp b bytes) (some_is (a.0, bytes) (o, rest) a.2) (no_lift b a.0 bytes fits not (plain_is b a.0 a.1))
]

-- ---- equations

abbrev IsPlace : Place → Type 0
IsPlace p = (p.line < 2 ^ 32) × (p.column < 2 ^ 32)

place_taken : AreTaken place_bytes IsPlace place_at
unfolding place_at
place_taken bytes p rest fits e =
    let a = bind_some (number_at bytes) (λ line. number_at line.1 >>= λ column. Some (record { line = line.0; column = column.0 }, column.1)) (p, rest) e in
    let b = bind_some (number_at a.0.1) (λ column. Some (record { line = a.0.0; column = column.0 }, column.1)) (p, rest) a.2 in
    let first = number_taken bytes a.0.0 a.0.1 fits a.1 in
    let second = number_taken a.0.1 b.0.0 b.0.1 first.0.rest_fits b.1 in
    let made : Place = record { line = a.0.0; column = b.0.0 } in
    subst (λ (q : Place × List ℕ). Takes bytes (place_bytes q.0) q.1 × IsPlace q.0) (some_is (made, b.0.1) (p, rest) b.2)
    (Takes-then bytes (number a.0.0) a.0.1 (number b.0.0) b.0.1 first.0 second.0, (first.1, second.1))

-- one field after another
abbrev Fields : ValueType → Place → Option (List ℕ) → List ℕ → Op → List ℕ
Fields of place name args o = (type_bytes of ++ (place_bytes place ++ optional_name name)) ++ (list_bytes args ++ lift_bytes o)

five_parts : (bytes t a p b n c l d o rest : List ℕ) → Takes bytes t a → Takes a p b → Takes b n c → Takes c l d → Takes d o rest → Takes bytes ((t ++ (p ++ n)) ++ (l ++ o)) rest
five_parts bytes t a p b n c l d o rest first second third fourth fifth =
    let head = Takes-then bytes t a (p ++ n) c first (Takes-then a p b n c second third) in
    let tail = Takes-then c l d o rest fourth fifth in
    Takes-then bytes (t ++ (p ++ n)) c (l ++ o) rest head tail

abbrev IsEquation : ℕ → List ℕ → Equation × List ℕ → Type 0
IsEquation b bytes q = Takes (b ∷ bytes) (fields q.0) q.1 × IsWhole q.0

fields_after_taken : (b : ℕ) (bytes : List ℕ) (e : Equation) (rest : List ℕ) → IsBytes bytes → fields_after b bytes ≡ Some (e, rest) → IsEquation b bytes (e, rest)
unfolding fields_after
fields_after_taken b bytes x rest fits e =
    let made : ValueType → Place → Option (List ℕ) → List ℕ → Op → Equation = λ of place name args o. record { op = o; args = args; of = of; place = place; name = name } in
    let t = bind_some (type_at bytes) (λ of. place_at of.1 >>= λ place. optional_name_at place.1 >>= λ name. list_at name.1 >>= λ args. op_at b args.1 >>= λ o. Some (made of.0 place.0 name.0 args.0 o.0, o.1)) (x, rest) e in
    let p = bind_some (place_at t.0.1) (λ place. optional_name_at place.1 >>= λ name. list_at name.1 >>= λ args. op_at b args.1 >>= λ o. Some (made t.0.0 place.0 name.0 args.0 o.0, o.1)) (x, rest) t.2 in
    let n = bind_some (optional_name_at p.0.1) (λ name. list_at name.1 >>= λ args. op_at b args.1 >>= λ o. Some (made t.0.0 p.0.0 name.0 args.0 o.0, o.1)) (x, rest) p.2 in
    let l = bind_some (list_at n.0.1) (λ args. op_at b args.1 >>= λ o. Some (made t.0.0 p.0.0 n.0.0 args.0 o.0, o.1)) (x, rest) n.2 in
    let o = bind_some (op_at b l.0.1) (λ o. Some (made t.0.0 p.0.0 n.0.0 l.0.0 o.0, o.1)) (x, rest) l.2 in
    let type_is = type_taken bytes t.0.0 t.0.1 fits t.1 in
    let place_is = place_taken t.0.1 p.0.0 p.0.1 type_is.rest_fits p.1 in
    let name_is = optional_name_taken p.0.1 n.0.0 n.0.1 place_is.0.rest_fits n.1 in
    let args_are = list_taken n.0.1 l.0.0 l.0.1 name_is.0.rest_fits l.1 in
    let op_is = op_taken b l.0.1 o.0.0 o.0.1 args_are.0.rest_fits o.1 in
    let parts = five_parts bytes (type_bytes t.0.0) t.0.1 (place_bytes p.0.0) p.0.1 (optional_name n.0.0) n.0.1 (list_bytes l.0.0) l.0.1 (lift_bytes o.0.0) o.0.1 type_is place_is.0 name_is.0 args_are.0 op_is.0 in
    let all = after_byte b (op_place o.0.0) bytes (Fields t.0.0 p.0.0 n.0.0 l.0.0 o.0.0) o.0.1 op_is.1 parts in
    subst (IsEquation b bytes) (some_is (made t.0.0 p.0.0 n.0.0 l.0.0 o.0.0, o.0.1) (x, rest) o.2)
    (all, (record { place = place_is.1; few_args = args_are.1.0; args = args_are.1.1; operation = op_is.2 }, name_is.1))

fields_taken : AreTaken fields IsWhole fields_at
fields_taken [] e rest fits is = absurd cc
fields_taken (b ∷ bytes) e rest fits is = fields_after_taken b bytes e rest (IsBytes-rest b bytes fits) is

-- an equation that is whole where it is spelled, and else nothing
abbrev pub IsEntry : Bool × Equation → Type 0
IsEntry p = (IsTrue (is_spelled p.0 p.1.op) → IsWhole p.1) × (bare_equation p.0 p.1 ≡ p.1)

abbrev pub entry_spelled : Bool × Equation → List ℕ
entry_spelled p = entry_bytes p.0 p.1

abbrev IsRead : List ℕ → (Bool × Equation) × List ℕ → Type 0
IsRead bytes q = Takes bytes (entry_spelled q.0) q.1 × IsEntry q.0

unread_input : (e : Equation) (input : Bool) → is_input e.op ≡ input → IsTrue input → (cond input (2 ∷ fields e) (0 ∷ []) ≡ 2 ∷ fields e) × (cond input e nothing ≡ e)
unread_input e true is holds = (refl, refl)
unread_input e false is holds = absurd (false≢true holds)

pub entry_taken : AreTaken entry_spelled IsEntry entry_read
unfolding entry_read
entry_taken [] p rest fits e = absurd cc
entry_taken (zero ∷ bytes) p rest fits e =
    subst (IsRead (0 ∷ bytes)) (some_is ((false, nothing), bytes) (p, rest) e)
    (record { parts = refl; rest_fits = IsBytes-rest 0 bytes fits }, ((λ spelled. absurd (false≢true spelled)), refl))
entry_taken (suc zero ∷ bytes) p rest fits e =
    let a = bind_some (fields_at bytes) (λ x. Some ((true, x.0), x.1)) (p, rest) e in
    let t = fields_taken bytes a.0.0 a.0.1 (IsBytes-rest 1 bytes fits) a.1 in
    subst (IsRead (1 ∷ bytes)) (some_is ((true, a.0.0), a.0.1) (p, rest) a.2)
    (after_byte 1 1 bytes (fields a.0.0) a.0.1 refl t.0, ((λ spelled. t.1), refl))
entry_taken (suc (suc zero) ∷ bytes) p rest fits e =
    let a = bind_some (fields_at bytes) if_input (p, rest) e in
    let t = fields_taken bytes a.0.0 a.0.1 (IsBytes-rest 2 bytes fits) a.1 in
    let g = passed_test (is_input a.0.0.op) ((false, a.0.0), a.0.1) (p, rest) a.2 in
    let input = unread_input a.0.0 (is_input a.0.0.op) refl g.0 in
    subst (IsRead (2 ∷ bytes)) g.1
    (subst (λ (front : List ℕ). Takes (2 ∷ bytes) front a.0.1) (sym input.0) (after_byte 2 2 bytes (fields a.0.0) a.0.1 refl t.0), ((λ spelled. t.1), input.1))
entry_taken (suc (suc (suc n)) ∷ bytes) p rest fits e = absurd cc

-- ---- outputs

abbrev pub IsOutput : Output → Type 0
IsOutput o = IsName o.name × (o.equation < 2 ^ 32)

pub output_taken : AreTaken output_bytes IsOutput output_at
unfolding output_at
output_taken bytes o rest fits e =
    let a = bind_some (name_at bytes) (λ name. number_at name.1 >>= λ x. Some (record { name = name.0; equation = x.0 }, x.1)) (o, rest) e in
    let b = bind_some (number_at a.0.1) (λ x. Some (record { name = a.0.0; equation = x.0 }, x.1)) (o, rest) a.2 in
    let first = name_taken bytes a.0.0 a.0.1 fits a.1 in
    let second = number_taken a.0.1 b.0.0 b.0.1 first.0.rest_fits b.1 in
    let made : Output = record { name = a.0.0; equation = b.0.0 } in
    subst (λ (q : Output × List ℕ). Takes bytes (output_bytes q.0) q.1 × IsOutput q.0) (some_is (made, b.0.1) (o, rest) b.2)
    (Takes-then bytes (name_bytes a.0.0) a.0.1 (number b.0.0) b.0.1 first.0 second.0, (first.1, second.1))
