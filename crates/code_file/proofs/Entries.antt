-- Equations that were spelled are read again.
use Rattle.std.proofs.Common.{◌≡◌, ℕ, ◌^◌, ◌<◌, Bool, true, false, List, [], ◌∷◌, ◌++◌, Some, refl, ap, ◌∙◌, append_assoc}
use Rattle.std.specs.Prelude.{IfSome, IsTrue, if◌then◌else◌}
use Rattle.tsl_value.specs.declared.place.Place.{Place}
use Rattle.lift_func.specs.declared.limits.TheConstants.{MOST_NODES}
use Rattle.flat_core.specs.declared.equation.Equation.{Equation}
use Rattle.flat_core.specs.declared.equation.Op.{Op}
use Rattle.flat_core.specs.declared.equation.Op.TheVariants as op
use Rattle.flat_core.specs.declared.equation.Output.{Output}
use Rattle.trace_reader.specs.Reading.{is_input}
use Rattle.code_file.specs.Form.{IsEquationForm, IsName, IsOpForm, bare_equation, is_spelled, nothing}
use Rattle.code_file.specs.Spelling.{entry_bytes, fields, lift_bytes, list_bytes, name_bytes, number, op_place, optional_name, output_bytes, place_bytes, type_bytes}
use Rattle.code_file.specs.inner.Reading.{entry_read, fields_after, fields_at, op_at, output_at, place_at, plain_op_of}
use Rattle.code_file.proofs.Bodies.{body_again}
use Rattle.code_file.proofs.Fields.{list_again, name_again, number_again, optional_name_again, type_again}

op_again : (o : Op) (rest : List ℕ) → IsOpForm o → op_at (op_place o) (lift_bytes o ++ rest) ≡ Some (o, rest)
unfolding op_at plain_op_of
op_again (op.Lift body true) rest form = rw (body_again MOST_NODES body rest form.0 form.1 form.1) refl
op_again (op.Lift body false) rest form = rw (body_again MOST_NODES body rest form.0 form.1 form.1) refl
op_again _ rest form = refl

place_again : (p : Place) (rest : List ℕ) → p.line < 2 ^ 32 → p.column < 2 ^ 32 → place_at (place_bytes p ++ rest) ≡ Some (p, rest)
unfolding place_at
place_again p rest line column =
    ap place_at (append_assoc (number p.line) (number p.column) rest) ∙ rw (number_again p.line (number p.column ++ rest) line, number_again p.column rest column) refl

-- what is asked of an equation that is spelled
abbrev pub IsWhole : Equation → Type 0
IsWhole e = IsEquationForm e × IfSome e.name IsName

five_parts : (t p n l o rest : List ℕ) → ((t ++ (p ++ n)) ++ (l ++ o)) ++ rest ≡ t ++ (p ++ (n ++ (l ++ (o ++ rest))))
five_parts t p n l o rest = simp append_assoc

pub fields_again : (e : Equation) (rest : List ℕ) → IsWhole e → fields_at (fields e ++ rest) ≡ Some (e, rest)
unfolding fields_after
fields_again e rest whole =
    let form = whole.0 in
    let last = lift_bytes e.op ++ rest in
    let args = list_bytes e.args ++ last in
    let name = optional_name e.name ++ args in
    let place = place_bytes e.place ++ name in
    let regrouped : ((type_bytes e.of ++ (place_bytes e.place ++ optional_name e.name)) ++ (list_bytes e.args ++ lift_bytes e.op)) ++ rest ≡ type_bytes e.of ++ place =
    five_parts (type_bytes e.of) (place_bytes e.place) (optional_name e.name) (list_bytes e.args) (lift_bytes e.op) rest in
    ap (fields_after (op_place e.op)) regrouped
    ∙ rw (
      type_again e.of place,
      place_again e.place name form.place.0 form.place.1,
      optional_name_again e.name args whole.1,
      list_again e.args last form.few_args form.args,
      op_again e.op rest form.operation,
    ) refl

none_read : (e : Equation) (rest : List ℕ) (input : Bool) → is_input e.op ≡ input → (IsTrue input → IsWhole e)
    → entry_read ((if input then 2 ∷ fields e else 0 ∷ []) ++ rest) ≡ Some ((false, if input then e else nothing), rest)
unfolding entry_read
none_read e rest true is whole = rw (fields_again e rest (whole refl), is) refl
none_read e rest false is whole = refl

pub entry_again : (runs : Bool) (e : Equation) (rest : List ℕ) → (IsTrue (is_spelled runs e.op) → IsWhole e) → entry_read (entry_bytes runs e ++ rest) ≡ Some ((runs, bare_equation runs e), rest)
unfolding entry_read
entry_again true e rest whole = rw (fields_again e rest (whole refl)) refl
entry_again false e rest whole = none_read e rest (is_input e.op) refl whole

pub output_again : (o : Output) (rest : List ℕ) → IsName o.name → o.equation < 2 ^ 32 → output_at (output_bytes o ++ rest) ≡ Some (o, rest)
unfolding output_at
output_again o rest named low =
    ap output_at (append_assoc (name_bytes o.name) (number o.equation) rest) ∙ rw (name_again o.name (number o.equation ++ rest) named, number_again o.equation rest low) refl
