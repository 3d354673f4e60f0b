use Rattle.std.proofs.Common.{ℕ, ◌+◌, List, [], ◌∷◌, ◌++◌, ◌∙◌, length, sym, ap, subst, refl}
use Rattle.std.proofs.lemmas.Result.{err_from_is_err_and}
use Rattle.std.proofs.lemmas.List.{append_assoc}
use Rattle.tsl_value.proofs.Results.{on_err}
use Rattle.stream_constructs.specs.declared.construct.Stream.{Stream}
use Rattle.stream_constructs.specs.Equations.{equation, numbers, lifting, lifted_streams, first_number, literal_equations, operand_numbers}
use Rattle.stream_constructs.specs.Limits.{IsRefusal}
use Rattle.stream_constructs.specs.Made.{HasFirst, with_equations, operands_of, varying_of}
use Rattle.stream_constructs.proofs.Hangs.{lifted_length}
use Rattle.stream_constructs.proofs.Steps.{refused_early, refused_after, varying_length}
use Rattle.stream_constructs.proofs.Partly.{has_after, has_early, has_none}
use Rattle.stream_constructs.proofs.maker.Maker.over_operands.Goals as goal

pub returns-in_err-lifted_streams-clause-refused : goal.returns-in_err-lifted_streams-clause-refused
returns-in_err-lifted_streams-clause-refused c =
    let p = err_from_is_err_and c.from_residual-in_err-lifted_streams.result c.from_residual-in_err-lifted_streams.ensures.1 in
    let place = c.args.place in
    let n = length c.args.self.now.equations in
    let os = operands_of c.args.operands.now in
    let parts = varying_of c.args.operands.now in
    let same = c.deref.ensures.value ∙ c.in_ok-parts.ensures in
    let lift = lifting place n parts in
    let up = lifted_streams n parts in
    let literals = literal_equations place (first_number up) os in
    let last = equation place c.args.op (operand_numbers (n + length lift) os (numbers up)) c.args.of ∷ [] in
    let P : List Stream → Type 0 = λ ps. IsRefusal (c.args.self.now.equations ++ lifting place n ps) c.in_err-lifted_streams.field-0.0 in
    refused_early c.from_residual-in_err-lifted_streams.result p.0 _ c.args.self.now.equations lift (literals ++ last) _ p.1 p.2 (sym (append_assoc lift literals last)) (subst P same c.in_err-lifted_streams.ensures.refused)

pub operand_args-requires : goal.operand_args-requires
operand_args-requires c =
    let n = length c.args.self.now.equations in
    let same = c.deref.ensures.value ∙ c.in_ok-parts.ensures in
    varying_length c.args.operands.now ∙ sym (ap length same) ∙ sym (lifted_length n c.deref.result.now) ∙ sym (ap length (c.deref-3.ensures.value ∙ c.in_ok-lifted_streams.ensures.streams))

pub returns-in_err-args-clause-refused : goal.returns-in_err-args-clause-refused
returns-in_err-args-clause-refused c =
    let p = err_from_is_err_and c.from_residual-in_err-args.result c.from_residual-in_err-args.ensures.1 in
    let place = c.args.place in
    let s = c.args.self.now in
    let n = length s.equations in
    let os = operands_of c.args.operands.now in
    let parts = varying_of c.args.operands.now in
    let same = c.deref.ensures.value ∙ c.in_ok-parts.ensures in
    let lift = lifting place n parts in
    let up = lifted_streams n parts in
    let first_is = c.first_id.ensures ∙ ap first_number (c.deref-2.ensures.value ∙ c.in_ok-lifted_streams.ensures.streams ∙ ap (lifted_streams n) same) in
    let last = equation place c.args.op (operand_numbers (n + length lift) os (numbers up)) c.args.of ∷ [] in
    let P : ℕ → Type 0 = λ f. IsRefusal (c.lift_parts.new.self.equations ++ literal_equations place f os) c.in_err-args.field-0.0 in
    refused_after c.from_residual-in_err-args.result p.0 _ s c.lift_parts.new.self lift (literal_equations place (first_number up) os) last _ p.1 p.2
    (c.in_ok-lifted_streams.ensures.made ∙ ap (λ ps. with_equations s (lifting place n ps)) same) refl (subst P first_is c.in_err-args.ensures.refused)

pub returns-in_err-parts-clause-partly : goal.returns-in_err-parts-clause-partly
returns-in_err-parts-clause-partly c = on_err _ (has_none c.args.self.now c.args.self.now _ refl)

pub returns-in_err-lifted_streams-clause-partly : goal.returns-in_err-lifted_streams-clause-partly
returns-in_err-lifted_streams-clause-partly c =
    let s = c.args.self.now in
    let place = c.args.place in
    let n = length s.equations in
    let os = operands_of c.args.operands.now in
    let parts = varying_of c.args.operands.now in
    let same = c.deref.ensures.value ∙ c.in_ok-parts.ensures in
    let lift = lifting place n parts in
    let up = lifted_streams n parts in
    let literals = literal_equations place (first_number up) os in
    let last = equation place c.args.op (operand_numbers (n + length lift) os (numbers up)) c.args.of ∷ [] in
    let P : List Stream → Type 0 = λ ps. HasFirst s (lifting place n ps) c.lift_parts.new.self in
    on_err _ (has_early s c.lift_parts.new.self lift (literals ++ last) _ (sym (append_assoc lift literals last)) (subst P same c.in_err-lifted_streams.ensures.partly))

pub returns-in_err-args-clause-partly : goal.returns-in_err-args-clause-partly
returns-in_err-args-clause-partly c =
    let s = c.args.self.now in
    let place = c.args.place in
    let n = length s.equations in
    let os = operands_of c.args.operands.now in
    let parts = varying_of c.args.operands.now in
    let same = c.deref.ensures.value ∙ c.in_ok-parts.ensures in
    let lift = lifting place n parts in
    let up = lifted_streams n parts in
    let first_is = c.first_id.ensures ∙ ap first_number (c.deref-2.ensures.value ∙ c.in_ok-lifted_streams.ensures.streams ∙ ap (lifted_streams n) same) in
    let literals = literal_equations place (first_number up) os in
    let last = equation place c.args.op (operand_numbers (n + length lift) os (numbers up)) c.args.of ∷ [] in
    let P : ℕ → Type 0 = λ f. HasFirst c.lift_parts.new.self (literal_equations place f os) c.operand_args.new.self in
    on_err _ (has_after s c.lift_parts.new.self c.operand_args.new.self lift literals last _ (c.in_ok-lifted_streams.ensures.made ∙ ap (λ ps. with_equations s (lifting place n ps)) same) (sym (append_assoc lift literals last)) (subst P first_is c.in_err-args.ensures.partly))
