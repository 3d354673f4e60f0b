use Rattle.std.proofs.Common.{rules, ◌≡◌, Err, sym, subst, ◌∙◌}
use Rattle.std.proofs.lemmas.Result.{err_from_is_err_and}
use Rattle.std.specs.Option.{option_map}
use Rattle.tsl_value.specs.View.{Plain}
use Rattle.body_eval.specs.inner.Registers.{arguments, held}
use Rattle.body_eval.specs.inner.Textless.{HasNoText, IsNoText, IsText}
use Rattle.lift_func.specs.Apply.{apply}
use Rattle.body_eval.specs.inner.Evaluable.{IsHeld}
use Rattle.lift_func.specs.BodyTree.{Literal, Argument, One, Two, Choice}
use Rattle.body_eval.proofs.Evaluation.{argument_of, operand_of, reads_of, decided_of, faults_of, scalars_of}
use Rattle.body_eval.proofs.Textless.{literal_no_text, argument_no_text, one_no_text, operand_no_text, first_no_text, second_no_text, both_no_text, condition_no_text, then_no_text, held_no_text, no_text, same_answered}
use Rattle.body_eval.proofs.eval.+eval_register.Goals as goal

pub returns-in-Argument-clause-value : goal.returns-in-Argument-clause-value
returns-in-Argument-clause-value g t c =
    let is : c.args.body.now ≡ Argument c.in-Argument.k = search rules in
    let cells = g.R.Reader.cells c.args.reader.now in
    argument_of cells c.args.registers.now c.args.args.now c.args.body.now c.in-Argument.k c.in_ok-named_at-in-Argument.field-0 is c.requires
    (c.in_ok-named_at-in-Argument.ensures.held cells) (c.in_ok-named_at-in-Argument.ensures.live cells)

pub unary_at-requires-clause-typed : goal.unary_at-requires-clause-typed
unary_at-requires-clause-typed g t c =
    let is : c.args.body.now ≡ One c.in-One.o c.in-One.a.value = search rules in
    operand_of (g.R.Reader.cells c.args.reader.now) c.args.registers.now c.args.args.now c.args.body.now c.in-One.o c.in-One.a.value c.deref.result.now c.in_ok-x-in-One.x
    is c.deref.ensures c.requires c.in_ok-x-in-One.ensures.value

pub read-requires-clause-typed : goal.read-requires-clause-typed
read-requires-clause-typed g t c =
    let is : c.args.body.now ≡ Two c.in-Two.o c.in-Two.a.value c.in-Two.b.value = search rules in
    reads_of (g.R.Reader.cells c.args.reader.now) c.args.registers.now c.args.args.now c.args.body.now c.in-Two.o c.in-Two.a.value c.in-Two.b.value c.deref-in-Two.result.now c.in_ok-x-in-Two.x
    is c.deref-in-Two.ensures c.requires c.in_ok-x-in-Two.ensures.value (sym c.is_read.ensures ∙ c.if-is_read.true)
    c.deref-then-is_read.result.now c.in_ok-key-in-Two.key c.deref-then-is_read.ensures c.in_ok-key-in-Two.ensures.value

pub returns-in-Some-clause-value : goal.returns-in-Some-clause-value
returns-in-Some-clause-value g t c =
    let is : c.args.body.now ≡ Two c.in-Two.o c.in-Two.a.value c.in-Two.b.value = search rules in
    decided_of (g.R.Reader.cells c.args.reader.now) c.args.registers.now c.args.args.now c.args.body.now c.in-Two.o c.in-Two.a.value c.in-Two.b.value c.deref-in-Two.result.now c.in_ok-x-in-Two.x
    is c.deref-in-Two.ensures c.requires c.in_ok-x-in-Two.ensures.value (sym c.is_read.ensures ∙ c.if-is_read.false)
    c.scalar_of-x.result c.scalar_of-x.ensures c.in-Some.v c.in-Some.ensures c.register_of.result c.register_of.ensures

pub returns-in_err-eval_register-in-Two-clause-value : goal.returns-in_err-eval_register-in-Two-clause-value
returns-in_err-eval_register-in-Two-clause-value g t c =
    let is : c.args.body.now ≡ Two c.in-Two.o c.in-Two.a.value c.in-Two.b.value = search rules in
    let result_is : c.from_residual-in_err-eval_register-in-Two.result ≡ Err c.in_err-eval_register-in-Two.field-0.0 = search rules in
    faults_of (g.R.Reader.cells c.args.reader.now) c.args.registers.now c.args.args.now c.args.body.now c.in-Two.o c.in-Two.a.value c.in-Two.b.value c.deref-in-Two.result.now c.in_ok-x-in-Two.x
    is c.deref-in-Two.ensures c.requires c.in_ok-x-in-Two.ensures.value (sym c.is_read.ensures ∙ c.if-is_read.false)
    c.scalar_of-x.result c.scalar_of-x.ensures c.in_default.ensures c.deref-in-Two-2.result.now c.deref-in-Two-2.ensures
    c.in_err-eval_register-in-Two.field-0.0 c.in_err-eval_register-in-Two.ensures.value c.from_residual-in_err-eval_register-in-Two.result result_is

pub returns-in-Two-clause-value : goal.returns-in-Two-clause-value
returns-in-Two-clause-value g t c =
    let is : c.args.body.now ≡ Two c.in-Two.o c.in-Two.a.value c.in-Two.b.value = search rules in
    scalars_of (g.R.Reader.cells c.args.reader.now) c.args.registers.now c.args.args.now c.args.body.now c.in-Two.o c.in-Two.a.value c.in-Two.b.value c.deref-in-Two.result.now c.in_ok-x-in-Two.x
    is c.deref-in-Two.ensures c.requires c.in_ok-x-in-Two.ensures.value (sym c.is_read.ensures ∙ c.if-is_read.false)
    c.scalar_of-x.result c.scalar_of-x.ensures c.deref-in-Two-2.result.now c.deref-in-Two-2.ensures
    c.in_ok-eval_register-in-Two.field-0 c.in_ok-eval_register-in-Two.ensures.value c.scalar_of-y.result c.scalar_of-y.ensures
    c.in_ok-apply_binary-in-Two.field-0 c.in_ok-apply_binary-in-Two.ensures.value c.register_of-in-Two.result c.register_of-in-Two.ensures

pub returns-in_err-copy-in-Literal-clause-spare : goal.returns-in_err-copy-in-Literal-clause-spare
returns-in_err-copy-in-Literal-clause-spare g t c = λ none.
    let values = arguments (g.R.Reader.cells c.args.reader.now) c.args.registers.now c.args.args.now in
    let is : c.args.body.now ≡ Literal c.in-Literal.s = search rules in
    absurd (literal_no_text c.args.body.now values none c.in-Literal.s is c.in_err-copy-in-Literal.ensures.text)

pub returns-in_err-named_at-in-Argument-clause-spare : goal.returns-in_err-named_at-in-Argument-clause-spare
returns-in_err-named_at-in-Argument-clause-spare g t c = λ none.
    let values = arguments (g.R.Reader.cells c.args.reader.now) c.args.registers.now c.args.args.now in
    let is : c.args.body.now ≡ Argument c.in-Argument.k = search rules in
    absurd (argument_no_text c.args.body.now values none c.in-Argument.k is (c.in_err-named_at-in-Argument.ensures.text (g.R.Reader.cells c.args.reader.now)))

pub returns-in_err-x-in-One-clause-spare : goal.returns-in_err-x-in-One-clause-spare
returns-in_err-x-in-One-clause-spare g t c = λ none.
    let values = arguments (g.R.Reader.cells c.args.reader.now) c.args.registers.now c.args.args.now in
    let is : c.args.body.now ≡ One c.in-One.o c.in-One.a.value = search rules in
    let p = err_from_is_err_and c.from_residual-in_err-x-in-One.result c.from_residual-in_err-x-in-One.ensures.1 in
    same_answered c.from_residual-in_err-x-in-One.result p.0 c.in_err-x-in-One.field-0.0 p.1 p.2
    (c.in_err-x-in-One.ensures.spare (subst (λ b. HasNoText b values) (sym c.deref.ensures) (operand_no_text c.args.body.now values none c.in-One.o c.in-One.a.value is)))

pub returns-in-One-clause-spare : goal.returns-in-One-clause-spare
returns-in-One-clause-spare g t c = λ none.
    let values = arguments (g.R.Reader.cells c.args.reader.now) c.args.registers.now c.args.args.now in
    let is : c.args.body.now ≡ One c.in-One.o c.in-One.a.value = search rules in
    let cells = g.R.Reader.cells c.args.reader.now in
    let operand = subst (λ b. IsHeld cells c.in_ok-x-in-One.x (apply b values)) c.deref.ensures c.in_ok-x-in-One.ensures.value in
    c.unary_at.ensures.spare (one_no_text c.args.body.now values none c.in-One.o c.in-One.a.value (held cells c.in_ok-x-in-One.x) is operand.0)

pub returns-in_err-x-in-Two-clause-spare : goal.returns-in_err-x-in-Two-clause-spare
returns-in_err-x-in-Two-clause-spare g t c = λ none.
    let values = arguments (g.R.Reader.cells c.args.reader.now) c.args.registers.now c.args.args.now in
    let is : c.args.body.now ≡ Two c.in-Two.o c.in-Two.a.value c.in-Two.b.value = search rules in
    let p = err_from_is_err_and c.from_residual-in_err-x-in-Two.result c.from_residual-in_err-x-in-Two.ensures.1 in
    same_answered c.from_residual-in_err-x-in-Two.result p.0 c.in_err-x-in-Two.field-0.0 p.1 p.2
    (c.in_err-x-in-Two.ensures.spare (subst (λ b. HasNoText b values) (sym c.deref-in-Two.ensures) (first_no_text c.args.body.now values none c.in-Two.o c.in-Two.a.value c.in-Two.b.value is)))

pub returns-in_err-key-in-Two-clause-spare : goal.returns-in_err-key-in-Two-clause-spare
returns-in_err-key-in-Two-clause-spare g t c = λ none.
    let values = arguments (g.R.Reader.cells c.args.reader.now) c.args.registers.now c.args.args.now in
    let is : c.args.body.now ≡ Two c.in-Two.o c.in-Two.a.value c.in-Two.b.value = search rules in
    let p = err_from_is_err_and c.from_residual-in_err-key-in-Two.result c.from_residual-in_err-key-in-Two.ensures.1 in
    same_answered c.from_residual-in_err-key-in-Two.result p.0 c.in_err-key-in-Two.field-0.0 p.1 p.2
    (c.in_err-key-in-Two.ensures.spare (subst (λ b. HasNoText b values) (sym c.deref-then-is_read.ensures) (second_no_text c.args.body.now values none c.in-Two.o c.in-Two.a.value c.in-Two.b.value is)))

pub returns-then-is_read-clause-spare : goal.returns-then-is_read-clause-spare
returns-then-is_read-clause-spare g t c = λ none.
    let values = arguments (g.R.Reader.cells c.args.reader.now) c.args.registers.now c.args.args.now in
    let is : c.args.body.now ≡ Two c.in-Two.o c.in-Two.a.value c.in-Two.b.value = search rules in
    let cells = g.R.Reader.cells c.args.reader.now in
    let first = subst (λ b. IsHeld cells c.in_ok-x-in-Two.x (apply b values)) c.deref-in-Two.ensures c.in_ok-x-in-Two.ensures.value in
    let second = subst (λ b. IsHeld cells c.in_ok-key-in-Two.key (apply b values)) c.deref-then-is_read.ensures c.in_ok-key-in-Two.ensures.value in
    c.read.ensures.spare (both_no_text c.args.body.now values none c.in-Two.o c.in-Two.a.value c.in-Two.b.value (held cells c.in_ok-x-in-Two.x) (held cells c.in_ok-key-in-Two.key) is first.0 second.0)

pub returns-in_err-eval_register-in-Two-clause-spare : goal.returns-in_err-eval_register-in-Two-clause-spare
returns-in_err-eval_register-in-Two-clause-spare g t c = λ none.
    let values = arguments (g.R.Reader.cells c.args.reader.now) c.args.registers.now c.args.args.now in
    let is : c.args.body.now ≡ Two c.in-Two.o c.in-Two.a.value c.in-Two.b.value = search rules in
    let p = err_from_is_err_and c.from_residual-in_err-eval_register-in-Two.result c.from_residual-in_err-eval_register-in-Two.ensures.1 in
    same_answered c.from_residual-in_err-eval_register-in-Two.result p.0 c.in_err-eval_register-in-Two.field-0.0 p.1 p.2
    (c.in_err-eval_register-in-Two.ensures.spare (subst (λ b. HasNoText b values) (sym c.deref-in-Two-2.ensures) (second_no_text c.args.body.now values none c.in-Two.o c.in-Two.a.value c.in-Two.b.value is)))

pub returns-in_err-apply_binary-in-Two-clause-spare : goal.returns-in_err-apply_binary-in-Two-clause-spare
returns-in_err-apply_binary-in-Two-clause-spare g t c = λ none.
    let values = arguments (g.R.Reader.cells c.args.reader.now) c.args.registers.now c.args.args.now in
    let is : c.args.body.now ≡ Two c.in-Two.o c.in-Two.a.value c.in-Two.b.value = search rules in
    let p = err_from_is_err_and c.from_residual-in_err-apply_binary-in-Two.result c.from_residual-in_err-apply_binary-in-Two.ensures.1 in
    let cells = g.R.Reader.cells c.args.reader.now in
    let first = subst (λ b. IsHeld cells c.in_ok-x-in-Two.x (apply b values)) c.deref-in-Two.ensures c.in_ok-x-in-Two.ensures.value in
    let no_first = subst IsNoText first.0 (no_text c.in-Two.a.value values (first_no_text c.args.body.now values none c.in-Two.o c.in-Two.a.value c.in-Two.b.value is)) in
    same_answered c.from_residual-in_err-apply_binary-in-Two.result p.0 c.in_err-apply_binary-in-Two.field-0.0 p.1 p.2
    (c.in_err-apply_binary-in-Two.ensures.spare (subst (λ v. IsText (option_map Plain v) → ⊥) (sym c.scalar_of-x.ensures) (held_no_text cells c.in_ok-x-in-Two.x no_first)))

pub returns-in_err-eval_register-in-Choice-clause-spare : goal.returns-in_err-eval_register-in-Choice-clause-spare
returns-in_err-eval_register-in-Choice-clause-spare g t c = λ none.
    let values = arguments (g.R.Reader.cells c.args.reader.now) c.args.registers.now c.args.args.now in
    let is : c.args.body.now ≡ Choice c.in-Choice.c.value c.in-Choice.a.value c.in-Choice.b.value = search rules in
    let p = err_from_is_err_and c.from_residual-in_err-eval_register-in-Choice.result c.from_residual-in_err-eval_register-in-Choice.ensures.1 in
    same_answered c.from_residual-in_err-eval_register-in-Choice.result p.0 c.in_err-eval_register-in-Choice.field-0.0 p.1 p.2
    (c.in_err-eval_register-in-Choice.ensures.spare (subst (λ b. HasNoText b values) (sym c.deref-in-Choice.ensures) (condition_no_text c.args.body.now values none c.in-Choice.c.value c.in-Choice.a.value c.in-Choice.b.value is)))

pub returns-then-is_first-clause-spare : goal.returns-then-is_first-clause-spare
returns-then-is_first-clause-spare g t c = λ none.
    let values = arguments (g.R.Reader.cells c.args.reader.now) c.args.registers.now c.args.args.now in
    let is : c.args.body.now ≡ Choice c.in-Choice.c.value c.in-Choice.a.value c.in-Choice.b.value = search rules in
    c.eval_register-then-is_first.ensures.spare (subst (λ b. HasNoText b values) (sym c.deref-then-is_first.ensures) (then_no_text c.args.body.now values none c.in-Choice.c.value c.in-Choice.a.value c.in-Choice.b.value is))
