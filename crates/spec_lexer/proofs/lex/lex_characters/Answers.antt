use Rattle.std.proofs.Common.{◌++◌, ◌∷◌, [], length, sym, ap, subst, ◌∙◌, arith, Ok, append_assoc, length-drop}
use Rattle.std.proofs.lemmas.List.{append-nil}
use Rattle.std.proofs.lemmas.Result.{err_from_is_err_and}
use Rattle.std.specs.Prelude.{nat_lt}
use Rattle.spec_lexer.specs.declared.token.Token.{Token}
use Rattle.spec_lexer.specs.Source.{Lexes, Fails, start}
use Rattle.spec_lexer.proofs.Steps.{blank_fits, blank_ends, lex_blank, fail_blank, made_fits, made_ends, lex_made, fail_made, line_ends, lex_line, fail_line, fail_here, lex_end, fault_weaker}
use Rattle.spec_lexer.proofs.lex.lex_characters.Goals as goal

pub returns-in_err-count-clause-fault : goal.returns-in_err-count-clause-fault
returns-in_err-count-clause-fault c =
    let p = err_from_is_err_and c.from_residual.result c.from_residual.ensures.1 in
    rw (p.1, p.2) (fault_weaker c.in_err-count.field-0.0 _ (Fails start c.args.characters.now)
    (λ e is. c.pieces.invariant.failed e (fail_here c.pieces.at c.in-Some.c.now c.in-Some.after.now c.pieces.rest.now c.in-Some.ensures.cases.0 e is))
    c.in_err-count.ensures.fault)

pub overflow_cast-at : goal.overflow_cast-at
overflow_cast-at c =
    let is = ap Ok (sym c.in-Blank.is) ∙ c.in_ok-count.ensures.ok in
    let fits = blank_fits c.pieces.at c.in-Some.c.now c.in-Some.after.now c.pieces.rest.now c.in-Some.ensures.cases.0 c.in-Blank.count is in
    omega arith

pub overflow_add-at : goal.overflow_add-at
overflow_add-at c =
    let is = ap Ok (sym c.in-Blank.is) ∙ c.in_ok-count.ensures.ok in
    let fits = blank_fits c.pieces.at c.in-Some.c.now c.in-Some.after.now c.pieces.rest.now c.in-Some.ensures.cases.0 c.in-Blank.count is in
    omega arith

pub skip-rest-requires : goal.skip-rest-requires
skip-rest-requires c =
    let is = ap Ok (sym c.in-Blank.is) ∙ c.in_ok-count.ensures.ok in
    (blank_fits c.pieces.at c.in-Some.c.now c.in-Some.after.now c.pieces.rest.now c.in-Some.ensures.cases.0 c.in-Blank.count is).1

pub pieces-smaller-in-Blank : goal.pieces-smaller-in-Blank
pieces-smaller-in-Blank c =
    let is = ap Ok (sym c.in-Blank.is) ∙ c.in_ok-count.ensures.ok in
    let fits = blank_fits c.pieces.at c.in-Some.c.now c.in-Some.after.now c.pieces.rest.now c.in-Some.ensures.cases.0 c.in-Blank.count is in
    let less = ap length c.skip-rest.ensures ∙ length-drop c.in-Blank.count c.pieces.rest.now in
    omega arith

pub pieces-preserved-in-Blank : goal.pieces-preserved-in-Blank
pieces-preserved-in-Blank c =
    let is = ap Ok (sym c.in-Blank.is) ∙ c.in_ok-count.ensures.ok in
    let fits = blank_fits c.pieces.at c.in-Some.c.now c.in-Some.after.now c.pieces.rest.now c.in-Some.ensures.cases.0 c.in-Blank.count is in
    let less = ap length c.skip-rest.ensures ∙ length-drop c.in-Blank.count c.pieces.rest.now in
    record {
      columns = omega arith;
      lines = omega arith;
      end = rw c.skip-rest.ensures (blank_ends c.pieces.at c.in-Some.c.now c.in-Some.after.now c.pieces.rest.now c.in-Some.ensures.cases.0 c.in-Blank.count is) ∙ c.pieces.invariant.end;
      lexed = λ ts l. c.pieces.invariant.lexed ts (lex_blank c.pieces.at c.in-Some.c.now c.in-Some.after.now c.pieces.rest.now c.in-Some.ensures.cases.0 c.in-Blank.count c.pieces.last_line ts is (rw c.skip-rest.ensures at l));
      failed = λ e f. c.pieces.invariant.failed e (fail_blank c.pieces.at c.in-Some.c.now c.in-Some.after.now c.pieces.rest.now c.in-Some.ensures.cases.0 c.in-Blank.count e is (rw c.skip-rest.ensures at f));
    }

pub pieces-preserved-in-LineEnd : goal.pieces-preserved-in-LineEnd
pieces-preserved-in-LineEnd c =
    let is = ap Ok (sym c.in-LineEnd.is) ∙ c.in_ok-count.ensures.ok in
    let less = c.in-Some.ensures.cases.1 in
    record {
      columns = omega arith;
      lines = omega arith;
      end = line_ends c.pieces.at c.in-Some.c.now c.in-Some.after.now c.pieces.rest.now c.in-Some.ensures.cases.0 is ∙ c.pieces.invariant.end;
      lexed = λ ts l. c.pieces.invariant.lexed ts (lex_line c.pieces.at c.in-Some.c.now c.in-Some.after.now c.pieces.rest.now c.in-Some.ensures.cases.0 c.pieces.last_line ts is l);
      failed = λ e f. c.pieces.invariant.failed e (fail_line c.pieces.at c.in-Some.c.now c.in-Some.after.now c.pieces.rest.now c.in-Some.ensures.cases.0 e is f);
    }

pub overflow_cast-at-in-Made : goal.overflow_cast-at-in-Made
overflow_cast-at-in-Made c =
    let is = ap Ok (sym c.in-Made.is) ∙ c.in_ok-count.ensures.ok in
    let fits = made_fits c.pieces.at c.in-Some.c.now c.in-Some.after.now c.pieces.rest.now c.in-Some.ensures.cases.0 c.in-Made.count c.in-Made.kind is in
    omega arith

pub overflow_add-at-in-Made : goal.overflow_add-at-in-Made
overflow_add-at-in-Made c =
    let is = ap Ok (sym c.in-Made.is) ∙ c.in_ok-count.ensures.ok in
    let fits = made_fits c.pieces.at c.in-Some.c.now c.in-Some.after.now c.pieces.rest.now c.in-Some.ensures.cases.0 c.in-Made.count c.in-Made.kind is in
    omega arith

pub skip-rest-requires-in-Made : goal.skip-rest-requires-in-Made
skip-rest-requires-in-Made c =
    let is = ap Ok (sym c.in-Made.is) ∙ c.in_ok-count.ensures.ok in
    (made_fits c.pieces.at c.in-Some.c.now c.in-Some.after.now c.pieces.rest.now c.in-Some.ensures.cases.0 c.in-Made.count c.in-Made.kind is).1

pub pieces-smaller : goal.pieces-smaller
pieces-smaller c =
    let is = ap Ok (sym c.in-Made.is) ∙ c.in_ok-count.ensures.ok in
    let fits = made_fits c.pieces.at c.in-Some.c.now c.in-Some.after.now c.pieces.rest.now c.in-Some.ensures.cases.0 c.in-Made.count c.in-Made.kind is in
    let less = ap length c.skip-rest-in-Made.ensures ∙ length-drop c.in-Made.count c.pieces.rest.now in
    omega arith

pub pieces-preserved : goal.pieces-preserved
pieces-preserved c =
    let is = ap Ok (sym c.in-Made.is) ∙ c.in_ok-count.ensures.ok in
    let fits = made_fits c.pieces.at c.in-Some.c.now c.in-Some.after.now c.pieces.rest.now c.in-Some.ensures.cases.0 c.in-Made.count c.in-Made.kind is in
    let less = ap length c.skip-rest-in-Made.ensures ∙ length-drop c.in-Made.count c.pieces.rest.now in
    record {
      columns = omega arith;
      lines = omega arith;
      end = rw c.skip-rest-in-Made.ensures (made_ends c.pieces.at c.in-Some.c.now c.in-Some.after.now c.pieces.rest.now c.in-Some.ensures.cases.0 c.in-Made.count c.in-Made.kind is) ∙ c.pieces.invariant.end;
      lexed = λ ts l.
          let t : Token = record { kind = c.in-Made.kind; place = c.pieces.at; first = nat_lt c.pieces.last_line c.pieces.at.line } in
          subst (Lexes start 0 c.args.characters.now) (sym (ap (λ items. items ++ ts) c.in_ok-push-in-Made.ensures.ok ∙ append_assoc c.pieces.tokens.tokens (t ∷ []) ts))
          (c.pieces.invariant.lexed (t ∷ ts) (lex_made c.pieces.at c.in-Some.c.now c.in-Some.after.now c.pieces.rest.now c.in-Some.ensures.cases.0 c.in-Made.count c.in-Made.kind c.pieces.last_line ts is (rw c.skip-rest-in-Made.ensures at l)));
      failed = λ e f. c.pieces.invariant.failed e (fail_made c.pieces.at c.in-Some.c.now c.in-Some.after.now c.pieces.rest.now c.in-Some.ensures.cases.0 c.in-Made.count c.in-Made.kind e is (rw c.skip-rest-in-Made.ensures at f));
    }

pub returns-clause-tokens : goal.returns-clause-tokens
returns-clause-tokens c = subst (Lexes start 0 c.args.characters.now) (append-nil c.pieces.tokens.tokens ∙ sym c.set_end.ensures.tokens) (c.pieces.invariant.lexed [] (lex_end c.pieces.at c.pieces.last_line c.pieces.rest.now c.in_default.ensures.cases))
