use Rattle.std.proofs.Common.{◌≡◌, ◌==◌, ℕ, zero, suc, ◌+◌, ◌-◌, ◌*◌, ◌<◌, ◌≤◌, true, List, length, map, refl, rules, ap, sym, subst, ◌∙◌, arith}
use Rattle.std.specs.Borrow.{Bor}
use Rattle.std.specs.Prelude.{Ok, Err}
use Rattle.std.proofs.lemmas.Bool.{eqb-true}
use Rattle.std.proofs.lemmas.List.{length-map}
use Rattle.std.proofs.lemmas.Result.{err_from_is_err_and}
use Rattle.syntax_tree.specs.Tree as tree
use Rattle.syntax_tree.specs.Tree.{Expr, place_of}
use Rattle.syntax_tree.specs.inner.OneLevel as code
use Rattle.syntax_tree.specs.inner.OneLevel.{definition_of, definitions_of, expr_of, exprs_of, item_of, links_in, size_of, size_of_exprs}
use Rattle.syntax_tree.specs.declared.tree.Node.{Node}
use Rattle.syntax_tree.specs.declared.tree.Node.TheVariants as node
use Rattle.name_check.specs.Builtin.{is_called, is_unit}
use Rattle.name_check.specs.Scope.{meaning, seen}
use Rattle.name_check.specs.inner.Steps.{local_body}
use Rattle.syntax_tree.proofs.Sizes.{argument_smaller, link_smaller}
use Rattle.type_rules.specs.declared.rule.Setting.TheVariants as setting
use Rattle.spec_meaning.specs.Occurrence.{result_of}
use Rattle.equation_marks.specs.Marks.{macro_marks}
use Rattle.equation_marks.proofs.Weights.{block_weight, body_weight, definition_lighter}
use Rattle.expr_types.specs.inner.Shown.{around_of, kinds_of}
use Rattle.stream_shapes.specs.inner.Shape.{expressions_in}
use Rattle.macro_flatten.specs.inner.Answers.{AreExpressions, AreNumbered, AreStreams, CanCall, CanEnter, CanMake, CanMakeAll, IsBlock, IsBody, IsCalled, IsConstructed, IsExpression, IsInside, IsNamed, to_enough}
use Rattle.macro_flatten.specs.inner.Here.{macro_in}
use Rattle.macro_flatten.proofs.Inside.{block_can, block_stopped, final_answer, final_can, plain_answer, plain_can, streams_there}
use Rattle.macro_flatten.proofs.Linked as linked
use Rattle.macro_flatten.proofs.Turns.{AreBegun, all_made, block_done, body_can, body_more, body_refused, one_can, one_more, one_refused, shown_at}
use Rattle.macro_flatten.proofs.Arguments.{arguments_can, arguments_stopped, callee_room, macro_called, deeper_room, enter_can, never_deepest, no_other}
use Rattle.macro_flatten.proofs.Constructs.{own_answers, own_may, parts_can, parts_stopped, smaller_parts}
use Rattle.macro_flatten.proofs.Expressions.{body_is, body_stopped, call_can, called_is, construct_can, constructed_is, first_can, first_is, name_can, named_is, other_alone, other_call_alone, own_call_alone, unit_alone}
use Rattle.macro_flatten.proofs.Sizes.{one_within, room, total_size}
use Rattle.macro_flatten.proofs.context.Context.+expression.Goals as goal

-- ---- what an expression is, by its node
tree_is : (e : Expr) (n m : Node) → n ≡ m → expr_of (place_of e) n ≡ e → e ≡ expr_of (place_of e) m
tree_is e n m is same = sym same ∙ ap (expr_of (place_of e)) is

none_left : (n m : ℕ) → (n == 0) ≡ true → n ≡ m → m ≡ 0
none_left n m h same = sym same ∙ eqb-true n 0 h

past : (es : List (Bor Expr)) (i : ℕ) → length es ≤ i → length (expressions_in es) ≤ i
past es i h = let same = length-map es (λ (e : Bor Expr). e.now) in omega arith

deep_more : (n : ℕ) → (n ≡ 0 → ⊥) → n ≡ suc (n - 1)
deep_more zero h = absurd (h refl)
deep_more (suc n) h = omega arith

-- ---- bodies
pub body-returns-in_err-stream : goal.body-returns-in_err-stream
body-returns-in_err-stream t c =
    let is : c.from_residual.result ≡ Err c.in_err-stream.field-0.0 = search rules in
    subst (IsBody c.args.self.now c.args.here.now c.args.expression.now c.args.maker.now c.expression.new.maker) (sym is)
    (body_stopped c.args.self.now c.args.here.now c.args.expression.now c.args.maker.now c.expression.new.maker c.in_err-stream.field-0.0 c.in_err-stream.ensures)

pub body-returns : goal.body-returns
body-returns t c =
    body_is c.args.self.now c.args.here.now c.args.expression.now c.args.maker.now c.expression.new.maker c.aliased.new.maker c.in_ok-stream.stream c.aliased.result c.in_ok-stream.ensures c.aliased.ensures

-- ---- calls
pub call-arguments-requires : goal.call-arguments-requires
call-arguments-requires t c =
    let may = arguments_can c.args.self.now c.args.here.now c.args.number c.args.arguments.now c.requires in
    search rules

pub call-returns-in_err-params : goal.call-returns-in_err-params
call-returns-in_err-params t c =
    let is : c.from_residual.result ≡ Err c.in_err-params.field-0.0 = search rules in
    subst (IsCalled c.args.self.now c.args.here.now c.args.number (exprs_of c.args.arguments.now) c.args.maker.now c.arguments.new.maker) (sym is)
    (arguments_stopped c.args.self.now c.args.here.now c.args.number c.args.arguments.now c.args.maker.now c.arguments.new.maker c.in_err-params.field-0.0 c.in_err-params.ensures)

pub call-unreachable-requires : goal.call-unreachable-requires
call-unreachable-requires t c =
    never_deepest c.args.self.now c.args.here.now c.args.number c.args.arguments.now c.requires c.if-here-eq0.true

pub call-unreachable-requires-in-None : goal.call-unreachable-requires-in-None
call-unreachable-requires-in-None t c = no_other c.args.self.now c.args.here.now c.args.number c.args.arguments.now c.requires c.in-None.ensures

pub call-inside-requires : goal.call-inside-requires
call-inside-requires t c =
    let deeper : c.args.here.now.deep ≡ suc (c.args.here.now.deep - 1) = deep_more c.args.here.now.deep c.if-here-eq0.false in
    let can = enter_can c.args.self.now c.args.here.now c.args.number c.args.arguments.now c.args.maker.now c.arguments.new.maker c.in_ok-params.params c.in_ok-params.ensures c.in-Some.parts.now c.in-Some.ensures (c.args.here.now.deep - 1) deeper c.requires in
    let may : CanEnter c.args.self.now c.args.number (definition_of c.in-Some.parts.now) c.deref.result.now (c.args.here.now.deep - 1) =
    subst (λ ss. CanEnter c.args.self.now c.args.number (definition_of c.in-Some.parts.now) ss (c.args.here.now.deep - 1)) (sym c.deref.ensures.value) can in
    let smaller = deeper_room c.args.here.now.deep (room c.args.self.now.items.now) (8 * body_weight (code.body_of c.in-Some.parts.now.body) + 6) (8 * size_of_exprs (exprs_of c.args.arguments.now) + 4) (callee_room c.args.self.now.items.now c.args.number c.in-Some.parts.now c.in-Some.ensures) c.if-here-eq0.false in
    search rules

pub call-returns : goal.call-returns
call-returns t c =
    macro_called c.args.self.now c.args.here.now c.args.number c.args.arguments.now c.args.maker.now c.arguments.new.maker c.in_ok-params.params c.in_ok-params.ensures c.in-Some.parts.now c.in-Some.ensures (c.args.here.now.deep - 1) (deep_more c.args.here.now.deep c.if-here-eq0.false) c.inside.new.maker c.inside.result
    (subst (λ ss. IsInside c.args.self.now c.args.number (definition_of c.in-Some.parts.now) ss (c.args.here.now.deep - 1) c.arguments.new.maker c.inside.new.maker c.inside.result) c.deref.ensures.value c.inside.ensures)

-- ---- constructs
pub construct-parts-requires : goal.construct-parts-requires
construct-parts-requires t c =
    let e = c.args.expression.now in
    let can = parts_can c.args.self.now c.args.here.now e c.in_ok-shape.shape c.in_ok-shape.ensures c.requires in
    let may : CanMakeAll c.args.self.now c.args.here.now (expressions_in c.deref.result.now) =
    subst (λ ps. CanMakeAll c.args.self.now c.args.here.now (expressions_in ps)) (sym c.deref.ensures.value) can in
    let smaller : total_size (expressions_in c.deref.result.now) < size_of c.args.expression.now =
    omega (arith, ap (λ ps. total_size (expressions_in ps)) c.deref.ensures.value, smaller_parts c.args.self.now c.args.here.now e c.in_ok-shape.shape c.in_ok-shape.ensures c.requires) in
    search rules

pub construct-returns-in_err-parts : goal.construct-returns-in_err-parts
construct-returns-in_err-parts t c =
    let is : c.from_residual-in_err-parts.result ≡ Err c.in_err-parts.field-0.0 = search rules in
    subst (IsConstructed c.args.self.now c.args.here.now c.args.expression.now c.args.maker.now c.parts.new.maker) (sym is)
    (parts_stopped c.args.self.now c.args.here.now c.args.expression.now c.in_ok-shape.shape c.in_ok-shape.ensures c.args.maker.now c.parts.new.maker c.in_err-parts.field-0.0
    (subst (λ ps. AreExpressions c.args.self.now c.args.here.now (expressions_in ps) c.args.maker.now c.parts.new.maker (Err c.in_err-parts.field-0.0)) c.deref.ensures.value c.in_err-parts.ensures))

pub construct-own-requires-clause-fits : goal.construct-own-requires-clause-fits
construct-own-requires-clause-fits t c =
    let made = subst (λ ps. AreExpressions c.args.self.now c.args.here.now (expressions_in ps) c.args.maker.now c.parts.new.maker (Ok c.in_ok-parts.parts)) c.deref.ensures.value c.in_ok-parts.ensures in
    let fits = own_may c.args.self.now c.args.here.now c.args.expression.now c.in_ok-shape.shape c.in_ok-shape.ensures c.in_ok-of.of c.args.maker.now c.parts.new.maker c.in_ok-parts.parts c.in_ok-of.ensures.is made c.requires in
    search rules

pub construct-returns : goal.construct-returns
construct-returns t c =
    let made = subst (λ ps. AreExpressions c.args.self.now c.args.here.now (expressions_in ps) c.args.maker.now c.parts.new.maker (Ok c.in_ok-parts.parts)) c.deref.ensures.value c.in_ok-parts.ensures in
    own_answers c.args.self.now c.args.here.now c.args.expression.now c.in_ok-shape.shape c.in_ok-shape.ensures c.in_ok-of.of c.args.maker.now c.parts.new.maker c.in_ok-parts.parts c.in_ok-of.ensures.is made c.deref-2.result.now c.deref-2.ensures.value c.own.new.maker c.own.result c.own.ensures.made c.own.ensures.stream c.own.ensures.refused

-- ---- expressions
pub expression-construct-requires : goal.expression-construct-requires
expression-construct-requires t c =
    let e = c.args.expression.now in
    let can = construct_can c.args.self.now c.args.here.now e (unit_alone c.args.self.now c.args.here.now e (place_of e) c.in-Name.name (tree_is e c.node.result.now (node.Name c.in-Name.name) c.in-Name.is c.node.ensures) (sym (c.is_unit.ensures ∙ ap is_unit c.as_str.ensures) ∙ c.if-is_unit.true)) c.requires in
    search rules

pub expression-returns-then-is_unit : goal.expression-returns-then-is_unit
expression-returns-then-is_unit t c =
    let e = c.args.expression.now in
    constructed_is c.args.self.now c.args.here.now e c.args.maker.now c.construct.new.maker c.construct.result (unit_alone c.args.self.now c.args.here.now e (place_of e) c.in-Name.name (tree_is e c.node.result.now (node.Name c.in-Name.name) c.in-Name.is c.node.ensures) (sym (c.is_unit.ensures ∙ ap is_unit c.as_str.ensures) ∙ c.if-is_unit.true)) c.construct.ensures

pub expression-named-requires : goal.expression-named-requires
expression-named-requires t c =
    let e = c.args.expression.now in
    let can = name_can c.args.self.now c.args.here.now e c.in-Name.name (tree_is e c.node.result.now (node.Name c.in-Name.name) c.in-Name.is c.node.ensures) (sym (c.is_unit.ensures ∙ ap is_unit c.as_str.ensures) ∙ c.if-is_unit.false) c.requires in
    search rules

pub expression-returns-else-is_unit : goal.expression-returns-else-is_unit
expression-returns-else-is_unit t c =
    let e = c.args.expression.now in
    named_is c.args.self.now c.args.here.now e c.in-Name.name c.args.maker.now c.named.result (tree_is e c.node.result.now (node.Name c.in-Name.name) c.in-Name.is c.node.ensures) (sym (c.is_unit.ensures ∙ ap is_unit c.as_str.ensures) ∙ c.if-is_unit.false)
    (subst (λ x. IsNamed c.args.self.now c.args.here.now x c.named.result) c.as_str-else-is_unit.ensures c.named.ensures)

pub expression-expression-requires : goal.expression-expression-requires
expression-expression-requires t c =
    let e = c.args.expression.now in
    let f = c.in-Chain.first.value in
    let is = tree_is e c.node.result.now (node.Chain c.in-Chain.level c.in-Chain.first c.in-Chain.links) c.in-Chain.is c.node.ensures in
    let none = none_left _ (length c.in-Chain.links.items) (sym c.is_empty.ensures ∙ c.if-is_empty.true) (omega (arith, c.in-Chain.links.ok.0)) in
    let can = first_can c.args.self.now c.args.here.now e (place_of e) c.in-Chain.level f c.in-Chain.links.items is none c.requires in
    let may : CanMake c.args.self.now c.args.here.now c.deref.result.now = subst (CanMake c.args.self.now c.args.here.now) (sym c.deref.ensures) can in
    let smaller : size_of c.deref.result.now < size_of c.args.expression.now = omega (arith, ap size_of is, ap size_of c.deref.ensures) in
    search rules

pub expression-returns-then-is_empty : goal.expression-returns-then-is_empty
expression-returns-then-is_empty t c =
    let e = c.args.expression.now in
    let f = c.in-Chain.first.value in
    let is = tree_is e c.node.result.now (node.Chain c.in-Chain.level c.in-Chain.first c.in-Chain.links) c.in-Chain.is c.node.ensures in
    let none = none_left _ (length c.in-Chain.links.items) (sym c.is_empty.ensures ∙ c.if-is_empty.true) (omega (arith, c.in-Chain.links.ok.0)) in
    first_is c.args.self.now c.args.here.now e (place_of e) c.in-Chain.level f c.in-Chain.links.items c.args.maker.now c.expression.new.maker c.expression.result is none
    (subst (λ x. IsExpression c.args.self.now c.args.here.now x c.args.maker.now c.expression.new.maker c.expression.result) c.deref.ensures c.expression.ensures)

pub expression-construct-requires-then-is_called : goal.expression-construct-requires-then-is_called
expression-construct-requires-then-is_called t c =
    let e = c.args.expression.now in
    let is = tree_is e c.node.result.now (node.Call c.in-Call.name c.in-Call.arguments) c.in-Call.is c.node.ensures in
    let can = construct_can c.args.self.now c.args.here.now e (own_call_alone c.args.self.now c.args.here.now e (place_of e) c.in-Call.name (exprs_of c.in-Call.arguments.items) is (sym (c.is_called.ensures ∙ ap is_called c.as_str-in-Call.ensures) ∙ c.if-is_called.true)) c.requires in
    search rules

pub expression-returns-then-is_called : goal.expression-returns-then-is_called
expression-returns-then-is_called t c =
    let e = c.args.expression.now in
    let is = tree_is e c.node.result.now (node.Call c.in-Call.name c.in-Call.arguments) c.in-Call.is c.node.ensures in
    constructed_is c.args.self.now c.args.here.now e c.args.maker.now c.construct-then-is_called.new.maker c.construct-then-is_called.result (own_call_alone c.args.self.now c.args.here.now e (place_of e) c.in-Call.name (exprs_of c.in-Call.arguments.items) is (sym (c.is_called.ensures ∙ ap is_called c.as_str-in-Call.ensures) ∙ c.if-is_called.true)) c.construct-then-is_called.ensures

pub expression-call-requires : goal.expression-call-requires
expression-call-requires t c =
    let e = c.args.expression.now in
    let is = tree_is e c.node.result.now (node.Call c.in-Call.name c.in-Call.arguments) c.in-Call.is c.node.ensures in
    let can = call_can c.args.self.now c.args.here.now e c.in-Call.name (exprs_of c.in-Call.arguments.items) c.in-Some.number (meaning (seen c.args.here.now.around.scope.now) c.in-Call.name) is (sym (c.is_called.ensures ∙ ap is_called c.as_str-in-Call.ensures) ∙ c.if-is_called.false) refl
    (ap (λ x. macro_in (meaning (seen c.args.here.now.around.scope.now) x)) (sym c.as_str-in-Call-2.ensures) ∙ sym c.macro_named.ensures ∙ c.in-Some.is) c.requires in
    let may : CanCall c.args.self.now c.args.here.now c.in-Some.number (exprs_of c.deref-in-Some.result.now) =
    subst (λ es. CanCall c.args.self.now c.args.here.now c.in-Some.number (exprs_of es)) (sym c.deref-in-Some.ensures.value) can in
    let smaller : size_of_exprs (exprs_of c.deref-in-Some.result.now) < size_of c.args.expression.now = omega (arith, ap size_of is, ap (λ es. size_of_exprs (exprs_of es)) c.deref-in-Some.ensures.value) in
    search rules

pub expression-returns-in-Some : goal.expression-returns-in-Some
expression-returns-in-Some t c =
    let e = c.args.expression.now in
    let is = tree_is e c.node.result.now (node.Call c.in-Call.name c.in-Call.arguments) c.in-Call.is c.node.ensures in
    called_is c.args.self.now c.args.here.now e c.in-Call.name (exprs_of c.in-Call.arguments.items) c.in-Some.number (meaning (seen c.args.here.now.around.scope.now) c.in-Call.name) c.args.maker.now c.call.new.maker c.call.result is (sym (c.is_called.ensures ∙ ap is_called c.as_str-in-Call.ensures) ∙ c.if-is_called.false) refl
    (ap (λ x. macro_in (meaning (seen c.args.here.now.around.scope.now) x)) (sym c.as_str-in-Call-2.ensures) ∙ sym c.macro_named.ensures ∙ c.in-Some.is)
    (subst (λ es. IsCalled c.args.self.now c.args.here.now c.in-Some.number (exprs_of es) c.args.maker.now c.call.new.maker c.call.result) c.deref-in-Some.ensures.value c.call.ensures)

pub expression-construct-requires-in-None : goal.expression-construct-requires-in-None
expression-construct-requires-in-None t c =
    let e = c.args.expression.now in
    let is = tree_is e c.node.result.now (node.Call c.in-Call.name c.in-Call.arguments) c.in-Call.is c.node.ensures in
    let can = construct_can c.args.self.now c.args.here.now e (other_call_alone c.args.self.now c.args.here.now e (place_of e) c.in-Call.name (exprs_of c.in-Call.arguments.items) (meaning (seen c.args.here.now.around.scope.now) c.in-Call.name) is refl
    (ap (λ x. macro_in (meaning (seen c.args.here.now.around.scope.now) x)) (sym c.as_str-in-Call-2.ensures) ∙ sym c.macro_named.ensures ∙ c.in-None.is)) c.requires in
    search rules

pub expression-returns-in-None : goal.expression-returns-in-None
expression-returns-in-None t c =
    let e = c.args.expression.now in
    let is = tree_is e c.node.result.now (node.Call c.in-Call.name c.in-Call.arguments) c.in-Call.is c.node.ensures in
    constructed_is c.args.self.now c.args.here.now e c.args.maker.now c.construct-in-None.new.maker c.construct-in-None.result (other_call_alone c.args.self.now c.args.here.now e (place_of e) c.in-Call.name (exprs_of c.in-Call.arguments.items) (meaning (seen c.args.here.now.around.scope.now) c.in-Call.name) is refl
    (ap (λ x. macro_in (meaning (seen c.args.here.now.around.scope.now) x)) (sym c.as_str-in-Call-2.ensures) ∙ sym c.macro_named.ensures ∙ c.in-None.is)) c.construct-in-None.ensures

pub expression-construct-requires-in_default : goal.expression-construct-requires-in_default
expression-construct-requires-in_default t c =
    let e = c.args.expression.now in
    let can = construct_can c.args.self.now c.args.here.now e (other_alone c.args.self.now c.args.here.now e c.node.result.now c.node.ensures c.in_default.not-Name c.in_default.not-Chain c.in_default.not-Call) c.requires in
    search rules

pub expression-returns-in_default : goal.expression-returns-in_default
expression-returns-in_default t c =
    let e = c.args.expression.now in
    constructed_is c.args.self.now c.args.here.now e c.args.maker.now c.construct-in_default.new.maker c.construct-in_default.result (other_alone c.args.self.now c.args.here.now e c.node.result.now c.node.ensures c.in_default.not-Name c.in_default.not-Chain c.in_default.not-Call) c.construct-in_default.ensures

-- ---- expressions, one after the other
pub arguments-expression-requires : goal.arguments-expression-requires
arguments-expression-requires t c =
    let may = one_can c.args.self.now c.args.here.now c.args.arguments.now c.loop-argument.argument-index c.argument-item.result c.loop-argument-test.true c.argument-item.is c.requires in
    let smaller = argument_smaller c.args.arguments.now c.loop-argument.argument-index c.argument-item.result c.loop-argument-test.true c.argument-item.is in
    search rules

pub arguments-loop-argument-preserved : goal.arguments-loop-argument-preserved
arguments-loop-argument-preserved t c =
    subst (AreBegun c.args.self.now c.args.here.now c.args.arguments.now (c.loop-argument.argument-index + 1) c.args.maker.now c.expression.new.maker) (sym c.in_ok-push.ensures.items)
    (one_more c.args.self.now c.args.here.now c.args.arguments.now c.loop-argument.argument-index c.argument-item.result c.loop-argument-test.true c.argument-item.is c.args.maker.now c.loop-argument.maker c.expression.new.maker c.loop-argument.streams.items c.in_ok-stream.stream c.loop-argument.invariant c.in_ok-stream.ensures)

pub arguments-returns-in_err-stream : goal.arguments-returns-in_err-stream
arguments-returns-in_err-stream t c =
    let is : c.from_residual.result ≡ Err c.in_err-stream.field-0.0 = search rules in
    subst (AreExpressions c.args.self.now c.args.here.now c.args.arguments.now c.args.maker.now c.expression.new.maker) (sym is)
    (one_refused c.args.self.now c.args.here.now c.args.arguments.now c.loop-argument.argument-index c.argument-item.result c.loop-argument-test.true c.argument-item.is c.args.maker.now c.loop-argument.maker c.expression.new.maker c.loop-argument.streams.items c.in_err-stream.field-0.0 c.loop-argument.invariant c.in_err-stream.ensures)

pub arguments-returns : goal.arguments-returns
arguments-returns t c =
    all_made c.args.self.now c.args.here.now c.args.arguments.now c.loop-argument.argument-index c.args.maker.now c.loop-argument.maker c.loop-argument.streams c.loop-argument-test.false c.loop-argument.invariant

pub parts-expression-requires : goal.parts-expression-requires
parts-expression-requires t c =
    let there = shown_at c.args.parts.now c.loop-part.part-index c.part-item.result c.loop-part-test.true c.part-item.is in
    let may = one_can c.args.self.now c.args.here.now (expressions_in c.args.parts.now) c.loop-part.part-index c.part-item.result.now there.0 there.1 c.requires in
    let smaller = one_within (expressions_in c.args.parts.now) c.loop-part.part-index c.part-item.result.now there.0 there.1 in
    search rules

pub parts-loop-part-preserved : goal.parts-loop-part-preserved
parts-loop-part-preserved t c =
    let there = shown_at c.args.parts.now c.loop-part.part-index c.part-item.result c.loop-part-test.true c.part-item.is in
    subst (AreBegun c.args.self.now c.args.here.now (expressions_in c.args.parts.now) (c.loop-part.part-index + 1) c.args.maker.now c.expression.new.maker) (sym c.in_ok-push.ensures.items)
    (one_more c.args.self.now c.args.here.now (expressions_in c.args.parts.now) c.loop-part.part-index c.part-item.result.now there.0 there.1 c.args.maker.now c.loop-part.maker c.expression.new.maker c.loop-part.streams.items c.in_ok-stream.stream c.loop-part.invariant c.in_ok-stream.ensures)

pub parts-returns-in_err-stream : goal.parts-returns-in_err-stream
parts-returns-in_err-stream t c =
    let there = shown_at c.args.parts.now c.loop-part.part-index c.part-item.result c.loop-part-test.true c.part-item.is in
    let is : c.from_residual.result ≡ Err c.in_err-stream.field-0.0 = search rules in
    subst (AreExpressions c.args.self.now c.args.here.now (expressions_in c.args.parts.now) c.args.maker.now c.expression.new.maker) (sym is)
    (one_refused c.args.self.now c.args.here.now (expressions_in c.args.parts.now) c.loop-part.part-index c.part-item.result.now there.0 there.1 c.args.maker.now c.loop-part.maker c.expression.new.maker c.loop-part.streams.items c.in_err-stream.field-0.0 c.loop-part.invariant c.in_err-stream.ensures)

pub parts-returns : goal.parts-returns
parts-returns t c =
    all_made c.args.self.now c.args.here.now (expressions_in c.args.parts.now) c.loop-part.part-index c.args.maker.now c.loop-part.maker c.loop-part.streams (past c.args.parts.now c.loop-part.part-index c.loop-part-test.false) c.loop-part.invariant

-- ---- blocks
pub block-body-requires : goal.block-body-requires
block-body-requires t c =
    let d = c.definition-item.result in
    let same : c.result_of.result.now ≡ result_of (local_body c.definition-item.result) = c.result_of.ensures ∙ ap (λ (x : tree.Definition). result_of (local_body x)) c.parts.ensures.is in
    let may : CanMake c.args.self.now c.args.here.now c.result_of.result.now =
    subst (CanMake c.args.self.now c.args.here.now) (sym same) (body_can c.args.self.now c.args.here.now c.args.definitions.now c.loop-definition.definition-index d c.loop-definition-test.true c.definition-item.is c.requires) in
    let smaller : size_of c.result_of.result.now ≤ block_weight (definitions_of c.args.definitions.now) =
    omega (arith, ap size_of same, definition_lighter c.args.definitions.now c.loop-definition.definition-index d c.loop-definition-test.true c.definition-item.is) in
    search rules

pub block-loop-definition-preserved : goal.block-loop-definition-preserved
block-loop-definition-preserved t c =
    let same : c.result_of.result.now ≡ result_of (local_body c.definition-item.result) = c.result_of.ensures ∙ ap (λ (x : tree.Definition). result_of (local_body x)) c.parts.ensures.is in
    body_more c.args.self.now c.args.here.now c.args.definitions.now c.loop-definition.definition-index c.definition-item.result c.loop-definition-test.true c.definition-item.is c.args.maker.now c.loop-definition.maker c.body.new.maker c.in_ok-_stream._stream c.loop-definition.invariant
    (subst (λ e. IsBody c.args.self.now c.args.here.now e c.loop-definition.maker c.body.new.maker (Ok c.in_ok-_stream._stream)) same c.in_ok-_stream.ensures)

pub block-returns-in_err-_stream : goal.block-returns-in_err-_stream
block-returns-in_err-_stream t c =
    let same : c.result_of.result.now ≡ result_of (local_body c.definition-item.result) = c.result_of.ensures ∙ ap (λ (x : tree.Definition). result_of (local_body x)) c.parts.ensures.is in
    let is : c.from_residual.result ≡ Err c.in_err-_stream.field-0.0 = search rules in
    subst (IsBlock c.args.self.now c.args.here.now (definitions_of c.args.definitions.now) c.args.maker.now c.body.new.maker) (sym is)
    (body_refused c.args.self.now c.args.here.now c.args.definitions.now c.loop-definition.definition-index c.definition-item.result c.loop-definition-test.true c.definition-item.is c.args.maker.now c.loop-definition.maker c.body.new.maker c.in_err-_stream.field-0.0 c.loop-definition.invariant
    (subst (λ e. IsBody c.args.self.now c.args.here.now e c.loop-definition.maker c.body.new.maker (Err c.in_err-_stream.field-0.0)) same c.in_err-_stream.ensures))

pub block-returns : goal.block-returns
block-returns t c =
    block_done c.args.self.now c.args.here.now c.args.definitions.now c.loop-definition.definition-index c.args.maker.now c.loop-definition.maker tt c.loop-definition-test.false c.loop-definition.invariant

-- ---- chains
pub chain-side-requires : goal.chain-side-requires
chain-side-requires t c =
    let may = linked.first_can c.args.self.now c.args.here.now c.args.place c.args.level c.args.first.now c.args.links.now c.requires.some c.requires.may in
    search rules

pub chain-returns-in_err-left : goal.chain-returns-in_err-left
chain-returns-in_err-left t c =
    let is : c.from_residual.result ≡ Err c.in_err-left.field-0.0 = search rules in
    subst (IsExpression c.args.self.now c.args.here.now (tree.Chain c.args.place c.args.level c.args.first.now (links_in c.args.links.now)) c.args.maker.now c.side.new.maker) (sym is)
    (linked.none_begun c.args.self.now c.args.here.now c.args.place c.args.level c.args.first.now c.args.links.now c.args.maker.now c.side.new.maker c.in_err-left.field-0.0 c.requires.some c.in_err-left.ensures)

pub chain-loop-link-init : goal.chain-loop-link-init
chain-loop-link-init t c =
    linked.begun c.args.self.now c.args.here.now c.args.place c.args.level c.args.first.now c.args.links.now c.args.maker.now c.side.new.maker c.in_ok-left.left c.requires.some c.in_ok-left.ensures

pub chain-side-requires-in-loop-link : goal.chain-side-requires-in-loop-link
chain-side-requires-in-loop-link t c =
    let may = linked.operand_can c.args.self.now c.args.here.now c.args.place c.args.level c.args.first.now c.args.links.now c.loop-link.link-index c.link-item.result c.loop-link-test.true c.link-item.is c.requires.may in
    let smaller = link_smaller c.args.links.now c.loop-link.link-index c.link-item.result c.loop-link-test.true c.link-item.is in
    search rules

pub chain-returns-in_err-right : goal.chain-returns-in_err-right
chain-returns-in_err-right t c =
    let is : c.from_residual-in_err-right.result ≡ Err c.in_err-right.field-0.0 = search rules in
    subst (IsExpression c.args.self.now c.args.here.now (tree.Chain c.args.place c.args.level c.args.first.now (links_in c.args.links.now)) c.args.maker.now c.side-in-loop-link.new.maker) (sym is)
    (linked.operand_refused c.args.self.now c.args.here.now c.args.place c.args.level c.args.first.now c.args.links.now c.loop-link.link-index c.link-item.result c.loop-link-test.true c.link-item.is c.args.maker.now c.loop-link.maker c.side-in-loop-link.new.maker c.loop-link.left c.in_err-right.field-0.0 c.loop-link.invariant c.in_err-right.ensures)

pub chain-lift-requires : goal.chain-lift-requires
chain-lift-requires t c =
    linked.link_may c.args.self.now c.args.here.now c.args.place c.args.level c.args.first.now c.args.links.now c.loop-link.link-index c.link-item.result c.loop-link-test.true c.link-item.is c.args.maker.now c.loop-link.maker c.side-in-loop-link.new.maker c.loop-link.left c.in_ok-right.right c.loop-link.invariant c.in_ok-right.ensures c.requires.may

pub chain-loop-link-preserved : goal.chain-loop-link-preserved
chain-loop-link-preserved t c =
    linked.link_next c.args.self.now c.args.here.now c.args.place c.args.level c.args.first.now c.args.links.now c.loop-link.link-index c.link-item.result c.loop-link-test.true c.link-item.is c.args.maker.now c.loop-link.maker c.side-in-loop-link.new.maker c.loop-link.left c.in_ok-right.right c.loop-link.invariant c.in_ok-right.ensures c.lift.new.maker c.in_ok-stream.stream c.in_ok-stream.ensures.made c.in_ok-stream.ensures.stream

pub chain-returns-in_err-stream : goal.chain-returns-in_err-stream
chain-returns-in_err-stream t c =
    let is : c.from_residual-in_err-stream.result ≡ Err c.in_err-stream.field-0.0 = search rules in
    subst (IsExpression c.args.self.now c.args.here.now (tree.Chain c.args.place c.args.level c.args.first.now (links_in c.args.links.now)) c.args.maker.now c.lift.new.maker) (sym is)
    (linked.link_stopped c.args.self.now c.args.here.now c.args.place c.args.level c.args.first.now c.args.links.now c.loop-link.link-index c.link-item.result c.loop-link-test.true c.link-item.is c.args.maker.now c.loop-link.maker c.side-in-loop-link.new.maker c.loop-link.left c.in_ok-right.right c.loop-link.invariant c.in_ok-right.ensures c.lift.new.maker c.in_err-stream.field-0.0 c.in_err-stream.ensures.refused)

pub chain-unreachable-requires : goal.chain-unreachable-requires
chain-unreachable-requires t c =
    linked.no_literal c.args.self.now c.args.here.now c.args.place c.args.level c.args.first.now c.args.links.now c.loop-link.link-index c.loop-link-test.false c.requires.some c.args.maker.now c.loop-link.maker c.loop-link.left c.in-Fixed.field-0 c.in-Fixed.is c.loop-link.invariant c.requires.may

pub chain-returns : goal.chain-returns
chain-returns t c =
    linked.chain_made c.args.self.now c.args.here.now c.args.place c.args.level c.args.first.now c.args.links.now c.loop-link.link-index c.loop-link-test.false c.requires.some c.args.maker.now c.loop-link.maker c.loop-link.left c.in-Varying.stream c.in-Varying.is c.loop-link.invariant

-- ---- inside of a call
pub inside-body-requires : goal.inside-body-requires
inside-body-requires t c =
    let smaller : size_of c.in-Plain.result < body_weight (code.body_of c.args.parts.now.body) + 1 = omega (arith, ap (λ b. body_weight (code.body_of b)) c.in-Plain.is) in (
      search rules,
      plain_can c.args.self.now c.args.number c.args.params.now c.args.deep c.requires.entry c.requires.entered c.requires.place c.args.parts.now c.requires.is_item c.in-Plain.result (ap code.body_of c.in-Plain.is) _
          (record { items_are = refl; kinds_are = refl; setting_is = refl; number_is = refl; params_are = c.as_slice-written.ensures.value })
          (record { written = c.as_slice-written.result.now; level = c.in_ok-parameters.field-0; outers = c.around-outer.result; written_is = c.as_slice-written.ensures.value; agrees = c.in_ok-parameters.ensures; around = c.around-outer.ensures; levels_are = c.inner-scope.ensures })
          refl refl refl,
    )

pub inside-returns-in-Plain : goal.inside-returns-in-Plain
inside-returns-in-Plain t c = record {
  at = λ entry p is entered.
      plain_answer c.args.self.now c.args.number c.args.params.now c.args.deep entry entered p c.args.parts.now is c.in-Plain.result (ap code.body_of c.in-Plain.is) _
      (record { items_are = refl; kinds_are = refl; setting_is = refl; number_is = refl; params_are = c.as_slice-written.ensures.value })
      (record { written = c.as_slice-written.result.now; level = c.in_ok-parameters.field-0; outers = c.around-outer.result; written_is = c.as_slice-written.ensures.value; agrees = c.in_ok-parameters.ensures; around = c.around-outer.ensures; levels_are = c.inner-scope.ensures })
      refl refl refl c.args.maker.now c.body.new.maker c.body.result c.body.ensures;
}

pub inside-locals-requires-in-Block-clause-streams : goal.inside-locals-requires-in-Block-clause-streams
inside-locals-requires-in-Block-clause-streams t c =
    subst (λ ds. AreStreams (kinds_of c.within-around.result.kinds.now) c.within-around.result.number (length ds)) (sym c.deref-in-Block.ensures.value)
    (streams_there c.args.self.now c.args.number c.args.params.now c.args.deep c.requires.entry c.requires.entered c.requires.place c.args.parts.now c.requires.is_item c.in-Block.definitions.items c.in-Block.result (ap code.body_of c.in-Block.is) c.within-around.result
    (record {
      outside = record {
        items = c.args.self.now.items;
        kinds = c.args.self.now.kinds;
        scope = record { ref_ptr = c.args.parts.ref_ptr; now = c.inner-scope.result };
        setting = setting.Streams;
        number = c.args.number;
        params = c.as_slice-written.result;
      };
      there = (record { items_are = refl; kinds_are = refl; setting_is = refl; number_is = refl; params_are = c.as_slice-written.ensures.value });
      levels = c.inner-block.result;
      inner = record {
        shown = c.deref.result.now;
        level = c.in_ok-locals-in-Block.field-0;
        outers = c.inner-scope.result;
        shown_is = c.deref.ensures.value;
        agrees = c.in_ok-locals-in-Block.ensures;
        outer = record { written = c.as_slice-written.result.now; level = c.in_ok-parameters.field-0; outers = c.around-outer.result; written_is = c.as_slice-written.ensures.value; agrees = c.in_ok-parameters.ensures; around = c.around-outer.ensures; levels_are = c.inner-scope.ensures };
        levels_are = c.inner-block.ensures;
      };
      is = c.within-around.ensures;
    }))

pub inside-returns-in_err-locals-in-Block-2 : goal.inside-returns-in_err-locals-in-Block-2
inside-returns-in_err-locals-in-Block-2 t c =
    let back = err_from_is_err_and c.from_residual-in_err-locals-in-Block-2.result c.from_residual-in_err-locals-in-Block-2.ensures.1 in
    let is : c.from_residual-in_err-locals-in-Block-2.result ≡ Err c.in_err-locals-in-Block-2.field-0.0 = back.1 ∙ ap Err back.2 in
    subst (IsInside c.args.self.now c.args.number (definition_of c.args.parts.now) c.args.params.now c.args.deep c.args.maker.now c.args.maker.now) (sym (is ∙ ap Err c.in_err-locals-in-Block-2.ensures.memory))
    (record { at = λ entry p is entered. tt })

pub inside-block-requires : goal.inside-block-requires
inside-block-requires t c =
    let smaller : block_weight (definitions_of c.deref-in-Block-3.result.now) ≤ body_weight (code.body_of c.args.parts.now.body) =
    omega (arith, ap (λ b. body_weight (code.body_of b)) c.in-Block.is, ap (λ ds. block_weight (definitions_of ds)) c.deref-in-Block-3.ensures.value) in (
      search rules,
      block_can c.args.self.now c.args.number c.args.params.now c.args.deep c.requires.entry c.requires.entered c.requires.place c.args.parts.now c.requires.is_item c.deref-in-Block-3.result.now c.in-Block.result
          (ap code.body_of c.in-Block.is ∙ ap (λ ds. tree.Block (definitions_of ds) c.in-Block.result) (sym c.deref-in-Block-3.ensures.value))
          c.count.result c.in_ok-locals-in-Block-2.locals.items _
          (record {
            outside = record {
              items = c.args.self.now.items;
              kinds = c.args.self.now.kinds;
              scope = record { ref_ptr = c.args.parts.ref_ptr; now = c.inner-scope.result };
              setting = setting.Streams;
              number = c.args.number;
              params = c.as_slice-written.result;
            };
            there = (record { items_are = refl; kinds_are = refl; setting_is = refl; number_is = refl; params_are = c.as_slice-written.ensures.value });
            levels = c.inner-block.result;
            inner = record {
              shown = c.deref.result.now;
              level = c.in_ok-locals-in-Block.field-0;
              outers = c.inner-scope.result;
              shown_is = c.deref.ensures.value ∙ sym c.deref-in-Block-3.ensures.value;
              agrees = c.in_ok-locals-in-Block.ensures;
              outer = record { written = c.as_slice-written.result.now; level = c.in_ok-parameters.field-0; outers = c.around-outer.result; written_is = c.as_slice-written.ensures.value; agrees = c.in_ok-parameters.ensures; around = c.around-outer.ensures; levels_are = c.inner-scope.ensures };
              levels_are = c.inner-block.ensures;
            };
            is = c.within-around.ensures;
          })
          (subst (λ ds. AreNumbered to_enough (around_of c.within-around.result) (macro_marks (map item_of c.args.self.now.items.now) (kinds_of c.args.self.now.kinds.now) c.args.deep) zero c.count.result (definitions_of ds) c.in_ok-locals-in-Block-2.locals.items)
          (c.deref-in-Block.ensures.value ∙ sym c.deref-in-Block-3.ensures.value) c.in_ok-locals-in-Block-2.ensures.numbered)
          refl c.deref-in-Block-2.ensures.value refl,
    )

pub inside-returns-in_err-block-in-Block : goal.inside-returns-in_err-block-in-Block
inside-returns-in_err-block-in-Block t c =
    let back = err_from_is_err_and c.from_residual-in_err-block-in-Block.result c.from_residual-in_err-block-in-Block.ensures.1 in
    let is : c.from_residual-in_err-block-in-Block.result ≡ Err c.in_err-block-in-Block.field-0.0 = back.1 ∙ ap Err back.2 in
    subst (IsInside c.args.self.now c.args.number (definition_of c.args.parts.now) c.args.params.now c.args.deep c.args.maker.now c.block-in-Block.new.maker) (sym is)
    (record {
      at = λ entry p is entered.
          block_stopped c.args.self.now c.args.number c.args.params.now c.args.deep entry entered p c.args.parts.now is c.deref-in-Block-3.result.now c.in-Block.result
          (ap code.body_of c.in-Block.is ∙ ap (λ ds. tree.Block (definitions_of ds) c.in-Block.result) (sym c.deref-in-Block-3.ensures.value))
          c.count.result c.in_ok-locals-in-Block-2.locals.items _
          (record {
            outside = record {
              items = c.args.self.now.items;
              kinds = c.args.self.now.kinds;
              scope = record { ref_ptr = c.args.parts.ref_ptr; now = c.inner-scope.result };
              setting = setting.Streams;
              number = c.args.number;
              params = c.as_slice-written.result;
            };
            there = (record { items_are = refl; kinds_are = refl; setting_is = refl; number_is = refl; params_are = c.as_slice-written.ensures.value });
            levels = c.inner-block.result;
            inner = record {
              shown = c.deref.result.now;
              level = c.in_ok-locals-in-Block.field-0;
              outers = c.inner-scope.result;
              shown_is = c.deref.ensures.value ∙ sym c.deref-in-Block-3.ensures.value;
              agrees = c.in_ok-locals-in-Block.ensures;
              outer = record { written = c.as_slice-written.result.now; level = c.in_ok-parameters.field-0; outers = c.around-outer.result; written_is = c.as_slice-written.ensures.value; agrees = c.in_ok-parameters.ensures; around = c.around-outer.ensures; levels_are = c.inner-scope.ensures };
              levels_are = c.inner-block.ensures;
            };
            is = c.within-around.ensures;
          })
          (subst (λ ds. AreNumbered to_enough (around_of c.within-around.result) (macro_marks (map item_of c.args.self.now.items.now) (kinds_of c.args.self.now.kinds.now) c.args.deep) zero c.count.result (definitions_of ds) c.in_ok-locals-in-Block-2.locals.items)
          (c.deref-in-Block.ensures.value ∙ sym c.deref-in-Block-3.ensures.value) c.in_ok-locals-in-Block-2.ensures.numbered)
          refl c.deref-in-Block-2.ensures.value refl
          c.args.maker.now c.block-in-Block.new.maker c.block-in-Block.new.maker c.in_err-block-in-Block.field-0.0 c.in_err-block-in-Block.ensures;
    })

pub inside-body-requires-in-Block : goal.inside-body-requires-in-Block
inside-body-requires-in-Block t c =
    let smaller : size_of c.in-Block.result ≤ body_weight (code.body_of c.args.parts.now.body) = omega (arith, ap (λ b. body_weight (code.body_of b)) c.in-Block.is) in (
      search rules,
      final_can c.args.self.now c.args.number c.args.params.now c.args.deep c.requires.entry c.requires.entered c.requires.place c.args.parts.now c.requires.is_item c.deref-in-Block-3.result.now c.in-Block.result
          (ap code.body_of c.in-Block.is ∙ ap (λ ds. tree.Block (definitions_of ds) c.in-Block.result) (sym c.deref-in-Block-3.ensures.value))
          c.count.result c.in_ok-locals-in-Block-2.locals.items _
          (record {
            outside = record {
              items = c.args.self.now.items;
              kinds = c.args.self.now.kinds;
              scope = record { ref_ptr = c.args.parts.ref_ptr; now = c.inner-scope.result };
              setting = setting.Streams;
              number = c.args.number;
              params = c.as_slice-written.result;
            };
            there = (record { items_are = refl; kinds_are = refl; setting_is = refl; number_is = refl; params_are = c.as_slice-written.ensures.value });
            levels = c.inner-block.result;
            inner = record {
              shown = c.deref.result.now;
              level = c.in_ok-locals-in-Block.field-0;
              outers = c.inner-scope.result;
              shown_is = c.deref.ensures.value ∙ sym c.deref-in-Block-3.ensures.value;
              agrees = c.in_ok-locals-in-Block.ensures;
              outer = record { written = c.as_slice-written.result.now; level = c.in_ok-parameters.field-0; outers = c.around-outer.result; written_is = c.as_slice-written.ensures.value; agrees = c.in_ok-parameters.ensures; around = c.around-outer.ensures; levels_are = c.inner-scope.ensures };
              levels_are = c.inner-block.ensures;
            };
            is = c.within-around.ensures;
          })
          (subst (λ ds. AreNumbered to_enough (around_of c.within-around.result) (macro_marks (map item_of c.args.self.now.items.now) (kinds_of c.args.self.now.kinds.now) c.args.deep) zero c.count.result (definitions_of ds) c.in_ok-locals-in-Block-2.locals.items)
          (c.deref-in-Block.ensures.value ∙ sym c.deref-in-Block-3.ensures.value) c.in_ok-locals-in-Block-2.ensures.numbered)
          refl c.deref-in-Block-2.ensures.value refl,
    )

pub inside-returns : goal.inside-returns
inside-returns t c = record {
  at = λ entry p is entered.
      final_answer c.args.self.now c.args.number c.args.params.now c.args.deep entry entered p c.args.parts.now is c.deref-in-Block-3.result.now c.in-Block.result
      (ap code.body_of c.in-Block.is ∙ ap (λ ds. tree.Block (definitions_of ds) c.in-Block.result) (sym c.deref-in-Block-3.ensures.value))
      c.count.result c.in_ok-locals-in-Block-2.locals.items _
      (record {
        outside = record {
          items = c.args.self.now.items;
          kinds = c.args.self.now.kinds;
          scope = record { ref_ptr = c.args.parts.ref_ptr; now = c.inner-scope.result };
          setting = setting.Streams;
          number = c.args.number;
          params = c.as_slice-written.result;
        };
        there = (record { items_are = refl; kinds_are = refl; setting_is = refl; number_is = refl; params_are = c.as_slice-written.ensures.value });
        levels = c.inner-block.result;
        inner = record {
          shown = c.deref.result.now;
          level = c.in_ok-locals-in-Block.field-0;
          outers = c.inner-scope.result;
          shown_is = c.deref.ensures.value ∙ sym c.deref-in-Block-3.ensures.value;
          agrees = c.in_ok-locals-in-Block.ensures;
          outer = record { written = c.as_slice-written.result.now; level = c.in_ok-parameters.field-0; outers = c.around-outer.result; written_is = c.as_slice-written.ensures.value; agrees = c.in_ok-parameters.ensures; around = c.around-outer.ensures; levels_are = c.inner-scope.ensures };
          levels_are = c.inner-block.ensures;
        };
        is = c.within-around.ensures;
      })
      (subst (λ ds. AreNumbered to_enough (around_of c.within-around.result) (macro_marks (map item_of c.args.self.now.items.now) (kinds_of c.args.self.now.kinds.now) c.args.deep) zero c.count.result (definitions_of ds) c.in_ok-locals-in-Block-2.locals.items)
      (c.deref-in-Block.ensures.value ∙ sym c.deref-in-Block-3.ensures.value) c.in_ok-locals-in-Block-2.ensures.numbered)
      refl c.deref-in-Block-2.ensures.value refl
      c.args.maker.now c.block-in-Block.new.maker c.in_ok-block-in-Block.field-0 c.in_ok-block-in-Block.ensures c.count.ensures.count (omega (arith, c.count-in-Block.ensures.count, c.count-in-Block.ensures.few)) c.body-in-Block.new.maker c.body-in-Block.result c.body-in-Block.ensures;
}
