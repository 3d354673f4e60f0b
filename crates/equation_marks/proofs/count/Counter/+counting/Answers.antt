use Rattle.std.proofs.Common.{◌≡◌, suc, ◌-◌, ◌≤◌, min, List, [], ◌∷◌, map, refl, rules, sym, ap, ◌∙◌, arith}
use Rattle.std.specs.List.{flat_map, filter}
use Rattle.std.proofs.lemmas.List.{nil_from_length}
use Rattle.std.proofs.lemmas.Result.{IfOk-weaker}
use Rattle.tsl_value.specs.declared.place.Place.{Place}
use Rattle.syntax_tree.specs.Tree as tree
use Rattle.syntax_tree.specs.Tree.{Expr, Definition, place_of}
use Rattle.syntax_tree.specs.declared.tree.Level.{Level}
use Rattle.syntax_tree.specs.inner.OneLevel.{expr_of, exprs_of, links_in, item_of, definitions_of, params_in, size_of, size_of_exprs}
use Rattle.syntax_tree.specs.inner.OneLevel as code
use Rattle.syntax_tree.specs.Counts.{counts}
use Rattle.name_check.specs.Scope.{seen}
use Rattle.name_check.specs.inner.Steps.{local_body}
use Rattle.syntax_tree.proofs.Sizes.{argument_smaller, link_smaller}
use Rattle.expr_types.specs.inner.Shown.{around_of, kinds_of}
use Rattle.spec_meaning.specs.Occurrence.{result_of}
use Rattle.spec_meaning.specs.Shape.{is_part}
use Rattle.equation_marks.specs.Marks.{marks, link_marks, body_marks, varying_count}
use Rattle.equation_marks.specs.inner.Counted.{counted, choice_count, dotted_count, signal_count}
use Rattle.equation_marks.specs.inner.Counters.{calls_of}
use Rattle.equation_marks.specs.inner.Calls.{callee_marks}
use Rattle.equation_marks.proofs.CallPartsLemmas.{small_parts}
use Rattle.equation_marks.proofs.Weights.{items_weight, block_weight, body_weight, definition_lighter, body_within, one_call}
use Rattle.equation_marks.proofs.CountLemmas.{call_counted, no_more, alone_counted, chain_counted, link_counted, links_counted, if_equal, if_at, if_each, same_operand, if_counted, compare_counted, dotted_counted}
use Rattle.equation_marks.proofs.InsideLemmas.{inside_at, inside_counted, block_counted}
use Rattle.equation_marks.proofs.count.Counter.+counting.Goals as goal
use Rattle.equation_marks.specs.declared.own.TheConstants.{ENOUGH}

-- ---- parts are smaller
pub all-expression-requires : goal.all-expression-requires
all-expression-requires t c =
    let smaller = argument_smaller c.args.expressions.now c.loop-expression.expression-index c.expression-item.result c.loop-expression-test.true c.expression-item.is in
    search rules

pub operands-operand-requires : goal.operands-operand-requires
operands-operand-requires t c =
    let smaller = argument_smaller c.args.operands.now c.loop-operand.operand-index c.operand-item.result c.loop-operand-test.true c.operand-item.is in
    search rules

pub links-operand-requires : goal.links-operand-requires
links-operand-requires t c =
    let smaller = link_smaller c.args.links.now c.loop-link.link-index c.link-item.result c.loop-link-test.true c.link-item.is in
    search rules

pub block-body-requires : goal.block-body-requires
block-body-requires t c =
    let d = c.definition-item.result in
    let same : size_of c.result_of.result.now ≡ size_of (result_of (local_body d)) =
    ap size_of c.result_of.ensures ∙ ap (λ (x : Definition). size_of (result_of (local_body x))) c.parts.ensures.is in
    let lighter = definition_lighter c.args.definitions.now c.loop-definition.definition-index d c.loop-definition-test.true c.definition-item.is in
    let smaller : size_of c.result_of.result.now ≤ block_weight (definitions_of c.args.definitions.now) = omega (arith, same, lighter) in
    search rules

pub call-all-requires : goal.call-all-requires
call-all-requires t c =
    let small = small_parts (seen c.args.at.now.scope.now) c.args.name.now c.args.arguments.now in
    let same = ap (λ (l : List Expr). size_of_exprs (exprs_of l)) c.call_parts-parts.ensures.streams in
    let smaller : size_of_exprs (exprs_of c.call_parts-parts.result.streams.now) ≤ size_of_exprs (exprs_of c.args.arguments.now) = omega (arith, same, small.streams) in
    search rules

pub call-operands-requires : goal.call-operands-requires
call-operands-requires t c =
    let small = small_parts (seen c.args.at.now.scope.now) c.args.name.now c.args.arguments.now in
    let same = ap (λ (l : List Expr). size_of_exprs (exprs_of l)) c.call_parts-parts.ensures.operands in
    let smaller : size_of_exprs (exprs_of c.call_parts-parts.result.operands.now) ≤ size_of_exprs (exprs_of c.args.arguments.now) = omega (arith, same, small.operands) in
    search rules

pub callee_count-inside-requires : goal.callee_count-inside-requires
callee_count-inside-requires t c =
    let items = map item_of c.args.self.now.items.now in
    let b = code.body_of c.in-Some.parts.now.body in
    let within = body_within items c.args.number b c.in-Some.ensures.body_is in
    let smaller = one_call c.args.deep (items_weight items) (body_weight b) within c.if-deep-eq0.false in
    search rules

-- ---- expressions
pub expression-returns-in_ok-count-in-If-3 : goal.expression-returns-in_ok-count-in-If-3
expression-returns-in_ok-count-in-If-3 t c =
    let at = around_of c.args.at.now in
    let call = calls_of c.args.self.now c.args.deep in
    let e = c.args.expression.now in
    let yes = c.in-If.yes.value in
    let no = c.in-If.no.value in
    let condition = c.in-If.condition.value in
    let is : tree.If (place_of e) condition yes no ≡ e = ap (expr_of (place_of e)) (sym c.in-If.is) ∙ c.node.ensures in
    let own = c.choice-own.ensures ∙ (λ i. min (choice_count (c.in_ok-is_aggregate-in-If.ensures i) (c.deref.ensures i ∷ c.deref-in-If.ensures i ∷ c.deref-in-If-2.ensures i ∷ [])) ENOUGH) in
    if_counted at call (place_of e) e condition yes no c.args.count _ _ _ c.choice-own.result c.more.result is
    (same_operand at call _ _ _ _ c.in_ok-count-in-If.ensures c.deref-in-If-3.ensures)
    (same_operand at call _ _ _ _ c.in_ok-count-in-If-2.ensures c.deref-in-If-4.ensures)
    (same_operand at call _ _ _ _ c.in_ok-count-in-If-3.ensures c.deref-in-If-5.ensures) own c.more.ensures

pub expression-returns-in_ok-count-in-Compare-2 : goal.expression-returns-in_ok-count-in-Compare-2
expression-returns-in_ok-count-in-Compare-2 t c =
    let at = around_of c.args.at.now in
    let call = calls_of c.args.self.now c.args.deep in
    let e = c.args.expression.now in
    let left = c.in-Compare.left.value in
    let right = c.in-Compare.right.value in
    let is : tree.Compare (place_of e) c.in-Compare.field-0 left right ≡ e = ap (expr_of (place_of e)) (sym c.in-Compare.is) ∙ c.node.ensures in
    let own = c.signal_of_two.ensures ∙ (λ i. min (signal_count (varying_count (c.deref-in-Compare-3.ensures i ∷ c.deref-in-Compare-4.ensures i ∷ []))) ENOUGH) in
    compare_counted at call (place_of e) c.in-Compare.field-0 e left right c.args.count _ _ c.signal_of_two.result c.more-in-Compare.result is
    (same_operand at call _ _ _ _ c.in_ok-count-in-Compare.ensures c.deref-in-Compare.ensures)
    (same_operand at call _ _ _ _ c.in_ok-count-in-Compare-2.ensures c.deref-in-Compare-2.ensures) own c.more-in-Compare.ensures

pub expression-returns-in-Call : goal.expression-returns-in-Call
expression-returns-in-Call t c =
    let at = around_of c.args.at.now in
    let call = calls_of c.args.self.now c.args.deep in
    let e = c.args.expression.now in
    let is : tree.Call (place_of e) c.in-Call.name (exprs_of c.in-Call.arguments.items) ≡ e = ap (expr_of (place_of e)) (sym c.in-Call.is) ∙ c.node.ensures in
    if_at c.call.result (λ (p : Place). counted c.args.count (marks at call (tree.Call p c.as_str-in-Call.result.now (exprs_of c.deref-in-Call.result.now)))) (place_of e) (counted c.args.count (marks at call e))
    ((λ i. counted c.args.count (marks at call (tree.Call (place_of e) (c.as_str-in-Call.ensures i) (exprs_of (c.deref-in-Call.ensures.value i))))) ∙ ap (λ v. counted c.args.count (marks at call v)) is)
    c.call.ensures

pub expression-returns-in_ok-count-in-CallDotted : goal.expression-returns-in_ok-count-in-CallDotted
expression-returns-in_ok-count-in-CallDotted t c =
    let at = around_of c.args.at.now in
    let call = calls_of c.args.self.now c.args.deep in
    let e = c.args.expression.now in
    let es = c.in-CallDotted.arguments.items in
    let is : tree.CallDotted (place_of e) c.in-CallDotted.function (exprs_of es) ≡ e = ap (expr_of (place_of e)) (sym c.in-CallDotted.is) ∙ c.node.ensures in
    dotted_counted at call (place_of e) c.in-CallDotted.function e es c.args.count _ c.dotted_over.result c.more-in-CallDotted.result is
    (c.in_ok-count-in-CallDotted.ensures ∙ ap (λ l. counted c.args.count (flat_map (marks at call) (filter is_part l))) c.deref-in-CallDotted.ensures.value)
    (c.dotted_over.ensures ∙ ap (λ l. min (dotted_count c.in-CallDotted.function l) ENOUGH) c.deref-in-CallDotted-2.ensures.value)
    c.more-in-CallDotted.ensures

-- ---- chains
pub chain-returns-in-None : goal.chain-returns-in-None
chain-returns-in-None t c =
    let at = around_of c.args.at.now in
    let call = calls_of c.args.self.now c.args.deep in
    let none = sym (nil_from_length c.args.links.now c.in-None.ensures.cases) in
    let a = counted c.args.count (marks at call c.args.first.now) in
    IfOk-weaker c.expression.result (λ n. n ≡ a) (λ n. (p : Place) → (l : Level) → n ≡ counted c.args.count (marks at call (tree.Chain p l c.args.first.now (links_in c.args.links.now))))
    (λ n h p l. alone_counted at call p l c.args.first.now c.args.links.now c.args.count n none h) c.expression.ensures

pub chain-returns-in_ok-count-in-Some-2 : goal.chain-returns-in_ok-count-in-Some-2
chain-returns-in_ok-count-in-Some-2 t c =
    let at = around_of c.args.at.now in
    let call = calls_of c.args.self.now c.args.deep in
    let whole : c.args.links.now ≡ c.in-Some.second.now ∷ c.in-Some.rest.now = search rules in
    IfOk-weaker c.links.result (λ n. (p : Place) → n ≡ counted c.more-count.result (link_marks at call p (links_in c.in-Some.rest.now))) (λ n. (p : Place) → (l : Level) → n ≡ counted c.args.count (marks at call (tree.Chain p l c.args.first.now (links_in c.args.links.now))))
    (λ n h p l. chain_counted at call p l c.args.first.now c.in-Some.second.now c.in-Some.rest.now c.args.links.now c.args.count _ _ _ c.more-count.result n whole c.in_ok-count-in-Some.ensures c.in_ok-count-in-Some-2.ensures c.signal_of_two.ensures c.more-count.ensures (h p))
    c.links.ensures

pub links-loop-link-preserved : goal.links-loop-link-preserved
links-loop-link-preserved t c =
    λ p. link_counted (around_of c.args.at.now) (calls_of c.args.self.now c.args.deep) p c.args.links.now c.loop-link.link-index c.link-item.result c.loop-link.count _ _ _ _ c.loop-link-test.true c.link-item.is (c.loop-link.invariant p) c.in_ok-count.ensures c.signal_after.ensures c.more-count.ensures

pub links-returns : goal.links-returns
links-returns t c =
    λ p. links_counted (around_of c.args.at.now) (calls_of c.args.self.now c.args.deep) p c.args.links.now c.loop-link.link-index c.loop-link.count _ _ c.loop-link-test.false (c.loop-link.invariant p) c.min.ensures

-- ---- calls
pub call-returns-in-Some : goal.call-returns-in-Some
call-returns-in-Some t c =
    let at = around_of c.args.at.now in
    let call = calls_of c.args.self.now c.args.deep in
    let parts = c.call_parts-parts in
    if_each c.callee_count.result (counted c.more-count.result (call c.in-Some.number)) (λ (p : Place). counted c.args.count (marks at call (tree.Call p c.args.name.now (exprs_of c.args.arguments.now))))
    (λ p. call_counted at call p c.args.name.now c.args.arguments.now parts.result.streams.now parts.result.operands.now parts.result.own parts.result.callee c.args.count _ _ c.more-count.result _ parts.ensures.streams parts.ensures.operands parts.ensures.own parts.ensures.callee c.in_ok-count.ensures c.in_ok-count-2.ensures c.more-count.ensures (ap (λ o. counted c.more-count.result (callee_marks call o)) (sym c.in-Some.is)))
    c.callee_count.ensures

pub call-returns-in-None : goal.call-returns-in-None
call-returns-in-None t c =
    let at = around_of c.args.at.now in
    let call = calls_of c.args.self.now c.args.deep in
    let parts = c.call_parts-parts in
    λ p. call_counted at call p c.args.name.now c.args.arguments.now parts.result.streams.now parts.result.operands.now parts.result.own parts.result.callee c.args.count _ _ c.more-count.result _ parts.ensures.streams parts.ensures.operands parts.ensures.own parts.ensures.callee c.in_ok-count.ensures c.in_ok-count-2.ensures c.more-count.ensures (no_more _ _ _ _ c.more-count.ensures refl (ap (callee_marks call) c.in-None.is))

pub callee_count-returns-in-Some : goal.callee_count-returns-in-Some
callee_count-returns-in-Some t c =
    let some = c.if-deep-eq0.false in
    let deeper : suc (c.args.deep - 1) ≡ c.args.deep = omega arith in
    if_equal c.inside.result (counted c.args.count (calls_of c.args.self.now (suc (c.args.deep - 1)) c.args.number)) (counted c.args.count (calls_of c.args.self.now c.args.deep c.args.number))
    (ap (λ d. counted c.args.count (calls_of c.args.self.now d c.args.number)) deeper) c.inside.ensures

pub inside-returns : goal.inside-returns
inside-returns t c =
    let items = map item_of c.args.self.now.items.now in
    let kinds = kinds_of c.args.self.now.kinds.now in
    let qs = params_in c.as_slice-params.result.now in
    let ds = definitions_of c.block_of-definitions.result.now in
    let e = c.result_of.result.now in
    let levels = c.inner-block.ensures ∙ ap (λ o. c.in_ok-locals.field-0 ∷ o) (c.inner-scope.ensures ∙ ap (λ o. c.in_ok-parameters.field-0 ∷ o) c.around-outer.ensures) in
    let at = inside_at items kinds c.args.number c.setting_of.result qs (seen c.inner-block.result) in
    if_equal c.body.result (counted c.in_ok-count.count (body_marks at (calls_of c.args.self.now c.args.deep) e)) (counted c.args.count (calls_of c.args.self.now (suc c.args.deep) c.args.number))
    (inside_counted items kinds c.args.number c.args.parts.now c.args.deep c.args.self.now.names.now c.in_ok-locals.field-0 c.in_ok-parameters.field-0 c.inner-block.result qs c.setting_of.result ds e c.args.count c.in_ok-count.count _ c.requires.definition c.requires.names (ap params_in c.as_slice-params.ensures.value) c.setting_of.ensures c.block_of-definitions.ensures c.result_of.ensures c.in_ok-locals.ensures c.in_ok-parameters.ensures levels c.in_ok-count.ensures refl)
    c.body.ensures

-- ---- the definitions of a block are few, as its body has few
pub inside-locals-requires : goal.inside-locals-requires
inside-locals-requires t c = omega (arith, ap counts c.block_of-definitions.ensures, block_counted (code.body_of c.args.parts.now.body), c.requires.definition.few)
