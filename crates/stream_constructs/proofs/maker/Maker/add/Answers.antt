use Rattle.std.proofs.Common.{◌≡◌, [], ◌∷◌, ◌++◌, sym, ap, ◌∙◌, arith}
use Rattle.stream_constructs.specs.Limits.{refusal}
use Rattle.flat_core.specs.System.{System}
use Rattle.stream_constructs.proofs.Refusals.{full_refused, update_refused, few_equations, count_few, no_update_kept, update_kept}
use Rattle.stream_constructs.proofs.maker.Maker.add.Goals as goal

pub returns-then-count-eq-MOST_EQUATIONS-clause-refused :
    goal.returns-then-count-eq-MOST_EQUATIONS-clause-refused
returns-then-count-eq-MOST_EQUATIONS-clause-refused c =
    let same : c.self.inside.builder.equations ≡ c.args.self.now.equations = ap (λ (s : System). s.equations) c.self.view_is in
    ap (λ es. refusal (es ++ c.args.equation ∷ [])) (sym same) ∙ full_refused c.self.inside.builder.equations c.args.equation c.self.invariant.0 (omega arith)

pub invariant_of-self-then-not-is_update : goal.invariant_of-self-then-not-is_update
invariant_of-self-then-not-is_update c =
    no_update_kept c.self.inside.builder.equations _ c.args.equation c.self.inside.updates c.self.invariant.0 (λ h. c.if-count-eq-MOST_EQUATIONS.false (c.count.ensures.count ∙ h)) (cc) c.self.invariant.1
    (ap (λ (s : System). s.equations) c.in_ok-add.ensures.after)

pub returns-then-self-eq-MOST_UPDATES-clause-refused :
    goal.returns-then-self-eq-MOST_UPDATES-clause-refused
returns-then-self-eq-MOST_UPDATES-clause-refused c =
    let same : c.self.inside.builder.equations ≡ c.args.self.now.equations = ap (λ (s : System). s.equations) c.self.view_is in
    ap (λ es. refusal (es ++ c.args.equation ∷ [])) (sym same)
    ∙ update_refused c.self.inside.builder.equations c.args.equation c.self.invariant.0 (λ h. c.if-count-eq-MOST_EQUATIONS.false (c.count.ensures.count ∙ h)) (cc) (omega arith)

pub overflow_add-self : goal.overflow_add-self
overflow_add-self c =
    let few = count_few c.self.inside.builder.equations in
    let all = few_equations c.self.inside.builder.equations c.self.invariant.0 in
    omega arith

pub invariant_of-self-2 : goal.invariant_of-self-2
invariant_of-self-2 c =
    update_kept c.self.inside.builder.equations _ c.args.equation c.self.inside.updates c.self.invariant.0 (λ h. c.if-count-eq-MOST_EQUATIONS.false (c.count.ensures.count ∙ h)) (cc) c.if-self-eq-MOST_UPDATES.false c.self.invariant.1
    (ap (λ (s : System). s.equations) c.in_ok-id.ensures.after)
