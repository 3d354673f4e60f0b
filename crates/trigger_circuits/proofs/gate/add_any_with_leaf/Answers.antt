use Rattle.std.proofs.Common.{◌<◌, ◌∷◌, [], ◌++◌, length, ap, ◌∙◌}
use Rattle.std.proofs.lemmas.List.Elements.{All-from_recursion}
use Rattle.gate_circuits.specs.Circuit.{IsOn}
use Rattle.trigger_starts.specs.inner.Rules.{HasSome}
use Rattle.trigger_circuits.specs.inner.Circuits.{gate_at}
use Rattle.trigger_circuits.proofs.Gates.{leaf_told, pair_below}
use Rattle.trigger_circuits.proofs.gate.add_any_with_leaf.Goals as goal

pub push-requires-3 : goal.push-requires-3
push-requires-3 c =
    All-from_recursion (λ i. i < length c.add_any.new.circuit) c.push-2.new.self
    (pair_below (length c.args.gates.now) c.args.circuit.now c.add_any.new.circuit c.in_ok-any.any c.args.leaf c.push-2.new.self
    (λ leaves. HasSome (λ a. IsOn c.args.circuit.now leaves (gate_at c.args.gates.now a)) c.args.args.now) c.requires.leaf c.in_ok-any.ensures (c.in_ok-push-2.ensures ∙ ap (λ l. l ++ c.in_ok-any.any ∷ []) (c.in_ok-push.ensures ∙ ap (λ l. l ++ c.args.leaf ∷ []) c.new-inputs.ensures)))

pub returns : goal.returns
returns c =
    leaf_told (length c.args.gates.now) c.args.circuit.now c.add_any.new.circuit c.in_ok-any.any c.args.leaf c.push-2.new.self
    (λ leaves. HasSome (λ a. IsOn c.args.circuit.now leaves (gate_at c.args.gates.now a)) c.args.args.now) c.requires.leaf c.in_ok-any.ensures
    (c.in_ok-push-2.ensures ∙ ap (λ l. l ++ c.in_ok-any.any ∷ []) (c.in_ok-push.ensures ∙ ap (λ l. l ++ c.args.leaf ∷ []) c.new-inputs.ensures)) c.push-3.new.self c.push-3.result c.push-3.ensures.pushed c.push-3.ensures.number
