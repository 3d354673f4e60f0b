use Rattle.std.proofs.lemmas.Result.{on_ok_weaker}
use Rattle.syntax_tree.specs.inner.OneLevel.{definition_of}
use Rattle.definition_cycles.proofs.FoundLemmas.{top_learned}
use Rattle.definition_cycles.proofs.found.Found.add_top.Goals as goal

pub returns : goal.returns
returns c =
    on_ok_weaker c.add_definition.result
    (λ h names is_top.
    top_learned c.args.item names c.args.top.now c.in_ok-parameters.field-0 c.inner-scope.result c.around-outer.result c.deref.result.now c.deref-2.result.now c.args.parts.now.params.items (definition_of c.args.parts.now) c.args.self.now c.add_definition.new.self
    c.inner-scope.ensures c.around-outer.ensures c.deref.ensures.value c.deref-2.ensures.value c.in_ok-parameters.ensures is_top h)
    c.add_definition.ensures
