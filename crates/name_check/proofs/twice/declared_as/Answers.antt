use Rattle.std.proofs.Common.{◌<◌, length, rules, sym, ◌∙◌}
use Rattle.name_check.proofs.TwiceLemmas.{is_macro, is_mixed, is_value_function}
use Rattle.name_check.proofs.twice.declared_as.Goals as goal

pub returns-then-all_are_streams : goal.returns-then-all_are_streams
returns-then-all_are_streams c =
    let some : 0 < length c.args.params.now = search rules in
    is_macro c.args.number c.args.params.now some (sym c.if-all_are_streams.true ∙ c.all_are_streams.ensures)

pub returns-then-some_are_streams : goal.returns-then-some_are_streams
returns-then-some_are_streams c =
    let some : 0 < length c.args.params.now = search rules in
    is_mixed c.args.number c.args.params.now some (sym c.if-all_are_streams.false ∙ c.all_are_streams.ensures) (sym c.if-some_are_streams.true ∙ c.some_are_streams.ensures)

pub returns-else-some_are_streams : goal.returns-else-some_are_streams
returns-else-some_are_streams c =
    let some : 0 < length c.args.params.now = search rules in
    is_value_function c.args.number c.args.params.now some (sym c.if-all_are_streams.false ∙ c.all_are_streams.ensures) (sym c.if-some_are_streams.false ∙ c.some_are_streams.ensures)
