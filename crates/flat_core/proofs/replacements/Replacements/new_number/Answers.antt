use Rattle.std.proofs.Common.{slice_get, ap, ◌∙◌}
use Rattle.std.specs.Option.{unwrap_or}
use Rattle.std.proofs.lemmas.Option.{unwrap_or-slice_get}
use Rattle.flat_core.proofs.replacements.Replacements.new_number.Goals as goal

pub returns : goal.returns
returns c =
    let list = c.args.self.now in
    let id = c.args.id in
    c.unwrap_or.ensures ∙ ap (λ o. unwrap_or o id) (c.copied.ensures ∙ c.get-2.ensures ∙ ap (slice_get list) c.get.ensures) ∙ unwrap_or-slice_get list id id
