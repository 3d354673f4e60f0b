use Rattle.std.proofs.Common.{◌==◌, ◌||◌, sym, ap, ◌∙◌}
use Rattle.std.proofs.lemmas.Bool.{false≢true}
use Rattle.flat_core.specs.Members.{is_in}
use Rattle.flat_core.proofs.Members.{in-insert, past_place}
use Rattle.flat_core.proofs.lists.EqSet.push.Goals as goal

pub returns-in_ok-insert-in-Err-clause-members : goal.returns-in_ok-insert-in-Err-clause-members
returns-in_ok-insert-in-Err-clause-members c j =
    ap (λ xs. is_in xs j) c.in_ok-insert-in-Err.ensures.items ∙ in-insert c.self.inside.ids.items c.in-Err.place c.args.id j
    ∙ ap (λ xs. (c.args.id == j) || is_in xs j) c.self.view_is

pub returns-in_ok-insert-in-Err-clause-there : goal.returns-in_ok-insert-in-Err-clause-there
returns-in_ok-insert-in-Err-clause-there c there = absurd (false≢true (sym (past_place c.args.self.now c.args.id c.in-Err.place c.in-Err.ensures) ∙ there))
