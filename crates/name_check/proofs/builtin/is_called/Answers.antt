use Rattle.std.proofs.Common.{sym, ap, ◌∙◌}
use Rattle.std.specs.Prelude.{is_some}
use Rattle.vocabulary.proofs.Plains.{any_plain}
use Rattle.name_check.specs.Builtin.{is_called}
use Rattle.name_check.proofs.builtin.is_called.Goals as goal

pub returns : goal.returns
unfolding is_called
returns c = c.is_some.ensures ∙ ap is_some c.plain_named.ensures ∙ sym (any_plain c.args.name.now)
