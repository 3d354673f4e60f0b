use Rattle.checked_spec.proofs.Within.{subs_stand_in}
use Rattle.checked_spec.proofs.flat_laws.subs_are_formed.Goals as goal

pub returns : goal.returns
returns c items o sh is own plain = subs_stand_in items o sh is own plain
