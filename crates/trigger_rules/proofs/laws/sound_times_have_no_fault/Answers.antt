use Rattle.trigger_rules.proofs.Times.{all_are_clear}
use Rattle.trigger_rules.proofs.laws.sound_times_have_no_fault.Goals as goal

pub returns : goal.returns
returns c = all_are_clear
