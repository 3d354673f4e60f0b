use Rattle.body_eval.proofs.Textless.{textless}
use Rattle.body_eval.proofs.law.textless_bodies.Goals as goal

pub returns : goal.returns
returns c = λ kinds values tree k all typed none. textless kinds values all typed none
