use Rattle.lift_func.proofs.Fits.{apply_fits}
use Rattle.lift_func.proofs.law.typed_bodies_fit.Goals as goal

pub returns : goal.returns
returns c = λ kinds values tree k all typed. apply_fits kinds values all typed
