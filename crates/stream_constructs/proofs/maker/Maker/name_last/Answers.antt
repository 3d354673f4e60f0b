use Rattle.std.proofs.Common.{◌≡◌, sym, subst}
use Rattle.std.specs.Prelude.{None}
use Rattle.flat_core.specs.System.{System}
use Rattle.stream_constructs.specs.Limits.{refusal, update_count}
use Rattle.stream_constructs.proofs.Refusals.{name_kept}
use Rattle.stream_constructs.proofs.maker.Maker.name_last.Goals as goal

pub invariant_of-self : goal.invariant_of-self
invariant_of-self c =
    let P : System → Type 0 = λ s. (refusal s.equations ≡ None) × (c.self.inside.updates ≡ update_count s.equations) in
    subst P (sym c.set_name.ensures) (name_kept c.self.inside.builder _ c.args.name c.self.inside.updates c.self.invariant.0 c.self.invariant.1)
