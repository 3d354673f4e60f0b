use Rattle.equation_types.proofs.BodyKinds.{just_kind}
use Rattle.equation_types.proofs.body.body_kind.Goals as goal

pub returns : goal.returns
returns c = just_kind c.args.types.now c.args.strict c.args.body.now c.kind_in.result c.kind_in.ensures
