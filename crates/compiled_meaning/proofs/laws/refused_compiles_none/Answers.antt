use Rattle.compiled_meaning.proofs.Kept.{refused_compiles_none}
use Rattle.compiled_meaning.proofs.laws.refused_compiles_none.Goals as goal

pub returns : goal.returns
returns c = refused_compiles_none
