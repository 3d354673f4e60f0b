use Rattle.std.proofs.lemmas.Bool.Decides.{Decides-eqb}
use Rattle.std.proofs.lemmas.Slice.Eq.{strip_prefix_is}
use Rattle.code_file.specs.Spelling.{mark}
use Rattle.code_reader.proofs.read.after_mark.Goals as goal

pub returns : goal.returns
returns c = strip_prefix_is Decides-eqb c.args.bytes.now mark c.strip_prefix.result c.strip_prefix.ensures.cases
