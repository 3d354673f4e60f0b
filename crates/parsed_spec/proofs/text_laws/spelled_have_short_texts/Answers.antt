use Rattle.parsed_spec.proofs.Texts.{spelled_have_short_texts}
use Rattle.parsed_spec.proofs.text_laws.spelled_have_short_texts.Goals as goal

pub returns : goal.returns
returns c = spelled_have_short_texts
