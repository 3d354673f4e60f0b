-- What the facts of a derivation say, by the rules of derivations.
use Rattle.event_why.specs.declared.fact.Fact as code
use Rattle.event_why.specs.declared.fact.Fact.TheVariants as fact
use Rattle.why_rules.specs.Facts.{Fact, Happens, Silent, Gap, Pending}

abbrev pub said : code.Fact → Fact
said (fact.Event i t v) = Happens i t v
said (fact.Silent i from to) = Silent i from to
said (fact.Gap from to) = Gap from to
said (fact.Pending i t due) = Pending i t due
