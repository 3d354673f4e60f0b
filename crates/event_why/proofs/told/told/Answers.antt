use Rattle.std.proofs.Common.{map, sym, ◌∙◌}
use Rattle.std.proofs.lemmas.List.{length-map}
use Rattle.event_why.specs.Said.{said}
use Rattle.event_why.proofs.TellLemmas.{told_short}
use Rattle.event_why.proofs.told.told.Goals as goal

pub returns-then-named-ids : goal.returns-then-named-ids
returns-then-named-ids c =
    sym (told_short c.args.t c.args.ids.now (map said c.args.named.now) (λ same. c.if-named-ids.true (sym (same ∙ length-map c.args.named.now said))))
