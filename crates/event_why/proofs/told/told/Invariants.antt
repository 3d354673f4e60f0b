use Rattle.std.proofs.Common.{◌≡◌, length, map}
use Rattle.event_why.specs.Said.{said}
use Rattle.event_why.specs.inner.Told.{told_all}
use Rattle.event_why.proofs.TellLemmas.{told_after}
use Rattle.event_why.proofs.told.told.Given as goal

abbrev pub invariant-loop-id : goal.invariant-loop-id
invariant-loop-id l = record {
  rest : told_after l.values.items (told_all l.t l.id-iterator.a.rest.now (map said l.id-iterator.b.rest.now)) ≡ told_all l.t l.ids (map said l.named);
  long : length l.id-iterator.a.rest.now ≡ length l.id-iterator.b.rest.now;
}
