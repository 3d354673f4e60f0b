use Rattle.std.proofs.Common.{◌∙◌, ap, refl, subst}
use Rattle.trace_reader.specs.declared.state.ReaderState.{ReaderState}
use Rattle.trace_reader.specs.Reading.{is_among}
use Rattle.trace_reader.specs.inner.Reader.{IsSound, Reader}
use Rattle.trace_reader.specs.inner.Saved.{HasState}
use Rattle.trace_reader.proofs.SavedLemmas.{state_after}
use Rattle.trace_reader.proofs.reader.TraceReader.state.Goals as goal

pub returns-clause-after : goal.returns-clause-after
returns-clause-after c =
    let st : ReaderState = record { taken = c.self.inside.taken; lines = c.self.inside.count; last = c.get.result; seen = c.in_ok-set_of.field-0; rest = c.in_ok-from_slice.field-0 } in
    let has : HasState c.args.self.now st =
    subst (λ (r : Reader). HasState r st) c.self.view_is (record {
      taken = refl;
      lines = refl;
      last = c.get.ensures.time;
      seen = λ i. c.in_ok-set_of.ensures i ∙ ap (λ seen. is_among seen i) c.deref.ensures.value;
      rest = c.in_ok-from_slice.ensures ∙ c.as_slice.ensures;
    }) in
    state_after c.args.self.now st (subst (λ (r : Reader). IsSound r) c.self.view_is c.self.invariant) c.requires has
