-- All lines of what was fed are gathered.
use Rattle.std.proofs.Common.{◌≡◌, ◌≢◌, ℕ, Bool, true, false, List, ◌++◌, None, Some, Result, Ok, Err, refl, sym, ◌∙◌, ap, subst}
use Rattle.flat_core.specs.Line.{Line}
use Rattle.flat_core.specs.System.{System}
use Rattle.trace_reader.specs.declared.fault.TraceFault.{TraceFault}
use Rattle.trace_reader.specs.declared.fault.TraceFault.TheVariants as fault
use Rattle.trace_reader.specs.declared.next.Rest.{Rest}
use Rattle.trace_reader.specs.declared.next.Rest.TheVariants as rest
use Rattle.trace_reader.specs.inner.Reader.{AwaitsMore, Reader}
use Rattle.trace_reader.specs.inner.Reads.{Gathers, IfRestMore, Reads, SaysRest}
use Rattle.trace_reader.specs.Reading.{Reading, reading}
use Rattle.trace_why.specs.inner.Lines.{HasGathered}

-- what an answer says of a reading, where memory served
refused_by : (r : Reading) (given : List Line) (ended : Bool) (f : TraceFault) → f ≢ fault.Memory → SaysRest r given ended (Err f) → r ≡ record { lines = given; refused = Some f }
refused_by r given ended fault.Memory other says = absurd (other refl)
refused_by r given ended f other says = says

ended_again : (ended : Bool) → ended ≡ true → ended ≡ false → ⊥
ended_again ended end on = cc

pub gathered : (r : Reader) (s : System) (strict : Bool) (limit : ℕ) (bytes : List ℕ) (ended : Bool) (before after : List Line) (result : Result Rest TraceFault)
    → result ≢ Err fault.Memory → Gathers r s strict limit bytes before ended before after result → IfRestMore result (AwaitsMore r)
    → HasGathered r s strict limit bytes ended after
gathered r s strict limit bytes ended before after (Ok rest.More) served g more = record {
  reads = subst (λ (l : List Line). Reads r s strict limit bytes l ended) (sym g.grew) g.reads;
  all = g.grew ∙ sym (ap (λ (x : Reading). x.lines) g.says.0);
  awaits = λ on accepted. more;
}
gathered r s strict limit bytes ended before after (Ok rest.End) served g more = record {
  reads = subst (λ (l : List Line). Reads r s strict limit bytes l ended) (sym g.grew) g.reads;
  all = g.grew ∙ sym (ap (λ (x : Reading). x.lines) g.says.0);
  awaits = λ on accepted. absurd (ended_again ended g.says.1 on);
}
gathered r s strict limit bytes ended before after (Err f) served g more =
    let is = refused_by (reading s strict limit bytes ended) (before ++ g.added) ended f (λ same. served (ap Err same)) g.says in
    record {
      reads = subst (λ (l : List Line). Reads r s strict limit bytes l ended) (sym g.grew) g.reads;
      all = g.grew ∙ sym (ap (λ (x : Reading). x.lines) is);
      awaits = λ on accepted. absurd (let refused = ap (λ (x : Reading). x.refused) is in nothing_refused f (sym accepted ∙ refused));
    }
  where
    nothing_refused : (f : TraceFault) → None ≡ Some f → ⊥
    nothing_refused f p = cc

-- answers that are not out of memory
pub never_memory : (result : Result Rest TraceFault) (x : Rest) → result ≡ Ok x → result ≢ Err fault.Memory
never_memory result x is same = cc

pub other_fault : (result : Result Rest TraceFault) (f : TraceFault) → result ≡ Err f → f ≢ fault.Memory → result ≢ Err fault.Memory
other_fault result f is other same = other (cc)
