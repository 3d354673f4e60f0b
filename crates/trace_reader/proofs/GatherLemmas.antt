-- Lines that are gathered.
use Rattle.std.proofs.Common.{◌≡◌, ℕ, Bool, List, [], ◌∷◌, ◌++◌, sym, ap, subst, ◌∙◌, append_assoc, Result, Err}
use Rattle.std.proofs.lemmas.List.{append-nil}
use Rattle.flat_core.specs.System.{System}
use Rattle.flat_core.specs.Line.{Line}
use Rattle.trace_reader.specs.declared.fault.TraceFault.{TraceFault}
use Rattle.trace_reader.specs.declared.fault.TraceFault.TheVariants as fault
use Rattle.trace_reader.specs.declared.next.Rest.{Rest}
use Rattle.trace_reader.specs.Reading.{Reading, reading}
use Rattle.trace_reader.specs.inner.Reader.{Reader}
use Rattle.trace_reader.specs.inner.Reads.{Reads, Gathers, SaysNext, SaysRest}

-- lines were appended, and the reader has given them
pub record HasGathered (now : Reader) (s : System) (strict : Bool) (limit : ℕ) (fed : List ℕ) (given : List Line) (ended : Bool) (before after : List Line) : Type 0 where
  pub added : List Line
  pub grew : after ≡ before ++ added
  pub reads : Reads now s strict limit fed (given ++ added) ended

module _ (s : System) (strict : Bool) (limit : ℕ) (fed : List ℕ) (given : List Line) (ended : Bool) (before : List Line) where
  pub none_gathered : (now : Reader) → Reads now s strict limit fed given ended → HasGathered now s strict limit fed given ended before before
  none_gathered now reads = record {
    added = [];
    grew = sym (append-nil before);
    reads = subst (λ (ls : List Line). Reads now s strict limit fed ls ended) (sym (append-nil given)) reads;
  }

  pub one_gathered : (now new : Reader) (after : List Line) (l : Line) (it : HasGathered now s strict limit fed given ended before after) → Reads new s strict limit fed (given ++ it.added ++ l ∷ []) ended →
      HasGathered new s strict limit fed given ended before (after ++ l ∷ [])
  one_gathered now new after l it reads = record {
    added = it.added ++ l ∷ [];
    grew = ap (λ ls. ls ++ l ∷ []) it.grew ∙ append_assoc before it.added (l ∷ []);
    reads = subst (λ (ls : List Line). Reads new s strict limit fed ls ended) (append_assoc given it.added (l ∷ [])) reads;
  }

  -- the last answer, after what was gathered
  pub gathers : (now new : Reader) (after : List Line) (it : HasGathered now s strict limit fed given ended before after) → Reads new s strict limit fed (given ++ it.added ++ []) ended →
      (result : Result Rest TraceFault) → SaysRest (reading s strict limit fed ended) (given ++ it.added) ended result → Gathers new s strict limit fed given ended before after result
  gathers now new after it reads result says = record {
    added = it.added;
    grew = it.grew;
    reads = subst (λ (ls : List Line). Reads new s strict limit fed ls ended) (append-nil (given ++ it.added)) reads;
    says = says;
  }

  says_fault : (r : Reading) (ls : List Line) (f : TraceFault) → SaysNext r ls ended (Err f) → SaysRest r ls ended (Err f)
  says_fault r ls (fault.BadLine n) says = says
  says_fault r ls (fault.TimeTooLarge n) says = says
  says_fault r ls (fault.TimeBack n before at) says = says
  says_fault r ls (fault.UnknownStream n) says = says
  says_fault r ls (fault.WrongValue n name) says = says
  says_fault r ls (fault.Twice n name) says = says
  says_fault r ls (fault.LineTooLong n) says = says
  says_fault r ls (fault.TraceTooLong n) says = says
  says_fault r ls fault.Memory says = tt

  pub gathers_fault : (now new : Reader) (after : List Line) (it : HasGathered now s strict limit fed given ended before after) → Reads new s strict limit fed (given ++ it.added ++ []) ended →
      (f : TraceFault) (result : Result Rest TraceFault) → result ≡ Err f → SaysNext (reading s strict limit fed ended) (given ++ it.added) ended (Err f) → Gathers new s strict limit fed given ended before after result
  gathers_fault now new after it reads f result is says =
      subst (λ (r : Result Rest TraceFault). Gathers new s strict limit fed given ended before after r) (sym is)
      (gathers now new after it reads (Err f) (says_fault (reading s strict limit fed ended) (given ++ it.added) f says))

  -- out of memory, where nothing was read
  pub gathers_memory : (now : Reader) (after : List Line) → HasGathered now s strict limit fed given ended before after → (result : Result Rest TraceFault) → result ≡ Err fault.Memory → Gathers now s strict limit fed given ended before after result
  gathers_memory now after it result is =
      subst (λ (r : Result Rest TraceFault). Gathers now s strict limit fed given ended before after r) (sym is) (record { added = it.added; grew = it.grew; reads = it.reads; says = tt })
