-- Lines that are taken one after the other.
use Rattle.std.proofs.Common.{◌≡◌, ◌≢◌, ℕ, List, [], ◌∷◌, ◌++◌, Some, Ok, Err, refl, sym, ap, subst, ◌∙◌, append-nil, append_assoc}
use Rattle.flat_core.specs.Line.{Line}
use Rattle.flat_core.specs.System.{System}
use Rattle.monitor_run.specs.declared.monitor.Stop.{Stop}
use Rattle.monitor_run.specs.declared.monitor.Stop.TheVariants as stop
use Rattle.monitor_run.specs.inner.State as engine
use Rattle.trace_reader.specs.declared.fault.TraceFault.{TraceFault}
use Rattle.trace_reader.specs.declared.fault.TraceFault.TheVariants as fault
use Rattle.trace_reader.specs.declared.next.Next.TheVariants as next
use Rattle.trace_reader.specs.inner.Reader.{Reader}
use Rattle.trace_reader.specs.inner.Reads.{Reads, SaysNext}
use Rattle.trace_reader.proofs.LineLemmas.{last_time-push}
use Rattle.trace_monitor.specs.declared.halt.Halt.{Halt}
use Rattle.trace_monitor.specs.declared.halt.Halt.TheVariants as halt
use Rattle.trace_monitor.specs.inner.Reading.{Fed, HasRead, HasReadOn, HasReadAll, HasStoppedIn, Halts, reading_of}
use Rattle.trace_monitor.specs.inner.Kept.{events_of}
use Rattle.trace_monitor.specs.inner.Run.{HasTaken, HasStoppedAt, StopsSo}
use Rattle.trace_monitor.proofs.Following.{from_line, line_closed}

-- nothing was taken yet
pub none_taken : (r : Reader) (e : engine.State) (last : ℕ) (x : Fed) (lines : List Line) (text before : List ℕ) → HasRead r e last x lines text → HasReadOn r e e last x lines text before before
none_taken r e last x lines text before read = record {
  more = [];
  added = [];
  after_is = sym (append-nil before);
  system_is = refl;
  limit_is = refl;
  read = subst (λ (ls : List Line). HasRead r e last x ls (text ++ [])) (sym (append-nil lines)) (subst (HasRead r e last x lines) (sym (append-nil text)) read);
}

module _ (r : Reader) (old mid : engine.State) (last : ℕ) (x : Fed) (lines : List Line) (text before at : List ℕ) (on : HasReadOn r old mid last x lines text before at) where
  abbrev pub taken : List Line
  taken = lines ++ on.more

  -- the line that stands next
  module _ (l : Line) (rest : List Line) (is : (reading_of mid.system x).lines ≡ taken ++ l ∷ rest) where
    pub on_line : (r' : Reader) (new : engine.State) (after : List ℕ) → Reads r' mid.system x.strict x.limit x.bytes (taken ++ l ∷ []) x.ended
        → HasTaken mid new taken l (text ++ on.added) at after → HasReadOn r' old new l.time x lines text before after
    on_line r' new after reads has = record {
      more = on.more ++ l ∷ [];
      added = on.added ++ has.added;
      after_is = has.after_is ∙ ap (λ (b : List ℕ). b ++ has.added) on.after_is ∙ append_assoc before on.added has.added;
      system_is = has.system_is ∙ on.system_is;
      limit_is = has.limit_is ∙ on.limit_is;
      read = subst (λ (ls : List Line). HasRead r' new l.time x ls (text ++ (on.added ++ has.added))) (append_assoc lines on.more (l ∷ []))
          (subst (HasRead r' new l.time x (taken ++ l ∷ [])) (append_assoc text on.added has.added) (record {
            reads = subst (λ (s : System). Reads r' s x.strict x.limit x.bytes (taken ++ l ∷ []) x.ended) (sym has.system_is) reads;
            last_is = sym (last_time-push taken l);
            has = has.has;
          }));
    }

    pub stopped_there : (new : engine.State) (until : ℕ) (after : List ℕ) (why : Stop) → why ≢ stop.Memory → HasStoppedAt mid new (events_of taken) l.time (text ++ on.added) at after why → HasStoppedIn old new x until text before after why
    stopped_there new until after why some h =
        subst (λ (s : System). HasStoppedIn (record old { system = s }) new x until text before after why) on.system_is (record {
          taken = taken;
          more = l ∷ rest;
          lines_are = is;
          time = l.time;
          later = from_line mid.system x.strict x.limit x.bytes x.ended taken l rest is;
          closed = line_closed mid.system x.strict x.limit x.bytes x.ended taken l rest is until;
          added = on.added ++ h.added;
          after_is = h.after_is some ∙ ap (λ (b : List ℕ). b ++ h.added) on.after_is ∙ append_assoc before on.added h.added;
          stops = subst (λ (n : ℕ). StopsSo mid.system (events_of taken) l.time n (text ++ (on.added ++ h.added)) why) on.limit_is
              (subst (λ (t : List ℕ). StopsSo mid.system (events_of taken) l.time mid.limit t why) (append_assoc text on.added h.added) h.stops);
          counts = h.counts;
        })

  -- what an answer other than a line says
  pub at_more : SaysNext (reading_of mid.system x) taken x.ended (Ok next.More) → Halts (reading_of old.system x) taken x.ended halt.More
  at_more says = subst (λ (s : System). Halts (reading_of s x) taken x.ended halt.More) on.system_is says

  pub at_end : SaysNext (reading_of mid.system x) taken x.ended (Ok next.End) → Halts (reading_of old.system x) taken x.ended halt.End
  at_end says = subst (λ (s : System). Halts (reading_of s x) taken x.ended halt.End) on.system_is says

  pub at_fault : (f : TraceFault) → f ≢ fault.Memory → SaysNext (reading_of mid.system x) taken x.ended (Err f) → Halts (reading_of old.system x) taken x.ended (halt.Refused f)
  at_fault f some says = subst (λ (s : System). Halts (reading_of s x) taken x.ended (halt.Refused f)) on.system_is (refused f some says)
    where
      refused : (f : TraceFault) → f ≢ fault.Memory → SaysNext (reading_of mid.system x) taken x.ended (Err f) → reading_of mid.system x ≡ record { lines = taken; refused = Some f }
      refused (fault.BadLine n) some says = says
      refused (fault.TimeTooLarge n) some says = says
      refused (fault.TimeBack n b t) some says = says
      refused (fault.UnknownStream n) some says = says
      refused (fault.WrongValue n name) some says = says
      refused (fault.Twice n name) some says = says
      refused (fault.LineTooLong n) some says = says
      refused (fault.TraceTooLong n) some says = says
      refused fault.Memory some says = absurd (some refl)

  -- all that stood was taken, and another reader is as the last answer left it
  pub all_taken : (r' : Reader) (by : Halt) → Reads r' mid.system x.strict x.limit x.bytes (taken ++ []) x.ended → Halts (reading_of old.system x) taken x.ended by
      → HasReadAll r' old mid last x lines text before at by
  all_taken r' by reads halts = record {
    on = record {
      more = on.more;
      added = on.added;
      after_is = on.after_is;
      system_is = on.system_is;
      limit_is = on.limit_is;
      read = record {
        reads = subst (λ (ls : List Line). Reads r' mid.system x.strict x.limit x.bytes ls x.ended) (append-nil taken) reads;
        last_is = on.read.last_is;
        has = on.read.has;
      };
    };
    halts = halts;
  }
