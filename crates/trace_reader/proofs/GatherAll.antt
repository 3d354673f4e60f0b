-- A whole trace in pieces, for the tests.
use Rattle.std.proofs.Common.{◌≡◌, ℕ, Bool, true, false, List, [], ◌∷◌, ◌++◌, refl, sym, ap, subst, ◌∙◌, append_assoc, length, arith, Result, Ok, Err, Some}
use Rattle.std.proofs.lemmas.List.{append-nil}
use Rattle.std.specs.Prelude.{OnOk}
use Rattle.flat_core.specs.System.{System}
use Rattle.flat_core.specs.Line.{Line}
use Rattle.trace_reader.specs.declared.fault.TraceFault.{TraceFault}
use Rattle.trace_reader.specs.declared.fault.TraceFault.TheVariants as fault
use Rattle.trace_reader.specs.declared.next.Rest.{Rest}
use Rattle.trace_reader.specs.Reading.{Reading, reading}
use Rattle.trace_reader.specs.inner.Reader.{Reader}
use Rattle.trace_reader.specs.inner.Reads.{Reads, Gathers, SaysRest}
use Rattle.trace_reader.proofs.LawLemmas.{reading_refused}

-- what is gathered after all lines that were given
pub all_say : (new : Reader) (s : System) (strict : Bool) (limit : ℕ) (fed : List ℕ) (ended : Bool) (before after : List Line) (result : Result Rest TraceFault) → Gathers new s strict limit fed before ended before after result → SaysRest (reading s strict limit fed ended) after ended result
all_say new s strict limit fed ended before after result it = subst (λ (ls : List Line). SaysRest (reading s strict limit fed ended) ls ended result) (sym it.grew) it.says

pub all_read : (new : Reader) (s : System) (strict : Bool) (limit : ℕ) (fed : List ℕ) (ended : Bool) (before after : List Line) (result : Result Rest TraceFault) → Gathers new s strict limit fed before ended before after result → Reads new s strict limit fed after ended
all_read new s strict limit fed ended before after result it = subst (λ (ls : List Line). Reads new s strict limit fed ls ended) (sym it.grew) it.reads

-- a part of the trace was read, and its lines gathered
pub record IsBetween (now : Reader) (s : System) (strict : Bool) (limit : ℕ) (trace rest : List ℕ) (lines : List Line) : Type 0 where
  pub fed : List ℕ
  pub is : trace ≡ fed ++ rest
  pub reads : Reads now s strict limit fed lines false

-- a refusal in a part of the trace is one of the whole
refused_same : (s : System) (strict : Bool) (limit : ℕ) (trace fed rest : List ℕ) (lines : List Line) (f : TraceFault) → trace ≡ fed ++ rest → reading s strict limit fed false ≡ record { lines = lines; refused = Some f } →
    reading s strict limit trace true ≡ record { lines = lines; refused = Some f }
refused_same s strict limit trace fed rest lines f is refused =
    ap (λ bytes. reading s strict limit bytes true) is ∙ reading_refused s strict limit fed rest true f (ap (λ (r : Reading). r.refused) refused) ∙ refused

pub refused_whole : (s : System) (strict : Bool) (limit : ℕ) (trace fed rest : List ℕ) (lines : List Line) (f : TraceFault) → trace ≡ fed ++ rest → SaysRest (reading s strict limit fed false) lines false (Err f) → SaysRest (reading s strict limit trace true) lines true (Err f)
refused_whole s strict limit trace fed rest lines (fault.BadLine n) is says = refused_same s strict limit trace fed rest lines (fault.BadLine n) is says
refused_whole s strict limit trace fed rest lines (fault.TimeTooLarge n) is says = refused_same s strict limit trace fed rest lines (fault.TimeTooLarge n) is says
refused_whole s strict limit trace fed rest lines (fault.TimeBack n before at) is says = refused_same s strict limit trace fed rest lines (fault.TimeBack n before at) is says
refused_whole s strict limit trace fed rest lines (fault.UnknownStream n) is says = refused_same s strict limit trace fed rest lines (fault.UnknownStream n) is says
refused_whole s strict limit trace fed rest lines (fault.WrongValue n name) is says = refused_same s strict limit trace fed rest lines (fault.WrongValue n name) is says
refused_whole s strict limit trace fed rest lines (fault.Twice n name) is says = refused_same s strict limit trace fed rest lines (fault.Twice n name) is says
refused_whole s strict limit trace fed rest lines (fault.LineTooLong n) is says = refused_same s strict limit trace fed rest lines (fault.LineTooLong n) is says
refused_whole s strict limit trace fed rest lines (fault.TraceTooLong n) is says = refused_same s strict limit trace fed rest lines (fault.TraceTooLong n) is says
refused_whole s strict limit trace fed rest lines fault.Memory is says = tt

pub on_ok : {A E : Type 0} (P : Type 0) (r : Result A E) → P → OnOk r P
on_ok P (Ok x) p = p
on_ok P (Err e) p = tt

pub split_is : (trace fed rest piece after : List ℕ) → trace ≡ fed ++ rest → rest ≡ piece ++ after → trace ≡ fed ++ piece ++ after
split_is trace fed rest piece after is parts = is ∙ ap (λ bytes. fed ++ bytes) parts ∙ sym (append_assoc fed piece after)

-- The parts of a trace: nothing is read yet, a piece more is, and all is.
pub between_none : (now : Reader) (s : System) (strict : Bool) (limit : ℕ) (trace : List ℕ) (lines : List Line) → Reads now s strict limit [] lines false → IsBetween now s strict limit trace trace lines
between_none now s strict limit trace lines reads = record { fed = []; is = refl; reads = reads }

pub between_more : (now new : Reader) (s : System) (strict : Bool) (limit : ℕ) (trace rest piece after : List ℕ) (before lines : List Line) (it : IsBetween now s strict limit trace rest before) → rest ≡ piece ++ after →
    Reads new s strict limit (it.fed ++ piece) lines false → IsBetween new s strict limit trace after lines
between_more now new s strict limit trace rest piece after before lines it is reads =
    record { fed = it.fed ++ piece; is = split_is trace it.fed rest piece after it.is is; reads = reads }

pub all_fed : (now : Reader) (s : System) (strict : Bool) (limit : ℕ) (trace rest : List ℕ) (lines : List Line) → rest ≡ [] → IsBetween now s strict limit trace rest lines → Reads now s strict limit trace lines false
all_fed now s strict limit trace rest lines none it =
    subst (λ (bytes : List ℕ). Reads now s strict limit bytes lines false) (sym (it.is ∙ ap (λ bytes. it.fed ++ bytes) none ∙ append-nil it.fed)) it.reads

pub empty_is : (bytes : List ℕ) → length bytes ≡ 0 → bytes ≡ []
empty_is [] is = refl
empty_is (b ∷ bytes) is = absurd (omega arith)
