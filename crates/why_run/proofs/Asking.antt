-- A question that is asked of a trace, a read at a time.
use Rattle.std.proofs.Common.{◌≡◌, ℕ, ◌+◌, ◌≤◌, Bool, true, false, ◌||◌, List, [], ◌∷◌, ◌++◌, length, refl, sym, ◌∙◌, ap, subst, append-nil, length-append, arith, IsTrue}
use Rattle.flat_core.specs.System.{System}
use Rattle.trace_monitor.specs.declared.options.Options.{Options}
use Rattle.trace_monitor.specs.Next.{is_nothing}
use Rattle.trace_monitor.proofs.Going.{not_zero}
use Rattle.trace_reader.specs.declared.limits.TheConstants.{MOST_PIECE_BYTES}
use Rattle.trace_why.specs.Answer.{AnswersBy}
use Rattle.trace_why.specs.Ending.{IsAwaited}
use Rattle.trace_why.specs.declared.ending.WhyEnding.{WhyEnding}
use Rattle.trace_why.specs.declared.question.Question.{Question}
use Rattle.trace_why.specs.inner.Kept.{Kept}
use Rattle.trace_why.specs.inner.State.{State}
use Rattle.tsl_world.specs.declared.outside.Did.{Did}
use Rattle.tsl_world.specs.declared.outside.Did.TheVariants.{NotTook, Opened, Took}
use Rattle.tsl_world.specs.declared.outside.Slot.TheVariants.{Trace}
use Rattle.tsl_world.specs.Journal.{ended, taken, AtReads, Each, IsDone, IsRead, StopsAtEnd}
use Rattle.tsl_world.specs.Runs.{Grows, Runs}
use Rattle.tsl_world.specs.Standing.{Standing}
use Rattle.tsl_world.proofs.Journals.{Each-append, ended-append, taken-append}
use Rattle.tsl_world.proofs.Places.{at_each, at_none, at_one, stops_one}
use Rattle.tsl_world.proofs.Runs.{go_on, grew_after, grew_both, one_call}
use Rattle.why_run.specs.Effects.{AskEnds, Asks, AsksTrace, HasAsked, IsTraceRead, MayAsk, asks, has_asked}

-- the end of the trace is read by a read that gives nothing
took_end : (part : List Did) (piece : List ℕ) → ended Trace part ≡ false → ended Trace (part ++ Took Trace piece ∷ []) ≡ is_nothing piece
took_end part [] is = ended-append Trace part (Took Trace [] ∷ []) ∙ ap (λ (b : Bool). b || true) is
took_end part (x ∷ piece) is = ended-append Trace part (Took Trace (x ∷ piece) ∷ []) ∙ ap (λ (b : Bool). b || false) is ∙ not_zero (length piece)

-- a piece that is something has a byte more
pub takes_more : (count : ℕ) (bytes piece : List ℕ) → is_nothing piece ≡ false → count ≤ length bytes → count + 1 ≤ length (bytes ++ piece)
takes_more count bytes [] some le = absurd (let e : true ≡ false = some in cc)
takes_more count bytes (x ∷ piece) some le = let long = length-append bytes (x ∷ piece) in omega arith

-- what is said of a system, options and a question, where they are the same
pub of_same : (P : System → Options → Question → Type 0) (s u : System) (o p : Options) (q r : Question) → s ≡ u → o ≡ p → q ≡ r → P s o q → P u p r
of_same P s u o p q r same alike one it = subst (λ (x : Question). P u p x) one (subst (λ (x : Options). P u x q) alike (subst (λ (x : System). P x o q) same it))

-- a question's monitor has taken no more bytes than it may
pub takes_within : (m : State) (fed : List ℕ) → Kept m fed → length fed ≤ m.options.bytes
takes_within m fed kept =
    let taken = kept.run.reads.taken_is in
    let most = kept.run.waits.within in
    let limit = kept.run.waits.bytes_limit in
    let same : m.run.options.bytes ≡ m.options.bytes = ap (λ (o : Options). o.bytes) kept.options_are in
    omega arith

module _ (s : System) (o : Options) (q : Question) where
  -- The calls so far are reads of the trace that did not fail. They gave these bytes, and its end or not.
  pub record Asked (bytes : List ℕ) (is_end : Bool) (part : List Did) : Type 0 where
    pub work : Each IsTraceRead part
    pub done : Each IsDone part
    pub ends : StopsAtEnd Trace part
    pub reads : AtReads Trace (MayAsk s o q) part
    pub taken_is : taken Trace part ≡ bytes
    pub end_is : ended Trace part ≡ is_end

  -- before any call
  pub none_asked : Asked [] false []
  none_asked = record {
    work = tt;
    done = tt;
    ends = at_none (IsRead Trace) (λ before. ended Trace before ≡ false);
    reads = at_none (IsRead Trace) (MayAsk s o q);
    taken_is = refl;
    end_is = refl;
  }

  module _ (bytes : List ℕ) (awaited : IsAwaited s o q bytes false) (part : List Did) (asked : Asked bytes false part) where
    may_ask : MayAsk s o q part
    may_ask = subst (λ (l : List ℕ). IsAwaited s o q l false) (sym asked.taken_is) awaited

    -- one read more
    pub read_more : (piece : List ℕ) → length piece ≤ MOST_PIECE_BYTES → Asked (bytes ++ piece) (is_nothing piece) (part ++ Took Trace piece ∷ [])
    read_more piece short = record {
      work = Each-append IsTraceRead part (Took Trace piece ∷ []) asked.work ((refl, short), tt);
      done = Each-append IsDone part (Took Trace piece ∷ []) asked.done (tt, tt);
      ends = at_one (IsRead Trace) (λ before. ended Trace before ≡ false) part (Took Trace piece) asked.ends asked.end_is;
      reads = at_one (IsRead Trace) (MayAsk s o q) part (Took Trace piece) asked.reads may_ask;
      taken_is = taken-append Trace part (Took Trace piece ∷ []) ∙ ap (λ (l : List ℕ). taken Trace part ++ l) (append-nil piece) ∙ ap (λ (l : List ℕ). l ++ piece) asked.taken_is;
      end_is = took_end part piece asked.end_is;
    }

    -- one read more that failed
    pub read_failed : Asks s o q (part ++ NotTook Trace ∷ [])
    read_failed = record {
      work = Each-append IsTraceRead part (NotTook Trace ∷ []) asked.work (refl, tt);
      ends = at_one (IsRead Trace) (λ before. ended Trace before ≡ false) part (NotTook Trace) asked.ends asked.end_is;
      stops = stops_one part (NotTook Trace) asked.done;
      reads = at_one (IsRead Trace) (MayAsk s o q) part (NotTook Trace) asked.reads may_ask;
    }

  module _ (bytes : List ℕ) (is_end : Bool) (part : List Did) (asked : Asked bytes is_end part) where
    pub asked_so : Asks s o q part
    asked_so = record { work = asked.work; ends = asked.ends; stops = at_each IsDone part asked.done; reads = asked.reads }

    -- more is awaited
    pub asked_more : IsAwaited s o q bytes is_end → Asked bytes false part
    asked_more awaited = subst (λ (e : Bool). Asked bytes e part) awaited.unended asked

    -- the question has its ending
    pub asked_by : (by : WhyEnding) → AnswersBy s o q bytes is_end by → HasAsked s o q by part
    asked_by by answers = record {
      done = asked.done;
      answers = subst (λ (l : List ℕ). AnswersBy s o q l (ended Trace part) by) (sym asked.taken_is) (subst (λ (e : Bool). AnswersBy s o q bytes e by) (sym asked.end_is) answers);
    }

  pub awaits_more : (bytes : List ℕ) (is_end : Bool) → IsAwaited s o q bytes is_end → IsAwaited s o q bytes false
  awaits_more bytes is_end awaited = subst (λ (e : Bool). IsAwaited s o q bytes e) awaited.unended awaited

  -- one read of the trace more, told or not
  module _ {W : Type 0} (told : W → Bool) (journal : W → List Did) (standing : W → Standing) (old mid new : W) (bytes : List ℕ) (awaited : IsAwaited s o q bytes false) (calls : Runs told journal standing old mid (Asked bytes false))
      (kept : IsTrue (told new) → IsTrue (told mid)) (stands : standing new ≡ standing mid) where
    pub reads_on : (piece : List ℕ) → length piece ≤ MOST_PIECE_BYTES → (IsTrue (told new) → journal new ≡ journal mid ++ Took Trace piece ∷ []) → Runs told journal standing old new (Asked (bytes ++ piece) (is_nothing piece))
    reads_on piece short adds =
        go_on told journal standing old mid new _ (λ p. p ≡ Took Trace piece ∷ []) _ calls
        (one_call told journal standing mid new (Took Trace piece) (λ p. p ≡ Took Trace piece ∷ []) kept stands adds refl)
        (λ p r at is. subst (λ (l : List Did). Asked (bytes ++ piece) (is_nothing piece) (p ++ l)) (sym is) (read_more bytes awaited p at piece short))

    -- or one that failed
    pub read_fails : (IsTrue (told new) → journal new ≡ journal mid ++ NotTook Trace ∷ []) → Runs told journal standing old new (Asks s o q)
    read_fails adds =
        go_on told journal standing old mid new _ (λ p. p ≡ NotTook Trace ∷ []) _ calls
        (one_call told journal standing mid new (NotTook Trace) (λ p. p ≡ NotTook Trace ∷ []) kept stands adds refl)
        (λ p r at is. subst (λ (l : List Did). Asks s o q (p ++ l)) (sym is) (read_failed bytes awaited p at))

-- The trace was opened, and the question asked of it.
module _ {W : Type 0} (told : W → Bool) (journal : W → List Did) (standing : W → Standing) (old mid new : W) (trace : List ℕ) (s : System) (o : Options) (q : Question)
    (kept : IsTrue (told mid) → IsTrue (told old)) (adds : IsTrue (told mid) → journal mid ≡ journal old ++ Opened Trace trace ∷ []) (calls : Runs told journal standing mid new (Asks s o q)) where
  pub opened_asks : Grows told journal old new (AsksTrace trace s o q)
  opened_asks = record {
    kept = λ t. kept (calls.kept t);
    grew = λ t. grew_after (journal old) (journal mid) (journal new) (Opened Trace trace) (Asks s o q) (AsksTrace trace s o q) (adds (calls.kept t)) (calls.grew t) (λ p at. asks p at);
  }

  -- and it ends so
  pub opened_ends : (by : WhyEnding) → Runs told journal standing mid new (HasAsked s o q by) → Grows told journal old new (AskEnds trace s o q by)
  opened_ends by ends = record {
    kept = λ t. kept (calls.kept t);
    grew = λ t. grew_after (journal old) (journal mid) (journal new) (Opened Trace trace) (λ p. Asks s o q p × HasAsked s o q by p) (AskEnds trace s o q by) (adds (calls.kept t))
        (grew_both (journal mid) (journal new) (Asks s o q) (HasAsked s o q by) (λ p. Asks s o q p × HasAsked s o q by p) (calls.grew t) (ends.grew t) (λ p at has. (at, has)))
        (λ p both. has_asked p both.0 both.1);
  }
