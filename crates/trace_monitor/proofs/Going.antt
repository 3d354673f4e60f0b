-- What a monitor of a trace starts from, and what steps of the engine make together.
use Rattle.std.proofs.Common.{◌≡◌, ℕ, suc, ◌≤◌, true, false, nat_eq, List, [], ◌∷◌, ◌++◌, length, refl, sym, ap, subst, ◌∙◌, append_assoc, append-nil, arith, Err}
use Rattle.std.proofs.lemmas.Bool.Decides.{nat_tests}
use Rattle.flat_core.proofs.Members.{contains_head}
use Rattle.std.specs.Prelude.{is_some}
use Rattle.std.specs.List.{AllByRecursion, Contains, flat_map}
use Rattle.tsl_value.proofs.Lists.{none_in_nil}
use Rattle.flat_core.specs.Case.{Streams}
use Rattle.flat_core.specs.Complete.{IsFlat}
use Rattle.flat_core.specs.Ending.{EndsAtBound}
use Rattle.flat_core.specs.Instant.{instants}
use Rattle.flat_core.specs.Line.{Line, inputs_of}
use Rattle.flat_core.specs.Solution.{Solves}
use Rattle.flat_core.specs.System.{System}
use Rattle.flat_core.specs.Text.{due_text, text_at}
use Rattle.monitor_run.specs.declared.monitor.Stop.{Stop}
use Rattle.monitor_run.specs.declared.monitor.Stop.TheVariants as stop
use Rattle.monitor_run.specs.inner.Given.{AreAt}
use Rattle.monitor_run.specs.inner.Next.{IsIdle}
use Rattle.monitor_run.specs.inner.Stands.{Stands}
use Rattle.monitor_run.specs.inner.State as engine
use Rattle.monitor_run.proofs.StepLemmas.{ready_order}
use Rattle.monitor_run.specs.inner.Steps.{AreAsSet, HasRun, HasStepped, NoneIsLeft}
use Rattle.monitor_run.specs.inner.Written.{HasWritten}
use Rattle.monitor_run.proofs.LawLemmas.{goes_on_written, idle_ends, limit_below, named_below}
use Rattle.register_code.specs.inner.Plan.{IsPlanOrder}
use Rattle.trace_reader.specs.inner.LastTime.{or_zero}
use Rattle.trace_reader.specs.inner.Reader.{AwaitsMore}
use Rattle.trace_reader.specs.inner.Reads.{Reads}
use Rattle.trace_monitor.specs.inner.Kept.{Kept}
use Rattle.trace_monitor.specs.Next.{is_nothing}
use Rattle.trace_monitor.specs.inner.Run.{CountsSo, HasCountedTo, HasRunOut, HasStopped, StopsSo}
use Rattle.trace_monitor.specs.inner.State.{State}
use Rattle.trace_monitor.proofs.Counts.{counts_idle, counts_limit, copies_fault}
use Rattle.trace_monitor.proofs.Readiness.{due_at_start, none_read, plan_solution}

pub not_zero : (n : ℕ) → false ≡ nat_eq (suc n) 0
not_zero n = grind (arith, nat_tests)

pub nothing_is : (piece : List ℕ) → is_nothing piece ≡ true → piece ≡ []
nothing_is [] is = refl
nothing_is (b ∷ piece) is = absurd (let e : false ≡ true = not_zero (length piece) ∙ is in cc)

none_given : (given : List Line) → ((l : Line) → Contains given l → Contains [] l) → given ≡ []
none_given [] kept = refl
none_given (g ∷ given) kept = absurd (none_in_nil g (kept g (contains_head g given)))

-- nothing was taken
pub kept_new : (m : State) → engine.IsReady m.engine → m.engine.system ≡ m.system → m.engine.limit ≡ m.options.instants → m.last ≡ 0 → m.engine.bound ≡ 0 → Stands m.engine []
    → Reads m.reader m.system m.options.strict m.options.bytes [] [] false → AwaitsMore m.reader → Kept m []
kept_new m ready system limit last bound stands reads awaits =
    let within = ready.within in
    let zero : m.engine.next ≡ 0 = omega arith in
    let none = none_given m.engine.given stands.kept in
    let nothing : m.reader.taken ≡ 0 = reads.taken_is in
    record {
      lines = [];
      text = [];
      reads = reads;
      waits = record {
        system_is = reads.system;
        strict_is = reads.strict_is;
        bytes_limit = reads.limit_is;
        instants_limit = limit;
        awaits = awaits;
        within = omega arith;
        in_step = record {
          system_is = system ∙ sym reads.system;
          last_is = last ∙ sym (ap or_zero reads.last);
          bound_is = bound ∙ sym last;
          can_save = record {
            going = stands.going;
            idle = record {
              start = λ at. omega arith;
              events = subst (λ (ls : List Line). AllByRecursion (λ l. m.engine.bound ≤ l.time) ls) (sym none) tt;
              delays = λ i u is. omega arith;
            };
            at_bound = subst (AreAt m.engine.bound) (sym none) tt;
          };
          open_later = λ some. absurd (let size : length m.engine.given ≡ 0 = ap length none in omega arith);
          seen = λ i. reads.seen i ∙ sym (ap (λ (ls : List Line). is_some (inputs_of ls i m.last)) none);
        };
      };
      all = none_read m.system m.options.strict m.options.bytes;
      last_is = last;
      written = record { stands = stands; text_is = λ z zs. sym (ap (λ (n : ℕ). flat_map (text_at m.engine.system z) (instants m.engine.system [] z n)) zero) };
      due = due_at_start m.system m.options m.engine.order (subst IsFlat system ready.whole) (subst (λ (s : System). IsPlanOrder s m.engine.order) system (ready_order m.engine ready));
    }

-- ---- steps, one after the other
pub record HasGoneOn (old new : engine.State) (lines : List Line) (text before after : List ℕ) : Type 0 where
  pub added : List ℕ
  pub after_is : after ≡ before ++ added
  pub as_set : AreAsSet old new
  pub written : HasWritten new lines (text ++ added)

pub not_begun : (m : engine.State) (lines : List Line) (text before : List ℕ) → HasWritten m lines text → HasGoneOn m m lines text before before
not_begun m lines text before written = record {
  added = [];
  after_is = sym (append-nil before);
  as_set = record { system = refl; in_place = refl; order = refl; limit = refl; bound = refl };
  written = subst (λ (l : List ℕ). HasWritten m lines l) (sym (append-nil text)) written;
}

module _ (first old new : engine.State) (lines : List Line) (text before mid after : List ℕ) (ready : engine.IsReady old) (on : HasGoneOn first old lines text before mid) where
  pub ran_on : HasRun old new lines mid after → HasGoneOn first new lines text before after
  ran_on run =
      let (z, zs) = plan_solution old.system old.order ready.whole (ready_order old ready) (inputs_of lines) (suc run.time) in
      let step = run.each z zs in
      let here = text_at old.system z run.time in
      record {
        added = on.added ++ here;
        after_is = step.1 ∙ ap (λ (l : List ℕ). l ++ here) on.after_is ∙ append_assoc before on.added here;
        as_set = record {
          system = run.as_set.system ∙ on.as_set.system;
          in_place = run.as_set.in_place ∙ on.as_set.in_place;
          order = run.as_set.order ∙ on.as_set.order;
          limit = run.as_set.limit ∙ on.as_set.limit;
          bound = run.as_set.bound ∙ on.as_set.bound;
        };
        written = subst (λ (l : List ℕ). HasWritten new lines l) (append_assoc text on.added here)
            (goes_on_written old new lines (text ++ on.added) mid here on.written (subst (λ (l : List ℕ). HasRun old new lines mid l) step.1 run));
      }

  pub ran_out : (new ≡ old) × (after ≡ mid) × NoneIsLeft old lines → IsIdle new → HasRunOut first new lines text before after
  ran_out (same, rest, none) idle = record {
    added = on.added;
    after_is = rest ∙ on.after_is;
    as_set = subst (AreAsSet first) (sym same) on.as_set;
    written = subst (λ (m : engine.State). HasWritten m lines (text ++ on.added)) (sym same) on.written;
    idle = idle;
    counts = as_first (λ s b n. HasCountedTo new s lines b b)
        (subst (λ (m : engine.State). HasCountedTo m old.system lines old.bound old.bound) (sym same) (counts_idle old ready lines on.written.stands none));
    ends = as_first (λ s b n. (w : Streams) → Solves s (inputs_of lines) b w → (text ++ on.added ≡ due_text s lines w b n) × EndsAtBound s lines w b n)
        (λ w ws. idle_ends old lines (text ++ on.added) ready on.written none w ws);
  }
    where
      as_first : (P : System → ℕ → ℕ → Type 0) → P old.system old.bound old.limit → P first.system first.bound first.limit
      as_first P p = subst (λ s. P s first.bound first.limit) on.as_set.system (subst (λ b. P old.system b first.limit) on.as_set.bound (subst (λ n. P old.system old.bound n) on.as_set.limit p))

  pub stopped_so : (why : Stop) → AreAsSet old new → HasStepped old new lines mid after (Err why) → HasStopped first new lines text before after why
  stopped_so (stop.Fault t i kind) as_set (rest, faulted) = record {
    added = on.added;
    after_is = λ _. rest ∙ on.after_is;
    stops = as_first (λ s b n. StopsSo s lines b n (text ++ on.added) (stop.Fault t i kind)) (λ w ws. named_below old new lines (text ++ on.added) t i kind ready on.written faulted w ws);
    counts = as_first (λ s b n. CountsSo new s lines b (stop.Fault t i kind)) (copies_fault old new lines t i kind as_set faulted);
  }
    where
      as_first : (P : System → ℕ → ℕ → Type 0) → P old.system old.bound old.limit → P first.system first.bound first.limit
      as_first P p = subst (λ s. P s first.bound first.limit) on.as_set.system (subst (λ b. P old.system b first.limit) on.as_set.bound (subst (λ n. P old.system old.bound n) on.as_set.limit p))
  stopped_so (stop.Limit count t) as_set (rest, same, full) = record {
    added = on.added;
    after_is = λ _. rest ∙ on.after_is;
    stops = as_first (λ s b n. StopsSo s lines b n (text ++ on.added) (stop.Limit count t)) (full.count_is, λ w ws. limit_below old lines (text ++ on.added) count t ready on.written full w ws);
    counts = as_first (λ s b n. CountsSo new s lines b (stop.Limit count t)) (counts_limit old ready lines on.written.stands new count t same full);
  }
    where
      as_first : (P : System → ℕ → ℕ → Type 0) → P old.system old.bound old.limit → P first.system first.bound first.limit
      as_first P p = subst (λ s. P s first.bound first.limit) on.as_set.system (subst (λ b. P old.system b first.limit) on.as_set.bound (subst (λ n. P old.system old.bound n) on.as_set.limit p))
  stopped_so stop.Memory as_set begun = record { added = []; after_is = λ some. absurd (some refl); stops = tt; counts = tt }
