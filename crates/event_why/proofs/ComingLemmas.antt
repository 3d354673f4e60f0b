-- Before the next instant nothing happens.
use Rattle.std.proofs.Common.{◌≡◌, ◌==◌, ℕ, zero, suc, ◌<◌, ◌≤◌, ◌^◌, Bool, true, false, ◌&&◌, ◌||◌, List, [], ◌∷◌, Option, Some, None, refl, sym, ap, ◌∙◌, inl, inr, arith}
use Rattle.std.proofs.lemmas.Bool.{cases_Bool, cases_lt, eqb-true, lt-ltb, or_parts, true≢false}
use Rattle.std.specs.Prelude.{IsTrue, if◌then◌else◌}
use Rattle.flat_core.specs.declared.equation.Op.TheVariants as op
use Rattle.flat_core.specs.Case.{Streams}
use Rattle.flat_core.specs.Events.{expires}
use Rattle.flat_core.specs.Fault.{is_faulty}
use Rattle.flat_core.specs.Instant.{is_delay, is_instant}
use Rattle.flat_core.specs.Line.{Line, inputs_of, is_line_on}
use Rattle.flat_core.specs.Pending.{option_is, pending}
use Rattle.flat_core.specs.Solution.{Solves}
use Rattle.flat_core.specs.Stream.{has_event}
use Rattle.flat_core.specs.System.{System, equation, runs}
use Rattle.flat_core.specs.WellFormed.{IsWellFormed}
use Rattle.flat_core.specs.inner.BoundLaws.{HappensAtInstants}
use Rattle.flat_core.proofs.DueLemmas.{delay_kept, expires_is-due}
use Rattle.flat_core.proofs.Members.{none_from, none_in}
use Rattle.flat_core.proofs.Silence.{happens_at_instants}
use Rattle.flat_core.proofs.StillLemmas.{no_input, pending_still}
use Rattle.flat_core.proofs.WellFormedRank.{rank_of, well_formed_ranked}
use Rattle.flat_slice.proofs.SliceLemmas.{case_of-inputs}
use Rattle.event_why.specs.declared.draft.Draft.{Draft}
use Rattle.event_why.specs.inner.Coming.{is_due_on, is_next_by}
use Rattle.event_why.specs.inner.Drafted.{due_of, fact_of}
use Rattle.event_why.specs.inner.Sliced.{heard}
use Rattle.event_why.specs.inner.Tale.{IsStory, Tale, due_fact, due_time, due_told}
use Rattle.event_why.proofs.CalmLemmas.{IsDelay, delay_from, reset_runs, told_of}
use Rattle.event_why.proofs.SlicedLemmas.{heard_at}
use Rattle.event_why.proofs.StoryLemmas.{faulty_inputs}

-- what is due at a time is due by what can be told
due_as_told : (v : ℕ) → v < 2 ^ 63 → (x : Option ℕ) → option_is v (due_time x) ≡ false → option_is v x ≡ false
due_as_told v small None not_due = refl
due_as_told v small (Some u) not_due = elim (cases_Bool (u == v)) [
  | inr other ↦ other
  | inl same ↦
      let is = eqb-true u v same in
      let low : u < 2 ^ 63 = omega (arith, small, is) in
      let told : due_time (Some u) ≡ Some u = λ k. if lt-ltb u (2 ^ 63) low k then Some u else None in
      absurd (true≢false (sym same ∙ sym (ap (option_is v) told) ∙ not_due))
]

module _ (T : Tale) (story : IsStory T) (lines : List Line) (formed : IsWellFormed T.system) (bound : ℕ) (small : bound ≤ 2 ^ 63) (solves : Solves T.system (inputs_of lines) bound T.streams) (draft : Draft) (low : ℕ) (pends : (i : ℕ) → fact_of draft.steps.items draft.pending.numbers.items i ≡ due_told T.system T.streams low i) where
  abbrev f : System
  f = T.system

  abbrev z : Streams
  z = T.streams

  abbrev own : List Line
  own = heard f lines

  solves_heard : Solves f (inputs_of own) bound z
  solves_heard = record {
    each = λ i e run at u lt. solves.each i e run at u lt ∙ sym (case_of-inputs (inputs_of own) (inputs_of lines) z i u e (λ input. heard_at f i u run lines));
  }

  quiet : HappensAtInstants f own bound z
  quiet = happens_at_instants f own z bound story.whole.proper story.whole.complete.typed (rank_of f formed) (well_formed_ranked f formed) solves_heard

  module _ (v : ℕ) (lt : v < bound) (le : low ≤ v) (calm : (i u : ℕ) → IsTrue (runs f i) → low ≤ u → u < v → z i u ≡ None) (none : is_next_by f lines draft v ≡ false) where
    early : ((v == 0) ≡ false) × (is_line_on v own ≡ false)
    early = or_parts (v == 0) (is_line_on v own) (or_parts ((v == 0) || is_line_on v own) (is_due_on f draft v) none).0

    not_due : is_due_on f draft v ≡ false
    not_due = (or_parts ((v == 0) || is_line_on v own) (is_due_on f draft v) none).1

    not_pending : (i : ℕ) → IsTrue (runs f i) → (a : IsDelay T i) → (n : ℕ) → low ≡ n → option_is v (pending (z a.d) (z a.r) (z i) n) ≡ false
    not_pending i run a zero low_is = refl
    not_pending i run a (suc m) low_is =
        let told = none_in (λ j. option_is v (due_of (fact_of draft.steps.items draft.pending.numbers.items j))) f.running not_due i run in
        let is : fact_of draft.steps.items draft.pending.numbers.items i ≡ due_fact z i op.Delay (a.d ∷ a.r ∷ []) (suc m) =
        pends i ∙ told_of T i a low ∙ ap (due_fact z i op.Delay (a.d ∷ a.r ∷ [])) low_is in
        due_as_told v (omega (arith, lt, small)) (pending (z a.d) (z a.r) (z i) (suc m)) (sym (ap (λ x. option_is v (due_of x)) is) ∙ told)

    no_delay : (i : ℕ) → IsTrue (runs f i) → IsDelay T i → has_event (z i v) ≡ false
    no_delay i run a =
        let kept : (w : ℕ) → w < bound → has_event (z i w) ≡ expires (z a.d) (z a.r) (z i) w = delay_kept f (inputs_of lines) z bound solves i a.at a.run a.is a.op_is a.d a.r a.args_are in
        kept v lt ∙ expires_is-due (z a.d) (z a.r) (z i) v (λ w below. kept w (omega (arith, below, lt)))
        ∙ ap (option_is v) (pending_still (z a.d) (z a.r) (z i) low v le (λ u from below. (calm a.r u (reset_runs T i story a) from below, calm i u run from below)))
        ∙ not_pending i run a low refl

    no_event : (i : ℕ) → IsTrue (runs f i) → (b : Bool) → is_delay (equation f i) ≡ b → (is_delay (equation f i) && has_event (z i v)) ≡ false
    no_event i run false other = λ k. other k && has_event (z i v)
    no_event i run true delay = (λ k. delay k && has_event (z i v)) ∙ no_delay i run (delay_from T i story run delay)

    no_instant : is_instant f own z v ≡ false
    no_instant =
        let delays = none_from (λ i. is_delay (equation f i) && has_event (z i v)) f.running (λ i run. no_event i run (is_delay (equation f i)) refl) in
        λ k. early.0 k || early.1 k || delays k

    pub quiet_at : (i : ℕ) → IsTrue (runs f i) → (z i v ≡ None) × (inputs_of lines i v ≡ None)
    quiet_at i run = (quiet.silent v lt no_instant i run, sym (heard_at f i v run lines) ∙ no_input own i v early.1)

    pub clean_at : is_faulty f (inputs_of lines) z v ≡ false
    clean_at = faulty_inputs f (inputs_of lines) (inputs_of own) z v ∙ quiet.sound v lt no_instant

  pub all_quiet : (high : ℕ) → high ≤ bound → ((u : ℕ) → low ≤ u → u < high → is_next_by f lines draft u ≡ false) → (i u : ℕ) → IsTrue (runs f i) → low ≤ u → u < high → (z i u ≡ None) × (inputs_of lines i u ≡ None)
  all_quiet zero le none i u run from below = absurd (omega (arith, below))
  all_quiet (suc h) le none i u run from below =
      let before : (j w : ℕ) → IsTrue (runs f j) → low ≤ w → w < h → (z j w ≡ None) × (inputs_of lines j w ≡ None) =
      all_quiet h (omega (arith, le)) (λ w since lt. none w since (omega (arith, lt))) in
      elim (cases_lt u h) [
        | inl early ↦ before i u run from early
        | inr late ↦
            let same : h ≡ u = omega (arith, late, below) in
            quiet_at u (omega (arith, below, le)) from (λ j w run_j since lt. (before j w run_j since (omega (arith, lt, same))).0) (none u from below) i run
      ]

  pub all_clean : (high : ℕ) → high ≤ bound → ((u : ℕ) → low ≤ u → u < high → is_next_by f lines draft u ≡ false) → (u : ℕ) → low ≤ u → u < high → is_faulty f (inputs_of lines) z u ≡ false
  all_clean high le none u from below =
      clean_at u (omega (arith, below, le)) from (λ j w run since lt. (all_quiet high le none j w run since (omega (arith, lt, below))).0) (none u from below)
