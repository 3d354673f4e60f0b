-- The causes of the endings exclude each other.
use Rattle.std.proofs.Common.{◌≡◌, ◌⊎◌, inl, inr, ℕ, ◌≤◌, Bool, List, length, Option, Some, None, refl, sym, ◌∙◌, ap, subst, arith}
use Rattle.alias_rules.specs.Fine.{IsTakenPlan}
use Rattle.alias_rules.proofs.TakenPlan.{one_plan}
use Rattle.code_file.specs.declared.limits.TheConstants.{MOST_CODE_BYTES}
use Rattle.code_file.specs.Spelling.{spelling}
use Rattle.command_words.specs.declared.command.Command.{Command}
use Rattle.command_words.specs.declared.command.Command.TheVariants as command
use Rattle.command_words.specs.declared.command.Form.{Form}
use Rattle.command_words.specs.declared.command.Form.TheVariants as form
use Rattle.command_words.specs.declared.command.Origin.{Origin}
use Rattle.command_words.specs.declared.command.Origin.TheVariants as origin
use Rattle.command_words.specs.declared.command.Run.{Run}
use Rattle.command_words.specs.declared.command.Why.{Why}
use Rattle.command_words.specs.declared.command.Workload.{Workload}
use Rattle.flat_core.specs.System.{System}
use Rattle.lift_func.specs.declared.fault.FaultKind.{FaultKind}
use Rattle.slice_text.specs.Text.{HasOutput}
use Rattle.state_snapshot.specs.declared.fault.StateFault.{StateFault}
use Rattle.tsl_value.specs.declared.place.Place.{Place}
use Rattle.tsl_world.specs.declared.outside.Channel.TheVariants.{Out}
use Rattle.tsl_world.specs.declared.outside.Did.{Did}
use Rattle.tsl_world.specs.declared.outside.Slot.TheVariants as slot
use Rattle.tsl_world.specs.declared.outside.Slot.TheVariants.{Spec, Trace}
use Rattle.tsl_world.specs.Seen.{Seen, seen}
use Rattle.compiled_meaning.proofs.Kept.{one_is_compiled, refused_compiles_none}
use Rattle.compiled_meaning.specs.Compiled.{IsRefusedBy}
use Rattle.source_rules.specs.declared.fault.SpecFault.{SpecFault}
use Rattle.trace_bench.proofs.Compiling.{refused_benches_none}
use Rattle.trace_bench.proofs.Endings.{one_ending}
use Rattle.trace_bench.specs.Bench.{source_of}
use Rattle.trace_bench.specs.declared.outcome.Outcome.TheVariants as outcome
use Rattle.trace_bench.specs.inner.Laws.{AreOfOneKind}
use Rattle.trace_monitor.specs.declared.ending.RunEnding.{RunEnding}
use Rattle.trace_monitor.specs.declared.ending.RunEnding.TheVariants as run
use Rattle.trace_monitor.specs.declared.options.Options.{Options}
use Rattle.trace_reader.specs.declared.fault.TraceFault.{TraceFault}
use Rattle.tessla_cli.specs.declared.ending.Ending.{Ending}
use Rattle.tessla_cli.specs.declared.ending.Ending.TheVariants as ending
use Rattle.tessla_cli.specs.Alone.{BenchStops, IsTallyText}
use Rattle.tessla_cli.specs.Asked.{origin_file, tells_end}
use Rattle.tessla_cli.specs.Causes.{BenchCause, Cause, Finishes, OfTrace, Refuses, RefusesState, RunCause, StateCause, WhyCause, WriteCause, Stands}
use Rattle.tessla_cli.specs.Endings.{OfEnding, ending_of}
use Rattle.tessla_cli.specs.Explained.{OfAnswer, answer_text, answered}
use Rattle.tessla_cli.specs.Failures.{Failures}
use Rattle.tessla_cli.specs.Finished.{RunFinishes}
use Rattle.trace_run.proofs.Causes.{Kind, kind_of, one_kind, done as all_done, refused as line_refused, faulted as has_faulted, limited as is_limited}
use Rattle.trace_run.specs.Before.{Before}
use Rattle.trace_run.specs.Means.{EndsAt, WatchEndsAs, all_of}
use Rattle.trace_run.specs.Program.{Program}
use Rattle.tessla_cli.specs.Messages.{status_of}
use Rattle.tessla_cli.specs.Printed.{AllowsForm, HasText, RefusesForm}
use Rattle.tessla_cli.specs.Outcome.{Concludes, Outcome, IsExact}
use Rattle.tessla_cli.specs.Outcome.Outcome.{told, outside, memory}
use Rattle.tessla_cli.specs.Running.{HasState, IsBefore, OfSource}
use Rattle.tessla_cli.specs.Stages.{at_program, at_state, at_words, at_work, stage_of}
use Rattle.tessla_cli.proofs.Loading.{one_program, refusal_is, runs_unrefused}
use Rattle.tessla_cli.proofs.Questions.{of_answer_weaker, one_status}
use Rattle.tessla_cli.proofs.Refused.{run_at_work}
use Rattle.tessla_cli.proofs.Since.{left_can_go_on, state_unrefused}

-- the status of endings of a kind
abbrev status_at : Kind → ℕ
status_at all_done = 0
status_at line_refused = 4
status_at has_faulted = 1
status_at is_limited = 7

status_by_kind : (how : RunEnding) → status_of (ending_of how) ≡ status_at (kind_of how)
status_by_kind run.Done = refl
status_by_kind (run.Trace fault) = refl
status_by_kind (run.Fault t k place) = refl
status_by_kind (run.Limit n t) = refl

same_status : (o : Options) (bytes : List ℕ) (tells_end read : Bool) (p : Program) (how other : RunEnding) → EndsAt p o bytes tells_end read how → EndsAt p o bytes tells_end read other
    → status_of (ending_of how) ≡ status_of (ending_of other)
same_status o bytes tells_end read p how other a b = status_by_kind how ∙ ap status_at (one_kind o bytes tells_end read p how other a b) ∙ sym (status_by_kind other)

-- endings of one kind have one status
kind_status : (how other : RunEnding) → AreOfOneKind how other → status_of (ending_of how) ≡ status_of (ending_of other)
kind_status run.Done run.Done same = refl
kind_status run.Done (run.Trace f) same = absurd same
kind_status run.Done (run.Fault t kind place) same = absurd same
kind_status run.Done (run.Limit n t) same = absurd same
kind_status (run.Trace f) run.Done same = absurd same
kind_status (run.Trace f) (run.Trace g) same = refl
kind_status (run.Trace f) (run.Fault t kind place) same = absurd same
kind_status (run.Trace f) (run.Limit n t) same = absurd same
kind_status (run.Fault t kind place) run.Done same = absurd same
kind_status (run.Fault t kind place) (run.Trace f) same = absurd same
kind_status (run.Fault t kind place) (run.Fault u l at) same = refl
kind_status (run.Fault t kind place) (run.Limit n u) same = absurd same
kind_status (run.Limit n t) run.Done same = absurd same
kind_status (run.Limit n t) (run.Trace f) same = absurd same
kind_status (run.Limit n u) (run.Fault t kind place) same = absurd same
kind_status (run.Limit n t) (run.Limit m u) same = refl

-- where there is a tally there is no ending without one
tally_or_stops : (kind : Workload) (n : ℕ) (text : List ℕ) (by : Ending) → IsTallyText kind n text → BenchStops kind n by → ⊥
tally_or_stops kind n text by is (inl (fault, refused, same)) = refused_benches_none (source_of kind) fault n (outcome.Whole is.0) refused is.1
tally_or_stops kind n text by is (inr (how, stopped, same)) = one_ending (source_of kind) n (outcome.Whole is.0) (outcome.Stopped how) is.1 stopped

-- all endings without one have one status
one_stop : (kind : Workload) (n : ℕ) (by other : Ending) → BenchStops kind n by → BenchStops kind n other → status_of by ≡ status_of other
one_stop kind n by other (inl (fault, refused, is)) (inl (fault_2, refused_2, is_2)) = ap status_of is ∙ sym (ap status_of is_2)
one_stop kind n by other (inl (fault, refused, is)) (inr (how, stopped, is_2)) =
    absurd (refused_benches_none (source_of kind) fault n (outcome.Stopped how) refused stopped)
one_stop kind n by other (inr (how, stopped, is)) (inl (fault, refused, is_2)) =
    absurd (refused_benches_none (source_of kind) fault n (outcome.Stopped how) refused stopped)
one_stop kind n by other (inr (how, stopped, is)) (inr (how_2, stopped_2, is_2)) =
    ap status_of is ∙ kind_status how how_2 (one_ending (source_of kind) n (outcome.Stopped how) (outcome.Stopped how_2) stopped stopped_2) ∙ sym (ap status_of is_2)

-- a bench ends with its tally, or without one
bench_cases : (kind : Workload) (n : ℕ) (by : Ending) → BenchCause kind n by → ((by ≡ ending.Done) × ((text : List ℕ) × IsTallyText kind n text)) ⊎ BenchStops kind n by
bench_cases kind n ending.Done a = inl (refl, a)
bench_cases kind n ending.Words a = inr a
bench_cases kind n (ending.Spec fault) a = inr a
bench_cases kind n (ending.Code fault) a = inr a
bench_cases kind n (ending.NoOutput name) a = inr a
bench_cases kind n (ending.State fault) a = inr a
bench_cases kind n (ending.Trace fault) a = inr a
bench_cases kind n (ending.Fault t k p) a = inr a
bench_cases kind n (ending.NoEvent name t) a = inr a
bench_cases kind n (ending.Limit m t) a = inr a

bench_causes : (kind : Workload) (n : ℕ) (by other : Ending) → BenchCause kind n by → BenchCause kind n other → status_of by ≡ status_of other
bench_causes kind n by other a b = elim (bench_cases kind n by a) [
  | inl first ↦ elim (bench_cases kind n other b) [
    | inl second ↦ ap status_of first.0 ∙ sym (ap status_of second.0)
    | inr stops ↦ absurd (tally_or_stops kind n first.1.0 other first.1.1 stops)
  ]
  | inr stops ↦ elim (bench_cases kind n other b) [
    | inl second ↦ absurd (tally_or_stops kind n second.1.0 by second.1.1 stops)
    | inr too ↦ one_stop kind n by other stops too
  ]
]

-- what stands against a text of a form does not allow it
not_both : (f : Form) (s : System) (by : Ending) → AllowsForm f s → RefusesForm f s by → ⊥
not_both form.Check s by allows refuses = refuses
not_both form.Flat s by allows refuses = refuses
not_both form.Show s by allows refuses = refuses
not_both form.Code s by allows refuses = refuses
not_both (form.Slice name) s by allows refuses = refuses.1 allows
not_both (form.File name) s by allows refuses =
    let long = refuses.1 in
    let one = one_plan s allows.set allows.order long.set long.order allows.taken long.taken in
    let short : length (spelling (record { system = s; in_place = long.set; order = long.order })) ≤ MOST_CODE_BYTES =
    subst (λ (set : List ℕ). length (spelling (record { system = s; in_place = set; order = long.order })) ≤ MOST_CODE_BYTES) one.set_is
    (subst (λ (order : List ℕ). length (spelling (record { system = s; in_place = allows.set; order = order })) ≤ MOST_CODE_BYTES) one.order_is allows.holds) in
    let much = long.holds in
    omega arith

-- and all that stands against it has one status
one_refusal : (f : Form) (s u : System) (by other : Ending) → RefusesForm f s by → RefusesForm f u other → status_of by ≡ status_of other
one_refusal form.Check s u by other a b = absurd a
one_refusal form.Flat s u by other a b = absurd a
one_refusal form.Show s u by other a b = absurd a
one_refusal form.Code s u by other a b = absurd a
one_refusal (form.Slice name) s u by other a b = ap status_of a.0 ∙ sym (ap status_of b.0)
one_refusal (form.File name) s u by other a b = ap status_of a.0 ∙ sym (ap status_of b.0)

-- the status of a refusal
refused_three : (by : Ending) (bytes name : List ℕ) → Refuses (origin.Spec name) bytes by → status_of by ≡ 3
refused_three by bytes name refused = elim (refusal_is (origin.Spec name) bytes by refused) [
  | inl (fault, is) ↦ ap status_of is
  | inr (fault, is) ↦ absurd (subst (Refuses (origin.Spec name) bytes) is refused)
]

refused_nine : (by : Ending) (bytes name : List ℕ) → Refuses (origin.Code name) bytes by → status_of by ≡ 9
refused_nine by bytes name refused = elim (refusal_is (origin.Code name) bytes by refused) [
  | inl (fault, is) ↦ absurd (subst (Refuses (origin.Code name) bytes) is refused)
  | inr (fault, is) ↦ ap status_of is
]

module _ (x : Seen) where
  -- a text of a specification is done, or the specification is refused, or something stands against the text
  module _ (f : Form) where
    abbrev IsAllowed : Type 0
    IsAllowed = OfSource x (λ items s. AllowsForm f s)

    abbrev IsRefusedSo : Ending → Type 0
    IsRefusedSo by = OfSource x (λ items s. RefusesForm f s by)

    write_cases : (by : Ending) → WriteCause f x by → ((by ≡ ending.Done) × IsAllowed) ⊎ ((fault : SpecFault) × (by ≡ ending.Spec fault) × IsRefusedBy (x.taken Spec) fault) ⊎ IsRefusedSo by
    write_cases ending.Done a = inl (refl, a)
    write_cases (ending.Spec fault) a = inr (inl (fault, refl, a))
    write_cases ending.Words a = inr (inr a)
    write_cases (ending.Code fault) a = inr (inr a)
    write_cases (ending.NoOutput name) a = inr (inr a)
    write_cases (ending.State fault) a = inr (inr a)
    write_cases (ending.Trace fault) a = inr (inr a)
    write_cases (ending.Fault t k p) a = inr (inr a)
    write_cases (ending.NoEvent name t) a = inr (inr a)
    write_cases (ending.Limit n t) a = inr (inr a)

    -- of the same system
    allowed_refused : (by : Ending) → IsAllowed → IsRefusedSo by → ⊥
    allowed_refused by a b =
        let one = one_is_compiled (x.taken Spec) b.items a.items b.system a.system b.compiled a.compiled in
        not_both f a.system by a.holds (subst (λ (s : System). RefusesForm f s by) one.1 b.holds)

    write_causes : (by other : Ending) → WriteCause f x by → WriteCause f x other → status_of by ≡ status_of other
    write_causes by other a b = elim (write_cases by a) [
      | inl (is_done, allowed) ↦ elim (write_cases other b) [
        | inl (too, same) ↦ ap status_of is_done ∙ sym (ap status_of too)
        | inr (inl (fault, is, refused)) ↦ absurd (refused_compiles_none (x.taken Spec) fault allowed.items allowed.system refused allowed.compiled)
        | inr (inr against) ↦ absurd (allowed_refused other allowed against)
      ]
      | inr (inl (fault, is, refused)) ↦ elim (write_cases other b) [
        | inl (is_done, allowed) ↦ absurd (refused_compiles_none (x.taken Spec) fault allowed.items allowed.system refused allowed.compiled)
        | inr (inl (fault_2, is_2, refused_2)) ↦ ap status_of is ∙ sym (ap status_of is_2)
        | inr (inr against) ↦ absurd (refused_compiles_none (x.taken Spec) fault against.items against.system refused against.compiled)
      ]
      | inr (inr against) ↦ elim (write_cases other b) [
        | inl (is_done, allowed) ↦ absurd (allowed_refused by allowed against)
        | inr (inl (fault, is, refused)) ↦ absurd (refused_compiles_none (x.taken Spec) fault against.items against.system refused against.compiled)
        | inr (inr too) ↦ one_refusal f against.system too.system by other against.holds too.holds
      ]
    ]

  module _ (r : Run) where
    abbrev RefusedSo : Ending → Type 0
    RefusedSo by = Refuses r.origin (x.taken (origin_file r.origin).0) by

    abbrev StateRefusedSo : Ending → Type 0
    StateRefusedSo by = (fault : StateFault) × (by ≡ ending.State fault) × StateCause r x fault

    -- a run ends since the file of what runs is refused, or the state, or by a cause in the trace
    run_cases : (by : Ending) → RunCause r x by → RefusedSo by ⊎ StateRefusedSo by ⊎ OfTrace r x by
    run_cases (ending.Spec fault) a = inl a
    run_cases (ending.Code fault) a = inl a
    run_cases (ending.State fault) a = inr (inl (fault, refl, a))
    run_cases ending.Done a = inr (inr a)
    run_cases ending.Words a = inr (inr a)
    run_cases (ending.NoOutput name) a = inr (inr a)
    run_cases (ending.Trace f) a = inr (inr a)
    run_cases (ending.Fault t k p) a = inr (inr a)
    run_cases (ending.NoEvent name t) a = inr (inr a)
    run_cases (ending.Limit n t) a = inr (inr a)

    -- what stands where it has ended: one of the two refusals, or all that is due, whatever stands before it
    abbrev pub IsOver : Ending → Type 0
    IsOver by = RefusedSo by ⊎ StateRefusedSo by ⊎ RunFinishes r x by

    -- two refusals are of one kind
    two_refusals : (by other : Ending) → RefusedSo by → RefusedSo other → status_of by ≡ status_of other
    two_refusals by other a b = go r.origin a b
      where
        go : (from : Origin) → Refuses from (x.taken (origin_file from).0) by → Refuses from (x.taken (origin_file from).0) other → status_of by ≡ status_of other
        go (origin.Spec name) a b = refused_three by (x.taken Spec) name a ∙ sym (refused_three other (x.taken Spec) name b)
        go (origin.Code name) a b = refused_nine by (x.taken slot.Code) name a ∙ sym (refused_nine other (x.taken slot.Code) name b)

    abbrev IsRefusedState : StateFault → Program → Type 0
    IsRefusedState fault p = RefusesState r.resume p x fault

    -- in the trace, with something that stands before the run, and whatever does
    abbrev HasCause : Ending → Program → Before → Type 0
    HasCause by p b = OfEnding by (λ how. EndsAt p b.options (all_of b x) (tells_end r) (x.ended Trace) how)

    abbrev InTrace : Ending → Program → Type 0
    InTrace by p = (b : Before) × IsBefore r.resume r p x b × HasCause by p b

    abbrev Finished : Ending → Program → Type 0
    Finished by p = HasState r.resume p x × ((b : Before) → IsBefore r.resume r p x b → OfEnding by (λ how. WatchEndsAs p b (tells_end r) how x))

    -- what stands before a run that goes on is no state that is refused
    trace_or_state : (by : Ending) (fault : StateFault) → OfTrace r x by → StateCause r x fault → ⊥
    trace_or_state by fault a b =
        let one = one_program x r.origin (InTrace by) (IsRefusedState fault) a b in
        state_unrefused one.program x r.resume fault (left_can_go_on one.program x r.resume r one.one.0 one.one.1) one.other

    finished_or_state : (by : Ending) (fault : StateFault) → RunFinishes r x by → StateCause r x fault → ⊥
    finished_or_state by fault a b =
        let one = one_program x r.origin (Finished by) (IsRefusedState fault) a.ends b in
        state_unrefused one.program x r.resume fault one.one.0 one.other

    -- What stands whatever is before the run stands with what is before it in the cause.
    one_run : (by other : Ending) → RunFinishes r x by → OfTrace r x other → status_of by ≡ status_of other
    one_run by other a b =
        let one = one_program x r.origin (Finished by) (InTrace other) a.ends b in
        let (before, is, cause) = one.other in
        let ended = one.one.1 before is in
        ap status_of ended.by_is
        ∙ same_status before.options (all_of before x) (tells_end r) (x.ended Trace) one.program ended.how cause.how ended.holds.ends cause.holds
        ∙ sym (ap status_of cause.by_is)

    run_statuses : (by other : Ending) → IsOver by → RunCause r x other → status_of by ≡ status_of other
    run_statuses by other (inl refused) b = elim (run_cases other b) [
      | inl too ↦ two_refusals by other refused too
      | inr (inl state) ↦ absurd (runs_unrefused x r.origin (IsRefusedState state.0) by state.2 refused)
      | inr (inr cause) ↦ absurd (runs_unrefused x r.origin (InTrace other) by cause refused)
    ]
    run_statuses by other (inr (inl state)) b = elim (run_cases other b) [
      | inl refused ↦ absurd (runs_unrefused x r.origin (IsRefusedState state.0) other state.2 refused)
      | inr (inl too) ↦ ap status_of state.1 ∙ sym (ap status_of too.1)
      | inr (inr cause) ↦ absurd (trace_or_state other state.0 cause state.2)
    ]
    run_statuses by other (inr (inr ended)) b = elim (run_cases other b) [
      | inl refused ↦ absurd (runs_unrefused x r.origin (Finished by) other ended.ends refused)
      | inr (inl state) ↦ absurd (finished_or_state by state.0 ended state.2)
      | inr (inr cause) ↦ one_run by other ended cause
    ]

    -- before its work a run has its cause alone
    early_over : (by : Ending) → (stage_of by ≡ at_work → ⊥) → RunCause r x by → IsOver by
    early_over by early a = elim (run_cases by a) [
      | inl refused ↦ inl refused
      | inr (inl state) ↦ inr (inl state)
      | inr (inr cause) ↦
          let one = one_program x r.origin (InTrace by) (InTrace by) cause cause in
          let ended = one.one.2 in
          absurd (early (ap stage_of ended.by_is ∙ run_at_work ended.how))
    ]

  -- a question ends since the specification is refused, or no output has the name, or by its answer
  module _ (w : Why) where
    abbrev SpecRefused : Ending → Type 0
    SpecRefused by = (fault : SpecFault) × (by ≡ ending.Spec fault) × IsRefusedBy (x.taken Spec) fault

    abbrev IsNameless : Ending → Type 0
    IsNameless by = (by ≡ ending.NoOutput w.output) × OfSource x (λ items s. HasOutput s w.output → ⊥)

    abbrev IsAnswered : Ending → Type 0
    IsAnswered by = OfAnswer w x (λ how. by ≡ answered w how)

    why_cases : (by : Ending) → WhyCause w x by → SpecRefused by ⊎ IsNameless by ⊎ IsAnswered by
    why_cases (ending.Spec fault) a = inl (fault, refl, a)
    why_cases (ending.NoOutput name) a = inr (inl (ap ending.NoOutput a.0, subst (λ (l : List ℕ). OfSource x (λ items s. HasOutput s l → ⊥)) a.0 a.1))
    why_cases ending.Done a = inr (inr a)
    why_cases ending.Words a = inr (inr a)
    why_cases (ending.Code fault) a = inr (inr a)
    why_cases (ending.State fault) a = inr (inr a)
    why_cases (ending.Trace fault) a = inr (inr a)
    why_cases (ending.Fault t k p) a = inr (inr a)
    why_cases (ending.NoEvent name t) a = inr (inr a)
    why_cases (ending.Limit n t) a = inr (inr a)

    -- a specification that is refused asks nothing
    refused_asks_none : (by other : Ending) → SpecRefused by → IsNameless other ⊎ IsAnswered other → ⊥
    refused_asks_none by other (fault, is, refused) (inl (named, none)) = refused_compiles_none (x.taken Spec) fault none.items none.system refused none.compiled
    refused_asks_none by other (fault, is, refused) (inr answer) = refused_compiles_none (x.taken Spec) fault answer.items answer.system refused answer.compiled

    -- an output has the name, or none has
    nameless_or_answered : (by other : Ending) → IsNameless by → IsAnswered other → ⊥
    nameless_or_answered by other (named, none) answer =
        let one = one_is_compiled (x.taken Spec) none.items answer.items none.system answer.system none.compiled answer.compiled in
        subst (λ (s : System). HasOutput s w.output → ⊥) one.1 none.holds (answer.holds.0, answer.holds.1)

    why_causes : (by other : Ending) → WhyCause w x by → WhyCause w x other → status_of by ≡ status_of other
    why_causes by other a b = elim (why_cases by a) [
      | inl refused ↦ elim (why_cases other b) [
        | inl too ↦ ap status_of refused.1 ∙ sym (ap status_of too.1)
        | inr asks ↦ absurd (refused_asks_none by other refused asks)
      ]
      | inr (inl nameless) ↦ elim (why_cases other b) [
        | inl refused ↦ absurd (refused_asks_none other by refused (inl nameless))
        | inr (inl too) ↦ ap status_of nameless.0 ∙ sym (ap status_of too.0)
        | inr (inr answer) ↦ absurd (nameless_or_answered by other nameless answer)
      ]
      | inr (inr answer) ↦ elim (why_cases other b) [
        | inl refused ↦ absurd (refused_asks_none other by refused (inr answer))
        | inr (inl nameless) ↦ absurd (nameless_or_answered other by nameless answer)
        | inr (inr too) ↦ one_status w x by other answer too
      ]
    ]

    -- what is written whole has its answer
    finished_answered : (by : Ending) → OfAnswer w x (λ how. (by ≡ answered w how) × (x.given Out ≡ answer_text how)) → IsAnswered by
    finished_answered by a = of_answer_weaker w x (λ how. (by ≡ answered w how) × (x.given Out ≡ answer_text how)) (λ how. by ≡ answered w how) (λ how both. both.0) a

  -- why a command has ended, by what stands there
  abbrev pub HasEnded : Option Command → Ending → Type 0
  HasEnded (Some (command.Run r)) by = IsOver r by
  HasEnded c by = Cause c x by

  -- what has ended a command has the status of each of its causes
  pub causes : (c : Option Command) (by other : Ending) → HasEnded c by → Cause c x other → status_of by ≡ status_of other
  causes None by other a b = ap status_of a ∙ sym (ap status_of b)
  causes (Some (command.Write spec f)) by other a b = write_causes f by other a b
  causes (Some (command.Run r)) by other a b = run_statuses r by other a b
  causes (Some (command.Why w)) by other a b = why_causes w by other a b
  causes (Some (command.Generate n)) by other a b = ap status_of a ∙ sym (ap status_of b)
  causes (Some (command.Bench kind n)) by other a b = bench_causes kind n by other a b

  -- a text of a form allows it
  text_allows : (f : Form) (s : System) (set order : List ℕ) → IsTakenPlan s set order → (text : List ℕ) → HasText f (record { system = s; in_place = set; order = order }) text → AllowsForm f s
  text_allows form.Check s set order taken text is = tt
  text_allows form.Flat s set order taken text is = tt
  text_allows form.Show s set order taken text is = tt
  text_allows form.Code s set order taken text is = tt
  text_allows (form.Slice name) s set order taken text is = (is.0, is.1)
  text_allows (form.File name) s set order taken text is = record { set = set; order = order; taken = taken; holds = subst (λ (l : List ℕ). length l ≤ MOST_CODE_BYTES) is.0 is.1 }

  -- What finishes has ended so.
  done_ended : (c : Option Command) → Finishes c x ending.Done → HasEnded c ending.Done
  done_ended None f = absurd f
  done_ended (Some (command.Write spec g)) f = let has = f.1.is in
      record { items = has.items; system = has.system; compiled = has.compiles; holds = text_allows g has.system has.set has.order has.taken f.1.text has.is }
  done_ended (Some (command.Run r)) f = inr (inr f.0)
  done_ended (Some (command.Why w)) f = finished_answered w ending.Done f
  done_ended (Some (command.Generate n)) f = refl
  done_ended (Some (command.Bench kind n)) f = (x.given Out, f)

  trace_ended : (c : Option Command) (fault : TraceFault) → Finishes c x (ending.Trace fault) → HasEnded c (ending.Trace fault)
  trace_ended None fault f = absurd f
  trace_ended (Some (command.Write spec g)) fault f = absurd (let e : ending.Trace fault ≡ ending.Done = f.0 in cc)
  trace_ended (Some (command.Run r)) fault f = inr (inr f.0)
  trace_ended (Some (command.Why w)) fault f = finished_answered w (ending.Trace fault) f
  trace_ended (Some (command.Generate n)) fault f = f.0
  trace_ended (Some (command.Bench kind n)) fault f = f.0

  fault_ended : (c : Option Command) (t : ℕ) (k : FaultKind) (p : Place) → Finishes c x (ending.Fault t k p) → HasEnded c (ending.Fault t k p)
  fault_ended None t k p f = absurd f
  fault_ended (Some (command.Write spec g)) t k p f = absurd (let e : ending.Fault t k p ≡ ending.Done = f.0 in cc)
  fault_ended (Some (command.Run r)) t k p f = inr (inr f.0)
  fault_ended (Some (command.Why w)) t k p f = finished_answered w (ending.Fault t k p) f
  fault_ended (Some (command.Generate n)) t k p f = f.0
  fault_ended (Some (command.Bench kind n)) t k p f = f.0

  limit_ended : (c : Option Command) (n t : ℕ) → Finishes c x (ending.Limit n t) → HasEnded c (ending.Limit n t)
  limit_ended None n t f = absurd f
  limit_ended (Some (command.Write spec g)) n t f = absurd (let e : ending.Limit n t ≡ ending.Done = f.0 in cc)
  limit_ended (Some (command.Run r)) n t f = inr (inr f.0)
  limit_ended (Some (command.Why w)) n t f = finished_answered w (ending.Limit n t) f
  limit_ended (Some (command.Generate m)) n t f = f.0
  limit_ended (Some (command.Bench kind m)) n t f = f.0

  no_event_ended : (c : Option Command) (name : List ℕ) (t : ℕ) → Finishes c x (ending.NoEvent name t) → HasEnded c (ending.NoEvent name t)
  no_event_ended None name t f = absurd f
  no_event_ended (Some (command.Write spec g)) name t f = absurd (let e : ending.NoEvent name t ≡ ending.Done = f.0 in cc)
  no_event_ended (Some (command.Run r)) name t f = inr (inr f.0)
  no_event_ended (Some (command.Why w)) name t f = finished_answered w (ending.NoEvent name t) f
  no_event_ended (Some (command.Generate m)) name t f = f.0
  no_event_ended (Some (command.Bench kind m)) name t f = f.0

  -- a refusal before the work has its cause
  refusal_ended : (c : Option Command) (by : Ending) → (stage_of by ≡ at_work → ⊥) → Cause c x by → HasEnded c by
  refusal_ended None by early a = a
  refusal_ended (Some (command.Write spec f)) by early a = a
  refusal_ended (Some (command.Run r)) by early a = early_over r by early a
  refusal_ended (Some (command.Why w)) by early a = a
  refusal_ended (Some (command.Generate n)) by early a = a
  refusal_ended (Some (command.Bench kind n)) by early a = a

  -- so has what stands
  pub stands_ended : (c : Option Command) (by : Ending) → Stands c by x → HasEnded c by
  stands_ended c ending.Done s = done_ended c s.holds
  stands_ended c ending.Words s = refusal_ended c ending.Words (λ is. absurd (let e : at_words ≡ at_work = is in cc)) s.holds
  stands_ended c (ending.Spec fault) s = refusal_ended c (ending.Spec fault) (λ is. absurd (let e : at_program ≡ at_work = is in cc)) s.holds
  stands_ended c (ending.Code fault) s = refusal_ended c (ending.Code fault) (λ is. absurd (let e : at_program ≡ at_work = is in cc)) s.holds
  stands_ended c (ending.NoOutput name) s = refusal_ended c (ending.NoOutput name) (λ is. absurd (let e : at_program ≡ at_work = is in cc)) s.holds
  stands_ended c (ending.State fault) s = refusal_ended c (ending.State fault) (λ is. absurd (let e : at_state ≡ at_work = is in cc)) s.holds
  stands_ended c (ending.Trace fault) s = trace_ended c fault s.holds
  stands_ended c (ending.Fault t k p) s = fault_ended c t k p s.holds
  stands_ended c (ending.NoEvent name t) s = no_event_ended c name t s.holds
  stands_ended c (ending.Limit n t) s = limit_ended c n t s.holds

-- the status is that of the ending that has its cause
pub exact : (c : Option Command) (part : List Did) (before now : Failures) (status : ℕ) → Concludes c before now status part → IsExact c status (seen part)
exact c part before now status says by has = by_outcome says.outcome
  where
    by_outcome : Outcome c before now status part → (status ≡ status_of by) ⊎ (status ≡ 5) ⊎ (status ≡ 6)
    by_outcome (told other is ends) = inl (is ∙ causes (seen part) c other by (stands_ended (seen part) c other ends.stands) has)
    by_outcome (outside five some) = inr (inl five)
    by_outcome (memory six line) = inr (inr six)
