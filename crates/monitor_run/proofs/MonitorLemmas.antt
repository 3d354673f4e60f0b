-- What the calls of a monitor make of it.
use Rattle.std.proofs.Common.{◌≡◌, ◌==◌, ℕ, zero, suc, ◌+◌, ◌<◌, ◌≤◌, ◌^◌, Bool, true, false, ◌&&◌, not, List, [], ◌∷◌, ◌++◌, length, replicate, Option, Some, None, refl, sym, ap, subst, ◌∙◌, append-nil, inl, inr, arith}
use Rattle.std.proofs.lemmas.Bool.{cases_Bool, cases_lt, and_parts, eq-eqb, eqb-true, eqb-false}
use Rattle.std.proofs.lemmas.List.{length-replicate}
use Rattle.std.proofs.lemmas.List.Elements.{Contains-append_cases, Contains-append_left, Contains-append_right}
use Rattle.tsl_value.proofs.Lists.{none_in_nil}
use Rattle.std.specs.Prelude.{◌≢◌, if◌then◌else◌, slice_index, slice_index_or, unwrap_or}
use Rattle.monitor_run.specs.inner.Visits.{IsAtRest}
use Rattle.std.specs.Option.{option_or}
use Rattle.std.specs.List.{AllByRecursion, Contains}
use Rattle.std.specs.FinMap as finite_map
use Rattle.tsl_value.specs.declared.scalar.Scalar.{Scalar}
use Rattle.tsl_value.specs.View.{View, Plain}
use Rattle.flat_core.specs.Case.{Streams}
use Rattle.flat_core.specs.Complete.{IsFlat, IsShort}
use Rattle.flat_core.specs.Fault.{is_faulty, root_at}
use Rattle.alias_rules.specs.Fine.{IsFinePlan}
use Rattle.flat_core.specs.Kept.{is_kept}
use Rattle.register_machine.specs.Run as run
use Rattle.register_machine.specs.Run.{Instant, root_seen}
use Rattle.register_machine.specs.Stands.{RunsTo}
use Rattle.register_machine.specs.Tidy.{IsTidy}
use Rattle.register_machine.proofs.LaterRuns.{later_leave}
use Rattle.register_machine.proofs.ShortRuns.{instants_keep}
use Rattle.register_machine.proofs.TidyRuns.{instants_tidy}
use Rattle.body_eval.specs.declared.register.Register.TheVariants as register
use Rattle.std.specs.Ordering.{nat_cmp}
use Rattle.flat_core.specs.inner.BoundLaws.{LeavesEarlier}
use Rattle.monitor_run.specs.inner.Here.{is_marked}
use Rattle.monitor_run.specs.inner.Begun.{IsBegunOf}
use Rattle.flat_core.specs.Text.{text_at}
use Rattle.flat_core.specs.Instant.{instants}
use Rattle.flat_core.specs.Line.{Line, IsSorted, event_in, inputs_of}
use Rattle.flat_core.specs.Solution.{Solves}
use Rattle.flat_core.specs.System.{System, runs}
use Rattle.flat_core.proofs.Members.{all_append, all_at, all_from}
use Rattle.flat_core.proofs.LaterLines.{leaves_earlier}
use Rattle.monitor_run.specs.declared.machine.Machine.{Machine}
use Rattle.monitor_run.specs.declared.run.Root.{Root}
use Rattle.monitor_run.specs.inner.Given.{AreAt, AreEventLines, AreGiven, AreOnce, IsEventLine, IsShortLine, line_of}
use Rattle.monitor_run.specs.inner.Instant.{AreTimers, HasFaultedAt, HasRunInstant, IsInstantBegun, IsInstantText, ReachesFault, kept_of}
use Rattle.monitor_run.specs.inner.Next.{Comes, NothingBefore}
use Rattle.monitor_run.specs.inner.Machine.{HasRoom}
use Rattle.monitor_run.specs.inner.Registers.{AreHeld, IsHeldOf, register_at}
use Rattle.monitor_run.specs.inner.Shown.{held_at, held_by, state_of}
use Rattle.monitor_run.specs.inner.Stands.{KeepsOf, Stands}
use Rattle.monitor_run.specs.inner.State.{State, IsReady, kept_state, plan_of}
use Rattle.monitor_run.specs.inner.Steps.{AreAsSet, CanTake, HasFaulted, HasRun, IsAtLimit, IsBegun, IsNextOf, NoneIsLeft}
use Rattle.monitor_run.specs.inner.Stored.{stored_count}
use Rattle.flat_core.specs.Typed.{unit_type}
use Rattle.monitor_run.proofs.RootLemmas.{least-at}
use Rattle.monitor_run.proofs.ShortLemmas.{inputs_short}
use Rattle.monitor_run.proofs.StepLemmas.{both_none, copied_now, inputs_now, inputs_open, is_first, one_more, quiet_to, run_on_now, shown, sound_before, sound_now, text_now}

-- the state that a machine shows
pub record Shows (m : State) (machine : Machine) : Type 0 where
  pub cells : machine.store.cells ≡ m.cells
  pub last : machine.last.items ≡ m.last
  pub timers : machine.timers.times ≡ m.timers
  pub ledger : machine.store.ledger ≡ m.ledger

module _ (old : State) (ready : IsReady old) (t : ℕ) (comes_now : Comes old.next old.given old.timers t) (none : NothingBefore old.next old.given old.timers t) (below : t < old.bound) where
  pub late : old.next ≤ t
  late = from comes_now
    where
      from : Comes old.next old.given old.timers t → old.next ≤ t
      from (inl first) = let zero_next = first.0 in omega arith
      from (inr (inl line)) = let at = all_at (λ (l : Line). l.time ≡ ready.time) old.given ready.given_at line.0 line.1 in let there = line.2 in let later = ready.given_later in omega arith
      from (inr (inr timer)) = (ready.timers.each timer.0 t timer.1).1

  early : t < 2 ^ 63
  early = let small = ready.in_time in omega arith

  -- what the machine keeps is what the monitor does
  kept_same : (machine : Machine) → Shows old machine → kept_of machine ≡ kept_state old
  kept_same machine shows = λ k. state_of (shows.cells k) (shows.ledger k) (shows.last k) (shows.timers k)

  module _ (lines : List Line) (stands : Stands old lines) where
    first_for : (w : Streams) → Solves old.system (inputs_of lines) (suc t) w → IsNextOf old lines w t
    first_for w solves = is_first old ready lines stands t late early comes_now none w solves below

    pub limit_is : old.ran ≡ old.limit → IsAtLimit old lines old.limit t
    limit_is full = record { early = below; full = full; count_is = refl; each = first_for }

    pub begun_is : (machine : Machine) (before after : List ℕ) → Shows old machine → old.ran < old.limit → IsInstantBegun old.system (plan_of old) t old.given machine before after → IsBegun old lines before after
    begun_is machine before after shows room begun = record {
      time = t;
      early = below;
      room = room;
      each = λ w solves. (first_for w solves, begun_at w solves begun);
    }
      where
        begun_at : (w : Streams) → Solves old.system (inputs_of lines) (suc t) w → IsInstantBegun old.system (plan_of old) t old.given machine before after → IsBegunOf before after (text_at old.system w t)
        begun_at w solves (inl same) = record { added = []; rest = text_at old.system w t; after_is = same ∙ sym (append-nil before); text_is = refl }
        begun_at w solves (inr part) =
            subst (IsBegunOf before after)
            (text_now old ready lines stands t late early comes_now none w solves part.0 (subst (λ a. IsInstantText old.system (plan_of old) (inputs_of lines) t a part.0) (kept_same machine shows) (part.1 (inputs_of lines) (inputs_now old ready lines stands t late early comes_now none)))) part.2

    pub fault_is : (new : State) (machine after : Machine) (root : Root) (before out : List ℕ) → Shows old machine → new.ledger ≡ after.store.ledger → old.ran < old.limit → HasFaultedAt old.system (plan_of old) t old.given machine after root before out → HasFaulted old new lines t root.equation root.kind
    fault_is new machine after root before out shows ledger_is room faulted = record {
      early = below;
      room = room;
      each = λ w solves.
          let least_in = least-at (runs old.system) (root_seen old.system f.reached) (root_at old.system (inputs_of lines) w t) (Some root) (λ i run. (shown old ready lines stands t late early comes_now none w solves).root_faults f.reached f.ran i run) f.least in (
            first_for w solves,
            record {
              running = least_in.0;
              root = least_in.1;
              least = λ j run lt. least_in.2 j run lt;
              first = λ u lt. ap not (sound_before old ready lines stands t late early comes_now none w solves u lt);
            },
          );
      reached = f.reached;
      reaches = f.ran;
      ledger_is = λ u. ap (λ l. slice_index l u) ledger_is ∙ f.ledger_is u;
      ledger = λ w solves u update. ap (λ l. slice_index l u) ledger_is ∙ f.ledger_is u ∙ copied_now old ready lines stands t late early comes_now none w solves f.reached f.ran u update;
    }
      where
        f : ReachesFault old.system (plan_of old) (inputs_of lines) t (kept_state old) root after.store.ledger
        f = subst (λ a. ReachesFault old.system (plan_of old) (inputs_of lines) t a root after.store.ledger) (kept_same machine shows) (faulted.means (inputs_of lines) (inputs_now old ready lines stands t late early comes_now none))

    -- the instant of the machine
    instant_of : (new : State) (machine after : Machine) (before out : List ℕ) → Shows old machine → Shows new after → HasRunInstant old.system (plan_of old) t old.given machine after before out → Instant old.system (plan_of old) (inputs_of lines) t (kept_state old) (kept_state new)
    instant_of new machine after before out shows shows_new ran =
        subst (λ a. Instant old.system (plan_of old) (inputs_of lines) t a (kept_state new)) (kept_same machine shows)
        (subst (Instant old.system (plan_of old) (inputs_of lines) t (kept_of machine)) (λ k. state_of (shows_new.cells k) (shows_new.ledger k) (shows_new.last k) (shows_new.timers k)) (ran.instant (inputs_of lines) (inputs_now old ready lines stands t late early comes_now none)))

    -- the lines that have had their instants then
    stands_on : (new : State) (machine after : Machine) (before out : List ℕ) → Shows old machine → Shows new after → AreAsSet old new → new.next ≡ suc t → new.ran ≡ old.ran + 1 → new.stop ≡ None → new.given ≡ (if ready.time == t then [] else old.given) → HasRunInstant old.system (plan_of old) t old.given machine after before out → Stands new lines
    stands_on new machine after before out shows shows_new as_set next_is ran_is going given_is ran = record {
      going = going;
      events = subst (λ (q : System). AreGiven q lines) (sym as_set.system) stands.events;
      kept = kept_new (ready.time == t) refl;
      open_lines = open_new (ready.time == t) refl;
      keeps = keeps_new;
    }
      where
        keeps_new : (z : Streams) → Solves new.system (inputs_of lines) new.next z → KeepsOf new lines z
        keeps_new z solves =
            let here : Solves old.system (inputs_of lines) (suc t) z = subst (λ n. Solves old.system (inputs_of lines) n z) next_is (subst (λ (q : System). Solves q (inputs_of lines) new.next z) as_set.system solves) in
            let instant = instant_of new machine after before out shows shows_new ran in
            subst (λ (m : State). KeepsOf m lines z) (λ k. record new { system = sym as_set.system k; in_place = sym as_set.in_place k; order = sym as_set.order k; next = sym next_is k }) (record {
              run = run_on_now old ready lines stands t late early comes_now none z here (kept_state new) instant;
              ran = ran_is ∙ one_more old ready lines stands t late early comes_now none z here;
              sound = λ u lt. elim (cases_lt u t) [
                | inl earlier ↦ sound_before old ready lines stands t late early comes_now none z here u earlier
                | inr level ↦
                    let same : t ≡ u = omega arith in
                    subst (λ w. is_faulty old.system (inputs_of lines) z w ≡ false) same (sound_now old ready lines stands t late early comes_now none z here (kept_state new) instant)
              ];
            })

        kept_new : (b : Bool) → (ready.time == t) ≡ b → (l : Line) → Contains new.given l → Contains lines l
        kept_new true same l there = absurd (none_in_nil l (subst (λ ls. Contains ls l) (given_is ∙ (λ k. if same k then [] else old.given)) there))
        kept_new false other l there = stands.kept l (subst (λ ls. Contains ls l) (given_is ∙ (λ k. if other k then [] else old.given)) there)

        -- the events of this time are gone, and those later stay
        open_new : (b : Bool) → (ready.time == t) ≡ b → (l : Line) → Contains lines l → new.next ≤ l.time → Contains new.given l
        open_new b same l there low =
            let next = next_is in
            let old_there = stands.open_lines l there (let le = late in omega arith) in
            from b same old_there (all_at (λ (x : Line). x.time ≡ ready.time) old.given ready.given_at l old_there)
          where
            from : (b : Bool) → (ready.time == t) ≡ b → Contains old.given l → l.time ≡ ready.time → Contains new.given l
            from true same old_there at = let now = eqb-true ready.time t same in let next = next_is in absurd (omega arith)
            from false other old_there at = subst (λ ls. Contains ls l) (sym (given_is ∙ (λ k. if other k then [] else old.given))) old_there

    pub run_is : (new : State) (machine after : Machine) (before out : List ℕ) → Shows old machine → Shows new after → AreAsSet old new → new.next ≡ suc t → new.ran ≡ old.ran + 1 → new.stop ≡ None → new.given ≡ (if ready.time == t then [] else old.given) → HasRunInstant old.system (plan_of old) t old.given machine after before out → HasRun old new lines before out
    run_is new machine after before out shows shows_new as_set next_is ran_is going given_is ran = record {
      time = t;
      early = below;
      next_is = next_is;
      ran_is = ran_is;
      as_set = as_set;
      stands = stands_on new machine after before out shows shows_new as_set next_is ran_is going given_is ran;
      instant = instant_of new machine after before out shows shows_new ran;
      each = λ w solves. (
        first_for w solves,
        ran.after_is ∙ ap (λ xs. before ++ xs) (text_now old ready lines stands t late early comes_now none w solves ran.added (subst (λ a. IsInstantText old.system (plan_of old) (inputs_of lines) t a ran.added) (kept_same machine shows) (ran.text (inputs_of lines) (inputs_now old ready lines stands t late early comes_now none)))),
      );
    }

  -- the instant of the machine over the given events
  instant_given : (new : State) (machine after : Machine) (before out : List ℕ) → Shows old machine → Shows new after → HasRunInstant old.system (plan_of old) t old.given machine after before out → Instant old.system (plan_of old) (inputs_of old.given) t (kept_state old) (kept_state new)
  instant_given new machine after before out shows shows_new ran =
      subst (λ a. Instant old.system (plan_of old) (inputs_of old.given) t a (kept_state new)) (kept_same machine shows)
      (subst (Instant old.system (plan_of old) (inputs_of old.given) t (kept_of machine)) (λ k. state_of (shows_new.cells k) (shows_new.ledger k) (shows_new.last k) (shows_new.timers k)) (ran.instant (inputs_of old.given) (λ i. refl)))

  -- what the monitor has then
  pub ready_on : (new : State) (machine after : Machine) (before out : List ℕ) → Shows old machine → Shows new after → AreAsSet old new → new.next ≡ suc t → new.ran ≡ old.ran + 1 → old.ran < old.limit → new.given ≡ (if ready.time == t then [] else old.given) → HasRunInstant old.system (plan_of old) t old.given machine after before out → IsReady new
  ready_on new machine after before out shows shows_new as_set next_is ran_is room given_is ran = parted (ready.time == t) refl
    where
      of_system : (P : System → Type 0) → P old.system → P new.system
      of_system P p = subst P (sym as_set.system) p

      parted : (b : Bool) → (ready.time == t) ≡ b → IsReady new
      parted b same = record {
        whole = of_system IsFlat ready.whole;
        fine = subst (λ set. IsFinePlan new.system set new.order) (sym as_set.in_place) (subst (λ order. IsFinePlan new.system old.in_place order) (sym as_set.order) (of_system (λ (q : System). IsFinePlan q old.in_place old.order) ready.fine));
        room = let l = as_set.limit in omega arith;
        some_room = let l = as_set.limit in let some = ready.some_room in omega arith;
        within = let bound_is = as_set.bound in omega arith;
        in_time = let bound_is = as_set.bound in let small = ready.in_time in omega arith;
        time = (kept_time b same).0;
        given_at = (kept_time b same).1;
        given_later = (kept_time b same).2;
        events = events_of b same;
        once = once_of b same;
        types = ran.sound.types;
        last = subst (AreHeld new.system ran.sound.types new.cells) shows_new.last (subst (λ c. AreHeld new.system ran.sound.types c after.last.items) shows_new.cells (of_system (λ (q : System). AreHeld q ran.sound.types after.store.cells after.last.items) ran.sound.last));
        unkept = λ i no_last. ap (λ rs. register_at rs i) (sym shows_new.last) ∙ ran.sound.unkept i (ap (λ (q : System). is_kept q i) (sym as_set.system) ∙ no_last);
        timers = subst (λ n. AreTimers new.system n new.timers) (sym next_is) (of_system (λ (q : System). AreTimers q (suc t) new.timers) (subst (AreTimers old.system (suc t)) shows_new.timers ran.sound.timers));
        few_cells = subst (λ c. finite_map.len c ≤ stored_count new.system) shows_new.cells (of_system (λ (q : System). finite_map.len after.store.cells ≤ stored_count q) ran.sound.few_cells);
        tidy = of_system (λ (q : System). IsTidy q (kept_state new)) (instants_tidy old.system (plan_of old) (inputs_of old.given) t (kept_state old) (kept_state new) ready.whole ready.fine ready.tidy (instant_given new machine after before out shows shows_new ran));
        unbegun = λ none. let next = next_is in absurd (omega arith);
        begun = λ more. let one = ran_is in omega arith;
        short = record {
          given = short_of b same;
          kept = instants_keep old.system (plan_of old) (inputs_of old.given) t (kept_state old) (kept_state new) ready.whole (λ i. inputs_short old.given ready.short.given i t) ready.short.kept (instant_given new machine after before out shows shows_new ran);
        };
      }
        where
          is_given : (b : Bool) → (ready.time == t) ≡ b → new.given ≡ (if b then [] else old.given)
          is_given b same = given_is ∙ (λ k. if same k then [] else old.given)

          later_time : (ls : List Line) → AreAt ready.time ls → AllByRecursion (λ l. t ≤ l.time) ls → ready.time ≢ t → (time : ℕ) × AreAt time ls × (suc t ≤ time)
          later_time [] all from ne = (suc t, tt, omega arith)
          later_time (l ∷ ls) all from ne = let at = all.0 in let low = from.0 in (
            ready.time,
            all,
            elim (cases_lt t ready.time) [
              | inl more ↦ more
              | inr level ↦ absurd (ne (omega arith))
            ],
          )

          kept_time : (b : Bool) → (ready.time == t) ≡ b → (time : ℕ) × AreAt time new.given × (new.next ≤ time)
          kept_time true same = (suc t, subst (AreAt (suc t)) (sym (is_given true same)) tt, omega arith)
          kept_time false same =
              let found = later_time old.given ready.given_at none.events (eqb-false ready.time t same) in
              let more = found.2 in
              (found.0, subst (AreAt found.0) (sym (is_given false same)) found.1, omega arith)

          events_of : (b : Bool) → (ready.time == t) ≡ b → AreEventLines new.system new.given
          events_of true same = subst (AreEventLines new.system) (sym (is_given true same)) tt
          events_of false same = subst (AreEventLines new.system) (sym (is_given false same)) (of_system (λ (q : System). AreEventLines q old.given) ready.events)

          once_of : (b : Bool) → (ready.time == t) ≡ b → AreOnce new.given
          once_of true same = subst AreOnce (sym (is_given true same)) tt
          once_of false same = subst AreOnce (sym (is_given false same)) ready.once

          short_of : (b : Bool) → (ready.time == t) ≡ b → AllByRecursion IsShortLine new.given
          short_of true same = subst (AllByRecursion IsShortLine) (sym (is_given true same)) tt
          short_of false same = subst (AllByRecursion IsShortLine) (sym (is_given false same)) ready.short.given

-- no step is left
pub none_left : (m : State) → IsReady m → (lines : List Line) → Stands m lines → NothingBefore m.next m.given m.timers m.bound → NoneIsLeft m lines
none_left m ready lines stands none = λ w solves u low lt. quiet_to m ready lines stands m.bound ready.in_time ready.within w solves m.bound (omega arith) none u low lt

-- ---- a new monitor
pub value_none : (n i : ℕ) → register_at (replicate n register.Empty) i ≡ register.Empty
value_none zero i = refl
value_none (suc n) zero = refl
value_none (suc n) (suc i) = value_none n i

pub unmarked_new : (n i : ℕ) → is_marked (replicate n false) i ≡ false
unmarked_new zero i = refl
unmarked_new (suc n) zero = refl
unmarked_new (suc n) (suc i) = unmarked_new n i

same_all : {A : Type 0} (n i : ℕ) (x : A) → slice_index_or (replicate n x) i x ≡ x
same_all zero i x = refl
same_all (suc n) zero x = refl
same_all (suc n) (suc i) x = same_all n i x

pub rest_new : (m : Machine) (n k : ℕ) → m.registers.items ≡ replicate n register.Empty → m.texts.items ≡ replicate k [] → IsAtRest m
rest_new m n k registers texts = record {
  registers = λ i. ap (λ rs. register_at rs i) registers ∙ same_all n i register.Empty;
  texts = λ i. ap (λ ts. slice_index_or ts i []) texts ∙ same_all k i [];
}

pub number_none : (n i : ℕ) → slice_index (replicate n 0) i ≡ 0
number_none zero i = refl
number_none (suc n) zero = refl
number_none (suc n) (suc i) = number_none n i

-- nothing is kept of no events
pub stands_new : (m : State) → m.stop ≡ None → m.given ≡ [] → m.next ≡ 0 → m.ran ≡ 0 → m.last ≡ replicate (length m.system.equations) register.Empty → m.ledger ≡ replicate (length m.system.equations) 0 → m.cells ≡ finite_map.empty → m.timers ≡ finite_map.empty → Stands m []
stands_new m going given next ran last ledger cells timers = record {
  going = going;
  events = record { sorted = tt; events = tt; once = tt };
  kept = λ l there. subst (λ ls. Contains ls l) given there;
  open_lines = λ l there low. absurd (none_in_nil l there);
  keeps = λ z solves. record {
    run = subst (λ n. RunsTo m.system (plan_of m) [] z n (kept_state m)) (sym next) kept_none;
    ran = ran ∙ sym (ap (λ n. length (instants m.system [] z n)) next);
    sound = λ t lt. absurd (omega arith);
  };
}
  where
    kept_none : kept_state m ≡ run.nothing_yet
    kept_none = λ k. record {
      lasts = λ v. (ap (λ l. held_at l v) last ∙ ap held_by (value_none (length m.system.equations) v)) k;
      cells = cells k;
      ledger = λ u. (ap (λ l. slice_index l u) ledger ∙ number_none (length m.system.equations) u) k;
      pending = λ i. (ap (λ ts. finite_map.get ts i) timers ∙ finite_map.get-empty nat_cmp i) k;
    }

-- ---- closing
pub stands_closed : (m : State) (bound : ℕ) (lines : List Line) → Stands m lines → Stands (record m { bound = bound }) lines
stands_closed m bound lines stands = record {
  going = stands.going;
  events = stands.events;
  kept = stands.kept;
  open_lines = stands.open_lines;
  keeps = λ z solves. let k = stands.keeps z solves in record { run = k.run; ran = k.ran; sound = k.sound };
}

-- ---- giving
sorted_push : (lines : List Line) (l : Line) → IsSorted lines → AllByRecursion (λ x. x.time ≤ l.time) lines → IsSorted (lines ++ l ∷ [])
sorted_push [] l sorted all = tt
sorted_push (x ∷ []) l sorted all = (all.0, tt)
sorted_push (x ∷ y ∷ lines) l sorted all = (sorted.0, sorted_push (y ∷ lines) l sorted.1 all.1)

input_push : (lines : List Line) (l : Line) (i t : ℕ) → inputs_of lines i t ≡ None → inputs_of (lines ++ l ∷ []) i t ≡ event_in i t l.time l.event
input_push [] l i t none = right_none (event_in i t l.time l.event)
  where
    right_none : (o : Option View) → option_or o None ≡ o
    right_none None = refl
    right_none (Some v) = refl
input_push (x ∷ lines) l i t none = from (λ rest. input_push lines l i t rest)
  where
    from : (inputs_of lines i t ≡ None → inputs_of (lines ++ l ∷ []) i t ≡ event_in i t l.time l.event) → option_or (event_in i t x.time x.event) (inputs_of (lines ++ l ∷ []) i t) ≡ event_in i t l.time l.event
    from rest = let parts = both_none (event_in i t x.time x.event) (inputs_of lines i t) none in (λ k. option_or (parts.0 k) (inputs_of (lines ++ l ∷ []) i t)) ∙ rest parts.1

once_push : (lines : List Line) (time i : ℕ) (value : Scalar) → AreOnce lines → inputs_of lines i time ≡ None → AreOnce (lines ++ line_of time i value ∷ [])
once_push [] time i value once fresh = ((λ j v is. refl), tt)
once_push (x ∷ lines) time i value once fresh = from (λ rest. once_push lines time i value once.1 rest)
  where
    parts : (event_in i time x.time x.event ≡ None) × (inputs_of lines i time ≡ None)
    parts = both_none (event_in i time x.time x.event) (inputs_of lines i time) fresh

    other : (j : ℕ) (v : Scalar) → x.event ≡ Some (j, v) → event_in j x.time time (Some (i, value)) ≡ None
    other j v is = elim (cases_Bool ((time == x.time) && (i == j))) [
      | inr apart ↦ λ k. if apart k then Some (Plain value) else None
      | inl both ↦
          let split = and_parts (time == x.time) (i == j) both in
          let taken : event_in i time x.time x.event ≡ Some (Plain v) = ap (event_in i time x.time) is ∙ (λ k. if eq-eqb x.time time (sym (eqb-true time x.time split.0)) k && eq-eqb j i (sym (eqb-true i j split.1)) k then Some (Plain v) else None) in
          let none : None ≡ Some (Plain v) = sym parts.0 ∙ taken in
          absurd (cc)
    ]

    from : (inputs_of lines i time ≡ None → AreOnce (lines ++ line_of time i value ∷ [])) → AreOnce ((x ∷ lines) ++ line_of time i value ∷ [])
    from rest = ((λ j v is. input_push lines (line_of time i value) j x.time (once.0 j v is) ∙ other j v is), rest parts.1)

-- an event that can be taken leaves all that is earlier
pub given_leaves : (m : State) → IsReady m → (time i : ℕ) (value : Scalar) → CanTake m time i value → (lines : List Line) → LeavesEarlier m.system m.next lines (line_of time i value ∷ [])
given_leaves m ready time i value can lines =
    let within = ready.within in
    let unclosed = can.unclosed in
    let low : m.next ≤ time = omega arith in
    leaves_earlier m.system m.next lines (line_of time i value ∷ []) (low, tt)

pub stands_given : (m : State) (ready : IsReady m) (time i : ℕ) (value : Scalar) → CanTake m time i value → (lines : List Line) → Stands m lines → Stands (record m { given = m.given ++ line_of time i value ∷ [] }) (lines ++ line_of time i value ∷ [])
stands_given m ready time i value can lines stands = record {
  going = stands.going;
  events = record {
    sorted = sorted_push lines (line_of time i value) stands.events.sorted not_later;
    events = all_append (IsEventLine m.system) lines (line_of time i value ∷ []) stands.events.events (record { input = i; value = value; is = refl; fits = can.fits }, tt);
    once = once_push lines time i value stands.events.once (inputs_open m lines stands i time next_below ∙ can.fresh);
  };
  kept = λ l there. elim (Contains-append_cases m.given (line_of time i value ∷ []) l there) [
    | inl old ↦ Contains-append_left lines (line_of time i value ∷ []) l (stands.kept l old)
    | inr new ↦ Contains-append_right lines (line_of time i value ∷ []) l new
  ];
  open_lines = λ l there low. elim (Contains-append_cases lines (line_of time i value ∷ []) l there) [
    | inl old ↦ Contains-append_left m.given (line_of time i value ∷ []) l (stands.open_lines l old low)
    | inr new ↦ Contains-append_right m.given (line_of time i value ∷ []) l new
  ];
  keeps = λ z solves.
      let k = stands.keeps z (((given_leaves m ready time i value can lines).solves_same z).1 solves) in
      let same = (given_leaves m ready time i value can lines).happens z in
      record {
        run = (later_leave m.system (plan_of m) lines (line_of time i value ∷ []) z m.next (kept_state m) (next_below, tt)).0 k.run;
        ran = k.ran ∙ ap length (same.instants_same m.next (omega arith));
        sound = λ t lt. sym (same.faulty_same t lt) ∙ k.sound t lt;
      };
}
  where
    next_below : m.next ≤ time
    next_below = let within = ready.within in let unclosed = can.unclosed in omega arith

    not_later : AllByRecursion (λ x. x.time ≤ time) lines
    not_later = all_from (λ (x : Line). x.time ≤ time) lines (λ x there. elim (cases_lt time x.time) [
      | inr early ↦ early
      | inl late ↦
          let low = next_below in
          let at = all_at (λ (y : Line). y.time ≡ time) m.given can.alone x (stands.open_lines x there (omega arith)) in
          omega arith
    ])

pub ready_given : (m : State) (time i : ℕ) (value : Scalar) → IsReady m → CanTake m time i value → IsReady (record m { given = m.given ++ line_of time i value ∷ [] })
ready_given m time i value ready can = record {
  whole = ready.whole;
  fine = ready.fine;
  room = ready.room;
  some_room = ready.some_room;
  within = ready.within;
  in_time = ready.in_time;
  time = time;
  given_at = all_append (λ (x : Line). x.time ≡ time) m.given (line_of time i value ∷ []) can.alone (refl, tt);
  given_later = let within = ready.within in let unclosed = can.unclosed in omega arith;
  events = all_append (IsEventLine m.system) m.given (line_of time i value ∷ []) ready.events (record { input = i; value = value; is = refl; fits = can.fits }, tt);
  once = once_push m.given time i value ready.once can.fresh;
  types = ready.types;
  last = ready.last;
  unkept = ready.unkept;
  timers = ready.timers;
  few_cells = ready.few_cells;
  tidy = ready.tidy;
  unbegun = ready.unbegun;
  begun = ready.begun;
  short = record {
    given = all_append IsShortLine m.given (line_of time i value ∷ []) ready.short.given ((λ j other is. subst IsShort (value_same is) can.short), tt);
    kept = ready.short.kept;
  };
}
  where
    value_same : {j k : ℕ} {v w : Scalar} → ◌≡◌ {A = Option (ℕ × Scalar)} (Some (j, v)) (Some (k, w)) → v ≡ w
    value_same {j} {k} {v} {w} e = ap (λ (o : Option (ℕ × Scalar)). (unwrap_or {T = ℕ × Scalar} o (j, v)).1) e

pub ready_closed : (m : State) (bound : ℕ) → IsReady m → m.bound ≤ bound → bound ≤ 2 ^ 63 → IsReady (record m { bound = bound })
ready_closed m bound ready more small = record {
  whole = ready.whole;
  fine = ready.fine;
  room = ready.room;
  some_room = ready.some_room;
  within = let within = ready.within in omega arith;
  in_time = small;
  time = ready.time;
  given_at = ready.given_at;
  given_later = ready.given_later;
  events = ready.events;
  once = ready.once;
  types = ready.types;
  last = ready.last;
  unkept = ready.unkept;
  timers = ready.timers;
  few_cells = ready.few_cells;
  tidy = ready.tidy;
  unbegun = ready.unbegun;
  begun = ready.begun;
  short = record { given = ready.short.given; kept = ready.short.kept };
}

pub ready_pushed : (m : State) (time i : ℕ) (value : Scalar) (given : List Line) → IsReady m → CanTake m time i value → given ≡ m.given ++ line_of time i value ∷ [] → IsReady (record m { given = given })
ready_pushed m time i value given ready can is = subst (λ ls. IsReady (record m { given = ls })) (sym is) (ready_given m time i value ready can)

pub stands_pushed : (m : State) (time i : ℕ) (value : Scalar) (given : List Line) → IsReady m → CanTake m time i value → given ≡ m.given ++ line_of time i value ∷ [] → (lines : List Line) → Stands m lines → Stands (record m { given = given }) (lines ++ line_of time i value ∷ [])
stands_pushed m time i value given ready can is lines stands = subst (λ ls. Stands (record m { given = ls }) (lines ++ line_of time i value ∷ [])) (sym is) (stands_given m ready time i value can lines stands)

pub room_new : (s : System) (m : Machine) (n : ℕ) → n ≡ length s.equations → m.registers.items ≡ replicate n register.Empty → m.faulted.items ≡ replicate n false → m.last.items ≡ replicate n register.Empty
    → m.store ≡ record { cells = finite_map.empty; ledger = replicate n 0 } → m.timers ≡ record { capacity = n; times = finite_map.empty } → (k : ℕ) → k ≡ length s.outputs → m.texts.items ≡ replicate k [] → HasRoom s m
room_new s m n size registers faulted last store timers k outputs texts = record {
  texts = ap length texts ∙ length-replicate k [] ∙ outputs;
  registers = ap length registers ∙ length-replicate n register.Empty ∙ size;
  faulted = ap length faulted ∙ length-replicate n false ∙ size;
  ledger = ap (λ st. length st.ledger) store ∙ length-replicate n 0 ∙ size;
  capacity = ap (λ ts. ts.capacity) timers ∙ size;
  last = ap length last ∙ length-replicate n register.Empty ∙ size;
}

pub ready_new : (m : State) (n : ℕ) → n ≡ length m.system.equations → IsFlat m.system → IsFinePlan m.system m.in_place m.order → 1 ≤ m.limit → m.ran ≡ 0 → m.next ≡ 0 → m.bound ≡ 0 → m.given ≡ [] → m.last ≡ replicate n register.Empty → m.timers ≡ finite_map.empty → m.cells ≡ finite_map.empty → m.ledger ≡ replicate n 0 → IsReady m
ready_new m n size whole fine some ran next bound given last timers cells ledger = record {
  whole = whole;
  fine = fine;
  room = omega arith;
  some_room = omega arith;
  within = omega arith;
  in_time = omega arith;
  time = 0;
  given_at = subst (AreAt 0) (sym given) tt;
  given_later = omega arith;
  events = subst (AreEventLines m.system) (sym given) tt;
  once = subst AreOnce (sym given) tt;
  types = λ h. unit_type;
  last = record {
    one_each = ap length last ∙ length-replicate n register.Empty ∙ size;
    one_type = λ i h e run is holds. let empty = sym (ap (λ rs. register_at rs i) last ∙ value_none n i) ∙ holds in absurd (cc);
    each = λ i e run is. subst (IsHeldOf m.cells e.of) (sym (ap (λ rs. register_at rs i) last ∙ value_none n i)) (record { typed = refl; live = tt });
  };
  unkept = λ i fails. ap (λ rs. register_at rs i) last ∙ value_none n i;
  timers = record { each = λ i u is. let nothing = ap (λ ts. finite_map.get ts i) timers ∙ finite_map.get-empty nat_cmp i in absurd (cc) };
  few_cells = let size_none = ap finite_map.len cells ∙ finite_map.len-empty nat_cmp View in omega arith;
  tidy = record {
    lasts = λ v. inl (no_last v);
    there = λ v h is none. let empty = sym (no_last v) ∙ is in absurd (cc);
    named = λ h view is. let nothing = sym (ap (λ c. finite_map.get c h) cells ∙ finite_map.get-empty nat_cmp h) ∙ is in absurd (cc);
    ledger = λ u none. ap (λ l. slice_index l u) ledger ∙ number_none n u;
    pending = λ i. inl (ap (λ ts. finite_map.get ts i) timers ∙ finite_map.get-empty nat_cmp i);
  };
  unbegun = λ none. ran;
  begun = λ more. absurd (omega arith);
  short = record {
    given = subst (AllByRecursion IsShortLine) (sym given) tt;
    kept = record {
      lasts = λ v value is. let empty = sym (no_last v) ∙ is in absurd (cc);
      cells = λ h view is. let nothing = sym (ap (λ c. finite_map.get c h) cells ∙ finite_map.get-empty nat_cmp h) ∙ is in absurd (cc);
    };
  };
}
  where
    no_last : (v : ℕ) → held_at m.last v ≡ None
    no_last v = ap (λ l. held_at l v) last ∙ ap held_by (value_none n v)

pub below_limit : (a b : ℕ) → a ≤ b → (a ≡ b → ⊥) → a < b
below_limit a b le ne = elim (cases_lt a b) [
  | inl lt ↦ lt
  | inr more ↦ absurd (ne (omega arith))
]
