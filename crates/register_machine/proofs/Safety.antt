-- Runs of the register machine for a fine plan: in each instant an update in place leaves what is still read, and prints
-- and root faults are those of the solution.
use Rattle.std.proofs.Common.{◌≡◌, ℕ, suc, ◌-◌, ◌^◌, ◌<◌, ◌≤◌, ◌≢◌, Bool, true, false, ◌||◌, List, [], ◌∷◌, ◌++◌, Option, Some, None, Ok, is_some, refl, sym, ap, subst, ◌∙◌, inl, inr, Contains, IsTrue, map, arith, length}
use Rattle.std.specs.Prelude.{if◌then◌else◌}
use Rattle.std.proofs.Math.Bool.{true≢false}
use Rattle.std.proofs.lemmas.Bool.{and_from, cases_lt, lt-ltb, le-ltb}
use Rattle.std.proofs.lemmas.Option.{slice_get_within}
use Rattle.std.proofs.lemmas.List.Elements.{Contains-append_left, Contains-append_cases}
use Rattle.tsl_value.specs.View.{View}
use Rattle.flat_core.specs.declared.equation.Equation.{Equation}
use Rattle.flat_core.specs.Stream.{event, has_event, is_fault, latest}
use Rattle.flat_core.specs.Case.{Streams, case_of}
use Rattle.flat_core.specs.Events.{Inputs, outcome_of, expires, unit}
use Rattle.flat_core.specs.Fault.{root_at, is_faulty}
use Rattle.flat_core.specs.Pending.{pending, reached, option_is}
use Rattle.flat_core.specs.Solution.{Solves}
use Rattle.flat_core.specs.System.{System, runs, equation, numbers, IsProper}
use Rattle.tsl_value.specs.Aggregate.{is_aggregate, has_elements}
use Rattle.flat_core.specs.Members.{is_in}
use Rattle.flat_core.specs.Instant.{is_delay, is_delay_op}
use Rattle.flat_core.proofs.Members.{all_at, in-Contains, in_numbers, Contains-in}
use Rattle.flat_core.specs.declared.equation.Op.TheVariants as op
use Rattle.tsl_value.proofs.Lists.{none_in_nil, kept_in, contains_map, map_contains}
use Rattle.alias_rules.specs.Uses.{last_of}
use Rattle.alias_rules.specs.Conflict.{StandsBefore}
use Rattle.alias_rules.specs.Fine.{IsFine}
use Rattle.register_machine.specs.Run.{Plan, State, started, body, ending, has_root, root_seen, step_instr, Instant, Runs}
use Rattle.flat_core.specs.Kept.{is_timer, keeps_of, timers_of}
use Rattle.register_machine.proofs.Running.{Running, Prints}
use Rattle.register_machine.proofs.Orders.{Agrees, steps_of, steps_cases}
use Rattle.register_machine.specs.Machine.{Instr, Run, RunInPlace, Print, Keep, Timer, Cell, Config, held, value_in, slot_of, expiry, Step, Steps}
use Rattle.register_machine.specs.Content.{Register, Own, seen, print_of, IsStillRead}
use Rattle.register_machine.proofs.Cells.{without, without-there}
use Rattle.register_machine.proofs.Reach.{TriggerLaw}
use Rattle.register_machine.proofs.Middle.{SlotOf, IsNext}
use Rattle.register_machine.proofs.Moves.{Between}
use Rattle.register_machine.proofs.Setting.{Fit, Setting, fires_is, value_is, no_variable}
use Rattle.register_machine.proofs.Steps.{Good, step_good}
use Rattle.register_machine.proofs.Kept.{kept_argument}
use Rattle.register_machine.proofs.Walks.{IsEnding, cons_head, start_good, split_steps, walk}
use Rattle.register_machine.proofs.Still.{leaves_read}
use Rattle.register_machine.proofs.End.{next_between, next_lasts}
use Rattle.register_machine.proofs.Faults.{root_same, roots_are, prints_are}
use Rattle.register_machine.proofs.Gaps.{timed_at, expiry_is, pending_quiet, due_is, timers_pending}
use Rattle.std.specs.Option.{option_and_then, option_map_or}
use Rattle.flat_core.proofs.StillLemmas.{latest_still}
use Rattle.register_machine.specs.Run.{nothing_yet}
use Rattle.register_machine.specs.Machine.{view_of}
use Rattle.register_machine.proofs.Effects.{some_equation}
use Rattle.alias_rules.specs.Uses.{last_of}
use Rattle.register_machine.specs.Stands.{in_time}

-- what is given of the system, the plan and a solution below a bound
pub record Course (s : System) (plan : Plan) (inputs : Inputs) (z : Streams) (bound : ℕ) : Type 0 where
  pub proper : IsProper s
  pub fitting : (i : ℕ) (e : Equation) → Running s i e → Fit s e.op e.args e.of
  pub fine : IsFine s plan.in_place
  pub agrees : Agrees (StandsBefore s plan.in_place) (steps_of s) plan.order
  pub solves : Solves s inputs bound z
  pub small : bound ≤ 2 ^ 63
  pub typed : (t : ℕ) → t < bound → (i : ℕ) (e : Equation) → Running s i e → (v : View) → event (z i t) ≡ Some v → has_elements v ≡ is_aggregate e.of
  -- what trigger formulas tell of a time before which there is no root fault, and that nothing is Fault where there is none at it
  pub law : (t : ℕ) → t < bound → ((w : ℕ) → w < t → is_faulty s inputs z w ≡ false) → TriggerLaw s z t
  pub no_fault : (t : ℕ) → t < bound → ((w : ℕ) → w < t → is_faulty s inputs z w ≡ false) → is_faulty s inputs z t ≡ false → (x : ℕ) → IsTrue (runs s x) → is_fault (z x t) ≡ false
  pub printed_run : (x n : ℕ) → Prints s x n → IsTrue (runs s x)

-- what a state has before a time
pub record Standing (s : System) (plan : Plan) (inputs : Inputs) (z : Streams) (t : ℕ) (a : State) : Type 0 where
  pub between : Between s plan.in_place z t a.lasts a.cells
  pub lasts : (v i : ℕ) (e : Equation) → Running s i e → Contains (last_of e.op e.args) v → SlotOf (outcome_of (Ok (latest (z v) t))) (slot_of (a.lasts v))
  pub due : (i d r : ℕ) (e : Equation) → Running s i e → e.op ≡ op.Delay → e.args ≡ d ∷ r ∷ [] → a.pending i ≡ in_time (pending (z d) (z r) (z i) t)
  pub sound : (w : ℕ) → w < t → is_faulty s inputs z w ≡ false

-- nothing happens between two times
pub record IsQuiet (s : System) (inputs : Inputs) (z : Streams) (u t : ℕ) : Type 0 where
  pub silent : (x : ℕ) → IsTrue (runs s x) → (w : ℕ) → u ≤ w → w < t → z x w ≡ None
  pub sound : (w : ℕ) → u ≤ w → w < t → is_faulty s inputs z w ≡ false

none_cell : {h : ℕ} {P : Type 0} → None ≡ Some (Cell h) → P
none_cell e = absurd (cc)

pub start_stands : (s : System) (plan : Plan) (inputs : Inputs) (z : Streams) → Standing s plan inputs z 0 nothing_yet
start_stands s plan inputs z = record {
  between = record { stored = λ v h is. none_cell is; lives = λ v h is none. none_cell is; view = λ v h is. none_cell is; shares = λ u v h is_u is_v. none_cell is_u };
  lasts = λ v i e running argument. refl;
  due = λ i d r e running is_op is_args. refl;
  sound = λ w lt. absurd (omega arith);
}

module _ (s : System) (plan : Plan) (inputs : Inputs) (z : Streams) (bound : ℕ) (course : Course s plan inputs z bound) where
  delay_args : (i d r : ℕ) (e : Equation) → Running s i e → e.args ≡ d ∷ r ∷ [] → IsTrue (runs s d) × IsTrue (runs s r)
  delay_args i d r e running is_args =
      let all = course.proper.runs_all i running.runs_too in
      let runs_of : (a : ℕ) → Contains e.args a → IsTrue (runs s a) = λ a. subst (λ x. Contains x.args a → IsTrue (runs s a)) (some_equation (sym all.1 ∙ running.is)) (all_at (λ b. IsTrue (runs s b)) all.0.args all.2 a) in
      (runs_of d (subst (λ l. Contains l d) (sym is_args) (0, omega arith, refl)), runs_of r (subst (λ l. Contains l r) (sym is_args) (1, omega arith, refl)))

  kept_runs : (v i : ℕ) (e : Equation) → Running s i e → Contains (last_of e.op e.args) v → IsTrue (runs s v)
  kept_runs v i e running argument =
      let all = course.proper.runs_all i running.runs_too in
      subst (λ x. Contains x.args v → IsTrue (runs s v)) (some_equation (sym all.1 ∙ running.is)) (all_at (λ b. IsTrue (runs s b)) all.0.args all.2 v) (kept_argument v e.op e.args argument)

  -- a delay has an event where it expires
  delay_solves : (i d r : ℕ) (e : Equation) → Running s i e → e.op ≡ op.Delay → e.args ≡ d ∷ r ∷ [] → (w : ℕ) → w < bound → has_event (z i w) ≡ expires (z d) (z r) (z i) w
  delay_solves i d r e running is_op is_args w lt =
      ap has_event (course.solves.each i e running.runs_too running.is w lt ∙ (λ k. case_of inputs z i (record e { op = is_op k; args = is_args k }) w)) ∙ has_if (expires (z d) (z r) (z i) w)
    where
      has_if : (b : Bool) → has_event (outcome_of (Ok (if b then Some unit else None))) ≡ b
      has_if true = refl
      has_if false = refl

  -- over a gap
  pub moved : (u t : ℕ) (a : State) → Standing s plan inputs z u a → u ≤ t → IsQuiet s inputs z u t → Standing s plan inputs z t a
  moved u t a standing le quiet = record {
    between = record {
      stored = standing.between.stored;
      lives = standing.between.lives;
      view = λ v h is. standing.between.view v h is ∙ sym (latest_still (z v) u t le (quiet.silent v (standing.between.stored v h is).taken.variable.running));
      shares = standing.between.shares;
    };
    lasts = λ v i e running argument. subst (λ l. SlotOf (outcome_of (Ok l)) (slot_of (a.lasts v))) (sym (latest_still (z v) u t le (quiet.silent v (kept_runs v i e running argument)))) (standing.lasts v i e running argument);
    due = λ i d r e running is_op is_args. standing.due i d r e running is_op is_args ∙ ap in_time (sym (pending_quiet (z d) (z r) (z i) u t le (quiet.silent r (delay_args i d r e running is_args).1) (quiet.silent i running.runs_too)));
    sound = λ w lt. elim (cases_lt w u) [
      | inl before ↦ standing.sound w before
      | inr in_rest ↦ quiet.sound w in_rest lt
    ];
  }

  -- what the instant at t is given
  pub setting_of : (t : ℕ) → t < bound → (a : State) → Standing s plan inputs z t a → Setting s inputs z t a.lasts a.pending
  setting_of t lt a standing =
      let small = course.small in
      record {
        proper = course.proper;
        fitting = course.fitting;
        solves = λ i e running. course.solves.each i e running.runs_too running.is t lt;
        typed = course.typed t lt;
        law = course.law t lt standing.sound;
        lasts = standing.lasts;
        pending = λ i d r e running is_op is_args.
            ap (option_is t) (standing.due i d r e running is_op is_args) ∙ due_is (z d) (z r) (z i) t (omega arith) (λ w below. delay_solves i d r e running is_op is_args w (omega arith));
      }

  abbrev pub GoodAt : (t : ℕ) (lt : t < bound) (a : State) → Standing s plan inputs z t a → List ℕ → Config → Type 0
  GoodAt t lt a standing rest c = Good s plan inputs z t a.lasts a.pending a.cells (setting_of t lt a standing) standing.between rest c

  pub ending_is : (instr : Instr) → Contains (ending s) instr → IsEnding s instr
  ending_is instr found = elim (Contains-append_cases (map Keep (keeps_of s)) (map Timer (timers_of s)) instr found) [
    | inl keep ↦ let got = contains_map Keep (keeps_of s) instr keep in subst (IsEnding s) got.2 got.1
    | inr timer ↦ let got = contains_map Timer (timers_of s) instr timer in subst (IsEnding s) got.2 tt
  ]

  keeps_in : (v : ℕ) → Contains (keeps_of s) v → Contains (ending s) (Keep v)
  keeps_in v found = Contains-append_left (map Keep (keeps_of s)) (map Timer (timers_of s)) (Keep v) (map_contains Keep (keeps_of s) v found)

  -- the place after the last print
  module _ (t : ℕ) (lt : t < bound) (a : State) (standing : Standing s plan inputs z t a) where
    run_body : (order rest : List ℕ) (c d : Config) → Agrees (StandsBefore s plan.in_place) rest order → ((x : ℕ) → Contains rest x → Contains (steps_of s) x) → GoodAt t lt a standing rest c → Steps inputs t s (map (step_instr s plan) order) c d → GoodAt t lt a standing [] d
    run_body [] rest c d agrees steps good st = subst (GoodAt t lt a standing []) (sym st) (subst (λ r. GoodAt t lt a standing r c) agrees good)
    run_body (n ∷ order) rest c d agrees steps good st =
        let next : IsNext s plan.in_place z t a.lasts a.cells (steps_of s) rest n = record { remains = agrees.0.remains; first = agrees.0.first } in
        run_body order (without n rest) st.0 d agrees.1 (λ x found. steps x (without-there n rest x found)) (step_good s plan inputs z t a.lasts a.pending a.cells (setting_of t lt a standing) standing.between rest c good n next st.0 (steps n agrees.0.remains) st.1) st.2

    pub good_end : (reached : Config) → Steps inputs t s (body s plan) (started a) reached → GoodAt t lt a standing [] reached
    good_end reached ran = run_body plan.order (steps_of s) (started a) reached course.agrees (λ x found. found) (start_good s plan inputs z t a (setting_of t lt a standing) standing.between) ran

    -- the run has a root fault exactly where the solution has one
    pub roots_at : (reached : Config) → Steps inputs t s (body s plan) (started a) reached → has_root s reached ≡ is_faulty s inputs z t
    roots_at reached ran = roots_are s plan inputs z t a.lasts a.pending a.cells (setting_of t lt a standing) standing.between reached (good_end reached ran)

    pub each_root : (reached : Config) → Steps inputs t s (body s plan) (started a) reached → (i : ℕ) → IsTrue (runs s i) → root_seen s reached i ≡ root_at s inputs z t i
    each_root reached ran i run = root_same s plan inputs z t a.lasts a.pending a.cells (setting_of t lt a standing) standing.between reached (good_end reached ran) i run

    sound_at : (reached : Config) → Steps inputs t s (body s plan) (started a) reached → has_root s reached ≡ false → (x : ℕ) → IsTrue (runs s x) → is_fault (z x t) ≡ false
    sound_at reached ran none = course.no_fault t lt standing.sound (sym (roots_at reached ran) ∙ none)

    -- a print writes the solution's event
    pub prints_at : (before after : List Instr) (n x : ℕ) (mid : Config) → body s plan ≡ before ++ Print n ∷ after → Steps inputs t s before (started a) mid → print_of s n ≡ x → value_in mid x ≡ event (z x t)
    prints_at before after n x mid code_is ran print_is =
        let leads = walk s plan inputs z t a.lasts a.pending a.cells (setting_of t lt a standing) standing.between [] (λ instr found. absurd (none_in_nil instr found)) before (Print n ∷ after) plan.order (steps_of s) (started a) mid course.agrees (λ y found. found) (start_good s plan inputs z t a (setting_of t lt a standing) standing.between) (sym code_is ∙ sym (append_nil (map (step_instr s plan) plan.order))) ran in
        elim leads.place [
          | inl b ↦ in_body b.order b.rest b.agrees b.steps b.good b.is
          | inr e ↦ absurd (none_in_nil (Print n) (e.part (Print n) (0, omega arith, refl)))
        ]
      where
        append_nil : (xs : List Instr) → xs ++ [] ≡ xs
        append_nil [] = refl
        append_nil (y ∷ xs) = ap (λ l. y ∷ l) (append_nil xs)

        in_body : (order rest : List ℕ) → Agrees (StandsBefore s plan.in_place) rest order → ((y : ℕ) → Contains rest y → Contains (steps_of s) y) → GoodAt t lt a standing rest mid → Print n ∷ after ≡ map (step_instr s plan) order ++ [] → value_in mid x ≡ event (z x t)
        in_body [] rest agrees steps good is = absurd (none_in_nil (Print n) (subst (λ l. Contains l (Print n)) is (0, omega arith, refl)))
        in_body (m ∷ order) rest agrees steps good is =
            let printed = print_step m (steps m agrees.0.remains) (cons_head is) in
            prints_are s plan inputs z t a.lasts a.pending a.cells (setting_of t lt a standing) standing.between rest mid good m x agrees.0 printed (course.printed_run x m printed)
          where
            print_step : (k : ℕ) → Contains (steps_of s) k → Print n ≡ step_instr s plan k → Prints s x k
            print_step k in_steps same = elim (steps_cases s k in_steps) [
              | inl run ↦
                  let low = slice_get_within s.equations k (course.proper.runs_all k run).0 (course.proper.runs_all k run).1 in
                  absurd (no_print (is_in plan.in_place k) (same ∙ (λ j. if lt-ltb k (length s.equations) low j then (if is_in plan.in_place k then RunInPlace k else Run k) else Print (k - length s.equations))))
              | inr print ↦
                  let high : length s.equations ≤ k = omega (arith, print.3) in
                  let number : n ≡ k - length s.equations = print_same (same ∙ (λ j. if le-ltb k (length s.equations) high j then (if is_in plan.in_place k then RunInPlace k else Run k) else Print (k - length s.equations))) in
                  let is_number : print.0 ≡ n = omega (arith, print.3) in
                  record { number = print.0; printed = record { output = print.1; is = print.2; of = sym print_is ∙ sym (ap (print_of s) is_number) ∙ ap (λ q. option_map_or (λ o. o.equation) q 0) print.2 }; step_is = print.3 }
            ]
              where
                no_print : (b : Bool) → Print n ≡ (if b then RunInPlace k else Run k) → ⊥
                no_print true q = absurd (cc)
                no_print false q = absurd (cc)

                print_same : {i j : ℕ} → Print i ≡ Print j → i ≡ j
                print_same q = cc

    -- In an instant without a root fault, each run in place leaves the view of each register that is still read, other
    -- than its own, as it was.
    pub instant_leaves : (b : State) → (instant : Instant s plan inputs t a b) → (before after : List Instr) (y : ℕ) (mid end final : Config) → body s plan ++ ending s ≡ before ++ RunInPlace y ∷ after → Steps inputs t s before (started a) mid → Step inputs t s (RunInPlace y) mid end → Steps inputs t s after end final
        → (r : Register) → IsStillRead inputs t s false after end r → r ≢ Own y → seen end r ≡ seen mid r
    instant_leaves b instant before after y mid end final code_is ran step rest r still other =
        leaves_read s plan course.fine inputs z t a.lasts a.pending a.cells (setting_of t lt a standing) standing.between (ending s) ending_is (started a) (start_good s plan inputs z t a (setting_of t lt a standing) standing.between) course.agrees
        false (λ sound. sound_at instant.reached instant.ran instant.sound) (λ sound. keeps_in) before after y mid end final code_is ran step rest r still other

    -- and in the instant of a root fault too, up to its last print
    pub fault_leaves : (before after : List Instr) (y : ℕ) (mid end final : Config) → body s plan ++ [] ≡ before ++ RunInPlace y ∷ after → Steps inputs t s before (started a) mid → Step inputs t s (RunInPlace y) mid end → Steps inputs t s after end final
        → (r : Register) → IsStillRead inputs t s true after end r → r ≢ Own y → seen end r ≡ seen mid r
    fault_leaves before after y mid end final code_is ran step rest r still other =
        leaves_read s plan course.fine inputs z t a.lasts a.pending a.cells (setting_of t lt a standing) standing.between [] (λ instr found. absurd (none_in_nil instr found)) (started a) (start_good s plan inputs z t a (setting_of t lt a standing) standing.between) course.agrees
        true (λ sound. absurd (true≢false sound)) (λ sound. absurd (true≢false sound)) before after y mid end final code_is ran step rest r still other

    keeps_same : (vs : List ℕ) (c d : Config) → Steps inputs t s (map Keep vs) c d → (d.slots ≡ c.slots) × (d.cells ≡ c.cells) × (d.pending ≡ c.pending)
    keeps_same [] c d st = (ap (λ x. x.slots) st, ap (λ x. x.cells) st, ap (λ x. x.pending) st)
    keeps_same (v ∷ vs) c d st =
        let rest = keeps_same vs st.0 d st.2 in
        (rest.0 ∙ ap (λ x. x.slots) st.1, rest.1 ∙ ap (λ x. x.cells) st.1, rest.2 ∙ ap (λ x. x.pending) st.1)

    timed_same : (x y : Bool) (v : Option View) (p : Option ℕ) → (if x || y then expiry t v else in_time p) ≡ in_time (if y || x then reached t v else p)
    timed_same true true v p = expiry_is inputs t v
    timed_same true false v p = expiry_is inputs t v
    timed_same false true v p = expiry_is inputs t v
    timed_same false false v p = refl

    -- after an instant without a root fault the state stands again
    pub instant_on : (b : State) → Instant s plan inputs t a b → Standing s plan inputs z (suc t) b
    instant_on b instant = subst (Standing s plan inputs z (suc t)) (sym instant.is) (record {
      between = next_between s plan course.fine inputs z t a.lasts a.pending a.cells (setting_of t lt a standing) standing.between instant.reached good sound instant.last instant.kept_on;
      lasts = next_lasts s plan course.fine inputs z t a.lasts a.pending a.cells (setting_of t lt a standing) standing.between instant.reached good sound instant.last instant.kept_on;
      due = due_then;
      sound = λ w below. elim (cases_lt w t) [
        | inl before ↦ standing.sound w before
        | inr here ↦ let same : t ≡ w = omega arith in subst (λ n. is_faulty s inputs z n ≡ false) same (sym (roots_at instant.reached instant.ran) ∙ instant.sound)
      ];
    })
      where
        good : GoodAt t lt a standing [] instant.reached
        good = good_end instant.reached instant.ran

        sound : (x : ℕ) → IsTrue (runs s x) → is_fault (z x t) ≡ false
        sound = sound_at instant.reached instant.ran instant.sound

        status : (x : ℕ) → IsTrue (runs s x) → SlotOf (z x t) (instant.reached.slots x)
        status x run = good.mid.status x run (λ found. absurd (none_in_nil x found))

        due_then : (i d r : ℕ) (e : Equation) → Running s i e → e.op ≡ op.Delay → e.args ≡ d ∷ r ∷ [] → instant.last.pending i ≡ in_time (pending (z d) (z r) (z i) (suc t))
        due_then i d r e running is_op is_args =
            let parts = split_steps inputs t s (map Keep (keeps_of s)) (map Timer (timers_of s)) instant.reached instant.last instant.kept_on in
            let same = keeps_same (keeps_of s) instant.reached parts.0 parts.1 in
            let listed : is_in (timers_of s) i ≡ true = in-Contains (timers_of s) i (kept_in (is_timer s) (numbers s) i (Contains-in (numbers s) i (in_numbers s i (slice_get_within s.equations i e running.is)))
            (and_from (runs s i) (is_delay (equation s i)) running.runs_too (ap is_delay running.is ∙ ap is_delay_op is_op))) in
            let runs_args = delay_args i d r e running is_args in
            let fit = subst (λ l. Fit s op.Delay l e.of) is_args (subst (λ o. Fit s o e.args e.of) is_op (course.fitting i e running)) in
            let fires_i = fires_is (z i t) (instant.reached.slots i) (status i running.runs_too) in
            let fires_r = fires_is (z r t) (instant.reached.slots r) (status r runs_args.1) in
            let value : value_in instant.reached d ≡ event (z d t) = value_is instant.reached.cells (z d t) (instant.reached.slots d) (status d runs_args.0) (λ h holds. absurd (no_variable s d (good.mid.variable d h holds) fit.1)) in
            timers_pending inputs t s (timers_of s) parts.0 instant.last parts.2 i d r e running.is is_args
            ∙ (λ k. if listed k then timed_at inputs t s parts.0 i d r ((parts.0).pending i) else (parts.0).pending i)
            ∙ (λ k. if is_some (held ((same.0 k) i)) || is_some (held ((same.0 k) r)) then expiry t (option_and_then (view_of (same.1 k)) (held ((same.0 k) d))) else (same.2 k) i)
            ∙ (λ k. if fires_i k || fires_r k then expiry t (value k) else (good.pending k) i)
            ∙ (λ k. if has_event (z i t) || has_event (z r t) then expiry t (event (z d t)) else standing.due i d r e running is_op is_args k)
            ∙ timed_same (has_event (z i t)) (has_event (z r t)) (event (z d t)) (pending (z d) (z r) (z i) t)

  -- Times one after another, with nothing between them.
  abbrev pub IsSpaced : ℕ → List ℕ → Type 0
  IsSpaced u [] = Unit {0}
  IsSpaced u (t ∷ times) = (u ≤ t) × (t < bound) × IsQuiet s inputs z u t × IsSpaced (suc t) times

  abbrev pub time_after : ℕ → List ℕ → ℕ
  time_after u [] = u
  time_after u (t ∷ times) = time_after (suc t) times

  -- Wherever a run has come, its state stands.
  pub runs_stand : (times : List ℕ) (u : ℕ) (a b : State) → Standing s plan inputs z u a → IsSpaced u times → Runs s plan inputs times a b → Standing s plan inputs z (time_after u times) b
  runs_stand [] u a b standing spaced runs_there = subst (Standing s plan inputs z u) (sym runs_there) standing
  runs_stand (t ∷ times) u a b standing spaced runs_there =
      let here = moved u t a standing spaced.0 spaced.2 in
      runs_stand times (suc t) runs_there.0 b (instant_on t spaced.1 a here runs_there.0 runs_there.1) spaced.3 runs_there.2

  -- From the first state on.
  pub run_stands : (times : List ℕ) (b : State) → IsSpaced 0 times → Runs s plan inputs times nothing_yet b → Standing s plan inputs z (time_after 0 times) b
  run_stands times b spaced runs_there = runs_stand times 0 nothing_yet b (start_stands s plan inputs z) spaced runs_there
