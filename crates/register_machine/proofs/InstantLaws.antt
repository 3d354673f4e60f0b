-- The law of fine plans: in every run of the register machine each run in place leaves what is still read, and the prints
-- and root faults of the run are those of the solution.
use Rattle.std.proofs.Common.{◌≡◌, ℕ, ◌<◌, true, false, List, [], ◌∷◌, ◌++◌, Some, refl, sym, subst, ◌∙◌, inl, inr, Contains, IsTrue, map, arith}
use Rattle.std.proofs.lemmas.Bool.{and_parts}
use Rattle.std.proofs.lemmas.List.Elements.{Contains-append_cases}
use Rattle.flat_core.specs.declared.equation.Equation.{Equation}
use Rattle.flat_core.specs.Case.{Streams}
use Rattle.flat_core.specs.Events.{Inputs}
use Rattle.flat_core.specs.Fault.{is_faulty}
use Rattle.flat_core.specs.System.{System, equation, numbers, runs}
use Rattle.flat_core.specs.Members.{is_in}
use Rattle.flat_core.specs.Instant.{is_delay}
use Rattle.tsl_value.proofs.Lists.{none_in_nil, in_kept, contains_map}
use Rattle.flat_core.specs.Updates.{is_update}
use Rattle.alias_rules.specs.Conflict.{StandsBefore}
use Rattle.register_machine.specs.Run.{Plan, State, started, body, ending, step_instr, Instant, ended}
use Rattle.flat_core.specs.Kept.{is_timer, keeps_of, timers_of}
use Rattle.register_machine.proofs.Running.{Running}
use Rattle.register_machine.proofs.Orders.{Agrees, steps_of}
use Rattle.register_machine.specs.Machine.{Instr, RunInPlace, Keep, Timer, Config, timed, OfEquation, Step, Steps}
use Rattle.register_machine.specs.Content.{LeavesRead}
use Rattle.register_machine.proofs.Cells.{without, without-there}
use Rattle.register_machine.proofs.Steps.{step_good}
use Rattle.register_machine.proofs.Walks.{IsEnding, cons_head, cons_tail, start_good, next_of, walk}
use Rattle.register_machine.proofs.Progress.{ending_goes, body_goes}
use Rattle.register_machine.proofs.Safety.{Course, Standing, setting_of, GoodAt, ending_is, roots_at, instant_leaves, fault_leaves}
use Rattle.std.proofs.Common.{append-nil}

module _ (s : System) (plan : Plan) (inputs : Inputs) (z : Streams) (bound : ℕ) (course : Course s plan inputs z bound) (updates : (y : ℕ) (e : Equation) → Running s y e → IsTrue (is_in plan.in_place y) → IsTrue (is_update e.op)) where
  timer_goes : (t i : ℕ) (e : Equation) → equation s i ≡ Some e → (c : Config) → (d : Config) × Step inputs t s (Timer i) c d
  timer_goes t i e is c = (record c { pending = timed t c i e.args }, subst (λ q. OfEquation q (λ x. record c { pending = timed t c i e.args } ≡ record c { pending = timed t c i x.args })) (sym is) refl)

  each_goes : (t : ℕ) (instr : Instr) → Contains (ending s) instr → (c : Config) → (d : Config) × Step inputs t s instr c d
  each_goes t instr found c = elim (Contains-append_cases (map Keep (keeps_of s)) (map Timer (timers_of s)) instr found) [
    | inl keep ↦ let got = contains_map Keep (keeps_of s) instr keep in subst (λ x. (d : Config) × Step inputs t s x c d) got.2 (keep_goes got.0)
    | inr timer ↦
        let got = contains_map Timer (timers_of s) instr timer in
        let run = (and_parts (runs s got.0) (is_delay (equation s got.0)) (in_kept (is_timer s) (numbers s) got.0 got.1).1).0 in
        let all = course.proper.runs_all got.0 run in
        subst (λ x. (d : Config) × Step inputs t s x c d) got.2 (timer_goes t got.0 all.0 all.1 c)
  ]
    where
      keep_goes : (v : ℕ) → (d : Config) × Step inputs t s (Keep v) c d
      keep_goes v = (_, refl)

  module _ (t : ℕ) (lt : t < bound) (a : State) (standing : Standing s plan inputs z t a) where
    -- what follows a run in place goes on
    goes_on : (tail : List Instr) → ((instr : Instr) → Contains tail instr → IsEnding s instr) → ((instr : Instr) → Contains tail instr → (c : Config) → (d : Config) × Step inputs t s instr c d) → (before after : List Instr) (y : ℕ) (mid end : Config) → body s plan ++ tail ≡ before ++ RunInPlace y ∷ after → Steps inputs t s before (started a) mid → Step inputs t s (RunInPlace y) mid end → (final : Config) × Steps inputs t s after end final
    goes_on tail ends each before after y mid end code_is ran step =
        let leads = walk s plan inputs z t a.lasts a.pending a.cells (setting_of s plan inputs z bound course t lt a standing) standing.between tail ends before (RunInPlace y ∷ after) plan.order (steps_of s) (started a) mid course.agrees (λ x found. found) (start_good s plan inputs z t a (setting_of s plan inputs z bound course t lt a standing) standing.between) (sym code_is) ran in
        elim leads.place [
          | inl b ↦ in_body b.order b.rest b.agrees b.steps b.good b.is
          | inr e ↦ absurd (ends (RunInPlace y) (e.part (RunInPlace y) (0, omega arith, refl)))
        ]
      where
        in_body : (order rest : List ℕ) → Agrees (StandsBefore s plan.in_place) rest order → ((x : ℕ) → Contains rest x → Contains (steps_of s) x) → GoodAt s plan inputs z bound course t lt a standing rest mid → RunInPlace y ∷ after ≡ map (step_instr s plan) order ++ tail → (final : Config) × Steps inputs t s after end final
        in_body [] rest agrees steps good is = absurd (ends (RunInPlace y) (subst (λ l. Contains l (RunInPlace y)) is (0, omega arith, refl)))
        in_body (n ∷ order) rest agrees steps good is =
            let next = next_of s plan inputs z t a.lasts a.pending a.cells (setting_of s plan inputs z bound course t lt a standing) standing.between tail ends rest n agrees.0 in
            let good' = step_good s plan inputs z t a.lasts a.pending a.cells (setting_of s plan inputs z bound course t lt a standing) standing.between rest mid good n next end (steps n agrees.0.remains) (subst (λ x. Step inputs t s x mid end) (cons_head is) step) in
            subst (λ l. (final : Config) × Steps inputs t s l end final) (sym (cons_tail is)) (body_goes s plan inputs z t a.lasts a.pending a.cells (setting_of s plan inputs z bound course t lt a standing) standing.between updates tail each order (without n rest) end agrees.1 (λ x found. steps x (without-there n rest x found)) good')

    -- an instant without a root fault
    pub sound_leaves : (b : State) → Instant s plan inputs t a b → LeavesRead inputs t s false (body s plan ++ ending s) (started a)
    sound_leaves b instant = record {
      leaves = λ before after y mid end code_is ran step r still other.
          let on = goes_on (ending s) (ending_is s plan inputs z bound course) (each_goes t) before after y mid end code_is ran step in
          instant_leaves s plan inputs z bound course t lt a standing b instant before after y mid end on.0 code_is ran step on.1 r still other;
    }

    -- the instant of a root fault, up to its last print
    pub faulty_leaves : LeavesRead inputs t s true (body s plan) (started a)
    faulty_leaves = record {
      leaves = λ before after y mid end code_is ran step r still other.
          let whole = append-nil (body s plan) ∙ code_is in
          let on = goes_on [] (λ instr found. absurd (none_in_nil instr found)) (λ instr found. absurd (none_in_nil instr found)) before after y mid end whole ran step in
          fault_leaves s plan inputs z bound course t lt a standing before after y mid end on.0 whole ran step on.1 r still other;
    }

    -- and there is a run of it, to its last print, and on to its end where the solution has no root fault
    pub body_runs : (reached : Config) × Steps inputs t s (body s plan) (started a) reached
    body_runs = subst (λ l. (d : Config) × Steps inputs t s l (started a) d) (append-nil (body s plan)) (body_goes s plan inputs z t a.lasts a.pending a.cells (setting_of s plan inputs z bound course t lt a standing) standing.between updates [] (λ instr found. absurd (none_in_nil instr found)) plan.order (steps_of s) (started a) course.agrees (λ x found. found) (start_good s plan inputs z t a (setting_of s plan inputs z bound course t lt a standing) standing.between))

    pub instant_runs : is_faulty s inputs z t ≡ false → (b : State) × Instant s plan inputs t a b
    instant_runs sound =
        let there = body_runs in
        let last = ending_goes s plan inputs z t a.lasts a.pending a.cells (setting_of s plan inputs z bound course t lt a standing) standing.between updates (ending s) (each_goes t) body_runs.0 in
        (ended s last.0, record { reached = body_runs.0; ran = body_runs.1; sound = roots_at s plan inputs z bound course t lt a standing body_runs.0 body_runs.1 ∙ sound; last = last.0; kept_on = last.1; is = refl })
