-- The ledger over whole runs.
use Rattle.std.proofs.Common.{◌≡◌, ℕ, zero, suc, ◌+◌, ◌-◌, ◌^◌, ◌<◌, ◌≤◌, min, Bool, true, false, List, [], ◌∷◌, Option, Some, None, refl, sym, ap, subst, ◌∙◌, inl, inr, Contains, arith}
use Rattle.std.specs.Prelude.{if◌then◌else◌}
use Rattle.std.proofs.lemmas.Bool.{cases_lt}
use Rattle.flat_core.specs.declared.equation.Equation.{Equation}
use Rattle.flat_core.specs.Stream.{event, has_event}
use Rattle.flat_core.specs.Case.{Streams}
use Rattle.flat_core.specs.Events.{Inputs}
use Rattle.flat_core.specs.System.{System, equation}
use Rattle.flat_core.specs.Members.{is_in}
use Rattle.tsl_value.proofs.Lists.{later, none_in_nil}
use Rattle.flat_core.specs.Updates.{is_update}
use Rattle.register_machine.specs.Run.{nothing_yet, Plan, State, started, body, ending, Instant, Runs}
use Rattle.register_machine.specs.Copied.{size_at, copied_at, args_of, total_copied, copied}
use Rattle.register_machine.proofs.Running.{Running}
use Rattle.register_machine.proofs.Orders.{steps_of, all_steps}
use Rattle.register_machine.specs.Machine.{Instr, Run, RunInPlace, Print, Keep, Timer, Config, timed, OfEquation, Step, Steps}
use Rattle.register_machine.proofs.Walks.{IsEnding, start_good}
use Rattle.register_machine.proofs.Ledger.{counts_body}
use Rattle.register_machine.proofs.Safety.{Course, Standing, IsQuiet, start_stands, setting_of, ending_is, instant_on, moved, IsSpaced, time_after}

-- the ledger has the elements copied before t
abbrev pub HasCounted : System → Plan → Streams → ℕ → (ℕ → ℕ) → Type 0
HasCounted s plan z t ledger = (u : ℕ) (e : Equation) → Running s u e → is_update e.op ≡ true → ledger u ≡ copied s plan.in_place z u t

quiet_at : (z : Streams) (u : ℕ) (args : List ℕ) (t : ℕ) → z u t ≡ None → copied_at z u args t ≡ 0
quiet_at z u [] t none = refl
quiet_at z u (m ∷ args) t none = λ k. if has_event (none k) then size_at (event (z m t)) else 0

total_quiet : (s : System) (z : Streams) (x u t : ℕ) → u ≤ t → ((w : ℕ) → u ≤ w → w < t → z x w ≡ None) → total_copied s z x t ≡ total_copied s z x u
total_quiet s z x u zero le quiet = let same : zero ≡ u = omega arith in ap (total_copied s z x) same
total_quiet s z x u (suc t) le quiet = elim (cases_lt t u) [
  | inl high ↦ let same : suc t ≡ u = omega arith in ap (total_copied s z x) same
  | inr low ↦ plus_zero (total_copied s z x t) (copied_at z x (args_of (equation s x)) t) (quiet_at z x (args_of (equation s x)) t (quiet t low (omega arith))) ∙ total_quiet s z x u t low (λ w above below. quiet w above (omega arith))
]
  where
    plus_zero : (n m : ℕ) → m ≡ 0 → n + m ≡ n
    plus_zero n m is = omega arith

ending_ledger : (inputs : Inputs) (t : ℕ) (s : System) (code : List Instr) (c d : Config) → ((instr : Instr) → Contains code instr → IsEnding s instr) → Steps inputs t s code c d → d.ledger ≡ c.ledger
ending_ledger inputs t s [] c d all st = ap (λ x. x.ledger) st
ending_ledger inputs t s (instr ∷ code) c d all st =
    ending_ledger inputs t s code st.0 d (λ x found. all x (later instr x code found)) st.2 ∙ one instr (all instr (0, omega arith, refl)) st.1
  where
    one : (x : Instr) → IsEnding s x → Step inputs t s x c st.0 → (st.0).ledger ≡ c.ledger
    one (Keep v) is step = ap (λ q. q.ledger) step
    one (Timer i) is step = go (equation s i) step
      where
        go : (q : Option Equation) → OfEquation q (λ e. st.0 ≡ record c { pending = timed t c i e.args }) → (st.0).ledger ≡ c.ledger
        go None st_q = absurd st_q
        go (Some e) st_q = ap (λ x. x.ledger) st_q
    one (Run i) is step = absurd is
    one (RunInPlace i) is step = absurd is
    one (Print i) is step = absurd is

module _ (s : System) (plan : Plan) (inputs : Inputs) (z : Streams) (bound : ℕ) (course : Course s plan inputs z bound) where
  -- after the last print, also in the instant of a root fault
  pub body_counted : (t : ℕ) (lt : t < bound) (a : State) → Standing s plan inputs z t a → HasCounted s plan z t a.ledger → (reached : Config) → Steps inputs t s (body s plan) (started a) reached → HasCounted s plan z (suc t) reached.ledger
  body_counted t lt a standing counted reached ran u e running update =
      let given = setting_of s plan inputs z bound course t lt a standing in
      let counts = counts_body s plan inputs z t a.lasts a.pending a.cells (setting_of s plan inputs z bound course t lt a standing) standing.between plan.order (steps_of s) (started a) reached course.agrees (λ x found. found) (start_good s plan inputs z t a (setting_of s plan inputs z bound course t lt a standing) standing.between)
      (record { before = λ w d running_w update_w remains. counted w d running_w update_w; after = λ w d running_w update_w gone. absurd (gone (all_steps s w running_w.runs_too)) }) ran in
      counts.after u e running update (λ found. absurd (none_in_nil u found))

  pub instant_counted : (t : ℕ) (lt : t < bound) (a : State) → Standing s plan inputs z t a → HasCounted s plan z t a.ledger → (b : State) → Instant s plan inputs t a b → HasCounted s plan z (suc t) b.ledger
  instant_counted t lt a standing counted b instant u e running update =
      ap (λ x. x.ledger u) instant.is ∙ (λ k. ending_ledger inputs t s (ending s) instant.reached instant.last (ending_is s plan inputs z bound course) instant.kept_on k u) ∙ body_counted t lt a standing counted instant.reached instant.ran u e running update

  pub moved_counted : (u t : ℕ) (ledger : ℕ → ℕ) → u ≤ t → IsQuiet s inputs z u t → HasCounted s plan z u ledger → HasCounted s plan z t ledger
  moved_counted u t ledger le quiet counted x e running update =
      counted x e running update ∙ sym (λ k. if is_in plan.in_place x then 0 else min (total_quiet s z x u t le (quiet.silent x running.runs_too) k) (2 ^ 64 - 1))

  start_counted : HasCounted s plan z 0 nothing_yet.ledger
  start_counted u e running update = go (is_in plan.in_place u)
    where
      go : (b : Bool) → 0 ≡ (if b then 0 else min 0 (2 ^ 64 - 1))
      go true = refl
      go false = refl

  pub runs_counted : (times : List ℕ) (u : ℕ) (a b : State) → Standing s plan inputs z u a → HasCounted s plan z u a.ledger → IsSpaced s plan inputs z bound course u times → Runs s plan inputs times a b → HasCounted s plan z (time_after s plan inputs z bound course u times) b.ledger
  runs_counted [] u a b standing counted spaced runs_there = subst (λ x. HasCounted s plan z u x.ledger) (sym runs_there) counted
  runs_counted (t ∷ times) u a b standing counted spaced runs_there =
      let here = moved s plan inputs z bound course u t a standing spaced.0 spaced.2 in
      let counted_here = moved_counted u t a.ledger spaced.0 spaced.2 counted in
      runs_counted times (suc t) runs_there.0 b (instant_on s plan inputs z bound course t spaced.1 a here runs_there.0 runs_there.1) (instant_counted t spaced.1 a here counted_here runs_there.0 runs_there.1) spaced.3 runs_there.2

  -- from the first state on the ledger has what updates outside the set have copied
  pub run_counted : (times : List ℕ) (b : State) → IsSpaced s plan inputs z bound course 0 times → Runs s plan inputs times nothing_yet b → HasCounted s plan z (time_after s plan inputs z bound course 0 times) b.ledger
  run_counted times b spaced runs_there = runs_counted times 0 nothing_yet b (start_stands s plan inputs z) start_counted spaced runs_there
