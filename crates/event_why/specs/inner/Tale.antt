-- What a draft says of a solution.
use Rattle.std.specs.Prelude.{◌≡◌, ◌⊎◌, ℕ, suc, ◌+◌, ◌<◌, ◌≤◌, ◌^◌, Bool, false, if◌then◌else◌, nat_lt, pos, List, [], ◌∷◌}
use Rattle.std.specs.Prelude.{Option, Some, None, IsTrue, length, slice_get, slice_index_or}
use Rattle.std.specs.List.{AllByRecursion}
use Rattle.tsl_value.specs.View.{View, Plain}
use Rattle.tsl_value.specs.declared.scalar.Scalar.TheVariants as scalar
use Rattle.flat_core.specs.declared.equation.Op.{Op}
use Rattle.flat_core.specs.declared.equation.Op.TheVariants as op
use Rattle.flat_core.specs.declared.equation.Equation.{Equation}
use Rattle.flat_core.specs.Case.{Streams, used_of}
use Rattle.flat_core.specs.Complete.{IsFlat}
use Rattle.flat_core.specs.Events.{Inputs}
use Rattle.flat_core.specs.Pending.{pending}
use Rattle.flat_core.specs.Solution.{Solves}
use Rattle.flat_core.specs.Stream.{event}
use Rattle.flat_core.specs.System.{System, equation, runs}
use Rattle.flat_core.specs.inner.Dependency.{IsRunOrder}
use Rattle.flat_core.specs.inner.TypedEvents.{HasTypedEvents}
use Rattle.why_rules.specs.Facts.{Fact, Happens, Silent, Pending}
use Rattle.why_rules.specs.Derivation.{IsSound}
use Rattle.event_why.specs.declared.draft.Draft.{Draft}
use Rattle.event_why.specs.declared.fact.WhyStep.{WhyStep}
use Rattle.event_why.specs.declared.instants.Story.{Story}
use Rattle.event_why.specs.Check.{AreRight}
use Rattle.event_why.specs.inner.Drafted.{AreWithin, IsGrounded, IsGrown, fact_at, fact_of, number_at}

-- A system, an order to run it in, the events of its inputs, its streams up to a bound, and the equations whose latest event may be
-- asked for.
pub record Tale : Type 0 where
  pub system : System
  pub order : List ℕ
  pub inputs : Inputs
  pub streams : Streams
  pub kept : List Bool
  pub bound : ℕ

-- what the code has of it, and the rest
abbrev pub tale_of : Story → Inputs → Streams → ℕ → Tale
tale_of story p z bound = record {
  system = story.flat.now;
  order = story.order.now;
  inputs = p;
  streams = z;
  kept = story.kept.now;
  bound = bound;
}

abbrev pub is_kept : List Bool → ℕ → Bool
is_kept kept v = slice_index_or kept v false

-- the first argument of each last that runs is marked, and nothing but equations that run is
pub record AreKept (s : System) (kept : List Bool) : Type 0 where
  pub first :
      (i : ℕ) (e : Equation) →
      IsTrue (runs s i) →
      equation s i ≡ Some e →
      e.op ≡ op.Last →
      (a r : ℕ) → e.args ≡ a ∷ r ∷ [] →
      IsTrue (is_kept kept a)
  pub runs_too : (v : ℕ) → IsTrue (is_kept kept v) → IsTrue (runs s v)

-- the streams solve the system without a fault, and the amounts of its delays are above 0
pub record IsStory (T : Tale) : Type 0 where
  pub whole : IsFlat T.system
  pub ordered : IsRunOrder T.system T.order
  pub small : T.bound ≤ 2 ^ 63
  pub solves : Solves T.system T.inputs T.bound T.streams
  pub sound : IsSound T.system.running T.streams T.bound
  pub amounts :
      (i : ℕ) (e : Equation) →
      IsTrue (runs T.system i) →
      equation T.system i ≡ Some e →
      e.op ≡ op.Delay →
      (d r : ℕ) → e.args ≡ d ∷ r ∷ [] →
      (t : ℕ) → t < T.bound →
      (v : View) → event (T.streams d t) ≡ Some v →
      (n : ℕ) × (0 < n) × (v ≡ Plain (scalar.Int (pos n)))
  pub typed : HasTypedEvents T.system T.bound T.streams
  pub kept : AreKept T.system T.kept

-- from one time on and before another nothing happens
abbrev pub IsCalm : Tale → ℕ → ℕ → Type 0
IsCalm T low high = (i u : ℕ) → IsTrue (runs T.system i) → low ≤ u → u < high → (T.streams i u ≡ None) × (T.inputs i u ≡ None)

-- what happens at equation i at t
abbrev pub fact_here : ℕ → ℕ → Option View → Fact
fact_here i t None = Silent i t t
fact_here i t (Some v) = Happens i t v

abbrev pub here_of : Streams → ℕ → ℕ → Fact
here_of z t i = fact_here i t (event (z i t))

-- times are below 2^63
abbrev pub due_time : Option ℕ → Option ℕ
due_time None = None
due_time (Some u) = if nat_lt u (2 ^ 63) then Some u else None

-- the time that is an amount later
abbrev pub later_by : ℕ → Option ℕ → Option ℕ
later_by t None = None
later_by t (Some n) = due_time (Some (t + n))

-- that a delay is due then or at no time, by what happened before n
abbrev pub due_fact : Streams → ℕ → Op → List ℕ → ℕ → Option Fact
due_fact z i op.Delay (d ∷ r ∷ []) (suc m) = Some (Pending i m (due_time (pending (z d) (z r) (z i) (suc m))))
due_fact z i o args n = None

abbrev pub due_at : Option Equation → Streams → ℕ → ℕ → Option Fact
due_at None z i n = None
due_at (Some e) z i n = due_fact z i e.op e.args n

abbrev pub due_told : System → Streams → ℕ → ℕ → Option Fact
due_told s z n i = if runs s i then due_at (equation s i) z i n else None

-- a table has a silence of v from low on to the time before n, where there are such times
pub data HasQuiet (steps : List WhyStep) (quiet : List (Option ℕ)) (v : ℕ) : ℕ → ℕ → Type 0 where
  none : {n : ℕ} → number_at quiet v ≡ None → HasQuiet steps quiet v n n
  some : {low n : ℕ} → low ≤ n → fact_of steps quiet v ≡ Some (Silent v low n) → HasQuiet steps quiet v low (suc n)

-- a table has its latest event before low, which is at the time just before; it has none where low is 0
pub data HasLatest (steps : List WhyStep) (latest : List (Option ℕ)) (z : Streams) (v : ℕ) : ℕ → Type 0 where
  none : number_at latest v ≡ None → HasLatest steps latest z v 0
  some : {u : ℕ} {x : View} → event (z v u) ≡ Some x → fact_of steps latest v ≡ Some (Happens v u x) → HasLatest steps latest z v (suc u)

-- the latest event of v before n, and that there was none since
pub record HasPast (steps : List WhyStep) (latest quiet : List (Option ℕ)) (z : Streams) (v n : ℕ) : Type 0 where
  pub low : ℕ
  pub since : HasQuiet steps quiet v low n
  pub event_at : HasLatest steps latest z v low
  pub silent : (w : ℕ) → low ≤ w → w < n → event (z v w) ≡ None

-- Steps and tables tell of each equation that counts its past before a time, of each delay when it is due by what happened before a time,
-- and what happens at t at the equations that are done.
pub record StandsAt (T : Tale) (past due : ℕ → ℕ) (t : ℕ) (done : ℕ → Bool) (steps : List WhyStep)
    (at_now at_latest at_quiet at_due : List (Option ℕ)) : Type 0 where
  pub right : AreRight T.system T.system.running T.inputs steps (length steps)
  pub latest : AreWithin steps at_latest
  pub quiet : AreWithin steps at_quiet
  pub pending : AreWithin steps at_due
  pub now_count : length at_now ≡ length T.system.equations
  pub latest_count : length at_latest ≡ length T.system.equations
  pub quiet_count : length at_quiet ≡ length T.system.equations
  pub due_count : length at_due ≡ length T.system.equations
  pub kept : (v : ℕ) → IsTrue (is_kept T.kept v) → HasPast steps at_latest at_quiet T.streams v (past v)
  pub pends : (i : ℕ) → fact_of steps at_due i ≡ due_told T.system T.streams (due i) i
  pub here : (i : ℕ) → IsTrue (done i) → IsTrue (runs T.system i) → fact_of steps at_now i ≡ Some (here_of T.streams t i)

abbrev pub IsAt : Tale → (ℕ → ℕ) → (ℕ → ℕ) → ℕ → (ℕ → Bool) → Draft → Type 0
IsAt T past due t done draft =
    StandsAt T past due t done draft.steps.items
    draft.here.numbers.items draft.latest.numbers.items draft.quiet.numbers.items draft.pending.numbers.items

-- one time for all, and another for those below a number
abbrev pub always : ℕ → ℕ → ℕ
always n i = n

abbrev pub passed : ℕ → ℕ → ℕ → ℕ → ℕ
passed k after before i = if nat_lt i k then after else before

-- equation i can be told of at t
pub record CanTell (T : Tale) (t i : ℕ) (e : Equation) (draft : Draft) : Type 0 where
  pub story : IsStory T
  pub early : t < T.bound
  pub run : IsTrue (runs T.system i)
  pub is : equation T.system i ≡ Some e
  pub done : ℕ → Bool
  pub is_at : IsAt T (always t) (always t) t done draft
  pub used : AllByRecursion (λ a. IsTrue (done a)) (used_of e.op e.args)

-- more steps from a draft, of which the last says this
abbrev pub Tells : Tale → Draft → Draft → ℕ → Fact → Type 0
Tells T old new n f = IsGrown T.system T.system.running T.inputs old new n f

-- from the facts of these steps it follows that equation i has its event, and that it has none at t
abbrev pub GroundsEvent : Draft → Equation → ℕ → List ℕ → Type 0
GroundsEvent draft e i by =
    (T : Tale) (t : ℕ) (v : View) →
    CanTell T t i e draft →
    event (T.streams i t) ≡ Some v →
    IsGrounded T.system T.system.running T.inputs draft.steps.items (Happens i t v) by

abbrev pub GroundsSilence : Draft → Equation → ℕ → ℕ → List ℕ → Type 0
GroundsSilence draft e i t by =
    (T : Tale) →
    CanTell T t i e draft →
    event (T.streams i t) ≡ None →
    IsGrounded T.system T.system.running T.inputs draft.steps.items (Silent i t t) by

-- ---- delays
abbrev pub both_of : Option ℕ → Option ℕ → Option (ℕ × ℕ)
both_of (Some a) (Some b) = Some (a, b)
both_of _ _ = None

-- the amount and the reset, if it is a delay
abbrev pub delay_args_of : Op → List ℕ → Option (ℕ × ℕ)
delay_args_of op.Delay args = both_of (slice_get args 0) (slice_get args 1)
delay_args_of o args = None

-- delay i, of d and r, is told of before t, and what happens at t is
pub record CanWait (T : Tale) (t i d r : ℕ) (draft : Draft) : Type 0 where
  pub story : IsStory T
  pub early : t < T.bound
  pub at : Equation
  pub run : IsTrue (runs T.system i)
  pub is : equation T.system i ≡ Some at
  pub op_is : at.op ≡ op.Delay
  pub args_are : at.args ≡ d ∷ r ∷ []
  pub past : ℕ → ℕ
  pub due : ℕ → ℕ
  pub is_at : IsAt T past due t (runs T.system) draft
  pub due_is : due i ≡ t

-- when it is due by what happened up to t
abbrev pub due_after : Tale → ℕ → ℕ → ℕ → ℕ → Fact
due_after T t i d r = Pending i t (due_time (pending (T.streams d) (T.streams r) (T.streams i) (suc t)))

-- what facts were said is said still
abbrev pub SaysStill : Draft → Draft → Type 0
SaysStill old new = (k : ℕ) (f : Fact) → fact_at old.steps.items (Some k) ≡ Some f → fact_at new.steps.items (Some k) ≡ Some f

-- ---- the first arguments of lasts
abbrev pub kept_arg : Op → List ℕ → Option ℕ
kept_arg op.Last args = slice_get args 0
kept_arg o args = None

-- equation i has the first argument v, and is a last that runs
pub record IsKeptBy (s : System) (i v : ℕ) : Type 0 where
  pub run : IsTrue (runs s i)
  pub at : Equation
  pub is : equation s i ≡ Some at
  pub first : kept_arg at.op at.args ≡ Some v

-- the first argument of one more equation is marked
pub record KeepsOne (s : System) (i : ℕ) (old new : List Bool) : Type 0 where
  pub count : length new ≡ length old
  pub more : (v : ℕ) → IsTrue (is_kept old v) → IsTrue (is_kept new v)
  pub first : (v : ℕ) → IsKeptBy s i v → v < length old → IsTrue (is_kept new v)
  pub only : (v : ℕ) → IsTrue (is_kept new v) → IsTrue (is_kept old v) ⊎ IsKeptBy s i v

-- ---- from instant to instant
-- all that happens before a time is told
abbrev pub IsUpTo : Tale → ℕ → Draft → Type 0
IsUpTo T n draft = IsAt T (always n) (always n) 0 (λ i. false) draft

-- and what happens at t, which is no later than any other instant
abbrev pub IsRun : Tale → ℕ → Draft → Type 0
IsRun T t draft = IsAt T (always t) (always t) t (runs T.system) draft

abbrev pub IsOver : Tale → ℕ → Draft → Type 0
IsOver T t draft = IsAt T (always (suc t)) (always (suc t)) t (runs T.system) draft
