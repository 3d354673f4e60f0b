-- From which facts another follows. Each rule names the facts that it uses, in the order in which they stand here.
use Rattle.std.specs.Prelude.{◌≡◌, ℕ, suc, ◌+◌, ◌<◌, ◌≤◌, ◌^◌, Bool, true, false, not, List, [], ◌∷◌, pos, Option, Some, None, Ok, IsTrue}
use Rattle.std.specs.List.{Contains, filter}
use Rattle.tsl_value.specs.View.{View, Plain}
use Rattle.tsl_value.specs.declared.scalar.Scalar.TheVariants as scalar
use Rattle.flat_core.specs.declared.equation.Op.{Op}
use Rattle.flat_core.specs.declared.equation.Op.TheVariants as op
use Rattle.flat_core.specs.declared.equation.Equation.{Equation}
use Rattle.flat_core.specs.Members.{is_in}
use Rattle.flat_core.specs.System.{System, equation}
use Rattle.flat_core.specs.Updates.{is_update}
use Rattle.flat_core.specs.Instant.{is_delay}
use Rattle.flat_core.specs.Events.{Inputs, unit, at_once}
use Rattle.why_rules.specs.Facts.{Fact, Happens, Silent, Gap, Pending}

-- the fact is that equation a has this event at t, or that it has none from a time up to t to one from t on
pub data Tells (a t : ℕ) : Option View → Fact → Type 0 where
  event : {v : View} → Tells a t (Some v) (Happens a t v)
  none : {from to : ℕ} → from ≤ t → t ≤ to → Tells a t None (Silent a from to)

-- a fact for each of these equations, in order
pub data TellsEach (t : ℕ) : List ℕ → List (Option View) → List Fact → Type 0 where
  done : TellsEach t [] [] []
  next :
      {a : ℕ} {args : List ℕ} {v : Option View} {vs : List (Option View)} {f : Fact} {fs : List Fact} →
      Tells a t v f →
      TellsEach t args vs fs →
      TellsEach t (a ∷ args) (v ∷ vs) (f ∷ fs)

-- ---- groups of operations
-- the event is computed from what all arguments have at the same time
abbrev pub computes : Op → Bool
computes op.Filter = true
computes op.Pick = true
computes (op.Lift body strict) = true
computes o = is_update o

-- an argument without an event is enough that there is none
abbrev pub misses : Op → Bool
misses op.Time = true
misses op.Filter = true
misses op.Pick = true
misses (op.Lift body strict) = strict
misses o = is_update o

-- there may be an event where an argument has none
abbrev pub joins : Op → Bool
joins op.Any = true
joins op.Merge = true
joins (op.Lift body strict) = not strict
joins _ = false

-- an event at time 0 alone
abbrev pub is_constant : Op → Bool
is_constant op.Unit = true
is_constant op.Empty = true
is_constant _ = false

-- what happened before counts, and nothing happens at time 0
abbrev pub looks_back : Op → Bool
looks_back op.Last = true
looks_back op.Delay = true
looks_back _ = false

-- what an event of one argument is enough for
abbrev pub seen_by : Op → ℕ → Option View
seen_by op.Time t = Some (Plain (scalar.Int (pos t)))
seen_by op.Any t = Some unit
seen_by _ t = None

-- ---- events
-- no event from one time to the one before another, where there are such times
pub data SilentBetween (a : ℕ) : ℕ → ℕ → List Fact → Type 0 where
  no_time : {from to : ℕ} → to ≤ from → SilentBetween a from to []
  times : {from last : ℕ} → from ≤ last → SilentBetween a from (suc last) (Silent a from last ∷ [])

module _ (p : Inputs) (i : ℕ) (e : Equation) where
  -- from which facts equation i has an event at a time
  pub data Makes : ℕ → View → List Fact → Type 0 where
    given :
        {t : ℕ} {v : View} →
        e.op ≡ op.Input →
        p i t ≡ Some v →
        Makes t v []
    constant :
        {v : View} →
        IsTrue (is_constant e.op) →
        at_once e.op e.of [] 0 ≡ Ok (Some v) →
        Makes 0 v []
    -- Time and Any: an event of an argument
    seen :
        {t a : ℕ} {v x : View} →
        seen_by e.op t ≡ Some v →
        Contains e.args a →
        Makes t v (Happens a t x ∷ [])
    -- Merge a b
    first :
        {t a b : ℕ} {v : View} →
        e.op ≡ op.Merge →
        e.args ≡ a ∷ b ∷ [] →
        Makes t v (Happens a t v ∷ [])
    second :
        {t a b : ℕ} {v : View} {f : Fact} →
        e.op ≡ op.Merge →
        e.args ≡ a ∷ b ∷ [] →
        Tells a t None f →
        Makes t v (f ∷ Happens b t v ∷ [])
    -- Filter, Pick, Lift and updates, by their case
    computed :
        {t : ℕ} {v : View} {vs : List (Option View)} {fs : List Fact} →
        IsTrue (computes e.op) →
        TellsEach t e.args vs fs →
        at_once e.op e.of vs t ≡ Ok (Some v) →
        Makes t v fs
    -- Last a r: the latest event of a before t
    last :
        {t u a r : ℕ} {v x : View} {fs : List Fact} →
        e.op ≡ op.Last →
        e.args ≡ a ∷ r ∷ [] →
        u < t →
        SilentBetween a (suc u) t fs →
        Makes t v (Happens r t x ∷ Happens a u v ∷ fs)
    expired :
        {t : ℕ} →
        e.op ≡ op.Delay →
        Makes (suc t) unit (Pending i t (Some (suc t)) ∷ [])

  -- from which it has none at a time
  pub data Lacks : ℕ → List Fact → Type 0 where
    not_given :
        {t : ℕ} →
        e.op ≡ op.Input →
        p i t ≡ None →
        Lacks t []
    never :
        {t : ℕ} →
        e.op ≡ op.Nil →
        Lacks t []
    past :
        {t : ℕ} →
        IsTrue (is_constant e.op) →
        Lacks (suc t) []
    missing :
        {t a : ℕ} {f : Fact} →
        IsTrue (misses e.op) →
        Contains e.args a →
        Tells a t None f →
        Lacks t (f ∷ [])
    -- Filter a c
    not_true :
        {t a c : ℕ} →
        e.op ≡ op.Filter →
        e.args ≡ a ∷ c ∷ [] →
        Lacks t (Happens c t (Plain (scalar.Bool false)) ∷ [])
    -- Any, Merge and a Lift that is not strict
    without :
        {t : ℕ} {vs : List (Option View)} {fs : List Fact} →
        IsTrue (joins e.op) →
        TellsEach t e.args vs fs →
        at_once e.op e.of vs t ≡ Ok None →
        Lacks t fs
    at_zero :
        IsTrue (looks_back e.op) →
        Lacks 0 []
    -- Last a r
    not_asked :
        {t a r : ℕ} {f : Fact} →
        e.op ≡ op.Last →
        e.args ≡ a ∷ r ∷ [] →
        Tells r t None f →
        Lacks t (f ∷ [])
    nothing_before :
        {t a r : ℕ} →
        e.op ≡ op.Last →
        e.args ≡ a ∷ r ∷ [] →
        Lacks (suc t) (Silent a 0 t ∷ [])
    not_due :
        {t : ℕ} {due : Option ℕ} →
        e.op ≡ op.Delay →
        ¬ (due ≡ Some (suc t)) →
        Lacks (suc t) (Pending i t due ∷ [])

  -- ---- what is pending
  -- the delay's second argument r, or the delay itself, has an event at t
  pub data Sets (r t : ℕ) : Fact → Type 0 where
    reset : {x : View} → Sets r t (Happens r t x)
    itself : {x : View} → Sets r t (Happens i t x)

  -- from which facts delay i, of d and r, is due then
  pub data Keeps (d r : ℕ) : ℕ → Option ℕ → List Fact → Type 0 where
    set :
        {t n : ℕ} {f : Fact} →
        0 < n →
        t + n < 2 ^ 63 →
        Sets r t f →
        Keeps d r t (Some (t + n)) (Happens d t (Plain (scalar.Int (pos n))) ∷ f ∷ [])
    set_too_late :
        {t n : ℕ} {f : Fact} →
        2 ^ 63 ≤ t + n →
        Sets r t f →
        Keeps d r t None (Happens d t (Plain (scalar.Int (pos n))) ∷ f ∷ [])
    cancelled :
        {t : ℕ} {f g : Fact} →
        Tells d t None f →
        Sets r t g →
        Keeps d r t None (f ∷ g ∷ [])
    none_at_zero :
        {f g : Fact} →
        Tells r 0 None f →
        Tells i 0 None g →
        Keeps d r 0 None (f ∷ g ∷ [])
    kept :
        {t : ℕ} {due : Option ℕ} {f g : Fact} →
        Tells r (suc t) None f →
        Tells i (suc t) None g →
        Keeps d r (suc t) due (f ∷ g ∷ Pending i t due ∷ [])
    over_gap :
        {before to : ℕ} {due : Option ℕ} →
        before < to →
        Keeps d r to due (Gap (suc before) to ∷ Pending i before due ∷ [])

-- ---- all rules
-- at none of the times up to this one
abbrev pub IsAfter : ℕ → Option ℕ → Type 0
IsAfter to None = Unit {0}
IsAfter to (Some due) = to < due

-- each of these delays is pending after a time, due at none or after another
pub data AllWait (before to : ℕ) : List ℕ → List Fact → Type 0 where
  done : AllWait before to [] []
  next :
      {i : ℕ} {delays : List ℕ} {due : Option ℕ} {fs : List Fact} →
      IsAfter to due →
      AllWait before to delays fs →
      AllWait before to (i ∷ delays) (Pending i before due ∷ fs)

module _ (s : System) (slice : List ℕ) (p : Inputs) where
  -- equation i is one of the slice
  pub record IsMember (i : ℕ) (e : Equation) : Type 0 where
    pub among : IsTrue (is_in slice i)
    pub is : equation s i ≡ Some e

  -- no input of the slice has an event from one time to another
  pub record NothingGiven (from to : ℕ) : Type 0 where
    pub none :
        (i : ℕ) (e : Equation) →
        IsMember i e →
        e.op ≡ op.Input →
        (u : ℕ) → from ≤ u → u ≤ to →
        p i u ≡ None

  pub data Follows : Fact → List Fact → Type 0 where
    happens :
        {i t : ℕ} {v : View} {fs : List Fact} (e : Equation) →
        IsMember i e →
        Makes p i e t v fs →
        Follows (Happens i t v) fs
    silent :
        {i t : ℕ} {fs : List Fact} (e : Equation) →
        IsMember i e →
        Lacks p i e t fs →
        Follows (Silent i t t) fs
    silent_in_gap :
        {i from to low high : ℕ} (e : Equation) →
        IsMember i e →
        low ≤ from →
        from ≤ to →
        to ≤ high →
        Follows (Silent i from to) (Gap low high ∷ [])
    silent_joined :
        {i from middle to : ℕ} (e : Equation) →
        IsMember i e →
        from ≤ middle →
        middle < to →
        Follows (Silent i from to) (Silent i from middle ∷ Silent i (suc middle) to ∷ [])
    gap :
        {before to : ℕ} {fs : List Fact} →
        before < to →
        NothingGiven (suc before) to →
        AllWait before to (filter (λ i. is_delay (equation s i)) slice) fs →
        Follows (Gap (suc before) to) fs
    pending :
        {i t d r : ℕ} {due : Option ℕ} {fs : List Fact} (e : Equation) →
        IsMember i e →
        e.op ≡ op.Delay →
        e.args ≡ d ∷ r ∷ [] →
        Keeps p i e d r t due fs →
        Follows (Pending i t due) fs
