-- From which facts of a draft it follows what happens at an equation: operations that see their arguments at one time.
use Rattle.std.proofs.Common.{◌≡◌, ℕ, zero, suc, Bool, true, false, ◌&&◌, ◌||◌, List, [], ◌∷◌, map, length, Option, Some, None, Ok, Err, refl, sym, ap, subst, ◌∙◌, arith}
use Rattle.std.proofs.lemmas.Bool.{false≢true, true≢false}
use Rattle.std.proofs.lemmas.Option.{none-some}
use Rattle.std.specs.Prelude.{IsTrue, if◌then◌else◌, is_some, pos}
use Rattle.std.specs.List.{AllByRecursion, Contains, list_any, list_all}
use Rattle.tsl_value.specs.View.{View, Plain}
use Rattle.tsl_value.specs.declared.scalar.Scalar.TheVariants as scalar
use Rattle.tsl_value.specs.declared.scalar.ValueType.{ValueType}
use Rattle.tsl_value.proofs.Lists.{here, later}
use Rattle.lift_func.specs.Apply.{Answer}
use Rattle.flat_core.specs.declared.equation.Op.{Op}
use Rattle.flat_core.specs.declared.equation.Op.TheVariants as op
use Rattle.flat_core.specs.declared.equation.Equation.{Equation}
use Rattle.flat_core.specs.Case.{Streams, case_of, is_blocked, own, own_of, used_of}
use Rattle.flat_core.specs.Events.{Inputs, at_once, outcome_of, unit}
use Rattle.flat_core.specs.Stream.{Fault, event, is_fault}
use Rattle.flat_core.specs.System.{System, runs}
use Rattle.flat_core.specs.inner.Arity.{HasArity}
use Rattle.flat_core.proofs.Members.{all_at}
use Rattle.flat_core.proofs.Shapes.{running_args, shape_of}
use Rattle.flat_core.proofs.Uniqueness.{used_all}
use Rattle.trigger_rules.proofs.Values.{happens, is_plain}
use Rattle.why_rules.specs.Facts.{Fact, Happens, Silent}
use Rattle.why_rules.specs.Rules.{Tells, TellsEach, Makes, Lacks, IsMember, computes, is_constant, joins, looks_back, misses, seen_by}
use Rattle.why_rules.specs.Rules as rule
use Rattle.why_rules.proofs.AtOnce.{values, own-seen, own-never, at_once-missed}
use Rattle.event_why.specs.declared.draft.Draft.{Draft}
use Rattle.event_why.specs.declared.fact.WhyStep.{WhyStep}
use Rattle.event_why.specs.Check.{AreNamed}
use Rattle.event_why.specs.inner.Drafted.{IsGrounded, fact_of, happens_in, happens_now, number_at, there}
use Rattle.event_why.specs.inner.Silence.{misses_only}
use Rattle.event_why.specs.inner.Tale.{CanTell, Tale, fact_here, here_of}
use Rattle.event_why.proofs.DraftLemmas.{ground, there_end, there_next}

-- ---- what is in an answer, an option and a fact
abbrev pub value_in : Answer → Option View
value_in (Ok v) = v
value_in (Err kind) = None

own_back : (blocked : Bool) (a : Answer) → is_fault (if blocked then Some Fault else outcome_of a) ≡ false → a ≡ Ok (event (if blocked then Some Fault else outcome_of a))
own_back true a sound = absurd (true≢false sound)
own_back false (Ok None) sound = refl
own_back false (Ok (Some v)) sound = refl
own_back false (Err kind) sound = absurd (true≢false sound)

pub some_of : (x : Option View) → is_some x ≡ true → (v : View) × (x ≡ Some v)
some_of None is = absurd (false≢true is)
some_of (Some v) is = (v, refl)

pub none_of : (x : Option View) → is_some x ≡ false → x ≡ None
none_of None is = refl
none_of (Some v) is = absurd (true≢false is)

pub happens_here : (a t : ℕ) (x : Option View) → happens_in (Some (fact_here a t x)) ≡ is_some x
happens_here a t None = refl
happens_here a t (Some v) = refl

pub tell_here : (a t : ℕ) (x : Option View) → Tells a t x (fact_here a t x)
tell_here a t None = rule.Tells.none (omega arith) (omega arith)
tell_here a t (Some v) = rule.Tells.event

pub tells_each : (z : Streams) (t : ℕ) (args : List ℕ) → TellsEach t args (values z args t) (map (here_of z t) args)
tells_each z t [] = rule.TellsEach.done
tells_each z t (a ∷ args) = rule.TellsEach.next (tell_here a t (event (z a t))) (tells_each z t args)

-- ---- groups of operations
abbrev pub is_alone : Op → Bool
is_alone op.Input = true
is_alone op.Nil = true
is_alone op.Unit = true
is_alone op.Empty = true
is_alone _ = false

abbrev pub is_seen : Op → Bool
is_seen op.Time = true
is_seen op.Any = true
is_seen _ = false

used_same : (o : Op) (args : List ℕ) → looks_back o ≡ false → used_of o args ≡ args
used_same op.Last args is = absurd (true≢false is)
used_same op.Delay args is = absurd (true≢false is)
used_same o args is = refl

module _ (p : Inputs) (z : Streams) (i t : ℕ) (of : ValueType) where
  pub constant_made : (o : Op) (args : List ℕ) (u : ℕ) (v : View) → IsTrue (is_constant o) → HasArity o args → own_of p z i o args of u ≡ Ok (Some v) → (u ≡ 0) × (at_once o of [] 0 ≡ Ok (Some v))
  constant_made op.Unit [] zero v is shape own = (refl, own)
  constant_made op.Unit [] (suc u) v is shape own = absurd (none-some v (ap value_in own))
  constant_made op.Unit _ u v is shape own = absurd shape
  constant_made op.Empty [] zero v is shape own = (refl, own)
  constant_made op.Empty [] (suc u) v is shape own = absurd (none-some v (ap value_in own))
  constant_made op.Empty _ u v is shape own = absurd shape
  constant_made o args u v is shape own = absurd (false≢true is)

  pub constant_past : (o : Op) (args : List ℕ) (u : ℕ) → IsTrue (is_constant o) → HasArity o args → own_of p z i o args of u ≡ Ok None → (m : ℕ) × (u ≡ suc m)
  constant_past op.Unit [] zero is shape own = absurd (none-some _ (sym (ap value_in own)))
  constant_past op.Unit [] (suc u) is shape own = (u, refl)
  constant_past op.Unit _ u is shape own = absurd shape
  constant_past op.Empty [] zero is shape own = absurd (none-some _ (sym (ap value_in own)))
  constant_past op.Empty [] (suc u) is shape own = (u, refl)
  constant_past op.Empty _ u is shape own = absurd shape
  constant_past o args u is shape own = absurd (false≢true is)

  pub seen_value : (o : Op) (args : List ℕ) (a : ℕ) (x v : View) → IsTrue (is_seen o) → HasArity o args → Contains args a → event (z a t) ≡ Some x → own_of p z i o args of t ≡ Ok (Some v) → seen_by o t ≡ Some v
  seen_value op.Time args a x v is shape c at own = ap value_in (sym (own-seen p z i t a x at of op.Time args (Plain (scalar.Int (pos t))) refl shape c) ∙ own)
  seen_value op.Any args a x v is shape c at own = ap value_in (sym (own-seen p z i t a x at of op.Any args unit refl shape c) ∙ own)
  seen_value o args a x v is shape c at own = absurd (false≢true is)

  none_there : (args : List ℕ) → ((a : ℕ) → Contains args a → event (z a t) ≡ None) → list_any is_some (values z args t) ≡ false
  none_there [] none = refl
  none_there (a ∷ args) none = λ k. is_some (none a (here a args) k) || none_there args (λ b c. none b (later a b args c)) k

  pub seen_none : (o : Op) (args : List ℕ) → IsTrue (is_seen o) → HasArity o args → ((a : ℕ) → Contains args a → event (z a t) ≡ None) → own_of p z i o args of t ≡ Ok None
  seen_none op.Time (a ∷ []) is shape none = at_once-missed z t a (none a (here a [])) of op.Time (a ∷ []) refl shape (here a [])
  seen_none op.Time _ is shape none = absurd shape
  seen_none op.Any args is shape none = λ k. Ok (if none_there args none k then Some unit else None)
  seen_none o args is shape none = absurd (false≢true is)

  pub all_there : (args : List ℕ) → ((a : ℕ) → Contains args a → is_some (event (z a t)) ≡ true) → list_all is_some (values z args t) ≡ true
  all_there [] some = refl
  all_there (a ∷ args) some = both _ _ (some a (here a args)) (all_there args (λ b c. some b (later a b args c)))
    where
      both : (b c : Bool) → b ≡ true → c ≡ true → (b && c) ≡ true
      both true c is also = also
      both false c is also = absurd (false≢true is)

pub plain_misses : (o : Op) → IsTrue (misses_only o) → (vs : List (Option View)) (t : ℕ) → IsTrue (is_plain o) × (happens o vs t ≡ list_all is_some vs)
plain_misses op.Input is vs t = absurd (false≢true is)
plain_misses op.Nil is vs t = absurd (false≢true is)
plain_misses op.Unit is vs t = absurd (false≢true is)
plain_misses op.Empty is vs t = absurd (false≢true is)
plain_misses op.Any is vs t = absurd (false≢true is)
plain_misses op.Last is vs t = absurd (false≢true is)
plain_misses op.Delay is vs t = absurd (false≢true is)
plain_misses op.Merge is vs t = absurd (false≢true is)
plain_misses op.Filter is vs t = absurd (false≢true is)
plain_misses (op.Lift body true) is vs t = (refl, refl)
plain_misses (op.Lift body false) is vs t = absurd (false≢true is)
plain_misses o is vs t = (refl, refl)

pub only_misses : (o : Op) → IsTrue (misses_only o) → IsTrue (misses o)
only_misses op.Filter is = refl
only_misses op.Time is = refl
only_misses op.Pick is = refl
only_misses (op.Lift body strict) is = is
only_misses o is = is

module _ (T : Tale) (t i : ℕ) (e : Equation) (draft : Draft) (c : CanTell T t i e draft) where
  abbrev s : System
  s = T.system

  abbrev p : Inputs
  p = T.inputs

  abbrev z : Streams
  z = T.streams

  abbrev steps : List WhyStep
  steps = draft.steps.items

  abbrev table : List (Option ℕ)
  table = draft.here.numbers.items

  pub shape : HasArity e.op e.args
  shape = shape_of s c.story.whole i e c.is

  pub member : IsMember s s.running p i e
  member = record { among = c.run; is = c.is }

  -- the own case, without a fault
  pub own_here : own_of p z i e.op e.args e.of t ≡ Ok (event (z i t))
  own_here =
      let at : z i t ≡ case_of p z i e t = c.story.solves.each i e c.run c.is t c.early in
      own_back (is_blocked z e t) (own p z i e t) (sym (ap is_fault at) ∙ c.story.sound.none i t c.run c.early) ∙ ap (λ o. Ok (event o)) (sym at)

  pub own_as : (o : Op) (args : List ℕ) (x : Option View) → e.op ≡ o → e.args ≡ args → event (z i t) ≡ x → own_of p z i o args e.of t ≡ Ok x
  own_as o args x op_is args_are at = sym (λ k. own_of p z i (op_is k) (args_are k) e.of t) ∙ own_here ∙ ap Ok at

  pub args_run : AllByRecursion (λ a. IsTrue (runs s a)) e.args
  args_run = running_args s c.story.whole.proper i e c.run c.is

  -- what happens at the arguments that are used at the same time
  all_here : AllByRecursion (λ a. fact_of steps table a ≡ Some (here_of z t a)) (used_of e.op e.args)
  all_here = joined (used_of e.op e.args) c.used (used_all (λ a. IsTrue (runs s a)) e.op e.args args_run)
    where
      joined : (args : List ℕ) → AllByRecursion (λ a. IsTrue (c.done a)) args → AllByRecursion (λ a. IsTrue (runs s a)) args → AllByRecursion (λ a. fact_of steps table a ≡ Some (here_of z t a)) args
      joined [] done run = tt
      joined (a ∷ args) done run = (c.is_at.here a done.0 run.0, joined args done.1 run.1)

  pub here_used : (o : Op) (args : List ℕ) → e.op ≡ o → e.args ≡ args → (a : ℕ) → Contains (used_of o args) a → fact_of steps table a ≡ Some (here_of z t a)
  here_used o args op_is args_are a m =
      all_at (λ b. fact_of steps table b ≡ Some (here_of z t b)) (used_of e.op e.args) all_here a
      (subst (λ xs. Contains xs a) (sym (λ k. used_of (op_is k) (args_are k))) m)

  pub here_arg : looks_back e.op ≡ false → (a : ℕ) → Contains e.args a → fact_of steps table a ≡ Some (here_of z t a)
  here_arg at_once a m = here_used e.op e.args refl refl a (subst (λ xs. Contains xs a) (sym (used_same e.op e.args at_once)) m)

  pub happens_is : (a : ℕ) → fact_of steps table a ≡ Some (here_of z t a) → happens_now draft a ≡ is_some (event (z a t))
  happens_is a at = ap happens_in at ∙ happens_here a t (event (z a t))

  -- ---- naming them
  pub named_one : (a : ℕ) (x : Option View) (by : List ℕ) → fact_of steps table a ≡ Some (here_of z t a) → event (z a t) ≡ x → by ≡ there (number_at table a ∷ []) → AreNamed steps (length steps) by (fact_here a t x ∷ [])
  named_one a x by at is by_is =
      subst (λ ns. AreNamed steps (length steps) ns (fact_here a t x ∷ [])) (sym by_is)
      (there_next steps (number_at table a) (fact_here a t x) [] [] (at ∙ ap (λ y. Some (fact_here a t y)) is) (there_end steps))

  pub named_all : looks_back e.op ≡ false → (by : List ℕ) → by ≡ there (map (number_at table) e.args) → AreNamed steps (length steps) by (map (here_of z t) e.args)
  named_all at_once by by_is =
      subst (λ ns. AreNamed steps (length steps) ns (map (here_of z t) e.args)) (sym by_is)
      (each e.args (subst (λ xs. AllByRecursion (λ a. fact_of steps table a ≡ Some (here_of z t a)) xs) (used_same e.op e.args at_once) all_here))
    where
      each : (args : List ℕ) → AllByRecursion (λ a. fact_of steps table a ≡ Some (here_of z t a)) args → AreNamed steps (length steps) (there (map (number_at table) args)) (map (here_of z t) args)
      each [] all = there_end steps
      each (a ∷ args) all = there_next steps (number_at table a) (here_of z t a) (map (number_at table) args) (map (here_of z t) args) all.0 (each args all.1)

  pub event_from : (v : View) (by : List ℕ) (facts : List Fact) → AreNamed steps (length steps) by facts → Makes p i e t v facts → IsGrounded s s.running p steps (Happens i t v) by
  event_from v by facts named makes = ground s s.running p steps (Happens i t v) by facts named (rule.Follows.happens e member makes)

  pub silence_from : (by : List ℕ) (facts : List Fact) → AreNamed steps (length steps) by facts → Lacks p i e t facts → IsGrounded s s.running p steps (Silent i t t) by
  silence_from by facts named lacks = ground s s.running p steps (Silent i t t) by facts named (rule.Follows.silent e member lacks)

  none_named : (by : List ℕ) → by ≡ [] → AreNamed steps (length steps) by []
  none_named by is = subst (λ ns. AreNamed steps (length steps) ns []) (sym is) (there_end steps)

  -- ---- no argument
  makes_constant : IsTrue (is_constant e.op) → (v : View) → event (z i t) ≡ Some v → Makes p i e t v []
  makes_constant is v at =
      let made = constant_made p z i t e.of e.op e.args t v is shape (own_here ∙ ap Ok at) in
      subst (λ u. Makes p i e u v []) (sym made.0) (rule.Makes.constant is made.1)

  makes_alone : (o : Op) → e.op ≡ o → IsTrue (is_alone o) → (v : View) → event (z i t) ≡ Some v → Makes p i e t v []
  makes_alone op.Input op_is is v at = rule.Makes.given op_is (ap value_in (own_as op.Input e.args (Some v) op_is refl at))
  makes_alone op.Nil op_is is v at =
      absurd (none-some v (ap value_in (sym (own-never p z i e.of t e.args (subst (λ o. HasArity o e.args) op_is shape)) ∙ own_as op.Nil e.args (Some v) op_is refl at)))
  makes_alone op.Unit op_is is v at = makes_constant (ap is_constant op_is) v at
  makes_alone op.Empty op_is is v at = makes_constant (ap is_constant op_is) v at
  makes_alone o op_is is v at = absurd (false≢true is)

  lacks_constant : IsTrue (is_constant e.op) → event (z i t) ≡ None → Lacks p i e t []
  lacks_constant is at =
      let past = constant_past p z i t e.of e.op e.args t is shape (own_here ∙ ap Ok at) in
      subst (λ u. Lacks p i e u []) (sym past.1) (rule.Lacks.past is)

  lacks_alone : (o : Op) → e.op ≡ o → IsTrue (is_alone o) → event (z i t) ≡ None → Lacks p i e t []
  lacks_alone op.Input op_is is at = rule.Lacks.not_given op_is (ap value_in (own_as op.Input e.args None op_is refl at))
  lacks_alone op.Nil op_is is at = rule.Lacks.never op_is
  lacks_alone op.Unit op_is is at = lacks_constant (ap is_constant op_is) at
  lacks_alone op.Empty op_is is at = lacks_constant (ap is_constant op_is) at
  lacks_alone o op_is is at = absurd (false≢true is)

  pub event_alone : IsTrue (is_alone e.op) → (v : View) (by : List ℕ) → event (z i t) ≡ Some v → by ≡ [] → IsGrounded s s.running p steps (Happens i t v) by
  event_alone is v by at none = event_from v by [] (none_named by none) (makes_alone e.op refl is v at)

  pub silence_alone : IsTrue (is_alone e.op) → (by : List ℕ) → event (z i t) ≡ None → by ≡ [] → IsGrounded s s.running p steps (Silent i t t) by
  silence_alone is by at none = silence_from by [] (none_named by none) (lacks_alone e.op refl is at)
