-- What follows at one time is so.
use Rattle.std.proofs.Common.{◌≡◌, ℕ, zero, suc, ◌<◌, ◌≤◌, ◌^◌, Bool, true, false, List, [], ◌∷◌, Option, Some, None, Ok, refl, sym, ap, subst, ◌∙◌, inl, inr, arith}
use Rattle.std.specs.Prelude.{IsTrue, if◌then◌else◌, is_some}
use Rattle.std.specs.List.{AllByRecursion, Contains}
use Rattle.std.specs.Option.{option_or}
use Rattle.std.proofs.lemmas.Bool.{cases_Bool, eq-eqb, false≢true}
use Rattle.tsl_value.specs.View.{View}
use Rattle.tsl_value.specs.declared.scalar.ValueType.{ValueType}
use Rattle.flat_core.specs.declared.equation.Op.{Op}
use Rattle.flat_core.specs.declared.equation.Op.TheVariants as op
use Rattle.flat_core.specs.declared.equation.Equation.{Equation}
use Rattle.flat_core.specs.System.{System, runs}
use Rattle.flat_core.specs.Complete.{IsFlat}
use Rattle.flat_core.specs.Stream.{History, event, has_event, latest}
use Rattle.flat_core.specs.Events.{Inputs, unit, filtered, merged, at_once}
use Rattle.flat_core.specs.Case.{Streams, own_of}
use Rattle.flat_core.specs.Pending.{option_is}
use Rattle.flat_core.specs.Solution.{Solves}
use Rattle.flat_core.specs.inner.Arity.{HasArity}
use Rattle.flat_core.specs.inner.Kept.{IsKept}
use Rattle.flat_core.proofs.DueLemmas.{delay_kept, delayed_is-due, option_is-some}
use Rattle.flat_core.proofs.Shapes.{shape_of}
use Rattle.flat_core.proofs.StillLemmas.{latest_still}
use Rattle.flat_slice.specs.Slice.{IsSlice}
use Rattle.why_rules.specs.Facts.{Fact, Pending, IsDue, Says}
use Rattle.why_rules.specs.Rules.{Tells, TellsEach, SilentBetween, Makes, Lacks, IsMember, looks_back}
use Rattle.why_rules.specs.Rules as rule
use Rattle.why_rules.specs.Derivation.{IsSound}
use Rattle.why_rules.proofs.AtOnce.{values, own-computed, own-joined, own-missed, own-seen, own-constant, own-past, own-never, at_once-missed}
use Rattle.why_rules.proofs.Members.{argument_in, runs_member, nothing, own_event}

latest_is : (h : History) (t u : ℕ) (v : View) → u < t → event (h u) ≡ Some v → ((w : ℕ) → suc u ≤ w → w < t → h w ≡ None) → latest h t ≡ Some v
latest_is h t u v lt there none = latest_still h (suc u) t (omega arith) none ∙ (λ k. option_or (there k) (latest h u))

never_yet : (h : History) (t : ℕ) → ((w : ℕ) → w < t → h w ≡ None) → latest h t ≡ None
never_yet h t none = latest_still h 0 t (omega arith) (λ w low lt. none w lt)

either_none : (b : Bool) → ◌≡◌ {A = Option View} (if b then None else None) None
either_none true = refl
either_none false = refl

pub delay_args : (args : List ℕ) → HasArity op.Delay args → (d : ℕ) × (r : ℕ) × (args ≡ d ∷ r ∷ [])
delay_args (d ∷ r ∷ []) shape = (d, r, refl)
delay_args _ shape = absurd shape

last_args : (args : List ℕ) → HasArity op.Last args → (a : ℕ) × (r : ℕ) × (args ≡ a ∷ r ∷ [])
last_args (a ∷ r ∷ []) shape = (a, r, refl)
last_args _ shape = absurd shape

not_due : (t : ℕ) (due : Option ℕ) → ¬ (due ≡ Some t) → option_is t due ≡ false
not_due t due other = elim (cases_Bool (option_is t due)) [
  | inl is ↦ absurd (other (option_is-some t due is))
  | inr is_not ↦ is_not
]

module _ (p : Inputs) (z : Streams) (i : ℕ) (of : ValueType) where
  at_zero-none : (c : Op) (args : List ℕ) → IsTrue (looks_back c) → HasArity c args → own_of p z i c args of 0 ≡ Ok None
  at_zero-none op.Last (a ∷ r ∷ []) back shape = ap Ok (either_none (has_event (z r 0)))
  at_zero-none op.Last _ back shape = absurd shape
  at_zero-none op.Delay (d ∷ r ∷ []) back shape = refl
  at_zero-none op.Delay _ back shape = absurd shape
  at_zero-none c args back shape = absurd (false≢true back)

pub at_head : (a : ℕ) (args rest : List ℕ) → args ≡ a ∷ rest → Contains args a
at_head a args rest is = subst (λ xs. Contains xs a) (sym is) (0, omega arith, refl)

pub at_next : (a b : ℕ) (args rest : List ℕ) → args ≡ a ∷ b ∷ rest → Contains args b
at_next a b args rest is = subst (λ xs. Contains xs b) (sym is) (1, omega arith, refl)

module _ (s : System) (whole : IsFlat s) (o : ℕ) (o_runs : IsTrue (runs s o)) (slice : List ℕ) (is : IsSlice s o slice) (p : Inputs) (bound : ℕ) (small : bound ≤ 2 ^ 63) (z : Streams) (solves : Solves s p bound z) (sound : IsSound slice z bound) where
  pub tell : (a t : ℕ) (v : Option View) (f : Fact) → t < bound → Tells a t v f → Says s slice z bound f → event (z a t) ≡ v
  tell a t v f lt rule.Tells.event says = says lt
  tell a t v f lt (rule.Tells.none low high) says = says t low high lt

  told : (t : ℕ) (args : List ℕ) (vs : List (Option View)) (fs : List Fact) → t < bound → TellsEach t args vs fs → AllByRecursion (Says s slice z bound) fs → values z args t ≡ vs
  told t args vs fs lt rule.TellsEach.done all = refl
  told t args vs fs lt (rule.TellsEach.next {a = a} {args = rest} {v = v} {vs = ws} {f = f} {fs = gs} first others) all =
      let here = tell a t v f lt first all.0 in
      let after = told t rest ws gs lt others all.1 in
      λ k. here k ∷ after k

  silent_after : (a u t : ℕ) (fs : List Fact) → t < bound → SilentBetween a u t fs → AllByRecursion (Says s slice z bound) fs → (w : ℕ) → u ≤ w → w < t → event (z a w) ≡ None
  silent_after a u t fs lt (rule.SilentBetween.no_time high) all w low before = absurd (omega arith)
  silent_after a u t fs lt (rule.SilentBetween.times from_low) all w low before = all.0 w low (omega arith) (omega arith)

  module _ (i : ℕ) (e : Equation) (m : IsMember s slice p i e) where
    shape : HasArity e.op e.args
    shape = shape_of s whole i e m.is

    by_case : (t : ℕ) → t < bound → (v : Option View) → own_of p z i e.op e.args e.of t ≡ Ok v → event (z i t) ≡ v
    by_case t lt v own = own_event s whole o o_runs slice is p bound z solves sound i t e m lt v own

    -- where the delay is due, by what is pending
    due_case : (t : ℕ) (due : Option ℕ) → suc t < bound → e.op ≡ op.Delay → Says s slice z bound (Pending i t due) → event (z i (suc t)) ≡ (if option_is (suc t) due then Some unit else None)
    due_case t due lt is_delay says =
        let args = delay_args e.args (subst (λ c. HasArity c e.args) is_delay shape) in
        let d = args.0 in
        let r = args.1 in
        let kept : IsKept z i op.Delay (d ∷ r ∷ []) (suc t) = λ w low. delay_kept s p z bound solves i e (runs_member s whole o o_runs slice is p bound z solves sound i m.among) m.is is_delay d r args.2 w (omega arith) in
        let pends = subst (λ xs. IsDue z i t xs due) args.2 (says (omega arith) e m.is) (suc t) (omega arith) (omega arith) in
        by_case (suc t) lt (if option_is (suc t) due then Some unit else None)
        ((λ k. own_of p z i (is_delay k) (args.2 k) e.of (suc t)) ∙ ap Ok (delayed_is-due z i (suc t) d r kept) ∙ (λ k. Ok (if pends k then Some unit else None)))

    pub made : (t : ℕ) (v : View) (fs : List Fact) → t < bound → Makes p i e t v fs → AllByRecursion (Says s slice z bound) fs → event (z i t) ≡ Some v
    made t v fs lt (rule.Makes.given op_is at) all = by_case t lt (Some v) ((λ k. own_of p z i (op_is k) e.args e.of t) ∙ ap Ok at)
    made t v fs lt (rule.Makes.constant is_one at) all = by_case t lt (Some v) (own-constant p z i e.of e.op e.args v is_one shape at)
    made t v fs lt (rule.Makes.seen {a = a} {x = x} by c) all = by_case t lt (Some v) (own-seen p z i t a x (all.0 lt) e.of e.op e.args v by shape c)
    made t v fs lt (rule.Makes.first {a = a} {b = b} op_is args_are) all =
        let there = all.0 lt in
        by_case t lt (Some v) ((λ k. own_of p z i (op_is k) (args_are k) e.of t) ∙ (λ k. Ok (merged (there k) (event (z b t)))))
    made t v fs lt (rule.Makes.second {a = a} {b = b} {f = f} op_is args_are tells) all =
        let none = tell a t None f lt tells all.0 in
        let there = all.1.0 lt in
        by_case t lt (Some v) ((λ k. own_of p z i (op_is k) (args_are k) e.of t) ∙ (λ k. Ok (merged (none k) (there k))))
    made t v fs lt (rule.Makes.computed {vs = vs} computes each_one at) all =
        let are = told t e.args vs fs lt each_one all in
        by_case t lt (Some v) (own-computed p z i t e.of e.op e.args computes ∙ (λ k. at_once e.op e.of (are k) t) ∙ at)
    made t v fs lt (rule.Makes.last {u = u} {a = a} {r = r} {x = x} {fs = gs} op_is args_are low silent) all =
        let asked : has_event (z r t) ≡ true = ap is_some (all.0 lt) in
        let there = all.1.0 (omega arith) in
        let quiet = silent_after a (suc u) t gs lt silent all.1.1 in
        let member = argument_in s whole o o_runs slice is p bound z solves sound i e m a (at_head a e.args (r ∷ []) args_are) in
        let found = latest_is (z a) t u v low there (λ w from before. nothing s whole o o_runs slice is p bound z solves sound a w member (omega arith) (quiet w from before)) in
        by_case t lt (Some v) ((λ k. own_of p z i (op_is k) (args_are k) e.of t) ∙ (λ k. Ok (if asked k then found k else None)))
    made t v fs lt (rule.Makes.expired {t = u} op_is) all =
        due_case u (Some (suc u)) lt op_is all.0 ∙ (λ k. if eq-eqb (suc u) (suc u) refl k then Some unit else None)

    pub lacked : (t : ℕ) (fs : List Fact) → t < bound → Lacks p i e t fs → AllByRecursion (Says s slice z bound) fs → event (z i t) ≡ None
    lacked t fs lt (rule.Lacks.not_given op_is at) all = by_case t lt None ((λ k. own_of p z i (op_is k) e.args e.of t) ∙ ap Ok at)
    lacked t fs lt (rule.Lacks.never op_is) all =
        by_case t lt None ((λ k. own_of p z i (op_is k) e.args e.of t) ∙ own-never p z i e.of t e.args (subst (λ c. HasArity c e.args) op_is shape))
    lacked t fs lt (rule.Lacks.past {t = u} is_one) all = by_case t lt None (own-past p z i e.of u e.op e.args is_one shape)
    lacked t fs lt (rule.Lacks.missing {a = a} {f = f} misses_one c tells) all =
        let none = tell a t None f lt tells all.0 in
        by_case t lt None (own-missed p z i t e.of e.op e.args misses_one ∙ at_once-missed z t a none e.of e.op e.args misses_one shape c)
    lacked t fs lt (rule.Lacks.not_true {a = a} {c = c} op_is args_are) all =
        let no = all.0 lt in
        by_case t lt None ((λ k. own_of p z i (op_is k) (args_are k) e.of t) ∙ (λ k. Ok (filtered (event (z a t)) (no k))))
    lacked t fs lt (rule.Lacks.without {vs = vs} joins_all each_one at) all =
        let are = told t e.args vs fs lt each_one all in
        by_case t lt None (own-joined p z i t e.of e.op e.args joins_all ∙ (λ k. at_once e.op e.of (are k) t) ∙ at)
    lacked t fs lt (rule.Lacks.at_zero back) all = by_case zero lt None (at_zero-none p z i e.of e.op e.args back shape)
    lacked t fs lt (rule.Lacks.not_asked {a = a} {r = r} {f = f} op_is args_are tells) all =
        let silent : has_event (z r t) ≡ false = ap is_some (tell r t None f lt tells all.0) in
        by_case t lt None ((λ k. own_of p z i (op_is k) (args_are k) e.of t) ∙ (λ k. Ok (if silent k then latest (z a) t else None)))
    lacked t fs lt (rule.Lacks.nothing_before {t = u} {a = a} {r = r} op_is args_are) all =
        let member = argument_in s whole o o_runs slice is p bound z solves sound i e m a (at_head a e.args (r ∷ []) args_are) in
        let none = never_yet (z a) (suc u) (λ w before. nothing s whole o o_runs slice is p bound z solves sound a w member (omega arith) (all.0 w (omega arith) (omega arith) (omega arith))) in
        by_case (suc u) lt None ((λ k. own_of p z i (op_is k) (args_are k) e.of (suc u)) ∙ (λ k. Ok (if has_event (z r (suc u)) then none k else None)) ∙ ap Ok (either_none (has_event (z r (suc u)))))
    lacked t fs lt (rule.Lacks.not_due {t = u} {due = due} op_is other) all =
        due_case u due lt op_is all.0 ∙ (λ k. if not_due (suc u) due other k then Some unit else None)
