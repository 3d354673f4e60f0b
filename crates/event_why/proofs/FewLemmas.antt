-- No rule but that of gaps uses more than eight facts.
use Rattle.std.proofs.Common.{◌≡◌, ℕ, suc, ◌≤◌, List, [], ◌∷◌, length, refl, arith}
use Rattle.tsl_value.specs.View.{View}
use Rattle.flat_core.specs.declared.equation.Equation.{Equation}
use Rattle.flat_core.specs.declared.equation.Op.{Op}
use Rattle.flat_core.specs.Complete.{IsFlat}
use Rattle.flat_core.specs.Events.{Inputs}
use Rattle.flat_core.specs.System.{System, equation}
use Rattle.flat_core.proofs.FewArguments.{args_few}
use Rattle.why_rules.specs.Facts.{Fact, Happens, Silent, Gap, Pending}
use Rattle.why_rules.specs.Rules.{TellsEach, SilentBetween, Makes, Lacks, Keeps, Follows}
use Rattle.why_rules.specs.Rules as rule
use Rattle.std.specs.Prelude.{Option, Some}
use Rattle.event_why.specs.inner.Search.{FollowsSo}

tells_few : (t : ℕ) (args : List ℕ) (vs : List (Option View)) (fs : List Fact) → TellsEach t args vs fs → length fs ≡ length args
tells_few t args vs fs rule.TellsEach.done = refl
tells_few t args vs fs (rule.TellsEach.next {args = rest} {vs = ws} {fs = gs} tells others) = let more = tells_few t rest ws gs others in omega (arith, more)

between_few : (a from to : ℕ) (fs : List Fact) → SilentBetween a from to fs → length fs ≤ 1
between_few a from to fs (rule.SilentBetween.no_time past) = omega arith
between_few a from to fs (rule.SilentBetween.times low) = omega arith

module _ (p : Inputs) (i : ℕ) (e : Equation) (few : length e.args ≤ 8) where
  makes_few : (t : ℕ) (v : View) (fs : List Fact) → Makes p i e t v fs → length fs ≤ 8
  makes_few t v fs (rule.Makes.given op_is is) = omega arith
  makes_few t v fs (rule.Makes.constant is at) = omega arith
  makes_few t v fs (rule.Makes.seen is among) = omega arith
  makes_few t v fs (rule.Makes.first op_is args_are) = omega arith
  makes_few t v fs (rule.Makes.second op_is args_are silent) = omega arith
  makes_few t v fs (rule.Makes.computed {vs = vs} is tells at) = let same = tells_few t e.args vs fs tells in omega (arith, same, few)
  makes_few t v fs (rule.Makes.last {u = u} {a = a} {fs = rest} op_is args_are early between) = let less = between_few a (suc u) t rest between in omega (arith, less)
  makes_few t v fs (rule.Makes.expired op_is) = omega arith

  lacks_few : (t : ℕ) (fs : List Fact) → Lacks p i e t fs → length fs ≤ 8
  lacks_few t fs (rule.Lacks.not_given op_is is) = omega arith
  lacks_few t fs (rule.Lacks.never op_is) = omega arith
  lacks_few t fs (rule.Lacks.past is) = omega arith
  lacks_few t fs (rule.Lacks.missing is among silent) = omega arith
  lacks_few t fs (rule.Lacks.not_true op_is args_are) = omega arith
  lacks_few t fs (rule.Lacks.without {vs = vs} is tells at) = let same = tells_few t e.args vs fs tells in omega (arith, same, few)
  lacks_few t fs (rule.Lacks.at_zero is) = omega arith
  lacks_few t fs (rule.Lacks.not_asked op_is args_are silent) = omega arith
  lacks_few t fs (rule.Lacks.nothing_before op_is args_are) = omega arith
  lacks_few t fs (rule.Lacks.not_due op_is other) = omega arith

  keeps_few : (d r t : ℕ) (due : Option ℕ) (fs : List Fact) → Keeps p i e d r t due fs → length fs ≤ 8
  keeps_few d r t due fs (rule.Keeps.set positive low sets) = omega arith
  keeps_few d r t due fs (rule.Keeps.set_too_late late sets) = omega arith
  keeps_few d r t due fs (rule.Keeps.cancelled silent sets) = omega arith
  keeps_few d r t due fs (rule.Keeps.none_at_zero first second) = omega arith
  keeps_few d r t due fs (rule.Keeps.kept first second) = omega arith
  keeps_few d r t due fs (rule.Keeps.over_gap early) = omega arith

module _ (s : System) (whole : IsFlat s) (slice : List ℕ) (p : Inputs) where
  happens_few : (i t : ℕ) (v : View) (us : List Fact) → Follows s slice p (Happens i t v) us → length us ≤ 8
  happens_few i t v us (rule.Follows.happens e m makes) = makes_few p i e (args_few s whole i e m.is) t v us makes

  silent_few : (i from to : ℕ) (us : List Fact) → Follows s slice p (Silent i from to) us → length us ≤ 8
  silent_few i from to us (rule.Follows.silent e m lacks) = lacks_few p i e (args_few s whole i e m.is) from us lacks
  silent_few i from to us (rule.Follows.silent_in_gap e m low times high) = omega arith
  silent_few i from to us (rule.Follows.silent_joined e m low high) = omega arith

  pending_few : (i t : ℕ) (due : Option ℕ) (us : List Fact) → Follows s slice p (Pending i t due) us → length us ≤ 8
  pending_few i t due us (rule.Follows.pending {d = d} {r = r} e m op_is args_are keeps) = keeps_few p i e (args_few s whole i e m.is) d r t due us keeps

  pub uses_few : (f : Fact) (us : List Fact) → FollowsSo s slice p f us → length us ≤ 8
  uses_few (Happens i t v) us follows = happens_few i t v us follows
  uses_few (Silent i from to) us follows = silent_few i from to us follows
  uses_few (Gap from to) us follows = absurd follows
  uses_few (Pending i t due) us follows = pending_few i t due us follows
