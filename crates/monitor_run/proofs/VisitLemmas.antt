-- The marked steps of an instant, one after another.
use Rattle.std.proofs.Common.{◌≡◌, ◌==◌, ℕ, zero, suc, ◌+◌, ◌<◌, ◌≤◌, ◌-◌, Bool, true, false, not, ◌&&◌, ◌||◌, List, [], ◌∷◌, ◌++◌, length, take, get_or, Option, Some, None, refl, sym, ap, subst, ◌∙◌, inl, inr, arith}
use Rattle.std.proofs.lemmas.Bool.{and_parts, cases_Bool, cases_eq, cases_lt, eq-eqb, eqb-false, eqb-true, false≢true, lt-ltb, le-ltb, ltb-true, or_cases, or_left, or_parts, true≢false}
use Rattle.std.proofs.lemmas.Option.{get_or_from_slice_get, slice_get-get_or}
use Rattle.std.specs.Prelude.{◌≢◌, if◌then◌else◌, IsTrue, IsFalse, is_some, nat_lt, slice_get, slice_index_or}
use Rattle.std.specs.List.{Contains}
use Rattle.std.specs.Option.{option_map_or}
use Rattle.agenda.specs.inner.Marks.{has_mark}
use Rattle.alias_rules.specs.Fine.{IsFinePlan}
use Rattle.alias_rules.specs.Steps.{argument, printed, MustPrecede}
use Rattle.alias_rules.proofs.Ordered.{needed_order}
use Rattle.alias_rules.proofs.Ranks.{not_in_take, one_place}
use Rattle.lift_func.specs.declared.fault.FaultKind.{FaultKind}
use Rattle.std.specs.FinMap as finite_map
use Rattle.cell_reader.specs.inner.Cells.{Cells}
use Rattle.body_eval.specs.inner.Registers.{HoldsLive, held}
use Rattle.body_eval.specs.declared.register.Register.{Register}
use Rattle.body_eval.specs.declared.register.Register.TheVariants as register
use Rattle.flat_core.specs.declared.equation.Equation.{Equation}
use Rattle.flat_core.specs.declared.equation.Op.{Op}
use Rattle.flat_core.specs.declared.equation.Op.TheVariants as op
use Rattle.flat_core.specs.declared.equation.Output.{Output}
use Rattle.flat_core.specs.Case.{used_of}
use Rattle.flat_core.specs.Complete.{IsFlat}
use Rattle.flat_core.specs.Members.{is_in}
use Rattle.flat_core.specs.System.{System, runs, equation}
use Rattle.flat_core.specs.WellFormed.{unguarded_of}
use Rattle.flat_core.proofs.Members.{all_at, all_from, Contains-in, in-Contains}
use Rattle.flat_core.proofs.Shapes.{running_args, shape_of}
use Rattle.flat_core.proofs.Uniqueness.{used_all}
use Rattle.register_code.specs.inner.Plan.{IsPlanOrder}
use Rattle.register_machine.specs.Content.{print_of}
use Rattle.register_machine.specs.Run.{Plan}
use Rattle.step_uses.specs.Uses.{printed_at, row, used_at, used_by}
use Rattle.monitor_run.specs.declared.machine.Machine.{Machine}
use Rattle.monitor_run.specs.declared.run.Root.{Root}
use Rattle.monitor_run.specs.inner.Here.{TakesTyped, is_blocked_here, is_marked}
use Rattle.monitor_run.specs.inner.Instant.{HasPrinted, HasRunAll, HasRunOne, IsLeastRoot, SameBeside}
use Rattle.monitor_run.specs.inner.Machine.{AreFresh, CanPrint, HasRoom, front_of, printed_to}
use Rattle.monitor_run.specs.inner.Registers.{register_at}
use Rattle.monitor_run.specs.inner.Visits.{AreFilled, AreMarked, AreSkipped, AreUnprinted, AreUses, IsNextPlace, has_come, is_empty}
use Rattle.monitor_run.proofs.KeptTypes.{AllHeld}
use Rattle.monitor_run.proofs.LoopLemmas.{IsPartly, in_push, equation_sound, equation_typed, partly_equation, partly_printed, same-two}
use Rattle.monitor_run.proofs.PlanLemmas.{PrintsNext, found_next, next_is, prints_next, step_runs}
use Rattle.monitor_run.proofs.PrintLemmas.{IsPrintedRun, can_each, can_still, none_printed, room_printed, run_printed, same_printed, texts_are, texts_printed}
use Rattle.monitor_run.proofs.RunLemmas.{marks_same, others_same}
use Rattle.monitor_run.proofs.SkipLemmas.{IsBlankAt, print_skipped, run_skipped}

-- ---- what a step uses

pub used_of_equation : (s : System) (n : ℕ) (e : Equation) → n < length s.equations → equation s n ≡ Some e → used_by s n ≡ used_of e.op e.args
used_of_equation s n e lt is = λ k. if lt-ltb n (length s.equations) lt k then used_at (is k) else printed_at (slice_get s.outputs (n - length s.equations))

pub used_of_print : (s : System) (n : ℕ) → length s.equations ≤ n → used_by s n ≡ printed_at (slice_get s.outputs (n - length s.equations))
used_of_print s n le = λ k. if le-ltb n (length s.equations) le k then used_at (equation s n) else printed_at (slice_get s.outputs (n - length s.equations))

-- ---- no root fault is added
pub least_none : (root : Option Root) (among besides : ℕ → Bool) (at : ℕ → Option FaultKind) → IsLeastRoot among at root → IsLeastRoot besides at None → IsLeastRoot (λ i. among i || besides i) at root
least_none None among besides at least none = λ i h. elim (or_cases (among i) (besides i) h) [
  | inl here ↦ least i here
  | inr there ↦ none i there
]
least_none (Some r) among besides at least none = (
  or_left (among r.equation) (besides r.equation) least.0,
  least.1,
  λ i h lt. elim (or_cases (among i) (besides i) h) [
    | inl here ↦ least.2 i here lt
    | inr there ↦ none i there
  ],
)

same_all : (m : Machine) → SameBeside m m
same_all m = record { timers = refl; last = refl; registers_each = refl; faulted_each = refl; ledger_each = refl; texts_each = refl }

-- ---- steps that are left out
module _ (s : System) (whole : IsFlat s) (plan : Plan) (fine : IsFinePlan s plan.in_place plan.order) (t : ℕ) (late : t ≢ 0) (old mid : Machine) (root : Option Root) (room : HasRoom s old) where
  -- step k has nothing at what it uses
  abbrev IsIdleAt : ℕ → Type 0
  IsIdleAt k = (a : ℕ) → IsTrue (is_in (used_by s (get_or plan.order k 0)) a) → IsBlankAt mid a

  module _ (k : ℕ) (lt : k < length plan.order) (p : IsPartly s plan t (take k plan.order) old mid root) (idle : IsIdleAt k) where
    order_is : IsPlanOrder s plan.order
    order_is = needed_order s plan.in_place plan.order fine.ordered

    skip_equation : (n : ℕ) → n ≡ get_or plan.order k 0 → n < length s.equations → (e : Equation) → equation s n ≡ Some e → IsPartly s plan t (take (k + 1) plan.order) old mid root
    skip_equation n is there e at =
        let comes = next_is s whole plan.order order_is k n lt is there e at in
        let blank = all_from (IsBlankAt mid) (used_of e.op e.args) (λ a c. idle a (subst (λ j. IsTrue (is_in (used_by s j) a)) is (subst (λ xs. IsTrue (is_in xs a)) (sym (used_of_equation s n e there at)) (in-Contains (used_of e.op e.args) a c)))) in
        partly_equation s whole plan fine t k lt old mid root p room n is there e at mid None root (same_all mid) refl
        (run_skipped (is_in plan.in_place n) t n e mid late (shape_of s whole n e at) blank (λ other. (p.fresh n e comes.running at comes.new).empty other))
        (least_none root) (λ none. (none, refl))

    skip_print : length s.equations ≤ get_or plan.order k 0 → IsPartly s plan t (take (k + 1) plan.order) old mid root
    skip_print high =
        let next = prints_next s whole plan.order order_is k lt high in
        let place : get_or plan.order k 0 - length s.equations ≡ next.k = let is = next.is in omega arith in
        partly_printed s whole plan fine t k lt old mid root p room high mid (same_all mid)
        (subst (λ j. HasPrinted s t j mid mid) (sym place) (print_skipped s t next.k mid (blank_printed next place) (p.unprinted next.k (subst (λ n. is_in (take k plan.order) n ≡ false) next.is not_yet))))
      where
        not_yet : is_in (take k plan.order) (get_or plan.order k 0) ≡ false
        not_yet = not_in_take plan.order k order_is.once lt

        blank_printed : (next : PrintsNext s (take k plan.order) (get_or plan.order k 0)) → get_or plan.order k 0 - length s.equations ≡ next.k → register_at mid.registers.items (print_of s next.k) ≡ register.Empty
        blank_printed next place = from (slice_get s.outputs next.k) refl
          where
            from : (o : Option Output) → slice_get s.outputs next.k ≡ o → register_at mid.registers.items (print_of s next.k) ≡ register.Empty
            from None is = absurd (no_output s.outputs next.k next.there is)
              where
                no_output : (os : List Output) (j : ℕ) → j < length os → slice_get os j ≡ None → ⊥
                no_output [] j lt is = absurd (omega arith)
                no_output (o ∷ os) zero lt is = absurd (cc)
                no_output (o ∷ os) (suc j) lt is = no_output os j (omega arith) is
            from (Some o) is =
                let printed_is : print_of s next.k ≡ o.equation = ap (λ q. option_map_or (λ (x : Output). x.equation) q 0) is in
                let used : used_by s (get_or plan.order k 0) ≡ o.equation ∷ [] = used_of_print s (get_or plan.order k 0) high ∙ (λ j. printed_at (slice_get s.outputs (place j))) ∙ ap printed_at is in
                (idle (print_of s next.k) (subst (λ xs. IsTrue (is_in xs (print_of s next.k))) (sym used) (or_left (o.equation == print_of s next.k) false (eq-eqb o.equation (print_of s next.k) (sym printed_is))))).empty

    pub skip_one : IsPartly s plan t (take (k + 1) plan.order) old mid root
    skip_one = elim (cases_lt (get_or plan.order k 0) (length s.equations)) [
      | inl there ↦ found there (equation s (get_or plan.order k 0)) refl
      | inr high ↦ skip_print high
    ]
      where
        found : get_or plan.order k 0 < length s.equations → (q : Option Equation) → equation s (get_or plan.order k 0) ≡ q → IsPartly s plan t (take (k + 1) plan.order) old mid root
        found there None is = absurd (no_equation s.equations (get_or plan.order k 0) there is)
          where
            no_equation : (es : List Equation) (j : ℕ) → j < length es → slice_get es j ≡ None → ⊥
            no_equation [] j lt is = absurd (omega arith)
            no_equation (e ∷ es) zero lt is = absurd (cc)
            no_equation (e ∷ es) (suc j) lt is = no_equation es j (omega arith) is
        found there (Some e) is = skip_equation (get_or plan.order k 0) refl there e is

  pub skip_many : (d k : ℕ) → k + d ≤ length plan.order → IsPartly s plan t (take k plan.order) old mid root → ((q : ℕ) → k ≤ q → q < k + d → IsIdleAt q) → IsPartly s plan t (take (k + d) plan.order) old mid root
  skip_many zero k le p idle = let same : k ≡ k + 0 = omega arith in subst (λ j. IsPartly s plan t (take j plan.order) old mid root) same p
  skip_many (suc d) k le p idle =
      let same : (k + 1) + d ≡ k + suc d = omega arith in
      subst (λ j. IsPartly s plan t (take j plan.order) old mid root) same
      (skip_many d (k + 1) (omega arith) (skip_one k (omega arith) p (idle k (omega arith) (omega arith))) (λ q low high. idle q (omega arith) (omega arith)))

-- ---- what uses an equation comes after it
module _ (s : System) (order : List ℕ) (plan : IsPlanOrder s order) (p q : ℕ) (there : p < length order) (within : q < length order) where
  placed : MustPrecede s (get_or order p 0) (get_or order q 0) → p < q
  placed must =
      let pair = plan.agrees (get_or order p 0) (get_or order q 0) must in
      let first = one_place order p pair.first plan.once there pair.first_is in
      let second = one_place order q pair.second plan.once within pair.second_is in
      let before = pair.is_before in
      omega arith

  unguarded_used : (o : Op) (args : List ℕ) (a : ℕ) → is_in (used_of o args) a ≡ true → is_in (unguarded_of o args) a ≡ true
  unguarded_used op.Last args a is = is
  unguarded_used op.Delay args a is = absurd (false≢true is)
  unguarded_used o args a is = is

  pub user_later : IsTrue (is_in (used_by s (get_or order q 0)) (get_or order p 0)) → p < q
  user_later uses = elim (cases_lt (get_or order q 0) (length s.equations)) [
    | inl low ↦ by_equation low (equation s (get_or order q 0)) refl
    | inr high ↦ by_print high (slice_get s.outputs (get_or order q 0 - length s.equations)) refl
  ]
    where
      is_there : Contains order (get_or order q 0)
      is_there = (q, within, get_or_from_slice_get order q (get_or order q 0) (get_or order q 0) (slice_get-get_or order q 0 within))

      by_equation : get_or order q 0 < length s.equations → (o : Option Equation) → equation s (get_or order q 0) ≡ o → p < q
      by_equation low None is =
          let none : used_by s (get_or order q 0) ≡ [] = λ k. if lt-ltb (get_or order q 0) (length s.equations) low k then used_at (is k) else printed_at (slice_get s.outputs (get_or order q 0 - length s.equations)) in
          absurd (false≢true (sym (ap (λ xs. is_in xs (get_or order p 0)) none) ∙ uses))
      by_equation low (Some e) is =
          let used = sym (ap (λ xs. is_in xs (get_or order p 0)) (used_of_equation s (get_or order q 0) e low is)) ∙ uses in
          placed (argument (step_runs s order plan (get_or order q 0) ((plan.steps (get_or order q 0)).0 is_there) low)
          (record { at = e; is = is; argument = Contains-in (unguarded_of e.op e.args) (get_or order p 0) (unguarded_used e.op e.args (get_or order p 0) used) }))

      by_print : length s.equations ≤ get_or order q 0 → (o : Option Output) → slice_get s.outputs (get_or order q 0 - length s.equations) ≡ o → p < q
      by_print high None is =
          let none = used_of_print s (get_or order q 0) high ∙ ap printed_at is in
          absurd (false≢true (sym (ap (λ xs. is_in xs (get_or order p 0)) none) ∙ uses))
      by_print high (Some o) is =
          let one = used_of_print s (get_or order q 0) high ∙ ap printed_at is in
          let here = sym (ap (λ xs. is_in xs (get_or order p 0)) one) ∙ uses in
          let same : o.equation ≡ get_or order p 0 = elim (or_cases (o.equation == get_or order p 0) false here) [
            | inl yes_here ↦ eqb-true o.equation (get_or order p 0) yes_here
            | inr none ↦ absurd (false≢true none)
          ] in
          placed (printed (get_or order q 0 - length s.equations) o is (sym same) (omega arith))

-- ---- the steps so far
pub record IsVisiting (s : System) (plan : Plan) (t : ℕ) (at_once : Option ℕ) (all : Bool) (before : List ℕ) (old : Machine) (next : ℕ) (marks texts : List Bool) (filled out : List ℕ) (mid : Machine) (root : Option Root) : Type 0 where
  pub low : next ≤ length plan.order
  pub printed : IsPrintedRun s plan t at_once (take next plan.order) before old out mid root
  pub marks_each : length marks ≡ length plan.order
  pub texts_each : length texts ≡ length s.outputs
  pub ahead : IsFalse all → (p : ℕ) → IsTrue (has_mark marks p) → next ≤ p
  pub idle : IsFalse all → (p : ℕ) → next ≤ p → p < length plan.order → IsFalse (has_mark marks p) → (a : ℕ) → IsTrue (is_in (used_by s (get_or plan.order p 0)) a) → IsBlankAt mid a
  pub filled_are : IsFalse all → AreFilled filled mid.registers.items
  pub unprinted : AreUnprinted texts mid.texts.items
  pub blank : IsTrue (is_some at_once) → mid.texts ≡ old.texts

pub come_parts : (registers : List Register) (faulted : List Bool) (i : ℕ) → has_come registers faulted i ≡ false → (register_at registers i ≡ register.Empty) × (is_marked faulted i ≡ false)
come_parts registers faulted i none =
    let parts = or_parts (not (is_empty (register_at registers i))) (is_marked faulted i) none in
    (empty_is (register_at registers i) parts.0, parts.1)
  where
    empty_is : (r : Register) → not (is_empty r) ≡ false → r ≡ register.Empty
    empty_is register.Empty is = refl
    empty_is (register.Scalar x) is = absurd (true≢false is)
    empty_is (register.Aggregate h) is = absurd (true≢false is)

-- ---- the place that comes next
module _ (s : System) (whole : IsFlat s) (plan : Plan) (fine : IsFinePlan s plan.in_place plan.order) (t : ℕ) (at_once : Option ℕ) (all : Bool) (late : IsFalse all → t ≢ 0) (before : List ℕ) (old : Machine) (room : HasRoom s old) (can : CanPrint at_once before old.texts.items)
    (next : ℕ) (marks texts : List Bool) (filled out : List ℕ) (mid : Machine) (root : Option Root) (v : IsVisiting s plan t at_once all before old next marks texts filled out mid root) where
  room_printed_now : HasRoom s (printed_to at_once before old)
  room_printed_now = room_printed s at_once before old can room

  -- steps up to a place are left out
  pub left_out : (p : ℕ) → next ≤ p → p ≤ length plan.order → AreSkipped all marks next p → IsPrintedRun s plan t at_once (take p plan.order) before old out mid root
  left_out p low high skipped = elim (cases_lt next p) [
    | inl some ↦
        let going : IsFalse all = (skipped next (omega arith) some).0 in
        let from : next + (p - next) ≡ p = omega arith in
        record {
          same = v.printed.same;
          can = v.printed.can;
          front_is = v.printed.front_is;
          run =
              subst (λ k. IsPartly s plan t (take k plan.order) (printed_to at_once before old) (printed_to at_once out mid) root) from
              (skip_many s whole plan fine t (late going) (printed_to at_once before old) (printed_to at_once out mid) root room_printed_now (p - next) next (omega arith) v.printed.run
              (λ q low_q high_q a used. let b = v.idle going q low_q (omega arith) (skipped q low_q (omega arith)).1 a used in record { empty = b.empty; unmarked = b.unmarked }));
        }
    | inr none ↦ let same : next ≡ p = omega arith in subst (λ k. IsPrintedRun s plan t at_once (take k plan.order) before old out mid root) same v.printed
  ]

  -- none is left
  pub all_out : AreSkipped all marks next (length plan.order) → IsPrintedRun s plan t at_once (take (length plan.order) plan.order) before old out mid root
  all_out skipped = left_out (length plan.order) v.low (omega arith) skipped

  module _ (marks1 : List Bool) (count p : ℕ) (count_is : count ≡ length plan.order) (size1 : length marks1 ≡ length marks) (n : IsNextPlace all marks marks1 next count p) where
    there : p < length plan.order
    there = let w = n.within in omega arith

    pub run_to : IsPrintedRun s plan t at_once (take p plan.order) before old out mid root
    run_to = left_out p n.low (let w = n.within in omega arith) n.skipped

    order_here : IsPlanOrder s plan.order
    order_here = needed_order s plan.in_place plan.order fine.ordered

    -- what stays idle
    still_idle : IsFalse all → (q : ℕ) → p + 1 ≤ q → q < length plan.order → IsFalse (has_mark marks1 q) → (a : ℕ) → IsTrue (is_in (used_by s (get_or plan.order q 0)) a) → IsBlankAt mid a
    still_idle going q low lt none a used = v.idle going q (let l = n.low in omega arith) lt (sym (n.left q (omega arith)) ∙ none) a used

    -- it is an equation
    module _ (rows : List (List ℕ)) (uses : AreUses s plan.order rows) (i : ℕ) (is : i ≡ get_or plan.order p 0) (low_i : i < length s.equations) (e : Equation) (at : equation s i ≡ Some e) where
      pub takes_at : TakesTyped mid.store.cells mid.registers.items e
      takes_at = equation_typed s whole plan fine t p there (printed_to at_once before old) (printed_to at_once out mid) root run_to.run room_printed_now i is low_i e at

      pub sound_at : root ≡ None → is_blocked_here mid.faulted.items e.op e.args ≡ false
      sound_at = equation_sound s whole plan fine t p there (printed_to at_once before old) (printed_to at_once out mid) root run_to.run room_printed_now i is low_i e at

      module _ (new : Machine) (found least : Option Root) (beside : SameBeside mid new) (texts_same : new.texts ≡ mid.texts) (ran : HasRunOne (is_in plan.in_place i) t i e mid new found)
          (least_is : (among besides : ℕ → Bool) (f : ℕ → Option FaultKind) → IsLeastRoot among f root → IsLeastRoot besides f found → IsLeastRoot (λ j. among j || besides j) f least)
          (none_is : least ≡ None → (root ≡ None) × (found ≡ None))
          (marks2 : List Bool) (filled2 : List ℕ) (size2 : length marks2 ≡ length marks1)
          (noted : IsFalse all → (q : ℕ) → has_mark marks2 q ≡ (has_mark marks1 q || (has_come new.registers.items new.faulted.items i && is_in (row rows i) q)))
          (filled_is : IsFalse all → filled2 ≡ (if is_empty (register_at new.registers.items i) then filled else filled ++ i ∷ [])) where
        can_now : CanPrint at_once out new.texts.items
        can_now = can_still at_once out mid.texts.items new.texts.items (ap (λ w. length w.items) texts_same) v.printed.can

        run_now : IsPrintedRun s plan t at_once (take (p + 1) plan.order) before old out new least
        run_now = record {
          same = same-two v.printed.same beside;
          can = can_now;
          front_is = v.printed.front_is;
          run =
              partly_equation s whole plan fine t p there (printed_to at_once before old) (printed_to at_once out mid) root run_to.run room_printed_now i is low_i e at (printed_to at_once out new) found least
              (same_printed at_once out out mid new v.printed.can can_now beside) (texts_printed at_once out mid new texts_same)
              (run_printed at_once out (is_in plan.in_place i) t i e mid new found ran) least_is none_is;
        }

        no_mark1 : IsFalse all → (q : ℕ) → has_mark marks2 q ≡ false → (has_mark marks1 q ≡ false) × ((has_come new.registers.items new.faulted.items i && is_in (row rows i) q) ≡ false)
        no_mark1 going q none = or_parts (has_mark marks1 q) (has_come new.registers.items new.faulted.items i && is_in (row rows i) q) (sym (noted going q) ∙ none)

        in_row : (q : ℕ) → q < length plan.order → is_in (row rows i) q ≡ is_in (used_by s (get_or plan.order q 0)) i
        in_row q lt = uses i q low_i ∙ (λ k. lt-ltb q (length plan.order) lt k && is_in (used_by s (get_or plan.order q 0)) i)

        idle_now : IsFalse all → (q : ℕ) → p + 1 ≤ q → q < length plan.order → IsFalse (has_mark marks2 q) → (a : ℕ) → IsTrue (is_in (used_by s (get_or plan.order q 0)) a) → IsBlankAt new a
        idle_now going q low lt none a used = elim (cases_eq a i) [
          | inl same ↦
              let user : is_in (row rows i) q ≡ true = in_row q lt ∙ subst (λ j. is_in (used_by s (get_or plan.order q 0)) j ≡ true) same used in
              let gone = come_parts new.registers.items new.faulted.items i (first_false (has_come new.registers.items new.faulted.items i) (is_in (row rows i) q) user (no_mark1 going q none).1) in
              subst (IsBlankAt new) (sym same) (record { empty = gone.0; unmarked = gone.1 })
          | inr other ↦
              let was = still_idle going q low lt (no_mark1 going q none).0 a used in
              record {
                empty = others_same (is_in plan.in_place i) t i e mid new found ran a other ∙ was.empty;
                unmarked = marks_same (is_in plan.in_place i) t i e mid new found ran a other ∙ was.unmarked;
              }
        ]
          where
            first_false : (x y : Bool) → y ≡ true → (x && y) ≡ false → x ≡ false
            first_false true y is none = absurd (true≢false (sym is ∙ none))
            first_false false y is none = refl

        ahead_now : IsFalse all → (q : ℕ) → IsTrue (has_mark marks2 q) → p + 1 ≤ q
        ahead_now going q marked = elim (or_cases (has_mark marks1 q) (has_come new.registers.items new.faulted.items i && is_in (row rows i) q) (sym (noted going q) ∙ marked)) [
          | inl still ↦ let after = n.later going q still in omega arith
          | inr now ↦
              let user = (and_parts (has_come new.registers.items new.faulted.items i) (is_in (row rows i) q) now).1 in
              let parts = and_parts (nat_lt q (length plan.order)) (is_in (used_by s (get_or plan.order q 0)) i) (sym (uses i q low_i) ∙ user) in
              let after = user_later s plan.order order_here p q there (ltb-true q (length plan.order) parts.0) (subst (λ j. is_in (used_by s (get_or plan.order q 0)) j ≡ true) is parts.1) in
              omega arith
        ]

        filled_now : IsFalse all → AreFilled filled2 new.registers.items
        filled_now going = subst (λ xs. AreFilled xs new.registers.items) (sym (filled_is going)) (by (register_at new.registers.items i) refl)
          where
            size : length new.registers.items ≡ length mid.registers.items
            size = beside.registers_each

            wide : length mid.registers.items ≡ length s.equations
            wide = v.printed.same.registers_each ∙ room.registers

            others : (j : ℕ) → j ≢ i → register_at new.registers.items j ≡ register_at mid.registers.items j
            others j apart = others_same (is_in plan.in_place i) t i e mid new found ran j apart

            kept_known : (j : ℕ) → IsTrue (is_in filled j) → j < length new.registers.items
            kept_known j listed = let lt = (v.filled_are going).known j listed in omega arith

            more : AreFilled (filled ++ i ∷ []) new.registers.items
            more = record {
              known = λ j listed. elim (or_cases (is_in filled j) (i == j) (sym (in_push filled i j) ∙ listed)) [
                | inl was ↦ kept_known j was
                | inr here ↦ let same = eqb-true i j here in omega arith
              ];
              rest = λ j none.
                  let two = or_parts (is_in filled j) (i == j) (sym (in_push filled i j) ∙ none) in
                  others j (λ same. eqb-false i j two.1 (sym same)) ∙ (v.filled_are going).rest j two.0;
            }

            by : (r : Register) → register_at new.registers.items i ≡ r → AreFilled (if is_empty r then filled else filled ++ i ∷ []) new.registers.items
            by register.Empty empty = record {
              known = kept_known;
              rest = λ j none. elim (cases_eq j i) [
                | inl same ↦ ap (register_at new.registers.items) same ∙ empty
                | inr other ↦ others j other ∙ (v.filled_are going).rest j none
              ];
            }
            by (register.Scalar x) full = more
            by (register.Aggregate h) full = more

        pub visited_equation : IsVisiting s plan t at_once all before old (p + 1) marks2 texts filled2 out new least
        visited_equation = record {
          low = let lt = there in omega arith;
          printed = run_now;
          marks_each = size2 ∙ size1 ∙ v.marks_each;
          texts_each = v.texts_each;
          ahead = ahead_now;
          idle = idle_now;
          filled_are = filled_now;
          unprinted = subst (λ w. AreUnprinted texts w.items) (sym texts_same) v.unprinted;
          blank = λ one. texts_same ∙ v.blank one;
        }

    -- it is a print
    module _ (high : length s.equations ≤ get_or plan.order p 0) where
      abbrev output_at : ℕ
      output_at = get_or plan.order p 0 - length s.equations

      prints_at : PrintsNext s (take p plan.order) (get_or plan.order p 0)
      prints_at = prints_next s whole plan.order order_here p there high

      output_is : prints_at.k ≡ output_at
      output_is = let is = prints_at.is in omega arith

      pub there_at : output_at < length s.outputs
      there_at = let lt = prints_at.there in let is = output_is in omega arith

      pub live_at : HoldsLive mid.store.cells (register_at mid.registers.items (print_of s output_at))
      live_at =
          let found = whole.proper.runs_all (print_of s prints_at.k) prints_at.running in
          subst (λ j. HoldsLive mid.store.cells (register_at mid.registers.items (print_of s j))) output_is
          (run_to.run.all.held.each (print_of s prints_at.k) found.0 prints_at.running found.1).live

      module _ (new : Machine) (more : List ℕ) (beside : SameBeside mid new) (printed_now : HasPrinted s t output_at (printed_to at_once out mid) (printed_to at_once more new)) (can_now : CanPrint at_once more new.texts.items)
          (front_now : front_of at_once more ≡ front_of at_once out) (texts2 : List Bool) (each2 : length texts2 ≡ length texts) (unprinted2 : AreUnprinted texts2 new.texts.items) (blank2 : IsTrue (is_some at_once) → new.texts ≡ mid.texts) where
        pub visited_print : IsVisiting s plan t at_once all before old (p + 1) marks1 texts2 filled more new root
        visited_print = record {
          low = let lt = there in omega arith;
          printed = record {
            same = same-two v.printed.same beside;
            can = can_now;
            front_is = front_now ∙ v.printed.front_is;
            run = partly_printed s whole plan fine t p there (printed_to at_once before old) (printed_to at_once out mid) root run_to.run room_printed_now high (printed_to at_once more new) (same_printed at_once out more mid new v.printed.can can_now beside) printed_now;
          };
          marks_each = size1 ∙ v.marks_each;
          texts_each = each2 ∙ v.texts_each;
          ahead = λ going q marked. let after = n.later going q marked in omega arith;
          idle = λ going q low lt none a used.
              let was = still_idle going q low lt none a used in
              record { empty = ap (λ w. register_at w.items a) printed_now.registers ∙ was.empty; unmarked = ap (λ w. is_marked w.items a) printed_now.faulted ∙ was.unmarked };
          filled_are = λ going. subst (λ w. AreFilled filled w.items) (sym printed_now.registers) (v.filled_are going);
          unprinted = unprinted2;
          blank = λ one. blank2 one ∙ v.blank one;
        }

-- ---- once all has run
pub all_printed : (s : System) (plan : Plan) (t : ℕ) (at_once : Option ℕ) (before : List ℕ) (old m : Machine) (root : Option Root) → CanPrint at_once before old.texts.items → HasRunAll s plan t (printed_to at_once before old) m root → HasRunAll s plan t old m root
all_printed s plan t at_once before old m root can all = record {
  same = record {
    timers = all.same.timers;
    last = all.same.last;
    registers_each = all.same.registers_each;
    faulted_each = all.same.faulted_each;
    ledger_each = all.same.ledger_each;
    texts_each = all.same.texts_each ∙ ap length (texts_are at_once before old can) ∙ can_each at_once before old.texts.items can;
  };
  types = all.types;
  held = all.held;
  last = all.last;
  cells_stay = all.cells_stay;
  means = λ inputs a starts. all.means inputs a (record {
    given = λ i e run is. let g = starts.given i e run is in record { input = g.input; delay = g.delay };
    beside = record { lasts = starts.beside.lasts; cells = starts.beside.cells; ledger = starts.beside.ledger };
  });
}

-- ---- how the steps begin
pub none_visited : (s : System) → IsFlat s → (plan : Plan) (t : ℕ) (at_once : Option ℕ) (all : Bool) (rows : List (List ℕ)) → AreUses s plan.order rows → IsPlanOrder s plan.order → (marks texts : List Bool) (filled out : List ℕ) (old : Machine)
    → AllHeld s old → AreFresh s old → CanPrint at_once out old.texts.items → front_of at_once out ≡ out → ((k : ℕ) → slice_index_or old.texts.items k [] ≡ [])
    → length marks ≡ length plan.order → length texts ≡ length s.outputs → (IsFalse all → AreFilled filled old.registers.items) → HasRoom s old → (IsFalse all → AreMarked rows filled marks)
    → IsVisiting s plan t at_once all out old 0 marks texts filled out old None
none_visited s whole plan t at_once all rows uses order marks texts filled out old all_held fresh can front blank marks_each texts_each filled_are room marked = record {
  low = omega arith;
  printed = none_printed s whole plan t at_once out old all_held fresh can front blank;
  marks_each = marks_each;
  texts_each = texts_each;
  ahead = λ going p is. omega arith;
  idle = λ going p low lt none a used. record {
    empty = (filled_are going).rest a (not_filled going p lt none a used);
    unmarked = let run = used_runs p lt a used in let found = whole.proper.runs_all a run in (fresh.each a found.0 run found.1).unmarked;
  };
  filled_are = filled_are;
  unprinted = λ k none. blank k;
  blank = λ one. refl;
}
  where
    used_runs : (p : ℕ) → p < length plan.order → (a : ℕ) → IsTrue (is_in (used_by s (get_or plan.order p 0)) a) → IsTrue (runs s a)
    used_runs p lt a used = elim (cases_lt (get_or plan.order p 0) (length s.equations)) [
      | inl low ↦
          let comes = found_next s whole plan.order order p (get_or plan.order p 0) lt refl low in
          let args = running_args s whole.proper (get_or plan.order p 0) comes.at comes.running comes.is in
          all_at (λ x. IsTrue (runs s x)) (used_of comes.at.op comes.at.args) (used_all (λ x. IsTrue (runs s x)) comes.at.op comes.at.args args) a
          (Contains-in (used_of comes.at.op comes.at.args) a (sym (ap (λ xs. is_in xs a) (used_of_equation s (get_or plan.order p 0) comes.at low comes.is)) ∙ used))
      | inr high ↦ by_print high (slice_get s.outputs (get_or plan.order p 0 - length s.equations)) refl
    ]
      where
        by_print : length s.equations ≤ get_or plan.order p 0 → (o : Option Output) → slice_get s.outputs (get_or plan.order p 0 - length s.equations) ≡ o → IsTrue (runs s a)
        by_print high None is = absurd (false≢true (sym (ap (λ xs. is_in xs a) (used_of_print s (get_or plan.order p 0) high ∙ ap printed_at is)) ∙ used))
        by_print high (Some o) is =
            let next = prints_next s whole plan.order order p lt high in
            let place : get_or plan.order p 0 - length s.equations ≡ next.k = let is = next.is in omega arith in
            let printed_is : print_of s next.k ≡ o.equation = ap (λ q. option_map_or (λ (x : Output). x.equation) q 0) (ap (slice_get s.outputs) (sym place) ∙ is) in
            let here = sym (ap (λ xs. is_in xs a) (used_of_print s (get_or plan.order p 0) high ∙ ap printed_at is)) ∙ used in
            let same : o.equation ≡ a = elim (or_cases (o.equation == a) false here) [
              | inl yes_here ↦ eqb-true o.equation a yes_here
              | inr none ↦ absurd (false≢true none)
            ] in
            subst (λ x. IsTrue (runs s x)) (printed_is ∙ same) next.running

    within : IsFalse all → (a : ℕ) → IsTrue (is_in filled a) → a < length s.equations
    within going a listed = let lt = (filled_are going).known a listed in let each = room.registers in omega arith

    not_filled : IsFalse all → (p : ℕ) → p < length plan.order → IsFalse (has_mark marks p) → (a : ℕ) → IsTrue (is_in (used_by s (get_or plan.order p 0)) a) → IsFalse (is_in filled a)
    not_filled going p lt none a used = elim (cases_Bool (is_in filled a)) [
      | inl listed ↦
          let user : is_in (row rows a) p ≡ true = uses a p (within going a listed) ∙ (λ k. lt-ltb p (length plan.order) lt k && used k) in
          absurd (true≢false (sym (marked going a p listed user) ∙ none))
      | inr unlisted ↦ unlisted
    ]

-- what a register that is asked says
pub empty_is : (r : Register) (b : Bool) → ((c : Cells) → is_some (held c r) ≡ not b) → is_empty r ≡ b
empty_is register.Empty true is = refl
empty_is register.Empty false is = absurd (false≢true (is finite_map.empty))
empty_is (register.Scalar x) true is = absurd (true≢false (is finite_map.empty))
empty_is (register.Scalar x) false is = refl
empty_is (register.Aggregate h) true is = absurd (true≢false (is finite_map.empty))
empty_is (register.Aggregate h) false is = refl
