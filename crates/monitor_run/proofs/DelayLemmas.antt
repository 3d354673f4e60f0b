-- The delays of a system.
use Rattle.std.proofs.Common.{◌≡◌, ◌==◌, ℕ, zero, suc, ◌+◌, ◌<◌, ◌≤◌, Bool, true, false, ◌&&◌, ◌||◌, List, [], ◌∷◌, length, get_or, map, take, Option, Some, None, refl, sym, ap, subst, ◌∙◌, inl, inr, arith}
use Rattle.std.proofs.lemmas.Bool.{cases_Bool, eq-eqb, eqb-true, eqb-false, and_parts, false≢true, or_cases, or_left, or_right}
use Rattle.std.proofs.lemmas.List.Elements.{All-from_recursion}
use Rattle.std.specs.List.{All, flat_map}
use Rattle.body_eval.specs.declared.register.Register.TheVariants as register
use Rattle.flat_core.proofs.Members.{all_from, in-Contains}
use Rattle.flat_core.proofs.Rising.{in_filter}
use Rattle.step_uses.specs.Uses.{args_at, is_of_delay, row}
use Rattle.monitor_run.specs.inner.Visits.{AreDelays, AreFilled}
use Rattle.std.proofs.Math.Bool.{or-false, or-true}
use Rattle.std.proofs.lemmas.List.Folds.{list_any-append, list_any_more}
use Rattle.std.proofs.lemmas.Option.{slice_get_within}
use Rattle.std.specs.Prelude.{◌≢◌, if◌then◌else◌, is_some, IsTrue, slice_index}
use Rattle.std.specs.Option.{option_map}
use Rattle.std.specs.FinMap as finite_map
use Rattle.delay_timers.specs.inner.Pending.{Times}
use Rattle.lift_func.specs.declared.fault.FaultKind.{FaultKind}
use Rattle.body_eval.specs.declared.register.Register.{Register}
use Rattle.cell_reader.specs.inner.Cells.{Cells}
use Rattle.body_eval.specs.inner.Registers.{held}
use Rattle.flat_core.specs.declared.equation.Equation.{Equation}
use Rattle.flat_core.specs.declared.equation.Op.TheVariants as op
use Rattle.flat_core.specs.Events.{refused}
use Rattle.flat_core.specs.Complete.{IsFlat}
use Rattle.flat_core.specs.Instant.{is_delay}
use Rattle.flat_core.specs.Members.{is_in}
use Rattle.flat_core.specs.Pending.{reached}
use Rattle.flat_core.specs.System.{System, equation, runs, numbers}
use Rattle.flat_core.specs.Kept.{is_timer, timers_of}
use Rattle.monitor_run.specs.declared.run.Root.{Root}
use Rattle.register_machine.specs.Stands.{in_time}
use Rattle.flat_core.specs.inner.Arity.{HasArity}
use Rattle.monitor_run.specs.inner.Here.{first_of}
use Rattle.monitor_run.specs.inner.Instant.{IsLeastRoot, refusal_of, second_of, set_at, set_by}
use Rattle.monitor_run.specs.inner.Registers.{register_at, value_at}
use Rattle.flat_core.proofs.Shapes.{shape_of}
use Rattle.flat_core.proofs.Answered.{delay_op}
use Rattle.monitor_run.proofs.RootLemmas.{least-one, least-same}

-- a running delay is there
pub timer_there : (s : System) → IsFlat s → (i : ℕ) → IsTrue (is_timer s i) → i < length s.equations
timer_there s whole i h =
    let parts = and_parts (runs s i) (is_delay (equation s i)) h in
    let found = whole.proper.runs_all i parts.0 in
    slice_get_within s.equations i found.0 found.1

pub timer_runs : (s : System) (i : ℕ) → IsTrue (is_timer s i) → IsTrue (runs s i)
timer_runs s i h = (and_parts (runs s i) (is_delay (equation s i)) h).0

pub timer_shape : (s : System) → IsFlat s → (i : ℕ) (e : Equation) → IsTrue (is_timer s i) → equation s i ≡ Some e → HasArity op.Delay e.args
timer_shape s whole i e h is =
    let parts = and_parts (runs s i) (is_delay (equation s i)) h in
    subst (λ o. HasArity o e.args) (delay_op e.op (ap is_delay (sym is) ∙ parts.1)) (shape_of s whole i e is)

pub delay_two : (args : List ℕ) → HasArity op.Delay args → length args ≡ 2
delay_two [] shape = absurd shape
delay_two (d ∷ []) shape = absurd shape
delay_two (d ∷ r ∷ []) shape = refl
delay_two (d ∷ r ∷ a ∷ args) shape = absurd shape

pub first_is : (c : Cells) (registers : List Register) (args : List ℕ) → HasArity op.Delay args → first_of (map (value_at c registers) args) ≡ held c (register_at registers (slice_index args 0))
first_is c registers [] shape = absurd shape
first_is c registers (d ∷ []) shape = absurd shape
first_is c registers (d ∷ r ∷ []) shape = refl
first_is c registers (d ∷ r ∷ a ∷ args) shape = absurd shape

pub second_is : (c : Cells) (registers : List Register) (args : List ℕ) → HasArity op.Delay args → second_of (map (value_at c registers) args) ≡ held c (register_at registers (slice_index args 1))
second_is c registers [] shape = absurd shape
second_is c registers (d ∷ []) shape = absurd shape
second_is c registers (d ∷ r ∷ []) shape = refl
second_is c registers (d ∷ r ∷ a ∷ args) shape = absurd shape

-- ---- refused amounts
module _ (s : System) (c : Cells) (registers : List Register) where
  pub refused-more : (delays : List ℕ) (k d : ℕ) (e : Equation) → k < length delays → d ≡ get_or delays k 0 → equation s d ≡ Some e → HasArity op.Delay e.args → (root found result : Option Root)
      → IsLeastRoot (is_in (take k delays)) (λ i. refusal_of (equation s i) c registers) root
      → found ≡ option_map (λ kind. record { equation = d; kind = kind }) (refused (held c (register_at registers (slice_index e.args 0))))
      → ((among besides : ℕ → Bool) (p : ℕ → Option FaultKind) → IsLeastRoot among p root → IsLeastRoot besides p found → IsLeastRoot (λ i. among i || besides i) p result)
      → IsLeastRoot (is_in (take (k + 1) delays)) (λ i. refusal_of (equation s i) c registers) result
  refused-more delays k d e lt is there shape root found result before found_is least =
      let one : refusal_of (equation s d) c registers ≡ refused (held c (register_at registers (slice_index e.args 0))) = (λ j. refusal_of (there j) c registers) ∙ ap refused (first_is c registers e.args shape) in
      least-same (λ i. is_in (take k delays) i || (d == i)) (is_in (take (k + 1) delays)) (λ i. refusal_of (equation s i) c registers) result
      (λ i. (λ j. is_in (take k delays) i || (is j == i)) ∙ sym (list_any_more (λ j. j == i) delays k 0 lt))
      (least (is_in (take k delays)) (λ i. d == i) (λ i. refusal_of (equation s i) c registers) before
      (subst (IsLeastRoot (λ i. d == i) (λ i. refusal_of (equation s i) c registers)) (sym found_is) (least-one d (λ i. refusal_of (equation s i) c registers) (refused (held c (register_at registers (slice_index e.args 0)))) one)))

-- ---- setting
pub set_again : (o : Option Equation) (c : Cells) (registers : List Register) (t i : ℕ) (due : Option ℕ) → set_at o c registers t i (set_at o c registers t i due) ≡ set_at o c registers t i due
set_again None c registers t i due = refl
set_again (Some e) c registers t i due = again (is_some (second_of (map (value_at c registers) e.args)) || is_some (value_at c registers i)) (in_time (reached t (first_of (map (value_at c registers) e.args))))
  where
    again : (b : Bool) (x : Option ℕ) → (if b then x else (if b then x else due)) ≡ (if b then x else due)
    again true x = refl
    again false x = refl

module _ (s : System) (c : Cells) (registers : List Register) (t : ℕ) (delays : List ℕ) (k d : ℕ) (lt : k < length delays) (is : d ≡ get_or delays k 0) (first mid new : Times) where
  pub set-more : (e : Equation) → equation s d ≡ Some e
      → ((i : ℕ) → finite_map.get mid i ≡ (if is_in (take k delays) i then set_at (equation s i) c registers t i (finite_map.get first i) else finite_map.get first i))
      → finite_map.get new d ≡ set_at (Some e) c registers t d (finite_map.get mid d)
      → ((i : ℕ) → i ≢ d → finite_map.get new i ≡ finite_map.get mid i)
      → (i : ℕ) → finite_map.get new i ≡ (if is_in (take (k + 1) delays) i then set_at (equation s i) c registers t i (finite_map.get first i) else finite_map.get first i)
  set-more e there before here others i =
      let more : (is_in (take k delays) i || (d == i)) ≡ is_in (take (k + 1) delays) i = (λ j. is_in (take k delays) i || (is j == i)) ∙ sym (list_any_more (λ j. j == i) delays k 0 lt) in
      elim (cases_Bool (d == i)) [
        | inl now ↦
            let same = eqb-true d i now in
            subst (λ j. finite_map.get new j ≡ set_at (equation s j) c registers t j (finite_map.get first j)) same (set_here (is_in (take k delays) d) (before d))
            ∙ sym (λ j. if (sym more ∙ (λ x. is_in (take k delays) i || now x) ∙ or-true (is_in (take k delays) i)) j then set_at (equation s i) c registers t i (finite_map.get first i) else finite_map.get first i)
        | inr other ↦
            others i (λ same. eqb-false d i other (sym same)) ∙ before i
            ∙ sym (λ j. if (sym more ∙ (λ x. is_in (take k delays) i || other x) ∙ or-false (is_in (take k delays) i)) j then set_at (equation s i) c registers t i (finite_map.get first i) else finite_map.get first i)
      ]
    where
      set_here : (b : Bool) → finite_map.get mid d ≡ (if b then set_at (equation s d) c registers t d (finite_map.get first d) else finite_map.get first d) → finite_map.get new d ≡ set_at (equation s d) c registers t d (finite_map.get first d)
      set_here true was = here ∙ (λ j. set_at (sym there j) c registers t d (was j)) ∙ set_again (equation s d) c registers t d (finite_map.get first d)
      set_here false was = here ∙ (λ j. set_at (sym there j) c registers t d (was j))

-- one delay
module _ (c : Cells) (registers : List Register) (args : List ℕ) (shape : HasArity op.Delay args) (t i : ℕ) (amount reset own : Register) (b : Bool)
    (amount_is : amount ≡ register_at registers (slice_index args 0)) (reset_is : reset ≡ register_at registers (slice_index args 1)) (own_is : own ≡ register_at registers i) (sets : b ≡ (is_some (held c reset) || is_some (held c own))) where
  pub set_case : (due : Option ℕ) → set_by t (first_of (map (value_at c registers) args)) (second_of (map (value_at c registers) args)) (value_at c registers i) due ≡ (if b then in_time (reached t (held c amount)) else due)
  set_case due =
      (λ j. if is_some (second_value j) || is_some (held c (sym own_is j)) then in_time (reached t (first_value_is j)) else due)
      ∙ (λ j. if sym sets j then in_time (reached t (held c amount)) else due)
    where
      first_value_is : first_of (map (value_at c registers) args) ≡ held c amount
      first_value_is = first_is c registers args shape ∙ ap (held c) (sym amount_is)

      second_value : second_of (map (value_at c registers) args) ≡ held c reset
      second_value = second_is c registers args shape ∙ ap (held c) (sym reset_is)

pub take_whole : (xs : List ℕ) (m : ℕ) → length xs ≤ m → take m xs ≡ xs
take_whole [] zero le = refl
take_whole [] (suc m) le = refl
take_whole (x ∷ xs) zero le = absurd (omega arith)
take_whole (x ∷ xs) (suc m) le = ap (λ l. x ∷ l) (take_whole xs m (omega arith))

-- ---- the delays that what was filled may set
module _ (s : System) (whole : IsFlat s) (rows : List (List ℕ)) (are : AreDelays s rows) (filled : List ℕ) (registers : List Register) (f : AreFilled filled registers) (each : length registers ≡ length s.equations) (delays : List ℕ) (is : delays ≡ flat_map (row rows) filled) where
  in_flat : (xs : List ℕ) (a d : ℕ) → is_in xs a ≡ true → is_in (row rows a) d ≡ true → is_in (flat_map (row rows) xs) d ≡ true
  in_flat [] a d listed there = absurd (false≢true listed)
  in_flat (x ∷ xs) a d listed there = list_any-append (λ j. j == d) (row rows x) (flat_map (row rows) xs) ∙ elim (or_cases (x == a) (is_in xs a) listed) [
    | inl here ↦ or_left (is_in (row rows x) d) (is_in (flat_map (row rows) xs) d) (ap (λ j. is_in (row rows j) d) (eqb-true x a here) ∙ there)
    | inr later ↦ or_right (is_in (row rows x) d) (is_in (flat_map (row rows) xs) d) (in_flat xs a d later there)
  ]

  from_flat : (xs : List ℕ) (d : ℕ) → is_in (flat_map (row rows) xs) d ≡ true → (a : ℕ) × (is_in xs a ≡ true) × (is_in (row rows a) d ≡ true)
  from_flat [] d listed = absurd (false≢true listed)
  from_flat (x ∷ xs) d listed = elim (or_cases (is_in (row rows x) d) (is_in (flat_map (row rows) xs) d) (sym (list_any-append (λ j. j == d) (row rows x) (flat_map (row rows) xs)) ∙ listed)) [
    | inl here ↦ (x, or_left (x == x) (is_in xs x) (eq-eqb x x refl), here)
    | inr later ↦ let found = from_flat xs d later in (found.0, or_right (x == found.0) (is_in xs found.0) found.1, found.2)
  ]

  within : (a : ℕ) → is_in filled a ≡ true → a < length s.equations
  within a listed = let lt = f.known a listed in omega arith

  pub listed_delay : (d : ℕ) → is_in delays d ≡ true → IsTrue (is_timer s d)
  listed_delay d listed =
      let found = from_flat filled d (sym (ap (λ xs. is_in xs d) is) ∙ listed) in
      let parts = and_parts (is_in (timers_of s) d) (is_of_delay s d found.0) (sym (are found.0 d (within found.0 found.1)) ∙ found.2) in
      (and_parts (is_timer s d) (is_in (numbers s) d) (sym (in_filter (is_timer s) (numbers s) d) ∙ parts.0)).0

  pub all_listed : All (λ i. IsTrue (is_timer s i)) delays
  all_listed = All-from_recursion (λ i. IsTrue (is_timer s i)) delays (all_from (λ i. IsTrue (is_timer s i)) delays (λ i there. listed_delay i (in-Contains delays i there)))

  -- nothing has come of what a delay that is not listed waits for
  nothing : (d : ℕ) → is_in (timers_of s) d ≡ true → is_in delays d ≡ false → (a : ℕ) → is_of_delay s d a ≡ true → register_at registers a ≡ register.Empty
  nothing d timer unlisted a of = elim (cases_Bool (is_in filled a)) [
    | inl listed ↦
        let there : is_in (row rows a) d ≡ true = are a d (within a listed) ∙ (λ k. timer k && of k) in
        absurd (false≢true (sym unlisted ∙ ap (λ xs. is_in xs d) is ∙ in_flat filled a d listed there))
    | inr not_listed ↦ f.rest a not_listed
  ]

  module _ (c : Cells) where
    unlisted_refusal : (i : ℕ) → is_in (timers_of s) i ≡ true → is_in delays i ≡ false → refusal_of (equation s i) c registers ≡ None
    unlisted_refusal i timer unlisted = from (equation s i) refl
      where
        from : (o : Option Equation) → equation s i ≡ o → refusal_of (equation s i) c registers ≡ None
        from None at = λ k. refusal_of (at k) c registers
        from (Some e) at = (λ k. refusal_of (at k) c registers) ∙ by_args e.args (λ a is_arg. nothing i timer unlisted a (or_right (i == a) (is_in (args_at (equation s i)) a) (ap (λ q. is_in (args_at q) a) at ∙ is_arg)))
          where
            by_args : (args : List ℕ) → ((a : ℕ) → is_in args a ≡ true → register_at registers a ≡ register.Empty) → refused (first_of (map (value_at c registers) args)) ≡ None
            by_args [] blank = refl
            by_args (a ∷ args) blank = λ k. refused (held c (blank a (or_left (a == a) (is_in args a) (eq-eqb a a refl)) k))

    pub refused_wider : (r : Option Root) → IsLeastRoot (is_in delays) (λ i. refusal_of (equation s i) c registers) r → IsLeastRoot (is_in (timers_of s)) (λ i. refusal_of (equation s i) c registers) r
    refused_wider None least = λ i timer. elim (cases_Bool (is_in delays i)) [
      | inl listed ↦ least i listed
      | inr unlisted ↦ unlisted_refusal i timer unlisted
    ]
    refused_wider (Some r) least = (
      wide r.equation least.0,
      least.1,
      λ i timer lt. elim (cases_Bool (is_in delays i)) [
        | inl listed ↦ least.2 i listed lt
        | inr unlisted ↦ unlisted_refusal i timer unlisted
      ],
    )
      where
        wide : (d : ℕ) → is_in delays d ≡ true → is_in (timers_of s) d ≡ true
        wide d listed =
            let found = from_flat filled d (sym (ap (λ xs. is_in xs d) is) ∙ listed) in
            (and_parts (is_in (timers_of s) d) (is_of_delay s d found.0) (sym (are found.0 d (within found.0 found.1)) ∙ found.2)).0

    pub set_wider : (t i : ℕ) (due : Option ℕ) → (if is_in delays i then set_at (equation s i) c registers t i due else due) ≡ (if is_in (timers_of s) i then set_at (equation s i) c registers t i due else due)
    set_wider t i due = split (is_in delays i) refl
      where
        in_timers : is_in delays i ≡ true → is_in (timers_of s) i ≡ true
        in_timers listed =
            let found = from_flat filled i (sym (ap (λ xs. is_in xs i) is) ∙ listed) in
            (and_parts (is_in (timers_of s) i) (is_of_delay s i found.0) (sym (are found.0 i (within found.0 found.1)) ∙ found.2)).0

        second_blank : (args : List ℕ) → ((a : ℕ) → is_in args a ≡ true → register_at registers a ≡ register.Empty) → second_of (map (value_at c registers) args) ≡ None
        second_blank [] blank = refl
        second_blank (a ∷ []) blank = refl
        second_blank (a ∷ b ∷ args) blank = λ k. held c (blank b (or_right (a == b) (is_in (b ∷ args) b) (or_left (b == b) (is_in args b) (eq-eqb b b refl))) k)

        left : (o : Option Equation) → equation s i ≡ o → is_in (timers_of s) i ≡ true → is_in delays i ≡ false → due ≡ set_at o c registers t i due
        left None at timer unlisted = refl
        left (Some e) at timer unlisted =
            let own : value_at c registers i ≡ None = λ k. held c (nothing i timer unlisted i (or_left (i == i) (is_in (args_at (equation s i)) i) (eq-eqb i i refl)) k) in
            let reset : second_of (map (value_at c registers) e.args) ≡ None = second_blank e.args (λ a is_arg. nothing i timer unlisted a (or_right (i == a) (is_in (args_at (equation s i)) a) (ap (λ q. is_in (args_at q) a) at ∙ is_arg))) in
            sym (λ k. set_by t (first_of (map (value_at c registers) e.args)) (reset k) (own k) due)

        by_timer : (b : Bool) → is_in (timers_of s) i ≡ b → is_in delays i ≡ false → due ≡ (if b then set_at (equation s i) c registers t i due else due)
        by_timer true timer unlisted = left (equation s i) refl timer unlisted
        by_timer false timer unlisted = refl

        split : (q : Bool) → is_in delays i ≡ q → (if is_in delays i then set_at (equation s i) c registers t i due else due) ≡ (if is_in (timers_of s) i then set_at (equation s i) c registers t i due else due)
        split true listed = (λ k. if listed k then set_at (equation s i) c registers t i due else due) ∙ sym (λ k. if in_timers listed k then set_at (equation s i) c registers t i due else due)
        split false unlisted = (λ k. if unlisted k then set_at (equation s i) c registers t i due else due) ∙ by_timer (is_in (timers_of s) i) refl unlisted
