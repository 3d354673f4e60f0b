-- What an instant leaves to the next.
use Rattle.std.proofs.Common.{◌≡◌, ◌==◌, ℕ, zero, suc, ◌+◌, ◌<◌, ◌≤◌, ◌^◌, ◌-◌, Bool, true, false, ◌&&◌, ◌||◌, List, [], ◌∷◌, ◌++◌, length, map, cond, pos, Option, Some, None, refl, sym, ap, subst, ◌∙◌, inl, inr, arith}
use Rattle.std.proofs.lemmas.Bool.{cases_Bool, cases_lt, eq-eqb, eqb-true, ltb-true, or_cases, or_left, or_right, false≢true, true≢false}
use Rattle.std.proofs.lemmas.List.{length-append}
use Rattle.std.specs.Prelude.{if◌then◌else◌, ◌≢◌, is_some, nat_eq, nat_lt, unwrap_or, IsTrue}
use Rattle.std.specs.List.{AllByRecursion, filter}
use Rattle.std.specs.FinMap as finite_map
use Rattle.std.specs.Cmp.{eq_by_cmp_equiv, nat_cmp_total}
use Rattle.std.specs.Ordering.{eq_by_cmp, nat_cmp}
use Rattle.std.specs.declared.cmp.Ordering.TheVariants.{Equal}
use Rattle.std.proofs.Math.Bool.{or_assoc}
use Rattle.std.proofs.lemmas.Option.{same_Some}
use Rattle.tsl_value.specs.View.{View, Plain}
use Rattle.tsl_value.specs.declared.scalar.Scalar.TheVariants as scalar
use Rattle.tsl_value.specs.declared.scalar.ValueType.{ValueType}
use Rattle.body_eval.specs.declared.register.Register.{Register}
use Rattle.body_eval.specs.declared.register.Register.TheVariants as register
use Rattle.cell_reader.specs.inner.Cells.{Cells, IsLive, view_at}
use Rattle.body_eval.specs.inner.Registers.{HoldsLive, held}
use Rattle.lift_func.specs.Typing.{Optional, fits}
use Rattle.aggregate_store.specs.inner.Stored.{is_listed}
use Rattle.flat_core.specs.declared.equation.Equation.{Equation}
use Rattle.flat_core.specs.Events.{refused}
use Rattle.flat_core.specs.Complete.{IsFlat}
use Rattle.flat_core.specs.Line.{Line}
use Rattle.flat_core.specs.Members.{is_in}
use Rattle.flat_core.specs.Pending.{option_is, reached}
use Rattle.flat_core.specs.System.{System, equation, runs, numbers}
use Rattle.tsl_value.specs.Aggregate.{is_aggregate, has_elements}
use Rattle.tsl_value.proofs.Aggregates.{elements_of}
use Rattle.flat_core.proofs.Members.{all_from, in-Contains}
use Rattle.flat_core.specs.Kept.{is_kept, is_timer, keeps_of, timers_of}
use Rattle.monitor_run.specs.declared.machine.Machine.{Machine}
use Rattle.register_machine.specs.Stands.{in_time}
use Rattle.register_machine.specs.Run.{Plan}
use Rattle.monitor_run.specs.inner.Here.{first_of}
use Rattle.monitor_run.specs.inner.Instant.{AreTimers, HasEnded, HasRunRegisters, IsSound, cell_in, cells_in, kept_register, left_at, refusal_of, second_of, set_at}
use Rattle.monitor_run.specs.inner.Registers.{IsHeldOf, register_at, value_at}
use Rattle.monitor_run.specs.inner.Stored.{is_stored_type}
use Rattle.flat_core.proofs.Rising.{in_filter}
use Rattle.monitor_run.proofs.InstantLemmas.{filtered_running, kept_runs, listed_kept, listed_timer}

-- ---- few cells
none_pending : (c : Cells) (q : ℕ) (v : View) → c ≡ finite_map.empty → finite_map.get c q ≡ Some v → ⊥
none_pending c q v empty is = let nothing = ap (λ m. finite_map.get m q) empty ∙ finite_map.get-empty nat_cmp q in absurd (cc)

get_gone : (c : Cells) (h q : ℕ) → IsLive (finite_map.remove c h) q → (q ≢ h) × IsLive c q
get_gone c h q live = split (eq_by_cmp nat_cmp q h) refl
  where
    split : (b : Bool) → eq_by_cmp nat_cmp q h ≡ b → (q ≢ h) × IsLive c q
    split true tied = let gone = finite_map.get-remove nat_cmp_total c h q ∙ (λ k. cond (tied k) None (finite_map.get c q)) in absurd (false≢true (sym (ap is_some gone) ∙ live))
    split false apart =
        let still = finite_map.get-remove nat_cmp_total c h q ∙ (λ k. cond (apart k) None (finite_map.get c q)) in
        ((λ same. false≢true (sym apart ∙ ap (λ x. eq_by_cmp nat_cmp x h) same ∙ (eq_by_cmp_equiv nat_cmp_total).refl h)), sym (ap is_some still) ∙ live)

-- no more cells than are listed
pub few_live : (handles : List ℕ) (c : Cells) → ((q : ℕ) → IsLive c q → is_listed handles q ≡ true) → finite_map.len c ≤ length handles
few_live [] c listed = elim (cases_lt 0 (finite_map.len c)) [
  | inr none ↦ none
  | inl some ↦ let empty = finite_map.same_map nat_cmp_total finite_map.nat_cmp-IsAntisymmetric c finite_map.empty (λ q. nothing (finite_map.get c q) q refl ∙ sym (finite_map.get-empty nat_cmp q)) in let size = ap finite_map.len empty ∙ finite_map.len-empty nat_cmp View in omega arith
]
  where
    nothing : (o : Option View) (q : ℕ) → finite_map.get c q ≡ o → finite_map.get c q ≡ None
    nothing None q is = is
    nothing (Some v) q is = absurd (false≢true (listed q (ap is_some is)))
few_live (h ∷ handles) c listed =
    let rest = few_live handles (finite_map.remove c h) (λ q live. let was = get_gone c h q live in elim (or_cases (nat_eq h q) (is_listed handles q) (listed q was.1)) [
      | inl here ↦ absurd (was.0 (sym (eqb-true h q here)))
      | inr later ↦ later
    ]) in
    let gone = finite_map.len-remove nat_cmp_total c h in
    sized (finite_map.contains_key c h) gone rest
  where
    sized : (b : Bool) → finite_map.len (finite_map.remove c h) ≡ cond b (finite_map.len c - 1) (finite_map.len c) → finite_map.len (finite_map.remove c h) ≤ length handles → finite_map.len c ≤ suc (length handles)
    sized true is le = omega arith
    sized false is le = omega arith

-- ---- the cells of last registers
pub listed_append : (xs ys : List ℕ) (h : ℕ) → is_listed (xs ++ ys) h ≡ (is_listed xs h || is_listed ys h)
listed_append [] ys h = refl
listed_append (x ∷ xs) ys h = ap (λ b. nat_eq x h || b) (listed_append xs ys h) ∙ sym (or_assoc (nat_eq x h) (is_listed xs h) (is_listed ys h))

-- the cell of a kept register is listed
pub cell_listed : (last : List Register) (keeps : List ℕ) (i h : ℕ) → is_in keeps i ≡ true → register_at last i ≡ register.Aggregate h → is_listed (cells_in last keeps) h ≡ true
cell_listed last [] i h there is = absurd (false≢true there)
cell_listed last (k ∷ keeps) i h there is = listed_append (cell_in (register_at last k)) (cells_in last keeps) h ∙ elim (or_cases (k == i) (is_in keeps i) there) [
  | inl here ↦ or_left (is_listed (cell_in (register_at last k)) h) (is_listed (cells_in last keeps) h) (ap (λ r. is_listed (cell_in r) h) (ap (register_at last) (eqb-true k i here) ∙ is) ∙ or_left (nat_eq h h) false (eq-eqb h h refl))
  | inr later ↦ or_right (is_listed (cell_in (register_at last k)) h) (is_listed (cells_in last keeps) h) (cell_listed last keeps i h later is)
]

-- each kept register with a cell is of an aggregate type
pub few_cells_in : (s : System) (last : List Register) (keeps : List ℕ) → AllByRecursion (λ i. (h : ℕ) → register_at last i ≡ register.Aggregate h → is_stored_type (equation s i) ≡ true) keeps → length (cells_in last keeps) ≤ length (filter (λ i. is_stored_type (equation s i)) keeps)
few_cells_in s last [] all = omega arith
few_cells_in s last (k ∷ keeps) all =
    let rest = few_cells_in s last keeps all.1 in
    let both = length-append (cell_in (register_at last k)) (cells_in last keeps) in
    one (register_at last k) refl both rest
  where
    more : (b : Bool) → length (cell_in (register_at last k) ++ cells_in last keeps) ≤ length (filter (λ i. is_stored_type (equation s i)) keeps) → length (cell_in (register_at last k) ++ cells_in last keeps) ≤ length (if b then k ∷ filter (λ i. is_stored_type (equation s i)) keeps else filter (λ i. is_stored_type (equation s i)) keeps)
    more true le = omega arith
    more false le = le

    one : (r : Register) → register_at last k ≡ r → length (cell_in (register_at last k) ++ cells_in last keeps) ≡ length (cell_in (register_at last k)) + length (cells_in last keeps) → length (cells_in last keeps) ≤ length (filter (λ i. is_stored_type (equation s i)) keeps)
        → length (cell_in (register_at last k) ++ cells_in last keeps) ≤ length (if is_stored_type (equation s k) then k ∷ filter (λ i. is_stored_type (equation s i)) keeps else filter (λ i. is_stored_type (equation s i)) keeps)
    one register.Empty is both rest = let none = ap (λ q. length (cell_in q)) is in more (is_stored_type (equation s k)) (omega arith)
    one (register.Scalar x) is both rest = let none = ap (λ q. length (cell_in q)) is in more (is_stored_type (equation s k)) (omega arith)
    one (register.Aggregate h) is both rest =
        let single = ap (λ q. length (cell_in q)) is in
        subst (λ b. length (cell_in (register_at last k) ++ cells_in last keeps) ≤ length (if b then k ∷ filter (λ i. is_stored_type (equation s i)) keeps else filter (λ i. is_stored_type (equation s i)) keeps)) (sym (all.0 h is)) (omega arith)

-- ---- an instant that has ended
module _ (s : System) (whole : IsFlat s) (plan : Plan) (t : ℕ) (given : List Line) (old mid new : Machine) (sound : IsSound s t old) (ran : HasRunRegisters s plan t given old mid None) (ended : HasEnded s t mid new) where
  kept_is : (i : ℕ) → IsTrue (runs s i) → is_in (keeps_of s) i ≡ is_kept s i
  kept_is i run = filtered_running s whole (is_kept s) i run

  -- a last register before the unlisted cells are dropped
  last_kept : (i : ℕ) → IsTrue (is_kept s i) → register_at new.last.items i ≡ kept_register (register_at mid.registers.items i) (register_at old.last.items i)
  last_kept i kept =
      ended.last i ∙ (λ k. if (kept_is i (kept_runs s whole i kept) ∙ kept) k then kept_register (register_at mid.registers.items i) (register_at mid.last.items i) else register_at mid.last.items i)
      ∙ (λ k. kept_register (register_at mid.registers.items i) (register_at (ran.last_same k) i))

  unlisted : (i : ℕ) → is_kept s i ≡ false → is_in (keeps_of s) i ≡ false
  unlisted i fails = in_filter (is_kept s) (numbers s) i ∙ (λ k. fails k && is_in (numbers s) i)

  last_unkept : (i : ℕ) → is_kept s i ≡ false → register_at new.last.items i ≡ register.Empty
  last_unkept i fails =
      ended.last i ∙ (λ k. if unlisted i fails k then kept_register (register_at mid.registers.items i) (register_at mid.last.items i) else register_at mid.last.items i)
      ∙ (λ k. register_at (ran.last_same k) i) ∙ sound.unkept i fails

  kept_held : (of : ValueType) (r q : Register) → IsHeldOf mid.store.cells of r → IsHeldOf mid.store.cells of q → IsHeldOf mid.store.cells of (kept_register r q)
  kept_held of register.Empty q a b = b
  kept_held of (register.Scalar x) q a b = a
  kept_held of (register.Aggregate h) q a b = a

  held_before : (i : ℕ) (e : Equation) → IsTrue (runs s i) → equation s i ≡ Some e → IsTrue (is_kept s i) → IsHeldOf mid.store.cells e.of (register_at new.last.items i)
  held_before i e run is kept =
      subst (IsHeldOf mid.store.cells e.of) (sym (last_kept i kept))
      (kept_held e.of (register_at mid.registers.items i) (register_at old.last.items i) (ran.held.each i e run is) (subst (λ l. IsHeldOf mid.store.cells e.of (register_at l i)) ran.last_same (ran.last.each i e run is)))

  -- a listed cell stays
  stays : (h : ℕ) → is_listed (cells_in new.last.items (keeps_of s)) h ≡ true → IsLive mid.store.cells h → (IsLive new.store.cells h) × (view_at new.store.cells h ≡ view_at mid.store.cells h)
  stays h listed live =
      let alike : (x : ℕ) → nat_cmp h x ≡ Equal → is_listed (cells_in new.last.items (keeps_of s)) x ≡ is_listed (cells_in new.last.items (keeps_of s)) h = λ x tied. ap (is_listed (cells_in new.last.items (keeps_of s))) (sym (finite_map.nat_cmp-IsAntisymmetric h x tied)) in
      let got = ap (λ c. finite_map.get c h) ended.cells ∙ finite_map.get-retain_keys mid.store.cells (is_listed (cells_in new.last.items (keeps_of s))) h alike ∙ (λ k. cond (listed k) (finite_map.get mid.store.cells h) None) in
      (ap is_some got ∙ live, ap (λ o. unwrap_or o (Plain scalar.Unit)) got)

  value_stays : (i : ℕ) → IsTrue (is_kept s i) → HoldsLive mid.store.cells (register_at new.last.items i) → (held new.store.cells (register_at new.last.items i) ≡ held mid.store.cells (register_at new.last.items i)) × HoldsLive new.store.cells (register_at new.last.items i)
  value_stays i kept live = from (register_at new.last.items i) refl live
    where
      from : (r : Register) → register_at new.last.items i ≡ r → HoldsLive mid.store.cells r → (held new.store.cells r ≡ held mid.store.cells r) × HoldsLive new.store.cells r
      from register.Empty is live = (refl, tt)
      from (register.Scalar x) is live = (refl, tt)
      from (register.Aggregate h) is live =
          let still = stays h (cell_listed new.last.items (keeps_of s) i h (kept_is i (kept_runs s whole i kept) ∙ kept) is) live.0 in
          (ap Some still.1, (still.0, ap has_elements still.1 ∙ live.1))

  held_after : (i : ℕ) (e : Equation) → IsTrue (runs s i) → equation s i ≡ Some e → IsHeldOf new.store.cells e.of (register_at new.last.items i)
  held_after i e run is = elim (cases_Bool (is_kept s i)) [
    | inl kept ↦
        let before = held_before i e run is kept in
        let still = value_stays i kept before.live in
        record { typed = subst (λ v. IsTrue (fits (Optional e.of) v)) (sym still.0) before.typed; live = still.1 }
    | inr fails ↦ subst (IsHeldOf new.store.cells e.of) (sym (last_unkept i fails)) (record { typed = refl; live = tt })
  ]

  kept_cell : {P : Type 0} (r q : Register) (h : ℕ) → kept_register r q ≡ register.Aggregate h → (r ≡ register.Aggregate h → P) → (q ≡ register.Aggregate h → P) → P
  kept_cell register.Empty q h is here before = before is
  kept_cell (register.Scalar x) q h is here before = here is
  kept_cell (register.Aggregate k) q h is here before = here is

  one_type_after : (i h : ℕ) (e : Equation) → IsTrue (runs s i) → equation s i ≡ Some e → register_at new.last.items i ≡ register.Aggregate h → ran.types h ≡ e.of
  one_type_after i h e run is holds = elim (cases_Bool (is_kept s i)) [
    | inl kept ↦
        kept_cell (register_at mid.registers.items i) (register_at old.last.items i) h (sym (last_kept i kept) ∙ holds) (λ r. ran.held.one_type i h e run is r)
        (λ r. ran.last.one_type i h e run is (ap (λ l. register_at l i) ran.last_same ∙ r))
    | inr fails ↦ let empty = sym (last_unkept i fails) ∙ holds in absurd (cc)
  ]

  -- an aggregate is of such a type
  stored_type : (i : ℕ) → IsTrue (is_kept s i) → (h : ℕ) → register_at new.last.items i ≡ register.Aggregate h → is_stored_type (equation s i) ≡ true
  stored_type i kept h is =
      let run = kept_runs s whole i kept in
      let f = whole.proper.runs_all i run in
      let before : IsHeldOf mid.store.cells f.0.of (register.Aggregate h) = subst (IsHeldOf mid.store.cells f.0.of) is (held_before i f.0 run f.1 kept) in
      ap is_stored_type f.1 ∙ of_type f.0.of (view_at mid.store.cells h) before.typed before.live.1
    where
      of_type : (of : ValueType) (v : View) → IsTrue (fits (Optional of) (Some v)) → IsTrue (has_elements v) → is_aggregate of ≡ true
      of_type of v fit aggregate = sym (elements_of of v fit) ∙ aggregate

  only_listed : (q : ℕ) → IsLive new.store.cells q → is_listed (cells_in new.last.items (keeps_of s)) q ≡ true
  only_listed q live = elim (cases_Bool (is_listed (cells_in new.last.items (keeps_of s)) q)) [
    | inl holds ↦ holds
    | inr fails ↦
        let alike : (x : ℕ) → nat_cmp q x ≡ Equal → is_listed (cells_in new.last.items (keeps_of s)) x ≡ is_listed (cells_in new.last.items (keeps_of s)) q = λ x tied. ap (is_listed (cells_in new.last.items (keeps_of s))) (sym (finite_map.nat_cmp-IsAntisymmetric q x tied)) in
        let gone = ap (λ c. finite_map.get c q) ended.cells ∙ finite_map.get-retain_keys mid.store.cells (is_listed (cells_in new.last.items (keeps_of s))) q alike ∙ (λ k. cond (fails k) (finite_map.get mid.store.cells q) None) in
        absurd (false≢true (sym (ap is_some gone) ∙ live))
  ]

  -- timers

  in_time_some : (o : Option ℕ) (u : ℕ) → in_time o ≡ Some u → (o ≡ Some u) × (u < 2 ^ 63)
  in_time_some None u p = absurd (cc)
  in_time_some (Some v) u p = elim (cases_Bool (nat_lt v (2 ^ 63))) [
    | inl lt ↦
        let is : Some v ≡ Some u = sym (λ k. if lt k then Some v else None) ∙ p in
        let same = same_Some v u is in
        let fits_in = ltb-true v (2 ^ 63) lt in
        (is, omega arith)
    | inr late ↦ let nothing : None ≡ Some u = sym (λ k. if late k then Some v else None) ∙ p in absurd (cc)
  ]

  reached_later : (v : Option View) (u : ℕ) → refused v ≡ None → reached t v ≡ Some u → suc t ≤ u
  reached_later (Some (Plain (scalar.Int (pos zero)))) u p q = absurd (cc)
  reached_later (Some (Plain (scalar.Int (pos (suc n))))) u p q = let sum = same_Some (t + suc n) u q in omega arith
  reached_later v u p q = absurd (cc)

  set_later : (o : Option Equation) (c : Cells) (registers : List Register) (i u : ℕ) (due : Option ℕ) → ((v : ℕ) → due ≡ Some v → (suc t ≤ v) × (v < 2 ^ 63)) → refusal_of o c registers ≡ None → set_at o c registers t i due ≡ Some u → (suc t ≤ u) × (u < 2 ^ 63)
  set_later None c registers i u due before positive is = before u is
  set_later (Some e) c registers i u due before positive is = from (is_some (second_of (map (value_at c registers) e.args)) || is_some (value_at c registers i)) is
    where
      from : (b : Bool) → (if b then in_time (reached t (first_of (map (value_at c registers) e.args))) else due) ≡ Some u → (suc t ≤ u) × (u < 2 ^ 63)
      from true p =
          let timed = in_time_some (reached t (first_of (map (value_at c registers) e.args))) u p in
          (reached_later (first_of (map (value_at c registers) e.args)) u positive timed.0, timed.1)
      from false p = before u p

  left_some : (o : Option ℕ) (u : ℕ) → left_at t o ≡ Some u → (o ≡ Some u) × (option_is t o ≡ false)
  left_some o u is = from (option_is t o) refl is
    where
      from : (b : Bool) → option_is t o ≡ b → (if b then None else o) ≡ Some u → (o ≡ Some u) × (option_is t o ≡ false)
      from true same p = absurd (cc)
      from false same p = (p, same)

  left_later : (i u : ℕ) → finite_map.get mid.timers.times i ≡ Some u → IsTrue (is_timer s i) × (suc t ≤ u) × (u < 2 ^ 63)
  left_later i u is =
      let left = left_some (finite_map.get old.timers.times i) u (sym (ran.timers i) ∙ is) in
      let was = sound.timers.each i u left.0 in
      let low = was.1 in
      let not_now : option_is t (Some u) ≡ false = ap (option_is t) (sym left.0) ∙ left.1 in (
        was.0,
        elim (cases_lt t u) [
          | inl later ↦ later
          | inr level ↦ absurd (true≢false (sym (eq-eqb u t (omega arith)) ∙ not_now))
        ],
        was.2,
      )

  timers_after : AreTimers s (suc t) new.timers.times
  timers_after = record {
    each = λ i u is. from i u (is_in (timers_of s) i) refl (sym (ended.timers ran.types mid.store.cells ran.held i) ∙ is);
  }
    where
      from : (i u : ℕ) (b : Bool) → is_in (timers_of s) i ≡ b → (if is_in (timers_of s) i then set_at (equation s i) mid.store.cells mid.registers.items t i (finite_map.get mid.timers.times i) else finite_map.get mid.timers.times i) ≡ Some u → IsTrue (is_timer s i) × (suc t ≤ u) × (u < 2 ^ 63)
      from i u true there is =
          let timer = listed_timer s i there in
          let later = set_later (equation s i) mid.store.cells mid.registers.items i u (finite_map.get mid.timers.times i) (λ v due. let was = left_later i v due in (was.1, was.2)) (ran.positive refl i timer)
          (sym (λ k. if there k then set_at (equation s i) mid.store.cells mid.registers.items t i (finite_map.get mid.timers.times i) else finite_map.get mid.timers.times i) ∙ is) in
          (timer, later.0, later.1)
      from i u false there is = left_later i u (sym (λ k. if there k then set_at (equation s i) mid.store.cells mid.registers.items t i (finite_map.get mid.timers.times i) else finite_map.get mid.timers.times i) ∙ is)

  pub sound_after : length new.last.items ≡ length s.equations → IsSound s (suc t) new
  sound_after size = record {
    types = ran.types;
    last = record { one_each = size; each = held_after; one_type = one_type_after };
    unkept = last_unkept;
    timers = timers_after;
    few_cells =
        let few = few_live (cells_in new.last.items (keeps_of s)) new.store.cells only_listed in
        let stored = few_cells_in s new.last.items (keeps_of s) (all_from (λ i. (h : ℕ) → register_at new.last.items i ≡ register.Aggregate h → is_stored_type (equation s i) ≡ true) (keeps_of s) (λ i there. stored_type i (listed_kept s i (in-Contains (keeps_of s) i there)))) in
        omega arith;
    listed = only_listed;
  }
