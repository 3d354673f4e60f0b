-- At the end of an instant without a fault: what holds between instants.
use Rattle.register_machine.proofs.Effects.{some_equation}
use Rattle.std.proofs.Common.{◌≡◌, ◌==◌, ℕ, suc, Bool, true, false, ◌||◌, List, [], ◌∷◌, ◌++◌, Option, Some, None, Ok, is_some, cond, refl, sym, ap, subst, ◌∙◌, inl, inr, ◌⊎◌, Contains, IsTrue, map}
use Rattle.std.specs.Prelude.{if◌then◌else◌}
use Rattle.std.specs.Option.{option_or}
use Rattle.std.specs.List.{list_any}
use Rattle.std.specs.Ordering.{nat_cmp, is_eq}
use Rattle.std.specs.declared.cmp.Ordering.TheVariants.{Equal}
use Rattle.std.specs.Cmp.{unsigned_tied}
use Rattle.std.proofs.Math.Bool.{true≢false}
use Rattle.std.proofs.lemmas.Bool.{cases_eq, eq-eqb, ne_eqb, eqb-true}
use Rattle.std.specs.FinMap as finite_map
use Rattle.tsl_value.specs.View.{View, Plain}
use Rattle.flat_core.specs.declared.equation.Equation.{Equation}
use Rattle.flat_core.specs.Stream.{Outcome, Event, Fault, event, has_event, is_fault, latest}
use Rattle.flat_core.specs.Case.{Streams}
use Rattle.flat_core.specs.Events.{Inputs, outcome_of}
use Rattle.flat_core.specs.System.{System, runs, equation}
use Rattle.flat_core.specs.Members.{is_in}
use Rattle.flat_core.proofs.Members.{some_from, all_at, in-Contains, Contains-in}
use Rattle.flat_core.proofs.Depth.{runs_below}
use Rattle.tsl_value.proofs.Lists.{none_in_nil}
use Rattle.alias_rules.specs.Uses.{last_of, IsStored}
use Rattle.alias_rules.specs.Fine.{IsFine}
use Rattle.alias_rules.specs.Sharing.{Shares}
use Rattle.alias_rules.specs.Sharing as sharing
use Rattle.alias_rules.proofs.Sharing.{aliased_share}
use Rattle.register_machine.specs.Run.{Plan, ending, is_cell, kept_cells}
use Rattle.flat_core.specs.Kept.{keeps_of, timers_of}
use Rattle.register_machine.proofs.Running.{Running}
use Rattle.register_machine.specs.Machine.{Instr, Keep, Timer, Held, Cell, Slot, Blank, Holds, Failed, Cells, Config, held, slot_of, with, timed, OfEquation, Steps}
use Rattle.register_machine.proofs.Cells.{with-here, with-there}
use Rattle.register_machine.proofs.Reach.{root_of, old_origin}
use Rattle.register_machine.proofs.Middle.{SlotOf, fires_at}
use Rattle.register_machine.proofs.Moves.{Between}
use Rattle.register_machine.proofs.Setting.{Setting}
use Rattle.register_machine.proofs.Uses.{right_kept, right_left}
use Rattle.register_machine.proofs.Steps.{Good}
use Rattle.register_machine.proofs.Kept.{kept_argument, kept_stored, stored_kept, last_kept}
use Rattle.register_machine.proofs.Orders.{steps_of, all_steps}

-- what a run of keeps leaves
abbrev overwritten : Bool → Option Held → Option Held → Option Held
overwritten b k l = if b then option_or k l else l

or_twice : (k l : Option Held) → option_or k (option_or k l) ≡ option_or k l
or_twice None l = refl
or_twice (Some k) l = refl

over_again : (b : Bool) (k l : Option Held) → overwritten b k (option_or k l) ≡ option_or k l
over_again true k l = or_twice k l
over_again false k l = refl

pub keeps_are : (inputs : Inputs) (t : ℕ) (s : System) (vs : List ℕ) (more : List Instr) (c d : Config) → Steps inputs t s (map Keep vs ++ more) c d
    → (mid : Config) × (mid.slots ≡ c.slots) × (mid.cells ≡ c.cells) × ((v : ℕ) → mid.lasts v ≡ overwritten (is_in vs v) (held (c.slots v)) (c.lasts v)) × Steps inputs t s more mid d
keeps_are inputs t s [] more c d st = (c, refl, refl, λ v. refl, st)
keeps_are inputs t s (w ∷ vs) more c d st =
    let first = st.1 in
    let rest = keeps_are inputs t s vs more st.0 d st.2 in
    let slots_are : (st.0).slots ≡ c.slots = ap (λ x. x.slots) first in (
      rest.0,
      rest.1 ∙ slots_are,
      rest.2 ∙ ap (λ x. x.cells) first,
      λ v. rest.3 v ∙ (λ k. overwritten (is_in vs v) (held (slots_are k v)) ((first k).lasts v)) ∙ one v,
      rest.4,
    )
  where
    one : (v : ℕ) → overwritten (is_in vs v) (held (c.slots v)) (with c.lasts w (option_or (held (c.slots w)) (c.lasts w)) v) ≡ overwritten ((w == v) || is_in vs v) (held (c.slots v)) (c.lasts v)
    one v = elim (cases_eq v w) [
      | inl is ↦
          (λ k. overwritten (is_in vs v) (held (c.slots v)) (with c.lasts w (option_or (held (c.slots w)) (c.lasts w)) (is k)))
          ∙ (λ k. overwritten (is_in vs v) (held (c.slots v)) (with-here c.lasts w (option_or (held (c.slots w)) (c.lasts w)) k))
          ∙ (λ k. overwritten (is_in vs v) (held (c.slots v)) (option_or (held (c.slots (sym is k))) (c.lasts (sym is k))))
          ∙ over_again (is_in vs v) (held (c.slots v)) (c.lasts v)
          ∙ sym (λ k. overwritten (eq-eqb w v (sym is) k || is_in vs v) (held (c.slots v)) (c.lasts v))
      | inr other ↦
          (λ k. overwritten (is_in vs v) (held (c.slots v)) (with-there c.lasts w (option_or (held (c.slots w)) (c.lasts w)) v other k))
          ∙ sym (λ k. overwritten (ne_eqb w v (λ e. other (sym e)) k || is_in vs v) (held (c.slots v)) (c.lasts v))
    ]

pub timers_are : (inputs : Inputs) (t : ℕ) (s : System) (is_ : List ℕ) (c d : Config) → Steps inputs t s (map Timer is_) c d → (d.lasts ≡ c.lasts) × (d.cells ≡ c.cells)
timers_are inputs t s [] c d st = (ap (λ x. x.lasts) st, ap (λ x. x.cells) st)
timers_are inputs t s (i ∷ more) c d st =
    let first = go (equation s i) st.1 in
    let rest = timers_are inputs t s more st.0 d st.2 in
    (rest.0 ∙ first.0, rest.1 ∙ first.1)
  where
    go : (q : Option Equation) → OfEquation q (λ e. st.0 ≡ record c { pending = timed t c i e.args }) → ((st.0).lasts ≡ c.lasts) × ((st.0).cells ≡ c.cells)
    go None st_q = absurd st_q
    go (Some e) st_q = (ap (λ x. x.lasts) st_q, ap (λ x. x.cells) st_q)

-- cells that are kept
same_key : (q x : ℕ) → nat_cmp q x ≡ Equal → q ≡ x
same_key q x is = eqb-true q x (sym (unsigned_tied q x) ∙ ap is_eq is)

pub get-kept : (m : Cells) (p : ℕ → Bool) (q : ℕ) → finite_map.get (finite_map.retain_keys m p) q ≡ cond (p q) (finite_map.get m q) None
get-kept m p q = finite_map.get-retain_keys m p q (λ x is. ap p (sym (same_key q x is)))

pub get-held : (m : Cells) (p : ℕ → Bool) (q : ℕ) → p q ≡ true → finite_map.get (finite_map.retain_keys m p) q ≡ finite_map.get m q
get-held m p q is = get-kept m p q ∙ (λ k. cond (is k) (finite_map.get m q) None)

-- the last register against the solution, one instant on
pub kept_slot : (o : Option Outcome) (slot : Slot) (lt : Option View) (l : Option Held) → SlotOf o slot → SlotOf (outcome_of (Ok lt)) (slot_of l) → SlotOf (outcome_of (Ok (option_or (event o) lt))) (slot_of (option_or (held slot) l))
kept_slot None slot lt l is before = subst (λ x. SlotOf (outcome_of (Ok lt)) (slot_of (option_or (held x) l))) (sym is) before
kept_slot (Some Fault) slot lt l is before = subst (λ x. SlotOf (outcome_of (Ok lt)) (slot_of (option_or (held x) l))) (sym is.1) before
kept_slot (Some (Event (Plain v))) slot lt l is before = ap (λ x. slot_of (option_or (held x) l)) is
kept_slot (Some (Event v)) slot lt l is before = (is.0, ap (λ x. slot_of (option_or (held x) l)) is.1)

slot_blank : (o : Option Outcome) (slot : Slot) → SlotOf o slot → held slot ≡ None → event o ≡ None
slot_blank None slot is none = refl
slot_blank (Some Fault) slot is none = refl
slot_blank (Some (Event (Plain v))) slot is none = absurd (some_none (sym (ap held is) ∙ none))
  where
    some_none : {k : Held} → Some k ≡ None → ⊥
    some_none e = absurd (cc)
slot_blank (Some (Event v)) slot is none = absurd (some_none (sym (ap held is.1) ∙ none))
  where
    some_none : {k : Held} → Some k ≡ None → ⊥
    some_none e = absurd (cc)

held_holds : (slot : Slot) (k : Held) → held slot ≡ Some k → slot ≡ Holds k
held_holds Blank k is = absurd (cc)
held_holds (Failed kind) k is = absurd (cc)
held_holds (Holds l) k is = ap Holds (some_same is)
  where
    some_same : {a b : Held} → Some a ≡ Some b → a ≡ b
    some_same e = cc

-- where a last register comes from
pub data From (slot : Slot) (l : Option Held) (k : Option Held) : Type 0 where
  fromSlot : (h : Held) → held slot ≡ Some h → k ≡ Some h → From slot l k
  fromLast : held slot ≡ None → k ≡ l → From slot l k

from_or : (slot : Slot) (l : Option Held) → From slot l (option_or (held slot) l)
from_or Blank l = fromLast refl refl
from_or (Failed kind) l = fromLast refl refl
from_or (Holds h) l = fromSlot h refl refl

or_some : (a b : Option View) → is_some a ≡ true → option_or a b ≡ a
or_some None b is = absurd (true≢false (sym is))
or_some (Some a) b is = refl

or_none : (a b : Option View) → a ≡ None → option_or a b ≡ b
or_none a b is = ap (λ x. option_or x b) is

quiet_of : (o : Option Outcome) → event o ≡ None → has_event o ≡ false
quiet_of o is = ap is_some is

module _ (s : System) (plan : Plan) (fine : IsFine s plan.in_place) (inputs : Inputs) (z : Streams) (t : ℕ) (last : ℕ → Option Held) (pend : ℕ → Option ℕ) (old : Cells) (given : Setting s inputs z t last pend) (between : Between s plan.in_place z t last old) (reached : Config) (good : Good s plan inputs z t last pend old given between [] reached) (sound : (x : ℕ) → IsTrue (runs s x) → is_fault (z x t) ≡ false) (final : Config) (kept_on : Steps inputs t s (ending s) reached final) where
  kept_first : (mid : Config) × (mid.slots ≡ reached.slots) × (mid.cells ≡ reached.cells) × ((v : ℕ) → mid.lasts v ≡ overwritten (is_in (keeps_of s) v) (held (reached.slots v)) (reached.lasts v)) × Steps inputs t s (map Timer (timers_of s)) mid final
  kept_first = keeps_are inputs t s (keeps_of s) (map Timer (timers_of s)) reached final kept_on

  timed_then : (final.lasts ≡ (kept_first.0).lasts) × (final.cells ≡ (kept_first.0).cells)
  timed_then = timers_are inputs t s (timers_of s) kept_first.0 final kept_first.4

  lasts_are : (v : ℕ) → final.lasts v ≡ overwritten (is_in (keeps_of s) v) (held (reached.slots v)) (last v)
  lasts_are v = (λ k. timed_then.0 k v) ∙ kept_first.3 v ∙ (λ k. overwritten (is_in (keeps_of s) v) (held (reached.slots v)) (good.lasts k v))

  cells_are : final.cells ≡ reached.cells
  cells_are = timed_then.1 ∙ kept_first.2

  -- the cell of a last register is that of its variable's register, or the variable has no event and it is the one before
  abbrev IsFrom : ℕ → ℕ → Type 0
  IsFrom v h = (reached.slots v ≡ Holds (Cell h)) ⊎ ((last v ≡ Some (Cell h)) × (held (reached.slots v) ≡ None))

  where_from : (v h : ℕ) → final.lasts v ≡ Some (Cell h) → IsStored s v × IsFrom v h
  where_from v h is = go (is_in (keeps_of s) v) refl (sym (lasts_are v) ∙ is)
    where
      some_same : {a b : Held} → Some a ≡ Some b → a ≡ b
      some_same e = cc

      found : is_in (keeps_of s) v ≡ true → (k : Option Held) → From (reached.slots v) (last v) k → k ≡ Some (Cell h) → IsStored s v × IsFrom v h
      found listed k (fromSlot l is_l is_k) is_cell_h =
          let holds : reached.slots v ≡ Holds (Cell h) = held_holds (reached.slots v) l is_l ∙ ap Holds (some_same (sym is_k ∙ is_cell_h)) in
          (kept_stored s given.proper v (good.mid.variable v h holds) (Contains-in (keeps_of s) v listed), inl holds)
      found listed k (fromLast none is_k) is_cell_h =
          let is_last : last v ≡ Some (Cell h) = sym is_k ∙ is_cell_h in
          (between.stored v h is_last, inr (is_last, none))

      go : (b : Bool) → is_in (keeps_of s) v ≡ b → overwritten b (held (reached.slots v)) (last v) ≡ Some (Cell h) → IsStored s v × IsFrom v h
      go true listed is_h = found listed (option_or (held (reached.slots v)) (last v)) (from_or (reached.slots v) (last v)) is_h
      go false listed is_h = absurd (true≢false (sym (in-Contains (keeps_of s) v (stored_kept s v (between.stored v h is_h))) ∙ listed))

  status_of : (v : ℕ) → IsTrue (runs s v) → SlotOf (z v t) (reached.slots v)
  status_of v run = good.mid.status v run (λ found. absurd (none_in_nil v found))

  runs_stored : (v : ℕ) → IsStored s v → IsTrue (runs s v)
  runs_stored v stored = stored.taken.variable.running

  -- the view of a cell that is held on
  view_from : (v h : ℕ) → IsStored s v → IsFrom v h → finite_map.get reached.cells h ≡ latest (z v) (suc t)
  view_from v h stored (inl holds) =
      right_kept s plan.in_place z t last old given.law (steps_here) [] (all_steps s) reached.slots reached.cells good.mid fine v h holds stored
      ∙ sym (or_some (event (z v t)) (latest (z v) t) (fires_at s plan.in_place z t last old steps_here [] reached.slots reached.cells good.mid v h holds))
    where
      steps_here : List ℕ
      steps_here = steps_of s
  view_from v h stored (inr before) =
      let run = runs_stored v stored in
      let none = slot_blank (z v t) (reached.slots v) (status_of v run) before.1 in
      right_left s plan.in_place z t last old given.law (steps_of s) [] (all_steps s) reached.slots reached.cells good.mid fine v h before.0 stored (sound v run) (quiet_of (z v t) none)
      ∙ sym (or_none (event (z v t)) (latest (z v) t) none)

  lives_from : (v h : ℕ) → IsFrom v h → finite_map.get reached.cells h ≡ None → ⊥
  lives_from v h (inl holds) none = good.mid.live v h holds none
  lives_from v h (inr before) none = between.lives v h before.0 (good.mid.grown h none)

  -- sharing: where both were overwritten, where one was, and where none was
  share_from : (u v h : ℕ) → IsStored s u → IsStored s v → IsFrom u h → IsFrom v h → Shares s plan.in_place u v
  share_from u v h su sv (inl hu) (inl hv) =
      let ru = good.mid.reached h u hu in
      let rv = good.mid.reached h v hv in
      aliased_share s plan.in_place ru.from rv.from u v su sv (root_of s plan.in_place z t last old reached.slots h u ru) (root_of s plan.in_place z t last old reached.slots h v rv) (good.mid.alias h ru.from rv.from ru.source rv.source)
  share_from u v h su sv (inl hu) (inr lv) =
      let ru = good.mid.reached h u hu in
      let found = old_origin s plan.in_place z t last old between.shares between.lives reached.slots h v ru.from lv.0 ru.source in
      sharing.last_root su (record { root = ru.from; is_root = root_of s plan.in_place z t last old reached.slots h u ru; last = found.1 }) (sharing.turned found.2)
  share_from u v h su sv (inr lu) (inl hv) =
      let rv = good.mid.reached h v hv in
      let found = old_origin s plan.in_place z t last old between.shares between.lives reached.slots h u rv.from lu.0 rv.source in
      sharing.turned (sharing.last_root sv (record { root = rv.from; is_root = root_of s plan.in_place z t last old reached.slots h v rv; last = found.1 }) (sharing.turned found.2))
  share_from u v h su sv (inr lu) (inr lv) = between.shares u v h lu.0 lv.0

  -- the cells that stay
  stays_there : (v h : ℕ) → final.lasts v ≡ Some (Cell h) → finite_map.get (kept_cells s final) h ≡ finite_map.get reached.cells h
  stays_there v h is =
      get-held final.cells (λ k. list_any (λ w. is_cell k (final.lasts w)) (keeps_of s)) h (some_from (λ w. is_cell h (final.lasts w)) (keeps_of s) v (in-Contains (keeps_of s) v (stored_kept s v (where_from v h is).0)) (ap (is_cell h) is ∙ eq-eqb h h refl))
      ∙ ap (λ m. finite_map.get m h) cells_are

  pub next_between : Between s plan.in_place z (suc t) final.lasts (kept_cells s final)
  next_between = record {
    stored = λ v h is. (where_from v h is).0;
    lives = λ v h is none. lives_from v h (where_from v h is).1 (sym (stays_there v h is) ∙ none);
    view = λ v h is. let f = where_from v h is in stays_there v h is ∙ view_from v h f.0 f.1;
    shares = λ u v h is_u is_v. let fu = where_from u h is_u in let fv = where_from v h is_v in share_from u v h fu.0 fv.0 fu.1 fv.1;
  }

  -- and each last register holds its variable's latest event
  pub next_lasts : (v i : ℕ) (e : Equation) → Running s i e → Contains (last_of e.op e.args) v → SlotOf (outcome_of (Ok (latest (z v) (suc t)))) (slot_of (final.lasts v))
  next_lasts v i e running argument =
      let listed = in-Contains (keeps_of s) v (last_kept s v i e (runs_below s given.proper v runs_arg) running argument) in
      subst (λ l. SlotOf (outcome_of (Ok (latest (z v) (suc t)))) (slot_of l)) (sym (lasts_are v ∙ ap (λ b. overwritten b (held (reached.slots v)) (last v)) listed))
      (kept_slot (z v t) (reached.slots v) (latest (z v) t) (last v) (status_of v runs_arg) (given.lasts v i e running argument))
    where
      runs_arg : IsTrue (runs s v)
      runs_arg =
          let all = given.proper.runs_all i running.runs_too in
          subst (λ d. Contains d.args v → IsTrue (runs s v)) (some_equation (sym all.1 ∙ running.is)) (all_at (λ b. IsTrue (runs s b)) all.0.args all.2 v) (kept_argument v e.op e.args argument)
