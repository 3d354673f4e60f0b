-- The steps of an instant, one after another.
use Rattle.std.proofs.Common.{◌≡◌, ◌==◌, ℕ, zero, suc, ◌+◌, ◌<◌, ◌≤◌, ◌-◌, Bool, true, false, ◌&&◌, ◌||◌, List, [], ◌∷◌, ◌++◌, length, map, take, drop, get_or, Option, Some, None, refl, sym, ap, subst, ◌∙◌, inl, inr, arith}
use Rattle.std.proofs.lemmas.Bool.{and_parts, cases_eq, eqb-true, eqb-false, ne_eqb, or_cases, or_parts, false≢true, true≢false, lt-ltb, le-ltb}
use Rattle.std.proofs.Math.Bool.{or-false}
use Rattle.std.proofs.lemmas.List.Elements.{recursion_from_All}
use Rattle.std.proofs.lemmas.List.{get_or-set_same, get_or-set_other, take_more}
use Rattle.std.specs.Prelude.{◌≢◌, if◌then◌else◌, IsTrue, IsFalse, is_some, slice_get, slice_index, slice_index_or}
use Rattle.std.specs.List.{AllByRecursion, list_any}
use Rattle.std.specs.Option.{option_and_then, option_map}
use Rattle.tsl_value.specs.declared.scalar.Scalar.TheVariants as scalar
use Rattle.body_eval.specs.inner.Registers.{HoldsLive}
use Rattle.aggregate_store.specs.inner.Stored.{Stored}
use Rattle.lift_func.specs.declared.fault.FaultKind.{FaultKind}
use Rattle.flat_core.specs.declared.equation.Equation.{Equation}
use Rattle.flat_core.specs.declared.equation.Op.{Op}
use Rattle.flat_core.specs.declared.equation.Op.TheVariants as op
use Rattle.flat_core.specs.Case.{used_of}
use Rattle.flat_core.specs.Events.{Inputs}
use Rattle.flat_core.specs.Complete.{IsFlat}
use Rattle.flat_core.specs.Instant.{is_delay, is_delay_op}
use Rattle.flat_core.specs.Pending.{option_is}
use Rattle.flat_core.proofs.Uniqueness.{used_all}
use Rattle.alias_rules.specs.Fine.{IsFinePlan}
use Rattle.flat_core.specs.Updates.{is_update}
use Rattle.alias_rules.proofs.Ordered.{needed_order}
use Rattle.register_code.specs.inner.Plan.{IsPlanOrder}
use Rattle.flat_core.specs.Members.{is_in}
use Rattle.flat_core.specs.System.{System, runs, equation}
use Rattle.flat_core.specs.Text.{event_line}
use Rattle.flat_core.proofs.Depth.{runs_below}
use Rattle.register_machine.specs.Content.{print_of}
use Rattle.register_machine.specs.Machine.{Instr, Run, RunInPlace, Print, Bare, held, is_failed, view_of, Config, OfEquation, Ran, RanInPlace, effect, value_in, Step, Steps}
use Rattle.register_machine.specs.Run as run
use Rattle.register_machine.specs.Run.{Plan, step_instr, started, failed_by, root_in, root_seen}
use Rattle.monitor_run.specs.declared.machine.Machine.{Machine}
use Rattle.monitor_run.specs.declared.run.Root.{Root}
use Rattle.monitor_run.specs.inner.Here.{TakesTyped, is_blocked_here, is_given_op, is_marked}
use Rattle.monitor_run.specs.inner.Instant.{AreBare, HasPrinted, HasRunAll, HasRunOne, IsLeastRoot, IsPrinted, IsShownAt, SameBeside, Shows, StartsAs, name_of, root_beside}
use Rattle.monitor_run.specs.inner.Machine.{AreFresh, HasRoom, IsFresh}
use Rattle.monitor_run.specs.inner.Registers.{AreHeld, register_at, value_at}
use Rattle.monitor_run.specs.inner.Shown.{held_at, held_by}
use Rattle.monitor_run.proofs.CellLemmas.{seen_is}
use Rattle.monitor_run.proofs.KeptTypes.{AllHeld, all_held}
use Rattle.flat_core.proofs.Shapes.{one_equation, running_args, shape_of}
use Rattle.monitor_run.proofs.PlanLemmas.{ComesNext, PrintsNext, fine_update, next_is, prints_next}
use Rattle.monitor_run.proofs.RunLemmas.{CanRunOn, HasRunOn, RanOne, bare_before, cells_before, delay_none, given_same, mark_none, marks_same, others_same, run_on}
use Rattle.monitor_run.proofs.RootLemmas.{least-at, least-one, least-same}
use Rattle.monitor_run.proofs.TypedLemmas.{args_live, takes_typed}

-- ---- steps after one another
pub steps_push : (inputs : Inputs) (t : ℕ) (s : System) (xs : List Instr) (instr : Instr) (c mid d : Config) → Steps inputs t s xs c mid → Step inputs t s instr mid d → Steps inputs t s (xs ++ instr ∷ []) c d
steps_push inputs t s [] instr c mid d ran step = (d, subst (λ x. Step inputs t s instr x d) ran step, refl)
steps_push inputs t s (x ∷ xs) instr c mid d ran step = (ran.0, ran.1, steps_push inputs t s xs instr ran.0 mid d ran.2 step)

pub split_at : (xs : List ℕ) (k : ℕ) → k < length xs → xs ≡ take k xs ++ get_or xs k 0 ∷ drop (suc k) xs
split_at [] k lt = absurd (omega arith)
split_at (x ∷ xs) zero lt = refl
split_at (x ∷ xs) (suc k) lt = ap (λ l. x ∷ l) (split_at xs k (omega arith))

map_split : (f : ℕ → Instr) (xs ys : List ℕ) → map f (xs ++ ys) ≡ map f xs ++ map f ys
map_split f [] ys = refl
map_split f (x ∷ xs) ys = ap (λ l. f x ∷ l) (map_split f xs ys)

-- the instruction of a running equation
pub instr_run : (s : System) (plan : Plan) (n : ℕ) (b : Bool) → n < length s.equations → is_in plan.in_place n ≡ b → step_instr s plan n ≡ (if b then RunInPlace n else Run n)
instr_run s plan n b lt is = λ k. if lt-ltb n (length s.equations) lt k then (if is k then RunInPlace n else Run n) else Print (n - length s.equations)

pub instr_print : (s : System) (plan : Plan) (n : ℕ) → length s.equations ≤ n → step_instr s plan n ≡ Print (n - length s.equations)
instr_print s plan n le = λ k. if le-ltb n (length s.equations) le k then (if is_in plan.in_place n then RunInPlace n else Run n) else Print (n - length s.equations)

pub step_of_run : (inputs : Inputs) (t : ℕ) (s : System) (n : ℕ) (b : Bool) (e : Equation) (c d : Config) → equation s n ≡ Some e → RanOne b n e c (effect inputs t c n e) d → Step inputs t s (if b then RunInPlace n else Run n) c d
step_of_run inputs t s n true e c d is ran = subst (λ q. OfEquation q (λ f. RanInPlace n f c (effect inputs t c n f) d)) (sym is) ran
step_of_run inputs t s n false e c d is ran = subst (λ q. OfEquation q (λ f. Ran n f c (effect inputs t c n f) d)) (sym is) ran

-- ---- what is so once some steps have run

-- The machine has done the same steps.
pub record HasDone (s : System) (plan : Plan) (inputs : Inputs) (t : ℕ) (a : run.State) (front : List ℕ) (m : Machine) (root : Option Root) : Type 0 where
  pub config : Config
  pub ran : Steps inputs t s (map (step_instr s plan) front) (started a) config
  pub shows : Shows s (is_in front) m config
  pub pending : (i : ℕ) → config.pending i ≡ a.pending i
  pub root_is : IsLeastRoot (λ i. is_in front i && runs s i) (root_beside s config) root
  pub printed : (k : ℕ) → k < length s.outputs → IsTrue (is_in front (length s.equations + k)) → IsPrinted s plan inputs t a k (slice_index_or m.texts.items k [])

pub record IsPartly (s : System) (plan : Plan) (t : ℕ) (front : List ℕ) (old mid : Machine) (root : Option Root) : Type 0 where
  pub same : SameBeside old mid
  pub all : AllHeld s mid
  pub fresh : (i : ℕ) (e : Equation) → IsTrue (runs s i) → equation s i ≡ Some e → IsFalse (is_in front i) → IsFresh mid i e.op
  pub untouched : (i : ℕ) → IsFalse (is_in front i) → register_at mid.registers.items i ≡ register_at old.registers.items i
  pub given_stay : (i : ℕ) (e : Equation) → equation s i ≡ Some e → is_given_op e.op ≡ true → register_at mid.registers.items i ≡ register_at old.registers.items i
  pub sound : root ≡ None → (i : ℕ) → IsTrue (runs s i) → is_marked mid.faulted.items i ≡ false
  pub unprinted : (k : ℕ) → IsFalse (is_in front (length s.equations + k)) → slice_index_or mid.texts.items k [] ≡ []
  pub cells_stay : AreBare mid.registers.items → mid.store.cells ≡ old.store.cells
  pub means : (inputs : Inputs) (a : run.State) → StartsAs s inputs t a old → HasDone s plan inputs t a front mid root

-- ---- lists
pub in_push : (front : List ℕ) (n i : ℕ) → is_in (front ++ n ∷ []) i ≡ (is_in front i || (n == i))
in_push [] n i = or-false (n == i)
in_push (x ∷ front) n i = (λ k. (x == i) || in_push front n i k) ∙ turn (x == i)
  where
    turn : (b : Bool) → (b || (is_in front i || (n == i))) ≡ ((b || is_in front i) || (n == i))
    turn true = refl
    turn false = refl

pub same-two : {a b c : Machine} → SameBeside a b → SameBeside b c → SameBeside a c
same-two p q = record {
  timers = q.timers ∙ p.timers;
  last = q.last ∙ p.last;
  registers_each = q.registers_each ∙ p.registers_each;
  faulted_each = q.faulted_each ∙ p.faulted_each;
  ledger_each = q.ledger_each ∙ p.ledger_each;
  texts_each = q.texts_each ∙ p.texts_each;
}

-- what is beside has the same room
pub room_beside : (s : System) (old new : Machine) → HasRoom s old → SameBeside old new → HasRoom s new
room_beside s old new room beside = record {
  registers = beside.registers_each ∙ room.registers;
  faulted = beside.faulted_each ∙ room.faulted;
  ledger = beside.ledger_each ∙ room.ledger;
  capacity = ap (λ t. t.capacity) beside.timers ∙ room.capacity;
  last = ap length beside.last ∙ room.last;
  texts = beside.texts_each ∙ room.texts;
}

pub partly_none : (s : System) → IsFlat s → (plan : Plan) (t : ℕ) (old : Machine) → AllHeld s old → AreFresh s old → ((k : ℕ) → slice_index_or old.texts.items k [] ≡ []) → IsPartly s plan t [] old old None
partly_none s whole plan t old all fresh texts = record {
  same = record { timers = refl; last = refl; registers_each = refl; faulted_each = refl; ledger_each = refl; texts_each = refl };
  all = all;
  fresh = λ i e run is h. fresh.each i e run is;
  untouched = λ i h. refl;
  given_stay = λ i e is so. refl;
  sound = λ none i run. let found = whole.proper.runs_all i run in (fresh.each i found.0 run found.1).unmarked;
  unprinted = λ k h. texts k;
  cells_stay = λ bare. refl;
  means = λ inputs a starts. record {
    config = started a;
    ran = refl;
    shows = record { each = λ i run h. absurd (false≢true h); beside = starts.beside };
    pending = λ i. refl;
    root_is = λ i h. absurd (false≢true h);
    printed = λ k lt h. absurd (false≢true h);
  };
}

-- where no equation that runs is a fault, no argument is one
pub none_blocked : (s : System) (marks : List Bool) → ((i : ℕ) → IsTrue (runs s i) → is_marked marks i ≡ false) → (xs : List ℕ) → AllByRecursion (λ a. IsTrue (runs s a)) xs → list_any (is_marked marks) xs ≡ false
none_blocked s marks sound [] run = refl
none_blocked s marks sound (x ∷ xs) run = let here = sound x run.0 in let rest = none_blocked s marks sound xs run.1 in λ k. here k || rest k

pub no_root : (root : Option Root) → is_some root ≡ false → root ≡ None
no_root None is = refl
no_root (Some r) is = absurd (true≢false is)

-- a shown register stays shown where nothing of it has changed
pub stays_shown : (m n : Machine) (c d : Config) (i : ℕ) → register_at n.registers.items i ≡ register_at m.registers.items i → is_marked n.faulted.items i ≡ is_marked m.faulted.items i → d.slots i ≡ c.slots i → IsShownAt m c i → IsShownAt n d i
stays_shown m n c d i register mark slot shown = record {
  holds = ap held_by register ∙ shown.holds ∙ ap held (sym slot);
  fails = mark ∙ shown.fails ∙ ap is_failed (sym slot);
}

-- ---- the equation that comes next
module _ (s : System) (whole : IsFlat s) (plan : Plan) (t : ℕ) (front : List ℕ) (n : ℕ) (old mid new : Machine) (root found least : Option Root) (next : ComesNext s (is_in front) n) (p : IsPartly s plan t front old mid root) (room : HasRoom s old) (there : n < length s.equations)
    (b : Bool) (listed : is_in plan.in_place n ≡ b) (update : b ≡ true → is_update next.at.op ≡ true) (beside : SameBeside mid new) (texts : new.texts ≡ mid.texts) (ran : HasRunOne b t n next.at mid new found)
    (least_is : (among besides : ℕ → Bool) (at : ℕ → Option FaultKind) → IsLeastRoot among at root → IsLeastRoot besides at found → IsLeastRoot (λ i. among i || besides i) at least)
    (none_is : least ≡ None → (root ≡ None) × (found ≡ None)) where
  args_run : AllByRecursion (λ a. IsTrue (runs s a)) next.at.args
  args_run = running_args s whole.proper n next.at next.running next.is

  used_run : AllByRecursion (λ a. IsTrue (runs s a)) (used_of next.at.op next.at.args)
  used_run = used_all (λ a. IsTrue (runs s a)) next.at.op next.at.args args_run

  no_other : (i : ℕ) → is_in (front ++ n ∷ []) i ≡ false → (is_in front i ≡ false) × (i ≢ n)
  no_other i none =
      let parts = or_parts (is_in front i) (n == i) (sym (in_push front n i) ∙ none) in
      (parts.0, λ same. eqb-false n i parts.1 (sym same))

  done_other : (i : ℕ) → is_in front i ≡ true → i ≢ n
  done_other i done same = false≢true (sym next.new ∙ ap (is_in front) (sym same) ∙ done)

  abbrev root_map : Option FaultKind → Option Root
  root_map o = option_map (λ kind. record { equation = n; kind = kind }) o

  -- the root fault at an equation that is no delay
  root_here : (c : Config) (i : ℕ) (e : Equation) → equation s i ≡ Some e → is_delay (equation s i) ≡ false → root_seen s c i ≡ failed_by (c.slots i)
  root_here c i e is other = (λ k. option_and_then (λ f. root_in c i f.op f.args) (is k)) ∙ by_op e.op e.args (sym (ap is_delay is) ∙ other)
    where
      by_op : (o : Op) (args : List ℕ) → is_delay_op o ≡ false → root_in c i o args ≡ failed_by (c.slots i)
      by_op op.Delay args fails = absurd (true≢false fails)
      by_op o args fails = refl

  module _ (inputs : Inputs) (a : run.State) (starts : StartsAs s inputs t a old) where
    abbrev before_run : HasDone s plan inputs t a front mid root
    before_run = p.means inputs a starts

    can : CanRunOn inputs t n next.at mid before_run.config
    can = record {
      used = go (used_of next.at.op next.at.args) next.used used_run;
      beside = before_run.shows.beside;
      given = record {
        input = λ is. ap held_by (p.untouched n next.new) ∙ (starts.given n next.at next.running next.is).input is;
        delay = λ is. ap held_by (p.untouched n next.new) ∙ (starts.given n next.at next.running next.is).delay is ∙ (λ k. if option_is t (sym (before_run.pending n) k) then Some (Bare scalar.Unit) else None);
      };
    }
      where
        go : (xs : List ℕ) → AllByRecursion (λ x. IsTrue (is_in front x)) xs → AllByRecursion (λ x. IsTrue (runs s x)) xs → AllByRecursion (IsShownAt mid before_run.config) xs
        go [] done run = tt
        go (x ∷ xs) done run = (before_run.shows.each x run.0 done.0, go xs done.1 run.1)

    abbrev on : HasRunOn inputs b t n next.at before_run.config new found
    on =
        run_on inputs b t n next.at mid new found ran before_run.config can (shape_of s whole n next.at next.is) beside.last (p.fresh n next.at next.running next.is next.new)
        (let size = p.same.faulted_each in let each = room.faulted in omega arith) (let size = p.same.registers_each in let each = room.registers in omega arith) (let size = p.same.ledger_each in let each = room.ledger in omega arith)
        update (recursion_from_All (λ x. HoldsLive mid.store.cells (register_at mid.registers.items x)) next.at.args (args_live s whole p.all.types mid.store.cells mid.registers.items p.all.held n next.at next.running next.is))

    step_now : Step inputs t s (step_instr s plan n) before_run.config on.next
    step_now = subst (λ instr. Step inputs t s instr before_run.config on.next) (sym (instr_run s plan n b there listed)) (step_of_run inputs t s n b next.at before_run.config on.next next.is on.ran)

    root_same : (i : ℕ) → IsTrue (is_in front i && runs s i) → root_beside s before_run.config i ≡ root_beside s on.next i
    root_same i both =
        let parts = and_parts (is_in front i) (runs s i) both in
        let at = whole.proper.runs_all i parts.1 in
        split i at.0 at.1 (on.others i (done_other i parts.0)) (is_delay (equation s i)) refl
      where
        split : (i : ℕ) (e : Equation) → equation s i ≡ Some e → on.next.slots i ≡ before_run.config.slots i → (q : Bool) → is_delay (equation s i) ≡ q → (if is_delay (equation s i) then None else root_seen s before_run.config i) ≡ (if is_delay (equation s i) then None else root_seen s on.next i)
        split i e is slot true delay = (λ k. if delay k then None else root_seen s before_run.config i) ∙ sym (λ k. if delay k then None else root_seen s on.next i)
        split i e is slot false delay = let same = root_here before_run.config i e is delay ∙ ap failed_by (sym slot) ∙ sym (root_here on.next i e is delay) in λ k. if is_delay (equation s i) then None else same k

    root_now : root_beside s on.next n ≡ failed_by (on.next.slots n)
    root_now = split (is_delay (equation s n)) refl
      where
        given_delay : (o : Op) → is_delay_op o ≡ true → is_given_op o ≡ true
        given_delay op.Delay so = refl
        given_delay _ so = absurd (false≢true so)

        none_of : (o : Option FaultKind) → root_map o ≡ None → o ≡ None
        none_of None is = refl
        none_of (Some kind) is = absurd (cc)

        split : (q : Bool) → is_delay (equation s n) ≡ q → root_beside s on.next n ≡ failed_by (on.next.slots n)
        split true delay =
            let none = delay_none b t n next.at mid new found ran (given_delay next.at.op (sym (ap is_delay next.is) ∙ delay)) in
            (λ k. if delay k then None else root_seen s on.next n) ∙ sym (none_of (failed_by (on.next.slots n)) (sym on.root_is ∙ none))
        split false other = (λ k. if other k then None else root_seen s on.next n) ∙ root_here on.next n next.at next.is other

    done_now : HasDone s plan inputs t a (front ++ n ∷ []) new least
    done_now = record {
      config = on.next;
      ran = subst (λ instrs. Steps inputs t s instrs (started a) on.next) (sym (map_split (step_instr s plan) front (n ∷ []))) (steps_push inputs t s (map (step_instr s plan) front) (step_instr s plan n) (started a) before_run.config on.next before_run.ran step_now);
      shows = record {
        each = λ i run done. elim (cases_eq i n) [
          | inl same ↦ subst (IsShownAt new on.next) (sym same) on.shown
          | inr other ↦ stays_shown mid new before_run.config on.next i (others_same b t n next.at mid new found ran i other) (marks_same b t n next.at mid new found ran i other) (on.others i other) (before_run.shows.each i run (was_done i other done))
        ];
        beside = on.beside;
      };
      pending = λ i. on.pending i ∙ before_run.pending i;
      root_is =
          least-same (λ i. (is_in front i && runs s i) || (n == i)) (λ i. is_in (front ++ n ∷ []) i && runs s i) (root_beside s on.next) least among_same
          (least_is (λ i. is_in front i && runs s i) (λ i. n == i) (root_beside s on.next)
          (least-at (λ i. is_in front i && runs s i) (root_beside s before_run.config) (root_beside s on.next) root root_same before_run.root_is)
          (subst (IsLeastRoot (λ i. n == i) (root_beside s on.next)) (sym on.root_is) (least-one n (root_beside s on.next) (failed_by (on.next.slots n)) root_now)));
      printed = λ k lt done. subst (IsPrinted s plan inputs t a k) (ap (λ v. slice_index_or v.items k []) (sym texts)) (before_run.printed k lt (was_done (length s.equations + k) (λ same. absurd (omega arith)) done));
    }
      where
        was_done : (i : ℕ) → i ≢ n → is_in (front ++ n ∷ []) i ≡ true → is_in front i ≡ true
        was_done i other done = elim (or_cases (is_in front i) (n == i) (sym (in_push front n i) ∙ done)) [
          | inl so ↦ so
          | inr here ↦ absurd (other (sym (eqb-true n i here)))
        ]

        among_same : (i : ℕ) → ((is_in front i && runs s i) || (n == i)) ≡ (is_in (front ++ n ∷ []) i && runs s i)
        among_same i = split (n == i) refl ∙ sym (λ k. in_push front n i k && runs s i)
          where
            both : (x : Bool) → ((x && true) || true) ≡ ((x || true) && true)
            both true = refl
            both false = refl

            plain : (x y : Bool) → ((x && y) || false) ≡ ((x || false) && y)
            plain true true = refl
            plain true false = refl
            plain false y = refl

            split : (q : Bool) → (n == i) ≡ q → ((is_in front i && runs s i) || (n == i)) ≡ ((is_in front i || (n == i)) && runs s i)
            split true here =
                let run : runs s i ≡ true = ap (runs s) (sym (eqb-true n i here)) ∙ next.running in
                (λ k. (is_in front i && run k) || here k) ∙ both (is_in front i) ∙ sym (λ k. (is_in front i || here k) && run k)
            split false other = (λ k. (is_in front i && runs s i) || other k) ∙ plain (is_in front i) (runs s i) ∙ sym (λ k. (is_in front i || other k) && runs s i)

  pub partly_one : IsPartly s plan t (front ++ n ∷ []) old new least
  partly_one = record {
    same = same-two p.same beside;
    all = all_held s whole b t n next.at next.running next.is mid new beside.last (let size = p.same.registers_each in let each = room.registers in omega arith) p.all update found ran;
    fresh = λ i e run is none.
        let two = no_other i none in
        let was = p.fresh i e run is two.0 in
        record {
          unmarked = marks_same b t n next.at mid new found ran i two.1 ∙ was.unmarked;
          empty = λ other. others_same b t n next.at mid new found ran i two.1 ∙ was.empty other;
        };
    untouched = λ i none. let two = no_other i none in others_same b t n next.at mid new found ran i two.1 ∙ p.untouched i two.0;
    given_stay = λ i e is so. elim (cases_eq i n) [
      | inl same ↦
          let equal = one_equation s n next.at e next.is (sym (ap (equation s) same) ∙ is) in
          ap (register_at new.registers.items) same ∙ given_same b t n next.at mid new found ran (ap (λ (f : Equation). is_given_op f.op) (sym equal) ∙ so) ∙ ap (register_at mid.registers.items) (sym same) ∙ p.given_stay i e is so
      | inr other ↦ others_same b t n next.at mid new found ran i other ∙ p.given_stay i e is so
    ];
    sound = λ none i run.
        let two = none_is none in
        elim (cases_eq i n) [
          | inl same ↦
              ap (is_marked new.faulted.items) same
              ∙ mark_none b t n next.at mid new found ran (none_blocked s mid.faulted.items (p.sound two.0) (used_of next.at.op next.at.args) used_run) two.1
              ∙ p.sound two.0 n next.running
          | inr other ↦ marks_same b t n next.at mid new found ran i other ∙ p.sound two.0 i run
        ];
    unprinted = λ k none. ap (λ v. slice_index_or v.items k []) texts ∙ p.unprinted k (no_other (length s.equations + k) none).0;
    cells_stay = λ bare.
        let fresh = (p.fresh n next.at next.running next.is next.new).empty in
        let there_now : n < length mid.registers.items = (let size = p.same.registers_each in let each = room.registers in omega arith) in
        cells_before b t n next.at mid new found ran there_now fresh bare ∙ p.cells_stay (bare_before b t n next.at mid new found ran there_now fresh bare);
    means = done_now;
  }

-- ---- the print that comes next
module _ (s : System) (whole : IsFlat s) (plan : Plan) (t : ℕ) (front rest : List ℕ) (n k : ℕ) (order_is : plan.order ≡ front ++ n ∷ rest) (n_is : n ≡ length s.equations + k) (old mid new : Machine) (root : Option Root) (p : IsPartly s plan t front old mid root) (room : HasRoom s old) (there : k < length s.outputs)
    (done : IsTrue (is_in front (print_of s k))) (running : IsTrue (runs s (print_of s k))) (printed : HasPrinted s t k mid new) (beside : SameBeside mid new) where
  same_in : (i : ℕ) → i < length s.equations → is_in (front ++ n ∷ []) i ≡ is_in front i
  same_in i lt = in_push front n i ∙ (λ j. is_in front i || ne_eqb n i (λ same. absurd (omega arith)) j) ∙ or-false (is_in front i)

  module _ (inputs : Inputs) (a : run.State) (starts : StartsAs s inputs t a old) where
    abbrev before_print : HasDone s plan inputs t a front mid root
    before_print = p.means inputs a starts

    instr_is : step_instr s plan n ≡ Print k
    instr_is = let same : n - length s.equations ≡ k = omega arith in instr_print s plan n (omega arith) ∙ ap Print same

    value_is : value_at mid.store.cells mid.registers.items (print_of s k) ≡ value_in before_print.config (print_of s k)
    value_is =
        let found = whole.proper.runs_all (print_of s k) running in
        let shown = before_print.shows.each (print_of s k) running done in
        sym (seen_is mid.store.cells (register_at mid.registers.items (print_of s k)) (p.all.held.each (print_of s k) found.0 running found.1).live)
        ∙ (λ j. option_and_then (view_of (before_print.shows.beside.cells j)) (shown.holds j))

    text_now : IsPrinted s plan inputs t a k (slice_index_or new.texts.items k [])
    text_now = record {
      before = map (step_instr s plan) front;
      after = map (step_instr s plan) rest;
      is = ap (map (step_instr s plan)) order_is ∙ map_split (step_instr s plan) front (n ∷ rest) ∙ (λ j. map (step_instr s plan) front ++ instr_is j ∷ map (step_instr s plan) rest);
      mid = before_print.config;
      leads = before_print.ran;
      text_is =
          ap (λ ts. slice_index_or ts k []) printed.text
          ∙ get_or-set_same mid.texts.items k (event_line t (name_of (slice_get s.outputs k)) (value_at mid.store.cells mid.registers.items (print_of s k))) [] (let size = p.same.texts_each in let each = room.texts in omega arith)
          ∙ ap (event_line t (name_of (slice_get s.outputs k))) value_is;
    }

    done_print : HasDone s plan inputs t a (front ++ n ∷ []) new root
    done_print = record {
      config = before_print.config;
      ran = subst (λ instrs. Steps inputs t s instrs (started a) before_print.config) (sym (map_split (step_instr s plan) front (n ∷ []))) (steps_push inputs t s (map (step_instr s plan) front) (step_instr s plan n) (started a) before_print.config before_print.config before_print.ran (subst (λ instr. Step inputs t s instr before_print.config before_print.config) (sym instr_is) refl));
      shows = record {
        each = λ i run_i done_i. stays_shown mid new before_print.config before_print.config i (ap (λ v. register_at v.items i) printed.registers) (ap (λ v. is_marked v.items i) printed.faulted) refl (before_print.shows.each i run_i (sym (same_in i (runs_below s whole.proper i run_i)) ∙ done_i));
        beside = record {
          lasts = λ v. ap (λ l. held_at l v) beside.last ∙ before_print.shows.beside.lasts v;
          cells = ap (λ st. st.cells) printed.store ∙ before_print.shows.beside.cells;
          ledger = λ u. ap (λ st. slice_index st.ledger u) printed.store ∙ before_print.shows.beside.ledger u;
        };
      };
      pending = before_print.pending;
      root_is = least-same (λ i. is_in front i && runs s i) (λ i. is_in (front ++ n ∷ []) i && runs s i) (root_beside s before_print.config) root among_same before_print.root_is;
      printed = λ j lt done_j. elim (cases_eq j k) [
        | inl same ↦ subst (λ x. IsPrinted s plan inputs t a x (slice_index_or new.texts.items x [])) (sym same) text_now
        | inr other ↦
            subst (IsPrinted s plan inputs t a j) (sym (ap (λ ts. slice_index_or ts j []) printed.text ∙ get_or-set_other mid.texts.items k j (event_line t (name_of (slice_get s.outputs k)) (value_at mid.store.cells mid.registers.items (print_of s k))) [] other))
            (before_print.printed j lt (elim (or_cases (is_in front (length s.equations + j)) (n == length s.equations + j) (sym (in_push front n (length s.equations + j)) ∙ done_j)) [
              | inl so ↦ so
              | inr here ↦ absurd (other (let same = eqb-true n (length s.equations + j) here in omega arith))
            ]))
      ];
    }
      where
        among_same : (i : ℕ) → (is_in front i && runs s i) ≡ (is_in (front ++ n ∷ []) i && runs s i)
        among_same i = split (runs s i) refl
          where
            none : (x y : Bool) → (x && false) ≡ (y && false)
            none true true = refl
            none true false = refl
            none false true = refl
            none false false = refl

            split : (q : Bool) → runs s i ≡ q → (is_in front i && runs s i) ≡ (is_in (front ++ n ∷ []) i && runs s i)
            split true so = λ j. sym (same_in i (runs_below s whole.proper i so)) j && runs s i
            split false fails = (λ j. is_in front i && fails j) ∙ none (is_in front i) (is_in (front ++ n ∷ []) i) ∙ sym (λ j. is_in (front ++ n ∷ []) i && fails j)

  pub partly_print : IsPartly s plan t (front ++ n ∷ []) old new root
  partly_print = record {
    same = same-two p.same beside;
    all = record {
      types = p.all.types;
      held = subst (λ v. AreHeld s p.all.types new.store.cells v.items) (sym printed.registers) (subst (λ (st : Stored). AreHeld s p.all.types st.cells mid.registers.items) (sym printed.store) p.all.held);
      last = subst (λ l. AreHeld s p.all.types new.store.cells l) (sym beside.last) (subst (λ (st : Stored). AreHeld s p.all.types st.cells mid.last.items) (sym printed.store) p.all.last);
    };
    fresh = λ i e run_i is none.
        let was = p.fresh i e run_i is (sym (same_in i (runs_below s whole.proper i run_i)) ∙ none) in
        record { unmarked = ap (λ v. is_marked v.items i) printed.faulted ∙ was.unmarked; empty = λ other. ap (λ v. register_at v.items i) printed.registers ∙ was.empty other };
    given_stay = λ i e is so. ap (λ v. register_at v.items i) printed.registers ∙ p.given_stay i e is so;
    untouched = λ i none. ap (λ v. register_at v.items i) printed.registers ∙ p.untouched i (or_parts (is_in front i) (n == i) (sym (in_push front n i) ∙ none)).0;
    sound = λ none i run_i. ap (λ v. is_marked v.items i) printed.faulted ∙ p.sound none i run_i;
    unprinted = λ j none.
        let two = or_parts (is_in front (length s.equations + j)) (n == length s.equations + j) (sym (in_push front n (length s.equations + j)) ∙ none) in
        let apart : j ≢ k = λ same. eqb-false n (length s.equations + j) two.1 (omega arith) in
        ap (λ ts. slice_index_or ts j []) printed.text ∙ get_or-set_other mid.texts.items k j (event_line t (name_of (slice_get s.outputs k)) (value_at mid.store.cells mid.registers.items (print_of s k))) [] apart ∙ p.unprinted j two.0;
    cells_stay = λ bare. ap (λ (st : Stored). st.cells) printed.store ∙ p.cells_stay (subst (λ v. AreBare v.items) printed.registers bare);
    means = done_print;
  }

-- ---- the next step of the order
module _ (s : System) (whole : IsFlat s) (plan : Plan) (fine : IsFinePlan s plan.in_place plan.order) (t k : ℕ) (lt : k < length plan.order) (old mid : Machine) (root : Option Root) (p : IsPartly s plan t (take k plan.order) old mid root) (room : HasRoom s old) where
  ordered : IsPlanOrder s plan.order
  ordered = needed_order s plan.in_place plan.order fine.ordered

  -- it is an equation
  module _ (n : ℕ) (is : n ≡ get_or plan.order k 0) (there : n < length s.equations) (e : Equation) (at : equation s n ≡ Some e) where
    abbrev comes : ComesNext s (is_in (take k plan.order)) n
    comes = next_is s whole plan.order ordered k n lt is there e at

    pub equation_typed : TakesTyped mid.store.cells mid.registers.items e
    equation_typed = takes_typed s whole p.all.types mid.store.cells mid.registers.items p.all.held n e comes.running at

    pub equation_sound : root ≡ None → is_blocked_here mid.faulted.items e.op e.args ≡ false
    equation_sound none = none_blocked s mid.faulted.items (p.sound none) (used_of e.op e.args) (used_all (λ a. IsTrue (runs s a)) e.op e.args (running_args s whole.proper n e comes.running at))

    pub partly_equation : (new : Machine) (found least : Option Root)
        → SameBeside mid new
        → new.texts ≡ mid.texts
        → HasRunOne (is_in plan.in_place n) t n e mid new found
        → ((among besides : ℕ → Bool) (at : ℕ → Option FaultKind) → IsLeastRoot among at root → IsLeastRoot besides at found → IsLeastRoot (λ i. among i || besides i) at least)
        → (least ≡ None → (root ≡ None) × (found ≡ None))
        → IsPartly s plan t (take (k + 1) plan.order) old new least
    partly_equation new found least beside texts ran least_is none_is =
        subst (λ front. IsPartly s plan t front old new least) ((λ j. take k plan.order ++ is j ∷ []) ∙ sym (take_more plan.order k 0 lt))
        (partly_one s whole plan t (take k plan.order) n old mid new root found least comes p room there (is_in plan.in_place n) refl (fine_update s plan.in_place plan.order fine n e at) beside texts ran least_is none_is)

  -- it is a print
  module _ (high : length s.equations ≤ get_or plan.order k 0) where
    prints : PrintsNext s (take k plan.order) (get_or plan.order k 0)
    prints = prints_next s whole plan.order ordered k lt high

    output_is : get_or plan.order k 0 - length s.equations ≡ prints.k
    output_is = let is = prints.is in omega arith

    pub print_there : get_or plan.order k 0 - length s.equations < length s.outputs
    print_there = let is = output_is in let there = prints.there in omega arith

    pub partly_printed : (new : Machine) → SameBeside mid new → HasPrinted s t (get_or plan.order k 0 - length s.equations) mid new → IsPartly s plan t (take (k + 1) plan.order) old new root
    partly_printed new beside printed =
        subst (λ front. IsPartly s plan t front old new root) (sym (take_more plan.order k 0 lt))
        (partly_print s whole plan t (take k plan.order) (drop (suc k) plan.order) (get_or plan.order k 0) prints.k (split_at plan.order k lt) prints.is old mid new root p room prints.there prints.done prints.running
        (subst (λ j. HasPrinted s t j mid new) output_is printed) beside)

-- ---- all steps have run
module _ (s : System) (whole : IsFlat s) (plan : Plan) (t : ℕ) (old mid : Machine) (root : Option Root) (p : IsPartly s plan t plan.order old mid root) (runs_in : (i : ℕ) → IsTrue (runs s i) → IsTrue (is_in plan.order i)) (prints_in : (k : ℕ) → k < length s.outputs → IsTrue (is_in plan.order (length s.equations + k))) where
  pub run_all : HasRunAll s plan t old mid root
  run_all = record {
    same = p.same;
    types = p.all.types;
    held = p.all.held;
    last = p.all.last;
    cells_stay = p.cells_stay;
    means = λ inputs a starts.
        let d = p.means inputs a starts in
        record {
          reached = d.config;
          ran = d.ran;
          shows = record { each = λ i run so. d.shows.each i run (runs_in i run); beside = d.shows.beside };
          pending = d.pending;
          delays = λ i e run is delay.
              sym (d.shows.each i run (runs_in i run)).holds
              ∙ ap held_by (p.given_stay i e is (ap is_given_op delay))
              ∙ (starts.given i e run is).delay delay;
          root_is = least-same (λ i. is_in plan.order i && runs s i) (runs s) (root_beside s d.config) root among_same d.root_is;
          printed = λ k lt. d.printed k lt (prints_in k lt);
        };
  }
    where
      among_same : (i : ℕ) → (is_in plan.order i && runs s i) ≡ runs s i
      among_same i = split (runs s i) refl
        where
          none : (x : Bool) → (x && false) ≡ false
          none true = refl
          none false = refl

          split : (q : Bool) → runs s i ≡ q → (is_in plan.order i && runs s i) ≡ runs s i
          split true so = (λ j. runs_in i so j && so j) ∙ sym so
          split false fails = (λ j. is_in plan.order i && fails j) ∙ none (is_in plan.order i) ∙ sym fails
