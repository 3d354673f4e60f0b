-- Along the code of an instant.
use Rattle.std.proofs.Common.{◌≡◌, ℕ, ◌-◌, Bool, true, false, List, [], ◌∷◌, ◌++◌, Option, Some, None, refl, sym, ap, subst, ◌∙◌, inl, inr, ◌⊎◌, Contains, map, arith, length}
use Rattle.std.specs.Prelude.{if◌then◌else◌, nat_lt}
use Rattle.std.proofs.lemmas.Bool.{cases_Bool}
use Rattle.flat_core.specs.declared.equation.Equation.{Equation}
use Rattle.flat_core.specs.Case.{Streams}
use Rattle.flat_core.specs.Events.{Inputs}
use Rattle.flat_core.specs.System.{System, equation}
use Rattle.flat_core.specs.Members.{is_in}
use Rattle.tsl_value.proofs.Lists.{later}
use Rattle.alias_rules.specs.Conflict.{StandsBefore}
use Rattle.register_machine.specs.Run.{Plan, State, started, step_instr}
use Rattle.flat_core.specs.Kept.{keeps_of}
use Rattle.register_machine.proofs.Orders.{IsFree, Agrees, steps_of, all_steps}
use Rattle.register_machine.specs.Machine.{timed, Instr, Run, RunInPlace, Print, Keep, Timer, Held, Cell, Slot, Blank, Holds, Cells, Config, Effect, Fill, Make, with, effect, Ran, RanInPlace, OfEquation, Step, Steps}
use Rattle.register_machine.proofs.Cells.{blank_holds, kept-slot, without, without-there}
use Rattle.register_machine.proofs.Middle.{IsNext}
use Rattle.register_machine.proofs.Moves.{Between}
use Rattle.register_machine.proofs.Setting.{Setting}
use Rattle.register_machine.proofs.Steps.{Good, step_good}
use Rattle.std.proofs.lemmas.List.Elements.{Contains-append_left, Contains-append_right}

-- at the start of an instant
pub start_good : (s : System) (plan : Plan) (inputs : Inputs) (z : Streams) (t : ℕ) (a : State) (given : Setting s inputs z t a.lasts a.pending) (between : Between s plan.in_place z t a.lasts a.cells) → Good s plan inputs z t a.lasts a.pending a.cells given between (steps_of s) (started a)
start_good s plan inputs z t a given between = record {
  mid = record {
    blank = λ x r. refl;
    status = λ x run gone. absurd (gone (all_steps s x run));
    variable = λ x h holds. blank_holds holds;
    live = λ x h holds none. blank_holds holds;
    grown = λ h none. none;
    reached = λ h x holds. blank_holds holds;
    alias = λ h q p cq cp. blank_holds cq.holds;
    view = λ x h holds. blank_holds holds;
    last_view = λ v h holds. inl (between.view v h holds);
    past = λ y w in_steps gone remains pair. absurd (gone in_steps);
  };
  lasts = refl;
  pending = refl;
  kinds = λ x e running gone. absurd (gone (all_steps s x running.runs_too));
}

-- the instructions after the last print
abbrev pub IsEnding : System → Instr → Type 0
IsEnding s (Keep v) = Contains (keeps_of s) v
IsEnding s (Timer i) = Unit {0}
IsEnding s _ = ⊥

pub cons_head : {A : Type 0} {x y : A} {xs ys : List A} → x ∷ xs ≡ y ∷ ys → x ≡ y
cons_head e = cc

pub cons_tail : {A : Type 0} {x y : A} {xs ys : List A} → x ∷ xs ≡ y ∷ ys → xs ≡ ys
cons_tail e = cc

pub split_steps : (inputs : Inputs) (t : ℕ) (s : System) (xs ys : List Instr) (c d : Config) → Steps inputs t s (xs ++ ys) c d → (mid : Config) × Steps inputs t s xs c mid × Steps inputs t s ys mid d
split_steps inputs t s [] ys c d st = (c, refl, st)
split_steps inputs t s (x ∷ xs) ys c d st = let rest = split_steps inputs t s xs ys st.0 d st.2 in (rest.0, (st.0, st.1, rest.1), rest.2)

-- what the code after the prints leaves
abbrev pub SameCells : Config → Config → Type 0
SameCells c d = (d.slots ≡ c.slots) × (d.cells ≡ c.cells)

pub ending_step : (inputs : Inputs) (t : ℕ) (s : System) (instr : Instr) (c d : Config) → IsEnding s instr → Step inputs t s instr c d → SameCells c d
ending_step inputs t s (Keep v) c d is st = (ap (λ x. x.slots) st, ap (λ x. x.cells) st)
ending_step inputs t s (Timer i) c d is st = go (equation s i) st
  where
    go : (q : Option Equation) → OfEquation q (λ e. d ≡ record c { pending = timed t c i e.args }) → SameCells c d
    go None st_q = absurd st_q
    go (Some e) st_q = (ap (λ x. x.slots) st_q, ap (λ x. x.cells) st_q)
ending_step inputs t s (Run i) c d is st = absurd is
ending_step inputs t s (RunInPlace i) c d is st = absurd is
ending_step inputs t s (Print i) c d is st = absurd is

pub ending_steps : (inputs : Inputs) (t : ℕ) (s : System) (code : List Instr) (c d : Config) → ((instr : Instr) → Contains code instr → IsEnding s instr) → Steps inputs t s code c d → SameCells c d
ending_steps inputs t s [] c d all st = (ap (λ x. x.slots) st, ap (λ x. x.cells) st)
ending_steps inputs t s (instr ∷ code) c d all st =
    let first = ending_step inputs t s instr c st.0 (all instr (0, omega arith, refl)) st.1 in
    let rest = ending_steps inputs t s code st.0 d (λ x found. all x (later instr x code found)) st.2 in
    (rest.0 ∙ first.0, rest.1 ∙ first.1)

-- what a step does to the registers: nothing, or it fills its own
pub ran_slots : (inputs : Inputs) (t i : ℕ) (e : Equation) (c d : Config) (x : Effect) → Ran i e c x d → (new : Slot) × (d.slots ≡ with c.slots i new) × (d.lasts ≡ c.lasts)
ran_slots inputs t i e c d (Fill new) is = (new, ap (λ y. y.slots) is, ap (λ y. y.lasts) is)
ran_slots inputs t i e c d (Make v) is = (Holds (Cell is.0), ap (λ y. y.slots) is.2, ap (λ y. y.lasts) is.2)

pub ran_in_place_slots : (inputs : Inputs) (t i : ℕ) (e : Equation) (c d : Config) (x : Effect) → RanInPlace i e c x d → (new : Slot) × (d.slots ≡ with c.slots i new) × (d.lasts ≡ c.lasts)
ran_in_place_slots inputs t i e c d (Fill new) is = (new, ap (λ y. y.slots) is, ap (λ y. y.lasts) is)
ran_in_place_slots inputs t i e c d (Make v) is = (Holds (Cell is.0), ap (λ y. y.slots) is.2, ap (λ y. y.lasts) is.2)

pub in_place_step_slots : (inputs : Inputs) (t : ℕ) (s : System) (i : ℕ) (c d : Config) → Step inputs t s (RunInPlace i) c d → (new : Slot) × (d.slots ≡ with c.slots i new) × (d.lasts ≡ c.lasts)
in_place_step_slots inputs t s i c d st = go (equation s i) st
  where
    go : (q : Option Equation) → OfEquation q (λ e. RanInPlace i e c (effect inputs t c i e) d) → (new : Slot) × (d.slots ≡ with c.slots i new) × (d.lasts ≡ c.lasts)
    go None st_q = absurd st_q
    go (Some e) st_q = ran_in_place_slots inputs t i e c d (effect inputs t c i e) st_q

pub run_step_slots : (inputs : Inputs) (t : ℕ) (s : System) (i : ℕ) (c d : Config) → Step inputs t s (Run i) c d → (new : Slot) × (d.slots ≡ with c.slots i new) × (d.lasts ≡ c.lasts)
run_step_slots inputs t s i c d st = go (equation s i) st
  where
    go : (q : Option Equation) → OfEquation q (λ e. Ran i e c (effect inputs t c i e) d) → (new : Slot) × (d.slots ≡ with c.slots i new) × (d.lasts ≡ c.lasts)
    go None st_q = absurd st_q
    go (Some e) st_q = ran_slots inputs t i e c d (effect inputs t c i e) st_q

pub step_keeps : (inputs : Inputs) (t : ℕ) (s : System) (plan : Plan) (n : ℕ) (c d : Config) → c.slots n ≡ Blank → Step inputs t s (step_instr s plan n) c d → (x : ℕ) (k : Held) → c.slots x ≡ Holds k → d.slots x ≡ Holds k
step_keeps inputs t s plan n c d blank st x k holds = elim (cases_Bool (nat_lt n (length s.equations))) [
  | inl low ↦
      let st_low : Step inputs t s (if is_in plan.in_place n then RunInPlace n else Run n) c d = subst (λ b. Step inputs t s (if b then (if is_in plan.in_place n then RunInPlace n else Run n) else Print (n - length s.equations)) c d) low st in
      go (is_in plan.in_place n) st_low
  | inr high ↦
      let is : d ≡ c = subst (λ b. Step inputs t s (if b then (if is_in plan.in_place n then RunInPlace n else Run n) else Print (n - length s.equations)) c d) high st in
      ap (λ q. q.slots x) is ∙ holds
]
  where
    go : (b : Bool) → Step inputs t s (if b then RunInPlace n else Run n) c d → d.slots x ≡ Holds k
    go true st_b = let f = in_place_step_slots inputs t s n c d st_b in ap (λ q. q x) f.1 ∙ kept-slot c.slots n f.0 x k blank holds
    go false st_b = let f = run_step_slots inputs t s n c d st_b in ap (λ q. q x) f.1 ∙ kept-slot c.slots n f.0 x k blank holds

module _ (s : System) (plan : Plan) (inputs : Inputs) (z : Streams) (t : ℕ) (last : ℕ → Option Held) (pend : ℕ → Option ℕ) (old : Cells) (given : Setting s inputs z t last pend) (between : Between s plan.in_place z t last old) (tail : List Instr) (ends : (instr : Instr) → Contains tail instr → IsEnding s instr) where
  abbrev pub GoodHere : List ℕ → Config → Type 0
  GoodHere rest c = Good s plan inputs z t last pend old given between rest c

  -- at a place of the code: some steps and then the ending, or within the ending
  pub record InBody (upper : List ℕ) (code : List Instr) (c : Config) : Type 0 where
    pub order : List ℕ
    pub rest : List ℕ
    pub agrees : Agrees (StandsBefore s plan.in_place) rest order
    pub steps : (x : ℕ) → Contains rest x → Contains (steps_of s) x
    pub fewer : (x : ℕ) → Contains rest x → Contains upper x
    pub good : GoodHere rest c
    pub is : code ≡ map (step_instr s plan) order ++ tail

  pub record InEnding (code : List Instr) (c : Config) : Type 0 where
    pub at : Config
    pub good : GoodHere [] at
    pub same : SameCells at c
    pub part : (instr : Instr) → Contains code instr → Contains tail instr

  -- from a place in the body: where some instructions lead, what was held is held, and fewer steps remain
  pub record Leads (rest : List ℕ) (c : Config) (code : List Instr) (mid : Config) : Type 0 where
    pub place : InBody rest code mid ⊎ InEnding code mid
    pub holds : (x : ℕ) (k : Held) → c.slots x ≡ Holds k → mid.slots x ≡ Holds k

  pub next_of : (rest : List ℕ) (n : ℕ) → IsFree (StandsBefore s plan.in_place) rest n → IsNext s plan.in_place z t last old (steps_of s) rest n
  next_of rest n free = record { remains = free.remains; first = free.first }

  pub walk : (before code : List Instr) (order rest : List ℕ) (c mid : Config) → Agrees (StandsBefore s plan.in_place) rest order → ((x : ℕ) → Contains rest x → Contains (steps_of s) x) → GoodHere rest c → before ++ code ≡ map (step_instr s plan) order ++ tail → Steps inputs t s before c mid → Leads rest c code mid
  walk [] code order rest c mid agrees steps good is st = record {
    place = inl (record { order = order; rest = rest; agrees = agrees; steps = steps; fewer = λ x found. found; good = subst (GoodHere rest) (sym st) good; is = is });
    holds = λ x k held. ap (λ q. q.slots x) st ∙ held;
  }
  walk (instr ∷ before) code [] rest c mid agrees steps good is st =
      let part : (x : Instr) → Contains (instr ∷ before ++ code) x → Contains tail x = λ x found. subst (λ l. Contains l x) is found in
      let same = ending_steps inputs t s (instr ∷ before) c mid (λ x found. ends x (part x (Contains-append_left (instr ∷ before) code x found))) st in
      record {
        place = inr (record { at = c; good = subst (λ r. GoodHere r c) agrees good; same = same; part = λ x found. part x (Contains-append_right (instr ∷ before) code x found) });
        holds = λ x k held. ap (λ q. q x) same.0 ∙ held;
      }
  walk (instr ∷ before) code (n ∷ order) rest c mid agrees steps good is st =
      let first : Step inputs t s (step_instr s plan n) c st.0 = subst (λ x. Step inputs t s x c st.0) (cons_head is) st.1 in
      let next = next_of rest n agrees.0 in
      let onward = step_good s plan inputs z t last pend old given between rest c good n next st.0 (steps n agrees.0.remains) first in
      let after = walk before code order (without n rest) st.0 mid agrees.1 (λ x found. steps x (without-there n rest x found)) onward (cons_tail is) st.2 in
      record {
        place = elim after.place [
          | inl b ↦ inl (record { order = b.order; rest = b.rest; agrees = b.agrees; steps = b.steps; fewer = λ x found. without-there n rest x (b.fewer x found); good = b.good; is = b.is })
          | inr e ↦ inr e
        ];
        holds = λ x k held. after.holds x k (step_keeps inputs t s plan n c st.0 (good.mid.blank n agrees.0.remains) first x k held);
      }
