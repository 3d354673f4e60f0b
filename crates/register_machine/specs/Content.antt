-- Which registers are still read, and that runs in place leave these as they were.
use Rattle.std.specs.Prelude.{◌≡◌, ◌≢◌, ℕ, Bool, true, false, ◌&&◌, if◌then◌else◌, List, [], ◌∷◌, ◌++◌, Option, Some, None, is_some, IsTrue}
use Rattle.std.specs.Prelude.{slice_get}
use Rattle.std.specs.Option.{option_and_then, option_map_or}
use Rattle.std.specs.List.{Contains, list_all, filter}
use Rattle.tsl_value.specs.declared.scalar.Scalar.TheVariants as scalar
use Rattle.tsl_value.specs.View.{View}
use Rattle.flat_core.specs.declared.equation.Op.{Op}
use Rattle.flat_core.specs.declared.equation.Op.TheVariants as op
use Rattle.flat_core.specs.declared.equation.Equation.{Equation}
use Rattle.flat_core.specs.Events.{Inputs}
use Rattle.flat_core.specs.System.{System, equation}
use Rattle.flat_core.specs.Updates.{is_update}
use Rattle.alias_rules.specs.Uses.{first_of}
use Rattle.register_machine.specs.Machine.{Instr, Run, RunInPlace, Print, Keep, Timer, Held, Bare, Config, held, view_of, fires, is_barred}
use Rattle.register_machine.specs.Machine.{Step, Steps}

-- the register of an equation, or the last register of one
pub data Register : Type 0 where
  Own : ℕ → Register
  LastOf : ℕ → Register

abbrev pub held_in : Config → Register → Option Held
held_in c (Own i) = held (c.slots i)
held_in c (LastOf v) = c.lasts v

-- what a register holds, as a value
abbrev pub seen : Config → Register → Option View
seen c r = option_and_then (view_of c.cells) (held_in c r)

abbrev pub owned : List ℕ → List Register
owned [] = []
owned (a ∷ args) = Own a ∷ owned args

-- the arguments that a choice and a filter hand on
abbrev pub chosen : Option Held → ℕ → ℕ → List Register
chosen (Some (Bare (scalar.Bool true))) a b = Own a ∷ []
chosen (Some (Bare (scalar.Bool false))) a b = Own b ∷ []
chosen _ a b = []

abbrev pub is_true : Option Held → Bool
is_true (Some (Bare (scalar.Bool b))) = b
is_true _ = false

-- The registers whose content an operation takes as it runs: a lift that is evaluated takes that of each argument that is there, a merge
-- that of the first argument that is there, a filter that lets an event through and an update with all its arguments that of their first
-- argument, a choice that of the chosen argument, and a last that fires that of the last register. No other operation takes any.
abbrev pub taken_of : Config → Op → List ℕ → List Register
taken_of c (op.Lift body true) args = if list_all (fires c) args then owned args else []
taken_of c (op.Lift body false) args = owned (filter (fires c) args)
taken_of c op.Merge args = owned (first_of (filter (fires c) args))
taken_of c op.Filter (e ∷ d ∷ []) = if fires c e && is_true (held (c.slots d)) then Own e ∷ [] else []
taken_of c op.Pick (d ∷ a ∷ b ∷ []) = if fires c a && fires c b then chosen (held (c.slots d)) a b else []
taken_of c op.Last (v ∷ r ∷ []) = if fires c r && is_some (c.lasts v) then LastOf v ∷ [] else []
taken_of c o args = if is_update o && list_all (fires c) args then owned (first_of args) else []

-- the equation that output k prints
abbrev pub print_of : System → ℕ → ℕ
print_of s k = option_map_or (λ o. o.equation) (slice_get s.outputs k) 0

-- where an argument that is used at the same time has failed nothing is taken
abbrev pub taken_by : Config → Option Equation → List Register
taken_by c None = []
taken_by c (Some e) = if is_barred c e then [] else taken_of c e.op e.args

-- the registers whose content an instruction takes; a print and a keep take that of their register where there is any
abbrev pub taken : System → Config → Instr → List Register
taken s c (Run i) = taken_by c (equation s i)
taken s c (RunInPlace i) = taken_by c (equation s i)
taken s c (Print k) = if fires c (print_of s k) then Own (print_of s k) ∷ [] else []
taken s c (Keep v) = if fires c v then Own v ∷ [] else []
taken s c (Timer i) = []

module _ (inputs : Inputs) (t : ℕ) (s : System) where
  -- of the instructions that follow on a configuration one takes the content of a register
  pub record IsTaken (after : List Instr) (c : Config) (r : Register) : Type 0 where
    pub before : List Instr
    pub by : Instr
    pub rest : List Instr
    pub is : after ≡ before ++ by ∷ rest
    pub mid : Config
    pub leads : Steps inputs t s before c mid
    pub takes : Contains (taken s mid by) r

  -- one of them overwrites the last register of v
  pub record IsOverwritten (after : List Instr) (c : Config) (v : ℕ) : Type 0 where
    pub before : List Instr
    pub rest : List Instr
    pub is : after ≡ before ++ Keep v ∷ rest
    pub mid : Config
    pub leads : Steps inputs t s before c mid
    pub fires : IsTrue (fires mid v)

  -- A register is still read where an instruction that follows takes its content, or where it is a last register that stays for later
  -- times: the instant has no root fault, and none that follows overwrites it.
  pub data IsStillRead (faulty : Bool) (after : List Instr) (c : Config) : Register → Type 0 where
    later : {r : Register} → IsTaken after c r → IsStillRead faulty after c r
    stays : {v : ℕ} → faulty ≡ false → (IsOverwritten after c v → ⊥) → IsStillRead faulty after c (LastOf v)

  -- each run in place leaves the view of each register that is still read, other than its own, as it was
  pub record LeavesRead (faulty : Bool) (code : List Instr) (c : Config) : Type 0 where
    pub leaves : (before after : List Instr) (y : ℕ) (mid end : Config)
        → code ≡ before ++ RunInPlace y ∷ after
        → Steps inputs t s before c mid
        → Step inputs t s (RunInPlace y) mid end
        → (r : Register)
        → IsStillRead faulty after end r
        → r ≢ Own y
        → seen end r ≡ seen mid r
