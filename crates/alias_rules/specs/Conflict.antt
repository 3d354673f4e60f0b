-- What forbids that an update changes content in place.
use Rattle.std.specs.Prelude.{◌≡◌, ℕ, List, IsTrue}
use Rattle.flat_core.specs.Members.{is_in}
use Rattle.flat_core.specs.System.{System}
use Rattle.translation_order.specs.Cycle.{IsCycleOfWalk}
use Rattle.translation_order.specs.Least.{IsLeast}
use Rattle.trigger_rules.specs.Question.{Implies}
use Rattle.alias_rules.specs.Uses.{IsStored, IsWritten, IsRead, IsPassed, IsPrinted}
use Rattle.alias_rules.specs.Roots.{ComesFromLast}
use Rattle.alias_rules.specs.Sharing.{Shares}
use Rattle.alias_rules.specs.Bypass.{Bypasses, PassesOver}
use Rattle.alias_rules.specs.Steps.{step_count, print_step, MustPrecede}

-- an update of a set is in conflict with some variable
pub record IsInConflict (set : List ℕ) (Conflict : ℕ → ℕ → Type 0) (y : ℕ) : Type 0 where
  pub inside : IsTrue (is_in set y)
  pub other : ℕ
  pub conflict : Conflict y other

-- the first conflict of a kind: that of the least update, with the least variable
pub record IsFirst (set : List ℕ) (Conflict : ℕ → ℕ → Type 0) (y x : ℕ) : Type 0 where
  pub update : IsLeast (IsInConflict set Conflict) y
  pub other : IsLeast (Conflict y) x

-- Step u takes the content of x, and so has to stand before update y, which changes it. Of the uses the write by y itself does not
-- count, nor the use as last value, which is of an earlier time, nor that of a merge that does not pass x on where y has an event.
pub data TakesBefore (s : System) (y x : ℕ) : ℕ → Type 0 where
  read : {i : ℕ} → IsRead s x i → TakesBefore s y x i
  printed : {u : ℕ} → (k : ℕ) → IsPrinted s x k → u ≡ print_step s k → TakesBefore s y x u
  passed : {i : ℕ} → IsPassed s x i → (PassesOver s y i x → ⊥) → TakesBefore s y x i
  written : {i : ℕ} → IsWritten s x i → (i ≡ y → ⊥) → TakesBefore s y x i

module _ (s : System) (set : List ℕ) where
  -- update y is kept by x: x is stored for later times
  pub record IsKept (y x : ℕ) : Type 0 where
    pub bypasses : Bypasses s set y x
    pub stored : IsStored s x

  -- update y is not overwritten in v: v may still have the old last value after y changed its content
  pub record IsNotOverwritten (y v : ℕ) : Type 0 where
    pub source : ℕ
    pub written : IsWritten s source y
    pub last : ℕ
    pub comes : ComesFromLast s set source last
    pub shares : Shares s set v last
    pub stored : IsStored s v
    pub not_implied : Implies s y v → ⊥

  -- step a has to stand before step b where the updates of the set happen in place
  pub data StandsBefore : ℕ → ℕ → Type 0 where
    needed : {a b : ℕ} → MustPrecede s a b → StandsBefore a b
    bypasses : {x y : ℕ} → IsTrue (is_in set y) → Bypasses s set y x → StandsBefore x y
    takes : {u y : ℕ} → (x : ℕ) → IsTrue (is_in set y) → Bypasses s set y x → TakesBefore s y x u → StandsBefore u y

  abbrev pub NoneKept : Type 0
  NoneKept = (y : ℕ) → IsInConflict set IsKept y → ⊥

  abbrev pub AllOverwritten : Type 0
  AllOverwritten = (y : ℕ) → IsInConflict set IsNotOverwritten y → ⊥

  -- The reasons, in their order: a kept update, one that is not overwritten, a cycle of steps.
  abbrev pub IsFirstKept : ℕ → ℕ → Type 0
  IsFirstKept = IsFirst set IsKept

  pub record IsFirstNotOverwritten (y v : ℕ) : Type 0 where
    pub none_kept : NoneKept
    pub first : IsFirst set IsNotOverwritten y v

  pub record IsReasonCycle (steps : List ℕ) : Type 0 where
    pub none_kept : NoneKept
    pub all_overwritten : AllOverwritten
    pub cycle : IsCycleOfWalk (step_count s) StandsBefore steps
