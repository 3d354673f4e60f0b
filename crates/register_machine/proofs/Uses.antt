-- What a step that is still to come takes is as the solution has it.
use Rattle.std.proofs.Common.{◌≡◌, ℕ, true, false, List, Option, Some, sym, subst, ◌∙◌, inl, inr, Contains, IsTrue}
use Rattle.std.specs.FinMap as finite_map
use Rattle.flat_core.specs.declared.equation.Equation.{Equation}
use Rattle.translation_order.specs.Graph.{stay}
use Rattle.flat_core.specs.Stream.{event, has_event, is_fault, latest}
use Rattle.flat_core.specs.Case.{Streams}
use Rattle.flat_core.specs.System.{System, runs, equation}
use Rattle.alias_rules.specs.Uses.{IsVariable, IsRead, IsPassed, IsLast, IsWritten, IsStored}
use Rattle.alias_rules.specs.Roots.{IsOrigin}
use Rattle.alias_rules.specs.Bypass.{Bypasses}
use Rattle.alias_rules.specs.Conflict.{TakesBefore, IsNotOverwritten}
use Rattle.alias_rules.specs.Conflict as conflict
use Rattle.alias_rules.specs.Fine.{IsFine}
use Rattle.alias_rules.specs.Sharing as sharing
use Rattle.std.proofs.Math.Bool.{true≢false}
use Rattle.register_machine.proofs.Running.{Prints}
use Rattle.register_machine.specs.Machine.{Held, Cell, Slot, Holds, Cells}
use Rattle.register_machine.proofs.Reach.{TriggerLaw, IsEntered, not_passed_over}
use Rattle.register_machine.proofs.Middle.{Spoiled, LastSpoiled, Mid}

module _ (s : System) (set : List ℕ) (z : Streams) (t : ℕ) (last : ℕ → Option Held) (old : Cells) (law : TriggerLaw s z t) (steps rest : List ℕ) (all_steps : (x : ℕ) → IsTrue (runs s x) → Contains steps x) (slots : ℕ → Slot) (cells : Cells) (m : Mid s set z t last old steps rest slots cells) where
  -- a step that would have to stand before an update that ran does not remain
  pub unspoiled : (x i : ℕ) → Contains rest i → (p : Spoiled s set z t last old rest x) → TakesBefore s p.by x i → ⊥
  unspoiled x i remains p uses = m.past p.by i (all_steps p.by p.runs_by) p.ran remains (conflict.takes x p.listed p.bypasses uses)

  right_by : (x h i : ℕ) → slots x ≡ Holds (Cell h) → Contains rest i → ((p : Spoiled s set z t last old rest x) → TakesBefore s p.by x i) → finite_map.get cells h ≡ event (z x t)
  right_by x h i holds remains uses = elim (m.view x h holds) [
    | inl right ↦ right
    | inr p ↦ absurd (unspoiled x i remains p (uses p))
  ]

  pub right_read : (x h i : ℕ) → slots x ≡ Holds (Cell h) → Contains rest i → IsRead s x i → finite_map.get cells h ≡ event (z x t)
  right_read x h i holds remains takes = right_by x h i holds remains (λ p. conflict.read takes)

  pub right_written : (x h i : ℕ) → slots x ≡ Holds (Cell h) → Contains rest i → IsWritten s x i → finite_map.get cells h ≡ event (z x t)
  right_written x h i holds remains takes = right_by x h i holds remains (λ p. conflict.written takes (λ is. p.ran (subst (Contains rest) is remains)))

  pub right_passed : (x h i : ℕ) → slots x ≡ Holds (Cell h) → Contains rest i → (e : Equation) → equation s i ≡ Some e → IsPassed s x i → IsEntered s set z t last old x e.op e.args → finite_map.get cells h ≡ event (z x t)
  right_passed x h i holds remains e is takes entered = right_by x h i holds remains (λ p. conflict.passed takes (not_passed_over s set z t last old law p.by p.runs_by p.fires x i e is entered))

  pub right_printed : (x h step : ℕ) → slots x ≡ Holds (Cell h) → Contains rest step → Prints s x step → finite_map.get cells h ≡ event (z x t)
  right_printed x h step holds remains printed = right_by x h step holds remains (λ p. conflict.printed printed.number printed.printed printed.step_is)

  -- a last that remains and has an event finds its last register as the solution has it
  pub last_bypasses : (v h i : ℕ) → last v ≡ Some (Cell h) → IsTrue (runs s i) → has_event (z i t) ≡ true → IsLast s v i → IsOrigin s set i → IsVariable s i → (p : LastSpoiled s set z t last old rest v) → Bypasses s set p.by i
  last_bypasses v h i is run fires takes root variable p = record {
    variable = variable;
    together = law.meet p.by i p.runs_by run p.fires fires;
    source = p.source;
    written = p.written;
    root = p.comes.root;
    source_root = p.comes.is_root;
    origin = i;
    begins = root;
    aliases = sharing.lasts takes p.comes.last p.shares;
    around = stay;
  }

  pub right_last : (v h i : ℕ) → last v ≡ Some (Cell h) → Contains rest i → IsTrue (runs s i) → has_event (z i t) ≡ true → IsLast s v i → IsOrigin s set i → IsVariable s i → finite_map.get cells h ≡ latest (z v) t
  right_last v h i is remains run fires takes root variable = elim (m.last_view v h is) [
    | inl right ↦ right
    | inr p ↦ absurd (m.past p.by i (all_steps p.by p.runs_by) p.ran remains (conflict.bypasses p.listed (last_bypasses v h i is run fires takes root variable p)))
  ]

  -- at the end of an instant: a stored variable is not spoiled, and the last register of one that is not overwritten neither
  pub right_kept : IsFine s set → (x h : ℕ) → slots x ≡ Holds (Cell h) → IsStored s x → finite_map.get cells h ≡ event (z x t)
  right_kept fine x h holds stored = elim (m.view x h holds) [
    | inl right ↦ right
    | inr p ↦ absurd (fine.none_kept p.by (record { inside = p.listed; other = x; conflict = record { bypasses = p.bypasses; stored = stored } }))
  ]

  pub not_overwritten : (v h : ℕ) → last v ≡ Some (Cell h) → IsStored s v → is_fault (z v t) ≡ false → has_event (z v t) ≡ false → (p : LastSpoiled s set z t last old rest v) → IsNotOverwritten s set p.by v
  not_overwritten v h is stored sound quiet p = record {
    source = p.source;
    written = p.written;
    last = p.kept;
    comes = p.comes;
    shares = p.shares;
    stored = stored;
    not_implied = λ implied. true≢false (sym (law.implied p.by v p.runs_by stored.taken.variable.running implied p.fires sound) ∙ quiet);
  }

  pub right_left : IsFine s set → (v h : ℕ) → last v ≡ Some (Cell h) → IsStored s v → is_fault (z v t) ≡ false → has_event (z v t) ≡ false → finite_map.get cells h ≡ latest (z v) t
  right_left fine v h is stored sound quiet = elim (m.last_view v h is) [
    | inl right ↦ right
    | inr p ↦ absurd (fine.all_overwritten p.by (record { inside = p.listed; other = v; conflict = not_overwritten v h is stored sound quiet p }))
  ]
