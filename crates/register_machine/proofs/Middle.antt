-- Within an instant: what holds between two instructions, and how filling a register keeps it.
use Rattle.std.proofs.Common.{◌≡◌, ℕ, true, false, List, Option, Some, None, refl, sym, ap, subst, ◌∙◌, inl, inr, ◌⊎◌, Contains, IsTrue}
use Rattle.std.proofs.lemmas.Bool.{cases_eq}
use Rattle.std.specs.FinMap as finite_map
use Rattle.tsl_value.specs.View.{Plain}
use Rattle.lift_func.specs.declared.fault.FaultKind.{FaultKind}
use Rattle.flat_core.specs.Stream.{Outcome, Event, Fault, event, has_event, is_fault, latest}
use Rattle.flat_core.specs.Case.{Streams}
use Rattle.flat_core.specs.System.{System, runs}
use Rattle.flat_core.specs.Members.{is_in}
use Rattle.alias_rules.specs.Uses.{IsVariable, IsWritten}
use Rattle.alias_rules.specs.Roots.{IsOrigin, ComesFromLast}
use Rattle.alias_rules.specs.Sharing.{Shares, Alias}
use Rattle.alias_rules.specs.Bypass.{Bypasses}
use Rattle.alias_rules.specs.Conflict.{StandsBefore}
use Rattle.register_machine.specs.Machine.{Held, Bare, Cell, Slot, Blank, Holds, Failed, Cells, with}
use Rattle.register_machine.proofs.Cells.{failed_holds, with-here, with-there, blank_holds, slot_before, without, without-there, without-other, without-keeps}
use Rattle.register_machine.proofs.Reach.{Source, Reached, reached_kept, alias_kept}

-- a register has what happens at its equation; an aggregate as a cell
abbrev pub SlotOf : Option Outcome → Slot → Type 0
SlotOf None slot = slot ≡ Blank
SlotOf (Some Fault) slot = (kind : Option FaultKind) × (slot ≡ Failed kind)
SlotOf (Some (Event (Plain v))) slot = slot ≡ Holds (Bare v)
SlotOf (Some (Event _)) slot = (h : ℕ) × (slot ≡ Holds (Cell h))

pub holds_event : (o : Option Outcome) (slot : Slot) (k : Held) → SlotOf o slot → slot ≡ Holds k → has_event o ≡ true
holds_event None slot k is holds = blank_holds (sym is ∙ holds)
holds_event (Some Fault) slot k is holds = failed_holds (sym is.1 ∙ holds)
holds_event (Some (Event v)) slot k is holds = refl

pub holds_fault : (o : Option Outcome) (slot : Slot) (k : Held) → SlotOf o slot → slot ≡ Holds k → is_fault o ≡ false
holds_fault None slot k is holds = blank_holds (sym is ∙ holds)
holds_fault (Some Fault) slot k is holds = failed_holds (sym is.1 ∙ holds)
holds_fault (Some (Event v)) slot k is holds = refl

module _ (s : System) (set : List ℕ) (z : Streams) (t : ℕ) (last : ℕ → Option Held) (old : Cells) where
  -- x may hold a cell that an update has changed in place
  pub record Spoiled (rest : List ℕ) (x : ℕ) : Type 0 where
    pub by : ℕ
    pub listed : IsTrue (is_in set by)
    pub ran : Contains rest by → ⊥
    pub runs_by : IsTrue (runs s by)
    pub fires : has_event (z by t) ≡ true
    pub bypasses : Bypasses s set by x

  -- so may the last register of v
  pub record LastSpoiled (rest : List ℕ) (v : ℕ) : Type 0 where
    pub by : ℕ
    pub listed : IsTrue (is_in set by)
    pub ran : Contains rest by → ⊥
    pub runs_by : IsTrue (runs s by)
    pub fires : has_event (z by t) ≡ true
    pub source : ℕ
    pub written : IsWritten s source by
    pub kept : ℕ
    pub comes : ComesFromLast s set source kept
    pub shares : Shares s set v kept

  -- between two instructions; rest are the steps that are still to come
  pub record Mid (steps rest : List ℕ) (slots : ℕ → Slot) (cells : Cells) : Type 0 where
    pub blank : (x : ℕ) → Contains rest x → slots x ≡ Blank
    pub status : (x : ℕ) → IsTrue (runs s x) → (Contains rest x → ⊥) → SlotOf (z x t) (slots x)
    pub variable : (x h : ℕ) → slots x ≡ Holds (Cell h) → IsVariable s x
    pub live : (x h : ℕ) → slots x ≡ Holds (Cell h) → finite_map.get cells h ≡ None → ⊥
    pub grown : (h : ℕ) → finite_map.get cells h ≡ None → finite_map.get old h ≡ None
    pub reached : (h x : ℕ) → slots x ≡ Holds (Cell h) → Reached s set z t last old slots h x
    pub alias : (h q p : ℕ) → Source s set z t last old slots h q → Source s set z t last old slots h p → Alias s set q p
    pub view : (x h : ℕ) → slots x ≡ Holds (Cell h) → (finite_map.get cells h ≡ event (z x t)) ⊎ Spoiled rest x
    pub last_view : (v h : ℕ) → last v ≡ Some (Cell h) → (finite_map.get cells h ≡ latest (z v) t) ⊎ LastSpoiled rest v
    pub past : (y w : ℕ) → Contains steps y → (Contains rest y → ⊥) → Contains rest w → StandsBefore s set w y → ⊥

  -- what holds something has run, and has an event
  pub fires_at : (steps rest : List ℕ) (slots : ℕ → Slot) (cells : Cells) → Mid steps rest slots cells → (x h : ℕ) → slots x ≡ Holds (Cell h) → has_event (z x t) ≡ true
  fires_at steps rest slots cells m x h holds = holds_event (z x t) (slots x) (Cell h) (m.status x (m.variable x h holds).running (λ r. blank_holds (sym (m.blank x r) ∙ holds))) holds

  pub spoiled_on : (rest : List ℕ) (i x : ℕ) → Spoiled rest x → Spoiled (without i rest) x
  spoiled_on rest i x p = record {
    by = p.by;
    listed = p.listed;
    ran = λ r. p.ran (without-there i rest p.by r);
    runs_by = p.runs_by;
    fires = p.fires;
    bypasses = p.bypasses;
  }

  pub last_spoiled_on : (rest : List ℕ) (i v : ℕ) → LastSpoiled rest v → LastSpoiled (without i rest) v
  last_spoiled_on rest i v p = record {
    by = p.by;
    listed = p.listed;
    ran = λ r. p.ran (without-there i rest p.by r);
    runs_by = p.runs_by;
    fires = p.fires;
    source = p.source;
    written = p.written;
    kept = p.kept;
    comes = p.comes;
    shares = p.shares;
  }

  -- a step that may come next
  pub record IsNext (steps rest : List ℕ) (i : ℕ) : Type 0 where
    pub remains : Contains rest i
    pub first : (w : ℕ) → Contains rest w → StandsBefore s set w i → ⊥

  -- what filling the register of i with new, and having other cells, has to keep
  pub record Fills (rest : List ℕ) (slots : ℕ → Slot) (cells : Cells) (i : ℕ) (new : Slot) (after : Cells) : Type 0 where
    pub status : SlotOf (z i t) new
    pub variable : (h : ℕ) → new ≡ Holds (Cell h) → IsVariable s i
    pub live : (h : ℕ) → new ≡ Holds (Cell h) → finite_map.get after h ≡ None → ⊥
    pub grows : (h : ℕ) → finite_map.get after h ≡ None → finite_map.get cells h ≡ None
    pub reached : (h : ℕ) → new ≡ Holds (Cell h) → Reached s set z t last old (with slots i new) h i
    pub alias : (h p : ℕ) → new ≡ Holds (Cell h) → IsOrigin s set i → Source s set z t last old slots h p → Alias s set i p
    pub view : (h : ℕ) → new ≡ Holds (Cell h) → finite_map.get after h ≡ event (z i t)
    pub others : (x h : ℕ) → slots x ≡ Holds (Cell h) → finite_map.get cells h ≡ event (z x t) → (finite_map.get after h ≡ event (z x t)) ⊎ Spoiled (without i rest) x
    pub last_others : (v h : ℕ) → last v ≡ Some (Cell h) → finite_map.get cells h ≡ latest (z v) t → (finite_map.get after h ≡ latest (z v) t) ⊎ LastSpoiled (without i rest) v

  pub filled : (steps rest : List ℕ) (slots : ℕ → Slot) (cells : Cells) → Mid steps rest slots cells → (i : ℕ) → IsNext steps rest i → (new : Slot) (after : Cells) → Fills rest slots cells i new after → Mid steps (without i rest) (with slots i new) after
  filled steps rest slots cells m i next new after f =
      let blank_i = m.blank i next.remains in
      record {
        blank = λ x r. with-there slots i new x (without-other i rest x r) ∙ m.blank x (without-there i rest x r);
        status = λ x run gone. elim (cases_eq x i) [
          | inl is ↦ subst (λ n. SlotOf (z n t) (with slots i new n)) (sym is) (subst (SlotOf (z i t)) (sym (with-here slots i new)) f.status)
          | inr other ↦ subst (SlotOf (z x t)) (sym (with-there slots i new x other)) (m.status x run (λ r. gone (without-keeps i rest x r other)))
        ];
        variable = λ x h holds. elim (slot_before slots i new x (Cell h) holds) [
          | inl here ↦ subst (IsVariable s) (sym here.0) (f.variable h here.1)
          | inr before ↦ m.variable x h before
        ];
        live = λ x h holds none. elim (slot_before slots i new x (Cell h) holds) [
          | inl here ↦ f.live h here.1 none
          | inr before ↦ m.live x h before (f.grows h none)
        ];
        grown = λ h none. m.grown h (f.grows h none);
        reached = λ h x holds. elim (slot_before slots i new x (Cell h) holds) [
          | inl here ↦ subst (Reached s set z t last old (with slots i new) h) (sym here.0) (f.reached h here.1)
          | inr before ↦ reached_kept s set z t last old slots i new h x blank_i (m.reached h x before)
        ];
        alias = alias_kept s set z t last old slots i new m.alias f.alias;
        view = λ x h holds. elim (slot_before slots i new x (Cell h) holds) [
          | inl here ↦ inl (f.view h here.1 ∙ ap (λ n. event (z n t)) (sym here.0))
          | inr before ↦ elim (m.view x h before) [
            | inl right ↦ f.others x h before right
            | inr spoiled ↦ inr (spoiled_on rest i x spoiled)
          ]
        ];
        last_view = λ v h holds. elim (m.last_view v h holds) [
          | inl right ↦ f.last_others v h holds right
          | inr spoiled ↦ inr (last_spoiled_on rest i v spoiled)
        ];
        past = λ y w in_steps gone remains pair. elim (cases_eq y i) [
          | inl is ↦ next.first w (without-there i rest w remains) (subst (StandsBefore s set w) is pair)
          | inr other ↦ m.past y w in_steps (λ r. gone (without-keeps i rest y r other)) (without-there i rest w remains) pair
        ];
      }
