-- Within an instant: which registers may hold one cell.
use Rattle.std.proofs.Common.{◌≡◌, ℕ, true, false, List, [], ◌∷◌, Option, Some, None, sym, ap, subst, ◌∙◌, inl, inr, ◌⊎◌, IsTrue}
use Rattle.std.proofs.Math.Bool.{true≢false}
use Rattle.std.specs.FinMap as finite_map
use Rattle.flat_core.specs.declared.equation.Op.{Op}
use Rattle.flat_core.specs.declared.equation.Equation.{Equation}
use Rattle.translation_order.specs.Graph.{Walk, stay, onward}
use Rattle.flat_core.specs.Stream.{has_event, is_fault}
use Rattle.flat_core.specs.Case.{Streams}
use Rattle.flat_core.specs.System.{System, runs, equation}
use Rattle.flat_core.specs.declared.equation.Op.TheVariants as op
use Rattle.translation_order.proofs.PathLemmas.{walk_on}
use Rattle.trigger_rules.specs.Question.{Implies, Together}
use Rattle.alias_rules.specs.Uses.{IsVariable, IsLast, IsWritten}
use Rattle.alias_rules.specs.Roots.{Carries, IsOrigin, IsRoot}
use Rattle.alias_rules.specs.Sharing.{Shares, Alias}
use Rattle.alias_rules.specs.Sharing as sharing
use Rattle.alias_rules.proofs.Sharing.{alias_turned}
use Rattle.alias_rules.specs.Bypass.{PassesOver, GoesAround, Bypasses}
use Rattle.register_machine.specs.Machine.{Held, Cell, Slot, Blank, Holds, Cells, with}
use Rattle.register_machine.proofs.Cells.{blank_holds, kept-slot, slot_before}

-- what trigger formulas tell at a time of a solution
pub record TriggerLaw (s : System) (z : Streams) (t : ℕ) : Type 0 where
  pub implied : (i j : ℕ) → IsTrue (runs s i) → IsTrue (runs s j) → Implies s i j → has_event (z i t) ≡ true → is_fault (z j t) ≡ false → has_event (z j t) ≡ true
  pub meet : (i j : ℕ) → IsTrue (runs s i) → IsTrue (runs s j) → has_event (z i t) ≡ true → has_event (z j t) ≡ true → Together s i j

-- last are the last registers and old the cells at the start of the instant
module _ (s : System) (set : List ℕ) (z : Streams) (t : ℕ) (last : ℕ → Option Held) (old : Cells) where
  -- a merge passes its second argument on only where its first has no event and no fault
  abbrev pub IsEntered : ℕ → Op → List ℕ → Type 0
  IsEntered x op.Merge (l ∷ r ∷ []) = (x ≡ l) ⊎ (IsTrue (runs s l) × (is_fault (z l t) ≡ false) × (has_event (z l t) ≡ false))
  IsEntered x o args = Unit {0}

  module _ (slots : ℕ → Slot) where
    -- the cell h was taken along an edge
    pub record Took (h x i : ℕ) : Type 0 where
      pub at : Equation
      pub is : equation s i ≡ Some at
      pub carries : Carries s set x i
      pub entered : IsEntered x at.op at.args
      pub from : slots x ≡ Holds (Cell h)
      pub to : slots i ≡ Holds (Cell h)

    -- a root that holds the cell h: a last of a variable whose last register held it, or one that made it
    pub record Source (h q : ℕ) : Type 0 where
      pub root : IsOrigin s set q
      pub holds : slots q ≡ Holds (Cell h)
      pub origin : ((u : ℕ) × IsLast s u q × (last u ≡ Some (Cell h))) ⊎ (finite_map.get old h ≡ None)

    -- a register that is reached from such a root
    pub record Reached (h x : ℕ) : Type 0 where
      pub from : ℕ
      pub source : Source h from
      pub leads : Walk (Took h) from x

  carried : (slots : ℕ → Slot) (h : ℕ) {q x : ℕ} → Walk (Took slots h) q x → Walk (Carries s set) q x
  carried slots h stay = stay
  carried slots h (onward e w) = onward e.carries (carried slots h w)

  pub root_of : (slots : ℕ → Slot) (h x : ℕ) → (r : Reached slots h x) → IsRoot s set r.from x
  root_of slots h x r = record { origin = r.source.root; leads = carried slots h r.leads }

  -- the edges stand when another register is filled
  took_kept : (slots : ℕ → Slot) (i : ℕ) (new : Slot) (h : ℕ) → slots i ≡ Blank → {q x : ℕ} → Took slots h q x → Took (with slots i new) h q x
  took_kept slots i new h blank {q} {x} e = record {
    at = e.at;
    is = e.is;
    carries = e.carries;
    entered = e.entered;
    from = kept-slot slots i new q (Cell h) blank e.from;
    to = kept-slot slots i new x (Cell h) blank e.to;
  }

  walk_kept : (slots : ℕ → Slot) (i : ℕ) (new : Slot) (h : ℕ) → slots i ≡ Blank → {q x : ℕ} → Walk (Took slots h) q x → Walk (Took (with slots i new) h) q x
  walk_kept slots i new h blank stay = stay
  walk_kept slots i new h blank (onward e w) = onward (took_kept slots i new h blank e) (walk_kept slots i new h blank w)

  pub source_kept : (slots : ℕ → Slot) (i : ℕ) (new : Slot) (h q : ℕ) → slots i ≡ Blank → Source slots h q → Source (with slots i new) h q
  source_kept slots i new h q blank c = record { root = c.root; holds = kept-slot slots i new q (Cell h) blank c.holds; origin = c.origin }

  pub reached_kept : (slots : ℕ → Slot) (i : ℕ) (new : Slot) (h x : ℕ) → slots i ≡ Blank → Reached slots h x → Reached (with slots i new) h x
  reached_kept slots i new h x blank r = record { from = r.from; source = source_kept slots i new h r.from blank r.source; leads = walk_kept slots i new h blank r.leads }

  -- one more edge
  pub reached_on : (slots : ℕ → Slot) (h x i : ℕ) → Reached slots h x → Took slots h x i → Reached slots h i
  reached_on slots h x i r e = record { from = r.from; source = r.source; leads = walk_on r.leads e }

  pub reached_root : (slots : ℕ → Slot) (h q : ℕ) → Source slots h q → Reached slots h q
  reached_root slots h q c = record { from = q; source = c; leads = stay }

  -- a source in the registers with one more filled
  pub source_before : (slots : ℕ → Slot) (i : ℕ) (new : Slot) (h q : ℕ) → Source (with slots i new) h q → ((q ≡ i) × (new ≡ Holds (Cell h))) ⊎ Source slots h q
  source_before slots i new h q c = elim (slot_before slots i new q (Cell h) c.holds) [
    | inl here ↦ inl here
    | inr before ↦ inr (record { root = c.root; holds = before; origin = c.origin })
  ]

  -- Around an update that has an event and has not run: all the edges along which a cell was taken.
  module _ (law : TriggerLaw s z t) (y : ℕ) (runs_y : IsTrue (runs s y)) (fires : has_event (z y t) ≡ true) where
    pub enter : (x i : ℕ) (o : Op) (args : List ℕ) → IsEntered x o args → (other : ℕ) → o ≡ op.Merge → args ≡ other ∷ x ∷ [] → (other ≡ x → ⊥) → Implies s y other → ⊥
    enter x i o args entered other merges args_are differ implied = elim (subst (λ l. IsEntered x op.Merge l) args_are (subst (λ p. IsEntered x p args) merges entered)) [
      | inl is ↦ differ (sym is)
      | inr none ↦ true≢false (sym (law.implied y other runs_y none.0 implied fires none.1) ∙ none.2)
    ]

    pub not_passed_over : (x i : ℕ) (e : Equation) → equation s i ≡ Some e → IsEntered x e.op e.args → PassesOver s y i x → ⊥
    not_passed_over x i e is entered over =
        let same_at : e ≡ over.at = let other_is = over.is in cc in
        enter x i e.op e.args entered over.other (ap (λ d. d.op) same_at ∙ over.merges) (ap (λ d. d.args) same_at ∙ over.args_are) over.differ over.implied

    pub around : (slots : ℕ → Slot) (h : ℕ) → slots y ≡ Blank → {q x : ℕ} → Walk (Took slots h) q x → Walk (GoesAround s set y) q x
    around slots h blank stay = stay
    around slots h blank (onward {a = q} {b = b} e w) =
        onward (record {
          carries = e.carries;
          avoids = λ is. blank_holds (sym blank ∙ ap slots (sym is) ∙ e.to);
          enters = not_passed_over q b e.at e.is e.entered;
        }) (around slots h blank w)

    -- What holds the cell of the source of y before y runs bypasses y.
    pub bypassing : (slots : ℕ → Slot) (h m : ℕ) → slots y ≡ Blank → IsWritten s m y → slots m ≡ Holds (Cell h)
        → ((q : ℕ) (p : ℕ) → Source slots h q → Source slots h p → Alias s set q p)
        → Reached slots h m → (x : ℕ) → IsVariable s x → has_event (z x t) ≡ true → Reached slots h x → Bypasses s set y x
    bypassing slots h m blank written holds alias rm x variable fires_x rx = record {
      variable = variable;
      together = law.meet y x runs_y variable.running fires fires_x;
      source = m;
      written = written;
      root = rm.from;
      source_root = root_of slots h m rm;
      origin = rx.from;
      begins = rx.source.root;
      aliases = alias rx.from rm.from rx.source rm.source;
      around = around slots h blank rx.leads;
    }

  -- Roots that hold one cell alias; a new root.
  module _ (shares : (u v h : ℕ) → last u ≡ Some (Cell h) → last v ≡ Some (Cell h) → Shares s set u v) (lives : (u h : ℕ) → last u ≡ Some (Cell h) → finite_map.get old h ≡ None → ⊥) where
    -- a root that holds the cell of a last register is itself a last of such a variable
    pub old_origin : (slots : ℕ → Slot) (h v q : ℕ) → last v ≡ Some (Cell h) → Source slots h q → (u : ℕ) × IsLast s u q × Shares s set v u
    old_origin slots h v q is c = elim c.origin [
      | inl from ↦ (from.0, from.1, shares v from.0 h is from.2)
      | inr none ↦ absurd (lives v h is none)
    ]

    pub last_alias : (slots : ℕ → Slot) (h v q p : ℕ) → IsOrigin s set q → IsLast s v q → last v ≡ Some (Cell h) → Source slots h p → Alias s set q p
    last_alias slots h v q p root takes is c =
        let found = old_origin slots h v p is c in
        sharing.lasts takes found.1 found.2

  alias_refl : (p q : ℕ) → p ≡ q → Alias s set p q
  alias_refl p q is = subst (λ n. Alias s set n q) (sym is) sharing.same

  -- the sources of each cell alias, also with one more register filled
  pub alias_kept : (slots : ℕ → Slot) (i : ℕ) (new : Slot)
      → ((h q p : ℕ) → Source slots h q → Source slots h p → Alias s set q p)
      → ((h p : ℕ) → new ≡ Holds (Cell h) → IsOrigin s set i → Source slots h p → Alias s set i p)
      → (h q p : ℕ) → Source (with slots i new) h q → Source (with slots i new) h p → Alias s set q p
  alias_kept slots i new before here h q p cq cp = elim (source_before slots i new h q cq) [
    | inl first ↦ elim (source_before slots i new h p cp) [
      | inl second ↦ alias_refl q p (first.0 ∙ sym second.0)
      | inr second ↦ subst (λ n. Alias s set n p) (sym first.0) (here h p first.1 (subst (IsOrigin s set) first.0 cq.root) second)
    ]
    | inr first ↦ elim (source_before slots i new h p cp) [
      | inl second ↦ alias_turned s set p q (subst (λ n. Alias s set n q) (sym second.0) (here h q second.1 (subst (IsOrigin s set) second.0 cp.root) first))
      | inr second ↦ before h q p first second
    ]
  ]
