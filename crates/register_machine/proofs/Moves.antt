-- The five ways to fill a register, each of which keeps what holds within an instant.
use Rattle.std.proofs.Common.{◌≡◌, ℕ, true, List, Option, Some, None, refl, sym, ap, subst, ◌∙◌, inl, inr, IsTrue}
use Rattle.std.proofs.lemmas.Bool.{cases_eq}
use Rattle.std.specs.FinMap as finite_map
use Rattle.tsl_value.specs.View.{View}
use Rattle.flat_core.specs.declared.equation.Equation.{Equation}
use Rattle.flat_core.specs.Stream.{event, has_event, latest}
use Rattle.flat_core.specs.Case.{Streams}
use Rattle.flat_core.specs.System.{System, runs, equation}
use Rattle.flat_core.specs.Members.{is_in}
use Rattle.alias_rules.specs.Uses.{IsVariable, IsLast, IsWritten, IsStored}
use Rattle.alias_rules.specs.Roots.{Carries, IsOrigin}
use Rattle.alias_rules.specs.Roots as roots
use Rattle.alias_rules.specs.Sharing.{Shares}
use Rattle.alias_rules.specs.Bypass.{Bypasses}
use Rattle.register_machine.specs.Machine.{Held, Cell, Slot, Blank, Holds, Cells, with}
use Rattle.register_machine.proofs.Cells.{with-here, get-here, get-there, kept-slot, cell_same, without, without-other}
use Rattle.register_machine.proofs.Reach.{TriggerLaw, IsEntered, Reached, root_of, reached_kept, reached_on, reached_root, bypassing, old_origin, last_alias}
use Rattle.register_machine.proofs.Middle.{SlotOf, Spoiled, LastSpoiled, Mid, IsNext, Fills, fires_at}

some_none : {P : Type 0} {v : View} → Some v ≡ None → P
some_none e = absurd (cc)

-- between instants: the cells of the last registers are there, and those that hold one cell share
pub record Between (s : System) (set : List ℕ) (z : Streams) (t : ℕ) (last : ℕ → Option Held) (old : Cells) : Type 0 where
  pub stored : (v h : ℕ) → last v ≡ Some (Cell h) → IsStored s v
  pub lives : (v h : ℕ) → last v ≡ Some (Cell h) → finite_map.get old h ≡ None → ⊥
  pub view : (v h : ℕ) → last v ≡ Some (Cell h) → finite_map.get old h ≡ latest (z v) t
  pub shares : (u v h : ℕ) → last u ≡ Some (Cell h) → last v ≡ Some (Cell h) → Shares s set u v

module _ (s : System) (set : List ℕ) (z : Streams) (t : ℕ) (last : ℕ → Option Held) (old : Cells) (law : TriggerLaw s z t) (between : Between s set z t last old) (steps rest : List ℕ) (slots : ℕ → Slot) (cells : Cells) (m : Mid s set z t last old steps rest slots cells) (i : ℕ) (next : IsNext s set z t last old steps rest i) where
  blank_i : slots i ≡ Blank
  blank_i = m.blank i next.remains

  -- no cell
  pub fills_bare : (new : Slot) → SlotOf (z i t) new → ((h : ℕ) → new ≡ Holds (Cell h) → ⊥) → Fills s set z t last old rest slots cells i new cells
  fills_bare new status none = record {
    status = status;
    variable = λ h is. absurd (none h is);
    live = λ h is. absurd (none h is);
    grows = λ h gone. gone;
    reached = λ h is. absurd (none h is);
    alias = λ h p is. absurd (none h is);
    view = λ h is. absurd (none h is);
    others = λ x h holds right. inl right;
    last_others = λ v h holds right. inl right;
  }

  -- a cell handed on along a carrier edge
  pub fills_passed : (x h : ℕ) → slots x ≡ Holds (Cell h) → (e : Equation) → equation s i ≡ Some e → Carries s set x i → IsEntered s set z t last old x e.op e.args → IsVariable s i → (IsOrigin s set i → ⊥) → SlotOf (z i t) (Holds (Cell h)) → finite_map.get cells h ≡ event (z i t) → Fills s set z t last old rest slots cells i (Holds (Cell h)) cells
  fills_passed x h holds e is carries entered variable no_root status right = record {
    status = status;
    variable = λ k same_cell. variable;
    live = λ k same_cell. subst (λ n. finite_map.get cells n ≡ None → ⊥) (cell_same same_cell) (m.live x h holds);
    grows = λ k gone. gone;
    reached = λ k same_cell. subst (λ n. Reached s set z t last old (with slots i (Holds (Cell h))) n i) (cell_same same_cell)
        (reached_on s set z t last old (with slots i (Holds (Cell h))) h x i
        (reached_kept s set z t last old slots i (Holds (Cell h)) h x blank_i (m.reached h x holds))
        (record { at = e; is = is; carries = carries; entered = entered; from = kept-slot slots i (Holds (Cell h)) x (Cell h) blank_i holds; to = with-here slots i (Holds (Cell h)) }));
    alias = λ k p same_cell root source. absurd (no_root root);
    view = λ k same_cell. subst (λ n. finite_map.get cells n ≡ event (z i t)) (cell_same same_cell) right;
    others = λ y k held right_y. inl right_y;
    last_others = λ v k held right_v. inl right_v;
  }

  -- the cell of a last register
  pub fills_last : (v h : ℕ) → last v ≡ Some (Cell h) → IsLast s v i → IsOrigin s set i → IsVariable s i → SlotOf (z i t) (Holds (Cell h)) → finite_map.get cells h ≡ event (z i t) → Fills s set z t last old rest slots cells i (Holds (Cell h)) cells
  fills_last v h is takes root variable status right = record {
    status = status;
    variable = λ k same_cell. variable;
    live = λ k same_cell. subst (λ n. finite_map.get cells n ≡ None → ⊥) (cell_same same_cell) (λ none. between.lives v h is (m.grown h none));
    grows = λ k gone. gone;
    reached = λ k same_cell. subst (λ n. Reached s set z t last old (with slots i (Holds (Cell h))) n i) (cell_same same_cell)
        (reached_root s set z t last old (with slots i (Holds (Cell h))) h i (record { root = root; holds = with-here slots i (Holds (Cell h)); origin = inl (v, takes, is) }));
    alias = λ k p same_cell root_i source. last_alias s set z t last old between.shares between.lives slots k v i p root takes (subst (λ n. last v ≡ Some (Cell n)) (cell_same same_cell) is) source;
    view = λ k same_cell. subst (λ n. finite_map.get cells n ≡ event (z i t)) (cell_same same_cell) right;
    others = λ y k held right_y. inl right_y;
    last_others = λ w k held right_w. inl right_w;
  }

  other_cell : (h : ℕ) → finite_map.get cells h ≡ None → (x k : ℕ) → slots x ≡ Holds (Cell k) → k ≡ h → ⊥
  other_cell h free x k held is = m.live x k held (subst (λ n. finite_map.get cells n ≡ None) (sym is) free)

  written_grows : (h : ℕ) (view : View) (k : ℕ) → finite_map.get (finite_map.insert cells h view) k ≡ None → finite_map.get cells k ≡ None
  written_grows h view k none = elim (cases_eq k h) [
    | inl is ↦ some_none (sym (ap (finite_map.get (finite_map.insert cells h view)) is ∙ get-here cells h view) ∙ none)
    | inr other ↦ sym (get-there cells h view k other) ∙ none
  ]

  written_live : (h : ℕ) (view : View) (k : ℕ) → h ≡ k → finite_map.get (finite_map.insert cells h view) k ≡ None → ⊥
  written_live h view k is none = some_none (sym (ap (finite_map.get (finite_map.insert cells h view)) (sym is) ∙ get-here cells h view) ∙ none)

  written_view : (h : ℕ) (view : View) (k : ℕ) → h ≡ k → event (z i t) ≡ Some view → finite_map.get (finite_map.insert cells h view) k ≡ event (z i t)
  written_view h view k is value = ap (finite_map.get (finite_map.insert cells h view)) (sym is) ∙ get-here cells h view ∙ sym value

  -- a new cell
  pub fills_fresh : (h : ℕ) (view : View) → finite_map.get cells h ≡ None → IsOrigin s set i → IsVariable s i → SlotOf (z i t) (Holds (Cell h)) → event (z i t) ≡ Some view → Fills s set z t last old rest slots cells i (Holds (Cell h)) (finite_map.insert cells h view)
  fills_fresh h view free root variable status value = record {
    status = status;
    variable = λ k same_cell. variable;
    live = λ k same_cell. written_live h view k (cell_same same_cell);
    grows = written_grows h view;
    reached = λ k same_cell. subst (λ n. Reached s set z t last old (with slots i (Holds (Cell h))) n i) (cell_same same_cell)
        (reached_root s set z t last old (with slots i (Holds (Cell h))) h i (record { root = root; holds = with-here slots i (Holds (Cell h)); origin = inr (m.grown h free) }));
    alias = λ k p same_cell root_i source. absurd (other_cell h free p k source.holds (sym (cell_same same_cell)));
    view = λ k same_cell. written_view h view k (cell_same same_cell) value;
    others = λ y k held right_y. inl (get-there cells h view k (other_cell h free y k held) ∙ right_y);
    last_others = λ w k held right_w. inl (get-there cells h view k (λ is. between.lives w k held (m.grown k (subst (λ n. finite_map.get cells n ≡ None) (sym is) free))) ∙ right_w);
  }

  -- the cell of the source, changed in place
  pub fills_in_place : (x h : ℕ) (view : View) → slots x ≡ Holds (Cell h) → (e : Equation) → equation s i ≡ Some e → IsTrue (is_in set i) → IsWritten s x i → IsEntered s set z t last old x e.op e.args → IsVariable s i → (IsOrigin s set i → ⊥) → SlotOf (z i t) (Holds (Cell h)) → event (z i t) ≡ Some view → has_event (z i t) ≡ true
      → ((y k : ℕ) → slots y ≡ Holds (Cell k) → k ≡ h → Spoiled s set z t last old (without i rest) y)
      → ((v k : ℕ) → last v ≡ Some (Cell k) → k ≡ h → LastSpoiled s set z t last old (without i rest) v)
      → Fills s set z t last old rest slots cells i (Holds (Cell h)) (finite_map.insert cells h view)
  fills_in_place x h view holds e is listed takes entered variable no_root status value fires spoils last_spoils = record {
    status = status;
    variable = λ k same_cell. variable;
    live = λ k same_cell. written_live h view k (cell_same same_cell);
    grows = written_grows h view;
    reached = λ k same_cell. subst (λ n. Reached s set z t last old (with slots i (Holds (Cell h))) n i) (cell_same same_cell)
        (reached_on s set z t last old (with slots i (Holds (Cell h))) h x i
        (reached_kept s set z t last old slots i (Holds (Cell h)) h x blank_i (m.reached h x holds))
        (record { at = e; is = is; carries = roots.written listed takes; entered = entered; from = kept-slot slots i (Holds (Cell h)) x (Cell h) blank_i holds; to = with-here slots i (Holds (Cell h)) }));
    alias = λ k p same_cell root source. absurd (no_root root);
    view = λ k same_cell. written_view h view k (cell_same same_cell) value;
    others = λ y k held right_y. elim (cases_eq k h) [
      | inl is_h ↦ inr (spoils y k held is_h)
      | inr other ↦ inl (get-there cells h view k other ∙ right_y)
    ];
    last_others = λ v k held right_v. elim (cases_eq k h) [
      | inl is_h ↦ inr (last_spoils v k held is_h)
      | inr other ↦ inl (get-there cells h view k other ∙ right_v)
    ];
  }

  -- what holds the cell of the source of an update that may come next and has an event bypasses it
  pub held_bypasses : IsTrue (runs s i) → has_event (z i t) ≡ true → (x h : ℕ) → slots x ≡ Holds (Cell h) → IsWritten s x i → (y : ℕ) → slots y ≡ Holds (Cell h) → Bypasses s set i y
  held_bypasses run fires x h holds takes y held =
      bypassing s set z t last old law i run fires slots h x blank_i takes holds (m.alias h) (m.reached h x holds) y (m.variable y h held) (fires_at s set z t last old steps rest slots cells m y h held) (m.reached h y held)

  -- so it is spoiled by the update; and so is each last register that holds the cell
  pub held_spoiled : IsTrue (is_in set i) → IsTrue (runs s i) → has_event (z i t) ≡ true → (x h : ℕ) → slots x ≡ Holds (Cell h) → IsWritten s x i → (y : ℕ) → slots y ≡ Holds (Cell h) → Spoiled s set z t last old (without i rest) y
  held_spoiled listed run fires x h holds takes y held = record {
    by = i;
    listed = listed;
    ran = λ r. without-other i rest i r refl;
    runs_by = run;
    fires = fires;
    bypasses = held_bypasses run fires x h holds takes y held;
  }

  pub last_spoiled : IsTrue (is_in set i) → IsTrue (runs s i) → has_event (z i t) ≡ true → (x h : ℕ) → slots x ≡ Holds (Cell h) → IsWritten s x i → (v : ℕ) → last v ≡ Some (Cell h) → LastSpoiled s set z t last old (without i rest) v
  last_spoiled listed run fires x h holds takes v held =
      let r = m.reached h x holds in
      let found = old_origin s set z t last old between.shares between.lives slots h v r.from held r.source in
      record {
        by = i;
        listed = listed;
        ran = λ remains. without-other i rest i remains refl;
        runs_by = run;
        fires = fires;
        source = x;
        written = takes;
        kept = found.0;
        comes = record { root = r.from; is_root = root_of s set z t last old slots h x r; last = found.1 };
        shares = found.2;
      }
