-- What a part of a run makes, from what its monitor and its state are.
use Rattle.std.proofs.Common.{◌≡◌, ◌++◌, ℕ, false, List, None, Some, sym, subst, ◌∙◌}
use Rattle.flat_core.specs.System.{System}
use Rattle.register_code.specs.Code.{Code}
use Rattle.run_state.specs.declared.state.RunState.{RunState}
use Rattle.trace_monitor.specs.declared.ending.RunEnding.{RunEnding}
use Rattle.trace_monitor.specs.declared.options.Options.{Options}
use Rattle.trace_monitor.specs.Due.{IsDue}
use Rattle.trace_monitor.specs.Next.{IsNext, is_nothing}
use Rattle.trace_monitor.specs.Saved.{AreOptionsOf, IsRunAfter, IsSavedAs}
use Rattle.trace_monitor.specs.inner.Kept.{Kept}
use Rattle.trace_monitor.specs.inner.Snapshot.{code_of}
use Rattle.trace_monitor.specs.inner.State.{State}
use Rattle.resumed_run.specs.declared.part.After.TheVariants as after
use Rattle.resumed_run.specs.declared.part.Part.{Part}
use Rattle.trace_monitor.proofs.Saving.{options_are}
use Rattle.resumed_run.specs.Part.{IsPart}

-- ---- what is made of a piece
abbrev pub AddsDue : System → Options → List ℕ → List ℕ → List ℕ → Type 0
AddsDue s o fed piece text = (before : List ℕ) → IsDue s o fed false before → IsDue s o (fed ++ piece) (is_nothing piece) (before ++ text)

pub ended : (m : State) (c : Code) (fed piece text : List ℕ) (how : RunEnding) → code_of m ≡ c → AddsDue m.system m.options fed piece text
    → IsNext m.system m.options (fed ++ piece) (is_nothing piece) (Some how) → IsPart c m.options fed piece (record { text = text; after = after.Ends how })
ended m c fed piece text how code due next = record {
  text = subst (λ (d : Code). AddsDue d.system m.options fed piece text) code due;
  stands = subst (λ (d : Code). IsNext d.system m.options (fed ++ piece) (is_nothing piece) (Some how)) code next;
}

pub goes_on : (m : State) (c : Code) (fed piece text state : List ℕ) → code_of m ≡ c → AddsDue m.system m.options fed piece text
    → IsNext m.system m.options (fed ++ piece) (is_nothing piece) None → IsSavedAs c m.options (fed ++ piece) state
    → IsPart c m.options fed piece (record { text = text; after = after.GoesOn state })
goes_on m c fed piece text state code due next is = record {
  text = subst (λ (d : Code). AddsDue d.system m.options fed piece text) code due;
  stands = (subst (λ (d : Code). IsNext d.system m.options (fed ++ piece) (is_nothing piece) None) code next, is);
}

-- ---- a run that goes on from a state
pub part_after : (m : State) (c : Code) (o : Options) (st : RunState) (until : ℕ) (earlier piece : List ℕ) (part : Part) → AreOptionsOf m.options st → m.options.until ≡ until
    → ((fed : List ℕ) → IsRunAfter c m.options fed st → Kept m fed) → ((fed : List ℕ) → Kept m fed → IsPart c m.options fed piece part)
    → o.until ≡ until → IsRunAfter c o earlier st → IsPart c o earlier piece part
part_after m c o st until earlier piece part options closes kept parts wanted run =
    let same = options_are m.options o st options run.options (closes ∙ sym wanted) in
    subst (λ (x : Options). IsPart c x earlier piece part) same (parts earlier (kept earlier (subst (λ (x : Options). IsRunAfter c x earlier st) (sym same) run)))
