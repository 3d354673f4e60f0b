-- An instant whose steps may have printed at once.
use Rattle.std.proofs.Common.{◌≡◌, ℕ, false, true, List, ◌++◌, length, Option, subst, sym, ◌∙◌}
use Rattle.std.specs.Prelude.{is_some}
use Rattle.std.specs.List.{flat_map}
use Rattle.flat_core.specs.Complete.{IsFlat}
use Rattle.flat_core.specs.Line.{Line}
use Rattle.flat_core.specs.System.{System}
use Rattle.register_machine.specs.Run.{Plan}
use Rattle.monitor_run.specs.declared.machine.Machine.{Machine}
use Rattle.monitor_run.specs.declared.run.Root.{Root}
use Rattle.monitor_run.specs.inner.Begun.{IsBegunOf}
use Rattle.monitor_run.specs.inner.Instant.{HasEnded, HasRunRegisters, IsInstant, IsInstantBegun, IsSound}
use Rattle.monitor_run.specs.inner.Machine.{CanPrint, HasRoom, front_of, printed_to, texts_with}
use Rattle.monitor_run.proofs.PrintLemmas.{ended_printed, faulted_printed, room_printed, texts_are}
use Rattle.monitor_run.proofs.WholeLemmas.{begun_part, begun_whole, faulted_instant, sound_instant}

-- the steps have run, and what is to be written goes on from `before`
pub record HasRunTo (s : System) (plan : Plan) (t : ℕ) (given : List Line) (old : Machine) (at_once : Option ℕ) (before out : List ℕ) (m : Machine) (root : Option Root) : Type 0 where
  pub ran : HasRunRegisters s plan t given old (printed_to at_once out m) root
  pub room : HasRoom s m
  pub can : CanPrint at_once out m.texts.items
  pub front : front_of at_once out ≡ before

-- system and plan as the code lends them
pub has_run_to : (s q : System) (plan lent : Plan) (t : ℕ) (given : List Line) (old : Machine) (at_once : Option ℕ) (before mid out : List ℕ) (m : Machine) (root : Option Root)
    → q ≡ s → lent.in_place ≡ plan.in_place → lent.order ≡ plan.order
    → HasRunRegisters q lent t given old (printed_to at_once out m) root
    → HasRoom q m
    → CanPrint at_once out m.texts.items
    → front_of at_once out ≡ front_of at_once mid
    → front_of at_once mid ≡ before
    → HasRunTo s plan t given old at_once before out m root
has_run_to s q plan lent t given old at_once before mid out m root system in_place order ran room can front begun = record {
  ran = subst (λ (it : System). HasRunRegisters it plan t given old (printed_to at_once out m) root) system
      (subst (λ (it : Plan). HasRunRegisters q it t given old (printed_to at_once out m) root) (λ k. record { in_place = in_place k; order = order k }) ran);
  room = subst (λ (it : System). HasRoom it m) system room;
  can = can;
  front = front ∙ begun;
}

module _ (s : System) (plan : Plan) (t : ℕ) (given : List Line) (old : Machine) (at_once : Option ℕ) (before out : List ℕ) (m : Machine) (root : Option Root) (run : HasRunTo s plan t given old at_once before out m root) where
  room : HasRoom s (printed_to at_once out m)
  room = room_printed s at_once out m run.can run.room

  -- the texts that are lent, as the instant has them
  texts : (lent : List (List ℕ)) → lent ≡ m.texts.items → texts_with at_once out lent ≡ (printed_to at_once out m).texts.items
  texts lent same = (λ k. texts_with at_once out (same k)) ∙ sym (texts_are at_once out m run.can)

  whole : (lent : List (List ℕ)) → lent ≡ m.texts.items → (after : List ℕ) → after ≡ front_of at_once out ++ flat_map (λ x. x) (texts_with at_once out lent)
      → after ≡ before ++ flat_map (λ x. x) (printed_to at_once out m).texts.items
  whole lent same after is = is ∙ (λ k. run.front k ++ flat_map (λ x. x) (texts lent same k))

  pub part_appended : (lent : List (List ℕ)) → lent ≡ m.texts.items → (after : List ℕ) → IsBegunOf (front_of at_once out) after (flat_map (λ x. x) (texts_with at_once out lent))
      → IsInstantBegun s plan t given old before after
  part_appended lent same after begun = begun_part s plan t given old (printed_to at_once out m) root run.ran room before after
      (subst (λ ts. IsBegunOf before after (flat_map (λ x. x) ts)) (texts lent same)
      (subst (λ xs. IsBegunOf xs after (flat_map (λ x. x) (texts_with at_once out lent))) run.front begun))

  pub all_appended : (lent : List (List ℕ)) → lent ≡ m.texts.items → (after : List ℕ) → after ≡ front_of at_once out ++ flat_map (λ x. x) (texts_with at_once out lent)
      → IsInstantBegun s plan t given old before after
  all_appended lent same after is = begun_whole s plan t given old (printed_to at_once out m) root run.ran room before after (whole lent same after is)

  pub instant_ended : IsFlat s → is_some root ≡ false → IsSound s t old → (new : Machine) → HasEnded s t m new → length new.last.items ≡ length s.equations
      → (lent : List (List ℕ)) → lent ≡ m.texts.items → (after : List ℕ) → after ≡ front_of at_once out ++ flat_map (λ x. x) (texts_with at_once out lent)
      → IsInstant s plan t given old new before after root
  instant_ended flat none sound new ended size lent same after is = sound_instant s flat plan t given old (printed_to at_once out m) new root before after none sound run.ran room
      (ended_printed s t at_once out m new ended) size (whole lent same after is)

  pub instant_faulted : is_some root ≡ true → (after : List ℕ) → after ≡ front_of at_once out → IsInstant s plan t given old m before after root
  instant_faulted some after taken = faulted_printed s plan t given old at_once out m before after root some
      (faulted_instant s plan t given old (printed_to at_once out m) root before after some (taken ∙ run.front) run.ran)
