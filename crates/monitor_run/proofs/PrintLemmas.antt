-- What is printed at once, in the place of a text.
use Rattle.std.proofs.Common.{◌≡◌, ℕ, zero, suc, ◌<◌, ◌≤◌, Bool, true, List, [], ◌∷◌, ◌++◌, length, take, drop, Option, Some, None, refl, sym, ap, ◌∙◌, arith}
use Rattle.std.proofs.lemmas.List.{with_items_is}
use Rattle.std.proofs.lemmas.Bool.{false≢true}
use Rattle.std.specs.Prelude.{is_some, slice_get, slice_index_or, slice_set}
use Rattle.std.specs.Vec.{with_items}
use Rattle.flat_core.specs.declared.equation.Equation.{Equation}
use Rattle.flat_core.specs.Complete.{IsFlat}
use Rattle.flat_core.specs.Line.{Line}
use Rattle.flat_core.specs.System.{System}
use Rattle.register_machine.specs.Run.{Plan}
use Rattle.flat_core.specs.Text.{event_line}
use Rattle.register_machine.specs.Content.{print_of}
use Rattle.monitor_run.specs.declared.machine.Machine.{Machine}
use Rattle.monitor_run.specs.declared.run.Root.{Root}
use Rattle.monitor_run.specs.inner.Instant.{HasEnded, HasPrinted, IsInstant, HasRunOne, SameBeside, was_given, was_barred, was_filled, has_failed, name_of}
use Rattle.monitor_run.specs.inner.Machine.{AreFresh, CanPrint, HasRoom, front_of, printed_to, texts_with}
use Rattle.monitor_run.specs.inner.Registers.{value_at}
use Rattle.monitor_run.proofs.KeptTypes.{AllHeld}
use Rattle.monitor_run.proofs.LoopLemmas.{IsPartly, partly_none}

pub can_each : (at_once : Option ℕ) (out : List ℕ) (texts : List (List ℕ)) → CanPrint at_once out texts → length (texts_with at_once out texts) ≡ length texts
can_each None out texts can = refl
can_each (Some start) out texts can = sym can.0

-- as many texts can be printed to
pub can_still : (at_once : Option ℕ) (out : List ℕ) (old new : List (List ℕ)) → length new ≡ length old → CanPrint at_once out old → CanPrint at_once out new
can_still None out old new same can = tt
can_still (Some start) out old new same can = (same ∙ can.0, can.1)

pub texts_are : (at_once : Option ℕ) (out : List ℕ) (m : Machine) → CanPrint at_once out m.texts.items → (printed_to at_once out m).texts.items ≡ texts_with at_once out m.texts.items
texts_are at_once out m can = with_items_is m.texts (texts_with at_once out m.texts.items) (can_each at_once out m.texts.items can ∙ sym m.texts.ok.0)

pub room_printed : (s : System) (at_once : Option ℕ) (out : List ℕ) (m : Machine) → CanPrint at_once out m.texts.items → HasRoom s m → HasRoom s (printed_to at_once out m)
room_printed s at_once out m can room = record {
  registers = room.registers;
  faulted = room.faulted;
  ledger = room.ledger;
  capacity = room.capacity;
  last = room.last;
  texts = ap length (texts_are at_once out m can) ∙ can_each at_once out m.texts.items can ∙ room.texts;
}

-- ---- an equation prints nothing
pub run_printed : (at_once : Option ℕ) (out : List ℕ) (in_place : Bool) (t i : ℕ) (e : Equation) (old new : Machine) (root : Option Root) → HasRunOne in_place t i e old new root → HasRunOne in_place t i e (printed_to at_once out old) (printed_to at_once out new) root
run_printed at_once out in_place t i e old new root (was_given is same) = was_given is (ap (printed_to at_once out) same)
run_printed at_once out in_place t i e old new root (was_barred other blocked registers marks store) = was_barred other blocked registers marks store
run_printed at_once out in_place t i e old new root (was_filled r other sound has registers marks) = was_filled r other sound has registers marks
run_printed at_once out in_place t i e old new root (has_failed kind other sound has registers marks) = has_failed kind other sound has registers marks

pub texts_printed : (at_once : Option ℕ) (out : List ℕ) (old new : Machine) → new.texts ≡ old.texts → (printed_to at_once out new).texts ≡ (printed_to at_once out old).texts
texts_printed at_once out old new same = λ k. with_items (same k) (texts_with at_once out (same k).items)

pub same_printed : (at_once : Option ℕ) (before out : List ℕ) (old new : Machine) → CanPrint at_once before old.texts.items → CanPrint at_once out new.texts.items → SameBeside old new → SameBeside (printed_to at_once before old) (printed_to at_once out new)
same_printed at_once before out old new can could same = record {
  timers = same.timers;
  last = same.last;
  registers_each = same.registers_each;
  faulted_each = same.faulted_each;
  ledger_each = same.ledger_each;
  texts_each =
      ap length (texts_are at_once out new could) ∙ can_each at_once out new.texts.items could ∙ same.texts_each
      ∙ sym (ap length (texts_are at_once before old can) ∙ can_each at_once before old.texts.items can);
}

-- ---- a print
pub print_kept : (s : System) (t k : ℕ) (before out : List ℕ) (old new : Machine) → HasPrinted s t k old new → HasPrinted s t k (printed_to None before old) (printed_to None out new)
print_kept s t k before out old new printed = record {
  registers = printed.registers;
  faulted = printed.faulted;
  store = printed.store;
  text =
      texts_are None out new tt ∙ printed.text
      ∙ (λ j. slice_set (sym (texts_are None before old tt) j) k (event_line t (name_of (slice_get s.outputs k)) (value_at old.store.cells old.registers.items (print_of s k))));
}

after_front : (start : ℕ) (before line : List ℕ) → start ≤ length before → drop start (take start before ++ line) ≡ line
after_front zero before line low = refl
after_front (suc start) [] line low = absurd (omega arith)
after_front (suc start) (x ∷ before) line low = after_front start before line (omega arith)

set_only : (k : ℕ) (old line : List ℕ) → k < 1 → slice_set (old ∷ []) k line ≡ line ∷ []
set_only zero old line there = refl
set_only (suc k) old line there = absurd (omega arith)

pub print_once : (s : System) (t k start : ℕ) (before out : List ℕ) (m : Machine) → CanPrint (Some start) before m.texts.items → length m.texts.items ≡ length s.outputs → k < length s.outputs → start ≤ length out
    → out ≡ take start before ++ event_line t (name_of (slice_get s.outputs k)) (value_at m.store.cells m.registers.items (print_of s k))
    → HasPrinted s t k (printed_to (Some start) before m) (printed_to (Some start) out m)
print_once s t k start before out m can each there long is =
    let line = event_line t (name_of (slice_get s.outputs k)) (value_at m.store.cells m.registers.items (print_of s k)) in
    let one = can.0 in
    record {
      registers = refl;
      faulted = refl;
      store = refl;
      text =
          texts_are (Some start) out m (can.0, long) ∙ (λ j. drop start (is j) ∷ []) ∙ ap (λ l. l ∷ []) (after_front start before line can.1)
          ∙ sym (set_only k (drop start before) line (omega arith)) ∙ (λ j. slice_set (sym (texts_are (Some start) before m can) j) k line);
    }

-- ---- the steps
pub record IsPrintedRun (s : System) (plan : Plan) (t : ℕ) (at_once : Option ℕ) (front before : List ℕ) (old : Machine) (out : List ℕ) (mid : Machine) (root : Option Root) : Type 0 where
  pub same : SameBeside old mid
  pub can : CanPrint at_once out mid.texts.items
  pub front_is : front_of at_once out ≡ front_of at_once before
  pub run : IsPartly s plan t front (printed_to at_once before old) (printed_to at_once out mid) root

-- nothing stands after what there was
none_after : (start : ℕ) (out : List ℕ) → take start out ≡ out → drop start out ≡ []
none_after zero [] is = refl
none_after zero (x ∷ out) is = absurd (cc)
none_after (suc start) [] is = refl
none_after (suc start) (x ∷ out) is = none_after start out (tails (x ∷ take start out) (x ∷ out) is)
  where
    rest_of : List ℕ → List ℕ
    rest_of [] = []
    rest_of (y ∷ ys) = ys

    tails : (xs ys : List ℕ) → xs ≡ ys → rest_of xs ≡ rest_of ys
    tails xs ys same = ap rest_of same

pub blank_texts : (at_once : Option ℕ) (out : List ℕ) (texts : List (List ℕ)) → front_of at_once out ≡ out → ((k : ℕ) → slice_index_or texts k [] ≡ []) → (k : ℕ) → slice_index_or (texts_with at_once out texts) k [] ≡ []
blank_texts None out texts front blank k = blank k
blank_texts (Some start) out texts front blank zero = none_after start out front
blank_texts (Some start) out texts front blank (suc k) = refl

pub none_printed : (s : System) → IsFlat s → (plan : Plan) (t : ℕ) (at_once : Option ℕ) (out : List ℕ) (old : Machine) → AllHeld s old → AreFresh s old → CanPrint at_once out old.texts.items → front_of at_once out ≡ out → ((k : ℕ) → slice_index_or old.texts.items k [] ≡ []) → IsPrintedRun s plan t at_once [] out old out old None
none_printed s whole plan t at_once out old all fresh can front blank = record {
  same = record { timers = refl; last = refl; registers_each = refl; faulted_each = refl; ledger_each = refl; texts_each = refl };
  can = can;
  front_is = refl;
  run =
      partly_none s whole plan t (printed_to at_once out old) (record { types = all.types; held = all.held; last = all.last })
      (record { each = λ i e run is. let f = fresh.each i e run is in record { unmarked = f.unmarked; empty = f.empty } })
      (λ k. ap (λ ts. slice_index_or ts k []) (texts_are at_once out old can) ∙ blank_texts at_once out old.texts.items front blank k);
}

-- ---- the end of an instant
pub ended_printed : (s : System) (t : ℕ) (at_once : Option ℕ) (out : List ℕ) (mid new : Machine) → HasEnded s t mid new → HasEnded s t (printed_to at_once out mid) new
ended_printed s t at_once out mid new e = record { last = e.last; timers = e.timers; cells = e.cells; ledger = e.ledger }

pub faulted_printed : (s : System) (plan : Plan) (t : ℕ) (given : List Line) (old : Machine) (at_once : Option ℕ) (out : List ℕ) (m : Machine) (before after : List ℕ) (root : Option Root) → is_some root ≡ true → IsInstant s plan t given old (printed_to at_once out m) before after root → IsInstant s plan t given old m before after root
faulted_printed s plan t given old at_once out m before after None some is = absurd (false≢true some)
faulted_printed s plan t given old at_once out m before after (Some r) some is = record { unwritten = is.unwritten; means = is.means }
