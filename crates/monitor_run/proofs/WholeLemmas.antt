-- A whole instant.
use Rattle.std.proofs.Common.{◌≡◌, ℕ, true, false, List, [], ◌++◌, length, Option, Some, None, refl, sym, append-nil, inr}
use Rattle.std.proofs.lemmas.Bool.{false≢true, true≢false}
use Rattle.std.specs.Prelude.{is_some}
use Rattle.std.specs.List.{flat_map}
use Rattle.flat_core.specs.Events.{Inputs}
use Rattle.flat_core.specs.Complete.{IsFlat}
use Rattle.flat_core.specs.Line.{Line}
use Rattle.flat_core.specs.System.{System}
use Rattle.register_machine.specs.Run.{Plan}
use Rattle.monitor_run.specs.declared.machine.Machine.{Machine}
use Rattle.monitor_run.specs.declared.run.Root.{Root}
use Rattle.monitor_run.specs.inner.Begun.{IsBegunOf}
use Rattle.monitor_run.specs.inner.Instant.{AreInputs, HasEnded, HasRunRegisters, IsInstant, IsInstantBegun, IsInstantText, IsSound, kept_of}
use Rattle.monitor_run.specs.inner.Machine.{HasRoom}
use Rattle.monitor_run.proofs.EndedLemmas.{sound_after}
use Rattle.monitor_run.proofs.InstantOf.{instant_is}

module _ (s : System) (plan : Plan) (t : ℕ) (given : List Line) (old mid : Machine) (root : Option Root) (ran : HasRunRegisters s plan t given old mid root) (room : HasRoom s mid) where
  pub text_is : (inputs : Inputs) → AreInputs given t inputs → IsInstantText s plan inputs t (kept_of old) (flat_map (λ x. x) mid.texts.items)
  text_is inputs are = record { texts = mid.texts.items; each = room.texts; printed = (ran.means inputs are).printed; is = refl }

  pub begun_part : (before after : List ℕ) → IsBegunOf before after (flat_map (λ x. x) mid.texts.items) → IsInstantBegun s plan t given old before after
  begun_part before after begun = inr (flat_map (λ x. x) mid.texts.items, text_is, begun)

  pub begun_whole : (before after : List ℕ) → after ≡ before ++ flat_map (λ x. x) mid.texts.items → IsInstantBegun s plan t given old before after
  begun_whole before after is = inr (flat_map (λ x. x) mid.texts.items, text_is, record { added = flat_map (λ x. x) mid.texts.items; rest = []; after_is = is; text_is = sym (append-nil (flat_map (λ x. x) mid.texts.items)) })

-- with a root fault
pub faulted_instant : (s : System) (plan : Plan) (t : ℕ) (given : List Line) (old mid : Machine) (root : Option Root) (before after : List ℕ) → is_some root ≡ true → after ≡ before → HasRunRegisters s plan t given old mid root → IsInstant s plan t given old mid before after root
faulted_instant s plan t given old mid None before after some same ran = absurd (false≢true some)
faulted_instant s plan t given old mid (Some root) before after some same ran = record {
  unwritten = same;
  means = λ inputs are. let r = ran.means inputs are in record { reached = r.reached; ran = r.ran; least = r.least; ledger_is = r.shows.beside.ledger };
}

-- without one
pub sound_instant : (s : System) → IsFlat s → (plan : Plan) (t : ℕ) (given : List Line) (old mid new : Machine) (root : Option Root) (before after : List ℕ) → is_some root ≡ false → IsSound s t old → HasRunRegisters s plan t given old mid root → HasRoom s mid → HasEnded s t mid new
    → length new.last.items ≡ length s.equations → after ≡ before ++ flat_map (λ x. x) mid.texts.items → IsInstant s plan t given old new before after root
sound_instant s whole plan t given old mid new (Some root) before after none sound ran room ended size text = absurd (true≢false none)
sound_instant s whole plan t given old mid new None before after none sound ran room ended size text = record {
  sound = sound_after s whole plan t given old mid new sound ran ended size;
  added = flat_map (λ x. x) mid.texts.items;
  after_is = text;
  instant = λ inputs are. instant_is s whole plan t given old mid new sound ran ended inputs are;
  text = text_is s plan t given old mid None ran room;
}
