-- A round of a run over a trace, by what its calls answer, and the rounds so far, by what the world tells of them.
use Rattle.std.proofs.Common.{◌≡◌, ℕ, Bool, List, [], ◌∷◌, ◌++◌, refl, sym, ◌∙◌, ap, subst, arith, None, Option, Some, Result, Ok, Err, IfOk, IsTrue}
use Rattle.compiled_meaning.specs.inner.Ready.{IsReady}
use Rattle.trace_monitor.specs.declared.ending.RunEnding.{RunEnding}
use Rattle.trace_monitor.specs.inner.State.{State}
use Rattle.trace_monitor.specs.inner.Waits.{Waits, WaitsAgain}
use Rattle.tsl_world.specs.declared.broken.Broken.{Broken}
use Rattle.tsl_world.specs.declared.outside.Did.{Did}
use Rattle.tsl_world.specs.declared.outside.Did.TheVariants.{Took}
use Rattle.tsl_world.specs.declared.outside.Slot.TheVariants.{Trace}
use Rattle.tsl_world.specs.Runs.{Runs}
use Rattle.tsl_world.specs.Standing.{Standing}
use Rattle.tsl_world.proofs.Runs.{go_on, one_call}
use Rattle.trace_run.specs.inner.Round.{AreAlike, GoesTo, HasTaken, HasTurned, IsLeft, IsRead, Passes, TakesMore, Turns, cut_off, passed}
use Rattle.trace_run.proofs.Following.{Goes, alike_on, ended_round, goes_round, gone_round, no_ending, takes_more}

-- ---- a round, by what is made of its piece
module _ (m new : State) (tells_end : Bool) (piece : List ℕ) (read : IsRead tells_end piece) where
  more_of : WaitsAgain m new piece → TakesMore m new
  more_of again = record { waits = again.waits; more = takes_more m.reader.taken m.reader.taken new.reader.taken piece again.some again.taken (omega arith) }

  pub turned_by : (r : Result (Option RunEnding) Broken) → IfOk r (HasTaken m new piece) → IfOk r (HasTurned m new tells_end)
  turned_by (Ok next) has = record {
    alike = has.alike;
    goes_on = λ is. more_of (has.goes_on is);
    waits = λ is not_told. absurd (no_ending tells_end piece not_told read.told (has.at_end is));
  }
  turned_by (Err broken) has = tt

  pub turns_by : (r : Result (Option RunEnding) Broken) (part : List Did) → Passes m new piece r part → Turns m new tells_end r (Took Trace piece ∷ part)
  turns_by (Ok next) part has = passed piece part read has
  turns_by (Err broken) part has = cut_off piece part read has

-- ---- by what the world tells
module _ {W : Type 0} (told : W → Bool) (journal : W → List Did) (standing : W → Standing) where
  -- a read, and what is made of its piece
  pub read_and : (old mid new : W) (piece : List ℕ) (P Q : List Did → Type 0) → (IsTrue (told mid) → IsTrue (told old)) → standing mid ≡ standing old
      → (IsTrue (told mid) → journal mid ≡ journal old ++ Took Trace piece ∷ []) → Runs told journal standing mid new P → ((part : List Did) → P part → Q (Took Trace piece ∷ part)) → Runs told journal standing old new Q
  read_and old mid new piece P Q kept stands adds more joins =
      go_on told journal standing old mid new (λ p. p ≡ Took Trace piece ∷ []) P Q
      (one_call told journal standing old mid (Took Trace piece) (λ p. p ≡ Took Trace piece ∷ []) kept stands adds refl) more
      (λ p q is has. subst (λ (l : List Did). Q (l ++ q)) (sym is) (joins q has))

  -- the rounds so far, and one more
  module _ (old mid new : W) (first m : State) (alike : AreAlike first m) (waits : Waits m) (tells_end : Bool) (calls : Runs told journal standing old mid (Goes first m)) (after : State) where
    pub goes_once : Runs told journal standing mid new (Turns m after tells_end (Ok None)) → Runs told journal standing old new (Goes first after)
    goes_once more = go_on told journal standing old mid new (Goes first m) (Turns m after tells_end (Ok None)) (Goes first after) calls more (λ p q goes turned. goes_round first m alike waits tells_end p goes after q turned)

    pub ends_once : (how : RunEnding) → Runs told journal standing mid new (Turns m after tells_end (Ok (Some how))) → Runs told journal standing old new (GoesTo first after tells_end (Ok how))
    ends_once how more =
        go_on told journal standing old mid new (Goes first m) (Turns m after tells_end (Ok (Some how))) (GoesTo first after tells_end (Ok how)) calls more
        (λ p q goes turned. ended_round first m alike waits tells_end p goes after how q turned)

    pub breaks_once : IsReady first.system → (broken : Broken) → Runs told journal standing mid new (Turns m after tells_end (Err broken)) → Runs told journal standing old new (GoesTo first after tells_end (Err broken))
    breaks_once ready broken more =
        go_on told journal standing old mid new (Goes first m) (Turns m after tells_end (Err broken)) (GoesTo first after tells_end (Err broken)) calls more
        (λ p q goes broke. gone_round first m alike waits tells_end p goes ready q broke)

-- how the monitor is after the last round
pub left_by : (first m new : State) (tells_end : Bool) (next : Option RunEnding) (how : RunEnding) → AreAlike first m → HasTurned m new tells_end next → next ≡ Some how → IsLeft first new tells_end how
left_by first m new tells_end next how alike turned is = record {
  alike = alike_on first m new alike turned.alike;
  waits = λ not_told done. turned.waits (is ∙ ap Some done) not_told;
}
