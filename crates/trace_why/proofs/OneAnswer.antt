-- A question has one answer at some bytes.
use Rattle.std.proofs.Common.{◌≡◌, ℕ, ◌<◌, ◌≤◌, Bool, true, false, List, None, Option, Some, take, inl, inr, refl, sym, ◌∙◌, ap, arith}
use Rattle.std.proofs.Math.Bool.{true≢false}
use Rattle.lift_func.specs.declared.fault.FaultKind.{FaultKind}
use Rattle.flat_core.specs.Fault.{is_faulty}
use Rattle.flat_core.specs.Instant.{instants}
use Rattle.flat_core.specs.Line.{Line, inputs_of}
use Rattle.flat_core.specs.System.{System, equation}
use Rattle.flat_core.proofs.Alike.{named_faulty, one_named}
use Rattle.flat_core.proofs.Instants.{instants_below}
use Rattle.flat_core.proofs.Members.{all_at}
use Rattle.tsl_value.specs.declared.place.Place.{Place}
use Rattle.tsl_value.specs.View.{View}
use Rattle.tsl_value.proofs.Lists.{all_take, in_kept}
use Rattle.trace_monitor.specs.declared.options.Options.{Options}
use Rattle.trace_monitor.specs.Due.{bound_in, lines_in, refused_in}
use Rattle.trace_monitor.specs.Next.{IsPlaceOf}
use Rattle.trace_reader.specs.declared.fault.TraceFault.{TraceFault}
use Rattle.trace_why.specs.Answer.{AnswersBy, IsAnswerFor}
use Rattle.trace_why.specs.declared.ending.WhyEnding.{WhyEnding}
use Rattle.trace_why.specs.declared.ending.WhyEnding.TheVariants as ending
use Rattle.trace_why.specs.declared.question.Question.{Question}
use Rattle.trace_why.specs.Ending.{HasDueEvent, InAllFor, IsAllRead, IsAwaited, IsFaultedFor, IsLimitedFor, IsQuietFor, counted_below}
use Rattle.trace_why.specs.inner.Laws.{AreAlike, OneAnswer}

nothing_refused : (x : Option TraceFault) (f : TraceFault) → x ≡ None → x ≡ Some f → ⊥
nothing_refused x f none some = cc

not_both : (b : Bool) → b ≡ true → b ≡ false → ⊥
not_both b is other = true≢false (sym is ∙ other)

same_place : (s : System) (i j : ℕ) (p r : Place) → i ≡ j → IsPlaceOf s i p → IsPlaceOf s j r → p ≡ r
same_place s i j p r same first second =
    let here = first.is in
    let there : equation s i ≡ Some second.at = ap (equation s) same ∙ second.is in
    let one : first.at ≡ second.at = cc in
    sym first.place_is ∙ ap (λ e. e.place) one ∙ second.place_is

module _ (s : System) (o : Options) (q : Question) (bytes : List ℕ) (ended : Bool) where
  abbrev lines : List Line
  lines = lines_in s o bytes ended

  abbrev low : ℕ
  low = counted_below s o q bytes ended

  -- ---- causes that exclude each other
  quiet_fault : IsQuietFor s o q bytes ended → (t i : ℕ) (kind : FaultKind) → IsFaultedFor s o q bytes ended t i kind → ⊥
  quiet_fault quiet t i kind faulted = let (z, zs) = quiet.solved in (quiet.each z zs).no_fault t i kind (faulted.each z zs)

  quiet_limit : IsQuietFor s o q bytes ended → (t : ℕ) → IsLimitedFor s o q bytes ended t → ⊥
  quiet_limit quiet t limited = let (z, zs) = quiet.solved in (quiet.each z zs).no_limit t (limited.each z zs)

  fault_limit : (t i : ℕ) (kind : FaultKind) → IsFaultedFor s o q bytes ended t i kind → (u : ℕ) → IsLimitedFor s o q bytes ended u → ⊥
  fault_limit t i kind faulted u limited =
      let (z, zs) = faulted.solved in
      let fault = faulted.each z zs in
      not_both (is_faulty s (inputs_of lines) z t) (named_faulty s (inputs_of lines) z t i kind fault.named)
      (all_at (λ v. is_faulty s (inputs_of lines) z v ≡ false) (take o.instants (instants s lines z low)) (limited.each z zs).sound t fault.within)

  pub open_due : bound_in s o bytes ended ≤ q.time → (v : View) → InAllFor s o q bytes ended (λ z. HasDueEvent s o q bytes ended z v) → ⊥
  open_due early v has =
      let (z, zs) = has.solved in
      let among = (in_kept _ _ q.time (has.each z zs).due).0 in
      let lt = all_at (λ u. u < low) _ (all_take (λ u. u < low) o.instants _ (instants_below s lines z low)) q.time among in
      absurd (omega arith)

  open_read : IsAwaited s o q bytes ended → IsAllRead s o q bytes ended → ⊥
  open_read w (inl closed) = let early = w.still_open in absurd (omega arith)
  open_read w (inr (end, accepted)) = not_both ended end w.unended

  pub refused_read : (f : TraceFault) → bound_in s o bytes ended ≤ q.time → refused_in s o bytes ended ≡ Some f → IsAllRead s o q bytes ended → ⊥
  refused_read f early refused (inl closed) = absurd (omega arith)
  refused_read f early refused (inr (end, accepted)) = nothing_refused (refused_in s o bytes ended) f accepted refused

  pub due_none : (v : View) → InAllFor s o q bytes ended (λ z. HasDueEvent s o q bytes ended z v)
      → InAllFor s o q bytes ended (λ z. (w : View) → ¬ HasDueEvent s o q bytes ended z w) → ⊥
  due_none v has none = let (z, zs) = has.solved in none.each z zs v (has.each z zs)

  -- ---- causes of one kind
  same_fault : (t u : ℕ) (kind other : FaultKind) (p r : Place) → AnswersBy s o q bytes ended (ending.Fault t kind p)
      → AnswersBy s o q bytes ended (ending.Fault u other r) → ending.Fault t kind p ≡ ending.Fault u other r
  same_fault t u kind other p r (i, first, all) (j, second, more) =
      let (z, zs) = all.solved in
      let one = one_named s (inputs_of lines) z t u i j kind other (all.each z zs).named (more.each z zs).named in
      let place = same_place s i j p r one.1 first second in
      λ k. ending.Fault (one.0 k) (one.2 k) (place k)

  same_limit : (count number t u : ℕ) → AnswersBy s o q bytes ended (ending.Limit count t) → AnswersBy s o q bytes ended (ending.Limit number u)
      → ending.Limit count t ≡ ending.Limit number u
  same_limit count number t u (is, all) (also, more) =
      let (z, zs) = all.solved in
      let here = (all.each z zs).next in
      let there = (more.each z zs).next in
      let same : t ≡ u = cc in
      let counts : count ≡ number = is ∙ sym also in
      λ k. ending.Limit (counts k) (same k)

  same_refusal : (x : Option TraceFault) (f g : TraceFault) → x ≡ Some f → x ≡ Some g → f ≡ g
  same_refusal x f g one other = cc

  one : (a b : Option WhyEnding) → IsAnswerFor s o q bytes ended a → IsAnswerFor s o q bytes ended b → AreAlike a b
  one None None w x = refl
  one None (Some (ending.Text t)) w (quiet, (v, derived, has)) = absurd (open_due w.still_open v has)
  one None (Some ending.NoEvent) w (read, quiet, none) = absurd (open_read w read)
  one None (Some (ending.Refused f)) w (early, refused, quiet) = absurd (nothing_refused (refused_in s o bytes ended) f w.accepted refused)
  one None (Some (ending.Fault t kind p)) w (i, at, all) = absurd (quiet_fault w.quiet t i kind all)
  one None (Some (ending.Limit count t)) w (is, all) = absurd (quiet_limit w.quiet t all)
  one (Some (ending.Text t)) None (quiet, (v, derived, has)) w = absurd (open_due w.still_open v has)
  one (Some (ending.Text t)) (Some (ending.Text u)) x y = tt
  one (Some (ending.Text t)) (Some ending.NoEvent) (quiet, (v, derived, has)) (read, still, none) = absurd (due_none v has none)
  one (Some (ending.Text t)) (Some (ending.Refused f)) (quiet, (v, derived, has)) (early, refused, still) = absurd (open_due early v has)
  one (Some (ending.Text t)) (Some (ending.Fault u kind p)) (quiet, x) (i, at, all) = absurd (quiet_fault quiet u i kind all)
  one (Some (ending.Text t)) (Some (ending.Limit count u)) (quiet, x) (is, all) = absurd (quiet_limit quiet u all)
  one (Some ending.NoEvent) None (read, quiet, none) w = absurd (open_read w read)
  one (Some ending.NoEvent) (Some (ending.Text t)) (read, still, none) (quiet, (v, derived, has)) = absurd (due_none v has none)
  one (Some ending.NoEvent) (Some ending.NoEvent) x y = refl
  one (Some ending.NoEvent) (Some (ending.Refused f)) (read, quiet, none) (early, refused, still) = absurd (refused_read f early refused read)
  one (Some ending.NoEvent) (Some (ending.Fault t kind p)) (read, quiet, none) (i, at, all) = absurd (quiet_fault quiet t i kind all)
  one (Some ending.NoEvent) (Some (ending.Limit count t)) (read, quiet, none) (is, all) = absurd (quiet_limit quiet t all)
  one (Some (ending.Refused f)) None (early, refused, quiet) w = absurd (nothing_refused (refused_in s o bytes ended) f w.accepted refused)
  one (Some (ending.Refused f)) (Some (ending.Text t)) (early, refused, still) (quiet, (v, derived, has)) = absurd (open_due early v has)
  one (Some (ending.Refused f)) (Some ending.NoEvent) (early, refused, still) (read, quiet, none) = absurd (refused_read f early refused read)
  one (Some (ending.Refused f)) (Some (ending.Refused g)) (early, refused, quiet) (late, also, still) =
      ap (λ x. Some (ending.Refused x)) (same_refusal (refused_in s o bytes ended) f g refused also)
  one (Some (ending.Refused f)) (Some (ending.Fault t kind p)) (early, refused, quiet) (i, at, all) = absurd (quiet_fault quiet t i kind all)
  one (Some (ending.Refused f)) (Some (ending.Limit count t)) (early, refused, quiet) (is, all) = absurd (quiet_limit quiet t all)
  one (Some (ending.Fault t kind p)) None (i, at, all) w = absurd (quiet_fault w.quiet t i kind all)
  one (Some (ending.Fault t kind p)) (Some (ending.Text u)) (i, at, all) (quiet, x) = absurd (quiet_fault quiet t i kind all)
  one (Some (ending.Fault t kind p)) (Some ending.NoEvent) (i, at, all) (read, quiet, none) = absurd (quiet_fault quiet t i kind all)
  one (Some (ending.Fault t kind p)) (Some (ending.Refused f)) (i, at, all) (early, refused, quiet) = absurd (quiet_fault quiet t i kind all)
  one (Some (ending.Fault t kind p)) (Some (ending.Fault u other r)) x y = ap Some (same_fault t u kind other p r x y)
  one (Some (ending.Fault t kind p)) (Some (ending.Limit count u)) (i, at, all) (is, more) = absurd (fault_limit t i kind all u more)
  one (Some (ending.Limit count t)) None (is, all) w = absurd (quiet_limit w.quiet t all)
  one (Some (ending.Limit count t)) (Some (ending.Text u)) (is, all) (quiet, x) = absurd (quiet_limit quiet t all)
  one (Some (ending.Limit count t)) (Some ending.NoEvent) (is, all) (read, quiet, none) = absurd (quiet_limit quiet t all)
  one (Some (ending.Limit count t)) (Some (ending.Refused f)) (is, all) (early, refused, quiet) = absurd (quiet_limit quiet t all)
  one (Some (ending.Limit count t)) (Some (ending.Fault u kind p)) (is, all) (i, at, more) = absurd (fault_limit u i kind more t all)
  one (Some (ending.Limit count t)) (Some (ending.Limit number u)) x y = ap Some (same_limit count number t u x y)

pub one_answer : OneAnswer
one_answer = one
