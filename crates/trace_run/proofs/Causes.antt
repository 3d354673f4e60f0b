-- The causes of the endings of a run exclude each other.
use Rattle.std.proofs.Common.{◌≡◌, ℕ, take, Bool, true, false, List, Option, Some, None, is_some, refl, sym, ◌∙◌, ap}
use Rattle.std.proofs.lemmas.Bool.{true≢false}
use Rattle.std.specs.Prelude.{◌&&◌, IsFalse}
use Rattle.flat_core.specs.Case.{Streams}
use Rattle.flat_core.specs.Ending.{EndsAtLimit, EndsInFault}
use Rattle.flat_core.specs.Fault.{is_faulty}
use Rattle.flat_core.specs.Instant.{instants}
use Rattle.flat_core.specs.Line.{Line, inputs_of}
use Rattle.flat_core.specs.System.{System}
use Rattle.flat_core.proofs.Alike.{named_faulty}
use Rattle.flat_core.proofs.Members.{all_at}
use Rattle.compiled_meaning.specs.Meant.{FaultTimeIsMeant, LimitIsMeant}
use Rattle.compiled_meaning.proofs.Excluding.{both, long, loud}
use Rattle.lift_func.specs.declared.fault.FaultKind.{FaultKind}
use Rattle.trace_monitor.specs.declared.ending.RunEnding.{RunEnding}
use Rattle.trace_monitor.specs.declared.ending.RunEnding.TheVariants as run
use Rattle.trace_monitor.specs.declared.options.Options.{Options}
use Rattle.trace_monitor.specs.Due.{bound_in, lines_in}
use Rattle.trace_monitor.specs.Ending.{IsFaulted, IsLimited}
use Rattle.trace_reader.specs.declared.fault.TraceFault.{TraceFault}
use Rattle.trace_run.specs.Meant.{bound_meant, lines_meant}
use Rattle.trace_run.specs.Means.{EndsAs, EndsAt, IsQuietAs, IsUnhindered, refused_as}
use Rattle.trace_run.specs.Program.{Program, coded, specified}

pub nothing_some : {A : Type 0} (x : Option A) (a : A) → x ≡ None → x ≡ Some a → ⊥
nothing_some x a none some = absurd (let e : false ≡ true = ap is_some (sym none ∙ some) in cc)

-- ---- of streams that solve a system
module _ (s : System) (lines : List Line) (z : Streams) (bound limit : ℕ) where
  fault_or_limit : (t i u : ℕ) (kind : FaultKind) → EndsInFault s lines z bound limit t i kind → EndsAtLimit s lines z bound limit u → ⊥
  fault_or_limit t i u kind fault limited =
      let sound : IsFalse (is_faulty s (inputs_of lines) z t) =
      all_at (λ u. IsFalse (is_faulty s (inputs_of lines) z u)) (take limit (instants s lines z bound)) limited.sound t fault.within in
      true≢false (sym (named_faulty s (inputs_of lines) z t i kind fault.named) ∙ sound)

-- ---- endings of one kind
pub data Kind : Type 0 where
  done : Kind
  refused : Kind
  faulted : Kind
  limited : Kind

abbrev pub kind_of : RunEnding → Kind
kind_of run.Done = done
kind_of (run.Trace fault) = refused
kind_of (run.Fault time kind place) = faulted
kind_of (run.Limit count time) = limited

done_alone : (how : RunEnding) → kind_of how ≡ done → how ≡ run.Done
done_alone run.Done is = refl
done_alone (run.Trace fault) is = absurd (let e : refused ≡ done = is in cc)
done_alone (run.Fault time kind place) is = absurd (let e : faulted ≡ done = is in cc)
done_alone (run.Limit count time) is = absurd (let e : limited ≡ done = is in cc)

-- by what is refused, and by what tells that a run is quiet, a fault or a limit
module _ (r : Option TraceFault) (Q F L : Type 0) where
  abbrev Says : Kind → Type 0
  Says done = (r ≡ None) × Q
  Says refused = ((f : TraceFault) × (r ≡ Some f)) × Q
  Says faulted = F
  Says limited = L

  module _ (loud_so : Q → F → ⊥) (long_so : Q → L → ⊥) (both_so : F → L → ⊥) where
    one_said : (a b : Kind) → Says a → Says b → a ≡ b
    one_said done done x y = refl
    one_said done refused x y = absurd (nothing_some r y.0.0 x.0 y.0.1)
    one_said done faulted x y = absurd (loud_so x.1 y)
    one_said done limited x y = absurd (long_so x.1 y)
    one_said refused done x y = absurd (nothing_some r x.0.0 y.0 x.0.1)
    one_said refused refused x y = refl
    one_said refused faulted x y = absurd (loud_so x.1 y)
    one_said refused limited x y = absurd (long_so x.1 y)
    one_said faulted done x y = absurd (loud_so y.1 x)
    one_said faulted refused x y = absurd (loud_so y.1 x)
    one_said faulted faulted x y = refl
    one_said faulted limited x y = absurd (both_so x y)
    one_said limited done x y = absurd (long_so y.1 x)
    one_said limited refused x y = absurd (long_so y.1 x)
    one_said limited faulted x y = absurd (both_so y x)
    one_said limited limited x y = refl

module _ (o : Options) (bytes : List ℕ) (end : Bool) where
  -- what a program says of a fault and of a limit
  abbrev Faults : Program → Type 0
  Faults (specified items s) = (t : ℕ) × FaultTimeIsMeant items (lines_meant items o bytes end) (bound_meant items o bytes end) o.instants t
  Faults (coded c) = (t : ℕ) × ((i : ℕ) × ((kind : FaultKind) × IsFaulted c.system o bytes end t i kind))

  abbrev Limits : Program → Type 0
  Limits (specified items s) = (t : ℕ) × LimitIsMeant items (lines_meant items o bytes end) (bound_meant items o bytes end) o.instants t
  Limits (coded c) = (t : ℕ) × IsLimited c.system o bytes end t

  loud_as : (p : Program) → IsQuietAs p o bytes end → Faults p → ⊥
  loud_as (specified items s) quiet f = loud items (lines_meant items o bytes end) (bound_meant items o bytes end) o.instants f.0 quiet f.1
  loud_as (coded c) quiet f = let (z, zs) = quiet.solved in (quiet.each z zs).no_fault f.0 f.1.0 f.1.1.0 (f.1.1.1.each z zs)

  long_as : (p : Program) → IsQuietAs p o bytes end → Limits p → ⊥
  long_as (specified items s) quiet l = long items (lines_meant items o bytes end) (bound_meant items o bytes end) o.instants l.0 quiet l.1
  long_as (coded c) quiet l = let (z, zs) = quiet.solved in (quiet.each z zs).no_limit l.0 (l.1.each z zs)

  both_as : (p : Program) → Faults p → Limits p → ⊥
  both_as (specified items s) f l = both items (lines_meant items o bytes end) (bound_meant items o bytes end) o.instants f.0 l.0 f.1 l.1
  both_as (coded c) f l =
      let (z, zs) = l.1.solved in
      fault_or_limit c.system (lines_in c.system o bytes end) z (bound_in c.system o bytes end) o.instants f.0 f.1.0 l.0 f.1.1.0 (f.1.1.1.each z zs) (l.1.each z zs)

  abbrev SaysAs : Program → Kind → Type 0
  SaysAs p = Says (refused_as p o bytes end) (IsQuietAs p o bytes end) (Faults p) (Limits p)

  said_as : (p : Program) (how : RunEnding) → EndsAs p o bytes end how → SaysAs p (kind_of how)
  said_as (specified items s) run.Done ends = (ends.1, ends.2)
  said_as (specified items s) (run.Trace fault) ends = ((fault, ends.0), ends.1)
  said_as (specified items s) (run.Fault t kind place) ends = (t, ends.0)
  said_as (specified items s) (run.Limit n t) ends = (t, ends.1)
  said_as (coded c) run.Done ends = (ends.1, ends.2)
  said_as (coded c) (run.Trace fault) ends = ((fault, ends.0), ends.1)
  said_as (coded c) (run.Fault t kind place) ends = (t, (ends.0, (kind, ends.2)))
  said_as (coded c) (run.Limit n t) ends = (t, ends.1)

  one_kind_said : (p : Program) (a b : Kind) → SaysAs p a → SaysAs p b → a ≡ b
  one_kind_said p = one_said (refused_as p o bytes end) (IsQuietAs p o bytes end) (Faults p) (Limits p) (loud_as p) (long_as p) (both_as p)

-- where the end of the trace is told or not
module _ (o : Options) (bytes : List ℕ) where
  said_at : (tells_end read : Bool) (p : Program) (how : RunEnding) → EndsAt p o bytes tells_end read how → SaysAs o bytes (tells_end && read) p (kind_of how)
  said_at true read p how ends = said_as o bytes read p how ends
  said_at false read p run.Done ends = (ends.1.accepted, ends.1.quiet)
  said_at false read p (run.Trace fault) ends = said_as o bytes false p (run.Trace fault) ends
  said_at false read p (run.Fault t kind place) ends = said_as o bytes false p (run.Fault t kind place) ends
  said_at false read p (run.Limit n t) ends = said_as o bytes false p (run.Limit n t) ends

  module _ (tells_end read : Bool) (p : Program) where
    -- two endings that have their causes are of one kind
    pub one_kind : (how other : RunEnding) → EndsAt p o bytes tells_end read how → EndsAt p o bytes tells_end read other → kind_of how ≡ kind_of other
    one_kind how other a b = one_kind_said o bytes (tells_end && read) p (kind_of how) (kind_of other) (said_at tells_end read p how a) (said_at tells_end read p other b)

    -- what nothing stands against ends as done
    pub unhindered_done : IsUnhindered p o bytes (tells_end && read) → (how : RunEnding) → EndsAt p o bytes tells_end read how → how ≡ run.Done
    unhindered_done u how ends = done_alone how (one_kind_said o bytes (tells_end && read) p (kind_of how) done (said_at tells_end read p how ends) (u.accepted, u.quiet))
