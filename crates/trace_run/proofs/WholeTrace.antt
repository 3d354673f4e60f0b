-- What ends no run over a whole trace ends none over a beginning of it.
use Rattle.std.proofs.Common.{◌≡◌, ℕ, zero, suc, ◌<◌, ◌≤◌, Bool, true, false, List, [], ◌∷◌, ◌++◌, Option, Some, None, take, slice_get, refl, sym, ◌∙◌, ap, subst, arith}
use Rattle.std.proofs.lemmas.List.Elements.{Contains-append_left}
use Rattle.std.specs.List.{AllByRecursion, Contains}
use Rattle.std.specs.Prelude.{◌&&◌, IsFalse}
use Rattle.lift_func.specs.declared.fault.FaultKind.{FaultKind}
use Rattle.flat_core.specs.inner.BoundLaws.{AreFrom, HappensAlike}
use Rattle.flat_core.specs.Case.{Streams}
use Rattle.flat_core.specs.Ending.{EndsAtBound, EndsAtLimit, EndsInFault}
use Rattle.flat_core.specs.Fault.{is_faulty}
use Rattle.flat_core.specs.Instant.{instants}
use Rattle.flat_core.specs.Line.{Line, inputs_of}
use Rattle.flat_core.specs.Solution.{Solves}
use Rattle.flat_core.specs.System.{System}
use Rattle.flat_core.proofs.LaterLines.{leaves_earlier}
use Rattle.flat_core.proofs.Members.{all_at}
use Rattle.flat_core.proofs.SmallerBound.{instants_first, solves_less}
use Rattle.flat_core.proofs.Uniqueness.{all_with}
use Rattle.compiled_meaning.specs.Compiled.{Compiles}
use Rattle.compiled_meaning.specs.inner.Laws.{SaysWhatIsMeant}
use Rattle.compiled_meaning.specs.Meant.{QuietIsMeant}
use Rattle.compiled_meaning.specs.inner.Ready.{IsReady}
use Rattle.compiled_meaning.proofs.Excluding.{long, loud}
use Rattle.compiled_meaning.proofs.Meaning.{compiled_says_what_is_meant}
use Rattle.compiled_meaning.proofs.Readiness.{ready_of}
use Rattle.flat_core.proofs.SameMeaning.{happens_alike}
use Rattle.register_code.specs.Code.{Code}
use Rattle.trace_monitor.proofs.Ends.{bound_alike}
use Rattle.syntax_tree.specs.Tree as tree
use Rattle.trace_monitor.specs.declared.options.Options.{Options}
use Rattle.trace_monitor.specs.Due.{SolvesClosed, bound_in, lines_in, refused_in}
use Rattle.tsl_value.proofs.Lists.{all_take, take_append, get_left}
use Rattle.flat_core.proofs.Instants.{instants_below}
use Rattle.trace_reader.specs.inner.Laws.{Begins as LinesBegin}
use Rattle.trace_reader.specs.Reading.{Reading}
use Rattle.trace_reader.proofs.LawLemmas.{reading_begins, reading_refused}
use Rattle.trace_reader.proofs.LineLemmas.{reading_closed, reading_later}
use Rattle.tsl_world.specs.Begins.{Begins}
use Rattle.trace_run.specs.Means.{IsUnhindered}
use Rattle.trace_run.specs.Program.{Program, coded, specified}
use Rattle.trace_run.proofs.Causes.{nothing_some}
use Rattle.trace_run.proofs.CanBeRun.{CanBeRun}
use Rattle.trace_run.proofs.Meaning.{of_meant, refused_alike, to_meant}
use Rattle.trace_run.proofs.TypedLines.{typed_read}
use Rattle.trace_run.proofs.Unseen.{fit}

within_more : (n t : ℕ) (xs ys : List ℕ) → Contains (take n xs) t → Contains (take n (xs ++ ys)) t
within_more n t xs ys at = let (more, is) = take_append n xs ys in subst (λ (l : List ℕ). Contains l t) (sym is) (Contains-append_left (take n xs) more t at)

first_more : (n t : ℕ) (xs ys : List ℕ) → slice_get xs n ≡ Some t → take n (xs ++ ys) ≡ take n xs
first_more n t [] ys at = absurd (cc)
first_more zero t (x ∷ xs) ys at = refl
first_more (suc n) t (x ∷ xs) ys at = ap (λ (l : List ℕ). x ∷ l) (first_more n t xs ys at)

-- Streams that end in nothing instants_below a bound end in nothing instants_below a smaller one, with lines by which instants_below it the same happens.
module _ (s : System) (z : Streams) (ls ms : List Line) (low high limit : ℕ) (le : low ≤ high) (alike : HappensAlike s low ls z ms z) where
  abbrev rest : List ℕ
  rest = (instants_first s ms z low high le).0

  grow : instants s ms z high ≡ instants s ls z low ++ rest
  grow = (instants_first s ms z low high le).1 ∙ ap (λ (l : List ℕ). l ++ rest) (sym (alike.instants_same low (omega arith)))

  first_below : AllByRecursion (λ t. t < low) (take limit (instants s ls z low))
  first_below = all_take (λ t. t < low) limit (instants s ls z low) (instants_below s ls z low)

  fault_stays : (t i : ℕ) (kind : FaultKind) → EndsInFault s ls z low limit t i kind → EndsInFault s ms z high limit t i kind
  fault_stays t i kind ends = let lt : t < low = all_at (λ t. t < low) (take limit (instants s ls z low)) first_below t ends.within in record {
    named = (alike.named_same t i kind lt).0 ends.named;
    within = subst (λ (l : List ℕ). Contains (take limit l) t) (sym grow) (within_more limit t (instants s ls z low) rest ends.within);
  }

  limit_stays : (t : ℕ) → EndsAtLimit s ls z low limit t → EndsAtLimit s ms z high limit t
  limit_stays t ends = record {
    next = subst (λ (l : List ℕ). slice_get l limit ≡ Some t) (sym grow) (get_left (instants s ls z low) rest limit t ends.next);
    sound = subst (λ (l : List ℕ). AllByRecursion (λ u. IsFalse (is_faulty s (inputs_of ms) z u)) l)
        (sym (ap (λ (l : List ℕ). take limit l) grow ∙ first_more limit t (instants s ls z low) rest ends.next))
        (all_with (λ u. u < low) (λ u. IsFalse (is_faulty s (inputs_of ls) z u)) (λ u. IsFalse (is_faulty s (inputs_of ms) z u))
        (λ u lt sound. subst (λ (b : Bool). IsFalse b) (alike.faulty_same u lt) sound) (take limit (instants s ls z low)) first_below ends.sound);
  }

  pub ends_before : EndsAtBound s ms z high limit → EndsAtBound s ls z low limit
  ends_before ends = record {
    no_fault = λ t i kind early. ends.no_fault t i kind (fault_stays t i kind early);
    no_limit = λ t early. ends.no_limit t (limit_stays t early);
  }

none_by : {A : Type 0} (x : Option A) → ((a : A) → x ≡ Some a → ⊥) → x ≡ None
none_by None never = refl
none_by (Some a) never = absurd (never a refl)

-- a beginning of a whole trace, by a system
module _ (s : System) (o : Options) (bytes more : List ℕ) (e : Bool) where
  abbrev whole : List ℕ
  whole = bytes ++ more

  abbrev low : ℕ
  low = bound_in s o bytes false

  abbrev high : ℕ
  high = bound_in s o whole e

  abbrev ls : List Line
  ls = lines_in s o bytes false

  abbrev ms : List Line
  ms = lines_in s o whole e

  le : low ≤ high
  le = reading_closed s o.strict o.bytes o.until bytes more e

  stay : LinesBegin ls ms
  stay = reading_begins s o.strict o.bytes bytes more e

  later : AreFrom low stay.rest
  later = reading_later s o.strict o.bytes bytes more e stay.rest stay.is

  accepted_first : refused_in s o whole e ≡ None → refused_in s o bytes false ≡ None
  accepted_first none =
      none_by (refused_in s o bytes false) (λ f is. nothing_some (refused_in s o whole e) f none
      (ap (λ (r : Reading). r.refused) (reading_refused s o.strict o.bytes bytes more e f is) ∙ is))

  module _ (z : Streams) (zs : SolvesClosed s o whole e z) where
    first : SolvesClosed s o bytes false z
    first = ((leaves_earlier s low ls stay.rest later).solves_same z).1 (subst (λ (l : List Line). Solves s (inputs_of l) low z) stay.is (solves_less s (inputs_of ms) low high z le zs))

    alike : HappensAlike s low ls z ms z
    alike = subst (λ (l : List Line). HappensAlike s low ls z l z) (sym stay.is) ((leaves_earlier s low ls stay.rest later).happens z)

    bound_first : EndsAtBound s ms z high o.instants → EndsAtBound s ls z low o.instants
    bound_first ends = ends_before s z ls ms low high o.instants le alike ends

-- for a source that is compiled to this system
module _ (source : List ℕ) (items : List tree.Item) (s : System) (o : Options) (c : Compiles source items s) (bytes more : List ℕ) (e : Bool) where
  module _ (z : Streams) (zs : SolvesClosed s o (bytes ++ more) e z) where
    all_said : SaysWhatIsMeant items s (lines_in s o (bytes ++ more) e) (bound_in s o (bytes ++ more) e) o.instants z
    all_said = compiled_says_what_is_meant source items s (lines_in s o (bytes ++ more) e) (bound_in s o (bytes ++ more) e) o.instants z c (typed_read s o (bytes ++ more) e) zs

    first_said : SaysWhatIsMeant items s (lines_in s o bytes false) (bound_in s o bytes false) o.instants z
    first_said = compiled_says_what_is_meant source items s (lines_in s o bytes false) (bound_in s o bytes false) o.instants z c (typed_read s o bytes false) (first s o bytes more e z zs)

    quiet_first : QuietIsMeant items (lines_in s o (bytes ++ more) e) (bound_in s o (bytes ++ more) e) o.instants → QuietIsMeant items (lines_in s o bytes false) (bound_in s o bytes false) o.instants
    quiet_first quiet = first_said.quiet (bound_first s o bytes more e z zs record {
      no_fault = λ t i kind ends. loud items (lines_in s o (bytes ++ more) e) (bound_in s o (bytes ++ more) e) o.instants t quiet (all_said.fault t i kind ends);
      no_limit = λ t ends. long items (lines_in s o (bytes ++ more) e) (bound_in s o (bytes ++ more) e) o.instants t quiet (all_said.limited t ends);
    })

  specified_first : IsUnhindered (specified items s) o (bytes ++ more) e → IsUnhindered (specified items s) o bytes false
  specified_first u = let (z, zs) = (fit source items s c).solved (inputs_of (lines_in s o (bytes ++ more) e)) (bound_in s o (bytes ++ more) e) in record {
    accepted =
        sym (refused_alike source items s o c bytes false) ∙ accepted_first s o bytes more e (refused_alike source items s o c (bytes ++ more) e ∙ u.accepted);
    quiet = to_meant source items s o c bytes false (λ l b. QuietIsMeant items l b o.instants)
        (quiet_first z zs (of_meant source items s o c (bytes ++ more) e (λ l b. QuietIsMeant items l b o.instants) u.quiet));
  }

-- for code whose system can be run
module _ (c : Code) (ready : IsReady c.system) (o : Options) (bytes more : List ℕ) (e : Bool) where
  coded_first : IsUnhindered (coded c) o (bytes ++ more) e → IsUnhindered (coded c) o bytes false
  coded_first u =
      let s = c.system in
      let (z, zs) = u.quiet.solved in
      let earlier : EndsAtBound s (lines_in s o bytes false) z (bound_in s o bytes false) o.instants = bound_first s o bytes more e z zs (u.quiet.each z zs) in
      let solves = first s o bytes more e z zs in
      record {
        accepted = accepted_first s o bytes more e u.accepted;
        quiet = record {
          solved = (z, solves);
          each = λ w ws.
              let same = ready.agree (inputs_of (lines_in s o bytes false)) (bound_in s o bytes false) z w solves ws in
              bound_alike s (bound_in s o bytes false) o.instants (lines_in s o bytes false) (lines_in s o bytes false) z w
              (happens_alike s (bound_in s o bytes false) z w ready.proper same (lines_in s o bytes false)) earlier;
        };
      }

-- nothing in a whole trace, whose end is told or not, so nothing in what was taken of it
module _ (p : Program) (can : CanBeRun p) (o : Options) where
  unhindered_first : (bytes more : List ℕ) (e : Bool) → IsUnhindered p o (bytes ++ more) e → IsUnhindered p o bytes false
  unhindered_first bytes more e u = first_of p can u
    where
      first_of : (q : Program) → CanBeRun q → IsUnhindered q o (bytes ++ more) e → IsUnhindered q o bytes false
      first_of (specified items s) can u = specified_first can.0 items s o can.1 bytes more e u
      first_of (coded c) can u = coded_first c (ready_of c.system can.is_code.is_flat can.well_formed) o bytes more e u

  pub unhindered_taken : (bytes all : List ℕ) (tells_end end : Bool) → Begins bytes all → (end ≡ true → all ≡ bytes) → IsUnhindered p o all tells_end → IsUnhindered p o bytes (tells_end && end)
  unhindered_taken bytes all true true begins ends u = subst (λ (l : List ℕ). IsUnhindered p o l true) (ends refl) u
  unhindered_taken bytes all true false begins ends u = unhindered_first bytes begins.rest true (subst (λ (l : List ℕ). IsUnhindered p o l true) begins.is u)
  unhindered_taken bytes all false end begins ends u = unhindered_first bytes begins.rest false (subst (λ (l : List ℕ). IsUnhindered p o l false) begins.is u)
