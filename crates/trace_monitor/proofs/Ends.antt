-- How a run ends, by other lines and by a higher bound.
use Rattle.std.proofs.Common.{◌≡◌, ℕ, zero, suc, ◌<◌, ◌≤◌, true, false, not, List, [], ◌∷◌, ◌++◌, length, take, is_some, slice_get, refl, sym, ◌∙◌, ap, subst, arith, append-nil}
use Rattle.std.specs.List.{AllByRecursion, Contains, filter, flat_map}
use Rattle.std.specs.Prelude.{IsFalse}
use Rattle.std.proofs.lemmas.List.Elements.{Contains-append_left, filter-append}
use Rattle.std.proofs.lemmas.Option.{slice_get_within}
use Rattle.lift_func.specs.declared.fault.FaultKind.{FaultKind}
use Rattle.flat_core.specs.inner.BoundLaws.{AreFrom, HappensAlike}
use Rattle.flat_core.specs.Case.{Streams}
use Rattle.flat_core.specs.Ending.{EndsInFault, EndsAtLimit, EndsAtBound}
use Rattle.flat_core.specs.Fault.{is_faulty, is_over, root_at}
use Rattle.flat_core.specs.Instant.{instants}
use Rattle.flat_core.specs.Line.{Line, inputs_of}
use Rattle.flat_core.specs.Solution.{Solves}
use Rattle.flat_core.specs.System.{System, OutputsRun, IsProper}
use Rattle.flat_core.specs.Text.{due_text, text_at}
use Rattle.flat_core.proofs.LaterLines.{leaves_earlier}
use Rattle.flat_core.proofs.Members.{all_at, some_from}
use Rattle.flat_core.proofs.PendingLemmas.{some_before_from}
use Rattle.flat_core.proofs.SameMeaning.{outputs_agree}
use Rattle.flat_core.proofs.SmallerBound.{instants_first, solves_less}
use Rattle.flat_core.proofs.Uniqueness.{all_by, all_with}
use Rattle.trace_monitor.specs.inner.Kept.{events_of}
use Rattle.tsl_value.proofs.Lists.{all_take, filter_none, get_left}
use Rattle.flat_core.proofs.Instants.{instants_below}
use Rattle.trace_monitor.proofs.DueTexts.{due_alike}
use Rattle.trace_monitor.proofs.Events.{events_alike, events_solve}

alike_back : (s : System) (bound : ℕ) (ls ms : List Line) (z w : Streams) → HappensAlike s bound ls z ms w → HappensAlike s bound ms w ls z
alike_back s bound ls ms z w a = record {
  instants_same = λ n le. sym (a.instants_same n le);
  root_same = λ t i lt run. sym (a.root_same t i lt run);
  faulty_same = λ t lt. sym (a.faulty_same t lt);
  over_same = λ t lt. sym (a.over_same t lt);
  named_same = λ t i kind lt. let both = a.named_same t i kind lt in (both.1, both.0);
}

-- ---- streams that happen alike
module _ (s : System) (bound limit : ℕ) (ls ms : List Line) (z w : Streams) (a : HappensAlike s bound ls z ms w) where
  same : instants s ls z bound ≡ instants s ms w bound
  same = a.instants_same bound (omega arith)

  taken_below : AllByRecursion (λ t. t < bound) (take limit (instants s ms w bound))
  taken_below = all_take (λ t. t < bound) limit (instants s ms w bound) (instants_below s ms w bound)

  pub fault_alike : (t i : ℕ) (kind : FaultKind) → EndsInFault s ls z bound limit t i kind → EndsInFault s ms w bound limit t i kind
  fault_alike t i kind e =
      let within : Contains (take limit (instants s ms w bound)) t = subst (λ (l : List ℕ). Contains (take limit l) t) same e.within in
      let low : t < bound = all_at (λ u. u < bound) (take limit (instants s ms w bound)) taken_below t within in
      record { named = (a.named_same t i kind low).0 e.named; within = within }

  pub limit_alike : (t : ℕ) → EndsAtLimit s ls z bound limit t → EndsAtLimit s ms w bound limit t
  limit_alike t e = record {
    next = ap (λ (l : List ℕ). slice_get l limit) (sym same) ∙ e.next;
    sound =
        all_with (λ u. u < bound) (λ u. IsFalse (is_faulty s (inputs_of ls) z u)) (λ u. IsFalse (is_faulty s (inputs_of ms) w u)) (λ u lt none. sym (a.faulty_same u lt) ∙ none) (take limit (instants s ms w bound)) taken_below
        (subst (λ (l : List ℕ). AllByRecursion (λ u. IsFalse (is_faulty s (inputs_of ls) z u)) (take limit l)) same e.sound);
  }

pub bound_alike : (s : System) (bound limit : ℕ) (ls ms : List Line) (z w : Streams) → HappensAlike s bound ls z ms w → EndsAtBound s ls z bound limit → EndsAtBound s ms w bound limit
bound_alike s bound limit ls ms z w a e =
    let back = alike_back s bound ls ms z w a in
    record {
      no_fault = λ t i kind ends. e.no_fault t i kind (fault_alike s bound limit ms ls w z back t i kind ends);
      no_limit = λ t ends. e.no_limit t (limit_alike s bound limit ms ls w z back t ends);
    }

-- ---- a higher bound
take_more : (P : ℕ → Type 0) (n : ℕ) (xs ys : List ℕ) → AllByRecursion P ys → (more : List ℕ) × (take n (xs ++ ys) ≡ take n xs ++ more) × AllByRecursion P more
take_more P zero xs ys all = ([], refl, tt)
take_more P (suc n) [] ys all = (take (suc n) ys, refl, all_take P (suc n) ys all)
take_more P (suc n) (x ∷ xs) ys all = let (more, is, rest) = take_more P n xs ys all in (more, ap (λ l. x ∷ l) is, rest)

take_within : (n : ℕ) (xs ys : List ℕ) → n ≤ length xs → take n (xs ++ ys) ≡ take n xs
take_within zero xs ys le = refl
take_within (suc n) [] ys le = absurd (omega arith)
take_within (suc n) (x ∷ xs) ys le = ap (λ l. x ∷ l) (take_within n xs ys (omega arith))

module _ (s : System) (lines : List Line) (z : Streams) (low high limit : ℕ) (le : low ≤ high) where
  later : (rest : List ℕ) × (instants s lines z high ≡ instants s lines z low ++ rest) × AllByRecursion (λ t. (low ≤ t) × (t < high)) rest
  later = instants_first s lines z low high le

  pub limit_grows : (t : ℕ) → EndsAtLimit s lines z low limit t → EndsAtLimit s lines z high limit t × (due_text s lines z high limit ≡ due_text s lines z low limit)
  limit_grows t e =
      let fits : limit < length (instants s lines z low) = slice_get_within (instants s lines z low) limit t e.next in
      let takes : take limit (instants s lines z high) ≡ take limit (instants s lines z low) =
      ap (λ (l : List ℕ). take limit l) later.1 ∙ take_within limit (instants s lines z low) later.0 (omega arith) in (
        record {
          next = ap (λ (l : List ℕ). slice_get l limit) later.1 ∙ get_left (instants s lines z low) later.0 limit t e.next;
          sound = subst (λ (l : List ℕ). AllByRecursion (λ u. IsFalse (is_faulty s (inputs_of lines) z u)) l) (sym takes) e.sound;
        },
        ap (λ (l : List ℕ). flat_map (text_at s z) (filter (λ u. not (is_over s (inputs_of lines) z u)) l)) takes,
      )

  pub fault_grows : (t i : ℕ) (kind : FaultKind) → EndsInFault s lines z low limit t i kind → EndsInFault s lines z high limit t i kind × (due_text s lines z high limit ≡ due_text s lines z low limit)
  fault_grows t i kind e =
      let more = take_more (λ u. (low ≤ u) × (u < high)) limit (instants s lines z low) later.0 later.2 in
      let takes : take limit (instants s lines z high) ≡ take limit (instants s lines z low) ++ more.0 = ap (λ (l : List ℕ). take limit l) later.1 ∙ more.1 in
      let p = λ (u : ℕ). not (is_over s (inputs_of lines) z u) in
      let faulty : is_faulty s (inputs_of lines) z t ≡ true = some_from (λ j. is_some (root_at s (inputs_of lines) z t j)) s.running i e.named.running (ap is_some e.named.root) in
      let early : t < low = all_at (λ u. u < low) (take limit (instants s lines z low)) (all_take (λ u. u < low) limit (instants s lines z low) (instants_below s lines z low)) t e.within in
      let none : filter p more.0 ≡ [] =
      filter_none p more.0 (all_by (λ u. (low ≤ u) × (u < high)) (λ u. p u ≡ false) (λ u both. let late = both.0 in ap not (some_before_from (is_faulty s (inputs_of lines) z) (suc u) t (omega arith) faulty)) more.0 more.2) in (
        record { named = e.named; within = subst (λ (l : List ℕ). Contains l t) (sym takes) (Contains-append_left (take limit (instants s lines z low)) more.0 t e.within) },
        ap (λ (l : List ℕ). flat_map (text_at s z) (filter p l)) takes
            ∙ ap (λ (l : List ℕ). flat_map (text_at s z) l) (filter-append p (take limit (instants s lines z low)) more.0 ∙ ap (λ (l : List ℕ). filter p (take limit (instants s lines z low)) ++ l) none
            ∙ append-nil (filter p (take limit (instants s lines z low)))),
      )

-- ---- from the events that were given instants_below a bound to all lines instants_below a higher one
module _ (s : System) (proper : IsProper s) (outputs : OutputsRun s) (ls more : List Line) (low high limit : ℕ) (le : low ≤ high) (from : AreFrom low more) (text : List ℕ) (z : Streams) (zs : Solves s (inputs_of (ls ++ more)) high z) where
  solved : Solves s (inputs_of (events_of ls)) low z
  solved = events_solve s ls z low (((leaves_earlier s low ls more from).solves_same z).1 (solves_less s (inputs_of (ls ++ more)) low high z le zs))

  first : HappensAlike s low (events_of ls) z ls z
  first = events_alike s ls z low

  second : HappensAlike s low ls z (ls ++ more) z
  second = (leaves_earlier s low ls more from).happens z

  texts : due_text s (events_of ls) z low limit ≡ due_text s (ls ++ more) z low limit
  texts =
      let agree = outputs_agree s low z z proper (λ i run t lt. refl) outputs in
      due_alike s low limit (events_of ls) ls z z first agree ∙ due_alike s low limit ls (ls ++ more) z z second agree

  pub fault_stays : (t i : ℕ) (kind : FaultKind)
      → ((w : Streams) → Solves s (inputs_of (events_of ls)) low w → (text ≡ due_text s (events_of ls) w low limit) × EndsInFault s (events_of ls) w low limit t i kind)
      → (text ≡ due_text s (ls ++ more) z high limit) × EndsInFault s (ls ++ more) z high limit t i kind
  fault_stays t i kind ends =
      let (is, e) = ends z solved in
      let grown = fault_grows s (ls ++ more) z low high limit le t i kind (fault_alike s low limit ls (ls ++ more) z z second t i kind (fault_alike s low limit (events_of ls) ls z z first t i kind e)) in
      (is ∙ texts ∙ sym grown.1, grown.0)

  pub limit_stays : (t : ℕ) → ((w : Streams) → Solves s (inputs_of (events_of ls)) low w → (text ≡ due_text s (events_of ls) w low limit) × EndsAtLimit s (events_of ls) w low limit t)
      → (text ≡ due_text s (ls ++ more) z high limit) × EndsAtLimit s (ls ++ more) z high limit t
  limit_stays t ends =
      let (is, e) = ends z solved in
      let grown = limit_grows s (ls ++ more) z low high limit le t (limit_alike s low limit ls (ls ++ more) z z second t (limit_alike s low limit (events_of ls) ls z z first t e)) in
      (is ∙ texts ∙ sym grown.1, grown.0)

-- where no line follows
pub bound_stays : (s : System) → IsProper s → OutputsRun s → (ls : List Line) (bound limit : ℕ) (text : List ℕ) (z : Streams) → Solves s (inputs_of ls) bound z
    → ((w : Streams) → Solves s (inputs_of (events_of ls)) bound w → (text ≡ due_text s (events_of ls) w bound limit) × EndsAtBound s (events_of ls) w bound limit)
    → (text ≡ due_text s ls z bound limit) × EndsAtBound s ls z bound limit
bound_stays s proper outputs ls bound limit text z zs ends =
    let (is, e) = ends z (events_solve s ls z bound zs) in
    let alike = events_alike s ls z bound in
    (is ∙ due_alike s bound limit (events_of ls) ls z z alike (outputs_agree s bound z z proper (λ i run t lt. refl) outputs), bound_alike s bound limit (events_of ls) ls z z alike e)
