-- The text of a flat system's solution is the text that is due.
use Rattle.std.proofs.Common.{◌≡◌, ◌==◌, ℕ, zero, suc, ◌<◌, ◌≤◌, Bool, true, false, not, ◌||◌, ◌&&◌, List, [], ◌∷◌, ◌++◌, take, Option, Some, None, refl, ap, inl, inr, arith}
use Rattle.std.specs.Prelude.{if◌then◌else◌, is_some}
use Rattle.std.specs.Option.{option_and_then}
use Rattle.std.specs.List.{Contains, flat_map, list_any}
use Rattle.std.proofs.lemmas.Bool.{cases_Bool, or_cases, or_left, or_right, and_parts, and_from, eqb-true, eq-eqb, false≢true}
use Rattle.std.proofs.lemmas.List.Kept.{IsStrictlyIncreasing-filter}
use Rattle.lift_func.specs.declared.fault.FaultKind.{FaultKind}
use Rattle.flat_core.specs.declared.equation.Equation.{Equation}
use Rattle.flat_core.specs.declared.equation.Output.{Output}
use Rattle.flat_core.specs.Stream.{event, has_event, Outcome, Event, Fault}
use Rattle.flat_core.specs.Case.{Streams, root_fault}
use Rattle.flat_core.specs.Complete.{IsFlat}
use Rattle.flat_core.specs.Needed.{RunsNeeded}
use Rattle.flat_core.specs.Fault.{root_at, is_faulty, is_over}
use Rattle.flat_core.specs.Instant.{is_delay, is_instant, instants}
use Rattle.flat_core.specs.Line.{Line, inputs_of, is_line_on}
use Rattle.flat_core.specs.Solution.{Solves}
use Rattle.flat_core.specs.System.{System, equation}
use Rattle.flat_core.specs.Text.{event_line, text_at, due_instants, due_text}
use Rattle.flat_core.specs.WellFormed.{IsWellFormed}
use Rattle.flat_core.proofs.Members.{contains_head, contains_tail, some_from, some_in}
use Rattle.flat_core.proofs.PendingLemmas.{some_before_gives, some_before_from}
use Rattle.flat_core.proofs.Instants.{in_instants, instants_have}
use Rattle.syntax_tree.specs.Tree as tree
use Rattle.syntax_tree.specs.Tree.{place_of}
use Rattle.type_rules.specs.Kinds.{Kinds}
use Rattle.spec_meaning.specs.Due.{Printed, outputs_of, IsInstant, IsFaulty, AreInstants, AreDue, IsTextAt, IsTextOf, IsDueText}
use Rattle.spec_meaning.specs.Due as due
use Rattle.spec_meaning.specs.Flat.{IsFlatOf}
use Rattle.flat_meaning.specs.inner.Laws.{IsExpiry, MeansTheSame}
use Rattle.tsl_value.proofs.Lists.{kept_in, in_kept}
use Rattle.tsl_value.specs.View.{View}
use Rattle.flat_meaning.proofs.ListLemmas.{from_take}
use Rattle.flat_meaning.proofs.Rising.{Rising, increasing}
use Rattle.flat_meaning.proofs.Placed.{Each}
use Rattle.flat_meaning.proofs.Built.{TheLaws}
use Rattle.flat_meaning.proofs.Covered.{IsOutput}
use Rattle.flat_meaning.proofs.Means.{leads, outputs_there, output_happens, means}

rising_take : (low n : ℕ) (xs : List ℕ) → Rising low xs → Rising low (take n xs)
rising_take low zero [] up = tt
rising_take low zero (x ∷ xs) up = tt
rising_take low (suc n) [] up = tt
rising_take low (suc n) (x ∷ xs) up = (up.0, rising_take (suc x) n xs up.1)

rising_end : (low n : ℕ) (xs : List ℕ) (b : Bool) → Rising low xs → ((t : ℕ) → Contains xs t → t < n) → low ≤ n → Rising low (xs ++ (if b then n ∷ [] else []))
rising_end low n [] true up below le = (le, tt)
rising_end low n [] false up below le = tt
rising_end low n (x ∷ xs) b up below le = (up.0, rising_end (suc x) n xs b up.1 (λ t c. below t (contains_tail x xs t c)) (below x (contains_head x xs)))

event_of : (o : Option Outcome) → has_event o ≡ true → (v : View) × (o ≡ Some (Event v))
event_of None h = absurd (false≢true h)
event_of (Some (Event v)) h = (v, refl)
event_of (Some Fault) h = absurd (false≢true h)

pub some_is : (o : Option FaultKind) → is_some o ≡ true → (kind : FaultKind) × (o ≡ Some kind)
some_is None h = absurd (false≢true h)
some_is (Some kind) h = (kind, refl)

there_is : (o : Option Equation) (i t : ℕ) (f : Equation → Option FaultKind) → is_some (option_and_then f o) ≡ true → (e : Equation) × (o ≡ Some e)
there_is None i t f h = absurd (false≢true h)
there_is (Some e) i t f h = (e, refl)

module _ (items : List tree.Item) (s : System) (lines : List Line) (bound : ℕ) (z : Streams) (means_same : MeansTheSame items s lines bound z) where
  -- ---- instants
  delay_instant : (t : ℕ) → IsExpiry s z t → list_any (λ i. is_delay (equation s i) && has_event (z i t)) s.running ≡ true
  delay_instant t x = some_from (λ i. is_delay (equation s i) && has_event (z i t)) s.running x.number x.running (and_from (is_delay (equation s x.number)) (has_event (z x.number t)) x.is (ap has_event x.event))

  instant_delay : (t : ℕ) → list_any (λ i. is_delay (equation s i) && has_event (z i t)) s.running ≡ true → IsExpiry s z t
  instant_delay t h =
      let found = some_in (λ i. is_delay (equation s i) && has_event (z i t)) s.running h in
      let parts = and_parts (is_delay (equation s found.0)) (has_event (z found.0 t)) found.2 in
      let value = event_of (z found.0 t) parts.1 in
      record { number = found.0; running = found.1; is = parts.0; value = value.0; event = value.1 }

  to_instant : (t : ℕ) → t < bound → is_instant s lines z t ≡ true → IsInstant items lines t
  to_instant t lt h = elim (or_cases ((t == 0) || is_line_on t lines) (list_any (λ i. is_delay (equation s i) && has_event (z i t)) s.running) h) [
    | inl first ↦ elim (or_cases (t == 0) (is_line_on t lines) first) [ inl start ↦ inl (eqb-true t 0 start) | inr line ↦ inr (inl line) ]
    | inr delay ↦ inr (inr ((means_same.expiries t lt).0 (instant_delay t delay)))
  ]

  from_instant : (t : ℕ) → t < bound → IsInstant items lines t → is_instant s lines z t ≡ true
  from_instant t lt h =
      let delays : Bool = list_any (λ i. is_delay (equation s i) && has_event (z i t)) s.running in
      elim h [
        | inl start ↦ or_left ((t == 0) || is_line_on t lines) delays (or_left (t == 0) (is_line_on t lines) (eq-eqb t 0 start))
        | inr more ↦ elim more [
          | inl line ↦ or_left ((t == 0) || is_line_on t lines) delays (or_right (t == 0) (is_line_on t lines) line)
          | inr delay ↦ or_right ((t == 0) || is_line_on t lines) delays (delay_instant t ((means_same.expiries t lt).1 delay))
        ]
      ]

  rising_instants : (n : ℕ) → Rising 0 (instants s lines z n)
  rising_instants zero = tt
  rising_instants (suc n) = rising_end 0 n (instants s lines z n) (is_instant s lines z n) (rising_instants n) (λ t c. (in_instants s lines z n t c).0) (omega arith)

  pub are_instants : AreInstants items lines bound (instants s lines z bound)
  are_instants = record {
    rising = increasing 0 (instants s lines z bound) (rising_instants bound);
    each = λ t. (
      (λ c. let found = in_instants s lines z bound t c in (found.0, to_instant t found.0 found.1)),
      (λ h. instants_have s lines z bound t h.0 (from_instant t h.0 h.1)),
    );
  }

  -- ---- root faults
  faulty_from : (t : ℕ) → t < bound → is_faulty s (inputs_of lines) z t ≡ true → IsFaulty items lines t
  faulty_from t lt h =
      let found = some_in (λ i. is_some (root_at s (inputs_of lines) z t i)) s.running h in
      let kind = some_is (root_at s (inputs_of lines) z t found.0) found.2 in
      let at = there_is (equation s found.0) found.0 t (λ e. root_fault (inputs_of lines) z found.0 e t) found.2 in
      let root = (means_same.roots t at.0.place kind.0 lt).0 (record { number = found.0; of = at.0; running = found.1; is = at.1; place_is = refl; root = kind.1 }) in
      record { at = root.at; kind = kind.0; root = root.root }

  pub to_faulty : (t : ℕ) → t < bound → IsFaulty items lines t → is_faulty s (inputs_of lines) z t ≡ true
  to_faulty t lt f =
      let root = (means_same.roots t (place_of f.at.expr) f.kind lt).1 (record { at = f.at; place_is = refl; root = f.root }) in
      some_from (λ i. is_some (root_at s (inputs_of lines) z t i)) s.running root.number root.running (ap is_some root.root)

  not_over : (t : ℕ) → t < bound → not (is_over s (inputs_of lines) z t) ≡ true → (u : ℕ) → u ≤ t → IsFaulty items lines u → ⊥
  not_over t lt h u le f = none (is_over s (inputs_of lines) z t) h (some_before_from (is_faulty s (inputs_of lines) z) (suc t) u (omega arith) (to_faulty u (omega arith) f))
    where
      none : (b : Bool) → not b ≡ true → b ≡ true → ⊥
      none true h is = false≢true h
      none false h is = false≢true is

  still_on : (t : ℕ) → t < bound → ((u : ℕ) → u ≤ t → IsFaulty items lines u → ⊥) → not (is_over s (inputs_of lines) z t) ≡ true
  still_on t lt none = elim (cases_Bool (is_over s (inputs_of lines) z t)) [
    | inl over ↦
        let found = some_before_gives (is_faulty s (inputs_of lines) z) (suc t) over in
        let low = found.1 in
        absurd (none found.0 (omega arith) (faulty_from found.0 (omega arith) found.2))
    | inr on ↦ ap not on
  ]

  module _ (limit : ℕ) where
    pub taken_low : (t : ℕ) → Contains (take limit (instants s lines z bound)) t → t < bound
    taken_low t c = (in_instants s lines z bound t (from_take limit (instants s lines z bound) t c)).0

    are_due : AreDue items lines bound limit (due_instants s lines z bound limit)
    are_due = record {
      instants = instants s lines z bound;
      are = are_instants;
      rising = IsStrictlyIncreasing-filter (λ t. not (is_over s (inputs_of lines) z t)) (take limit (instants s lines z bound)) (increasing 0 (take limit (instants s lines z bound)) (rising_take 0 limit (instants s lines z bound) (rising_instants bound)));
      each = λ t. (
        (λ c.
            let found = in_kept (λ t. not (is_over s (inputs_of lines) z t)) (take limit (instants s lines z bound)) t c in
            (found.0, not_over t (taken_low t found.0) found.1)),
        (λ h. kept_in (λ t. not (is_over s (inputs_of lines) z t)) (take limit (instants s lines z bound)) t h.0 (still_on t (taken_low t h.0) h.1)),
      );
    }

    due_low : (t : ℕ) → Contains (due_instants s lines z bound limit) t → t < bound
    due_low t c = taken_low t (in_kept (λ t. not (is_over s (inputs_of lines) z t)) (take limit (instants s lines z bound)) t c).0

module _ (items : List tree.Item) (kinds : Kinds) (s : System) (lines : List Line) (bound : ℕ) (z : Streams) (laws : TheLaws) (of : IsFlatOf items kinds s.equations s.outputs) (flat : IsFlat s) (needs : RunsNeeded s) (good : IsWellFormed s) (solves : Solves s (inputs_of lines) bound z) where
  texts_at : (t : ℕ) → t < bound → (os : List Printed) (ps : List Output) → Each (IsOutput items kinds of.top s flat.proper (leads items kinds s lines bound z laws of flat needs good solves)) os ps → ((p : Output) → Contains ps p → Contains s.outputs p) → IsTextAt items lines t os (flat_map (λ (p : Output). event_line t p.name (event (z p.equation t))) ps)
  texts_at t lt [] [] each all = due.IsTextAt.end
  texts_at t lt [] (p ∷ ps) each all = absurd each
  texts_at t lt (o ∷ os) [] each all = absurd each
  texts_at t lt (o ∷ os) (p ∷ ps) each all =
      let rest : List ℕ = flat_map (λ (q : Output). event_line t q.name (event (z q.equation t))) ps in
      due.IsTextAt.output (z p.equation t) rest (output_happens items kinds s lines bound z laws of flat needs good solves o p each.0 (all p (contains_head p ps)) t lt) (texts_at t lt os ps each.1 (λ q c. all q (contains_tail p ps q c))) (ap (λ n. event_line t n (event (z p.equation t)) ++ rest) each.0.name_is)

  texts_of : (ts : List ℕ) → ((t : ℕ) → Contains ts t → t < bound) → IsTextOf items lines ts (flat_map (text_at s z) ts)
  texts_of [] low = due.IsTextOf.end
  texts_of (t ∷ ts) low =
      due.IsTextOf.instant (text_at s z t) (flat_map (text_at s z) ts) (texts_at t (low t (contains_head t ts)) (outputs_of items) s.outputs (outputs_there items kinds s lines bound z laws of flat needs good solves) (λ p c. c)) (texts_of ts (λ u c. low u (contains_tail t ts u c))) refl

  pub text_is_due : (limit : ℕ) → IsDueText items lines bound limit (due_text s lines z bound limit)
  text_is_due limit =
      let same = means items kinds s lines bound z laws of flat needs good solves in
      record {
        due = due_instants s lines z bound limit;
        are_due = are_due items s lines bound z same limit;
        is = texts_of (due_instants s lines z bound limit) (due_low items s lines bound z same limit);
      }
