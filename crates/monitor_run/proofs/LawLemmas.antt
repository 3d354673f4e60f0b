-- The texts of steps, joined.
use Rattle.std.proofs.Common.{◌≡◌, ℕ, zero, suc, ◌<◌, ◌≤◌, true, false, not, List, [], ◌∷◌, ◌++◌, length, take, refl, sym, ap, subst, ◌∙◌, append_assoc, append-nil, inl, inr, arith}
use Rattle.std.proofs.lemmas.Bool.{cases_lt, true≢false}
use Rattle.std.proofs.lemmas.Grind.{flat_map-append}
use Rattle.std.specs.Prelude.{if◌then◌else◌, is_some, IsFalse, slice_get}
use Rattle.std.specs.List.{AllByRecursion, Contains, filter, flat_map}
use Rattle.lift_func.specs.declared.fault.FaultKind.{FaultKind}
use Rattle.flat_core.specs.Case.{Streams}
use Rattle.flat_core.specs.Ending.{EndsInFault, EndsAtLimit, EndsAtBound}
use Rattle.flat_core.specs.Fault.{is_faulty, is_over, root_at, IsNamed}
use Rattle.flat_core.specs.Instant.{instants}
use Rattle.flat_core.specs.Line.{Line, inputs_of}
use Rattle.flat_core.specs.Solution.{Solves}
use Rattle.flat_core.specs.System.{System}
use Rattle.flat_core.specs.Text.{due_text, text_at}
use Rattle.flat_core.proofs.Members.{all_at, some_from}
use Rattle.flat_core.proofs.PendingLemmas.{none_before_from, some_before_from}
use Rattle.flat_core.proofs.Uniqueness.{all_by}
use Rattle.std.proofs.lemmas.Option.{slice_get_within}
use Rattle.std.proofs.lemmas.List.Elements.{filter-append}
use Rattle.std.proofs.lemmas.List.{take_all}
use Rattle.flat_core.proofs.SmallerBound.{instants_first, solves_less}
use Rattle.flat_core.proofs.Instants.{instants_below}
use Rattle.monitor_run.specs.inner.Next.{IsFirstInstant, NoInstant}
use Rattle.monitor_run.specs.inner.State.{State, IsReady}
use Rattle.monitor_run.specs.inner.Stands.{Stands, KeepsOf}
use Rattle.monitor_run.specs.inner.Steps.{HasRun, HasFaulted, IsAtLimit, IsNextOf, NoneIsLeft}
use Rattle.monitor_run.specs.inner.Written.{HasWritten}
use Rattle.tsl_value.proofs.Lists.{filter_all, filter_none, get_seam, middle}

-- ---- instants
module _ (s : System) (lines : List Line) (z : Streams) where
  pub no_instants : (n m : ℕ) → n ≤ m → NoInstant s lines z n m → instants s lines z m ≡ instants s lines z n
  no_instants n zero le none = let same : zero ≡ n = omega arith in ap (instants s lines z) same
  no_instants n (suc m) le none = elim (cases_lt m n) [
    | inl end ↦ let same : suc m ≡ n = omega arith in ap (instants s lines z) same
    | inr more ↦ (λ k. instants s lines z m ++ (if none m more (omega arith) k then m ∷ [] else [])) ∙ append-nil (instants s lines z m) ∙ no_instants n m more (λ u low lt. none u low (omega arith))
  ]

  pub next_instants : (n b t : ℕ) → IsFirstInstant s lines z n b t → instants s lines z (suc t) ≡ instants s lines z n ++ t ∷ []
  next_instants n b t f = (λ k. instants s lines z t ++ (if f.comes k then t ∷ [] else [])) ∙ ap (λ ts. ts ++ t ∷ []) (no_instants n t f.late f.first)

append_same : (xs ys zs : List ℕ) → xs ++ ys ≡ xs ++ zs → ys ≡ zs
append_same [] ys zs is = is
append_same (x ∷ xs) ys zs is = append_same xs ys zs (tail_same x (xs ++ ys) (xs ++ zs) is)
  where
    tail_same : (a : ℕ) (us vs : List ℕ) → a ∷ us ≡ a ∷ vs → us ≡ vs
    tail_same a us vs p = cc

-- ---- a step that ran
pub goes_on_written : (old new : State) (lines : List Line) (text before added : List ℕ) → HasWritten old lines text → HasRun old new lines before (before ++ added) → HasWritten new lines (text ++ added)
goes_on_written old new lines text before added written ran = record {
  stands = ran.stands;
  text_is = λ z solves.
      let s = old.system in
      let here : Solves s (inputs_of lines) (suc ran.time) z = subst (λ n. Solves s (inputs_of lines) n z) ran.next_is (subst (λ (q : System). Solves q (inputs_of lines) new.next z) ran.as_set.system solves) in
      let step = ran.each z here in
      let late = step.0.late in
      let text_same : added ≡ text_at s z ran.time = append_same before added (text_at s z ran.time) step.1 in
      let so_far = written.text_is z (solves_less s (inputs_of lines) old.next (suc ran.time) z (omega arith) here) in
      (λ k. so_far k ++ text_same k) ∙ ap (λ ys. flat_map (text_at s z) (instants s lines z old.next) ++ ys) (sym (append-nil (text_at s z ran.time)))
      ∙ sym (flat_map-append (text_at s z) (instants s lines z old.next) (ran.time ∷ []))
      ∙ sym (ap (flat_map (text_at s z)) (next_instants s lines z old.next old.bound ran.time step.0))
      ∙ sym (λ k. flat_map (text_at (ran.as_set.system k) z) (instants (ran.as_set.system k) lines z (ran.next_is k)));
}

-- ---- ends
take_first : (xs ys : List ℕ) → take (length xs) (xs ++ ys) ≡ xs
take_first [] ys = refl
take_first (x ∷ xs) ys = ap (λ l. x ∷ l) (take_first xs ys)

take_beyond : (xs ys : List ℕ) (y n : ℕ) → length xs < n → (m : ℕ) × (take n (xs ++ y ∷ ys) ≡ xs ++ y ∷ take m ys)
take_beyond [] ys y zero lt = absurd (omega arith)
take_beyond [] ys y (suc n) lt = (n, refl)
take_beyond (x ∷ xs) ys y zero lt = absurd (omega arith)
take_beyond (x ∷ xs) ys y (suc n) lt = let rest = take_beyond xs ys y n (omega arith) in (rest.0, ap (λ l. x ∷ l) rest.1)

all_take : (P : ℕ → Type 0) (xs : List ℕ) (n : ℕ) → AllByRecursion P xs → AllByRecursion P (take n xs)
all_take P [] zero all = tt
all_take P [] (suc n) all = tt
all_take P (x ∷ xs) zero all = tt
all_take P (x ∷ xs) (suc n) all = (all.0, all_take P xs n all.1)

module _ (old : State) (lines : List Line) (stands : Stands old lines) (w : Streams) (solves : Solves old.system (inputs_of lines) old.next w) where
  keeps : KeepsOf old lines w
  keeps = stands.keeps w solves

  -- no fault below what has run
  unfaulted : (t : ℕ) → t < old.next → is_over old.system (inputs_of lines) w t ≡ false
  unfaulted t lt = none_before_from (is_faulty old.system (inputs_of lines) w) (suc t) (λ u before. keeps.sound u (omega arith))

  pub all_due : filter (λ t. not (is_over old.system (inputs_of lines) w t)) (instants old.system lines w old.next) ≡ instants old.system lines w old.next
  all_due = filter_all (λ t. not (is_over old.system (inputs_of lines) w t)) (instants old.system lines w old.next) (all_by (λ t. t < old.next) (λ t. not (is_over old.system (inputs_of lines) w t) ≡ true) (λ t lt. ap not (unfaulted t lt)) (instants old.system lines w old.next) (instants_below old.system lines w old.next))

pub idle_ends : (old : State) (lines : List Line) (text : List ℕ) → IsReady old → HasWritten old lines text → NoneIsLeft old lines → (w : Streams) → Solves old.system (inputs_of lines) old.bound w → (text ≡ due_text old.system lines w old.bound old.limit) × EndsAtBound old.system lines w old.bound old.limit
idle_ends old lines text ready written none w solves = (
  written.text_is w before ∙ ap (flat_map (text_at old.system w)) (sym (ap (filter (λ t. not (is_over old.system (inputs_of lines) w t))) (ap (take old.limit) same ∙ take_all old.limit (instants old.system lines w old.next) room) ∙ all_due old lines written.stands w before)),
  record {
    no_fault = λ t i kind ends.
        let there = all_at (λ u. u < old.next) (instants old.system lines w old.next) (instants_below old.system lines w old.next) t (subst (λ ts. Contains ts t) (ap (take old.limit) same ∙ take_all old.limit (instants old.system lines w old.next) room) ends.within) in
        let keep = keeps old lines written.stands w before in
        true≢false (sym (some_from (λ j. is_some (root_at old.system (inputs_of lines) w t j)) old.system.running i ends.named.running (ap is_some ends.named.root)) ∙ keep.sound t there);
    no_limit = λ t ends. let within = slice_get_within (instants old.system lines w old.bound) old.limit t ends.next in let size = ap length same in let fits = room in absurd (omega arith);
  },
)
  where
    before : Solves old.system (inputs_of lines) old.next w
    before = solves_less old.system (inputs_of lines) old.next old.bound w ready.within solves

    same : instants old.system lines w old.bound ≡ instants old.system lines w old.next
    same = no_instants old.system lines w old.next old.bound ready.within (none w solves)

    room : length (instants old.system lines w old.next) ≤ old.limit
    room = let keep = keeps old lines written.stands w before in let ran = keep.ran in let fits = ready.room in omega arith

-- ---- an instant that is below the bound
module _ (old : State) (lines : List Line) (ready : IsReady old) (stands : Stands old lines) (t : ℕ) (w : Streams) (solves : Solves old.system (inputs_of lines) old.bound w) (next : IsNextOf old lines w t) where
  before_next : Solves old.system (inputs_of lines) old.next w
  before_next = solves_less old.system (inputs_of lines) old.next old.bound w ready.within solves

  -- the instants below the bound are those that ran, this one, and later ones
  pub then_more : (rest : List ℕ) × (instants old.system lines w old.bound ≡ instants old.system lines w old.next ++ t ∷ rest) × AllByRecursion (λ u. (suc t ≤ u) × (u < old.bound)) rest
  then_more =
      let late = next.early in
      let more = instants_first old.system lines w (suc t) old.bound (omega arith) in (
        more.0,
        more.1 ∙ ap (λ ts. ts ++ more.0) (next_instants old.system lines w old.next old.bound t next) ∙ append_assoc (instants old.system lines w old.next) (t ∷ []) more.0,
        more.2,
      )

  ran_is : old.ran ≡ length (instants old.system lines w old.next)
  ran_is = (keeps old lines stands w before_next).ran

  pub limit_ends : (text : List ℕ) → old.ran ≡ old.limit → text ≡ flat_map (text_at old.system w) (instants old.system lines w old.next) → (text ≡ due_text old.system lines w old.bound old.limit) × EndsAtLimit old.system lines w old.bound old.limit t
  limit_ends text full text_is = (
    text_is ∙ ap (flat_map (text_at old.system w)) (sym (ap (filter (λ u. not (is_over old.system (inputs_of lines) w u))) taken ∙ all_due old lines stands w before_next)),
    record {
      next = ap (λ ts. slice_get ts old.limit) then_more.1 ∙ ap (slice_get (instants old.system lines w old.next ++ t ∷ then_more.0)) (sym full ∙ ran_is) ∙ get_seam (instants old.system lines w old.next) t then_more.0;
      sound =
          subst (AllByRecursion (λ u. IsFalse (is_faulty old.system (inputs_of lines) w u))) (sym taken)
          (all_by (λ u. u < old.next) (λ u. IsFalse (is_faulty old.system (inputs_of lines) w u)) (λ u lt. (keeps old lines stands w before_next).sound u lt) (instants old.system lines w old.next) (instants_below old.system lines w old.next));
    },
  )
    where
      taken : take old.limit (instants old.system lines w old.bound) ≡ instants old.system lines w old.next
      taken = (λ k. take ((sym full ∙ ran_is) k) (then_more.1 k)) ∙ take_first (instants old.system lines w old.next) (t ∷ then_more.0)

  taken_more : old.ran < old.limit → (m : ℕ) × (take old.limit (instants old.system lines w old.bound) ≡ instants old.system lines w old.next ++ t ∷ take m then_more.0)
  taken_more room =
      let ran = ran_is in
      let most = take_beyond (instants old.system lines w old.next) then_more.0 t old.limit (omega arith) in
      (most.0, ap (take old.limit) then_more.1 ∙ most.1)

  -- from a fault on nothing is due
  over : is_faulty old.system (inputs_of lines) w t ≡ true → (u : ℕ) → t ≤ u → not (is_over old.system (inputs_of lines) w u) ≡ false
  over faulty u le = ap not (some_before_from (is_faulty old.system (inputs_of lines) w) (suc u) t (omega arith) faulty)

  dropped : is_faulty old.system (inputs_of lines) w t ≡ true → (m : ℕ) → AllByRecursion (λ u. not (is_over old.system (inputs_of lines) w u) ≡ false) (t ∷ take m then_more.0)
  dropped faulty m = (
    over faulty t (omega arith),
    all_take (λ u. not (is_over old.system (inputs_of lines) w u) ≡ false) then_more.0 m (all_by (λ u. (suc t ≤ u) × (u < old.bound)) (λ u. not (is_over old.system (inputs_of lines) w u) ≡ false) (λ u both. let late = both.0 in over faulty u (omega arith)) then_more.0 then_more.2),
  )

  pub fault_ends : (text : List ℕ) (i : ℕ) (kind : FaultKind) → old.ran < old.limit → IsNamed old.system (inputs_of lines) w t i kind → text ≡ flat_map (text_at old.system w) (instants old.system lines w old.next)
      → (text ≡ due_text old.system lines w old.bound old.limit) × EndsInFault old.system lines w old.bound old.limit t i kind
  fault_ends text i kind room named text_is =
      let faulty = some_from (λ j. is_some (root_at old.system (inputs_of lines) w t j)) old.system.running i named.running (ap is_some named.root) in
      let taken = taken_more room in
      let none = filter_none (λ u. not (is_over old.system (inputs_of lines) w u)) (t ∷ take taken.0 then_more.0) (dropped faulty taken.0) in
      let all = all_due old lines stands w before_next in (
        text_is
            ∙ ap (flat_map (text_at old.system w)) (sym (ap (filter (λ u. not (is_over old.system (inputs_of lines) w u))) taken.1
            ∙ filter-append (λ u. not (is_over old.system (inputs_of lines) w u)) (instants old.system lines w old.next) (t ∷ take taken.0 then_more.0) ∙ (λ k. all k ++ none k) ∙ append-nil (instants old.system lines w old.next))),
        record { named = named; within = subst (λ ts. Contains ts t) (sym taken.1) (middle (instants old.system lines w old.next) (take taken.0 then_more.0) t) },
      )

-- the time of a stop is below the bound
pub named_below : (old new : State) (lines : List Line) (text : List ℕ) (t i : ℕ) (kind : FaultKind) → IsReady old → HasWritten old lines text → HasFaulted old new lines t i kind
    → (w : Streams) → Solves old.system (inputs_of lines) old.bound w → (text ≡ due_text old.system lines w old.bound old.limit) × EndsInFault old.system lines w old.bound old.limit t i kind
named_below old new lines text t i kind ready written faulted w solves =
    let early = faulted.early in
    let both = faulted.each w (solves_less old.system (inputs_of lines) (suc t) old.bound w (omega arith) solves) in
    fault_ends old lines ready written.stands t w solves both.0 text i kind faulted.room both.1 (written.text_is w (solves_less old.system (inputs_of lines) old.next old.bound w ready.within solves))

pub limit_below : (old : State) (lines : List Line) (text : List ℕ) (count t : ℕ) → IsReady old → HasWritten old lines text → IsAtLimit old lines count t
    → (w : Streams) → Solves old.system (inputs_of lines) old.bound w → (text ≡ due_text old.system lines w old.bound old.limit) × EndsAtLimit old.system lines w old.bound old.limit t
limit_below old lines text count t ready written at_limit w solves =
    let early = at_limit.early in
    limit_ends old lines ready written.stands t w solves (at_limit.each w (solves_less old.system (inputs_of lines) (suc t) old.bound w (omega arith) solves)) text at_limit.full (written.text_is w (solves_less old.system (inputs_of lines) old.next old.bound w ready.within solves))
