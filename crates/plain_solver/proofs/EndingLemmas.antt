-- A run ends where its solution says so, and the instants that it ran are the due ones.
use Rattle.std.proofs.Common.{◌≡◌, ℕ, suc, ◌+◌, ◌-◌, ◌<◌, ◌≤◌, Bool, true, false, not, List, [], ◌∷◌, ◌++◌, length, take, Some, refl, sym, ap, subst, ◌∙◌, arith, append_assoc}
use Rattle.std.proofs.lemmas.List.{append-nil, take_all}
use Rattle.std.proofs.lemmas.List.Elements.{filter-append, Contains-append_right}
use Rattle.std.proofs.lemmas.Option.{slice_get_within}
use Rattle.std.proofs.Math.Bool.{true≢false}
use Rattle.std.proofs.Math.Seq.{take-append_seam, take-append-add}
use Rattle.std.specs.Prelude.{if◌then◌else◌, slice_get, IsTrue}
use Rattle.std.specs.List.{AllByRecursion, Contains, filter}
use Rattle.lift_func.specs.declared.fault.FaultKind.{FaultKind}
use Rattle.flat_core.specs.Case.{Streams}
use Rattle.flat_core.specs.Events.{Inputs}
use Rattle.flat_core.specs.Complete.{IsFlat}
use Rattle.flat_core.specs.inner.Dependency.{IsRunOrder}
use Rattle.flat_core.specs.Fault.{is_faulty, is_over, IsNamed}
use Rattle.flat_core.specs.Instant.{is_instant, instants}
use Rattle.flat_core.specs.Line.{Line, inputs_of}
use Rattle.flat_core.specs.Solution.{Solves}
use Rattle.flat_core.specs.System.{System, runs}
use Rattle.flat_core.proofs.Members.{all_at, contains_head}
use Rattle.flat_core.proofs.PendingLemmas.{some_before_from, none_before_from}
use Rattle.flat_core.proofs.Uniqueness.{all_by}
use Rattle.plain_solver.specs.declared.events.Moment.{Moment}
use Rattle.plain_solver.specs.declared.solve.End.{End}
use Rattle.plain_solver.specs.declared.solve.End.TheVariants as end
use Rattle.flat_core.specs.Ending.{EndsInFault, EndsAtLimit, EndsAtBound}
use Rattle.plain_solver.specs.inner.Ending.{EndsSo, IsEnding}
use Rattle.plain_solver.specs.inner.Streams.{streams_of}
use Rattle.plain_solver.specs.inner.Solved.{IsSolved, IsWhole, IsFaulted, IsLimited, IsEnded}
use Rattle.flat_core.specs.Text.{due_instants}
use Rattle.flat_core.proofs.Shapes.{running_args}
use Rattle.plain_solver.proofs.Agreement.{agree}
use Rattle.flat_core.proofs.Alike.{named_faulty, one_named}
use Rattle.flat_core.proofs.SameMeaning.{happens_alike}
use Rattle.flat_core.proofs.SmallerBound.{solves_less, instants_first}
use Rattle.flat_core.proofs.Instants.{instants_below}
use Rattle.plain_solver.proofs.ArrivalLemmas.{comes}
use Rattle.tsl_value.proofs.Lists.{get_seam, filter_all, filter_none, all_take}

-- the instants of one solution
module _ (s : System) (lines : List Line) (w : Streams) where
  -- where one comes at a time
  split_at : (t n : ℕ) → t < n → is_instant s lines w t ≡ true → (rest : List ℕ) × (instants s lines w n ≡ instants s lines w t ++ t ∷ rest) × AllByRecursion (λ u. t ≤ u) (t ∷ rest)
  split_at t n lt is =
      let parts = instants_first s lines w (suc t) n (omega arith) in (
        parts.0,
        parts.1 ∙ (λ k. (instants s lines w t ++ (if is k then t ∷ [] else [])) ++ parts.0) ∙ append_assoc (instants s lines w t) (t ∷ []) parts.0,
        (omega arith, all_by (λ u. (suc t ≤ u) × (u < n)) (λ u. t ≤ u) (λ u both. let low = both.0 in omega arith) parts.0 parts.2),
      )

module _ (s : System) (lines : List Line) (order : List ℕ) (ordered : IsRunOrder s order) (whole : IsFlat s) (bound limit : ℕ) (all : List (List Moment)) (ran : List ℕ) (w : Streams) (ws : Solves s (inputs_of lines) bound w) where
  abbrev z : Streams
  z = streams_of all

  abbrev inputs : Inputs
  inputs = inputs_of lines

  -- the instants before n ran, and none of them has a root fault
  pub record RunsTo (n : ℕ) : Type 0 where
    pub early : n ≤ bound
    pub same : (i : ℕ) → IsTrue (runs s i) → (t : ℕ) → t < n → z i t ≡ w i t
    pub ran_is : ran ≡ instants s lines w n
    pub sound : (u : ℕ) → u < n → is_faulty s inputs w u ≡ false

  -- the streams agree with the solution
  agreed : (n : ℕ) → n ≤ bound → IsSolved s inputs n all → (i : ℕ) → IsTrue (runs s i) → (t : ℕ) → t < n → z i t ≡ w i t
  agreed n le solved = agree s inputs order ordered whole.proper n z w solved.solves (solves_less s inputs n bound w le ws)

  runs_to : (n : ℕ) → n ≤ bound → IsSolved s inputs n all → ran ≡ instants s lines z n → ((u : ℕ) → u < n → is_faulty s inputs z u ≡ false) → RunsTo n
  runs_to n le solved is sound =
      let same = agreed n le solved in
      record {
        early = le;
        same = same;
        ran_is = is ∙ (happens_alike s n z w whole.proper same lines).instants_same n (omega arith);
        sound = λ u lt. sym ((happens_alike s n z w whole.proper same lines).faulty_same u lt) ∙ sound u lt;
      }

  -- what the first instants are
  pub record AreFirst (n : ℕ) (rest : List ℕ) : Type 0 where
    pub runs_to : RunsTo n
    pub first : take limit (instants s lines w bound) ≡ ran ++ rest
    pub over : AllByRecursion (λ u. is_over s inputs w u ≡ true) rest

  pub all_ran : (P : ℕ → Type 0) (n : ℕ) → RunsTo n → ((u : ℕ) → u < n → P u) → AllByRecursion P ran
  all_ran P n r each = subst (AllByRecursion P) (sym r.ran_is) (all_by (λ u. u < n) P each (instants s lines w n) (instants_below s lines w n))

  -- the due instants are those that ran
  pub due_are : (n : ℕ) (rest : List ℕ) → AreFirst n rest → due_instants s lines w bound limit ≡ ran
  due_are n rest a =
      let due : ℕ → Bool = λ t. not (is_over s inputs w t) in
      let early = all_ran (λ u. due u ≡ true) n a.runs_to (λ u lt. ap not (none_before_from (is_faulty s inputs w) (suc u) (λ v low. a.runs_to.sound v (omega arith)))) in
      ap (filter due) a.first ∙ filter-append due ran rest
      ∙ (λ k. filter_all due ran early k ++ filter_none due rest (all_by (λ u. is_over s inputs w u ≡ true) (λ u. due u ≡ false) (λ u is. ap not is) rest a.over) k)
      ∙ append-nil ran

  whole_first : IsWhole s lines bound limit all ran → AreFirst bound []
  whole_first e =
      let r = runs_to bound (omega arith) e.solved e.ran_is e.sound in
      record {
        runs_to = r;
        first = take_all limit (instants s lines w bound) (subst (λ l. length l ≤ limit) r.ran_is e.within) ∙ sym r.ran_is ∙ sym (append-nil ran);
        over = tt;
      }

  limited_to : (t : ℕ) → IsLimited s lines bound limit all ran t → RunsTo t
  limited_to t e = let lt = e.early in runs_to t (omega arith) e.solved e.ran_is e.sound

  limited_split : (t : ℕ) → IsLimited s lines bound limit all ran t → (rest : List ℕ) × (instants s lines w bound ≡ ran ++ t ∷ rest)
  limited_split t e =
      let r = limited_to t e in
      let lt = e.early in
      let come = comes s lines whole z w t
      (λ i f run is. (λ u low. r.same i run u low, all_by (λ a. IsTrue (runs s a)) (λ a. (u : ℕ) → u < t → z a u ≡ w a u) (λ a runs_a u low. r.same a runs_a u low) f.args (running_args s whole.proper i f run is)))
      (λ i f run is. ws.each i f run is t lt) e.due in
      let parts = split_at s lines w t bound lt come in
      (parts.0, parts.1 ∙ (λ k. sym r.ran_is k ++ t ∷ parts.0))

  limited_first : (t : ℕ) → IsLimited s lines bound limit all ran t → AreFirst t []
  limited_first t e =
      let parts = limited_split t e in
      record {
        runs_to = limited_to t e;
        first = (λ k. take (sym e.full k) (parts.1 k)) ∙ take-append_seam ran (t ∷ parts.0) ∙ sym (append-nil ran);
        over = tt;
      }

  faulted_to : (t i : ℕ) (kind : FaultKind) → IsFaulted s lines bound limit all ran t i kind → RunsTo t
  faulted_to t i kind e =
      let lt = e.early in
      let same = agreed (t + 1) (omega arith) e.solved in
      record {
        early = omega arith;
        same = λ j run u low. same j run u (omega arith);
        ran_is = e.ran_is ∙ (happens_alike s (t + 1) z w whole.proper same lines).instants_same t (omega arith);
        sound = λ u low. sym ((happens_alike s (t + 1) z w whole.proper same lines).faulty_same u (omega arith)) ∙ not_true (is_faulty s inputs z u) (e.named.first u low);
      }
    where
      not_true : (b : Bool) → IsTrue (not b) → b ≡ false
      not_true true h = absurd (true≢false (sym h))
      not_true false h = refl

  faulted_named : (t i : ℕ) (kind : FaultKind) → IsFaulted s lines bound limit all ran t i kind → IsNamed s inputs w t i kind
  faulted_named t i kind e =
      let lt = e.early in
      let same = agreed (t + 1) (omega arith) e.solved in
      ((happens_alike s (t + 1) z w whole.proper same lines).named_same t i kind (omega arith)).0 e.named

  -- the fault's instant stands first among the others
  faulted_first : (t i : ℕ) (kind : FaultKind) → IsFaulted s lines bound limit all ran t i kind → (rest : List ℕ) × AreFirst t (t ∷ rest)
  faulted_first t i kind e =
      let lt = e.early in
      let same = agreed (t + 1) (omega arith) e.solved in
      let parts = instants_first s lines w (suc t) bound (omega arith) in
      let alike = (happens_alike s (t + 1) z w whole.proper same lines).instants_same (suc t) (omega arith) in
      let is : instants s lines w bound ≡ ran ++ t ∷ parts.0 = parts.1 ∙ (λ k. sym alike k ++ parts.0) ∙ (λ k. (sym e.ran_is k ++ (if e.comes k then t ∷ [] else [])) ++ parts.0) ∙ append_assoc ran (t ∷ []) parts.0 in
      let room = e.within in
      let more : limit ≡ length ran + suc (limit - length ran - 1) = omega arith in
      let faulty = named_faulty s inputs w t i kind (faulted_named t i kind e) in
      let late = all_by (λ u. (suc t ≤ u) × (u < bound)) (λ u. t ≤ u) (λ u both. let low = both.0 in omega arith) parts.0 parts.2 in (
        take (limit - length ran - 1) parts.0,
        record {
          runs_to = faulted_to t i kind e;
          first = (λ k. take (more k) (is k)) ∙ take-append-add ran (t ∷ parts.0) (suc (limit - length ran - 1));
          over =
              all_by (λ u. t ≤ u) (λ u. is_over s inputs w u ≡ true) (λ u low. some_before_from (is_faulty s inputs w) (suc u) t (omega arith) faulty)
              (t ∷ take (limit - length ran - 1) parts.0) (omega arith, all_take (λ u. t ≤ u) (limit - length ran - 1) parts.0 late);
        },
      )

  -- there is no fault among the first instants
  none_faults : (n : ℕ) → AreFirst n [] → (t i : ℕ) (kind : FaultKind) → EndsInFault s lines w bound limit t i kind → ⊥
  none_faults n a t i kind f =
      let sound = all_ran (λ u. is_faulty s inputs w u ≡ false) n a.runs_to a.runs_to.sound in
      let among : Contains ran t = subst (λ l. Contains l t) (a.first ∙ append-nil ran) f.within in
      true≢false (sym (named_faulty s inputs w t i kind f.named) ∙ all_at (λ u. is_faulty s inputs w u ≡ false) ran sound t among)

  fault_given : (ends : End) → IsEnded s lines bound limit all ran ends → (t i : ℕ) (kind : FaultKind) → ends ≡ end.Fault t i kind → EndsInFault s lines w bound limit t i kind
  fault_given ends ended t i kind is =
      let e : IsFaulted s lines bound limit all ran t i kind = subst (IsEnded s lines bound limit all ran) is ended in
      let found = faulted_first t i kind e in
      record {
        named = faulted_named t i kind e;
        within = subst (λ l. Contains l t) (sym found.1.first) (Contains-append_right ran (t ∷ found.0) t (contains_head t found.0));
      }

  fault_found : (ends : End) → IsEnded s lines bound limit all ran ends → (t i : ℕ) (kind : FaultKind) → EndsInFault s lines w bound limit t i kind → ends ≡ end.Fault t i kind
  fault_found end.Bound e t i kind f = absurd (none_faults bound (whole_first e) t i kind f)
  fault_found (end.Fault t' i' kind') e t i kind f = let once = one_named s inputs w t' t i' i kind' kind (faulted_named t' i' kind' e) f.named in λ k. end.Fault (once.0 k) (once.1 k) (once.2 k)
  fault_found (end.Limit t') e t i kind f = absurd (none_faults t' (limited_first t' e) t i kind f)

  limit_next : (t : ℕ) → IsLimited s lines bound limit all ran t → slice_get (instants s lines w bound) limit ≡ Some t
  limit_next t e = let parts = limited_split t e in (λ k. slice_get (parts.1 k) (sym e.full k)) ∙ get_seam ran t parts.0

  limit_given : (ends : End) → IsEnded s lines bound limit all ran ends → (t : ℕ) → ends ≡ end.Limit t → EndsAtLimit s lines w bound limit t
  limit_given ends ended t is =
      let e : IsLimited s lines bound limit all ran t = subst (IsEnded s lines bound limit all ran) is ended in
      let a = limited_first t e in
      record {
        next = limit_next t e;
        sound = subst (AllByRecursion (λ u. is_faulty s inputs w u ≡ false)) (sym (a.first ∙ append-nil ran)) (all_ran (λ u. is_faulty s inputs w u ≡ false) t a.runs_to a.runs_to.sound);
      }

  limit_found : (ends : End) → IsEnded s lines bound limit all ran ends → (t : ℕ) → EndsAtLimit s lines w bound limit t → ends ≡ end.Limit t
  limit_found end.Bound e t l =
      let a = whole_first e in
      let there = slice_get_within (instants s lines w bound) limit t l.next in
      let few : length (instants s lines w bound) ≤ limit = subst (λ xs. length xs ≤ limit) a.runs_to.ran_is e.within in
      absurd (omega arith)
  limit_found (end.Fault t' i' kind') e t l =
      let found = faulted_first t' i' kind' e in
      let named = faulted_named t' i' kind' e in
      let among = subst (λ xs. Contains xs t') (sym found.1.first) (Contains-append_right ran (t' ∷ found.0) t' (contains_head t' found.0)) in
      absurd (true≢false (sym (named_faulty s inputs w t' i' kind' named) ∙ all_at (λ u. is_faulty s inputs w u ≡ false) (take limit (instants s lines w bound)) l.sound t' among))
  limit_found (end.Limit t') e t l =
      let same : Some t' ≡ Some t = sym (limit_next t' e) ∙ l.next in
      let times : t' ≡ t = cc in
      ap end.Limit times

  -- the run ends where its solution says so
  pub is_ending : (ends : End) → IsEnded s lines bound limit all ran ends → IsEnding s lines w bound limit ends
  is_ending ends ended = record {
    in_fault = λ t i kind. (fault_given ends ended t i kind, fault_found ends ended t i kind);
    at_limit = λ t. (limit_given ends ended t, limit_found ends ended t);
    at_bound = (
      (λ is. record { no_fault = λ t i kind f. not_both (sym is ∙ fault_found ends ended t i kind f); no_limit = λ t l. not_limit (sym is ∙ limit_found ends ended t l) }),
      (λ none. neither ends ended none),
    );
  }
    where
      not_both : {t i : ℕ} {kind : FaultKind} → end.Bound ≡ end.Fault t i kind → ⊥
      not_both e = cc

      not_limit : {t : ℕ} → end.Bound ≡ end.Limit t → ⊥
      not_limit e = cc

      neither : (e : End) → IsEnded s lines bound limit all ran e → EndsAtBound s lines w bound limit → e ≡ end.Bound
      neither end.Bound was none = refl
      neither (end.Fault t i kind) was none = absurd (none.no_fault t i kind (fault_given (end.Fault t i kind) was t i kind refl))
      neither (end.Limit t) was none = absurd (none.no_limit t (limit_given (end.Limit t) was t refl))

  pub due_ran : (ends : End) → IsEnded s lines bound limit all ran ends → due_instants s lines w bound limit ≡ ran
  due_ran end.Bound e = due_are bound [] (whole_first e)
  due_ran (end.Fault t i kind) e = let found = faulted_first t i kind e in due_are t (t ∷ found.0) found.1
  due_ran (end.Limit t) e = due_are t [] (limited_first t e)

  pub ran_to : (ends : End) → IsEnded s lines bound limit all ran ends → (n : ℕ) × RunsTo n
  ran_to end.Bound e = (bound, (whole_first e).runs_to)
  ran_to (end.Fault t i kind) e = (t, faulted_to t i kind e)
  ran_to (end.Limit t) e = (t, limited_to t e)

-- a run that ended is solved up to some time
pub solved_to : (s : System) (lines : List Line) (bound limit : ℕ) (all : List (List Moment)) (ran : List ℕ) (ends : End) → IsEnded s lines bound limit all ran ends → (n : ℕ) × IsSolved s (inputs_of lines) n all
solved_to s lines bound limit all ran end.Bound e = (bound, e.solved)
solved_to s lines bound limit all ran (end.Fault t i kind) e = (t + 1, e.solved)
solved_to s lines bound limit all ran (end.Limit t) e = (t, e.solved)

pub ends_so : (s : System) (lines : List Line) (bound limit : ℕ) (all : List (List Moment)) (ran : List ℕ) (ends : End) → IsEnded s lines bound limit all ran ends → EndsSo s lines bound limit ends
ends_so s lines bound limit all ran ends ended w ws =
    let solved = (solved_to s lines bound limit all ran ends ended).1 in
    is_ending s lines solved.order solved.ordered solved.whole bound limit all ran w ws ends ended
