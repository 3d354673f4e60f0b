-- A run ends alike, in a fault, at the limit of instants or at the bound.
use Rattle.std.proofs.Common.{◌≡◌, ◌⊎◌, ℕ, zero, suc, ◌<◌, ◌≤◌, Bool, true, false, List, [], ◌∷◌, ◌++◌, length, take, Some, refl, sym, ap, subst, ◌∙◌, inl, inr, append_assoc, length-append, arith}
use Rattle.std.specs.Prelude.{IsFalse, if◌then◌else◌, slice_get}
use Rattle.std.specs.List.{AllByRecursion, Contains}
use Rattle.std.proofs.Math.Seq.{take-append_seam}
use Rattle.std.proofs.lemmas.Bool.{cases_Bool, true≢false}
use Rattle.lift_func.specs.declared.fault.FaultKind.{FaultKind}
use Rattle.flat_core.specs.inner.BoundLaws.{HappensAtInstants}
use Rattle.flat_core.specs.Case.{Streams}
use Rattle.flat_core.specs.Ending.{EndsInFault, EndsAtLimit}
use Rattle.flat_core.specs.Fault.{is_faulty}
use Rattle.flat_core.specs.Instant.{is_instant, instants}
use Rattle.flat_core.specs.Line.{Line, inputs_of}
use Rattle.flat_core.specs.System.{System}
use Rattle.flat_core.proofs.Members.{all_append, all_at, contains_tail}
use Rattle.flat_core.proofs.Silence.{happens_at_instants}
use Rattle.flat_core.proofs.SmallerBound.{instants_first}
use Rattle.flat_core.proofs.Uniqueness.{all_by}
use Rattle.flat_core.proofs.WellFormedRank.{rank_of, well_formed_ranked}
use Rattle.flat_core.proofs.Instants.{instants_have, instants_below}
use Rattle.flat_simplify.specs.inner.Solved.{AreSolved, IsSoundBefore}
use Rattle.flat_simplify.specs.inner.Laws.{IsFit, KeepsFaults, KeepsEnds}
use Rattle.flat_simplify.proofs.Faults.{first_fault, sound_after, keeps_faults}
use Rattle.flat_simplify.proofs.Named.{fault_named, named_time}
use Rattle.flat_simplify.proofs.Streams.{fit}
use Rattle.tsl_value.proofs.Lists.{all_take, contains_at, get_seam}
use Rattle.flat_simplify.proofs.Text.{instant_same, instants_same}

-- ---- lists

-- what is not after stands among the first in front, and so whatever comes after
front_taken : (n : ℕ) (xs ys more : List ℕ) (t : ℕ) → AllByRecursion (λ y. t < y) ys → Contains (take n (xs ++ ys)) t → Contains (take n (xs ++ more)) t
front_taken zero xs ys more t late (k, lt, is) = absurd (omega arith)
front_taken (suc n) [] ys more t late among = let low = all_at (λ y. t < y) (take (suc n) ys) (all_take (λ y. t < y) (suc n) ys late) t among in absurd (omega arith)
front_taken (suc n) (x ∷ xs) ys more t late (zero, lt, is) = (0, omega arith, is)
front_taken (suc n) (x ∷ xs) ys more t late (suc k, lt, is) = contains_tail x (take n (xs ++ more)) t (front_taken n xs ys more t late (k, omega arith, is))

-- an element of two lists after each other is one of the first, or stands after it in the second
get_parts : (xs ys : List ℕ) (k x : ℕ) → slice_get (xs ++ ys) k ≡ Some x → (Contains xs x × (k < length xs)) ⊎ (Contains ys x × (length xs ≤ k))
get_parts [] ys k x is = inr (contains_at ys k x is, omega arith)
get_parts (y ∷ xs) ys zero x is = inl (contains_at (y ∷ xs) zero x is, omega arith)
get_parts (y ∷ xs) ys (suc k) x is = elim (get_parts xs ys k x is) [
  | inl both ↦ let lt = both.1 in inl (contains_tail y xs x both.0, omega arith)
  | inr both ↦ let le = both.1 in inr (both.0, omega arith)
]

front_all : (P : ℕ → Type 0) (n : ℕ) (xs ys : List ℕ) → length xs ≤ n → AllByRecursion P (take n (xs ++ ys)) → AllByRecursion P xs
front_all P n [] ys le all = tt
front_all P zero (x ∷ xs) ys le all = absurd (omega arith)
front_all P (suc n) (x ∷ xs) ys le all = (all.0, front_all P n xs ys (omega arith) all.1)

-- ---- one system
module _ (s : System) (lines : List Line) (z : Streams) where
  module _ (bound limit : ℕ) where
    -- t is an instant, no root fault comes before it, and as many instants as the limit
    record IsNext (t : ℕ) : Type 0 where
      early : t < bound
      sound : IsSoundBefore s (inputs_of lines) z t
      place : limit ≡ length (instants s lines z t)
      comes : is_instant s lines z t ≡ true

    split_at : (t : ℕ) → t < bound → is_instant s lines z t ≡ true → (rest : List ℕ) × (instants s lines z bound ≡ instants s lines z t ++ t ∷ rest) × AllByRecursion (λ n. t < n) rest
    split_at t lt is =
        let parts = instants_first s lines z (suc t) bound (omega arith) in (
          parts.0,
          parts.1 ∙ (λ k. (instants s lines z t ++ (if is k then t ∷ [] else [])) ++ parts.0) ∙ append_assoc (instants s lines z t) (t ∷ []) parts.0,
          all_by (λ n. (suc t ≤ n) × (n < bound)) (λ n. t < n) (λ n between. let low = between.0 in omega arith) parts.0 parts.2,
        )

    limit_from : (t : ℕ) → IsNext t → EndsAtLimit s lines z bound limit t
    limit_from t next =
        let parts = split_at t next.early next.comes in
        let first : take limit (instants s lines z bound) ≡ instants s lines z t = (λ k. take (next.place k) (parts.1 k)) ∙ take-append_seam (instants s lines z t) (t ∷ parts.0) in
        record {
          next = (λ k. slice_get (parts.1 k) (next.place k)) ∙ get_seam (instants s lines z t) t parts.0;
          sound = subst (AllByRecursion (λ n. IsFalse (is_faulty s (inputs_of lines) z n))) (sym first) (all_by (λ n. n < t) (λ n. IsFalse (is_faulty s (inputs_of lines) z n)) next.sound (instants s lines z t) (instants_below s lines z t));
        }

    one_is : (b : Bool) (n : ℕ) → is_instant s lines z n ≡ b → AllByRecursion (λ t. is_instant s lines z t ≡ true) (if b then n ∷ [] else [])
    one_is true n is = (is, tt)
    one_is false n is = tt

    each_is : (n : ℕ) → AllByRecursion (λ t. is_instant s lines z t ≡ true) (instants s lines z n)
    each_is zero = tt
    each_is (suc n) = all_append (λ t. is_instant s lines z t ≡ true) (instants s lines z n) (if is_instant s lines z n then n ∷ [] else []) (each_is n) (one_is (is_instant s lines z n) n refl)

    next_from : HappensAtInstants s lines bound z → (t : ℕ) → EndsAtLimit s lines z bound limit t → IsNext t
    next_from happens t ends =
        let among = contains_at (instants s lines z bound) limit t ends.next in
        let early = all_at (λ n. n < bound) (instants s lines z bound) (instants_below s lines z bound) t among in
        let comes = all_at (λ n. is_instant s lines z n ≡ true) (instants s lines z bound) (each_is bound) t among in
        let before : List ℕ = instants s lines z t in
        let parts = split_at t early comes in
        let at_least : length before ≤ limit = elim (get_parts before (t ∷ parts.0) limit t (ap (λ ts. slice_get ts limit) (sym parts.1) ∙ ends.next)) [
          | inl both ↦ let low = all_at (λ n. n < t) before (instants_below s lines z t) t both.0 in absurd (omega arith)
          | inr both ↦ both.1
        ] in
        let count = length-append before (t ∷ []) in
        let at_most : limit ≤ length before = elim (get_parts (before ++ t ∷ []) parts.0 limit t (ap (λ ts. slice_get ts limit) (append_assoc before (t ∷ []) parts.0 ∙ sym parts.1) ∙ ends.next)) [
          | inl both ↦ let lt = both.1 in omega arith
          | inr both ↦ let low = all_at (λ n. t < n) parts.0 parts.2 t both.0 in absurd (omega arith)
        ] in
        let sound = front_all (λ n. IsFalse (is_faulty s (inputs_of lines) z n)) limit before (t ∷ parts.0) at_least (subst (λ ts. AllByRecursion (λ n. IsFalse (is_faulty s (inputs_of lines) z n)) (take limit ts)) parts.1 ends.sound) in
        record {
          early = early;
          sound = λ n lt. elim (cases_Bool (is_instant s lines z n)) [
            | inl is ↦ all_at (λ n. IsFalse (is_faulty s (inputs_of lines) z n)) before sound n (instants_have s lines z t n lt is)
            | inr none ↦ happens.sound n (omega arith) none
          ];
          place = omega arith;
          comes = comes;
        }

-- ---- two systems with the same instants up to a time
within_same : (s u : System) (lines : List Line) (z w : Streams) (bound limit t : ℕ) → t < bound → instants s lines z (suc t) ≡ instants u lines w (suc t) → Contains (take limit (instants s lines z bound)) t → Contains (take limit (instants u lines w bound)) t
within_same s u lines z w bound limit t lt same among =
    let first = instants_first s lines z (suc t) bound (omega arith) in
    let second = instants_first u lines w (suc t) bound (omega arith) in
    let late = all_by (λ n. (suc t ≤ n) × (n < bound)) (λ n. t < n) (λ n between. let low = between.0 in omega arith) first.0 first.2 in
    let front = front_taken limit (instants s lines z (suc t)) first.0 second.0 t late (subst (λ ts. Contains (take limit ts) t) first.1 among) in
    subst (λ ts. Contains (take limit ts) t) (ap (λ ts. ts ++ second.0) same ∙ sym second.1) front

module _ (s u : System) (lines : List Line) (bound limit : ℕ) (z w : Streams) (both : AreSolved s u (inputs_of lines) bound z w) where
  abbrev faults : KeepsFaults s u (inputs_of lines) bound z w
  faults = keeps_faults s u (inputs_of lines) bound z w both

  fitting : IsFit s u
  fitting = fit s u (inputs_of lines) bound z w both

  same_to : (t : ℕ) → t < bound → IsSoundBefore s (inputs_of lines) z t → instants u lines w (suc t) ≡ instants s lines z (suc t)
  same_to t lt sound =
      let before = instants_same s u lines bound z w both t (omega arith) sound in
      let here = instant_same s u lines bound z w both t lt sound in
      λ k. before k ++ (if here k then t ∷ [] else [])

  below : (s : System) (z : Streams) (t : ℕ) → Contains (take limit (instants s lines z bound)) t → t < bound
  below s z t among = all_at (λ n. n < bound) (take limit (instants s lines z bound)) (all_take (λ n. n < bound) limit (instants s lines z bound) (instants_below s lines z bound)) t among

  fault_to : (t : ℕ) → (i : ℕ) × (kind : FaultKind) × EndsInFault s lines z bound limit t i kind → (j : ℕ) × (other : FaultKind) × EndsInFault u lines w bound limit t j other
  fault_to t ends =
      let lt = below s z t ends.2.within in
      let at = named_time s (inputs_of lines) z t ends.0 ends.1 ends.2.named in
      let named = fault_named u (inputs_of lines) w t ((faults.fault_time_same t lt).0 at) in
      (named.0, named.1, record { named = named.2; within = within_same s u lines z w bound limit t lt (sym (same_to t lt at.1)) ends.2.within })

  fault_from : (t : ℕ) → (j : ℕ) × (other : FaultKind) × EndsInFault u lines w bound limit t j other → (i : ℕ) × (kind : FaultKind) × EndsInFault s lines z bound limit t i kind
  fault_from t ends =
      let lt = below u w t ends.2.within in
      let at = (faults.fault_time_same t lt).1 (named_time u (inputs_of lines) w t ends.0 ends.1 ends.2.named) in
      let named = fault_named s (inputs_of lines) z t at in
      (named.0, named.1, record { named = named.2; within = within_same u s lines w z bound limit t lt (same_to t lt at.1) ends.2.within })

  limit_to : (t : ℕ) → EndsAtLimit s lines z bound limit t → EndsAtLimit u lines w bound limit t
  limit_to t ends =
      let next = next_from s lines z bound limit (happens_at_instants s lines z bound both.proper both.typed (rank_of s both.well_formed) (well_formed_ranked s both.well_formed) both.solves) t ends in
      let lt = next.early in
      limit_from u lines w bound limit t (record {
        early = lt;
        sound = sound_after s u (inputs_of lines) bound z w both t (omega arith) next.sound;
        place = next.place ∙ ap length (sym (instants_same s u lines bound z w both t (omega arith) next.sound));
        comes = instant_same s u lines bound z w both t lt next.sound ∙ next.comes;
      })

  limit_back : (t : ℕ) → EndsAtLimit u lines w bound limit t → EndsAtLimit s lines z bound limit t
  limit_back t ends =
      let next = next_from u lines w bound limit (happens_at_instants u lines w bound fitting.proper fitting.typed (rank_of u fitting.well_formed) (well_formed_ranked u fitting.well_formed) both.solves_simplified) t ends in
      let lt = next.early in
      let sound : IsSoundBefore s (inputs_of lines) z t = elim (first_fault s u (inputs_of lines) bound z w both t) [
        | inl sound ↦ sound
        | inr found ↦
            let less = found.1 in
            absurd (true≢false (sym ((faults.fault_time_same found.0 (omega arith)).0 found.2).0 ∙ next.sound found.0 less))
      ] in
      limit_from s lines z bound limit t (record {
        early = lt;
        sound = sound;
        place = next.place ∙ ap length (instants_same s u lines bound z w both t (omega arith) sound);
        comes = sym (instant_same s u lines bound z w both t lt sound) ∙ next.comes;
      })

  pub keeps_ends : KeepsEnds s u lines bound limit z w
  keeps_ends = record {
    fault_same = λ t. (fault_to t, fault_from t);
    limit_same = λ t. (limit_to t, limit_back t);
    bound_same = (
      (λ neither. record {
        no_fault = λ t j other ends. let before = fault_from t (j, other, ends) in neither.no_fault t before.0 before.1 before.2;
        no_limit = λ t ends. neither.no_limit t (limit_back t ends);
      }),
      (λ neither. record {
        no_fault = λ t i kind ends. let after = fault_to t (i, kind, ends) in neither.no_fault t after.0 after.1 after.2;
        no_limit = λ t ends. neither.no_limit t (limit_to t ends);
      }),
    );
  }
