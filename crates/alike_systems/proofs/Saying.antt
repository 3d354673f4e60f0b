-- Systems that are alike have the same solutions, and say the same by them.
use Rattle.std.proofs.Common.{◌≡◌, ◌==◌, ℕ, zero, suc, Bool, not, ◌&&◌, ◌||◌, List, [], ◌∷◌, ◌++◌, take, refl, sym, ap, subst, ◌∙◌, arith}
use Rattle.std.specs.Prelude.{IsTrue, IsFalse, if◌then◌else◌, is_some, slice_get}
use Rattle.std.specs.List.{AllByRecursion, Contains, filter, flat_map, list_any}
use Rattle.std.specs.Option.{option_and_then}
use Rattle.lift_func.specs.declared.fault.FaultKind.{FaultKind}
use Rattle.flat_core.specs.Case.{Streams, root_fault}
use Rattle.flat_core.specs.Ending.{EndsInFault, EndsAtLimit, EndsAtBound}
use Rattle.flat_core.specs.Events.{Inputs}
use Rattle.flat_core.specs.Fault.{root_at, is_faulty, is_over, IsNamed}
use Rattle.flat_core.specs.Instant.{is_delay, is_instant, instants}
use Rattle.flat_core.specs.Line.{Line, inputs_of, is_line_on}
use Rattle.flat_core.specs.Members.{is_in}
use Rattle.flat_core.specs.Solution.{Solves}
use Rattle.flat_core.specs.Stream.{event, has_event, some_before}
use Rattle.flat_core.specs.System.{System, runs, equation}
use Rattle.flat_core.specs.Text.{event_line, text_at, due_text}
use Rattle.flat_core.proofs.Alike.{any_same}
use Rattle.flat_core.proofs.Uniqueness.{agree_before}
use Rattle.flat_core.proofs.WellFormedRank.{rank_of, well_formed_ranked}
use Rattle.alike_systems.specs.Alike.{AreAlike}
use Rattle.alike_systems.specs.Laws.{AlikeEitherWay, AlikeThroughOther, AlikeSolveAlike, AlikeSayTheSame, AlikeHaveOneSolution}

-- what runs in one runs in the other
pub ran_too : (s u : System) → AreAlike s u → (i : ℕ) → IsTrue (runs s i) → IsTrue (runs u i)
ran_too s u alike i run = subst (λ running. IsTrue (is_in running i)) alike.running_are run

pub alike_either_way : AlikeEitherWay
alike_either_way s u alike = record {
  count = sym alike.count;
  outputs_are = sym alike.outputs_are;
  running_are = sym alike.running_are;
  ran_are = λ i run. sym (alike.ran_are i (subst (λ running. IsTrue (is_in running i)) (sym alike.running_are) run));
  inputs_are = λ i e. ((alike.inputs_are i e).1, (alike.inputs_are i e).0);
}

pub alike_through_other : AlikeThroughOther
alike_through_other s u v first second = record {
  count = first.count ∙ second.count;
  outputs_are = first.outputs_are ∙ second.outputs_are;
  running_are = first.running_are ∙ second.running_are;
  ran_are = λ i run. first.ran_are i run ∙ second.ran_are i (ran_too s u first i run);
  inputs_are = λ i e. (λ is. (second.inputs_are i e).0 ((first.inputs_are i e).0 is), λ is. (first.inputs_are i e).1 ((second.inputs_are i e).1 is));
}

pub solves_too : (s u : System) (inputs : Inputs) (bound : ℕ) (z : Streams) → AreAlike s u → Solves s inputs bound z → Solves u inputs bound z
solves_too s u inputs bound z alike solves = record {
  each = λ i e run is t lt. let ran = ran_too u s (alike_either_way s u alike) i run in solves.each i e ran (alike.ran_are i ran ∙ is) t lt;
}

pub alike_solve_alike : AlikeSolveAlike
alike_solve_alike s u inputs bound z alike = (solves_too s u inputs bound z alike, solves_too u s inputs bound z (alike_either_way s u alike))

module _ (s u : System) (lines : List Line) (z : Streams) (alike : AreAlike s u) where
  root_same : (t i : ℕ) → IsTrue (runs s i) → root_at s (inputs_of lines) z t i ≡ root_at u (inputs_of lines) z t i
  root_same t i run = ap (option_and_then (λ e. root_fault (inputs_of lines) z i e t)) (alike.ran_are i run)

  faulty_same : (t : ℕ) → is_faulty s (inputs_of lines) z t ≡ is_faulty u (inputs_of lines) z t
  faulty_same t =
      any_same (λ i. is_some (root_at s (inputs_of lines) z t i)) (λ i. is_some (root_at u (inputs_of lines) z t i)) s.running (λ i run. ap is_some (root_same t i run))
      ∙ ap (list_any (λ i. is_some (root_at u (inputs_of lines) z t i))) alike.running_are

  over_same : (t : ℕ) → is_over s (inputs_of lines) z t ≡ is_over u (inputs_of lines) z t
  over_same t = λ k. some_before (suc t) (λ v. faulty_same v k)

  instant_same : (t : ℕ) → is_instant s lines z t ≡ is_instant u lines z t
  instant_same t =
      let delays = any_same (λ i. is_delay (equation s i) && has_event (z i t)) (λ i. is_delay (equation u i) && has_event (z i t)) s.running (λ i run. ap (λ e. is_delay e && has_event (z i t)) (alike.ran_are i run)) in
      let all = delays ∙ ap (list_any (λ i. is_delay (equation u i) && has_event (z i t))) alike.running_are in
      λ k. (t == 0) || is_line_on t lines || all k

  instants_same : (n : ℕ) → instants s lines z n ≡ instants u lines z n
  instants_same zero = refl
  instants_same (suc n) =
      let rest = instants_same n in
      let here = instant_same n in
      λ k. rest k ++ (if here k then n ∷ [] else [])

  text_at_same : (t : ℕ) → text_at s z t ≡ text_at u z t
  text_at_same t = λ k. flat_map (λ o. event_line t o.name (event (z o.equation t))) (alike.outputs_are k)

  text_same : (bound limit : ℕ) → due_text s lines z bound limit ≡ due_text u lines z bound limit
  text_same bound limit = λ k. flat_map (λ t. text_at_same t k) (filter (λ t. not (over_same t k)) (take limit (instants_same bound k)))

  named_too : (t i : ℕ) (kind : FaultKind) → IsNamed s (inputs_of lines) z t i kind → IsNamed u (inputs_of lines) z t i kind
  named_too t i kind named = record {
    running = ran_too s u alike i named.running;
    root = sym (root_same t i named.running) ∙ named.root;
    least = λ j run low. let ran = ran_too u s (alike_either_way s u alike) j run in sym (root_same t j ran) ∙ named.least j ran low;
    first = λ v low. subst (λ b. IsTrue (not b)) (faulty_same v) (named.first v low);
  }

  module _ (bound limit : ℕ) where
    fault_too : (t i : ℕ) (kind : FaultKind) → EndsInFault s lines z bound limit t i kind → EndsInFault u lines z bound limit t i kind
    fault_too t i kind ends = record {
      named = named_too t i kind ends.named;
      within = subst (λ l. Contains (take limit l) t) (instants_same bound) ends.within;
    }

    limit_too : (t : ℕ) → EndsAtLimit s lines z bound limit t → EndsAtLimit u lines z bound limit t
    limit_too t ends = record {
      next = ap (λ l. slice_get l limit) (sym (instants_same bound)) ∙ ends.next;
      sound = subst (λ l. AllByRecursion (λ v. IsFalse (is_faulty u (inputs_of lines) z v)) (take limit l)) (instants_same bound)
          (subst (λ (f : ℕ → Bool). AllByRecursion (λ v. IsFalse (f v)) (take limit (instants s lines z bound))) (λ k v. faulty_same v k) ends.sound);
    }

module _ (s u : System) (lines : List Line) (z : Streams) (bound limit : ℕ) (alike : AreAlike s u) where
  bound_too : EndsAtBound s lines z bound limit → EndsAtBound u lines z bound limit
  bound_too ends = record {
    no_fault = λ t i kind fault. ends.no_fault t i kind (fault_too u s lines z (alike_either_way s u alike) bound limit t i kind fault);
    no_limit = λ t at. ends.no_limit t (limit_too u s lines z (alike_either_way s u alike) bound limit t at);
  }

pub alike_say_the_same : AlikeSayTheSame
alike_say_the_same s u lines z bound limit alike =
    let back = alike_either_way s u alike in
    record {
      instants_same = instants_same s u lines z alike bound;
      root_same = root_same s u lines z alike;
      named_same = λ t i kind. (named_too s u lines z alike t i kind, named_too u s lines z back t i kind);
      text_same = text_same s u lines z alike bound limit;
      fault_same = λ t i kind. (fault_too s u lines z alike bound limit t i kind, fault_too u s lines z back bound limit t i kind);
      limit_same = λ t. (limit_too s u lines z alike bound limit t, limit_too u s lines z back bound limit t);
      bound_same = (bound_too s u lines z bound limit alike, bound_too u s lines z bound limit back);
    }

pub alike_have_one_solution : AlikeHaveOneSolution
alike_have_one_solution s u inputs bound z w proper good alike zs ws i run t lt =
    let both = solves_too u s inputs bound w (alike_either_way s u alike) ws in
    agree_before s inputs (rank_of s good) proper (well_formed_ranked s good) bound z w zs both bound (omega arith) i run t lt
