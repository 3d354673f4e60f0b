-- Equal root faults and instants have all else equal that happens below a bound.
use Rattle.std.proofs.Common.{◌≡◌, ◌==◌, ℕ, zero, suc, ◌<◌, ◌≤◌, Bool, not, ◌||◌, ◌↔◌, List, [], ◌∷◌, ◌++◌, Option, Some, None, refl, sym, ap, subst, ◌∙◌, inl, inr, arith}
use Rattle.std.specs.Prelude.{IsTrue, if◌then◌else◌, is_some}
use Rattle.std.specs.List.{list_any}
use Rattle.std.proofs.lemmas.Bool.{cases_order, eq-eqb, or_left, or_right, true≢false}
use Rattle.std.proofs.lemmas.Option.{same_Some}
use Rattle.lift_func.specs.declared.fault.FaultKind.{FaultKind}
use Rattle.flat_core.specs.Case.{Streams}
use Rattle.flat_core.specs.Events.{Inputs}
use Rattle.flat_core.specs.Line.{Line, inputs_of}
use Rattle.flat_core.specs.Members.{is_in}
use Rattle.flat_core.specs.System.{System, runs}
use Rattle.flat_core.specs.Fault.{root_at, is_faulty, IsNamed}
use Rattle.flat_core.specs.Instant.{is_instant, instants}
use Rattle.flat_core.specs.inner.BoundLaws.{HappensAlike}
use Rattle.flat_core.proofs.Locality.{some_before-same}
use Rattle.flat_core.proofs.Members.{some_from}

-- tests that agree on the elements of a list
pub any_same : (p q : ℕ → Bool) (xs : List ℕ) → ((i : ℕ) → IsTrue (is_in xs i) → p i ≡ q i) → list_any p xs ≡ list_any q xs
any_same p q [] same = refl
any_same p q (x ∷ xs) same =
    let here = same x (or_left (x == x) (is_in xs x) (eq-eqb x x refl)) in
    let rest = any_same p q xs (λ i h. same i (or_right (x == i) (is_in xs i) h)) in
    λ k. here k || rest k

module _ (s : System) (bound : ℕ) (ls : List Line) (z : Streams) (ms : List Line) (w : Streams) (root_same : (t i : ℕ) → t < bound → IsTrue (runs s i) → root_at s (inputs_of ls) z t i ≡ root_at s (inputs_of ms) w t i) (instant_same : (t : ℕ) → t < bound → is_instant s ls z t ≡ is_instant s ms w t) where
  faulty_same : (t : ℕ) → t < bound → is_faulty s (inputs_of ls) z t ≡ is_faulty s (inputs_of ms) w t
  faulty_same t lt = any_same _ _ s.running (λ i run. ap is_some (root_same t i lt run))

  instants_same : (n : ℕ) → n ≤ bound → instants s ls z n ≡ instants s ms w n
  instants_same zero le = refl
  instants_same (suc n) le =
      let rest = instants_same n (omega arith) in
      let here = instant_same n (omega arith) in
      λ k. rest k ++ (if here k then n ∷ [] else [])

  pub alike_from : HappensAlike s bound ls z ms w
  alike_from = record {
    instants_same = instants_same;
    root_same = root_same;
    faulty_same = faulty_same;
    over_same = λ t lt. some_before-same _ _ (suc t) (λ u le. faulty_same u (omega arith));
    named_same = λ t i kind lt. (
      (λ n. record {
        running = n.running;
        root = sym (root_same t i lt n.running) ∙ n.root;
        least = λ j run low. sym (root_same t j lt run) ∙ n.least j run low;
        first = λ u low. ap not (sym (faulty_same u (omega arith))) ∙ n.first u low;
      }),
      (λ n. record {
        running = n.running;
        root = root_same t i lt n.running ∙ n.root;
        least = λ j run low. root_same t j lt run ∙ n.least j run low;
        first = λ u low. ap not (faulty_same u (omega arith)) ∙ n.first u low;
      }),
    );
  }

-- a fault that is named makes its time faulty
pub named_faulty : (s : System) (inputs : Inputs) (z : Streams) (t i : ℕ) (kind : FaultKind) → IsNamed s inputs z t i kind → is_faulty s inputs z t ≡ Rattle.std.proofs.Common.true
named_faulty s inputs z t i kind n = some_from (λ j. is_some (root_at s inputs z t j)) s.running i n.running (ap is_some n.root)

pub one_named : (s : System) (inputs : Inputs) (z : Streams) (t u i j : ℕ) (kind other : FaultKind) → IsNamed s inputs z t i kind → IsNamed s inputs z u j other → (t ≡ u) × (i ≡ j) × (kind ≡ other)
one_named s inputs z t u i j kind other n m =
    let not_before : (v w : ℕ) (k l : ℕ) (a b : FaultKind) → v < w → IsNamed s inputs z v k a → IsNamed s inputs z w l b → ⊥ = λ v w k l a b lt early late. true≢false (sym (late.first v lt) ∙ ap not (named_faulty s inputs z v k a early)) in
    let time : t ≡ u = elim (cases_order t u) [
      | inl same ↦ same
      | inr differ ↦ elim differ [ inl lt ↦ absurd (not_before t u i j kind other lt n m) | inr gt ↦ absurd (not_before u t j i other kind gt m n) ]
    ] in
    let root_m : root_at s inputs z t j ≡ Some other = ap (λ v. root_at s inputs z v j) time ∙ m.root in
    let least_m : (k : ℕ) → IsTrue (runs s k) → k < j → root_at s inputs z t k ≡ None = λ k run lt. ap (λ v. root_at s inputs z v k) time ∙ m.least k run lt in
    let number : i ≡ j = elim (cases_order i j) [
      | inl same ↦ same
      | inr differ ↦ elim differ [ inl lt ↦ absurd (some_none (sym n.root ∙ least_m i n.running lt)) | inr gt ↦ absurd (some_none (sym root_m ∙ n.least j m.running gt)) ]
    ] in
    (time, number, same_Some kind other (sym n.root ∙ ap (root_at s inputs z t) number ∙ root_m))
  where
    some_none : {k : FaultKind} → ◌≡◌ {A = Option FaultKind} (Some k) None → ⊥
    some_none h = cc
