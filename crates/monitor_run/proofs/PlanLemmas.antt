-- Orders of plans, and what comes next in them.
use Rattle.std.proofs.Common.{◌≡◌, ◌==◌, ℕ, zero, suc, ◌+◌, ◌<◌, ◌≤◌, Bool, true, ◌||◌, List, [], ◌∷◌, length, get_or, take, Some, refl, sym, ap, subst, ◌∙◌, inl, inr, arith}
use Rattle.std.proofs.lemmas.Bool.{and_from, and_parts, le-leb, leb-true, lt-ltb, ltb-true, or_cases, or_left, or_right}
use Rattle.std.proofs.lemmas.List.{take_all}
use Rattle.std.proofs.lemmas.List.Folds.{list_any_more}
use Rattle.std.proofs.lemmas.Option.{get_or_from_slice_get, slice_get-get_or, slice_get_within}
use Rattle.std.specs.Prelude.{◌-◌, IsTrue, IsFalse, nat_le, nat_lt, slice_get}
use Rattle.std.specs.Option.{option_map_or}
use Rattle.std.specs.List.{AllByRecursion}
use Rattle.flat_core.specs.declared.equation.Equation.{Equation}
use Rattle.flat_core.specs.Case.{used_of}
use Rattle.flat_core.specs.Complete.{IsFlat}
use Rattle.flat_core.specs.Members.{is_in}
use Rattle.flat_core.specs.System.{System, runs, equation, IsProper}
use Rattle.flat_core.specs.WellFormed.{unguarded_of}
use Rattle.flat_core.proofs.Members.{all_from, in-Contains}
use Rattle.flat_core.proofs.Uniqueness.{all_used}
use Rattle.flat_core.specs.declared.equation.Output.{Output}
use Rattle.flat_core.proofs.Shapes.{one_equation}
use Rattle.alias_rules.specs.Fine.{IsFinePlan}
use Rattle.alias_rules.specs.Steps.{argument, printed, is_print, is_step, step_count}
use Rattle.flat_core.specs.Updates.{is_update}
use Rattle.alias_rules.proofs.Ranks.{in_take, not_in_take, one_place}
use Rattle.alias_rules.proofs.Updates.{has_update}
use Rattle.register_machine.specs.Content.{print_of}
use Rattle.register_code.specs.inner.Plan.{IsPlanOrder}

-- what is among the first steps of an order
abbrev pub done_by : List ℕ → ℕ → ℕ → Bool
done_by order k i = is_in (take k order) i

pub done_next : (order : List ℕ) (k i : ℕ) → k < length order → done_by order (k + 1) i ≡ (done_by order k i || (get_or order k 0 == i))
done_next order k i lt = list_any_more (λ j. j == i) order k 0 lt

-- an equation that comes next: it runs and has not, and what it uses has
pub record ComesNext (s : System) (done : ℕ → Bool) (i : ℕ) : Type 0 where
  pub at : Equation
  pub is : equation s i ≡ Some at
  pub running : IsTrue (runs s i)
  pub new : IsFalse (done i)
  pub used : AllByRecursion (λ a. IsTrue (done a)) (used_of at.op at.args)

module _ (s : System) (order : List ℕ) (plan : IsPlanOrder s order) where
  pub step_runs : (x : ℕ) → IsTrue (is_step s x) → x < length s.equations → IsTrue (runs s x)
  step_runs x is lt = elim (or_cases (runs s x) (is_print s x) is) [
    | inl run ↦ run
    | inr print ↦ let le = leb-true (length s.equations) x (and_parts _ _ print).0 in absurd (omega arith)
  ]

  module _ (k : ℕ) (lt : k < length order) (there : get_or order k 0 < length s.equations) where
    running_next : IsTrue (runs s (get_or order k 0))
    running_next = step_runs (get_or order k 0) ((plan.steps (get_or order k 0)).0 (k, lt, get_or_from_slice_get order k (get_or order k 0) (get_or order k 0) (slice_get-get_or order k 0 lt))) there

    used_done : (e : Equation) → equation s (get_or order k 0) ≡ Some e → AllByRecursion (λ a. IsTrue (done_by order k a)) (unguarded_of e.op e.args)
    used_done e is = all_from (λ a. IsTrue (done_by order k a)) (unguarded_of e.op e.args) (λ a c.
        let p = plan.agrees a (get_or order k 0) (argument running_next (record { at = e; is = is; argument = c })) in
        let second = one_place order k p.second plan.once lt p.second_is in
        let before = p.is_before in
        in_take order k p.first a (omega arith) p.first_is)

    pub comes_next : IsProper s → ComesNext s (done_by order k) (get_or order k 0)
    comes_next proper =
        let found = proper.runs_all (get_or order k 0) running_next in
        record {
          at = found.0;
          is = found.1;
          running = running_next;
          new = not_in_take order k plan.once lt;
          used = all_used (λ a. IsTrue (done_by order k a)) found.0.op found.0.args (used_done found.0 found.1);
        }

  -- each running equation stands in the order
  pub in_order : (i : ℕ) → IsTrue (runs s i) → IsTrue (is_in order i)
  in_order i run = in-Contains order i ((plan.steps i).1 (or_left (runs s i) (is_print s i) run))

  pub all_done : (k i : ℕ) → length order ≤ k → IsTrue (runs s i) → IsTrue (done_by order k i)
  all_done k i le run = ap (λ xs. is_in xs i) (take_all k order le) ∙ in_order i run

-- step k of an order is equation n
module _ (s : System) (whole : IsFlat s) (order : List ℕ) (plan : IsPlanOrder s order) (k n : ℕ) (lt : k < length order) (is : n ≡ get_or order k 0) where
  pub found_next : n < length s.equations → ComesNext s (done_by order k) n
  found_next there = subst (ComesNext s (done_by order k)) (sym is) (comes_next s order plan k lt (subst (λ m. m < length s.equations) is there) whole.proper)

  abbrev pub next_is : n < length s.equations → (e : Equation) → equation s n ≡ Some e → ComesNext s (done_by order k) n
  next_is there e at = record {
    at = e;
    is = at;
    running = (found_next there).running;
    new = (found_next there).new;
    used = subst (λ (f : Equation). AllByRecursion (λ a. IsTrue (done_by order k a)) (used_of f.op f.args)) (one_equation s n e (found_next there).at at (found_next there).is) (found_next there).used;
  }

  pub done_is : (i : ℕ) → (done_by order k i || (n == i)) ≡ done_by order (k + 1) i
  done_is i = (λ j. done_by order k i || (is j == i)) ∙ sym (done_next order k i lt)

-- ---- fine plans

-- what happens in place is an update
pub fine_update : (s : System) (set order : List ℕ) → IsFinePlan s set order → (n : ℕ) (e : Equation) → equation s n ≡ Some e → is_in set n ≡ true → is_update e.op ≡ true
fine_update s set order fine n e is listed =
    let update = has_update s n (fine.updates n listed) in
    subst (λ (f : Equation). is_update f.op ≡ true) (one_equation s n e update.at is update.is) update.updates

-- a print that comes next: its output is there, and what it prints has run
pub record PrintsNext (s : System) (front : List ℕ) (n : ℕ) : Type 0 where
  pub k : ℕ
  pub is : n ≡ length s.equations + k
  pub there : k < length s.outputs
  pub done : IsTrue (is_in front (print_of s k))
  pub running : IsTrue (runs s (print_of s k))

module _ (s : System) (whole : IsFlat s) (order : List ℕ) (plan : IsPlanOrder s order) (k : ℕ) (lt : k < length order) (high : length s.equations ≤ get_or order k 0) where
  print_found : IsTrue (is_print s (get_or order k 0))
  print_found = elim (or_cases (runs s (get_or order k 0)) (is_print s (get_or order k 0)) ((plan.steps (get_or order k 0)).0 (k, lt, get_or_from_slice_get order k (get_or order k 0) (get_or order k 0) (slice_get-get_or order k 0 lt)))) [
    | inl run ↦ let found = whole.proper.runs_all (get_or order k 0) run in let within = slice_get_within s.equations (get_or order k 0) found.0 found.1 in absurd (omega arith)
    | inr print ↦ print
  ]

  pub prints_next : PrintsNext s (take k order) (get_or order k 0)
  prints_next =
      let below = ltb-true (get_or order k 0) (step_count s) (and_parts (nat_le (length s.equations) (get_or order k 0)) (nat_lt (get_or order k 0) (step_count s)) print_found).1 in
      let there : get_or order k 0 - length s.equations < length s.outputs = omega arith in
      from (get_or order k 0 - length s.equations) there (omega arith) (get_or s.outputs (get_or order k 0 - length s.equations) unnamed)
      (slice_get-get_or s.outputs (get_or order k 0 - length s.equations) unnamed there)
    where
      unnamed : Output
      unnamed = record { name = []; equation = 0 }

      from : (j : ℕ) → j < length s.outputs → get_or order k 0 ≡ length s.equations + j → (o : Output) → slice_get s.outputs j ≡ Some o → PrintsNext s (take k order) (get_or order k 0)
      from j there is o at =
          let printed_is : print_of s j ≡ o.equation = ap (λ q. option_map_or (λ (x : Output). x.equation) q 0) at in
          let p = plan.agrees o.equation (get_or order k 0) (printed j o at refl is) in
          let second = one_place order k p.second plan.once lt p.second_is in
          let before = p.is_before in
          record {
            k = j;
            is = is;
            there = there;
            done = subst (λ x. IsTrue (is_in (take k order) x)) (sym printed_is) (in_take order k p.first o.equation (omega arith) p.first_is);
            running = subst (λ x. IsTrue (runs s x)) (sym printed_is) (output_runs s.outputs j o at whole.outputs_run);
          }
        where
          output_runs : (os : List Output) (m : ℕ) (o : Output) → slice_get os m ≡ Some o → AllByRecursion (λ (x : Output). IsTrue (runs s x.equation)) os → IsTrue (runs s o.equation)
          output_runs [] m o is all = absurd (cc)
          output_runs (x ∷ os) zero o is all = let same : x ≡ o = cc in subst (λ (y : Output). IsTrue (runs s y.equation)) same all.0
          output_runs (x ∷ os) (suc m) o is all = output_runs os m o is all.1

-- each print stands in the order
pub prints_in : (s : System) (order : List ℕ) → IsPlanOrder s order → (k : ℕ) → k < length s.outputs → IsTrue (is_in order (length s.equations + k))
prints_in s order plan k lt =
    in-Contains order (length s.equations + k) ((plan.steps (length s.equations + k)).1 (or_right (runs s (length s.equations + k)) (is_print s (length s.equations + k))
    (and_from (nat_le (length s.equations) (length s.equations + k)) (nat_lt (length s.equations + k) (step_count s)) (le-leb (length s.equations) (length s.equations + k) (omega arith)) (lt-ltb (length s.equations + k) (step_count s) (omega arith)))))
