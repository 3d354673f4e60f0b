-- The equations of a system with one of its outputs are a complete system, in which the slice of that output runs.
use Rattle.std.proofs.Common.{◌≡◌, ℕ, zero, suc, ◌<◌, [], ◌∷◌, length, Some, sym, ap, subst, ◌∙◌, slice_get, arith, lit<}
use Rattle.std.specs.Prelude.{IsTrue}
use Rattle.std.specs.List.{AllByRecursion, Contains}
use Rattle.tsl_value.proofs.Lists.{contains_at}
use Rattle.translation_order.specs.Graph.{Walk}
use Rattle.flat_core.specs.declared.equation.Output.{Output}
use Rattle.flat_core.specs.Complete.{HasShortBody, HaveDifferentNames, IsComplete, IsFlat}
use Rattle.flat_core.specs.Members.{is_in}
use Rattle.flat_core.specs.Needed.{HasArgument, IsReachedFrom, RunsNeeded}
use Rattle.flat_core.specs.System.{System}
use Rattle.flat_core.specs.TypedSystem.{IsTypedEquation}
use Rattle.flat_core.proofs.Members.{all_at, contains_head}
use Rattle.event_why.specs.inner.Sliced.{IsSliced}

only_one : {A : Type 0} (x y : A) → Contains (x ∷ []) y → x ≡ y
only_one x y (zero, lt, is) = is
only_one x y (suc k, lt, is) = absurd (omega arith)

module _ (s b : System) (number : ℕ) (o : Output) (whole : IsFlat s) (at : slice_get s.outputs number ≡ Some o) (equations : b.equations ≡ s.equations) (outputs : b.outputs ≡ o ∷ []) where
  there : o.equation < length s.equations
  there = all_at (λ (q : Output). q.equation < length s.equations) s.outputs whole.complete.outputs_there o (contains_at s.outputs number o at)

  pub part_complete : IsComplete b
  part_complete = record {
    typed = record { each = λ i e found. subst (λ es. IsTypedEquation es e) (sym equations) (whole.complete.typed.each i e (ap (λ es. slice_get es i) (sym equations) ∙ found)) };
    some_output = subst (λ os. 0 < length os) (sym outputs) (lit< tt);
    outputs_there = subst (AllByRecursion (λ (q : Output). q.equation < length b.equations)) (sym outputs) (subst (λ es. o.equation < length es) (sym equations) there, tt);
    names_differ = subst HaveDifferentNames (sym outputs) (tt, tt);
    short_texts = subst (AllByRecursion (λ e. HasShortBody e.op)) (sym equations) whole.complete.short_texts;
  }

  pub part_sliced : IsFlat b → RunsNeeded b → IsSliced s number b
  part_sliced flat needed = record {
    output = o;
    is_output = at;
    whole = flat;
    equations = equations;
    outputs = outputs;
    slice = λ i. (reaches i, runs_so i);
  }
    where
      reaches : (i : ℕ) → IsTrue (is_in b.running i) → IsReachedFrom s.equations (o.equation ∷ []) i
      reaches i run =
          let r = (needed.each i).0 run in
          let own = only_one o r.output (subst (λ os. Contains os r.output) outputs r.printed) in
          record {
            start = r.output.equation;
            among = subst (λ (q : Output). Contains (o.equation ∷ []) q.equation) own (contains_head o.equation []);
            walk = subst (λ es. Walk (HasArgument es) r.output.equation i) equations r.walk;
          }

      runs_so : (i : ℕ) → IsReachedFrom s.equations (o.equation ∷ []) i → IsTrue (is_in b.running i)
      runs_so i r =
          let start = only_one o.equation r.start r.among in
          (needed.each i).1 (record {
            output = o;
            printed = subst (λ os. Contains os o) (sym outputs) (contains_head o []);
            walk = subst (λ es. Walk (HasArgument es) o.equation i) (sym equations) (subst (λ n. Walk (HasArgument s.equations) n i) (sym start) r.walk);
          })
