-- The small system is complete.
use Rattle.std.proofs.Common.{◌≡◌, ℕ, ◌<◌, ◌≤◌, [], ◌∷◌, length, take, take_all, refl, sym, ap, subst, ◌∙◌, arith, lit<}
use Rattle.std.specs.Prelude.{codes, slice_index_or}
use Rattle.std.specs.List.{AllByRecursion}
use Rattle.flat_core.specs.declared.equation.Output.{Output}
use Rattle.flat_core.specs.Complete.{HasShortBody, HaveDifferentNames, IsComplete}
use Rattle.flat_core.specs.System.{System}
use Rattle.flat_core.specs.Typed.{input, delay, last, int_type}
use Rattle.flat_core.specs.TypedSystem.{IsTypedEquation}
use Rattle.flat_core.proofs.Finished.{typed_from_all, own_type}
use Rattle.flat_tests.specs.Small.{small_equations}

typed : AllByRecursion (IsTypedEquation small_equations) small_equations
typed = (
  record { types = []; arguments = tt; typed = input },
  (
    record { types = []; arguments = tt; typed = input },
    (
      record { types = int_type ∷ int_type ∷ []; arguments = (own_type small_equations 0 _ refl, (own_type small_equations 1 _ refl, tt)); typed = last },
      (record { types = int_type ∷ int_type ∷ []; arguments = (own_type small_equations 0 _ refl, (own_type small_equations 1 _ refl, tt)); typed = delay }, tt),
    ),
  ),
)

pub small_complete :
    (b : System) (n : ℕ) (p d : Output) →
    4 ≤ n →
    b.equations ≡ take n small_equations →
    b.outputs ≡ p ∷ d ∷ [] →
    p.equation ≡ 2 →
    d.equation ≡ 3 →
    p.name ≡ codes "p" →
    d.name ≡ codes "d" →
    IsComplete b
small_complete b n p d all so_far outputs at_p at_d p_named d_named =
    let equations : b.equations ≡ small_equations = so_far ∙ take_all n small_equations all in
    let count = ap length equations in
    let differ : ¬ (d.name ≡ p.name) = λ same. let letters : 100 ≡ 112 = ap (λ xs. slice_index_or xs 0 0) (sym d_named ∙ same ∙ p_named) in absurd (omega (arith, letters)) in
    record {
      typed = typed_from_all b (subst (λ es. AllByRecursion (IsTypedEquation es) es) (sym equations) typed);
      some_output = subst (λ os. 0 < length os) (sym outputs) (lit< tt);
      outputs_there = subst (AllByRecursion (λ o. o.equation < length b.equations)) (sym outputs) (omega arith, (omega arith, tt));
      names_differ = subst HaveDifferentNames (sym outputs) ((differ, tt), (tt, tt));
      short_texts = subst (AllByRecursion (λ e. HasShortBody e.op)) (sym equations) (tt, (tt, (tt, (tt, tt))));
    }
