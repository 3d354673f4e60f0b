-- A system of one named unit, as a test finishes it.
use Rattle.std.proofs.Common.{◌≡◌, ℕ, ◌-◌, ◌<◌, List, [], ◌∷◌, ◌++◌, length, Some, sym, ap, subst, ◌∙◌, arith}
use Rattle.std.specs.Prelude.{slice_get, slice_set}
use Rattle.std.specs.List.{AllByRecursion}
use Rattle.std.specs.Option.{option_map_or}
use Rattle.tsl_value.specs.declared.place.Place.{Place}
use Rattle.flat_core.specs.declared.equation.Op.TheVariants as op
use Rattle.flat_core.specs.declared.equation.Equation.{Equation}
use Rattle.flat_core.specs.declared.equation.Output.{Output}
use Rattle.flat_core.specs.System.{System, with_name}
use Rattle.flat_core.specs.Typed.{unit_type, unit}
use Rattle.flat_core.specs.TypedSystem.{IsTypedEquation}
use Rattle.flat_core.specs.Complete.{HasShortBody, HaveDifferentNames, IsComplete}
use Rattle.flat_core.proofs.Finished.{typed_from_all}
use Rattle.stream_constructs.specs.Equations.{equation}
use Rattle.stream_constructs.specs.Made.{with_equations}

pub unit_complete : (s a b d : System) (p : Place) (name : List ℕ) (o : Output) → s.equations ≡ [] → s.outputs ≡ [] → a ≡ with_equations s (equation p op.Unit [] unit_type ∷ []) → b ≡ with_name a (length a.equations - 1) name → d ≡ record b { outputs = b.outputs ++ o ∷ [] } → o.equation ≡ 0 → IsComplete d
unit_complete s a b d p name o none no_output to_a to_b to_d first =
    let u = equation p op.Unit [] unit_type in
    let named : Equation = record u { name = Some name } in
    let at_a : a.equations ≡ u ∷ [] = ap (λ (x : System). x.equations) to_a ∙ ap (λ es. es ++ u ∷ []) none in
    let at_b : b.equations ≡ named ∷ [] =
    ap (λ (x : System). x.equations) to_b ∙ (λ k. option_map_or (λ e. slice_set (at_a k) (length (at_a k) - 1) (record e { name = Some name })) (slice_get (at_a k) (length (at_a k) - 1)) (at_a k)) in
    let equations_are : d.equations ≡ named ∷ [] = ap (λ (x : System). x.equations) to_d ∙ at_b in
    let outputs_are : d.outputs ≡ o ∷ [] = ap (λ (x : System). x.outputs) to_d ∙ ap (λ (x : System). x.outputs ++ o ∷ []) to_b ∙ ap (λ (x : System). x.outputs ++ o ∷ []) to_a ∙ ap (λ os. os ++ o ∷ []) no_output in
    record {
      typed = typed_from_all d (subst (AllByRecursion (IsTypedEquation d.equations)) (sym equations_are) (record { types = []; arguments = tt; typed = unit }, tt));
      some_output = subst (λ os. 0 < length os) (sym outputs_are) (omega arith);
      outputs_there = subst (AllByRecursion (λ q. q.equation < length d.equations)) (sym outputs_are) (let count = ap length equations_are in omega arith, tt);
      names_differ = subst HaveDifferentNames (sym outputs_are) (tt, tt);
      short_texts = subst (AllByRecursion (λ e. HasShortBody e.op)) (sym equations_are) (tt, tt);
    }
