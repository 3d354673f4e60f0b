-- The sample is a complete system.
use Rattle.std.proofs.Common.{◌≡◌, ℕ, ◌<◌, ◌≤◌, [], ◌∷◌, length, take, take_all, refl, sym, ap, subst, ◌∙◌, arith, lit<}
use Rattle.std.specs.List.{AllByRecursion}
use Rattle.lift_func.specs.Typing.{argument, two, in_set}
use Rattle.flat_core.specs.declared.equation.Output.{Output}
use Rattle.flat_core.specs.Complete.{HasShortBody, HaveDifferentNames, IsComplete}
use Rattle.flat_core.specs.System.{System}
use Rattle.lift_func.specs.Update.{set_add}
use Rattle.flat_core.specs.Typed.{bool_type, input, empty, delay, last, merge, filter, update, lift, int_type}
use Rattle.flat_core.specs.TypedSystem.{IsTypedEquation}
use Rattle.flat_core.proofs.Finished.{typed_from_all, own_type}
use Rattle.sample_systems.specs.Systems.{ints, sample_equations}

typed : AllByRecursion (IsTypedEquation sample_equations) sample_equations
typed = (
  record { types = []; arguments = tt; typed = input },
  (
    record { types = []; arguments = tt; typed = empty refl },
    (
      record { types = ints ∷ ints ∷ []; arguments = (own_type sample_equations 8 _ refl, (own_type sample_equations 1 _ refl, tt)); typed = merge },
      (
        record { types = ints ∷ int_type ∷ []; arguments = (own_type sample_equations 2 _ refl, (own_type sample_equations 0 _ refl, tt)); typed = last },
        (
          record { types = ints ∷ int_type ∷ []; arguments = (own_type sample_equations 3 _ refl, (own_type sample_equations 0 _ refl, tt)); typed = last },
          (
            record { types = ints ∷ ints ∷ []; arguments = (own_type sample_equations 3 _ refl, (own_type sample_equations 4 _ refl, tt)); typed = merge },
            (
              record { types = int_type ∷ ints ∷ []; arguments = (own_type sample_equations 0 _ refl, (own_type sample_equations 3 _ refl, tt)); typed = last },
              (
                record { types = int_type ∷ int_type ∷ []; arguments = (own_type sample_equations 0 _ refl, (own_type sample_equations 6 _ refl, tt)); typed = merge },
                (
                  record { types = ints ∷ int_type ∷ []; arguments = (own_type sample_equations 5 _ refl, (own_type sample_equations 7 _ refl, tt)); typed = update refl (set_add refl) },
                  (
                    record { types = ints ∷ int_type ∷ []; arguments = (own_type sample_equations 5 _ refl, (own_type sample_equations 7 _ refl, tt)); typed = lift (omega arith) (omega arith) (two (argument refl) (argument refl) (in_set refl)) },
                    (
                      record { types = ints ∷ bool_type ∷ []; arguments = (own_type sample_equations 8 _ refl, (own_type sample_equations 9 _ refl, tt)); typed = filter },
                      (record { types = int_type ∷ bool_type ∷ []; arguments = (own_type sample_equations 0 _ refl, (own_type sample_equations 9 _ refl, tt)); typed = delay }, tt),
                    ),
                  ),
                ),
              ),
            ),
          ),
        ),
      ),
    ),
  ),
)

pub sample_complete : (b : System) (n : ℕ) (o : Output) → 12 ≤ n → b.equations ≡ take n sample_equations → b.outputs ≡ o ∷ [] → o.equation ≡ 10 → IsComplete b
sample_complete b n o all so_far outputs at =
    let equations : b.equations ≡ sample_equations = so_far ∙ take_all n sample_equations all in
    record {
      typed = typed_from_all b (subst (λ es. AllByRecursion (IsTypedEquation es) es) (sym equations) typed);
      some_output = subst (λ os. 0 < length os) (sym outputs) (lit< tt);
      outputs_there = subst (AllByRecursion (λ p. p.equation < length b.equations)) (sym outputs) (let count = ap length equations in omega arith, tt);
      names_differ = subst HaveDifferentNames (sym outputs) (tt, tt);
      short_texts = subst (AllByRecursion (λ e. HasShortBody e.op)) (sym equations) (tt, (tt, (tt, (tt, (tt, (tt, (tt, (tt, (tt, ((tt, tt), (tt, (tt, tt))))))))))));
    }
