-- A system that puts the numbers of an input into a set and prints what the set was before each of them: with the update in place its
-- plan is fine, so that what the laws ask for can be met.
use Rattle.std.proofs.Common.{◌≡◌, ℕ, zero, suc, ◌<◌, List, [], ◌∷◌, Some, None, refl, subst, Contains, inl, inr, arith}
use Rattle.std.specs.Prelude.{IsTrue}
use Rattle.std.specs.List.{AllByRecursion}
use Rattle.std.specs.List.Sorted.{IsStrictlyIncreasing}
use Rattle.tsl_value.specs.declared.scalar.KeyType.TheVariants as key_type
use Rattle.tsl_value.specs.declared.scalar.ScalarType.TheVariants as scalar_type
use Rattle.tsl_value.specs.declared.scalar.ValueType.{ValueType}
use Rattle.tsl_value.specs.declared.scalar.ValueType.TheVariants as value_type
use Rattle.flat_core.specs.declared.equation.Equation.{Equation}
use Rattle.flat_core.specs.declared.equation.Op.{Op}
use Rattle.flat_core.specs.declared.equation.Op.TheVariants as op
use Rattle.flat_core.specs.Complete.{IsFlat}
use Rattle.translation_order.specs.Graph.{Path, edge, step}
use Rattle.flat_core.specs.System.{System, runs, equation}
use Rattle.lift_func.specs.Update.{set_add}
use Rattle.flat_core.specs.Typed.{input, empty, merge, last, update}
use Rattle.flat_core.specs.TypedSystem.{IsOfType, IsTypedEquation}
use Rattle.flat_core.specs.WellFormed.{unguarded_of, Needs, IsWellFormed}
use Rattle.flat_core.proofs.Members.{all_at, Contains-in}
use Rattle.tsl_value.proofs.Lists.{none_in_nil, cons_cases, only}
use Rattle.register_machine.proofs.Effects.{some_equation}

abbrev pub made_of : Op → List ℕ → ValueType → Equation
made_of o args of = record { op = o; args = args; of = of; place = record { line = 1; column = 1 }; name = None }

abbrev pub set_type : ValueType
set_type = value_type.Set key_type.Int

abbrev pub int_type : ValueType
int_type = value_type.Scalar scalar_type.Int

-- 0: the input; 1: the empty set; 2: the set so far; 3: what it was before; 4: with the input's number
abbrev pub sys : System
sys = record {
  equations =
      made_of op.Input [] int_type
      ∷ made_of op.Empty [] set_type
      ∷ made_of op.Merge (4 ∷ 1 ∷ []) set_type
      ∷ made_of op.Last (2 ∷ 0 ∷ []) set_type
      ∷ made_of op.SetAdd (3 ∷ 0 ∷ []) set_type
      ∷ [];
  outputs = record { name = 98 ∷ []; equation = 3 } ∷ [];
  running = 0 ∷ 1 ∷ 2 ∷ 3 ∷ 4 ∷ [];
}

pub none_some : {A : Type 0} {x : A} {P : Type 0} → None ≡ Some x → P
none_some e = absurd (cc)

-- by the number of an equation
pub each_equation : (P : ℕ → Equation → Type 0)
    → P 0 (made_of op.Input [] int_type)
    → P 1 (made_of op.Empty [] set_type)
    → P 2 (made_of op.Merge (4 ∷ 1 ∷ []) set_type)
    → P 3 (made_of op.Last (2 ∷ 0 ∷ []) set_type)
    → P 4 (made_of op.SetAdd (3 ∷ 0 ∷ []) set_type)
    → (i : ℕ) (e : Equation) → equation sys i ≡ Some e → P i e
each_equation P a b c d f zero e is = subst (P 0) (some_equation is) a
each_equation P a b c d f (suc zero) e is = subst (P 1) (some_equation is) b
each_equation P a b c d f (suc (suc zero)) e is = subst (P 2) (some_equation is) c
each_equation P a b c d f (suc (suc (suc zero))) e is = subst (P 3) (some_equation is) d
each_equation P a b c d f (suc (suc (suc (suc zero)))) e is = subst (P 4) (some_equation is) f
each_equation P a b c d f (suc (suc (suc (suc (suc n))))) e is = none_some is

of_type : (a : ℕ) (e : Equation) (t : ValueType) → equation sys a ≡ Some e → e.of ≡ t → IsOfType sys.equations a t
of_type a e t is of_is = record { at = e; is = is; of_is = of_is }

typed : (i : ℕ) (e : Equation) → equation sys i ≡ Some e → IsTypedEquation sys.equations e
typed = each_equation (λ i. IsTypedEquation sys.equations)
    (record { types = []; arguments = tt; typed = input })
    (record { types = []; arguments = tt; typed = empty refl })
    (record { types = set_type ∷ set_type ∷ []; arguments = (of_type 4 _ set_type refl refl, (of_type 1 _ set_type refl refl, tt)); typed = merge })
    (record { types = set_type ∷ int_type ∷ []; arguments = (of_type 2 _ set_type refl refl, (of_type 0 _ int_type refl refl, tt)); typed = last })
    (record { types = set_type ∷ int_type ∷ []; arguments = (of_type 3 _ set_type refl refl, (of_type 0 _ int_type refl refl, tt)); typed = update refl (set_add refl) })

ascending : IsStrictlyIncreasing sys.running
ascending zero lt = omega arith
ascending (suc zero) lt = omega arith
ascending (suc (suc zero)) lt = omega arith
ascending (suc (suc (suc zero))) lt = omega arith
ascending (suc (suc (suc (suc n)))) lt = absurd (omega arith)

runs_all : (i : ℕ) → IsTrue (runs sys i) → (e : Equation) × (equation sys i ≡ Some e) × AllByRecursion (λ a. IsTrue (runs sys a)) e.args
runs_all zero run = (made_of op.Input [] int_type, refl, tt)
runs_all (suc zero) run = (made_of op.Empty [] set_type, refl, tt)
runs_all (suc (suc zero)) run = (made_of op.Merge (4 ∷ 1 ∷ []) set_type, refl, (refl, (refl, tt)))
runs_all (suc (suc (suc zero))) run = (made_of op.Last (2 ∷ 0 ∷ []) set_type, refl, (refl, (refl, tt)))
runs_all (suc (suc (suc (suc zero)))) run = (made_of op.SetAdd (3 ∷ 0 ∷ []) set_type, refl, (refl, (refl, tt)))
runs_all (suc (suc (suc (suc (suc n))))) run =
    let low = all_at (λ m. m < 5) (0 ∷ 1 ∷ 2 ∷ 3 ∷ 4 ∷ []) (omega arith, (omega arith, (omega arith, (omega arith, (omega arith, tt))))) (suc (suc (suc (suc (suc n))))) (Contains-in (0 ∷ 1 ∷ 2 ∷ 3 ∷ 4 ∷ []) (suc (suc (suc (suc (suc n))))) run) in
    absurd (omega arith)

pub is_flat : IsFlat sys
is_flat = record {
  complete = record {
    typed = record { each = typed };
    some_output = omega arith;
    outputs_there = (omega arith, tt);
    names_differ = (tt, tt);
    short_texts = (tt, (tt, (tt, (tt, (tt, tt)))));
  };
  few_equations = omega arith;
  few_outputs = omega arith;
  ascending = ascending;
  outputs_run = (refl, tt);
  proper = record { runs_all = runs_all };
}

-- the place of each step in the order
unfoldable pub place : ℕ → ℕ
place zero = 0
place (suc zero) = 1
place (suc (suc zero)) = 5
place (suc (suc (suc zero))) = 2
place (suc (suc (suc (suc zero)))) = 4
place (suc (suc (suc (suc (suc n))))) = 3

-- an argument stands before its equation
pub argument_place : (i : ℕ) (e : Equation) → equation sys i ≡ Some e → (a : ℕ) → Contains (unguarded_of e.op e.args) a → place a < place i
unfolding place
argument_place = each_equation (λ i e. (a : ℕ) → Contains (unguarded_of e.op e.args) a → place a < place i)
    (λ a found. absurd (none_in_nil a found))
    (λ a found. absurd (none_in_nil a found))
    (λ a found. elim (cons_cases 4 a (1 ∷ []) found) [ inl is ↦ subst (λ n. place n < 5) is (omega arith) | inr more ↦ subst (λ n. place n < 5) (only 1 a more) (omega arith) ])
    (λ a found. subst (λ n. place n < 2) (only 0 a found) (omega arith))
    (λ a found. elim (cons_cases 3 a (0 ∷ []) found) [ inl is ↦ subst (λ n. place n < 4) is (omega arith) | inr more ↦ subst (λ n. place n < 4) (only 0 a more) (omega arith) ])

needs_place : (i j : ℕ) → Path (Needs sys) i j → place j < place i
needs_place i j (edge n) = argument_place i n.at n.is j n.argument
needs_place i j (step {b = k} n p) =
    let first = argument_place i n.at n.is k n.argument in
    let rest = needs_place k j p in
    omega arith

pub well_formed : IsWellFormed sys
well_formed i p = let low = needs_place i i p in omega arith
