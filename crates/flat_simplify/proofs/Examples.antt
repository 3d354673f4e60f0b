-- A merge of an input with its negation: the merge gives way to the input, and the negation stays, since it can fault.
use Rattle.std.proofs.Common.{◌≡◌, ◌==◌, ◌⊎◌, ℕ, zero, suc, ◌||◌, true, false, List, [], ◌∷◌, Some, None, refl, sym, ap, subst, ◌∙◌, inl, inr, arith}
use Rattle.std.specs.Prelude.{IsTrue, slice_get}
use Rattle.std.specs.List.{Contains}
use Rattle.std.specs.List.Sorted.{IsStrictlyIncreasing}
use Rattle.std.proofs.lemmas.Bool.{or_cases, eqb-true, false≢true}
use Rattle.std.proofs.lemmas.Option.{none-some, same_Some}
use Rattle.tsl_value.specs.declared.place.Place.{Place}
use Rattle.tsl_value.specs.declared.operation.Unary.TheVariants as unary
use Rattle.lift_func.specs.BodyTree.{Argument, One}
use Rattle.flat_core.specs.declared.equation.Equation.{Equation}
use Rattle.flat_core.specs.declared.equation.Output.{Output}
use Rattle.flat_core.specs.declared.equation.Op.{Op}
use Rattle.flat_core.specs.declared.equation.Op.TheVariants as op
use Rattle.translation_order.specs.Graph.{stay}
use Rattle.flat_core.specs.Needed.{HasArgument}
use Rattle.flat_core.specs.System.{System, runs, equation}
use Rattle.flat_core.specs.Typed.{int_type}
use Rattle.translation_order.proofs.PathLemmas.{walk_keeps}
use Rattle.trigger_rules.specs.declared.atom.Atom.{Atom}
use Rattle.trigger_rules.specs.declared.atom.Atom.TheVariants.{Happens}
use Rattle.trigger_rules.specs.Formula.{Assignment, If, Of, Both, Always, Meets, HasAtom, in_if, in_of, through, both, both_first, both_second}
use Rattle.trigger_rules.specs.Question.{Starts, Fires, Stands, Implies}
use Rattle.trigger_rules.specs.Table.{formula}
use Rattle.flat_simplify.specs.CanFault.{can_fault_op, CanFault}
use Rattle.flat_simplify.specs.Replaced.{IsReplaced, StandsFor, itself, through as followed}
use Rattle.flat_simplify.specs.Simplified.{Remains, IsSimplified}

module _ (place : Place) (name : List ℕ) where
  abbrev made : Op → List ℕ → Equation
  made o args = record { op = o; args = args; of = int_type; place = place; name = None }

  abbrev printed : ℕ → Output
  printed i = record { name = name; equation = i }

  abbrev before : System
  before = record {
    equations = made op.Input [] ∷ made (op.Lift (One unary.Neg (Argument 0)) true) (0 ∷ []) ∷ made op.Merge (0 ∷ 1 ∷ []) ∷ [];
    outputs = printed 2 ∷ [];
    running = 0 ∷ 1 ∷ 2 ∷ [];
  }

  abbrev after : System
  after = record { equations = before.equations; outputs = printed 0 ∷ []; running = 0 ∷ 1 ∷ [] }

  -- the negation has an event only where the input has one
  input_atom : (a : Atom) → HasAtom (formula before) (Starts before) a (If (Happens 0)) → a ≡ Happens 0
  input_atom a in_if = refl

  input_stands : (a : Atom) → Stands before 0 a → a ≡ Happens 0
  input_stands a (in_of h) = input_atom a h

  negation_part : (a : Atom) → HasAtom (formula before) (Starts before) a (Both (Of 0) Always) → a ≡ Happens 0
  negation_part a (both_first h) = input_stands a h
  negation_part a (both_second h) = elim h [ ]

  negation_stands : (a : Atom) → Stands before 1 a → a ≡ Happens 0
  negation_stands a (in_of h) = negation_part a h

  first_of_both : (holds : Assignment) → Meets (formula before) (Starts before) holds (Both (Of 0) Always) → Fires before holds 0
  first_of_both holds (both h rest) = h

  negation_fires : (holds : Assignment) → Fires before holds 1 → Fires before holds 0
  negation_fires holds (through h) = first_of_both holds h

  implied : Implies before 1 0
  implied = inr record {
    few = record {
      atoms = Happens 0 ∷ [];
      all = λ a stands. subst (Contains (Happens 0 ∷ [])) (elim stands [ inl h ↦ sym (negation_stands a h) | inr h ↦ sym (input_stands a h) ]) (0, omega arith, refl);
      few = omega arith;
    };
    fires = negation_fires;
  }

  -- the merge alone is replaced
  other_op : (i a : ℕ) (e : Equation) → equation before i ≡ Some e → (e.op ≡ op.Merge → ⊥) → IsReplaced before i a → ⊥
  other_op i a e is differ r = differ (ap (λ f. f.op) (same_Some e r.at (sym is ∙ r.is)) ∙ r.merges)

  input_left : StandsFor before 0 0
  input_left = itself (λ a. other_op 0 a _ refl (λ is. cc))

  negation_left : StandsFor before 1 1
  negation_left = itself (λ a. other_op 1 a _ refl (λ is. cc))

  merge_gone : IsReplaced before 2 0
  merge_gone = record { at = _; is = refl; running = refl; merges = refl; other = 1; args_are = refl; implied = implied }

  stands : (i j : ℕ) → slice_get (0 ∷ 1 ∷ 0 ∷ []) i ≡ Some j → StandsFor before i j
  stands zero j is = subst (StandsFor before 0) (same_Some 0 j is) input_left
  stands (suc zero) j is = subst (StandsFor before 1) (same_Some 1 j is) negation_left
  stands (suc (suc zero)) j is = subst (StandsFor before 2) (same_Some 0 j is) (followed merge_gone input_left)
  stands (suc (suc (suc i))) j is = absurd (none-some j is)

  -- the input is printed, and the negation can fault
  one_of_two : (i : ℕ) → IsTrue (runs after i) → (0 ≡ i) ⊎ (1 ≡ i)
  one_of_two i run = elim (or_cases (0 == i) ((1 == i) || false) run) [
    | inl first ↦ inl (eqb-true 0 i first)
    | inr rest ↦ elim (or_cases (1 == i) false rest) [ inl second ↦ inr (eqb-true 1 i second) | inr never ↦ absurd (false≢true never) ]
  ]

  remaining : (i : ℕ) → IsTrue (runs after i) → Remains before after i
  remaining i run = elim (one_of_two i run) [
    | inl is ↦ subst (Remains before after) is (inl record { output = printed 0; printed = (0, omega arith, refl); walk = stay })
    | inr is ↦ subst (Remains before after) is (inr record { start = 1; faults = record { at = _; is = refl; running = refl; faults = refl }; walk = stay })
  ]

  -- arguments of what runs run
  none_of_none : (b : ℕ) → Contains [] b → ⊥
  none_of_none b (k, lt, is) = omega arith

  one_of_one : (b : ℕ) → Contains (0 ∷ []) b → 0 ≡ b
  one_of_one b (zero, lt, is) = is
  one_of_one b (suc k, lt, is) = absurd (omega arith)

  args_are : (e : Equation) (f : Equation) (b : ℕ) → Some e ≡ Some f → Contains f.args b → Contains e.args b
  args_are e f b is c = subst (λ g. Contains g.args b) (sym (same_Some e f is)) c

  argument_runs : (a b : ℕ) → HasArgument after.equations a b → IsTrue (runs after a) → IsTrue (runs after b)
  argument_runs zero b h run = absurd (none_of_none b (args_are _ h.at b h.is h.argument))
  argument_runs (suc zero) b h run = subst (λ n. IsTrue (runs after n)) (one_of_one b (args_are _ h.at b h.is h.argument)) refl
  argument_runs (suc (suc i)) b h run = elim (one_of_two (suc (suc i)) run) [ inl is ↦ absurd (omega arith) | inr is ↦ absurd (omega arith) ]

  fault_runs : (i : ℕ) → CanFault before i → IsTrue (runs after i)
  fault_runs zero f = absurd (false≢true (ap (λ e. can_fault_op e.op) (same_Some _ f.at f.is) ∙ f.faults))
  fault_runs (suc zero) f = refl
  fault_runs (suc (suc zero)) f = absurd (false≢true (ap (λ e. can_fault_op e.op) (same_Some _ f.at f.is) ∙ f.faults))
  fault_runs (suc (suc (suc i))) f = absurd (none-some f.at f.is)

  output_runs : (o : Output) → Contains after.outputs o → IsTrue (runs after o.equation)
  output_runs o (zero, lt, is) = ap (λ p. runs after p.equation) (sym is)
  output_runs o (suc k, lt, is) = absurd (omega arith)

  running : (i : ℕ) → Remains before after i → IsTrue (runs after i)
  running i (inl needed) = walk_keeps (λ n. IsTrue (runs after n)) argument_runs needed.walk (output_runs needed.output needed.printed)
  running i (inr faulting) = walk_keeps (λ n. IsTrue (runs after n)) argument_runs faulting.walk (fault_runs faulting.start faulting.faults)

  rising : IsStrictlyIncreasing (0 ∷ 1 ∷ [])
  rising zero lt = omega arith
  rising (suc k) lt = absurd (omega arith)

  simplified : IsSimplified before after
  simplified = record {
    replaced = 0 ∷ 1 ∷ 0 ∷ [];
    replacement = record { one_each = refl; each = stands };
    renumbered = record { equations_are = refl; outputs_are = refl; ascending = rising; remains = λ i. (remaining i, running i) };
  }
