-- The plan of that system with the update in place is fine: the set is printed before the update changes it.
use Rattle.std.proofs.Common.{◌≡◌, ℕ, zero, suc, ◌<◌, ◌≤◌, ◌^◌, true, List, [], ◌∷◌, Some, refl, sym, ap, subst, ◌∙◌, inl, inr, ◌⊎◌, Contains, eqb, slice_get, arith}
use Rattle.std.proofs.lemmas.Bool.{and_parts, or_cases, ltb-true}
use Rattle.std.specs.Prelude.{⊤, IsTrue, ◌↔◌}
use Rattle.std.specs.List.{IsDistinct}
use Rattle.flat_core.specs.declared.equation.Equation.{Equation}
use Rattle.flat_core.specs.declared.equation.Output.{Output}
use Rattle.flat_core.specs.Case.{Streams}
use Rattle.translation_order.specs.Graph.{Walk, stay, onward, Path, edge, step}
use Rattle.flat_core.specs.Line.{Line, inputs_of}
use Rattle.flat_core.specs.Members.{is_in}
use Rattle.flat_core.specs.System.{runs, equation}
use Rattle.flat_core.specs.inner.TypedLines.{AreTypedLines}
use Rattle.flat_core.specs.WellFormed.{unguarded_of}
use Rattle.flat_core.proofs.Members.{all_at, Contains-in}
use Rattle.flat_core.proofs.WellFormedOrder.{ranked_solution}
use Rattle.flat_core.proofs.WellFormedRank.{rank_of, well_formed_ranked}
use Rattle.tsl_value.proofs.Lists.{none_in_nil, cons_cases}
use Rattle.trigger_rules.specs.declared.atom.Atom.{Atom}
use Rattle.trigger_rules.specs.declared.atom.Atom.TheVariants.{Start, Happens}
use Rattle.trigger_rules.specs.Formula as formula
use Rattle.trigger_rules.specs.Formula.{Formula, Always, Never, If, IfNot, Of, Both, Either, Unless, HasAtom}
use Rattle.trigger_rules.specs.Question.{Starts, Implies}
use Rattle.trigger_rules.specs.Table as table
use Rattle.alias_rules.specs.Bypass.{GoesAround, Bypasses}
use Rattle.alias_rules.specs.Conflict as conflict
use Rattle.alias_rules.specs.Conflict.{IsInConflict, IsKept, IsNotOverwritten, TakesBefore, StandsBefore}
use Rattle.alias_rules.specs.Fine.{IsFine, IsFinePlan}
use Rattle.alias_rules.specs.Roots as roots
use Rattle.alias_rules.specs.Roots.{Carries}
use Rattle.alias_rules.specs.Sharing as sharing
use Rattle.alias_rules.specs.Sharing.{Shares, Alias}
use Rattle.alias_rules.specs.Steps as steps
use Rattle.alias_rules.specs.Steps.{Precedes, is_step, is_print, print_step}
use Rattle.alias_rules.specs.Uses.{IsUpdate, AreUpdates, read_of, passed_of, last_of, written_of, IsLast, IsWritten}
use Rattle.register_machine.specs.Machine.{Run, RunInPlace, Print, Keep}
use Rattle.register_machine.specs.Run.{Plan, body, ending}
use Rattle.register_machine.specs.Stands.{IsGiven}
use Rattle.register_machine.proofs.SeenSystem.{sys, none_some, each_equation, is_flat, place, well_formed}

abbrev pub plan : Plan
plan = record { in_place = 4 ∷ []; order = 0 ∷ 1 ∷ 3 ∷ 5 ∷ 4 ∷ 2 ∷ [] }

in_one : (y x : ℕ) → Contains (y ∷ []) x → x ≡ y
in_one y x found = elim (cons_cases y x [] found) [ inl is ↦ sym is | inr more ↦ absurd (none_in_nil x more) ]

in_two : (y w x : ℕ) → Contains (y ∷ w ∷ []) x → (x ≡ y) ⊎ (x ≡ w)
in_two y w x found = elim (cons_cases y x (w ∷ []) found) [ inl is ↦ inl (sym is) | inr more ↦ inr (in_one w x more) ]

-- ---- which equations take which content

written_at : (i : ℕ) (e : Equation) → equation sys i ≡ Some e → (x : ℕ) → Contains (written_of e.op e.args) x → (x ≡ 3) × (i ≡ 4)
written_at = each_equation (λ i e. (x : ℕ) → Contains (written_of e.op e.args) x → (x ≡ 3) × (i ≡ 4))
    (λ x found. absurd (none_in_nil x found))
    (λ x found. absurd (none_in_nil x found))
    (λ x found. absurd (none_in_nil x found))
    (λ x found. absurd (none_in_nil x found))
    (λ x found. (in_one 3 x found, refl))

passed_at : (i : ℕ) (e : Equation) → equation sys i ≡ Some e → (x : ℕ) → Contains (passed_of e.op e.args) x → ((x ≡ 4) ⊎ (x ≡ 1)) × (i ≡ 2)
passed_at = each_equation (λ i e. (x : ℕ) → Contains (passed_of e.op e.args) x → ((x ≡ 4) ⊎ (x ≡ 1)) × (i ≡ 2))
    (λ x found. absurd (none_in_nil x found))
    (λ x found. absurd (none_in_nil x found))
    (λ x found. (in_two 4 1 x found, refl))
    (λ x found. absurd (none_in_nil x found))
    (λ x found. absurd (none_in_nil x found))

last_at : (i : ℕ) (e : Equation) → equation sys i ≡ Some e → (x : ℕ) → Contains (last_of e.op e.args) x → (x ≡ 2) × (i ≡ 3)
last_at = each_equation (λ i e. (x : ℕ) → Contains (last_of e.op e.args) x → (x ≡ 2) × (i ≡ 3))
    (λ x found. absurd (none_in_nil x found))
    (λ x found. absurd (none_in_nil x found))
    (λ x found. absurd (none_in_nil x found))
    (λ x found. (in_one 2 x found, refl))
    (λ x found. absurd (none_in_nil x found))

read_at : (i : ℕ) (e : Equation) → equation sys i ≡ Some e → (x : ℕ) → Contains (read_of e.op e.args) x → ⊥
read_at = each_equation (λ i e. (x : ℕ) → Contains (read_of e.op e.args) x → ⊥)
    (λ x found. none_in_nil x found)
    (λ x found. none_in_nil x found)
    (λ x found. none_in_nil x found)
    (λ x found. none_in_nil x found)
    (λ x found. none_in_nil x found)

printed_at : (k : ℕ) (o : Output) → slice_get sys.outputs k ≡ Some o → (k ≡ 0) × (o.equation ≡ 3)
printed_at zero o is = (refl, ap (λ p. p.equation) (sym (same is)))
  where
    same : {p q : Output} → Some p ≡ Some q → p ≡ q
    same e = cc
printed_at (suc k) o is = none_some is

written_is : (x i : ℕ) → IsWritten sys x i → (x ≡ 3) × (i ≡ 4)
written_is x i t = written_at i t.at t.is x t.argument

last_is : (x i : ℕ) → IsLast sys x i → (x ≡ 2) × (i ≡ 3)
last_is x i t = last_at i t.at t.is x t.argument

listed_is : (y : ℕ) → is_in plan.in_place y ≡ true → y ≡ 4
listed_is y listed = in_one 4 y (Contains-in (4 ∷ []) y listed)

-- ---- only the last value bypasses the update

no_entry : (x i : ℕ) → Carries sys (4 ∷ []) x i → i ≡ 3 → ⊥
no_entry x i (roots.passed t) is = let two = (passed_at i t.at t.is x t.argument).1 in omega arith
no_entry x i (roots.written listed t) is = let four = (written_is x i t).1 in omega arith

from_last : (q x : ℕ) → Walk (Carries sys (4 ∷ [])) q x → x ≡ 3 → q ≡ 3
from_last q x stay is = is
from_last q x (onward {b = b} c w) is = absurd (no_entry q b c (from_last b x w is))

alias_last : (q p : ℕ) → Alias sys (4 ∷ []) q p → p ≡ 3 → q ≡ 3
alias_last q p sharing.same is = is
alias_last q p (sharing.lasts {v = v} tq tp shares) is = (last_is v q tq).1

no_exit : (w i : ℕ) → Carries sys (4 ∷ []) w i → w ≡ 3 → (i ≡ 4 → ⊥) → ⊥
no_exit w i (roots.passed t) is avoids = elim (passed_at i t.at t.is w t.argument).0 [ inl four ↦ absurd (omega arith) | inr one ↦ absurd (omega arith) ]
no_exit w i (roots.written listed t) is avoids = avoids (written_is w i t).1

around_last : (y q x : ℕ) → y ≡ 4 → Walk (GoesAround sys (4 ∷ []) y) q x → q ≡ 3 → x ≡ 3
around_last y q x y_is stay is = is
around_last y q x y_is (onward {b = b} g w) is = absurd (no_exit q b g.carries is (λ four. g.avoids (four ∙ sym y_is)))

bypass_is : (y x : ℕ) → is_in plan.in_place y ≡ true → Bypasses sys (4 ∷ []) y x → x ≡ 3
bypass_is y x listed b =
    let source_is = (written_is b.source y b.written).0 in
    let root_is = from_last b.root b.source b.source_root.leads source_is in
    around_last y b.origin x (listed_is y listed) b.around (alias_last b.origin b.root b.aliases root_is)

-- ---- no conflict

kept_not : (y : ℕ) → IsInConflict (4 ∷ []) (IsKept sys (4 ∷ [])) y → ⊥
kept_not y c =
    let three = bypass_is y c.other c.inside c.conflict.bypasses in
    let two = (last_is c.other c.conflict.stored.last c.conflict.stored.taken).0 in
    omega arith

abbrev Has : Atom → Formula → Type 0
Has a p = HasAtom (table.formula sys) (Starts sys) a p

has_of : (a : Atom) (x : ℕ) → Has a (Of x) → Has a (table.formula sys x)
has_of a x (formula.in_of h) = h

has_if : (a b : Atom) → Has a (If b) → b ≡ a
has_if a b formula.in_if = refl

has_if_not : (a b : Atom) → Has a (IfNot b) → b ≡ a
has_if_not a b formula.in_if_not = refl

has_both : (a : Atom) (p q : Formula) → Has a (Both p q) → Has a p ⊎ Has a q
has_both a p q (formula.both_first h) = inl h
has_both a p q (formula.both_second h) = inr h

has_either : (a : Atom) (p q : Formula) → Has a (Either p q) → Has a p ⊎ Has a q
has_either a p q (formula.either_first h) = inl h
has_either a p q (formula.either_second h) = inr h

has_unless : (a b : Atom) (v : ℕ) → Has a (Unless v b) → b ≡ a
has_unless a b v (formula.in_unless none) = refl

abbrev Plain : Formula → Type 0
Plain Always = ⊤
Plain Never = ⊤
Plain _ = ⊥

has_plain : (a : Atom) (p : Formula) → Plain p → Has a p → ⊥
has_plain a Always plain h = elim h [ ]
has_plain a Never plain h = elim h [ ]
has_plain a (If b) plain h = plain
has_plain a (IfNot b) plain h = plain
has_plain a (Of x) plain h = plain
has_plain a (Both p q) plain h = plain
has_plain a (Either p q) plain h = plain
has_plain a (Unless v b) plain h = plain

abbrev atoms : List Atom
atoms = Start ∷ Happens 0 ∷ Happens 3 ∷ []

input_atoms : (a : Atom) → Has a (Of 0) → Contains atoms a
input_atoms a h = (1, omega arith, has_if a (Happens 0) (has_of a 0 h))

empty_atoms : (a : Atom) → Has a (Of 1) → Contains atoms a
empty_atoms a h = (0, omega arith, has_if a Start (has_of a 1 h))

last_atoms : (a : Atom) → Has a (Of 3) → Contains atoms a
last_atoms a h = elim (has_both a (IfNot Start) (Both (Of 0) (Unless 2 (Happens 3))) (has_of a 3 h)) [
  | inl start ↦ (0, omega arith, has_if_not a Start start)
  | inr more ↦ elim (has_both a (Of 0) (Unless 2 (Happens 3)) more) [
    | inl resets ↦ input_atoms a resets
    | inr fires ↦ (2, omega arith, has_unless a (Happens 3) 2 fires)
  ]
]

update_atoms : (a : Atom) → Has a (Of 4) → Contains atoms a
update_atoms a h = elim (has_both a (Of 3) (Both (Of 0) Always) (has_of a 4 h)) [
  | inl source ↦ last_atoms a source
  | inr more ↦ elim (has_both a (Of 0) Always more) [
    | inl key ↦ input_atoms a key
    | inr none ↦ absurd (has_plain a Always tt none)
  ]
]

merge_atoms : (a : Atom) → Has a (Of 2) → Contains atoms a
merge_atoms a h = elim (has_either a (Of 4) (Either (Of 1) Never) (has_of a 2 h)) [
  | inl first ↦ update_atoms a first
  | inr more ↦ elim (has_either a (Of 1) Never more) [
    | inl second ↦ empty_atoms a second
    | inr none ↦ absurd (has_plain a Never tt none)
  ]
]

-- where the update has an event, so has the set so far, which is the one stored variable
overwrites : Implies sys 4 2
overwrites = inr (record {
  few = record { atoms = atoms; all = λ a h. elim h [ inl of ↦ update_atoms a of | inr of ↦ merge_atoms a of ]; few = omega arith };
  fires = λ holds h. formula.through (formula.first h);
})

shares_is : (v u : ℕ) → Shares sys (4 ∷ []) v u → (v ≡ 2) × (u ≡ 2)
shares_is v u (sharing.itself st) = let is = (last_is v st.last st.taken).0 in (is, is)
shares_is v u (sharing.turned sh) = let r = shares_is u v sh in (r.1, r.0)
shares_is v u (sharing.common_root r sv su rv ru) = ((last_is v sv.last sv.taken).0, (last_is u su.last su.taken).0)
shares_is v u (sharing.last_roots sv su cv cu sh) = ((last_is v sv.last sv.taken).0, (last_is u su.last su.taken).0)
shares_is v u (sharing.last_root {u = w} sv cv sh) = ((last_is v sv.last sv.taken).0, (shares_is w u sh).1)

overwritten : (y : ℕ) → IsInConflict (4 ∷ []) (IsNotOverwritten sys (4 ∷ [])) y → ⊥
overwritten y c =
    let y_is = listed_is y c.inside in
    let v_is = (shares_is c.other c.conflict.last c.conflict.shares).0 in
    c.conflict.not_implied (subst (λ v. Implies sys y v) (sym v_is) (subst (λ n. Implies sys n 2) (sym y_is) overwrites))

-- ---- the pairs, and the order

abbrev pairs : List (ℕ × ℕ)
pairs = (4, 2) ∷ (1, 2) ∷ (0, 3) ∷ (3, 4) ∷ (0, 4) ∷ (3, 5) ∷ (5, 4) ∷ []

at_pair : (p q a b : ℕ) → a ≡ p → b ≡ q → ◌≡◌ {A = ℕ × ℕ} (p, q) (a, b)
at_pair p q a b is_a is_b = λ k. (sym is_a k, sym is_b k)

argument_pair : (i : ℕ) (e : Equation) → equation sys i ≡ Some e → (a : ℕ) → Contains (unguarded_of e.op e.args) a → Contains pairs (a, i)
argument_pair = each_equation (λ i e. (a : ℕ) → Contains (unguarded_of e.op e.args) a → Contains pairs (a, i))
    (λ a found. absurd (none_in_nil a found))
    (λ a found. absurd (none_in_nil a found))
    (λ a found. elim (in_two 4 1 a found) [ inl is ↦ (0, omega arith, at_pair 4 2 a 2 is refl) | inr is ↦ (1, omega arith, at_pair 1 2 a 2 is refl) ])
    (λ a found. (2, omega arith, at_pair 0 3 a 3 (in_one 0 a found) refl))
    (λ a found. elim (in_two 3 0 a found) [ inl is ↦ (3, omega arith, at_pair 3 4 a 4 is refl) | inr is ↦ (4, omega arith, at_pair 0 4 a 4 is refl) ])

takes_is : (y x u : ℕ) → TakesBefore sys y x u → y ≡ 4 → x ≡ 3 → u ≡ 5
takes_is y x u (conflict.read t) y_is x_is = absurd (read_at u t.at t.is x t.argument)
takes_is y x u (conflict.printed k p step_is) y_is x_is = let first = (printed_at k p.output p.is).0 in omega arith
takes_is y x u (conflict.passed t enters) y_is x_is = elim (passed_at u t.at t.is x t.argument).0 [ inl four ↦ absurd (omega arith) | inr one ↦ absurd (omega arith) ]
takes_is y x u (conflict.written t other) y_is x_is = absurd (other ((written_is x u t).1 ∙ sym y_is))

pair_of : (a b : ℕ) → StandsBefore sys (4 ∷ []) a b → Contains pairs (a, b)
pair_of a b (conflict.needed (steps.argument run n)) = argument_pair b n.at n.is a n.argument
pair_of a b (conflict.needed (steps.printed k o is a_is b_is)) =
    let p = printed_at k o is in
    let first : a ≡ 3 = a_is ∙ p.1 in
    let second : b ≡ 5 = let zeroth = p.0 in omega arith in
    (5, omega arith, at_pair 3 5 a b first second)
pair_of a b (conflict.bypasses listed bypass) = (3, omega arith, at_pair 3 4 a b (bypass_is b a listed bypass) (listed_is b listed))
pair_of a b (conflict.takes x listed bypass t) =
    let b_is = listed_is b listed in
    (6, omega arith, at_pair 5 4 a b (takes_is b x a t (listed_is b listed) (bypass_is b x listed bypass)) b_is)

rises : (a b : ℕ) → StandsBefore sys (4 ∷ []) a b → place a < place b
unfolding place
rises a b e = all_at (λ p. place p.0 < place p.1) pairs (omega arith, (omega arith, (omega arith, (omega arith, (omega arith, (omega arith, (omega arith, tt))))))) (a, b) (pair_of a b e)

path_rises : (a b : ℕ) → Path (StandsBefore sys (4 ∷ [])) a b → place a < place b
path_rises a b (edge e) = rises a b e
path_rises a b (step {b = c} e p) = let first = rises a c e in let rest = path_rises c b p in omega arith

fine : IsFine sys (4 ∷ [])
fine = record { none_kept = kept_not; all_overwritten = overwritten; acyclic = λ a p. let low = path_rises a a p in omega arith }

precedes : (i j a b : ℕ) → slice_get plan.order i ≡ Some a → slice_get plan.order j ≡ Some b → i < j → Precedes plan.order a b
precedes i j a b is_a is_b lt = record { first = i; second = j; first_is = is_a; second_is = is_b; is_before = lt }

in_order : (a b : ℕ) → StandsBefore sys (4 ∷ []) a b → Precedes plan.order a b
in_order a b e = all_at (λ p. Precedes plan.order p.0 p.1) pairs (
  precedes 4 5 4 2 refl refl (omega arith),
  (
    precedes 1 5 1 2 refl refl (omega arith),
    (
      precedes 0 2 0 3 refl refl (omega arith),
      (
        precedes 2 4 3 4 refl refl (omega arith),
        (precedes 0 4 0 4 refl refl (omega arith), (precedes 2 3 3 5 refl refl (omega arith), (precedes 3 4 5 4 refl refl (omega arith), tt))),
      ),
    ),
  ),
) (a, b) (pair_of a b e)

once : IsDistinct eqb plan.order
unfolding IsDistinct
once = (
  (refl, (refl, (refl, (refl, (refl, tt))))),
  ((refl, (refl, (refl, (refl, tt)))), ((refl, (refl, (refl, tt))), ((refl, (refl, tt)), ((refl, tt), (tt, tt))))),
)

low_steps : (x : ℕ) → IsTrue (is_step sys x) → x < 6
low_steps x is = elim (or_cases (runs sys x) (is_print sys x) is) [
  | inl run ↦
      let low = all_at (λ m. m < 5) (0 ∷ 1 ∷ 2 ∷ 3 ∷ 4 ∷ []) (omega arith, (omega arith, (omega arith, (omega arith, (omega arith, tt))))) x (Contains-in (0 ∷ 1 ∷ 2 ∷ 3 ∷ 4 ∷ []) x run) in
      omega arith
  | inr print ↦ ltb-true x 6 (and_parts _ _ print).1
]

low_order : (x : ℕ) → Contains plan.order x → x < 6
low_order x found = all_at (λ m. m < 6) plan.order (omega arith, (omega arith, (omega arith, (omega arith, (omega arith, (omega arith, tt)))))) x found

each_step : (x : ℕ) → Contains plan.order x ↔ IsTrue (is_step sys x)
each_step zero = (λ _. refl, λ _. (0, omega arith, refl))
each_step (suc zero) = (λ _. refl, λ _. (1, omega arith, refl))
each_step (suc (suc zero)) = (λ _. refl, λ _. (5, omega arith, refl))
each_step (suc (suc (suc zero))) = (λ _. refl, λ _. (2, omega arith, refl))
each_step (suc (suc (suc (suc zero)))) = (λ _. refl, λ _. (4, omega arith, refl))
each_step (suc (suc (suc (suc (suc zero))))) = (λ _. refl, λ _. (3, omega arith, refl))
each_step (suc (suc (suc (suc (suc (suc n)))))) = (
  λ found. let low = low_order (suc (suc (suc (suc (suc (suc n)))))) found in absurd (omega arith),
  λ is. let low = low_steps (suc (suc (suc (suc (suc (suc n)))))) is in absurd (omega arith),
)

updates : AreUpdates sys (4 ∷ [])
updates y listed = subst (IsUpdate sys) (sym (listed_is y listed)) refl

pub plan_fine : IsFinePlan sys plan.in_place plan.order
plan_fine = record { updates = updates; fine = fine; ordered = record { once = once; steps = each_step; agrees = in_order } }

-- so all that the laws ask for is there, for any typed lines and at any bound
pub given : (lines : List Line) (bound : ℕ) → AreTypedLines sys lines → bound ≤ 2 ^ 63 → (z : Streams) × IsGiven sys plan lines bound z
given lines bound typed small =
    let solved = ranked_solution sys (rank_of sys well_formed) is_flat.proper (well_formed_ranked sys well_formed) (inputs_of lines) bound in
    (solved.0, record { flat = is_flat; fine = plan_fine; typed_lines = typed; solves = solved.1; small = small })

-- its code: the print stands before the update, which runs in place
code_is : body sys plan ≡ Run 0 ∷ Run 1 ∷ Run 3 ∷ Print 0 ∷ RunInPlace 4 ∷ Run 2 ∷ []
code_is = refl

ending_is : ending sys ≡ Keep 2 ∷ []
ending_is = refl
