-- Calls over nodes nest by their variables, and these are those of atoms.
use Rattle.std.proofs.Common.{◌≡◌, ℕ, zero, suc, ◌+◌, ◌<◌, ◌≤◌, ◌==◌, ◌⊎◌, Bool, true, false, cond, nat_lt, if◌then◌else◌, List, [], ◌∷◌, length, map, refl, sym, ap, subst, ◌∙◌, inl, inr, arith}
use Rattle.std.specs.Prelude.{IsTrue, IsFalse}
use Rattle.std.specs.List.{Contains, filter}
use Rattle.std.proofs.lemmas.Bool.{cases_Bool, cases_eq, true≢false, false≢true, eq-eqb, eqb-true, lt-ltb, le-ltb, ltb-true}
use Rattle.flat_core.specs.System.{System}
use Rattle.flat_core.specs.Members.{is_in}
use Rattle.flat_core.proofs.Members.{Contains-in, in-Contains}
use Rattle.trigger_rules.specs.declared.atom.Atom.{Atom}
use Rattle.trigger_rules.specs.Formula.{Formula, Assignment, Of, Meets, always, atom, no_atom, through, both, first, second, started, unless, HasAtom, in_if, in_if_not, in_of, both_first, both_second, either_first, either_second, in_unless, Unless}
use Rattle.trigger_rules.specs.Question.{Starts, Stands, Fires}
use Rattle.trigger_rules.specs.Table.{formula}
use Rattle.tsl_value.proofs.Lists.{here, later, cons_cases, map_contains}
use Rattle.decision_diagrams.specs.declared.arena.Branch.{Branch}
use Rattle.decision_diagrams.specs.declared.join.Pair.{Pair}
use Rattle.decision_diagrams.specs.declared.join.Split.{Split}
use Rattle.decision_diagrams.specs.inner.DecisionTree.{DecisionTree, Leaf, Fork, Valuation, value, Agree, IsAfter, IsCanonical, with_value}
use Rattle.decision_diagrams.specs.inner.Arena.{tree_at, AreCanonical, Grows, IsNode}
use Rattle.decision_diagrams.specs.inner.Join.{AreNodes, IsSplit}
use Rattle.trigger_diagram.specs.inner.Kept.{Kept, AreDiagramsOf, IsNodeIn, IsNodeOf}
use Rattle.trigger_diagram.specs.inner.Truth.{variable_of, truth}
use Rattle.trigger_diagram.specs.inner.Ways.{Occurs, OccursInOne, IsSide, Nests, none, one_more}
use Rattle.decision_diagrams.proofs.DecisionTrees.{low_value, high_value, same_tree}
use Rattle.trigger_diagram.proofs.Truths.{assignment_of, truth_is, valuation_is}

-- ---- the numbers above one of them are fewer
abbrev above : ℕ → List ℕ → List ℕ
above x xs = filter (nat_lt x) xs

above_cons : (x z : ℕ) (xs : List ℕ) (b : Bool) → nat_lt x z ≡ b → above x (z ∷ xs) ≡ cond b (z ∷ above x xs) (above x xs)
above_cons x z xs b e = ap (λ c. cond c (z ∷ above x xs) (above x xs)) e

no_more : (x : ℕ) (xs : List ℕ) → length (above x xs) ≤ length xs
no_more x [] = omega arith
no_more x (z ∷ xs) = elim (cases_Bool (nat_lt x z)) [
  | inl more ↦ let l = ap length (above_cons x z xs true more) in let r = no_more x xs in omega arith
  | inr less ↦ let l = ap length (above_cons x z xs false less) in let r = no_more x xs in omega arith
]

fewer : (x : ℕ) (xs : List ℕ) → Contains xs x → length (above x xs) < length xs
fewer x [] there = let low = there.1 in absurd (omega arith)
fewer x (z ∷ xs) there = elim (cons_cases z x xs there) [
  | inl same ↦
      let l = ap length (above_cons x z xs false (le-ltb x z (omega arith))) in
      let r = no_more x xs in omega arith
  | inr rest ↦
      let r = fewer x xs rest in
      elim (cases_Bool (nat_lt x z)) [
        | inl more ↦ let l = ap length (above_cons x z xs true more) in omega arith
        | inr less ↦ let l = ap length (above_cons x z xs false less) in omega arith
      ]
]

is_above : (x y : ℕ) (xs : List ℕ) → x < y → Contains xs y → Contains (above x xs) y
is_above x y [] lt there = let low = there.1 in absurd (omega arith)
is_above x y (z ∷ xs) lt there = elim (cons_cases z y xs there) [
  | inl same ↦ subst (λ l. Contains l y) (sym (above_cons x z xs true (lt-ltb x z (omega arith)))) (subst (λ k. Contains (k ∷ above x xs) y) (sym same) (here y (above x xs)))
  | inr rest ↦
      let it = is_above x y xs lt rest in
      elim (cases_Bool (nat_lt x z)) [
        | inl more ↦ subst (λ l. Contains l y) (sym (above_cons x z xs true more)) (later z y (above x xs) it)
        | inr less ↦ subst (λ l. Contains l y) (sym (above_cons x z xs false less)) it
      ]
]

-- ---- variables
occurs_after : (x y : ℕ) (t : DecisionTree) → IsAfter x t → IsCanonical t → Occurs y t → x < y
occurs_after x y (Leaf b) deeper can deep = elim deep [ ]
occurs_after x y (Fork z low high) deeper can (inl same) = omega arith
occurs_after x y (Fork z low high) deeper can (inr (inl deep)) = let less = occurs_after z y low can.0 can.3 deep in omega arith
occurs_after x y (Fork z low high) deeper can (inr (inr deep)) = let less = occurs_after z y high can.1 can.4 deep in omega arith

chosen_same : (b p q r : Bool) → p ≡ r → q ≡ r → (if b then p else q) ≡ r
chosen_same true p q r e f = e
chosen_same false p q r e f = f

module _ (bs : List Branch) (can : AreCanonical bs) where
  -- a node is both its parts by a variable, or its tree has the variable first
  parts : (n low high x : ℕ) → IsNode bs n → IsNode bs low → IsNode bs high → IsAfter x (tree_at bs low) → IsAfter x (tree_at bs high) → ((v : Valuation) → value v (tree_at bs n) ≡ (if v x then value v (tree_at bs high) else value v (tree_at bs low))) → ((n ≡ low) × (n ≡ high)) ⊎ (tree_at bs n ≡ Fork x (tree_at bs low) (tree_at bs high))
  parts n low high x node low_node high_node low_after high_after exact = elim (cases_eq low high) [
    | inl same ↦
        let trees = same_tree (tree_at bs n) (tree_at bs low) (can.canonical n node) (can.canonical low low_node) (λ v. exact v ∙ chosen_same (v x) _ _ _ (ap (λ k. value v (tree_at bs k)) (sym same)) refl) in
        let is = can.once n low node low_node trees in
        inl (is, is ∙ same)
    | inr other ↦ inr (same_tree (tree_at bs n) (Fork x (tree_at bs low) (tree_at bs high)) (can.canonical n node) (low_after, high_after, λ e. other (can.once low high low_node high_node e), can.canonical low low_node, can.canonical high high_node) exact)
  ]

  module _ (n low high x : ℕ) (either : ((n ≡ low) × (n ≡ high)) ⊎ (tree_at bs n ≡ Fork x (tree_at bs low) (tree_at bs high))) where
    in_low : (y : ℕ) → Occurs y (tree_at bs low) → Occurs y (tree_at bs n)
    in_low y deep = elim either [
      | inl same ↦ subst (λ k. Occurs y (tree_at bs k)) (sym same.0) deep
      | inr fork ↦ subst (Occurs y) (sym fork) (inr (inl deep))
    ]

    in_high : (y : ℕ) → Occurs y (tree_at bs high) → Occurs y (tree_at bs n)
    in_high y deep = elim either [
      | inl same ↦ subst (λ k. Occurs y (tree_at bs k)) (sym same.1) deep
      | inr fork ↦ subst (Occurs y) (sym fork) (inr (inr deep))
    ]

  module _ (p : Pair) (nodes : AreNodes bs p) (s : Split) (split : IsSplit bs p s) where
    firsts : ((p.first ≡ s.low.first) × (p.first ≡ s.high.first)) ⊎ (tree_at bs p.first ≡ Fork s.variable (tree_at bs s.low.first) (tree_at bs s.high.first))
    firsts = parts p.first s.low.first s.high.first s.variable nodes.0 split.low.0 split.high.0 split.low_after.0 split.high_after.0 split.first

    seconds : ((p.second ≡ s.low.second) × (p.second ≡ s.high.second)) ⊎ (tree_at bs p.second ≡ Fork s.variable (tree_at bs s.low.second) (tree_at bs s.high.second))
    seconds = parts p.second s.low.second s.high.second s.variable nodes.1 split.low.1 split.high.1 split.low_after.1 split.high_after.1 split.second

    variable_in : OccursInOne bs p s.variable
    variable_in = elim firsts [
      | inr fork ↦ inl (subst (Occurs s.variable) (sym fork) (inl refl))
      | inl same ↦ elim seconds [
        | inr fork ↦ inr (subst (Occurs s.variable) (sym fork) (inl refl))
        | inl other ↦ let a = same.0 in let b = other.0 in let less = split.low_less in absurd (omega arith)
      ]
    ]

    low_in : (y : ℕ) → OccursInOne bs s.low y → OccursInOne bs p y × (s.variable < y)
    low_in y (inl deep) = (inl (in_low p.first s.low.first s.high.first s.variable firsts y deep), occurs_after s.variable y (tree_at bs s.low.first) split.low_after.0 (can.canonical s.low.first split.low.0) deep)
    low_in y (inr deep) = (inr (in_low p.second s.low.second s.high.second s.variable seconds y deep), occurs_after s.variable y (tree_at bs s.low.second) split.low_after.1 (can.canonical s.low.second split.low.1) deep)

    high_in : (y : ℕ) → OccursInOne bs s.high y → OccursInOne bs p y × (s.variable < y)
    high_in y (inl deep) = (inl (in_high p.first s.low.first s.high.first s.variable firsts y deep), occurs_after s.variable y (tree_at bs s.high.first) split.high_after.0 (can.canonical s.high.first split.high.0) deep)
    high_in y (inr deep) = (inr (in_high p.second s.low.second s.high.second s.variable seconds y deep), occurs_after s.variable y (tree_at bs s.high.second) split.high_after.1 (can.canonical s.high.second split.high.1) deep)

-- a side of two nodes has variables of both, which come after that by which they are split
side_in : (bs : List Branch) → AreCanonical bs → (p q : Pair) → AreNodes bs p → (side : IsSide bs p q) → (y : ℕ) → OccursInOne bs q y → OccursInOne bs p y × (side.split.variable < y)
side_in bs can p q nodes side y deep = elim side.one [
  | inl low ↦ low_in bs can p nodes side.split side.is y (subst (λ r. OccursInOne bs r y) low deep)
  | inr high ↦ high_in bs can p nodes side.split side.is y (subst (λ r. OccursInOne bs r y) high deep)
]

side_nodes : (bs : List Branch) (p q : Pair) → IsSide bs p q → AreNodes bs q
side_nodes bs p q side = elim side.one [
  | inl low ↦ subst (AreNodes bs) (sym low) side.is.low
  | inr high ↦ subst (AreNodes bs) (sym high) side.is.high
]

grown : (bs more : List Branch) (q : Pair) (y : ℕ) → Grows bs more → AreNodes bs q → OccursInOne more q y → OccursInOne bs q y
grown bs more q y grows nodes (inl deep) = inl (subst (Occurs y) (grows.kept q.first nodes.0) deep)
grown bs more q y grows nodes (inr deep) = inr (subst (Occurs y) (grows.kept q.second nodes.1) deep)

nodes_more : (bs more : List Branch) (q : Pair) → Grows bs more → AreNodes bs q → AreNodes more q
nodes_more bs more q grows nodes = let m = grows.many in ((let f = nodes.0 in omega arith), (let s = nodes.1 in omega arith))

pub nests_by_variables : {bs : List Branch} {p : Pair} {n : ℕ} → Nests bs p n → (variables : List ℕ) → AreCanonical bs → AreNodes bs p → ((x : ℕ) → OccursInOne bs p x → Contains variables x) → n ≤ length variables
nests_by_variables none variables can nodes all = omega arith
nests_by_variables (one_more {bs = bs} {more = more} {p = p} {q = q} side grows can_more nests) variables can nodes all =
    let x = side.split.variable in
    let sides = side_nodes bs p q side in
    let less = fewer x variables (all x (variable_in bs can p nodes side.split side.is)) in
    let rest = nests_by_variables nests (above x variables) can_more (nodes_more bs more q grows sides) (λ y deep. let it = side_in bs can p q nodes side y (grown bs more q y grows sides deep) in is_above x y variables it.1 (all y it.0)) in
    omega arith

-- ---- a tree depends on each of its variables
turned_by : (p q : Bool) → (p ≡ true → q ≡ true → ⊥) → (b c r : Bool) → (if p then c else if q then b else r) ≡ (if q then b else if p then c else r)
turned_by true true apart b c r = absurd (apart refl refl)
turned_by true false apart b c r = refl
turned_by false true apart b c r = refl
turned_by false false apart b c r = refl

with_turned : (v : Valuation) (x y : ℕ) (b c : Bool) → (x ≡ y → ⊥) → with_value (with_value v y b) x c ≡ with_value (with_value v x c) y b
with_turned v x y b c apart i z = turned_by (z == x) (z == y) (λ e f. apart (sym (eqb-true z x e) ∙ eqb-true z y f)) b c (v z) i

depends : (y : ℕ) (t : DecisionTree) → IsCanonical t → Occurs y t → ((v : Valuation) → value (with_value v y true) t ≡ value (with_value v y false) t) → ⊥
depends y (Leaf b) can deep alike = elim deep [ ]
depends y (Fork x low high) can (inl same) alike =
    can.2 (same_tree low high can.3 can.4 (λ v. sym (low_value v x low high can) ∙ sym (subst (λ z. value (with_value v z true) (Fork x low high) ≡ value (with_value v z false) (Fork x low high)) same (alike v)) ∙ high_value v x low high can))
depends y (Fork x low high) can (inr (inl deep)) alike =
    let less = occurs_after x y low can.0 can.3 deep in
    let at : (b : Bool) (v : Valuation) → value (with_value v y b) low ≡ value (with_value (with_value v x false) y b) (Fork x low high) =
    λ b v. sym (low_value (with_value v y b) x low high can) ∙ ap (λ w. value w (Fork x low high)) (with_turned v x y b false (λ e. omega arith)) in
    depends y low can.3 deep (λ v. at true v ∙ alike (with_value v x false) ∙ sym (at false v))
depends y (Fork x low high) can (inr (inr deep)) alike =
    let less = occurs_after x y high can.1 can.4 deep in
    let at : (b : Bool) (v : Valuation) → value (with_value v y b) high ≡ value (with_value (with_value v x true) y b) (Fork x low high) =
    λ b v. sym (high_value (with_value v y b) x low high can) ∙ ap (λ w. value w (Fork x low high)) (with_turned v x y b true (λ e. omega arith)) in
    depends y high can.4 deep (λ v. at true v ∙ alike (with_value v x true) ∙ sym (at false v))

-- ---- a formula does not depend on an atom that does not stand in it
module _ (table : ℕ → Formula) (K : ℕ → Type 0) (holds other : Assignment) where
  not_refuted : {p : Formula} → Meets table K holds p → ((a : Atom) → HasAtom table K a p → holds a ≡ other a) → (Meets table K other p → ⊥) → ⊥
  not_refuted always same never = never always
  not_refuted (atom {a = a} h) same never = never (atom (sym (same a in_if) ∙ h))
  not_refuted (no_atom {a = a} h) same never = never (no_atom (sym (same a in_if_not) ∙ h))
  not_refuted (through m) same never = not_refuted m (λ a h. same a (in_of h)) (λ n. never (through n))
  not_refuted (both m n) same never = not_refuted m (λ a h. same a (both_first h)) (λ i. not_refuted n (λ a h. same a (both_second h)) (λ j. never (both i j)))
  not_refuted (first m) same never = not_refuted m (λ a h. same a (either_first h)) (λ i. never (first i))
  not_refuted (second m) same never = not_refuted m (λ a h. same a (either_second h)) (λ i. never (second i))
  not_refuted (started k) same never = never (started k)
  not_refuted (unless {v = v} {a = a} h) same never = never (unless (sym (same a (in_unless (λ k. never (started k)))) ∙ h))

alike_by : (p q : Bool) → (p ≡ true → q ≡ false → ⊥) → (q ≡ true → p ≡ false → ⊥) → p ≡ q
alike_by true true one two = refl
alike_by true false one two = absurd (one refl refl)
alike_by false true one two = absurd (two refl refl)
alike_by false false one two = refl

module _ (d : Kept) (s : System) (x n : ℕ) (atoms : List Atom) (can : AreCanonical d.branches) (are : AreDiagramsOf d s) (node : IsNodeIn d n) (exact : IsNodeOf d x n) (all : (a : Atom) → Stands s x a → Contains atoms a) (y : ℕ) where
  abbrev tree : DecisionTree
  tree = tree_at d.branches n

  -- the formula's value where it is that of the tree in a valuation
  told : (v : Valuation) → truth d.branches n (assignment_of v) ≡ value v tree
  told v = truth_is d.branches n (assignment_of v) ∙ ap (λ w. value w tree) (valuation_is v)

  one_way : (v w : Valuation) → ((a : Atom) → Stands s x a → assignment_of v a ≡ assignment_of w a) → value v tree ≡ true → value w tree ≡ false → ⊥
  one_way v w same holds_v fails_w =
      let fires = (exact s are (assignment_of v)).0 (told v ∙ holds_v) in
      not_refuted (formula s) (Starts s) (assignment_of v) (assignment_of w) fires same (λ g. true≢false (sym ((exact s are (assignment_of w)).1 g) ∙ told w ∙ fails_w))

  apart : (Contains (map variable_of atoms) y → ⊥) → (v : Valuation) (b c : Bool) (a : Atom) → Stands s x a → assignment_of (with_value v y b) a ≡ assignment_of (with_value v y c) a
  apart out v b c a stands = elim (cases_Bool (variable_of a == y)) [
    | inl same ↦ absurd (out (subst (Contains (map variable_of atoms)) (eqb-true (variable_of a) y same) (map_contains variable_of atoms a (all a stands))))
    | inr other ↦ ap (λ t. if t then b else v (variable_of a)) other ∙ sym (ap (λ t. if t then c else v (variable_of a)) other)
  ]

  pub variables_stand : Occurs y tree → Contains (map variable_of atoms) y
  variables_stand deep = elim (cases_Bool (is_in (map variable_of atoms) y)) [
    | inl there ↦ Contains-in (map variable_of atoms) y there
    | inr missing ↦
        let out : Contains (map variable_of atoms) y → ⊥ = λ c. true≢false (sym (in-Contains (map variable_of atoms) y c) ∙ missing) in
        absurd (depends y tree (can.canonical n node) deep (λ v. alike_by (value (with_value v y true) tree) (value (with_value v y false) tree) (one_way (with_value v y true) (with_value v y false) (apart out v true false)) (one_way (with_value v y false) (with_value v y true) (apart out v false true))))
  ]
