-- Which pairs of nodes some valuation has.
use Rattle.std.proofs.Common.{◌≡◌, ℕ, ◌==◌, ◌↔◌, ◌⊎◌, Bool, true, false, not, cond, if◌then◌else◌, List, Some, None, refl, sym, ap, subst, ◌∙◌, inl, inr, arith}
use Rattle.std.specs.Prelude.{IsTrue}
use Rattle.std.proofs.lemmas.Bool.{cases_Bool, true≢false, false≢true, eq-eqb, eqb-true}
use Rattle.std.proofs.lemmas.Option.{same_Some}
use Rattle.indexmap.specs.IndexSet.{IndexSet, contains}
use Rattle.decision_diagrams.specs.declared.arena.Branch.{Branch}
use Rattle.decision_diagrams.specs.declared.join.Pair.{Pair}
use Rattle.decision_diagrams.specs.declared.join.Split.{Split}
use Rattle.decision_diagrams.specs.inner.DecisionTree.{Agree, Valuation, value, IsAfter, with_value}
use Rattle.decision_diagrams.specs.inner.Arena.{tree_at, IsNode, AreCanonical}
use Rattle.decision_diagrams.specs.inner.Join.{asked, decided, same_pair, AreNodes, AreRefuted, AreTogether, IsFound, IsImplied, IsSplit}
use Rattle.decision_diagrams.proofs.DecisionTrees.{has_other, same_tree, value_with, with_same}
use Rattle.decision_diagrams.proofs.Joining.{pair_to, value_no, value_yes}

asked_at : (both p q r s : Bool) → p ≡ r → q ≡ s → IsTrue (asked both r s) → IsTrue (asked both p q)
asked_at both p q r s e f h = (λ i. asked both (e i) (f i)) ∙ h

asked_first : (both p q : Bool) → IsTrue (asked both p q) → p ≡ true
asked_first both true q h = refl
asked_first both false q h = absurd (false≢true h)

asked_second : (both p q : Bool) → IsTrue (asked both p q) → q ≡ both
asked_second true true true h = refl
asked_second true true false h = absurd (false≢true h)
asked_second false true true h = absurd (false≢true h)
asked_second false true false h = refl
asked_second both false q h = absurd (false≢true h)

asked_both : (both p q : Bool) → p ≡ true → q ≡ both → IsTrue (asked both p q)
asked_both true true true e f = refl
asked_both true true false e f = absurd (false≢true f)
asked_both false true true e f = absurd (true≢false f)
asked_both false true false e f = refl
asked_both both false q e f = absurd (false≢true e)

module _ (bs : List Branch) (can : AreCanonical bs) (both : Bool) (p : Pair) (nodes : AreNodes bs p) where
  abbrev at : Valuation → ℕ → Bool
  at v n = value v (tree_at bs n)

  never : ((v : Valuation) → at v p.first ≡ true → at v p.second ≡ both → ⊥) → IsTrue false ↔ IsFound both bs p
  never none = (
    λ h. absurd (false≢true h),
    λ f. absurd (none f.valuation (asked_first both (at f.valuation p.first) (at f.valuation p.second) f.holds) (asked_second both (at f.valuation p.first) (at f.valuation p.second) f.holds)),
  )

  there : (v : Valuation) → at v p.first ≡ true → at v p.second ≡ both → IsTrue true ↔ IsFound both bs p
  there v e f = (λ h. record { valuation = v; holds = asked_both both (at v p.first) (at v p.second) e f }, λ h. refl)

  -- a node that is not the first leaf is somewhere true, and one that is not the second somewhere false
  some_yes : (n : ℕ) → IsNode bs n → (n ≡ 0 → ⊥) → (v : Valuation) × (at v n ≡ true)
  some_yes n node other = has_other (tree_at bs n) false (can.canonical n node) (λ e. other (can.once n 0 node (omega arith) (e ∙ sym can.no)))

  some_no : (n : ℕ) → IsNode bs n → (n ≡ 1 → ⊥) → (v : Valuation) × (at v n ≡ false)
  some_no n node other = has_other (tree_at bs n) true (can.canonical n node) (λ e. other (can.once n 1 node (omega arith) (e ∙ sym can.yes)))

decided_by : (bs : List Branch) (can : AreCanonical bs) (both : Bool) (p : Pair) (nodes : AreNodes bs p) (a0 b0 b1 a1 : Bool) (r : Bool) → (a0 ≡ true → p.first ≡ 0) → (a0 ≡ false → p.first ≡ 0 → ⊥) → (b0 ≡ true → p.second ≡ 0) → (b0 ≡ false → p.second ≡ 0 → ⊥) → (b1 ≡ true → p.second ≡ 1) → (b1 ≡ false → p.second ≡ 1 → ⊥) → (a1 ≡ true → p.first ≡ 1) → (if a0 then Some false else if b0 then Some (not both) else if b1 then Some both else if a1 then Some true else None) ≡ Some r → IsTrue r ↔ IsFound both bs p
decided_by bs can both p nodes true b0 b1 a1 r f f' g g' h h' k e = subst (λ t. IsTrue t ↔ IsFound both bs p) (same_Some false r e) (never bs can both p nodes (λ v yes other. false≢true (sym (value_no bs p.first v (f refl)) ∙ yes)))
decided_by bs can true p nodes false true b1 a1 r f f' g g' h h' k e = subst (λ t. IsTrue t ↔ IsFound true bs p) (same_Some false r e) (never bs can true p nodes (λ v yes other. false≢true (sym (value_no bs p.second v (g refl)) ∙ other)))
decided_by bs can false p nodes false true b1 a1 r f f' g g' h h' k e =
    let v = some_yes bs can false p nodes p.first nodes.0 (f' refl) in
    subst (λ t. IsTrue t ↔ IsFound false bs p) (same_Some true r e) (there bs can false p nodes v.0 v.1 (value_no bs p.second v.0 (g refl)))
decided_by bs can true p nodes false false true a1 r f f' g g' h h' k e =
    let v = some_yes bs can true p nodes p.first nodes.0 (f' refl) in
    subst (λ t. IsTrue t ↔ IsFound true bs p) (same_Some true r e) (there bs can true p nodes v.0 v.1 (value_yes bs p.second v.0 (h refl)))
decided_by bs can false p nodes false false true a1 r f f' g g' h h' k e = subst (λ t. IsTrue t ↔ IsFound false bs p) (same_Some false r e) (never bs can false p nodes (λ v yes other. true≢false (sym (value_yes bs p.second v (h refl)) ∙ other)))
decided_by bs can true p nodes false false false true r f f' g g' h h' k e =
    let v = some_yes bs can true p nodes p.second nodes.1 (g' refl) in
    subst (λ t. IsTrue t ↔ IsFound true bs p) (same_Some true r e) (there bs can true p nodes v.0 (value_yes bs p.first v.0 (k refl)) v.1)
decided_by bs can false p nodes false false false true r f f' g g' h h' k e =
    let v = some_no bs can false p nodes p.second nodes.1 (h' refl) in
    subst (λ t. IsTrue t ↔ IsFound false bs p) (same_Some true r e) (there bs can false p nodes v.0 (value_yes bs p.first v.0 (k refl)) v.1)
decided_by bs can both p nodes false false false false r f f' g g' h h' k e = cc

differs : (a b : ℕ) → (a == b) ≡ false → a ≡ b → ⊥
differs a b f e = true≢false (sym (eq-eqb a b e) ∙ f)

pub decided_is : (bs : List Branch) (can : AreCanonical bs) (both : Bool) (p : Pair) (nodes : AreNodes bs p) (r : Bool) → decided both p ≡ Some r → IsTrue r ↔ IsFound both bs p
decided_is bs can both p nodes r e =
    decided_by bs can both p nodes (p.first == 0) (p.second == 0) (p.second == 1) (p.first == 1) r (eqb-true p.first 0) (differs p.first 0) (eqb-true p.second 0) (differs p.second 0) (eqb-true p.second 1) (differs p.second 1) (eqb-true p.first 1) e

-- ---- the step of the recursion
module _ (bs : List Branch) (can : AreCanonical bs) (both : Bool) (p : Pair) (s : Split) (split : IsSplit bs p s) where
  abbrev is : Valuation → ℕ → Bool
  is v n = value v (tree_at bs n)

  side : (b : Bool) (v : Valuation) (n low high k : ℕ) → ((w : Valuation) → is w n ≡ (if w s.variable then is w high else is w low)) → k ≡ (if b then high else low) → IsNode bs k → IsAfter s.variable (tree_at bs k) → is (with_value v s.variable b) n ≡ is v k
  side true v n low high k parts same node deeper =
      parts (with_value v s.variable true) ∙ ap (λ t. if t then is (with_value v s.variable true) high else is (with_value v s.variable true) low) (with_same v s.variable true)
      ∙ ap (λ m. is (with_value v s.variable true) m) (sym same) ∙ value_with v s.variable true (tree_at bs k) deeper (can.canonical k node)
  side false v n low high k parts same node deeper =
      parts (with_value v s.variable false) ∙ ap (λ t. if t then is (with_value v s.variable false) high else is (with_value v s.variable false) low) (with_same v s.variable false)
      ∙ ap (λ m. is (with_value v s.variable false) m) (sym same) ∙ value_with v s.variable false (tree_at bs k) deeper (can.canonical k node)

  pub from_low : IsFound both bs s.low → IsFound both bs p
  from_low f = record {
    valuation = with_value f.valuation s.variable false;
    holds =
        asked_at both _ _ _ _ (side false f.valuation p.first s.low.first s.high.first s.low.first split.first refl split.low.0 split.low_after.0)
        (side false f.valuation p.second s.low.second s.high.second s.low.second split.second refl split.low.1 split.low_after.1) f.holds;
  }

  pub from_high : IsFound both bs s.high → IsFound both bs p
  from_high f = record {
    valuation = with_value f.valuation s.variable true;
    holds =
        asked_at both _ _ _ _ (side true f.valuation p.first s.low.first s.high.first s.high.first split.first refl split.high.0 split.high_after.0)
        (side true f.valuation p.second s.low.second s.high.second s.high.second split.second refl split.high.1 split.high_after.1) f.holds;
  }

  pub to_side : IsFound both bs p → IsFound both bs s.low ⊎ IsFound both bs s.high
  to_side f = elim (cases_Bool (f.valuation s.variable)) [
    | inl yes_v ↦ inr (record {
      valuation = f.valuation;
      holds = asked_at both _ _ _ _ (sym (split.first f.valuation ∙ ap (λ t. if t then is f.valuation s.high.first else is f.valuation s.low.first) yes_v)) (sym (split.second f.valuation ∙ ap (λ t. if t then is f.valuation s.high.second else is f.valuation s.low.second) yes_v)) f.holds;
    })
    | inr no_v ↦ inl (record {
      valuation = f.valuation;
      holds = asked_at both _ _ _ _ (sym (split.first f.valuation ∙ ap (λ t. if t then is f.valuation s.high.first else is f.valuation s.low.first) no_v)) (sym (split.second f.valuation ∙ ap (λ t. if t then is f.valuation s.high.second else is f.valuation s.low.second) no_v)) f.holds;
    })
  ]

  -- neither side has one
  pub no_side : (low high : Bool) → IsTrue low ↔ IsFound both bs s.low → low ≡ false → IsTrue high ↔ IsFound both bs s.high → high ≡ false → IsFound both bs p → ⊥
  no_side low high lows low_is highs high_is f = elim (to_side f) [
    | inl l ↦ false≢true (sym low_is ∙ lows.1 l)
    | inr h ↦ false≢true (sym high_is ∙ highs.1 h)
  ]

pub refuted_more : {S : Type 0} (bs : List Branch) (both : Bool) (old new : IndexSet Pair S) (p : Pair) → AreRefuted both bs old → (IsFound both bs p → ⊥) → ((q : Pair) → contains same_pair new q ≡ cond (same_pair p q) true (contains same_pair old q)) → AreRefuted both bs new
refuted_more bs both old new p refuted none updates q there found = elim (cases_Bool (same_pair p q)) [
  | inl same ↦ none (subst (IsFound both bs) (sym (pair_to p q same)) found)
  | inr other ↦ refuted q (sym (ap (λ t. cond t true (contains same_pair old q)) other) ∙ sym (updates q) ∙ there) found
]

-- ---- the two questions
pub together_is : (bs : List Branch) (p : Pair) (r : Bool) → IsTrue r ↔ IsFound true bs p → IsTrue r ↔ AreTogether bs p
together_is bs p r exact = (
  λ h. let f = exact.0 h in (f.valuation, asked_first true (value f.valuation (tree_at bs p.first)) (value f.valuation (tree_at bs p.second)) f.holds, asked_second true (value f.valuation (tree_at bs p.first)) (value f.valuation (tree_at bs p.second)) f.holds),
  λ t. exact.1 (record { valuation = t.0; holds = asked_both true (value t.0 (tree_at bs p.first)) (value t.0 (tree_at bs p.second)) t.1 t.2 }),
)

pub implied_is : (bs : List Branch) (p : Pair) (r : Bool) → IsTrue r ↔ IsFound false bs p → IsTrue (not r) ↔ IsImplied bs p
implied_is bs p true exact = (
  λ h. absurd (false≢true h),
  λ all.
      let f = exact.0 refl in
      let first = asked_first false (value f.valuation (tree_at bs p.first)) (value f.valuation (tree_at bs p.second)) f.holds in
      let second = asked_second false (value f.valuation (tree_at bs p.first)) (value f.valuation (tree_at bs p.second)) f.holds in
      absurd (true≢false (sym (all f.valuation first) ∙ second)),
)
implied_is bs p false exact = (
  λ h v first. elim (cases_Bool (value v (tree_at bs p.second))) [
    | inl yes_v ↦ yes_v
    | inr no_v ↦ absurd (false≢true (exact.1 (record { valuation = v; holds = asked_both false (value v (tree_at bs p.first)) (value v (tree_at bs p.second)) first no_v })))
  ],
  λ all. refl,
)

-- ---- nodes that agree
pub agree_is : (bs : List Branch) → AreCanonical bs → (p : Pair) → AreNodes bs p → (p.first == p.second) ≡ true ↔ Agree (tree_at bs p.first) (tree_at bs p.second)
agree_is bs can p nodes = (
  λ h v. ap (λ n. value v (tree_at bs n)) (eqb-true p.first p.second h),
  λ all. eq-eqb p.first p.second (can.once p.first p.second nodes.0 nodes.1 (same_tree (tree_at bs p.first) (tree_at bs p.second) (can.canonical p.first nodes.0) (can.canonical p.second nodes.1) all)),
)

-- ---- variables
pub variable_is : (b c d : Bool) → c ≡ true → d ≡ false → (if b then c else d) ≡ b
variable_is true c d e f = e
variable_is false c d e f = f

pub denied_is : (b c d : Bool) → c ≡ false → d ≡ true → (if b then c else d) ≡ not b
denied_is true c d e f = e
denied_is false c d e f = f
