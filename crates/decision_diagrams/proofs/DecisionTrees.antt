-- Canonical trees that agree are equal.
use Rattle.std.proofs.Common.{◌≡◌, ℕ, zero, suc, ◌+◌, ◌<◌, ◌==◌, ◌⊎◌, Bool, true, false, not, if◌then◌else◌, refl, sym, ap, subst, ◌∙◌, inl, inr, arith}
use Rattle.std.proofs.lemmas.Bool.{cases_eq, cases_lt, cases_Bool, eq-eqb, eqb-true}
use Rattle.decision_diagrams.specs.inner.DecisionTree.{DecisionTree, Leaf, Fork, Valuation, value, IsAfter, IsCanonical, Agree, with_value}

-- ---- after a variable
pub after_less : (x y : ℕ) (t : DecisionTree) → x < y → IsAfter y t → IsAfter x t
after_less x y (Leaf b) lt h = tt
after_less x y (Fork z low high) lt h = omega arith

-- ---- the value at one variable
pub with_same : (v : Valuation) (x : ℕ) (b : Bool) → with_value v x b x ≡ b
with_same v x b = ap (λ t. if t then b else v x) (eq-eqb x x refl)

apart : (x y : ℕ) → x < y → (y == x) ≡ false
apart x y lt = elim (cases_Bool (y == x)) [
  | inl same ↦ absurd (let e = eqb-true y x same in omega arith)
  | inr other ↦ other
]

with_other : (v : Valuation) (x : ℕ) (b : Bool) (y : ℕ) → x < y → with_value v x b y ≡ v y
with_other v x b y lt = ap (λ t. if t then b else v y) (apart x y lt)

chosen : (b : Bool) (p q r s : Bool) → p ≡ r → q ≡ s → (if b then p else q) ≡ (if b then r else s)
chosen true p q r s same other = same
chosen false p q r s same other = other

pub value_with : (v : Valuation) (x : ℕ) (b : Bool) (t : DecisionTree) → IsAfter x t → IsCanonical t → value (with_value v x b) t ≡ value v t
value_with v x b (Leaf c) deeper can = refl
value_with v x b (Fork y low high) deeper can =
    ap (λ c. if c then value (with_value v x b) high else value (with_value v x b) low) (with_other v x b y deeper)
    ∙ chosen (v y) _ _ _ _ (value_with v x b high (after_less x y high deeper can.1) can.4) (value_with v x b low (after_less x y low deeper can.0) can.3)

-- ---- a fork with one side taken
pub low_value : (v : Valuation) (x : ℕ) (low high : DecisionTree) → IsCanonical (Fork x low high) → value (with_value v x false) (Fork x low high) ≡ value v low
low_value v x low high can = ap (λ c. if c then value (with_value v x false) high else value (with_value v x false) low) (with_same v x false) ∙ value_with v x false low can.0 can.3

pub high_value : (v : Valuation) (x : ℕ) (low high : DecisionTree) → IsCanonical (Fork x low high) → value (with_value v x true) (Fork x low high) ≡ value v high
high_value v x low high can = ap (λ c. if c then value (with_value v x true) high else value (with_value v x true) low) (with_same v x true) ∙ value_with v x true high can.1 can.4

agree_low : (x : ℕ) (low high u : DecisionTree) → IsCanonical (Fork x low high) → IsAfter x u → IsCanonical u → Agree (Fork x low high) u → Agree low u
agree_low x low high u can deeper can_u agree v = sym (low_value v x low high can) ∙ agree (with_value v x false) ∙ value_with v x false u deeper can_u

agree_high : (x : ℕ) (low high u : DecisionTree) → IsCanonical (Fork x low high) → IsAfter x u → IsCanonical u → Agree (Fork x low high) u → Agree high u
agree_high x low high u can deeper can_u agree v = sym (high_value v x low high can) ∙ agree (with_value v x true) ∙ value_with v x true u deeper can_u

turned : (t u : DecisionTree) → Agree t u → Agree u t
turned t u agree v = sym (agree v)

-- ---- one tree for all that agree
abbrev pub size : DecisionTree → ℕ
size (Leaf b) = 0
size (Fork x low high) = suc (size low + size high)

both_low : (x : ℕ) (a b c d : DecisionTree) → IsCanonical (Fork x a b) → IsCanonical (Fork x c d) → Agree (Fork x a b) (Fork x c d) → Agree a c
both_low x a b c d left right agree v = sym (low_value v x a b left) ∙ agree (with_value v x false) ∙ low_value v x c d right

both_high : (x : ℕ) (a b c d : DecisionTree) → IsCanonical (Fork x a b) → IsCanonical (Fork x c d) → Agree (Fork x a b) (Fork x c d) → Agree b d
both_high x a b c d left right agree v = sym (high_value v x a b left) ∙ agree (with_value v x true) ∙ high_value v x c d right

same_below : (n : ℕ) (t u : DecisionTree) → size t + size u < n → IsCanonical t → IsCanonical u → Agree t u → t ≡ u
same_below zero t u lt can_t can_u agree = absurd (omega arith)
same_below (suc n) (Leaf b) (Leaf c) lt can_t can_u agree = ap Leaf (agree (λ x. false))
same_below (suc n) (Fork x low high) (Leaf c) lt can_t can_u agree =
    absurd (can_t.2 (same_below n low (Leaf c) (omega arith) can_t.3 tt (agree_low x low high (Leaf c) can_t tt tt agree) ∙ sym (same_below n high (Leaf c) (omega arith) can_t.4 tt (agree_high x low high (Leaf c) can_t tt tt agree))))
same_below (suc n) (Leaf b) (Fork y low high) lt can_t can_u agree =
    let back = turned (Leaf b) (Fork y low high) agree in
    absurd (can_u.2 (same_below n low (Leaf b) (omega arith) can_u.3 tt (agree_low y low high (Leaf b) can_u tt tt back) ∙ sym (same_below n high (Leaf b) (omega arith) can_u.4 tt (agree_high y low high (Leaf b) can_u tt tt back))))
same_below (suc n) (Fork x a b) (Fork y c d) lt can_t can_u agree = elim (cases_lt x y) [
  | inl less ↦ absurd (can_t.2 (same_below n a (Fork y c d) (omega arith) can_t.3 can_u (agree_low x a b (Fork y c d) can_t less can_u agree) ∙ sym (same_below n b (Fork y c d) (omega arith) can_t.4 can_u (agree_high x a b (Fork y c d) can_t less can_u agree))))
  | inr not_less ↦ elim (cases_eq x y) [
    | inl same ↦
        let right : IsCanonical (Fork x c d) = subst (λ z. IsCanonical (Fork z c d)) (sym same) can_u in
        let agree_x : Agree (Fork x a b) (Fork x c d) = subst (λ z. Agree (Fork x a b) (Fork z c d)) (sym same) agree in
        let p = same_below n a c (omega arith) can_t.3 can_u.3 (both_low x a b c d can_t right agree_x) in
        let q = same_below n b d (omega arith) can_t.4 can_u.4 (both_high x a b c d can_t right agree_x) in
        λ i. Fork (same i) (p i) (q i)
    | inr other ↦
        let less : y < x = omega arith in
        let back = turned (Fork x a b) (Fork y c d) agree in
        absurd (can_u.2 (same_below n c (Fork x a b) (omega arith) can_u.3 can_t (agree_low y c d (Fork x a b) can_u less can_t back) ∙ sym (same_below n d (Fork x a b) (omega arith) can_u.4 can_t (agree_high y c d (Fork x a b) can_u less can_t back))))
  ]
]

pub same_tree : (t u : DecisionTree) → IsCanonical t → IsCanonical u → Agree t u → t ≡ u
same_tree t u can_t can_u agree = same_below (suc (size t + size u)) t u (omega arith) can_t can_u agree

-- ---- what is not a leaf has the other value somewhere
pub has_other : (t : DecisionTree) (b : Bool) → IsCanonical t → (t ≡ Leaf b → ⊥) → (v : Valuation) × (value v t ≡ not b)
has_other (Leaf true) true can differ = absurd (differ refl)
has_other (Leaf true) false can differ = (λ x. false, refl)
has_other (Leaf false) true can differ = (λ x. false, refl)
has_other (Leaf false) false can differ = absurd (differ refl)
has_other (Fork x low high) b can differ = elim (is_leaf low) [
  | inl same ↦
      let it = has_other high b can.4 (λ other. can.2 (same ∙ sym other)) in
      (with_value it.0 x true, high_value it.0 x low high can ∙ it.1)
  | inr other ↦
      let it = has_other low b can.3 other in
      (with_value it.0 x false, low_value it.0 x low high can ∙ it.1)
]
  where
    is_leaf : (t : DecisionTree) → (t ≡ Leaf b) ⊎ (t ≡ Leaf b → ⊥)
    is_leaf (Fork y l h) = inr (λ e. cc)
    is_leaf (Leaf c) = elim (cases_Bool c) [
      | inl yes_c ↦ by_b yes_c
      | inr no_c ↦ by_not no_c
    ]
      where
        by_b : c ≡ true → (Leaf c ≡ Leaf b) ⊎ (Leaf c ≡ Leaf b → ⊥)
        by_b yes_c = elim (cases_Bool b) [
          | inl yes_b ↦ inl (ap Leaf (yes_c ∙ sym yes_b))
          | inr no_b ↦ inr (λ e. cc)
        ]

        by_not : c ≡ false → (Leaf c ≡ Leaf b) ⊎ (Leaf c ≡ Leaf b → ⊥)
        by_not no_c = elim (cases_Bool b) [
          | inl yes_b ↦ inr (λ e. cc)
          | inr no_b ↦ inl (ap Leaf (no_c ∙ sym no_b))
        ]
