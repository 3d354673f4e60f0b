-- The trees of an arena are canonical, and each stands once.
use Rattle.std.proofs.Common.{◌≡◌, ℕ, zero, suc, ◌+◌, ◌<◌, true, false, List, [], ◌∷◌, length, Some, refl, sym, ap, subst, ◌∙◌, arith}
use Rattle.std.specs.Prelude.{slice_get}
use Rattle.decision_diagrams.specs.declared.arena.Branch.{Branch}
use Rattle.decision_diagrams.specs.inner.DecisionTree.{DecisionTree, Leaf, Fork, IsCanonical}
use Rattle.decision_diagrams.specs.inner.Arena.{tree_at, IsNode, IsSound, IsArena, AreCanonical}
use Rattle.decision_diagrams.proofs.Nodes.{no_is, yes_is, once_at}

-- the branch at a place
read : (bs : List Branch) (k : ℕ) → k < length bs → (b : Branch) × (slice_get bs k ≡ Some b)
read [] k lt = absurd (omega arith)
read (x ∷ bs) zero lt = (x, refl)
read (x ∷ bs) (suc k) lt = read bs k (omega arith)

fork_variable : (x y : ℕ) (a b c d : DecisionTree) → Fork x a b ≡ Fork y c d → x ≡ y
fork_variable x y a b c d e = cc

fork_low : (x y : ℕ) (a b c d : DecisionTree) → Fork x a b ≡ Fork y c d → a ≡ c
fork_low x y a b c d e = cc

fork_high : (x y : ℕ) (a b c d : DecisionTree) → Fork x a b ≡ Fork y c d → b ≡ d
fork_high x y a b c d e = cc

module _ (bs : List Branch) (arena : IsArena bs) where
  -- a node and its tree
  data NodeKind (n : ℕ) : Type 0 where
    no : n ≡ 0 → NodeKind n
    yes : n ≡ 1 → NodeKind n
    branch : (k : ℕ) (b : Branch) → n ≡ k + 2 → slice_get bs k ≡ Some b → IsSound bs n b → NodeKind n

  kind : (n : ℕ) → IsNode bs n → NodeKind n
  kind zero node = no refl
  kind (suc zero) node = yes refl
  kind (suc (suc k)) node =
      let it = read bs k (omega arith) in
      branch k it.0 (omega arith) it.1 (subst (λ m. IsSound bs m it.0) (omega arith) (arena.sound k it.0 it.1))

  leaf_no : (n : ℕ) → n ≡ 0 → tree_at bs n ≡ Leaf false
  leaf_no n e = ap (tree_at bs) e ∙ no_is bs

  leaf_yes : (n : ℕ) → n ≡ 1 → tree_at bs n ≡ Leaf true
  leaf_yes n e = ap (tree_at bs) e ∙ yes_is bs

  same_branches : (a b : Branch) → a.variable ≡ b.variable → a.low ≡ b.low → a.high ≡ b.high → a ≡ b
  same_branches a b p q r = λ i. record { variable = p i; low = q i; high = r i }

  by_kinds : (bound m n : ℕ) → m < suc bound → IsNode bs m → IsNode bs n → ((j k : ℕ) → j < bound → IsNode bs j → IsNode bs k → tree_at bs j ≡ tree_at bs k → j ≡ k) → tree_at bs m ≡ tree_at bs n → NodeKind m → NodeKind n → m ≡ n
  by_kinds bound m n lt node_m node_n before e (no p) (no q) = p ∙ sym q
  by_kinds bound m n lt node_m node_n before e (yes p) (yes q) = p ∙ sym q
  by_kinds bound m n lt node_m node_n before e (no p) (yes q) = let f : Leaf false ≡ Leaf true = sym (leaf_no m p) ∙ e ∙ leaf_yes n q in cc
  by_kinds bound m n lt node_m node_n before e (yes p) (no q) = let f : Leaf true ≡ Leaf false = sym (leaf_yes m p) ∙ e ∙ leaf_no n q in cc
  by_kinds bound m n lt node_m node_n before e (no p) (branch k b q at s) = let f = sym (leaf_no m p) ∙ e ∙ s.is in cc
  by_kinds bound m n lt node_m node_n before e (yes p) (branch k b q at s) = let f = sym (leaf_yes m p) ∙ e ∙ s.is in cc
  by_kinds bound m n lt node_m node_n before e (branch k b p at s) (no q) = let f = sym s.is ∙ e ∙ leaf_no n q in cc
  by_kinds bound m n lt node_m node_n before e (branch k b p at s) (yes q) = let f = sym s.is ∙ e ∙ leaf_yes n q in cc
  by_kinds bound m n lt node_m node_n before e (branch j a p at_j s) (branch k b q at_k t) =
      let f = sym s.is ∙ e ∙ t.is in
      let sl = s.low in
      let sh = s.high in
      let tl = t.low in
      let th = t.high in
      let l = before a.low b.low (omega arith) (omega arith) (omega arith) (fork_low a.variable b.variable _ _ _ _ f) in
      let h = before a.high b.high (omega arith) (omega arith) (omega arith) (fork_high a.variable b.variable _ _ _ _ f) in
      let same = same_branches a b (fork_variable a.variable b.variable _ _ _ _ f) l h in
      p ∙ ap (λ i. i + 2) (once_at bs arena.once a j k at_j (subst (λ c. slice_get bs k ≡ Some c) (sym same) at_k)) ∙ sym q

  once_below : (bound m n : ℕ) → m < bound → IsNode bs m → IsNode bs n → tree_at bs m ≡ tree_at bs n → m ≡ n
  once_below zero m n lt node_m node_n e = absurd (omega arith)
  once_below (suc bound) m n lt node_m node_n e = by_kinds bound m n lt node_m node_n (once_below bound) e (kind m node_m) (kind n node_n)

  pub once : (m n : ℕ) → IsNode bs m → IsNode bs n → tree_at bs m ≡ tree_at bs n → m ≡ n
  once m n = once_below (suc m) m n (omega arith)

  canonical_by : (bound n : ℕ) → n < suc bound → IsNode bs n → ((k : ℕ) → k < bound → IsNode bs k → IsCanonical (tree_at bs k)) → NodeKind n → IsCanonical (tree_at bs n)
  canonical_by bound n lt node before (no p) = subst IsCanonical (sym (leaf_no n p)) tt
  canonical_by bound n lt node before (yes p) = subst IsCanonical (sym (leaf_yes n p)) tt
  canonical_by bound n lt node before (branch k b p at s) =
      let l = s.low in
      let h = s.high in
      subst IsCanonical (sym s.is) (s.low_after, s.high_after, (λ e. s.differ (once b.low b.high (omega arith) (omega arith) e)), before b.low (omega arith) (omega arith), before b.high (omega arith) (omega arith))

  canonical_below : (bound n : ℕ) → n < bound → IsNode bs n → IsCanonical (tree_at bs n)
  canonical_below zero n lt node = absurd (omega arith)
  canonical_below (suc bound) n lt node = canonical_by bound n lt node (canonical_below bound) (kind n node)

  pub all_canonical : AreCanonical bs
  all_canonical = record { canonical = λ n node. canonical_below (suc n) n (omega arith) node; once = once; no = no_is bs; yes = yes_is bs }
