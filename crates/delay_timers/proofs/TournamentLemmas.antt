-- The root of the tree comes first, and how the tree is mended.
use Rattle.std.proofs.Common.{◌≡◌, ◌≢◌, ℕ, zero, suc, ◌+◌, ◌-◌, ◌*◌, ◌/◌, ◌%◌, ◌<◌, ◌≤◌, List, length, Option, Some, None, sym, ap, subst, ◌∙◌, inl, inr, ◌⊎◌, arith, get_or, set, take, drop, get_or-set_same, get_or-set_other, length-set}
use Rattle.std.proofs.lemmas.Bool.{cases_lt, cases_order}
use Rattle.std.proofs.lemmas.List.{get_or_read, get_or-take, get_or-drop, length-take, length-drop}
use Rattle.std.specs.Option.{option_map}
use Rattle.delay_timers.specs.declared.tree.Due.{Due}
use Rattle.delay_timers.specs.inner.Tournament.{slot, IsOf, IsUpTo, IsFirstOf, IsHead, IsTree, IsTreeBut, SameFrom, ChangesLeaf, time_at, IsFirstLeafAt}

pub up_to_itself : (a : Option Due) → IsUpTo a a
up_to_itself None = tt
up_to_itself (Some a) = record { no_later = omega arith; tied = λ _. omega arith }

pub up_to_joins : (a b c : Option Due) → IsUpTo a b → IsUpTo b c → IsUpTo a c
up_to_joins a b None p q = tt
up_to_joins a None (Some c) p q = absurd q
up_to_joins None (Some b) (Some c) p q = absurd p
up_to_joins (Some a) (Some b) (Some c) p q = record {
  no_later = omega (arith, p.no_later, q.no_later);
  tied = λ same. omega (arith, p.no_later, q.no_later, p.tied, q.tied, same);
}

-- a number is twice its half, or one more
halves : (k : ℕ) → (k ≡ 2 * (k / 2)) ⊎ (k ≡ 2 * (k / 2) + 1)
halves k = elim (cases_lt (k % 2) 1) [ inl below ↦ inl (omega arith) | inr above ↦ inr (omega arith) ]

module _ (nodes : List (Option Due)) (delays : ℕ) (tree : IsTree nodes delays) where
  above : (k : ℕ) → 1 < k → k < 2 * delays → IsUpTo (slot nodes (k / 2)) (slot nodes k)
  above k low high =
      let head : IsHead nodes (k / 2) = tree.heads (k / 2) (omega arith) (omega arith) in
      elim (halves k) [
        | inl even ↦ subst (λ j. IsUpTo (slot nodes (k / 2)) (slot nodes j)) (sym even) head.left
        | inr odd ↦ subst (λ j. IsUpTo (slot nodes (k / 2)) (slot nodes j)) (sym odd) head.right
      ]

  -- by halving
  root_up_to : (steps k : ℕ) → k ≤ steps → 0 < k → k < 2 * delays → IsUpTo (slot nodes 1) (slot nodes k)
  root_up_to zero k few low high = absurd (omega arith)
  root_up_to (suc steps) k few low high =
      elim (cases_lt 1 k) [
        | inl more ↦ up_to_joins _ _ _ (root_up_to steps (k / 2) (omega arith) (omega arith) (omega arith)) (above k more high)
        | inr one ↦ let same : k ≡ 1 = omega arith in subst (λ j. IsUpTo (slot nodes 1) (slot nodes j)) (sym same) (up_to_itself _)
      ]

  pub root_comes_first : (d : ℕ) → d < delays → IsUpTo (slot nodes 1) (slot nodes (delays + d))
  root_comes_first d there = root_up_to (delays + d) (delays + d) (omega arith) (omega arith) (omega arith)

  -- by doubling
  from_a_leaf : (steps k : ℕ) → 2 * delays ≤ steps + k → 0 < k → k < 2 * delays → (d : ℕ) × (d < delays) × (slot nodes k ≡ slot nodes (delays + d))
  from_a_leaf zero k few low high = absurd (omega arith)
  from_a_leaf (suc steps) k few low high =
      elim (cases_lt k delays) [
        | inl inner ↦ elim ((tree.heads k low inner).one) [
          | inl left ↦ let found = from_a_leaf steps (2 * k) (omega arith) (omega arith) (omega arith) in (found.0, found.1, left ∙ found.2)
          | inr right ↦ let found = from_a_leaf steps (2 * k + 1) (omega arith) (omega arith) (omega arith) in (found.0, found.1, right ∙ found.2)
        ]
        | inr leaf ↦ let same : k ≡ delays + (k - delays) = omega arith in (k - delays, omega arith, ap (slot nodes) same)
      ]

  pub root_is_a_leaf : 0 < delays → (d : ℕ) × (d < delays) × (slot nodes 1 ≡ slot nodes (delays + d))
  root_is_a_leaf some = from_a_leaf (2 * delays) 1 (omega arith) (omega arith) (omega arith)

-- what is written at one slot
slot_here : (nodes : List (Option Due)) (k : ℕ) (x : Option Due) → k < length nodes → slot (set nodes k x) k ≡ x
slot_here nodes k x there = get_or-set_same nodes k x None there

slot_else : (nodes : List (Option Due)) (k j : ℕ) (x : Option Due) → j ≢ k → slot (set nodes k x) j ≡ slot nodes j
slot_else nodes k j x apart = get_or-set_other nodes k j x None apart

same_head : (a b : List (Option Due)) (k : ℕ) → slot b k ≡ slot a k → slot b (2 * k) ≡ slot a (2 * k) → slot b (2 * k + 1) ≡ slot a (2 * k + 1) → IsHead a k → IsHead b k
same_head a b k here left right head =
    subst (λ x. IsFirstOf x (slot b (2 * k)) (slot b (2 * k + 1))) (sym here)
    (subst (λ x. IsFirstOf (slot a k) x (slot b (2 * k + 1))) (sym left)
    (subst (λ x. IsFirstOf (slot a k) (slot a (2 * k)) x) (sym right) head))

-- the root is mended last
pub all_mended : (nodes : List (Option Due)) (delays : ℕ) → IsTreeBut nodes delays 0 → IsTree nodes delays
all_mended nodes delays tree = record {
  room = tree.room;
  own = tree.own;
  heads = λ k low high. tree.heads k low high (omega arith);
}

-- a slot that is mended leaves the one above it
pub mended : (nodes : List (Option Due)) (delays k : ℕ) (x : Option Due) → IsTreeBut nodes delays k → 0 < k → k < delays → IsFirstOf x (slot nodes (2 * k)) (slot nodes (2 * k + 1)) → IsTreeBut (set nodes k x) delays (k / 2)
mended nodes delays k x tree low high first =
    let inside : k < length nodes = omega (arith, tree.room) in
    record {
      room = length-set nodes k x ∙ tree.room;
      own = λ d there. subst (IsOf d) (sym (slot_else nodes k (delays + d) x (omega arith))) (tree.own d there);
      heads = λ j some inner apart. elim (cases_order j k) [
        | inl same ↦ subst (λ i. IsHead (set nodes k x) i) (sym same)
            (subst (λ y. IsFirstOf y (slot (set nodes k x) (2 * k)) (slot (set nodes k x) (2 * k + 1))) (sym (slot_here nodes k x inside))
            (subst (λ y. IsFirstOf x y (slot (set nodes k x) (2 * k + 1))) (sym (slot_else nodes k (2 * k) x (omega arith)))
            (subst (λ y. IsFirstOf x (slot nodes (2 * k)) y) (sym (slot_else nodes k (2 * k + 1) x (omega arith))) first)))
        | inr other ↦
            let else : j ≢ k = omega (arith, other) in
            same_head nodes (set nodes k x) j (slot_else nodes k j x else) (slot_else nodes k (2 * j) x (omega arith)) (slot_else nodes k (2 * j + 1) x (omega arith)) (tree.heads j some inner else)
      ];
    }

-- a leaf that is changed leaves the slot above it
pub leaf_changed : (nodes : List (Option Due)) (delays d : ℕ) (x : Option Due) → IsTree nodes delays → d < delays → IsOf d x → IsTreeBut (set nodes (delays + d) x) delays ((delays + d) / 2)
leaf_changed nodes delays d x tree there own =
    let leaf : delays + d < length nodes = omega (arith, tree.room) in
    record {
      room = length-set nodes (delays + d) x ∙ tree.room;
      own = λ e inside. elim (cases_order e d) [
        | inl same ↦ subst (λ i. IsOf i (slot (set nodes (delays + d) x) (delays + i))) (sym same) (subst (IsOf d) (sym (slot_here nodes (delays + d) x leaf)) own)
        | inr other ↦ subst (IsOf e) (sym (slot_else nodes (delays + d) (delays + e) x (omega (arith, other)))) (tree.own e inside)
      ];
      heads = λ j some inner apart. same_head nodes (set nodes (delays + d) x) j
          (slot_else nodes (delays + d) j x (omega arith))
          (slot_else nodes (delays + d) (2 * j) x (omega arith))
          (slot_else nodes (delays + d) (2 * j + 1) x (omega arith))
          (tree.heads j some inner);
    }

-- one turn of mending, from what was read of the two children
pub mend_step : (nodes : List (Option Due)) (delays k : ℕ) (x a b : Option Due) → IsTreeBut nodes delays k → 0 < k → k < delays → a ≡ get_or nodes (2 * k) a → b ≡ get_or nodes (2 * k + 1) b → IsFirstOf x a b → IsTreeBut (set nodes k x) delays (k / 2)
mend_step nodes delays k x a b tree low high left right first =
    mended nodes delays k x tree low high
    (subst (λ y. IsFirstOf x y (slot nodes (2 * k + 1))) (get_or_read nodes (2 * k) a (omega (arith, tree.room)) left None)
    (subst (λ y. IsFirstOf x a y) (get_or_read nodes (2 * k + 1) b (omega (arith, tree.room)) right None) first))

pub leaves_stay : (nodes initial : List (Option Due)) (delays k : ℕ) (x : Option Due) → k < delays → SameFrom delays nodes initial → SameFrom delays (set nodes k x) initial
leaves_stay nodes initial delays k x inner same j from = slot_else nodes k j x (omega arith) ∙ same j from

pub ends_changed : (nodes new : List (Option Due)) (delays d : ℕ) (x : Option Due) → length nodes ≡ 2 * delays → d < delays → SameFrom delays new (set nodes (delays + d) x) → ChangesLeaf nodes new delays d x
ends_changed nodes new delays d x room there same = record {
  leaf = same (delays + d) (omega arith) ∙ slot_here nodes (delays + d) x (omega arith);
  others = λ e other. same (delays + e) (omega arith) ∙ slot_else nodes (delays + d) (delays + e) x (omega (arith, other));
}

-- what is read of the leaves
pub leaf_read : (nodes : List (Option Due)) (delays i : ℕ) (x : Option Due) → length nodes ≡ 2 * delays → i < length (take (length nodes - delays) (drop delays nodes)) → x ≡ get_or (take (length nodes - delays) (drop delays nodes)) i x → (i < delays) × (x ≡ slot nodes (delays + i))
leaf_read nodes delays i x room inside read =
    let there : i < delays = omega (arith, length-take (length nodes - delays) (drop delays nodes), length-drop delays nodes) in
    (there, get_or_read _ i x inside read None ∙ get_or-take (length nodes - delays) (drop delays nodes) i None (omega arith) ∙ get_or-drop delays nodes i None)

pub time_of_leaf : (nodes : List (Option Due)) (delays d : ℕ) (due : Due) → Some due ≡ slot nodes (delays + d) → time_at nodes delays d ≡ Some due.time
time_of_leaf nodes delays d due is = ap (option_map (λ e. e.time)) (sym is)

pub leaf_found : (nodes : List (Option Due)) (delays i time : ℕ) (due : Due) → IsTree nodes delays → i < delays → Some due ≡ slot nodes (delays + i) → due.time ≡ time → ((d : ℕ) → d < i → time_at nodes delays d ≢ Some time) → IsFirstLeafAt nodes delays time due.delay
leaf_found nodes delays i time due tree there is same before =
    let own : due.delay ≡ i = subst (IsOf i) (sym is) (tree.own i there) in
    subst (IsFirstLeafAt nodes delays time) (sym own) (record {
      there = there;
      has = time_of_leaf nodes delays i due is ∙ ap Some same;
      none_before = before;
    })
