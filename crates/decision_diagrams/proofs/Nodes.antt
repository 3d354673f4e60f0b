-- The trees of an arena, and what one more branch changes.
use Rattle.std.proofs.Common.{◌≡◌, ℕ, zero, suc, ◌+◌, ◌<◌, ◌⊎◌, Bool, true, false, ◌&&◌, List, [], ◌∷◌, ◌++◌, length, Some, Result, Ok, Err, refl, sym, ap, subst, ◌∙◌, inl, inr, arith}
use Rattle.std.specs.Prelude.{slice_get, nat_eq, if◌then◌else◌}
use Rattle.std.specs.List.{AllByRecursion, IsDistinct, list_any}
use Rattle.std.specs.Result.{OnOk, OnErr}
use Rattle.indexmap.specs.IndexSet.{insert_key}
use Rattle.std.proofs.lemmas.Bool.{true≢false, false≢true, eq-eqb, eqb-true}
use Rattle.std.proofs.lemmas.List.{get_or_append_left, length-append}
use Rattle.std.proofs.Math.Seq.{get_or-append_seam}
use Rattle.decision_diagrams.specs.declared.arena.Branch.{Branch}
use Rattle.decision_diagrams.specs.inner.DecisionTree.{DecisionTree, Leaf, Fork, Valuation, value, IsAfter}
use Rattle.decision_diagrams.specs.inner.Arena.{tree_in, fork_in, trees_from, trees_of, tree_at, IsNode, IsSound, same_branch, IsArena, Grows}

length-trees_from : (ts : List DecisionTree) (bs : List Branch) → length (trees_from ts bs) ≡ length ts + length bs
length-trees_from ts [] = omega arith
length-trees_from ts (b ∷ bs) =
    let rest = length-trees_from (ts ++ fork_in ts b ∷ []) bs in
    let one = length-append ts (fork_in ts b ∷ []) in
    omega arith

pub many : (bs : List Branch) → length (trees_of bs) ≡ length bs + 2
many bs = let l = length-trees_from (Leaf false ∷ Leaf true ∷ []) bs in omega arith

trees_kept : (ts : List DecisionTree) (bs : List Branch) (n : ℕ) → n < length ts → tree_in (trees_from ts bs) n ≡ tree_in ts n
trees_kept ts [] n lt = refl
trees_kept ts (b ∷ bs) n lt =
    let one = length-append ts (fork_in ts b ∷ []) in
    trees_kept (ts ++ fork_in ts b ∷ []) bs n (omega arith) ∙ get_or_append_left ts (fork_in ts b ∷ []) (Leaf false) n lt

trees_from_more : (ts : List DecisionTree) (bs : List Branch) (b : Branch) → trees_from ts (bs ++ b ∷ []) ≡ trees_from ts bs ++ fork_in (trees_from ts bs) b ∷ []
trees_from_more ts [] b = refl
trees_from_more ts (c ∷ bs) b = trees_from_more (ts ++ fork_in ts c ∷ []) bs b

pub no_is : (bs : List Branch) → tree_at bs 0 ≡ Leaf false
unfolding tree_at
no_is bs = trees_kept (Leaf false ∷ Leaf true ∷ []) bs 0 (omega arith)

pub yes_is : (bs : List Branch) → tree_at bs 1 ≡ Leaf true
unfolding tree_at
yes_is bs = trees_kept (Leaf false ∷ Leaf true ∷ []) bs 1 (omega arith)

tree_kept : (bs : List Branch) (b : Branch) (n : ℕ) → IsNode bs n → tree_at (bs ++ b ∷ []) n ≡ tree_at bs n
unfolding tree_at
tree_kept bs b n lt =
    let all = many bs in
    ap (λ ts. tree_in ts n) (trees_from_more (Leaf false ∷ Leaf true ∷ []) bs b) ∙ get_or_append_left (trees_of bs) (fork_in (trees_of bs) b ∷ []) (Leaf false) n (omega arith)

tree_new : (bs : List Branch) (b : Branch) → tree_at (bs ++ b ∷ []) (length bs + 2) ≡ Fork b.variable (tree_at bs b.low) (tree_at bs b.high)
unfolding tree_at
tree_new bs b =
    ap (λ ts. tree_in ts (length bs + 2)) (trees_from_more (Leaf false ∷ Leaf true ∷ []) bs b)
    ∙ ap (λ n. tree_in (trees_of bs ++ fork_in (trees_of bs) b ∷ []) n) (sym (many bs))
    ∙ get_or-append_seam (trees_of bs) (fork_in (trees_of bs) b) [] (Leaf false)

-- ---- growing
pub grows_same : (bs : List Branch) → Grows bs bs
grows_same bs = record { many = omega arith; kept = λ n low. refl }

pub grows_push : (bs : List Branch) (b : Branch) → Grows bs (bs ++ b ∷ [])
grows_push bs b = record { many = (let l = length-append bs (b ∷ []) in omega arith); kept = tree_kept bs b }

pub grows_on : (a b c : List Branch) → Grows a b → Grows b c → Grows a c
grows_on a b c one two = record {
  many = (let m = one.many in let n = two.many in omega arith);
  kept = λ n low. two.kept n (let m = one.many in omega arith) ∙ one.kept n low;
}

pub sound_on : (a b : List Branch) (n : ℕ) (it : Branch) → Grows a b → IsNode a n → IsSound a n it → IsSound b n it
sound_on a b n it grows node sound =
    let l = sound.low in
    let h = sound.high in
    let low = grows.kept it.low (omega arith) in
    let high = grows.kept it.high (omega arith) in
    record {
      low = l;
      high = h;
      differ = sound.differ;
      low_after = subst (IsAfter it.variable) (sym low) sound.low_after;
      high_after = subst (IsAfter it.variable) (sym high) sound.high_after;
      is = grows.kept n node ∙ sound.is ∙ (λ i. Fork it.variable (sym low i) (sym high i));
    }

at_push : (bs : List Branch) (b c : Branch) (k : ℕ) → slice_get (bs ++ b ∷ []) k ≡ Some c → ((slice_get bs k ≡ Some c) × (k < length bs)) ⊎ ((k ≡ length bs) × (b ≡ c))
at_push [] b c zero e = inr (refl, cc)
at_push [] b c (suc k) e = cc
at_push (x ∷ bs) b c zero e = inl (e, omega arith)
at_push (x ∷ bs) b c (suc k) e = elim (at_push bs b c k e) [
  | inl old ↦ inl (old.0, (let l = old.1 in omega arith))
  | inr new ↦ inr (ap suc new.0, new.1)
]

pub arena_push : (bs : List Branch) (b : Branch) → IsArena bs → IsNode bs b.low → IsNode bs b.high → (b.low ≡ b.high → ⊥) → IsAfter b.variable (tree_at bs b.low) → IsAfter b.variable (tree_at bs b.high) → IsDistinct same_branch (bs ++ b ∷ []) → IsArena (bs ++ b ∷ [])
arena_push bs b arena low high differ low_after high_after once = record { sound = sound_new; once = once }
  where
    new : IsSound (bs ++ b ∷ []) (length bs + 2) b
    new =
        let l = tree_kept bs b b.low low in
        let h = tree_kept bs b b.high high in
        record {
          low = low;
          high = high;
          differ = differ;
          low_after = subst (IsAfter b.variable) (sym l) low_after;
          high_after = subst (IsAfter b.variable) (sym h) high_after;
          is = tree_new bs b ∙ (λ i. Fork b.variable (sym l i) (sym h i));
        }

    sound_new : (k : ℕ) (c : Branch) → slice_get (bs ++ b ∷ []) k ≡ Some c → IsSound (bs ++ b ∷ []) (k + 2) c
    sound_new k c e = elim (at_push bs b c k e) [
      | inl old ↦ sound_on bs (bs ++ b ∷ []) (k + 2) c (grows_push bs b) (let l = old.1 in omega arith) (arena.sound k c old.0)
      | inr last ↦ subst (λ m. IsSound (bs ++ b ∷ []) (m + 2) c) (sym last.0) (subst (IsSound (bs ++ b ∷ []) (length bs + 2)) last.1 new)
    ]

-- ---- each branch once
pub both : (p q : Bool) → (p && q) ≡ true → (p ≡ true) × (q ≡ true)
both true q e = (refl, e)
both false q e = absurd (false≢true e)

both_true : (p q : Bool) → p ≡ true → q ≡ true → (p && q) ≡ true
both_true true q e f = f
both_true false q e f = absurd (false≢true e)

pub same_to : (a b : Branch) → same_branch a b ≡ true → a ≡ b
same_to a b e =
    let first = both (nat_eq a.variable b.variable) (nat_eq a.low b.low && nat_eq a.high b.high) e in
    let rest = both (nat_eq a.low b.low) (nat_eq a.high b.high) first.1 in
    let p = eqb-true a.variable b.variable first.0 in
    let q = eqb-true a.low b.low rest.0 in
    let r = eqb-true a.high b.high rest.1 in
    λ i. record { variable = p i; low = q i; high = r i }

same_self : (b : Branch) → same_branch b b ≡ true
same_self b = both_true (nat_eq b.variable b.variable) _ (eq-eqb b.variable b.variable refl) (both_true (nat_eq b.low b.low) _ (eq-eqb b.low b.low refl) (eq-eqb b.high b.high refl))

differs_at : (x : Branch) (bs : List Branch) → AllByRecursion (λ y. same_branch x y ≡ false) bs → (k : ℕ) → slice_get bs k ≡ Some x → ⊥
differs_at x [] all k e = cc
differs_at x (b ∷ bs) all zero e =
    let same : b ≡ x = cc in
    true≢false (sym (same_self x) ∙ subst (λ y. same_branch x y ≡ false) same all.0)
differs_at x (b ∷ bs) all (suc k) e = differs_at x bs all.1 k e

pub once_at : (bs : List Branch) → IsDistinct same_branch bs → (b : Branch) (j k : ℕ) → slice_get bs j ≡ Some b → slice_get bs k ≡ Some b → j ≡ k
unfolding IsDistinct
once_at [] once b j k at_j at_k = cc
once_at (x ∷ bs) once b zero zero at_j at_k = refl
once_at (x ∷ bs) once b zero (suc k) at_j at_k =
    let same : b ≡ x = cc in
    absurd (differs_at x bs once.0 k (subst (λ y. slice_get bs k ≡ Some y) same at_k))
once_at (x ∷ bs) once b (suc j) zero at_j at_k =
    let same : b ≡ x = cc in
    absurd (differs_at x bs once.0 j (subst (λ y. slice_get bs j ≡ Some y) same at_j))
once_at (x ∷ bs) once b (suc j) (suc k) at_j at_k = ap suc (once_at bs once.1 b j k at_j at_k)

-- ---- the set after an insertion
inserted : (bs : List Branch) (b : Branch) → (insert_key same_branch bs b ≡ bs) ⊎ (insert_key same_branch bs b ≡ bs ++ b ∷ [])
inserted bs b = by (list_any (same_branch b) bs) refl
  where
    by : (t : Bool) → list_any (same_branch b) bs ≡ t → (insert_key same_branch bs b ≡ bs) ⊎ (insert_key same_branch bs b ≡ bs ++ b ∷ [])
    by true e = inl (ap (λ t. if t then bs else bs ++ b ∷ []) e)
    by false e = inr (ap (λ t. if t then bs else bs ++ b ∷ []) e)

-- either the old list or one branch more
pub after : {X E : Type 0} (r : Result X E) (old new : List Branch) (b : Branch) → OnOk r (new ≡ insert_key same_branch old b) → OnErr r (new ≡ old) → (new ≡ old) ⊎ (new ≡ old ++ b ∷ [])
after (Ok x) old new b ok err = elim (inserted old b) [
  | inl same ↦ inl (ok ∙ same)
  | inr more ↦ inr (ok ∙ more)
]
after (Err e) old new b ok err = inl err

pub arena_after : (old new : List Branch) (b : Branch) → IsArena old → IsNode old b.low → IsNode old b.high → (b.low ≡ b.high → ⊥) → IsAfter b.variable (tree_at old b.low) → IsAfter b.variable (tree_at old b.high) → IsDistinct same_branch new → (new ≡ old) ⊎ (new ≡ old ++ b ∷ []) → IsArena new
arena_after old new b arena low high differ low_after high_after once (inl same) = subst IsArena (sym same) arena
arena_after old new b arena low high differ low_after high_after once (inr more) = subst IsArena (sym more) (arena_push old b arena low high differ low_after high_after (subst (IsDistinct same_branch) more once))

pub grows_after : (old new : List Branch) (b : Branch) → (new ≡ old) ⊎ (new ≡ old ++ b ∷ []) → Grows old new
grows_after old new b (inl same) = subst (Grows old) (sym same) (grows_same old)
grows_after old new b (inr more) = subst (Grows old) (sym more) (grows_push old b)

-- the node that is answered
module _ (old new : List Branch) (b c : Branch) (k : ℕ) (arena : IsArena new) (grows : Grows old new) (low : IsNode old b.low) (high : IsNode old b.high) (at : slice_get new k ≡ Some c) (same : same_branch b c ≡ true) where
  is_fork : tree_at new (k + 2) ≡ Fork b.variable (tree_at old b.low) (tree_at old b.high)
  is_fork =
      let it = (arena.sound k c at).is in
      let e = same_to b c same in
      let l = grows.kept b.low low in
      let h = grows.kept b.high high in
      subst (λ a. tree_at new (k + 2) ≡ Fork a.variable (tree_at new a.low) (tree_at new a.high)) (sym e) it ∙ (λ i. Fork b.variable (l i) (h i))

  pub value_fork : (v : Valuation) → value v (tree_at new (k + 2)) ≡ (if v b.variable then value v (tree_at old b.high) else value v (tree_at old b.low))
  value_fork v = ap (value v) is_fork

  pub after_fork : (x : ℕ) → x < b.variable → IsAfter x (tree_at new (k + 2))
  after_fork x lt = subst (IsAfter x) (sym is_fork) lt

pub value_same : (b : Bool) (p : Bool) → p ≡ (if b then p else p)
value_same true p = refl
value_same false p = refl
