-- All updates of a block are listed where they are fine together.
use Rattle.std.proofs.Common.{◌≡◌, ◌==◌, ◌||◌, ℕ, ◌+◌, ◌<◌, ◌≤◌, List, [], ◌∷◌, ◌++◌, inl, inr, sym, ap, subst, ◌∙◌, arith}
use Rattle.std.specs.Prelude.{IsTrue}
use Rattle.std.specs.List.{filter}
use Rattle.std.specs.List.Sorted.{IsStrictlyIncreasing}
use Rattle.std.proofs.lemmas.Bool.{cases_lt, or_cases, or_left, or_right, eq-eqb, eqb-true, and_parts, and_from, ltb-true}
use Rattle.std.proofs.lemmas.List.Kept.{AllPairs-from_increasing, AllPairs-filter}
use Rattle.flat_core.specs.Complete.{IsFlat}
use Rattle.flat_core.specs.Members.{is_in}
use Rattle.flat_core.specs.System.{System}
use Rattle.flat_core.specs.WellFormed.{IsWellFormed}
use Rattle.alias_rules.specs.inner.Below.{IsListedBelow}
use Rattle.alias_rules.specs.Fine.{IsFine, with_tried}
use Rattle.alias_rules.specs.Uses.{IsUpdate, AreUpdates}
use Rattle.alias_rules.proofs.Listed.{below}
use Rattle.flat_core.proofs.Rising.{same_rising, in_filter, in_push}
use Rattle.alias_nears.specs.inner.Beginning.{NoneIsNil}
use Rattle.last_use.specs.inner.Blocks.{IsUpdateWithin, IsWithBlock}
use Rattle.last_use.proofs.Fewer.{fewer_are_fine}

-- ---- a block as it is made

module _ (s : System) where
  pub block_none : (set : List ℕ) (from : ℕ) → IsStrictlyIncreasing set → IsWithBlock s set from from set
  block_none set from up = record { ascending = up; each = λ y. ((λ h. inl h), (λ h. elim h [ inl old ↦ old | inr new ↦ let high = new.high in let low = new.low in absurd (omega arith) ])) }

  module _ (n : ℕ) (old : List ℕ) where
    within_one : (y : ℕ) → IsUpdateWithin s n (n + 1) y → n ≡ y
    within_one y h = let high = h.high in let low = h.low in omega arith

    -- the equation is no update
    pub block_same : IsStrictlyIncreasing old → (IsUpdate s n → ⊥) → IsWithBlock s old n (n + 1) old
    block_same up none = record {
      ascending = up;
      each = λ y. (
        (λ h. inl h),
        (λ h. elim h [ inl there ↦ there | inr new ↦ absurd (none (subst (IsUpdate s) (sym (within_one y new)) new.update)) ]),
      );
    }

    -- it is one
    pub block_one : (new : List ℕ) → IsUpdate s n → IsStrictlyIncreasing new → ((y : ℕ) → is_in new y ≡ ((n == y) || is_in old y)) → IsWithBlock s old n (n + 1) new
    block_one new update up members = record {
      ascending = up;
      each = λ y. (
        (λ h. elim (or_cases (n == y) (is_in old y) (sym (members y) ∙ h)) [
          | inl here ↦ inr (subst (IsUpdateWithin s n (n + 1)) (eqb-true n y here) (record { high = omega arith; low = omega arith; update = update }))
          | inr there ↦ inl there
        ]),
        (λ h. members y ∙ elim h [
          | inl there ↦ or_right (n == y) (is_in old y) there
          | inr within ↦ or_left (n == y) (is_in old y) (eq-eqb n y (within_one y within))
        ]),
      );
    }

    -- one more equation
    pub block_then : (set : List ℕ) (from : ℕ) (new : List ℕ) → from ≤ n → IsWithBlock s set from n old → IsWithBlock s old n (n + 1) new → IsWithBlock s set from (n + 1) new
    block_then set from new le first second = record {
      ascending = second.ascending;
      each = λ y. (
        (λ h. elim ((second.each y).0 h) [
          | inl there ↦ elim ((first.each y).0 there) [
            | inl in_set ↦ inl in_set
            | inr before ↦ let low = before.low in inr (record { high = before.high; low = omega arith; update = before.update })
          ]
          | inr last ↦ let high = last.high in inr (record { high = omega arith; low = last.low; update = last.update })
        ]),
        (λ h. (second.each y).1 (elim h [
          | inl in_set ↦ inl ((first.each y).1 (inl in_set))
          | inr within ↦ elim (cases_lt y n) [
            | inl low ↦ inl ((first.each y).1 (inr (record { high = within.high; low = low; update = within.update })))
            | inr high ↦ inr (record { high = high; low = within.low; update = within.update })
          ]
        ])),
      );
    }

-- ---- a block that is fine

module _ (s : System) (flat : IsFlat s) (formed : IsWellFormed s) (some : NoneIsNil s) (set : List ℕ) (from end : ℕ) (le : from ≤ end) (more : List ℕ) (block : IsWithBlock s set from end more) where
  pub block_updates : AreUpdates s set → AreUpdates s more
  block_updates updates y h = elim ((block.each y).0 h) [ inl old ↦ updates y old | inr new ↦ new.update ]

  module _ (listed : IsListedBelow s from set) where
    pub block_old : (y : ℕ) → y < from → IsTrue (is_in more y) → IsTrue (is_in set y)
    block_old y lt h = elim ((block.each y).0 h) [ inl old ↦ old | inr new ↦ let high = new.high in absurd (omega arith) ]

    -- what is tried before the block is tried with the same updates
    pub tried_same : (y : ℕ) → y ≤ from → with_tried more y ≡ with_tried set y
    tried_same y low =
        ap (λ l. l ++ y ∷ []) (
        same_rising (filter (below y) more) (filter (below y) set)
        (AllPairs-filter (λ x z. x < z) (below y) more (AllPairs-from_increasing more block.ascending))
        (AllPairs-filter (λ x z. x < z) (below y) set (AllPairs-from_increasing set listed.ascending))
        (λ x h.
        let parts = and_parts (below y x) (is_in more x) (sym (in_filter (below y) more x) ∙ h) in
        let lt = ltb-true x y parts.0 in
        in_filter (below y) set x ∙ and_from (below y x) (is_in set x) parts.0 (block_old x (omega arith) parts.1))
        (λ x h.
        let parts = and_parts (below y x) (is_in set x) (sym (in_filter (below y) set x) ∙ h) in
        in_filter (below y) more x ∙ and_from (below y x) (is_in more x) parts.0 ((block.each x).1 (inl parts.1)))
        )

    tried_within : (y : ℕ) → IsTrue (is_in more y) → (x : ℕ) → IsTrue (is_in (with_tried more y) x) → IsTrue (is_in more x)
    tried_within y inside x h = elim (in_push (filter (below y) more) y x h) [
      | inl old ↦ (and_parts (below y x) (is_in more x) (sym (in_filter (below y) more x) ∙ old)).1
      | inr here ↦ subst (λ z. IsTrue (is_in more z)) here inside
    ]

    pub block_listed : IsFine s more → IsListedBelow s end more
    block_listed fine = record {
      ascending = block.ascending;
      each = λ y. (
        (λ h.
            let each_fine = fewer_are_fine s flat formed some more (with_tried more y) (tried_within y h) fine in
            elim ((block.each y).0 h) [
              | inl old ↦ let taken = (listed.each y).0 old in let low = taken.low in record { low = omega arith; update = taken.update; fine = each_fine }
              | inr new ↦ record { low = new.low; update = new.update; fine = each_fine }
            ]),
        (λ taken. elim (cases_lt y from) [
          | inl low ↦ (block.each y).1 (inl ((listed.each y).1 (record { low = low; update = taken.update; fine = subst (IsFine s) (tried_same y (omega arith)) taken.fine })))
          | inr high ↦ (block.each y).1 (inr (record { high = high; low = taken.low; update = taken.update }))
        ]),
      );
    }
