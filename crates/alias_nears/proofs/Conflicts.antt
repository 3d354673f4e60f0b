-- The first conflict of a kind.
use Rattle.std.proofs.Common.{◌≡◌, ℕ, zero, suc, ◌+◌, ◌<◌, ◌≤◌, Bool, List, [], ◌∷◌, length, get_or, Option, None, Some, refl, sym, ap, subst, ◌∙◌, inl, inr, arith}
use Rattle.std.specs.Prelude.{IsTrue, MatchOption}
use Rattle.std.specs.List.{Contains}
use Rattle.std.specs.List.Sorted.{IsStrictlyIncreasing}
use Rattle.std.proofs.lemmas.Bool.{cases_lt, cases_eq, false≢true}
use Rattle.std.proofs.lemmas.List.{get_or_read}
use Rattle.std.proofs.lemmas.List.Kept.{AllPairs-from_increasing}
use Rattle.flat_core.specs.inner.Marks.{has_mark}
use Rattle.flat_core.specs.Members.{is_in}
use Rattle.flat_core.specs.System.{System}
use Rattle.flat_core.proofs.Members.{Contains-in, in-Contains}
use Rattle.translation_order.specs.Least.{IsLeast}
use Rattle.alias_rules.specs.Bypass.{Bypasses}
use Rattle.alias_rules.specs.Uses.{AreUpdates, IsStored}
use Rattle.alias_rules.specs.Conflict.{IsKept, IsNotOverwritten, IsInConflict, IsFirst}
use Rattle.alias_rules.proofs.Sharing.{both_stored}
use Rattle.alias_rules.proofs.Updates.{update_low as low_of_update}
use Rattle.alias_paths.specs.inner.Marking.{AreJust}
use Rattle.alias_paths.specs.inner.Search.{AreMarkedIn}
use Rattle.alias_nears.specs.inner.Contents.{SharesWithLast, IsMarkedUnimplied, AreMarkedInBoth}
use Rattle.alias_paths.proofs.Rooting.{just_as}

pub kept_are : (s : System) (set : List ℕ) (y : ℕ) (near stored both : List Bool) → AreJust (length s.equations) (Bypasses s set y) near → AreJust (length s.equations) (IsStored s) stored → AreJust (length stored) (AreMarkedInBoth stored near) both → AreJust (length s.equations) (IsKept s set y) both
kept_are s set y near stored both just st found = record {
  one_each = found.one_each ∙ st.one_each;
  each = λ x. (
    (λ m. let there = (found.each x).0 m in record { bypasses = (just.each x).0 there.in_second; stored = (st.each x).0 there.in_first }),
    (λ k. (found.each x).1 (record { in_first = (st.each x).1 k.stored; in_second = (just.each x).1 k.bypasses })),
  );
}

pub not_overwritten_are : (s : System) (set : List ℕ) (y n : ℕ) (sharers marks : List Bool) → AreJust n (SharesWithLast s set y) sharers → AreJust n (IsMarkedUnimplied s y sharers) marks → AreJust n (IsNotOverwritten s set y) marks
not_overwritten_are s set y n sharers marks shared h =
    just_as n (IsMarkedUnimplied s y sharers) (IsNotOverwritten s set y) marks h
    (λ v m.
    let w = (shared.each v).0 m.marked in
    record { source = w.source; written = w.written; last = w.last; comes = w.comes; shares = w.shares; stored = (both_stored s set v w.last w.shares).first; not_implied = m.not_implied })
    (λ v o. record { marked = (shared.each v).1 (record { source = o.source; written = o.written; last = o.last; comes = o.comes; shares = o.shares }); not_implied = o.not_implied })

-- the least marked number is the least with the property
pub none_just : (n : ℕ) (P : ℕ → Type 0) (marks read : List Bool) → read ≡ marks → AreJust n P marks → ((x : ℕ) → IsTrue (has_mark read x) → ⊥) → (x : ℕ) → P x → ⊥
none_just n P marks read same just none x p = none x (ap (λ m. has_mark m x) same ∙ (just.each x).1 p)

pub least_just : (n : ℕ) (P : ℕ → Type 0) (marks read : List Bool) (x : ℕ) → read ≡ marks → AreJust n P marks → IsLeast (λ z. IsTrue (has_mark read z)) x → IsLeast P x
least_just n P marks read x same just l = record {
  holds = (just.each x).0 (sym (ap (λ m. has_mark m x) same) ∙ l.holds);
  least = λ z p. l.least z (ap (λ m. has_mark m z) same ∙ (just.each z).1 p);
}

-- an item, with whatever default it is read
at_place : (set : List ℕ) (k y d : ℕ) → k < length set → y ≡ get_or set k 0 → get_or set k d ≡ y
at_place set k y d lt is = any_default set k d 0 lt ∙ sym is
  where
    any_default : (xs : List ℕ) (j a b : ℕ) → j < length xs → get_or xs j a ≡ get_or xs j b
    any_default [] j a b low = absurd (omega arith)
    any_default (x ∷ xs) zero a b low = refl
    any_default (x ∷ xs) (suc j) a b low = any_default xs j a b (omega arith)

pub is_inside : (set : List ℕ) (k y : ℕ) → k < length set → y ≡ get_or set k 0 → IsTrue (is_in set y)
is_inside set k y lt is = in-Contains set y (k, lt, at_place set k y y lt is)

pub update_low : (s : System) (set : List ℕ) (k y : ℕ) → AreUpdates s set → k < length set → y ≡ get_or set k 0 → y < length s.equations
update_low s set k y are lt is = low_of_update s y (are y (is_inside set k y lt is))

module _ (set : List ℕ) (C : ℕ → ℕ → Type 0) where
  -- none of the first updates is in conflict
  abbrev pub NoneBefore : ℕ → Type 0
  NoneBefore k = (j : ℕ) → j < k → (x : ℕ) → C (get_or set j 0) x → ⊥

  pub none_next : (k y : ℕ) → y ≡ get_or set k 0 → ((x : ℕ) → C y x → ⊥) → NoneBefore k → NoneBefore (k + 1)
  none_next k y is none before j lt x c = elim (cases_lt j k) [
    | inl less ↦ before j less x c
    | inr not_less ↦ let same : j ≡ k = omega arith in none x (subst (λ z. C z x) (ap (λ i. get_or set i 0) same ∙ sym is) c)
  ]

  at_zero : (j z : ℕ) → j < length set → get_or set j z ≡ z → get_or set j 0 ≡ z
  at_zero j z lt same = sym (get_or_read set j z lt (sym same) 0)

  pub none_in_all : (k : ℕ) → length set ≤ k → NoneBefore k → (y : ℕ) → IsInConflict set C y → ⊥
  none_in_all k all before y h =
      let found = Contains-in set y h.inside in
      let low : found.0 < k = let lt = found.1 in omega arith in
      before found.0 low h.other (subst (λ z. C z h.other) (sym (at_zero found.0 y found.1 found.2)) h.conflict)

  pub first_at : (k y x : ℕ) → IsStrictlyIncreasing set → k < length set → y ≡ get_or set k 0 → NoneBefore k → IsLeast (C y) x → IsFirst set C y x
  first_at k y x up lt is before l = record {
    update = record {
      holds = record { inside = is_inside set k y lt is; other = x; conflict = l.holds };
      least = λ z h. below z h (Contains-in set z h.inside);
    };
    other = l;
  }
    where
      below : (z : ℕ) → IsInConflict set C z → Contains set z → y ≤ z
      below z h (j, low, same) =
          let read : get_or set j 0 ≡ z = at_zero j z low same in
          elim (cases_lt j k) [
            | inl less ↦ absurd (before j less h.other (subst (λ v. C v h.other) (sym read) h.conflict))
            | inr not_less ↦
                elim (cases_eq j k) [
                  | inl one ↦ let also : get_or set j 0 ≡ get_or set k 0 = ap (λ i. get_or set i 0) one in omega arith
                  | inr other ↦ let rise = AllPairs-from_increasing set up k j 0 (omega arith) low in omega arith
                ]
          ]

pub least_of : (n : ℕ) (P : ℕ → Type 0) (marks read : List Bool) (r : Option ℕ) → read ≡ marks → AreJust n P marks → MatchOption r ((x : ℕ) → IsTrue (has_mark read x) → ⊥) (IsLeast (λ x. IsTrue (has_mark read x))) → MatchOption r ((x : ℕ) → P x → ⊥) (IsLeast P)
least_of n P marks read None same just h = none_just n P marks read same just h
least_of n P marks read (Some x) same just h = least_just n P marks read x same just h

pub none_listed : (marks : List Bool) (listed : List ℕ) → AreMarkedIn marks listed → length listed ≡ 0 → (x : ℕ) → IsTrue (has_mark marks x) → ⊥
none_listed marks [] are none x m = false≢true (are x ∙ m)
none_listed marks (i ∷ listed) are none x m = absurd (omega arith)
