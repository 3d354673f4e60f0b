-- The listed set: there is one at most, and it is fine where the empty set is.
use Rattle.std.proofs.Common.{◌≡◌, ◌==◌, ℕ, zero, suc, ◌<◌, Bool, true, cond, nat_lt, List, [], ◌∷◌, ◌++◌, sym, ap, subst, ◌∙◌, arith}
use Rattle.std.specs.Prelude.{IsTrue}
use Rattle.std.specs.List.{filter}
use Rattle.std.proofs.lemmas.Bool.{and_parts, and_from, le-ltb, lt-ltb, ltb-true, or_right}
use Rattle.std.proofs.lemmas.List.Kept.{AllPairs-from_increasing, AllPairs-filter}
use Rattle.flat_core.specs.Members.{is_in}
use Rattle.flat_core.specs.System.{System}
use Rattle.alias_rules.specs.Fine.{IsFine, with_tried, IsListed}
use Rattle.alias_rules.specs.inner.Laws.{IsFit}
use Rattle.flat_core.proofs.Rising.{Rises, rest_rises, above, head_in, same_rising, in_filter}
use Rattle.flat_core.proofs.Members.{same_truth}

abbrev pub below : ℕ → ℕ → Bool
below y x = nat_lt x y

-- ---- at most one set is listed

member_below : (y : ℕ) (set other : List ℕ) → ((x : ℕ) → x < y → is_in set x ≡ is_in other x) → (x : ℕ) → is_in (filter (below y) set) x ≡ true → is_in (filter (below y) other) x ≡ true
member_below y set other same x h =
    let parts = and_parts (below y x) (is_in set x) (sym (in_filter (below y) set x) ∙ h) in
    in_filter (below y) other x ∙ and_from (below y x) (is_in other x) parts.0 (sym (same x (ltb-true x y parts.0)) ∙ parts.1)

same_below : (y : ℕ) (set other : List ℕ) → Rises set → Rises other → ((x : ℕ) → x < y → is_in set x ≡ is_in other x) → filter (below y) set ≡ filter (below y) other
same_below y set other p q same =
    same_rising (filter (below y) set) (filter (below y) other) (AllPairs-filter (λ x z. x < z) (below y) set p) (AllPairs-filter (λ x z. x < z) (below y) other q)
    (member_below y set other same) (member_below y other set (λ x lt. sym (same x lt)))

also_listed : (s : System) (set other : List ℕ) → IsListed s set → IsListed s other → (y : ℕ) → filter (below y) set ≡ filter (below y) other → is_in set y ≡ true → is_in other y ≡ true
also_listed s set other a b y same h =
    let found = (a.each y).0 h in
    (b.each y).1 (found.0, subst (λ front. IsFine s (front ++ y ∷ [])) same found.1)

module _ (s : System) (set other : List ℕ) (a : IsListed s set) (b : IsListed s other) where
  rises : Rises set
  rises = AllPairs-from_increasing set a.ascending

  other_rises : Rises other
  other_rises = AllPairs-from_increasing other b.ascending

  same_members : (n x : ℕ) → x < n → is_in set x ≡ is_in other x
  same_members zero x lt = absurd (omega arith)
  same_members (suc n) x lt =
      let same = same_below x set other rises other_rises (λ z low. same_members n z (omega arith)) in
      same_truth (is_in set x) (is_in other x) (also_listed s set other a b x same) (also_listed s other set b a x (sym same))

  pub one_listed : set ≡ other
  one_listed =
      same_rising set other rises other_rises
      (λ x h. sym (same_members (suc x) x (omega arith)) ∙ h)
      (λ x h. same_members (suc x) x (omega arith) ∙ h)

-- ---- a listed set is fine: it is the one in which its last update was tried

record IsLastTried (set : List ℕ) (y : ℕ) : Type 0 where
  inside : IsTrue (is_in set y)
  whole : with_tried set y ≡ set

last_tried : (x : ℕ) (xs : List ℕ) → Rises (x ∷ xs) → (y : ℕ) × IsLastTried (x ∷ xs) y
last_tried x [] up = (x, record { inside = head_in x []; whole = ap (λ b. cond b (x ∷ []) [] ++ x ∷ []) (le-ltb x x (omega arith)) })
last_tried x (z ∷ zs) up =
    let found = last_tried z zs (rest_rises x (z ∷ zs) up) in
    let y = found.0 in
    let front = filter (below y) (z ∷ zs) in
    let low = above x (z ∷ zs) up y found.1.inside in (
      y,
      record {
        inside = or_right (x == y) (is_in (z ∷ zs) y) found.1.inside;
        whole = ap (λ b. cond b (x ∷ front) front ++ y ∷ []) (lt-ltb x y low) ∙ ap (λ rest. x ∷ rest) found.1.whole;
      },
    )

listed_is_fine : (s : System) (set : List ℕ) → IsFine s [] → Rises set → IsListed s set → IsFine s set
listed_is_fine s [] empty up listed = empty
listed_is_fine s (x ∷ xs) empty up listed =
    let found = last_tried x xs up in
    subst (IsFine s) found.1.whole ((listed.each found.0).0 found.1.inside).1

pub listed_fits : (s : System) (set : List ℕ) → IsFine s [] → IsListed s set → IsFit s set
listed_fits s set empty listed = record {
  updates = λ y h. ((listed.each y).0 h).0;
  fine = listed_is_fine s set empty (AllPairs-from_increasing set listed.ascending) listed;
}
