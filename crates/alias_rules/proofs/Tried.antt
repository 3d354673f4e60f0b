-- The set in which an update is tried.
use Rattle.std.proofs.Common.{◌≡◌, ◌==◌, ℕ, ◌<◌, ◌≤◌, cond, List, [], ◌∷◌, ◌++◌, refl, ap, ◌∙◌, append-nil}
use Rattle.std.specs.Prelude.{IsTrue}
use Rattle.std.specs.List.{filter}
use Rattle.std.proofs.lemmas.Bool.{le-ltb, lt-ltb, or_right}
use Rattle.std.proofs.lemmas.List.Elements.{filter-append}
use Rattle.flat_core.specs.Members.{is_in}
use Rattle.alias_rules.specs.Fine.{with_tried}
use Rattle.alias_rules.proofs.Listed.{below}
use Rattle.flat_core.proofs.Rising.{head_in}

all_below : (y : ℕ) (xs : List ℕ) → ((x : ℕ) → IsTrue (is_in xs x) → x < y) → filter (below y) xs ≡ xs
all_below y [] low = refl
all_below y (x ∷ xs) low =
    ap (λ b. cond b (x ∷ filter (below y) xs) (filter (below y) xs)) (lt-ltb x y (low x (head_in x xs)))
    ∙ ap (λ l. x ∷ l) (all_below y xs (λ z h. low z (or_right (x == z) (is_in xs z) h)))

-- all that is in the set is below the update
pub tried_above : (set : List ℕ) (y : ℕ) → ((x : ℕ) → IsTrue (is_in set x) → x < y) → with_tried set y ≡ set ++ y ∷ []
tried_above set y low = ap (λ l. l ++ y ∷ []) (all_below y set low)

-- a number that is not below the update makes no difference
pub tried_before : (set : List ℕ) (n y : ℕ) → y ≤ n → with_tried (set ++ n ∷ []) y ≡ with_tried set y
tried_before set n y le =
    ap (λ l. l ++ y ∷ []) (
    filter-append (below y) set (n ∷ []) ∙ ap (λ b. filter (below y) set ++ cond b (n ∷ []) []) (le-ltb n y le) ∙ append-nil (filter (below y) set)
    )
