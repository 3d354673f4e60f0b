-- Loops over facts.
use Rattle.std.proofs.Common.{◌≡◌, ◌↔◌, ℕ, suc, ◌+◌, ◌<◌, ◌≤◌, List, [], ◌∷◌, ◌++◌, map, take, drop, length, get_or, Contains, sym, ap, subst, ◌∙◌, inl, inr, arith}
use Rattle.std.proofs.lemmas.List.{drop_all, map_more, take_all}
use Rattle.std.proofs.lemmas.List.Elements.{Contains-push_cases}
use Rattle.tsl_value.proofs.Lists.{cons_cases, here, later, left_at, map_contains, none_in_nil}
use Rattle.why_rules.specs.Facts.{Fact}
use Rattle.event_why.specs.Check.{HaveSame}
use Rattle.event_why.specs.inner.Search.{AreDistinct, IsPutOnce, Lack}
use Rattle.event_why.specs.inner.Search as search_in
use Rattle.event_why.proofs.SearchLemmas.{distinct_push, same_push, same_there}

module _ {X : Type 0} (say : X → Fact) (xs : List X) (i : ℕ) where
  module _ (x : X) (lt : i < length xs) (is : x ≡ get_or xs i x) where
    rest_is : map say (drop i xs) ≡ say x ∷ map say (drop (i + 1) xs)
    rest_is = ap (map say) (left_at xs i x lt is)

    front_is : map say (take (i + 1) xs) ≡ map say (take i xs) ++ say x ∷ []
    front_is = map_more say xs i x lt ∙ ap (λ y. map say (take i xs) ++ say y ∷ []) (sym is)

    -- ---- a search for a fact
    pub among_past : {A : Type 0} (f : Fact) → (say x ≡ f → ⊥) → Contains (map say (drop i xs)) f ↔ A → Contains (map say (drop (i + 1) xs)) f ↔ A
    among_past f other before = (
      λ c. before.0 (subst (λ ys. Contains ys f) (sym rest_is) (later (say x) f (map say (drop (i + 1) xs)) c)),
      λ a. elim (cons_cases (say x) f (map say (drop (i + 1) xs)) (subst (λ ys. Contains ys f) rest_is (before.1 a))) [
        | inl same ↦ absurd (other same)
        | inr rest ↦ rest
      ],
    )

    pub among_found : {A : Type 0} (f : Fact) → say x ≡ f → Contains (map say (drop i xs)) f ↔ A → A
    among_found f same before =
        before.0 (subst (λ ys. Contains ys f) (sym rest_is) (subst (Contains (say x ∷ map say (drop (i + 1) xs))) same (here (say x) (map say (drop (i + 1) xs)))))

    -- ---- none so far
    pub none_more : (P : Fact → Type 0) → ¬ P (say x) → ((f : Fact) → Contains (map say (take i xs)) f → ¬ P f) → (f : Fact) → Contains (map say (take (i + 1) xs)) f → ¬ P f
    none_more P not before f c has = elim (Contains-push_cases (map say (take i xs)) (say x) f (subst (λ ys. Contains ys f) front_is c)) [
      | inl earlier ↦ before f earlier has
      | inr same ↦ not (subst P (sym same) has)
    ]

    pub is_member : Contains (map say xs) (say x)
    is_member = map_contains say xs x (i, lt, sym is)

    -- ---- how many lack
    pub lack_past : (chosen all : List Fact) (count n : ℕ) → Lack chosen (say x ∷ []) n → ((m : ℕ) → Lack chosen (map say (drop i xs)) m → Lack chosen all (count + m)) → (m : ℕ) → Lack chosen (map say (drop (i + 1) xs)) m → Lack chosen all ((count + n) + m)
    lack_past chosen all count n one before m rest = go n one
      where
        go : (k : ℕ) → Lack chosen (say x ∷ []) k → Lack chosen all ((count + k) + m)
        go k (search_in.Lack.chosen_one c search_in.Lack.done) =
            let same : count + m ≡ (count + 0) + m = omega arith in
            subst (Lack chosen all) same (before m (subst (λ ys. Lack chosen ys m) (sym rest_is) (search_in.Lack.chosen_one c rest)))
        go k (search_in.Lack.other apart search_in.Lack.done) =
            let same : count + suc m ≡ (count + 1) + m = omega arith in
            subst (Lack chosen all) same (before (suc m) (subst (λ ys. Lack chosen ys (suc m)) (sym rest_is) (search_in.Lack.other apart rest)))

    -- ---- each once
    pub once_past : (old new : List Fact) → IsPutOnce (say x) old new → HaveSame old (map say (take i xs)) → AreDistinct old → HaveSame new (map say (take (i + 1) xs)) × AreDistinct new
    once_past old new (inl (there, same)) have distinct = (
      subst (λ ys. HaveSame ys (map say (take (i + 1) xs))) (sym same) (subst (HaveSame old) (sym front_is) (same_there old (map say (take i xs)) (say x) have there)),
      subst AreDistinct (sym same) distinct,
    )
    once_past old new (inr (apart, same)) have distinct = (
      subst (λ ys. HaveSame ys (map say (take (i + 1) xs))) (sym same) (subst (HaveSame (old ++ say x ∷ [])) (sym front_is) (same_push old (map say (take i xs)) (say x) have)),
      subst AreDistinct (sym same) (distinct_push old (say x) distinct apart),
    )

  -- ---- the ends
  module _ (past : length xs ≤ i) where
    pub among_end : {A : Type 0} (f : Fact) → Contains (map say (drop i xs)) f ↔ A → ¬ A
    among_end f before a = none_in_nil f (subst (λ ys. Contains (map say ys) f) (drop_all i xs past) (before.1 a))

    pub none_end : (P : Fact → Type 0) → ((f : Fact) → Contains (map say (take i xs)) f → ¬ P f) → (f : Fact) → Contains (map say xs) f → ¬ P f
    none_end P before f c = before f (subst (λ ys. Contains (map say ys) f) (sym (take_all i xs past)) c)

    pub lack_end : (chosen all : List Fact) (count : ℕ) → ((m : ℕ) → Lack chosen (map say (drop i xs)) m → Lack chosen all (count + m)) → Lack chosen all count
    lack_end chosen all count before =
        let same : count + 0 ≡ count = omega arith in
        subst (Lack chosen all) same (before 0 (subst (λ ys. Lack chosen (map say ys) 0) (sym (drop_all i xs past)) search_in.Lack.done))

    pub same_end : (old : List Fact) → HaveSame old (map say (take i xs)) → HaveSame old (map say xs)
    same_end old have = subst (λ ys. HaveSame old (map say ys)) (take_all i xs past) have
