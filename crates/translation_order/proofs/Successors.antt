-- The lists of successors.
use Rattle.std.proofs.Common.{◌≡◌, ℕ, ◌+◌, ◌<◌, List, [], ◌∷◌, ◌++◌, length, get_or, set, take, replicate, Contains, sym, ap, subst, ◌∙◌, inl, inr, get_or-set_same, get_or-set_other, length-set, arith}
use Rattle.std.proofs.lemmas.Bool.{cases_eq, cases_lt}
use Rattle.std.proofs.lemmas.List.{length-replicate, get_or-replicate, get_or_past, take_more, get_or_read}
use Rattle.std.proofs.lemmas.List.Elements.{Contains-push, Contains-push_cases, Contains-append_left}
use Rattle.translation_order.specs.OnCycle.{AreBetween}
use Rattle.translation_order.specs.inner.Searching.{Leads, AreSuccessors}
use Rattle.tsl_value.proofs.Lists.{none_in_nil}
use Rattle.translation_order.proofs.SearchLists.{none_in}

abbrev none : ℕ → List (List ℕ)
none n = replicate n []

no_successor : (n a : ℕ) → get_or (none n) a [] ≡ []
no_successor n a = elim (cases_lt a n) [
  | inl low ↦ get_or-replicate n a [] [] low
  | inr high ↦ get_or_past (none n) a [] (let long : length (none n) ≡ n = length-replicate n [] in omega arith)
]

pub successors_start : (n : ℕ) → AreSuccessors n [] (replicate n [])
successors_start n = record {
  one_each = length-replicate n [];
  from_edges = λ a b c. absurd (none_in (get_or (none n) a []) b (no_successor n a) c);
  of_edges = λ a b c. absurd (none_in_nil (a, b) c);
}

successors_more : (n : ℕ) (edges : List (ℕ × ℕ)) (p : ℕ × ℕ) (successors : List (List ℕ)) → p.0 < n → AreSuccessors n edges successors → AreSuccessors n (edges ++ p ∷ []) (set successors p.0 (get_or successors p.0 [] ++ p.1 ∷ []))
successors_more n edges p successors low s =
    let list : List ℕ = get_or successors p.0 [] ++ p.1 ∷ [] in
    let long = s.one_each in
    let same_list : get_or (set successors p.0 list) p.0 [] ≡ list = get_or-set_same successors p.0 list [] (omega arith) in
    let list_at : (a : ℕ) → a ≡ p.0 → get_or (set successors p.0 list) a [] ≡ list = λ a same. ap (λ j. get_or (set successors p.0 list) j []) same ∙ same_list in
    let other_list : (a : ℕ) → (a ≡ p.0 → ⊥) → get_or (set successors p.0 list) a [] ≡ get_or successors a [] = λ a other. get_or-set_other successors p.0 a list [] other in
    record {
      one_each = length-set successors p.0 list ∙ s.one_each;
      from_edges = λ a b c. elim (cases_eq a p.0) [
        | inl same ↦ elim (Contains-push_cases (get_or successors p.0 []) p.1 b (subst (λ l. Contains l b) (list_at a same) c)) [
          | inl old ↦ Contains-append_left edges (p ∷ []) (a, b) (s.from_edges a b (subst (λ j. Leads successors j b) (sym same) old))
          | inr last ↦ subst (λ j. Contains (edges ++ p ∷ []) (j, b)) (sym same) (subst (λ j. Contains (edges ++ p ∷ []) (p.0, j)) last (Contains-push edges p))
        ]
        | inr other ↦ Contains-append_left edges (p ∷ []) (a, b) (s.from_edges a b (subst (λ l. Contains l b) (other_list a other) c))
      ];
      of_edges = λ a b c. elim (Contains-push_cases edges p (a, b) c) [
        | inl old ↦ elim (cases_eq a p.0) [
          | inl same ↦ subst (λ l. Contains l b) (sym (list_at a same)) (Contains-append_left (get_or successors p.0 []) (p.1 ∷ []) b (subst (λ j. Leads successors j b) same (s.of_edges a b old)))
          | inr other ↦ subst (λ l. Contains l b) (sym (other_list a other)) (s.of_edges a b old)
        ]
        | inr is ↦
            let first : p.0 ≡ a = ap (λ (q : ℕ × ℕ). q.0) is in
            let second : p.1 ≡ b = ap (λ (q : ℕ × ℕ). q.1) is in
            subst (λ l. Contains l b) (sym (list_at a (sym first))) (subst (λ j. Contains list j) second (Contains-push (get_or successors p.0 []) p.1))
      ];
    }

-- with the list as it was read and with one more of the edges
pub successors_at : (n : ℕ) (edges : List (ℕ × ℕ)) (i : ℕ) (successors : List (List ℕ)) (was list : List ℕ) → AreBetween n edges → i < length edges → AreSuccessors n (take i edges) successors → was ≡ get_or successors (get_or edges i (0, 0)).0 was → list ≡ was ++ (get_or edges i (0, 0)).1 ∷ [] → AreSuccessors n (take (i + 1) edges) (set successors (get_or edges i (0, 0)).0 list)
successors_at n edges i successors was list between lt s read is =
    let p = get_or edges i (0, 0) in
    let low : p.0 < n = (between i (0, 0) lt).0 in
    let long = s.one_each in
    let old : was ≡ get_or successors p.0 [] = get_or_read successors p.0 was (omega arith) read [] in
    let new : list ≡ get_or successors p.0 [] ++ p.1 ∷ [] = is ∙ ap (λ l. l ++ p.1 ∷ []) old in
    subst (λ l. AreSuccessors n l (set successors p.0 list)) (sym (take_more edges i (0, 0) lt))
    (subst (λ l. AreSuccessors n (take i edges ++ p ∷ []) (set successors p.0 l)) (sym new) (successors_more n (take i edges) p successors low s))
