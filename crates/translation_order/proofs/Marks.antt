-- Nodes that are marked as done, one by one.
use Rattle.std.proofs.Common.{◌≡◌, ℕ, ◌+◌, ◌<◌, Bool, List, [], ◌∷◌, ◌++◌, length, get_or, set, take, Contains, Result, Ok, Err, IfOk, sym, ap, subst, ◌∙◌, inl, inr, get_or-set_same, get_or-set_other, length-set, arith}
use Rattle.std.proofs.lemmas.Bool.{cases_eq}
use Rattle.std.proofs.lemmas.List.{take_more}
use Rattle.std.proofs.lemmas.List.Elements.{Contains-push, Contains-push_cases, Contains-append_left}
use Rattle.std.proofs.lemmas.List.Sums.{sum_by-set}
use Rattle.translation_order.specs.inner.Searching.{visit_of, one_if_new, AreMarked, IsJoined, IsMet, back}
use Rattle.translation_order.specs.declared.search.Visit.{Visit}
use Rattle.translation_order.specs.declared.search.Visit.TheVariants.{New, Done}
use Rattle.translation_order.specs.declared.search.Group.{Group}

marked_more : (nodes : List ℕ) (n : ℕ) (b : Bool) (old visits : List Visit) → n < length visits → AreMarked nodes b old visits → AreMarked (nodes ++ n ∷ []) b old (set visits n (Done b))
marked_more nodes n b old visits low m = record {
  same_length = length-set visits n (Done b) ∙ m.same_length;
  marked = λ x c. elim (cases_eq x n) [
    | inl same ↦ ap (visit_of (set visits n (Done b))) same ∙ get_or-set_same visits n (Done b) New low
    | inr other ↦ get_or-set_other visits n x (Done b) New other ∙ elim (Contains-push_cases nodes n x c) [
      | inl earlier ↦ m.marked x earlier
      | inr same ↦ absurd (other (sym same))
    ]
  ];
  kept = λ x out.
      get_or-set_other visits n x (Done b) New (λ same. out (subst (Contains (nodes ++ n ∷ [])) (sym same) (Contains-push nodes n)))
      ∙ m.kept x (λ c. out (Contains-append_left nodes (n ∷ []) x c));
  few = let few = m.few in let count = sum_by-set one_if_new visits n (Done b) New low in omega arith;
}

pub marked_at : (nodes : List ℕ) (i : ℕ) (b : Bool) (old visits : List Visit) → i < length nodes → get_or nodes i 0 < length old → AreMarked (take i nodes) b old visits → AreMarked (take (i + 1) nodes) b old (set visits (get_or nodes i 0) (Done b))
marked_at nodes i b old visits lt low m =
    let long = m.same_length in
    subst (λ l. AreMarked l b old (set visits (get_or nodes i 0) (Done b))) (sym (take_more nodes i 0 lt))
    (marked_more (take i nodes) (get_or nodes i 0) b old visits (omega arith) m)

-- an edge leads back
pub met_back : (E : Type 0) (answer : Result Group E) (number : ℕ) (last before : Group) (others rest : List Group) → number < last.first → others ≡ rest ++ before ∷ [] → IfOk answer (IsJoined before last) → IfOk answer (λ g. IsMet number last others g rest)
met_back E (Ok g) number last before others rest low is j = back before low is j
met_back E (Err e) number last before others rest low is j = tt
