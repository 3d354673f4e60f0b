-- How the search begins and ends.
use Rattle.std.proofs.Common.{◌≡◌, ℕ, ◌*◌, ◌<◌, true, false, List, [], ◌∷◌, length, get_or, replicate, reverse, Contains, Option, Some, None, MatchOption, refl, sym, ap, subst, ◌∙◌, inl, inr, arith}
use Rattle.std.proofs.lemmas.Bool.{cases_lt}
use Rattle.std.proofs.lemmas.List.{length-replicate, get_or-replicate, get_or_past}
use Rattle.std.proofs.lemmas.List.Elements.{All-contains}
use Rattle.std.proofs.lemmas.List.Folds.{sum_by-replicate}
use Rattle.translation_order.specs.Least.{IsLeast}
use Rattle.translation_order.specs.OnCycle.{Edge, AreBetween, OnCycle, IsFirstOnCycle}
use Rattle.translation_order.specs.Graph.{Path}
use Rattle.translation_order.specs.inner.Searching.{Leads, AreInside, AreSuccessors, visit_of, one_if_new, count_new, IsDone, IsRight, IsMember, IsGroup, IsSearch, AreDone, path_of, GoesOn}
use Rattle.translation_order.specs.declared.search.Visit.{Visit}
use Rattle.translation_order.specs.declared.search.Visit.TheVariants.{New, OnPath, Done}
use Rattle.translation_order.specs.declared.search.Group.{Group}
use Rattle.translation_order.proofs.SearchLists.{none_in}
use Rattle.translation_order.proofs.Paths.{path_alike, first_edge}
use Rattle.translation_order.proofs.Visits.{on_path_not_new, done_not_new, done_from}

-- ---- the start
all_new : (n x : ℕ) → visit_of (replicate n New) x ≡ New
all_new n x = elim (cases_lt x n) [
  | inl low ↦ get_or-replicate n x New New low
  | inr high ↦ get_or_past (replicate n New) x New (let long = length-replicate n New in omega arith)
]

module _ (successors : List (List ℕ)) (n : ℕ) (many : length successors ≡ n) (inside : AreInside successors) (g : Group) (first : g.first ≡ 0) (nodes : g.nodes ≡ []) (within : (x : ℕ) → Contains g.targets x → x < n) (all : (x : ℕ) → x < n → Contains g.targets x) where
  no_member : (x : ℕ) → IsMember (g ∷ []) x → ⊥
  no_member x (inl c) = none_in g.nodes x nodes c
  no_member x (inr m) = m

  outside_is : IsGroup successors (replicate n New) g []
  outside_is = record {
    reached = λ a b m c. absurd (no_member a m);
    reaches = λ a b m t. absurd (no_member a m);
    inside = λ b t. let low = within b t in omega arith;
    numbered = λ a c. absurd (none_in g.nodes a nodes c);
    earlier = λ a m. absurd m;
    on_cycle = λ _ a c. absurd (none_in g.nodes a nodes c);
    followed = λ a b c e. absurd (none_in g.nodes a nodes c);
  }

  pub search_starts : IsSearch successors (replicate n New) 0 (g ∷ [])
  search_starts = record {
    inside = inside;
    one_each = length-replicate n New ∙ sym many;
    few = let count : count_new (replicate n New) ≡ n * 1 = sum_by-replicate one_if_new n New in omega arith;
    path_is = (omega arith, outside_is, tt);
    members = λ x on. absurd (on_path_not_new (λ _. Unit {0}) (visit_of (replicate n New) x) (all_new n x) on);
    numbers = λ x m. absurd (no_member x m);
    pending = λ x low is. inl (all x (omega arith));
    closed = λ a b d e. absurd (done_not_new (visit_of (replicate n New) a) (all_new n a) d);
    right = λ x. subst (IsRight successors x) (sym (all_new n x)) tt;
  }

-- ---- the end
pub all_done : (successors : List (List ℕ)) (visits : List Visit) (entered : ℕ) → IsSearch successors visits entered [] → AreDone successors visits
all_done successors visits entered s = record {
  one_each = s.one_each;
  done = λ x low. done_from (visit_of visits x) (λ is. s.pending x low is) (λ on. s.members x on);
  right = s.right;
}

leads_from_node : (successors : List (List ℕ)) (a b : ℕ) → Leads successors a b → a < length successors
leads_from_node successors a b e = elim (cases_lt a (length successors)) [
  | inl low ↦ low
  | inr high ↦ absurd (none_in (get_or successors a []) b (get_or_past successors a [] high) e)
]

marked_is : (successors : List (List ℕ)) (x : ℕ) (v : Visit) → IsDone v → IsRight successors x v → Path (Leads successors) x x → v ≡ Done true
marked_is successors x New d r p = absurd d
marked_is successors x (OnPath k) d r p = absurd d
marked_is successors x (Done true) d r p = refl
marked_is successors x (Done false) d r p = absurd (r p)

module _ (n : ℕ) (edges : List (ℕ × ℕ)) (successors : List (List ℕ)) (are : AreSuccessors n edges successors) where
  pub are_inside : AreBetween n edges → AreInside successors
  are_inside between a b e = let low = (All-contains (λ (p : ℕ × ℕ). (p.0 < n) × (p.1 < n)) edges (a, b) between (are.from_edges a b e)).1 in let long = are.one_each in omega arith

  module _ (visits : List Visit) (done : AreDone successors visits) where
    marked : (x : ℕ) → OnCycle edges x → visit_of visits x ≡ Done true
    marked x c =
        let p : Path (Leads successors) x x = path_alike (Edge edges) (Leads successors) are.of_edges x x c in
        let e = first_edge (Leads successors) x x p in
        marked_is successors x (visit_of visits x) (done.done x (leads_from_node successors x e.0 e.1)) (done.right x) p

    on_cycle : (x : ℕ) → visit_of visits x ≡ Done true → OnCycle edges x
    on_cycle x is = path_alike (Leads successors) (Edge edges) are.from_edges x x (subst (IsRight successors x) is (done.right x))

    pub first_is : (found : Option ℕ) → MatchOption found ((x : ℕ) → visit_of visits x ≡ Done true → ⊥) (IsLeast (λ x. visit_of visits x ≡ Done true)) → IsFirstOnCycle edges found
    first_is None none = λ x c. none x (marked x c)
    first_is (Some x) least = record {
      holds = on_cycle x least.holds;
      least = λ y c. least.least y (marked y c);
    }

-- ---- as the code says it
pub start_answer : (successors : List (List ℕ)) (n : ℕ) → length successors ≡ n → AreInside successors → (g : Group) → (g.first ≡ 0) × (g.nodes ≡ []) → ((x : ℕ) → Contains g.targets x → x < n) → ((x : ℕ) → x < n → Contains g.targets x) → (visits : List Visit) (others : List Group) → visits ≡ replicate n New → others ≡ [] → IsSearch successors visits 0 (g ∷ reverse others)
start_answer successors n many inside g start within all visits others visits_is others_is =
    subst (λ v. IsSearch successors v 0 (g ∷ reverse others)) (sym visits_is)
    (subst (λ l. IsSearch successors (replicate n New) 0 (g ∷ l)) (sym (ap reverse others_is)) (search_starts successors n many inside g start.0 start.1 within all))

pub end_answer : (successors : List (List ℕ)) (visits : List Visit) (entered left : ℕ) (found : Option Group) (others : List Group) → found ≡ None → GoesOn successors visits entered (path_of found others) left → AreDone successors visits
end_answer successors visits entered left found others is on = all_done successors visits entered (subst (λ f. IsSearch successors visits entered (path_of f others)) is on.search)

pub first_answer : (n : ℕ) (edges : List (ℕ × ℕ)) (successors read : List (List ℕ)) (visits table : List Visit) → AreSuccessors n edges successors → read ≡ successors → table ≡ visits → AreDone read visits → (found : Option ℕ) → MatchOption found ((x : ℕ) → visit_of table x ≡ Done true → ⊥) (IsLeast (λ x. visit_of table x ≡ Done true)) → IsFirstOnCycle edges found
first_answer n edges successors read visits table are read_is table_is done found least =
    first_is n edges successors are table (subst (AreDone successors) (sym table_is) (subst (λ s. AreDone s visits) read_is done)) found least
