-- An edge from the last group leads back to a group before it.
use Rattle.std.proofs.Common.{◌≡◌, ℕ, ◌+◌, ◌*◌, ◌-◌, ◌<◌, ◌≤◌, List, ◌∷◌, length, Contains, sym, subst, ◌⊎◌, inl, inr, arith}
use Rattle.std.proofs.lemmas.List.Sums.{sum_by-cons}
use Rattle.translation_order.specs.Graph.{Path}
use Rattle.translation_order.specs.inner.Searching.{Leads, visit_of, IsMember, IsPending, IsFollowed, IsGroup, IsPath, IsSearch, edges_in, steps_on, steps_left, GoesOn, IsJoined}
use Rattle.translation_order.specs.declared.search.Visit.{Visit}
use Rattle.translation_order.specs.declared.search.Visit.TheVariants.{OnPath}
use Rattle.translation_order.specs.declared.search.Group.{Group}
use Rattle.translation_order.proofs.SearchLists.{in_joined, of_joined_first, of_joined_second, joined_length}
use Rattle.translation_order.proofs.PathLemmas.{path_join}
use Rattle.translation_order.proofs.Paths.{path_on}
use Rattle.translation_order.proofs.Visits.{on_path_weaker, on_path_is, on_path_at, followed_more}

less_joined : (x on was inner rest a b c : ℕ) → on ≡ 1 + a + rest → was ≡ 1 + b + inner → inner ≡ 1 + c + rest → a ≡ c + b → x + on < x + was
less_joined x on was inner rest a b c on_is was_is inner_is long = omega arith

-- the node is on the path before the last group
pub lies_before : (successors : List (List ℕ)) (visits : List Visit) (entered : ℕ) (last : Group) (others : List Group) → IsSearch successors visits entered (last ∷ others) → (node number : ℕ) → visit_of visits node ≡ OnPath number → number < last.first → IsMember others node
lies_before successors visits entered last others s node number is low =
    let g : IsGroup successors visits last others = s.path_is.1 in
    elim (s.members node (on_path_is (λ _. Unit {0}) (visit_of visits node) number is tt)) [
      | inl inner ↦ let high = on_path_at (λ k. last.first ≤ k) (visit_of visits node) number is (g.numbered node inner) in absurd (omega arith)
      | inr earlier ↦ earlier
    ]

module _ (successors : List (List ℕ)) (visits : List Visit) (entered : ℕ) (last before : Group) (others : List Group) (s : IsSearch successors visits entered (last ∷ before ∷ others)) (node : ℕ) (target : Contains last.targets node) (there : IsMember (before ∷ others) node) (joined : Group) (j : IsJoined before last joined) where
  last_is : IsGroup successors visits last (before ∷ others)
  last_is = s.path_is.1

  before_is : IsGroup successors visits before others
  before_is = s.path_is.2.1

  first_low : before.first ≤ last.first
  first_low = s.path_is.2.0

  wide : (a : ℕ) → IsMember (joined ∷ others) a → IsMember (last ∷ before ∷ others) a
  wide a (inl c) = elim (in_joined before.nodes last.nodes joined.nodes a j.nodes c) [
    | inl first ↦ inr (inl first)
    | inr second ↦ inl second
  ]
  wide a (inr m) = inr (inr m)

  narrow : (a : ℕ) → IsMember (last ∷ before ∷ others) a → IsMember (joined ∷ others) a
  narrow a (inl c) = inl (of_joined_second before.nodes last.nodes joined.nodes a j.nodes c)
  narrow a (inr (inl c)) = inl (of_joined_first before.nodes last.nodes joined.nodes a j.nodes c)
  narrow a (inr (inr m)) = inr m

  from_node : (b : ℕ) → Contains joined.nodes b → (node ≡ b) ⊎ Path (Leads successors) node b
  from_node b c = elim (in_joined before.nodes last.nodes joined.nodes b j.nodes c) [
    | inl first ↦ before_is.reached node b there first
    | inr second ↦ last_is.reached node b (inr there) second
  ]

  to_all : (a b : ℕ) → IsMember (joined ∷ others) a → Contains joined.nodes b → Path (Leads successors) a b
  to_all a b m c = path_on (Leads successors) a node b (last_is.reaches a node (wide a m) target) (from_node b c)

  more_followed : (g : Group) (b : ℕ) → joined.first ≤ g.first → IsFollowed g b (visit_of visits b) → IsFollowed joined b (visit_of visits b)
  more_followed g b first f = followed_more g joined b (visit_of visits b) first (λ _. j.cyclic) (λ _. inl j.cyclic) f

  joined_is : IsGroup successors visits joined others
  joined_is = record {
    reached = λ a b m c. inr (to_all a b m c);
    reaches = λ a b m t. elim (in_joined before.targets last.targets joined.targets b j.targets t) [
      | inl first ↦ path_join (last_is.reaches a node (wide a m) target) (before_is.reaches node b there first)
      | inr second ↦ last_is.reaches a b (wide a m) second
    ];
    inside = λ b t. elim (in_joined before.targets last.targets joined.targets b j.targets t) [
      | inl first ↦ before_is.inside b first
      | inr second ↦ last_is.inside b second
    ];
    numbered = λ a c. let is = j.first in let low = first_low in elim (in_joined before.nodes last.nodes joined.nodes a j.nodes c) [
      | inl first ↦ on_path_weaker (λ k. before.first ≤ k) (λ k. joined.first ≤ k) (visit_of visits a) (λ k h. omega arith) (before_is.numbered a first)
      | inr second ↦ on_path_weaker (λ k. last.first ≤ k) (λ k. joined.first ≤ k) (visit_of visits a) (λ k h. omega arith) (last_is.numbered a second)
    ];
    earlier = λ a m. let is = j.first in on_path_weaker (λ k. k < before.first) (λ k. k < joined.first) (visit_of visits a) (λ k h. omega arith) (before_is.earlier a m);
    on_cycle = λ _ a c. to_all a a (inl c) c;
    followed = λ a b c e. let is = j.first in let low = first_low in elim (in_joined before.nodes last.nodes joined.nodes a j.nodes c) [
      | inl first ↦ elim (before_is.followed a b first e) [
        | inl t ↦ inl (of_joined_first before.targets last.targets joined.targets b j.targets t)
        | inr f ↦ inr (more_followed before b (omega arith) f)
      ]
      | inr second ↦ elim (last_is.followed a b second e) [
        | inl t ↦ inl (of_joined_second before.targets last.targets joined.targets b j.targets t)
        | inr f ↦ inr (more_followed last b (omega arith) f)
      ]
    ];
  }

  joined_pending : (x : ℕ) → IsPending (last ∷ before ∷ others) x → IsPending (joined ∷ others) x
  joined_pending x (inl t) = inl (of_joined_second before.targets last.targets joined.targets x j.targets t)
  joined_pending x (inr (inl t)) = inl (of_joined_first before.targets last.targets joined.targets x j.targets t)
  joined_pending x (inr (inr p)) = inr p

  joined_on : IsSearch successors visits entered (joined ∷ others)
  joined_on = record {
    inside = s.inside;
    one_each = s.one_each;
    few = s.few;
    path_is = (
      (let is = j.first in let low = first_low in let high = s.path_is.0 in omega arith),
      joined_is,
      subst (λ f. IsPath successors visits f others) (sym j.first) s.path_is.2.2,
    );
    members = λ x on. narrow x (s.members x on);
    numbers = λ x m. s.numbers x (wide x m);
    pending = λ x low is. joined_pending x (s.pending x low is);
    closed = s.closed;
    right = s.right;
  }

  pub joined_goes_on : GoesOn successors visits entered (joined ∷ others) (steps_left successors entered (last ∷ before ∷ others))
  joined_goes_on = record {
    search = joined_on;
    less =
        let on : steps_on (joined ∷ others) ≡ 1 + length joined.targets + steps_on others = sum_by-cons (λ (g : Group). 1 + length g.targets) joined others in
        let was : steps_on (last ∷ before ∷ others) ≡ 1 + length last.targets + steps_on (before ∷ others) = sum_by-cons (λ (g : Group). 1 + length g.targets) last (before ∷ others) in
        let inner : steps_on (before ∷ others) ≡ 1 + length before.targets + steps_on others = sum_by-cons (λ (g : Group). 1 + length g.targets) before others in
        less_joined ((length successors - entered) * (edges_in successors + 2)) (steps_on (joined ∷ others)) (steps_on (last ∷ before ∷ others)) (steps_on (before ∷ others)) (steps_on others) (length joined.targets) (length last.targets) (length before.targets) on was inner (joined_length before.targets last.targets joined.targets j.targets);
  }
