-- An edge from the last group leads to a node that is done, or back into the group.
use Rattle.std.proofs.Common.{◌≡◌, ℕ, ◌+◌, ◌*◌, ◌-◌, ◌<◌, ◌≤◌, Bool, true, List, [], ◌∷◌, ◌++◌, length, reverse, Contains, sym, ap, subst, ◌∙◌, ◌⊎◌, inl, inr, arith}
use Rattle.std.proofs.lemmas.List.{length_push}
use Rattle.std.proofs.lemmas.List.Elements.{Contains-push_cases, Contains-append_left}
use Rattle.std.proofs.lemmas.List.Sums.{sum_by-cons}
use Rattle.translation_order.specs.Graph.{Path}
use Rattle.translation_order.specs.inner.Searching.{Leads, visit_of, IsOnPath, IsMember, IsPending, IsFollowed, IsGroup, IsPath, IsSearch, edges_in, steps_on, steps_left, GoesOn, IsPassed, IsMet, back, nowhere, around}
use Rattle.translation_order.specs.declared.search.Visit.{Visit}
use Rattle.translation_order.specs.declared.search.Visit.TheVariants.{New, OnPath, Done}
use Rattle.translation_order.specs.declared.search.Group.{Group}
use Rattle.translation_order.proofs.SearchLists.{last_target, reverse_push}
use Rattle.translation_order.proofs.Paths.{path_on}
use Rattle.translation_order.proofs.Join.{lies_before, joined_goes_on}
use Rattle.translation_order.proofs.Visits.{on_path_is, on_path_at, followed_more, followed_not_new}

less_passed : (x on was rest a b : ℕ) → on ≡ 1 + a + rest → was ≡ 1 + b + rest → b ≡ a + 1 → x + on < x + was
less_passed x on was rest a b on_is was_is long = omega arith

module _ (successors : List (List ℕ)) (visits : List Visit) (entered : ℕ) (last : Group) (others : List Group) (s : IsSearch successors visits entered (last ∷ others)) (node : ℕ) (front : List ℕ) (targets : last.targets ≡ front ++ node ∷ []) (group : Group) (p : IsPassed last group) where
  last_is : IsGroup successors visits last others
  last_is = s.path_is.1

  same_nodes : (a : ℕ) → Contains group.nodes a → Contains last.nodes a
  same_nodes a c = subst (λ l. Contains l a) p.nodes c

  fewer : (b : ℕ) → Contains group.targets b → Contains last.targets b
  fewer b t = subst (λ l. Contains l b) (sym targets) (Contains-append_left front (node ∷ []) b (subst (λ l. Contains l b) (p.targets front node targets) t))

  target_cases : (b : ℕ) → Contains last.targets b → Contains group.targets b ⊎ (node ≡ b)
  target_cases b t = elim (Contains-push_cases front node b (subst (λ l. Contains l b) targets t)) [
    | inl old ↦ inl (subst (λ l. Contains l b) (sym (p.targets front node targets)) old)
    | inr same ↦ inr same
  ]

  the_target : Contains last.targets node
  the_target = last_target last.targets front node targets

  wide : (a : ℕ) → IsMember (group ∷ others) a → IsMember (last ∷ others) a
  wide a (inl c) = inl (same_nodes a c)
  wide a (inr m) = inr m

  narrow : (a : ℕ) → IsMember (last ∷ others) a → IsMember (group ∷ others) a
  narrow a (inl c) = inl (subst (λ l. Contains l a) (sym p.nodes) c)
  narrow a (inr m) = inr m

  module _ (followed : IsFollowed group node (visit_of visits node)) (on_cycle : group.cyclic ≡ true → (a : ℕ) → Contains group.nodes a → Path (Leads successors) a a) where
    group_is : IsGroup successors visits group others
    group_is = record {
      reached = λ a b m c. last_is.reached a b (wide a m) (same_nodes b c);
      reaches = λ a b m t. last_is.reaches a b (wide a m) (fewer b t);
      inside = λ b t. last_is.inside b (fewer b t);
      numbered = λ a c. subst (λ f. IsOnPath (λ k. f ≤ k) (visit_of visits a)) (sym p.first) (last_is.numbered a (same_nodes a c));
      earlier = λ a m. subst (λ f. IsOnPath (λ k. k < f) (visit_of visits a)) (sym p.first) (last_is.earlier a m);
      on_cycle = on_cycle;
      followed = λ a b c e. let is = p.first in elim (last_is.followed a b (same_nodes a c) e) [
        | inl t ↦ elim (target_cases b t) [
          | inl old ↦ inl old
          | inr same ↦ inr (subst (λ x. IsFollowed group x (visit_of visits x)) same followed)
        ]
        | inr f ↦ inr (followed_more last group b (visit_of visits b) (omega arith) p.cyclic (λ inner. inr (same_nodes b inner)) f)
      ];
    }

    group_pending : (x : ℕ) → visit_of visits x ≡ New → IsPending (last ∷ others) x → IsPending (group ∷ others) x
    group_pending x is (inl t) = elim (target_cases x t) [
      | inl old ↦ inl old
      | inr same ↦ absurd (followed_not_new group node (visit_of visits node) (ap (visit_of visits) same ∙ is) followed)
    ]
    group_pending x is (inr rest) = inr rest

    passed_on : IsSearch successors visits entered (group ∷ others)
    passed_on = record {
      inside = s.inside;
      one_each = s.one_each;
      few = s.few;
      path_is = (
        (let is = p.first in let high = s.path_is.0 in omega arith),
        group_is,
        subst (λ f. IsPath successors visits f others) (sym p.first) s.path_is.2,
      );
      members = λ x on. narrow x (s.members x on);
      numbers = λ x m. s.numbers x (wide x m);
      pending = λ x low is. group_pending x is (s.pending x low is);
      closed = s.closed;
      right = s.right;
    }

    passed_goes_on : GoesOn successors visits entered (group ∷ others) (steps_left successors entered (last ∷ others))
    passed_goes_on = record {
      search = passed_on;
      less =
          let on : steps_on (group ∷ others) ≡ 1 + length group.targets + steps_on others = sum_by-cons (λ (g : Group). 1 + length g.targets) group others in
          let was : steps_on (last ∷ others) ≡ 1 + length last.targets + steps_on others = sum_by-cons (λ (g : Group). 1 + length g.targets) last others in
          less_passed ((length successors - entered) * (edges_in successors + 2)) (steps_on (group ∷ others)) (steps_on (last ∷ others)) (steps_on others) (length group.targets) (length last.targets) on was (ap length targets ∙ length_push front node ∙ ap (λ l. length l + 1) (sym (p.targets front node targets)));
    }

  -- the node is done
  pub done_goes_on : (b : Bool) → visit_of visits node ≡ Done b → group.cyclic ≡ last.cyclic → GoesOn successors visits entered (group ∷ others) (steps_left successors entered (last ∷ others))
  done_goes_on b is same =
      passed_goes_on (subst (IsFollowed group node) (sym is) tt) (λ cyclic a c. last_is.on_cycle (sym same ∙ cyclic) a (same_nodes a c))

  inner : (number : ℕ) → visit_of visits node ≡ OnPath number → last.first ≤ number → Contains last.nodes node
  inner number is high = elim (s.members node (on_path_is (λ _. Unit {0}) (visit_of visits node) number is tt)) [
    | inl there ↦ there
    | inr earlier ↦ let low = on_path_at (λ k. k < last.first) (visit_of visits node) number is (last_is.earlier node earlier) in absurd (omega arith)
  ]

  -- the node is in the group
  pub around_goes_on : (number : ℕ) → visit_of visits node ≡ OnPath number → last.first ≤ number → group.cyclic ≡ true → GoesOn successors visits entered (group ∷ others) (steps_left successors entered (last ∷ others))
  around_goes_on number is high cyclic =
      passed_goes_on
      (subst (IsFollowed group node) (sym is) ((let first = p.first in omega arith), inl cyclic))
      (λ _ a c. path_on (Leads successors) a node a (last_is.reaches a node (inl (same_nodes a c)) the_target) (last_is.reached node a (inl (inner number is high)) (same_nodes a c)))

-- ---- an edge to a node of the path
pub met_goes_on : (successors : List (List ℕ)) (visits : List Visit) (entered : ℕ) (last : Group) (others : List Group) → IsSearch successors visits entered (last ∷ reverse others) → (node : ℕ) (front : List ℕ) → last.targets ≡ front ++ node ∷ [] → (number : ℕ) → visit_of visits node ≡ OnPath number → (group : Group) (rest : List Group) → IsMet number last others group rest → GoesOn successors visits entered (group ∷ reverse rest) (steps_left successors entered (last ∷ reverse others))
met_goes_on successors visits entered last others s node front targets number is group rest (back before low others_is j) =
    let path : reverse others ≡ before ∷ reverse rest = ap reverse others_is ∙ reverse_push rest before in
    let on : IsSearch successors visits entered (last ∷ before ∷ reverse rest) = subst (λ l. IsSearch successors visits entered (last ∷ l)) path s in
    let there = lies_before successors visits entered last (before ∷ reverse rest) on node number is low in
    subst (λ l. GoesOn successors visits entered (group ∷ reverse rest) (steps_left successors entered (last ∷ l))) (sym path)
    (joined_goes_on successors visits entered last before (reverse rest) on node (last_target last.targets front node targets) there group j)
met_goes_on successors visits entered last others s node front targets number is group rest (nowhere low others_is) =
    let on : IsSearch successors visits entered (last ∷ []) = subst (λ l. IsSearch successors visits entered (last ∷ l)) (ap reverse others_is) s in
    absurd (lies_before successors visits entered last [] on node number is low)
met_goes_on successors visits entered last others s node front targets number is group rest (around high rest_is cyclic p) =
    subst (λ l. GoesOn successors visits entered (group ∷ reverse l) (steps_left successors entered (last ∷ reverse others))) (sym rest_is)
    (around_goes_on successors visits entered last (reverse others) s node front targets group p number is high cyclic)
