-- The search comes to a new node.
use Rattle.std.proofs.Common.{◌≡◌, ℕ, ◌+◌, ◌*◌, ◌-◌, ◌<◌, ◌≤◌, false, List, [], ◌∷◌, ◌++◌, length, get_or, set, reverse, Contains, sym, ap, subst, ◌∙◌, inl, inr, get_or-set_same, get_or-set_other, length-set, arith}
use Rattle.std.proofs.Math.Nat.{add-mul}
use Rattle.std.proofs.lemmas.Bool.{cases_eq, false≢true}
use Rattle.std.proofs.lemmas.List.Sums.{sum_by-set, sum_by-cons, get_or-le-sum_by}
use Rattle.translation_order.specs.Graph.{Path, edge}
use Rattle.translation_order.specs.inner.Searching.{Leads, visit_of, one_if_new, count_new, IsOnPath, IsDone, IsRight, IsMember, IsFollowed, IsGroup, IsSearch, edges_in, steps_on, steps_left, GoesOn}
use Rattle.translation_order.specs.declared.search.Visit.{Visit}
use Rattle.translation_order.specs.declared.search.Visit.TheVariants.{New, OnPath}
use Rattle.translation_order.specs.declared.search.Group.{Group}
use Rattle.tsl_value.proofs.Lists.{here, only}
use Rattle.translation_order.proofs.SearchLists.{reverse_push}
use Rattle.translation_order.proofs.PathLemmas.{path_on}
use Rattle.translation_order.proofs.Visits.{on_path_weaker, on_path_not_new, on_path_is, followed_not_new, done_not_new, path_stays}

more_than : (x y k t p : ℕ) → y ≡ x + (k + 2) → t ≤ k → x + (1 + t + p) < y + p
more_than x y k t p is few = omega arith

less_left : (n e k t p : ℕ) → e < n → t ≤ k → (n - (e + 1)) * (k + 2) + (1 + t + p) < (n - e) * (k + 2) + p
less_left n e k t p low few =
    let m = n - (e + 1) in
    let is : n - e ≡ m + 1 = omega arith in
    let all : (n - e) * (k + 2) ≡ m * (k + 2) + 1 * (k + 2) = ap (λ j. j * (k + 2)) is ∙ add-mul m 1 (k + 2) in
    let single : 1 * (k + 2) ≡ k + 2 = omega arith in
    more_than (m * (k + 2)) ((n - e) * (k + 2)) k t p (all ∙ ap (λ j. m * (k + 2) + j) single) few

module _ (successors : List (List ℕ)) (visits : List Visit) (entered : ℕ) (last : Group) (others : List Group) (s : IsSearch successors visits entered (last ∷ others)) (node : ℕ) (target : Contains last.targets node) where
  pub target_inside : node < length successors
  target_inside = let g : IsGroup successors visits last others = s.path_is.1 in g.inside node target

  module _ (new : visit_of visits node ≡ New) where
    abbrev after : List Visit
    after = set visits node (OnPath entered)

    abbrev fresh : Group
    fresh = record { first = entered; nodes = node ∷ []; targets = get_or successors node []; cyclic = false }

    at_node : visit_of after node ≡ OnPath entered
    at_node = let low = target_inside in let long = s.one_each in get_or-set_same visits node (OnPath entered) New (omega arith)

    at_other : (x : ℕ) → (x ≡ node → ⊥) → visit_of after x ≡ visit_of visits x
    at_other x other = get_or-set_other visits node x (OnPath entered) New other

    is_new : (x : ℕ) → x ≡ node → visit_of visits x ≡ New
    is_new x same = ap (visit_of visits) same ∙ new

    is_entered : (x : ℕ) → x ≡ node → visit_of after x ≡ OnPath entered
    is_entered x same = ap (visit_of after) same ∙ at_node

    apart : (a : ℕ) → IsMember (last ∷ others) a → a ≡ node → ⊥
    apart a m same = on_path_not_new (λ k. k < entered) (visit_of visits a) (is_new a same) (s.numbers a m)

    goes_on : (h : Group) (x : ℕ) → IsFollowed h x (visit_of visits x) → IsFollowed h x (visit_of after x)
    goes_on h x f = elim (cases_eq x node) [
      | inl same ↦ absurd (followed_not_new h x (visit_of visits x) (is_new x same) f)
      | inr other ↦ subst (IsFollowed h x) (sym (at_other x other)) f
    ]

    fresh_is : IsGroup successors after fresh (last ∷ others)
    fresh_is =
        let g : IsGroup successors visits last others = s.path_is.1 in
        record {
          reached = λ a b m c. elim m [
            | inl single ↦ inl (sym (only node a single) ∙ only node b c)
            | inr earlier ↦ inr (subst (Path (Leads successors) a) (only node b c) (g.reaches a node earlier target))
          ];
          reaches = λ a b m t. elim m [
            | inl single ↦ subst (λ x. Path (Leads successors) x b) (only node a single) (edge t)
            | inr earlier ↦ path_on (g.reaches a node earlier target) t
          ];
          inside = λ b t. s.inside node b t;
          numbered = λ a c. on_path_is (λ k. entered ≤ k) (visit_of after a) entered (is_entered a (sym (only node a c))) (omega arith);
          earlier = λ a m. subst (IsOnPath (λ k. k < entered)) (sym (at_other a (apart a m))) (s.numbers a m);
          on_cycle = λ is. absurd (false≢true is);
          followed = λ a b c e. inl (subst (λ x. Leads successors x b) (sym (only node a c)) e);
        }

    pub entered_few : entered < length successors
    entered_few =
        let low = target_inside in
        let long = s.one_each in
        let few = s.few in
        let count = get_or-le-sum_by one_if_new visits node New (omega arith) in
        let single : one_if_new (get_or visits node New) ≡ 1 = ap one_if_new new in
        omega arith

    few_new : entered + 1 + count_new after ≤ length successors
    few_new =
        let low = target_inside in
        let long = s.one_each in
        let few = s.few in
        let count = sum_by-set one_if_new visits node (OnPath entered) New (omega arith) in
        let single : one_if_new (get_or visits node New) ≡ 1 = ap one_if_new new in
        omega arith

    entered_on : IsSearch successors after (entered + 1) (fresh ∷ last ∷ others)
    entered_on = record {
      inside = s.inside;
      one_each = length-set visits node (OnPath entered) ∙ s.one_each;
      few = few_new;
      path_is = (omega arith, fresh_is, path_stays successors visits after goes_on entered (last ∷ others) (λ a m. at_other a (apart a m)) s.path_is);
      members = λ x on. elim (cases_eq x node) [
        | inl same ↦ inl (subst (Contains (node ∷ [])) (sym same) (here node []))
        | inr other ↦ inr (s.members x (subst (IsOnPath (λ _. Unit {0})) (at_other x other) on))
      ];
      numbers = λ x m. elim m [
        | inl single ↦ on_path_is (λ k. k < entered + 1) (visit_of after x) entered (is_entered x (sym (only node x single))) (omega arith)
        | inr earlier ↦ subst (IsOnPath (λ k. k < entered + 1)) (sym (at_other x (apart x earlier))) (on_path_weaker (λ k. k < entered) (λ k. k < entered + 1) (visit_of visits x) (λ k low. omega arith) (s.numbers x earlier))
      ];
      pending = λ x low is. elim (cases_eq x node) [
        | inl same ↦ absurd (on_path_not_new (λ _. Unit {0}) (visit_of after x) is (on_path_is (λ _. Unit {0}) (visit_of after x) entered (is_entered x same) tt))
        | inr other ↦ inr (s.pending x low (sym (at_other x other) ∙ is))
      ];
      closed = λ a b done e. elim (cases_eq a node) [
        | inl same ↦ absurd (subst IsDone (is_entered a same) done)
        | inr other ↦
            let was : IsDone (visit_of visits b) = s.closed a b (subst IsDone (at_other a other) done) e in
            elim (cases_eq b node) [
              | inl same ↦ absurd (done_not_new (visit_of visits b) (is_new b same) was)
              | inr apart_b ↦ subst IsDone (sym (at_other b apart_b)) was
            ]
      ];
      right = λ x. elim (cases_eq x node) [
        | inl same ↦ subst (IsRight successors x) (sym (is_entered x same)) tt
        | inr other ↦ subst (IsRight successors x) (sym (at_other x other)) (s.right x)
      ];
    }

    pub entered_goes_on : GoesOn successors after (entered + 1) (fresh ∷ last ∷ others) (steps_left successors entered (last ∷ others))
    entered_goes_on = record {
      search = entered_on;
      less =
          let targets = get_or-le-sum_by length successors node [] target_inside in
          let on : steps_on (fresh ∷ last ∷ others) ≡ 1 + length (get_or successors node []) + steps_on (last ∷ others) = sum_by-cons (λ (g : Group). 1 + length g.targets) fresh (last ∷ others) in
          subst (λ p. (length successors - (entered + 1)) * (edges_in successors + 2) + p < steps_left successors entered (last ∷ others)) (sym on)
          (less_left (length successors) entered (edges_in successors) (length (get_or successors node [])) (steps_on (last ∷ others)) entered_few targets);
    }

abbrev fresh_with : ℕ → ℕ → List ℕ → Group
fresh_with entered node targets = record { first = entered; nodes = node ∷ []; targets = targets; cyclic = false }

-- as the code says it
pub entered_answer : (successors : List (List ℕ)) (visits : List Visit) (entered : ℕ) (last : Group) (others rest : List Group) (node : ℕ) (group : Group) (read : List ℕ) → IsSearch successors visits entered (last ∷ reverse others) → Contains last.targets node → visit_of visits node ≡ New → read ≡ get_or successors node [] → group ≡ record { first = entered; nodes = node ∷ []; targets = read; cyclic = false } → rest ≡ others ++ last ∷ [] → GoesOn successors (set visits node (OnPath entered)) (entered + 1) (group ∷ reverse rest) (steps_left successors entered (last ∷ reverse others))
entered_answer successors visits entered last others rest node group read s target new read_is group_is rest_is =
    let g : Group = record { first = entered; nodes = node ∷ []; targets = get_or successors node []; cyclic = false } in
    let group_all : group ≡ g = group_is ∙ ap (λ (l : List ℕ). fresh_with entered node l) read_is in
    let path : reverse rest ≡ last ∷ reverse others = ap reverse rest_is ∙ reverse_push others last in
    subst (λ p. GoesOn successors (set visits node (OnPath entered)) (entered + 1) (group ∷ p) (steps_left successors entered (last ∷ reverse others))) (sym path)
    (subst (λ h. GoesOn successors (set visits node (OnPath entered)) (entered + 1) (h ∷ last ∷ reverse others) (steps_left successors entered (last ∷ reverse others))) (sym group_all)
    (entered_goes_on successors visits entered last (reverse others) s node target new))
