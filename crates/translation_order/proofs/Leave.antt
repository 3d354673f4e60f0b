-- All edges of the last group were followed: its nodes are done.
use Rattle.std.proofs.Common.{◌≡◌, ℕ, ◌+◌, ◌*◌, ◌-◌, ◌<◌, ◌≤◌, true, false, List, [], ◌∷◌, ◌++◌, length, get_or, reverse, option_to_list, Option, Some, None, MatchOption, All, Contains, refl, sym, ap, subst, ◌∙◌, ◌⊎◌, inl, inr, arith}
use Rattle.std.proofs.lemmas.Bool.{false≢true, cases_lt}
use Rattle.std.proofs.lemmas.List.{get_or_past}
use Rattle.std.proofs.lemmas.List.Elements.{Contains-get_or}
use Rattle.std.proofs.lemmas.List.Sums.{sum_by-cons}
use Rattle.translation_order.specs.Graph.{Path}
use Rattle.translation_order.specs.inner.Searching.{Leads, visit_of, IsOnPath, IsDone, IsRight, IsMember, IsFollowed, IsGroup, IsSearch, edges_in, steps_on, path_of, steps_left, GoesOn, AreMarked}
use Rattle.translation_order.specs.declared.search.Visit.{Visit}
use Rattle.translation_order.specs.declared.search.Visit.TheVariants.{New}
use Rattle.translation_order.specs.declared.search.Group.{Group}
use Rattle.tsl_value.proofs.Lists.{member_cases}
use Rattle.translation_order.proofs.SearchLists.{none_in, reverse_push}
use Rattle.translation_order.proofs.Paths.{along_from}
use Rattle.translation_order.proofs.Visits.{on_path_weaker, on_path_both, on_path_not_done, on_path_not_new, done_is, done_not_new, right_is, followed_cases, path_stays, path_limit}

less_without : (x was rest a : ℕ) → was ≡ 1 + a + rest → x + rest < x + was
less_without x was rest a was_is = omega arith

module _ (successors : List (List ℕ)) (visits after : List Visit) (entered : ℕ) (last : Group) (others : List Group) (s : IsSearch successors visits entered (last ∷ others)) (all : last.targets ≡ []) (m : AreMarked last.nodes last.cyclic visits after) where
  last_is : IsGroup successors visits last others
  last_is = s.path_is.1

  apart : (a : ℕ) → IsMember others a → Contains last.nodes a → ⊥
  apart a there c = on_path_both (λ k. k < last.first) (λ k. last.first ≤ k) (visit_of visits a) (λ k low high. omega arith) (last_is.earlier a there) (last_is.numbered a c)

  done_after : (x : ℕ) → IsDone (visit_of visits x) → IsDone (visit_of after x)
  done_after x d = elim (member_cases last.nodes x) [
    | inl c ↦ done_is (visit_of after x) last.cyclic (m.marked x c)
    | inr out ↦ subst IsDone (sym (m.kept x out)) d
  ]

  goes_on : (h : Group) (x : ℕ) → IsFollowed h x (visit_of visits x) → IsFollowed h x (visit_of after x)
  goes_on h x f = elim (member_cases last.nodes x) [
    | inl c ↦ subst (IsFollowed h x) (sym (m.marked x c)) tt
    | inr out ↦ subst (IsFollowed h x) (sym (m.kept x out)) f
  ]

  -- an edge of the group leads to a node that is done, or within the group
  leads_to : (a b : ℕ) → Contains last.nodes a → Leads successors a b → IsDone (visit_of visits b) ⊎ (Contains last.nodes b × (last.cyclic ≡ true))
  leads_to a b c e = elim (last_is.followed a b c e) [
    | inl t ↦ absurd (none_in last.targets b all t)
    | inr f ↦ elim (followed_cases last b (visit_of visits b) f) [
      | inl done ↦ inl done
      | inr on ↦ elim (s.members b (on_path_weaker (λ k. last.first ≤ k) (λ _. Unit {0}) (visit_of visits b) (λ _ _. tt) on.0)) [
        | inl there ↦ elim (on.1) [
          | inl cyclic ↦ inr (there, cyclic)
          | inr out ↦ absurd (out there)
        ]
        | inr earlier ↦ absurd (on_path_both (λ k. k < last.first) (λ k. last.first ≤ k) (visit_of visits b) (λ k low high. omega arith) (last_is.earlier b earlier) on.0)
      ]
    ]
  ]

  no_path : last.cyclic ≡ false → (x : ℕ) → Contains last.nodes x → Path (Leads successors) x x → ⊥
  no_path apart_is x c p =
      on_path_not_done (λ k. last.first ≤ k) (visit_of visits x) (last_is.numbered x c)
      (along_from (Leads successors) (λ y. IsDone (visit_of visits y)) (λ a b d e. s.closed a b d e) x x
      (λ y e. elim (leads_to x y c e) [
        | inl done ↦ done
        | inr inner ↦ absurd (false≢true (sym apart_is ∙ inner.1))
      ])
      p)

  left_on : IsSearch successors after entered others
  left_on = record {
    inside = s.inside;
    one_each = m.same_length ∙ s.one_each;
    few = let few = s.few in let fewer = m.few in omega arith;
    path_is = path_limit successors after last.first entered others s.path_is.0 (path_stays successors visits after goes_on last.first others (λ a there. m.kept a (apart a there)) s.path_is.2);
    members = λ x on. elim (member_cases last.nodes x) [
      | inl c ↦ absurd (on_path_not_done (λ _. Unit {0}) (visit_of after x) on (done_is (visit_of after x) last.cyclic (m.marked x c)))
      | inr out ↦ elim (s.members x (subst (IsOnPath (λ _. Unit {0})) (m.kept x out) on)) [
        | inl c ↦ absurd (out c)
        | inr there ↦ there
      ]
    ];
    numbers = λ x there. subst (IsOnPath (λ k. k < entered)) (sym (m.kept x (apart x there))) (s.numbers x (inr there));
    pending = λ x low is. elim (member_cases last.nodes x) [
      | inl c ↦ absurd (done_not_new (visit_of after x) is (done_is (visit_of after x) last.cyclic (m.marked x c)))
      | inr out ↦ elim (s.pending x low (sym (m.kept x out) ∙ is)) [
        | inl t ↦ absurd (none_in last.targets x all t)
        | inr rest ↦ rest
      ]
    ];
    closed = λ a b d e. elim (member_cases last.nodes a) [
      | inl c ↦ elim (leads_to a b c e) [
        | inl done ↦ done_after b done
        | inr inner ↦ done_is (visit_of after b) last.cyclic (m.marked b inner.0)
      ]
      | inr out ↦ done_after b (s.closed a b (subst IsDone (m.kept a out) d) e)
    ];
    right = λ x. elim (member_cases last.nodes x) [
      | inl c ↦ subst (IsRight successors x) (sym (m.marked x c)) (right_is successors x last.cyclic (λ cyclic. last_is.on_cycle cyclic x c) (λ apart_is. no_path apart_is x c))
      | inr out ↦ subst (IsRight successors x) (sym (m.kept x out)) (s.right x)
    ];
  }

  pub left_goes_on : GoesOn successors after entered others (steps_left successors entered (last ∷ others))
  left_goes_on = record {
    search = left_on;
    less =
        let was : steps_on (last ∷ others) ≡ 1 + length last.targets + steps_on others = sum_by-cons (λ (g : Group). 1 + length g.targets) last others in
        less_without ((length successors - entered) * (edges_in successors + 2)) (steps_on (last ∷ others)) (steps_on others) (length last.targets) was;
  }

-- ---- as the code says it
pub nodes_inside : (successors : List (List ℕ)) (visits : List Visit) (entered : ℕ) (last : Group) (others : List Group) → IsSearch successors visits entered (last ∷ others) → (read : List ℕ) (table : List Visit) → read ≡ last.nodes → table ≡ visits → All (λ x. x < length table) read
nodes_inside successors visits entered last others s read table read_is table_is k d lt =
    let x = get_or read k d in
    let there : Contains last.nodes x = subst (λ l. Contains l x) read_is (Contains-get_or read k d lt) in
    let on = s.numbers x (inl there) in
    let long : length table ≡ length visits = ap length table_is in
    elim (cases_lt x (length visits)) [
      | inl low ↦ omega arith
      | inr high ↦ absurd (on_path_not_new (λ n. n < entered) (visit_of visits x) (get_or_past visits x New high) on)
    ]

path_popped : (items rest : List Group) (popped : Option Group) (many left : ℕ) → many ≡ length items → items ≡ rest ++ option_to_list popped → MatchOption popped ((many ≡ 0) × (left ≡ 0)) (λ _. left + 1 ≡ many) → reverse items ≡ path_of popped rest
path_popped [] rest None many left many_is is none = refl
path_popped (g ∷ items) rest None many left many_is is none = let zero_is = none.0 in absurd (omega arith)
path_popped items rest (Some g) many left many_is is some = ap reverse is ∙ reverse_push rest g

pub left_answer : (successors : List (List ℕ)) (visits after : List Visit) (entered : ℕ) (last : Group) (others rest : List Group) (popped : Option Group) (many left : ℕ) (read : List ℕ) (table : List Visit) → IsSearch successors visits entered (last ∷ reverse others) → last.targets ≡ [] → read ≡ last.nodes → table ≡ visits → AreMarked read last.cyclic table after → many ≡ length others → others ≡ rest ++ option_to_list popped → MatchOption popped ((many ≡ 0) × (left ≡ 0)) (λ _. left + 1 ≡ many) → GoesOn successors after entered (path_of popped rest) (steps_left successors entered (last ∷ reverse others))
left_answer successors visits after entered last others rest popped many left read table s all read_is table_is m many_is others_is cases =
    subst (λ path. GoesOn successors after entered path (steps_left successors entered (last ∷ reverse others))) (path_popped others rest popped many left many_is others_is cases)
    (left_goes_on successors visits after entered last (reverse others) s all (subst (λ l. AreMarked l last.cyclic visits after) read_is (subst (λ t. AreMarked read last.cyclic t after) table_is m)))
