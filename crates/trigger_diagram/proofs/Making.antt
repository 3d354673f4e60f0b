-- One more node of an equation's formula.
use Rattle.std.proofs.Common.{◌≡◌, ℕ, ◌+◌, ◌<◌, ◌↔◌, Bool, false, List, length, take, set, get_or, Contains, Option, Some, None, sym, ap, subst, ◌∙◌, inl, inr}
use Rattle.std.specs.Prelude.{IsTrue, slice_get, is_some, unwrap_or}
use Rattle.std.proofs.lemmas.Bool.{cases_eq}
use Rattle.std.proofs.lemmas.List.{get_or-set_same, get_or-set_other, take_more}
use Rattle.std.proofs.lemmas.List.Elements.{Contains-push_cases}
use Rattle.flat_core.proofs.Uniqueness.{all_by}
use Rattle.trigger_rules.specs.Formula.{Assignment}
use Rattle.trigger_starts.specs.declared.rules.Rule.{Rule}
use Rattle.trigger_starts.specs.inner.Rules.{used_by}
use Rattle.trigger_starts.specs.inner.Truth.{IsMet, value_by}
use Rattle.trigger_starts.proofs.Meaning.{value_met}
use Rattle.decision_diagrams.specs.declared.arena.Branch.{Branch}
use Rattle.decision_diagrams.specs.inner.Arena.{IsNode, Grows}
use Rattle.trigger_diagram.specs.inner.Made.{node_at, value_at, AreNodesOf, IsMade, UsedMade}
use Rattle.trigger_diagram.specs.inner.Truth.{truth, Tells}
use Rattle.trigger_diagram.proofs.Truths.{node_on, truth_kept}

-- the same nodes among more
pub nodes_kept : (rules : List Rule) (starts : List Bool) (old new : List Branch) (nodes : List (Option ℕ)) → Grows old new → AreNodesOf rules starts old nodes → AreNodesOf rules starts new nodes
nodes_kept rules starts old new nodes grows are = record {
  there = λ x. node_on old new (node_at nodes x) grows (are.there x);
  exact = λ x made holds. subst (λ b. IsTrue b ↔ IsMet false rules starts holds x) (sym (truth_kept old new (node_at nodes x) grows (are.there x) holds)) (are.exact x made holds);
}

module _ (rules : List Rule) (starts : List Bool) (old new : List Branch) (nodes : List (Option ℕ)) (x n : ℕ) (it : Rule) (low : x < length nodes) (is : slice_get rules x ≡ Some it) (used : UsedMade rules nodes x) (are : AreNodesOf rules starts old nodes) (grows : Grows old new) (tells : Tells new n (λ h. value_by it x starts (λ a. truth old (node_at nodes a) h) h)) where
  abbrev with : List (Option ℕ)
  with = set nodes x (Some n)

  at_same : get_or with x None ≡ Some n
  at_same = get_or-set_same nodes x (Some n) None low

  at_other : (y : ℕ) → (y ≡ x → ⊥) → get_or with y None ≡ get_or nodes y None
  at_other y other = get_or-set_other nodes x y (Some n) None other

  pub made_now : IsMade with x
  made_now = ap is_some at_same

  pub made_kept : (y : ℕ) → IsMade nodes y → IsMade with y
  made_kept y made = elim (cases_eq y x) [
    | inl same ↦ subst (IsMade with) (sym same) made_now
    | inr other ↦ ap is_some (at_other y other) ∙ made
  ]

  node_same : node_at with x ≡ n
  node_same = ap (λ o. unwrap_or o 0) at_same

  node_other : (y : ℕ) → (y ≡ x → ⊥) → node_at with y ≡ node_at nodes y
  node_other y other = ap (λ o. unwrap_or o 0) (at_other y other)

  there_more : (y : ℕ) → IsNode new (node_at with y)
  there_more y = elim (cases_eq y x) [
    | inl same ↦ subst (λ z. IsNode new (node_at with z)) (sym same) (subst (IsNode new) (sym node_same) tells.there)
    | inr other ↦ subst (IsNode new) (sym (node_other y other)) (node_on old new (node_at nodes y) grows (are.there y))
  ]

  exact_here : (holds : Assignment) → IsTrue (truth new n holds) ↔ IsMet false rules starts holds x
  exact_here holds =
      subst (λ b. IsTrue b ↔ IsMet false rules starts holds x) (sym (tells.is holds))
      (value_met rules starts holds x it is (value_at old nodes holds) (all_by (IsMade nodes) (λ a. IsTrue (truth old (node_at nodes a) holds) ↔ IsMet false rules starts holds a) (λ a made. are.exact a made holds) (used_by it) (used it is)))

  exact_more : (y : ℕ) → IsMade with y → (holds : Assignment) → IsTrue (truth new (node_at with y) holds) ↔ IsMet false rules starts holds y
  exact_more y made holds = elim (cases_eq y x) [
    | inl same ↦ subst (λ z. IsTrue (truth new (node_at with z) holds) ↔ IsMet false rules starts holds z) (sym same) (subst (λ m. IsTrue (truth new m holds) ↔ IsMet false rules starts holds x) (sym node_same) (exact_here holds))
    | inr other ↦
        subst (λ m. IsTrue (truth new m holds) ↔ IsMet false rules starts holds y) (sym (node_other y other))
        ((nodes_kept rules starts old new nodes grows are).exact y (sym (ap is_some (at_other y other)) ∙ made) holds)
  ]

  pub nodes_more : AreNodesOf rules starts new with
  nodes_more = record { there = there_more; exact = exact_more }

-- the nodes of one more step
pub made_next : (steps : List ℕ) (k : ℕ) → k < length steps → (old new : List (Option ℕ)) → ((x : ℕ) → IsMade old x → IsMade new x) → IsMade new (get_or steps k 0) → ((x : ℕ) → Contains (take k steps) x → IsMade old x) → (x : ℕ) → Contains (take (k + 1) steps) x → IsMade new x
made_next steps k lt old new kept now before x c = elim (Contains-push_cases (take k steps) (get_or steps k 0) x (subst (λ l. Contains l x) (take_more steps k 0 lt) c)) [
  | inl front ↦ kept x (before x front)
  | inr same ↦ subst (IsMade new) same now
]
