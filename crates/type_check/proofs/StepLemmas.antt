-- A table of which one place more is set, in an order in which each node stands after those that it mentions.
use Rattle.std.proofs.Common.{◌≡◌, ℕ, ◌⊎◌, false, List, [], ◌∷◌, ◌++◌, Some, sym, ap, subst, ◌∙◌, inl, inr, append_assoc, Contains}
use Rattle.std.specs.Prelude.{slice_get}
use Rattle.std.proofs.lemmas.Bool.{cases_eq}
use Rattle.std.proofs.lemmas.List.Elements.{Contains-append_left, Contains-push_cases}
use Rattle.syntax_tree.specs.Tree as tree
use Rattle.translation_order.proofs.Lists.{split_at}
use Rattle.definition_cycles.specs.Nodes.{Node, nodes}
use Rattle.definition_cycles.specs.Mentions.{Mentions, MentionsUntyped}
use Rattle.definition_cycles.specs.inner.Order.{IsKindOrder}
use Rattle.type_rules.specs.Kinds.{Kinds}
use Rattle.type_check.specs.declared.slot.Slot.{Slot}
use Rattle.type_check.specs.declared.slot.Slot.TheVariants as slot
use Rattle.type_check.specs.inner.Slots.{slots, kind_in, kind_by, IsRight, IsFixed, IsSet, NothingElse}
use Rattle.type_check.proofs.SlotLemmas.{number_of, same_slot, slot_number}
use Rattle.type_check.proofs.NodeLemmas.{IsBody, IsView, IsInput, NotInput, is_input, view_at, same_body}

-- the place of number a
abbrev pub IsPlace : List tree.Item → ℕ → Slot → Type 0
IsPlace items a s = slice_get (slots items) a ≡ Some s

-- what is right when the nodes of `front` are done: those that don't depend on the table, and then all
abbrev pub WrittenDone : List tree.Item → List ℕ → Kinds → Type 0
WrittenDone items front kinds = (a : ℕ) (s : Slot) → IsPlace items a s → Contains front a → IsFixed items s → IsRight items kinds s

abbrev pub AllDone : List tree.Item → List ℕ → Kinds → Type 0
AllDone items front kinds = (a : ℕ) (s : Slot) → IsPlace items a s → (IsFixed items s ⊎ Contains front a) → IsRight items kinds s

-- nothing that is done mentions what is next
module _ (items : List tree.Item) (order front rest : List ℕ) (b : ℕ) (o : IsKindOrder items order) (is : order ≡ front ++ b ∷ rest) where
  not_before : Contains front b → ⊥
  not_before c = (o.takes_least front rest b is).holds.is_new c

  old_mentions : (a : ℕ) → Contains front a → MentionsUntyped items a b → ⊥
  old_mentions a c m =
      let parts = split_at front a c in
      let f = parts.0 in
      let r = parts.1 in
      let e : order ≡ f ++ a ∷ (r ++ b ∷ rest) = is ∙ ap (λ l. l ++ b ∷ rest) parts.2 ∙ append_assoc f (a ∷ r) (b ∷ rest) in
      let before : Contains f b = (o.takes_least f (r ++ b ∷ rest) a e).holds.is_free b m in
      not_before (subst (λ l. Contains l b) (sym parts.2) (Contains-append_left f (a ∷ r) b before))

  pub done_mentions : (a : ℕ) → Contains (front ++ b ∷ []) a → MentionsUntyped items a b → ⊥
  done_mentions a c m = elim (Contains-push_cases front b a c) [
    | inl old ↦ old_mentions a old m
    | inr same ↦ not_before ((o.takes_least front rest b is).holds.is_free b (subst (λ x. MentionsUntyped items x b) (sym same) m))
  ]

  -- ---- one place is set
  module _ (s : Slot) (place : IsPlace items b s) (old new : Kinds) (set : IsSet old new s (kind_by items old s)) where
    pub nothing_step : NothingElse items old → NothingElse items new
    nothing_step h t none = elim (same_slot t s) [
      | inl e ↦ ap (kind_in new) e ∙ set.is_set ∙ ap (kind_by items old) (sym e) ∙ none old
      | inr n ↦ set.others t n ∙ h t none
    ]

    other_place : (a : ℕ) (t : Slot) → IsPlace items a t → (a ≡ b → ⊥) → t ≡ s → ⊥
    other_place a t at ne e = ne (sym (slot_number items a t at) ∙ ap (number_of items) e ∙ slot_number items b s place)

    same_place : (a : ℕ) (t : Slot) → IsPlace items a t → a ≡ b → t ≡ s
    same_place a t at e = let p = sym at ∙ ap (slice_get (slots items)) e ∙ place in cc

    -- what is done stays right where what it should be stays
    keeps : (a : ℕ) (t : Slot) → IsPlace items a t → kind_by items old t ≡ kind_by items new t → ((a ≡ b → ⊥) → IsRight items old t) → IsRight items new t
    keeps a t at same right = elim (cases_eq a b) [
      | inl e ↦ let f = same_place a t at e in ap (kind_in new) f ∙ set.is_set ∙ ap (kind_by items old) (sym f) ∙ same
      | inr n ↦ set.others t (other_place a t at n) ∙ right n ∙ same
    ]

    before_of : (a : ℕ) → Contains (front ++ b ∷ []) a → (a ≡ b → ⊥) → Contains front a
    before_of a c n = elim (Contains-push_cases front b a c) [ inl l ↦ l | inr e ↦ absurd (n (sym e)) ]

    pub written_step : WrittenDone items front old → WrittenDone items (front ++ b ∷ []) new
    written_step h a t at c fixed = keeps a t at (fixed old new) (λ n. h a t at (before_of a c n) fixed)

    -- where the place had this already, nothing changes
    unchanged : IsRight items old s → (t : Slot) → kind_in old t ≡ kind_in new t
    unchanged right t = elim (same_slot t s) [
      | inl e ↦ ap (kind_in old) e ∙ right ∙ sym set.is_set ∙ ap (kind_in new) (sym e)
      | inr n ↦ sym (set.others t n)
    ]

    input_kept : NotInput items s → (j : ℕ) → IsInput items j → old.item j ≡ new.item j
    input_kept not j is_in = sym (set.others (slot.Item j) (λ e. differ (subst (NotInput items) (sym e) not)))
      where
        differ : is_input (slice_get items j) ≡ false → ⊥
        differ f = cc

    mentioned_kept : (a : ℕ) (node : Node) → slice_get (nodes items) a ≡ Some node → (t : Slot) → IsBody items t node → (next : Node) → slice_get (nodes items) b ≡ Some next → IsBody items s next → Contains (front ++ b ∷ []) a → (u : Slot) → Mentions items a (number_of items u) → kind_in old u ≡ kind_in new u
    mentioned_kept a node is_node t body next is_next last c u m = sym (set.others u (λ e.
        let number : number_of items u ≡ b = ap (number_of items) e ∙ slot_number items b s place in
        done_mentions a c (record {
          from = record { node = node; is_node = is_node; not_written = body.not_written };
          to = record { node = next; is_node = is_next; not_written = last.not_written };
          mentions = subst (Mentions items a) number m;
        })))

    body_kept : AllDone items front old → (a : ℕ) (node : Node) → slice_get (nodes items) a ≡ Some node → (t : Slot) → IsBody items t node → Contains (front ++ b ∷ []) a → (next : Node) → slice_get (nodes items) b ≡ Some next → IsView items s next → kind_by items old t ≡ kind_by items new t
    body_kept h a node is_node t body c next is_next (inl fixed) =
        let same = unchanged (h b s place (inl fixed)) in
        same_body items a t node is_node body old new (λ u m. same u) (λ j i. same (slot.Item j))
    body_kept h a node is_node t body c next is_next (inr last) =
        same_body items a t node is_node body old new (mentioned_kept a node is_node t body next is_next last c) (input_kept last.no_input)

    view_kept : AllDone items front old → (a : ℕ) (node : Node) → slice_get (nodes items) a ≡ Some node → (t : Slot) → IsView items t node → Contains (front ++ b ∷ []) a → kind_by items old t ≡ kind_by items new t
    view_kept h a node is_node t (inl fixed) c = fixed old new
    view_kept h a node is_node t (inr body) c = let next = view_at items b s place in body_kept h a node is_node t body c next.node next.is_node next.fits

    pub all_step : AllDone items front old → AllDone items (front ++ b ∷ []) new
    all_step h a t at (inl fixed) = keeps a t at (fixed old new) (λ n. h a t at (inl fixed))
    all_step h a t at (inr c) = let v = view_at items a t at in keeps a t at (view_kept h a v.node v.is_node t v.fits c) (λ n. h a t at (inr (before_of a c n)))
