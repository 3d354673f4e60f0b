-- Where there is no cycle the declared names are one thing, and so is the first fault.
use Rattle.std.proofs.Common.{◌≡◌, ℕ, List, [], length, true, Option, Some, None, Result, Ok, Err, refl, sym, ap, subst, ◌∙◌, inl, inr, arith}
use Rattle.std.specs.Prelude.{slice_get, IfOk, IfErr}
use Rattle.std.proofs.lemmas.Option.{slice_get-get_or, slice_get_within}
use Rattle.tsl_value.specs.declared.place.Place.{Place}
use Rattle.syntax_tree.specs.Tree as tree
use Rattle.translation_order.specs.Graph.{Path}
use Rattle.definition_cycles.specs.Nodes.{Node, nodes}
use Rattle.definition_cycles.specs.Mentions.{Mentions, MentionsUntyped}
use Rattle.definition_cycles.specs.Cycles.{IsPlaceOfLeast}
use Rattle.definition_cycles.proofs.Acyclic.{holds}
use Rattle.type_rules.specs.Kinds.{Kinds}
use Rattle.expr_types.specs.Bodies.{AreKinds, item_kind}
use Rattle.type_check.specs.declared.slot.Slot.{Slot}
use Rattle.type_check.specs.declared.slot.Slot.TheVariants as slot
use Rattle.type_check.specs.declared.fault.TypeFault.{TypeFault}
use Rattle.type_check.specs.declared.fault.TypeFault.TheVariants as fault
use Rattle.type_check.specs.inner.Slots.{slots, kind_in, kind_by, IsRight}
use Rattle.type_check.specs.inner.Answer.{IsAcceptedUnlessMemory, IsFaultOf, IsRefusedUnlessMemory}
use Rattle.type_check.specs.Faults.{first_fault, early, late, HasNoCycle, IsAccepted, IsCycleFault, IsFirstFault, before_cycles, cycle, after_cycles}
use Rattle.type_check.specs.inner.Laws.{SameKinds}
use Rattle.type_check.proofs.SlotLemmas.{number_of, slot_number}
use Rattle.type_check.proofs.NodeLemmas.{IsView, IsInput, is_input, view_at, same_body}
use Rattle.type_check.proofs.StepLemmas.{IsPlace}
use Rattle.type_check.proofs.KindLemmas.{place_cases}

are_right : (items : List tree.Item) (kinds : Kinds) → AreKinds items kinds → (s : Slot) → IsRight items kinds s
are_right items kinds are (slot.Item i) = are.items_are i
are_right items kinds are (slot.Local i k) = are.locals_are i k

-- ---- two tables say the same of a node, since they do of what it mentions
module _ (items : List tree.Item) (none : (x : ℕ) → Path (MentionsUntyped items) x x → ⊥) (a b : Kinds) (is_a : AreKinds items a) (is_b : AreKinds items b) where
  by_equation : (s : Slot) → kind_by items a s ≡ kind_by items b s → kind_in a s ≡ kind_in b s
  by_equation s e = are_right items a is_a s ∙ e ∙ sym (are_right items b is_b s)

  input_same : (j : ℕ) → IsInput items j → a.item j ≡ b.item j
  input_same j h = by (slice_get items j) refl h
    where
      by : (x : Option tree.Item) → slice_get items j ≡ x → is_input x ≡ true → a.item j ≡ b.item j
      by (Some (tree.Input p q n y)) is t = by_equation (slot.Item j) (ap (item_kind items a j) is ∙ sym (ap (item_kind items b j) is))
      by (Some (tree.Defined p d)) is t = absurd (cc)
      by (Some (tree.Output p q n)) is t = absurd (cc)
      by (Some (tree.OutputAs p e q n)) is t = absurd (cc)
      by None is t = absurd (cc)

  same_view : (n : ℕ) (s : Slot) (node : Node) → slice_get (nodes items) n ≡ Some node → IsView items s node → ((m : ℕ) (t : Slot) → MentionsUntyped items n m → IsPlace items m t → kind_in a t ≡ kind_in b t) → kind_in a s ≡ kind_in b s
  same_view n s node is (inl fixed) deeper = by_equation s (fixed a b)
  same_view n s node is (inr body) deeper = by_equation s (same_body items n s node is body a b mentioned input_same)
    where
      place : (t : Slot) (m : ℕ) → IsPlace items m t → (next : Node) → slice_get (nodes items) m ≡ Some next → IsView items t next → Mentions items n (number_of items t) → kind_in a t ≡ kind_in b t
      place t m at next is_next (inl fixed) mention = by_equation t (fixed a b)
      place t m at next is_next (inr last) mention = deeper m t (record {
        from = record { node = node; is_node = is; not_written = body.not_written };
        to = record { node = next; is_node = is_next; not_written = last.not_written };
        mentions = subst (Mentions items n) (slot_number items m t at) mention;
      }) at

      mentioned : (t : Slot) → Mentions items n (number_of items t) → kind_in a t ≡ kind_in b t
      mentioned t mention = elim (place_cases items t) [
        | inl c ↦ let at = slice_get-get_or (slots items) c.0 t c.1 ∙ ap Some c.2 in let v = view_at items c.0 t at in place t c.0 at v.node v.is_node v.fits mention
        | inr nothing ↦ by_equation t (nothing a ∙ sym (nothing b))
      ]

  same_at : (n : ℕ) (s : Slot) → IsPlace items n s → kind_in a s ≡ kind_in b s
  same_at = holds (length (nodes items)) (MentionsUntyped items) none (λ n m e. slice_get_within (nodes items) n e.from.node e.from.is_node)
      (λ n. (s : Slot) → IsPlace items n s → kind_in a s ≡ kind_in b s)
      (λ n deeper s at. let v = view_at items n s at in same_view n s v.node v.is_node v.fits (λ m t e there. deeper m e t there))

  same_slots : (s : Slot) → kind_in a s ≡ kind_in b s
  same_slots s = elim (place_cases items s) [
    | inl c ↦ same_at c.0 s (slice_get-get_or (slots items) c.0 s c.1 ∙ ap Some c.2)
    | inr nothing ↦ by_equation s (nothing a ∙ sym (nothing b))
  ]

pub one_kinds : (items : List tree.Item) (a b : Kinds) → HasNoCycle items → AreKinds items a → AreKinds items b → SameKinds a b
one_kinds items a b clear is_a is_b = record {
  items_same = λ i. same_slots items clear.untyped a b is_a is_b (slot.Item i);
  locals_same = λ i k. same_slots items clear.untyped a b is_a is_b (slot.Local i k);
}

-- ---- the first fault
pub kinds_same : (a b : Kinds) → SameKinds a b → a ≡ b
kinds_same a b s = λ j. record { item = λ i. s.items_same i j; local = λ i k. s.locals_same i k j }

late_same : (items : List tree.Item) (end : Place) (a b : Kinds) → HasNoCycle items → AreKinds items a → AreKinds items b → late items end a ≡ late items end b
late_same items end a b clear is_a is_b = ap (late items end) (kinds_same a b (one_kinds items a b clear is_a is_b))

no_first : (fs : List TypeFault) (f : TypeFault) → fs ≡ [] → first_fault fs ≡ Some f → ⊥
no_first fs f e h = let p = ap first_fault e in cc

one_first : (fs gs : List TypeFault) (f g : TypeFault) → fs ≡ gs → first_fault fs ≡ Some f → first_fault gs ≡ Some g → f ≡ g
one_first fs gs f g e h k = let p = ap first_fault e in cc

no_cycle_fault : (items : List tree.Item) (f : TypeFault) → HasNoCycle items → IsCycleFault items f → ⊥
no_cycle_fault items (fault.FunctionCycle p) clear h = clear.functions h.number h.is_least.holds
no_cycle_fault items (fault.NeedsType p) clear h = clear.untyped h.1.number h.1.is_least.holds
no_cycle_fault items f clear h = h

one_place : (P : ℕ → Type 0) (places : List Place) (p q : Place) → IsPlaceOfLeast P places p → IsPlaceOfLeast P places q → p ≡ q
one_place P places p q h k =
    let below = h.is_least.least k.number k.is_least.holds in
    let above = k.is_least.least h.number h.is_least.holds in
    let same : h.number ≡ k.number = omega (arith, below, above) in
    let e = sym h.at ∙ ap (slice_get places) same ∙ k.at in cc

one_cycle : (items : List tree.Item) (f g : TypeFault) → IsCycleFault items f → IsCycleFault items g → f ≡ g
one_cycle items (fault.FunctionCycle p) (fault.FunctionCycle q) h k = ap fault.FunctionCycle (one_place _ _ p q h k)
one_cycle items (fault.FunctionCycle p) (fault.NeedsType q) h k = absurd (k.0 h.number h.is_least.holds)
one_cycle items (fault.NeedsType p) (fault.FunctionCycle q) h k = absurd (h.0 k.number k.is_least.holds)
one_cycle items (fault.NeedsType p) (fault.NeedsType q) h k = ap fault.NeedsType (one_place _ _ p q h.1 k.1)
one_cycle items (fault.FunctionCycle p) g h k = absurd k
one_cycle items (fault.NeedsType p) g h k = absurd k
one_cycle items f g h k = absurd h

pub one_fault : (items : List tree.Item) (end : Place) (f g : TypeFault) → IsFirstFault items end f → IsFirstFault items end g → f ≡ g
one_fault items end f g (before_cycles h) (before_cycles k) = one_first (early items) (early items) f g refl h k
one_fault items end f g (before_cycles h) (cycle none k) = absurd (no_first (early items) f none h)
one_fault items end f g (before_cycles h) (after_cycles kinds none clear are k) = absurd (no_first (early items) f none h)
one_fault items end f g (cycle none h) (before_cycles k) = absurd (no_first (early items) g none k)
one_fault items end f g (cycle none h) (cycle none_too k) = one_cycle items f g h k
one_fault items end f g (cycle none h) (after_cycles kinds none_too clear are k) = absurd (no_cycle_fault items f clear h)
one_fault items end f g (after_cycles kinds none clear are h) (before_cycles k) = absurd (no_first (early items) g none k)
one_fault items end f g (after_cycles kinds none clear are h) (cycle none_too k) = absurd (no_cycle_fault items g clear k)
one_fault items end f g (after_cycles a none clear are h) (after_cycles b none_too no_too are_too k) = one_first (late items end a) (late items end b) f g (late_same items end a b clear are are_too) h k

pub accepted_has_no_fault : (items : List tree.Item) (end : Place) (kinds : Kinds) (f : TypeFault) → IsAccepted items end kinds → IsFirstFault items end f → ⊥
accepted_has_no_fault items end kinds f is (before_cycles h) = no_first (early items) f is.no_early h
accepted_has_no_fault items end kinds f is (cycle none h) = no_cycle_fault items f is.no_cycle h
accepted_has_no_fault items end kinds f is (after_cycles other none clear are h) = no_first (late items end other) f (late_same items end other kinds clear are is.are_kinds ∙ is.no_late) h

-- ---- what the check answers is the only answer
pub only_accepted : {X : Type 0} (r : Result X TypeFault) (items : List tree.Item) (end : Place) (kinds : Kinds) → IfErr r (IsFaultOf items end) → IsAccepted items end kinds → IsAcceptedUnlessMemory r
only_accepted (Ok x) items end kinds err is = tt
only_accepted (Err fault.Memory) items end kinds err is = tt
only_accepted (Err f) items end kinds err is = accepted_has_no_fault items end kinds f is err

pub only_fault : {X : Type 0} (r : Result X TypeFault) (items : List tree.Item) (end : Place) (f : TypeFault) (kinds_in : X → Kinds) → IfOk r (λ x. IsAccepted items end (kinds_in x)) → IfErr r (IsFaultOf items end) → IsFirstFault items end f → IsRefusedUnlessMemory r f
only_fault (Ok x) items end f kinds_in ok err first = accepted_has_no_fault items end (kinds_in x) f ok first
only_fault (Err fault.Memory) items end f kinds_in ok err first = tt
only_fault (Err g) items end f kinds_in ok err first = one_fault items end g f err first
