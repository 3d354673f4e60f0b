-- The table while it is filled, and when it is full.
use Rattle.std.proofs.Common.{◌≡◌, ℕ, zero, suc, ◌+◌, ◌<◌, ◌≤◌, ◌⊎◌, Bool, true, false, if◌then◌else◌, List, [], ◌∷◌, ◌++◌, length, take, drop, get_or, Option, Some, None, refl, sym, ap, subst, ◌∙◌, inl, inr, arith, Contains}
use Rattle.std.specs.Prelude.{slice_get}
use Rattle.std.proofs.lemmas.Bool.{cases_lt}
use Rattle.std.proofs.lemmas.List.{take_all}
use Rattle.std.proofs.lemmas.Option.{slice_get-get_or, slice_get_within}
use Rattle.tsl_value.proofs.Lists.{none_in_nil}
use Rattle.syntax_tree.specs.Tree as tree
use Rattle.type_rules.specs.declared.rule.ExprType.{ExprType}
use Rattle.definition_cycles.specs.Nodes.{nodes}
use Rattle.definition_cycles.specs.inner.Order.{IsKindOrder}
use Rattle.type_rules.specs.Kinds.{Kinds}
use Rattle.expr_types.specs.Bodies.{AreKinds, item_kind, block_kind, local_kind, may_have_braces, in_definition, within_block}
use Rattle.type_check.specs.declared.slot.Slot.{Slot}
use Rattle.type_check.specs.declared.slot.Slot.TheVariants as slot
use Rattle.type_check.specs.inner.Slots.{block_count, slots, kind_in, kind_by, IsRight, IsSet, NothingElse, FixedAreRight, AllAreRight}
use Rattle.type_check.proofs.SlotLemmas.{item_slot, local_slot}
use Rattle.type_check.proofs.NodeLemmas.{slots_length, local_late}
use Rattle.type_check.proofs.StepLemmas.{WrittenDone, AllDone, nothing_step, written_step, all_step}

-- ---- one place is set
pub item_is_set : (old new : Kinds) (i : ℕ) (kind : Option ExprType) → ((j : ℕ) → (j ≡ i → ⊥) → new.item j ≡ old.item j) → ((j k : ℕ) → new.local j k ≡ old.local j k) → new.item i ≡ kind → IsSet old new (slot.Item i) kind
item_is_set old new i kind others locals h = record { is_set = h; others = other }
  where
    other : (s : Slot) → (s ≡ slot.Item i → ⊥) → kind_in new s ≡ kind_in old s
    other (slot.Item j) n = others j (λ e. n (ap slot.Item e))
    other (slot.Local j k) n = locals j k

pub local_is_set : (old new : Kinds) (i k : ℕ) (kind : Option ExprType) → ((j l : ℕ) → (j ≡ i → l ≡ k → ⊥) → new.local j l ≡ old.local j l) → ((j : ℕ) → new.item j ≡ old.item j) → new.local i k ≡ kind → IsSet old new (slot.Local i k) kind
local_is_set old new i k kind others items h = record { is_set = h; others = other }
  where
    other : (s : Slot) → (s ≡ slot.Local i k → ⊥) → kind_in new s ≡ kind_in old s
    other (slot.Item j) n = items j
    other (slot.Local j l) n = others j l (λ e f. n (ap (λ x. slot.Local x l) e ∙ ap (slot.Local i) f))

-- ---- while it is filled: the table before, and the table when so many nodes are done
pub record Settled (items : List tree.Item) (front : List ℕ) (before now : Kinds) : Type 0 where
  pub nothing : NothingElse items before → NothingElse items now
  pub written : WrittenDone items front now
  pub all : FixedAreRight items before → AllDone items front now

pub settled_first : (items : List tree.Item) (now : Kinds) → Settled items [] now now
settled_first items now = record {
  nothing = λ h. h;
  written = λ a s at c. absurd (none_in_nil a c);
  all = λ h a s at done. elim done [ inl fixed ↦ h a s at fixed | inr c ↦ absurd (none_in_nil a c) ];
}

settled_step : (items : List tree.Item) (order front rest next : List ℕ) (b : ℕ) (s : Slot) (before old new : Kinds) → IsKindOrder items order → order ≡ front ++ b ∷ rest → next ≡ front ++ b ∷ [] → slice_get (slots items) b ≡ Some s → IsSet old new s (kind_by items old s) → Settled items front before old → Settled items next before new
settled_step items order front rest next b s before old new o is more place set h = subst (λ l. Settled items l before new) (sym more) (record {
  nothing = λ none. nothing_step items order front rest b o is s place old new set (h.nothing none);
  written = written_step items order front rest b o is s place old new set h.written;
  all = λ right. all_step items order front rest b o is s place old new set (h.all right);
})

parted : (xs : List ℕ) (i x d : ℕ) → i < length xs → x ≡ get_or xs i d → xs ≡ take i xs ++ x ∷ drop (i + 1) xs
parted [] i x d h is = absurd (omega arith)
parted (y ∷ ys) zero x d h is = ap (λ z. z ∷ ys) (sym is)
parted (y ∷ ys) (suc i) x d h is =
    let e : suc i + 1 ≡ suc (i + 1) = omega arith in
    ap (λ l. y ∷ l) (parted ys i x d (omega arith) is) ∙ ap (λ j. (y ∷ take i ys) ++ x ∷ drop j (y ∷ ys)) (sym e)

one_more : (xs : List ℕ) (i x d : ℕ) → i < length xs → x ≡ get_or xs i d → take (i + 1) xs ≡ take i xs ++ x ∷ []
one_more [] i x d h is = absurd (omega arith)
one_more (y ∷ ys) zero x d h is = ap (λ z. z ∷ []) (sym is)
one_more (y ∷ ys) (suc i) x d h is =
    let e : suc i + 1 ≡ suc (i + 1) = omega arith in
    ap (λ j. take j (y ∷ ys)) e ∙ ap (λ l. y ∷ l) (one_more ys i x d (omega arith) is)

-- each node of the order has a place
pub place_within : (items : List tree.Item) (order : List ℕ) (i b d : ℕ) (places : List Slot) → IsKindOrder items order → i < length order → b ≡ get_or order i d → places ≡ slots items → b < length places
place_within items order i b d places o within is same =
    let low = (o.takes_least (take i order) (drop (i + 1) order) b (parted order i b d within is)).holds.is_step in
    let long : length places ≡ length (nodes items) = ap length same ∙ slots_length items in
    omega (arith, low, long)

pub settled_turn : (items : List tree.Item) (order : List ℕ) (i b d : ℕ) (places : List Slot) (s e : Slot) (kind : Option ExprType) (before old new : Kinds) → IsKindOrder items order → i < length order → b ≡ get_or order i d → places ≡ slots items → s ≡ get_or places b e → kind ≡ kind_by items old s → IsSet old new s kind → Settled items (take i order) before old → Settled items (take (i + 1) order) before new
settled_turn items order i b d places s e kind before old new o within is same at right set h =
    let low = place_within items order i b d places o within is same in
    let place : slice_get (slots items) b ≡ Some s = ap (λ l. slice_get l b) (sym same) ∙ slice_get-get_or places b e low ∙ ap Some (sym at) in
    settled_step items order (take i order) (drop (i + 1) order) (take (i + 1) order) b s before old new o (parted order i b d within is) (one_more order i b d within is) place (subst (IsSet old new s) right set) h

-- ---- when all nodes are done
at_end : (items : List tree.Item) (order : List ℕ) (i : ℕ) (before now : Kinds) → length order ≤ i → Settled items (take i order) before now → Settled items order before now
at_end items order i before now past h = subst (λ l. Settled items l before now) (take_all i order past) h

in_order : (items : List tree.Item) (order : List ℕ) → IsKindOrder items order → (a : ℕ) (s : Slot) → slice_get (slots items) a ≡ Some s → Contains order a
in_order items order o a s at = o.all a (omega (arith, slots_length items, slice_get_within (slots items) a s at))

pub settled_nothing : (items : List tree.Item) (order : List ℕ) (i : ℕ) (before now : Kinds) → length order ≤ i → Settled items (take i order) before now → NothingElse items before → NothingElse items now
settled_nothing items order i before now past h = h.nothing

pub settled_written : (items : List tree.Item) (order : List ℕ) (i : ℕ) (before now : Kinds) → IsKindOrder items order → length order ≤ i → Settled items (take i order) before now → FixedAreRight items now
settled_written items order i before now o past h a s at fixed = (at_end items order i before now past h).written a s at (in_order items order o a s at) fixed

pub settled_all : (items : List tree.Item) (order : List ℕ) (i : ℕ) (before now : Kinds) → IsKindOrder items order → length order ≤ i → Settled items (take i order) before now → FixedAreRight items before → AllAreRight items now
settled_all items order i before now o past h right a s at = (at_end items order i before now past h).all right a s at (inr (in_order items order o a s at))

-- ---- a full table
none_after : (items : List tree.Item) (kinds : Kinds) (i k : ℕ) (x : tree.Item) → block_count x ≤ k → block_kind items kinds i k (Some x) ≡ None
none_after items kinds i k (tree.Input p q n y) h = refl
none_after items kinds i k (tree.Output p q n) h = refl
none_after items kinds i k (tree.OutputAs p e q n) h = refl
none_after items kinds i k (tree.Defined p (tree.Define q n ps w (tree.Plain e))) h = refl
none_after items kinds i k (tree.Defined p (tree.Define q n ps w (tree.Block ds e))) h = by (may_have_braces ps)
  where
    by : (b : Bool) → (if b then local_kind (within_block (in_definition items kinds i ps) ds) k ds else None) ≡ None
    by true = local_late (within_block (in_definition items kinds i ps) ds) k 0 ds (omega arith)
    by false = refl

right_at : (items : List tree.Item) (kinds : Kinds) → AllAreRight items kinds → (s : Slot) → Contains (slots items) s → IsRight items kinds s
right_at items kinds right s c = right c.0 s (slice_get-get_or (slots items) c.0 s c.1 ∙ ap Some c.2)

-- what is no place is nothing, whatever is known
pub place_cases : (items : List tree.Item) (s : Slot) → Contains (slots items) s ⊎ ((any : Kinds) → kind_by items any s ≡ None)
place_cases items (slot.Item i) = by (slice_get items i) refl
  where
    by : (x : Option tree.Item) → slice_get items i ≡ x → Contains (slots items) (slot.Item i) ⊎ ((any : Kinds) → item_kind items any i (slice_get items i) ≡ None)
    by None is = inr (λ any. ap (item_kind items any i) is)
    by (Some x) is = inl (item_slot items i x is)
place_cases items (slot.Local i k) = by (slice_get items i) refl
  where
    by : (x : Option tree.Item) → slice_get items i ≡ x → Contains (slots items) (slot.Local i k) ⊎ ((any : Kinds) → block_kind items any i k (slice_get items i) ≡ None)
    by None is = inr (λ any. ap (block_kind items any i k) is)
    by (Some x) is = elim (cases_lt k (block_count x)) [
      | inl l ↦ inl (local_slot items i k x is l)
      | inr l ↦ inr (λ any. ap (block_kind items any i k) is ∙ none_after items any i k x l)
    ]

pub are_kinds : (items : List tree.Item) (kinds : Kinds) → NothingElse items kinds → AllAreRight items kinds → AreKinds items kinds
are_kinds items kinds nothing right = record { items_are = λ i. each (slot.Item i); locals_are = λ i k. each (slot.Local i k) }
  where
    each : (s : Slot) → IsRight items kinds s
    each s = elim (place_cases items s) [ inl c ↦ right_at items kinds right s c | inr none ↦ nothing s none ∙ sym (none kinds) ]

-- a table that knows nothing
pub nothing_else : (items : List tree.Item) (kinds : Kinds) → ((i : ℕ) → kinds.item i ≡ None) → ((i k : ℕ) → kinds.local i k ≡ None) → NothingElse items kinds
nothing_else items kinds none nones (slot.Item i) h = none i
nothing_else items kinds none nones (slot.Local i k) h = nones i k
