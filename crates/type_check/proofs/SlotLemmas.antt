-- The numbers of places.
use Rattle.std.proofs.Common.{◌≡◌, ℕ, zero, suc, ◌+◌, ◌<◌, ◌⊎◌, List, [], ◌∷◌, ◌++◌, length, take, drop, map, get_or, add-one, append_assoc, Some, refl, sym, ap, subst, ◌∙◌, inl, inr, arith, Contains}
use Rattle.std.specs.Prelude.{slice_get}
use Rattle.std.proofs.lemmas.List.Sums.{sum_by-cons}
use Rattle.std.proofs.lemmas.List.Elements.{Contains-append_left, Contains-append_right}
use Rattle.std.proofs.lemmas.Bool.{cases_eq}
use Rattle.tsl_value.proofs.Lists.{here, later, left_at}
use Rattle.syntax_tree.specs.Tree as tree
use Rattle.syntax_tree.specs.inner.OneLevel.{item_of}
use Rattle.syntax_tree.specs.declared.tree.Item.{Item}
use Rattle.definition_cycles.specs.Nodes.{first_node, count_of}
use Rattle.type_check.specs.declared.slot.Slot.{Slot}
use Rattle.type_check.specs.declared.slot.Slot.TheVariants as slot
use Rattle.type_check.specs.inner.Slots.{local_slots, block_count, slots_from, slots}

-- two places are the same or not
pub same_slot : (t s : Slot) → (t ≡ s) ⊎ (t ≡ s → ⊥)
same_slot (slot.Item i) (slot.Item j) = elim (cases_eq i j) [ inl e ↦ inl (ap slot.Item e) | inr n ↦ inr (λ e. n (cc)) ]
same_slot (slot.Item i) (slot.Local j k) = inr (λ e. cc)
same_slot (slot.Local i k) (slot.Item j) = inr (λ e. cc)
same_slot (slot.Local i k) (slot.Local j l) = elim (cases_eq i j) [
  | inl e ↦ elim (cases_eq k l) [ inl f ↦ inl (ap (λ x. slot.Local x k) e ∙ ap (slot.Local j) f) | inr n ↦ inr (λ h. n (cc)) ]
  | inr n ↦ inr (λ h. n (cc))
]

-- ---- the definitions of a block
pub locals_length : (i k n : ℕ) → length (local_slots i k n) ≡ n
locals_length i k zero = refl
locals_length i k (suc n) = ap suc (locals_length i (suc k) n)

pub locals_split : (i k m n : ℕ) → local_slots i k (m + n) ≡ local_slots i k m ++ local_slots i (k + m) n
locals_split i k zero n = let e : 0 + n ≡ n = omega arith in let f : k ≡ k + 0 = omega arith in ap (local_slots i k) e ∙ ap (λ x. local_slots i x n) f
locals_split i k (suc m) n =
    let e : suc m + n ≡ suc (m + n) = omega arith in
    let f : suc k + m ≡ k + suc m = omega arith in
    ap (local_slots i k) e ∙ ap (λ l. slot.Local i k ∷ l) (locals_split i (suc k) m n ∙ ap (λ x. local_slots i (suc k) m ++ local_slots i x n) f)

local_at : (i k n j : ℕ) (s : Slot) → slice_get (local_slots i k n) j ≡ Some s → slot.Local i (k + j) ≡ s
local_at i k zero j s h = absurd (cc)
local_at i k (suc n) zero s h = let e : k + 0 ≡ k = omega arith in let f : slot.Local i k ≡ s = cc in ap (slot.Local i) e ∙ f
local_at i k (suc n) (suc j) s h = let e : k + suc j ≡ suc k + j = omega arith in ap (slot.Local i) e ∙ local_at i (suc k) n j s h

pub local_there : (i k n j : ℕ) → j < n → Contains (local_slots i k n) (slot.Local i (k + j))
local_there i k zero j h = absurd (omega arith)
local_there i k (suc n) zero h = let e : k ≡ k + 0 = omega arith in subst (λ x. Contains (local_slots i k (suc n)) (slot.Local i x)) e (here (slot.Local i k) (local_slots i (suc k) n))
local_there i k (suc n) (suc j) h =
    let e : suc k + j ≡ k + suc j = omega arith in
    later (slot.Local i k) (slot.Local i (k + suc j)) (local_slots i (suc k) n) (subst (λ x. Contains (local_slots i (suc k) n) (slot.Local i x)) e (local_there i (suc k) n j (omega arith)))

-- ---- the number of a place
abbrev pub number_of : List tree.Item → Slot → ℕ
number_of items (slot.Item i) = first_node items i
number_of items (slot.Local i k) = first_node items i + 1 + k

-- a place by its item's distance from the first
abbrev moved : ℕ → Slot → Slot
moved i (slot.Item j) = slot.Item (i + j)
moved i (slot.Local j k) = slot.Local (i + j) k

counted : (x : tree.Item) → count_of x ≡ 1 + block_count x
counted (tree.Input p q n y) = refl
counted (tree.Defined p (tree.Define q n ps w b)) = refl
counted (tree.Output p q n) = refl
counted (tree.OutputAs p e q n) = refl

-- an element of two lists
append_cases : (xs ys : List Slot) (a : ℕ) (s : Slot) → slice_get (xs ++ ys) a ≡ Some s → (slice_get xs a ≡ Some s) ⊎ ((b : ℕ) × (a ≡ length xs + b) × (slice_get ys b ≡ Some s))
append_cases [] ys a s h = inr (a, omega arith, h)
append_cases (x ∷ xs) ys zero s h = inl h
append_cases (x ∷ xs) ys (suc a) s h = elim (append_cases xs ys a s h) [ inl l ↦ inl l | inr r ↦ let e : a ≡ length xs + r.0 = r.1 in inr (r.0, omega arith, r.2) ]

record IsAt (i : ℕ) (items : List tree.Item) (a : ℕ) (s : Slot) : Type 0 where
  pub near : Slot
  pub far : moved i near ≡ s
  pub number : number_of items near ≡ a

at_next : (i : ℕ) (x : tree.Item) (items : List tree.Item) (a b : ℕ) (s : Slot) → a ≡ block_count x + b → IsAt (suc i) items b s → IsAt i (x ∷ items) (suc a) s
at_next i x items a b s e h = by h.near h.far h.number
  where
    by : (near : Slot) → moved (suc i) near ≡ s → number_of items near ≡ b → IsAt i (x ∷ items) (suc a) s
    by (slot.Item j) far is =
        let f : i + suc j ≡ suc i + j = omega arith in
        record { near = slot.Item (suc j); far = ap slot.Item f ∙ far; number = omega (arith, is, e, counted x, sum_by-cons count_of x (take j items)) }
    by (slot.Local j k) far is =
        let f : i + suc j ≡ suc i + j = omega arith in
        record { near = slot.Local (suc j) k; far = ap (λ y. slot.Local y k) f ∙ far; number = omega (arith, is, e, counted x, sum_by-cons count_of x (take j items)) }

is_at : (i : ℕ) (items : List tree.Item) (a : ℕ) (s : Slot) → slice_get (slots_from i items) a ≡ Some s → IsAt i items a s
is_at i [] a s h = absurd (cc)
is_at i (x ∷ items) zero s h = let e : i + 0 ≡ i = omega arith in let f : slot.Item i ≡ s = cc in record { near = slot.Item 0; far = ap slot.Item e ∙ f; number = refl }
is_at i (x ∷ items) (suc a) s h = elim (append_cases (local_slots i 0 (block_count x)) (slots_from (suc i) items) a s h) [
  | inl l ↦
      let e : i + 0 ≡ i = omega arith in
      let f : a ≡ 0 + a = omega arith in
      record { near = slot.Local 0 a; far = ap (λ y. slot.Local y a) e ∙ (ap (slot.Local i) f ∙ local_at i 0 (block_count x) a s l); number = omega arith }
  | inr r ↦
      let long = locals_length i 0 (block_count x) in
      let e : a ≡ block_count x + r.0 = omega (arith, long, r.1) in
      at_next i x items a r.0 s e (is_at (suc i) items r.0 s r.2)
]

unmoved : (s : Slot) → moved 0 s ≡ s
unmoved (slot.Item j) = let e : 0 + j ≡ j = omega arith in ap slot.Item e
unmoved (slot.Local j k) = let e : 0 + j ≡ j = omega arith in ap (λ y. slot.Local y k) e

-- the place of a number has this number
pub slot_number : (items : List tree.Item) (a : ℕ) (s : Slot) → slice_get (slots items) a ≡ Some s → number_of items s ≡ a
slot_number items a s h = let p = is_at 0 items a s h in ap (number_of items) (sym (sym (unmoved p.near) ∙ p.far)) ∙ p.number

-- ---- each place is there
item_in : (i : ℕ) (items : List tree.Item) (m : ℕ) (x : tree.Item) → slice_get items m ≡ Some x → Contains (slots_from i items) (slot.Item (i + m))
item_in i [] m x h = absurd (cc)
item_in i (y ∷ items) zero x h = let e : i ≡ i + 0 = omega arith in subst (λ j. Contains (slots_from i (y ∷ items)) (slot.Item j)) e (here (slot.Item i) (local_slots i 0 (block_count y) ++ slots_from (suc i) items))
item_in i (y ∷ items) (suc m) x h =
    let e : suc i + m ≡ i + suc m = omega arith in
    let rest = item_in (suc i) items m x h in
    subst (λ j. Contains (slots_from i (y ∷ items)) (slot.Item j)) e (later (slot.Item i) (slot.Item (suc i + m)) _ (Contains-append_right (local_slots i 0 (block_count y)) (slots_from (suc i) items) (slot.Item (suc i + m)) rest))

local_in : (i : ℕ) (items : List tree.Item) (m k : ℕ) (x : tree.Item) → slice_get items m ≡ Some x → k < block_count x → Contains (slots_from i items) (slot.Local (i + m) k)
local_in i [] m k x h l = absurd (cc)
local_in i (y ∷ items) zero k x h l =
    let e : i ≡ i + 0 = omega arith in
    let same : x ≡ y = cc in
    let f : 0 + k ≡ k = omega arith in
    let there : Contains (local_slots i 0 (block_count y)) (slot.Local i k) = subst (λ j. Contains (local_slots i 0 (block_count y)) (slot.Local i j)) f (local_there i 0 (block_count y) k (subst (λ z. k < block_count z) same l)) in
    subst (λ j. Contains (slots_from i (y ∷ items)) (slot.Local j k)) e (later (slot.Item i) (slot.Local i k) _ (Contains-append_left (local_slots i 0 (block_count y)) (slots_from (suc i) items) (slot.Local i k) there))
local_in i (y ∷ items) (suc m) k x h l =
    let e : suc i + m ≡ i + suc m = omega arith in
    let rest = local_in (suc i) items m k x h l in
    subst (λ j. Contains (slots_from i (y ∷ items)) (slot.Local j k)) e (later (slot.Item i) (slot.Local (suc i + m) k) _ (Contains-append_right (local_slots i 0 (block_count y)) (slots_from (suc i) items) (slot.Local (suc i + m) k) rest))

pub item_slot : (items : List tree.Item) (i : ℕ) (x : tree.Item) → slice_get items i ≡ Some x → Contains (slots items) (slot.Item i)
item_slot items i x h = let e : 0 + i ≡ i = omega arith in subst (λ j. Contains (slots items) (slot.Item j)) e (item_in 0 items i x h)

pub local_slot : (items : List tree.Item) (i k : ℕ) (x : tree.Item) → slice_get items i ≡ Some x → k < block_count x → Contains (slots items) (slot.Local i k)
local_slot items i k x h l = let e : 0 + i ≡ i = omega arith in subst (λ j. Contains (slots items) (slot.Local j k)) e (local_in 0 items i k x h l)

-- ---- turns of the loops that list places
pub locals_turn : (i k : ℕ) (xs ys : List Slot) → xs ≡ ys ++ local_slots i 0 k → xs ++ slot.Local i k ∷ [] ≡ ys ++ local_slots i 0 (k + 1)
locals_turn i k xs ys h =
    let e : k ≡ 0 + k = omega arith in
    ap (λ l. l ++ slot.Local i k ∷ []) h
    ∙ append_assoc ys (local_slots i 0 k) (slot.Local i k ∷ [])
    ∙ ap (λ l. ys ++ l) (ap (λ x. local_slots i 0 k ++ slot.Local i x ∷ []) e ∙ sym (locals_split i 0 k 1))

pub slots_turn : (items : List Item) (i : ℕ) (x : Item) (a b all : List Slot) → i < length items → x ≡ get_or items i x → a ++ slots_from i (map item_of (drop i items)) ≡ all → b ≡ (a ++ slot.Item i ∷ []) ++ local_slots i 0 (block_count (item_of x)) → b ++ slots_from (i + 1) (map item_of (drop (i + 1) items)) ≡ all
slots_turn items i x a b all within is done more =
    let block = local_slots i 0 (block_count (item_of x)) in
    let rest = map item_of (drop (i + 1) items) in
    ap (λ l. l ++ slots_from (i + 1) rest) more
    ∙ append_assoc (a ++ slot.Item i ∷ []) block (slots_from (i + 1) rest)
    ∙ append_assoc a (slot.Item i ∷ []) (block ++ slots_from (i + 1) rest)
    ∙ ap (λ j. a ++ slot.Item i ∷ (block ++ slots_from j rest)) (add-one i)
    ∙ ap (λ l. a ++ slots_from i (map item_of l)) (sym (left_at items i x within is))
    ∙ done
