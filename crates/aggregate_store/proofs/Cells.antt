-- The cells that slots hold.
use Rattle.std.proofs.Common.{◌≡◌, ℕ, zero, suc, ◌+◌, ◌<◌, ◌≤◌, Bool, true, false, cond, List, [], ◌∷◌, ◌++◌, Option, Some, None, length, drop, get_or, refl, sym, ap, subst, ◌∙◌, inl, inr, arith}
use Rattle.std.proofs.lemmas.Bool.{cases_eq, cases_lt, ne_eqb, true≢false}
use Rattle.std.proofs.lemmas.List.{get_or-set_same, get_or-set_other, get_or_past, get_or_push}
use Rattle.std.specs.Prelude.{◌≢◌, ◌==◌, is_some, slice_set, unwrap_or}
use Rattle.std.specs.Cmp.{nat_cmp_total, nat_eq_equiv, unsigned_tied}
use Rattle.std.specs.FinMap as finite_map
use Rattle.std.specs.Option.{option_map}
use Rattle.std.specs.Ordering.{eq_by_cmp, nat_cmp}
use Rattle.tsl_value.specs.View.{View, Plain}
use Rattle.tsl_value.specs.declared.scalar.Scalar.TheVariants as scalar
use Rattle.cell_reader.specs.inner.Cells.{Cells, IsLive, view_at}
use Rattle.aggregate_store.specs.declared.cell.Cell.{Cell}
use Rattle.aggregate_store.specs.inner.CellView.{cells_of, entries_from, view_of}
use Rattle.aggregate_store.specs.inner.Stored.{Stored}

tied : (a b : ℕ) → a ≡ b → eq_by_cmp nat_cmp a b ≡ true
tied a b same = unsigned_tied a b ∙ subst (λ n. (a == n) ≡ true) same (nat_eq_equiv.refl a)

apart : (a b : ℕ) → a ≢ b → eq_by_cmp nat_cmp a b ≡ false
apart a b other = unsigned_tied a b ∙ ne_eqb a b other

-- ---- one slot

before : (slots : List (Option Cell)) (q n : ℕ) → q < n → finite_map.find nat_cmp q (entries_from n slots) ≡ None
before [] q n lt = refl
before (None ∷ slots) q n lt = before slots q (suc n) (omega arith)
before (Some c ∷ slots) q n lt =
    ap (λ b. cond b (Some (view_of c)) (finite_map.find nat_cmp q (entries_from (suc n) slots))) (apart q n (λ same. absurd (omega arith)))
    ∙ before slots q (suc n) (omega arith)

find_at : (slots : List (Option Cell)) (q n k : ℕ) → q ≡ n + k → finite_map.find nat_cmp q (entries_from n slots) ≡ option_map view_of (get_or slots k None)
find_at [] q n k is = refl
find_at (None ∷ slots) q n zero is = before slots q (suc n) (omega arith)
find_at (None ∷ slots) q n (suc k) is = find_at slots q (suc n) k (omega arith)
find_at (Some c ∷ slots) q n zero is =
    ap (λ b. cond b (Some (view_of c)) (finite_map.find nat_cmp q (entries_from (suc n) slots))) (tied q n (omega arith))
find_at (Some c ∷ slots) q n (suc k) is =
    ap (λ b. cond b (Some (view_of c)) (finite_map.find nat_cmp q (entries_from (suc n) slots))) (apart q n (λ same. absurd (omega arith)))
    ∙ find_at slots q (suc n) k (omega arith)

pub get_slot : (slots : List (Option Cell)) (q : ℕ) → finite_map.get (cells_of slots) q ≡ option_map view_of (get_or slots q None)
get_slot slots q = finite_map.get-from_entries nat_cmp_total (entries_from 0 slots) q ∙ find_at slots q 0 q (omega arith)

same_cells : (slots : List (Option Cell)) (cells : Cells) → ((q : ℕ) → option_map view_of (get_or slots q None) ≡ finite_map.get cells q) → cells_of slots ≡ cells
same_cells slots cells is = finite_map.same_map nat_cmp_total finite_map.nat_cmp-IsAntisymmetric (cells_of slots) cells (λ q. get_slot slots q ∙ is q)

-- ---- changes

module _ (slots : List (Option Cell)) (new : List (Option Cell)) (handle : ℕ) (c : Cell) where
  -- a slot is filled, and the others stay
  pub filled : get_or new handle None ≡ Some c → ((q : ℕ) → q ≢ handle → get_or new q None ≡ get_or slots q None) → cells_of new ≡ finite_map.insert (cells_of slots) handle (view_of c)
  filled here others = same_cells new (finite_map.insert (cells_of slots) handle (view_of c)) (λ q. elim (cases_eq q handle) [
    | inl same ↦
        ap (λ n. option_map view_of (get_or new n None)) same ∙ ap (option_map view_of) here
        ∙ sym (finite_map.get-insert nat_cmp_total (cells_of slots) handle (view_of c) q ∙ ap (λ b. cond b (Some (view_of c)) (finite_map.get (cells_of slots) q)) (tied q handle same))
    | inr other ↦
        ap (option_map view_of) (others q other) ∙ sym (get_slot slots q)
        ∙ sym (finite_map.get-insert nat_cmp_total (cells_of slots) handle (view_of c) q ∙ ap (λ b. cond b (Some (view_of c)) (finite_map.get (cells_of slots) q)) (apart q handle other))
  ])

pub put_slot : (slots : List (Option Cell)) (handle : ℕ) (c : Cell) → handle < length slots → cells_of (slice_set slots handle (Some c)) ≡ finite_map.insert (cells_of slots) handle (view_of c)
put_slot slots handle c lt =
    filled slots (slice_set slots handle (Some c)) handle c (get_or-set_same slots handle (Some c) None lt) (λ q other. get_or-set_other slots handle q (Some c) None other)

pushed_other : (slots : List (Option Cell)) (o : Option Cell) (q : ℕ) → q ≢ length slots → get_or (slots ++ o ∷ []) q None ≡ get_or slots q None
pushed_other [] o zero other = absurd (other refl)
pushed_other [] o (suc q) other = refl
pushed_other (x ∷ slots) o zero other = refl
pushed_other (x ∷ slots) o (suc q) other = pushed_other slots o q (λ same. other (ap suc same))

pub push_slot : (slots : List (Option Cell)) (c : Cell) → cells_of (slots ++ Some c ∷ []) ≡ finite_map.insert (cells_of slots) (length slots) (view_of c)
push_slot slots c = filled slots (slots ++ Some c ∷ []) (length slots) c (get_or_push slots (Some c) None (length slots) refl) (pushed_other slots (Some c))

pub keep_slots : (slots new : List (Option Cell)) (p : ℕ → Bool) → ((q : ℕ) → get_or new q None ≡ cond (p q) (get_or slots q None) None) → cells_of new ≡ finite_map.retain_keys (cells_of slots) p
keep_slots slots new p is = same_cells new (finite_map.retain_keys (cells_of slots) p) (λ q.
    ap (option_map view_of) (is q)
    ∙ elim (p q) as (λ b. option_map view_of (cond b (get_or slots q None) None) ≡ cond b (option_map view_of (get_or slots q None)) None) [ true ↦ refl | false ↦ refl ]
    ∙ ap (λ o. cond (p q) o None) (sym (get_slot slots q))
    ∙ sym (finite_map.get-retain_keys (cells_of slots) p q (λ x same. ap p (sym (finite_map.nat_cmp-IsAntisymmetric q x same)))))

-- ---- how many

abbrev pub count_of : List (Option Cell) → ℕ
count_of [] = 0
count_of (None ∷ slots) = count_of slots
count_of (Some c ∷ slots) = count_of slots + 1

len_from : (slots : List (Option Cell)) (n : ℕ) → finite_map.len (finite_map.from_entries {R = nat_cmp} (entries_from n slots)) ≡ count_of slots
len_from [] n = finite_map.len-empty nat_cmp View
len_from (None ∷ slots) n = len_from slots (suc n)
len_from (Some c ∷ slots) n =
    let rest = finite_map.from_entries {R = nat_cmp} (entries_from (suc n) slots) in
    let new : is_some (finite_map.get rest n) ≡ false = ap is_some (finite_map.get-from_entries nat_cmp_total (entries_from (suc n) slots) n ∙ before slots n (suc n) (omega arith)) in
    finite_map.len-insert nat_cmp_total rest n (view_of c) ∙ ap (λ b. cond b (finite_map.len rest) (finite_map.len rest + 1)) new ∙ ap (λ m. m + 1) (len_from slots (suc n))

pub len_slots : (slots : List (Option Cell)) → finite_map.len (cells_of slots) ≡ count_of slots
len_slots slots = len_from slots 0

-- ---- cells that are dropped

module _ (old : List (Option Cell)) (p : ℕ → Bool) where
  -- those before a place that do not pass were dropped
  abbrev pub Swept : ℕ → List (Option Cell) → Type 0
  Swept n mid = ((q : ℕ) → q < n → get_or mid q None ≡ cond (p q) (get_or old q None) None) × ((q : ℕ) → n ≤ q → get_or mid q None ≡ get_or old q None)

  module _ (n : ℕ) (mid : List (Option Cell)) (swept : Swept n mid) where
    none_kept : (b : Bool) → ◌≡◌ {A = Option Cell} None (cond b None None)
    none_kept true = refl
    none_kept false = refl

    pub swept_all : length old ≤ n → cells_of mid ≡ finite_map.retain_keys (cells_of old) p
    swept_all past = keep_slots old mid p (λ q. elim (cases_lt q n) [
      | inl lt ↦ swept.0 q lt
      | inr le ↦
          let none = get_or_past old q None (omega arith) in
          swept.1 q le ∙ none ∙ none_kept (p q) ∙ sym (ap (λ o. cond (p q) o None) none)
    ])

-- ---- the count at its end

rest_none : (slots : List (Option Cell)) (n : ℕ) → length slots ≤ n → count_of (drop n slots) ≡ 0
rest_none [] zero past = refl
rest_none [] (suc n) past = refl
rest_none (x ∷ slots) zero past = absurd (omega arith)
rest_none (x ∷ slots) (suc n) past = rest_none slots n (omega arith)

pub count_all : (slots : List (Option Cell)) (n count : ℕ) → length slots ≤ n → count + count_of (drop n slots) ≡ count_of slots → count ≡ finite_map.len (cells_of slots)
count_all slots n count past is =
    let none = rest_none slots n past in
    let all : count ≡ count_of slots = omega arith in
    all ∙ sym (len_slots slots)

-- ---- live cells

is_some-view : (o : Option Cell) → is_some (option_map view_of o) ≡ is_some o
is_some-view None = refl
is_some-view (Some cell) = refl

module _ (slots : List (Option Cell)) (q : ℕ) where
  pub is_live-slot : finite_map.contains_key (cells_of slots) q ≡ is_some (get_or slots q None)
  is_live-slot = ap is_some (get_slot slots q) ∙ is_some-view (get_or slots q None)

  pub live_slot : IsLive (cells_of slots) q → is_some (get_or slots q None) ≡ true
  live_slot live = sym is_live-slot ∙ live

  pub below_live : IsLive (cells_of slots) q → q < length slots
  below_live live = elim (cases_lt q (length slots)) [
    | inl lt ↦ lt
    | inr le ↦ absurd (true≢false (sym (live_slot live) ∙ ap is_some (get_or_past slots q None le)))
  ]

  pub not_live : get_or slots q None ≡ None → ¬ (IsLive (cells_of slots) q)
  not_live none live = true≢false (sym (live_slot live) ∙ ap is_some none)

  pub seen_slot : (c : Cell) → get_or slots q None ≡ Some c → view_of c ≡ view_at (cells_of slots) q
  seen_slot c is = sym (ap (λ o. unwrap_or o (Plain scalar.Unit)) (get_slot slots q ∙ ap (option_map view_of) is))

-- a cell with the same view in the place of another
pub put_same : (slots : List (Option Cell)) (handle : ℕ) (old c : Cell) → handle < length slots → get_or slots handle None ≡ Some old → view_of c ≡ view_of old → cells_of (slice_set slots handle (Some c)) ≡ cells_of slots
put_same slots handle old c lt is seen = same_cells (slice_set slots handle (Some c)) (cells_of slots) (λ q. elim (cases_eq q handle) [
  | inl same ↦
      ap (λ n. option_map view_of (get_or (slice_set slots handle (Some c)) n None)) same
      ∙ ap (option_map view_of) (get_or-set_same slots handle (Some c) None lt)
      ∙ ap Some seen ∙ sym (ap (option_map view_of) is) ∙ sym (get_slot slots handle) ∙ ap (finite_map.get (cells_of slots)) (sym same)
  | inr other ↦ ap (option_map view_of) (get_or-set_other slots handle q (Some c) None other) ∙ sym (get_slot slots q)
])

at_slot : (slots : List (Option Cell)) (handle : ℕ) (o : Option Cell) → handle < length slots → o ≡ get_or slots handle o → get_or slots handle None ≡ o
at_slot [] handle o lt is = absurd (omega arith)
at_slot (x ∷ slots) zero o lt is = sym is
at_slot (x ∷ slots) (suc handle) o lt is = at_slot slots handle o (omega arith) is

-- the slot of a live cell, in what contracts see of a store
module _ (slots : List (Option Cell)) (ledger : List ℕ) (s : Stored) (is : ◌≡◌ {A = Stored} (record { cells = cells_of slots; ledger = ledger }) s) (place handle : ℕ) (same : place ≡ handle) (live : IsLive s.cells handle) where
  here : IsLive (cells_of slots) place
  here = subst (λ (q : ℕ). IsLive (cells_of slots) q) (sym same) (subst (λ (t : Stored). IsLive t.cells handle) (sym is) live)

  pub within : place < length slots
  within = below_live slots place here

  module _ (o : Option Cell) (at : o ≡ get_or slots place o) where
    slot_is : get_or slots place None ≡ o
    slot_is = at_slot slots place o within at

    pub not_free : o ≡ None → ⊥
    not_free none = true≢false (sym (live_slot slots place here) ∙ ap is_some (slot_is ∙ none))

    pub seen : (c : Cell) → o ≡ Some c → view_of c ≡ view_at s.cells handle
    seen c some = seen_slot slots place c (slot_is ∙ some) ∙ (λ k. view_at ((is k).cells) (same k))

    pub unchanged : (old c : Cell) → o ≡ Some old → view_of c ≡ view_of old → ◌≡◌ {A = Stored} (record { cells = cells_of (slice_set slots place (Some c)); ledger = ledger }) s
    unchanged old c some view = (λ k. record { cells = put_same slots place old c within (slot_is ∙ some) view k; ledger = ledger }) ∙ is

  pub changed : (c : Cell) (v : View) → view_of c ≡ v → ◌≡◌ {A = Stored} (record { cells = cells_of (slice_set slots place (Some c)); ledger = ledger }) (record s { cells = finite_map.insert s.cells handle v })
  changed c v view =
      (λ k. record { cells = put_slot slots place c within k; ledger = ledger })
      ∙ (λ k. record { cells = finite_map.insert ((is k).cells) (same k) (view k); ledger = (is k).ledger })

-- a cell that was put into a free slot, in what contracts see of a store
pub placed : (slots new : List (Option Cell)) (ledger : List ℕ) (s : Stored) (place handle : ℕ) (cell : Cell) → ◌≡◌ {A = Stored} (record { cells = cells_of slots; ledger = ledger }) s → handle ≡ place → cells_of new ≡ finite_map.insert (cells_of slots) place (view_of cell)
    → ◌≡◌ {A = Stored} (record { cells = cells_of new; ledger = ledger }) (record s { cells = finite_map.insert s.cells handle (view_of cell) })
placed slots new ledger s place handle cell is same filled =
    (λ k. record { cells = filled k; ledger = ledger })
    ∙ (λ k. record { cells = finite_map.insert ((is k).cells) (sym same k) (view_of cell); ledger = (is k).ledger })

pub pushed : (slots new : List (Option Cell)) (place : ℕ) (cell : Cell) → new ≡ slots ++ Some cell ∷ [] → length slots ≡ place → cells_of new ≡ finite_map.insert (cells_of slots) place (view_of cell)
pushed slots new place cell is same = ap cells_of is ∙ push_slot slots cell ∙ ap (λ n. finite_map.insert (cells_of slots) n (view_of cell)) same
