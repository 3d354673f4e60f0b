-- States of the register machine that show the same differ in their handles alone, where they keep nothing else.
use Rattle.std.proofs.Common.{◌≡◌, ◌==◌, ◌⊎◌, ℕ, suc, ◌+◌, ◌<◌, Bool, true, false, not, List, [], ◌∷◌, length, map, Contains, Option, Some, None, refl, sym, ap, subst, ◌∙◌, cond, inl, inr, arith}
use Rattle.std.proofs.lemmas.Bool.{and_from, and_parts, cases_Bool, cases_eq, eq-eqb, lt-ltb, ne_eqb}
use Rattle.std.proofs.lemmas.List.Elements.{Contains-append_cases, Contains-append_left, Contains-append_right}
use Rattle.std.specs.Prelude.{if◌then◌else◌, nat_eq, position, unwrap_or}
use Rattle.std.specs.List.{flat_map, prefix_len}
use Rattle.std.specs.Option.{option_map}
use Rattle.std.specs.FinMap as finite_map
use Rattle.std.specs.Ordering.{nat_cmp}
use Rattle.tsl_value.specs.declared.scalar.Scalar.{Scalar}
use Rattle.tsl_value.specs.declared.scalar.Scalar.TheVariants as scalar
use Rattle.tsl_value.specs.View.{View, Plain}
use Rattle.tsl_value.proofs.Lists.{cons_cases, later, none_in_nil}
use Rattle.cell_reader.specs.inner.Cells.{view_at}
use Rattle.aggregate_store.specs.Content.{content_of, view_in}
use Rattle.aggregate_store.proofs.Contents.{contents}
use Rattle.flat_core.specs.Kept.{keeps_of, timers_of}
use Rattle.flat_core.specs.Members.{is_in}
use Rattle.flat_core.specs.System.{System, IsProper, equation, numbers, runs}
use Rattle.flat_core.specs.Updates.{is_running_update, is_update_at, running_updates}
use Rattle.flat_core.proofs.Depth.{runs_below}
use Rattle.flat_core.proofs.Members.{Contains-in, in_numbers}
use Rattle.flat_core.proofs.Rising.{in_filter}
use Rattle.register_machine.specs.Machine.{Held, Bare, Cell}
use Rattle.register_machine.specs.Renamed.{AreRenamed, Renaming, renamed}
use Rattle.register_machine.specs.Run as run
use Rattle.register_machine.specs.Tidy.{IsTidy}
use Rattle.register_machine.proofs.Cells.{without, without-other, without-there, without-keeps}
use Rattle.register_machine.proofs.OneRun.{naming, no_change, swap, swap_first, swap_other}
use Rattle.register_machine.proofs.Renamings.{one_to_one}
use Rattle.monitor_state.specs.declared.state.MonitorState.{MonitorState}
use Rattle.monitor_state.specs.declared.state.SavedRegister.TheVariants as saved
use Rattle.monitor_run.specs.inner.Resuming.{IsOnce}
use Rattle.monitor_run.specs.inner.Saved.{ShowsMachine, cell_held, held_cells, saved_of}
use Rattle.monitor_state.specs.Firsts.{firsts}
use Rattle.monitor_run.proofs.OneState.{place_renamed}

-- ---- members

pub in_map : {B : Type 0} (f : ℕ → B) (xs : List ℕ) (x : ℕ) → Contains xs x → Contains (map f xs) (f x)
in_map f [] x there = absurd (none_in_nil x there)
in_map f (y ∷ xs) x there = elim (cons_cases y x xs there) [
  | inl same ↦ (0, omega arith, ap f same)
  | inr after ↦ later (f y) (f x) (map f xs) (in_map f xs x after)
]

out_map : (f : ℕ → ℕ) (xs : List ℕ) (y : ℕ) → Contains (map f xs) y → (x : ℕ) × Contains xs x × (f x ≡ y)
out_map f [] y there = absurd (none_in_nil y there)
out_map f (x ∷ xs) y there = elim (cons_cases (f x) y (map f xs) there) [
  | inl same ↦ (x, (0, omega arith, refl), same)
  | inr after ↦ let rest = out_map f xs y after in (rest.0, later x rest.0 xs rest.1, rest.2)
]

pub map_agree : {B : Type 0} (f g : ℕ → B) (xs : List ℕ) → ((x : ℕ) → Contains xs x → f x ≡ g x) → map f xs ≡ map g xs
map_agree f g [] same = refl
map_agree f g (x ∷ xs) same =
    let first = same x (0, omega arith, refl) in
    let rest = map_agree f g xs (λ y there. same y (later x y xs there)) in
    λ k. first k ∷ rest k

head_same : {B : Type 0} {a b : B} {xs ys : List B} → a ∷ xs ≡ b ∷ ys → a ≡ b
head_same e = cc

tail_same : {B : Type 0} {a b : B} {xs ys : List B} → a ∷ xs ≡ b ∷ ys → xs ≡ ys
tail_same e = cc

-- what two lists of values have for a member
at_member : {B : Type 0} (f g : ℕ → B) (xs : List ℕ) → map f xs ≡ map g xs → (x : ℕ) → Contains xs x → f x ≡ g x
at_member f g [] same x there = absurd (none_in_nil x there)
at_member f g (y ∷ xs) same x there = elim (cons_cases y x xs there) [
  | inl is ↦ ap f (sym is) ∙ head_same same ∙ ap g is
  | inr after ↦ at_member f g xs (tail_same same) x after
]

-- ---- each number once

once_without : (x : ℕ) (xs : List ℕ) → IsOnce xs → IsOnce (without x xs)
once_without x [] once = tt
once_without x (y ∷ xs) once = from (not (y == x)) (once_without x xs once.1)
  where
    from : (b : Bool) → IsOnce (without x xs) → IsOnce (if b then y ∷ without x xs else without x xs)
    from true rest = ((λ there. once.0 (without-there x xs y there)), rest)
    from false rest = rest

pub firsts_once : (xs : List ℕ) → IsOnce (firsts xs)
firsts_once [] = tt
firsts_once (x ∷ xs) = ((λ there. without-other x (firsts xs) x there refl), once_without x (firsts xs) (firsts_once xs))

pub in_firsts : (xs : List ℕ) (x : ℕ) → Contains xs x → Contains (firsts xs) x
in_firsts [] x there = absurd (none_in_nil x there)
in_firsts (y ∷ xs) x there = elim (cases_eq x y) [
  | inl same ↦ (0, omega arith, sym same)
  | inr other ↦ elim (cons_cases y x xs there) [
    | inl is ↦ absurd (other (sym is))
    | inr after ↦ later y x (without y (firsts xs)) (without-keeps y (firsts xs) x (in_firsts xs x after) other)
  ]
]

pub of_firsts : (xs : List ℕ) (x : ℕ) → Contains (firsts xs) x → Contains xs x
of_firsts [] x there = absurd (none_in_nil x there)
of_firsts (y ∷ xs) x there = elim (cons_cases y x (without y (firsts xs)) there) [
  | inl same ↦ (0, omega arith, same)
  | inr after ↦ later y x xs (of_firsts xs x (without-there y (firsts xs) x after))
]

-- ---- a renaming from one list to another

pub renaming : (xs ys : List ℕ) → IsOnce xs → IsOnce ys → length xs ≡ length ys → (r : Renaming) × (map r.to xs ≡ ys)
renaming [] [] once_x once_y size = (no_change, refl)
renaming [] (y ∷ ys) once_x once_y size = absurd (omega arith)
renaming (x ∷ xs) [] once_x once_y size = absurd (omega arith)
renaming (x ∷ xs) (y ∷ ys) once_x once_y size =
    let rest = renaming xs ys once_x.1 once_y.1 (omega arith) in
    let r = rest.0 in
    let first : swap (r.to x) y (r.to x) ≡ y = swap_first (r.to x) y in
    let others : map (λ n. swap (r.to x) y (r.to n)) xs ≡ map r.to xs =
    map_agree (λ n. swap (r.to x) y (r.to n)) r.to xs (λ z there. swap_other (r.to x) y (r.to z)
    (λ is. once_x.0 (subst (Contains xs) (one_to_one r z x is) there))
    (λ is. once_y.0 (subst (Contains ys) is (subst (λ l. Contains l (r.to z)) rest.1 (in_map r.to xs z there))))) in
    (naming r x y, (λ k. first k ∷ (others ∙ rest.1) k))

-- ---- places

pub place : ℕ → List ℕ → ℕ
place h xs = prefix_len (λ k. not (nat_eq k h)) xs

place_low : (h : ℕ) (xs : List ℕ) → Contains xs h → place h xs < length xs
unfolding place
place_low h [] there = absurd (none_in_nil h there)
place_low h (x ∷ xs) there = elim (cases_eq x h) [
  | inl same ↦ subst (λ b. cond (not b) (1 + prefix_len (λ k. not (nat_eq k h)) xs) 0 < suc (length xs)) (sym (eq-eqb x h same)) (omega arith)
  | inr other ↦ elim (cons_cases x h xs there) [
    | inl is ↦ absurd (other is)
    | inr after ↦
        let low = place_low h xs after in
        subst (λ b. cond (not b) (1 + prefix_len (λ k. not (nat_eq k h)) xs) 0 < suc (length xs)) (sym (ne_eqb x h other)) (omega arith)
  ]
]

pub position_is : (h : ℕ) (xs : List ℕ) → Contains xs h → position (λ k. nat_eq k h) xs ≡ Some (place h xs)
unfolding place
position_is h xs there = λ k. cond (lt-ltb (prefix_len (λ n. not (nat_eq n h)) xs) (length xs) (place_low h xs there) k) (Some (prefix_len (λ n. not (nat_eq n h)) xs)) None

pub place_here : (x : ℕ) (xs : List ℕ) (h : ℕ) → x ≡ h → place h (x ∷ xs) ≡ 0
unfolding place
place_here x xs h same = λ k. cond (not (eq-eqb x h same k)) (1 + prefix_len (λ n. not (nat_eq n h)) xs) 0

pub place_on : (x : ℕ) (xs : List ℕ) (h : ℕ) → (x ≡ h → ⊥) → place h (x ∷ xs) ≡ suc (place h xs)
unfolding place
place_on x xs h other =
    let next : 1 + prefix_len (λ n. not (nat_eq n h)) xs ≡ suc (prefix_len (λ n. not (nat_eq n h)) xs) = omega arith in
    (λ k. cond (not (ne_eqb x h other k)) (1 + prefix_len (λ n. not (nat_eq n h)) xs) 0) ∙ next

pub one_place : (p q : ℕ) (xs : List ℕ) → Contains xs p → Contains xs q → place p xs ≡ place q xs → p ≡ q
one_place p q [] there_p there_q same = absurd (none_in_nil p there_p)
one_place p q (x ∷ xs) there_p there_q same = elim (cases_eq x p) [
  | inl is_p ↦ elim (cases_eq x q) [
    | inl is_q ↦ sym is_p ∙ is_q
    | inr not_q ↦ let first = place_here x xs p is_p in let next = place_on x xs q not_q in absurd (omega arith)
  ]
  | inr not_p ↦ elim (cases_eq x q) [
    | inl is_q ↦ let first = place_here x xs q is_q in let next = place_on x xs p not_p in absurd (omega arith)
    | inr not_q ↦ elim (cons_cases x p xs there_p) [
      | inl is ↦ absurd (not_p is)
      | inr after_p ↦ elim (cons_cases x q xs there_q) [
        | inl is ↦ absurd (not_q is)
        | inr after_q ↦ let next_p = place_on x xs p not_p in let next_q = place_on x xs q not_q in one_place p q xs after_p after_q (omega arith)
      ]
    ]
  ]
]

-- ---- two states that show the same

saved_cell : {i j : ℕ} → saved.Cell i ≡ saved.Cell j → i ≡ j
saved_cell e = cc

saved_scalar : {v w : Scalar} → saved.Scalar v ≡ saved.Scalar w → v ≡ w
saved_scalar e = cc

cell_some : {P : Type 0} (h : ℕ) → Some (Cell h) ≡ None → P
cell_some h e = absurd (cc)

length_map : {B : Type 0} (f : ℕ → B) (xs : List ℕ) → length (map f xs) ≡ length xs
length_map f [] = refl
length_map f (x ∷ xs) = ap suc (length_map f xs)

-- a cell that a kept register holds is listed, and each that is listed is held by one
pub held_in : (lasts : ℕ → Option Held) (vs : List ℕ) (v h : ℕ) → Contains vs v → lasts v ≡ Some (Cell h) → Contains (flat_map (λ u. cell_held (lasts u)) vs) h
held_in lasts [] v h there is = absurd (none_in_nil v there)
held_in lasts (u ∷ vs) v h there is = elim (cons_cases u v vs there) [
  | inl same ↦ Contains-append_left (cell_held (lasts u)) (flat_map (λ w. cell_held (lasts w)) vs) h (subst (λ o. Contains (cell_held o) h) (sym (ap lasts same ∙ is)) (0, omega arith, refl))
  | inr after ↦ Contains-append_right (cell_held (lasts u)) (flat_map (λ w. cell_held (lasts w)) vs) h (held_in lasts vs v h after is)
]

holds : (o : Option Held) (h : ℕ) → Contains (cell_held o) h → o ≡ Some (Cell h)
holds None h there = absurd (none_in_nil h there)
holds (Some (Bare s)) h there = absurd (none_in_nil h there)
holds (Some (Cell k)) h there = elim (cons_cases k h [] there) [
  | inl same ↦ ap (λ n. Some (Cell n)) same
  | inr after ↦ absurd (none_in_nil h after)
]

pub held_by_one : (lasts : ℕ → Option Held) (vs : List ℕ) (h : ℕ) → Contains (flat_map (λ u. cell_held (lasts u)) vs) h → (v : ℕ) × Contains vs v × (lasts v ≡ Some (Cell h))
held_by_one lasts [] h there = absurd (none_in_nil h there)
held_by_one lasts (u ∷ vs) h there = elim (Contains-append_cases (cell_held (lasts u)) (flat_map (λ w. cell_held (lasts w)) vs) h there) [
  | inl here ↦ (u, (0, omega arith, refl), holds (lasts u) h here)
  | inr after ↦ let rest = held_by_one lasts vs h after in (rest.0, later u rest.0 vs rest.1, rest.2)
]

view_there : (cells : finite_map.FinMap nat_cmp View) (h : ℕ) → (finite_map.get cells h ≡ None → ⊥) → finite_map.get cells h ≡ Some (view_at cells h)
view_there cells h there = from (finite_map.get cells h) there
  where
    from : (o : Option View) → (o ≡ None → ⊥) → o ≡ Some (unwrap_or o (Plain scalar.Unit))
    from None some = absurd (some refl)
    from (Some v) some = refl

module _ (s : System) (a : run.State) (tidy : IsTidy s a) where
  listed : (v h : ℕ) → a.lasts v ≡ Some (Cell h) → Contains (held_cells s a) h
  listed v h is = elim (tidy.lasts v) [
    | inl none ↦ cell_some h (sym is ∙ none)
    | inr kept ↦ in_firsts (flat_map (λ u. cell_held (a.lasts u)) (keeps_of s)) h (held_in a.lasts (keeps_of s) v h kept is)
  ]

  held_listed : (h : ℕ) → Contains (held_cells s a) h → (v : ℕ) × Contains (keeps_of s) v × (a.lasts v ≡ Some (Cell h))
  held_listed h there = held_by_one a.lasts (keeps_of s) h (of_firsts (flat_map (λ u. cell_held (a.lasts u)) (keeps_of s)) h there)

  pub cell_listed : (h : ℕ) → Contains (held_cells s a) h → finite_map.get a.cells h ≡ Some (view_at a.cells h)
  cell_listed h there = let by = held_listed h there in view_there a.cells h (tidy.there by.0 h by.2)

  cell_unlisted : (h : ℕ) → (Contains (held_cells s a) h → ⊥) → finite_map.get a.cells h ≡ None
  cell_unlisted h none = from (finite_map.get a.cells h) refl
    where
      from : (o : Option View) → finite_map.get a.cells h ≡ o → finite_map.get a.cells h ≡ None
      from None is = is
      from (Some v) is = let by = tidy.named h v is in absurd (none (listed by.0 h by.2))

contains_or_not : (xs : List ℕ) (x : ℕ) → Contains xs x ⊎ (Contains xs x → ⊥)
contains_or_not [] x = inr (none_in_nil x)
contains_or_not (y ∷ xs) x = elim (cases_eq y x) [
  | inl same ↦ inl (0, omega arith, same)
  | inr other ↦ elim (contains_or_not xs x) [
    | inl there ↦ inl (later y x xs there)
    | inr none ↦ inr (λ there. elim (cons_cases y x xs there) [ inl same ↦ other same | inr after ↦ none after ])
  ]
]

module _ (s : System) (a b : run.State) (x : MonitorState) (tidy_a : IsTidy s a) (tidy_b : IsTidy s b) (shows_a : ShowsMachine s a x) (shows_b : ShowsMachine s b x) (proper : IsProper s) where
  same_length : length (held_cells s a) ≡ length (held_cells s b)
  same_length =
      sym (length_map (λ h. content_of (view_at a.cells h)) (held_cells s a))
      ∙ ap length (sym shows_a.cells ∙ shows_b.cells)
      ∙ length_map (λ h. content_of (view_at b.cells h)) (held_cells s b)

  found : (r : Renaming) × (map r.to (held_cells s a) ≡ held_cells s b)
  found =
      renaming (held_cells s a) (held_cells s b) (firsts_once (flat_map (λ v. cell_held (a.lasts v)) (keeps_of s)))
      (firsts_once (flat_map (λ v. cell_held (b.lasts v)) (keeps_of s))) same_length

  abbrev r : Renaming
  r = found.0

  -- ---- last registers

  saved_same : (v : ℕ) → Contains (keeps_of s) v → saved_of (held_cells s a) (a.lasts v) ≡ saved_of (held_cells s b) (b.lasts v)
  saved_same v kept = at_member (λ u. saved_of (held_cells s a) (a.lasts u)) (λ u. saved_of (held_cells s b) (b.lasts u)) (keeps_of s) (sym shows_a.registers ∙ shows_b.registers) v kept

  cell_same : (h k : ℕ) → Contains (held_cells s a) h → Contains (held_cells s b) k
      → unwrap_or (position (λ n. nat_eq n h) (held_cells s a)) 0 ≡ unwrap_or (position (λ n. nat_eq n k) (held_cells s b)) 0 → k ≡ r.to h
  cell_same h k there_h there_k same =
      let moved : Contains (held_cells s b) (r.to h) = subst (λ l. Contains l (r.to h)) found.1 (in_map r.to (held_cells s a) h there_h) in
      let place_h : position (λ n. nat_eq n (r.to h)) (held_cells s b) ≡ position (λ n. nat_eq n h) (held_cells s a) =
      ap (position (λ n. nat_eq n (r.to h))) (sym found.1) ∙ place_renamed r h (held_cells s a) in
      one_place k (r.to h) (held_cells s b) there_k moved
      (ap (λ p. unwrap_or p 0) (sym (position_is k (held_cells s b) there_k)) ∙ sym same ∙ ap (λ p. unwrap_or p 0) (sym place_h ∙ position_is (r.to h) (held_cells s b) moved))

  last_same : (v : ℕ) (o p : Option Held) → a.lasts v ≡ o → b.lasts v ≡ p → saved_of (held_cells s a) o ≡ saved_of (held_cells s b) p → p ≡ option_map (renamed r.to) o
  last_same v None None is_o is_p same = refl
  last_same v None (Some (Bare w)) is_o is_p same = absurd (cc)
  last_same v None (Some (Cell k)) is_o is_p same = absurd (cc)
  last_same v (Some (Bare w)) None is_o is_p same = absurd (cc)
  last_same v (Some (Bare w)) (Some (Bare z)) is_o is_p same = ap (λ y. Some (Bare y)) (sym (saved_scalar same))
  last_same v (Some (Bare w)) (Some (Cell k)) is_o is_p same = absurd (cc)
  last_same v (Some (Cell h)) None is_o is_p same = absurd (cc)
  last_same v (Some (Cell h)) (Some (Bare z)) is_o is_p same = absurd (cc)
  last_same v (Some (Cell h)) (Some (Cell k)) is_o is_p same =
      ap (λ n. Some (Cell n)) (cell_same h k (listed s a tidy_a v h is_o) (listed s b tidy_b v k is_p) (saved_cell same))

  lasts_same : (v : ℕ) → b.lasts v ≡ option_map (renamed r.to) (a.lasts v)
  lasts_same v = elim (contains_or_not (keeps_of s) v) [
    | inl kept ↦ last_same v (a.lasts v) (b.lasts v) refl refl (saved_same v kept)
    | inr other ↦ none_of b tidy_b other ∙ sym (ap (option_map (renamed r.to)) (none_of a tidy_a other))
  ]
    where
      none_of : (c : run.State) → IsTidy s c → (Contains (keeps_of s) v → ⊥) → c.lasts v ≡ None
      none_of c tidy other = elim (tidy.lasts v) [
        | inl none ↦ none
        | inr kept ↦ absurd (other kept)
      ]

  -- ---- cells

  views_same : (h : ℕ) → Contains (held_cells s a) h → view_at b.cells (r.to h) ≡ view_at a.cells h
  views_same h there =
      let same = at_member (λ n. content_of (view_at a.cells n)) (λ n. content_of (view_at b.cells (r.to n))) (held_cells s a)
      (sym shows_a.cells ∙ shows_b.cells ∙ ap (map (λ n. content_of (view_at b.cells n))) (sym found.1) ∙ map_map (held_cells s a)) h there in
      sym (contents.back (view_at b.cells (r.to h))) ∙ ap view_in (sym same) ∙ contents.back (view_at a.cells h)
    where
      map_map : (hs : List ℕ) → map (λ n. content_of (view_at b.cells n)) (map r.to hs) ≡ map (λ n. content_of (view_at b.cells (r.to n))) hs
      map_map [] = refl
      map_map (k ∷ hs) = ap (λ l. content_of (view_at b.cells (r.to k)) ∷ l) (map_map hs)

  cells_same : (h : ℕ) → finite_map.get b.cells (r.to h) ≡ finite_map.get a.cells h
  cells_same h = elim (contains_or_not (held_cells s a) h) [
    | inl there ↦
        cell_listed s b tidy_b (r.to h) (subst (λ l. Contains l (r.to h)) found.1 (in_map r.to (held_cells s a) h there))
        ∙ ap Some (views_same h there) ∙ sym (cell_listed s a tidy_a h there)
    | inr none ↦
        cell_unlisted s b tidy_b (r.to h) (λ there.
        let from = out_map r.to (held_cells s a) (r.to h) (subst (λ l. Contains l (r.to h)) (sym found.1) there) in
        none (subst (Contains (held_cells s a)) (one_to_one r from.0 h from.2) from.1))
        ∙ sym (cell_unlisted s a tidy_a h none)
  ]

  -- ---- the ledger, and what is pending

  ledger_same : (u : ℕ) → b.ledger u ≡ a.ledger u
  ledger_same u = elim (contains_or_not (running_updates s) u) [
    | inl there ↦ at_member b.ledger a.ledger (running_updates s) (sym shows_b.ledger ∙ shows_a.ledger) u there
    | inr none ↦ tidy_b.ledger u (no_update none) ∙ sym (tidy_a.ledger u (no_update none))
  ]
    where
      no_update : (Contains (running_updates s) u → ⊥) → is_running_update s u ≡ false
      no_update none = elim (cases_Bool (is_running_update s u)) [
        | inr fails ↦ fails
        | inl update ↦
            let run = (and_parts (runs s u) (is_update_at (equation s u)) update).0 in
            let low = runs_below s proper u run in
            absurd (none (Contains-in (running_updates s) u (in_filter (is_running_update s) (numbers s) u ∙ and_from (is_running_update s u) (is_in (numbers s) u) update (in_numbers s u low))))
      ]

  pending_same : (i : ℕ) → b.pending i ≡ a.pending i
  pending_same i = elim (contains_or_not (timers_of s) i) [
    | inl there ↦ at_member b.pending a.pending (timers_of s) (sym shows_b.pending ∙ shows_a.pending) i there
    | inr other ↦ none_of b tidy_b other ∙ sym (none_of a tidy_a other)
  ]
    where
      none_of : (c : run.State) → IsTidy s c → (Contains (timers_of s) i → ⊥) → c.pending i ≡ None
      none_of c tidy other = elim (tidy.pending i) [
        | inl none ↦ none
        | inr timer ↦ absurd (other timer)
      ]

  pub alike_shown : (q : Renaming) × AreRenamed q a b
  alike_shown = (r, record { lasts = lasts_same; cells = cells_same; ledger = ledger_same; pending = pending_same })
