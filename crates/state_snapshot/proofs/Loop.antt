-- Items that are read one after the other, as a loop reads them.
use Rattle.std.proofs.Common.{◌≡◌, ℕ, zero, suc, ◌+◌, ◌-◌, ◌<◌, ◌≤◌, Bool, true, false, ◌&&◌, List, [], ◌∷◌, ◌++◌, length, drop, get_or, Option, Some, None, refl, sym, ap, ◌∙◌, append_assoc, append-nil, drop-cons, arith}
use Rattle.std.proofs.lemmas.List.{length-drop, nil_from_length}
use Rattle.tsl_value.specs.declared.scalar.ValueType.{ValueType}
use Rattle.aggregate_store.specs.declared.content.Content.{Content}
use Rattle.flat_core.specs.declared.equation.Equation.{Equation}
use Rattle.flat_core.specs.System.{System, equation}
use Rattle.monitor_state.specs.declared.state.SavedRegister.{SavedRegister}
use Rattle.state_snapshot.specs.declared.fault.StateFault.{StateFault}
use Rattle.state_snapshot.specs.declared.fault.StateFault.TheVariants as fault
use Rattle.state_snapshot.specs.inner.Reading.{◌>>=◌, Fails, Read, cells_at, content_at, items_at, kept_types, register_at, registers_at, rise_by, type_of_kept}

-- a fault of a part is one of the whole, where the whole gives nothing without the part
pub fails_on : {A B : Type 0} (e : StateFault) (part : Option A) (whole : Option B) → Fails e part → (part ≡ None → whole ≡ None) → Fails e whole
fails_on fault.WrongForm part whole fails none = none fails
fails_on fault.OtherProgram part whole fails none = absurd fails
fails_on fault.Memory part whole fails none = tt

-- what was read before, and what is still read
abbrev pub with_front : {A : Type 0} → List A → Read (List A) → Read (List A)
with_front front read = read >>= λ x. Some (front ++ x.0, x.1)

regroup : {A : Type 0} (front : List A) (x : A) (read : Read (List A)) → with_front front (read >>= λ others. Some (x ∷ others.0, others.1)) ≡ with_front (front ++ x ∷ []) read
regroup front x (Some others) = ap (λ xs. Some (xs, others.1)) (sym (append_assoc front (x ∷ []) others.0))
regroup front x None = refl

module _ {A : Type 0} (item_at : List ℕ → Read A) (front : List A) (count i : ℕ) (bytes : List ℕ) (total : Read (List A)) (so_far : with_front front (items_at item_at (count - i) bytes) ≡ total) where
  pub goes_on : (x : A) (after : List ℕ) → i < count → item_at bytes ≡ Some (x, after) → with_front (front ++ x ∷ []) (items_at item_at (count - (i + 1)) after) ≡ total
  goes_on x after lt is =
      let k : count - i ≡ suc (count - (i + 1)) = omega arith in
      let one : with_front front (items_at item_at (count - i) bytes) ≡ with_front (front ++ x ∷ []) (items_at item_at (count - (i + 1)) after) = rw (k, is) (regroup front x (items_at item_at (count - (i + 1)) after)) in
      sym one ∙ so_far

  pub ends : (e : StateFault) → i < count → Fails e (item_at bytes) → Fails e total
  ends e lt fails = fails_on e (item_at bytes) total fails (λ none.
      let k : count - i ≡ suc (count - (i + 1)) = omega arith in
      let one : with_front front (items_at item_at (count - i) bytes) ≡ None = rw (k, none) refl in
      sym so_far ∙ one)

  pub is_done : count ≤ i → total ≡ Some (front, bytes)
  is_done le =
      let k : count - i ≡ 0 = omega arith in
      let one : with_front front (items_at item_at (count - i) bytes) ≡ Some (front, bytes) = rw k (ap (λ xs. Some (xs, bytes)) (append-nil front)) in
      sym so_far ∙ one

-- ---- items that rise

module _ {A : Type 0} (less : A → A → Bool) (last : A) (others : List A) (i : ℕ) (whole : Bool) (so_far : rise_by less (last ∷ drop i others) ≡ whole) where
  rise_split : (x : A) → i < length others → x ≡ get_or others i x → (less last x && rise_by less (x ∷ drop (i + 1) others)) ≡ whole
  rise_split x lt item =
      let next : suc i ≡ i + 1 = omega arith in
      sym (ap (λ xs. rise_by less (last ∷ xs)) (drop-cons others i x lt ∙ (λ k. sym item k ∷ drop (next k) others))) ∙ so_far

  pub rise_on : (x : A) → i < length others → x ≡ get_or others i x → less last x ≡ true → rise_by less (x ∷ drop (i + 1) others) ≡ whole
  rise_on x lt item below = sym (ap (λ b. b && rise_by less (x ∷ drop (i + 1) others)) below) ∙ rise_split x lt item

  pub rise_stops : (x : A) → i < length others → x ≡ get_or others i x → less last x ≡ false → false ≡ whole
  rise_stops x lt item above = sym (ap (λ b. b && rise_by less (x ∷ drop (i + 1) others)) above) ∙ rise_split x lt item

  pub rise_done : length others ≤ i → true ≡ whole
  rise_done le = sym (ap (λ xs. rise_by less (last ∷ xs)) (nil_from_length (drop i others) (omega (arith, length-drop i others, le)))) ∙ so_far

-- ---- registers, with the types of the cells that they name

abbrev pub with_registers : List SavedRegister → Read (List SavedRegister × List ValueType) → Read (List SavedRegister × List ValueType)
with_registers front read = read >>= λ x. Some ((front ++ x.0.0, x.0.1), x.1)

regroup_registers : (front : List SavedRegister) (r : SavedRegister) (read : Read (List SavedRegister × List ValueType)) → with_registers front (read >>= λ others. Some ((r ∷ others.0.0, others.0.1), others.1)) ≡ with_registers (front ++ r ∷ []) read
regroup_registers front r (Some others) = ap (λ rs. Some ((rs, others.0.1), others.1)) (sym (append_assoc front (r ∷ []) others.0.0))
regroup_registers front r None = refl

kept_split : (s : System) (keeps : List ℕ) (i v : ℕ) (e : Equation) → i < length keeps → v ≡ get_or keeps i v → equation s v ≡ Some e → kept_types s (drop i keeps) ≡ e.of ∷ kept_types s (drop (i + 1) keeps)
kept_split s keeps i v e lt item is =
    let next : suc i ≡ i + 1 = omega arith in
    ap (kept_types s) (drop-cons keeps i v lt) ∙ (λ k. type_of_kept (equation s (sym item k)) ∷ kept_types s (drop (next k) keeps)) ∙ ap (λ o. type_of_kept o ∷ kept_types s (drop (i + 1) keeps)) is

kept_over : (s : System) (keeps : List ℕ) (i : ℕ) → length keeps ≤ i → kept_types s (drop i keeps) ≡ []
kept_over s keeps i le = ap (kept_types s) (nil_from_length (drop i keeps) (omega (arith, length-drop i keeps, le)))

module _ (s : System) (keeps : List ℕ) (front : List SavedRegister) (types : List ValueType) (i : ℕ) (bytes : List ℕ) (total : Read (List SavedRegister × List ValueType)) (so_far : with_registers front (registers_at types (kept_types s (drop i keeps)) bytes) ≡ total) where
  pub registers_go_on : (v : ℕ) (e : Equation) (r : SavedRegister) (next : List ValueType) (after : List ℕ) → i < length keeps → v ≡ get_or keeps i v → equation s v ≡ Some e → register_at types e.of bytes ≡ Some ((r, next), after)
      → with_registers (front ++ r ∷ []) (registers_at next (kept_types s (drop (i + 1) keeps)) after) ≡ total
  registers_go_on v e r next after lt item is read =
      let more = kept_types s (drop (i + 1) keeps) in
      let one : with_registers front (registers_at types (kept_types s (drop i keeps)) bytes) ≡ with_registers (front ++ r ∷ []) (registers_at next more after) = rw (kept_split s keeps i v e lt item is, read) (regroup_registers front r (registers_at next more after)) in
      sym one ∙ so_far

  pub registers_end : (v : ℕ) (e : Equation) (f : StateFault) → i < length keeps → v ≡ get_or keeps i v → equation s v ≡ Some e → Fails f (register_at types e.of bytes) → Fails f total
  registers_end v e f lt item is fails = fails_on f (register_at types e.of bytes) total fails (λ none.
      let one : with_registers front (registers_at types (kept_types s (drop i keeps)) bytes) ≡ None = rw (kept_split s keeps i v e lt item is, none) refl in
      sym so_far ∙ one)

  pub registers_done : length keeps ≤ i → total ≡ Some ((front, types), bytes)
  registers_done le =
      let one : with_registers front (registers_at types (kept_types s (drop i keeps)) bytes) ≡ Some ((front, types), bytes) = rw (kept_over s keeps i le) (ap (λ rs. Some ((rs, types), bytes)) (append-nil front)) in
      sym so_far ∙ one

-- ---- cells of types

-- an item is the same whatever is taken past the end
pub item_any : {A : Type 0} (xs : List A) (i : ℕ) (d e : A) → i < length xs → get_or xs i d ≡ get_or xs i e
item_any [] i d e lt = absurd (omega (arith, lt))
item_any (x ∷ xs) zero d e lt = refl
item_any (x ∷ xs) (suc i) d e lt = item_any xs i d e (omega (arith, lt))

module _ (types : List ValueType) (front : List Content) (i : ℕ) (bytes : List ℕ) (total : Read (List Content)) (so_far : with_front front (cells_at (drop i types) bytes) ≡ total) where
  types_split : (of : ValueType) → i < length types → of ≡ get_or types i of → drop i types ≡ of ∷ drop (i + 1) types
  types_split of lt item = let next : suc i ≡ i + 1 = omega arith in drop-cons types i of lt ∙ (λ k. sym item k ∷ drop (next k) types)

  pub cells_go_on : (of : ValueType) (x : Content) (after : List ℕ) → i < length types → of ≡ get_or types i of → content_at of bytes ≡ Some (x, after) → with_front (front ++ x ∷ []) (cells_at (drop (i + 1) types) after) ≡ total
  cells_go_on of x after lt item read =
      let one : with_front front (cells_at (drop i types) bytes) ≡ with_front (front ++ x ∷ []) (cells_at (drop (i + 1) types) after) = rw (types_split of lt item, read) (regroup front x (cells_at (drop (i + 1) types) after)) in
      sym one ∙ so_far

  pub cells_end : (of : ValueType) (f : StateFault) → i < length types → of ≡ get_or types i of → Fails f (content_at of bytes) → Fails f total
  cells_end of f lt item fails = fails_on f (content_at of bytes) total fails (λ none.
      let one : with_front front (cells_at (drop i types) bytes) ≡ None = rw (types_split of lt item, none) refl in
      sym so_far ∙ one)

  pub cells_done : length types ≤ i → total ≡ Some (front, bytes)
  cells_done le =
      let none_left = nil_from_length (drop i types) (omega (arith, length-drop i types, le)) in
      let one : with_front front (cells_at (drop i types) bytes) ≡ Some (front, bytes) = rw none_left (ap (λ xs. Some (xs, bytes)) (append-nil front)) in
      sym so_far ∙ one
