-- Marking step by step.
use Rattle.std.proofs.Common.{◌≡◌, ◌==◌, ℕ, zero, suc, ◌+◌, ◌<◌, ◌||◌, ◌&&◌, not, Bool, true, false, List, [], ◌∷◌, ◌++◌, length, map, replicate, take, get_or, Some, refl, sym, ap, subst, ◌∙◌, add-one, inl, inr, arith}
use Rattle.std.specs.Prelude.{slice_get}
use Rattle.std.specs.List.{Contains}
use Rattle.std.proofs.lemmas.Bool.{cases_lt, or_left, or_right, false≢true, eq-eqb}
use Rattle.std.proofs.lemmas.Option.{same_Some}
use Rattle.std.proofs.Math.Bool.{or-false}
use Rattle.std.proofs.lemmas.List.{length-map, length-replicate, get_or-map, get_or-replicate, get_or_past}
use Rattle.std.proofs.lemmas.List.Folds.{list_any-append}
use Rattle.std.proofs.Math.Seq.{take-suc}
use Rattle.flat_core.specs.declared.equation.Equation.{Equation}
use Rattle.flat_core.specs.declared.equation.Output.{Output}
use Rattle.flat_core.specs.declared.reach.Marks.{Marks}
use Rattle.translation_order.specs.Graph.{Walk}
use Rattle.flat_core.specs.Members.{is_in}
use Rattle.flat_core.specs.Needed.{HasArgument, IsReached, IsReachedFrom}
use Rattle.flat_core.specs.inner.Marks.{has_mark, is_marked, is_waiting, AreBelow, ArgumentsThere, Marked, Spread}
use Rattle.tsl_value.proofs.Lists.{contains_map, map_contains}
use Rattle.flat_core.proofs.Members.{Contains-in, in-Contains}
use Rattle.translation_order.proofs.PathLemmas.{walk_keeps}

or_turn : (x y m : Bool) → (y || (x || m)) ≡ ((x || y) || m)
or_turn true true m = refl
or_turn true false m = refl
or_turn false true m = refl
or_turn false false m = refl

waits_turn : (w x y m : Bool) → ((w || (x && not m)) || (y && not (x || m))) ≡ (w || ((x || y) && not m))
waits_turn true x y m = refl
waits_turn false true true true = refl
waits_turn false true true false = refl
waits_turn false true false true = refl
waits_turn false true false false = refl
waits_turn false false y m = refl

pub marked_none : (m : Marks) → Marked [] m m
marked_none m = record { one_each = refl; marks = λ i. refl; waits = λ i. sym (or-false (is_waiting m i)); same_left = refl }

pub marked_then : (xs ys : List ℕ) (m n o : Marks) → Marked xs m n → Marked ys n o → Marked (xs ++ ys) m o
marked_then xs ys m n o first second =
    let both : (i : ℕ) → is_in (xs ++ ys) i ≡ (is_in xs i || is_in ys i) = λ i. list_any-append (λ j. j == i) xs ys in
    record {
      one_each = second.one_each ∙ first.one_each;
      marks = λ i. second.marks i ∙ ap (λ b. is_in ys i || b) (first.marks i) ∙ or_turn (is_in xs i) (is_in ys i) (is_marked m i)
          ∙ ap (λ b. b || is_marked m i) (sym (both i));
      waits = λ i.
          second.waits i ∙ (λ k. first.waits i k || (is_in ys i && not (first.marks i k))) ∙ waits_turn (is_waiting m i) (is_in xs i) (is_in ys i) (is_marked m i)
          ∙ ap (λ b. is_waiting m i || (b && not (is_marked m i))) (sym (both i));
      same_left = second.same_left ∙ first.same_left;
    }

-- one more of a list
pub marked_more : (xs : List ℕ) (k : ℕ) (m n o : Marks) (x : ℕ) → k < length xs → x ≡ get_or xs k x → Marked (take k xs) m n → Marked (x ∷ []) n o → Marked (take (k + 1) xs) m o
marked_more xs k m n o x lt is first second =
    let more : take (k + 1) xs ≡ take k xs ++ (x ∷ []) = ap (λ j. take j xs) (add-one k) ∙ take-suc xs k x lt ∙ ap (λ y. take k xs ++ (y ∷ [])) (sym is) in
    subst (λ ys. Marked ys m o) (sym more) (marked_then (take k xs) (x ∷ []) m n o first second)

pub mark_within : (marked : List Bool) (i : ℕ) → has_mark marked i ≡ true → i < length marked
mark_within [] i h = absurd (false≢true h)
mark_within (b ∷ bs) zero h = omega arith
mark_within (b ∷ bs) (suc i) h = let rest = mark_within bs i h in omega arith

pub last_in : (xs : List ℕ) (i : ℕ) → is_in (xs ++ i ∷ []) i ≡ true
last_in xs i = list_any-append (λ j. j == i) xs (i ∷ []) ∙ or_right (is_in xs i) ((i == i) || false) (or_left (i == i) false (eq-eqb i i refl))

-- the arguments of an equation that was read are below n
pub arguments_below : (equations : List Equation) (k : ℕ) (e : Equation) (ids : List ℕ) (n : ℕ) → ArgumentsThere equations → k < length equations → ids ≡ (get_or equations k e).args → n ≡ length equations → AreBelow n ids
arguments_below equations k e ids n there lt args len =
    let below : AreBelow n (get_or equations k e).args = subst (λ m. AreBelow m (get_or equations k e).args) (sym len) (there k e lt) in
    subst (AreBelow n) (sym args) below

-- the number of an item is one more of the items' numbers
pub numbers_more : {A : Type 0} (number : A → ℕ) (items : List A) (k : ℕ) (m n o : Marks) (x : A) → k < length items → x ≡ get_or items k x → Marked (take k (map number items)) m n → Marked (number x ∷ []) n o → Marked (take (k + 1) (map number items)) m o
numbers_more number items k m n o x lt is first second =
    let within : k < length (map number items) = subst (λ l. k < l) (sym (length-map items number)) lt in
    let read : number x ≡ get_or (map number items) k (number x) = ap number is ∙ sym (get_or-map number items k x (number x) lt) in
    marked_more (map number items) k m n o (number x) within read first second

module _ (equations : List Equation) where
  -- the arguments of an equation that is there
  pub argument_of : (i : ℕ) (e : Equation) → slice_get equations i ≡ Some e → (a : ℕ) → is_in e.args a ≡ true → HasArgument equations i a
  argument_of i e is a there = record { at = e; is = is; argument = Contains-in e.args a there }

  pub of_argument : (i : ℕ) (e : Equation) → slice_get equations i ≡ Some e → (a : ℕ) → HasArgument equations i a → is_in e.args a ≡ true
  of_argument i e is a h = in-Contains e.args a (subst (λ d. Contains d.args a) (same_Some h.at e (sym h.is ∙ is)) h.argument)

  -- what is marked in the end is what is reached from what was marked first
  module _ (starts : List ℕ) (m n o : Marks) (fresh : (i : ℕ) → is_marked m i ≡ false) (begun : Marked starts m n) (spread : Spread (HasArgument equations) n o) where
    first : (i : ℕ) → is_marked n i ≡ is_in starts i
    first i = begun.marks i ∙ ap (λ b. is_in starts i || b) (fresh i) ∙ or-false (is_in starts i)

    pub marked_reached : (i : ℕ) → is_marked o i ≡ true → IsReachedFrom equations starts i
    marked_reached i h =
        let found = spread.from i h in
        record { start = found.start; among = Contains-in starts found.start (sym (first found.start) ∙ found.is_start); walk = found.walk }

    pub reached_marked : (i : ℕ) → IsReachedFrom equations starts i → is_marked o i ≡ true
    reached_marked i r =
        let start = first r.start ∙ in-Contains starts r.start r.among in
        walk_keeps (λ j. is_marked o j ≡ true) (λ a b step h. spread.closed a h b step) r.walk (spread.kept r.start start)

  -- and the outputs need what is reached from their equations
  pub reached_needed : (outputs : List Output) (i : ℕ) → IsReachedFrom equations (map (λ y. y.equation) outputs) i → IsReached equations outputs i
  reached_needed outputs i r =
      let output = contains_map (λ y. y.equation) outputs r.start r.among in
      record { output = output.0; printed = output.1; walk = subst (λ j. Walk (HasArgument equations) j i) (sym output.2) r.walk }

  pub needed_reached : (outputs : List Output) (i : ℕ) → IsReached equations outputs i → IsReachedFrom equations (map (λ y. y.equation) outputs) i
  needed_reached outputs i r = record { start = r.output.equation; among = map_contains (λ y. y.equation) outputs r.output r.printed; walk = r.walk }

pub unmarked : (marked : List Bool) (count i : ℕ) → marked ≡ replicate count false → has_mark marked i ≡ false
unmarked marked count i is =
    ap (λ bs. has_mark bs i) is
    ∙ elim (cases_lt i count) [
      | inl within ↦ get_or-replicate count i false false within
      | inr past ↦ let size = length-replicate count false in get_or_past (replicate count false) i false (omega arith)
    ]
