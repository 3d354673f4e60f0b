-- The first line that is heard, and the least time at which a delay is due.
use Rattle.std.proofs.Common.{◌≡◌, ◌==◌, ℕ, zero, suc, ◌+◌, ◌<◌, ◌≤◌, ◌^◌, Bool, true, false, ◌&&◌, ◌||◌, List, [], ◌∷◌, length, Option, Some, None, refl, sym, ap, subst, ◌∙◌, inl, inr, arith}
use Rattle.std.proofs.lemmas.Bool.{and_parts, cases_Bool, cases_lt, eq-eqb, eqb-true, false≢true, ne_eqb, or_cases}
use Rattle.std.proofs.lemmas.Option.{none-some, same_Some, slice_get_within}
use Rattle.std.specs.Prelude.{◌⊎◌, IsTrue, SomeIff, is_some, slice_get}
use Rattle.std.specs.List.{list_any}
use Rattle.tsl_value.specs.declared.scalar.Scalar.{Scalar}
use Rattle.tsl_value.proofs.Lists.{with_first, without_first}
use Rattle.flat_core.specs.Line.{IsSorted, Line, is_line_at, is_line_on}
use Rattle.flat_core.specs.System.{System, runs}
use Rattle.flat_core.proofs.Members.{none_from, some_from}
use Rattle.plain_solver.specs.inner.Lines.{IsLeast}
use Rattle.plain_solver.specs.inner.Next.{IsFirst}
use Rattle.plain_solver.proofs.NextLemmas.{IsLeastOf}
use Rattle.event_why.specs.declared.draft.Draft.{Draft}
use Rattle.event_why.specs.inner.Coming.{IsHeardFrom, IsPassed, IsPlaceFrom, is_due_on, is_next_by}
use Rattle.event_why.specs.inner.Sliced.{heard, is_heard, is_of_running}

-- ---- places
module _ (s : System) (n : ℕ) (lines : List Line) where
  pub passed_more : (k : ℕ) (l : Line) → slice_get lines k ≡ Some l → ¬ IsHeardFrom s n l → IsPassed s n lines k → IsPassed s n lines (k + 1)
  passed_more k l is unheard passed j m lt at = elim (cases_lt j k) [
    | inl before ↦ passed j m before at
    | inr here ↦
        let same : j ≡ k = omega (arith, lt, here) in
        subst (λ (x : Line). ¬ IsHeardFrom s n x) (same_Some l m (sym is ∙ ap (slice_get lines) (sym same) ∙ at)) unheard
  ]

  pub placed : (k : ℕ) (l : Line) → slice_get lines k ≡ Some l → IsHeardFrom s n l → IsPassed s n lines k → IsPlaceFrom s n lines k
  placed k l is heard_here passed = record { passed = passed; here = λ m at. subst (IsHeardFrom s n) (same_Some l m (sym is ∙ at)) heard_here }

  pub placed_end : (k : ℕ) → length lines ≤ k → IsPassed s n lines k → IsPlaceFrom s n lines (length lines)
  placed_end k past passed = record {
    passed = λ j m lt at. passed j m (omega (arith, lt, past)) at;
    here = λ l at. let there = slice_get_within lines (length lines) l at in absurd (omega (arith, there));
  }

  pub passed_later : (m k : ℕ) → n ≤ m → IsPassed s n lines k → IsPassed s m lines k
  passed_later m k le passed j l lt at heard_there = let late = heard_there.0 in passed j l lt at (omega (arith, late, le), heard_there.1)

-- ---- lines in order of time
first_of : (l : Line) (ls : List Line) → IsSorted (l ∷ ls) → (k : ℕ) (m : Line) → slice_get (l ∷ ls) k ≡ Some m → l.time ≤ m.time
first_of l ls sorted zero m at = let same = ap (λ (x : Line). x.time) (same_Some l m at) in omega (arith, same)
first_of l [] sorted (suc k) m at = absurd (none-some m at)
first_of l (x ∷ ls) sorted (suc k) m at = let first = sorted.0 in let later = first_of x ls sorted.1 k m at in omega (arith, first, later)

in_order : (ls : List Line) → IsSorted ls → (j k : ℕ) (l m : Line) → j ≤ k → slice_get ls j ≡ Some l → slice_get ls k ≡ Some m → l.time ≤ m.time
in_order [] sorted j k l m le at_j at_k = absurd (none-some l at_j)
in_order (x ∷ ls) sorted zero k l m le at_j at_k = subst (λ (y : Line). y.time ≤ m.time) (same_Some x l at_j) (first_of x ls sorted k m at_k)
in_order (x ∷ ls) sorted (suc j) zero l m le at_j at_k = absurd (omega (arith, le))
in_order (x ∷ []) sorted (suc j) (suc k) l m le at_j at_k = absurd (none-some l at_j)
in_order (x ∷ y ∷ ls) sorted (suc j) (suc k) l m le at_j at_k = in_order (y ∷ ls) sorted.1 j k l m (omega (arith, le)) at_j at_k

-- ---- one of two
or_first : (a b : Bool) → a ≡ true → (a || b) ≡ true
or_first a b is = λ k. is k || b

or_second : (a b : Bool) → b ≡ true → (a || b) ≡ true
or_second true b is = refl
or_second false b is = is

-- ---- lines that are heard
module _ (s : System) (u : ℕ) where
  -- one of them has a time
  record IsHeardAt (lines : List Line) : Type 0 where
    pub place : ℕ
    pub line : Line
    pub is : slice_get lines place ≡ Some line
    pub heard_is : IsTrue (is_heard s line)
    pub time : line.time ≡ u

  some_event : (e : Option (ℕ × Scalar)) → is_of_running s e ≡ true → is_some e ≡ true
  some_event None is = absurd (false≢true is)
  some_event (Some e) is = refl

  on_heard : (l : Line) → is_line_at u l ≡ true → l.time ≡ u
  on_heard l at = eqb-true l.time u (and_parts (l.time == u) (is_some l.event) at).0

  heard_on : (lines : List Line) → is_line_on u (heard s lines) ≡ true → IsHeardAt lines
  heard_on [] is = absurd (false≢true is)
  heard_on (l ∷ ls) is = elim (cases_Bool (is_heard s l)) [
    | inl passes ↦ elim (or_cases (is_line_at u l) (is_line_on u (heard s ls)) (sym (ap (is_line_on u) (with_first (is_heard s) l ls passes)) ∙ is)) [
      | inl here ↦ record { place = 0; line = l; is = refl; heard_is = passes; time = on_heard l here }
      | inr later ↦ let found = heard_on ls later in record { place = suc found.place; line = found.line; is = found.is; heard_is = found.heard_is; time = found.time }
    ]
    | inr fails ↦
        let found = heard_on ls (sym (ap (is_line_on u) (without_first (is_heard s) l ls fails)) ∙ is) in
        record { place = suc found.place; line = found.line; is = found.is; heard_is = found.heard_is; time = found.time }
  ]

  here_on : (l : Line) → IsTrue (is_heard s l) → l.time ≡ u → is_line_at u l ≡ true
  here_on l is time = λ k. eq-eqb l.time u time k && some_event l.event is k

  on_from : (lines : List Line) (place : ℕ) (line : Line) → slice_get lines place ≡ Some line → IsTrue (is_heard s line) → line.time ≡ u → is_line_on u (heard s lines) ≡ true
  on_from [] place line at is time = absurd (none-some line at)
  on_from (l ∷ ls) zero line at is time =
      let same = same_Some l line at in
      let passes : is_heard s l ≡ true = ap (is_heard s) same ∙ is in
      ap (is_line_on u) (with_first (is_heard s) l ls passes)
      ∙ or_first (is_line_at u l) (is_line_on u (heard s ls)) (ap (is_line_at u) same ∙ here_on line is time)
  on_from (l ∷ ls) (suc k) line at is time =
      let rest = on_from ls k line at is time in
      elim (cases_Bool (is_heard s l)) [
        | inl passes ↦ ap (is_line_on u) (with_first (is_heard s) l ls passes) ∙ or_second (is_line_at u l) (is_line_on u (heard s ls)) rest
        | inr fails ↦ ap (is_line_on u) (without_first (is_heard s) l ls fails) ∙ rest
      ]

-- the first line that is heard from a time on has the least time
module _ (lines : List Line) (sorted : IsSorted lines) (place high : ℕ) (s : System) (n : ℕ) (at : IsPlaceFrom s n lines place) where
  module _ (line : Line) (is : slice_get lines place ≡ Some line) where
    none_below : (u : ℕ) → n ≤ u → u < line.time → is_line_on u (heard s lines) ≡ false
    none_below u from below = elim (cases_Bool (is_line_on u (heard s lines))) [
      | inr none ↦ none
      | inl there ↦
          let found = heard_on s u lines there in
          let time = found.time in
          elim (cases_lt found.place place) [
            | inl before ↦ absurd (at.passed found.place found.line before found.is (omega (arith, time, from), found.heard_is))
            | inr from_place ↦ let later = in_order lines sorted place found.place line found.line from_place is found.is in absurd (omega (arith, later, time, below))
          ]
    ]

    pub line_first : line.time < high → IsLeast (λ u. is_line_on u (heard s lines)) n high line.time
    line_first lt = record {
      within = omega (arith, lt);
      none = none_below;
      some = λ _. ((at.here line is).0, on_from s line.time lines place line is (at.here line is).1 refl);
    }

    pub line_late : high ≤ line.time → IsLeast (λ u. is_line_on u (heard s lines)) n high high
    line_late le = record { within = omega arith; none = λ u from below. none_below u from (omega (arith, below, le)); some = λ lt. absurd (omega (arith, lt)) }

  pub line_none : slice_get lines place ≡ None → IsLeast (λ u. is_line_on u (heard s lines)) n high high
  line_none none = record {
    within = omega arith;
    none = λ u from below. elim (cases_Bool (is_line_on u (heard s lines))) [
      | inr nothing ↦ nothing
      | inl there ↦
          let found = heard_on s u lines there in
          let time = found.time in
          absurd (at.passed found.place found.line (before found.place found.line found.is) found.is (omega (arith, time, from), found.heard_is))
    ];
    some = λ lt. absurd (omega (arith, lt));
  }
    where
      before : (k : ℕ) (l : Line) → slice_get lines k ≡ Some l → k < place
      before k l here = elim (cases_lt k place) [
        | inl low ↦ low
        | inr past ↦ absurd (none-some l (sym (past_none lines place k past none) ∙ here))
      ]
        where
          past_none : (xs : List Line) (j k : ℕ) → j ≤ k → slice_get xs j ≡ None → slice_get xs k ≡ None
          past_none [] j k le out = refl
          past_none (x ∷ xs) zero k le out = absurd (none-some x (sym out))
          past_none (x ∷ xs) (suc j) zero le out = absurd (omega (arith, le))
          past_none (x ∷ xs) (suc j) (suc k) le out = past_none xs j k (omega (arith, le)) out

-- ---- delays
pub due_end : (s : System) (p : ℕ → ℕ → Bool) (low high n least : ℕ) → ((i : ℕ) → IsTrue (runs s i) → i < n) → IsLeastOf s p n low high least → IsLeast (λ u. list_any (λ i. p i u) s.running) low high least
due_end s p low high n least there a = record {
  within = a.within;
  none = λ u le lt. none_from (λ i. p i u) s.running (λ i run. a.none u le lt i (there i run) run);
  some = λ lt. let found = a.some lt in (found.0, some_from (λ i. p i least) s.running found.1.0 found.1.1 found.1.2);
}

-- ---- both
module _ (s : System) (lines : List Line) (draft : Draft) (from bound : ℕ) where
  abbrev next : ℕ → Bool
  next u = is_next_by s lines draft u

  pub first_start : from ≡ 0 → from < bound → IsFirst next from bound (Some from)
  first_start is low = (omega arith, low, (λ k. (eq-eqb from 0 is k || is_line_on from (heard s lines)) || is_due_on s draft from), λ u le lt. absurd (omega (arith, le, lt)))

  module _ (due least : ℕ) (a : IsLeast (is_due_on s draft) from bound due) (b : IsLeast (λ u. is_line_on u (heard s lines)) from due least) (later : 0 < from ⊎ (bound ≡ 0)) where
    least_low : least ≤ bound
    least_low = let x = a.within in let y = b.within in omega (arith, x, y)

    none_before : (u : ℕ) → from ≤ u → u < least → next u ≡ false
    none_before u le lt =
        let y = b.within in
        let low = least_low in
        let not_zero : (u == 0) ≡ false = ne_eqb u 0 (λ is. elim later [ inl positive ↦ omega (arith, positive, le, is) | inr zero_is ↦ omega (arith, zero_is, lt, low) ]) in
        let no_line = b.none u le lt in
        let no_due = a.none u le (omega (arith, lt, y)) in
        λ k. (not_zero k || no_line k) || no_due k

    line_next : (u : ℕ) → is_line_on u (heard s lines) ≡ true → next u ≡ true
    line_next u is = or_first ((u == 0) || is_line_on u (heard s lines)) (is_due_on s draft u) (or_second (u == 0) (is_line_on u (heard s lines)) is)

    due_next : (u : ℕ) → is_due_on s draft u ≡ true → next u ≡ true
    due_next u is = or_second ((u == 0) || is_line_on u (heard s lines)) (is_due_on s draft u) is

    pub first_found : least < bound → IsFirst next from bound (Some least)
    first_found lt = elim (cases_lt least due) [
      | inl line ↦ let found = b.some line in (found.0, lt, line_next least found.1, none_before)
      | inr here ↦
          let y = b.within in
          let same : due ≡ least = omega (arith, here, y) in
          let found = a.some (omega (arith, same, lt)) in
          let low = found.0 in
          (omega (arith, low, same), lt, subst (λ u. next u ≡ true) same (due_next due found.1), none_before)
    ]

    pub first_time : bound ≤ 2 ^ 63 → least < bound → (r : Option ℕ) → SomeIff r (least < 2 ^ 63) least → IsFirst next from bound r
    first_time small lt None none = absurd (none (omega (arith, small, lt)))
    first_time small lt (Some u) is = subst (λ t. IsFirst next from bound (Some t)) (sym is.1) (first_found lt)

    pub first_none : bound ≤ least → IsFirst next from bound None
    first_none le u from_u lt = none_before u from_u (omega (arith, lt, le))
