-- How an instant begins.
use Rattle.std.proofs.Common.{◌≡◌, ◌==◌, ℕ, ◌+◌, ◌<◌, Bool, true, false, ◌&&◌, ◌||◌, cond, List, [], ◌∷◌, ◌++◌, length, set, get_or, take, Option, Some, None, refl, sym, ap, subst, ◌∙◌, append_assoc, inl, inr, arith}
use Rattle.std.proofs.lemmas.Bool.{cases_Bool, cases_lt, eq-eqb, eqb-true, eqb-false, false≢true, ne_eqb, or_cases, or_left, or_parts, or_right}
use Rattle.std.proofs.lemmas.List.Elements.{All-from_recursion}
use Rattle.std.proofs.lemmas.List.Folds.{list_any_more}
use Rattle.std.proofs.Math.Bool.{or-false, or_assoc}
use Rattle.std.specs.List.{All}
use Rattle.agenda.specs.inner.Marks.{has_mark}
use Rattle.step_uses.specs.Uses.{row}
use Rattle.flat_core.specs.Members.{is_in}
use Rattle.flat_core.proofs.Members.{all_from, in-Contains}
use Rattle.std.proofs.Common.{length-set}
use Rattle.std.proofs.lemmas.List.{get_or-set_same, get_or-set_other}
use Rattle.std.specs.Prelude.{◌≢◌, ◌⊎◌, ◌-◌, if◌then◌else◌, is_some, slice_get}
use Rattle.std.specs.Option.{option_or}
use Rattle.std.specs.FinMap as finite_map
use Rattle.std.specs.Cmp.{Equal-is, eq_by_cmp_equiv, nat_cmp_total}
use Rattle.std.specs.Ordering.{eq_by_cmp, nat_cmp}
use Rattle.tsl_value.specs.declared.scalar.Scalar.{Scalar}
use Rattle.tsl_value.specs.declared.scalar.Scalar.TheVariants as scalar
use Rattle.tsl_value.specs.View.{View, Plain}
use Rattle.delay_timers.specs.inner.Pending.{Times}
use Rattle.body_eval.specs.declared.register.Register.{Register}
use Rattle.body_eval.specs.declared.register.Register.TheVariants as register
use Rattle.flat_core.specs.Line.{Line, event_in, inputs_of}
use Rattle.flat_core.specs.Pending.{option_is}
use Rattle.monitor_run.specs.inner.Given.{AreAt, AreThere, IsThere}
use Rattle.monitor_run.specs.inner.Instant.{moved_in, with_event}
use Rattle.monitor_run.specs.inner.Registers.{register_at}
use Rattle.monitor_run.specs.inner.Visits.{AreFilled, AreMarked, AreWithin}

-- ---- delays that are due

abbrev pub HasExpired : ℕ → Option ℕ → Register → Option ℕ → Register → Type 0
HasExpired t due r left now = ((left ≡ due) × (now ≡ r)) ⊎ ((option_is t due ≡ true) × (left ≡ None) × (now ≡ register.Scalar scalar.Unit))

pub record AreExpiring (t : ℕ) (timers mid : Times) (registers now : List Register) : Type 0 where
  pub each : (i : ℕ) → HasExpired t (finite_map.get timers i) (register_at registers i) (finite_map.get mid i) (register_at now i)

pub get_removed-same : (m : Times) (d : ℕ) → finite_map.get (finite_map.remove m d) d ≡ None
get_removed-same m d = finite_map.get-remove nat_cmp_total m d d ∙ ap (λ b. cond b None (finite_map.get m d)) ((eq_by_cmp_equiv nat_cmp_total).refl d)

pub get_removed-other : (m : Times) (d i : ℕ) → i ≢ d → finite_map.get (finite_map.remove m d) i ≡ finite_map.get m i
get_removed-other m d i ne = finite_map.get-remove nat_cmp_total m d i ∙ elim (eq_by_cmp nat_cmp i d) as (λ b. eq_by_cmp nat_cmp i d ≡ b → cond b None (finite_map.get m i) ≡ finite_map.get m i) [
  | true ↦ λ tied. absurd (ne (finite_map.nat_cmp-IsAntisymmetric i d ((Equal-is (nat_cmp i d)).0 tied)))
  | false ↦ λ apart. refl
] refl

pub get_set-same : (m : Times) (d v : ℕ) → finite_map.get (finite_map.insert m d v) d ≡ Some v
get_set-same m d v = finite_map.get-insert nat_cmp_total m d v d ∙ ap (λ b. cond b (Some v) (finite_map.get m d)) ((eq_by_cmp_equiv nat_cmp_total).refl d)

pub get_set-other : (m : Times) (d v i : ℕ) → i ≢ d → finite_map.get (finite_map.insert m d v) i ≡ finite_map.get m i
get_set-other m d v i ne = finite_map.get-insert nat_cmp_total m d v i ∙ elim (eq_by_cmp nat_cmp i d) as (λ b. eq_by_cmp nat_cmp i d ≡ b → cond b (Some v) (finite_map.get m i) ≡ finite_map.get m i) [
  | true ↦ λ tied. absurd (ne (finite_map.nat_cmp-IsAntisymmetric i d ((Equal-is (nat_cmp i d)).0 tied)))
  | false ↦ λ apart. refl
] refl

none_some : (t : ℕ) (o : Option ℕ) → o ≡ None → o ≡ Some t → ⊥
none_some t o p q = cc

pub expiring-one : (t d : ℕ) (timers mid new : Times) (registers now : List Register) → new ≡ finite_map.remove mid d → finite_map.get mid d ≡ Some t → d < length now → AreExpiring t timers mid registers now → AreExpiring t timers new registers (set now d (register.Scalar scalar.Unit))
expiring-one t d timers mid new registers now removed due lt e = subst (λ ts. AreExpiring t timers ts registers (set now d (register.Scalar scalar.Unit))) (sym removed) (record {
  each = λ i. elim (cases_Bool (d == i)) [
    | inl here ↦
        let same = eqb-true d i here in
        subst (λ j. HasExpired t (finite_map.get timers j) (register_at registers j) (finite_map.get (finite_map.remove mid d) j) (register_at (set now d (register.Scalar scalar.Unit)) j)) same
        (inr (was_due (e.each d), get_removed-same mid d, get_or-set_same now d (register.Scalar scalar.Unit) register.Empty lt))
    | inr other ↦
        let ne : i ≢ d = λ same. eqb-false d i other (sym same) in
        subst (λ o. HasExpired t (finite_map.get timers i) (register_at registers i) o (register_at (set now d (register.Scalar scalar.Unit)) i)) (sym (get_removed-other mid d i ne))
        (subst (HasExpired t (finite_map.get timers i) (register_at registers i) (finite_map.get mid i)) (sym (get_or-set_other now d i (register.Scalar scalar.Unit) register.Empty ne)) (e.each i))
  ];
})
  where
    was_due : HasExpired t (finite_map.get timers d) (register_at registers d) (finite_map.get mid d) (register_at now d) → option_is t (finite_map.get timers d) ≡ true
    was_due (inl still) = ap (option_is t) (sym still.0 ∙ due) ∙ eq-eqb t t refl
    was_due (inr gone) = absurd (none_some t (finite_map.get mid d) gone.1 due)

-- ---- events of inputs

pub record AreMoving (all given : List Line) (old new : List Register) : Type 0 where
  pub rest : List Line
  pub parts : all ≡ given ++ rest
  pub registers : (time : ℕ) → AreAt time rest → (i : ℕ) → register_at new i ≡ with_event (inputs_of rest i time) (register_at old i)

line_event : (time i told input : ℕ) (value : Scalar) (rest : Option View) (r : Register) → told ≡ time → input ≡ i → with_event (option_or (event_in i time told (Some (input, value))) rest) r ≡ register.Scalar value
line_event time i told input value rest r at same = λ k. with_event (option_or (if eq-eqb told time at k && eq-eqb input i same k then Some (Plain value) else None) rest) r

other_event : (time i told input : ℕ) (value : Scalar) (rest : Option View) (r : Register) → input ≢ i → with_event (option_or (event_in i time told (Some (input, value))) rest) r ≡ with_event rest r
other_event time i told input value rest r ne = ap (λ b. with_event (option_or (if b then Some (Plain value) else None) rest) r) (and_false (told == time) (input == i) (ne_eqb input i ne))
  where
    and_false : (a b : Bool) → b ≡ false → (a && b) ≡ false
    and_false true b is = is
    and_false false b is = refl

module _ (all given : List Line) (l : Line) (old new : List Register) (m : AreMoving all (given ++ l ∷ []) old new) where
  parts_next : all ≡ given ++ l ∷ m.rest
  parts_next = m.parts ∙ append_assoc given (l ∷ []) m.rest

  pub moving-some : (input : ℕ) (value : Scalar) → l.event ≡ Some (input, value) → input < length new → AreMoving all given old (set new input (register.Scalar value))
  moving-some input value is lt = record {
    rest = l ∷ m.rest;
    parts = parts_next;
    registers = λ time at i. elim (cases_Bool (input == i)) [
      | inl here ↦
          let same = eqb-true input i here in
          subst (λ j. register_at (set new input (register.Scalar value)) j ≡ register.Scalar value) same (get_or-set_same new input (register.Scalar value) register.Empty lt)
          ∙ sym (ap (λ e. with_event (option_or (event_in i time l.time e) (inputs_of m.rest i time)) (register_at old i)) is ∙ line_event time i l.time input value (inputs_of m.rest i time) (register_at old i) at.0 same)
      | inr other ↦
          let ne : input ≢ i = eqb-false input i other in
          get_or-set_other new input i (register.Scalar value) register.Empty (λ same. ne (sym same)) ∙ m.registers time at.1 i
          ∙ sym (ap (λ e. with_event (option_or (event_in i time l.time e) (inputs_of m.rest i time)) (register_at old i)) is ∙ other_event time i l.time input value (inputs_of m.rest i time) (register_at old i) ne)
    ];
  }

  pub moving-nothing : l.event ≡ None → AreMoving all given old new
  moving-nothing is = record {
    rest = l ∷ m.rest;
    parts = parts_next;
    registers = λ time at i. m.registers time at.1 i ∙ sym (ap (λ e. with_event (option_or (event_in i time l.time e) (inputs_of m.rest i time)) (register_at old i)) is);
  }

pub moving-one : (all given : List Line) (l : Line) (old new : List Register) → AreMoving all (given ++ l ∷ []) old new → IsThere (length new) l → AreMoving all given old (moved_in l.event new)
moving-one all given l old new m there = from l.event refl
  where
    from : (e : Option (ℕ × Scalar)) → l.event ≡ e → AreMoving all given old (moved_in l.event new)
    from None is = subst (λ e. AreMoving all given old (moved_in e new)) (sym is) (moving-nothing all given l old new m is)
    from (Some e) is = let lt = there e.0 e.1 is in subst (λ e. AreMoving all given old (moved_in e new)) (sym is) (moving-some all given l old new m e.0 e.1 is (omega arith))

-- what is popped is there
pub last_there : (n : ℕ) (given : List Line) (l : Line) → AreThere n (given ++ l ∷ []) → IsThere n l
last_there n [] l all = all.0
last_there n (x ∷ given) l all = last_there n given l all.1

pub front_there : (n : ℕ) (given : List Line) (l : Line) → AreThere n (given ++ l ∷ []) → AreThere n given
front_there n [] l all = tt
front_there n (x ∷ given) l all = (all.0, front_there n given l all.1)

-- lines of another time
pub none_at : (at time : ℕ) (lines : List Line) → AreAt at lines → at ≢ time → (i : ℕ) → inputs_of lines i time ≡ None
none_at at time [] all ne i = refl
none_at at time (l ∷ lines) all ne i = let rest = none_at at time lines all.1 ne i in λ k. option_or (other l.event k) (rest k)
  where
    other : (e : Option (ℕ × Scalar)) → event_in i time l.time e ≡ None
    other None = refl
    other (Some e) = λ k. if ne_eqb l.time time (λ same. ne (sym all.0 ∙ same)) k && (e.0 == i) then Some (Plain e.1) else None

pub moved-length : (e : Option (ℕ × Scalar)) (registers : List Register) → length (moved_in e registers) ≡ length registers
moved-length None registers = refl
moved-length (Some e) registers = length-set registers e.0 (register.Scalar e.1)

-- ---- fewer delays are pending
pub fewer : (mid new : Times) (d t : ℕ) → new ≡ finite_map.remove mid d → finite_map.get mid d ≡ Some t → finite_map.len new < finite_map.len mid
fewer mid new d t removed due =
    let gone = ap finite_map.len removed ∙ finite_map.len-remove nat_cmp_total mid d ∙ ap (λ b. cond b (finite_map.len mid - 1) (finite_map.len mid)) (ap is_some due) in
    elim (cases_lt 0 (finite_map.len mid)) [
      | inl some ↦ omega arith
      | inr none ↦
          let empty = finite_map.empty_of_len mid (omega arith) in
          absurd (none_some t (finite_map.get mid d) (ap (λ m. finite_map.get m d) empty ∙ finite_map.get-empty nat_cmp d) due)
    ]

-- the first of them is of another time
pub given_other : (given : List Line) (at time : ℕ) (l : Line) → AreAt at given → slice_get given 0 ≡ Some l → l.time ≢ time → (i : ℕ) → inputs_of given i time ≡ None
given_other [] at time l all is ne i = refl
given_other (x ∷ given) at time l all is ne i = none_at at time (x ∷ given) all (λ same. ne (ap (λ (m : Line). m.time) (sym (first_line x l is)) ∙ all.0 ∙ same)) i
  where
    first_line : (a b : Line) → Some a ≡ Some b → a ≡ b
    first_line a b p = cc

-- ---- what is filled
pub in_more : (xs : List ℕ) (n i : ℕ) → is_in (xs ++ n ∷ []) i ≡ (is_in xs i || (n == i))
in_more [] n i = or-false (n == i)
in_more (x ∷ xs) n i = (λ k. (x == i) || in_more xs n i k) ∙ sym (or_assoc (x == i) (is_in xs i) (n == i))

-- a register that is put is listed
pub filled_put : (filled : List ℕ) (registers : List Register) (i : ℕ) (r : Register) → i < length registers → AreFilled filled registers → AreFilled (filled ++ i ∷ []) (set registers i r)
filled_put filled registers i r there f = record {
  known = λ j listed. let size = length-set registers i r in elim (or_cases (is_in filled j) (i == j) (sym (in_more filled i j) ∙ listed)) [
    | inl was ↦ let lt = f.known j was in omega arith
    | inr here ↦ let same = eqb-true i j here in omega arith
  ];
  rest = λ j none.
      let two = or_parts (is_in filled j) (i == j) (sym (in_more filled i j) ∙ none) in
      get_or-set_other registers i j r register.Empty (λ same. eqb-false i j two.1 (sym same)) ∙ f.rest j two.0;
}

pub none_filled : (registers : List Register) → ((i : ℕ) → register_at registers i ≡ register.Empty) → AreFilled [] registers
none_filled registers blank = record { known = λ i listed. absurd (false≢true listed); rest = λ i none. blank i }

-- ---- marks of what uses it
pub all_within : (rows : List (List ℕ)) (n a : ℕ) → AreWithin rows n → All (λ p. p < n) (row rows a)
all_within rows n a within = All-from_recursion (λ p. p < n) (row rows a) (all_from (λ p. p < n) (row rows a) (λ p there. within a p (in-Contains (row rows a) p there)))

pub marked_more : (rows : List (List ℕ)) (filled : List ℕ) (k d : ℕ) (old new : List Bool) → k < length filled → d ≡ get_or filled k 0 → AreMarked rows (take k filled) old → ((p : ℕ) → has_mark new p ≡ (has_mark old p || is_in (row rows d) p)) → AreMarked rows (take (k + 1) filled) new
marked_more rows filled k d old new lt is before marked a p listed user = marked p ∙ elim (or_cases (is_in (take k filled) a) (get_or filled k 0 == a) (sym (list_any_more (λ j. j == a) filled k 0 lt) ∙ listed)) [
  | inl was ↦ or_left (has_mark old p) (is_in (row rows d) p) (before a p was user)
  | inr here ↦ or_right (has_mark old p) (is_in (row rows d) p) (subst (λ j. is_in (row rows j) p ≡ true) (sym (is ∙ eqb-true (get_or filled k 0) a here)) user)
]
