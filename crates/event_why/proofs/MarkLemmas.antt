-- Marks of steps, and of what they stand on.
use Rattle.std.proofs.Common.{◌≡◌, ◌⊎◌, ℕ, zero, suc, ◌+◌, ◌<◌, ◌≤◌, Bool, false, List, [], ◌∷◌, Option, Some, None, length, replicate, refl, sym, ap, subst, ◌∙◌, slice_get, slice_index_or, inl, inr, arith}
use Rattle.std.proofs.lemmas.Bool.{cases_lt, false≢true, or_cases, or_left, or_right}
use Rattle.std.proofs.lemmas.List.{get_or_past}
use Rattle.std.proofs.lemmas.Option.{none-some, same_Some}
use Rattle.std.specs.Prelude.{IsTrue}
use Rattle.std.specs.List.{Contains}
use Rattle.tsl_value.proofs.Lists.{only}
use Rattle.flat_core.specs.Members.{is_in}
use Rattle.flat_core.proofs.Members.{Contains-in, contains_head, contains_tail, in-Contains}
use Rattle.event_why.specs.declared.draft.Draft.{Draft}
use Rattle.event_why.specs.declared.fact.WhyStep.{WhyStep}
use Rattle.event_why.specs.inner.Drafted.{number_at}
use Rattle.event_why.specs.inner.Used.{AreMarked, NamesEarlier}
use Rattle.event_why.specs.inner.Pruned.{AreGroundsMarked, HasKnown, HasNamed, IsGround, IsMarkedFrom, is_marked, some_of}

-- there are marks of places alone
pub marked_within : (marks : List Bool) (k : ℕ) → IsTrue (is_marked marks k) → k < length marks
marked_within marks k marked = elim (cases_lt k (length marks)) [
  | inl low ↦ low
  | inr past ↦ absurd (false≢true (sym (get_or_past marks k false past) ∙ marked))
]

-- ---- the marks of some numbers
module _ (ns : List ℕ) (old new : List Bool) (are : AreMarked ns old new) where
  pub marked_named : (n : ℕ) → Contains ns n → n < length old → IsTrue (is_marked new n)
  marked_named n names low = are.each n low ∙ or_left (is_in ns n) (slice_index_or old n false) (in-Contains ns n names)

  pub marked_still : (k : ℕ) → IsTrue (is_marked old k) → IsTrue (is_marked new k)
  marked_still k marked = are.each k (marked_within old k marked) ∙ or_right (is_in ns k) (slice_index_or old k false) marked

  pub marked_only : (k : ℕ) → IsTrue (is_marked new k) → Contains ns k ⊎ IsTrue (is_marked old k)
  marked_only k marked =
      let long = are.as_long in
      let low = marked_within new k marked in
      elim (or_cases (is_in ns k) (slice_index_or old k false) (sym (are.each k (omega (arith, long, low))) ∙ marked)) [
        | inl named ↦ inl (Contains-in ns k named)
        | inr before ↦ inr before
      ]

-- ---- what marked steps name, from one place on
pub record AreMarkedFrom (steps : List WhyStep) (place : ℕ) (old new : List Bool) : Type 0 where
  pub first : (k : ℕ) → IsTrue (is_marked old k) → IsTrue (is_marked new k)
  pub grounds : (k n : ℕ) → place ≤ k → IsGround steps k n → IsTrue (is_marked new k) → IsTrue (is_marked new n)
  pub only : (n : ℕ) → IsTrue (is_marked new n) → IsTrue (is_marked old n) ⊎ ((k : ℕ) × IsGround steps k n × IsTrue (is_marked new k))

ground_early : (steps : List WhyStep) (k n : ℕ) → NamesEarlier steps → IsGround steps k n → n < k
ground_early steps k n earlier g = earlier.each k g.step g.is n g.names

pub ground_within : (steps : List WhyStep) (k n : ℕ) → IsGround steps k n → k < length steps
ground_within [] k n g = absurd (none-some g.step g.is)
ground_within (s ∷ steps) zero n g = omega arith
ground_within (s ∷ steps) (suc k) n g =
    let low = ground_within steps k n (record { step = g.step; is = g.is; names = g.names }) in
    omega arith

module _ (steps : List WhyStep) (old : List Bool) where
  pub from_end : (place : ℕ) → length steps ≤ place → AreMarkedFrom steps place old old
  from_end place past = record {
    first = λ k marked. marked;
    grounds = λ k n late g marked. let low = ground_within steps k n g in absurd (omega arith);
    only = λ n marked. inl marked;
  }

  pub from_start : (new : List Bool) → AreMarkedFrom steps 0 old new → AreGroundsMarked steps old new
  from_start new from = record { first = from.first; grounds = λ k n g marked. from.grounds k n (omega arith) g marked; only = from.only }

  module _ (place : ℕ) (marks : List Bool) (from : AreMarkedFrom steps (suc place) old marks) where
    -- the step at the place is not marked
    pub from_same : is_marked marks place ≡ false → AreMarkedFrom steps place old marks
    from_same none = record {
      first = from.first;
      grounds = λ k n late g marked.
          elim (cases_lt place k) [
            | inl above ↦ from.grounds k n above g marked
            | inr here ↦
                let same : k ≡ place = omega arith in
                absurd (false≢true (sym none ∙ sym (ap (is_marked marks) same) ∙ marked))
          ];
      only = from.only;
    }

    -- it is, and so is what it names now
    module _ (earlier : NamesEarlier steps) (step : WhyStep) (at : slice_get steps place ≡ Some step) (marked_here : IsTrue (is_marked marks place)) (many : length marks ≡ length steps) (new : List Bool) (are : AreMarked step.by.items marks new) where
      own : (k : ℕ) → IsTrue (is_marked new k) → Contains step.by.items k ⊎ IsTrue (is_marked marks k)
      own = marked_only step.by.items marks new are

      still : (k : ℕ) → IsTrue (is_marked marks k) → IsTrue (is_marked new k)
      still = marked_still step.by.items marks new are

      -- a marked step that is not before the place was marked
      marked_late : (k : ℕ) → place ≤ k → IsTrue (is_marked new k) → IsTrue (is_marked marks k)
      marked_late k late marked = elim (own k marked) [
        | inl named ↦ let low = earlier.each place step at k named in absurd (omega arith)
        | inr before ↦ before
      ]

      named_low : (n : ℕ) → Contains step.by.items n → n < length marks
      named_low n named =
          let low = earlier.each place step at n named in
          let within = marked_within marks place marked_here in
          omega arith

      pub from_more : AreMarkedFrom steps place old new
      from_more = record {
        first = λ k marked. still k (from.first k marked);
        grounds = λ k n late g marked.
            elim (cases_lt place k) [
              | inl above ↦ still n (from.grounds k n above g (marked_late k late marked))
              | inr here ↦
                  let same : k ≡ place = omega arith in
                  let one = same_Some g.step step (sym g.is ∙ ap (slice_get steps) same ∙ at) in
                  let named = subst (λ (w : WhyStep). Contains w.by.items n) one g.names in
                  marked_named step.by.items marks new are n named (named_low n named)
            ];
        only = λ n marked.
            elim (own n marked) [
              | inl named ↦ inr (place, record { step = step; is = at; names = named }, still place marked_here)
              | inr before ↦ elim (from.only n before) [
                | inl first ↦ inl first
                | inr (k, g, m) ↦ inr (k, g, still k m)
              ]
            ];
      }

-- ---- what one step stands on
module _ (steps : List WhyStep) (last : ℕ) (none old new : List Bool) (one : AreMarked (last ∷ []) none old) (all : AreGroundsMarked steps old new) where
  pub from_one : last < length none → IsMarkedFrom steps last none new
  from_one low = record {
    first = all.first last (marked_named (last ∷ []) none old one last (contains_head last []) low);
    grounds = all.grounds;
    only = λ n marked.
        elim (all.only n marked) [
          | inl first ↦ elim (marked_only (last ∷ []) none old one n first) [
            | inl named ↦ inr (inl (sym (only last n named)))
            | inr before ↦ inl before
          ]
          | inr named ↦ inr (inr named)
        ];
  }

module _ (steps : List WhyStep) (last : ℕ) (none new : List Bool) (earlier : NamesEarlier steps) (unmarked : (k : ℕ) → is_marked none k ≡ false) (from : IsMarkedFrom steps last none new) where
  -- each other one is named by one that is marked
  pub last_or_named : (n : ℕ) → IsTrue (is_marked new n) → (n ≡ last) ⊎ ((k : ℕ) × IsGround steps k n × IsTrue (is_marked new k))
  last_or_named n marked = elim (from.only n marked) [
    | inl before ↦ absurd (false≢true (sym (unmarked n) ∙ before))
    | inr rest ↦ rest
  ]

  up_to : (room n : ℕ) → length steps ≤ n + room → IsTrue (is_marked new n) → n ≤ last
  up_to zero n past marked = elim (last_or_named n marked) [
    | inl same ↦ omega arith
    | inr (k, g, m) ↦
        let low = ground_within steps k n g in
        let before = ground_early steps k n earlier g in
        absurd (omega arith)
  ]
  up_to (suc room) n past marked = elim (last_or_named n marked) [
    | inl same ↦ omega arith
    | inr (k, g, m) ↦
        let before = ground_early steps k n earlier g in
        let le = up_to room k (omega arith) m in
        omega arith
  ]

  -- none is after it
  pub none_after : (n : ℕ) → IsTrue (is_marked new n) → n ≤ last
  none_after n marked = up_to (length steps) n (omega arith) marked

-- ---- the numbers of a table
pub some_there : (numbers : List (Option ℕ)) (i n : ℕ) → number_at numbers i ≡ Some n → Contains (some_of numbers) n
some_there [] i n is = absurd (none-some n is)
some_there (None ∷ numbers) zero n is = absurd (none-some n is)
some_there (None ∷ numbers) (suc i) n is = some_there numbers i n is
some_there (Some m ∷ numbers) zero n is = subst (λ x. Contains (x ∷ some_of numbers) n) (sym (same_Some m n is)) (contains_head n (some_of numbers))
some_there (Some m ∷ numbers) (suc i) n is = contains_tail m (some_of numbers) n (some_there numbers i n is)

pub table_named : (steps : List WhyStep) (numbers : List (Option ℕ)) (old new : List Bool) → length old ≡ length steps → AreMarked (some_of numbers) old new → HasNamed steps new numbers
table_named steps numbers old new many are i n is low = marked_named (some_of numbers) old new are n (some_there numbers i n is) (omega arith)

module _ (draft : Draft) (none a b c new : List Bool) (many : length none ≡ length draft.steps.items) (latest : AreMarked (some_of draft.latest.numbers.items) none a) (quiet : AreMarked (some_of draft.quiet.numbers.items) a b) (pending : AreMarked (some_of draft.pending.numbers.items) b c) (all : AreGroundsMarked draft.steps.items c new) where
  still_named : (ns : List ℕ) (numbers : List (Option ℕ)) (old next : List Bool) → AreMarked ns old next → HasNamed draft.steps.items old numbers → HasNamed draft.steps.items next numbers
  still_named ns numbers old next are named i n is low = marked_still ns old next are n (named i n is low)

  first_named : (numbers : List (Option ℕ)) → HasNamed draft.steps.items c numbers → HasNamed draft.steps.items new numbers
  first_named numbers named i n is low = all.first n (named i n is low)

  pub all_known : HasKnown draft new
  all_known =
      let long_a = latest.as_long in
      let long_b = quiet.as_long in
      let named_latest = table_named draft.steps.items draft.latest.numbers.items none a many latest in
      let named_quiet = table_named draft.steps.items draft.quiet.numbers.items a b (omega arith) quiet in
      let named_pending = table_named draft.steps.items draft.pending.numbers.items b c (omega arith) pending in
      record {
        grounds = all.grounds;
        latest = first_named draft.latest.numbers.items (still_named _ draft.latest.numbers.items b c pending (still_named _ draft.latest.numbers.items a b quiet named_latest));
        quiet = first_named draft.quiet.numbers.items (still_named _ draft.quiet.numbers.items b c pending named_quiet);
        pending = first_named draft.pending.numbers.items named_pending;
      }

-- at first there is no mark
pub none_marked : (n k : ℕ) → is_marked (replicate n false) k ≡ false
none_marked zero k = refl
none_marked (suc n) zero = refl
none_marked (suc n) (suc k) = none_marked n k
