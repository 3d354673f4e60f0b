-- The marks of an agenda, as its words change.
use Rattle.std.proofs.Common.{◌≡◌, ◌≢◌, ℕ, ◌+◌, ◌-◌, ◌*◌, ◌/◌, ◌<◌, ◌≤◌, min, Bool, true, false, List, [], ◌∷◌, ◌++◌, length, drop, get_or, set, replicate, sym, ap, subst, ◌∙◌, inl, inr, arith}
use Rattle.std.proofs.lemmas.Bool.{cases_eq, cases_lt, both_ways, false_from_ne_true}
use Rattle.std.proofs.lemmas.List.{length-set, get_or-set_same, get_or-set_other, get_or_past, get_or-replicate, length-replicate, ext_get_or, append-nil, append_assoc, drop_all, drop_more, replicate_more, set-append_right}
use Rattle.std.proofs.lemmas.List.FromFn.{length-map-range_with_len, get_or-map-range_with_len}
use Rattle.agenda.specs.inner.Marks.{has_mark, HasNoMark, IsLeastMark}
use Rattle.agenda.specs.inner.Words.{has_bit, marks_of, HasSetBit, HasTaken, IsLeastIn, AreMarks}
use Rattle.agenda.proofs.WordLemmas.{no_bit, some_word}

pub length-marks : (count : ℕ) (words : List ℕ) → length (marks_of count words) ≡ count
length-marks count words = length-map-range_with_len (has_bit words) 0 count

mark_below : (count : ℕ) (words : List ℕ) (place : ℕ) → place < count → get_or (marks_of count words) place false ≡ has_bit words place
mark_below count words place below = get_or-map-range_with_len (has_bit words) 0 count place place false below (omega arith)

zeros : (n k : ℕ) → get_or (replicate {A = ℕ} n 0) k 0 ≡ 0
zeros n k = elim (cases_lt k n) [
  | inl below ↦ get_or-replicate n k 0 0 below
  | inr above ↦
      let past : length (replicate {A = ℕ} n 0) ≤ k = omega (arith, length-replicate {A = ℕ} n 0) in
      get_or_past (replicate n 0) k 0 past
]

module _ (count : ℕ) (words summary : List ℕ) (first : ℕ) (are : AreMarks count words summary first) where
  -- a mark is a bit, also after the last place
  pub mark_is : (place : ℕ) → has_mark (marks_of count words) place ≡ has_bit words place
  mark_is place = elim (cases_lt place count) [
    | inl below ↦ mark_below count words place below
    | inr above ↦
        let past : length (marks_of count words) ≤ place = omega (arith, length-marks count words) in
        get_or_past (marks_of count words) place false past ∙ sym (are.none_after place above)
  ]

  pub bit_below : (place : ℕ) → has_bit words place ≡ true → place < count
  bit_below place is = elim (cases_lt place count) [
    | inl below ↦ below
    | inr above ↦ absurd (both_ways (has_bit words place) (are.none_after place above) is)
  ]

-- the marks after one bit has changed
pub marks_set : (count : ℕ) (old new : List ℕ) (place : ℕ) (b : Bool) → place < count → HasSetBit old new place b → marks_of count new ≡ set (marks_of count old) place b
marks_set count old new place b there is =
    let long = length-marks count old in
    let inside : place < length (marks_of count old) = omega arith in
    ext_get_or false (marks_of count new) (set (marks_of count old) place b)
    (length-marks count new ∙ sym (length-set (marks_of count old) place b ∙ long))
    (λ i below.
    let low : i < count = omega (arith, length-marks count new) in
    mark_below count new i low ∙ elim (cases_eq i place) [
      | inl same ↦ ap (has_bit new) same ∙ is.here ∙ sym (ap (λ j. get_or (set (marks_of count old) place b) j false) same ∙ get_or-set_same (marks_of count old) place b false inside)
      | inr else ↦ is.others i else ∙ sym (get_or-set_other (marks_of count old) place i b false else ∙ mark_below count old i low)
    ])

pub none_marked : (count n : ℕ) → marks_of count (replicate n 0) ≡ replicate count false
none_marked count n =
    ext_get_or false (marks_of count (replicate n 0)) (replicate count false)
    (length-marks count (replicate n 0) ∙ sym (length-replicate count false))
    (λ i below.
    let low : i < count = omega (arith, length-marks count (replicate n 0)) in
    mark_below count (replicate n 0) i low
    ∙ no_bit (replicate n 0) i (zeros n (i / 64))
    ∙ sym (get_or-replicate count i false false low))

-- a place is marked
pub marked : (count : ℕ) (words summary new new_summary : List ℕ) (first place : ℕ) → AreMarks count words summary first → place < count → HasSetBit words new place true → HasSetBit summary new_summary (place / 64) true → AreMarks count new new_summary (min first (place / 64 / 64))
marked count words summary new new_summary first place are there bit sum = record {
  words_room = bit.room ∙ are.words_room;
  summary_room = sum.room ∙ are.summary_room;
  none_after = λ p above.
      let ne : p ≢ place = omega arith in
      bit.others p ne ∙ are.none_after p above;
  summed = λ p is. elim (cases_eq (p / 64) (place / 64)) [
    | inl same ↦ ap (has_bit new_summary) same ∙ sum.here
    | inr else ↦
        let ne : p ≢ place = λ e. else (ap (λ x. x / 64) e) in
        sum.others (p / 64) else ∙ are.summed p (sym (bit.others p ne) ∙ is)
  ];
  filled = λ k is. elim (cases_eq k (place / 64)) [
    | inl same ↦ λ none. some_word new place bit.here (ap (λ j. get_or new j 0) (sym same) ∙ none)
    | inr else ↦ λ none. are.filled k (sym (sum.others k else) ∙ is) (sym (bit.words k else) ∙ none)
  ];
  first_there =
      let room = are.first_there in
      let same = sum.room in
      omega arith;
  none_before = λ k below.
      let ne : k ≢ place / 64 / 64 = omega arith in
      let low : k < first = omega arith in
      sum.words k ne ∙ are.none_before k low;
}

-- the search for the first word of the summary that has a bit
pub found : (count : ℕ) (words summary : List ℕ) (first next : ℕ) → AreMarks count words summary first → next ≤ length summary → ((k : ℕ) → first ≤ k → k < next → get_or summary k 0 ≡ 0) → AreMarks count words summary next
found count words summary first next are there empty = record {
  words_room = are.words_room;
  summary_room = are.summary_room;
  none_after = are.none_after;
  summed = are.summed;
  filled = are.filled;
  first_there = there;
  none_before = λ k below. elim (cases_lt k first) [ inl low ↦ are.none_before k low | inr high ↦ empty k high below ];
}

pub none_left : (count : ℕ) (words summary : List ℕ) (first : ℕ) → AreMarks count words summary first → first ≡ length summary → HasNoMark (marks_of count words)
none_left count words summary first are all place =
    mark_is count words summary first are place ∙ false_from_ne_true (has_bit words place) (λ is.
    some_word summary (place / 64) (are.summed place is) (elim (cases_lt (place / 64 / 64) first) [
      | inl low ↦ are.none_before (place / 64 / 64) low
      | inr high ↦
          let past : length summary ≤ place / 64 / 64 = omega arith in
          get_or_past summary (place / 64 / 64) 0 past
    ]))

module _ (count : ℕ) (words summary : List ℕ) (first word place : ℕ) (are : AreMarks count words summary first) (of : IsLeastIn summary first word) (is : IsLeastIn words word place) where
  pub least_is : IsLeastMark (marks_of count words) place
  least_is = record {
    marked = mark_is count words summary first are place ∙ is.here;
    least = λ other before. mark_is count words summary first are other ∙ false_from_ne_true (has_bit words other) (λ has.
        let sum = are.summed other has in
        let from : first * 64 ≤ other / 64 = elim (cases_lt (other / 64 / 64) first) [
          | inl low ↦ absurd (some_word summary (other / 64) sum (are.none_before (other / 64 / 64) low))
          | inr high ↦ omega arith
        ] in
        let upto : other / 64 ≤ word = omega (arith, is.inside) in
        elim (cases_lt (other / 64) word) [
          | inl low ↦ both_ways (has_bit summary (other / 64)) (of.least (other / 64) from low) sum
          | inr high ↦
              let start : word * 64 ≤ other = omega arith in
              both_ways (has_bit words other) (is.least other start before) has
        ]);
  }

  module _ (new new_summary : List ℕ) (bit : HasSetBit words new place false) where
    apart : (p : ℕ) → has_bit new p ≡ true → p ≢ place
    apart p has e = both_ways (has_bit new p) (ap (has_bit new) e ∙ bit.here) has

    still_summed : (p : ℕ) → has_bit new p ≡ true → has_bit summary (p / 64) ≡ true
    still_summed p has = are.summed p (sym (bit.others p (apart p has)) ∙ has)

    none_after : (p : ℕ) → count ≤ p → has_bit new p ≡ false
    none_after p above =
        let ne : p ≢ place = λ e. both_ways (has_bit words p) (are.none_after p above) (ap (has_bit words) e ∙ is.here) in
        bit.others p ne ∙ are.none_after p above

    -- the word has no other mark
    taken_last : get_or new (place / 64) 0 ≡ 0 → HasSetBit summary new_summary (place / 64) false → AreMarks count new new_summary first
    taken_last none sum = record {
      words_room = bit.room ∙ are.words_room;
      summary_room = sum.room ∙ are.summary_room;
      none_after = none_after;
      summed = λ p has.
          let ne : p / 64 ≢ place / 64 = λ e. some_word new p has (ap (λ j. get_or new j 0) e ∙ none) in
          sum.others (p / 64) ne ∙ still_summed p has;
      filled = λ k has zero.
          let ne : k ≢ place / 64 = λ e. both_ways (has_bit new_summary k) (ap (has_bit new_summary) e ∙ sum.here) has in
          are.filled k (sym (sum.others k ne) ∙ has) (sym (bit.words k ne) ∙ zero);
      first_there = omega (arith, sum.room, are.first_there);
      none_before = λ k below.
          let ne : k ≢ place / 64 / 64 = omega (arith, is.inside, of.inside) in
          sum.words k ne ∙ are.none_before k below;
    }

    -- it has others
    taken_more : get_or new (place / 64) 0 ≢ 0 → new_summary ≡ summary → AreMarks count new new_summary first
    taken_more more same = record {
      words_room = bit.room ∙ are.words_room;
      summary_room = ap length same ∙ are.summary_room;
      none_after = none_after;
      summed = λ p has. ap (λ s. has_bit s (p / 64)) same ∙ still_summed p has;
      filled = λ k has zero. elim (cases_eq k (place / 64)) [
        | inl here ↦ more (ap (λ j. get_or new j 0) (sym here) ∙ zero)
        | inr else ↦ are.filled k (ap (λ s. has_bit s k) (sym same) ∙ has) (sym (bit.words k else) ∙ zero)
      ];
      first_there = omega (arith, ap length same, are.first_there);
      none_before = λ k below. ap (λ s. get_or s k 0) same ∙ are.none_before k below;
    }

  pub taken_is : (new new_summary : List ℕ) → HasTaken words new summary new_summary place → AreMarks count new new_summary first
  taken_is new new_summary taken = elim (cases_eq (get_or new (place / 64) 0) 0) [
    | inl none ↦ taken_last new new_summary taken.cleared none (taken.last none)
    | inr more ↦ taken_more new new_summary taken.cleared more (taken.more more)
  ]

-- all places, one after another
pub front_marked : (marks : List Bool) (n : ℕ) → n < length marks → set (replicate n true ++ drop n marks) n true ≡ replicate (n + 1) true ++ drop (n + 1) marks
front_marked marks n below =
    let same : n - n ≡ 0 = omega arith in
    set-append_right (replicate n true) (drop n marks) n n true (length-replicate n true) (omega arith)
    ∙ ap (λ k. replicate n true ++ set (drop n marks) k true) same
    ∙ ap (λ rest. replicate n true ++ set rest 0 true) (drop_more marks n false below)
    ∙ sym (append_assoc (replicate n true) (true ∷ []) (drop (n + 1) marks))
    ∙ ap (λ front. front ++ drop (n + 1) marks) (replicate_more n true)

pub all_marked : (marks : List Bool) (n : ℕ) → n ≡ length marks → replicate n true ++ drop n marks ≡ replicate (length marks) true
all_marked marks n all =
    ap (λ rest. replicate n true ++ rest) (drop_all n marks (omega arith))
    ∙ append-nil (replicate n true) ∙ ap (λ k. replicate k true) all

pub summary_room : (words new summary new_summary : List ℕ) (place : ℕ) → HasTaken words new summary new_summary place → length new_summary ≡ length summary
summary_room words new summary new_summary place taken = elim (cases_eq (get_or new (place / 64) 0) 0) [
  | inl none ↦ (taken.last none).room
  | inr more ↦ ap length (taken.more more)
]

-- what a search through a copy of the summary says of it
pub searched : (summary read : List ℕ) (first next : ℕ) → read ≡ summary → next ≤ length read → ((k : ℕ) → first ≤ k → k < next → get_or read k 0 ≡ 0) → (next ≤ length summary) × ((k : ℕ) → first ≤ k → k < next → get_or summary k 0 ≡ 0)
searched summary read first next same within empty =
    (subst (λ (s : List ℕ). next ≤ length s) same within, subst (λ (s : List ℕ). (k : ℕ) → first ≤ k → k < next → get_or s k 0 ≡ 0) same empty)
