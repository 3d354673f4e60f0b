-- Steps that are left over are right where they were, and say what they said.
use Rattle.std.proofs.Common.{◌≡◌, ℕ, zero, suc, ◌+◌, ◌<◌, ◌≤◌, Bool, true, false, List, [], ◌∷◌, ◌++◌, map, drop, get_or, Option, Some, None, length, refl, sym, ap, subst, ◌∙◌, slice_get, append_assoc, zero-add, inl, inr, arith}
use Rattle.std.proofs.lemmas.Bool.{cases_lt, false≢true}
use Rattle.std.proofs.lemmas.List.{append-nil, drop_all, get_or_default, length-map}
use Rattle.std.proofs.lemmas.List.FromFn.{get_or-enumerate_from, length-enumerate_from}
use Rattle.std.proofs.lemmas.Option.{none-some, same_Some, slice_get-get_or, slice_get_within}
use Rattle.std.specs.Prelude.{IsTrue}
use Rattle.std.specs.List.{Contains, enumerate_from}
use Rattle.std.specs.Option.{option_map}
use Rattle.tsl_value.proofs.Lists.{here, later, left_at, map_contains}
use Rattle.flat_core.specs.Events.{Inputs}
use Rattle.flat_core.specs.System.{System}
use Rattle.why_rules.specs.Facts.{Fact}
use Rattle.why_rules.specs.Rules.{Follows}
use Rattle.event_why.specs.declared.draft.Draft.{Draft}
use Rattle.event_why.specs.declared.draft.Known.{Known}
use Rattle.event_why.specs.declared.fact.WhyStep.{WhyStep}
use Rattle.event_why.specs.Said.{said}
use Rattle.event_why.specs.Check.{AreNamed, AreRight, AreUsed, IsRight}
use Rattle.event_why.specs.Check as check
use Rattle.event_why.specs.inner.Used.{NamesEarlier}
use Rattle.event_why.specs.inner.Drafted.{AreWithin, SaysTheSame, fact_at, number_at}
use Rattle.event_why.specs.inner.Pruned.{AreKept, AreNumbers, EndsInFact, HasGrounds, HasKnown, HasNamed, IsMarkedFrom, IsPruned, IsRenumbered, KeepsMarked, is_marked, marked_before, new_number}
use Rattle.event_why.specs.inner.Pruned as pruned
use Rattle.event_why.proofs.CheckLemmas.{names_earlier}
use Rattle.event_why.proofs.MarkLemmas.{last_or_named, marked_within, none_after}

-- of two places the later has the higher number
before_grows : (marks : List Bool) (j k : ℕ) → j < k → IsTrue (is_marked marks j) → marked_before marks j < marked_before marks k
before_grows [] j k lt marked = absurd (false≢true marked)
before_grows (b ∷ marks) j zero lt marked = absurd (omega arith)
before_grows (true ∷ marks) zero (suc k) lt marked = omega arith
before_grows (false ∷ marks) zero (suc k) lt marked = absurd (false≢true marked)
before_grows (true ∷ marks) (suc j) (suc k) lt marked = let less = before_grows marks j k (omega arith) marked in omega arith
before_grows (false ∷ marks) (suc j) (suc k) lt marked = before_grows marks j k (omega arith) marked

module _ (numbers : List ℕ) where
  -- a marked step is there by its new number
  kept_at : (marks : List Bool) (olds news : List WhyStep) → AreKept numbers marks olds news → (k : ℕ) (old : WhyStep) → slice_get olds k ≡ Some old → IsTrue (is_marked marks k) → (new : WhyStep) × (slice_get news (marked_before marks k) ≡ Some new) × IsRenumbered numbers old new
  kept_at marks olds news pruned.AreKept.done k old at marked = absurd (none-some old at)
  kept_at marks olds news (pruned.AreKept.kept {old = o} {new = n} same rest) zero old at marked =
      (n, refl, subst (λ (w : WhyStep). IsRenumbered numbers w n) (same_Some o old at) same)
  kept_at marks olds news (pruned.AreKept.kept {marks = ms} {olds = os} {news = ns} same rest) (suc k) old at marked = kept_at ms os ns rest k old at marked
  kept_at marks olds news (pruned.AreKept.left rest) zero old at marked = absurd (false≢true marked)
  kept_at marks olds news (pruned.AreKept.left {marks = ms} {olds = os} rest) (suc k) old at marked = kept_at ms os news rest k old at marked

  -- and no other is
  placed : (marks : List Bool) (olds news : List WhyStep) → AreKept numbers marks olds news → (n : ℕ) → n < length news → (k : ℕ) × (old : WhyStep) × (slice_get olds k ≡ Some old) × IsTrue (is_marked marks k) × (marked_before marks k ≡ n)
  placed marks olds news pruned.AreKept.done n low = absurd (omega arith)
  placed marks olds news (pruned.AreKept.kept {old = o} same rest) zero low = (0, o, refl, refl, refl)
  placed marks olds news (pruned.AreKept.kept {marks = ms} {olds = os} {news = ns} same rest) (suc n) low =
      let found = placed ms os ns rest n (omega arith) in
      (suc found.0, found.1, found.2, found.3, ap suc found.4)
  placed marks olds news (pruned.AreKept.left {marks = ms} {olds = os} rest) n low =
      let found = placed ms os news rest n low in
      (suc found.0, found.1, found.2, found.3, found.4)

module _ (marks : List Bool) (numbers : List ℕ) (olds news : List WhyStep) (are : AreNumbers marks numbers) (kept : AreKept numbers marks olds news) where
  number_is : (n : ℕ) → IsTrue (is_marked marks n) → new_number numbers n ≡ marked_before marks n
  number_is n marked =
      let low = marked_within marks n marked in
      let long = are.one_each in
      are.each n (new_number numbers n) (slice_get-get_or numbers n n (omega arith))

  at_new : (k : ℕ) (old : WhyStep) → slice_get olds k ≡ Some old → IsTrue (is_marked marks k) → (new : WhyStep) × (slice_get news (marked_before marks k) ≡ Some new) × IsRenumbered numbers old new
  at_new = kept_at numbers marks olds news kept

  -- what a step named it names by new numbers
  named_kept : (k : ℕ) (by : List ℕ) (facts : List Fact) → AreNamed olds k by facts → ((n : ℕ) → Contains by n → IsTrue (is_marked marks n)) → AreNamed news (marked_before marks k) (map (new_number numbers) by) facts
  named_kept k by facts check.AreNamed.done all = check.AreNamed.done
  named_kept k by facts (check.AreNamed.next {n = n} {ns = ns} {fs = fs} step early at others) all =
      let marked = all n (here n ns) in
      let new = at_new n step at marked in
      let number = number_is n marked in
      subst (λ f. AreNamed news (marked_before marks k) (map (new_number numbers) (n ∷ ns)) (f ∷ fs)) (ap said new.2.fact)
      (check.AreNamed.next new.0 (subst (λ m. m < marked_before marks k) (sym number) (before_grows marks n k early marked))
      (ap (slice_get news) number ∙ new.1) (named_kept k ns fs others (λ m c. all m (later n m ns c))))

  pub right_kept : HasGrounds olds marks → (s : System) (slice : List ℕ) (p : Inputs) → AreRight s slice p olds (length olds) → AreRight s slice p news (length news)
  right_kept grounds s slice p right n low =
      let found = placed numbers marks olds news kept n low in
      let k = found.0 in
      let r = right k (slice_get_within olds k found.1 found.2) in
      let new = at_new k r.step r.is found.3 in
      let named = named_kept k r.step.by.items r.facts r.named (λ m c. grounds k m (record { step = r.step; is = r.is; names = c }) found.3) in
      record {
        step = new.0;
        is = subst (λ m. slice_get news m ≡ Some new.0) found.4 new.1;
        facts = r.facts;
        named = subst (λ m. AreNamed news m new.0.by.items r.facts) found.4 (subst (λ by. AreNamed news (marked_before marks k) by r.facts) (sym new.2.by) named);
        uses = r.uses;
        same = r.same;
        follows = subst (λ f. Follows s slice p f r.uses) (ap said (sym new.2.fact)) r.follows;
      }

  -- the fact of a marked step
  fact_kept : (k : ℕ) (old : WhyStep) → slice_get olds k ≡ Some old → IsTrue (is_marked marks k) → fact_at news (Some (new_number numbers k)) ≡ Some (said old.fact)
  fact_kept k old at marked =
      let new = at_new k old at marked in
      ap (option_map (λ (w : WhyStep). said w.fact)) (ap (slice_get news) (number_is k marked) ∙ new.1) ∙ ap (λ f. Some (said f)) new.2.fact

  -- ---- tables
  number_map : (table : List (Option ℕ)) (i : ℕ) → number_at (map (option_map (new_number numbers)) table) i ≡ option_map (new_number numbers) (number_at table i)
  number_map [] i = refl
  number_map (x ∷ table) zero = refl
  number_map (x ∷ table) (suc i) = number_map table i

  module _ (table : List (Option ℕ)) (within : AreWithin olds table) (has : HasNamed olds marks table) where
    abbrev renumbered : List (Option ℕ)
    renumbered = map (option_map (new_number numbers)) table

    step_at : (k : ℕ) → k < length olds → (step : WhyStep) × (slice_get olds k ≡ Some step)
    step_at k low = go olds k low
      where
        go : (steps : List WhyStep) (j : ℕ) → j < length steps → (step : WhyStep) × (slice_get steps j ≡ Some step)
        go [] j lt = absurd (omega arith)
        go (w ∷ steps) zero lt = (w, refl)
        go (w ∷ steps) (suc j) lt = go steps j (omega arith)

    pub within_kept : AreWithin news renumbered
    within_kept i n is = go (number_at table i) refl (sym (number_map table i) ∙ is)
      where
        go : (x : Option ℕ) → x ≡ number_at table i → option_map (new_number numbers) x ≡ Some n → n < length news
        go None same some = absurd (none-some n some)
        go (Some k) same some =
            let low = within i k (sym same) in
            let old = step_at k low in
            let marked = has i k (sym same) low in
            let new = at_new k old.0 old.1 marked in
            let number = sym (number_is k marked) ∙ same_Some (new_number numbers k) n some in
            slice_get_within news n new.0 (subst (λ m. slice_get news m ≡ Some new.0) number new.1)

    pub table_kept : SaysTheSame olds table news renumbered
    table_kept = record {
      count = length-map table (option_map (new_number numbers));
      none = λ i none. number_map table i ∙ ap (option_map (new_number numbers)) none;
      same = λ i f is. ap (fact_at news) (number_map table i) ∙ go i f (number_at table i) refl is;
    }
      where
        go : (i : ℕ) (f : Fact) (x : Option ℕ) → x ≡ number_at table i → fact_at olds x ≡ Some f → fact_at news (option_map (new_number numbers) x) ≡ Some f
        go i f None same is = absurd (none-some f is)
        go i f (Some k) same is =
            let low = within i k (sym same) in
            let old = step_at k low in
            let marked = has i k (sym same) low in
            fact_kept k old.0 old.1 marked ∙ ap (option_map (λ (w : WhyStep). said w.fact)) (sym old.1) ∙ is

-- ---- what one step stands on
module _ (steps : List WhyStep) (last : ℕ) (none marks : List Bool) (numbers : List ℕ) (news : List WhyStep) (s : System) (slice : List ℕ) (p : Inputs) (right : AreRight s slice p steps (length steps)) (there : last < length steps) (unmarked : (k : ℕ) → is_marked none k ≡ false) (from : NamesEarlier steps → last < length steps → IsMarkedFrom steps last none marks) (are : AreNumbers marks numbers) (kept : AreKept numbers marks steps news) where
  earlier : NamesEarlier steps
  earlier = names_earlier s slice p steps right

  marked : IsMarkedFrom steps last none marks
  marked = from earlier there

  own : IsRight s slice p steps last
  own = right last there

  abbrev place : ℕ
  place = marked_before marks last

  -- no step comes after the last one
  no_later : suc place < length news → ⊥
  no_later low =
      let found = placed numbers marks steps news kept (suc place) low in
      let le = none_after steps last none marks earlier unmarked marked found.0 found.3 in
      let is = found.4 in
      elim (cases_lt found.0 last) [
        | inl before ↦ let less = before_grows marks found.0 last before found.3 in absurd (omega arith)
        | inr late ↦
            let same : found.0 ≡ last = omega arith in
            let number = ap (marked_before marks) same in
            absurd (omega arith)
      ]

  used_kept : AreUsed news
  used_kept n low =
      let found = placed numbers marks steps news kept n (omega arith) in
      let k = found.0 in
      elim (last_or_named steps last none marks earlier unmarked marked k found.3) [
        | inl same ↦
            let number : place ≡ n = sym (ap (marked_before marks) same) ∙ found.4 in
            absurd (no_later (subst (λ m. suc m < length news) (sym number) low))
        | inr (j, g, m) ↦
            let new = at_new marks numbers steps news are kept j g.step g.is m in
            let before = earlier.each j g.step g.is k g.names in
            let number = number_is marks numbers steps news are kept k found.3 ∙ found.4 in
            let mapped = map_contains (new_number numbers) g.step.by.items k g.names in
            record {
              number = marked_before marks j;
              later = subst (λ i. i < marked_before marks j) found.4 (before_grows marks k j before found.3);
              step = new.0;
              is = new.1;
              names = subst (λ by. Contains by n) (sym new.2.by) (subst (Contains (map (new_number numbers) g.step.by.items)) number mapped);
            }
      ]

  pub ends_kept : EndsInFact s slice p steps last news
  ends_kept =
      let new = at_new marks numbers steps news are kept last own.step own.is marked.first in
      let low = slice_get_within news place new.0 new.1 in
      record {
        right = right_kept marks numbers steps news are kept marked.grounds s slice p right;
        used = used_kept;
        number = place;
        ends = elim (cases_lt (suc place) (length news)) [
          | inl more ↦ absurd (no_later more)
          | inr end ↦ omega arith
        ];
        fact =
            ap (λ n. fact_at news (Some n)) (sym (number_is marks numbers steps news are kept last marked.first))
            ∙ fact_kept marks numbers steps news are kept last own.step own.is marked.first
            ∙ ap (option_map (λ (w : WhyStep). said w.fact)) (sym own.is);
      }

-- ---- a draft
pub draft_kept : (marks : List Bool) (old new : Draft) → (NamesEarlier old.steps.items → HasKnown old marks) → KeepsMarked marks old new → IsPruned old new
draft_kept marks old new known keeps s slice p draft =
    let has = known (names_earlier s slice p old.steps.items draft.right) in
    let olds = old.steps.items in
    let news = new.steps.items in
    let numbers = keeps.numbers in (
      record {
        right = right_kept marks numbers olds news keeps.are keeps.steps has.grounds s slice p draft.right;
        latest = subst (AreWithin news) (sym keeps.latest) (within_kept marks numbers olds news keeps.are keeps.steps old.latest.numbers.items draft.latest has.latest);
        quiet = subst (AreWithin news) (sym keeps.quiet) (within_kept marks numbers olds news keeps.are keeps.steps old.quiet.numbers.items draft.quiet has.quiet);
        pending = subst (AreWithin news) (sym keeps.pending) (within_kept marks numbers olds news keeps.are keeps.steps old.pending.numbers.items draft.pending has.pending);
      },
      record {
        latest = subst (SaysTheSame olds old.latest.numbers.items news) (sym keeps.latest) (table_kept marks numbers olds news keeps.are keeps.steps old.latest.numbers.items draft.latest has.latest);
        quiet = subst (SaysTheSame olds old.quiet.numbers.items news) (sym keeps.quiet) (table_kept marks numbers olds news keeps.are keeps.steps old.quiet.numbers.items draft.quiet has.quiet);
        pending = subst (SaysTheSame olds old.pending.numbers.items news) (sym keeps.pending) (table_kept marks numbers olds news keeps.are keeps.steps old.pending.numbers.items draft.pending has.pending);
        here_count = ap (λ (k : Known). length k.numbers.items) keeps.here;
      },
    )

-- nothing is left out
pub draft_same : (old : Draft) → IsPruned old old
draft_same old s slice p draft = (draft, record { latest = same old.latest; quiet = same old.quiet; pending = same old.pending; here_count = refl })
  where
    same : (k : Known) → SaysTheSame old.steps.items k.numbers.items old.steps.items k.numbers.items
    same k = record { count = refl; none = λ i none. none; same = λ i f is. is }

-- ---- one step after another
module _ (numbers : List ℕ) (marks : List Bool) (olds kept : List WhyStep) (n : ℕ) (step : WhyStep) (many : length marks ≡ length olds) (lt : n < length olds) (is : step ≡ get_or olds n step) (before : (rest : List WhyStep) → AreKept numbers (drop n marks) (drop n olds) rest → AreKept numbers marks olds (kept ++ rest)) where
  mark_left : (b : Bool) → is_marked marks n ≡ b → drop n marks ≡ b ∷ drop (n + 1) marks
  mark_left b at = left_at marks n b (omega arith) (sym at ∙ get_or_default marks n false b (omega arith))

  pub keep_marked : (new : WhyStep) → is_marked marks n ≡ true → IsRenumbered numbers step new → (rest : List WhyStep) → AreKept numbers (drop (n + 1) marks) (drop (n + 1) olds) rest → AreKept numbers marks olds ((kept ++ new ∷ []) ++ rest)
  keep_marked new marked same rest are =
      subst (AreKept numbers marks olds) (sym (append_assoc kept (new ∷ []) rest))
      (before (new ∷ rest) (subst (λ ms. AreKept numbers ms (drop n olds) (new ∷ rest)) (sym (mark_left true marked))
      (subst (λ os. AreKept numbers (true ∷ drop (n + 1) marks) os (new ∷ rest)) (sym (left_at olds n step lt is)) (pruned.AreKept.kept same are))))

  pub leave_other : is_marked marks n ≡ false → (rest : List WhyStep) → AreKept numbers (drop (n + 1) marks) (drop (n + 1) olds) rest → AreKept numbers marks olds (kept ++ rest)
  leave_other none rest are =
      before rest (subst (λ ms. AreKept numbers ms (drop n olds) rest) (sym (mark_left false none))
      (subst (λ os. AreKept numbers (false ∷ drop (n + 1) marks) os rest) (sym (left_at olds n step lt is)) (pruned.AreKept.left are)))

-- the step of a place, by the pair of both
pub pair_at : (steps : List WhyStep) (n : ℕ) (x : ℕ × WhyStep) → (n < length (enumerate_from 0 steps)) × (x ≡ get_or (enumerate_from 0 steps) n x) → (n < length steps) × (x.0 ≡ n) × (x.1 ≡ get_or steps n x.1)
pair_at steps n x (low, is) =
    let long = length-enumerate_from 0 steps in
    let lt : n < length steps = omega (arith, low, long) in
    let pair = is ∙ get_or-enumerate_from 0 steps n x lt in
    (lt, ap (λ p. p.0) pair ∙ zero-add n, ap (λ p. p.1) pair)

pub kept_end : (numbers : List ℕ) (marks : List Bool) (olds kept : List WhyStep) (n : ℕ) → length marks ≡ length olds → length olds ≤ n → ((rest : List WhyStep) → AreKept numbers (drop n marks) (drop n olds) rest → AreKept numbers marks olds (kept ++ rest)) → AreKept numbers marks olds kept
kept_end numbers marks olds kept n many past before =
    subst (AreKept numbers marks olds) (append-nil kept)
    (before [] (subst (λ ms. AreKept numbers ms (drop n olds) []) (sym (drop_all n marks (omega arith)))
    (subst (λ os. AreKept numbers [] os []) (sym (drop_all n olds past)) pruned.AreKept.done)))

-- ---- new numbers
pub before_yes : (marks : List Bool) (i : ℕ) → i < length marks → get_or marks i false ≡ true → marked_before marks (suc i) ≡ suc (marked_before marks i)
before_yes [] i low marked = absurd (omega arith)
before_yes (true ∷ marks) zero low marked = refl
before_yes (false ∷ marks) zero low marked = absurd (false≢true marked)
before_yes (true ∷ marks) (suc i) low marked = ap suc (before_yes marks i (omega arith) marked)
before_yes (false ∷ marks) (suc i) low marked = before_yes marks i (omega arith) marked

pub before_no : (marks : List Bool) (i : ℕ) → i < length marks → get_or marks i false ≡ false → marked_before marks (suc i) ≡ marked_before marks i
before_no [] i low none = absurd (omega arith)
before_no (true ∷ marks) zero low none = absurd (false≢true (sym none))
before_no (false ∷ marks) zero low none = refl
before_no (true ∷ marks) (suc i) low none = ap suc (before_no marks i (omega arith) none)
before_no (false ∷ marks) (suc i) low none = before_no marks i (omega arith) none

pub numbers_push : (xs : List ℕ) (x : ℕ) (f : ℕ → ℕ) → ((k n : ℕ) → slice_get xs k ≡ Some n → n ≡ f k) → x ≡ f (length xs) → (k n : ℕ) → slice_get (xs ++ x ∷ []) k ≡ Some n → n ≡ f k
numbers_push [] x f each is zero n at = sym (same_Some x n at) ∙ is
numbers_push [] x f each is (suc k) n at = absurd (none-some n at)
numbers_push (y ∷ ys) x f each is zero n at = each zero n at
numbers_push (y ∷ ys) x f each is (suc k) n at = numbers_push ys x (λ j. f (suc j)) (λ j m. each (suc j) m) is k n at
