-- Pairs and marks that are added one after the other.
use Rattle.std.proofs.Common.{◌≡◌, ◌==◌, ◌||◌, ◌⊎◌, ℕ, zero, suc, ◌+◌, ◌<◌, Bool, true, false, List, [], ◌∷◌, ◌++◌, length, take, replicate, get_or, set, refl, sym, ap, subst, ◌∙◌, inl, inr, arith, get_or-set_same, get_or-set_other}
use Rattle.std.specs.Prelude.{◌↔◌, IsTrue}
use Rattle.std.specs.List.{Contains}
use Rattle.std.proofs.lemmas.Bool.{cases_lt, cases_eq, false≢true, or_left, or_right, eq-eqb, ne_eqb}
use Rattle.std.proofs.Math.Bool.{or-false}
use Rattle.std.proofs.lemmas.List.Folds.{list_any-append}
use Rattle.std.proofs.lemmas.List.{take_more, length-replicate, length-set}
use Rattle.std.proofs.Math.Seq.{take-length}
use Rattle.std.proofs.lemmas.List.Elements.{Contains-append_left, Contains-append_right, Contains-push_cases}
use Rattle.flat_core.specs.inner.Marks.{has_mark}
use Rattle.flat_core.specs.Members.{is_in}
use Rattle.flat_core.proofs.MarkLemmas.{unmarked, mark_within}
use Rattle.flat_core.proofs.Members.{Contains-in, in-Contains}
use Rattle.translation_order.specs.Order.{Before, AreOfSteps}
use Rattle.tsl_value.proofs.Lists.{here, none_in_nil}
use Rattle.alias_paths.specs.inner.Pairs.{ArePairs, Adds, IsWanted, IsGiven, IsKeyBelow, AreTurned}
use Rattle.alias_paths.specs.inner.Search.{AreMarkedIn}
use Rattle.alias_paths.specs.inner.Marking.{AreJust, AddsMarks, IsChosen, HasMarkedSecond, HasMarkedFirst, IsMarkedBy}

-- ---- lists

pub last_of : {X : Type 0} (xs : List X) (x : X) → Contains (xs ++ x ∷ []) x
last_of xs x = Contains-append_right xs (x ∷ []) x (here x [])

-- an item of the front with one more is one of the front or the last
pub front_cases : {X : Type 0} (xs : List X) (k : ℕ) (x : X) → k < length xs → x ≡ get_or xs k x → (y : X) → Contains (take (k + 1) xs) y → Contains (take k xs) y ⊎ (x ≡ y)
front_cases {X} xs k x lt is y c =
    Contains-push_cases (take k xs) x y (subst (λ (zs : List X). Contains zs y) (take_more xs k x lt ∙ ap (λ z. take k xs ++ z ∷ []) (sym is)) c)

pub front_on : {X : Type 0} (xs : List X) (k : ℕ) (x : X) → k < length xs → x ≡ get_or xs k x → (y : X) → Contains (take k xs) y → Contains (take (k + 1) xs) y
front_on {X} xs k x lt is y c =
    subst (λ (zs : List X). Contains zs y) (sym (take_more xs k x lt ∙ ap (λ z. take k xs ++ z ∷ []) (sym is))) (Contains-append_left (take k xs) (x ∷ []) y c)

pub front_last : {X : Type 0} (xs : List X) (k : ℕ) (x : X) → k < length xs → x ≡ get_or xs k x → Contains (take (k + 1) xs) x
front_last {X} xs k x lt is =
    subst (λ (zs : List X). Contains zs x) (sym (take_more xs k x lt ∙ ap (λ z. take k xs ++ z ∷ []) (sym is))) (last_of (take k xs) x)

-- an item is read in whatever place of its list
pub read_again : {X : Type 0} (xs : List X) (k : ℕ) (d : X) → k < length xs → get_or xs k d ≡ get_or xs k (get_or xs k d)
read_again [] k d lt = absurd (omega arith)
read_again (x ∷ xs) zero d lt = refl
read_again (x ∷ xs) (suc k) d lt = read_again xs k d (omega arith)

-- ---- pairs

pub adds_none : (old : List (ℕ × ℕ)) (P : ℕ → ℕ → Type 0) → ((a b : ℕ) → P a b → ⊥) → Adds old P old
adds_none old P none = record { kept = λ a b h. h; there = λ a b h. absurd (none a b h); from = λ a b h. inl h }

pub adds_pushed : (old new : List (ℕ × ℕ)) (x y : ℕ) → new ≡ old ++ (x, y) ∷ [] → Adds old (IsWanted true x y) new
adds_pushed old new x y is = record {
  kept = λ a b h. subst (λ l. Before l a b) (sym is) (Contains-append_left old ((x, y) ∷ []) (a, b) h);
  there = λ a b w. subst (λ l. Before l a b) (sym is) (subst (Contains (old ++ (x, y) ∷ [])) (λ k. (sym w.first k, sym w.second k)) (last_of old (x, y)));
  from = λ a b h.
      elim (Contains-push_cases old (x, y) (a, b) (subst (λ l. Before l a b) is h)) [
        | inl before ↦ inl before
        | inr same ↦ inr (record { is_wanted = refl; first = sym (ap (λ (q : ℕ × ℕ). q.0) same); second = sym (ap (λ (q : ℕ × ℕ). q.1) same) })
      ];
}

-- the same pairs under another name
pub adds_as : (old : List (ℕ × ℕ)) (P Q : ℕ → ℕ → Type 0) (new : List (ℕ × ℕ)) → Adds old P new → ((a b : ℕ) → P a b → Q a b) → ((a b : ℕ) → Q a b → P a b) → Adds old Q new
adds_as old P Q new h to from = record {
  kept = h.kept;
  there = λ a b q. h.there a b (from a b q);
  from = λ a b c. elim (h.from a b c) [ inl before ↦ inl before | inr p ↦ inr (to a b p) ];
}

pub adds_then : (old mid new : List (ℕ × ℕ)) (P Q R : ℕ → ℕ → Type 0) → Adds old P mid → Adds mid Q new → ((a b : ℕ) → P a b → R a b) → ((a b : ℕ) → Q a b → R a b) → ((a b : ℕ) → R a b → P a b ⊎ Q a b) → Adds old R new
adds_then old mid new P Q R first second left right cases = record {
  kept = λ a b h. second.kept a b (first.kept a b h);
  there = λ a b r. elim (cases a b r) [ inl p ↦ second.kept a b (first.there a b p) | inr q ↦ second.there a b q ];
  from = λ a b c.
      elim (second.from a b c) [
        | inl m ↦ elim (first.from a b m) [ inl before ↦ inl before | inr p ↦ inr (left a b p) ]
        | inr q ↦ inr (right a b q)
      ];
}

module _ {X : Type 0} (items : List X) (Gives : X → ℕ → ℕ → Type 0) where
  pub given_none : (old : List (ℕ × ℕ)) → Adds old (IsGiven (take 0 items) Gives) old
  given_none old = adds_none old (IsGiven (take 0 items) Gives) (λ a b g. none_in_nil g.item g.among)

  -- one more item
  pub given_more : (k : ℕ) (x : X) (old mid new : List (ℕ × ℕ)) → k < length items → x ≡ get_or items k x → Adds old (IsGiven (take k items) Gives) mid → Adds mid (Gives x) new → Adds old (IsGiven (take (k + 1) items) Gives) new
  given_more k x old mid new lt is first second =
      adds_then old mid new (IsGiven (take k items) Gives) (Gives x) (IsGiven (take (k + 1) items) Gives) first second
      (λ a b g. record { item = g.item; among = front_on items k x lt is g.item g.among; gives = g.gives })
      (λ a b g. record { item = x; among = front_last items k x lt is; gives = g })
      (λ a b g.
      elim (front_cases items k x lt is g.item g.among) [
        | inl before ↦ inl (record { item = g.item; among = before; gives = g.gives })
        | inr last ↦ inr (subst (λ (z : X). Gives z a b) (sym last) g.gives)
      ])

module _ (key : ℕ → ℕ → ℕ) (P : ℕ → ℕ → Type 0) where
  pub keyed_none : (old : List (ℕ × ℕ)) → Adds old (IsKeyBelow key 0 P) old
  keyed_none old = adds_none old (IsKeyBelow key 0 P) (λ a b g. let low = g.low in absurd (omega arith))

  -- the pairs of one more key
  pub keyed_next : (Q : ℕ → ℕ → Type 0) (k : ℕ) (old mid new : List (ℕ × ℕ)) → Adds old (IsKeyBelow key k P) mid → Adds mid Q new → ((a b : ℕ) → Q a b → (key a b ≡ k) × P a b) → ((a b : ℕ) → key a b ≡ k → P a b → Q a b) → Adds old (IsKeyBelow key (k + 1) P) new
  keyed_next Q k old mid new first second to from =
      adds_then old mid new (IsKeyBelow key k P) Q (IsKeyBelow key (k + 1) P) first second
      (λ a b g. let low = g.low in record { low = omega arith; has = g.has })
      (λ a b q. let is = (to a b q).0 in record { low = omega arith; has = (to a b q).1 })
      (λ a b g.
      elim (cases_lt (key a b) k) [
        | inl less ↦ inl (record { low = less; has = g.has })
        | inr not_less ↦ let low = g.low in inr (from a b (omega arith) g.has)
      ])

  pub keyed_all : (k : ℕ) (old new : List (ℕ × ℕ)) → ((a b : ℕ) → P a b → key a b < k) → Adds old (IsKeyBelow key k P) new → Adds old P new
  keyed_all k old new low h = adds_as old (IsKeyBelow key k P) P new h (λ a b g. g.has) (λ a b p. record { low = low a b p; has = p })

pub pairs_of : (P : ℕ → ℕ → Type 0) (pairs : List (ℕ × ℕ)) → Adds [] P pairs → ArePairs P pairs
pairs_of P pairs h = record { each = λ a b. (λ c. elim (h.from a b c) [ inl before ↦ absurd (none_in_nil (a, b) before) | inr p ↦ p ], h.there a b) }

-- all pairs of a relation are pairs of steps where it holds of such alone
pub of_steps_from : (n : ℕ) (pairs : List (ℕ × ℕ)) → ((a b : ℕ) → Before pairs a b → (a < n) × (b < n)) → AreOfSteps n pairs
of_steps_from n pairs each k d lt = let p = get_or pairs k d in each p.0 p.1 (k, lt, sym (read_again pairs k d lt))

-- ---- marks

pub marks_none : (old : List Bool) (P : ℕ → Type 0) → ((x : ℕ) → P x → ⊥) → AddsMarks old P old
marks_none old P none = record { one_each = refl; kept = λ x h. h; there = λ x h. absurd (none x h); from = λ x h. inl h }

pub marks_one : (old : List Bool) (number : ℕ) → number < length old → AddsMarks old (IsChosen true number) (set old number true)
marks_one old number lt = record {
  one_each = length-set old number true;
  kept = λ x h. elim (cases_eq x number) [
    | inl same ↦ ap (has_mark (set old number true)) same ∙ get_or-set_same old number true false lt
    | inr other ↦ get_or-set_other old number x true false other ∙ h
  ];
  there = λ x c. ap (has_mark (set old number true)) c.is ∙ get_or-set_same old number true false lt;
  from = λ x h. elim (cases_eq x number) [
    | inl same ↦ inr (record { is_wanted = refl; is = same })
    | inr other ↦ inl (sym (get_or-set_other old number x true false other) ∙ h)
  ];
}

pub marks_as : (old : List Bool) (P Q : ℕ → Type 0) (new : List Bool) → AddsMarks old P new → ((x : ℕ) → P x → Q x) → ((x : ℕ) → Q x → P x) → AddsMarks old Q new
marks_as old P Q new h to from = record {
  one_each = h.one_each;
  kept = h.kept;
  there = λ x q. h.there x (from x q);
  from = λ x c. elim (h.from x c) [ inl before ↦ inl before | inr p ↦ inr (to x p) ];
}

pub marks_then : (old mid new : List Bool) (P Q R : ℕ → Type 0) → AddsMarks old P mid → AddsMarks mid Q new → ((x : ℕ) → P x → R x) → ((x : ℕ) → Q x → R x) → ((x : ℕ) → R x → P x ⊎ Q x) → AddsMarks old R new
marks_then old mid new P Q R first second left right cases = record {
  one_each = second.one_each ∙ first.one_each;
  kept = λ x h. second.kept x (first.kept x h);
  there = λ x r. elim (cases x r) [ inl p ↦ second.kept x (first.there x p) | inr q ↦ second.there x q ];
  from = λ x c.
      elim (second.from x c) [
        | inl m ↦ elim (first.from x m) [ inl before ↦ inl before | inr p ↦ inr (left x p) ]
        | inr q ↦ inr (right x q)
      ];
}

module _ {X : Type 0} (items : List X) (Marks : X → ℕ → Type 0) where
  pub marked_none : (old : List Bool) → AddsMarks old (IsMarkedBy (take 0 items) Marks) old
  marked_none old = marks_none old (IsMarkedBy (take 0 items) Marks) (λ x m. none_in_nil m.item m.among)

  pub marked_more : (k : ℕ) (x : X) (old mid new : List Bool) → k < length items → x ≡ get_or items k x → AddsMarks old (IsMarkedBy (take k items) Marks) mid → AddsMarks mid (Marks x) new → AddsMarks old (IsMarkedBy (take (k + 1) items) Marks) new
  marked_more k x old mid new lt is first second =
      marks_then old mid new (IsMarkedBy (take k items) Marks) (Marks x) (IsMarkedBy (take (k + 1) items) Marks) first second
      (λ z m. record { item = m.item; among = front_on items k x lt is m.item m.among; marks = m.marks })
      (λ z m. record { item = x; among = front_last items k x lt is; marks = m })
      (λ z m.
      elim (front_cases items k x lt is m.item m.among) [
        | inl before ↦ inl (record { item = m.item; among = before; marks = m.marks })
        | inr last ↦ inr (subst (λ (y : X). Marks y z) (sym last) m.marks)
      ])

-- of no marks at first
pub just_added : (count : ℕ) (P : ℕ → Type 0) (old new : List Bool) → old ≡ replicate count false → length old ≡ count → AddsMarks old P new → AreJust count P new
just_added count P old new none size h = record {
  one_each = h.one_each ∙ size;
  each = λ x. (λ m. elim (h.from x m) [ inl before ↦ absurd (false≢true (sym (unmarked old count x none) ∙ before)) | inr p ↦ p ], h.there x);
}

pub marked_low : (marks : List Bool) (count x : ℕ) → length marks ≡ count → IsTrue (has_mark marks x) → x < count
marked_low marks count x size h = let low = mark_within marks x h in omega arith

-- ---- marks by pairs

abbrev pub MarksFirst : List Bool → ℕ × ℕ → ℕ → Type 0
MarksFirst seconds p x = IsChosen (has_mark seconds p.1) p.0 x

abbrev pub MarksSecond : List Bool → ℕ × ℕ → ℕ → Type 0
MarksSecond firsts p x = IsChosen (has_mark firsts p.0) p.1 x

all_taken : {X : Type 0} (xs : List X) (n : ℕ) → n ≡ length xs → take n xs ≡ xs
all_taken xs n is = ap (λ m. take m xs) is ∙ take-length xs

pub firsts_marked : (pairs : List (ℕ × ℕ)) (n : ℕ) (seconds old new : List Bool) → n ≡ length pairs → AddsMarks old (IsMarkedBy (take n pairs) (MarksFirst seconds)) new → AddsMarks old (HasMarkedSecond pairs seconds) new
firsts_marked pairs n seconds old new all h =
    marks_as old (IsMarkedBy (take n pairs) (MarksFirst seconds)) (HasMarkedSecond pairs seconds) new h
    (λ x m.
    let p = m.item in
    record {
      second = p.1;
      among = subst (λ zs. Contains zs (x, p.1)) (all_taken pairs n all) (subst (λ z. Contains (take n pairs) (z, p.1)) (sym m.marks.is) m.among);
      marked = m.marks.is_wanted;
    })
    (λ x m. record { item = (x, m.second); among = subst (λ zs. Contains zs (x, m.second)) (sym (all_taken pairs n all)) m.among; marks = record { is_wanted = m.marked; is = refl } })

pub seconds_marked : (pairs : List (ℕ × ℕ)) (n : ℕ) (firsts old new : List Bool) → n ≡ length pairs → AddsMarks old (IsMarkedBy (take n pairs) (MarksSecond firsts)) new → AddsMarks old (HasMarkedFirst pairs firsts) new
seconds_marked pairs n firsts old new all h =
    marks_as old (IsMarkedBy (take n pairs) (MarksSecond firsts)) (HasMarkedFirst pairs firsts) new h
    (λ x m.
    let p = m.item in
    record {
      first = p.0;
      among = subst (λ zs. Contains zs (p.0, x)) (all_taken pairs n all) (subst (λ z. Contains (take n pairs) (p.0, z)) (sym m.marks.is) m.among);
      marked = m.marks.is_wanted;
    })
    (λ x m. record { item = (m.first, x); among = subst (λ zs. Contains zs (m.first, x)) (sym (all_taken pairs n all)) m.among; marks = record { is_wanted = m.marked; is = refl } })

-- ---- turned pairs

pub turned_none : AreTurned [] []
turned_none = record { each = λ a b. (λ c. absurd (none_in_nil (a, b) c), λ c. absurd (none_in_nil (b, a) c)) }

pub turned_more : (pairs turned new : List (ℕ × ℕ)) (k : ℕ) (p : ℕ × ℕ) → k < length pairs → p ≡ get_or pairs k p → AreTurned (take k pairs) turned → new ≡ turned ++ (p.1, p.0) ∷ [] → AreTurned (take (k + 1) pairs) new
turned_more pairs turned new k p lt is before pushed = record {
  each = λ a b. (
    (λ c. elim (Contains-push_cases turned (p.1, p.0) (a, b) (subst (λ l. Before l a b) pushed c)) [
      | inl old ↦ front_on pairs k p lt is (b, a) ((before.each a b).0 old)
      | inr same ↦ subst (Contains (take (k + 1) pairs)) (λ i. ((same i).1, (same i).0)) (front_last pairs k p lt is)
    ]),
    (λ c. subst (λ l. Before l a b) (sym pushed) (elim (front_cases pairs k p lt is (b, a) c) [
      | inl old ↦ Contains-append_left turned ((p.1, p.0) ∷ []) (a, b) ((before.each a b).1 old)
      | inr same ↦ subst (λ (q : ℕ × ℕ). Contains (turned ++ (p.1, p.0) ∷ []) (q.1, q.0)) same (last_of turned (p.1, p.0))
    ])),
  );
}

-- ---- marks of the numbers in a list

pub none_long : (count : ℕ) (old : List Bool) → old ≡ replicate count false → length old ≡ count
none_long count old none = ap length none ∙ length-replicate count false

-- x is this number, and has the property
pub record IsIt (P : ℕ → Type 0) (number x : ℕ) : Type 0 where
  pub is : x ≡ number
  pub has : P x

pub listed_low : (marks : List Bool) (listed : List ℕ) (k number : ℕ) → AreMarkedIn marks listed → k < length listed → number ≡ get_or listed k number → IsTrue (has_mark marks number)
listed_low marks listed k number are lt is = sym (are number) ∙ in-Contains listed number (k, lt, sym is)

-- one more number is marked and listed
pub listed_pushed : (marks : List Bool) (listed new : List ℕ) (number : ℕ) → number < length marks → new ≡ listed ++ number ∷ [] → AreMarkedIn marks listed → AreMarkedIn (set marks number true) new
listed_pushed marks listed new number lt pushed are i =
    ap (λ l. is_in l i) pushed ∙ list_any-append (λ j. j == i) listed (number ∷ []) ∙ elim (cases_eq i number) [
      | inl same ↦
          let here : (number == i) ≡ true = eq-eqb number i (sym same) in
          or_right (is_in listed i) ((number == i) || false) (or_left (number == i) false here) ∙ sym (ap (has_mark (set marks number true)) same ∙ get_or-set_same marks number true false lt)
      | inr other ↦
          let away : (number == i) ≡ false = ne_eqb number i (λ same. other (sym same)) in
          ap (λ b. is_in listed i || (b || false)) away ∙ or-false (is_in listed i) ∙ are i ∙ sym (get_or-set_other marks number i true false other)
    ]

module _ (P : ℕ → Type 0) (listed : List ℕ) where
  pub listed_more : (k number : ℕ) (wanted : Bool) (old mid new : List Bool) → k < length listed → number ≡ get_or listed k number → IsTrue wanted ↔ P number → AddsMarks old (IsMarkedBy (take k listed) (IsIt P)) mid → AddsMarks mid (IsChosen wanted number) new → AddsMarks old (IsMarkedBy (take (k + 1) listed) (IsIt P)) new
  listed_more k number wanted old mid new lt is exact first second =
      marked_more listed (IsIt P) k number old mid new lt is first
      (marks_as mid (IsChosen wanted number) (IsIt P number) new second
      (λ x c. record { is = c.is; has = subst P (sym c.is) (exact.0 c.is_wanted) })
      (λ x i. record { is_wanted = exact.1 (subst P i.is i.has); is = i.is }))

  pub listed_all : (marks : List Bool) (k count : ℕ) (old new : List Bool) → k ≡ length listed → AreMarkedIn marks listed → ((x : ℕ) → P x → IsTrue (has_mark marks x)) → old ≡ replicate count false → AddsMarks old (IsMarkedBy (take k listed) (IsIt P)) new → AreJust count P new
  listed_all marks k count old new all are low none h =
      just_added count P old new none (none_long count old none)
      (marks_as old (IsMarkedBy (take k listed) (IsIt P)) P new h
      (λ x m. m.marks.has)
      (λ x p. record {
        item = x;
        among = subst (λ zs. Contains zs x) (sym (all_taken listed k all)) (Contains-in listed x (are x ∙ low x p));
        marks = record { is = refl; has = p };
      }))

-- the first marks that are added to none
pub first_added : (count : ℕ) (P : ℕ → Type 0) (old new : List Bool) → old ≡ replicate count false → AddsMarks old P new → AreJust count P new
first_added count P old new none h = just_added count P old new none (none_long count old none) h
