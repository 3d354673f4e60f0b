-- Counts of pairs that wait.
use Rattle.std.proofs.Common.{◌≡◌, ℕ, ◌+◌, ◌<◌, ◌≤◌, Bool, true, false, cond, not, ◌&&◌, ◌||◌, List, [], ◌∷◌, ◌++◌, length, get_or, set, eqb, Contains, refl, sym, ap, subst, ◌∙◌, inl, inr, get_or-set_same, get_or-set_other, length-set, append-nil, take, drop, take-append-drop, length-take, arith}
use Rattle.std.proofs.lemmas.Bool.{cases_Bool, cases_eq, or_left, or_right, false≢true, true≢false, eqb-true, eqb-false, eq-eqb, ne_eqb, and_left, and_right, and_from, not_from_true}
use Rattle.std.proofs.lemmas.List.{take_more, drop_more, get_or_read}
use Rattle.std.proofs.lemmas.List.Folds.{list_any-append}
use Rattle.std.specs.List.{list_any}
use Rattle.translation_order.specs.Order.{Before, AreOfSteps}
use Rattle.translation_order.specs.inner.Taking.{one_if, is_one_of, times, seconds_of, waiting, AreSeconds, AreWaits}
use Rattle.tsl_value.proofs.Lists.{here, later, none_in_nil, cons_cases}

pub or_none : (b : Bool) → (b || false) ≡ b
or_none true = refl
or_none false = refl

cond_push : (b : Bool) (z : ℕ) (u v w : List ℕ) → u ≡ v ++ w → cond b (z ∷ u) u ≡ cond b (z ∷ v) v ++ w
cond_push true z u v w e = ap (λ l. z ∷ l) e
cond_push false z u v w e = e

pub seconds_push : (pairs : List (ℕ × ℕ)) (p : ℕ × ℕ) (a : ℕ) → seconds_of (pairs ++ p ∷ []) a ≡ seconds_of pairs a ++ cond (eqb a p.0) (p.1 ∷ []) []
seconds_push [] p a = refl
seconds_push (q ∷ pairs) p a = cond_push (eqb a q.0) q.1 (seconds_of (pairs ++ p ∷ []) a) (seconds_of pairs a) (cond (eqb a p.0) (p.1 ∷ []) []) (seconds_push pairs p a)

pub waiting_push : (listed : List ℕ) (pairs : List (ℕ × ℕ)) (p : ℕ × ℕ) (x : ℕ) → waiting listed (pairs ++ p ∷ []) x ≡ waiting listed pairs x + one_if (eqb x p.1 && not (is_one_of listed p.0))
waiting_push listed [] p x = omega arith
waiting_push listed (q ∷ pairs) p x = let rest = waiting_push listed pairs p x in omega arith

one_at_most : (b : Bool) → one_if b ≤ 1
one_at_most true = omega arith
one_at_most false = omega arith

pub waiting_few : (listed : List ℕ) (pairs : List (ℕ × ℕ)) (x : ℕ) → waiting listed pairs x ≤ length pairs
waiting_few listed [] x = omega arith
waiting_few listed (p ∷ pairs) x = let rest = waiting_few listed pairs x in let one = one_at_most (eqb x p.1 && not (is_one_of listed p.0)) in omega arith

-- ---- how many times
pub times_some : (x : ℕ) (xs : List ℕ) → list_any (eqb x) xs ≡ true → 0 < times x xs
times_some x [] h = absurd (false≢true h)
times_some x (y ∷ ys) h = elim (cases_Bool (eqb x y)) [
  | inl same ↦ let one : one_if (eqb x y) ≡ 1 = ap one_if same in omega arith
  | inr other ↦ let tail : list_any (eqb x) ys ≡ true = ap (λ b. b || list_any (eqb x) ys) (sym other) ∙ h in let rest = times_some x ys tail in omega arith
]

pub times_none : (x : ℕ) (xs : List ℕ) → list_any (eqb x) xs ≡ false → times x xs ≡ 0
times_none x [] h = refl
times_none x (y ∷ ys) h = elim (cases_Bool (eqb x y)) [
  | inl same ↦ absurd (true≢false (sym (or_left (eqb x y) (list_any (eqb x) ys) same) ∙ h))
  | inr other ↦
      let none : one_if (eqb x y) ≡ 0 = ap one_if other in
      let tail : list_any (eqb x) ys ≡ false = ap (λ b. b || list_any (eqb x) ys) (sym other) ∙ h in
      let rest = times_none x ys tail in omega arith
]

pub times_push : (x : ℕ) (xs : List ℕ) (y : ℕ) → times x (xs ++ y ∷ []) ≡ times x xs + one_if (eqb x y)
times_push x [] y = omega arith
times_push x (z ∷ zs) y = let rest = times_push x zs y in omega arith

pub times_front : (x : ℕ) (xs ys : List ℕ) → times x (xs ++ ys) ≡ times x xs + times x ys
times_front x [] ys = omega arith
times_front x (z ∷ zs) ys = let rest = times_front x zs ys in omega arith

-- ---- one more step is listed
pub listed_push : (listed : List ℕ) (a x : ℕ) → (a ≡ x → ⊥) → is_one_of (listed ++ a ∷ []) x ≡ is_one_of listed x
listed_push listed a x other =
    list_any-append (eqb x) listed (a ∷ []) ∙ ap (λ b. is_one_of listed x || (b || false)) (ne_eqb x a (λ same. other (sym same))) ∙ or_none (is_one_of listed x)

pub listed_last : (listed : List ℕ) (a : ℕ) → is_one_of (listed ++ a ∷ []) a ≡ true
listed_last listed a = list_any-append (eqb a) listed (a ∷ []) ∙ or_right (is_one_of listed a) (eqb a a || false) (or_left (eqb a a) false (eq-eqb a a refl))

pair_taken : (s e l m : Bool) (x z : ℕ) (rest : List ℕ) (w v : ℕ) → (e ≡ true → (l ≡ false) × (m ≡ true)) → (e ≡ false → m ≡ l) → s ≡ eqb x z → w ≡ v + times x rest → one_if (s && not l) + w ≡ one_if (s && not m) + v + times x (cond e (z ∷ rest) rest)
pair_taken true true l m x z rest w v same other is eq =
    let both = same refl in
    let was : one_if (not l) ≡ 1 = ap (λ b. one_if (not b)) both.0 in
    let now : one_if (not m) ≡ 0 = ap (λ b. one_if (not b)) both.1 in
    let one : one_if (eqb x z) ≡ 1 = ap one_if (sym is) in
    omega arith
pair_taken true false l m x z rest w v same other is eq =
    let kept : one_if (not m) ≡ one_if (not l) = ap (λ b. one_if (not b)) (other refl) in
    omega arith
pair_taken false true l m x z rest w v same other is eq =
    let none : one_if (eqb x z) ≡ 0 = ap one_if (sym is) in
    omega arith
pair_taken false false l m x z rest w v same other is eq = omega arith

pub waiting_listed : (listed : List ℕ) (a : ℕ) → is_one_of listed a ≡ false → (pairs : List (ℕ × ℕ)) (x : ℕ) → waiting listed pairs x ≡ waiting (listed ++ a ∷ []) pairs x + times x (seconds_of pairs a)
waiting_listed listed a new [] x = refl
waiting_listed listed a new (p ∷ pairs) x =
    pair_taken (eqb x p.1) (eqb a p.0) (is_one_of listed p.0) (is_one_of (listed ++ a ∷ []) p.0) x p.1 (seconds_of pairs a) (waiting listed pairs x) (waiting (listed ++ a ∷ []) pairs x)
    (λ e. let same : a ≡ p.0 = eqb-true a p.0 e in (ap (is_one_of listed) (sym same) ∙ new, ap (is_one_of (listed ++ a ∷ [])) (sym same) ∙ listed_last listed a))
    (λ e. listed_push listed a p.0 (eqb-false a p.0 e))
    refl (waiting_listed listed a new pairs x)

-- ---- waits, and pairs that are waited for
head_listed : (s l : Bool) → s ≡ true → one_if (s && not l) ≡ 0 → l ≡ true
head_listed true true is h = refl
head_listed true false is h = absurd (omega arith)
head_listed false l is h = absurd (false≢true is)

pub waiting_zero : (listed : List ℕ) (pairs : List (ℕ × ℕ)) (x : ℕ) → waiting listed pairs x ≡ 0 → (a : ℕ) → Before pairs a x → is_one_of listed a ≡ true
waiting_zero listed [] x h a c = absurd (none_in_nil (a, x) c)
waiting_zero listed (p ∷ pairs) x h a c = elim (cons_cases p (a, x) pairs c) [
  | inl same ↦
      let first : p.0 ≡ a = ap (λ (q : ℕ × ℕ). q.0) same in
      let second : x ≡ p.1 = sym (ap (λ (q : ℕ × ℕ). q.1) same) in
      let none : one_if (eqb x p.1 && not (is_one_of listed p.0)) ≡ 0 = omega arith in
      ap (is_one_of listed) (sym first) ∙ head_listed (eqb x p.1) (is_one_of listed p.0) (eq-eqb x p.1 second) none
  | inr rest ↦ waiting_zero listed pairs x (omega arith) a rest
]

pub waiting_none : (listed : List ℕ) (pairs : List (ℕ × ℕ)) (x : ℕ) → ((a : ℕ) → Before pairs a x → is_one_of listed a ≡ true) → waiting listed pairs x ≡ 0
waiting_none listed [] x all = refl
waiting_none listed (p ∷ pairs) x all =
    let rest = waiting_none listed pairs x (λ a c. all a (later p (a, x) pairs c)) in
    elim (cases_eq x p.1) [
      | inl same ↦
          let there : is_one_of listed p.0 ≡ true = all p.0 (subst (λ m. Contains (p ∷ pairs) (p.0, m)) (sym same) (here p pairs)) in
          let none : one_if (eqb x p.1 && not (is_one_of listed p.0)) ≡ 0 = ap one_if (and_right (eqb x p.1) (not (is_one_of listed p.0)) (not_from_true (is_one_of listed p.0) there)) in
          omega arith
      | inr other ↦
          let none : one_if (eqb x p.1 && not (is_one_of listed p.0)) ≡ 0 = ap one_if (and_left (eqb x p.1) (not (is_one_of listed p.0)) (ne_eqb x p.1 other)) in
          omega arith
    ]

-- a step that waits does so for a pair whose first is not listed
pub waiting_some : (listed : List ℕ) (pairs : List (ℕ × ℕ)) (x : ℕ) → 0 < waiting listed pairs x → (a : ℕ) × Before pairs a x × (is_one_of listed a ≡ false)
waiting_some listed [] x h = absurd (omega arith)
waiting_some listed (p ∷ pairs) x h = elim (cases_eq x p.1) [
  | inl same ↦ elim (cases_Bool (is_one_of listed p.0)) [
    | inl there ↦
        let none : one_if (eqb x p.1 && not (is_one_of listed p.0)) ≡ 0 = ap one_if (and_right (eqb x p.1) (not (is_one_of listed p.0)) (not_from_true (is_one_of listed p.0) there)) in
        let rest = waiting_some listed pairs x (omega arith) in (rest.0, later p (rest.0, x) pairs rest.1, rest.2)
    | inr out ↦ (p.0, subst (λ m. Contains (p ∷ pairs) (p.0, m)) (sym same) (here p pairs), out)
  ]
  | inr other ↦
      let none : one_if (eqb x p.1 && not (is_one_of listed p.0)) ≡ 0 = ap one_if (and_left (eqb x p.1) (not (is_one_of listed p.0)) (ne_eqb x p.1 other)) in
      let rest = waiting_some listed pairs x (omega arith) in (rest.0, later p (rest.0, x) pairs rest.1, rest.2)
]

-- ---- what the code counts
pub waits_more : (steps : ℕ) (pairs : List (ℕ × ℕ)) (p : ℕ × ℕ) (counts : List ℕ) → p.1 < steps → AreWaits steps pairs [] counts → AreWaits steps (pairs ++ p ∷ []) [] (set counts p.1 (get_or counts p.1 0 + 1))
waits_more steps pairs p counts below a = record {
  one_each = length-set counts p.1 (get_or counts p.1 0 + 1) ∙ a.one_each;
  at = λ x lt. let push = waiting_push [] pairs p x in let old = a.at x lt in let long = a.one_each in elim (cases_eq x p.1) [
    | inl same ↦
        let value : get_or (set counts p.1 (get_or counts p.1 0 + 1)) x 0 ≡ get_or counts p.1 0 + 1 = ap (λ j. get_or (set counts p.1 (get_or counts p.1 0 + 1)) j 0) same ∙ get_or-set_same counts p.1 (get_or counts p.1 0 + 1) 0 (omega arith) in
        let was : get_or counts x 0 ≡ get_or counts p.1 0 = ap (λ j. get_or counts j 0) same in
        let one : one_if (eqb x p.1 && not (is_one_of [] p.0)) ≡ 1 = ap one_if (and_from (eqb x p.1) (not (is_one_of [] p.0)) (eq-eqb x p.1 same) refl) in
        omega arith
    | inr other ↦
        let value : get_or (set counts p.1 (get_or counts p.1 0 + 1)) x 0 ≡ get_or counts x 0 = get_or-set_other counts p.1 x (get_or counts p.1 0 + 1) 0 other in
        let none : one_if (eqb x p.1 && not (is_one_of [] p.0)) ≡ 0 = ap one_if (and_left (eqb x p.1) (not (is_one_of [] p.0)) (ne_eqb x p.1 other)) in
        omega arith
  ];
}

pub seconds_more : (steps : ℕ) (pairs : List (ℕ × ℕ)) (p : ℕ × ℕ) (seconds : List (List ℕ)) → p.0 < steps → AreSeconds steps pairs seconds → AreSeconds steps (pairs ++ p ∷ []) (set seconds p.0 (get_or seconds p.0 [] ++ p.1 ∷ []))
seconds_more steps pairs p seconds below s = record {
  one_each = length-set seconds p.0 (get_or seconds p.0 [] ++ p.1 ∷ []) ∙ s.one_each;
  at = λ a lt. let long = s.one_each in elim (cases_eq a p.0) [
    | inl same ↦
        ap (λ j. get_or (set seconds p.0 (get_or seconds p.0 [] ++ p.1 ∷ [])) j []) same
        ∙ get_or-set_same seconds p.0 (get_or seconds p.0 [] ++ p.1 ∷ []) [] (omega arith)
        ∙ ap (λ l. l ++ p.1 ∷ []) (s.at p.0 below)
        ∙ ap (λ j. seconds_of pairs j ++ p.1 ∷ []) (sym same)
        ∙ sym (seconds_push pairs p a ∙ ap (λ b. seconds_of pairs a ++ cond b (p.1 ∷ []) []) (eq-eqb a p.0 same))
    | inr other ↦
        get_or-set_other seconds p.0 a (get_or seconds p.0 [] ++ p.1 ∷ []) [] other
        ∙ s.at a lt
        ∙ sym (seconds_push pairs p a ∙ ap (λ b. seconds_of pairs a ++ cond b (p.1 ∷ []) []) (ne_eqb a p.0 other) ∙ append-nil (seconds_of pairs a))
  ];
}

pub waits_at : (steps : ℕ) (pairs : List (ℕ × ℕ)) (i : ℕ) (counts : List ℕ) (n : ℕ) → AreOfSteps steps pairs → i < length pairs → AreWaits steps (take i pairs) [] counts → n ≡ get_or counts (get_or pairs i (0, 0)).1 n → AreWaits steps (take (i + 1) pairs) [] (set counts (get_or pairs i (0, 0)).1 (n + 1))
waits_at steps pairs i counts n of_steps lt a is =
    let p = get_or pairs i (0, 0) in
    let low : p.1 < steps = (of_steps i (0, 0) lt).1 in
    let long = a.one_each in
    let value : n ≡ get_or counts p.1 0 = get_or_read counts p.1 n (omega arith) is 0 in
    subst (λ v. AreWaits steps v [] (set counts p.1 (n + 1))) (sym (take_more pairs i (0, 0) lt)) (subst (λ m. AreWaits steps (take i pairs ++ p ∷ []) [] (set counts p.1 (m + 1))) (sym value) (waits_more steps (take i pairs) p counts low a))

-- a count stays below the number of pairs
pub waits_fit : (steps : ℕ) (pairs : List (ℕ × ℕ)) (i : ℕ) (counts : List ℕ) (n : ℕ) → AreOfSteps steps pairs → i < length pairs → AreWaits steps (take i pairs) [] counts → n ≡ get_or counts (get_or pairs i (0, 0)).1 n → n ≤ i
waits_fit steps pairs i counts n of_steps lt a is =
    let p = get_or pairs i (0, 0) in
    let low : p.1 < steps = (of_steps i (0, 0) lt).1 in
    let long = a.one_each in
    let value : n ≡ get_or counts p.1 0 = get_or_read counts p.1 n (omega arith) is 0 in
    let at = a.at p.1 low in
    let few = waiting_few [] (take i pairs) p.1 in
    let short = length-take i pairs in
    omega arith

pub seconds_at : (steps : ℕ) (pairs : List (ℕ × ℕ)) (i : ℕ) (seconds : List (List ℕ)) (old new : List ℕ) → AreOfSteps steps pairs → i < length pairs → AreSeconds steps (take i pairs) seconds → old ≡ get_or seconds (get_or pairs i (0, 0)).0 old → new ≡ old ++ (get_or pairs i (0, 0)).1 ∷ [] → AreSeconds steps (take (i + 1) pairs) (set seconds (get_or pairs i (0, 0)).0 new)
seconds_at steps pairs i seconds old new of_steps lt a is pushed =
    let p = get_or pairs i (0, 0) in
    let low : p.0 < steps = (of_steps i (0, 0) lt).0 in
    let long = a.one_each in
    let value : old ≡ get_or seconds p.0 [] = get_or_read seconds p.0 old (omega arith) is [] in
    subst (λ v. AreSeconds steps v (set seconds p.0 new)) (sym (take_more pairs i (0, 0) lt)) (subst (λ m. AreSeconds steps (take i pairs ++ p ∷ []) (set seconds p.0 m)) (sym (pushed ∙ ap (λ v. v ++ p.1 ∷ []) value)) (seconds_more steps (take i pairs) p seconds low a))

-- a step that comes further on in a list was not counted fully yet
pub times_room : (xs : List ℕ) (i : ℕ) → i < length xs → times (get_or xs i 0) (take i xs) + 1 ≤ times (get_or xs i 0) xs
times_room xs i lt =
    let b = get_or xs i 0 in
    let whole : xs ≡ take i xs ++ (b ∷ drop (i + 1) xs) = sym (take-append-drop i xs) ∙ ap (λ v. take i xs ++ v) (drop_more xs i 0 lt) in
    let all : times b xs ≡ times b (take i xs) + times b (b ∷ drop (i + 1) xs) = ap (times b) whole ∙ times_front b (take i xs) (b ∷ drop (i + 1) xs) in
    let one : one_if (eqb b b) ≡ 1 = ap one_if (eq-eqb b b refl) in
    omega arith
