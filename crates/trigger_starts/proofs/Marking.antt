-- Marks, and the steps that are marked.
use Rattle.std.proofs.Common.{◌≡◌, ℕ, zero, suc, ◌+◌, ◌<◌, ◌≤◌, Bool, true, false, List, [], ◌∷◌, ◌++◌, length, take, get_or, set, Contains, Some, sym, ap, subst, ◌∙◌, inl, inr, arith, append_assoc, append-nil}
use Rattle.std.specs.Prelude.{IsTrue, slice_get}
use Rattle.std.specs.List.{AllByRecursion}
use Rattle.std.proofs.lemmas.Bool.{cases_eq, true≢false}
use Rattle.std.proofs.lemmas.List.{take_more, get_or_default, get_or-set_same, get_or-set_other}
use Rattle.std.proofs.lemmas.List.Elements.{Contains-append_left, Contains-push, Contains-push_cases}
use Rattle.flat_core.proofs.Members.{all_at, all_from}
use Rattle.flat_core.proofs.Uniqueness.{all_by, all_with}
use Rattle.trigger_starts.specs.declared.rules.Rule.{Rule}
use Rattle.trigger_starts.specs.inner.Rules.{AreReady, IsReady, Marks, UsedMarked, is_marked, used_by}
use Rattle.tsl_value.proofs.Lists.{here, none_in_nil}
use Rattle.trigger_starts.proofs.Meaning.{ready_at}

-- ---- marks
pub marks_none : (P : ℕ → Type 0) (marks : List Bool) → ((x : ℕ) → P x → ⊥) → Marks P marks marks
marks_none P marks none = record { kept = λ x h. h; there = λ x p. absurd (none x p); from = λ x h. inl h }

pub marks_alike : {P Q : ℕ → Type 0} {old new : List Bool} → ((x : ℕ) → P x → Q x) → ((x : ℕ) → Q x → P x) → Marks P old new → Marks Q old new
marks_alike to back m = record {
  kept = m.kept;
  there = λ x q. m.there x (back x q);
  from = λ x h. elim (m.from x h) [
    | inl old ↦ inl old
    | inr p ↦ inr (to x p)
  ];
}

-- one more
pub marks_next : (args : List ℕ) (k x y : ℕ) (old mid : List Bool) → k < length args → x ≡ get_or args k x → y ≡ x → x < length mid → Marks (Contains (take k args)) old mid → Marks (Contains (take (k + 1) args)) old (set mid y true)
marks_next args k x y old mid lt is at low m = subst (λ n. Marks (Contains (take (k + 1) args)) old (set mid n true)) (sym at) it
  where
    taken : take (k + 1) args ≡ take k args ++ x ∷ []
    taken = take_more args k x lt ∙ ap (λ z. take k args ++ z ∷ []) (sym is)

    set_one : IsTrue (is_marked (set mid x true) x)
    set_one = get_or-set_same mid x true false low

    still : (z : ℕ) → IsTrue (is_marked mid z) → IsTrue (is_marked (set mid x true) z)
    still z h = elim (cases_eq z x) [
      | inl same ↦ subst (λ n. IsTrue (is_marked (set mid x true) n)) (sym same) set_one
      | inr other ↦ get_or-set_other mid x z true false other ∙ h
    ]

    it : Marks (Contains (take (k + 1) args)) old (set mid x true)
    it = record {
      kept = λ z h. still z (m.kept z h);
      there = λ z c. elim (Contains-push_cases (take k args) x z (subst (λ l. Contains l z) taken c)) [
        | inl front ↦ still z (m.there z front)
        | inr same ↦ subst (λ n. IsTrue (is_marked (set mid x true) n)) same set_one
      ];
      from = λ z h. elim (cases_eq z x) [
        | inl same ↦ inr (subst (λ l. Contains l z) (sym taken) (subst (Contains (take k args ++ x ∷ [])) (sym same) (Contains-push (take k args) x)))
        | inr other ↦ elim (m.from z (sym (get_or-set_other mid x z true false other) ∙ h)) [
          | inl before ↦ inl before
          | inr front ↦ inr (subst (λ l. Contains l z) (sym taken) (Contains-append_left (take k args) (x ∷ []) z front))
        ]
      ];
    }

-- ---- steps, each once
pub new_at : (rules : List Rule) (steps front : List ℕ) (k : ℕ) → k < length steps → AreReady rules front steps → Contains (front ++ take k steps) (get_or steps k 0) → ⊥
new_at rules [] front k lt ready c = absurd (omega arith)
new_at rules (x ∷ steps) front zero lt ready c = ready.1 (subst (λ l. Contains l x) (append-nil front) c)
new_at rules (x ∷ steps) front (suc k) lt ready c = new_at rules steps (front ++ x ∷ []) k (omega arith) ready.3 (subst (λ l. Contains l (get_or steps k 0)) (sym (append_assoc front (x ∷ []) (take k steps))) c)

in_take : (xs : List ℕ) (j k : ℕ) → j < k → j < length xs → Contains (take k xs) (get_or xs j 0)
in_take [] j k lt low = absurd (omega arith)
in_take (x ∷ xs) zero zero lt low = absurd (omega arith)
in_take (x ∷ xs) zero (suc k) lt low = here x (take k xs)
in_take (x ∷ xs) (suc j) zero lt low = absurd (omega arith)
in_take (x ∷ xs) (suc j) (suc k) lt low = let c = in_take xs j k (omega arith) (omega arith) in (suc c.0, (let l = c.1 in omega arith), c.2)

take_in : (xs : List ℕ) (k y : ℕ) → Contains (take k xs) y → (j : ℕ) × (j < k) × (j < length xs) × (get_or xs j 0 ≡ y)
take_in [] zero y c = absurd (none_in_nil y c)
take_in [] (suc k) y c = absurd (none_in_nil y c)
take_in (x ∷ xs) zero y c = absurd (none_in_nil y c)
take_in (x ∷ xs) (suc k) y (zero, lt, is) = (0, omega arith, omega arith, is)
take_in (x ∷ xs) (suc k) y (suc n, lt, is) = let it = take_in xs k y (n, omega arith, is) in (suc it.0, (let a = it.1 in omega arith), (let b = it.2 in omega arith), it.3)

module _ (rules : List Rule) (order : List ℕ) (ready : AreReady rules [] order) where
  abbrev at : ℕ → ℕ
  at k = get_or order k 0

  -- a step does not use itself or what comes after it
  never_after : (k j : ℕ) → k < length order → j < length order → k ≤ j → Contains (take k order) (at j) → ⊥
  never_after k j k_lt j_lt le c =
      let it = take_in order k (at j) c in
      let low = it.1 in
      new_at rules order [] j j_lt ready (subst (Contains (take j order)) it.3 (in_take order it.0 j (omega arith) it.2))

  -- the walk from the last step back: what is after it stays as it is
  pub closed_more : (k : ℕ) → k < length order → (it : Rule) → slice_get rules (at k) ≡ Some it → (old new : List Bool) → Marks (Contains (used_by it)) old new → ((j : ℕ) → k + 1 ≤ j → j < length order → UsedMarked rules old (at j)) → (j : ℕ) → k ≤ j → j < length order → UsedMarked rules new (at j)
  closed_more k lt it is old new marks before j le j_lt marked other other_is =
      elim (cases_eq j k) [
        | inl same ↦
            let found : it ≡ other = let both = sym is ∙ ap (λ n. slice_get rules (at n)) (sym same) ∙ other_is in cc in
            subst (λ r. AllByRecursion (λ a. IsTrue (is_marked new a)) (used_by r)) found (all_from (λ a. IsTrue (is_marked new a)) (used_by it) (λ a c. marks.there a c))
        | inr differ ↦
            let was : IsTrue (is_marked old (at j)) = elim (marks.from (at j) marked) [
              | inl old ↦ old
              | inr used ↦ absurd (never_after k j lt j_lt le (all_at (Contains (take k order)) (used_by it) ((ready_at rules order [] k lt ready).1 it is) (at j) used))
            ] in
            all_by (λ a. IsTrue (is_marked old a)) (λ a. IsTrue (is_marked new a)) marks.kept (used_by other) (before j (omega arith) j_lt was other other_is)
      ]

  pub closed_same : (k : ℕ) (marks : List Bool) → is_marked marks (at k) ≡ false → ((j : ℕ) → k + 1 ≤ j → j < length order → UsedMarked rules marks (at j)) → (j : ℕ) → k ≤ j → j < length order → UsedMarked rules marks (at j)
  closed_same k marks quiet before j le j_lt marked =
      elim (cases_eq j k) [
        | inl same ↦ absurd (true≢false (sym (subst (λ n. IsTrue (is_marked marks (at n))) same marked) ∙ quiet))
        | inr differ ↦ before j (omega arith) j_lt marked
      ]

  pub all_closed : (marks : List Bool) → ((j : ℕ) → j < length order → UsedMarked rules marks (at j)) → (x : ℕ) → Contains order x → UsedMarked rules marks x
  all_closed marks closed x (k, lt, is) = subst (UsedMarked rules marks) (get_or_default order k 0 x lt ∙ is) (closed k lt)

-- ---- the marked steps
ready_push : (rules : List Rule) (xs front : List ℕ) (x : ℕ) → AreReady rules front xs → x < length rules → (Contains (front ++ xs) x → ⊥) → IsReady rules (front ++ xs) x → AreReady rules front (xs ++ x ∷ [])
ready_push rules [] front x ready low new is = (low, λ c. new (subst (λ l. Contains l x) (sym (append-nil front)) c), subst (λ l. IsReady rules l x) (append-nil front) is, tt)
ready_push rules (y ∷ xs) front x ready low new is = (
  ready.0,
  ready.1,
  ready.2,
  ready_push rules xs (front ++ y ∷ []) x ready.3 low (λ c. new (subst (λ l. Contains l x) (append_assoc front (y ∷ []) xs) c)) (subst (λ l. IsReady rules l x) (sym (append_assoc front (y ∷ []) xs)) is),
)

module _ (rules : List Rule) (order : List ℕ) (ready : AreReady rules [] order) (marks : List Bool) (closed : (x : ℕ) → Contains order x → UsedMarked rules marks x) (k : ℕ) (lt : k < length order) (steps : List ℕ) where
  abbrev next : ℕ
  next = get_or order k 0

  taken_next : take (k + 1) order ≡ take k order ++ next ∷ []
  taken_next = take_more order k 0 lt

  in_order : Contains order next
  in_order = (k, lt, get_or_default order k next 0 lt)

  pub ready_next : AreReady rules [] steps → ((x : ℕ) → Contains (take k order) x → IsTrue (is_marked marks x) → Contains steps x) → ((x : ℕ) → Contains steps x → Contains (take k order) x) → IsTrue (is_marked marks next) → AreReady rules [] (steps ++ next ∷ [])
  ready_next so_far there from marked =
      let now = ready_at rules order [] k lt ready in
      ready_push rules steps [] next so_far now.0 (λ c. new_at rules order [] k lt ready (from next c)) (λ it is. all_with (Contains (take k order)) (λ a. IsTrue (is_marked marks a)) (Contains steps) (λ a front m. there a front m) (used_by it) (now.1 it is) (closed next in_order marked it is))

  pub there_next : ((x : ℕ) → Contains (take k order) x → IsTrue (is_marked marks x) → Contains steps x) → (x : ℕ) → Contains (take (k + 1) order) x → IsTrue (is_marked marks x) → Contains (steps ++ next ∷ []) x
  there_next there x c m = elim (Contains-push_cases (take k order) next x (subst (λ l. Contains l x) taken_next c)) [
    | inl front ↦ Contains-append_left steps (next ∷ []) x (there x front m)
    | inr same ↦ subst (Contains (steps ++ next ∷ [])) same (Contains-push steps next)
  ]

  pub there_same : is_marked marks next ≡ false → ((x : ℕ) → Contains (take k order) x → IsTrue (is_marked marks x) → Contains steps x) → (x : ℕ) → Contains (take (k + 1) order) x → IsTrue (is_marked marks x) → Contains steps x
  there_same quiet there x c m = elim (Contains-push_cases (take k order) next x (subst (λ l. Contains l x) taken_next c)) [
    | inl front ↦ there x front m
    | inr same ↦ absurd (true≢false (sym (subst (λ n. IsTrue (is_marked marks n)) (sym same) m) ∙ quiet))
  ]

  in_more : (x : ℕ) → Contains (take k order) x → Contains (take (k + 1) order) x
  in_more x c = subst (λ l. Contains l x) (sym taken_next) (Contains-append_left (take k order) (next ∷ []) x c)

  pub from_same : ((x : ℕ) → Contains steps x → Contains (take k order) x) → (x : ℕ) → Contains steps x → Contains (take (k + 1) order) x
  from_same from x c = in_more x (from x c)

  pub from_next : ((x : ℕ) → Contains steps x → Contains (take k order) x) → (x : ℕ) → Contains (steps ++ next ∷ []) x → Contains (take (k + 1) order) x
  from_next from x c = elim (Contains-push_cases steps next x c) [
    | inl old ↦ in_more x (from x old)
    | inr same ↦ subst (λ l. Contains l x) (sym taken_next) (subst (Contains (take k order ++ next ∷ [])) same (Contains-push (take k order) next))
  ]
