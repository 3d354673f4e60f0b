-- Lists of different atoms.
use Rattle.std.proofs.Common.{◌≡◌, ℕ, zero, suc, ◌+◌, ◌<◌, ◌↔◌, ◌⊎◌, Bool, false, List, [], ◌∷◌, ◌++◌, length, take, get_or, Contains, refl, sym, ap, subst, ◌∙◌, inl, inr, arith, length-append}
use Rattle.std.specs.Prelude.{IsTrue}
use Rattle.std.proofs.lemmas.Bool.{false≢true}
use Rattle.std.proofs.lemmas.List.{take_more, get_or_default}
use Rattle.std.proofs.lemmas.List.Elements.{Contains-append_left, Contains-push, Contains-push_cases}
use Rattle.trigger_rules.specs.declared.atom.Atom.{Atom}
use Rattle.trigger_starts.specs.inner.AtomLists.{AreDifferent, Adds, AddsSome, IsInSome, atoms_at}
use Rattle.tsl_value.proofs.Lists.{cons_cases, here, later, none_in_nil}

-- ---- one more atom
different_push : (atoms : List Atom) (a : Atom) → (Contains atoms a → ⊥) → AreDifferent atoms → AreDifferent (atoms ++ a ∷ [])
different_push [] a new all = (none_in_nil a, tt)
different_push (b ∷ atoms) a new all = (
  λ c. elim (Contains-push_cases atoms a b c) [
    | inl old ↦ all.0 old
    | inr same ↦ new (subst (Contains (b ∷ atoms)) (sym same) (here b atoms))
  ],
  different_push atoms a (λ c. new (later b a atoms c)) all.1,
)

adds_push : (old : List Atom) (a : Atom) → (Contains old a → ⊥) → Adds old (λ b. b ≡ a) (old ++ a ∷ [])
adds_push old a new = record {
  grows = omega (arith, length-append old (a ∷ []));
  kept = λ b c. Contains-append_left old (a ∷ []) b c;
  from = λ b c. elim (Contains-push_cases old a b c) [
    | inl before ↦ inl before
    | inr same ↦ inr (sym same)
  ];
  different = different_push old a new;
  there = λ few b is. subst (Contains (old ++ a ∷ [])) (sym is) (Contains-push old a);
}

pub adds_one : (old items new : List Atom) (a : Atom) (has : Bool) → items ≡ old → (IsTrue has ↔ Contains old a) → has ≡ false → new ≡ items ++ a ∷ [] → Adds old (λ b. b ≡ a) new
adds_one old items new a has same exact not is =
    subst (Adds old (λ b. b ≡ a)) (sym (is ∙ ap (λ l. l ++ a ∷ []) same)) (adds_push old a (λ c. false≢true (sym not ∙ exact.1 c)))

-- ---- one after another
pub adds_none : (old : List Atom) (P : Atom → Type 0) → ((a : Atom) → P a → ⊥) → Adds old P old
adds_none old P none = record { grows = omega arith; kept = λ a c. c; from = λ a c. inl c; different = λ d. d; there = λ few a p. absurd (none a p) }

pub adds_also : {old mid new : List Atom} {P Q : Atom → Type 0} → Adds old P mid → Adds mid Q new → Adds old (λ a. P a ⊎ Q a) new
adds_also {old = old} {mid = mid} {new = new} p q = record {
  grows = (let a = p.grows in let b = q.grows in omega arith);
  kept = λ a c. q.kept a (p.kept a c);
  from = λ a c. elim (q.from a c) [
    | inl before ↦ elim (p.from a before) [
      | inl old ↦ inl old
      | inr first ↦ inr (inl first)
    ]
    | inr second ↦ inr (inr second)
  ];
  different = λ d. q.different (p.different d);
  there = λ few a either. elim either [
    | inl first ↦ q.kept a (p.there (let b = q.grows in omega arith) a first)
    | inr second ↦ q.there few a second
  ];
}

pub adds_alike : {old new : List Atom} {P Q : Atom → Type 0} → ((a : Atom) → P a → Q a) → ((a : Atom) → Q a → P a) → Adds old P new → Adds old Q new
adds_alike to back p = record {
  grows = p.grows;
  kept = p.kept;
  from = λ a c. elim (p.from a c) [
    | inl old ↦ inl old
    | inr first ↦ inr (to a first)
  ];
  different = p.different;
  there = λ few a q. p.there few a (back a q);
}

-- ---- loops
more_taken : {A : Type 0} (xs : List A) (k : ℕ) (x y : A) → k < length xs → x ≡ get_or xs k x → Contains (take (k + 1) xs) y → Contains (take k xs) y ⊎ (y ≡ x)
more_taken xs k x y lt is c = elim (Contains-push_cases (take k xs) x y (subst (λ l. Contains l y) (take_more xs k x lt ∙ ap (λ z. take k xs ++ z ∷ []) (sym is)) c)) [
  | inl before ↦ inl before
  | inr same ↦ inr (sym same)
]

taken_more : {A : Type 0} (xs : List A) (k : ℕ) (x y : A) → k < length xs → x ≡ get_or xs k x → Contains (take k xs) y ⊎ (y ≡ x) → Contains (take (k + 1) xs) y
taken_more xs k x y lt is either =
    subst (λ l. Contains l y) (sym (take_more xs k x lt ∙ ap (λ z. take k xs ++ z ∷ []) (sym is))) (elim either [
      | inl before ↦ Contains-append_left (take k xs) (x ∷ []) y before
      | inr same ↦ subst (Contains (take k xs ++ x ∷ [])) (sym same) (Contains-push (take k xs) x)
    ])

pub adds_next : (xs : List Atom) (k : ℕ) (x : Atom) (old mid new : List Atom) → k < length xs → x ≡ get_or xs k x → Adds old (Contains (take k xs)) mid → Adds mid (λ a. a ≡ x) new → Adds old (Contains (take (k + 1) xs)) new
adds_next xs k x old mid new lt is before one = adds_alike (λ a. taken_more xs k x a lt is) (λ a. more_taken xs k x a lt is) (adds_also before one)

-- the list of an argument, as it is read
pub atoms_read : (all : List (List Atom)) (x y : ℕ) (list seen : List Atom) → y ≡ x → list ≡ get_or all y list → seen ≡ list → x < length all → seen ≡ atoms_at all x
atoms_read all x y list seen at read same low = same ∙ read ∙ ap (λ n. get_or all n list) at ∙ get_or_default all x list [] low

-- the list of one more argument
pub adds_each_next : (all : List (List Atom)) (args : List ℕ) (k x : ℕ) (seen old mid new : List Atom) → k < length args → x ≡ get_or args k x → seen ≡ atoms_at all x → Adds old (IsInSome all (take k args)) mid → Adds mid (Contains seen) new → Adds old (IsInSome all (take (k + 1) args)) new
adds_each_next all args k x seen old mid new lt is seen_is before one =
    adds_alike
    (λ a either. elim either [
      | inl some ↦ (some.0, taken_more args k x some.0 lt is (inl some.1), some.2)
      | inr c ↦ (x, taken_more args k x x lt is (inr refl), subst (λ l. Contains l a) seen_is c)
    ])
    (λ a some. elim (more_taken args k x some.0 lt is some.1) [
      | inl front ↦ inl (some.0, front, some.2)
      | inr last ↦ inr (subst (λ l. Contains l a) (sym seen_is) (subst (λ n. Contains (atoms_at all n) a) last some.2))
    ])
    (adds_also before one)

-- ---- atoms of another list
adds_there : (old : List Atom) (a : Atom) → Contains old a → Adds old (λ b. b ≡ a) old
adds_there old a c = record {
  grows = omega arith;
  kept = λ b d. d;
  from = λ b d. inl d;
  different = λ d. d;
  there = λ few b is. subst (Contains old) (sym is) c;
}

-- an element of different ones is not among those before it
before_it : (xs : List Atom) (k : ℕ) (d : Atom) → k < length xs → AreDifferent xs → Contains (take k xs) (get_or xs k d) → ⊥
before_it [] k d lt different c = omega arith
before_it (x ∷ xs) zero d lt different c = none_in_nil x c
before_it (x ∷ xs) (suc k) d lt different c = elim (cons_cases x (get_or xs k d) (take k xs) c) [
  | inl same ↦
      let low : k < length xs = omega arith in
      different.0 (subst (Contains xs) (sym same) (k, low, get_or_default xs k (get_or xs k d) d low))
  | inr rest ↦ before_it xs k d (omega arith) different.1 rest
]

module _ (first second items : List Atom) (same : items ≡ second) (k : ℕ) (x : Atom) (lt_items : k < length items) (is_item : x ≡ get_or items k x) (count : ℕ) (before : AddsSome first (Contains (take k second)) count) where
  lt : k < length second
  lt = subst (λ l. k < length l) same lt_items

  is : x ≡ get_or second k x
  is = is_item ∙ ap (λ l. get_or l k x) same

  pub some_same : Contains first x → AddsSome first (Contains (take (k + 1) second)) count
  some_same c = record { new = before.new; long = before.long; adds = adds_next second k x first before.new before.new lt is before.adds (adds_there before.new x (before.adds.kept x c)) }

  pub some_more : AreDifferent second → (Contains first x → ⊥) → AddsSome first (Contains (take (k + 1) second)) (count + 1)
  some_more different other = record {
    new = before.new ++ x ∷ [];
    long = length-append before.new (x ∷ []) ∙ (let long = before.long in omega arith);
    adds = adds_next second k x first before.new (before.new ++ x ∷ []) lt is before.adds (adds_push before.new x new_it);
  }
    where
      new_it : Contains before.new x → ⊥
      new_it c = elim (before.adds.from x c) [
        | inl old ↦ other old
        | inr earlier ↦ before_it second k x lt different (subst (Contains (take k second)) is earlier)
      ]

pub some_none : (first : List Atom) (P : Atom → Type 0) → ((a : Atom) → P a → ⊥) → AddsSome first P 0
some_none first P none = record { new = first; long = omega arith; adds = adds_none first P none }

-- one atom alone
pub one_atom : (none new : List Atom) (b : Atom) → none ≡ [] → Adds none (λ a. a ≡ b) new → new ≡ b ∷ []
one_atom none new b is adds = alone new b (subst (λ l. Adds l (λ a. a ≡ b) new) is adds)
  where
    it_is : (new : List Atom) (b : Atom) → Adds [] (λ a. a ≡ b) new → (a : Atom) → Contains new a → a ≡ b
    it_is new b adds a c = elim (adds.from a c) [
      | inl none ↦ absurd (none_in_nil a none)
      | inr same ↦ same
    ]

    alone : (new : List Atom) (b : Atom) → Adds [] (λ a. a ≡ b) new → new ≡ b ∷ []
    alone [] b adds = absurd (none_in_nil b (adds.there (omega arith) b refl))
    alone (a ∷ []) b adds = ap (λ x. x ∷ []) (it_is (a ∷ []) b adds a (here a []))
    alone (a ∷ c ∷ new) b adds =
        let first = it_is (a ∷ c ∷ new) b adds a (here a (c ∷ new)) in
        let second = it_is (a ∷ c ∷ new) b adds c (later a c (c ∷ new) (here c new)) in
        let different = adds.different tt in
        absurd (different.0 (subst (Contains (c ∷ new)) (second ∙ sym first) (here c new)))
