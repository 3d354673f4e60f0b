-- The atoms of formulas, and the steps in which they are gathered.
use Rattle.std.proofs.Common.{◌≡◌, ℕ, suc, ◌+◌, ◌-◌, ◌<◌, ◌≤◌, ◌↔◌, leb, Bool, true, false, ◌&&◌, List, [], ◌∷◌, length, take, get_or, set, Contains, Some, refl, sym, ap, subst, ◌∙◌, inl, inr, arith}
use Rattle.std.specs.Prelude.{IsFalse, IsTrue, slice_get}
use Rattle.std.specs.List.{AllByRecursion}
use Rattle.std.specs.Option.{option_map_or}
use Rattle.std.proofs.lemmas.Bool.{cases_Bool, cases_eq, leb-true, true≢false}
use Rattle.std.proofs.lemmas.Bool.Decides.{leb_tells}
use Rattle.std.proofs.lemmas.List.{take_more, get_or-set_same, get_or-set_other}
use Rattle.std.proofs.lemmas.List.Elements.{Contains-push_cases}
use Rattle.flat_core.proofs.Members.{all_at}
use Rattle.trigger_rules.specs.declared.atom.Atom.{Atom}
use Rattle.trigger_rules.specs.declared.atom.Atom.TheVariants.{Start, Happens, Holds}
use Rattle.trigger_rules.specs.Formula as formula
use Rattle.trigger_rules.specs.Formula.{Formula, Of, If, all_of, any_of, HasAtom, in_if, in_if_not, in_of, both_first, both_second, either_first, either_second, in_unless}
use Rattle.trigger_rules.specs.declared.limit.TheConstants.{ATOMS}
use Rattle.trigger_rules.specs.Question.{AreFew}
use Rattle.trigger_starts.specs.declared.rules.Rule.{Rule}
use Rattle.trigger_starts.specs.declared.rules.Rule.TheVariants as rule
use Rattle.trigger_starts.specs.inner.AtomLists.{AreDifferent, Adds, AddsSome, IsInEither, HasAtoms, StandsFrom, StandsAs, atoms_at}
use Rattle.trigger_starts.specs.inner.Rules.{HasSome, formula_by, zero_formula_by, either_formula, looks_back, ruled, used_by, AreReady, starts_at}
use Rattle.trigger_starts.specs.inner.Truth.{Started}
use Rattle.tsl_value.proofs.Lists.{here, later, none_in_nil, cons_cases}
use Rattle.trigger_starts.proofs.Meaning.{ready_at}

-- ---- different atoms that all stand in a list are no more than those of the list
record IsWithout (ys : List Atom) (x : Atom) : Type 0 where
  pub rest : List Atom
  pub shorter : length ys ≡ suc (length rest)
  pub others : (a : Atom) → Contains ys a → (x ≡ a → ⊥) → Contains rest a

without : (ys : List Atom) (x : Atom) → Contains ys x → IsWithout ys x
without [] x c = absurd (none_in_nil x c)
without (y ∷ ys) x c = elim (cons_cases y x ys c) [
  | inl same ↦ record {
    rest = ys;
    shorter = refl;
    others = λ a d not_it. elim (cons_cases y a ys d) [
      | inl is ↦ absurd (not_it (sym same ∙ is))
      | inr more ↦ more
    ];
  }
  | inr more ↦
      let it = without ys x more in
      record {
        rest = y ∷ it.rest;
        shorter = ap suc it.shorter;
        others = λ a d not_it. elim (cons_cases y a ys d) [
          | inl is ↦ subst (Contains (y ∷ it.rest)) is (here y it.rest)
          | inr rest ↦ later y a it.rest (it.others a rest not_it)
        ];
      }
]

pub no_more : (xs ys : List Atom) → AreDifferent xs → ((a : Atom) → Contains xs a → Contains ys a) → length xs ≤ length ys
no_more [] ys different all = omega arith
no_more (x ∷ xs) ys different all =
    let it = without ys x (all x (here x xs)) in
    let rest = no_more xs it.rest different.1 (λ a c. it.others a (all a (later x a xs c)) (λ same. different.0 (subst (Contains xs) (sym same) c))) in
    let shorter = it.shorter in
    omega arith

-- ---- few atoms of two lists
module _ (first second : List Atom) where
  pub some_few : AreDifferent first → (count : ℕ) → AddsSome first (Contains second) count → (length first + count ≤ ATOMS) ↔ AreFew (IsInEither first second)
  some_few different count some = (
    λ few.
        let long = some.long in
        let low : length some.new ≤ ATOMS = omega arith in
        record { atoms = some.new; all = λ a either. all low a either; few = low },
    λ few.
        let long = some.long in
        let short = no_more some.new few.atoms (some.adds.different different) (λ a c. few.all a (some.adds.from a c)) in
        let low = few.few in
        omega arith,
  )
    where
      all : length some.new ≤ ATOMS → (a : Atom) → IsInEither first second a → Contains some.new a
      all low a (inl c) = some.adds.kept a c
      all low a (inr c) = some.adds.there low a c

  -- the first alone has too many
  pub many_first : AreDifferent first → ATOMS < length first → AreFew (IsInEither first second) → ⊥
  many_first different many few =
      let short = no_more first few.atoms different (λ a c. few.all a (inl c)) in
      let low = few.few in
      omega arith

  -- the answers
  pub few_answer : AreDifferent first → (len count : ℕ) → len ≡ length first → len ≤ ATOMS → AddsSome first (Contains second) count → IsTrue (leb count (ATOMS - len)) ↔ AreFew (IsInEither first second)
  few_answer different len count same short some =
      let exact = some_few different count some in
      elim (leb_tells count (ATOMS - len)) [
        | inl low ↦ (λ h. exact.0 (let within = low.1 in omega arith), λ few. low.0)
        | inr past ↦ (λ h. absurd (true≢false (sym h ∙ past.0)), λ few. absurd (let all = exact.1 few in let over = past.1 in omega arith))
      ]

  pub many_answer : AreDifferent first → (len : ℕ) → len ≡ length first → ATOMS < len → IsTrue (leb len ATOMS) ↔ AreFew (IsInEither first second)
  many_answer different len same over = (
    λ h. absurd (let low = leb-true len ATOMS h in omega arith),
    λ few. absurd (many_first different (omega arith) few),
  )

-- ---- the atoms of a rule
module _ (table : ℕ → Formula) (starts : List Bool) (a : Atom) where
  abbrev Stands : Formula → Type 0
  Stands p = HasAtom table (Started starts) a p

  abbrev StandsAt : ℕ → Type 0
  StandsAt x = Stands (Of x)

  to_if : (b : Atom) → Stands (If b) → a ≡ b
  to_if b in_if = refl

  from_if : (b : Atom) → a ≡ b → Stands (If b)
  from_if b is = subst (λ c. Stands (If c)) is in_if

  from_if_not : (b : Atom) → a ≡ b → Stands (formula.IfNot b)
  from_if_not b is = subst (λ c. Stands (formula.IfNot c)) is in_if_not

  from_unless : (v : ℕ) (b : Atom) → IsFalse (starts_at starts v) → a ≡ b → Stands (formula.Unless v b)
  from_unless v b quiet is = subst (λ c. Stands (formula.Unless v c)) is (in_unless (λ started. true≢false (sym started ∙ quiet)))

  to_all : (args : List ℕ) → Stands (all_of args) → HasSome StandsAt args
  to_all [] m = elim m [ ]
  to_all (x ∷ args) (both_first m) = (x, here x args, m)
  to_all (x ∷ args) (both_second m) = let some = to_all args m in (some.0, later x some.0 args some.1, some.2)

  to_any : (args : List ℕ) → Stands (any_of args) → HasSome StandsAt args
  to_any [] m = elim m [ ]
  to_any (x ∷ args) (either_first m) = (x, here x args, m)
  to_any (x ∷ args) (either_second m) = let some = to_any args m in (some.0, later x some.0 args some.1, some.2)

  from_all : (args : List ℕ) (x : ℕ) → Contains args x → StandsAt x → Stands (all_of args)
  from_all [] x c m = absurd (none_in_nil x c)
  from_all (y ∷ args) x c m = elim (cons_cases y x args c) [
    | inl same ↦ both_first (subst StandsAt (sym same) m)
    | inr rest ↦ both_second (from_all args x rest m)
  ]

  from_any : (args : List ℕ) (x : ℕ) → Contains args x → StandsAt x → Stands (any_of args)
  from_any [] x c m = absurd (none_in_nil x c)
  from_any (y ∷ args) x c m = elim (cons_cases y x args c) [
    | inl same ↦ either_first (subst StandsAt (sym same) m)
    | inr rest ↦ either_second (from_any args x rest m)
  ]

  quiet_from : (v : ℕ) → (Started starts v → ⊥) → IsFalse (starts_at starts v)
  quiet_from v never = elim (cases_Bool (starts_at starts v)) [
    | inl started ↦ absurd (never started)
    | inr quiet ↦ quiet
  ]

  to_unless : (v : ℕ) (b : Atom) → Stands (formula.Unless v b) → IsFalse (starts_at starts v) × (a ≡ b)
  to_unless v b (in_unless never) = (quiet_from v never, refl)

  to_not : (b : Atom) → Stands (formula.IfNot b) → a ≡ b
  to_not b in_if_not = refl

  to_stand : (it : Rule) (x : ℕ) → Stands (formula_by it x) → StandsFrom it x starts StandsAt a
  to_stand rule.Never x m = elim m [ ]
  to_stand rule.Start x m = to_if Start m
  to_stand rule.Own x m = to_if (Happens x) m
  to_stand (rule.All args) x m = to_all args m
  to_stand (rule.Any args) x m = to_any args m
  to_stand (rule.AnyAndOwn args) x (both_first m) = inl (to_if (Happens x) m)
  to_stand (rule.AnyAndOwn args) x (both_second m) = inr (to_any args m)
  to_stand (rule.Filter e c) x (both_first m) = inl (inl m)
  to_stand (rule.Filter e c) x (both_second (both_first m)) = inl (inr m)
  to_stand (rule.Filter e c) x (both_second (both_second m)) = inr (to_if (Holds c) m)
  to_stand (rule.Last v r) x (both_first m) = inl (inl (to_not Start m))
  to_stand (rule.Last v r) x (both_second (both_first m)) = inl (inr m)
  to_stand (rule.Last v r) x (both_second (both_second m)) = inr (to_unless v (Happens x) m)
  to_stand rule.Delay x (both_first m) = inl (to_not Start m)
  to_stand rule.Delay x (both_second m) = inr (to_if (Happens x) m)

  from_stand : (it : Rule) (x : ℕ) → StandsFrom it x starts StandsAt a → Stands (formula_by it x)
  from_stand rule.Never x h = absurd h
  from_stand rule.Start x h = from_if Start h
  from_stand rule.Own x h = from_if (Happens x) h
  from_stand (rule.All args) x h = from_all args h.0 h.1 h.2
  from_stand (rule.Any args) x h = from_any args h.0 h.1 h.2
  from_stand (rule.AnyAndOwn args) x (inl h) = both_first (from_if (Happens x) h)
  from_stand (rule.AnyAndOwn args) x (inr h) = both_second (from_any args h.0 h.1 h.2)
  from_stand (rule.Filter e c) x (inl (inl h)) = both_first h
  from_stand (rule.Filter e c) x (inl (inr h)) = both_second (both_first h)
  from_stand (rule.Filter e c) x (inr h) = both_second (both_second (from_if (Holds c) h))
  from_stand (rule.Last v r) x (inl (inl h)) = both_first (from_if_not Start h)
  from_stand (rule.Last v r) x (inl (inr h)) = both_second (both_first h)
  from_stand (rule.Last v r) x (inr h) = both_second (both_second (from_unless v (Happens x) h.0 h.1))
  from_stand rule.Delay x (inl h) = both_first (from_if_not Start h)
  from_stand rule.Delay x (inr h) = both_second (from_if (Happens x) h)

-- ---- other ways to say in which arguments' formulas an atom stands
module _ (P Q : ℕ → Type 0) where
  some_on : (args : List ℕ) → AllByRecursion (λ y. P y → Q y) args → HasSome P args → HasSome Q args
  some_on args gives some = (some.0, some.1, all_at (λ y. P y → Q y) args gives some.0 some.1 some.2)

  stands_on : (it : Rule) (x : ℕ) (starts : List Bool) (a : Atom) → AllByRecursion (λ y. P y → Q y) (used_by it) → StandsFrom it x starts P a → StandsFrom it x starts Q a
  stands_on rule.Never x starts a gives h = h
  stands_on rule.Start x starts a gives h = h
  stands_on rule.Own x starts a gives h = h
  stands_on (rule.All args) x starts a gives h = some_on args gives h
  stands_on (rule.Any args) x starts a gives h = some_on args gives h
  stands_on (rule.AnyAndOwn args) x starts a gives (inl h) = inl h
  stands_on (rule.AnyAndOwn args) x starts a gives (inr h) = inr (some_on args gives h)
  stands_on (rule.Filter e c) x starts a gives (inl (inl h)) = inl (inl (gives.0 h))
  stands_on (rule.Filter e c) x starts a gives (inl (inr h)) = inl (inr (gives.1.0 h))
  stands_on (rule.Filter e c) x starts a gives (inr h) = inr h
  stands_on (rule.Last v r) x starts a gives (inl (inl h)) = inl (inl h)
  stands_on (rule.Last v r) x starts a gives (inl (inr h)) = inl (inr (gives.0 h))
  stands_on (rule.Last v r) x starts a gives (inr h) = inr h
  stands_on rule.Delay x starts a gives h = h

-- an atom of a used argument is one of the rule
used_stands : (P : ℕ → Type 0) (it : Rule) (x : ℕ) (starts : List Bool) (a : Atom) (y : ℕ) → Contains (used_by it) y → P y → StandsFrom it x starts P a
used_stands P rule.Never x starts a y c p = absurd (none_in_nil y c)
used_stands P rule.Start x starts a y c p = absurd (none_in_nil y c)
used_stands P rule.Own x starts a y c p = absurd (none_in_nil y c)
used_stands P (rule.All args) x starts a y c p = (y, c, p)
used_stands P (rule.Any args) x starts a y c p = (y, c, p)
used_stands P (rule.AnyAndOwn args) x starts a y c p = inr (y, c, p)
used_stands P (rule.Filter e d) x starts a y c p = elim (cons_cases e y (d ∷ []) c) [
  | inl same ↦ inl (inl (subst P (sym same) p))
  | inr rest ↦ elim (cons_cases d y [] rest) [
    | inl same ↦ inl (inr (subst P (sym same) p))
    | inr none ↦ absurd (none_in_nil y none)
  ]
]
used_stands P (rule.Last v r) x starts a y c p = elim (cons_cases r y [] c) [
  | inl same ↦ inl (inr (subst P (sym same) p))
  | inr none ↦ absurd (none_in_nil y none)
]
used_stands P rule.Delay x starts a y c p = absurd (none_in_nil y c)

-- ---- formulas at 0
zero_is : (it : Rule) (x : ℕ) → looks_back it ≡ false → zero_formula_by it x ≡ formula_by it x
zero_is (rule.Last v r) x quiet = absurd (true≢false quiet)
zero_is rule.Delay x quiet = absurd (true≢false quiet)
zero_is _ x quiet = refl

zero_never : (it : Rule) (x : ℕ) → looks_back it ≡ true → zero_formula_by it x ≡ formula.Never
zero_never (rule.Last v r) x back = refl
zero_never rule.Delay x back = refl
zero_never _ x back = absurd (true≢false (sym back))

either_is : (at_zero : Bool) (it : Rule) (x : ℕ) → (at_zero && looks_back it) ≡ false → either_formula at_zero it x ≡ formula_by it x
either_is true it x quiet = zero_is it x quiet
either_is false it x quiet = refl

either_never : (at_zero : Bool) (it : Rule) (x : ℕ) → (at_zero && looks_back it) ≡ true → either_formula at_zero it x ≡ formula.Never
either_never true it x back = zero_never it x back
either_never false it x back = absurd (true≢false (sym back))

-- ---- one step
module _ (at_zero : Bool) (rules : List Rule) (starts : List Bool) (all : List (List Atom)) (x : ℕ) (it : Rule) (is : slice_get rules x ≡ Some it) where
  abbrev pub Standing : ℕ → Atom → Type 0
  Standing y a = HasAtom (ruled at_zero rules) (Started starts) a (Of y)

  ruled_is : ruled at_zero rules x ≡ either_formula at_zero it x
  ruled_is = ap (λ o. option_map_or (λ r. either_formula at_zero r x) o formula.Never) is

  to_ruled : (a : Atom) → Standing x a → HasAtom (ruled at_zero rules) (Started starts) a (either_formula at_zero it x)
  to_ruled a (in_of m) = subst (HasAtom (ruled at_zero rules) (Started starts) a) ruled_is m

  module _ (used : AllByRecursion (λ y. HasAtoms (Standing y) (atoms_at all y)) (used_by it)) (new : List Atom) (adds : Adds [] (StandsAs at_zero it x starts all) new) where
    from_new : (a : Atom) → Contains new a → Standing x a
    from_new a c = elim (adds.from a c) [
      | inl none ↦ absurd (none_in_nil a none)
      | inr h ↦ in_of (subst (HasAtom (ruled at_zero rules) (Started starts) a) (sym (ruled_is ∙ either_is at_zero it x h.0)) (from_stand (ruled at_zero rules) starts a it x
          (stands_on (λ y. Contains (atoms_at all y) a) (λ y. Standing y a) it x starts a (on (used_by it) used a) h.1)))
    ]
      where
        on : (args : List ℕ) → AllByRecursion (λ y. HasAtoms (Standing y) (atoms_at all y)) args → (a : Atom) → AllByRecursion (λ y. Contains (atoms_at all y) a → Standing y a) args
        on [] u a = tt
        on (y ∷ args) u a = (u.0.from a, on args u.1 a)

    -- the lists of the used arguments are no longer than the new one
    module _ (few : length new ≤ ATOMS) (quiet : (at_zero && looks_back it) ≡ false) where
      whole : (y : ℕ) → Contains (used_by it) y → HasAtoms (Standing y) (atoms_at all y) → (a : Atom) → Standing y a → Contains (atoms_at all y) a
      whole y c has a m =
          let short = no_more (atoms_at all y) new has.different (λ b d. adds.there few b (quiet, used_stands (λ z. Contains (atoms_at all z) b) it x starts b y c d)) in
          has.there (omega arith) a m

      wholes : (args : List ℕ) → ((y : ℕ) → Contains args y → Contains (used_by it) y) → AllByRecursion (λ y. HasAtoms (Standing y) (atoms_at all y)) args → (a : Atom) → AllByRecursion (λ y. Standing y a → Contains (atoms_at all y) a) args
      wholes [] to u a = tt
      wholes (y ∷ args) to u a = (whole y (to y (here y args)) u.0 a, wholes args (λ z c. to z (later y z args c)) u.1 a)

      there_few : (a : Atom) → HasAtom (ruled at_zero rules) (Started starts) a (either_formula at_zero it x) → Contains new a
      there_few a m =
          let stands = to_stand (ruled at_zero rules) starts a it x (subst (HasAtom (ruled at_zero rules) (Started starts) a) (either_is at_zero it x quiet) m) in
          adds.there few a (quiet, stands_on (λ y. Standing y a) (λ y. Contains (atoms_at all y) a) it x starts a (wholes (used_by it) (λ y c. c) used a) stands)

    there_new : length new ≤ ATOMS → (a : Atom) → Standing x a → Contains new a
    there_new few a m = elim (cases_Bool (at_zero && looks_back it)) [
      | inl back ↦ never (subst (HasAtom (ruled at_zero rules) (Started starts) a) (either_never at_zero it x back) (to_ruled a m))
      | inr quiet ↦ there_few few quiet a (to_ruled a m)
    ]
      where
        never : HasAtom (ruled at_zero rules) (Started starts) a formula.Never → Contains new a
        never m = elim m [ ]

    pub has_atoms : HasAtoms (Standing x) new
    has_atoms = record { from = from_new; different = adds.different tt; there = there_new }

-- the step of the loop
pub gather_step : (at_zero : Bool) (rules : List Rule) (starts : List Bool) (order : List ℕ) (ready : AreReady rules [] order) (k : ℕ) → k < length order → (all : List (List Atom)) → length all ≡ length rules → (it : Rule) → slice_get rules (get_or order k 0) ≡ Some it → (own : ℕ) → own ≡ get_or order k 0 → (new : List Atom) → Adds [] (StandsAs at_zero it own starts all) new → ((x : ℕ) → Contains (take k order) x → HasAtoms (λ a. HasAtom (ruled at_zero rules) (Started starts) a (Of x)) (atoms_at all x)) → (x : ℕ) → Contains (take (k + 1) order) x → HasAtoms (λ a. HasAtom (ruled at_zero rules) (Started starts) a (Of x)) (atoms_at (set all (get_or order k 0) new) x)
gather_step at_zero rules starts order ready k lt all many it is own at new adds before x c =
    let step = get_or order k 0 in
    let now = ready_at rules order [] k lt ready in
    let low = now.0 in
    let used = fronts (used_by it) (now.1 it is) in
    let here : HasAtoms (λ a. HasAtom (ruled at_zero rules) (Started starts) a (Of step)) new = has_atoms at_zero rules starts all step it is used new (subst (λ n. Adds [] (StandsAs at_zero it n starts all) new) at adds) in
    elim (cases_eq x step) [
      | inl same ↦ subst (λ n. HasAtoms (λ a. HasAtom (ruled at_zero rules) (Started starts) a (Of n)) (atoms_at (set all step new) n)) (sym same) (subst (HasAtoms (λ a. HasAtom (ruled at_zero rules) (Started starts) a (Of step))) (sym (get_or-set_same all step new [] (omega arith))) here)
      | inr other ↦ subst (HasAtoms (λ a. HasAtom (ruled at_zero rules) (Started starts) a (Of x))) (sym (get_or-set_other all step x new [] other)) (before x (elim (Contains-push_cases (take k order) step x (subst (λ l. Contains l x) (take_more order k 0 lt) c)) [
        | inl front ↦ front
        | inr same ↦ absurd (other (sym same))
      ]))
    ]
  where
    fronts : (args : List ℕ) → AllByRecursion (Contains (take k order)) args → AllByRecursion (λ y. HasAtoms (λ a. HasAtom (ruled at_zero rules) (Started starts) a (Of y)) (atoms_at all y)) args
    fronts [] all_front = tt
    fronts (y ∷ args) all_front = (before y all_front.0, fronts args all_front.1)
