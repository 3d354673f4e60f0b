-- Each name that is called without a dot is found by its spelling, and what is found is so spelled. What lists that are made of the
-- table say of a name is what the table says of what is found.
use Rattle.std.proofs.Common.{◌≡◌, ℕ, Bool, true, false, cond, not, ◌&&◌, ◌||◌, List, [], ◌∷◌, map, Option, Some, None, refl, sym, ap, subst, ◌∙◌}
use Rattle.std.specs.Prelude.{is_some}
use Rattle.std.specs.List.{filter, filter_map, cons_option, find, list_any}
use Rattle.std.specs.Option.{option_map, option_map_or, option_and_then}
use Rattle.std.specs.Str.{bytes_eq}
use Rattle.std.proofs.lemmas.Bool.{and_parts, or_parts, not-true}
use Rattle.std.proofs.lemmas.Option.{none-some, same_Some}
use Rattle.std.proofs.lemmas.Slice.Eq.{bytes_eq-Decides}
use Rattle.vocabulary.specs.declared.plain.Plain.{Plain}
use Rattle.vocabulary.specs.declared.plain.Plain.TheVariants as plain
use Rattle.vocabulary.specs.PlainTable.{plains, spelling, plain_of, entries, look_up}
use Rattle.vocabulary.proofs.Listed.{found}

pub plain_again : (p : Plain) → plain_of (spelling p) ≡ Some p
unfolding plain_of
plain_again plain.Time = refl
plain_again plain.Last = refl
plain_again plain.Delay = refl
plain_again plain.Merge = refl
plain_again plain.Default = refl
plain_again plain.Lift = refl
plain_again plain.Const = refl
plain_again plain.Filter = refl
plain_again plain.IsSome = refl
plain_again plain.IsNone = refl
plain_again plain.GetSome = refl
plain_again plain.Some = refl

pub plain_is : (n : List ℕ) (p : Plain) → plain_of n ≡ Some p → n ≡ spelling p
unfolding plain_of
plain_is n p h = (bytes_eq-Decides n (spelling p)).0 (found (λ q. bytes_eq n (spelling q)) plains p h)

-- no two are spelled alike
pub other_spelling : (p q : Plain) → (p ≡ q → ⊥) → bytes_eq (spelling p) (spelling q) ≡ false
other_spelling p q differ = by (bytes_eq (spelling p) (spelling q)) refl
  where
    by : (b : Bool) → bytes_eq (spelling p) (spelling q) ≡ b → b ≡ false
    by false is = refl
    by true is =
        absurd (differ (same_Some p q (sym (plain_again p) ∙ ap plain_of ((bytes_eq-Decides (spelling p) (spelling q)).0 is) ∙ plain_again q)))

-- a name that is spelled so, where this was found
abbrev pub is_found : Plain → Option Plain → Bool
is_found p o = option_map_or (λ q. bytes_eq (spelling q) (spelling p)) o false

pub spelled_as_found : (p : Plain) (n : List ℕ) → bytes_eq n (spelling p) ≡ is_found p (plain_of n)
spelled_as_found p n = by (plain_of n) refl
  where
    other : (b : Bool) → bytes_eq n (spelling p) ≡ b → plain_of n ≡ None → b ≡ false
    other false is none = refl
    other true is none = absurd (none-some p (sym none ∙ ap plain_of ((bytes_eq-Decides n (spelling p)).0 is) ∙ plain_again p))

    by : (o : Option Plain) → plain_of n ≡ o → bytes_eq n (spelling p) ≡ is_found p o
    by (Some q) is = ap (λ m. bytes_eq m (spelling p)) (plain_is n q is)
    by None is = other (bytes_eq n (spelling p)) refl is

-- ---- a list of things whose names differ, and a name
module _ {X : Type 0} (name : X → List ℕ) where
  abbrev is_named : List ℕ → X → Bool
  is_named n x = bytes_eq n (name x)

  abbrev are_apart : List X → Bool
  are_apart [] = true
  are_apart (x ∷ xs) = not (list_any (is_named (name x)) xs) && are_apart xs

  -- nothing that comes later has the name of the first
  only_first : (n : List ℕ) (x : X) (xs : List X) → bytes_eq n (name x) ≡ true → not (list_any (is_named (name x)) xs) ≡ true → list_any (is_named n) xs ≡ false
  only_first n x xs is apart =
      subst (λ m. list_any (is_named m) xs ≡ false) (sym ((bytes_eq-Decides n (name x)).0 is)) (not-true (list_any (is_named (name x)) xs) apart)

  -- some are there of which one has the name
  any_is_some : (n : List ℕ) (xs : List X) → list_any (bytes_eq n) (map name xs) ≡ is_some (find (is_named n) xs)
  any_is_some n [] = refl
  any_is_some n (x ∷ xs) = by (bytes_eq n (name x)) (any_is_some n xs)
    where
      by : (b : Bool) → list_any (bytes_eq n) (map name xs) ≡ is_some (find (is_named n) xs) → (b || list_any (bytes_eq n) (map name xs)) ≡ is_some (cond b (Some x) (find (is_named n) xs))
      by true more = refl
      by false more = more

  -- those that pass a test
  none_passes : (n : List ℕ) (test : X → Bool) (xs : List X) → list_any (is_named n) xs ≡ false → list_any (bytes_eq n) (map name (filter test xs)) ≡ false
  none_passes n test [] h = refl
  none_passes n test (x ∷ xs) h = let both = or_parts (is_named n x) (list_any (is_named n) xs) h in by (test x) both.0 (none_passes n test xs both.1)
    where
      by : (t : Bool) → bytes_eq n (name x) ≡ false → list_any (bytes_eq n) (map name (filter test xs)) ≡ false → list_any (bytes_eq n) (map name (cond t (x ∷ filter test xs) (filter test xs))) ≡ false
      by true other rest = λ i. other i || rest i
      by false other rest = rest

  passes_as_found : (n : List ℕ) (test : X → Bool) (xs : List X) → are_apart xs ≡ true → list_any (bytes_eq n) (map name (filter test xs)) ≡ option_map_or test (find (is_named n) xs) false
  passes_as_found n test [] h = refl
  passes_as_found n test (x ∷ xs) h =
      let both = and_parts (not (list_any (is_named (name x)) xs)) (are_apart xs) h in
      by (test x) refl (bytes_eq n (name x)) refl both.0 (passes_as_found n test xs both.1)
    where
      by : (t : Bool) → test x ≡ t → (b : Bool) → bytes_eq n (name x) ≡ b → not (list_any (is_named (name x)) xs) ≡ true → list_any (bytes_eq n) (map name (filter test xs)) ≡ option_map_or test (find (is_named n) xs) false → list_any (bytes_eq n) (map name (cond t (x ∷ filter test xs) (filter test xs))) ≡ option_map_or test (cond b (Some x) (find (is_named n) xs)) false
      by true t true is apart more = (λ i. is i || list_any (bytes_eq n) (map name (filter test xs))) ∙ sym t
      by true t false is apart more = (λ i. is i || list_any (bytes_eq n) (map name (filter test xs))) ∙ more
      by false t true is apart more = none_passes n test xs (only_first n x xs is apart) ∙ sym t
      by false t false is apart more = more

  -- those of which something is said
  abbrev said_by : {A : Type 0} → (X → Option A) → List X → List (List ℕ × A)
  said_by said xs = filter_map (λ x. option_map (λ a. (name x, a)) (said x)) xs

  with_entry : {A : Type 0} (n m : List ℕ) (a : A) (b : Bool) (es : List (List ℕ × A)) → bytes_eq n m ≡ b → look_up ((m, a) ∷ es) n ≡ cond b (Some a) (look_up es n)
  with_entry n m a true es is = λ i. option_map (λ e. e.1) (cond (is i) (Some (m, a)) (find (λ e. bytes_eq n e.0) es))
  with_entry n m a false es is = λ i. option_map (λ e. e.1) (cond (is i) (Some (m, a)) (find (λ e. bytes_eq n e.0) es))

  none_said : {A : Type 0} (n : List ℕ) (said : X → Option A) (xs : List X) → list_any (is_named n) xs ≡ false → look_up (said_by said xs) n ≡ None
  none_said n said [] h = refl
  none_said {A = A} n said (x ∷ xs) h = let both = or_parts (is_named n x) (list_any (is_named n) xs) h in by (said x) both.0 (none_said n said xs both.1)
    where
      by : (s : Option A) → bytes_eq n (name x) ≡ false → look_up (said_by said xs) n ≡ None → look_up (cons_option (option_map (λ a. (name x, a)) s) (said_by said xs)) n ≡ None
      by (Some a) other rest = with_entry n (name x) a false (said_by said xs) other ∙ rest
      by None other rest = rest

  said_as_found : {A : Type 0} (n : List ℕ) (said : X → Option A) (xs : List X) → are_apart xs ≡ true → look_up (said_by said xs) n ≡ option_and_then said (find (is_named n) xs)
  said_as_found n said [] h = refl
  said_as_found {A = A} n said (x ∷ xs) h =
      let both = and_parts (not (list_any (is_named (name x)) xs)) (are_apart xs) h in
      by (said x) refl (bytes_eq n (name x)) refl both.0 (said_as_found n said xs both.1)
    where
      by : (s : Option A) → said x ≡ s → (b : Bool) → bytes_eq n (name x) ≡ b → not (list_any (is_named (name x)) xs) ≡ true → look_up (said_by said xs) n ≡ option_and_then said (find (is_named n) xs) → look_up (cons_option (option_map (λ a. (name x, a)) s) (said_by said xs)) n ≡ option_and_then said (cond b (Some x) (find (is_named n) xs))
      by (Some a) s true is apart more = with_entry n (name x) a true (said_by said xs) is ∙ sym s
      by (Some a) s false is apart more = with_entry n (name x) a false (said_by said xs) is ∙ more
      by None s true is apart more = none_said n said xs (only_first n x xs is apart) ∙ sym s
      by None s false is apart more = more

-- ---- what lists made of the table say of a name
pub any_plain : (n : List ℕ) → list_any (bytes_eq n) (map spelling plains) ≡ is_some (plain_of n)
unfolding plain_of
any_plain n = any_is_some spelling n plains

pub passing_plain : (test : Plain → Bool) (n : List ℕ) → list_any (bytes_eq n) (map spelling (filter test plains)) ≡ option_map_or test (plain_of n) false
unfolding plain_of
passing_plain test n = passes_as_found spelling n test plains refl

pub said_of_plain : {A : Type 0} (said : Plain → Option A) (n : List ℕ) → look_up (entries said) n ≡ option_and_then said (plain_of n)
unfolding plain_of
said_of_plain said n = said_as_found spelling n said plains refl
