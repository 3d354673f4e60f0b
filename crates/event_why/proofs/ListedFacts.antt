-- Lists of one, two or three facts.
use Rattle.std.proofs.Common.{◌≡◌, ◌==◌, ℕ, Bool, true, false, List, [], ◌∷◌, map, length, get_or, Option, Some, None, refl, sym, ap, subst, ◌∙◌, arith}
use Rattle.std.proofs.lemmas.Bool.{eqb-true, false≢true}
use Rattle.std.proofs.lemmas.Option.{none-some, same_Some}
use Rattle.flat_core.specs.declared.equation.Op.{Op}
use Rattle.flat_core.specs.declared.equation.Op.TheVariants as op
use Rattle.flat_core.specs.inner.Arity.{HasArity}
use Rattle.why_rules.specs.Facts.{Fact}
use Rattle.event_why.specs.inner.Named.{one_of, three_of, two_of}

pub one_is : (fs : List Fact) (f : Fact) → one_of fs ≡ Some f → fs ≡ f ∷ []
one_is [] f is = absurd (none-some f is)
one_is (g ∷ []) f is = ap (λ h. h ∷ []) (same_Some g f is)
one_is (g ∷ h ∷ fs) f is = absurd (none-some f is)

pub not_one : (fs : List Fact) (f : Fact) → one_of fs ≡ None → ¬ (fs ≡ f ∷ [])
not_one fs f none is = none-some f (sym none ∙ ap one_of is)

pub two_is : (fs : List Fact) (f g : Fact) → two_of fs ≡ Some (f, g) → fs ≡ f ∷ g ∷ []
two_is [] f g is = absurd (none-some (f, g) is)
two_is (a ∷ []) f g is = absurd (none-some (f, g) is)
two_is (a ∷ b ∷ []) f g is =
    let same = same_Some (a, b) (f, g) is in
    λ k. (same k).0 ∷ (same k).1 ∷ []
two_is (a ∷ b ∷ c ∷ fs) f g is = absurd (none-some (f, g) is)

pub not_two : (fs : List Fact) (f g : Fact) → two_of fs ≡ None → ¬ (fs ≡ f ∷ g ∷ [])
not_two fs f g none is = none-some (f, g) (sym none ∙ ap two_of is)

pub three_is : (fs : List Fact) (f g h : Fact) → three_of fs ≡ Some (f, g, h) → fs ≡ f ∷ g ∷ h ∷ []
three_is [] f g h is = absurd (none-some (f, g, h) is)
three_is (a ∷ []) f g h is = absurd (none-some (f, g, h) is)
three_is (a ∷ b ∷ []) f g h is = absurd (none-some (f, g, h) is)
three_is (a ∷ b ∷ c ∷ []) f g h is =
    let same = same_Some (a, b, c) (f, g, h) is in
    λ k. (same k).0 ∷ (same k).1 ∷ (same k).2 ∷ []
three_is (a ∷ b ∷ c ∷ d ∷ fs) f g h is = absurd (none-some (f, g, h) is)

pub not_three : (fs : List Fact) (f g h : Fact) → three_of fs ≡ None → ¬ (fs ≡ f ∷ g ∷ h ∷ [])
not_three fs f g h none is = none-some (f, g, h) (sym none ∙ ap three_of is)

-- lists that are equal have equal parts
head_or : Fact → List Fact → Fact
head_or d [] = d
head_or d (f ∷ fs) = f

rest_of : List Fact → List Fact
rest_of [] = []
rest_of (f ∷ fs) = fs

pub same_head : (f g : Fact) (fs gs : List Fact) → f ∷ fs ≡ g ∷ gs → f ≡ g
unfolding head_or
same_head f g fs gs same = ap (head_or f) same

pub same_rest : (f g : Fact) (fs gs : List Fact) → f ∷ fs ≡ g ∷ gs → fs ≡ gs
unfolding rest_of
same_rest f g fs gs same = ap rest_of same

-- the facts of a step that names one
pub only_fact : (fs : List Fact) (r : Option Fact) (f : Fact) → r ≡ one_of fs → r ≡ Some f → fs ≡ f ∷ []
only_fact fs r f is at = one_is fs f (sym is ∙ at)

-- no fact is named
pub none_listed : {A : Type 0} (g : A → Fact) (xs : List A) (b : Bool) → b ≡ (length xs == 0) → b ≡ true → map g xs ≡ []
none_listed g [] b is none = refl
none_listed g (x ∷ xs) b is none = let none_is = eqb-true (length (x ∷ xs)) 0 (sym is ∙ none) in absurd (omega (arith, none_is))

pub empty_test : {A : Type 0} (g : A → Fact) (xs : List A) (b : Bool) → b ≡ (length xs == 0) → (b ≡ true → map g xs ≡ []) × (map g xs ≡ [] → b ≡ true)
empty_test g [] b is = (λ yes. refl, λ none. is)
empty_test g (x ∷ xs) b is = (λ yes. none_listed g (x ∷ xs) b is yes, λ none. absurd (cc))

pub some_listed : {A : Type 0} (g : A → Fact) (xs : List A) (b : Bool) → b ≡ (length xs == 0) → b ≡ false → map g xs ≡ [] → ⊥
some_listed g xs b is nay none = false≢true (sym nay ∙ (empty_test g xs b is).1 none)

-- two arguments
pub two_exist : (xs : List ℕ) → length xs ≡ 2 → (a : ℕ) × (b : ℕ) × (xs ≡ a ∷ b ∷ [])
two_exist [] long = absurd (omega (arith, long))
two_exist (x ∷ []) long = absurd (omega (arith, long))
two_exist (x ∷ y ∷ []) long = (x, y, refl)
two_exist (x ∷ y ∷ z ∷ xs) long = absurd (omega (arith, long))

pub second_is : (xs ids : List ℕ) (b : ℕ) → length xs ≡ 2 → ids ≡ xs → b ≡ get_or ids 1 b → (a : ℕ) × (xs ≡ a ∷ b ∷ [])
second_is xs ids b long same at =
    let two = two_exist xs long in
    let second : b ≡ two.1 = at ∙ ap (λ l. get_or l 1 b) (same ∙ two.2) in
    (two.0, two.2 ∙ (λ k. two.0 ∷ sym second k ∷ []))

pub two_are : (xs ids others : List ℕ) (a b : ℕ) → length xs ≡ 2 → ids ≡ xs → others ≡ xs → a ≡ get_or ids 0 a → b ≡ get_or others 1 b → xs ≡ a ∷ b ∷ []
two_are xs ids others a b long same also at after =
    let two = two_exist xs long in
    let first : a ≡ two.0 = at ∙ ap (λ l. get_or l 0 a) (same ∙ two.2) in
    let second : b ≡ two.1 = after ∙ ap (λ l. get_or l 1 b) (also ∙ two.2) in
    two.2 ∙ (λ k. sym first k ∷ sym second k ∷ [])

merge_long : (xs : List ℕ) → HasArity op.Merge xs → length xs ≡ 2
merge_long [] h = absurd h
merge_long (x ∷ []) h = absurd h
merge_long (x ∷ y ∷ []) h = refl
merge_long (x ∷ y ∷ z ∷ xs) h = absurd h

last_long : (xs : List ℕ) → HasArity op.Last xs → length xs ≡ 2
last_long [] h = absurd h
last_long (x ∷ []) h = absurd h
last_long (x ∷ y ∷ []) h = refl
last_long (x ∷ y ∷ z ∷ xs) h = absurd h

filter_long : (xs : List ℕ) → HasArity op.Filter xs → length xs ≡ 2
filter_long [] h = absurd h
filter_long (x ∷ []) h = absurd h
filter_long (x ∷ y ∷ []) h = refl
filter_long (x ∷ y ∷ z ∷ xs) h = absurd h

pub merge_two : (o : Op) (xs : List ℕ) → o ≡ op.Merge → HasArity o xs → length xs ≡ 2
merge_two o xs is h = merge_long xs (subst (λ c. HasArity c xs) is h)

pub last_two : (o : Op) (xs : List ℕ) → o ≡ op.Last → HasArity o xs → length xs ≡ 2
last_two o xs is h = last_long xs (subst (λ c. HasArity c xs) is h)

pub filter_two : (o : Op) (xs : List ℕ) → o ≡ op.Filter → HasArity o xs → length xs ≡ 2
filter_two o xs is h = filter_long xs (subst (λ c. HasArity c xs) is h)
