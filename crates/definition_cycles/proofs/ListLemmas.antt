-- Lists that are filtered, and what they contain.
use Rattle.std.proofs.Common.{◌≡◌, ℕ, ◌+◌, ◌<◌, ◌≤◌, ◌⊎◌, List, [], ◌∷◌, ◌++◌, length, get_or, take, drop, Option, Some, None, refl, sym, ap, subst, ◌∙◌, append_assoc, inl, inr, arith}
use Rattle.std.specs.Option.{option_to_list}
use Rattle.std.specs.List.{Contains, cons_option, filter_map}
use Rattle.std.specs.Prelude.{slice_get}
use Rattle.std.proofs.lemmas.List.{append-nil, drop_all, length-take, take-append-le}
use Rattle.std.proofs.lemmas.Option.{slice_get-get_or}
use Rattle.tsl_value.proofs.Lists.{here, later, none_in_nil, cons_cases, left_at}

cons_is : {A : Type 0} (o : Option A) (xs : List A) → cons_option o xs ≡ option_to_list o ++ xs
cons_is None xs = refl
cons_is (Some x) xs = refl

-- a turn of a loop that appends what h gives of each item
pub filtered_step : {X Y : Type 0} (h : X → Option Y) (left rest : List X) (x : X) (o : Option Y) (a b all : List Y) → left ≡ x ∷ rest → o ≡ h x → a ++ filter_map h left ≡ all → b ≡ a ++ option_to_list o → b ++ filter_map h rest ≡ all
filtered_step h left rest x o a b all is gives done more =
    ap (λ l. l ++ filter_map h rest) (more ∙ ap (λ p. a ++ option_to_list p) gives)
    ∙ append_assoc a (option_to_list (h x)) (filter_map h rest)
    ∙ ap (λ l. a ++ l) (sym (ap (filter_map h) is ∙ cons_is (h x) (filter_map h rest)))
    ∙ done

pub filtered_turn : {X Y : Type 0} (h : X → Option Y) (xs : List X) (i : ℕ) (x : X) (o : Option Y) (a b all : List Y) → i < length xs → x ≡ get_or xs i x → o ≡ h x → a ++ filter_map h (drop i xs) ≡ all → b ≡ a ++ option_to_list o → b ++ filter_map h (drop (i + 1) xs) ≡ all
filtered_turn h xs i x o a b all within is gives done more =
    filtered_step h (drop i xs) (drop (i + 1) xs) x o a b all (left_at xs i x within is) gives done more

pub filtered_end : {X Y : Type 0} (h : X → Option Y) (xs : List X) (i : ℕ) (a all : List Y) → length xs ≤ i → a ++ filter_map h (drop i xs) ≡ all → a ≡ all
filtered_end h xs i a all past done = sym (append-nil a) ∙ ap (λ l. a ++ filter_map h l) (sym (drop_all i xs past)) ∙ done

-- what stands in front of a list that grows stays there
pub front_kept : {A : Type 0} (old items more new : List A) → take (length old) items ≡ old → new ≡ items ++ more → take (length old) new ≡ old
front_kept old items more new front grown =
    let le : length old ≤ length items = omega (arith, length-take (length old) items, ap length front) in
    ap (take (length old)) grown ∙ take-append-le (length old) items more le ∙ front

-- ---- Contains and slice_get
pub at_contains : {X : Type 0} (xs : List X) (x : X) → Contains xs x → (k : ℕ) × (slice_get xs k ≡ Some x)
at_contains xs x h = (h.0, slice_get-get_or xs h.0 x h.1 ∙ ap Some h.2)

-- what h gives of an element
in_front : {Y : Type 0} (o : Option Y) (ys : List Y) (y : Y) → o ≡ Some y → Contains (cons_option o ys) y
in_front None ys y p = absurd (cc)
in_front {Y} (Some w) ys y p = let q : w ≡ y = cc in let P : Y → Type 0 = λ v. Contains (w ∷ ys) v in subst P q (here w ys)

after_front : {Y : Type 0} (o : Option Y) (ys : List Y) (y : Y) → Contains ys y → Contains (cons_option o ys) y
after_front None ys y c = c
after_front (Some w) ys y c = later w y ys c

front_cases : {Y : Type 0} (o : Option Y) (ys : List Y) (y : Y) → Contains (cons_option o ys) y → (o ≡ Some y) ⊎ Contains ys y
front_cases None ys y c = inr c
front_cases (Some w) ys y c = elim (cons_cases w y ys c) [ inl q ↦ inl (ap Some q) | inr q ↦ inr q ]

pub in_filtered : {X Y : Type 0} (h : X → Option Y) (xs : List X) (x : X) (y : Y) → Contains xs x → h x ≡ Some y → Contains (filter_map h xs) y
in_filtered h [] x y c e = absurd (none_in_nil x c)
in_filtered h (z ∷ zs) x y c e =
    elim (cons_cases z x zs c) [ inl p ↦ in_front (h z) (filter_map h zs) y (ap h p ∙ e) | inr p ↦ after_front (h z) (filter_map h zs) y (in_filtered h zs x y p e) ]

pub record GivenBy {X Y : Type 0} (h : X → Option Y) (xs : List X) (y : Y) : Type 0 where
  pub from : X
  pub is_there : Contains xs from
  pub gives : h from ≡ Some y

given_after : {X Y : Type 0} (h : X → Option Y) (z : X) (zs : List X) (y : Y) → GivenBy h zs y → GivenBy h (z ∷ zs) y
given_after h z zs y g = record { from = g.from; is_there = later z g.from zs g.is_there; gives = g.gives }

pub from_filtered : {X Y : Type 0} (h : X → Option Y) (xs : List X) (y : Y) → Contains (filter_map h xs) y → GivenBy h xs y
from_filtered h [] y c = absurd (none_in_nil y c)
from_filtered h (z ∷ zs) y c =
    elim (front_cases (h z) (filter_map h zs) y c) [ inl p ↦ record { from = z; is_there = here z zs; gives = p } | inr p ↦ given_after h z zs y (from_filtered h zs y p) ]
