-- The search for facts, among those that a step names, from which its fact follows.
use Rattle.std.proofs.Common.{◌≡◌, ◌↔◌, ℕ, zero, suc, ◌-◌, ◌<◌, ◌≤◌, List, [], ◌∷◌, ◌++◌, length, map, take, Contains, refl, sym, ap, subst, ◌∙◌, inl, inr, arith}
use Rattle.std.proofs.lemmas.List.{append-nil, append_assoc, length-append, take-map, take_at}
use Rattle.std.proofs.lemmas.List.Elements.{Contains-append_cases, Contains-append_left, Contains-append_right, Contains-push, Contains-push_cases}
use Rattle.std.specs.List.{AllByRecursion}
use Rattle.tsl_value.proofs.Lists.{cons_cases, later, none_in_nil}
use Rattle.flat_core.proofs.Members.{all_at, all_from}
use Rattle.why_rules.specs.Facts.{Fact}
use Rattle.event_why.specs.Check.{HaveSame}
use Rattle.event_why.specs.inner.Search.{AreDistinct, EndsWell, InSomeOrder, Lack}
use Rattle.event_why.specs.inner.Search as search_in

-- ---- members

-- a list is split at a member
split_at : (fs : List Fact) (f : Fact) → Contains fs f → (front : List Fact) × (rest : List Fact) × (fs ≡ front ++ f ∷ rest)
split_at [] f c = absurd (none_in_nil f c)
split_at (g ∷ fs) f c = elim (cons_cases g f fs c) [
  | inl same ↦ ([], fs, ap (λ h. h ∷ fs) same)
  | inr rest ↦ let parts = split_at fs f rest in (g ∷ parts.0, parts.1, ap (λ gs. g ∷ gs) parts.2)
]

-- what is not the member that is taken out
other_member : (front rest : List Fact) (f g : Fact) → Contains (front ++ f ∷ rest) g → (f ≡ g → ⊥) → Contains (front ++ rest) g
other_member front rest f g c other = elim (Contains-append_cases front (f ∷ rest) g c) [
  | inl before ↦ Contains-append_left front rest g before
  | inr after ↦ elim (cons_cases f g rest after) [
    | inl same ↦ absurd (other same)
    | inr last ↦ Contains-append_right front rest g last
  ]
]

-- ---- how many are lacking

pub none_lack : (chosen fs : List Fact) → Lack chosen fs 0 → AllByRecursion (Contains chosen) fs
none_lack chosen fs lack = go fs 0 lack refl
  where
    go : (gs : List Fact) (n : ℕ) → Lack chosen gs n → n ≡ 0 → AllByRecursion (Contains chosen) gs
    go gs n search_in.Lack.done none = tt
    go gs n (search_in.Lack.chosen_one {fs = rest} {n = m} c others) none = (c, go rest m others none)
    go gs n (search_in.Lack.other apart others) none = absurd (omega arith)

pub some_lack : (chosen fs : List Fact) (n : ℕ) → Lack chosen fs n → 0 < n → ¬ AllByRecursion (Contains chosen) fs
some_lack chosen fs n search_in.Lack.done some all = absurd (omega arith)
some_lack chosen fs n (search_in.Lack.chosen_one {fs = rest} c others) some all = some_lack chosen rest n others some all.1
some_lack chosen fs n (search_in.Lack.other apart others) some all = apart all.0

-- that many more are needed
needed : (chosen more fs : List Fact) (n : ℕ) → AreDistinct fs → Lack chosen fs n → AllByRecursion (Contains (chosen ++ more)) fs → n ≤ length more
needed chosen more fs n distinct search_in.Lack.done all = omega arith
needed chosen more fs n distinct (search_in.Lack.chosen_one {fs = rest} c others) all = needed chosen more rest n distinct.1 others all.1
needed chosen more fs n distinct (search_in.Lack.other {f = f} {fs = rest} {n = m} apart others) all =
    let found : Contains more f = elim (Contains-append_cases chosen more f all.0) [ inl c ↦ absurd (apart c) | inr c ↦ c ] in
    let parts = split_at more f found in
    let front = parts.0 in
    let back = parts.1 in
    let left : AllByRecursion (Contains (chosen ++ (front ++ back))) rest =
    all_from (Contains (chosen ++ (front ++ back))) rest (λ g c.
    let among = all_at (Contains (chosen ++ more)) rest all.1 g c in
    elim (Contains-append_cases chosen more g among) [
      | inl before ↦ Contains-append_left chosen (front ++ back) g before
      | inr after ↦
          Contains-append_right chosen (front ++ back) g
          (other_member front back f g (subst (λ xs. Contains xs g) parts.2 after) (λ same. distinct.0 (subst (Contains rest) (sym same) c)))
    ]) in
    let fewer = needed chosen (front ++ back) rest m distinct.1 others left in
    let long = ap length parts.2 in
    let long_with = length-append front (f ∷ back) in
    let long_without = length-append front back in
    omega (arith, fewer, long, long_with, long_without)

-- ---- the facts once

pub distinct_push : (fs : List Fact) (f : Fact) → AreDistinct fs → ¬ Contains fs f → AreDistinct (fs ++ f ∷ [])
distinct_push [] f distinct apart = (none_in_nil f, tt)
distinct_push (g ∷ fs) f distinct apart = (
  λ c. elim (Contains-push_cases fs f g c) [
    | inl before ↦ distinct.0 before
    | inr same ↦ apart (0, omega arith, sym same)
  ],
  distinct_push fs f distinct.1 (λ c. apart (later g f fs c)),
)

-- one more that was there, or that is put there
pub same_there : (once fs : List Fact) (f : Fact) → HaveSame once fs → Contains once f → HaveSame once (fs ++ f ∷ [])
same_there once fs f same there g = (
  λ c. Contains-append_left fs (f ∷ []) g ((same g).0 c),
  λ c. elim (Contains-push_cases fs f g c) [
    | inl before ↦ (same g).1 before
    | inr is ↦ subst (Contains once) is there
  ],
)

pub same_push : (once fs : List Fact) (f : Fact) → HaveSame once fs → HaveSame (once ++ f ∷ []) (fs ++ f ∷ [])
same_push once fs f same g = (
  λ c. elim (Contains-push_cases once f g c) [
    | inl before ↦ Contains-append_left fs (f ∷ []) g ((same g).0 before)
    | inr is ↦ subst (Contains (fs ++ f ∷ [])) is (Contains-push fs f)
  ],
  λ c. elim (Contains-push_cases fs f g c) [
    | inl before ↦ Contains-append_left once (f ∷ []) g ((same g).1 before)
    | inr is ↦ subst (Contains (once ++ f ∷ [])) is (Contains-push once f)
  ],
)

-- ---- the search

module _ (P : List Fact → Type 0) (named : List Fact) where
  pub ends_here : (chosen : List Fact) (room : ℕ) → AllByRecursion (Contains chosen) named → P chosen → EndsWell P named chosen room
  ends_here chosen room all has = record {
    more = [];
    few = omega arith;
    among = tt;
    all = subst (λ xs. AllByRecursion (Contains xs) named) (sym (append-nil chosen)) all;
    has = subst P (sym (append-nil chosen)) has;
  }

  all_chosen : (chosen more : List Fact) → length more ≤ 0 → AllByRecursion (Contains (chosen ++ more)) named → P (chosen ++ more) → AllByRecursion (Contains chosen) named × P chosen
  all_chosen chosen [] few all has = (subst (λ xs. AllByRecursion (Contains xs) named) (append-nil chosen) all, subst P (append-nil chosen) has)
  all_chosen chosen (f ∷ more) few all has = absurd (omega arith)

  -- nothing is put to the chosen ones
  pub ended : (chosen : List Fact) → EndsWell P named chosen 0 → AllByRecursion (Contains chosen) named × P chosen
  ended chosen e = all_chosen chosen e.more e.few e.all e.has

  -- where all that are named are chosen
  pub end_test : (chosen : List Fact) → AllByRecursion (Contains chosen) named → P chosen ↔ EndsWell P named chosen 0
  end_test chosen all = (λ has. ends_here chosen 0 all has, λ e. (ended chosen e).1)

  pub not_ended : (chosen : List Fact) (n : ℕ) → Lack chosen named n → 0 < n → ¬ EndsWell P named chosen 0
  not_ended chosen n lack some e = some_lack chosen named n lack some (ended chosen e).0

  pub roomier : (chosen : List Fact) (room : ℕ) → EndsWell P named chosen 0 → EndsWell P named chosen room
  roomier chosen room e = let found = ended chosen e in ends_here chosen room found.0 found.1

  pub too_many : (chosen : List Fact) (room n : ℕ) → AreDistinct named → Lack chosen named n → room < n → ¬ EndsWell P named chosen room
  too_many chosen room n distinct lack many e =
      let some = needed chosen e.more named n distinct lack e.all in
      let few = e.few in
      absurd (omega (arith, some, few, many))

  pub one_next : (chosen : List Fact) (room : ℕ) (f : Fact) → 0 < room → Contains named f → EndsWell P named (chosen ++ f ∷ []) (room - 1) → EndsWell P named chosen room
  one_next chosen room f some c e =
      let few = e.few in
      record {
        more = f ∷ e.more;
        few = omega (arith, few, some);
        among = (c, e.among);
        all = subst (λ xs. AllByRecursion (Contains xs) named) (append_assoc chosen (f ∷ []) e.more) e.all;
        has = subst P (append_assoc chosen (f ∷ []) e.more) e.has;
      }

  pub none_next : (chosen : List Fact) (room : ℕ) → ¬ EndsWell P named chosen 0 → ((f : Fact) → Contains named f → ¬ EndsWell P named (chosen ++ f ∷ []) (room - 1)) → ¬ EndsWell P named chosen room
  none_next chosen room no_end never e = go e.more e.few e.among e.all e.has
    where
      go : (more : List Fact) → length more ≤ room → AllByRecursion (Contains named) more → AllByRecursion (Contains (chosen ++ more)) named → P (chosen ++ more) → ⊥
      go [] few among all has = no_end (record { more = []; few = omega arith; among = tt; all = all; has = has })
      go (f ∷ more) few among all has =
          never f among.0 (record {
            more = more;
            few = omega (arith, few);
            among = among.1;
            all = subst (λ xs. AllByRecursion (Contains xs) named) (sym (append_assoc chosen (f ∷ []) more)) all;
            has = subst P (sym (append_assoc chosen (f ∷ []) more)) has;
          })

-- from the facts once to the facts as they are named
pub found_order : (P : List Fact → Type 0) (once named : List Fact) (room : ℕ) → HaveSame once named → EndsWell P once [] room → InSomeOrder P named
found_order P once named room same e = record {
  uses = e.more;
  same = λ f. (
    λ c. (same f).0 (all_at (Contains once) e.more e.among f c),
    λ c. all_at (Contains e.more) once e.all f ((same f).1 c),
  );
  has = e.has;
}

pub order_found : (P : List Fact → Type 0) (once named : List Fact) (room : ℕ) → HaveSame once named → ((us : List Fact) → P us → length us ≤ room) → InSomeOrder P named → EndsWell P once [] room
order_found P once named room same few o = record {
  more = o.uses;
  few = few o.uses o.has;
  among = all_from (Contains once) o.uses (λ f c. (same f).1 ((o.same f).0 c));
  all = all_from (Contains o.uses) once (λ f c. (o.same f).1 ((same f).0 c));
  has = o.has;
}

-- as they are named
pub as_named : (P : List Fact → Type 0) (named : List Fact) → P named → InSomeOrder P named
as_named P named has = record { uses = named; same = λ f. (λ c. c, λ c. c); has = has }

-- no fact is lacking
pub all_among : (chosen fs : List Fact) (n : ℕ) → Lack chosen fs n → n ≤ 0 → AllByRecursion (Contains chosen) fs
all_among chosen fs n lack none =
    let same : n ≡ 0 = omega arith in
    none_lack chosen fs (subst (Lack chosen fs) same lack)

-- what was put is taken off again
pub cut_back : {X : Type 0} (say : X → Fact) (xs : List X) (front : List Fact) (f : Fact) (n : ℕ) → length front ≡ n → map say xs ≡ front ++ f ∷ [] → map say (take n xs) ≡ front
cut_back say xs front f n long same = sym (take-map say n xs) ∙ ap (take n) same ∙ take_at front (f ∷ []) n long

pub lack_zero : (chosen fs : List Fact) (n : ℕ) → Lack chosen fs n → AllByRecursion (Contains chosen) fs → n ≡ 0
lack_zero chosen fs zero lack all = refl
lack_zero chosen fs (suc n) lack all = absurd (some_lack chosen fs (suc n) lack (omega arith) all)
