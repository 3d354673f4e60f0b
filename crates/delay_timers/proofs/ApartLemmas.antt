-- The delay that is due first apart from the others.
use Rattle.std.proofs.Common.{◌≡◌, ◌≢◌, ◌==◌, ℕ, ◌<◌, true, false, Option, Some, None, refl, sym, ap, subst, ◌∙◌, inl, inr, arith}
use Rattle.std.proofs.lemmas.Bool.{cases_order, eqb-true, eqb-false}
use Rattle.std.specs.Prelude.{MatchOption, IfNone, IfSome, if◌then◌else◌}
use Rattle.std.specs.Option.{is_some}
use Rattle.std.specs.FinMap as map
use Rattle.std.specs.Ordering.{nat_cmp}
use Rattle.delay_timers.specs.declared.tree.Due.{Due}
use Rattle.delay_timers.specs.inner.Pending.{Times, Pending, AreBelowCapacity, IsLeastTime, NoneIsDueAt, IsLeastDueAt}
use Rattle.delay_timers.specs.inner.Tournament.{ComesFirst, IsBeforeAll, IsFirstDue}
use Rattle.delay_timers.specs.inner.Apart.{with_first, with_others, other_than, CanStandApart, StandsApart, IsApart, IsArranged}
use Rattle.delay_timers.proofs.TournamentLemmas.{up_to_itself, up_to_joins}
use Rattle.delay_timers.proofs.ChangeLemmas.{set_here, set_else, gone_here, gone_else, set_twice, set_after_gone, gone_after_set, none_gone, sets_commute, gone_from_others}

abbrev setting : Pending → ℕ → ℕ → Pending
setting p d t = record { capacity = p.capacity; times = map.insert p.times d t }

abbrev without : Pending → ℕ → Pending
without p d = record { capacity = p.capacity; times = map.remove p.times d }

value_of_some : (t u : ℕ) → Some t ≡ Some u → t ≡ u
value_of_some t u is = cc

nothing_in_empty : (m : Times) (d t : ℕ) → m ≡ map.empty → map.get m d ≡ Some t → ⊥
nothing_in_empty m d t empty is = let none : map.get m d ≡ None = ap (λ n. map.get n d) empty ∙ map.get-empty nat_cmp d in cc

-- what comes before all, after one change of these
pub before_empty : (a : Due) (m : Times) → m ≡ map.empty → IsBeforeAll a m
before_empty a m empty d t is = absurd (nothing_in_empty m d t empty is)

before_after : (a b : Due) (m : Times) → ComesFirst a b → IsBeforeAll b m → IsBeforeAll a m
before_after a b m comes before d t is = up_to_joins (Some a) (Some b) (Some (record { time = t; delay = d })) comes (before d t is)

before_set : (a : Due) (m : Times) (d t : ℕ) → IsBeforeAll a m → ComesFirst a (record { time = t; delay = d }) → IsBeforeAll a (map.insert m d t)
before_set a m d t before comes q u is = elim (cases_order q d) [
  | inl same ↦
      let time : t ≡ u = value_of_some t u (sym (set_here m d t) ∙ ap (map.get (map.insert m d t)) (sym same) ∙ is) in
      record { no_later = omega (arith, comes.no_later, time); tied = λ tie. omega (arith, comes.tied, time, same, tie) }
  | inr other ↦ before q u (sym (set_else m d t q (omega (arith, other))) ∙ is)
]

before_gone : (a : Due) (m : Times) (d : ℕ) → IsBeforeAll a m → IsBeforeAll a (map.remove m d)
before_gone a m d before q u is = elim (cases_order q d) [
  | inl same ↦ let none : map.get (map.remove m d) q ≡ None = ap (map.get (map.remove m d)) same ∙ gone_here m d in absurd (cc)
  | inr other ↦ before q u (sym (gone_else m d q (omega (arith, other))) ∙ is)
]

pub none_yet : (others : Pending) → others.times ≡ map.empty → IsApart None true others
none_yet others empty = record { stands = tt; clear = λ _. empty; bounded = λ d t has. absurd (nothing_in_empty others.times d t empty has) }

-- where no other is pending, whichever stands apart
pub alone : (due : Due) (others : Pending) → due.delay < others.capacity → others.times ≡ map.empty → CanStandApart due others
alone due others there empty = record {
  there = there;
  absent = ap (λ m. map.get m due.delay) empty ∙ map.get-empty nat_cmp due.delay;
  before = before_empty due others.times empty;
}

stands_without : (first : Option Due) (others : Pending) (d : ℕ) → StandsApart first others → StandsApart first (without others d)
stands_without None others d stands = tt
stands_without (Some f) others d stands = record {
  there = stands.there;
  absent = elim (cases_order f.delay d) [
    | inl same ↦ ap (map.get (map.remove others.times d)) same ∙ gone_here others.times d
    | inr other ↦ gone_else others.times d f.delay (omega (arith, other)) ∙ stands.absent
  ];
  before = before_gone f others.times d stands.before;
}

-- it stands apart still where it is another
other_stands : (first : Option Due) (others : Pending) (d : ℕ) → StandsApart first others → StandsApart (other_than first d) others
other_stands None others d stands = tt
other_stands (Some f) others d stands = elim (f.delay == d) as (λ b. StandsApart (if b then None else Some f) others) [ true ↦ tt | false ↦ stands ]

other_differs : (first : Option Due) (d : ℕ) (o : Due) → other_than first d ≡ Some o → o.delay ≢ d
other_differs None d o is = absurd (cc)
other_differs (Some f) d o is =
    elim (f.delay == d) as (λ b. (f.delay == d) ≡ b → (if b then None else Some f) ≡ Some o → o.delay ≢ d) [
      | true ↦ λ _ none. absurd (cc)
      | false ↦ λ differs same. let one : f ≡ o = cc in subst (λ (x : Due). x.delay ≢ d) one (eqb-false _ _ differs)
    ] refl is

-- what stands apart is set over where it is this delay
pub set_over_first : (first : Option Due) (m : Times) (d t : ℕ) → map.insert (with_first (other_than first d) m) d t ≡ map.insert (with_first first m) d t
set_over_first None m d t = refl
set_over_first (Some f) m d t =
    elim (f.delay == d) as (λ b. (f.delay == d) ≡ b → map.insert (with_first (if b then None else Some f) m) d t ≡ map.insert (map.insert m f.delay f.time) d t) [
      | true ↦ λ same. sym (ap (λ e. map.insert (map.insert m e f.time) d t) (eqb-true _ _ same) ∙ set_twice m d f.time t)
      | false ↦ λ _. refl
    ] refl

gone_with_first : (first : Option Due) (m : Times) (d : ℕ) → with_first (other_than first d) (map.remove m d) ≡ map.remove (with_first first m) d
gone_with_first None m d = refl
gone_with_first (Some f) m d =
    elim (f.delay == d) as (λ b. (f.delay == d) ≡ b → with_first (if b then None else Some f) (map.remove m d) ≡ map.remove (map.insert m f.delay f.time) d) [
      | true ↦ λ same. sym (ap (λ e. map.remove (map.insert m e f.time) d) (eqb-true _ _ same) ∙ gone_after_set m d f.time)
      | false ↦ λ differs. sym (gone_from_others m d f.delay f.time (eqb-false _ _ differs))
    ] refl

-- a delay is set, and whether another stands apart was asked
module _ (first : Option Due) (others : Pending) (due : Due) (stands : StandsApart first others) (there : due.delay < others.capacity) (asked : Option Due) (says : asked ≡ other_than first due.delay) where
  over : (r : Option Due) → asked ≡ r → map.insert (with_first r others.times) due.delay due.time ≡ map.insert (with_first first others.times) due.delay due.time
  over r is = ap (λ x. map.insert (with_first x others.times) due.delay due.time) (sym is ∙ says) ∙ set_over_first first others.times due.delay due.time

  module _ (o : Due) (is : asked ≡ Some o) where
    differs : o.delay ≢ due.delay
    differs = other_differs first due.delay o (sym says ∙ is)

    pub it_stands : CanStandApart o others
    it_stands = subst (λ x. StandsApart x others) (sym says ∙ is) (other_stands first others due.delay stands)

    pub stays_apart : ComesFirst o due → (new : Pending) → new ≡ setting others due.delay due.time → IsArranged first others due (Some o) new
    stays_apart comes new put = subst (IsArranged first others due (Some o)) (sym put) (record {
      room = refl;
      times = sets_commute others.times due.delay due.time o.delay o.time (λ same. differs (sym same)) ∙ over (Some o) is;
      stands = record {
        there = it_stands.there;
        absent = set_else others.times due.delay due.time o.delay differs ∙ it_stands.absent;
        before = before_set o others.times due.delay due.time it_stands.before comes;
      };
    })

    pub gives_way : ComesFirst due o → (mid new : Pending) → mid ≡ without others due.delay → new ≡ setting mid o.delay o.time → IsArranged first others due (Some due) new
    gives_way comes mid new gone put = subst (IsArranged first others due (Some due)) (sym (put ∙ ap (λ p. setting p o.delay o.time) gone)) (record {
      room = refl;
      times =
          ap (λ m. map.insert m due.delay due.time) (sym (gone_from_others others.times due.delay o.delay o.time differs))
          ∙ set_after_gone (map.insert others.times o.delay o.time) due.delay due.time
          ∙ over (Some o) is;
      stands = record {
        there = there;
        absent = set_else (map.remove others.times due.delay) o.delay o.time due.delay (λ same. differs (sym same)) ∙ gone_here others.times due.delay;
        before = before_set due (map.remove others.times due.delay) o.delay o.time
            (before_gone due others.times due.delay (before_after due o others.times comes it_stands.before)) comes;
      };
    })

  module _ (is : asked ≡ None) where
    pub is_put_apart : IsBeforeAll due others.times → (new : Pending) → new ≡ without others due.delay → IsArranged first others due (Some due) new
    is_put_apart before new gone = subst (IsArranged first others due (Some due)) (sym gone) (record {
      room = refl;
      times = set_after_gone others.times due.delay due.time ∙ over None is;
      stands = record { there = there; absent = gone_here others.times due.delay; before = before_gone due others.times due.delay before };
    })

    pub joins_others : (new : Pending) → new ≡ setting others due.delay due.time → IsArranged first others due None new
    joins_others new put = subst (IsArranged first others due None) (sym put) (record { room = refl; times = over None is; stands = tt })

-- what stands apart, seen with the others
module _ (first : Option Due) (others shown : Pending) (seen : with_others first others ≡ shown) (stands : StandsApart first others) where
  pub is_set_alone : (due : Due) → other_than first due.delay ≡ None → with_others (Some due) others ≡ setting shown due.delay due.time
  is_set_alone due none =
      ap (λ m. let p : Pending = record { capacity = others.capacity; times = m } in p)
      (ap (λ x. map.insert (with_first x others.times) due.delay due.time) (sym none) ∙ set_over_first first others.times due.delay due.time)
      ∙ ap (λ p. setting p due.delay due.time) seen

  pub is_arranged : (due : Due) (new_first : Option Due) (new : Pending) → IsArranged first others due new_first new → with_others new_first new ≡ setting shown due.delay due.time
  is_arranged due new_first new done =
      ap (λ c. let p : Pending = record { capacity = c; times = with_first new_first new.times } in p) done.room
      ∙ ap (λ m. let p : Pending = record { capacity = others.capacity; times = m } in p) done.times
      ∙ ap (λ p. setting p due.delay due.time) seen

  pub is_cancelled : (d : ℕ) (asked : Option Due) (new : Pending) → asked ≡ other_than first d → new ≡ without others d → with_others asked new ≡ without shown d
  is_cancelled d asked new says gone =
      ap (λ x. with_others x new) says ∙ ap (with_others (other_than first d)) gone
      ∙ ap (λ m. let p : Pending = record { capacity = others.capacity; times = m } in p) (gone_with_first first others.times d)
      ∙ ap (λ p. without p d) seen

  pub stands_cancelled : (d : ℕ) (asked : Option Due) (new : Pending) → asked ≡ other_than first d → new ≡ without others d → StandsApart asked new
  stands_cancelled d asked new says gone =
      subst (λ x. StandsApart x new) (sym says) (subst (StandsApart (other_than first d)) (sym gone) (stands_without (other_than first d) others d (other_stands first others d stands)))

  -- one stands apart
  module _ (f : Due) (is : first ≡ Some f) where
    shown_is : setting others f.delay f.time ≡ shown
    shown_is = ap (λ x. with_others x others) (sym is) ∙ seen

    it_can : CanStandApart f others
    it_can = subst (λ x. StandsApart x others) is stands

    pub at_first : (d : ℕ) → f.delay ≡ d → Some f.time ≡ map.get shown.times d
    at_first d same = sym (set_here others.times f.delay f.time) ∙ ap (map.get (map.insert others.times f.delay f.time)) same ∙ ap (λ (p : Pending). map.get p.times d) shown_is

    pub at_other : (d : ℕ) → f.delay ≢ d → map.get others.times d ≡ map.get shown.times d
    at_other d differs = sym (set_else others.times f.delay f.time d (λ same. differs (sym same))) ∙ ap (λ (p : Pending). map.get p.times d) shown_is

    pub is_first : IsFirstDue shown.times f
    is_first = record {
      is_due = sym (at_first f.delay refl);
      first = subst (λ (p : Pending). IsBeforeAll f p.times) shown_is (before_set f others.times f.delay f.time it_can.before (up_to_itself (Some f)));
    }

    pub all_below_capacity : AreBelowCapacity others → AreBelowCapacity shown
    all_below_capacity below = subst AreBelowCapacity shown_is (λ q t has. elim (cases_order q f.delay) [
      | inl same ↦ omega (arith, same, it_can.there)
      | inr other ↦ below q t (sym (set_else others.times f.delay f.time q (omega (arith, other))) ∙ has)
    ])

    pub first_is_taken : others ≡ without shown f.delay
    first_is_taken =
        ap (λ m. let p : Pending = record { capacity = others.capacity; times = m } in p) (none_gone others.times f.delay it_can.absent ∙ sym (gone_after_set others.times f.delay f.time))
        ∙ ap (λ p. without p f.delay) shown_is

    module _ (at : ℕ) (earlier : f.time < at) where
      due_in_others : (d : ℕ) → map.get shown.times d ≡ Some at → map.get others.times d ≡ Some at
      due_in_others d has = elim (cases_order f.delay d) [
        | inl same ↦ let time : f.time ≡ at = value_of_some f.time at (at_first d same ∙ has) in absurd (omega (arith, time, earlier))
        | inr other ↦ at_other d (omega (arith, other)) ∙ has
      ]

      differs_from_due : (d t : ℕ) → map.get others.times d ≡ Some t → f.delay ≢ d
      differs_from_due d t has same = let none : map.get others.times d ≡ None = ap (map.get others.times) (sym same) ∙ it_can.absent in cc

      pub due_later : (r : Option ℕ) → MatchOption r (NoneIsDueAt others.times at) (IsLeastDueAt others.times at) → MatchOption r (NoneIsDueAt shown.times at) (IsLeastDueAt shown.times at)
      due_later None none = λ d has. none d (due_in_others d has)
      due_later (Some d) least = record {
        is_due = sym (at_other d (differs_from_due d at least.is_due)) ∙ least.is_due;
        least = λ other below has. least.least other below (due_in_others other has);
      }

      pub taken_later : (r : Option ℕ) (new : Pending) → MatchOption r (NoneIsDueAt others.times at) (IsLeastDueAt others.times at) → IfSome r (λ d. new ≡ without others d) → IfSome r (λ d. with_others first new ≡ without shown d)
      taken_later None new due taken = tt
      taken_later (Some d) new due taken =
          ap (with_others first) taken
          ∙ ap (λ x. with_others x (without others d)) is
          ∙ ap (λ m. let p : Pending = record { capacity = others.capacity; times = m } in p) (sym (gone_from_others others.times d f.delay f.time (differs_from_due d at due.is_due)))
          ∙ ap (λ p. without p d) shown_is

  pub stands_after : (r : Option ℕ) (new : Pending) → IfSome r (λ d. new ≡ without others d) → IfNone r (new ≡ others) → StandsApart first new
  stands_after None new taken none = subst (StandsApart first) (sym none) stands
  stands_after (Some d) new taken none = subst (StandsApart first) (sym taken) (stands_without first others d stands)

-- what is due first at just this time is the least, and where it is due later none is
pub first_is_least_at : (times : Times) (f : Due) (at : ℕ) → IsFirstDue times f → f.time ≡ at → IsLeastDueAt times at f.delay
first_is_least_at times f at first same = record {
  is_due = first.is_due ∙ ap Some same;
  least = λ other below has. absurd (omega (arith, (first.first other at has).tied, same, below));
}

pub none_before_first : (times : Times) (f : Due) (at : ℕ) → IsFirstDue times f → at < f.time → NoneIsDueAt times at
none_before_first times f at first later d has = absurd (omega (arith, (first.first d at has).no_later, later))

pub least_of_first : (times : Times) (f : Due) → IsFirstDue times f → IsLeastTime times f.time
least_of_first times f first = record { is_due = (f.delay, first.is_due); least = λ d t has. (first.first d t has).no_later }

-- before any, where there is none
pub before_none : (due : Due) (first : Option Due) (times : Times) → first ≡ None → MatchOption first (times ≡ map.empty) (IsFirstDue times) → IsBeforeAll due times
before_none due first times is found = before_empty due times (subst (λ x. MatchOption x (times ≡ map.empty) (IsFirstDue times)) is found)

pub before_one : (due f : Due) (times : Times) → ComesFirst due f → IsFirstDue times f → IsBeforeAll due times
before_one due f times comes first = before_after due f times comes first.first

pub gone_of_none : (others : Pending) (d : ℕ) → others.times ≡ map.empty → others ≡ without others d
gone_of_none others d empty =
    ap (λ m. let p : Pending = record { capacity = others.capacity; times = m } in p) (none_gone others.times d (ap (λ m. map.get m d) empty ∙ map.get-empty nat_cmp d))

pub asked_none : (asked : Option Due) → is_some asked ≡ false → asked ≡ None
asked_none None _ = refl
asked_none (Some _) is = absurd (cc)
