-- What is near an update of a set, by what was near it in a smaller one.
use Rattle.std.proofs.Common.{◌≡◌, ◌↔◌, ◌⊎◌, ◌&&◌, not, ℕ, ◌+◌, ◌<◌, Bool, true, List, [], length, take, refl, sym, ap, subst, ◌∙◌, inl, inr}
use Rattle.std.specs.Prelude.{IsTrue}
use Rattle.std.specs.List.{Contains}
use Rattle.std.proofs.Math.Seq.{take-length}
use Rattle.std.proofs.lemmas.Bool.{cases_Bool, false≢true, and_from, and_parts}
use Rattle.std.proofs.lemmas.Option.{same_Some}
use Rattle.flat_core.specs.Complete.{IsFlat}
use Rattle.flat_core.specs.declared.equation.Equation.{Equation}
use Rattle.flat_core.specs.declared.equation.Op.TheVariants as op
use Rattle.flat_core.specs.inner.Marks.{has_mark}
use Rattle.flat_core.specs.Members.{is_in}
use Rattle.flat_core.specs.System.{System, equation}
use Rattle.flat_core.specs.WellFormed.{IsWellFormed}
use Rattle.flat_core.proofs.Members.{Contains-in}
use Rattle.translation_order.specs.Graph.{Walk, stay, onward}
use Rattle.translation_order.specs.Order.{Before, AreOfSteps}
use Rattle.translation_order.proofs.PathLemmas.{walk_on}
use Rattle.tsl_value.proofs.Lists.{none_in_nil}
use Rattle.alias_rules.specs.Bypass.{PassesOver, GoesAround}
use Rattle.alias_rules.specs.Roots.{Carries, passed, written}
use Rattle.alias_rules.specs.Uses.{written_of, IsWritten}
use Rattle.alias_paths.specs.declared.uses.Uses.{Uses}
use Rattle.alias_paths.specs.inner.Kept.{AreUses}
use Rattle.alias_paths.specs.inner.Marking.{AreJust, AddsMarks, HasMarkedFirst, IsMarkedBy}
use Rattle.alias_paths.specs.inner.Pairs.{ArePairs, Adds, IsWanted, IsGiven}
use Rattle.alias_paths.specs.inner.Search.{AreMarkedIn}
use Rattle.alias_paths.proofs.Adding.{IsIt, adds_as, marks_as, pairs_of, of_steps_from}
use Rattle.alias_paths.proofs.Rooting.{walk_as}
use Rattle.alias_paths.proofs.Using.{taken_low, taker_low}
use Rattle.alias_nears.specs.declared.near.Near.{Near}
use Rattle.alias_nears.specs.inner.Beginning.{NoneIsNil}
use Rattle.alias_nears.specs.inner.Contents.{IsPairAround, IsBegin, IsNear, AreReachedOn, AreClosedOn, IsMarkedBeside, IsNewBeside}
use Rattle.alias_nears.specs.inner.Nears.{IsAdded, IsAddedPair, IsEarlier}
use Rattle.alias_nears.proofs.Bypassing.{near_of, begin_of}
use Rattle.alias_nears.proofs.Larger.{walk_join, near_wider}

-- ---- the writes that are added

abbrev pub GivesAdded : List ℕ → List ℕ → ℕ × ℕ → ℕ → ℕ → Type 0
GivesAdded set smaller p a i = IsWanted (is_in set p.1 && not (is_in smaller p.1)) p.0 p.1 a i

module _ (set smaller : List ℕ) where
  pub added_all : (pairs : List (ℕ × ℕ)) (n : ℕ) (old new : List (ℕ × ℕ)) → n ≡ length pairs → Adds old (IsGiven (take n pairs) (GivesAdded set smaller)) new → Adds old (IsAddedPair pairs set smaller) new
  added_all pairs n old new all h =
      let same : take n pairs ≡ pairs = ap (λ m. take m pairs) all ∙ take-length pairs in
      adds_as old (IsGiven (take n pairs) (GivesAdded set smaller)) (IsAddedPair pairs set smaller) new h
      (λ a i g.
      let wanted : (is_in set i && not (is_in smaller i)) ≡ true = subst (λ j. (is_in set j && not (is_in smaller j)) ≡ true) (sym g.gives.second) g.gives.is_wanted in
      let both = and_parts (is_in set i) (not (is_in smaller i)) wanted in
      record {
        among = subst (λ zs. Contains zs (a, i)) same (subst (Contains (take n pairs)) (λ k. (sym g.gives.first k, sym g.gives.second k)) g.among);
        inside = both.0;
        new = λ there. false≢true (ap not (sym there) ∙ both.1);
      })
      (λ a i g. record {
        item = (a, i);
        among = subst (λ zs. Contains zs (a, i)) (sym same) g.among;
        gives = record {
          is_wanted = and_from (is_in set i) (not (is_in smaller i)) g.inside (elim (cases_Bool (is_in smaller i)) [ inl there ↦ absurd (g.new there) | inr away ↦ ap not away ]);
          first = refl;
          second = refl;
        };
      })

  pub added_are : (s : System) (uses : Uses) (none pairs new : List (ℕ × ℕ)) → AreUses s uses → none ≡ [] → pairs ≡ uses.written → Adds none (IsAddedPair pairs set smaller) new → ArePairs (IsAdded s set smaller) new
  added_are s uses none pairs new are empty is h =
      pairs_of (IsAdded s set smaller) new (adds_as [] (IsAddedPair pairs set smaller) (IsAdded s set smaller) new (subst (λ l. Adds l (IsAddedPair pairs set smaller) new) empty h)
      (λ x a p. record { writes = (are.written.each x a).0 (subst (λ l. Before l x a) is p.among); inside = p.inside; new = p.new })
      (λ x a w. record { among = subst (λ l. Before l x a) (sym is) ((are.written.each x a).1 w.writes); inside = w.inside; new = w.new }))

-- ---- what is near

pub added_of_steps : (s : System) (set : List ℕ) (y : ℕ) (added : List (ℕ × ℕ)) (n : Near) → IsEarlier s set added y n → AreOfSteps (length s.equations) added
added_of_steps s set y added n e = of_steps_from (length s.equations) added (λ x a c. let w = ((e.are_added.each x a).0 c).writes in (taken_low s written_of x a w, taker_low s written_of x a w))

module _ (s : System) (flat : IsFlat s) (formed : IsWellFormed s) (some : NoneIsNil s) (set : List ℕ) (y : ℕ) (added : List (ℕ × ℕ)) (n : Near) (e : IsEarlier s set added y n) where
  -- what was near y still is
  still_near : (x : ℕ) → IsTrue (has_mark n.around x) → IsNear s set y x
  still_near x h = near_wider s flat formed some set e.smaller e.wider y e.inside x ((e.near.around.each x).0 h)

  no_merge : (x a : ℕ) → IsWritten s x a → PassesOver s y a x → ⊥
  no_merge x a w p =
      let one : p.at ≡ w.at = same_Some p.at w.at (sym p.is ∙ w.is) in
      let merges : w.at.op ≡ op.Merge = sym (ap (λ (d : Equation). d.op) one) ∙ p.merges in
      none_in_nil x (subst (λ o. Contains (written_of o w.at.args) x) merges w.argument)

  added_around : (x a : ℕ) → IsAdded s set e.smaller x a → GoesAround s set y x a
  added_around x a w = record {
    carries = written w.inside w.writes;
    avoids = λ itself. w.new (subst (λ z. IsTrue (is_in e.smaller z)) (sym itself) e.inside);
    enters = no_merge x a w.writes;
  }

  near_after : (x a : ℕ) → IsNear s set y x → GoesAround s set y x a → IsNear s set y a
  near_after x a h g = near_of s set y h.origin a (begin_of s set y x h) (walk_on h.around g)

  module _ (carriers : List (ℕ × ℕ)) (are : ArePairs (Carries s set) carriers) (begins more : List Bool) (just : AreJust (length s.equations) (IsBegin s set y) begins) (goes : AddsMarks begins (HasMarkedFirst added n.around) more) where
    before_or_added : (x a : ℕ) → IsTrue (has_mark n.around x) → IsPairAround s y carriers x a → Carries s set x a → IsTrue (has_mark n.around a) ⊎ IsTrue (has_mark more a)
    before_or_added x a h pair (passed p) =
        inl ((e.near.around.each a).1 (near_on x a h (record { carries = passed p; avoids = pair.leads.avoids; enters = pair.leads.enters })))
      where
        near_on : (x a : ℕ) → IsTrue (has_mark n.around x) → GoesAround s e.smaller y x a → IsNear s e.smaller y a
        near_on x a h g = let old = (e.near.around.each x).0 h in near_of s e.smaller y old.origin a (begin_of s e.smaller y x old) (walk_on old.around g)
    before_or_added x a h pair (written inside w) = elim (cases_Bool (is_in e.smaller a)) [
      | inl there ↦
          let old = (e.near.around.each x).0 h in
          inl ((e.near.around.each a).1 (near_of s e.smaller y old.origin a (begin_of s e.smaller y x old) (walk_on old.around (record { carries = written there w; avoids = pair.leads.avoids; enters = pair.leads.enters }))))
      | inr away ↦ inr (goes.there a (record { first = x; among = (e.are_added.each x a).1 (record { writes = w; inside = inside; new = λ there. false≢true (sym away ∙ there) }); marked = h }))
    ]

    pub closed_on : AreClosedOn (IsPairAround s y carriers) n.around more
    closed_on x a h pair = before_or_added x a h pair ((are.each x a).0 pair.among)

    begun_near : (x : ℕ) → IsTrue (has_mark more x) → IsNear s set y x
    begun_near x h = elim (goes.from x h) [
      | inl old ↦ near_of s set y x x ((just.each x).0 old) stay
      | inr new ↦ near_after new.first x (still_near new.first new.marked) (added_around new.first x ((e.are_added.each new.first x).0 new.among))
    ]

    around_of : (a b : ℕ) → IsPairAround s y carriers a b → GoesAround s set y a b
    around_of a b p = record { carries = (are.each a b).0 p.among; avoids = p.leads.avoids; enters = p.leads.enters }

    pair_of : (a b : ℕ) → GoesAround s set y a b → IsPairAround s y carriers a b
    pair_of a b g = record { among = (are.each a b).1 g.carries; leads = record { avoids = g.avoids; enters = g.enters } }

    walked_near : (o x : ℕ) → IsNear s set y o → Walk (IsPairAround s y carriers) o x → IsNear s set y x
    walked_near o x h walk = near_of s set y h.origin x (begin_of s set y o h) (walk_join h.around (walk_as (IsPairAround s y carriers) (GoesAround s set y) around_of walk))

    pub near_on_are : (reached : List Bool) → length reached ≡ length s.equations → AreReachedOn (IsPairAround s y carriers) n.around more reached → AreJust (length s.equations) (IsNear s set y) reached
    near_on_are reached size exact = record {
      one_each = size;
      each = λ x. (
        (λ m. let way = (exact x).0 m in walked_near way.start x (elim way.is_start [ inl old ↦ still_near way.start old | inr new ↦ begun_near way.start new ]) way.walk),
        (λ h. (exact x).1 (record { start = h.origin; is_start = inr (goes.kept h.origin ((just.each h.origin).1 (begin_of s set y x h))); walk = walk_as (GoesAround s set y) (IsPairAround s y carriers) pair_of h.around })),
      );
    }

    pub found_more : (reached : List Bool) → AreReachedOn (IsPairAround s y carriers) n.around more reached → (x : ℕ) → IsTrue (has_mark n.around x) → IsTrue (has_mark reached x)
    found_more reached exact x h = (exact x).1 (record { start = x; is_start = inl h; walk = stay })

-- ---- what is beside

pub added_listed : (P : ℕ → Type 0) (k : ℕ) (listed : List ℕ) (marked old new : List Bool) → k ≡ length listed → AreMarkedIn marked listed → ((x : ℕ) → P x → IsTrue (has_mark marked x)) → AddsMarks old (IsMarkedBy (take k listed) (IsIt P)) new → AddsMarks old P new
added_listed P k listed marked old new all are low h =
    let same : take k listed ≡ listed = ap (λ m. take m listed) all ∙ take-length listed in
    marks_as old (IsMarkedBy (take k listed) (IsIt P)) P new h
    (λ x m. m.marks.has)
    (λ x p. record { item = x; among = subst (λ zs. Contains zs x) (sym same) (Contains-in listed x (are x ∙ low x p)); marks = record { is = refl; has = p } })

pub beside_on_are : (s : System) (y count : ℕ) (found marked known old new : List Bool) → ((x : ℕ) → IsTrue (has_mark found x) → IsTrue (has_mark marked x)) → AreJust count (IsMarkedBeside s y found) known → old ≡ known → AddsMarks old (IsNewBeside s y found marked) new → AreJust count (IsMarkedBeside s y marked) new
beside_on_are s y count found marked known old new more just same h = record {
  one_each = h.one_each ∙ ap length same ∙ just.one_each;
  each = λ x. (
    (λ m. elim (h.from x m) [
      | inl before ↦ let b = (just.each x).0 (sym (ap (λ bs. has_mark bs x) same) ∙ before) in record { marked = more x b.marked; beside = b.beside }
      | inr added ↦ added.beside
    ]),
    (λ b. elim (cases_Bool (has_mark found x)) [
      | inl old_one ↦ h.kept x (ap (λ bs. has_mark bs x) same ∙ (just.each x).1 (record { marked = old_one; beside = b.beside }))
      | inr new_one ↦ h.there x (record { new = λ there. false≢true (sym new_one ∙ there); beside = b })
    ]),
  );
}
