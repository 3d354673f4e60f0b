-- Carrier edges, and roots by following them backward.
use Rattle.std.proofs.Common.{◌≡◌, ◌↔◌, ℕ, ◌<◌, Bool, true, List, length, take, refl, sym, ap, subst, ◌∙◌, inl, inr}
use Rattle.std.specs.Prelude.{IsTrue}
use Rattle.std.specs.List.{Contains}
use Rattle.std.proofs.Math.Seq.{take-length}
use Rattle.translation_order.specs.Graph.{Walk, stay, onward}
use Rattle.flat_core.specs.inner.Marks.{has_mark}
use Rattle.flat_core.specs.Members.{is_in}
use Rattle.flat_core.specs.System.{System}
use Rattle.translation_order.proofs.PathLemmas.{walk_on}
use Rattle.translation_order.specs.Order.{Before, AreOfSteps}
use Rattle.alias_rules.specs.Uses.{written_of, passed_of, IsWritten}
use Rattle.alias_rules.specs.Roots.{Carries, passed, written}
use Rattle.alias_paths.specs.declared.uses.Uses.{Uses}
use Rattle.alias_paths.specs.inner.Search.{AreReached}
use Rattle.alias_paths.specs.inner.Pairs.{ArePairs, Adds, IsWanted, IsGiven, AreTurned}
use Rattle.alias_paths.specs.inner.Marking.{AreJust, IsChosen, HasMarkedSecond}
use Rattle.alias_paths.specs.inner.Kept.{AreUses}
use Rattle.alias_paths.specs.inner.Contents.{IsInside, IsReachedOrigin, IsRootOfOne, IsRootOfSource}
use Rattle.alias_paths.proofs.Adding.{adds_as, of_steps_from}
use Rattle.alias_paths.proofs.Using.{taken_low, taker_low}

-- ---- carrier edges

abbrev pub GivesInside : List ℕ → ℕ × ℕ → ℕ → ℕ → Type 0
GivesInside set p a i = IsWanted (is_in set p.1) p.0 p.1 a i

pub inside_all : (pairs : List (ℕ × ℕ)) (set : List ℕ) (n : ℕ) (old new : List (ℕ × ℕ)) → n ≡ length pairs → Adds old (IsGiven (take n pairs) (GivesInside set)) new → Adds old (IsInside pairs set) new
inside_all pairs set n old new all h =
    let same : take n pairs ≡ pairs = ap (λ m. take m pairs) all ∙ take-length pairs in
    adds_as old (IsGiven (take n pairs) (GivesInside set)) (IsInside pairs set) new h
    (λ a i g. record {
      among = subst (λ zs. Contains zs (a, i)) same (subst (Contains (take n pairs)) (λ k. (sym g.gives.first k, sym g.gives.second k)) g.among);
      inside = subst (λ j. IsTrue (is_in set j)) (sym g.gives.second) g.gives.is_wanted;
    })
    (λ a i g. record { item = (a, i); among = subst (λ zs. Contains zs (a, i)) (sym same) g.among; gives = record { is_wanted = g.inside; first = refl; second = refl } })

pub carriers_are : (s : System) (set : List ℕ) (uses : Uses) (mid new : List (ℕ × ℕ)) → AreUses s uses → mid ≡ uses.passed → Adds mid (IsInside uses.written set) new → ArePairs (Carries s set) new
carriers_are s set uses mid new are is h = record {
  each = λ a i. (
    (λ c. elim (h.from a i c) [
      | inl before ↦ passed ((are.passed.each a i).0 (subst (λ l. Before l a i) is before))
      | inr more ↦ written more.inside ((are.written.each a i).0 more.among)
    ]),
    carrier a i,
  );
}
  where
    carrier : (a i : ℕ) → Carries s set a i → Before new a i
    carrier a i (passed t) = h.kept a i (subst (λ l. Before l a i) (sym is) ((are.passed.each a i).1 t))
    carrier a i (written inside t) = h.there a i (record { among = (are.written.each a i).1 t; inside = inside })

module _ (s : System) (set : List ℕ) where
  pub carrier_low : (a i : ℕ) → Carries s set a i → (a < length s.equations) × (i < length s.equations)
  carrier_low a i (passed t) = (taken_low s passed_of a i t, taker_low s passed_of a i t)
  carrier_low a i (written inside t) = (taken_low s written_of a i t, taker_low s written_of a i t)

  pub carriers_of_steps : (pairs : List (ℕ × ℕ)) → ArePairs (Carries s set) pairs → AreOfSteps (length s.equations) pairs
  carriers_of_steps pairs are = of_steps_from (length s.equations) pairs (λ a i c. carrier_low a i ((are.each a i).0 c))

pub turned_of_steps : (n : ℕ) (pairs back : List (ℕ × ℕ)) → AreTurned pairs back → AreOfSteps n pairs → AreOfSteps n back
turned_of_steps n pairs back turned of_steps = of_steps_from n back (λ a b c.
    let found = (turned.each a b).0 c in
    let low = of_steps found.0 (b, a) found.1 in
    (subst (λ m. m < n) (ap (λ (q : ℕ × ℕ). q.1) found.2) low.1, subst (λ m. m < n) (ap (λ (q : ℕ × ℕ). q.0) found.2) low.0))

-- ---- walks the other way around

pub walk_back : (E F : ℕ → ℕ → Type 0) → ((a b : ℕ) → E a b → F b a) → {a b : ℕ} → Walk E a b → Walk F b a
walk_back E F turn stay = stay
walk_back E F turn (onward {a} {b} e w) = walk_on (walk_back E F turn w) (turn a b e)

pub walk_as : (E F : ℕ → ℕ → Type 0) → ((a b : ℕ) → E a b → F a b) → {a b : ℕ} → Walk E a b → Walk F a b
walk_as E F to stay = stay
walk_as E F to (onward {a} {b} e w) = onward (to a b e) (walk_as E F to w)

-- ---- roots

module _ (s : System) (set : List ℕ) (pairs back : List (ℕ × ℕ)) (are : ArePairs (Carries s set) pairs) (turned : AreTurned pairs back) (marks before origins : List Bool) (reached : AreReached (Before back) marks before) (found : AreJust (length s.equations) (IsReachedOrigin s set before) origins) where
  forward : (a b : ℕ) → Before back a b → Carries s set b a
  forward a b c = (are.each b a).0 ((turned.each a b).0 c)

  backward : (a b : ℕ) → Carries s set a b → Before back b a
  backward a b c = (turned.each b a).1 ((are.each a b).1 c)

  root_from : (r : ℕ) → IsReachedOrigin s set before r → IsRootOfOne s set marks r
  root_from r o =
      let way = (reached.each r).0 o.marked in
      record { one = way.start; marked = way.is_start; root = record { origin = o.origin; leads = walk_back (Before back) (Carries s set) forward way.walk } }

  to_root : (r : ℕ) → IsRootOfOne s set marks r → IsReachedOrigin s set before r
  to_root r o = record {
    marked = (reached.each r).1 (record { start = o.one; is_start = o.marked; walk = walk_back (Carries s set) (Before back) backward o.root.leads });
    origin = o.root.origin;
  }

  pub roots_are : AreJust (length s.equations) (IsRootOfOne s set marks) origins
  roots_are = record { one_each = found.one_each; each = λ r. (λ h. root_from r ((found.each r).0 h), λ h. (found.each r).1 (to_root r h)) }

-- other words for what is marked
pub just_as : (n : ℕ) (P Q : ℕ → Type 0) (marks : List Bool) → AreJust n P marks → ((x : ℕ) → P x → Q x) → ((x : ℕ) → Q x → P x) → AreJust n Q marks
just_as n P Q marks h to from = record { one_each = h.one_each; each = λ x. (λ m. to x ((h.each x).0 m), λ q. (h.each x).1 (from x q)) }

pub sources_are : (s : System) (uses : Uses) (n y : ℕ) (one marks : List Bool) → AreUses s uses → AreJust n (IsChosen true y) one → AreJust (length one) (HasMarkedSecond uses.written one) marks → AreJust n (λ x. IsWritten s x y) marks
sources_are s uses n y one marks are just h =
    let found = just_as (length one) (HasMarkedSecond uses.written one) (λ x. IsWritten s x y) marks h
    (λ x m. subst (IsWritten s x) ((just.each m.second).0 m.marked).is ((are.written.each x m.second).0 m.among))
    (λ x w. record { second = y; among = (are.written.each x y).1 w; marked = (just.each y).1 (record { is_wanted = refl; is = refl }) }) in
    record { one_each = found.one_each ∙ just.one_each; each = found.each }

pub source_roots_are : (s : System) (set : List ℕ) (y n : ℕ) (sources roots : List Bool) → AreJust n (λ x. IsWritten s x y) sources → AreJust (length s.equations) (IsRootOfOne s set sources) roots → AreJust (length s.equations) (IsRootOfSource s set y) roots
source_roots_are s set y n sources roots just h =
    just_as (length s.equations) (IsRootOfOne s set sources) (IsRootOfSource s set y) roots h
    (λ r o. record { source = o.one; written = (just.each o.one).0 o.marked; root = o.root })
    (λ r o. record { one = o.source; marked = (just.each o.source).1 o.written; root = o.root })

-- a set of the marked equations
pub set_members : (n : ℕ) (P : ℕ → Type 0) (marks read : List Bool) (r : List ℕ) → read ≡ marks → AreJust n P marks → ((i : ℕ) → is_in r i ≡ has_mark read i) → (x : ℕ) → IsTrue (is_in r x) ↔ P x
set_members n P marks read r same just members x = (
  (λ h. (just.each x).0 (sym (ap (λ m. has_mark m x) same) ∙ sym (members x) ∙ h)),
  (λ p. members x ∙ ap (λ m. has_mark m x) same ∙ (just.each x).1 p),
)
