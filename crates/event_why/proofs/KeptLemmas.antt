-- The first arguments of lasts that run are marked.
use Rattle.std.proofs.Common.{◌≡◌, ℕ, zero, suc, ◌+◌, ◌<◌, ◌≤◌, Bool, true, false, List, [], ◌∷◌, ◌++◌, drop, length, take, Some, refl, sym, ap, subst, ◌∙◌, inl, inr, arith, get_or-set_same, get_or-set_other}
use Rattle.std.proofs.lemmas.Bool.{cases_lt, false≢true}
use Rattle.std.proofs.lemmas.List.{drop_all, take_all}
use Rattle.std.proofs.lemmas.Option.{none-some, same_Some, slice_get_within}
use Rattle.std.proofs.Math.ListN.{length-set}
use Rattle.std.specs.Prelude.{IsTrue, replicate, slice_set}
use Rattle.std.specs.List.{Contains}
use Rattle.tsl_value.proofs.Lists.{contains_at}
use Rattle.flat_core.specs.declared.equation.Op.{Op}
use Rattle.flat_core.specs.declared.equation.Op.TheVariants as op
use Rattle.flat_core.specs.declared.equation.Equation.{Equation}
use Rattle.flat_core.specs.Complete.{IsFlat}
use Rattle.flat_core.specs.System.{System, equation, runs}
use Rattle.flat_core.proofs.Members.{all_at}
use Rattle.flat_core.proofs.Shapes.{one_equation, running_args}
use Rattle.event_why.specs.inner.Tale.{AreKept, IsKeptBy, KeepsOne, is_kept, kept_arg}
use Rattle.event_why.proofs.TaleLemmas.{same_or_not}

pub record AreKeptBelow (s : System) (n : ℕ) (kept : List Bool) : Type 0 where
  pub first : (i v : ℕ) → i < n → IsKeptBy s i v → v < length kept → IsTrue (is_kept kept v)
  pub only : (v : ℕ) → IsTrue (is_kept kept v) → (i : ℕ) × IsKeptBy s i v

none_kept : (n v : ℕ) → is_kept (replicate n false) v ≡ false
none_kept zero v = refl
none_kept (suc n) zero = refl
none_kept (suc n) (suc v) = none_kept n v

pub kept_start : (s : System) (n : ℕ) → AreKeptBelow s 0 (replicate n false)
kept_start s n = record {
  first = λ i v lt k there. absurd (omega arith);
  only = λ v is. absurd (false≢true (sym (none_kept n v) ∙ is));
}

pub kept_next : (s : System) (n m : ℕ) (old new : List Bool) → m ≡ n + 1 → KeepsOne s n old new → AreKeptBelow s n old → AreKeptBelow s m new
kept_next s n m old new m_is one below = record {
  first = λ i v lt k there.
      let count = one.count in
      elim (cases_lt i n) [
        | inl before ↦ one.more v (below.first i v before k (omega (arith, there, count)))
        | inr last ↦
            let same : i ≡ n = omega (arith, last, lt, m_is) in
            one.first v (subst (λ j. IsKeptBy s j v) same k) (omega (arith, there, count))
      ];
  only = λ v is. elim (one.only v is) [
    | inl before ↦ below.only v before
    | inr here ↦ (n, here)
  ];
}

-- what is written back to a list of the same length
pub written_back : (new old : List Bool) (len : ℕ) → length new ≡ length old → len ≡ length old → take len (new ++ drop (length new) old) ≡ new
written_back new old len same long =
    let none : drop (length new) old ≡ [] = drop_all (length new) old (omega (arith, same)) in
    ap (λ xs. take len (new ++ xs)) none ∙ ap (take len) (append_empty new) ∙ take_all len new (omega (arith, same, long))
  where
    append_empty : (xs : List Bool) → xs ++ [] ≡ xs
    append_empty [] = refl
    append_empty (x ∷ xs) = ap (λ ys. x ∷ ys) (append_empty xs)

-- a last's first argument is one
first_contained : (o : Op) (args : List ℕ) (v : ℕ) → kept_arg o args ≡ Some v → Contains args v
first_contained op.Last args v is = contains_at args 0 v is
first_contained o args v is = absurd (none-some v is)

runs_kept : (s : System) → IsFlat s → (i v : ℕ) → IsKeptBy s i v → IsTrue (runs s v)
runs_kept s whole i v k =
    all_at (λ a. IsTrue (runs s a)) k.at.args (running_args s whole.proper i k.at k.run k.is) v (first_contained k.at.op k.at.args v k.first)

pub kept_end : (s : System) → IsFlat s → (n : ℕ) (kept : List Bool) → length s.equations ≤ n → length kept ≡ length s.equations → AreKeptBelow s n kept → AreKept s kept
kept_end s whole n kept end count below = record {
  first = λ i e run is op_is a r args_are.
      let k : IsKeptBy s i a = record { run = run; at = e; is = is; first = (λ j. kept_arg (op_is j) (args_are j)) } in
      let low = slice_get_within s.equations i e is in
      let found = whole.proper.runs_all a (runs_kept s whole i a k) in
      let there = slice_get_within s.equations a found.0 found.1 in
      below.first i a (omega (arith, low, end)) k (omega (arith, there, count));
  runs_too = λ v is. let found = below.only v is in runs_kept s whole found.0 v found.1;
}

-- ---- one equation
module _ (s : System) (i : ℕ) (kept : List Bool) where
  -- it keeps none that is there
  pub keeps_none : ((v : ℕ) → IsKeptBy s i v → v < length kept → ⊥) → KeepsOne s i kept kept
  keeps_none none = record {
    count = refl;
    more = λ v is. is;
    first = λ v k there. absurd (none v k there);
    only = λ v is. inl is;
  }

  pub keeps_set : (e : Equation) → IsTrue (runs s i) → equation s i ≡ Some e → (v : ℕ) → kept_arg e.op e.args ≡ Some v → v < length kept → KeepsOne s i kept (slice_set kept v true)
  keeps_set e run is v first there = record {
    count = length-set kept v true;
    more = λ w is_set. elim (same_or_not w v) [
      | inl same ↦ ap (is_kept (slice_set kept v true)) same ∙ get_or-set_same kept v true false there
      | inr other ↦ get_or-set_other kept v w true false other ∙ is_set
    ];
    first = λ w k low.
        let one : e ≡ k.at = sym (one_equation s i e k.at is k.is) in
        let same : w ≡ v = same_Some w v (sym k.first ∙ sym (λ j. kept_arg (one j).op (one j).args) ∙ first) in
        ap (is_kept (slice_set kept v true)) same ∙ get_or-set_same kept v true false there;
    only = λ w is_set. elim (same_or_not w v) [
      | inl same ↦ inr (record { run = run; at = e; is = is; first = first ∙ ap Some (sym same) })
      | inr other ↦ inl (sym (get_or-set_other kept v w true false other) ∙ is_set)
    ];
  }
