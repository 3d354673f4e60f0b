-- Which equations start, by the formulas at time 0.
use Rattle.std.proofs.Common.{◌≡◌, ℕ, zero, suc, ◌<◌, ◌≤◌, ◌↔◌, Bool, true, false, List, [], ◌∷◌, length, get_or, replicate, Option, Some, None, refl, sym, subst, ◌∙◌, inl, inr, arith}
use Rattle.std.specs.Prelude.{IsTrue, slice_get}
use Rattle.std.specs.Option.{option_map_or}
use Rattle.std.proofs.lemmas.Bool.{cases_lt, true≢false, false≢true}
use Rattle.std.proofs.lemmas.List.{get_or-replicate}
use Rattle.std.proofs.lemmas.Option.{slice_get_cases}
use Rattle.flat_core.specs.System.{System}
use Rattle.trigger_rules.specs.declared.atom.Atom.{Atom}
use Rattle.trigger_rules.specs.declared.atom.Atom.TheVariants.{Start, Happens, Holds}
use Rattle.trigger_rules.specs.Formula as formula
use Rattle.trigger_rules.specs.Formula.{Formula, Assignment, Of, Meets, both, no_atom, through, HasAtom}
use Rattle.trigger_rules.specs.Question.{FiresAtZero, StandsAtZero, Starts}
use Rattle.trigger_starts.specs.declared.rules.Rule.{Rule}
use Rattle.trigger_starts.specs.declared.rules.Rule.TheVariants as rule
use Rattle.trigger_starts.specs.inner.AtomLists.{HasAtoms}
use Rattle.trigger_starts.specs.inner.Kept.{AreRulesOf, IsAtomAt, StartsBy}
use Rattle.trigger_starts.specs.inner.Rules.{formula_by, zero_formula_by, either_formula, ruled}
use Rattle.trigger_starts.specs.inner.Truth.{start_alone, IsMet, Started}
use Rattle.trigger_starts.proofs.Gathered.{no_more}
use Rattle.trigger_starts.proofs.Tables.{zero_table_is}
use Rattle.trigger_starts.proofs.Transfer.{DeniesStart, all_denies, any_denies, atom_under, met_more, met_turned}

-- ---- only the start is denied
by_denies : (it : Rule) (x : ℕ) → DeniesStart (formula_by it x)
by_denies rule.Never x = tt
by_denies rule.Start x = tt
by_denies rule.Own x = tt
by_denies (rule.All args) x = all_denies args
by_denies (rule.Any args) x = any_denies args
by_denies (rule.AnyAndOwn args) x = (tt, any_denies args)
by_denies (rule.Filter e c) x = (tt, (tt, tt))
by_denies (rule.Last v r) x = (refl, (tt, tt))
by_denies rule.Delay x = (refl, tt)

zero_denies : (it : Rule) (x : ℕ) → DeniesStart (zero_formula_by it x)
zero_denies (rule.Last v r) x = tt
zero_denies rule.Delay x = tt
zero_denies it x = by_denies it x

either_denies : (at_zero : Bool) (it : Option Rule) (x : ℕ) → DeniesStart (option_map_or (λ it. either_formula at_zero it x) it formula.Never)
either_denies at_zero None x = tt
either_denies true (Some it) x = zero_denies it x
either_denies false (Some it) x = by_denies it x

pub denies : (at_zero : Bool) (rules : List Rule) (x : ℕ) → DeniesStart (ruled at_zero rules x)
denies at_zero rules x = either_denies at_zero (slice_get rules x) x

-- ---- where it is 0, and nothing else is true
least_others : (holds : Assignment) → IsTrue (holds Start) → (a : Atom) → IsTrue (start_alone a) → IsTrue (holds a)
least_others holds start Start h = start
least_others holds start (Happens x) h = absurd (false≢true h)
least_others holds start (Holds x) h = absurd (false≢true h)

-- ---- where it is 0, a formula is that at time 0
module _ (table : ℕ → Formula) (K : ℕ → Type 0) where
  to_zero : (it : Rule) (x : ℕ) → Meets table K start_alone (formula_by it x) → Meets table K start_alone (zero_formula_by it x)
  to_zero (rule.Last v r) x (both (no_atom n) m) = absurd (true≢false n)
  to_zero rule.Delay x (both (no_atom n) m) = absurd (true≢false n)
  to_zero rule.Never x m = m
  to_zero rule.Start x m = m
  to_zero rule.Own x m = m
  to_zero (rule.All args) x m = m
  to_zero (rule.Any args) x m = m
  to_zero (rule.AnyAndOwn args) x m = m
  to_zero (rule.Filter e c) x m = m

  from_zero : (it : Rule) (x : ℕ) → Meets table K start_alone (zero_formula_by it x) → Meets table K start_alone (formula_by it x)
  from_zero (rule.Last v r) x m = elim m [ ]
  from_zero rule.Delay x m = elim m [ ]
  from_zero rule.Never x m = m
  from_zero rule.Start x m = m
  from_zero rule.Own x m = m
  from_zero (rule.All args) x m = m
  from_zero (rule.Any args) x m = m
  from_zero (rule.AnyAndOwn args) x m = m
  from_zero (rule.Filter e c) x m = m

  to_zero_at : (it : Option Rule) (x : ℕ) → Meets table K start_alone (option_map_or (λ it. formula_by it x) it formula.Never) → Meets table K start_alone (option_map_or (λ it. zero_formula_by it x) it formula.Never)
  to_zero_at None x m = m
  to_zero_at (Some it) x m = to_zero it x m

  from_zero_at : (it : Option Rule) (x : ℕ) → Meets table K start_alone (option_map_or (λ it. zero_formula_by it x) it formula.Never) → Meets table K start_alone (option_map_or (λ it. formula_by it x) it formula.Never)
  from_zero_at None x m = m
  from_zero_at (Some it) x m = from_zero it x m

-- ---- what starts
module _ (s : System) (rules : List Rule) (are : AreRulesOf rules s) where
  module _ (none : List Bool) (never : (v : ℕ) → Started none v → ⊥) (x : ℕ) (fires : Bool) (atoms : List Atom) (has : HasAtoms (IsAtomAt true rules none x) atoms) (says : IsTrue fires ↔ IsMet false rules none start_alone x) where
    stands_to : (a : Atom) → HasAtom (ruled true rules) (Started none) a (Of x) → StandsAtZero s x a
    stands_to a h = subst (λ t. HasAtom t (λ v. ⊥) a (Of x)) (zero_table_is s rules are) (atom_under (ruled true rules) (Started none) (λ v. ⊥) a (λ v k. absurd k) h)

    to_stands : (a : Atom) → StandsAtZero s x a → HasAtom (ruled true rules) (Started none) a (Of x)
    to_stands a h = atom_under (ruled true rules) (λ v. ⊥) (Started none) a never (subst (λ t. HasAtom t (λ v. ⊥) a (Of x)) (sym (zero_table_is s rules are)) h)

    on_to : IsTrue fires → FiresAtZero s start_alone x
    on_to on =
        let met = says.0 on in
        subst (λ t. Meets t (λ v. ⊥) start_alone (Of x)) (zero_table_is s rules are)
        (met_turned (ruled false rules) (ruled true rules) (Started none) (λ v. ⊥) start_alone never (λ y m. to_zero_at (ruled true rules) (λ v. ⊥) (slice_get rules y) y m) met)

    to_on : FiresAtZero s start_alone x → IsTrue fires
    to_on there =
        let met = subst (λ t. Meets t (λ v. ⊥) start_alone (Of x)) (sym (zero_table_is s rules are)) there in
        says.1 (met_turned (ruled true rules) (ruled false rules) (λ v. ⊥) (Started none) start_alone (λ v k. k) (λ y m. from_zero_at (ruled false rules) (Started none) (slice_get rules y) y m) met)

    everywhere : FiresAtZero s start_alone x → (holds : Assignment) → IsTrue (holds Start) → FiresAtZero s holds x
    everywhere there holds start =
        let met = subst (λ t. Meets t (λ v. ⊥) start_alone (Of x)) (sym (zero_table_is s rules are)) there in
        subst (λ t. Meets t (λ v. ⊥) holds (Of x)) (zero_table_is s rules are)
        (met_more (ruled true rules) (λ v. ⊥) start_alone holds (least_others holds start) (λ n. absurd (true≢false n)) (denies true rules) met tt)

    pub starts_by : StartsBy atoms fires ↔ Starts s x
    starts_by = (
      λ h. record { few = record { atoms = atoms; all = λ a st. has.there h.0 a (to_stands a st); few = h.0 }; fires = everywhere (on_to h.1) },
      λ starts.
          let short = no_more atoms starts.few.atoms has.different (λ a c. starts.few.all a (stands_to a (has.from a c))) in
          let low = starts.few.few in
          (omega arith, to_on (starts.fires start_alone refl)),
    )

  -- what is no equation does not start
  none_past : (x : ℕ) → length rules ≤ x → Starts s x → ⊥
  none_past x past starts =
      let met : Meets (ruled true rules) (λ v. ⊥) start_alone (Of x) = subst (λ t. Meets t (λ v. ⊥) start_alone (Of x)) (sym (zero_table_is s rules are)) (starts.fires start_alone refl) in
      never (subst (λ o. Meets (ruled true rules) (λ v. ⊥) start_alone (option_map_or (λ it. zero_formula_by it x) o formula.Never)) (slice_get_past rules x past) (unfolded met))
    where
      unfolded : Meets (ruled true rules) (λ v. ⊥) start_alone (Of x) → Meets (ruled true rules) (λ v. ⊥) start_alone (ruled true rules x)
      unfolded (through m) = m

      never : Meets (ruled true rules) (λ v. ⊥) start_alone formula.Never → ⊥
      never m = elim m [ ]

      slice_get_past : (rs : List Rule) (i : ℕ) → length rs ≤ i → slice_get rs i ≡ None
      slice_get_past rs i le = elim ((slice_get_cases rs i).1) [
        | inl found ↦ absurd (let low = found.1 in omega arith)
        | inr beyond ↦ beyond.1
      ]

  -- all of them
  pub starts_are : (starts : List Bool) → length starts ≡ length rules → (by : (x : ℕ) → x < length rules → Started starts x ↔ Starts s x) → (x : ℕ) → Started starts x ↔ Starts s x
  starts_are starts each by x = elim (cases_lt x (length rules)) [
    | inl low ↦ by x low
    | inr past ↦ (
      λ h. absurd (false≢true (sym (get_or_beyond starts x false (omega arith)) ∙ h)),
      λ h. absurd (none_past x past h),
    )
  ]
    where
      get_or_beyond : (bs : List Bool) (i : ℕ) (d : Bool) → length bs ≤ i → get_or bs i d ≡ d
      get_or_beyond [] i d le = refl
      get_or_beyond (b ∷ bs) zero d le = absurd (omega arith)
      get_or_beyond (b ∷ bs) (suc i) d le = get_or_beyond bs i d (omega arith)

-- nothing is kept as starting
pub none_started : (n v : ℕ) → Started (replicate n false) v → ⊥
none_started n v h = elim (cases_lt v n) [
  | inl low ↦ false≢true (sym (get_or-replicate n v false false low) ∙ h)
  | inr past ↦ false≢true (sym (beyond n v past) ∙ h)
]
  where
    beyond : (n v : ℕ) → n ≤ v → get_or (replicate n false) v false ≡ false
    beyond zero v le = refl
    beyond (suc n) zero le = absurd (omega arith)
    beyond (suc n) (suc v) le = beyond n v (omega arith)
