-- What the code of simplification finds out.
use Rattle.std.proofs.Common.{◌≡◌, ◌==◌, ◌||◌, ◌↔◌, ◌⊎◌, ℕ, ◌+◌, ◌<◌, ◌≤◌, zero, suc, Bool, true, false, List, [], ◌∷◌, ◌++◌, map, length, take, get_or, set, Some, refl, sym, ap, subst, ◌∙◌, inl, inr, arith}
use Rattle.std.specs.Prelude.{IsTrue, All}
use Rattle.std.specs.List.{Contains}
use Rattle.std.specs.List.Sorted.{IsStrictlyIncreasing}
use Rattle.std.proofs.lemmas.Bool.{cases_lt, or_cases, or_left, or_right, false≢true, eqb-true, eq-eqb, cases_eq}
use Rattle.std.proofs.lemmas.List.{get_or_default, get_or-set_other, get_or-set_same, length-set, take_more, take_all}
use Rattle.std.proofs.lemmas.List.Folds.{list_any-append}
use Rattle.std.proofs.lemmas.List.Elements.{Contains-append_left, Contains-append_right, Contains-append_cases}
use Rattle.std.proofs.lemmas.Option.{same_Some, get_or_from_slice_get, slice_get_within}
use Rattle.flat_core.specs.declared.equation.Equation.{Equation}
use Rattle.flat_core.specs.declared.equation.Output.{Output}
use Rattle.flat_core.specs.Case.{used_of}
use Rattle.flat_core.specs.Complete.{IsFlat}
use Rattle.flat_core.specs.inner.Dependency.{with_one, IsOrdered, IsRunOrder}
use Rattle.flat_core.specs.Members.{is_in}
use Rattle.translation_order.specs.Graph.{Walk}
use Rattle.flat_core.specs.Needed.{HasArgument, IsReachedFrom}
use Rattle.flat_core.specs.Renumbered.{new_number, with_new_args, with_new_equation, renumbered, AreReplacements}
use Rattle.flat_core.specs.System.{System, runs, equation}
use Rattle.flat_core.specs.TypedSystem.{IsOfType}
use Rattle.flat_core.specs.WellFormed.{IsWellFormed}
use Rattle.flat_core.proofs.Members.{all_at, contains_head}
use Rattle.flat_simplify.specs.CanFault.{can_fault_op, CanFault}
use Rattle.flat_simplify.specs.Replaced.{IsReplaced, StandsFor, IsReplacement}
use Rattle.flat_simplify.specs.Simplified.{IsStart, Remains, IsRenumbered, IsSimplified}
use Rattle.flat_simplify.specs.inner.Laws.{IsFit}
use Rattle.flat_simplify.proofs.Fit.{fit}
use Rattle.flat_simplify.proofs.Stands.{same_type, new_stands_at}
use Rattle.tsl_value.proofs.Lists.{only, contains_map, map_contains}

-- ---- the numbers
module _ (s : System) (flat : IsFlat s) (formed : IsWellFormed s) (replaced : List ℕ) (replacement : IsReplacement s replaced) where
  pub are_replacements : AreReplacements s replaced
  are_replacements = record {
    one_each = replacement.one_each;
    same_type = λ i t of. same_type s flat.complete.typed (new_stands_at s replaced replacement i of.at of.is) t of;
  }

  -- ---- what remains
  module _ (starts running : List ℕ) (are_starts : (i : ℕ) → Contains starts i ↔ IsStart s replaced i) (ascending : IsStrictlyIncreasing running) (members : (i : ℕ) → IsTrue (is_in running i) ↔ IsReachedFrom (map (with_new_args replaced) s.equations) starts i) where
    abbrev u : System
    u = renumbered s replaced running

    remaining : (i : ℕ) → IsReachedFrom u.equations starts i → Remains s u i
    remaining i r = elim ((are_starts r.start).0 r.among) [
      | inl printed ↦
          let output = contains_map (λ (o : Output). new_number replaced o.equation) s.outputs r.start printed in
          inl record { output = with_new_equation replaced output.0; printed = map_contains (with_new_equation replaced) s.outputs output.0 output.1; walk = subst (λ j. Walk (HasArgument u.equations) j i) (sym output.2) r.walk }
      | inr faults ↦ inr record { start = r.start; faults = faults; walk = r.walk }
    ]

    reached : (i : ℕ) → Remains s u i → IsReachedFrom u.equations starts i
    reached i (inl needed) =
        let old = contains_map (with_new_equation replaced) s.outputs needed.output needed.printed in
        let number : new_number replaced old.0.equation ≡ needed.output.equation = ap (λ (o : Output). o.equation) old.2 in
        let printed : Contains (map (λ (o : Output). new_number replaced o.equation) s.outputs) needed.output.equation =
        subst (Contains (map (λ (o : Output). new_number replaced o.equation) s.outputs)) number (map_contains (λ (o : Output). new_number replaced o.equation) s.outputs old.0 old.1) in
        record { start = needed.output.equation; among = (are_starts needed.output.equation).1 (inl printed); walk = needed.walk }
    reached i (inr after) = record { start = after.start; among = (are_starts after.start).1 (inr after.faults); walk = after.walk }

    made : IsRenumbered s replaced u
    made = record {
      equations_are = refl;
      outputs_are = refl;
      ascending = ascending;
      remains = λ i. ((λ run. remaining i ((members i).0 run)), (λ rest. (members i).1 (reached i rest)));
    }

    pub is_fit : IsFit s u
    is_fit = fit s u flat.proper flat.complete.typed formed flat.outputs_run replaced replacement made

    pub is_simplified : IsSimplified s u
    is_simplified = record { replaced = replaced; replacement = replacement; renumbered = made }

  -- they are numbers of equations
  pub starts_below : (starts : List ℕ) → ((i : ℕ) → Contains starts i ↔ IsStart s replaced i) → All (λ i. i < length s.equations) starts
  starts_below starts are k d lt = low (get_or starts k d) ((are (get_or starts k d)).0 (k, lt, get_or_default starts k (get_or starts k d) d lt))
    where
      output_low : (o : Output) → Contains s.outputs o → new_number replaced o.equation < length s.equations
      output_low o c =
          let there = flat.proper.runs_all o.equation (all_at (λ p. IsTrue (runs s p.equation)) s.outputs flat.outputs_run o c) in
          let of : IsOfType s.equations o.equation there.0.of = record { at = there.0; is = there.1; of_is = refl } in
          let new = are_replacements.same_type o.equation there.0.of of in
          slice_get_within s.equations (new_number replaced o.equation) new.at new.is

      low : (i : ℕ) → IsStart s replaced i → i < length s.equations
      low i (inl printed) =
          let output = contains_map (λ (o : Output). new_number replaced o.equation) s.outputs i printed in
          subst (λ j. j < length s.equations) output.2 (output_low output.0 output.1)
      low i (inr faults) = slice_get_within s.equations i faults.at faults.is

-- ---- what can fault
pub record HasFaulting (s : System) (old new : List ℕ) (n : ℕ) : Type 0 where
  pub each : (i : ℕ) → Contains new i ↔ (Contains old i ⊎ (CanFault s i × (i < n)))

pub faulting_none : (s : System) (old : List ℕ) → HasFaulting s old old 0
faulting_none s old = record { each = λ i. ((λ c. inl c), (λ h. elim h [ inl c ↦ c | inr f ↦ absurd (let low = f.1 in omega arith) ])) }

pub faulting_more : (s : System) (old new : List ℕ) (n : ℕ) → HasFaulting s old new n → CanFault s n → HasFaulting s old (new ++ n ∷ []) (n + 1)
faulting_more s old new n h f = record { each = λ i. (to i, from i) }
  where
    to : (i : ℕ) → Contains (new ++ n ∷ []) i → Contains old i ⊎ (CanFault s i × (i < n + 1))
    to i c = elim (Contains-append_cases new (n ∷ []) i c) [
      | inl before ↦ elim ((h.each i).0 before) [ inl o ↦ inl o | inr g ↦ inr (g.0, let low = g.1 in omega arith) ]
      | inr here ↦ let same = only n i here in inr (subst (CanFault s) same f, omega arith)
    ]

    from : (i : ℕ) → Contains old i ⊎ (CanFault s i × (i < n + 1)) → Contains (new ++ n ∷ []) i
    from i (inl o) = Contains-append_left new (n ∷ []) i ((h.each i).1 (inl o))
    from i (inr g) = elim (cases_lt i n) [
      | inl before ↦ Contains-append_left new (n ∷ []) i ((h.each i).1 (inr (g.0, before)))
      | inr here ↦ let same : n ≡ i = (let low = g.1 in omega arith) in Contains-append_right new (n ∷ []) i (subst (Contains (n ∷ [])) same (contains_head n []))
    ]

pub faulting_skip : (s : System) (old new : List ℕ) (n : ℕ) → HasFaulting s old new n → (CanFault s n → ⊥) → HasFaulting s old new (n + 1)
faulting_skip s old new n h none = record { each = λ i. (to i, from i) }
  where
    to : (i : ℕ) → Contains new i → Contains old i ⊎ (CanFault s i × (i < n + 1))
    to i c = elim ((h.each i).0 c) [ inl o ↦ inl o | inr g ↦ inr (g.0, let low = g.1 in omega arith) ]

    from : (i : ℕ) → Contains old i ⊎ (CanFault s i × (i < n + 1)) → Contains new i
    from i (inl o) = (h.each i).1 (inl o)
    from i (inr g) = elim (cases_lt i n) [
      | inl before ↦ (h.each i).1 (inr (g.0, before))
      | inr here ↦ let same : i ≡ n = (let low = g.1 in omega arith) in absurd (none (subst (CanFault s) same g.0))
    ]

pub faulting_all : (s : System) (old new : List ℕ) (n : ℕ) → HasFaulting s old new n → n ≡ length s.equations → (i : ℕ) → Contains new i ↔ (Contains old i ⊎ CanFault s i)
faulting_all s old new n h all i = (
  (λ c. elim ((h.each i).0 c) [ inl o ↦ inl o | inr g ↦ inr g.0 ]),
  (λ g. elim g [ inl o ↦ (h.each i).1 (inl o) | inr f ↦ (h.each i).1 (inr (f, let low = slice_get_within s.equations i f.at f.is in omega arith)) ]),
)

-- an equation that was read and does not run, or cannot fault
pub cannot_fault : (s : System) (i : ℕ) (e : Equation) → equation s i ≡ Some e → (b c : Bool) → runs s i ≡ b → can_fault_op e.op ≡ c → (b ≡ true → c ≡ true → ⊥) → CanFault s i → ⊥
cannot_fault s i e is b c run fault none f =
    let same : f.at ≡ e = same_Some f.at e (sym f.is ∙ is) in
    none (sym run ∙ f.running) (sym fault ∙ ap (λ x. can_fault_op x.op) (sym same) ∙ f.faults)

-- ---- in a run order
-- what an equation uses stands before it, or was done
pub ordered_at : (s : System) (done : ℕ → Bool) (order : List ℕ) → IsOrdered s done order → (k i : ℕ) → k < length order → i ≡ get_or order k i → (e : Equation) × (equation s i ≡ Some e) × ((a : ℕ) → Contains (used_of e.op e.args) a → (done a ≡ true) ⊎ (is_in (take k order) a ≡ true))
ordered_at s done [] ordered k i lt at = absurd (omega arith)
ordered_at s done (x ∷ order) ordered zero i lt at =
    let (e, is, fresh, used, rest) = ordered in (e, ap (equation s) at ∙ is, λ a c. inl (all_at (λ b. IsTrue (done b)) (used_of e.op e.args) used a c))
ordered_at s done (x ∷ order) ordered (suc k) i lt at =
    let (e, is, fresh, used, rest) = ordered in
    let found = ordered_at s (with_one x done) order rest k i (omega arith) at in (
      found.0,
      found.1,
      λ a c. elim (found.2 a c) [
        | inl one ↦ elim (or_cases (a == x) (done a) one) [
          | inl here ↦ inr (or_left (x == a) (is_in (take k order) a) (eq-eqb x a (sym (eqb-true a x here))))
          | inr before ↦ inl before
        ]
        | inr among ↦ inr (or_right (x == a) (is_in (take k order) a) among)
      ],
    )

-- what stands for the first of an order is in a list
pub record AreStanding (s : System) (order replaced : List ℕ) (k : ℕ) : Type 0 where
  pub one_each : length replaced ≡ length s.equations
  pub each : (j : ℕ) → is_in (take k order) j ≡ true → StandsFor s j (new_number replaced j)

module _ (s : System) (order : List ℕ) (ordered : IsRunOrder s order) (replaced : List ℕ) where
  pub standing_none : length replaced ≡ length s.equations → AreStanding s order replaced 0
  standing_none count = record { one_each = count; each = λ j h. absurd (false≢true h) }

  pub step_there : (k i : ℕ) → k < length order → i ≡ get_or order k i → i < length s.equations
  step_there k i lt at = let found = ordered_at s (λ j. false) order ordered.ordered k i lt at in slice_get_within s.equations i found.0 found.1

  pub known_before : (k i : ℕ) → k < length order → i ≡ get_or order k i → AreStanding s order replaced k → (a : ℕ) → IsReplaced s i a → StandsFor s a (new_number replaced a)
  known_before k i lt at standing a r =
      let found = ordered_at s (λ j. false) order ordered.ordered k i lt at in
      let same : found.0 ≡ r.at = same_Some found.0 r.at (sym found.1 ∙ r.is) in
      let used : used_of found.0.op found.0.args ≡ a ∷ r.other ∷ [] = (λ k. used_of (same k).op (same k).args) ∙ (λ k. used_of (r.merges k) (r.args_are k)) in
      elim (found.2 a (subst (λ xs. Contains xs a) (sym used) (contains_head a (r.other ∷ [])))) [
        | inl never ↦ absurd (false≢true never)
        | inr among ↦ standing.each a among
      ]

  pub standing_more : (k i j : ℕ) → k < length order → i ≡ get_or order k i → AreStanding s order replaced k → StandsFor s i j → AreStanding s order (set replaced i j) (k + 1)
  standing_more k i j lt at standing stands = record { one_each = length-set replaced i j ∙ standing.one_each; each = each }
    where
      before : (x : ℕ) → (x ≡ i → ⊥) → is_in (take (k + 1) order) x ≡ true → is_in (take k order) x ≡ true
      before x other h =
          let parts : is_in (take (k + 1) order) x ≡ (is_in (take k order) x || ((i == x) || false)) =
          ap (λ xs. is_in xs x) (take_more order k i lt ∙ ap (λ y. take k order ++ y ∷ []) (sym at)) ∙ list_any-append (λ y. y == x) (take k order) (i ∷ []) in
          elim (or_cases (is_in (take k order) x) ((i == x) || false) (sym parts ∙ h)) [
            | inl found ↦ found
            | inr last ↦ elim (or_cases (i == x) false last) [ inl same ↦ absurd (other (sym (eqb-true i x same))) | inr never ↦ absurd (false≢true never) ]
          ]

      each : (x : ℕ) → is_in (take (k + 1) order) x ≡ true → StandsFor s x (new_number (set replaced i j) x)
      each x h = elim (cases_eq x i) [
        | inl here ↦
            let low = step_there k i lt at in
            let count = standing.one_each in
            let within : i < length replaced = omega arith in
            subst (λ y. StandsFor s y (new_number (set replaced i j) y)) (sym here) (subst (StandsFor s i) (sym (get_or-set_same replaced i j i within)) stands)
        | inr other ↦
            let among : is_in (take k order) x ≡ true = before x other h in
            subst (StandsFor s x) (sym (get_or-set_other replaced i x j x other)) (standing.each x among)
      ]

  pub standing_all : (k : ℕ) → length order ≤ k → AreStanding s order replaced k → IsReplacement s replaced
  standing_all k end standing = record {
    one_each = standing.one_each;
    each = λ i j is.
        let low = slice_get_within replaced i j is in
        let count = standing.one_each in
        let among : is_in (take k order) i ≡ true = ap (λ xs. is_in xs i) (take_all k order end) ∙ ordered.all i (omega arith) in
        subst (StandsFor s i) (get_or_from_slice_get replaced i j i is) (standing.each i among);
  }
