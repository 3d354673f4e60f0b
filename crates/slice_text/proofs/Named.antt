-- The output of a name.
use Rattle.std.proofs.Common.{◌≡◌, ◌∙◌, ℕ, zero, suc, ◌<◌, ◌≤◌, Bool, List, [], ◌∷◌, length, Some, None, slice_get, get_or, nat_eq, refl, sym, ap, arith}
use Rattle.std.specs.Bool.{Decides}
use Rattle.std.specs.Cmp.Lexicographic.{pointwise}
use Rattle.std.specs.List.{position, position_or_len}
use Rattle.std.proofs.lemmas.Bool.Decides.{Decides-eqb, not_from_Decides}
use Rattle.std.proofs.lemmas.Grind.{common_steps}
use Rattle.std.proofs.lemmas.List.Quantifiers.{position-Some}
use Rattle.std.proofs.lemmas.List.Sums.{fails_before_first}
use Rattle.std.proofs.lemmas.Option.{slice_get-get_or, slice_get_within, get_or_from_slice_get}
use Rattle.std.proofs.lemmas.Slice.Eq.{slice_eq-Decides}
use Rattle.tsl_value.proofs.Lists.{all_by_place}
use Rattle.flat_core.specs.declared.equation.Output.{Output}
use Rattle.flat_core.specs.Complete.{HaveDifferentNames, IsFlat}
use Rattle.flat_core.specs.System.{System}
use Rattle.slice_text.specs.Text.{HasOutput, IsOutputCalled}

pub nothing : Output
nothing = record { name = []; equation = 0 }

-- an output that is printed under a name
abbrev pub is_named : List ℕ → Output → Bool
is_named name o = pointwise nat_eq o.name name

named : (name : List ℕ) (o : Output) → Decides (is_named name o) (o.name ≡ name)
named name o = slice_eq-Decides Decides-eqb o.name name (is_named name o) refl

module _ (s : System) (name : List ℕ) where
  -- the first place of an output of a name
  first_found : (k : ℕ) → position (is_named name) s.outputs ≡ Some k → (k < length s.outputs) × IsOutputCalled s name k
  first_found k first =
      let found = position-Some (is_named name) s.outputs k nothing first in
      let o = get_or s.outputs k nothing in
      (found.0, record { output = o; is = slice_get-get_or s.outputs k nothing found.0; called = (named name o).0 found.1 })

  pub first_within : (k : ℕ) → position (is_named name) s.outputs ≡ Some k → k < length s.outputs
  first_within k first = (first_found k first).0

  pub first_called : (k : ℕ) → position (is_named name) s.outputs ≡ Some k → IsOutputCalled s name k
  first_called k first = (first_found k first).1

  -- where there is no such place no output has it
  pub none_called : position (is_named name) s.outputs ≡ None → HasOutput s name → ⊥
  none_called none (k, o) =
      let lt = slice_get_within s.outputs k o.output o.is in
      let past : length s.outputs ≤ position_or_len (is_named name) s.outputs = grind (arith, common_steps) in
      let fails = fails_before_first (is_named name) s.outputs k o.output (omega arith) in
      not_from_Decides (is_named name o.output) (named name o.output) (ap (is_named name) (sym (get_or_from_slice_get s.outputs k o.output o.output o.is)) ∙ fails) o.called

-- an output of a name is there
pub called_within : (s : System) (name : List ℕ) (k : ℕ) → IsOutputCalled s name k → k < length s.outputs
called_within s name k o = slice_get_within s.outputs k o.output o.is

-- ---- where no two outputs have one name
one_place : (outputs : List Output) → HaveDifferentNames outputs → (k l : ℕ) (o p : Output) → slice_get outputs k ≡ Some o → slice_get outputs l ≡ Some p → o.name ≡ p.name → k ≡ l
one_place [] differ k l o p at other same = absurd (cc)
one_place (x ∷ outputs) differ zero zero o p at other same = refl
one_place (x ∷ outputs) differ zero (suc l) o p at other same =
    let here : x ≡ o = cc in
    absurd (all_by_place (λ (r : Output). ¬ (r.name ≡ x.name)) outputs differ.0 l p other (sym same ∙ ap (λ (r : Output). r.name) (sym here)))
one_place (x ∷ outputs) differ (suc k) zero o p at other same =
    let here : x ≡ p = cc in
    absurd (all_by_place (λ (r : Output). ¬ (r.name ≡ x.name)) outputs differ.0 k o at (same ∙ ap (λ (r : Output). r.name) (sym here)))
one_place (x ∷ outputs) differ (suc k) (suc l) o p at other same = ap suc (one_place outputs differ.1 k l o p at other same)

-- a name has one number at most
pub one_number : (s : System) (name : List ℕ) (k l : ℕ) → IsFlat s → IsOutputCalled s name k → IsOutputCalled s name l → k ≡ l
one_number s name k l whole first second =
    one_place s.outputs whole.complete.names_differ k l first.output second.output first.is second.is (first.called ∙ sym second.called)
