-- Each input of a compiled system has a name, and no two have the same.
use Rattle.std.proofs.Common.{◌≡◌, ◌≢◌, ℕ, zero, suc, Bool, true, false, List, [], ◌∷◌, ◌++◌, Option, Some, refl, sym, ap, ◌∙◌, bytes_eq}
use Rattle.std.specs.Prelude.{◌||◌, slice_get, if◌then◌else◌}
use Rattle.std.specs.List.{AllByRecursion, list_any}
use Rattle.std.proofs.lemmas.Bool.{true≢false}
use Rattle.std.proofs.lemmas.Option.{same_Some, none-some}
use Rattle.std.proofs.lemmas.Slice.Eq.{bytes_eq-Decides}
use Rattle.tsl_value.specs.declared.place.Place.{Place}
use Rattle.tsl_value.proofs.Lists.{all_by_place, append_empty}
use Rattle.flat_core.specs.declared.equation.Equation.{Equation}
use Rattle.flat_core.specs.declared.equation.Op.TheVariants as op
use Rattle.flat_core.specs.System.{equation}
use Rattle.flat_core.proofs.Uniqueness.{all_by}
use Rattle.syntax_tree.specs.Tree as tree
use Rattle.name_check.specs.Builtin.{is_built_in}
use Rattle.name_check.specs.Faults.{again, twice_from, twice_in_params, twice_in_body}
use Rattle.spec_meaning.specs.Inputs.{declared_inputs}
use Rattle.source_rules.proofs.TypedLemmas.{is_checked}
use Rattle.compiled_meaning.proofs.Inputs.{inputs_are_declared}
use Rattle.compiled_code.specs.Laws.{CompiledHasNamedInputs}

-- ---- names that are none of those before
record IsFresh (before : List (List ℕ)) (e : Equation) : Type 0 where
  name : List ℕ
  name_is : e.name ≡ Some name
  new : list_any (bytes_eq name) before ≡ false

abbrev AreFresh : List (List ℕ) → List Equation → Type 0
AreFresh before es = AllByRecursion (IsFresh before) es

abbrev AreApart : List Equation → Type 0
AreApart [] = Unit {0}
AreApart (e ∷ es) = AllByRecursion (λ f. e.name ≡ f.name → ⊥) es × AreApart es

neither : (a b : Bool) → (a || b) ≡ false → (a ≡ false) × (b ≡ false)
neither false b h = (refl, h)
neither true b h = absurd (true≢false h)

new_name : (before : List (List ℕ)) (p : Place) (n : List ℕ) → again before p n ≡ [] → list_any (bytes_eq n) before ≡ false
new_name before p n = by (is_built_in n || list_any (bytes_eq n) before) refl
  where
    none : {ps : List Place} → p ∷ ps ≡ [] → ⊥
    none h = cc

    by : (b : Bool) → (is_built_in n || list_any (bytes_eq n) before) ≡ b → (if b then p ∷ [] else []) ≡ [] → list_any (bytes_eq n) before ≡ false
    by true is h = absurd (none h)
    by false is h = (neither (is_built_in n) (list_any (bytes_eq n) before) is).1

fewer : (n : List ℕ) (before : List (List ℕ)) (e : Equation) → IsFresh (n ∷ before) e → IsFresh before e
fewer n before e fresh = record { name = fresh.name; name_is = fresh.name_is; new = (neither (bytes_eq fresh.name n) (list_any (bytes_eq fresh.name) before) fresh.new).1 }

after_definition : (before : List (List ℕ)) (q : Place) (n : List ℕ) (ps : List tree.Param) (b : tree.Body) (items : List tree.Item)
    → again before q n ++ twice_in_params [] ps ++ twice_in_body b ++ twice_from (n ∷ before) items ≡ [] → twice_from (n ∷ before) items ≡ []
after_definition before q n ps b items h = (append_empty (again before q n ++ twice_in_params [] ps ++ twice_in_body b) (twice_from (n ∷ before) items) h).1

inputs_fresh : (before : List (List ℕ)) (items : List tree.Item) → twice_from before items ≡ [] → AreFresh before (declared_inputs items)
inputs_fresh before [] h = tt
inputs_fresh before (tree.Input p q n y ∷ items) h =
    let parts = append_empty (again before q n) (twice_from (n ∷ before) items) h in
    (record { name = n; name_is = refl; new = new_name before q n parts.0 }, all_by (IsFresh (n ∷ before)) (IsFresh before) (fewer n before) (declared_inputs items) (inputs_fresh (n ∷ before) items parts.1))
inputs_fresh before (tree.Defined p (tree.Define q n ps w b) ∷ items) h =
    all_by (IsFresh (n ∷ before)) (IsFresh before) (fewer n before) (declared_inputs items) (inputs_fresh (n ∷ before) items (after_definition before q n ps b items h))
inputs_fresh before (tree.Output p q n ∷ items) h = inputs_fresh before items h
inputs_fresh before (tree.OutputAs p e q n ∷ items) h = inputs_fresh before items h

-- a name that is there already is not new
other_name : (n : List ℕ) (before : List (List ℕ)) (p : Option (List ℕ)) (f : Equation) → p ≡ Some n → IsFresh (n ∷ before) f → p ≡ f.name → ⊥
other_name n before p f is fresh same =
    let names : fresh.name ≡ n = same_Some fresh.name n (sym fresh.name_is ∙ sym same ∙ is) in
    true≢false (sym ((bytes_eq-Decides fresh.name n).1 names) ∙ (neither (bytes_eq fresh.name n) (list_any (bytes_eq fresh.name) before) fresh.new).0)

inputs_apart : (before : List (List ℕ)) (items : List tree.Item) → twice_from before items ≡ [] → AreApart (declared_inputs items)
inputs_apart before [] h = tt
inputs_apart before (tree.Input p q n y ∷ items) h =
    let rest = (append_empty (again before q n) (twice_from (n ∷ before) items) h).1 in
    (all_by (IsFresh (n ∷ before)) (λ f. Some n ≡ f.name → ⊥) (λ f fresh. other_name n before (Some n) f refl fresh) (declared_inputs items) (inputs_fresh (n ∷ before) items rest), inputs_apart (n ∷ before) items rest)
inputs_apart before (tree.Defined p (tree.Define q n ps w b) ∷ items) h = inputs_apart (n ∷ before) items (after_definition before q n ps b items h)
inputs_apart before (tree.Output p q n ∷ items) h = inputs_apart before items h
inputs_apart before (tree.OutputAs p e q n ∷ items) h = inputs_apart before items h

apart_at : (es : List Equation) → AreApart es → (i j : ℕ) (e f : Equation) → slice_get es i ≡ Some e → slice_get es j ≡ Some f → e.name ≡ f.name → i ≡ j
apart_at [] apart i j e f is there same = absurd (none-some e is)
apart_at (x ∷ es) apart zero zero e f is there same = refl
apart_at (x ∷ es) apart zero (suc j) e f is there same =
    absurd (all_by_place (λ g. x.name ≡ g.name → ⊥) es apart.0 j f there (ap (λ (g : Equation). g.name) (same_Some x e is) ∙ same))
apart_at (x ∷ es) apart (suc i) zero e f is there same =
    absurd (all_by_place (λ g. x.name ≡ g.name → ⊥) es apart.0 i e is (ap (λ (g : Equation). g.name) (same_Some x f there) ∙ sym same))
apart_at (x ∷ es) apart (suc i) (suc j) e f is there same = ap suc (apart_at es apart.1 i j e f is there same)

-- ---- inputs stand in front
in_front : (ds others : List Equation) → AllByRecursion (λ (e : Equation). e.op ≢ op.Input) others → (i : ℕ) (e : Equation) → slice_get (ds ++ others) i ≡ Some e → e.op ≡ op.Input → slice_get ds i ≡ Some e
in_front [] others all i e is input = absurd (all_by_place (λ (f : Equation). f.op ≢ op.Input) others all i e is input)
in_front (d ∷ ds) others all zero e is input = is
in_front (d ∷ ds) others all (suc i) e is input = in_front ds others all i e is input

pub compiled_has_named_inputs : CompiledHasNamedInputs
compiled_has_named_inputs source items u compiled =
    let system = compiled.spells.system in
    let once : twice_from [] items ≡ [] = (is_checked source items items system.kinds refl system.specifies.typed).names_once in
    let declared = inputs_are_declared source items u compiled in
    let front : (i : ℕ) (e : Equation) → equation u i ≡ Some e → e.op ≡ op.Input → slice_get (declared_inputs items) i ≡ Some e
    = λ i e is input. in_front (declared_inputs items) declared.others declared.no_inputs i e (ap (λ (es : List Equation). slice_get es i) (sym declared.equations_are) ∙ is) input in
    record {
      named = λ i e is input. let fresh = all_by_place (IsFresh []) (declared_inputs items) (inputs_fresh [] items once) i e (front i e is input) in (fresh.name, fresh.name_is);
      differ = λ i j e f is there first second same. apart_at (declared_inputs items) (inputs_apart [] items once) i j e f (front i e is first) (front j f there second) same;
    }
