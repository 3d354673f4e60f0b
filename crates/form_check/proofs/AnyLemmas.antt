-- Tests of lists whose items are mapped.
use Rattle.std.proofs.Common.{◌≡◌, Bool, true, false, not, ◌&&◌, if◌then◌else◌, List, [], ◌∷◌, map, sym, ap, ◌∙◌}
use Rattle.std.specs.List.{list_any}
use Rattle.tsl_value.specs.declared.place.Place.{Place}
use Rattle.syntax_tree.specs.Tree as tree
use Rattle.syntax_tree.specs.declared.tree.Param.{Param}
use Rattle.syntax_tree.specs.declared.tree.Item.{Item}
use Rattle.syntax_tree.specs.inner.OneLevel.{param_of, params_in, item_of}
use Rattle.name_check.specs.Scope.{is_events}
use Rattle.name_check.specs.Faults.{first}
use Rattle.name_check.proofs.FirstLemmas.{list_any-map}
use Rattle.form_check.specs.Declared.{are_mixed}
use Rattle.form_check.specs.Outputs.{is_output}

-- ---- parameters
mixed_by : (ps : List Param) (a : Bool) → list_any (λ q. is_events q.of) ps ≡ a → are_mixed (params_in ps) ≡ (a && list_any (λ q. not (is_events q.of)) ps)
mixed_by ps a h =
    ap (λ b. b && list_any (λ (q : tree.Param). not (is_events q.of)) (params_in ps)) (list_any-map (λ q. is_events q.of) param_of ps ∙ h)
    ∙ ap (λ b. a && b) (list_any-map (λ q. not (is_events q.of)) param_of ps)

pub mixed_if : (ps : List Param) (a b : Bool) → a ≡ list_any (λ q. is_events q.of) ps → a ≡ true → b ≡ list_any (λ q. not (is_events q.of)) ps → b ≡ are_mixed (params_in ps)
mixed_if ps a b h is k = k ∙ sym (mixed_by ps true (sym h ∙ is))

pub not_mixed : (ps : List Param) (a : Bool) → a ≡ list_any (λ q. is_events q.of) ps → a ≡ false → a ≡ are_mixed (params_in ps)
not_mixed ps a h is = is ∙ sym (mixed_by ps false (sym h ∙ is))

-- ---- outputs
pub output_or_end : (items : List Item) (all : List tree.Item) (end : Place) (a b : Bool) → map item_of items ≡ all → a ≡ list_any (λ i. is_output (item_of i)) items → a ≡ b → first (if b then [] else end ∷ []) ≡ first (if list_any is_output all then [] else end ∷ [])
output_or_end items all end a b same h is =
    ap (λ c. first (if c then [] else end ∷ []))
    (sym is ∙ h ∙ sym (list_any-map is_output item_of items) ∙ ap (list_any is_output) same)
