-- The places that are answered.
use Rattle.std.proofs.Common.{◌≡◌, ℕ, suc, ◌<◌, List, map, length, get_or, Option, Some, refl, sym, ap, subst, ◌∙◌, inl, inr, arith}
use Rattle.std.specs.Option.{option_map}
use Rattle.std.proofs.lemmas.List.{length-map}
use Rattle.std.proofs.lemmas.Option.{slice_get-map, slice_get-get_or, slice_get_within}
use Rattle.tsl_value.specs.declared.place.Place.{Place}
use Rattle.syntax_tree.specs.Tree as tree
use Rattle.syntax_tree.specs.declared.tree.Item.{Item}
use Rattle.syntax_tree.specs.inner.OneLevel.{item_of}
use Rattle.translation_order.specs.Least.{IsLeast}
use Rattle.translation_order.specs.OnCycle.{Edge, OnCycle}
use Rattle.translation_order.proofs.Paths.{along_from}
use Rattle.name_check.specs.declared.declaration.Declaration.TheVariants as declaration
use Rattle.definition_cycles.specs.Calls.{name_place}
use Rattle.definition_cycles.specs.Cycles.{IsPlaceOfLeast}
use Rattle.definition_cycles.specs.inner.Edges.{AreEdges}
use Rattle.definition_cycles.proofs.CycleLemmas.{least_on_cycle}
use Rattle.definition_cycles.specs.declared.limits.TheConstants.{MOST_CALLS}
use Rattle.call_limits.specs.Nesting.{CallsMacro, CallsFunction, MacroCycle, IsTooDeep, deep_place}
use Rattle.call_limits.specs.inner.Depths.{NestsTooDeep, IsFirst}
use Rattle.call_limits.proofs.ChainLemmas.{nests_alike, nests_at, macros_nest, functions_nest, macros_chain, functions_chain}
use Rattle.call_limits.proofs.DepthLemmas.{first_alike}
use Rattle.call_limits.proofs.ScopeLemmas.{IsDefinition, called_there}
use Rattle.call_limits.proofs.GraphLemmas.{calls_apart}

pub first_place : (P : ℕ → Type 0) (place : tree.Item → Place) (items : List Item) (x : ℕ) (it : Item) (p : Place) → x < length items → it ≡ get_or items x it → p ≡ place (item_of it) → IsLeast P x → IsPlaceOfLeast P (map place (map item_of items)) p
first_place P place items x it p within is at l = record {
  number = x;
  is_least = l;
  at =
      slice_get-map place (map item_of items) x
      ∙ ap (option_map place) (slice_get-map item_of items x ∙ ap (option_map item_of) (slice_get-get_or items x it within ∙ ap Some (sym is)))
      ∙ ap Some (sym at);
}

-- ---- cycles of macros
on_cycle : (items : List tree.Item) (x : ℕ) → MacroCycle items x → IsDefinition items x
on_cycle items x p =
    let target : (a b : ℕ) → CallsMacro items a b → IsDefinition items b = λ a b c. called_there items a (declaration.Macro b) c in
    along_from (CallsMacro items) (IsDefinition items) (λ a b d c. target a b c) x x (λ y c. target x y c) p

pub cycle_within : (items : List Item) (edges : List (ℕ × ℕ)) (x : ℕ) → AreEdges (CallsMacro (map item_of items)) edges → IsLeast (OnCycle edges) x → x < length items
cycle_within items edges x e l =
    let d = on_cycle (map item_of items) x (least_on_cycle edges (CallsMacro (map item_of items)) e x l).holds in
    subst (λ n. x < n) (length-map items item_of) (slice_get_within (map item_of items) x (tree.Defined d.place d.definition) d.is_item)

-- the place of a definition is that of its name
name_of : (p : Place) (d : tree.Definition) → deep_place (tree.Defined p d) ≡ name_place (tree.Defined p d)
name_of p (tree.Define q n ps w b) = refl

pub first_on_cycle : (items : List Item) (edges : List (ℕ × ℕ)) (x : ℕ) (it : Item) (p : Place) → AreEdges (CallsMacro (map item_of items)) edges → it ≡ get_or items x it → p ≡ deep_place (item_of it) → IsLeast (OnCycle edges) x → IsPlaceOfLeast (MacroCycle (map item_of items)) (map name_place (map item_of items)) p
first_on_cycle items edges x it p e is at l =
    let least = least_on_cycle edges (CallsMacro (map item_of items)) e x l in
    let within = cycle_within items edges x e l in
    let d = on_cycle (map item_of items) x least.holds in
    let read : Some (item_of it) ≡ Some (tree.Defined d.place d.definition) = ap (option_map item_of) (ap Some is ∙ sym (slice_get-get_or items x it within)) ∙ sym (slice_get-map item_of items x) ∙ d.is_item in
    let same : item_of it ≡ tree.Defined d.place d.definition = cc in
    first_place (MacroCycle (map item_of items)) name_place items x it p within is
    (at ∙ ap deep_place same ∙ name_of d.place d.definition ∙ sym (ap name_place same)) least

-- ---- calls that nest too deep
module _ (items : List tree.Item) where
  deep_within : (x : ℕ) → IsTooDeep items x → x < length items
  deep_within x (inl m) =
      nests_at (CallsMacro items) (CallsFunction items) (x < length items) (suc MOST_CALLS) x (λ y c. slice_get_within items x c.item c.is_item) (λ y c. slice_get_within items x c.item c.is_item)
      (macros_nest (CallsMacro items) (CallsFunction items) (suc MOST_CALLS) x m.to m.chain) (omega arith)
  deep_within x (inr f) =
      nests_at (CallsFunction items) (CallsMacro items) (x < length items) (suc MOST_CALLS) x (λ y c. slice_get_within items x c.item c.is_item) (λ y c. slice_get_within items x c.item c.is_item)
      (functions_nest (CallsMacro items) (CallsFunction items) (suc MOST_CALLS) x (record { through = f.through; depth = f.depth; macros = f.macros; to = f.to; functions = f.functions })) (omega arith)

  module _ (macros functions : List (ℕ × ℕ)) (m : AreEdges (CallsMacro items) macros) (f : AreEdges (CallsFunction items) functions) where
    deep_of : (x : ℕ) → NestsTooDeep macros functions x → IsTooDeep items x
    deep_of x (inl r) =
        let c = macros_chain (CallsMacro items) (CallsFunction items) (calls_apart items) (suc MOST_CALLS) x (nests_alike (Edge macros) (CallsMacro items) (Edge functions) (CallsFunction items) m.means f.means (suc MOST_CALLS) x r) in
        inl (record { to = c.0; chain = c.1 })
    deep_of x (inr r) =
        let c = functions_chain (CallsMacro items) (CallsFunction items) (calls_apart items) (suc MOST_CALLS) x (nests_alike (Edge functions) (CallsFunction items) (Edge macros) (CallsMacro items) f.means m.means (suc MOST_CALLS) x r) in
        inr (record { through = c.through; depth = c.depth; macros = c.macros; to = c.to; functions = c.functions })

    of_deep : (x : ℕ) → IsTooDeep items x → NestsTooDeep macros functions x
    of_deep x (inl n) =
        inl (nests_alike (CallsMacro items) (Edge macros) (CallsFunction items) (Edge functions) m.has f.has (suc MOST_CALLS) x
        (macros_nest (CallsMacro items) (CallsFunction items) (suc MOST_CALLS) x n.to n.chain))
    of_deep x (inr n) =
        inr (nests_alike (CallsFunction items) (Edge functions) (CallsMacro items) (Edge macros) f.has m.has (suc MOST_CALLS) x
        (functions_nest (CallsMacro items) (CallsFunction items) (suc MOST_CALLS) x (record { through = n.through; depth = n.depth; macros = n.macros; to = n.to; functions = n.functions })))

    pub deep_first : (found : Option ℕ) → IsFirst (NestsTooDeep macros functions) found → IsFirst (IsTooDeep items) found
    deep_first found = first_alike (NestsTooDeep macros functions) (IsTooDeep items) deep_of of_deep found

pub too_deep_within : (items : List Item) (x : ℕ) → IsTooDeep (map item_of items) x → x < length items
too_deep_within items x d = subst (λ n. x < n) (length-map items item_of) (deep_within (map item_of items) x d)
