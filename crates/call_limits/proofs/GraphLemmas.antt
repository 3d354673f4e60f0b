-- The graph of calls has no cycle, and so it has an order.
use Rattle.std.proofs.Common.{◌≡◌, ℕ, ◌<◌, ◌⊎◌, List, [], ◌++◌, length, None, sym, ap, subst, ◌∙◌, inl, inr}
use Rattle.std.specs.List.{Contains}
use Rattle.std.proofs.lemmas.List.Elements.{Contains-append_left, Contains-append_right, Contains-append_cases, All-contains}
use Rattle.std.proofs.lemmas.Option.{slice_get_within}
use Rattle.syntax_tree.specs.Tree as tree
use Rattle.translation_order.specs.Graph.{IsAcyclic}
use Rattle.translation_order.specs.OnCycle.{Edge, AreBetween}
use Rattle.translation_order.specs.Graph.{Path, edge, step}
use Rattle.translation_order.proofs.Paths.{path_alike, along_from}
use Rattle.translation_order.specs.Order.{Before, AreOfSteps, IsLeastOrder}
use Rattle.translation_order.proofs.Alike as steps
use Rattle.name_check.specs.declared.declaration.Declaration.{Declaration}
use Rattle.name_check.specs.declared.declaration.Declaration.TheVariants as declaration
use Rattle.name_check.specs.Scope.{top}
use Rattle.name_check.specs.Bodies.{item_bodies}
use Rattle.definition_cycles.specs.Calls.{Calls}
use Rattle.definition_cycles.specs.Cycles.{IsFirstFunctionCycle}
use Rattle.definition_cycles.specs.inner.Edges.{AreEdges}
use Rattle.definition_cycles.proofs.CycleLemmas.{are_between}
use Rattle.definition_cycles.proofs.OrderLemmas.{turned_has, turned_means, way_round}
use Rattle.call_limits.specs.Nesting.{CallsDeclared, CallsMacro, CallsFunction, IsFirstMacroCycle}
use Rattle.call_limits.specs.inner.Edges.{IsCallGraph, turned}
use Rattle.call_limits.specs.inner.Depths.{AreAfter}
use Rattle.call_limits.proofs.ScopeLemmas.{IsDefinition, called_there, function_calls_no_macro}

-- ---- a cycle of both kinds of calls is one of either
abbrev pub Either : (ℕ → ℕ → Type 0) → (ℕ → ℕ → Type 0) → ℕ → ℕ → Type 0
Either M F a b = M a b ⊎ F a b

module _ (M F : ℕ → ℕ → Type 0) (apart : (a b c : ℕ) → F a b → M b c → ⊥) where
  -- from where no macro is called, value functions alone are
  of_functions : (a b : ℕ) → ((c : ℕ) → M a c → ⊥) → Path (Either M F) a b → Path F a b × ((c : ℕ) → M b c → ⊥)
  of_functions a b free (edge (inl m)) = absurd (free b m)
  of_functions a b free (edge (inr f)) = (edge f, λ c m. apart a b c f m)
  of_functions a b free (step {b = n} (inl m) p) = absurd (free n m)
  of_functions a b free (step {b = n} (inr f) p) = let rest = of_functions n b (λ c m. apart a n c f m) p in (step f rest.0, rest.1)

  macros_or_end : (a b : ℕ) → Path (Either M F) a b → Path M a b ⊎ ((c : ℕ) → M b c → ⊥)
  macros_or_end a b (edge (inl m)) = inl (edge m)
  macros_or_end a b (edge (inr f)) = inr (λ c m. apart a b c f m)
  macros_or_end a b (step {b = n} (inl m) p) = elim (macros_or_end n b p) [ inl q ↦ inl (step m q) | inr free ↦ inr free ]
  macros_or_end a b (step {b = n} (inr f) p) = inr ((of_functions n b (λ c m. apart a n c f m) p).1)

  pub no_cycle : ((x : ℕ) → Path M x x → ⊥) → ((x : ℕ) → Path F x x → ⊥) → (x : ℕ) → Path (Either M F) x x → ⊥
  no_cycle macros functions x p = elim (macros_or_end x x p) [
    | inl q ↦ macros x q
    | inr free ↦ functions x ((of_functions x x free p).0)
  ]

-- ---- the order of the graph
pub both_turned : (macros functions first second none some all : List (ℕ × ℕ)) → first ≡ macros → second ≡ functions → none ≡ [] → some ≡ none ++ turned first → all ≡ some ++ turned second → all ≡ turned macros ++ turned functions
both_turned macros functions first second none some all is_first is_second is_none added then =
    then ∙ ap (λ l. l ++ turned second) (added ∙ ap (λ l. l ++ turned first) is_none) ∙ ap (λ l. turned l ++ turned second) is_first ∙ ap (λ l. turned macros ++ turned l) is_second

module _ (count : ℕ) (macros functions : List (ℕ × ℕ)) (g : IsCallGraph count macros functions) where
  each_edge : (edges : List (ℕ × ℕ)) → AreEdges (Edge edges) edges
  each_edge edges = record { means = λ a b c. c; has = λ a b c. c }

  from_pairs : (a b : ℕ) → Before (turned macros ++ turned functions) a b → Either (Edge macros) (Edge functions) b a
  from_pairs a b c = elim (Contains-append_cases (turned macros) (turned functions) (a, b) c) [
    | inl m ↦ inl (turned_means (Edge macros) macros (each_edge macros) a b m)
    | inr f ↦ inr (turned_means (Edge functions) functions (each_edge functions) a b f)
  ]

  of_macro : (a b : ℕ) → Edge macros b a → Before (turned macros ++ turned functions) a b
  of_macro a b e = Contains-append_left (turned macros) (turned functions) (a, b) (turned_has (Edge macros) macros (each_edge macros) a b e)

  of_function : (a b : ℕ) → Edge functions b a → Before (turned macros ++ turned functions) a b
  of_function a b e = Contains-append_right (turned macros) (turned functions) (a, b) (turned_has (Edge functions) functions (each_edge functions) a b e)

  within : (edges : List (ℕ × ℕ)) → AreBetween count edges → (a b : ℕ) → Edge edges b a → (a < count) × (b < count)
  within edges between a b e = let both = All-contains (λ p. (p.0 < count) × (p.1 < count)) edges (b, a) between e in (both.1, both.0)

  pub pairs_of_items : AreOfSteps count (turned macros ++ turned functions)
  pairs_of_items = are_between count (turned macros ++ turned functions) (λ a b c. elim (from_pairs a b c) [
    | inl m ↦ within macros g.macros_between a b m
    | inr f ↦ within functions g.functions_between a b f
  ])

  pub pairs_acyclic : IsAcyclic (Before (turned macros ++ turned functions))
  pairs_acyclic x p =
      let E : ℕ → ℕ → Type 0 = Either (Edge macros) (Edge functions) in
      no_cycle (Edge macros) (Edge functions) g.apart g.macros_end g.functions_end x
      (way_round E x x (steps.path_alike (Before (turned macros ++ turned functions)) (λ a b. E b a) from_pairs x x p))

  pub after_called : (order : List ℕ) → IsLeastOrder count (Before (turned macros ++ turned functions)) order → AreAfter (Edge macros) (Edge functions) count order
  after_called order o = record {
    each = λ front rest x is.
        let may = (o.takes_least front rest x is).holds in
        record { is_item = may.is_step; counted = λ y e. may.is_free y (of_macro y x e); passed = λ y e. may.is_free y (of_function y x e) };
    all = o.all;
  }

-- ---- the graph of a specification without cycles
module _ (items : List tree.Item) where
  calls_of : (a b : ℕ) → IsDefinition items a → CallsFunction items a b → Calls items a b
  calls_of a b d c =
      let same : c.item ≡ tree.Defined d.place d.definition = cc (c.is_item, d.is_item) in record {
        place = d.place;
        definition = d.definition;
        is_item = d.is_item;
        seen = c.seen;
        is_body = subst (λ x. Contains (item_bodies (top items) x) c.seen) same c.is_body;
        part = c.part;
        is_part = c.is_part;
        calls = c.calls;
        stands_for = c.stands_for;
      }

  function_path : (a b : ℕ) → IsDefinition items a → Path (CallsFunction items) a b → Path (Calls items) a b
  function_path a b d (edge c) = edge (calls_of a b d c)
  function_path a b d (step {b = n} c p) = step (calls_of a n d c) (function_path n b (called_there items a (declaration.Function n) c).is p)

  function_cycle : (x : ℕ) → Path (CallsFunction items) x x → Path (Calls items) x x
  function_cycle x p =
      let target : (a b : ℕ) → CallsFunction items a b → IsDefinition items b = λ a b c. (called_there items a (declaration.Function b) c).is in
      function_path x x (along_from (CallsFunction items) (IsDefinition items) (λ a b d c. target a b c) x x (λ y c. target x y c) p) p

  pub calls_apart : (a b c : ℕ) → CallsFunction items a b → CallsMacro items b c → ⊥
  calls_apart a b c f m = function_calls_no_macro items b c (called_there items a (declaration.Function b) f) m

  caller_within : (i : ℕ) (d : Declaration) → CallsDeclared items i d → i < length items
  caller_within i d c = slice_get_within items i c.item c.is_item

  pub macro_within : (a b : ℕ) → CallsMacro items a b → (a < length items) × (b < length items)
  macro_within a b c = let to = called_there items a (declaration.Macro b) c in (caller_within a (declaration.Macro b) c, slice_get_within items b (tree.Defined to.place to.definition) to.is_item)

  pub function_within : (a b : ℕ) → CallsFunction items a b → (a < length items) × (b < length items)
  function_within a b c = let to = (called_there items a (declaration.Function b) c).is in (caller_within a (declaration.Function b) c, slice_get_within items b (tree.Defined to.place to.definition) to.is_item)

  between : (E : ℕ → ℕ → Type 0) (count : ℕ) (edges : List (ℕ × ℕ)) → count ≡ length items → ((a b : ℕ) → E a b → (a < length items) × (b < length items)) → AreEdges E edges → AreBetween count edges
  between E count edges is inside e = are_between count edges (λ a b c. let both = inside a b (e.means a b c) in (subst (λ n. a < n) (sym is) both.0, subst (λ n. b < n) (sym is) both.1))

  pub macros_between : (count : ℕ) (edges : List (ℕ × ℕ)) → count ≡ length items → AreEdges (CallsMacro items) edges → AreBetween count edges
  macros_between count edges is = between (CallsMacro items) count edges is macro_within

  pub call_graph : (count : ℕ) (macros functions : List (ℕ × ℕ)) → count ≡ length items → AreEdges (CallsMacro items) macros → AreEdges (CallsFunction items) functions → IsFirstMacroCycle items None → IsFirstFunctionCycle items None → IsCallGraph count macros functions
  call_graph count macros functions is m f no_macros no_functions = record {
    macros_between = macros_between count macros is m;
    functions_between = between (CallsFunction items) count functions is function_within f;
    macros_end = λ x p. no_macros x (path_alike (Edge macros) (CallsMacro items) m.means x x p);
    functions_end = λ x p. no_functions x (function_cycle x (path_alike (Edge functions) (CallsFunction items) f.means x x p));
    apart = λ a b c e l. calls_apart a b c (f.means a b e) (m.means b c l);
  }
