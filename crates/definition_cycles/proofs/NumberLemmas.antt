-- The numbers of nodes.
use Rattle.std.proofs.Common.{◌≡◌, ℕ, zero, suc, ◌+◌, ◌<◌, ◌≤◌, List, [], ◌∷◌, length, take, Option, Some, None, refl, ap, ◌∙◌, inl, inr, arith, length-append}
use Rattle.std.specs.Prelude.{slice_get}
use Rattle.std.specs.Option.{option_map}
use Rattle.std.specs.List.{sum_by}
use Rattle.std.proofs.lemmas.List.{take_all}
use Rattle.std.proofs.lemmas.List.Sums.{sum_by-cons}
use Rattle.std.proofs.lemmas.Bool.{cases_lt}
use Rattle.syntax_tree.specs.Tree as tree
use Rattle.name_check.specs.declared.declaration.Declaration.{Declaration}
use Rattle.name_check.specs.declared.declaration.Declaration.TheVariants as declaration
use Rattle.name_check.specs.Scope.{Scope, top}
use Rattle.definition_cycles.specs.Nodes.{nodes, nodes_from, item_nodes, node_of, first_node, count_of}
use Rattle.definition_cycles.specs.inner.Walk.{firsts_from}
use Rattle.definition_cycles.specs.inner.Edges.{known_node}
use Rattle.definition_cycles.proofs.FoundLemmas.{length_item}

pub nodes_length : (i : ℕ) (s : Scope) (items : List tree.Item) → length (nodes_from i s items) ≡ sum_by count_of items
nodes_length i s [] = refl
nodes_length i s (x ∷ items) = let both = length-append (item_nodes i s x) (nodes_from (suc i) s items) in omega (arith, both, length_item i s x, nodes_length (suc i) s items, sum_by-cons count_of x items)

first_known : (a : ℕ) (items : List tree.Item) (j b : ℕ) → slice_get (firsts_from a items) j ≡ Some b → b ≡ a + first_node items j
first_known a [] j b h = absurd (cc)
first_known a (x ∷ items) zero b h = let same : a ≡ b = cc in omega arith
first_known a (x ∷ items) (suc j) b h = omega (arith, first_known (a + count_of x) items j b h, sum_by-cons count_of x (take j items))

first_there : (a : ℕ) (items : List tree.Item) (j : ℕ) → j < length items → slice_get (firsts_from a items) j ≡ Some (a + first_node items j)
first_there a [] j h = absurd (omega arith)
first_there a (x ∷ items) zero h = let e : a ≡ a + 0 = omega arith in ap Some e
first_there a (x ∷ items) (suc j) h = let e : a + count_of x + first_node items j ≡ a + first_node (x ∷ items) (suc j) = omega (arith, sum_by-cons count_of x (take j items)) in first_there (a + count_of x) items j (omega arith) ∙ ap Some e

-- there is no node after the last item
first_past : (items : List tree.Item) (j b : ℕ) → b < length (nodes items) → first_node items j ≤ b → j < length items
first_past items j b h k = elim (cases_lt j (length items)) [ inl l ↦ l | inr l ↦ absurd (let all = ap (sum_by count_of) (take_all j items l) in let many = nodes_length 0 (top items) items in omega arith) ]

-- what is known is a node of what is declared
pub known_is : (items : List tree.Item) (i : ℕ) (d : Declaration) (b : ℕ) → known_node (firsts_from 0 items) i d ≡ Some b → node_of items i d ≡ Some b
known_is items i (declaration.Input j) b h = absurd (cc)
known_is items i (declaration.Stream j) b h = let e : first_node items j ≡ b = omega (arith, first_known 0 items j b h) in ap Some e
known_is items i (declaration.Macro j) b h = let e : first_node items j ≡ b = omega (arith, first_known 0 items j b h) in ap Some e
known_is items i (declaration.Function j) b h = let e : first_node items j ≡ b = omega (arith, first_known 0 items j b h) in ap Some e
known_is items i (declaration.Mixed j) b h = let e : first_node items j ≡ b = omega (arith, first_known 0 items j b h) in ap Some e
known_is items i (declaration.Parameter k) b h = absurd (cc)
known_is items i (declaration.Local k) b h = by (slice_get (firsts_from 0 items) i) refl h
  where
    by : (o : Option ℕ) → slice_get (firsts_from 0 items) i ≡ o → option_map (λ a. a + 1 + k) o ≡ Some b → Some (first_node items i + 1 + k) ≡ Some b
    by None e p = absurd (cc)
    by (Some a) e p = let f = first_known 0 items i a e in let q : a + 1 + k ≡ b = cc in let r : first_node items i + 1 + k ≡ b = omega arith in ap Some r

top_known : (items : List tree.Item) (j b : ℕ) → b < length (nodes items) → Some (first_node items j) ≡ Some b → slice_get (firsts_from 0 items) j ≡ Some b
top_known items j b h p =
    let q : first_node items j ≡ b = cc in
    let e : 0 + first_node items j ≡ b = omega arith in first_there 0 items j (first_past items j b h (omega arith)) ∙ ap Some e

pub node_known : (items : List tree.Item) (i : ℕ) (d : Declaration) (b : ℕ) → b < length (nodes items) → node_of items i d ≡ Some b → known_node (firsts_from 0 items) i d ≡ Some b
node_known items i (declaration.Input j) b h p = absurd (cc)
node_known items i (declaration.Stream j) b h p = top_known items j b h p
node_known items i (declaration.Macro j) b h p = top_known items j b h p
node_known items i (declaration.Function j) b h p = top_known items j b h p
node_known items i (declaration.Mixed j) b h p = top_known items j b h p
node_known items i (declaration.Parameter k) b h p = absurd (cc)
node_known items i (declaration.Local k) b h p =
    let q : first_node items i + 1 + k ≡ b = cc in
    let e : 0 + first_node items i + 1 + k ≡ b = omega arith in
    ap (option_map (λ a. a + 1 + k)) (first_there 0 items i (first_past items i b h (omega arith))) ∙ ap Some e
