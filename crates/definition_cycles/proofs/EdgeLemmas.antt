-- Edges between nodes without a written type, and the relation of them.
use Rattle.std.proofs.Common.{◌≡◌, ℕ, ◌+◌, ◌^◌, ◌<◌, Bool, true, false, not, ◌&&◌, if◌then◌else◌, List, map, length, get_or, Option, Some, None, refl, sym, ap, subst, ◌∙◌, arith}
use Rattle.std.specs.Prelude.{slice_get}
use Rattle.std.specs.Option.{option_map}
use Rattle.std.specs.List.{Contains, filter_map}
use Rattle.std.proofs.lemmas.List.{length-map}
use Rattle.std.proofs.lemmas.Option.{slice_get-map, slice_get-get_or, slice_get_within, slice_get_past, cond_some}
use Rattle.std.proofs.lemmas.Bool.{and_parts}
use Rattle.std.proofs.Math.Bool.{and-false}
use Rattle.syntax_tree.specs.Tree as tree
use Rattle.translation_order.specs.Least.{IsLeast}
use Rattle.translation_order.specs.OnCycle.{Edge, AreBetween, OnCycle}
use Rattle.translation_order.proofs.Paths.{first_edge}
use Rattle.definition_cycles.specs.declared.mention.Mention.{Mention}
use Rattle.definition_cycles.specs.declared.found.Head.{Head}
use Rattle.definition_cycles.specs.Nodes.{Node, nodes, node_of}
use Rattle.definition_cycles.specs.Mentions.{IsUntyped, MentionsUntyped}
use Rattle.definition_cycles.specs.Cycles.{NeedsType, IsPlaceOfLeast}
use Rattle.definition_cycles.specs.Calls.{is_call}
use Rattle.definition_cycles.specs.inner.Walk.{head_of, mentions_from, Kept, with_nodes, nothing_kept, firsts_from}
use Rattle.definition_cycles.specs.inner.Edges.{AreEdges, IsKnown, is_unwritten, is_untyped, known_node, untyped_pair, untyped_edge}
use Rattle.definition_cycles.proofs.CycleLemmas.{are_between, least_on_cycle}
use Rattle.definition_cycles.proofs.ListLemmas.{in_filtered, from_filtered}
use Rattle.definition_cycles.proofs.MentionLemmas.{all_kept, mentioned, is_kept}
use Rattle.definition_cycles.proofs.NumberLemmas.{known_is, node_known}

-- a node that is past all numbers of the machine has no head
past_all : (heads : List Head) (a : ℕ) (o : Option ℕ) → length heads < 2 ^ 32 → IsKnown o None → None ≡ untyped_pair heads a o
past_all heads a None few h = refl
past_all heads a (Some n) few h =
    let past : is_untyped heads n ≡ false = ap is_unwritten (slice_get_past heads n (omega arith)) in
    sym (ap (λ t. if t then Some (a, n) else None) (ap (λ t. is_untyped heads a && t) past ∙ and-false (is_untyped heads a)))

pub unknown_edge : (firsts : List ℕ) (heads : List Head) (m : Mention) → length heads < 2 ^ 32 → IsKnown (known_node firsts m.item m.is) None → None ≡ untyped_edge firsts heads m
unknown_edge firsts heads m few h = past_all heads m.node (known_node firsts m.item m.is) few h

-- a node without a written type has a head
pub untyped_within : (heads : List Head) (a : ℕ) → is_untyped heads a ≡ true → a < length heads
untyped_within heads a h = by (slice_get heads a) refl h
  where
    by : (o : Option Head) → slice_get heads a ≡ o → is_unwritten o ≡ true → a < length heads
    by None e k = absurd (cc)
    by (Some x) e k = slice_get_within heads a x e

-- ---- one edge
record IsUntypedPair (heads : List Head) (a : ℕ) (o : Option ℕ) (x y : ℕ) : Type 0 where
  to : o ≡ Some y
  from : a ≡ x
  untyped_from : is_untyped heads a ≡ true
  untyped_to : is_untyped heads y ≡ true

pair_facts : (heads : List Head) (a : ℕ) (o : Option ℕ) (x y : ℕ) → untyped_pair heads a o ≡ Some (x, y) → IsUntypedPair heads a o x y
pair_facts heads a None x y h = absurd (cc)
pair_facts heads a (Some b) x y h =
    let both = cond_some (is_untyped heads a && is_untyped heads b) (a, b) (x, y) h in
    let tests = and_parts (is_untyped heads a) (is_untyped heads b) both.0 in
    let second : b ≡ y = ap (λ (p : ℕ × ℕ). p.1) both.1 in record {
      to = ap Some second;
      from = ap (λ (p : ℕ × ℕ). p.0) both.1;
      untyped_from = tests.0;
      untyped_to = sym (ap (is_untyped heads) second) ∙ tests.1;
    }

unwritten : (o : Option Node) → is_unwritten (option_map head_of o) ≡ true → (n : Node) × (o ≡ Some n) × (n.is_written ≡ false)
unwritten None h = absurd (cc)
unwritten (Some n) h = (n, refl, by n.is_written h)
  where
    by : (b : Bool) → not b ≡ true → b ≡ false
    by true k = cc
    by false k = refl

untyped_node : (items : List tree.Item) (a : ℕ) → is_untyped (map head_of (nodes items)) a ≡ true → IsUntyped items a
untyped_node items a h =
    let f = unwritten (slice_get (nodes items) a) (sym (ap is_unwritten (slice_get-map head_of (nodes items) a)) ∙ h) in
    record { node = f.0; is_node = f.1; not_written = f.2 }

node_untyped : (items : List tree.Item) (a : ℕ) → IsUntyped items a → is_untyped (map head_of (nodes items)) a ≡ true
node_untyped items a u =
    ap is_unwritten (slice_get-map head_of (nodes items) a ∙ ap (option_map head_of) u.is_node) ∙ ap not u.not_written

-- ---- all edges
abbrev edges_of : List tree.Item → List (ℕ × ℕ)
edges_of items = filter_map (untyped_edge (firsts_from 0 items) (map head_of (nodes items))) (mentions_from 0 (nodes items))

edge_means : (items : List tree.Item) (a b : ℕ) → Contains (edges_of items) (a, b) → MentionsUntyped items a b
edge_means items a b c =
    let heads = map head_of (nodes items) in
    let g = from_filtered (untyped_edge (firsts_from 0 items) heads) (mentions_from 0 (nodes items)) (a, b) c in
    let f = pair_facts heads g.from.node (known_node (firsts_from 0 items) g.from.item g.from.is) a b g.gives in
    let m = mentioned 0 (nodes items) g.from g.is_there in
    let here : m.number ≡ a = omega (arith, m.at.node, f.from) in record {
      from = untyped_node items a (sym (ap (is_untyped heads) f.from) ∙ f.untyped_from);
      to = untyped_node items b f.untyped_to;
      mentions = record {
        node = m.node;
        is_node = sym (ap (slice_get (nodes items)) here) ∙ m.is_node;
        seen = m.at.seen;
        is_body = m.at.is_body;
        part = m.at.part;
        is_part = m.at.is_part;
        declaration = g.from.is;
        stands_for = m.at.stands_for;
        is_mentioned = sym (ap (λ i. node_of items i g.from.is) m.at.item) ∙ known_is items g.from.item g.from.is b f.to;
      };
    }

is_edge : (items : List tree.Item) (a b : ℕ) → MentionsUntyped items a b → Contains (edges_of items) (a, b)
is_edge items a b u =
    let m = u.mentions in
    let heads = map head_of (nodes items) in
    let kept : Mention = record { item = m.node.item; node = 0 + a; is = m.declaration; calls = is_call m.part } in
    let known = node_known items m.node.item m.declaration b (slice_get_within (nodes items) b u.to.node u.to.is_node) m.is_mentioned in
    let at : 0 + a ≡ a = omega arith in
    in_filtered (untyped_edge (firsts_from 0 items) heads) (mentions_from 0 (nodes items)) kept (a, b)
    (is_kept 0 (nodes items) a m.node m.seen m.part m.declaration m.is_node m.is_body m.is_part m.stands_for)
    (ap (untyped_pair heads (0 + a)) known
    ∙ ap (λ x. untyped_pair heads x (Some b)) at
    ∙ ap (λ t. if t && is_untyped heads b then Some (a, b) else None) (node_untyped items a u.from)
    ∙ ap (λ t. if true && t then Some (a, b) else None) (node_untyped items b u.to))

-- ---- the edges that are made of what is kept
pub untyped_edges : (items : List tree.Item) (firsts : List ℕ) (k : Kept) (edges : List (ℕ × ℕ)) → firsts ≡ firsts_from 0 items → k ≡ with_nodes nothing_kept (nodes items) → edges ≡ filter_map (untyped_edge firsts k.heads) k.mentions → AreEdges (MentionsUntyped items) edges
untyped_edges items firsts k edges is kept made =
    let all = all_kept (nodes items) k kept in
    let same : edges ≡ edges_of items = made ∙ ap (λ f. filter_map (untyped_edge f k.heads) k.mentions) is ∙ ap (λ h. filter_map (untyped_edge (firsts_from 0 items) h) k.mentions) all.0 ∙ ap (filter_map (untyped_edge (firsts_from 0 items) (map head_of (nodes items)))) all.1 in
    let P : List (ℕ × ℕ) → Type 0 = λ e. AreEdges (MentionsUntyped items) e in subst P (sym same) (record { means = edge_means items; has = is_edge items })

pub heads_are : (items : List tree.Item) (k : Kept) → k ≡ with_nodes nothing_kept (nodes items) → k.heads ≡ map head_of (nodes items)
heads_are items k kept = (all_kept (nodes items) k kept).0

pub heads_length : (items : List tree.Item) (heads : List Head) → heads ≡ map head_of (nodes items) → length heads ≡ length (nodes items)
heads_length items heads is = ap (λ l. length l) is ∙ length-map (nodes items) head_of

pub mention_between : (items : List tree.Item) (n : ℕ) → n ≡ length (nodes items) → (a b : ℕ) → MentionsUntyped items a b → (a < n) × (b < n)
mention_between items n is a b u = (subst (λ m. a < m) (sym is) (slice_get_within (nodes items) a u.from.node u.from.is_node), subst (λ m. b < m) (sym is) (slice_get_within (nodes items) b u.to.node u.to.is_node))

pub untyped_between : (items : List tree.Item) (n : ℕ) (edges : List (ℕ × ℕ)) → n ≡ length (nodes items) → AreEdges (MentionsUntyped items) edges → AreBetween n edges
untyped_between items n edges is e =
    are_between n edges (λ a b c. mention_between items n is a b (e.means a b c))

pub within_heads : (items : List tree.Item) (heads : List Head) (edges : List (ℕ × ℕ)) (x : ℕ) → AreEdges (MentionsUntyped items) edges → heads ≡ map head_of (nodes items) → IsLeast (OnCycle edges) x → x < length heads
within_heads items heads edges x e is l =
    let step = first_edge (Edge edges) x x l.holds in
    let from = (e.means x step.0 step.1).from in
    omega (arith, heads_length items heads is, slice_get_within (nodes items) x from.node from.is_node)

pub first_untyped : (items : List tree.Item) (heads : List Head) (edges : List (ℕ × ℕ)) (x : ℕ) (d : Head) → AreEdges (MentionsUntyped items) edges → heads ≡ map head_of (nodes items) → IsLeast (OnCycle edges) x → IsPlaceOfLeast (NeedsType items) (map (λ n. n.place) (nodes items)) (get_or heads x d).place
first_untyped items heads edges x d e is l =
    let least = least_on_cycle edges (MentionsUntyped items) e x l in
    let step = first_edge (MentionsUntyped items) x x least.holds in
    let node = step.1.from in
    let head : Some (head_of node.node) ≡ Some (get_or heads x d) = sym (ap (λ l. slice_get l x) is ∙ slice_get-map head_of (nodes items) x ∙ ap (option_map head_of) node.is_node) ∙ slice_get-get_or heads x d (within_heads items heads edges x e is l) in record {
      number = x;
      is_least = least;
      at = slice_get-map (λ n. n.place) (nodes items) x ∙ ap (option_map (λ n. n.place)) node.is_node ∙ ap (option_map (λ h. h.place)) head;
    }
