-- Calls of value functions that are kept, and the relation of them.
use Rattle.std.proofs.Common.{◌≡◌, ℕ, zero, suc, ◌+◌, ◌^◌, ◌<◌, Bool, true, false, if◌then◌else◌, List, [], ◌∷◌, ◌++◌, map, length, get_or, Option, Some, None, is_some, refl, sym, ap, subst, ◌∙◌, inl, inr, arith}
use Rattle.std.specs.Prelude.{slice_get}
use Rattle.std.specs.Option.{option_map}
use Rattle.std.specs.List.{All, Contains, filter_map}
use Rattle.std.proofs.lemmas.List.{length-map}
use Rattle.std.proofs.lemmas.List.Elements.{Contains-append_left, Contains-append_right, Contains-append_cases, All-contains_itself, All-weaker, All-same}
use Rattle.std.proofs.lemmas.Option.{slice_get-map, slice_get-get_or, slice_get_within, some_pair_parts}
use Rattle.tsl_value.specs.declared.place.Place.{Place}
use Rattle.syntax_tree.specs.Tree as tree
use Rattle.syntax_tree.specs.declared.tree.Item.{Item}
use Rattle.syntax_tree.specs.inner.OneLevel.{item_of}
use Rattle.translation_order.specs.Least.{IsLeast}
use Rattle.translation_order.specs.OnCycle.{AreBetween, OnCycle}
use Rattle.tsl_value.proofs.Lists.{here, later, none_in_nil, cons_cases, contains_at}
use Rattle.translation_order.proofs.Paths.{first_edge}
use Rattle.name_check.specs.declared.declaration.Declaration.{Declaration}
use Rattle.name_check.specs.declared.declaration.Declaration.TheVariants as declaration
use Rattle.name_check.specs.Scope.{Scope, count_in, in_block, inside, top}
use Rattle.name_check.specs.Parts.{Part, parts}
use Rattle.definition_cycles.specs.Mentions.{declared}
use Rattle.name_check.specs.Bodies.{Seen, bodies, block_bodies, item_bodies}
use Rattle.name_check.specs.inner.Steps.{local_body}
use Rattle.definition_cycles.specs.declared.mention.Mention.{Mention}
use Rattle.definition_cycles.specs.Nodes.{HasFewNodes, Node, definition_nodes, block_nodes, item_nodes, nodes_from, nodes, parameters_of}
use Rattle.definition_cycles.specs.Calls.{is_call, Calls, name_place}
use Rattle.definition_cycles.specs.Cycles.{FunctionCycle, IsPlaceOfLeast}
use Rattle.definition_cycles.specs.inner.Walk.{mentions_from, Kept, with_nodes, nothing_kept}
use Rattle.definition_cycles.specs.inner.Edges.{AreEdges, IsOfSmall, edge_of_call, call_edge}
use Rattle.definition_cycles.proofs.ListLemmas.{at_contains, in_filtered, from_filtered}
use Rattle.definition_cycles.proofs.MentionLemmas.{all_kept, mentioned, is_kept}
use Rattle.definition_cycles.proofs.RangeLemmas.{called_below}
use Rattle.definition_cycles.proofs.CycleLemmas.{are_between, least_on_cycle}
use Rattle.definition_cycles.proofs.CountLemmas.{fewer_items}

-- ---- the bodies of nodes are those of items
same_in : {X : Type 0} (P : X → Type 0) (x y : X) → x ≡ y → P y → P x
same_in P x y e h = subst P (sym e) h

head_body : (n m : Node) (s t : Seen) → n ≡ m → n.body ≡ Some s → m.body ≡ Some t → s ≡ t
head_body n m s t e h k = let same : n.body ≡ m.body = ap (λ x. x.body) e in let all : Some s ≡ Some t = sym h ∙ same ∙ k in cc

mutual
  body_of_node : (i k : ℕ) (s : Scope) (d : tree.Definition) (n : Node) (b : Seen) → Contains (definition_nodes i k s d) n → n.body ≡ Some b → Contains (bodies k s (local_body d)) b
  body_of_node i k s (tree.Define q x ps w (tree.Plain e)) n b c h =
      elim (cons_cases _ n [] c) [ inl same ↦ same_in (Contains (record { scope = s; expr = e } ∷ [])) b (record { scope = s; expr = e }) (sym (head_body _ n (record { scope = s; expr = e }) b same refl h)) (here _ []) | inr past ↦ absurd (none_in_nil n past) ]
  body_of_node i k s (tree.Define q x ps w (tree.Block ds e)) n b c h =
      let t = in_block k s ds in
      let last : Seen = record { scope = t; expr = e } in
      elim (cons_cases _ n (block_nodes i k t ds) c) [ inl same ↦ same_in (Contains (block_bodies k t ds ++ last ∷ [])) b last (sym (head_body _ n last b same refl h)) (Contains-append_right (block_bodies k t ds) (last ∷ []) last (here last [])) | inr rest ↦ Contains-append_left (block_bodies k t ds) (last ∷ []) b (body_in_block i k t ds n b rest h) ]

  body_in_block : (i k : ℕ) (s : Scope) (ds : tree.Definitions) (n : Node) (b : Seen) → Contains (block_nodes i k s ds) n → n.body ≡ Some b → Contains (block_bodies k s ds) b
  body_in_block i k s tree.no_definitions n b c h = absurd (none_in_nil n c)
  body_in_block i k s (tree.more_definitions (tree.Define q x ps w d) ds) n b c h =
      elim (Contains-append_cases (definition_nodes i (suc k) s (tree.Define q x ps w d)) (block_nodes i (suc k + count_in d) s ds) n c) [ inl l ↦ Contains-append_left (bodies (suc k) s d) (block_bodies (suc k + count_in d) s ds) b (body_of_node i (suc k) s (tree.Define q x ps w d) n b l h) | inr r ↦ Contains-append_right (bodies (suc k) s d) (block_bodies (suc k + count_in d) s ds) b (body_in_block i (suc k + count_in d) s ds n b r h) ]

-- a node with a body, of an item
pub record HasNode (i : ℕ) (ns : List Node) (b : Seen) : Type 0 where
  pub node : Node
  pub is_node : Contains ns node
  pub is_body : node.body ≡ Some b
  pub item : node.item ≡ i

has_left : (i : ℕ) (xs ys : List Node) (b : Seen) → HasNode i xs b → HasNode i (xs ++ ys) b
has_left i xs ys b h = record { node = h.node; is_node = Contains-append_left xs ys h.node h.is_node; is_body = h.is_body; item = h.item }

has_right : (i : ℕ) (xs ys : List Node) (b : Seen) → HasNode i ys b → HasNode i (xs ++ ys) b
has_right i xs ys b h = record { node = h.node; is_node = Contains-append_right xs ys h.node h.is_node; is_body = h.is_body; item = h.item }

has_head : (i : ℕ) (q : Place) (w : Bool) (s b : Seen) (ns : List Node) → s ≡ b → HasNode i (record { item = i; place = q; is_written = w; body = Some s } ∷ ns) b
has_head i q w s b ns same = record { node = record { item = i; place = q; is_written = w; body = Some s }; is_node = here _ ns; is_body = ap Some same; item = refl }

has_tail : (i : ℕ) (n : Node) (ns : List Node) (b : Seen) → HasNode i ns b → HasNode i (n ∷ ns) b
has_tail i n ns b h = record { node = h.node; is_node = later n h.node ns h.is_node; is_body = h.is_body; item = h.item }

mutual
  node_of_body : (i k : ℕ) (s : Scope) (d : tree.Definition) (b : Seen) → Contains (bodies k s (local_body d)) b → HasNode i (definition_nodes i k s d) b
  node_of_body i k s (tree.Define q x ps w (tree.Plain e)) b c =
      elim (cons_cases (record { scope = s; expr = e }) b [] c) [ inl same ↦ has_head i q (is_some w) (record { scope = s; expr = e }) b [] same | inr past ↦ absurd (none_in_nil b past) ]
  node_of_body i k s (tree.Define q x ps w (tree.Block ds e)) b c =
      let t = in_block k s ds in
      let last : Seen = record { scope = t; expr = e } in
      elim (Contains-append_cases (block_bodies k t ds) (last ∷ []) b c) [ inl l ↦ has_tail i _ (block_nodes i k t ds) b (node_in_block i k t ds b l) | inr r ↦ elim (cons_cases last b [] r) [ inl same ↦ has_head i q (is_some w) last b (block_nodes i k t ds) same | inr past ↦ absurd (none_in_nil b past) ] ]

  node_in_block : (i k : ℕ) (s : Scope) (ds : tree.Definitions) (b : Seen) → Contains (block_bodies k s ds) b → HasNode i (block_nodes i k s ds) b
  node_in_block i k s tree.no_definitions b c = absurd (none_in_nil b c)
  node_in_block i k s (tree.more_definitions (tree.Define q x ps w d) ds) b c =
      elim (Contains-append_cases (bodies (suc k) s d) (block_bodies (suc k + count_in d) s ds) b c) [ inl l ↦ has_left i (definition_nodes i (suc k) s (tree.Define q x ps w d)) (block_nodes i (suc k + count_in d) s ds) b (node_of_body i (suc k) s (tree.Define q x ps w d) b l) | inr r ↦ has_right i (definition_nodes i (suc k) s (tree.Define q x ps w d)) (block_nodes i (suc k + count_in d) s ds) b (node_in_block i (suc k + count_in d) s ds b r) ]

-- each node is of its item
mutual
  item_of_node : (i k : ℕ) (s : Scope) (d : tree.Definition) (n : Node) → Contains (definition_nodes i k s d) n → n.item ≡ i
  item_of_node i k s (tree.Define q x ps w (tree.Plain e)) n c = elim (cons_cases _ n [] c) [ inl same ↦ sym (ap (λ y. y.item) same) | inr past ↦ absurd (none_in_nil n past) ]
  item_of_node i k s (tree.Define q x ps w (tree.Block ds e)) n c =
      elim (cons_cases _ n (block_nodes i k (in_block k s ds) ds) c) [ inl same ↦ sym (ap (λ y. y.item) same) | inr rest ↦ item_in_block i k (in_block k s ds) ds n rest ]

  item_in_block : (i k : ℕ) (s : Scope) (ds : tree.Definitions) (n : Node) → Contains (block_nodes i k s ds) n → n.item ≡ i
  item_in_block i k s tree.no_definitions n c = absurd (none_in_nil n c)
  item_in_block i k s (tree.more_definitions (tree.Define q x ps w d) ds) n c =
      elim (Contains-append_cases (definition_nodes i (suc k) s (tree.Define q x ps w d)) (block_nodes i (suc k + count_in d) s ds) n c) [ inl l ↦ item_of_node i (suc k) s (tree.Define q x ps w d) n l | inr r ↦ item_in_block i (suc k + count_in d) s ds n r ]

-- ---- items
record IsOfDefinition (scope : Scope) (x : tree.Item) (b : Seen) : Type 0 where
  place : Place
  definition : tree.Definition
  is : x ≡ tree.Defined place definition
  is_body : Contains (item_bodies scope (tree.Defined place definition)) b

bodies_same : (scope : Scope) (p : Place) (d : tree.Definition) → item_bodies scope (tree.Defined p d) ≡ bodies 0 (inside scope (parameters_of d)) (local_body d)
bodies_same scope p (tree.Define q n ps w b) = refl

no_body : {A : Type 0} (n m : Node) (b : Seen) → n ≡ m → n.body ≡ None → m.body ≡ Some b → A
no_body n m b e h k = let all : None ≡ Some b = sym h ∙ ap (λ x. x.body) e ∙ k in absurd (cc)

in_item : (i : ℕ) (scope : Scope) (x : tree.Item) (n : Node) (b : Seen) → Contains (item_nodes i scope x) n → n.body ≡ Some b → IsOfDefinition scope x b
in_item i scope (tree.Input p q y z) n b c h = elim (cons_cases _ n [] c) [ inl same ↦ no_body _ n b same refl h | inr past ↦ absurd (none_in_nil n past) ]
in_item i scope (tree.Defined p d) n b c h = record {
  place = p;
  definition = d;
  is = refl;
  is_body = subst (λ l. Contains l b) (sym (bodies_same scope p d)) (body_of_node i 0 (inside scope (parameters_of d)) d n b c h);
}
in_item i scope (tree.Output p q y) n b c h = elim (cons_cases _ n [] c) [ inl same ↦ no_body _ n b same refl h | inr past ↦ absurd (none_in_nil n past) ]
in_item i scope (tree.OutputAs p e q y) n b c h = elim (cons_cases _ n [] c) [ inl same ↦ no_body _ n b same refl h | inr past ↦ absurd (none_in_nil n past) ]

number_in_item : (i : ℕ) (scope : Scope) (x : tree.Item) (n : Node) → Contains (item_nodes i scope x) n → n.item ≡ i
number_in_item i scope (tree.Input p q y z) n c = elim (cons_cases _ n [] c) [ inl same ↦ sym (ap (λ y. y.item) same) | inr past ↦ absurd (none_in_nil n past) ]
number_in_item i scope (tree.Defined p d) n c = item_of_node i 0 (inside scope (parameters_of d)) d n c
number_in_item i scope (tree.Output p q y) n c = elim (cons_cases _ n [] c) [ inl same ↦ sym (ap (λ y. y.item) same) | inr past ↦ absurd (none_in_nil n past) ]
number_in_item i scope (tree.OutputAs p e q y) n c = elim (cons_cases _ n [] c) [ inl same ↦ sym (ap (λ y. y.item) same) | inr past ↦ absurd (none_in_nil n past) ]

record InItems (i : ℕ) (scope : Scope) (items : List tree.Item) (n : Node) : Type 0 where
  number : ℕ
  item : tree.Item
  is_item : slice_get items number ≡ Some item
  is_node : Contains (item_nodes (i + number) scope item) n

in_items : (i : ℕ) (scope : Scope) (items : List tree.Item) (n : Node) → Contains (nodes_from i scope items) n → InItems i scope items n
in_items i scope [] n c = absurd (none_in_nil n c)
in_items i scope (x ∷ items) n c = elim (Contains-append_cases (item_nodes i scope x) (nodes_from (suc i) scope items) n c) [ inl l ↦ first l | inr r ↦ rest (in_items (suc i) scope items n r) ]
  where
    first : Contains (item_nodes i scope x) n → InItems i scope (x ∷ items) n
    first l = let e : i ≡ i + 0 = omega arith in record { number = 0; item = x; is_item = refl; is_node = subst (λ j. Contains (item_nodes j scope x) n) e l }

    rest : InItems (suc i) scope items n → InItems i scope (x ∷ items) n
    rest r = let e : suc i + r.number ≡ i + suc r.number = omega arith in record { number = suc r.number; item = r.item; is_item = r.is_item; is_node = subst (λ j. Contains (item_nodes j scope r.item) n) e r.is_node }

pub node_in_items : (i : ℕ) (scope : Scope) (items : List tree.Item) (k : ℕ) (p : Place) (d : tree.Definition) (b : Seen) → slice_get items k ≡ Some (tree.Defined p d) → Contains (item_bodies scope (tree.Defined p d)) b → HasNode (i + k) (nodes_from i scope items) b
node_in_items i scope [] k p d b at c = absurd (cc)
node_in_items i scope (x ∷ items) zero p d b at c =
    let same : x ≡ tree.Defined p d = cc in
    let e : i ≡ i + 0 = omega arith in
    let one = node_of_body i 0 (inside scope (parameters_of d)) d b (subst (λ l. Contains l b) (bodies_same scope p d) c) in
    subst (λ j. HasNode j (item_nodes i scope x ++ nodes_from (suc i) scope items) b) e
    (has_left i (item_nodes i scope x) (nodes_from (suc i) scope items) b (subst (λ y. HasNode i (item_nodes i scope y) b) (sym same) one))
node_in_items i scope (x ∷ items) (suc k) p d b at c =
    let e : suc i + k ≡ i + suc k = omega arith in
    has_right (i + suc k) (item_nodes i scope x) (nodes_from (suc i) scope items) b (subst (λ j. HasNode j (nodes_from (suc i) scope items) b) e (node_in_items (suc i) scope items k p d b at c))

-- ---- one call
record IsCallEdge (m : Mention) (x y : ℕ) : Type 0 where
  calls : m.calls ≡ true
  from : m.item ≡ x
  to : m.is ≡ declaration.Function y

call_facts : (m : Mention) (x y : ℕ) → call_edge m ≡ Some (x, y) → IsCallEdge m x y
call_facts m x y h = let first = by_calls m.calls refl h in by m.is refl first.0 first.1
  where
    by_calls : (b : Bool) → m.calls ≡ b → (if b then edge_of_call m.item m.is else None) ≡ Some (x, y) → (m.calls ≡ true) × (edge_of_call m.item m.is ≡ Some (x, y))
    by_calls true e k = (e, k)
    by_calls false e k = absurd (cc)

    by : (d : Declaration) → m.is ≡ d → m.calls ≡ true → edge_of_call m.item d ≡ Some (x, y) → IsCallEdge m x y
    by (declaration.Function j) e c k =
        let both = some_pair_parts m.item x j y k in record {
          calls = c;
          from = both.0;
          to = e ∙ ap declaration.Function both.1;
        }
    by (declaration.Input j) e c k = absurd (cc)
    by (declaration.Stream j) e c k = absurd (cc)
    by (declaration.Macro j) e c k = absurd (cc)
    by (declaration.Mixed j) e c k = absurd (cc)
    by (declaration.Parameter j) e c k = absurd (cc)
    by (declaration.Local j) e c k = absurd (cc)

-- ---- all calls
abbrev edges_of : List tree.Item → List (ℕ × ℕ)
edges_of items = filter_map call_edge (mentions_from 0 (nodes items))

-- a mention in an item of a definition
pub record IsMentionOf (items : List tree.Item) (a : ℕ) (m : Mention) : Type 0 where
  pub place : Place
  pub definition : tree.Definition
  pub is_item : slice_get items a ≡ Some (tree.Defined place definition)
  pub seen : Seen
  pub is_body : Contains (item_bodies (top items) (tree.Defined place definition)) seen
  pub part : Part
  pub is_part : Contains (parts seen.expr) part
  pub calls : m.calls ≡ is_call part
  pub stands_for : declared seen.scope part ≡ Some m.is

pub mention_of : (items : List tree.Item) (a : ℕ) (m : Mention) → m.item ≡ a → Contains (mentions_from 0 (nodes items)) m → IsMentionOf items a m
mention_of items a m from c =
    let n = mentioned 0 (nodes items) m c in
    let i = in_items 0 (top items) items n.node (contains_at (nodes items) n.number n.node n.is_node) in
    let d = in_item (0 + i.number) (top items) i.item n.node n.at.seen i.is_node n.at.is_body in
    let number : i.number ≡ a = omega (arith, number_in_item (0 + i.number) (top items) i.item n.node i.is_node, n.at.item, from) in record {
      place = d.place;
      definition = d.definition;
      is_item = same_at number (i.is_item ∙ ap Some d.is);
      seen = n.at.seen;
      is_body = d.is_body;
      part = n.at.part;
      is_part = n.at.is_part;
      calls = n.at.calls;
      stands_for = n.at.stands_for;
    }
  where
    same_at : {j k : ℕ} {o : Option tree.Item} → j ≡ k → slice_get items j ≡ o → slice_get items k ≡ o
    same_at e h = sym (ap (slice_get items) e) ∙ h

edge_means : (items : List tree.Item) (a b : ℕ) → Contains (edges_of items) (a, b) → Calls items a b
edge_means items a b c =
    let g = from_filtered call_edge (mentions_from 0 (nodes items)) (a, b) c in
    let f = call_facts g.from a b g.gives in
    let m = mention_of items a g.from f.from g.is_there in record {
      place = m.place;
      definition = m.definition;
      is_item = m.is_item;
      seen = m.seen;
      is_body = m.is_body;
      part = m.part;
      is_part = m.is_part;
      calls = sym m.calls ∙ f.calls;
      stands_for = m.stands_for ∙ ap Some f.to;
    }

is_edge : (items : List tree.Item) (a b : ℕ) → Calls items a b → Contains (edges_of items) (a, b)
is_edge items a b u =
    let n = node_in_items 0 (top items) items a u.place u.definition u.seen u.is_item u.is_body in
    let at = at_contains (nodes items) n.node n.is_node in
    let kept : Mention = record { item = n.node.item; node = 0 + at.0; is = declaration.Function b; calls = is_call u.part } in
    let item : n.node.item ≡ a = omega (arith, n.item) in
    in_filtered call_edge (mentions_from 0 (nodes items)) kept (a, b)
    (is_kept 0 (nodes items) at.0 n.node u.seen u.part (declaration.Function b) at.1 n.is_body u.is_part u.stands_for)
    (ap (λ t. if t then edge_of_call n.node.item (declaration.Function b) else None) u.calls ∙ ap (λ i. Some (i, b)) item)

pub call_edges : (items : List tree.Item) (k : Kept) (edges : List (ℕ × ℕ)) → k ≡ with_nodes nothing_kept (nodes items) → edges ≡ filter_map call_edge k.mentions → AreEdges (Calls items) edges
call_edges items k edges kept made =
    let same : edges ≡ edges_of items = made ∙ ap (filter_map call_edge) (all_kept (nodes items) k kept).1 in
    let P : List (ℕ × ℕ) → Type 0 = λ e. AreEdges (Calls items) e in subst P (sym same) (record { means = edge_means items; has = is_edge items })

-- ---- the numbers of a call
pub small_call : (m : Mention) (j : ℕ) → m.calls ≡ true → m.is ≡ declaration.Function j → IsOfSmall (call_edge m) → (m.item < 2 ^ 32) × (j < 2 ^ 32)
small_call m j calls is small =
    let edge : call_edge m ≡ Some (m.item, j) = ap (λ b. if b then edge_of_call m.item m.is else None) calls ∙ ap (edge_of_call m.item) is in
    subst IsOfSmall edge small

pub small_pair : (o : Option (ℕ × ℕ)) → ((a b : ℕ) → o ≡ Some (a, b) → (a < 2 ^ 32) × (b < 2 ^ 32)) → IsOfSmall o
small_pair None h = tt
small_pair (Some e) h = h e.0 e.1 refl

-- those of all mentions
pub small_calls : (items : List tree.Item) (k : Kept) (mentions : List Mention) → HasFewNodes items → k ≡ with_nodes nothing_kept (nodes items) → mentions ≡ k.mentions → All (λ m. IsOfSmall (call_edge m)) mentions
small_calls items k mentions few kept is = All-same P mentions all (is ∙ (all_kept (nodes items) k kept).1) (All-weaker (Contains all) P small all (All-contains_itself all))
  where
    all : List Mention
    all = mentions_from 0 (nodes items)

    P : Mention → Type 0
    P m = IsOfSmall (call_edge m)

    within : (a b : ℕ) → Calls items a b → (a < 2 ^ 32) × (b < 2 ^ 32)
    within a b u =
        let count = fewer_items items few in
        let from = slice_get_within items a (tree.Defined u.place u.definition) u.is_item in
        let to = called_below items u.place u.definition u.seen u.part b u.is_body u.stands_for in (omega (arith, count, from), omega (arith, count, to))

    small : (m : Mention) → Contains all m → P m
    small m c = small_pair (call_edge m) (λ a b e. within a b (edge_means items a b (in_filtered call_edge all m (a, b) c e)))

pub calls_between : (items : List tree.Item) (n : ℕ) (edges : List (ℕ × ℕ)) → n ≡ length items → AreEdges (Calls items) edges → AreBetween n edges
calls_between items n edges is e =
    are_between n edges (λ a b c. let u = e.means a b c in (subst (λ m. a < m) (sym is) (slice_get_within items a (tree.Defined u.place u.definition) u.is_item), subst (λ m. b < m) (sym is) (called_below items u.place u.definition u.seen u.part b u.is_body u.stands_for)))

pub within_items : (items : List tree.Item) (edges : List (ℕ × ℕ)) (x : ℕ) → AreEdges (Calls items) edges → IsLeast (OnCycle edges) x → x < length items
within_items items edges x e l =
    let step = first_edge (Calls items) x x (least_on_cycle edges (Calls items) e x l).holds in
    slice_get_within items x (tree.Defined step.1.place step.1.definition) step.1.is_item

pub first_call : (items : List Item) (edges : List (ℕ × ℕ)) (x : ℕ) (it : Item) (p : Place) → AreEdges (Calls (map item_of items)) edges → it ≡ get_or items x it → p ≡ name_place (item_of it) → IsLeast (OnCycle edges) x → IsPlaceOfLeast (FunctionCycle (map item_of items)) (map name_place (map item_of items)) p
first_call items edges x it p e is at l = record {
  number = x;
  is_least = least_on_cycle edges (Calls (map item_of items)) e x l;
  at =
      slice_get-map name_place (map item_of items) x
      ∙ ap (option_map name_place) (slice_get-map item_of items x ∙ ap (option_map item_of) (slice_get-get_or items x it within ∙ ap Some (sym is)))
      ∙ ap Some (sym at);
}
  where
    within : x < length items
    within = omega (arith, within_items (map item_of items) edges x e l, length-map items item_of)
