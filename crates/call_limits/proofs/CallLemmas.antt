-- Calls that are kept, and the relation of them.
use Rattle.std.proofs.Common.{◌≡◌, ℕ, zero, suc, ◌+◌, ◌^◌, ◌<◌, ◌≤◌, Bool, true, false, if◌then◌else◌, List, [], ◌∷◌, ◌++◌, map, length, get_or, drop, Option, Some, None, refl, sym, ap, subst, ◌∙◌, inl, inr, append_assoc, add-one, arith}
use Rattle.std.specs.Prelude.{slice_get}
use Rattle.std.specs.Option.{option_map}
use Rattle.std.specs.List.{All, Contains, filter_map}
use Rattle.std.proofs.lemmas.List.{append-nil, drop_all}
use Rattle.std.proofs.lemmas.List.Elements.{Contains-append_left, Contains-append_right, Contains-append_cases, filter_map-append, All-contains_itself, All-weaker, All-same}
use Rattle.std.proofs.lemmas.Option.{some_pair_parts}
use Rattle.tsl_value.specs.declared.place.Place.{Place}
use Rattle.syntax_tree.specs.Tree as tree
use Rattle.syntax_tree.specs.declared.tree.Item.{Item}
use Rattle.syntax_tree.specs.inner.OneLevel.{item_of}
use Rattle.tsl_value.proofs.Lists.{none_in_nil, cons_cases, left_at}
use Rattle.name_check.specs.declared.declaration.Declaration.{Declaration}
use Rattle.name_check.specs.declared.declaration.Declaration.TheVariants as declaration
use Rattle.name_check.specs.Scope.{Scope, Agree, seen, top}
use Rattle.name_check.specs.Parts.{Part, Operand, parts}
use Rattle.name_check.specs.Bodies.{Seen, item_bodies}
use Rattle.name_check.proofs.AgreeLemmas.{agree_same, agree_trans}
use Rattle.definition_cycles.specs.declared.mention.Mention.{Mention}
use Rattle.definition_cycles.specs.Nodes.{HasFewNodes, nodes}
use Rattle.definition_cycles.specs.Mentions.{declared}
use Rattle.definition_cycles.specs.Calls.{is_call}
use Rattle.definition_cycles.specs.inner.Walk.{mention_in, mentions_from, Kept, with_nodes, nothing_kept}
use Rattle.definition_cycles.specs.inner.Edges.{AreEdges, IsOfSmall}
use Rattle.definition_cycles.proofs.FoundLemmas.{same_among}
use Rattle.definition_cycles.proofs.ListLemmas.{at_contains, in_filtered, from_filtered}
use Rattle.definition_cycles.proofs.MentionLemmas.{all_kept, is_kept, mention_facts}
use Rattle.definition_cycles.proofs.CallLemmas.{IsMentionOf, node_in_items, mention_of, small_pair}
use Rattle.definition_cycles.proofs.CountLemmas.{fewer_items}
use Rattle.call_limits.specs.Nesting.{CallsDeclared, CallsMacro, CallsFunction}
use Rattle.call_limits.specs.inner.Edges.{macro_of, function_of, call_to, macro_call, function_call, IsSmallCall, mentions_in_output, mentions_in_outputs}
use Rattle.call_limits.proofs.GraphLemmas.{macro_within, function_within}

-- ---- mentions in outputs
pub record InOutput (items : List tree.Item) (scope : Scope) (i : ℕ) (m : Mention) : Type 0 where
  pub number : ℕ
  pub item : tree.Item
  pub is_item : slice_get items number ≡ Some item
  pub is_there : Contains (mentions_in_output (i + number) scope item) m

in_output : (i : ℕ) (scope : Scope) (items : List tree.Item) (m : Mention) → Contains (mentions_in_outputs i scope items) m → InOutput items scope i m
in_output i scope [] m c = absurd (none_in_nil m c)
in_output i scope (x ∷ items) m c = elim (Contains-append_cases (mentions_in_output i scope x) (mentions_in_outputs (suc i) scope items) m c) [ inl l ↦ first l | inr r ↦ rest (in_output (suc i) scope items m r) ]
  where
    first : Contains (mentions_in_output i scope x) m → InOutput (x ∷ items) scope i m
    first l = let e : i ≡ i + 0 = omega arith in record { number = 0; item = x; is_item = refl; is_there = subst (λ j. Contains (mentions_in_output j scope x) m) e l }

    rest : InOutput items scope (suc i) m → InOutput (x ∷ items) scope i m
    rest r = let e : suc i + r.number ≡ i + suc r.number = omega arith in record { number = suc r.number; item = r.item; is_item = r.is_item; is_there = subst (λ j. Contains (mentions_in_output j scope r.item) m) e r.is_there }

of_output : (i : ℕ) (scope : Scope) (items : List tree.Item) (k : ℕ) (x : tree.Item) (m : Mention) → slice_get items k ≡ Some x → Contains (mentions_in_output (i + k) scope x) m → Contains (mentions_in_outputs i scope items) m
of_output i scope [] k x m at c = absurd (cc)
of_output i scope (y ∷ items) zero x m at c =
    let e : i + 0 ≡ i = omega arith in
    let same : x ≡ y = cc in
    Contains-append_left (mentions_in_output i scope y) (mentions_in_outputs (suc i) scope items) m
    (subst (λ z. Contains (mentions_in_output i scope z) m) same (subst (λ j. Contains (mentions_in_output j scope x) m) e c))
of_output i scope (y ∷ items) (suc k) x m at c =
    let e : i + suc k ≡ suc i + k = omega arith in
    Contains-append_right (mentions_in_output i scope y) (mentions_in_outputs (suc i) scope items) m
    (of_output (suc i) scope items k x m at (subst (λ j. Contains (mentions_in_output j scope x) m) e c))

-- ---- all mentions
abbrev pub all_mentions : List tree.Item → List Mention
all_mentions items = mentions_from 0 (nodes items) ++ mentions_in_outputs 0 (top items) items

-- a call that is mentioned
pub record IsMentionedCall (items : List tree.Item) (i : ℕ) (d : Declaration) : Type 0 where
  pub mention : Mention
  pub is_there : Contains (all_mentions items) mention
  pub calls : mention.calls ≡ true
  pub item : mention.item ≡ i
  pub is : mention.is ≡ d

called_in_output : (items : List tree.Item) (i k : ℕ) (x : tree.Item) (m : Mention) → slice_get items k ≡ Some x → Contains (mentions_in_output k (top items) x) m → m.calls ≡ true → m.item ≡ i → CallsDeclared items i m.is
called_in_output items i k (tree.Input p q n y) m at c calls is = absurd (none_in_nil m c)
called_in_output items i k (tree.Defined p d) m at c calls is = absurd (none_in_nil m c)
called_in_output items i k (tree.Output p q n) m at c calls is = absurd (none_in_nil m c)
called_in_output items i k (tree.OutputAs p e q n) m at c calls is =
    let g = from_filtered (mention_in k 0 (top items)) (parts e) m c in
    let f = mention_facts k 0 (top items) g.from m g.gives in
    let same : k ≡ i = sym f.item ∙ is in record {
      item = tree.OutputAs p e q n;
      is_item = sym (ap (slice_get items) same) ∙ at;
      seen = record { scope = top items; expr = e };
      is_body = (0, omega arith, refl);
      part = g.from;
      is_part = g.is_there;
      calls = sym f.calls ∙ calls;
      stands_for = f.stands_for;
    }

mentioned_means : (items : List tree.Item) (i : ℕ) (m : Mention) → Contains (all_mentions items) m → m.calls ≡ true → m.item ≡ i → CallsDeclared items i m.is
mentioned_means items i m c calls is = elim (Contains-append_cases (mentions_from 0 (nodes items)) (mentions_in_outputs 0 (top items) items) m c) [
  | inl l ↦ in_definition (mention_of items i m is l)
  | inr r ↦ in_outputs (in_output 0 (top items) items m r)
]
  where
    in_definition : IsMentionOf items i m → CallsDeclared items i m.is
    in_definition o = record {
      item = tree.Defined o.place o.definition;
      is_item = o.is_item;
      seen = o.seen;
      is_body = o.is_body;
      part = o.part;
      is_part = o.is_part;
      calls = sym o.calls ∙ calls;
      stands_for = o.stands_for;
    }

    in_outputs : InOutput items (top items) 0 m → CallsDeclared items i m.is
    in_outputs o = let e : 0 + o.number ≡ o.number = omega arith in called_in_output items i o.number o.item m o.is_item (subst (λ j. Contains (mentions_in_output j (top items) o.item) m) e o.is_there) calls is

-- the only part of a name
no_call : {A : Type 0} (q : Place) (n : List ℕ) (p : Part) → Contains (parts (tree.Name q n)) p → is_call p ≡ true → A
no_call q n p c calls = elim (cons_cases (Operand (tree.Name q n)) p [] c) [
  | inl same ↦ let none : false ≡ true = ap is_call same ∙ calls in absurd (cc)
  | inr past ↦ absurd (none_in_nil p past)
]

call_mentioned : (items : List tree.Item) (i : ℕ) (d : Declaration) (x : tree.Item) (s : Seen) (p : Part) → slice_get items i ≡ Some x → Contains (item_bodies (top items) x) s → Contains (parts s.expr) p → is_call p ≡ true → declared s.scope p ≡ Some d → IsMentionedCall items i d
call_mentioned items i d (tree.Input r q n y) s p at c there calls is = absurd (none_in_nil s c)
call_mentioned items i d (tree.Defined r e) s p at c there calls is =
    let n = node_in_items 0 (top items) items i r e s at c in
    let k = at_contains (nodes items) n.node n.is_node in
    let same : n.node.item ≡ i = omega (arith, n.item) in record {
      mention = record { item = n.node.item; node = 0 + k.0; is = d; calls = is_call p };
      is_there = Contains-append_left (mentions_from 0 (nodes items)) (mentions_in_outputs 0 (top items) items) _ (is_kept 0 (nodes items) k.0 n.node s p d k.1 n.is_body there is);
      calls = calls;
      item = same;
      is = refl;
    }
call_mentioned items i d (tree.Output r q n) s p at c there calls is = elim (cons_cases (record { scope = top items; expr = tree.Name q n }) s [] c) [
  | inl same ↦ no_call q n p (subst (λ t. Contains (parts t.expr) p) (sym same) there) calls
  | inr past ↦ absurd (none_in_nil s past)
]
call_mentioned items i d (tree.OutputAs r e q n) s p at c there calls is = elim (cons_cases (record { scope = top items; expr = e }) s [] c) [
  | inl same ↦ in_expr (subst (λ t. Contains (parts t.expr) p) (sym same) there) (ap (λ t. declared t.scope p) same ∙ is)
  | inr past ↦ absurd (none_in_nil s past)
]
  where
    in_expr : Contains (parts e) p → declared (top items) p ≡ Some d → IsMentionedCall items i d
    in_expr in_parts stands =
        let m : Mention = record { item = i; node = 0; is = d; calls = is_call p } in
        let e0 : i ≡ 0 + i = omega arith in
        let gives : mention_in i 0 (top items) p ≡ Some m = ap (option_map (λ z. record { item = i; node = 0; is = z; calls = is_call p })) stands in
        let here : Contains (mentions_in_output i (top items) (tree.OutputAs r e q n)) m = in_filtered (mention_in i 0 (top items)) (parts e) p m in_parts gives in record {
          mention = m;
          is_there = Contains-append_right (mentions_from 0 (nodes items)) (mentions_in_outputs 0 (top items) items) m (of_output 0 (top items) items i (tree.OutputAs r e q n) m at (subst (λ j. Contains (mentions_in_output j (top items) (tree.OutputAs r e q n)) m) e0 here));
          calls = calls;
          item = refl;
          is = refl;
        }

-- ---- the pairs of one kind of calls
record IsCallTo (number : Declaration → Option ℕ) (m : Mention) (x y : ℕ) : Type 0 where
  calls : m.calls ≡ true
  from : m.item ≡ x
  to : number m.is ≡ Some y

call_facts : (number : Declaration → Option ℕ) (m : Mention) (x y : ℕ) → call_to number m ≡ Some (x, y) → IsCallTo number m x y
call_facts number m x y h = by m.calls refl h
  where
    paired : (o : Option ℕ) → number m.is ≡ o → m.calls ≡ true → option_map {U = ℕ × ℕ} (λ j. (m.item, j)) o ≡ Some (x, y) → IsCallTo number m x y
    paired None e c k = absurd (cc)
    paired (Some j) e c k =
        let both = some_pair_parts m.item x j y k in record {
          calls = c;
          from = both.0;
          to = e ∙ ap Some both.1;
        }

    by : (b : Bool) → m.calls ≡ b → (if b then option_map {U = ℕ × ℕ} (λ j. (m.item, j)) (number m.is) else None) ≡ Some (x, y) → IsCallTo number m x y
    by true e k = paired (number m.is) refl e k
    by false e k = absurd (cc)

module _ (variant : ℕ → Declaration) (number : Declaration → Option ℕ) (numbered : (j : ℕ) → number (variant j) ≡ Some j) (only : (d : Declaration) (j : ℕ) → number d ≡ Some j → d ≡ variant j) (items : List tree.Item) where
  edge_means : (a b : ℕ) → Contains (filter_map (call_to number) (all_mentions items)) (a, b) → CallsDeclared items a (variant b)
  edge_means a b c =
      let g = from_filtered (call_to number) (all_mentions items) (a, b) c in
      let f = call_facts number g.from a b g.gives in
      subst (CallsDeclared items a) (only g.from.is b f.to) (mentioned_means items a g.from g.is_there f.calls f.from)

  is_edge : (a b : ℕ) → CallsDeclared items a (variant b) → Contains (filter_map (call_to number) (all_mentions items)) (a, b)
  is_edge a b u =
      let k = call_mentioned items a (variant b) u.item u.seen u.part u.is_item u.is_body u.is_part u.calls u.stands_for in
      in_filtered (call_to number) (all_mentions items) k.mention (a, b) k.is_there
      (ap (λ t. if t then option_map {U = ℕ × ℕ} (λ j. (k.mention.item, j)) (number k.mention.is) else None) k.calls
      ∙ ap (option_map {U = ℕ × ℕ} (λ j. (k.mention.item, j))) (ap number k.is ∙ numbered b)
      ∙ ap (λ i. Some (i, b)) k.item)

  are_edges : (edges : List (ℕ × ℕ)) → edges ≡ filter_map (call_to number) (all_mentions items) → AreEdges (λ i j. CallsDeclared items i (variant j)) edges
  are_edges edges made = let P : List (ℕ × ℕ) → Type 0 = λ e. AreEdges (λ i j. CallsDeclared items i (variant j)) e in subst P (sym made) (record { means = edge_means; has = is_edge })

  -- where there are few items, the numbers of a call are small
  small_among : ((a b : ℕ) → CallsDeclared items a (variant b) → (a < length items) × (b < length items)) → HasFewNodes items → (m : Mention) → Contains (all_mentions items) m → IsOfSmall (call_to number m)
  small_among within few m c = small_pair (call_to number m) (λ a b e.
      let low = within a b (edge_means a b (in_filtered (call_to number) (all_mentions items) m (a, b) c e)) in
      let count = fewer_items items few in (omega (arith, count, low.0), omega (arith, count, low.1)))

only_macro : (d : Declaration) (j : ℕ) → macro_of d ≡ Some j → d ≡ declaration.Macro j
only_macro (declaration.Macro i) j h = let same : i ≡ j = cc in ap declaration.Macro same
only_macro (declaration.Input i) j h = absurd (cc)
only_macro (declaration.Stream i) j h = absurd (cc)
only_macro (declaration.Function i) j h = absurd (cc)
only_macro (declaration.Mixed i) j h = absurd (cc)
only_macro (declaration.Parameter i) j h = absurd (cc)
only_macro (declaration.Local i) j h = absurd (cc)

only_function : (d : Declaration) (j : ℕ) → function_of d ≡ Some j → d ≡ declaration.Function j
only_function (declaration.Function i) j h = let same : i ≡ j = cc in ap declaration.Function same
only_function (declaration.Input i) j h = absurd (cc)
only_function (declaration.Stream i) j h = absurd (cc)
only_function (declaration.Macro i) j h = absurd (cc)
only_function (declaration.Mixed i) j h = absurd (cc)
only_function (declaration.Parameter i) j h = absurd (cc)
only_function (declaration.Local i) j h = absurd (cc)

-- the pairs of both lists of mentions, one after the other
joined : (h : Mention → Option (ℕ × ℕ)) (items : List tree.Item) (k : Kept) (first outputs : List Mention) (none some all : List (ℕ × ℕ)) → k ≡ with_nodes nothing_kept (nodes items) → first ≡ k.mentions → outputs ≡ mentions_in_outputs 0 (top items) items → none ≡ [] → some ≡ none ++ filter_map h first → all ≡ some ++ filter_map h outputs → all ≡ filter_map h (all_mentions items)
joined h items k first outputs none some all kept is_first is_outputs is_none one two =
    two
    ∙ ap (λ l. l ++ filter_map h outputs) (one ∙ ap (λ l. l ++ filter_map h first) is_none)
    ∙ ap (λ l. filter_map h l ++ filter_map h outputs) (is_first ∙ (all_kept (nodes items) k kept).1)
    ∙ ap (λ l. filter_map h (mentions_from 0 (nodes items)) ++ filter_map h l) is_outputs
    ∙ sym (filter_map-append h (mentions_from 0 (nodes items)) (mentions_in_outputs 0 (top items) items))

pub macros_are : (items : List tree.Item) (k : Kept) (first outputs : List Mention) (none some all : List (ℕ × ℕ)) → k ≡ with_nodes nothing_kept (nodes items) → first ≡ k.mentions → outputs ≡ mentions_in_outputs 0 (top items) items → none ≡ [] → some ≡ none ++ filter_map macro_call first → all ≡ some ++ filter_map macro_call outputs → AreEdges (CallsMacro items) all
macros_are items k first outputs none some all kept is_first is_outputs is_none one two =
    are_edges declaration.Macro macro_of (λ j. refl) only_macro items all (joined macro_call items k first outputs none some all kept is_first is_outputs is_none one two)

pub functions_are : (items : List tree.Item) (k : Kept) (first outputs : List Mention) (none some all : List (ℕ × ℕ)) → k ≡ with_nodes nothing_kept (nodes items) → first ≡ k.mentions → outputs ≡ mentions_in_outputs 0 (top items) items → none ≡ [] → some ≡ none ++ filter_map function_call first → all ≡ some ++ filter_map function_call outputs → AreEdges (CallsFunction items) all
functions_are items k first outputs none some all kept is_first is_outputs is_none one two =
    are_edges declaration.Function function_of (λ j. refl) only_function items all (joined function_call items k first outputs none some all kept is_first is_outputs is_none one two)

-- ---- the numbers of calls
pub small_call : (number : Declaration → Option ℕ) (m : Mention) (j : ℕ) → m.calls ≡ true → number m.is ≡ Some j → IsOfSmall (call_to number m) → (m.item < 2 ^ 32) × (j < 2 ^ 32)
small_call number m j calls is small =
    let edge : call_to number m ≡ Some (m.item, j) =
    ap (λ b. if b then option_map {U = ℕ × ℕ} (λ k. (m.item, k)) (number m.is) else None) calls ∙ ap (option_map {U = ℕ × ℕ} (λ k. (m.item, k))) is in
    subst IsOfSmall edge small

small_in : (items : List tree.Item) → HasFewNodes items → (ms : List Mention) → ((m : Mention) → Contains ms m → Contains (all_mentions items) m) → All IsSmallCall ms
small_in items few ms inside =
    All-weaker (Contains ms) IsSmallCall
    (λ m c. (
      small_among declaration.Macro macro_of (λ j. refl) only_macro items (macro_within items) few m (inside m c),
      small_among declaration.Function function_of (λ j. refl) only_function items (function_within items) few m (inside m c),
    ))
    ms (All-contains_itself ms)

pub small_kept : (items : List tree.Item) (k : Kept) (first : List Mention) → HasFewNodes items → k ≡ with_nodes nothing_kept (nodes items) → first ≡ k.mentions → All IsSmallCall first
small_kept items k first few kept is =
    let all = mentions_from 0 (nodes items) in
    All-same IsSmallCall first all (is ∙ (all_kept (nodes items) k kept).1) (small_in items few all (λ m c. Contains-append_left all (mentions_in_outputs 0 (top items) items) m c))

pub small_outputs : (items : List tree.Item) (outputs : List Mention) → HasFewNodes items → outputs ≡ mentions_in_outputs 0 (top items) items → All IsSmallCall outputs
small_outputs items outputs few is =
    let all = mentions_in_outputs 0 (top items) items in
    All-same IsSmallCall outputs all is (small_in items few all (λ m c. Contains-append_right (mentions_from 0 (nodes items)) all m c))

-- ---- outputs, one after the other
same_output : (i : ℕ) (s t : Scope) → Agree s t → (x : tree.Item) → mentions_in_output i s x ≡ mentions_in_output i t x
same_output i s t h (tree.Input p q n y) = refl
same_output i s t h (tree.Defined p d) = refl
same_output i s t h (tree.Output p q n) = refl
same_output i s t h (tree.OutputAs p e q n) = same_among i 0 s t h (parts e)

pub outputs_turn : (items : List Item) (i : ℕ) (x : Item) (names s : Scope) (scope : List Scope) (a b all : List Mention) → i < length items → x ≡ get_or items i x → Agree names s → scope ≡ names ∷ [] → a ++ mentions_in_outputs i s (map item_of (drop i items)) ≡ all → b ≡ a ++ mentions_in_output i (seen scope) (item_of x) → b ++ mentions_in_outputs (i + 1) s (map item_of (drop (i + 1) items)) ≡ all
outputs_turn items i x names s scope a b all low is agree around done more =
    let rest = mentions_in_outputs (i + 1) s (map item_of (drop (i + 1) items)) in
    let inner : Agree (seen scope) s = agree_trans (seen scope) names s (agree_same _ _ (ap seen around ∙ append-nil names)) agree in
    ap (λ l. l ++ rest) (more ∙ ap (λ l. a ++ l) (same_output i (seen scope) s inner (item_of x)))
    ∙ append_assoc a (mentions_in_output i s (item_of x)) rest
    ∙ ap (λ j. a ++ (mentions_in_output i s (item_of x) ++ mentions_in_outputs j s (map item_of (drop (i + 1) items)))) (add-one i)
    ∙ sym (ap (λ zs. a ++ mentions_in_outputs i s (map item_of zs)) (left_at items i x low is))
    ∙ done

pub outputs_end : (items : List Item) (i : ℕ) (s : Scope) (a all : List Mention) → length items ≤ i → a ++ mentions_in_outputs i s (map item_of (drop i items)) ≡ all → a ≡ all
outputs_end items i s a all past done = sym (append-nil a) ∙ ap (λ l. a ++ mentions_in_outputs i s (map item_of l)) (sym (drop_all i items past)) ∙ done
