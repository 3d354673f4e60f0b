-- Nodes, one after the other, and those of scopes in which each name stands for the same.
use Rattle.std.proofs.Common.{◌≡◌, ℕ, suc, ◌+◌, ◌<◌, ◌≤◌, List, [], ◌∷◌, ◌++◌, map, length, get_or, drop, Option, Some, None, is_some, if◌then◌else◌, Bool, true, false, length-append, refl, sym, ap, subst, ◌∙◌, append_assoc, add-one, arith}
use Rattle.std.specs.List.{cons_option}
use Rattle.std.specs.Option.{option_map}
use Rattle.std.proofs.lemmas.List.{append-nil, drop_all, length_push}
use Rattle.tsl_value.specs.declared.place.Place.{Place}
use Rattle.syntax_tree.specs.Tree as tree
use Rattle.syntax_tree.specs.declared.tree.Item.{Item}
use Rattle.syntax_tree.specs.declared.tree.Param.{Param}
use Rattle.syntax_tree.specs.inner.OneLevel.{params_in, definitions_of, item_of}
use Rattle.name_check.specs.Scope.{Scope, Agree, seen, count_in, counts, locals_from, parameters_from, are_values, functions_of, inside, in_block}
use Rattle.name_check.specs.Parts.{Part, Operand, Function, parts}
use Rattle.name_check.specs.Bodies.{Seen}
use Rattle.name_check.specs.inner.Steps.{local_body}
use Rattle.name_check.proofs.AgreeLemmas.{agree_same, agree_trans, agree_append}
use Rattle.tsl_value.proofs.Lists.{left_at}
use Rattle.definition_cycles.specs.Nodes.{Node, definition_nodes, block_nodes, item_nodes, nodes_from, count_of}
use Rattle.definition_cycles.specs.Mentions.{declared}
use Rattle.definition_cycles.specs.Calls.{is_call}
use Rattle.definition_cycles.specs.declared.top.Top.{Top}
use Rattle.definition_cycles.specs.inner.Seen.{IsTop}
use Rattle.definition_cycles.specs.inner.Walk.{head_of, mention_in, mentions_among, mentions_at, mentions_of, Kept, with_node, with_nodes, firsts_from}

pub with_nodes-append : (k : Kept) (xs ys : List Node) → with_nodes k (xs ++ ys) ≡ with_nodes (with_nodes k xs) ys
with_nodes-append k [] ys = refl
with_nodes-append k (x ∷ xs) ys = with_nodes-append (with_node k x) xs ys

block_nodes-cons : (i k : ℕ) (s : Scope) (d : tree.Definition) (ds : tree.Definitions) → block_nodes i k s (tree.more_definitions d ds) ≡ definition_nodes i (suc k) s d ++ block_nodes i (suc k + count_in (local_body d)) s ds
block_nodes-cons i k s (tree.Define q n ps w b) ds = refl

-- ---- nodes that mention the same
pub data SameBody : Option Seen → Option Seen → Type 0 where
  no_body : SameBody None None
  same_body : (s t : Scope) (e : tree.Expr) → Agree s t → SameBody (Some (record { scope = s; expr = e })) (Some (record { scope = t; expr = e }))

pub record SameNode (a b : Node) : Type 0 where
  pub item : a.item ≡ b.item
  pub place : a.place ≡ b.place
  pub is_written : a.is_written ≡ b.is_written
  pub body : SameBody a.body b.body

pub data SameNodes : List Node → List Node → Type 0 where
  no_nodes : SameNodes [] []
  more_nodes : (a b : Node) (xs ys : List Node) → SameNode a b → SameNodes xs ys → SameNodes (a ∷ xs) (b ∷ ys)

same_append : (ws xs ys zs : List Node) → SameNodes ws xs → SameNodes ys zs → SameNodes (ws ++ ys) (xs ++ zs)
same_append _ _ ys zs no_nodes k = k
same_append _ _ ys zs (more_nodes a b ws xs h hs) k = more_nodes a b (ws ++ ys) (xs ++ zs) h (same_append ws xs ys zs hs k)

same_declared : (s t : Scope) → Agree s t → (p : Part) → declared s p ≡ declared t p
same_declared s t h (Operand (tree.Name p n)) = h.at n
same_declared s t h (Operand (tree.Call p n es)) = h.at n
same_declared s t h (Operand e) = refl
same_declared s t h (Function (tree.Name p n)) = h.at n
same_declared s t h (Function (tree.Call p n es)) = h.at n
same_declared s t h (Function e) = refl

pub same_among : (i a : ℕ) (s t : Scope) → Agree s t → (ps : List Part) → mentions_among i a s ps ≡ mentions_among i a t ps
same_among i a s t h [] = refl
same_among i a s t h (p ∷ ps) =
    ap (λ d. cons_option (option_map (λ d. record { item = i; node = a; is = d; calls = is_call p }) d) (mentions_among i a s ps)) (same_declared s t h p)
    ∙ ap (cons_option (mention_in i a t p)) (same_among i a s t h ps)

same_at : (i a : ℕ) (x y : Option Seen) → SameBody x y → mentions_at i a x ≡ mentions_at i a y
same_at i a _ _ no_body = refl
same_at i a _ _ (same_body s t e h) = same_among i a s t h (parts e)

same_kept : (k : Kept) (a b : Node) → SameNode a b → with_node k a ≡ with_node k b
same_kept k a b h =
    let head : head_of a ≡ head_of b = cc (h.place, h.is_written) in
    let among : mentions_of (length k.heads) a ≡ mentions_of (length k.heads) b = ap (λ i. mentions_at i (length k.heads) a.body) h.item ∙ same_at b.item (length k.heads) a.body b.body h.body in
    cc (head, among)

pub same_nodes : (k : Kept) (xs ys : List Node) → SameNodes xs ys → with_nodes k xs ≡ with_nodes k ys
same_nodes k _ _ no_nodes = refl
same_nodes k _ _ (more_nodes a b xs ys h hs) = ap (λ l. with_nodes l xs) (same_kept k a b h) ∙ same_nodes (with_node k b) xs ys hs

same_head : (i k : ℕ) (s t : Scope) → Agree s t → (q : Place) (w : Bool) (e : tree.Expr) → SameNode (record { item = i; place = q; is_written = w; body = Some (record { scope = s; expr = e }) }) (record { item = i; place = q; is_written = w; body = Some (record { scope = t; expr = e }) })
same_head i k s t h q w e = record { item = refl; place = refl; is_written = refl; body = same_body s t e h }

agree_block : (k : ℕ) (s t : Scope) (ds : tree.Definitions) → Agree s t → Agree (in_block k s ds) (in_block k t ds)
agree_block k s t ds h = agree_append (locals_from k ds) (locals_from k ds) s t (agree_same _ _ refl) h

mutual
  same_definition : (i k : ℕ) (s t : Scope) → Agree s t → (d : tree.Definition) → SameNodes (definition_nodes i k s d) (definition_nodes i k t d)
  same_definition i k s t h (tree.Define q n ps w (tree.Plain e)) = more_nodes _ _ [] [] (same_head i k s t h q (is_some w) e) no_nodes
  same_definition i k s t h (tree.Define q n ps w (tree.Block ds e)) =
      more_nodes _ _ (block_nodes i k (in_block k s ds) ds) (block_nodes i k (in_block k t ds) ds)
      (same_head i k (in_block k s ds) (in_block k t ds) (agree_block k s t ds h) q (is_some w) e)
      (same_block i k (in_block k s ds) (in_block k t ds) (agree_block k s t ds h) ds)

  same_block : (i k : ℕ) (s t : Scope) → Agree s t → (ds : tree.Definitions) → SameNodes (block_nodes i k s ds) (block_nodes i k t ds)
  same_block i k s t h tree.no_definitions = no_nodes
  same_block i k s t h (tree.more_definitions (tree.Define q n ps w b) ds) =
      same_append (definition_nodes i (suc k) s (tree.Define q n ps w b)) (definition_nodes i (suc k) t (tree.Define q n ps w b)) (block_nodes i (suc k + count_in b) s ds) (block_nodes i (suc k + count_in b) t ds)
      (same_definition i (suc k) s t h (tree.Define q n ps w b))
      (same_block i (suc k + count_in b) s t h ds)

-- ---- the definition of a block, and those after it
pub block_turn : (ds : List tree.Definition) (i : ℕ) (d e : tree.Definition) (item n m : ℕ) (s : Scope) (k t all : Kept) → i < length ds → d ≡ get_or ds i d → e ≡ d → m ≡ suc n + count_in (local_body e) → with_nodes k (block_nodes item n s (definitions_of (drop i ds))) ≡ all → t ≡ with_nodes k (definition_nodes item (n + 1) s e) → with_nodes t (block_nodes item m s (definitions_of (drop (i + 1) ds))) ≡ all
block_turn ds i d e item n m s k t all h is same after done more =
    ap (λ l. with_nodes l (block_nodes item m s (definitions_of (drop (i + 1) ds)))) (more ∙ ap (λ j. with_nodes k (definition_nodes item j s e)) (add-one n))
    ∙ sym (with_nodes-append k (definition_nodes item (suc n) s e) (block_nodes item m s (definitions_of (drop (i + 1) ds))))
    ∙ ap (λ j. with_nodes k (definition_nodes item (suc n) s e ++ block_nodes item j s (definitions_of (drop (i + 1) ds)))) after
    ∙ ap (with_nodes k) (sym (block_nodes-cons item n s e (definitions_of (drop (i + 1) ds))))
    ∙ ap (λ x. with_nodes k (block_nodes item n s (tree.more_definitions x (definitions_of (drop (i + 1) ds))))) same
    ∙ sym (ap (λ l. with_nodes k (block_nodes item n s (definitions_of l))) (left_at ds i d h is))
    ∙ done

pub block_end : (ds : List tree.Definition) (i item n : ℕ) (s : Scope) (k all : Kept) → length ds ≤ i → with_nodes k (block_nodes item n s (definitions_of (drop i ds))) ≡ all → k ≡ all
block_end ds i item n s k all h done = ap (λ l. with_nodes k (block_nodes item n s (definitions_of l))) (sym (drop_all i ds h)) ∙ done

-- a definition with a block, where what is seen in it stands for the same
pub block_added : (item n : ℕ) (level s : Scope) (q : Place) (x : List ℕ) (ps : List tree.Param) (w : Option tree.TypeName) (ds : tree.Definitions) (e : tree.Expr) (k l m : Kept) → Agree level (locals_from n ds) → l ≡ with_node k (record { item = item; place = q; is_written = is_some w; body = Some (record { scope = level ++ s; expr = e }) }) → m ≡ with_nodes l (block_nodes item n (level ++ s) ds) → m ≡ with_nodes k (definition_nodes item n s (tree.Define q x ps w (tree.Block ds e)))
block_added item n level s q x ps w ds e k l m h first more =
    more ∙ ap (λ j. with_nodes j (block_nodes item n (level ++ s) ds)) first
    ∙ same_nodes k _ _ (more_nodes _ _ (block_nodes item n (level ++ s) ds) (block_nodes item n (in_block n s ds) ds)
    (same_head item n (level ++ s) (in_block n s ds) inner q (is_some w) e)
    (same_block item n (level ++ s) (in_block n s ds) inner ds))
  where
    inner : Agree (level ++ s) (in_block n s ds)
    inner = agree_append level (locals_from n ds) s s h (agree_same _ _ refl)

-- the same of what is known to be equal
pub block_learned : (item n : ℕ) (level : Scope) (inner outer : List Scope) (q : Place) (x : List ℕ) (ps : List tree.Param) (w : Option tree.TypeName) (b : Bool) (xs ys ds : List tree.Definition) (e : tree.Expr) (k l m : Kept) → inner ≡ level ∷ outer → b ≡ is_some w → xs ≡ ds → ys ≡ ds → Agree level (locals_from n (definitions_of xs)) → l ≡ with_node k (record { item = item; place = q; is_written = b; body = Some (record { scope = seen inner; expr = e }) }) → m ≡ with_nodes l (block_nodes item n (seen inner) (definitions_of ys)) → m ≡ with_nodes k (definition_nodes item n (seen outer) (tree.Define q x ps w (tree.Block (definitions_of ds) e)))
block_learned item n level inner outer q x ps w b xs ys ds e k l m is written first second h one more =
    let P : List tree.Definition → Type 0 = λ zs. Agree level (locals_from n (definitions_of zs)) in
    block_added item n level (seen outer) q x ps w (definitions_of ds) e k l m (subst P first h)
    (one
    ∙ ap (λ t. with_node k (record { item = item; place = q; is_written = t; body = Some (record { scope = seen inner; expr = e }) })) written
    ∙ ap (λ t. with_node k (record { item = item; place = q; is_written = is_some w; body = Some (record { scope = seen t; expr = e }) })) is)
    (more ∙ ap (λ zs. with_nodes l (block_nodes item n (seen inner) (definitions_of zs))) second ∙ ap (λ t. with_nodes l (block_nodes item n (seen t) (definitions_of ds))) is)

-- ---- the definition of an item
pub top_learned : (item : ℕ) (s : Scope) (t : Top) (level : Scope) (inner outer : List Scope) (xs ys zs : List Param) (d : tree.Definition) (k m : Kept) → inner ≡ level ∷ outer → outer ≡ (if are_values (params_in xs) then t.functions else t.names) ∷ [] → xs ≡ zs → ys ≡ zs → Agree level (parameters_from 0 (params_in ys)) → IsTop s t → m ≡ with_nodes k (definition_nodes item 0 (seen inner) d) → m ≡ with_nodes k (definition_nodes item 0 (inside s (params_in zs)) d)
top_learned item s t level inner outer xs ys zs d k m is around first second h is_top more =
    more
    ∙ ap (λ l. with_nodes k (definition_nodes item 0 (seen l) d)) (is ∙ ap (λ l. level ∷ l) (around ∙ ap (λ ps. (if are_values (params_in ps) then t.functions else t.names) ∷ []) first))
    ∙ same_nodes k _ _ (same_definition item 0 _ _ (agree_append level (parameters_from 0 (params_in zs)) _ _ (subst P second h) (either (are_values (params_in zs)))) d)
  where
    P : List Param → Type 0
    P ps = Agree level (parameters_from 0 (params_in ps))

    either : (b : Bool) → Agree ((if b then t.functions else t.names) ++ []) (if b then functions_of s else s)
    either true = agree_trans (t.functions ++ []) t.functions (functions_of s) (agree_same _ _ (append-nil t.functions)) is_top.functions
    either false = agree_trans (t.names ++ []) t.names s (agree_same _ _ (append-nil t.names)) is_top.names

-- ---- items
length_heads : (k : Kept) (ns : List Node) → length ((with_nodes k ns).heads) ≡ length k.heads + length ns
length_heads k [] = omega arith
length_heads k (n ∷ ns) = let rest = length_heads (with_node k n) ns in let one = length_push k.heads (head_of n) in omega (arith, rest, one)

mutual
  pub length_definition : (i k : ℕ) (s : Scope) (d : tree.Definition) → length (definition_nodes i k s d) ≡ 1 + count_in (local_body d)
  length_definition i k s (tree.Define q n ps w (tree.Plain e)) = refl
  length_definition i k s (tree.Define q n ps w (tree.Block ds e)) = omega (arith, length_block i k (in_block k s ds) ds)

  pub length_block : (i k : ℕ) (s : Scope) (ds : tree.Definitions) → length (block_nodes i k s ds) ≡ counts ds
  length_block i k s tree.no_definitions = refl
  length_block i k s (tree.more_definitions (tree.Define q n ps w b) ds) =
      let both = length-append (definition_nodes i (suc k) s (tree.Define q n ps w b)) (block_nodes i (suc k + count_in b) s ds) in
      omega (arith, both, length_definition i (suc k) s (tree.Define q n ps w b), length_block i (suc k + count_in b) s ds)

pub length_item : (i : ℕ) (s : Scope) (x : tree.Item) → length (item_nodes i s x) ≡ count_of x
length_item i s (tree.Input p q n y) = refl
length_item i s (tree.Defined p (tree.Define q n ps w b)) = length_definition i 0 (inside s ps) (tree.Define q n ps w b)
length_item i s (tree.Output p q n) = refl
length_item i s (tree.OutputAs p e q n) = refl

pub found_turn : (items : List Item) (i : ℕ) (x : Item) (s : Scope) (k l all : Kept) → i < length items → x ≡ get_or items i x → with_nodes k (nodes_from i s (map item_of (drop i items))) ≡ all → l ≡ with_nodes k (item_nodes i s (item_of x)) → with_nodes l (nodes_from (i + 1) s (map item_of (drop (i + 1) items))) ≡ all
found_turn items i x s k l all h is done more =
    ap (λ j. with_nodes j (nodes_from (i + 1) s (map item_of (drop (i + 1) items)))) more
    ∙ sym (with_nodes-append k (item_nodes i s (item_of x)) (nodes_from (i + 1) s (map item_of (drop (i + 1) items))))
    ∙ ap (λ j. with_nodes k (item_nodes i s (item_of x) ++ nodes_from j s (map item_of (drop (i + 1) items)))) (add-one i)
    ∙ sym (ap (λ zs. with_nodes k (nodes_from i s (map item_of zs))) (left_at items i x h is))
    ∙ done

pub firsts_turn : (items : List Item) (i : ℕ) (x : Item) (s : Scope) (k l : Kept) (a : ℕ) (firsts more all : List ℕ) → i < length items → x ≡ get_or items i x → l ≡ with_nodes k (item_nodes i s (item_of x)) → a ≡ length k.heads → firsts ++ firsts_from (length k.heads) (map item_of (drop i items)) ≡ all → more ≡ firsts ++ a ∷ [] → more ++ firsts_from (length l.heads) (map item_of (drop (i + 1) items)) ≡ all
firsts_turn items i x s k l a firsts more all h is next here done one =
    ap (λ j. j ++ firsts_from (length l.heads) (map item_of (drop (i + 1) items))) (one ∙ ap (λ j. firsts ++ j ∷ []) here)
    ∙ append_assoc firsts (length k.heads ∷ []) (firsts_from (length l.heads) (map item_of (drop (i + 1) items)))
    ∙ ap (λ j. firsts ++ length k.heads ∷ firsts_from j (map item_of (drop (i + 1) items))) longer
    ∙ sym (ap (λ zs. firsts ++ firsts_from (length k.heads) (map item_of zs)) (left_at items i x h is))
    ∙ done
  where
    longer : length l.heads ≡ length k.heads + count_of (item_of x)
    longer = ap (λ j. length j.heads) next ∙ length_heads k (item_nodes i s (item_of x)) ∙ ap (λ j. length k.heads + j) (length_item i s (item_of x))
