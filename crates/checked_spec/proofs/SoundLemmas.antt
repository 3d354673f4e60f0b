-- What is known of the bodies of a checked specification: nothing is wrong in them.
use Rattle.std.proofs.Common.{◌≡◌, ℕ, zero, suc, ◌+◌, Bool, true, false, if◌then◌else◌, List, [], ◌∷◌, ◌++◌, Option, Some, None, Contains, refl, sym, ap, ◌∙◌, arith}
use Rattle.std.specs.Prelude.{slice_get, is_some}
use Rattle.std.specs.List.{flat_map}
use Rattle.std.proofs.lemmas.List.Elements.{Contains-append_left, Contains-push}
use Rattle.tsl_value.proofs.Lists.{here, append_empty, contains_at}
use Rattle.tsl_value.specs.declared.place.Place.{Place}
use Rattle.syntax_tree.specs.Tree as tree
use Rattle.syntax_tree.specs.Tree.{Expr, TypeName}
use Rattle.name_check.specs.Scope.{Scope, top, inside, in_block}
use Rattle.name_check.specs.Parts.{Part, Operand, parts, part_place}
use Rattle.name_check.specs.Bodies.{Seen, bodies, block_bodies, item_bodies}
use Rattle.name_check.specs.Faults.{is_unknown, unknown_in}
use Rattle.form_check.specs.Types.{bad_in_expression, bad_in_body, bad_in_locals, bad_in_params, bad_written, bad_stream, bad_in_item}
use Rattle.form_check.specs.Arity.{is_wrong, wrong_in, wrong_in_item, too_many_in_item}
use Rattle.type_rules.specs.declared.rule.ExprType.{ExprType}
use Rattle.expr_types.specs.Around.{Around}
use Rattle.type_rules.specs.Kinds.{Kinds}
use Rattle.syntax_tree.specs.Tree.{params_of}
use Rattle.expr_types.specs.Bodies.{in_definition, within_block, may_have_braces, written_of, expr_kind, body_kind, local_kind, block_kind, expr_wrongs, local_wrongs, body_wrongs, item_wrongs, wrongs_from}
use Rattle.definition_cycles.specs.Nodes.{definition_nodes, block_nodes}
use Rattle.spec_meaning.specs.Occurrence.{body_of, block_of, result_of}
use Rattle.checked_spec.specs.inner.Formed.{HasItsOperators}
use Rattle.checked_spec.specs.inner.Checked.{IsChecked}
use Rattle.checked_spec.proofs.ListLemmas.{flat_empty, none_passes}
use Rattle.checked_spec.proofs.BlockLemmas.{ArePlain, PlainAt, are_plain, nth_wrongs, nth_types, nth_body}
use Rattle.checked_spec.proofs.ScopeLemmas.{scope_in}

-- where the result of an item stands, and the definitions of its block; an output stands at the top
abbrev pub around : List tree.Item → Kinds → ℕ → Option tree.Item → Around
around items kinds i o = within_block (in_definition items kinds i (params_of o)) (block_of (body_of o))

-- nothing is wrong in an expression
pub record IsSound (at : Around) (written : Option ExprType) (e : Expr) : Type 0 where
  pub known : (part : Part) → Contains (parts e) part → is_unknown at.scope part ≡ false
  pub formed : (part : Part) → Contains (parts e) part → is_wrong at.items at.scope part ≡ false
  pub operators : (part : Expr) → Contains (parts e) (Operand part) → HasItsOperators part
  pub types : bad_in_expression e ≡ []
  pub wrongs : expr_wrongs at written e ≡ []

-- ---- bodies, whatever they stand in
result_wrongs : (at : Around) (braces : Bool) (w : Option ExprType) (b : tree.Body) → body_wrongs at braces w b ≡ [] → expr_wrongs (within_block at (block_of (Some b))) w (result_of b) ≡ []
result_wrongs at true w (tree.Plain e) h = h
result_wrongs at false w (tree.Plain e) h = h
result_wrongs at true w (tree.Block ds e) h = (append_empty (local_wrongs (within_block at ds) ds) (expr_wrongs (within_block at ds) w e) h).1
result_wrongs at false w (tree.Block ds e) h = absurd (cc)

block_wrongs : (at : Around) (braces : Bool) (w : Option ExprType) (b : tree.Body) → body_wrongs at braces w b ≡ [] → local_wrongs (within_block at (block_of (Some b))) (block_of (Some b)) ≡ []
block_wrongs at braces w (tree.Plain e) h = refl
block_wrongs at true w (tree.Block ds e) h = (append_empty (local_wrongs (within_block at ds) ds) (expr_wrongs (within_block at ds) w e) h).0
block_wrongs at false w (tree.Block ds e) h = absurd (cc)

kind_of_result : (at : Around) (braces : Bool) (w : Option ExprType) (b : tree.Body) → body_wrongs at braces w b ≡ [] → body_kind at braces b ≡ expr_kind (within_block at (block_of (Some b))) (result_of b)
kind_of_result at braces w (tree.Plain e) h = refl
kind_of_result at true w (tree.Block ds e) h = refl
kind_of_result at false w (tree.Block ds e) h = absurd (cc)

result_types : (b : tree.Body) → bad_in_body b ≡ [] → bad_in_expression (result_of b) ≡ []
result_types (tree.Plain e) h = h
result_types (tree.Block ds e) h = (append_empty (bad_in_locals ds) (bad_in_expression e) h).1

block_types : (b : tree.Body) → bad_in_body b ≡ [] → bad_in_locals (block_of (Some b)) ≡ []
block_types (tree.Plain e) h = refl
block_types (tree.Block ds e) h = (append_empty (bad_in_locals ds) (bad_in_expression e) h).0

result_body : (scope : Scope) (b : tree.Body) → Contains (bodies 0 scope b) (record { scope = in_block 0 scope (block_of (Some b)); expr = result_of b })
result_body scope (tree.Plain e) = here (record { scope = scope; expr = e }) []
result_body scope (tree.Block ds e) = Contains-push (block_bodies 0 (in_block 0 scope ds) ds) (record { scope = in_block 0 scope ds; expr = e })

local_in_body : (scope : Scope) (b : tree.Body) (k : ℕ) (l : PlainAt k (block_of (Some b))) → Contains (bodies 0 scope b) (record { scope = in_block 0 scope (block_of (Some b)); expr = l.expr })
local_in_body scope (tree.Plain e) k l = absurd (let none = l.is in cc)
local_in_body scope (tree.Block ds e) k l =
    let last : Seen = record { scope = in_block 0 scope ds; expr = e } in
    Contains-append_left (block_bodies 0 (in_block 0 scope ds) ds) (last ∷ []) (record { scope = in_block 0 scope ds; expr = l.expr })
    (nth_body (in_block 0 scope ds) 0 ds k l.place l.name l.params l.written l.expr l.is)

-- the node of a definition, and those of its block after it
pub result_node : (i : ℕ) (scope : Scope) (q : Place) (n : List ℕ) (ps : List tree.Param) (w : Option TypeName) (b : tree.Body) → slice_get (definition_nodes i 0 scope (tree.Define q n ps w b)) 0 ≡ Some (record { item = i; place = q; is_written = is_some w; body = Some (record { scope = in_block 0 scope (block_of (Some b)); expr = result_of b }) })
result_node i scope q n ps w (tree.Plain e) = refl
result_node i scope q n ps w (tree.Block ds e) = refl

pub nodes_after : (i : ℕ) (scope : Scope) (q : Place) (n : List ℕ) (ps : List tree.Param) (w : Option TypeName) (b : tree.Body) (k : ℕ) → slice_get (definition_nodes i 0 scope (tree.Define q n ps w b)) (suc k) ≡ slice_get (block_nodes i 0 (in_block 0 scope (block_of (Some b))) (block_of (Some b))) k
nodes_after i scope q n ps w (tree.Plain e) k = refl
nodes_after i scope q n ps w (tree.Block ds e) k = refl

-- ---- a checked specification
module _ (items : List tree.Item) (kinds : Kinds) (checked : IsChecked items kinds) where
  known_part : (i : ℕ) (x : tree.Item) → slice_get items i ≡ Some x → (s : Seen) → Contains (item_bodies (top items) x) s → (p : Part) → Contains (parts s.expr) p → is_unknown s.scope p ≡ false
  known_part i x is s body =
      let item = flat_empty (λ y. flat_map unknown_in (item_bodies (top items) y)) items checked.names_known x (contains_at items i x is) in
      none_passes part_place (is_unknown s.scope) (parts s.expr) (flat_empty unknown_in (item_bodies (top items) x) item s body)

  formed_part : (i : ℕ) (x : tree.Item) → slice_get items i ≡ Some x → (s : Seen) → Contains (item_bodies (top items) x) s → (p : Part) → Contains (parts s.expr) p → is_wrong items s.scope p ≡ false
  formed_part i x is s body =
      let item = flat_empty (wrong_in_item items (top items)) items checked.arities x (contains_at items i x is) in
      let calls = (append_empty (too_many_in_item x) (flat_map (wrong_in items) (item_bodies (top items) x)) item).1 in
      none_passes part_place (is_wrong items s.scope) (parts s.expr) (flat_empty (wrong_in items) (item_bodies (top items) x) calls s body)

  pub sound_at : (i : ℕ) (x : tree.Item) → slice_get items i ≡ Some x → (w : Option ExprType) (e : Expr) → Contains (item_bodies (top items) x) (record { scope = scope_in items (Some x); expr = e }) → bad_in_expression e ≡ [] → expr_wrongs (around items kinds i (Some x)) w e ≡ [] → IsSound (around items kinds i (Some x)) w e
  sound_at i x is w e body types wrongs = record {
    known = known_part i x is (record { scope = scope_in items (Some x); expr = e }) body;
    formed = formed_part i x is (record { scope = scope_in items (Some x); expr = e }) body;
    operators = λ part c. checked.operators.each x (record { scope = scope_in items (Some x); expr = e }) part (contains_at items i x is) body c;
    types = types;
    wrongs = wrongs;
  }

  pub types_at : (i : ℕ) (x : tree.Item) → slice_get items i ≡ Some x → bad_in_item x ≡ []
  types_at i x is = flat_empty bad_in_item items checked.good_types x (contains_at items i x is)

  wrongs_after : (j : ℕ) (xs : List tree.Item) → wrongs_from items kinds j xs ≡ [] → (i : ℕ) (x : tree.Item) → slice_get xs i ≡ Some x → item_wrongs items kinds (j + i) x ≡ []
  wrongs_after j [] h i x is = absurd (cc)
  wrongs_after j (y ∷ ys) h zero x is =
      let same : y ≡ x = cc in
      let e : j + 0 ≡ j = omega arith in
      ap (λ k. item_wrongs items kinds k x) e ∙ ap (item_wrongs items kinds j) (sym same) ∙ (append_empty (item_wrongs items kinds j y) (wrongs_from items kinds (suc j) ys) h).0
  wrongs_after j (y ∷ ys) h (suc i) x is =
      let e : j + suc i ≡ suc j + i = omega arith in
      ap (λ k. item_wrongs items kinds k x) e ∙ wrongs_after (suc j) ys (append_empty (item_wrongs items kinds j y) (wrongs_from items kinds (suc j) ys) h).1 i x is

  pub wrongs_at : (i : ℕ) (x : tree.Item) → slice_get items i ≡ Some x → item_wrongs items kinds i x ≡ []
  wrongs_at i x is = let e : i ≡ 0 + i = omega arith in ap (λ k. item_wrongs items kinds k x) e ∙ wrongs_after 0 items checked.fit i x is

  -- ---- the definition of an item
  module _ (i : ℕ) (p q : Place) (n : List ℕ) (ps : List tree.Param) (w : Option TypeName) (b : tree.Body) (is : slice_get items i ≡ Some (tree.Defined p (tree.Define q n ps w b))) where
    abbrev item : tree.Item
    item = tree.Defined p (tree.Define q n ps w b)

    abbrev at : Around
    at = in_definition items kinds i ps

    wrongs : body_wrongs at (may_have_braces ps) (written_of ps w) b ≡ []
    wrongs = wrongs_at i item is

    bad : bad_in_params ps ++ bad_written ps w ++ bad_in_body b ≡ []
    bad = types_at i item is

    pub params_written : bad_in_params ps ≡ []
    params_written = (append_empty (bad_in_params ps) (bad_written ps w) (append_empty (bad_in_params ps ++ bad_written ps w) (bad_in_body b) bad).0).0

    pub type_written : bad_written ps w ≡ []
    type_written = (append_empty (bad_in_params ps) (bad_written ps w) (append_empty (bad_in_params ps ++ bad_written ps w) (bad_in_body b) bad).0).1

    body_written : bad_in_body b ≡ []
    body_written = (append_empty (bad_in_params ps ++ bad_written ps w) (bad_in_body b) bad).1

    pub block_plain : ArePlain (block_of (Some b))
    block_plain = are_plain (within_block at (block_of (Some b))) (block_of (Some b)) (block_wrongs at (may_have_braces ps) (written_of ps w) b wrongs)

    pub result_sound : IsSound (around items kinds i (Some item)) (written_of ps w) (result_of b)
    result_sound =
        sound_at i item is (written_of ps w) (result_of b) (result_body (inside (top items) ps) b) (result_types b body_written)
        (result_wrongs at (may_have_braces ps) (written_of ps w) b wrongs)

    pub local_sound : (k : ℕ) (l : PlainAt k (block_of (Some b))) → IsSound (around items kinds i (Some item)) (written_of [] l.written) l.expr
    local_sound k l =
        sound_at i item is (written_of [] l.written) l.expr (local_in_body (inside (top items) ps) b k l)
        (nth_types (block_of (Some b)) k l.place l.name l.params l.written (tree.Plain l.expr) (block_types b body_written) l.is).1
        (nth_wrongs (within_block at (block_of (Some b))) (block_of (Some b)) k l.place l.name l.params l.written (tree.Plain l.expr) (block_wrongs at (may_have_braces ps) (written_of ps w) b wrongs) l.is)

    pub local_written : (k : ℕ) (l : PlainAt k (block_of (Some b))) → bad_stream l.written ≡ []
    local_written k l = (nth_types (block_of (Some b)) k l.place l.name l.params l.written (tree.Plain l.expr) (block_types b body_written) l.is).0

    pub result_kind : body_kind at (may_have_braces ps) b ≡ expr_kind (around items kinds i (Some item)) (result_of b)
    result_kind = kind_of_result at (may_have_braces ps) (written_of ps w) b wrongs

    -- what is known of a definition of the block
    pub local_kind_is : (k : ℕ) → block_kind items kinds i k (Some item) ≡ local_kind (around items kinds i (Some item)) k (block_of (Some b))
    local_kind_is k = by b (may_have_braces ps) wrongs refl
      where
        by : (c : tree.Body) (t : Bool) → body_wrongs at t (written_of ps w) c ≡ [] → may_have_braces ps ≡ t → block_kind items kinds i k (Some (tree.Defined p (tree.Define q n ps w c))) ≡ local_kind (within_block at (block_of (Some c))) k (block_of (Some c))
        by (tree.Plain e) t h braces = refl
        by (tree.Block ds e) true h braces = ap (λ v. if v then local_kind (within_block at ds) k ds else None) braces
        by (tree.Block ds e) false h braces = absurd (cc)
