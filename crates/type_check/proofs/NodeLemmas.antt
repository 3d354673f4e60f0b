-- What stands at a place is a node's, and depends on what the node mentions.
use Rattle.std.proofs.Common.{◌≡◌, ℕ, zero, suc, ◌+◌, ◌<◌, ◌≤◌, ◌⊎◌, Bool, true, false, cond, if◌then◌else◌, List, [], ◌∷◌, ◌++◌, length, Option, Some, None, refl, sym, ap, subst, ◌∙◌, inl, inr, arith, Contains}
use Rattle.std.specs.Prelude.{slice_get, is_some}
use Rattle.std.specs.Option.{option_map}
use Rattle.std.specs.List.{AllByRecursion, find, list_all, list_any}
use Rattle.std.specs.Str.{bytes_eq}
use Rattle.std.proofs.lemmas.Bool.{ne_eqb, eq-eqb}
use Rattle.tsl_value.proofs.Lists.{here, later}
use Rattle.tsl_value.specs.declared.place.Place.{Place}
use Rattle.syntax_tree.specs.Tree as tree
use Rattle.syntax_tree.specs.Tree.{Expr, TypeName}
use Rattle.type_rules.specs.declared.rule.ExprType.{ExprType}
use Rattle.type_rules.specs.Written.{as_stream}
use Rattle.name_check.specs.declared.declaration.Declaration.{Declaration}
use Rattle.name_check.specs.declared.declaration.Declaration.TheVariants as declaration
use Rattle.name_check.specs.Scope.{Scope, Entry, meaning, is_events, declared_as, declared_from, parameters_from, count_in, counts, locals_from, is_function, functions_of, are_values, inside, in_block, top}
use Rattle.name_check.specs.Parts.{Part, Operand, Function, parts}
use Rattle.definition_cycles.specs.Nodes.{Node, definition_nodes, block_nodes, item_nodes, nodes_from, nodes, first_node}
use Rattle.definition_cycles.specs.Mentions.{Mentions, declared}
use Rattle.definition_cycles.proofs.FoundLemmas.{length_block}
use Rattle.expr_types.specs.Around.{Around}
use Rattle.type_rules.specs.Kinds.{Kinds}
use Rattle.expr_types.specs.inner.Alike.{known, IsKnownAlike, IsPartKnownAlike}
use Rattle.expr_types.specs.Bodies.{in_definition, within_block, may_have_braces, written_of, expr_kind, body_kind, definition_kind, local_from, local_kind, item_kind, block_kind}
use Rattle.expr_types.proofs.AlikeLemmas.{knowing, kind_by_kinds}
use Rattle.type_check.specs.declared.slot.Slot.{Slot}
use Rattle.type_check.specs.declared.slot.Slot.TheVariants as slot
use Rattle.type_check.specs.inner.Slots.{local_slots, block_count, slots_from, slots, kind_in, kind_by, IsFixed}
use Rattle.type_check.proofs.SlotLemmas.{number_of, locals_split}

-- ---- two lists, one beside the other
abbrev pub Each : (Slot → Node → Type 0) → List Slot → List Node → Type 0
Each P [] [] = Unit {0}
Each P [] (n ∷ ns) = ⊥
Each P (s ∷ ss) [] = ⊥
Each P (s ∷ ss) (n ∷ ns) = P s n × Each P ss ns

each_join : (P : Slot → Node → Type 0) (ss ts : List Slot) (ns ms : List Node) → Each P ss ns → Each P ts ms → Each P (ss ++ ts) (ns ++ ms)
each_join P [] ts [] ms h g = g
each_join P [] ts (n ∷ ns) ms h g = absurd h
each_join P (s ∷ ss) ts [] ms h g = absurd h
each_join P (s ∷ ss) ts (n ∷ ns) ms h g = (h.0, each_join P ss ts ns ms h.1 g)

pub record Beside (P : Slot → Node → Type 0) (ns : List Node) (a : ℕ) (s : Slot) : Type 0 where
  pub node : Node
  pub is_node : slice_get ns a ≡ Some node
  pub fits : P s node

each_at : (P : Slot → Node → Type 0) (ss : List Slot) (ns : List Node) → Each P ss ns → (a : ℕ) (s : Slot) → slice_get ss a ≡ Some s → Beside P ns a s
each_at P [] ns h a s e = absurd (cc)
each_at P (t ∷ ss) [] h a s e = absurd h
each_at P (t ∷ ss) (n ∷ ns) h zero s e = let same : t ≡ s = cc in record { node = n; is_node = refl; fits = subst (λ x. P x n) same h.0 }
each_at P (t ∷ ss) (n ∷ ns) h (suc a) s e = let b = each_at P ss ns h.1 a s e in record { node = b.node; is_node = b.is_node; fits = b.fits }

each_local : (P : Slot → Node → Type 0) (i k m : ℕ) → ((j : ℕ) (n : Node) → k ≤ j → j < k + m → P (slot.Local i j) n) → (ns : List Node) → length ns ≡ m → Each P (local_slots i k m) ns
each_local P i k zero all [] e = tt
each_local P i k zero all (n ∷ ns) e = absurd (omega arith)
each_local P i k (suc m) all [] e = absurd (omega arith)
each_local P i k (suc m) all (n ∷ ns) e = (all k n (omega arith) (omega arith), each_local P i (suc k) m (λ j x l h. all j x (omega arith) (omega arith)) ns (omega arith))

-- ---- names that stand for inputs
abbrev pub is_input : Option tree.Item → Bool
is_input (Some (tree.Input p q n y)) = true
is_input _ = false

abbrev pub IsInput : List tree.Item → ℕ → Type 0
IsInput items j = is_input (slice_get items j) ≡ true

abbrev HasInputs : List tree.Item → Scope → Type 0
HasInputs items scope = (n : List ℕ) (j : ℕ) → meaning scope n ≡ Some (declaration.Input j) → IsInput items j

inputs_cons : (items : List tree.Item) (e : Entry) (scope : Scope) → ((j : ℕ) → e.is ≡ declaration.Input j → IsInput items j) → HasInputs items scope → HasInputs items (e ∷ scope)
inputs_cons items e scope this rest n j h = by (bytes_eq e.name n) h
  where
    by : (b : Bool) → option_map (λ x. x.is) (cond b (Some e) (find (λ x. bytes_eq x.name n) scope)) ≡ Some (declaration.Input j) → IsInput items j
    by true k = let same : e.is ≡ declaration.Input j = cc in this j same
    by false k = rest n j k

no_input : (i : ℕ) (ps : List tree.Param) (j : ℕ) → declared_as i ps ≡ declaration.Input j → ⊥
no_input i [] j h = cc
no_input i (p ∷ ps) j h = by (list_all (λ q. is_events q.of) (p ∷ ps)) (list_any (λ q. is_events q.of) (p ∷ ps)) h
  where
    by : (a b : Bool) → (if a then declaration.Macro i else if b then declaration.Mixed i else declaration.Function i) ≡ declaration.Input j → ⊥
    by true b h = cc
    by false true h = cc
    by false false h = cc

-- the items after number i
abbrev Behind : List tree.Item → ℕ → List tree.Item → Type 0
Behind items i xs = (m : ℕ) → slice_get items (i + m) ≡ slice_get xs m

after_the_first : (items : List tree.Item) (i : ℕ) (x : tree.Item) (xs : List tree.Item) → Behind items i (x ∷ xs) → slice_get items i ≡ Some x
after_the_first items i x xs h = let e : i ≡ i + 0 = omega arith in ap (slice_get items) e ∙ h 0

after_next : (items : List tree.Item) (i : ℕ) (x : tree.Item) (xs : List tree.Item) → Behind items i (x ∷ xs) → Behind items (suc i) xs
after_next items i x xs h m = let e : suc i + m ≡ i + suc m = omega arith in ap (slice_get items) e ∙ h (suc m)

after_none : (items : List tree.Item) → Behind items 0 items
after_none items m = let e : 0 + m ≡ m = omega arith in ap (slice_get items) e

declared_inputs : (items : List tree.Item) (i : ℕ) (xs : List tree.Item) → Behind items i xs → HasInputs items (declared_from i xs)
declared_inputs items i [] h = λ n j is. absurd (cc)
declared_inputs items i (tree.Input p q x y ∷ xs) h =
    inputs_cons items (record { name = x; is = declaration.Input i }) (declared_from (suc i) xs)
    (λ j e. let same : i ≡ j = cc in subst (IsInput items) same (ap is_input (after_the_first items i (tree.Input p q x y) xs h)))
    (declared_inputs items (suc i) xs (after_next items i (tree.Input p q x y) xs h))
declared_inputs items i (tree.Defined p (tree.Define q x ps w b) ∷ xs) h =
    inputs_cons items (record { name = x; is = declared_as i ps }) (declared_from (suc i) xs)
    (λ j e. absurd (no_input i ps j e))
    (declared_inputs items (suc i) xs (after_next items i (tree.Defined p (tree.Define q x ps w b)) xs h))
declared_inputs items i (tree.Output p q x ∷ xs) h = declared_inputs items (suc i) xs (after_next items i (tree.Output p q x) xs h)
declared_inputs items i (tree.OutputAs p e q x ∷ xs) h = declared_inputs items (suc i) xs (after_next items i (tree.OutputAs p e q x) xs h)

function_inputs : (items : List tree.Item) (scope : Scope) → HasInputs items (functions_of scope)
function_inputs items [] = λ n j h. absurd (cc)
function_inputs items (e ∷ scope) = by (is_function e.is) refl (function_inputs items scope)
  where
    by : (b : Bool) → is_function e.is ≡ b → HasInputs items (functions_of scope) → HasInputs items (cond b (e ∷ functions_of scope) (functions_of scope))
    by true is rest = inputs_cons items e (functions_of scope) (λ j f. let g : is_function e.is ≡ false = ap is_function f in absurd (cc)) rest
    by false is rest = rest

inside_inputs : (items : List tree.Item) (k : ℕ) (ps : List tree.Param) (scope : Scope) → HasInputs items scope → HasInputs items (parameters_from k ps ++ scope)
inside_inputs items k [] scope h = h
inside_inputs items k (p ∷ ps) scope h = inputs_cons items (record { name = p.name; is = declaration.Parameter k }) (parameters_from (suc k) ps ++ scope) (λ j e. absurd (cc)) (inside_inputs items (suc k) ps scope h)

block_inputs : (items : List tree.Item) (k : ℕ) (ds : tree.Definitions) (scope : Scope) → HasInputs items scope → HasInputs items (in_block k scope ds)
block_inputs items k tree.no_definitions scope h = h
block_inputs items k (tree.more_definitions (tree.Define q x ps w b) ds) scope h = inputs_cons items (record { name = x; is = declaration.Local k }) (locals_from (suc k + count_in b) ds ++ scope) (λ j e. absurd (cc)) (block_inputs items (suc k + count_in b) ds scope h)

definition_inputs : (items : List tree.Item) (ps : List tree.Param) → HasInputs items (inside (top items) ps)
definition_inputs items ps = inside_inputs items 0 ps (if are_values ps then functions_of (top items) else top items) (by (are_values ps))
  where
    by : (b : Bool) → HasInputs items (if b then functions_of (top items) else top items)
    by true = function_inputs items (top items)
    by false = declared_inputs items 0 items (after_none items)

-- ---- what stands at a place
abbrev pub NotInput : List tree.Item → Slot → Type 0
NotInput items (slot.Item i) = is_input (slice_get items i) ≡ false
NotInput items (slot.Local i k) = Unit {0}

-- it is what the node's expression is
pub record IsBody (items : List tree.Item) (s : Slot) (node : Node) : Type 0 where
  pub at : Around
  pub expr : Expr
  pub is_body : node.body ≡ Some (record { scope = at.scope; expr = expr })
  pub not_written : node.is_written ≡ false
  pub same_item : node.item ≡ at.number
  pub inputs : HasInputs items at.scope
  pub is_kind : (kinds : Kinds) → kind_by items kinds s ≡ expr_kind (knowing at kinds) expr
  pub no_input : NotInput items s

abbrev pub IsView : List tree.Item → Slot → Node → Type 0
IsView items s node = IsFixed items s ⊎ IsBody items s node

fixed_at : (items : List tree.Item) (s : Slot) (kind : Option ExprType) → ((kinds : Kinds) → kind_by items kinds s ≡ kind) → IsFixed items s
fixed_at items s kind h a b = h a ∙ sym (h b)

-- ---- in a block
local_early : (at : Around) (k i : ℕ) (ds : tree.Definitions) → k < i → local_from at k i ds ≡ None
local_early at k i tree.no_definitions h = refl
local_early at k i (tree.more_definitions (tree.Define q n ps w b) ds) h =
    let ne : i ≡ k → ⊥ = omega arith in
    ap (λ t. if t then definition_kind at [] w b else local_from at k (suc i + count_in b) ds) (ne_eqb i k ne) ∙ local_early at k (suc i + count_in b) ds (omega arith)

pub local_late : (at : Around) (k i : ℕ) (ds : tree.Definitions) → i + counts ds ≤ k → local_from at k i ds ≡ None
local_late at k i tree.no_definitions h = refl
local_late at k i (tree.more_definitions (tree.Define q n ps w b) ds) h =
    let ne : i ≡ k → ⊥ = omega arith in
    ap (λ t. if t then definition_kind at [] w b else local_from at k (suc i + count_in b) ds) (ne_eqb i k ne) ∙ local_late at k (suc i + count_in b) ds (omega arith)

-- the first definition of a block, and those in its body
each_definition : (items : List tree.Item) (i : ℕ) (at : Around) → i ≡ at.number → HasInputs items at.scope → (k : ℕ) (w : Option TypeName) (b : tree.Body) → ((kinds : Kinds) → kind_by items kinds (slot.Local i k) ≡ definition_kind (knowing at kinds) [] w b) → ((j : ℕ) → suc k ≤ j → j < suc k + count_in b → (kinds : Kinds) → kind_by items kinds (slot.Local i j) ≡ None) → (q : Place) (n : List ℕ) (ps : List tree.Param) → Each (IsView items) (slot.Local i k ∷ local_slots i (suc k) (count_in b)) (definition_nodes i (suc k) at.scope (tree.Define q n ps w b))
each_definition items i at own has k (Some y) (tree.Plain e) first others q n ps = (inl (fixed_at items (slot.Local i k) (written_of [] (Some y)) first), tt)
each_definition items i at own has k None (tree.Plain e) first others q n ps = (inr (record { at = at; expr = e; is_body = refl; not_written = refl; same_item = own; inputs = has; is_kind = first; no_input = tt }), tt)
each_definition items i at own has k (Some y) (tree.Block ds e) first others q n ps =
    (inl (fixed_at items (slot.Local i k) (written_of [] (Some y)) first), each_local (IsView items) i (suc k) (counts ds) (λ j x l h. inl (fixed_at items (slot.Local i j) None (others j l h))) (block_nodes i (suc k) (in_block (suc k) at.scope ds) ds) (length_block i (suc k) (in_block (suc k) at.scope ds) ds))
each_definition items i at own has k None (tree.Block ds e) first others q n ps =
    (inl (fixed_at items (slot.Local i k) None first), each_local (IsView items) i (suc k) (counts ds) (λ j x l h. inl (fixed_at items (slot.Local i j) None (others j l h))) (block_nodes i (suc k) (in_block (suc k) at.scope ds) ds) (length_block i (suc k) (in_block (suc k) at.scope ds) ds))

each_block : (items : List tree.Item) (i : ℕ) (at : Around) → i ≡ at.number → HasInputs items at.scope → (k : ℕ) (ds : tree.Definitions) → ((j : ℕ) → k ≤ j → (kinds : Kinds) → kind_by items kinds (slot.Local i j) ≡ local_from (knowing at kinds) j k ds) → Each (IsView items) (local_slots i k (counts ds)) (block_nodes i k at.scope ds)
each_block items i at own has k tree.no_definitions h = tt
each_block items i at own has k (tree.more_definitions (tree.Define q n ps w b) ds) h =
    let past = suc k + count_in b in
    let rest : (j : ℕ) → suc k ≤ j → (kinds : Kinds) → kind_by items kinds (slot.Local i j) ≡ local_from (knowing at kinds) j past ds =
    λ j l kinds. let ne : k ≡ j → ⊥ = omega arith in h j (omega arith) kinds ∙ ap (λ t. if t then definition_kind (knowing at kinds) [] w b else local_from (knowing at kinds) j past ds) (ne_eqb k j ne) in
    let first : (kinds : Kinds) → kind_by items kinds (slot.Local i k) ≡ definition_kind (knowing at kinds) [] w b =
    λ kinds. h k (omega arith) kinds ∙ ap (λ t. if t then definition_kind (knowing at kinds) [] w b else local_from (knowing at kinds) k past ds) (eq-eqb k k refl) in
    let split : local_slots i k (suc (count_in b + counts ds)) ≡ (slot.Local i k ∷ local_slots i (suc k) (count_in b)) ++ local_slots i past (counts ds) = ap (λ l. slot.Local i k ∷ l) (locals_split i (suc k) (count_in b) (counts ds)) in
    subst (λ ss. Each (IsView items) ss (definition_nodes i (suc k) at.scope (tree.Define q n ps w b) ++ block_nodes i past at.scope ds)) (sym split)
    (each_join (IsView items) (slot.Local i k ∷ local_slots i (suc k) (count_in b)) (local_slots i past (counts ds)) (definition_nodes i (suc k) at.scope (tree.Define q n ps w b)) (block_nodes i past at.scope ds)
    (each_definition items i at own has k w b first (λ j l m kinds. rest j l kinds ∙ local_early (knowing at kinds) j past ds m) q n ps)
    (each_block items i at own has past ds (λ j l kinds. rest j (omega arith) kinds)))

-- ---- in an item
abbrev nothing_known : Kinds
nothing_known = record { item = λ i. None; local = λ i k. None }

abbrev in_braces : List tree.Item → Kinds → ℕ → List tree.Param → tree.Definitions → Around
in_braces items kinds i ps ds = within_block (in_definition items kinds i ps) ds

abbrev result_node : List tree.Item → ℕ → Place → List tree.Param → Option TypeName → tree.Definitions → Expr → Node
result_node items i q ps w ds e = record { item = i; place = q; is_written = is_some w; body = Some (record { scope = in_block 0 (inside (top items) ps) ds; expr = e }) }

block_result : (items : List tree.Item) (i : ℕ) (p q : Place) (n : List ℕ) (ps : List tree.Param) (w : Option TypeName) (ds : tree.Definitions) (e : Expr) → slice_get items i ≡ Some (tree.Defined p (tree.Define q n ps w (tree.Block ds e))) → (b : Bool) → may_have_braces ps ≡ b → IsView items (slot.Item i) (result_node items i q ps w ds e)
block_result items i p q n ps (Some y) ds e is b braces = inl (fixed_at items (slot.Item i) (written_of ps (Some y)) (λ kinds. ap (item_kind items kinds i) is))
block_result items i p q n ps None ds e is true braces =
    inr (record {
      at = in_braces items nothing_known i ps ds;
      expr = e;
      is_body = refl;
      not_written = refl;
      same_item = refl;
      inputs = block_inputs items 0 ds (inside (top items) ps) (definition_inputs items ps);
      is_kind = λ kinds. ap (item_kind items kinds i) is ∙ ap (λ v. body_kind (in_definition items kinds i ps) v (tree.Block ds e)) braces;
      no_input = ap is_input is;
    })
block_result items i p q n ps None ds e is false braces =
    inl (fixed_at items (slot.Item i) None (λ kinds. ap (item_kind items kinds i) is ∙ ap (λ v. body_kind (in_definition items kinds i ps) v (tree.Block ds e)) braces))

block_locals : (items : List tree.Item) (i : ℕ) (p q : Place) (n : List ℕ) (ps : List tree.Param) (w : Option TypeName) (ds : tree.Definitions) (e : Expr) → slice_get items i ≡ Some (tree.Defined p (tree.Define q n ps w (tree.Block ds e))) → (b : Bool) → may_have_braces ps ≡ b → Each (IsView items) (local_slots i 0 (counts ds)) (block_nodes i 0 (in_block 0 (inside (top items) ps) ds) ds)
block_locals items i p q n ps w ds e is true braces =
    each_block items i (in_braces items nothing_known i ps ds) refl (block_inputs items 0 ds (inside (top items) ps) (definition_inputs items ps)) 0 ds
    (λ j l kinds. ap (block_kind items kinds i j) is ∙ ap (λ v. if v then local_kind (in_braces items kinds i ps ds) j ds else None) braces)
block_locals items i p q n ps w ds e is false braces =
    each_local (IsView items) i 0 (counts ds)
    (λ j x l h. inl (fixed_at items (slot.Local i j) None (λ kinds. ap (block_kind items kinds i j) is ∙ ap (λ v. if v then local_kind (in_braces items kinds i ps ds) j ds else None) braces)))
    (block_nodes i 0 (in_block 0 (inside (top items) ps) ds) ds) (length_block i 0 (in_block 0 (inside (top items) ps) ds) ds)

each_item : (items : List tree.Item) (i : ℕ) (x : tree.Item) → slice_get items i ≡ Some x → Each (IsView items) (slot.Item i ∷ local_slots i 0 (block_count x)) (item_nodes i (top items) x)
each_item items i (tree.Input p q n y) is = (inl (fixed_at items (slot.Item i) (as_stream y) (λ kinds. ap (item_kind items kinds i) is)), tt)
each_item items i (tree.Output p q n) is = (inl (fixed_at items (slot.Item i) None (λ kinds. ap (item_kind items kinds i) is)), tt)
each_item items i (tree.OutputAs p e q n) is = (inl (fixed_at items (slot.Item i) None (λ kinds. ap (item_kind items kinds i) is)), tt)
each_item items i (tree.Defined p (tree.Define q n ps (Some y) (tree.Plain e))) is = (inl (fixed_at items (slot.Item i) (written_of ps (Some y)) (λ kinds. ap (item_kind items kinds i) is)), tt)
each_item items i (tree.Defined p (tree.Define q n ps None (tree.Plain e))) is =
    (inr (record { at = in_definition items nothing_known i ps; expr = e; is_body = refl; not_written = refl; same_item = refl; inputs = definition_inputs items ps; is_kind = λ kinds. ap (item_kind items kinds i) is; no_input = ap is_input is }), tt)
each_item items i (tree.Defined p (tree.Define q n ps w (tree.Block ds e))) is =
    (block_result items i p q n ps w ds e is (may_have_braces ps) refl, block_locals items i p q n ps w ds e is (may_have_braces ps) refl)

pub each_of : (items : List tree.Item) (i : ℕ) (xs : List tree.Item) → Behind items i xs → Each (IsView items) (slots_from i xs) (nodes_from i (top items) xs)
each_of items i [] h = tt
each_of items i (x ∷ xs) h =
    each_join (IsView items) (slot.Item i ∷ local_slots i 0 (block_count x)) (slots_from (suc i) xs) (item_nodes i (top items) x) (nodes_from (suc i) (top items) xs)
    (each_item items i x (after_the_first items i x xs h))
    (each_of items (suc i) xs (after_next items i x xs h))

-- what stands at a place is that of the node with its number
pub view_at : (items : List tree.Item) (a : ℕ) (s : Slot) → slice_get (slots items) a ≡ Some s → Beside (IsView items) (nodes items) a s
view_at items a s h = each_at (IsView items) (slots items) (nodes items) (each_of items 0 items (after_none items)) a s h

-- ---- tables that say the same of what is mentioned
module _ (items : List tree.Item) (a : ℕ) (s : Slot) (node : Node) (is_node : slice_get (nodes items) a ≡ Some node) (body : IsBody items s node) (old new : Kinds) (mentioned : (t : Slot) → Mentions items a (number_of items t) → kind_in old t ≡ kind_in new t) (input : (j : ℕ) → IsInput items j → old.item j ≡ new.item j) where
  same_name : (p : Part) → Contains (parts body.expr) p → (d : Declaration) → declared body.at.scope p ≡ Some d → ((j : ℕ) → d ≡ declaration.Input j → IsInput items j) → known old body.at.number d ≡ known new body.at.number d
  same_name p c (declaration.Input j) is inputs = input j (inputs j refl)
  same_name p c (declaration.Stream j) is inputs = mentioned (slot.Item j) (record { node = node; is_node = is_node; seen = record { scope = body.at.scope; expr = body.expr }; is_body = body.is_body; part = p; is_part = c; declaration = declaration.Stream j; stands_for = is; is_mentioned = refl })
  same_name p c (declaration.Macro j) is inputs = mentioned (slot.Item j) (record { node = node; is_node = is_node; seen = record { scope = body.at.scope; expr = body.expr }; is_body = body.is_body; part = p; is_part = c; declaration = declaration.Macro j; stands_for = is; is_mentioned = refl })
  same_name p c (declaration.Function j) is inputs = mentioned (slot.Item j) (record { node = node; is_node = is_node; seen = record { scope = body.at.scope; expr = body.expr }; is_body = body.is_body; part = p; is_part = c; declaration = declaration.Function j; stands_for = is; is_mentioned = refl })
  same_name p c (declaration.Mixed j) is inputs = refl
  same_name p c (declaration.Parameter k) is inputs = refl
  same_name p c (declaration.Local k) is inputs = mentioned (slot.Local body.at.number k) (record { node = node; is_node = is_node; seen = record { scope = body.at.scope; expr = body.expr }; is_body = body.is_body; part = p; is_part = c; declaration = declaration.Local k; stands_for = is; is_mentioned = ap (λ i. Some (first_node items i + 1 + k)) body.same_item })

  same_meaning : (p : Part) → Contains (parts body.expr) p → (n : List ℕ) → ((d : Declaration) → meaning body.at.scope n ≡ Some d → declared body.at.scope p ≡ Some d) → IsKnownAlike (knowing body.at old) new n
  same_meaning p c n h = record { same = λ d is. same_name p c d (h d is) (λ j e. body.inputs n j (is ∙ ap Some e)) }

  same_part : (p : Part) → Contains (parts body.expr) p → IsPartKnownAlike (knowing body.at old) new p
  same_part (Operand (tree.Name q n)) c = same_meaning (Operand (tree.Name q n)) c n (λ d is. is)
  same_part (Operand (tree.Call q n es)) c = same_meaning (Operand (tree.Call q n es)) c n (λ d is. is)
  same_part (Function (tree.Name q n)) c = same_meaning (Function (tree.Name q n)) c n (λ d is. is)
  same_part p c = tt

  same_parts : (ps : List Part) → ((p : Part) → Contains ps p → IsPartKnownAlike (knowing body.at old) new p) → AllByRecursion (IsPartKnownAlike (knowing body.at old) new) ps
  same_parts [] h = tt
  same_parts (p ∷ ps) h = (h p (here p ps), same_parts ps (λ q c. h q (later p q ps c)))

  pub same_body : kind_by items old s ≡ kind_by items new s
  same_body = body.is_kind old ∙ kind_by_kinds (knowing body.at old) new body.expr (same_parts (parts body.expr) same_part) ∙ sym (body.is_kind new)

each_length : (P : Slot → Node → Type 0) (ss : List Slot) (ns : List Node) → Each P ss ns → length ss ≡ length ns
each_length P [] [] h = refl
each_length P [] (n ∷ ns) h = absurd h
each_length P (s ∷ ss) [] h = absurd h
each_length P (s ∷ ss) (n ∷ ns) h = ap suc (each_length P ss ns h.1)

-- there are as many places as nodes
pub slots_length : (items : List tree.Item) → length (slots items) ≡ length (nodes items)
slots_length items = each_length (IsView items) (slots items) (nodes items) (each_of items 0 items (after_none items))
