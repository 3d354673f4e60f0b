-- The definitions of blocks by their numbers, and what they are.
use Rattle.std.proofs.Common.{◌≡◌, ℕ, zero, suc, ◌+◌, ◌-◌, ◌<◌, ◌≤◌, ◌&&◌, Bool, true, false, if◌then◌else◌, List, [], ◌∷◌, ◌++◌, map, replicate, length, drop, get_or, slice_get, Option, Some, None, option_and_then, option_map, Result, IfOk, Box, Global, Bor, refl, sym, ap, subst, ◌∙◌, append_assoc, zero-add, inl, inr, arith}
use Rattle.std.proofs.lemmas.Bool.{cases_lt, eq-eqb, ne_eqb}
use Rattle.std.proofs.lemmas.List.{append-nil, drop_all, map-append, replicate_more}
use Rattle.syntax_tree.specs.Tree as tree
use Rattle.syntax_tree.specs.declared.tree.DefinitionParts.{DefinitionParts}
use Rattle.syntax_tree.specs.declared.tree.Item.{Item}
use Rattle.syntax_tree.specs.inner.OneLevel.{body_of, definition_of, definitions_of, item_of, params_in}
use Rattle.name_check.specs.Scope.{Scope, top, functions_of, is_events, are_values, count_in, parameters_from, locals_from, inside, in_block, seen, Agree}
use Rattle.name_check.proofs.AgreeLemmas.{agree_same, agree_append}
use Rattle.tsl_value.proofs.Lists.{left_at}
use Rattle.type_rules.specs.declared.rule.ExprType.{ExprType}
use Rattle.type_rules.specs.declared.rule.Setting.{Setting}
use Rattle.type_rules.specs.declared.rule.Setting.TheVariants as setting
use Rattle.expr_types.specs.declared.block.Block.{Block}
use Rattle.expr_types.specs.declared.block.Blocks.{Blocks}
use Rattle.expr_types.specs.Around.{Around}
use Rattle.type_rules.specs.Kinds.{Kinds}
use Rattle.expr_types.specs.Bodies.{setting_of, in_definition, within_block, may_have_braces, definition_kind, local_from, local_kind, block_kind}
use Rattle.expr_types.specs.inner.BodySteps.{kind_of_local}
use Rattle.expr_types.specs.inner.Blocks.{IsBlock, IsBlockOf, IsBlockAt, AreAt, AreBlocks, numbered, definition_in, definitions_in, definition_at, block_at, around_block, kind_within}
use Rattle.expr_types.proofs.BodyLemmas.{ok_same}
use Rattle.expr_types.proofs.SameLemmas.{moved, same_kind}

-- ---- the definitions by their numbers
abbrev At : List (Option tree.Definition) → ℕ → Option tree.Definition
At ds k = option_and_then (λ d. d) (slice_get ds k)

shown_at : (ds : List (Option (Bor tree.Definition))) (k : ℕ) → definition_at ds k ≡ At (definitions_in ds) k
shown_at [] k = refl
shown_at (d ∷ ds) zero = refl
shown_at (d ∷ ds) (suc k) = shown_at ds k

at_none : (c k : ℕ) (ds : List (Option tree.Definition)) → k < c → At (replicate c None ++ ds) k ≡ None
at_none zero k ds h = absurd (omega arith)
at_none (suc c) zero ds h = refl
at_none (suc c) (suc k) ds h = at_none c k ds (omega arith)

at_rest : (c k : ℕ) (ds : List (Option tree.Definition)) → c ≤ k → At (replicate c None ++ ds) k ≡ At ds (k - c)
at_rest zero k ds h = let e : k ≡ k - 0 = omega arith in ap (At ds) e
at_rest (suc c) zero ds h = absurd (omega arith)
at_rest (suc c) (suc k) ds h = let e : k - c ≡ suc k - suc c = omega arith in at_rest c k ds (omega arith) ∙ ap (At ds) e

module _ (at : Around) where
  abbrev LocalType : Option tree.Definition → Option ExprType
  LocalType d = option_and_then (kind_of_local at) d

  too_early : (k i : ℕ) (ds : tree.Definitions) → k < i → local_from at k i ds ≡ None
  too_early k i tree.no_definitions h = refl
  too_early k i (tree.more_definitions (tree.Define q n ps w b) ds) h =
      ap (λ t. if t then definition_kind at [] w b else local_from at k (suc i + count_in b) ds) (ne_eqb i k (λ e. omega arith)) ∙ too_early k (suc i + count_in b) ds (omega arith)

  -- after a definition whose body has so many
  after : (c i k : ℕ) (ds : tree.Definitions) → ((j : ℕ) → local_from at (suc i + c + j) (suc i + c) ds ≡ LocalType (At (numbered ds) j)) → local_from at (i + suc k) (suc i + c) ds ≡ LocalType (At (replicate c None ++ numbered ds) k)
  after c i k ds each = elim (cases_lt k c) [
    | inl less ↦ too_early (i + suc k) (suc i + c) ds (omega arith) ∙ sym (ap LocalType (at_none c k (numbered ds) less))
    | inr more ↦ let e : i + suc k ≡ suc i + c + (k - c) = omega arith in ap (λ m. local_from at m (suc i + c) ds) e ∙ each (k - c) ∙ sym (ap LocalType (at_rest c k (numbered ds) more))
  ]

  numbered_kind : (i k : ℕ) (ds : tree.Definitions) → local_from at (i + k) i ds ≡ LocalType (At (numbered ds) k)
  numbered_kind i k tree.no_definitions = refl
  numbered_kind i zero (tree.more_definitions (tree.Define q n ps w b) ds) =
      let same : i ≡ i + zero = omega arith in
      ap (λ t. if t then definition_kind at [] w b else local_from at (i + zero) (suc i + count_in b) ds) (eq-eqb i (i + zero) same)
  numbered_kind i (suc k) (tree.more_definitions (tree.Define q n ps w b) ds) =
      ap (λ t. if t then definition_kind at [] w b else local_from at (i + suc k) (suc i + count_in b) ds) (ne_eqb i (i + suc k) (λ e. omega arith))
      ∙ after (count_in b) i k ds (λ j. numbered_kind (suc i + count_in b) j ds)

  -- the definition of a number, as the code finds it
  numbered_is : (ds : tree.Definitions) (found : List (Option (Bor tree.Definition))) (k : ℕ) → definitions_in found ≡ numbered ds → LocalType (definition_at found k) ≡ local_kind at k ds
  numbered_is ds found k h =
      ap LocalType (shown_at found k ∙ ap (λ l. At l k) h) ∙ sym (numbered_kind 0 k ds) ∙ ap (λ m. local_from at m 0 ds) (zero-add k)

-- ---- what is seen in a block
pub braces_streams : (ps : List tree.Param) → may_have_braces ps ≡ true → are_values ps ≡ false
braces_streams [] h = refl
braces_streams (p ∷ ps) h = by (is_events p.of) _ _ h
  where
    by : (t r s : Bool) → t && r ≡ true → (if t then false else true) && s ≡ false
    by true r s h = refl
    by false r s h = cc

same_local : (at : Around) (t : Scope) → Agree at.scope t → (d : Option tree.Definition) → option_and_then (kind_of_local at) d ≡ option_and_then (kind_of_local (moved at t)) d
same_local at t h None = refl
same_local at t h (Some (tree.Define q n ps w b)) = same_kind at t h [] w b

module _ (items : List tree.Item) (kinds : Kinds) (i k : ℕ) where
  abbrev Seen : Scope → Setting → List tree.Param → Around
  Seen s at ps = record { items = items; kinds = kinds; scope = s; setting = at; number = i; params = ps }

  kind_is : (b : Block) (ps : List tree.Param) (ds : tree.Definitions) → may_have_braces ps ≡ true → IsBlock b ps ds → kind_within items kinds i k b ≡ local_kind (within_block (in_definition items kinds i ps) ds) k ds
  kind_is b ps ds braces h =
      let streams = braces_streams ps braces in
      let s = b.inside ++ (b.around ++ (top items ++ [])) in
      let t = in_block 0 (inside (top items) ps) ds in
      let found = definition_at b.definitions.items k in
      let known : setting.Streams ≡ setting_of ps = sym (ap (λ v. if v then setting.Values else setting.Streams) streams) in
      let outer : top items ++ [] ≡ (if are_values ps then functions_of (top items) else top items) = append-nil (top items) ∙ sym (ap (λ v. if v then functions_of (top items) else top items) streams) in
      let agrees : Agree s t = agree_append b.inside (locals_from 0 ds) _ _ h.inside (agree_append b.around (parameters_from 0 ps) _ _ h.around (agree_same _ _ outer)) in
      ap (λ at. option_and_then (kind_of_local (Seen s at (params_in b.params.now))) found) known
      ∙ ap (λ qs. option_and_then (kind_of_local (Seen s (setting_of ps) qs)) found) h.params
      ∙ same_local (Seen s (setting_of ps) ps) t agrees found
      ∙ numbered_is (Seen t (setting_of ps) ps) ds b.definitions.items k h.definitions

  abbrev Within : Option Block → Option ExprType
  Within b = option_and_then (kind_within items kinds i k) b

  abbrev Boxed : Option (Box Block Global) → Option Block
  Boxed b = option_map (λ (x : Box Block Global). x.value) b

  of_braces : (b : Option (Box Block Global)) (ps : List tree.Param) (ds : tree.Definitions) → IsBlockOf b ps ds → Within (Boxed b) ≡ (if may_have_braces ps then local_kind (within_block (in_definition items kinds i ps) ds) k ds else None)
  of_braces None ps ds h = sym (ap (λ v. if v then local_kind (within_block (in_definition items kinds i ps) ds) k ds else None) h)
  of_braces (Some b) ps ds h =
      kind_is b.value ps ds h.0 h.1 ∙ sym (ap (λ v. if v then local_kind (within_block (in_definition items kinds i ps) ds) k ds else None) h.0)

  of_item : (b : Option (Box Block Global)) (x : tree.Item) → IsBlockAt b x → Within (Boxed b) ≡ block_kind items kinds i k (Some x)
  of_item b (tree.Input p q n y) h = ap (λ o. Within (Boxed o)) h
  of_item b (tree.Output p q n) h = ap (λ o. Within (Boxed o)) h
  of_item b (tree.OutputAs p e q n) h = ap (λ o. Within (Boxed o)) h
  of_item b (tree.Defined p (tree.Define q n ps w (tree.Plain e))) h = ap (λ o. Within (Boxed o)) h
  of_item b (tree.Defined p (tree.Define q n ps w (tree.Block ds e))) h = of_braces b ps ds h

  of_number : (blocks : List (Option (Box Block Global))) (xs : List tree.Item) (j : ℕ) → AreAt blocks xs → Within (block_at blocks j) ≡ block_kind items kinds i k (slice_get xs j)
  of_number [] [] j h = refl
  of_number [] (x ∷ xs) j h = absurd h
  of_number (b ∷ blocks) [] j h = absurd h
  of_number (b ∷ blocks) (x ∷ xs) zero h = of_item b x h.0
  of_number (b ∷ blocks) (x ∷ xs) (suc j) h = of_number blocks xs j h.1

-- ---- what is answered of a definition
module _ {E : Type 0} (r : Result (Option ExprType) E) (items : List tree.Item) (kinds : Kinds) (i k : ℕ) where
  -- at what is seen in its block
  pub within_is : (b : Block) (names : Scope) (outer around levels : List Scope) (found : Option (Bor tree.Definition)) (d : Bor tree.Definition) (parts : tree.Definition) → names ≡ top items → outer ≡ names ∷ [] → around ≡ b.around ∷ outer → levels ≡ b.inside ∷ around → found ≡ Some d → definition_in found ≡ definition_at b.definitions.items k → parts ≡ d.now → IfOk r (λ kind. kind ≡ kind_of_local (Seen items kinds i k (seen levels) setting.Streams (params_in b.params.now)) parts) → IfOk r (λ kind. kind ≡ kind_within items kinds i k b)
  within_is b names outer around levels found d parts known is0 is1 is2 here at same =
      let level : levels ≡ b.inside ∷ (b.around ∷ (top items ∷ [])) = is2 ∙ ap (λ l. b.inside ∷ l) (is1 ∙ ap (λ l. b.around ∷ l) (is0 ∙ ap (λ n. n ∷ []) known)) in
      ok_same r _ _
      (ap (λ l. kind_of_local (Seen items kinds i k (seen l) setting.Streams (params_in b.params.now)) parts) level
      ∙ ap (kind_of_local (around_block items kinds i b)) same
      ∙ ap (option_and_then (kind_of_local (around_block items kinds i b))) (sym (ap definition_in here) ∙ at))

  -- in the block of an item
  pub found_is : (blocks : Blocks) (found : Option (Bor Block)) (b : Bor Block) → AreBlocks blocks items → found ≡ Some b → option_map (λ (x : Bor Block). x.now) found ≡ block_at blocks.blocks.items i → IfOk r (λ kind. kind ≡ kind_within items kinds i k b.now) → IfOk r (λ kind. kind ≡ block_kind items kinds i k (slice_get items i))
  found_is blocks found b all here at =
      ok_same r _ _
      (ap (option_and_then (kind_within items kinds i k)) (sym (ap (λ o. option_map (λ (x : Bor Block). x.now) o) here) ∙ at)
      ∙ of_number items kinds i k blocks.blocks.items items i all)

-- and where none is found
pub none_within : (items : List tree.Item) (kinds : Kinds) (i k : ℕ) (b : Block) (found : Option (Bor tree.Definition)) → found ≡ None → definition_in found ≡ definition_at b.definitions.items k → None ≡ kind_within items kinds i k b
none_within items kinds i k b found here at =
    ap (option_and_then (kind_of_local (around_block items kinds i b))) (sym (ap definition_in here) ∙ at)

pub none_found : (items : List tree.Item) (kinds : Kinds) (i k : ℕ) (blocks : Blocks) (found : Option (Bor Block)) → AreBlocks blocks items → found ≡ None → option_map (λ (x : Bor Block). x.now) found ≡ block_at blocks.blocks.items i → None ≡ block_kind items kinds i k (slice_get items i)
none_found items kinds i k blocks found all here at =
    ap (option_and_then (kind_within items kinds i k)) (sym (ap (λ o. option_map (λ (x : Bor Block). x.now) o) here) ∙ at)
    ∙ of_number items kinds i k blocks.blocks.items items i all

-- ---- the loops that make them
pub left_out : (start all next : List (Option (Bor tree.Definition))) (n : ℕ) → definitions_in all ≡ definitions_in start ++ replicate n None → next ≡ all ++ None ∷ [] → definitions_in next ≡ definitions_in start ++ replicate (n + 1) None
left_out start all next n done more =
    ap definitions_in more ∙ map-append definition_in all (None ∷ []) ∙ ap (λ l. l ++ None ∷ []) done
    ∙ append_assoc (definitions_in start) (replicate n None) (None ∷ [])
    ∙ ap (λ l. definitions_in start ++ l) (replicate_more n None)

numbered_first : (d : tree.Definition) (ds : tree.Definitions) (parts : DefinitionParts) (c : ℕ) → definition_of parts ≡ d → c ≡ count_in (body_of parts.body) → Some d ∷ (replicate c None ++ numbered ds) ≡ numbered (tree.more_definitions d ds)
numbered_first d ds parts c is count =
    ap (λ m. Some d ∷ (replicate m None ++ numbered ds)) count
    ∙ ap (λ e. Some e ∷ (replicate (count_in (body_of parts.body)) None ++ numbered ds)) (sym is)
    ∙ ap (λ e. numbered (tree.more_definitions e ds)) is

pub numbered_turn : (xs : List tree.Definition) (i : ℕ) (d : tree.Definition) (held : Bor tree.Definition) (parts : DefinitionParts) (c : ℕ) (all pushed next : List (Option (Bor tree.Definition))) (whole : List (Option tree.Definition)) → i < length xs → d ≡ get_or xs i d → held.now ≡ d → definition_of parts ≡ d → c ≡ count_in (body_of parts.body) → pushed ≡ all ++ Some held ∷ [] → definitions_in next ≡ definitions_in pushed ++ replicate c None → definitions_in all ++ numbered (definitions_of (drop i xs)) ≡ whole → definitions_in next ++ numbered (definitions_of (drop (i + 1) xs)) ≡ whole
numbered_turn xs i d held parts c all pushed next whole within at same is count more left done =
    let rest = definitions_of (drop (i + 1) xs) in
    let grown : definitions_in pushed ≡ definitions_in all ++ Some d ∷ [] = ap definitions_in more ∙ map-append definition_in all (Some held ∷ []) ∙ ap (λ e. definitions_in all ++ Some e ∷ []) same in
    ap (λ l. l ++ numbered rest) (left ∙ ap (λ l. l ++ replicate c None) grown)
    ∙ append_assoc (definitions_in all ++ Some d ∷ []) (replicate c None) (numbered rest)
    ∙ append_assoc (definitions_in all) (Some d ∷ []) (replicate c None ++ numbered rest)
    ∙ ap (λ l. definitions_in all ++ l) (numbered_first d rest parts c is count ∙ ap (λ l. numbered (definitions_of l)) (sym (left_at xs i d within at)))
    ∙ done

-- what is made so far goes on to the whole
abbrev pub AreBegun : List Item → ℕ → List (Option (Box Block Global)) → Type 0
AreBegun items i blocks = (more : List (Option (Box Block Global))) → AreAt more (map item_of (drop i items)) → AreAt (blocks ++ more) (map item_of items)

pub begun_turn : (items : List Item) (i : ℕ) (x : Item) (blocks next : List (Option (Box Block Global))) (b : Option (Box Block Global)) → i < length items → x ≡ get_or items i x → IsBlockAt b (item_of x) → next ≡ blocks ++ b ∷ [] → AreBegun items i blocks → AreBegun items (i + 1) next
begun_turn items i x blocks next b within at is grown begun more h =
    let e : next ++ more ≡ blocks ++ (b ∷ more) = ap (λ l. l ++ more) grown ∙ append_assoc blocks (b ∷ []) more in
    let here : map item_of (drop i items) ≡ item_of x ∷ map item_of (drop (i + 1) items) = ap (map item_of) (left_at items i x within at) in
    subst (λ l. AreAt l (map item_of items)) (sym e) (begun (b ∷ more) (subst (AreAt (b ∷ more)) (sym here) (is, h)))

pub begun_end : (items : List Item) (i : ℕ) (blocks : List (Option (Box Block Global))) → length items ≤ i → AreBegun items i blocks → AreAt blocks (map item_of items)
begun_end items i blocks past begun =
    subst (λ l. AreAt l (map item_of items)) (append-nil blocks) (begun [] (subst (AreAt []) (sym (ap (map item_of) (drop_all i items past))) tt))
