-- Reading parameters, definitions and items one after the other, as the loops do.
use Rattle.std.proofs.Common.{◌≡◌, ℕ, suc, ◌≤◌, true, false, List, [], ◌∷◌, ◌++◌, length, Option, Some, None, Ok, Err, map, refl, sym, ap, subst, ◌∙◌, append_assoc}
use Rattle.std.proofs.lemmas.List.{append-nil, map_push}
use Rattle.std.specs.Borrow.{Bor}
use Rattle.spec_lexer.specs.declared.token.Token.{Token}
use Rattle.token_reader.specs.inner.Reader.{Unexpected, TooDeep, Outcome, Read, Stopped, and_then, when, many, with_list}
use Rattle.token_reader.proofs.LocalLaws.{Leads, IsLocalTurn, shorter}
use Rattle.token_reader.proofs.Loop.{loop_passes, loop_fails, loop_ends, loop_empty}
use Rattle.syntax_tree.specs.declared.tree.Param.{Param}
use Rattle.syntax_tree.specs.declared.tree.Item.{Item}
use Rattle.spec_parser.specs.declared.stop.Stop.{Stop}
use Rattle.spec_parser.specs.declared.stop.Stop.TheVariants as stop
use Rattle.syntax_tree.specs.Tree as tree
use Rattle.syntax_tree.specs.Tree.{Definition, Definitions, no_definitions, more_definitions}
use Rattle.syntax_tree.specs.inner.OneLevel.{param_of, params_in, definitions_of, item_of}
use Rattle.spec_parser.specs.Words.{is_comma, is_def}
use Rattle.spec_parser.specs.inner.Reading as read
use Rattle.spec_parser.specs.inner.Reading.{Reader, type_in, within, a_param, other_params_of, inner_definition, a_body, at_item, items_at, ended}
use Rattle.spec_parser.specs.inner.Gives.{Fails, TurnGives}
use Rattle.syntax_tree.specs.inner.Joins.{join_params, join_definitions}
use Rattle.spec_parser.proofs.Ends.{signs}
use Rattle.spec_parser.proofs.TypeLaws.{type_fine}
use Rattle.spec_parser.proofs.ItemLaws.{turn_params, param_local, defs_local, definition_local, item_signs, local_items}
use Rattle.spec_parser.proofs.LoopLaws.{none_is}

-- parameters
join_no_params : (ps : List Param) → join_params ps [] ≡ params_in ps
join_no_params ps = append-nil (params_in ps)

join_more_params : (ps : List Param) (p : Param) (us : List tree.Param) → join_params (ps ++ p ∷ []) us ≡ join_params ps (param_of p ∷ us)
join_more_params ps p us = ap (λ l. l ++ us) (map_push param_of ps p) ∙ append_assoc (params_in ps) (param_of p ∷ []) us

module _ (room : ℕ) where
  abbrev params : Reader (List tree.Param)
  params = many (other_params_of (type_in room))

  params_local : (t : Token) → IsLocalTurn signs ((other_params_of (type_in room)).turn t)
  params_local = turn_params (type_in room) (type_fine room).local

  pub param_shorter : (ts left : List Token) (p : tree.Param) → a_param (type_in room) ts ≡ Read p left → length left ≤ length ts
  param_shorter ts left p h = shorter signs (a_param (type_in room)) ts (Read p left) (subst (Leads signs (a_param (type_in room)) ts) h (param_local (type_in room) (type_fine room).local ts))

  comma_turn : (t : Token) → true ≡ is_comma t.kind → (other_params_of (type_in room)).turn t ≡ Some (a_param (type_in room))
  comma_turn t is = λ k. when (sym is k) (a_param (type_in room))

  module _ (before : List Param) (ts : List Token) (t : Token) (after : List Token) (total : Outcome Token (List tree.Param)) (e : ts ≡ t ∷ after) (so_far : with_list (join_params before) (params ts) ≡ total) where
    pub param_passes : true ≡ is_comma t.kind → (x : Param) (left : List Token) → a_param (type_in room) after ≡ Read (param_of x) left → with_list (join_params (before ++ x ∷ [])) (params left) ≡ total
    param_passes is x left reads = loop_passes signs (other_params_of (type_in room)) params_local (join_params before) ts t after total e so_far (join_params (before ++ x ∷ [])) (a_param (type_in room)) (param_of x) left (join_more_params before x) (comma_turn t is) reads

    pub param_fails : true ≡ is_comma t.kind → (s : Stop) → Fails s (a_param (type_in room) after) → Fails s total
    param_fails is stop.Memory f = tt
    param_fails is (stop.Unexpected rest) f = loop_fails signs (other_params_of (type_in room)) params_local (join_params before) ts t after total e so_far (a_param (type_in room)) Unexpected rest.now (comma_turn t is) f
    param_fails is (stop.TooDeep rest) f = loop_fails signs (other_params_of (type_in room)) params_local (join_params before) ts t after total e so_far (a_param (type_in room)) TooDeep rest.now (comma_turn t is) f

    pub params_end : false ≡ is_comma t.kind → total ≡ Read (params_in before) ts
    params_end is = loop_ends signs (other_params_of (type_in room)) params_local (join_params before) ts t after total e so_far (λ k. when (sym is k) (a_param (type_in room))) ∙ ap (λ x. Read x ts) (join_no_params before)

  pub params_empty : (before : List Param) (ts : List Token) (total : Outcome Token (List tree.Param)) → length ts ≡ 0 → with_list (join_params before) (params ts) ≡ total → total ≡ Read (params_in before) ts
  params_empty before ts total h so_far = loop_empty signs (other_params_of (type_in room)) params_local (join_params before) ts total (none_is ts h) so_far ∙ ap (λ x. Read x ts) (join_no_params before)

-- definitions
join_no_definitions : (ds : List Definition) → join_definitions ds no_definitions ≡ definitions_of ds
join_no_definitions [] = refl
join_no_definitions (d ∷ ds) = ap (more_definitions d) (join_no_definitions ds)

join_more_definitions : (ds : List Definition) (d : Definition) (us : Definitions) → join_definitions (ds ++ d ∷ []) us ≡ join_definitions ds (more_definitions d us)
join_more_definitions [] d us = refl
join_more_definitions (x ∷ ds) d us = ap (more_definitions x) (join_more_definitions ds d us)

module _ (room : ℕ) where
  abbrev a_definition : Reader Definition
  a_definition = inner_definition (type_in (suc room)) (a_body (read.block room) (within (suc room)))

  abbrev definitions : Reader Definitions
  definitions = many (read.definitions_of (type_in (suc room)) (a_body (read.block room) (within (suc room))))

  pub definition_shorter : (ts left : List Token) (d : Definition) → a_definition ts ≡ Read d left → length left ≤ length ts
  definition_shorter ts left d h = shorter signs a_definition ts (Read d left) (subst (Leads signs a_definition ts) h (definition_local room ts))

  def_turn : (t : Token) → true ≡ is_def t.kind → (read.definitions_of (type_in (suc room)) (a_body (read.block room) (within (suc room)))).turn t ≡ Some a_definition
  def_turn t is = λ k. when (sym is k) a_definition

  module _ (before : List Definition) (ts : List Token) (t : Token) (after : List Token) (total : Outcome Token Definitions) (e : ts ≡ t ∷ after) (so_far : with_list (join_definitions before) (definitions ts) ≡ total) where
    pub definition_passes : true ≡ is_def t.kind → (x : Definition) (left : List Token) → a_definition after ≡ Read x left → with_list (join_definitions (before ++ x ∷ [])) (definitions left) ≡ total
    definition_passes is x left reads = loop_passes signs (read.definitions_of (type_in (suc room)) (a_body (read.block room) (within (suc room)))) (defs_local room) (join_definitions before) ts t after total e so_far (join_definitions (before ++ x ∷ [])) a_definition x left (join_more_definitions before x) (def_turn t is) reads

    pub definition_fails : true ≡ is_def t.kind → (s : Stop) → Fails s (a_definition after) → Fails s total
    definition_fails is stop.Memory f = tt
    definition_fails is (stop.Unexpected rest) f = loop_fails signs (read.definitions_of (type_in (suc room)) (a_body (read.block room) (within (suc room)))) (defs_local room) (join_definitions before) ts t after total e so_far a_definition Unexpected rest.now (def_turn t is) f
    definition_fails is (stop.TooDeep rest) f = loop_fails signs (read.definitions_of (type_in (suc room)) (a_body (read.block room) (within (suc room)))) (defs_local room) (join_definitions before) ts t after total e so_far a_definition TooDeep rest.now (def_turn t is) f

    pub definitions_end : false ≡ is_def t.kind → total ≡ Read (definitions_of before) ts
    definitions_end is = loop_ends signs (read.definitions_of (type_in (suc room)) (a_body (read.block room) (within (suc room)))) (defs_local room) (join_definitions before) ts t after total e so_far (λ k. when (sym is k) a_definition) ∙ ap (λ x. Read x ts) (join_no_definitions before)

  pub definitions_empty : (before : List Definition) (ts : List Token) (total : Outcome Token Definitions) → length ts ≡ 0 → with_list (join_definitions before) (definitions ts) ≡ total → total ≡ Read (definitions_of before) ts
  definitions_empty before ts total h so_far = loop_empty signs (read.definitions_of (type_in (suc room)) (a_body (read.block room) (within (suc room)))) (defs_local room) (join_definitions before) ts total (none_is ts h) so_far ∙ ap (λ x. Read x ts) (join_no_definitions before)

-- items
abbrev pub seen : Item × Bor (List Token) → tree.Item × List Token
seen x = (item_of x.0, x.1.now)

abbrev pub join_items : List Item → List tree.Item → List tree.Item
join_items is us = map item_of is ++ us

join_more_items : (is : List Item) (i : Item) (us : List tree.Item) → join_items (is ++ i ∷ []) us ≡ join_items is (item_of i ∷ us)
join_more_items is i us = ap (λ l. l ++ us) (map_push item_of is i) ∙ append_assoc (map item_of is) (item_of i ∷ []) us

module _ (room : ℕ) where
  abbrev all_items : Reader (List tree.Item)
  all_items = many (items_at room)

  abbrev turn : Token → Option (Reader tree.Item)
  turn t = at_item room t.place t.kind

  module _ (before : List Item) (ts : List Token) (t : Token) (after : List Token) (total : Outcome Token (List tree.Item)) (e : ts ≡ t ∷ after) (so_far : with_list (join_items before) (all_items ts) ≡ total) where
    item_turn : (o : Option (Reader tree.Item)) → turn t ≡ o → (i : Item) (left : Bor (List Token)) → TurnGives seen (Ok (Some (i, left))) o after → with_list (join_items (before ++ i ∷ [])) (all_items left.now) ≡ total
    item_turn None is i left h = absurd h
    item_turn (Some p) is i left h = loop_passes item_signs (items_at room) (local_items room) (join_items before) ts t after total e so_far (join_items (before ++ i ∷ [])) p (item_of i) left.now (join_more_items before i) is h

    pub item_passes : (i : Item) (left : Bor (List Token)) → TurnGives seen (Ok (Some (i, left))) (turn t) after → with_list (join_items (before ++ i ∷ [])) (all_items left.now) ≡ total
    item_passes = item_turn (turn t) refl

    item_stops : (o : Option (Reader tree.Item)) → turn t ≡ o → (s : Stop) → TurnGives seen (Err s) o after → Fails s (and_then total ended)
    item_stops o is stop.Memory h = tt
    item_stops None is (stop.Unexpected rest) h = absurd h
    item_stops None is (stop.TooDeep rest) h = absurd h
    item_stops (Some p) is (stop.Unexpected rest) h = ap (λ q. and_then q ended) (loop_fails item_signs (items_at room) (local_items room) (join_items before) ts t after total e so_far p Unexpected rest.now is h)
    item_stops (Some p) is (stop.TooDeep rest) h = ap (λ q. and_then q ended) (loop_fails item_signs (items_at room) (local_items room) (join_items before) ts t after total e so_far p TooDeep rest.now is h)

    pub item_fails : (s : Stop) → TurnGives seen (Err s) (turn t) after → Fails s (and_then total ended)
    item_fails = item_stops (turn t) refl

    none_turn : (o : Option (Reader tree.Item)) → turn t ≡ o → TurnGives seen (Ok None) o after → and_then total ended ≡ Stopped Unexpected ts
    none_turn (Some p) is h = absurd h
    none_turn None is h = ap (λ q. and_then q ended) (loop_ends item_signs (items_at room) (local_items room) (join_items before) ts t after total e so_far is ∙ ap (Read (join_items before [])) e) ∙ ap (Stopped Unexpected) (sym e)

    pub no_item : TurnGives seen (Ok None) (turn t) after → and_then total ended ≡ Stopped Unexpected ts
    no_item = none_turn (turn t) refl

    -- what is left is shorter
    turn_shorter : (o : Option (Reader tree.Item)) → IsLocalTurn item_signs o → (i : Item) (left : Bor (List Token)) → TurnGives seen (Ok (Some (i, left))) o after → length left.now ≤ length after
    turn_shorter None lo i left h = absurd h
    turn_shorter (Some p) lo i left h = shorter item_signs p after (Read (item_of i) left.now) (subst (Leads item_signs p after) h (lo after))

    pub item_shorter : (i : Item) (left : Bor (List Token)) → TurnGives seen (Ok (Some (i, left))) (turn t) after → length left.now ≤ length after
    item_shorter = turn_shorter (turn t) (local_items room t)

  pub items_end : (before : List Item) (ts : List Token) (total : Outcome Token (List tree.Item)) → length ts ≡ 0 → with_list (join_items before) (all_items ts) ≡ total → and_then total ended ≡ Read (map item_of before) []
  items_end before ts total h so_far = ap (λ q. and_then q ended) (loop_empty item_signs (items_at room) (local_items room) (join_items before) ts total (none_is ts h) so_far ∙ ap (Read (join_items before [])) (none_is ts h)) ∙ ap (λ x. Read x []) (append-nil (map item_of before))
