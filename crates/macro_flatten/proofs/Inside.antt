-- Inside of a call of a macro: what its block and its result ask and answer.
use Rattle.std.proofs.Common.{◌≡◌, ℕ, zero, suc, ◌<◌, ◌≤◌, List, [], ◌∷◌, ◌++◌, map, length, Some, refl, ap, sym, subst, ◌∙◌, arith}
use Rattle.std.specs.Prelude.{if◌then◌else◌, Ok, Err, Result, slice_get}
use Rattle.std.proofs.lemmas.Option.{same_Some, none-some}
use Rattle.tsl_value.specs.declared.place.Place.{Place}
use Rattle.flat_core.specs.System.{System}
use Rattle.flat_core.specs.declared.limits.TheConstants.{MOST_EQUATIONS}
use Rattle.syntax_tree.specs.Tree as tree
use Rattle.syntax_tree.specs.Tree.{Expr}
use Rattle.syntax_tree.specs.inner.OneLevel as code
use Rattle.syntax_tree.specs.inner.OneLevel.{definition_of, definitions_of, item_of, params_in}
use Rattle.syntax_tree.specs.declared.tree.DefinitionParts.{DefinitionParts}
use Rattle.syntax_tree.specs.declared.tree.Param.{Param}
use Rattle.name_check.specs.Scope.{Agree, Scope, are_values, functions_of, inside, locals_from, parameters_from, seen, top}
use Rattle.name_check.proofs.AgreeLemmas.{agree_same, agree_trans}
use Rattle.type_rules.specs.declared.rule.Setting.TheVariants as setting
use Rattle.expr_types.specs.Around.{Around}
use Rattle.type_rules.specs.Kinds.{Kinds}
use Rattle.syntax_tree.specs.Tree.{params_of}
use Rattle.expr_types.specs.declared.around.Around as code_around
use Rattle.expr_types.specs.inner.Shown.{around_of, kinds_of}
use Rattle.stream_constructs.specs.declared.construct.Stream.{Stream}
use Rattle.stream_constructs.specs.declared.maker.MakeFault.{MakeFault}
use Rattle.spec_meaning.specs.Occurrence.{block_of, body_of, local, result_of}
use Rattle.spec_meaning.specs.Makes.{AreLocals}
use Rattle.checked_spec.specs.Laws.{in_macro}
use Rattle.checked_spec.proofs.BlockLemmas.{nth}
use Rattle.equation_marks.specs.Marks.{Mark, body_marks, macro_marks}
use Rattle.equation_marks.proofs.AgreeMarks.{body_agrees}
use Rattle.macro_flatten.specs.declared.context.Context.{Context}
use Rattle.macro_flatten.specs.declared.context.Here.{Here}
use Rattle.macro_flatten.specs.inner.Answers.{AreNumbered, AreStreams, CanMake, CanMakeBlock, IsBlock, IsBody, IsBodyAnswer, IsBlockAnswer, IsBlockMade, IsMacroAnswer, MayMakeBlock, to_enough}
use Rattle.macro_flatten.specs.inner.Here.{Entry, IsEntered, IsHere, MayMakeAt, Site, inside_of}
use Rattle.macro_flatten.proofs.Entered.{around_same, block_agrees, block_may, here_inside, none_local, outside_agrees, plain_agrees, result_may, the_macro}
use Rattle.macro_flatten.proofs.Blocks.{all_there, block_made, block_refused, locals_are, numbered_same, plain_made, plain_refused, result_refused}

local_within : (ds : List tree.Definition) (k : ℕ) → k < length ds → (b : tree.Body) × (local k (definitions_of ds) ≡ Some b)
local_within [] k h = absurd (omega arith)
local_within (tree.Define q x ps w b ∷ ds) zero h = (b, refl)
local_within (d ∷ ds) (suc k) h = local_within ds k (omega arith)

-- ---- the code in a definition
module _ (context : Context) (i : ℕ) (parts : DefinitionParts) where
  -- it is in this one
  pub record IsThere (around : code_around.Around) : Type 0 where
    pub items_are : around.items.now ≡ context.items.now
    pub kinds_are : around.kinds.now ≡ context.kinds.now
    pub setting_is : around.setting ≡ setting.Streams
    pub number_is : around.number ≡ i
    pub params_are : around.params.now ≡ parts.params.items

  -- the parameters are seen, and what is around the definition
  pub record IsOuter (levels : List Scope) : Type 0 where
    pub written : List Param
    pub level : Scope
    pub outers : List Scope
    pub written_is : written ≡ parts.params.items
    pub agrees : Agree level (parameters_from 0 (params_in written))
    pub around : outers ≡ (if are_values (params_in written) then functions_of context.names.now else context.names.now) ∷ []
    pub levels_are : levels ≡ level ∷ outers

  -- and the definitions of its block
  pub record IsInner (defined : List tree.Definition) (levels : List Scope) : Type 0 where
    pub shown : List tree.Definition
    pub level : Scope
    pub outers : List Scope
    pub shown_is : shown ≡ defined
    pub agrees : Agree level (locals_from 0 (definitions_of shown))
    pub outer : IsOuter outers
    pub levels_are : levels ≡ level ∷ outers

  pub record IsWithin (defined : List tree.Definition) (around : code_around.Around) : Type 0 where
    pub outside : code_around.Around
    pub there : IsThere outside
    pub levels : List Scope
    pub inner : IsInner defined levels
    pub is : around_of around ≡ record (around_of outside) { scope = seen levels }

module _ (context : Context) (i : ℕ) (params : List Stream) (deep : ℕ) (entry : Entry) (entered : IsEntered context i params deep entry) (p : Place) (parts : DefinitionParts) (is : slice_get entry.items i ≡ Some (tree.Defined p (definition_of parts))) where
  abbrev at : Around
  at = in_macro entry.items entry.kinds i

  abbrev call : ℕ → List Mark
  call = macro_marks entry.items entry.kinds deep

  abbrev body : tree.Body
  body = code.body_of parts.body

  -- what is seen outside of the block
  abbrev outside : Scope
  outside = inside (top entry.items) (params_of (slice_get entry.items i))

  body_is : body_of (slice_get entry.items i) ≡ Some body
  body_is = ap body_of is

  there_same : (around : code_around.Around) → IsThere context i parts around → record (around_of around) { scope = at.scope } ≡ at
  there_same around there = around_same context i params deep entry entered around (record {
    items_are = ap (map item_of) there.items_are ∙ entered.known.items_are;
    kinds_are = ap kinds_of there.kinds_are ∙ entered.known.kinds_are;
    setting_is = there.setting_is;
    number_is = there.number_is;
    params_are = ap params_in there.params_are ∙ ap params_of (sym is);
  })

  outer_agrees : (levels : List Scope) → IsOuter context i parts levels → Agree (seen levels) outside
  outer_agrees levels o =
      outside_agrees entry.items i p parts is context.names.now o.level o.outers levels entered.known.names_are
      (subst (λ ps. Agree o.level (parameters_from 0 (params_in ps))) o.written_is o.agrees)
      (o.around ∙ ap (λ ps. (if are_values (params_in ps) then functions_of context.names.now else context.names.now) ∷ []) o.written_is) o.levels_are

  -- ---- without a block
  module _ (e : Expr) (plain : body ≡ tree.Plain e) (here : Here) (there : IsThere context i parts here.around) (outer : IsOuter context i parts here.around.scope.now) (params_are : here.params.now ≡ params) (locals_are : here.locals.now ≡ []) (deep_is : here.deep ≡ deep) where
    abbrev plain_site : Site
    plain_site = inside_of entry i params []

    none_there : (k : ℕ) (d : tree.Definition) → nth k (block_of (body_of (slice_get entry.items i))) ≡ Some d → (s : Stream) × (slice_get [] k ≡ Some s)
    none_there k d h = absurd (none-some d (ap (λ o. nth k (block_of o)) (sym (body_is ∙ ap (λ b. Some b) plain)) ∙ h))

    plain_here : IsHere context here plain_site
    plain_here =
        here_inside context i params deep entry entered [] (none_local context i params deep entry entered) none_there here here.around (there_same here.around there)
        (plain_agrees entry.items i p parts is entry.kinds e (seen here.around.scope.now) plain (outer_agrees here.around.scope.now outer)) params_are locals_are

    plain_may : MayMakeAt plain_site here.deep e
    plain_may =
        subst (λ n. MayMakeAt plain_site n e) (sym deep_is)
        (subst (λ b. MayMakeAt plain_site deep (result_of b)) plain (result_may context i params deep entry entered p parts is [] (none_local context i params deep entry entered)))

    pub plain_can : CanMake context here e
    plain_can = record { site = plain_site; is_here = plain_here; may = plain_may }

    moved : (old new : System) (r : Result Stream MakeFault) → IsBodyAnswer plain_site here.deep e old new r → IsBodyAnswer plain_site deep (result_of body) old new r
    moved old new r h =
        subst (λ b. IsBodyAnswer plain_site deep (result_of b) old new r) (sym plain) (subst (λ n. IsBodyAnswer plain_site n e old new r) deep_is h)

    by : (old new : System) (r : Result Stream MakeFault) → IsBodyAnswer plain_site deep (result_of body) old new r → IsMacroAnswer entry i body params deep old new r
    by old new (Ok s) h = plain_made context i params deep entry entered p parts is [] old new s (ap (λ b. block_of (Some b)) plain) refl h
    by old new (Err f) h = plain_refused context i params deep entry entered p parts is [] old f (ap (λ b. block_of (Some b)) plain) h

    pub plain_answer : (old new : System) (r : Result Stream MakeFault) → IsBody context here e old new r → IsMacroAnswer entry i body params deep old new r
    plain_answer old new r h = by old new r (moved old new r (h.at plain_site plain_here plain_may))

  -- ---- with a block
  module _ (defined : List tree.Definition) (e : Expr) (blocked : body ≡ tree.Block (definitions_of defined) e) where
    same_body : (the_macro context i params deep entry entered).body ≡ body
    same_body = same_Some (the_macro context i params deep entry entered).body body (sym (the_macro context i params deep entry entered).body_is ∙ body_is)

    module _ (around : code_around.Around) (within : IsWithin context i parts defined around) where
      within_same : record (around_of around) { scope = at.scope } ≡ at
      within_same = ap (λ (a : Around). record a { scope = at.scope }) within.is ∙ there_same within.outside within.there

      within_agrees : Agree (seen around.scope.now) at.scope
      within_agrees =
          let o = within.inner in
          agree_trans (seen around.scope.now) (o.level ++ seen o.outers) at.scope
          (agree_same _ _ (ap (λ (a : Around). a.scope) within.is ∙ ap seen o.levels_are))
          (block_agrees entry.items i p parts is entry.kinds (definitions_of defined) e o.level (seen o.outers) blocked
          (subst (λ ds. Agree o.level (locals_from 0 (definitions_of ds))) o.shown_is o.agrees) (outer_agrees o.outers o.outer))

      -- its definitions are streams
      pub streams_there : AreStreams (kinds_of around.kinds.now) around.number (length defined)
      streams_there =
          subst (λ (k : Kinds). AreStreams k around.number (length defined)) (sym (ap (λ (a : Around). a.kinds) within_same))
          (subst (λ n. AreStreams entry.kinds n (length defined)) (sym (ap (λ (a : Around). a.number) within_same))
          (record {
            each = λ k h.
                let b = local_within defined k h in
                let stream = (the_macro context i params deep entry entered).locals k b.0 (ap (λ c. local k (block_of (Some c))) (same_body ∙ blocked) ∙ b.1) in
                (stream.of, stream.kind_is);
          }))

      -- their streams are those that were foreseen
      numbered_there : (n : ℕ) (locals : List Stream) → AreNumbered to_enough (around_of around) (macro_marks (map item_of context.items.now) (kinds_of context.kinds.now) deep) zero n (definitions_of defined) locals → AreNumbered to_enough at call zero n (definitions_of defined) locals
      numbered_there n locals h =
          let of : ℕ → List Mark = macro_marks (map item_of context.items.now) (kinds_of context.kinds.now) deep in
          numbered_same to_enough (around_of around) of at call
          (λ f. body_agrees (around_of around) at.scope of within_agrees f ∙ (λ j. body_marks (within_same j) (macro_marks (entered.known.items_are j) (entered.known.kinds_are j) deep) f))
          (λ k. ap (λ (a : Around). a.kinds.local a.number k) within_same)
          zero n (definitions_of defined) locals h

    module _ (n : ℕ) (locals : List Stream) (here : Here) (within : IsWithin context i parts defined here.around) (numbered : AreNumbered to_enough (around_of here.around) (macro_marks (map item_of context.items.now) (kinds_of context.kinds.now) deep) zero n (definitions_of defined) locals) (params_are : here.params.now ≡ params) (locals_are_they : here.locals.now ≡ locals) (deep_is : here.deep ≡ deep) where
      abbrev site : Site
      site = inside_of entry i params locals

      foreseen : AreNumbered to_enough at call zero n (block_of (Some body)) locals
      foreseen = subst (λ b. AreNumbered to_enough at call zero n (block_of (Some b)) locals) (sym blocked) (numbered_there here.around within n locals numbered)

      are : AreLocals entry.kinds i locals
      are = locals_are context i params deep entry entered p parts is n locals foreseen

      block_here : IsHere context here site
      block_here =
          here_inside context i params deep entry entered locals are (all_there context i params deep entry entered p parts is n locals foreseen) here here.around (within_same here.around within) (within_agrees here.around within) params_are locals_are_they

      definitions_may : MayMakeBlock site here.deep (definitions_of defined)
      definitions_may =
          subst (λ m. MayMakeBlock site m (definitions_of defined)) (sym deep_is)
          (subst (λ b. MayMakeBlock site deep (block_of (Some b))) blocked (block_may context i params deep entry entered p parts is locals are))

      final_may : MayMakeAt site here.deep e
      final_may =
          subst (λ m. MayMakeAt site m e) (sym deep_is)
          (subst (λ b. MayMakeAt site deep (result_of b)) blocked (result_may context i params deep entry entered p parts is locals are))

      pub block_can : CanMakeBlock context here (definitions_of defined)
      block_can = record { site = site; is_here = block_here; may = definitions_may }

      pub final_can : CanMake context here e
      final_can = record { site = site; is_here = block_here; may = final_may }

      pub block_stopped : (old mid new : System) (f : MakeFault) → IsBlock context here (definitions_of defined) old mid (Err f) → IsMacroAnswer entry i body params deep old new (Err f)
      block_stopped old mid new f h =
          block_refused context i params deep entry entered p parts is locals old f
          (subst (λ b. IsBlockAnswer site deep zero (block_of (Some b)) old mid (Err f)) (sym blocked)
          (subst (λ m. IsBlockAnswer site m zero (definitions_of defined) old mid (Err f)) deep_is (h.at site block_here definitions_may)))

      module _ (old mid : System) (u : Unit {0}) (made : IsBlock context here (definitions_of defined) old mid (Ok u)) (counted : n ≡ length old.equations) (few : length mid.equations ≤ MOST_EQUATIONS) where
        block_is : IsBlockMade site deep zero (block_of (Some body)) old mid
        block_is =
            subst (λ b. IsBlockMade site deep zero (block_of (Some b)) old mid) (sym blocked)
            (subst (λ m. IsBlockMade site m zero (definitions_of defined) old mid) deep_is (made.at site block_here definitions_may))

        final : (new : System) (r : Result Stream MakeFault) → IsBodyAnswer site deep (result_of body) mid new r → IsMacroAnswer entry i body params deep old new r
        final new (Ok s) h =
            block_made context i params deep entry entered p parts is locals old mid new s (subst (λ m. AreNumbered to_enough at call zero m (block_of (Some body)) locals) counted foreseen) block_is few h
        final new (Err f) h = result_refused context i params deep entry entered p parts is locals old mid f block_is h

        pub final_answer : (new : System) (r : Result Stream MakeFault) → IsBody context here e mid new r → IsMacroAnswer entry i body params deep old new r
        final_answer new r h =
            final new r
            (subst (λ b. IsBodyAnswer site deep (result_of b) mid new r) (sym blocked)
            (subst (λ m. IsBodyAnswer site m e mid new r) deep_is (h.at site block_here final_may)))
