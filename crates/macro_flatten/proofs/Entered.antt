-- Inside of a call of a macro: the code is at its place, and the result and the definitions of the block may be made.
use Rattle.std.proofs.Common.{◌≡◌, ℕ, zero, suc, List, [], ◌∷◌, ◌++◌, map, length, Some, refl, ap, sym, subst, ◌∙◌, arith}
use Rattle.std.specs.Prelude.{if◌then◌else◌, slice_get}
use Rattle.std.proofs.lemmas.List.{append-nil}
use Rattle.std.proofs.lemmas.Option.{same_Some, none-some}
use Rattle.tsl_value.specs.declared.place.Place.{Place}
use Rattle.tsl_value.specs.declared.scalar.ValueType.{ValueType}
use Rattle.syntax_tree.specs.Tree as tree
use Rattle.syntax_tree.specs.Tree.{Expr}
use Rattle.syntax_tree.specs.inner.OneLevel as code
use Rattle.syntax_tree.specs.inner.OneLevel.{definition_of, definitions_of, item_of, params_in}
use Rattle.syntax_tree.specs.declared.tree.DefinitionParts.{DefinitionParts}
use Rattle.name_check.specs.declared.declaration.Declaration.{Declaration}
use Rattle.name_check.specs.declared.declaration.Declaration.TheVariants as declaration
use Rattle.name_check.specs.Parts.{Operand}
use Rattle.name_check.specs.Scope.{Agree, Scope, are_values, functions_of, in_block, inside, locals_from, parameters_from, seen, top}
use Rattle.name_check.proofs.AgreeLemmas.{agree_append, agree_same, agree_trans}
use Rattle.type_rules.specs.declared.rule.ExprType.TheVariants as expr_type
use Rattle.type_rules.specs.declared.rule.Setting.TheVariants as setting
use Rattle.expr_types.specs.Around.{Around, declared_type}
use Rattle.type_rules.specs.Kinds.{Kinds}
use Rattle.syntax_tree.specs.Tree.{params_of}
use Rattle.expr_types.specs.declared.around.Around as code_around
use Rattle.expr_types.specs.Judge.{type_of}
use Rattle.expr_types.specs.inner.Shown.{around_of, kinds_of}
use Rattle.stream_constructs.specs.declared.construct.Stream.{Stream}
use Rattle.spec_meaning.specs.Occurrence.{block_of, body_of, local, result_of}
use Rattle.spec_meaning.specs.Makes as makes
use Rattle.spec_meaning.specs.Makes.{AreLocals, Stands, inside_call}
use Rattle.checked_spec.specs.Laws.{IsMacro, IsStreamBody, in_macro}
use Rattle.checked_spec.proofs.BlockLemmas.{nth}
use Rattle.checked_spec.proofs.BodyLaws.{macros_are_typed}
use Rattle.checked_spec.proofs.KindLemmas.{seen_in}
use Rattle.checked_spec.proofs.ScopeLemmas.{IsSeen}
use Rattle.macro_flatten.specs.declared.context.Context.{Context}
use Rattle.macro_flatten.specs.declared.context.Here.{Here}
use Rattle.macro_flatten.specs.inner.Answers.{MayMakeBlock}
use Rattle.macro_flatten.specs.inner.Here.{Entry, HasStream, IsEntered, IsHere, MayMakeAt, Site, inside_of}
use Rattle.macro_flatten.proofs.Allowed.{local_inside_may, result_inside_may}

-- what stands at a place of one list stands there in another that is as long
there_too : {A B : Type 0} (xs : List A) (ys : List B) (k : ℕ) (y : B) → length xs ≡ length ys → slice_get ys k ≡ Some y → (x : A) × (slice_get xs k ≡ Some x)
there_too [] [] k y long is = absurd (none-some y is)
there_too [] (z ∷ ys) k y long is = absurd (omega arith)
there_too (x ∷ xs) [] k y long is = absurd (omega arith)
there_too (x ∷ xs) (z ∷ ys) zero y long is = (x, refl)
there_too (x ∷ xs) (z ∷ ys) (suc k) y long is = there_too xs ys k y (omega arith) is

-- ---- what is seen
-- in the code, and in the item
module _ (items : List tree.Item) (i : ℕ) (p : Place) (d : DefinitionParts) (is : slice_get items i ≡ Some (tree.Defined p (definition_of d))) where
  pub params_are : params_in d.params.items ≡ params_of (slice_get items i)
  params_are = ap params_of (sym is)

  pub body_is : body_of (slice_get items i) ≡ Some (code.body_of d.body)
  body_is = ap body_of is

  -- the parameters, and what is around the definition
  pub outside_agrees : (names level : Scope) (outers levels : List Scope) → names ≡ top items → Agree level (parameters_from 0 (params_in d.params.items)) → outers ≡ (if are_values (params_in d.params.items) then functions_of names else names) ∷ [] → levels ≡ level ∷ outers → Agree (seen levels) (inside (top items) (params_of (slice_get items i)))
  outside_agrees names level outers levels known agrees around levels_are =
      let qs = params_in d.params.items in
      let ps = params_of (slice_get items i) in
      agree_trans (seen levels) (level ++ (if are_values ps then functions_of (top items) else top items)) (inside (top items) ps)
      (agree_same _ _
      (ap seen levels_are ∙ ap (λ l. level ++ seen l) around ∙ ap (λ l. level ++ l) (append-nil (if are_values qs then functions_of names else names))
      ∙ ap (λ l. level ++ (if are_values qs then functions_of l else l)) known
      ∙ ap (λ l. level ++ (if are_values l then functions_of (top items) else top items)) params_are))
      (agree_append level (parameters_from 0 ps) _ _
      (agree_trans level (parameters_from 0 qs) (parameters_from 0 ps) agrees (agree_same _ _ (ap (parameters_from 0) params_are))) (agree_same _ _ refl))

  -- without braces
  pub plain_agrees : (kinds : Kinds) (e : Expr) (scope : Scope) → code.body_of d.body ≡ tree.Plain e → Agree scope (inside (top items) (params_of (slice_get items i))) → Agree scope (in_macro items kinds i).scope
  plain_agrees kinds e s plain agrees =
      subst (λ o. Agree s (in_block 0 (inside (top items) (params_of (slice_get items i))) (block_of o))) (sym (body_is ∙ ap (λ b. Some b) plain)) agrees

  -- and with them
  pub block_agrees : (kinds : Kinds) (ds : tree.Definitions) (e : Expr) (level outer : Scope) → code.body_of d.body ≡ tree.Block ds e → Agree level (locals_from 0 ds) → Agree outer (inside (top items) (params_of (slice_get items i))) → Agree (level ++ outer) (in_macro items kinds i).scope
  block_agrees kinds ds e level outer blocked inner agrees =
      subst (λ o. Agree (level ++ outer) (in_block 0 (inside (top items) (params_of (slice_get items i))) (block_of o))) (sym (body_is ∙ ap (λ b. Some b) blocked))
      (agree_append level (locals_from 0 ds) outer (inside (top items) (params_of (slice_get items i))) inner agrees)

-- ---- the place
module _ (context : Context) (i : ℕ) (params : List Stream) (deep : ℕ) (entry : Entry) (entered : IsEntered context i params deep entry) where
  abbrev at : Around
  at = in_macro entry.items entry.kinds i

  pub the_macro : IsMacro entry.items entry.kinds i
  the_macro = macros_are_typed entry.items entry.kinds i entered.known.checked entered.is_macro

  -- the same around as the code has it
  pub record IsAround (around : code_around.Around) : Type 0 where
    pub items_are : map item_of around.items.now ≡ entry.items
    pub kinds_are : kinds_of around.kinds.now ≡ entry.kinds
    pub setting_is : around.setting ≡ setting.Streams
    pub number_is : around.number ≡ i
    pub params_are : params_in around.params.now ≡ params_of (slice_get entry.items i)

  pub none_local : AreLocals entry.kinds i []
  none_local k s is = absurd (none-some s is)

  pub around_same : (around : code_around.Around) → IsAround around → record (around_of around) { scope = at.scope } ≡ at
  around_same around h = λ j. record at {
    items = h.items_are j;
    kinds = h.kinds_are j;
    setting = (h.setting_is ∙ sym (entered.matches [] none_local).setting_is) j;
    number = h.number_is j;
    params = h.params_are j;
  }

  module _ (locals : List Stream) (are : AreLocals entry.kinds i locals) (all : (k : ℕ) (d : tree.Definition) → nth k (block_of (body_of (slice_get entry.items i))) ≡ Some d → (s : Stream) × (slice_get locals k ≡ Some s)) where
    abbrev site : Site
    site = inside_of entry i params locals

    -- what is declared there as a stream has one
    has_stream : (d : Declaration) (t : ValueType) → IsSeen entry.items (slice_get entry.items i) d → declared_type at d ≡ Some (expr_type.Stream t) → HasStream site d
    has_stream (declaration.Input j) t seen typed = record { stream = entry.top j; stands = makes.Stands.input }
    has_stream (declaration.Stream j) t seen typed = record { stream = entry.top j; stands = makes.Stands.stream }
    has_stream (declaration.Parameter k) t seen typed =
        let found = there_too params (params_of (slice_get entry.items i)) k seen.it entered.all_given seen.is in
        record { stream = found.0; stands = makes.Stands.parameter found.1 }
    has_stream (declaration.Local k) t seen typed =
        let found = all k seen.it seen.is in
        record { stream = found.0; stands = makes.Stands.local found.1 }
    has_stream (declaration.Macro j) t seen typed = absurd (none-some (expr_type.Stream t) typed)
    has_stream (declaration.Function j) t seen typed = absurd (none-some (expr_type.Stream t) typed)
    has_stream (declaration.Mixed j) t seen typed = absurd seen

    pub here_inside : (here : Here) (around : code_around.Around) → record (around_of here.around) { scope = at.scope } ≡ at → Agree (seen here.around.scope.now) at.scope → here.params.now ≡ params → here.locals.now ≡ locals → IsHere context here site
    here_inside here around same agrees params_are locals_are = record {
      known = entered.known;
      around_is = same;
      agrees = agrees;
      params_are = params_are;
      locals_are = locals_are;
      have_streams = λ x d t stands typed.
          has_stream d t (seen_in entry.items entry.kinds entered.known.checked i (slice_get entry.items i) refl (Operand (tree.Name (record { line = 0; column = 0 }) x)) d stands) typed;
    }

  -- ---- what may be made there
  module _ (p : Place) (d : DefinitionParts) (is : slice_get entry.items i ≡ Some (tree.Defined p (definition_of d))) (locals : List Stream) (are : AreLocals entry.kinds i locals) where
    abbrev body : tree.Body
    body = code.body_of d.body

    same_body : the_macro.body ≡ body
    same_body = same_Some the_macro.body body (sym the_macro.body_is ∙ ap body_of is)

    pub result_may : MayMakeAt (inside_of entry i params locals) deep (result_of body)
    result_may =
        result_inside_may entry.items entry.kinds entry.top i (inside_call entry.items entry.top entry.st i entry.arguments params locals) deep entered.known.checked entered.is_macro (entered.matches locals are) entered.nests body (ap body_of is)

    -- ---- the definitions of the block
    local_stream : (k : ℕ) (b : tree.Body) → local k (block_of (Some body)) ≡ Some b → IsStreamBody entry.items at b (entry.kinds.local i k)
    local_stream k b h = the_macro.locals k b (ap (λ c. local k (block_of (Some c))) same_body ∙ h)

    pub block_may : MayMakeBlock (inside_of entry i params locals) deep (block_of (Some body))
    block_may = record {
      each = local_inside_may entry.items entry.kinds entry.top i (inside_call entry.items entry.top entry.st i entry.arguments params locals) deep entered.known.checked entered.is_macro (entered.matches locals are) entered.nests body (ap body_of is);
      kinds = λ k b h.
          let stream = local_stream k b h in
          ap (λ c. type_of at (result_of c)) stream.plain ∙ stream.typed.is ∙ sym stream.kind_is;
    }
