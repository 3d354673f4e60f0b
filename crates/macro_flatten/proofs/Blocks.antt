-- The block of a macro and its result: the streams that were foreseen are those that are made.
use Rattle.std.proofs.Common.{◌≡◌, ℕ, zero, suc, ◌+◌, ◌-◌, ◌≤◌, List, [], ◌∷◌, ◌++◌, length, Some, refl, ap, sym, subst, ◌∙◌, length-append, arith}
use Rattle.std.specs.Prelude.{min, slice_get}
use Rattle.std.proofs.lemmas.List.{length-map, map-append}
use Rattle.std.proofs.lemmas.Option.{same_Some, none-some}
use Rattle.tsl_value.specs.declared.place.Place.{Place}
use Rattle.flat_core.specs.System.{System}
use Rattle.flat_core.specs.declared.limits.TheConstants.{MOST_EQUATIONS}
use Rattle.syntax_tree.specs.Tree as tree
use Rattle.syntax_tree.specs.Tree.{Expr}
use Rattle.syntax_tree.specs.inner.OneLevel as code
use Rattle.syntax_tree.specs.inner.OneLevel.{definition_of, definitions_of}
use Rattle.syntax_tree.specs.declared.tree.DefinitionParts.{DefinitionParts}
use Rattle.name_check.specs.inner.Steps.{local_body}
use Rattle.type_rules.specs.declared.rule.ExprType.TheVariants as expr_type
use Rattle.expr_types.specs.Around.{Around}
use Rattle.expr_types.specs.Judge.{type_of}
use Rattle.stream_constructs.specs.declared.construct.Stream.{Stream}
use Rattle.stream_constructs.specs.declared.maker.MakeFault.{MakeFault}
use Rattle.spec_meaning.specs.Occurrence.{block_of, body_of, result_of}
use Rattle.spec_meaning.specs.Makes as makes
use Rattle.spec_meaning.specs.Makes.{AreLocals, MakesBlock, MakesBody, inside_call}
use Rattle.checked_spec.specs.Laws.{in_macro}
use Rattle.checked_spec.proofs.BlockLemmas.{nth}
use Rattle.checked_spec.proofs.Read.{inner_is}
use Rattle.equation_marks.specs.Marks.{Mark, block_marks, body_marks, macro_marks, mark_of}
use Rattle.equation_marks.proofs.CallMarks.{definition_first, macro_marks_are}
use Rattle.equation_marks.specs.declared.own.TheConstants.{ENOUGH}
use Rattle.macro_flatten.specs.declared.context.Context.{Context}
use Rattle.macro_flatten.specs.inner.Answers.{AreNumbered, IsBlockMade, IsBodyMade, IsMacroMade, IsRefusedAfter, exactly, to_enough}
use Rattle.macro_flatten.specs.inner.Here.{Entry, IsEntered, Site, inside_of}
use Rattle.macro_flatten.proofs.Entered.{the_macro}
use Rattle.macro_flatten.proofs.Made.{many_made, refused_after, refused_front, refused_same, with_both}

-- ---- numbered streams
module _ (counted : ℕ → ℕ) (at : Around) (call : ℕ → List Mark) where
  -- each is of the type of its definition
  numbered_kinds : (k n : ℕ) (ds : tree.Definitions) (ss : List Stream) → AreNumbered counted at call k n ds ss → (j : ℕ) (s : Stream) → slice_get ss j ≡ Some s → at.kinds.local at.number (k + j) ≡ Some (expr_type.Stream s.of)
  numbered_kinds k n tree.no_definitions [] h j s is = absurd (none-some s is)
  numbered_kinds k n tree.no_definitions (a ∷ ss) h j s is = absurd h
  numbered_kinds k n (tree.more_definitions d ds) [] h j s is = absurd h
  numbered_kinds k n (tree.more_definitions d ds) (a ∷ ss) h zero s is =
      let here : k + 0 ≡ k = omega arith in
      ap (at.kinds.local at.number) here ∙ h.1 ∙ ap (λ (b : Stream). Some (expr_type.Stream b.of)) (same_Some a s is)
  numbered_kinds k n (tree.more_definitions d ds) (a ∷ ss) h (suc j) s is =
      let next : k + suc j ≡ suc k + j = omega arith in
      ap (at.kinds.local at.number) next ∙ numbered_kinds (suc k) (counted (n + length (body_marks at call (result_of (local_body d))))) ds ss h.2 j s is

  -- each definition has one
  pub numbered_all : (k n : ℕ) (ds : tree.Definitions) (ss : List Stream) → AreNumbered counted at call k n ds ss → (j : ℕ) (d : tree.Definition) → nth j ds ≡ Some d → (s : Stream) × (slice_get ss j ≡ Some s)
  numbered_all k n tree.no_definitions ss h j d is = absurd (none-some d is)
  numbered_all k n (tree.more_definitions c ds) [] h j d is = absurd h
  numbered_all k n (tree.more_definitions c ds) (a ∷ ss) h zero d is = (a, refl)
  numbered_all k n (tree.more_definitions c ds) (a ∷ ss) h (suc j) d is =
      numbered_all (suc k) (counted (n + length (body_marks at call (result_of (local_body c))))) ds ss h.2 j d is

  -- the same where the marks and the types are
  pub numbered_same : (to : Around) (of : ℕ → List Mark) → ((e : Expr) → body_marks at call e ≡ body_marks to of e) → ((k : ℕ) → at.kinds.local at.number k ≡ to.kinds.local to.number k) → (k n : ℕ) (ds : tree.Definitions) (ss : List Stream) → AreNumbered counted at call k n ds ss → AreNumbered counted to of k n ds ss
  numbered_same to of marked typed k n tree.no_definitions [] h = tt
  numbered_same to of marked typed k n tree.no_definitions (a ∷ ss) h = absurd h
  numbered_same to of marked typed k n (tree.more_definitions d ds) [] h = absurd h
  numbered_same to of marked typed k n (tree.more_definitions d ds) (a ∷ ss) h =
      let counted_same = ap (λ ms. counted (n + length ms)) (marked (result_of (local_body d))) in (
        h.0 ∙ ap (λ m. m - 1) counted_same,
        sym (typed k) ∙ h.1,
        subst (λ m. AreNumbered counted to of (suc k) m ds ss) counted_same
            (numbered_same to of marked typed (suc k) (counted (n + length (body_marks at call (result_of (local_body d))))) ds ss h.2),
      )

-- where no more are made than a system has, the numbers were foreseen
module _ (at : Around) (call : ℕ → List Mark) where
  same_stream : (s a : Stream) → s.id ≡ a.id → s.of ≡ a.of → s ≡ a
  same_stream s a number type = λ j. record { id = number j; of = type j }

  numbers_foreseen : (k n : ℕ) (ds : tree.Definitions) (ss made : List Stream) → AreNumbered to_enough at call k n ds ss → AreNumbered exactly at call k n ds made → n + length (block_marks at call ds) ≤ MOST_EQUATIONS → made ≡ ss
  numbers_foreseen k n tree.no_definitions [] [] h m few = refl
  numbers_foreseen k n tree.no_definitions [] (b ∷ made) h m few = absurd m
  numbers_foreseen k n tree.no_definitions (a ∷ ss) made h m few = absurd h
  numbers_foreseen k n (tree.more_definitions d ds) [] made h m few = absurd h
  numbers_foreseen k n (tree.more_definitions d ds) (a ∷ ss) [] h m few = absurd m
  numbers_foreseen k n (tree.more_definitions d ds) (a ∷ ss) (b ∷ made) h m few =
      let own = length (body_marks at call (result_of (local_body d))) in
      let all : length (block_marks at call (tree.more_definitions d ds)) ≡ own + length (block_marks at call ds) =
      ap length (definition_first at call d ds) ∙ length-append (body_marks at call (result_of (local_body d))) (block_marks at call ds) in
      let exact : min (n + own) ENOUGH ≡ n + own = omega arith in
      let number : b.id ≡ a.id = m.0 ∙ sym (h.0 ∙ ap (λ x. x - 1) exact) in
      let type = inner_is (at.kinds.local at.number k) b.of a.of m.1 h.1 in
      let rest = numbers_foreseen (suc k) (n + own) ds ss made (subst (λ x. AreNumbered to_enough at call (suc k) x ds ss) exact h.2) m.2 (omega arith) in
      (λ j. same_stream b a number type j ∷ rest j)

-- ---- inside of a call
module _ (context : Context) (i : ℕ) (params : List Stream) (deep : ℕ) (entry : Entry) (entered : IsEntered context i params deep entry) (p : Place) (d : DefinitionParts) (is : slice_get entry.items i ≡ Some (tree.Defined p (definition_of d))) where
  abbrev at : Around
  at = in_macro entry.items entry.kinds i

  abbrev call : ℕ → List Mark
  call = macro_marks entry.items entry.kinds deep

  abbrev body : tree.Body
  body = code.body_of d.body

  abbrev ds : tree.Definitions
  ds = block_of (Some body)

  body_is : body_of (slice_get entry.items i) ≡ Some body
  body_is = ap body_of is

  same_body : (the_macro context i params deep entry entered).body ≡ body
  same_body = same_Some (the_macro context i params deep entry entered).body body (sym (the_macro context i params deep entry entered).body_is ∙ body_is)

  marked : macro_marks entry.items entry.kinds (suc deep) i ≡ block_marks at call ds ++ body_marks at call (result_of body)
  marked = macro_marks_are entry.items entry.kinds deep i body body_is

  result_of_call : (s : Stream) → type_of at (result_of body) ≡ Some (expr_type.Stream s.of) → entry.kinds.item i ≡ Some (expr_type.Stream s.of)
  result_of_call s h =
      let m = the_macro context i params deep entry entered in
      m.kind_is ∙ sym m.result.is ∙ ap (λ b. type_of at (result_of b)) same_body ∙ h

  pub locals_are : (n : ℕ) (locals : List Stream) → AreNumbered to_enough at call zero n ds locals → AreLocals entry.kinds i locals
  locals_are n locals h k s there = let same : k ≡ 0 + k = omega arith in ap (entry.kinds.local i) same ∙ numbered_kinds to_enough at call zero n ds locals h k s there

  pub all_there : (n : ℕ) (locals : List Stream) → AreNumbered to_enough at call zero n ds locals → (k : ℕ) (c : tree.Definition) → nth k (block_of (body_of (slice_get entry.items i))) ≡ Some c → (s : Stream) × (slice_get locals k ≡ Some s)
  all_there n locals h k c there = numbered_all to_enough at call zero n ds locals h k c (ap (λ o. nth k (block_of o)) (sym body_is) ∙ there)

  module _ (locals : List Stream) where
    abbrev site : Site
    site = inside_of entry i params locals

    -- without a block
    pub plain_made : (old new : System) (s : Stream) → ds ≡ tree.no_definitions → locals ≡ [] → IsBodyMade site deep (result_of body) old new s → IsMacroMade entry i body params deep old new s
    plain_made old new s none no_locals h =
        let zero_more : length old.equations + 0 ≡ length old.equations = omega arith in
        let block = subst (λ cs. MakesBlock entry.items entry.kinds entry.top (inside_call entry.items entry.top entry.st i entry.arguments params locals) cs (length old.equations) [] []) (sym none) makes.MakesBlock.no_definition in
        record {
          locals = locals;
          block = [];
          after = h.made;
          new_is = h.new_is;
          are_locals = λ k s there. absurd (none-some s (ap (λ ls. slice_get ls k) (sym no_locals) ∙ there));
          makes_block = subst (λ ls. MakesBlock entry.items entry.kinds entry.top (inside_call entry.items entry.top entry.st i entry.arguments params locals) ds (length old.equations) [] ls) (sym no_locals) block;
          makes_result = subst (λ n. MakesBody entry.items entry.kinds entry.top (inside_call entry.items entry.top entry.st i entry.arguments params locals) (result_of body) n h.made s) (sym zero_more) h.makes;
          marks_are = h.marks_are ∙ sym (marked ∙ ap (λ cs. block_marks at call cs ++ body_marks at call (result_of body)) none);
          of_is = result_of_call s h.of_is;
        }

    pub plain_refused : (old : System) (f : MakeFault) → ds ≡ tree.no_definitions → IsRefusedAfter old (body_marks at call (result_of body)) f → IsRefusedAfter old (macro_marks entry.items entry.kinds (suc deep) i) f
    plain_refused old f none h =
        refused_same old (body_marks at call (result_of body)) (macro_marks entry.items entry.kinds (suc deep) i) f
        (sym (marked ∙ ap (λ cs. block_marks at call cs ++ body_marks at call (result_of body)) none)) h

    -- with a block
    pub block_made : (old mid new : System) (s : Stream) → AreNumbered to_enough at call zero (length old.equations) ds locals → IsBlockMade site deep zero ds old mid → length mid.equations ≤ MOST_EQUATIONS → IsBodyMade site deep (result_of body) mid new s → IsMacroMade entry i body params deep old new s
    block_made old mid new s foreseen block few h =
        let many = many_made old mid block.made block.new_is in
        let counted : length block.made ≡ length (block_marks at call ds) = sym (length-map block.made mark_of) ∙ ap length block.marks_are in
        let same = numbers_foreseen at call zero (length old.equations) ds locals block.streams foreseen block.numbered (omega arith) in
        record {
          locals = locals;
          block = block.made;
          after = h.made;
          new_is = with_both old mid new block.made h.made block.new_is h.new_is;
          are_locals = locals_are (length old.equations) locals foreseen;
          makes_block = subst (λ ls. MakesBlock entry.items entry.kinds entry.top (inside_call entry.items entry.top entry.st i entry.arguments params locals) ds (length old.equations) block.made ls) same block.makes;
          makes_result = subst (λ n. MakesBody entry.items entry.kinds entry.top (inside_call entry.items entry.top entry.st i entry.arguments params locals) (result_of body) n h.made s) many h.makes;
          marks_are = map-append mark_of block.made h.made ∙ (λ j. block.marks_are j ++ h.marks_are j) ∙ sym marked;
          of_is = result_of_call s h.of_is;
        }

    pub block_refused : (old : System) (f : MakeFault) → IsRefusedAfter old (block_marks at call ds) f → IsRefusedAfter old (macro_marks entry.items entry.kinds (suc deep) i) f
    block_refused old f h =
        refused_same old (block_marks at call ds ++ body_marks at call (result_of body)) (macro_marks entry.items entry.kinds (suc deep) i) f (sym marked)
        (refused_front old (block_marks at call ds) (body_marks at call (result_of body)) f h)

    pub result_refused : (old mid : System) (f : MakeFault) → IsBlockMade site deep zero ds old mid → IsRefusedAfter mid (body_marks at call (result_of body)) f → IsRefusedAfter old (macro_marks entry.items entry.kinds (suc deep) i) f
    result_refused old mid f block h =
        refused_same old (block_marks at call ds ++ body_marks at call (result_of body)) (macro_marks entry.items entry.kinds (suc deep) i) f (sym marked)
        (refused_after old mid block.made (block_marks at call ds) (body_marks at call (result_of body)) f block.new_is block.marks_are h)
