-- The marks of names, of calls of macros, and of bodies and blocks.
use Rattle.std.proofs.Common.{◌≡◌, ℕ, suc, ◌+◌, ◌<◌, ◌≤◌, true, false, List, [], ◌∷◌, ◌++◌, map, length, get_or, drop, Some, refl, sym, ap, ◌∙◌, append_assoc}
use Rattle.std.specs.Prelude.{if◌then◌else◌, slice_get}
use Rattle.std.specs.List.{flat_map}
use Rattle.std.proofs.lemmas.List.{append-nil, drop_all}
use Rattle.tsl_value.specs.declared.place.Place.{Place}
use Rattle.tsl_value.specs.declared.scalar.Scalar.TheVariants as scalar
use Rattle.flat_core.specs.declared.equation.Equation.{Equation}
use Rattle.syntax_tree.specs.Tree as tree
use Rattle.syntax_tree.specs.Tree.{Expr, Exprs, place_of}
use Rattle.syntax_tree.specs.inner.OneLevel.{definitions_of}
use Rattle.name_check.specs.declared.declaration.Declaration.TheVariants as declaration
use Rattle.name_check.specs.Builtin.{is_unit, is_called}
use Rattle.name_check.specs.Scope.{meaning}
use Rattle.name_check.specs.inner.Steps.{local_body}
use Rattle.tsl_value.proofs.Lists.{left_at}
use Rattle.expr_types.specs.Around.{Around}
use Rattle.stream_constructs.specs.Construct as construct
use Rattle.spec_meaning.specs.Occurrence.{result_of, block_of, body_of}
use Rattle.spec_meaning.specs.Function.{no_tree}
use Rattle.spec_meaning.specs.Shape.{expressions}
use Rattle.spec_meaning.specs.Makes.{is_name}
use Rattle.spec_meaning.specs.Flat.{named}
use Rattle.checked_spec.specs.Laws.{in_macro}
use Rattle.equation_marks.specs.Marks.{Mark, mark_of, own_marks, alias_own_marks, marks, each_marks, joined, named_marks, declared_marks, filter_marks, all_but_last, body_marks, block_marks, macro_marks, macro_body_marks}
use Rattle.spec_meaning.proofs.Names.{no_builtin}
use Rattle.equation_marks.proofs.PartMarks.{joined_each}

-- the name of an equation is no mark
pub named_marks_are : (x : List ℕ) (es : List Equation) → map mark_of (named x es) ≡ map mark_of es
named_marks_are x [] = refl
named_marks_are x (e ∷ []) = refl
named_marks_are x (d ∷ e ∷ es) = ap (λ ms. mark_of d ∷ ms) (named_marks_are x (e ∷ es))

module _ (at : Around) (call : ℕ → List Mark) where
  pub name_has_none : (p : Place) (x : List ℕ) → is_unit x ≡ false → marks at call (tree.Name p x) ≡ []
  name_has_none p x other = λ i. if other i then own_marks p construct.Unit 0 else []

  -- a call of a macro: what the arguments make, and what the call makes
  pub macro_call_marks : (p : Place) (x : List ℕ) (es : Exprs) (i : ℕ) → is_called x ≡ false → meaning at.scope x ≡ Some (declaration.Macro i) → marks at call (tree.Call p x es) ≡ flat_map (marks at call) (expressions es) ++ call i
  macro_call_marks p x es i other is =
      let free = no_builtin x other in
      let each = each_marks at call es in
      ap (named_marks at call p x (expressions es) each) free.no_plain
      ∙ (λ k.
      if free.no_delay k then joined each ++ own_marks p construct.Delay (length (expressions es))
      else if free.no_const k then joined (drop 1 each) ++ own_marks p (construct.Const scalar.Unit) 1
      else if free.no_filter k then filter_marks p (expressions es) each
      else if free.no_lift k then joined (all_but_last each) ++ own_marks p (construct.Lift no_tree) (length (all_but_last each))
      else declared_marks at call p (is k) (expressions es) each)
      ∙ ap (λ ms. ms ++ call i) (joined_each at call es)

  -- ---- bodies
  pub body_of_name : (e : Expr) → is_name e ≡ true → body_marks at call e ≡ alias_own_marks (place_of e)
  body_of_name e is = λ i. if is i then alias_own_marks (place_of e) else marks at call e

  pub body_of_other : (e : Expr) → is_name e ≡ false → body_marks at call e ≡ marks at call e
  body_of_other e is = λ i. if is i then alias_own_marks (place_of e) else marks at call e

  -- ---- blocks, definition by definition
  pub definition_first : (d : tree.Definition) (ds : tree.Definitions) → block_marks at call (tree.more_definitions d ds) ≡ body_marks at call (result_of (local_body d)) ++ block_marks at call ds
  definition_first (tree.Define q x ps w b) ds = refl

  pub block_marks-append : (xs ys : List tree.Definition) → block_marks at call (definitions_of (xs ++ ys)) ≡ block_marks at call (definitions_of xs) ++ block_marks at call (definitions_of ys)
  block_marks-append [] ys = refl
  block_marks-append (d ∷ xs) ys =
      let here = body_marks at call (result_of (local_body d)) in
      definition_first d (definitions_of (xs ++ ys)) ∙ ap (λ ms. here ++ ms) (block_marks-append xs ys)
      ∙ sym (append_assoc here (block_marks at call (definitions_of xs)) (block_marks at call (definitions_of ys)))
      ∙ ap (λ ms. ms ++ block_marks at call (definitions_of ys)) (sym (definition_first d (definitions_of xs)))

  -- one more
  pub block_more : (ds : List tree.Definition) (d : tree.Definition) → block_marks at call (definitions_of (ds ++ d ∷ [])) ≡ block_marks at call (definitions_of ds) ++ body_marks at call (result_of (local_body d))
  block_more ds d =
      block_marks-append ds (d ∷ [])
      ∙ ap (λ ms. block_marks at call (definitions_of ds) ++ ms) (definition_first d tree.no_definitions ∙ append-nil (body_marks at call (result_of (local_body d))))

  -- a turn of a loop over all of them, and its end
  pub block_left : (ds : List tree.Definition) (i : ℕ) (d : tree.Definition) → i < length ds → d ≡ get_or ds i d → block_marks at call (definitions_of (drop i ds)) ≡ body_marks at call (result_of (local_body d)) ++ block_marks at call (definitions_of (drop (i + 1) ds))
  block_left ds i d h is =
      ap (λ l. block_marks at call (definitions_of l)) (left_at ds i d h is) ∙ definition_first d (definitions_of (drop (i + 1) ds))

  pub block_end : (ds : List tree.Definition) (i : ℕ) → length ds ≤ i → block_marks at call (definitions_of (drop i ds)) ≡ []
  block_end ds i h = ap (λ l. block_marks at call (definitions_of l)) (drop_all i ds h)

-- ---- a call of a macro, by its body: the block and then the result
pub macro_marks_are : (items : List tree.Item) (kinds : _) (deep i : ℕ) (b : tree.Body) → body_of (slice_get items i) ≡ Some b → macro_marks items kinds (suc deep) i ≡ block_marks (in_macro items kinds i) (macro_marks items kinds deep) (block_of (Some b)) ++ body_marks (in_macro items kinds i) (macro_marks items kinds deep) (result_of b)
macro_marks_are items kinds deep i b is = ap (macro_body_marks items kinds (macro_marks items kinds deep) i) is
