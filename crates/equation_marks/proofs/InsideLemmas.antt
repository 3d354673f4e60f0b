-- Inside of a macro: what the code sees there is what its body is judged at.
use Rattle.std.proofs.Common.{◌≡◌, ℕ, suc, List, [], ◌∷◌, ◌++◌, Some, refl, sym, ap, ◌∙◌}
use Rattle.std.specs.Prelude.{if◌then◌else◌, slice_get}
use Rattle.std.proofs.lemmas.List.{append-nil}
use Rattle.syntax_tree.specs.Counts.{count_in, counts}
use Rattle.syntax_tree.specs.Tree as tree
use Rattle.syntax_tree.specs.Tree.{Expr, Param}
use Rattle.syntax_tree.specs.declared.tree.DefinitionParts.{DefinitionParts}
use Rattle.syntax_tree.specs.inner.OneLevel.{params_in}
use Rattle.syntax_tree.specs.inner.OneLevel as code
use Rattle.name_check.specs.Scope.{Scope, Agree, top, inside, in_block, seen, are_values, functions_of, parameters_from, locals_from}
use Rattle.name_check.proofs.AgreeLemmas.{agree_same, agree_trans, agree_append}
use Rattle.type_rules.specs.declared.rule.Setting.{Setting}
use Rattle.expr_types.specs.Around.{Around}
use Rattle.type_rules.specs.Kinds.{Kinds}
use Rattle.syntax_tree.specs.Tree.{params_of}
use Rattle.expr_types.specs.Bodies.{setting_of}
use Rattle.spec_meaning.specs.Occurrence.{result_of, block_of, body_of}
use Rattle.checked_spec.specs.Laws.{in_macro}
use Rattle.equation_marks.specs.Marks.{body_marks, block_marks, macro_marks}
use Rattle.equation_marks.specs.inner.Counted.{counted}
use Rattle.equation_marks.specs.inner.Counters.{IsDefinitionAt}
use Rattle.equation_marks.proofs.AgreeMarks.{block_agrees, body_agrees}
use Rattle.equation_marks.proofs.CallMarks.{macro_marks_are}
use Rattle.equation_marks.proofs.CountLemmas.{then_counted}

-- what is seen: the names of the block, those of the parameters, and those around
agree_inside : (items : List tree.Item) (names block level : Scope) (levels : List Scope) (qs ps : List Param) (ds es : tree.Definitions) → names ≡ top items → qs ≡ ps → ds ≡ es → Agree block (locals_from 0 ds) → Agree level (parameters_from 0 qs) → levels ≡ block ∷ level ∷ (if are_values qs then functions_of names else names) ∷ [] → Agree (seen levels) (in_block 0 (inside (top items) ps) es)
agree_inside items names block level levels qs ps ds es declared params definitions locals parameters are =
    let around = if are_values qs then functions_of names else names in
    agree_trans (seen levels) (block ++ (level ++ (around ++ []))) _ (agree_same _ _ (ap seen are))
    (agree_append block (locals_from 0 es) (level ++ (around ++ [])) (inside (top items) ps)
    (agree_trans block (locals_from 0 ds) (locals_from 0 es) locals (agree_same _ _ (ap (locals_from 0) definitions)))
    (agree_append level (parameters_from 0 ps) (around ++ []) (if are_values ps then functions_of (top items) else top items)
    (agree_trans level (parameters_from 0 qs) (parameters_from 0 ps) parameters (agree_same _ _ (ap (parameters_from 0) params)))
    (agree_same _ _ (append-nil around ∙ (λ k. if are_values (params k) then functions_of (declared k) else declared k)))))

-- the definitions of the block of a body are those in it
pub block_counted : (b : tree.Body) → counts (block_of (Some b)) ≡ count_in b
block_counted (tree.Plain e) = refl
block_counted (tree.Block ds e) = refl

module _ (items : List tree.Item) (kinds : Kinds) (i : ℕ) where
  abbrev pub inside_at : Setting → List Param → Scope → Around
  inside_at setting params scope = record { items = items; kinds = kinds; scope = scope; setting = setting; number = i; params = params }

  -- the block and the result
  pub inside_counted : (d : DefinitionParts) (deep : ℕ) (names block level : Scope) (levels : List Scope) (qs : List Param) (setting : Setting) (ds : tree.Definitions) (e : Expr) (count x r : ℕ) → IsDefinitionAt items i d → names ≡ top items → qs ≡ params_in d.params.items → setting ≡ setting_of qs → ds ≡ block_of (Some (code.body_of d.body)) → e ≡ result_of (code.body_of d.body) → Agree block (locals_from 0 ds) → Agree level (parameters_from 0 qs) → levels ≡ block ∷ level ∷ (if are_values qs then functions_of names else names) ∷ [] → x ≡ counted count (block_marks (inside_at setting qs (seen levels)) (macro_marks items kinds deep) ds) → r ≡ counted x (body_marks (inside_at setting qs (seen levels)) (macro_marks items kinds deep) e) → r ≡ counted count (macro_marks items kinds (suc deep) i)
  inside_counted d deep names block level levels qs setting ds e count x r is declared params set definitions result locals parameters are first second =
      let call = macro_marks items kinds deep in
      let ps = params_of (slice_get items i) in
      let b = code.body_of d.body in
      let es = block_of (body_of (slice_get items i)) in
      let same : qs ≡ ps = params ∙ sym is.params_are in
      let named : ds ≡ es = definitions ∙ ap block_of (sym is.body_is) in
      let seen_here = agree_inside items names block level levels qs ps ds es declared same named locals parameters are in
      let mode : setting ≡ setting_of ps = set ∙ ap setting_of same in
      let blocks = (λ k. block_marks (inside_at (mode k) (same k) (seen levels)) call (definitions k))
      ∙ block_agrees (inside_at (setting_of ps) ps (seen levels)) (in_block 0 (inside (top items) ps) es) call seen_here (block_of (Some b)) in
      let results = (λ k. body_marks (inside_at (mode k) (same k) (seen levels)) call (result k))
      ∙ body_agrees (inside_at (setting_of ps) ps (seen levels)) (in_block 0 (inside (top items) ps) es) call seen_here (result_of b) in
      then_counted count x r (block_marks (in_macro items kinds i) call (block_of (Some b))) (body_marks (in_macro items kinds i) call (result_of b))
      (first ∙ ap (counted count) blocks) (second ∙ ap (counted x) results)
      ∙ ap (counted count) (sym (macro_marks_are items kinds deep i b is.body_is))
