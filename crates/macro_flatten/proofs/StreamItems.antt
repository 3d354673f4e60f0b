-- Items that are definitions without parameters, and others.
use Rattle.std.proofs.Common.{◌≡◌, ◌==◌, ℕ, true, false, List, [], ◌∷◌, length, Option, Some, refl, ap, sym, ◌∙◌, arith}
use Rattle.std.proofs.lemmas.Bool.{eqb-false, eqb-true}
use Rattle.tsl_value.specs.declared.place.Place.{Place}
use Rattle.syntax_tree.specs.Tree as tree
use Rattle.syntax_tree.specs.inner.OneLevel.{body_of, definition_of, params_in}
use Rattle.syntax_tree.specs.declared.tree.DefinitionParts.{DefinitionParts}
use Rattle.syntax_tree.specs.declared.tree.Param.{Param}
use Rattle.checked_spec.specs.inner.Formed.{is_stream}
use Rattle.macro_flatten.specs.inner.Items.{IsStreamDefinition}

none_there : (ps : List Param) (n : ℕ) → (n == 0) ≡ true → n ≡ length ps → ps ≡ []
none_there [] n none count = refl
none_there (p ∷ ps) n none count = let empty = eqb-true n 0 none in absurd (omega arith)

with_parameters : (place q : Place) (x : List ℕ) (w : Option tree.TypeName) (b : tree.Body) (ps : List Param) (n : ℕ) → (n == 0) ≡ false → n ≡ length ps → is_stream (Some (tree.Defined place (tree.Define q x (params_in ps) w b))) ≡ false
with_parameters place q x w b [] n some count = absurd (eqb-false n 0 some count)
with_parameters place q x w b (p ∷ ps) n some count = refl

module _ (item : tree.Item) (place : Place) (d : tree.Definition) (parts : DefinitionParts) (is : item ≡ tree.Defined place d) (whole : definition_of parts ≡ d) (n : ℕ) (count : n ≡ length parts.params.items) where
  shown : item ≡ tree.Defined place (definition_of parts)
  shown = is ∙ ap (tree.Defined place) (sym whole)

  -- it has no parameters
  pub plain_definition : (n == 0) ≡ true → IsStreamDefinition item parts
  plain_definition none = record {
    place = place;
    is = shown ∙ ap (λ ps. tree.Defined place (tree.Define parts.place parts.name (params_in ps) parts.written (body_of parts.body))) (none_there parts.params.items n none count);
  }

  -- it has some
  pub called_definition : (n == 0) ≡ false → is_stream (Some item) ≡ false
  called_definition some = ap (λ it. is_stream (Some it)) shown ∙ with_parameters place parts.place parts.name parts.written (body_of parts.body) parts.params.items n some count
