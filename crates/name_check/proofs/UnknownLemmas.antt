-- Unknown names hang on what names stand for alone, whatever numbers the definitions of blocks have.
use Rattle.std.proofs.Common.{◌≡◌, not, ◌||◌, List, map, filter, Option, Some, None, refl, ap}
use Rattle.std.specs.Option.{option_map}
use Rattle.std.proofs.lemmas.List.Elements.{filter_agree}
use Rattle.tsl_value.specs.declared.place.Place.{Place}
use Rattle.syntax_tree.specs.Tree as tree
use Rattle.name_check.specs.declared.declaration.Declaration.{Declaration}
use Rattle.name_check.specs.declared.declaration.Declaration.TheVariants as declaration
use Rattle.name_check.specs.Builtin.{is_unit, is_called}
use Rattle.name_check.specs.Scope.{Scope, meaning}
use Rattle.name_check.specs.Parts as spec
use Rattle.name_check.specs.Parts.{parts, part_place}
use Rattle.name_check.specs.declared.parts.Part.{Part}
use Rattle.name_check.specs.inner.Shown.{parts_in}
use Rattle.name_check.specs.Faults.{is_mentionable, is_declared, is_a_function, is_unknown, unknown_in}
use Rattle.name_check.proofs.AgreeLemmas.{without_number, Alike, alike_by}
use Rattle.name_check.proofs.WalkLemmas.{IsSame}

-- the unknown ones of some parts
abbrev pub unknown_among : Scope → List Part → List Place
unknown_among s ps = map part_place (filter (is_unknown s) (parts_in ps))

mentionable_still : (o : Option Declaration) → is_mentionable (option_map without_number o) ≡ is_mentionable o
mentionable_still None = refl
mentionable_still (Some (declaration.Local k)) = refl
mentionable_still (Some d) = refl

declared_still : (o : Option Declaration) → is_declared (option_map without_number o) ≡ is_declared o
declared_still None = refl
declared_still (Some d) = refl

function_still : (o : Option Declaration) → is_a_function (option_map without_number o) ≡ is_a_function o
function_still None = refl
function_still (Some (declaration.Local k)) = refl
function_still (Some d) = refl

same_unknown : (s t : Scope) → Alike s t → (p : spec.Part) → is_unknown s p ≡ is_unknown t p
same_unknown s t h (spec.Operand (tree.Name p n)) = ap (λ b. not (is_unit n || b)) (alike_by is_mentionable mentionable_still (meaning s n) (meaning t n) (h.at n))
same_unknown s t h (spec.Operand (tree.Call p n es)) = ap (λ b. not (is_unit n || is_called n || b)) (alike_by is_declared declared_still (meaning s n) (meaning t n) (h.at n))
same_unknown s t h (spec.Operand e) = refl
same_unknown s t h (spec.Function (tree.Name p n)) = ap not (alike_by is_a_function function_still (meaning s n) (meaning t n) (h.at n))
same_unknown s t h (spec.Function e) = refl

pub unknown_same : IsSame unknown_in
unknown_same s t h e = ap (map part_place) (filter_agree (is_unknown s) (is_unknown t) (same_unknown s t h) (parts e))
