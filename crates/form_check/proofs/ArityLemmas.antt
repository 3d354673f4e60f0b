-- Calls of a wrong number of arguments hang on what names stand for alone, whatever numbers the definitions of blocks have.
use Rattle.std.proofs.Common.{◌≡◌, ℕ, not, if◌then◌else◌, List, map, Option, Some, None, refl, ap, ◌∙◌}
use Rattle.std.specs.Option.{option_map}
use Rattle.std.proofs.lemmas.List.Elements.{filter_agree}
use Rattle.syntax_tree.specs.Tree as tree
use Rattle.syntax_tree.specs.Tree.{Expr, Exprs}
use Rattle.name_check.specs.declared.declaration.Declaration.{Declaration}
use Rattle.name_check.specs.declared.declaration.Declaration.TheVariants as declaration
use Rattle.name_check.specs.Builtin.{is_unit, is_lift}
use Rattle.name_check.specs.Scope.{Scope, meaning}
use Rattle.name_check.specs.Parts as spec
use Rattle.name_check.specs.Parts.{parts, part_place}
use Rattle.name_check.proofs.AgreeLemmas.{without_number, Alike, alike_by}
use Rattle.name_check.proofs.WalkLemmas.{IsSame}
use Rattle.form_check.specs.Arity.{count, last_of, takes_one, takes_two, declared_takes, function_takes, takes, call_fits, lifted_takes, lift_fits, is_wrong_call, is_wrong, wrong_in}

declared_still : (items : List tree.Item) (o : Option Declaration) → declared_takes items (option_map without_number o) ≡ declared_takes items o
declared_still items None = refl
declared_still items (Some (declaration.Local k)) = refl
declared_still items (Some d) = refl

function_still : (items : List tree.Item) (o : Option Declaration) → function_takes items (option_map without_number o) ≡ function_takes items o
function_still items None = refl
function_still items (Some (declaration.Local k)) = refl
function_still items (Some d) = refl

-- ---- scopes in which each name stands for the same have the same wrong calls
same_lifted : (items : List tree.Item) (s t : Scope) → Alike s t → (o : Option Expr) → lifted_takes items s o ≡ lifted_takes items t o
same_lifted items s t h (Some (tree.Name p n)) = alike_by (function_takes items) (function_still items) (meaning s n) (meaning t n) (h.at n)
same_lifted items s t h (Some e) = refl
same_lifted items s t h None = refl

same_call : (items : List tree.Item) (s t : Scope) → Alike s t → (n : List ℕ) (es : Exprs) → is_wrong_call items s n es ≡ is_wrong_call items t n es
same_call items s t h n es =
    ap (λ o. if is_lift n then not (lift_fits o (count es)) else not (call_fits (takes items s n) (count es))) (same_lifted items s t h (last_of es))
    ∙ ap (λ o. if is_lift n then not (lift_fits (lifted_takes items t (last_of es)) (count es)) else not (call_fits (if is_unit n then None else if takes_one n then Some 1 else if takes_two n then Some 2 else o) (count es))) (alike_by (declared_takes items) (declared_still items) (meaning s n) (meaning t n) (h.at n))

same_wrong : (items : List tree.Item) (s t : Scope) → Alike s t → (p : spec.Part) → is_wrong items s p ≡ is_wrong items t p
same_wrong items s t h (spec.Operand (tree.Call p n es)) = same_call items s t h n es
same_wrong items s t h (spec.Operand (tree.CallDotted p d es)) = refl
same_wrong items s t h (spec.Operand e) = refl
same_wrong items s t h (spec.Function e) = refl

pub wrong_same : (items : List tree.Item) → IsSame (wrong_in items)
wrong_same items s t h e = ap (map part_place) (filter_agree (is_wrong items s) (is_wrong items t) (same_wrong items s t h) (parts e))
