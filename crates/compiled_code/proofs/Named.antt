-- The names of a compiled system are names of the language.
use Rattle.std.proofs.Common.{◌≡◌, ℕ, List, Some, sym, subst}
use Rattle.std.specs.List.{AllByRecursion}
use Rattle.tsl_value.proofs.Lists.{all_by_place}
use Rattle.flat_core.specs.declared.equation.Equation.{Equation}
use Rattle.flat_core.specs.Renumbered.{with_new_args, with_new_equation}
use Rattle.flat_core.specs.System.{System}
use Rattle.flat_core.proofs.Members.{all_map}
use Rattle.syntax_tree.specs.Tree as tree
use Rattle.source_rules.specs.Source.{SpellsSystem}
use Rattle.compiled_code.specs.Held.{IsShortName}
use Rattle.compiled_code.specs.Laws.{CompiledHasShortNames}
use Rattle.compiled_code.proofs.Tokens.{tokens_named}
use Rattle.compiled_code.proofs.ItemNames.{NamedItem, items_named}
use Rattle.compiled_code.proofs.MadeNames.{flat_named}

abbrev NamedEquation : Equation → Type 0
NamedEquation e = (n : List ℕ) → e.name ≡ Some n → IsShortName n

spelled_named : (source : List ℕ) (items : List tree.Item) (s : System) → SpellsSystem source items s
    → AllByRecursion NamedEquation s.equations × AllByRecursion (λ o. IsShortName o.name) s.outputs
spelled_named source items s spells =
    let is = spells.system.specifies.typed.spelled in
    let good : AllByRecursion (NamedItem IsShortName) items = items_named IsShortName is.spells (tokens_named is.tokens) in
    flat_named items spells.system.kinds s.equations s.outputs IsShortName good spells.system.is_flat_of

pub compiled_has_short_names : CompiledHasShortNames
compiled_has_short_names source items u compiled =
    let s : System = compiled.flat in
    let replaced : List ℕ = compiled.simplified.replaced in
    let made = compiled.simplified.renumbered in
    let flat = spelled_named source items s compiled.spells in
    let all : AllByRecursion NamedEquation u.equations = subst (AllByRecursion NamedEquation) (sym made.equations_are) (all_map (with_new_args replaced) NamedEquation s.equations flat.0) in
    record {
      equations = λ i e name is named. all_by_place NamedEquation u.equations all i e is name named;
      outputs = subst (AllByRecursion (λ o. IsShortName o.name)) (sym made.outputs_are) (all_map (with_new_equation replaced) (λ o. IsShortName o.name) s.outputs flat.1);
    }
