-- The operation on an option, by what is found of its name among the language's own.
use Rattle.std.proofs.Common.{◌≡◌, ℕ, List, [], ◌∷◌, Option, sym, ap, ◌∙◌}
use Rattle.std.specs.Option.{option_map_or, option_and_then}
use Rattle.lift_func.specs.BodyTree.{BodyTree}
use Rattle.vocabulary.specs.declared.signature.Role.{Role}
use Rattle.vocabulary.specs.PlainTable.{plain_of, plain_role}
use Rattle.vocabulary.proofs.Plains.{said_of_plain}
use Rattle.spec_meaning.specs.Function.{no_tree, role_tree, option_tree}

pub option_found : (n : List ℕ) (a : BodyTree) (o : Option Role) → o ≡ option_and_then plain_role (plain_of n) → option_tree n a ≡ option_map_or (λ r. role_tree r (a ∷ [])) o no_tree
option_found n a o is = ap (λ (r : Option Role). option_map_or (λ r. role_tree r (a ∷ [])) r no_tree) (said_of_plain plain_role n ∙ sym is)
