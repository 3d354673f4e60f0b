-- How many arguments the language's own names take.
use Rattle.std.proofs.Common.{◌≡◌, ℕ, Bool, false, if◌then◌else◌, List, Option, Some, None, refl, sym, ap, ◌∙◌}
use Rattle.std.specs.Option.{option_map_or, option_and_then, option_or}
use Rattle.vocabulary.specs.declared.plain.Plain.{Plain}
use Rattle.vocabulary.specs.declared.plain.Plain.TheVariants as plain
use Rattle.vocabulary.specs.PlainTable.{plain_of, plain_takes}
use Rattle.vocabulary.proofs.Plains.{passing_plain}
use Rattle.syntax_tree.specs.Tree as tree
use Rattle.name_check.specs.Builtin.{is_unit}
use Rattle.name_check.specs.Scope.{Scope, meaning}
use Rattle.form_check.specs.Arity.{takes_so_many, takes_one, takes_two, declared_takes, takes}

by_row : (o : Option Plain) (d : Option ℕ) → (if option_map_or (takes_so_many 1) o false then Some 1 else if option_map_or (takes_so_many 2) o false then Some 2 else d) ≡ option_or (option_and_then plain_takes o) d
by_row None d = refl
by_row (Some plain.Time) d = refl
by_row (Some plain.Last) d = refl
by_row (Some plain.Delay) d = refl
by_row (Some plain.Merge) d = refl
by_row (Some plain.Default) d = refl
by_row (Some plain.Lift) d = refl
by_row (Some plain.Const) d = refl
by_row (Some plain.Filter) d = refl
by_row (Some plain.IsSome) d = refl
by_row (Some plain.IsNone) d = refl
by_row (Some plain.GetSome) d = refl
by_row (Some plain.Some) d = refl

takes_by_table : (n : List ℕ) (d : Option ℕ) → (if takes_one n then Some 1 else if takes_two n then Some 2 else d) ≡ option_or (option_and_then plain_takes (plain_of n)) d
unfolding takes_one takes_two
takes_by_table n d =
    (λ i. if passing_plain (takes_so_many 1) n i then Some 1 else if passing_plain (takes_so_many 2) n i then Some 2 else d)
    ∙ by_row (plain_of n) d

pub takes_found : (items : List tree.Item) (scope : Scope) (n : List ℕ) (o : Option ℕ) → false ≡ is_unit n → o ≡ option_and_then plain_takes (plain_of n) → option_or o (declared_takes items (meaning scope n)) ≡ takes items scope n
takes_found items scope n o other is =
    let d = declared_takes items (meaning scope n) in
    ap (λ (x : Option ℕ). option_or x d) is ∙ sym (takes_by_table n d)
    ∙ ap (λ (b : Bool). if b then None else if takes_one n then Some 1 else if takes_two n then Some 2 else d) other
