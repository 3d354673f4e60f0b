-- The names of the language that are called without a dot, on one page: how each is spelled, how many arguments it takes, and what it
-- is.
use Rattle.std.specs.Prelude.{ℕ, List, [], ◌∷◌, Option, Some, None, codes}
use Rattle.std.specs.List.{find, filter_map}
use Rattle.std.specs.Option.{option_map}
use Rattle.std.specs.Str.{bytes_eq}
use Rattle.tsl_value.specs.declared.operation.Unary.{Unary}
use Rattle.tsl_value.specs.declared.operation.Unary.TheVariants as unary
use Rattle.vocabulary.specs.declared.plain.Plain.{Plain}
use Rattle.vocabulary.specs.declared.plain.Plain.TheVariants as plain
use Rattle.vocabulary.specs.declared.signature.Role.{Role}
use Rattle.vocabulary.specs.declared.signature.Role.TheVariants as role

-- How it is spelled, how many arguments it takes where their number is fixed, and the operation of value functions that it is.
pub record PlainRow : Type 0 where
  pub spelled : List ℕ
  pub takes : Option ℕ
  pub is : Option Role

-- a construct of streams of so many arguments, and an operation on an option
abbrev stream : List ℕ → Option ℕ → PlainRow
stream n k = record { spelled = n; takes = k; is = None }

abbrev on_option : List ℕ → Unary → PlainRow
on_option n o = record { spelled = n; takes = Some 1; is = Some (role.Unary o) }

-- `lift` takes a stream for each parameter of its function
abbrev pub plain_table : Plain → PlainRow
plain_table plain.Time = stream (codes "time") (Some 1)
plain_table plain.Last = stream (codes "last") (Some 2)
plain_table plain.Delay = stream (codes "delay") (Some 2)
plain_table plain.Merge = stream (codes "merge") (Some 2)
plain_table plain.Default = stream (codes "default") (Some 2)
plain_table plain.Lift = stream (codes "lift") None
plain_table plain.Const = stream (codes "const") (Some 2)
plain_table plain.Filter = stream (codes "filter") (Some 2)
plain_table plain.IsSome = on_option (codes "isSome") unary.IsSome
plain_table plain.IsNone = on_option (codes "isNone") unary.IsNone
plain_table plain.GetSome = on_option (codes "getSome") unary.GetSome
plain_table plain.Some = on_option (codes "Some") unary.Some

-- all of them
abbrev pub plains : List Plain
plains =
    plain.Time ∷ plain.Last ∷ plain.Delay ∷ plain.Merge ∷ plain.Default ∷ plain.Lift ∷ plain.Const ∷ plain.Filter
    ∷ plain.IsSome ∷ plain.IsNone ∷ plain.GetSome ∷ plain.Some ∷ []

-- ---- the columns
abbrev pub spelling : Plain → List ℕ
spelling p = (plain_table p).spelled

abbrev pub plain_takes : Plain → Option ℕ
plain_takes p = (plain_table p).takes

abbrev pub plain_role : Plain → Option Role
plain_role p = (plain_table p).is

-- ---- the name that is spelled so
unfoldable pub plain_of : List ℕ → Option Plain
plain_of n = find (λ p. bytes_eq n (spelling p)) plains

-- ---- what is said of some of them, by their spelling
abbrev pub entries : {A : Type 0} → (Plain → Option A) → List (List ℕ × A)
entries said = filter_map (λ p. option_map (λ a. (spelling p, a)) (said p)) plains

abbrev pub look_up : {A : Type 0} → List (List ℕ × A) → List ℕ → Option A
look_up es n = option_map (λ e. e.1) (find (λ e. bytes_eq n e.0) es)
