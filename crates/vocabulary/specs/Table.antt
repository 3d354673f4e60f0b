-- The functions of the language whose names have a dot, on one page: how each is spelled, what it takes and gives, and what it is.
use Rattle.std.specs.Prelude.{◌≡◌, ℕ, Bool, true, false, ◌&&◌, if◌then◌else◌, List, [], ◌∷◌, Option, Some, None, codes, refl}
use Rattle.std.specs.List.{find}
use Rattle.std.specs.Option.{option_map}
use Rattle.std.specs.Str.{bytes_eq}
use Rattle.tsl_value.specs.declared.scalar.ScalarType.TheVariants as scalar_type
use Rattle.tsl_value.specs.declared.operation.Unary.TheVariants as unary
use Rattle.tsl_value.specs.declared.operation.Binary.TheVariants as binary
use Rattle.vocabulary.specs.declared.kind.Kind.TheVariants as kind
use Rattle.vocabulary.specs.Kinds.{kind_name, kind_named, is_kind}
use Rattle.vocabulary.specs.declared.dotted.Family.{Family}
use Rattle.vocabulary.specs.declared.dotted.Family.TheVariants as family
use Rattle.vocabulary.specs.declared.dotted.Dotted.{Dotted}
use Rattle.vocabulary.specs.declared.dotted.Dotted.TheVariants as dotted
use Rattle.vocabulary.specs.declared.signature.Term.{Term}
use Rattle.vocabulary.specs.declared.signature.Term.TheVariants as term
use Rattle.vocabulary.specs.declared.signature.Parameters.{Parameters}
use Rattle.vocabulary.specs.declared.signature.Parameters.TheVariants as parameters
use Rattle.tsl_value.specs.declared.operation.Update.TheVariants as update
use Rattle.vocabulary.specs.declared.signature.Role.{Role}
use Rattle.vocabulary.specs.declared.signature.Role.TheVariants as role

-- what stands before a dot
abbrev pub family_name : Family → List ℕ
family_name (family.Of g) = kind_name g
family_name family.Text = codes "String"

abbrev pub family_of : List ℕ → Option Family
family_of n = if bytes_eq n (codes "String") then Some family.Text else option_map family.Of (kind_named n)

-- What stands before the dot and after it, what the function takes and gives, and what it is. Its first argument fixes the types of
-- keys and of entries.
pub record Row : Type 0 where
  pub before : Family
  pub after : List ℕ
  pub takes : Parameters
  pub gives : Term
  pub is : Role

abbrev row : Family → List ℕ → Parameters → Term → Role → Row
row f n ps t r = record { before = f; after = n; takes = ps; gives = t; is = r }

abbrev set : Term
set = term.Of kind.Set

abbrev map : Term
map = term.Of kind.Map

abbrev queue : Term
queue = term.Of kind.Queue

abbrev int : Term
int = term.Scalar scalar_type.Int

abbrev bool : Term
bool = term.Scalar scalar_type.Bool

abbrev text : Term
text = term.Scalar scalar_type.Text

abbrev pub table : Dotted → Row
table dotted.SetAdd = row (family.Of kind.Set) (codes "add") (parameters.Two set term.Key) set (role.Update update.SetAdd)
table dotted.SetRemove = row (family.Of kind.Set) (codes "remove") (parameters.Two set term.Key) set (role.Update update.SetRemove)
table dotted.SetContains = row (family.Of kind.Set) (codes "contains") (parameters.Two set term.Key) bool (role.Binary binary.Contains)
table dotted.SetSize = row (family.Of kind.Set) (codes "size") (parameters.One set) int (role.Unary unary.Size)
table dotted.MapAdd = row (family.Of kind.Map) (codes "add") (parameters.Three map term.Key term.Entry) map (role.Update update.MapAdd)
table dotted.MapRemove = row (family.Of kind.Map) (codes "remove") (parameters.Two map term.Key) map (role.Update update.MapRemove)
table dotted.MapContains = row (family.Of kind.Map) (codes "contains") (parameters.Two map term.Key) bool (role.Binary binary.Contains)
table dotted.MapGet = row (family.Of kind.Map) (codes "get") (parameters.Two map term.Key) term.Entry (role.Binary binary.Get)
table dotted.MapSize = row (family.Of kind.Map) (codes "size") (parameters.One map) int (role.Unary unary.Size)
table dotted.QueueEnqueue = row (family.Of kind.Queue) (codes "enqueue") (parameters.Two queue term.Entry) queue (role.Update update.QueueAdd)
table dotted.QueueDequeue = row (family.Of kind.Queue) (codes "dequeue") (parameters.One queue) queue (role.Update update.QueueTake)
table dotted.QueueFront = row (family.Of kind.Queue) (codes "front") (parameters.One queue) term.Entry (role.Unary unary.Front)
table dotted.QueueSize = row (family.Of kind.Queue) (codes "size") (parameters.One queue) int (role.Unary unary.Size)
table dotted.StringConcat = row family.Text (codes "concat") (parameters.Two text text) text (role.Binary binary.Concat)
table dotted.StringSize = row family.Text (codes "size") (parameters.One text) int (role.Unary unary.Length)

-- all of them
abbrev pub every : List Dotted
every =
    dotted.SetAdd ∷ dotted.SetRemove ∷ dotted.SetContains ∷ dotted.SetSize
    ∷ dotted.MapAdd ∷ dotted.MapRemove ∷ dotted.MapContains ∷ dotted.MapGet ∷ dotted.MapSize
    ∷ dotted.QueueEnqueue ∷ dotted.QueueDequeue ∷ dotted.QueueFront ∷ dotted.QueueSize
    ∷ dotted.StringConcat ∷ dotted.StringSize ∷ []

-- ---- the columns
abbrev pub family_in : Dotted → Family
family_in d = (table d).before

abbrev pub member_name : Dotted → List ℕ
member_name d = (table d).after

abbrev pub parameters_of : Dotted → Parameters
parameters_of d = (table d).takes

abbrev pub gives_of : Dotted → Term
gives_of d = (table d).gives

abbrev pub role_of : Dotted → Role
role_of d = (table d).is

-- how many arguments it takes
abbrev pub how_many : Parameters → ℕ
how_many (parameters.One a) = 1
how_many (parameters.Two a b) = 2
how_many (parameters.Three a b c) = 3

abbrev pub takes_of : Dotted → ℕ
takes_of d = how_many (parameters_of d)

-- ---- the function of these two names
abbrev pub is_family : Family → Family → Bool
is_family (family.Of g) (family.Of h) = is_kind g h
is_family family.Text family.Text = true
is_family f g = false

unfoldable pub dotted_of : Family → List ℕ → Option Dotted
dotted_of f n = find (λ d. is_family (family_in d) f && bytes_eq n (member_name d)) every

pub dotted_again : (d : Dotted) → dotted_of (family_in d) (member_name d) ≡ Some d
unfolding dotted_of
dotted_again dotted.SetAdd = refl
dotted_again dotted.SetRemove = refl
dotted_again dotted.SetContains = refl
dotted_again dotted.SetSize = refl
dotted_again dotted.MapAdd = refl
dotted_again dotted.MapRemove = refl
dotted_again dotted.MapContains = refl
dotted_again dotted.MapGet = refl
dotted_again dotted.MapSize = refl
dotted_again dotted.QueueEnqueue = refl
dotted_again dotted.QueueDequeue = refl
dotted_again dotted.QueueFront = refl
dotted_again dotted.QueueSize = refl
dotted_again dotted.StringConcat = refl
dotted_again dotted.StringSize = refl
