-- Calls with another number of arguments than they take, and value functions of too many parameters: their places, in the order
-- of the source.
use Rattle.std.specs.Prelude.{ℕ, suc, Bool, false, not, ◌&&◌, nat_lt, nat_le, ◌==◌, if◌then◌else◌, List, [], ◌∷◌, ◌++◌, map, filter, length}
use Rattle.std.specs.Prelude.{slice_get, Option, Some, None}
use Rattle.std.specs.List.{list_any, flat_map}
use Rattle.std.specs.Option.{option_map_or}
use Rattle.std.specs.Str.{bytes_eq}
use Rattle.tsl_value.specs.declared.place.Place.{Place}
use Rattle.syntax_tree.specs.Tree as tree
use Rattle.syntax_tree.specs.Tree.{Expr, Exprs, no_exprs, more_exprs}
use Rattle.vocabulary.specs.Table.{takes_of}
use Rattle.vocabulary.specs.declared.plain.Plain.{Plain}
use Rattle.vocabulary.specs.PlainTable.{plains, spelling, plain_takes}
use Rattle.name_check.specs.declared.declaration.Declaration.{Declaration}
use Rattle.name_check.specs.declared.declaration.Declaration.TheVariants as declaration
use Rattle.name_check.specs.Builtin.{is_unit, is_lift}
use Rattle.name_check.specs.Scope.{Scope, meaning, are_values, top}
use Rattle.name_check.specs.Parts.{Part, Operand, Function, parts, part_place}
use Rattle.name_check.specs.Bodies.{Seen, item_bodies}

-- ---- arguments
abbrev pub count : Exprs → ℕ
count no_exprs = 0
count (more_exprs e es) = suc (count es)

abbrev pub last_of : Exprs → Option Expr
last_of no_exprs = None
last_of (more_exprs e no_exprs) = Some e
last_of (more_exprs e (more_exprs f es)) = last_of (more_exprs f es)

-- ---- names of the language, `lift` aside
abbrev pub takes_so_many : ℕ → Plain → Bool
takes_so_many k p = option_map_or (λ m. m == k) (plain_takes p) false

abbrev pub names_of_one : List (List ℕ)
names_of_one = map spelling (filter (takes_so_many 1) plains)

abbrev pub names_of_two : List (List ℕ)
names_of_two = map spelling (filter (takes_so_many 2) plains)

-- those that take one argument, and those that take two
unfoldable pub takes_one : List ℕ → Bool
takes_one n = list_any (bytes_eq n) names_of_one

unfoldable pub takes_two : List ℕ → Bool
takes_two n = list_any (bytes_eq n) names_of_two

-- ---- declared names
-- how many parameters the definition of an item has; another item has none
abbrev pub definition_params : tree.Definition → ℕ
definition_params (tree.Define q n ps w b) = length ps

abbrev pub item_params : Option tree.Item → ℕ
item_params (Some (tree.Defined p d)) = definition_params d
item_params _ = 0

abbrev pub params_at : List tree.Item → ℕ → ℕ
params_at items i = item_params (slice_get items i)

-- how many arguments a name takes that stands for this, if it may be called at all
abbrev pub declared_takes : List tree.Item → Option Declaration → Option ℕ
declared_takes items (Some (declaration.Macro i)) = Some (params_at items i)
declared_takes items (Some (declaration.Function i)) = Some (params_at items i)
declared_takes items (Some (declaration.Mixed i)) = Some (params_at items i)
declared_takes items _ = None

-- how many parameters a value function has; another name is none
abbrev pub function_takes : List tree.Item → Option Declaration → Option ℕ
function_takes items (Some (declaration.Function i)) = Some (params_at items i)
function_takes items _ = None

-- ---- calls
-- how many arguments a name other than `lift` takes, if it may be called at all: `unit` may not
abbrev pub takes : List tree.Item → Scope → List ℕ → Option ℕ
takes items scope n =
    if is_unit n then None
    else if takes_one n then Some 1
    else if takes_two n then Some 2
    else declared_takes items (meaning scope n)

-- a call has as many arguments as its name takes; what may not be called takes no number of them
abbrev pub call_fits : Option ℕ → ℕ → Bool
call_fits None k = false
call_fits (Some m) k = m == k

-- the parameters of the value function that a `lift` has as its last argument
abbrev pub lifted_takes : List tree.Item → Scope → Option Expr → Option ℕ
lifted_takes items scope (Some (tree.Name p n)) = function_takes items (meaning scope n)
lifted_takes items scope _ = None

-- one to eight streams and the function
abbrev pub lift_may_have : ℕ → Bool
lift_may_have k = nat_le 2 k && nat_le k 9

-- a stream for each parameter
abbrev pub lift_fits : Option ℕ → ℕ → Bool
lift_fits None k = lift_may_have k
lift_fits (Some m) k = lift_may_have k && (suc m == k)

abbrev pub is_wrong_lift : List tree.Item → Scope → Exprs → Bool
is_wrong_lift items scope es = not (lift_fits (lifted_takes items scope (last_of es)) (count es))

abbrev pub is_wrong_call : List tree.Item → Scope → List ℕ → Exprs → Bool
is_wrong_call items scope n es = if is_lift n then is_wrong_lift items scope es else not (call_fits (takes items scope n) (count es))

-- a call with another number of arguments than it takes
abbrev pub is_wrong : List tree.Item → Scope → Part → Bool
is_wrong items scope (Operand (tree.Call p n es)) = is_wrong_call items scope n es
is_wrong items scope (Operand (tree.CallDotted p d es)) = not (takes_of d == count es)
is_wrong items scope (Operand e) = false
is_wrong items scope (Function e) = false

abbrev pub wrong_in : List tree.Item → Seen → List Place
wrong_in items s = map part_place (filter (is_wrong items s.scope) (parts s.expr))

-- ---- value functions of more than eight parameters, with options or without; a macro may have more
abbrev pub too_many_in_definition : tree.Definition → List Place
too_many_in_definition (tree.Define q n ps w b) = if are_values ps && nat_lt 8 (length ps) then q ∷ [] else []

abbrev pub too_many_in_item : tree.Item → List Place
too_many_in_item (tree.Defined p d) = too_many_in_definition d
too_many_in_item _ = []

-- ---- all of them, each name of a function before the calls in its body; these names are seen at the top
abbrev pub wrong_in_item : List tree.Item → Scope → tree.Item → List Place
wrong_in_item items names i = too_many_in_item i ++ flat_map (wrong_in items) (item_bodies names i)

abbrev pub wrong_where : Scope → List tree.Item → List Place
wrong_where names items = flat_map (wrong_in_item items names) items

-- the same of a specification by itself, where what it declares is seen at the top
abbrev pub wrong_arities : List tree.Item → List Place
wrong_arities items = wrong_where (top items) items
