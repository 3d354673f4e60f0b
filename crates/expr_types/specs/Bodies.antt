-- What bodies are, what is asked of them, and what the declared names are.
use Rattle.std.specs.Prelude.{◌≡◌, ℕ, suc, ◌+◌, ◌==◌, Bool, true, false, ◌&&◌, if◌then◌else◌, List, [], ◌∷◌, ◌++◌, Option, Some, None, Ok}
use Rattle.std.specs.Prelude.{Err, slice_get}
use Rattle.std.specs.Option.{option_and_then}
use Rattle.std.specs.List.{list_all}
use Rattle.tsl_value.specs.Aggregate.{is_aggregate}
use Rattle.tsl_value.specs.declared.place.Place.{Place}
use Rattle.syntax_tree.specs.Tree as tree
use Rattle.syntax_tree.specs.Tree.{Expr, TypeName, place_of}
use Rattle.name_check.specs.Scope.{top, inside, in_block, is_events, are_values, count_in}
use Rattle.type_rules.specs.declared.rule.ExprType.{ExprType}
use Rattle.type_rules.specs.declared.rule.ExprType.TheVariants as expr_type
use Rattle.type_rules.specs.declared.rule.Setting.{Setting}
use Rattle.type_rules.specs.declared.rule.Setting.TheVariants as setting
use Rattle.type_rules.specs.Asked.{Check}
use Rattle.type_rules.specs.Rules.{body_rule}
use Rattle.type_rules.specs.Written.{as_written, as_stream}
use Rattle.expr_types.specs.declared.wrong.Wrong.{Wrong}
use Rattle.expr_types.specs.declared.wrong.Wrong.TheVariants as wrong
use Rattle.expr_types.specs.Around.{Around}
use Rattle.type_rules.specs.Kinds.{Kinds}
use Rattle.expr_types.specs.Judge.{type_of, wrongs}

-- ---- where the bodies stand
abbrev pub setting_of : List tree.Param → Setting
setting_of ps = if are_values ps then setting.Values else setting.Streams

-- in the definition of item i
abbrev pub in_definition : List tree.Item → Kinds → ℕ → List tree.Param → Around
in_definition items kinds i ps =
    record { items = items; kinds = kinds; scope = inside (top items) ps; setting = setting_of ps; number = i; params = ps }

-- in an output
abbrev pub at_top : List tree.Item → Kinds → ℕ → Around
at_top items kinds i = record { items = items; kinds = kinds; scope = top items; setting = setting.Streams; number = i; params = [] }

-- in the block of a macro
abbrev pub within_block : Around → tree.Definitions → Around
within_block at ds = record at { scope = in_block 0 at.scope ds }

-- braces may stand in a macro alone
abbrev pub may_have_braces : List tree.Param → Bool
may_have_braces [] = false
may_have_braces (p ∷ ps) = list_all (λ q. is_events q.of) (p ∷ ps)

-- what is written: of a definition without parameters a stream, of another just what stands there
abbrev pub written_of : List tree.Param → Option TypeName → Option ExprType
written_of [] w = option_and_then as_stream w
written_of (p ∷ ps) w = option_and_then as_written w

-- ---- what definitions are
abbrev pub fitting : Check → ExprType → Option ExprType
fitting (Ok u) t = Some t
fitting (Err clash) t = None

-- a body without a written type, if it is what is asked of it
abbrev pub expr_kind : Around → Expr → Option ExprType
expr_kind at e = option_and_then (λ t. fitting (body_rule at.setting None t) t) (type_of at e)

abbrev pub body_kind : Around → Bool → tree.Body → Option ExprType
body_kind at braces (tree.Plain e) = expr_kind at e
body_kind at true (tree.Block ds e) = expr_kind (within_block at ds) e
body_kind at false (tree.Block ds e) = None

abbrev pub definition_kind : Around → List tree.Param → Option TypeName → tree.Body → Option ExprType
definition_kind at ps (Some w) b = written_of ps (Some w)
definition_kind at ps None b = body_kind at (may_have_braces ps) b

-- The definition of number k in a block, the first definition of which has number i. Those in the body of a definition have the
-- numbers after its own, and are nothing: braces may not stand there.
abbrev pub local_from : Around → ℕ → ℕ → tree.Definitions → Option ExprType
local_from at k i tree.no_definitions = None
local_from at k i (tree.more_definitions (tree.Define q n ps w b) ds) =
    if i == k then definition_kind at [] w b else local_from at k (suc i + count_in b) ds

abbrev pub local_kind : Around → ℕ → tree.Definitions → Option ExprType
local_kind at k ds = local_from at k 0 ds

-- what an item is
abbrev pub item_kind : List tree.Item → Kinds → ℕ → Option tree.Item → Option ExprType
item_kind items kinds i (Some (tree.Input p q n y)) = as_stream y
item_kind items kinds i (Some (tree.Defined p (tree.Define q n ps w b))) = definition_kind (in_definition items kinds i ps) ps w b
item_kind items kinds i _ = None

-- a definition of the block of an item
abbrev pub block_kind : List tree.Item → Kinds → ℕ → ℕ → Option tree.Item → Option ExprType
block_kind items kinds i k (Some (tree.Defined p (tree.Define q n ps w (tree.Block ds e)))) =
    if may_have_braces ps then local_kind (within_block (in_definition items kinds i ps) ds) k ds else None
block_kind items kinds i k _ = None

-- The declared names are what their written types or their bodies say. Where no definition without a written type and no value
-- function lies on a cycle, they can be so in one way.
pub record AreKinds (items : List tree.Item) (kinds : Kinds) : Type 0 where
  pub items_are : (i : ℕ) → kinds.item i ≡ item_kind items kinds i (slice_get items i)
  pub locals_are : (i k : ℕ) → kinds.local i k ≡ block_kind items kinds i k (slice_get items i)

-- ---- what is wrong, in the order of the source
abbrev pub asked_wrong : Expr → Check → List Wrong
asked_wrong e (Ok u) = []
asked_wrong e (Err clash) = wrong.Part (place_of e) clash ∷ []

abbrev pub asked_of : Around → Option ExprType → Expr → Option ExprType → List Wrong
asked_of at written e None = []
asked_of at written e (Some t) = asked_wrong e (body_rule at.setting written t)

-- in the expression of a body, and then what is asked of it
abbrev pub expr_wrongs : Around → Option ExprType → Expr → List Wrong
expr_wrongs at written e = wrongs at e ++ asked_of at written e (type_of at e)

-- the refusal of braces comes whatever stands in them
abbrev pub braces_place : tree.Definitions → Expr → Place
braces_place tree.no_definitions e = place_of e
braces_place (tree.more_definitions (tree.Define q n ps w b) ds) e = q

abbrev pub plain_wrongs : Around → Option ExprType → tree.Body → List Wrong
plain_wrongs at written (tree.Plain e) = expr_wrongs at written e
plain_wrongs at written (tree.Block ds e) = wrong.Braces (braces_place ds e) written ∷ []

abbrev pub local_wrongs : Around → tree.Definitions → List Wrong
local_wrongs at tree.no_definitions = []
local_wrongs at (tree.more_definitions (tree.Define q n ps w b) ds) = plain_wrongs at (written_of [] w) b ++ local_wrongs at ds

abbrev pub macro_wrongs : Around → Option ExprType → tree.Body → List Wrong
macro_wrongs at written (tree.Plain e) = expr_wrongs at written e
macro_wrongs at written (tree.Block ds e) = local_wrongs (within_block at ds) ds ++ expr_wrongs (within_block at ds) written e

abbrev pub body_wrongs : Around → Bool → Option ExprType → tree.Body → List Wrong
body_wrongs at true written b = macro_wrongs at written b
body_wrongs at false written b = plain_wrongs at written b

abbrev pub item_wrongs : List tree.Item → Kinds → ℕ → tree.Item → List Wrong
item_wrongs items kinds i (tree.Input p q n y) = []
item_wrongs items kinds i (tree.Defined p (tree.Define q n ps w b)) =
    body_wrongs (in_definition items kinds i ps) (may_have_braces ps) (written_of ps w) b
item_wrongs items kinds i (tree.Output p q n) = expr_wrongs (at_top items kinds i) None (tree.Name q n)
item_wrongs items kinds i (tree.OutputAs p e q n) = expr_wrongs (at_top items kinds i) None e

abbrev pub wrongs_from : List tree.Item → Kinds → ℕ → List tree.Item → List Wrong
wrongs_from items kinds i [] = []
wrongs_from items kinds i (item ∷ rest) = item_wrongs items kinds i item ++ wrongs_from items kinds (suc i) rest

abbrev pub all_wrongs : List tree.Item → Kinds → List Wrong
all_wrongs items kinds = wrongs_from items kinds 0 items

-- ---- value functions whose results are aggregates or options of such
abbrev pub holds_aggregate : Option ExprType → Bool
holds_aggregate (Some (expr_type.Value t)) = is_aggregate t
holds_aggregate (Some (expr_type.Optional t)) = is_aggregate t
holds_aggregate _ = false

abbrev pub aggregate_results_from : Kinds → ℕ → List tree.Item → List Place
aggregate_results_from kinds i [] = []
aggregate_results_from kinds i (tree.Defined p (tree.Define q n ps w b) ∷ rest) =
    (if are_values ps && holds_aggregate (kinds.item i) then q ∷ [] else []) ++ aggregate_results_from kinds (suc i) rest
aggregate_results_from kinds i (item ∷ rest) = aggregate_results_from kinds (suc i) rest
