-- The blocks of macros: what is seen in them, and their definitions by their numbers.
use Rattle.std.specs.Prelude.{◌≡◌, ℕ, true, false, List, [], ◌∷◌, ◌++◌, map, replicate, Option, Some, None, slice_get, Box}
use Rattle.std.specs.Global.{Global}
use Rattle.std.specs.Borrow.{Bor}
use Rattle.std.specs.Option.{option_and_then, option_map}
use Rattle.syntax_tree.specs.Tree as tree
use Rattle.syntax_tree.specs.inner.OneLevel.{params_in}
use Rattle.name_check.specs.Scope.{top, count_in, parameters_from, locals_from, Agree}
use Rattle.type_rules.specs.declared.rule.ExprType.{ExprType}
use Rattle.type_rules.specs.declared.rule.Setting.TheVariants as setting
use Rattle.expr_types.specs.declared.block.Block.{Block}
use Rattle.expr_types.specs.declared.block.Blocks.{Blocks}
use Rattle.expr_types.specs.Around.{Around}
use Rattle.type_rules.specs.Kinds.{Kinds}
use Rattle.expr_types.specs.Bodies.{may_have_braces}
use Rattle.expr_types.specs.inner.BodySteps.{kind_of_local}

-- The definitions of a block by their numbers. Those in the body of a definition have the numbers after its own, where none stands.
abbrev pub numbered : tree.Definitions → List (Option tree.Definition)
numbered tree.no_definitions = []
numbered (tree.more_definitions (tree.Define q n ps w b) ds) = Some (tree.Define q n ps w b) ∷ (replicate (count_in b) None ++ numbered ds)

-- definitions as the code has them, and the one of a number
abbrev pub definition_in : Option (Bor tree.Definition) → Option tree.Definition
definition_in d = option_map (λ (x : Bor tree.Definition). x.now) d

abbrev pub definitions_in : List (Option (Bor tree.Definition)) → List (Option tree.Definition)
definitions_in ds = map definition_in ds

abbrev pub definition_at : List (Option (Bor tree.Definition)) → ℕ → Option tree.Definition
definition_at ds k = option_and_then definition_in (slice_get ds k)

-- ---- the block of a macro of these parameters, which has these definitions
pub record IsBlock (block : Block) (ps : List tree.Param) (ds : tree.Definitions) : Type 0 where
  pub params : params_in block.params.now ≡ ps
  pub around : Agree block.around (parameters_from 0 ps)
  pub inside : Agree block.inside (locals_from 0 ds)
  pub definitions : definitions_in block.definitions.items ≡ numbered ds

-- braces that may not stand at these parameters are no block
abbrev pub IsBlockOf : Option (Box Block Global) → List tree.Param → tree.Definitions → Type 0
IsBlockOf None ps ds = may_have_braces ps ≡ false
IsBlockOf (Some block) ps ds = (may_have_braces ps ≡ true) × IsBlock block.value ps ds

abbrev pub IsBlockIn : Option (Box Block Global) → tree.Definition → Type 0
IsBlockIn block (tree.Define q n ps w (tree.Plain e)) = block ≡ None
IsBlockIn block (tree.Define q n ps w (tree.Block ds e)) = IsBlockOf block ps ds

abbrev pub IsBlockAt : Option (Box Block Global) → tree.Item → Type 0
IsBlockAt block (tree.Defined p d) = IsBlockIn block d
IsBlockAt block item = block ≡ None

-- each item has its block, if it is a macro that has one
abbrev pub AreAt : List (Option (Box Block Global)) → List tree.Item → Type 0
AreAt [] [] = Unit {0}
AreAt [] (item ∷ items) = ⊥
AreAt (block ∷ blocks) [] = ⊥
AreAt (block ∷ blocks) (item ∷ items) = IsBlockAt block item × AreAt blocks items

abbrev pub AreBlocks : Blocks → List tree.Item → Type 0
AreBlocks blocks items = AreAt blocks.blocks.items items

-- the block of an item's number
abbrev pub block_at : List (Option (Box Block Global)) → ℕ → Option Block
block_at blocks i = option_and_then (λ block. option_map (λ (b : Box Block Global). b.value) block) (slice_get blocks i)

-- ---- where the definitions of the block of item i stand, and what the one of number k is
abbrev pub around_block : List tree.Item → Kinds → ℕ → Block → Around
around_block items kinds i block = record {
  items = items;
  kinds = kinds;
  scope = block.inside ++ (block.around ++ (top items ++ []));
  setting = setting.Streams;
  number = i;
  params = params_in block.params.now;
}

abbrev pub kind_within : List tree.Item → Kinds → ℕ → ℕ → Block → Option ExprType
kind_within items kinds i k block =
    option_and_then (kind_of_local (around_block items kinds i block)) (definition_at block.definitions.items k)
