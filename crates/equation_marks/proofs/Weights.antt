-- How large bodies are, together: a call of a macro goes on in one of them, and calls nest no deeper than is said.
use Rattle.std.proofs.Common.{◌≡◌, ℕ, zero, suc, ◌+◌, ◌-◌, ◌*◌, ◌<◌, ◌≤◌, ◌≢◌, List, [], ◌∷◌, length, get_or, Option, Some, None, refl, ap, arith}
use Rattle.std.specs.Prelude.{slice_get}
use Rattle.syntax_tree.specs.Tree as tree
use Rattle.syntax_tree.specs.Tree.{Expr}
use Rattle.syntax_tree.specs.inner.OneLevel.{size_of, definitions_of}
use Rattle.name_check.specs.inner.Steps.{local_body}
use Rattle.spec_meaning.specs.Occurrence.{result_of, block_of, body_of}

-- ---- what is counted of bodies: the results of their blocks, and their own
abbrev pub block_weight : tree.Definitions → ℕ
block_weight tree.no_definitions = 0
block_weight (tree.more_definitions (tree.Define q x ps w b) ds) = size_of (result_of b) + block_weight ds

abbrev pub body_weight : tree.Body → ℕ
body_weight b = block_weight (block_of (Some b)) + size_of (result_of b)

abbrev pub option_weight : Option tree.Body → ℕ
option_weight None = 0
option_weight (Some b) = body_weight b

abbrev pub items_weight : List tree.Item → ℕ
items_weight [] = 0
items_weight (i ∷ items) = option_weight (body_of (Some i)) + items_weight items

weight_within : (items : List tree.Item) (i : ℕ) → option_weight (body_of (slice_get items i)) ≤ items_weight items
weight_within [] i = omega arith
weight_within (x ∷ items) zero = omega arith
weight_within (x ∷ items) (suc i) = omega (arith, weight_within items i)

pub body_within : (items : List tree.Item) (i : ℕ) (b : tree.Body) → body_of (slice_get items i) ≡ Some b → body_weight b ≤ items_weight items
body_within items i b is = omega (arith, weight_within items i, ap option_weight is)

definition_within : (ds : List tree.Definition) (i : ℕ) (d : tree.Definition) → i < length ds → size_of (result_of (local_body (get_or ds i d))) ≤ block_weight (definitions_of ds)
definition_within [] i d h = absurd (omega arith)
definition_within (tree.Define q x ps w b ∷ ds) zero d h = omega arith
definition_within (tree.Define q x ps w b ∷ ds) (suc i) d h = omega (arith, definition_within ds i d (omega arith))

pub definition_lighter : (ds : List tree.Definition) (i : ℕ) (d : tree.Definition) → i < length ds → d ≡ get_or ds i d → size_of (result_of (local_body d)) ≤ block_weight (definitions_of ds)
definition_lighter ds i d h is =
    let same = ap (λ (x : tree.Definition). size_of (result_of (local_body x))) is in omega (arith, same, definition_within ds i d h)

-- one call less
pub one_call : (deep all weight : ℕ) → weight ≤ all → deep ≢ 0 → (deep - 1) * (16 * all) + 16 * weight + 4 < deep * (16 * all) + 15
one_call zero all weight h some = absurd (some refl)
one_call (suc deep) all weight h some = let one : suc deep - 1 ≡ deep = omega arith in omega (arith, ap (λ d. d * (16 * all)) one)
