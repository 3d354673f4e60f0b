-- The definitions of a block, of which some are counted.
use Rattle.std.proofs.Common.{◌≡◌, ℕ, suc, ◌+◌, ◌<◌, List, length, get_or, drop, refl, ap, ◌∙◌, sym}
use Rattle.syntax_tree.specs.Tree as tree
use Rattle.syntax_tree.specs.inner.OneLevel.{definitions_of}
use Rattle.syntax_tree.specs.Counts.{count_in, counts}
use Rattle.name_check.specs.inner.Steps.{local_body}
use Rattle.tsl_value.proofs.Lists.{left_at}

counts-cons : (d : tree.Definition) (ds : tree.Definitions) → counts (tree.more_definitions d ds) ≡ suc (count_in (local_body d) + counts ds)
counts-cons (tree.Define q n ps w b) ds = refl

-- the next one, and those after it
pub next_counted : (ds : List tree.Definition) (i : ℕ) (d e : tree.Definition) → i < length ds → d ≡ get_or ds i d → e ≡ d → counts (definitions_of (drop i ds)) ≡ suc (count_in (local_body e) + counts (definitions_of (drop (i + 1) ds)))
next_counted ds i d e h is same =
    ap (λ l. counts (definitions_of l)) (left_at ds i d h is)
    ∙ counts-cons d (definitions_of (drop (i + 1) ds))
    ∙ ap (λ x. suc (count_in (local_body x) + counts (definitions_of (drop (i + 1) ds)))) (sym same)
