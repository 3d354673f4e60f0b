use Rattle.std.proofs.Common.{map}
use Rattle.syntax_tree.specs.inner.OneLevel.{item_of, items_of}
use Rattle.spec_parser.specs.declared.parse.ParseFault.TheVariants as fault
use Rattle.spec_parser.proofs.Items.{one_tree}
use Rattle.spec_parser.proofs.AnswerLaws.{tree_or_unexpected, tree_or_too_deep}
use Rattle.spec_parser.proofs.ExactLaws.{no_tree, that_unexpected, that_too_deep}
use Rattle.spec_parser.proofs.ParseLaws.{tree_is, size_is, unexpected_is, too_deep_shorter, too_deep_is}
use Rattle.spec_parser.proofs.parse.parse.Goals as goal
use Rattle.spec_parser.specs.declared.limits.TheConstants.{MOST_LEVELS}

pub place_before-place-requires : goal.place_before-place-requires
place_before-place-requires c = too_deep_shorter MOST_LEVELS c.as_slice-all.result.now c.in-Err-TooDeep.rest.now (rw c.in-Err-TooDeep.field-0-is at c.in-Err-TooDeep.ensures)

pub returns-in-Ok-clause-tree : goal.returns-in-Ok-clause-tree
returns-in-Ok-clause-tree c = rw c.new.ensures (tree_is MOST_LEVELS c.args.tokens.now.tokens (map item_of c.in-Ok.items.items) (rw c.as_slice-all.ensures at c.in-Ok.ensures))

pub returns-in-Ok-clause-size : goal.returns-in-Ok-clause-size
returns-in-Ok-clause-size c = rw c.new.ensures (size_is MOST_LEVELS c.args.tokens.now.tokens (map item_of c.in-Ok.items.items) (rw c.as_slice-all.ensures at c.in-Ok.ensures))

pub returns-in-Err-Unexpected-clause-fault : goal.returns-in-Err-Unexpected-clause-fault
returns-in-Err-Unexpected-clause-fault c =
    let h = rw c.in-Err-Unexpected.field-0-is at c.in-Err-Unexpected.ensures in
    unexpected_is c.args.tokens.now.tokens c.in-Err-Unexpected.rest.now c.place_of-place.result c.args.tokens.now.end (rw c.as_slice-all.ensures at h) (rw c.end-in-Err-Unexpected.ensures at c.place_of-place.ensures)

pub returns-in-Err-TooDeep-clause-fault : goal.returns-in-Err-TooDeep-clause-fault
returns-in-Err-TooDeep-clause-fault c =
    let h = rw c.in-Err-TooDeep.field-0-is at c.in-Err-TooDeep.ensures in
    too_deep_is c.args.tokens.now.tokens c.in-Err-TooDeep.rest.now c.place_before-place.result c.args.tokens.now.end (rw c.as_slice-all.ensures at h) (λ t. rw c.as_slice-all.ensures at (c.place_before-place.ensures t))

pub returns-in-Ok-clause-tree_exactly : goal.returns-in-Ok-clause-tree_exactly
returns-in-Ok-clause-tree_exactly c = λ items s. one_tree MOST_LEVELS c.args.tokens.now.tokens (items_of c.new.result) items (returns-in-Ok-clause-tree c) s

pub returns-in-Ok-clause-unexpected_exactly : goal.returns-in-Ok-clause-unexpected_exactly
returns-in-Ok-clause-unexpected_exactly c = λ front rest u. tree_or_unexpected MOST_LEVELS c.args.tokens.now.tokens (items_of c.new.result) front rest (returns-in-Ok-clause-tree c) u

pub returns-in-Ok-clause-too_deep_exactly : goal.returns-in-Ok-clause-too_deep_exactly
returns-in-Ok-clause-too_deep_exactly c = λ front t rest d. tree_or_too_deep MOST_LEVELS c.args.tokens.now.tokens (items_of c.new.result) front t rest (returns-in-Ok-clause-tree c) d

pub returns-in-Err-Unexpected-clause-tree_exactly : goal.returns-in-Err-Unexpected-clause-tree_exactly
returns-in-Err-Unexpected-clause-tree_exactly c = λ items s. no_tree c.args.tokens.now.tokens c.args.tokens.now.end (fault.Unexpected c.place_of-place.result) (returns-in-Err-Unexpected-clause-fault c) items s

pub returns-in-Err-Unexpected-clause-unexpected_exactly : goal.returns-in-Err-Unexpected-clause-unexpected_exactly
returns-in-Err-Unexpected-clause-unexpected_exactly c = λ front rest u. that_unexpected c.args.tokens.now.tokens c.args.tokens.now.end (fault.Unexpected c.place_of-place.result) (returns-in-Err-Unexpected-clause-fault c) front rest u

pub returns-in-Err-Unexpected-clause-too_deep_exactly : goal.returns-in-Err-Unexpected-clause-too_deep_exactly
returns-in-Err-Unexpected-clause-too_deep_exactly c = λ front t rest d. that_too_deep c.args.tokens.now.tokens c.args.tokens.now.end (fault.Unexpected c.place_of-place.result) (returns-in-Err-Unexpected-clause-fault c) front t rest d

pub returns-in-Err-TooDeep-clause-tree_exactly : goal.returns-in-Err-TooDeep-clause-tree_exactly
returns-in-Err-TooDeep-clause-tree_exactly c = λ items s. no_tree c.args.tokens.now.tokens c.args.tokens.now.end (fault.TooDeep c.place_before-place.result) (returns-in-Err-TooDeep-clause-fault c) items s

pub returns-in-Err-TooDeep-clause-unexpected_exactly : goal.returns-in-Err-TooDeep-clause-unexpected_exactly
returns-in-Err-TooDeep-clause-unexpected_exactly c = λ front rest u. that_unexpected c.args.tokens.now.tokens c.args.tokens.now.end (fault.TooDeep c.place_before-place.result) (returns-in-Err-TooDeep-clause-fault c) front rest u

pub returns-in-Err-TooDeep-clause-too_deep_exactly : goal.returns-in-Err-TooDeep-clause-too_deep_exactly
returns-in-Err-TooDeep-clause-too_deep_exactly c = λ front t rest d. that_too_deep c.args.tokens.now.tokens c.args.tokens.now.end (fault.TooDeep c.place_before-place.result) (returns-in-Err-TooDeep-clause-fault c) front t rest d
