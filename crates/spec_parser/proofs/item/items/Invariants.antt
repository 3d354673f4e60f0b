use Rattle.std.proofs.Common.{◌≡◌, length}
use Rattle.token_reader.specs.inner.Reader.{many, with_list}
use Rattle.spec_parser.specs.inner.Reading.{items_at}
use Rattle.spec_parser.proofs.ItemLoops.{join_items}
use Rattle.spec_parser.proofs.item.items.Given as goal

abbrev pub invariant-items : goal.invariant-items
invariant-items l = with_list (join_items l.items.items) (many (items_at l.room) l.rest) ≡ many (items_at l.room) l.tokens

abbrev pub decreases-items : goal.decreases-items
decreases-items l = length l.rest
