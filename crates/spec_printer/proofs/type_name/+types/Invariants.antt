use Rattle.std.proofs.Common.{◌+◌, ◌*◌}
use Rattle.syntax_tree.specs.inner.OneLevel.{aggregate_in, type_of, size_of_type, size_of_aggregate}
use Rattle.spec_printer.specs.inner.Same.{nowhere}
use Rattle.spec_printer.proofs.type_name.+types.Given as goal

abbrev pub decreases-put_type : goal.decreases-put_type
decreases-put_type l = 4 * size_of_type l.of.now + 1

abbrev pub decreases-put_shape : goal.decreases-put_shape
decreases-put_shape l = 4 * size_of_type (type_of nowhere l.shape.now)

abbrev pub decreases-put_aggregate : goal.decreases-put_aggregate
decreases-put_aggregate l = 4 * size_of_aggregate (aggregate_in l.of.now)

abbrev pub decreases-put_one : goal.decreases-put_one
decreases-put_one l = 4 * size_of_type l.of.now + 3

abbrev pub decreases-put_bracketed : goal.decreases-put_bracketed
decreases-put_bracketed l = 4 * size_of_type l.of.now + 2

abbrev pub decreases-put_both : goal.decreases-put_both
decreases-put_both l = 4 * (size_of_type l.key.now + size_of_type l.value.now) + 3

abbrev pub decreases-put_second : goal.decreases-put_second
decreases-put_second l = 4 * size_of_type l.of.now + 2
