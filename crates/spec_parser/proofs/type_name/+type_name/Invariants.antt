use Rattle.std.proofs.Common.{◌+◌, ◌*◌}
use Rattle.spec_parser.proofs.type_name.+type_name.Given as goal

abbrev pub decreases-type_in_room : goal.decreases-type_in_room
decreases-type_in_room l = 8 * l.room

abbrev pub decreases-any_type : goal.decreases-any_type
decreases-any_type l = 8 * l.room + 6

abbrev pub decreases-after_word : goal.decreases-after_word
decreases-after_word l = 8 * l.room + 5

abbrev pub decreases-with_one : goal.decreases-with_one
decreases-with_one l = 8 * l.room + 3

abbrev pub decreases-one_inside : goal.decreases-one_inside
decreases-one_inside l = 8 * l.room + 2

abbrev pub decreases-aggregate : goal.decreases-aggregate
decreases-aggregate l = 8 * l.room + 4

abbrev pub decreases-aggregate_inside : goal.decreases-aggregate_inside
decreases-aggregate_inside l = 8 * l.room + 3

abbrev pub decreases-set_of : goal.decreases-set_of
decreases-set_of l = 8 * l.room + 2

abbrev pub decreases-queue_of : goal.decreases-queue_of
decreases-queue_of l = 8 * l.room + 2

abbrev pub decreases-map_of : goal.decreases-map_of
decreases-map_of l = 8 * l.room + 2

abbrev pub decreases-map_after_key : goal.decreases-map_after_key
decreases-map_after_key l = 8 * l.room + 1
