use Rattle.std.proofs.Common.{◌≡◌, length}
use Rattle.token_reader.specs.inner.Reader.{many, with_list}
use Rattle.spec_parser.specs.inner.Reading.{type_in, other_params_of}
use Rattle.syntax_tree.specs.inner.Joins.{join_params}
use Rattle.spec_parser.proofs.definition.more_params.Given as goal

abbrev pub invariant-params : goal.invariant-params
invariant-params l = with_list (join_params l.all.items) (many (other_params_of (type_in l.room)) l.rest) ≡ with_list (join_params l.initial.all.items) (many (other_params_of (type_in l.room)) l.tokens)

abbrev pub decreases-params : goal.decreases-params
decreases-params l = length l.rest
