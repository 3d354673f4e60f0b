use Rattle.std.proofs.Common.{◌≡◌, ◌+◌, ◌≤◌, [], false, length}
use Rattle.spec_lexer.specs.Found.{text_found}
use Rattle.spec_lexer.proofs.quoted.text_at.Given as goal

abbrev pub invariant-loop-c : goal.invariant-loop-c
invariant-loop-c l = record {
  read : l.count + length l.rest ≤ length l.after + 1;
  so_far : text_found l.at l.count l.text false l.rest ≡ text_found l.at 1 [] false l.after;
}

abbrev pub decreases-loop-c : goal.decreases-loop-c
decreases-loop-c l = length l.rest
