use Rattle.std.proofs.Common.{◌≡◌, ◌+◌, ◌≤◌, drop}
use Rattle.spec_lexer.specs.Pieces.{place_after}
use Rattle.spec_lexer.specs.Source.{start}
use Rattle.spec_lexer.proofs.characters.place_following.Given as goal

abbrev pub invariant-loop-character : goal.invariant-loop-character
invariant-loop-character l = record {
  lines : l.at.line ≤ l.character-index + 1;
  columns : l.at.column ≤ l.character-index + 1;
  so_far : place_after l.at (drop l.character-index l.characters) ≡ place_after start l.characters;
}
