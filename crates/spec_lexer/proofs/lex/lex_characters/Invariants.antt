use Rattle.std.proofs.Common.{◌≡◌, ◌+◌, ◌≤◌, ◌^◌, List, ◌++◌, length}
use Rattle.spec_lexer.specs.declared.token.Token.{Token}
use Rattle.spec_lexer.specs.declared.fault.LexFault.{LexFault}
use Rattle.spec_lexer.specs.Pieces.{place_after}
use Rattle.spec_lexer.specs.Source.{Lexes, Fails, start}
use Rattle.spec_lexer.proofs.lex.lex_characters.Given as goal

abbrev pub invariant-pieces : goal.invariant-pieces
invariant-pieces l = record {
  columns : l.at.column + length l.rest ≤ 2 ^ 31;
  lines : l.at.line + length l.rest ≤ 2 ^ 31;
  end : place_after l.at l.rest ≡ place_after start l.characters;
  lexed : (tokens : List Token) → Lexes l.at l.last_line l.rest tokens → Lexes start 0 l.characters (l.tokens.tokens ++ tokens);
  failed : (fault : LexFault) → Fails l.at l.rest fault → Fails start l.characters fault;
}

abbrev pub decreases-pieces : goal.decreases-pieces
decreases-pieces l = length l.rest
