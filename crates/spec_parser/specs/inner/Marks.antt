-- The tokens that have to come inside a construct.
use Rattle.std.specs.Prelude.{Bool}
use Rattle.spec_lexer.specs.declared.token.TokenKind.{TokenKind}
use Rattle.spec_parser.specs.declared.mark.Mark.{Mark}
use Rattle.spec_parser.specs.declared.mark.Mark.TheVariants as mark
use Rattle.spec_parser.specs.Words.{is_close, is_open_bracket, is_close_bracket, is_close_brace, is_comma, is_colon, defines, is_then}
use Rattle.spec_parser.specs.Words.{is_else}

abbrev pub test_of : Mark → TokenKind → Bool
test_of mark.Close = is_close
test_of mark.OpenBracket = is_open_bracket
test_of mark.CloseBracket = is_close_bracket
test_of mark.CloseBrace = is_close_brace
test_of mark.Comma = is_comma
test_of mark.Colon = is_colon
test_of mark.Defines = defines
test_of mark.Then = is_then
test_of mark.Else = is_else
