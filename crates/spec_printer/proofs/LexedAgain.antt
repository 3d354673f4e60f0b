-- What is printed of a tree that a source's tokens spell is lexed again.
use Rattle.std.proofs.Common.{arith}
use Rattle.spec_lexer.specs.Source.{start, lexed}
use Rattle.spec_printer.specs.inner.Print.{items_marks}
use Rattle.spec_printer.specs.inner.Back.{EachIsLexedAgain}
use Rattle.spec_printer.proofs.Lexing.{marks_lexed, lexed_printable}
use Rattle.spec_printer.proofs.Found.{items_fit}
use Rattle.spec_printer.proofs.Marked.{items_printable}

pub each_is_lexed_again : EachIsLexedAgain
each_is_lexed_again source found items (lexed short text l ends) s =
    let m = marks_lexed (items_marks items) start 0 (omega arith) (items_printable (items_fit s (lexed_printable l text.scalars))) in
    record { characters = m.characters; text = record { scalars = m.scalars; encoded = m.encoded }; tokens = m.tokens; lexed = m.lexes; follow = m.follow }
