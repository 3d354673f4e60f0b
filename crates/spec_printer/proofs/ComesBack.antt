-- A tree that a source's tokens spell comes back from what is printed of it.
use Rattle.std.proofs.Common.{refl, arith}
use Rattle.spec_lexer.specs.Source.{start, lexed}
use Rattle.spec_lexer.specs.Pieces.{place_after}
use Rattle.spec_printer.specs.inner.Print.{items_marks}
use Rattle.spec_printer.specs.inner.Back.{EachComesBack, EachIsReadAgain}
use Rattle.spec_printer.proofs.Lexing.{marks_lexed, lexed_printable}
use Rattle.spec_printer.proofs.Found.{items_fit}
use Rattle.spec_printer.proofs.Marked.{items_printable}
use Rattle.spec_printer.proofs.Items.{items_again}

pub each_comes_back : EachComesBack
each_comes_back source found items (lexed short text l ends) s =
    let f = items_fit s (lexed_printable l text.scalars) in
    let m = marks_lexed (items_marks items) start 0 (omega arith) (items_printable f) in
    let x = items_again f m.tokens m.follow in
    record { characters = m.characters; text = record { scalars = m.scalars; encoded = m.encoded }; tokens = m.tokens; lexed = m.lexes; again = x.0; spelled = x.1; same = x.2 }

pub each_is_read_again : EachIsReadAgain
each_is_read_again source found items h s short =
    let c = each_comes_back source found items h s in
    record { found = record { tokens = c.tokens; end = place_after start c.characters }; has = lexed short c.text c.lexed refl; again = c.again; spelled = c.spelled; same = c.same }
