-- Readers of parts of constructs, as single functions of the parser read them.
use Rattle.std.specs.Prelude.{Option, Some, None}
use Rattle.token_reader.specs.inner.Reader.{Unexpected, give, refuse, ◌>>=◌}
use Rattle.syntax_tree.specs.Tree as tree
use Rattle.syntax_tree.specs.Tree.{Body, Expr}
use Rattle.spec_parser.specs.inner.Reading.{Reader}

-- a body without braces
abbrev pub plain_body : Reader Expr → Reader Body
plain_body inner = inner >>= λ e. give (tree.Plain e)

-- what is given, if something is
abbrev pub given : {A : Type 0} → Option A → Reader A
given (Some a) = give a
given None = refuse Unexpected
