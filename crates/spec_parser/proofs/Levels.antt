-- The readers of each level, by the room of the grammar.
use Rattle.std.proofs.Common.{ℕ, suc}
use Rattle.syntax_tree.specs.declared.tree.Level.{Level}
use Rattle.syntax_tree.specs.declared.tree.Level.TheVariants as level
use Rattle.spec_parser.specs.inner.Reading.{chain, compared, within, prefixed, unary_at, operand_at}
use Rattle.token_reader.proofs.LocalLaws.{IsLocalTurn}
use Rattle.spec_lexer.specs.declared.token.Token.{Token}
use Rattle.spec_parser.specs.inner.Reading.{links_of, others_of}
use Rattle.spec_parser.proofs.Ends.{signs}
use Rattle.spec_parser.proofs.ExprLaws.{turn_others}
use Rattle.spec_parser.proofs.LevelLaws.{Operand, chain_operand, compared_operand, unary_operand, within_known, prefixed_known, turn_links}

unary_known : (room : ℕ) → Operand (unary_at room) (unary_at (suc room))
unary_known room = unary_operand room (within room) (within (suc room)) (prefixed room) (prefixed (suc room)) (within_known room) (prefixed_known room)

pub operand_known : (l : Level) (room : ℕ) → Operand (operand_at l room) (operand_at l (suc room))
operand_known level.Product room = unary_known room
operand_known level.Sum room = chain_operand level.Product (unary_at room) (unary_at (suc room)) (unary_known room)
operand_known level.Conjunction room =
    let product = chain_operand level.Product (unary_at room) (unary_at (suc room)) (unary_known room) in
    compared_operand (chain level.Sum (chain level.Product (unary_at room))) (chain level.Sum (chain level.Product (unary_at (suc room)))) (chain_operand level.Sum (chain level.Product (unary_at room)) (chain level.Product (unary_at (suc room))) product)
operand_known level.Disjunction room =
    let product = chain_operand level.Product (unary_at room) (unary_at (suc room)) (unary_known room) in
    let sum = chain_operand level.Sum (chain level.Product (unary_at room)) (chain level.Product (unary_at (suc room))) product in
    chain_operand level.Conjunction (compared (chain level.Sum (chain level.Product (unary_at room)))) (compared (chain level.Sum (chain level.Product (unary_at (suc room))))) (compared_operand (chain level.Sum (chain level.Product (unary_at room))) (chain level.Sum (chain level.Product (unary_at (suc room)))) sum)

pub links_local : (l : Level) (room : ℕ) (t : Token) → IsLocalTurn signs ((links_of l (operand_at l room)).turn t)
links_local l room = turn_links l (operand_at l room) (operand_known l room).fine.local

pub others_local : (room : ℕ) (t : Token) → IsLocalTurn signs ((others_of (within room)).turn t)
others_local room = turn_others (within room) (within_known room).fine.local
