-- No specification has more definitions than tokens, so that 32 bits number them.
use Rattle.std.proofs.Common.{ℕ, suc, ◌+◌, ◌≤◌, List, length, arith, length-append}
use Rattle.spec_lexer.specs.declared.token.Token.{Token}
use Rattle.spec_lexer.specs.declared.limits.TheConstants.{MOST_SOURCE_BYTES}
use Rattle.spec_lexer.specs.Tokens.{Spelled}
use Rattle.spec_lexer.specs.Source.{HasTokens, lexed}
use Rattle.spec_lexer.proofs.SourceLaws.{few_tokens}
use Rattle.syntax_tree.specs.Tree as tree
use Rattle.spec_parser.specs.Grammar.{IsItem, input, definition, output, output_as, Spells, empty, item}
use Rattle.spec_parser.proofs.CountLaws.{expr_shorter, type_shorter, may_type_shorter, may_params_shorter, body_counted}
use Rattle.name_check.specs.Scope.{Scope, top}
use Rattle.definition_cycles.specs.Nodes.{HasFewNodes, count_of, item_nodes, nodes_from}
use Rattle.definition_cycles.proofs.FoundLemmas.{length_item}

-- ---- each item takes a token, and so does each definition in it
item_counted : {room : ℕ} {ts rest : List Token} {i : tree.Item} → IsItem room ts i rest → count_of i + length rest ≤ length ts
item_counted (input begins named colon of) = omega (arith, type_shorter of)
item_counted (definition begins named params written defines body) = omega (arith, may_params_shorter params, may_type_shorter written, body_counted body)
item_counted (output begins d past) = omega arith
item_counted (output_as begins d separates named) = omega (arith, expr_shorter d)

items_counted : (n : ℕ) (s : Scope) {room : ℕ} {ts : List Token} {items : List tree.Item} → Spells room ts items → length (nodes_from n s items) ≤ length ts
items_counted n s empty = omega arith
items_counted n s (item {i = i} {items = items} first others) =
    let both = length-append (item_nodes n s i) (nodes_from (suc n) s items) in
    omega (arith, both, length_item n s i, item_counted first, items_counted (suc n) s others)

-- ---- of a source
pub few_bytes : (source : List ℕ) (s : Spelled) → HasTokens source s → length source ≤ MOST_SOURCE_BYTES
few_bytes source s (lexed few text lexes end) = few

pub few_nodes : (source : List ℕ) (s : Spelled) (items : List tree.Item) → HasTokens source s → Spells 64 s.tokens items → HasFewNodes items
few_nodes source s items tokens spells =
    omega (arith, few_bytes source s tokens, few_tokens source s tokens, items_counted 0 (top items) spells)
