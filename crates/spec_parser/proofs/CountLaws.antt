-- No text has more definitions than tokens.
use Rattle.std.proofs.Common.{◌≡◌, ℕ, suc, ◌+◌, ◌≤◌, List, length, Option, subst, arith}
use Rattle.spec_lexer.specs.declared.token.Token.{Token}
use Rattle.token_reader.specs.inner.Reader.{Read}
use Rattle.token_reader.proofs.LocalLaws.{Leads, shorter}
use Rattle.token_reader.proofs.Meets.{Meets}
use Rattle.syntax_tree.specs.Tree as tree
use Rattle.syntax_tree.specs.Counts.{count_in, counts}
use Rattle.spec_parser.specs.Grammar.{IsType, IsExpr, IsParam, param, AreOtherParams, no_param, one_param, MayHaveParams, without_params, with_params, MayHaveType, without_type, with_type, IsBody, plain, block, AreDefinitions, no_definition, one_definition}
use Rattle.spec_parser.specs.inner.Reading as read
use Rattle.spec_parser.specs.inner.Reading.{type_in, within, a_body}
use Rattle.spec_parser.proofs.Ends.{signs}
use Rattle.spec_parser.proofs.TypeLaws.{type_fine}
use Rattle.spec_parser.proofs.LoopLaws.{within_shorter}
use Rattle.spec_parser.proofs.Complete.{type_complete, expr_complete}
use Rattle.spec_parser.proofs.Items.{body_sound, block_sound}

-- ---- what is left is no longer than what there was
pub expr_shorter : {room : ℕ} {ts rest : List Token} {e : tree.Expr} → IsExpr room ts e rest → length rest ≤ length ts
expr_shorter {room} {ts} {rest} {e} d = within_shorter (suc room) ts rest e (expr_complete d)

pub type_shorter : {room : ℕ} {ts rest : List Token} {y : tree.TypeName} → IsType room ts y rest → length rest ≤ length ts
type_shorter {room} {ts} {rest} {y} d =
    shorter signs (type_in (suc room)) ts (Read y rest) (subst (Leads signs (type_in (suc room)) ts) (type_complete d) ((type_fine (suc room)).local ts))

pub may_type_shorter : {room : ℕ} {ts rest : List Token} {w : Option tree.TypeName} → MayHaveType room ts w rest → length rest ≤ length ts
may_type_shorter (without_type past) = omega arith
may_type_shorter (with_type colon d) = omega (arith, type_shorter d)

param_shorter : {room : ℕ} {ts rest : List Token} {p : tree.Param} → IsParam room ts p rest → length rest ≤ length ts
param_shorter (param is colon d) = omega (arith, type_shorter d)

params_shorter : {room : ℕ} {ts rest : List Token} {ps : List tree.Param} → AreOtherParams room ts ps rest → length rest ≤ length ts
params_shorter (no_param past) = omega arith
params_shorter (one_param comma first others) = omega (arith, param_shorter first, params_shorter others)

pub may_params_shorter : {room : ℕ} {ts rest : List Token} {ps : List tree.Param} → MayHaveParams room ts ps rest → length rest ≤ length ts
may_params_shorter (without_params past) = omega arith
may_params_shorter (with_params opens first others closes) = omega (arith, param_shorter first, params_shorter others)

-- ---- each definition takes a token
mutual
  pub body_counted : {room : ℕ} {ts rest : List Token} {b : tree.Body} → IsBody room ts b rest → count_in b + length rest ≤ length ts
  body_counted (plain d) = omega (arith, expr_shorter d)
  body_counted (block opens inner last closes) = omega (arith, definitions_counted inner, expr_shorter last)

  pub definitions_counted : {room : ℕ} {ts rest : List Token} {ds : tree.Definitions} → AreDefinitions room ts ds rest → counts ds + length rest ≤ length ts
  definitions_counted (no_definition past) = omega arith
  definitions_counted (one_definition begins named written defines body others) = omega (arith, may_type_shorter written, body_counted body, definitions_counted others)

-- of a body that is read
pub read_counted : (room : ℕ) (ts rest : List Token) (b : tree.Body) → a_body (read.block room) (within (suc room)) ts ≡ Read b rest → count_in b + length rest ≤ length ts
read_counted room ts rest b h = body_counted (subst (Meets (IsBody room ts)) h (body_sound room (block_sound room) ts))
