-- Reading items one after the other, as the loops do.
use Rattle.std.proofs.Common.{◌≡◌, ℕ, ◌<◌, ◌≤◌, true, false, List, [], ◌∷◌, ◌++◌, length, Some, None, refl, sym, ap, subst, ◌∙◌, arith}
use Rattle.std.specs.Option.{option_map}
use Rattle.spec_lexer.specs.declared.token.Token.{Token}
use Rattle.token_reader.specs.inner.Reader.{Unexpected, TooDeep, Outcome, Read, give, and_then, when, many, with_list}
use Rattle.token_reader.proofs.LocalLaws.{Leads, shorter}
use Rattle.token_reader.proofs.Loop.{loop_passes, loop_fails, loop_ends, loop_empty}
use Rattle.syntax_tree.specs.declared.tree.Level.{Level}
use Rattle.syntax_tree.specs.declared.tree.Operator.{Operator}
use Rattle.syntax_tree.specs.declared.tree.Link.{Link}
use Rattle.spec_parser.specs.declared.stop.Stop.{Stop}
use Rattle.spec_parser.specs.declared.stop.Stop.TheVariants as stop
use Rattle.syntax_tree.specs.Tree as tree
use Rattle.syntax_tree.specs.Tree.{Expr, Exprs, no_exprs, more_exprs, Links, no_links, more_links, place_of}
use Rattle.syntax_tree.specs.inner.OneLevel.{exprs_of, links_in}
use Rattle.spec_parser.specs.Words.{operator_at, is_comma}
use Rattle.spec_parser.specs.Grammar.{chained}
use Rattle.spec_parser.specs.inner.Reading.{Reader, link, links_of, others_of, within, operand_at}
use Rattle.spec_parser.specs.inner.Gives.{Fails}
use Rattle.syntax_tree.specs.inner.Joins.{join_exprs, join_links}
use Rattle.spec_parser.proofs.Ends.{signs}
use Rattle.spec_parser.proofs.LevelLaws.{within_known}
use Rattle.spec_parser.proofs.Levels.{operand_known, links_local, others_local}
use Rattle.syntax_tree.proofs.Joins.{join_none}

pub none_is : (ts : List Token) → length ts ≡ 0 → ts ≡ []
none_is [] h = refl
none_is (x ∷ xs) h = absurd (omega arith)

pub chained_none : (l : Level) (e : Expr) (ls : List Link) → length ls ≡ 0 → chained l e (links_in ls) ≡ e
chained_none l e [] h = refl
chained_none l e (x ∷ ls) h = absurd (omega arith)

pub chained_some : (l : Level) (e : Expr) (ls : List Link) → 0 < length ls → chained l e (links_in ls) ≡ tree.Chain (place_of e) l e (links_in ls)
chained_some l e [] h = absurd (omega arith)
chained_some l e (x ∷ ls) h = refl

-- one more link at the end
join_more : (ls : List Link) (l : Link) (us : Links) → join_links (links_in (ls ++ l ∷ [])) us ≡ join_links (links_in ls) (more_links l.operator l.operand us)
join_more [] l us = refl
join_more (x ∷ ls) l us = ap (more_links x.operator x.operand) (join_more ls l us)

module _ (level : Level) (room : ℕ) where
  abbrev reader : Reader Expr
  reader = operand_at level room

  abbrev all : Reader Links
  all = many (links_of level reader)

  pub operand_shorter : (ts left : List Token) (e : Expr) → reader ts ≡ Read e left → length left ≤ length ts
  operand_shorter ts left e h = shorter signs reader ts (Read e left) (subst (Leads signs reader ts) h ((operand_known level room).fine.local ts))

  turn_is : (t : Token) (o : Operator) → Some o ≡ operator_at level t.kind t.first → (links_of level reader).turn t ≡ Some (link reader o)
  turn_is t o is = ap (option_map (link reader)) (sym is)

  module _ (before : List Link) (ts : List Token) (t : Token) (after : List Token) (total : Outcome Token Links) (e : ts ≡ t ∷ after) (so_far : with_list (join_links (links_in before)) (all ts) ≡ total) where
    pub link_passes : (o : Operator) → Some o ≡ operator_at level t.kind t.first → (x : Expr) (left : List Token) → reader after ≡ Read x left → with_list (join_links (links_in (before ++ record { operator = o; operand = x } ∷ []))) (all left) ≡ total
    link_passes o is x left reads = loop_passes signs (links_of level reader) (links_local level room) (join_links (links_in before)) ts t after total e so_far (join_links (links_in (before ++ record { operator = o; operand = x } ∷ []))) (link reader o) (o, x) left (join_more before (record { operator = o; operand = x })) (turn_is t o is) (ap (λ (q : Outcome Token Expr). and_then {T = Token} {A = Expr} {B = Operator × Expr} q (λ e. give (o, e))) reads)

    pub link_fails : (o : Operator) → Some o ≡ operator_at level t.kind t.first → (s : Stop) → Fails s (reader after) → Fails s total
    link_fails o is stop.Memory f = tt
    link_fails o is (stop.Unexpected rest) f = loop_fails signs (links_of level reader) (links_local level room) (join_links (links_in before)) ts t after total e so_far (link reader o) Unexpected rest.now (turn_is t o is) (ap (λ (q : Outcome Token Expr). and_then {T = Token} {A = Expr} {B = Operator × Expr} q (λ e. give (o, e))) f)
    link_fails o is (stop.TooDeep rest) f = loop_fails signs (links_of level reader) (links_local level room) (join_links (links_in before)) ts t after total e so_far (link reader o) TooDeep rest.now (turn_is t o is) (ap (λ (q : Outcome Token Expr). and_then {T = Token} {A = Expr} {B = Operator × Expr} q (λ e. give (o, e))) f)

    pub link_ends : None ≡ operator_at level t.kind t.first → total ≡ Read (links_in before) ts
    link_ends is = loop_ends signs (links_of level reader) (links_local level room) (join_links (links_in before)) ts t after total e so_far (ap (option_map (link reader)) (sym is)) ∙ ap (λ x. Read x ts) (join_none (links_in before))

  pub links_empty : (before : List Link) (ts : List Token) (total : Outcome Token Links) → length ts ≡ 0 → with_list (join_links (links_in before)) (all ts) ≡ total → total ≡ Read (links_in before) ts
  links_empty before ts total h so_far = loop_empty signs (links_of level reader) (links_local level room) (join_links (links_in before)) ts total (none_is ts h) so_far ∙ ap (λ x. Read x ts) (join_none (links_in before))

-- arguments
join_no_exprs : (xs : List Expr) → join_exprs xs no_exprs ≡ exprs_of xs
join_no_exprs [] = refl
join_no_exprs (x ∷ xs) = ap (more_exprs x) (join_no_exprs xs)

join_more_exprs : (xs : List Expr) (e : Expr) (us : Exprs) → join_exprs (xs ++ e ∷ []) us ≡ join_exprs xs (more_exprs e us)
join_more_exprs [] e us = refl
join_more_exprs (x ∷ xs) e us = ap (more_exprs x) (join_more_exprs xs e us)

module _ (room : ℕ) where
  abbrev others : Reader Exprs
  others = many (others_of (within room))

  pub within_shorter : (ts left : List Token) (e : Expr) → within room ts ≡ Read e left → length left ≤ length ts
  within_shorter ts left e h = shorter signs (within room) ts (Read e left) (subst (Leads signs (within room) ts) h ((within_known room).fine.local ts))

  comma_turn : (t : Token) → true ≡ is_comma t.kind → (others_of (within room)).turn t ≡ Some (within room)
  comma_turn t is = λ k. when (sym is k) (within room)

  module _ (before : List Expr) (ts : List Token) (t : Token) (after : List Token) (total : Outcome Token Exprs) (e : ts ≡ t ∷ after) (so_far : with_list (join_exprs before) (others ts) ≡ total) where
    pub comma_passes : true ≡ is_comma t.kind → (x : Expr) (left : List Token) → within room after ≡ Read x left → with_list (join_exprs (before ++ x ∷ [])) (others left) ≡ total
    comma_passes is x left reads = loop_passes signs (others_of (within room)) (others_local room) (join_exprs before) ts t after total e so_far (join_exprs (before ++ x ∷ [])) (within room) x left (join_more_exprs before x) (comma_turn t is) reads

    pub comma_fails : true ≡ is_comma t.kind → (s : Stop) → Fails s (within room after) → Fails s total
    comma_fails is stop.Memory f = tt
    comma_fails is (stop.Unexpected rest) f = loop_fails signs (others_of (within room)) (others_local room) (join_exprs before) ts t after total e so_far (within room) Unexpected rest.now (comma_turn t is) f
    comma_fails is (stop.TooDeep rest) f = loop_fails signs (others_of (within room)) (others_local room) (join_exprs before) ts t after total e so_far (within room) TooDeep rest.now (comma_turn t is) f

    pub comma_ends : false ≡ is_comma t.kind → total ≡ Read (exprs_of before) ts
    comma_ends is = loop_ends signs (others_of (within room)) (others_local room) (join_exprs before) ts t after total e so_far (λ k. when (sym is k) (within room)) ∙ ap (λ x. Read x ts) (join_no_exprs before)

  pub comma_empty : (before : List Expr) (ts : List Token) (total : Outcome Token Exprs) → length ts ≡ 0 → with_list (join_exprs before) (others ts) ≡ total → total ≡ Read (exprs_of before) ts
  comma_empty before ts total h so_far = loop_empty signs (others_of (within room)) (others_local room) (join_exprs before) ts total (none_is ts h) so_far ∙ ap (λ x. Read x ts) (join_no_exprs before)
