-- The laws of the readers of chains, and of whole expressions.
use Rattle.std.proofs.Common.{◌≡◌, ℕ, zero, suc, List, [], ◌∷◌, Option, Some, None, refl, ap}
use Rattle.std.specs.Option.{option_map}
use Rattle.spec_lexer.specs.declared.token.Token.{Token}
use Rattle.spec_lexer.specs.declared.token.TokenKind.TheVariants as kind
use Rattle.spec_lexer.specs.declared.token.Word.TheVariants as word
use Rattle.token_reader.specs.inner.Reader.{TooDeep, Read, give, refuse, and_then, when, if_next, or_else, opened, many}
use Rattle.token_reader.proofs.LocalLaws.{IsEnd, IsCareful, IsLocal, IsLocalTurn, IsEager, Declines, declining, local-give, local-take_by, eager-take_by, eager-bind, eager-or_else}
use Rattle.token_reader.proofs.ManyLaws.{many_end}
use Rattle.token_reader.proofs.CarefulLaws.{careful-give, careful-take_by, careful-bind, careful-or_else, local-mapped}
use Rattle.token_reader.proofs.ViableLaws.{Completes, Begins, completes-begins, begins-bind, begins-or_else, skips-if_next}
use Rattle.token_reader.proofs.Fine.{IsFine, IsFineTurn, GoesOn, fine-too_deep, fine-bind, fine-or_else, fine-many, fine_when, mapped, careful-all, careful-all_deeper, skips-many, skips-deeper, on-give, on-skips, on-if_next, passes_begun, turn_local, turn_deeper}
use Rattle.syntax_tree.specs.declared.tree.Level.{Level}
use Rattle.syntax_tree.specs.declared.tree.Level.TheVariants as level
use Rattle.syntax_tree.specs.declared.tree.Operator.{Operator}
use Rattle.syntax_tree.specs.declared.tree.Comparison.{Comparison}
use Rattle.syntax_tree.specs.Tree as tree
use Rattle.syntax_tree.specs.Tree.{Expr, Links, no_links, more_links, place_of}
use Rattle.spec_parser.specs.Words.{operator_at, comparison_at, is_if}
use Rattle.spec_parser.specs.Grammar.{chained}
use Rattle.spec_parser.specs.inner.Reading.{Reader, type_in, link, links_of, after_operand, chain, unary, second_sum, compared, choice, all_levels, expression, within, prefixed}
use Rattle.spec_parser.proofs.Ends.{signs, start, a_name, a_truth, if_goes_on, operator_goes_on, comparison_goes_on, if_is}
use Rattle.spec_parser.proofs.TypeLaws.{opens_as, any_token, no_room}
use Rattle.spec_parser.proofs.ExprLaws.{Known, opened_choice, choice_pass, unary_fine, unary_begins, unary_deeper, unary_careful, unary_deeper_careful, unary_eager, unary_deeper_eager}

-- what is known of a reader of operands, which always reads one
pub record Operand (p q : Reader Expr) : Type 0 where
  pub fine : IsFine signs p q
  pub begins : Begins signs a_truth p
  pub deeper : Begins signs a_truth q
  pub careful : IsCareful signs p
  pub deeper_careful : IsCareful signs q
  pub eager : IsEager signs p
  pub deeper_eager : IsEager signs q

-- links, of one reader alone
module _ (l : Level) (p : Reader Expr) (lp : IsLocal signs p) where
  turn_link : (o : Option Operator) → IsLocalTurn signs (option_map (link p) o)
  turn_link None = tt
  turn_link (Some o) = local-mapped signs p (λ e. (o, e)) lp

  pub turn_links : (t : Token) → IsLocalTurn signs ((links_of l p).turn t)
  turn_links t = turn_link (operator_at l t.kind t.first)

  pub declines_links : Declines signs (links_of l p).turn
  declines_links t h = λ k. option_map (link p) (operator_goes_on l t.kind t.first h k)

module _ (l : Level) (p q : Reader Expr) (o : Operand p q) where
  link_turn : (t : Token) (x : Option Operator) → IsFineTurn signs t (option_map (link p) x) (option_map (link q) x)
  link_turn t None = tt
  link_turn t (Some x) = (
    mapped signs p q (λ e. (x, e)) o.fine,
    passes_begun signs t a_truth (link p x) refl (careful-bind signs p (λ e. give (x, e)) o.fine.local o.careful (λ e. careful-give signs {A = Operator × Expr} (x, e))) (λ r h. let b = o.begins r h in ([], (x, b.0), ap (λ q. and_then q (λ e. give (x, e))) b.1)),
  )

  links_turn : (t : Token) → IsFineTurn signs t ((links_of l p).turn t) ((links_of l q).turn t)
  links_turn t = link_turn t (operator_at l t.kind t.first)

  abbrev more : Operator × Expr → Links → Links
  more a ls = more_links a.0 a.1 ls

  dp : Declines signs (links_of l p).turn
  dp = declines_links l p o.fine.local

  dq : Declines signs (links_of l q).turn
  dq = declines_links l q o.fine.deeper

  on_links : GoesOn signs (after_operand l p) (after_operand l q)
  on_links = on-skips signs (many (links_of l p)) (many (links_of l q))
      (fine-many signs no_links more (links_of l p).turn (links_of l q).turn links_turn dp dq)
      (careful-all signs no_links more (links_of l p).turn (links_of l q).turn links_turn dp dq)
      (careful-all_deeper signs no_links more (links_of l p).turn (links_of l q).turn links_turn dp dq)
      (λ e ls. give (chained l e ls)) (λ e ls. give (chained l e ls)) (on-give signs (λ (x : Expr × Links). chained l x.0 x.1)) no_links
      (skips-many signs no_links more (links_of l p).turn (links_of l q).turn links_turn dp dq)
      (skips-deeper signs no_links more (links_of l p).turn (links_of l q).turn links_turn dp dq)

  none_after : (x : Reader Expr) → IsLocal signs x → (e : Expr) (r : List Token) → IsEnd signs r → (b : Expr) × (after_operand l x e r ≡ Read b r)
  none_after x lx e r h = (e, ap (λ y. and_then y (λ ls. give (chained l e ls))) (many_end signs (links_of l x) (turn_links l x lx) (declines_links l x lx) r h))

  pub chain_operand : Operand (chain l p) (chain l q)
  chain_operand = record {
    fine = fine-bind signs p q (after_operand l p) (after_operand l q) o.fine on_links;
    begins = begins-bind signs a_truth p (after_operand l p) o.begins (none_after p o.fine.local);
    deeper = begins-bind signs a_truth q (after_operand l q) o.deeper (none_after q o.fine.deeper);
    careful = careful-bind signs p (after_operand l p) o.fine.local o.careful on_links.careful;
    deeper_careful = careful-bind signs q (after_operand l q) o.fine.deeper o.deeper_careful on_links.deeper_careful;
    eager = eager-bind signs p (after_operand l p) o.eager (λ e. (on_links.each e).local);
    deeper_eager = eager-bind signs q (after_operand l q) o.deeper_eager (λ e. (on_links.each e).deeper);
  }

-- comparisons
module _ (p q : Reader Expr) (o : Operand p q) where
  comparison_turn : (t : Token) (a : Expr) (x : Option Comparison) → IsFineTurn signs t (option_map (second_sum p a) x) (option_map (second_sum q a) x)
  comparison_turn t a None = tt
  comparison_turn t a (Some x) = (
    mapped signs p q (λ b. tree.Compare (place_of a) x a b) o.fine,
    passes_begun signs t a_truth (second_sum p a x) refl (careful-bind signs p (λ b. give (tree.Compare (place_of a) x a b)) o.fine.local o.careful (λ b. careful-give signs (tree.Compare (place_of a) x a b))) (λ r h. let b = o.begins r h in ([], tree.Compare (place_of a) x a b.0, ap (λ q. and_then q (λ b. give (tree.Compare (place_of a) x a b))) b.1)),
  )

  abbrev compare_by : Reader Expr → Expr → Token → Option (Reader Expr)
  compare_by x a t = option_map (second_sum x a) (comparison_at t.kind)

  declines_comparison : (x : Reader Expr) (a : Expr) → Declines signs (compare_by x a)
  declines_comparison x a t h = λ k. option_map (second_sum x a) (comparison_goes_on t.kind h k)

  on_comparison : GoesOn signs (λ a. if_next (compare_by p a) a) (λ a. if_next (compare_by q a) a)
  on_comparison = on-if_next signs (compare_by p) (compare_by q) (λ a t. comparison_turn t a (comparison_at t.kind)) (declines_comparison p) (declines_comparison q) (λ a. a)

  pub compared_operand : Operand (compared p) (compared q)
  compared_operand = record {
    fine = fine-bind signs p q (λ a. if_next (compare_by p a) a) (λ a. if_next (compare_by q a) a) o.fine on_comparison;
    begins = begins-bind signs a_truth p (λ a. if_next (compare_by p a) a) o.begins (λ a r h. (a, skips-if_next signs (compare_by p a) (declines_comparison p a) a r h));
    deeper = begins-bind signs a_truth q (λ a. if_next (compare_by q a) a) o.deeper (λ a r h. (a, skips-if_next signs (compare_by q a) (declines_comparison q a) a r h));
    careful = careful-bind signs p (λ a. if_next (compare_by p a) a) o.fine.local o.careful on_comparison.careful;
    deeper_careful = careful-bind signs q (λ a. if_next (compare_by q a) a) o.fine.deeper o.deeper_careful on_comparison.deeper_careful;
    eager = eager-bind signs p (λ a. if_next (compare_by p a) a) o.eager (λ a. (on_comparison.each a).local);
    deeper_eager = eager-bind signs q (λ a. if_next (compare_by q a) a) o.deeper_eager (λ a. (on_comparison.each a).deeper);
  }

all_operand : (p q : Reader Expr) → Operand p q → Operand (all_levels p) (all_levels q)
all_operand p q o =
    let product = chain_operand level.Product p q o in
    let sum = chain_operand level.Sum (chain level.Product p) (chain level.Product q) product in
    let comparison = compared_operand (chain level.Sum (chain level.Product p)) (chain level.Sum (chain level.Product q)) sum in
    let conjunction = chain_operand level.Conjunction (compared (chain level.Sum (chain level.Product p))) (compared (chain level.Sum (chain level.Product q))) comparison in
    chain_operand level.Disjunction (chain level.Conjunction (compared (chain level.Sum (chain level.Product p)))) (chain level.Conjunction (compared (chain level.Sum (chain level.Product q)))) conjunction

-- whole expressions, and what a prefix operator stands before
module _ (room : ℕ) (i j p q : Reader Expr) (inner : Known room i j) (operand : Known room p q) where
  pub unary_operand : Operand (unary room (type_in room) i p) (unary (suc room) (type_in (suc room)) j q)
  unary_operand = record {
    fine = unary_fine room p q operand i j inner;
    begins = unary_begins room p q operand i j inner;
    deeper = unary_deeper room p q operand i j inner;
    careful = unary_careful room p q operand i j inner;
    deeper_careful = unary_deeper_careful room p q operand i j inner;
    eager = unary_eager room p q operand i j inner;
    deeper_eager = unary_deeper_eager room p q operand i j inner;
  }

  abbrev levels : Reader Expr
  levels = all_levels (unary room (type_in room) i p)

  abbrev levels_deep : Reader Expr
  levels_deep = all_levels (unary (suc room) (type_in (suc room)) j q)

  these : Operand levels levels_deep
  these = all_operand (unary room (type_in room) i p) (unary (suc room) (type_in (suc room)) j q) unary_operand

  abbrev at_if : Token → Option (Reader Expr)
  at_if t = when (is_if t.kind) (opened room (choice i t.place))

  abbrev at_if_deep : Token → Option (Reader Expr)
  at_if_deep t = when (is_if t.kind) (choice j t.place)

  if_turn : (t : Token) → IsFineTurn signs t (at_if t) (at_if_deep t)
  if_turn t = fine_when signs t (opened room (choice i t.place)) (choice j t.place) (opened_choice room i j inner t.place) (is_if t.kind) (λ h. choice_pass room i j inner t.place t (opens_as t (kind.Word word.If) (if_is t.kind h) refl refl))

  declines_if : Declines signs at_if
  declines_if t h = λ k. when (if_goes_on t.kind h k) (opened room (choice i t.place))

  declines_if_deep : Declines signs at_if_deep
  declines_if_deep t h = λ k. when (if_goes_on t.kind h k) (choice j t.place)

  expression_begins : Begins signs a_truth (expression room (type_in room) i p)
  expression_begins = begins-or_else signs at_if declines_if a_truth levels refl these.begins

  expression_deeper : Begins signs a_truth (expression (suc room) (type_in (suc room)) j q)
  expression_deeper = begins-or_else signs at_if_deep declines_if_deep a_truth levels_deep refl these.deeper

  pub expression_operand : Operand (expression room (type_in room) i p) (expression (suc room) (type_in (suc room)) j q)
  expression_operand = record {
    fine = fine-or_else signs at_if at_if_deep if_turn levels levels_deep these.fine (completes-begins signs a_truth (or_else at_if levels) expression_begins) (completes-begins signs a_truth (or_else at_if_deep levels_deep) expression_deeper) (declining declines_if these.careful) (declining declines_if_deep these.deeper_careful);
    begins = expression_begins;
    deeper = expression_deeper;
    careful = careful-or_else signs at_if (λ t. turn_local signs t (at_if t) (at_if_deep t) (if_turn t)) levels these.careful;
    deeper_careful = careful-or_else signs at_if_deep (λ t. turn_deeper signs t (at_if t) (at_if_deep t) (if_turn t)) levels_deep these.deeper_careful;
    eager = eager-or_else signs at_if (λ t. turn_local signs t (at_if t) (at_if_deep t) (if_turn t)) levels these.eager;
    deeper_eager = eager-or_else signs at_if_deep (λ t. turn_deeper signs t (at_if t) (at_if_deep t) (if_turn t)) levels_deep these.deeper_eager;
  }

-- from an operand's to what is known inside a level
known_of : (room : ℕ) (p q : Reader Expr) → Operand p q → Known room p q
known_of room p q o = record {
  fine = o.fine;
  completes = λ r e. completes-begins signs a_truth p o.begins;
  deeper = completes-begins signs a_truth q o.deeper;
  careful = λ r e. o.careful;
  deeper_careful = o.deeper_careful;
  begins = λ r e. o.begins;
  eager = λ r e. o.eager;
  deeper_eager = o.deeper_eager;
}

-- where no level is left, a reader for one that is known where one is
none_left : (q : Reader Expr) → IsLocal signs q → Completes signs q → IsCareful signs q → IsEager signs q → Known 0 (refuse TooDeep) q
none_left q lq cq dq eq = record {
  fine = fine-too_deep signs q lq cq;
  completes = λ r e. absurd (no_room r e);
  deeper = cq;
  careful = λ r e. absurd (no_room r e);
  deeper_careful = dq;
  begins = λ r e. absurd (no_room r e);
  eager = λ r e. absurd (no_room r e);
  deeper_eager = eq;
}

abbrev some_expr : Expr
some_expr = tree.Unit start

any_known : Known 0 (refuse TooDeep) (any_token some_expr)
any_known = none_left (any_token some_expr) (local-take_by signs (λ t. Some (give some_expr)) (λ t. local-give signs some_expr)) (λ r h. (a_name ∷ [], some_expr, refl)) (careful-take_by signs (λ t. Some (give some_expr)) (λ t. local-give signs some_expr)) (eager-take_by signs (λ t. Some (give some_expr)) (λ t. local-give signs some_expr))

mutual
  unfolding within prefixed

  pub within_known : (room : ℕ) → Known room (within room) (within (suc room))
  within_known zero = let o = expression_operand 0 (refuse TooDeep) (any_token some_expr) (refuse TooDeep) (any_token some_expr) any_known any_known in none_left (within 1) o.fine.local (completes-begins signs a_truth (within 1) o.begins) o.careful o.eager
  within_known (suc room) = known_of (suc room) (within (suc room)) (within (suc (suc room))) (expression_operand room (within room) (within (suc room)) (prefixed room) (prefixed (suc room)) (within_known room) (prefixed_known room))

  pub prefixed_known : (room : ℕ) → Known room (prefixed room) (prefixed (suc room))
  prefixed_known zero = let o = unary_operand 0 (refuse TooDeep) (any_token some_expr) (refuse TooDeep) (any_token some_expr) any_known any_known in none_left (prefixed 1) o.fine.local (completes-begins signs a_truth (prefixed 1) o.begins) o.careful o.eager
  prefixed_known (suc room) = known_of (suc room) (prefixed (suc room)) (prefixed (suc (suc room))) (unary_operand room (within room) (within (suc room)) (prefixed room) (prefixed (suc room)) (within_known room) (prefixed_known room))

-- an expression, where so many levels may be open
pub within_operand : (room : ℕ) → Operand (within (suc room)) (within (suc (suc room)))
unfolding within prefixed
within_operand room = expression_operand room (within room) (within (suc room)) (prefixed room) (prefixed (suc room)) (within_known room) (prefixed_known room)
