-- Beginnings of typed chains, and their operands.
use Rattle.std.proofs.Common.{◌≡◌, ℕ, List, Option, Some, refl, ap, sym, subst, ◌∙◌}
use Rattle.std.specs.Prelude.{Ok}
use Rattle.std.specs.Option.{option_and_then}
use Rattle.std.proofs.lemmas.Option.{same_Some}
use Rattle.tsl_value.specs.declared.place.Place.{Place}
use Rattle.tsl_value.specs.declared.scalar.ValueType.{ValueType}
use Rattle.syntax_tree.specs.Tree as tree
use Rattle.syntax_tree.specs.Tree.{Expr, Links, no_links, more_links}
use Rattle.syntax_tree.specs.inner.Joins.{join_links}
use Rattle.syntax_tree.specs.declared.tree.Level.{Level}
use Rattle.syntax_tree.specs.declared.tree.Operator.{Operator}
use Rattle.type_rules.specs.declared.rule.ExprType.{ExprType}
use Rattle.type_rules.specs.declared.rule.ExprType.TheVariants as expr_type
use Rattle.type_rules.specs.declared.rule.Setting.TheVariants as setting
use Rattle.type_rules.specs.Asked.{Verdict}
use Rattle.type_rules.specs.Rules.{ask_both, link_rule, operand_type}
use Rattle.expr_types.specs.Around.{Around}
use Rattle.expr_types.specs.Judge.{type_of, judge_links, next_link, continued, of_verdict}
use Rattle.stream_constructs.specs.declared.construct.Stream.{Stream}
use Rattle.spec_meaning.specs.Occurrence.{Call}
use Rattle.spec_meaning.specs.Makes.{Standing}
use Rattle.checked_spec.specs.inner.Formed.{AreOfLevel}
use Rattle.checked_spec.specs.inner.Matches.{IsTypedAt}
use Rattle.checked_spec.specs.inner.Chains.{HaveOperands}
use Rattle.checked_spec.proofs.FunctionAsks.{checked, both_are, same_Ok}
use Rattle.checked_spec.proofs.Asks.{same_stream}
use Rattle.checked_spec.proofs.Operands.{standard}
use Rattle.checked_spec.proofs.Chains.{next_is, chain_is}
use Rattle.checked_spec.proofs.Whole.{is_standard, standard_typed}

-- ---- the operators of a beginning
operators_begin : (l : Level) (front rest : Links) → AreOfLevel l (join_links front rest) → AreOfLevel l front
operators_begin l no_links rest h = tt
operators_begin l (more_links o f front) rest h = (h.0, operators_begin l front rest h.1)

-- ---- what an operator asks, and what it makes
record IsOfLevel (l : Level) (t b w : ExprType) : Type 0 where
  left : t ≡ expr_type.Stream (operand_type l)
  right : b ≡ expr_type.Stream (operand_type l)
  made : w ≡ expr_type.Stream (operand_type l)

link_of_level : (l : Level) (t b w : ExprType) → link_rule setting.Streams l t b ≡ Ok w → IsOfLevel l t b w
link_of_level l t b w h =
    let c = checked (ask_both (expr_type.Stream (operand_type l)) t b) (Ok (expr_type.Stream (operand_type l))) w h in
    let both = both_are (expr_type.Stream (operand_type l)) t b c.0 in
    record { left = both.0; right = both.1; made = sym (same_Ok (expr_type.Stream (operand_type l)) w c.1) }

module _ (items : List tree.Item) (cs : List Call) (at : Around) (l : Level) where
  abbrev here : Around
  here = standard items cs at

  -- a chain is of the type of its first operand
  type_stays : (t u : ExprType) (ls : Links) → judge_links here l t ls ≡ Some (Ok u) → t ≡ u
  type_stays t u no_links h = same_Ok t u (same_Some (Ok t) (Ok u) h)
  type_stays t u (more_links o f ls) h =
      let n = next_is l t (type_of here f) (λ w. judge_links here l w ls) u h in
      let k = link_of_level l t n.b n.w n.allows in
      k.left ∙ sym k.made ∙ type_stays n.w u ls n.more

  front_judged : (t u : ExprType) (front rest : Links) → judge_links here l t (join_links front rest) ≡ Some (Ok u) → judge_links here l t front ≡ Some (Ok u)
  front_judged t u no_links rest h = ap (λ v. Some (Ok v)) (type_stays t u rest h)
  front_judged t u (more_links o f front) rest h =
      let n = next_is l t (type_of here f) (λ w. judge_links here l w (join_links front rest)) u h in
      let next : ExprType → Option Verdict = λ w. judge_links here l w front in
      ap (λ x. next_link setting.Streams l t x next) n.is ∙ ap (λ v. continued v next) n.allows ∙ front_judged n.w u front rest n.more

  operands_typed : (t u : ExprType) (ls : Links) → judge_links here l t ls ≡ Some (Ok u) → HaveOperands here (operand_type l) ls
  operands_typed t u no_links h = tt
  operands_typed t u (more_links o f ls) h =
      let n = next_is l t (type_of here f) (λ w. judge_links here l w ls) u h in
      let k = link_of_level l t n.b n.w n.allows in
      (n.is ∙ ap (λ v. Some v) k.right, operands_typed n.w u ls n.more)

  first_of_level : (t u : ExprType) (o : Operator) (f : Expr) (ls : Links) → judge_links here l t (more_links o f ls) ≡ Some (Ok u) → t ≡ expr_type.Stream (operand_type l)
  first_of_level t u o f ls h =
      let n = next_is l t (type_of here f) (λ w. judge_links here l w ls) u h in
      (link_of_level l t n.b n.w n.allows).left

module _ (items : List tree.Item) (top : ℕ → Stream) (at : Around) (st : Standing) (p : Place) (l : Level) (e : Expr) where
  abbrev there : Around
  there = standard items st.calls at

  pub chain_begins : (front rest : Links) (t : ValueType) → IsTypedAt items top at st (tree.Chain p l e (join_links front rest)) t → IsTypedAt items top at st (tree.Chain p l e front) t
  chain_begins front rest t h =
      let c = chain_is items st.calls at l p e (join_links front rest) (expr_type.Stream t) (standard_typed items top at st (tree.Chain p l e (join_links front rest)) t h) in
      let judged = front_judged items st.calls at l c.0 (expr_type.Stream t) front rest c.2 in
      let typed : type_of there (tree.Chain p l e front) ≡ Some (expr_type.Stream t) = ap (λ x. of_verdict (option_and_then (λ a. judge_links there l a front) x)) c.1 ∙ ap of_verdict judged in
      record {
        matches = h.matches;
        functions = h.functions;
        formed = record { fits = refl; operators = operators_begin l front rest h.formed.operators };
        is = ap (λ a. type_of a (tree.Chain p l e front)) (is_standard items top at st h.matches) ∙ typed;
      }

  pub chain_of_level : (o : Operator) (f : Expr) (ls : Links) (t : ValueType) → IsTypedAt items top at st (tree.Chain p l e (more_links o f ls)) t → t ≡ operand_type l
  chain_of_level o f ls t h =
      let c = chain_is items st.calls at l p e (more_links o f ls) (expr_type.Stream t) (standard_typed items top at st (tree.Chain p l e (more_links o f ls)) t h) in
      same_stream t (operand_type l) (sym (type_stays items st.calls at l c.0 (expr_type.Stream t) (more_links o f ls) c.2) ∙ first_of_level items st.calls at l c.0 (expr_type.Stream t) o f ls c.2)

  pub chain_operands : (o : Operator) (f : Expr) (ls : Links) (t : ValueType) → IsTypedAt items top at st (tree.Chain p l e (more_links o f ls)) t → (type_of at e ≡ Some (expr_type.Stream (operand_type l))) × HaveOperands at (operand_type l) (more_links o f ls)
  chain_operands o f ls t h =
      let c = chain_is items st.calls at l p e (more_links o f ls) (expr_type.Stream t) (standard_typed items top at st (tree.Chain p l e (more_links o f ls)) t h) in
      subst (λ a. (type_of a e ≡ Some (expr_type.Stream (operand_type l))) × HaveOperands a (operand_type l) (more_links o f ls)) (sym (is_standard items top at st h.matches))
      (c.1 ∙ ap (λ v. Some v) (first_of_level items st.calls at l c.0 (expr_type.Stream t) o f ls c.2), operands_typed items st.calls at l c.0 (expr_type.Stream t) (more_links o f ls) c.2)

  pub one_operand : (t : ValueType) → IsTypedAt items top at st (tree.Chain p l e no_links) t → type_of at e ≡ Some (expr_type.Stream t)
  one_operand t h =
      let c = chain_is items st.calls at l p e no_links (expr_type.Stream t) (standard_typed items top at st (tree.Chain p l e no_links) t h) in
      ap (λ a. type_of a e) (is_standard items top at st h.matches) ∙ c.1 ∙ ap (λ v. Some v) (type_stays items st.calls at l c.0 (expr_type.Stream t) no_links c.2)
