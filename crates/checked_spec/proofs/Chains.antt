-- A chain is its last operator, with what stands on the left of it and its last operand.
use Rattle.std.proofs.Common.{◌≡◌, List, Option, Some, None, refl, ap, ◌∙◌}
use Rattle.std.specs.Prelude.{Ok, Err}
use Rattle.std.specs.Option.{option_and_then}
use Rattle.std.proofs.lemmas.Option.{same_Some, none-some}
use Rattle.tsl_value.specs.declared.place.Place.{Place}
use Rattle.syntax_tree.specs.Tree as tree
use Rattle.syntax_tree.specs.Tree.{Expr, Links, no_links, more_links}
use Rattle.syntax_tree.specs.declared.tree.Level.{Level}
use Rattle.syntax_tree.specs.declared.tree.Operator.{Operator}
use Rattle.type_rules.specs.declared.rule.ExprType.{ExprType}
use Rattle.type_rules.specs.declared.rule.Setting.TheVariants as setting
use Rattle.type_rules.specs.Asked.{Verdict}
use Rattle.type_rules.specs.Rules.{link_rule}
use Rattle.expr_types.specs.Around.{Around}
use Rattle.expr_types.specs.Judge.{type_of, judge_links, next_link, continued, of_verdict}
use Rattle.spec_meaning.specs.Occurrence.{Call}
use Rattle.spec_meaning.specs.Shape.{all_but_last, last_operator, last_operand, left_of}
use Rattle.syntax_tree.specs.Levels.{level_of}
use Rattle.checked_spec.specs.inner.Formed.{AreOfLevel}
use Rattle.checked_spec.proofs.FunctionRead.{verdict_is}
use Rattle.checked_spec.proofs.Operands.{standard}

-- the last operator is of the level
pub last_of_level : (l : Level) (o : Operator) (e : Expr) (ls : Links) → AreOfLevel l (more_links o e ls) → level_of (last_operator o ls) ≡ l
last_of_level l o e no_links h = h.0
last_of_level l o e (more_links q f ls) h = last_of_level l q f ls h.1

pub record IsNext (l : Level) (t : ExprType) (x : Option ExprType) (rest : ExprType → Option Verdict) (u : ExprType) : Type 0 where
  pub b : ExprType
  pub w : ExprType
  pub is : x ≡ Some b
  pub allows : link_rule setting.Streams l t b ≡ Ok w
  pub more : rest w ≡ Some (Ok u)

pub next_is : (l : Level) (t : ExprType) (x : Option ExprType) (rest : ExprType → Option Verdict) (u : ExprType) → next_link setting.Streams l t x rest ≡ Some (Ok u) → IsNext l t x rest u
next_is l t None rest u h = absurd (none-some (Ok u) h)
next_is l t (Some b) rest u h = by (link_rule setting.Streams l t b) refl h
  where
    by : (v : Verdict) → link_rule setting.Streams l t b ≡ v → continued v rest ≡ Some (Ok u) → IsNext l t (Some b) rest u
    by (Ok w) is h = record { b = b; w = w; is = refl; allows = is; more = h }
    by (Err clash) is h = (cc)

module _ (items : List tree.Item) (cs : List Call) (at : Around) (l : Level) where
  -- what stands on the left of the last operator, and its last operand
  pub record IsLast (t : ExprType) (o : Operator) (f : Expr) (ls : Links) (u : ExprType) : Type 0 where
    pub a : ExprType
    pub b : ExprType
    pub left : judge_links (standard items cs at) l t (all_but_last (more_links o f ls)) ≡ Some (Ok a)
    pub right : type_of (standard items cs at) (last_operand f ls) ≡ Some b
    pub allows : link_rule setting.Streams l a b ≡ Ok u

  pub last_link : (t : ExprType) (o : Operator) (f : Expr) (ls : Links) (u : ExprType) → judge_links (standard items cs at) l t (more_links o f ls) ≡ Some (Ok u) → IsLast t o f ls u
  last_link t o f no_links u h =
      let n = next_is l t (type_of (standard items cs at) f) (λ w. Some (Ok w)) u h in
      record { a = t; b = n.b; left = refl; right = n.is; allows = n.allows ∙ same_Some (Ok n.w) (Ok u) n.more }
  last_link t o f (more_links q g ls) u h =
      let n = next_is l t (type_of (standard items cs at) f) (λ w. judge_links (standard items cs at) l w (more_links q g ls)) u h in
      let more = last_link n.w q g ls u n.more in
      let rest : ExprType → Option Verdict = λ w. judge_links (standard items cs at) l w (all_but_last (more_links q g ls)) in
      record {
        a = more.a;
        b = more.b;
        left = ap (λ x. next_link setting.Streams l t x rest) n.is ∙ ap (λ v. continued v rest) n.allows ∙ more.left;
        right = more.right;
        allows = more.allows;
      }

  pub left_typed : (p : Place) (e : Expr) (ls : Links) (a v : ExprType) → type_of (standard items cs at) e ≡ Some a → judge_links (standard items cs at) l a ls ≡ Some (Ok v) → type_of (standard items cs at) (left_of e (tree.Chain p l e) ls) ≡ Some v
  left_typed p e no_links a v is h = is ∙ ap of_verdict h
  left_typed p e (more_links o f ls) a v is h =
      ap (λ x. of_verdict (option_and_then (λ t. judge_links (standard items cs at) l t (more_links o f ls)) x)) is ∙ ap of_verdict h

  -- a chain of one operand is that operand
  pub chain_is : (p : Place) (e : Expr) (ls : Links) (u : ExprType) → type_of (standard items cs at) (tree.Chain p l e ls) ≡ Some u → (a : ExprType) × (type_of (standard items cs at) e ≡ Some a) × (judge_links (standard items cs at) l a ls ≡ Some (Ok u))
  chain_is p e ls u h = by (type_of (standard items cs at) e) (verdict_is (option_and_then (λ t. judge_links (standard items cs at) l t ls) (type_of (standard items cs at) e)) u h)
    where
      by : (x : Option ExprType) → option_and_then (λ t. judge_links (standard items cs at) l t ls) x ≡ Some (Ok u) → (a : ExprType) × (x ≡ Some a) × (judge_links (standard items cs at) l a ls ≡ Some (Ok u))
      by (Some a) h = (a, refl, h)
      by None h = absurd (none-some (Ok u) h)
