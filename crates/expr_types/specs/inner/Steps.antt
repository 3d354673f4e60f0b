-- What is wrong inside of an expression, by its parts.
use Rattle.std.specs.Prelude.{ℕ, List, [], ◌∷◌, ◌++◌, if◌then◌else◌, Option, Some, None, Err}
use Rattle.std.specs.Option.{option_and_then}
use Rattle.std.specs.Str.{bytes_eq}
use Rattle.syntax_tree.specs.Tree as tree
use Rattle.syntax_tree.specs.Tree.{Expr, Exprs, no_exprs, more_exprs, Links, no_links, more_links}
use Rattle.syntax_tree.specs.declared.tree.Level.{Level}
use Rattle.vocabulary.specs.declared.plain.Plain.{Plain}
use Rattle.vocabulary.specs.declared.plain.Plain.TheVariants as plain
use Rattle.vocabulary.specs.PlainTable.{spelling}
use Rattle.name_check.specs.Builtin.{is_lift}
use Rattle.type_rules.specs.declared.rule.Clash.{Clash}
use Rattle.type_rules.specs.declared.rule.ExprType.{ExprType}
use Rattle.type_rules.specs.Asked.{Verdict}
use Rattle.expr_types.specs.declared.wrong.Wrong.{Wrong}
use Rattle.expr_types.specs.Around.{Around}
use Rattle.expr_types.specs.Judge.{wrongs, judge_links, rule_of, const_call, own_call}

abbrev pub argument_wrongs : Around → Exprs → List Wrong
argument_wrongs at no_exprs = []
argument_wrongs at (more_exprs e es) = wrongs at e ++ argument_wrongs at es

-- the last argument of a `lift` is no expression
abbrev pub stream_wrongs : Around → Exprs → List Wrong
stream_wrongs at no_exprs = []
stream_wrongs at (more_exprs e no_exprs) = []
stream_wrongs at (more_exprs e (more_exprs f es)) = wrongs at e ++ stream_wrongs at (more_exprs f es)

abbrev pub link_wrongs : Around → Links → List Wrong
link_wrongs at no_links = []
link_wrongs at (more_links o e ls) = wrongs at e ++ link_wrongs at ls

abbrev pub inner_wrongs : Around → Expr → List Wrong
inner_wrongs at (tree.If p c a b) = wrongs at c ++ wrongs at a ++ wrongs at b
inner_wrongs at (tree.Chain p l e ls) = wrongs at e ++ link_wrongs at ls
inner_wrongs at (tree.Compare p o a b) = wrongs at a ++ wrongs at b
inner_wrongs at (tree.Negate p e) = wrongs at e
inner_wrongs at (tree.Not p e) = wrongs at e
inner_wrongs at (tree.Call p n es) = if is_lift n then stream_wrongs at es else argument_wrongs at es
inner_wrongs at (tree.CallDotted p d es) = argument_wrongs at es
inner_wrongs at e = []

-- what a verdict refuses
abbrev pub clash_in : Option Verdict → Option Clash
clash_in (Some (Err clash)) = Some clash
clash_in _ = None

-- the links of a chain, after operands that are this or nothing
abbrev pub chain_verdict : Around → Level → Option ExprType → Links → Option Verdict
chain_verdict at l t ls = option_and_then (λ u. judge_links at l u ls) t

-- types, if each is something, before others
abbrev pub joined : Option (List ExprType) → Option (List ExprType) → Option (List ExprType)
joined (Some ts) (Some us) = Some (ts ++ us)
joined _ _ = None

abbrev pub one_more : Option (List ExprType) → Option ExprType → Option (List ExprType)
one_more (Some ts) (Some t) = Some (ts ++ t ∷ [])
one_more _ _ = None

-- a call of a name of the language other than `lift`
abbrev pub plain_call : Around → Plain → List ℕ → Exprs → Option (List ExprType) → Option Verdict
plain_call at p n es ts = if bytes_eq (spelling p) (spelling plain.Const) then const_call es ts else own_call (rule_of p) at n ts
