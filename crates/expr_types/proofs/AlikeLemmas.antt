-- Where the names that an expression mentions are alike, it is the same.
use Rattle.std.proofs.Common.{◌≡◌, ℕ, Bool, true, false, if◌then◌else◌, List, [], ◌∷◌, ◌++◌, slice_get, Option, Some, None, Ok, refl, ap, ◌∙◌}
use Rattle.std.specs.Option.{option_map, option_and_then}
use Rattle.std.specs.List.{AllByRecursion}
use Rattle.syntax_tree.specs.Tree as tree
use Rattle.syntax_tree.specs.Tree.{Expr, Exprs, no_exprs, more_exprs, Links, no_links, more_links}
use Rattle.syntax_tree.specs.declared.tree.Level.{Level}
use Rattle.name_check.specs.declared.declaration.Declaration.{Declaration}
use Rattle.name_check.specs.declared.declaration.Declaration.TheVariants as declaration
use Rattle.name_check.specs.Builtin.{is_unit, is_lift}
use Rattle.name_check.specs.Scope.{meaning}
use Rattle.name_check.specs.Parts.{Part, Operand, Function, parts, argument_parts, lift_parts, link_parts}
use Rattle.type_rules.specs.declared.rule.ExprType.{ExprType}
use Rattle.type_rules.specs.declared.rule.ExprType.TheVariants as expr_type
use Rattle.type_rules.specs.declared.rule.Builtin.{Builtin}
use Rattle.type_rules.specs.Asked.{lifted, unit, int, bool, text}
use Rattle.type_rules.specs.Rules.{body_rule, compare_rule, negate_rule, not_rule, if_rule, dotted_rule, builtin_rule, macro_rule, function_rule}
use Rattle.expr_types.specs.Around.{Around, declared_type, param_types, callee_of, cons}
use Rattle.type_rules.specs.Kinds.{Kinds}
use Rattle.syntax_tree.specs.Tree.{params_of}
use Rattle.expr_types.specs.Judge.{judge, types_of, judge_links, streams_of, last_of, function_of, function_at, type_of, of_verdict, with_one, with_two, with_three, is_just, lifted_by, named_call, own_call, const_call, call_rule, is_const, builtin_of, next_link}
use Rattle.expr_types.specs.inner.Alike.{declared_callee, IsAlike, IsPartAlike, MentionsAlike, known, IsKnownAlike, IsPartKnownAlike}
use Rattle.expr_types.specs.Bodies.{fitting, expr_kind}

abbrev All : Around → Around → List Part → Type 0
All at to ps = AllByRecursion (IsPartAlike at to) ps

split : (at to : Around) (ps qs : List Part) → All at to (ps ++ qs) → All at to ps × All at to qs
split at to [] qs h = (tt, h)
split at to (p ∷ ps) qs h = let rest = split at to ps qs h.1 in ((h.0, rest.0), rest.1)

mentioned_by : (at to : Around) (m : Option Declaration) → ((d : Declaration) → m ≡ Some d → declared_type at d ≡ declared_type to d) → option_and_then (declared_type at) m ≡ option_and_then (declared_type to) m
mentioned_by at to None f = refl
mentioned_by at to (Some d) f = f d refl

mention_alike : (at to : Around) (n : List ℕ) → IsAlike at to n → option_and_then (declared_type at) (meaning at.scope n) ≡ option_and_then (declared_type to) (meaning to.scope n)
mention_alike at to n h = mentioned_by at to (meaning at.scope n) h.types ∙ ap (option_and_then (declared_type to)) h.stands

rule_alike : (at to : Around) (d : Declaration) (ts : List ExprType) → at.setting ≡ to.setting → declared_callee at d ≡ declared_callee to d → call_rule at d ts ≡ call_rule to d ts
rule_alike at to (declaration.Macro k) ts s e = λ i. option_map (λ c. macro_rule c.params c.result ts) (e i)
rule_alike at to (declaration.Function k) ts s e = λ i. option_map (λ c. function_rule (s i) c.params c.result ts) (e i)
rule_alike at to d ts s e = refl

called_by : (at to : Around) (m : Option Declaration) (ts : List ExprType) → at.setting ≡ to.setting → ((d : Declaration) → m ≡ Some d → declared_callee at d ≡ declared_callee to d) → option_and_then (λ d. call_rule at d ts) m ≡ option_and_then (λ d. call_rule to d ts) m
called_by at to None ts s f = refl
called_by at to (Some d) ts s f = rule_alike at to d ts s (f d refl)

call_alike : (at to : Around) (n : List ℕ) (ts : Option (List ExprType)) → at.setting ≡ to.setting → IsAlike at to n → own_call None at n ts ≡ own_call None to n ts
call_alike at to n None s h = refl
call_alike at to n (Some ts) s h =
    called_by at to (meaning at.scope n) ts s h.calls ∙ ap (option_and_then (λ d. call_rule to d ts)) h.stands

own_alike : (at to : Around) (n : List ℕ) (o : Option Builtin) (ts us : Option (List ExprType)) → at.setting ≡ to.setting → IsAlike at to n → ts ≡ us → own_call o at n ts ≡ own_call o to n us
own_alike at to n None ts us s h e = call_alike at to n ts s h ∙ ap (own_call None to n) e
own_alike at to n (Some o) ts us s h e = ap (option_map (builtin_rule o)) e

named_alike : (at to : Around) (n : List ℕ) (es : Exprs) (ts us : Option (List ExprType)) → at.setting ≡ to.setting → IsAlike at to n → ts ≡ us → named_call at n es ts ≡ named_call to n es us
named_alike at to n es ts us s h e =
    λ i. if is_const n then const_call es (e i) else own_alike at to n (builtin_of n) ts us s h e i

function_by : (at to : Around) (m : Option Declaration) → ((d : Declaration) → m ≡ Some d → declared_callee at d ≡ declared_callee to d) → function_at at m ≡ function_at to m
function_by at to (Some (declaration.Function k)) f = f (declaration.Function k) refl
function_by at to m f = refl

function_alike : (at to : Around) (e : Expr) → IsPartAlike at to (Function e) → function_of at e ≡ function_of to e
function_alike at to (tree.Name p n) h = function_by at to (meaning at.scope n) h.calls ∙ ap (function_at to) h.stands
function_alike at to e h = refl

last_alike : (at to : Around) (es : Exprs) → All at to (lift_parts es) → last_of at es ≡ last_of to es
last_alike at to no_exprs h = refl
last_alike at to (more_exprs e no_exprs) h = function_alike at to e h.0
last_alike at to (more_exprs e (more_exprs f es)) h = last_alike at to (more_exprs f es) (split at to (parts e) (lift_parts (more_exprs f es)) h).1

-- a call of `lift`, or another one
either : (at to : Around) {A : Type 0} (b : Bool) (ps qs : List Part) (x y u v : A) → (All at to ps → x ≡ u) → (All at to qs → y ≡ v) → All at to (if b then ps else qs) → (if b then x else y) ≡ (if b then u else v)
either at to true ps qs x y u v f g h = f h
either at to false ps qs x y u v f g h = g h

mutual
  alike : (at to : Around) (e : Expr) → at.setting ≡ to.setting → All at to (parts e) → judge at e ≡ judge to e
  alike at to (tree.If p c a b) s h =
      let outer = split at to (parts c ++ parts a) (parts b) h.1 in
      let inner = split at to (parts c) (parts a) outer.0 in
      λ i. with_three (if_rule (s i)) (of_verdict (alike at to c s inner.0 i)) (of_verdict (alike at to a s inner.1 i)) (of_verdict (alike at to b s outer.1 i))
  alike at to (tree.Chain p l e ls) s h =
      let both = split at to (parts e) (link_parts ls) h.1 in
      λ i. option_and_then (λ u. links_alike at to l u ls s both.1 i) (of_verdict (alike at to e s both.0 i))
  alike at to (tree.Compare p o a b) s h =
      let both = split at to (parts a) (parts b) h.1 in
      λ i. with_two (compare_rule (s i) o) (of_verdict (alike at to a s both.0 i)) (of_verdict (alike at to b s both.1 i))
  alike at to (tree.Negate p e) s h = λ i. with_one (negate_rule (s i)) (of_verdict (alike at to e s h.1 i))
  alike at to (tree.Not p e) s h = λ i. with_one (not_rule (s i)) (of_verdict (alike at to e s h.1 i))
  alike at to (tree.Number p n) s h = λ i. Some (Ok (lifted (s i) int))
  alike at to (tree.Negative p n) s h = λ i. Some (Ok (lifted (s i) int))
  alike at to (tree.Text p t) s h = λ i. Some (Ok (lifted (s i) text))
  alike at to (tree.Boolean p b) s h = λ i. Some (Ok (lifted (s i) bool))
  alike at to (tree.Unit p) s h = λ i. Some (Ok (lifted (s i) unit))
  alike at to (tree.Name p n) s h = λ i. if is_unit n then Some (Ok (expr_type.Stream unit)) else is_just (mention_alike at to n h.0 i)
  alike at to (tree.Call p n es) s h =
      either at to (is_lift n) (lift_parts es) (argument_parts es) (lifted_by (streams_of at es) (last_of at es)) (named_call at n es (types_of at es)) (lifted_by (streams_of to es) (last_of to es)) (named_call to n es (types_of to es))
      (λ k i. lifted_by (streams_alike at to es s k i) (last_alike at to es k i))
      (λ k. named_alike at to n es (types_of at es) (types_of to es) s h.0 (types_alike at to es s k))
      h.1
  alike at to (tree.CallDotted p d es) s h = λ i. option_map (dotted_rule (s i) d) (types_alike at to es s h.1 i)
  alike at to (tree.Nil p y) s h = refl
  alike at to (tree.None p y) s h = refl
  alike at to (tree.Empty p a) s h = refl

  types_alike : (at to : Around) (es : Exprs) → at.setting ≡ to.setting → All at to (argument_parts es) → types_of at es ≡ types_of to es
  types_alike at to no_exprs s h = refl
  types_alike at to (more_exprs e es) s h =
      let both = split at to (parts e) (argument_parts es) h in
      λ i. cons (of_verdict (alike at to e s both.0 i)) (types_alike at to es s both.1 i)

  links_alike : (at to : Around) (l : Level) (u : ExprType) (ls : Links) → at.setting ≡ to.setting → All at to (link_parts ls) → judge_links at l u ls ≡ judge_links to l u ls
  links_alike at to l u no_links s h = refl
  links_alike at to l u (more_links o e ls) s h =
      let both = split at to (parts e) (link_parts ls) h in
      λ i. next_link (s i) l u (of_verdict (alike at to e s both.0 i)) (λ x. links_alike at to l x ls s both.1 i)

  streams_alike : (at to : Around) (es : Exprs) → at.setting ≡ to.setting → All at to (lift_parts es) → streams_of at es ≡ streams_of to es
  streams_alike at to no_exprs s h = refl
  streams_alike at to (more_exprs e no_exprs) s h = refl
  streams_alike at to (more_exprs e (more_exprs f es)) s h =
      let both = split at to (parts e) (lift_parts (more_exprs f es)) h in
      λ i. cons (of_verdict (alike at to e s both.0 i)) (streams_alike at to (more_exprs f es) s both.1 i)

-- an expression is the same where all the names that it mentions are alike
pub judged_alike : (at to : Around) (e : Expr) → MentionsAlike at to e → judge at e ≡ judge to e
judged_alike at to e h = alike at to e h.same_setting h.names

pub type_alike : (at to : Around) (e : Expr) → MentionsAlike at to e → type_of at e ≡ type_of to e
type_alike at to e h = ap of_verdict (judged_alike at to e h)

-- where names are alike, whatever is mentioned
parts_alike : (at to : Around) (p : Part) → ((n : List ℕ) → IsAlike at to n) → IsPartAlike at to p
parts_alike at to (Operand (tree.Name p n)) f = f n
parts_alike at to (Operand (tree.Call p n es)) f = f n
parts_alike at to (Function (tree.Name p n)) f = f n
parts_alike at to p f = tt

all_alike : (at to : Around) (ps : List Part) → ((n : List ℕ) → IsAlike at to n) → All at to ps
all_alike at to [] f = tt
all_alike at to (p ∷ ps) f = (parts_alike at to p f, all_alike at to ps f)

pub names_alike : (at to : Around) (e : Expr) → at.setting ≡ to.setting → ((n : List ℕ) → IsAlike at to n) → MentionsAlike at to e
names_alike at to e s f = record { same_setting = s; names = all_alike at to (parts e) f }

-- ---- the same but for the table of kinds
abbrev pub knowing : Around → Kinds → Around
knowing at kinds = record at { kinds = kinds }

type_known : (at : Around) (kinds : Kinds) (d : Declaration) → known at.kinds at.number d ≡ known kinds at.number d → declared_type at d ≡ declared_type (knowing at kinds) d
type_known at kinds (declaration.Input j) e = e
type_known at kinds (declaration.Stream j) e = e
type_known at kinds (declaration.Local k) e = e
type_known at kinds d e = refl

call_known : (at : Around) (kinds : Kinds) (d : Declaration) → known at.kinds at.number d ≡ known kinds at.number d → declared_callee at d ≡ declared_callee (knowing at kinds) d
call_known at kinds (declaration.Macro j) e = ap (callee_of (param_types (params_of (slice_get at.items j)))) e
call_known at kinds (declaration.Function j) e = ap (callee_of (param_types (params_of (slice_get at.items j)))) e
call_known at kinds d e = refl

name_known : (at : Around) (kinds : Kinds) (n : List ℕ) → IsKnownAlike at kinds n → IsAlike at (knowing at kinds) n
name_known at kinds n h = record {
  stands = refl;
  types = λ d is. type_known at kinds d (h.same d is);
  calls = λ d is. call_known at kinds d (h.same d is);
}

part_known : (at : Around) (kinds : Kinds) (p : Part) → IsPartKnownAlike at kinds p → IsPartAlike at (knowing at kinds) p
part_known at kinds (Operand (tree.Name p n)) h = name_known at kinds n h
part_known at kinds (Operand (tree.Call p n es)) h = name_known at kinds n h
part_known at kinds (Function (tree.Name p n)) h = name_known at kinds n h
part_known at kinds p h = tt

all_known : (at : Around) (kinds : Kinds) (ps : List Part) → AllByRecursion (IsPartKnownAlike at kinds) ps → All at (knowing at kinds) ps
all_known at kinds [] h = tt
all_known at kinds (p ∷ ps) h = (part_known at kinds p h.0, all_known at kinds ps h.1)

-- two tables that say the same of the names that an expression mentions give it the same
pub judged_by_kinds : (at : Around) (kinds : Kinds) (e : Expr) → AllByRecursion (IsPartKnownAlike at kinds) (parts e) → judge at e ≡ judge (knowing at kinds) e
judged_by_kinds at kinds e h = alike at (knowing at kinds) e refl (all_known at kinds (parts e) h)

pub kind_by_kinds : (at : Around) (kinds : Kinds) (e : Expr) → AllByRecursion (IsPartKnownAlike at kinds) (parts e) → expr_kind at e ≡ expr_kind (knowing at kinds) e
kind_by_kinds at kinds e h = ap (λ v. option_and_then (λ u. fitting (body_rule at.setting None u) u) (of_verdict v)) (judged_by_kinds at kinds e h)
