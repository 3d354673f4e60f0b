-- What a call of a name is made of, for counting.
use Rattle.std.specs.Prelude.{ℕ, Bool, true, false, if◌then◌else◌, List, [], ◌∷◌, drop, length, Option, Some, None}
use Rattle.tsl_value.specs.declared.scalar.Scalar.{Scalar}
use Rattle.tsl_value.specs.declared.scalar.Scalar.TheVariants as scalar
use Rattle.syntax_tree.specs.Tree.{Expr}
use Rattle.vocabulary.specs.declared.plain.Plain.{Plain}
use Rattle.name_check.specs.declared.declaration.Declaration.{Declaration}
use Rattle.name_check.specs.declared.declaration.Declaration.TheVariants as declaration
use Rattle.name_check.specs.Builtin.{is_lift}
use Rattle.name_check.specs.Scope.{Scope, meaning}
use Rattle.stream_constructs.specs.Construct.{Construct}
use Rattle.stream_constructs.specs.Construct as construct
use Rattle.spec_meaning.specs.Function.{literal, no_tree}
use Rattle.spec_meaning.specs.Shape.{plain_name, is_delay, is_const, is_filter}
use Rattle.spec_meaning.specs.inner.Plain.{by_plain}
use Rattle.equation_marks.specs.Marks.{Mark, varying_count}
use Rattle.equation_marks.specs.inner.Counted.{own_count, signal_count}

-- The arguments that are made, those that are made where they are no literals, how many equations are its own, and the macro that is
-- called.
pub record CallParts : Type 0 where
  pub streams : List Expr
  pub operands : List Expr
  pub own : ℕ
  pub callee : Option ℕ

abbrev pub of_streams : List Expr → ℕ → CallParts
of_streams es own = record { streams = es; operands = []; own = own; callee = None }

abbrev pub is_truth : Option Scalar → Bool
is_truth (Some (scalar.Bool b)) = true
is_truth s = false

-- a filter by a literal, and by a stream
abbrev pub filter_parts : List Expr → CallParts
filter_parts (e ∷ c ∷ []) =
    if is_truth (literal c) then of_streams (e ∷ []) (own_count (construct.FilterBy true) 1)
    else of_streams (e ∷ c ∷ []) (own_count construct.Filter 2)
filter_parts es = of_streams [] 0

-- all but the last
abbrev pub front : List Expr → List Expr
front [] = []
front (e ∷ []) = []
front (e ∷ f ∷ es) = e ∷ front (f ∷ es)

abbrev pub declared_parts : Option Declaration → List Expr → CallParts
declared_parts (Some (declaration.Macro i)) es = record { streams = es; operands = []; own = 0; callee = Some i }
declared_parts (Some (declaration.Function i)) es =
    record { streams = []; operands = es; own = signal_count (varying_count es); callee = None }
declared_parts d es = of_streams [] 0

abbrev pub named_parts : Scope → List ℕ → List Expr → Option Construct → CallParts
named_parts scope n es (Some c) = of_streams es (own_count c (length es))
named_parts scope n es None =
    if is_delay n then of_streams es (own_count construct.Delay (length es))
    else if is_const n then of_streams (drop 1 es) (own_count (construct.Const scalar.Unit) 1)
    else if is_filter n then filter_parts es
    else if is_lift n then of_streams (front es) (own_count (construct.Lift no_tree) (length (front es)))
    else declared_parts (meaning scope n) es

abbrev pub call_parts : Scope → List ℕ → List Expr → CallParts
call_parts scope n es = named_parts scope n es (plain_name n)

-- the same, by what is found of the name among the language's own
abbrev pub plain_parts : Scope → List ℕ → List Expr → Option Plain → CallParts
plain_parts scope n es =
    by_plain (λ c. of_streams es (own_count c (length es))) (of_streams es (own_count construct.Delay (length es)))
    (of_streams (drop 1 es) (own_count (construct.Const scalar.Unit) 1)) (filter_parts es)
    (of_streams (front es) (own_count (construct.Lift no_tree) (length (front es)))) (declared_parts (meaning scope n) es)

-- what the macro that is called makes
abbrev pub callee_marks : (ℕ → List Mark) → Option ℕ → List Mark
callee_marks call None = []
callee_marks call (Some i) = call i
