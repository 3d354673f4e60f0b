-- A call is made of what the name says that is found of it among the language's own.
use Rattle.std.proofs.Common.{◌≡◌, ℕ, List, length, drop, Option, Some, None, refl, ◌∙◌}
use Rattle.tsl_value.specs.declared.scalar.Scalar.TheVariants as scalar
use Rattle.syntax_tree.specs.Tree.{Expr}
use Rattle.vocabulary.specs.PlainTable.{plain_of}
use Rattle.name_check.specs.Builtin.{is_lift}
use Rattle.name_check.specs.Scope.{Scope, meaning}
use Rattle.stream_constructs.specs.Construct.{Construct}
use Rattle.stream_constructs.specs.Construct as construct
use Rattle.spec_meaning.specs.Function.{no_tree}
use Rattle.spec_meaning.specs.Shape.{plain_name, is_delay, is_const, is_filter}
use Rattle.spec_meaning.specs.inner.Plain.{by_tests}
use Rattle.spec_meaning.proofs.Names.{tests_as_found}
use Rattle.equation_marks.specs.inner.Counted.{own_count}
use Rattle.equation_marks.specs.inner.Calls.{of_streams, filter_parts, front, declared_parts, named_parts, call_parts, plain_parts}

as_tested : (scope : Scope) (n : List ℕ) (es : List Expr) (o : Option Construct) → named_parts scope n es o ≡ by_tests (λ c. of_streams es (own_count c (length es))) (of_streams es (own_count construct.Delay (length es))) (of_streams (drop 1 es) (own_count (construct.Const scalar.Unit) 1)) (filter_parts es) (of_streams (front es) (own_count (construct.Lift no_tree) (length (front es)))) (declared_parts (meaning scope n) es) o (is_delay n) (is_const n) (is_filter n) (is_lift n)
as_tested scope n es (Some c) = refl
as_tested scope n es None = refl

pub call_as_plain : (scope : Scope) (n : List ℕ) (es : List Expr) → call_parts scope n es ≡ plain_parts scope n es (plain_of n)
call_as_plain scope n es =
    as_tested scope n es (plain_name n)
    ∙ tests_as_found (λ c. of_streams es (own_count c (length es))) (of_streams es (own_count construct.Delay (length es))) (of_streams (drop 1 es) (own_count (construct.Const scalar.Unit) 1)) (filter_parts es) (of_streams (front es) (own_count (construct.Lift no_tree) (length (front es)))) (declared_parts (meaning scope n) es) n
