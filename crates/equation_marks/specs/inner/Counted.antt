-- Counts of marks, and what counting answers: none is counted beyond more than any system has.
use Rattle.equation_marks.specs.declared.own.TheConstants.{ENOUGH}
use Rattle.std.specs.Prelude.{ℕ, ◌+◌, min, Bool, true, false, not, List, length}
use Rattle.std.specs.List.{filter}
use Rattle.syntax_tree.specs.Tree.{Expr}
use Rattle.vocabulary.specs.declared.dotted.Dotted.{Dotted}
use Rattle.vocabulary.specs.declared.signature.Role.{Role}
use Rattle.vocabulary.specs.declared.signature.Role.TheVariants as role
use Rattle.vocabulary.specs.Table.{role_of}
use Rattle.name_check.specs.inner.Shown.{nowhere}
use Rattle.stream_constructs.specs.Construct.{Construct}
use Rattle.stream_constructs.specs.Construct as construct
use Rattle.stream_constructs.specs.Equations.{lifting}
use Rattle.spec_meaning.specs.Function.{no_tree}
use Rattle.spec_meaning.specs.Shape.{is_part, operands}
use Rattle.equation_marks.specs.Marks.{Mark, any_streams, own_marks, choice_own_marks, varying_count}

-- these after so many, up to 4,097
abbrev pub counted : ℕ → List Mark → ℕ
counted count ms = min (count + length ms) ENOUGH

-- ---- how many equations constructs make besides those of their parts; where they stand does not matter
-- one with so many parts
abbrev pub own_count : Construct → ℕ → ℕ
own_count c k = length (own_marks nowhere c k)

-- a signal lift, whatever its function is
abbrev pub signal_count : ℕ → ℕ
signal_count k = own_count (construct.Signal no_tree) k

-- the lifting of so many operands, which a signal lift and an operation have
abbrev pub lifting_count : ℕ → ℕ
lifting_count k = length (lifting nowhere 0 (any_streams k))

-- the operands that are literals, for each of which an operation has an equation
abbrev pub fixed_count : List Expr → ℕ
fixed_count es = length (filter (λ e. not (is_part e)) es)

-- a choice, between sets or maps or not
abbrev pub choice_count : Bool → List Expr → ℕ
choice_count true es = length (choice_own_marks nowhere (varying_count es) (operands es))
choice_count false es = signal_count (varying_count es)

-- a function with a dot, by what it is
abbrev pub role_count : Role → List Expr → ℕ
role_count (role.Update o) es = own_count (construct.Update o (operands es)) (varying_count es)
role_count r es = signal_count (varying_count es)

abbrev pub dotted_count : Dotted → List Expr → ℕ
dotted_count d es = role_count (role_of d) es
