-- The parts of an expression with a construct of its own are smaller than it, all together.
use Rattle.std.proofs.Common.{◌≡◌, ℕ, zero, suc, ◌+◌, ◌*◌, ◌≤◌, ◌<◌, Bool, true, false, cond, List, [], ◌∷◌, map, length, get_or, Option, Some, None, refl, ap, sym, subst, ◌∙◌, arith}
use Rattle.std.specs.Prelude.{if◌then◌else◌}
use Rattle.std.specs.List.{filter}
use Rattle.std.specs.Option.{option_and_then}
use Rattle.std.proofs.lemmas.Bool.{true≢false}
use Rattle.tsl_value.specs.declared.place.Place.{Place}
use Rattle.tsl_value.specs.declared.scalar.Scalar.{Scalar}
use Rattle.tsl_value.specs.declared.scalar.Scalar.TheVariants as scalar
use Rattle.tsl_value.specs.declared.scalar.ValueType.{ValueType}
use Rattle.syntax_tree.specs.Tree as tree
use Rattle.syntax_tree.specs.Tree.{Expr, Exprs, no_exprs, more_exprs, no_links, more_links}
use Rattle.syntax_tree.specs.inner.OneLevel.{item_of, size_of, size_of_exprs}
use Rattle.syntax_tree.specs.declared.tree.Item.{Item}
use Rattle.vocabulary.specs.declared.signature.Role.{Role}
use Rattle.vocabulary.specs.declared.signature.Role.TheVariants as role
use Rattle.vocabulary.specs.Table.{role_of}
use Rattle.vocabulary.specs.declared.plain.Plain.{Plain}
use Rattle.vocabulary.specs.declared.plain.Plain.TheVariants as language
use Rattle.vocabulary.specs.PlainTable.{spelling}
use Rattle.name_check.specs.declared.declaration.Declaration.{Declaration}
use Rattle.name_check.specs.declared.declaration.Declaration.TheVariants as declaration
use Rattle.name_check.specs.Builtin.{is_unit, is_lift}
use Rattle.name_check.specs.Scope.{meaning}
use Rattle.type_rules.specs.Written.{aggregate_of}
use Rattle.stream_constructs.specs.Construct.{Construct}
use Rattle.stream_constructs.specs.Construct as construct
use Rattle.spec_meaning.specs.Occurrence.{Call, Occurrence, scope_at, macro_result}
use Rattle.spec_meaning.specs.Function.{literal}
use Rattle.spec_meaning.specs.Shape.{Shape, expressions, is_part, beside, with_parts, role_shape, plain_name, is_delay, is_const, is_filter, const_shape, filtered_by, filter_shape, lift_by, function_named, lift_shape, name_shape, declared_shape, empty_shape, same_as, expr_shape}
use Rattle.spec_meaning.specs.Makes.{is_own}
use Rattle.checked_spec.specs.inner.Inner.{has_links}
use Rattle.equation_marks.proofs.Weights.{items_weight}
use Rattle.checked_spec.proofs.Expressions.{IsNotOwn, same_not_own, name_not_own}
use Rattle.checked_spec.proofs.Words as words
use Rattle.checked_spec.proofs.Words.{IsWord, is_word}
use Rattle.checked_spec.proofs.Calls.{declared_name, declared_made}
use Rattle.checked_spec.proofs.Lifts.{front, final, shape_final}

abbrev pub total_size : List Expr → ℕ
total_size [] = 0
total_size (e ∷ es) = size_of e + total_size es

abbrev pub parts_size : List Occurrence → ℕ
parts_size [] = 0
parts_size (o ∷ os) = size_of o.expr + parts_size os

-- ---- lists of expressions
beside_size : (cs : List Call) (es : List Expr) → parts_size (map (beside cs) es) ≡ total_size es
beside_size cs [] = refl
beside_size cs (e ∷ es) = ap (λ n. size_of e + n) (beside_size cs es)

some_size : (es : List Expr) → total_size (filter is_part es) ≤ total_size es
some_size [] = omega arith
some_size (e ∷ es) = by (is_part e) (some_size es)
  where
    by : (b : Bool) → total_size (filter is_part es) ≤ total_size es → total_size (cond b (e ∷ filter is_part es) (filter is_part es)) ≤ size_of e + total_size es
    by true h = omega arith
    by false h = omega arith

arguments_size : (es : Exprs) → total_size (expressions es) < size_of_exprs es
arguments_size no_exprs = omega arith
arguments_size (more_exprs e es) = let rest = arguments_size es in omega arith

front_size : (e : Expr) (es : Exprs) → total_size (front e es) < size_of_exprs (more_exprs e es)
front_size e no_exprs = omega arith
front_size e (more_exprs f es) = let rest = front_size f es in omega arith

-- ---- shapes of which the parts have no more than a size together, but for those that only stand for something
abbrev Within : ℕ → Option Shape → Type 0
Within n None = Unit {0}
Within n (Some sh) = is_own sh.construct ≡ true → parts_size sh.parts < n

never : (n : ℕ) (o : Option Shape) → IsNotOwn o → Within n o
never n None h = tt
never n (Some sh) h = λ own. absurd (true≢false (sym own ∙ h))

all_less : (n : ℕ) (cs : List Call) (es : List Expr) → total_size es < n → parts_size (map (beside cs) es) < n
all_less n cs es h = let same = beside_size cs es in omega arith

some_less : (n : ℕ) (cs : List Call) (es : List Expr) → total_size es < n → parts_size (map (beside cs) (filter is_part es)) < n
some_less n cs es h =
    let same = beside_size cs (filter is_part es) in
    let less = some_size es in
    omega arith

more_within : (m n : ℕ) (o : Option Shape) → m ≤ n → Within m o → Within n o
more_within m n None h w = tt
more_within m n (Some sh) h w = λ own. let less = w own in omega arith

const_within : (cs : List Call) (es : Exprs) → Within (size_of_exprs es) (const_shape cs (expressions es))
const_within cs no_exprs = tt
const_within cs (more_exprs v no_exprs) = tt
const_within cs (more_exprs v (more_exprs e no_exprs)) = by (literal v)
  where
    by : (s : Option Scalar) → Within (size_of_exprs (more_exprs v (more_exprs e no_exprs))) (option_and_then (λ c. with_parts cs (construct.Const c) (e ∷ [])) s)
    by (Some s) = λ own. omega arith
    by None = tt
const_within cs (more_exprs v (more_exprs e (more_exprs f es))) = tt

filter_within : (cs : List Call) (es : Exprs) → Within (size_of_exprs es) (filter_shape cs (expressions es))
filter_within cs no_exprs = tt
filter_within cs (more_exprs e no_exprs) = tt
filter_within cs (more_exprs e (more_exprs c no_exprs)) = by (literal c)
  where
    by : (s : Option Scalar) → Within (size_of_exprs (more_exprs e (more_exprs c no_exprs))) (filtered_by cs e c s)
    by (Some (scalar.Bool b)) = λ own. omega arith
    by s = λ own. omega arith
filter_within cs (more_exprs e (more_exprs c (more_exprs f es))) = tt

role_within : (n : ℕ) (cs : List Call) (r : Role) (es : List Expr) → total_size es < n → Within n (role_shape cs r es)
role_within n cs (role.Update o) es h = λ own. some_less n cs es h
role_within n cs r es h = λ own. some_less n cs es h

module _ (items : List tree.Item) (cs : List Call) where
  lift_by_within : (n : ℕ) (streams : List Expr) (f : Expr) (d : Option Declaration) → total_size streams < n → Within n (lift_by items cs streams f d)
  lift_by_within n streams f (Some (declaration.Function i)) h = λ own. all_less n cs streams h
  lift_by_within n streams f d h = tt

  lifted_within : (es : Exprs) → Within (size_of_exprs es) (lift_shape items cs [] (expressions es))
  lifted_within no_exprs = tt
  lifted_within (more_exprs e es) =
      subst (Within (size_of_exprs (more_exprs e es))) (sym (shape_final items cs [] e es))
      (lift_by_within (size_of_exprs (more_exprs e es)) (front e es) (final e es) (function_named items (scope_at items cs) (final e es)) (front_size e es))

  declared_within : (d : Option Declaration) (es : Exprs) → Within (size_of_exprs es) (declared_shape items cs d es)
  declared_within (Some (declaration.Macro i)) es = never (size_of_exprs es) (same_as (macro_result items cs i es)) (same_not_own (macro_result items cs i es))
  declared_within (Some (declaration.Function i)) es = λ own. some_less (size_of_exprs es) cs (expressions es) (arguments_size es)
  declared_within d es = tt

  module _ (p : Place) (es : Exprs) where
    abbrev CallWithin : List ℕ → Type 0
    CallWithin x = Within (size_of_exprs es) (expr_shape items cs (tree.Call p x es))

    word_within : (w : Plain) → CallWithin (spelling w)
    unfolding is_lift plain_name is_delay is_const is_filter
    word_within language.Time = λ own. all_less (size_of_exprs es) cs (expressions es) (arguments_size es)
    word_within language.Last = λ own. all_less (size_of_exprs es) cs (expressions es) (arguments_size es)
    word_within language.Delay = λ own. all_less (size_of_exprs es) cs (expressions es) (arguments_size es)
    word_within language.Merge = λ own. all_less (size_of_exprs es) cs (expressions es) (arguments_size es)
    word_within language.Default = λ own. all_less (size_of_exprs es) cs (expressions es) (arguments_size es)
    word_within language.Lift = lifted_within es
    word_within language.Const = const_within cs es
    word_within language.Filter = filter_within cs es
    word_within language.IsSome = declared_within (meaning (scope_at items cs) (spelling language.IsSome)) es
    word_within language.IsNone = declared_within (meaning (scope_at items cs) (spelling language.IsNone)) es
    word_within language.GetSome = declared_within (meaning (scope_at items cs) (spelling language.GetSome)) es
    word_within language.Some = declared_within (meaning (scope_at items cs) (spelling language.Some)) es

    call_within : (x : List ℕ) → CallWithin x
    call_within x = by (is_word x)
      where
        by : IsWord x → CallWithin x
        by (words.word w is) = subst CallWithin (sym is) (word_within w)
        by (words.other none) = subst (Within (size_of_exprs es)) (sym (declared_made items cs p x es (declared_name x none))) (declared_within (meaning (scope_at items cs) x) es)

  named_within : (n : ℕ) (b : Bool) (d : Option Declaration) → 0 < n → Within n (if b then with_parts cs construct.Unit [] else name_shape items cs d)
  named_within n true d h = λ own. h
  named_within n false d h = never n (name_shape items cs d) (name_not_own items cs d)

  empty_within : (o : Option ValueType) → Within 1 (empty_shape items cs o)
  empty_within (Some t) = λ own. omega arith
  empty_within None = tt

  within : (e : Expr) → has_links e ≡ false → Within (size_of e) (expr_shape items cs e)
  within (tree.If p c a b) plain = λ own. some_less (size_of (tree.If p c a b)) cs (c ∷ a ∷ b ∷ []) (omega arith)
  within (tree.Chain p l e no_links) plain = never (size_of (tree.Chain p l e no_links)) (expr_shape items cs (tree.Chain p l e no_links)) refl
  within (tree.Chain p l e (more_links o f ls)) plain = absurd (true≢false plain)
  within (tree.Compare p o a b) plain = λ own. some_less (size_of (tree.Compare p o a b)) cs (a ∷ b ∷ []) (omega arith)
  within (tree.Negate p e) plain = λ own. some_less (size_of (tree.Negate p e)) cs (e ∷ []) (omega arith)
  within (tree.Not p e) plain = λ own. some_less (size_of (tree.Not p e)) cs (e ∷ []) (omega arith)
  within (tree.Number p n) plain = λ own. omega arith
  within (tree.Negative p n) plain = λ own. omega arith
  within (tree.Text p x) plain = λ own. omega arith
  within (tree.Boolean p b) plain = λ own. omega arith
  within (tree.Unit p) plain = λ own. omega arith
  within (tree.Name p x) plain = named_within 1 (is_unit x) (meaning (scope_at items cs) x) (omega arith)
  within (tree.Call p x es) plain = more_within (size_of_exprs es) (size_of (tree.Call p x es)) (expr_shape items cs (tree.Call p x es)) (omega arith) (call_within p es x)
  within (tree.CallDotted p d es) plain = role_within (size_of (tree.CallDotted p d es)) cs (role_of d) (expressions es) (let less = arguments_size es in omega arith)
  within (tree.Nil p y) plain = λ own. omega arith
  within (tree.None p y) plain = tt
  within (tree.Empty p a) plain = empty_within (aggregate_of a)

pub parts_smaller : (items : List tree.Item) (cs : List Call) (e : Expr) (sh : Shape) → expr_shape items cs e ≡ Some sh → is_own sh.construct ≡ true → has_links e ≡ false → parts_size sh.parts < size_of e
parts_smaller items cs e sh is own plain = subst (Within (size_of e)) is (within items cs e plain) own

-- one of some expressions is no larger than all together
pub one_within : (es : List Expr) (i : ℕ) (e : Expr) → i < length es → e ≡ get_or es i e → size_of e ≤ total_size es
one_within [] i e h is = absurd (omega arith)
one_within (f ∷ es) zero e h is = let same = ap size_of is in omega arith
one_within (f ∷ es) (suc i) e h is = let rest = one_within es i e (omega arith) is in omega arith

-- ---- more than what the body of a macro takes
abbrev pub room : List Item → ℕ
room items = 8 * items_weight (map item_of items) + 16
