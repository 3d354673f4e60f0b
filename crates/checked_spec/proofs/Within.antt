-- What stands in the parts of an expression stands in the expression itself.
use Rattle.std.proofs.Common.{◌≡◌, ℕ, Bool, true, false, cond, List, [], ◌∷◌, ◌++◌, map, Option, Some, None, refl, sym, subst, ◌∙◌}
use Rattle.std.specs.Prelude.{is_none, if◌then◌else◌}
use Rattle.std.specs.List.{AllByRecursion, Contains, filter}
use Rattle.std.specs.Option.{option_and_then}
use Rattle.std.proofs.lemmas.Bool.{true≢false}
use Rattle.std.proofs.lemmas.List.Elements.{Contains-append_left, Contains-append_right}
use Rattle.tsl_value.specs.declared.place.Place.{Place}
use Rattle.tsl_value.specs.declared.scalar.Scalar.{Scalar}
use Rattle.tsl_value.specs.declared.scalar.Scalar.TheVariants as scalar
use Rattle.tsl_value.specs.declared.scalar.ValueType.{ValueType}
use Rattle.flat_core.proofs.Members.{contains_tail, all_at}
use Rattle.syntax_tree.specs.Tree as tree
use Rattle.syntax_tree.specs.Tree.{Expr, Exprs, no_exprs, more_exprs, Links, no_links, more_links}
use Rattle.syntax_tree.specs.declared.tree.Level.{Level}
use Rattle.vocabulary.specs.declared.signature.Role.{Role}
use Rattle.vocabulary.specs.declared.signature.Role.TheVariants as role
use Rattle.vocabulary.specs.Table.{role_of}
use Rattle.vocabulary.specs.declared.plain.Plain.{Plain}
use Rattle.vocabulary.specs.declared.plain.Plain.TheVariants as language
use Rattle.vocabulary.specs.PlainTable.{spelling}
use Rattle.name_check.specs.declared.declaration.Declaration.{Declaration}
use Rattle.name_check.specs.declared.declaration.Declaration.TheVariants as declaration
use Rattle.name_check.specs.Builtin.{is_unit, is_lift, is_called}
use Rattle.name_check.specs.Scope.{meaning}
use Rattle.name_check.specs.Parts.{Part, Operand, parts, argument_parts, lift_parts, link_parts}
use Rattle.type_rules.specs.Written.{aggregate_of}
use Rattle.stream_constructs.specs.Construct.{Construct}
use Rattle.stream_constructs.specs.Construct as construct
use Rattle.spec_meaning.specs.Occurrence.{Call, Occurrence, scope_at, macro_result}
use Rattle.spec_meaning.specs.Function.{literal}
use Rattle.spec_meaning.specs.Shape.{Shape, expressions, is_part, beside, with_parts, role_shape, plain_name, is_delay, is_const, is_filter, const_shape, filtered_by, filter_shape, lift_by, function_named, lift_shape, name_shape, declared_shape, empty_shape, same_as, expr_shape}
use Rattle.spec_meaning.specs.Makes.{is_own}
use Rattle.checked_spec.specs.inner.Inner.{StandsIn, has_links, operands_after}
use Rattle.checked_spec.proofs.Expressions.{IsNotOwn, same_not_own, name_not_own}
use Rattle.checked_spec.proofs.Words as words
use Rattle.checked_spec.proofs.Words.{IsWord, is_word}
use Rattle.checked_spec.proofs.Calls.{declared_name, declared_made}
use Rattle.checked_spec.proofs.Lifts.{front, final, shape_final}

-- ---- expressions that stand among some parts
abbrev AllStandIn : List Part → List Expr → Type 0
AllStandIn among es = AllByRecursion (StandsIn among) es

-- in more parts
after : (some more : List Part) (es : List Expr) → AllStandIn more es → AllStandIn (some ++ more) es
after some more [] all = tt
after some more (e ∷ es) all = (λ part h. Contains-append_right some more part (all.0 part h), after some more es all.1)

in_front : (e : Expr) (more : List Part) → StandsIn (parts e ++ more) e
in_front e more part h = Contains-append_left (parts e) more part h

arguments_in : (es : Exprs) → AllStandIn (argument_parts es) (expressions es)
arguments_in no_exprs = tt
arguments_in (more_exprs e es) = (in_front e (argument_parts es), after (parts e) (argument_parts es) (expressions es) (arguments_in es))

front_in : (e : Expr) (es : Exprs) → AllStandIn (lift_parts (more_exprs e es)) (front e es)
front_in e no_exprs = tt
front_in e (more_exprs f es) = (in_front e (lift_parts (more_exprs f es)), after (parts e) (lift_parts (more_exprs f es)) (front f es) (front_in f es))

links_in : (ls : Links) → AllStandIn (link_parts ls) (operands_after ls)
links_in no_links = tt
links_in (more_links o f ls) = (in_front f (link_parts ls), after (parts f) (link_parts ls) (operands_after ls) (links_in ls))

pub operand_in : (p : Place) (l : Level) (e : Expr) (ls : Links) (f : Expr) → Contains (e ∷ operands_after ls) f → StandsIn (parts (tree.Chain p l e ls)) f
operand_in p l e ls f h =
    let all : AllStandIn (parts e ++ link_parts ls) (e ∷ operands_after ls) = (in_front e (link_parts ls), after (parts e) (link_parts ls) (operands_after ls) (links_in ls)) in
    λ part k. contains_tail (Operand (tree.Chain p l e ls)) (parts e ++ link_parts ls) part (all_at (StandsIn (parts e ++ link_parts ls)) (e ∷ operands_after ls) all f h part k)

-- ---- shapes of which the parts stand among these, but for those that only stand for something
abbrev PartsIn : List Part → Option Shape → Type 0
PartsIn among None = Unit {0}
PartsIn among (Some sh) = is_own sh.construct ≡ true → AllByRecursion (λ a. StandsIn among a.expr) sh.parts

no_parts : (among : List Part) (o : Option Shape) → IsNotOwn o → PartsIn among o
no_parts among None h = tt
no_parts among (Some sh) h = λ own. absurd (true≢false (sym own ∙ h))

below : (own : Part) (more : List Part) (o : Option Shape) → PartsIn more o → PartsIn (own ∷ more) o
below own more None all = tt
below own more (Some sh) all = λ is_own. each sh.parts (all is_own)
  where
    each : (os : List Occurrence) → AllByRecursion (λ a. StandsIn more a.expr) os → AllByRecursion (λ a. StandsIn (own ∷ more) a.expr) os
    each [] all = tt
    each (o ∷ os) all = (λ part h. contains_tail own more part (all.0 part h), each os all.1)

module _ (cs : List Call) (among : List Part) where
  all_parts : (es : List Expr) → AllStandIn among es → AllByRecursion (λ a. StandsIn among a.expr) (map (beside cs) es)
  all_parts [] all = tt
  all_parts (e ∷ es) all = (all.0, all_parts es all.1)

  -- literals are no parts
  some_parts : (es : List Expr) → AllStandIn among es → AllByRecursion (λ a. StandsIn among a.expr) (map (beside cs) (filter is_part es))
  some_parts [] all = tt
  some_parts (e ∷ es) all = either (literal e) (some_parts es all.1)
    where
      either : (s : Option Scalar) → AllByRecursion (λ a. StandsIn among a.expr) (map (beside cs) (filter is_part es)) → AllByRecursion (λ a. StandsIn among a.expr) (map (beside cs) (cond (is_none s) (e ∷ filter is_part es) (filter is_part es)))
      either (Some s) more = more
      either None more = (all.0, more)

  const_parts : (es : List Expr) → AllStandIn among es → PartsIn among (const_shape cs es)
  const_parts [] all = tt
  const_parts (v ∷ []) all = tt
  const_parts (v ∷ e ∷ []) all = either (literal v)
    where
      either : (s : Option Scalar) → PartsIn among (option_and_then (λ c. with_parts cs (construct.Const c) (e ∷ [])) s)
      either (Some s) = λ own. (all.1.0, tt)
      either None = tt
  const_parts (v ∷ e ∷ f ∷ es) all = tt

  filter_parts : (es : List Expr) → AllStandIn among es → PartsIn among (filter_shape cs es)
  filter_parts [] all = tt
  filter_parts (e ∷ []) all = tt
  filter_parts (e ∷ c ∷ []) all = either (literal c)
    where
      either : (s : Option Scalar) → PartsIn among (filtered_by cs e c s)
      either (Some (scalar.Bool b)) = λ own. (all.0, tt)
      either s = λ own. all
  filter_parts (e ∷ c ∷ f ∷ es) all = tt

  role_parts : (r : Role) (es : List Expr) → AllStandIn among es → PartsIn among (role_shape cs r es)
  role_parts (role.Update o) es all = λ own. some_parts es all
  role_parts r es all = λ own. some_parts es all

module _ (items : List tree.Item) (cs : List Call) where
  -- ---- calls
  lift_by_parts : (among : List Part) (streams : List Expr) (f : Expr) (d : Option Declaration) → AllStandIn among streams → PartsIn among (lift_by items cs streams f d)
  lift_by_parts among streams f (Some (declaration.Function i)) all = λ own. all_parts cs among streams all
  lift_by_parts among streams f d all = tt

  lifted_parts : (es : Exprs) → PartsIn (lift_parts es) (lift_shape items cs [] (expressions es))
  lifted_parts no_exprs = tt
  lifted_parts (more_exprs e es) =
      subst (PartsIn (lift_parts (more_exprs e es))) (sym (shape_final items cs [] e es))
      (lift_by_parts (lift_parts (more_exprs e es)) (front e es) (final e es) (function_named items (scope_at items cs) (final e es)) (front_in e es))

  declared_parts : (d : Option Declaration) (es : Exprs) → PartsIn (argument_parts es) (declared_shape items cs d es)
  declared_parts (Some (declaration.Macro i)) es = no_parts (argument_parts es) (same_as (macro_result items cs i es)) (same_not_own (macro_result items cs i es))
  declared_parts (Some (declaration.Function i)) es = λ own. some_parts cs (argument_parts es) (expressions es) (arguments_in es)
  declared_parts d es = tt

  module _ (p : Place) (es : Exprs) where
    abbrev CallIn : List ℕ → Type 0
    CallIn x = PartsIn (if is_lift x then lift_parts es else argument_parts es) (expr_shape items cs (tree.Call p x es))

    plain_parts : (c : Construct) → PartsIn (argument_parts es) (with_parts cs c (expressions es))
    plain_parts c = λ own. all_parts cs (argument_parts es) (expressions es) (arguments_in es)

    word_parts : (w : Plain) → CallIn (spelling w)
    unfolding is_lift plain_name is_delay is_const is_filter
    word_parts language.Time = plain_parts construct.Time
    word_parts language.Last = plain_parts construct.Last
    word_parts language.Delay = plain_parts construct.Delay
    word_parts language.Merge = plain_parts construct.Merge
    word_parts language.Default = plain_parts construct.Merge
    word_parts language.Lift = lifted_parts es
    word_parts language.Const = const_parts cs (argument_parts es) (expressions es) (arguments_in es)
    word_parts language.Filter = filter_parts cs (argument_parts es) (expressions es) (arguments_in es)
    word_parts language.IsSome = declared_parts (meaning (scope_at items cs) (spelling language.IsSome)) es
    word_parts language.IsNone = declared_parts (meaning (scope_at items cs) (spelling language.IsNone)) es
    word_parts language.GetSome = declared_parts (meaning (scope_at items cs) (spelling language.GetSome)) es
    word_parts language.Some = declared_parts (meaning (scope_at items cs) (spelling language.Some)) es

    other_parts : (x : List ℕ) → is_called x ≡ false → CallIn x
    other_parts x none =
        let n = declared_name x none in
        subst (λ b. PartsIn (if b then lift_parts es else argument_parts es) (expr_shape items cs (tree.Call p x es))) (sym n.no_lift)
        (subst (PartsIn (argument_parts es)) (sym (declared_made items cs p x es n)) (declared_parts (meaning (scope_at items cs) x) es))

    call_parts : (x : List ℕ) → CallIn x
    call_parts x = by (is_word x)
      where
        by : IsWord x → CallIn x
        by (words.word w is) = subst CallIn (sym is) (word_parts w)
        by (words.other none) = other_parts x none

  -- ---- all expressions
  leaf : (among : List Part) (c : Construct) → PartsIn among (with_parts cs c [])
  leaf among c = λ own. tt

  empty_parts : (among : List Part) (o : Option ValueType) → PartsIn among (empty_shape items cs o)
  empty_parts among (Some t) = λ own. tt
  empty_parts among None = tt

  one_in : (among : List Part) (e : Expr) → StandsIn among e → AllByRecursion (λ a. StandsIn among a.expr) (map (beside cs) (filter is_part (e ∷ [])))
  one_in among e h = some_parts cs among (e ∷ []) (h, tt)

  two_in : (a b : Expr) → AllByRecursion (λ o. StandsIn (parts a ++ parts b) o.expr) (map (beside cs) (filter is_part (a ∷ b ∷ [])))
  two_in a b = some_parts cs (parts a ++ parts b) (a ∷ b ∷ []) (in_front a (parts b), (λ part h. Contains-append_right (parts a) (parts b) part h, tt))

  three_in : (c a b : Expr) → AllByRecursion (λ o. StandsIn (parts c ++ parts a ++ parts b) o.expr) (map (beside cs) (filter is_part (c ∷ a ∷ b ∷ [])))
  three_in c a b =
      some_parts cs (parts c ++ parts a ++ parts b) (c ∷ a ∷ b ∷ []) (
        λ part h. Contains-append_left (parts c ++ parts a) (parts b) part (Contains-append_left (parts c) (parts a) part h),
        (λ part h. Contains-append_left (parts c ++ parts a) (parts b) part (Contains-append_right (parts c) (parts a) part h), (λ part h. Contains-append_right (parts c ++ parts a) (parts b) part h, tt)),
      )

  named_parts : (among : List Part) (b : Bool) (d : Option Declaration) → PartsIn among (if b then with_parts cs construct.Unit [] else name_shape items cs d)
  named_parts among true d = λ own. tt
  named_parts among false d = no_parts among (name_shape items cs d) (name_not_own items cs d)

  inner_parts : (e : Expr) → has_links e ≡ false → PartsIn (parts e) (expr_shape items cs e)
  inner_parts (tree.If p c a b) plain = below (Operand (tree.If p c a b)) (parts c ++ parts a ++ parts b) (expr_shape items cs (tree.If p c a b)) (λ own. three_in c a b)
  inner_parts (tree.Chain p l e no_links) plain = no_parts (parts (tree.Chain p l e no_links)) (expr_shape items cs (tree.Chain p l e no_links)) refl
  inner_parts (tree.Chain p l e (more_links o f ls)) plain = absurd (true≢false plain)
  inner_parts (tree.Compare p o a b) plain = below (Operand (tree.Compare p o a b)) (parts a ++ parts b) (expr_shape items cs (tree.Compare p o a b)) (λ own. two_in a b)
  inner_parts (tree.Negate p e) plain = below (Operand (tree.Negate p e)) (parts e) (expr_shape items cs (tree.Negate p e)) (λ own. one_in (parts e) e (λ part h. h))
  inner_parts (tree.Not p e) plain = below (Operand (tree.Not p e)) (parts e) (expr_shape items cs (tree.Not p e)) (λ own. one_in (parts e) e (λ part h. h))
  inner_parts (tree.Number p n) plain = λ own. tt
  inner_parts (tree.Negative p n) plain = λ own. tt
  inner_parts (tree.Text p x) plain = λ own. tt
  inner_parts (tree.Boolean p b) plain = λ own. tt
  inner_parts (tree.Unit p) plain = λ own. tt
  inner_parts (tree.Name p x) plain = named_parts (parts (tree.Name p x)) (is_unit x) (meaning (scope_at items cs) x)
  inner_parts (tree.Call p x es) plain = below (Operand (tree.Call p x es)) (if is_lift x then lift_parts es else argument_parts es) (expr_shape items cs (tree.Call p x es)) (call_parts p es x)
  inner_parts (tree.CallDotted p d es) plain = below (Operand (tree.CallDotted p d es)) (argument_parts es) (role_shape cs (role_of d) (expressions es)) (role_parts cs (argument_parts es) (role_of d) (expressions es) (arguments_in es))
  inner_parts (tree.Nil p y) plain = λ own. tt
  inner_parts (tree.None p y) plain = tt
  inner_parts (tree.Empty p a) plain = empty_parts (parts (tree.Empty p a)) (aggregate_of a)

pub subs_stand_in : (items : List tree.Item) (o : Occurrence) (sh : Shape) → expr_shape items o.calls o.expr ≡ Some sh → is_own sh.construct ≡ true → has_links o.expr ≡ false → AllByRecursion (λ a. StandsIn (parts o.expr) a.expr) sh.parts
subs_stand_in items o sh is own plain = subst (PartsIn (parts o.expr)) is (inner_parts items o.calls o.expr plain) own

pub argument_stands_in : (p : Place) (x : List ℕ) (es : Exprs) → is_lift x ≡ false → AllStandIn (parts (tree.Call p x es)) (expressions es)
argument_stands_in p x es none =
    subst (λ b. AllStandIn (Operand (tree.Call p x es) ∷ (if b then lift_parts es else argument_parts es)) (expressions es)) (sym none)
    (after (Operand (tree.Call p x es) ∷ []) (argument_parts es) (expressions es) (arguments_in es))
