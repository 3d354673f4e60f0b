-- How many marks there are.
use Rattle.equation_marks.specs.declared.own.TheConstants.{ENOUGH}
use Rattle.std.proofs.Common.{◌≡◌, ℕ, zero, suc, ◌+◌, ◌-◌, ◌*◌, ◌<◌, min, Bool, true, false, cond, not, List, [], ◌∷◌, ◌++◌, length, refl, sym, ap, ◌∙◌, arith, length-append}
use Rattle.std.specs.List.{filter}
use Rattle.tsl_value.specs.declared.place.Place.{Place}
use Rattle.syntax_tree.specs.Tree.{Expr}
use Rattle.vocabulary.specs.declared.signature.Role.{Role}
use Rattle.vocabulary.specs.declared.signature.Role.TheVariants as role
use Rattle.name_check.specs.inner.Shown.{nowhere}
use Rattle.expr_types.specs.Around.{Around}
use Rattle.tsl_value.specs.declared.operation.Update.{Update as UpdateOp}
use Rattle.stream_constructs.specs.Construct as construct
use Rattle.spec_meaning.specs.Function.{no_tree}
use Rattle.spec_meaning.specs.Shape.{is_part, operands}
use Rattle.equation_marks.specs.Marks.{Mark, signal_marks, choice_marks, varying_count}
use Rattle.equation_marks.specs.inner.Counted.{counted, own_count, choice_count, role_count, lifting_count, signal_count, fixed_count}
use Rattle.equation_marks.proofs.OwnMarks.{literal_count, lifting_more, length-lift, length-update, length-choice_own, own_many}
use Rattle.equation_marks.proofs.PartMarks.{fixed_are_literals}

-- ---- operands that vary, and those that do not
count_more : (b : Bool) (e : Expr) (es : List Expr) → length (cond b (e ∷ es) es) ≡ length (cond b (e ∷ []) []) + length es
count_more true e es = omega arith
count_more false e es = omega arith

pub varying_more : (e : Expr) (es : List Expr) → varying_count (e ∷ es) ≡ varying_count (e ∷ []) + varying_count es
varying_more e es = count_more (is_part e) e (filter is_part es)

pub varying_two : (a b : Expr) → varying_count (a ∷ b ∷ []) ≡ varying_count (a ∷ []) + varying_count (b ∷ [])
varying_two a b = varying_more a (b ∷ [])

pub varying_three : (a b c : Expr) → varying_count (a ∷ b ∷ c ∷ []) ≡ varying_count (a ∷ []) + varying_count (b ∷ []) + varying_count (c ∷ [])
varying_three a b c = omega (arith, varying_more a (b ∷ c ∷ []), varying_two b c)

pub fixed_and_varying : (es : List Expr) → fixed_count es + varying_count es ≡ length es
fixed_and_varying [] = refl
fixed_and_varying (e ∷ es) = by (is_part e) (fixed_and_varying es)
  where
    by : (b : Bool) → fixed_count es + varying_count es ≡ length es → length (cond (not b) (e ∷ filter (λ x. not (is_part x)) es) (filter (λ x. not (is_part x)) es)) + length (cond b (e ∷ filter is_part es) (filter is_part es)) ≡ suc (length es)
    by true h = omega arith
    by false h = omega arith

pub fixed_three : (a b c : Expr) → fixed_count (a ∷ b ∷ c ∷ []) ≡ 3 - varying_count (a ∷ b ∷ c ∷ [])
fixed_three a b c = let all : fixed_count (a ∷ b ∷ c ∷ []) + varying_count (a ∷ b ∷ c ∷ []) ≡ 3 = fixed_and_varying (a ∷ b ∷ c ∷ []) in omega arith

-- ---- the marks of constructs
pub length-signal : (p : Place) (es : List Expr) → length (signal_marks p es) ≡ signal_count (varying_count es)
length-signal p es = own_many p (construct.Signal no_tree) (varying_count es)

pub length-choice : (at : Around) (call : ℕ → List Mark) (p : Place) (b : Bool) (es : List Expr) → length (choice_marks at call p b es) ≡ choice_count b es
length-choice at call p true es =
    length-choice_own p (varying_count es) (operands es) ∙ sym (length-choice_own nowhere (varying_count es) (operands es))
length-choice at call p false es = length-signal p es

-- ---- what the code adds up
-- lifting some, and more than two
pub signal_some : (k : ℕ) → 0 < k → signal_count k ≡ lifting_count k + 1
signal_some zero some = absurd (omega arith)
signal_some (suc k) some = length-lift nowhere no_tree k

lifting_some : (k : ℕ) → 2 < k → lifting_count k ≡ 1 + 2 * k
lifting_some zero some = absurd (omega arith)
lifting_some (suc zero) some = absurd (omega arith)
lifting_some (suc (suc zero)) some = absurd (omega arith)
lifting_some (suc (suc (suc k))) some = let same : 1 + 2 * (3 + k) ≡ 1 + 2 * suc (suc (suc k)) = omega arith in lifting_more k ∙ same

-- an operation on all operands
operation_count : (es : List Expr) (own : ℕ) → own ≡ lifting_count (varying_count es) + literal_count (operands es) + 1 → own ≡ lifting_count (varying_count es) + fixed_count es + 1
operation_count es own is = is ∙ ap (λ k. lifting_count (varying_count es) + k + 1) (fixed_are_literals es)

update_count : (o : UpdateOp) (es : List Expr) → own_count (construct.Update o (operands es)) (varying_count es) ≡ lifting_count (varying_count es) + fixed_count es + 1
update_count o es = operation_count es _ (length-update nowhere o (operands es) (varying_count es))

aggregate_count : (es : List Expr) → choice_count true es ≡ lifting_count (varying_count es) + fixed_count es + 1
aggregate_count es = operation_count es _ (length-choice_own nowhere (varying_count es) (operands es))

-- as far as is counted
pub lifting_counted : (k r : ℕ) → 2 < k → r ≡ min (1 + 2 * k) ENOUGH → r ≡ min (lifting_count k) ENOUGH
lifting_counted k r some is = is ∙ ap (λ n. min n ENOUGH) (sym (lifting_some k some))

update_counted : (o : UpdateOp) (es : List Expr) (r : ℕ) → r ≡ min (lifting_count (varying_count es) + fixed_count es + 1) ENOUGH → r ≡ min (own_count (construct.Update o (operands es)) (varying_count es)) ENOUGH
update_counted o es r is = is ∙ ap (λ n. min n ENOUGH) (sym (update_count o es))

pub updates_counted : (r : Role) (o : UpdateOp) (es : List Expr) (n : ℕ) → r ≡ role.Update o → n ≡ min (lifting_count (varying_count es) + fixed_count es + 1) ENOUGH → n ≡ min (role_count r es) ENOUGH
updates_counted r o es n h is = update_counted o es n is ∙ ap (λ f. min (role_count f es) ENOUGH) (sym h)

pub choice_counted : (a b c : Expr) (aggregate : Bool) (varying r : ℕ) → aggregate ≡ true → varying ≡ varying_count (a ∷ b ∷ c ∷ []) → r ≡ min (lifting_count varying + (3 - varying) + 1) ENOUGH → r ≡ min (choice_count aggregate (a ∷ b ∷ c ∷ [])) ENOUGH
choice_counted a b c aggregate varying r chosen count is =
    let es = a ∷ b ∷ c ∷ [] in
    is ∙ ap (λ v. min (lifting_count v + (3 - v) + 1) ENOUGH) count
    ∙ ap (λ n. min (lifting_count (varying_count es) + n + 1) ENOUGH) (sym (fixed_three a b c))
    ∙ ap (λ n. min n ENOUGH) (sym (aggregate_count es))
    ∙ ap (λ g. min (choice_count g es) ENOUGH) (sym chosen)

-- ---- counting some after others
pub counted_then : (count n m : ℕ) (xs ys : List Mark) → n ≡ counted count xs → m ≡ counted n ys → m ≡ counted count (xs ++ ys)
counted_then count n m xs ys first second = omega (arith, length-append xs ys)
