-- Which expressions have equations of their own: names, chains of one operand and calls of macros have none.
use Rattle.std.proofs.Common.{◌≡◌, ℕ, Bool, true, false, cond, List, [], ◌∷◌, ◌++◌, Option, Some, None, refl, sym, subst, ◌∙◌}
use Rattle.std.specs.Prelude.{if◌then◌else◌, slice_get}
use Rattle.std.specs.List.{AllByRecursion, find}
use Rattle.std.specs.Option.{option_map, option_and_then, IfSome}
use Rattle.std.specs.Str.{bytes_eq}
use Rattle.std.proofs.lemmas.Bool.{true≢false}
use Rattle.tsl_value.specs.declared.place.Place.{Place}
use Rattle.tsl_value.specs.declared.scalar.Scalar.{Scalar}
use Rattle.tsl_value.specs.declared.scalar.Scalar.TheVariants as scalar
use Rattle.syntax_tree.specs.Tree as tree
use Rattle.syntax_tree.specs.Tree.{Expr, Exprs, no_links, more_links}
use Rattle.syntax_tree.specs.declared.tree.Level.{Level}
use Rattle.vocabulary.specs.declared.signature.Role.{Role}
use Rattle.vocabulary.specs.declared.signature.Role.TheVariants as role
use Rattle.vocabulary.specs.Table.{role_of}
use Rattle.name_check.specs.declared.declaration.Declaration.{Declaration}
use Rattle.name_check.specs.declared.declaration.Declaration.TheVariants as declaration
use Rattle.name_check.specs.Builtin.{is_unit, is_lift, is_called}
use Rattle.name_check.specs.Scope.{meaning}
use Rattle.stream_constructs.specs.Construct.{Construct}
use Rattle.stream_constructs.specs.Construct as construct
use Rattle.spec_meaning.specs.Occurrence.{Call, Occurrence, scope_at, stands_for, body_of}
use Rattle.spec_meaning.specs.Function.{literal}
use Rattle.spec_meaning.specs.Shape.{Shape, with_parts, role_shape, plain_names, plain_name, is_delay, is_const, is_filter, const_shape, filtered_by, filter_shape, same_as, name_shape, declared_shape, lift_by, function_named, lift_shape, call_shape, expr_shape, expressions}
use Rattle.spec_meaning.specs.Makes.{is_own}
use Rattle.flat_meaning.proofs.Shapes.{call_is}
use Rattle.flat_meaning.proofs.OneType.{is_nil}

-- ---- what stands for another stream
abbrev HasNone : Option Shape → Type 0
HasNone o = IfSome o (λ s. is_own s.construct ≡ false)

same_none : (o : Option Occurrence) → HasNone (same_as o)
same_none None = tt
same_none (Some a) = refl

name_none : (items : List tree.Item) (cs : List Call) (d : Option Declaration) → HasNone (name_shape items cs d)
name_none items cs (Some (declaration.Input i)) = refl
name_none items cs (Some d) = same_none (stands_for items cs d)
name_none items cs None = tt

-- such a shape is not that of a construct with equations of its own
no_own : {P : Type 0} (o : Option Shape) (s : Shape) → HasNone o → o ≡ Some s → is_own s.construct ≡ true → P
no_own o s none is own =
    let found : is_own s.construct ≡ false = subst HasNone is none in
    absurd (true≢false (sym own ∙ found))

module _ (items : List tree.Item) (cs : List Call) (s : Shape) where
  pub no_own_name : {P : Type 0} (p : Place) (x : List ℕ) → is_unit x ≡ false → expr_shape items cs (tree.Name p x) ≡ Some s → is_own s.construct ≡ true → P
  no_own_name p x other is own =
      no_own (name_shape items cs (meaning (scope_at items cs) x)) s (name_none items cs (meaning (scope_at items cs) x))
      (sym (λ i. if other i then with_parts cs construct.Unit [] else name_shape items cs (meaning (scope_at items cs) x)) ∙ is) own

  pub no_own_chain : {P : Type 0} (p : Place) (l : Level) (e : Expr) → expr_shape items cs (tree.Chain p l e no_links) ≡ Some s → is_own s.construct ≡ true → P
  no_own_chain p l e is own = no_own (expr_shape items cs (tree.Chain p l e no_links)) s refl is own

  pub no_own_call : {P : Type 0} (p : Place) (x : List ℕ) (es : Exprs) (i : ℕ) (b : tree.Body) → is_called x ≡ false → meaning (scope_at items cs) x ≡ Some (declaration.Macro i) → body_of (slice_get items i) ≡ Some b → expr_shape items cs (tree.Call p x es) ≡ Some s → is_own s.construct ≡ true → P
  no_own_call p x es i b other macro body is own = no_own _ s refl (sym (call_is items cs p x es i b other macro body) ∙ is) own

-- ---- only `nil` is of the type that is written in it
abbrev pub is_nil_expr : Expr → Bool
is_nil_expr (tree.Nil p y) = true
is_nil_expr e = false

abbrev IsTyped : Option Shape → Type 0
IsTyped o = IfSome o (λ s. is_nil s.construct ≡ false)

same_typed : (o : Option Occurrence) → IsTyped (same_as o)
same_typed None = tt
same_typed (Some a) = refl

if_typed : (b : Bool) (x y : Option Shape) → IsTyped x → IsTyped y → IsTyped (if b then x else y)
if_typed true x y first second = first
if_typed false x y first second = second

then_typed : {A : Type 0} (f : A → Option Shape) → ((a : A) → IsTyped (f a)) → (o : Option A) → IsTyped (option_and_then f o)
then_typed f each None = tt
then_typed f each (Some a) = each a

found_typed : (p : List ℕ × Construct → Bool) (cs : List (List ℕ × Construct)) → AllByRecursion (λ c. is_nil c.1 ≡ false) cs → IfSome (option_map (λ (c : List ℕ × Construct). c.1) (find p cs)) (λ c. is_nil c ≡ false)
found_typed p [] all = tt
found_typed p (c ∷ cs) all = either (p c) (found_typed p cs all.1)
  where
    either : (b : Bool) → IfSome (option_map (λ (c : List ℕ × Construct). c.1) (find p cs)) (λ c. is_nil c ≡ false) → IfSome (option_map (λ (c : List ℕ × Construct). c.1) (cond b (Some c) (find p cs))) (λ c. is_nil c ≡ false)
    either true more = all.0
    either false more = more

plain_typed : (n : List ℕ) → IfSome (plain_name n) (λ c. is_nil c ≡ false)
unfolding plain_name
plain_typed n = found_typed (λ c. bytes_eq n c.0) plain_names (refl, (refl, (refl, (refl, tt))))

const_typed : (cs : List Call) (es : List Expr) → IsTyped (const_shape cs es)
const_typed cs [] = tt
const_typed cs (v ∷ []) = tt
const_typed cs (v ∷ e ∷ []) = then_typed (λ s. with_parts cs (construct.Const s) (e ∷ [])) (λ s. refl) (literal v)
const_typed cs (v ∷ e ∷ f ∷ es) = tt

filtered_typed : (cs : List Call) (e c : Expr) (s : Option Scalar) → IsTyped (filtered_by cs e c s)
filtered_typed cs e c (Some (scalar.Bool b)) = refl
filtered_typed cs e c s = refl

filter_typed : (cs : List Call) (es : List Expr) → IsTyped (filter_shape cs es)
filter_typed cs [] = tt
filter_typed cs (e ∷ []) = tt
filter_typed cs (e ∷ c ∷ []) = filtered_typed cs e c (literal c)
filter_typed cs (e ∷ c ∷ f ∷ es) = tt

role_typed : (cs : List Call) (r : Role) (es : List Expr) → IsTyped (role_shape cs r es)
role_typed cs (role.Update o) es = refl
role_typed cs r es = refl

module _ (items : List tree.Item) (cs : List Call) where
  name_typed : (d : Option Declaration) → IsTyped (name_shape items cs d)
  name_typed (Some (declaration.Input i)) = refl
  name_typed (Some d) = same_typed (stands_for items cs d)
  name_typed None = tt

  declared_typed : (d : Option Declaration) (es : Exprs) → IsTyped (declared_shape items cs d es)
  declared_typed (Some (declaration.Macro i)) es = same_typed _
  declared_typed (Some (declaration.Function i)) es = refl
  declared_typed d es = tt

  by_typed : (streams : List Expr) (f : Expr) (d : Option Declaration) → IsTyped (lift_by items cs streams f d)
  by_typed streams f (Some (declaration.Function i)) = refl
  by_typed streams f d = tt

  lift_typed : (streams es : List Expr) → IsTyped (lift_shape items cs streams es)
  lift_typed streams [] = tt
  lift_typed streams (f ∷ []) = by_typed streams f (function_named items (scope_at items cs) f)
  lift_typed streams (e ∷ f ∷ es) = lift_typed (streams ++ e ∷ []) (f ∷ es)

  call_typed : (n : List ℕ) (es : Exprs) (c : Option Construct) → IfSome c (λ v. is_nil v ≡ false) → IsTyped (call_shape items cs n es c)
  call_typed n es (Some c) other = other
  call_typed n es None other =
      if_typed (is_delay n) _ _ refl
      (if_typed (is_const n) _ _ (const_typed cs (expressions es))
      (if_typed (is_filter n) _ _ (filter_typed cs (expressions es))
      (if_typed (is_lift n) _ _ (lift_typed [] (expressions es)) (declared_typed (meaning (scope_at items cs) n) es))))

  expr_typed : (e : Expr) → is_nil_expr e ≡ false → IsTyped (expr_shape items cs e)
  expr_typed (tree.Chain p l e no_links) other = refl
  expr_typed (tree.Chain p l e (more_links o f ls)) other = refl
  expr_typed (tree.Name p n) other = if_typed (is_unit n) _ _ refl (name_typed (meaning (scope_at items cs) n))
  expr_typed (tree.Call p n es) other = call_typed n es (plain_name n) (plain_typed n)
  expr_typed (tree.CallDotted p d es) other = role_typed cs (role_of d) (expressions es)
  expr_typed (tree.Nil p y) other = absurd (true≢false other)
  expr_typed (tree.None p y) other = tt
  expr_typed (tree.Empty p a) other = then_typed (λ t. with_parts cs (construct.Empty t) []) (λ t. refl) _
  expr_typed e other = refl

  pub no_nil : (e : Expr) (s : Shape) → is_nil_expr e ≡ false → expr_shape items cs e ≡ Some s → is_nil s.construct ≡ false
  no_nil e s other is = subst IsTyped is (expr_typed e other)
