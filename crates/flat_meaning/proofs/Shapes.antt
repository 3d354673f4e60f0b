-- What shapes tell: the parts of a construct with equations of its own stand in its calls, and a call of a macro stands for its result.
use Rattle.std.proofs.Common.{◌≡◌, ℕ, Bool, true, false, List, [], ◌∷◌, ◌++◌, map, Option, Some, None, refl, ap, sym, subst, ◌∙◌}
use Rattle.std.specs.Prelude.{if◌then◌else◌, slice_get}
use Rattle.std.specs.List.{AllByRecursion, filter}
use Rattle.std.specs.Option.{option_map, option_and_then}
use Rattle.std.proofs.lemmas.Bool.{false≢true}
use Rattle.std.proofs.lemmas.Option.{same_Some}
use Rattle.tsl_value.specs.declared.scalar.Scalar.{Scalar}
use Rattle.tsl_value.specs.declared.scalar.Scalar.TheVariants as scalar
use Rattle.tsl_value.specs.declared.place.Place.{Place}
use Rattle.syntax_tree.specs.Tree as tree
use Rattle.syntax_tree.specs.Tree.{Expr, Exprs, no_links, more_links}
use Rattle.vocabulary.specs.declared.signature.Role.{Role}
use Rattle.vocabulary.specs.declared.signature.Role.TheVariants as role
use Rattle.vocabulary.specs.Table.{role_of}
use Rattle.name_check.specs.declared.declaration.Declaration.{Declaration}
use Rattle.name_check.specs.declared.declaration.Declaration.TheVariants as declaration
use Rattle.name_check.specs.Builtin.{is_unit, is_lift, is_called}
use Rattle.name_check.specs.Scope.{meaning}
use Rattle.stream_constructs.specs.Construct.{Construct, operand_trees}
use Rattle.stream_constructs.specs.Construct as construct
use Rattle.stream_constructs.specs.Equations.{choice}
use Rattle.spec_meaning.specs.Occurrence.{Call, Occurrence, scope_at, stands_for, result_of, body_of}
use Rattle.spec_meaning.specs.Function.{literal}
use Rattle.spec_meaning.specs.Shape.{Shape, is_part, left_of, all_but_last, last_operand, beside, with_parts, role_shape, plain_name, is_delay, is_const, is_filter, const_shape, filtered_by, filter_shape, same_as, name_shape, declared_shape, lift_by, function_named, lift_shape, call_shape, expr_shape, shape, expressions}
use Rattle.spec_meaning.proofs.Names.{no_builtin}
use Rattle.spec_meaning.specs.Makes.{is_own, is_choice, choice_operands}

-- the parts stand in these calls
abbrev pub AreBeside : List Call → List Occurrence → Type 0
AreBeside cs parts = AllByRecursion (λ o. o.calls ≡ cs) parts

abbrev pub IsBeside : List Call → Option Shape → Type 0
IsBeside cs None = Unit {0}
IsBeside cs (Some s) = is_own s.construct ≡ true → AreBeside cs s.parts

all_beside : (cs : List Call) (es : List Expr) → AreBeside cs (map (beside cs) es)
all_beside cs [] = tt
all_beside cs (e ∷ es) = (refl, all_beside cs es)

same_beside : (cs : List Call) (o : Option Occurrence) → IsBeside cs (same_as o)
same_beside cs None = tt
same_beside cs (Some a) = λ h. absurd (false≢true h)

if_beside : (cs : List Call) (b : Bool) (x y : Option Shape) → IsBeside cs x → IsBeside cs y → IsBeside cs (if b then x else y)
if_beside cs true x y first second = first
if_beside cs false x y first second = second

some_beside : {A : Type 0} (cs : List Call) (f : A → Option Shape) → ((a : A) → IsBeside cs (f a)) → (o : Option A) → IsBeside cs (option_and_then f o)
some_beside cs f each None = tt
some_beside cs f each (Some a) = each a

const_beside : (cs : List Call) (es : List Expr) → IsBeside cs (const_shape cs es)
const_beside cs [] = tt
const_beside cs (v ∷ []) = tt
const_beside cs (v ∷ e ∷ []) = some_beside cs (λ s. with_parts cs (construct.Const s) (e ∷ [])) (λ s _. all_beside cs (e ∷ [])) (literal v)
const_beside cs (v ∷ e ∷ f ∷ es) = tt

filtered_beside : (cs : List Call) (e c : Expr) (s : Option Scalar) → IsBeside cs (filtered_by cs e c s)
filtered_beside cs e c (Some (scalar.Bool b)) = λ _. all_beside cs (e ∷ [])
filtered_beside cs e c s = λ _. all_beside cs (e ∷ c ∷ [])

filter_beside : (cs : List Call) (es : List Expr) → IsBeside cs (filter_shape cs es)
filter_beside cs [] = tt
filter_beside cs (e ∷ []) = tt
filter_beside cs (e ∷ c ∷ []) = filtered_beside cs e c (literal c)
filter_beside cs (e ∷ c ∷ f ∷ es) = tt

role_beside : (cs : List Call) (r : Role) (es : List Expr) → IsBeside cs (role_shape cs r es)
role_beside cs (role.Update o) es = λ _. all_beside cs (filter is_part es)
role_beside cs r es = λ _. all_beside cs (filter is_part es)

module _ (items : List tree.Item) where
  name_beside : (cs : List Call) (d : Option Declaration) → IsBeside cs (name_shape items cs d)
  name_beside cs (Some (declaration.Input i)) = λ _. tt
  name_beside cs (Some d) = same_beside cs (stands_for items cs d)
  name_beside cs None = tt

  declared_beside : (cs : List Call) (d : Option Declaration) (es : Exprs) → IsBeside cs (declared_shape items cs d es)
  declared_beside cs (Some (declaration.Macro i)) es = same_beside cs _
  declared_beside cs (Some (declaration.Function i)) es = λ _. all_beside cs (filter is_part (expressions es))
  declared_beside cs d es = tt

  by_beside : (cs : List Call) (streams : List Expr) (f : Expr) (d : Option Declaration) → IsBeside cs (lift_by items cs streams f d)
  by_beside cs streams f (Some (declaration.Function i)) = λ _. all_beside cs streams
  by_beside cs streams f d = tt

  lift_beside : (cs : List Call) (streams es : List Expr) → IsBeside cs (lift_shape items cs streams es)
  lift_beside cs streams [] = tt
  lift_beside cs streams (f ∷ []) = by_beside cs streams f (function_named items (scope_at items cs) f)
  lift_beside cs streams (e ∷ f ∷ es) = lift_beside cs (streams ++ e ∷ []) (f ∷ es)

  call_beside : (cs : List Call) (n : List ℕ) (es : Exprs) (c : Option Construct) → IsBeside cs (call_shape items cs n es c)
  call_beside cs n es (Some c) = λ _. all_beside cs (expressions es)
  call_beside cs n es None =
      if_beside cs (is_delay n) _ _ (λ _. all_beside cs (expressions es))
      (if_beside cs (is_const n) _ _ (const_beside cs (expressions es))
      (if_beside cs (is_filter n) _ _ (filter_beside cs (expressions es))
      (if_beside cs (is_lift n) _ _ (lift_beside cs [] (expressions es)) (declared_beside cs (meaning (scope_at items cs) n) es))))

  expr_beside : (cs : List Call) (e : Expr) → IsBeside cs (expr_shape items cs e)
  expr_beside cs (tree.If p c a b) = λ _. all_beside cs (filter is_part (c ∷ a ∷ b ∷ []))
  expr_beside cs (tree.Chain p l e no_links) = same_beside cs (Some (beside cs e))
  expr_beside cs (tree.Chain p l e (more_links o f ls)) = λ _. all_beside cs (filter is_part (left_of e (tree.Chain p l e) (all_but_last (more_links o f ls)) ∷ last_operand f ls ∷ []))
  expr_beside cs (tree.Compare p o a b) = λ _. all_beside cs (filter is_part (a ∷ b ∷ []))
  expr_beside cs (tree.Negate p e) = λ _. all_beside cs (filter is_part (e ∷ []))
  expr_beside cs (tree.Not p e) = λ _. all_beside cs (filter is_part (e ∷ []))
  expr_beside cs (tree.Number p n) = λ _. tt
  expr_beside cs (tree.Negative p n) = λ _. tt
  expr_beside cs (tree.Text p t) = λ _. tt
  expr_beside cs (tree.Boolean p b) = λ _. tt
  expr_beside cs (tree.Unit p) = λ _. tt
  expr_beside cs (tree.Name p n) = if_beside cs (is_unit n) _ _ (λ _. tt) (name_beside cs (meaning (scope_at items cs) n))
  expr_beside cs (tree.Call p n es) = call_beside cs n es (plain_name n)
  expr_beside cs (tree.CallDotted p d es) = role_beside cs (role_of d) (expressions es)
  expr_beside cs (tree.Nil p y) = λ _. tt
  expr_beside cs (tree.None p y) = tt
  expr_beside cs (tree.Empty p a) = some_beside cs (λ t. with_parts cs (construct.Empty t) []) (λ _ _. tt) _

  pub parts_beside : (o : Occurrence) (s : Shape) → shape items o ≡ Some s → is_own s.construct ≡ true → AreBeside o.calls s.parts
  parts_beside o s is = subst (IsBeside o.calls) is (expr_beside o.calls o.expr)

  -- a choice
  pub choice_construct : (cs : List Call) (e : Expr) (s : Shape) → is_choice e ≡ true → expr_shape items cs e ≡ Some s → s.construct ≡ construct.Signal (choice (operand_trees 0 (choice_operands e)))
  choice_construct cs (tree.If p c a b) s chosen is = sym (ap (λ v. v.construct) (same_Some _ s is))
  choice_construct cs e s chosen is = absurd (false≢true chosen)

  -- a name
  pub name_is : (cs : List Call) (p : Place) (x : List ℕ) (d : Declaration) → is_unit x ≡ false → meaning (scope_at items cs) x ≡ Some d → expr_shape items cs (tree.Name p x) ≡ name_shape items cs (Some d)
  name_is cs p x d other is = λ i. if other i then with_parts cs construct.Unit [] else name_shape items cs (is i)

-- ---- names of the language itself
module _ (items : List tree.Item) where
  -- a call of a macro
  pub call_is : (cs : List Call) (p : Place) (x : List ℕ) (es : Exprs) (i : ℕ) (b : tree.Body) → is_called x ≡ false → meaning (scope_at items cs) x ≡ Some (declaration.Macro i) → body_of (slice_get items i) ≡ Some b → expr_shape items cs (tree.Call p x es) ≡ Some (record { construct = construct.Same; parts = record { calls = record { item = i; arguments = es } ∷ cs; expr = result_of b } ∷ [] })
  call_is cs p x es i b other is body =
      let free = no_builtin x other in
      ap (call_shape items cs x es) free.no_plain
      ∙ (λ k.
      if free.no_delay k then with_parts cs construct.Delay (expressions es)
      else if free.no_const k then const_shape cs (expressions es)
      else if free.no_filter k then filter_shape cs (expressions es)
      else if free.no_lift k then lift_shape items cs [] (expressions es)
      else declared_shape items cs (is k) es)
      ∙ ap (λ v. same_as (option_map (λ e. record { calls = record { item = i; arguments = es } ∷ cs; expr = e }) (option_map result_of v))) body
