-- Each typed stream is made of what fits.
use Rattle.std.proofs.Common.{◌≡◌, ℕ, true, false, ◌&&◌, List, [], ◌∷◌, Some, refl, ap, sym, subst, ◌∙◌}
use Rattle.std.specs.List.{AllByRecursion}
use Rattle.std.proofs.lemmas.Bool.{false≢true}
use Rattle.std.proofs.lemmas.Option.{same_Some, none-some}
use Rattle.tsl_value.specs.declared.scalar.ValueType.{ValueType}
use Rattle.tsl_value.specs.Aggregate.{is_aggregate}
use Rattle.syntax_tree.specs.Tree as tree
use Rattle.syntax_tree.specs.Tree.{Expr, no_links, more_links}
use Rattle.type_rules.specs.declared.rule.ExprType.TheVariants as expr_type
use Rattle.type_rules.specs.declared.rule.Setting.TheVariants as setting
use Rattle.type_rules.specs.Asked.{bool}
use Rattle.type_rules.specs.Rules.{if_rule}
use Rattle.expr_types.specs.Around.{Around}
use Rattle.expr_types.specs.Judge.{type_of}
use Rattle.stream_constructs.specs.declared.construct.Stream.{Stream}
use Rattle.stream_constructs.specs.Agree.{Fits, FitsChoice}
use Rattle.spec_meaning.specs.Occurrence.{Call, scope_at}
use Rattle.spec_meaning.specs.Shape.{Shape, shape, beside, same_as, expr_shape}
use Rattle.spec_meaning.specs.Makes.{Standing, occurrence, is_own, is_choice, choice_operands, with_itself, IsAsWritten}
use Rattle.checked_spec.specs.inner.Formed.{IsFormed}
use Rattle.checked_spec.specs.inner.Functions.{AreTypedFunctions}
use Rattle.checked_spec.specs.inner.Matches.{Matches, IsTypedAt, HaveTheirTypes}
use Rattle.checked_spec.proofs.FunctionRead.{three_parts}
use Rattle.checked_spec.proofs.Operands.{standard, IsStreamAt, expressions_of, operands_are}
use Rattle.checked_spec.proofs.Fitting.{IsFitting}
use Rattle.checked_spec.proofs.Rules.{choice_types}
use Rattle.checked_spec.proofs.Expressions.{never_own, if_fitting, chain_fitting, compare_fitting, negate_fitting, not_fitting, number_fitting, negative_fitting, text_fitting, boolean_fitting, unit_fitting, name_fitting, nil_fitting, empty_fitting, dotted_fitting}
use Rattle.checked_spec.proofs.Calls.{call_fitting}

module _ (items : List tree.Item) (cs : List Call) (at : Around) (t : ValueType) (sh : Shape) (functions : AreTypedFunctions items at.kinds) (own : is_own sh.construct ≡ true) where
  fitting : (e : Expr) → IsFormed items (scope_at items cs) e → type_of (standard items cs at) e ≡ Some (expr_type.Stream t) → expr_shape items cs e ≡ Some sh → IsFitting (standard items cs at) e t sh
  fitting (tree.If p c a b) formed h is = if_fitting items cs at t sh p c a b h is
  fitting (tree.Chain p l e no_links) formed h is = never_own (IsFitting (standard items cs at) (tree.Chain p l e no_links) t sh) (same_as (Some (beside cs e))) sh refl is own
  fitting (tree.Chain p l e (more_links o f ls)) formed h is = chain_fitting items cs at t sh p l e o f ls formed.operators h is
  fitting (tree.Compare p o a b) formed h is = compare_fitting items cs at t sh p o a b h is
  fitting (tree.Negate p e) formed h is = negate_fitting items cs at t sh p e h is
  fitting (tree.Not p e) formed h is = not_fitting items cs at t sh p e h is
  fitting (tree.Number p n) formed h is = number_fitting items cs at t sh p n h is
  fitting (tree.Negative p n) formed h is = negative_fitting items cs at t sh p n h is
  fitting (tree.Text p x) formed h is = text_fitting items cs at t sh p x h is
  fitting (tree.Boolean p b) formed h is = boolean_fitting items cs at t sh p b h is
  fitting (tree.Unit p) formed h is = unit_fitting items cs at t sh p h is
  fitting (tree.Name p x) formed h is = name_fitting items cs at t sh p x h is own
  fitting (tree.Call p x es) formed h is = call_fitting items cs at t sh own functions p es x formed.fits h is
  fitting (tree.CallDotted p d es) formed h is = dotted_fitting items cs at t sh p d es formed.fits h is
  fitting (tree.Nil p y) formed h is = nil_fitting items cs at t sh p y h is
  fitting (tree.None p y) formed h is = absurd (none-some sh is)
  fitting (tree.Empty p a) formed h is = empty_fitting items cs at t sh p a h is

module _ (items : List tree.Item) (top : ℕ → Stream) (at : Around) (st : Standing) where
  pub is_standard : Matches items top at st → at ≡ standard items st.calls at
  is_standard m = λ i. record at { items = m.items_are i; scope = m.scope_is i; setting = m.setting_is i }

  pub standard_typed : (e : Expr) (t : ValueType) → IsTypedAt items top at st e t → type_of (standard items st.calls at) e ≡ Some (expr_type.Stream t)
  standard_typed e t h = ap (λ a. type_of a e) (sym (is_standard h.matches)) ∙ h.is

  fits_at : (e : Expr) (t : ValueType) (sh : Shape) → IsTypedAt items top at st e t → shape items (occurrence items top st e) ≡ Some sh → is_own sh.construct ≡ true → IsFitting at e t sh
  fits_at e t sh h is own =
      subst (λ a. IsFitting a e t sh) (sym (is_standard h.matches))
      (fitting items st.calls at t sh h.functions own e (subst (λ s. IsFormed items s e) h.matches.scope_is h.formed) (standard_typed e t h) is)

  pub parts_typed : (e : Expr) (t : ValueType) (sh : Shape) → IsTypedAt items top at st e t → shape items (occurrence items top st e) ≡ Some sh → is_own sh.construct ≡ true → AllByRecursion (IsStreamAt at) sh.parts
  parts_typed e t sh h is own = (fits_at e t sh h is own).typed

  pub construct_fits : (e : Expr) (t : ValueType) (sh : Shape) (parts : List Stream) (n : ℕ) → IsTypedAt items top at st e t → shape items (occurrence items top st e) ≡ Some sh → is_own sh.construct ≡ true → HaveTheirTypes at (expressions_of sh.parts) parts → (is_choice e && is_aggregate t) ≡ false → Fits sh.construct (with_itself sh.construct n parts) t × IsAsWritten e t
  construct_fits e t sh parts n h is own theirs other = (fits_at e t sh h is own).fits n parts theirs other

  pub choice_fits : (e : Expr) (t : ValueType) (sh : Shape) (parts : List Stream) → IsTypedAt items top at st e t → shape items (occurrence items top st e) ≡ Some sh → HaveTheirTypes at (expressions_of sh.parts) parts → (is_choice e && is_aggregate t) ≡ true → FitsChoice (choice_operands e) parts t
  choice_fits (tree.If p c a b) t sh parts h is theirs chosen =
      let r = three_parts (if_rule setting.Streams) (type_of (standard items st.calls at) c) (type_of (standard items st.calls at) a) (type_of (standard items st.calls at) b) (expr_type.Stream t) (standard_typed (tree.If p c a b) t h) in
      let k = choice_types r.a r.b r.c t r.allows in
      let moved = subst (λ a. HaveTheirTypes a (expressions_of sh.parts) parts) (is_standard h.matches) theirs in (
        operands_are items st.calls at (c ∷ a ∷ b ∷ []) (bool ∷ t ∷ t ∷ []) parts
            (r.first ∙ ap (λ v. Some v) k.condition, (r.second ∙ ap (λ v. Some v) k.first, (r.third ∙ ap (λ v. Some v) k.second, tt)))
            (subst (λ s. HaveTheirTypes (standard items st.calls at) (expressions_of s.parts) parts) (sym (same_Some _ sh is)) moved),
        chosen,
      )
  choice_fits e t sh parts h is theirs chosen = absurd (false≢true chosen)
