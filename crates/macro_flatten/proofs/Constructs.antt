-- Expressions with a construct of their own, as the code finds it.
use Rattle.std.proofs.Common.{◌≡◌, ℕ, ◌+◌, ◌<◌, true, false, List, [], ◌∷◌, ◌++◌, map, length, Some, refl, ap, sym, subst, ◌∙◌, arith}
use Rattle.std.specs.Prelude.{Ok, Err, Result, Vec, IfErr, IfOk, OnOk}
use Rattle.std.specs.List.{Contains}
use Rattle.std.proofs.lemmas.Bool.{true≢false}
use Rattle.tsl_value.specs.declared.scalar.ValueType.{ValueType}
use Rattle.flat_core.specs.declared.equation.Equation.{Equation}
use Rattle.flat_core.specs.System.{System}
use Rattle.tsl_value.proofs.Lists.{contains_map}
use Rattle.flat_core.proofs.Members.{all_at}
use Rattle.syntax_tree.specs.Tree as tree
use Rattle.syntax_tree.specs.Tree.{Expr, no_links, more_links}
use Rattle.syntax_tree.specs.inner.OneLevel.{size_of}
use Rattle.name_check.specs.Parts.{parts}
use Rattle.name_check.specs.Scope.{seen}
use Rattle.name_check.proofs.AgreeLemmas.{agree_same, agree_trans}
use Rattle.type_rules.specs.declared.rule.ExprType.TheVariants as expr_type
use Rattle.expr_types.specs.Around.{Around}
use Rattle.expr_types.specs.Judge.{type_of}
use Rattle.stream_constructs.specs.declared.construct.Stream.{Stream}
use Rattle.stream_constructs.specs.declared.maker.MakeFault.{MakeFault}
use Rattle.stream_constructs.specs.Limits.{IsRefusal}
use Rattle.stream_constructs.specs.Made.{stream_of, with_equations}
use Rattle.spec_meaning.specs.Occurrence.{Call, Occurrence, scope_at}
use Rattle.spec_meaning.specs.Shape.{beside}
use Rattle.spec_meaning.specs.Makes.{is_own, occurrence}
use Rattle.checked_spec.specs.inner.Formed.{IsFormed}
use Rattle.checked_spec.specs.inner.Inner.{StandsIn, has_links}
use Rattle.checked_spec.specs.inner.Matches.{IsTypedAt}
use Rattle.checked_spec.proofs.Read.{inner_is}
use Rattle.checked_spec.proofs.Whole.{parts_typed, standard_typed}
use Rattle.checked_spec.proofs.Within.{subs_stand_in}
use Rattle.stream_shapes.specs.declared.construct.Shape.{Shape}
use Rattle.stream_shapes.specs.inner.Shape.{IsBeside, IsShapeOf, construct_of, expressions_in, is_chain}
use Rattle.macro_flatten.specs.declared.context.Context.{Context}
use Rattle.macro_flatten.specs.declared.context.Here.{Here}
use Rattle.macro_flatten.specs.inner.Answers.{AreExpressions, AreMade, CanConstruct, CanMakeAll, IsConstruct, IsConstructed, IsMadeAt, IsRefusedAfter, IsTypeOf, marks_all, marks_at}
use Rattle.macro_flatten.specs.inner.Here.{IsHere, MayMakeAll, MayMakeAt, Site}
use Rattle.macro_flatten.specs.inner.Own.{FitsOwn, own_of}
use Rattle.macro_flatten.proofs.Made.{own_fits, own_made, own_refused, parts_refused}
use Rattle.macro_flatten.proofs.Places.{part_may, typed_at}
use Rattle.macro_flatten.proofs.Shapes.{StandsAlone, shape_there}
use Rattle.macro_flatten.proofs.Sizes.{parts_size, parts_smaller, total_size}

no_chain : (items : List tree.Item) (cs : List Call) (at : Around) (t : ValueType) (e : Expr) → StandsAlone items cs at t e → is_chain e ≡ false
no_chain items cs at t (tree.Chain p l e ls) alone = absurd alone
no_chain items cs at t e alone = refl

no_links_in : (e : Expr) → is_chain e ≡ false → has_links e ≡ false
no_links_in (tree.Chain p l e ls) h = absurd (true≢false h)
no_links_in e h = refl

-- what stands alone has a construct of its own
module _ (context : Context) (here : Here) (site : Site) (deep : ℕ) (e : Expr) where
  pub is_construct : IsHere context here site → (may : MayMakeAt site deep e) → StandsAlone site.items site.st.calls site.at may.of.0 e → IsConstruct site e
  is_construct is_here may alone =
      let typed = typed_at site deep e is_here.known.checked may in
      let formed = subst (λ s. IsFormed site.items s e) typed.matches.scope_is typed.formed in
      let o = shape_there site.items site.st.calls site.at may.of.0 e formed (standard_typed site.items site.top site.at site.st e may.of.0 typed) alone in
      record { sh = o.sh; is = o.is; own = o.own; no_chain = no_chain site.items site.st.calls site.at may.of.0 e alone }

-- ---- the shape that the code finds
all_expressions : (cs : List Call) (es : List Expr) (os : List Occurrence) → map (beside cs) es ≡ os → es ≡ map (λ o. o.expr) os
all_expressions cs es os is = sym (again es) ∙ ap (map (λ o. o.expr)) is
  where
    again : (es : List Expr) → map (λ o. o.expr) (map (beside cs) es) ≡ es
    again [] = refl
    again (x ∷ xs) = ap (λ ys. x ∷ ys) (again xs)

sizes_listed : (os : List Occurrence) → total_size (map (λ o. o.expr) os) ≡ parts_size os
sizes_listed [] = refl
sizes_listed (o ∷ os) = ap (λ n. size_of o.expr + n) (sizes_listed os)

module _ (context : Context) (here : Here) (e : Expr) (found : Shape) (shaped : IsShapeOf context.functions.now here.around.scope.now e found) where
  abbrev parts_found : List Expr
  parts_found = expressions_in found.parts.items

  module _ (site : Site) (is_here : IsHere context here site) (may : MayMakeAt site here.deep e) (is : IsConstruct site e) where
    abbrev parts_of : List Expr
    parts_of = map (λ o. o.expr) is.sh.parts

    beside_it : IsBeside site.st.calls is.sh found
    beside_it =
        (shaped is.no_chain).at site.items site.st.calls is.sh is_here.known.bodies is_here.known.none_large
        (agree_trans (seen here.around.scope.now) site.at.scope (scope_at site.items site.st.calls) is_here.agrees (agree_same site.at.scope (scope_at site.items site.st.calls) may.matches.scope_is))
        is.is is.own

    same_parts : parts_found ≡ parts_of
    same_parts = all_expressions site.st.calls parts_found is.sh.parts beside_it.parts_are

    typed : IsTypedAt site.items site.top site.at site.st e may.of.0
    typed = typed_at site here.deep e is_here.known.checked may

    part_typed : (o : Occurrence) → Contains is.sh.parts o → MayMakeAt site here.deep o.expr
    part_typed o there =
        let of = all_at (λ a. (u : ValueType) × (type_of site.at a.expr ≡ Some (expr_type.Stream u))) is.sh.parts (parts_typed site.items site.top site.at site.st e may.of.0 is.sh typed is.is is.own) o there in
        let inside = all_at (λ a. StandsIn (parts e) a.expr) is.sh.parts (subs_stand_in site.items (occurrence site.items site.top site.st e) is.sh is.is is.own (no_links_in e is.no_chain)) o there in
        part_may site here.deep e may o.expr of.0 inside of.1

    parts_may : MayMakeAll site here.deep parts_found
    parts_may = record {
      each = λ f there.
          let o = contains_map (λ (a : Occurrence). a.expr) is.sh.parts f (subst (λ es. Contains es f) same_parts there) in
          subst (MayMakeAt site here.deep) o.2 (part_typed o.0 o.1);
    }

    parts_less : total_size parts_found < size_of e
    parts_less =
        let less = parts_smaller site.items site.st.calls e is.sh is.is is.own (no_links_in e is.no_chain) in
        let same = ap total_size same_parts ∙ sizes_listed is.sh.parts in
        omega arith

    -- ---- what is made after its parts
    module _ (of : ValueType) (type_is : IsTypeOf context here e of) where
      same_type : of ≡ may.of.0
      same_type = inner_is (type_of site.at e) of may.of.0 (type_is.at site is_here may) may.of.1.is

      module _ (old mid : System) (ss : List Stream) (made : AreMade site here.deep parts_found old mid ss) where
        made_too : AreMade site here.deep parts_of old mid ss
        made_too = subst (λ es. AreMade site here.deep es old mid ss) same_parts made

        abbrev own_found : List Equation
        own_found = own_of e of (length mid.equations) (construct_of found.construct) ss

        same_own : own_found ≡ own_of e may.of.0 (length mid.equations) is.sh.construct ss
        same_own = λ i. own_of e (same_type i) (length mid.equations) (beside_it.construct_is i) ss

        fits : FitsOwn e of (length mid.equations) (construct_of found.construct) ss
        fits =
            subst (λ t. FitsOwn e t (length mid.equations) (construct_of found.construct) ss) (sym same_type)
            (subst (λ c. FitsOwn e may.of.0 (length mid.equations) c ss) (sym beside_it.construct_is)
            (own_fits site here.deep e may.of.0 typed is.sh is.is is.own ss (length mid.equations) made_too.typed))

        whole_made : (new : System) (s : Stream) → new ≡ with_equations mid own_found → s ≡ stream_of mid own_found of → IsMadeAt site here.deep e old new s
        whole_made new s new_is s_is =
            own_made site here.deep e may.of.0 typed is.sh is.is is.own old mid new s ss made_too (new_is ∙ ap (with_equations mid) same_own)
            (s_is ∙ (λ i. stream_of mid (same_own i) (same_type i)))

        whole_refused : (f : MakeFault) → IsRefusal (mid.equations ++ own_found) f → IsRefusedAfter old (marks_at site here.deep e) f
        whole_refused f h =
            own_refused site here.deep e may.of.0 typed is.sh is.is is.own old mid ss f made_too (subst (λ es. IsRefusal (mid.equations ++ es) f) same_own h)

    none_made : (old : System) (f : MakeFault) → IsRefusedAfter old (marks_all site here.deep parts_found) f → IsRefusedAfter old (marks_at site here.deep e) f
    none_made old f h =
        parts_refused site here.deep e may.of.0 typed is.sh is.is is.own old f (subst (λ es. IsRefusedAfter old (marks_all site here.deep es) f) same_parts h)

  -- ---- what the code asks and answers
  pub parts_can : CanConstruct context here e → CanMakeAll context here parts_found
  parts_can can = record { site = can.site; is_here = can.is_here; may = parts_may can.site can.is_here can.may can.construct }

  pub smaller_parts : CanConstruct context here e → total_size parts_found < size_of e
  smaller_parts can = parts_less can.site can.is_here can.may can.construct

  pub parts_stopped : {Z : Type 0} (old cur : System) (f : MakeFault) → AreExpressions {Z = Z} context here parts_found old cur (Err f) → IsConstructed context here e old cur (Err f)
  parts_stopped old cur f h = record {
    at = λ site is_here may is. none_made site is_here may is old f (h.at site is_here (parts_may site is_here may is));
  }

  module _ {Z : Type 0} (of : ValueType) (old mid : System) (ss : Vec Stream Z) (type_is : IsTypeOf context here e of) (h : AreExpressions context here parts_found old mid (Ok ss)) where
    pub own_may : CanConstruct context here e → FitsOwn e of (length mid.equations) (construct_of found.construct) ss.items
    own_may can =
        fits can.site can.is_here can.may can.construct of type_is old mid ss.items (h.at can.site can.is_here (parts_may can.site can.is_here can.may can.construct))

    pub own_is : CanConstruct context here e → is_own (construct_of found.construct) ≡ true
    own_is can = ap is_own (beside_it can.site can.is_here can.may can.construct).construct_is ∙ can.construct.own

    pub constructed : (new : System) (s : Stream) → new ≡ with_equations mid (own_of e of (length mid.equations) (construct_of found.construct) ss.items) → s ≡ stream_of mid (own_of e of (length mid.equations) (construct_of found.construct) ss.items) of → IsConstructed context here e old new (Ok s)
    constructed new s new_is s_is = record {
      at = λ site is_here may is. whole_made site is_here may is of type_is old mid ss.items (h.at site is_here (parts_may site is_here may is)) new s new_is s_is;
    }

    pub own_stopped : (new : System) (f : MakeFault) → IsRefusal (mid.equations ++ own_of e of (length mid.equations) (construct_of found.construct) ss.items) f → IsConstructed context here e old new (Err f)
    own_stopped new f refused = record {
      at = λ site is_here may is. whole_refused site is_here may is of type_is old mid ss.items (h.at site is_here (parts_may site is_here may is)) f refused;
    }

    -- by what its own equations answer
    pub own_answers : (ps : List Stream) → ps ≡ ss.items → (new : System) (r : Result Stream MakeFault) → OnOk r (new ≡ with_equations mid (own_of e of (length mid.equations) (construct_of found.construct) ps)) → IfOk r (λ s. s ≡ stream_of mid (own_of e of (length mid.equations) (construct_of found.construct) ps) of) → IfErr r (IsRefusal (mid.equations ++ own_of e of (length mid.equations) (construct_of found.construct) ps)) → IsConstructed context here e old new r
    own_answers ps same new (Ok s) made stream refused =
        constructed new s (made ∙ ap (λ xs. with_equations mid (own_of e of (length mid.equations) (construct_of found.construct) xs)) same)
        (stream ∙ ap (λ xs. stream_of mid (own_of e of (length mid.equations) (construct_of found.construct) xs) of) same)
    own_answers ps same new (Err f) made stream refused =
        own_stopped new f (subst (λ xs. IsRefusal (mid.equations ++ own_of e of (length mid.equations) (construct_of found.construct) xs) f) same refused)
