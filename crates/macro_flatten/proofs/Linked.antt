-- The loop over the links of a chain.
use Rattle.std.proofs.Common.{◌≡◌, ℕ, zero, ◌+◌, ◌<◌, ◌≤◌, List, [], ◌∷◌, ◌++◌, length, get_or, take, drop, Some, refl, ap, sym, subst, ◌∙◌, arith}
use Rattle.std.specs.Prelude.{Ok, Err}
use Rattle.std.proofs.lemmas.List.{take_all}
use Rattle.std.proofs.lemmas.Option.{none-some}
use Rattle.tsl_value.specs.declared.place.Place.{Place}
use Rattle.tsl_value.specs.declared.scalar.Scalar.{Scalar}
use Rattle.tsl_value.specs.declared.scalar.ValueType.{ValueType}
use Rattle.flat_core.specs.declared.equation.Equation.{Equation}
use Rattle.flat_core.specs.System.{System}
use Rattle.flat_core.proofs.Members.{contains_head, contains_tail}
use Rattle.syntax_tree.specs.Tree as tree
use Rattle.syntax_tree.specs.Tree.{Expr, Links, no_links, more_links}
use Rattle.syntax_tree.specs.inner.Joins.{join_links}
use Rattle.syntax_tree.specs.inner.OneLevel.{links_in}
use Rattle.syntax_tree.specs.declared.tree.Level.{Level}
use Rattle.syntax_tree.specs.declared.tree.Link.{Link}
use Rattle.type_rules.specs.declared.rule.ExprType.TheVariants as expr_type
use Rattle.type_rules.specs.Rules.{operand_type}
use Rattle.expr_types.specs.Judge.{type_of}
use Rattle.stream_constructs.specs.declared.construct.Stream.{Stream}
use Rattle.stream_constructs.specs.declared.maker.MakeFault.{MakeFault}
use Rattle.stream_constructs.specs.Agree.{Fits}
use Rattle.stream_constructs.specs.Limits.{IsRefusal}
use Rattle.stream_constructs.specs.Made.{equations_for, stream_of, with_equations}
use Rattle.spec_meaning.specs.Shape.{left_of}
use Rattle.checked_spec.specs.inner.Chains.{HaveOperands}
use Rattle.checked_spec.specs.inner.Inner.{operands_after}
use Rattle.checked_spec.specs.inner.Matches.{IsTypedAt}
use Rattle.checked_spec.proofs.Beginnings.{chain_begins, chain_operands}
use Rattle.checked_spec.proofs.Within.{operand_in}
use Rattle.macro_flatten.specs.declared.chain.Side.{Side}
use Rattle.macro_flatten.specs.declared.chain.Side.TheVariants as side
use Rattle.macro_flatten.specs.declared.context.Context.{Context}
use Rattle.macro_flatten.specs.declared.context.Here.{Here}
use Rattle.macro_flatten.specs.inner.Answers.{CanMake, IsExpression, IsMadeAt, IsRefusedAfter, marks_at}
use Rattle.macro_flatten.specs.inner.Here.{IsHere, MayMakeAt, Site}
use Rattle.macro_flatten.specs.inner.Sides.{IsSide, IsSideMade, link_construct, side_streams}
use Rattle.macro_flatten.proofs.Chained.{begin_more, begin_refused, cut_at, first_refused, link_fits, link_made, link_refused, operand_there, operand_typed, right_refused, side_marks}
use Rattle.macro_flatten.proofs.Places.{part_may, typed_at}

-- the operands of a typed chain
operands_typed : (site : Site) (p : Place) (l : Level) (e : Expr) (ls : List Link) (t : ValueType) → 0 < length ls → IsTypedAt site.items site.top site.at site.st (tree.Chain p l e (links_in ls)) t → (type_of site.at e ≡ Some (expr_type.Stream (operand_type l))) × HaveOperands site.at (operand_type l) (links_in ls)
operands_typed site p l e [] t some typed = absurd (omega arith)
operands_typed site p l e (k ∷ ls) t some typed = chain_operands site.items site.top site.at site.st p l e k.operator k.operand (links_in ls) t typed

module _ (context : Context) (here : Here) (p : Place) (l : Level) (e : Expr) (links : List Link) where
  abbrev pub whole : Expr
  whole = tree.Chain p l e (links_in links)

  abbrev pub beginning : ℕ → Links
  beginning i = links_in (take i links)

  -- of so many links the equations are made, and this is on the left of the next
  pub record IsBegun (i : ℕ) (old cur : System) (left : Side) : Type 0 where
    pub at : (site : Site) → IsHere context here site → MayMakeAt site here.deep whole → IsSideMade site here.deep (left_of e (tree.Chain p l e) (beginning i)) old cur left

  -- ---- its first operand
  first_may : (site : Site) → IsHere context here site → 0 < length links → MayMakeAt site here.deep whole → MayMakeAt site here.deep e
  first_may site is_here some may =
      let typed = operands_typed site p l e links may.of.0 some (typed_at site here.deep whole is_here.known.checked may) in
      part_may site here.deep whole may e (operand_type l) (operand_in p l e (links_in links) e (contains_head e (operands_after (links_in links)))) typed.0

  pub first_can : 0 < length links → CanMake context here whole → CanMake context here e
  first_can some can = record { site = can.site; is_here = can.is_here; may = first_may can.site can.is_here some can.may }

  pub begun : (old cur : System) (left : Side) → 0 < length links → IsSide context here e old cur (Ok left) → IsBegun zero old cur left
  begun old cur left some h = record { at = λ site is_here may. h.at site is_here (first_may site is_here some may) }

  pub none_begun : (old cur : System) (f : MakeFault) → 0 < length links → IsSide context here e old cur (Err f) → IsExpression context here whole old cur (Err f)
  none_begun old cur f some h = record { at = λ site is_here may. by site links some (h.at site is_here (first_may site is_here some may)) }
    where
      by : (site : Site) (ls : List Link) → 0 < length ls → IsRefusedAfter old (side_marks site here.deep e) f → IsRefusedAfter old (marks_at site here.deep (tree.Chain p l e (links_in ls))) f
      by site [] some h = absurd (omega arith)
      by site (k ∷ ls) some h = first_refused site here.deep p l e k.operator k.operand (links_in ls) old f h

  -- ---- a link
  module _ (i : ℕ) (k : Link) (below : i < length links) (is : k ≡ get_or links i k) where
    abbrev next : Links
    next = join_links (beginning i) (more_links k.operator k.operand no_links)

    abbrev rest : Links
    rest = links_in (drop (i + 1) links)

    cut : tree.Chain p l e (links_in links) ≡ tree.Chain p l e (join_links next rest)
    cut = ap (tree.Chain p l e) (cut_at links i k below is)

    operand_may : (site : Site) → IsHere context here site → MayMakeAt site here.deep whole → MayMakeAt site here.deep k.operand
    operand_may site is_here may =
        let typed = operands_typed site p l e links may.of.0 (omega arith) (typed_at site here.deep whole is_here.known.checked may) in
        part_may site here.deep whole may k.operand (operand_type l)
        (operand_in p l e (links_in links) k.operand (contains_tail e (operands_after (links_in links)) k.operand (operand_there links i k below is)))
        (operand_typed site.at (operand_type l) links i k below is typed.1)

    pub operand_can : CanMake context here whole → CanMake context here k.operand
    operand_can can = record { site = can.site; is_here = can.is_here; may = operand_may can.site can.is_here can.may }

    next_typed : (site : Site) → IsHere context here site → (may : MayMakeAt site here.deep whole) → IsTypedAt site.items site.top site.at site.st (tree.Chain p l e next) may.of.0
    next_typed site is_here may =
        chain_begins site.items site.top site.at site.st p l e next rest may.of.0
        (subst (λ x. IsTypedAt site.items site.top site.at site.st x may.of.0) cut (typed_at site here.deep whole is_here.known.checked may))

    refused_next : (site : Site) (old : System) (f : MakeFault) → IsRefusedAfter old (marks_at site here.deep (tree.Chain p l e next)) f → IsRefusedAfter old (marks_at site here.deep whole) f
    refused_next site old f h =
        subst (λ x. IsRefusedAfter old (marks_at site here.deep x) f) (sym cut)
        (begin_refused site here.deep p l e (beginning i) k.operator k.operand rest old f h)

    -- its operand is refused
    pub operand_refused : (old cur mid : System) (left : Side) (f : MakeFault) → IsBegun i old cur left → IsSide context here k.operand cur mid (Err f) → IsExpression context here whole old mid (Err f)
    operand_refused old cur mid left f begun h = record {
      at = λ site is_here may.
          refused_next site old f
          (right_refused site here.deep p l e (beginning i) k.operator k.operand old cur left f (begun.at site is_here may) (h.at site is_here (operand_may site is_here may)));
    }

    module _ (old cur mid : System) (left right : Side) (begun : IsBegun i old cur left) (second : IsSide context here k.operand cur mid (Ok right)) where
      pub link_may : CanMake context here whole → Fits (link_construct k.operator left right) (side_streams left ++ side_streams right) (operand_type l)
      link_may can =
          link_fits can.site here.deep p l e (beginning i) k.operator k.operand can.may.of.0 (next_typed can.site can.is_here can.may) old cur mid left right
          (begun.at can.site can.is_here can.may) (second.at can.site can.is_here (operand_may can.site can.is_here can.may))

      abbrev own : List Equation
      own = equations_for mid p (operand_type l) (link_construct k.operator left right) (side_streams left ++ side_streams right)

      pub link_stopped : (new : System) (f : MakeFault) → IsRefusal (mid.equations ++ own) f → IsExpression context here whole old new (Err f)
      link_stopped new f h = record {
        at = λ site is_here may.
            refused_next site old f
            (link_refused site here.deep p l e (beginning i) k.operator k.operand may.of.0 (next_typed site is_here may) old cur mid left right
            (begun.at site is_here may) (second.at site is_here (operand_may site is_here may)) f h);
      }

      pub link_next : (new : System) (s : Stream) → new ≡ with_equations mid own → s ≡ stream_of mid own (operand_type l) → IsBegun (i + 1) old new (side.Varying s)
      link_next new s new_is s_is = record {
        at = λ site is_here may.
            let made = link_made site here.deep p l e (beginning i) k.operator k.operand may.of.0 (next_typed site is_here may) old cur mid left right (begun.at site is_here may) (second.at site is_here (operand_may site is_here may)) new s new_is s_is in
            subst (λ ls. IsSideMade site here.deep (left_of e (tree.Chain p l e) ls) old new (side.Varying s)) (sym (begin_more links i k below is)) (varying site (beginning i) made);
      }
        where
          varying : (site : Site) (front : Links) → IsMadeAt site here.deep (tree.Chain p l e (join_links front (more_links k.operator k.operand no_links))) old new s → IsSideMade site here.deep (left_of e (tree.Chain p l e) (join_links front (more_links k.operator k.operand no_links))) old new (side.Varying s)
          varying site no_links made = (refl, made)
          varying site (more_links q g fs) made = (refl, made)

  -- ---- the end of the loop
  module _ (i : ℕ) (past : length links ≤ i) (some : 0 < length links) (old new : System) where
    all : beginning i ≡ links_in links
    all = ap links_in (take_all i links past)

    left_is : (ls : List Link) → 0 < length ls → left_of e (tree.Chain p l e) (links_in ls) ≡ tree.Chain p l e (links_in ls)
    left_is [] some = absurd (omega arith)
    left_is (k ∷ ls) some = refl

    whole_side : (left : Side) → IsBegun i old new left → (site : Site) → IsHere context here site → MayMakeAt site here.deep whole → IsSideMade site here.deep whole old new left
    whole_side left begun site is_here may =
        subst (λ x. IsSideMade site here.deep x old new left) (ap (left_of e (tree.Chain p l e)) all ∙ left_is links some) (begun.at site is_here may)

    pub chain_made : (left : Side) (s : Stream) → left ≡ side.Varying s → IsBegun i old new left → IsExpression context here whole old new (Ok s)
    chain_made left s is begun = record {
      at = λ site is_here may. (subst (IsSideMade site here.deep whole old new) is (whole_side left begun site is_here may)).1;
    }

    pub no_literal : (left : Side) (s : Scalar) → left ≡ side.Fixed s → IsBegun i old new left → CanMake context here whole → ⊥
    no_literal left s is begun can = none-some s (subst (IsSideMade can.site here.deep whole old new) is (whole_side left begun can.site can.is_here can.may)).0
