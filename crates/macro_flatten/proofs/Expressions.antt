-- What an expression asks and answers, by what it is.
use Rattle.std.proofs.Common.{◌≡◌, ℕ, true, false, List, [], ◌∷◌, length, Option, Some, None, refl, ap, sym, subst, ◌∙◌, arith}
use Rattle.std.specs.Prelude.{Ok, Err, Result}
use Rattle.std.proofs.lemmas.Bool.{true≢false}
use Rattle.std.proofs.lemmas.Option.{none-some, same_Some}
use Rattle.tsl_value.specs.declared.place.Place.{Place}
use Rattle.flat_core.specs.System.{System}
use Rattle.flat_core.proofs.Members.{contains_head}
use Rattle.syntax_tree.specs.Tree as tree
use Rattle.syntax_tree.specs.Tree.{Expr, Exprs, no_links, place_of}
use Rattle.syntax_tree.specs.inner.OneLevel.{expr_of, links_in}
use Rattle.syntax_tree.specs.declared.tree.Level.{Level}
use Rattle.syntax_tree.specs.declared.tree.Link.{Link}
use Rattle.syntax_tree.specs.declared.tree.Node.{Node}
use Rattle.syntax_tree.specs.declared.tree.Node.TheVariants as node
use Rattle.name_check.specs.declared.declaration.Declaration.{Declaration}
use Rattle.name_check.specs.declared.declaration.Declaration.TheVariants as declaration
use Rattle.name_check.specs.Builtin.{is_called, is_unit}
use Rattle.name_check.specs.Scope.{meaning, seen}
use Rattle.type_rules.specs.declared.rule.ExprType.TheVariants as expr_type
use Rattle.expr_types.specs.Judge.{type_of}
use Rattle.stream_constructs.specs.declared.construct.Stream.{Stream}
use Rattle.stream_constructs.specs.declared.maker.MakeFault.{MakeFault}
use Rattle.spec_meaning.specs.Makes as makes
use Rattle.checked_spec.proofs.Beginnings.{one_operand}
use Rattle.checked_spec.proofs.Within.{operand_in}
use Rattle.macro_flatten.specs.declared.context.Context.{Context}
use Rattle.macro_flatten.specs.declared.context.Here.{Here}
use Rattle.macro_flatten.specs.inner.Answers.{CanCall, CanConstruct, CanMake, CanName, IsAnswer, IsBody, IsCalled, IsConstructed, IsExpression, IsNamed}
use Rattle.macro_flatten.specs.inner.Here.{IsHere, MayMakeAt, Site, macro_in}
use Rattle.macro_flatten.specs.inner.Own.{IsAliased}
use Rattle.macro_flatten.proofs.Made.{body_made, body_refused}
use Rattle.macro_flatten.proofs.Constructs.{is_construct}
use Rattle.macro_flatten.proofs.Places.{part_may, typed_at}
use Rattle.macro_flatten.proofs.Shapes.{StandsAlone}

macro_is : (found : Option Declaration) (i : ℕ) → macro_in found ≡ Some i → found ≡ Some (declaration.Macro i)
macro_is (Some (declaration.Macro k)) i h = ap (λ n. Some (declaration.Macro n)) (same_Some k i h)
macro_is (Some (declaration.Input k)) i h = absurd (none-some i h)
macro_is (Some (declaration.Stream k)) i h = absurd (none-some i h)
macro_is (Some (declaration.Parameter k)) i h = absurd (none-some i h)
macro_is (Some (declaration.Local k)) i h = absurd (none-some i h)
macro_is (Some (declaration.Function k)) i h = absurd (none-some i h)
macro_is (Some (declaration.Mixed k)) i h = absurd (none-some i h)
macro_is None i h = absurd (none-some i h)

module _ (context : Context) (here : Here) where
  -- ---- expressions that are neither names nor chains nor calls of macros
  pub record IsAlone (e : Expr) : Type 0 where
    pub at : (site : Site) → IsHere context here site → (may : MayMakeAt site here.deep e) → StandsAlone site.items site.st.calls site.at may.of.0 e

  pub construct_can : (e : Expr) → IsAlone e → CanMake context here e → CanConstruct context here e
  construct_can e alone can = record {
    site = can.site;
    is_here = can.is_here;
    may = can.may;
    construct = is_construct context here can.site here.deep e can.is_here can.may (alone.at can.site can.is_here can.may);
  }

  pub constructed_is : (e : Expr) (old new : System) (r : Result Stream MakeFault) → IsAlone e → IsConstructed context here e old new r → IsExpression context here e old new r
  constructed_is e old new r alone h = record {
    at = λ site is_here may. h.at site is_here may (is_construct context here site here.deep e is_here may (alone.at site is_here may));
  }

  alone_same : (e f : Expr) → e ≡ f → IsAlone f → IsAlone e
  alone_same e f same alone = subst IsAlone (sym same) alone

  pub unit_alone : (e : Expr) (p : Place) (x : List ℕ) → e ≡ tree.Name p x → is_unit x ≡ true → IsAlone e
  unit_alone e p x same is = alone_same e (tree.Name p x) same (record { at = λ site is_here may. is })

  pub own_call_alone : (e : Expr) (p : Place) (x : List ℕ) (es : Exprs) → e ≡ tree.Call p x es → is_called x ≡ true → IsAlone e
  own_call_alone e p x es same is = alone_same e (tree.Call p x es) same (record { at = λ site is_here may other. absurd (true≢false (sym is ∙ other)) })

  pub other_call_alone : (e : Expr) (p : Place) (x : List ℕ) (es : Exprs) (found : Option Declaration) → e ≡ tree.Call p x es → found ≡ meaning (seen here.around.scope.now) x → macro_in found ≡ None → IsAlone e
  other_call_alone e p x es found same is none =
      alone_same e (tree.Call p x es) same
      (record {
        at = λ site is_here may other i macro.
            none-some i (sym none ∙ ap macro_in (is ∙ is_here.agrees.at x ∙ ap (λ scope. meaning scope x) may.matches.scope_is ∙ macro));
      })

  -- by its node
  pub other_alone : (e : Expr) (n : Node) → expr_of (place_of e) n ≡ e → ((x : _) → n ≡ node.Name x → ⊥) → ((l : _) (f : _) (ls : _) → n ≡ node.Chain l f ls → ⊥) → ((x : _) (es : _) → n ≡ node.Call x es → ⊥) → IsAlone e
  other_alone e n is no_name no_chain no_call = by n is no_name no_chain no_call
    where
      by : (n : Node) → expr_of (place_of e) n ≡ e → ((x : _) → n ≡ node.Name x → ⊥) → ((l : _) (f : _) (ls : _) → n ≡ node.Chain l f ls → ⊥) → ((x : _) (es : _) → n ≡ node.Call x es → ⊥) → IsAlone e
      by (node.Name x) is no_name no_chain no_call = absurd (no_name x refl)
      by (node.Chain l f ls) is no_name no_chain no_call = absurd (no_chain l f ls refl)
      by (node.Call x es) is no_name no_chain no_call = absurd (no_call x es refl)
      by n is no_name no_chain no_call = subst IsAlone is (record { at = λ site is_here may. tt })

  -- ---- names
  pub name_can : (e : Expr) (x : List ℕ) → e ≡ tree.Name (place_of e) x → is_unit x ≡ false → CanMake context here e → CanName context here x
  name_can e x same other can = record { place = place_of e; other = other; can = subst (CanMake context here) same can }

  pub named_is : (e : Expr) (x : List ℕ) (system : System) (r : Result Stream MakeFault) → e ≡ tree.Name (place_of e) x → is_unit x ≡ false → IsNamed context here x r → IsExpression context here e system system r
  named_is e x system r same other h =
      subst (λ f. IsExpression context here f system system r) (sym same)
      (record { at = λ site is_here may. h.at site (place_of e) system other is_here may })

  -- ---- chains
  none_linked : (ls : List Link) → length ls ≡ 0 → links_in ls ≡ no_links
  none_linked [] h = refl
  none_linked (k ∷ ls) h = absurd (omega arith)

  alone_chain : (e : Expr) (p : Place) (l : Level) (f : Expr) (ls : List Link) → e ≡ tree.Chain p l f (links_in ls) → length ls ≡ 0 → e ≡ tree.Chain p l f no_links
  alone_chain e p l f ls same none = same ∙ ap (tree.Chain p l f) (none_linked ls none)

  first_typed : (site : Site) (p : Place) (l : Level) (f : Expr) → IsHere context here site → (may : MayMakeAt site here.deep (tree.Chain p l f no_links)) → type_of site.at f ≡ Some (expr_type.Stream may.of.0)
  first_typed site p l f is_here may =
      one_operand site.items site.top site.at site.st p l f may.of.0 (typed_at site here.deep (tree.Chain p l f no_links) is_here.known.checked may)

  first_may : (site : Site) (p : Place) (l : Level) (f : Expr) → IsHere context here site → MayMakeAt site here.deep (tree.Chain p l f no_links) → MayMakeAt site here.deep f
  first_may site p l f is_here may =
      part_may site here.deep (tree.Chain p l f no_links) may f may.of.0 (operand_in p l f no_links f (contains_head f [])) (first_typed site p l f is_here may)

  pub first_can : (e : Expr) (p : Place) (l : Level) (f : Expr) (ls : List Link) → e ≡ tree.Chain p l f (links_in ls) → length ls ≡ 0 → CanMake context here e → CanMake context here f
  first_can e p l f ls same none can =
      let there = subst (CanMake context here) (alone_chain e p l f ls same none) can in
      record { site = there.site; is_here = there.is_here; may = first_may there.site p l f there.is_here there.may }

  first_answer : (site : Site) (p : Place) (l : Level) (f : Expr) (old new : System) (r : Result Stream MakeFault) → IsHere context here site → MayMakeAt site here.deep (tree.Chain p l f no_links) → IsAnswer site here.deep f old new r → IsAnswer site here.deep (tree.Chain p l f no_links) old new r
  first_answer site p l f old new (Ok s) is_here may h = record {
    made = h.made;
    new_is = h.new_is;
    makes = makes.Makes.chain h.makes;
    marks_are = h.marks_are;
    of_is = may.of.1.is ∙ sym (first_typed site p l f is_here may) ∙ h.of_is;
  }
  first_answer site p l f old new (Err g) is_here may h = h

  pub first_is : (e : Expr) (p : Place) (l : Level) (f : Expr) (ls : List Link) (old new : System) (r : Result Stream MakeFault) → e ≡ tree.Chain p l f (links_in ls) → length ls ≡ 0 → IsExpression context here f old new r → IsExpression context here e old new r
  first_is e p l f ls old new r same none h =
      subst (λ x. IsExpression context here x old new r) (sym (alone_chain e p l f ls same none))
      (record { at = λ site is_here may. first_answer site p l f old new r is_here may (h.at site is_here (first_may site p l f is_here may)) })

  -- ---- calls of macros
  pub call_can : (e : Expr) (x : List ℕ) (es : Exprs) (i : ℕ) (found : Option Declaration) → e ≡ tree.Call (place_of e) x es → is_called x ≡ false → found ≡ meaning (seen here.around.scope.now) x → macro_in found ≡ Some i → CanMake context here e → CanCall context here i es
  call_can e x es i found same other is macro can =
      let there = subst (CanMake context here) same can in
      record {
        site = there.site;
        place = place_of e;
        name = x;
        is_here = there.is_here;
        call = record { may = there.may; other = other; calls = sym (there.is_here.agrees.at x) ∙ sym is ∙ macro_is found i macro };
      }

  pub called_is : (e : Expr) (x : List ℕ) (es : Exprs) (i : ℕ) (found : Option Declaration) (old new : System) (r : Result Stream MakeFault) → e ≡ tree.Call (place_of e) x es → is_called x ≡ false → found ≡ meaning (seen here.around.scope.now) x → macro_in found ≡ Some i → IsCalled context here i es old new r → IsExpression context here e old new r
  called_is e x es i found old new r same other is macro h =
      subst (λ f. IsExpression context here f old new r) (sym same)
      (record {
        at = λ site is_here may.
            h.at site (place_of e) x is_here (record { may = may; other = other; calls = sym (is_here.agrees.at x) ∙ sym is ∙ macro_is found i macro });
      })

-- ---- bodies
module _ (context : Context) (here : Here) (e : Expr) where
  pub body_is : (old mid new : System) (a : Stream) (r : Result Stream MakeFault) → IsExpression context here e old mid (Ok a) → IsAliased e a mid new r → IsBody context here e old new r
  body_is old mid new a r h aliased = record { at = λ site is_here may. body_made site here.deep e old mid new a r (h.at site is_here may) aliased }

  pub body_stopped : (old mid : System) (f : MakeFault) → IsExpression context here e old mid (Err f) → IsBody context here e old mid (Err f)
  body_stopped old mid f h = record { at = λ site is_here may. body_refused site here.deep e old f (h.at site is_here may) }
