-- The loops over expressions and over the definitions of a block: what is left to make.
use Rattle.std.proofs.Common.{◌≡◌, ℕ, zero, suc, ◌+◌, ◌<◌, ◌≤◌, List, [], ◌∷◌, ◌++◌, length, get_or, drop, Some, refl, ap, sym, subst, ◌∙◌, append_assoc, arith}
use Rattle.std.specs.Borrow.{Bor}
use Rattle.std.specs.Prelude.{Ok, Err, Vec}
use Rattle.std.specs.List.{Contains}
use Rattle.std.proofs.lemmas.List.{append-nil, drop_all, length-map, map-append}
use Rattle.flat_core.specs.declared.equation.Equation.{Equation}
use Rattle.flat_core.specs.System.{System}
use Rattle.syntax_tree.specs.Tree as tree
use Rattle.syntax_tree.specs.Tree.{Expr}
use Rattle.syntax_tree.specs.inner.OneLevel.{definitions_of}
use Rattle.name_check.specs.inner.Steps.{local_body}
use Rattle.tsl_value.proofs.Lists.{left_at}
use Rattle.expr_types.specs.Judge.{type_of}
use Rattle.stream_shapes.specs.inner.Shape.{expressions_in}
use Rattle.stream_constructs.specs.declared.construct.Stream.{Stream}
use Rattle.stream_constructs.specs.declared.maker.MakeFault.{MakeFault}
use Rattle.spec_meaning.specs.Occurrence.{local, result_of}
use Rattle.spec_meaning.specs.Makes as makes
use Rattle.spec_meaning.specs.Makes.{MakesBlock}
use Rattle.flat_meaning.proofs.Numbers.{body_number}
use Rattle.equation_marks.specs.Marks.{Mark, block_marks, body_marks, mark_of}
use Rattle.equation_marks.proofs.CallMarks.{block_left, definition_first}
use Rattle.macro_flatten.specs.declared.context.Context.{Context}
use Rattle.macro_flatten.specs.declared.context.Here.{Here}
use Rattle.macro_flatten.specs.inner.Answers.{AreExpressions, AreMade, AreNumbered, CanMake, CanMakeAll, CanMakeBlock, IsBlock, IsBlockMade, IsBody, IsBodyMade, IsExpression, IsRefusedAfter, MayMakeBlock, exactly, marks_all, marks_at, marks_called}
use Rattle.macro_flatten.specs.inner.Here.{IsHere, MayMakeAll, MayMakeAt, Site}
use Rattle.macro_flatten.proofs.Made.{many_made, none_made, one_made, refused_after, refused_front, refused_same, with_both, with_none}

-- ---- expressions
-- one of some that are shared
pub shown_at : (es : List (Bor Expr)) (i : ℕ) (e : Bor Expr) → i < length es → e ≡ get_or es i e → (i < length (expressions_in es)) × (e.now ≡ get_or (expressions_in es) i e.now)
shown_at [] i e below is = absurd (omega arith)
shown_at (x ∷ es) zero e below is = (omega arith, ap (λ (y : Bor Expr). y.now) is)
shown_at (x ∷ es) (suc i) e below is = let rest = shown_at es i e (omega arith) is in (omega (arith, rest.0), rest.1)

module _ (context : Context) (here : Here) (es : List Expr) where
  -- These are made of them, and others are left. What is made of those is made of all.
  pub record IsWithin (site : Site) (left : List Expr) (old cur : System) (ss : List Stream) : Type 0 where
    pub made : (new : System) (rest : List Stream) → AreMade site here.deep left cur new rest → AreMade site here.deep es old new (ss ++ rest)
    pub refused : (f : MakeFault) → IsRefusedAfter cur (marks_all site here.deep left) f → IsRefusedAfter old (marks_all site here.deep es) f

  pub record AreBegun (i : ℕ) (old cur : System) (ss : List Stream) : Type 0 where
    pub at : (site : Site) → IsHere context here site → MayMakeAll site here.deep es → IsWithin site (drop i es) old cur ss

  pub none_begun : (old : System) → AreBegun zero old old []
  none_begun old = record { at = λ site is_here may. record { made = λ new rest h. h; refused = λ f h. h } }

  module _ (i : ℕ) (e : Expr) (below : i < length es) (is : e ≡ get_or es i e) where
    there : Contains es e
    there = (i, below, sym is)

    one_may : (site : Site) → MayMakeAll site here.deep es → MayMakeAt site here.deep e
    one_may site may = may.each e there

    pub one_can : CanMakeAll context here es → CanMake context here e
    one_can can = record { site = can.site; is_here = can.is_here; may = one_may can.site can.may }

    pub one_refused : {Z : Type 0} (old cur mid : System) (ss : List Stream) (f : MakeFault) → AreBegun i old cur ss → IsExpression context here e cur mid (Err f) → AreExpressions {Z = Z} context here es old mid (Err f)
    one_refused old cur mid ss f begun h = record {
      at = λ site is_here may.
          let rest = drop (i + 1) es in
          let refused = refused_front cur (marks_at site here.deep e) (marks_all site here.deep rest) f (h.at site is_here (one_may site may)) in
          (begun.at site is_here may).refused f (subst (λ xs. IsRefusedAfter cur (marks_all site here.deep xs) f) (sym (left_at es i e below is)) refused);
    }

    pub one_more : (old cur mid : System) (ss : List Stream) (s : Stream) → AreBegun i old cur ss → IsExpression context here e cur mid (Ok s) → AreBegun (i + 1) old mid (ss ++ s ∷ [])
    one_more old cur mid ss s begun h = record {
      at = λ site is_here may.
          let one = h.at site is_here (one_may site may) in
          let before = begun.at site is_here may in
          record {
            made = λ new rest more.
                let whole = one_made site here.deep e (drop (i + 1) es) cur mid new s rest one more in
                subst (AreMade site here.deep es old new) (sym (append_assoc ss (s ∷ []) rest))
                (before.made new (s ∷ rest) (subst (λ xs. AreMade site here.deep xs cur new (s ∷ rest)) (sym (left_at es i e below is)) whole));
            refused = λ f more.
                let after = refused_after cur mid one.made (marks_at site here.deep e) (marks_all site here.deep (drop (i + 1) es)) f one.new_is one.marks_are more in
                before.refused f (subst (λ xs. IsRefusedAfter cur (marks_all site here.deep xs) f) (sym (left_at es i e below is)) after);
          };
    }

  pub all_made : {Z : Type 0} (i : ℕ) (old cur : System) (ss : Vec Stream Z) → length es ≤ i → AreBegun i old cur ss.items → AreExpressions context here es old cur (Ok ss)
  all_made i old cur ss past begun = record {
    at = λ site is_here may.
        subst (AreMade site here.deep es old cur) (append-nil ss.items)
        ((begun.at site is_here may).made cur [] (subst (λ xs. AreMade site here.deep xs cur cur []) (sym (drop_all i es past)) (none_made site here.deep cur)));
  }

-- ---- a definition of a block, and those after it
local_at : (ds : List tree.Definition) (i : ℕ) (d : tree.Definition) → i < length ds → d ≡ get_or ds i d → local i (definitions_of ds) ≡ Some (local_body d)
local_at [] i d below is = absurd (omega arith)
local_at (tree.Define q x ps w b ∷ ds) zero d below is = ap (λ e. Some (local_body e)) (sym is)
local_at (x ∷ ds) (suc i) d below is = local_at ds i d (omega arith) is

module _ (site : Site) (deep : ℕ) where
  abbrev pub body_marks_at : Expr → List Mark
  body_marks_at e = body_marks site.at (marks_called site deep) e

  abbrev pub block_marks_at : tree.Definitions → List Mark
  block_marks_at ds = block_marks site.at (marks_called site deep) ds

  block_none : (k : ℕ) (old : System) → IsBlockMade site deep k tree.no_definitions old old
  block_none k old = record { streams = []; made = []; new_is = with_none old; makes = makes.MakesBlock.no_definition; marks_are = refl; numbered = tt }

  block_makes : (d : tree.Definition) (ds : tree.Definitions) (n : ℕ) (first rest : List Equation) (s : Stream) (ss : List Stream) → makes.MakesBody site.items site.kinds site.top site.st (result_of (local_body d)) n first s → MakesBlock site.items site.kinds site.top site.st ds (n + length first) rest ss → MakesBlock site.items site.kinds site.top site.st (tree.more_definitions d ds) n (first ++ rest) (s ∷ ss)
  block_makes (tree.Define q x ps w b) ds n first rest s ss one more = makes.MakesBlock.definition first rest one more refl

  block_one : (k : ℕ) (d : tree.Definition) (ds : tree.Definitions) (old mid new : System) (s : Stream) → type_of site.at (result_of (local_body d)) ≡ site.at.kinds.local site.at.number k → IsBodyMade site deep (result_of (local_body d)) old mid s → IsBlockMade site deep (suc k) ds mid new → IsBlockMade site deep k (tree.more_definitions d ds) old new
  block_one k d ds old mid new s kind first rest =
      let many = many_made old mid first.made first.new_is in
      let counted : length first.made ≡ length (body_marks_at (result_of (local_body d))) = sym (length-map first.made mark_of) ∙ ap length first.marks_are in
      let number = body_number site.items site.kinds site.top first.makes in
      let after : length mid.equations ≡ length old.equations + length (body_marks_at (result_of (local_body d))) = omega arith in
      record {
        streams = s ∷ rest.streams;
        made = first.made ++ rest.made;
        new_is = with_both old mid new first.made rest.made first.new_is rest.new_is;
        makes = block_makes d ds (length old.equations) first.made rest.made s rest.streams first.makes (subst (λ n. MakesBlock site.items site.kinds site.top site.st ds n rest.made rest.streams) many rest.makes);
        marks_are =
            map-append mark_of first.made rest.made ∙ (λ j. first.marks_are j ++ rest.marks_are j)
            ∙ sym (definition_first site.at (marks_called site deep) d ds);
        numbered = (omega arith, sym kind ∙ first.of_is, subst (λ n. AreNumbered exactly site.at (marks_called site deep) (suc k) n ds rest.streams) after rest.numbered);
      }

module _ (context : Context) (here : Here) (ds : List tree.Definition) where
  pub record IsBlockWithin (site : Site) (i : ℕ) (old cur : System) : Type 0 where
    pub made : (new : System) → IsBlockMade site here.deep i (definitions_of (drop i ds)) cur new → IsBlockMade site here.deep zero (definitions_of ds) old new
    pub refused : (f : MakeFault) → IsRefusedAfter cur (block_marks_at site here.deep (definitions_of (drop i ds))) f → IsRefusedAfter old (block_marks_at site here.deep (definitions_of ds)) f

  pub record IsBlockBegun (i : ℕ) (old cur : System) : Type 0 where
    pub at : (site : Site) → IsHere context here site → MayMakeBlock site here.deep (definitions_of ds) → IsBlockWithin site i old cur

  pub block_begun : (old : System) → IsBlockBegun zero old old
  block_begun old = record { at = λ site is_here may. record { made = λ new h. h; refused = λ f h. h } }

  module _ (i : ℕ) (d : tree.Definition) (below : i < length ds) (is : d ≡ get_or ds i d) where
    abbrev body : Expr
    body = result_of (local_body d)

    body_may : (site : Site) → MayMakeBlock site here.deep (definitions_of ds) → MayMakeAt site here.deep body
    body_may site may = may.each i (local_body d) (local_at ds i d below is)

    pub body_can : CanMakeBlock context here (definitions_of ds) → CanMake context here body
    body_can can = record { site = can.site; is_here = can.is_here; may = body_may can.site can.may }

    left : definitions_of (drop i ds) ≡ tree.more_definitions d (definitions_of (drop (i + 1) ds))
    left = ap definitions_of (left_at ds i d below is)

    pub body_refused : (old cur mid : System) (f : MakeFault) → IsBlockBegun i old cur → IsBody context here body cur mid (Err f) → IsBlock context here (definitions_of ds) old mid (Err f)
    body_refused old cur mid f begun h = record {
      at = λ site is_here may.
          let rest = block_marks_at site here.deep (definitions_of (drop (i + 1) ds)) in
          let refused = refused_front cur (body_marks_at site here.deep body) rest f (h.at site is_here (body_may site may)) in
          (begun.at site is_here may).refused f
          (refused_same cur (body_marks_at site here.deep body ++ rest) (block_marks_at site here.deep (definitions_of (drop i ds))) f
          (sym (block_left site.at (marks_called site here.deep) ds i d below is)) refused);
    }

    pub body_more : (old cur mid : System) (s : Stream) → IsBlockBegun i old cur → IsBody context here body cur mid (Ok s) → IsBlockBegun (i + 1) old mid
    body_more old cur mid s begun h = record {
      at = λ site is_here may.
          let one = h.at site is_here (body_may site may) in
          let before = begun.at site is_here may in
          let next : suc i ≡ i + 1 = omega arith in
          record {
            made = λ new more.
                let moved = subst (λ k. IsBlockMade site here.deep k (definitions_of (drop (i + 1) ds)) mid new) (sym next) more in
                let whole = block_one site here.deep i d (definitions_of (drop (i + 1) ds)) cur mid new s (may.kinds i (local_body d) (local_at ds i d below is)) one moved in
                before.made new (subst (λ xs. IsBlockMade site here.deep i xs cur new) (sym left) whole);
            refused = λ f more.
                let rest = block_marks_at site here.deep (definitions_of (drop (i + 1) ds)) in
                before.refused f
                (refused_same cur (body_marks_at site here.deep body ++ rest) (block_marks_at site here.deep (definitions_of (drop i ds))) f
                (sym (block_left site.at (marks_called site here.deep) ds i d below is))
                (refused_after cur mid one.made (body_marks_at site here.deep body) rest f one.new_is one.marks_are more));
          };
    }

  pub block_done : (i : ℕ) (old cur : System) (u : Unit {0}) → length ds ≤ i → IsBlockBegun i old cur → IsBlock context here (definitions_of ds) old cur (Ok u)
  block_done i old cur u past begun = record {
    at = λ site is_here may.
        (begun.at site is_here may).made cur
        (subst (λ xs. IsBlockMade site here.deep i xs cur cur) (sym (ap definitions_of (drop_all i ds past))) (block_none site here.deep i cur));
  }
