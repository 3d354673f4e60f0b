-- What a call of a macro asks and answers: its arguments, and what is inside of it.
use Rattle.std.proofs.Common.{◌≡◌, ℕ, zero, suc, ◌+◌, ◌-◌, ◌*◌, ◌<◌, false, List, map, Some, refl, ap, sym, subst, ◌∙◌, arith}
use Rattle.std.specs.Prelude.{Ok, Err, Result, Vec, slice_get}
use Rattle.std.proofs.lemmas.Bool.{true≢false}
use Rattle.tsl_value.specs.declared.place.Place.{Place}
use Rattle.flat_core.specs.System.{System}
use Rattle.syntax_tree.specs.Tree as tree
use Rattle.syntax_tree.specs.Tree.{Expr, Exprs}
use Rattle.syntax_tree.specs.inner.OneLevel as code
use Rattle.syntax_tree.specs.declared.tree.Item.{Item}
use Rattle.syntax_tree.specs.inner.OneLevel.{definition_of, exprs_of, item_of}
use Rattle.syntax_tree.specs.declared.tree.DefinitionParts.{DefinitionParts}
use Rattle.name_check.specs.inner.Steps.{local_body}
use Rattle.syntax_tree.specs.Tree.{params_of}
use Rattle.expr_types.specs.Bodies.{may_have_braces}
use Rattle.stream_constructs.specs.declared.construct.Stream.{Stream}
use Rattle.stream_constructs.specs.declared.maker.MakeFault.{MakeFault}
use Rattle.spec_meaning.specs.Occurrence.{body_of}
use Rattle.spec_meaning.specs.Shape.{expressions}
use Rattle.equation_marks.proofs.PartMarks.{listed_again}
use Rattle.equation_marks.proofs.Weights.{body_weight, body_within}
use Rattle.macro_flatten.specs.declared.context.Context.{Context}
use Rattle.macro_flatten.specs.declared.context.Here.{Here}
use Rattle.macro_flatten.specs.inner.Answers.{AreExpressions, AreMade, CanCall, CanEnter, CanMakeAll, IsAnswer, IsCall, IsCalled, IsDefinedAt, IsInside, IsMacroAnswer, IsRefusedAfter, marks_all}
use Rattle.macro_flatten.specs.inner.Here.{IsHere, MayMakeAll, Site}
use Rattle.macro_flatten.proofs.Sizes.{room}
use Rattle.macro_flatten.proofs.Called.{arguments_may, arguments_refused, call_made, entered, entry_of, inside_refused, is_macro, some_left}

module _ (context : Context) (here : Here) (i : ℕ) (arguments : List Expr) where
  abbrev es : Exprs
  es = exprs_of arguments

  -- the item that is called is a definition with parameters that are streams
  pub no_other : CanCall context here i es → may_have_braces (params_of (slice_get (map item_of context.items.now) i)) ≡ false → ⊥
  no_other can none =
      true≢false
      (sym (is_macro can.site can.is_here.known.checked here.deep can.place can.name es i can.call)
      ∙ ap (λ items. may_have_braces (params_of (slice_get items i))) (sym can.is_here.known.items_are) ∙ none)

  pub never_deepest : CanCall context here i es → here.deep ≡ zero → ⊥
  never_deepest can none = some_left can.site can.is_here.known.checked here.deep can.place can.name es i can.call none

  -- ---- its arguments
  all_may : (site : Site) (p : Place) (x : List ℕ) → IsHere context here site → IsCall site here.deep p x es i → MayMakeAll site here.deep arguments
  all_may site p x is_here call = subst (MayMakeAll site here.deep) (listed_again arguments) (arguments_may site is_here.known.checked here.deep p x es i call)

  pub arguments_can : CanCall context here i es → CanMakeAll context here arguments
  arguments_can can = record { site = can.site; is_here = can.is_here; may = all_may can.site can.place can.name can.is_here can.call }

  pub arguments_stopped : {Z : Type 0} (old mid : System) (f : MakeFault) → AreExpressions {Z = Z} context here arguments old mid (Err f) → IsCalled context here i es old mid (Err f)
  arguments_stopped old mid f h = record {
    at = λ site p x is_here call.
        arguments_refused site is_here.known.checked here.deep p x es i call old f
        (subst (λ xs. IsRefusedAfter old (marks_all site here.deep xs) f) (sym (listed_again arguments)) (h.at site is_here (all_may site p x is_here call)));
  }

  -- ---- what is inside of it
  module _ {Z : Type 0} (old mid : System) (params : Vec Stream Z) (made : AreExpressions context here arguments old mid (Ok params)) (parts : DefinitionParts) (defined : IsDefinedAt (map item_of context.items.now) i parts) (less : ℕ) (deeper : here.deep ≡ suc less) where
    all_made : (site : Site) (p : Place) (x : List ℕ) → IsHere context here site → IsCall site here.deep p x es i → AreMade site here.deep (expressions es) old mid params.items
    all_made site p x is_here call =
        subst (λ xs. AreMade site here.deep xs old mid params.items) (sym (listed_again arguments)) (made.at site is_here (all_may site p x is_here call))

    item_is : (site : Site) → IsHere context here site → slice_get site.items i ≡ Some (tree.Defined defined.place (definition_of parts))
    item_is site is_here = ap (λ items. slice_get items i) (sym is_here.known.items_are) ∙ defined.is

    pub enter_can : CanCall context here i es → CanEnter context i (definition_of parts) params.items less
    enter_can can = record {
      entry = entry_of can.site can.is_here.known.checked here.deep can.place can.name es i can.call;
      place = defined.place;
      is_item = item_is can.site can.is_here;
      entered = entered can.site can.is_here.known.checked here.deep can.place can.name es i can.call less deeper params.items (all_made can.site can.place can.name can.is_here can.call).typed context can.is_here.known;
      few = defined.few;
    }

    answer : (site : Site) (p : Place) (x : List ℕ) (is_here : IsHere context here site) (call : IsCall site here.deep p x es i) (new : System) (r : Result Stream MakeFault) → IsMacroAnswer (entry_of site is_here.known.checked here.deep p x es i call) i (local_body (definition_of parts)) params.items less mid new r → IsAnswer site here.deep (tree.Call p x es) old new r
    answer site p x is_here call new (Ok s) h =
        call_made site is_here.known.checked here.deep p x es i call less deeper old mid params.items (all_made site p x is_here call) (local_body (definition_of parts)) new s (ap body_of (item_is site is_here)) h
    answer site p x is_here call new (Err f) h =
        inside_refused site is_here.known.checked here.deep p x es i call less deeper old mid params.items (all_made site p x is_here call) f h

    pub macro_called : (new : System) (r : Result Stream MakeFault) → IsInside context i (definition_of parts) params.items less mid new r → IsCalled context here i es old new r
    macro_called new r h = record {
      at = λ site p x is_here call.
          answer site p x is_here call new r
          (h.at (entry_of site is_here.known.checked here.deep p x es i call) defined.place (item_is site is_here)
          (entered site is_here.known.checked here.deep p x es i call less deeper params.items (all_made site p x is_here call).typed context is_here.known));
    }

-- ---- one call less leaves room for what is inside
pub deeper_room : (deep whole inner own : ℕ) → inner < whole → (deep ≡ 0 → ⊥) → (deep - 1) * whole + inner < deep * whole + own
deeper_room zero whole inner own h some = absurd (some refl)
deeper_room (suc deep) whole inner own h some =
    let one : suc deep - 1 ≡ deep = omega arith in
    omega (arith, ap (λ d. d * whole) one)

-- the body of a macro is smaller than what a call of it may go through
pub callee_room : (items : List Item) (i : ℕ) (parts : DefinitionParts) → IsDefinedAt (map item_of items) i parts → 8 * body_weight (code.body_of parts.body) + 6 < room items
callee_room items i parts defined =
    let within = body_within (map item_of items) i (code.body_of parts.body) (ap body_of defined.is) in omega (arith, within)
