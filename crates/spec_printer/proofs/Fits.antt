-- Trees that tokens spell, as they are printed: each holds within so many levels, with parentheses only where they matter,
-- and each of its names, numbers and texts is printable.
use Rattle.std.proofs.Common.{◌≡◌, ℕ, suc, Bool, true, false, List, [], ◌∷◌, Option, Some, None}
use Rattle.spec_lexer.specs.declared.token.TokenKind.TheVariants as kind
use Rattle.syntax_tree.specs.declared.tree.Level.{Level}
use Rattle.syntax_tree.specs.declared.tree.Operator.{Operator}
use Rattle.syntax_tree.specs.declared.tree.Comparison.{Comparison}
use Rattle.vocabulary.specs.declared.dotted.Dotted.{Dotted}
use Rattle.tsl_value.specs.declared.place.Place.{Place}
use Rattle.syntax_tree.specs.Tree as tree
use Rattle.syntax_tree.specs.Tree.{TypeName, Aggregate, Expr, Exprs, no_exprs, more_exprs, Links, no_links, more_links, Param, Body, Definitions, no_definitions, more_definitions, Item}
use Rattle.syntax_tree.specs.Levels.{level_of}
use Rattle.spec_printer.specs.inner.Print.{least_operand, least_negated, holds}
use Rattle.spec_printer.proofs.Printable.{Printable}

mutual
  pub data FitsType : ℕ → TypeName → Type 0 where
    unit : {room : ℕ} {p : Place} → FitsType room (tree.UnitType p)
    int : {room : ℕ} {p : Place} → FitsType room (tree.IntType p)
    bool : {room : ℕ} {p : Place} → FitsType room (tree.BoolType p)
    string : {room : ℕ} {p : Place} → FitsType room (tree.TextType p)
    aggregate : {room : ℕ} {p : Place} {a : Aggregate} → FitsAggregate room a → FitsType room (tree.AggregateType p a)
    option : {room : ℕ} {p : Place} {y : TypeName} → FitsType room y → FitsType (suc room) (tree.OptionType p y)
    events : {room : ℕ} {p : Place} {y : TypeName} → FitsType room y → FitsType (suc room) (tree.EventsType p y)

  pub data FitsAggregate : ℕ → Aggregate → Type 0 where
    set : {room : ℕ} {y : TypeName} → FitsType room y → FitsAggregate (suc room) (tree.SetOf y)
    map : {room : ℕ} {x y : TypeName} → FitsType room x → FitsType room y → FitsAggregate (suc room) (tree.MapOf x y)
    queue : {room : ℕ} {y : TypeName} → FitsType room y → FitsAggregate (suc room) (tree.QueueOf y)

mutual
  pub data Fits : ℕ → Expr → Type 0 where
    choice : {room : ℕ} {p : Place} {c a b : Expr} → Fits room c → Fits room a → Fits room b → Fits (suc room) (tree.If p c a b)
    chain : {room : ℕ} {p : Place} {l : Level} {e f : Expr} {o : Operator} {ls : Links} → FitsAt (least_operand l) room e → FitLinks l room (more_links o f ls) → Fits room (tree.Chain p l e (more_links o f ls))
    comparison : {room : ℕ} {p : Place} {o : Comparison} {a b : Expr} → FitsAt 4 room a → FitsAt 4 room b → Fits room (tree.Compare p o a b)
    negate : {room : ℕ} {p : Place} {e : Expr} → FitsAt (least_negated e) room e → Fits (suc room) (tree.Negate p e)
    negation : {room : ℕ} {p : Place} {e : Expr} → FitsAt 6 room e → Fits (suc room) (tree.Not p e)
    number : {room : ℕ} {p : Place} {n : ℕ} → Printable (kind.Number n) → Fits room (tree.Number p n)
    negative : {room : ℕ} {p : Place} {n : ℕ} → Printable (kind.Number n) → Fits room (tree.Negative p n)
    text : {room : ℕ} {p : Place} {t : List ℕ} → Printable (kind.Text t) → Fits room (tree.Text p t)
    boolean : {room : ℕ} {p : Place} {b : Bool} → Fits room (tree.Boolean p b)
    nothing : {room : ℕ} {p : Place} → Fits (suc room) (tree.Unit p)
    name : {room : ℕ} {p : Place} {n : List ℕ} → Printable (kind.Name n) → Fits room (tree.Name p n)
    call : {room : ℕ} {p : Place} {n : List ℕ} {e : Expr} {es : Exprs} → Printable (kind.Name n) → Fits room e → FitExprs room es → Fits (suc room) (tree.Call p n (more_exprs e es))
    call_dotted : {room : ℕ} {p : Place} {d : Dotted} {e : Expr} {es : Exprs} → Fits room e → FitExprs room es → Fits (suc room) (tree.CallDotted p d (more_exprs e es))
    nil : {room : ℕ} {p : Place} {y : TypeName} → FitsType room y → Fits (suc room) (tree.Nil p y)
    none : {room : ℕ} {p : Place} {y : TypeName} → FitsType room y → Fits (suc room) (tree.None p y)
    empty : {room : ℕ} {p : Place} {a : Aggregate} → FitsAggregate room a → Fits room (tree.Empty p a)

  -- as an operand: as it is, or in parentheses
  pub data FitsAt : ℕ → ℕ → Expr → Type 0 where
    as_it_is : {least room : ℕ} {e : Expr} → holds least e ≡ true → Fits room e → FitsAt least room e
    enclosed : {least room : ℕ} {e : Expr} → holds least e ≡ false → Fits room e → FitsAt least (suc room) e

  pub data FitExprs : ℕ → Exprs → Type 0 where
    no_expr : {room : ℕ} → FitExprs room no_exprs
    one_expr : {room : ℕ} {e : Expr} {es : Exprs} → Fits room e → FitExprs room es → FitExprs room (more_exprs e es)

  pub data FitLinks : Level → ℕ → Links → Type 0 where
    no_link : {l : Level} {room : ℕ} → FitLinks l room no_links
    one_link : {l : Level} {room : ℕ} {o : Operator} {e : Expr} {ls : Links} → level_of o ≡ l → FitsAt (least_operand l) room e → FitLinks l room ls → FitLinks l room (more_links o e ls)

pub data FitsParam : ℕ → Param → Type 0 where
  param : {room : ℕ} {p : Param} → Printable (kind.Name p.name) → FitsType room p.of → FitsParam room p

pub data FitParams : ℕ → List Param → Type 0 where
  no_param : {room : ℕ} → FitParams room []
  one_param : {room : ℕ} {p : Param} {ps : List Param} → FitsParam room p → FitParams room ps → FitParams room (p ∷ ps)

pub data MayFitParams : ℕ → List Param → Type 0 where
  without_params : {room : ℕ} → MayFitParams room []
  with_params : {room : ℕ} {p : Param} {ps : List Param} → FitsParam room p → FitParams room ps → MayFitParams (suc room) (p ∷ ps)

pub data MayFitType : ℕ → Option TypeName → Type 0 where
  without_type : {room : ℕ} → MayFitType room None
  with_type : {room : ℕ} {y : TypeName} → FitsType room y → MayFitType room (Some y)

mutual
  pub data FitsBody : ℕ → Body → Type 0 where
    plain : {room : ℕ} {e : Expr} → Fits room e → FitsBody room (tree.Plain e)
    block : {room : ℕ} {ds : Definitions} {e : Expr} → FitDefinitions room ds → Fits room e → FitsBody (suc room) (tree.Block ds e)

  pub data FitDefinitions : ℕ → Definitions → Type 0 where
    no_definition : {room : ℕ} → FitDefinitions room no_definitions
    one_definition : {room : ℕ} {p : Place} {n : List ℕ} {w : Option TypeName} {b : Body} {ds : Definitions} → Printable (kind.Name n) → MayFitType room w → FitsBody room b → FitDefinitions room ds → FitDefinitions room (more_definitions (tree.Define p n [] w b) ds)

pub data FitsItem : ℕ → Item → Type 0 where
  input : {room : ℕ} {p q : Place} {n : List ℕ} {y : TypeName} → Printable (kind.Name n) → FitsType room y → FitsItem room (tree.Input p q n y)
  definition : {room : ℕ} {p q : Place} {n : List ℕ} {ps : List Param} {w : Option TypeName} {b : Body} → Printable (kind.Name n) → MayFitParams room ps → MayFitType room w → FitsBody room b → FitsItem room (tree.Defined p (tree.Define q n ps w b))
  output : {room : ℕ} {p q : Place} {n : List ℕ} → Printable (kind.Name n) → FitsItem room (tree.Output p q n)
  output_as : {room : ℕ} {p q : Place} {n : List ℕ} {e : Expr} → Printable (kind.Name n) → Fits room e → FitsItem room (tree.OutputAs p e q n)

pub data FitItems : ℕ → List Item → Type 0 where
  no_item : {room : ℕ} → FitItems room []
  one_item : {room : ℕ} {i : Item} {is : List Item} → FitsItem room i → FitItems room is → FitItems room (i ∷ is)
