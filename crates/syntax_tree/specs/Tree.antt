-- Trees of specifications, without where they lie in memory. Each part begins with its place.
use Rattle.std.specs.Prelude.{ℕ, List, [], Bool, Option, Some}
use Rattle.tsl_value.specs.declared.place.Place.{Place}
use Rattle.syntax_tree.specs.declared.tree.Level.{Level}
use Rattle.syntax_tree.specs.declared.tree.Operator.{Operator}
use Rattle.syntax_tree.specs.declared.tree.Comparison.{Comparison}
use Rattle.vocabulary.specs.declared.kind.Kind.{Kind}
use Rattle.vocabulary.specs.declared.kind.Kind.TheVariants as kind
use Rattle.vocabulary.specs.declared.dotted.Dotted.{Dotted}

mutual
  pub data TypeName : Type 0 where
    UnitType : Place → TypeName
    IntType : Place → TypeName
    BoolType : Place → TypeName
    TextType : Place → TypeName
    AggregateType : Place → Aggregate → TypeName
    OptionType : Place → TypeName → TypeName
    EventsType : Place → TypeName → TypeName

  -- an aggregate of these types: of keys, of keys and entries, of elements
  pub data Aggregate : Type 0 where
    SetOf : TypeName → Aggregate
    MapOf : TypeName → TypeName → Aggregate
    QueueOf : TypeName → Aggregate

abbrev pub kind_in : Aggregate → Kind
kind_in (SetOf y) = kind.Set
kind_in (MapOf x y) = kind.Map
kind_in (QueueOf y) = kind.Queue

mutual
  pub data Expr : Type 0 where
    If : Place → Expr → Expr → Expr → Expr
    Chain : Place → Level → Expr → Links → Expr
    Compare : Place → Comparison → Expr → Expr → Expr
    Negate : Place → Expr → Expr
    Not : Place → Expr → Expr
    Number : Place → ℕ → Expr
    Negative : Place → ℕ → Expr
    Text : Place → List ℕ → Expr
    Boolean : Place → Bool → Expr
    Unit : Place → Expr
    Name : Place → List ℕ → Expr
    Call : Place → List ℕ → Exprs → Expr
    CallDotted : Place → Dotted → Exprs → Expr
    Nil : Place → TypeName → Expr
    None : Place → TypeName → Expr
    Empty : Place → Aggregate → Expr

  pub data Exprs : Type 0 where
    no_exprs : Exprs
    more_exprs : Expr → Exprs → Exprs

  pub data Links : Type 0 where
    no_links : Links
    more_links : Operator → Expr → Links → Links

abbrev pub place_of : Expr → Place
place_of (If p c a b) = p
place_of (Chain p l e ls) = p
place_of (Compare p o a b) = p
place_of (Negate p e) = p
place_of (Not p e) = p
place_of (Number p n) = p
place_of (Negative p n) = p
place_of (Text p t) = p
place_of (Boolean p b) = p
place_of (Unit p) = p
place_of (Name p n) = p
place_of (Call p n es) = p
place_of (CallDotted p d es) = p
place_of (Nil p y) = p
place_of (None p y) = p
place_of (Empty p a) = p

pub record Param : Type 0 where
  pub place : Place
  pub name : List ℕ
  pub of : TypeName

mutual
  pub data Body : Type 0 where
    Plain : Expr → Body
    Block : Definitions → Expr → Body

  -- the place of the name, the name, the parameters, the written type, and the body
  pub data Definition : Type 0 where
    Define : Place → List ℕ → List Param → Option TypeName → Body → Definition

  pub data Definitions : Type 0 where
    no_definitions : Definitions
    more_definitions : Definition → Definitions → Definitions

pub data Item : Type 0 where
  -- the place of the word `in`, and of the name
  Input : Place → Place → List ℕ → TypeName → Item
  -- the place of the word `def`
  Defined : Place → Definition → Item
  -- the place of the word `out`, and of the name
  Output : Place → Place → List ℕ → Item
  OutputAs : Place → Expr → Place → List ℕ → Item

-- the parameters of an item
abbrev pub params_of : Option Item → List Param
params_of (Some (Defined p (Define q n ps w b))) = ps
params_of _ = []
