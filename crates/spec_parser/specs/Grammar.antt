-- Which tokens spell a tree: one rule for each construct. Each relation speaks of tokens, of what their front spells, and of
-- the tokens after it; its number says how many levels may be opened in the front. A level is opened by a parenthesis, a
-- bracket, a brace, the word `if` and a prefix operator.
use Rattle.std.specs.Prelude.{◌≡◌, ℕ, suc, Bool, true, false, List, [], ◌∷◌, Option, Some, None, codes}
use Rattle.spec_lexer.specs.declared.token.Token.{Token}
use Rattle.spec_lexer.specs.declared.token.TokenKind.{TokenKind}
use Rattle.spec_lexer.specs.declared.token.TokenKind.TheVariants as kind
use Rattle.spec_lexer.specs.declared.token.Word.TheVariants as word
use Rattle.spec_lexer.specs.declared.token.Symbol.{Symbol}
use Rattle.spec_lexer.specs.declared.token.Symbol.TheVariants as symbol
use Rattle.tsl_value.specs.declared.place.Place.{Place}
use Rattle.syntax_tree.specs.declared.tree.Level.{Level}
use Rattle.syntax_tree.specs.declared.tree.Level.TheVariants as level
use Rattle.syntax_tree.specs.declared.tree.Operator.{Operator}
use Rattle.syntax_tree.specs.declared.tree.Comparison.{Comparison}
use Rattle.vocabulary.specs.declared.dotted.Dotted.{Dotted}
use Rattle.syntax_tree.specs.Tree as tree
use Rattle.syntax_tree.specs.Tree.{TypeName, Aggregate, kind_in, Expr, Exprs, no_exprs, more_exprs, Links, no_links, more_links, place_of}
use Rattle.syntax_tree.specs.Tree.{Param, Body}
use Rattle.syntax_tree.specs.Tree.{Definition, Definitions, no_definitions, more_definitions, Item}
use Rattle.spec_parser.specs.Words.{operator_at, comparison_at, opens_call, is_number, is_open, is_comma, is_colon, defines, is_as, is_def}
use Rattle.vocabulary.specs.Kinds.{kind_name}
use Rattle.vocabulary.specs.Table.{family_name, family_in, member_name}
use Rattle.spec_parser.specs.Words.{goes_on}

-- a token is this symbol, this word, this name
abbrev pub Is : Token → Symbol → Type 0
Is t s = t.kind ≡ kind.Symbol s

abbrev pub IsNamed : Token → List ℕ → Type 0
IsNamed t n = t.kind ≡ kind.Name n

-- the next token, if there is one, fails the test
abbrev pub IsPast : (TokenKind → Bool) → List Token → Type 0
IsPast test [] = Unit {0}
IsPast test (t ∷ ts) = test t.kind ≡ false

-- no operator of the level comes next, no comparison, nothing that goes on with a name
abbrev pub IsPastLevel : Level → List Token → Type 0
IsPastLevel l [] = Unit {0}
IsPastLevel l (t ∷ ts) = operator_at l t.kind t.first ≡ None

abbrev pub IsPastComparison : List Token → Type 0
IsPastComparison [] = Unit {0}
IsPastComparison (t ∷ ts) = comparison_at t.kind ≡ None

abbrev pub IsPastName : List ℕ → List Token → Type 0
IsPastName n [] = Unit {0}
IsPastName n (t ∷ ts) = goes_on n t.kind t.first ≡ false

-- types, and what stands in the brackets of an aggregate of a kind
mutual
  pub data IsType : ℕ → List Token → TypeName → List Token → Type 0 where
    unit : {room : ℕ} {t : Token} {ts : List Token} → IsNamed t (codes "Unit") → IsType room (t ∷ ts) (tree.UnitType t.place) ts
    int : {room : ℕ} {t : Token} {ts : List Token} → IsNamed t (codes "Int") → IsType room (t ∷ ts) (tree.IntType t.place) ts
    bool : {room : ℕ} {t : Token} {ts : List Token} → IsNamed t (codes "Bool") → IsType room (t ∷ ts) (tree.BoolType t.place) ts
    string : {room : ℕ} {t : Token} {ts : List Token} → IsNamed t (codes "String") → IsType room (t ∷ ts) (tree.TextType t.place) ts
    -- KIND [ y .. ]
    aggregate :
        {room : ℕ} {t : Token} {ts rest : List Token} {a : Aggregate} →
        IsNamed t (kind_name (kind_in a)) →
        IsAggregate room ts a rest →
        IsType room (t ∷ ts) (tree.AggregateType t.place a) rest
    -- Option [ y ]
    option :
        {room : ℕ} {t u v : Token} {ts rest : List Token} {y : TypeName} →
        IsNamed t (codes "Option") →
        Is u symbol.OpenBracket →
        IsType room ts y (v ∷ rest) →
        Is v symbol.CloseBracket →
        IsType (suc room) (t ∷ u ∷ ts) (tree.OptionType t.place y) rest
    -- Events [ y ]
    events :
        {room : ℕ} {t u v : Token} {ts rest : List Token} {y : TypeName} →
        IsNamed t (codes "Events") →
        Is u symbol.OpenBracket →
        IsType room ts y (v ∷ rest) →
        Is v symbol.CloseBracket →
        IsType (suc room) (t ∷ u ∷ ts) (tree.EventsType t.place y) rest

  pub data IsAggregate : ℕ → List Token → Aggregate → List Token → Type 0 where
    -- [ y ]
    set :
        {room : ℕ} {u v : Token} {ts rest : List Token} {y : TypeName} →
        Is u symbol.OpenBracket →
        IsType room ts y (v ∷ rest) →
        Is v symbol.CloseBracket →
        IsAggregate (suc room) (u ∷ ts) (tree.SetOf y) rest
    -- [ x , y ]
    map :
        {room : ℕ} {u v w : Token} {ts us rest : List Token} {x y : TypeName} →
        Is u symbol.OpenBracket →
        IsType room ts x (v ∷ us) →
        Is v symbol.Comma →
        IsType room us y (w ∷ rest) →
        Is w symbol.CloseBracket →
        IsAggregate (suc room) (u ∷ ts) (tree.MapOf x y) rest
    -- [ y ]
    queue :
        {room : ℕ} {u v : Token} {ts rest : List Token} {y : TypeName} →
        Is u symbol.OpenBracket →
        IsType room ts y (v ∷ rest) →
        Is v symbol.CloseBracket →
        IsAggregate (suc room) (u ∷ ts) (tree.QueueOf y) rest

-- a chain of one operand is that operand; a chain has the place of its first operand
abbrev pub chained : Level → Expr → Links → Expr
chained l e no_links = e
chained l e (more_links o f ls) = tree.Chain (place_of e) l e (more_links o f ls)

mutual
  pub data IsExpr : ℕ → List Token → Expr → List Token → Type 0 where
    -- if c then a else b
    choice :
        {room : ℕ} {t u v : Token} {ts us vs rest : List Token} {c a b : Expr} →
        t.kind ≡ kind.Word word.If →
        IsExpr room ts c (u ∷ us) →
        u.kind ≡ kind.Word word.Then →
        IsExpr room us a (v ∷ vs) →
        v.kind ≡ kind.Word word.Else →
        IsExpr room vs b rest →
        IsExpr (suc room) (t ∷ ts) (tree.If t.place c a b) rest
    chain : {room : ℕ} {ts rest : List Token} {e : Expr} → IsLevel level.Disjunction room ts e rest → IsExpr room ts e rest

  -- the operands of one level, with the operators between them
  pub data IsLevel : Level → ℕ → List Token → Expr → List Token → Type 0 where
    -- e OPERATOR f ..
    operands :
        {l : Level} {room : ℕ} {ts us rest : List Token} {e : Expr} {ls : Links} →
        IsOperand l room ts e us →
        AreLinks l room us ls rest →
        IsLevel l room ts (chained l e ls) rest

  pub data AreLinks : Level → ℕ → List Token → Links → List Token → Type 0 where
    no_link : {l : Level} {room : ℕ} {ts : List Token} → IsPastLevel l ts → AreLinks l room ts no_links ts
    -- OPERATOR e ..
    one_link :
        {l : Level} {room : ℕ} {t : Token} {ts us rest : List Token} {o : Operator} {e : Expr} {ls : Links} →
        operator_at l t.kind t.first ≡ Some o →
        IsOperand l room ts e us →
        AreLinks l room us ls rest →
        AreLinks l room (t ∷ ts) (more_links o e ls) rest

  -- what stands at a level: that of the next stronger one, with one comparison at most between two sums
  pub data IsOperand : Level → ℕ → List Token → Expr → List Token → Type 0 where
    -- a && b .. , as an operand of ||
    conjunction :
        {room : ℕ} {ts rest : List Token} {e : Expr} →
        IsLevel level.Conjunction room ts e rest →
        IsOperand level.Disjunction room ts e rest
    -- a + b .. , as an operand of &&
    no_comparison :
        {room : ℕ} {ts rest : List Token} {e : Expr} →
        IsLevel level.Sum room ts e rest →
        IsPastComparison rest →
        IsOperand level.Conjunction room ts e rest
    -- a COMPARISON b , as an operand of &&
    comparison :
        {room : ℕ} {t : Token} {ts us rest : List Token} {o : Comparison} {a b : Expr} →
        IsLevel level.Sum room ts a (t ∷ us) →
        comparison_at t.kind ≡ Some o →
        IsLevel level.Sum room us b rest →
        IsOperand level.Conjunction room ts (tree.Compare (place_of a) o a b) rest
    product : {room : ℕ} {ts rest : List Token} {e : Expr} → IsLevel level.Product room ts e rest → IsOperand level.Sum room ts e rest
    unary : {room : ℕ} {ts rest : List Token} {e : Expr} → IsUnary room ts e rest → IsOperand level.Product room ts e rest

  -- prefix operators; a minus before a number makes one literal with it
  pub data IsUnary : ℕ → List Token → Expr → List Token → Type 0 where
    -- - NUMBER
    negative :
        {room : ℕ} {t u : Token} {ts : List Token} {n : ℕ} →
        Is t symbol.Minus →
        u.kind ≡ kind.Number n →
        IsUnary room (t ∷ u ∷ ts) (tree.Negative t.place n) ts
    -- - e
    negate :
        {room : ℕ} {t : Token} {ts rest : List Token} {e : Expr} →
        Is t symbol.Minus →
        IsPast is_number ts →
        IsUnary room ts e rest →
        IsUnary (suc room) (t ∷ ts) (tree.Negate t.place e) rest
    -- ! e
    negation :
        {room : ℕ} {t : Token} {ts rest : List Token} {e : Expr} →
        Is t symbol.Not →
        IsUnary room ts e rest →
        IsUnary (suc room) (t ∷ ts) (tree.Not t.place e) rest
    primary : {room : ℕ} {ts rest : List Token} {e : Expr} → IsPrimary room ts e rest → IsUnary room ts e rest

  pub data IsPrimary : ℕ → List Token → Expr → List Token → Type 0 where
    number : {room : ℕ} {t : Token} {ts : List Token} {n : ℕ} → t.kind ≡ kind.Number n → IsPrimary room (t ∷ ts) (tree.Number t.place n) ts
    text : {room : ℕ} {t : Token} {ts : List Token} {n : List ℕ} → t.kind ≡ kind.Text n → IsPrimary room (t ∷ ts) (tree.Text t.place n) ts
    truth : {room : ℕ} {t : Token} {ts : List Token} → t.kind ≡ kind.Word word.True → IsPrimary room (t ∷ ts) (tree.Boolean t.place true) ts
    -- false
    falsity :
        {room : ℕ} {t : Token} {ts : List Token} →
        t.kind ≡ kind.Word word.False →
        IsPrimary room (t ∷ ts) (tree.Boolean t.place false) ts
    -- ( e )
    parens :
        {room : ℕ} {t v : Token} {ts rest : List Token} {e : Expr} →
        Is t symbol.Open →
        IsExpr room ts e (v ∷ rest) →
        Is v symbol.Close →
        IsPrimary (suc room) (t ∷ ts) e rest
    -- ( )
    nothing :
        {room : ℕ} {t v : Token} {rest : List Token} →
        Is t symbol.Open →
        Is v symbol.Close →
        IsPrimary (suc room) (t ∷ v ∷ rest) (tree.Unit t.place) rest
    -- NAME
    name :
        {room : ℕ} {t : Token} {ts : List Token} {n : List ℕ} →
        IsNamed t n →
        IsPastName n ts →
        IsPrimary room (t ∷ ts) (tree.Name t.place n) ts
    -- NAME ( e , .. )
    call :
        {room : ℕ} {t u v : Token} {ts us rest : List Token} {n : List ℕ} {e : Expr} {es : Exprs} →
        IsNamed t n →
        opens_call u.kind u.first ≡ true →
        IsExpr room ts e us →
        AreOthers room us es (v ∷ rest) →
        Is v symbol.Close →
        IsPrimary (suc room) (t ∷ u ∷ ts) (tree.Call t.place n (more_exprs e es)) rest
    -- FAMILY . MEMBER ( e , .. )
    call_dotted :
        {room : ℕ} {t d m u v : Token} {ts us rest : List Token} {o : Dotted} {e : Expr} {es : Exprs} →
        IsNamed t (family_name (family_in o)) →
        Is d symbol.Dot →
        IsNamed m (member_name o) →
        opens_call u.kind u.first ≡ true →
        IsExpr room ts e us →
        AreOthers room us es (v ∷ rest) →
        Is v symbol.Close →
        IsPrimary (suc room) (t ∷ d ∷ m ∷ u ∷ ts) (tree.CallDotted t.place o (more_exprs e es)) rest
    -- nil [ y ]
    nil :
        {room : ℕ} {t u v : Token} {ts rest : List Token} {y : TypeName} →
        IsNamed t (codes "nil") →
        Is u symbol.OpenBracket →
        IsType room ts y (v ∷ rest) →
        Is v symbol.CloseBracket →
        IsPrimary (suc room) (t ∷ u ∷ ts) (tree.Nil t.place y) rest
    -- None [ y ]
    none :
        {room : ℕ} {t u v : Token} {ts rest : List Token} {y : TypeName} →
        IsNamed t (codes "None") →
        Is u symbol.OpenBracket →
        IsType room ts y (v ∷ rest) →
        Is v symbol.CloseBracket →
        IsPrimary (suc room) (t ∷ u ∷ ts) (tree.None t.place y) rest
    -- KIND . empty [ y .. ]
    empty_aggregate :
        {room : ℕ} {t d m : Token} {ts rest : List Token} {a : Aggregate} →
        IsNamed t (kind_name (kind_in a)) →
        Is d symbol.Dot →
        IsNamed m (codes "empty") →
        IsAggregate room ts a rest →
        IsPrimary room (t ∷ d ∷ m ∷ ts) (tree.Empty t.place a) rest

  -- the arguments after the first
  pub data AreOthers : ℕ → List Token → Exprs → List Token → Type 0 where
    no_other : {room : ℕ} {ts : List Token} → IsPast is_comma ts → AreOthers room ts no_exprs ts
    -- , e ..
    one_other :
        {room : ℕ} {t : Token} {ts us rest : List Token} {e : Expr} {es : Exprs} →
        Is t symbol.Comma →
        IsExpr room ts e us →
        AreOthers room us es rest →
        AreOthers room (t ∷ ts) (more_exprs e es) rest

pub data IsParam : ℕ → List Token → Param → List Token → Type 0 where
  -- NAME : y
  param :
      {room : ℕ} {t c : Token} {ts rest : List Token} {n : List ℕ} {y : TypeName} →
      IsNamed t n →
      Is c symbol.Colon →
      IsType room ts y rest →
      IsParam room (t ∷ c ∷ ts) (record { place = t.place; name = n; of = y }) rest

-- the parameters after the first
pub data AreOtherParams : ℕ → List Token → List Param → List Token → Type 0 where
  no_param : {room : ℕ} {ts : List Token} → IsPast is_comma ts → AreOtherParams room ts [] ts
  -- , p ..
  one_param :
      {room : ℕ} {t : Token} {ts us rest : List Token} {p : Param} {ps : List Param} →
      Is t symbol.Comma →
      IsParam room ts p us →
      AreOtherParams room us ps rest →
      AreOtherParams room (t ∷ ts) (p ∷ ps) rest

-- parameters, or none
pub data MayHaveParams : ℕ → List Token → List Param → List Token → Type 0 where
  without_params : {room : ℕ} {ts : List Token} → IsPast is_open ts → MayHaveParams room ts [] ts
  -- ( p , .. )
  with_params :
      {room : ℕ} {t v : Token} {ts us rest : List Token} {p : Param} {ps : List Param} →
      Is t symbol.Open →
      IsParam room ts p us →
      AreOtherParams room us ps (v ∷ rest) →
      Is v symbol.Close →
      MayHaveParams (suc room) (t ∷ ts) (p ∷ ps) rest

-- a written type, or none
pub data MayHaveType : ℕ → List Token → Option TypeName → List Token → Type 0 where
  without_type : {room : ℕ} {ts : List Token} → IsPast is_colon ts → MayHaveType room ts None ts
  -- : y
  with_type :
      {room : ℕ} {t : Token} {ts rest : List Token} {y : TypeName} →
      Is t symbol.Colon →
      IsType room ts y rest →
      MayHaveType room (t ∷ ts) (Some y) rest

mutual
  pub data IsBody : ℕ → List Token → Body → List Token → Type 0 where
    plain : {room : ℕ} {ts rest : List Token} {e : Expr} → IsExpr room ts e rest → IsBody room ts (tree.Plain e) rest
    -- { def .. e }
    block :
        {room : ℕ} {t v : Token} {ts us rest : List Token} {ds : Definitions} {e : Expr} →
        Is t symbol.OpenBrace →
        AreDefinitions room ts ds us →
        IsExpr room us e (v ∷ rest) →
        Is v symbol.CloseBrace →
        IsBody (suc room) (t ∷ ts) (tree.Block ds e) rest

  -- the definitions of a block, which have no parameters
  pub data AreDefinitions : ℕ → List Token → Definitions → List Token → Type 0 where
    no_definition : {room : ℕ} {ts : List Token} → IsPast is_def ts → AreDefinitions room ts no_definitions ts
    -- def NAME : w := b .. , with its type or without
    one_definition :
        {room : ℕ} {d t a : Token} {ts us vs rest : List Token} {n : List ℕ} {w : Option TypeName} {b : Body} {ds : Definitions} →
        d.kind ≡ kind.Word word.Def →
        IsNamed t n →
        MayHaveType room ts w (a ∷ us) →
        defines a.kind ≡ true →
        IsBody room us b vs →
        AreDefinitions room vs ds rest →
        AreDefinitions room (d ∷ t ∷ ts) (more_definitions (tree.Define t.place n [] w b) ds) rest

pub data IsItem : ℕ → List Token → Item → List Token → Type 0 where
  -- in NAME : y
  input :
      {room : ℕ} {t u v : Token} {ts rest : List Token} {n : List ℕ} {y : TypeName} →
      t.kind ≡ kind.Word word.In →
      IsNamed u n →
      Is v symbol.Colon →
      IsType room ts y rest →
      IsItem room (t ∷ u ∷ v ∷ ts) (tree.Input t.place u.place n y) rest
  -- def NAME ( p , .. ) : w := b , with its parameters and type or without
  definition :
      {room : ℕ} {d t a : Token} {ts us vs rest : List Token} {n : List ℕ} {ps : List Param} {w : Option TypeName} {b : Body} →
      d.kind ≡ kind.Word word.Def →
      IsNamed t n →
      MayHaveParams room ts ps us →
      MayHaveType room us w (a ∷ vs) →
      defines a.kind ≡ true →
      IsBody room vs b rest →
      IsItem room (d ∷ t ∷ ts) (tree.Defined d.place (tree.Define t.place n ps w b)) rest
  -- without `as`, an expression of one token that is a name
  -- out NAME
  output :
      {room : ℕ} {t u : Token} {ts : List Token} {p : Place} {n : List ℕ} →
      t.kind ≡ kind.Word word.Out →
      IsExpr room (u ∷ ts) (tree.Name p n) ts →
      IsPast is_as ts →
      IsItem room (t ∷ u ∷ ts) (tree.Output t.place p n) ts
  -- out e as NAME
  output_as :
      {room : ℕ} {t a u : Token} {ts rest : List Token} {n : List ℕ} {e : Expr} →
      t.kind ≡ kind.Word word.Out →
      IsExpr room ts e (a ∷ u ∷ rest) →
      a.kind ≡ kind.Word word.As →
      IsNamed u n →
      IsItem room (t ∷ ts) (tree.OutputAs t.place e u.place n) rest

-- the tokens spell the items, with no more than so many levels open
pub data Spells : ℕ → List Token → List Item → Type 0 where
  empty : {room : ℕ} → Spells room [] []
  -- an item, and the items after it
  item :
      {room : ℕ} {ts rest : List Token} {i : Item} {items : List Item} →
      IsItem room ts i rest →
      Spells room rest items →
      Spells room ts (i ∷ items)
