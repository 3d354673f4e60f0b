-- The flat system of a specification: first its inputs, then the definitions of the top that are streams, then the outputs, each in
-- the order of the source.
use Rattle.std.specs.Prelude.{◌≡◌, ℕ, suc, ◌+◌, true, false, List, [], ◌∷◌, ◌++◌, length, Option, Some}
use Rattle.tsl_value.specs.declared.place.Place.{Place}
use Rattle.tsl_value.specs.declared.scalar.ValueType.{ValueType}
use Rattle.flat_core.specs.declared.equation.Op.TheVariants as op
use Rattle.flat_core.specs.declared.equation.Equation.{Equation}
use Rattle.flat_core.specs.declared.equation.Output.{Output}
use Rattle.syntax_tree.specs.Tree as tree
use Rattle.syntax_tree.specs.Tree.{Expr}
use Rattle.type_rules.specs.Written.{value_of}
use Rattle.stream_constructs.specs.declared.construct.Stream.{Stream}
use Rattle.stream_constructs.specs.Equations.{equation}
use Rattle.type_rules.specs.declared.rule.ExprType.TheVariants as expr_type
use Rattle.type_rules.specs.Kinds.{Kinds}
use Rattle.spec_meaning.specs.Occurrence.{result_of}
use Rattle.spec_meaning.specs.Makes.{Standing, Makes, MakesBody, is_name}

-- outside of all calls
abbrev pub outermost : Standing
outermost = record { calls = []; params = []; locals = [] }

-- the last equation gets a name
abbrev pub named : List ℕ → List Equation → List Equation
named n [] = []
named n (e ∷ []) = record e { name = Some n } ∷ []
named n (d ∷ e ∷ es) = d ∷ named n (e ∷ es)

-- the type of an input's events, whether it is written as a stream or not
abbrev pub event_type : tree.TypeName → Option ValueType
event_type (tree.EventsType p y) = value_of y
event_type y = value_of y

module _ (items : List tree.Item) (kinds : Kinds) (top : ℕ → Stream) where
  -- the inputs of items, the first of which has number i, where n equations are made
  pub data MakesInputs : ℕ → List tree.Item → ℕ → List Equation → Type 0 where
    end : {i n : ℕ} → MakesInputs i [] n []
    -- in NAME : TYPE makes %n NAME := Input TYPE
    input :
        {i n : ℕ} {p q : Place} {x : List ℕ} {y : tree.TypeName} {rest : List tree.Item} (of : ValueType) (made : List Equation)
        {all : List Equation} →
        event_type y ≡ Some of →
        top i ≡ record { id = n; of = of } →
        MakesInputs (suc i) rest (suc n) made →
        all ≡ record (equation q op.Input [] of) { name = Some x } ∷ made →
        MakesInputs i (tree.Input p q x y ∷ rest) n all
    -- def .. makes no input
    defined :
        {i n : ℕ} {p : Place} {d : tree.Definition} {rest : List tree.Item} {made : List Equation} →
        MakesInputs (suc i) rest n made →
        MakesInputs i (tree.Defined p d ∷ rest) n made
    -- out NAME makes no input
    output :
        {i n : ℕ} {p q : Place} {x : List ℕ} {rest : List tree.Item} {made : List Equation} →
        MakesInputs (suc i) rest n made →
        MakesInputs i (tree.Output p q x ∷ rest) n made
    -- out e as NAME makes no input
    output_as :
        {i n : ℕ} {p q : Place} {e : Expr} {x : List ℕ} {rest : List tree.Item} {made : List Equation} →
        MakesInputs (suc i) rest n made →
        MakesInputs i (tree.OutputAs p e q x ∷ rest) n made

  -- the definitions without parameters
  pub data MakesStreams : ℕ → List tree.Item → ℕ → List Equation → Type 0 where
    end : {i n : ℕ} → MakesStreams i [] n []
    -- def NAME := b makes what b makes, and the last of it is called NAME
    stream :
        {i n : ℕ} {p q : Place} {x : List ℕ} {w : Option tree.TypeName} {b : tree.Body} {rest : List tree.Item} (s : Stream)
        (first made : List Equation) {all : List Equation} →
        top i ≡ s →
        kinds.item i ≡ Some (expr_type.Stream s.of) →
        MakesBody items kinds top outermost (result_of b) n first s →
        MakesStreams (suc i) rest (n + length first) made →
        all ≡ named x first ++ made →
        MakesStreams i (tree.Defined p (tree.Define q x [] w b) ∷ rest) n all
    -- def NAME ( a , .. ) := b makes nothing by itself
    with_parameters :
        {i n : ℕ} {p q : Place} {x : List ℕ} {a : tree.Param} {ps : List tree.Param} {w : Option tree.TypeName} {b : tree.Body}
        {rest : List tree.Item} {made : List Equation} →
        MakesStreams (suc i) rest n made →
        MakesStreams i (tree.Defined p (tree.Define q x (a ∷ ps) w b) ∷ rest) n made
    -- in NAME : TYPE makes no definition
    input :
        {i n : ℕ} {p q : Place} {x : List ℕ} {y : tree.TypeName} {rest : List tree.Item} {made : List Equation} →
        MakesStreams (suc i) rest n made →
        MakesStreams i (tree.Input p q x y ∷ rest) n made
    -- out NAME makes no definition
    output :
        {i n : ℕ} {p q : Place} {x : List ℕ} {rest : List tree.Item} {made : List Equation} →
        MakesStreams (suc i) rest n made →
        MakesStreams i (tree.Output p q x ∷ rest) n made
    -- out e as NAME makes no definition
    output_as :
        {i n : ℕ} {p q : Place} {e : Expr} {x : List ℕ} {rest : List tree.Item} {made : List Equation} →
        MakesStreams (suc i) rest n made →
        MakesStreams i (tree.OutputAs p e q x ∷ rest) n made

  -- an output's expression: a name makes nothing, and the last equation of another expression gets the printed name
  pub data MakesPrinted : Expr → List ℕ → ℕ → List Equation → Stream → Type 0 where
    -- out e as NAME , where e is a name, makes nothing
    name :
        {e : Expr} {x : List ℕ} {n : ℕ} {s : Stream} →
        is_name e ≡ true →
        Makes items kinds top outermost e n [] s →
        MakesPrinted e x n [] s
    -- out e as NAME makes what e makes, and the last of it is called NAME
    plain :
        {e : Expr} {x : List ℕ} {n : ℕ} (made : List Equation) {all : List Equation} {s : Stream} →
        is_name e ≡ false →
        Makes items kinds top outermost e n made s →
        all ≡ named x made →
        MakesPrinted e x n all s

  -- the outputs of items
  pub data MakesOutputs : List tree.Item → ℕ → List Equation → List Output → Type 0 where
    end : {n : ℕ} → MakesOutputs [] n [] []
    -- out NAME prints the stream of NAME
    output :
        {n : ℕ} {p q : Place} {x : List ℕ} {rest : List tree.Item} (s : Stream) (first made : List Equation) (outs : List Output)
        {all : List Equation} {printed : List Output} →
        MakesPrinted (tree.Name q x) x n first s →
        MakesOutputs rest (n + length first) made outs →
        all ≡ first ++ made →
        printed ≡ record { name = x; equation = s.id } ∷ outs →
        MakesOutputs (tree.Output p q x ∷ rest) n all printed
    -- out e as NAME prints the stream of e
    output_as :
        {n : ℕ} {p q : Place} {e : Expr} {x : List ℕ} {rest : List tree.Item} (s : Stream) (first made : List Equation) (outs : List Output)
        {all : List Equation} {printed : List Output} →
        MakesPrinted e x n first s →
        MakesOutputs rest (n + length first) made outs →
        all ≡ first ++ made →
        printed ≡ record { name = x; equation = s.id } ∷ outs →
        MakesOutputs (tree.OutputAs p e q x ∷ rest) n all printed
    -- in NAME : TYPE prints nothing
    input :
        {n : ℕ} {p q : Place} {x : List ℕ} {y : tree.TypeName} {rest : List tree.Item} {made : List Equation} {printed : List Output} →
        MakesOutputs rest n made printed →
        MakesOutputs (tree.Input p q x y ∷ rest) n made printed
    -- def .. prints nothing
    defined :
        {n : ℕ} {p : Place} {d : tree.Definition} {rest : List tree.Item} {made : List Equation} {printed : List Output} →
        MakesOutputs rest n made printed →
        MakesOutputs (tree.Defined p d ∷ rest) n made printed

-- The equations and the outputs of a specification whose declared names are of these types. What the names of the top stand for, by the
-- numbers of their items, is found with them.
pub record IsFlatOf (items : List tree.Item) (kinds : Kinds) (equations : List Equation) (outputs : List Output) : Type 0 where
  pub top : ℕ → Stream
  pub inputs : List Equation
  pub streams : List Equation
  pub printed : List Equation
  pub makes_inputs : MakesInputs items kinds top 0 items 0 inputs
  pub makes_streams : MakesStreams items kinds top 0 items (length inputs) streams
  pub makes_outputs : MakesOutputs items kinds top items (length inputs + length streams) printed outputs
  pub equations_are : equations ≡ inputs ++ streams ++ printed
