-- What names stand for, and which names are seen where. A scope lists the names that are seen, inner ones before the outer ones
-- that they hide.
use Rattle.std.specs.Prelude.{ℕ, suc, ◌+◌, ◌≡◌, Bool, true, false, if◌then◌else◌, List, [], ◌∷◌, ◌++◌, filter, Option}
use Rattle.std.specs.Option.{option_map}
use Rattle.std.specs.List.{find, list_any, list_all}
use Rattle.std.specs.Str.{bytes_eq}
use Rattle.syntax_tree.specs.Tree as tree
use Rattle.syntax_tree.specs.Tree.{TypeName}
pub use Rattle.syntax_tree.specs.Counts.{count_in, counts}
use Rattle.name_check.specs.declared.declaration.Declaration.{Declaration}
use Rattle.name_check.specs.declared.declaration.Declaration.TheVariants as declaration

pub record Entry : Type 0 where
  pub name : List ℕ
  pub is : Declaration

abbrev pub Scope : Type 0
Scope = List Entry

-- what a name stands for
abbrev pub meaning : Scope → List ℕ → Option Declaration
meaning scope n = option_map (λ e. e.is) (find (λ e. bytes_eq e.name n) scope)

-- a parameter is a stream where its type is written as one
abbrev pub is_events : TypeName → Bool
is_events (tree.EventsType p y) = true
is_events _ = false

-- The definition of item i: a stream where it has no parameters, a macro where all are streams, a value function where none is.
abbrev pub declared_as : ℕ → List tree.Param → Declaration
declared_as i [] = declaration.Stream i
declared_as i (p ∷ ps) =
    if list_all (λ q. is_events q.of) (p ∷ ps) then declaration.Macro i
    else if list_any (λ q. is_events q.of) (p ∷ ps) then declaration.Mixed i
    else declaration.Function i

-- the names that items declare; the first has number i
abbrev pub declared_from : ℕ → List tree.Item → Scope
declared_from i [] = []
declared_from i (tree.Input p q n y ∷ items) = record { name = n; is = declaration.Input i } ∷ declared_from (suc i) items
declared_from i (tree.Defined p (tree.Define q n ps w b) ∷ items) = record { name = n; is = declared_as i ps } ∷ declared_from (suc i) items
declared_from i (tree.Output p q n ∷ items) = declared_from (suc i) items
declared_from i (tree.OutputAs p e q n ∷ items) = declared_from (suc i) items

-- the names that are seen at the top
abbrev pub top : List tree.Item → Scope
top items = declared_from 0 items

-- parameters, the first of which has number k
abbrev pub parameters_from : ℕ → List tree.Param → Scope
parameters_from k [] = []
parameters_from k (p ∷ ps) = record { name = p.name; is = declaration.Parameter k } ∷ parameters_from (suc k) ps

-- The definitions of a block, the first of which has number k. Those in the body of a definition have the numbers after its own.
abbrev pub locals_from : ℕ → tree.Definitions → Scope
locals_from k tree.no_definitions = []
locals_from k (tree.more_definitions (tree.Define q n ps w b) ds) =
    record { name = n; is = declaration.Local k } ∷ locals_from (suc k + count_in b) ds

-- a value function, by what its name stands for
abbrev pub is_function : Declaration → Bool
is_function (declaration.Function i) = true
is_function _ = false

-- a name that is called: a macro, a value function, or a definition of mixed parameters
abbrev pub takes_arguments : Declaration → Bool
takes_arguments (declaration.Macro i) = true
takes_arguments (declaration.Function i) = true
takes_arguments (declaration.Mixed i) = true
takes_arguments _ = false

-- parameters of which none is a stream make a value function
abbrev pub are_values : List tree.Param → Bool
are_values [] = false
are_values (p ∷ ps) = list_all (λ q. if is_events q.of then false else true) (p ∷ ps)

-- the value functions of a scope
abbrev pub functions_of : Scope → Scope
functions_of scope = filter (λ e. is_function e.is) scope

-- What is seen in a definition with these parameters: they hide what is seen around it, and of that a value function sees value
-- functions alone.
abbrev pub inside : Scope → List tree.Param → Scope
inside scope ps = parameters_from 0 ps ++ (if are_values ps then functions_of scope else scope)

-- what is seen in a block, the first definition of which has number k: its definitions hide what is seen around it
abbrev pub in_block : ℕ → Scope → tree.Definitions → Scope
in_block k scope ds = locals_from k ds ++ scope

-- all that is seen at some levels, the innermost of which is the first
abbrev pub seen : List Scope → Scope
seen [] = []
seen (level ∷ levels) = level ++ seen levels

-- each name stands for the same in both
pub record Agree (a b : Scope) : Type 0 where
  pub at : (n : List ℕ) → meaning a n ≡ meaning b n
