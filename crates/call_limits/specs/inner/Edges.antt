-- The pairs that the code makes of calls, and the graph that they are.
use Rattle.std.specs.Prelude.{ℕ, suc, ◌++◌, List, [], ◌∷◌, map, Option, Some, None, if◌then◌else◌}
use Rattle.std.specs.Option.{option_map}
use Rattle.name_check.specs.declared.declaration.Declaration.{Declaration}
use Rattle.name_check.specs.declared.declaration.Declaration.TheVariants as declaration
use Rattle.name_check.specs.Scope.{Scope}
use Rattle.name_check.specs.Parts.{parts}
use Rattle.syntax_tree.specs.Tree as tree
use Rattle.translation_order.specs.OnCycle.{Edge, OnCycle, AreBetween}
use Rattle.definition_cycles.specs.declared.mention.Mention.{Mention}
use Rattle.definition_cycles.specs.inner.Edges.{IsOfSmall}
use Rattle.definition_cycles.specs.inner.Walk.{mentions_among}

-- ---- one call
abbrev pub macro_of : Declaration → Option ℕ
macro_of (declaration.Macro j) = Some j
macro_of d = None

abbrev pub function_of : Declaration → Option ℕ
function_of (declaration.Function j) = Some j
function_of d = None

-- the pair of a call of what has a number
abbrev pub call_to : (Declaration → Option ℕ) → Mention → Option (ℕ × ℕ)
call_to number m = if m.calls then option_map (λ j. (m.item, j)) (number m.is) else None

abbrev pub macro_call : Mention → Option (ℕ × ℕ)
macro_call m = call_to macro_of m

abbrev pub function_call : Mention → Option (ℕ × ℕ)
function_call m = call_to function_of m

-- a mention that is no call, or one among items that 32 bits number
abbrev pub IsSmallCall : Mention → Type 0
IsSmallCall m = IsOfSmall (macro_call m) × IsOfSmall (function_call m)

-- ---- the mentions in outputs, the nodes of which have no expression
abbrev pub mentions_in_output : ℕ → Scope → tree.Item → List Mention
mentions_in_output i scope (tree.Input p q n y) = []
mentions_in_output i scope (tree.Defined p d) = []
mentions_in_output i scope (tree.Output p q n) = []
mentions_in_output i scope (tree.OutputAs p e q n) = mentions_among i 0 scope (parts e)

-- in items the first of which has number i
abbrev pub mentions_in_outputs : ℕ → Scope → List tree.Item → List Mention
mentions_in_outputs i scope [] = []
mentions_in_outputs i scope (x ∷ items) = mentions_in_output i scope x ++ mentions_in_outputs (suc i) scope items

-- ---- pairs the other way
abbrev pub turned : List (ℕ × ℕ) → List (ℕ × ℕ)
turned edges = map (λ e. (e.1, e.0)) edges

-- Calls of macros and of value functions among so many items. No macro calls itself, no value function does, and no value
-- function calls a macro.
pub record IsCallGraph (count : ℕ) (macros functions : List (ℕ × ℕ)) : Type 0 where
  pub macros_between : AreBetween count macros
  pub functions_between : AreBetween count functions
  pub macros_end : (x : ℕ) → OnCycle macros x → ⊥
  pub functions_end : (x : ℕ) → OnCycle functions x → ⊥
  pub apart : (a b c : ℕ) → Edge functions a b → Edge macros b c → ⊥
