-- The edges that the code makes of mentions.
use Rattle.std.specs.Prelude.{◌≡◌, ℕ, ◌+◌, ◌^◌, ◌<◌, ◌≤◌, Bool, false, not, ◌&&◌, if◌then◌else◌, List, Option, Some, None, slice_get}
use Rattle.std.specs.Option.{option_map}
use Rattle.std.specs.List.{Contains}
use Rattle.name_check.specs.declared.declaration.Declaration.{Declaration}
use Rattle.name_check.specs.declared.declaration.Declaration.TheVariants as declaration
use Rattle.definition_cycles.specs.declared.mention.Mention.{Mention}
use Rattle.definition_cycles.specs.declared.found.Head.{Head}

-- just the pairs for which E holds
pub record AreEdges (E : ℕ → ℕ → Type 0) (edges : List (ℕ × ℕ)) : Type 0 where
  pub means : (a b : ℕ) → Contains edges (a, b) → E a b
  pub has : (a b : ℕ) → E a b → Contains edges (a, b)

-- the pair, if there is one, is of numbers of 32 bits
abbrev pub IsOfSmall : Option (ℕ × ℕ) → Type 0
IsOfSmall None = Unit {0}
IsOfSmall (Some e) = (e.0 < 2 ^ 32) × (e.1 < 2 ^ 32)

-- ---- calls of value functions
abbrev pub edge_of_call : ℕ → Declaration → Option (ℕ × ℕ)
edge_of_call i (declaration.Function j) = Some (i, j)
edge_of_call i d = None

abbrev pub call_edge : Mention → Option (ℕ × ℕ)
call_edge m = if m.calls then edge_of_call m.item m.is else None

-- ---- mentions among nodes without a written type
abbrev pub is_unwritten : Option Head → Bool
is_unwritten None = false
is_unwritten (Some h) = not h.is_written

abbrev pub is_untyped : List Head → ℕ → Bool
is_untyped heads a = is_unwritten (slice_get heads a)

-- the node that is declared, where these are the nodes of items
abbrev pub known_node : List ℕ → ℕ → Declaration → Option ℕ
known_node firsts i (declaration.Input j) = None
known_node firsts i (declaration.Stream j) = slice_get firsts j
known_node firsts i (declaration.Macro j) = slice_get firsts j
known_node firsts i (declaration.Function j) = slice_get firsts j
known_node firsts i (declaration.Mixed j) = slice_get firsts j
known_node firsts i (declaration.Parameter k) = None
known_node firsts i (declaration.Local k) = option_map (λ a. a + 1 + k) (slice_get firsts i)

-- what is found of it: a number past those of the machine is not, and stands for no node
abbrev pub IsKnown : Option ℕ → Option ℕ → Type 0
IsKnown o (Some n) = o ≡ Some n
IsKnown None None = Unit {0}
IsKnown (Some n) None = 2 ^ 64 ≤ n

abbrev pub untyped_pair : List Head → ℕ → Option ℕ → Option (ℕ × ℕ)
untyped_pair heads a None = None
untyped_pair heads a (Some b) = if is_untyped heads a && is_untyped heads b then Some (a, b) else None

abbrev pub untyped_edge : List ℕ → List Head → Mention → Option (ℕ × ℕ)
untyped_edge firsts heads m = untyped_pair heads m.node (known_node firsts m.item m.is)
