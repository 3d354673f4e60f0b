-- What the code keeps while it searches. Successors are given as a list for each node.
use Rattle.std.specs.Prelude.{◌≡◌, ℕ, ◌+◌, ◌*◌, ◌-◌, ◌<◌, ◌≤◌, Bool, true, false, List, [], ◌∷◌, ◌++◌, length, reverse, slice_index_or}
use Rattle.std.specs.Prelude.{Option, Some, None, ◌⊎◌}
use Rattle.std.specs.List.{Contains, sum_by}
use Rattle.translation_order.specs.OnCycle.{Edge}
use Rattle.translation_order.specs.Graph.{Path}
use Rattle.translation_order.specs.inner.Joined.{AreJoined}
use Rattle.translation_order.specs.declared.search.Visit.{Visit}
use Rattle.translation_order.specs.declared.search.Visit.TheVariants.{New, OnPath, Done}
use Rattle.translation_order.specs.declared.search.Group.{Group}

-- an edge leads from a to b
abbrev pub Leads : List (List ℕ) → ℕ → ℕ → Type 0
Leads successors a b = Contains (slice_index_or successors a []) b

-- all edges lead to nodes
abbrev pub AreInside : List (List ℕ) → Type 0
AreInside successors = (a b : ℕ) → Leads successors a b → b < length successors

-- each node has the nodes to which its edges lead
pub record AreSuccessors (nodes : ℕ) (edges : List (ℕ × ℕ)) (successors : List (List ℕ)) : Type 0 where
  pub one_each : length successors ≡ nodes
  pub from_edges : (a b : ℕ) → Leads successors a b → Edge edges a b
  pub of_edges : (a b : ℕ) → Edge edges a b → Leads successors a b

-- ---- how far the search is with a node
abbrev pub visit_of : List Visit → ℕ → Visit
visit_of visits x = slice_index_or visits x New

abbrev pub one_if_new : Visit → ℕ
one_if_new New = 1
one_if_new (OnPath number) = 0
one_if_new (Done on_cycle) = 0

abbrev pub count_new : List Visit → ℕ
count_new visits = sum_by one_if_new visits

-- the node is on the path, and P holds for its number
abbrev pub IsOnPath : (ℕ → Type 0) → Visit → Type 0
IsOnPath P New = ⊥
IsOnPath P (OnPath number) = P number
IsOnPath P (Done on_cycle) = ⊥

abbrev pub IsDone : Visit → Type 0
IsDone New = ⊥
IsDone (OnPath number) = ⊥
IsDone (Done on_cycle) = Unit {0}

-- what is known of a node that is done is right
abbrev pub IsRight : List (List ℕ) → ℕ → Visit → Type 0
IsRight successors x New = Unit {0}
IsRight successors x (OnPath number) = Unit {0}
IsRight successors x (Done true) = Path (Leads successors) x x
IsRight successors x (Done false) = Path (Leads successors) x x → ⊥

-- ---- the path, its last group first
abbrev pub IsMember : List Group → ℕ → Type 0
IsMember [] x = ⊥
IsMember (g ∷ path) x = Contains g.nodes x ⊎ IsMember path x

abbrev pub IsPending : List Group → ℕ → Type 0
IsPending [] x = ⊥
IsPending (g ∷ path) x = Contains g.targets x ⊎ IsPending path x

-- an edge of a group to x needs not be followed any more: x is done, or it is on the path, in this group or after it. Where it
-- is in this group, the group is known to be cyclic.
abbrev pub IsFollowed : Group → ℕ → Visit → Type 0
IsFollowed g x New = ⊥
IsFollowed g x (OnPath number) = (g.first ≤ number) × ((g.cyclic ≡ true) ⊎ (Contains g.nodes x → ⊥))
IsFollowed g x (Done on_cycle) = Unit {0}

-- a group of the path, and the groups before it
pub record IsGroup (successors : List (List ℕ)) (visits : List Visit) (g : Group) (before : List Group) : Type 0 where
  pub reached : (a b : ℕ) → IsMember (g ∷ before) a → Contains g.nodes b → (a ≡ b) ⊎ Path (Leads successors) a b
  pub reaches : (a b : ℕ) → IsMember (g ∷ before) a → Contains g.targets b → Path (Leads successors) a b
  pub inside : (b : ℕ) → Contains g.targets b → b < length successors
  pub numbered : (a : ℕ) → Contains g.nodes a → IsOnPath (λ number. g.first ≤ number) (visit_of visits a)
  pub earlier : (a : ℕ) → IsMember before a → IsOnPath (λ number. number < g.first) (visit_of visits a)
  pub on_cycle : g.cyclic ≡ true → (a : ℕ) → Contains g.nodes a → Path (Leads successors) a a
  pub followed : (a b : ℕ) → Contains g.nodes a → Leads successors a b → Contains g.targets b ⊎ IsFollowed g b (visit_of visits b)

-- each group is one, and none begins before the one before it
abbrev pub IsPath : List (List ℕ) → List Visit → ℕ → List Group → Type 0
IsPath successors visits limit [] = Unit {0}
IsPath successors visits limit (g ∷ before) =
    (g.first ≤ limit)
    × IsGroup successors visits g before
    × IsPath successors visits g.first before

-- the state of the search
pub record IsSearch (successors : List (List ℕ)) (visits : List Visit) (entered : ℕ) (path : List Group) : Type 0 where
  pub inside : AreInside successors
  pub one_each : length visits ≡ length successors
  pub few : entered + count_new visits ≤ length successors
  pub path_is : IsPath successors visits entered path
  pub members : (x : ℕ) → IsOnPath (λ _. Unit {0}) (visit_of visits x) → IsMember path x
  pub numbers : (x : ℕ) → IsMember path x → IsOnPath (λ number. number < entered) (visit_of visits x)
  pub pending : (x : ℕ) → x < length successors → visit_of visits x ≡ New → IsPending path x
  pub closed : (a b : ℕ) → IsDone (visit_of visits a) → Leads successors a b → IsDone (visit_of visits b)
  pub right : (x : ℕ) → IsRight successors x (visit_of visits x)

-- at the end each node is done
pub record AreDone (successors : List (List ℕ)) (visits : List Visit) : Type 0 where
  pub one_each : length visits ≡ length successors
  pub done : (x : ℕ) → x < length successors → IsDone (visit_of visits x)
  pub right : (x : ℕ) → IsRight successors x (visit_of visits x)

-- the path that ends in this group after others, or the empty path
abbrev pub path_of : Option Group → List Group → List Group
path_of None others = []
path_of (Some g) others = g ∷ reverse others

-- ---- steps that are left at most
abbrev pub edges_in : List (List ℕ) → ℕ
edges_in successors = sum_by length successors

abbrev pub steps_on : List Group → ℕ
steps_on path = sum_by (λ g. 1 + length g.targets) path

abbrev pub steps_left : List (List ℕ) → ℕ → List Group → ℕ
steps_left successors entered path = (length successors - entered) * (edges_in successors + 2) + steps_on path

-- the search goes on: its state is one, and less is left
pub record GoesOn (successors : List (List ℕ)) (visits : List Visit) (entered : ℕ) (path : List Group) (left : ℕ) : Type 0 where
  pub search : IsSearch successors visits entered path
  pub less : steps_left successors entered path < left

-- ---- parts of a step
-- a group that leads back into the group before it is joined with it
pub record IsJoined (before g joined : Group) : Type 0 where
  pub first : joined.first ≡ before.first
  pub nodes : AreJoined before.nodes g.nodes joined.nodes
  pub targets : AreJoined before.targets g.targets joined.targets
  pub cyclic : joined.cyclic ≡ true

-- a group without its last target
pub record IsPassed (g passed : Group) : Type 0 where
  pub first : passed.first ≡ g.first
  pub nodes : passed.nodes ≡ g.nodes
  pub cyclic : g.cyclic ≡ true → passed.cyclic ≡ true
  pub targets : (front : List ℕ) (x : ℕ) → g.targets ≡ front ++ x ∷ [] → passed.targets ≡ front

-- an edge leads from the last group to the node of this number: it leads back, or it leads into the same group
pub data IsMet (number : ℕ) (last : Group) (others : List Group) (group : Group) (rest : List Group) : Type 0 where
  -- number before the last group: the last two groups become one
  back :
      (before : Group) →
      number < last.first →
      others ≡ rest ++ before ∷ [] →
      IsJoined before last group →
      IsMet number last others group rest
  nowhere : number < last.first → others ≡ [] → IsMet number last others group rest
  around : last.first ≤ number → rest ≡ others → group.cyclic ≡ true → IsPassed last group → IsMet number last others group rest

-- these nodes are done, and all others are as before
pub record AreMarked (nodes : List ℕ) (on_cycle : Bool) (old visits : List Visit) : Type 0 where
  pub same_length : length visits ≡ length old
  pub marked : (x : ℕ) → Contains nodes x → visit_of visits x ≡ Done on_cycle
  pub kept : (x : ℕ) → (Contains nodes x → ⊥) → visit_of visits x ≡ visit_of old x
  pub few : count_new visits ≤ count_new old
