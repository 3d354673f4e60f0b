-- What happens in the streams that a specification means, for the events of its inputs.
use Rattle.std.specs.Prelude.{◌≡◌, ℕ, zero, suc, ◌<◌, List, [], length, Option, Some, None, slice_get, slice_index_or}
use Rattle.std.specs.List.{Contains}
use Rattle.tsl_value.specs.declared.place.Place.{Place}
use Rattle.lift_func.specs.declared.fault.FaultKind.{FaultKind}
use Rattle.flat_core.specs.Stream.{Outcome, History}
use Rattle.flat_core.specs.Events.{Inputs}
use Rattle.syntax_tree.specs.Tree as tree
use Rattle.syntax_tree.specs.Tree.{place_of}
use Rattle.spec_meaning.specs.Occurrence.{Occurrence}
use Rattle.stream_constructs.specs.Construct.{Construct, Last, Delay, outcome, root}
use Rattle.spec_meaning.specs.Shape.{Shape, shape, all_parts}

-- Of part k the times below this bound count at time t: of the first part of a `last`, and of the parts of a `delay`, those before t.
abbrev pub counts_below : Construct → ℕ → ℕ → ℕ
counts_below Last zero t = t
counts_below Delay k t = t
counts_below c k t = suc t

-- the stream of part k
abbrev pub history : List History → ℕ → History
history hs k = slice_index_or hs k (λ t. None)

module _ (items : List tree.Item) where
  -- the occurrences of the outputs, and all that these have as parts
  pub data IsNeeded : Occurrence → Type 0 where
    -- out e as NAME needs e
    printed :
        (p : Place) {e : tree.Expr} (q : Place) (n : List ℕ) →
        Contains items (tree.OutputAs p e q n) →
        IsNeeded (record { calls = []; expr = e })
    -- out NAME needs NAME
    named :
        (p : Place) {q : Place} {n : List ℕ} →
        Contains items (tree.Output p q n) →
        IsNeeded (record { calls = []; expr = tree.Name q n })
    part : (o : Occurrence) (s : Shape) {a : Occurrence} → IsNeeded o → shape items o ≡ Some s → Contains s.parts a → IsNeeded a

module _ (items : List tree.Item) (inputs : Inputs) where
  -- What happens at an occurrence at a time: it follows from what happens at its parts at the times that count.
  pub data Happens : Occurrence → ℕ → Option Outcome → Type 0 where
    -- CONSTRUCT ( a , .. ) at t , from what happens at each part a at each time u that counts
    happens :
        {o : Occurrence} {t : ℕ} {x : Option Outcome} (s : Shape) (hs : List History) →
        shape items o ≡ Some s →
        length hs ≡ length (all_parts o s) →
        ((k : ℕ) (a : Occurrence)
        → slice_get (all_parts o s) k ≡ Some a
        → (u : ℕ) → u < counts_below s.construct k t
        → Happens a u (history hs k u)) →
        x ≡ outcome inputs s.construct hs t →
        Happens o t x

  -- an occurrence that is needed has a root fault
  pub record HasRoot (o : Occurrence) (t : ℕ) (kind : FaultKind) : Type 0 where
    pub needed : IsNeeded items o
    pub of : Shape
    pub is : shape items o ≡ Some of
    pub streams : List History
    pub one_each : length streams ≡ length (all_parts o of)
    pub parts : (k : ℕ) (a : Occurrence) → slice_get (all_parts o of) k ≡ Some a → (u : ℕ) → u < suc t → Happens a u (history streams k u)
    pub root_is : root inputs of.construct streams t ≡ Some kind
