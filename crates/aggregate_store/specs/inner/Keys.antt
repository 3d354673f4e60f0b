-- The keys that a set has.
use Rattle.std.specs.Prelude.{ℤ, List, map}
use Rattle.std.specs.BTreeSet.{BTreeSet}
use Rattle.std.specs.FinSet as set
use Rattle.std.specs.List.{AllPass}
use Rattle.tsl_value.specs.View.{Keys}
use Rattle.tsl_value.specs.declared.scalar.Scalar.{Scalar}
use Rattle.tsl_value.specs.declared.scalar.Scalar.TheVariants as scalar
use Rattle.aggregate_store.specs.declared.key_tree.KeyTree.{KeyTree}
use Rattle.aggregate_store.specs.declared.key_tree.KeyTree.TheVariants as key_tree

abbrev pub set_of_numbers : BTreeSet ℤ → Keys
set_of_numbers s = set.from_list (map scalar.Int s.keys)

abbrev pub set_of_scalars : BTreeSet Scalar → Keys
set_of_scalars s = set.from_list s.keys

abbrev pub set_of : KeyTree → Keys
set_of (key_tree.Numbers s) = set_of_numbers s
set_of (key_tree.Scalars s) = set_of_scalars s

-- each of the numbers is a key
abbrev pub AreKeys : Keys → List ℤ → Type 0
AreKeys s numbers = AllPass (λ n. set.contains s (scalar.Int n)) numbers
