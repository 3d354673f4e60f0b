-- The members of a slice, and the text that tells it.
use Rattle.std.proofs.Common.{◌≡◌, ℕ, ◌<◌, List, length, Some, slice_get, get_or}
use Rattle.std.specs.Prelude.{IsTrue}
use Rattle.std.specs.List.{All}
use Rattle.std.specs.List.Sorted.{IsStrictlyIncreasing}
use Rattle.std.proofs.lemmas.Option.{slice_get-get_or, slice_get_within}
use Rattle.tsl_value.proofs.Lists.{contains_at}
use Rattle.flat_core.specs.declared.equation.Output.{Output}
use Rattle.flat_core.specs.Complete.{IsFlat}
use Rattle.flat_core.specs.System.{System, runs}
use Rattle.flat_core.proofs.Members.{all_at, in-Contains}
use Rattle.flat_slice.specs.Slice.{IsSliceOf}
use Rattle.flat_slice.proofs.SliceLemmas.{member_runs}
use Rattle.slice_text.specs.Text.{IsSliceText, slice_lines}
use Rattle.slice_text.proofs.Named.{nothing}

-- each member of the slice of an output is there
pub members_there : (s : System) (k : ℕ) (slice : List ℕ) → IsFlat s → k < length s.outputs → IsSliceOf s k slice → All (λ i. i < length s.equations) slice
members_there s k slice whole there is n d lt =
    let i = get_or slice n d in
    let o = get_or s.outputs k nothing in
    let at : slice_get s.outputs k ≡ Some o = slice_get-get_or s.outputs k nothing there in
    let member = in-Contains slice i (contains_at slice n i (slice_get-get_or slice n d lt)) in
    let start_runs = all_at (λ (o : Output). IsTrue (runs s o.equation)) s.outputs whole.outputs_run o (contains_at s.outputs k o at) in
    let found = whole.proper.runs_all i (member_runs s whole.proper o.equation start_runs slice (is o at) i member) in
    slice_get_within s.equations i found.0 found.1

pub is_slice_text : (s : System) (k : ℕ) (o : Output) (slice text : List ℕ) → slice_get s.outputs k ≡ Some o → IsStrictlyIncreasing slice → IsSliceOf s k slice → text ≡ slice_lines s slice o → IsSliceText s k text
is_slice_text s k o slice text at ascending is text_is = record {
  output = o;
  is_output = at;
  slice = slice;
  ascending = ascending;
  is_slice = is o at;
  is = text_is;
}
