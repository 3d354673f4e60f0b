-- Two solutions of a system in dependency order are one list of streams.
use Rattle.std.proofs.Common.{◌≡◌, ℕ, zero, suc, ◌<◌, List, [], ◌∷◌, length, sym, ◌∙◌, inl, inr, arith}
use Rattle.std.specs.Prelude.{IsTrue, slice_index_or}
use Rattle.std.specs.List.{AllByRecursion}
use Rattle.std.proofs.lemmas.Bool.{cases_Bool, cases_lt}
use Rattle.std.proofs.lemmas.List.{same_lists, get_or_default}
use Rattle.flat_core.specs.Stream.{Stream, IsBetween}
use Rattle.flat_core.specs.Events.{Inputs}
use Rattle.flat_core.specs.System.{System, runs}
use Rattle.flat_core.specs.Solution.{histories, IsSolution}
use Rattle.flat_core.proofs.StreamLists.{same_streams, at-past}

between_at : (bound : ℕ) (xs : List Stream) → AllByRecursion (IsBetween 0 bound) xs → (i : ℕ) → IsBetween 0 bound (slice_index_or xs i [])
between_at bound [] all i = tt
between_at bound (x ∷ xs) all zero = all.0
between_at bound (x ∷ xs) all (suc i) = between_at bound xs all.1 i

module _ (s : System) (inputs : Inputs) (bound : ℕ) (xs ys : List Stream) (xs_solve : IsSolution s inputs bound xs) (ys_solve : IsSolution s inputs bound ys) (agree : (i : ℕ) → IsTrue (runs s i) → (t : ℕ) → t < bound → histories xs i t ≡ histories ys i t) where
  same_at : (i : ℕ) → IsTrue (runs s i) → (t : ℕ) → histories xs i t ≡ histories ys i t
  same_at i run t = elim (cases_lt t bound) [
    | inl low ↦ agree i run t low
    | inr high ↦ at-past 0 bound (slice_index_or xs i []) (between_at bound xs xs_solve.rising i) t high ∙ sym (at-past 0 bound (slice_index_or ys i []) (between_at bound ys ys_solve.rising i) t high)
  ]

  same_stream : (i : ℕ) → slice_index_or xs i [] ≡ slice_index_or ys i []
  same_stream i = elim (cases_Bool (runs s i)) [
    | inl run ↦ same_streams 0 bound (slice_index_or xs i []) (slice_index_or ys i []) (between_at bound xs xs_solve.rising i) (between_at bound ys ys_solve.rising i) (same_at i run)
    | inr idle ↦ xs_solve.idle i idle ∙ sym (ys_solve.idle i idle)
  ]

  pub one_list : xs ≡ ys
  one_list =
      let same_length : length xs ≡ length ys = xs_solve.one_each ∙ sym ys_solve.one_each in
      same_lists xs ys same_length (λ k d lt. get_or_default xs k d [] lt ∙ same_stream k ∙ sym (get_or_default ys k d [] (omega arith)))
