-- Where it can be told which equations are replaced, each has a number that stands for it.
use Rattle.std.proofs.Common.{◌⊎◌, ℕ, zero, suc, ◌<◌, List, map, length, sym, subst, ◌∙◌, inl, inr, arith}
use Rattle.std.specs.List.{range_with_len}
use Rattle.std.proofs.lemmas.List.FromFn.{get_or-map-range_with_len, length-map-range_with_len}
use Rattle.std.proofs.lemmas.Option.{get_or_from_slice_get, slice_get_within}
use Rattle.flat_core.specs.System.{System}
use Rattle.flat_core.specs.WellFormed.{IsWellFormed}
use Rattle.flat_core.proofs.WellFormedRank.{rank_of}
use Rattle.flat_simplify.specs.Replaced.{IsReplaced, StandsFor, itself, through, IsReplacement}
use Rattle.flat_simplify.proofs.Stands.{replaced_falls}

module _ (s : System) (formed : IsWellFormed s) (told : (i : ℕ) → ((a : ℕ) × IsReplaced s i a) ⊎ ((a : ℕ) → IsReplaced s i a → ⊥)) where
  stand_by_rank : (k i : ℕ) → rank_of s formed i < k → (j : ℕ) × StandsFor s i j
  stand_by_rank zero i low = absurd (omega arith)
  stand_by_rank (suc k) i low = elim (told i) [
    | inl found ↦
        let less = replaced_falls s formed i found.0 found.1 in
        let more = stand_by_rank k found.0 (omega arith) in
        (more.0, through found.1 more.1)
    | inr none ↦ (i, itself none)
  ]

  stand : (i : ℕ) → (j : ℕ) × StandsFor s i j
  stand i = stand_by_rank (suc (rank_of s formed i)) i (omega arith)

  abbrev list : List ℕ
  list = map (λ i. (stand i).0) (range_with_len 0 (length s.equations))

  pub replacements : (replaced : List ℕ) × IsReplacement s replaced
  replacements = (
    list,
    record {
      one_each = length-map-range_with_len (λ i. (stand i).0) 0 (length s.equations);
      each = λ i j is.
          let there = slice_get_within list i j is in
          let count = length-map-range_with_len (λ i. (stand i).0) 0 (length s.equations) in
          let at = get_or-map-range_with_len (λ i. (stand i).0) 0 (length s.equations) i i 0 (omega arith) (omega arith) in
          subst (StandsFor s i) (sym at ∙ get_or_from_slice_get list i j 0 is) (stand i).1;
    },
  )
