-- Each fact of a derivation is so.
use Rattle.std.proofs.Common.{◌≡◌, ℕ, ◌≤◌, ◌^◌, List, [], ◌∷◌, None, subst, inl, inr, arith}
use Rattle.std.specs.Prelude.{IsTrue}
use Rattle.std.specs.List.{AllByRecursion, Contains}
use Rattle.std.proofs.lemmas.Bool.{cases_lt}
use Rattle.flat_core.specs.System.{System, runs}
use Rattle.flat_core.specs.Complete.{IsFlat}
use Rattle.flat_core.specs.WellFormed.{IsWellFormed}
use Rattle.flat_core.specs.Stream.{event}
use Rattle.flat_core.specs.Events.{Inputs}
use Rattle.flat_core.specs.Case.{Streams}
use Rattle.flat_core.specs.Solution.{Solves}
use Rattle.flat_core.proofs.Members.{all_at}
use Rattle.flat_core.proofs.Uniqueness.{all_by}
use Rattle.flat_slice.specs.Slice.{IsSlice}
use Rattle.why_rules.specs.Facts.{Fact, Says}
use Rattle.why_rules.specs.Rules.{Follows}
use Rattle.why_rules.specs.Rules as rule
use Rattle.why_rules.specs.Derivation.{IsDerivation, IsSound}
use Rattle.why_rules.specs.Derivation as derivation
use Rattle.why_rules.proofs.Instants.{made, lacked}
use Rattle.why_rules.proofs.Waiting.{keeps_says, gap_says}

module _ (s : System) (whole : IsFlat s) (formed : IsWellFormed s) (o : ℕ) (o_runs : IsTrue (runs s o)) (slice : List ℕ) (is : IsSlice s o slice) (p : Inputs) (bound : ℕ) (small : bound ≤ 2 ^ 63) (z : Streams) (solves : Solves s p bound z) (sound : IsSound slice z bound) where
  abbrev Holds : Fact → Type 0
  Holds = Says s slice z bound

  follows_holds : (f : Fact) (uses : List Fact) → Follows s slice p f uses → AllByRecursion Holds uses → Holds f
  follows_holds f uses (rule.Follows.happens {i} {t} {v} e m makes) all = λ lt. made s whole o o_runs slice is p bound small z solves sound i e m t v uses lt makes all
  follows_holds f uses (rule.Follows.silent {i} {t} e m lacks) all = λ u low high lt.
      let same : t ≡ u = omega arith in
      subst (λ w. event (z i w) ≡ None) same (lacked s whole o o_runs slice is p bound small z solves sound i e m t uses (omega arith) lacks all)
  follows_holds f uses (rule.Follows.silent_in_gap {i} e m low_in is_interval high_in) all = λ u low high lt. all.0 i m.among u (omega arith) (omega arith) lt
  follows_holds f uses (rule.Follows.silent_joined {i} {from} {middle} e m first second) all = λ u low high lt. elim (cases_lt middle u) [
    | inl after ↦ all.1.0 u (omega arith) high lt
    | inr upto ↦ all.0 u low (omega arith) lt
  ]
  follows_holds f uses (rule.Follows.gap {before} {to} later given wait) all = gap_says s whole o o_runs slice is p bound small z solves sound formed before to uses given wait all
  follows_holds f uses (rule.Follows.pending {i} {t} {d} {r} {due} e m op_is args_are keeps) all =
      keeps_says s whole o o_runs slice is p bound small z solves sound i e m d r args_are t due uses keeps all

  pub all_hold : (facts : List Fact) → IsDerivation s slice p facts → AllByRecursion Holds facts
  all_hold [] derivation.IsDerivation.empty = tt
  all_hold (f ∷ fs) (derivation.IsDerivation.more uses follows among rest) =
      let earlier = all_hold fs rest in
      (follows_holds f uses follows (all_by (Contains fs) Holds (λ g c. all_at Holds fs earlier g c) uses among), earlier)
