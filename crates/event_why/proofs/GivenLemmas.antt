-- Lines between two times, of which none has an event of an input of the slice.
use Rattle.std.proofs.Common.{◌≡◌, ◌↔◌, ◌==◌, ◌&&◌, ℕ, zero, suc, ◌+◌, ◌<◌, ◌≤◌, true, List, [], ◌∷◌, drop, get_or, length, Option, Some, None, refl, sym, ap, subst, ◌∙◌, inl, inr, arith}
use Rattle.std.proofs.lemmas.Bool.{and_parts, cases_Bool, eq-eqb, and_from, eqb-true}
use Rattle.std.proofs.lemmas.List.{drop_all, get_or-drop, length-drop}
use Rattle.std.proofs.lemmas.Option.{none-some}
use Rattle.std.specs.List.{All}
use Rattle.std.specs.List.Sorted.{IsPartitionPoint}
use Rattle.std.specs.Prelude.{if◌then◌else◌}
use Rattle.std.specs.Option.{option_or}
use Rattle.tsl_value.specs.View.{Plain}
use Rattle.tsl_value.specs.declared.scalar.Scalar.{Scalar}
use Rattle.tsl_value.proofs.Lists.{left_at}
use Rattle.flat_core.specs.Line.{IsSorted, Line, event_in, inputs_of}
use Rattle.flat_core.specs.System.{System}
use Rattle.why_rules.specs.Rules.{NothingGiven}
use Rattle.plain_solver.proofs.LinesLemmas.{sorted_rest}
use Rattle.event_why.specs.inner.Grounds.{IsGiven}
use Rattle.event_why.proofs.Iff.{through}

module _ (s : System) (slice : List ℕ) (from to : ℕ) where
  abbrev pub Nothing : List Line → Type 0
  Nothing lines = NothingGiven s slice (inputs_of lines) from to

  pub nothing_in_none : Nothing []
  nothing_in_none = record { none = λ i e m op_is u low high. refl }

  -- the event of a line, if it has one of input i at u
  no_event : (i u time : ℕ) (x : Option (ℕ × Scalar)) → ((v : Scalar) → x ≡ Some (i, v) → time ≡ u → ⊥) → event_in i u time x ≡ None
  no_event i u time None none = refl
  no_event i u time (Some e) none = elim (cases_Bool ((time == u) && (e.0 == i))) [
    | inl here ↦
        let parts = and_parts (time == u) (e.0 == i) here in
        absurd (none e.1 (λ k. Some (eqb-true e.0 i parts.1 k, e.1)) (eqb-true time u parts.0))
    | inr apart ↦ λ k. if apart k then Some (Plain e.1) else None
  ]

  -- a line that has none between these times changes nothing
  pub without_line : (line : Line) (lines : List Line) → (from ≤ line.time → line.time ≤ to → ¬ IsGiven s slice line) → Nothing lines ↔ Nothing (line ∷ lines)
  without_line line lines never = (
    λ rest. record {
      none = λ i e m op_is u low high.
          let own : event_in i u line.time line.event ≡ None =
          no_event i u line.time line.event (λ v has same. never (omega (arith, same)) (omega (arith, same)) (record { input = i; value = v; has = has; among = m.among; at = e; is = m.is; op_is = op_is })) in
          ap (λ x. option_or x (inputs_of lines i u)) own ∙ rest.none i e (record { among = m.among; is = m.is }) op_is u low high;
    },
    λ all. record {
      none = λ i e m op_is u low high.
          let own : event_in i u line.time line.event ≡ None =
          no_event i u line.time line.event (λ v has same. never (omega (arith, same)) (omega (arith, same)) (record { input = i; value = v; has = has; among = m.among; at = e; is = m.is; op_is = op_is })) in
          sym (ap (λ x. option_or x (inputs_of lines i u)) own) ∙ all.none i e (record { among = m.among; is = m.is }) op_is u low high;
    },
  )

  there : (i u time : ℕ) (x : Option (ℕ × Scalar)) (v : Scalar) → x ≡ Some (i, v) → time ≡ u → event_in i u time x ≡ Some (Plain v)
  there i u time x v has same =
      let here : ((time == u) && (i == i)) ≡ true = and_from (time == u) (i == i) (eq-eqb time u same) (eq-eqb i i refl) in
      ap (event_in i u time) has ∙ (λ k. if here k then Some (Plain v) else None)

  -- a line that has one
  pub with_line : (line : Line) (lines : List Line) → from ≤ line.time → line.time ≤ to → IsGiven s slice line → ¬ Nothing (line ∷ lines)
  with_line line lines low high g all =
      let is = there g.input line.time line.time line.event g.value g.has refl in
      none-some (Plain g.value)
      (sym (all.none g.input g.at (record { among = g.among; is = g.is }) g.op_is line.time low high)
      ∙ ap (λ x. option_or x (inputs_of lines g.input line.time)) is)

  -- ---- as the lines are gone through
  all_late : (line : Line) (rest : List Line) → IsSorted (line ∷ rest) → to < line.time → Nothing (line ∷ rest)
  all_late line [] sorted late = (without_line line [] (λ low high. absurd (omega (arith, high, late)))).0 nothing_in_none
  all_late line (next ∷ rest) sorted late =
      let order = sorted.0 in
      (without_line line (next ∷ rest) (λ low high. absurd (omega (arith, high, late)))).0 (all_late next rest sorted.1 (omega (arith, order, late)))

  module _ (lines : List Line) (i : ℕ) where
    module _ (line : Line) (lt : i < length lines) (is : line ≡ get_or lines i line) where
      pub nothing_past : {A : Type 0} → (from ≤ line.time → line.time ≤ to → ¬ IsGiven s slice line) → Nothing (drop i lines) ↔ A → Nothing (drop (i + 1) lines) ↔ A
      nothing_past {A = A} never before =
          through (without_line line (drop (i + 1) lines) never) (subst (λ ls. Nothing ls ↔ A) (left_at lines i line lt is) before)

      pub given_here : {A : Type 0} → from ≤ line.time → line.time ≤ to → IsGiven s slice line → Nothing (drop i lines) ↔ A → ¬ A
      given_here low high g before a = with_line line (drop (i + 1) lines) low high g (subst Nothing (left_at lines i line lt is) (before.1 a))

      pub late_here : {A : Type 0} → IsSorted lines → to < line.time → Nothing (drop i lines) ↔ A → A
      late_here sorted late before =
          let same = left_at lines i line lt is in
          before.0 (subst Nothing (sym same) (all_late line (drop (i + 1) lines) (subst IsSorted same (sorted_rest lines i sorted)) late))

    pub nothing_end : {A : Type 0} → length lines ≤ i → Nothing (drop i lines) ↔ A → A
    nothing_end past before = before.0 (subst Nothing (sym (drop_all i lines past)) nothing_in_none)

  -- lines before the first time say nothing
  placed_later : (ls : List Line) (k i u : ℕ) → from ≤ u → IsPartitionPoint (λ (l : Line). l.time < from) (λ (l : Line). from ≤ l.time) ls k → inputs_of (drop k ls) i u ≡ inputs_of ls i u
  placed_later [] zero i u le place = refl
  placed_later [] (suc k) i u le place = refl
  placed_later (l ∷ ls) zero i u le place = refl
  placed_later (l ∷ ls) (suc k) i u le place =
      let first : l.time < from = place.0 0 l (omega arith) (omega arith) in
      let own : event_in i u l.time l.event ≡ None = no_event i u l.time l.event (λ v has same. absurd (omega (arith, first, le, same))) in
      placed_later ls k i u le (λ j d low lt. place.0 (suc j) d (omega arith) (omega arith), λ j d low lt. place.1 (suc j) d (omega arith) (omega arith))
      ∙ sym (ap (λ x. option_or x (inputs_of ls i u)) own)

  pub early_skipped : (ls : List Line) (k : ℕ) → IsPartitionPoint (λ (l : Line). l.time < from) (λ (l : Line). from ≤ l.time) ls k → Nothing (drop k ls) ↔ Nothing ls
  early_skipped ls k place = (
    λ a. record { none = λ i e m op_is u low high. sym (placed_later ls k i u low place) ∙ a.none i e (record { among = m.among; is = m.is }) op_is u low high },
    λ a. record { none = λ i e m op_is u low high. placed_later ls k i u low place ∙ a.none i e (record { among = m.among; is = m.is }) op_is u low high },
  )

  pub rest_late : (ls : List Line) (k : ℕ) → k ≤ length ls → IsPartitionPoint (λ (l : Line). l.time < from) (λ (l : Line). from ≤ l.time) ls k → All (λ (l : Line). from ≤ l.time) (drop k ls)
  rest_late ls k within place j d lt =
      let long = length-drop k ls in
      subst (λ (l : Line). from ≤ l.time) (sym (get_or-drop k ls j d)) (place.1 (k + j) d (omega arith) (omega (arith, long, lt)))
