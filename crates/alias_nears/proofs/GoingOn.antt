-- Going on from what was found before.
use Rattle.std.proofs.Common.{◌≡◌, ◌==◌, ◌||◌, ◌&&◌, ◌⊎◌, not, ℕ, ◌+◌, ◌<◌, true, false, Bool, List, [], ◌∷◌, length, take, get_or, refl, sym, ap, subst, ◌∙◌, inl, inr, arith}
use Rattle.std.specs.Prelude.{IsTrue, IsFalse}
use Rattle.std.proofs.Math.Seq.{take-length}
use Rattle.std.proofs.lemmas.Bool.{cases_Bool, or_cases, or_left, or_right, and_from, and_parts, false≢true}
use Rattle.flat_core.specs.declared.reach.Marks.{Marks}
use Rattle.flat_core.specs.inner.Marks.{has_mark, is_marked, is_waiting, Marked, Spread, Spreading}
use Rattle.flat_core.specs.Members.{is_in}
use Rattle.translation_order.proofs.PathLemmas.{walk_keeps}
use Rattle.translation_order.specs.Graph.{Walk, stay}
use Rattle.alias_paths.specs.inner.Search.{AreMarkedIn, MarkedAll}
use Rattle.alias_nears.specs.inner.Contents.{IsReachedOn, AreReachedOn, AreClosedOn}

-- all of a list of numbers are marked
pub marked_each : (marks : List Bool) (listed : List ℕ) (k : ℕ) (m n : Marks) → AreMarkedIn marks listed → k ≡ length listed → Marked (take k listed) m n → MarkedAll (λ x. IsTrue (has_mark marks x)) m n
marked_each marks listed k m n are all h = record {
  numbers = listed;
  each = λ x. ((λ t. sym (are x) ∙ t), (λ t. are x ∙ t));
  marked = subst (λ xs. Marked xs m n) (ap (λ j. take j listed) all ∙ take-length listed) h;
}

module _ (E : ℕ → ℕ → Type 0) (found begins : List Bool) (m n : Marks) (same : m.marked.items ≡ found) (idle : m.waiting.items ≡ []) (more : MarkedAll (λ x. IsTrue (has_mark begins x)) m n) where
  found_in : (i : ℕ) → is_marked m i ≡ has_mark found i
  found_in i = ap (λ bs. has_mark bs i) same

  waits_in : (i : ℕ) → is_waiting m i ≡ false
  waits_in i = ap (λ xs. is_in xs i) idle

  pub found_on : (i : ℕ) → IsTrue (has_mark found i) → IsTrue (is_marked n i)
  found_on i h = more.marked.marks i ∙ or_right (is_in more.numbers i) (is_marked m i) (found_in i ∙ h)

  pub begun_on : (i : ℕ) → IsTrue (has_mark begins i) → IsTrue (is_marked n i)
  begun_on i h = more.marked.marks i ∙ or_left (is_in more.numbers i) (is_marked m i) ((more.each i).1 h)

  either : (i : ℕ) → IsTrue (is_marked n i) → IsTrue (has_mark found i) ⊎ IsTrue (has_mark begins i)
  either i h = elim (or_cases (is_in more.numbers i) (is_marked m i) (sym (more.marked.marks i) ∙ h)) [
    | inl new ↦ inr ((more.each i).0 new)
    | inr old ↦ inl (sym (found_in i) ∙ old)
  ]

  marked_waiting : (i : ℕ) → is_waiting n i ≡ true → is_marked n i ≡ true
  marked_waiting i h = elim (or_cases (is_waiting m i) (is_in more.numbers i && not (is_marked m i)) (sym (more.marked.waits i) ∙ h)) [
    | inl old ↦ absurd (false≢true (sym (waits_in i) ∙ old))
    | inr new ↦ begun_on i ((more.each i).0 (and_parts (is_in more.numbers i) (not (is_marked m i)) new).0)
  ]

  closed_idle : AreClosedOn E found begins → (i : ℕ) → is_marked n i ≡ true → is_waiting n i ≡ false → (a : ℕ) → E i a → is_marked n a ≡ true
  closed_idle closed i h waits a e = elim (cases_Bool (is_marked m i)) [
    | inl old ↦ elim (closed i a (sym (found_in i) ∙ old) e) [ inl before ↦ found_on a before | inr begun ↦ begun_on a begun ]
    | inr new ↦
        let there : is_in more.numbers i ≡ true = elim (or_cases (is_in more.numbers i) (is_marked m i) (sym (more.marked.marks i) ∙ h)) [ inl yes_new ↦ yes_new | inr old ↦ absurd (false≢true (sym new ∙ old)) ] in
        let idle_not : not (is_marked m i) ≡ true = ap not new in
        let wait : is_waiting n i ≡ true = more.marked.waits i ∙ or_right (is_waiting m i) (is_in more.numbers i && not (is_marked m i)) (and_from (is_in more.numbers i) (not (is_marked m i)) there idle_not) in
        absurd (false≢true (sym waits ∙ wait))
  ]

  pub goes_on : AreClosedOn E found begins → Spreading E n n
  goes_on closed = record {
    one_each = refl;
    kept = λ i h. h;
    from = λ i h. record { start = i; is_start = h; walk = stay };
    waiting = marked_waiting;
    closed = closed_idle closed;
  }

  pub reached_all : (o : Marks) → Spread E n o → AreReachedOn E found begins o.marked.items
  reached_all o spread x = (
    (λ h. let way = spread.from x h in record { start = way.start; is_start = either way.start way.is_start; walk = way.walk }),
    (λ r. walk_keeps (λ j. is_marked o j ≡ true) (λ a b e h. spread.closed a h b e) r.walk (spread.kept r.start (elim r.is_start [ inl old ↦ found_on r.start old | inr new ↦ begun_on r.start new ]))),
  )
