-- Marking along edges, step by step.
use Rattle.std.proofs.Common.{◌≡◌, ◌==◌, ℕ, true, cond, List, [], ◌∷◌, sym, ap, subst, ◌∙◌, inl, inr}
use Rattle.std.specs.Prelude.{eqb}
use Rattle.std.specs.List.{Contains}
use Rattle.std.proofs.lemmas.Bool.{or_cases, or_left, or_right, cases_Bool, false≢true, eqb-true, eq-eqb}
use Rattle.flat_core.specs.declared.reach.Marks.{Marks}
use Rattle.flat_core.specs.inner.Marks.{is_marked}
use Rattle.flat_core.specs.Members.{is_in}
use Rattle.translation_order.proofs.PathLemmas.{walk_keeps}
use Rattle.translation_order.specs.Order.{Before}
use Rattle.translation_order.specs.inner.Taking.{seconds_of}
use Rattle.tsl_value.proofs.Lists.{here, later, none_in_nil, cons_cases}
use Rattle.flat_core.specs.inner.Marks.{Spread}
use Rattle.alias_paths.specs.inner.Search.{AreReached}

-- what is marked in the end is what is reached
pub spread_reaches : (E : ℕ → ℕ → Type 0) (m n : Marks) → Spread E m n → AreReached E m.marked.items n.marked.items
spread_reaches E m n spread = record {
  each = λ x. (spread.from x, λ r. walk_keeps (λ j. is_marked n j ≡ true) (λ a b e h. spread.closed a h b e) r.walk (spread.kept r.start r.is_start));
}

-- ---- the seconds of a number
pub second_in : (pairs : List (ℕ × ℕ)) (a b : ℕ) → Before pairs a b → is_in (seconds_of pairs a) b ≡ true
second_in [] a b c = absurd (none_in_nil (a, b) c)
second_in (p ∷ pairs) a b c = elim (cons_cases p (a, b) pairs c) [
  | inl same ↦
      let first : eqb a p.0 ≡ true = eq-eqb a p.0 (sym (ap (λ (q : ℕ × ℕ). q.0) same)) in
      ap (λ t. is_in (cond t (p.1 ∷ seconds_of pairs a) (seconds_of pairs a)) b) first
      ∙ or_left (p.1 == b) (is_in (seconds_of pairs a) b) (eq-eqb p.1 b (ap (λ (q : ℕ × ℕ). q.1) same))
  | inr rest ↦
      let there = second_in pairs a b rest in
      elim (cases_Bool (eqb a p.0)) [
        | inl yes_first ↦ ap (λ t. is_in (cond t (p.1 ∷ seconds_of pairs a) (seconds_of pairs a)) b) yes_first ∙ or_right (p.1 == b) (is_in (seconds_of pairs a) b) there
        | inr other ↦ ap (λ t. is_in (cond t (p.1 ∷ seconds_of pairs a) (seconds_of pairs a)) b) other ∙ there
      ]
]

pub in_second : (pairs : List (ℕ × ℕ)) (a b : ℕ) → is_in (seconds_of pairs a) b ≡ true → Before pairs a b
in_second [] a b h = absurd (false≢true h)
in_second (p ∷ pairs) a b h = elim (cases_Bool (eqb a p.0)) [
  | inl same ↦
      let more : is_in (p.1 ∷ seconds_of pairs a) b ≡ true = ap (λ t. is_in (cond t (p.1 ∷ seconds_of pairs a) (seconds_of pairs a)) b) (sym same) ∙ h in
      let first : p.0 ≡ a = sym (eqb-true a p.0 same) in
      elim (or_cases (p.1 == b) (is_in (seconds_of pairs a) b) more) [
        | inl it ↦ let second = eqb-true p.1 b it in subst (Contains (p ∷ pairs)) (λ k. (first k, second k)) (here p pairs)
        | inr rest ↦ later p (a, b) pairs (in_second pairs a b rest)
      ]
  | inr other ↦
      let more : is_in (seconds_of pairs a) b ≡ true = ap (λ t. is_in (cond t (p.1 ∷ seconds_of pairs a) (seconds_of pairs a)) b) (sym other) ∙ h in
      later p (a, b) pairs (in_second pairs a b more)
]
