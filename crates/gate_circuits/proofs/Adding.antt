-- Numbers that are added one after the other.
use Rattle.std.proofs.Common.{◌≡◌, ◌≢◌, ℕ, ◌+◌, ◌/◌, ◌<◌, ◌≤◌, ◌⊎◌, List, length, get_or, Contains, refl, sym, ap, subst, ◌∙◌, inl, inr, arith}
use Rattle.std.specs.Prelude.{IsTrue}
use Rattle.std.proofs.lemmas.Bool.{cases_eq}
use Rattle.std.proofs.lemmas.List.{get_or_default}
use Rattle.gate_circuits.specs.inner.Marks.{has, AreAdded}
use Rattle.gate_circuits.proofs.Words.{word_of}

module _ (numbers old : List ℕ) where
  pub added_none : AreAdded numbers old old 0
  added_none = record {
    within = omega arith;
    room = refl;
    kept = λ x h. h;
    there = λ k low. absurd (omega arith);
    from = λ x h. inl h;
  }

  pub added_more : (now new : List ℕ) (n : ℕ) → n < length numbers → AreAdded numbers old now n → length new ≡ length now → (get_or numbers n 0 / 64 < length now → IsTrue (has new (get_or numbers n 0))) → ((x : ℕ) → x ≢ get_or numbers n 0 → has new x ≡ has now x) → AreAdded numbers old new (n + 1)
  added_more now new n below are room here others = record {
    within = omega arith;
    room = room ∙ are.room;
    kept = λ x h. stays x (are.kept x h);
    there = λ k low fits. elim (cases_eq k n) [
      | inl same ↦
          let at : get_or numbers k 0 ≡ get_or numbers n 0 = ap (λ j. get_or numbers j 0) same in
          let room_there : get_or numbers n 0 / 64 < length now = omega (arith, at, are.room) in
          subst (λ m. IsTrue (has new m)) (sym at) (here room_there)
      | inr ne ↦ stays (get_or numbers k 0) (are.there k (omega arith) fits)
    ];
    from = λ x h. elim (cases_eq x (get_or numbers n 0)) [
      | inl same ↦ inr (n, omega arith, sym same)
      | inr ne ↦ elim (are.from x (sym (others x ne) ∙ h)) [
        | inl was ↦ inl was
        | inr (k, low, is) ↦ inr (k, omega arith, is)
      ]
    ];
  }
    where
      stays : (x : ℕ) → IsTrue (has now x) → IsTrue (has new x)
      stays x h = elim (cases_eq x (get_or numbers n 0)) [
        | inl same ↦
            let low = word_of now x h in
            let fits : get_or numbers n 0 / 64 < length now = omega (arith, same) in
            subst (λ m. IsTrue (has new m)) (sym same) (here fits)
        | inr ne ↦ others x ne ∙ h
      ]

  module _ (new : List ℕ) (n : ℕ) (all : length numbers ≤ n) (are : AreAdded numbers old new n) where
    pub added_there : (x : ℕ) → Contains numbers x → x / 64 < length old → IsTrue (has new x)
    added_there x (k, low, is) fits =
        let at : get_or numbers k 0 ≡ x = get_or_default numbers k 0 x low ∙ is in
        subst (λ m. IsTrue (has new m)) at (are.there k (omega arith) (omega (arith, at)))

    pub added_from : (x : ℕ) → IsTrue (has new x) → IsTrue (has old x) ⊎ Contains numbers x
    added_from x h = elim (are.from x h) [
      | inl was ↦ inl was
      | inr (k, low, is) ↦
          let inside : k < length numbers = omega (arith, are.within) in
          inr (k, inside, sym (get_or_default numbers k 0 x inside) ∙ is)
    ]
