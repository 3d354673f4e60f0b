-- The numbers of a set's table are keys.
use Rattle.std.proofs.Common.{◌≡◌, ℤ, Bool, true, ◌||◌, List, sym, ap, subst, ◌∙◌}
use Rattle.std.specs.Prelude.{IsTrue, slice_index_or}
use Rattle.std.specs.Cmp.{eq_by_cmp_equiv}
use Rattle.std.specs.FinSet as set
use Rattle.std.specs.List.{AllPass, Contains}
use Rattle.std.specs.Ordering.{eq_by_cmp}
use Rattle.std.proofs.Math.Bool.{or-true}
use Rattle.tsl_value.specs.View.{Keys, scalar_cmp}
use Rattle.tsl_value.specs.inner.ScalarOrder.{scalar_cmp_total}
use Rattle.tsl_value.specs.declared.scalar.Scalar.{Scalar}
use Rattle.tsl_value.specs.declared.scalar.Scalar.TheVariants as scalar
use Rattle.aggregate_store.specs.inner.Keys.{AreKeys}

-- what all numbers of a list pass one of them does
pub pass_found : (p : ℤ → Bool) (numbers : List ℤ) (n : ℤ) → AllPass p numbers → Contains numbers n → IsTrue (p n)
pass_found p numbers n all found = subst (λ x. p x ≡ true) found.2 (all found.0 n found.1)

pub there_added : (s : Keys) (k : Scalar) → set.contains (set.insert s k) k ≡ true
there_added s k = set.contains-insert scalar_cmp_total s k k ∙ ap (λ b. b || set.contains s k) ((eq_by_cmp_equiv scalar_cmp_total).refl k)

-- keys stay where another is added
pub keys_still : (s : Keys) (k : Scalar) (numbers : List ℤ) → AreKeys s numbers → AreKeys (set.insert s k) numbers
keys_still s k numbers are = λ i d lt.
    let q = scalar.Int (slice_index_or numbers i d) in
    set.contains-insert scalar_cmp_total s k q ∙ ap (λ b. eq_by_cmp scalar_cmp q k || b) (are i d lt) ∙ or-true (eq_by_cmp scalar_cmp q k)

module _ (old new : Keys) (k : Scalar) (is : new ≡ set.insert old k) where
  pub keys_added : (numbers : List ℤ) → AreKeys old numbers → AreKeys new numbers
  keys_added numbers are = subst (λ (keys : Keys). AreKeys keys numbers) (sym is) (keys_still old k numbers are)

  pub key_added : set.contains new k ≡ true
  key_added = ap (λ (keys : Keys). set.contains keys k) is ∙ there_added old k
