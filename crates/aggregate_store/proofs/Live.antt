-- Which cells are live once one was made, and their views.
use Rattle.std.proofs.Common.{◌≡◌, ℕ, Bool, true, false, ◌||◌, cond, [], ◌∷◌, Some, None, refl, sym, ap, ◌∙◌}
use Rattle.std.specs.Prelude.{is_some, nat_eq, unwrap_or}
use Rattle.std.specs.Cmp.{Equal-is, eq_by_cmp_equiv, nat_cmp_total, nat_eq_equiv}
use Rattle.std.specs.FinMap as finite_map
use Rattle.std.specs.Ordering.{eq_by_cmp, nat_cmp}
use Rattle.std.specs.declared.cmp.Ordering.TheVariants.{Equal}
use Rattle.tsl_value.specs.View.{View, Plain}
use Rattle.tsl_value.specs.declared.scalar.Scalar.TheVariants as scalar
use Rattle.cell_reader.specs.inner.Cells.{Cells, IsLive, view_at}
use Rattle.aggregate_store.specs.inner.Stored.{is_listed}

module _ (cells : Cells) (handle : ℕ) (view : View) where
  abbrev made : Cells
  made = finite_map.insert cells handle view

  get_new : finite_map.get made handle ≡ Some view
  get_new =
      finite_map.get-insert nat_cmp_total cells handle view handle
      ∙ ap (λ b. cond b (Some view) (finite_map.get cells handle)) ((eq_by_cmp_equiv nat_cmp_total).refl handle)

  pub live_new : IsLive made handle
  live_new = ap is_some get_new

  pub view_new : view_at made handle ≡ view
  view_new = ap (λ o. unwrap_or o (Plain scalar.Unit)) get_new

  pub live_old : (q : ℕ) → IsLive cells q → IsLive made q
  live_old q live =
      ap is_some (finite_map.get-insert nat_cmp_total cells handle view q)
      ∙ elim (eq_by_cmp nat_cmp q handle) as (λ b. is_some (cond b (Some view) (finite_map.get cells q)) ≡ true) [ true ↦ refl | false ↦ live ]

  pub view_old : ¬ (IsLive cells handle) → (q : ℕ) → IsLive cells q → view_at made q ≡ view_at cells q
  view_old fresh q live =
      ap (λ o. unwrap_or o (Plain scalar.Unit)) (finite_map.get-insert nat_cmp_total cells handle view q)
      ∙ elim (eq_by_cmp nat_cmp q handle) as (λ b. eq_by_cmp nat_cmp q handle ≡ b → unwrap_or (cond b (Some view) (finite_map.get cells q)) (Plain scalar.Unit) ≡ view_at cells q) [
        | true ↦ λ tied.
            let same : q ≡ handle = finite_map.nat_cmp-IsAntisymmetric q handle ((Equal-is (nat_cmp q handle)).0 tied) in
            absurd (fresh (sym (ap (λ h. is_some (finite_map.get cells h)) same) ∙ live))
        | false ↦ λ apart. refl
      ] refl

module _ (old new : Cells) (handle : ℕ) (view : View) (is : new ≡ finite_map.insert old handle view) where
  pub is_live : IsLive new handle
  is_live = ap (λ cells. finite_map.contains_key cells handle) is ∙ live_new old handle view

  pub has_view : view_at new handle ≡ view
  has_view = ap (λ cells. view_at cells handle) is ∙ view_new old handle view

  pub still_live : (q : ℕ) → IsLive old q → IsLive new q
  still_live q live = ap (λ cells. finite_map.contains_key cells q) is ∙ live_old old handle view q live

  pub still_view : ¬ (IsLive old handle) → (q : ℕ) → IsLive old q → view_at new q ≡ view_at old q
  still_view fresh q live = ap (λ cells. view_at cells q) is ∙ view_old old handle view fresh q live

-- the cells that stay
pub still_listed : (old new : Cells) (p : ℕ → Bool) → new ≡ finite_map.retain_keys old p → (q : ℕ) → p q ≡ true → IsLive old q → IsLive new q
still_listed old new p is q kept live =
    let alike : (x : ℕ) → nat_cmp q x ≡ Equal → p x ≡ p q = λ x tied. ap p (sym (finite_map.nat_cmp-IsAntisymmetric q x tied)) in
    ap (λ cells. finite_map.contains_key cells q) is
    ∙ ap is_some (finite_map.get-retain_keys old p q alike ∙ ap (λ b. cond b (finite_map.get old q) None) kept)
    ∙ live

pub is_first : (a b : ℕ) → is_listed (a ∷ b ∷ []) a ≡ true
is_first a b = ap (λ t. t || (nat_eq b a || false)) (nat_eq_equiv.refl a)

pub is_second : (a b : ℕ) → is_listed (a ∷ b ∷ []) b ≡ true
is_second a b = elim (nat_eq a b) as (λ t. (t || (nat_eq b b || false)) ≡ true) [ true ↦ refl | false ↦ ap (λ t. t || false) (nat_eq_equiv.refl b) ]
