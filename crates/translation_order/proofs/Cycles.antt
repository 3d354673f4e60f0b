-- The cycle at the end of the walk.
use Rattle.std.proofs.Common.{◌≡◌, ℕ, List, [], ◌∷◌, ◌++◌, eqb, Contains, refl, sym, ap, subst, ◌∙◌, append_assoc}
use Rattle.std.specs.List.{IsDistinct}
use Rattle.translation_order.specs.Graph.{Path, edge, step}
use Rattle.translation_order.specs.Least.{IsLeast}
use Rattle.translation_order.specs.Cycle.{Through, IsCycle, IsTurned, Remains, RemainsBefore, IsWalk, IsCycleOfWalk}
use Rattle.translation_order.proofs.Lists.{once_split, once_after, same_split}
use Rattle.translation_order.proofs.Circles.{through_weaker, closes, turned_around, once_turned, turned_same, least_same}
use Rattle.tsl_value.proofs.Lists.{middle}

-- ---- two walks
module _ (N : ℕ → ℕ → Type 0) (one : (x a b : ℕ) → N x a → N x b → a ≡ b) where
  -- a walk stops where the other stops
  stops : (seen : List ℕ) (x y : ℕ) (ys : List ℕ) (again : ℕ) → N x again → N x y → IsDistinct eqb (seen ++ x ∷ y ∷ ys) → Contains (seen ++ x ∷ []) again → ⊥
  stops seen x y ys again n m once there =
      let same : again ≡ y = one x again y n m in
      (once_split (seen ++ x ∷ []) ys y (subst (IsDistinct eqb) (sym (append_assoc seen (x ∷ []) (y ∷ ys))) once)).0 (subst (Contains (seen ++ x ∷ [])) same there)

  walks_agree : (seen : List ℕ) (x : ℕ) (xs ys : List ℕ) (again other : ℕ) → Through N x xs again → Through N x ys other → IsDistinct eqb (seen ++ x ∷ xs) → IsDistinct eqb (seen ++ x ∷ ys) → Contains (seen ++ x ∷ xs) again → Contains (seen ++ x ∷ ys) other → (xs ≡ ys) × (again ≡ other)
  walks_agree seen x [] [] again other u v once once' there there' = (refl, one x again other u v)
  walks_agree seen x [] (y ∷ ys) again other u v once once' there there' = absurd (stops seen x y ys again u v.0 once' there)
  walks_agree seen x (y ∷ ys) [] again other u v once once' there there' = absurd (stops seen x y ys other v u.0 once there')
  walks_agree seen x (y ∷ ys) (z ∷ zs) again other u v once once' there there' =
      let same : z ≡ y = one x z y v.0 u.0 in
      let on = append_assoc seen (x ∷ []) in
      let through : Through N y zs other = subst (λ m. Through N m zs other) same v.1 in
      let once_z : IsDistinct eqb (seen ++ x ∷ y ∷ zs) = subst (λ m. IsDistinct eqb (seen ++ x ∷ m ∷ zs)) same once' in
      let there_z : Contains (seen ++ x ∷ y ∷ zs) other = subst (λ m. Contains (seen ++ x ∷ m ∷ zs) other) same there' in
      let rest = walks_agree (seen ++ x ∷ []) y ys zs again other u.1 through
      (subst (IsDistinct eqb) (sym (on (y ∷ ys))) once) (subst (IsDistinct eqb) (sym (on (y ∷ zs))) once_z)
      (subst (λ l. Contains l again) (sym (on (y ∷ ys))) there) (subst (λ l. Contains l other) (sym (on (y ∷ zs))) there_z) in
      (ap (λ l. y ∷ l) rest.0 ∙ ap (λ m. m ∷ zs) (sym same), rest.1)

  pub same_walk : (first : ℕ) (xs ys : List ℕ) (again other : ℕ) → Through N first xs again → Through N first ys other → IsDistinct eqb (first ∷ xs) → IsDistinct eqb (first ∷ ys) → Contains (first ∷ xs) again → Contains (first ∷ ys) other → (xs ≡ ys) × (again ≡ other)
  same_walk first xs ys again other = walks_agree [] first xs ys again other

module _ (steps : ℕ) (E : ℕ → ℕ → Type 0) where
  -- the walk goes on to the least remaining step before the last
  abbrev pub Next : ℕ → ℕ → Type 0
  Next x a = IsLeast (RemainsBefore steps E x) a

  comes_again : (xs : List ℕ) (front : List ℕ) (again : ℕ) (back : List ℕ) → xs ≡ front ++ again ∷ back → Contains xs again
  comes_again xs front again back is = subst (λ l. Contains l again) (sym is) (middle front back again)

  ending_once : (first : ℕ) (rest front : List ℕ) (again : ℕ) (back : List ℕ) → first ∷ rest ≡ front ++ again ∷ back → IsDistinct eqb (first ∷ rest) → IsDistinct eqb (again ∷ back)
  ending_once first rest front again back is once = once_after front (again ∷ back) (subst (IsDistinct eqb) is once)

  -- at most one list is the cycle
  pub one_cycle : (xs ys : List ℕ) → IsCycleOfWalk steps E xs → IsCycleOfWalk steps E ys → xs ≡ ys
  one_cycle xs ys c d =
      let start : d.first ≡ c.first = least_same (Remains steps E) d.first c.first d.walk.begins c.walk.begins in
      let walk : IsWalk steps E c.first d.rest d.again = subst (λ f. IsWalk steps E f d.rest d.again) start d.walk in
      let around : c.first ∷ d.rest ≡ d.front ++ d.again ∷ d.back = ap (λ f. f ∷ d.rest) (sym start) ∙ d.around in
      let same = same_walk Next (λ x a b. least_same (RemainsBefore steps E x) a b) c.first c.rest d.rest c.again d.again c.walk.goes_on walk.goes_on c.walk.once walk.once (comes_again (c.first ∷ c.rest) c.front c.again c.back c.around) (comes_again (c.first ∷ d.rest) d.front d.again d.back around) in
      let whole : c.front ++ c.again ∷ c.back ≡ d.front ++ c.again ∷ d.back = sym c.around ∙ ap (λ l. c.first ∷ l) same.0 ∙ around ∙ ap (λ m. d.front ++ m ∷ d.back) (sym same.1) in
      let split = same_split c.front c.back d.front d.back c.again (subst (IsDistinct eqb) c.around c.walk.once) whole in
      let other : IsTurned (d.again ∷ d.back) xs = subst (λ l. IsTurned (d.again ∷ l) xs) split.1 (subst (λ m. IsTurned (m ∷ c.back) xs) same.1 c.turned) in
      turned_same (d.again ∷ d.back) xs ys (ending_once d.first d.rest d.front d.again d.back d.around d.walk.once) other d.turned

  -- the cycle of the walk is a cycle
  pub walked_cycle : (cycle : List ℕ) → IsCycleOfWalk steps E cycle → IsCycle E cycle
  walked_cycle cycle c =
      let back_edges : Through (λ u v. E v u) c.first c.rest c.again = through_weaker Next (λ u v. E v u) (λ a b n. n.holds.before) c.first c.rest c.again c.walk.goes_on in
      record {
        first = c.turned.least;
        rest = c.turned.after ++ c.turned.before;
        is = c.turned.is;
        around = turned_around E c.again c.back cycle c.turned (closes (λ u v. E v u) c.first c.rest c.again c.front c.back c.around back_edges);
        once = once_turned (c.again ∷ c.back) cycle c.turned (ending_once c.first c.rest c.front c.again c.back c.around c.walk.once);
        least_first = c.turned.least_first;
      }

through_path : (E : ℕ → ℕ → Type 0) (a : ℕ) (xs : List ℕ) (b : ℕ) → Through E a xs b → Path E a b
through_path E a [] b h = edge h
through_path E a (x ∷ xs) b h = step h.0 (through_path E x xs b h.1)

pub cycle_path : (E : ℕ → ℕ → Type 0) (cycle : List ℕ) (c : IsCycle E cycle) → Path E c.first c.first
cycle_path E cycle c = through_path E c.first c.rest c.first c.around
