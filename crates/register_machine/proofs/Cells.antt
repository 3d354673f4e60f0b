-- Small facts on registers, cells and lists of steps.
use Rattle.std.proofs.Common.{Option, ◌≡◌, ◌==◌, ℕ, not, List, [], ◌∷◌, Some, cond, refl, sym, ap, subst, ◌∙◌, inl, inr, arith, ◌⊎◌, Contains, filter}
use Rattle.std.specs.Prelude.{if◌then◌else◌}
use Rattle.std.proofs.lemmas.Bool.{eq-eqb, ne_eqb, cases_eq, cases_Bool}
use Rattle.std.proofs.Math.Bool.{true≢false}
use Rattle.std.specs.Cmp.{unsigned_tied}
use Rattle.std.proofs.lemmas.Cmp.{nat_cmp_total}
use Rattle.std.specs.FinMap as finite_map
use Rattle.tsl_value.specs.View.{View}
use Rattle.lift_func.specs.declared.fault.FaultKind.{FaultKind}
use Rattle.tsl_value.proofs.Lists.{later, none_in_nil, cons_cases}
use Rattle.register_machine.specs.Machine.{Held, Bare, Cell, Slot, Blank, Holds, Failed, Cells, with}

pub with-here : {A : Type 0} (f : ℕ → A) (i : ℕ) (x : A) → with f i x i ≡ x
with-here f i x = λ k. if eq-eqb i i refl k then x else f i

pub with-there : {A : Type 0} (f : ℕ → A) (i : ℕ) (x : A) (j : ℕ) → (j ≡ i → ⊥) → with f i x j ≡ f j
with-there f i x j ne = λ k. if ne_eqb j i ne k then x else f j

-- the view of a cell that was written, and of another
pub get-here : (m : Cells) (k : ℕ) (v : View) → finite_map.get (finite_map.insert m k v) k ≡ Some v
get-here m k v = finite_map.get-insert nat_cmp_total m k v k ∙ (λ i. cond (unsigned_tied k k i) (Some v) (finite_map.get m k)) ∙ (λ i. cond (eq-eqb k k refl i) (Some v) (finite_map.get m k))

pub get-there : (m : Cells) (k : ℕ) (v : View) (q : ℕ) → (q ≡ k → ⊥) → finite_map.get (finite_map.insert m k v) q ≡ finite_map.get m q
get-there m k v q ne = finite_map.get-insert nat_cmp_total m k v q ∙ (λ i. cond (unsigned_tied q k i) (Some v) (finite_map.get m q)) ∙ (λ i. cond (ne_eqb q k ne i) (Some v) (finite_map.get m q))

-- slots differ
pub blank_holds : {k : Held} {P : Type 0} → Blank ≡ Holds k → P
blank_holds e = absurd (cc)

pub failed_holds : {kind : Option FaultKind} {k : Held} {P : Type 0} → Failed kind ≡ Holds k → P
failed_holds e = absurd (cc)

pub blank_failed : {kind : Option FaultKind} {P : Type 0} → Blank ≡ Failed kind → P
blank_failed e = absurd (cc)

pub bare_cell : {b : _} {h : ℕ} {P : Type 0} → Holds (Bare b) ≡ Holds (Cell h) → P
bare_cell e = absurd (cc)

pub holds_same : {k l : Held} → Holds k ≡ Holds l → k ≡ l
holds_same e = cc

pub cell_same : {h k : ℕ} → Holds (Cell h) ≡ Holds (Cell k) → h ≡ k
cell_same e = cc

pub some_cell_same : {h k : ℕ} → Some (Cell h) ≡ Some (Cell k) → h ≡ k
some_cell_same e = cc

-- A register that held something before holds it after another one is filled.
pub kept-slot : (f : ℕ → Slot) (i : ℕ) (new : Slot) (x : ℕ) (k : Held) → f i ≡ Blank → f x ≡ Holds k → with f i new x ≡ Holds k
kept-slot f i new x k blank holds = with-there f i new x (λ same. blank_holds (sym blank ∙ ap f (sym same) ∙ holds)) ∙ holds

-- And one that holds something after was filled, or held it before.
pub slot_before : (f : ℕ → Slot) (i : ℕ) (new : Slot) (x : ℕ) (k : Held) → with f i new x ≡ Holds k → ((x ≡ i) × (new ≡ Holds k)) ⊎ (f x ≡ Holds k)
slot_before f i new x k holds = elim (cases_eq x i) [
  | inl same ↦ inl (same, sym (ap (with f i new) same ∙ with-here f i new) ∙ holds)
  | inr other ↦ inr (sym (with-there f i new x other) ∙ holds)
]

-- the steps that remain after one
abbrev pub without : ℕ → List ℕ → List ℕ
without x rest = filter (λ y. not (y == x)) rest

pub without-there : (x : ℕ) (rest : List ℕ) (w : ℕ) → Contains (without x rest) w → Contains rest w
without-there x [] w found = absurd (none_in_nil w found)
without-there x (y ∷ rest) w found = elim (cases_Bool (not (y == x))) [
  | inl stays ↦
      let here : Contains (y ∷ without x rest) w = subst (λ b. Contains (if b then y ∷ without x rest else without x rest) w) stays found in
      elim (cons_cases y w (without x rest) here) [ inl same ↦ (0, omega arith, same) | inr after ↦ later y w rest (without-there x rest w after) ]
  | inr goes ↦
      let here : Contains (without x rest) w = subst (λ b. Contains (if b then y ∷ without x rest else without x rest) w) goes found in
      later y w rest (without-there x rest w here)
]

pub without-other : (x : ℕ) (rest : List ℕ) (w : ℕ) → Contains (without x rest) w → w ≡ x → ⊥
without-other x [] w found same = absurd (none_in_nil w found)
without-other x (y ∷ rest) w found same = elim (cases_Bool (not (y == x))) [
  | inl stays ↦
      let here : Contains (y ∷ without x rest) w = subst (λ b. Contains (if b then y ∷ without x rest else without x rest) w) stays found in
      elim (cons_cases y w (without x rest) here) [
        | inl is ↦ true≢false (sym stays ∙ ap not (eq-eqb y x (is ∙ same)))
        | inr after ↦ without-other x rest w after same
      ]
  | inr goes ↦
      let here : Contains (without x rest) w = subst (λ b. Contains (if b then y ∷ without x rest else without x rest) w) goes found in
      without-other x rest w here same
]

pub without-keeps : (x : ℕ) (rest : List ℕ) (w : ℕ) → Contains rest w → (w ≡ x → ⊥) → Contains (without x rest) w
without-keeps x [] w found ne = absurd (none_in_nil w found)
without-keeps x (y ∷ rest) w found ne = elim (cases_Bool (not (y == x))) [
  | inl stays ↦
      let here : Contains (y ∷ without x rest) w = elim (cons_cases y w rest found) [ inl same ↦ (0, omega arith, same) | inr after ↦ later y w _ (without-keeps x rest w after ne) ] in
      subst (λ b. Contains (if b then y ∷ without x rest else without x rest) w) (sym stays) here
  | inr goes ↦
      let here : Contains (without x rest) w = elim (cons_cases y w rest found) [
        | inl same ↦ absurd (true≢false (sym (ap not (ne_eqb y x (λ e. ne (sym same ∙ e)))) ∙ goes))
        | inr after ↦ without-keeps x rest w after ne
      ] in
      subst (λ b. Contains (if b then y ∷ without x rest else without x rest) w) (sym goes) here
]
