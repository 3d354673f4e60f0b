-- Refusals of longer lists of equations.
use Rattle.std.proofs.Common.{◌≡◌, ◌==◌, ℕ, zero, suc, ◌+◌, ◌≤◌, Bool, true, false, ◌&&◌, List, [], ◌∷◌, ◌++◌, length, Option, Some, None, refl, sym, ap, ◌∙◌, arith}
use Rattle.std.specs.Prelude.{if◌then◌else◌, slice_get, slice_set}
use Rattle.std.proofs.lemmas.Bool.{eq-eqb, ne_eqb}
use Rattle.std.proofs.lemmas.Option.{same_Some, none-some}
use Rattle.std.specs.Option.{option_map_or}
use Rattle.flat_core.specs.declared.equation.Equation.{Equation}
use Rattle.flat_core.specs.System.{System, equation, with_name}
use Rattle.flat_core.specs.declared.limits.TheConstants.{MOST_EQUATIONS}
use Rattle.stream_constructs.specs.declared.maker.MakeFault.{MakeFault}
use Rattle.stream_constructs.specs.declared.maker.MakeFault.TheVariants as fault
use Rattle.flat_core.specs.Updates.{is_update}
use Rattle.stream_constructs.specs.Limits.{one_if, update_count, refusal_from, refusal, IsRefusal}
use Rattle.stream_constructs.specs.declared.limits.TheConstants.{MOST_UPDATES}

-- a choice of two refusals before another
abbrev choice_of : Bool → Bool → MakeFault → MakeFault → Option MakeFault → Option MakeFault
choice_of a b x y rest = if a then Some x else if b then Some y else rest

passes : (a b : Bool) (x y : MakeFault) (rest : Option MakeFault) → choice_of a b x y rest ≡ None → (a ≡ false) × (b ≡ false) × (rest ≡ None)
passes true b x y rest none = absurd (none-some x (sym none))
passes false true x y rest none = absurd (none-some y (sym none))
passes false false x y rest none = (refl, refl, none)

stays : (a b : Bool) (x y f : MakeFault) (rest more : Option MakeFault) → (rest ≡ Some f → more ≡ Some f) → choice_of a b x y rest ≡ Some f → choice_of a b x y more ≡ Some f
stays true b x y f rest more later is = is
stays false true x y f rest more later is = is
stays false false x y f rest more later is = later is

-- ---- a list after one that is not refused
pub refusal_after : (made updates : ℕ) (xs ys : List Equation) → refusal_from made updates xs ≡ None → refusal_from made updates (xs ++ ys) ≡ refusal_from (made + length xs) (updates + update_count xs) ys
refusal_after made updates [] ys none =
    let m : made ≡ made + 0 = omega arith in
    let u : updates ≡ updates + 0 = omega arith in
    λ k. refusal_from (m k) (u k) ys
refusal_after made updates (e ∷ es) ys none =
    let passed = passes (made == MOST_EQUATIONS) (is_update e.op && (updates == MOST_UPDATES)) _ _ _ none in
    let m : suc made + length es ≡ made + suc (length es) = omega arith in
    let u : updates + one_if (is_update e.op) + update_count es ≡ updates + (one_if (is_update e.op) + update_count es) = omega arith in
    (λ k. choice_of (passed.0 k) (passed.1 k) (fault.TooManyEquations e.place) (fault.TooManyUpdates e.place) (refusal_from (suc made) (updates + one_if (is_update e.op)) (es ++ ys)))
    ∙ refusal_after (suc made) (updates + one_if (is_update e.op)) es ys passed.2
    ∙ (λ k. refusal_from (m k) (u k) ys)

longer_from : (made updates : ℕ) (xs ys : List Equation) (f : MakeFault) → refusal_from made updates xs ≡ Some f → refusal_from made updates (xs ++ ys) ≡ Some f
longer_from made updates [] ys f is = absurd (none-some f is)
longer_from made updates (e ∷ es) ys f is =
    stays (made == MOST_EQUATIONS) (is_update e.op && (updates == MOST_UPDATES)) _ _ f _ _ (λ later. longer_from (suc made) (updates + one_if (is_update e.op)) es ys f later) is

-- the refusal of a list is that of each longer one
pub refusal_longer : (xs ys : List Equation) (f : MakeFault) → refusal xs ≡ Some f → refusal (xs ++ ys) ≡ Some f
refusal_longer xs ys f is = longer_from 0 0 xs ys f is

-- the front of a list that is not refused is not
pub refusal_front : (xs ys : List Equation) → refusal (xs ++ ys) ≡ None → refusal xs ≡ None
refusal_front xs ys none = at (refusal xs) refl
  where
    at : (r : Option MakeFault) → refusal xs ≡ r → refusal xs ≡ None
    at None is = is
    at (Some f) is = absurd (none-some f (sym none ∙ refusal_longer xs ys f is))

pub IsRefusal_longer : (xs ys : List Equation) (f : MakeFault) → IsRefusal xs f → IsRefusal (xs ++ ys) f
IsRefusal_longer xs ys fault.Memory is = tt
IsRefusal_longer xs ys f is = refusal_longer xs ys _ is

-- ---- one more equation
pub count_push : (xs : List Equation) (e : Equation) → update_count (xs ++ e ∷ []) ≡ update_count xs + one_if (is_update e.op)
count_push [] e = omega arith
count_push (x ∷ xs) e = let rest = count_push xs e in omega arith

pub full_refused : (xs : List Equation) (e : Equation) → refusal xs ≡ None → length xs ≡ MOST_EQUATIONS → refusal (xs ++ e ∷ []) ≡ Some (fault.TooManyEquations e.place)
full_refused xs e none full =
    let is : (0 + length xs == MOST_EQUATIONS) ≡ true = eq-eqb _ _ (omega arith) in
    refusal_after 0 0 xs (e ∷ []) none ∙ (λ k. choice_of (is k) (is_update e.op && (0 + update_count xs == MOST_UPDATES)) (fault.TooManyEquations e.place) (fault.TooManyUpdates e.place) None)

pub update_refused : (xs : List Equation) (e : Equation) → refusal xs ≡ None → (length xs ≡ MOST_EQUATIONS → ⊥) → is_update e.op ≡ true → update_count xs ≡ MOST_UPDATES → refusal (xs ++ e ∷ []) ≡ Some (fault.TooManyUpdates e.place)
update_refused xs e none room update full =
    let not : (0 + length xs == MOST_EQUATIONS) ≡ false = ne_eqb _ _ (λ h. room (omega arith)) in
    let is : (0 + update_count xs == MOST_UPDATES) ≡ true = eq-eqb _ _ (omega arith) in
    refusal_after 0 0 xs (e ∷ []) none ∙ (λ k. choice_of (not k) (update k && is k) (fault.TooManyEquations e.place) (fault.TooManyUpdates e.place) None)

pub no_update_fits : (xs : List Equation) (e : Equation) → refusal xs ≡ None → (length xs ≡ MOST_EQUATIONS → ⊥) → is_update e.op ≡ false → refusal (xs ++ e ∷ []) ≡ None
no_update_fits xs e none room update =
    let not : (0 + length xs == MOST_EQUATIONS) ≡ false = ne_eqb _ _ (λ h. room (omega arith)) in
    refusal_after 0 0 xs (e ∷ []) none ∙ (λ k. choice_of (not k) (update k && (0 + update_count xs == MOST_UPDATES)) (fault.TooManyEquations e.place) (fault.TooManyUpdates e.place) None)

pub update_fits : (xs : List Equation) (e : Equation) → refusal xs ≡ None → (length xs ≡ MOST_EQUATIONS → ⊥) → is_update e.op ≡ true → (update_count xs ≡ MOST_UPDATES → ⊥) → refusal (xs ++ e ∷ []) ≡ None
update_fits xs e none room update more =
    let not : (0 + length xs == MOST_EQUATIONS) ≡ false = ne_eqb _ _ (λ h. room (omega arith)) in
    let is : (0 + update_count xs == MOST_UPDATES) ≡ false = ne_eqb _ _ (λ h. more (omega arith)) in
    refusal_after 0 0 xs (e ∷ []) none ∙ (λ k. choice_of (not k) (update k && is k) (fault.TooManyEquations e.place) (fault.TooManyUpdates e.place) None)

-- the equations are few
few_from : (made updates : ℕ) (xs : List Equation) → made ≤ MOST_EQUATIONS → refusal_from made updates xs ≡ None → made + length xs ≤ MOST_EQUATIONS
few_from made updates [] low none = omega arith
few_from made updates (e ∷ es) low none =
    let passed = passes (made == MOST_EQUATIONS) (is_update e.op && (updates == MOST_UPDATES)) _ _ _ none in
    let apart : made ≡ MOST_EQUATIONS → ⊥ = λ h. false_true (sym passed.0 ∙ eq-eqb made MOST_EQUATIONS h) in
    let rest = few_from (suc made) (updates + one_if (is_update e.op)) es (omega arith) passed.2 in
    omega arith
  where
    false_true : ◌≡◌ {A = Bool} false true → ⊥
    false_true h = cc

pub few_equations : (xs : List Equation) → refusal xs ≡ None → length xs ≤ MOST_EQUATIONS
few_equations xs none = let few = few_from 0 0 xs (omega arith) none in omega arith

-- ---- a name changes nothing
pub refusal_named : (made updates : ℕ) (xs : List Equation) (i : ℕ) (e : Equation) (name : Option (List ℕ)) → slice_get xs i ≡ Some e → refusal_from made updates (slice_set xs i (record e { name = name })) ≡ refusal_from made updates xs
refusal_named made updates [] i e name is = refl
refusal_named made updates (x ∷ xs) zero e name is = let same = same_Some x e is in λ k. refusal_from made updates (record (sym same k) { name = name } ∷ xs)
refusal_named made updates (x ∷ xs) (suc i) e name is =
    ap (choice_of (made == MOST_EQUATIONS) (is_update x.op && (updates == MOST_UPDATES)) (fault.TooManyEquations x.place) (fault.TooManyUpdates x.place)) (refusal_named (suc made) (updates + one_if (is_update x.op)) xs i e name is)

pub count_named : (xs : List Equation) (i : ℕ) (e : Equation) (name : Option (List ℕ)) → slice_get xs i ≡ Some e → update_count (slice_set xs i (record e { name = name })) ≡ update_count xs
count_named [] i e name is = refl
count_named (x ∷ xs) zero e name is = let same = same_Some x e is in λ k. update_count (record (sym same k) { name = name } ∷ xs)
count_named (x ∷ xs) (suc i) e name is = ap (λ m. one_if (is_update x.op) + m) (count_named xs i e name is)

pub count_few : (xs : List Equation) → update_count xs ≤ length xs
count_few [] = omega arith
count_few (x ∷ xs) = at (is_update x.op) (count_few xs)
  where
    at : (b : Bool) → update_count xs ≤ length xs → one_if b + update_count xs ≤ suc (length xs)
    at true few = omega arith
    at false few = omega arith

-- ---- what a maker keeps
pub no_update_kept : (xs ys : List Equation) (e : Equation) (updates : ℕ) → refusal xs ≡ None → (length xs ≡ MOST_EQUATIONS → ⊥) → is_update e.op ≡ false → updates ≡ update_count xs → ys ≡ xs ++ e ∷ [] → (refusal ys ≡ None) × (updates ≡ update_count ys)
no_update_kept xs ys e updates none room update count is =
    let more = count_push xs e ∙ ap (λ b. update_count xs + one_if b) update in
    (ap refusal is ∙ no_update_fits xs e none room update, let same = ap update_count is in omega arith)

pub update_kept : (xs ys : List Equation) (e : Equation) (updates : ℕ) → refusal xs ≡ None → (length xs ≡ MOST_EQUATIONS → ⊥) → is_update e.op ≡ true → (updates ≡ MOST_UPDATES → ⊥) → updates ≡ update_count xs → ys ≡ xs ++ e ∷ [] → (refusal ys ≡ None) × (updates + 1 ≡ update_count ys)
update_kept xs ys e updates none room update few count is =
    let more = count_push xs e ∙ ap (λ b. update_count xs + one_if b) update in
    (ap refusal is ∙ update_fits xs e none room update (λ h. few (omega arith)), let same = ap update_count is in omega arith)

pub name_kept : (s : System) (m : ℕ) (name : List ℕ) (updates : ℕ) → refusal s.equations ≡ None → updates ≡ update_count s.equations → (refusal (with_name s m name).equations ≡ None) × (updates ≡ update_count (with_name s m name).equations)
name_kept s m name updates none count = at (equation s m) refl
  where
    at : (o : Option Equation) → equation s m ≡ o → (refusal (option_map_or (λ e. slice_set s.equations m (record e { name = Some name })) o s.equations) ≡ None) × (updates ≡ update_count (option_map_or (λ e. slice_set s.equations m (record e { name = Some name })) o s.equations))
    at None is = (none, count)
    at (Some e) is = (refusal_named 0 0 s.equations m e (Some name) is ∙ none, count ∙ sym (count_named s.equations m e (Some name) is))
