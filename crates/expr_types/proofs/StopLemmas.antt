-- Walks over parts, one after the other, that end at the first that is wrong.
use Rattle.std.proofs.Common.{◌≡◌, List, [], ◌∷◌, ◌++◌, Option, Some, None, Ok, Err, refl, sym, ap, subst, ◌∙◌}
use Rattle.syntax_tree.specs.Tree.{Expr}
use Rattle.type_rules.specs.declared.rule.ExprType.{ExprType}
use Rattle.type_rules.specs.Asked.{Verdict}
use Rattle.expr_types.specs.declared.wrong.Wrong.{Wrong}
use Rattle.expr_types.specs.declared.stop.Stop.{Stop}
use Rattle.expr_types.specs.declared.stop.Stop.TheVariants as stop
use Rattle.expr_types.specs.Judge.{with_two, with_three, of_verdict, broken}
use Rattle.expr_types.specs.inner.Answers.{first, Stops, IsWhole}

pub first_after : {A : Type 0} (xs ys : List A) (w : Option A) → xs ≡ [] → first ys ≡ w → first (xs ++ ys) ≡ w
first_after xs ys w e h = ap (λ l. first (l ++ ys)) e ∙ h

pub first_of_front : {A : Type 0} (xs ys : List A) (w : A) → first xs ≡ Some w → first (xs ++ ys) ≡ Some w
first_of_front [] ys w h = cc
first_of_front (x ∷ xs) ys w h = h

pub both_empty : {A : Type 0} (xs ys : List A) → xs ≡ [] → ys ≡ [] → xs ++ ys ≡ []
both_empty xs ys h k = ap (λ l. l ++ ys) h ∙ k

pub stops_front : {A B : Type 0} (s : Stop) (xs ys : List Wrong) (t : Option A) (v : Option B) → (t ≡ None → v ≡ None) → Stops xs t s → Stops (xs ++ ys) v s
stops_front (stop.Wrong w) xs ys t v f h = (first_of_front xs ys w h.0, f h.1)
stops_front stop.Memory xs ys t v f h = tt

pub stops_after : {A B : Type 0} (s : Stop) (xs ys : List Wrong) (t : Option A) (v : Option B) → xs ≡ [] → (t ≡ None → v ≡ None) → Stops ys t s → Stops (xs ++ ys) v s
stops_after (stop.Wrong w) xs ys t v e f h = (first_after xs ys (Some w) e h.0, f h.1)
stops_after stop.Memory xs ys t v e f h = tt

-- the same list and the same value
pub stops_same : {A : Type 0} (s : Stop) (xs ys : List Wrong) (t u : Option A) → xs ≡ ys → t ≡ u → Stops xs t s → Stops ys u s
stops_same (stop.Wrong w) xs ys t u e f h = (ap first (sym e) ∙ h.0, sym f ∙ h.1)
stops_same stop.Memory xs ys t u e f h = tt

-- a value that is nothing where another one is
pub stops_value : {A B : Type 0} (s : Stop) (xs : List Wrong) (t : Option A) (v : Option B) → (t ≡ None → v ≡ None) → Stops xs t s → Stops xs v s
stops_value (stop.Wrong w) xs t v f h = (h.0, f h.1)
stops_value stop.Memory xs t v f h = tt

-- out of memory says nothing
pub stops_memory : {A : Type 0} (s : Stop) (xs : List Wrong) (t : Option A) → s ≡ stop.Memory → Stops xs t s
stops_memory (stop.Wrong w) xs t h = cc
stops_memory stop.Memory xs t h = tt

pub is_whole : (xs : List Wrong) (v : Option Verdict) → xs ≡ [] → IsWhole xs v
is_whole xs None h = h
is_whole xs (Some (Ok t)) h = h
is_whole xs (Some (Err clash)) h = tt

pub whole_same : (xs ys : List Wrong) (v : Option Verdict) → xs ≡ ys → IsWhole xs v → IsWhole ys v
whole_same xs ys v e h = let P : List Wrong → Type 0 = λ l. IsWhole l v in subst P e h

-- ---- two parts
two_none : (f : ExprType → ExprType → Verdict) (t : Option ExprType) → with_two f t None ≡ None
two_none f None = refl
two_none f (Some t) = refl

pub two_first : (f : ExprType → ExprType → Verdict) (s : Stop) (xs ys : List Wrong) (t u : Option ExprType) → Stops xs t s → Stops (xs ++ ys) (with_two f t u) s
two_first f s xs ys t u h = stops_front s xs ys t (with_two f t u) (λ e. ap (λ x. with_two f x u) e) h

pub two_second : (f : ExprType → ExprType → Verdict) (s : Stop) (xs ys : List Wrong) (t u : Option ExprType) → xs ≡ [] → Stops ys u s → Stops (xs ++ ys) (with_two f t u) s
two_second f s xs ys t u e h = stops_after s xs ys u (with_two f t u) e (λ k. ap (λ x. with_two f t x) k ∙ two_none f t) h

pub two_done : (f : ExprType → ExprType → Verdict) (xs ys : List Wrong) (a b t u : Option ExprType) (v : Option Verdict) → (xs ≡ []) × (a ≡ t) → (ys ≡ []) × (b ≡ u) → v ≡ with_two f a b → IsWhole (xs ++ ys) v × (v ≡ with_two f t u)
two_done f xs ys a b t u v h k is =
    (is_whole (xs ++ ys) v (both_empty xs ys h.0 k.0), is ∙ ap (λ x. with_two f x b) h.1 ∙ ap (λ x. with_two f t x) k.1)

-- ---- three parts
three_second_none : (f : ExprType → ExprType → ExprType → Verdict) (t u : Option ExprType) → with_three f t None u ≡ None
three_second_none f None u = refl
three_second_none f (Some t) u = refl

three_third_none : (f : ExprType → ExprType → ExprType → Verdict) (t u : Option ExprType) → with_three f t u None ≡ None
three_third_none f None u = refl
three_third_none f (Some t) None = refl
three_third_none f (Some t) (Some u) = refl

pub three_first : (f : ExprType → ExprType → ExprType → Verdict) (s : Stop) (xs ys zs : List Wrong) (t u r : Option ExprType) → Stops xs t s → Stops ((xs ++ ys) ++ zs) (with_three f t u r) s
three_first f s xs ys zs t u r h =
    stops_front s (xs ++ ys) zs t (with_three f t u r) (λ e. ap (λ x. with_three f x u r) e) (stops_front s xs ys t t (λ e. e) h)

pub three_second : (f : ExprType → ExprType → ExprType → Verdict) (s : Stop) (xs ys zs : List Wrong) (t u r : Option ExprType) → xs ≡ [] → Stops ys u s → Stops ((xs ++ ys) ++ zs) (with_three f t u r) s
three_second f s xs ys zs t u r e h =
    stops_front s (xs ++ ys) zs u (with_three f t u r) (λ k. ap (λ x. with_three f t x r) k ∙ three_second_none f t r) (stops_after s xs ys u u e (λ k. k) h)

pub three_third : (f : ExprType → ExprType → ExprType → Verdict) (s : Stop) (xs ys zs : List Wrong) (t u r : Option ExprType) → xs ≡ [] → ys ≡ [] → Stops zs r s → Stops ((xs ++ ys) ++ zs) (with_three f t u r) s
three_third f s xs ys zs t u r e d h =
    stops_after s (xs ++ ys) zs r (with_three f t u r) (both_empty xs ys e d) (λ k. ap (λ x. with_three f t u x) k ∙ three_third_none f t u) h

pub three_done : (f : ExprType → ExprType → ExprType → Verdict) (xs ys zs : List Wrong) (a b c t u r : Option ExprType) (v : Option Verdict) → (xs ≡ []) × (a ≡ t) → (ys ≡ []) × (b ≡ u) → (zs ≡ []) × (c ≡ r) → v ≡ with_three f a b c → IsWhole ((xs ++ ys) ++ zs) v × (v ≡ with_three f t u r)
three_done f xs ys zs a b c t u r v h k l is = (
  is_whole ((xs ++ ys) ++ zs) v (both_empty (xs ++ ys) zs (both_empty xs ys h.0 k.0) l.0),
  is ∙ ap (λ x. with_three f x b c) h.1 ∙ ap (λ x. with_three f t x c) k.1 ∙ ap (λ x. with_three f t u x) l.1,
)

-- ---- an expression, by its verdict and what is wrong inside
pub stop_of : (e : Expr) (v : Option Verdict) (inside : List Wrong) (s : Stop) → Stops inside v s → Stops (broken e v ++ inside) (of_verdict v) s
stop_of e None inside (stop.Wrong w) h = (h.0, refl)
stop_of e (Some x) inside (stop.Wrong w) h = absurd (cc (h.1))
stop_of e v inside stop.Memory h = tt
