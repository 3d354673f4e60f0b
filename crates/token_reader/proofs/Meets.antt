-- What is read fits a relation, and what fits it is read.
use Rattle.std.proofs.Common.{◌≡◌, ℕ, zero, suc, ◌≤◌, Bool, true, false, List, [], ◌∷◌, length, Option, Some, None, refl, sym, ap, subst, ◌∙◌, arith}
use Rattle.token_reader.specs.inner.Reader.{Signs, Outcome, Read, Stopped, Reader, Turn, Lister, give, and_then, ◌>>=◌, when, taken, take_by, expect, tried, if_next, chosen, or_else, opened, looped, many, rest_of}
use Rattle.token_reader.proofs.LocalLaws.{IsLocalTurn, shorter}
use Rattle.token_reader.proofs.ManyLaws.{many_again, many_none}

module _ {T : Type 0} where
  -- what was read fits
  abbrev pub Meets : {A : Type 0} → (A → List T → Type 0) → Outcome T A → Type 0
  Meets P (Read a rest) = P a rest
  Meets P (Stopped r rest) = Unit {0}

  pub meets_bind : {A B : Type 0} (P : A → List T → Type 0) (Q : B → List T → Type 0) (o : Outcome T A) (f : A → Reader T B) → Meets P o → ((a : A) (us : List T) → P a us → Meets Q (f a us)) → Meets Q (and_then o f)
  meets_bind P Q (Read a us) f m k = k a us m
  meets_bind P Q (Stopped r us) f m k = tt

  pub weaker : {A : Type 0} (P Q : A → List T → Type 0) (o : Outcome T A) → ((a : A) (us : List T) → P a us → Q a us) → Meets P o → Meets Q o
  weaker P Q (Read a us) k m = k a us m
  weaker P Q (Stopped r us) k m = tt

  pub meets_opened : {A : Type 0} (Q : A → List T → Type 0) (room : ℕ) (p : Reader T A) (ts : List T) → Meets Q (p ts) → Meets Q (opened room p ts)
  meets_opened Q zero p ts m = tt
  meets_opened Q (suc room) p ts m = m

  -- a token that has to come, after what fits
  pub meets_expect : {A : Type 0} (test : T → Bool) (p : Reader T A) (P : List T → Type 0) (Q : A → List T → Type 0) (us : List T) → P us → ((v : T) (vs : List T) → P (v ∷ vs) → test v ≡ true → Meets Q (p vs)) → Meets Q (expect test p us)
  meets_expect test p P Q [] h m = tt
  meets_expect test p P Q (v ∷ vs) h m = by (test v) refl
    where
      by : (b : Bool) → test v ≡ b → Meets Q (taken (when b p) v vs)
      by true is = m v vs h is
      by false is = tt

  -- items, each with its first token
  module _ (s : Signs T) {A L : Type 0} (l : Lister T A L) (local : (t : T) → IsLocalTurn s (l.turn t)) (Rel : List T → L → List T → Type 0)
      (at_end : Rel [] l.none [])
      (stop : (t : T) (ts : List T) → l.turn t ≡ None → Rel (t ∷ ts) l.none (t ∷ ts))
      (go : (t : T) (p : Reader T A) → l.turn t ≡ Some p → (ts : List T) → Meets (λ a us. (others : L) (rest : List T) → Rel us others rest → Rel (t ∷ ts) (l.more a others) rest) (p ts)) where
    module _ (n : ℕ) (others : (ts : List T) → length ts ≤ n → Meets (Rel ts) (many l ts)) where
      item_meets : (t : T) (ts : List T) (o : Outcome T A) → length (rest_of o) ≤ n → Meets (λ a us. (others : L) (rest : List T) → Rel us others rest → Rel (t ∷ ts) (l.more a others) rest) o → Meets (Rel (t ∷ ts)) (and_then o (λ a. many l >>= λ rest. give (l.more a rest)))
      item_meets t ts (Stopped r rest) h m = tt
      item_meets t ts (Read a us) h m = meets_bind (Rel us) (Rel (t ∷ ts)) (many l us) (λ rest. give (l.more a rest)) (others us h) (λ ls rest k. m ls rest k)

      turn_meets : (t : T) (o : Option (Reader T A)) → l.turn t ≡ o → IsLocalTurn s o → (ts : List T) → length ts ≤ n → Meets (Rel (t ∷ ts)) (looped l (many l) o t ts)
      turn_meets t None is lo ts h = stop t ts is
      turn_meets t (Some p) is lo ts h = let k = shorter s p ts (p ts) (lo ts) in item_meets t ts (p ts) (omega arith) (go t p is ts)

    many_meets : (n : ℕ) (ts : List T) → length ts ≤ n → Meets (Rel ts) (many l ts)
    many_meets n [] h = subst (Meets (Rel [])) (sym (many_none s l local)) at_end
    many_meets zero (t ∷ ts) h = absurd (omega arith)
    many_meets (suc n) (t ∷ ts) h = subst (Meets (Rel (t ∷ ts))) (sym (many_again s l local t ts)) (turn_meets n (many_meets n) t (l.turn t) refl (local t) ts (omega arith))

    pub meets-many : (ts : List T) → Meets (Rel ts) (many l ts)
    meets-many ts = many_meets (length ts) ts (omega arith)

  -- the other way
  pub expect_is : {A : Type 0} (test : T → Bool) (p : Reader T A) (v : T) (ts : List T) → test v ≡ true → expect test p (v ∷ ts) ≡ p ts
  expect_is test p v ts fits = λ i. taken (when (fits i) p) v ts

  pub passes_by : {A B : Type 0} (p : Reader T A) (f : A → Reader T B) (ts us : List T) (a : A) → p ts ≡ Read a us → (p >>= f) ts ≡ f a us
  passes_by p f ts us a h = ap (λ q. and_then q f) h

  pub taken_by : {A : Type 0} (f : Turn T A) (p : Reader T A) (t : T) (ts : List T) → f t ≡ Some p → take_by f (t ∷ ts) ≡ p ts
  taken_by f p t ts h = λ k. taken (h k) t ts

  pub tried_by : {A : Type 0} (f : Turn T A) (a : A) (p : Reader T A) (t : T) (ts : List T) → f t ≡ Some p → if_next f a (t ∷ ts) ≡ p ts
  tried_by f a p t ts h = λ k. tried (h k) a t ts

  pub not_tried : {A : Type 0} (f : Turn T A) (a : A) (t : T) (ts : List T) → f t ≡ None → if_next f a (t ∷ ts) ≡ Read a (t ∷ ts)
  not_tried f a t ts h = λ k. tried (h k) a t ts

  pub chosen_by : {A : Type 0} (f : Turn T A) (q p : Reader T A) (t : T) (ts : List T) → f t ≡ Some p → or_else f q (t ∷ ts) ≡ p ts
  chosen_by f q p t ts h = λ k. chosen (h k) q t ts

  pub not_chosen : {A : Type 0} (f : Turn T A) (q : Reader T A) (t : T) (ts : List T) → f t ≡ None → or_else f q (t ∷ ts) ≡ q (t ∷ ts)
  not_chosen f q t ts h = λ k. chosen (h k) q t ts

  module _ (s : Signs T) {A L : Type 0} (l : Lister T A L) (local : (t : T) → IsLocalTurn s (l.turn t)) where
    pub many_stop : (t : T) (ts : List T) → l.turn t ≡ None → many l (t ∷ ts) ≡ Read l.none (t ∷ ts)
    many_stop t ts h = many_again s l local t ts ∙ (λ k. looped l (many l) (h k) t ts)

    pub many_go : (t : T) (p : Reader T A) (ts us rest : List T) (a : A) (others : L) → l.turn t ≡ Some p → p ts ≡ Read a us → many l us ≡ Read others rest → many l (t ∷ ts) ≡ Read (l.more a others) rest
    many_go t p ts us rest a others is h k =
        many_again s l local t ts
        ∙ (λ i. looped l (many l) (is i) t ts)
        ∙ ap (λ q. and_then q (λ a. many l >>= λ rest. give (l.more a rest))) h
        ∙ ap (λ q. and_then q (λ others. give (l.more a others))) k
