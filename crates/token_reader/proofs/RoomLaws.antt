-- More room changes no outcome but that of a level too deep, which one level more completes.
use Rattle.std.proofs.Common.{◌≡◌, ℕ, zero, suc, ◌≤◌, Bool, true, false, List, [], ◌∷◌, ◌++◌, length, Option, Some, None, refl, sym, ap, subst, ◌∙◌, arith}
use Rattle.std.proofs.lemmas.Option.{same_Some}
use Rattle.token_reader.specs.inner.Reader.{Signs, Unexpected, TooDeep, Outcome, Read, Stopped, Reader, Turn, Lister, give, refuse, and_then, ◌>>=◌, when, taken, take_by, tried, if_next, chosen, or_else, noted, alone, looped, loop, many, head, rest_of}
use Rattle.token_reader.proofs.LocalLaws.{IsEnd, Leads, IsLocal, IsLocalTurn, Declines, shorter}
use Rattle.token_reader.proofs.ManyLaws.{many_again, many_none, many_end}
use Rattle.token_reader.proofs.ViableLaws.{Completion, Goes, Completes, CompletesAll, goes_alone, second_goes_on, first_viable, goes_on}

module _ {T : Type 0} where
  abbrev pub RisesTo : {A : Type 0} → Outcome T A → Outcome T A → Type 0
  RisesTo (Read a rest) o = o ≡ Read a rest
  RisesTo (Stopped Unexpected rest) o = o ≡ Stopped Unexpected rest
  RisesTo (Stopped TooDeep rest) o = Unit {0}

  abbrev pub IsBelow : {A : Type 0} → Reader T A → Reader T A → Type 0
  IsBelow p q = (ts : List T) → RisesTo (p ts) (q ts)

  abbrev pub IsTurnBelow : {A : Type 0} → Option (Reader T A) → Option (Reader T A) → Type 0
  IsTurnBelow (Some p) (Some q) = IsBelow p q
  IsTurnBelow (Some p) None = ⊥
  IsTurnBelow None (Some q) = ⊥
  IsTurnBelow None None = Unit {0}

  pub rises_same : {A : Type 0} (o : Outcome T A) → RisesTo o o
  rises_same (Read a rest) = refl
  rises_same (Stopped Unexpected rest) = refl
  rises_same (Stopped TooDeep rest) = tt

  pub rises_on : {A : Type 0} (o p q : Outcome T A) → RisesTo o p → RisesTo p q → RisesTo o q
  rises_on (Read a rest) p q h k = subst (λ x. RisesTo x q) h k
  rises_on (Stopped Unexpected rest) p q h k = subst (λ x. RisesTo x q) h k
  rises_on (Stopped TooDeep rest) p q h k = tt

  pub rises_bind : {A B : Type 0} (f g : A → Reader T B) → ((a : A) → IsBelow (f a) (g a)) → (o p : Outcome T A) → RisesTo o p → RisesTo (and_then o f) (and_then p g)
  rises_bind f g fg (Read a rest) p h = subst (λ x. RisesTo (f a rest) (and_then x g)) (sym h) (fg a rest)
  rises_bind f g fg (Stopped Unexpected rest) p h = ap (λ x. and_then x g) h
  rises_bind f g fg (Stopped TooDeep rest) p h = tt

  pub below-bind : {A B : Type 0} (p q : Reader T A) (f g : A → Reader T B) → IsBelow p q → ((a : A) → IsBelow (f a) (g a)) → IsBelow (p >>= f) (q >>= g)
  below-bind p q f g pq fg ts = rises_bind f g fg (p ts) (q ts) (pq ts)

  pub below_same : {A : Type 0} (p : Reader T A) → IsBelow p p
  below_same p ts = rises_same (p ts)

  module _ {A : Type 0} (f g : Turn T A) (fg : (t : T) → IsTurnBelow (f t) (g t)) where
    taken_rises : (o p : Option (Reader T A)) → IsTurnBelow o p → (t : T) (ts : List T) → RisesTo (taken o t ts) (taken p t ts)
    taken_rises (Some p) (Some q) h t ts = h ts
    taken_rises (Some p) None h t ts = absurd h
    taken_rises None (Some q) h t ts = absurd h
    taken_rises None None h t ts = refl

    pub below-take_by : IsBelow (take_by f) (take_by g)
    below-take_by [] = refl
    below-take_by (t ∷ ts) = taken_rises (f t) (g t) (fg t) t ts

    tried_rises : (a : A) (o p : Option (Reader T A)) → IsTurnBelow o p → (t : T) (ts : List T) → RisesTo (tried o a t ts) (tried p a t ts)
    tried_rises a (Some p) (Some q) h t ts = h ts
    tried_rises a (Some p) None h t ts = absurd h
    tried_rises a None (Some q) h t ts = absurd h
    tried_rises a None None h t ts = refl

    pub below-if_next : (a : A) → IsBelow (if_next f a) (if_next g a)
    below-if_next a [] = refl
    below-if_next a (t ∷ ts) = tried_rises a (f t) (g t) (fg t) t ts

    chosen_rises : (r s : Reader T A) → IsBelow r s → (o p : Option (Reader T A)) → IsTurnBelow o p → (t : T) (ts : List T) → RisesTo (chosen o r t ts) (chosen p s t ts)
    chosen_rises r s rs (Some p) (Some q) h t ts = h ts
    chosen_rises r s rs (Some p) None h t ts = absurd h
    chosen_rises r s rs None (Some q) h t ts = absurd h
    chosen_rises r s rs None None h t ts = rs (t ∷ ts)

    pub below-or_else : (r s : Reader T A) → IsBelow r s → IsBelow (or_else f r) (or_else g s)
    below-or_else r s rs [] = rs []
    below-or_else r s rs (t ∷ ts) = chosen_rises r s rs (f t) (g t) (fg t) t ts

    module _ {L : Type 0} (none : L) (more : A → L → L) where
      abbrev lister : Turn T A → Lister T A L
      lister turn = record { turn = turn; none = none; more = more }

      looped_rises : (u v : Reader T L) → IsBelow u v → (o p : Option (Reader T A)) → IsTurnBelow o p → (t : T) (ts : List T) → RisesTo (looped (lister f) u o t ts) (looped (lister g) v p t ts)
      looped_rises u v uv (Some p) (Some q) h t ts = rises_bind (λ a. u >>= λ rest. give (more a rest)) (λ a. v >>= λ rest. give (more a rest)) (λ a. below-bind u v (λ rest. give (more a rest)) (λ rest. give (more a rest)) uv (λ rest. below_same (give (more a rest)))) (p ts) (q ts) (h ts)
      looped_rises u v uv (Some p) None h t ts = absurd h
      looped_rises u v uv None (Some q) h t ts = absurd h
      looped_rises u v uv None None h t ts = refl

      loop_rises : (n : ℕ) → IsBelow (loop (lister f) n) (loop (lister g) n)
      unfolding loop
      loop_rises zero ts = refl
      loop_rises (suc n) [] = refl
      loop_rises (suc n) (t ∷ ts) = looped_rises (loop (lister f) n) (loop (lister g) n) (loop_rises n) (f t) (g t) (fg t) t ts

      pub below-many : IsBelow (many (lister f)) (many (lister g))
      unfolding many
      below-many ts = loop_rises (length ts) ts

  pub when_below : {A : Type 0} (p q : Reader T A) → IsBelow p q → (b : Bool) → IsTurnBelow (when b p) (when b q)
  when_below p q pq true = pq
  when_below p q pq false = tt

  alone_rises : {A : Type 0} (n : ℕ) (o p : Outcome T A) → RisesTo o p → RisesTo (noted n o) (noted n p)
  alone_rises n (Read a rest) p h = ap (noted n) h
  alone_rises n (Stopped Unexpected rest) p h = ap (noted n) h
  alone_rises n (Stopped TooDeep rest) p h = tt

  pub below-alone : {A : Type 0} (p q : Reader T A) → IsBelow p q → IsBelow (alone p) (alone q)
  below-alone p q pq ts = alone_rises (length ts) (p ts) (q ts) (pq ts)

module _ {T : Type 0} (s : Signs T) where
  -- where p stops, q can be completed; at a level too deep after the token that opens it
  abbrev pub DeepAt : {A : Type 0} → Reader T A → List T → Outcome T A → Type 0
  DeepAt q ts (Read a rest) = Unit {0}
  DeepAt q ts (Stopped r rest) = Goes s q ts rest

  abbrev pub Deepens : {A : Type 0} → Reader T A → Reader T A → Type 0
  Deepens p q = (ts : List T) → DeepAt q ts (p ts)

  abbrev pub TurnDeepens : {A : Type 0} → Option (Reader T A) → Option (Reader T A) → Type 0
  TurnDeepens (Some p) (Some q) = Deepens p q
  TurnDeepens (Some p) None = ⊥
  TurnDeepens None (Some q) = ⊥
  TurnDeepens None None = Unit {0}

  pub deepens-give : {A : Type 0} (a : A) → Deepens (give a) (give a)
  deepens-give a ts = tt

  pub deepens-refuse : {A : Type 0} (q : Reader T A) → Completes s q → Deepens (refuse TooDeep) q
  deepens-refuse q c ts = record { front = []; whole = refl; goes = c }

  module _ {A B : Type 0} (p q : Reader T A) (f g : A → Reader T B) (completes : CompletesAll s g) where
    second_deep : (ts : List T) (a : A) (rest : List T) (o : Outcome T B) → Leads s q ts (Read a rest) → DeepAt (g a) rest o → DeepAt (q >>= g) ts o
    second_deep ts a rest (Read b left) l d = tt
    second_deep ts a rest (Stopped r left) l d = second_goes_on s q g completes ts a rest left l d

    bind_deep : IsLocal s q → ((a : A) → Deepens (f a) (g a)) → (ts : List T) (o : Outcome T A) → RisesTo o (q ts) → DeepAt q ts o → DeepAt (q >>= g) ts (and_then o f)
    bind_deep lq fg ts (Read a rest) up d = second_deep ts a rest (f a rest) (subst (Leads s q ts) up (lq ts)) (fg a rest)
    bind_deep lq fg ts (Stopped r rest) up d = first_viable s q g completes ts rest d

    pub deepens-bind : IsLocal s q → IsBelow p q → Deepens p q → ((a : A) → Deepens (f a) (g a)) → Deepens (p >>= f) (q >>= g)
    deepens-bind lq up pq fg ts = bind_deep lq fg ts (p ts) (up ts) (pq ts)

  deep_after : {A : Type 0} (p q : Reader T A) (t : T) → ((ts : List T) → q (t ∷ ts) ≡ p ts) → (ts : List T) (o : Outcome T A) → DeepAt p ts o → DeepAt q (t ∷ ts) o
  deep_after p q t is ts (Read a rest) d = tt
  deep_after p q t is ts (Stopped r rest) d = goes_on s p q t is ts rest d

  module _ {A : Type 0} (f g : Turn T A) (fg : (t : T) → TurnDeepens (f t) (g t)) where
    module _ (completes : Completes s (take_by g)) where
      taken_deep : (t : T) (o p : Option (Reader T A)) → g t ≡ p → TurnDeepens o p → (ts : List T) → DeepAt (take_by g) (t ∷ ts) (taken o t ts)
      taken_deep t (Some p) (Some q) is d ts = deep_after q (take_by g) t (λ us. ap (λ o. taken o t us) is) ts (p ts) (d ts)
      taken_deep t (Some p) None is d ts = absurd d
      taken_deep t None (Some q) is d ts = absurd d
      taken_deep t None None is d ts = record { front = []; whole = refl; goes = completes }

      pub deepens-take_by : Deepens (take_by f) (take_by g)
      deepens-take_by [] = record { front = []; whole = refl; goes = completes }
      deepens-take_by (t ∷ ts) = taken_deep t (f t) (g t) refl (fg t) ts

    tried_deep : (a : A) (t : T) (o p : Option (Reader T A)) → g t ≡ p → TurnDeepens o p → (ts : List T) → DeepAt (if_next g a) (t ∷ ts) (tried o a t ts)
    tried_deep a t (Some p) (Some q) is d ts = deep_after q (if_next g a) t (λ us. ap (λ o. tried o a t us) is) ts (p ts) (d ts)
    tried_deep a t (Some p) None is d ts = absurd d
    tried_deep a t None (Some q) is d ts = absurd d
    tried_deep a t None None is d ts = tt

    pub deepens-if_next : (a : A) → Deepens (if_next f a) (if_next g a)
    deepens-if_next a [] = tt
    deepens-if_next a (t ∷ ts) = tried_deep a t (f t) (g t) refl (fg t) ts

    module _ (r q : Reader T A) (rq : Deepens r q) (completes : Completes s (or_else g q)) where
      other_deep_goes : (us rest : List T) → ((vs : List T) → head vs ≡ head us → or_else g q vs ≡ q vs) → Goes s q us rest → Goes s (or_else g q) us rest
      other_deep_goes us rest passes v = record { front = v.front; whole = v.whole; goes = go v.front v.whole v.goes }
        where
          go : (front : List T) → us ≡ front ++ rest → ((e : List T) → IsEnd s e → Completion s q front e) → (e : List T) → IsEnd s e → Completion s (or_else g q) front e
          go [] whole goes e h = completes e h
          go (x ∷ front) whole goes e h = let c = goes e h in (c.0, c.1, passes ((x ∷ front) ++ (c.0 ++ e)) (sym (ap head whole)) ∙ c.2)

      other_deep : (us : List T) (o : Outcome T A) → ((vs : List T) → head vs ≡ head us → or_else g q vs ≡ q vs) → DeepAt q us o → DeepAt (or_else g q) us o
      other_deep us (Read a rest) passes d = tt
      other_deep us (Stopped why rest) passes d = other_deep_goes us rest passes d

      chosen_deep : (t : T) (o p : Option (Reader T A)) → g t ≡ p → TurnDeepens o p → (ts : List T) → DeepAt (or_else g q) (t ∷ ts) (chosen o r t ts)
      chosen_deep t (Some p) (Some w) is d ts = deep_after w (or_else g q) t (λ us. ap (λ o. chosen o q t us) is) ts (p ts) (d ts)
      chosen_deep t (Some p) None is d ts = absurd d
      chosen_deep t None (Some w) is d ts = absurd d
      chosen_deep t None None is d ts = other_deep (t ∷ ts) (r (t ∷ ts)) passes (rq (t ∷ ts))
        where
          passes : (vs : List T) → head vs ≡ Some t → or_else g q vs ≡ q vs
          passes [] h = cc
          passes (x ∷ xs) h = λ k. chosen ((ap g (same_Some x t h) ∙ is) k) q x xs

      pub deepens-or_else : Deepens (or_else f r) (or_else g q)
      deepens-or_else [] = other_deep [] (r []) passes (rq [])
        where
          passes : (vs : List T) → head vs ≡ None → or_else g q vs ≡ q vs
          passes [] h = refl
          passes (x ∷ xs) h = cc
      deepens-or_else (t ∷ ts) = chosen_deep t (f t) (g t) refl (fg t) ts

  pub deepens_when : {A : Type 0} (p q : Reader T A) → Deepens p q → (b : Bool) → TurnDeepens (when b p) (when b q)
  deepens_when p q pq true = pq
  deepens_when p q pq false = tt

  alone_deep : {A : Type 0} (q : Reader T A) (ts : List T) (n : ℕ) (o : Outcome T A) → DeepAt q ts o → DeepAt (alone q) ts (noted n o)
  alone_deep q ts n (Read a rest) d = tt
  alone_deep q ts n (Stopped r rest) d = goes_alone s q ts rest d

  pub deepens-alone : {A : Type 0} (p q : Reader T A) → Deepens p q → Deepens (alone p) (alone q)
  deepens-alone p q pq ts = alone_deep q ts (length ts) (p ts) (pq ts)

  -- items, one turn after the other
  module _ {A L : Type 0} (l m : Lister T A L) (local_l : (t : T) → IsLocalTurn s (l.turn t)) (local : (t : T) → IsLocalTurn s (m.turn t)) (declines : Declines s m.turn)
      (same : (a : A) (us : L) → l.more a us ≡ m.more a us) (up : (t : T) → IsTurnBelow (l.turn t) (m.turn t)) (fg : (t : T) → TurnDeepens (l.turn t) (m.turn t)) where
    abbrev before : A → Reader T L
    before a = many l >>= λ others. give (l.more a others)

    abbrev after : A → Reader T L
    after a = many m >>= λ others. give (m.more a others)

    after_completes : CompletesAll s after
    after_completes r h = ([], h, λ a. (m.more a m.none, ap (λ q. and_then q (λ others. give (m.more a others))) (many_end s m local declines r h)))

    after_deep : (a : A) (rest : List T) (o : Outcome T L) → DeepAt (many m) rest o → DeepAt (after a) rest (and_then o (λ others. give (l.more a others)))
    after_deep a rest (Read us left) d = tt
    after_deep a rest (Stopped r left) d = first_viable s (many m) (λ others. give (m.more a others)) (λ r h. ([], h, λ us. (m.more a us, refl))) rest left d

    item_deep : (n : ℕ) → ((ts : List T) → length ts ≤ n → DeepAt (many m) ts (many l ts)) → (q : Reader T A) → IsLocal s q → (ts : List T) → length ts ≤ n → (o : Outcome T A) → length (rest_of o) ≤ length ts → RisesTo o (q ts) → DeepAt q ts o → DeepAt (q >>= after) ts (and_then o before)
    item_deep n others q lq ts h (Read a rest) short up d = second_deep q q after after after_completes ts a rest (before a rest) (subst (Leads s q ts) up (lq ts)) (after_deep a rest (many l rest) (others rest (omega arith)))
    item_deep n others q lq ts h (Stopped r rest) short up d = first_viable s q after after_completes ts rest d

    turn_deep : (n : ℕ) → ((ts : List T) → length ts ≤ n → DeepAt (many m) ts (many l ts)) → (t : T) (o p : Option (Reader T A)) → m.turn t ≡ p → IsLocalTurn s o → IsLocalTurn s p → IsTurnBelow o p → TurnDeepens o p → (ts : List T) → length ts ≤ n → DeepAt (many m) (t ∷ ts) (looped l (many l) o t ts)
    turn_deep n others t (Some p) (Some q) is lp lq up d ts h = deep_after (q >>= after) (many m) t (λ us. many_again s m local t us ∙ ap (λ o. looped m (many m) o t us) is) ts (and_then (p ts) before) (item_deep n others q lq ts h (p ts) (shorter s p ts (p ts) (lp ts)) (up ts) (d ts))
    turn_deep n others t (Some p) None is lp lq up d ts h = absurd d
    turn_deep n others t None (Some q) is lp lq up d ts h = absurd d
    turn_deep n others t None None is lp lq up d ts h = tt

    many_deep : (n : ℕ) (ts : List T) → length ts ≤ n → DeepAt (many m) ts (many l ts)
    many_deep n [] h = subst (DeepAt (many m) []) (sym (many_none s l local_l)) tt
    many_deep zero (t ∷ ts) h = absurd (omega arith)
    many_deep (suc n) (t ∷ ts) h = subst (DeepAt (many m) (t ∷ ts)) (sym (many_again s l local_l t ts)) (turn_deep n (many_deep n) t (l.turn t) (m.turn t) refl (local_l t) (local t) (up t) (fg t) ts (omega arith))

    pub deepens-many : Deepens (many l) (many m)
    deepens-many ts = many_deep (length ts) ts (omega arith)
