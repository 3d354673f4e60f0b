-- A reader looks at one token beyond what it passes. After what it read the next token may also be changed to one that
-- ends each construct: no reader goes on at such a token.
use Rattle.std.proofs.Common.{◌≡◌, ◌+◌, ◌==◌, ◌<◌, ◌≤◌, Bool, true, false, List, [], ◌∷◌, ◌++◌, length, Option, Some, None, refl, sym, ap, ◌∙◌, inl, inr, arith, append_assoc, length-append}
use Rattle.std.specs.Prelude.{◌⊎◌, IsTrue}
use Rattle.std.proofs.lemmas.Option.{same_Some}
use Rattle.token_reader.specs.inner.Reader.{Signs, Refusal, Unexpected, TooDeep, Outcome, Read, Stopped, Reader, Turn, give, refuse, and_then, ◌>>=◌, when, taken, take_by, expect, tried, if_next, chosen, or_else, noted, alone, head, rest_of, with_rest}

module _ {T : Type 0} (s : Signs T) where
  abbrev pub IsEnd : List T → Type 0
  IsEnd [] = Unit {0}
  IsEnd (t ∷ ts) = IsTrue (s.ends t)

  abbrev pub is_calm : List T → Bool
  is_calm [] = false
  is_calm (t ∷ ts) = s.calms t

  -- a reader that stops at a level too deep has passed a token
  abbrev pub CarefulAt : {A : Type 0} → List T → Outcome T A → Type 0
  CarefulAt ts (Read a rest) = Unit {0}
  CarefulAt ts (Stopped Unexpected rest) = Unit {0}
  CarefulAt ts (Stopped TooDeep rest) = length rest < length ts

  abbrev pub IsCareful : {A : Type 0} → Reader T A → Type 0
  IsCareful p = (ts : List T) → CarefulAt ts (p ts)

  abbrev pub FollowsStop : Refusal → List T → List T → Type 0
  FollowsStop Unexpected rest more = head more ≡ head rest
  FollowsStop TooDeep rest more = is_calm more ≡ is_calm rest

  abbrev pub Follows : {A : Type 0} → Outcome T A → List T → Type 0
  Follows (Read a rest) more = (head more ≡ head rest) ⊎ IsEnd more
  Follows (Stopped r rest) more = FollowsStop r rest more

  -- the outcome depends on the tokens passed and on the next one alone
  pub record Leads {A : Type 0} (p : Reader T A) (ts : List T) (o : Outcome T A) : Type 0 where
    pub front : List T
    pub whole : ts ≡ front ++ rest_of o
    pub again : (more : List T) → Follows o more → p (front ++ more) ≡ with_rest more o

  abbrev pub IsLocal : {A : Type 0} → Reader T A → Type 0
  IsLocal p = (ts : List T) → Leads p ts (p ts)

  abbrev pub IsLocalTurn : {A : Type 0} → Option (Reader T A) → Type 0
  IsLocalTurn (Some p) = IsLocal p
  IsLocalTurn None = Unit {0}

  pub local-give : {A : Type 0} (a : A) → IsLocal (give a)
  local-give a ts = record { front = []; whole = refl; again = λ more h. refl }

  pub local-refuse : {A : Type 0} (r : Refusal) → IsLocal (refuse {A = A} r)
  local-refuse r ts = record { front = []; whole = refl; again = λ more h. refl }

  module _ {A B : Type 0} (p : Reader T A) (f : A → Reader T B) where
    pub follows_front : (a : A) (rest front more : List T) (o : Outcome T B) → CarefulAt rest o → rest ≡ front ++ rest_of o → Follows o more → (head (front ++ more) ≡ head rest) ⊎ IsEnd (front ++ more)
    follows_front a rest [] more (Read b rest2) c whole (inl h) = inl (h ∙ ap head (sym whole))
    follows_front a rest [] more (Read b rest2) c whole (inr h) = inr h
    follows_front a rest (x ∷ front) more (Read b rest2) c whole h = inl (ap head (sym whole))
    follows_front a rest [] more (Stopped Unexpected rest2) c whole h = inl (h ∙ ap head (sym whole))
    follows_front a rest [] more (Stopped TooDeep rest2) c whole h = absurd (omega (arith, ap length whole))
    follows_front a rest (x ∷ front) more (Stopped r rest2) c whole h = inl (ap head (sym whole))

    second_leads : (ts : List T) (a : A) (rest : List T) (o : Outcome T B) → CarefulAt rest o → Leads p ts (Read a rest) → Leads (f a) rest o → Leads (p >>= f) ts o
    second_leads ts a rest o c first second = record {
      front = first.front ++ second.front;
      whole = first.whole ∙ ap (λ l. first.front ++ l) second.whole ∙ sym (append_assoc first.front second.front (rest_of o));
      again = λ more h.
          ap (p >>= f) (append_assoc first.front second.front more)
          ∙ ap (λ q. and_then q f) (first.again (second.front ++ more) (follows_front a rest second.front more o c second.whole h))
          ∙ second.again more h;
    }

    bind_leads : ((a : A) → IsCareful (f a)) → ((a : A) → IsLocal (f a)) → (ts : List T) (o : Outcome T A) → Leads p ts o → Leads (p >>= f) ts (and_then o f)
    bind_leads cf local ts (Read a rest) first = second_leads ts a rest (f a rest) (cf a rest) first (local a rest)
    bind_leads cf local ts (Stopped r rest) first = record {
      front = first.front;
      whole = first.whole;
      again = λ more h. ap (λ q. and_then q f) (first.again more h);
    }

    pub local-bind : IsLocal p → ((a : A) → IsCareful (f a)) → ((a : A) → IsLocal (f a)) → IsLocal (p >>= f)
    local-bind lp cf lf ts = bind_leads cf lf ts (p ts) (lp ts)

  module _ {A : Type 0} (f : Turn T A) where
    taken_leads : (t : T) (o : Option (Reader T A)) → f t ≡ o → IsLocalTurn o → (ts : List T) → Leads (take_by f) (t ∷ ts) (taken o t ts)
    taken_leads t (Some p) is local ts = let l = local ts in record {
      front = t ∷ l.front;
      whole = ap (λ r. t ∷ r) l.whole;
      again = λ more h. (λ k. taken (is k) t (l.front ++ more)) ∙ l.again more h;
    }
    taken_leads t None is local ts = record { front = []; whole = refl; again = stops }
      where
        stops : (more : List T) → head more ≡ Some t → take_by f more ≡ Stopped Unexpected more
        stops [] h = cc
        stops (x ∷ xs) h = λ k. taken ((ap f (same_Some x t h) ∙ is) k) x xs

    pub local-take_by : ((t : T) → IsLocalTurn (f t)) → IsLocal (take_by f)
    local-take_by local [] = record { front = []; whole = refl; again = stops }
      where
        stops : (more : List T) → head more ≡ None → take_by f more ≡ Stopped Unexpected more
        stops [] h = refl
        stops (x ∷ xs) h = cc
    local-take_by local (t ∷ ts) = taken_leads t (f t) refl (local t) ts

    -- it goes on at no token that ends what is read
    abbrev pub Declines : Type 0
    Declines = (t : T) → IsTrue (s.ends t) → f t ≡ None

    module _ (declines : Declines) (a : A) where
      tried_leads : (t : T) (o : Option (Reader T A)) → f t ≡ o → IsLocalTurn o → (ts : List T) → Leads (if_next f a) (t ∷ ts) (tried o a t ts)
      tried_leads t (Some p) is local ts = let l = local ts in record {
        front = t ∷ l.front;
        whole = ap (λ r. t ∷ r) l.whole;
        again = λ more h. (λ k. tried (is k) a t (l.front ++ more)) ∙ l.again more h;
      }
      tried_leads t None is local ts = record { front = []; whole = refl; again = stops }
        where
          stops : (more : List T) → (head more ≡ Some t) ⊎ IsEnd more → if_next f a more ≡ Read a more
          stops [] h = refl
          stops (x ∷ xs) (inl h) = λ k. tried ((ap f (same_Some x t h) ∙ is) k) a x xs
          stops (x ∷ xs) (inr h) = λ k. tried (declines x h k) a x xs

      pub local-if_next : ((t : T) → IsLocalTurn (f t)) → IsLocal (if_next f a)
      local-if_next local [] = record { front = []; whole = refl; again = stops }
        where
          stops : (more : List T) → (head more ≡ None) ⊎ IsEnd more → if_next f a more ≡ Read a more
          stops [] h = refl
          stops (x ∷ xs) (inl h) = cc
          stops (x ∷ xs) (inr h) = λ k. tried (declines x h k) a x xs
      local-if_next local (t ∷ ts) = tried_leads t (f t) refl (local t) ts

  pub local_when : {A : Type 0} (p : Reader T A) → IsLocal p → (b : Bool) → IsLocalTurn (when b p)
  local_when p lp true = lp
  local_when p lp false = tt

  pub declines_when : {A : Type 0} (test : T → Bool) (p : Reader T A) → ((t : T) → IsTrue (s.ends t) → test t ≡ false) → Declines (λ t. when (test t) p)
  declines_when test p h t e = λ k. when (h t e k) p

  pub shorter : {A : Type 0} (p : Reader T A) (ts : List T) (o : Outcome T A) → Leads p ts o → length (rest_of o) ≤ length ts
  shorter p ts o l = omega (arith, ap length l.whole, length-append l.front (rest_of o))

  -- what it reads has at least one token
  abbrev pub EagerAt : {A : Type 0} → List T → Outcome T A → Type 0
  EagerAt ts (Read a rest) = length rest < length ts
  EagerAt ts (Stopped r rest) = Unit {0}

  abbrev pub IsEager : {A : Type 0} → Reader T A → Type 0
  IsEager p = (ts : List T) → EagerAt ts (p ts)

  eager_after : {A : Type 0} (t : T) (ts : List T) (o : Outcome T A) → length (rest_of o) ≤ length ts → EagerAt (t ∷ ts) o
  eager_after t ts (Read a rest) h = omega arith
  eager_after t ts (Stopped r rest) h = tt

  pub eager-refuse : (A : Type 0) (r : Refusal) → IsEager (refuse {A = A} r)
  eager-refuse A r ts = tt

  module _ {A B : Type 0} (p : Reader T A) (f : A → Reader T B) where
    later_eager : (ts us : List T) (o : Outcome T B) → length us < length ts → length (rest_of o) ≤ length us → EagerAt ts o
    later_eager ts us (Read b rest) h k = omega arith
    later_eager ts us (Stopped r rest) h k = tt

    bind_eager : ((a : A) → IsLocal (f a)) → (ts : List T) (o : Outcome T A) → EagerAt ts o → EagerAt ts (and_then o f)
    bind_eager lf ts (Read a rest) h = later_eager ts rest (f a rest) h (shorter (f a) rest (f a rest) (lf a rest))
    bind_eager lf ts (Stopped r rest) h = tt

    pub eager-bind : IsEager p → ((a : A) → IsLocal (f a)) → IsEager (p >>= f)
    eager-bind ep lf ts = bind_eager lf ts (p ts) (ep ts)

  module _ {A : Type 0} (f : Turn T A) (local : (t : T) → IsLocalTurn (f t)) where
    taken_eager : (t : T) (o : Option (Reader T A)) → IsLocalTurn o → (ts : List T) → EagerAt (t ∷ ts) (taken o t ts)
    taken_eager t (Some p) lo ts = eager_after t ts (p ts) (shorter p ts (p ts) (lo ts))
    taken_eager t None lo ts = tt

    pub eager-take_by : IsEager (take_by f)
    eager-take_by [] = tt
    eager-take_by (t ∷ ts) = taken_eager t (f t) (local t) ts

    module _ (q : Reader T A) (eager : IsEager q) where
      chosen_eager : (t : T) (o : Option (Reader T A)) → IsLocalTurn o → (ts : List T) → EagerAt (t ∷ ts) (chosen o q t ts)
      chosen_eager t (Some p) lo ts = eager_after t ts (p ts) (shorter p ts (p ts) (lo ts))
      chosen_eager t None lo ts = eager (t ∷ ts)

      pub eager-or_else : IsEager (or_else f q)
      eager-or_else [] = eager []
      eager-or_else (t ∷ ts) = chosen_eager t (f t) (local t) ts

  -- when something else is read in place of a token, at the tokens that are left the token does not come either
  pub data Stays {A : Type 0} (f : Turn T A) (q : Reader T A) : Type 0 where
    -- what is read has a token
    eagerly : IsEager q → IsCareful q → Stays f q
    -- the token ends nothing
    declining : Declines f → IsCareful q → Stays f q
    -- the token is one that tells that no level is opened, and no other
    calmly : Declines f → ((t : T) → s.calms t ≡ false → f t ≡ None) → ((t : T) → f t ≡ None → s.calms t ≡ false) → Stays f q

  module _ {A : Type 0} (f : Turn T A) (q : Reader T A) (lq : IsLocal q) (stays : Stays f q) where
    -- that it stays so at tokens that may follow
    passes_on : (us : List T) → or_else f q us ≡ q us → ((t : T) (ts : List T) → us ≡ t ∷ ts → f t ≡ None) → (more : List T) → head more ≡ head us → or_else f q more ≡ q more
    passes_on us here none [] h = refl
    passes_on [] here none (x ∷ xs) h = cc
    passes_on (t ∷ ts) here none (x ∷ xs) h = λ k. chosen ((ap f (same_Some x t h) ∙ none t ts refl) k) q x xs

    ending : Declines f → (more : List T) → IsEnd more → or_else f q more ≡ q more
    ending declines [] h = refl
    ending declines (x ∷ xs) h = λ k. chosen (declines x h k) q x xs

    calm_before : ((t : T) → f t ≡ None → s.calms t ≡ false) → (us : List T) → ((t : T) (ts : List T) → us ≡ t ∷ ts → f t ≡ None) → is_calm us ≡ false
    calm_before k [] none = refl
    calm_before k (t ∷ ts) none = k t (none t ts refl)

    calm_passes : ((t : T) → s.calms t ≡ false → f t ≡ None) → (more : List T) → is_calm more ≡ false → or_else f q more ≡ q more
    calm_passes k [] h = refl
    calm_passes k (x ∷ xs) h = λ i. chosen (k x h i) q x xs

    at_front : (us : List T) → ((t : T) (ts : List T) → us ≡ t ∷ ts → f t ≡ None) → or_else f q us ≡ q us → (o : Outcome T A) → EagerAt us o ⊎ Declines f → CarefulAt us o ⊎ (((t : T) → s.calms t ≡ false → f t ≡ None) × ((t : T) → f t ≡ None → s.calms t ≡ false)) → us ≡ rest_of o → (more : List T) → Follows o more → or_else f q more ≡ q more
    at_front us none here (Read a rest) (inl e) c whole more h = absurd (omega (arith, ap length whole))
    at_front us none here (Read a rest) (inr d) c whole more (inl h) = passes_on us here none more (h ∙ ap head (sym whole))
    at_front us none here (Read a rest) (inr d) c whole more (inr h) = ending d more h
    at_front us none here (Stopped Unexpected rest) e c whole more h = passes_on us here none more (h ∙ ap head (sym whole))
    at_front us none here (Stopped TooDeep rest) e (inl c) whole more h = absurd (omega (arith, ap length whole))
    at_front us none here (Stopped TooDeep rest) e (inr c) whole more h = calm_passes c.0 more (h ∙ ap is_calm (sym whole) ∙ calm_before c.1 us none)

    first_ok : (us : List T) → Stays f q → EagerAt us (q us) ⊎ Declines f
    first_ok us (eagerly e c) = inl (e us)
    first_ok us (declining d c) = inr d
    first_ok us (calmly d a b) = inr d

    deep_ok : (us : List T) → Stays f q → CarefulAt us (q us) ⊎ (((t : T) → s.calms t ≡ false → f t ≡ None) × ((t : T) → f t ≡ None → s.calms t ≡ false))
    deep_ok us (eagerly e c) = inl (c us)
    deep_ok us (declining d c) = inl (c us)
    deep_ok us (calmly d a b) = inr (a, b)

    other_again : (us : List T) → ((t : T) (ts : List T) → us ≡ t ∷ ts → f t ≡ None) → or_else f q us ≡ q us → (o : Outcome T A) → EagerAt us o ⊎ Declines f → CarefulAt us o ⊎ (((t : T) → s.calms t ≡ false → f t ≡ None) × ((t : T) → f t ≡ None → s.calms t ≡ false)) → Leads q us o → Leads (or_else f q) us o
    other_again us none here o e c l = record { front = l.front; whole = l.whole; again = go l.front l.whole l.again }
      where
        go : (front : List T) → us ≡ front ++ rest_of o → ((more : List T) → Follows o more → q (front ++ more) ≡ with_rest more o) → (more : List T) → Follows o more → or_else f q (front ++ more) ≡ with_rest more o
        go (x ∷ front) whole again more h = passes_on us here none ((x ∷ front) ++ more) (sym (ap head whole)) ∙ again more h
        go [] whole again more h = at_front us none here o e c whole more h ∙ again more h

    first_token_is : (x t : T) (xs ts : List T) → t ∷ ts ≡ x ∷ xs → x ≡ t
    first_token_is x t xs ts e = same_Some x t (sym (ap head e))

    chosen_leads : (t : T) (o : Option (Reader T A)) → f t ≡ o → IsLocalTurn o → (ts : List T) → Leads (or_else f q) (t ∷ ts) (chosen o q t ts)
    chosen_leads t (Some p) is local ts = let l = local ts in record {
      front = t ∷ l.front;
      whole = ap (λ r. t ∷ r) l.whole;
      again = λ more h. (λ k. chosen (is k) q t (l.front ++ more)) ∙ l.again more h;
    }
    chosen_leads t None is local ts = other_again (t ∷ ts) (λ x xs e. ap f (first_token_is x t xs ts e) ∙ is) (λ k. chosen (is k) q t ts) (q (t ∷ ts)) (first_ok (t ∷ ts) stays) (deep_ok (t ∷ ts) stays) (lq (t ∷ ts))

    never : (x : T) (xs : List T) → [] ≡ x ∷ xs → f x ≡ None
    never x xs e = cc

    pub local-or_else : ((t : T) → IsLocalTurn (f t)) → IsLocal (or_else f q)
    local-or_else local [] = other_again [] never refl (q []) (first_ok [] stays) (deep_ok [] stays) (lq [])
    local-or_else local (t ∷ ts) = chosen_leads t (f t) refl (local t) ts

  -- whether one token alone was passed
  same_count : (front rest more : List T) → (length (front ++ more) == 1 + length more) ≡ (length (front ++ rest) == 1 + length rest)
  same_count [] rest more = grind (arith, length-append)
  same_count (x ∷ front) rest more = grind (arith, length-append)

  module _ {A : Type 0} (p : Reader T A) where
    alone_leads : (ts : List T) (o : Outcome T A) → Leads p ts o → Leads (alone p) ts (noted (length ts) o)
    alone_leads ts (Read a rest) l = record {
      front = l.front;
      whole = l.whole;
      again = λ more h. ap (λ o. noted (length (l.front ++ more)) o) (l.again more h) ∙ ap (λ b. Read (a, b) more) (same_count l.front rest more ∙ ap (λ us. length us == 1 + length rest) (sym l.whole));
    }
    alone_leads ts (Stopped r rest) l = record { front = l.front; whole = l.whole; again = λ more h. ap (λ o. noted (length (l.front ++ more)) o) (l.again more h) }

    pub local-alone : IsLocal p → IsLocal (alone p)
    local-alone lp ts = alone_leads ts (p ts) (lp ts)

  -- a token that has to come
  pub local-expect : {A : Type 0} (test : T → Bool) (p : Reader T A) → IsLocal p → IsLocal (expect test p)
  local-expect test p lp = local-take_by (λ t. when (test t) p) (λ t. local_when p lp (test t))

  pub eager-expect : {A : Type 0} (test : T → Bool) (p : Reader T A) → IsLocal p → IsEager (expect test p)
  eager-expect test p lp = eager-take_by (λ t. when (test t) p) (λ t. local_when p lp (test t))
