-- Where a reader stops for want of a fitting token, what it passed can be completed.
use Rattle.std.proofs.Common.{◌≡◌, ℕ, zero, suc, ◌≤◌, Bool, true, false, List, [], ◌∷◌, ◌++◌, length, Option, Some, None, refl, sym, ap, subst, ◌∙◌, inl, inr, arith, append_assoc, length-append}
use Rattle.std.specs.Prelude.{◌⊎◌, IsTrue}
use Rattle.std.proofs.lemmas.Option.{same_Some}
use Rattle.token_reader.specs.inner.Reader.{Signs, Unexpected, TooDeep, Outcome, Read, Stopped, Reader, Turn, Lister, give, refuse, and_then, ◌>>=◌, when, taken, take_by, expect, tried, if_next, chosen, or_else, noted, alone, looped, many, head, rest_of}
use Rattle.token_reader.proofs.LocalLaws.{IsEnd, is_calm, CarefulAt, IsCareful, Leads, IsLocal, IsLocalTurn, Declines, shorter}
use Rattle.token_reader.proofs.CarefulLaws.{bind_careful, careful-bind, careful-give}
use Rattle.token_reader.proofs.ManyLaws.{many_again, many_none, many_end, careful-many, local-many}

module _ {T : Type 0} (s : Signs T) where
  abbrev pub Completion : {A : Type 0} → Reader T A → List T → List T → Type 0
  Completion {A} p front r = (more : List T) × (a : A) × (p (front ++ (more ++ r)) ≡ Read a r)

  pub record Goes {A : Type 0} (p : Reader T A) (ts rest : List T) : Type 0 where
    pub front : List T
    pub whole : ts ≡ front ++ rest
    pub goes : (r : List T) → IsEnd s r → Completion p front r

  -- what is put after the last token of a front, so that it opens a level where it does before what is left
  abbrev pub Alike : List T → List T → List T → Type 0
  Alike [] left more = Unit {0}
  Alike (t ∷ []) left more = s.opens t ≡ true → s.bars t left ≡ true → (s.bars t more ≡ true) ⊎ (is_calm s more ≡ false)
  Alike (t ∷ u ∷ front) left more = Alike (u ∷ front) left more

  end_calm : (r : List T) → IsEnd s r → is_calm s r ≡ false
  end_calm [] h = refl
  end_calm (t ∷ ts) h = s.quiet t h

  -- what ends constructs may always be put there
  pub alike_end : (front left more : List T) → IsEnd s more → Alike front left more
  alike_end [] left more h = tt
  alike_end (t ∷ []) left more h = λ o b. inr (end_calm more h)
  alike_end (t ∷ u ∷ front) left more h = alike_end (u ∷ front) left more h

  pub alike_after : (before : List T) (x : T) (xs left more : List T) → Alike (x ∷ xs) left more → Alike (before ++ (x ∷ xs)) left more
  alike_after [] x xs left more h = h
  alike_after (t ∷ []) x xs left more h = h
  alike_after (t ∷ u ∷ before) x xs left more h = alike_after (u ∷ before) x xs left more h

  abbrev pub CompletionAlike : {A : Type 0} → Reader T A → List T → List T → List T → Type 0
  CompletionAlike {A} p front left r = (more : List T) × (a : A) × (p (front ++ (more ++ r)) ≡ Read a r) × Alike front left (more ++ r)

  pub record Reached {A : Type 0} (p : Reader T A) (ts rest : List T) : Type 0 where
    pub front : List T
    pub whole : ts ≡ front ++ rest
    pub goes : (r : List T) → IsEnd s r → CompletionAlike p front rest r

  abbrev pub ArePlain : List T → Type 0
  ArePlain [] = Unit {0}
  ArePlain (t ∷ ts) = (s.opens t ≡ false) × ArePlain ts

  -- the tokens before the last ones are passed, and some of them, up to tokens that open no level, can be completed: all of
  -- them open no level, or the reader can be completed after a front of them
  pub data Reaches {A : Type 0} (p : Reader T A) (ts left : List T) : Type 0 where
    near : (b : List T) → ts ≡ b ++ left → ArePlain b → Reaches p ts left
    far : (b : List T) → ArePlain b → Reached p ts (b ++ left) → Reaches p ts left

  -- it stops after a token that opens a level too deep, whatever stands there, as long as the token opens one
  pub record Barred {A : Type 0} (p : Reader T A) (ts : List T) (t : T) (rest : List T) : Type 0 where
    pub front : List T
    pub whole : ts ≡ front ++ t ∷ rest
    pub opened : s.bars t rest ≡ true
    pub again : (more : List T) → s.bars t more ≡ true → p (front ++ t ∷ more) ≡ Stopped TooDeep more

  abbrev pub ViableAt : {A : Type 0} → Reader T A → List T → Outcome T A → Type 0
  ViableAt p ts (Read a rest) = Unit {0}
  ViableAt p ts (Stopped Unexpected rest) = Reaches p ts rest
  ViableAt p ts (Stopped TooDeep rest) = (rest ≡ ts) ⊎ ((t : T) × Barred p ts t rest × Reaches p ts (t ∷ rest))

  abbrev pub IsViable : {A : Type 0} → Reader T A → Type 0
  IsViable p = (ts : List T) → ViableAt p ts (p ts)

  -- it reads something, whatever s it
  abbrev pub Completes : {A : Type 0} → Reader T A → Type 0
  Completes p = (r : List T) → IsEnd s r → Completion p [] r

  -- it reads something that lets a token before it open a level
  abbrev pub CompletesAt : {A : Type 0} → T → Reader T A → Type 0
  CompletesAt {A} t p = (r : List T) → IsEnd s r → (more : List T) × (a : A) × (p (more ++ r) ≡ Read a r) × ((s.bars t (more ++ r) ≡ true) ⊎ (is_calm s (more ++ r) ≡ false))

  -- what is read after a token may stand there: the token opens no level; or it may, and then something can be read, or it
  -- is too deep, where it opens one
  pub data Passes {A : Type 0} (t : T) (p : Reader T A) : Type 0 where
    plainly : s.opens t ≡ false → IsCareful s p → Passes t p
    opening : IsTrue (s.opens t) → IsCareful s p → CompletesAt t p → Passes t p
    at_once : IsTrue (s.opens t) → ((more : List T) → s.bars t more ≡ true) → ((ts : List T) → p ts ≡ Stopped TooDeep ts) → Passes t p
    unless : IsTrue (s.opens t) → Completes p → ((ts : List T) → s.bars t ts ≡ true → p ts ≡ Stopped TooDeep ts) → ((ts : List T) → s.bars t ts ≡ false → CarefulAt s ts (p ts)) → Passes t p

  abbrev pub IsViableTurn : {A : Type 0} → T → Option (Reader T A) → Type 0
  IsViableTurn t (Some p) = IsViable p × Passes t p
  IsViableTurn t None = Unit {0}

  -- the same tokens complete it, whatever was read before, and end what was read before
  abbrev pub CompletesAll : {A B : Type 0} → (A → Reader T B) → Type 0
  CompletesAll {A} {B} f = (r : List T) → IsEnd s r → (more : List T) × IsEnd s (more ++ r) × ((a : A) → (b : B) × (f a (more ++ r) ≡ Read b r))

  pub viable-give : {A : Type 0} (a : A) → IsViable (give a)
  viable-give a ts = tt

  pub viable-too_deep : (A : Type 0) → IsViable (refuse {A = A} TooDeep)
  viable-too_deep A ts = inl refl

  pub completes-give : {A B : Type 0} (f : A → B) → CompletesAll (λ a. give (f a))
  completes-give f r h = ([], h, λ a. (f a, refl))

  module _ {A B : Type 0} (p : Reader T A) (f : A → Reader T B) (completes : CompletesAll f) where
    second_goes : (ts : List T) (a : A) (rest left : List T) → Leads s p ts (Read a rest) → (front : List T) → rest ≡ front ++ left → ((r : List T) → IsEnd s r → Completion (f a) front r) → (r : List T) → IsEnd s r → (whole : List T) × (ts ≡ whole ++ left) × ((r : List T) → IsEnd s r → Completion (p >>= f) whole r)
    second_goes ts a rest left first [] whole goes r0 h0 = (
      first.front,
      first.whole ∙ ap (λ l. first.front ++ l) whole,
      λ r h.
          let c = completes r h in
          let b = c.2 a in
          (c.0, b.0, ap (λ q. and_then q f) (first.again (c.0 ++ r) (inr c.1)) ∙ b.1),
    )
    second_goes ts a rest left first (x ∷ xs) whole goes r0 h0 = (
      first.front ++ (x ∷ xs),
      first.whole ∙ ap (λ l. first.front ++ l) whole ∙ sym (append_assoc first.front (x ∷ xs) left),
      λ r h.
          let c = goes r h in
          (c.0, c.1, ap (p >>= f) (append_assoc first.front (x ∷ xs) (c.0 ++ r)) ∙ ap (λ q. and_then q f) (first.again ((x ∷ xs) ++ (c.0 ++ r)) (inl (sym (ap head whole)))) ∙ c.2),
    )

    pub second_goes_on : (ts : List T) (a : A) (rest left : List T) → Leads s p ts (Read a rest) → Goes (f a) rest left → Goes (p >>= f) ts left
    second_goes_on ts a rest left first second =
        let s = second_goes ts a rest left first second.front second.whole second.goes [] tt in
        record { front = s.0; whole = s.1; goes = s.2 }

    ends_first : (ts : List T) (a : A) (rest left : List T) → Leads s p ts (Read a rest) → rest ≡ left → Reached (p >>= f) ts left
    ends_first ts a rest left first same = record {
      front = first.front;
      whole = first.whole ∙ ap (λ l. first.front ++ l) same;
      goes = λ r h.
          let c = completes r h in
          let b = c.2 a in
          (c.0, b.0, ap (λ q. and_then q f) (first.again (c.0 ++ r) (inr c.1)) ∙ b.1, alike_end first.front left (c.0 ++ r) c.1);
    }

    second_goes_alike : (ts : List T) (a : A) (rest left : List T) → Leads s p ts (Read a rest) → (front : List T) → rest ≡ front ++ left → ((r : List T) → IsEnd s r → CompletionAlike (f a) front left r) → (whole : List T) × (ts ≡ whole ++ left) × ((r : List T) → IsEnd s r → CompletionAlike (p >>= f) whole left r)
    second_goes_alike ts a rest left first [] whole goes = (
      first.front,
      first.whole ∙ ap (λ l. first.front ++ l) whole,
      λ r h.
          let c = completes r h in
          let b = c.2 a in
          (c.0, b.0, ap (λ q. and_then q f) (first.again (c.0 ++ r) (inr c.1)) ∙ b.1, alike_end first.front left (c.0 ++ r) c.1),
    )
    second_goes_alike ts a rest left first (x ∷ xs) whole goes = (
      first.front ++ (x ∷ xs),
      first.whole ∙ ap (λ l. first.front ++ l) whole ∙ sym (append_assoc first.front (x ∷ xs) left),
      λ r h.
          let c = goes r h in
          (c.0, c.1, ap (p >>= f) (append_assoc first.front (x ∷ xs) (c.0 ++ r)) ∙ ap (λ q. and_then q f) (first.again ((x ∷ xs) ++ (c.0 ++ r)) (inl (sym (ap head whole)))) ∙ c.2, alike_after first.front x xs left (c.0 ++ r) c.3),
    )

    second_reached : (ts : List T) (a : A) (rest left : List T) → Leads s p ts (Read a rest) → Reached (f a) rest left → Reached (p >>= f) ts left
    second_reached ts a rest left first second =
        let s = second_goes_alike ts a rest left first second.front second.whole second.goes in
        record { front = s.0; whole = s.1; goes = s.2 }

    second_reaches : (ts : List T) (a : A) (rest left : List T) → Leads s p ts (Read a rest) → Reaches (f a) rest left → Reaches (p >>= f) ts left
    second_reaches ts a rest left first (near b e plain) = far b plain (ends_first ts a rest (b ++ left) first e)
    second_reaches ts a rest left first (far b plain g) = far b plain (second_reached ts a rest (b ++ left) first g)

    same_head : (front more left : List T) (t : T) → head (front ++ t ∷ more) ≡ head (front ++ t ∷ left)
    same_head [] more left t = refl
    same_head (x ∷ front) more left t = refl

    second_barred : (ts : List T) (a : A) (rest left : List T) (t : T) → Leads s p ts (Read a rest) → Barred (f a) rest t left → Barred (p >>= f) ts t left
    second_barred ts a rest left t first b = record {
      front = first.front ++ b.front;
      whole = first.whole ∙ ap (λ l. first.front ++ l) b.whole ∙ sym (append_assoc first.front b.front (t ∷ left));
      opened = b.opened;
      again = λ more h. ap (p >>= f) (append_assoc first.front b.front (t ∷ more)) ∙ ap (λ q. and_then q f) (first.again (b.front ++ t ∷ more) (inl (same_head b.front more left t ∙ sym (ap head b.whole)))) ∙ b.again more h;
    }

    pub first_barred : (ts rest : List T) (t : T) → Barred p ts t rest → Barred (p >>= f) ts t rest
    first_barred ts rest t b = record { front = b.front; whole = b.whole; opened = b.opened; again = λ more h. ap (λ q. and_then q f) (b.again more h) }

    pub second_viable : (ts : List T) (a : A) (rest : List T) (o : Outcome T B) → Leads s p ts (Read a rest) → CarefulAt s rest o → ViableAt (f a) rest o → ViableAt (p >>= f) ts o
    second_viable ts a rest (Read b left) first c second = tt
    second_viable ts a rest (Stopped TooDeep left) first c (inl same) = absurd (omega (arith, ap length same))
    second_viable ts a rest (Stopped TooDeep left) first c (inr (t, o, second)) = inr (t, second_barred ts a rest left t first o, second_reaches ts a rest (t ∷ left) first second)
    second_viable ts a rest (Stopped Unexpected left) first c second = second_reaches ts a rest left first second

    pub first_viable : (ts rest : List T) → Goes p ts rest → Goes (p >>= f) ts rest
    first_viable ts rest v = record {
      front = v.front;
      whole = v.whole;
      goes = λ r h.
          let c = completes r h in
          let d = v.goes (c.0 ++ r) c.1 in
          let b = c.2 d.1 in
          (d.0 ++ c.0, b.0, ap (λ l. (p >>= f) (v.front ++ l)) (append_assoc d.0 c.0 r) ∙ ap (λ q. and_then q f) d.2 ∙ b.1);
    }

    first_reached : (ts rest : List T) → Reached p ts rest → Reached (p >>= f) ts rest
    first_reached ts rest v = record {
      front = v.front;
      whole = v.whole;
      goes = λ r h.
          let c = completes r h in
          let d = v.goes (c.0 ++ r) c.1 in
          let b = c.2 d.1 in
          (d.0 ++ c.0, b.0, ap (λ l. (p >>= f) (v.front ++ l)) (append_assoc d.0 c.0 r) ∙ ap (λ q. and_then q f) d.2 ∙ b.1, subst (Alike v.front rest) (sym (append_assoc d.0 c.0 r)) d.3);
    }

    pub first_reaches : (ts left : List T) → Reaches p ts left → Reaches (p >>= f) ts left
    first_reaches ts left (near b e plain) = near b e plain
    first_reaches ts left (far b plain g) = far b plain (first_reached ts (b ++ left) g)

    pub bind_viable : ((a : A) → IsCareful s (f a)) → ((a : A) → IsViable (f a)) → (ts : List T) (o : Outcome T A) → Leads s p ts o → ViableAt p ts o → ViableAt (p >>= f) ts (and_then o f)
    bind_viable cf vf ts (Read a rest) first v = second_viable ts a rest (f a rest) first (cf a rest) (vf a rest)
    bind_viable cf vf ts (Stopped TooDeep rest) first (inl same) = inl same
    bind_viable cf vf ts (Stopped TooDeep rest) first (inr (t, o, v)) = inr (t, first_barred ts rest t o, first_reaches ts (t ∷ rest) v)
    bind_viable cf vf ts (Stopped Unexpected rest) first v = first_reaches ts rest v

    pub viable-bind : IsLocal s p → IsViable p → ((a : A) → IsCareful s (f a)) → ((a : A) → IsViable (f a)) → IsViable (p >>= f)
    viable-bind lp vp cf vf ts = bind_viable cf vf ts (p ts) (lp ts) (vp ts)

    pub completes-bind : Completes p → Completes (p >>= f)
    completes-bind cp r h =
        let c = completes r h in
        let d = cp (c.0 ++ r) c.1 in
        let b = c.2 d.1 in
        (d.0 ++ c.0, b.0, ap (p >>= f) (append_assoc d.0 c.0 r) ∙ ap (λ q. and_then q f) d.2 ∙ b.1)

    pub after-bind : (t : T) → CompletesAt t p → CompletesAt t (p >>= f)
    after-bind t cp r h =
        let c = completes r h in
        let d = cp (c.0 ++ r) c.1 in
        let b = c.2 d.1 in
        (d.0 ++ c.0, b.0, ap (p >>= f) (append_assoc d.0 c.0 r) ∙ ap (λ q. and_then q f) d.2 ∙ b.1, subst (λ l. (s.bars t l ≡ true) ⊎ (is_calm s l ≡ false)) (sym (append_assoc d.0 c.0 r)) d.3)

  -- after a token
  pub goes_on : {A : Type 0} (p q : Reader T A) (t : T) → ((ts : List T) → q (t ∷ ts) ≡ p ts) → (ts rest : List T) → Goes p ts rest → Goes q (t ∷ ts) rest
  goes_on p q t is ts rest v = record {
    front = t ∷ v.front;
    whole = ap (λ r. t ∷ r) v.whole;
    goes = λ r h. let c = v.goes r h in (c.0, c.1, is (v.front ++ (c.0 ++ r)) ∙ c.2);
  }

  module _ {A : Type 0} (p q : Reader T A) (t : T) (is : (ts : List T) → q (t ∷ ts) ≡ p ts) where
    abbrev too_deep : List T → Outcome T A
    too_deep ts = Stopped TooDeep ts

    abbrev unexpected : List T → Outcome T A
    unexpected ts = Stopped Unexpected ts

    once_is : (ts rest : List T) → too_deep ts ≡ too_deep rest → rest ≡ ts
    once_is ts rest e = ap rest_of (sym e)

    differs : (ts rest : List T) → too_deep ts ≡ unexpected rest → ⊥
    differs ts rest e = cc

    -- what may be put after the token and lets it open a level where it does before what stands there
    abbrev Behind : List T → Type 0
    Behind ts = (r : List T) → IsEnd s r → (more : List T) × (a : A) × (p (more ++ r) ≡ Read a r) × (s.bars t ts ≡ true → (s.bars t (more ++ r) ≡ true) ⊎ (is_calm s (more ++ r) ≡ false))

    abbrev May : List T → Type 0
    May ts = (s.opens t ≡ false) ⊎ Behind ts

    no_opener : {B : Type 0} → s.opens t ≡ false → s.opens t ≡ true → B
    no_opener plain o = absurd (different (sym plain ∙ o))
      where
        different : false ≡ true → ⊥
        different e = cc

    at_token : (ts left : List T) → ts ≡ left → Behind ts → Reached q (t ∷ ts) left
    at_token ts left e c = record {
      front = t ∷ [];
      whole = ap (λ r. t ∷ r) e;
      goes = λ r h. let d = c r h in (d.0, d.1, is (d.0 ++ r) ∙ d.2, λ o b. d.3 (ap (s.bars t) e ∙ b));
    }

    reached_after : (ts left : List T) → May ts → (front : List T) → ts ≡ front ++ left → ((r : List T) → IsEnd s r → CompletionAlike p front left r) → Reached q (t ∷ ts) left
    reached_after ts left (inl plain) [] whole goes = record {
      front = t ∷ [];
      whole = ap (λ r. t ∷ r) whole;
      goes = λ r h. let c = goes r h in (c.0, c.1, is (c.0 ++ r) ∙ c.2, λ o b. no_opener plain o);
    }
    reached_after ts left (inr c) [] whole goes = at_token ts left whole c
    reached_after ts left o (x ∷ xs) whole goes = record {
      front = t ∷ x ∷ xs;
      whole = ap (λ r. t ∷ r) whole;
      goes = λ r h. let c = goes r h in (c.0, c.1, is ((x ∷ xs) ++ (c.0 ++ r)) ∙ c.2, c.3);
    }

    reaches_after : (ts left : List T) → May ts → Reaches p ts left → Reaches q (t ∷ ts) left
    reaches_after ts left (inl plain) (near b e others) = near (t ∷ b) (ap (λ r. t ∷ r) e) (plain, others)
    reaches_after ts left (inr c) (near b e others) = far b others (at_token ts (b ++ left) e c)
    reaches_after ts left o (far b plain g) = far b plain (reached_after ts (b ++ left) o g.front g.whole g.goes)

    after_opening : CompletesAt t p → (ts : List T) → Behind ts
    after_opening c ts r h = let d = c r h in (d.0, d.1, d.2, λ b. d.3)

    after_unless : Completes p → (ts : List T) → s.bars t ts ≡ false → Behind ts
    after_unless c ts no_bar r h = let d = c r h in (d.0, d.1, d.2, λ b. absurd (different (sym no_bar ∙ b)))
      where
        different : false ≡ true → ⊥
        different e = cc

    -- at once after the token
    here : (ts rest : List T) → rest ≡ ts → s.bars t ts ≡ true → ((more : List T) → s.bars t more ≡ true → p more ≡ Stopped TooDeep more) → (u : T) × Barred q (t ∷ ts) u rest × Reaches q (t ∷ ts) (u ∷ rest)
    here ts rest same o k = (
      t,
      record { front = []; whole = ap (λ r. t ∷ r) (sym same); opened = ap (s.bars t) same ∙ o; again = λ more h. is more ∙ k more h },
      near [] (ap (λ r. t ∷ r) (sym same)) tt,
    )

    later : (ts rest : List T) (u : T) → Barred p ts u rest → Barred q (t ∷ ts) u rest
    later ts rest u b = record { front = t ∷ b.front; whole = ap (λ r. t ∷ r) b.whole; opened = b.opened; again = λ more h. is (b.front ++ u ∷ more) ∙ b.again more h }

    unless_here : ((ts : List T) → s.bars t ts ≡ true → p ts ≡ Stopped TooDeep ts) → ((ts : List T) → s.bars t ts ≡ false → CarefulAt s ts (p ts)) → (ts rest : List T) → p ts ≡ too_deep rest → rest ≡ ts → (b : Bool) → s.bars t ts ≡ b → (u : T) × Barred q (t ∷ ts) u rest × Reaches q (t ∷ ts) (u ∷ rest)
    unless_here k c ts rest e same true o = here ts rest same o k
    unless_here k c ts rest e same false o = let short : CarefulAt s ts (too_deep rest) = subst (CarefulAt s ts) e (c ts o) in absurd (omega (arith, ap length same))

    -- where it doesn't stop at once, the token opens no level
    no_bar : ((ts : List T) → s.bars t ts ≡ true → p ts ≡ Stopped TooDeep ts) → (ts : List T) (o : Outcome T A) → p ts ≡ o → (too_deep ts ≡ o → ⊥) → (b : Bool) → s.bars t ts ≡ b → s.bars t ts ≡ false
    no_bar k ts o e other true is = absurd (other (sym (k ts is) ∙ e))
    no_bar k ts o e other false is = is

    further : (ts rest : List T) (u : T) → Barred p ts u rest → too_deep ts ≡ too_deep rest → ⊥
    further ts rest u b e = let same = ap rest_of e in omega (arith, ap length same, ap length b.whole, length-append b.front (u ∷ rest))

    pub viable_after : Passes t p → (ts : List T) (o : Outcome T A) → p ts ≡ o → ViableAt p ts o → ViableAt q (t ∷ ts) o
    viable_after c ts (Read a rest) e v = tt
    viable_after (plainly plain careful) ts (Stopped TooDeep rest) e (inl same) = let short : CarefulAt s ts (too_deep rest) = subst (CarefulAt s ts) e (careful ts) in absurd (omega (arith, ap length same))
    viable_after (plainly plain careful) ts (Stopped TooDeep rest) e (inr (u, o, v)) = inr (u, later ts rest u o, reaches_after ts (u ∷ rest) (inl plain) v)
    viable_after (plainly plain careful) ts (Stopped Unexpected rest) e v = reaches_after ts rest (inl plain) v
    viable_after (opening o careful c) ts (Stopped TooDeep rest) e (inl same) = let short : CarefulAt s ts (too_deep rest) = subst (CarefulAt s ts) e (careful ts) in absurd (omega (arith, ap length same))
    viable_after (opening o careful c) ts (Stopped TooDeep rest) e (inr (u, k, v)) = inr (u, later ts rest u k, reaches_after ts (u ∷ rest) (inr (after_opening c ts)) v)
    viable_after (opening o careful c) ts (Stopped Unexpected rest) e v = reaches_after ts rest (inr (after_opening c ts)) v
    viable_after (at_once o b h) ts (Stopped TooDeep rest) e v = inr (here ts rest (once_is ts rest (sym (h ts) ∙ e)) (b ts) (λ more k. h more))
    viable_after (at_once o b h) ts (Stopped Unexpected rest) e v = absurd (differs ts rest (sym (h ts) ∙ e))
    viable_after (unless o c k careful) ts (Stopped TooDeep rest) e (inl same) = inr (unless_here k careful ts rest e same (s.bars t ts) refl)
    viable_after (unless o c k careful) ts (Stopped TooDeep rest) e (inr (u, b, v)) = inr (u, later ts rest u b, reaches_after ts (u ∷ rest) (inr (after_unless c ts (no_bar k ts (too_deep rest) e (further ts rest u b) (s.bars t ts) refl))) v)
    viable_after (unless o c k careful) ts (Stopped Unexpected rest) e v = reaches_after ts rest (inr (after_unless c ts (no_bar k ts (unexpected rest) e (λ f. differs ts rest f) (s.bars t ts) refl))) v

  module _ {A : Type 0} (f : Turn T A) where
    taken_viable : (t : T) (o : Option (Reader T A)) → f t ≡ o → IsViableTurn t o → (ts : List T) → ViableAt (take_by f) (t ∷ ts) (taken o t ts)
    taken_viable t (Some p) is (v, c) ts = viable_after p (take_by f) t (λ us. ap (λ o. taken o t us) is) c ts (p ts) refl (v ts)
    taken_viable t None is v ts = near [] refl tt

    pub viable-take_by : ((t : T) → IsViableTurn t (f t)) → IsViable (take_by f)
    viable-take_by v [] = near [] refl tt
    viable-take_by v (t ∷ ts) = taken_viable t (f t) refl (v t) ts

    tried_viable : (a : A) (t : T) (o : Option (Reader T A)) → f t ≡ o → IsViableTurn t o → (ts : List T) → ViableAt (if_next f a) (t ∷ ts) (tried o a t ts)
    tried_viable a t (Some p) is (v, c) ts = viable_after p (if_next f a) t (λ us. ap (λ o. tried o a t us) is) c ts (p ts) refl (v ts)
    tried_viable a t None is v ts = tt

    pub viable-if_next : (a : A) → ((t : T) → IsViableTurn t (f t)) → IsViable (if_next f a)
    viable-if_next a v [] = tt
    viable-if_next a v (t ∷ ts) = tried_viable a t (f t) refl (v t) ts

    module _ (q : Reader T A) (vq : IsViable q) (completes : Completes (or_else f q)) where
      other_goes : (us rest : List T) → ((vs : List T) → head vs ≡ head us → or_else f q vs ≡ q vs) → Reached q us rest → Reached (or_else f q) us rest
      other_goes us rest passes v = record { front = v.front; whole = v.whole; goes = go v.front v.whole v.goes }
        where
          go : (front : List T) → us ≡ front ++ rest → ((r : List T) → IsEnd s r → CompletionAlike q front rest r) → (r : List T) → IsEnd s r → CompletionAlike (or_else f q) front rest r
          go [] whole goes r h = let c = completes r h in (c.0, c.1, c.2, tt)
          go (x ∷ front) whole goes r h = let c = goes r h in (c.0, c.1, passes ((x ∷ front) ++ (c.0 ++ r)) (sym (ap head whole)) ∙ c.2, c.3)

      other_reaches : (us left : List T) → ((vs : List T) → head vs ≡ head us → or_else f q vs ≡ q vs) → Reaches q us left → Reaches (or_else f q) us left
      other_reaches us left passes (near b e plain) = near b e plain
      other_reaches us left passes (far b plain g) = far b plain (other_goes us (b ++ left) passes g)

      front_head : (front more left : List T) (t : T) → head (front ++ t ∷ more) ≡ head (front ++ t ∷ left)
      front_head [] more left t = refl
      front_head (x ∷ front) more left t = refl

      other_barred : (us rest : List T) (t : T) → ((vs : List T) → head vs ≡ head us → or_else f q vs ≡ q vs) → Barred q us t rest → Barred (or_else f q) us t rest
      other_barred us rest t passes b = record { front = b.front; whole = b.whole; opened = b.opened; again = λ more h. passes (b.front ++ t ∷ more) (front_head b.front more rest t ∙ sym (ap head b.whole)) ∙ b.again more h }

      other_viable : (us : List T) (o : Outcome T A) → ((vs : List T) → head vs ≡ head us → or_else f q vs ≡ q vs) → ViableAt q us o → ViableAt (or_else f q) us o
      other_viable us (Read a rest) passes v = tt
      other_viable us (Stopped TooDeep rest) passes (inl same) = inl same
      other_viable us (Stopped TooDeep rest) passes (inr (t, o, v)) = inr (t, other_barred us rest t passes o, other_reaches us (t ∷ rest) passes v)
      other_viable us (Stopped Unexpected rest) passes v = other_reaches us rest passes v

      chosen_viable : (t : T) (o : Option (Reader T A)) → f t ≡ o → IsViableTurn t o → (ts : List T) → ViableAt (or_else f q) (t ∷ ts) (chosen o q t ts)
      chosen_viable t (Some p) is (v, c) ts = viable_after p (or_else f q) t (λ us. ap (λ o. chosen o q t us) is) c ts (p ts) refl (v ts)
      chosen_viable t None is v ts = other_viable (t ∷ ts) (q (t ∷ ts)) passes (vq (t ∷ ts))
        where
          passes : (vs : List T) → head vs ≡ Some t → or_else f q vs ≡ q vs
          passes [] h = cc
          passes (x ∷ xs) h = λ k. chosen ((ap f (same_Some x t h) ∙ is) k) q x xs

      pub viable-or_else : ((t : T) → IsViableTurn t (f t)) → IsViable (or_else f q)
      viable-or_else v [] = other_viable [] (q []) passes (vq [])
        where
          passes : (vs : List T) → head vs ≡ None → or_else f q vs ≡ q vs
          passes [] h = refl
          passes (x ∷ xs) h = cc
      viable-or_else v (t ∷ ts) = chosen_viable t (f t) refl (v t) ts

  module _ {A L : Type 0} (l : Lister T A L) (local : (t : T) → IsLocalTurn s (l.turn t)) (declines : Declines s l.turn) (viable : (t : T) → IsViableTurn t (l.turn t)) where
    abbrev after : A → Reader T L
    after a = many l >>= λ others. give (l.more a others)

    what_follows_completes : CompletesAll after
    what_follows_completes r h = ([], h, λ a. (l.more a l.none, ap (λ q. and_then q (λ others. give (l.more a others))) (many_end s l local declines r h)))

    after_careful : (a : A) → IsCareful s (after a)
    after_careful a = careful-bind s (many l) (λ us. give (l.more a us)) (local-many s l local declines) (careful-many s l local) (λ us. careful-give s (l.more a us))

    -- what stands after an item, where that is short enough
    after_viable : (n : ℕ) → ((ts : List T) → length ts ≤ n → ViableAt (many l) ts (many l ts)) → (a : A) (rest : List T) → length rest ≤ n → ViableAt (after a) rest (after a rest)
    after_viable n others a rest h = bind_viable (many l) (λ us. give (l.more a us)) (completes-give (l.more a)) (λ us. careful-give s (l.more a us)) (λ us. viable-give (l.more a us)) rest (many l rest) (local-many s l local declines rest) (others rest h)

    item_viable : (n : ℕ) → ((ts : List T) → length ts ≤ n → ViableAt (many l) ts (many l ts)) → (p : Reader T A) (ts : List T) → length ts ≤ n → (o : Outcome T A) → Leads s p ts o → ViableAt p ts o → ViableAt (p >>= after) ts (and_then o after)
    item_viable n others p ts h (Read a rest) first v = let k = shorter s p ts (Read a rest) first in second_viable p after what_follows_completes ts a rest (after a rest) first (after_careful a rest) (after_viable n others a rest (omega arith))
    item_viable n others p ts h (Stopped TooDeep rest) first (inl same) = inl same
    item_viable n others p ts h (Stopped TooDeep rest) first (inr (t, o, v)) = inr (t, first_barred p after what_follows_completes ts rest t o, first_reaches p after what_follows_completes ts (t ∷ rest) v)
    item_viable n others p ts h (Stopped Unexpected rest) first v = first_reaches p after what_follows_completes ts rest v

    item_passes : (t : T) (p : Reader T A) → IsLocal s p → Passes t p → Passes t (p >>= after)
    item_passes t p lp (plainly plain careful) = plainly plain (careful-bind s p after lp careful after_careful)
    item_passes t p lp (opening o careful c) = opening o (careful-bind s p after lp careful after_careful) (after-bind p after what_follows_completes t c)
    item_passes t p lp (at_once o b h) = at_once o b (λ ts. ap (λ q. and_then q after) (h ts))
    item_passes t p lp (unless o c k careful) = unless o (completes-bind p after what_follows_completes c) (λ ts h. ap (λ q. and_then q after) (k ts h)) (λ ts h. bind_careful s p after after_careful ts (p ts) (shorter s p ts (p ts) (lp ts)) (careful ts h))

    turn_viable : (n : ℕ) → ((ts : List T) → length ts ≤ n → ViableAt (many l) ts (many l ts)) → (t : T) (o : Option (Reader T A)) → l.turn t ≡ o → IsLocalTurn s o → IsViableTurn t o → (ts : List T) → length ts ≤ n → ViableAt (many l) (t ∷ ts) (looped l (many l) o t ts)
    turn_viable n others t (Some p) is lo (v, c) ts h = viable_after (p >>= after) (many l) t (λ us. many_again s l local t us ∙ ap (λ o. looped l (many l) o t us) is) (item_passes t p lo c) ts (and_then (p ts) after) refl (item_viable n others p ts h (p ts) (lo ts) (v ts))
    turn_viable n others t None is lo vo ts h = tt

    many_viable : (n : ℕ) (ts : List T) → length ts ≤ n → ViableAt (many l) ts (many l ts)
    many_viable n [] h = subst (ViableAt (many l) []) (sym (many_none s l local)) tt
    many_viable zero (t ∷ ts) h = absurd (omega arith)
    many_viable (suc n) (t ∷ ts) h = subst (ViableAt (many l) (t ∷ ts)) (sym (many_again s l local t ts)) (turn_viable n (many_viable n) t (l.turn t) refl (local t) (viable t) ts (omega arith))

    pub viable-many : IsViable (many l)
    viable-many ts = many_viable (length ts) ts (omega arith)

  pub completes-if_next : {A : Type 0} (f : Turn T A) → Declines s f → (a : A) → Completes (if_next f a)
  completes-if_next f declines a [] h = ([], a, refl)
  completes-if_next f declines a (x ∷ xs) h = ([], a, λ k. tried (declines x h k) a x xs)

  -- one token alone or not, completed alike
  alone_completion : {A : Type 0} (p : Reader T A) (front r : List T) → Completion p front r → Completion (alone p) front r
  alone_completion p front r c = (c.0, (c.1, _), ap (λ o. noted (length (front ++ (c.0 ++ r))) o) c.2)

  pub goes_alone : {A : Type 0} (p : Reader T A) (ts rest : List T) → Goes p ts rest → Goes (alone p) ts rest
  goes_alone p ts rest v = record { front = v.front; whole = v.whole; goes = λ r h. alone_completion p v.front r (v.goes r h) }

  reached_alone : {A : Type 0} (p : Reader T A) (ts rest : List T) → Reached p ts rest → Reached (alone p) ts rest
  reached_alone p ts rest v = record {
    front = v.front;
    whole = v.whole;
    goes = λ r h. let c = v.goes r h in (c.0, (c.1, _), ap (λ o. noted (length (v.front ++ (c.0 ++ r))) o) c.2, c.3);
  }

  alone_reaches : {A : Type 0} (p : Reader T A) (ts left : List T) → Reaches p ts left → Reaches (alone p) ts left
  alone_reaches p ts left (near b e plain) = near b e plain
  alone_reaches p ts left (far b plain g) = far b plain (reached_alone p ts (b ++ left) g)

  alone_barred : {A : Type 0} (p : Reader T A) (ts rest : List T) (t : T) → Barred p ts t rest → Barred (alone p) ts t rest
  alone_barred p ts rest t b = record { front = b.front; whole = b.whole; opened = b.opened; again = λ more h. ap (noted (length (b.front ++ t ∷ more))) (b.again more h) }

  alone_viable : {A : Type 0} (p : Reader T A) (ts : List T) (n : ℕ) (o : Outcome T A) → ViableAt p ts o → ViableAt (alone p) ts (noted n o)
  alone_viable p ts n (Read a rest) v = tt
  alone_viable p ts n (Stopped Unexpected rest) v = alone_reaches p ts rest v
  alone_viable p ts n (Stopped TooDeep rest) (inl same) = inl same
  alone_viable p ts n (Stopped TooDeep rest) (inr (t, o, v)) = inr (t, alone_barred p ts rest t o, alone_reaches p ts (t ∷ rest) v)

  pub viable-alone : {A : Type 0} (p : Reader T A) → IsViable p → IsViable (alone p)
  viable-alone p v ts = alone_viable p ts (length ts) (p ts) (v ts)

  pub completes-alone : {A : Type 0} (p : Reader T A) → Completes p → Completes (alone p)
  completes-alone p c r h = alone_completion p [] r (c r h)

  -- a token that is enough, after which only ending tokens need stand
  abbrev pub Begins : {A : Type 0} → T → Reader T A → Type 0
  Begins {A} t p = (r : List T) → IsEnd s r → (a : A) × (p (t ∷ r) ≡ Read a r)

  pub completes-begins : {A : Type 0} (t : T) (p : Reader T A) → Begins t p → Completes p
  completes-begins t p b r h = let c = b r h in (t ∷ [], c.0, c.1)

  -- it reads nothing at an ending token
  abbrev pub Skips : {A : Type 0} → A → Reader T A → Type 0
  Skips b p = (r : List T) → IsEnd s r → p r ≡ Read b r

  pub begins-bind : {A B : Type 0} (t : T) (p : Reader T A) (f : A → Reader T B) → Begins t p → ((a : A) (r : List T) → IsEnd s r → (b : B) × (f a r ≡ Read b r)) → Begins t (p >>= f)
  begins-bind t p f b s r h = let c = b r h in let d = s c.0 r h in (d.0, ap (λ q. and_then q f) c.1 ∙ d.1)

  -- the same tokens complete it, whatever was read before
  abbrev pub CompletesEach : {A B : Type 0} → (A → Reader T B) → Type 0
  CompletesEach {A} {B} f = (r : List T) → IsEnd s r → (more : List T) × ((a : A) → (b : B) × (f a (more ++ r) ≡ Read b r))

  pub each-give : {A B : Type 0} (f : A → B) → CompletesEach (λ a. give (f a))
  each-give f r h = ([], λ a. (f a, refl))

  pub each-one : {A B : Type 0} (p : Reader T B) → Completes p → CompletesEach {A = A} (λ a. p)
  each-one p c r h = let d = c r h in (d.0, λ a. (d.1, d.2))

  pub each-all : {A B : Type 0} (f : A → Reader T B) → CompletesAll f → CompletesEach f
  each-all f c r h = let d = c r h in (d.0, d.2)

  pub completes-each : {A B : Type 0} (f : A → Reader T B) → CompletesEach f → (a : A) → Completes (f a)
  completes-each f c a r h = let d = c r h in let e = d.1 a in (d.0, e.0, e.1)

  module _ {A B : Type 0} (test : T → Bool) (t : T) (fits : test t ≡ true) (f : A → Reader T B) (each : CompletesEach f) where
    expect_it : (p : Reader T B) (ts : List T) → expect test p (t ∷ ts) ≡ p ts
    expect_it p ts = λ i. taken (when (fits i) p) t ts

    pub each-expect : CompletesEach (λ a. expect test (f a))
    each-expect r h = let c = each r h in (t ∷ c.0, λ a. let d = c.1 a in (d.0, expect_it (f a) (c.0 ++ r) ∙ d.1))

    pub all-expect : IsTrue (s.ends t) → CompletesAll (λ a. expect test (f a))
    all-expect e r h = let c = each r h in (t ∷ c.0, e, λ a. let d = c.1 a in (d.0, expect_it (f a) (c.0 ++ r) ∙ d.1))

  module _ {A B C : Type 0} (p : Reader T B) (g : A → B → Reader T C) (all : CompletesAll {A = A × B} (λ x. g x.0 x.1)) where
    pub each-bind : Completes p → CompletesEach (λ a. p >>= g a)
    each-bind cp r h =
        let c = all r h in
        let d = cp (c.0 ++ r) c.1 in
        (d.0 ++ c.0, λ a. let b = c.2 (a, d.1) in (b.0, ap (p >>= g a) (append_assoc d.0 c.0 r) ∙ ap (λ q. and_then q (g a)) d.2 ∙ b.1))

    pub all-skips : (b : B) → Skips b p → CompletesAll (λ a. p >>= g a)
    all-skips b s r h =
        let c = all r h in
        (c.0, c.1, λ a. let d = c.2 (a, b) in (d.0, ap (λ q. and_then q (g a)) (s (c.0 ++ r) c.1) ∙ d.1))

    -- a token that s constructs is enough to begin with
    pub all-begins : (t : T) → IsTrue (s.ends t) → Begins t p → CompletesAll (λ a. p >>= g a)
    all-begins t e s r h =
        let c = all r h in
        let b = s (c.0 ++ r) c.1 in
        (t ∷ c.0, e, λ a. let d = c.2 (a, b.0) in (d.0, ap (λ q. and_then q (g a)) b.1 ∙ d.1))

  pub skips-if_next : {A : Type 0} (f : Turn T A) → Declines s f → (a : A) → Skips a (if_next f a)
  skips-if_next f declines a [] h = refl
  skips-if_next f declines a (x ∷ xs) h = λ k. tried (declines x h k) a x xs

  -- in place of a reader that passes a token
  module _ {A : Type 0} (f : Turn T A) (declines : Declines s f) (t : T) (q : Reader T A) where
    pub begins-or_else : IsTrue (s.ends t) → Begins t q → Begins t (or_else f q)
    begins-or_else e b r h = let c = b r h in (c.0, (λ k. chosen (declines t e k) q t r) ∙ c.1)
