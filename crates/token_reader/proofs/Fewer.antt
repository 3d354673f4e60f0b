-- The laws hold at fewer ending tokens, and a reader may be followed by one that goes on at some of them.
use Rattle.std.proofs.Common.{◌≡◌, Bool, true, false, List, [], ◌∷◌, ◌++◌, length, refl, sym, ap, subst, ◌∙◌, inl, inr, arith, append_assoc}
use Rattle.token_reader.specs.inner.Reader.{Signs, Unexpected, TooDeep, Outcome, Read, Stopped, Reader, and_then, ◌>>=◌, head}
use Rattle.token_reader.proofs.LocalLaws.{IsEnd, CarefulAt, IsCareful, Leads, IsLocal, Follows, local-bind}
use Rattle.token_reader.proofs.ViableLaws.{Completion, Completes, CompletesAt, Goes, Reached, CompletionAlike, Alike, alike_end, alike_after, Reaches, near, far, Barred, ViableAt, IsViable}
use Rattle.token_reader.proofs.RoomLaws.{RisesTo, below-bind, DeepAt, Deepens}
use Rattle.token_reader.proofs.Fine.{IsFine}

module _ {T : Type 0} (few many opens calms : T → Bool) (bars : T → List T → Bool) (fewer : (t : T) → few t ≡ true → many t ≡ true) (few_quiet : (t : T) → few t ≡ true → calms t ≡ false) (many_quiet : (t : T) → many t ≡ true → calms t ≡ false) where
  abbrev pub small : Signs T
  small = record { ends = few; opens = opens; calms = calms; bars = bars; quiet = few_quiet }

  abbrev pub large : Signs T
  large = record { ends = many; opens = opens; calms = calms; bars = bars; quiet = many_quiet }

  end_fewer : (ts : List T) → IsEnd small ts → IsEnd large ts
  end_fewer [] h = h
  end_fewer (t ∷ ts) h = fewer t h

  follows_fewer : {A : Type 0} (o : Outcome T A) (more : List T) → Follows small o more → Follows large o more
  follows_fewer (Read a rest) more (inl h) = inl h
  follows_fewer (Read a rest) more (inr h) = inr (end_fewer more h)
  follows_fewer (Stopped Unexpected rest) more h = h
  follows_fewer (Stopped TooDeep rest) more h = h

  pub local_fewer : {A : Type 0} (p : Reader T A) → IsLocal large p → IsLocal small p
  local_fewer p l ts = let h = l ts in record { front = h.front; whole = h.whole; again = λ more f. h.again more (follows_fewer (p ts) more f) }

  goes_fewer : {A : Type 0} (p : Reader T A) (ts rest : List T) → Goes large p ts rest → Goes small p ts rest
  goes_fewer p ts rest g = record { front = g.front; whole = g.whole; goes = λ r h. g.goes r (end_fewer r h) }

  alike_fewer : (front left more : List T) → Alike large front left more → Alike small front left more
  alike_fewer [] left more h = tt
  alike_fewer (t ∷ []) left more h = h
  alike_fewer (t ∷ u ∷ front) left more h = alike_fewer (u ∷ front) left more h

  reached_fewer : {A : Type 0} (p : Reader T A) (ts rest : List T) → Reached large p ts rest → Reached small p ts rest
  reached_fewer p ts rest g = record { front = g.front; whole = g.whole; goes = λ r h. let c = g.goes r (end_fewer r h) in (c.0, c.1, c.2, alike_fewer g.front rest (c.0 ++ r) c.3) }

  reaches_fewer : {A : Type 0} (p : Reader T A) (ts left : List T) → Reaches large p ts left → Reaches small p ts left
  reaches_fewer p ts left (near b e plain) = near b e plain
  reaches_fewer p ts left (far b plain g) = far b plain (reached_fewer p ts (b ++ left) g)

  barred_fewer : {A : Type 0} (p : Reader T A) (ts rest : List T) (t : T) → Barred large p ts t rest → Barred small p ts t rest
  barred_fewer p ts rest t b = record { front = b.front; whole = b.whole; opened = b.opened; again = b.again }

  viable_fewer : {A : Type 0} (p : Reader T A) (ts : List T) (o : Outcome T A) → ViableAt large p ts o → ViableAt small p ts o
  viable_fewer p ts (Read a rest) v = v
  viable_fewer p ts (Stopped Unexpected rest) v = reaches_fewer p ts rest v
  viable_fewer p ts (Stopped TooDeep rest) (inl same) = inl same
  viable_fewer p ts (Stopped TooDeep rest) (inr (t, o, v)) = inr (t, barred_fewer p ts rest t o, reaches_fewer p ts (t ∷ rest) v)

  deep_fewer : {A : Type 0} (q : Reader T A) (ts : List T) (o : Outcome T A) → DeepAt large q ts o → DeepAt small q ts o
  deep_fewer q ts (Read a rest) d = d
  deep_fewer q ts (Stopped r rest) d = goes_fewer q ts rest d

  pub completes_fewer : {A : Type 0} (p : Reader T A) → Completes large p → Completes small p
  completes_fewer p c r h = c r (end_fewer r h)

  pub at_fewer : {A : Type 0} (t : T) (p : Reader T A) → CompletesAt large t p → CompletesAt small t p
  at_fewer t p c r h = c r (end_fewer r h)

  pub fine_fewer : {A : Type 0} (p q : Reader T A) → IsFine large p q → IsFine small p q
  fine_fewer p q pq = record {
    local = local_fewer p pq.local;
    deeper = local_fewer q pq.deeper;
    viable = λ ts. viable_fewer p ts (p ts) (pq.viable ts);
    below = pq.below;
    deepens = λ ts. deep_fewer q ts (p ts) (pq.deepens ts);
  }

  -- one reader and then another that goes on at more tokens than the first
  abbrev pub CompletesAfter : {A B : Type 0} → (A → Reader T B) → Type 0
  CompletesAfter {A} {B} f = (r : List T) → IsEnd small r → (more : List T) × IsEnd large (more ++ r) × ((a : A) → (b : B) × (f a (more ++ r) ≡ Read b r))

  module _ {A B : Type 0} (p : Reader T A) (f : A → Reader T B) (completes : CompletesAfter f) where
    first_after : (ts rest : List T) → Goes large p ts rest → Goes small (p >>= f) ts rest
    first_after ts rest v = record {
      front = v.front;
      whole = v.whole;
      goes = λ r h.
          let c = completes r h in
          let d = v.goes (c.0 ++ r) c.1 in
          let b = c.2 d.1 in
          (d.0 ++ c.0, b.0, ap (λ l. (p >>= f) (v.front ++ l)) (append_assoc d.0 c.0 r) ∙ ap (λ q. and_then q f) d.2 ∙ b.1);
    }

    ends_after : (ts : List T) (a : A) (rest left : List T) → Leads large p ts (Read a rest) → rest ≡ left → Goes small (p >>= f) ts left
    ends_after ts a rest left first same = record {
      front = first.front;
      whole = first.whole ∙ ap (λ l. first.front ++ l) same;
      goes = λ r h.
          let c = completes r h in
          let b = c.2 a in
          (c.0, b.0, ap (λ q. and_then q f) (first.again (c.0 ++ r) (inr c.1)) ∙ b.1);
    }

    second_after : (ts : List T) (a : A) (rest left : List T) → Leads large p ts (Read a rest) → (front : List T) → rest ≡ front ++ left → ((r : List T) → IsEnd small r → Completion small (f a) front r) → Goes small (p >>= f) ts left
    second_after ts a rest left first [] whole goes = ends_after ts a rest left first whole
    second_after ts a rest left first (x ∷ xs) whole goes = record {
      front = first.front ++ (x ∷ xs);
      whole = first.whole ∙ ap (λ l. first.front ++ l) whole ∙ sym (append_assoc first.front (x ∷ xs) left);
      goes = λ r h.
          let c = goes r h in
          (c.0, c.1, ap (p >>= f) (append_assoc first.front (x ∷ xs) (c.0 ++ r)) ∙ ap (λ q. and_then q f) (first.again ((x ∷ xs) ++ (c.0 ++ r)) (inl (sym (ap head whole)))) ∙ c.2);
    }

    first_reached : (ts rest : List T) → Reached large p ts rest → Reached small (p >>= f) ts rest
    first_reached ts rest v = record {
      front = v.front;
      whole = v.whole;
      goes = λ r h.
          let c = completes r h in
          let d = v.goes (c.0 ++ r) c.1 in
          let b = c.2 d.1 in
          (d.0 ++ c.0, b.0, ap (λ l. (p >>= f) (v.front ++ l)) (append_assoc d.0 c.0 r) ∙ ap (λ q. and_then q f) d.2 ∙ b.1, subst (Alike small v.front rest) (sym (append_assoc d.0 c.0 r)) (alike_fewer v.front rest (d.0 ++ (c.0 ++ r)) d.3));
    }

    ends_reached : (ts : List T) (a : A) (rest left : List T) → Leads large p ts (Read a rest) → rest ≡ left → Reached small (p >>= f) ts left
    ends_reached ts a rest left first same = record {
      front = first.front;
      whole = first.whole ∙ ap (λ l. first.front ++ l) same;
      goes = λ r h.
          let c = completes r h in
          let b = c.2 a in
          (c.0, b.0, ap (λ q. and_then q f) (first.again (c.0 ++ r) (inr c.1)) ∙ b.1, alike_fewer first.front left (c.0 ++ r) (alike_end large first.front left (c.0 ++ r) c.1));
    }

    second_reached : (ts : List T) (a : A) (rest left : List T) → Leads large p ts (Read a rest) → (front : List T) → rest ≡ front ++ left → ((r : List T) → IsEnd small r → CompletionAlike small (f a) front left r) → Reached small (p >>= f) ts left
    second_reached ts a rest left first [] whole goes = ends_reached ts a rest left first whole
    second_reached ts a rest left first (x ∷ xs) whole goes = record {
      front = first.front ++ (x ∷ xs);
      whole = first.whole ∙ ap (λ l. first.front ++ l) whole ∙ sym (append_assoc first.front (x ∷ xs) left);
      goes = λ r h.
          let c = goes r h in
          (c.0, c.1, ap (p >>= f) (append_assoc first.front (x ∷ xs) (c.0 ++ r)) ∙ ap (λ q. and_then q f) (first.again ((x ∷ xs) ++ (c.0 ++ r)) (inl (sym (ap head whole)))) ∙ c.2, alike_after small first.front x xs left (c.0 ++ r) c.3);
    }

    reaches_after : (ts : List T) (a : A) (rest left : List T) → Leads large p ts (Read a rest) → Reaches small (f a) rest left → Reaches small (p >>= f) ts left
    reaches_after ts a rest left first (near b e plain) = far b plain (ends_reached ts a rest (b ++ left) first e)
    reaches_after ts a rest left first (far b plain g) = far b plain (second_reached ts a rest (b ++ left) first g.front g.whole g.goes)

    reaches_first : (ts left : List T) → Reaches large p ts left → Reaches small (p >>= f) ts left
    reaches_first ts left (near b e plain) = near b e plain
    reaches_first ts left (far b plain g) = far b plain (first_reached ts (b ++ left) g)

    same_head : (front more left : List T) (t : T) → head (front ++ t ∷ more) ≡ head (front ++ t ∷ left)
    same_head [] more left t = refl
    same_head (x ∷ front) more left t = refl

    barred_after : (ts : List T) (a : A) (rest left : List T) (t : T) → Leads large p ts (Read a rest) → Barred small (f a) rest t left → Barred small (p >>= f) ts t left
    barred_after ts a rest left t first b = record {
      front = first.front ++ b.front;
      whole = first.whole ∙ ap (λ l. first.front ++ l) b.whole ∙ sym (append_assoc first.front b.front (t ∷ left));
      opened = b.opened;
      again = λ more h. ap (p >>= f) (append_assoc first.front b.front (t ∷ more)) ∙ ap (λ q. and_then q f) (first.again (b.front ++ t ∷ more) (inl (same_head b.front more left t ∙ sym (ap head b.whole)))) ∙ b.again more h;
    }

    viable_after : (ts : List T) (a : A) (rest : List T) (o : Outcome T B) → Leads large p ts (Read a rest) → CarefulAt small rest o → ViableAt small (f a) rest o → ViableAt small (p >>= f) ts o
    viable_after ts a rest (Read b left) first c second = tt
    viable_after ts a rest (Stopped TooDeep left) first c (inl same) = absurd (omega (arith, ap length same))
    viable_after ts a rest (Stopped TooDeep left) first c (inr (t, o, second)) = inr (t, barred_after ts a rest left t first o, reaches_after ts a rest (t ∷ left) first second)
    viable_after ts a rest (Stopped Unexpected left) first c second = reaches_after ts a rest left first second

    viable_bind : ((a : A) → IsCareful small (f a)) → ((a : A) → IsViable small (f a)) → (ts : List T) (o : Outcome T A) → Leads large p ts o → ViableAt large p ts o → ViableAt small (p >>= f) ts (and_then o f)
    viable_bind cf vf ts (Read a rest) first v = viable_after ts a rest (f a rest) first (cf a rest) (vf a rest)
    viable_bind cf vf ts (Stopped TooDeep rest) first (inl same) = inl same
    viable_bind cf vf ts (Stopped TooDeep rest) first (inr (t, o, v)) = inr (t, record { front = o.front; whole = o.whole; opened = o.opened; again = λ more h. ap (λ q. and_then q f) (o.again more h) }, reaches_first ts (t ∷ rest) v)
    viable_bind cf vf ts (Stopped Unexpected rest) first v = reaches_first ts rest v

    -- what is read by f in one room, and by its own reader in another
    deep_second : (ts : List T) (a : A) (rest : List T) (o : Outcome T B) → Leads large p ts (Read a rest) → DeepAt small (f a) rest o → DeepAt small (p >>= f) ts o
    deep_second ts a rest (Read b left) l d = tt
    deep_second ts a rest (Stopped r left) l d = second_after ts a rest left l d.front d.whole d.goes

  module _ {A B : Type 0} (p q : Reader T A) (f g : A → Reader T B) (cf : CompletesAfter f) (cg : CompletesAfter g) where
    deep_bind : IsLocal large q → ((a : A) → Deepens small (f a) (g a)) → (ts : List T) (o : Outcome T A) → RisesTo o (q ts) → DeepAt large q ts o → DeepAt small (q >>= g) ts (and_then o f)
    deep_bind lq fg ts (Read a rest) up d = deep_second q g cg ts a rest (f a rest) (subst (Leads large q ts) up (lq ts)) (fg a rest)
    deep_bind lq fg ts (Stopped r rest) up d = first_after q g cg ts rest d

    pub fine_after : IsFine large p q → ((a : A) → IsFine small (f a) (g a)) → ((a : A) → IsCareful small (f a)) → ((a : A) → IsCareful small (g a)) → IsFine small (p >>= f) (q >>= g)
    fine_after pq fg df dg = record {
      local = local-bind small p f (local_fewer p pq.local) df (λ a. (fg a).local);
      deeper = local-bind small q g (local_fewer q pq.deeper) dg (λ a. (fg a).deeper);
      viable = λ ts. viable_bind p f cf df (λ a. (fg a).viable) ts (p ts) (pq.local ts) (pq.viable ts);
      below = below-bind p q f g pq.below (λ a. (fg a).below);
      deepens = λ ts. deep_bind pq.deeper (λ a. (fg a).deepens) ts (p ts) (pq.below ts) (pq.deepens ts);
    }
