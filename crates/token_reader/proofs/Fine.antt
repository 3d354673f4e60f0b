-- All laws of a reader at once, combinator by combinator: of a reader where so many levels may be open, and of the same
-- reader with one level more.
use Rattle.std.proofs.Common.{◌≡◌, ℕ, zero, suc, Bool, true, false, List, [], ◌∷◌, ◌++◌, Option, Some, None, refl, inl, inr}
use Rattle.std.specs.Prelude.{IsTrue}
use Rattle.token_reader.specs.inner.Reader.{Signs, TooDeep, Read, Reader, Turn, Lister, give, refuse, ◌>>=◌, when, take_by, expect, if_next, or_else, alone, opened, many}
use Rattle.token_reader.proofs.LocalLaws.{IsEnd, IsCareful, IsLocal, IsLocalTurn, Declines, Stays, local-give, local-refuse, local-bind, local-take_by, local-if_next, local-or_else, local-alone}
use Rattle.token_reader.proofs.ManyLaws.{many_end, careful-many, local-many}
use Rattle.token_reader.proofs.CarefulLaws.{careful-give, careful-bind, careful-take_by, careful-if_next, careful-or_else}
use Rattle.token_reader.proofs.ViableLaws.{IsViable, Passes, plainly, opening, at_once, IsViableTurn, Completes, CompletesAll, CompletesEach, Begins, Skips, viable-give, viable-too_deep, viable-bind, viable-take_by, viable-if_next, viable-or_else, viable-many, viable-alone, completes-give, completes-each, each-give, each-one, each-expect, all-expect, all-skips, all-begins, skips-if_next}
use Rattle.token_reader.proofs.RoomLaws.{IsBelow, IsTurnBelow, below_same, below-bind, below-take_by, below-if_next, below-or_else, below-many, below-alone, Deepens, TurnDeepens, deepens-give, deepens-refuse, deepens-bind, deepens-take_by, deepens-if_next, deepens-or_else, deepens-many, deepens-alone}

module _ {T : Type 0} (s : Signs T) where
  pub record IsFine {A : Type 0} (p q : Reader T A) : Type 0 where
    pub local : IsLocal s p
    pub deeper : IsLocal s q
    pub viable : IsViable s p
    pub below : IsBelow p q
    pub deepens : Deepens s p q

  abbrev pub IsFineTurn : {A : Type 0} → T → Option (Reader T A) → Option (Reader T A) → Type 0
  IsFineTurn t (Some p) (Some q) = IsFine p q × Passes s t p
  IsFineTurn t (Some p) None = ⊥
  IsFineTurn t None (Some q) = ⊥
  IsFineTurn t None None = Unit {0}

  -- what may stand after something that was read
  pub record GoesOn {A B : Type 0} (f g : A → Reader T B) : Type 0 where
    pub each : (a : A) → IsFine (f a) (g a)
    pub careful : (a : A) → IsCareful s (f a)
    pub deeper_careful : (a : A) → IsCareful s (g a)
    pub completes : CompletesAll s f
    pub deeper : CompletesAll s g

  module _ {A : Type 0} where
    pub turn_local : (t : T) (o p : Option (Reader T A)) → IsFineTurn t o p → IsLocalTurn s o
    turn_local t (Some p) (Some q) h = h.0.local
    turn_local t (Some p) None h = absurd h
    turn_local t None (Some q) h = absurd h
    turn_local t None None h = tt

    pub turn_deeper : (t : T) (o p : Option (Reader T A)) → IsFineTurn t o p → IsLocalTurn s p
    turn_deeper t (Some p) (Some q) h = h.0.deeper
    turn_deeper t (Some p) None h = absurd h
    turn_deeper t None (Some q) h = absurd h
    turn_deeper t None None h = tt

    turn_viable : (t : T) (o p : Option (Reader T A)) → IsFineTurn t o p → IsViableTurn s t o
    turn_viable t (Some p) (Some q) h = (h.0.viable, h.1)
    turn_viable t (Some p) None h = absurd h
    turn_viable t None (Some q) h = absurd h
    turn_viable t None None h = tt

    turn_below : (t : T) (o p : Option (Reader T A)) → IsFineTurn t o p → IsTurnBelow o p
    turn_below t (Some p) (Some q) h = h.0.below
    turn_below t (Some p) None h = absurd h
    turn_below t None (Some q) h = absurd h
    turn_below t None None h = tt

    turn_deepens : (t : T) (o p : Option (Reader T A)) → IsFineTurn t o p → TurnDeepens s o p
    turn_deepens t (Some p) (Some q) h = h.0.deepens
    turn_deepens t (Some p) None h = absurd h
    turn_deepens t None (Some q) h = absurd h
    turn_deepens t None None h = tt

  pub fine-give : {A : Type 0} (a : A) → IsFine (give a) (give a)
  fine-give a = record { local = local-give s a; deeper = local-give s a; viable = viable-give s a; below = below_same (give a); deepens = deepens-give s a }

  pub fine-too_deep : {A : Type 0} (q : Reader T A) → IsLocal s q → Completes s q → IsFine (refuse TooDeep) q
  fine-too_deep {A} q lq cq = record { local = local-refuse s TooDeep; deeper = lq; viable = viable-too_deep s A; below = λ ts. tt; deepens = deepens-refuse s q cq }

  pub fine-bind : {A B : Type 0} (p q : Reader T A) (f g : A → Reader T B) → IsFine p q → GoesOn f g → IsFine (p >>= f) (q >>= g)
  fine-bind p q f g pq fg = record {
    local = local-bind s p f pq.local fg.careful (λ a. (fg.each a).local);
    deeper = local-bind s q g pq.deeper fg.deeper_careful (λ a. (fg.each a).deeper);
    viable = viable-bind s p f fg.completes pq.local pq.viable fg.careful (λ a. (fg.each a).viable);
    below = below-bind p q f g pq.below (λ a. (fg.each a).below);
    deepens = deepens-bind s p q f g fg.deeper pq.deeper pq.below pq.deepens (λ a. (fg.each a).deepens);
  }

  module _ {A : Type 0} (f g : Turn T A) (turns : (t : T) → IsFineTurn t (f t) (g t)) where
    pub fine-take_by : Completes s (take_by g) → IsFine (take_by f) (take_by g)
    fine-take_by c = record {
      local = local-take_by s f (λ t. turn_local t (f t) (g t) (turns t));
      deeper = local-take_by s g (λ t. turn_deeper t (f t) (g t) (turns t));
      viable = viable-take_by s f (λ t. turn_viable t (f t) (g t) (turns t));
      below = below-take_by f g (λ t. turn_below t (f t) (g t) (turns t));
      deepens = deepens-take_by s f g (λ t. turn_deepens t (f t) (g t) (turns t)) c;
    }

    pub careful-turns : IsCareful s (take_by f)
    careful-turns = careful-take_by s f (λ t. turn_local t (f t) (g t) (turns t))

    pub careful-deeper : IsCareful s (take_by g)
    careful-deeper = careful-take_by s g (λ t. turn_deeper t (f t) (g t) (turns t))

    pub fine-if_next : Declines s f → Declines s g → (a : A) → IsFine (if_next f a) (if_next g a)
    fine-if_next df dg a = record {
      local = local-if_next s f df a (λ t. turn_local t (f t) (g t) (turns t));
      deeper = local-if_next s g dg a (λ t. turn_deeper t (f t) (g t) (turns t));
      viable = viable-if_next s f a (λ t. turn_viable t (f t) (g t) (turns t));
      below = below-if_next f g (λ t. turn_below t (f t) (g t) (turns t)) a;
      deepens = deepens-if_next s f g (λ t. turn_deepens t (f t) (g t) (turns t)) a;
    }

    pub careful-may : (a : A) → IsCareful s (if_next f a)
    careful-may a = careful-if_next s f (λ t. turn_local t (f t) (g t) (turns t)) a

    pub careful-may_deeper : (a : A) → IsCareful s (if_next g a)
    careful-may_deeper a = careful-if_next s g (λ t. turn_deeper t (f t) (g t) (turns t)) a

    module _ (p q : Reader T A) (pq : IsFine p q) (cp : Completes s (or_else f p)) (cq : Completes s (or_else g q)) where
      pub fine-or_else : Stays s f p → Stays s g q → IsFine (or_else f p) (or_else g q)
      fine-or_else sp sq = record {
        local = local-or_else s f p pq.local sp (λ t. turn_local t (f t) (g t) (turns t));
        deeper = local-or_else s g q pq.deeper sq (λ t. turn_deeper t (f t) (g t) (turns t));
        viable = viable-or_else s f p pq.viable cp (λ t. turn_viable t (f t) (g t) (turns t));
        below = below-or_else f g (λ t. turn_below t (f t) (g t) (turns t)) p q pq.below;
        deepens = deepens-or_else s f g (λ t. turn_deepens t (f t) (g t) (turns t)) p q pq.deepens cq;
      }

      pub careful-or : IsCareful s p → IsCareful s (or_else f p)
      careful-or c = careful-or_else s f (λ t. turn_local t (f t) (g t) (turns t)) p c

      pub careful-or_deeper : IsCareful s q → IsCareful s (or_else g q)
      careful-or_deeper c = careful-or_else s g (λ t. turn_deeper t (f t) (g t) (turns t)) q c

  abbrev pub lister : {A L : Type 0} → L → (A → L → L) → Turn T A → Lister T A L
  lister none more turn = record { turn = turn; none = none; more = more }

  module _ {A L : Type 0} (none : L) (more : A → L → L) (f g : Turn T A) (turns : (t : T) → IsFineTurn t (f t) (g t)) (df : Declines s f) (dg : Declines s g) where
    pub fine-many : IsFine (many (lister none more f)) (many (lister none more g))
    fine-many = record {
      local = local-many s (lister none more f) (λ t. turn_local t (f t) (g t) (turns t)) df;
      deeper = local-many s (lister none more g) (λ t. turn_deeper t (f t) (g t) (turns t)) dg;
      viable = viable-many s (lister none more f) (λ t. turn_local t (f t) (g t) (turns t)) df (λ t. turn_viable t (f t) (g t) (turns t));
      below = below-many f g (λ t. turn_below t (f t) (g t) (turns t)) none more;
      deepens = deepens-many s (lister none more f) (lister none more g) (λ t. turn_local t (f t) (g t) (turns t)) (λ t. turn_deeper t (f t) (g t) (turns t)) dg (λ a us. refl) (λ t. turn_below t (f t) (g t) (turns t)) (λ t. turn_deepens t (f t) (g t) (turns t));
    }

    pub careful-all : IsCareful s (many (lister none more f))
    careful-all = careful-many s (lister none more f) (λ t. turn_local t (f t) (g t) (turns t))

    pub careful-all_deeper : IsCareful s (many (lister none more g))
    careful-all_deeper = careful-many s (lister none more g) (λ t. turn_deeper t (f t) (g t) (turns t))

    pub skips-many : Skips s none (many (lister none more f))
    skips-many r h = many_end s (lister none more f) (λ t. turn_local t (f t) (g t) (turns t)) df r h

    pub skips-deeper : Skips s none (many (lister none more g))
    skips-deeper r h = many_end s (lister none more g) (λ t. turn_deeper t (f t) (g t) (turns t)) dg r h

  pub fine-alone : {A : Type 0} (p q : Reader T A) → IsFine p q → IsFine (alone p) (alone q)
  fine-alone p q pq = record { local = local-alone s p pq.local; deeper = local-alone s q pq.deeper; viable = viable-alone s p pq.viable; below = below-alone p q pq.below; deepens = deepens-alone s p q pq.deepens }

  pub fine_when : {A : Type 0} (t : T) (p q : Reader T A) → IsFine p q → (b : Bool) → (b ≡ true → Passes s t p) → IsFineTurn t (when b p) (when b q)
  fine_when t p q pq true c = (pq, c refl)
  fine_when t p q pq false c = tt

  -- what is read after a token that opens a level, if it may open one, whatever stands there
  pub passes_both : {A : Type 0} (t : T) (p : Reader T A) → (s.opens t ≡ true → (more : List T) → s.bars t more ≡ true) → IsCareful s p → Completes s p → Passes s t p
  passes_both t p always careful c = by (s.opens t) refl
    where
      by : (b : Bool) → s.opens t ≡ b → Passes s t p
      by true h = opening h careful (λ r e. let d = c r e in (d.0, d.1, d.2, inl (always h (d.0 ++ r))))
      by false h = plainly h careful

  -- and where what is read may begin with a token that is none of those that tell that none is opened
  pub passes_begun : {A : Type 0} (t u : T) (p : Reader T A) → s.calms u ≡ false → IsCareful s p → ((r : List T) → IsEnd s r → (more : List T) × (a : A) × (p (u ∷ (more ++ r)) ≡ Read a r)) → Passes s t p
  passes_begun t u p calm careful c = by (s.opens t) refl
    where
      by : (b : Bool) → s.opens t ≡ b → Passes s t p
      by true h = opening h careful (λ r e. let d = c r e in (u ∷ d.0, d.1, d.2, inr calm))
      by false h = plainly h careful

  module _ {A : Type 0} (test : T → Bool) (t : T) (fits : test t ≡ true) (p q : Reader T A) (pq : IsFine p q) (passes : (t : T) → test t ≡ true → Passes s t p) where
    pub fine-expect : Completes s q → IsFine (expect test p) (expect test q)
    fine-expect cq = fine-take_by (λ t. when (test t) p) (λ t. when (test t) q) (λ t. fine_when t p q pq (test t) (passes t)) (completes-each s {A = Unit {0}} (λ a. expect test q) (each-expect s test t fits (λ a. q) (each-one s q cq)) tt)

    pub careful-expect : IsCareful s (expect test p)
    careful-expect = careful-turns (λ t. when (test t) p) (λ t. when (test t) q) (λ t. fine_when t p q pq (test t) (passes t))

    pub careful-expect_deeper : IsCareful s (expect test q)
    careful-expect_deeper = careful-deeper (λ t. when (test t) p) (λ t. when (test t) q) (λ t. fine_when t p q pq (test t) (passes t))

  pub on-give : {A B : Type 0} (h : A → B) → GoesOn (λ a. give (h a)) (λ a. give (h a))
  on-give h = record { each = λ a. fine-give (h a); careful = λ a. careful-give s (h a); deeper_careful = λ a. careful-give s (h a); completes = completes-give s h; deeper = completes-give s h }

  pub mapped : {A B : Type 0} (p q : Reader T A) (h : A → B) → IsFine p q → IsFine (p >>= λ a. give (h a)) (q >>= λ a. give (h a))
  mapped p q h pq = fine-bind p q (λ a. give (h a)) (λ a. give (h a)) pq (on-give h)

  module _ {A B : Type 0} (test : T → Bool) (t : T) (fits : test t ≡ true) (e : IsTrue (s.ends t)) where
    pub on-expect : (f g : A → Reader T B) → ((a : A) → IsFine (f a) (g a)) → ((a : A) (t : T) → test t ≡ true → Passes s t (f a)) → CompletesEach s f → CompletesEach s g → GoesOn (λ a. expect test (f a)) (λ a. expect test (g a))
    on-expect f g fg passes cf cg = record {
      each = λ a. fine-expect test t fits (f a) (g a) (fg a) (passes a) (completes-each s g cg a);
      careful = λ a. careful-expect test t fits (f a) (g a) (fg a) (passes a);
      deeper_careful = λ a. careful-expect_deeper test t fits (f a) (g a) (fg a) (passes a);
      completes = all-expect s test t fits f cf e;
      deeper = all-expect s test t fits g cg e;
    }

    pub on-close : ((t : T) → test t ≡ true → s.opens t ≡ false) → (h : A → B) → GoesOn (λ a. expect test (give (h a))) (λ a. expect test (give (h a)))
    on-close plain h = on-expect (λ a. give (h a)) (λ a. give (h a)) (λ a. fine-give (h a)) (λ a t i. plainly (plain t i) (careful-give s (h a))) (each-give s h) (each-give s h)

    pub closed : ((t : T) → test t ≡ true → s.opens t ≡ false) → (p q : Reader T A) (h : A → B) → IsFine p q → IsFine (p >>= λ a. expect test (give (h a))) (q >>= λ a. expect test (give (h a)))
    closed plain p q h pq = fine-bind p q (λ a. expect test (give (h a))) (λ a. expect test (give (h a))) pq (on-close plain h)

  module _ {A B C : Type 0} (p q : Reader T B) (pq : IsFine p q) (careful : IsCareful s p) (deeper_careful : IsCareful s q) (f g : A → B → Reader T C) (fg : GoesOn {A = A × B} (λ x. f x.0 x.1) (λ x. g x.0 x.1)) where
    inner : (a : A) → GoesOn (f a) (g a)
    inner a = record {
      each = λ b. fg.each (a, b);
      careful = λ b. fg.careful (a, b);
      deeper_careful = λ b. fg.deeper_careful (a, b);
      completes = λ r h. let c = fg.completes r h in (c.0, c.1, λ b. c.2 (a, b));
      deeper = λ r h. let c = fg.deeper r h in (c.0, c.1, λ b. c.2 (a, b));
    }

    pub on-skips : (b : B) → Skips s b p → Skips s b q → GoesOn (λ a. p >>= f a) (λ a. q >>= g a)
    on-skips b sp sq = record {
      each = λ a. fine-bind p q (f a) (g a) pq (inner a);
      careful = λ a. careful-bind s p (f a) pq.local careful (λ b. fg.careful (a, b));
      deeper_careful = λ a. careful-bind s q (g a) pq.deeper deeper_careful (λ b. fg.deeper_careful (a, b));
      completes = all-skips s p f fg.completes b sp;
      deeper = all-skips s q g fg.deeper b sq;
    }

    pub on-begins : (t : T) → IsTrue (s.ends t) → Begins s t p → Begins s t q → GoesOn (λ a. p >>= f a) (λ a. q >>= g a)
    on-begins t e sp sq = record {
      each = λ a. fine-bind p q (f a) (g a) pq (inner a);
      careful = λ a. careful-bind s p (f a) pq.local careful (λ b. fg.careful (a, b));
      deeper_careful = λ a. careful-bind s q (g a) pq.deeper deeper_careful (λ b. fg.deeper_careful (a, b));
      completes = all-begins s p f fg.completes t e sp;
      deeper = all-begins s q g fg.deeper t e sq;
    }

  -- of one thing that was read alone
  pub on-one : {A B : Type 0} (f g : A → Reader T B) → GoesOn f g → GoesOn {A = Unit {0} × A} (λ x. f x.1) (λ x. g x.1)
  on-one f g fg = record {
    each = λ x. fg.each x.1;
    careful = λ x. fg.careful x.1;
    deeper_careful = λ x. fg.deeper_careful x.1;
    completes = λ r h. let c = fg.completes r h in (c.0, c.1, λ x. c.2 x.1);
    deeper = λ r h. let c = fg.deeper r h in (c.0, c.1, λ x. c.2 x.1);
  }

  module _ {A B : Type 0} (f g : A → Turn T B) (turns : (a : A) (t : T) → IsFineTurn t (f a t) (g a t)) where
    -- a token that may come
    pub on-if_next : ((a : A) → Declines s (f a)) → ((a : A) → Declines s (g a)) → (h : A → B) → GoesOn (λ a. if_next (f a) (h a)) (λ a. if_next (g a) (h a))
    on-if_next df dg h = record {
      each = λ a. fine-if_next (f a) (g a) (turns a) (df a) (dg a) (h a);
      careful = λ a. careful-may (f a) (g a) (turns a) (h a);
      deeper_careful = λ a. careful-may_deeper (f a) (g a) (turns a) (h a);
      completes = λ r e. ([], e, λ a. (h a, skips-if_next s (f a) (df a) (h a) r e));
      deeper = λ r e. ([], e, λ a. (h a, skips-if_next s (g a) (dg a) (h a) r e));
    }

  -- what opens a level
  pub passes_opened : {A : Type 0} (t : T) (room : ℕ) (p : Reader T A) → IsTrue (s.opens t) → ((more : List T) → s.bars t more ≡ true) → ((r : ℕ) → room ≡ suc r → IsCareful s p) → ((r : ℕ) → room ≡ suc r → Completes s p) → Passes s t (opened room p)
  passes_opened t zero p o b d c = at_once o b (λ ts. refl)
  passes_opened t (suc room) p o b d c = opening o (d room refl) (λ r h. let x = c room refl r h in (x.0, x.1, x.2, inl (b (x.0 ++ r))))

  pub fine_opened : {A : Type 0} (room : ℕ) (p q : Reader T A) → ((r : ℕ) → room ≡ suc r → IsFine p q) → IsLocal s q → Completes s q → IsFine (opened room p) q
  fine_opened zero p q pq lq cq = fine-too_deep q lq cq
  fine_opened (suc room) p q pq lq cq = pq room refl
