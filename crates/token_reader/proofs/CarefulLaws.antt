-- A reader that stops at a level too deep has passed a token.
use Rattle.std.proofs.Common.{ℕ, ◌≤◌, Bool, List, [], ◌∷◌, length, Option, Some, None, arith}
use Rattle.token_reader.specs.inner.Reader.{Signs, Unexpected, TooDeep, Outcome, Read, Stopped, Reader, Turn, give, and_then, ◌>>=◌, when, taken, take_by, expect, tried, if_next, chosen, or_else, noted, alone, rest_of}
use Rattle.token_reader.proofs.LocalLaws.{CarefulAt, IsCareful, IsLocal, IsLocalTurn, shorter, local_when, local-give, local-bind, local-expect}

module _ {T : Type 0} (s : Signs T) where
  pub careful-give : {A : Type 0} (a : A) → IsCareful s (give a)
  careful-give a ts = tt

  -- it has passed a token already
  careful_after : {A : Type 0} (t : T) (ts : List T) (o : Outcome T A) → length (rest_of o) ≤ length ts → CarefulAt s (t ∷ ts) o
  careful_after t ts (Read a rest) h = tt
  careful_after t ts (Stopped Unexpected rest) h = tt
  careful_after t ts (Stopped TooDeep rest) h = omega arith

  careful_later : {A : Type 0} (ts us : List T) (o : Outcome T A) → length us ≤ length ts → CarefulAt s us o → CarefulAt s ts o
  careful_later ts us (Read a rest) h c = tt
  careful_later ts us (Stopped Unexpected rest) h c = tt
  careful_later ts us (Stopped TooDeep rest) h c = omega arith

  module _ {A B : Type 0} (p : Reader T A) (f : A → Reader T B) where
    pub bind_careful : ((a : A) → IsCareful s (f a)) → (ts : List T) (o : Outcome T A) → length (rest_of o) ≤ length ts → CarefulAt s ts o → CarefulAt s ts (and_then o f)
    bind_careful cf ts (Read a rest) h c = careful_later ts rest (f a rest) h (cf a rest)
    bind_careful cf ts (Stopped Unexpected rest) h c = tt
    bind_careful cf ts (Stopped TooDeep rest) h c = c

    pub careful-bind : IsLocal s p → IsCareful s p → ((a : A) → IsCareful s (f a)) → IsCareful s (p >>= f)
    careful-bind lp cp cf ts = bind_careful cf ts (p ts) (shorter s p ts (p ts) (lp ts)) (cp ts)

  module _ {A : Type 0} (f : Turn T A) (local : (t : T) → IsLocalTurn s (f t)) where
    taken_careful : (t : T) (o : Option (Reader T A)) → IsLocalTurn s o → (ts : List T) → CarefulAt s (t ∷ ts) (taken o t ts)
    taken_careful t (Some p) lo ts = careful_after t ts (p ts) (shorter s p ts (p ts) (lo ts))
    taken_careful t None lo ts = tt

    pub careful-take_by : IsCareful s (take_by f)
    careful-take_by [] = tt
    careful-take_by (t ∷ ts) = taken_careful t (f t) (local t) ts

    module _ (a : A) where
      tried_careful : (t : T) (o : Option (Reader T A)) → IsLocalTurn s o → (ts : List T) → CarefulAt s (t ∷ ts) (tried o a t ts)
      tried_careful t (Some p) lo ts = careful_after t ts (p ts) (shorter s p ts (p ts) (lo ts))
      tried_careful t None lo ts = tt

      pub careful-if_next : IsCareful s (if_next f a)
      careful-if_next [] = tt
      careful-if_next (t ∷ ts) = tried_careful t (f t) (local t) ts

  module _ {A : Type 0} (f : Turn T A) (local : (t : T) → IsLocalTurn s (f t)) (q : Reader T A) (careful : IsCareful s q) where
    chosen_careful : (t : T) (o : Option (Reader T A)) → IsLocalTurn s o → (ts : List T) → CarefulAt s (t ∷ ts) (chosen o q t ts)
    chosen_careful t (Some p) lo ts = careful_after t ts (p ts) (shorter s p ts (p ts) (lo ts))
    chosen_careful t None lo ts = careful (t ∷ ts)

    pub careful-or_else : IsCareful s (or_else f q)
    careful-or_else [] = careful []
    careful-or_else (t ∷ ts) = chosen_careful t (f t) (local t) ts

  alone_careful : {A : Type 0} (ts : List T) (n : ℕ) (o : Outcome T A) → CarefulAt s ts o → CarefulAt s ts (noted n o)
  alone_careful ts n (Read a rest) h = tt
  alone_careful ts n (Stopped Unexpected rest) h = tt
  alone_careful ts n (Stopped TooDeep rest) h = h

  pub careful-alone : {A : Type 0} (p : Reader T A) → IsCareful s p → IsCareful s (alone p)
  careful-alone p c ts = alone_careful ts (length ts) (p ts) (c ts)

  pub careful-test : {A : Type 0} (test : T → Bool) (p : Reader T A) → IsLocal s p → IsCareful s (expect test p)
  careful-test test p lp = careful-take_by (λ t. when (test t) p) (λ t. local_when s p lp (test t))

  -- after what was read, a closing token
  pub local-closed : {A B : Type 0} (test : T → Bool) (p : Reader T A) (h : A → B) → IsLocal s p → IsLocal s (p >>= λ a. expect test (give (h a)))
  local-closed test p h lp = local-bind s p (λ a. expect test (give (h a))) lp (λ a. careful-test test (give (h a)) (local-give s (h a))) (λ a. local-expect s test (give (h a)) (local-give s (h a)))

  pub local-mapped : {A B : Type 0} (p : Reader T A) (h : A → B) → IsLocal s p → IsLocal s (p >>= λ a. give (h a))
  local-mapped p h lp = local-bind s p (λ a. give (h a)) lp (λ a. careful-give (h a)) (λ a. local-give s (h a))
