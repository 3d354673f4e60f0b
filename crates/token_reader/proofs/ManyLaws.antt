-- Laws of reading as many items as come.
use Rattle.std.proofs.Common.{◌≡◌, ℕ, zero, suc, ◌≤◌, List, [], ◌∷◌, ◌++◌, length, Option, Some, None, refl, sym, ap, subst, ◌∙◌, inl, inr, arith, append_assoc}
use Rattle.std.specs.Prelude.{◌⊎◌}
use Rattle.std.proofs.lemmas.Option.{same_Some}
use Rattle.token_reader.specs.inner.Reader.{Signs, Unexpected, TooDeep, Outcome, Read, Stopped, Reader, Lister, give, and_then, ◌>>=◌, loop, looped, many, head, rest_of}
use Rattle.token_reader.proofs.LocalLaws.{IsEnd, CarefulAt, IsCareful, Leads, IsLocal, IsLocalTurn, Declines, follows_front, shorter}

module _ {T : Type 0} (s : Signs T) where
  module _ {A L : Type 0} (l : Lister T A L) where
    module _ (us vs : Reader T L) (k : ℕ) (same : (ts : List T) → length ts ≤ k → us ts ≡ vs ts) where
      next_same : (o : Outcome T A) → length (rest_of o) ≤ k → and_then o (λ a. us >>= λ rest. give (l.more a rest)) ≡ and_then o (λ a. vs >>= λ rest. give (l.more a rest))
      next_same (Stopped r rest) h = refl
      next_same (Read a rest) h = ap (λ q. and_then q (λ others. give (l.more a others))) (same rest h)

      turn_same : (o : Option (Reader T A)) → IsLocalTurn s o → (t : T) (ts : List T) → length ts ≤ k → looped l us o t ts ≡ looped l vs o t ts
      turn_same None lo t ts h = refl
      turn_same (Some p) lo t ts h = next_same (p ts) (let s = shorter s p ts (p ts) (lo ts) in omega arith)

    module _ (local : (t : T) → IsLocalTurn s (l.turn t)) where
      loop_fuel : (n m : ℕ) (ts : List T) → length ts ≤ n → length ts ≤ m → loop l n ts ≡ loop l m ts
      unfolding loop
      loop_fuel zero zero ts h k = refl
      loop_fuel zero (suc m) [] h k = refl
      loop_fuel zero (suc m) (t ∷ ts) h k = absurd (omega arith)
      loop_fuel (suc n) zero [] h k = refl
      loop_fuel (suc n) zero (t ∷ ts) h k = absurd (omega arith)
      loop_fuel (suc n) (suc m) [] h k = refl
      loop_fuel (suc n) (suc m) (t ∷ ts) h k =
          let here : length ts ≤ n = omega arith in
          let there : length ts ≤ m = omega arith in
          turn_same (loop l n) (loop l m) (length ts) (λ us le. loop_fuel n m us (omega arith) (omega arith)) (l.turn t) (local t) t ts (omega arith)

      -- one turn, and then the others
      pub many_again : (t : T) (ts : List T) → many l (t ∷ ts) ≡ looped l (many l) (l.turn t) t ts
      unfolding loop many
      many_again t ts = turn_same (loop l (length ts)) (many l) (length ts) (λ us le. loop_fuel (length ts) (length us) us le (omega arith)) (l.turn t) (local t) t ts (omega arith)

      pub many_none : many l [] ≡ Read l.none []
      unfolding loop many
      many_none = refl

      give_short : (k : ℕ) (a : A) (o : Outcome T L) → length (rest_of o) ≤ k → length (rest_of (and_then o (λ rest. give {T = T} (l.more a rest)))) ≤ k
      give_short k a (Read us rest) h = h
      give_short k a (Stopped r rest) h = h

      item_short : (n : ℕ) → ((ts : List T) → length ts ≤ n → length (rest_of (many l ts)) ≤ length ts) → (k : ℕ) → k ≤ n → (o : Outcome T A) → length (rest_of o) ≤ k → length (rest_of (and_then o (λ a. many l >>= λ rest. give (l.more a rest)))) ≤ k
      item_short n others k h (Read a rest) m = give_short k a (many l rest) (let o = others rest (omega arith) in omega arith)
      item_short n others k h (Stopped r rest) m = m

      turn_short : (n : ℕ) → ((ts : List T) → length ts ≤ n → length (rest_of (many l ts)) ≤ length ts) → (t : T) (o : Option (Reader T A)) → IsLocalTurn s o → (ts : List T) → length ts ≤ n → CarefulAt s (t ∷ ts) (looped l (many l) o t ts) × (length (rest_of (looped l (many l) o t ts)) ≤ length (t ∷ ts))
      turn_short n others t None lo ts h = (tt, omega arith)
      turn_short n others t (Some p) lo ts h =
          let k = item_short n others (length ts) h (p ts) (shorter s p ts (p ts) (lo ts)) in
          (passed (and_then (p ts) (λ a. many l >>= λ rest. give (l.more a rest))) k, omega arith)
        where
          passed : (o : Outcome T L) → length (rest_of o) ≤ length ts → CarefulAt s (t ∷ ts) o
          passed (Read us rest) h = tt
          passed (Stopped Unexpected rest) h = tt
          passed (Stopped TooDeep rest) h = omega arith

      many_short : (n : ℕ) (ts : List T) → length ts ≤ n → CarefulAt s ts (many l ts) × (length (rest_of (many l ts)) ≤ length ts)
      many_short n [] h = (subst (CarefulAt s []) (sym many_none) tt, omega (arith, ap (λ o. length (rest_of o)) many_none))
      many_short zero (t ∷ ts) h = absurd (omega arith)
      many_short (suc n) (t ∷ ts) h =
          let r = turn_short n (λ us le. (many_short n us le).1) t (l.turn t) (local t) ts (omega arith) in
          (subst (CarefulAt s (t ∷ ts)) (sym (many_again t ts)) r.0, omega (arith, r.1, ap (λ o. length (rest_of o)) (many_again t ts)))

      pub careful-many : IsCareful s (many l)
      careful-many ts = (many_short (length ts) ts (omega arith)).0

      module _ (declines : Declines s l.turn) where
        pub many_end : (more : List T) → IsEnd s more → many l more ≡ Read l.none more
        many_end [] h = many_none
        many_end (x ∷ xs) h = many_again x xs ∙ (λ k. looped l (many l) (declines x h k) x xs)

        -- as many as a bound on the length of what is left allows
        module _ (n : ℕ) (others : (ts : List T) → length ts ≤ n → Leads s (many l) ts (many l ts)) where
          rest_leads : (t : T) (p : Reader T A) → l.turn t ≡ Some p → (ts : List T) (a : A) (rest : List T) → Leads s p ts (Read a rest) → (o : Outcome T L) → CarefulAt s rest o → Leads s (many l) rest o → Leads s (many l) (t ∷ ts) (and_then o (λ us. give (l.more a us)))
          rest_leads t p is ts a rest first (Read us left) c second = record {
            front = t ∷ (first.front ++ second.front);
            whole = ap (λ r. t ∷ r) (first.whole ∙ ap (λ r. first.front ++ r) second.whole ∙ sym (append_assoc first.front second.front left));
            again = λ more h.
                many_again t ((first.front ++ second.front) ++ more)
                ∙ ap (λ o. looped l (many l) o t ((first.front ++ second.front) ++ more)) is
                ∙ ap (λ r. and_then (p r) (λ b. many l >>= λ others. give (l.more b others))) (append_assoc first.front second.front more)
                ∙ ap (λ q. and_then q (λ b. many l >>= λ others. give (l.more b others))) (first.again (second.front ++ more) (follows_front s p (λ b. many l) a rest second.front more (Read us left) c second.whole h))
                ∙ ap (λ q. and_then q (λ others. give (l.more a others))) (second.again more h);
          }
          rest_leads t p is ts a rest first (Stopped r left) c second = record {
            front = t ∷ (first.front ++ second.front);
            whole = ap (λ r. t ∷ r) (first.whole ∙ ap (λ r. first.front ++ r) second.whole ∙ sym (append_assoc first.front second.front left));
            again = λ more h.
                many_again t ((first.front ++ second.front) ++ more)
                ∙ ap (λ o. looped l (many l) o t ((first.front ++ second.front) ++ more)) is
                ∙ ap (λ r. and_then (p r) (λ b. many l >>= λ others. give (l.more b others))) (append_assoc first.front second.front more)
                ∙ ap (λ q. and_then q (λ b. many l >>= λ others. give (l.more b others))) (first.again (second.front ++ more) (follows_front s p (λ b. many l) a rest second.front more (Stopped r left) c second.whole h))
                ∙ ap (λ q. and_then q (λ others. give (l.more a others))) (second.again more h);
          }

          item_leads : (t : T) (p : Reader T A) → l.turn t ≡ Some p → (ts : List T) → length ts ≤ n → (o : Outcome T A) → Leads s p ts o → Leads s (many l) (t ∷ ts) (and_then o (λ a. many l >>= λ rest. give (l.more a rest)))
          item_leads t p is ts h (Read a rest) first = let s = shorter s p ts (Read a rest) first in rest_leads t p is ts a rest first (many l rest) (careful-many rest) (others rest (omega arith))
          item_leads t p is ts h (Stopped r rest) first = record {
            front = t ∷ first.front;
            whole = ap (λ r. t ∷ r) first.whole;
            again = λ more h.
                many_again t (first.front ++ more)
                ∙ ap (λ o. looped l (many l) o t (first.front ++ more)) is
                ∙ ap (λ q. and_then q (λ b. many l >>= λ others. give (l.more b others))) (first.again more h);
          }

          turn_leads : (t : T) (o : Option (Reader T A)) → l.turn t ≡ o → IsLocalTurn s o → (ts : List T) → length ts ≤ n → Leads s (many l) (t ∷ ts) (looped l (many l) o t ts)
          turn_leads t (Some p) is lo ts h = item_leads t p is ts h (p ts) (lo ts)
          turn_leads t None is lo ts h = record { front = []; whole = refl; again = stops }
            where
              stops : (more : List T) → (head more ≡ Some t) ⊎ IsEnd s more → many l more ≡ Read l.none more
              stops [] h = many_none
              stops (x ∷ xs) (inl h) = many_again x xs ∙ (λ k. looped l (many l) ((ap l.turn (same_Some x t h) ∙ is) k) x xs)
              stops (x ∷ xs) (inr h) = many_end (x ∷ xs) h

        many_leads : (n : ℕ) (ts : List T) → length ts ≤ n → Leads s (many l) ts (many l ts)
        many_leads n [] h = subst (Leads s (many l) []) (sym many_none) (record { front = []; whole = refl; again = stops })
          where
            stops : (more : List T) → (head more ≡ None) ⊎ IsEnd s more → many l more ≡ Read l.none more
            stops [] h = many_none
            stops (x ∷ xs) (inl h) = cc
            stops (x ∷ xs) (inr h) = many_end (x ∷ xs) h
        many_leads zero (t ∷ ts) h = absurd (omega arith)
        many_leads (suc n) (t ∷ ts) h = subst (Leads s (many l) (t ∷ ts)) (sym (many_again t ts)) (turn_leads n (many_leads n) t (l.turn t) refl (local t) ts (omega arith))

        pub local-many : IsLocal s (many l)
        local-many ts = many_leads (length ts) ts (omega arith)
