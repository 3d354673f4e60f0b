-- The front of a list that passes a test.
use Rattle.std.proofs.Common.{◌≡◌, ℕ, suc, ◌+◌, Bool, true, false, List, [], ◌∷◌, ◌++◌, length, take, drop, cond, refl, ap, subst, ◌∙◌, arith}
use Rattle.std.specs.List.{list_all, prefix_len}
use Rattle.std.proofs.lemmas.Bool.{and_parts}
use Rattle.spec_lexer.specs.Pieces.{StopsBefore, IsRun}

-- the front that passes is all that does
pub run_of : (p : ℕ → Bool) (cs : List ℕ) → IsRun p (take (prefix_len p cs) cs) (drop (prefix_len p cs) cs)
run_of p [] = record { all_pass = refl; stops = tt }
run_of p (c ∷ cs) = elim (p c) as (λ b. p c ≡ b → IsRun p (take (cond b (1 + prefix_len p cs) 0) (c ∷ cs)) (drop (cond b (1 + prefix_len p cs) 0) (c ∷ cs))) [
  | true ↦ λ passes. let one : suc (prefix_len p cs) ≡ 1 + prefix_len p cs = omega arith in subst (λ n. IsRun p (take n (c ∷ cs)) (drop n (c ∷ cs))) one (record { all_pass = rw passes ((run_of p cs).all_pass); stops = (run_of p cs).stops })
  | false ↦ λ fails. record { all_pass = refl; stops = fails }
] refl

stopped : (p : ℕ → Bool) (rest : List ℕ) → StopsBefore p rest → prefix_len p rest ≡ 0
stopped p [] h = refl
stopped p (c ∷ cs) h = ap (λ b. cond b (1 + prefix_len p cs) 0) h

-- a run is as long as the front that passes
pub prefix_len-run : (p : ℕ → Bool) (front rest : List ℕ) → list_all p front ≡ true → StopsBefore p rest → prefix_len p (front ++ rest) ≡ length front
prefix_len-run p [] rest passes stops = stopped p rest stops
prefix_len-run p (c ∷ cs) rest passes stops =
    let parts = and_parts (p c) (list_all p cs) passes in
    let others = prefix_len-run p cs rest parts.1 stops in
    ap (λ b. cond b (1 + prefix_len p (cs ++ rest)) 0) parts.0 ∙ omega (arith, others)
