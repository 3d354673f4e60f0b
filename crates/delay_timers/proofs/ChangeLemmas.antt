-- What the map has after one change, and after two.
use Rattle.std.proofs.Common.{◌≡◌, ◌≢◌, ℕ, false, Option, Some, None, refl, sym, ap, ◌∙◌, inl, inr, arith, cond}
use Rattle.std.proofs.lemmas.Bool.{cases_order}
use Rattle.std.specs.Ordering.{nat_cmp, eq_by_cmp}
use Rattle.std.specs.Cmp.{nat_cmp_total}
use Rattle.std.specs.FinMap as map
use Rattle.std.specs.Option.{is_some}
use Rattle.delay_timers.specs.inner.Pending.{Times, Pending}
use Rattle.delay_timers.proofs.TimesLemmas.{tied, apart, same_times}

pub set_here : (m : Times) (d t : ℕ) → map.get (map.insert m d t) d ≡ Some t
set_here m d t = map.get-insert nat_cmp_total m d t d ∙ ap (λ b. cond b (Some t) (map.get m d)) (tied d d refl)

pub set_else : (m : Times) (d t q : ℕ) → q ≢ d → map.get (map.insert m d t) q ≡ map.get m q
set_else m d t q else = map.get-insert nat_cmp_total m d t q ∙ ap (λ b. cond b (Some t) (map.get m q)) (apart q d else)

pub gone_here : (m : Times) (d : ℕ) → map.get (map.remove m d) d ≡ None
gone_here m d = map.get-remove nat_cmp_total m d d ∙ ap (λ b. cond b None (map.get m d)) (tied d d refl)

pub gone_else : (m : Times) (d q : ℕ) → q ≢ d → map.get (map.remove m d) q ≡ map.get m q
gone_else m d q else = map.get-remove nat_cmp_total m d q ∙ ap (λ b. cond b None (map.get m q)) (apart q d else)

-- maps that agree at one delay and at each other are one
by_delay : (a b : Times) (d : ℕ) → map.get a d ≡ map.get b d → ((q : ℕ) → q ≢ d → map.get a q ≡ map.get b q) → a ≡ b
by_delay a b d here else = same_times a b (λ q. elim (cases_order q d) [
  | inl same ↦ ap (map.get a) same ∙ here ∙ ap (map.get b) (sym same)
  | inr other ↦ else q (omega (arith, other))
])

pub set_twice : (m : Times) (d t u : ℕ) → map.insert (map.insert m d t) d u ≡ map.insert m d u
set_twice m d t u = by_delay _ _ d
    (set_here (map.insert m d t) d u ∙ sym (set_here m d u))
    (λ q else. set_else (map.insert m d t) d u q else ∙ set_else m d t q else ∙ sym (set_else m d u q else))

pub set_after_gone : (m : Times) (d t : ℕ) → map.insert (map.remove m d) d t ≡ map.insert m d t
set_after_gone m d t = by_delay _ _ d
    (set_here (map.remove m d) d t ∙ sym (set_here m d t))
    (λ q else. set_else (map.remove m d) d t q else ∙ gone_else m d q else ∙ sym (set_else m d t q else))

pub gone_after_set : (m : Times) (d t : ℕ) → map.remove (map.insert m d t) d ≡ map.remove m d
gone_after_set m d t = by_delay _ _ d
    (gone_here (map.insert m d t) d ∙ sym (gone_here m d))
    (λ q else. gone_else (map.insert m d t) d q else ∙ set_else m d t q else ∙ sym (gone_else m d q else))

-- what is not pending is not removed
pub none_gone : (m : Times) (d : ℕ) → map.get m d ≡ None → m ≡ map.remove m d
none_gone m d none = by_delay _ _ d (none ∙ sym (gone_here m d)) (λ q else. sym (gone_else m d q else))

pub sets_commute : (m : Times) (d t e u : ℕ) → d ≢ e → map.insert (map.insert m d t) e u ≡ map.insert (map.insert m e u) d t
sets_commute m d t e u other = by_delay _ _ d
    (set_else (map.insert m d t) e u d other ∙ set_here m d t ∙ sym (set_here (map.insert m e u) d t))
    (λ q else.
    map.get-insert nat_cmp_total (map.insert m d t) e u q
    ∙ ap (cond (eq_by_cmp nat_cmp q e) (Some u)) (set_else m d t q else)
    ∙ sym (map.get-insert nat_cmp_total m e u q)
    ∙ sym (set_else (map.insert m e u) d t q else))

pub gone_from_others : (m : Times) (d e u : ℕ) → e ≢ d → map.remove (map.insert m e u) d ≡ map.insert (map.remove m d) e u
gone_from_others m d e u other = by_delay _ _ e
    (gone_else (map.insert m e u) d e other ∙ set_here m e u ∙ sym (set_here (map.remove m d) e u))
    (λ q else.
    map.get-remove nat_cmp_total (map.insert m e u) d q
    ∙ ap (cond (eq_by_cmp nat_cmp q d) None) (set_else m e u q else)
    ∙ sym (map.get-remove nat_cmp_total m d q)
    ∙ sym (set_else (map.remove m d) e u q else))

pub gone_of_absent : (p : Pending) (d : ℕ) (at : Option ℕ) → at ≡ map.get p.times d → false ≡ is_some at → p ≡ record { capacity = p.capacity; times = map.remove p.times d }
gone_of_absent p d None is none = ap (λ m. let q : Pending = record { capacity = p.capacity; times = m } in q) (none_gone p.times d (sym is))
gone_of_absent p d (Some t) is none = absurd (cc)
