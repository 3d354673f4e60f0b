-- What holds wherever an entry of some kind follows, as a journal goes on.
use Rattle.std.proofs.Common.{◌≡◌, inl, inr, false, List, [], ◌∷◌, ◌++◌, refl, sym, ◌∙◌, subst}
use Rattle.std.proofs.lemmas.List.{append-nil}
use Rattle.tsl_world.specs.declared.outside.Slot.{Slot}
use Rattle.tsl_world.specs.declared.outside.Did.{Did}
use Rattle.tsl_world.specs.Journal.{ended, IsAny, IsDone, IsNoRead, IsRead, AtAll, AtEntries, AtReads, StopsAtEnd, StopsAtFailure, Each}
use Rattle.tsl_world.proofs.Journals.{Each-append, each_more, no_place, place}
use Rattle.tsl_world.proofs.Untouched.{ended_after, not_read}

one_place : (before after : List Did) (did it : Did) → did ∷ [] ≡ before ++ it ∷ after → before ≡ []
one_place [] after did it is = refl
one_place (b ∷ before) after did it is = absurd (let rest : [] ≡ before ++ it ∷ after = cc in no_place before after it rest)

module _ (Q : Did → Type 0) where
  -- before any call
  pub at_none : (P : List Did → Type 0) → AtEntries Q P []
  at_none P before r = absurd (no_place before r.after r.did r.split)

  -- in a part without such an entry
  pub at_not : (P : List Did → Type 0) (p : List Did) → Each (λ did. Q did → ⊥) p → AtEntries Q P p
  at_not P [] none before r = at_none P before r
  at_not P (x ∷ p) none [] r = let same : r.did ≡ x = (let e = r.split in cc) in absurd (none.0 (subst Q same r.is))
  at_not P (x ∷ p) none (b ∷ before) r =
      at_not (λ less. P (b ∷ less)) p none.1 before record { did = r.did; is = r.is; after = r.after; split = (let e = r.split in cc) }

  -- one part, and then another
  pub at_join : (P : List Did → Type 0) (p q : List Did) → AtEntries Q P p → AtEntries Q (λ less. P (p ++ less)) q → AtEntries Q P (p ++ q)
  at_join P p q first then before r = elim (place p q before r.after r.did r.split) [
    | inl (rest, is) ↦ first before record { did = r.did; is = r.is; after = rest; split = is }
    | inr (mid, is, of) ↦ subst (λ (l : List Did). P l) (sym is) (then mid record { did = r.did; is = r.is; after = r.after; split = of })
  ]

  -- one entry more, where P holds of all that was done before
  pub at_one : (P : List Did → Type 0) (p : List Did) (did : Did) → AtEntries Q P p → P p → AtEntries Q P (p ++ did ∷ [])
  at_one P p did first here = at_join P p (did ∷ []) first (λ less r.
      subst (λ (l : List Did). P (p ++ l)) (sym (one_place less r.after _ _ r.split)) (subst (λ (l : List Did). P l) (sym (append-nil p)) here))

  -- R, since P
  pub at_weaker : (P R : List Did → Type 0) (p : List Did) → ((before : List Did) → P before → R before) → AtEntries Q P p → AtEntries Q R p
  at_weaker P R p says first before r = says before (first before r)

-- wherever fewer entries follow
pub at_fewer : (Q R : Did → Type 0) (P : List Did → Type 0) (p : List Did) → ((did : Did) → R did → Q did) → AtEntries Q P p → AtEntries R P p
at_fewer Q R P p says first before r = first before record { did = r.did; is = says r.did r.is; after = r.after; split = r.split }

module _ (from : Slot) where
  -- in a part that reads nothing of the slot
  pub at_no_read : (P : List Did → Type 0) (p : List Did) → Each (IsNoRead from) p → AtReads from P p
  at_no_read P p none = at_not (IsRead from) P p (each_more (IsNoRead from) (λ did. IsRead from did → ⊥) (not_read from) p none)

  -- a part more that reads nothing of the slot
  pub at_more : (P : List Did → Type 0) (p q : List Did) → AtReads from P p → Each (IsNoRead from) q → AtReads from P (p ++ q)
  at_more P p q first none = at_join (IsRead from) P p q first (at_no_read (λ less. P (p ++ less)) q none)

  -- a part in front that reads nothing of the slot
  pub at_after : (P Q : List Did → Type 0) (p q : List Did) → Each (IsNoRead from) p → ((less : List Did) → P less → Q (p ++ less)) → AtReads from P q → AtReads from Q (p ++ q)
  at_after P Q p q none says then = at_join (IsRead from) Q p q (at_no_read Q p none) (λ less r. says less (then less r))

  pub stops_after : (p q : List Did) → Each (IsNoRead from) p → StopsAtEnd from q → StopsAtEnd from (p ++ q)
  stops_after p q none = at_after (λ less. ended from less ≡ false) (λ before. ended from before ≡ false) p q none (λ less not_yet. ended_after from p less none ∙ not_yet)

each_front : (P : Did → Type 0) (xs ys : List Did) → Each P (xs ++ ys) → Each P xs
each_front P [] ys all = tt
each_front P (x ∷ xs) ys all = (all.0, each_front P xs ys all.1)

-- where each entry has P, so has each that was made before
pub at_each : (P : Did → Type 0) (p : List Did) → Each P p → AtAll (Each P) p
at_each P p all before r = each_front P before (r.did ∷ r.after) (subst (λ (l : List Did). Each P l) r.split all)

-- one part of which each entry has P, and then another
pub at_each_join : (P : Did → Type 0) (p q : List Did) → Each P p → AtAll (Each P) q → AtAll (Each P) (p ++ q)
at_each_join P p q first then = at_join IsAny (Each P) p q (at_each P p first) (λ less r. Each-append P p less first (then less r))

-- one call more, which may fail
pub stops_one : (p : List Did) (did : Did) → Each IsDone p → StopsAtFailure (p ++ did ∷ [])
stops_one p did done = at_one IsAny (Each IsDone) p did (at_each IsDone p done) done
