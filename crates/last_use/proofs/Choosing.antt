-- What is chosen, one equation after the other.
use Rattle.std.proofs.Common.{◌≡◌, ℕ, ◌+◌, ◌<◌, ◌≤◌, List, [], ◌∷◌, ◌++◌, length, Contains, sym, subst, ◌∙◌, inl, inr, arith}
use Rattle.std.specs.Prelude.{IsTrue}
use Rattle.std.specs.List.Sorted.{IsStrictlyIncreasing}
use Rattle.std.proofs.lemmas.Bool.{cases_lt, false≢true}
use Rattle.std.proofs.lemmas.List.{map-append}
use Rattle.std.proofs.lemmas.List.Elements.{All-nil, All-push, All-weaker, All-contains, All-contains_itself}
use Rattle.flat_core.specs.Complete.{IsFlat}
use Rattle.flat_core.specs.Members.{is_in}
use Rattle.flat_core.specs.System.{System}
use Rattle.flat_core.specs.WellFormed.{IsWellFormed}
use Rattle.tsl_value.proofs.Lists.{map_contains}
use Rattle.flat_core.proofs.Members.{in-Contains}
use Rattle.alias_rules.specs.Fine.{IsFine, with_tried, IsListed}
use Rattle.alias_rules.specs.Uses.{IsUpdate, AreUpdates}
use Rattle.alias_rules.proofs.Below.{none_listed, listed_low, tried_is, listed_same, listed_more, all_listed}
use Rattle.alias_rules.proofs.Updates.{update_low}
use Rattle.flat_core.proofs.Rising.{in_push, push_old, push_new, increasing_push}
use Rattle.alias_rules.proofs.Tried.{tried_before}
use Rattle.alias_nears.specs.declared.reason.Reason.{Reason}
use Rattle.alias_nears.specs.inner.Beginning.{NoneIsNil}
use Rattle.last_use.specs.inner.Blocks.{IsWithBlock}
use Rattle.last_use.specs.inner.Choosing.{IsOutsideBelow, IsChosenBelow}
use Rattle.last_use.specs.Reasons.{IsReason, updates_of, AreReasons}
use Rattle.last_use.proofs.Blocking.{block_old, tried_same, block_listed}
use Rattle.last_use.proofs.Reasoning.{none_where_fine}

module _ (s : System) where
  pub none_chosen : IsChosenBelow s 0 [] []
  none_chosen = record {
    listed = none_listed s;
    ascending = λ k lt. absurd (omega arith);
    outside = λ y. ((λ h. absurd (false≢true h)), (λ out. let low = out.low in absurd (omega arith)));
    each = All-nil (λ p. IsReason s (with_tried [] p.0) p.1);
  }

  module _ (n : ℕ) (set : List ℕ) (reasons : List (ℕ × Reason)) (chosen : IsChosenBelow s n set reasons) where
    outside_low : (y : ℕ) → IsTrue (is_in (updates_of reasons) y) → y < n
    outside_low y h = ((chosen.outside y).0 h).low

    -- what is tried with an update that runs are updates that run
    pub tried_updates : IsUpdate s n → AreUpdates s (with_tried set n)
    tried_updates update y h = elim (in_push set n y (subst (λ l. IsTrue (is_in l y)) (tried_is s n set chosen.listed) h)) [
      | inl old ↦ ((chosen.listed.each y).0 old).update
      | inr same ↦ subst (IsUpdate s) same update
    ]

    pub tried_wider : (tried : List ℕ) → tried ≡ with_tried set n → (x : ℕ) → IsTrue (is_in set x) → IsTrue (is_in tried x)
    tried_wider tried is x h = subst (λ l. IsTrue (is_in l x)) (sym (is ∙ tried_is s n set chosen.listed)) (push_old set n x h)

    -- the equation is no update that runs
    pub skipped : (IsUpdate s n → ⊥) → IsChosenBelow s (n + 1) set reasons
    skipped no_update = record {
      listed = listed_same s n set chosen.listed (λ update fine. no_update update);
      ascending = chosen.ascending;
      outside = λ y. (
        (λ h. let out = (chosen.outside y).0 h in let low = out.low in record { low = omega arith; outside = out.outside }),
        (λ out. elim (cases_lt y n) [
          | inl low ↦ (chosen.outside y).1 (record { low = low; outside = out.outside })
          | inr high ↦ let lt = out.low in let same : y ≡ n = omega arith in absurd (no_update (subst (IsUpdate s) same out.outside.update))
        ]),
      );
      each = chosen.each;
    }

    -- it happens in place
    module _ (update : IsUpdate s n) (fine : IsFine s (with_tried set n)) where
      abbrev more : List ℕ
      more = set ++ n ∷ []

      out_more : (y : ℕ) → IsTrue (is_in (updates_of reasons) y) → IsOutsideBelow s (n + 1) more y
      out_more y h =
          let out = (chosen.outside y).0 h in
          let low = out.low in
          record {
            low = omega arith;
            outside = record {
              update = out.outside.update;
              outside = λ there. elim (in_push set n y there) [ inl old ↦ out.outside.outside old | inr same ↦ omega arith ];
            };
          }

      more_out : (y : ℕ) → IsOutsideBelow s (n + 1) more y → IsTrue (is_in (updates_of reasons) y)
      more_out y out = elim (cases_lt y n) [
        | inl low ↦
            (chosen.outside y).1
            (record { low = low; outside = record { update = out.outside.update; outside = λ there. out.outside.outside (push_old set n y there) } })
        | inr high ↦ let lt = out.low in absurd (out.outside.outside (push_new set n y (omega arith)))
      ]

      same_reason : (p : ℕ × Reason) → Contains reasons p → IsReason s (with_tried more p.0) p.1
      same_reason p c =
          let low = outside_low p.0 (in-Contains (updates_of reasons) p.0 (map_contains (λ (q : ℕ × Reason). q.0) reasons p c)) in
          subst (λ l. IsReason s l p.1) (sym (tried_before set n p.0 (omega arith))) (All-contains (λ q. IsReason s (with_tried set q.0) q.1) reasons p chosen.each c)

      pub accepted : IsChosenBelow s (n + 1) (with_tried set n) reasons
      accepted = subst (λ l. IsChosenBelow s (n + 1) l reasons) (sym (tried_is s n set chosen.listed)) (record {
        listed = listed_more s n set chosen.listed update fine;
        ascending = chosen.ascending;
        outside = λ y. (out_more y, more_out y);
        each = All-weaker (Contains reasons) (λ p. IsReason s (with_tried more p.0) p.1) same_reason reasons (All-contains_itself reasons);
      })

    -- it does not
    module _ (update : IsUpdate s n) (r : Reason) (reason : IsReason s (with_tried set n) r) where
      abbrev longer : List (ℕ × Reason)
      longer = reasons ++ (n, r) ∷ []

      longer_is : updates_of longer ≡ updates_of reasons ++ n ∷ []
      longer_is = map-append (λ (q : ℕ × Reason). q.0) reasons ((n, r) ∷ [])

      out_longer : (y : ℕ) → IsTrue (is_in (updates_of reasons ++ n ∷ []) y) → IsOutsideBelow s (n + 1) set y
      out_longer y h = elim (in_push (updates_of reasons) n y h) [
        | inl old ↦ let out = (chosen.outside y).0 old in let low = out.low in record { low = omega arith; outside = out.outside }
        | inr same ↦
            subst (IsOutsideBelow s (n + 1) set) same
            (record { low = omega arith; outside = record { update = update; outside = λ there. let low = listed_low s n set chosen.listed n there in omega arith } })
      ]

      longer_out : (y : ℕ) → IsOutsideBelow s (n + 1) set y → IsTrue (is_in (updates_of reasons ++ n ∷ []) y)
      longer_out y out = elim (cases_lt y n) [
        | inl low ↦ push_old (updates_of reasons) n y ((chosen.outside y).1 (record { low = low; outside = out.outside }))
        | inr high ↦ let lt = out.low in push_new (updates_of reasons) n y (omega arith)
      ]

      pub refused : IsChosenBelow s (n + 1) set longer
      refused = record {
        listed = listed_same s n set chosen.listed (λ found fine. none_where_fine s (with_tried set n) fine r reason);
        ascending = subst IsStrictlyIncreasing (sym longer_is) (increasing_push (updates_of reasons) n chosen.ascending outside_low);
        outside = λ y. (
          (λ h. out_longer y (subst (λ l. IsTrue (is_in l y)) longer_is h)),
          (λ out. subst (λ l. IsTrue (is_in l y)) (sym longer_is) (longer_out y out)),
        );
        each = All-push (λ p. IsReason s (with_tried set p.0) p.1) reasons (n, r) chosen.each reason;
      }

    -- several updates happen in place
    module _ (flat : IsFlat s) (formed : IsWellFormed s) (some : NoneIsNil s) (end : ℕ) (le : n ≤ end) (more : List ℕ) (block : IsWithBlock s set n end more) (fine : IsFine s more) where
      out_block : (y : ℕ) → IsOutsideBelow s n set y → IsOutsideBelow s end more y
      out_block y out = let low = out.low in record {
        low = omega arith;
        outside = record { update = out.outside.update; outside = λ there. out.outside.outside (block_old s flat formed some set n end le more block chosen.listed y low there) };
      }

      block_out : (y : ℕ) → IsOutsideBelow s end more y → IsOutsideBelow s n set y
      block_out y out = record {
        low = elim (cases_lt y n) [ inl low ↦ low | inr high ↦ absurd (out.outside.outside ((block.each y).1 (inr (record { high = high; low = out.low; update = out.outside.update })))) ];
        outside = record { update = out.outside.update; outside = λ there. out.outside.outside ((block.each y).1 (inl there)) };
      }

      same_for_block : (p : ℕ × Reason) → Contains reasons p → IsReason s (with_tried more p.0) p.1
      same_for_block p c =
          let low = outside_low p.0 (in-Contains (updates_of reasons) p.0 (map_contains (λ (q : ℕ × Reason). q.0) reasons p c)) in
          subst (λ l. IsReason s l p.1) (sym (tried_same s flat formed some set n end le more block chosen.listed p.0 (omega arith))) (All-contains (λ q. IsReason s (with_tried set q.0) q.1) reasons p chosen.each c)

      pub block_chosen : IsChosenBelow s end more reasons
      block_chosen = record {
        listed = block_listed s flat formed some set n end le more block chosen.listed fine;
        ascending = chosen.ascending;
        outside = λ y. ((λ h. out_block y ((chosen.outside y).0 h)), (λ out. (chosen.outside y).1 (block_out y out)));
        each = All-weaker (Contains reasons) (λ p. IsReason s (with_tried more p.0) p.1) same_for_block reasons (All-contains_itself reasons);
      }

  -- ---- all equations
  module _ (set : List ℕ) (reasons : List (ℕ × Reason)) (chosen : IsChosenBelow s (length s.equations) set reasons) where
    pub chosen_listed : IsListed s set
    chosen_listed = all_listed s set chosen.listed

    pub chosen_reasons : AreReasons s set reasons
    chosen_reasons = record {
      outside = record {
        ascending = chosen.ascending;
        each = λ y. (
          (λ h. ((chosen.outside y).0 h).outside),
          (λ out. (chosen.outside y).1 (record { low = update_low s y out.update; outside = out })),
        );
      };
      each = chosen.each;
    }
