-- The one cell that is there, where one is held.
use Rattle.std.proofs.Common.{◌≡◌, ◌==◌, ℕ, ◌<◌, ◌-◌, Bool, true, false, List, [], ◌∷◌, length, cond, None, refl, sym, ap, subst, ◌∙◌, inl, inr, arith}
use Rattle.std.proofs.lemmas.Bool.{eq-eqb, eqb-true, false≢true, ne_eqb, or_cases, or_left, or_right, true≢false}
use Rattle.std.specs.Prelude.{if◌then◌else◌, ◌≢◌, is_some, nat_eq}
use Rattle.std.specs.FinMap as finite_map
use Rattle.std.specs.Cmp.{nat_cmp_total, unsigned_tied}
use Rattle.std.specs.Ordering.{eq_by_cmp, nat_cmp}
use Rattle.tsl_value.specs.declared.scalar.ValueType.{ValueType}
use Rattle.body_eval.specs.declared.register.Register.{Register}
use Rattle.body_eval.specs.declared.register.Register.TheVariants as register
use Rattle.cell_reader.specs.inner.Cells.{Cells, IsLive}
use Rattle.body_eval.specs.inner.Registers.{HoldsLive}
use Rattle.aggregate_store.specs.inner.Stored.{is_listed}
use Rattle.flat_core.specs.Complete.{IsFlat}
use Rattle.flat_core.specs.Members.{is_in}
use Rattle.flat_core.specs.System.{System}
use Rattle.flat_core.specs.Kept.{keeps_of}
use Rattle.monitor_run.specs.inner.Instant.{cell_in, cells_in, kept_register}
use Rattle.monitor_run.specs.inner.Registers.{AreHeld, register_at}
use Rattle.monitor_run.proofs.EndLemmas.{all_listed}
use Rattle.monitor_run.proofs.EndedLemmas.{listed_append}
use Rattle.monitor_run.proofs.InstantLemmas.{kept_runs, listed_kept}

only_one : (c : Cells) (h q : ℕ) → finite_map.len c ≡ 1 → IsLive c h → q ≢ h → finite_map.get c q ≡ None
only_one c h q one live other =
    let apart : eq_by_cmp nat_cmp q h ≡ false = unsigned_tied q h ∙ ne_eqb q h other in
    let size : finite_map.len (finite_map.remove c h) ≡ 0 = finite_map.len-remove nat_cmp_total c h ∙ (λ k. cond (live k) (finite_map.len c - 1) (finite_map.len c)) ∙ ap (λ n. n - 1) one in
    sym (finite_map.get-remove nat_cmp_total c h q ∙ (λ k. cond (apart k) None (finite_map.get c q)))
    ∙ ap (λ m. finite_map.get m q) (finite_map.empty_of_len (finite_map.remove c h) size) ∙ finite_map.get-empty nat_cmp q

-- it is all that there is, so nothing is dropped
pub sole_kept : (cells : Cells) (held : List ℕ) → finite_map.len cells ≡ 1 → 0 < length held → ((h : ℕ) → is_listed held h ≡ true → IsLive cells h) → cells ≡ finite_map.retain_keys cells (is_listed held)
sole_kept cells [] one some live = absurd (omega arith)
sole_kept cells (h ∷ held) one some live = all_listed cells (is_listed (h ∷ held)) (λ q there. split q there (is_listed (h ∷ held) q) refl)
  where
    here : is_listed (h ∷ held) h ≡ true
    here = or_left (nat_eq h h) (is_listed held h) (eq-eqb h h refl)

    split : (q : ℕ) → IsLive cells q → (b : Bool) → is_listed (h ∷ held) q ≡ b → is_listed (h ∷ held) q ≡ true
    split q there true listed = listed
    split q there false none =
        let gone = only_one cells h q one (live h here) (λ same. true≢false (sym (ap (is_listed (h ∷ held)) same ∙ here) ∙ none)) in
        absurd (false≢true (sym (ap is_some gone) ∙ there))

-- ---- what is listed is live
pub listed_cell : (last : List Register) (keeps : List ℕ) (h : ℕ) → is_listed (cells_in last keeps) h ≡ true → (i : ℕ) × (is_in keeps i ≡ true) × (register_at last i ≡ register.Aggregate h)
listed_cell last [] h there = absurd (false≢true there)
listed_cell last (k ∷ keeps) h there = elim (or_cases (is_listed (cell_in (register_at last k)) h) (is_listed (cells_in last keeps) h) (sym (listed_append (cell_in (register_at last k)) (cells_in last keeps) h) ∙ there)) [
  | inl here ↦ (k, or_left (k == k) (is_in keeps k) (eq-eqb k k refl), one (register_at last k) here)
  | inr later ↦ let rest = listed_cell last keeps h later in (rest.0, or_right (k == rest.0) (is_in keeps rest.0) rest.1, rest.2)
]
  where
    one : (r : Register) → is_listed (cell_in r) h ≡ true → r ≡ register.Aggregate h
    one register.Empty is = absurd (false≢true is)
    one (register.Scalar x) is = absurd (false≢true is)
    one (register.Aggregate c) is = elim (or_cases (nat_eq c h) false is) [
      | inl same ↦ ap register.Aggregate (eqb-true c h same)
      | inr none ↦ absurd (false≢true none)
    ]

pub live_kept : (s : System) → IsFlat s → (types : ℕ → ValueType) (cells : Cells) (registers last after : List Register) (keeps : List ℕ) → AreHeld s types cells registers → AreHeld s types cells last → keeps ≡ keeps_of s
    → ((i : ℕ) → register_at after i ≡ (if is_in (keeps_of s) i then kept_register (register_at registers i) (register_at last i) else register_at last i))
    → (h : ℕ) → is_listed (cells_in after keeps) h ≡ true → IsLive cells h
live_kept s whole types cells registers last after keeps held lasts keeps_are after_is h listed =
    let at = listed_cell after keeps h listed in
    let there : is_in (keeps_of s) at.0 ≡ true = ap (λ xs. is_in xs at.0) (sym keeps_are) ∙ at.1 in
    let run = kept_runs s whole at.0 (listed_kept s at.0 there) in
    let found = whole.proper.runs_all at.0 run in
    let is = sym (after_is at.0 ∙ (λ k. if there k then kept_register (register_at registers at.0) (register_at last at.0) else register_at last at.0)) ∙ at.2 in
    kept_live (register_at registers at.0) (register_at last at.0) (held.each at.0 found.0 run found.1).live (lasts.each at.0 found.0 run found.1).live is
  where
    kept_live : (r q : Register) → HoldsLive cells r → HoldsLive cells q → kept_register r q ≡ register.Aggregate h → IsLive cells h
    kept_live register.Empty q a b is = (subst (HoldsLive cells) is b).0
    kept_live (register.Scalar x) q a b is = absurd (cc)
    kept_live (register.Aggregate c) q a b is = (subst (HoldsLive cells) is a).0
