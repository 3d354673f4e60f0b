-- What an instant looks up.
use Rattle.std.proofs.Common.{◌≡◌, ℕ, zero, suc, ◌<◌, ◌≤◌, Bool, true, false, ◌&&◌, List, [], ◌∷◌, length, Option, refl, sym, ap, subst, ◌∙◌, inl, inr, arith}
use Rattle.std.proofs.lemmas.Bool.{and_parts, cases_lt, false≢true, ltb-true}
use Rattle.std.proofs.lemmas.List.Elements.{All-from_recursion}
use Rattle.std.specs.Prelude.{if◌then◌else◌, IsFalse, IsTrue, nat_lt, slice_index, slice_index_or}
use Rattle.std.specs.List.{All, flat_map}
use Rattle.body_eval.specs.declared.register.Register.{Register}
use Rattle.cell_reader.specs.inner.Cells.{Cells}
use Rattle.flat_core.specs.Complete.{IsFlat}
use Rattle.flat_core.specs.Members.{is_in}
use Rattle.flat_core.specs.System.{System, equation}
use Rattle.flat_core.proofs.Members.{all_from, in-Contains}
use Rattle.flat_core.specs.Kept.{is_timer, keeps_of, timers_of}
use Rattle.step_uses.specs.Uses.{is_of_delay, row, used_by}
use Rattle.monitor_run.specs.declared.tables.Tables.{Tables}
use Rattle.monitor_run.specs.inner.Actions.{AreActions}
use Rattle.monitor_run.specs.inner.Visits.{AreFilled, AreTables, AreUses, AreWithin}
use Rattle.monitor_run.specs.inner.Instant.{IsLeastRoot, refusal_of, set_at}
use Rattle.monitor_run.specs.declared.run.Root.{Root}
use Rattle.monitor_run.proofs.DelayLemmas.{all_listed, refused_wider, set_wider, timer_there}
use Rattle.monitor_run.proofs.InstantLemmas.{all_timers, listed_timer}

no_row : (rows : List (List ℕ)) (a : ℕ) → length rows ≤ a → row rows a ≡ []
no_row [] zero le = refl
no_row [] (suc a) le = refl
no_row (x ∷ rows) zero le = absurd (omega arith)
no_row (x ∷ rows) (suc a) le = no_row rows a (omega arith)

-- no place is past the order
within_are : (s : System) (order : List ℕ) (rows : List (List ℕ)) → length rows ≡ length s.equations → AreUses s order rows → AreWithin rows (length order)
within_are s order rows size uses a p listed = elim (cases_lt a (length s.equations)) [
  | inl there ↦ ltb-true p (length order) (and_parts (nat_lt p (length order)) (is_in (used_by s (slice_index order p)) a) (sym (uses a p there) ∙ listed)).0
  | inr none ↦ absurd (false≢true (sym (ap (λ xs. is_in xs p) (no_row rows a (omega arith))) ∙ listed))
]

pub timers_there : (s : System) → IsFlat s → (delays : List ℕ) → delays ≡ timers_of s → All (λ i. i < length s.equations) delays
timers_there s whole delays is =
    subst (All (λ i. i < length s.equations)) (sym is) (All-from_recursion (λ i. i < length s.equations) (timers_of s) (all_from (λ i. i < length s.equations) (timers_of s) (λ i there. timer_there s whole i (listed_timer s i (in-Contains (timers_of s) i there)))))

pub tables_are : (s q : System) (order lent delays keeps : List ℕ) (count : ℕ) (t : Tables) → q ≡ s → lent ≡ order → delays ≡ timers_of s → keeps ≡ keeps_of s → count ≡ length s.equations
    → AreActions q lent t.actions.items → length t.uses ≡ length q.equations → ((a p : ℕ) → a < length q.equations → is_in (row t.uses a) p ≡ (nat_lt p (length lent) && is_in (used_by q (slice_index lent p)) a))
    → ((a d : ℕ) → a < length q.equations → is_in (row t.delays a) d ≡ (is_in delays d && is_of_delay q d a))
    → length t.kept.items ≡ count → ((i : ℕ) → i < count → slice_index_or t.kept.items i false ≡ is_in keeps i) → AreTables s order t
tables_are s q order lent delays keeps count t system order_is delays_are keeps_are count_is actions uses_each uses waits kept_each kept = record {
  actions = subst (λ x. AreActions x order t.actions.items) system (subst (λ xs. AreActions q xs t.actions.items) order_is actions);
  uses = uses_now;
  within = within_are s order t.uses (uses_each ∙ ap (λ (x : System). length x.equations) system) uses_now;
  delays = λ a d lt. waits a d (there a lt) ∙ (λ k. is_in (delays_are k) d && is_of_delay (system k) d a);
  kept = λ i lt. kept i (subst (λ n. i < n) (sym count_is) lt) ∙ ap (λ xs. is_in xs i) keeps_are;
  kept_each = kept_each ∙ count_is;
}
  where
    there : (a : ℕ) → a < length s.equations → a < length q.equations
    there a lt = subst (λ (x : System). a < length x.equations) (sym system) lt

    uses_now : AreUses s order t.uses
    uses_now a p lt = uses a p (there a lt) ∙ (λ k. nat_lt p (length (order_is k)) && is_in (used_by (system k) (slice_index (order_is k) p)) a)

-- ---- the delays that are looked at: all, or those of what was filled
module _ (s : System) (whole : IsFlat s) (t : Tables) (order : List ℕ) (are : AreTables s order t) (all : Bool) (timers : List ℕ) (timers_are : timers ≡ timers_of s) (filled delays : List ℕ) (registers : List Register) (each : length registers ≡ length s.equations)
    (f : IsFalse all → AreFilled filled registers) (listed : IsFalse all → delays ≡ flat_map (row t.delays) filled) where
  pub delays_run : All (λ i. IsTrue (is_timer s i)) (if all then timers else delays)
  delays_run = by all refl
    where
      by : (b : Bool) → all ≡ b → All (λ i. IsTrue (is_timer s i)) (if b then timers else delays)
      by true is = all_timers s timers timers_are
      by false is = all_listed s whole t.delays are.delays filled registers (f is) each delays (listed is)

  module _ (c : Cells) where
    pub refused_all : (r : Option Root) → IsLeastRoot (is_in (if all then timers else delays)) (λ i. refusal_of (equation s i) c registers) r → IsLeastRoot (is_in (timers_of s)) (λ i. refusal_of (equation s i) c registers) r
    refused_all r = by all refl
      where
        by : (b : Bool) → all ≡ b → IsLeastRoot (is_in (if b then timers else delays)) (λ i. refusal_of (equation s i) c registers) r → IsLeastRoot (is_in (timers_of s)) (λ i. refusal_of (equation s i) c registers) r
        by true is least = subst (λ xs. IsLeastRoot (is_in xs) (λ i. refusal_of (equation s i) c registers) r) timers_are least
        by false is least = refused_wider s whole t.delays are.delays filled registers (f is) each delays (listed is) c r least

    pub set_all : (time i : ℕ) (due : Option ℕ) → (if is_in (if all then timers else delays) i then set_at (equation s i) c registers time i due else due) ≡ (if is_in (timers_of s) i then set_at (equation s i) c registers time i due else due)
    set_all time i due = by all refl
      where
        by : (b : Bool) → all ≡ b → (if is_in (if b then timers else delays) i then set_at (equation s i) c registers time i due else due) ≡ (if is_in (timers_of s) i then set_at (equation s i) c registers time i due else due)
        by true is = λ k. if is_in (timers_are k) i then set_at (equation s i) c registers time i due else due
        by false is = set_wider s whole t.delays are.delays filled registers (f is) each delays (listed is) c time i due
