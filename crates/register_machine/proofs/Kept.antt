-- The equations whose last registers are kept.
use Rattle.std.proofs.Common.{◌≡◌, ◌==◌, ◌<◌, ◌||◌, ℕ, Bool, true, false, List, [], ◌∷◌, length, refl, sym, ap, ◌∙◌, inl, inr, Contains, arith}
use Rattle.std.proofs.lemmas.Bool.{and_from, and_parts}
use Rattle.std.proofs.lemmas.Option.{slice_get_within}
use Rattle.flat_core.specs.declared.equation.Op.{Op}
use Rattle.flat_core.specs.declared.equation.Op.TheVariants as op
use Rattle.flat_core.specs.declared.equation.Equation.{Equation}
use Rattle.flat_core.specs.System.{System, runs, equation, numbers, IsProper}
use Rattle.flat_core.specs.Members.{is_in}
use Rattle.flat_core.proofs.Members.{in-Contains, in_numbers, Contains-in, some_from, some_in}
use Rattle.tsl_value.proofs.Lists.{none_in_nil, cons_cases, in_kept, kept_in}
use Rattle.alias_rules.specs.Uses.{last_of, IsVariable, IsStored}
use Rattle.flat_core.specs.Kept.{is_kept, is_number, keeps, keeps_of, kept_at, kept_by}
use Rattle.register_machine.proofs.Running.{Running}

or_none : (b : Bool) → b ≡ (b || false)
or_none true = refl
or_none false = refl

-- the first argument of a last, as a number and as a list
number_same : (v : ℕ) (o : Op) (args : List ℕ) → is_number (kept_by o args) v ≡ is_in (last_of o args) v
number_same v op.Last [] = refl
number_same v op.Last (a ∷ args) = or_none (a == v)
number_same v o args = refl

-- what is kept is the first argument of a running last
pub kept_last : (s : System) → IsProper s → (v : ℕ) → Contains (keeps_of s) v → (i : ℕ) × (e : Equation) × Running s i e × Contains (last_of e.op e.args) v
kept_last s proper v found =
    let both = in_kept (is_kept s) (numbers s) v found in
    let inner = some_in (λ j. keeps s j v) (numbers s) both.1 in
    let parts = and_parts (runs s inner.0) (is_number (kept_at (equation s inner.0)) v) inner.2 in
    let all = proper.runs_all inner.0 parts.0 in
    let first = sym (ap (λ q. is_number (kept_at q) v) all.1) ∙ parts.1 in
    (inner.0, all.0, record { is = all.1; runs_too = parts.0 }, Contains-in (last_of all.0.op all.0.args) v (sym (number_same v all.0.op all.0.args) ∙ first))

pub kept_stored : (s : System) → IsProper s → (v : ℕ) → IsVariable s v → Contains (keeps_of s) v → IsStored s v
kept_stored s proper v variable found =
    let got = kept_last s proper v found in
    record { last = got.0; taken = record { variable = variable; at = got.1; is = got.2.is; running = got.2.runs_too; argument = got.3 } }

pub last_kept : (s : System) (v i : ℕ) (e : Equation) → v < length s.equations → Running s i e → Contains (last_of e.op e.args) v → Contains (keeps_of s) v
last_kept s v i e low running argument =
    let there = ap (λ q. is_number (kept_at q) v) running.is ∙ number_same v e.op e.args ∙ in-Contains (last_of e.op e.args) v argument in
    kept_in (is_kept s) (numbers s) v (Contains-in (numbers s) v (in_numbers s v low))
    (some_from (λ j. keeps s j v) (numbers s) i (in_numbers s i (slice_get_within s.equations i e running.is)) (and_from (runs s i) (is_number (kept_at (equation s i)) v) running.runs_too there))

pub stored_kept : (s : System) (v : ℕ) → IsStored s v → Contains (keeps_of s) v
stored_kept s v st = last_kept s v st.last st.taken.at (slice_get_within s.equations v st.taken.variable.at st.taken.variable.is) (record { is = st.taken.is; runs_too = st.taken.running }) st.taken.argument

pub kept_argument : (v : ℕ) (o : Op) (args : List ℕ) → Contains (last_of o args) v → Contains args v
kept_argument v op.Last (w ∷ args) found = elim (cons_cases w v [] found) [ inl same ↦ (0, omega arith, same) | inr after ↦ absurd (none_in_nil v after) ]
kept_argument v op.Last [] found = absurd (none_in_nil v found)
kept_argument v _ _ found = absurd (none_in_nil v found)
