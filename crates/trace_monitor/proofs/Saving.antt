-- What a monitor keeps, as the bytes of a state.
use Rattle.std.proofs.Common.{◌≡◌, ◌≤◌, ℕ, List, sym, subst, ◌∙◌, arith}
use Rattle.tsl_value.specs.declared.limits.TheConstants.{MOST_INSTANTS}
use Rattle.flat_core.specs.System.{System}
use Rattle.register_code.specs.Code.{Code, IsCode}
use Rattle.run_state.specs.Fits.{FitsRun}
use Rattle.run_state.specs.Spelling.{spelling}
use Rattle.run_state.specs.declared.state.RunState.{RunState}
use Rattle.state_snapshot.proofs.Answered.{spell_one_state}
use Rattle.trace_monitor.specs.declared.options.Options.{Options}
use Rattle.trace_monitor.specs.Saved.{AreOptionsOf, IsRunAfter, IsSavedAs, SpellsState}
use Rattle.trace_monitor.specs.inner.Snapshot.{code_of}
use Rattle.trace_monitor.specs.inner.State.{State}

pub code_is : (m : State) (c : Code) → m.system ≡ c.system → m.engine.in_place ≡ c.in_place → m.engine.order ≡ c.order → code_of m ≡ c
code_is m c system in_place order = λ k. record { system = system k; in_place = in_place k; order = order k }

pub spelled : (m : State) (c : Code) (st : RunState) (bytes : List ℕ) → code_of m ≡ c → FitsRun m.system st → bytes ≡ spelling c st → SpellsState c bytes
spelled m c st bytes code fits is = record { state = st; fits = subst (λ (d : Code). FitsRun d.system st) code fits; is = is }

pub saved_as : (m : State) (c : Code) (st : RunState) (bytes fed : List ℕ) → code_of m ≡ c → FitsRun m.system st → IsRunAfter (code_of m) m.options fed st
    → bytes ≡ spelling c st → IsSavedAs c m.options fed bytes
saved_as m c st bytes fed code fits run is = record {
  state = st;
  after = subst (λ (d : Code). IsRunAfter d m.options fed st) code run;
  fits = subst (λ (d : Code). FitsRun d.system st) code fits;
  is = is;
}

pub options_are : (made o : Options) (st : RunState) → AreOptionsOf made st → AreOptionsOf o st → made.until ≡ o.until → made ≡ o
options_are made o st first second until =
    let strict = sym first.strict ∙ second.strict in
    let instants = sym first.instants ∙ second.instants in
    let bytes = sym first.bytes ∙ second.bytes in
    λ k. record { until = until k; instants = instants k; bytes = bytes k; strict = strict k }

pub few_instants : (s : System) (o : Options) (st : RunState) → FitsRun s st → AreOptionsOf o st → o.instants ≤ MOST_INSTANTS
few_instants s o st fits options =
    let few = fits.limits.few_instants in
    let same = options.instants in
    omega arith

-- the state that bytes spell is the one that was saved as these
pub saved_after : (c : Code) (o : Options) (st : RunState) (earlier bytes : List ℕ) → IsCode c → FitsRun c.system st → bytes ≡ spelling c st → IsSavedAs c o earlier bytes → IsRunAfter c o earlier st
saved_after c o st earlier bytes code fits is saved =
    subst (λ (s : RunState). IsRunAfter c o earlier s)
    (spell_one_state c saved.state st (record { code = code; fits = saved.fits }) (record { code = code; fits = fits }) (sym saved.is ∙ is)) saved.after
