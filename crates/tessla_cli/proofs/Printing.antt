-- A text that is written, as far as it comes.
use Rattle.std.proofs.Common.{◌≡◌, ℕ, List, [], Result, Ok, refl, sym, subst}
use Rattle.alias_rules.specs.Fine.{IsTakenPlan}
use Rattle.register_code.specs.Code.{Code}
use Rattle.compiled_meaning.specs.Compiled.{CompilesSomething}
use Rattle.tsl_world.specs.declared.outside.Channel.TheVariants.{Out}
use Rattle.tsl_world.specs.declared.outside.Did.{Did}
use Rattle.tsl_world.specs.Journal.{Each, IsAny, IsDone}
use Rattle.tsl_world.proofs.Places.{at_none}
use Rattle.command_words.specs.declared.command.Form.{Form}
use Rattle.command_words.specs.declared.command.Workload.{Workload}
use Rattle.trace_run.specs.Effects.{Gives}
use Rattle.tessla_cli.specs.Alone.{BenchStops, IsTallyText}
use Rattle.tessla_cli.specs.Printed.{HasText, IsTextOf}
use Rattle.tessla_cli.specs.declared.ended.Ended.{Ended}
use Rattle.tessla_cli.specs.declared.ending.Ending.{Ending}
use Rattle.tessla_cli.specs.declared.ending.Ending.TheVariants as ending
use Rattle.tessla_cli.specs.declared.made.Made.{Made}
use Rattle.tessla_cli.specs.declared.made.Made.TheVariants as made
use Rattle.tessla_cli.specs.inner.RunPhases.{AloneEnds, AloneIsDone, HasPrinted, HasPrintedText, HasPut, HasPutMade, IsBenchedAs, IsPutAs, IsToldAfter, Prints, PrintsText, Puts, PutsMade, RunsAlone, stopped, unmade, writes, written}

-- any text
module _ (P : List ℕ → Type 0) (text : List ℕ) (is : P text) where
  pub text_none : PrintsText P []
  text_none = record { text = text; is = is; writes = record { gifts = tt; stops = at_none IsAny (Each IsDone) }; some = record { rest = text; is = refl } }

  pub text_some : {E : Type 0} (result : Result (Unit {0}) E) (part : List Did) → Gives Out text result part → PrintsText P part
  text_some result part g = record { text = text; is = is; writes = g.writes; some = g.some }

  pub text_all : {E : Type 0} (part : List Did) → Gives {E = E} Out text (Ok tt) part → HasPrintedText P part
  text_all part g = record { text = text; is = is; writes = g.writes; whole = g.whole }

module _ (source : List ℕ) (f : Form) (c : Code) (taken : IsTakenPlan c.system c.in_place c.order) (compiles : CompilesSomething source c.system) (text : List ℕ) (is : HasText f c text) where
  pub is_text : IsTextOf source f text
  is_text = record {
    items = compiles.0;
    system = c.system;
    set = c.in_place;
    order = c.order;
    compiles = compiles.1;
    taken = taken;
    is = is;
  }

  pub prints_some : (part : List Did) → Puts text f part → Prints source f part
  prints_some part puts = record { text = text; is = is_text; puts = puts }

  pub prints_all : (part : List Did) → HasPut text f part → HasPrinted source f part
  prints_all part puts = record { text = text; is = is_text; puts = puts }

-- what is made is put
module _ (m : Made) where
  module _ (text : List ℕ) (is : m ≡ made.Text text) where
    pub puts_made : {E : Type 0} (result : Result (Unit {0}) E) (part : List Did) → Gives Out text result part → PutsMade m part
    puts_made result part g = subst (λ (it : Made). PutsMade it part) (sym is) (g.writes, g.some)

    pub has_put_made : {E : Type 0} (by : Ended) → by.ending ≡ ending.Done → IsToldAfter [] by → (part : List Did) → Gives {E = E} Out text (Ok tt) part → HasPutMade m by part
    has_put_made by done told part g = record { told = told; done = subst (λ (it : Made). IsPutAs it by.ending part) (sym is) (done, g.writes, g.whole) }

  pub has_put_none : (how : Ending) → m ≡ made.Stops how → (by : Ended) → by.ending ≡ how → IsToldAfter [] by → HasPutMade m by []
  has_put_none how is by stops told = record { told = told; done = subst (λ (it : Made). IsPutAs it by.ending []) (sym is) (stops, refl) }

-- where nothing was done
pub puts_nothing : (m : Made) → PutsMade m []
puts_nothing (made.Text text) = (record { gifts = tt; stops = at_none IsAny (Each IsDone) }, record { rest = text; is = refl })
puts_nothing (made.Stops by) = refl

-- what comes of a bench
module _ (kind : Workload) (n : ℕ) (part : List Did) where
  pub benched_runs : (m : Made) → IsBenchedAs kind n m → PutsMade m part → RunsAlone (IsTallyText kind n) part
  benched_runs (made.Text text) is puts = writes (record { text = text; is = is; writes = puts.0; some = puts.1 })
  benched_runs (made.Stops by) stops none = unmade none

  benched_is_done : (m : Made) (by : Ending) → IsBenchedAs kind n m → IsPutAs m by part → AloneIsDone (IsTallyText kind n) (BenchStops kind n) by part
  benched_is_done (made.Text text) by is put = let (done, puts, whole) = put in written done (record { text = text; is = is; writes = puts; whole = whole })
  benched_is_done (made.Stops how) by stops put = stopped (subst (BenchStops kind n) (sym put.0) stops) put.1

  pub benched_ends : (m : Made) (by : Ended) → IsBenchedAs kind n m → HasPutMade m by part → AloneEnds (IsTallyText kind n) (BenchStops kind n) by part
  benched_ends m by is put = record { told = put.told; done = benched_is_done m by.ending is put.done }
