-- A question that is asked of a trace, and what is put of its answer.
use Rattle.std.proofs.Common.{◌≡◌, ◌⊎◌, inl, inr, ℕ, ◌<◌, ◌^◌, arith, List, [], ◌∷◌, ◌++◌, Option, Some, refl, sym, ◌∙◌, ap, subst}
use Rattle.command_words.specs.declared.command.Why.{Why}
use Rattle.command_words.specs.Words.{IsLimitedWhy}
use Rattle.compiled_meaning.specs.Compiled.{Compiles}
use Rattle.flat_core.specs.System.{System}
use Rattle.slice_text.specs.Text.{IsOutputCalled}
use Rattle.syntax_tree.specs.Tree as tree
use Rattle.trace_monitor.specs.declared.options.Options.{Options}
use Rattle.trace_run.specs.Effects.{Writes}
use Rattle.trace_run.specs.Limited.{AreLimited}
use Rattle.trace_why.specs.declared.ending.WhyEnding.{WhyEnding}
use Rattle.trace_why.specs.declared.ending.WhyEnding.TheVariants as answer
use Rattle.trace_why.specs.declared.question.Question.{Question}
use Rattle.tsl_world.specs.Begins.{Begins}
use Rattle.tsl_world.specs.Journal.{given, Each, IsAny, IsDone}
use Rattle.tsl_world.specs.declared.outside.Channel.TheVariants.{Out}
use Rattle.tsl_world.specs.declared.outside.Did.{Did}
use Rattle.tsl_world.proofs.Places.{at_none}
use Rattle.why_run.specs.Effects.{AskEnds}
use Rattle.tessla_cli.specs.Asked.{why_options}
use Rattle.tessla_cli.specs.Explained.{answer_text, answered, question_of}
use Rattle.tessla_cli.specs.declared.ended.Ended.{Ended}
use Rattle.tessla_cli.specs.declared.ending.Ending.{Ending}
use Rattle.tessla_cli.specs.declared.ending.Ending.TheVariants as ending
use Rattle.tessla_cli.specs.declared.made.Made.{Made}
use Rattle.tessla_cli.specs.declared.made.Made.TheVariants as made
use Rattle.tessla_cli.specs.inner.RunPhases.{answering, Explains, has_answered, HasExplained, HasPutMade, IsAnsweredAs, IsAsked, IsExplained, IsPutAs, PutsMade}

-- how far its trace may be read
pub reads_limited : (w : Why) (o : Options) → o ≡ why_options w → IsLimitedWhy w → AreLimited o
reads_limited w o is limited =
    let small : 0 < 2 ^ 63 = omega arith in
    subst AreLimited (sym is) (record { until = small; some_instants = limited.some_instants; few_instants = limited.instants; some_bytes = limited.some_bytes; few_bytes = limited.bytes })

-- nothing is written
writes_none : (part : List Did) → part ≡ [] → Writes Out part
writes_none part none = subst (Writes Out) (sym none) (record { gifts = tt; stops = at_none IsAny (Each IsDone) })

given_none : (part : List Did) → part ≡ [] → given Out part ≡ []
given_none part none = ap (given Out) none

module _ (w : Why) where
  -- an answer is a text, or it is how the program ends
  abbrev IsMadeSo : WhyEnding → Made → Type 0
  IsMadeSo by m = ((m ≡ made.Text (answer_text by)) × (answered w by ≡ ending.Done)) ⊎ ((m ≡ made.Stops (answered w by)) × (answer_text by ≡ []))

  stops_so : (by : WhyEnding) (how : Ending) → how ≡ answered w by → answer_text by ≡ [] → IsMadeSo by (made.Stops how)
  stops_so by how is none = inr (ap made.Stops is, none)

  made_so : (by : WhyEnding) (m : Made) → IsAnsweredAs w by m → IsMadeSo by m
  made_so (answer.Text text) (made.Text written) is = inl (ap made.Text is, refl)
  made_so answer.NoEvent (made.Text written) is = absurd is
  made_so (answer.Refused fault) (made.Text written) is = absurd is
  made_so (answer.Fault time kind place) (made.Text written) is = absurd is
  made_so (answer.Limit count time) (made.Text written) is = absurd is
  made_so (answer.Text text) (made.Stops how) is = stops_so (answer.Text text) how is.0 is.1
  made_so answer.NoEvent (made.Stops how) is = stops_so answer.NoEvent how is.0 is.1
  made_so (answer.Refused fault) (made.Stops how) is = stops_so (answer.Refused fault) how is.0 is.1
  made_so (answer.Fault time kind place) (made.Stops how) is = stops_so (answer.Fault time kind place) how is.0 is.1
  made_so (answer.Limit count time) (made.Stops how) is = stops_so (answer.Limit count time) how is.0 is.1

  module _ (by : WhyEnding) (part : List Did) where
    -- what is put of it, as far as it comes
    puts_answer : (m : Made) → IsMadeSo by m → PutsMade m part → Writes Out part × Begins (given Out part) (answer_text by)
    puts_answer m (inl (is, done)) puts = subst (λ (it : Made). PutsMade it part) is puts
    puts_answer m (inr (is, none)) puts =
        let nothing : part ≡ [] = subst (λ (it : Made). PutsMade it part) is puts in
        (writes_none part nothing, record { rest = []; is = none ∙ ap (λ (l : List ℕ). l ++ []) (sym (given_none part nothing)) })

    -- all of it, and the program ends so
    record HasPutAnswer (how : Ending) : Type 0 where
      ends : how ≡ answered w by
      writes : Writes Out part
      whole : given Out part ≡ answer_text by

    has_put_answer : (m : Made) (how : Ending) → IsMadeSo by m → IsPutAs m how part → HasPutAnswer how
    has_put_answer m how (inl (is, done)) put =
        let (ends, writes, whole) = subst (λ (it : Made). IsPutAs it how part) is put in
        record { ends = ends ∙ sym done; writes = writes; whole = whole }
    has_put_answer m how (inr (is, none)) put =
        let (ends, nothing) = subst (λ (it : Made). IsPutAs it how part) is put in
        record { ends = ends; writes = writes_none part nothing; whole = given_none part nothing ∙ sym none }

  -- a question about an output of the name
  pub is_asked : (source : List ℕ) (items : List tree.Item) (s : System) (k : ℕ) → Compiles source items s → IsOutputCalled s w.output k → IsAsked source w s (question_of w k)
  is_asked source items s k compiles called = record { items = items; compiles = compiles; number = k; called = called; question = refl }

  module _ (source : List ℕ) (s : System) (q : Question) (asked : IsAsked source w s q) where
    module _ (by : WhyEnding) (m : Made) (is : IsAnsweredAs w by m) (front rest : List Did) (ends : AskEnds w.trace s (why_options w) q by front) where
      pub explains : PutsMade m rest → Explains source w (front ++ rest)
      explains puts = let put = puts_answer by rest m (made_so by m is) puts in answering s q by front rest asked ends put.0 put.1 refl

      is_explained : (how : Ending) → IsPutAs m how rest → IsExplained source w how (front ++ rest)
      is_explained how puts =
          let put = has_put_answer by rest m how (made_so by m is) puts in has_answered s q by front rest asked ends put.ends put.writes put.whole refl

      pub has_explained : (ended : Ended) → HasPutMade m ended rest → HasExplained source w ended (front ++ rest)
      has_explained ended put = record { told = put.told; done = is_explained ended.ending put.done }
