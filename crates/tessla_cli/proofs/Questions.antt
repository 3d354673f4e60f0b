-- Questions of a specification that is compiled: what was taken of it asks one, and its answers have one status.
use Rattle.std.proofs.Common.{◌≡◌, ℕ, Bool, List, refl, sym, ◌∙◌, ap, subst}
use Rattle.command_words.specs.declared.command.Why.{Why}
use Rattle.compiled_meaning.proofs.Kept.{one_is_compiled}
use Rattle.compiled_meaning.proofs.Readiness.{compiled_is_ready}
use Rattle.compiled_meaning.specs.Compiled.{Compiles}
use Rattle.flat_core.specs.System.{System}
use Rattle.slice_text.specs.Text.{IsOutputCalled}
use Rattle.slice_text.proofs.Named.{one_number}
use Rattle.syntax_tree.specs.Tree as tree
use Rattle.trace_monitor.specs.declared.options.Options.{Options}
use Rattle.trace_why.specs.Meant.{MeansBy}
use Rattle.trace_why.specs.declared.ending.WhyEnding.{WhyEnding}
use Rattle.trace_why.specs.declared.ending.WhyEnding.TheVariants as answer
use Rattle.trace_why.specs.declared.question.Question.{Question}
use Rattle.trace_why.specs.inner.Laws.{Kind, kind_of, derived, eventless, refused as line_refused, faulted as has_faulted, limited as is_limited}
use Rattle.trace_why.proofs.OneKind.{one_kind_is_meant}
use Rattle.tsl_world.specs.Seen.{Seen}
use Rattle.tsl_world.specs.declared.outside.Slot.TheVariants.{Spec, Trace}
use Rattle.tessla_cli.specs.Asked.{why_options}
use Rattle.tessla_cli.specs.Explained.{OfAnswer, OfWhy, answered, question_of}
use Rattle.tessla_cli.specs.Messages.{status_of}
use Rattle.tessla_cli.specs.declared.ending.Ending.{Ending}
use Rattle.tessla_cli.specs.inner.RunPhases.{IsAsked}

-- ---- one kind of answer has one status
abbrev status_at : Kind → ℕ
status_at derived = 0
status_at eventless = 10
status_at line_refused = 4
status_at has_faulted = 1
status_at is_limited = 7

status_by_kind : (w : Why) (how : WhyEnding) → status_of (answered w how) ≡ status_at (kind_of how)
status_by_kind w (answer.Text text) = refl
status_by_kind w answer.NoEvent = refl
status_by_kind w (answer.Refused fault) = refl
status_by_kind w (answer.Fault t k p) = refl
status_by_kind w (answer.Limit n t) = refl

same_status : (items : List tree.Item) (s : System) (o : Options) (q : Question) (bytes : List ℕ) (ended : Bool) (w : Why) (how other : WhyEnding) → MeansBy items s o q bytes ended how → MeansBy items s o q bytes ended other
    → status_of (answered w how) ≡ status_of (answered w other)
same_status items s o q bytes ended w how other a b = status_by_kind w how ∙ ap status_at (one_kind_is_meant items s o q bytes ended how other a b) ∙ sym (status_by_kind w other)

-- ---- one question
-- what is asked of a source is a question of what was taken, where that is the source
pub of_why : (source : List ℕ) (w : Why) (s : System) (q : Question) (asked : IsAsked source w s q) (x : Seen) → x.taken Spec ≡ source → (P : List tree.Item → System → Question → Type 0) → P asked.items s q → OfWhy w x P
of_why source w s q asked x same P holds = record {
  items = asked.items;
  system = s;
  compiled = subst (λ (l : List ℕ). Compiles l asked.items s) (sym same) asked.compiles;
  holds = (asked.number, asked.called, subst (λ (p : Question). P asked.items s p) asked.question holds);
}

module _ (w : Why) (x : Seen) where
  -- two facts are of one question
  pub record OfOneQuestion (P Q : List tree.Item → System → Question → Type 0) : Type 0 where
    pub items : List tree.Item
    pub system : System
    pub question : Question
    pub one : P items system question
    pub other : Q items system question

  pub one_question : (P Q : List tree.Item → System → Question → Type 0) → OfWhy w x P → OfWhy w x Q → OfOneQuestion P Q
  one_question P Q a b =
      let one = one_is_compiled (x.taken Spec) b.items a.items b.system a.system b.compiled a.compiled in
      let (k, here, holds) = a.holds in
      let (l, there, other) =
      subst (λ (i : List tree.Item). (l : ℕ) × IsOutputCalled a.system w.output l × Q i a.system (question_of w l)) one.0
      (subst (λ (s : System). (l : ℕ) × IsOutputCalled s w.output l × Q b.items s (question_of w l)) one.1 b.holds) in
      let same : l ≡ k = one_number a.system w.output l k (compiled_is_ready (x.taken Spec) a.items a.system a.compiled).is_flat there here in
      record { items = a.items; system = a.system; question = question_of w k; one = holds; other = subst (λ (n : ℕ). Q a.items a.system (question_of w n)) same other }

  -- a weaker fact
  pub of_answer_weaker : (P Q : WhyEnding → Type 0) → ((by : WhyEnding) → P by → Q by) → OfAnswer w x P → OfAnswer w x Q
  of_answer_weaker P Q says a =
      let (k, called, (by, means, holds)) = a.holds in record { items = a.items; system = a.system; compiled = a.compiled; holds = (k, called, (by, means, says by holds)) }

  -- two answers end the program with one status
  pub one_status : (by other : Ending) → OfAnswer w x (λ how. by ≡ answered w how) → OfAnswer w x (λ how. other ≡ answered w how) → status_of by ≡ status_of other
  one_status by other a b =
      let o = one_question (λ items s q. (how : WhyEnding) × MeansBy items s (why_options w) q (x.taken Trace) (x.ended Trace) how × (by ≡ answered w how))
      (λ items s q. (how : WhyEnding) × MeansBy items s (why_options w) q (x.taken Trace) (x.ended Trace) how × (other ≡ answered w how)) a b in
      let (how, means, is) = o.one in
      let (how_2, means_2, is_2) = o.other in
      ap status_of is ∙ same_status o.items o.system (why_options w) o.question (x.taken Trace) (x.ended Trace) w how how_2 means means_2 ∙ sym (ap status_of is_2)
