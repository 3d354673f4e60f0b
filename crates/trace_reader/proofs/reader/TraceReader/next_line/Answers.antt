use Rattle.std.proofs.Common.{◌∙◌, ap, sym}
use Rattle.trace_reader.specs.inner.Reader.{Reader, last_counts}
use Rattle.trace_reader.specs.Reading.{first_line}
use Rattle.trace_reader.proofs.AnyLemmas.{answered_more, answers_line, answers_rest}
use Rattle.trace_reader.proofs.StepLemmas.{line_fewer, none_from, rests, takes_line}
use Rattle.trace_reader.proofs.reader.TraceReader.next_line.Goals as goal

pub returns-in-Some-plain_next-clause-says : goal.returns-in-Some-plain_next-clause-says
returns-in-Some-plain_next-clause-says c =
    let accepted = sym (ap (λ (r : Reader). r.refused) c.self.view_is) ∙ none_from c.self.inside.refused c.in_default.not-Some in
    λ s strict limit fed given ended reads.
    (takes_line c.args.self.now s strict limit fed given ended reads c.take_plain.new.self c.in-Some-plain_next.line.len c.take_plain.result c.in-Some-plain_next.ensures.line accepted c.take_plain.ensures).0

pub returns-in-Some-plain_next-clause-reads : goal.returns-in-Some-plain_next-clause-reads
returns-in-Some-plain_next-clause-reads c =
    let accepted = sym (ap (λ (r : Reader). r.refused) c.self.view_is) ∙ none_from c.self.inside.refused c.in_default.not-Some in
    λ s strict limit fed given ended reads.
    (takes_line c.args.self.now s strict limit fed given ended reads c.take_plain.new.self c.in-Some-plain_next.line.len c.take_plain.result c.in-Some-plain_next.ensures.line accepted c.take_plain.ensures).1

pub returns-in-Some-plain_next-clause-fewer : goal.returns-in-Some-plain_next-clause-fewer
returns-in-Some-plain_next-clause-fewer c =
    line_fewer c.args.self.now c.take_plain.new.self c.in-Some-plain_next.line.len c.take_plain.result c.in-Some-plain_next.ensures.some c.take_plain.ensures

pub returns-in-Some-line_len-clause-says : goal.returns-in-Some-line_len-clause-says
returns-in-Some-line_len-clause-says c =
    let has = ap (first_line c.self.inside.unread) (ap (λ (r : Reader). last_counts r) c.self.view_is ∙ sym c.last_counts-last_counts.ensures) ∙ c.in-Some-line_len.ensures.line in
    let takes = rw c.line_len.ensures.same at c.take_line.ensures in
    let accepted = none_from c.self.inside.refused c.in_default.not-Some in
    rw (← c.self.view_is) (λ s strict limit fed given ended reads.
    (takes_line _ s strict limit fed given ended reads c.take_line.new.self c.in-Some-line_len.len c.take_line.result has accepted takes).0)

pub returns-in-Some-line_len-clause-reads : goal.returns-in-Some-line_len-clause-reads
returns-in-Some-line_len-clause-reads c =
    let has = ap (first_line c.self.inside.unread) (ap (λ (r : Reader). last_counts r) c.self.view_is ∙ sym c.last_counts-last_counts.ensures) ∙ c.in-Some-line_len.ensures.line in
    let takes = rw c.line_len.ensures.same at c.take_line.ensures in
    let accepted = none_from c.self.inside.refused c.in_default.not-Some in
    rw (← c.self.view_is) (λ s strict limit fed given ended reads.
    (takes_line _ s strict limit fed given ended reads c.take_line.new.self c.in-Some-line_len.len c.take_line.result has accepted takes).1)

pub returns-in-None-clause-says : goal.returns-in-None-clause-says
returns-in-None-clause-says c =
    let none = ap (first_line c.self.inside.unread) (ap (λ (r : Reader). last_counts r) c.self.view_is ∙ sym c.last_counts-last_counts.ensures) ∙ c.in-None.ensures.none in
    let rest = rw c.line_len.ensures.same at c.next_at_rest.ensures in
    rw (← c.self.view_is) (λ s strict limit fed given ended reads.
    (rests _ s strict limit fed given ended reads c.next_at_rest.new.self c.next_at_rest.result none rest).0)

pub returns-in-None-clause-reads : goal.returns-in-None-clause-reads
returns-in-None-clause-reads c =
    let none = ap (first_line c.self.inside.unread) (ap (λ (r : Reader). last_counts r) c.self.view_is ∙ sym c.last_counts-last_counts.ensures) ∙ c.in-None.ensures.none in
    let rest = rw c.line_len.ensures.same at c.next_at_rest.ensures in
    rw (← c.self.view_is) (λ s strict limit fed given ended reads.
    (rests _ s strict limit fed given ended reads c.next_at_rest.new.self c.next_at_rest.result none rest).1)

pub invariant_of-self : goal.invariant_of-self
invariant_of-self c = rw c.in-Some-line_len.ensures.same c.self.invariant

pub returns-in-Some-line_len-clause-fewer : goal.returns-in-Some-line_len-clause-fewer
returns-in-Some-line_len-clause-fewer c =
    let takes = rw (c.line_len.ensures.same, c.self.view_is) at c.take_line.ensures in
    let some = ap (λ (r : Reader). r.unread) c.self.view_is in
    line_fewer c.args.self.now c.take_line.new.self c.in-Some-line_len.len c.take_line.result (rw some at c.in-Some-line_len.ensures.some) takes

pub returns-in-Some-plain_next-clause-answered : goal.returns-in-Some-plain_next-clause-answered
returns-in-Some-plain_next-clause-answered c =
    answers_line c.args.self.now c.take_plain.new.self c.in-Some-plain_next.line.len c.take_plain.result c.in-Some-plain_next.ensures.line c.in-Some-plain_next.ensures.some c.take_plain.ensures

pub returns-in-Some-line_len-clause-answered : goal.returns-in-Some-line_len-clause-answered
returns-in-Some-line_len-clause-answered c =
    let has = ap (first_line c.self.inside.unread) (ap (λ (r : Reader). last_counts r) c.self.view_is ∙ sym c.last_counts-last_counts.ensures) ∙ c.in-Some-line_len.ensures.line in
    let takes = rw c.line_len.ensures.same at c.take_line.ensures in
    rw (← c.self.view_is) (answers_line _ c.take_line.new.self c.in-Some-line_len.len c.take_line.result has c.in-Some-line_len.ensures.some takes)

pub returns-in-None-clause-answered : goal.returns-in-None-clause-answered
returns-in-None-clause-answered c =
    let none = ap (first_line c.self.inside.unread) (ap (λ (r : Reader). last_counts r) c.self.view_is ∙ sym c.last_counts-last_counts.ensures) ∙ c.in-None.ensures.none in
    let rest = rw c.line_len.ensures.same at c.next_at_rest.ensures in
    let accepted = none_from c.self.inside.refused c.in_default.not-Some in
    rw (← c.self.view_is) (answers_rest _ c.next_at_rest.new.self c.next_at_rest.result c.self.invariant none accepted rest)

pub returns-in-None-clause-more : goal.returns-in-None-clause-more
returns-in-None-clause-more c =
    let none = ap (first_line c.self.inside.unread) (ap (λ (r : Reader). last_counts r) c.self.view_is ∙ sym c.last_counts-last_counts.ensures) ∙ c.in-None.ensures.none in
    let rest = rw c.line_len.ensures.same at c.next_at_rest.ensures in
    let accepted = none_from c.self.inside.refused c.in_default.not-Some in
    answered_more _ c.next_at_rest.new.self c.next_at_rest.result (answers_rest _ c.next_at_rest.new.self c.next_at_rest.result c.self.invariant none accepted rest)
