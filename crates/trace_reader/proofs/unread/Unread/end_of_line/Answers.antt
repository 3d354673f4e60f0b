use Rattle.std.proofs.Common.{◌==◌, ◌∙◌, ap, arith, length-drop}
use Rattle.std.specs.Prelude.{position}
use Rattle.trace_reader.specs.Form.{split_once}
use Rattle.trace_reader.proofs.SplitLemmas.{rest_is}
use Rattle.trace_reader.proofs.UnreadLemmas.{none_after, found_after, none_searched}
use Rattle.trace_reader.proofs.unread.Unread.end_of_line.Goals as goal

pub invariant_of-self-in-None : goal.invariant_of-self-in-None
invariant_of-self-in-None c =
    let bytes = c.self.inside.bytes.items in
    let searched = c.self.inside.searched in
    let it = c.self.invariant in
    let low = it.0 in
    let high = it.1 in
    let none = rw c.deref.ensures.value at c.in-None.ensures in
    let count = rw c.deref.ensures.value at c.deref.ensures.len in
    rw (c.len-self-inside.ensures, ← count) (
      omega arith,
      omega arith,
      ap (split_once 10) (rest_is c.self.inside.start bytes)
          ∙ none_after bytes c.self.inside.start searched it.0 it.1 it.2 (none ∙ ap (position (λ b. b == 10)) (rest_is searched bytes)),
    )

pub invariant_of-self : goal.invariant_of-self
invariant_of-self c =
    let bytes = c.self.inside.bytes.items in
    let start = c.self.inside.start in
    let searched = c.self.inside.searched in
    let it = c.self.invariant in
    let low = it.0 in
    let found = rw c.deref.ensures.value at c.in-Some.ensures in
    let is = found ∙ ap (position (λ b. b == 10)) (rest_is searched bytes) in
    let within = (found_after bytes start searched it.0 it.1 it.2 c.in-Some.more is).0 in
    let rest = length-drop start bytes in
    (omega arith, omega arith, none_searched bytes start searched it.0 it.1 it.2 c.in-Some.more is)

pub returns-in-Some-clause-line : goal.returns-in-Some-clause-line
returns-in-Some-clause-line c =
    let bytes = c.self.inside.bytes.items in
    let searched = c.self.inside.searched in
    let it = c.self.invariant in
    let found = rw c.deref.ensures.value at c.in-Some.ensures in
    rw (← c.self.view_is) (found_after bytes c.self.inside.start searched it.0 it.1 it.2 c.in-Some.more (found ∙ ap (position (λ b. b == 10)) (rest_is searched bytes)))

pub returns-in-None-clause-none : goal.returns-in-None-clause-none
returns-in-None-clause-none c =
    let bytes = c.self.inside.bytes.items in
    let searched = c.self.inside.searched in
    let it = c.self.invariant in
    let none = rw c.deref.ensures.value at c.in-None.ensures in
    rw (← c.self.view_is) (none_after bytes c.self.inside.start searched it.0 it.1 it.2 (none ∙ ap (position (λ b. b == 10)) (rest_is searched bytes)))
