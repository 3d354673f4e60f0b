use Rattle.std.proofs.Common.{◌≡◌, length, sym, ap, subst, ◌∙◌, arith}
use Rattle.translation_order.specs.Order.{AreOfSteps}
use Rattle.alias_rules.specs.Uses.{read_of, passed_of, written_of}
use Rattle.alias_paths.specs.inner.Pairs.{Adds}
use Rattle.alias_nears.specs.inner.Constraints.{IsMarkedBefore, IsTakenBefore, IsWrittenBefore, IsPassedBefore, IsPrintedBefore}
use Rattle.alias_nears.proofs.Constraining.{update_adds}
use Rattle.alias_paths.proofs.Using.{uses_of_steps}
use Rattle.alias_analysis.proofs.constraints.push_update.Goals as goal

pub push_marked-requires : goal.push_marked-requires
push_marked-requires c =
    let size : length c.marks-marks.result.now ≡ length c.args.flat.now.equations = ap length c.marks-marks.ensures ∙ c.requires.near.bypassed.one_each in
    let few = c.assert_whole.ensures.is_flat.few_equations in
    omega arith

pub push_readers-requires : goal.push_readers-requires
push_readers-requires c =
    let s = c.args.flat.now in
    let size : length c.marks-marks.result.now ≡ length s.equations = ap length c.marks-marks.ensures ∙ c.requires.near.bypassed.one_each in
    subst (λ m. AreOfSteps m c.as_slice.result.now) (sym size) (subst (AreOfSteps (length s.equations)) (sym c.as_slice.ensures) (uses_of_steps s read_of c.args.uses.now.read c.requires.uses.read))

pub push_writers-requires : goal.push_writers-requires
push_writers-requires c =
    let s = c.args.flat.now in
    let size : length c.marks-marks.result.now ≡ length s.equations = ap length c.marks-marks.ensures ∙ c.requires.near.bypassed.one_each in
    subst (λ m. AreOfSteps m c.as_slice-2.result.now) (sym size) (subst (AreOfSteps (length s.equations)) (sym c.as_slice-2.ensures) (uses_of_steps s written_of c.args.uses.now.written c.requires.uses.written))

pub push_passers-requires-clause-there : goal.push_passers-requires-clause-there
push_passers-requires-clause-there c =
    let s = c.args.flat.now in
    subst (AreOfSteps (length s.equations)) (sym c.as_slice-passed.ensures) (uses_of_steps s passed_of c.args.uses.now.passed c.requires.uses.passed)

pub push_passers-requires-clause-marked : goal.push_passers-requires-clause-marked
push_passers-requires-clause-marked c =
    let y = c.args.update in
    λ a m. c.in_ok-push_writers.ensures.kept a y (c.in_ok-push_readers.ensures.kept a y (c.in_ok-push_marked.ensures.there a y (record { marked = m; is = sym c.get-number.ensures })))

pub returns : goal.returns
returns c =
    let s = c.args.flat.now in
    let uses = c.args.uses.now in
    let y = c.args.update in
    let marks = c.args.near.now.bypassed in
    let same = c.get-number.ensures in
    let old = c.args.pairs.now in
    let one = c.push_marked.new.pairs in
    let two = c.push_readers.new.pairs in
    let three = c.push_writers.new.pairs in
    let four = c.push_passers.new.pairs in
    let new = c.push_printers.new.pairs in
    let first = subst (λ z. Adds old (IsMarkedBefore marks z) one) same (subst (λ m. Adds old (IsMarkedBefore m c.get-number.result) one) c.marks-marks.ensures c.in_ok-push_marked.ensures) in
    let second_at = subst (λ m. Adds one (IsTakenBefore c.as_slice.result.now m c.get-number.result) two) c.marks-marks.ensures c.in_ok-push_readers.ensures in
    let second = subst (λ z. Adds one (IsTakenBefore uses.read marks z) two) same (subst (λ l. Adds one (IsTakenBefore l marks c.get-number.result) two) c.as_slice.ensures second_at) in
    let third_at = subst (λ m. Adds two (IsWrittenBefore c.as_slice-2.result.now m c.get-number.result) three) c.marks-marks.ensures c.in_ok-push_writers.ensures in
    let third = subst (λ z. Adds two (IsWrittenBefore uses.written marks z) three) same (subst (λ l. Adds two (IsWrittenBefore l marks c.get-number.result) three) c.as_slice-2.ensures third_at) in
    let fourth_at = subst (λ m. Adds three (IsPassedBefore s c.as_slice-passed.result.now m y) four) c.marks-marks.ensures c.in_ok-push_passers.ensures in
    let fourth = subst (λ l. Adds three (IsPassedBefore s l marks y) four) c.as_slice-passed.ensures fourth_at in
    let fifth_at = subst (λ m. Adds four (IsPrintedBefore s m c.get-number.result) new) c.marks-marks.ensures c.in_ok-push_printers.ensures in
    let fifth = subst (λ z. Adds four (IsPrintedBefore s marks z) new) same fifth_at in
    update_adds s c.args.set.now uses c.requires.uses y marks c.requires.near.bypassed old one two three four new first second third fourth fifth
