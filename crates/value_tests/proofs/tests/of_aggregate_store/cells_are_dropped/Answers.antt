use Rattle.std.proofs.Common.{ap}
use Rattle.cell_reader.specs.inner.Cells.{IsLive}
use Rattle.aggregate_store.specs.inner.Stored.{Stored}
use Rattle.aggregate_store.proofs.Live.{is_first, is_live, is_second, still_listed}
use Rattle.value_tests.proofs.tests.of_aggregate_store.cells_are_dropped.Goals as goal

pub text-requires : goal.text-requires
text-requires g c =
    let third = c.in_ok-third.third in
    let first_kept : IsLive c.keep_only.new.self.cells third =
    still_listed c.empty-3.new.self.cells c.keep_only.new.self.cells _ (ap (λ (s : Stored). s.cells) c.keep_only.ensures) third (is_first third c.in_ok-first.first)
    (is_live _ _ _ _ (ap (λ (s : Stored). s.cells) c.in_ok-third.ensures.made)) in
    still_listed c.keep_only.new.self.cells c.keep_only-2.new.self.cells _ (ap (λ (s : Stored). s.cells) c.keep_only-2.ensures) third (is_second c.in_ok-second.second third) first_kept
