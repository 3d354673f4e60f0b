use Rattle.std.proofs.Common.{◌≡◌, ℕ, ◌||◌, eqb, length, take}
use Rattle.std.specs.List.{list_any}
use Rattle.agenda.specs.inner.Marks.{has_mark}
use Rattle.agenda.proofs.marks.Agenda.mark_each.Given as goal

abbrev pub invariant-loop-place : goal.invariant-loop-place
invariant-loop-place l = record {
  size : length l.self ≡ length l.fn.self;
  marked : (p : ℕ) → has_mark l.self p ≡ (has_mark l.fn.self p || list_any (λ x. eqb x p) (take l.place-index l.places));
}
