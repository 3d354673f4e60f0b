-- What conflicts and pairs a set of updates has, a larger one has too, where no variable is nil. So the set is fine where the larger one is.
use Rattle.std.proofs.Common.{ℕ, List}
use Rattle.std.specs.Prelude.{IsTrue}
use Rattle.flat_core.specs.Complete.{IsFlat}
use Rattle.flat_core.specs.Members.{is_in}
use Rattle.flat_core.specs.System.{System}
use Rattle.flat_core.specs.WellFormed.{IsWellFormed}
use Rattle.translation_order.proofs.Alike.{path_alike}
use Rattle.alias_rules.specs.Conflict.{StandsBefore, needed, bypasses, takes}
use Rattle.alias_rules.specs.Fine.{IsFine}
use Rattle.alias_nears.specs.inner.Beginning.{NoneIsNil}
use Rattle.alias_nears.proofs.Larger.{comes_more, shares_more, bypasses_wider}

module _ (s : System) (flat : IsFlat s) (formed : IsWellFormed s) (some : NoneIsNil s) (more : List ℕ) (set : List ℕ) (wider : (x : ℕ) → IsTrue (is_in set x) → IsTrue (is_in more x)) where
  stands_more : (a b : ℕ) → StandsBefore s set a b → StandsBefore s more a b
  stands_more a b (needed n) = needed n
  stands_more a b (bypasses inside h) = bypasses (wider b inside) (bypasses_wider s flat formed some more set wider b inside a h)
  stands_more a b (takes x inside h t) = takes x (wider b inside) (bypasses_wider s flat formed some more set wider b inside x h) t

  -- the set is fine where the larger one is
  pub fewer_are_fine : IsFine s more → IsFine s set
  fewer_are_fine fine = record {
    none_kept = λ y c. fine.none_kept y (record {
      inside = wider y c.inside;
      other = c.other;
      conflict = record { bypasses = bypasses_wider s flat formed some more set wider y c.inside c.other c.conflict.bypasses; stored = c.conflict.stored };
    });
    all_overwritten = λ y c.
        let n = c.conflict in
        fine.all_overwritten y (record {
          inside = wider y c.inside;
          other = c.other;
          conflict = record { source = n.source; written = n.written; last = n.last; comes = comes_more s flat formed some more set wider n.source n.last n.comes; shares = shares_more s flat formed some more set wider c.other n.last n.shares; stored = n.stored; not_implied = n.not_implied };
        });
    acyclic = λ a around. fine.acyclic a (path_alike (StandsBefore s set) (StandsBefore s more) stands_more a a around);
  }
