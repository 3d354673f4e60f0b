-- What bypasses an update, by following edges around it.
use Rattle.std.proofs.Common.{◌≡◌, ◌↔◌, ℕ, ◌<◌, Bool, List, [], ◌∷◌, length, get_or, Some, refl, sym, ap, subst, ◌∙◌, inl, inr, arith}
use Rattle.std.specs.Prelude.{IsTrue}
use Rattle.std.proofs.lemmas.Option.{same_Some, slice_get_within}
use Rattle.tsl_value.specs.declared.scalar.ValueType.{ValueType}
use Rattle.flat_core.specs.declared.equation.Equation.{Equation}
use Rattle.flat_core.specs.Complete.{IsFlat}
use Rattle.flat_core.specs.inner.Marks.{has_mark}
use Rattle.flat_core.specs.System.{System, equation}
use Rattle.flat_core.specs.TypedSystem.{AreOfTypes}
use Rattle.translation_order.specs.Graph.{Walk}
use Rattle.trigger_rules.specs.Question.{Implies}
use Rattle.alias_rules.specs.Uses.{IsLast, IsWritten}
use Rattle.alias_rules.specs.Roots.{Carries, IsRoot}
use Rattle.alias_rules.specs.Sharing.{Alias, same, lasts}
use Rattle.alias_rules.specs.Bypass.{PassesOver, GoesAround, Bypasses}
use Rattle.alias_paths.specs.inner.Search.{AreReached}
use Rattle.alias_paths.specs.inner.Pairs.{ArePairs}
use Rattle.alias_paths.specs.inner.Marking.{AreJust, AddsMarks, HasMarkedSecond, HasMarkedFirst}
use Rattle.alias_paths.specs.inner.Kept.{AreStoredMarks}
use Rattle.alias_paths.specs.inner.Flows.{SharesWithOne}
use Rattle.alias_paths.specs.inner.Contents.{IsRootOfSource}
use Rattle.alias_nears.specs.inner.Contents.{IsMergeAfter, IsPairAround, SharesWithLast, IsLastOfMarked, AreAliased, IsBegin, IsNear, IsBeside, IsMarkedBeside}
use Rattle.alias_paths.proofs.Adding.{marks_as}
use Rattle.alias_paths.proofs.Rooting.{just_as, walk_as}
use Rattle.alias_paths.proofs.Sharers.{last_origin}

-- ---- merges

pub two_items : (args : List ℕ) → length args ≡ 2 → args ≡ get_or args 0 0 ∷ get_or args 1 0 ∷ []
two_items [] size = absurd (omega arith)
two_items (a ∷ []) size = absurd (omega arith)
two_items (a ∷ b ∷ []) size = refl
two_items (a ∷ b ∷ c ∷ args) size = absurd (omega arith)

first_typed : (equations : List Equation) (a : ℕ) (rest : List ℕ) (types : List ValueType) → AreOfTypes equations (a ∷ rest) types → a < length equations
first_typed equations a rest [] h = absurd h
first_typed equations a rest (t ∷ types) h = slice_get_within equations a h.0.at h.0.is

module _ (s : System) (i x : ℕ) (e : Equation) (found : equation s i ≡ Some e) where
  pub merged_low : IsFlat s → (other : ℕ) → IsMergeAfter e other x → other < length s.equations
  merged_low flat other after =
      let typed = flat.complete.typed.each i e found in
      first_typed s.equations other (x ∷ []) typed.types (subst (λ args. AreOfTypes s.equations args typed.types) after.args_are typed.arguments)

  pub merge_of : (y : ℕ) (p : PassesOver s y i x) → IsMergeAfter e p.other x
  merge_of y p =
      let is : p.at ≡ e = same_Some p.at e (sym p.is ∙ found) in
      record { merges = ap (λ (d : Equation). d.op) (sym is) ∙ p.merges; args_are = ap (λ (d : Equation). d.args) (sym is) ∙ p.args_are; differ = p.differ }

  pub passes_some : (y other : ℕ) (r : Bool) → IsMergeAfter e other x → IsTrue r ↔ Implies s y other → IsTrue r ↔ PassesOver s y i x
  passes_some y other r after exact = (
    (λ h. record { at = e; is = found; merges = after.merges; other = other; args_are = after.args_are; differ = after.differ; implied = exact.0 h }),
    (λ p.
        let args = (merge_of y p).args_are in
        let one : p.other ≡ other = let also = after.args_are in cc in
        exact.1 (subst (Implies s y) one p.implied)),
  )

-- ---- edges around an update

-- what is reached along the same edges under another name
reached_as : (E F : ℕ → ℕ → Type 0) (begins reached : List Bool) → ((a b : ℕ) → E a b → F a b) → ((a b : ℕ) → F a b → E a b) → AreReached E begins reached → AreReached F begins reached
reached_as E F begins reached to from h = record {
  each = λ x. (
    (λ m. let way = (h.each x).0 m in record { start = way.start; is_start = way.is_start; walk = walk_as E F to way.walk }),
    (λ way. (h.each x).1 (record { start = way.start; is_start = way.is_start; walk = walk_as F E from way.walk })),
  );
}

pub reached_around : (s : System) (set : List ℕ) (y : ℕ) (carriers : List (ℕ × ℕ)) (begins reached : List Bool) → ArePairs (Carries s set) carriers → AreReached (IsPairAround s y carriers) begins reached → AreReached (GoesAround s set y) begins reached
reached_around s set y carriers begins reached are h =
    reached_as (IsPairAround s y carriers) (GoesAround s set y) begins reached
    (λ a i p. record { carries = (are.each a i).0 p.among; avoids = p.leads.avoids; enters = p.leads.enters })
    (λ a i g. record { among = (are.each a i).1 g.carries; leads = record { avoids = g.avoids; enters = g.enters } }) h

-- ---- who shares with a last value among the roots

module _ (s : System) (set : List ℕ) (y : ℕ) (last_pairs : List (ℕ × ℕ)) (are : ArePairs (IsLast s) last_pairs) (roots stored : List Bool) (rooted : AreJust (length s.equations) (IsRootOfSource s set y) roots) (found : AreJust (length roots) (HasMarkedSecond last_pairs roots) stored) where
  pub all_stored : AreStoredMarks s stored
  all_stored x m = let h = (found.each x).0 m in record { last = h.second; taken = (are.each x h.second).0 h.among }

  pub last_sharers_are : (marks : List Bool) → AreJust (length s.equations) (SharesWithOne s set stored) marks → AreJust (length s.equations) (SharesWithLast s set y) marks
  last_sharers_are marks h =
      just_as (length s.equations) (SharesWithOne s set stored) (SharesWithLast s set y) marks h
      (λ v m.
      let one = (found.each m.one).0 m.marked in
      let root = (rooted.each one.second).0 one.marked in
      record { source = root.source; written = root.written; last = m.one; comes = record { root = one.second; is_root = root.root; last = (are.each m.one one.second).0 one.among }; shares = m.shares })
      (λ v w. record {
        one = w.last;
        marked = (found.each w.last).1 (record {
          second = w.comes.root;
          among = (are.each w.last w.comes.root).1 w.comes.last;
          marked = (rooted.each w.comes.root).1 (record { source = w.source; written = w.written; root = w.comes.is_root });
        });
        shares = w.shares;
      })

pub aliased_by : (s : System) (last_pairs : List (ℕ × ℕ)) (sharers old new : List Bool) → ArePairs (IsLast s) last_pairs → AddsMarks old (HasMarkedFirst last_pairs sharers) new → AreAliased s old sharers new
aliased_by s last_pairs sharers old new are h =
    marks_as old (HasMarkedFirst last_pairs sharers) (IsLastOfMarked s sharers) new h
    (λ o m. record { variable = m.first; last = (are.each m.first o).0 m.among; marked = m.marked })
    (λ o l. record { first = l.variable; among = (are.each l.variable o).1 l.last; marked = l.marked })

-- ---- where content begins

module _ (s : System) (flat : IsFlat s) (set : List ℕ) (y : ℕ) (roots sharers begins : List Bool) (rooted : AreJust (length s.equations) (IsRootOfSource s set y) roots) (shared : AreJust (length s.equations) (SharesWithLast s set y) sharers) (aliased : AreAliased s roots sharers begins) where
  begin_from : (o : ℕ) → IsTrue (has_mark begins o) → IsBegin s set y o
  begin_from o m = elim (aliased.from o m) [
    | inl at_root ↦ let r = (rooted.each o).0 at_root in record { source = r.source; written = r.written; root = o; source_root = r.root; begins = r.root.origin; aliases = same }
    | inr at_last ↦
        let w = (shared.each at_last.variable).0 at_last.marked in
        record {
          source = w.source;
          written = w.written;
          root = w.comes.root;
          source_root = w.comes.is_root;
          begins = last_origin s flat set at_last.variable o at_last.last;
          aliases = lasts at_last.last w.comes.last w.shares;
        }
  ]

  begun : (source root origin : ℕ) → IsWritten s source y → IsRoot s set root source → Alias s set origin root → IsTrue (has_mark begins origin)
  begun source root origin written at_root same = aliased.kept origin ((rooted.each origin).1 (record { source = source; written = written; root = at_root }))
  begun source root origin written at_root (lasts {v} {w} first second h) =
      aliased.there origin (record {
        variable = v;
        last = first;
        marked = (shared.each v).1 (record { source = source; written = written; last = w; comes = record { root = root; is_root = at_root; last = second }; shares = h });
      })

  pub begins_are : AreJust (length s.equations) (IsBegin s set y) begins
  begins_are = record { one_each = aliased.one_each ∙ rooted.one_each; each = λ o. (begin_from o, λ b. begun b.source b.root o b.written b.source_root b.aliases) }

-- ---- the whole

module _ (s : System) (set : List ℕ) (y : ℕ) where
  -- a walk around y from where content begins leads to what is near y
  pub near_of : (o x : ℕ) → IsBegin s set y o → Walk (GoesAround s set y) o x → IsNear s set y x
  near_of o x b walk = record { source = b.source; written = b.written; root = b.root; source_root = b.source_root; origin = o; begins = b.begins; aliases = b.aliases; around = walk }

  pub begin_of : (x : ℕ) (n : IsNear s set y x) → IsBegin s set y n.origin
  begin_of x n = record { source = n.source; written = n.written; root = n.root; source_root = n.source_root; begins = n.begins; aliases = n.aliases }

  pub near_are : (begins reached : List Bool) → AreJust (length s.equations) (IsBegin s set y) begins → AreReached (GoesAround s set y) begins reached → length reached ≡ length s.equations → AreJust (length s.equations) (IsNear s set y) reached
  near_are begins reached just ends size = record {
    one_each = size;
    each = λ x. (
      (λ m. let way = (ends.each x).0 m in near_of way.start x ((just.each way.start).0 way.is_start) way.walk),
      (λ n. (ends.each x).1 (record { start = n.origin; is_start = (just.each n.origin).1 (begin_of x n); walk = n.around })),
    );
  }

-- what is near an update and beside it bypasses it
pub bypasses_near : (s : System) (set : List ℕ) (y x : ℕ) → IsNear s set y x → IsBeside s y x → Bypasses s set y x
bypasses_near s set y x n b = record {
  variable = b.variable;
  together = b.together;
  source = n.source;
  written = n.written;
  root = n.root;
  source_root = n.source_root;
  origin = n.origin;
  begins = n.begins;
  aliases = n.aliases;
  around = n.around;
}

pub near_bypass : (s : System) (set : List ℕ) (y x : ℕ) → Bypasses s set y x → IsNear s set y x
near_bypass s set y x b = record {
  source = b.source;
  written = b.written;
  root = b.root;
  source_root = b.source_root;
  origin = b.origin;
  begins = b.begins;
  aliases = b.aliases;
  around = b.around;
}

pub bypassed_are : (s : System) (set : List ℕ) (y : ℕ) (near marks : List Bool) → AreJust (length s.equations) (IsNear s set y) near → AreJust (length s.equations) (IsMarkedBeside s y near) marks → AreJust (length s.equations) (Bypasses s set y) marks
bypassed_are s set y near marks just h =
    just_as (length s.equations) (IsMarkedBeside s y near) (Bypasses s set y) marks h
    (λ x m. bypasses_near s set y x ((just.each x).0 m.marked) m.beside)
    (λ x b. record { marked = (just.each x).1 (near_bypass s set y x b); beside = record { variable = b.variable; together = b.together } })

-- and what bypasses it is near it, and beside it
pub beside_are : (s : System) (set : List ℕ) (y : ℕ) (near marks : List Bool) → AreJust (length s.equations) (IsNear s set y) near → AreJust (length s.equations) (Bypasses s set y) marks → AreJust (length s.equations) (IsMarkedBeside s y near) marks
beside_are s set y near marks just h =
    just_as (length s.equations) (Bypasses s set y) (IsMarkedBeside s y near) marks h
    (λ x b. record { marked = (just.each x).1 (near_bypass s set y x b); beside = record { variable = b.variable; together = b.together } })
    (λ x m. bypasses_near s set y x ((just.each x).0 m.marked) m.beside)
