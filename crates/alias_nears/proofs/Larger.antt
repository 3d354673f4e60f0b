-- What is near the updates of a set is near them in a larger one too, where no variable is nil: an update that is taken into the set no
-- longer begins content, but from its source on the way back to where content begins there is always one.
use Rattle.std.proofs.Common.{◌≡◌, ℕ, ◌<◌, List, length, Contains, Some, inl, inr, sym, ap, subst, ◌∙◌}
use Rattle.std.specs.Prelude.{IsTrue}
use Rattle.std.specs.List.{AllByRecursion}
use Rattle.std.proofs.lemmas.Bool.{cases_Bool, false≢true}
use Rattle.std.proofs.lemmas.Option.{slice_get_within, same_Some}
use Rattle.flat_core.specs.Complete.{IsFlat}
use Rattle.flat_core.specs.declared.equation.Equation.{Equation}
use Rattle.translation_order.specs.Graph.{Walk, stay, onward, Path, edge}
use Rattle.flat_core.specs.Members.{is_in}
use Rattle.flat_core.specs.System.{System, equation, runs}
use Rattle.flat_core.specs.WellFormed.{unguarded_of, Needs, IsWellFormed}
use Rattle.flat_core.proofs.Members.{all_at}
use Rattle.flat_core.proofs.Depth.{unguarded_in}
use Rattle.translation_order.proofs.PathLemmas.{walk_on, path_on}
use Rattle.alias_rules.specs.Bypass.{PassesOver, GoesAround, Bypasses}
use Rattle.alias_rules.specs.Roots.{begins_content, Carries, passed, written, IsOrigin, IsRoot, ComesFromLast}
use Rattle.alias_rules.specs.Sharing.{Shares, itself, turned, common_root, last_roots, last_root, Alias, same, lasts}
use Rattle.flat_core.specs.Updates.{is_update}
use Rattle.alias_rules.specs.Uses.{IsVariable, IsLast, IsWritten}
use Rattle.alias_paths.proofs.Rooting.{walk_as}
use Rattle.alias_paths.proofs.Sharers.{last_origin}
use Rattle.alias_nears.specs.inner.Beginning.{NoneIsNil}
use Rattle.alias_nears.specs.inner.Contents.{IsNear}
use Rattle.translation_order.proofs.Descent.{descend}
use Rattle.alias_nears.proofs.Bypassing.{bypasses_near, near_bypass}
use Rattle.alias_nears.proofs.Ways.{IsAggregateAt, Way, begins, is_nil, passes, writes, way, passed_needed, written_needed, begins_outside}

pub walk_join : {E : ℕ → ℕ → Type 0} {a b c : ℕ} → Walk E a b → Walk E b c → Walk E a c
walk_join stay more = more
walk_join (onward e w) more = onward e (walk_join w more)

module _ (s : System) (flat : IsFlat s) (formed : IsWellFormed s) (some : NoneIsNil s) (more : List ℕ) where
  needed_low : (a b : ℕ) → Needs s a b → a < length s.equations
  needed_low a b n = slice_get_within s.equations a n.at n.is

  needed_by : (a i : ℕ) → Carries s more a i → Needs s i a
  needed_by a i (passed p) = record { at = p.at; is = p.is; argument = passed_needed p.at.op p.at.args a p.argument }
  needed_by a i (written inside w) = record { at = w.at; is = w.is; argument = written_needed w.at.op w.at.args a w.argument }

  -- ---- where content begins

  -- a carrier edge that leads past whatever is merged
  record Leads (a i : ℕ) : Type 0 where
    carries : Carries s more a i
    enters : (y : ℕ) → PassesOver s y i a → ⊥

  record IsBegun (x : ℕ) : Type 0 where
    root : ℕ
    origin : IsOrigin s more root
    leads : Walk Leads root x

  argument_runs : (n a : ℕ) (e : Equation) → equation s n ≡ Some e → IsTrue (runs s n) → Contains (unguarded_of e.op e.args) a → IsAggregateAt s.equations a → IsVariable s a
  argument_runs n a e is running argument aggregate =
      let found = flat.proper.runs_all n running in
      let same : found.0 ≡ e = same_Some found.0 e (sym found.1 ∙ is) in
      let all = subst (λ (d : Equation). AllByRecursion (λ m. IsTrue (runs s m)) d.args) same found.2 in
      record { at = aggregate.at; is = aggregate.is; running = all_at (λ m. IsTrue (runs s m)) e.args all a (unguarded_in e.op e.args a argument); aggregate = aggregate.aggregate }

  -- it begins at an equation, or where it begins for one of its arguments
  begun_by : (n : ℕ) (v : IsVariable s n) → ((m : ℕ) → Needs s n m → IsVariable s m → IsBegun m) → Way s.equations v.at.op v.at.args → IsBegun n
  begun_by n v before (begins h) = record { root = n; origin = record { variable = v; at = v.at; is = v.is; begins = h (is_in more n) }; leads = stay }
  begun_by n v before (is_nil h) = absurd (some n (record { variable = v; at = v.at; is = v.is; nil = h }))
  begun_by n v before (passes a aggregate there over) =
      let argument = passed_needed v.at.op v.at.args a there in
      let variable = argument_runs n a v.at v.is v.running argument aggregate in
      let from = before a (record { at = v.at; is = v.is; argument = argument }) variable in
      let enters : (y : ℕ) → PassesOver s y n a → ⊥ = λ y p.
      let one : p.at ≡ v.at = same_Some p.at v.at (sym p.is ∙ v.is) in
      p.differ (over p.other (ap (λ (e : Equation). e.op) (sym one) ∙ p.merges) (ap (λ (e : Equation). e.args) (sym one) ∙ p.args_are)) in
      record {
        root = from.root;
        origin = from.origin;
        leads = walk_on from.leads (record { carries = passed (record { variable = variable; at = v.at; is = v.is; running = v.running; argument = there }); enters = enters });
      }
  begun_by n v before (writes a aggregate update there) = elim (cases_Bool (is_in more n)) [
    | inl inside ↦
        let argument = written_needed v.at.op v.at.args a there in
        let variable = argument_runs n a v.at v.is v.running argument aggregate in
        let from = before a (record { at = v.at; is = v.is; argument = argument }) variable in
        let enters : (y : ℕ) → PassesOver s y n a → ⊥ = λ y p.
        let one : p.at ≡ v.at = same_Some p.at v.at (sym p.is ∙ v.is) in
        false≢true (ap is_update (sym p.merges ∙ ap (λ (e : Equation). e.op) one) ∙ update) in
        record {
          root = from.root;
          origin = from.origin;
          leads = walk_on from.leads (record { carries = written inside (record { variable = variable; at = v.at; is = v.is; running = v.running; argument = there }); enters = enters });
        }
    | inr outside ↦
        record {
          root = n;
          origin = record { variable = v; at = v.at; is = v.is; begins = ap (begins_content v.at.op) outside ∙ begins_outside v.at.op update };
          leads = stay;
        }
  ]

  begun : (x : ℕ) → IsVariable s x → IsBegun x
  begun = descend (length s.equations) (Needs s) formed needed_low (λ n. IsVariable s n → IsBegun n) (λ n before v.
      let typed = flat.complete.typed.each n v.at v.is in
      begun_by n v before (way s.equations typed.typed v.at.args typed.arguments v.aggregate))

  leads_carry : (a i : ℕ) → Leads a i → Carries s more a i
  leads_carry a i l = l.carries

  -- ---- and it comes there around an update that stands after it
  back_path : {a b : ℕ} (c : ℕ) → Needs s c b → Walk (Carries s more) a b → Path (Needs s) c a
  back_path c n stay = edge n
  back_path c n (onward {a} {b} e w) = path_on (back_path c n w) (needed_by a b e)

  around_to : (y m : ℕ) → Needs s y m → {a b : ℕ} → Walk Leads a b → Walk (Carries s more) b m → Walk (GoesAround s more y) a b
  around_to y m n stay rest = stay
  around_to y m n (onward {b = i} e w) rest =
      onward (record {
        carries = e.carries;
        avoids = λ itself. formed y (subst (Path (Needs s) y) itself (back_path y n (walk_join (walk_as Leads (Carries s more) leads_carry w) rest)));
        enters = e.enters y;
      }) (around_to y m n w rest)

  module _ (set : List ℕ) (wider : (x : ℕ) → IsTrue (is_in set x) → IsTrue (is_in more x)) where
    pub carries_more : (a i : ℕ) → Carries s set a i → Carries s more a i
    carries_more a i (passed p) = passed p
    carries_more a i (written inside w) = written (wider i inside) w

    walk_more : {a b : ℕ} → Walk (Carries s set) a b → Walk (Carries s more) a b
    walk_more w = walk_as (Carries s set) (Carries s more) carries_more w

    root_more : (x r : ℕ) (root : IsRoot s set r x) → IsRoot s more (begun r root.origin.variable).root x
    root_more x r root = let b = begun r root.origin.variable in record { origin = b.origin; leads = walk_join (walk_as Leads (Carries s more) leads_carry b.leads) (walk_more root.leads) }

    last_root_more : (x r u : ℕ) → IsRoot s set r x → IsLast s u r → IsRoot s more r x
    last_root_more x r u root l = record { origin = last_origin s flat more u r l; leads = walk_more root.leads }

    pub comes_more : (x u : ℕ) → ComesFromLast s set x u → ComesFromLast s more x u
    comes_more x u c = record { root = c.root; is_root = last_root_more x c.root u c.is_root c.last; last = c.last }

    pub shares_more : (v w : ℕ) → Shares s set v w → Shares s more v w
    shares_more v w (itself st) = itself st
    shares_more v w (turned h) = turned (shares_more w v h)
    shares_more v w (common_root r sv sw p q) =
        let b = begun r p.origin.variable in
        let rooted : (x : ℕ) → Walk (Carries s set) r x → IsRoot s more b.root x = λ x walk. record { origin = b.origin; leads = walk_join (walk_as Leads (Carries s more) leads_carry b.leads) (walk_more walk) } in
        common_root b.root sv sw (rooted v p.leads) (rooted w q.leads)
    shares_more v w (last_roots {u} {x} sv sw c d h) = last_roots sv sw (comes_more v u c) (comes_more w x d) (shares_more u x h)
    shares_more v w (last_root {u} sv c h) = last_root sv (comes_more v u c) (shares_more u w h)

    -- ---- what bypasses an update of the set
    module _ (y : ℕ) (inside : IsTrue (is_in set y)) where
      around_more : (a i : ℕ) → GoesAround s set y a i → GoesAround s more y a i
      around_more a i g = record { carries = carries_more a i g.carries; avoids = g.avoids; enters = g.enters }

      near_from : (source root origin x : ℕ) → IsWritten s source y → IsRoot s set root source → Alias s set origin root → Walk (GoesAround s set y) origin x → IsNear s more y x
      near_from source root origin x source_written at_root same walk =
          let b = begun root at_root.origin.variable in
          let to_update : Needs s y source = needed_by source y (written (wider y inside) source_written) in
          record {
            source = source;
            written = source_written;
            root = b.root;
            source_root = root_more source root at_root;
            origin = b.root;
            begins = b.origin;
            aliases = same;
            around = walk_join (around_to y source to_update b.leads (walk_more at_root.leads)) (walk_as (GoesAround s set y) (GoesAround s more y) around_more walk);
          }
      near_from source root origin x source_written at_root (lasts {v} {w} first second h) walk = record {
        source = source;
        written = source_written;
        root = root;
        source_root = last_root_more source root w at_root second;
        origin = origin;
        begins = last_origin s flat more v origin first;
        aliases = lasts first second (shares_more v w h);
        around = walk_as (GoesAround s set y) (GoesAround s more y) around_more walk;
      }

      pub near_wider : (x : ℕ) → IsNear s set y x → IsNear s more y x
      near_wider x n = near_from n.source n.root n.origin x n.written n.source_root n.aliases n.around

      pub bypasses_wider : (x : ℕ) → Bypasses s set y x → Bypasses s more y x
      bypasses_wider x b = bypasses_near s more y x (near_wider x (near_bypass s set y x b)) (record { variable = b.variable; together = b.together })
