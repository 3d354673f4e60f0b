-- In a solution what happens at an equation happens at each occurrence whose stream it is.
use Rattle.std.proofs.Common.{◌≡◌, ◌⊎◌, ℕ, zero, suc, ◌+◌, ◌<◌, ◌≤◌, true, false, ◌||◌, List, [], ◌∷◌, length, Option, Some, None, Ok, refl, ap, sym, subst, ◌∙◌, inl, inr, arith}
use Rattle.std.specs.Prelude.{slice_get, if◌then◌else◌, IsTrue}
use Rattle.std.specs.List.{Contains}
use Rattle.std.proofs.lemmas.Bool.{cases_lt, ne_eqb}
use Rattle.std.proofs.lemmas.List.{length-map}
use Rattle.std.proofs.lemmas.Option.{same_Some, none-some, slice_get_within}
use Rattle.flat_core.specs.Stream.{Outcome, Event, Fault, History, event, is_fault}
use Rattle.flat_core.specs.Case.{Streams}
use Rattle.flat_core.specs.Events.{Inputs, outcome_of}
use Rattle.flat_core.specs.Solution.{Solves}
use Rattle.flat_core.specs.System.{System, runs, IsProper}
use Rattle.flat_core.specs.WellFormed.{IsWellFormed}
use Rattle.flat_core.proofs.WellFormedRank.{rank_of}
use Rattle.syntax_tree.specs.Tree as tree
use Rattle.type_rules.specs.Kinds.{Kinds}
use Rattle.stream_constructs.specs.declared.construct.Stream.{Stream}
use Rattle.stream_constructs.specs.Construct.{Construct, outcome}
use Rattle.stream_constructs.specs.Construct as construct
use Rattle.stream_constructs.specs.Agree.{MakesStream, last_number, history_of, is_used_part}
use Rattle.spec_meaning.specs.Occurrence.{Occurrence}
use Rattle.spec_meaning.specs.Shape.{all_parts}
use Rattle.spec_meaning.specs.Happens.{counts_below, history, Happens, happens}
use Rattle.tsl_value.proofs.Lists.{contains_at}
use Rattle.flat_meaning.proofs.Plain.{original, case_named, walk_named, walk_runs, path_lower}
use Rattle.flat_meaning.proofs.Placed.{each_at, each_length, history_is, Placed, IsPlaced, IsBuilt, Leads, here, onward}
use Rattle.flat_meaning.proofs.Resolve.{same_shape}

-- a time that counts is earlier, or it is the same and the part is used at it
pub counted : (c : Construct) (k t u : ℕ) → u < counts_below c k t → (u < t) ⊎ ((u ≡ t) × (is_used_part c k ≡ true))
counted construct.Last zero t u lt = inl lt
counted construct.Last (suc k) t u lt = elim (cases_lt u t) [
  | inl low ↦ inl low
  | inr high ↦ inr (omega arith, λ i. if ne_eqb (suc k) 0 (λ h. absurd (omega arith)) i then false else true)
]
counted construct.Delay k t u lt = inl lt
counted c k t u lt = elim (cases_lt u t) [ inl low ↦ inl low | inr high ↦ inr (omega arith, refl) ]

-- a stream that stands for another one is that
pub same_outcome : (inputs : Inputs) (h : History) (t : ℕ) → h t ≡ outcome inputs construct.Same (h ∷ []) t
same_outcome inputs h t = each (h t)
  where
    each : (x : Option Outcome) → x ≡ (if is_fault x || false then Some Fault else outcome_of (Ok (event x)))
    each None = refl
    each (Some (Event v)) = refl
    each (Some Fault) = refl

module _ (items : List tree.Item) (kinds : Kinds) (top : ℕ → Stream) (s : System) (proper : IsProper s) where
  -- all own equations run where the last one does, and so do the parts
  pub own_runs : {o : Occurrence} {i : ℕ} (built : IsBuilt items kinds top s o i) → IsTrue (runs s i) → (k : ℕ) → k < length built.own → IsTrue (runs s (built.first + k))
  own_runs built run k lt = walk_runs s proper (walk_named s (built.joined.reach k lt)) (subst (λ j. IsTrue (runs s j)) built.number_is run)

  pub part_runs : {o : Occurrence} {i : ℕ} (built : IsBuilt items kinds top s o i) → IsTrue (runs s i) → (a : Stream) → Contains built.parts a → IsTrue (runs s a.id)
  part_runs built run a c = walk_runs s proper (walk_named s (built.joined.reach_parts a c)) (subst (λ j. IsTrue (runs s j)) built.number_is run)

  module _ (inputs : Inputs) (bound : ℕ) (z : Streams) (solves : Solves s inputs bound z) where
    pub built_makes : {o : Occurrence} {i : ℕ} (built : IsBuilt items kinds top s o i) → IsTrue (runs s i) → (t : ℕ) → t < bound → MakesStream built.of.construct built.own built.first built.parts inputs z t
    built_makes built run t lt =
        built.makes inputs z t (λ k e is.
        let found = original s (built.first + k) e (built.stands k e is) in
        solves.each (built.first + k) found.0 (own_runs built run k (slice_get_within built.own k e is)) found.1 t lt ∙ case_named s inputs z (built.first + k) t e found.0 found.2)

    module _ (good : IsWellFormed s) (leads : (o : Occurrence) (i : ℕ) → Placed items kinds top s o i → Leads items kinds top s o i) where
      abbrev AllHappens : ℕ → Type 0
      AllHappens t = (o : Occurrence) (i : ℕ) → Placed items kinds top s o i → IsTrue (runs s i) → Happens items inputs o t (z i t)

      module _ (t : ℕ) (lt : t < bound) (earlier : (u : ℕ) → u < t → AllHappens u) where
        abbrev LowerHappens : ℕ → Type 0
        LowerHappens k = (o : Occurrence) (i : ℕ) → rank_of s good i < k → Placed items kinds top s o i → IsTrue (runs s i) → Happens items inputs o t (z i t)

        built_happens : (k : ℕ) → LowerHappens k → {o : Occurrence} {i : ℕ} → IsBuilt items kinds top s o i → rank_of s good i < suc k → IsTrue (runs s i) → Happens items inputs o t (z i t)
        built_happens k lower {o} {i} built low run =
            let made = built_makes built run t lt in
            happens built.of (history_of z built.parts) built.is (length-map built.parts (λ (a : Stream). z a.id) ∙ sym (each_length (IsPlaced items kinds top s) (all_parts o built.of) built.parts built.placed))
            (λ j a at u counts.
            let found = each_at (IsPlaced items kinds top s) (all_parts o built.of) built.parts built.placed j a at in
            let part_run = part_runs built run found.0 (contains_at built.parts j found.0 found.1) in
            let there : Happens items inputs a u (z found.0.id u) = elim (counted built.of.construct j t u counts) [
              | inl before ↦ earlier u before a found.0.id found.2 part_run
              | inr now ↦
                  let path = path_lower s good (built.joined.falls j found.0 found.1 now.1) in
                  let last : rank_of s good i ≡ rank_of s good (last_number built.first built.own) = ap (rank_of s good) built.number_is in
                  subst (λ v. Happens items inputs a v (z found.0.id v)) (sym now.0) (lower a found.0.id (omega arith) found.2 part_run)
            ] in
            subst (λ (h : History). Happens items inputs a u (h u)) (sym (history_is z built.parts j found.0 found.1)) there)
            (ap (λ j. z j t) built.number_is ∙ made.outcome_is)

        lead_happens : (k : ℕ) → LowerHappens k → {o : Occurrence} {i : ℕ} → Leads items kinds top s o i → rank_of s good i < suc k → IsTrue (runs s i) → Happens items inputs o t (z i t)
        lead_happens k lower (here built) low run = built_happens k lower built low run
        lead_happens k lower {i = i} (onward next is there rest) low run = happens (same_shape next) (z i ∷ []) is refl (parts (lead_happens k lower rest low run)) (same_outcome inputs (z i) t)
          where
            parts : Happens items inputs next t (z i t) → (j : ℕ) (a : Occurrence) → slice_get (next ∷ []) j ≡ Some a → (u : ℕ) → u < counts_below construct.Same j t → Happens items inputs a u (history (z i ∷ []) j u)
            parts now zero a at u counts = subst (λ b. Happens items inputs b u (z i u)) (same_Some next a at) (elim (cases_lt u t) [
              | inl before ↦ earlier u before next i there run
              | inr after ↦ let same : t ≡ u = omega arith in subst (λ v. Happens items inputs next v (z i v)) same now
            ])
            parts now (suc j) a at u counts = absurd (none-some a at)

        happens_at : (k : ℕ) → LowerHappens k
        happens_at zero o i low there run = absurd (omega arith)
        happens_at (suc k) o i low there run = lead_happens k (happens_at k) (leads o i there) low run

      happens_before : (t : ℕ) → t ≤ bound → (u : ℕ) → u < t → AllHappens u
      happens_before zero le u lt = absurd (omega arith)
      happens_before (suc t) le u lt =
          let earlier = happens_before t (omega arith) in
          elim (cases_lt u t) [
            | inl before ↦ earlier u before
            | inr after ↦ let same : t ≡ u = omega arith in subst AllHappens same (λ o i there run. happens_at t (omega arith) earlier (suc (rank_of s good i)) o i (omega arith) there run)
          ]

      pub happening : (o : Occurrence) (i : ℕ) → Placed items kinds top s o i → IsTrue (runs s i) → (t : ℕ) → t < bound → Happens items inputs o t (z i t)
      happening o i there run t lt = happens_before bound (omega arith) t lt o i there run
