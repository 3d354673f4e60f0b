-- At most 256 updates of a compiled system run.
use Rattle.std.proofs.Common.{◌≡◌, ◌==◌, ℕ, suc, ◌+◌, ◌≤◌, Bool, true, false, cond, ◌&&◌, List, [], ◌∷◌, map, length, Option, Some, None, refl, sym, subst, ap, ◌∙◌, arith}
use Rattle.std.specs.Prelude.{slice_get, if◌then◌else◌}
use Rattle.std.specs.List.{filter, range_with_len}
use Rattle.std.proofs.lemmas.Bool.{and_parts, eq-eqb, true≢false}
use Rattle.std.proofs.lemmas.Option.{none-some}
use Rattle.flat_core.specs.declared.equation.Equation.{Equation}
use Rattle.flat_core.specs.declared.limits.TheConstants.{MOST_EQUATIONS}
use Rattle.flat_core.specs.Renumbered.{with_new_args}
use Rattle.flat_core.specs.System.{System, equation, runs}
use Rattle.flat_core.specs.Updates.{is_update, is_update_at, is_running_update, running_updates}
use Rattle.call_limits.proofs.ChainLemmas.{macros_limited}
use Rattle.stream_constructs.specs.Limits.{one_if, update_count, refusal_from, refusal}
use Rattle.stream_constructs.specs.declared.limits.TheConstants.{MOST_UPDATES}
use Rattle.stream_constructs.specs.declared.maker.MakeFault.{MakeFault}
use Rattle.macro_flatten.proofs.AllMarks.{refusals_are_those_of_marks}
use Rattle.syntax_tree.specs.Tree as tree
use Rattle.source_rules.specs.Source.{SpellsSystem}
use Rattle.source_rules.proofs.TypedLemmas.{is_checked}
use Rattle.compiled_code.specs.Laws.{CompiledHasFewUpdates}

-- ---- equations that are not refused have few updates
passes : (a b : Bool) (x y : MakeFault) (rest : Option MakeFault) → (if a then Some x else if b then Some y else rest) ≡ None → (b ≡ false) × (rest ≡ None)
passes true b x y rest none = absurd (none-some x (sym none))
passes false true x y rest none = absurd (none-some y (sym none))
passes false false x y rest none = (refl, none)

one_more : (updates : ℕ) (b : Bool) → (b && (updates == MOST_UPDATES)) ≡ false → updates ≤ MOST_UPDATES → updates + one_if b ≤ MOST_UPDATES
one_more updates false passed le = omega arith
one_more updates true passed le =
    let apart : updates ≡ MOST_UPDATES → ⊥ = λ h. true≢false (sym (eq-eqb updates MOST_UPDATES h) ∙ passed) in
    omega arith

few_from : (made updates : ℕ) (es : List Equation) → refusal_from made updates es ≡ None → updates ≤ MOST_UPDATES → updates + update_count es ≤ MOST_UPDATES
few_from made updates [] none le = omega arith
few_from made updates (e ∷ es) none le =
    let passed = passes (made == MOST_EQUATIONS) (is_update e.op && (updates == MOST_UPDATES)) _ _ _ none in
    let step = one_more updates (is_update e.op) passed.0 le in
    let rest = few_from (suc made) (updates + one_if (is_update e.op)) es passed.1 step in
    omega arith

few_made : (es : List Equation) → refusal es ≡ None → update_count es ≤ MOST_UPDATES
few_made es none = let few = few_from 0 0 es none (omega arith) in omega arith

-- ---- those that run are some of them
few_kept : (p : ℕ → Bool) (n : ℕ) (es : List Equation) → ((k : ℕ) (e : Equation) → slice_get es k ≡ Some e → p (n + k) ≡ true → is_update e.op ≡ true)
    → length (filter p (range_with_len n (length es))) ≤ update_count es
few_kept p n [] updates = omega arith
few_kept p n (e ∷ es) updates =
    by (p n) refl (few_kept p (n + 1) es (λ k f is passed. let same : n + 1 + k ≡ n + suc k = omega arith in updates (suc k) f is (subst (λ i. p i ≡ true) same passed)))
  where
    kept : List ℕ
    kept = filter p (range_with_len (n + 1) (length es))

    by : (b : Bool) → p n ≡ b → length kept ≤ update_count es → length (cond b (n ∷ kept) kept) ≤ one_if (is_update e.op) + update_count es
    by true is rest =
        let same : n ≡ n + 0 = omega arith in
        let one : one_if (is_update e.op) ≡ 1 = ap one_if (updates 0 e refl (subst (λ i. p i ≡ true) same is)) in
        omega arith
    by false is rest = omega arith

few_running : (s : System) → length (running_updates s) ≤ update_count s.equations
few_running s = few_kept (is_running_update s) 0 s.equations each
  where
    each : (k : ℕ) (e : Equation) → slice_get s.equations k ≡ Some e → is_running_update s (0 + k) ≡ true → is_update e.op ≡ true
    each k e is run =
        let same : 0 + k ≡ k = omega arith in
        let here = (and_parts (runs s (0 + k)) (is_update_at (equation s (0 + k))) run).1 in
        subst (λ o. is_update_at o ≡ true) (ap (equation s) same ∙ is) here

-- ---- other arguments change nothing of this
same_count : (replaced : List ℕ) (es : List Equation) → update_count (map (with_new_args replaced) es) ≡ update_count es
same_count replaced [] = refl
same_count replaced (e ∷ es) = ap (λ n. one_if (is_update e.op) + n) (same_count replaced es)

spelled_few : (source : List ℕ) (items : List tree.Item) (s : System) → SpellsSystem source items s → update_count s.equations ≤ MOST_UPDATES
spelled_few source items s spells =
    let system = spells.system in
    let specifies = system.specifies in
    let checked = is_checked source items items system.kinds refl specifies.typed in
    few_made s.equations (refusals_are_those_of_marks items system.kinds s.equations s.outputs checked (macros_limited items specifies.nests) system.is_flat_of ∙ specifies.few)

pub compiled_has_few_updates : CompiledHasFewUpdates
compiled_has_few_updates source items u compiled =
    let made = compiled.simplified.renumbered in
    let few = spelled_few source items compiled.flat compiled.spells in
    let same : update_count u.equations ≡ update_count compiled.flat.equations = ap update_count made.equations_are ∙ same_count compiled.simplified.replaced compiled.flat.equations in
    let running = few_running u in
    omega arith
