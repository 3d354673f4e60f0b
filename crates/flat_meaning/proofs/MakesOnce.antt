-- Two derivations of one expression, where the tables say the same of the declared names and the streams of the top agree in their types.
use Rattle.std.proofs.Common.{◌≡◌, ℕ, suc, ◌+◌, List, [], ◌∷◌, ◌++◌, map, length, Option, Some, refl, ap, sym, subst, ◌∙◌, arith}
use Rattle.std.specs.Prelude.{slice_get}
use Rattle.std.specs.Option.{option_map}
use Rattle.std.proofs.lemmas.Bool.{true≢false, false≢true}
use Rattle.std.proofs.lemmas.Option.{same_Some, slice_get-map}
use Rattle.tsl_value.specs.declared.scalar.ValueType.{ValueType}
use Rattle.flat_core.specs.declared.equation.Equation.{Equation}
use Rattle.syntax_tree.specs.Tree as tree
use Rattle.syntax_tree.specs.Tree.{Expr, place_of}
use Rattle.name_check.specs.declared.declaration.Declaration.{Declaration}
use Rattle.name_check.specs.declared.declaration.Declaration.TheVariants as declaration
use Rattle.name_check.specs.Scope.{meaning}
use Rattle.type_rules.specs.declared.rule.ExprType.{ExprType}
use Rattle.type_rules.specs.declared.rule.ExprType.TheVariants as expr_type
use Rattle.type_rules.specs.Kinds.{Kinds}
use Rattle.stream_constructs.specs.declared.construct.Stream.{Stream}
use Rattle.stream_constructs.specs.Equations.{alias_equation}
use Rattle.spec_meaning.specs.Occurrence.{Call, scope_at, body_of, block_of, result_of}
use Rattle.spec_meaning.specs.Shape.{Shape, expr_shape}
use Rattle.spec_meaning.specs.Makes.{Standing, Stands, Makes, MakesAll, MakesBody, MakesBlock, AreLocals, inside_call}
use Rattle.spec_meaning.specs.Makes as makes
use Rattle.flat_meaning.proofs.Scopes.{IsRight, meaning_right}
use Rattle.flat_meaning.specs.inner.OneFlat.{SameKinds}
use Rattle.flat_meaning.proofs.OneType.{types}
use Rattle.flat_meaning.proofs.Lengths.{both_lengths}
use Rattle.flat_meaning.proofs.OneShapes.{no_own_name, no_own_chain, no_own_call}
use Rattle.flat_meaning.proofs.Numbers.{body_number}
use Rattle.flat_meaning.proofs.Once.{Alike, IsSame, Agree, OneStream, OneList, IsOwn, IsChoice, own_once, choice_once, no_choice}

-- ---- types by their places
type_at : (xs ys : List Stream) (k : ℕ) (s u : Stream) → types xs ≡ types ys → slice_get xs k ≡ Some s → slice_get ys k ≡ Some u → s.of ≡ u.of
type_at xs ys k s u same is be =
    same_Some s.of u.of (sym (ap (option_map (λ (a : Stream). a.of)) is) ∙ sym (slice_get-map (λ (a : Stream). a.of) xs k) ∙ ap (λ ts. slice_get ts k) same ∙ slice_get-map (λ (a : Stream). a.of) ys k ∙ ap (option_map (λ (a : Stream). a.of)) be)

types_by_place : (xs ys : List Stream) → length xs ≡ length ys → ((k : ℕ) (s u : Stream) → slice_get xs k ≡ Some s → slice_get ys k ≡ Some u → s.of ≡ u.of) → types xs ≡ types ys
types_by_place [] [] many each = refl
types_by_place [] (u ∷ ys) many each = absurd (omega arith)
types_by_place (s ∷ xs) [] many each = absurd (omega arith)
types_by_place (s ∷ xs) (u ∷ ys) many each =
    let here = each 0 s u refl refl in
    let rest = types_by_place xs ys (omega arith) (λ k a b is be. each (suc k) a b is be) in
    λ i. here i ∷ rest i

abbrev macro_of : Declaration → ℕ
macro_of (declaration.Macro i) = i
macro_of d = 0

abbrev stream_type : ExprType → Option ValueType
stream_type (expr_type.Stream of) = Some of
stream_type t = Option.None

-- streams that the tables pin
pub pinned : (x y : Option ExprType) (s u : Stream) → x ≡ y → x ≡ Some (expr_type.Stream s.of) → y ≡ Some (expr_type.Stream u.of) → s.of ≡ u.of
pinned x y s u agree is be = same_Some s.of u.of (ap stream_type (same_Some (expr_type.Stream s.of) (expr_type.Stream u.of) (sym is ∙ agree ∙ be)))

module _ (items : List tree.Item) (a b : Kinds) (same : SameKinds a b) (top other : ℕ → Stream) where
  locals_typed : (i j : ℕ) (xs ys : List Stream) → i ≡ j → length xs ≡ length ys → AreLocals a i xs → AreLocals b j ys → types xs ≡ types ys
  locals_typed i j xs ys i_same many g h =
      types_by_place xs ys many (λ k s u is be. pinned (a.local i k) (b.local j k) s u (same.locals_same i k ∙ ap (λ v. b.local v k) i_same) (g k s is) (h k u be))

  block_lengths : {at by : Standing} {ds : tree.Definitions} {n m : ℕ} {xs ys : List Equation} {ss us : List Stream} → MakesBlock items a top at ds n xs ss → MakesBlock items b other by ds m ys us → length ss ≡ length us
  block_lengths makes.MakesBlock.no_definition makes.MakesBlock.no_definition = refl
  block_lengths (makes.MakesBlock.definition first rest one more is) (makes.MakesBlock.definition first_too rest_too two less be) = ap suc (block_lengths more less)

  -- a body and a block determine their streams where the number is the same
  pub record OneBody (n m : ℕ) (at by : Standing) (xs ys : List Equation) (s u : Stream) : Type 0 where
    pub once : OneStream items top other n m at by xs ys s u
    pub numbered : n ≡ m → s ≡ u

  record OneBlock (n m : ℕ) (at by : Standing) (xs ys : List Equation) (ss us : List Stream) : Type 0 where
    once : OneList items top other n m at by xs ys ss us
    numbered : n ≡ m → ss ≡ us

  body_numbered : {at by : Standing} {e : Expr} {n m : ℕ} {xs ys : List Equation} {s u : Stream} → MakesBody items a top at e n xs s → MakesBody items b other by e m ys u → length xs ≡ length ys → s.of ≡ u.of → n ≡ m → s ≡ u
  body_numbered {s = s} {u = u} one two lengths typed n_same =
      let first = body_number items a top one in
      let second = body_number items b other two in
      let number : s.id ≡ u.id = omega arith in
      λ i. record { id = number i; of = typed i }

  stands_once : {at by : Standing} {d : Declaration} {n m : ℕ} {s u : Stream} → Agree items (λ v w. v.of ≡ w.of) top other → Alike at by → IsRight items d → Stands items top at d s → Stands items other by d u → OneStream items top other n m at by [] [] s u
  stands_once {at} {by} tops alike right (makes.Stands.input {i}) makes.Stands.input = record { lengths = refl; typed = tops.inputs i right; whole = λ exact n_same at_same. (refl, exact.inputs i right) }
  stands_once {at} {by} tops alike right (makes.Stands.stream {i}) makes.Stands.stream = record { lengths = refl; typed = tops.streams i right; whole = λ exact n_same at_same. (refl, exact.streams i right) }
  stands_once {at} {by} {s = s} {u = u} tops alike right (makes.Stands.parameter {k} is) (makes.Stands.parameter be) =
      record { lengths = refl; typed = type_at at.params by.params k s u alike.params is be; whole = λ exact n_same at_same. (refl, same_Some s u (sym is ∙ ap (λ ps. slice_get ps k) at_same.params ∙ be)) }
  stands_once {at} {by} {s = s} {u = u} tops alike right (makes.Stands.local {k} is) (makes.Stands.local be) =
      record { lengths = refl; typed = type_at at.locals by.locals k s u alike.locals is be; whole = λ exact n_same at_same. (refl, same_Some s u (sym is ∙ ap (λ ls. slice_get ls k) at_same.locals ∙ be)) }

  -- the arguments, the block and the result of a call
  call_once : {n m : ℕ} {at by : Standing} {cs ds : List Call} {before before_too block block_too after after_too made all : List Equation} {params params_too locals locals_too : List Stream} {s u : Stream} → made ≡ before ++ block ++ after → all ≡ before_too ++ block_too ++ after_too → OneList items top other n m at by before before_too params params_too → OneBlock (n + length before) (m + length before_too) (record { calls = cs; params = params; locals = locals }) (record { calls = ds; params = params_too; locals = locals_too }) block block_too locals locals_too → OneStream items top other (n + length before + length block) (m + length before_too + length block_too) (record { calls = cs; params = params; locals = locals }) (record { calls = ds; params = params_too; locals = locals_too }) after after_too s u → OneStream items top other n m at by made all s u
  call_once {n} {m} {before = before} {before_too = before_too} {block = block} {block_too = block_too} {after = after} {after_too = after_too} made_is all_is arguments definitions result = record {
    lengths = ap length made_is ∙ both_lengths (before ++ block) (before_too ++ block_too) after after_too (both_lengths before before_too block block_too arguments.lengths definitions.once.lengths) result.lengths ∙ sym (ap length all_is);
    typed = result.typed;
    whole = λ exact n_same at_same.
        let first = arguments.whole exact n_same at_same in
        let k_same : n + length before ≡ m + length before_too = λ i. n_same i + length (first.0 i) in
        let inner : IsSame _ _ = record { params = first.1; locals = definitions.numbered k_same } in
        let second = definitions.once.whole exact k_same inner in
        let third = result.whole exact (λ i. k_same i + length (second.0 i)) inner in
        (made_is ∙ (λ i. first.0 i ++ second.0 i ++ third.0 i) ∙ sym all_is, third.1);
  }

  -- the same names and shapes in the same calls
  meaning_same : {at by : Standing} (x : List ℕ) (d f : Declaration) → Alike at by → meaning (scope_at items at.calls) x ≡ Some d → meaning (scope_at items by.calls) x ≡ Some f → f ≡ d
  meaning_same x d f alike is be = same_Some f d (sym be ∙ ap (λ cs. meaning (scope_at items cs) x) (sym alike.calls) ∙ is)

  shape_same : {at by : Standing} (e : Expr) (sh sh_too : Shape) → Alike at by → expr_shape items at.calls e ≡ Some sh → expr_shape items by.calls e ≡ Some sh_too → sh_too ≡ sh
  shape_same e sh sh_too alike is be = same_Some sh_too sh (sym be ∙ ap (λ cs. expr_shape items cs e) (sym alike.calls) ∙ is)

  parts_at : {by : Standing} {sh sh_too : Shape} {m : ℕ} {ys : List Equation} {us : List Stream} → sh_too ≡ sh → MakesAll items b other by (map (λ o. o.expr) sh_too.parts) m ys us → MakesAll items b other by (map (λ o. o.expr) sh.parts) m ys us
  parts_at {by} {m = m} {ys = ys} {us = us} same all = subst (λ (v : Shape). MakesAll items b other by (map (λ o. o.expr) v.parts) m ys us) same all

  module _ (tops : Agree items (λ v w. v.of ≡ w.of) top other) where
    mutual
      pub makes_once : {at by : Standing} {e : Expr} {n m : ℕ} {xs ys : List Equation} {s u : Stream} → Makes items a top at e n xs s → Makes items b other by e m ys u → Alike at by → OneStream items top other n m at by xs ys s u
      -- names
      makes_once {at} {by} {n = n} {m = m} {s = s} {u = u} (makes.Makes.name {x = x} d free is stands) (makes.Makes.name f free_too be stands_too) alike =
          stands_once tops alike (meaning_right items at.calls x d is) stands (subst (λ v. Stands items other by v u) (meaning_same x d f alike is be) stands_too)
      makes_once (makes.Makes.name {p = p} {x = x} d free is stands) (makes.Makes.own {at = by} sh parts before after be own no_pick all_made written fits after_is made_is s_is) alike = no_own_name items by.calls sh p x free be own
      makes_once (makes.Makes.name d free is stands) (makes.Makes.choice sh parts before after be chosen all_made fits after_is made_is s_is) alike = absurd (false≢true chosen)
      -- chains of one operand
      makes_once (makes.Makes.chain one) (makes.Makes.chain two) alike = makes_once one two alike
      makes_once (makes.Makes.chain {p = p} {l = l} {e = e} one) (makes.Makes.own {at = by} sh parts before after be own no_pick all_made written fits after_is made_is s_is) alike = no_own_chain items by.calls sh p l e be own
      makes_once (makes.Makes.chain one) (makes.Makes.choice sh parts before after be chosen all_made fits after_is made_is s_is) alike = absurd (false≢true chosen)
      -- constructs
      makes_once {at} (makes.Makes.own sh parts before after is own no_pick all_made written fits after_is made_is s_is) (makes.Makes.name {p = p} {x = x} d free be stands) alike = no_own_name items at.calls sh p x free is own
      makes_once {at} (makes.Makes.own sh parts before after is own no_pick all_made written fits after_is made_is s_is) (makes.Makes.chain {p = p} {l = l} {e = e} two) alike = no_own_chain items at.calls sh p l e is own
      makes_once {at} {by} {e} {n} {m} {xs} {ys} {s} {u} (makes.Makes.own sh parts before after {of} is own no_pick all_made written fits after_is made_is s_is) (makes.Makes.own sh_too parts_too before_too after_too {of = of_too} be own_too no_pick_too all_too written_too fits_too after_too_is all_is u_is) alike =
          let sh_same = shape_same e sh sh_too alike is be in
          let second = subst (λ (v : Shape). IsOwn e v.construct (m + length before_too) parts_too before_too ys u) sh_same (record { of = of_too; no_choice = no_pick_too; written = written_too; fits = fits_too; is_after = record { after = after_too; after_is = after_too_is; made_is = all_is; stream_is = u_is } }) in
          own_once items top other is (all_once all_made (parts_at sh_same all_too) alike) (record { of = of; no_choice = no_pick; written = written; fits = fits; is_after = record { after = after; after_is = after_is; made_is = made_is; stream_is = s_is } }) second
      makes_once {at} {by} {e} {n} {m} {xs} {ys} {s} {u} (makes.Makes.own sh parts before after {of} is own no_pick all_made written fits after_is made_is s_is) (makes.Makes.choice sh_too parts_too before_too after_too {of = of_too} be chosen all_too fits_too after_too_is all_is u_is) alike =
          let sh_same = shape_same e sh sh_too alike is be in
          let first : IsOwn e sh.construct (n + length before) parts before xs s = record { of = of; no_choice = no_pick; written = written; fits = fits; is_after = record { after = after; after_is = after_is; made_is = made_is; stream_is = s_is } } in
          let second : IsChoice e (m + length before_too) parts_too before_too ys u = record { of = of_too; chosen = chosen; fits = fits_too; is_after = record { after = after_too; after_is = after_too_is; made_is = all_is; stream_is = u_is } } in
          no_choice items top other at.calls is (all_once all_made (parts_at sh_same all_too) alike).typed first second
      makes_once {at} (makes.Makes.own sh parts before after is own no_pick all_made written fits after_is made_is s_is) (makes.Makes.call {at = by} {p = p} {x = x} {es = es} i params locals c first block rest free be body arguments typed definitions result all_is) alike =
          no_own_call items at.calls sh p x es i c free (ap (λ cs. meaning (scope_at items cs) x) alike.calls ∙ be) body is own
      -- choices
      makes_once (makes.Makes.choice sh parts before after is chosen all_made fits after_is made_is s_is) (makes.Makes.name d free be stands) alike = absurd (false≢true chosen)
      makes_once (makes.Makes.choice sh parts before after is chosen all_made fits after_is made_is s_is) (makes.Makes.chain two) alike = absurd (false≢true chosen)
      makes_once (makes.Makes.choice sh parts before after is chosen all_made fits after_is made_is s_is) (makes.Makes.call i params locals c first block rest free be body arguments typed definitions result all_is) alike = absurd (false≢true chosen)
      makes_once {at} {by} {e} {n} {m} {xs} {ys} {s} {u} (makes.Makes.choice sh parts before after {of} is chosen all_made fits after_is made_is s_is) (makes.Makes.own sh_too parts_too before_too after_too {of = of_too} be own_too no_pick_too all_too written_too fits_too after_too_is all_is u_is) alike =
          let sh_same = shape_same e sh sh_too alike is be in
          let first : IsChoice e (n + length before) parts before xs s = record { of = of; chosen = chosen; fits = fits; is_after = record { after = after; after_is = after_is; made_is = made_is; stream_is = s_is } } in
          let second : IsOwn e sh_too.construct (m + length before_too) parts_too before_too ys u = record { of = of_too; no_choice = no_pick_too; written = written_too; fits = fits_too; is_after = record { after = after_too; after_is = after_too_is; made_is = all_is; stream_is = u_is } } in
          no_choice items top other by.calls be (sym (all_once all_made (parts_at sh_same all_too) alike).typed) second first
      makes_once {at} {by} {e} {n} {m} {xs} {ys} {s} {u} (makes.Makes.choice sh parts before after {of} is chosen all_made fits after_is made_is s_is) (makes.Makes.choice sh_too parts_too before_too after_too {of = of_too} be chosen_too all_too fits_too after_too_is all_is u_is) alike =
          let sh_same = shape_same e sh sh_too alike is be in
          let first : IsChoice e (n + length before) parts before xs s = record { of = of; chosen = chosen; fits = fits; is_after = record { after = after; after_is = after_is; made_is = made_is; stream_is = s_is } } in
          let second : IsChoice e (m + length before_too) parts_too before_too ys u = record { of = of_too; chosen = chosen_too; fits = fits_too; is_after = record { after = after_too; after_is = after_too_is; made_is = all_is; stream_is = u_is } } in
          choice_once items top other (all_once all_made (parts_at sh_same all_too) alike) first second
      -- calls of macros
      makes_once {at} {by} (makes.Makes.call {p = p} {x = x} {es = es} i params locals c first block rest free be body arguments typed definitions result all_is) (makes.Makes.own sh parts before after is own no_pick all_made written fits after_is made_is s_is) alike =
          no_own_call items by.calls sh p x es i c free (ap (λ cs. meaning (scope_at items cs) x) (sym alike.calls) ∙ be) body is own
      makes_once (makes.Makes.call i params locals c first block rest free be body arguments typed definitions result all_is) (makes.Makes.choice sh parts before after is chosen all_made fits after_is made_is s_is) alike = absurd (false≢true chosen)
      makes_once {at} {by} {n = n} {m = m} {u = u} (makes.Makes.call {x = x} {es = es} i params locals c before block after free is body arguments typed definitions result made_is) (makes.Makes.call j params_too locals_too d before_too block_too after_too free_too be body_too arguments_too typed_too definitions_too result_too all_is) alike =
          let i_same : j ≡ i = ap macro_of (meaning_same x (declaration.Macro i) (declaration.Macro j) alike is be) in
          let c_same : d ≡ c = same_Some d c (sym body_too ∙ ap (λ k. body_of (slice_get items k)) i_same ∙ body) in
          let ins = inside_call items top at i es params locals in
          let out = inside_call items other by j es params_too locals_too in
          let block_at = subst (λ v. MakesBlock items b other out (block_of (Some v)) (m + length before_too) block_too locals_too) c_same definitions_too in
          let result_at = subst (λ v. MakesBody items b other out (result_of v) (m + length before_too + length block_too) after_too u) c_same result_too in
          let arguments_once = all_once arguments arguments_too alike in
          let inner : Alike ins out = record { calls = λ k. record { item = sym i_same k; arguments = es } ∷ alike.calls k; params = arguments_once.typed; locals = locals_typed i j locals locals_too (sym i_same) (block_lengths definitions block_at) typed typed_too } in
          call_once made_is all_is arguments_once (block_once definitions block_at inner) (body_once result result_at inner).once

      all_once : {at by : Standing} {es : List Expr} {n m : ℕ} {xs ys : List Equation} {ss us : List Stream} → MakesAll items a top at es n xs ss → MakesAll items b other by es m ys us → Alike at by → OneList items top other n m at by xs ys ss us
      all_once makes.MakesAll.no_part makes.MakesAll.no_part alike = record { lengths = refl; typed = refl; whole = λ exact n_same at_same. (refl, refl) }
      all_once (makes.MakesAll.part first rest one more is) (makes.MakesAll.part first_too rest_too two less be) alike =
          let head = makes_once one two alike in
          let tail = all_once more less alike in
          record {
            lengths = ap length is ∙ both_lengths first first_too rest rest_too head.lengths tail.lengths ∙ sym (ap length be);
            typed = λ i. head.typed i ∷ tail.typed i;
            whole = λ exact n_same at_same.
                let here = head.whole exact n_same at_same in
                let there = tail.whole exact (λ i. n_same i + length (here.0 i)) at_same in
                (is ∙ (λ i. here.0 i ++ there.0 i) ∙ sym be, λ i. here.1 i ∷ there.1 i);
          }

      pub body_once : {at by : Standing} {e : Expr} {n m : ℕ} {xs ys : List Equation} {s u : Stream} → MakesBody items a top at e n xs s → MakesBody items b other by e m ys u → Alike at by → OneBody n m at by xs ys s u
      body_once (makes.MakesBody.plain no_name one) (makes.MakesBody.plain no_name_too two) alike =
          let once = makes_once one two alike in
          record { once = once; numbered = body_numbered (makes.MakesBody.plain no_name one) (makes.MakesBody.plain no_name_too two) once.lengths once.typed }
      body_once (makes.MakesBody.plain no_name one) (makes.MakesBody.alias c only_name two made_is u_is) alike = absurd (true≢false (sym only_name ∙ no_name))
      body_once (makes.MakesBody.alias c only_name one made_is s_is) (makes.MakesBody.plain no_name two) alike = absurd (true≢false (sym only_name ∙ no_name))
      body_once {e = e} (makes.MakesBody.alias c only_name one made_is s_is) (makes.MakesBody.alias d only_too two all_is u_is) alike =
          let once = makes_once one two alike in
          let lengths = ap length made_is ∙ sym (ap length all_is) in
          let typed = ap (λ (v : Stream). v.of) s_is ∙ once.typed ∙ sym (ap (λ (v : Stream). v.of) u_is) in
          record {
            once = record {
              lengths = lengths;
              typed = typed;
              whole = λ exact n_same at_same.
                  let c_same = (once.whole exact n_same at_same).1 in
                  (made_is ∙ (λ i. alias_equation (place_of e) (c_same i) ∷ []) ∙ sym all_is, s_is ∙ (λ i. record { id = n_same i; of = (c_same i).of }) ∙ sym u_is);
            };
            numbered = λ n_same. s_is ∙ (λ i. record { id = n_same i; of = once.typed i }) ∙ sym u_is;
          }

      block_once : {at by : Standing} {ds : tree.Definitions} {n m : ℕ} {xs ys : List Equation} {ss us : List Stream} → MakesBlock items a top at ds n xs ss → MakesBlock items b other by ds m ys us → Alike at by → OneBlock n m at by xs ys ss us
      block_once makes.MakesBlock.no_definition makes.MakesBlock.no_definition alike = record { once = record { lengths = refl; typed = refl; whole = λ exact n_same at_same. (refl, refl) }; numbered = λ n_same. refl }
      block_once (makes.MakesBlock.definition first rest one more is) (makes.MakesBlock.definition first_too rest_too two less be) alike =
          let head = body_once one two alike in
          let tail = block_once more less alike in
          record {
            once = record {
              lengths = ap length is ∙ both_lengths first first_too rest rest_too head.once.lengths tail.once.lengths ∙ sym (ap length be);
              typed = λ i. head.once.typed i ∷ tail.once.typed i;
              whole = λ exact n_same at_same.
                  let here = head.once.whole exact n_same at_same in
                  let there = tail.once.whole exact (λ i. n_same i + length (here.0 i)) at_same in
                  (is ∙ (λ i. here.0 i ++ there.0 i) ∙ sym be, λ i. here.1 i ∷ there.1 i);
            };
            numbered = λ n_same.
                let here = head.numbered n_same in
                let there = tail.numbered (λ i. n_same i + head.once.lengths i) in
                λ i. here i ∷ there i;
          }
