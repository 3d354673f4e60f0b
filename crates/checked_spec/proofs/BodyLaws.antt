-- The bodies of a checked specification are of the types of what they define.
use Rattle.std.proofs.Common.{◌≡◌, ℕ, zero, suc, Bool, true, false, if◌then◌else◌, List, [], ◌∷◌, ◌&&◌, Option, Some, None, Ok, refl, sym, ap, ◌∙◌}
use Rattle.std.specs.Prelude.{slice_get}
use Rattle.std.specs.Option.{option_map}
use Rattle.std.specs.List.{list_all}
use Rattle.std.proofs.lemmas.Bool.{and_parts}
use Rattle.std.proofs.lemmas.Option.{same_Some}
use Rattle.tsl_value.proofs.Lists.{here, contains_at}
use Rattle.tsl_value.specs.declared.place.Place.{Place}
use Rattle.tsl_value.specs.declared.scalar.ValueType.{ValueType}
use Rattle.syntax_tree.specs.Tree as tree
use Rattle.syntax_tree.specs.Tree.{Expr, TypeName}
use Rattle.name_check.specs.Scope.{top, is_events, are_values}
use Rattle.name_check.specs.Parts.{Operand}
use Rattle.name_check.specs.inner.Steps.{local_body}
use Rattle.form_check.specs.Types.{bad_in_params, bad_written}
use Rattle.type_rules.specs.declared.rule.ExprType.{ExprType}
use Rattle.type_rules.specs.declared.rule.ExprType.TheVariants as expr_type
use Rattle.type_rules.specs.declared.rule.Setting.TheVariants as setting
use Rattle.type_rules.specs.Asked.{inner}
use Rattle.type_rules.specs.Rules.{body_rule, body_asked}
use Rattle.type_rules.specs.Written.{value_of, as_written, bad_as_written}
use Rattle.expr_types.specs.Around.{Around}
use Rattle.type_rules.specs.Kinds.{Kinds}
use Rattle.syntax_tree.specs.Tree.{params_of}
use Rattle.expr_types.specs.Judge.{type_of}
use Rattle.expr_types.specs.Bodies.{in_definition, setting_of, may_have_braces, written_of, definition_kind, expr_kind, item_kind, body_wrongs}
use Rattle.expr_types.proofs.BlockLemmas.{braces_streams}
use Rattle.spec_meaning.specs.Occurrence.{body_of, block_of, result_of, local}
use Rattle.checked_spec.specs.inner.Checked.{IsChecked, IsTyped}
use Rattle.checked_spec.specs.Laws.{IsStreamBody, StreamsAreTyped, MacrosAreTyped, OutputsAreTyped, NamedOutputsAreTyped, FunctionBodiesAreTyped}
use Rattle.checked_spec.proofs.ListLemmas.{flat_empty}
use Rattle.checked_spec.proofs.WrittenLemmas.{Has, written_there}
use Rattle.checked_spec.proofs.SameLemmas.{as_asked, without_written, is_stream}
use Rattle.checked_spec.proofs.BlockLemmas.{nth, PlainAt, plain_at, local_is}
use Rattle.checked_spec.proofs.SoundLemmas.{around, IsSound, sound_at, wrongs_at, types_at, params_written, type_written, block_plain, result_sound, result_kind, local_sound, local_written}
use Rattle.checked_spec.proofs.KindLemmas.{Fits, sound_fits, fits_kind, none_written, written_has, local_kind_at, names_there}

-- ---- parameters
no_streams : (ps : List tree.Param) → are_values ps ≡ true → may_have_braces ps ≡ false
no_streams [] h = refl
no_streams (p ∷ ps) h = by (is_events p.of) (and_parts (if is_events p.of then false else true) (list_all (λ q. if is_events q.of then false else true) ps) h).0
  where
    by : (b : Bool) → (if b then false else true) ≡ true → (b && list_all (λ q. is_events q.of) ps) ≡ false
    by true k = absurd (cc)
    by false k = refl

each_passes : (test : tree.Param → Bool) (ps : List tree.Param) → list_all test ps ≡ true → (k : ℕ) (p : tree.Param) → slice_get ps k ≡ Some p → test p ≡ true
each_passes test [] all k p is = absurd (cc)
each_passes test (q ∷ ps) all zero p is = let same : q ≡ p = cc in ap test (sym same) ∙ (and_parts (test q) (list_all test ps) all).0
each_passes test (q ∷ ps) all (suc k) p is = each_passes test ps (and_parts (test q) (list_all test ps) all).1 k p is

macro_param : (ps : List tree.Param) → may_have_braces ps ≡ true → (k : ℕ) (p : tree.Param) → slice_get ps k ≡ Some p → is_events p.of ≡ true
macro_param [] h k p is = absurd (cc)
macro_param (q ∷ ps) h k p is = each_passes (λ x. is_events x.of) (q ∷ ps) h k p is

stream_written : (y : TypeName) → is_events y ≡ true → Has (as_written y) → (t : ValueType) × (as_written y ≡ Some (expr_type.Stream t))
stream_written (tree.EventsType p y) h some = by (value_of y) some
  where
    by : (v : Option ValueType) → Has (option_map expr_type.Stream v) → (t : ValueType) × (option_map expr_type.Stream v ≡ Some (expr_type.Stream t))
    by (Some v) k = (v, refl)
    by None k = absurd (let e = k.is in cc)
stream_written y h some = absurd (cc)

param_written : (ps : List tree.Param) → bad_in_params ps ≡ [] → (k : ℕ) (p : tree.Param) → slice_get ps k ≡ Some p → Has (as_written p.of)
param_written ps h k p is = written_there p.of (flat_empty (λ x. bad_as_written x.of) ps h p (contains_at ps k p is))

-- ---- what is asked of a body
-- what the table says of a definition of these parameters
abbrev shown : Around → List tree.Param → Option TypeName → Expr → Option ExprType
shown at ps (Some y) e = written_of ps (Some y)
shown at ps None e = expr_kind at e

shown_fits : (at : Around) (ps : List tree.Param) (w : Option TypeName) (e : Expr) → bad_written ps w ≡ [] → (f : Fits at (written_of ps w) e) → shown at ps w e ≡ Some f.of
shown_fits at ps (Some y) e good f =
    let h = written_has ps y good in
    let asked : body_rule at.setting (Some h.it) f.of ≡ Ok tt = ap (λ x. body_rule at.setting x f.of) (sym h.is) ∙ f.asked in
    h.is ∙ ap Some (sym (as_asked at.setting h.it f.of asked))
shown_fits at ps None e good f = fits_kind at e f.of f.is (ap (λ x. body_rule at.setting x f.of) (sym (none_written ps)) ∙ f.asked)

stream_fits : (at : Around) (w : Option ExprType) (e : Expr) → at.setting ≡ setting.Streams → (f : Fits at w e) → f.of ≡ expr_type.Stream (inner f.of)
stream_fits at w e streams f = is_stream f.of (ap (λ s. body_asked s f.of) (sym streams) ∙ without_written at.setting w f.of f.asked)

streams_in : (ps : List tree.Param) → are_values ps ≡ false → setting_of ps ≡ setting.Streams
streams_in ps h = ap (λ b. if b then setting.Values else setting.Streams) h

typed_at : (items : List tree.Item) (kinds : Kinds) (i : ℕ) (o : Option tree.Item) (w : Option ExprType) (e : Expr) (t : ExprType) → IsSound (around items kinds i o) w e → type_of (around items kinds i o) e ≡ Some t → IsTyped items (around items kinds i o) e t
typed_at items kinds i o w e t sound is = record {
  formed = λ part c. record { fits = sound.formed (Operand part) c; operators = sound.operators part c };
  known = sound.known;
  is = is;
}

-- ---- a checked specification
module _ (items : List tree.Item) (kinds : Kinds) (checked : IsChecked items kinds) where
  fits_at : (i : ℕ) (o : Option tree.Item) → slice_get items i ≡ o → (w : Option ExprType) (e : Expr) → IsSound (around items kinds i o) w e → Fits (around items kinds i o) w e
  fits_at i o is w e sound = sound_fits (around items kinds i o) w e sound (λ p c. names_there items kinds checked i o is p)

  output_typed : (i : ℕ) (o : Option tree.Item) → slice_get items i ≡ o → (e : Expr) → (around items kinds i o).setting ≡ setting.Streams → IsSound (around items kinds i o) None e → (t : ValueType) × IsTyped items (around items kinds i o) e (expr_type.Stream t)
  output_typed i o is e streams sound =
      let f = fits_at i o is None e sound in
      (inner f.of, typed_at items kinds i o None e (expr_type.Stream (inner f.of)) sound (f.is ∙ ap Some (stream_fits (around items kinds i o) None e streams f)))

  -- ---- the definition of an item
  module _ (i : ℕ) (p q : Place) (n : List ℕ) (ps : List tree.Param) (w : Option TypeName) (b : tree.Body) (is : slice_get items i ≡ Some (tree.Defined p (tree.Define q n ps w b))) where
    abbrev item : Option tree.Item
    item = Some (tree.Defined p (tree.Define q n ps w b))

    abbrev at : Around
    at = around items kinds i item

    result_fits : Fits at (written_of ps w) (result_of b)
    result_fits = fits_at i item is (written_of ps w) (result_of b) (result_sound items kinds checked i p q n ps w b is)

    item_shown : (v : Option TypeName) → w ≡ v → kinds.item i ≡ shown at ps v (result_of b)
    item_shown (Some y) h = checked.are_kinds.items_are i ∙ ap (item_kind items kinds i) is ∙ ap (λ v. definition_kind (in_definition items kinds i ps) ps v b) h
    item_shown None h =
        checked.are_kinds.items_are i ∙ ap (item_kind items kinds i) is ∙ ap (λ v. definition_kind (in_definition items kinds i ps) ps v b) h
        ∙ result_kind items kinds checked i p q n ps w b is

    item_fits : kinds.item i ≡ Some result_fits.of
    item_fits = item_shown w refl ∙ shown_fits at ps w (result_of b) (type_written items kinds checked i p q n ps w b is) result_fits

    result_typed : (t : ExprType) → result_fits.of ≡ t → IsTyped items at (result_of b) t
    result_typed t same = typed_at items kinds i item (written_of ps w) (result_of b) t (result_sound items kinds checked i p q n ps w b is) (result_fits.is ∙ ap Some same)

    local_shown : (k : ℕ) (v : Option TypeName) (e : Expr) (r : Place) (m : List ℕ) (os : List tree.Param) → nth k (block_of (Some b)) ≡ Some (tree.Define r m os v (tree.Plain e)) → kinds.local i k ≡ shown at [] v e
    local_shown k (Some y) e r m os here = local_kind_at items kinds checked i k p q n ps w b is (tree.Define r m os (Some y) (tree.Plain e)) here
    local_shown k None e r m os here = local_kind_at items kinds checked i k p q n ps w b is (tree.Define r m os None (tree.Plain e)) here

    local_stream : are_values ps ≡ false → (k : ℕ) (l : PlainAt k (block_of (Some b))) (c : tree.Body) → c ≡ tree.Plain l.expr → IsStreamBody items at c (kinds.local i k)
    local_stream streams k l c plain =
        let sound = local_sound items kinds checked i p q n ps w b is k l in
        let f = fits_at i item is (written_of [] l.written) l.expr sound in
        let stream = stream_fits at (written_of [] l.written) l.expr (streams_in ps streams) f in record {
          of = inner f.of;
          kind_is = local_shown k l.written l.expr l.place l.name l.params l.is ∙ shown_fits at [] l.written l.expr (local_written items kinds checked i p q n ps w b is k l) f ∙ ap Some stream;
          expr = l.expr;
          plain = plain;
          typed = typed_at items kinds i item (written_of [] l.written) l.expr (expr_type.Stream (inner f.of)) sound (f.is ∙ ap Some stream);
        }

    local_typed : are_values ps ≡ false → (k : ℕ) (c : tree.Body) → local k (block_of (Some b)) ≡ Some c → IsStreamBody items at c (kinds.local i k)
    local_typed streams k c h = by (nth k (block_of (Some b))) refl (sym (local_is k (block_of (Some b))) ∙ h)
      where
        by : (d : Option tree.Definition) → nth k (block_of (Some b)) ≡ d → option_map local_body d ≡ Some c → IsStreamBody items at c (kinds.local i k)
        by None there e = absurd (cc)
        by (Some d) there e =
            let l = plain_at (block_of (Some b)) k d (block_plain items kinds checked i p q n ps w b is) there in
            let both : Some c ≡ Some (tree.Plain l.expr) = sym e ∙ ap (option_map local_body) (sym there ∙ l.is) in
            local_stream streams k l c (same_Some c (tree.Plain l.expr) both)

-- ---- streams
pub streams_are_typed : StreamsAreTyped
streams_are_typed items kinds i p q x w b checked is = by b is
  where
    by : (c : tree.Body) → slice_get items i ≡ Some (tree.Defined p (tree.Define q x [] w c)) → IsStreamBody items (in_definition items kinds i []) c (kinds.item i)
    by (tree.Plain e) is =
        let f = result_fits items kinds checked i p q x [] w (tree.Plain e) is in
        let stream = stream_fits (in_definition items kinds i []) (written_of [] w) e refl f in record {
          of = inner f.of;
          kind_is = item_fits items kinds checked i p q x [] w (tree.Plain e) is ∙ ap Some stream;
          expr = e;
          plain = refl;
          typed = result_typed items kinds checked i p q x [] w (tree.Plain e) is (expr_type.Stream (inner f.of)) stream;
        }
    by (tree.Block ds e) is = absurd (let h = wrongs_at items kinds checked i (tree.Defined p (tree.Define q x [] w (tree.Block ds e))) is in cc)

-- ---- macros
-- the law, for what an item is
record IsMacroOf (items : List tree.Item) (kinds : Kinds) (i : ℕ) (o : Option tree.Item) : Type 0 where
  of : ValueType
  kind_is : kinds.item i ≡ Some (expr_type.Stream of)
  body : tree.Body
  body_is : body_of o ≡ Some body
  result : IsTyped items (around items kinds i o) (result_of body) (expr_type.Stream of)
  params : (k : ℕ) (p : tree.Param) → slice_get (params_of o) k ≡ Some p → (t : ValueType) × (as_written p.of ≡ Some (expr_type.Stream t))
  locals : (k : ℕ) (b : tree.Body) → local k (block_of (Some body)) ≡ Some b → IsStreamBody items (around items kinds i o) b (kinds.local i k)

macro_of : (items : List tree.Item) (kinds : Kinds) (i : ℕ) → IsChecked items kinds → (o : Option tree.Item) → slice_get items i ≡ o → may_have_braces (params_of o) ≡ true → IsMacroOf items kinds i o
macro_of items kinds i checked (Some (tree.Defined p (tree.Define q n ps w b))) is braces =
    let f = result_fits items kinds checked i p q n ps w b is in
    let streams = braces_streams ps braces in
    let stream = stream_fits (around items kinds i (Some (tree.Defined p (tree.Define q n ps w b)))) (written_of ps w) (result_of b) (streams_in ps streams) f in record {
      of = inner f.of;
      kind_is = item_fits items kinds checked i p q n ps w b is ∙ ap Some stream;
      body = b;
      body_is = refl;
      result = result_typed items kinds checked i p q n ps w b is (expr_type.Stream (inner f.of)) stream;
      params = λ k a at. stream_written a.of (macro_param ps braces k a at) (param_written ps (params_written items kinds checked i p q n ps w b is) k a at);
      locals = λ k c at. local_typed items kinds checked i p q n ps w b is streams k c at;
    }
macro_of items kinds i checked (Some (tree.Input p q n y)) is braces = absurd (cc)
macro_of items kinds i checked (Some (tree.Output p q n)) is braces = absurd (cc)
macro_of items kinds i checked (Some (tree.OutputAs p e q n)) is braces = absurd (cc)
macro_of items kinds i checked None is braces = absurd (cc)

pub macros_are_typed : MacrosAreTyped
macros_are_typed items kinds i checked braces =
    let m = macro_of items kinds i checked (slice_get items i) refl braces in record {
      of = m.of;
      kind_is = m.kind_is;
      body = m.body;
      body_is = m.body_is;
      result = m.result;
      params = m.params;
      locals = m.locals;
    }

-- ---- outputs
pub outputs_are_typed : OutputsAreTyped
outputs_are_typed items kinds i p q x checked is =
    let o = tree.Output p q x in
    output_typed items kinds checked i (Some o) is (tree.Name q x) refl
    (sound_at items kinds checked i o is None (tree.Name q x) (here (record { scope = top items; expr = tree.Name q x }) []) refl (wrongs_at items kinds checked i o is))

pub named_outputs_are_typed : NamedOutputsAreTyped
named_outputs_are_typed items kinds i p q e x checked is =
    let o = tree.OutputAs p e q x in
    output_typed items kinds checked i (Some o) is e refl
    (sound_at items kinds checked i o is None e (here (record { scope = top items; expr = e }) []) (types_at items kinds checked i o is) (wrongs_at items kinds checked i o is))

-- ---- value functions
record IsFunctionOf (items : List tree.Item) (kinds : Kinds) (i : ℕ) (o : Option tree.Item) : Type 0 where
  of : ExprType
  kind_is : kinds.item i ≡ Some of
  expr : Expr
  plain : body_of o ≡ Some (tree.Plain expr)
  typed : IsTyped items (in_definition items kinds i (params_of o)) expr of
  params : (k : ℕ) (p : tree.Param) → slice_get (params_of o) k ≡ Some p → (t : ExprType) × (as_written p.of ≡ Some t)

function_of : (items : List tree.Item) (kinds : Kinds) (i : ℕ) → IsChecked items kinds → (o : Option tree.Item) → slice_get items i ≡ o → are_values (params_of o) ≡ true → IsFunctionOf items kinds i o
function_of items kinds i checked (Some (tree.Defined p (tree.Define q n ps w (tree.Plain e)))) is values = record {
  of = (result_fits items kinds checked i p q n ps w (tree.Plain e) is).of;
  kind_is = item_fits items kinds checked i p q n ps w (tree.Plain e) is;
  expr = e;
  plain = refl;
  typed = result_typed items kinds checked i p q n ps w (tree.Plain e) is (result_fits items kinds checked i p q n ps w (tree.Plain e) is).of refl;
  params = λ k a at. let t = param_written ps (params_written items kinds checked i p q n ps w (tree.Plain e) is) k a at in (t.it, t.is);
}
function_of items kinds i checked (Some (tree.Defined p (tree.Define q n ps w (tree.Block ds e)))) is values =
    let wrongs = wrongs_at items kinds checked i (tree.Defined p (tree.Define q n ps w (tree.Block ds e))) is in
    let braces = ap (λ t. body_wrongs (in_definition items kinds i ps) t (written_of ps w) (tree.Block ds e)) (sym (no_streams ps values)) ∙ wrongs in
    absurd (cc)
function_of items kinds i checked (Some (tree.Input p q n y)) is values = absurd (cc)
function_of items kinds i checked (Some (tree.Output p q n)) is values = absurd (cc)
function_of items kinds i checked (Some (tree.OutputAs p e q n)) is values = absurd (cc)
function_of items kinds i checked None is values = absurd (cc)

pub function_bodies_are_typed : FunctionBodiesAreTyped
function_bodies_are_typed items kinds i checked values =
    let f = function_of items kinds i checked (slice_get items i) refl values in
    record { of = f.of; kind_is = f.kind_is; expr = f.expr; plain = f.plain; typed = f.typed; params = f.params }
