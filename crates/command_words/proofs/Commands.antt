-- What the pieces in `clap`'s matches ask for, and what holds of it.
use Rattle.std.proofs.Common.{◌≡◌, ◌∙◌, ap, sym, subst, refl, arith, ℕ, Bool, true, false, ◌&&◌, List, drop, Option, Some, None, ◌<◌, ◌≤◌, ◌^◌, if◌then◌else◌, slice_get, option_and_then, option_map, unwrap_or}
use Rattle.std.specs.Prelude.{nat_le, IfSome}
use Rattle.std.specs.Str.Parse.{digits_value}
use Rattle.std.specs.List.{list_any}
use Rattle.std.proofs.lemmas.Bool.{leb-true, and_parts}
use Rattle.tsl_value.specs.Literal.{are_digits}
use Rattle.tsl_value.specs.declared.limits.TheConstants.{MOST_INSTANTS, MOST_TRACE_BYTES}
use Rattle.clap.specs.Matches.{found_of}
use Rattle.clap.specs.Walk.{Text}
use Rattle.clap.specs.declared.parser.matches.ArgMatches.{ArgMatches}
use Rattle.clap.specs.declared.parser.matches.Found.{Found}
use Rattle.command_words.specs.inner.Reader.{Holds, IsRefused, Matches, run_found}
use Rattle.command_words.specs.declared.command.Command.{Command}
use Rattle.command_words.specs.declared.command.Command.TheVariants as command
use Rattle.command_words.specs.declared.command.Form.{Form}
use Rattle.command_words.specs.declared.command.Form.TheVariants as form
use Rattle.command_words.specs.declared.command.Run.{Run}
use Rattle.command_words.specs.declared.command.Why.{Why}
use Rattle.command_words.specs.declared.command.Workload.{Workload}
use Rattle.command_words.specs.declared.words.Limits.{Limits}
use Rattle.command_words.specs.declared.words.Source.{Source}
use Rattle.command_words.specs.declared.words.Source.TheVariants as source
use Rattle.command_words.specs.declared.words.Verb.{Verb}
use Rattle.command_words.specs.declared.words.Verb.TheVariants as verb
use Rattle.command_words.specs.Words.{IsLimited, IsLimitedRun, IsLimitedWhy, IsLimitedCount, until_name, instants_name, bytes_name, save_name, resume_name, strict_flag, stats_flag, Piece, plains, value_of, has_use, agree, are_filled, fits, read, one_room, run_room, pair_room, why_room, number, number_or, files_of, limits_by, limits_of, run_by, run_of, subject_of, why_of, spec_of, kind_of as trace_kind, counted_by, counted_of, first_verb, asked_by, command_of, is_empty}
use Rattle.command_words.specs.declared.limits.TheConstants.{MOST_TIME, MOST_LINES}

-- the run that pieces ask for that may ask for one
abbrev run_told : Source → List Piece → Option Run
run_told from ps = run_by from (files_of ps) (limits_of ps) (has_use strict_flag ps) (has_use stats_flag ps)

run_asked : (from : Source) (ps : List Piece) → option_and_then (run_of from) (if fits run_room ps then Some ps else None) ≡ (if fits run_room ps && (agree ps && are_filled ps) then run_told from ps else None)
run_asked from ps = go (fits run_room ps)
  where
    go : (q : Bool) → option_and_then (run_of from) (if q then Some ps else None) ≡ (if q && (agree ps && are_filled ps) then run_told from ps else None)
    go true = refl
    go false = refl

module _ (from : Source) (ps : List Piece) (may : Bool) (is : may ≡ (fits run_room ps && (agree ps && are_filled ps))) where
  asked_where : (q : Bool) → may ≡ q → option_and_then (run_of from) (if fits run_room ps then Some ps else None) ≡ (if q then run_told from ps else None)
  asked_where q so = run_asked from ps ∙ ap (λ b. if b then run_told from ps else None) (sym is ∙ so)

  pub run_refused : may ≡ false → None ≡ option_and_then (run_of from) (if fits run_room ps then Some ps else None)
  run_refused not = sym (asked_where false not)

  pub run_held : (found : Found) → Holds ps found → may ≡ true
      → run_found from found (has_use strict_flag ps) (has_use stats_flag ps) ≡ option_and_then (run_of from) (if fits run_room ps then Some ps else None)
  run_held found h so = sym (asked_where true so ∙ same)
    where
      same : run_told from ps ≡ run_found from found (has_use strict_flag ps) (has_use stats_flag ps)
      same = rw (h.first, h.second, h.named until_name, h.named instants_name, h.named bytes_name, h.named save_name, h.named resume_name) refl

pub refused_by : (words : List Text) (v : Verb) → IsRefused words → asked_by v words ≡ None
refused_by words verb.Run h = rw h.run refl
refused_by words verb.Exec h = rw h.run refl
refused_by words verb.Why h = rw h.why refl
refused_by words verb.Check h = rw h.spec refl
refused_by words verb.Flat h = rw h.spec refl
refused_by words verb.Show h = rw h.spec refl
refused_by words verb.Code h = rw h.spec refl
refused_by words verb.Slice h = rw h.count refl
refused_by words verb.Compile h = rw h.count refl
refused_by words verb.Generate h = rw h.count refl
refused_by words verb.Bench h = rw h.count refl

-- a text of a form is asked for by the pieces that the matches hold
pub written_asked : (f : Form) (words : List Text) (m : ArgMatches) (asked : Option Command)
    → ((ps : List Piece) → Holds ps (found_of m) → asked ≡ option_map (λ (spec : Text). command.Write spec f) (option_and_then spec_of (if fits one_room ps then Some ps else None)))
    → Matches words m → asked ≡ option_map (λ (spec : Text). command.Write spec f) (option_and_then spec_of (read one_room words))
written_asked f words m asked says (ps, is, holds) =
    says ps holds
    ∙ sym (ap (λ (told : Option (List Piece)). option_map (λ (spec : Text). command.Write spec f) (option_and_then spec_of (option_and_then (λ ps. if fits one_room ps then Some ps else None) told))) is)

-- ---- what holds of each command

then_some : {X Y : Type 0} (f : X → Option Y) (o : Option X) (y : Y) → option_and_then f o ≡ Some y → (x : X) × (o ≡ Some x) × (f x ≡ Some y)
then_some f None y e = let bad : None ≡ Some y = e in cc
then_some f (Some x) y e = (x, refl, e)

map_some : {X Y : Type 0} (f : X → Y) (o : Option X) (y : Y) → option_map f o ≡ Some y → (x : X) × (o ≡ Some x) × (f x ≡ y)
map_some f None y e = let bad : None ≡ Some y = e in cc
map_some f (Some x) y e = (x, refl, ap (λ r. unwrap_or r (f x)) e)

kept : {X : Type 0} (b : Bool) (o : Option X) (x : X) → (if b then o else None) ≡ Some x → o ≡ Some x
kept true o x e = e
kept false o x e = let bad : None ≡ Some x = e in cc

number_within : (least most : ℕ) (word : Text) (n : ℕ) → number least most word ≡ Some n → (least ≤ n) × (n ≤ most)
number_within least most word n e = go _ refl e
  where
    value_of : ℕ
    value_of = digits_value 10 word

    go : (b : Bool) → (are_digits word && (nat_le least value_of && nat_le value_of most)) ≡ b → (if b then Some value_of else None) ≡ Some n → (least ≤ n) × (n ≤ most)
    go true h e =
        let is : value_of ≡ n = ap (λ r. unwrap_or r value_of) e in
        let bounds = and_parts _ _ (and_parts _ _ h).1 in
        (subst (λ k. least ≤ k) is (leb-true least value_of bounds.0), subst (λ k. k ≤ most) is (leb-true value_of most bounds.1))
    go false h e = let bad : None ≡ Some n = e in cc

or_within : (other least most : ℕ) (word : Option Text) (n : ℕ) → least ≤ other → other ≤ most → number_or other least most word ≡ Some n → (least ≤ n) × (n ≤ most)
or_within other least most None n low high e = let is : other ≡ n = ap (λ r. unwrap_or r other) e in (omega arith, omega arith)
or_within other least most (Some word) n low high e = number_within least most word n e

record AreLimited (limits : Limits) : Type 0 where
  until : limits.until < 2 ^ 63
  some_instants : 1 ≤ limits.instants
  instants : limits.instants ≤ MOST_INSTANTS
  some_bytes : 1 ≤ limits.bytes
  bytes : limits.bytes ≤ MOST_TRACE_BYTES

limits_within : (until instants bytes : Option Text) (limits : Limits) → limits_by until instants bytes ≡ Some limits → AreLimited limits
limits_within until instants bytes limits e =
    let timed = then_some _ (number_or 0 0 MOST_TIME until) limits e in
    let counted = then_some _ (number_or MOST_INSTANTS 1 MOST_INSTANTS instants) limits timed.2 in
    let measured = map_some _ (number_or MOST_TRACE_BYTES 1 MOST_TRACE_BYTES bytes) limits counted.2 in
    let time = or_within 0 0 MOST_TIME until timed.0 (omega arith) (omega arith) timed.1 in
    let count = or_within MOST_INSTANTS 1 MOST_INSTANTS instants counted.0 (omega arith) (omega arith) counted.1 in
    let size = or_within MOST_TRACE_BYTES 1 MOST_TRACE_BYTES bytes measured.0 (omega arith) (omega arith) measured.1 in
    subst AreLimited measured.2 (record { until = omega arith; some_instants = count.0; instants = count.1; some_bytes = size.0; bytes = size.1 })

counted_limited : (name count : Option Text) (c : Workload × ℕ) → counted_by name count ≡ Some c → IsLimitedCount c.1
counted_limited name count c e =
    let kind = then_some _ (option_and_then trace_kind name) c e in
    let n = map_some _ (option_and_then (number 1 MOST_LINES) count) c kind.2 in
    let told = then_some (number 1 MOST_LINES) count n.0 n.1 in
    let within = number_within 1 MOST_LINES told.0 n.0 told.2 in
    subst (λ (d : Workload × ℕ). IsLimitedCount d.1) n.2 (record { some = within.0; most = within.1 })

run_limited : (from : Source) (ps : List Piece) (r : Run) → run_of from ps ≡ Some r → IsLimitedRun r
run_limited from ps r e =
    let named = then_some _ (files_of ps) r (kept (agree ps && are_filled ps) _ r e) in
    let told = map_some _ (limits_of ps) r named.2 in
    let within = limits_within (value_of until_name ps) (value_of instants_name ps) (value_of bytes_name ps) told.0 told.1 in
    subst IsLimitedRun told.2 (record { until = within.until; some_instants = within.some_instants; instants = within.instants; some_bytes = within.some_bytes; bytes = within.bytes })

why_limited : (ps : List Piece) (w : Why) → why_of ps ≡ Some w → IsLimitedWhy w
why_limited ps w e =
    let named = then_some _ (subject_of ps) w e in
    let told = map_some _ (limits_of ps) w named.2 in
    let within = limits_within (value_of until_name ps) (value_of instants_name ps) (value_of bytes_name ps) told.0 told.1 in
    subst IsLimitedWhy told.2 (record { some_instants = within.some_instants; instants = within.instants; some_bytes = within.some_bytes; bytes = within.bytes })

asked_limited : (v : Verb) (words : List Text) (c : Command) → asked_by v words ≡ Some c → IsLimited c
asked_limited verb.Run words c e =
    let r = map_some command.Run _ c e in
    let ps = then_some (run_of source.Spec) (read run_room words) r.0 r.1 in
    subst IsLimited r.2 (run_limited source.Spec ps.0 r.0 ps.2)
asked_limited verb.Exec words c e =
    let r = map_some command.Run _ c e in
    let ps = then_some (run_of source.Code) (read run_room words) r.0 r.1 in
    subst IsLimited r.2 (run_limited source.Code ps.0 r.0 ps.2)
asked_limited verb.Why words c e =
    let w = map_some command.Why _ c e in
    let ps = then_some why_of (read why_room words) w.0 w.1 in
    subst IsLimited w.2 (why_limited ps.0 w.0 ps.2)
asked_limited verb.Check words c e = let r = map_some (λ (spec : Text). command.Write spec form.Check) _ c e in subst IsLimited r.2 tt
asked_limited verb.Flat words c e = let r = map_some (λ (spec : Text). command.Write spec form.Flat) _ c e in subst IsLimited r.2 tt
asked_limited verb.Show words c e = let r = map_some (λ (spec : Text). command.Write spec form.Show) _ c e in subst IsLimited r.2 tt
asked_limited verb.Code words c e = let r = map_some (λ (spec : Text). command.Write spec form.Code) _ c e in subst IsLimited r.2 tt
asked_limited verb.Slice words c e = let r = map_some (λ (p : Text × Text). command.Write p.0 (form.Slice p.1)) _ c e in subst IsLimited r.2 tt
asked_limited verb.Compile words c e = let r = map_some (λ (p : Text × Text). command.Write p.0 (form.File p.1)) _ c e in subst IsLimited r.2 tt
asked_limited verb.Generate words c e =
    let r = map_some (λ (d : Workload × ℕ). command.Generate d.1) _ c e in
    let ps = then_some counted_of (read pair_room words) r.0 r.1 in
    subst IsLimited r.2 (counted_limited (slice_get (plains ps.0) 0) (slice_get (plains ps.0) 1) r.0 ps.2)
asked_limited verb.Bench words c e =
    let r = map_some (λ (d : Workload × ℕ). command.Bench d.0 d.1) _ c e in
    let ps = then_some counted_of (read pair_room words) r.0 r.1 in
    subst IsLimited r.2 (counted_limited (slice_get (plains ps.0) 0) (slice_get (plains ps.0) 1) r.0 ps.2)

unless_empty : {X : Type 0} (b : Bool) (o : Option X) (x : X) → (if b then None else o) ≡ Some x → o ≡ Some x
unless_empty true o x e = let bad : None ≡ Some x = e in cc
unless_empty false o x e = e

pub command_is_limited : (words : List Text) (c : Command) → command_of words ≡ Some c → IsLimited c
command_is_limited words c e =
    let told = then_some (λ v. asked_by v (drop 1 words)) (first_verb words) c (unless_empty (list_any is_empty words) _ c e) in
    asked_limited told.0 (drop 1 words) c told.2

pub are_limited : (v : Verb) (words : List Text) (o : Option Command) → o ≡ asked_by v words → IfSome o IsLimited
are_limited v words None e = tt
are_limited v words (Some c) e = asked_limited v words c (sym e)

pub told_when : (words : List Text) (v : Verb) → list_any is_empty words ≡ false → first_verb words ≡ Some v → command_of words ≡ asked_by v (drop 1 words)
told_when words v e f = rw (e, f) refl

pub told_never : (words : List Text) → list_any is_empty words ≡ false → first_verb words ≡ None → command_of words ≡ None
told_never words e f = rw (e, f) refl
