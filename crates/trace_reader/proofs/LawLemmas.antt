-- What holds of every reading.
use Rattle.std.proofs.Common.{◌≡◌, ◌==◌, ◌≤◌, ◌<◌, ℕ, ◌+◌, ◌-◌, Bool, true, false, ◌&&◌, List, [], ◌∷◌, ◌++◌, length, take, Option, Some, None, Result, Ok, Err, refl, sym, ap, ◌∙◌, arith, append_assoc, length-append, add-zero}
use Rattle.std.proofs.lemmas.Bool.{ltb-true, lt-ltb}
use Rattle.std.proofs.lemmas.List.{append-nil, take_all}
use Rattle.std.proofs.lemmas.Option.{slice_get_past, slice_get_within}
use Rattle.std.specs.Prelude.{if◌then◌else◌, is_none, option_to_list, slice_get}
use Rattle.std.specs.Option.{option_map, option_or}
use Rattle.flat_core.specs.System.{System}
use Rattle.flat_core.specs.Line.{Line, last_time}
use Rattle.trace_reader.specs.declared.fault.TraceFault.{TraceFault}
use Rattle.trace_reader.specs.declared.fault.TraceFault.TheVariants as fault
use Rattle.trace_reader.specs.Form.{content, is_long, put_first, split_once}
use Rattle.trace_reader.specs.Reading.{Reading, put_before, cut, last_line, alone, had_event, judged, judged_content, go_on, read, unfinished, limited, on_line, overflow, read_on, reading}
use Rattle.trace_reader.specs.inner.Reads.{after}
use Rattle.trace_reader.specs.inner.Laws.{Begins}
use Rattle.trace_reader.proofs.CutLemmas.{read_by, read_on-first, slice_get-append, split_by, split_once-append, take-append}
use Rattle.trace_reader.specs.declared.limits.TheConstants.{MOST_LINE_BYTES}

-- the lines of bytes before others, by those of the bytes and of what stands after their last end
abbrev pub cut_join : List (List ℕ) × List ℕ → List ℕ → List (List ℕ) × List ℕ
cut_join c back = (c.0 ++ (cut (c.1 ++ back)).0, (cut (c.1 ++ back)).1)

join_put : (b : ℕ) (ls : List (List ℕ)) (rest back : List ℕ) → b == 10 ≡ false → put_before b (cut_join (ls, rest) back).0 (cut_join (ls, rest) back).1 ≡ cut_join (put_before b ls rest) back
join_put b [] rest back no_end =
    λ k. if sym no_end k then ([] ∷ (cut (rest ++ back)).0, (cut (rest ++ back)).1) else put_before b (cut (rest ++ back)).0 (cut (rest ++ back)).1
join_put b (l ∷ ls) rest back no_end = refl

cut_step : (is_end : Bool) (b : ℕ) (front back : List ℕ) → b == 10 ≡ is_end → cut (front ++ back) ≡ cut_join (cut front) back →
    (if is_end then ([] ∷ (cut (front ++ back)).0, (cut (front ++ back)).1) else put_before b (cut (front ++ back)).0 (cut (front ++ back)).1)
    ≡ cut_join (if is_end then ([] ∷ (cut front).0, (cut front).1) else put_before b (cut front).0 (cut front).1) back
cut_step true b front back is ih = ap (λ (c : List (List ℕ) × List ℕ). ([] ∷ c.0, c.1)) ih
cut_step false b front back is ih = ap (λ (c : List (List ℕ) × List ℕ). put_before b c.0 c.1) ih ∙ join_put b (cut front).0 (cut front).1 back is

pub cut-append : (front back : List ℕ) → cut (front ++ back) ≡ cut_join (cut front) back
cut-append [] back = refl
cut-append (b ∷ front) back = cut_step (b == 10) b front back refl (cut-append front back)

-- what stands after the last line's end has none
open_put : (b : ℕ) (ls : List (List ℕ)) (rest : List ℕ) → b == 10 ≡ false → split_once 10 rest ≡ None → split_once 10 (put_before b ls rest).1 ≡ None
open_put b [] rest no_end none = (λ k. if no_end k then Some ([], rest) else option_map (put_first b) (split_once 10 rest)) ∙ ap (option_map (put_first b)) none
open_put b (l ∷ ls) rest no_end none = none

open_step : (is_end : Bool) (b : ℕ) (bytes : List ℕ) → b == 10 ≡ is_end → split_once 10 (cut bytes).1 ≡ None →
    split_once 10 (let c = (if is_end then ([] ∷ (cut bytes).0, (cut bytes).1) else put_before b (cut bytes).0 (cut bytes).1) in c.1) ≡ None
open_step true b bytes is ih = ih
open_step false b bytes is ih = open_put b (cut bytes).0 (cut bytes).1 is ih

pub open_has_no_end : (bytes : List ℕ) → split_once 10 (cut bytes).1 ≡ None
open_has_no_end [] = refl
open_has_no_end (b ∷ bytes) = open_step (b == 10) b bytes refl (open_has_no_end bytes)

-- The reading of lines before others goes on after the last one, unless a line is refused.
abbrev joined : Option TraceFault → List Line → (List Line → Reading) → Reading
joined (Some f) lines rest = record { lines = lines; refused = Some f }
joined None lines rest = after lines (rest lines)

joined_one : (o : Option TraceFault) (l : Option Line) (lines : List Line) (rest : List Line → Reading) →
    record { lines = option_to_list l ++ (joined o lines (λ ls. rest (option_to_list l ++ ls))).lines; refused = (joined o lines (λ ls. rest (option_to_list l ++ ls))).refused } ≡ joined o (option_to_list l ++ lines) rest
joined_one (Some f) None lines rest = refl
joined_one None None lines rest = refl
joined_one (Some f) (Some l) lines rest = refl
joined_one None (Some l) lines rest = refl

joined_same : (o : Option TraceFault) (lines : List Line) (rest more : List Line → Reading) → ((ls : List Line) → rest ls ≡ more ls) → joined o lines rest ≡ joined o lines more
joined_same (Some f) lines rest more same = refl
joined_same None lines rest more same = ap (after lines) (same lines)

joined_limited : (o : Option TraceFault) (lines : List Line) (rest : List Line → Reading) (last : Option TraceFault) → limited (joined o lines rest) last ≡ joined o lines (λ ls. limited (rest ls) last)
joined_limited (Some f) lines rest last = refl
joined_limited None lines rest last = refl

go_on_joined : (j : Result (Option Line) TraceFault) (whole first : Option Line → Reading) (rest : List Line → Reading) →
    ((l : Option Line) → whole l ≡ joined (first l).refused (first l).lines (λ ls. rest (option_to_list l ++ ls))) →
    go_on j whole ≡ joined (go_on j first).refused (go_on j first).lines rest
go_on_joined (Err f) whole first rest each = refl
go_on_joined (Ok l) whole first rest each =
    (let one = each l in λ k. record { lines = option_to_list l ++ (one k).lines; refused = (one k).refused }) ∙ joined_one (first l).refused l (first l).lines rest

module _ (s : System) (strict : Bool) where
  pub read-append : (before : List Line) (n : ℕ) (front back : List (List ℕ)) →
      read s strict before n (front ++ back) ≡ joined (read s strict before n front).refused (read s strict before n front).lines (λ ls. read s strict (before ++ ls) (n + length front) back)
  read-append before n [] back = λ k. read s strict (sym (append-nil before) k) (sym (add-zero n) k) back
  read-append before n (bytes ∷ front) back =
      go_on_joined (judged s strict (had_event before) (last_time before) n bytes) _ _ (λ ls. read s strict (before ++ ls) (n + length (bytes ∷ front)) back)
      (λ l. read-append (before ++ option_to_list l) (n + 1) front back
      ∙ joined_same (read s strict (before ++ option_to_list l) (n + 1) front).refused (read s strict (before ++ option_to_list l) (n + 1) front).lines _ _
      (λ ls. let number : n + 1 + length front ≡ n + length (bytes ∷ front) = omega arith in
      λ k. read s strict (append_assoc before (option_to_list l) ls k) (number k) back))

begins_joined : (o : Option TraceFault) (lines : List Line) (rest : List Line → Reading) → Begins lines (joined o lines rest).lines
begins_joined (Some f) lines rest = record { rest = []; is = sym (append-nil lines) }
begins_joined None lines rest = record { rest = (rest lines).lines; is = refl }

-- A line that is too long is refused as soon as so much of it stands.
alone_some : (bytes : List ℕ) → 0 < length bytes → alone bytes ≡ Some (bytes, [])
alone_some [] some = absurd (omega arith)
alone_some (b ∷ bytes) some = refl

longer : (front back : List ℕ) (more : ℕ) → is_long (length front) ≡ true → is_long (length (front ++ back) + more) ≡ true
longer front back more long =
    let lt = ltb-true MOST_LINE_BYTES (length front) long in
    let lt_whole : MOST_LINE_BYTES < length (front ++ back) + more = omega (arith, length-append front back) in
    lt-ltb MOST_LINE_BYTES (length (front ++ back) + more) lt_whole

module _ (s : System) (strict : Bool) (before : List Line) (n : ℕ) where
  -- what is read where a line is too long
  abbrev too_long : Reading
  too_long = record { lines = []; refused = Some (fault.LineTooLong n) }

  long_judged : (line : List ℕ) → is_long (length line) ≡ true → judged s strict (had_event before) (last_time before) n line ≡ Err (fault.LineTooLong n)
  long_judged line long = λ k. if long k then Err (fault.LineTooLong n) else judged_content s strict (had_event before) (last_time before) n (content line)

  long_line : (beyond : Option ℕ) (ended : Bool) (bytes line rest : List ℕ) → is_long (length line) ≡ true → read_by s strict before n beyond ended bytes (Some (line, rest)) ≡ too_long
  long_line beyond ended bytes line rest long = ap (λ j. go_on j (λ l. read_on s strict (before ++ option_to_list l) (n + 1) rest beyond ended)) (long_judged line long)

  -- by the first line's end after its front, and by whether the last line counts
  long_by : (front back : List ℕ) (beyond : Option ℕ) (ended counts : Bool) (o : Option (List ℕ × List ℕ)) → is_long (length front) ≡ true →
      read_by s strict before n beyond ended (front ++ back) (option_or (option_map (λ (p : List ℕ × List ℕ). (front ++ p.0, p.1)) o) (if counts then alone (front ++ back) else None)) ≡ too_long
  long_by front back beyond ended counts (Some p) long =
      let whole : is_long (length (front ++ p.0)) ≡ true = ap is_long (sym (add-zero (length (front ++ p.0)))) ∙ longer front p.0 0 long in
      long_line beyond ended (front ++ back) (front ++ p.0) p.1 whole
  long_by front back beyond ended true None long =
      let whole : is_long (length (front ++ back)) ≡ true = ap is_long (sym (add-zero (length (front ++ back)))) ∙ longer front back 0 long in
      let lt = ltb-true MOST_LINE_BYTES (length (front ++ back)) whole in
      ap (read_by s strict before n beyond ended (front ++ back)) (alone_some (front ++ back) (omega arith)) ∙ long_line beyond ended (front ++ back) (front ++ back) [] whole
  long_by front back beyond ended false None long =
      let whole = longer front back (length (on_line beyond)) long in
      λ k. record { lines = []; refused = if whole k then Some (fault.LineTooLong n) else overflow beyond n }

  long_open : (front back : List ℕ) (beyond : Option ℕ) (ended : Bool) → split_once 10 front ≡ None → is_long (length front) ≡ true → read_on s strict before n (front ++ back) beyond ended ≡ too_long
  long_open front back beyond ended none long =
      read_on-first s strict before n (front ++ back) beyond ended
      ∙ ap (λ o. read_by s strict before n beyond ended (front ++ back) (option_or o (if ended && is_none beyond then alone (front ++ back) else None))) (split_once-append 10 front back ∙ ap (λ o. split_by 10 o front back) none)
      ∙ long_by front back beyond ended (ended && is_none beyond) (split_once 10 back) long

-- Where there are bytes beyond the limit, none within it follow.
pub record GoesOn (beyond : Option ℕ) (more : List ℕ) (beyond_then : Option ℕ) : Type 0 where
  pub none : (b : ℕ) → beyond ≡ Some b → more ≡ []
  pub stays : (b : ℕ) → beyond ≡ Some b → beyond_then ≡ Some b

module _ (s : System) (strict : Bool) (before : List Line) (n : ℕ) where
  -- the whole lines of bytes, and the reading of what stands after them where more follows
  abbrev first_lines : List ℕ → Reading
  first_lines bytes = read s strict before n (cut bytes).0

  abbrev number_after : List ℕ → ℕ
  number_after bytes = n + length (cut bytes).0

  abbrev read_rest : List ℕ → List ℕ → Option ℕ → Bool → List Line → Reading
  read_rest bytes more beyond ended ls = read_on s strict (before ++ ls) (number_after bytes) ((cut bytes).1 ++ more) beyond ended

  read_open : (bytes : List ℕ) (beyond : Option ℕ) → read_on s strict before n bytes beyond false ≡ limited (first_lines bytes) (unfinished beyond (number_after bytes) (cut bytes).1)
  read_open bytes beyond = ap (λ ls. limited (read s strict before n ls) (unfinished beyond (number_after bytes) (cut bytes).1)) (append-nil (cut bytes).0)

  read_on-append : (bytes more : List ℕ) (beyond : Option ℕ) (ended : Bool) →
      read_on s strict before n (bytes ++ more) beyond ended ≡ joined (first_lines bytes).refused (first_lines bytes).lines (read_rest bytes more beyond ended)
  read_on-append bytes more beyond ended =
      let c = cut bytes in
      let d = cut ((cut bytes).1 ++ more) in
      let last = if ended && is_none beyond then last_line (cut ((cut bytes).1 ++ more)).1 else [] in
      let number : n + length ((cut bytes).0 ++ (cut ((cut bytes).1 ++ more)).0) ≡ number_after bytes + length (cut ((cut bytes).1 ++ more)).0 = omega (arith, length-append (cut bytes).0 (cut ((cut bytes).1 ++ more)).0) in
      ap (λ (e : List (List ℕ) × List ℕ). limited (read s strict before n (e.0 ++ (if ended && is_none beyond then last_line e.1 else []))) (unfinished beyond (n + length e.0) e.1)) (cut-append bytes more)
      ∙ (λ k. limited (read s strict before n (append_assoc c.0 d.0 last k)) (unfinished beyond (number k) d.1))
      ∙ ap (λ r. limited r (unfinished beyond (number_after bytes + length d.0) d.1)) (read-append s strict before n c.0 (d.0 ++ last))
      ∙ joined_limited (first_lines bytes).refused (first_lines bytes).lines _ (unfinished beyond (number_after bytes + length d.0) d.1)

  pub lines_stay : (bytes more : List ℕ) (beyond beyond_then : Option ℕ) (ended : Bool) → Begins (read_on s strict before n bytes beyond false).lines (read_on s strict before n (bytes ++ more) beyond_then ended).lines
  lines_stay bytes more beyond beyond_then ended =
      let first = ap (λ (r : Reading). r.lines) (read_open bytes beyond) in
      let whole = ap (λ (r : Reading). r.lines) (read_on-append bytes more beyond_then ended) in
      let it = begins_joined (first_lines bytes).refused (first_lines bytes).lines (read_rest bytes more beyond_then ended) in
      record { rest = it.rest; is = whole ∙ it.is ∙ ap (λ ls. ls ++ it.rest) (sym first) }

  -- bytes beyond the limit
  beyond_ended : (bytes : List ℕ) (b : ℕ) (ended : Bool) → read_on s strict before n bytes (Some b) ended ≡ read_on s strict before n bytes (Some b) false
  beyond_ended bytes b true = refl
  beyond_ended bytes b false = refl

  refused_beyond : (bytes more : List ℕ) (b : ℕ) (beyond_then : Option ℕ) (ended : Bool) → GoesOn (Some b) more beyond_then → read_on s strict before n (bytes ++ more) beyond_then ended ≡ read_on s strict before n bytes (Some b) false
  refused_beyond bytes more b beyond_then ended goes =
      let same = ap (λ ms. bytes ++ ms) (goes.none b refl) ∙ append-nil bytes in
      let still = goes.stays b refl in
      (λ k. read_on s strict before n (same k) (still k) ended) ∙ beyond_ended bytes b ended

  -- a line that is too long already
  long_from : (long : Bool) (k : ℕ) (f : TraceFault) → (if long then Some (fault.LineTooLong k) else None) ≡ Some f → long ≡ true
  long_from true k f is = refl
  long_from false k f is = absurd (cc)

  refused_long : (bytes more : List ℕ) (beyond_then : Option ℕ) (ended : Bool) (f : TraceFault) → (first_lines bytes).refused ≡ None → unfinished None (number_after bytes) (cut bytes).1 ≡ Some f →
      read_on s strict before n (bytes ++ more) beyond_then ended ≡ read_on s strict before n bytes None false
  refused_long bytes more beyond_then ended f none is =
      let first = first_lines bytes in
      let sum = long_from (is_long (length (cut bytes).1 + 0)) (number_after bytes) f is in
      let long : is_long (length (cut bytes).1) ≡ true = ap is_long (sym (add-zero (length (cut bytes).1))) ∙ sum in
      read_on-append bytes more beyond_then ended
      ∙ ap (λ o. joined o first.lines (read_rest bytes more beyond_then ended)) none
      ∙ ap (after first.lines) (long_open s strict (before ++ first.lines) (number_after bytes) (cut bytes).1 more beyond_then ended (open_has_no_end bytes) long)
      ∙ (λ k. record { lines = append-nil first.lines k; refused = if sym sum k then Some (fault.LineTooLong (number_after bytes)) else None })
      ∙ (λ k. record { lines = first.lines; refused = option_or (sym none k) (unfinished None (number_after bytes) (cut bytes).1) })
      ∙ sym (read_open bytes None)

  -- a line among those before
  refused_first : (bytes more : List ℕ) (beyond beyond_then : Option ℕ) (ended : Bool) (f : TraceFault) → (first_lines bytes).refused ≡ Some f →
      read_on s strict before n (bytes ++ more) beyond_then ended ≡ read_on s strict before n bytes beyond false
  refused_first bytes more beyond beyond_then ended f is =
      let first = first_lines bytes in
      read_on-append bytes more beyond_then ended
      ∙ ap (λ o. joined o first.lines (read_rest bytes more beyond_then ended)) is
      ∙ (λ k. record { lines = first.lines; refused = option_or (sym is k) (unfinished beyond (number_after bytes) (cut bytes).1) })
      ∙ sym (read_open bytes beyond)

  refused_by : (bytes more : List ℕ) (beyond beyond_then : Option ℕ) (ended : Bool) (f : TraceFault) (o : Option TraceFault) → GoesOn beyond more beyond_then →
      (first_lines bytes).refused ≡ o → option_or o (unfinished beyond (number_after bytes) (cut bytes).1) ≡ Some f →
      read_on s strict before n (bytes ++ more) beyond_then ended ≡ read_on s strict before n bytes beyond false
  refused_by bytes more beyond beyond_then ended f (Some g) goes at is = refused_first bytes more beyond beyond_then ended g at
  refused_by bytes more (Some b) beyond_then ended f None goes at is = refused_beyond bytes more b beyond_then ended goes
  refused_by bytes more None beyond_then ended f None goes at is = refused_long bytes more beyond_then ended f at is

  pub refusal_stays : (bytes more : List ℕ) (beyond beyond_then : Option ℕ) (ended : Bool) (f : TraceFault) → GoesOn beyond more beyond_then → (read_on s strict before n bytes beyond false).refused ≡ Some f →
      read_on s strict before n (bytes ++ more) beyond_then ended ≡ read_on s strict before n bytes beyond false
  refusal_stays bytes more beyond beyond_then ended f goes refused =
      refused_by bytes more beyond beyond_then ended f (first_lines bytes).refused goes refl (sym (ap (λ (r : Reading). r.refused) (read_open bytes beyond)) ∙ refused)

none_first : (a b : Option TraceFault) → option_or a b ≡ None → a ≡ None
none_first None b is = refl
none_first (Some f) b is = absurd (cc)

-- The bytes within the limit, where more come.
goes_on_within : (limit : ℕ) (bytes more : List ℕ) → GoesOn (slice_get bytes limit) (take (limit - length bytes) more) (slice_get (bytes ++ more) limit)
goes_on_within limit bytes more = record {
  none = λ b is. let lt = slice_get_within bytes limit b is in let none : limit - length bytes ≡ 0 = omega arith in ap (λ m. take m more) none;
  stays = λ b is. slice_get-append bytes more limit ∙ ap (λ o. option_or o (slice_get more (limit - length bytes))) is;
}

module _ (s : System) (strict : Bool) (limit : ℕ) where
  pub whole_is : (bytes more : List ℕ) (ended : Bool) →
      reading s strict limit (bytes ++ more) ended ≡ read_on s strict [] 1 (take limit bytes ++ take (limit - length bytes) more) (slice_get (bytes ++ more) limit) ended
  unfolding reading
  whole_is bytes more ended = ap (λ bs. read_on s strict [] 1 bs (slice_get (bytes ++ more) limit) ended) (take-append limit bytes more)

  pub open_is : (bytes : List ℕ) → reading s strict limit bytes false ≡ read_on s strict [] 1 (take limit bytes) (slice_get bytes limit) false
  unfolding reading
  open_is bytes = refl

  pub reading_begins : (bytes more : List ℕ) (ended : Bool) → Begins (reading s strict limit bytes false).lines (reading s strict limit (bytes ++ more) ended).lines
  reading_begins bytes more ended =
      let it = lines_stay s strict [] 1 (take limit bytes) (take (limit - length bytes) more) (slice_get bytes limit) (slice_get (bytes ++ more) limit) ended in
      record { rest = it.rest; is = ap (λ (r : Reading). r.lines) (whole_is bytes more ended) ∙ it.is ∙ ap (λ (r : Reading). r.lines ++ it.rest) (sym (open_is bytes)) }

  pub reading_refused : (bytes more : List ℕ) (ended : Bool) (f : TraceFault) → (reading s strict limit bytes false).refused ≡ Some f →
      reading s strict limit (bytes ++ more) ended ≡ reading s strict limit bytes false
  reading_refused bytes more ended f refused =
      whole_is bytes more ended
      ∙ refusal_stays s strict [] 1 (take limit bytes) (take (limit - length bytes) more) (slice_get bytes limit) (slice_get (bytes ++ more) limit) ended f (goes_on_within limit bytes more)
      (ap (λ (r : Reading). r.refused) (sym (open_is bytes)) ∙ refused)
      ∙ sym (open_is bytes)

  -- What is read where nothing of a beginning is refused: its lines, and then what stands after the last line's end, with what follows.
  pub accepted_on : (bytes more : List ℕ) (ended : Bool) (given : List Line) → length bytes ≤ limit → reading s strict limit bytes false ≡ record { lines = given; refused = None } →
      reading s strict limit (bytes ++ more) ended
      ≡ after given (read_on s strict given (length (cut bytes).0 + 1) ((cut bytes).1 ++ take (limit - length bytes) more) (slice_get more (limit - length bytes)) ended)
  accepted_on bytes more ended given within accepted =
      let kept = take limit bytes in
      let all : kept ≡ bytes = take_all limit bytes within in
      let first = first_lines s strict [] 1 kept in
      let beyond = slice_get (bytes ++ more) limit in
      let following = take (limit - length bytes) more in
      let accepts = sym (read_open s strict [] 1 kept (slice_get bytes limit)) ∙ sym (open_is bytes) ∙ accepted in
      let none : first.refused ≡ None = none_first first.refused _ (ap (λ (r : Reading). r.refused) accepts) in
      let lines : first.lines ≡ given = ap (λ (r : Reading). r.lines) accepts in
      let number : 1 + length (cut bytes).0 ≡ length (cut bytes).0 + 1 = omega arith in
      let past : beyond ≡ slice_get more (limit - length bytes) = slice_get-append bytes more limit ∙ ap (λ o. option_or o (slice_get more (limit - length bytes))) (slice_get_past bytes limit within) in
      whole_is bytes more ended
      ∙ read_on-append s strict [] 1 kept following beyond ended
      ∙ ap (λ o. joined o first.lines (read_rest s strict [] 1 kept following beyond ended)) none
      ∙ (λ k. after (lines k) (read_rest s strict [] 1 (all k) following (past k) ended (lines k)))
      ∙ (λ k. after given (read_on s strict given (number k) ((cut bytes).1 ++ following) (slice_get more (limit - length bytes)) ended))
