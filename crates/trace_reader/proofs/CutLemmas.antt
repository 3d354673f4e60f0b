-- The first line of some bytes, and their reading from it on.
use Rattle.std.proofs.Common.{◌≡◌, ◌==◌, ℕ, zero, suc, ◌+◌, ◌-◌, Bool, true, false, ◌&&◌, List, [], ◌∷◌, ◌++◌, length, take, Option, Some, None, Result, Ok, Err, refl, sym, ap, ◌∙◌, arith, add-zero}
use Rattle.std.specs.Prelude.{if◌then◌else◌, is_none, option_to_list, slice_get}
use Rattle.std.specs.Option.{option_map, option_or}
use Rattle.flat_core.specs.System.{System}
use Rattle.flat_core.specs.Line.{Line, last_time}
use Rattle.trace_reader.specs.declared.fault.TraceFault.{TraceFault}
use Rattle.trace_reader.specs.declared.fault.TraceFault.TheVariants as fault
use Rattle.trace_reader.specs.Form.{content, is_long, put_first, split_once}
use Rattle.trace_reader.specs.Reading.{Reading, put_before, cut, last_line, lines_of, alone, first_line, had_event, judged, judged_content, go_on, read, unfinished, limited, read_on}

-- the lines of bytes, by the first of them
abbrev pub cut_by : Option (List ℕ × List ℕ) → List ℕ → List (List ℕ) × List ℕ
cut_by None bytes = ([], bytes)
cut_by (Some p) bytes = (p.0 ∷ (cut p.1).0, (cut p.1).1)

cut_put : (b : ℕ) (bytes : List ℕ) (o : Option (List ℕ × List ℕ)) → put_before b (cut_by o bytes).0 (cut_by o bytes).1 ≡ cut_by (option_map (put_first b) o) (b ∷ bytes)
cut_put b bytes None = refl
cut_put b bytes (Some p) = refl

cut_step : (is_end : Bool) (b : ℕ) (bytes : List ℕ) → cut bytes ≡ cut_by (split_once 10 bytes) bytes →
    (if is_end then ([] ∷ (cut bytes).0, (cut bytes).1) else put_before b (cut bytes).0 (cut bytes).1) ≡ cut_by (if is_end then Some ([], bytes) else option_map (put_first b) (split_once 10 bytes)) (b ∷ bytes)
cut_step true b bytes ih = refl
cut_step false b bytes ih = ap (λ (c : List (List ℕ) × List ℕ). put_before b c.0 c.1) ih ∙ cut_put b bytes (split_once 10 bytes)

pub cut-first : (bytes : List ℕ) → cut bytes ≡ cut_by (split_once 10 bytes) bytes
cut-first [] = refl
cut-first (b ∷ bytes) = cut_step (b == 10) b bytes (cut-first bytes)

-- the first mark of bytes before others, and of bytes that have none
abbrev pub split_by : ℕ → Option (List ℕ × List ℕ) → List ℕ → List ℕ → Option (List ℕ × List ℕ)
split_by mark None front back = option_map (λ (p : List ℕ × List ℕ). (front ++ p.0, p.1)) (split_once mark back)
split_by mark (Some p) front back = Some (p.0, p.1 ++ back)

split_same : (o : Option (List ℕ × List ℕ)) → o ≡ option_map (λ (p : List ℕ × List ℕ). ([] ++ p.0, p.1)) o
split_same None = refl
split_same (Some p) = refl

split_twice : (b : ℕ) (front : List ℕ) (o : Option (List ℕ × List ℕ)) → option_map (put_first b) (option_map (λ (p : List ℕ × List ℕ). (front ++ p.0, p.1)) o) ≡ option_map (λ (p : List ℕ × List ℕ). (b ∷ front ++ p.0, p.1)) o
split_twice b front None = refl
split_twice b front (Some p) = refl

split_put : (mark b : ℕ) (o : Option (List ℕ × List ℕ)) (front back : List ℕ) → option_map (put_first b) (split_by mark o front back) ≡ split_by mark (option_map (put_first b) o) (b ∷ front) back
split_put mark b None front back = split_twice b front (split_once mark back)
split_put mark b (Some p) front back = refl

split_step : (is_mark : Bool) (mark b : ℕ) (front back : List ℕ) → split_once mark (front ++ back) ≡ split_by mark (split_once mark front) front back →
    (if is_mark then Some ([], front ++ back) else option_map (put_first b) (split_once mark (front ++ back))) ≡ split_by mark (if is_mark then Some ([], front) else option_map (put_first b) (split_once mark front)) (b ∷ front) back
split_step true mark b front back ih = refl
split_step false mark b front back ih = ap (option_map (put_first b)) ih ∙ split_put mark b (split_once mark front) front back

pub split_once-append : (mark : ℕ) (front back : List ℕ) → split_once mark (front ++ back) ≡ split_by mark (split_once mark front) front back
split_once-append mark [] back = split_same (split_once mark back)
split_once-append mark (b ∷ front) back = split_step (b == mark) mark b front back (split_once-append mark front back)

-- the reading of lines that are cut
abbrev pub read_cut : System → Bool → List Line → ℕ → List (List ℕ) × List ℕ → Option ℕ → Bool → Reading
read_cut s strict before n c beyond ended =
    limited (read s strict before n (c.0 ++ (if ended && is_none beyond then last_line c.1 else []))) (unfinished beyond (n + length c.0) c.1)

limited_go_on : (j : Result (Option Line) TraceFault) (rest : Option Line → Reading) (after : Option TraceFault) → limited (go_on j rest) after ≡ go_on j (λ l. limited (rest l) after)
limited_go_on (Err f) rest after = refl
limited_go_on (Ok l) rest after = refl

go_on_same : (j : Result (Option Line) TraceFault) (rest more : Option Line → Reading) → ((l : Option Line) → rest l ≡ more l) → go_on j rest ≡ go_on j more
go_on_same (Err f) rest more same = refl
go_on_same (Ok l) rest more same = let one = same l in λ k. record { lines = option_to_list l ++ (one k).lines; refused = (one k).refused }

-- a last line that is too long is refused as a line and as what is left of one
last_alone : (long : Bool) (n : ℕ) (j : Result (Option Line) TraceFault) →
    limited (go_on (if long then Err (fault.LineTooLong n) else j) (λ l. record { lines = []; refused = None })) (if long then Some (fault.LineTooLong n) else None)
    ≡ go_on (if long then Err (fault.LineTooLong n) else j) (λ l. record { lines = []; refused = None })
last_alone true n j = refl
last_alone false n (Err f) = refl
last_alone false n (Ok l) = refl

module _ (s : System) (strict : Bool) (before : List Line) (n : ℕ) where
  -- the reading of bytes by the first of their lines, where one stands
  abbrev pub read_by : Option ℕ → Bool → List ℕ → Option (List ℕ × List ℕ) → Reading
  read_by beyond ended bytes None = record { lines = []; refused = unfinished beyond n bytes }
  read_by beyond ended bytes (Some p) =
      go_on (judged s strict (had_event before) (last_time before) n p.0) (λ l. read_on s strict (before ++ option_to_list l) (n + 1) p.1 beyond ended)

  one_more : (line rest bytes : List ℕ) (beyond : Option ℕ) (ended : Bool) → read_cut s strict before n (line ∷ (cut rest).0, (cut rest).1) beyond ended ≡ read_by beyond ended bytes (Some (line, rest))
  one_more line rest bytes beyond ended =
      let j = judged s strict (had_event before) (last_time before) n line in
      limited_go_on j (λ l. read s strict (before ++ option_to_list l) (n + 1) (lines_of rest (ended && is_none beyond))) (unfinished beyond (n + length (line ∷ (cut rest).0)) (cut rest).1)
      ∙ go_on_same j _ _ (λ l. let same : n + length (line ∷ (cut rest).0) ≡ n + 1 + length (cut rest).0 = omega arith in
      ap (λ k. limited (read s strict (before ++ option_to_list l) (n + 1) (lines_of rest (ended && is_none beyond))) (unfinished beyond k (cut rest).1)) same)

  at_rest : (bytes : List ℕ) (beyond : Option ℕ) (ended : Bool) → read_cut s strict before n ([], bytes) beyond ended ≡ read_by beyond ended bytes (if ended && is_none beyond then alone bytes else None)
  at_rest bytes beyond false = ap (λ k. record { lines = []; refused = unfinished beyond k bytes }) (add-zero n)
  at_rest bytes (Some b) true = ap (λ k. record { lines = []; refused = unfinished (Some b) k bytes }) (add-zero n)
  at_rest [] None true = refl
  at_rest (b ∷ bytes) None true =
      let line : List ℕ = b ∷ bytes in
      let j = judged s strict (had_event before) (last_time before) n line in
      (λ k. limited (go_on j (λ l. record { lines = []; refused = None })) (if is_long (add-zero (length line) k) then Some (fault.LineTooLong (add-zero n k)) else None))
      ∙ last_alone (is_long (length line)) n (judged_content s strict (had_event before) (last_time before) n (content line))

  by_first : (o : Option (List ℕ × List ℕ)) (bytes : List ℕ) (beyond : Option ℕ) (ended : Bool) →
      read_cut s strict before n (cut_by o bytes) beyond ended ≡ read_by beyond ended bytes (option_or o (if ended && is_none beyond then alone bytes else None))
  by_first None bytes beyond ended = at_rest bytes beyond ended
  by_first (Some p) bytes beyond ended = one_more p.0 p.1 bytes beyond ended

  pub read_on-first : (bytes : List ℕ) (beyond : Option ℕ) (ended : Bool) → read_on s strict before n bytes beyond ended ≡ read_by beyond ended bytes (first_line bytes (ended && is_none beyond))
  read_on-first bytes beyond ended =
      ap (λ c. read_cut s strict before n c beyond ended) (cut-first bytes) ∙ by_first (split_once 10 bytes) bytes beyond ended

-- as much of two lists as a number says
pub take-append : (n : ℕ) (front back : List ℕ) → take n (front ++ back) ≡ take n front ++ take (n - length front) back
take-append zero front back = let none : 0 - length front ≡ 0 = omega arith in ap (λ m. take m back) (sym none)
take-append (suc n) [] back = let same : suc n ≡ suc n - 0 = omega arith in ap (λ m. take m back) same
take-append (suc n) (b ∷ front) back =
    let same : n - length front ≡ suc n - length (b ∷ front) = omega arith in
    ap (λ bytes. b ∷ bytes) (take-append n front back ∙ ap (λ m. take n front ++ take m back) same)

-- the element at a place of two lists
pub slice_get-append : {A : Type 0} (front back : List A) (n : ℕ) → slice_get (front ++ back) n ≡ option_or (slice_get front n) (slice_get back (n - length front))
slice_get-append [] back n = let same : n ≡ n - 0 = omega arith in ap (slice_get back) same
slice_get-append (x ∷ front) back zero = refl
slice_get-append (x ∷ front) back (suc n) =
    let same : n - length front ≡ suc n - length (x ∷ front) = omega arith in
    slice_get-append front back n ∙ ap (λ m. option_or (slice_get front n) (slice_get back m)) same
