-- What `clap` makes of the words of a run: where it refuses them, and else the pieces in its matches.
use Rattle.std.proofs.Common.{◌≡◌, ◌∙◌, ap, sym, subst, refl, arith, ℕ, Bool, true, false, not, ◌||◌, ◌==◌, ◌+◌, suc, List, [], ◌∷◌, ◌++◌, length, map, drop, take, Option, Some, None, codes, fold, ◌≤◌, if◌then◌else◌, option_and_then, slice_get, unwrap_or}
use Rattle.std.specs.Str.{bytes_eq, IsUtf8}
use Rattle.std.specs.List.{All, before_first, list_all, prefix_len}
use Rattle.std.proofs.lemmas.Bool.{eqb-true, eq-eqb, le-leb, leb-true, and_parts}
use Rattle.std.proofs.Math.Nat.{le_trans}
use Rattle.std.proofs.lemmas.List.{append-nil, append_assoc}
use Rattle.clap.specs.Walk.{nothing_held, rows_of, Row, Rule, Text, Waiting, Walk, idle, option as taking, walked, value, arg_by_index, settled_rows, to_positional, has_row, with_values, more_values, with_default, default_rows, reading_by, is_empty, first_of, one_of}
use Rattle.clap.specs.Lexer.{long_of, short_of}
use Rattle.clap.specs.Simple.{App, HasMatchesOf, is_simple, matches_of, built, filled, new_rule, with_index}
use Rattle.clap.specs.Faults.{check_fault, fault_of, level_fault, defaults_fault, default_fault, given_default_fault, turn_fault, walk_fault, settle_fault, step_fault}
use Rattle.std.specs.Prelude.{nat_le}
use Rattle.clap.proofs.FaultLemmas.{leaf_fault}
use Rattle.clap.proofs.SimpleLemmas.{is_nil}
use Rattle.clap.proofs.WalkLemmas.{first_value-rows, one_text-rows}
use Rattle.clap.specs.declared.parser.matches.ArgMatches.{ArgMatches}
use Rattle.clap.specs.Kinds.{Kinds, IsAmong, or_else, check_kinds}
use Rattle.clap.specs.Matches.{found_of, first_value}
use Rattle.clap.specs.declared.error.kind.ErrorKind.{ErrorKind}
use Rattle.clap.specs.declared.builder.value_parser.Reading.TheVariants.{AsWritten}
use Rattle.clap.specs.declared.parser.matches.ValueSource.TheVariants.{DefaultValue}
use Rattle.command_words.specs.inner.Reader.{IsRefused, Matches, flag_id, flag_rule, id_of, option_rule, run_app, first_rule, word_id}
use Rattle.command_words.specs.Words.{Name, until_name, instants_name, bytes_name, save_name, resume_name, all_names, times_of, Flag, strict_flag, stats_flag, all_flags, uses_of, Piece, plain, option, flag, Class, whole, waits, ends, refused, is_dashed, is_equals, value_in, class_of, named_class, before, pieces, plains, values, uses, fits, read, one_room, run_room, pair_room, why_room}
use Rattle.command_words.specs.declared.room.Room.{Room}
use Rattle.command_words.proofs.WordRows.{each_name, each_flag, row, flag_row, rows_from, any_row, has_chosen, flag_other, chosen_name, chosen_words, defaulted, flag_no_word, fresh_row, rows_more, has_name, has_flag, Fits, plains_then, fits_plain, fits_flag, fits_option, unfit_plain, unfit_flag, unfit_option, default_row, final, first_final, first_word, second_word, third_word, fourth_word, flag_final, first_given, words_at}
use Rattle.command_words.proofs.WordTurns.{is_exact, Place, first_place, second_place, third_place, fourth_place, word_slot, name_slot, S, R, HasFault, left_fault, Look, look, Named, named, rest_name, name_after, value_after, at, fault_from, end_rows, pass_turn, stop_turn, pass_rows, held, quiet_settle, loud_settle, slot_rows, empty_settle, positional_step, word_placed, plain_turn, plain_walked, trailing_turn, trailing_walked, end_turn, end_walked, value_turn, value_walked, short_turn, first_char, long_turn, long_turn_is, long_walk, long_walk_is, loud_long, unknown_long, option_turn, option_walked, joined_turn, joined_again, joined_walked, flag_turn, flag_again, flag_valued, flag_walked, Texts, loud_trailing, loud_idle, undashed, end_mark, long, short, to_option, to_flag, to_none}

-- ---- the pieces so far

-- what is held stands for the pieces
record Stands (done : List Piece) (rows : List Row) (pending : Option (Text × List Text)) : Type 0 where
  quiet : settle_fault R false (held rows pending) ≡ []
  settled_are : settled_rows R pending rows ≡ rows_from 0 done

abbrev position_of : List Text → ℕ
position_of [] = 1
position_of (a ∷ []) = 2
position_of (a ∷ b ∷ []) = 3
position_of (a ∷ b ∷ c ∷ []) = 4
position_of (a ∷ b ∷ c ∷ d ∷ more) = 5

-- one plain word more
data PlainStep (done : List Piece) (rows : List Row) (pending : Option (Text × List Text)) (word : Text) (waiting : Waiting) (t : Bool) : Type 0 where
  placed : (id : Text) → step_fault S (position_of (plains done)) (held rows pending) value ≡ []
      → to_positional R (arg_by_index R (position_of (plains done))) word (at rows pending waiting (position_of (plains done)) t) (held rows pending)
      ≡ at (settled_rows R pending rows) (Some (id, word ∷ [])) idle (position_of (plains (done ++ plain word ∷ []))) (t || false)
      → Stands (done ++ plain word ∷ []) (settled_rows R pending rows) (Some (id, word ∷ []))
      → Fits (done ++ plain word ∷ [])
      → PlainStep done rows pending word waiting t
  full : HasFault (step_fault S (position_of (plains done)) (held rows pending) value) → 4 ≤ length (plains done) → PlainStep done rows pending word waiting t

plain_step : (done : List Piece) (rows : List Row) (pending : Option (Text × List Text)) (word : Text) (waiting : Waiting) (t : Bool) → Fits done → Stands done rows pending
    → PlainStep done rows pending word waiting t
plain_step done rows pending word waiting t f s = go (plains done) refl
  where
    now : List Row
    now = settled_rows R pending rows

    after : (xs : List Text) → plains done ≡ xs → plains (done ++ plain word ∷ []) ≡ xs ++ word ∷ []
    after xs e = plains_then done (plain word ∷ []) ∙ ap (λ l. l ++ word ∷ []) e

    step_at : (k : ℕ) → Place k → (xs : List Text) → plains done ≡ xs → position_of xs ≡ suc k → position_of (xs ++ word ∷ []) ≡ suc (suc k) → words_at k 0 xs ≡ [] → length xs ≡ k → k ≤ 3
        → PlainStep done rows pending word waiting t
    step_at k p xs e place next none count low =
        let fresh : has_row (word_id k) now ≡ false = ap (has_row (word_id k)) s.settled_are ∙ (has_chosen (word_id k) (rows_from 0 done) ∙ (ap any_row (chosen_words k done) ∙ ap (λ l. any_row (map (row (word_id k)) (words_at k 0 l))) e ∙ ap (λ l. any_row (map (row (word_id k)) l)) none)) in
        let few : length (plains done) ≤ 3 = rw e (omega arith) in
        let here : position_of (plains done) ≡ suc k = ap position_of e ∙ place in
        let there : position_of (plains (done ++ plain word ∷ [])) ≡ suc (suc k) = ap position_of (after xs e) ∙ next in
        let same : length (plains done) ≡ k = ap length e ∙ count in
        let counted : 0 + length (plains done) ≡ k = omega arith in
        placed (word_id k) (rw here (positional_step k p rows pending ∙ s.quiet)) (rw (here, there) (word_placed k p rows pending word waiting t))
        (record {
          quiet = quiet_settle (word_slot k) now word fresh;
          settled_are = slot_rows (word_slot k) now word fresh ∙ (ap (λ l. l ++ row (word_id k) word ∷ []) s.settled_are ∙ sym (rows_more 0 done (plain word ∷ []) ∙ ap (λ n. rows_from 0 done ++ rows_from n (plain word ∷ [])) counted));
        })
        (fits_plain done word f few)

    go : (xs : List Text) → plains done ≡ xs → PlainStep done rows pending word waiting t
    go [] e = step_at 0 first_place [] e refl refl refl refl (omega arith)
    go (a ∷ []) e = step_at 1 second_place (a ∷ []) e refl refl refl refl (omega arith)
    go (a ∷ b ∷ []) e = step_at 2 third_place (a ∷ b ∷ []) e refl refl refl refl (omega arith)
    go (a ∷ b ∷ c ∷ []) e = step_at 3 fourth_place (a ∷ b ∷ c ∷ []) e refl refl refl refl (omega arith)
    go (a ∷ b ∷ c ∷ d ∷ more) e = full (rw e tt) (rw e (omega arith))

-- ---- the whole walk

-- what the walk over the rest of the words comes to, against the pieces that they are told to be
data Judged (w : Walk) (words : List Text) (done : List Piece) (told : Option (List Piece)) : Type 0 where
  accepted : (more : List Piece) → told ≡ Some more → Fits (done ++ more) → fault_from w words ≡ [] → end_rows w words ≡ rows_from 0 (done ++ more) → Judged w words done told
  unaccepted : ((more : List Piece) → told ≡ Some more → Fits (done ++ more) → ⊥) → HasFault (fault_from w words) → Judged w words done told

before_some : (p : Piece) (rest : Option (List Piece)) (more : List Piece) → before p rest ≡ Some more → (qs : List Piece) × (rest ≡ Some qs) × (more ≡ p ∷ qs)
before_some p None more e = let bad : None ≡ Some more = e in cc
before_some p (Some qs) more e = (qs, refl, ap (λ o. unwrap_or o []) (sym e))

step_on : (w after : Walk) (word : Text) (words : List Text) (done : List Piece) (p : Piece) (rest : Option (List Piece)) → turn_fault S [] w word ≡ [] → walked R [] w word ≡ after
    → Judged after words (done ++ p ∷ []) rest → Judged w (word ∷ words) done (before p rest)
step_on w after word words done p rest quiet to (accepted more is fits no_fault rows) =
    let same : (done ++ p ∷ []) ++ more ≡ done ++ p ∷ more = append_assoc done (p ∷ []) more in
    accepted (p ∷ more) (ap (before p) is) (subst Fits same fits) (pass_turn w after word words quiet to ∙ no_fault) (pass_rows w after word words to ∙ (rows ∙ ap (rows_from 0) same))
step_on w after word words done p rest quiet to (unaccepted unfit fault) =
    unaccepted
    (λ more told fits.
    let cut = before_some p rest more told in
    let same : (done ++ p ∷ []) ++ cut.0 ≡ done ++ p ∷ cut.0 = append_assoc done (p ∷ []) cut.0 in
    unfit cut.0 cut.1 (subst Fits (ap (λ l. done ++ l) cut.2 ∙ sym same) fits))
    (subst HasFault (sym (pass_turn w after word words quiet to)) fault)

same_on : (w after : Walk) (word : Text) (words : List Text) (done : List Piece) (told : Option (List Piece)) → turn_fault S [] w word ≡ [] → walked R [] w word ≡ after
    → Judged after words done told → Judged w (word ∷ words) done told
same_on w after word words done told quiet to (accepted more is fits no_fault rows) =
    accepted more is fits (pass_turn w after word words quiet to ∙ no_fault) (pass_rows w after word words to ∙ rows)
same_on w after word words done told quiet to (unaccepted unfit fault) = unaccepted unfit (subst HasFault (sym (pass_turn w after word words quiet to)) fault)

-- one piece more is too many
too_many : (w : Walk) (word : Text) (words : List Text) (done : List Piece) (p : Piece) (rest : Option (List Piece)) → HasFault (fault_from w (word ∷ words)) → ((more : List Piece) → Fits (done ++ p ∷ more) → ⊥)
    → Judged w (word ∷ words) done (before p rest)
too_many w word words done p rest fault unfit =
    unaccepted (λ more told fits. let cut = before_some p rest more told in unfit cut.0 (subst Fits (ap (λ l. done ++ l) cut.2) fits)) fault

not_told : (w : Walk) (words : List Text) (done : List Piece) → HasFault (fault_from w words) → Judged w words done None
not_told w words done fault = unaccepted (λ more told fits. let bad : None ≡ Some more = told in cc) fault

ended : (w : Walk) (done : List Piece) → Fits done → fault_from w [] ≡ [] → end_rows w [] ≡ rows_from 0 done → Judged w [] done (Some [])
ended w done f quiet rows = accepted [] refl (subst Fits (sym (append-nil done)) f) quiet (rows ∙ ap (rows_from 0) (sym (append-nil done)))

abbrev JudgedTrailing : List Text → Type 0
JudgedTrailing words = (done : List Piece) (rows : List Row) (pending : Option (Text × List Text)) (waiting : Waiting) → Fits done → Stands done rows pending
    → Judged (at rows pending waiting (position_of (plains done)) true) words done (Some (map plain words))

judge_trailing : (words : List Text) → JudgedTrailing words
unfolding walk_fault
judge_trailing [] done rows pending waiting f s = ended (at rows pending waiting (position_of (plains done)) true) done f s.quiet s.settled_are
judge_trailing (word ∷ words) done rows pending waiting f s = go (plain_step done rows pending word waiting true f s) (judge_trailing words)
  where
    w : Walk
    w = at rows pending waiting (position_of (plains done)) true

    go : PlainStep done rows pending word waiting true → JudgedTrailing words → Judged w (word ∷ words) done (Some (plain word ∷ map plain words))
    go (placed id quiet to stands fits) more =
        step_on w (at (settled_rows R pending rows) (Some (id, word ∷ [])) idle (position_of (plains (done ++ plain word ∷ []))) true) word words done (plain word) (Some (map plain words))
        (trailing_turn rows pending waiting (position_of (plains done)) word ∙ quiet) (trailing_walked rows pending waiting (position_of (plains done)) word ∙ to)
        (more (done ++ plain word ∷ []) (settled_rows R pending rows) (Some (id, word ∷ [])) idle fits stands)
    go (full fault many) more =
        too_many w word words done (plain word) (Some (map plain words)) (stop_turn w word words (subst HasFault (sym (trailing_turn rows pending waiting (position_of (plains done)) word)) fault)) (λ more. unfit_plain done more word many)

abbrev JudgedIdle : List Text → Type 0
JudgedIdle words = (done : List Piece) (rows : List Row) (pending : Option (Text × List Text)) → Fits done → Stands done rows pending
    → Judged (at rows pending idle (position_of (plains done)) false) words done (pieces None words)

abbrev JudgedWaiting : List Text → Type 0
JudgedWaiting words = (name : Name) (done : List Piece) (rows : List Row) → Fits done → rows ≡ rows_from 0 done
    → Judged (at rows (Some (id_of name, [])) (taking (id_of name)) (position_of (plains done)) false) words done (pieces (Some name) words)

same_place_option : (done : List Piece) (name : Name) (word : Text) → position_of (plains done) ≡ position_of (plains (done ++ option name word ∷ []))
same_place_option done name word = ap position_of (sym (plains_then done (option name word ∷ []) ∙ append-nil (plains done)))

option_rows : (done : List Piece) (name : Name) (word : Text) (rows : List Row) → rows ≡ rows_from 0 done → rows ++ row (id_of name) word ∷ [] ≡ rows_from 0 (done ++ option name word ∷ [])
option_rows done name word rows is = ap (λ l. l ++ row (id_of name) word ∷ []) is ∙ sym (rows_more 0 done (option name word ∷ []))

flag_rows : (done : List Piece) (u : Flag) (rows : List Row) → rows ≡ rows_from 0 done → rows ++ flag_row u ∷ [] ≡ rows_from 0 (done ++ flag u ∷ [])
flag_rows done u rows is = ap (λ l. l ++ flag_row u ∷ []) is ∙ sym (rows_more 0 done (flag u ∷ []))

judge_value : (word : Text) (words : List Text) → IsUtf8 word → Texts words → JudgedIdle words → JudgedWaiting (word ∷ words)
judge_value word words u us ih name done rows f is = go word (look word) u
  where
    w : Walk
    w = at rows (Some (id_of name, [])) (taking (id_of name)) (position_of (plains done)) false

    valued_word : (word : Text) → bytes_eq word (45 ∷ 45 ∷ []) ≡ false → long_of word ≡ None → short_of word ≡ None
        → (xs : List Text) → values name done ≡ xs → Judged w (word ∷ words) done (before (option name word) (pieces None words))
    valued_word word a b c [] e =
        let fresh : has_row (id_of name) rows ≡ false = has_name name done rows [] is e in
        let none : length (values name done) ≡ 0 = ap length e in
        step_on w (at rows (Some (id_of name, word ∷ [])) idle (position_of (plains done)) false) word words done (option name word) (pieces None words)
        (value_turn name rows (position_of (plains done)) word a b c) (value_walked name rows (position_of (plains done)) word a b c)
        (subst (λ k. Judged (at rows (Some (id_of name, word ∷ [])) idle k false) words (done ++ option name word ∷ []) (pieces None words)) (sym (same_place_option done name word))
        (ih (done ++ option name word ∷ []) rows (Some (id_of name, word ∷ [])) (fits_option done name word f none)
        (record { quiet = quiet_settle (name_slot name) rows word fresh; settled_are = slot_rows (name_slot name) rows word fresh ∙ option_rows done name word rows is })))
    valued_word word a b c (x ∷ xs) e =
        let again : has_row (id_of name) rows ≡ true = has_name name done rows (x ∷ xs) is e in
        let many : 1 ≤ length (values name done) = rw e (omega arith) in
        too_many w word words done (option name word) (pieces None words)
        (subst HasFault (sym (pass_turn w (at rows (Some (id_of name, word ∷ [])) idle (position_of (plains done)) false) word words (value_turn name rows (position_of (plains done)) word a b c) (value_walked name rows (position_of (plains done)) word a b c)))
        (loud_idle words us rows (Some (id_of name, word ∷ [])) (position_of (plains done)) (loud_settle (name_slot name) rows word again)))
        (λ more. unfit_option done more name word many)

    go : (word : Text) → Look word → IsUtf8 word → Judged w (word ∷ words) done (pieces (Some name) (word ∷ words))
    go word (undashed _ d a b c) u = subst (Judged w (word ∷ words) done) (sym (value_told d)) (valued_word word a b c (values name done) refl)
      where
        value_told : is_dashed word ≡ false → pieces (Some name) (word ∷ words) ≡ before (option name word) (pieces None words)
        value_told d = rw (pieces, d) refl
    go _ end_mark u =
        not_told w ((45 ∷ 45 ∷ []) ∷ words) done (subst HasFault (sym (pass_turn w (at rows (Some (id_of name, [])) (taking (id_of name)) (position_of (plains done)) true) (45 ∷ 45 ∷ []) words (end_turn rows (Some (id_of name, [])) (taking (id_of name)) (position_of (plains done))) (end_walked rows (Some (id_of name, [])) (taking (id_of name)) (position_of (plains done)))))
        (loud_trailing words rows (Some (id_of name, [])) (taking (id_of name)) (position_of (plains done)) (empty_settle name rows)))
    go _ (long x xs) u =
        not_told w ((45 ∷ 45 ∷ x ∷ xs) ∷ words) done (stop_turn w (45 ∷ 45 ∷ x ∷ xs) words (subst HasFault (sym (long_turn_is rows (Some (id_of name, [])) (taking (id_of name)) (position_of (plains done)) x xs))
        (loud_long (taking (id_of name)) (position_of (plains done)) (45 ∷ 45 ∷ x ∷ xs) (rest_name (x ∷ xs)) (value_in (x ∷ xs)) (held rows (Some (id_of name, []))) (named (rest_name (x ∷ xs))) (empty_settle name rows))))
    go _ (short c cs h) u =
        let y = first_char c cs u in
        not_told w ((45 ∷ c ∷ cs) ∷ words) done (stop_turn w (45 ∷ c ∷ cs) words (short_turn rows (Some (id_of name, [])) (taking (id_of name)) (position_of (plains done)) c cs y.0 y.1 h y.2))

abbrev by_class : Class → List Text → Option (List Piece)
by_class (whole piece) words = before piece (pieces None words)
by_class (waits name) words = pieces (Some name) words
by_class ends words = Some (map plain words)
by_class refused words = None

told_by_class : (word : Text) (words : List Text) → pieces None (word ∷ words) ≡ by_class (class_of word) words
told_by_class word words = go (class_of word)
  where
    go : (kind : Class)
        → (elim kind [ whole piece ↦ before piece (pieces None words) | waits name ↦ pieces (Some name) words | ends ↦ Some (map plain words) | refused ↦ None ]) ≡ by_class kind words
    go (whole piece) = refl
    go (waits name) = refl
    go ends = refl
    go refused = refl

undashed_kind : (word : Text) → is_dashed word ≡ false → class_of word ≡ whole (plain word)
undashed_kind word d = rw d refl

long_kind : (x : ℕ) (xs : Text) → class_of (45 ∷ 45 ∷ x ∷ xs) ≡ named_class (45 ∷ 45 ∷ rest_name (x ∷ xs)) (value_in (x ∷ xs))
long_kind x xs = rw (name_after (x ∷ xs), value_after (x ∷ xs)) refl

not_hyphen : (c : ℕ) → (c == 45) ≡ false → (45 == c) ≡ false
not_hyphen c h = go (45 == c) refl
  where
    go : (q : Bool) → (45 == c) ≡ q → q ≡ false
    go false e = refl
    go true e = let bad : true ≡ false = sym (eq-eqb c 45 (sym (eqb-true 45 c e))) ∙ h in cc

short_kind : (c : ℕ) (cs : Text) → (c == 45) ≡ false → class_of (45 ∷ c ∷ cs) ≡ refused
short_kind c cs h = end_not ∙ go (is_equals c) refl
  where
    end_not : class_of (45 ∷ c ∷ cs) ≡ named_class (before_first is_equals (45 ∷ c ∷ cs)) (value_in (45 ∷ c ∷ cs))
    end_not = rw h refl

    cut : ℕ
    cut = prefix_len (λ x. not (is_equals x)) cs

    nameless : (t : Text) (v : Option Text) → ((rest : Text) → bytes_eq (45 ∷ rest) t ≡ false) → named_class (45 ∷ t) v ≡ refused
    nameless t v other = rw (other (codes "strict"), other (codes "stats"), other (codes "until"), other (codes "instants"), other (codes "bytes"), other (codes "save"), other (codes "resume")) refl

    go : (q : Bool) → is_equals c ≡ q → named_class (before_first is_equals (45 ∷ c ∷ cs)) (value_in (45 ∷ c ∷ cs)) ≡ refused
    go true e =
        let is : before_first is_equals (45 ∷ c ∷ cs) ≡ 45 ∷ [] = rw e refl in
        ap (λ t. named_class t (value_in (45 ∷ c ∷ cs))) is ∙ nameless [] (value_in (45 ∷ c ∷ cs)) (λ rest. refl)
    go false e =
        let two : 1 + (1 + cut) ≡ suc (suc cut) = omega arith in
        let is : before_first is_equals (45 ∷ c ∷ cs) ≡ 45 ∷ c ∷ take cut cs = rw e (ap (λ k. take k (45 ∷ c ∷ cs)) two) in
        ap (λ t. named_class t (value_in (45 ∷ c ∷ cs))) is ∙ nameless (c ∷ take cut cs) (value_in (45 ∷ c ∷ cs)) (λ rest. rw (not_hyphen c h) refl)

judge_word : (word : Text) (words : List Text) → IsUtf8 word → Texts words → JudgedIdle words → JudgedWaiting words → JudgedIdle (word ∷ words)
judge_word word words u us ih waiting_ih done rows pending f s = go word (look word) u
  where
    n : ℕ
    n = position_of (plains done)

    w : Walk
    w = at rows pending idle n false

    now : List Row
    now = settled_rows R pending rows

    placed_word : (word : Text) → bytes_eq word (45 ∷ 45 ∷ []) ≡ false → long_of word ≡ None → short_of word ≡ None → PlainStep done rows pending word idle false
        → Judged w (word ∷ words) done (before (plain word) (pieces None words))
    placed_word word a b c (placed id quiet to stands fits) =
        step_on w (at now (Some (id, word ∷ [])) idle (position_of (plains (done ++ plain word ∷ []))) false) word words done (plain word) (pieces None words)
        (plain_turn rows pending n word a b c ∙ quiet) (plain_walked rows pending n word a b c ∙ to)
        (ih (done ++ plain word ∷ []) now (Some (id, word ∷ [])) fits stands)
    placed_word word a b c (full fault many) =
        too_many w word words done (plain word) (pieces None words) (stop_turn w word words (subst HasFault (sym (plain_turn rows pending n word a b c)) fault)) (λ more. unfit_plain done more word many)

    joined_word : (word v : Text) (name : Name) → turn_fault S [] w word ≡ long_turn idle n word (id_of name) (Some v) (held rows pending)
        → walked R [] w word ≡ long_walk n word (id_of name) (Some v) w → (xs : List Text) → values name done ≡ xs → Judged w (word ∷ words) done (before (option name v) (pieces None words))
    joined_word word v name turn walk [] e =
        let fresh : has_row (id_of name) now ≡ false = has_name name done now [] s.settled_are e in
        step_on w (at (now ++ row (id_of name) v ∷ []) None idle n false) word words done (option name v) (pieces None words)
        (turn ∙ joined_turn name n word v rows pending s.quiet fresh) (walk ∙ joined_walked name rows pending n word v fresh)
        (subst (λ k. Judged (at (now ++ row (id_of name) v ∷ []) None idle k false) words (done ++ option name v ∷ []) (pieces None words)) (sym (same_place_option done name v))
        (ih (done ++ option name v ∷ []) (now ++ row (id_of name) v ∷ []) None (fits_option done name v f (ap length e)) (record { quiet = refl; settled_are = option_rows done name v now s.settled_are })))
    joined_word word v name turn walk (x ∷ xs) e =
        let again : has_row (id_of name) now ≡ true = has_name name done now (x ∷ xs) s.settled_are e in
        let many : 1 ≤ length (values name done) = rw e (omega arith) in
        too_many w word words done (option name v) (pieces None words) (stop_turn w word words (subst HasFault (sym turn) (joined_again name n word v rows pending again))) (λ more. unfit_option done more name v many)

    flag_word : (word : Text) (u : Flag) → turn_fault S [] w word ≡ long_turn idle n word (flag_id u) None (held rows pending)
        → walked R [] w word ≡ long_walk n word (flag_id u) None w → (xs : List Flag) → uses u done ≡ xs → Judged w (word ∷ words) done (before (flag u) (pieces None words))
    flag_word word u turn walk [] e =
        let fresh : has_row (flag_id u) now ≡ false = has_flag u done now [] s.settled_are e in
        let place : n ≡ position_of (plains (done ++ flag u ∷ [])) = ap position_of (sym (plains_then done (flag u ∷ []) ∙ append-nil (plains done))) in
        step_on w (at (now ++ flag_row u ∷ []) None idle n false) word words done (flag u) (pieces None words)
        (turn ∙ flag_turn u n word rows pending s.quiet fresh) (walk ∙ flag_walked u rows pending n word fresh)
        (subst (λ k. Judged (at (now ++ flag_row u ∷ []) None idle k false) words (done ++ flag u ∷ []) (pieces None words)) (sym place)
        (ih (done ++ flag u ∷ []) (now ++ flag_row u ∷ []) None (fits_flag done u f (ap length e)) (record { quiet = refl; settled_are = flag_rows done u now s.settled_are })))
    flag_word word u turn walk (x ∷ xs) e =
        let again : has_row (flag_id u) now ≡ true = has_flag u done now (x ∷ xs) s.settled_are e in
        let many : 1 ≤ length (uses u done) = rw e (omega arith) in
        too_many w word words done (flag u) (pieces None words) (stop_turn w word words (subst HasFault (sym turn) (flag_again u n word rows pending again))) (λ more. unfit_flag done more u many)

    option_word : (word : Text) (name : Name) → turn_fault S [] w word ≡ long_turn idle n word (id_of name) None (held rows pending)
        → walked R [] w word ≡ long_walk n word (id_of name) None w → Judged w (word ∷ words) done (pieces (Some name) words)
    option_word word name turn walk =
        same_on w (at now (Some (id_of name, [])) (taking (id_of name)) n false) word words done (pieces (Some name) words)
        (turn ∙ option_turn name n word (held rows pending) s.quiet) (walk ∙ option_walked name rows pending n word) (waiting_ih name done now f s.settled_are)

    long_word : (word id : Text) (v : Option Text) → Named id → turn_fault S [] w word ≡ long_turn idle n word id v (held rows pending) → walked R [] w word ≡ long_walk n word id v w
        → Judged w (word ∷ words) done (by_class (named_class (45 ∷ 45 ∷ id) v) words)
    long_word word _ None (to_option until_name) turn walk = option_word word until_name turn walk
    long_word word _ None (to_option name) turn walk = option_word word name turn walk
    long_word word _ (Some v) (to_option until_name) turn walk = joined_word word v until_name turn walk (values until_name done) refl
    long_word word _ (Some v) (to_option name) turn walk = joined_word word v name turn walk (values name done) refl
    long_word word _ None (to_flag strict_flag) turn walk = flag_word word strict_flag turn walk (uses strict_flag done) refl
    long_word word _ None (to_flag stats_flag) turn walk = flag_word word stats_flag turn walk (uses stats_flag done) refl
    long_word word _ (Some v) (to_flag strict_flag) turn walk = not_told w (word ∷ words) done (stop_turn w word words (subst HasFault (sym turn) (flag_valued strict_flag n word v (held rows pending))))
    long_word word _ (Some v) (to_flag stats_flag) turn walk = not_told w (word ∷ words) done (stop_turn w word words (subst HasFault (sym turn) (flag_valued stats_flag n word v (held rows pending))))
    long_word word id v (to_none _ names flags) turn walk =
        let is : named_class (45 ∷ 45 ∷ id) v ≡ refused =
        rw (names until_name, names instants_name, names bytes_name, names save_name, names resume_name, flags strict_flag, flags stats_flag) refl in
        subst (λ k. Judged w (word ∷ words) done (by_class k words)) (sym is) (not_told w (word ∷ words) done (stop_turn w word words (subst HasFault (sym turn) (unknown_long idle n word id v (held rows pending) names flags))))

    told : (word : Text) (kind : Class) → class_of word ≡ kind → Judged w (word ∷ words) done (by_class kind words) → Judged w (word ∷ words) done (pieces None (word ∷ words))
    told word kind e judged = subst (Judged w (word ∷ words) done) (sym (told_by_class word words ∙ ap (λ k. by_class k words) e)) judged

    go : (word : Text) → Look word → IsUtf8 word → Judged w (word ∷ words) done (pieces None (word ∷ words))
    go word (undashed _ d a b c) u = told word (whole (plain word)) (undashed_kind word d) (placed_word word a b c (plain_step done rows pending word idle false f s))
    go _ end_mark u =
        same_on w (at rows pending idle n true) (45 ∷ 45 ∷ []) words done (Some (map plain words)) (end_turn rows pending idle n) (end_walked rows pending idle n) (judge_trailing words done rows pending idle f s)
    go _ (long x xs) u =
        told (45 ∷ 45 ∷ x ∷ xs) (named_class (45 ∷ 45 ∷ rest_name (x ∷ xs)) (value_in (x ∷ xs))) (long_kind x xs)
        (long_word (45 ∷ 45 ∷ x ∷ xs) (rest_name (x ∷ xs)) (value_in (x ∷ xs)) (named (rest_name (x ∷ xs))) (long_turn_is rows pending idle n x xs) (long_walk_is rows pending n x xs))
    go _ (short c cs h) u =
        let y = first_char c cs u in
        told (45 ∷ c ∷ cs) refused (short_kind c cs h) (not_told w ((45 ∷ c ∷ cs) ∷ words) done (stop_turn w (45 ∷ c ∷ cs) words (short_turn rows pending idle n c cs y.0 y.1 h y.2)))

judge : (words : List Text) → Texts words → JudgedIdle words × JudgedWaiting words
unfolding walk_fault
judge [] us = (
  λ done rows pending f s. ended (at rows pending idle (position_of (plains done)) false) done f s.quiet s.settled_are,
  λ name done rows f is. not_told (at rows (Some (id_of name, [])) (taking (id_of name)) (position_of (plains done)) false) [] done (empty_settle name rows),
)
judge (word ∷ words) us =
    let more = judge words us.1 in
    (judge_word word words us.0 us.1 more.0 more.1, judge_value word words us.0 us.1 more.0)

-- ---- after the walk

no_default : (a : Rule) (rows : List Row) → a.defaults ≡ [] → with_default rows a ≡ rows
no_default a rows e = go (has_row a.id rows)
  where
    go : (q : Bool) → (if q then rows else default_rows a.id (reading_by a) a.defaults rows) ≡ rows
    go true = refl
    go false = ap (λ d. default_rows a.id (reading_by a) d rows) e

-- arguments without defaults
abbrev have_none : List Rule → Bool
have_none = list_all (λ a. is_empty a.defaults)

past_defaults : (rules rest : List Rule) (rows : List Row) → have_none rules ≡ true → fold with_default rows (rules ++ rest) ≡ fold with_default rows rest
past_defaults [] rest rows e = refl
past_defaults (a ∷ rules) rest rows e =
    let none = and_parts _ _ e in
    ap (λ l. fold with_default l (rules ++ rest)) (no_default a rows (is_nil a.defaults none.0)) ∙ past_defaults rules rest rows none.1

quiet_default : (a : Rule) (rest : List Rule) (rows : List Row) → a.defaults ≡ [] → defaults_fault rows (a ∷ rest) ≡ defaults_fault rows rest
unfolding defaults_fault
quiet_default a rest rows e = ap (λ k. or_else k (defaults_fault (with_default rows a) rest)) none ∙ ap (λ l. defaults_fault l rest) (no_default a rows e)
  where
    go : (q : Bool) → (if q || true then [] else given_default_fault a a.defaults) ≡ []
    go true = refl
    go false = refl

    none : default_fault rows a ≡ []
    none = let empty : is_empty a.defaults ≡ true = ap is_empty e in ap (λ b. if has_row a.id rows || b then [] else given_default_fault a a.defaults) empty ∙ go (has_row a.id rows)

quiet_defaults : (rules rest : List Rule) (rows : List Row) → have_none rules ≡ true → defaults_fault rows (rules ++ rest) ≡ defaults_fault rows rest
quiet_defaults [] rest rows e = refl
quiet_defaults (a ∷ rules) rest rows e =
    let none = and_parts _ _ e in
    quiet_default a (rules ++ rest) rows (is_nil a.defaults none.0) ∙ quiet_defaults rules rest rows none.1

abbrev first_arg : Rule
first_arg = with_index 1 (filled first_rule)

-- a plain word that may be left out
abbrev word_arg : ℕ → Rule
word_arg k = with_index (suc k) (filled (new_rule (word_id k)))

abbrev option_arg : Text → Rule
option_arg name = with_index 5 (filled (option_rule name))

abbrev flag_arg : Flag → Rule
flag_arg f = with_index 5 (filled (flag_rule (flag_id f)))

-- the arguments without defaults, before the flags
abbrev valued_args : List Rule
valued_args = first_arg ∷ word_arg 1 ∷ word_arg 2 ∷ word_arg 3 ∷ map (λ name. option_arg (id_of name)) all_names

rules_are : R ≡ valued_args ++ flag_arg strict_flag ∷ flag_arg stats_flag ∷ []
rules_are = refl

flag_default : (f : Flag) (rows : List Row) → with_default rows (flag_arg f) ≡ defaulted f rows
flag_default strict_flag rows = go (has_row (codes "strict") rows) refl
  where
    go : (q : Bool) → has_row (codes "strict") rows ≡ q → (if q then rows else with_values (codes "strict") AsWritten DefaultValue (codes "false" ∷ []) rows) ≡ (if q then rows else rows ++ default_row strict_flag ∷ [])
    go true e = refl
    go false e = fresh_row (codes "strict") (more_values DefaultValue (codes "false" ∷ [])) (default_row strict_flag ∷ []) rows e
flag_default stats_flag rows = go (has_row (codes "stats") rows) refl
  where
    go : (q : Bool) → has_row (codes "stats") rows ≡ q → (if q then rows else with_values (codes "stats") AsWritten DefaultValue (codes "false" ∷ []) rows) ≡ (if q then rows else rows ++ default_row stats_flag ∷ [])
    go true e = refl
    go false e = fresh_row (codes "stats") (more_values DefaultValue (codes "false" ∷ [])) (default_row stats_flag ∷ []) rows e

finished_is : (rows : List Row) → fold with_default rows R ≡ final rows
finished_is rows =
    past_defaults valued_args (flag_arg strict_flag ∷ flag_arg stats_flag ∷ []) rows refl
    ∙ (ap (λ l. with_default l (flag_arg stats_flag)) (flag_default strict_flag rows) ∙ flag_default stats_flag (defaulted strict_flag rows))

defaults_quiet : (rows : List Row) → defaults_fault rows R ≡ []
unfolding defaults_fault
defaults_quiet rows = quiet_defaults valued_args (flag_arg strict_flag ∷ flag_arg stats_flag ∷ []) rows refl ∙ flags
  where
    go : (q : Bool) (k : Kinds) → or_else (if q || false then [] else []) k ≡ k
    go true k = refl
    go false k = refl

    flags : defaults_fault rows (flag_arg strict_flag ∷ flag_arg stats_flag ∷ []) ≡ []
    flags = go (has_row (codes "strict") rows) _ ∙ go (has_row (codes "stats") (with_default rows (flag_arg strict_flag))) []

-- ---- the two answers

every_name : (p : Name → Bool) → list_all p all_names ≡ true → (name : Name) → p name ≡ true
every_name p h =
    let until = and_parts _ _ h in
    let instants = and_parts _ _ until.1 in
    let bytes = and_parts _ _ instants.1 in
    let save = and_parts _ _ bytes.1 in
    let resume = and_parts _ _ save.1 in
    each_name (λ name. p name ≡ true) until.0 instants.0 bytes.0 save.0 resume.0

every_flag : (p : Flag → Bool) → list_all p all_flags ≡ true → (f : Flag) → p f ≡ true
every_flag p h =
    let strict = and_parts _ _ h in
    let stats = and_parts _ _ strict.1 in
    each_flag (λ f. p f ≡ true) strict.0 stats.0

within : {limit : ℕ} (n most : ℕ) → nat_le n most ≡ true → most ≤ limit → n ≤ limit
within n most few low = le_trans (leb-true n most few) low

-- pieces that have room where each option and each flag stands once at most
fits_room : (room : Room) (ps : List Piece) → room.most ≤ 4 → room.limits ≤ 1 → room.others ≤ 1 → fits room ps ≡ true → Fits ps
fits_room room ps most limits others h =
    let a = and_parts _ _ h in
    let b = and_parts _ _ a.1 in
    let c = and_parts _ _ b.1 in
    record {
      words = within _ room.most b.0 most;
      options = λ name. within _ (times_of room name) (every_name (λ name. nat_le (length (values name ps)) (times_of room name)) c.0 name) (each_name (λ name. times_of room name ≤ 1) others limits limits others others name);
      once = λ f. within _ (uses_of room f) (every_flag (λ f. nat_le (length (uses f ps)) (uses_of room f)) c.1 f) (each_flag (λ f. uses_of room f ≤ 1) limits others f);
    }

-- none has room
pub record FitsNone (ps : List Piece) : Type 0 where
  pub run : fits run_room ps ≡ false
  pub why : fits why_room ps ≡ false
  pub spec : fits one_room ps ≡ false
  pub count : fits pair_room ps ≡ false

unfit_room : (room : Room) (ps : List Piece) → room.most ≤ 4 → room.limits ≤ 1 → room.others ≤ 1 → (Fits ps → ⊥) → fits room ps ≡ false
unfit_room room ps most limits others unfit = go (fits room ps) refl
  where
    go : (q : Bool) → fits room ps ≡ q → q ≡ false
    go true h = absurd (unfit (fits_room room ps most limits others h))
    go false h = refl

unfit_all : (ps : List Piece) → (Fits ps → ⊥) → FitsNone ps
unfit_all ps unfit = record {
  run = unfit_room run_room ps (omega arith) (omega arith) (omega arith) unfit;
  why = unfit_room why_room ps (omega arith) (omega arith) (omega arith) unfit;
  spec = unfit_room one_room ps (omega arith) (omega arith) (omega arith) unfit;
  count = unfit_room pair_room ps (omega arith) (omega arith) (omega arith) unfit;
}

wordless : (ps : List Piece) → plains ps ≡ [] → FitsNone ps
wordless ps e = record { run = rw e refl; why = rw e refl; spec = rw e refl; count = rw e refl }

read_none : (room : Room) (words : List Text) (told : Option (List Piece)) → pieces None words ≡ told → ((ps : List Piece) → told ≡ Some ps → fits room ps ≡ false) → read room words ≡ None
read_none room words None e unfit = ap (option_and_then (λ ps. if fits room ps then Some ps else None)) e
read_none room words (Some ps) e unfit = ap (option_and_then (λ ps. if fits room ps then Some ps else None)) e ∙ ap (λ b. if b then Some ps else None) (unfit ps refl)

refused_when : (words : List Text) (told : Option (List Piece)) → pieces None words ≡ told → ((ps : List Piece) → told ≡ Some ps → FitsNone ps) → IsRefused words
refused_when words told e none = record {
  run = read_none run_room words told e (λ ps is. (none ps is).run);
  why = read_none why_room words told e (λ ps is. (none ps is).why);
  spec = read_none one_room words told e (λ ps is. (none ps is).spec);
  count = read_none pair_room words told e (λ ps is. (none ps is).count);
}

or_none : (a b : Kinds) → or_else a b ≡ [] → (a ≡ []) × (b ≡ [])
or_none [] b e = (refl, e)
or_none (k ∷ ks) b e = let bad : k ∷ ks ≡ [] = e in cc

widen : (a b c : Kinds) → HasFault (or_else a b) → HasFault (or_else a (or_else b c))
widen [] b c h = left_fault b c h
widen (k ∷ ks) b c h = tt

abbrev first_walk : Walk
first_walk = at [] None idle 1 false

abbrev level : List Text → Kinds
level words = level_fault S [] nothing_held words false []

level_is : (words : List Text) (rows : List Row) → fault_from first_walk words ≡ [] → end_rows first_walk words ≡ rows → level words ≡ check_fault S (final rows) false
level_is words rows quiet are =
    let parts = or_none (walk_fault S [] first_walk words) (settle_fault R false (fold (walked R []) first_walk words).held) quiet in
    ap (λ k. or_else k (or_else (settle_fault R false (fold (walked R []) first_walk words).held) (checks (end_rows first_walk words)))) parts.0
    ∙ (ap (λ k. or_else k (checks (end_rows first_walk words))) parts.1 ∙ (ap checks are ∙ (ap (λ k. or_else k (check_fault S (fold with_default rows R) false)) (defaults_quiet rows) ∙ ap (λ l. check_fault S l false) (finished_is rows))))
  where
    checks : List Row → Kinds
    checks l = or_else (defaults_fault l R) (check_fault S (fold with_default l R) false)

check_is : (ps : List Piece) (xs : List Text) → plains ps ≡ xs → check_fault S (final (rows_from 0 ps)) false ≡ check_kinds false false (not (nat_le 1 (length xs)) || false)
check_is ps xs e = ap (λ b. check_kinds false false (not b || false)) (first_given ps xs e)

-- what the walk says of the words
data Answered (words : List Text) : Type 0 where
  asks : (ps : List Piece) → pieces None words ≡ Some ps → Fits ps → 1 ≤ length (plains ps) → level words ≡ [] → end_rows first_walk words ≡ rows_from 0 ps → Answered words
  asks_not : IsRefused words → HasFault (level words) → Answered words

no_pieces : Fits []
no_pieces = record { words = omega arith; options = λ name. omega arith; once = λ f. omega arith }

same_pieces : (ps qs : List Piece) → Some ps ≡ Some qs → ps ≡ qs
same_pieces ps qs e = ap (λ o. unwrap_or o []) e

answer : (words : List Text) → Texts words → Answered words
answer words us = go ((judge words us).0 [] [] None no_pieces (record { quiet = refl; settled_are = refl }))
  where
    checked : (ps : List Piece) → pieces None words ≡ Some ps → Fits ps → fault_from first_walk words ≡ [] → end_rows first_walk words ≡ rows_from 0 ps → (xs : List Text) → plains ps ≡ xs → Answered words
    checked ps is f quiet rows [] e =
        let found : level words ≡ check_kinds false false (not (nat_le 1 0) || false) = level_is words (rows_from 0 ps) quiet rows ∙ check_is ps [] e in
        asks_not (refused_when words (Some ps) is (λ qs same. subst FitsNone (same_pieces ps qs same) (wordless ps e))) (subst HasFault (sym found) tt)
    checked ps is f quiet rows (x ∷ xs) e =
        let one : nat_le 1 (length (x ∷ xs)) ≡ true = le-leb 1 (length (x ∷ xs)) (omega arith) in
        let found : level words ≡ [] = level_is words (rows_from 0 ps) quiet rows ∙ (check_is ps (x ∷ xs) e ∙ ap (λ b. check_kinds false false (not b || false)) one) in
        asks ps is f (rw e (omega arith)) found rows

    go : Judged first_walk words [] (pieces None words) → Answered words
    go (accepted ps is f quiet rows) = checked ps is f quiet rows (plains ps) refl
    go (unaccepted unfit fault) = asks_not (refused_when words (pieces None words) refl (λ ps is. unfit_all ps (unfit ps is))) (widen (walk_fault S [] first_walk words) (settle_fault R false (fold (walked R []) first_walk words).held) _ fault)

-- ---- for the caller

to_texts : (words : List Text) → All IsUtf8 words → Texts words
to_texts [] h = tt
to_texts (word ∷ words) h = (h 0 word (omega arith), to_texts words (λ k d lt. h (suc k) d (omega arith)))

texts_after : (words : List Text) → Texts words → Texts (drop 1 words)
texts_after [] h = tt
texts_after (word ∷ words) h = h.1

fault_is : (words : List Text) → fault_of run_app words ≡ level (drop 1 words)
fault_is words = leaf_fault (built run_app) nothing_held (drop 1 words) refl

pub refused_asks_not : (app : App) (words : List Text) → app ≡ run_app → All IsUtf8 words → HasFault (fault_of app words) → IsRefused (drop 1 words)
refused_asks_not app words is utf8 fault = go (answer (drop 1 words) (texts_after words (to_texts words utf8)))
  where
    go : Answered (drop 1 words) → IsRefused (drop 1 words)
    go (asks ps told f some quiet rows) = absurd (subst HasFault (ap (λ a. fault_of a words) is ∙ (fault_is words ∙ quiet)) fault)
    go (asks_not told f) = told

pub taken_asks : (app : App) (words : List Text) (m : ArgMatches) → app ≡ run_app → All IsUtf8 words → fault_of app words ≡ [] → HasMatchesOf app words m → Matches (drop 1 words) m
taken_asks app words m is utf8 quiet has = go (answer (drop 1 words) (texts_after words (to_texts words utf8)))
  where
    go : Answered (drop 1 words) → Matches (drop 1 words) m
    go (asks_not told f) = absurd (subst HasFault (sym (fault_is words) ∙ (ap (λ a. fault_of a words) (sym is) ∙ quiet)) f)
    go (asks ps told f some silent rows) =
        let found = found_of m in
        let simple : is_simple app ≡ true = ap is_simple is ∙ (and_parts _ _ is_exact).0 in
        let taken : matches_of run_app words ≡ final (rows_from 0 ps) = ap (λ l. fold with_default l R) rows ∙ finished_is (rows_from 0 ps) in
        let held_are : rows_of found ≡ final (rows_from 0 ps) = (has simple).0 ∙ (ap (λ a. matches_of a words) is ∙ taken) in
        let first : (id : Text) → first_value found id ≡ first_of id (final (rows_from 0 ps)) = λ id. first_value-rows found id ∙ ap (first_of id) held_are in
        let word : (k : ℕ) → first_value found (word_id k) ≡ slice_get (words_at k 0 (plains ps)) 0 =
        λ k. first (word_id k) ∙ first_final (word_id k) (rows_from 0 ps) (words_at k 0 (plains ps)) (flag_no_word k) (chosen_words k ps) in (
          ps,
          told,
          record {
            first = word 0 ∙ first_word (plains ps);
            second = word 1 ∙ second_word (plains ps);
            third = word 2 ∙ third_word (plains ps);
            fourth = word 3 ∙ fourth_word (plains ps);
            named = λ name. first (id_of name) ∙ first_final (id_of name) (rows_from 0 ps) (values name ps) (λ f. flag_other f name) (chosen_name name 0 ps);
            flags = λ u. one_text-rows found (flag_id u) ∙ (ap (one_of (flag_id u)) held_are ∙ flag_final u ps);
            some_word = some;
            few_words = f.words;
            one_value = f.options;
            one_use = f.once;
          },
        )

pub among_faults : (k : ErrorKind) (kinds : Kinds) → IsAmong k kinds → HasFault kinds
among_faults k [] h = h
among_faults k (x ∷ xs) h = tt
