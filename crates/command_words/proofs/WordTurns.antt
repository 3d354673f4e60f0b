-- What `clap` makes of each word of a run.
use Rattle.std.proofs.Common.{◌≡◌, ◌∙◌, ap, sym, subst, refl, arith, ℕ, Bool, true, false, not, ◌&&◌, ◌||◌, ◌==◌, ◌+◌, zero, suc, List, [], ◌∷◌, ◌++◌, length, drop, take, Option, Some, None, codes, fold, if◌then◌else◌, option_and_then}
use Rattle.std.specs.Str.{bytes_eq, chars, encode_utf8_all, IsUtf8}
use Rattle.std.specs.List.{before_first, list_any, prefix_len}
use Rattle.std.specs.Prelude.{⊤}
use Rattle.std.proofs.lemmas.Bool.{eqb-true}
use Rattle.std.proofs.lemmas.Slice.Eq.{bytes_eq-Decides}
use Rattle.std.proofs.lemmas.Str.{IsUtf8-drop, IsCharBoundary-after_ascii, encodes-chars}
use Rattle.std.proofs.Math.Bool.{and-false}
use Rattle.clap.proofs.OnLiterals.{clap_on_literals}
use Rattle.clap.specs.Walk.{Held, Row, Rule, Text, Waiting, Walk, idle, positional, option as taking, pushed, settled, after_flag, after_step, long_met, walked, value, arg_by_long, arg_by_index, settled_rows, to_positional, has_row}
use Rattle.clap.specs.Lexer.{long_of, long_of_rest, short_of, short_of_rest, strip_byte}
use Rattle.clap.specs.Simple.{Shape, built, filled, with_index}
use Rattle.clap.specs.Faults.{is_simple_and_free, use_fault, flag_word_fault, flags_fault, long_fault, turn_fault, walk_fault, settle_fault, step_fault}
use Rattle.clap.specs.Kinds.{Kinds, or_else}
use Rattle.command_words.specs.inner.Reader.{flag_id, flag_rule, id_of, option_rule, run_app, word_id}
use Rattle.command_words.specs.Words.{Name, until_name, instants_name, bytes_name, save_name, resume_name, Flag, strict_flag, stats_flag, is_dashed, is_equals, value_in}
use Rattle.command_words.proofs.WordRows.{each_name, each_flag, row, flag_row, set_row}

-- ---- the command

-- `clap`'s matches and refusals of this command are functions of the words
pub is_exact : is_simple_and_free run_app ≡ true
unfolding clap_on_literals
is_exact = refl

-- what is made of it before the first word, and its arguments
abbrev pub S : Shape
S = (built run_app).top

abbrev pub R : List Rule
R = S.rules

-- ---- faults

-- the words are refused
abbrev pub HasFault : Kinds → Type 0
HasFault [] = ⊥
HasFault (k ∷ ks) = ⊤

pub left_fault : (a b : Kinds) → HasFault a → HasFault (or_else a b)
left_fault [] b h = absurd h
left_fault (k ∷ ks) b h = tt

right_fault : (a b : Kinds) → HasFault b → HasFault (or_else a b)
right_fault [] b h = h
right_fault (k ∷ ks) b h = tt

-- ---- what a word looks like

-- what a word is before `--`
pub data Look : Text → Type 0 where
  undashed : (word : Text) → is_dashed word ≡ false → bytes_eq word (45 ∷ 45 ∷ []) ≡ false → long_of word ≡ None → short_of word ≡ None → Look word
  end_mark : Look (45 ∷ 45 ∷ [])
  long : (x : ℕ) (xs : Text) → Look (45 ∷ 45 ∷ x ∷ xs)
  short : (c : ℕ) (cs : Text) → (c == 45) ≡ false → Look (45 ∷ c ∷ cs)

long_of_one : (b : ℕ) (q : Bool) → option_and_then long_of_rest (option_and_then (strip_byte 45) (if q then Some [] else None)) ≡ None
long_of_one b true = refl
long_of_one b false = refl

short_of_one : (b : ℕ) (q : Bool) → option_and_then short_of_rest (if q then Some [] else None) ≡ None
short_of_one b true = refl
short_of_one b false = refl

pub look : (word : Text) → Look word
look [] = undashed [] refl refl refl refl
look (b ∷ []) = undashed (b ∷ []) refl (and-false (b == 45)) (long_of_one b (b == 45)) (short_of_one b (b == 45))
look (b ∷ c ∷ more) = first (b == 45) refl
  where
    third : (t : Text) → Look (45 ∷ 45 ∷ t)
    third [] = end_mark
    third (x ∷ xs) = long x xs

    second : (q : Bool) → (c == 45) ≡ q → Look (45 ∷ c ∷ more)
    second true h = subst (λ k. Look (45 ∷ k ∷ more)) (sym (eqb-true c 45 h)) (third more)
    second false h = short c more h

    first : (q : Bool) → (b == 45) ≡ q → Look (b ∷ c ∷ more)
    first true h = subst (λ k. Look (k ∷ c ∷ more)) (sym (eqb-true b 45 h)) (second (c == 45) refl)
    first false h = undashed (b ∷ c ∷ more) h (rw h refl) (rw h refl) (rw h refl)

-- ---- what a long word names

-- which option or flag it is that a name after `--` names
pub data Named : Text → Type 0 where
  to_option : (name : Name) → Named (id_of name)
  to_flag : (f : Flag) → Named (flag_id f)
  to_none : (id : Text) → ((name : Name) → bytes_eq (id_of name) id ≡ false) → ((f : Flag) → bytes_eq (flag_id f) id ≡ false) → Named id

pub named : (id : Text) → Named id
named id = or_name until_name (λ u. or_name instants_name (λ i. or_name bytes_name (λ b. or_name save_name (λ s. or_name resume_name (λ r. or_flag strict_flag (λ f. or_flag stats_flag (λ t.
    to_none id (each_name _ u i b s r) (each_flag _ f t))))))))
  where
    or_name : (name : Name) → (bytes_eq (id_of name) id ≡ false → Named id) → Named id
    or_name name other = go (bytes_eq (id_of name) id) refl
      where
        go : (q : Bool) → bytes_eq (id_of name) id ≡ q → Named id
        go true h = subst Named ((bytes_eq-Decides (id_of name) id).0 h) (to_option name)
        go false h = other h

    or_flag : (f : Flag) → (bytes_eq (flag_id f) id ≡ false → Named id) → Named id
    or_flag f other = go (bytes_eq (flag_id f) id) refl
      where
        go : (q : Bool) → bytes_eq (flag_id f) id ≡ q → Named id
        go true h = subst Named ((bytes_eq-Decides (flag_id f) id).0 h) (to_flag f)
        go false h = other h

-- the name and the value of `--name=value`
abbrev pub rest_name : Text → Text
rest_name rest = before_first is_equals rest

pub name_after : (rest : Text) → before_first is_equals (45 ∷ 45 ∷ rest) ≡ 45 ∷ 45 ∷ rest_name rest
name_after rest =
    let n = prefix_len (λ x. not (is_equals x)) rest in
    let e : 1 + (1 + n) ≡ suc (suc n) = omega arith in
    ap (λ k. take k (45 ∷ 45 ∷ rest)) e

pub value_after : (rest : Text) → value_in (45 ∷ 45 ∷ rest) ≡ value_in rest
value_after rest =
    let n = prefix_len (λ x. not (is_equals x)) rest in
    let e : 1 + (1 + n) + 1 ≡ suc (suc (n + 1)) = omega arith in
    ap (λ k. if list_any is_equals rest then Some (drop k (45 ∷ 45 ∷ rest)) else None) e

long_is : (x : ℕ) (xs : Text) → long_of (45 ∷ 45 ∷ x ∷ xs) ≡ Some (rest_name (x ∷ xs), value_in (x ∷ xs))
long_is x xs = refl

-- ---- the walk

abbrev pub at : List Row → Option (Text × List Text) → Waiting → ℕ → Bool → Walk
at rows pending waiting position is_trailing = record {
  held = record { rows = rows; pending = pending; skip = 0 };
  waiting = waiting;
  position = position;
  is_trailing = is_trailing;
  stopped = None;
}

abbrev pub fault_from : Walk → List Text → Kinds
fault_from w words = or_else (walk_fault S [] w words) (settle_fault R false (fold (walked R []) w words).held)

abbrev pub end_rows : Walk → List Text → List Row
end_rows w words = settled_rows R (fold (walked R []) w words).held.pending (fold (walked R []) w words).held.rows

pub pass_turn : (w after : Walk) (word : Text) (words : List Text) → turn_fault S [] w word ≡ [] → walked R [] w word ≡ after → fault_from w (word ∷ words) ≡ fault_from after words
unfolding walk_fault
pass_turn w after word words quiet to = ap (λ k. from k (walked R [] w word)) quiet ∙ ap (from []) to
  where
    from : Kinds → Walk → Kinds
    from k v = or_else (or_else k (walk_fault S [] v words)) (settle_fault R false (fold (walked R []) v words).held)

pub stop_turn : (w : Walk) (word : Text) (words : List Text) → HasFault (turn_fault S [] w word) → HasFault (fault_from w (word ∷ words))
unfolding walk_fault
stop_turn w word words h = left_fault _ _ (left_fault _ _ h)

pub pass_rows : (w after : Walk) (word : Text) (words : List Text) → walked R [] w word ≡ after → end_rows w (word ∷ words) ≡ end_rows after words
pass_rows w after word words to = ap (λ v. end_rows v words) to

-- ---- settling

abbrev pub held : List Row → Option (Text × List Text) → Held
held rows pending = record { rows = rows; pending = pending; skip = 0 }

-- the arguments that take a value
pub data Slot : Type 0 where
  word_slot : ℕ → Slot
  name_slot : Name → Slot

abbrev slot_id : Slot → Text
slot_id (word_slot n) = word_id n
slot_id (name_slot name) = id_of name

pub quiet_settle : (slot : Slot) (rows : List Row) (word : Text) → has_row (slot_id slot) rows ≡ false → settle_fault R false (held rows (Some (slot_id slot, word ∷ []))) ≡ []
quiet_settle (word_slot zero) rows word h = rw h refl
quiet_settle (word_slot (suc zero)) rows word h = rw h refl
quiet_settle (word_slot (suc (suc zero))) rows word h = rw h refl
quiet_settle (word_slot (suc (suc (suc n)))) rows word h = rw h refl
quiet_settle (name_slot until_name) rows word h = rw h refl
quiet_settle (name_slot name) rows word h = rw h refl

pub loud_settle : (slot : Slot) (rows : List Row) (word : Text) → has_row (slot_id slot) rows ≡ true → HasFault (settle_fault R false (held rows (Some (slot_id slot, word ∷ []))))
loud_settle (word_slot zero) rows word h = rw h tt
loud_settle (word_slot (suc zero)) rows word h = rw h tt
loud_settle (word_slot (suc (suc zero))) rows word h = rw h tt
loud_settle (word_slot (suc (suc (suc n)))) rows word h = rw h tt
loud_settle (name_slot until_name) rows word h = rw h tt
loud_settle (name_slot name) rows word h = rw h tt

pub slot_rows : (slot : Slot) (rows : List Row) (word : Text) → has_row (slot_id slot) rows ≡ false → settled_rows R (Some (slot_id slot, word ∷ [])) rows ≡ rows ++ row (slot_id slot) word ∷ []
slot_rows (word_slot zero) rows word h = set_row (codes "first") word rows h
slot_rows (word_slot (suc zero)) rows word h = set_row (codes "second") word rows h
slot_rows (word_slot (suc (suc zero))) rows word h = set_row (codes "third") word rows h
slot_rows (word_slot (suc (suc (suc n)))) rows word h = set_row (codes "fourth") word rows h
slot_rows (name_slot until_name) rows word h = set_row (codes "until") word rows h
slot_rows (name_slot name) rows word h = set_row (id_of name) word rows h

pub empty_settle : (name : Name) (rows : List Row) → HasFault (settle_fault R false (held rows (Some (id_of name, []))))
empty_settle until_name rows = tt
empty_settle name rows = tt

-- ---- turns

-- what is held is settled before a plain word of another argument
settled_first : {X : Type 0} (q : Bool) (a b : X) → (if q && false then a else b) ≡ b
settled_first true a b = refl
settled_first false a b = refl

-- the four plain words, by the place of each
pub data Place : ℕ → Type 0 where
  first_place : Place 0
  second_place : Place 1
  third_place : Place 2
  fourth_place : Place 3

pub positional_step : (k : ℕ) → Place k → (rows : List Row) (pending : Option (Text × List Text)) → step_fault S (suc k) (held rows pending) value ≡ settle_fault R false (held rows pending)
positional_step _ first_place rows None = refl
positional_step _ second_place rows None = refl
positional_step _ third_place rows None = refl
positional_step _ fourth_place rows None = refl
positional_step _ first_place rows (Some p) = settled_first (bytes_eq p.0 (codes "first")) [] _
positional_step _ second_place rows (Some p) = settled_first (bytes_eq p.0 (codes "second")) [] _
positional_step _ third_place rows (Some p) = settled_first (bytes_eq p.0 (codes "third")) [] _
positional_step _ fourth_place rows (Some p) = settled_first (bytes_eq p.0 (codes "fourth")) [] _

loud_step : (rows : List Row) (pending : Option (Text × List Text)) (n : ℕ) → HasFault (settle_fault R false (held rows pending)) → HasFault (step_fault S n (held rows pending) value)
loud_step rows pending n h = go (1 == n) (2 == n) (3 == n) (4 == n) refl refl refl refl
  where
    at_place : (k : ℕ) → Place k → (suc k == n) ≡ true → HasFault (step_fault S n (held rows pending) value)
    at_place k p e = let is : suc k ≡ n = eqb-true (suc k) n e in subst (λ m. HasFault (step_fault S m (held rows pending) value)) is (subst HasFault (sym (positional_step k p rows pending)) h)

    go : (a b c d : Bool) → (1 == n) ≡ a → (2 == n) ≡ b → (3 == n) ≡ c → (4 == n) ≡ d → HasFault (step_fault S n (held rows pending) value)
    go true b c d e f g i = at_place 0 first_place e
    go false true c d e f g i = at_place 1 second_place f
    go false false true d e f g i = at_place 2 third_place g
    go false false false true e f g i = at_place 3 fourth_place i
    go false false false false e f g i = rw (e, f, g, i) tt

-- a plain word is held for its argument
abbrev held_word : ℕ → Text → Bool → Held → Walk
held_word k word t h = record { held = pushed (word_id k) word h; waiting = idle; position = suc (suc k); is_trailing = t || false; stopped = None }

pub word_placed : (k : ℕ) → Place k → (rows : List Row) (pending : Option (Text × List Text)) (word : Text) (waiting : Waiting) (t : Bool)
    → to_positional R (arg_by_index R (suc k)) word (at rows pending waiting (suc k) t) (held rows pending) ≡ at (settled_rows R pending rows) (Some (word_id k, word ∷ [])) idle (suc (suc k)) (t || false)
word_placed _ first_place rows None word waiting t = refl
word_placed _ second_place rows None word waiting t = refl
word_placed _ third_place rows None word waiting t = refl
word_placed _ fourth_place rows None word waiting t = refl
word_placed _ first_place rows (Some p) word waiting t = ap (held_word 0 word t) (settled_first (bytes_eq p.0 (codes "first")) (held rows (Some p)) (settled R (held rows (Some p))))
word_placed _ second_place rows (Some p) word waiting t = ap (held_word 1 word t) (settled_first (bytes_eq p.0 (codes "second")) (held rows (Some p)) (settled R (held rows (Some p))))
word_placed _ third_place rows (Some p) word waiting t = ap (held_word 2 word t) (settled_first (bytes_eq p.0 (codes "third")) (held rows (Some p)) (settled R (held rows (Some p))))
word_placed _ fourth_place rows (Some p) word waiting t = ap (held_word 3 word t) (settled_first (bytes_eq p.0 (codes "fourth")) (held rows (Some p)) (settled R (held rows (Some p))))

-- a plain word, before `--`
pub plain_turn : (rows : List Row) (pending : Option (Text × List Text)) (n : ℕ) (word : Text) → bytes_eq word (45 ∷ 45 ∷ []) ≡ false → long_of word ≡ None → short_of word ≡ None
    → turn_fault S [] (at rows pending idle n false) word ≡ step_fault S n (held rows pending) value
plain_turn rows pending n word a b c = rw (a, b, c) refl

pub plain_walked : (rows : List Row) (pending : Option (Text × List Text)) (n : ℕ) (word : Text) → bytes_eq word (45 ∷ 45 ∷ []) ≡ false → long_of word ≡ None → short_of word ≡ None
    → walked R [] (at rows pending idle n false) word ≡ to_positional R (arg_by_index R n) word (at rows pending idle n false) (held rows pending)
unfolding walked
plain_walked rows pending n word a b c = rw (a, b, c) refl

-- and after it
pub trailing_turn : (rows : List Row) (pending : Option (Text × List Text)) (waiting : Waiting) (n : ℕ) (word : Text)
    → turn_fault S [] (at rows pending waiting n true) word ≡ step_fault S n (held rows pending) value
trailing_turn rows pending waiting n word = refl

pub trailing_walked : (rows : List Row) (pending : Option (Text × List Text)) (waiting : Waiting) (n : ℕ) (word : Text)
    → walked R [] (at rows pending waiting n true) word ≡ to_positional R (arg_by_index R n) word (at rows pending waiting n true) (held rows pending)
unfolding walked
trailing_walked rows pending waiting n word = refl

pub end_turn : (rows : List Row) (pending : Option (Text × List Text)) (waiting : Waiting) (n : ℕ) → turn_fault S [] (at rows pending waiting n false) (45 ∷ 45 ∷ []) ≡ []
end_turn rows pending idle n = refl
end_turn rows pending (taking id) n = refl
end_turn rows pending positional n = refl

pub end_walked : (rows : List Row) (pending : Option (Text × List Text)) (waiting : Waiting) (n : ℕ) → walked R [] (at rows pending waiting n false) (45 ∷ 45 ∷ []) ≡ at rows pending waiting n true
unfolding walked
end_walked rows pending idle n = refl
end_walked rows pending (taking id) n = refl
end_walked rows pending positional n = refl

-- the value of an option
pub value_turn : (name : Name) (rows : List Row) (n : ℕ) (word : Text) → bytes_eq word (45 ∷ 45 ∷ []) ≡ false → long_of word ≡ None → short_of word ≡ None
    → turn_fault S [] (at rows (Some (id_of name, [])) (taking (id_of name)) n false) word ≡ []
value_turn until_name rows n word a b c = rw (a, b, c) refl
value_turn name rows n word a b c = rw (a, b, c) refl

pub value_walked : (name : Name) (rows : List Row) (n : ℕ) (word : Text) → bytes_eq word (45 ∷ 45 ∷ []) ≡ false → long_of word ≡ None → short_of word ≡ None
    → walked R [] (at rows (Some (id_of name, [])) (taking (id_of name)) n false) word ≡ at rows (Some (id_of name, word ∷ [])) idle n false
unfolding walked
value_walked until_name rows n word a b c = rw (a, b, c) refl
value_walked name rows n word a b c = rw (a, b, c) refl

-- a word of one hyphen and more is refused
loud_bundle : (k : ℕ) (word : Text) (h : Held) (y : ℕ) (ys : Text) → chars word ≡ y ∷ ys → HasFault (flags_fault R false (suc k) word 0 h)
unfolding flags_fault
loud_bundle k word h y ys e = rw e tt

short_not_end : (c : ℕ) (cs : Text) → (c == 45) ≡ false → bytes_eq (45 ∷ c ∷ cs) (45 ∷ 45 ∷ []) ≡ false
short_not_end c cs h = rw h refl

short_not_long : (c : ℕ) (cs : Text) → (c == 45) ≡ false → long_of (45 ∷ c ∷ cs) ≡ None
short_not_long c cs h = rw h refl

short_is : (c : ℕ) (cs : Text) → (c == 45) ≡ false → short_of (45 ∷ c ∷ cs) ≡ Some (c ∷ cs)
short_is c cs h = rw h refl

pub short_turn : (rows : List Row) (pending : Option (Text × List Text)) (waiting : Waiting) (n c : ℕ) (cs : Text) (y : ℕ) (ys : Text) → (c == 45) ≡ false → chars (c ∷ cs) ≡ y ∷ ys
    → HasFault (turn_fault S [] (at rows pending waiting n false) (45 ∷ c ∷ cs))
short_turn rows pending waiting n c cs y ys h e = go waiting
  where
    first : HasFault (if bytes_eq (45 ∷ c ∷ cs) (45 ∷ 45 ∷ []) then [] else flag_word_fault R false (long_of (45 ∷ c ∷ cs)) (45 ∷ c ∷ cs) (held rows pending))
    first = rw (short_not_end c cs h, short_not_long c cs h, short_is c cs h) (loud_bundle (length cs) (c ∷ cs) (held rows pending) y ys e)

    go : (w : Waiting) → HasFault (turn_fault S [] (at rows pending w n false) (45 ∷ c ∷ cs))
    go idle = left_fault _ _ first
    go (taking id) = left_fault _ _ first
    go positional = left_fault _ _ first

pub first_char : (c : ℕ) (cs : Text) → IsUtf8 (45 ∷ c ∷ cs) → (y : ℕ) × (ys : Text) × (chars (c ∷ cs) ≡ y ∷ ys)
first_char c cs utf8 = go (chars (c ∷ cs)) refl
  where
    rest_is : IsUtf8 (c ∷ cs)
    rest_is = IsUtf8-drop (45 ∷ c ∷ cs) 1 utf8 (IsCharBoundary-after_ascii (45 ∷ c ∷ cs) 0 utf8 (omega arith) (omega arith))

    go : (ds : Text) → chars (c ∷ cs) ≡ ds → (y : ℕ) × (ys : Text) × (chars (c ∷ cs) ≡ y ∷ ys)
    go [] e = let bad : [] ≡ c ∷ cs = ap encode_utf8_all (sym e) ∙ encodes-chars (c ∷ cs) rest_is in cc
    go (y ∷ ys) e = (y, ys, e)

-- a long word, by the name and the value in it
abbrev pub long_turn : Waiting → ℕ → Text → Text → Option Text → Held → Kinds
long_turn waiting n word id v h = or_else (long_fault R false (arg_by_long R id) v h)
    (step_fault S n (after_flag R waiting word (long_met R (arg_by_long R id) v h).0 (long_met R (arg_by_long R id) v h).1).0
    (after_flag R waiting word (long_met R (arg_by_long R id) v h).0 (long_met R (arg_by_long R id) v h).1).1)

pub long_turn_is : (rows : List Row) (pending : Option (Text × List Text)) (waiting : Waiting) (n x : ℕ) (xs : Text)
    → turn_fault S [] (at rows pending waiting n false) (45 ∷ 45 ∷ x ∷ xs) ≡ long_turn waiting n (45 ∷ 45 ∷ x ∷ xs) (rest_name (x ∷ xs)) (value_in (x ∷ xs)) (held rows pending)
long_turn_is rows pending idle n x xs = refl
long_turn_is rows pending (taking id) n x xs = refl
long_turn_is rows pending positional n x xs = refl

abbrev pub long_walk : ℕ → Text → Text → Option Text → Walk → Walk
long_walk n word id v w = after_step R word w
    (after_flag R w.waiting word (long_met R (arg_by_long R id) v w.held).0 (long_met R (arg_by_long R id) v w.held).1).0
    (after_flag R w.waiting word (long_met R (arg_by_long R id) v w.held).0 (long_met R (arg_by_long R id) v w.held).1).1

pub long_walk_is : (rows : List Row) (pending : Option (Text × List Text)) (n x : ℕ) (xs : Text)
    → walked R [] (at rows pending idle n false) (45 ∷ 45 ∷ x ∷ xs) ≡ long_walk n (45 ∷ 45 ∷ x ∷ xs) (rest_name (x ∷ xs)) (value_in (x ∷ xs)) (at rows pending idle n false)
unfolding walked
long_walk_is rows pending n x xs = refl

-- a name of no option and no flag
pub unknown_long : (waiting : Waiting) (n : ℕ) (word id : Text) (v : Option Text) (h : Held) → ((name : Name) → bytes_eq (id_of name) id ≡ false) → ((f : Flag) → bytes_eq (flag_id f) id ≡ false)
    → HasFault (long_turn waiting n word id v h)
unknown_long waiting n word id v h names flags =
    rw (names until_name, names instants_name, names bytes_name, names save_name, names resume_name, flags strict_flag, flags stats_flag) tt

-- while something is held that fails, each word that begins with `--` fails
pub loud_long : (waiting : Waiting) (n : ℕ) (word id : Text) (v : Option Text) (h : Held) → Named id → HasFault (settle_fault R false h) → HasFault (long_turn waiting n word id v h)
loud_long waiting n word _ None h (to_option until_name) f = left_fault _ _ f
loud_long waiting n word _ (Some v) h (to_option until_name) f = left_fault _ _ (left_fault _ _ f)
loud_long waiting n word _ None h (to_option name) f = left_fault _ _ f
loud_long waiting n word _ (Some v) h (to_option name) f = left_fault _ _ (left_fault _ _ f)
loud_long waiting n word _ None h (to_flag strict_flag) f = left_fault _ _ (left_fault _ _ f)
loud_long waiting n word _ None h (to_flag stats_flag) f = left_fault _ _ (left_fault _ _ f)
loud_long waiting n word _ (Some v) h (to_flag strict_flag) f = tt
loud_long waiting n word _ (Some v) h (to_flag stats_flag) f = tt
loud_long waiting n word _ v h (to_none id names flags) f = unknown_long waiting n word id v h names flags

-- an option without a value yet
pub option_turn : (name : Name) (n : ℕ) (word : Text) (h : Held) → settle_fault R false h ≡ [] → long_turn idle n word (id_of name) None h ≡ []
option_turn until_name n word h f = rw f refl
option_turn name n word h f = rw f refl

pub option_walked : (name : Name) (rows : List Row) (pending : Option (Text × List Text)) (n : ℕ) (word : Text)
    → long_walk n word (id_of name) None (at rows pending idle n false) ≡ at (settled_rows R pending rows) (Some (id_of name, [])) (taking (id_of name)) n false
option_walked until_name rows pending n word = refl
option_walked name rows pending n word = refl

-- an option with its value
pub joined_turn : (name : Name) (n : ℕ) (word v : Text) (rows : List Row) (pending : Option (Text × List Text)) → settle_fault R false (held rows pending) ≡ []
    → has_row (id_of name) (settled_rows R pending rows) ≡ false → long_turn idle n word (id_of name) (Some v) (held rows pending) ≡ []
joined_turn until_name n word v rows pending f e = rw (f, e) refl
joined_turn name n word v rows pending f e = rw (f, e) refl

use_again : (name : Name) (v : Text) (rows : List Row) → has_row (id_of name) rows ≡ true → HasFault (use_fault false (with_index 5 (filled (option_rule (id_of name)))) (v ∷ []) rows)
use_again until_name v rows e = rw e tt
use_again name v rows e = rw e tt

pub joined_again : (name : Name) (n : ℕ) (word v : Text) (rows : List Row) (pending : Option (Text × List Text)) → has_row (id_of name) (settled_rows R pending rows) ≡ true
    → HasFault (long_turn idle n word (id_of name) (Some v) (held rows pending))
joined_again until_name n word v rows pending e = left_fault _ _ (right_fault (settle_fault R false (held rows pending)) _ (use_again until_name v (settled_rows R pending rows) e))
joined_again name n word v rows pending e = left_fault _ _ (right_fault (settle_fault R false (held rows pending)) _ (use_again name v (settled_rows R pending rows) e))

pub joined_walked : (name : Name) (rows : List Row) (pending : Option (Text × List Text)) (n : ℕ) (word v : Text) → has_row (id_of name) (settled_rows R pending rows) ≡ false
    → long_walk n word (id_of name) (Some v) (at rows pending idle n false) ≡ at (settled_rows R pending rows ++ row (id_of name) v ∷ []) None idle n false
joined_walked until_name rows pending n word v e = ap (λ l. at l None idle n false) (set_row (codes "until") v _ e)
joined_walked name rows pending n word v e = ap (λ l. at l None idle n false) (set_row (id_of name) v _ e)

-- a flag
pub flag_turn : (f : Flag) (n : ℕ) (word : Text) (rows : List Row) (pending : Option (Text × List Text)) → settle_fault R false (held rows pending) ≡ []
    → has_row (flag_id f) (settled_rows R pending rows) ≡ false → long_turn idle n word (flag_id f) None (held rows pending) ≡ []
flag_turn strict_flag n word rows pending f e = rw (f, e) refl
flag_turn stats_flag n word rows pending f e = rw (f, e) refl

flag_use_again : (f : Flag) (rows : List Row) → has_row (flag_id f) rows ≡ true → HasFault (use_fault false (with_index 5 (filled (flag_rule (flag_id f)))) [] rows)
flag_use_again strict_flag rows e = rw e tt
flag_use_again stats_flag rows e = rw e tt

pub flag_again : (f : Flag) (n : ℕ) (word : Text) (rows : List Row) (pending : Option (Text × List Text)) → has_row (flag_id f) (settled_rows R pending rows) ≡ true
    → HasFault (long_turn idle n word (flag_id f) None (held rows pending))
flag_again strict_flag n word rows pending e = left_fault _ _ (right_fault (settle_fault R false (held rows pending)) _ (flag_use_again strict_flag (settled_rows R pending rows) e))
flag_again stats_flag n word rows pending e = left_fault _ _ (right_fault (settle_fault R false (held rows pending)) _ (flag_use_again stats_flag (settled_rows R pending rows) e))

pub flag_valued : (f : Flag) (n : ℕ) (word v : Text) (h : Held) → HasFault (long_turn idle n word (flag_id f) (Some v) h)
flag_valued strict_flag n word v h = tt
flag_valued stats_flag n word v h = tt

pub flag_walked : (f : Flag) (rows : List Row) (pending : Option (Text × List Text)) (n : ℕ) (word : Text) → has_row (flag_id f) (settled_rows R pending rows) ≡ false
    → long_walk n word (flag_id f) None (at rows pending idle n false) ≡ at (settled_rows R pending rows ++ flag_row f ∷ []) None idle n false
flag_walked strict_flag rows pending n word e = ap (λ l. at l None idle n false) (set_row (codes "strict") (codes "true") _ e)
flag_walked stats_flag rows pending n word e = ap (λ l. at l None idle n false) (set_row (codes "stats") (codes "true") _ e)

-- ---- while something is held that fails, all words fail

abbrev pub Texts : List Text → Type 0
Texts [] = ⊤
Texts (word ∷ words) = IsUtf8 word × Texts words

pub loud_trailing : (words : List Text) (rows : List Row) (pending : Option (Text × List Text)) (waiting : Waiting) (n : ℕ) → HasFault (settle_fault R false (held rows pending)) → HasFault (fault_from (at rows pending waiting n true) words)
unfolding walk_fault
loud_trailing [] rows pending waiting n f = f
loud_trailing (word ∷ words) rows pending waiting n f = stop_turn (at rows pending waiting n true) word words (loud_step rows pending n f)

pub loud_idle : (words : List Text) → Texts words → (rows : List Row) (pending : Option (Text × List Text)) (n : ℕ) → HasFault (settle_fault R false (held rows pending)) → HasFault (fault_from (at rows pending idle n false) words)
unfolding walk_fault
loud_idle [] utf8 rows pending n f = f
loud_idle (word ∷ words) utf8 rows pending n f = go word (look word) utf8.0
  where
    go : (word : Text) → Look word → IsUtf8 word → HasFault (fault_from (at rows pending idle n false) (word ∷ words))
    go word (undashed _ d a b c) u = stop_turn (at rows pending idle n false) word words (subst HasFault (sym (plain_turn rows pending n word a b c)) (loud_step rows pending n f))
    go _ end_mark u = subst HasFault (sym (pass_turn (at rows pending idle n false) (at rows pending idle n true) (45 ∷ 45 ∷ []) words (end_turn rows pending idle n) (end_walked rows pending idle n))) (loud_trailing words rows pending idle n f)
    go _ (long x xs) u = stop_turn (at rows pending idle n false) (45 ∷ 45 ∷ x ∷ xs) words (subst HasFault (sym (long_turn_is rows pending idle n x xs)) (loud_long idle n (45 ∷ 45 ∷ x ∷ xs) (rest_name (x ∷ xs)) (value_in (x ∷ xs)) (held rows pending) (named (rest_name (x ∷ xs))) f))
    go _ (short c cs h) u = let y = first_char c cs u in stop_turn (at rows pending idle n false) (45 ∷ c ∷ cs) words (short_turn rows pending idle n c cs y.0 y.1 h y.2)
