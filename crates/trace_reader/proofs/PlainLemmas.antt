-- Lines of the form in which most are written say what their parts say.
use Rattle.std.proofs.Common.{◌≡◌, ◌≢◌, ◌==◌, ◌≤◌, ◌<◌, ◌^◌, ℕ, ◌+◌, ◌-◌, ◌*◌, pos, neg_ℤ, Bool, true, false, ◌&&◌, ◌||◌, not, zero, suc, get_or, Result, List, [], ◌∷◌, ◌++◌, length, take, drop, nat_le, nat_lt, Option, Some, None, Ok, Err, IfSome, refl, sym, ap, subst, ◌∙◌, arith, append-nil, append_assoc, length-append}
use Rattle.std.proofs.lemmas.Bool.{and_parts, ltb-false, ltb-true, leb-true, ne_eqb, le-leb, le-ltb, lt-ltb}
use Rattle.std.proofs.lemmas.List.Folds.{list_all-append}
use Rattle.std.specs.Prelude.{IsTrue, if◌then◌else◌, codes}
use Rattle.std.specs.Char.{digit_value, is_ascii_digit}
use Rattle.std.specs.List.{list_all, position}
use Rattle.std.proofs.lemmas.List.Quantifiers.{position-Some}
use Rattle.std.specs.Option.{option_and_then, option_map, option_or}
use Rattle.std.specs.Result.{result_ok}
use Rattle.std.specs.Str.Parse.{AllDigits, digits_value}
use Rattle.std.proofs.lemmas.Int.Digits.{digits_value-lt, digits_value_push}
use Rattle.std.proofs.lemmas.List.{length-drop, take-append-drop, take_all}
use Rattle.std.proofs.Math.Nat.{pow-le-pow_right}
use Rattle.std.proofs.Math.Seq.{drop-append_seam}
use Rattle.std.proofs.lemmas.Str.{digit_value_digit}
use Rattle.std.proofs.lemmas.Option.{same_Some}
use Rattle.tsl_value.specs.declared.scalar.Scalar.{Scalar}
use Rattle.tsl_value.specs.declared.scalar.Scalar.TheVariants as scalar
use Rattle.tsl_value.specs.declared.scalar.ScalarType.{ScalarType}
use Rattle.tsl_value.specs.declared.scalar.ScalarType.TheVariants as scalar_type
use Rattle.tsl_value.specs.declared.scalar.ValueType.TheVariants as value_type
use Rattle.tsl_value.specs.declared.literal.LiteralFault.TheVariants.{BadLiteral, LiteralTooWide}
use Rattle.tsl_value.specs.Literal.{are_digits, begins_with_minus, int_literal, is_int, literal}
use Rattle.tsl_value.proofs.Digits.{are_digits-parts, is_int-neg, is_int-pos}
use Rattle.tsl_value.proofs.Printed.{begins_with_minus-digits}
use Rattle.flat_core.specs.declared.equation.Equation.{Equation}
use Rattle.flat_core.specs.System.{System, equation}
use Rattle.flat_core.specs.Line.{Line}
use Rattle.trace_reader.specs.declared.fault.TraceFault.TheVariants as fault
use Rattle.trace_reader.specs.declared.plain.PlainLine.{PlainLine}
use Rattle.trace_reader.specs.Form.{LineParts, content, is_blank, is_end_blank, is_long, is_name, parts_of, put_first, says_nothing, split_once, time_of, without_end, without_front}
use Rattle.trace_reader.specs.inner.Plain.{BeginsWithInt, BeginsWithNumber, BeginsWithTail, BeginsWithValue, HasPlainInput, IsPlain, IsPlainInput, IsPlainOf, StandsPlain, begins_with_digit, is_of_int, plain, tail_of}
use Rattle.trace_reader.specs.inner.LastTime.{is_later, or_zero}
use Rattle.trace_reader.specs.inner.Reader.{IsFirstLine, Reader, StopsAtLine, had_now, is_skipped, last_counts}
use Rattle.trace_reader.specs.Reading.{addressed, alone, as_read, formed, input_called, is_among, judged, judged_content, placed, said, said_at, value_at, value_of}
use Rattle.trace_reader.specs.inner.Spelling.{HasForm, IsWhole}
use Rattle.trace_reader.proofs.FormLemmas.{form_parts, form_says, says_digit, splits_off}
use Rattle.trace_reader.proofs.NameLemmas.{is_inner, name_inner, name_spelled}
use Rattle.trace_reader.proofs.TrimLemmas.{all_joined, all_weaker, end_following, front_kept, not_mark}
use Rattle.trace_reader.proofs.UnreadLemmas.{is_split}
use Rattle.trace_reader.specs.declared.limits.TheConstants.{MOST_LINE_BYTES}

-- all but a line's end
abbrev no_end : ℕ → Bool
no_end b = not (b == 10)

without_mark : (p : ℕ → Bool) (bytes : List ℕ) → p 10 ≡ false → list_all p bytes ≡ true → list_all no_end bytes ≡ true
without_mark p bytes fails all = all_weaker p no_end bytes (λ b is. ap not (not_mark p b 10 is fails)) all

-- a number, by its bytes
int_some : (number : List ℕ) (v : Scalar) → int_literal number ≡ Ok v → number ≢ []
int_some [] v means = absurd (cc)
int_some (b ∷ number) v means = λ none. cc

of_int_whole : (number : List ℕ) → number ≢ [] → list_all is_of_int number ≡ true → IsWhole number
of_int_whole number some all = record {
  front = λ b rest is.
      let it = (and_parts (is_of_int b) (list_all is_of_int rest) (ap (list_all is_of_int) (sym is) ∙ all)).0 in
      λ k. not_mark is_of_int b 32 it refl k || not_mark is_of_int b 9 it refl k;
  end = λ rest b is.
      let parts = and_parts (list_all is_of_int rest) (list_all is_of_int (b ∷ [])) (sym (list_all-append is_of_int rest (b ∷ [])) ∙ ap (list_all is_of_int) (sym is) ∙ all) in
      let it = (and_parts (is_of_int b) true parts.1).0 in
      λ k. (not_mark is_of_int b 32 it refl k || not_mark is_of_int b 9 it refl k) || not_mark is_of_int b 13 it refl k;
  some = some;
}

value_first : (s : System) (i : ℕ) (of : ScalarType) (name : List ℕ) → IsPlainInput s i of name → (value : Option (List ℕ)) (v : Scalar) → value_of (value_type.Scalar of) value ≡ Some v → value_at s i value ≡ Some v
value_first s i of name it value v means =
    ap (option_and_then (λ (e : Equation). value_of e.of value)) it.is ∙ ap (λ t. value_of t value) it.input.typed ∙ means

module _ (of : ScalarType) (name bytes : List ℕ) (p : PlainLine) (it : IsPlain of name bytes p) (spelled : is_name name ≡ true) where
  abbrev line : List ℕ
  line = plain it.time name (tail_of it.value)

  line_no_end : list_all no_end line ≡ true
  line_no_end =
      all_joined no_end it.time _ (without_mark is_ascii_digit it.time refl (are_digits-parts it.time it.digits).1)
      (all_joined no_end name _ (without_mark is_inner name refl (name_inner name (name_spelled name spelled)))
      it.one_line)

  splits : split_once 10 bytes ≡ Some (line, it.rest)
  splits = ap (split_once 10) it.is ∙ splits_off no_end 10 refl line it.rest line_no_end

  pub taken : take p.len bytes ≡ line
  taken = let at = is_split 10 bytes (line, it.rest) splits in ap (λ n. take n bytes) it.len ∙ sym at.front

  pub first_plain : (ended : Bool) → IsFirstLine bytes ended p.len
  first_plain ended =
      let at = is_split 10 bytes (line, it.rest) splits in
      ap (λ o. option_or o (if ended then alone bytes else None)) splits
      ∙ (λ k. Some (sym taken k, (at.after ∙ ap (λ n. drop (n + 1) bytes) (sym it.len)) k))

  pub plain_within : p.len ≤ length bytes
  plain_within =
      let at = is_split 10 bytes (line, it.rest) splits in
      let lt = at.within in
      let len = it.len in
      omega arith

  pub plain_some : 0 < length bytes
  plain_some = let at = is_split 10 bytes (line, it.rest) splits in let lt = at.within in omega arith

  abbrev parts : LineParts
  parts = record { time = it.time; name = Some name; value = it.value }

  form_of : (value : Option (List ℕ)) → IfSome value IsWhole → HasForm (plain it.time name (tail_of value)) (record { time = it.time; name = Some name; value = value })
  form_of None whole = HasForm.named [] it.time [] (32 ∷ []) name [] refl it.digits refl refl (name_spelled name spelled) refl refl refl
  form_of (Some value) whole =
      HasForm.valued [] it.time [] (32 ∷ []) name (32 ∷ []) (32 ∷ []) value [] refl it.digits refl refl (name_spelled name spelled) refl refl
      whole refl
      (ap (λ written. plain it.time name (codes " = " ++ written)) (sym (append-nil value))) refl

  form : HasForm line parts
  form = form_of it.value it.whole

  module _ (s : System) (strict : Bool) (had : ℕ → ℕ → Bool) (last n : ℕ) (input : IsPlainInput s p.input of name) (short : p.len ≤ MOST_LINE_BYTES) (later : last ≤ p.time) (new : had p.time p.input ≡ false) where
    abbrev event : Line
    event = record { time = p.time; event = Some (p.input, p.value) }

    time_is : time_of it.time ≡ Some p.time
    time_is =
        (λ k. if nat_lt (it.time_is k) 0x8000_0000_0000_0000 then Some (it.time_is k) else None)
        ∙ ap (λ b. if b then Some p.time else None) (lt-ltb p.time 0x8000_0000_0000_0000 it.small)

    said_is : formed s strict had last n (Some parts) ≡ Ok event
    said_is =
        ap (said_at s strict had last n parts) time_is
        ∙ ap (λ b. if b then Err (fault.TimeBack n last p.time) else said s strict had last n p.time (Some name) it.value) (le-ltb p.time last later)
        ∙ ap (addressed s strict had last n p.time name it.value) input.called
        ∙ ap (placed s strict had last n p.time name p.input) (value_first s p.input of name input it.value p.value it.means)
        ∙ ap (λ b. if b then Err (fault.Twice n name) else Ok event) new

    pub judged_plain : judged s strict had last n line ≡ Ok (Some event)
    judged_plain =
        let len : length line ≤ MOST_LINE_BYTES = subst (λ (m : ℕ). m ≤ MOST_LINE_BYTES) it.len short in
        ap (λ b. if b then Err (fault.LineTooLong n) else judged_content s strict had last n (content line)) (le-ltb MOST_LINE_BYTES (length line) len)
        ∙ ap (λ b. if b then Ok None else as_read (formed s strict had last n (parts_of (content line)))) (form_says line parts form)
        ∙ ap (λ o. as_read (formed s strict had last n o)) (form_parts line parts form)
        ∙ ap as_read said_is

-- the input that was found has the name and the type that were read
pub named_input : (s : System) (i : ℕ) (of : ScalarType) (name : List ℕ) → HasPlainInput s i → ((e : Equation) → equation s i ≡ Some e → e.name ≡ Some name) → ((e : Equation) → equation s i ≡ Some e → e.of ≡ value_type.Scalar of) → IsPlainInput s i of name
named_input s i of name (type, found, it) named typed =
    let e = it.at in
    record {
      at = e;
      is = it.is;
      input = record { input = it.input.input; typed = typed e it.is; named = named e it.is; spelled = ap is_name (sym (same_Some found name (sym it.input.named ∙ named e it.is))) ∙ it.input.spelled };
      called = ap (input_called s) (sym (same_Some found name (sym it.input.named ∙ named e it.is))) ∙ it.called;
    }

-- no input had an event at a later time
none_had : (last : Option ℕ) (seen : List ℕ) (t i : ℕ) → is_later last t ≡ true → had_now last seen t i ≡ false
none_had None seen t i later = refl
none_had (Some last) seen t i later =
    let lt = ltb-true last t later in
    let other : last ≡ t → ⊥ = λ same. omega arith in
    ap (λ b. b && is_among seen i) (ne_eqb last t other)

-- nor is it before the last one
not_back : (last : Option ℕ) (t : ℕ) → is_later last t ≡ true → or_zero last ≤ t
not_back None t later = omega arith
not_back (Some last) t later = let lt = ltb-true last t later in omega arith

stands_plain : (r : Reader) (of : ScalarType) (name : List ℕ) (p : PlainLine) → IsPlain of name r.unread p → IsPlainInput r.system p.input of name → is_long p.len ≡ false → is_later r.last p.time ≡ true → StandsPlain r p
stands_plain r of name p it input short later =
    let spelled = input.input.spelled in
    record {
      line = first_plain of name r.unread p it spelled (last_counts r);
      within = plain_within of name r.unread p it spelled;
      some = plain_some of name r.unread p it spelled;
      judged =
          ap (judged r.system r.strict (had_now r.last r.seen) (or_zero r.last) (r.count + 1)) (taken of name r.unread p it spelled)
          ∙ judged_plain of name r.unread p it spelled r.system r.strict (had_now r.last r.seen) (or_zero r.last) (r.count + 1) input (ltb-false MOST_LINE_BYTES p.len short) (not_back r.last p.time later)
          (none_had r.last r.seen p.time p.input later);
    }

pub if_stands : (r : Reader) (read : PlainLine) (o : Option PlainLine) → IsPlainOf r.system r.unread read →
    IfSome o (λ (p : PlainLine). (p ≡ read) × (is_long p.len ≡ false) × IsTrue (is_later r.last p.time)) → IfSome o (StandsPlain r)
if_stands r read None it later = tt
if_stands r read (Some p) it (same, short, later) =
    let is = subst (IsPlainOf r.system r.unread) (sym same) it in
    stands_plain r is.of is.name p is.line is.input short later

-- what begins with a digit is not skipped
digit_says : (b : ℕ) (bytes : List ℕ) → is_ascii_digit b ≡ true → says_nothing (content (b ∷ bytes)) ≡ false
digit_says b bytes is =
    let no_blank : is_blank b ≡ false = λ k. not_mark is_ascii_digit b 32 is refl k || not_mark is_ascii_digit b 9 is refl k in
    let no_end_blank : is_end_blank b ≡ false = λ k. no_blank k || not_mark is_ascii_digit b 13 is refl k in
    ap (λ bs. says_nothing (without_front is_blank bs)) (end_following is_end_blank [] b bytes no_end_blank)
    ∙ ap says_nothing (front_kept is_blank b (without_end is_end_blank bytes) no_blank)
    ∙ says_digit b (without_end is_end_blank bytes) is

digit_kept : (b : ℕ) (bytes first : List ℕ) → is_ascii_digit b ≡ true → b ∷ bytes ≡ first → is_skipped first ≡ false
digit_kept b bytes first is same = ap is_skipped (sym same) ∙ either (is_long (length (b ∷ bytes))) (digit_says b bytes is)
  where
    either : (long : Bool) {says : Bool} → says ≡ false → (if long then false else says) ≡ false
    either true it = refl
    either false it = it

pub digit_stops : (bytes : List ℕ) (ended : Bool) → begins_with_digit bytes ≡ true → StopsAtLine bytes ended
digit_stops [] ended is = absurd (cc)
digit_stops (b ∷ bytes) ended is = λ front rest first. by (split_once 10 bytes) front rest (sym (ap (λ o. option_or o (if ended then alone (b ∷ bytes) else None)) splits_later) ∙ first)
  where
    splits_later : split_once 10 (b ∷ bytes) ≡ option_map (put_first b) (split_once 10 bytes)
    splits_later = ap (λ t. if t then Some ([], bytes) else option_map (put_first b) (split_once 10 bytes)) (not_mark is_ascii_digit b 10 is refl)

    alone_by : (counts : Bool) (front rest : List ℕ) → (if counts then alone (b ∷ bytes) else None) ≡ Some (front, rest) → b ∷ bytes ≡ front
    alone_by true front rest same = ap (λ (q : List ℕ × List ℕ). q.0) (same_Some (b ∷ bytes, []) (front, rest) same)
    alone_by false front rest same = absurd (cc)

    by : (o : Option (List ℕ × List ℕ)) (front rest : List ℕ) → option_or (option_map (put_first b) o) (if ended then alone (b ∷ bytes) else None) ≡ Some (front, rest) → is_skipped front ≡ false
    by None front rest same = digit_kept b bytes front is (alone_by ended front rest same)
    by (Some q) front rest same = digit_kept b q.0 front is (ap (λ (p : List ℕ × List ℕ). p.0) (same_Some (b ∷ q.0, q.1) (front, rest) same))

-- Digits that are read one by one.
pub record HasRead (bytes : List ℕ) (number : ℕ) (rest : List ℕ) : Type 0 where
  pub digits : List ℕ
  pub all : list_all is_ascii_digit digits ≡ true
  pub value : digits_value 10 digits ≡ number
  pub is : bytes ≡ digits ++ rest

pub none_read : (bytes : List ℕ) → HasRead bytes 0 bytes
none_read bytes = record { digits = []; all = refl; value = refl; is = refl }

pub digit_is : (d : ℕ) → is_ascii_digit d ≡ true → (digit_value d ≡ d - 48) × (d ≤ 57)
digit_is d is =
    let parts = and_parts (nat_le 48 d) (nat_le d 57) is in
    let low = leb-true 48 d parts.0 in
    let high = leb-true d 57 parts.1 in
    let same = digit_value_digit d (low, high) in
    (omega arith, high)

pub one_read : (bytes : List ℕ) (number : ℕ) (rest : List ℕ) (digit added : ℕ) (others : List ℕ) → HasRead bytes number rest → rest ≡ digit ∷ others → is_ascii_digit digit ≡ true → added ≡ digit - 48 →
    HasRead bytes (number * 10 + added) others
one_read bytes number rest digit added others it is passes value = record {
  digits = it.digits ++ digit ∷ [];
  all = all_joined is_ascii_digit it.digits (digit ∷ []) it.all (λ k. passes k && true);
  value = digits_value_push 10 it.digits digit ∙ λ k. it.value k * 10 + ((digit_is digit passes).0 ∙ sym value) k;
  is = it.is ∙ ap (λ bs. it.digits ++ bs) is ∙ sym (append_assoc it.digits (digit ∷ []) others);
}

read_digits : (digits bytes rest : List ℕ) → bytes ≡ digits ++ rest → length rest < length bytes → list_all is_ascii_digit digits ≡ true → are_digits digits ≡ true
read_digits [] bytes rest is fewer all = let same = ap length is in absurd (omega arith)
read_digits (d ∷ digits) bytes rest is fewer all = let none : length (d ∷ digits) ≡ 0 → ⊥ = λ same. omega arith in λ k. not (ne_eqb (length (d ∷ digits)) 0 none k) && all k

-- as many digits spell a small number
all_digits : (ds : List ℕ) → list_all is_ascii_digit ds ≡ true → AllDigits 10 ds
all_digits [] all = tt
all_digits (d ∷ ds) all =
    let parts = and_parts (is_ascii_digit d) (list_all is_ascii_digit ds) all in
    let is = digit_is d parts.0 in
    (let value = is.0 in let high = is.1 in omega arith, all_digits ds parts.1)

pub few_read : (k : ℕ) (bytes : List ℕ) (number : ℕ) (rest : List ℕ) → HasRead bytes number rest → length bytes ≤ k + length rest → number < 10 ^ k
few_read k bytes number rest it few =
    let size : length bytes ≡ length it.digits + length rest = ap length it.is ∙ length-append it.digits rest in
    let below = digits_value-lt 10 it.digits (all_digits it.digits it.all) in
    let value = it.value in
    let high = pow-le-pow_right {n = 10} (omega arith) (let fits : length it.digits ≤ k = omega arith in fits) in
    omega (arith, below, high)

-- the number at the front of the first bytes is at the front of all
pub number_after : (m count : ℕ) (bytes : List ℕ) (number : ℕ) (rest : List ℕ) → HasRead (take m bytes) number rest → count ≡ length (take m bytes) - length rest → count ≢ 0 → BeginsWithNumber bytes number (take (length bytes - count) (drop count bytes))
number_after m count bytes number rest it is some =
    let size : length (take m bytes) ≡ length it.digits + length rest = ap length it.is ∙ length-append it.digits rest in
    let each : count ≡ length it.digits = omega arith in
    let whole : bytes ≡ it.digits ++ (rest ++ drop m bytes) = sym (take-append-drop m bytes) ∙ ap (λ bs. bs ++ drop m bytes) it.is ∙ append_assoc it.digits rest (drop m bytes) in
    let dropped : drop count bytes ≡ rest ++ drop m bytes = (λ k. drop (each k) (whole k)) ∙ drop-append_seam it.digits (rest ++ drop m bytes) in
    let after : take (length bytes - count) (drop count bytes) ≡ rest ++ drop m bytes = take_all (length bytes - count) (drop count bytes) (let long = length-drop count bytes in omega arith) ∙ dropped in
    record {
      digits = it.digits;
      are = read_digits it.digits (take m bytes) rest it.is (omega arith) it.all;
      value = it.value;
      is = whole ∙ ap (λ bs. it.digits ++ bs) (sym after);
    }

int_means : (ds : List ℕ) → begins_with_minus ds ≡ false → are_digits ds ≡ true → digits_value 10 ds < 2 ^ 63 → int_literal ds ≡ Ok (scalar.Int (pos (digits_value 10 ds)))
int_means ds plain are small =
    let n = digits_value 10 ds in
    (λ k. if not (are_digits (if plain k then drop 1 ds else ds)) then Err BadLiteral
    else (if is_int (if plain k then neg_ℤ (pos (digits_value 10 (drop 1 ds))) else pos n) then Ok (scalar.Int (if plain k then neg_ℤ (pos (digits_value 10 (drop 1 ds))) else pos n)) else Err LiteralTooWide))
    ∙ (λ k. if not (are k) then Err BadLiteral else (if (is_int-pos n ∙ lt-ltb n (2 ^ 63) small) k then Ok (scalar.Int (pos n)) else Err LiteralTooWide))

minus_means : (ds : List ℕ) → are_digits ds ≡ true → digits_value 10 ds < 2 ^ 63 → int_literal (45 ∷ ds) ≡ Ok (scalar.Int (neg_ℤ (pos (digits_value 10 ds))))
minus_means ds are small =
    let n = digits_value 10 ds in
    let most : n ≤ 2 ^ 63 = omega arith in
    λ k. if not (are k) then Err BadLiteral else (if (is_int-neg n ∙ le-leb n (2 ^ 63) most) k then Ok (scalar.Int (neg_ℤ (pos n))) else Err LiteralTooWide)

pub int_read : (bytes : List ℕ) (number : ℕ) (rest : List ℕ) → BeginsWithNumber bytes number rest → number < 2 ^ 63 → BeginsWithInt bytes (scalar.Int (pos number)) rest
int_read bytes number rest it small = record {
  written = it.digits;
  all = all_weaker is_ascii_digit is_of_int it.digits (λ b is. ap (λ t. t || (b == 45)) is) (are_digits-parts it.digits it.are).1;
  means =
      let value = it.value in
      int_means it.digits (begins_with_minus-digits it.digits (are_digits-parts it.digits it.are).1) it.are (omega arith) ∙ ap (λ n. Ok (scalar.Int (pos n))) it.value;
  is = it.is;
}

pub minus_read : (bytes : List ℕ) (number : ℕ) (rest : List ℕ) → BeginsWithNumber bytes number rest → number < 2 ^ 63 → BeginsWithInt (45 ∷ bytes) (scalar.Int (neg_ℤ (pos number))) rest
minus_read bytes number rest it small = record {
  written = 45 ∷ it.digits;
  all = all_weaker is_ascii_digit is_of_int it.digits (λ b is. ap (λ t. t || (b == 45)) is) (are_digits-parts it.digits it.are).1;
  means = let value = it.value in minus_means it.digits it.are (omega arith) ∙ ap (λ n. Ok (scalar.Int (neg_ℤ (pos n)))) it.value;
  is = ap (λ bs. 45 ∷ bs) it.is;
}

-- a number is such a value
pub int_value : (bytes : List ℕ) (value : Scalar) (rest : List ℕ) → BeginsWithInt bytes value rest → BeginsWithValue scalar_type.Int bytes value rest
unfolding literal
int_value bytes value rest it = record {
  written = it.written;
  whole = of_int_whole it.written (int_some it.written value it.means) it.all;
  one_line = without_mark is_of_int it.written refl it.all;
  means = it.means;
  is = it.is;
}

-- a literal up to the line's end is one as well
none_marked : (k : ℕ) (bytes : List ℕ) → ((j : ℕ) → j < k → (get_or bytes j 0 == 10) ≡ false) → list_all no_end (take k bytes) ≡ true
none_marked zero bytes none = refl
none_marked (suc k) [] none = refl
none_marked (suc k) (b ∷ bytes) none = λ i. not (none 0 (omega arith) i) && none_marked k bytes (λ j low. none (suc j) (omega arith)) i

ok_of : {E : Type 0} (r : Result Scalar E) (value : Scalar) → Some value ≡ result_ok r → r ≡ Ok value
ok_of (Ok v) value is = ap Ok (sym (same_Some value v is))
ok_of (Err e) value is = absurd (cc)

pub literal_value : (of : ScalarType) (bytes : List ℕ) (len : ℕ) (value : Scalar) → Some len ≡ position (λ b. b == 10) bytes → IsWhole (take len bytes) → Some value ≡ result_ok (literal of (take len bytes)) →
    BeginsWithValue of bytes value (take (length bytes - len) (drop len bytes))
literal_value of bytes len value at whole means =
    let found = position-Some (λ b. b == 10) bytes len 0 (sym at) in
    record {
      written = take len bytes;
      whole = whole;
      one_line = none_marked len bytes found.2;
      means = ok_of (literal of (take len bytes)) value means;
      is = sym (ap (λ rest. take len bytes ++ rest) (take_all (length bytes - len) (drop len bytes) (let long = length-drop len bytes in omega arith)) ∙ take-append-drop len bytes);
    }

-- what stands after a name
pub tail_read : (of : ScalarType) (bytes : List ℕ) (value : Scalar) (after rest : List ℕ) → bytes ≡ codes " = " ++ after → BeginsWithValue of after value rest → BeginsWithTail of bytes value rest
tail_read of bytes value after rest equals it = record {
  written = Some it.written;
  whole = it.whole;
  one_line = it.one_line;
  means = ap result_ok it.means;
  is = equals ∙ ap (λ bs. codes " = " ++ bs) it.is;
}

pub tail_if : {A : Type 0} (of : ScalarType) (bytes after : List ℕ) (value_in : A → Scalar) (rest_in : A → List ℕ) (o : Option A) → bytes ≡ codes " = " ++ after → IfSome o (λ r. BeginsWithValue of after (value_in r) (rest_in r)) → IfSome o (λ r. BeginsWithTail of bytes (value_in r) (rest_in r))
tail_if of bytes after value_in rest_in None equals it = tt
tail_if of bytes after value_in rest_in (Some r) equals it = tail_read of bytes (value_in r) after (rest_in r) equals it

pub no_tail : (bytes : List ℕ) → BeginsWithTail scalar_type.Unit bytes scalar.Unit bytes
no_tail bytes = record { written = None; whole = tt; one_line = refl; means = refl; is = refl }

-- A whole line.
pub line_read : (of : ScalarType) (name bytes after rest end more : List ℕ) (time input : ℕ) (value : Scalar) → BeginsWithNumber bytes time after → after ≡ codes ": " ++ (name ++ rest) → BeginsWithTail of rest value end →
    end ≡ codes "\n" ++ more → time < 2 ^ 63 → IsPlain of name bytes (record { time = time; input = input; value = value; len = length bytes - length end })
line_read of name bytes after rest end more time input value at named it ends small =
    let tail = tail_of it.written in
    let whole : bytes ≡ plain at.digits name tail ++ 10 ∷ more =
    at.is ∙ ap (λ bs. at.digits ++ bs) (named ∙ ap (λ bs. codes ": " ++ (name ++ bs)) (it.is ∙ ap (λ bs. tail ++ bs) ends))
    ∙ sym (append_assoc at.digits (codes ": " ++ (name ++ tail)) (10 ∷ more)
    ∙ ap (λ bs. at.digits ++ (codes ": " ++ bs)) (append_assoc name tail (10 ∷ more))) in
    let both = ap length whole ∙ length-append (plain at.digits name tail) (10 ∷ more) in
    let final = ap length ends in
    record {
      time = at.digits;
      value = it.written;
      rest = more;
      digits = at.are;
      time_is = at.value;
      small = small;
      whole = it.whole;
      one_line = it.one_line;
      means = it.means;
      is = whole;
      len = omega arith;
    }
