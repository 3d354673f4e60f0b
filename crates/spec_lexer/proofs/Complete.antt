-- What stands in front of some characters is found there.
use Rattle.std.proofs.Common.{◌≡◌, ◌≢◌, ℕ, ◌+◌, ◌<◌, ◌^◌, ◌&&◌, ◌||◌, Bool, true, false, List, [], ◌∷◌, ◌++◌, length, take, refl, sym, ap, subst, ◌∙◌, arith, Option, Some, None, Result, Ok, Err, inl, inr, append_assoc, length-append, lit<}
use Rattle.std.specs.Option.{option_map_or}
use Rattle.std.specs.List.{list_all, prefix_len}
use Rattle.std.specs.Char.{is_ascii_digit, is_ascii_alphabetic}
use Rattle.std.specs.Cmp.Derive.{both_true}
use Rattle.std.specs.Prelude.{◌==◌, nat_lt, encode_utf8, encode_utf8_all, if◌then◌else◌}
use Rattle.std.specs.Str.Parse.{digits_value}
use Rattle.std.proofs.lemmas.Bool.{eqb-true, lt-ltb, le-ltb, and_parts}
use Rattle.std.proofs.lemmas.List.{append-nil}
use Rattle.std.proofs.Math.Seq.{take-append_seam}
use Rattle.unicode_ident.specs.Ident.{is_xid_continue}
use Rattle.unicode_ident.proofs.IdentLemmas.{is_xid_start-ascii}
use Rattle.tsl_value.specs.declared.place.Place.{Place}
use Rattle.tsl_value.specs.declared.limits.TheConstants.{MOST_TEXT_BYTES}
use Rattle.spec_lexer.specs.declared.fault.LexFault.{LexFault}
use Rattle.spec_lexer.specs.declared.fault.LexFault.TheVariants.{BadCharacter, OpenText, BadEscape}
use Rattle.spec_lexer.specs.declared.piece.Piece.{Piece}
use Rattle.spec_lexer.specs.declared.piece.Piece.TheVariants.{Blank, LineEnd, Made}
use Rattle.spec_lexer.specs.declared.token.TokenKind.{TokenKind}
use Rattle.spec_lexer.specs.declared.token.TokenKind.TheVariants as kind
use Rattle.spec_lexer.specs.declared.token.Word.{Word}
use Rattle.spec_lexer.specs.declared.token.Symbol.{Symbol}
use Rattle.spec_lexer.specs.declared.token.Symbol.TheVariants as symbol
use Rattle.spec_lexer.specs.Spelling.{is_blank, is_within_line, begins_name, word_spelling, symbol_spelling, is_plain, escaped}
use Rattle.spec_lexer.specs.Pieces.{IsRun, IsSkipped, blank, line_end, hash, dashes, IsName, IsNumber, IsSymbol, Means, nothing, plain, escape, quoted, Makes, word as a_word, name as a_name, number as a_number, text as a_text, symbol as a_symbol, EndsLine, at_end, at_line_end, at_last_backslash, BeginsNothing, IsWrong, bad_character, name_too_long, literal_too_wide, open_text, bad_escape, text_too_long}
use Rattle.spec_lexer.specs.Found.{word_of, name_as, name_found, number_as, number_found, text_as, text_found, pair_of, single_of, symbol_as, symbol_found, next_of, begins_comment, found}
use Rattle.spec_lexer.proofs.Choices.{not_true, no_such, one_passes}
use Rattle.spec_lexer.proofs.Places.{place_after-within}
use Rattle.spec_lexer.proofs.Runs.{prefix_len-run}
use Rattle.spec_lexer.proofs.Sound.{means_within}
use Rattle.spec_lexer.proofs.Symbols.{pair_of-spells, single_of-spells, SymbolLength, shape, double, single, symbol_character, symbol_characters, no_nul}
use Rattle.spec_lexer.proofs.Words.{word_of-spells, word_of-word_spelling, words_are_short}
use Rattle.spec_lexer.specs.declared.limits.TheConstants.{MOST_NAME_BYTES}

-- a piece of so many characters is found, a token of this kind or none
abbrev pub Reads : Result Piece LexFault → ℕ → Option TokenKind → Type 0
Reads (Ok (Blank m)) n None = m ≡ n
Reads (Ok (Blank m)) n (Some k) = ⊥
Reads (Ok LineEnd) n None = 1 ≡ n
Reads (Ok LineEnd) n (Some k) = ⊥
Reads (Ok (Made l m)) n None = ⊥
Reads (Ok (Made l m)) n (Some k) = (m ≡ n) × (l ≡ k)
Reads (Err e) n o = ⊥

abbrev pub ReadsFront : Place → List ℕ → ℕ → Option TokenKind → Type 0
ReadsFront at [] n o = ⊥
ReadsFront at (c ∷ cs) n o = Reads (found at c cs) n o

abbrev pub FailsFront : Place → List ℕ → LexFault → Type 0
FailsFront at [] e = ⊥
FailsFront at (c ∷ cs) e = found at c cs ≡ Err e

first_choice : {A : Type 0} (b : Bool) (x y : A) → b ≡ true → (if b then x else y) ≡ x
first_choice b x y h = ap (λ b. if b then x else y) h

second_choice : {A : Type 0} (b : Bool) (x y : A) → b ≡ false → (if b then x else y) ≡ y
second_choice b x y h = ap (λ b. if b then x else y) h

-- ---- the class of the first character
no_name : (k : ℕ) → k < 128 → is_ascii_alphabetic k ≡ false → (k == 95) ≡ false → begins_name k ≡ false
no_name k low no_letter no_underscore = λ i. (is_xid_start-ascii k low ∙ no_letter) i || no_underscore i

no_blank : (p : ℕ → Bool) → p 32 ≡ false → p 9 ≡ false → p 13 ≡ false → (c : ℕ) → p c ≡ true → is_blank c ≡ false
no_blank p a b d c h = λ i. (no_such p 32 a c h i || no_such p 9 b c h i) || no_such p 13 d c h i

no_comment : (p : ℕ → Bool) → p 35 ≡ false → p 45 ≡ false → (c next : ℕ) → p c ≡ true → begins_comment c next ≡ false
no_comment p a b c next h = λ i. no_such p 35 a c h i || (no_such p 45 b c h i && next == 45)

pub digit_low : (c : ℕ) → is_ascii_digit c ≡ true → c < 128
digit_low c h = grind arith

digit_no_letter : (c : ℕ) → is_ascii_digit c ≡ true → is_ascii_alphabetic c ≡ false
digit_no_letter c h = grind arith

pub symbol_low : (c : ℕ) → symbol_character c ≡ true → c < 128
symbol_low c h = grind arith

symbol_no_letter : (c : ℕ) → symbol_character c ≡ true → is_ascii_alphabetic c ≡ false
symbol_no_letter c h = grind arith

symbol_no_digit : (c : ℕ) → symbol_character c ≡ true → is_ascii_digit c ≡ false
symbol_no_digit c h = grind arith

module _ (at : Place) (c : ℕ) (cs : List ℕ) where
  found-blank : is_blank c ≡ true → found at c cs ≡ Ok (Blank 1)
  unfolding found
  found-blank h = second_choice (c == 10) _ _ (no_such is_blank 10 refl c h) ∙ first_choice (is_blank c) _ _ h

  found-name : begins_name c ≡ true → found at c cs ≡ name_found at (c ∷ cs) (1 + prefix_len is_xid_continue cs)
  unfolding found
  found-name h =
      second_choice (c == 10) _ _ (no_such begins_name 10 (no_name 10 (lit< tt) refl refl) c h)
      ∙ second_choice (is_blank c) _ _ (no_blank begins_name (no_name 32 (lit< tt) refl refl) (no_name 9 (lit< tt) refl refl) (no_name 13 (lit< tt) refl refl) c h)
      ∙ second_choice (begins_comment c (next_of cs)) _ _ (no_comment begins_name (no_name 35 (lit< tt) refl refl) (no_name 45 (lit< tt) refl refl) c (next_of cs) h)
      ∙ first_choice (begins_name c) _ _ h

  found-number : is_ascii_digit c ≡ true → found at c cs ≡ number_found at (c ∷ cs) (1 + prefix_len is_ascii_digit cs)
  unfolding found
  found-number h =
      second_choice (c == 10) _ _ (no_such is_ascii_digit 10 refl c h)
      ∙ second_choice (is_blank c) _ _ (no_blank is_ascii_digit refl refl refl c h)
      ∙ second_choice (begins_comment c (next_of cs)) _ _ (no_comment is_ascii_digit refl refl c (next_of cs) h)
      ∙ second_choice (begins_name c) _ _ (no_name c (digit_low c h) (digit_no_letter c h) (no_such is_ascii_digit 95 refl c h))
      ∙ first_choice (is_ascii_digit c) _ _ h

  found-else : (c == 10) ≡ false → is_blank c ≡ false → begins_comment c (next_of cs) ≡ false → begins_name c ≡ false → is_ascii_digit c ≡ false → (c == 34) ≡ false → found at c cs ≡ symbol_found at c (next_of cs)
  unfolding found
  found-else no_end no_blank no_comment no_name no_digit no_quote =
      second_choice (c == 10) _ _ no_end ∙ second_choice (is_blank c) _ _ no_blank ∙ second_choice (begins_comment c (next_of cs)) _ _ no_comment
      ∙ second_choice (begins_name c) _ _ no_name ∙ second_choice (is_ascii_digit c) _ _ no_digit ∙ second_choice (c == 34) _ _ no_quote

  found-symbol : symbol_character c ≡ true → begins_comment c (next_of cs) ≡ false → found at c cs ≡ symbol_found at c (next_of cs)
  found-symbol h no_comment =
      found-else (no_such symbol_character 10 refl c h) (no_blank symbol_character refl refl refl c h) no_comment
      (no_name c (symbol_low c h) (symbol_no_letter c h) (no_such symbol_character 95 refl c h)) (symbol_no_digit c h) (no_such symbol_character 34 refl c h)

found-text : (at : Place) (cs : List ℕ) → found at 34 cs ≡ text_found at 1 [] false cs
unfolding found
found-text at cs = second_choice (begins_name 34) _ _ (no_name 34 (lit< tt) refl refl)

found-hash : (at : Place) (cs : List ℕ) → found at 35 cs ≡ Ok (Blank (1 + prefix_len is_within_line cs))
unfolding found
found-hash at cs = refl

found-dashes : (at : Place) (cs : List ℕ) → found at 45 (45 ∷ cs) ≡ Ok (Blank (1 + (1 + prefix_len is_within_line cs)))
unfolding found
found-dashes at cs = refl

found-line_end : (at : Place) (cs : List ℕ) → found at 10 cs ≡ Ok LineEnd
unfolding found
found-line_end at cs = refl

reads_by : {r s : Result Piece LexFault} (n : ℕ) (o : Option TokenKind) → r ≡ s → Reads s n o → Reads r n o
reads_by n o is h = subst (λ r. Reads r n o) (sym is) h

-- ---- blanks and comments
pub skip_reads : (at : Place) {front rest : List ℕ} → IsSkipped front rest → ReadsFront at (front ++ rest) (length front) None
skip_reads at (blank {c = c} {rest = rest} h) = reads_by 1 None (found-blank at c rest h) refl
skip_reads at (line_end {rest = rest}) = reads_by 1 None (found-line_end at rest) refl
skip_reads at (hash {comment = comment} {rest = rest} run) =
    let size = prefix_len-run is_within_line comment rest run.all_pass run.stops in
    reads_by (length (35 ∷ comment)) None (found-hash at (comment ++ rest)) (omega (arith, size))
skip_reads at (dashes {comment = comment} {rest = rest} run) =
    let size = prefix_len-run is_within_line comment rest run.all_pass run.stops in
    reads_by (length (45 ∷ 45 ∷ comment)) None (found-dashes at (comment ++ rest)) (omega (arith, size))

-- ---- names and numbers
run_front : (p : ℕ → Bool) (first : ℕ) (more rest : List ℕ) → IsRun p more rest → take (1 + prefix_len p (more ++ rest)) (first ∷ (more ++ rest)) ≡ first ∷ more
run_front p first more rest run =
    let size : 1 + prefix_len p (more ++ rest) ≡ length (first ∷ more) = omega (arith, prefix_len-run p more rest run.all_pass run.stops) in
    ap (λ n. take n (first ∷ (more ++ rest))) size ∙ take-append_seam (first ∷ more) rest

run_size : (p : ℕ → Bool) (first : ℕ) (more rest : List ℕ) → IsRun p more rest → 1 + prefix_len p (more ++ rest) ≡ length (first ∷ more)
run_size p first more rest run = omega (arith, prefix_len-run p more rest run.all_pass run.stops)

module _ (at : Place) (first : ℕ) (more rest : List ℕ) where
  name_reads : IsName first more rest → found at first (more ++ rest) ≡ name_as at (word_of (encode_utf8_all (first ∷ more))) (encode_utf8_all (first ∷ more)) (length (first ∷ more))
  unfolding name_found
  name_reads named = found-name at first (more ++ rest) named.begins ∙ (λ i. name_as at (word_of (encode_utf8_all (run_front is_xid_continue first more rest named.run i))) (encode_utf8_all (run_front is_xid_continue first more rest named.run i)) (run_size is_xid_continue first more rest named.run i))

  number_reads : IsNumber first more rest → found at first (more ++ rest) ≡ number_as at (digits_value 10 (first ∷ more)) (length (first ∷ more))
  unfolding number_found
  number_reads number = found-number at first (more ++ rest) number.begins ∙ (λ i. number_as at (digits_value 10 (run_front is_ascii_digit first more rest number.run i)) (run_size is_ascii_digit first more rest number.run i))

no_words : (name : List ℕ) → ((w : Word) → name ≢ word_spelling w) → word_of name ≡ None
no_words name none = at_most (word_of name) refl
  where
    at_most : (o : Option Word) → word_of name ≡ o → word_of name ≡ None
    at_most None is = is
    at_most (Some w) is = absurd (none w (word_of-spells name w is))

long_no_word : (name : List ℕ) → MOST_NAME_BYTES < length name → (w : Word) → name ≢ word_spelling w
long_no_word name long w is = let size = ap length is in absurd (omega (arith, size, words_are_short w))

-- ---- texts
plain_parts : (c : ℕ) → is_plain c ≡ true → ((c == 34) ≡ false) × ((c == 10) ≡ false) × ((c == 92) ≡ false)
plain_parts c h = (no_such is_plain 34 refl c h, no_such is_plain 10 refl c h, no_such is_plain 92 refl c h)

text_reads : (at : Place) {written meant : List ℕ} → Means written meant → (n : ℕ) (bytes rest : List ℕ) → text_found at n bytes false (written ++ rest) ≡ text_found at (n + length written) (bytes ++ encode_utf8_all meant) false rest
unfolding text_found
text_reads at nothing n bytes rest = let same : n ≡ n + 0 = omega arith in λ i. text_found at (same i) (sym (append-nil bytes) i) false rest
text_reads at (plain {c = c} {written = written} {meant = meant} h m) n bytes rest =
    let parts = plain_parts c h in
    let size : (n + 1) + length written ≡ n + length (c ∷ written) = omega arith in
    second_choice (c == 34) _ _ parts.0 ∙ second_choice (c == 10) _ _ parts.1 ∙ second_choice (c == 92) _ _ parts.2
    ∙ text_reads at m (n + 1) (bytes ++ encode_utf8 c) rest
    ∙ (λ i. text_found at (size i) (append_assoc bytes (encode_utf8 c) (encode_utf8_all meant) i) false rest)
text_reads at (escape {c = c} {d = d} {written = written} {meant = meant} h m) n bytes rest =
    let size : (n + 2) + length written ≡ n + length (92 ∷ c ∷ written) = omega arith in
    ap (λ o. option_map_or (λ d. text_found at (n + 2) (bytes ++ encode_utf8 d) false (written ++ rest)) o (Err (BadEscape (record at { column = at.column + n })))) h
    ∙ text_reads at m (n + 2) (bytes ++ encode_utf8 d) rest
    ∙ (λ i. text_found at (size i) (append_assoc bytes (encode_utf8 d) (encode_utf8_all meant) i) false rest)

open_reads : (at : Place) {written meant : List ℕ} → Means written meant → (rest : List ℕ) → found at 34 (written ++ rest) ≡ text_found at (1 + length written) (encode_utf8_all meant) false rest
open_reads at {written = written} {meant = meant} m rest = found-text at (written ++ rest) ∙ text_reads at m 1 [] rest

closed_reads : (at : Place) {written meant : List ℕ} → Means written meant → (rest : List ℕ) → found at 34 ((written ++ 34 ∷ []) ++ rest) ≡ text_as at (encode_utf8_all meant) (length (quoted written))
unfolding text_found
closed_reads at {written = written} {meant = meant} m rest =
    let size : (1 + length written) + 1 ≡ length (quoted written) = omega (arith, length-append written (34 ∷ [])) in
    ap (found at 34) (append_assoc written (34 ∷ []) rest) ∙ open_reads at m (34 ∷ rest) ∙ ap (text_as at (encode_utf8_all meant)) size

-- ---- symbols
comment_needs : (c next : ℕ) → symbol_character c ≡ true → (c ≡ 45 → next ≡ 45 → ⊥) → begins_comment c next ≡ false
comment_needs c next h never = not_true (begins_comment c next) (λ is. elim (one_passes (c == 35) (c == 45 && next == 45) is) [
  | inl a ↦ let clash = sym a ∙ no_such symbol_character 35 refl c h in cc
  | inr b ↦ let parts = and_parts (c == 45) (next == 45) b in never (eqb-true c 45 parts.0) (eqb-true next 45 parts.1)
])

-- a symbol of two characters in front, where the second is what follows the first
pair_in_front : (c : ℕ) (rest : List ℕ) (t : Symbol) → pair_of c (next_of rest) ≡ Some t → (more : List ℕ) × (c ∷ rest ≡ symbol_spelling t ++ more) × (length (symbol_spelling t) ≡ 2)
pair_in_front c [] t is = absurd (no_nul t c (pair_of-spells c 0 t is))
pair_in_front c (d ∷ ds) t is = let spelled = pair_of-spells c d t is in (ds, ap (λ f. f ++ ds) (sym spelled), ap length spelled)

no_pair_where : (c : ℕ) (rest : List ℕ) → ((t : Symbol) (more : List ℕ) → c ∷ rest ≡ symbol_spelling t ++ more → length (symbol_spelling t) ≡ 2 → ⊥) → pair_of c (next_of rest) ≡ None
no_pair_where c rest never = at_most (pair_of c (next_of rest)) refl
  where
    at_most : (o : Option Symbol) → pair_of c (next_of rest) ≡ o → pair_of c (next_of rest) ≡ None
    at_most None is = is
    at_most (Some t) is = let p = pair_in_front c rest t is in absurd (never t p.0 p.1 p.2)

no_single_where : (c : ℕ) (rest : List ℕ) → ((t : Symbol) (more : List ℕ) → c ∷ rest ≡ symbol_spelling t ++ more → ⊥) → single_of c ≡ None
no_single_where c rest never = at_most (single_of c) refl
  where
    at_most : (o : Option Symbol) → single_of c ≡ o → single_of c ≡ None
    at_most None is = is
    at_most (Some t) is = absurd (never t rest (ap (λ f. f ++ rest) (sym (single_of-spells c t is))))

next_is : (rest : List ℕ) → next_of rest ≡ 45 → (more : List ℕ) × (rest ≡ 45 ∷ more)
next_is [] h = cc
next_is (d ∷ ds) h = (ds, ap (λ d. d ∷ ds) h)

symbol_reads : (at : Place) (s : Symbol) (rest : List ℕ) → IsSymbol s rest → SymbolLength s → ReadsFront at (symbol_spelling s ++ rest) (length (symbol_spelling s)) (Some (kind.Symbol s))
unfolding symbol_found
symbol_reads at s rest symbol (double {k = k} {l = l} spelled is) =
    let passes = sym (ap (list_all symbol_character) spelled) ∙ symbol_characters s in
    let quiet = comment_needs k l (and_parts (symbol_character k) _ passes).0 (λ a b. symbol.no_comment rest (ap (λ f. f ++ rest) spelled ∙ (λ i. a i ∷ b i ∷ rest))) in
    subst (λ f. ReadsFront at (f ++ rest) (length f) (Some (kind.Symbol s))) (sym spelled)
    (reads_by 2 (Some (kind.Symbol s)) (found-symbol at k (l ∷ rest) (and_parts (symbol_character k) _ passes).0 quiet ∙ ap (λ o. symbol_as at o (single_of k)) is) (refl, refl))
symbol_reads at s rest symbol (single {k = k} spelled is) =
    let passes = sym (ap (list_all symbol_character) spelled) ∙ symbol_characters s in
    let quiet = comment_needs k (next_of rest) (and_parts (symbol_character k) _ passes).0 (λ a b. let n = next_is rest b in symbol.no_comment n.0 (ap (λ f. f ++ rest) spelled ∙ (λ i. a i ∷ n.1 i))) in
    let no_pairs = no_pair_where k rest (λ t more same two. let one = ap length spelled in absurd (omega (arith, one, two, symbol.longest t more (ap (λ f. f ++ rest) spelled ∙ same)))) in
    subst (λ f. ReadsFront at (f ++ rest) (length f) (Some (kind.Symbol s))) (sym spelled)
    (reads_by 1 (Some (kind.Symbol s)) (found-symbol at k rest (and_parts (symbol_character k) _ passes).0 quiet ∙ (λ i. symbol_as at (no_pairs i) (is i))) (refl, refl))

pub make_reads : (at : Place) {front rest : List ℕ} {k : TokenKind} → Makes front rest k → ReadsFront at (front ++ rest) (length front) (Some k)
make_reads at (a_word {first = first} {more = more} {rest = rest} {w = w} named is) =
    reads_by (length (first ∷ more)) (Some (kind.Word w)) (name_reads at first more rest named ∙ ap (λ o. name_as at o (encode_utf8_all (first ∷ more)) (length (first ∷ more))) (ap word_of is ∙ word_of-word_spelling w)) (refl, refl)
make_reads at (a_name {first = first} {more = more} {rest = rest} named none short) =
    reads_by (length (first ∷ more)) (Some (kind.Name (encode_utf8_all (first ∷ more))))
    (name_reads at first more rest named ∙ ap (λ o. name_as at o (encode_utf8_all (first ∷ more)) (length (first ∷ more))) (no_words (encode_utf8_all (first ∷ more)) none) ∙ second_choice (nat_lt MOST_NAME_BYTES (length (encode_utf8_all (first ∷ more)))) _ _ (le-ltb MOST_NAME_BYTES (length (encode_utf8_all (first ∷ more))) short)) (refl, refl)
make_reads at (a_number {first = first} {more = more} {rest = rest} number low) =
    reads_by (length (first ∷ more)) (Some (kind.Number (digits_value 10 (first ∷ more))))
    (number_reads at first more rest number ∙ first_choice (nat_lt (digits_value 10 (first ∷ more)) (2 ^ 63)) _ _ (lt-ltb (digits_value 10 (first ∷ more)) (2 ^ 63) low)) (refl, refl)
make_reads at (a_text {written = written} {meant = meant} {rest = rest} means short) =
    reads_by (length (quoted written)) (Some (kind.Text (encode_utf8_all meant)))
    (closed_reads at means rest ∙ second_choice (nat_lt MOST_TEXT_BYTES (length (encode_utf8_all meant))) _ _ (le-ltb MOST_TEXT_BYTES (length (encode_utf8_all meant)) short)) (refl, refl)
make_reads at (a_symbol {s = s} {rest = rest} symbol) = symbol_reads at s rest symbol (shape s)

-- ---- faults
ends_reads : (at : Place) (n : ℕ) (bytes rest : List ℕ) → EndsLine rest → text_found at n bytes false rest ≡ Err (OpenText at)
unfolding text_found
ends_reads at n bytes rest at_end = refl
ends_reads at n bytes rest at_line_end = refl
ends_reads at n bytes rest at_last_backslash = refl

escape_reads : (at : Place) (n : ℕ) (bytes rest : List ℕ) (c : ℕ) → escaped c ≡ None → text_found at n bytes false (92 ∷ c ∷ rest) ≡ Err (BadEscape (record at { column = at.column + n }))
unfolding text_found
escape_reads at n bytes rest c none = ap (λ o. option_map_or (λ d. text_found at (n + 2) (bytes ++ encode_utf8 d) false rest) o (Err (BadEscape (record at { column = at.column + n })))) none

bad_reads : (at : Place) (c : ℕ) (rest : List ℕ) → BeginsNothing c rest → found at c rest ≡ Err (BadCharacter at)
unfolding symbol_found
bad_reads at c rest none =
    let no_dash : c ≡ 45 → ⊥ = λ is. none.no_symbol symbol.Minus rest (ap (λ c. c ∷ rest) is) in
    let quiet = not_true (begins_comment c (next_of rest)) (λ h. elim (one_passes (c == 35) (c == 45 && next_of rest == 45) h) [
      | inl a ↦ none.no_hash (eqb-true c 35 a)
      | inr b ↦ no_dash (eqb-true c 45 (and_parts (c == 45) (next_of rest == 45) b).0)
    ]) in
    found-else at c rest (not_true (c == 10) (λ h. none.no_line_end (eqb-true c 10 h))) none.no_blank quiet none.no_name none.no_number (not_true (c == 34) (λ h. none.no_text (eqb-true c 34 h)))
    ∙ (λ i. symbol_as at (no_pair_where c rest (λ t more same two. none.no_symbol t more same) i) (no_single_where c rest none.no_symbol i))

pub wrong_reads : (at : Place) {front rest : List ℕ} {e : LexFault} → IsWrong at front rest e → FailsFront at (front ++ rest) e
wrong_reads at (bad_character {c = c} {rest = rest} none) = bad_reads at c rest none
wrong_reads at (name_too_long {first = first} {more = more} {rest = rest} named long) =
    name_reads at first more rest named
    ∙ ap (λ o. name_as at o (encode_utf8_all (first ∷ more)) (length (first ∷ more))) (no_words (encode_utf8_all (first ∷ more)) (long_no_word (encode_utf8_all (first ∷ more)) long))
    ∙ first_choice (nat_lt MOST_NAME_BYTES (length (encode_utf8_all (first ∷ more)))) _ _ (lt-ltb MOST_NAME_BYTES (length (encode_utf8_all (first ∷ more))) long)
wrong_reads at (literal_too_wide {first = first} {more = more} {rest = rest} number high) =
    number_reads at first more rest number ∙ second_choice (nat_lt (digits_value 10 (first ∷ more)) (2 ^ 63)) _ _ (le-ltb (digits_value 10 (first ∷ more)) (2 ^ 63) high)
wrong_reads at (open_text {written = written} {meant = meant} {rest = rest} means ends) = open_reads at means rest ∙ ends_reads at (1 + length written) (encode_utf8_all meant) rest ends
wrong_reads at (bad_escape {written = written} {meant = meant} {rest = rest} {c = c} means none) =
    let moved : at.column + (1 + length written) ≡ at.column + length (34 ∷ written) = omega arith in
    open_reads at means (92 ∷ c ∷ rest) ∙ escape_reads at (1 + length written) (encode_utf8_all meant) rest c none
    ∙ (λ i. Err (BadEscape (record { line = at.line; column = moved i })))
    ∙ ap (λ p. Err (BadEscape p)) (sym (place_after-within at (34 ∷ written) (both_true {s = true} refl (means_within means))))
wrong_reads at (text_too_long {written = written} {meant = meant} {rest = rest} means long) =
    closed_reads at means rest ∙ first_choice (nat_lt MOST_TEXT_BYTES (length (encode_utf8_all meant))) _ _ (lt-ltb MOST_TEXT_BYTES (length (encode_utf8_all meant)) long)
