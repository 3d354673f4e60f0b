-- Each token of a source is lexed again where it is printed, with a blank after it.
use Rattle.std.proofs.Common.{◌≡◌, ◌⊎◌, ℕ, ◌<◌, ◌≤◌, ◌^◌, ◌||◌, ◌&&◌, Bool, true, false, true≢false, List, [], ◌∷◌, ◌++◌, length, refl, sym, ap, subst, ◌∙◌, arith, Some, None, inl, inr, lit<}
use Rattle.std.specs.Prelude.{◌==◌, not, encode_utf8, encode_utf8_all}
use Rattle.std.specs.List.{list_all, flat_map}
use Rattle.std.specs.Char.{is_ascii_alphabetic, is_ascii_digit}
use Rattle.std.specs.Cmp.Derive.{both_true}
use Rattle.std.specs.Fmt.{decimal}
use Rattle.std.specs.Str.{all_scalars}
use Rattle.std.specs.Str.Parse.{digits_value}
use Rattle.std.proofs.lemmas.Bool.{cases_eq, cases_lt, ne_eqb, leb-true, and_parts}
use Rattle.std.proofs.lemmas.Fmt.{decimal_is_IsNumeral}
use Rattle.std.proofs.lemmas.List.{append-nil}
use Rattle.std.proofs.lemmas.Str.{encode_ascii, encodes-append}
use Rattle.std.proofs.lemmas.Grind.{flat_map-append}
use Rattle.unicode_ident.specs.Ident.{is_xid_continue}
use Rattle.unicode_ident.proofs.IdentLemmas.{is_xid_start-ascii, is_xid_continue-ascii, is_xid_start-is_xid_continue}
use Rattle.tsl_value.specs.Print.{escaped as printed, quoted_text}
use Rattle.tsl_value.proofs.Digits.{own}
use Rattle.tsl_value.proofs.Utf8.{are_high, are_high-encode}
use Rattle.tsl_value.specs.declared.limits.TheConstants.{MOST_TEXT_BYTES}
use Rattle.spec_lexer.specs.declared.token.TokenKind.{TokenKind}
use Rattle.spec_lexer.specs.declared.token.TokenKind.TheVariants as kind
use Rattle.spec_lexer.specs.declared.token.Word.{Word}
use Rattle.spec_lexer.specs.declared.token.Word.TheVariants as word
use Rattle.spec_lexer.specs.declared.token.Symbol.{Symbol}
use Rattle.spec_lexer.specs.declared.token.Symbol.TheVariants as symbol
use Rattle.spec_lexer.specs.Spelling.{is_within_line, begins_name, word_spelling, symbol_spelling, is_plain, escaped}
use Rattle.spec_lexer.specs.Pieces.{IsName, Means, nothing, plain, escape, quoted, Makes, word as a_word, name as a_name, number as a_number, text as a_text, symbol as a_symbol}
use Rattle.spec_lexer.specs.Found.{word_of}
use Rattle.spec_lexer.proofs.Choices.{no_such, tell_next}
use Rattle.spec_lexer.proofs.Sound.{means_within, all_within}
use Rattle.spec_lexer.proofs.Symbols.{shape, double, single, symbol_character, symbol_characters, spelled_within, at_most_two}
use Rattle.spec_lexer.proofs.Words.{word_of-word_spelling}
use Rattle.spec_lexer.specs.declared.limits.TheConstants.{MOST_NAME_BYTES}
use Rattle.spec_lexer.proofs.Complete.{digit_low, symbol_low}
use Rattle.spec_printer.specs.inner.Marks.{kind_text}
use lib.Utf8.{scalar, low_scalar}

pub record Printable (k : TokenKind) : Type 0 where
  pub characters : List ℕ
  pub scalars : all_scalars characters ≡ true
  pub encoded : encode_utf8_all characters ≡ kind_text k
  pub within : list_all is_within_line characters ≡ true
  pub makes : (rest : List ℕ) → Makes characters (32 ∷ rest) k

-- ---- characters of one byte
pub low_encoded : (p : ℕ → Bool) → ((c : ℕ) → p c ≡ true → c < 128) → (cs : List ℕ) → list_all p cs ≡ true → encode_utf8_all cs ≡ cs
low_encoded p low [] h = refl
low_encoded p low (c ∷ cs) h =
    let parts = and_parts (p c) (list_all p cs) h in
    ap (λ e. e ++ encode_utf8_all cs) (encode_ascii c (low c parts.0)) ∙ ap (λ l. c ∷ l) (low_encoded p low cs parts.1)

pub low_scalars : (p : ℕ → Bool) → ((c : ℕ) → p c ≡ true → c < 128) → (cs : List ℕ) → list_all p cs ≡ true → all_scalars cs ≡ true
low_scalars p low [] h = refl
low_scalars p low (c ∷ cs) h =
    let parts = and_parts (p c) (list_all p cs) h in
    let small = low c parts.0 in
    both_true (low_scalar c (omega arith)) (low_scalars p low cs parts.1)

letter_low : (c : ℕ) → is_ascii_alphabetic c ≡ true → c < 128
letter_low c h = grind arith

-- ---- names and words
no_line_end : begins_name 10 ≡ false
no_line_end = λ i. is_xid_start-ascii 10 (lit< tt) i || false

named_before_blank : {first : ℕ} {more rest : List ℕ} → IsName first more rest → (next : List ℕ) → IsName first more (32 ∷ next)
named_before_blank n next = record { begins = n.begins; run = record { all_pass = n.run.all_pass; stops = is_xid_continue-ascii 32 (lit< tt) } }

name_within : {first : ℕ} {more rest : List ℕ} → IsName first more rest → list_all is_within_line (first ∷ more) ≡ true
name_within {first = first} {more = more} n =
    both_true (ap not (no_such begins_name 10 no_line_end first n.begins)) (all_within is_xid_continue (is_xid_continue-ascii 10 (lit< tt)) more n.run.all_pass)

letters_continue : (cs : List ℕ) → list_all is_ascii_alphabetic cs ≡ true → list_all is_xid_continue cs ≡ true
letters_continue [] h = refl
letters_continue (c ∷ cs) h =
    let parts = and_parts (is_ascii_alphabetic c) (list_all is_ascii_alphabetic cs) h in
    both_true (is_xid_start-is_xid_continue c (is_xid_start-ascii c (letter_low c parts.0) ∙ parts.0)) (letters_continue cs parts.1)

letters_named : (c : ℕ) (cs : List ℕ) → list_all is_ascii_alphabetic (c ∷ cs) ≡ true → (rest : List ℕ) → IsName c cs (32 ∷ rest)
letters_named c cs h rest =
    let parts = and_parts (is_ascii_alphabetic c) (list_all is_ascii_alphabetic cs) h in
    record {
      begins = λ i. (is_xid_start-ascii c (letter_low c parts.0) ∙ parts.0) i || (c == 95);
      run = record { all_pass = letters_continue cs parts.1; stops = is_xid_continue-ascii 32 (lit< tt) };
    }

word_by : (w : Word) (c : ℕ) (cs : List ℕ) → word_spelling w ≡ c ∷ cs → list_all is_ascii_alphabetic (c ∷ cs) ≡ true → Printable (kind.Word w)
word_by w c cs is h =
    let encoded = low_encoded is_ascii_alphabetic letter_low (c ∷ cs) h ∙ sym is in
    record {
      characters = c ∷ cs;
      scalars = low_scalars is_ascii_alphabetic letter_low (c ∷ cs) h;
      encoded = encoded;
      within = all_within is_ascii_alphabetic refl (c ∷ cs) h;
      makes = λ rest. a_word (letters_named c cs h rest) encoded;
    }

pub word_printable : (w : Word) → Printable (kind.Word w)
word_printable word.In = word_by word.In _ _ refl refl
word_printable word.Def = word_by word.Def _ _ refl refl
word_printable word.Out = word_by word.Out _ _ refl refl
word_printable word.As = word_by word.As _ _ refl refl
word_printable word.If = word_by word.If _ _ refl refl
word_printable word.Then = word_by word.Then _ _ refl refl
word_printable word.Else = word_by word.Else _ _ refl refl
word_printable word.True = word_by word.True _ _ refl refl
word_printable word.False = word_by word.False _ _ refl refl

-- names of letters that are no words
pub known_printable : (c : ℕ) (cs : List ℕ) → list_all is_ascii_alphabetic (c ∷ cs) ≡ true → word_of (c ∷ cs) ≡ None → length (c ∷ cs) ≤ MOST_NAME_BYTES → Printable (kind.Name (c ∷ cs))
known_printable c cs h none short =
    let encoded = low_encoded is_ascii_alphabetic letter_low (c ∷ cs) h in
    record {
      characters = c ∷ cs;
      scalars = low_scalars is_ascii_alphabetic letter_low (c ∷ cs) h;
      encoded = encoded;
      within = all_within is_ascii_alphabetic refl (c ∷ cs) h;
      makes = λ rest. subst (λ n. Makes (c ∷ cs) (32 ∷ rest) (kind.Name n)) encoded
          (a_name (letters_named c cs h rest)
          (λ w is. let clash = sym none ∙ ap word_of (sym encoded ∙ is) ∙ word_of-word_spelling w in cc)
          (subst (λ n. length n ≤ MOST_NAME_BYTES) (sym encoded) short));
    }

-- ---- numbers
number_by : (n : ℕ) → n < 2 ^ 63 → (ds : List ℕ) → decimal n ≡ ds → 0 < length ds → list_all is_ascii_digit ds ≡ true → digits_value 10 ds ≡ n → Printable (kind.Number n)
number_by n small [] is some digits value = absurd (omega arith)
number_by n small (d ∷ ds) is some digits value =
    let parts = and_parts (is_ascii_digit d) (list_all is_ascii_digit ds) digits in
    record {
      characters = d ∷ ds;
      scalars = low_scalars is_ascii_digit digit_low (d ∷ ds) digits;
      encoded = low_encoded is_ascii_digit digit_low (d ∷ ds) digits ∙ sym is;
      within = all_within is_ascii_digit refl (d ∷ ds) digits;
      makes = λ rest. subst (λ v. Makes (d ∷ ds) (32 ∷ rest) (kind.Number v)) value
          (a_number (record { begins = parts.0; run = record { all_pass = parts.1; stops = refl } }) (subst (λ v. v < 2 ^ 63) (sym value) small));
    }

pub number_printable : (n : ℕ) → n < 2 ^ 63 → Printable (kind.Number n)
number_printable n small =
    let numeral = decimal_is_IsNumeral n (omega arith) in
    number_by n small (decimal n) refl numeral.0.0 (own.from (decimal n) numeral.0.1) numeral.1

-- ---- texts
abbrev IsPlain : ℕ → Type 0
IsPlain c = (printed c ≡ c ∷ []) × (is_plain c ≡ true)

record HasEscape (c : ℕ) : Type 0 where
  pub letter : ℕ
  pub text : printed c ≡ 92 ∷ letter ∷ []
  pub back : escaped letter ≡ Some c
  pub letter_low : letter < 128
  pub low : c < 128

has_escape : (c letter : ℕ) → printed c ≡ 92 ∷ letter ∷ [] → escaped letter ≡ Some c → letter < 128 → c < 128 → IsPlain c ⊎ HasEscape c
has_escape c letter text back letter_low low = inr (record { letter = letter; text = text; back = back; letter_low = letter_low; low = low })

either : (c : ℕ) → IsPlain c ⊎ HasEscape c
either c =
    elim (cases_eq c 34) [
      | inl e ↦ has_escape c 34 (rw e refl) (rw e refl) (omega arith) (omega arith)
      | inr quote ↦
          elim (cases_eq c 92) [
            | inl e ↦ has_escape c 92 (rw e refl) (rw e refl) (omega arith) (omega arith)
            | inr backslash ↦
                elim (cases_eq c 10) [
                  | inl e ↦ has_escape c 110 (rw e refl) (rw e refl) (omega arith) (omega arith)
                  | inr line_end ↦
                      elim (cases_eq c 9) [
                        | inl e ↦ has_escape c 116 (rw e refl) (rw e refl) (omega arith) (omega arith)
                        | inr tab ↦
                            elim (cases_eq c 13) [
                              | inl e ↦ has_escape c 114 (rw e refl) (rw e refl) (omega arith) (omega arith)
                              | inr return ↦
                                  inl (rw (ne_eqb c 34 quote, ne_eqb c 92 backslash, ne_eqb c 10 line_end, ne_eqb c 9 tab, ne_eqb c 13 return) refl, rw (ne_eqb c 34 quote, ne_eqb c 92 backslash, ne_eqb c 10 line_end) refl)
                            ]
                      ]
                ]
          ]
    ]

means_printed : (meant : List ℕ) → Means (flat_map printed meant) meant
means_printed [] = nothing
means_printed (c ∷ cs) = elim (either c) [
  | inl p ↦ subst (λ w. Means (w ++ flat_map printed cs) (c ∷ cs)) (sym p.0) (plain p.1 (means_printed cs))
  | inr e ↦ subst (λ w. Means (w ++ flat_map printed cs) (c ∷ cs)) (sym e.text) (escape e.back (means_printed cs))
]

pub scalars-append : (a b : List ℕ) → all_scalars a ≡ true → all_scalars b ≡ true → all_scalars (a ++ b) ≡ true
scalars-append [] b h k = k
scalars-append (c ∷ cs) b h k = let parts = and_parts _ (all_scalars cs) h in both_true parts.0 (scalars-append cs b parts.1 k)

low_one : (c : ℕ) → c < 128 → all_scalars (c ∷ []) ≡ true
low_one c h = both_true (low_scalar c (omega arith)) refl

scalars_printed : (meant : List ℕ) → all_scalars meant ≡ true → all_scalars (flat_map printed meant) ≡ true
scalars_printed [] h = refl
scalars_printed (c ∷ cs) h =
    let parts = and_parts _ (all_scalars cs) h in
    scalars-append (printed c) (flat_map printed cs)
    (elim (either c) [
      | inl p ↦ subst (λ w. all_scalars w ≡ true) (sym p.0) (both_true parts.0 refl)
      | inr e ↦ subst (λ w. all_scalars w ≡ true) (sym e.text) (scalars-append (92 ∷ []) (e.letter ∷ []) (low_one 92 (lit< tt)) (low_one e.letter e.letter_low))
    ])
    (scalars_printed cs parts.1)

high_printed : (bs : List ℕ) → are_high bs ≡ true → flat_map printed bs ≡ bs
high_printed [] h = refl
high_printed (b ∷ bs) h =
    let both = and_parts _ (are_high bs) h in
    let high = leb-true 128 b both.0 in
    elim (either b) [
      | inl p ↦ ap (λ w. w ++ flat_map printed bs) p.0 ∙ ap (λ l. b ∷ l) (high_printed bs both.1)
      | inr e ↦ let low = e.low in absurd (omega arith)
    ]

one_encoded : (c : ℕ) → encode_utf8_all (printed c) ≡ flat_map printed (encode_utf8 c)
one_encoded c = elim (cases_lt c 128) [
  | inl low ↦
      (elim (either c) [
        | inl p ↦ ap encode_utf8_all p.0 ∙ append-nil (encode_utf8 c) ∙ encode_ascii c low ∙ sym p.0
        | inr e ↦
            ap encode_utf8_all e.text ∙ ap (λ x. x ++ (encode_utf8 e.letter ++ [])) (encode_ascii 92 (lit< tt))
            ∙ ap (λ x. 92 ∷ (x ++ [])) (encode_ascii e.letter e.letter_low) ∙ sym e.text
      ])
      ∙ sym (append-nil (printed c)) ∙ ap (flat_map printed) (sym (encode_ascii c low))
  | inr high ↦
      elim (either c) [
        | inl p ↦ ap encode_utf8_all p.0 ∙ append-nil (encode_utf8 c) ∙ sym (high_printed (encode_utf8 c) (are_high-encode c high))
        | inr e ↦ let low = e.low in absurd (omega arith)
      ]
]

text_encoded : (meant : List ℕ) → encode_utf8_all (flat_map printed meant) ≡ flat_map printed (encode_utf8_all meant)
text_encoded [] = refl
text_encoded (c ∷ cs) =
    encodes-append (printed c) (flat_map printed cs)
    ∙ (λ i. one_encoded c i ++ text_encoded cs i)
    ∙ sym (flat_map-append printed (encode_utf8 c) (encode_utf8_all cs))

quoted_encoded : (meant : List ℕ) → encode_utf8_all (quoted (flat_map printed meant)) ≡ quoted_text (encode_utf8_all meant)
quoted_encoded meant =
    ap (λ x. x ++ encode_utf8_all (flat_map printed meant ++ 34 ∷ [])) (encode_ascii 34 (lit< tt))
    ∙ ap (λ l. 34 ∷ l) (encodes-append (flat_map printed meant) (34 ∷ []) ∙ (λ i. text_encoded meant i ++ (append-nil (encode_utf8 34) ∙ encode_ascii 34 (lit< tt)) i))

pub text_printable : (meant : List ℕ) → all_scalars meant ≡ true → length (encode_utf8_all meant) ≤ MOST_TEXT_BYTES → Printable (kind.Text (encode_utf8_all meant))
text_printable meant scalars short = record {
  characters = quoted (flat_map printed meant);
  scalars = scalars-append (34 ∷ []) (flat_map printed meant ++ 34 ∷ []) (low_one 34 (lit< tt)) (scalars-append (flat_map printed meant) (34 ∷ []) (scalars_printed meant scalars) (low_one 34 (lit< tt)));
  encoded = quoted_encoded meant;
  within = within_quotes (flat_map printed meant) (means_within (means_printed meant));
  makes = λ rest. a_text (means_printed meant) short;
}
  where
    within_end : (w : List ℕ) → list_all is_within_line w ≡ true → list_all is_within_line (w ++ 34 ∷ []) ≡ true
    within_end [] h = refl
    within_end (c ∷ cs) h = let parts = and_parts (is_within_line c) (list_all is_within_line cs) h in both_true parts.0 (within_end cs parts.1)

    within_quotes : (w : List ℕ) → list_all is_within_line w ≡ true → list_all is_within_line (quoted w) ≡ true
    within_quotes w h = both_true {s = true} refl (within_end w h)

-- ---- symbols
no_blank_second : (s : Symbol) (c : ℕ) → symbol_spelling s ≡ c ∷ 32 ∷ [] → ⊥
no_blank_second s c is = let passes = sym (symbol_characters s) ∙ ap (list_all symbol_character) is in let second = and_parts (symbol_character c) false (sym passes) in cc (second.1)

-- a longer symbol would have the blank
longest : (s : Symbol) (rest : List ℕ) (other : Symbol) (more : List ℕ) → symbol_spelling s ++ 32 ∷ rest ≡ symbol_spelling other ++ more → length (symbol_spelling other) ≤ length (symbol_spelling s)
longest s rest other more is = elim (shape s) [
  | double spelled found ↦ let size = ap length spelled in omega (arith, size, at_most_two other)
  | single {k = k} spelled found ↦ elim (shape other) [
    | single other_spelled other_found ↦ let size = ap length spelled in let other_size = ap length other_spelled in omega (arith, size, other_size)
    | double {k = a} {l = b} other_spelled other_found ↦
        let whole : k ∷ 32 ∷ rest ≡ a ∷ b ∷ more = ap (λ f. f ++ 32 ∷ rest) (sym spelled) ∙ is ∙ ap (λ f. f ++ more) other_spelled in
        let second : b ≡ 32 = cc in
        absurd (no_blank_second other a (other_spelled ∙ ap (λ b. a ∷ b ∷ []) second))
  ]
]

-- what begins with a dash is no pair
abbrev are_dashes : List ℕ → Bool
are_dashes (c ∷ d ∷ []) = c == 45 && d == 45
are_dashes _ = false

no_dashes : (s : Symbol) → are_dashes (symbol_spelling s) ≡ false
no_dashes symbol.Define = refl
no_dashes symbol.Equals = refl
no_dashes symbol.Colon = refl
no_dashes symbol.Comma = refl
no_dashes symbol.Dot = refl
no_dashes symbol.Open = refl
no_dashes symbol.Close = refl
no_dashes symbol.OpenBracket = refl
no_dashes symbol.CloseBracket = refl
no_dashes symbol.OpenBrace = refl
no_dashes symbol.CloseBrace = refl
no_dashes symbol.Or = refl
no_dashes symbol.And = refl
no_dashes symbol.Same = refl
no_dashes symbol.Differs = refl
no_dashes symbol.AtMost = refl
no_dashes symbol.AtLeast = refl
no_dashes symbol.Below = refl
no_dashes symbol.Above = refl
no_dashes symbol.Plus = refl
no_dashes symbol.Minus = refl
no_dashes symbol.Times = refl
no_dashes symbol.Divide = refl
no_dashes symbol.Remainder = refl
no_dashes symbol.Not = refl

abbrev first_of : List ℕ → ℕ
first_of [] = 0
first_of (c ∷ cs) = c

abbrev second_of : List ℕ → ℕ
second_of (c ∷ d ∷ cs) = d
second_of _ = 0

no_comment : (s : Symbol) (rest more : List ℕ) → symbol_spelling s ++ 32 ∷ rest ≡ 45 ∷ 45 ∷ more → ⊥
no_comment s rest more is = elim (shape s) [
  | double {k = k} {l = l} spelled found ↦
      let whole : k ∷ l ∷ 32 ∷ rest ≡ 45 ∷ 45 ∷ more = ap (λ f. f ++ 32 ∷ rest) (sym spelled) ∙ is in
      let first : k ≡ 45 = ap first_of whole in
      let second : l ≡ 45 = ap second_of whole in
      true≢false ((λ i. sym first i == 45 && sym second i == 45) ∙ sym (ap are_dashes spelled) ∙ no_dashes s)
  | single {k = k} spelled found ↦
      let whole : k ∷ 32 ∷ rest ≡ 45 ∷ 45 ∷ more = ap (λ f. f ++ 32 ∷ rest) (sym spelled) ∙ is in
      true≢false (ap (λ x. second_of x == 32) whole)
]

pub symbol_printable : (s : Symbol) → Printable (kind.Symbol s)
symbol_printable s = record {
  characters = symbol_spelling s;
  scalars = low_scalars symbol_character symbol_low (symbol_spelling s) (symbol_characters s);
  encoded = low_encoded symbol_character symbol_low (symbol_spelling s) (symbol_characters s);
  within = spelled_within s;
  makes = λ rest. a_symbol (record { longest = λ other more is. longest s rest other more is; no_comment = λ more is. no_comment s rest more is });
}

-- ---- what a source's tokens are
escape_low : (c d : ℕ) → escaped c ≡ Some d → d < 55296
escape_low c d e =
    tell_next (λ d. d < 55296) (c == 34) 34 _ (λ h. lit< tt)
    (tell_next (λ d. d < 55296) (c == 92) 92 _ (λ h. lit< tt)
    (tell_next (λ d. d < 55296) (c == 110) 10 _ (λ h. lit< tt)
    (tell_next (λ d. d < 55296) (c == 116) 9 _ (λ h. lit< tt)
    (tell_next (λ d. d < 55296) (c == 114) 13 _ (λ h. lit< tt) (λ x is. cc)))))
    d e

meant_scalars : {written meant : List ℕ} → Means written meant → all_scalars written ≡ true → all_scalars meant ≡ true
meant_scalars nothing h = refl
meant_scalars (plain {c = c} {written = written} p m) h = let parts = and_parts (scalar c) (all_scalars written) h in both_true parts.0 (meant_scalars m parts.1)
meant_scalars (escape {c = c} {d = d} {written = written} e m) h =
    let after = and_parts (scalar c) (all_scalars written) (and_parts (scalar 92) (scalar c && all_scalars written) h).1 in
    both_true (low_scalar d (escape_low c d e)) (meant_scalars m after.1)

front_scalars : (a b : List ℕ) → all_scalars (a ++ b) ≡ true → all_scalars a ≡ true
front_scalars [] b h = refl
front_scalars (c ∷ cs) b h = let parts = and_parts _ (all_scalars (cs ++ b)) h in both_true parts.0 (front_scalars cs b parts.1)

pub made_printable : {front rest : List ℕ} {k : TokenKind} → Makes front rest k → all_scalars front ≡ true → Printable k
made_printable (a_word {w = w} n is) h = word_printable w
made_printable (a_name {first = first} {more = more} n none short) h = record {
  characters = first ∷ more;
  scalars = h;
  encoded = refl;
  within = name_within n;
  makes = λ rest. a_name (named_before_blank n rest) none short;
}
made_printable (a_number {first = first} {more = more} n small) h = number_printable (digits_value 10 (first ∷ more)) small
made_printable (a_text {written = written} {meant = meant} m short) h =
    text_printable meant (meant_scalars m (front_scalars written (34 ∷ []) (and_parts (scalar 34) (all_scalars (written ++ 34 ∷ [])) h).1)) short
made_printable (a_symbol {s = s} n) h = symbol_printable s
