-- The pieces of a source. Each is a front of some characters, and what follows it is the rest.
use Rattle.std.specs.Prelude.{◌≡◌, ◌≢◌, ◌≤◌, ◌<◌, ◌+◌, ◌^◌, ◌==◌, ℕ, Bool, true, false, if◌then◌else◌, List, [], ◌∷◌, ◌++◌, length}
use Rattle.std.specs.Prelude.{encode_utf8_all, Some, None}
use Rattle.std.specs.List.{list_all}
use Rattle.std.specs.Char.{is_ascii_digit}
use Rattle.std.specs.Str.Parse.{digits_value}
use Rattle.unicode_ident.specs.Ident.{is_xid_continue}
use Rattle.tsl_value.specs.declared.place.Place.{Place}
use Rattle.tsl_value.specs.declared.limits.TheConstants.{MOST_TEXT_BYTES}
use Rattle.spec_lexer.specs.declared.token.Word.{Word}
use Rattle.spec_lexer.specs.declared.token.Symbol.{Symbol}
use Rattle.spec_lexer.specs.declared.token.TokenKind.{TokenKind}
use Rattle.spec_lexer.specs.declared.token.TokenKind.TheVariants as kind
use Rattle.spec_lexer.specs.declared.fault.LexFault.{LexFault}
use Rattle.spec_lexer.specs.declared.fault.LexFault.TheVariants.{BadCharacter, OpenText, BadEscape, LiteralTooWide, TextTooLong}
use Rattle.spec_lexer.specs.declared.fault.LexFault.TheVariants.{NameTooLong}
use Rattle.spec_lexer.specs.Spelling.{is_blank, is_within_line, begins_name, word_spelling, symbol_spelling, is_plain, escaped}
use Rattle.spec_lexer.specs.declared.limits.TheConstants.{MOST_NAME_BYTES}

-- the place after characters: LF begins a line, and each other character takes a column
abbrev pub place_past : Place → ℕ → Place
place_past at c = if c == 10 then record { line = at.line + 1; column = 1 } else record { line = at.line; column = at.column + 1 }

abbrev pub place_after : Place → List ℕ → Place
place_after at [] = at
place_after at (c ∷ cs) = place_after (place_past at c) cs

-- no character that passes comes first
abbrev pub StopsBefore : (ℕ → Bool) → List ℕ → Type 0
StopsBefore passes [] = Unit {0}
StopsBefore passes (c ∷ cs) = passes c ≡ false

-- the front is all that passes, up to the first character that doesn't
pub record IsRun (passes : ℕ → Bool) (front rest : List ℕ) : Type 0 where
  pub all_pass : list_all passes front ≡ true
  pub stops : StopsBefore passes rest

-- what makes no token: a blank, a line end, or a comment up to the end of its line
pub data IsSkipped : List ℕ → List ℕ → Type 0 where
  blank : {c : ℕ} {rest : List ℕ} → is_blank c ≡ true → IsSkipped (c ∷ []) rest
  line_end : {rest : List ℕ} → IsSkipped (10 ∷ []) rest
  hash : {comment rest : List ℕ} → IsRun is_within_line comment rest → IsSkipped (35 ∷ comment) rest
  dashes : {comment rest : List ℕ} → IsRun is_within_line comment rest → IsSkipped (45 ∷ 45 ∷ comment) rest

-- a name or a word: all characters that go on with it belong to it
pub record IsName (first : ℕ) (more rest : List ℕ) : Type 0 where
  pub begins : begins_name first ≡ true
  pub run : IsRun is_xid_continue more rest

-- a number: all digits belong to it
pub record IsNumber (first : ℕ) (more rest : List ℕ) : Type 0 where
  pub begins : is_ascii_digit first ≡ true
  pub run : IsRun is_ascii_digit more rest

-- a symbol is spelled, none with a longer spelling is, and no comment begins
pub record IsSymbol (symbol : Symbol) (rest : List ℕ) : Type 0 where
  pub longest :
      (other : Symbol) (more : List ℕ) →
      symbol_spelling symbol ++ rest ≡ symbol_spelling other ++ more →
      length (symbol_spelling other) ≤ length (symbol_spelling symbol)
  pub no_comment : (more : List ℕ) → symbol_spelling symbol ++ rest ≢ 45 ∷ 45 ∷ more

-- characters between quotes, and those that they mean
pub data Means : List ℕ → List ℕ → Type 0 where
  nothing : Means [] []
  plain :
      {c : ℕ} {written meant : List ℕ} →
      is_plain c ≡ true →
      Means written meant →
      Means (c ∷ written) (c ∷ meant)
  escape :
      {c d : ℕ} {written meant : List ℕ} →
      escaped c ≡ Some d →
      Means written meant →
      Means (92 ∷ c ∷ written) (d ∷ meant)

abbrev pub quoted : List ℕ → List ℕ
quoted written = 34 ∷ (written ++ 34 ∷ [])

-- the front makes a token of this kind
pub data Makes : List ℕ → List ℕ → TokenKind → Type 0 where
  word :
      {first : ℕ} {more rest : List ℕ} {w : Word} →
      IsName first more rest →
      encode_utf8_all (first ∷ more) ≡ word_spelling w →
      Makes (first ∷ more) rest (kind.Word w)
  name :
      {first : ℕ} {more rest : List ℕ} →
      IsName first more rest →
      ((w : Word) → encode_utf8_all (first ∷ more) ≢ word_spelling w) →
      length (encode_utf8_all (first ∷ more)) ≤ MOST_NAME_BYTES →
      Makes (first ∷ more) rest (kind.Name (encode_utf8_all (first ∷ more)))
  number :
      {first : ℕ} {more rest : List ℕ} →
      IsNumber first more rest →
      digits_value 10 (first ∷ more) < 2 ^ 63 →
      Makes (first ∷ more) rest (kind.Number (digits_value 10 (first ∷ more)))
  text :
      {written meant rest : List ℕ} →
      Means written meant →
      length (encode_utf8_all meant) ≤ MOST_TEXT_BYTES →
      Makes (quoted written) rest (kind.Text (encode_utf8_all meant))
  symbol : {s : Symbol} {rest : List ℕ} → IsSymbol s rest → Makes (symbol_spelling s) rest (kind.Symbol s)

-- a text has no end on its line, where so much of it was read
pub data EndsLine : List ℕ → Type 0 where
  at_end : EndsLine []
  at_line_end : {rest : List ℕ} → EndsLine (10 ∷ rest)
  at_last_backslash : EndsLine (92 ∷ [])

-- a character that begins nothing
pub record BeginsNothing (c : ℕ) (rest : List ℕ) : Type 0 where
  pub no_blank : is_blank c ≡ false
  pub no_line_end : c ≢ 10
  pub no_hash : c ≢ 35
  pub no_name : begins_name c ≡ false
  pub no_number : is_ascii_digit c ≡ false
  pub no_text : c ≢ 34
  pub no_symbol : (symbol : Symbol) (more : List ℕ) → c ∷ rest ≢ symbol_spelling symbol ++ more

-- the front, which stands at a place, is wrong
pub data IsWrong (at : Place) : List ℕ → List ℕ → LexFault → Type 0 where
  bad_character : {c : ℕ} {rest : List ℕ} → BeginsNothing c rest → IsWrong at (c ∷ []) rest (BadCharacter at)
  name_too_long :
      {first : ℕ} {more rest : List ℕ} →
      IsName first more rest →
      MOST_NAME_BYTES < length (encode_utf8_all (first ∷ more)) →
      IsWrong at (first ∷ more) rest (NameTooLong at)
  literal_too_wide :
      {first : ℕ} {more rest : List ℕ} →
      IsNumber first more rest →
      2 ^ 63 ≤ digits_value 10 (first ∷ more) →
      IsWrong at (first ∷ more) rest (LiteralTooWide at)
  open_text :
      {written meant rest : List ℕ} →
      Means written meant →
      EndsLine rest →
      IsWrong at (34 ∷ written) rest (OpenText at)
  bad_escape :
      {written meant rest : List ℕ} {c : ℕ} →
      Means written meant →
      escaped c ≡ None →
      IsWrong at (34 ∷ written) (92 ∷ c ∷ rest) (BadEscape (place_after at (34 ∷ written)))
  text_too_long :
      {written meant rest : List ℕ} →
      Means written meant →
      MOST_TEXT_BYTES < length (encode_utf8_all meant) →
      IsWrong at (quoted written) rest (TextTooLong at)
