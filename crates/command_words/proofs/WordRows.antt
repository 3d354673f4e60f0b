-- The rows of `clap`'s matches that stand for pieces, and how often each piece stands.
use Rattle.std.proofs.Common.{◌≡◌, ◌∙◌, ap, sym, refl, arith, ℕ, Bool, true, false, ◌||◌, ◌+◌, zero, suc, List, [], ◌∷◌, ◌++◌, length, map, Some, None, codes, find, ◌≤◌, if◌then◌else◌, slice_get, option_and_then}
use Rattle.std.proofs.lemmas.List.{append-nil, length-append}
use Rattle.std.specs.Str.{bytes_eq}
use Rattle.std.proofs.lemmas.Bool.{le-leb}
use Rattle.std.proofs.lemmas.Slice.Eq.{bytes_eq-Decides}
use Rattle.clap.specs.Walk.{Row, Text, has_row, at_row, without, with_values, more_values, first_of, one_of, row_text}
use Rattle.clap.specs.Takes.{is_given}
use Rattle.clap.specs.Values.{bool_text}
use Rattle.clap.specs.Facts.{explicit_source}
use Rattle.std.specs.Option.{option_map_or}
use Rattle.std.specs.Prelude.{nat_le}
use Rattle.clap.specs.declared.builder.value_parser.Reading.TheVariants.{AsWritten}
use Rattle.clap.specs.declared.parser.matches.ValueSource.TheVariants.{CommandLine, DefaultValue}
use Rattle.command_words.specs.inner.Reader.{id_of, flag_id, word_id}
use Rattle.command_words.specs.Words.{Name, until_name, instants_name, bytes_name, save_name, resume_name, Flag, strict_flag, stats_flag, Piece, plain, option, flag, same_name, same_flag, plains, values, uses}

-- ---- what holds of each option and flag

pub each_name : (P : Name → Type 0) → P until_name → P instants_name → P bytes_name → P save_name → P resume_name → (name : Name) → P name
each_name P u i b s r until_name = u
each_name P u i b s r instants_name = i
each_name P u i b s r bytes_name = b
each_name P u i b s r save_name = s
each_name P u i b s r resume_name = r

pub each_flag : (P : Flag → Type 0) → P strict_flag → P stats_flag → (f : Flag) → P f
each_flag P s t strict_flag = s
each_flag P s t stats_flag = t

-- ---- the rows of pieces

abbrev pub row : Text → Text → Row
row id word = record { id = id; values = word ∷ []; count = None; source = Some CommandLine; reading = AsWritten }

abbrev pub flag_row : Flag → Row
flag_row f = row (flag_id f) (codes "true")

abbrev pub rows_from : ℕ → List Piece → List Row
rows_from n [] = []
rows_from n (plain word ∷ ps) = row (word_id n) word ∷ rows_from (suc n) ps
rows_from n (option name word ∷ ps) = row (id_of name) word ∷ rows_from n ps
rows_from n (flag f ∷ ps) = flag_row f ∷ rows_from n ps

-- the rows with an id
abbrev chosen : Text → List Row → List Row
chosen id [] = []
chosen id (r ∷ rs) = if bytes_eq r.id id then r ∷ chosen id rs else chosen id rs

find_chosen : (id : Text) (rows : List Row) → find (λ r. bytes_eq r.id id) rows ≡ slice_get (chosen id rows) 0
find_chosen id [] = refl
find_chosen id (r ∷ rs) = go (bytes_eq r.id id) (find_chosen id rs)
  where
    go : (q : Bool) → find (λ r. bytes_eq r.id id) rs ≡ slice_get (chosen id rs) 0 → (if q then Some r else find (λ r. bytes_eq r.id id) rs) ≡ slice_get (if q then r ∷ chosen id rs else chosen id rs) 0
    go true more = refl
    go false more = more

abbrev pub any_row : List Row → Bool
any_row [] = false
any_row (r ∷ rs) = true

pub has_chosen : (id : Text) (rows : List Row) → has_row id rows ≡ any_row (chosen id rows)
has_chosen id [] = refl
has_chosen id (r ∷ rs) = go (bytes_eq r.id id) (has_chosen id rs)
  where
    go : (q : Bool) → has_row id rs ≡ any_row (chosen id rs) → (q || has_row id rs) ≡ any_row (if q then r ∷ chosen id rs else chosen id rs)
    go true more = refl
    go false more = more

chosen_append : (id : Text) (xs ys : List Row) → chosen id (xs ++ ys) ≡ chosen id xs ++ chosen id ys
chosen_append id [] ys = refl
chosen_append id (r ∷ rs) ys = go (bytes_eq r.id id) (chosen_append id rs ys)
  where
    go : (q : Bool) → chosen id (rs ++ ys) ≡ chosen id rs ++ chosen id ys → (if q then r ∷ chosen id (rs ++ ys) else chosen id (rs ++ ys)) ≡ (if q then r ∷ chosen id rs else chosen id rs) ++ chosen id ys
    go true more = ap (λ l. r ∷ l) more
    go false more = more

plain_other : (n : ℕ) (name : Name) → bytes_eq (word_id n) (id_of name) ≡ false
plain_other zero until_name = refl
plain_other (suc zero) until_name = refl
plain_other (suc (suc zero)) until_name = refl
plain_other (suc (suc (suc n))) until_name = refl
plain_other n name = refl

plain_no_flag : (n : ℕ) (f : Flag) → bytes_eq (word_id n) (flag_id f) ≡ false
plain_no_flag zero strict_flag = refl
plain_no_flag (suc zero) strict_flag = refl
plain_no_flag (suc (suc zero)) strict_flag = refl
plain_no_flag (suc (suc (suc n))) strict_flag = refl
plain_no_flag n f = refl

pub flag_other : (f : Flag) (name : Name) → bytes_eq (flag_id f) (id_of name) ≡ false
flag_other strict_flag until_name = refl
flag_other stats_flag until_name = refl
flag_other f name = refl

name_no_flag : (name : Name) (f : Flag) → bytes_eq (id_of name) (flag_id f) ≡ false
name_no_flag until_name strict_flag = refl
name_no_flag instants_name strict_flag = refl
name_no_flag bytes_name strict_flag = refl
name_no_flag save_name strict_flag = refl
name_no_flag resume_name strict_flag = refl
name_no_flag name f = refl

pub flag_no_word : (n : ℕ) (f : Flag) → bytes_eq (flag_id f) (word_id n) ≡ false
flag_no_word zero strict_flag = refl
flag_no_word (suc zero) strict_flag = refl
flag_no_word (suc (suc zero)) strict_flag = refl
flag_no_word (suc (suc (suc n))) strict_flag = refl
flag_no_word n f = refl

flag_or_other : (other f : Flag) → bytes_eq (flag_id other) (flag_id f) ≡ same_flag f other
flag_or_other strict_flag strict_flag = refl
flag_or_other strict_flag stats_flag = refl
flag_or_other stats_flag strict_flag = refl
flag_or_other stats_flag stats_flag = refl

same_flag_is : (f other : Flag) → same_flag f other ≡ true → other ≡ f
same_flag_is strict_flag strict_flag h = refl
same_flag_is stats_flag stats_flag h = refl
same_flag_is strict_flag stats_flag h = let bad : false ≡ true = h in cc
same_flag_is stats_flag strict_flag h = let bad : false ≡ true = h in cc

name_no_word : (n : ℕ) (name : Name) → bytes_eq (id_of name) (word_id n) ≡ false
name_no_word zero until_name = refl
name_no_word (suc zero) until_name = refl
name_no_word (suc (suc zero)) until_name = refl
name_no_word (suc (suc (suc n))) until_name = refl
name_no_word n name = refl

name_or_other : (other name : Name) → bytes_eq (id_of other) (id_of name) ≡ same_name name other
name_or_other until_name until_name = refl
name_or_other instants_name until_name = refl
name_or_other bytes_name until_name = refl
name_or_other save_name until_name = refl
name_or_other resume_name until_name = refl
name_or_other other name = refl

same_is : (name other : Name) → same_name name other ≡ true → other ≡ name
same_is until_name until_name h = refl
same_is instants_name instants_name h = refl
same_is bytes_name bytes_name h = refl
same_is save_name save_name h = refl
same_is resume_name resume_name h = refl
same_is name other h = let bad : false ≡ true = h in cc

pub chosen_name : (name : Name) (n : ℕ) (ps : List Piece) → chosen (id_of name) (rows_from n ps) ≡ map (row (id_of name)) (values name ps)
chosen_name name n [] = refl
chosen_name name n (plain word ∷ ps) = rw (plain_other n name) (chosen_name name (suc n) ps)
chosen_name name n (flag f ∷ ps) = rw (flag_other f name) (chosen_name name n ps)
chosen_name name n (option other word ∷ ps) = rw (name_or_other other name) (go (same_name name other) refl (chosen_name name n ps))
  where
    go : (q : Bool) → same_name name other ≡ q → chosen (id_of name) (rows_from n ps) ≡ map (row (id_of name)) (values name ps) → (if q then row (id_of other) word ∷ chosen (id_of name) (rows_from n ps) else chosen (id_of name) (rows_from n ps))
        ≡ map (row (id_of name)) (if q then word ∷ values name ps else values name ps)
    go true h more = rw (same_is name other h) (ap (λ l. row (id_of name) word ∷ l) more)
    go false h more = more

chosen_flag : (f : Flag) (n : ℕ) (ps : List Piece) → chosen (flag_id f) (rows_from n ps) ≡ map flag_row (uses f ps)
chosen_flag f n [] = refl
chosen_flag f n (plain word ∷ ps) = rw (plain_no_flag n f) (chosen_flag f (suc n) ps)
chosen_flag f n (option other word ∷ ps) = rw (name_no_flag other f) (chosen_flag f n ps)
chosen_flag f n (flag other ∷ ps) = rw (flag_or_other other f) (go (same_flag f other) refl (chosen_flag f n ps))
  where
    go : (q : Bool) → same_flag f other ≡ q → chosen (flag_id f) (rows_from n ps) ≡ map flag_row (uses f ps) → (if q then flag_row other ∷ chosen (flag_id f) (rows_from n ps) else chosen (flag_id f) (rows_from n ps))
        ≡ map flag_row (if q then f ∷ uses f ps else uses f ps)
    go true h more = rw (same_flag_is f other h) (ap (λ l. flag_row f ∷ l) more)
    go false h more = more

-- the plain words of a place, where the first of these has the place n
abbrev pub words_at : ℕ → ℕ → List Text → List Text
words_at k n [] = []
words_at k n (word ∷ words) = if bytes_eq (word_id n) (word_id k) then word ∷ words_at k (suc n) words else words_at k (suc n) words

chosen_from : (k n : ℕ) (ps : List Piece) → chosen (word_id k) (rows_from n ps) ≡ map (row (word_id k)) (words_at k n (plains ps))
chosen_from k n [] = refl
chosen_from k n (option other word ∷ ps) = rw (name_no_word k other) (chosen_from k n ps)
chosen_from k n (flag f ∷ ps) = rw (flag_no_word k f) (chosen_from k n ps)
chosen_from k n (plain word ∷ ps) = go (bytes_eq (word_id n) (word_id k)) refl (chosen_from k (suc n) ps)
  where
    go : (q : Bool) → bytes_eq (word_id n) (word_id k) ≡ q → chosen (word_id k) (rows_from (suc n) ps) ≡ map (row (word_id k)) (words_at k (suc n) (plains ps))
        → (if q then row (word_id n) word ∷ chosen (word_id k) (rows_from (suc n) ps) else chosen (word_id k) (rows_from (suc n) ps))
        ≡ map (row (word_id k)) (if q then word ∷ words_at k (suc n) (plains ps) else words_at k (suc n) (plains ps))
    go true h more = let same : word_id n ≡ word_id k = (bytes_eq-Decides (word_id n) (word_id k)).0 h in λ i. row (same i) word ∷ more i
    go false h more = more

pub chosen_words : (k : ℕ) (ps : List Piece) → chosen (word_id k) (rows_from 0 ps) ≡ map (row (word_id k)) (words_at k 0 (plains ps))
chosen_words k ps = chosen_from k 0 ps

-- ---- one row more

pub fresh_row : (id : Text) (change : Row → List Row) (missing : List Row) (rows : List Row) → has_row id rows ≡ false → at_row id change missing rows ≡ rows ++ missing
fresh_row id change missing [] h = refl
fresh_row id change missing (r ∷ rs) h = go (bytes_eq r.id id) h (fresh_row id change missing rs)
  where
    go : (q : Bool) → (q || has_row id rs) ≡ false → (has_row id rs ≡ false → at_row id change missing rs ≡ rs ++ missing) → (if q then change r ++ rs else r ∷ at_row id change missing rs) ≡ r ∷ (rs ++ missing)
    go true h more = let bad : true ≡ false = h in cc
    go false h more = ap (λ l. r ∷ l) (more h)

pub set_row : (id word : Text) (rows : List Row) → has_row id rows ≡ false → with_values id AsWritten CommandLine (word ∷ []) (without id rows) ≡ rows ++ row id word ∷ []
set_row id word rows h =
    let same : without id rows ≡ rows = fresh_row id (λ _. []) [] rows h ∙ append-nil rows in
    ap (with_values id AsWritten CommandLine (word ∷ [])) same ∙ fresh_row id (more_values CommandLine (word ∷ [])) _ rows h

pub rows_more : (n : ℕ) (ps qs : List Piece) → rows_from n (ps ++ qs) ≡ rows_from n ps ++ rows_from (n + length (plains ps)) qs
rows_more n [] qs = let e : n + 0 ≡ n = omega arith in ap (λ k. rows_from k qs) (sym e)
rows_more n (plain word ∷ ps) qs =
    let e : suc n + length (plains ps) ≡ n + suc (length (plains ps)) = omega arith in
    ap (λ l. row (word_id n) word ∷ l) (rows_more (suc n) ps qs ∙ ap (λ k. rows_from (suc n) ps ++ rows_from k qs) e)
rows_more n (option other word ∷ ps) qs = ap (λ l. row (id_of other) word ∷ l) (rows_more n ps qs)
rows_more n (flag f ∷ ps) qs = ap (λ l. flag_row f ∷ l) (rows_more n ps qs)

-- an option that stands already
pub has_name : (name : Name) (done : List Piece) (rows : List Row) (xs : List Text) → rows ≡ rows_from 0 done → values name done ≡ xs → has_row (id_of name) rows ≡ any_row (map (row (id_of name)) xs)
has_name name done rows xs is e = ap (has_row (id_of name)) is ∙ (has_chosen (id_of name) (rows_from 0 done) ∙ (ap any_row (chosen_name name 0 done) ∙ ap (λ l. any_row (map (row (id_of name)) l)) e))

pub has_flag : (f : Flag) (done : List Piece) (rows : List Row) (xs : List Flag) → rows ≡ rows_from 0 done → uses f done ≡ xs → has_row (flag_id f) rows ≡ any_row (map flag_row xs)
has_flag f done rows xs is e = ap (has_row (flag_id f)) is ∙ (has_chosen (flag_id f) (rows_from 0 done) ∙ (ap any_row (chosen_flag f 0 done) ∙ ap (λ l. any_row (map flag_row l)) e))

-- ---- the pieces so far

pub record Fits (ps : List Piece) : Type 0 where
  pub words : length (plains ps) ≤ 4
  pub options : (name : Name) → length (values name ps) ≤ 1
  pub once : (f : Flag) → length (uses f ps) ≤ 1

pub plains_then : (ps qs : List Piece) → plains (ps ++ qs) ≡ plains ps ++ plains qs
plains_then [] qs = refl
plains_then (plain word ∷ ps) qs = ap (λ l. word ∷ l) (plains_then ps qs)
plains_then (option other word ∷ ps) qs = plains_then ps qs
plains_then (flag f ∷ ps) qs = plains_then ps qs

plains_more : (ps qs : List Piece) → length (plains (ps ++ qs)) ≡ length (plains ps) + length (plains qs)
plains_more ps qs = ap length (plains_then ps qs) ∙ length-append (plains ps) (plains qs)

uses_more : (f : Flag) (ps qs : List Piece) → length (uses f (ps ++ qs)) ≡ length (uses f ps) + length (uses f qs)
uses_more f [] qs = omega arith
uses_more f (plain word ∷ ps) qs = uses_more f ps qs
uses_more f (option other word ∷ ps) qs = uses_more f ps qs
uses_more f (flag other ∷ ps) qs = go (same_flag f other) (uses_more f ps qs)
  where
    go : (q : Bool) → length (uses f (ps ++ qs)) ≡ length (uses f ps) + length (uses f qs)
        → length (if q then f ∷ uses f (ps ++ qs) else uses f (ps ++ qs)) ≡ length (if q then f ∷ uses f ps else uses f ps) + length (uses f qs)
    go true more = omega arith
    go false more = more

values_more : (name : Name) (ps qs : List Piece) → length (values name (ps ++ qs)) ≡ length (values name ps) + length (values name qs)
values_more name [] qs = omega arith
values_more name (plain word ∷ ps) qs = values_more name ps qs
values_more name (flag f ∷ ps) qs = values_more name ps qs
values_more name (option other word ∷ ps) qs = go (same_name name other) (values_more name ps qs)
  where
    go : (q : Bool) → length (values name (ps ++ qs)) ≡ length (values name ps) + length (values name qs)
        → length (if q then word ∷ values name (ps ++ qs) else values name (ps ++ qs)) ≡ length (if q then word ∷ values name ps else values name ps) + length (values name qs)
    go true more = omega arith
    go false more = more

pub fits_plain : (done : List Piece) (word : Text) → Fits done → length (plains done) ≤ 3 → Fits (done ++ plain word ∷ [])
fits_plain done word f few = record {
  words = let e = plains_more done (plain word ∷ []) in omega arith;
  options = λ name. let e = values_more name done (plain word ∷ []) in let o = f.options name in omega arith;
  once = λ u. let e = uses_more u done (plain word ∷ []) in let o = f.once u in omega arith;
}

pub fits_flag : (done : List Piece) (u : Flag) → Fits done → length (uses u done) ≡ 0 → Fits (done ++ flag u ∷ [])
fits_flag done u f none = record {
  words = let e = plains_more done (flag u ∷ []) in let o = f.words in omega arith;
  options = λ name. let e = values_more name done (flag u ∷ []) in let o = f.options name in omega arith;
  once = λ other. go other (same_flag other u) refl (uses_more other done (flag u ∷ []));
}
  where
    go : (other : Flag) (q : Bool) → same_flag other u ≡ q → length (uses other (done ++ flag u ∷ [])) ≡ length (uses other done) + length (uses other (flag u ∷ [])) → length (uses other (done ++ flag u ∷ [])) ≤ 1
    go other true h e =
        let none : length (uses other done) ≡ 0 = ap (λ m. length (uses m done)) (sym (same_flag_is other u h)) ∙ none in
        let one : length (uses other (flag u ∷ [])) ≡ 1 = rw h refl in
        omega arith
    go other false h e =
        let o = f.once other in
        let no : length (uses other (flag u ∷ [])) ≡ 0 = rw h refl in
        omega arith

pub fits_option : (done : List Piece) (name : Name) (word : Text) → Fits done → length (values name done) ≡ 0 → Fits (done ++ option name word ∷ [])
fits_option done name word f none = record {
  words = let e = plains_more done (option name word ∷ []) in let o = f.words in omega arith;
  options = λ other. go other (same_name other name) refl (values_more other done (option name word ∷ []));
  once = λ u. let e = uses_more u done (option name word ∷ []) in let o = f.once u in omega arith;
}
  where
    go : (other : Name) (q : Bool) → same_name other name ≡ q → length (values other (done ++ option name word ∷ [])) ≡ length (values other done) + length (values other (option name word ∷ []))
        → length (values other (done ++ option name word ∷ [])) ≤ 1
    go other true h e =
        let none : length (values other done) ≡ 0 = ap (λ m. length (values m done)) (sym (same_is other name h)) ∙ none in
        let one : length (values other (option name word ∷ [])) ≡ 1 = rw h refl in
        omega arith
    go other false h e =
        let o = f.options other in
        let no : length (values other (option name word ∷ [])) ≡ 0 = rw h refl in
        omega arith

pub unfit_plain : (done more : List Piece) (word : Text) → 4 ≤ length (plains done) → Fits (done ++ plain word ∷ more) → ⊥
unfit_plain done more word many f = let e = plains_more done (plain word ∷ more) in let o = f.words in omega arith

same_flag_self : (u : Flag) → same_flag u u ≡ true
same_flag_self strict_flag = refl
same_flag_self stats_flag = refl

pub unfit_flag : (done more : List Piece) (u : Flag) → 1 ≤ length (uses u done) → Fits (done ++ flag u ∷ more) → ⊥
unfit_flag done more u many f =
    let e = uses_more u done (flag u ∷ more) in
    let o = f.once u in
    let one : length (uses u (flag u ∷ more)) ≡ 1 + length (uses u more) = rw (same_flag_self u) (omega arith) in
    omega arith

same_self : (name : Name) → same_name name name ≡ true
same_self until_name = refl
same_self instants_name = refl
same_self bytes_name = refl
same_self save_name = refl
same_self resume_name = refl

pub unfit_option : (done more : List Piece) (name : Name) (word : Text) → 1 ≤ length (values name done) → Fits (done ++ option name word ∷ more) → ⊥
unfit_option done more name word many f =
    let e = values_more name done (option name word ∷ more) in
    let o = f.options name in
    let one : length (values name (option name word ∷ more)) ≡ 1 + length (values name more) = rw (same_self name) (omega arith) in
    omega arith

-- ---- with the defaults of the flags

abbrev pub default_row : Flag → Row
default_row f = record { id = flag_id f; values = codes "false" ∷ []; count = None; source = Some DefaultValue; reading = AsWritten }

abbrev pub defaulted : Flag → List Row → List Row
defaulted f rows = if has_row (flag_id f) rows then rows else rows ++ default_row f ∷ []

abbrev pub final : List Row → List Row
final rows = defaulted stats_flag (defaulted strict_flag rows)

-- ---- what the rows hold

chosen_defaulted : (id : Text) (f : Flag) (rows : List Row) → bytes_eq (flag_id f) id ≡ false → chosen id (defaulted f rows) ≡ chosen id rows
chosen_defaulted id f rows other = go (has_row (flag_id f) rows)
  where
    go : (q : Bool) → chosen id (if q then rows else rows ++ default_row f ∷ []) ≡ chosen id rows
    go true = refl
    go false =
        let none : chosen id (default_row f ∷ []) ≡ [] = rw other refl in
        chosen_append id rows (default_row f ∷ []) ∙ (ap (λ l. chosen id rows ++ l) none ∙ append-nil (chosen id rows))

chosen_final : (id : Text) (rows : List Row) → ((f : Flag) → bytes_eq (flag_id f) id ≡ false) → chosen id (final rows) ≡ chosen id rows
chosen_final id rows other = chosen_defaulted id stats_flag (defaulted strict_flag rows) (other stats_flag) ∙ chosen_defaulted id strict_flag rows (other strict_flag)

first_row : (id : Text) (texts : List Text) → option_and_then (λ r. slice_get r.values 0) (slice_get (map (row id) texts) 0) ≡ slice_get texts 0
first_row id [] = refl
first_row id (t ∷ ts) = refl

pub first_final : (id : Text) (rows : List Row) (texts : List Text) → ((f : Flag) → bytes_eq (flag_id f) id ≡ false) → chosen id rows ≡ map (row id) texts → first_of id (final rows) ≡ slice_get texts 0
first_final id rows texts other are =
    ap (option_and_then (λ (r : Row). slice_get r.values 0)) (find_chosen id (final rows) ∙ ap (λ l. slice_get l 0) (chosen_final id rows other ∙ are)) ∙ first_row id texts

-- the word of each place
pub first_word : (texts : List Text) → slice_get (words_at 0 0 texts) 0 ≡ slice_get texts 0
first_word [] = refl
first_word (t ∷ ts) = refl

pub second_word : (texts : List Text) → slice_get (words_at 1 0 texts) 0 ≡ slice_get texts 1
second_word [] = refl
second_word (t ∷ []) = refl
second_word (t ∷ u ∷ ts) = refl

pub third_word : (texts : List Text) → slice_get (words_at 2 0 texts) 0 ≡ slice_get texts 2
third_word [] = refl
third_word (t ∷ []) = refl
third_word (t ∷ u ∷ []) = refl
third_word (t ∷ u ∷ v ∷ ts) = refl

pub fourth_word : (texts : List Text) → slice_get (words_at 3 0 texts) 0 ≡ slice_get texts 3
fourth_word [] = refl
fourth_word (t ∷ []) = refl
fourth_word (t ∷ u ∷ []) = refl
fourth_word (t ∷ u ∷ v ∷ []) = refl
fourth_word (t ∷ u ∷ v ∷ w ∷ ts) = refl

-- the rows of a flag, which are those of its uses or the default
abbrev flag_rows : Flag → List Flag → List Row
flag_rows f [] = default_row f ∷ []
flag_rows f (x ∷ xs) = flag_row x ∷ map flag_row xs

chosen_own : (f : Flag) (rows : List Row) (xs : List Flag) → chosen (flag_id f) rows ≡ map flag_row xs → bytes_eq (flag_id f) (flag_id f) ≡ true → chosen (flag_id f) (defaulted f rows) ≡ flag_rows f xs
chosen_own f rows [] are self =
    let none : has_row (flag_id f) rows ≡ false = has_chosen (flag_id f) rows ∙ ap any_row are in
    let one : chosen (flag_id f) (default_row f ∷ []) ≡ default_row f ∷ [] = rw self refl in
    ap (λ q. chosen (flag_id f) (if q then rows else rows ++ default_row f ∷ [])) none
    ∙ (chosen_append (flag_id f) rows (default_row f ∷ []) ∙ (ap (λ l. l ++ chosen (flag_id f) (default_row f ∷ [])) are ∙ one))
chosen_own f rows (x ∷ xs) are self =
    let some : has_row (flag_id f) rows ≡ true = has_chosen (flag_id f) rows ∙ ap any_row are in
    ap (λ q. chosen (flag_id f) (if q then rows else rows ++ default_row f ∷ [])) some ∙ are

chosen_final_flag : (f : Flag) (rows : List Row) (xs : List Flag) → chosen (flag_id f) rows ≡ map flag_row xs → chosen (flag_id f) (final rows) ≡ flag_rows f xs
chosen_final_flag strict_flag rows xs are = chosen_defaulted (codes "strict") stats_flag (defaulted strict_flag rows) refl ∙ chosen_own strict_flag rows xs are refl
chosen_final_flag stats_flag rows xs are = chosen_own stats_flag (defaulted strict_flag rows) xs (chosen_defaulted (codes "stats") strict_flag rows refl ∙ are) refl

pub flag_final : (f : Flag) (ps : List Piece) → one_of (flag_id f) (final (rows_from 0 ps)) ≡ Some (bool_text (nat_le 1 (length (uses f ps))))
flag_final f ps =
    ap (option_and_then row_text) (find_chosen (flag_id f) (final (rows_from 0 ps)) ∙ ap (λ l. slice_get l 0) (chosen_final_flag f (rows_from 0 ps) (uses f ps) (chosen_flag f 0 ps))) ∙ go (uses f ps)
  where
    go : (xs : List Flag) → option_and_then row_text (slice_get (flag_rows f xs) 0) ≡ Some (bool_text (nat_le 1 (length xs)))
    go [] = refl
    go (x ∷ xs) = let one : nat_le 1 (length (x ∷ xs)) ≡ true = le-leb 1 (length (x ∷ xs)) (omega arith) in sym (ap (λ b. Some (bool_text b)) one)

pub first_given : (ps : List Piece) (xs : List Text) → plains ps ≡ xs → is_given (codes "first") (final (rows_from 0 ps)) ≡ nat_le 1 (length xs)
first_given ps xs e =
    ap (λ o. option_map_or (λ (r : Row). explicit_source r.source) o false) (find_chosen (codes "first") (final (rows_from 0 ps)) ∙ ap (λ l. slice_get l 0) (chosen_final (codes "first") (rows_from 0 ps) (flag_no_word 0) ∙ (chosen_words 0 ps ∙ ap (λ l. map (row (codes "first")) (words_at 0 0 l)) e)))
    ∙ go xs
  where
    go : (xs : List Text) → option_map_or (λ (r : Row). explicit_source r.source) (slice_get (map (row (codes "first")) (words_at 0 0 xs)) 0) false ≡ nat_le 1 (length xs)
    go [] = refl
    go (x ∷ xs) = sym (le-leb 1 (length (x ∷ xs)) (omega arith))
