-- Fields that are alike in the bytes are alike, and so is what follows them.
use Rattle.std.proofs.Common.{◌≡◌, ℕ, ◌<◌, ◌^◌, List, ◌++◌, length, take, drop, refl, sym, ap, ◌∙◌, append_assoc}
use Rattle.std.specs.Int.{w64, from_be_bytes}
use Rattle.std.proofs.lemmas.List.{drop_at, take_at}
use Rattle.std.proofs.lemmas.Nat.{from_be_bytes-to_be_bytes_8}
use Rattle.register_code.specs.Text.{code_text}
use Rattle.state_snapshot.specs.Laws.{NoneBeginsOther}
use Rattle.run_state.specs.Spelling.{events_bytes, kept_bytes, mark, number, options_bytes, reader_bytes, text}

-- as many bytes at the front
pub same_front : (xs ys us vs : List ℕ) → length xs ≡ length us → xs ++ ys ≡ us ++ vs → (xs ≡ us) × (ys ≡ vs)
same_front xs ys us vs same is = (
  sym (take_at xs ys (length xs) refl) ∙ ap (take (length xs)) is ∙ take_at us vs (length xs) (sym same),
  sym (drop_at xs ys (length xs) refl) ∙ ap (drop (length xs)) is ∙ drop_at us vs (length xs) (sym same),
)

pub same_number : (m n : ℕ) → m < 2 ^ 64 → n < 2 ^ 64 → number m ≡ number n → m ≡ n
same_number m n low small is = sym (from_be_bytes-to_be_bytes_8 m low) ∙ ap (from_be_bytes w64) is ∙ from_be_bytes-to_be_bytes_8 n small

pub same_text : (t u x y : List ℕ) → length t < 2 ^ 64 → length u < 2 ^ 64 → text t ++ x ≡ text u ++ y → (t ≡ u) × (x ≡ y)
same_text t u x y short small is =
    let lengths = same_front (number (length t)) (t ++ x) (number (length u)) (u ++ y) refl (sym (append_assoc (number (length t)) t x) ∙ is ∙ append_assoc (number (length u)) u y) in
    same_front t x u y (same_number (length t) (length u) short small lengths.0) lengths.1

pub none_begins_other : NoneBeginsOther
none_begins_other c d a b more short small other is =
    let program = text (code_text c) in
    let rest = options_bytes a ++ (reader_bytes a.reader ++ (events_bytes a.monitor ++ kept_bytes a.monitor)) in
    let another = options_bytes b ++ (reader_bytes b.reader ++ (events_bytes b.monitor ++ kept_bytes b.monitor)) in
    let marked = same_front mark ((program ++ rest) ++ more) mark (text (code_text d) ++ another) refl is in
    other (same_text (code_text c) (code_text d) (rest ++ more) another short small (sym (append_assoc program rest more) ∙ marked.1)).0
