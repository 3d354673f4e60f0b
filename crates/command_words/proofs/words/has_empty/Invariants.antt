use Rattle.std.proofs.Common.{◌≡◌, ◌<◌, ℕ, List, drop, slice_index_or}
use Rattle.std.specs.Str.{IsUtf8}
use Rattle.std.specs.List.{list_any}
use Rattle.command_words.specs.Words.{is_empty, texts_of}
use Rattle.command_words.proofs.words.has_empty.Given as goal

abbrev pub invariant-loop-word : goal.invariant-loop-word
invariant-loop-word l = (list_any is_empty (texts_of l.words) ≡ list_any is_empty (texts_of (drop l.word-index l.words))) × ((k : ℕ) (d : List ℕ) → k < l.word-index → IsUtf8 (slice_index_or (texts_of l.words) k d))
