use Rattle.std.proofs.Common.{◌≡◌, ℕ, ◌-◌, ◌<◌, ◌≤◌, length, get_or}
use Rattle.agenda.proofs.words.first_filled.Given as goal

abbrev pub invariant-loop-word : goal.invariant-loop-word
invariant-loop-word l = record {
  begun : l.from ≤ l.word;
  within : l.word ≤ length l.words;
  empty : (k : ℕ) → l.from ≤ k → k < l.word → get_or l.words k 0 ≡ 0;
}

abbrev pub decreases-loop-word : goal.decreases-loop-word
decreases-loop-word l = length l.words - l.word
