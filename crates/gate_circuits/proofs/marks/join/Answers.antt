use Rattle.std.proofs.Common.{◌≡◌, ℕ, ◌<◌, length, get_or, ap, ◌∙◌, arith}
use Rattle.std.specs.Prelude.{bit_or}
use Rattle.gate_circuits.proofs.Words.{joined_from, word_more, word_rest}
use Rattle.gate_circuits.proofs.marks.join.Goals as goal

pub loop-place-preserved : goal.loop-place-preserved
loop-place-preserved c =
    let old = c.args.words.now in
    let other = c.args.other.now in
    let words = c.loop-place.words in
    let place = c.loop-place.place in
    let w = bit_or (get_or words place 0) c.word.result in
    let room : length words ≡ length old = c.loop-place.auto.words in
    let low : place < length old = omega (arith, room) in
    let here : w ≡ bit_or (get_or old place 0) (get_or other place 0) =
    ap (λ (n : ℕ). bit_or n c.word.result) (c.loop-place.invariant.rest place (omega arith)) ∙ ap (λ (n : ℕ). bit_or (get_or old place 0) n) c.word.ensures in
    record {
      done = word_more old words place w (λ k v. v ≡ bit_or (get_or old k 0) (get_or other k 0)) room low here c.loop-place.invariant.done;
      rest = word_rest old words place w (λ k v. v ≡ v) room low c.loop-place.invariant.rest;
    }

pub returns : goal.returns
returns c x is =
    let old = c.args.words.now in
    let other = c.args.other.now in
    let room : length c.loop-place.words ≡ length old = c.loop-place.auto.words in
    let by : (k : ℕ) → k < length old → get_or c.loop-place.words k 0 ≡ bit_or (get_or old k 0) (get_or other k 0) = λ k low. c.loop-place.invariant.done k (omega (arith, room)) in
    joined_from old other c.loop-place.words room by x is
