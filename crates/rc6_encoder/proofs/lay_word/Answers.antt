-- The loop lays the next bit and goes on, until no bit is left; then a high that stands is written. Assumes nothing.
use Rattle.std.proofs.Common.{arith, rules, ◌≡◌, ◌+◌, ◌-◌, length, ap, ◌∙◌}
use Rattle.std.proofs.Math.Seq.{length-sets}
use Rattle.rc6_encoder.specs.declared.Stretch.{Stretch}
use Rattle.rc6_encoder.specs.Encoder.{merged, in_ticks}
use Rattle.rc6_encoder.specs.EncoderSteps.{standing, joined, word_levels}
use Rattle.rc6_encoder.proofs.Closing.{closing_at, closing_high, closing_low}
use Rattle.rc6_encoder.proofs.Turns.{half_le, next_length, next_bit}
use Rattle.rc6_encoder.proofs.lay_word.Goals as goal

pub bit-last-requires : goal.bit-last-requires
bit-last-requires c =
    let loop = c.loop-left in
    let next = next_length c.args.word c.args.unit loop.left loop.last c.bit.result c.half.result (omega arith) c.bit.ensures c.half.ensures in
    (omega (arith, next, loop.invariant.fits), loop.invariant.few, omega (arith, c.half.ensures, half_le (loop.left - 1)), search rules)

pub loop-left-preserved : goal.loop-left-preserved
loop-left-preserved c =
    let loop = c.loop-left in
    let args = c.args in
    let put = c.bit-last in
    let next = next_length args.word args.unit loop.left loop.last c.bit.result c.half.result (omega arith) c.bit.ensures c.half.ensures in
    let laid =
    next_bit args.word args.unit loop.left loop.last c.bit.result c.half.result (omega arith) c.bit.ensures c.half.ensures
    loop.out put.new.out put.result put.ensures.next put.ensures.laid in
    let same = ap length put.ensures.laid ∙ length-sets loop.out loop.last.at (in_ticks args.unit (joined loop.last c.bit.result c.half.result)) in
    record {
      few = omega (arith, ap (λ (r : Stretch). r.units) put.ensures.next, c.half.ensures, half_le (loop.left - 1));
      fits = ap (λ (r : Stretch). r.at + length (merged (standing r) (word_levels args.word (loop.left - 1)))) put.ensures.next ∙ omega (arith, next, same, loop.invariant.fits);
      laid = laid ∙ loop.invariant.laid;
    }

pub bounds-out-at : goal.bounds-out-at
unfolding word_levels
bounds-out-at c =
    let loop = c.loop-left in
    let done : loop.left ≡ 0 = omega arith in
    closing_at c.args.unit c.args.word c.args.out.now loop.out loop.last (rw done at loop.invariant.fits) (rw done at loop.invariant.laid) c.requires.room c.if-high.true

pub returns-then-high : goal.returns-then-high
unfolding word_levels
returns-then-high c =
    let loop = c.loop-left in
    let done : loop.left ≡ 0 = omega arith in
    closing_high c.args.unit c.args.word c.args.out.now loop.out loop.last (rw done at loop.invariant.fits) (rw done at loop.invariant.laid) c.requires.room c.if-high.true

pub returns-else-high : goal.returns-else-high
unfolding word_levels
returns-else-high c =
    let loop = c.loop-left in
    let done : loop.left ≡ 0 = omega arith in
    closing_low c.args.unit c.args.word c.args.out.now loop.out loop.last (rw done at loop.invariant.fits) (rw done at loop.invariant.laid) c.requires.room c.if-high.false
