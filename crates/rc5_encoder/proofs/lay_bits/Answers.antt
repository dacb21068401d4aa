-- The loop lays the next piece and goes on, until no bit is left. Assumes nothing.
use Rattle.std.proofs.Common.{arith, rules, ◌≡◌, ℕ, ◌-◌, length, not, refl, ap, ◌∙◌}
use Rattle.std.proofs.Math.ListN.{length-set}
use Rattle.std.proofs.Math.Seq.{length-sets}
use Rattle.frames.specs.Frames.{bit_set}
use Rattle.rc5_encoder.specs.Encoder.{piece_of, frame_of, pieces_after}
use Rattle.rc5_encoder.specs.EncoderSteps.{word_of}
use Rattle.frames.proofs.Laid.{sets_whole}
use Rattle.rc5_encoder.proofs.Frame.{whole, frame_whole, at_least}
use Rattle.rc5_encoder.proofs.Pieces.{next_length, next_piece}
use Rattle.rc5_encoder.proofs.lay_bits.Goals as goal

pub bounds-out-0 : goal.bounds-out-0
bounds-out-0 c = omega (arith, c.requires.room, at_least c.args.bits c.args.single)

pub loop-left-init : goal.loop-left-init
loop-left-init c = record {
  fits = omega (arith, c.requires.room, frame_whole c.args.bits c.args.single, length-set c.args.out.now 0 0);
  laid = refl;
}

pub put_bit-at-requires : goal.put_bit-at-requires
put_bit-at-requires c =
    let loop = c.loop-left in
    let told = c.bit.ensures ∙ ap (λ (word : ℕ). bit_set word (loop.left - 1)) c.changes-changes.ensures in
    let next = next_length c.args.single (word_of c.args.bits) c.bit.result loop.left (omega arith) told in
    (search rules, omega (arith, next, loop.invariant.fits))

pub loop-left-preserved : goal.loop-left-preserved
loop-left-preserved c =
    let loop = c.loop-left in
    let args = c.args in
    let put = c.put_bit-at in
    let told = c.bit.ensures ∙ ap (λ (word : ℕ). bit_set word (loop.left - 1)) c.changes-changes.ensures in
    let next = next_length args.single (word_of args.bits) c.bit.result loop.left (omega arith) told in
    let laid =
    next_piece args.single (word_of args.bits) c.bit.result loop.left (omega arith) told
    loop.out put.new.out loop.at put.result put.ensures.laid put.ensures.next in
    let same = ap length put.ensures.laid ∙ length-sets loop.out loop.at (piece_of args.single (not c.bit.result)) in
    record {
      fits = omega (arith, next, same);
      laid = laid ∙ loop.invariant.laid;
    }

pub returns : goal.returns
unfolding frame_of pieces_after
returns c =
    let done : c.loop-left.left ≡ 0 = omega arith in
    (rw (done, whole c.args.single c.args.bits) at c.loop-left.invariant.laid)
    ∙ sets_whole c.args.out.now (frame_of c.args.bits c.args.single) c.requires.room
