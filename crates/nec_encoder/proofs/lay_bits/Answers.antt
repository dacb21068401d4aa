-- The loop lays the next pair and goes on, until no bit is left; then the slice is the frame. Assumes nothing.
use Rattle.std.proofs.Common.{arith, rules, ◌≡◌, ◌+◌, ◌*◌, cond, sym, ◌∙◌}
use Rattle.frames.proofs.Laid.{sets_whole}
use Rattle.frames.proofs.Pairs.{next_two, no_pair}
use Rattle.nec_encoder.specs.Encoder.{frame_of}
use Rattle.nec_encoder.proofs.Frame.{length_frame}
use Rattle.nec_encoder.proofs.lay_bits.Goals as goal
use Rattle.nec_encoder.proofs.lay_bits.Goals.{then-bit, else-bit}

pub loop-place-preserved : goal.loop-place-preserved
loop-place-preserved c =
    let loop = c.loop-place in
    let space : c.if-bit.space ≡ cond c.bit.result c.scale-long.result c.scale-short.result = elim c.if-bit.branch [ then-bit w ↦ search rules | else-bit w ↦ search rules ] in
    next_two c.scale-short.result c.scale-short.result c.scale-long.result c.args.bits loop.out (3 + 2 * loop.place) _ 32 loop.place _ _ c.bit.ensures space (omega arith) (omega arith)
    ∙ loop.invariant

pub returns-clause-laid : goal.returns-clause-laid
unfolding frame_of
returns-clause-laid c =
    let loop = c.loop-place in
    let done = sym (no_pair c.scale-short.result c.scale-short.result c.scale-long.result c.args.bits loop.out (3 + 2 * loop.place) 32 loop.place (omega arith)) ∙ loop.invariant in
    done
    ∙ rw (c.scale-short.ensures, c.scale-long.ensures, c.scale.ensures, c.scale-2.ensures)
    (sets_whole c.args.out.now (frame_of c.args.bits c.args.rate) (c.requires ∙ sym (length_frame c.args.bits c.args.rate)))
