-- The frame fills all but the last place. Assumes nothing.
use Rattle.std.proofs.Common.{arith, length, refl, ap, ◌∙◌}
use Rattle.std.proofs.lemmas.List.{length-take}
use Rattle.frames.proofs.Laid.{last_set}
use Rattle.nec_encoder.proofs.Frame.{length_frame}
use Rattle.nec_encoder.proofs.lay_closed.Goals as goal

pub slice_bounds-lay_bits-end-2 : goal.slice_bounds-lay_bits-end-2
slice_bounds-lay_bits-end-2 c = omega (arith, length-take 67 c.args.out.now, c.requires)

pub returns : goal.returns
returns c =
    let frame = length_frame c.args.bits c.args.rate in
    last_set c.lay_bits.new.out c.args.out.now 67 c.lay_bits.result (ap length c.lay_bits.ensures.laid ∙ frame) c.requires
    ∙ rw (c.lay_bits.ensures.laid, c.lay_bits.ensures.burst) refl
