-- The loop's invariant: the pairs still to come, laid from here on, give the whole.
use Rattle.std.proofs.Common.{◌-◌, ◌≡◌, ◌+◌, ◌*◌}
use Rattle.std.proofs.lemmas.List.Edits.{sets}
use Rattle.frames.specs.Frames.{pairs_from}
use Rattle.nec_encoder.proofs.lay_bits.Given as goal

abbrev pub invariant-loop-place : goal.invariant-loop-place
invariant-loop-place l =
    sets l.out (3 + 2 * l.place) (pairs_from l.short l.short l.long l.bits (32 - l.place) l.place)
    ≡ sets l.initial.out 3 (pairs_from l.short l.short l.long l.bits 32 0)
