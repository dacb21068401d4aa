-- The loop's invariant: the pieces still to come, laid from here on, give the whole.
use Rattle.std.proofs.Common.{◌≡◌, ◌+◌, length}
use Rattle.std.proofs.lemmas.List.Edits.{sets}
use Rattle.rc5_encoder.specs.EncoderSteps.{word_of}
use Rattle.rc5_encoder.proofs.Pieces.{pieces_below}
use Rattle.rc5_encoder.proofs.lay_bits.Given as goal

abbrev pub invariant-loop-left : goal.invariant-loop-left
invariant-loop-left l = record {
  fits : l.at + length (pieces_below l.single (word_of l.bits) l.left) ≡ length l.out;
  laid : sets l.out l.at (pieces_below l.single (word_of l.bits) l.left) ≡ sets l.initial.out 1 (pieces_below l.single (word_of l.bits) 13);
}
