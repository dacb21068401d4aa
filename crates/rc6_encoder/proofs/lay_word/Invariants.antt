-- The loop's invariant: the bits still to come, laid after what stands, give the whole.
use Rattle.std.proofs.Common.{◌≡◌, ◌≤◌, ◌+◌, length}
use Rattle.std.proofs.lemmas.List.Edits.{sets}
use Rattle.rc6_encoder.specs.Encoder.{low, merged, in_ticks}
use Rattle.rc6_encoder.specs.EncoderSteps.{standing, word_levels}
use Rattle.rc6_encoder.proofs.lay_word.Given as goal

abbrev pub invariant-loop-left : goal.invariant-loop-left
invariant-loop-left l = record {
  few : l.last.units ≤ 2;
  fits : l.last.at + length (merged (standing l.last) (word_levels l.word l.left)) ≡ length l.out;
  laid : sets l.out l.last.at (in_ticks l.unit (merged (standing l.last) (word_levels l.word l.left)))
      ≡ sets l.initial.out 2 (in_ticks l.unit (merged (low 2) (word_levels l.word 21)));
}
