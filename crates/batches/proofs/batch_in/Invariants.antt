-- where the batch ends from here on is where it ends from the start on
use Rattle.std.proofs.Common.{◌≡◌, length, drop}
use Rattle.handfuls.specs.Batch.{edges_in}
use Rattle.handfuls.specs.declared.Reason.TheVariants.{AllUsed}
use Rattle.batches.proofs.Loop.{ends}
use Rattle.batches.proofs.batch_in.Given as goal

abbrev pub invariant-loop-at : goal.invariant-loop-at
invariant-loop-at g l =
    let M = g.M.Protocol.machine in
    record {
      same_end :
          ends M l.known l.room l.at l.batch.count l.kept l.edges l.kinds l.values (drop l.at (edges_in l.fn.levels l.fn.durations))
          ≡ ends M l.known l.room 0 0 l.fn.memory l.fn.edges l.fn.kinds l.fn.values (edges_in l.fn.levels l.fn.durations);
      none_refused : l.batch.reason ≡ AllUsed;
      all : l.batch.used ≡ length l.fn.durations;
    }
