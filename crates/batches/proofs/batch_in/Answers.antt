use Rattle.std.proofs.Common.{◌∙◌, ◌≡◌, refl, sym, arith, length}
use Rattle.std.proofs.lemmas.Result.{err_from_is_err_and}
use Rattle.refusals.proofs.Order.{lists_taken}
use Rattle.batches.proofs.Loop.{refused, taken, all_used_here, goes_here, quiet_here, no_room_here, found_is, none_is, quiet_is}
use Rattle.batches.proofs.batch_in.Goals as goal

pub returns-in_err-of_lists : goal.returns-in_err-of_lists
returns-in_err-of_lists g c =
    let p = err_from_is_err_and c.from_residual.result c.from_residual.ensures.1 in
    rw (p.1, p.2) (refused g.M.Protocol.machine _ _ _ _ _ _ _ c.is_past_end.ensures c.of_lists.ensures c.in_err-of_lists.was)

pub loop-at-preserved-then-is_quiet : goal.loop-at-preserved-then-is_quiet
loop-at-preserved-then-is_quiet g c =
    let M = g.M.Protocol.machine in
    let kept = c.loop-at.invariant in
    let same : length c.args.levels.now ≡ length c.args.durations.now = (lists_taken _ _ _ (sym c.of_lists.ensures ∙ c.in_ok-of_lists.was)).1 in
    -- the memory is what the step leaves
    let stepped : c.step-taken.new.self ≡ c.step-taken.new.self = refl in
    record {
      same_end =
          rw stepped (quiet_here M _ _ _ _ _ _ _ _ _ _ same c.loop-at-test.true c.step-taken.ensures.taken c.step-taken.ensures.after
          (quiet_is M _ c.if-taken.true c.status.ensures c.is_quiet.ensures c.if-is_quiet.true) ∙ kept.same_end);
      none_refused = kept.none_refused;
      all = kept.all;
    }

pub loop-at-preserved : goal.loop-at-preserved
loop-at-preserved g c =
    let M = g.M.Protocol.machine in
    let kept = c.loop-at.invariant in
    let same : length c.args.levels.now ≡ length c.args.durations.now = (lists_taken _ _ _ (sym c.of_lists.ensures ∙ c.in_ok-of_lists.was)).1 in
    let found = found_is _ _ (sym c.put.ensures.count ∙ c.in-Some.is) in
    record {
      same_end =
          rw (c.put.ensures.edges, c.put.ensures.kinds, c.put.ensures.values, found.0, found.1, c.report_after-report.ensures.after, c.report_after-report.ensures.report)
          (goes_here M _ _ _ _ _ _ _ _ _ _ same c.loop-at-test.true c.step-taken.ensures.taken c.step-taken.ensures.after (rw c.report_after-report.ensures.report at found.0) ∙ kept.same_end);
      none_refused = kept.none_refused;
      all = kept.all;
    }

pub returns-after-loop-at : goal.returns-after-loop-at
returns-after-loop-at g c =
    let M = g.M.Protocol.machine in
    let kept = c.loop-at.invariant in
    let same : length c.args.levels.now ≡ length c.args.durations.now = (lists_taken _ _ _ (sym c.of_lists.ensures ∙ c.in_ok-of_lists.was)).1 in
    let at_end : c.loop-at.at ≡ length c.args.durations.now = omega (arith, c.loop-at-test.false, c.loop-at.auto.at-end) in
    rw (kept.none_refused, kept.all)
    (taken M _ _ _ _ _ _ _ c.is_past_end.ensures c.of_lists.ensures c.in_ok-of_lists.was c.min.ensures c.min-room.ensures
    (rw at_end at (all_used_here M _ _ _ _ _ _ _ _ _ _ same c.loop-at-test.false ∙ kept.same_end)))

pub returns-in_default : goal.returns-in_default
returns-in_default g c =
    let M = g.M.Protocol.machine in
    let kept = c.loop-at.invariant in
    let same : length c.args.levels.now ≡ length c.args.durations.now = (lists_taken _ _ _ (sym c.of_lists.ensures ∙ c.in_ok-of_lists.was)).1 in
    let full = none_is _ _ (λ count e. c.in_default.not-Some count (c.put.ensures.count ∙ e)) in
    rw (c.put.ensures.edges, c.put.ensures.kinds, c.put.ensures.values, full)
    (taken M _ _ _ _ _ _ _ c.is_past_end.ensures c.of_lists.ensures c.in_ok-of_lists.was c.min.ensures c.min-room.ensures
    (no_room_here M _ _ _ _ _ _ _ _ _ _ same c.loop-at-test.true c.step-taken.ensures.taken c.step-taken.ensures.after (rw c.report_after-report.ensures.report at full) ∙ kept.same_end))
