-- A poll of a receiver of one machine is that of a receiver of another machine that has it inside: so a poll of one protocol's receiver is that of the receiver by
-- protocol number. Assumes nothing.
use Rattle.std.proofs.Common.{◌≡◌, Bool, true, false, cond, refl}
use mathlib.Core.Bool.{beq}
use Rattle.reports.specs.declared.Report.TheVariants as report
use Rattle.reports.specs.Edges.{edge}
use Rattle.reports.specs.Machine.{Machine, Inside, total, decoder_of}
use Rattle.reports.proofs.Machine.{total_own}
use Rattle.polled.specs.Polled.{ticked, run_length, without_edge, poll_refused, poll_unchanged, poll_changed, poll_of}
use Rattle.polled.specs.declared.Polled.{Polled}
use Rattle.polled.specs.declared.PollAnswer.{PollAnswer}

-- the receiver by number that keeps the same
abbrev pub numbered : {Own Other : Type 0} → (Own → Other) → Polled Own → Polled Other
numbered of p = record { decoder = decoder_of p.decoder.spans (of p.decoder.memory); clock = p.clock; last_edge = p.last_edge; level = p.level }

abbrev pub answered : {Own Other : Type 0} → (Own → Other) → PollAnswer Own → PollAnswer Other
answered of a = record { report = a.report; receiver = numbered of a.receiver }

pub by_number
    : {Own Other : Type 0} {A : Machine Own} {B : Machine Other} {of : Own → Other} → Inside A B of → (p : Polled Own) (level : Bool)
    → poll_of B (numbered of p) level ≡ answered of (poll_of A p level)
unfolding poll_of
by_number {Own} {Other} {A} {B} {of} W p level =
    rw (W.past_end_own p.decoder.memory, W.refusal_own p.decoder.memory, total_own W p.decoder.spans p.decoder.memory (edge level (run_length (ticked p.clock) p.last_edge)))
    (go (A.past_end p.decoder.memory) (beq p.level level))
  where
    go : (past same : Bool)
        → ◌≡◌ {A = PollAnswer Other}
        (let clock = ticked p.clock in
        let t = total A p.decoder.spans p.decoder.memory (edge level (run_length clock p.last_edge)) in
        cond past (without_edge (numbered of p) (report.Refused (A.refusal p.decoder.memory)) p.clock)
        (cond same (poll_unchanged (numbered of p))
        (record { report = t.report; receiver = record { decoder = decoder_of p.decoder.spans (of t.memory); clock = clock; last_edge = clock; level = level } })))
        (answered of (cond past (poll_refused A p) (cond same (poll_unchanged p) (poll_changed A p level))))
    go true same = refl
    go false true = refl
    go false false = refl
