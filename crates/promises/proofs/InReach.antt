-- From a memory that is not past its end no edge makes it so, for each protocol and by number, from every state. So a batch tests refusal 4 once,
-- and no report of its run of edges is a refusal. A step keeps the counter in reach, by cases on the state and its tests; a reset leaves no counter. Assumes nothing.
use mathlib.Core.Path.{◌≡◌, refl}
use mathlib.Core.Bool.{Bool, false}
use Prim.Native.Nat.{ℕ, ◌+◌, ◌-◌, ◌%◌}
use native.Mathlib.Omega.{arith}
use lib.Dec.{eqb, ltb}
use borrow.Author.Tests.{le-ltb, ltb-false, eqb-false}
use Rattle.spans.specs.Lookup.{none, lookup_of, place_of}
use Rattle.spans.specs.declared.Spans.{Spans}
use Rattle.reports.specs.Edges.{Edge}
use Rattle.reports.specs.Rule.{report_of}
use Rattle.reports.specs.Machine.{total}
use Rattle.reports.proofs.Either.{either}
use Rattle.reports.proofs.Machine.{total_own}
use Rattle.nec.specs.Decoder as nec
use Rattle.nec.specs.declared.decoder.NecState.{NecState}
use Rattle.nec.specs.declared.decoder.NecState.TheVariants as nec-state
use Rattle.rc5.specs.Decoder as rc5
use Rattle.rc5.specs.declared.decoder.Rc5State.{Rc5State}
use Rattle.rc5.specs.declared.decoder.Rc5State.TheVariants as rc5-state
use Rattle.rc6.specs.Decoder as rc6
use Rattle.rc6.specs.declared.decoder.Rc6Memory.{Rc6Memory}
use Rattle.rc6.specs.declared.decoder.Rc6State.{Rc6State}
use Rattle.rc6.specs.declared.decoder.Rc6State.TheVariants as rc6-state
use Rattle.sbp.specs.Decoder as sbp
use Rattle.sbp.specs.declared.decoder.SbpState.{SbpState}
use Rattle.sbp.specs.declared.decoder.SbpState.TheVariants as sbp-state
use Rattle.denon.specs.Decoder as denon
use Rattle.denon.specs.declared.decoder.DenonState.{DenonState}
use Rattle.denon.specs.declared.decoder.DenonState.TheVariants as denon-state
use Rattle.guarded.specs.Decoder as guarded
use Rattle.protocols.specs.Decoder as by_number
use Rattle.protocols.specs.declared.decoder.Memory.{Memory}
use Rattle.protocols.specs.declared.decoder.Memory.TheVariants.{Nec, Rc5, Rc6, Sbp, Denon, Guarded}
use Rattle.protocols.proofs.Laws.{nec_own, rc5_own, rc6_own, sbp_own, denon_own, guarded_own}
use Rattle.handfuls.proofs.From.{picked}
use Rattle.handfuls.proofs.InReach.{InReach, StepsInReach, StaysInReach, is_refused, NoRefusal, stays}

-- ---- counters

-- refusal 4 is not met
abbrev Within : Bool → Type 0
Within past = past ≡ false

up : (n last : ℕ) → Within (ltb last n) → eqb n last ≡ false → Within (ltb last (n + 1))
up n last h e = le-ltb last (n + 1) (omega (arith, ltb-false last n h, eqb-false n last e))

down : (n last : ℕ) → Within (ltb last n) → Within (ltb last (n - 1))
down n last h = le-ltb last (n - 1) (omega (arith, ltb-false last n h))

-- ---- each protocol

nec_next : (state : NecState) (place bits : ℕ) → Within (nec.past_end state) → InReach nec.machine (nec.next_of state place bits)
nec_next nec-state.Init place bits h = either (InReach nec.machine) (eqb place nec.sync) refl (either (InReach nec.machine) (eqb place nec.repeated) refl refl)
nec_next (nec-state.Receiving n) place bits h =
    let e = picked (λ state. Within (nec.past_end state)) (eqb n 31) nec-state.Done (nec-state.Receiving (n + 1)) (λ t. refl) (up n 31 h) in
    either (InReach nec.machine) (eqb place nec.zero_bit) e (either (InReach nec.machine) (eqb place nec.one_bit) e refl)
nec_next nec-state.Done place bits h = refl
nec_next nec-state.RepeatDone place bits h = refl
nec_next (nec-state.Error fault) place bits h = refl

pub nec_step : StepsInReach nec.machine
unfolding nec.step_in
nec_step spans m edge h = either (InReach nec.machine) edge.rising (nec_next m.state _ m.bits h) h

pub nec_in_reach : StaysInReach nec.machine
nec_in_reach = stays nec.machine nec_step (λ m. refl)

pub nec_no_refusal : NoRefusal nec.machine
nec_no_refusal m = elim m.state as (λ (state : NecState). is_refused (report_of (nec.status_of state) (nec.command_at state m.bits)) ≡ false)
    [ nec-state.Init ↦ refl | nec-state.Receiving n ↦ refl | nec-state.Done ↦ refl | nec-state.RepeatDone ↦ refl | nec-state.Error fault ↦ refl ]

rc5_next : (state : Rc5State) (bits clock : ℕ) (rising : Bool) → Within (rc5.past_end state) → InReach rc5.machine (rc5.next_of state bits clock rising)
rc5_next rc5-state.Idle bits clock rising h = either (InReach rc5.machine) rising refl refl
rc5_next (rc5-state.Data n) bits clock rising h =
    either (InReach rc5.machine) (eqb (clock % 2) 0) (either (λ state. Within (rc5.past_end state)) (eqb n 0) refl (down n 12 h)) h
rc5_next rc5-state.Done bits clock rising h = refl
rc5_next (rc5-state.Error fault) bits clock rising h = refl

pub rc5_step : StepsInReach rc5.machine
unfolding rc5.step_in
rc5_step spans m edge h =
    let t = rc5.ticked m (place_of (lookup_of spans edge.duration)) in
    rc5_next t.state t.bits t.clock edge.rising (either (InReach rc5.machine) (eqb (place_of (lookup_of spans edge.duration)) none) refl h)

pub rc5_in_reach : StaysInReach rc5.machine
rc5_in_reach = stays rc5.machine rc5_step (λ m. refl)

pub rc5_no_refusal : NoRefusal rc5.machine
rc5_no_refusal m = elim m.state as (λ (state : Rc5State). is_refused (report_of (rc5.status_of state) ((rc5.machine).command m)) ≡ false)
    [ rc5-state.Idle ↦ refl | rc5-state.Data n ↦ refl | rc5-state.Done ↦ refl | rc5-state.Error fault ↦ refl ]

rc6_next : (state : Rc6State) (m : Rc6Memory) (rising : Bool) (ticks : ℕ) → Within (rc6.past_end state) → InReach rc6.machine (rc6.next_of state m rising ticks)
rc6_next rc6-state.Idle m rising ticks h = either (InReach rc6.machine) rising refl refl
rc6_next rc6-state.Leading m rising ticks h = either (λ state. Within (rc6.past_end state)) (rc6.is_fall rising ticks 6) refl refl
rc6_next rc6-state.LeadingPause m rising ticks h = either (λ state. Within (rc6.past_end state)) (rc6.is_rise rising ticks 2) refl refl
rc6_next (rc6-state.HeaderData n) m rising ticks h =
    either (InReach rc6.machine) (rc6.is_odd m.clock) (either (λ state. Within (rc6.past_end state)) (eqb n 0) refl (down n 3 h)) h
rc6_next rc6-state.Trailing m rising ticks h =
    either (InReach rc6.machine) (rc6.is_fall rising ticks 3) refl
    (either (InReach rc6.machine) (rc6.is_rise rising ticks 2) refl (either (λ state. Within (rc6.past_end state)) (rc6.is_fall rising ticks 1) refl refl))
rc6_next (rc6-state.Data n) m rising ticks h =
    either (InReach rc6.machine) (rc6.is_odd m.clock) (either (λ state. Within (rc6.past_end state)) (eqb n 0) refl (down n 15 h)) h
rc6_next rc6-state.Done m rising ticks h = refl
rc6_next (rc6-state.Error fault) m rising ticks h = refl

pub rc6_step : StepsInReach rc6.machine
unfolding rc6.step_in
rc6_step spans m edge h =
    let t = rc6.ticked m (place_of (lookup_of spans edge.duration)) in
    rc6_next t.state t edge.rising _ (either (InReach rc6.machine) (eqb (place_of (lookup_of spans edge.duration)) none) refl h)

pub rc6_in_reach : StaysInReach rc6.machine
rc6_in_reach = stays rc6.machine rc6_step (λ m. refl)

pub rc6_no_refusal : NoRefusal rc6.machine
rc6_no_refusal m = elim m.state as (λ (state : Rc6State). is_refused (report_of (rc6.status_of state) ((rc6.machine).command m)) ≡ false)
    [ rc6-state.Idle ↦ refl | rc6-state.Leading ↦ refl | rc6-state.LeadingPause ↦ refl | rc6-state.HeaderData n ↦ refl | rc6-state.Trailing ↦ refl | rc6-state.Data n ↦ refl | rc6-state.Done ↦ refl | rc6-state.Error fault ↦ refl ]

sbp_next : (state : SbpState) (place address bits saved : ℕ) → Within (sbp.past_end state) → InReach sbp.machine (sbp.next_of state place address bits saved)
sbp_next sbp-state.Init place address bits saved h = either (InReach sbp.machine) (eqb place sbp.sync) refl refl
sbp_next (sbp-state.Address n) place address bits saved h =
    let e = picked (λ state. Within (sbp.past_end state)) (eqb n 15) sbp-state.Divider (sbp-state.Address (n + 1)) (λ t. refl) (up n 15 h) in
    either (InReach sbp.machine) (eqb place sbp.zero_bit) e (either (InReach sbp.machine) (eqb place sbp.one_bit) e refl)
sbp_next sbp-state.Divider place address bits saved h = either (InReach sbp.machine) (eqb place sbp.pause) refl refl
sbp_next (sbp-state.Command n) place address bits saved h =
    let e = picked (λ state. Within (sbp.past_end state)) (eqb n 19) sbp-state.Done (sbp-state.Command (n + 1)) (λ t. refl) (up n 19 h) in
    either (InReach sbp.machine) (eqb place sbp.zero_bit) e (either (InReach sbp.machine) (eqb place sbp.one_bit) e refl)
sbp_next sbp-state.Done place address bits saved h = refl
sbp_next (sbp-state.Error fault) place address bits saved h = refl

pub sbp_step : StepsInReach sbp.machine
unfolding sbp.step_in
sbp_step spans m edge h = either (InReach sbp.machine) edge.rising (sbp_next m.state _ m.address m.command m.saved h) h

pub sbp_in_reach : StaysInReach sbp.machine
sbp_in_reach = stays sbp.machine sbp_step (λ m. refl)

pub sbp_no_refusal : NoRefusal sbp.machine
sbp_no_refusal m = elim m.state as (λ (state : SbpState). is_refused (report_of (sbp.status_of state) ((sbp.machine).command m)) ≡ false)
    [ sbp-state.Init ↦ refl | sbp-state.Address n ↦ refl | sbp-state.Divider ↦ refl | sbp-state.Command n ↦ refl | sbp-state.Done ↦ refl | sbp-state.Error fault ↦ refl ]

denon_next : (state : DenonState) (place bits : ℕ) → Within (denon.past_end state) → InReach denon.machine (denon.next_of state place bits)
denon_next denon-state.Idle place bits h = either (InReach denon.machine) (eqb place denon.sync) refl refl
denon_next (denon-state.Data n) place bits h =
    picked (InReach denon.machine) (eqb n 47) (denon.from_last place bits) (denon.from_bit n place bits)
    (λ t. either (InReach denon.machine) (eqb place denon.zero_bit) refl (either (InReach denon.machine) (eqb place denon.one_bit) refl refl))
    (λ t. let e = up n 47 h t in either (InReach denon.machine) (eqb place denon.zero_bit) e (either (InReach denon.machine) (eqb place denon.one_bit) e refl))
denon_next denon-state.Done place bits h = refl

pub denon_step : StepsInReach denon.machine
unfolding denon.step_in
denon_step spans m edge h = either (InReach denon.machine) edge.rising (denon_next m.state _ m.bits h) h

pub denon_in_reach : StaysInReach denon.machine
denon_in_reach = stays denon.machine denon_step (λ m. refl)

pub denon_no_refusal : NoRefusal denon.machine
denon_no_refusal m = elim m.state as (λ (state : DenonState). is_refused (report_of (denon.status_of state) (denon.command_at state m.bits)) ≡ false)
    [ denon-state.Idle ↦ refl | denon-state.Data n ↦ refl | denon-state.Done ↦ refl ]

-- the guard turns a state only into an error, which has no counter
pub guarded_step : StepsInReach guarded.machine
unfolding guarded.step_in
guarded_step spans m edge h =
    either (λ state. Within (nec.past_end state)) (guarded.is_unmarked m.nec.state ((nec.machine).step spans m.nec edge).state m.mark) refl (nec_step spans m.nec edge h)

pub guarded_in_reach : StaysInReach guarded.machine
guarded_in_reach = stays guarded.machine guarded_step (λ m. refl)

pub guarded_no_refusal : NoRefusal guarded.machine
guarded_no_refusal m = nec_no_refusal m.nec

-- ---- by number

number_step : (spans : Spans) (m : Memory) (edge : Edge) → InReach by_number.machine m → InReach by_number.machine (total by_number.machine spans m edge).memory
number_step spans (Nec m) edge h = rw (total_own nec_own spans m edge) (nec_in_reach spans m edge h)
number_step spans (Rc5 m) edge h = rw (total_own rc5_own spans m edge) (rc5_in_reach spans m edge h)
number_step spans (Rc6 m) edge h = rw (total_own rc6_own spans m edge) (rc6_in_reach spans m edge h)
number_step spans (Sbp m) edge h = rw (total_own sbp_own spans m edge) (sbp_in_reach spans m edge h)
number_step spans (Denon m) edge h = rw (total_own denon_own spans m edge) (denon_in_reach spans m edge h)
number_step spans (Guarded m) edge h = rw (total_own guarded_own spans m edge) (guarded_in_reach spans m edge h)

pub number_in_reach : StaysInReach by_number.machine
number_in_reach = number_step

pub number_no_refusal : NoRefusal by_number.machine
number_no_refusal (Nec m) = nec_no_refusal m
number_no_refusal (Rc5 m) = rc5_no_refusal m
number_no_refusal (Rc6 m) = rc6_no_refusal m
number_no_refusal (Sbp m) = sbp_no_refusal m
number_no_refusal (Denon m) = denon_no_refusal m
number_no_refusal (Guarded m) = guarded_no_refusal m
