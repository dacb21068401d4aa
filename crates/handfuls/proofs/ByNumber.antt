-- A batch of a machine inside another comes to what the other's does: the run of edges does, by the laws of `reports`. So a batch of a decoder by number is the
-- protocol's own. Assumes nothing.
use mathlib.Core.Path.{◌≡◌, refl}
use mathlib.Core.Bool.{Bool, true, false, cond, not}
use mathlib.Core.List.{List}
use Prim.Native.Nat.{ℕ}
use lib.Dec.{eqb}
use lib.ListN.{length, take}
use Rattle.std.specs.Prelude.{Result, Ok, Err}
use Rattle.refusals.specs.declared.Refusal.{Refusal}
use Rattle.refusals.specs.declared.Refusal.TheVariants.{PastEnd, UnlikeLists}
use Rattle.spans.specs.declared.Spans.{Spans}
use Rattle.reports.specs.Edges.{Edge}
use Rattle.reports.specs.Machine.{Machine, Inside, run_reports}
use Rattle.reports.proofs.Machine.{reports_own, after_own}
use Rattle.handfuls.specs.Batch.{edges_in, answers_of, Handful, used_by, handful, batch}
use Rattle.handfuls.specs.Columns.{room_of, batch_into}

-- the same with another memory
abbrev pub lifted : {A B : Type 0} → (A → B) → Handful A → Handful B
lifted of h = record { reason = h.reason; used = h.used; answers = h.answers; memory = of h.memory }

abbrev pub lifted_result : {A B : Type 0} → (A → B) → Result (Handful A) Refusal → Result (Handful B) Refusal
lifted_result of (Ok h) = Ok (lifted of h)
lifted_result of (Err refusal) = Err refusal

spread
    : {A B : Type 0} (of : A → B) (taken : Handful A) (in_reach same : Bool)
    → cond in_reach (cond same (Ok (lifted of taken)) (Err UnlikeLists)) (Err PastEnd) ≡ lifted_result of (cond in_reach (cond same (Ok taken) (Err UnlikeLists)) (Err PastEnd))
spread of taken true true = refl
spread of taken true false = refl
spread of taken false same = refl

module _ {Own Other : Type 0} {A : Machine Own} {B : Machine Other} {of : Own → Other} (W : Inside A B of) (spans : Spans) (m : Own) where
  handful_own : (room : ℕ) (edges : List Edge) → handful B spans room (of m) edges ≡ lifted of (handful A spans room m edges)
  unfolding handful
  handful_own room edges =
      rw (reports_own W spans m edges, after_own W spans m (take (used_by (length edges) room (answers_of 0 (run_reports A spans m edges))) edges))

  pub batch_own
      : (levels : List Bool) (durations edges kinds values : List ℕ)
      → batch_into B spans (of m) levels durations edges kinds values ≡ lifted_result of (batch_into A spans m levels durations edges kinds values)
  unfolding batch
  batch_own levels durations edges kinds values =
      let room = room_of (length edges) (length kinds) (length values) in
      rw (W.past_end_own m, handful_own room (edges_in levels durations))
      (spread of (handful A spans room m (edges_in levels durations)) (not (A.past_end m)) (eqb (length levels) (length durations)))
