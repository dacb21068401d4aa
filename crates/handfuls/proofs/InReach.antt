-- Document 02, request 01: refusal 4 is tested once a batch. Where a machine's steps and resets keep it so, its runs of edges do
-- (`runs_in_reach`); and where its rule reports no refusal, no report of such a run is one (`reports_taken`). So a batch tests refusal 4 once. Assumes nothing.
use mathlib.Core.Path.{◌≡◌, refl}
use mathlib.Core.Bool.{Bool, true, false}
use mathlib.Core.List.{List, [], ◌∷◌}
use Prim.Native.Nat.{ℕ, zero, suc}
use lib.ListN.{get_or}
use Rattle.spans.specs.declared.Spans.{Spans}
use Rattle.reports.specs.Edges.{Edge}
use Rattle.reports.specs.Rule.{report_of}
use Rattle.reports.specs.Machine.{Machine, total, run_reports, run_after}
use Rattle.reports.specs.declared.Report.{Report}
use Rattle.reports.specs.declared.Report.TheVariants as report
use Rattle.reports.proofs.Machine.{total_taken, total_invariant, after_invariant}

abbrev pub InReach : {Memory : Type 0} → Machine Memory → Memory → Type 0
InReach M m = M.past_end m ≡ false

-- neither a step nor an edge of event_total takes a memory past its end
abbrev pub StepsInReach : {Memory : Type 0} → Machine Memory → Type 0
StepsInReach {Memory} M = (spans : Spans) (m : Memory) (edge : Edge) → InReach M m → InReach M (M.step spans m edge)

abbrev pub StaysInReach : {Memory : Type 0} → Machine Memory → Type 0
StaysInReach {Memory} M = (spans : Spans) (m : Memory) (edge : Edge) → InReach M m → InReach M (total M spans m edge).memory

abbrev pub is_refused : Report → Bool
is_refused report.Nothing = false
is_refused (report.Command command) = false
is_refused (report.Error fault) = false
is_refused (report.Refused refusal) = true

-- of no memory the rule reports a refusal: its status is none, and where it is done its command is none
abbrev pub NoRefusal : {Memory : Type 0} → Machine Memory → Type 0
NoRefusal {Memory} M = (m : Memory) → is_refused (report_of (M.status m) (M.command m)) ≡ false

module _ {Memory : Type 0} (M : Machine Memory) where
  pub stays : StepsInReach M → ((m : Memory) → InReach M (M.reset m)) → StaysInReach M
  stays stepped reset spans m edge h = total_invariant M spans m edge (InReach M) h (stepped spans m edge h) (λ after k. reset after)

  module _ (keeps : StaysInReach M) (spans : Spans) where
    pub runs_in_reach : (m : Memory) (edges : List Edge) → InReach M m → InReach M (run_after M spans m edges)
    runs_in_reach = after_invariant M spans (InReach M) (keeps spans)

    pub reports_taken
        : NoRefusal M → (m : Memory) (edges : List Edge) (at : ℕ) → InReach M m → is_refused (get_or (run_reports M spans m edges) at report.Nothing) ≡ false
    unfolding run_reports
    reports_taken tells m [] at h = refl
    reports_taken tells m (edge ∷ edges) zero h = rw (total_taken M spans m edge h) (tells (M.step spans m edge))
    reports_taken tells m (edge ∷ edges) (suc at) h = reports_taken tells (total M spans m edge).memory edges at (keeps spans m edge h)
