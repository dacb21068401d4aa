-- The spans that are built are those of the protocol at the rate, and only where both are taken. By cases on the two tests. Assumes nothing.
use Rattle.std.specs.Prelude.{◌≡◌, refl, ℕ, Bool, true, false, cond, Ok, Err, IfOk}
use Rattle.refusals.specs.declared.Refusal.TheVariants.{BadRate, BadProtocol}
use Rattle.refusals.specs.Refusals.{protocol_taken, rate_taken}
use Rattle.spans.specs.Spans.{spans_at, spans_of}
use Rattle.spans.specs.declared.Spans.{Spans}

module _ (protocol rate : ℕ) where
  pub built : protocol_taken protocol ≡ true → rate_taken rate ≡ true → spans_of protocol rate ≡ Ok (spans_at protocol rate)
  unfolding spans_of
  built p r = simp (p, r)

  -- what holds of the spans of a protocol and a rate that are taken holds of all that are built
  pub if_built : (P : Spans → Type 0) → (protocol_taken protocol ≡ true → rate_taken rate ≡ true → P (spans_at protocol rate)) → IfOk (spans_of protocol rate) P
  unfolding spans_of
  if_built P holds = go (protocol_taken protocol) (rate_taken rate) refl refl
    where
      go : (known rated : Bool) → protocol_taken protocol ≡ known → rate_taken rate ≡ rated → IfOk (cond known (cond rated (Ok (spans_at protocol rate)) (Err BadRate)) (Err BadProtocol)) P
      go true true p r = holds p r
      go true false p r = tt
      go false rated p r = tt
