-- The contract of each generic function, at every type and with every impl of `Protocol`, asks nothing of a caller but that the type outlives the call, and leaves
-- no choice open; and the function meets it where the environment has its code and the impl's methods. Assumes nothing.
use Rattle.std.specs.Prelude.{refl, [], ◌∷◌}
use Rattle.determined.specs.Determined.{FixedWhere, asks_lives, both, one, alike, alike_left, meet, ◌&◌, ◌⨾◌}
use seplogic.Ra.Ura.{Ura}
use types.Logic.{Logic}
use prog.Model.{Model}
use prog.Wired.{Wired}
use contract.Running.{Running}
use contract.BorrowLft.{◌⊑◌}
use contract.Lifetimes.{lft_at}
use denote.Param.{bounded}
use denote.Param.Laws.{Laws, IsCopy}
use denote.RattleType.{RattleType}
use mir.Syntax.{Dict, a_type, dcons, dnil}
use Rattle.std.specs.declared.clone.Clone as clone
use Rattle.std.specs.contracts.clone.Clone.TheBound as clone_bound
use Rattle.reports.specs.declared.protocol.Protocol as protocol
use Rattle.reports.specs.contracts.protocol.Protocol.TheBound as protocol_bound
use Rattle.reports.specs.declared.protocol.Numbered as numbered
use Rattle.reports.specs.contracts.protocol.Numbered.TheBound as numbered_bound
use Rattle.reports.specs.contracts.protocol.event as event
use Rattle.reports.proofs.protocol.event.Symbol as event_symbol
use Rattle.reports.proofs.protocol.event.Met as event_met
use Rattle.reports.specs.contracts.protocol.settle as settle
use Rattle.reports.proofs.protocol.settle.Symbol as settle_symbol
use Rattle.reports.proofs.protocol.settle.Met as settle_met
use Rattle.reports.specs.contracts.protocol.event_total as event_total
use Rattle.reports.proofs.protocol.event_total.Symbol as event_total_symbol
use Rattle.reports.proofs.protocol.event_total.Met as event_total_met
use Rattle.reports.specs.contracts.protocol.Decoder.new as decoder_new
use Rattle.reports.proofs.protocol.Decoder.new.Symbol as decoder_new_symbol
use Rattle.reports.proofs.protocol.Decoder.new.Met as decoder_new_met
use Rattle.reports.specs.contracts.protocol.Decoder.event as decoder_event
use Rattle.reports.proofs.protocol.Decoder.event.Symbol as decoder_event_symbol
use Rattle.reports.proofs.protocol.Decoder.event.Met as decoder_event_met
use Rattle.reports.specs.contracts.protocol.Decoder.command as decoder_command
use Rattle.reports.proofs.protocol.Decoder.command.Symbol as decoder_command_symbol
use Rattle.reports.proofs.protocol.Decoder.command.Met as decoder_command_met
use Rattle.reports.specs.contracts.protocol.Decoder.reset as decoder_reset
use Rattle.reports.proofs.protocol.Decoder.reset.Symbol as decoder_reset_symbol
use Rattle.reports.proofs.protocol.Decoder.reset.Met as decoder_reset_met
use Rattle.reports.specs.contracts.protocol.Decoder.event_total as decoder_event_total
use Rattle.reports.proofs.protocol.Decoder.event_total.Symbol as decoder_event_total_symbol
use Rattle.reports.proofs.protocol.Decoder.event_total.Met as decoder_event_total_met
use Rattle.reports.specs.contracts.protocol.Decoder.event_by_value as event_by_value
use Rattle.reports.proofs.protocol.Decoder.event_by_value.Symbol as event_by_value_symbol
use Rattle.reports.proofs.protocol.Decoder.event_by_value.Met as event_by_value_met
use Rattle.reports.specs.contracts.protocol.Decoder.reset_by_value as reset_by_value
use Rattle.reports.proofs.protocol.Decoder.reset_by_value.Symbol as reset_by_value_symbol
use Rattle.reports.proofs.protocol.Decoder.reset_by_value.Met as reset_by_value_met
use Rattle.reports.specs.contracts.protocol.Decoder.event_total_by_value as event_total_by_value
use Rattle.reports.proofs.protocol.Decoder.event_total_by_value.Symbol as event_total_by_value_symbol
use Rattle.reports.proofs.protocol.Decoder.event_total_by_value.Met as event_total_by_value_met

module _ {M : Type 1} (𝓤 : Ura M) (𝓛 : Logic 𝓤) (𝓜 : Model 𝓤 𝓛.H) (𝓡 : Running 𝓤 𝓛.H 𝓜) (T : RattleType) (laws : Laws T) (copy : IsCopy T)
    (P : protocol.Ghosts T.Denot) (d : Dict) (C : clone.Ghosts T.Denot) (e : Dict) where
  abbrev Bounds : Type 2
  Bounds = protocol_bound.Met 𝓛 𝓜 𝓡 𝓡.env T P d C e × clone_bound.Met 𝓛 𝓜 𝓡 𝓡.env T C e

  pub event_fixed
      : FixedWhere 𝓛 (event.ended T P d C e) (event.clauses T P d C e 𝓛 𝓜.mem 𝓡.returns) (Wired 𝓡.env event_symbol.code × Bounds) (λ κs. lft_at 3 2 tt κs ⊑ T.lives)
      (𝓡.run (𝓡.env (event_symbol.name (bounded (a_type ∷ []) (T, tt) (dcons d (dcons e dnil))))))
  event_fixed =
      (λ w. event_met.met 𝓤 𝓛 𝓜 𝓡 w.0 T laws copy P d C e w.1.0 w.1.1, λ κs a l. asks_lives 𝓤 l, λ κs a g h r s v w. both (one & one) (one & one) alike_left)

  pub settle_fixed
      : FixedWhere 𝓛 (settle.ended T P d C e) (settle.clauses T P d C e 𝓛 𝓜.mem 𝓡.returns) (Wired 𝓡.env settle_symbol.code × Bounds) (λ κs. lft_at 2 1 tt κs ⊑ T.lives)
      (𝓡.run (𝓡.env (settle_symbol.name (bounded (a_type ∷ []) (T, tt) (dcons d (dcons e dnil))))))
  settle_fixed =
      (λ w. settle_met.met 𝓤 𝓛 𝓜 𝓡 w.0 T laws copy P d C e w.1.0 w.1.1, λ κs a l. asks_lives 𝓤 l, λ κs a g h r s v w. both (one & one) (one & one) (λ p q. alike_left p q))

  pub event_total_fixed
      : FixedWhere 𝓛 (event_total.ended T P d C e) (event_total.clauses T P d C e 𝓛 𝓜.mem 𝓡.returns) (Wired 𝓡.env event_total_symbol.code × Bounds) (λ κs. lft_at 3 2 tt κs ⊑ T.lives)
      (𝓡.run (𝓡.env (event_total_symbol.name (bounded (a_type ∷ []) (T, tt) (dcons d (dcons e dnil))))))
  event_total_fixed =
      (λ w. event_total_met.met 𝓤 𝓛 𝓜 𝓡 w.0 T laws copy P d C e w.1.0 w.1.1, λ κs a l. asks_lives 𝓤 l, λ κs a g h r s v w. both (one & one) (one & one) alike_left)

  pub decoder_new_fixed
      : (N : numbered.Ghosts T.Denot) (f : Dict) → FixedWhere 𝓛 (decoder_new.ended T P d C e N f) (decoder_new.clauses T P d C e N f 𝓛 𝓜.mem 𝓡.returns) (Wired 𝓡.env decoder_new_symbol.code × Bounds × numbered_bound.Met 𝓛 𝓜 𝓡 𝓡.env T N f P d C e) (λ κs. lft_at 1 0 tt κs ⊑ T.lives)
      (𝓡.run (𝓡.env (decoder_new_symbol.name (bounded (a_type ∷ []) (T, tt) (dcons d (dcons e (dcons f dnil)))))))
  decoder_new_fixed N f =
      (λ w. decoder_new_met.met 𝓤 𝓛 𝓜 𝓡 w.0 T laws copy P d C e N f w.1.0 w.1.1 w.2, λ κs a l. asks_lives 𝓤 l, λ κs a g h r s v w. both one one alike)

  pub decoder_event_fixed
      : FixedWhere 𝓛 (decoder_event.ended T P d C e) (decoder_event.clauses T P d C e 𝓛 𝓜.mem 𝓡.returns) (Wired 𝓡.env decoder_event_symbol.code × Bounds) (λ κs. lft_at 2 1 tt κs ⊑ T.lives)
      (𝓡.run (𝓡.env (decoder_event_symbol.name (bounded (a_type ∷ []) (T, tt) (dcons d (dcons e dnil))))))
  decoder_event_fixed =
      (λ w. decoder_event_met.met 𝓤 𝓛 𝓜 𝓡 w.0 T laws copy P d C e w.1.0 w.1.1, λ κs a l. asks_lives 𝓤 l, λ κs a g h r s v w. both (one & one) (one & one) alike_left)

  pub decoder_command_fixed
      : FixedWhere 𝓛 (decoder_command.ended T P d C e) (decoder_command.clauses T P d C e 𝓛 𝓜.mem 𝓡.returns) (Wired 𝓡.env decoder_command_symbol.code × Bounds) (λ κs. lft_at 2 1 tt κs ⊑ T.lives)
      (𝓡.run (𝓡.env (decoder_command_symbol.name (bounded (a_type ∷ []) (T, tt) (dcons d (dcons e dnil))))))
  decoder_command_fixed =
      (λ w. decoder_command_met.met 𝓤 𝓛 𝓜 𝓡 w.0 T laws copy P d C e w.1.0 w.1.1, λ κs a l. asks_lives 𝓤 l, λ κs a g h r s v w. both one one alike)

  pub decoder_reset_fixed
      : FixedWhere 𝓛 (decoder_reset.ended T P d C e) (decoder_reset.clauses T P d C e 𝓛 𝓜.mem 𝓡.returns) (Wired 𝓡.env decoder_reset_symbol.code × Bounds) (λ κs. lft_at 2 1 tt κs ⊑ T.lives)
      (𝓡.run (𝓡.env (decoder_reset_symbol.name (bounded (a_type ∷ []) (T, tt) (dcons d (dcons e dnil))))))
  decoder_reset_fixed =
      (λ w. decoder_reset_met.met 𝓤 𝓛 𝓜 𝓡 w.0 T laws copy P d C e w.1.0 w.1.1, λ κs a l. asks_lives 𝓤 l, λ κs a g h r s v w. both one one (λ p q. (refl, meet p q ⨾ refl)))

  pub decoder_event_total_fixed
      : FixedWhere 𝓛 (decoder_event_total.ended T P d C e) (decoder_event_total.clauses T P d C e 𝓛 𝓜.mem 𝓡.returns) (Wired 𝓡.env decoder_event_total_symbol.code × Bounds) (λ κs. lft_at 2 1 tt κs ⊑ T.lives)
      (𝓡.run (𝓡.env (decoder_event_total_symbol.name (bounded (a_type ∷ []) (T, tt) (dcons d (dcons e dnil))))))
  decoder_event_total_fixed =
      (λ w. decoder_event_total_met.met 𝓤 𝓛 𝓜 𝓡 w.0 T laws copy P d C e w.1.0 w.1.1, λ κs a l. asks_lives 𝓤 l, λ κs a g h r s v w. both (one & one) (one & one) alike_left)

  pub event_by_value_fixed
      : FixedWhere 𝓛 (event_by_value.ended T P d C e) (event_by_value.clauses T P d C e 𝓛 𝓜.mem 𝓡.returns) (Wired 𝓡.env event_by_value_symbol.code × Bounds) (λ κs. lft_at 1 0 tt κs ⊑ T.lives)
      (𝓡.run (𝓡.env (event_by_value_symbol.name (bounded (a_type ∷ []) (T, tt) (dcons d (dcons e dnil))))))
  event_by_value_fixed =
      (λ w. event_by_value_met.met 𝓤 𝓛 𝓜 𝓡 w.0 T laws copy P d C e w.1.0 w.1.1, λ κs a l. asks_lives 𝓤 l, λ κs a g h r s v w. both one one alike)

  pub reset_by_value_fixed
      : FixedWhere 𝓛 (reset_by_value.ended T P d C e) (reset_by_value.clauses T P d C e 𝓛 𝓜.mem 𝓡.returns) (Wired 𝓡.env reset_by_value_symbol.code × Bounds) (λ κs. lft_at 1 0 tt κs ⊑ T.lives)
      (𝓡.run (𝓡.env (reset_by_value_symbol.name (bounded (a_type ∷ []) (T, tt) (dcons d (dcons e dnil))))))
  reset_by_value_fixed =
      (λ w. reset_by_value_met.met 𝓤 𝓛 𝓜 𝓡 w.0 T laws copy P d C e w.1.0 w.1.1, λ κs a l. asks_lives 𝓤 l, λ κs a g h r s v w. both one one alike)

  pub event_total_by_value_fixed
      : FixedWhere 𝓛 (event_total_by_value.ended T P d C e) (event_total_by_value.clauses T P d C e 𝓛 𝓜.mem 𝓡.returns) (Wired 𝓡.env event_total_by_value_symbol.code × Bounds) (λ κs. lft_at 1 0 tt κs ⊑ T.lives)
      (𝓡.run (𝓡.env (event_total_by_value_symbol.name (bounded (a_type ∷ []) (T, tt) (dcons d (dcons e dnil))))))
  event_total_by_value_fixed =
      (λ w. event_total_by_value_met.met 𝓤 𝓛 𝓜 𝓡 w.0 T laws copy P d C e w.1.0 w.1.1, λ κs a l. asks_lives 𝓤 l, λ κs a g h r s v w. both one one alike)
