-- What the impls of `Protocol` and `Numbered` for one memory give; and that each generic function, for such a memory, is `Fixed`, as a function with no type
-- parameter is: it asks nothing of a caller, and leaves no choice open. Each protocol gives its own in its proofs/Instance.antt. Assumes nothing.
use Rattle.std.specs.Prelude.{[], ◌∷◌}
use Rattle.determined.specs.Determined.{Fixed}
use seplogic.Ra.Ura.{Ura}
use types.Logic.{Logic}
use prog.Model.{Model}
use prog.Wired.{Wired, AllWired, Code, Codes, node, and, end}
use base.Fml.{Lft}
use contract.Running.{Running}
use contract.BorrowLft.{◌⊑◌}
use contract.Lifetimes.{lft_at}
use denote.Param.{bounded}
use denote.Param.Laws.{Laws, IsCopy}
use denote.RattleType.{RattleType}
use mir.Syntax.{Args, Dict, Dicts, Callee, a_type, dcons, dnil}
use Rattle.std.specs.declared.clone.Clone as declared_clone
use Rattle.std.specs.contracts.clone.Clone.TheBound as clone_bound
use Rattle.std.below.core.specs.contracts.clone.Clone+copy.TheImpl as clone
use Rattle.std.below.core.proofs.clone.Clone+copy.clone.Symbol as clone_symbol
use Rattle.std.below.core.proofs.clone.Clone+copy.TheImpl.Met as clone_met
use Rattle.reports.specs.declared.protocol.Protocol as protocol
use Rattle.reports.specs.contracts.protocol.Protocol.TheBound as protocol_bound
use Rattle.reports.specs.declared.protocol.Numbered as numbered
use Rattle.reports.specs.contracts.protocol.Numbered.TheBound as numbered_bound
use Rattle.reports.proofs.Generic as generic
use Rattle.reports.specs.contracts.protocol.event as event
use Rattle.reports.proofs.protocol.event.Symbol as event_symbol
use Rattle.reports.specs.contracts.protocol.settle as settle
use Rattle.reports.proofs.protocol.settle.Symbol as settle_symbol
use Rattle.reports.specs.contracts.protocol.event_total as event_total
use Rattle.reports.proofs.protocol.event_total.Symbol as event_total_symbol
use Rattle.reports.specs.contracts.protocol.Decoder.new as decoder_new
use Rattle.reports.proofs.protocol.Decoder.new.Symbol as decoder_new_symbol
use Rattle.reports.specs.contracts.protocol.Decoder.event as decoder_event
use Rattle.reports.proofs.protocol.Decoder.event.Symbol as decoder_event_symbol
use Rattle.reports.specs.contracts.protocol.Decoder.command as decoder_command
use Rattle.reports.proofs.protocol.Decoder.command.Symbol as decoder_command_symbol
use Rattle.reports.specs.contracts.protocol.Decoder.reset as decoder_reset
use Rattle.reports.proofs.protocol.Decoder.reset.Symbol as decoder_reset_symbol
use Rattle.reports.specs.contracts.protocol.Decoder.event_total as decoder_event_total
use Rattle.reports.proofs.protocol.Decoder.event_total.Symbol as decoder_event_total_symbol
use Rattle.reports.specs.contracts.protocol.Decoder.event_by_value as event_by_value
use Rattle.reports.proofs.protocol.Decoder.event_by_value.Symbol as event_by_value_symbol
use Rattle.reports.specs.contracts.protocol.Decoder.reset_by_value as reset_by_value
use Rattle.reports.proofs.protocol.Decoder.reset_by_value.Symbol as reset_by_value_symbol
use Rattle.reports.specs.contracts.protocol.Decoder.event_total_by_value as event_total_by_value
use Rattle.reports.proofs.protocol.Decoder.event_total_by_value.Symbol as event_total_by_value_symbol

-- a memory with its impl of `Protocol`
pub record Impl : Type 2 where
  pub row : RattleType
  pub laws : Laws row
  pub copy : IsCopy row
  -- it has no lifetime that a call could outlive
  pub lives : (κ : Lft) → κ ⊑ row.lives
  pub ghosts : protocol.Ghosts row.Denot
  pub dict : Dict
  -- the code of its methods, which meet the trait's contracts where the environment has it
  pub methods : Codes
  pub met
      : (M : Type 1) (𝓤 : Ura M) (𝓛 : Logic 𝓤) (𝓜 : Model 𝓤 𝓛.H) (𝓡 : Running 𝓤 𝓛.H 𝓜)
      → AllWired 𝓡.env methods → protocol_bound.Met 𝓛 𝓜 𝓡 𝓡.env row ghosts dict (clone.ghosts row) (clone.dict row)

-- and its impl of `Numbered`
pub record Number (I : Impl) : Type 2 where
  pub ghosts : numbered.Ghosts I.row.Denot
  pub dict : Dict
  pub method : Code
  pub met
      : (M : Type 1) (𝓤 : Ura M) (𝓛 : Logic 𝓤) (𝓜 : Model 𝓤 𝓛.H) (𝓡 : Running 𝓤 𝓛.H 𝓜)
      → Wired 𝓡.env method → numbered_bound.Met 𝓛 𝓜 𝓡 𝓡.env I.row ghosts dict I.ghosts I.dict (clone.ghosts I.row) (clone.dict I.row)

module _ (I : Impl) where
  open I use {row, laws, copy, ghosts, dict}

  abbrev c : declared_clone.Ghosts row.Denot
  c = clone.ghosts row

  abbrev e : Dict
  e = clone.dict row

  -- a function's code with that of the methods
  abbrev pub with_methods : Code → Code
  with_methods code = node [] [] (and code (and clone_symbol.code I.methods))

  abbrev pub named : (Args → Callee) → Dicts → Callee
  named name more = name (bounded (a_type ∷ []) (row, tt) (dcons dict (dcons e more)))

  pub record DecoderFixed : Type 2 where
    pub event_fixed : Fixed (event.ended row ghosts dict c e) (λ M 𝓤 𝓛. event.clauses row ghosts dict c e 𝓛) (with_methods event_symbol.code) (named event_symbol.name dnil)
    pub settle_fixed : Fixed (settle.ended row ghosts dict c e) (λ M 𝓤 𝓛. settle.clauses row ghosts dict c e 𝓛) (with_methods settle_symbol.code) (named settle_symbol.name dnil)
    pub event_total_fixed : Fixed (event_total.ended row ghosts dict c e) (λ M 𝓤 𝓛. event_total.clauses row ghosts dict c e 𝓛) (with_methods event_total_symbol.code) (named event_total_symbol.name dnil)
    pub decoder_event_fixed : Fixed (decoder_event.ended row ghosts dict c e) (λ M 𝓤 𝓛. decoder_event.clauses row ghosts dict c e 𝓛) (with_methods decoder_event_symbol.code) (named decoder_event_symbol.name dnil)
    pub decoder_command_fixed : Fixed (decoder_command.ended row ghosts dict c e) (λ M 𝓤 𝓛. decoder_command.clauses row ghosts dict c e 𝓛) (with_methods decoder_command_symbol.code) (named decoder_command_symbol.name dnil)
    pub decoder_reset_fixed : Fixed (decoder_reset.ended row ghosts dict c e) (λ M 𝓤 𝓛. decoder_reset.clauses row ghosts dict c e 𝓛) (with_methods decoder_reset_symbol.code) (named decoder_reset_symbol.name dnil)
    pub decoder_event_total_fixed : Fixed (decoder_event_total.ended row ghosts dict c e) (λ M 𝓤 𝓛. decoder_event_total.clauses row ghosts dict c e 𝓛) (with_methods decoder_event_total_symbol.code) (named decoder_event_total_symbol.name dnil)
    pub event_by_value_fixed : Fixed (event_by_value.ended row ghosts dict c e) (λ M 𝓤 𝓛. event_by_value.clauses row ghosts dict c e 𝓛) (with_methods event_by_value_symbol.code) (named event_by_value_symbol.name dnil)
    pub reset_by_value_fixed : Fixed (reset_by_value.ended row ghosts dict c e) (λ M 𝓤 𝓛. reset_by_value.clauses row ghosts dict c e 𝓛) (with_methods reset_by_value_symbol.code) (named reset_by_value_symbol.name dnil)
    pub event_total_by_value_fixed : Fixed (event_total_by_value.ended row ghosts dict c e) (λ M 𝓤 𝓛. event_total_by_value.clauses row ghosts dict c e 𝓛) (with_methods event_total_by_value_symbol.code) (named event_total_by_value_symbol.name dnil)

  abbrev pub NewFixed : Number I → Type 2
  NewFixed N =
      Fixed (decoder_new.ended row ghosts dict c e N.ghosts N.dict) (λ M 𝓤 𝓛. decoder_new.clauses row ghosts dict c e N.ghosts N.dict 𝓛)
      (node [] [] (and N.method (and (with_methods decoder_new_symbol.code) end)))
      (named decoder_new_symbol.name (dcons N.dict dnil))

  pub bounds
      : (M : Type 1) (𝓤 : Ura M) (𝓛 : Logic 𝓤) (𝓜 : Model 𝓤 𝓛.H) (𝓡 : Running 𝓤 𝓛.H 𝓜)
      → AllWired 𝓡.env (and clone_symbol.code I.methods) → protocol_bound.Met 𝓛 𝓜 𝓡 𝓡.env row ghosts dict c e × clone_bound.Met 𝓛 𝓜 𝓡 𝓡.env row c e
  bounds M 𝓤 𝓛 𝓜 𝓡 w = (I.met M 𝓤 𝓛 𝓜 𝓡 w.1, clone_met.bound 𝓡.env w.0 row laws copy M 𝓤 𝓛 𝓜 𝓡)

  pub decoder_fixed : DecoderFixed
  decoder_fixed = record {
    event_fixed = λ M 𝓤 𝓛 𝓜 𝓡. let f = generic.event_fixed 𝓤 𝓛 𝓜 𝓡 row laws copy ghosts dict c e in
        (λ w. f.0 (w.2.0, bounds M 𝓤 𝓛 𝓜 𝓡 w.2.1), λ κs a. f.1 κs a (I.lives (lft_at 3 2 tt κs)), f.2);
    settle_fixed = λ M 𝓤 𝓛 𝓜 𝓡. let f = generic.settle_fixed 𝓤 𝓛 𝓜 𝓡 row laws copy ghosts dict c e in
        (λ w. f.0 (w.2.0, bounds M 𝓤 𝓛 𝓜 𝓡 w.2.1), λ κs a. f.1 κs a (I.lives (lft_at 2 1 tt κs)), f.2);
    event_total_fixed = λ M 𝓤 𝓛 𝓜 𝓡. let f = generic.event_total_fixed 𝓤 𝓛 𝓜 𝓡 row laws copy ghosts dict c e in
        (λ w. f.0 (w.2.0, bounds M 𝓤 𝓛 𝓜 𝓡 w.2.1), λ κs a. f.1 κs a (I.lives (lft_at 3 2 tt κs)), f.2);
    decoder_event_fixed = λ M 𝓤 𝓛 𝓜 𝓡. let f = generic.decoder_event_fixed 𝓤 𝓛 𝓜 𝓡 row laws copy ghosts dict c e in
        (λ w. f.0 (w.2.0, bounds M 𝓤 𝓛 𝓜 𝓡 w.2.1), λ κs a. f.1 κs a (I.lives (lft_at 2 1 tt κs)), f.2);
    decoder_command_fixed = λ M 𝓤 𝓛 𝓜 𝓡. let f = generic.decoder_command_fixed 𝓤 𝓛 𝓜 𝓡 row laws copy ghosts dict c e in
        (λ w. f.0 (w.2.0, bounds M 𝓤 𝓛 𝓜 𝓡 w.2.1), λ κs a. f.1 κs a (I.lives (lft_at 2 1 tt κs)), f.2);
    decoder_reset_fixed = λ M 𝓤 𝓛 𝓜 𝓡. let f = generic.decoder_reset_fixed 𝓤 𝓛 𝓜 𝓡 row laws copy ghosts dict c e in
        (λ w. f.0 (w.2.0, bounds M 𝓤 𝓛 𝓜 𝓡 w.2.1), λ κs a. f.1 κs a (I.lives (lft_at 2 1 tt κs)), f.2);
    decoder_event_total_fixed = λ M 𝓤 𝓛 𝓜 𝓡. let f = generic.decoder_event_total_fixed 𝓤 𝓛 𝓜 𝓡 row laws copy ghosts dict c e in
        (λ w. f.0 (w.2.0, bounds M 𝓤 𝓛 𝓜 𝓡 w.2.1), λ κs a. f.1 κs a (I.lives (lft_at 2 1 tt κs)), f.2);
    event_by_value_fixed = λ M 𝓤 𝓛 𝓜 𝓡. let f = generic.event_by_value_fixed 𝓤 𝓛 𝓜 𝓡 row laws copy ghosts dict c e in
        (λ w. f.0 (w.2.0, bounds M 𝓤 𝓛 𝓜 𝓡 w.2.1), λ κs a. f.1 κs a (I.lives (lft_at 1 0 tt κs)), f.2);
    reset_by_value_fixed = λ M 𝓤 𝓛 𝓜 𝓡. let f = generic.reset_by_value_fixed 𝓤 𝓛 𝓜 𝓡 row laws copy ghosts dict c e in
        (λ w. f.0 (w.2.0, bounds M 𝓤 𝓛 𝓜 𝓡 w.2.1), λ κs a. f.1 κs a (I.lives (lft_at 1 0 tt κs)), f.2);
    event_total_by_value_fixed = λ M 𝓤 𝓛 𝓜 𝓡. let f = generic.event_total_by_value_fixed 𝓤 𝓛 𝓜 𝓡 row laws copy ghosts dict c e in
        (λ w. f.0 (w.2.0, bounds M 𝓤 𝓛 𝓜 𝓡 w.2.1), λ κs a. f.1 κs a (I.lives (lft_at 1 0 tt κs)), f.2);
  }

  pub new_fixed : (N : Number I) → NewFixed N
  new_fixed N M 𝓤 𝓛 𝓜 𝓡 =
      let f = generic.decoder_new_fixed 𝓤 𝓛 𝓜 𝓡 row laws copy ghosts dict c e N.ghosts N.dict in
      (λ w. f.0 (w.2.1.0.2.0, bounds M 𝓤 𝓛 𝓜 𝓡 w.2.1.0.2.1, N.met M 𝓤 𝓛 𝓜 𝓡 w.2.0), λ κs a. f.1 κs a (I.lives (lft_at 1 0 tt κs)), f.2)
