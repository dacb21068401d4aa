-- The contract of the generic function, at every type and with every impl of `Frame`, asks nothing of a caller but that the type outlives the call, and leaves
-- no choice open; and the function meets it where the environment has its code and the impl's methods. Assumes nothing.
use Rattle.std.specs.Prelude.{refl, [], ◌∷◌}
use Rattle.determined.specs.Determined.{FixedWhere, asks_lives, both, one, meet, ◌&◌, ◌⨾◌}
use seplogic.Ra.Ura.{Ura}
use types.Logic.{Logic}
use prog.Model.{Model}
use prog.Wired.{Wired}
use contract.Running.{Running}
use contract.BorrowLft.{◌⊑◌}
use contract.Lifetimes.{lft_at}
use denote.Param.{bounded}
use denote.Param.Laws.{Laws, IsCopy}
use denote.RattleType.{RattleType}
use mir.Syntax.{Dict, a_type, dcons, dnil}
use Rattle.std.specs.declared.clone.Clone as clone
use Rattle.std.specs.contracts.clone.Clone.TheBound as clone_bound
use Rattle.frames.specs.declared.Frame as frame
use Rattle.frames.specs.contracts.Frame.TheBound as frame_bound
use Rattle.frames.specs.contracts.encode as encode
use Rattle.frames.proofs.encode.Symbol as encode_symbol
use Rattle.frames.proofs.encode.Met as encode_met

module _ {M : Type 1} (𝓤 : Ura M) (𝓛 : Logic 𝓤) (𝓜 : Model 𝓤 𝓛.H) (𝓡 : Running 𝓤 𝓛.H 𝓜) (T : RattleType) (laws : Laws T) (copy : IsCopy T)
    (P : frame.Ghosts T.Denot) (d : Dict) (C : clone.Ghosts T.Denot) (e : Dict) where
  abbrev Bounds : Type 2
  Bounds = frame_bound.Met 𝓛 𝓜 𝓡 𝓡.env T P d C e × clone_bound.Met 𝓛 𝓜 𝓡 𝓡.env T C e

  pub encode_fixed
      : FixedWhere 𝓛 (encode.ended T P d C e) (encode.clauses T P d C e 𝓛 𝓜.mem 𝓡.returns) (Wired 𝓡.env encode_symbol.code × Bounds) (λ κs. lft_at 2 1 tt κs ⊑ T.lives)
      (𝓡.run (𝓡.env (encode_symbol.name (bounded (a_type ∷ []) (T, tt) (dcons d (dcons e dnil))))))
  encode_fixed =
      (λ w. encode_met.met 𝓤 𝓛 𝓜 𝓡 w.0 T laws copy P d C e w.1.0 w.1.1, λ κs a l. asks_lives 𝓤 l, λ κs a g h r s v w. both (one & one) (one & one) (λ p q. (meet p.0 q.0, refl ⨾ refl ⨾ meet p.1 q.1 ⨾ refl)))
