-- The decoder of NEC in guarded mode: each of its functions is `Fixed`. And the machine of the impl is the definition's, and its number document 01's. Assumes nothing.
use Rattle.std.specs.Prelude.{◌≡◌, refl}
use prog.Wired.{and, end}
use Rattle.reports.proofs.Instance.{Impl, Number, DecoderFixed, NewFixed}
use Rattle.reports.proofs.Instance as instance
use Rattle.guarded.specs.Decoder.{machine}
use Rattle.guarded.specs.contracts.decoder.GuardedMemory as memory
use Rattle.guarded.proofs.decoder.GuardedMemory.TheLaws as laws
use Rattle.guarded.specs.contracts.decoder.GuardedMemoryProtocol.TheImpl as impl
use Rattle.guarded.proofs.decoder.GuardedMemoryProtocol.TheImpl.Met as impl_met
use Rattle.guarded.specs.contracts.decoder.GuardedMemoryNumbered.TheImpl as number
use Rattle.guarded.proofs.decoder.GuardedMemoryNumbered.TheImpl.Met as number_met
use Rattle.guarded.proofs.decoder.GuardedMemoryNumbered.NUMBER.Symbol as number_symbol
use Rattle.guarded.proofs.decoder.GuardedMemoryProtocol.fresh.Symbol as fresh_symbol
use Rattle.guarded.proofs.decoder.GuardedMemoryProtocol.is_past_end.Symbol as is_past_end_symbol
use Rattle.guarded.proofs.decoder.GuardedMemoryProtocol.refusal.Symbol as refusal_symbol
use Rattle.guarded.proofs.decoder.GuardedMemoryProtocol.step.Symbol as step_symbol
use Rattle.guarded.proofs.decoder.GuardedMemoryProtocol.status.Symbol as status_symbol
use Rattle.guarded.proofs.decoder.GuardedMemoryProtocol.command.Symbol as command_symbol
use Rattle.guarded.proofs.decoder.GuardedMemoryProtocol.reset.Symbol as reset_symbol

pub machine_of_impl : impl.ghosts.machine ≡ machine
machine_of_impl = refl

pub number_of_impl : number.ghosts.NUMBER ≡ 1
number_of_impl = refl

abbrev pub guarded : Impl
guarded = record {
  row = memory.the_row;
  laws = laws.the_row_laws;
  copy = laws.the_row_copy;
  lives = laws.the_within;
  ghosts = impl.ghosts;
  dict = impl.dict;
  methods = and fresh_symbol.code (and is_past_end_symbol.code (and refusal_symbol.code (and step_symbol.code (and status_symbol.code (and command_symbol.code (and reset_symbol.code end))))));
  met = λ M 𝓤 𝓛 𝓜 𝓡 w. impl_met.bound 𝓡.env w.0 w.1.0 w.1.1.0 w.1.1.1.0 w.1.1.1.1.0 w.1.1.1.1.1.0 w.1.1.1.1.1.1.0 M 𝓤 𝓛 𝓜 𝓡;
}

abbrev pub guarded_number : Number guarded
guarded_number = record { ghosts = number.ghosts; dict = number.dict; method = number_symbol.code; met = λ M 𝓤 𝓛 𝓜 𝓡 w. number_met.bound 𝓡.env w M 𝓤 𝓛 𝓜 𝓡 }

pub decoder_fixed : DecoderFixed guarded
decoder_fixed = instance.decoder_fixed guarded

pub new_fixed : NewFixed guarded guarded_number
new_fixed = instance.new_fixed guarded guarded_number
