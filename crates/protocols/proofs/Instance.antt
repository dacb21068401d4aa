-- The decoder by number: each of its functions is `Fixed`. And the machine of the impl is the definition's. Assumes nothing.
use Rattle.std.specs.Prelude.{◌≡◌, refl}
use prog.Wired.{and, end}
use Rattle.reports.proofs.Instance.{Impl, DecoderFixed}
use Rattle.reports.proofs.Instance as instance
use Rattle.protocols.specs.Decoder.{machine}
use Rattle.protocols.specs.contracts.decoder.Memory as memory
use Rattle.protocols.proofs.decoder.Memory.TheLaws as laws
use Rattle.protocols.specs.contracts.decoder.MemoryProtocol.TheImpl as impl
use Rattle.protocols.proofs.decoder.MemoryProtocol.TheImpl.Met as impl_met
use Rattle.protocols.proofs.decoder.MemoryProtocol.fresh.Symbol as fresh_symbol
use Rattle.protocols.proofs.decoder.MemoryProtocol.is_past_end.Symbol as is_past_end_symbol
use Rattle.protocols.proofs.decoder.MemoryProtocol.refusal.Symbol as refusal_symbol
use Rattle.protocols.proofs.decoder.MemoryProtocol.step.Symbol as step_symbol
use Rattle.protocols.proofs.decoder.MemoryProtocol.status.Symbol as status_symbol
use Rattle.protocols.proofs.decoder.MemoryProtocol.command.Symbol as command_symbol
use Rattle.protocols.proofs.decoder.MemoryProtocol.reset.Symbol as reset_symbol

pub machine_of_impl : impl.ghosts.machine ≡ machine
machine_of_impl = refl

abbrev pub by_number : Impl
by_number = record {
  row = memory.the_row;
  laws = laws.the_row_laws;
  copy = laws.the_row_copy;
  lives = laws.the_within;
  ghosts = impl.ghosts;
  dict = impl.dict;
  methods = and fresh_symbol.code (and is_past_end_symbol.code (and refusal_symbol.code (and step_symbol.code (and status_symbol.code (and command_symbol.code (and reset_symbol.code end))))));
  met = λ M 𝓤 𝓛 𝓜 𝓡 w. impl_met.bound 𝓡.env w.0 w.1.0 w.1.1.0 w.1.1.1.0 w.1.1.1.1.0 w.1.1.1.1.1.0 w.1.1.1.1.1.1.0 M 𝓤 𝓛 𝓜 𝓡;
}

pub decoder_fixed : DecoderFixed by_number
decoder_fixed = instance.decoder_fixed by_number
