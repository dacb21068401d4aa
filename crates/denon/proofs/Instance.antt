-- The decoder of Denon: each of its functions is `Fixed`. And the machine of the impl is the definition's, and its number document 01's. Assumes nothing.
use Rattle.std.specs.Prelude.{◌≡◌, refl}
use prog.Wired.{and, end}
use Rattle.reports.proofs.Instance.{Impl, Number, DecoderFixed, NewFixed}
use Rattle.reports.proofs.Instance as instance
use Rattle.denon.specs.Decoder.{machine}
use Rattle.denon.specs.contracts.decoder.DenonMemory as memory
use Rattle.denon.proofs.decoder.DenonMemory.TheLaws as laws
use Rattle.denon.specs.contracts.decoder.DenonMemoryProtocol.TheImpl as impl
use Rattle.denon.proofs.decoder.DenonMemoryProtocol.TheImpl.Met as impl_met
use Rattle.denon.specs.contracts.decoder.DenonMemoryNumbered.TheImpl as number
use Rattle.denon.proofs.decoder.DenonMemoryNumbered.TheImpl.Met as number_met
use Rattle.denon.proofs.decoder.DenonMemoryNumbered.NUMBER.Symbol as number_symbol
use Rattle.denon.proofs.decoder.DenonMemoryProtocol.fresh.Symbol as fresh_symbol
use Rattle.denon.proofs.decoder.DenonMemoryProtocol.is_past_end.Symbol as is_past_end_symbol
use Rattle.denon.proofs.decoder.DenonMemoryProtocol.refusal.Symbol as refusal_symbol
use Rattle.denon.proofs.decoder.DenonMemoryProtocol.step.Symbol as step_symbol
use Rattle.denon.proofs.decoder.DenonMemoryProtocol.status.Symbol as status_symbol
use Rattle.denon.proofs.decoder.DenonMemoryProtocol.command.Symbol as command_symbol
use Rattle.denon.proofs.decoder.DenonMemoryProtocol.reset.Symbol as reset_symbol

pub machine_of_impl : impl.ghosts.machine ≡ machine
machine_of_impl = refl

pub number_of_impl : number.ghosts.NUMBER ≡ 5
number_of_impl = refl

abbrev pub denon : Impl
denon = record {
  row = memory.the_row;
  laws = laws.the_row_laws;
  copy = laws.the_row_copy;
  lives = laws.the_within;
  ghosts = impl.ghosts;
  dict = impl.dict;
  methods = and fresh_symbol.code (and is_past_end_symbol.code (and refusal_symbol.code (and step_symbol.code (and status_symbol.code (and command_symbol.code (and reset_symbol.code end))))));
  met = λ M 𝓤 𝓛 𝓜 𝓡 w. impl_met.bound 𝓡.env w.0 w.1.0 w.1.1.0 w.1.1.1.0 w.1.1.1.1.0 w.1.1.1.1.1.0 w.1.1.1.1.1.1.0 M 𝓤 𝓛 𝓜 𝓡;
}

abbrev pub denon_number : Number denon
denon_number = record { ghosts = number.ghosts; dict = number.dict; method = number_symbol.code; met = λ M 𝓤 𝓛 𝓜 𝓡 w. number_met.bound 𝓡.env w M 𝓤 𝓛 𝓜 𝓡 }

pub decoder_fixed : DecoderFixed denon
decoder_fixed = instance.decoder_fixed denon

pub new_fixed : NewFixed denon denon_number
new_fixed = instance.new_fixed denon denon_number
