-- The decoder of RC5: each of its functions is `Fixed`. And the machine of the impl is the definition's, and its number document 01's. Assumes nothing.
use Rattle.std.specs.Prelude.{◌≡◌, refl}
use prog.Wired.{and, end}
use Rattle.reports.proofs.Instance.{Impl, Number, DecoderFixed, NewFixed}
use Rattle.reports.proofs.Instance as instance
use Rattle.rc5.specs.Decoder.{machine}
use Rattle.rc5.specs.contracts.decoder.Rc5Memory as memory
use Rattle.rc5.proofs.decoder.Rc5Memory.TheLaws as laws
use Rattle.rc5.specs.contracts.decoder.Rc5MemoryProtocol.TheImpl as impl
use Rattle.rc5.proofs.decoder.Rc5MemoryProtocol.TheImpl.Met as impl_met
use Rattle.rc5.specs.contracts.decoder.Rc5MemoryNumbered.TheImpl as number
use Rattle.rc5.proofs.decoder.Rc5MemoryNumbered.TheImpl.Met as number_met
use Rattle.rc5.proofs.decoder.Rc5MemoryNumbered.NUMBER.Symbol as number_symbol
use Rattle.rc5.proofs.decoder.Rc5MemoryProtocol.fresh.Symbol as fresh_symbol
use Rattle.rc5.proofs.decoder.Rc5MemoryProtocol.is_past_end.Symbol as is_past_end_symbol
use Rattle.rc5.proofs.decoder.Rc5MemoryProtocol.refusal.Symbol as refusal_symbol
use Rattle.rc5.proofs.decoder.Rc5MemoryProtocol.step.Symbol as step_symbol
use Rattle.rc5.proofs.decoder.Rc5MemoryProtocol.status.Symbol as status_symbol
use Rattle.rc5.proofs.decoder.Rc5MemoryProtocol.command.Symbol as command_symbol
use Rattle.rc5.proofs.decoder.Rc5MemoryProtocol.reset.Symbol as reset_symbol

pub machine_of_impl : impl.ghosts.machine ≡ machine
machine_of_impl = refl

pub number_of_impl : number.ghosts.NUMBER ≡ 2
number_of_impl = refl

abbrev pub rc5 : Impl
rc5 = record {
  row = memory.the_row;
  laws = laws.the_row_laws;
  copy = laws.the_row_copy;
  lives = laws.the_within;
  ghosts = impl.ghosts;
  dict = impl.dict;
  methods = and fresh_symbol.code (and is_past_end_symbol.code (and refusal_symbol.code (and step_symbol.code (and status_symbol.code (and command_symbol.code (and reset_symbol.code end))))));
  met = λ M 𝓤 𝓛 𝓜 𝓡 w. impl_met.bound 𝓡.env w.0 w.1.0 w.1.1.0 w.1.1.1.0 w.1.1.1.1.0 w.1.1.1.1.1.0 w.1.1.1.1.1.1.0 M 𝓤 𝓛 𝓜 𝓡;
}

abbrev pub rc5_number : Number rc5
rc5_number = record { ghosts = number.ghosts; dict = number.dict; method = number_symbol.code; met = λ M 𝓤 𝓛 𝓜 𝓡 w. number_met.bound 𝓡.env w M 𝓤 𝓛 𝓜 𝓡 }

pub decoder_fixed : DecoderFixed rc5
decoder_fixed = instance.decoder_fixed rc5

pub new_fixed : NewFixed rc5 rc5_number
new_fixed = instance.new_fixed rc5 rc5_number
