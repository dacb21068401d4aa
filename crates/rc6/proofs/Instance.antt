-- The decoder of RC6: each of its functions is `Fixed`. And the machine of the impl is the definition's, and its number document 01's. Assumes nothing.
use Rattle.std.specs.Prelude.{◌≡◌, refl}
use prog.Wired.{and, end}
use Rattle.reports.proofs.Instance.{Impl, Number, DecoderFixed, NewFixed}
use Rattle.reports.proofs.Instance as instance
use Rattle.rc6.specs.Decoder.{machine}
use Rattle.rc6.specs.contracts.decoder.Rc6Memory as memory
use Rattle.rc6.proofs.decoder.Rc6Memory.TheLaws as laws
use Rattle.rc6.specs.contracts.decoder.Rc6MemoryProtocol.TheImpl as impl
use Rattle.rc6.proofs.decoder.Rc6MemoryProtocol.TheImpl.Met as impl_met
use Rattle.rc6.specs.contracts.decoder.Rc6MemoryNumbered.TheImpl as number
use Rattle.rc6.proofs.decoder.Rc6MemoryNumbered.TheImpl.Met as number_met
use Rattle.rc6.proofs.decoder.Rc6MemoryNumbered.NUMBER.Symbol as number_symbol
use Rattle.rc6.proofs.decoder.Rc6MemoryProtocol.fresh.Symbol as fresh_symbol
use Rattle.rc6.proofs.decoder.Rc6MemoryProtocol.is_past_end.Symbol as is_past_end_symbol
use Rattle.rc6.proofs.decoder.Rc6MemoryProtocol.refusal.Symbol as refusal_symbol
use Rattle.rc6.proofs.decoder.Rc6MemoryProtocol.step.Symbol as step_symbol
use Rattle.rc6.proofs.decoder.Rc6MemoryProtocol.status.Symbol as status_symbol
use Rattle.rc6.proofs.decoder.Rc6MemoryProtocol.command.Symbol as command_symbol
use Rattle.rc6.proofs.decoder.Rc6MemoryProtocol.reset.Symbol as reset_symbol

pub machine_of_impl : impl.ghosts.machine ≡ machine
machine_of_impl = refl

pub number_of_impl : number.ghosts.NUMBER ≡ 3
number_of_impl = refl

abbrev pub rc6 : Impl
rc6 = record {
  row = memory.the_row;
  laws = laws.the_row_laws;
  copy = laws.the_row_copy;
  lives = laws.the_within;
  ghosts = impl.ghosts;
  dict = impl.dict;
  methods = and fresh_symbol.code (and is_past_end_symbol.code (and refusal_symbol.code (and step_symbol.code (and status_symbol.code (and command_symbol.code (and reset_symbol.code end))))));
  met = λ M 𝓤 𝓛 𝓜 𝓡 w. impl_met.bound 𝓡.env w.0 w.1.0 w.1.1.0 w.1.1.1.0 w.1.1.1.1.0 w.1.1.1.1.1.0 w.1.1.1.1.1.1.0 M 𝓤 𝓛 𝓜 𝓡;
}

abbrev pub rc6_number : Number rc6
rc6_number = record { ghosts = number.ghosts; dict = number.dict; method = number_symbol.code; met = λ M 𝓤 𝓛 𝓜 𝓡 w. number_met.bound 𝓡.env w M 𝓤 𝓛 𝓜 𝓡 }

pub decoder_fixed : DecoderFixed rc6
decoder_fixed = instance.decoder_fixed rc6

pub new_fixed : NewFixed rc6 rc6_number
new_fixed = instance.new_fixed rc6 rc6_number
