-- A poll of a receiver of one protocol, and of NEC in guarded mode, is that of the receiver by protocol number. Assumes nothing.
use Rattle.std.specs.Prelude.{◌≡◌, Bool}
use Rattle.nec.specs.Decoder as nec
use Rattle.nec.specs.declared.decoder.NecMemory.{NecMemory}
use Rattle.rc5.specs.Decoder as rc5
use Rattle.rc5.specs.declared.decoder.Rc5Memory.{Rc5Memory}
use Rattle.rc6.specs.Decoder as rc6
use Rattle.rc6.specs.declared.decoder.Rc6Memory.{Rc6Memory}
use Rattle.sbp.specs.Decoder as sbp
use Rattle.sbp.specs.declared.decoder.SbpMemory.{SbpMemory}
use Rattle.denon.specs.Decoder as denon
use Rattle.denon.specs.declared.decoder.DenonMemory.{DenonMemory}
use Rattle.guarded.specs.Decoder as guarded
use Rattle.guarded.specs.declared.decoder.GuardedMemory.{GuardedMemory}
use Rattle.protocols.specs.Decoder.{machine}
use Rattle.protocols.specs.declared.decoder.Memory.TheVariants.{Nec, Rc5, Rc6, Sbp, Denon, Guarded}
use Rattle.protocols.proofs.Laws.{nec_own, rc5_own, rc6_own, sbp_own, denon_own, guarded_own}
use Rattle.polled.specs.Polled.{poll_of}
use Rattle.polled.specs.declared.Polled.{Polled}
use Rattle.polled.proofs.ByNumber.{numbered, answered, by_number}

pub nec_by_number : (p : Polled NecMemory) (level : Bool) → poll_of machine (numbered Nec p) level ≡ answered Nec (poll_of nec.machine p level)
nec_by_number = by_number nec_own

pub rc5_by_number : (p : Polled Rc5Memory) (level : Bool) → poll_of machine (numbered Rc5 p) level ≡ answered Rc5 (poll_of rc5.machine p level)
rc5_by_number = by_number rc5_own

pub rc6_by_number : (p : Polled Rc6Memory) (level : Bool) → poll_of machine (numbered Rc6 p) level ≡ answered Rc6 (poll_of rc6.machine p level)
rc6_by_number = by_number rc6_own

pub sbp_by_number : (p : Polled SbpMemory) (level : Bool) → poll_of machine (numbered Sbp p) level ≡ answered Sbp (poll_of sbp.machine p level)
sbp_by_number = by_number sbp_own

pub denon_by_number : (p : Polled DenonMemory) (level : Bool) → poll_of machine (numbered Denon p) level ≡ answered Denon (poll_of denon.machine p level)
denon_by_number = by_number denon_own

pub guarded_by_number : (p : Polled GuardedMemory) (level : Bool) → poll_of machine (numbered Guarded p) level ≡ answered Guarded (poll_of guarded.machine p level)
guarded_by_number = by_number guarded_own
