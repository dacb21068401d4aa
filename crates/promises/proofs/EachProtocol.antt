-- Each function of the polled receiver, for the memory of each protocol and for the one by number, is `Fixed`: it asks nothing of a caller,
-- and leaves no choice open. The receiver by number is made of a decoder, so its memory has no `new`. Assumes nothing.
use Rattle.nec.proofs.Instance.{nec, nec_number}
use Rattle.rc5.proofs.Instance.{rc5, rc5_number}
use Rattle.rc6.proofs.Instance.{rc6, rc6_number}
use Rattle.sbp.proofs.Instance.{sbp, sbp_number}
use Rattle.denon.proofs.Instance.{denon, denon_number}
use Rattle.guarded.proofs.Instance.{guarded, guarded_number}
use Rattle.protocols.proofs.Instance.{by_number}
use Rattle.polled.proofs.Instance.{PolledFixed, NewFixed, polled_fixed, new_fixed}

pub nec_polled_fixed : PolledFixed nec
nec_polled_fixed = polled_fixed nec

pub nec_new_fixed : NewFixed nec nec_number
nec_new_fixed = new_fixed nec nec_number

pub rc5_polled_fixed : PolledFixed rc5
rc5_polled_fixed = polled_fixed rc5

pub rc5_new_fixed : NewFixed rc5 rc5_number
rc5_new_fixed = new_fixed rc5 rc5_number

pub rc6_polled_fixed : PolledFixed rc6
rc6_polled_fixed = polled_fixed rc6

pub rc6_new_fixed : NewFixed rc6 rc6_number
rc6_new_fixed = new_fixed rc6 rc6_number

pub sbp_polled_fixed : PolledFixed sbp
sbp_polled_fixed = polled_fixed sbp

pub sbp_new_fixed : NewFixed sbp sbp_number
sbp_new_fixed = new_fixed sbp sbp_number

pub denon_polled_fixed : PolledFixed denon
denon_polled_fixed = polled_fixed denon

pub denon_new_fixed : NewFixed denon denon_number
denon_new_fixed = new_fixed denon denon_number

pub guarded_polled_fixed : PolledFixed guarded
guarded_polled_fixed = polled_fixed guarded

pub guarded_new_fixed : NewFixed guarded guarded_number
guarded_new_fixed = new_fixed guarded guarded_number

pub by_number_polled_fixed : PolledFixed by_number
by_number_polled_fixed = polled_fixed by_number
