-- A batch, for the memory of each protocol and for the one by number, is `Fixed`: it asks nothing of a caller, and leaves no choice open. Assumes nothing.
use Rattle.nec.proofs.Instance.{nec}
use Rattle.rc5.proofs.Instance.{rc5}
use Rattle.rc6.proofs.Instance.{rc6}
use Rattle.sbp.proofs.Instance.{sbp}
use Rattle.denon.proofs.Instance.{denon}
use Rattle.guarded.proofs.Instance.{guarded}
use Rattle.protocols.proofs.Instance.{by_number}
use Rattle.batches.proofs.Instance.{BatchFixed, batches_fixed}

pub nec_batches_fixed : BatchFixed nec
nec_batches_fixed = batches_fixed nec

pub rc5_batches_fixed : BatchFixed rc5
rc5_batches_fixed = batches_fixed rc5

pub rc6_batches_fixed : BatchFixed rc6
rc6_batches_fixed = batches_fixed rc6

pub sbp_batches_fixed : BatchFixed sbp
sbp_batches_fixed = batches_fixed sbp

pub denon_batches_fixed : BatchFixed denon
denon_batches_fixed = batches_fixed denon

pub guarded_batches_fixed : BatchFixed guarded
guarded_batches_fixed = batches_fixed guarded

pub by_number_batches_fixed : BatchFixed by_number
by_number_batches_fixed = batches_fixed by_number
