-- That `batch_in` and `batch`, for a memory with its impl of `Protocol`, are `Fixed`, as a function with no type parameter
-- is: it asks nothing of a caller, and leaves no choice open. A protocol's memory has its `Impl` in its crate's proofs/Instance.antt. Assumes nothing.
use Rattle.determined.specs.Determined.{Fixed}
use contract.Lifetimes.{lft_at}
use mir.Syntax.{Dict, dnil}
use Rattle.std.specs.declared.clone.Clone as declared_clone
use Rattle.std.below.core.specs.contracts.clone.Clone+copy.TheImpl as clone
use Rattle.reports.proofs.Instance.{Impl, with_methods, named, bounds}
use Rattle.batches.proofs.Generic as generic
use Rattle.batches.specs.contracts.batch_in as batch_in
use Rattle.batches.proofs.batch_in.Symbol as batch_in_symbol
use Rattle.batches.specs.contracts.batch as batch
use Rattle.batches.proofs.batch.Symbol as batch_symbol

module _ (I : Impl) where
  open I use {row, laws, copy, ghosts, dict}

  abbrev c : declared_clone.Ghosts row.Denot
  c = clone.ghosts row

  abbrev e : Dict
  e = clone.dict row

  pub record BatchFixed : Type 2 where
    pub batch_in_fixed : Fixed (batch_in.ended row ghosts dict c e) (λ M 𝓤 𝓛. batch_in.clauses row ghosts dict c e 𝓛) (with_methods I batch_in_symbol.code) (named I batch_in_symbol.name dnil)
    pub batch_fixed : Fixed (batch.ended row ghosts dict c e) (λ M 𝓤 𝓛. batch.clauses row ghosts dict c e 𝓛) (with_methods I batch_symbol.code) (named I batch_symbol.name dnil)

  pub batches_fixed : BatchFixed
  batches_fixed = record {
    batch_in_fixed = λ M 𝓤 𝓛 𝓜 𝓡. let f = generic.batch_in_fixed 𝓤 𝓛 𝓜 𝓡 row laws copy ghosts dict c e in
        (λ w. f.0 (w.2.0, bounds I M 𝓤 𝓛 𝓜 𝓡 w.2.1), λ κs a. f.1 κs a (I.lives (lft_at 8 7 tt κs)), f.2);
    batch_fixed = λ M 𝓤 𝓛 𝓜 𝓡. let f = generic.batch_fixed 𝓤 𝓛 𝓜 𝓡 row laws copy ghosts dict c e in
        (λ w. f.0 (w.2.0, bounds I M 𝓤 𝓛 𝓜 𝓡 w.2.1), λ κs a. f.1 κs a (I.lives (lft_at 7 6 tt κs)), f.2);
  }
