-- That each function of the polled receiver, for a memory with its impl of `Protocol`, is `Fixed`, as a function with no type parameter
-- is: it asks nothing of a caller, and leaves no choice open. A protocol's memory has its `Impl` in its crate's proofs/Instance.antt. Assumes nothing.
use Rattle.determined.specs.Determined.{Fixed}
use prog.Wired.{node, and, end}
use Rattle.std.specs.Prelude.{[]}
use contract.Lifetimes.{lft_at}
use mir.Syntax.{Dict, dcons, dnil}
use Rattle.std.specs.declared.clone.Clone as declared_clone
use Rattle.std.below.core.specs.contracts.clone.Clone+copy.TheImpl as clone
use Rattle.reports.proofs.Instance.{Impl, Number, with_methods, named, bounds}
use Rattle.polled.proofs.Generic as generic
use Rattle.polled.specs.contracts.started as started
use Rattle.polled.proofs.started.Symbol as started_symbol
use Rattle.polled.specs.contracts.Polled.new as new
use Rattle.polled.proofs.Polled.new.Symbol as new_symbol
use Rattle.polled.specs.contracts.Polled.poll as poll
use Rattle.polled.proofs.Polled.poll.Symbol as poll_symbol
use Rattle.polled.specs.contracts.Polled.poll_by_value as poll_by_value
use Rattle.polled.proofs.Polled.poll_by_value.Symbol as poll_by_value_symbol

module _ (I : Impl) where
  open I use {row, laws, copy, ghosts, dict}

  abbrev c : declared_clone.Ghosts row.Denot
  c = clone.ghosts row

  abbrev e : Dict
  e = clone.dict row

  pub record PolledFixed : Type 2 where
    pub started_fixed : Fixed (started.ended row ghosts dict c e) (λ M 𝓤 𝓛. started.clauses row ghosts dict c e 𝓛) (with_methods I started_symbol.code) (named I started_symbol.name dnil)
    pub poll_fixed : Fixed (poll.ended row ghosts dict c e) (λ M 𝓤 𝓛. poll.clauses row ghosts dict c e 𝓛) (with_methods I poll_symbol.code) (named I poll_symbol.name dnil)
    pub poll_by_value_fixed : Fixed (poll_by_value.ended row ghosts dict c e) (λ M 𝓤 𝓛. poll_by_value.clauses row ghosts dict c e 𝓛) (with_methods I poll_by_value_symbol.code) (named I poll_by_value_symbol.name dnil)

  abbrev pub NewFixed : Number I → Type 2
  NewFixed N =
      Fixed (new.ended row ghosts dict c e N.ghosts N.dict) (λ M 𝓤 𝓛. new.clauses row ghosts dict c e N.ghosts N.dict 𝓛)
      (node [] [] (and N.method (and (with_methods I new_symbol.code) end)))
      (named I new_symbol.name (dcons N.dict dnil))

  pub polled_fixed : PolledFixed
  polled_fixed = record {
    started_fixed = λ M 𝓤 𝓛 𝓜 𝓡. let f = generic.started_fixed 𝓤 𝓛 𝓜 𝓡 row laws copy ghosts dict c e in
        (λ w. f.0 (w.2.0, bounds I M 𝓤 𝓛 𝓜 𝓡 w.2.1), λ κs a. f.1 κs a (I.lives (lft_at 1 0 tt κs)), f.2);
    poll_fixed = λ M 𝓤 𝓛 𝓜 𝓡. let f = generic.poll_fixed 𝓤 𝓛 𝓜 𝓡 row laws copy ghosts dict c e in
        (λ w. f.0 (w.2.0, bounds I M 𝓤 𝓛 𝓜 𝓡 w.2.1), λ κs a. f.1 κs a (I.lives (lft_at 2 1 tt κs)), f.2);
    poll_by_value_fixed = λ M 𝓤 𝓛 𝓜 𝓡. let f = generic.poll_by_value_fixed 𝓤 𝓛 𝓜 𝓡 row laws copy ghosts dict c e in
        (λ w. f.0 (w.2.0, bounds I M 𝓤 𝓛 𝓜 𝓡 w.2.1), λ κs a. f.1 κs a (I.lives (lft_at 1 0 tt κs)), f.2);
  }

  pub new_fixed : (N : Number I) → NewFixed N
  new_fixed N M 𝓤 𝓛 𝓜 𝓡 =
      let f = generic.new_fixed 𝓤 𝓛 𝓜 𝓡 row laws copy ghosts dict c e N.ghosts N.dict in
      (λ w. f.0 (w.2.1.0.2.0, bounds I M 𝓤 𝓛 𝓜 𝓡 w.2.1.0.2.1, N.met M 𝓤 𝓛 𝓜 𝓡 w.2.0), λ κs a. f.1 κs a (I.lives (lft_at 1 0 tt κs)), f.2)
