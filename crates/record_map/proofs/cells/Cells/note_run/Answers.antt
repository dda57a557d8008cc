use Rattle.std.proofs.Common.{ℕ, option_copied, subst, sym}
use Rattle.record_map.specs.Runs.{IsBound}
use Rattle.record_map.proofs.RunLaws.{end_bound}
use Rattle.record_map.proofs.cells.Cells.note_run.Goals as goal

pub invariant_of-self : goal.invariant_of-self
invariant_of-self c =
    let lows = c.self.inside.runs.lows.entries in
    let cells = c.self.inside.cells.entries in (
      c.self.invariant.0,
      c.put.ensures cells c.self.invariant.1
          (subst (λ (n : ℕ). IsBound lows c.args.low n cells) (sym c.count_in-count.ensures) (end_bound lows c.args.low (option_copied c.end_of.result) cells c.end_of.ensures)),
    )
