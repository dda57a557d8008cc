use Rattle.std.proofs.Common.{◌≡◌, ℕ, List, Some, cond, length, ap, subst, sym, is_eq}
use Rattle.je_order.specs.Order.{name_cmp}
use Rattle.je_order.specs.declared.name.Name.{Name}
use Rattle.record_map.specs.Cells.{value_at}
use Rattle.record_map.specs.Runs.{AreRuns}
use Rattle.record_map.proofs.RunLaws.{noted_runs, pushed_runs}
use Rattle.record_map.proofs.runs.Runs.put.Goals as goal

pub returns-in_err-insert : goal.returns-in_err-insert
returns-in_err-insert c = λ cells runs own.
    subst (λ (l : List (Name × ℕ)). AreRuns l c.push.new.self.items cells) (sym c.in_err-insert.ensures.err)
    (subst (λ (b : List ℕ). AreRuns c.args.self.now.lows.entries b cells) (sym c.in_ok-push.ensures.items)
    (pushed_runs c.args.self.now.lows.entries c.args.self.now.bounds.items c.args.bound cells runs))

pub returns : goal.returns
returns c = λ cells runs own.
    let old = c.args.self.now.lows.entries in
    let new = c.insert.new.self.entries in
    let bounds = c.args.self.now.bounds.items in
    subst (λ (b : List ℕ). AreRuns new b cells) (sym c.in_ok-push.ensures.items)
    (noted_runs old new bounds c.args.low c.args.bound cells
    (subst (λ (n : ℕ). (q : Name) → value_at q new ≡ cond (is_eq (name_cmp c.args.low q)) (Some n) (value_at q old)) (ap length c.as_slice-place.ensures.value) c.in_ok-insert.ensures.updates.0)
    own runs)
