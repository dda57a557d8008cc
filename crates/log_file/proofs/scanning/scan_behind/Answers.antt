use Rattle.std.proofs.Common.{◌≡◌, sym, subst, List, Option}
use Rattle.std.specs.Prelude.{MatchOption}
use Rattle.log_entry.specs.declared.entry.Entry.{Entry}
use Rattle.log_file.specs.declared.valid_prefix.ValidPrefix.{ValidPrefix}
use Rattle.log_file.specs.declared.scanning.Next.{Next}
use Rattle.log_file.specs.Scan.{prefix_with, entries_behind}
use Rattle.log_file.specs.Scanning.{IsNext, IsPrefixEnd, IsScanned}
use Rattle.log_file.proofs.ScanSteps.{reads_on, read_prefix}
use Rattle.log_file.proofs.scanning.scan_behind.Goals as goal

pub loop-entries-preserved : goal.loop-entries-preserved
loop-entries-preserved c =
    let is : IsNext c.args.bytes.now c.loop-entries.at c.loop-entries.last c.in-Some.field-0 =
    subst (λ (o : Option Next). MatchOption o (IsPrefixEnd c.args.bytes.now c.loop-entries.at c.loop-entries.last) (IsNext c.args.bytes.now c.loop-entries.at c.loop-entries.last))
    c.in-Some.is c.in_ok-entry.ensures in
    subst (λ (l : List Entry). IsScanned c.args.bytes.now l c.in-Some.field-0.end c.loop-entries.at) (sym c.in_ok-push.ensures.items)
    (reads_on c.args.bytes.now c.loop-entries.entries.items c.loop-entries.at c.loop-entries.last c.in-Some.field-0 c.loop-entries.invariant is)

pub returns : goal.returns
returns c =
    let last : IsPrefixEnd c.args.bytes.now c.loop-entries.at c.loop-entries.last =
    subst (λ (o : Option Next). MatchOption o (IsPrefixEnd c.args.bytes.now c.loop-entries.at c.loop-entries.last) (IsNext c.args.bytes.now c.loop-entries.at c.loop-entries.last))
    c.in_default.is c.in_ok-entry.ensures in
    let prefix : List Entry → ValidPrefix = λ l. record { entries = l; last = c.loop-entries.last; end = c.loop-entries.at } in
    subst (λ (l : List Entry). prefix l ≡ prefix_with (entries_behind c.args.bytes.now)) (sym c.from_vec.ensures)
    (read_prefix c.args.bytes.now c.loop-entries.entries.items c.loop-entries.at c.loop-entries.last c.loop-entries.invariant last)
