use Rattle.std.proofs.Common.{arith}
use Rattle.log_entry.proofs.BodyLaws.{in_small, bin_small, delta_small, end_small, summary_small}
use Rattle.log_entry.proofs.body_writer.body_size.Goals as goal

pub items_size-requires-clause-few : goal.items_size-requires-clause-few
items_size-requires-clause-few c = omega (arith, in_small c.args.entry.now _ _ _ _ c.as_slice.result.now c.requires c.in-In.is c.as_slice.ensures)

pub overflow_add-result-in-In : goal.overflow_add-result-in-In
overflow_add-result-in-In c = omega (arith, c.items_size.ensures, in_small c.args.entry.now _ _ _ _ c.as_slice.result.now c.requires c.in-In.is c.as_slice.ensures)

pub returns-in-In-clause-bound : goal.returns-in-In-clause-bound
returns-in-In-clause-bound c = omega (arith, c.items_size.ensures, in_small c.args.entry.now _ _ _ _ c.as_slice.result.now c.requires c.in-In.is c.as_slice.ensures)

pub items_size-requires-in-Bin-clause-few : goal.items_size-requires-in-Bin-clause-few
items_size-requires-in-Bin-clause-few c = omega (arith, bin_small c.args.entry.now _ _ _ c.as_slice-in-Bin.result.now c.requires c.in-Bin.is c.as_slice-in-Bin.ensures)

pub overflow_add-result-in-Bin : goal.overflow_add-result-in-Bin
overflow_add-result-in-Bin c = omega (arith, c.items_size-in-Bin.ensures, bin_small c.args.entry.now _ _ _ c.as_slice-in-Bin.result.now c.requires c.in-Bin.is c.as_slice-in-Bin.ensures)

pub returns-in-Bin-clause-bound : goal.returns-in-Bin-clause-bound
returns-in-Bin-clause-bound c = omega (arith, c.items_size-in-Bin.ensures, bin_small c.args.entry.now _ _ _ c.as_slice-in-Bin.result.now c.requires c.in-Bin.is c.as_slice-in-Bin.ensures)

pub items_size-requires-in-BinDelta-clause-few : goal.items_size-requires-in-BinDelta-clause-few
items_size-requires-in-BinDelta-clause-few c = omega (arith, delta_small c.args.entry.now _ _ _ _ c.as_slice-in-BinDelta.result.now c.requires c.in-BinDelta.is c.as_slice-in-BinDelta.ensures)

pub overflow_add-result-in-BinDelta : goal.overflow_add-result-in-BinDelta
overflow_add-result-in-BinDelta c = omega (arith, c.items_size-in-BinDelta.ensures, delta_small c.args.entry.now _ _ _ _ c.as_slice-in-BinDelta.result.now c.requires c.in-BinDelta.is c.as_slice-in-BinDelta.ensures)

pub returns-in-BinDelta-clause-bound : goal.returns-in-BinDelta-clause-bound
returns-in-BinDelta-clause-bound c = omega (arith, c.items_size-in-BinDelta.ensures, delta_small c.args.entry.now _ _ _ _ c.as_slice-in-BinDelta.result.now c.requires c.in-BinDelta.is c.as_slice-in-BinDelta.ensures)

pub items_size-requires-in-CkptEnd-clause-few : goal.items_size-requires-in-CkptEnd-clause-few
items_size-requires-in-CkptEnd-clause-few c = omega (arith, end_small c.args.entry.now _ _ _ _ _ _ _ _ c.as_slice-in-CkptEnd.result.now c.requires c.in-CkptEnd.is c.as_slice-in-CkptEnd.ensures)

pub overflow_add-result-in-CkptEnd : goal.overflow_add-result-in-CkptEnd
overflow_add-result-in-CkptEnd c = omega (arith, c.items_size-in-CkptEnd.ensures, end_small c.args.entry.now _ _ _ _ _ _ _ _ c.as_slice-in-CkptEnd.result.now c.requires c.in-CkptEnd.is c.as_slice-in-CkptEnd.ensures)

pub returns-in-CkptEnd-clause-bound : goal.returns-in-CkptEnd-clause-bound
returns-in-CkptEnd-clause-bound c = omega (arith, c.items_size-in-CkptEnd.ensures, end_small c.args.entry.now _ _ _ _ _ _ _ _ c.as_slice-in-CkptEnd.result.now c.requires c.in-CkptEnd.is c.as_slice-in-CkptEnd.ensures)

pub items_size-requires-in-FileSummary-clause-few : goal.items_size-requires-in-FileSummary-clause-few
items_size-requires-in-FileSummary-clause-few c = omega (arith, summary_small c.args.entry.now _ c.as_slice-in-FileSummary.result.now c.requires c.in-FileSummary.is c.as_slice-in-FileSummary.ensures)

pub overflow_add-result-in-FileSummary : goal.overflow_add-result-in-FileSummary
overflow_add-result-in-FileSummary c = omega (arith, c.items_size-in-FileSummary.ensures, summary_small c.args.entry.now _ c.as_slice-in-FileSummary.result.now c.requires c.in-FileSummary.is c.as_slice-in-FileSummary.ensures)

pub returns-in-FileSummary-clause-bound : goal.returns-in-FileSummary-clause-bound
returns-in-FileSummary-clause-bound c = omega (arith, c.items_size-in-FileSummary.ensures, summary_small c.args.entry.now _ c.as_slice-in-FileSummary.result.now c.requires c.in-FileSummary.is c.as_slice-in-FileSummary.ensures)
