use Rattle.std.proofs.Common.{map, sym, subst, List}
use Rattle.record_tree.specs.Stored.{lent}
use Rattle.record_tree.specs.declared.record_ref.RecordRef.{RecordRef}
use Rattle.store_model.specs.declared.kind.Kind.TheVariants.{Plain}
use Rattle.store_model.specs.Store.{HasRisingNames}
use Rattle.log_replay.specs.Rows.{pair_of}
use Rattle.recovery_je.proofs.RestCounts.{none_rise, ok_both, right_rise}
use Rattle.recovery_je.proofs.rest_checks.primary_left.Goals as goal

pub returns-then-not-is_plain_at-clause-rising : goal.returns-then-not-is_plain_at-clause-rising
returns-then-not-is_plain_at-clause-rising g c = subst (λ (l : List RecordRef). HasRisingNames Plain (map (pair_of Plain) (lent l))) (sym c.new.ensures.items) none_rise

pub returns-clause-rising : goal.returns-clause-rising
returns-clause-rising g c =
    ok_both c.right_records.result (λ records right up. right_rise (g.T.Loads.stored c.args.trees.now c.args.number) (lent records.items) right up) c.right_records.ensures.right c.right_records.ensures.rising
