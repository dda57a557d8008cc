use Rattle.log_trees.proofs.Building.{bins_are_right, ins_are_right, bins_show, ins_show}
use Rattle.log_trees.proofs.images_are_right.Goals as goal

pub returns : goal.returns
returns c = record { bins = bins_are_right; ins = ins_are_right; bin_shows = bins_show; in_shows = ins_show }
