use Rattle.tree_images.proofs.EarlierMarks.{earlier_keep}
use Rattle.tree_images.proofs.Finished.{finished_whole}
use Rattle.tree_images.proofs.Logged.{images_sound, images_have_content}
use Rattle.tree_images.proofs.NodeSteps.{more_due, same_imaged, cleared_imaged, logged_imaged, flushed_imaged, waiting_imaged, new_imaged}
use Rattle.tree_images.proofs.laws.nodes_are_logged.Goals as goal

pub returns-clause-more : goal.returns-clause-more
returns-clause-more c = more_due

pub returns-clause-same : goal.returns-clause-same
returns-clause-same c = same_imaged

pub returns-clause-cleared : goal.returns-clause-cleared
returns-clause-cleared c = cleared_imaged

pub returns-clause-finished : goal.returns-clause-finished
returns-clause-finished c = finished_whole

pub returns-clause-sound : goal.returns-clause-sound
returns-clause-sound c = images_sound

pub returns-clause-content : goal.returns-clause-content
returns-clause-content c = images_have_content

pub returns-clause-logged : goal.returns-clause-logged
returns-clause-logged c = logged_imaged

pub returns-clause-flushed : goal.returns-clause-flushed
returns-clause-flushed c = flushed_imaged

pub returns-clause-waiting : goal.returns-clause-waiting
returns-clause-waiting c = waiting_imaged

pub returns-clause-new : goal.returns-clause-new
returns-clause-new c = new_imaged

pub returns-clause-marks : goal.returns-clause-marks
returns-clause-marks c = earlier_keep
