use Rattle.std.proofs.Common.{◌≡◌, rules}
use Rattle.std.specs.BTreeSet.{insert_key}
use Rattle.std.specs.Ordering.{nat_cmp}
use Rattle.recovery_je.proofs.ImageLaws.{added_one}
use Rattle.recovery_je.proofs.live_images.add_image.Goals as goal

pub returns : goal.returns
returns c =
    let put : c.insert.new.self.keys ≡ insert_key nat_cmp c.args.images.now.keys c.args.at = search rules in
    added_one c.args.images.now.keys c.insert.new.self.keys c.args.at put
