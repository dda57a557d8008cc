use Rattle.std.proofs.Common.{ℕ, List, Option, subst}
use Rattle.jalibsuk.specs.Seen.{Seen}
use Rattle.jalibsuk.specs.Named.{name_of_handle}
use Rattle.jalibsuk.specs.Cursors.{Opens}
use Rattle.jalibsuk.proofs.env.Env.open_number.Goals as goal

pub returns-clause-opens : goal.returns-clause-opens
returns-clause-opens g c =
    subst (λ (s : Seen g.row.D.Denot). Opens g.D.Disk.meaning 8 1 s.environment c.open_first_free.new.environment c.args.session (name_of_handle c.args.handle s.names) c.open_first_free.result) c.self.view_is
    (subst (λ (l : List (Option (List ℕ))). Opens g.D.Disk.meaning 8 1 c.self.inside.environment c.open_first_free.new.environment c.args.session (name_of_handle c.args.handle l) c.open_first_free.result) c.as_slice.ensures.value
    c.open_first_free.ensures.opens)
