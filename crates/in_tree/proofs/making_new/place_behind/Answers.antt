use Rattle.std.proofs.Common.{ℕ, List, subst, sym}
use Rattle.std.proofs.lemmas.List.{take_all, take_more}
use Rattle.log_buffer.specs.NextPlaces.{IsBehind}
use Rattle.in_tree.proofs.making_new.place_behind.Goals as goal

pub loop-size-preserved : goal.loop-size-preserved
loop-size-preserved c = λ file_max end b.
    subst (λ (l : List ℕ). IsBehind file_max end l c.take-at.new.self) (sym (take_more c.args.sizes.now c.loop-size.size-index 0 c.loop-size-test.true))
    (c.take-at.ensures.next file_max end _ (c.loop-size.invariant file_max end b))

pub returns : goal.returns
returns c = λ file_max end b.
    subst (λ (l : List ℕ). IsBehind file_max end l c.loop-size.place) (take_all c.loop-size.size-index c.args.sizes.now c.loop-size-test.false) (c.loop-size.invariant file_max end b)
