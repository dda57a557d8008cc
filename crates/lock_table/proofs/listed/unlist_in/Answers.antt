use Rattle.std.proofs.Common.{ap, sym, ◌∙◌, refl, subst, inl, ◌∷◌, IsPermutation, List, ◌≡◌, ◌<◌, length, get_or, true}
use Rattle.std.specs.Option.{is_some}
use Rattle.std.proofs.lemmas.List.Sorted.{IsPermutation-swap_remove}
use Rattle.lock_table.specs.declared.record_id.RecordId.{RecordId}
use Rattle.lock_table.specs.Records.{is_record}
use Rattle.lock_table.proofs.RecordLists.{db_unlisted, db_same, the_same}
use Rattle.lock_table.proofs.listed.unlist_in.Goals as goal

pub returns-in-Some-last_place : goal.returns-in-Some-last_place
returns-in-Some-last_place c =
    let i = c.in-Some-last_place.i in
    let items = c.in-Some.list.now.items in
    let within = subst (λ (xs : List RecordId). i < length xs) c.as_slice.ensures.value c.in-Some-last_place.ensures.within in
    let there = subst (λ (xs : List RecordId). is_record c.args.at.now (get_or xs i c.args.at.now) ≡ true) c.as_slice.ensures.value c.in-Some-last_place.ensures.there in
    db_unlisted c.args.dbs.now.entries _ c.args.at.now c.swap_remove.result c.in-Some.list.now c.swap_remove.new.self c.in-Some.ensures.value
    (subst (λ (xs : List RecordId). IsPermutation items (c.swap_remove.result ∷ xs)) (sym c.swap_remove.ensures.items) (IsPermutation-swap_remove items i c.swap_remove.result within c.swap_remove.ensures.value))
    (the_same items i c.swap_remove.result c.args.at.now within c.swap_remove.ensures.value there)
    ((c.get_mut.follows.holds c.swap_remove.new.self).3 (sym (ap is_some c.in-Some.ensures.value))).0

pub returns-in_default-last_place : goal.returns-in_default-last_place
returns-in_default-last_place c = λ r n. inl (sym (db_same c.args.dbs.now.entries _ c.args.at.now.db c.in-Some.list.now c.in-Some.list.now c.in-Some.ensures.value refl ((c.get_mut.follows.holds c.in-Some.list.now).3 (sym (ap is_some c.in-Some.ensures.value))).0 r) ∙ n)
