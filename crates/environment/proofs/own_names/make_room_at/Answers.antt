use Rattle.std.proofs.Common.{◌≤◌, ◌<◌, ◌+◌, ◌^◌, None, Some, refl, ap, sym, arith, rules}
use Rattle.std.specs.Prelude.{vec_capacity, vec_len}
use Rattle.std.specs.Option.{is_some}
use Rattle.environment.specs.declared.written.OwnNames.{OwnNames}
use Rattle.environment.proofs.NameMaps.{firsts_made, firsts_same, firsts_stay, had_stays, has_room, names_stay, on_ok}
use Rattle.environment.proofs.own_names.make_room_at.Goals as goal

pub returns-then-not-is_number-clause-names : goal.returns-then-not-is_number-clause-names
returns-then-not-is_number-clause-names c =
    names_stay c.args.written.now.entries _ c.args.txn (Some c.in-Some.found.now) c.in-Some.found.now c.in-Some.ensures.value
    ((c.get_mut.follows.holds c.in-Some.found.now).3 (sym (ap is_some c.in-Some.ensures.value))).0 refl

pub returns-then-not-is_number-clause-had : goal.returns-then-not-is_number-clause-had
returns-then-not-is_number-clause-had c =
    had_stays c.args.written.now.entries _ c.args.txn (Some c.in-Some.found.now) c.in-Some.found.now c.in-Some.ensures.value
    ((c.get_mut.follows.holds c.in-Some.found.now).3 (sym (ap is_some c.in-Some.ensures.value))).0 refl

pub returns-then-not-is_number-clause-firsts : goal.returns-then-not-is_number-clause-firsts
returns-then-not-is_number-clause-firsts c =
    firsts_same c.args.written.now.entries _ c.args.txn c.in-Some.found.now c.in-Some.ensures.value
    ((c.get_mut.follows.holds c.in-Some.found.now).3 (sym (ap is_some c.in-Some.ensures.value))).0

pub returns-in-Some-clause-firsts : goal.returns-in-Some-clause-firsts
returns-in-Some-clause-firsts c =
    let w : OwnNames = record { names = c.reserve.new.self; had = c.in-Some.found.now.had; first = c.in-Some.found.now.first } in
    firsts_stay c.args.written.now.entries _ c.args.txn c.in-Some.found.now w c.in-Some.ensures.value ((c.get_mut.follows.holds w).3 (sym (ap is_some c.in-Some.ensures.value))).0 c.reserve.ensures.items refl

pub returns-clause-firsts : goal.returns-clause-firsts
returns-clause-firsts c =
    firsts_made c.args.written.now.entries c.insert.new.self.entries c.args.txn c.in_ok-own.own c.in_default.ensures.value (λ q. rw (← c.get_mut.follows.holds-at-none) (c.in_ok-insert.ensures.updates.0 q))
    c.in_ok-own.ensures.none

pub returns-in-Some-clause-names : goal.returns-in-Some-clause-names
returns-in-Some-clause-names c =
    names_stay c.args.written.now.entries _ c.args.txn (Some c.in-Some.found.now) (record { names = c.reserve.new.self; had = c.in-Some.found.now.had; first = c.in-Some.found.now.first }) c.in-Some.ensures.value
    ((c.get_mut.follows.holds (record { names = c.reserve.new.self; had = c.in-Some.found.now.had; first = c.in-Some.found.now.first })).3 (sym (ap is_some c.in-Some.ensures.value))).0 c.reserve.ensures.items

pub returns-in-Some-clause-had : goal.returns-in-Some-clause-had
returns-in-Some-clause-had c =
    had_stays c.args.written.now.entries _ c.args.txn (Some c.in-Some.found.now) (record { names = c.reserve.new.self; had = c.in-Some.found.now.had; first = c.in-Some.found.now.first }) c.in-Some.ensures.value
    ((c.get_mut.follows.holds (record { names = c.reserve.new.self; had = c.in-Some.found.now.had; first = c.in-Some.found.now.first })).3 (sym (ap is_some c.in-Some.ensures.value))).0 refl

pub returns-in-Some-clause-room : goal.returns-in-Some-clause-room
returns-in-Some-clause-room c =
    let w : OwnNames = record { names = c.reserve.new.self; had = c.in-Some.found.now.had; first = c.in-Some.found.now.first } in
    let fits : c.in-Some.found.now.had + c.args.had < 2 ^ 64 = c.is_number.ensures (search (rules, c.if-not-is_number.false)) in
    on_ok c.reserve.result c.reserve.ensures.ok (λ (ok : vec_len c.reserve.new.self + c.args.count ≤ vec_capacity c.reserve.new.self).
    let len = c.reserve.new.self.ok.0 in
    has_room c.args.written.now.entries _ c.args.txn w c.args.count c.args.had ((c.get_mut.follows.holds w).3 (sym (ap is_some c.in-Some.ensures.value))).0 (omega (arith, len, ok)) fits)

pub returns-clause-names : goal.returns-clause-names
returns-clause-names c =
    names_stay c.args.written.now.entries c.insert.new.self.entries c.args.txn None c.in_ok-own.own c.in_default.ensures.value (λ q. rw (← c.get_mut.follows.holds-at-none) (c.in_ok-insert.ensures.updates.0 q))
    c.in_ok-own.ensures.none

pub returns-clause-had : goal.returns-clause-had
returns-clause-had c =
    had_stays c.args.written.now.entries c.insert.new.self.entries c.args.txn None c.in_ok-own.own c.in_default.ensures.value (λ q. rw (← c.get_mut.follows.holds-at-none) (c.in_ok-insert.ensures.updates.0 q))
    c.in_ok-own.ensures.had

pub returns-clause-room : goal.returns-clause-room
returns-clause-room c =
    let none = c.in_ok-own.ensures.had in
    has_room c.args.written.now.entries c.insert.new.self.entries c.args.txn c.in_ok-own.own c.args.count c.args.had (λ q. rw (← c.get_mut.follows.holds-at-none) (c.in_ok-insert.ensures.updates.0 q))
    c.in_ok-own.ensures.room (omega (arith, none))
