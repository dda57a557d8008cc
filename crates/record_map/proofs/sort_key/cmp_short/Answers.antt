use Rattle.std.proofs.Common.{◌≡◌, ◌∙◌, arith, refl, sym, ap, true, Ordering}
use Rattle.std.specs.Ordering.{nat_cmp, ordering_then, is_ne}
use Rattle.je_order.specs.Order.{bytes_cmp}
use Rattle.je_order.proofs.Parts.{less_same, more_same, all_same, found, not_found, decides}
use Rattle.record_map.proofs.sort_key.cmp_short.Goals as goal

-- what differs is the order of the bytes, and decides
settles : (o p q : Ordering) → is_ne o ≡ true → o ≡ p → o ≡ ordering_then p q
settles o p q differs is = decides o differs q ∙ ap (λ (r : Ordering). ordering_then r q) is

pub returns-then-is_ne : goal.returns-then-is_ne
returns-then-is_ne c =
    let a = c.args.bytes.now in
    let b = c.args.other_bytes.now in
    let differs = sym c.is_ne.ensures ∙ c.if-is_ne.true in
    settles c.cmp_word-first.result (bytes_cmp a b) (nat_cmp c.args.len c.args.other_len) differs
    (found 0 8 a b (omega (arith, c.fits-bytes, c.told-bytes)) (omega (arith, c.fits-other_bytes, c.told-other_bytes)) refl c.cmp_word-first.result c.cmp_word-first.ensures differs)

pub returns-then-is_ne-2 : goal.returns-then-is_ne-2
returns-then-is_ne-2 c =
    let a = c.args.bytes.now in
    let b = c.args.other_bytes.now in
    let front = not_found c.cmp_word-first.result _ c.cmp_word-first.ensures (sym c.is_ne.ensures ∙ c.if-is_ne.false) in
    let differs = sym c.is_ne-2.ensures ∙ c.if-is_ne-2.true in
    settles c.cmp_word-second.result (bytes_cmp a b) (nat_cmp c.args.len c.args.other_len) differs
    (found 8 8 a b (omega (arith, c.told-bytes)) (omega (arith, c.told-other_bytes)) front c.cmp_word-second.result c.cmp_word-second.ensures differs)

pub returns-then-is_ne-3 : goal.returns-then-is_ne-3
returns-then-is_ne-3 c =
    let a = c.args.bytes.now in
    let b = c.args.other_bytes.now in
    let front = not_found c.cmp_word-first.result _ c.cmp_word-first.ensures (sym c.is_ne.ensures ∙ c.if-is_ne.false) in
    let next = not_found c.cmp_word-second.result _ c.cmp_word-second.ensures (sym c.is_ne-2.ensures ∙ c.if-is_ne-2.false) in
    let sixteen = more_same 8 8 16 a b refl (omega (arith, c.told-bytes)) (omega (arith, c.told-other_bytes)) front next in
    let differs = sym c.is_ne-3.ensures ∙ c.if-is_ne-3.true in
    settles c.cmp_word-last.result (bytes_cmp a b) (nat_cmp c.args.len c.args.other_len) differs
    (found 14 8 a b (omega (arith, c.told-bytes)) (omega (arith, c.told-other_bytes)) (less_same 14 16 a b (omega arith) sixteen)
    c.cmp_word-last.result c.cmp_word-last.ensures differs)

pub returns : goal.returns
returns c =
    let a = c.args.bytes.now in
    let b = c.args.other_bytes.now in
    let front = not_found c.cmp_word-first.result _ c.cmp_word-first.ensures (sym c.is_ne.ensures ∙ c.if-is_ne.false) in
    let next = not_found c.cmp_word-second.result _ c.cmp_word-second.ensures (sym c.is_ne-2.ensures ∙ c.if-is_ne-2.false) in
    let last = not_found c.cmp_word-last.result _ c.cmp_word-last.ensures (sym c.is_ne-3.ensures ∙ c.if-is_ne-3.false) in
    let sixteen = more_same 8 8 16 a b refl (omega (arith, c.told-bytes)) (omega (arith, c.told-other_bytes)) front next in
    let all = more_same 14 8 22 a b refl (omega (arith, c.told-bytes)) (omega (arith, c.told-other_bytes)) (less_same 14 16 a b (omega arith) sixteen) last in
    let same = all_same 22 a b (omega (arith, c.told-bytes)) (omega (arith, c.told-other_bytes)) all in
    c.cmp.ensures ∙ sym (ap (λ (o : Ordering). ordering_then o (nat_cmp c.args.len c.args.other_len)) same)
