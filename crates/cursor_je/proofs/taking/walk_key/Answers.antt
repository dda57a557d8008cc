use Rattle.std.proofs.Common.{◌∙◌, ◌++◌, map, filter, ap, sym, List}
use Rattle.je_order.specs.Edges.Edge.{At}
use Rattle.je_order.specs.declared.name.Name.{Name}
use Rattle.store_model.specs.Store.{Pair, name_of}
use Rattle.store_model.specs.Reads.{range, is_within, of_key, behind_key}
use Rattle.cursor_je.specs.Looks.{edge_in, name_in, pair_in, taken_in}
use Rattle.cursor_je.proofs.Walks.{walk_on, walk_less, walk_done}
use Rattle.cursor_je.proofs.taking.walk_key.Goals as goal

pub records-init : goal.records-init
records-init g c =
    let kind = g.V.View.kind_of c.args.view.now in
    let pairs = g.V.View.pairs_of c.args.view.now in
    ap (λ items. map pair_in items ++ filter (λ p. is_within (range (At (name_in c.key_name.result)) (behind_key c.args.key.now)) (name_of kind p)) pairs) c.new-taken.ensures.items
    ∙ ap (λ (name : Name). filter (λ p. is_within (range (At name) (behind_key c.args.key.now)) (name_of kind p)) pairs) c.key_name.ensures

pub records-smaller : goal.records-smaller
records-smaller g c =
    let view = c.args.view.now in
    walk_less (g.V.View.kind_of view) c.kind-kind.result (edge_in c.records.from) (behind_key c.args.key.now) (g.V.View.pairs_of view)
    c.in-Some.found (name_in c.record_name.result) (g.V.View.rises view) c.kind-kind.ensures (ap taken_in (sym c.in-Some.is) ∙ c.in_ok-found.ensures) c.record_name.ensures

pub records-preserved : goal.records-preserved
records-preserved g c =
    let view = c.args.view.now in
    let kind = g.V.View.kind_of view in
    let pairs = g.V.View.pairs_of view in
    let start : List Pair = filter (λ p. is_within (of_key c.args.key.now) (name_of kind p)) pairs in
    walk_on kind c.kind-kind.result (edge_in c.records.from) (behind_key c.args.key.now) pairs start
    c.records.taken.items c.push.new.self.items c.in-Some.found (name_in c.record_name.result)
    (g.V.View.rises view) c.kind-kind.ensures (ap taken_in (sym c.in-Some.is) ∙ c.in_ok-found.ensures) c.record_name.ensures c.in_ok-push.ensures.items c.records.invariant

pub returns : goal.returns
returns g c =
    let kind = g.V.View.kind_of c.args.view.now in
    let pairs = g.V.View.pairs_of c.args.view.now in
    walk_done kind (edge_in c.records.from) (behind_key c.args.key.now) pairs (filter (λ p. is_within (of_key c.args.key.now) (name_of kind p)) pairs)
    c.records.taken.items (ap taken_in (sym c.in_default.is) ∙ c.in_ok-found.ensures) c.records.invariant
