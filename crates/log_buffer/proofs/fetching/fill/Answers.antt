use Rattle.std.proofs.Common.{◌≡◌, ◌≤◌, ◌==◌, ◌++◌, ◌∙◌, ℕ, List, true, min, ap, arith, length, take, drop, append-nil}
use Rattle.std.specs.Prelude.{IsTrue, ◌↔◌}
use Rattle.std.proofs.lemmas.Bool.Decides.{nat_tests}
use Rattle.std.proofs.lemmas.List.{drop_all}
use Rattle.je_disk.specs.Moments.{now}
use Rattle.je_disk.specs.States.{content}
use Rattle.log_buffer.proofs.fetching.fill.Goals as goal

pub returns-clause-only_read : goal.returns-clause-only_read
returns-clause-only_read g c =
    record { same = c.read.ensures.same; moments = c.read.ensures.moments; syncs = c.read.ensures.sync_out; reads = c.read.ensures.read_out; file = c.read.ensures.read_of }

pub returns-in_err-count-clause-only_read : goal.returns-in_err-count-clause-only_read
returns-in_err-count-clause-only_read g c =
    record { same = c.read.ensures.same; moments = c.read.ensures.moments; syncs = c.read.ensures.sync_out; reads = c.read.ensures.read_out; file = c.read.ensures.read_of }

-- as many bytes as were asked for are read exactly where there are as many
all_read : (n all there : ℕ) → n ≡ min all there → IsTrue (n == all) ↔ (all ≤ there)
all_read n all there is = (λ t. grind (arith, nat_tests), λ le. grind (arith, nat_tests))

-- a piece that was filled has none of its old bytes
filled : (n : ℕ) (old there new : List ℕ) → new ≡ take n there ++ drop n old → (n == length old) ≡ true → new ≡ take (length old) there
filled n old there new is all =
    let same : n ≡ length old = grind (arith, nat_tests) in
    is ∙ ap (λ (l : List ℕ). take n there ++ l) (drop_all n old (omega (arith, same))) ∙ append-nil (take n there) ∙ ap (λ (k : ℕ). take k there) same

pub returns-clause-whole : goal.returns-clause-whole
returns-clause-whole g c =
    let there = drop c.args.at (content (now (g.D.Disk.meaning.history c.args.disk.now)).reads c.args.f.0) in
    λ observed. all_read c.in_ok-count.count (length c.args.into.now) (length there) (rw c.from.ensures at (c.in_ok-count.ensures.count observed))

pub returns-clause-bytes : goal.returns-clause-bytes
returns-clause-bytes g c =
    let there = drop c.args.at (content (now (g.D.Disk.meaning.history c.args.disk.now)).reads c.args.f.0) in
    λ observed whole. filled c.in_ok-count.count c.args.into.now there c.read.new.into (rw c.from.ensures at (c.in_ok-count.ensures.bytes observed)) whole
