use Rattle.std.proofs.Common.{◌≡◌, length, rules, arith, sym, ◌∙◌, ap}
use Rattle.je_lsn.specs.Naming.{name_of}
use Rattle.je_lsn.proofs.FileNames.{named_once, spelled_so, unnamed}
use Rattle.je_lsn.proofs.naming.parse_name.Goals as goal

pub returns-then-name-ne12-clause-none : goal.returns-then-name-ne12-clause-none
returns-then-name-ne12-clause-none c = λ _ f small named. c.if-name-ne12.true (ap length named)

pub returns-then-name-ne12-clause-named : goal.returns-then-name-ne12-clause-named
returns-then-name-ne12-clause-named c = λ f small named. absurd (c.if-name-ne12.true (ap length named))

pub returns-then-f-gt-LAST_FILE-clause-only : goal.returns-then-f-gt-LAST_FILE-clause-only
returns-then-f-gt-LAST_FILE-clause-only c = tt

pub returns-then-f-gt-LAST_FILE-clause-below : goal.returns-then-f-gt-LAST_FILE-clause-below
returns-then-f-gt-LAST_FILE-clause-below c = tt

pub returns-then-f-gt-LAST_FILE-clause-none : goal.returns-then-f-gt-LAST_FILE-clause-none
returns-then-f-gt-LAST_FILE-clause-none c = λ _ f small named. let is = named_once c.args.name.now f small named in omega arith

pub returns-then-f-gt-LAST_FILE-clause-named : goal.returns-then-f-gt-LAST_FILE-clause-named
returns-then-f-gt-LAST_FILE-clause-named c = λ f small named. let is = named_once c.args.name.now f small named in absurd (omega arith)

pub returns-then-ne-clause-none : goal.returns-then-ne-clause-none
returns-then-ne-clause-none c = λ _ f small named.
    unnamed c.args.name.now c.as_slice.result.now (c.as_slice.ensures ∙ c.file_name.ensures ∙ ap name_of c.number.ensures) (search (rules, c.ne.ensures, c.if-ne.true)) f small named

pub returns-then-ne-clause-named : goal.returns-then-ne-clause-named
returns-then-ne-clause-named c = λ f small named. absurd (returns-then-ne-clause-none c (search rules) f small named)

pub returns-clause-named : goal.returns-clause-named
returns-clause-named c = λ f small named. let is : c.number.result ≡ f = c.number.ensures ∙ named_once c.args.name.now f small named in cc

pub returns-clause-only : goal.returns-clause-only
returns-clause-only c = sym (spelled_so c.as_slice.result.now c.args.name.now c.ne.result c.ne.ensures c.if-ne.false) ∙ c.as_slice.ensures ∙ c.file_name.ensures

pub returns-clause-below : goal.returns-clause-below
returns-clause-below c = omega arith

pub returns-clause-none : goal.returns-clause-none
returns-clause-none c = λ no. absurd cc
