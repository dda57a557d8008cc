use Rattle.std.proofs.Common.{◌≡◌, ◌∙◌, ap, sym, refl, ℕ, List, Option, Some, None}
use Rattle.std.specs.Prelude.{Err, Ok, Result, option_and_then}
use Rattle.std.specs.Str.Parse.{ExplainsUnsignedError, HasUnsignedDigitsIfOk, ParsesUnsigned}
use Rattle.clap.specs.Matches.{ReadsOne, found_of}
use Rattle.clap.specs.Walk.{Text}
use Rattle.clap.proofs.WalkLemmas.{one_text-rows}
use Rattle.command_line.specs.Arguments.{number_read}
use Rattle.command_line.proofs.NumberLaws.{others_read, spelled_read}
use Rattle.command_line.proofs.arguments.number_given.Goals as goal

-- a text that is read as a u32 is read as its number
read_so : {E : Type 0} (gives : List ℕ → Result ℕ E → Type 0) (text : Text) (read : Option ℕ) → ((r : Result ℕ E) → gives text r → ParsesUnsigned 32 10 text r) → ReadsOne gives text read →
    read ≡ number_read text
read_so gives text (Some n) parses reads = ap (λ x. Some x) (parses (Ok n) reads).1 ∙ sym (spelled_read text (parses (Ok n) reads).0)
read_so gives text None parses reads = sym (others_read text (parses (Err reads.0) reads.1))

read_by : {E : Type 0} (gives : List ℕ → Result ℕ E → Type 0) (found : Option Text) (read : Option ℕ) → ((text : Text) (r : Result ℕ E) → gives text r → ParsesUnsigned 32 10 text r) →
    (found ≡ None → read ≡ None) → ((text : Text) → found ≡ Some text → ReadsOne gives text read) → read ≡ option_and_then number_read found
read_by gives None read parses none value = none refl
read_by gives (Some text) read parses none value = read_so gives text read (parses text) (value text refl)

pub returns : goal.returns
returns c =
    read_by (λ bs r. ParsesUnsigned 32 10 bs r × ExplainsUnsignedError 10 bs r × HasUnsignedDigitsIfOk bs r) _ c.get_one.result (λ text r gives. gives.0) c.get_one.ensures.none c.get_one.ensures.value
    ∙ ap (option_and_then number_read) (one_text-rows (found_of c.args.given.now) c.args.name.now)
