use Rattle.std.proofs.Common.{◌≡◌, ◌<◌, ◌+◌, ◌*◌, ◌^◌, [], ◌∷◌, ◌++◌, ◌∙◌, List, ℕ, reverse, ap, sym, subst, arith}
use Rattle.std.proofs.lemmas.List.{reverse-reverse}
use Rattle.std.specs.List.{AllByRecursion}
use Rattle.log_entry.specs.declared.entry.Entry.{Entry}
use Rattle.log_entry.specs.Body.{IsEntry}
use Rattle.log_entry.specs.Encoding.{size_of}
use Rattle.log_file.specs.Scan.{sizes_of}
use Rattle.log_trees.specs.Placed.{Placed, placed_from}
use Rattle.recovery_je.specs.LogRead.{offsets_from}
use Rattle.recovery_je.proofs.FilesRead.{ends_below, placed_more, offsets_more}
use Rattle.recovery_je.proofs.NoteLaws.{noted_none, noted_on}
use Rattle.recovery_je.proofs.RedoingLaws.{last_is_first}
use Rattle.recovery_je.proofs.reading.take_entries.Goals as goal

pub loop-entry-init : goal.loop-entry-init
loop-entry-init c =
    let is : reverse c.reverse.new.self.items ≡ c.args.entries = ap reverse c.reverse.ensures.items ∙ reverse-reverse c.into_vec-left.result.items ∙ c.into_vec-left.ensures in
    let none : c.in_ok-offsets.offsets.items ≡ [] = c.in_ok-offsets.ensures.items in
    record {
      offsets = ap (λ (l : List ℕ). l ++ offsets_from 26 (reverse c.reverse.new.self.items)) none ∙ ap (offsets_from 26) is;
      entries = subst (AllByRecursion IsEntry) (sym is) c.requires.entries;
      ends = subst (λ (l : List Entry). 26 + sizes_of l < 2 ^ 32) (sym is) c.requires.ends;
      done = [];
      parts = ap (placed_from c.args.f.0 26) is;
      noted = noted_none c.args.notes.now;
    }

pub loop-entry-preserved : goal.loop-entry-preserved
loop-entry-preserved c =
    let so = c.loop-entry.invariant in
    let left = reverse c.loop-entry.left.items in
    let rest = reverse c.give_back.new.left.items in
    let is : left ≡ c.in-Some.entry ∷ rest = last_is_first c.loop-entry.left.items c.pop.new.self.items c.give_back.new.left.items c.in-Some.entry c.in-Some.ensures.items c.give_back.ensures in
    let all : AllByRecursion IsEntry (c.in-Some.entry ∷ rest) = subst (AllByRecursion IsEntry) is so.entries in
    let size : c.size-len.result ≡ size_of c.in-Some.entry = c.size-len.ensures.value in
    let p : Placed = (c.args.f.0 * 2 ^ 32 + c.loop-entry.at, c.in-Some.entry) in
    record {
      offsets = offsets_more c.loop-entry.at c.size-len.result c.loop-entry.offsets.items c.take_entry.new.offsets.items (offsets_from 26 c.args.entries) left rest c.in-Some.entry so.offsets is c.in_ok-take_entry.ensures.offsets size;
      entries = all.1;
      ends = omega (arith, ap sizes_of is, size, so.ends);
      done = so.done ++ p ∷ [];
      parts = placed_more c.args.f.0 c.loop-entry.at c.size-len.result so.done (placed_from c.args.f.0 26 c.args.entries) left rest c.in-Some.entry so.parts is size;
      noted = noted_on c.args.notes.now c.loop-entry.notes c.take_entry.new.notes so.done p so.noted c.in_ok-take_entry.ensures.notes;
    }

pub size-len-requires : goal.size-len-requires
size-len-requires c =
    let is = last_is_first c.loop-entry.left.items c.pop.new.self.items c.give_back.new.left.items c.in-Some.entry c.in-Some.ensures.items c.give_back.ensures in
    (subst (AllByRecursion IsEntry) is c.loop-entry.invariant.entries).0

pub overflow_add-at : goal.overflow_add-at
overflow_add-at c =
    let is = last_is_first c.loop-entry.left.items c.pop.new.self.items c.give_back.new.left.items c.in-Some.entry c.in-Some.ensures.items c.give_back.ensures in
    ends_below c.loop-entry.at c.size-len.result (reverse c.loop-entry.left.items) (reverse c.give_back.new.left.items) c.in-Some.entry is c.size-len.ensures.value c.loop-entry.invariant.ends
