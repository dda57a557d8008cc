-- The lines of entries, one entry after another.
use Rattle.std.proofs.Common.{◌≡◌, ◌<◌, ◌+◌, ◌^◌, ◌∷◌, ◌++◌, [], ℕ, List, sym, ◌∙◌, subst, append_assoc, arith}
use Rattle.std.proofs.lemmas.List.{append-nil}
use Rattle.std.specs.List.{AllByRecursion}
use Rattle.log_entry.specs.declared.entry.Entry.{Entry}
use Rattle.log_entry.specs.Body.{IsEntry}
use Rattle.log_entry.specs.Encoding.{size_of}
use Rattle.log_file.specs.Scan.{sizes_of}
use Rattle.log_printer.specs.declared.log_line.LogLine.{LogLine}
use Rattle.log_printer.specs.LogLines.{line_of_entry, lines_of_entries}

-- the lines so far and those of the entries that are left are all; each of these is an entry, and they end below 2^32
pub record IsPrinted (f : ℕ) (all lines : List LogLine) (at prev : ℕ) (rest : List Entry) : Type 0 where
  pub parts : all ≡ lines ++ lines_of_entries f at prev rest
  pub entries : AllByRecursion IsEntry rest
  pub within : at + sizes_of rest < 2 ^ 32

pub one_line_more : (f : ℕ) (all lines : List LogLine) (at prev : ℕ) (rest left : List Entry) (entry : Entry) → IsPrinted f all lines at prev rest → rest ≡ entry ∷ left →
    IsPrinted f all (lines ++ line_of_entry f at prev entry ∷ []) (at + size_of entry) at left
one_line_more f all lines at prev rest left entry h cut =
    let cut_h : IsPrinted f all lines at prev (entry ∷ left) = subst (IsPrinted f all lines at prev) cut h in
    record {
      parts = cut_h.parts ∙ sym (append_assoc lines (line_of_entry f at prev entry ∷ []) (lines_of_entries f (at + size_of entry) at left));
      entries = cut_h.entries.1;
      within = omega (arith, cut_h.within);
    }

pub next_entry : (f : ℕ) (all lines : List LogLine) (at prev : ℕ) (rest left : List Entry) (entry : Entry) → IsPrinted f all lines at prev rest → rest ≡ entry ∷ left →
    IsEntry entry × (at + size_of entry < 2 ^ 32)
next_entry f all lines at prev rest left entry h cut =
    let cut_h : IsPrinted f all lines at prev (entry ∷ left) = subst (IsPrinted f all lines at prev) cut h in
    (cut_h.entries.0, omega (arith, cut_h.within))

pub all_lines : (f : ℕ) (all lines : List LogLine) (at prev : ℕ) (rest : List Entry) → IsPrinted f all lines at prev rest → rest ≡ [] → lines ≡ all
all_lines f all lines at prev rest h none =
    let h' : IsPrinted f all lines at prev [] = subst (IsPrinted f all lines at prev) none h in
    sym (h'.parts ∙ append-nil lines)
