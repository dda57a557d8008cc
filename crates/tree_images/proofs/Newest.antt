-- Each name's newest committed change while the log grows.
use Rattle.std.proofs.Common.{◌≡◌, ◌≤◌, ◌++◌, ℕ, List, [], ◌∷◌, Bool, true, false, cond, refl, ap, sym, subst, ◌∙◌, arith}
use Rattle.std.specs.List.{AllByRecursion}
use Rattle.std.proofs.lemmas.Bool.{true≢false}
use Rattle.std.proofs.Math.Nat.{le_refl, le_trans}
use Rattle.je_order.specs.declared.name.Name.{Name}
use Rattle.je_order.proofs.Lists.{all_weaker}
use Rattle.log_entry.specs.declared.entry.Entry.{Entry}
use Rattle.log_entry.specs.declared.entry.Entry.TheVariants.{FileHeader, Put, Delete, Migrated, Commit, In, Bin, BinDelta, CkptStart, CkptEnd, FileSummary}
use Rattle.log_trees.specs.Changes.{Written, unwritten, LoggedChange, is_of, last_of}
use Rattle.log_trees.proofs.Rooted.{last_of-append}
use Rattle.log_meaning.specs.Redo.{Redo, redo_entry, redone, newest}
use Rattle.log_meaning.specs.Stands.{Rises}
use Rattle.log_meaning.proofs.Lasts.{all_from}
use Rattle.log_meaning.proofs.RedoLaws.{redone-in}
use Rattle.tree_images.specs.NewestLaws.{commits_changes, NewestStays, CommitsAreNewest}

-- ---- entries that commit nothing

done_stays : (at : ℕ) (entry : Entry) (redo : Redo) → commits_changes entry ≡ false → (redo_entry at entry redo).done ≡ redo.done
done_stays at (FileHeader version file) redo none = refl
done_stays at (Put txn db name value) redo none = refl
done_stays at (Delete txn db name) redo none = refl
done_stays at (Migrated db name value) redo none = absurd (true≢false none)
done_stays at (Commit txn) redo none = absurd (true≢false none)
done_stays at (In db node level slots) redo none = refl
done_stays at (Bin db node slots) redo none = refl
done_stays at (BinDelta db node full slots) redo none = refl
done_stays at (CkptStart number) redo none = refl
done_stays at (CkptEnd number start redo_at last_txn last_node last_db summary roots) redo none = refl
done_stays at (FileSummary files) redo none = refl

pub newest_stays : NewestStays
newest_stays es base at entry d x le none =
    ap (λ (l : List LoggedChange). (last_of d x l unwritten).at) (ap (λ (r : Redo). r.done) (redone-in base es (at, entry) le) ∙ done_stays at entry (redone base es) none)

-- ---- a Commit

-- changes at rising LSNs end at none of them or behind it, and not below where they begin
rises_last : (d : ℕ) (x : Name) (w : Written) (changes : List LoggedChange) → Rises d x w changes → w.at ≤ (last_of d x changes w).at
rises_last d x w [] up = le_refl w.at
rises_last d x w (c ∷ changes) up = le_trans (first (is_of d x c) refl) (rises_last d x (cond (is_of d x c) c.written w) changes up.1)
  where
    first : (t : Bool) → is_of d x c ≡ t → w.at ≤ (cond t c.written w).at
    first true is = let lt = up.0 is in omega (arith, lt)
    first false is = le_refl w.at

changes_last : (d : ℕ) (x : Name) (w : Written) (changes : List LoggedChange) → Rises d x w changes → AllByRecursion (λ c. is_of d x c ≡ true → c.written.at ≤ (last_of d x changes w).at) changes
changes_last d x w [] up = tt
changes_last d x w (c ∷ changes) up = (
  λ is. subst (λ (v : Written). v.at ≤ (last_of d x changes (cond (is_of d x c) c.written w)).at) (ap (λ (t : Bool). cond t c.written w) is) (rises_last d x (cond (is_of d x c) c.written w) changes up.1),
  changes_last d x (cond (is_of d x c) c.written w) changes up.1,
)

pub commits_newest : CommitsAreNewest
commits_newest es base next at is_open rows is_live logged t d x s later live = record {
  rises = subst (λ (v : Written). (newest base es d x).at ≤ v.at) (sym newest_is) (rises_last d x (newest base es d x) (logged t.0) (s.alone t.0 live d x));
  own = subst (λ (v : Written). AllByRecursion (λ (c : LoggedChange). is_of d x c ≡ true → c.written.at ≤ v.at) (logged t.0)) (sym newest_is) (changes_last d x (newest base es d x) (logged t.0) (s.alone t.0 live d x));
}
  where
    pending : (redone base es).pending t.0 ≡ logged t.0
    pending =
        s.later base (le_refl base) t.0 live
        ∙ all_from base (logged t.0) (all_weaker (λ (c : LoggedChange). (base ≤ c.written.at) × (c.written.at ≤ next)) (λ c. base ≤ c.written.at) (λ c h. h.0) (logged t.0) (s.past_own t.0 live))

    newest_is : newest base (es ++ (at, Commit t) ∷ []) d x ≡ last_of d x (logged t.0) (newest base es d x)
    newest_is =
        let begun = s.begun in
        ap (λ (r : Redo). last_of d x r.done unwritten) (redone-in base es (at, Commit t) (omega (arith, begun, later)))
        ∙ last_of-append d x (redone base es).done ((redone base es).pending t.0) unwritten
        ∙ ap (λ (l : List LoggedChange). last_of d x l (newest base es d x)) pending
