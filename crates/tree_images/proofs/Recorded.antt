-- Cells whose data stands where they say: how they are set.
use Rattle.std.proofs.Common.{◌≡◌, ◌⊎◌, inl, inr, ℕ, List, Bool, true, false, cond, Option, None, Some, option_map, ap, sym, subst, ◌∙◌, is_eq}
use Rattle.std.specs.Prelude.{IfSome, Box}
use Rattle.std.specs.Global.{Global}
use Rattle.std.proofs.lemmas.Option.{none-some, same_Some}
use Rattle.je_order.specs.Order.{name_cmp}
use Rattle.je_order.specs.declared.name.Name.{Name}
use Rattle.node_core.specs.Changes.{is_committed}
use Rattle.node_core.specs.declared.slot.Version.TheVariants.{There, Deleted, Unset}
use Rattle.record_map.specs.declared.cell.Cell.{Cell}
use Rattle.record_map.specs.declared.write.Write.{Write}
use Rattle.record_map.specs.Cells.{value_at, with_write, with_committed, committed_by}
use Rattle.record_map.proofs.NameLaws.{same_or_other, same_gets, other_stays}
use Rattle.log_trees.specs.Trees.{data_of}
use Rattle.db_tree.specs.Images.{Placed}
use Rattle.tree_images.specs.Fits.{IsRecorded}
use Rattle.tree_images.specs.Laws.{CellsAreSet, MadeCellsAreRecorded, WritesAreRecorded, CommittedCellsAreRecorded, GivenUpCellsAreRecorded, LoggedCellsAreRecorded, LoadedCellsAreRecorded}

pub cells_are_set : CellsAreSet
cells_are_set es d old new name o has set all x cell there = by_name (same_or_other name x)
  where
    by_option : (p : Option Cell) → IfSome p (IsRecorded es d name) → p ≡ Some cell → IsRecorded es d name cell
    by_option None h is = absurd (none-some cell is)
    by_option (Some c) h is = subst (IsRecorded es d name) (same_Some c cell is) h

    by_name : (name ≡ x) ⊎ (is_eq (name_cmp name x) ≡ false) → IsRecorded es d x cell
    by_name (inl same) =
        subst (λ (y : Name). IsRecorded es d y cell) same (by_option o set (sym (same_gets name o (value_at name old)) ∙ sym (has name) ∙ ap (λ (y : Name). value_at y new) same ∙ there))
    by_name (inr other) = all x cell (sym (other_stays name x o (value_at x old) other) ∙ sym (has x) ∙ there)

-- ---- single cells

no_version : {A : Type 0} (lsn : ℕ) → Unset ≡ There lsn → A
no_version lsn h = absurd cc

pub made_recorded : MadeCellsAreRecorded
made_recorded es d x None h = record { committed = λ lsn is. no_version lsn is; written = tt }
made_recorded es d x (Some cell) h = h

pub write_recorded : WritesAreRecorded
write_recorded es d x cell w logged is = record { committed = is.committed; written = logged }

-- a version is that of its own LSN
there_is : (lsn at : ℕ) (v : List ℕ) (es : Placed) (d : ℕ) (x : Name) → There lsn ≡ There at → data_of es d x lsn ≡ Some v → data_of es d x at ≡ Some v
there_is lsn at v es d x same is = let e : lsn ≡ at = cc in subst (λ (l : ℕ). data_of es d x l ≡ Some v) e is

deleted_not : {A : Type 0} (lsn : ℕ) → Deleted ≡ There lsn → A
deleted_not lsn h = absurd cc

pub committed_recorded : CommittedCellsAreRecorded
committed_recorded es d x cell at last is = by_write cell.write is.written
  where
    by_value : (lsn : ℕ) (value : Option (List ℕ)) → IfSome value (λ v. data_of es d x lsn ≡ Some v) → IsRecorded es d x (with_committed lsn value at last (with_write None cell))
    by_value lsn (Some v) h = record { committed = λ l same. there_is lsn l v es d x same h; written = tt }
    by_value lsn None h = record { committed = λ l same. deleted_not l same; written = tt }

    by_write : (o : Option (Box Write Global)) → IfSome o (λ w. IfSome w.value.value (λ v. data_of es d x w.value.at ≡ Some v)) → IsRecorded es d x (committed_by (option_map (λ w. w.value) o) at last cell)
    by_write None h = is
    by_write (Some w) h = by_value w.value.at w.value.value h

pub given_up_recorded : GivenUpCellsAreRecorded
given_up_recorded es d x None h = h
given_up_recorded es d x (Some cell) h = by_test (is_committed cell.version)
  where
    by_test : (t : Bool) → IfSome (cond t (Some (with_write None cell)) None) (IsRecorded es d x)
    by_test true = record { committed = h.committed; written = tt }
    by_test false = tt

pub logged_recorded : LoggedCellsAreRecorded
logged_recorded es d x (Some v) at commit last cell h is = record { committed = λ l same. there_is at l v es d x same h; written = is.written }
logged_recorded es d x None at commit last cell h is = record { committed = λ l same. deleted_not l same; written = is.written }

pub loaded_recorded : LoadedCellsAreRecorded
loaded_recorded es d x at v h = record { committed = λ l same. there_is at l v es d x same h; written = tt }
