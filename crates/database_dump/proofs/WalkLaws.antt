-- One record of a walk more.
use Rattle.std.proofs.Common.{◌≡◌, ℕ, Bool, List, [], ◌∷◌, ◌++◌, Option, None, Some, refl, ap, sym, ◌∙◌, append_assoc, map}
use Rattle.std.proofs.lemmas.List.{append-nil}
use Rattle.je_order.specs.declared.name.Name.{Name}
use Rattle.store_model.specs.declared.kind.Kind.{Kind}
use Rattle.log_replay.specs.Rows.{Row, pair_of}
use Rattle.record_map.specs.Cells.{first_of}
use Rattle.record_tree.specs.Occupied.{Occupied}
use Rattle.txn_core.specs.Known.{committed_rows, with_row}
use Rattle.dump_text.specs.Text.{pair_text}
use Rattle.database_dump.specs.Text.{rows_text}

-- the lines of one record, and of those behind it
with_lines : (printed : Bool) (kind : Kind) (name : Name) (value : Option (List ℕ)) (rows : List Row) →
    rows_text printed kind (with_row name value rows) ≡ rows_text printed kind (with_row name value []) ++ rows_text printed kind rows
with_lines printed kind name None rows = refl
with_lines printed kind name (Some value) rows = ap (λ (l : List ℕ). l ++ rows_text printed kind rows) (sym (append-nil (pair_text printed (pair_of kind (name, value)))))

-- all lines are those that were sent, those of the next name, and those of the names behind it
pub one_more : (printed : Bool) (kind : Kind) (all sent : List ℕ) (e : Name × Occupied) (here behind : List (Name × Occupied)) → here ≡ e ∷ behind →
    all ≡ sent ++ rows_text printed kind (committed_rows here) →
    all ≡ (sent ++ rows_text printed kind (with_row e.0 e.1.value [])) ++ rows_text printed kind (committed_rows behind)
one_more printed kind all sent e here behind is all_is =
    all_is
    ∙ ap (λ (l : List (Name × Occupied)). sent ++ rows_text printed kind (committed_rows l)) is
    ∙ ap (λ (l : List ℕ). sent ++ l) (with_lines printed kind e.0 e.1.value (committed_rows behind))
    ∙ sym (append_assoc sent (rows_text printed kind (with_row e.0 e.1.value [])) (rows_text printed kind (committed_rows behind)))

-- behind the last name there are none
pub none_more : (printed : Bool) (kind : Kind) (here : List (Name × Occupied)) → None ≡ first_of here → rows_text printed kind (committed_rows here) ≡ []
none_more printed kind [] none = refl
none_more printed kind (e ∷ here) none = cc
