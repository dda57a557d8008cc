-- Images of nodes that were made together are logged, one after another.
use Rattle.std.proofs.Common.{◌≡◌, ◌⊎◌, ◌++◌, ℕ, List, [], ◌∷◌, Option, None, Some, is_some, map, refl, ap, sym, subst, ◌∙◌, inl, inr}
use Rattle.std.proofs.lemmas.Bool.{true≢false}
use Rattle.std.proofs.lemmas.Option.{same_Some}
use Rattle.je_order.specs.declared.name.Name.{Name}
use Rattle.log_entry.specs.Body.{IsEntry}
use Rattle.log_entry.specs.declared.entry.Entry.{Entry}
use Rattle.record_map.specs.Cells.{value_at}
use Rattle.tree_nodes.specs.declared.node.Node.{Node}
use Rattle.tree_nodes.specs.Nodes.{NodeRow}
use Rattle.tree_nodes.specs.Levels.{row_of}
use Rattle.db_tree.specs.Content.{kept_by}
use Rattle.db_tree.specs.NodeImages.{node_of, number_in, number_of, finished}
use Rattle.db_tree.specs.NodeSteps.{WasThere, IsNoted}
use Rattle.db_tree.specs.Trees.{IsImageOf}
use Rattle.db_tree.proofs.NodeSteps.{IsElsewhere, place_of}
use Rattle.db_tree.proofs.Over.{there_is}
use Rattle.tree_images.specs.Fits.{AreImaged}
use Rattle.tree_images.specs.NodeLaws.{image_of, MayLog}
use Rattle.tree_images.specs.LogLaws.{DueImagesAreLogged}
use Rattle.tree_images.proofs.Finished.{finished_whole}
use Rattle.tree_images.proofs.Logged.{images_have_content}
use Rattle.tree_images.proofs.Longer.{recorded_stays}
use Rattle.tree_images.proofs.NodeSteps.{some_there, elsewhere, logged_imaged}
use Rattle.tree_images.proofs.Ordered.{there_stays, orders_stay}

-- a node has the number that it had where a node is noted
noted_numbers : (old new : List NodeRow) (level : ℕ) (low : Name) (at : ℕ) → IsNoted old new level low at → (k : ℕ) (x : Name) → number_of old k x ≡ number_of new k x
noted_numbers old new level low at noted k x = by_new (value_at x (row_of new k)) refl
  where
    by_place : (n : Node) → value_at x (row_of new k) ≡ Some n → ((level ≡ k) × (low ≡ x)) ⊎ IsElsewhere level low k x → (m : Node) × (value_at x (row_of old k) ≡ Some m) × (n.number ≡ m.number)
    by_place n there (inl same) =
        let here = noted.here n (subst (λ (i : ℕ). value_at low (row_of new i) ≡ Some n) (sym same.0) (subst (λ (y : Name). value_at y (row_of new k) ≡ Some n) (sym same.1) there)) in
        (here.0, subst (λ (i : ℕ). value_at x (row_of old i) ≡ Some here.0) same.0 (subst (λ (y : Name). value_at y (row_of old level) ≡ Some here.0) same.1 here.1), here.2.number)
    by_place n there (inr other) = let w : WasThere old k x n = noted.others k x n (elsewhere level low k x other) there in (w.0, w.1, w.2.number)

    by_old : (o : Option Node) → value_at x (row_of old k) ≡ o → value_at x (row_of new k) ≡ None → number_in o ≡ 0
    by_old None was none = refl
    by_old (Some m) was none = absurd (true≢false (sym (there_stays old new k x noted.lows (there_is (row_of old k) x m was)) ∙ ap is_some none))

    by_new : (o : Option Node) → value_at x (row_of new k) ≡ o → number_of old k x ≡ number_in o
    by_new None none = by_old (value_at x (row_of old k)) refl none
    by_new (Some n) there = let w = by_place n there (place_of level low k x) in ap number_in w.1 ∙ sym w.2

pub due_logged : DueImagesAreLogged
due_logged es home last d before rows cells image images at due behind touched entry = record {
  there = due.order.0;
  content = λ o found. subst (λ (m : Node). IsImageOf (es ++ (at, (finished rows image).entry) ∷ []) rows (kept_by cells) image.level (image.low, m) at) (same_Some n o (sym n_there ∙ found)) content;
  next = λ new parts noted exact. record {
    parts = parts;
    rising = due.rising;
    imaged = subst (λ (e : Entry). AreImaged (es ++ (at, e) ∷ []) home last d (map node_of images) new) (sym whole)
        (logged_imaged es home last d (map node_of images) rows new cells image.level image.low n at may noted);
    recorded = recorded_stays es ((at, (finished rows image).entry) ∷ []) d cells due.recorded;
    exact = exact;
    order = orders_stay (map node_of images) rows new image.level image.low at noted due.order.2;
    made = due.made.1;
    lows = noted.lows ∙ due.lows;
    numbers = λ level low. due.numbers level low ∙ noted_numbers rows new image.level image.low at noted level low;
  };
}
  where
    found_node : (n : Node) × (value_at image.low (row_of rows image.level) ≡ Some n)
    found_node = some_there (row_of rows image.level) image.low due.order.0

    n : Node
    n = found_node.0

    n_there : value_at image.low (row_of rows image.level) ≡ Some n
    n_there = found_node.1

    whole : (finished rows image).entry ≡ image_of d n.number image.level image.low rows cells
    whole =
        finished_whole es home last d (map node_of (image ∷ images)) before rows cells image n due.made.0 due.lows (due.numbers image.level image.low ∙ ap number_in n_there) due.parts due.imaged n_there due.order.1

    may : MayLog es home last d (map node_of (image ∷ images)) rows cells image.level image.low n at
    may = record { parts = due.parts; rising = due.rising; behind = behind; imaged = due.imaged; recorded = due.recorded; touched = touched; there = n_there; children = due.order.1; entry = subst IsEntry whole entry }

    content : IsImageOf (es ++ (at, (finished rows image).entry) ∷ []) rows (kept_by cells) image.level (image.low, n) at
    content = subst (λ (e : Entry). IsImageOf (es ++ (at, e) ∷ []) rows (kept_by cells) image.level (image.low, n) at) (sym whole) (images_have_content es home last d (map node_of (image ∷ images)) rows cells image.level image.low n at may)
