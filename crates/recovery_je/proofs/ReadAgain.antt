-- Trees that were read from a checkpoint's roots, and a redo over them.
use Rattle.std.proofs.Common.{◌≡◌, ◌≤◌, ◌<◌, ◌==◌, ◌∙◌, ℕ, Bool, true, false, cond, List, [], ◌∷◌, None, Some, refl, ap, sym, subst, min, arith}
use Rattle.std.proofs.lemmas.Bool.{eq-eqb, ne_eqb}
use Rattle.std.specs.List.{AllByRecursion}
use Rattle.std.specs.Map.{lookup}
use Rattle.je_order.specs.declared.name.Name.{Name}
use Rattle.record_map.specs.Cells.{value_at}
use Rattle.log_entry.specs.Body.{IsEntry}
use Rattle.record_tree.specs.LoadedNodes.{AllNodes, AreNodesStill}
use Rattle.record_tree.specs.LoadedSlots.{AllRead, IsReadStill}
use Rattle.record_tree.specs.Stored.{AllStored, AreStoredStill}
use Rattle.log_trees.specs.Placed.{Placed, AreInOrder}
use Rattle.log_trees.specs.Changes.{LoggedChange, unwritten, last_of}
use Rattle.log_entry.specs.Items.{rises, root_before}
use Rattle.log_trees.specs.Laws.{AreRight}
use Rattle.log_trees.specs.Walk.{Walk}
use Rattle.log_trees.proofs.Right.{read_trees_are_right}
use Rattle.log_meaning.proofs.Opened.{roots_rise}
use Rattle.log_meaning.specs.Checkpoint.{Checkpoint, last_checkpoint}
use Rattle.log_meaning.specs.ReadNodes.{stored_of, Loaded, AreLoadedEach, IsRootLoaded, AreReadFrom}
use Rattle.recovery_je.specs.declared.roots.WalkNumbers.{WalkNumbers}
use Rattle.recovery_je.specs.Putting.{AreRootsPut, IsIn, IsLogged, FitsRedo}
use Rattle.recovery_je.specs.Recovering.{IsWalked}
use Rattle.recovery_je.specs.Redoing.{waits}
use Rattle.recovery_je.proofs.PutLaws.{same_loaded}

-- what reading the roots gives
pub are_read : (files : List ℕ) (es : List Placed) (c : Checkpoint) (numbers : WalkNumbers) (begun before : Loaded) (nodes : AllNodes) (slots : AllRead) (was stored : AllStored) (walk : Walk) (last_node last : ℕ) → AllByRecursion (λ p. IsEntry p.1) es →
    c ≡ last_checkpoint es → IsWalked files es c numbers was walk → AreRootsPut es c.roots numbers.node begun before → ((d k : ℕ) (low : Name) → begun.nodes d k low ≡ None) →
    ((d : ℕ) (x : Name) → begun.slots d x ≡ None) → AreNodesStill before.nodes nodes → IsReadStill before.slots slots → AreStoredStill was stored → numbers.node ≤ last_node → min last_node 0x7fffffffffffffff ≤ last → AreReadFrom es (last_checkpoint es) nodes slots stored last
are_read files es c numbers begun before nodes slots was stored walk last_node last entries at walked roots none bare still slots_still same le reach =
    subst (λ (k : Checkpoint). AreReadFrom es k nodes slots stored last) at (record {
      entries = entries;
      rise = subst (λ (k : Checkpoint). rises root_before k.roots ≡ true) (sym at) (roots_rise es entries);
      home = right.home;
      right = right.right;
      records = λ d x.
          ap (value_at x) (same d) ∙ walked.records d x ∙ ap (λ (rows : List LoggedChange). stored_of (last_of d x rows unwritten)) right.rows;
      keeps = roots.keeps;
      whole = roots.whole;
      most = last_node;
      reach = reach;
      begun = begun;
      none = none;
      bare = bare;
      put = subst (AreLoadedEach (IsRootLoaded es roots.keeps last_node) c.roots begun) (sym (same_loaded before (record { nodes = nodes; slots = slots }) (record { nodes = still; slots = slots_still }))) (roots.put last_node le);
    })
  where
    right : AreRight es c.at c.roots walk
    right = read_trees_are_right files es c.at c.roots walk entries walked.read

-- ---- a redo

-- entries in order stand where their LSNs say
pub all_in : (base : ℕ) (es : List Placed) → AreInOrder es → AllByRecursion (λ p. p.0 < base) es → AllByRecursion (IsIn es base) es
all_in base [] order below = tt
all_in base (q ∷ es) order below =
    ((below.0, ap (λ (t : Bool). cond t (Some q.1) (lookup (λ n. n == q.0) es)) (eq-eqb q.0 q.0 refl)), more es order.0 (all_in base es order.1 below.1))
  where
    later : (p : Placed) → q.0 < p.0 → IsIn es base p → IsIn (q ∷ es) base p
    later p less is =
        let apart : (q.0 == p.0) ≡ false = ne_eqb q.0 p.0 (λ (e : q.0 ≡ p.0). absurd (omega (arith, e, less))) in
        (is.0, ap (λ (t : Bool). cond t (Some q.1) (lookup (λ n. n == p.0) es)) apart ∙ is.1)

    more : (ps : List Placed) → AllByRecursion (λ p. q.0 < p.0) ps → AllByRecursion (IsIn es base) ps → AllByRecursion (IsIn (q ∷ es) base) ps
    more [] above all = tt
    more (p ∷ ps) above all = (later p above.0 all.0, more ps above.1 all.1)

-- nothing waits yet
pub fits_begin : {T : Type 0} (fits : T → List Placed → ℕ → Type 0) (es : List Placed) (base : ℕ) (trees : T) (kept : List (ℕ × List LoggedChange)) → ((t : ℕ) → waits kept t ≡ []) → fits trees es base → FitsRedo fits es base trees kept
fits_begin fits es base trees kept none fit = record { fit = fit; logged = λ t. subst (AllByRecursion (IsLogged es base)) (sym (none t)) tt }
