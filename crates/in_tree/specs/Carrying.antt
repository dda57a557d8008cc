-- What holds of a log's entries, and of where this life of the environment began, while the log grows.
use Rattle.std.proofs.Common.{◌≡◌, ◌≤◌, ◌<◌, ℕ, zero, suc, List, [], ◌∷◌, ◌++◌, ap₂, sym, subst, ◌∙◌, arith}
use Rattle.je_disk.specs.DiskMeaning.{DiskMeaning}
use Rattle.je_disk.specs.Moments.{now}
use Rattle.log_entry.specs.declared.entry.Entry.{Entry}
use Rattle.log_file.specs.Log.{Log, IsLog}
use Rattle.log_buffer.specs.declared.buffer.LogBuffer.{LogBuffer}
use Rattle.log_buffer.specs.declared.log_pos.LogPos.{LogPos}
use Rattle.log_buffer.specs.Buffer.{disk_of, end_of, file_max_of, last_of}
use Rattle.log_buffer.specs.Flip.{pos_lsn}
use Rattle.log_buffer.specs.Growth.{longer, log_with_all}
use Rattle.log_buffer.specs.Laws.{placed_by}
use Rattle.log_buffer.specs.Log.{HasLog}
use Rattle.log_buffer.proofs.GrowthLaws.{with_all-append}
use Rattle.log_trees.specs.Placed.{Placed, placed}
use Rattle.log_meaning.specs.Transactions.{RiseBehind, last_lsn}
use Rattle.crash_recovery.proofs.RisingLsns.{appended_rise}
use Rattle.in_tree.specs.Limits.{GrewFitting}

-- a fact of entries with their LSNs, and of the LSN at which this life began
abbrev pub LogFact : Type 1
LogFact = List Placed → ℕ → Type 0

-- entries at rising LSNs behind one end at it or behind it
last_rises : (next : ℕ) (more : List Placed) → RiseBehind next more → next ≤ last_lsn next more
last_rises next [] up = omega arith
last_rises next (p ∷ more) up = let rest = last_rises p.0 more up.1 in let low = up.0.0 in omega (arith, rest, low)

module _ {D : Type 0} (meaning : DiskMeaning D) where
  -- what held of the old log holds, as another fact, of the one with entries more
  abbrev pub Carries : LogBuffer D → List Entry → LogFact → LogFact → Type 0
  Carries old entries Before After =
      (log : Log) (base : ℕ) → HasLog meaning.observable (now (meaning.history (disk_of old))) old log → base ≤ pos_lsn (end_of old) → Before (placed log) base → After (placed (longer old entries log)) base

  -- nothing is appended
  pub carries_here : (x : LogBuffer D) (P Q : LogFact) → ((es : List Placed) (base : ℕ) → P es base → Q es base) → Carries x [] P Q
  carries_here x P Q step log base has begun fact = step (placed log) base fact

  -- the log ends no lower
  pub end_rises : (x y : LogBuffer D) (a : List Entry) (log : Log) (base : ℕ) → GrewFitting meaning x y a → HasLog meaning.observable (now (meaning.history (disk_of x))) x log → base ≤ pos_lsn (end_of x) → base ≤ pos_lsn (end_of y)
  end_rises x y a log base grew has begun = by_number base begun
    where
      long : IsLog (longer x a log)
      long = (grew.grew.log log has).is_log

      below : (next : ℕ) → next < pos_lsn (end_of x) → next < pos_lsn (end_of y)
      below next lt =
          let rise = appended_rise log (end_of x) (last_of x) (file_max_of x) a next has.is_log has.ends long lt in
          let up = last_rises next (placed_by (file_max_of x) (end_of x) a) rise.rise in
          subst (λ (e : LogPos). next < pos_lsn e) (sym grew.grew.end) (let under = rise.below in omega (arith, up, under))

      by_number : (n : ℕ) → n ≤ pos_lsn (end_of x) → n ≤ pos_lsn (end_of y)
      by_number zero le = omega arith
      by_number (suc n) le = let lt = below n (omega (arith, le)) in omega (arith, lt)

  -- entries, and others behind them
  pub carries_then : (x y : LogBuffer D) (a b : List Entry) (P Q R : LogFact) → GrewFitting meaning x y a → Carries x a P Q → Carries y b Q R → Carries x (a ++ b) P R
  carries_then x y a b P Q R grew first second log base has begun fact =
      subst (λ (l : Log). R (placed l) base) joined
      (second (longer x a log) base (grew.grew.log log has) (end_rises x y a log base grew has begun) (first log base has begun fact))
    where
      joined : longer y b (longer x a log) ≡ longer x (a ++ b) log
      joined =
          ap₂ (λ (m : ℕ) (e : LogPos). log_with_all m e b (longer x a log)) grew.grew.max grew.grew.end
          ∙ sym (with_all-append (file_max_of x) (end_of x) a b log)
