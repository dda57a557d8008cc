-- What a crash leaves of a load.
use Rattle.std.specs.Prelude.{ℕ, ◌≡◌, ◌≤◌, ◌⊎◌, ◌++◌, take, length, List, Option, Bool, true, false}
use Rattle.dump_text.specs.declared.dump.Dump.{Dump}
use Rattle.store_model.specs.declared.kind.Kind.{Kind}
use Rattle.store_model.specs.declared.change.Change.TheVariants.{Make}
use Rattle.store_model.specs.declared.answer.Answer.{Answer}
use Rattle.store_model.specs.declared.event.Event.{Event}
use Rattle.store_model.specs.declared.store.Store.{Store}
use Rattle.store_model.specs.declared.plan.ScriptLine.{ScriptLine}
use Rattle.store_model.specs.Store.{changed, store_after}
use Rattle.je_answers.specs.Standing.{Standing}
use Rattle.je_answers.specs.After.{AnswersAsModel}
use Rattle.je_answers.specs.Alone.{Alone, alone}
use Rattle.je_answers.specs.Journal.{attempts_of, lines_of}
use Rattle.load_run.specs.Lines.{kind_of_dump, load_lines}
use Rattle.load_laws.specs.Given.{AreEndsLast, StopsAtRefusal}

-- a journal has the first lines of a load: nothing was under way before it, each event answers what it may, behind a refused call and behind the end of
-- the session no line is given
pub record IsLoadOf (make : Bool) (db : List ℕ) (kept : Bool) (dump : Dump) (st : Standing) (journal : List Event) : Type 0 where
  pub alone_at : Alone
  pub is : st ≡ alone alone_at
  pub limits : List (Option Answer)
  pub answers : AnswersAsModel st limits journal
  pub rest : List ScriptLine
  pub lines : load_lines make db kept dump ≡ lines_of journal ++ rest
  pub stops : StopsAtRefusal kept journal
  pub ends : AreEndsLast journal

-- the store once a load has made its database, where it makes it
abbrev pub made_store : Bool → List ℕ → Kind → Store → Store
made_store true db kind store = changed (Make db kind) store
made_store false db kind store = store

-- how many commits a load attempts at most
abbrev pub most_attempts : Bool → ℕ
most_attempts true = 2
most_attempts false = 1

-- a store has nothing of a load, or its database alone; or all lines of the load were given, and it has all that they attempted
abbrev pub IsImageOfLoad : Bool → List ℕ → Bool → Dump → Standing → List Event → Store → Type 0
IsImageOfLoad make db kept dump st journal store =
    (store ≡ st.store) ⊎ (store ≡ made_store make db (kind_of_dump dump.dup) st.store)
    ⊎ ((lines_of journal ≡ load_lines make db kept dump) × (store ≡ store_after st.store (attempts_of st journal)))

-- whatever first of its attempted commits a crash leaves, a load is there as a whole or not at all, but for its database, which it makes before
pub record ComesWhole (make : Bool) (db : List ℕ) (kept : Bool) (dump : Dump) (st : Standing) (journal : List Event) : Type 0 where
  pub few : length (attempts_of st journal) ≤ most_attempts make
  pub images : (k : ℕ) → IsImageOfLoad make db kept dump st journal (store_after st.store (take k (attempts_of st journal)))

-- each load comes as a whole or not at all
abbrev pub LoadsComeWhole : Type 0
LoadsComeWhole = (make : Bool) (db : List ℕ) (kept : Bool) (dump : Dump) (st : Standing) (journal : List Event) → IsLoadOf make db kept dump st journal → ComesWhole make db kept dump st journal
