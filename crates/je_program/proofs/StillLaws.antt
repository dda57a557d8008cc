-- A run without an event whose disk stands still behind it.
use Rattle.std.proofs.Common.{◌≡◌, ◌<◌, ◌≤◌, ◌∙◌, ℕ, Bool, true, true≢false, List, [], ap, sym, subst, inl, inr, ⊎_elim, arith}
use Rattle.std.proofs.lemmas.Bool.{cases_lt}
use Rattle.je_order.specs.Counts.{HasRisen}
use Rattle.je_disk.specs.Moments.{History, now}
use Rattle.je_disk.specs.States.{Files, State, content}
use Rattle.je_disk.specs.Images.{IsImage}
use Rattle.store_model.specs.declared.event.Event.{Event}
use Rattle.store_model.specs.declared.store.Store.{Store}
use Rattle.store_model.specs.declared.totals.Totals.{Totals}
use Rattle.je_answers.specs.Standing.{Standing}
use Rattle.je_answers.specs.Journal.{attempts_of}
use Rattle.je_answers.specs.Written.{written_of}
use Rattle.log_buffer.specs.Chance.{IsLeftAt, NoChanceMatch, ReadSince}
use Rattle.log_buffer.specs.Crash.{FilesStay}
use Rattle.log_buffer.proofs.ChanceMatches.{chance_more, left_before}
use Rattle.crash_recovery.specs.Recovery.{IsImageRecovered}
use Rattle.engine.specs.Crash.{ImagesMean, IsSafe, IsSafeRun}
use Rattle.engine.specs.Files.{MeanStore}
use Rattle.engine.specs.Lengths.{AreLengthsWithin}
use Rattle.engine.specs.Untouched.{IsUntouched}
use Rattle.engine.proofs.Counts.{rose_later}
use Rattle.engine.proofs.SafeLaws.{goes_on}
use Rattle.je_program.specs.declared.cause.Cause.{Cause}
use Rattle.je_program.specs.Crash.{IsSafeProgram}
use Rattle.je_program.specs.Program.{IsRunOf}
use Rattle.je_program.specs.Run.{is_run_through}
use Rattle.script_run.specs.Events.{final_store}

module _ (old new : History) (still : IsUntouched old new) where
  abbrev OldState : State → Type 0
  OldState s = s ≡ now old

  -- at each moment behind the end the disk is as it was then
  stands : (k : ℕ) → old.moment ≤ k → k ≤ new.moment → new.state_at k ≡ now old
  stands k from to =
      ⊎_elim
      (λ (after : old.moment < k). still.moments.each k after to)
      (λ (before : k ≤ old.moment). (let at : k ≡ old.moment = omega (arith, from, before) in ap (λ (n : ℕ). new.state_at n) at ∙ still.moments.keeps old.moment (omega arith)))
      (cases_lt old.moment k)

  -- what was read by then was read by the end
  read_then : (since k f : ℕ) (read : List ℕ) → since ≤ old.moment → k ≤ new.moment → ReadSince since new k f read → ReadSince since old old.moment f read
  read_then since k f read from to was =
      ⊎_elim
      (λ (after : old.moment < was.0). (old.moment, from, omega arith, ap (λ (s : State). content s.reads f) (sym (still.moments.each was.0 after (let low : was.0 ≤ k = was.2 in omega (arith, low, to)))) ∙ was.3))
      (λ (before : was.0 ≤ old.moment). (was.0, was.1, before, ap (λ (s : State). content s.reads f) (sym (still.moments.keeps was.0 before)) ∙ was.3))
      (cases_lt old.moment was.0)

  -- what a crash leaves then it could leave at the end
  left_then : (since k : ℕ) (image : Files) → since ≤ old.moment → old.moment ≤ k → k ≤ new.moment → IsLeftAt since new k image → IsLeftAt since old old.moment image
  left_then since k image from after to left = record {
    is = subst (λ (s : State). IsImage s image) (stands k after to) left.is;
    chance = subst (λ (s : State). NoChanceMatch (ReadSince since old old.moment) s.reads image) (stands k after to)
        (chance_more (ReadSince since new k) (ReadSince since old old.moment) (new.state_at k).reads image (λ f read was. read_then since k f read from to was) left.chance);
  }

  images_then : (since : ℕ) (store : Store) → since ≤ old.moment → ImagesMean since old old.moment store → ImagesMean since new new.moment store
  images_then since store from mean = λ image left. mean image (left_then since new.moment image from still.moments.later (omega arith) left)

  -- so what was safe at the end is safe then
  safe_then : (st : Standing) (since k : ℕ) → since ≤ old.moment → old.moment ≤ k → k ≤ new.moment → IsSafe st since old old.moment [] [] → IsSafe st since new k [] []
  safe_then st since k from after to safe = record {
    read = subst (λ (s : State). IsImageRecovered st.store (written_of []) (attempts_of st []) s.reads) (sym (stands k after to)) safe.read;
    images = λ image left. safe.images image (left_then since k image from after to left);
  }

  -- and what was safe before
  safe_before : (st : Standing) (since k : ℕ) → k ≤ old.moment → IsSafe st since old k [] [] → IsSafe st since new k [] []
  safe_before st since k before safe = record {
    read = subst (λ (s : State). IsImageRecovered st.store (written_of []) (attempts_of st []) s.reads) (sym (still.moments.keeps k before)) safe.read;
    images = λ image left. safe.images image (left_before since k old new OldState image still.moments before left);
  }

  rest_then : (st : Standing) (start : History) → IsSafeRun st start old [] → IsSafeRun st start new []
  rest_then st start run =
      let from : start.moment ≤ old.moment = run.since.later in
      let at_end : IsSafe st start.moment old old.moment [] [] =
      ⊎_elim
      (λ (after : start.moment < old.moment). run.events.safe old.moment after (omega arith))
      (λ (same : old.moment ≤ start.moment). (let at : start.moment ≡ old.moment = omega (arith, from, same) in at_start at))
      (cases_lt start.moment old.moment) in
      record {
        since = goes_on start old new OldState run.since still.moments;
        begins = run.begins;
        events = record {
          safe = λ k lo hi. ⊎_elim
              (λ (after : old.moment < k). safe_then st start.moment k from (omega arith) hi at_end)
              (λ (before : k ≤ old.moment). safe_before st start.moment k before (run.events.safe k lo before))
              (cases_lt old.moment k);
          still = λ fault. absurd (true≢false (sym fault));
        };
        files = λ k lo hi. ⊎_elim
            (λ (after : old.moment < k). subst (λ (s : State). FilesStay (now start).reads s.reads) (sym (still.moments.each k after hi)) (run.files old.moment from (omega arith)))
            (λ (before : k ≤ old.moment). subst (λ (s : State). FilesStay (now start).reads s.reads) (sym (still.moments.keeps k before)) (run.files k lo before))
            (cases_lt old.moment k);
      }
    where
      -- the run's history begins where it starts
      at_start : start.moment ≡ old.moment → IsSafe st start.moment old old.moment [] []
      at_start at =
          let keeps : old.state_at start.moment ≡ start.state_at start.moment = run.since.keeps start.moment (omega arith) in
          subst (λ (n : ℕ). IsSafe st start.moment old n [] []) at (record {
            read = subst (λ (s : State). IsImageRecovered st.store (written_of []) (attempts_of st []) s.reads) (sym keeps) run.begins.read;
            images = λ image left. run.begins.images image (left_before start.moment start.moment start old (λ (s : State). Unit {0}) image run.since (omega arith) left);
          })

-- a run without an event, as it is where its disk stood still behind it and its count of faults did not fall
pub run_then : (most : ℕ) (observable : Bool) (first old new : History) (before mid after : ℕ) (opening : Store) (counted : Totals) (journal : List Event) (cause : Cause) (st : Standing) → (observable ≡ true → IsUntouched old new) →
    mid ≤ after → journal ≡ [] → IsRunOf most observable first old before mid opening counted journal cause st → IsRunOf most observable first new before after opening counted journal cause st
run_then most observable first old new before mid after opening counted journal cause st still later none run =
    let reads : observable ≡ true → (now new).reads ≡ (now old).reads = λ observed. ap (λ (s : State). s.reads) (still observed).same in
    let safe : observable ≡ true → IsSafeProgram first new st journal cause = λ observed. (let s = run.safe observed in
    let at_rest : IsSafeRun st s.start old [] = subst (λ (j : List Event). IsSafeRun st s.start old j) none s.run in
    record {
      start = s.start;
      stable = s.stable;
      before = s.before;
      run = subst (λ (j : List Event). IsSafeRun st s.start new j) (sym none) (rest_then old new (still observed) st s.start at_rest);
      indexed = s.indexed;
      ends = λ done. images_then old new (still observed) s.start.moment (final_store st journal) at_rest.since.later (s.ends done);
    }) in
    record {
      starts = run.starts;
      limits = run.limits;
      answers = run.answers;
      replays = run.replays;
      no_cycle = run.no_cycle;
      indexes = run.indexes;
      bounded = run.bounded;
      synced_at_once = run.synced_at_once;
      in_order = run.in_order;
      steps = run.steps;
      stopped = run.stopped;
      in_place = run.in_place;
      none_stopped = run.none_stopped;
      ended = run.ended;
      rests = run.rests;
      acknowledged = run.acknowledged;
      safe = safe;
      files = λ done observed. subst (λ (f : Files). MeanStore f (final_store st journal)) (sym (reads observed)) (run.files done observed);
      lengths = λ well observed. subst (λ (f : Files). AreLengthsWithin most (now first).reads f) (sym (reads observed))
          (run.lengths (⊎_elim (λ (done : is_run_through cause ≡ true). inl done) (λ (quiet : HasRisen before after → ⊥). inr (λ rose. quiet (rose_later before mid after rose later))) well) observed);
      totals = run.totals;
    }
