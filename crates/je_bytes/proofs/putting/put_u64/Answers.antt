use Rattle.std.proofs.Common.{◌≡◌, ℕ, cond, List, ◌++◌, Result, Ok, Err, OnOk}
use Rattle.std.specs.Int.{w64, to_be_bytes}
use Rattle.std.specs.Result.{is_ok}
use Rattle.je_bytes.proofs.putting.put_u64.Goals as goal

put : {E : Type 0} (r : Result (Unit {0}) E) (new old bytes : List ℕ) → new ≡ cond (is_ok r) (old ++ bytes) old → OnOk r (new ≡ old ++ bytes)
put (Ok x) new old bytes e = e
put (Err x) new old bytes e = tt

pub returns-clause-ok : goal.returns-clause-ok
returns-clause-ok c =
    put c.extend_from_slice.result c.extend_from_slice.new.self.items c.args.out.now.items (to_be_bytes w64 c.args.number)
    (rw c.write_u64.ensures at c.extend_from_slice.ensures.items)
