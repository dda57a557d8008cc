-- The waits that stay, behind those that were looked at before.
use Rattle.std.proofs.Common.{List, ◌++◌}
use Rattle.lock_table.specs.declared.lock.Lock.{Lock}

abbrev pub behind : List Lock → List Lock × List Lock → List Lock × List Lock
behind before q = (q.0, before ++ q.1)
