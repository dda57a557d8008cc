use Rattle.std.proofs.Common.{◌≡◌, ◌++◌, map}
use Rattle.load_run.specs.Lines.{put_line}
use Rattle.load_run.proofs.load_lines.push_puts.Given as goal

abbrev pub invariant-loop-pair : goal.invariant-loop-pair
invariant-loop-pair l = l.lines.items ≡ l.initial.lines.items ++ map (put_line l.db l.mode) l.yielded
