use Rattle.log_entry.proofs.DecodeSteps.{short_is, cut_is, bad_sum_is, sum_is}
use Rattle.log_entry.proofs.decoder.body_len.Goals as goal

pub returns-then-bytes-lt-HEAD : goal.returns-then-bytes-lt-HEAD
returns-then-bytes-lt-HEAD c = short_is c.args.bytes.now c.if-bytes-lt-HEAD.true

pub returns-then-bytes-len : goal.returns-then-bytes-len
returns-then-bytes-len c = cut_is c.args.bytes.now c.number_at-len.result c.if-bytes-lt-HEAD.false c.number_at-len.ensures c.if-bytes-len.true

pub returns-then-not-is_sum_right : goal.returns-then-not-is_sum_right
returns-then-not-is_sum_right c =
    bad_sum_is c.args.bytes.now c.number_at-len.result c.is_sum_right.result c.if-bytes-lt-HEAD.false c.number_at-len.ensures c.if-bytes-len.false c.is_sum_right.ensures c.if-not-is_sum_right.true

pub returns : goal.returns
returns c = (
  c.if-bytes-len.false,
  sum_is c.args.bytes.now c.number_at-len.result c.is_sum_right.result c.if-bytes-lt-HEAD.false c.number_at-len.ensures c.if-bytes-len.false c.is_sum_right.ensures c.if-not-is_sum_right.false,
)
