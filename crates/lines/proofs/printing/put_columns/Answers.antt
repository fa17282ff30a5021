use native.Mathlib.Omega.{arith}
use Rattle.lines.proofs.Sends.{sent_columns}
use Rattle.lines.proofs.printing.put_columns.Goals as goal

pub returns : goal.returns
returns c =
    let args = c.args in record {
      sent = sent_columns args.pieces args.bytes c.put_number-a.auto.out c.emit-b.auto.out
          c.put_number-c.auto.out c.put_number-a.ensures.sent c.emit-b.ensures
          c.put_number-c.ensures.sent c.emit.ensures;
      value = omega arith;
    }
