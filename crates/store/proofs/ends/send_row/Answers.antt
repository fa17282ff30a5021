use native.Mathlib.Omega.{arith}
use Rattle.store.proofs.Lasting.{last_sent}
use Rattle.store.proofs.ends.send_row.Goals as goal

pub returns : goal.returns
returns c =
    record {
      is = λ so en hr es cl. last_sent _ _ _ _ _ _ _ _ _ _ so c.send-d.ensures en c.get4-e.ensures.0 c.if-e-o.false (omega arith) hr
          c.offset-o.ensures.0 es c.get4-e.ensures.1 c.put4.ensures cl;
    }
