use mathlib.Core.Path.{◌≡◌}
use Prim.Native.Nat.{ℕ, ◌+◌, ◌-◌, ◌≤◌}
use native.Mathlib.Omega.{arith}
use borrow.Author.Rules.{rules}
use Rattle.store.proofs.PassedSlots.{pass_enough, pass_used}
use Rattle.store.proofs.Passed.{passed_on}
use Rattle.store.proofs.changes.pass_back.Goals as goal

pub returns-then-from-n : goal.returns-then-from-n
returns-then-from-n c = record { is = λ so en eu last cl pa. absurd (omega (arith, c.if-from-n.true, pass_enough _ _ _ _ _ _ so pa c.number-from.ensures.0 c.number-to.ensures.0)) }

pub returns-then-u-to : goal.returns-then-u-to
returns-then-u-to c = record { is = λ so en eu last cl pa. absurd (omega (arith, c.if-u-to.true, eu, pass_used _ _ _ _ _ _ so pa c.number-from.ensures.0 c.number-to.ensures.0)) }

pub returns : goal.returns
returns c =
    let a = c.args in
    let enough : a.n ≤ c.offset.result + c.size.result = search rules in
    let x : ℕ = c.offset.result + c.size.result - a.n in
    let ends : x + a.n ≡ c.offset.result + c.size.result = omega arith in
    record {
      is = λ so en eu last cl pa. passed_on (record {
        so = so;
        en = en;
        ee = c.get4-e.ensures.0;
        pa = pa;
        last = last;
        ef = c.number-from.ensures.0;
        et = c.number-to.ensures.0;
        small = c.number-from.ensures.1;
        ex = omega (arith, ends, c.size.ensures.0, c.offset.ensures.0);
        hx = omega (arith, enough, c.if-e-s.false);
        sent = c.send.ensures;
        len = omega arith;
        w1 = c.put4.ensures;
        w2 = c.put4-2.ensures;
      });
    }
