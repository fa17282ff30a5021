use mathlib.Core.Path.{refl, ap, ◌∙◌}
use Prim.Native.Nat.{ℕ, ◌+◌, ◌-◌}
use mathlib.Core.List.{List, ◌++◌}
use lib.ListN.{length}
use Rattle.store.specs.Buffer.{le4}
use Rattle.base.specs.Buffer.{splice}
use Rattle.store.proofs.Respelled.{respell_used, respelled_here}
use Rattle.store.proofs.changes.respell_back.Goals as goal

pub returns-then-u-old : goal.returns-then-u-old
returns-then-u-old c =
    record {
      is = λ so en eu last re fit. absurd (respell_used _ _ _ _ _ _ _ _ so re.at re.last c.offset-o.ensures.0 c.number-a.ensures.0 c.number-old.ensures.0 c.number-c.ensures.0
          eu c.heap_size-h.ensures last c.if-u-old.true);
    }

pub returns : goal.returns
returns c =
    let pre = c.requires in
    let a = c.args in
    let k = length a.s.now in
    record {
      is = λ so en eu last re fit. respelled_here _ _ _ _ _ _ _ _ so re.at re.last c.offset-o.ensures.0 c.number-a.ensures.0 c.number-old.ensures.0 c.number-c.ensures.0
          eu c.heap_size-h.ensures last _ _ _ _ _ _ _ en refl re.kept re.fits c.if-h-o-2.false pre.4
          c.shift.ensures c.copy_in.ensures (c.put_counts.ensures ∙ ap (λ (x : List ℕ). splice x 12 (le4 a.n ++ (le4 (a.u - c.number-old.result + k) ++ le4 (c.offset-o.result + c.number-a.result + k + c.number-c.result)))) c.put_slot.ensures);
    }
