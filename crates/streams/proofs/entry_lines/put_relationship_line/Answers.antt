use native.Mathlib.Omega.{arith}
use Rattle.streams.proofs.LineTexts.{sent_relationship}
use Rattle.streams.proofs.entry_lines.put_relationship_line.Goals as goal

pub put_mode-requires : goal.put_mode-requires
put_mode-requires c =
    let pre = c.requires in
    omega (
      arith,
      c.put_quoted-f.ensures.upper_bound,
      c.emit-e.ensures.next_is,
      c.put_quoted-d.ensures.upper_bound,
      c.emit-c.ensures.next_is,
      c.put_quoted-b.ensures.upper_bound,
      c.emit-a.ensures.next_is,
      pre.0,
      pre.1,
      pre.2,
      pre.3,
    )

pub returns : goal.returns
returns c =
    let args = c.args in
    sent_relationship c.emit-a.auto.out c.put_quoted-b.auto.out c.emit-c.auto.out c.put_quoted-d.auto.out
    c.emit-e.auto.out c.put_quoted-f.auto.out args.tag args.id.now args.kind.now args.target.now
    c.emit-a.ensures c.put_quoted-b.ensures.sent c.emit-c.ensures c.put_quoted-d.ensures.sent
    c.emit-e.ensures c.put_quoted-f.ensures.sent c.put_mode.ensures
