use Rattle.streams.proofs.LineTexts.{sent_type}
use Rattle.streams.proofs.entry_lines.put_type_line.Goals as goal

pub returns : goal.returns
returns c =
    let args = c.args in
    sent_type c.emit-a.auto.out c.put_quoted-b.auto.out c.emit-c.auto.out c.put_quoted-d.auto.out
    args.head.now args.key.now args.media.now c.emit-a.ensures c.put_quoted-b.ensures.sent
    c.emit-c.ensures c.put_quoted-d.ensures.sent c.emit.ensures
