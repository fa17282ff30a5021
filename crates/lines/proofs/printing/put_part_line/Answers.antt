use Rattle.lines.proofs.Sends.{sent_part_line}
use Rattle.lines.proofs.printing.put_part_line.Goals as goal

pub returns : goal.returns
returns c =
    let args = c.args in
    sent_part_line args.pieces args.bytes args.name.now args.kind.now c.put_columns-a.auto.out
    c.emit-b.auto.out c.emit-c.auto.out c.put_type_column-d.auto.out c.put_columns-a.ensures.sent
    c.emit-b.ensures c.emit-c.ensures c.put_type_column-d.ensures.sent c.emit.ensures
