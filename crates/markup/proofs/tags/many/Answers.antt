use Rattle.std.proofs.Common.{arith}
use Rattle.std.proofs.lemmas.Option.{MatchOption-at_none}
use Rattle.markup.proofs.Chunks.{reading_none, reading_more, reading_all, reading_twice}
use Rattle.markup.proofs.tags.many.Goals as goal

pub loop-chunk-init : goal.loop-chunk-init
loop-chunk-init c = reading_none _ _ c.requires

pub blanks_end-requires : goal.blanks_end-requires
blanks_end-requires c = c.in_ok-chunk.ensures.within.1

pub returns-then-chunk-eq0 : goal.returns-then-chunk-eq0
returns-then-chunk-eq0 c = record {
  end = _;
  listed = reading_all _ _ _ _ c.loop-chunk.invariant _ _ c.in_ok-chunk.ensures c.if-chunk-eq0.true;
  within = c.blanks_end.ensures.0;
  behind = c.blanks_end.ensures.1;
}

pub overflow_add-k : goal.overflow_add-k
overflow_add-k c =
    let read = c.in_ok-chunk.ensures in
    record { fits = omega (arith, read.within.0, read.within.1, c.loop-chunk.invariant.from) }

pub loop-chunk-smaller : goal.loop-chunk-smaller
loop-chunk-smaller c =
    let read = c.in_ok-chunk.ensures in
    omega (arith, read.within.0, read.within.1, c.if-chunk-eq0.false)

pub loop-chunk-preserved : goal.loop-chunk-preserved
loop-chunk-preserved c = reading_more _ _ _ _ c.loop-chunk.invariant _ _ c.in_ok-chunk.ensures

pub returns-in_err-chunk : goal.returns-in_err-chunk
returns-in_err-chunk c =
    rw c.from_residual.ensures (reading_twice _ _ _ _ c.loop-chunk.invariant (MatchOption-at_none _ _ c.in_err-chunk.was c.read_chunk.ensures))
