use Rattle.lines.proofs.printing.+put_padded.Given as goal

-- each call prints a column less
abbrev pub decreases-put_padded : goal.decreases-put_padded
decreases-put_padded l = l.width
