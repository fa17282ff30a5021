-- Each call is at a place further on, so the measure is the number of bytes that remain.
use Rattle.std.proofs.Common.{◌-◌, length}
use Rattle.markup.proofs.Nesting.{Coming}
use Rattle.markup.proofs.elements.+content_element.Given as goal

abbrev pub decreases-content : goal.decreases-content
decreases-content l = length l.s.now - l.at

abbrev pub decreases-element : goal.decreases-element
decreases-element l = length l.s.now - l.at

abbrev pub invariant-content-loop-t : goal.invariant-content-loop-t
invariant-content-loop-t l = Coming l.s l.at l.left l.text l.i

abbrev pub decreases-content-loop-t : goal.decreases-content-loop-t
decreases-content-loop-t l = length l.s - l.i
