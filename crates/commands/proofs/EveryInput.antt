-- What is to be printed for an input is document 01's.
-- Assumes nothing.
use Prim.Native.Nat.{ℕ, ◌+◌, ◌≤◌, ◌<◌}
use mathlib.Core.Path.{◌≡◌, ap, sym, ◌∙◌}
use mathlib.Core.List.{◌++◌, append-nil}
use native.Mathlib.Omega.{arith}
use lib.ListN.{length, take}
use borrow.Author.Tests.{le-ltb}
use Rattle.output.specs.Answers.{Answer}
use Rattle.model.specs.Sets.{Bytes}
use Rattle.model.specs.Package.{State, empty}
use Rattle.model.specs.Calls.{Start, overhead, start_refusal}
use Rattle.model.specs.Sheet.{lines_of, shown, sheet}
use Rattle.contract.specs.Holds.{Holds}
use Rattle.contract.specs.Ran.{Ran}
use Rattle.lines.specs.Gathering.{Unended}
use Rattle.commands.specs.Feeding.{Round}
use Rattle.commands.specs.Inputs.{sheet_capacity, PrintedFor, ended, fed, EveryInput}
use Rattle.commands.proofs.FedLines.{unended_none}

-- THE START
start_accepted : (n : ℕ) → sheet_capacity + overhead ≤ n → start_refusal n sheet_capacity ≡ 0
unfolding start_refusal
start_accepted n l = rw (le-ltb n (sheet_capacity + overhead) l)

pub started_holds : (o p : Bytes) (a : Answer) → sheet_capacity + overhead ≤ length o → Ran (Start sheet_capacity) o a p → Holds p (empty sheet_capacity)
started_holds o p a l r = (r.begun.0 (start_accepted (length o) l)).1

-- EVERY INPUT
from_here : {p line input printed : Bytes} {n : ℕ} → PrintedFor p line n input printed → (S : State) → Holds p S → 1024 < length line → Unended (take n line)
    → shown S (lines_of (take n line ++ input)) ≡ printed
from_here (ended {p} {line} {out} {out'} {n} {k} m e) S h w o = ap (λ (s : Bytes). shown S (lines_of s)) (append-nil (take n line)) ∙ (e.is S h o m).1
from_here (fed {p} {line} {piece} {out} {p'} {line'} {out'} {printed} {n} {from} {n'} {from'} {k} later i m l f s) S h w o =
    let t : Round S line n piece from out n' from' k p' line' out' = f.is S h w o i m in
    t.is later ∙ ap (λ (x : Bytes). take k out' ++ x) (from_here s t.after t.holds (omega arith) t.begun)

pub every_input : EveryInput
unfolding sheet
every_input o p a line input printed l r w s = sym (from_here s (empty sheet_capacity) (started_holds o p a l r) w (unended_none line))
