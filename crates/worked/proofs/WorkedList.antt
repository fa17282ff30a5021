-- The worked lists, computed on the definitions.
-- Assumes nothing.
use Prim.Native.Nat.{ℕ, ◌+◌, ◌≤◌}
use Prim.Native.Char.{code}
use mathlib.Core.Path.{◌≡◌, refl, sym, ap, ◌∙◌}
use mathlib.Core.List.{List, [], ◌∷◌, ◌++◌}
use native.Mathlib.Omega.{arith}
use lib.ListN.{length, get_or}
use borrow.Author.Tests.{le-ltb}
use Rattle.chars.specs.Bytes.{ascii}
use Rattle.output.specs.Answers.{Answer, answer, Text, filled}
use Rattle.output.proofs.Answering.{filled_fits}
use Rattle.model.specs.Sets.{Bytes}
use Rattle.model.specs.Package.{empty}
use Rattle.model.specs.Calls.{Call, Start, Looks, Changes, Prints, Find, PutItem, PutDefault, PutRelationship, Print, WriteTypes, ResolveRelationship, printed, done, start_refusal, answers, after}
use Rattle.model.specs.Opened.{everything}
use Rattle.contract.specs.Answers.{of_found}
use Rattle.std.specs.Prelude.{Result, Ok, Err}
use Rattle.output.specs.declared.refusals.Refusal.{Refusal}
use Rattle.output.specs.declared.refusals.Unwritten.{Unwritten}
use Rattle.output.specs.declared.refusals.Unwritten.TheVariants.{TooShort, Refused}
use Rattle.output.proofs.Answering.{number_some}
use Rattle.contract.specs.Ran.{Ran, Runs}
use Rattle.package.specs.Demand.{answers_of, calls_of}
use Rattle.package.proofs.EveryRun.{every_run}
use Rattle.relationships.specs.Resolutions.{of_resolution}
use Rattle.relationships.specs.declared.resolving.Resolution.{Resolution}
use Rattle.relationships.specs.declared.resolving.Resolution.TheVariants as resolution
use Rattle.worked.specs.Last.{led_text, led_to}

-- the calls after the start
abbrev pub worked : List Call
worked =
    Changes (PutItem (ascii "/a.xml") (ascii "hello"))
    ∷ Changes (PutItem (ascii "/A.XML") (ascii "other"))
    ∷ Changes (PutItem (ascii "/b/[0].piece") (ascii "ab"))
    ∷ Looks (Find (ascii "/A.XML"))
    ∷ []

-- the ledger's answer to the last of them
pub worked_last : (room : ℕ) → get_or (answers room (empty 100) worked) 3 done ≡ answer 0 (5 ∷ []) []
unfolding everything
worked_last room = refl

-- a start of so few bytes is accepted
accepted : (C : ℕ) (o p : Bytes) (a : Answer) → C ≤ 232 → 33000 ≤ length o → Ran (Start C) o a p → a.number ≡ 0
unfolding start_refusal
accepted C o p a k h r = ap (λ (x : Answer). x.number) (r.begun.0 (rw (le-ltb 1000000 C (omega arith), le-ltb (length o) (C + 32768) (omega arith)))).0

-- so the answers to what follows are the ledger's: here the one at place n
pub ledger_answer : (C n : ℕ) {o p q : Bytes} {a : Answer} {s : List (Call × Answer)} → C ≤ 232 → 33000 ≤ length o → Ran (Start C) o a p
    → Runs p s q → get_or (answers_of s) n done ≡ get_or (answers (length o) (empty C) (calls_of s)) n done
ledger_answer C n {o} {p} {q} {a} {s} k h r rs =
    ap (λ (l : List Answer). get_or l n done) (every_run C o p q a s r (accepted C o p a k h r) rs).answered

-- a length is no refusal
pub found_length : (r : Result ℕ Refusal) (n : ℕ) → of_found r ≡ answer 0 (n ∷ []) [] → r ≡ Ok n
found_length (Ok m) n e = ap Ok (ap (λ (a : Answer). get_or a.values 0 0) e)
found_length (Err f) n e = absurd (number_some f (ap (λ (a : Answer). a.number) e))

-- the marked example of resolving: the calls after the start, but for the last one, and the last one
abbrev pub leading : Bytes → List Call
leading types =
    Changes (PutDefault (ascii "xml") (ascii "text/xml"))
    ∷ Changes (PutItem (ascii "/foo/b.xml") (ascii "tile"))
    ∷ Changes (PutRelationship (ascii "/foo/test.xml") (ascii "r1") (ascii "a:tile") 0 (ascii "b.xml"))
    ∷ Prints WriteTypes types
    ∷ []

abbrev pub led : Print
led = ResolveRelationship (ascii "/FOO/TEST.xml") (ascii "r1") (ascii "http://www.example.com/ex.opc")

led_printed : (room size : ℕ) (types : Bytes) → printed (after room (empty 200) (leading types)) size led ≡ Text led_text (0 ∷ 1 ∷ [])
unfolding everything
led_printed room size types = refl

-- the ledger's answer to the last call
pub led_last : (room : ℕ) (types out : Bytes) → 48 ≤ length out → get_or (answers room (empty 200) (leading types ++ Prints led out ∷ [])) 4 done ≡ led_to out
unfolding answers after
led_last room types out h = ap (filled 3 out) (led_printed room (length out) types) ∙ filled_fits 3 out led_text (0 ∷ 1 ∷ []) h

-- the last byte of what was written
output_is : (r : Result Resolution Unwritten) (o : Bytes) → (of_resolution r o).output ≡ o
output_is (Ok (resolution.Internal n h)) o = refl
output_is (Ok (resolution.External n)) o = refl
output_is (Err (TooShort n)) o = refl
output_is (Err (Refused f)) o = refl

pub led_end : (r : Result Resolution Unwritten) (out written : Bytes) → of_resolution r written ≡ led_to out → get_or written 47 0 ≡ code "l"
led_end r out written e = ap (λ (o : Bytes). get_or o 47 0) (sym (output_is r written) ∙ ap (λ (a : Answer). a.output) e)
