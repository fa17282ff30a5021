-- Scripts, run: what a run leaves in the package and in its output, and what it answers.
-- The calls of a script are made in their order, each with the package as the one before left it. The answer to each takes the next bytes of the output: 40 for
-- its reply, then those that the call is lent. What is no call is answered by 16 and ends the run; so does, before it, an output with no room for the answer.
-- Assumes nothing.
use Rattle.std.specs.Prelude.{ℕ, zero, suc, ◌+◌, ◌≤◌, ◌<◌, ◌≡◌, true, false, cond, List, [], ◌∷◌, ◌++◌, eqb, ltb, length, take, drop}
use Rattle.output.specs.Answers.{Answer, answer}
use Rattle.model.specs.Sets.{Bytes}
use Rattle.model.specs.Package.{State, empty}
use Rattle.model.specs.Calls.{Find, View, Totals, Call, Start, Looks, Changes, CutPart, TypeOrigin, Prints, refused, start_refusal, answers, after}
use Rattle.contract.specs.Holds.{Holds}
use Rattle.contract.specs.Ran.{Ran}
use Rattle.script.specs.Numbers.{le8}
use Rattle.script.specs.Calls.{room_of, call_size, between, is_call, call_in}
use Rattle.abi.specs.declared.replies.Reply.{Reply}
use Rattle.abi.specs.Replies.{reply_of}

-- a reply as it lies in memory: five numbers of eight bytes
abbrev pub reply_size : ℕ
reply_size = 40

unfoldable pub reply_bytes : Reply → Bytes
reply_bytes r = le8 r.number ++ (le8 r.count ++ (le8 r.first ++ (le8 r.second ++ le8 r.third)))

-- what the reply tells of a call's answer: all of it. Only a view's answer has no value, and here gets one, the length of its part
abbrev pub told : Call → Answer → Answer
told (Start C) a = a
told (Looks (Find name)) a = a
told (Looks (View name)) a = answer 0 (length a.output ∷ []) []
told (Looks Totals) a = a
told (Changes c) a = a
told (CutPart name n) a = a
told (TypeOrigin name output) a = a
told (Prints w output) a = a

-- what the call then leaves in the bytes that it is lent: its output; of a viewed part as many bytes as it takes
abbrev pub left : Call → Bytes → Answer → Bytes
left (Start C) lent a = lent
left (Looks (Find name)) lent a = lent
left (Looks (View name)) lent a = take (length lent) a.output ++ drop (length a.output) lent
left (Looks Totals) lent a = lent
left (Changes c) lent a = lent
left (CutPart name n) lent a = lent
left (TypeOrigin name output) lent a = a.output
left (Prints w output) lent a = a.output

unfoldable pub recorded : Call → Bytes → Answer → Bytes
recorded call lent a = reply_bytes (reply_of (told call a)) ++ left call lent a

-- "16 line unreadable": the answer to what is no call
unfoldable pub unread : Bytes
unread = reply_bytes (reply_of (refused 16))

-- how many bytes of the output the answer to what the script s begins with takes, and those of them that a call is lent
unfoldable pub span_of : Bytes → ℕ
span_of s = reply_size + cond (is_call s) (room_of s) 0

abbrev pub lent_in : Bytes → Bytes → Bytes
lent_in s out = between reply_size (reply_size + room_of s) out

-- THE DECODED LIST. A call, the bytes that it is lent, and how many bytes of the script it has; or what is no call
pub data Entry : Type 0 where
  Made : (call : Call) (lent : Bytes) (size : ℕ) → Entry
  Unread : Entry

-- the entries of a script s, with an output, as far as that has room (there are no more than s has bytes)
unfoldable pub entries_to : ℕ → Bytes → Bytes → List Entry
entries_to zero s out = []
entries_to (suc most) s out =
    cond (ltb (length out) (span_of s)) []
    (cond (is_call s) (Made (call_in s (lent_in s out)) (lent_in s out) (call_size s) ∷ entries_to most (drop (call_size s) s) (drop (span_of s) out))
    (cond (eqb (length s) 0) [] (Unread ∷ [])))

abbrev pub entries : Bytes → Bytes → List Entry
entries s out = entries_to (length s) s out

unfoldable pub calls_in : List Entry → List Call
calls_in [] = []
calls_in (Made call lent size ∷ es) = call ∷ calls_in es
calls_in (Unread ∷ es) = calls_in es

-- how many bytes of the script the calls have
unfoldable pub size_in : List Entry → ℕ
size_in [] = 0
size_in (Made call lent size ∷ es) = size + size_in es
size_in (Unread ∷ es) = size_in es

-- what is written for the entries, with an answer for each call
unfoldable pub written_for : List Entry → List Answer → Bytes
written_for [] given = []
written_for (Unread ∷ es) given = unread ++ written_for es given
written_for (Made call lent size ∷ es) [] = []
written_for (Made call lent size ∷ es) (a ∷ given) = recorded call lent a ++ written_for es given

-- THE ANSWER of a run, by the ledger's `answers` of the decoded list: how many bytes are written, how many of the script its calls have, how many calls were made
abbrev pub run_text : ℕ → State → Bytes → Bytes → Bytes
run_text room S s out = written_for (entries s out) (answers room S (calls_in (entries s out)))

abbrev pub run_answer : ℕ → State → Bytes → Bytes → Answer
run_answer room S s out =
    answer 0 (length (run_text room S s out) ∷ size_in (entries s out) ∷ length (calls_in (entries s out)) ∷ []) (run_text room S s out ++ drop (length (run_text room S s out)) out)

-- A RUN on any bytes: of the script s on the package p with the output out. It left q and out', wrote w bytes, took k bytes of the script, and made m calls
pub data Scripted : Bytes → Bytes → Bytes → Bytes → Bytes → ℕ → ℕ → ℕ → Type 0 where
  ended : {p out : Bytes} → Scripted [] p out p out 0 0 0
  full : {s p out : Bytes} → length out < span_of s → Scripted s p out p out 0 0 0
  strange : {s p out : Bytes} → 0 < length s → is_call s ≡ false → reply_size ≤ length out → Scripted s p out p (unread ++ drop reply_size out) reply_size 0 0
  made : {s p out q r out' : Bytes} {a : Answer} {w k m : ℕ} → is_call s ≡ true → span_of s ≤ length out → Ran (call_in s (lent_in s out)) p a q
      → length (recorded (call_in s (lent_in s out)) (lent_in s out) a) ≡ span_of s → Scripted (drop (call_size s) s) q (drop (span_of s) out) r out' w k m
      → Scripted s p out r (recorded (call_in s (lent_in s out)) (lent_in s out) a ++ out') (span_of s + w) (call_size s + k) (suc m)

-- the reply r, the output and the package that a run left are those of the ledger's answers from S on
pub record FromLedger (S : State) (s p out : Bytes) (r : Reply) (out' q : Bytes) : Type 0 where
  pub reply : r ≡ reply_of (run_answer (length p) S s out)
  pub output : out' ≡ (run_answer (length p) S s out).output
  pub holds : Holds q (after (length p) S (calls_in (entries s out)))

-- THE PROMISE of a run
pub record RunAs (s p out : Bytes) (r : Reply) (out' q : Bytes) : Type 0 where
  -- whatever abstract package the bytes hold, the run goes as the ledger does from there
  pub ledger : (S : State) → Holds p S → FromLedger S s p out r out' q
  -- demand 3: on any bytes, where the first call is a start and is accepted, the run goes as the ledger does that begins with C and empty sets
  pub begun : (C : ℕ) (cs : List Call) → calls_in (entries s out) ≡ Start C ∷ cs → start_refusal (length p) C ≡ 0 → FromLedger (empty C) s p out r out' q
  -- and on any bytes every call of the script was made, each in its turn, and its answer written
  pub ran : Scripted s p out q out' r.first r.second r.third
  pub reply : r ≡ reply_of (answer 0 (r.first ∷ r.second ∷ r.third ∷ []) out')
