-- What the inner functions of a run promise.
-- Assumes nothing.
use Rattle.std.specs.Prelude.{ℕ, ◌+◌, ◌≤◌, ◌<◌, ◌≡◌, true, false, ◌++◌, length, take, drop}
use Rattle.output.specs.Answers.{Answer}
use Rattle.model.specs.Sets.{Bytes}
use Rattle.model.specs.Calls.{Call}
use Rattle.contract.specs.Ran.{Ran}
use Rattle.script.specs.Calls.{call_size, is_call, call_in}
use Rattle.abi.specs.declared.replies.Reply.{Reply}
use Rattle.abi.specs.Replies.{reply_of}
use Rattle.abi.specs.Scripts.{reply_size, told, left, recorded, unread, span_of, lent_in, Scripted}

-- a call was made on p, lent some bytes; r is its reply, and it left q and the bytes lent'
pub record Told (call : Call) (p lent : Bytes) (r : Reply) (lent' q : Bytes) : Type 0 where
  pub answered : Answer
  pub ran : Ran call p answered q
  pub reply : r ≡ reply_of (told call answered)
  pub is : lent' ≡ left call lent answered

-- the same of a call, whatever it is lent, that leaves those bytes as they are
pub record Unlent (call : Bytes → Call) (p : Bytes) (r : Reply) (q : Bytes) : Type 0 where
  pub is : (lent : Bytes) → Told (call lent) p lent r lent q

-- a turn of a run: it took k bytes of the script s, none where the run ends, wrote w bytes, and left q and out'
pub data Turned (s p out : Bytes) (k w : ℕ) (q out' : Bytes) : Type 0 where
  full : length out < span_of s → k ≡ 0 → w ≡ 0 → q ≡ p → out' ≡ out → Turned s p out k w q out'
  strange : is_call s ≡ false → reply_size ≤ length out → k ≡ 0 → w ≡ reply_size → q ≡ p → out' ≡ unread ++ drop reply_size out → Turned s p out k w q out'
  made : (a : Answer) → is_call s ≡ true → k ≡ call_size s → w ≡ span_of s → w ≤ length out → Ran (call_in s (lent_in s out)) p a q
      → length (recorded (call_in s (lent_in s out)) (lent_in s out) a) ≡ w → out' ≡ recorded (call_in s (lent_in s out)) (lent_in s out) a ++ drop w out → Turned s p out k w q out'

-- a run has come to place k of the script and place w of the output, by m calls, and has left q and out' so far: what a run from there leaves is what the whole run leaves
pub record Going (s p out : Bytes) (k w m : ℕ) (q out' : Bytes) : Type 0 where
  pub read : k ≤ length s
  pub written : w ≤ length out
  pub few : m ≤ k
  pub size : length out' ≡ length out
  pub rest : drop w out' ≡ drop w out
  pub on : (r more : Bytes) (w' k' m' : ℕ) → Scripted (drop k s) q (drop w out) r more w' k' m' → Scripted s p out r (take w out' ++ more) (w + w') (k + k') (m + m')
