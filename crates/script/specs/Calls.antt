-- A script: calls in bytes. Each is a head of 32 bytes and, behind it, its four texts, one after the other; a field that the call does not take is passed over.
-- The head is eight numbers of four bytes, the low byte first: the call's code, the length of the output that it is lent, the lengths of the texts, and
-- the low and the high half of a number.
-- Assumes nothing.
use Rattle.std.specs.Prelude.{ℕ, ◌+◌, ◌-◌, Bool, ◌&&◌, List, [], ◌∷◌, leb, length, take, drop, get_or}
use Rattle.model.specs.Sets.{Bytes}
use Rattle.model.specs.Calls.{Find, View, Totals, PutItem, DropItem, PutDefault, DropDefault, PutOverride, DropOverride, PutRelationship}
use Rattle.model.specs.Calls.{DropRelationship, JoinPart, ReadTypes, ReadRelationships, ReadPart, MediaType, PartAt, ResolveRelationship, WriteTypes, WriteRelationships}
use Rattle.model.specs.Calls.{Call, Start, Looks, Changes, CutPart, TypeOrigin, Prints}
use Rattle.store.specs.Buffer.{num4}
use Rattle.script.specs.Numbers.{num8}

abbrev pub head_size : ℕ
head_size = 32

-- THE CODES. The calls of the ledger in this order have the codes 1, 2, 3 and so on; n is the number, a, b, c, d are the texts
abbrev pub calls : ℕ → Bytes → Bytes → Bytes → Bytes → Bytes → List Call
calls n a b c d output =
    Start n
    ∷ Changes (PutItem a b)
    ∷ Changes (DropItem a)
    ∷ Changes (PutDefault a b)
    ∷ Changes (DropDefault a)
    ∷ Changes (PutOverride a b)
    ∷ Changes (DropOverride a)
    ∷ Changes (PutRelationship a b c n d)
    ∷ Changes (DropRelationship a b)
    ∷ Looks (Find a)
    ∷ Looks (View a)
    ∷ Looks Totals
    ∷ Prints (ReadPart a n) output
    ∷ Prints (MediaType a) output
    ∷ Prints (PartAt n) output
    ∷ Prints (ResolveRelationship a b c) output
    ∷ Prints WriteTypes output
    ∷ Prints (WriteRelationships a) output
    ∷ CutPart a n
    ∷ Changes (JoinPart a)
    ∷ TypeOrigin a output
    ∷ Changes (ReadTypes a)
    ∷ Changes (ReadRelationships a b)
    ∷ []

abbrev pub last_code : ℕ
last_code = 23

-- the call with a code from 1 to 23
unfoldable pub coded : ℕ → ℕ → Bytes → Bytes → Bytes → Bytes → Bytes → Call
coded code n a b c d output = get_or (calls n a b c d output) (code - 1) (Looks Totals)

-- the head of the call that the script s begins with
abbrev pub code_of : Bytes → ℕ
code_of s = num4 s 0

abbrev pub room_of : Bytes → ℕ
room_of s = num4 s 4

abbrev pub number_of : Bytes → ℕ
number_of s = num8 s 24

-- where its texts end
abbrev pub end_a : Bytes → ℕ
end_a s = head_size + num4 s 8

abbrev pub end_b : Bytes → ℕ
end_b s = end_a s + num4 s 12

abbrev pub end_c : Bytes → ℕ
end_c s = end_b s + num4 s 16

-- and so the call itself
abbrev pub call_size : Bytes → ℕ
call_size s = end_c s + num4 s 20

-- from one place to another
abbrev pub between : ℕ → ℕ → Bytes → Bytes
between a e s = take (e - a) (drop a s)

-- whether s begins with a call: all of it is there, and its code is one of the codes
unfoldable pub is_call : Bytes → Bool
is_call s = leb head_size (length s) && leb (call_size s) (length s) && leb 1 (code_of s) && leb (code_of s) last_code

-- that call, lent an output
unfoldable pub call_in : Bytes → Bytes → Call
call_in s output =
    coded (code_of s) (number_of s) (between head_size (end_a s) s) (between (end_a s) (end_b s) s) (between (end_b s) (end_c s) s) (between (end_c s) (call_size s) s) output
