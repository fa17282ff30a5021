-- The replies that hand answers to C and Rust, and what the exported functions promise.
-- Assumes nothing.
use Rattle.std.specs.Prelude.{ℕ, ◌≡◌, Bool, true, false, List, [], ◌∷◌, length, get_or}
use Rattle.output.specs.Answers.{Answer, answer, refusing}
use Rattle.model.specs.Calls.{Find, View, Totals, Call, Start, Looks, Changes, CutPart, TypeOrigin, Prints, value_count}
use Rattle.contract.specs.Ran.{Ran}
use Rattle.items.specs.Spans.{Viewed}
use Rattle.entries.specs.Promise.{EntryRan}
use Rattle.std.specs.declared.cmp.Ordering.{Ordering}
use Rattle.std.specs.declared.cmp.Ordering.TheVariants.{Less, Equal, Greater}
use Rattle.names.specs.declared.items.Suffix.TheVariants.{Whole, Piece}
use Rattle.names.specs.declared.items.ItemName.{ItemName}
use Rattle.names.specs.declared.items.ItemName.TheVariants.{Named, Refused}
use Rattle.abi.specs.declared.replies.Reply.{Reply}

-- THE REPLY that hands over an answer: its number, how many values it has, the values, and 0 for each that it has not. The bytes of its
-- output lie in the lent one
abbrev pub reply_of : Answer → Reply
reply_of a = record { number = a.number; count = length a.values; first = get_or a.values 0 0; second = get_or a.values 1 0; third = get_or a.values 2 0 }

-- the reply r, and an output that then holds the bytes out, hand over the answer a, which has n values
pub record HandsOver (a : Answer) (n : ℕ) (r : Reply) (out : List ℕ) : Type 0 where
  pub reply : r ≡ reply_of a
  pub output : a.output ≡ out
  pub values : length a.values ≡ n

-- how many values a call answers, on all bytes
abbrev pub values_of : Call → ℕ
values_of (Start C) = 1
values_of (Looks (Find name)) = 1
values_of (Looks (View name)) = 0
values_of (Looks Totals) = 3
values_of (Changes c) = 1
values_of (CutPart name n) = 2
values_of (TypeOrigin name output) = 2
values_of (Prints w output) = value_count w

-- THE PROMISE of an exported call on a package. It ran on the bytes p and left the bytes q; its reply r and its output, which then holds the
-- bytes out, hand over an answer for which the call's promise holds
pub record Replied (call : Call) (p : List ℕ) (r : Reply) (out q : List ℕ) : Type 0 where
  pub answered : Answer
  pub ran : Ran call p answered q
  pub handed : HandsOver answered (values_of call) r out

-- the promise of the exported call that copies an entry's field into an output, which held the bytes output: it looked at the bytes p, and its
-- reply r and the output hand over an answer for which that call's promise holds
pub record EntryReplied (set position field : ℕ) (output p : List ℕ) (r : Reply) (out : List ℕ) : Type 0 where
  pub answered : Answer
  pub ran : EntryRan set position field output p answered
  pub handed : HandsOver answered 2 r out

-- a view's reply: two values, where the viewed part of the package b begins, and its length
pub record ViewReply (name b : List ℕ) (r : Reply) : Type 0 where
  pub reply : r ≡ reply_of (answer 0 (r.first ∷ r.second ∷ []) [])
  pub viewed : Viewed name b r.first r.second

abbrev pub order_number : Ordering → ℕ
order_number Less = 0
order_number Equal = 1
order_number Greater = 2

-- a piece: 2 if it is marked as the last, else 1
abbrev pub kind : Bool → ℕ
kind true = 2
kind false = 1

-- an item name taken apart: the prefix's length, 0 for a whole item or the piece's kind, the piece's number; or the refusal's number "and 0 for every value"
abbrev pub item_answer : ItemName → Answer
item_answer (Named n Whole) = answer 0 (n ∷ 0 ∷ 0 ∷ []) []
item_answer (Named n (Piece k last)) = answer 0 (n ∷ kind last ∷ k ∷ []) []
item_answer (Refused r) = refusing 3 r []
