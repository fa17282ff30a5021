-- The answers of the calls on parts: one law for each way out.
-- Assumes nothing.
use Prim.Native.Nat.{ℕ, ◌≤◌, ◌<◌}
use mathlib.Core.Path.{◌≡◌, refl, sym, ◌∙◌}
use mathlib.Core.Bool.{Bool, true, false, not}
use mathlib.Core.List.{List, [], ◌∷◌}
use native.Mathlib.Nat.{zero-add}
use native.Mathlib.Omega.{arith}
use lib.Dec.{ltb}
use lib.ListN.{length, length-take}
use borrow.Author.Tests.{ltb-true, ltb-false, not-true, not-false, le-leb, lt-leb}
use Rattle.output.specs.Answers.{Answer, answer, written, Text}
use Rattle.output.proofs.Sending.{sent_start}
use Rattle.output.proofs.Answering.{answer_bytes}
use Rattle.names.specs.Names.{part_name}
use Rattle.model.specs.Fields.{first}
use Rattle.model.specs.Package.{State, group, is_part, parts}
use Rattle.model.specs.Calls.{Totals, ReadPart, PartAt, Looks, Prints, look, printed}
use Rattle.model.proofs.Parts.{parts_few}
use Rattle.store.specs.Layout.{used_of, count_of}
use Rattle.store.specs.Rows.{row_at, field_of}
use Rattle.store.specs.Packages.{Sound}
use Rattle.contract.specs.Holds.{Holds}
use Rattle.contract.specs.Searches.{Counted}
use Rattle.model.proofs.Numbers.{numbered, zero_numbered}
use Rattle.contract.specs.Ran.{Ran}
use Rattle.contract.specs.Opening.{Open}
use Rattle.contract.proofs.Rans.{looked, wrote}
use Rattle.contract.proofs.RowCharges.{used_charge}
use Rattle.contract.proofs.ItemRows.{items_le}
use Rattle.parts.specs.Runs.{Grouped, Judged}
use Rattle.parts.specs.Walks.{Walked}
use Rattle.parts.specs.Copies.{taken, Copied}
use Rattle.parts.proofs.GroupRuns.{part_of}
use Rattle.parts.proofs.TextAnswers.{text_refused, text_answered}

module _ (b : List ℕ) (o : Open b) where
  module _ (n : ℕ) (c : Counted b n) where
    -- "totals: how many items are held, how many groups are a part, the charge"
    pub totals_done : (i m : ℕ) → Walked b n n i m → (u : ℕ) → u ≡ used_of b → Ran (Looks Totals) b (answer 0 (n ∷ m ∷ u ∷ []) []) b
    unfolding look
    totals_done i m w u eu =
        looked b o Totals (answer 0 (n ∷ m ∷ u ∷ []) []) zero_numbered (λ _. refl) (λ S h. rw (← c.is S h, ← used_charge b S h, ← eu, ← all S h (ltb i n) refl))
      where
        all : (S : State) (h : Holds b S) (t : Bool) → ltb i n ≡ t → m ≡ length (parts S.items)
        all S h true e = absurd (omega (arith, (w.stopped S h (c.is S h) (ltb-true i n e)).0, parts_few S.items, c.is S h))
        all S h false e = (w.ended S h (c.is S h) (ltb-false i n e)).0

    module _ (k i m : ℕ) (w : Walked b n k i m) (out : List ℕ) where
      -- "13 .. no such position"
      pub position_missing : n ≤ i → Ran (Prints (PartAt k) out) b (answer 13 (0 ∷ []) out) b
      unfolding printed
      position_missing l =
          text_refused b o (PartAt k) refl out 13 (numbered 13 (omega arith) (omega arith))
          (λ S h. let e = w.ended S h (c.is S h) l in rw (le-leb (length (parts S.items)) k (omega (arith, e.0, e.1))))

      -- "part at position i, from 0, in folded order: its spelling": s, the prefix in its first row
      pub position_written : i < n → (s : List ℕ) → (Sound b → i < count_of b → s ≡ field_of (row_at b i) 0) → (a : Answer) → a ≡ written (Text s []) out → Ran (Prints (PartAt k) out) b a b
      unfolding printed
      position_written l s es a ea =
          text_answered b o (PartAt k) refl out s a ea
          (λ S h.
          let e = w.stopped S h (c.is S h) l in
          let x : s ≡ field_of (row_at b i) 0 = es h.lies.sound (omega (arith, items_le b S h, c.is S h)) in
          rw (lt-leb (length (parts S.items)) k e.0, e.1, ← x))

  -- q is the answer of the test of a part name, y whether the rows of its group are a part
  module _ (name : List ℕ) (offset : ℕ) (out : List ℕ) (q : Bool) (eq : q ≡ part_name name) where
    -- "4 not a part name"
    pub read_misnamed : not q ≡ true → Ran (Prints (ReadPart name offset) out) b (answer 4 (0 ∷ []) out) b
    unfolding printed first
    read_misnamed hq = text_refused b o (ReadPart name offset) refl out 4 (numbered 4 (omega arith) (omega arith)) (λ S h. rw (← eq, not-true q hq))

    module _ (hq : not q ≡ false) (f t : ℕ) (g : Grouped b name f t) (y : Bool) (j : Judged b f t y) where
      part : (S : State) → Holds b S → is_part (group name S.items) ≡ y
      part S h = sym ((part_of b name f t g y j).is S h)

      -- "13 not held, no part yet"
      pub read_missing : not y ≡ true → Ran (Prints (ReadPart name offset) out) b (answer 13 (0 ∷ []) out) b
      unfolding printed first
      read_missing hy = text_refused b o (ReadPart name offset) refl out 13 (numbered 13 (omega arith) (omega arith)) (λ S h. rw (← eq, not-false q hq, part S h, not-true y hy))

      -- "read part(name, offset): the content from there, as much as the output takes"
      pub read_done : not y ≡ false → (n : ℕ) (out' : List ℕ) → Copied b f t offset out n out' → Ran (Prints (ReadPart name offset) out) b (answer 0 (n ∷ []) out') b
      unfolding printed first
      read_done hy n out' x =
          wrote b o (ReadPart name offset) out (answer 0 (n ∷ []) out') zero_numbered (λ r. absurd (r refl))
          (λ S h.
          let s = x.is S h (g.inside S h) in
          let T = taken S f t offset (length out) in
          let l : length T ≤ length out = rw length-take (omega arith) in
          let m : n ≡ length T = s.next_is ∙ zero-add (length T) in
          rw (← eq, not-false q hq, part S h, not-false y hy, g.is S h) (answer_bytes 1 (Text T []) T [] out out' n refl m (omega arith) (sent_start out out' T n s l)))
