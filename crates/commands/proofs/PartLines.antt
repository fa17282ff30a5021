-- The line of a part, by the rows of its group.
-- Assumes nothing.
use Prim.Native.Nat.{ℕ, ◌+◌, ◌-◌, ◌≤◌, ◌<◌, min}
use mathlib.Core.Path.{◌≡◌, ap, sym, ◌∙◌}
use mathlib.Core.Bool.{Bool, true, false, not, cond}
use mathlib.Core.List.{[], ◌++◌}
use mathlib.Core.Option.{Option, some}
use native.Mathlib.Omega.{arith}
use lib.ListN.{length, take, drop, length-drop}
use lib.Seq.{length-take-le}
use borrow.Author.Tests.{not-true, not-false}
use Rattle.output.specs.Sends.{Sent}
use Rattle.output.proofs.Sending.{sent_none, sent_as, sent_rest}
use Rattle.model.specs.Sets.{Bytes}
use Rattle.model.specs.Package.{no_item, State, content, spelling, media_type_of}
use Rattle.model.specs.Sheet.{part_line}
use Rattle.model.proofs.FieldSizes.{prefix_few, type_size}
use Rattle.store.specs.Layout.{count_of}
use Rattle.store.specs.Rows.{row_at, field_of}
use Rattle.store.specs.Packages.{Sound}
use Rattle.contract.specs.Holds.{Holds}
use Rattle.contract.proofs.ItemRows.{items_le, item_prefix}
use Rattle.parts.specs.Runs.{run, Judged}
use Rattle.parts.specs.Copies.{Measured}
use Rattle.parts.proofs.OutputCopies.{run_cons}
use Rattle.types.specs.TypeRows.{Typed}
use Rattle.types.proofs.TypeLookups.{typed_found, typed_missing}
use Rattle.lines.specs.Printing.{type_given, part_text}
use Rattle.lines.proofs.Sends.{part_line_lem, type_given_lem, type_length, part_text_length}
use Rattle.commands.specs.Listings.{ShortField, TypeText, PartSent, GroupSent}

-- A FIELD of at most so many bytes
module _ (b : Bytes) (i j most : ℕ) (s : Bytes) (es : Sound b → i < count_of b → s ≡ field_of (row_at b i) j) where
  pub field_short : length s ≤ most → ShortField b i j most s
  field_short l = record { few = l; is = λ o k _. es o k }

  pub field_long : most < length s → ShortField b i j most []
  field_long l = record { few = omega arith; is = λ o k m. absurd (let e : length s ≡ length (field_of (row_at b i) j) = ap length (es o k) in omega arith) }

-- THE TYPE of a name, out of the row that gives it
module _ (b name : Bytes) (r : ℕ) (t : Typed b name r) (m : ℕ) (em : m ≡ count_of b) where
  pub type_found : r < m → (s : Bytes) → ShortField b r 1 127 s → TypeText b name s
  type_found l s f = record {
    few = f.few;
    is = λ S h.
        let e = typed_found b name r t S h (omega arith) in
        let z = type_size S h.good name (field_of (row_at b r) 1) e in
        let k : s ≡ field_of (row_at b r) 1 = f.is h.lies.sound (omega arith) z.1 in
        let n : length s ≡ length (field_of (row_at b r) 1) = ap length k in
        type_given_lem s (λ y. omega (arith, z.0)) ∙ ap some k ∙ sym e;
  }

  pub type_missing : m ≤ r → TypeText b name []
  type_missing l = record { few = omega arith; is = λ S h. sym (typed_missing b name r t S h (omega arith)) }

-- THE LINE
same_text : (p q k l : ℕ) (s t : Bytes) (o u : Option Bytes) → p ≡ q → k ≡ l → s ≡ t → o ≡ u → part_text p k s o ≡ part_text q l t u
same_text p q k l s t o u e f g h = rw (e, f, g, h)

module _ (b : Bytes) (f t : ℕ) (l : f < t) where
  -- a run is spelled as its first row says
  run_spelled : (S : State) → Holds b S → t ≤ length S.items → spelling (run f t S.items) ≡ field_of (row_at b f) 0
  unfolding spelling
  run_spelled S h m = ap spelling (run_cons S.items f t l m) ∙ sym (item_prefix b S h f (omega arith))

  module _ (name : Bytes) (en : ShortField b f 0 255 name) (kind : Bytes) (ek : TypeText b name kind) (k : ℕ) (em : Measured b f t k) where
    part_text_lem : (S : State) → Holds b S → t ≤ length S.items → part_line S (run f t S.items) ≡ part_text (t - f) k name (type_given kind)
    part_text_lem S h m =
        let g = run f t S.items in
        let p = item_prefix b S h f (omega arith) in
        let i : length (field_of (row_at b f) 0) ≤ 255 = rw p (prefix_few S h.good f no_item (omega arith)) in
        let s : spelling g ≡ name = run_spelled S h m ∙ sym (en.is h.lies.sound (omega (arith, items_le b S h)) i) in
        part_line_lem S g
        ∙ same_text (length g) (t - f) (length (content g)) k (spelling g) name (media_type_of (spelling g) S) (type_given kind)
        (length-take-le (t - f) (drop f S.items) (rw length-drop (omega arith))) (sym (em.is S h m)) s (ap (λ (x : Bytes). media_type_of x S) s ∙ sym (ek.is S h))

    pub part_sent : (out : Bytes) (n : ℕ) (out' : Bytes) → Sent out 0 (part_text (t - f) k name (type_given kind)) n out' → PartSent b f t out n out'
    part_sent out n out' s = record {
      few = omega (arith, s.next_is, part_text_length (t - f) k name (type_given kind) en.few (type_length kind ek.few));
      is = λ S h m. sent_as out out' (part_text (t - f) k name (type_given kind)) (part_line S (run f t S.items)) 0 n (part_text_lem S h m) s;
    }

-- THE LINE OF A GROUP; z tells whether it is a part
module _ (b : Bytes) (f t : ℕ) (z : Bool) (j : Judged b f t z) (out : Bytes) (at : ℕ) where
  pub group_none : not z ≡ true → GroupSent b f t out at at out
  group_none q = record {
    part = z;
    judged = j;
    few = omega arith;
    is = λ S h m. sent_as out out [] (cond z (part_line S (run f t S.items)) []) at at (rw (not-true z q)) (sent_none out at);
  }

  pub group_sent : not z ≡ false → (k : ℕ) → k ≡ min at (length out) → (n : ℕ) (ys : Bytes) → PartSent b f t (take (length out - k) (drop k out)) n ys
      → GroupSent b f t out at (at + n) (take k out ++ (ys ++ drop (length out - k) (drop k out)))
  group_sent q k ek n ys s = record {
    part = z;
    judged = j;
    few = omega (arith, s.few);
    is = λ S h m.
        let l = part_line S (run f t S.items) in
        sent_as out (take k out ++ (ys ++ drop (length out - k) (drop k out))) l (cond z l []) at (at + n) (rw (not-false z q)) (sent_rest out l ys at k n ek (s.is S h m));
  }
