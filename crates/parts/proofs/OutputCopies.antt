-- What is copied to an output: the rest of a text, the content of a run of items; and how long that is.
-- Assumes nothing.
use Prim.Native.Nat.{ℕ, suc, ◌+◌, ◌-◌, ◌^◌, ◌≤◌, ◌<◌, min}
use mathlib.Core.Path.{◌≡◌, refl, ap, sym, ◌∙◌, subst}
use mathlib.Core.Bool.{Bool, true, false}
use mathlib.Core.List.{List, [], ◌∷◌, ◌++◌, append_assoc, flat_map, append-nil}
use native.Mathlib.Omega.{arith}
use native.Mathlib.Numerals.{add-one}
use lib.Dec.{leb}
use lib.ListN.{length, get_or, take, drop, length-take, length-drop, length-append, drop_of_length-le}
use lib.Seq.{take_all, take-nil, drop-nil, drop-cons}
use borrow.Author.Tests.{leb-true, leb-false}
use Rattle.output.specs.Sends.{Sent}
use Rattle.output.proofs.Sending.{sent_none, sent_more}
use Rattle.model.specs.Package.{no_item, Item, State, content}
use Rattle.model.proofs.Contents.{read_piece}
use Rattle.base.specs.Buffer.{splice}
use Rattle.store.specs.Layout.{count_of}
use Rattle.store.specs.Rows.{row_at, field_of}
use Rattle.store.specs.Packages.{Sound}
use Rattle.contract.specs.Holds.{Holds}
use Rattle.contract.proofs.ItemRows.{items_le, item_bytes}
use Rattle.parts.specs.Runs.{run}
use Rattle.parts.specs.Copies.{taken, Copying, Copied, Measuring, Measured}

-- THE REST OF A TEXT, as much as fits
take_fitting : (r : ℕ) (d : List ℕ) → take (min (length d) r) d ≡ take r d
take_fitting r d = go (leb (length d) r) refl
  where
    go : (t : Bool) → leb (length d) r ≡ t → take (min (length d) r) d ≡ take r d
    go true e = let l = leb-true (length d) r e in take_all (min (length d) r) d (omega arith) ∙ sym (take_all r d l)
    go false e = let l = leb-false (length d) r e in ap (λ (n : ℕ). take n d) (let z : min (length d) r ≡ r = omega arith in z)

module _ (out s : List ℕ) (at skip : ℕ) where
  pub rest_none : length s ≤ skip → Sent out at (take (length out - at) (drop skip s)) at out
  rest_none l = subst (λ (x : List ℕ). Sent out at x at out) (sym (ap (take (length out - at)) (drop_of_length-le s l) ∙ take-nil (length out - at))) (sent_none out at)

  pub rest_some : (k : ℕ) → k ≡ min (length s - skip) (length out - at) → (out' : List ℕ) → out' ≡ splice out at (take (skip + k - skip) (drop skip s)) →
      Sent out at (take (length out - at) (drop skip s)) (at + k) out'
  rest_some k ek out' e =
      let m : skip + k - skip ≡ min (length (drop skip s)) (length out - at) = omega (arith, length-drop skip s) in
      let x : take (skip + k - skip) (drop skip s) ≡ take (length out - at) (drop skip s) = ap (λ (n : ℕ). take n (drop skip s)) m ∙ take_fitting (length out - at) (drop skip s) in
      record {
        next_is = omega (arith, length-take (length out - at) (drop skip s), length-drop skip s);
        fits = λ _. e ∙ ap (λ (y : List ℕ). splice out at y) x;
      }

-- THE CONTENT OF A RUN
pub run_cons : (xs : List Item) (i t : ℕ) → i < t → t ≤ length xs → run i t xs ≡ get_or xs i no_item ∷ run (i + 1) t xs
run_cons xs i t l h =
    let k : t - i ≡ suc (t - suc i) = omega arith in
    rw (k, drop-cons xs i no_item (omega arith), add-one i)

module _ (b : List ℕ) (f t offset : ℕ) (out : List ℕ) where
  pub copying_begin : Copying b f t offset out f 0 offset out
  copying_begin = record {
    text = [];
    sent = sent_none out 0;
    fits = omega arith;
    is = λ S h l. ap (taken S f t offset) (let z : length out ≡ length out - 0 = omega arith in z);
  }

  module _ (i at skip : ℕ) (out' : List ℕ) (w : Copying b f t offset out i at skip out') (same : length out' ≡ length out) where
    -- one row more
    pub copying_more : i < t → (piece : List ℕ) → (Sound b → i < count_of b → piece ≡ field_of (row_at b i) 2) → (next : ℕ) (out'' : List ℕ) →
        Sent out' at (take (length out' - at) (drop skip piece)) next out'' → (left : ℕ) → left ≡ skip - length piece → Copying b f t offset out (i + 1) next left out''
    unfolding content flat_map
    copying_more l piece ep next out'' s left el =
        let x = take (length out' - at) (drop skip piece) in
        let lx : length x ≡ min (length out' - at) (length (drop skip piece)) = length-take (length out' - at) (drop skip piece) in
        record {
          text = w.text ++ x;
          sent = sent_more out out' out'' w.text x 0 at next w.sent same s;
          fits = omega (arith, s.next_is, w.fits);
          is = λ S h m. w.is S h m ∙ ap (λ (y : List ℕ). w.text ++ y) (piece_read S h m) ∙ sym (append_assoc w.text x (taken S (i + 1) t left (length out - next)));
        }
      where
        piece_read : (S : State) (h : Holds b S) → t ≤ length S.items →
            taken S i t skip (length out - at) ≡ take (length out' - at) (drop skip piece) ++ taken S (i + 1) t left (length out - next)
        piece_read S h m =
            let p : piece ≡ (get_or S.items i no_item).bytes = ep h.lies.sound (omega (arith, items_le b S h)) ∙ item_bytes b S h i (omega arith) in
            let r : length out - at - length (drop skip piece) ≡ length out - next = omega (arith, s.next_is, length-take (length out' - at) (drop skip piece)) in
            rw (run_cons S.items i t l m, ← p, same, el, ← r) (read_piece (length out - at) skip piece (content (run (i + 1) t S.items)))

    -- all of them, or the output is full
    all_copied : ((S : State) → taken S i t skip (length out - at) ≡ []) → Copied b f t offset out at out'
    all_copied e = record {
      is = λ S h l. subst (λ (y : List ℕ). Sent out 0 y at out') (sym (w.is S h l ∙ ap (λ (y : List ℕ). w.text ++ y) (e S) ∙ append-nil w.text)) w.sent;
    }

    pub copied_full : length out' ≤ at → Copied b f t offset out at out'
    copied_full l = all_copied (λ S. let z : length out - at ≡ 0 = omega arith in rw z)

    pub copied_end : t ≤ i → Copied b f t offset out at out'
    unfolding content flat_map
    copied_end l = all_copied (λ S. let z : t - i ≡ 0 = omega arith in rw (z, drop-nil skip, take-nil (length out - at)))

-- HOW LONG IT IS
module _ (b : List ℕ) (f t : ℕ) where
  pub measuring_begin : Measuring b f t f 0
  measuring_begin = record { few = omega arith; is = λ S h l. omega arith }

  module _ (i n : ℕ) (w : Measuring b f t i n) where
    pub measuring_more : i < t → (piece : List ℕ) → length piece < 2 ^ 32 → (Sound b → i < count_of b → piece ≡ field_of (row_at b i) 2) → Measuring b f t (i + 1) (n + length piece)
    unfolding content flat_map
    measuring_more l piece k ep = record {
      few = omega (arith, w.few);
      is = λ S h m.
          let p : piece ≡ (get_or S.items i no_item).bytes = ep h.lies.sound (omega (arith, items_le b S h)) ∙ item_bytes b S h i (omega arith) in
          let e : length (content (run i t S.items)) ≡ length piece + length (content (run (i + 1) t S.items)) =
          rw (run_cons S.items i t l m, ← p) (length-append piece (content (run (i + 1) t S.items))) in
          omega (arith, w.is S h m);
    }

    pub measured_end : t ≤ i → Measured b f t n
    unfolding content flat_map
    measured_end l = record {
      is = λ S h m.
          let z : t - i ≡ 0 = omega arith in
          let e : length (content (run i t S.items)) ≡ 0 = rw z in
          omega (arith, w.is S h m);
    }
